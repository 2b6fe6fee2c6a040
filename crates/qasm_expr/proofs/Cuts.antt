-- The tokens of a text: few, within it, and of names and bit strings that are not large.
use Rattle.std.proofs.Common.{◌≡◌, ℕ, suc, ◌≤◌, Bool, true, false, ◌&&◌, cond, List, [], ◌∷◌, ◌++◌, length, Option, Some, None, Ok, refl, sym, ap, ◌∙◌, arith}
use Rattle.std.specs.Prelude.{◌==◌, IsTrue}
use Rattle.std.proofs.lemmas.Bool.{eqb-true, false≢true}
use Rattle.std.proofs.lemmas.Option.{same_Some}
use Rattle.qasm_lexer.specs.declared.token.Token.{Token}
use Rattle.qasm_lexer.specs.Characters.{is_digit_in}
use Rattle.qasm_lexer.specs.Spelling.{IsBitString, goes_on, is_numeral, digits_of_numeral}
use Rattle.qasm_lexer.specs.Tokens.{Tokens}
use Rattle.qasm_lexer.proofs.Numerals.{goes_digit}
use Rattle.qasm_lexer.proofs.Sizes.{tokens_bounded}
use Rattle.qasm_lexer.specs.Sizes.{bytes_of}
use Rattle.qasm_expr.specs.TokenKinds.{with_bit, bits_from, bits_of}
use Rattle.qasm_expr.specs.Seen.{Cut}

-- how the bits go on at a character: by a digit, by a `_`, or by the quote that ends them
data Next (digit : Bool) (c : ℕ) (cs : List ℕ) (bits : List Bool) : Type 0 where
  Digit : IsTrue (is_digit_in 2 c) → (rest : List Bool) → bits_from false cs ≡ Some rest → length bits ≡ suc (length rest) → Next digit c cs bits
  Line : digit ≡ false → c ≡ 95 → bits_from true cs ≡ Some bits → Next digit c cs bits
  Quote : digit ≡ false → c ≡ 34 → cs ≡ [] → bits ≡ [] → Next digit c cs bits

a_digit : (digit b : Bool) (c : ℕ) (cs : List ℕ) (bits : List Bool) → IsTrue (is_digit_in 2 c) → (o : Option (List Bool)) → bits_from false cs ≡ o → with_bit b o ≡ Some bits → Next digit c cs bits
a_digit digit b c cs bits h None e w = absurd (cc)
a_digit digit b c cs bits h (Some rest) e w = Digit h rest e (sym (ap length (same_Some (b ∷ rest) bits w)))

at_quote : (c : ℕ) (cs : List ℕ) (bits : List Bool) → (c == 48) ≡ false → (c == 49) ≡ false → (c == 95) ≡ false → (q : Bool) → (c == 34) ≡ q → bits_from false (c ∷ cs) ≡ Some bits → Next false c cs bits
at_quote c [] bits z o l true h e = let ended : Some [] ≡ Some bits = rw (z, o, l, h) at e in Quote refl (eqb-true c 34 h) refl (sym (same_Some [] bits ended))
at_quote c (d ∷ cs) bits z o l true h e = let none : None ≡ Some bits = rw (z, o, l, h) at e in absurd (cc)
at_quote c cs bits z o l false h e = let none : None ≡ Some bits = rw (z, o, l, h) at e in absurd (cc)

next_of : (digit : Bool) (c : ℕ) (cs : List ℕ) (bits : List Bool) → (z : Bool) → (c == 48) ≡ z → (o : Bool) → (c == 49) ≡ o → (l : Bool) → (c == 95) ≡ l → bits_from digit (c ∷ cs) ≡ Some bits → Next digit c cs bits
next_of digit c cs bits true z o ho l hl e = a_digit digit false c cs bits (ap (is_digit_in 2) (eqb-true c 48 z)) (bits_from false cs) refl (rw z at e)
next_of digit c cs bits false z true ho l hl e = a_digit digit true c cs bits (ap (is_digit_in 2) (eqb-true c 49 ho)) (bits_from false cs) refl (rw (z, ho) at e)
next_of true c cs bits false z false ho l hl e = let none : None ≡ Some bits = rw (z, ho) at e in absurd (cc)
next_of false c cs bits false z false ho true hl e = Line refl (eqb-true c 95 hl) (rw (z, ho, hl) at e)
next_of false c cs bits false z false ho false hl e = at_quote c cs bits z ho hl (c == 34) refl e

-- a numeral, or what may stand behind a digit of one
abbrev may_stand : Bool → List ℕ → Bool
may_stand true cs = is_numeral 2 cs
may_stand false cs = goes_on 2 cs

-- the characters in front of the quote that ends the bits
record Body (digit : Bool) (cs : List ℕ) (bits : List Bool) : Type 0 where
  body : List ℕ
  split : cs ≡ body ++ 34 ∷ []
  stands : IsTrue (may_stand digit body)
  count : length (digits_of_numeral 2 body) ≡ length bits

digit_more : (digit : Bool) (c : ℕ) (body : List ℕ) → IsTrue (is_digit_in 2 c) → IsTrue (goes_on 2 body) → IsTrue (may_stand digit (c ∷ body))
digit_more true c body h g = ap (λ b. b && goes_on 2 body) h ∙ g
digit_more false c [] h g = h
digit_more false c (d ∷ body) h g = goes_digit 2 c d body h ∙ g

line_more : (body : List ℕ) → IsTrue (is_numeral 2 body) → IsTrue (goes_on 2 (95 ∷ body))
line_more [] g = absurd (false≢true g)
line_more (d ∷ body) g = g

digit_counted : (c : ℕ) (body : List ℕ) → IsTrue (is_digit_in 2 c) → length (digits_of_numeral 2 (c ∷ body)) ≡ suc (length (digits_of_numeral 2 body))
digit_counted c body h = ap (λ b. length (cond b (c ∷ digits_of_numeral 2 body) (digits_of_numeral 2 body))) h

one_more : (digit : Bool) (c : ℕ) (cs : List ℕ) (bits : List Bool) → ((next : Bool) (rest : List Bool) → bits_from next cs ≡ Some rest → Body next cs rest) → Next digit c cs bits → Body digit (c ∷ cs) bits
one_more digit c cs bits later (Digit h rest e count) =
    let behind = later false rest e in
    record {
      body = c ∷ behind.body;
      split = ap (λ x. c ∷ x) behind.split;
      stands = digit_more digit c behind.body h behind.stands;
      count = digit_counted c behind.body h ∙ ap suc behind.count ∙ sym count;
    }
one_more true c cs bits later (Line d h e) = absurd (false≢true (sym d))
one_more false c cs bits later (Line d h e) =
    let behind = later true bits e in
    record {
      body = 95 ∷ behind.body;
      split = ap (λ x. x ∷ cs) h ∙ ap (λ x. 95 ∷ x) behind.split;
      stands = line_more behind.body behind.stands;
      count = behind.count;
    }
one_more true c cs bits later (Quote d h none empty) = absurd (false≢true (sym d))
one_more false c cs bits later (Quote d h none empty) = record {
  body = [];
  split = ap (λ x. x ∷ cs) h ∙ ap (λ x. 34 ∷ x) none;
  stands = refl;
  count = sym (ap length empty);
}

body_of : (digit : Bool) (cs : List ℕ) (bits : List Bool) → bits_from digit cs ≡ Some bits → Body digit cs bits
body_of digit [] bits e = absurd (cc)
body_of digit (c ∷ cs) bits e = one_more digit c cs bits (λ next rest h. body_of next cs rest h) (next_of digit c cs bits (c == 48) refl (c == 49) refl (c == 95) refl e)

-- what has bits is a bit string with as many digits
bits_spelled : (cs : List ℕ) (bits : List Bool) → bits_of cs ≡ Some bits → (body : List ℕ) × IsBitString cs body × (length (digits_of_numeral 2 body) ≡ length bits)
bits_spelled [] bits e = absurd (cc)
bits_spelled (c ∷ cs) bits e = behind_quote (c == 34) refl
  where
    behind_quote : (q : Bool) → (c == 34) ≡ q → (body : List ℕ) × IsBitString (c ∷ cs) body × (length (digits_of_numeral 2 body) ≡ length bits)
    behind_quote true h =
        let inside = body_of true cs bits (rw h at e) in
        (inside.body, record { split = ap (λ x. x ∷ cs) (eqb-true c 34 h) ∙ ap (λ x. 34 ∷ x) inside.split; bits = inside.stands }, inside.count)
    behind_quote false h = let none : None ≡ Some bits = rw h at e in absurd (cc)

-- the tokens of a text that is not too long are cut as the parser asks
pub cut_of : (text : List ℕ) (tokens : List Token) → length text ≤ 4194304 → Tokens text (Ok tokens) → Cut text tokens
cut_of text tokens few found =
    let bounded = tokens_bounded text tokens found in
    record {
      few = omega (arith, bounded.few, few);
      spans = λ n x e. let span = bounded.spans n x e in (omega (arith, span.0), span.1);
      name_sizes = bounded.names;
      bits_sizes = λ n x bits e h. let spelt = bits_spelled (bytes_of text x) bits h in omega (arith, bounded.bit_strings n x spelt.0 e spelt.1, spelt.2);
    }
