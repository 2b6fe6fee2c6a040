-- What stands behind a token in a canonical text, and the tokens of words, registers, blocks, labels and numbers
-- in front of it.
use Rattle.std.proofs.Common.{◌≡◌, ℕ, zero, suc, ◌+◌, ◌<◌, ◌^◌, ◌==◌, ◌||◌, not, Bool, true, false, cond, List, [], ◌∷◌, ◌++◌, length, take, drop, Some, sym, refl, ap, ◌∙◌, subst, arith}
use Rattle.std.specs.Prelude.{filter, codes, ℤ, pos, negsuc, neg_ℤ, FitsSigned}
use Rattle.std.specs.Int.{w64}
use Rattle.std.specs.List.{list_all}
use Rattle.std.specs.Char.{is_ascii_digit}
use Rattle.std.specs.Fmt.{decimal, signed_decimal}
use Rattle.std.proofs.lemmas.Bool.{and_parts}
use Rattle.std.proofs.lemmas.Bool.Decides.{nat_tests}
use Rattle.std.proofs.lemmas.Int.{ints}
use Rattle.std.proofs.lemmas.List.{append_assoc, take_at, drop_at, length-append}
use Rattle.qir_module.specs.Tokens.{TokenKind, is_blank, begins_word, is_mark, is_misformed, is_misnumbered, is_minus_zero, is_word, leads_with_zero}
use Rattle.qir_module.specs.Tokens as t
use Rattle.qir_module.specs.Lexer.{Found, Fails, Lead, Digit, Blank, Semicolon, Letter, Minus, Percent, At, Hash, Bang, Quote, OtherMark, Nothing, lead_of, run, heads, or_else, found, name_step, step_of, step_by, plus, minus, value_of, block_behind, block_step}
use Rattle.qir_text_tokens.proofs.Passages.{Tokenizes, one_token}
use Rattle.qir_text_tokens.proofs.Numerals.{IsDecimal, decimal_is, AreDigits, digits_step, filter_all, well_found, IsNumberedKind, numbered_step, run_all, below_test, well_numbered}

-- the characters behind a token that could go on
pub data End : Type 0 where
  AtBlank : End
  AtComma : End
  AtLine : End
  AtParen : End
  AtBrace : End

abbrev pub end_char : End → ℕ
end_char AtBlank = 32
end_char AtComma = 44
end_char AtLine = 10
end_char AtParen = 41
end_char AtBrace = 125

pub no_digit : (e : End) → is_ascii_digit (end_char e) ≡ false
no_digit AtBlank = refl
no_digit AtComma = refl
no_digit AtLine = refl
no_digit AtParen = refl
no_digit AtBrace = refl

-- ---- registers, blocks and labels

register_kind : IsNumberedKind t.Register
register_kind = record { form = λ cs n. refl }

target_kind : IsNumberedKind t.Target
target_kind = record { form = λ cs n. refl }

constant_kind : IsNumberedKind t.Constant
constant_kind = record { form = λ cs n. refl }

pub register_read : (n : ℕ) (e : End) (behind : List ℕ) → n < 2 ^ 32 → Tokenizes (codes "%r" ++ decimal n ++ end_char e ∷ behind) (t.Register n ∷ []) (end_char e ∷ behind)
register_read n e behind small =
    one_token 37 (114 ∷ decimal n) (114 ∷ (decimal n ++ end_char e ∷ behind)) (end_char e ∷ behind) (t.Register n) (length (codes "%r" ++ decimal n)) refl
    (ap (λ o. or_else o (Fails 2)) (numbered_step t.Register register_kind (codes "%r") (λ ds. refl) n small (end_char e ∷ behind) (no_digit e))) refl

pub target_read : (n : ℕ) (e : End) (behind : List ℕ) → n < 2 ^ 32 → Tokenizes (codes "%b" ++ decimal n ++ end_char e ∷ behind) (t.Target n ∷ []) (end_char e ∷ behind)
target_read n e behind small =
    one_token 37 (98 ∷ decimal n) (98 ∷ (decimal n ++ end_char e ∷ behind)) (end_char e ∷ behind) (t.Target n) (length (codes "%b" ++ decimal n)) refl
    (ap (λ o. or_else o (Fails 2)) (numbered_step t.Target target_kind (codes "%b") (λ ds. refl) n small (end_char e ∷ behind) (no_digit e))) refl

pub constant_read : (n : ℕ) (e : End) (behind : List ℕ) → n < 2 ^ 32 → Tokenizes (codes "@" ++ decimal n ++ end_char e ∷ behind) (t.Constant n ∷ []) (end_char e ∷ behind)
constant_read n e behind small =
    one_token 64 (decimal n) (decimal n ++ end_char e ∷ behind) (end_char e ∷ behind) (t.Constant n) (length (codes "@" ++ decimal n)) refl
    (ap (λ o. or_else o (or_else (name_step t.Named 1 (64 ∷ (decimal n ++ end_char e ∷ behind))) (Fails 2))) (numbered_step t.Constant constant_kind (codes "@") (λ ds. refl) n small (end_char e ∷ behind) (no_digit e))) refl

one_more : (m : ℕ) → 1 + m ≡ suc m
one_more m = omega arith

filter_end : (ds : List ℕ) → AreDigits ds → filter is_ascii_digit (ds ++ 58 ∷ []) ≡ ds
filter_end [] e = refl
filter_end (c ∷ cs) e =
    let parts = and_parts (is_ascii_digit c) (list_all is_ascii_digit cs) e in
    ap (λ b. cond b (c ∷ filter is_ascii_digit (cs ++ 58 ∷ [])) (filter is_ascii_digit (cs ++ 58 ∷ []))) parts.0 ∙ ap (λ (x : List ℕ). c ∷ x) (filter_end cs parts.1)

-- the name in front of a block
pub block_read : (n : ℕ) (behind : List ℕ) → n < 2 ^ 32 → Tokenizes (98 ∷ (decimal n ++ 58 ∷ behind)) (t.Block n ∷ []) behind
block_read n behind small =
    let d = decimal_is n (omega arith) in
    let ds : List ℕ = d.0 ∷ d.1 in
    let is : IsDecimal n d.0 d.1 = d.2 in
    let text : List ℕ = 98 ∷ (ds ++ 58 ∷ behind) in
    let count : run is_ascii_digit (ds ++ 58 ∷ behind) ≡ suc (length d.1) = run_all is_ascii_digit ds (58 ∷ behind) is.digits refl in
    let spelling : List ℕ = 98 ∷ (ds ++ 58 ∷ []) in
    let colon : drop (1 + suc (length d.1)) text ≡ 58 ∷ behind = rw (one_more (suc (length d.1))) (drop_at ds (58 ∷ behind) (suc (length d.1)) refl) in
    let digits : take (suc (length d.1)) (drop 1 text) ≡ ds = take_at ds (58 ∷ behind) (suc (length d.1)) refl in
    let whole : take (suc (length d.1) + 2) text ≡ spelling =
    ap (take (suc (length d.1) + 2)) (ap (λ (x : List ℕ). 98 ∷ x) (sym (append_assoc ds (58 ∷ []) behind))) ∙ take_at spelling behind (suc (length d.1) + 2) (omega (arith, length-append ds (58 ∷ []))) in
    let kept : filter is_ascii_digit spelling ≡ ds = filter_end ds is.digits in
    let step : block_step text ≡ Some (Found (t.Block n) (length spelling)) =
    ap (λ (m : ℕ). block_behind text m (heads (λ c. c == 58) (drop (1 + m) text))) count
    ∙ ap (λ (x : List ℕ). block_behind text (suc (length d.1)) (heads (λ c. c == 58) x)) colon
    ∙ ap (λ (x : List ℕ). Some (found (t.Block (value_of x)) (take (suc (length d.1) + 2) text))) digits
    ∙ ap (λ (x : List ℕ). Some (found (t.Block (value_of ds)) x)) whole
    ∙ ap (λ (x : ℕ). Some (found (t.Block x) spelling)) is.value
    ∙ ap Some (well_found (t.Block n) spelling (well_numbered spelling ds n kept is.plain small)) in
    subst (λ (x : List ℕ). Tokenizes (98 ∷ (x ++ 58 ∷ behind)) (t.Block n ∷ []) behind) (sym is.is)
    (one_token 98 (ds ++ 58 ∷ []) (ds ++ 58 ∷ behind) behind (t.Block n) (length spelling) (sym (append_assoc ds (58 ∷ []) behind))
    (ap (λ o. or_else o (or_else (name_step t.Word 0 text) (Fails 2))) step) refl)

-- ---- numbers by themselves

lead_digit : (c : ℕ) → is_ascii_digit c ≡ true → lead_of c ≡ Digit
lead_digit c e =
    let blank : is_blank c ≡ false = grind (arith, nat_tests) in
    let semicolon : (c == 59) ≡ false = grind (arith, nat_tests) in
    let letter : begins_word c ≡ false = grind (arith, nat_tests) in
    let lead : Bool → Bool → Bool → Bool → Lead = λ b s l d.
    cond b Blank (cond s Semicolon (cond l Letter (cond d Digit (cond (c == 45) Minus (cond (c == 37) Percent (cond (c == 64) At (cond (c == 35) Hash (cond (c == 33) Bang (cond (c == 34) Quote (cond (is_mark c) OtherMark Nothing)))))))))) in
    ap (λ b. lead b (c == 59) (begins_word c) (is_ascii_digit c)) blank ∙ ap (λ b. lead false b (begins_word c) (is_ascii_digit c)) semicolon
    ∙ ap (λ b. lead false false b (is_ascii_digit c)) letter ∙ ap (λ b. lead false false false b) e

not_minus_zero : (c : ℕ) (cs : List ℕ) (n : ℕ) → is_ascii_digit c ≡ true → is_minus_zero (c ∷ cs) (pos n) ≡ false
not_minus_zero c cs zero e = grind (arith, nat_tests)
not_minus_zero c cs (suc n) e = refl

all_false : (a b c : Bool) → a ≡ false → b ≡ false → c ≡ true → (a || b || not c) ≡ false
all_false true b c e f g = absurd (cc)
all_false false true c e f g = absurd (cc)
all_false false false true e f g = refl
all_false false false false e f g = absurd (cc)

-- what is left to show where digits are found behind a sign or none
well_signed : (z : ℤ) (cs ds : List ℕ) → filter is_ascii_digit cs ≡ ds → leads_with_zero ds ≡ false → is_minus_zero cs z ≡ false → is_word z ≡ true → is_misformed cs (t.Number z) ≡ false
well_signed z cs ds e f g h = all_false (leads_with_zero (filter is_ascii_digit cs)) (is_minus_zero cs z) (is_word z) (ap leads_with_zero e ∙ f) g h

natural_read : (n : ℕ) (e : End) (behind : List ℕ) → n < 2 ^ 63 → Tokenizes (decimal n ++ end_char e ∷ behind) (t.Number (pos n) ∷ []) (end_char e ∷ behind)
natural_read n e behind small =
    let d = decimal_is n (omega arith) in
    let ds : List ℕ = d.0 ∷ d.1 in
    let is : IsDecimal n d.0 d.1 = d.2 in
    let text : List ℕ = ds ++ end_char e ∷ behind in
    let first : is_ascii_digit d.0 ≡ true = (and_parts (is_ascii_digit d.0) (list_all is_ascii_digit d.1) is.digits).0 in
    let right : is_misformed ds (t.Number (pos n)) ≡ false =
    well_signed (pos n) ds ds (filter_all is_ascii_digit ds is.digits) is.plain (not_minus_zero d.0 d.1 n first) (below_test n (2 ^ 63) small) in
    let step : step_of d.0 (d.1 ++ end_char e ∷ behind) ≡ Found (t.Number (pos n)) (length ds) =
    ap (λ l. step_by l d.0 text) (lead_digit d.0 first)
    ∙ ap (λ o. or_else o (Fails 2)) (digits_step plus [] d.0 d.1 (end_char e ∷ behind) is.digits (no_digit e))
    ∙ ap (λ (x : ℕ). found (t.Number (pos x)) ds) is.value
    ∙ well_found (t.Number (pos n)) ds right in
    subst (λ (x : List ℕ). Tokenizes (x ++ end_char e ∷ behind) (t.Number (pos n) ∷ []) (end_char e ∷ behind)) (sym is.is)
    (one_token d.0 d.1 (d.1 ++ end_char e ∷ behind) (end_char e ∷ behind) (t.Number (pos n)) (length ds) refl step refl)

negative_read : (n : ℕ) (e : End) (behind : List ℕ) → n < 2 ^ 63 → Tokenizes (45 ∷ (decimal (suc n) ++ end_char e ∷ behind)) (t.Number (negsuc n) ∷ []) (end_char e ∷ behind)
negative_read n e behind small =
    let d = decimal_is (suc n) (omega arith) in
    let ds : List ℕ = d.0 ∷ d.1 in
    let is : IsDecimal (suc n) d.0 d.1 = d.2 in
    let right : is_misformed (45 ∷ ds) (t.Number (negsuc n)) ≡ false =
    well_signed (negsuc n) (45 ∷ ds) ds (filter_all is_ascii_digit ds is.digits) is.plain refl (below_test n (2 ^ 63) small) in
    let step : step_of 45 (ds ++ end_char e ∷ behind) ≡ Found (t.Number (negsuc n)) (suc (length ds)) =
    ap (λ o. or_else o (Fails 2)) (digits_step minus (codes "-") d.0 d.1 (end_char e ∷ behind) is.digits (no_digit e))
    ∙ ap (λ (x : ℕ). found (t.Number (neg_ℤ (pos x))) (45 ∷ ds)) is.value
    ∙ well_found (t.Number (negsuc n)) (45 ∷ ds) right in
    subst (λ (x : List ℕ). Tokenizes (45 ∷ (x ++ end_char e ∷ behind)) (t.Number (negsuc n) ∷ []) (end_char e ∷ behind)) (sym is.is)
    (one_token 45 ds (ds ++ end_char e ∷ behind) (end_char e ∷ behind) (t.Number (negsuc n)) (suc (length ds)) refl step refl)

pub number_read : (z : ℤ) (e : End) (behind : List ℕ) → FitsSigned w64 z → Tokenizes (signed_decimal z ++ end_char e ∷ behind) (t.Number z ∷ []) (end_char e ∷ behind)
number_read (pos n) e behind fits = natural_read n e behind (omega (arith, ints))
number_read (negsuc n) e behind fits = negative_read n e behind (omega (arith, ints))
