-- The tokens of a text are fit, and the module that is read of fit tokens is shaped.
use Rattle.std.proofs.Common.{◌≡◌, ℕ, suc, ◌-◌, ◌<◌, ◌≤◌, ◌^◌, ◌&&◌, ◌||◌, Bool, true, false, not, List, [], ◌∷◌, ◌++◌, length, drop, Option, Some, None, Result, Ok, Err, refl, ap, subst, arith, length-append, length-drop}
use Rattle.std.specs.Prelude.{FitsSigned, pos, negsuc, ℤ, nat_le, nat_eq, ◌==◌, if◌then◌else◌}
use Rattle.std.specs.Int.{w64}
use Rattle.std.specs.List.{AllByRecursion}
use Rattle.std.specs.Char.{digit_value}
use Rattle.std.proofs.lemmas.Bool.{ltb-true, leb-true}
use Rattle.std.proofs.lemmas.List.{length-take-le}
use Rattle.std.proofs.lemmas.List.Elements.{All-from_recursion}
use Rattle.grammar_parts.specs.Reading.{Outcome}
use Rattle.qir_module.specs.Items.{items_of}
use Rattle.qir_module.specs.Module.{Module, IsNumber, IsFunction, IsByte, IsLabel, IsShapedBlock, IsShaped}
use Rattle.qir_module.specs.Text.{is_plain}
use Rattle.qir_module.specs.Tokens.{TokenKind, Token, Breach, Escape, Outside, Opened, HalfRead, is_hex, behind, bytes_at, may_stand, is_outside, is_body, bytes_from, bytes_meant, Spells, leads_with_zero, is_word, is_misnumbered, is_misformed, spelling_of, IsToken, IsNext, Reads}
use Rattle.qir_module.specs.Tokens as t
use Rattle.qir_module.specs.Grammar.{Signature, Heading, functions_of}
use Rattle.qir_module.specs.Spoilt.{first_wrong}
use Rattle.qir_module.specs.Reader as r
use Rattle.qir_module.specs.Reader.{ended, behind_heading, answer_behind, answer}
use Rattle.qir_reader.proofs.Fit.{IsFit, AreFit, Good, Yields, yields_then, yields_done, yields_more}
use Rattle.qir_reader.proofs.Shaped.{IsDeclared, yields_labels, yields_function, yields_signatures, yields_attributes, yields_second_attributes, yields_flags}

both_true : (a b : Bool) → (a && b) ≡ true → (a ≡ true) × (b ≡ true)
both_true true b e = (refl, e)
both_true false b e = absurd (cc)

neither : (a b : Bool) → (a || b) ≡ false → (a ≡ false) × (b ≡ false)
neither true b e = absurd (cc)
neither false b e = (refl, e)

allowed : (b : Bool) → not b ≡ false → b ≡ true
allowed true e = refl
allowed false e = absurd (cc)

-- ---- the bytes of a quoted text

-- the first digit of an escape is one
abbrev IsHalf : Escape → Type 0
IsHalf Outside = Unit {0}
IsHalf Opened = Unit {0}
IsHalf (HalfRead high) = high < 16

plain_below : (c : ℕ) → is_plain c ≡ true → c < 2 ^ 8
plain_below c e =
    let a = both_true (nat_le 32 c && nat_le c 126 && not (nat_eq c 34)) (not (nat_eq c 92)) e in
    let b = both_true (nat_le 32 c && nat_le c 126) (not (nat_eq c 34)) a.0 in
    omega (arith, leb-true c 126 (both_true (nat_le 32 c) (nat_le c 126) b.0).1)

outside_fit : (c : ℕ) (cs : List ℕ) (p b : Bool) → ((state : Escape) → IsHalf state → is_body state cs ≡ true → AllByRecursion IsByte (bytes_from state cs)) → is_plain c ≡ p → (p || b) ≡ true
    → is_body (if b then Opened else Outside) cs ≡ true → AllByRecursion IsByte ((if b then [] else c ∷ []) ++ bytes_from (if b then Opened else Outside) cs)
outside_fit c cs p true more x o body = more Opened tt body
outside_fit c cs true false more x o body = (plain_below c x, more Outside tt body)
outside_fit c cs false false more x o body = absurd (cc)

bytes_fit : (state : Escape) (cs : List ℕ) → IsHalf state → is_body state cs ≡ true → AllByRecursion IsByte (bytes_from state cs)
bytes_fit state [] half e = tt
bytes_fit Outside (c ∷ cs) half e = outside_fit c cs (is_plain c) (c == 92) (λ state half e. bytes_fit state cs half e) refl (both_true _ _ e).0 (both_true _ _ e).1
bytes_fit Opened (c ∷ cs) half e = let d : digit_value c < 16 = ltb-true (digit_value c) 16 (both_true _ _ e).0 in bytes_fit (HalfRead (digit_value c)) cs d (both_true _ _ e).1
bytes_fit (HalfRead high) (c ∷ cs) half e = let d : digit_value c < 16 = ltb-true (digit_value c) 16 (both_true _ _ e).0 in (omega (arith, d, half), bytes_fit Outside cs tt (both_true _ _ e).1)

outside_few : (c : ℕ) (cs : List ℕ) (b : Bool) → ((state : Escape) → length (bytes_from state cs) ≤ length cs) → length ((if b then [] else c ∷ []) ++ bytes_from (if b then Opened else Outside) cs) ≤ suc (length cs)
outside_few c cs true more = let m : length (bytes_from Opened cs) ≤ length cs = more Opened in omega (arith, m)
outside_few c cs false more = let m : length (bytes_from Outside cs) ≤ length cs = more Outside in omega (arith, m)

-- a byte takes a character at least
bytes_few : (state : Escape) (cs : List ℕ) → length (bytes_from state cs) ≤ length cs
bytes_few state [] = omega arith
bytes_few Outside (c ∷ cs) = outside_few c cs (c == 92) (λ state. bytes_few state cs)
bytes_few Opened (c ∷ cs) = let m : length (bytes_from (HalfRead (digit_value c)) cs) ≤ length cs = bytes_few (HalfRead (digit_value c)) cs in omega (arith, m)
bytes_few (HalfRead high) (c ∷ cs) = let m : length (bytes_from Outside cs) ≤ length cs = bytes_few Outside cs in omega (arith, m)

-- ---- one token

word_fits : (z : ℤ) → is_word z ≡ true → FitsSigned w64 z
word_fits (pos n) e = record { sfits = ltb-true n (2 ^ 63) e }
word_fits (negsuc n) e = record { sfits = ltb-true n (2 ^ 63) e }

numbered_fits : (cs : List ℕ) (n : ℕ) → is_misnumbered cs n ≡ false → IsNumber n
numbered_fits cs n e = ltb-true n (2 ^ 32) (allowed _ (neither _ _ e).1)

spelled_fits : (cs : List ℕ) (k : TokenKind) → length cs < 2 ^ 32 → Spells cs k → is_misformed cs k ≡ false → IsFit k
spelled_fits cs (t.Number z) few s e = word_fits z (allowed _ (neither _ _ e).1)
spelled_fits cs (t.Register n) few s e = numbered_fits cs n e
spelled_fits cs (t.Target n) few s e = numbered_fits cs n e
spelled_fits cs (t.Block n) few s e = numbered_fits cs n e
spelled_fits cs (t.Constant n) few s e = numbered_fits cs n e
spelled_fits cs (t.Bytes body) few (split, whole) e =
    (omega (arith, few, bytes_few Outside body, ap length split, length-append body (34 ∷ [])), All-from_recursion IsByte (bytes_meant body) (bytes_fit Outside body tt whole))
spelled_fits cs _ few s e = tt

token_fits : (text : List ℕ) (x : Token) → length text < 2 ^ 32 → IsToken text x → IsFit x.kind
token_fits text x few h =
    spelled_fits (spelling_of text x) x.kind (omega (arith, few, h.inside, h.ordered, length-drop x.start text, length-take-le (x.end - x.start) (drop x.start text) (omega (arith, h.inside, h.ordered, length-drop x.start text)))) h.spells h.well_formed

-- ---- the tokens of a text

-- so many at most are there from a byte on, and each stands in the text
pub record Stand (text : List ℕ) (from : ℕ) (xs : List Token) : Type 0 where
  pub few : length xs ≤ length text - from
  pub each : AllByRecursion (IsToken text) xs

next_stands : (text : List ℕ) (from : ℕ) (x : Token) → IsNext text from (Ok (Some x)) → (from < x.end) × IsToken text x
next_stands text from x n = of n.at n.forward n.stands
  where
    of : (at : ℕ) → from ≤ at → (x.start ≡ at) × IsToken text x → (from < x.end) × IsToken text x
    of at l (e, h) = (omega (arith, l, e, h.ordered), h)

pub tokens_stand : (text : List ℕ) (from : ℕ) (xs : List Token) → Reads text from xs None → Stand text from xs
tokens_stand text from [] h = record { few = omega arith; each = tt }
tokens_stand text from (x ∷ xs) (n, more) =
    let s = next_stands text from x n in
    let m = tokens_stand text x.end xs more in
    record { few = omega (arith, s.0, s.1.inside, m.few); each = (s.1, m.each) }

each_fits : (text : List ℕ) (xs : List Token) → length text < 2 ^ 32 → AllByRecursion (IsToken text) xs → AllByRecursion (λ x. IsFit x.kind) xs
each_fits text [] few h = tt
each_fits text (x ∷ xs) few h = (token_fits text x few h.0, each_fits text xs few h.1)

pub tokens_fit : (text : List ℕ) (xs : List Token) → length text < 2 ^ 32 → Stand text 0 xs → AreFit xs
tokens_fit text xs few h = record { few = omega (arith, h.few, few); each = each_fits text xs few h.each }

-- ---- the module

-- what a module has of its heading
pub record IsShapedHeading (h : Heading) : Type 0 where
  pub has_block : 0 < length h.blocks
  pub few_labels : length h.labels < 2 ^ 32
  pub few_blocks : length h.blocks < 2 ^ 32
  pub few_items : items_of h.blocks < 2 ^ 32
  pub each_label : AllByRecursion IsLabel h.labels
  pub each_block : AllByRecursion IsShapedBlock h.blocks
  pub each_declaration : AllByRecursion IsDeclared h.signatures

-- what is known of a heading by the number of tokens that it takes
abbrev HeadingRead : ℕ → Heading → Type 0
HeadingRead u h = (length h.labels ≤ u) × AllByRecursion IsLabel h.labels × (0 < length h.blocks) × (length h.blocks ≤ u) × (items_of h.blocks ≤ u) × AllByRecursion IsShapedBlock h.blocks × AllByRecursion IsDeclared h.signatures

yields_heading : Yields (λ u h. IsShapedHeading h) r.read_heading
unfolding r.read_heading
yields_heading =
    yields_more {P = HeadingRead} (λ u h few q. record { has_block = q.2; few_labels = omega (arith, few, q.0); few_blocks = omega (arith, few, q.3); few_items = omega (arith, few, q.4); each_label = q.1; each_block = q.5; each_declaration = q.6 })
    (yields_then yields_labels (λ u ls p. yields_then yields_function (λ v bs q. yields_then yields_signatures (λ w ss s.
    yields_done (omega (arith, p.few), p.each, q.0, omega (arith, q.1.few), omega (arith, q.1.enough), q.1.each, s.each)))))

declared : (ss : List Signature) → AllByRecursion IsDeclared ss → AllByRecursion IsFunction (functions_of ss)
declared [] h = tt
declared (s ∷ ss) h = (h.0, declared ss h.1)

yields_ending : (h : Heading) → IsShapedHeading h → Yields (λ u m. IsShaped m) (r.read_ending h)
unfolding r.read_ending
yields_ending h s =
    yields_then yields_attributes (λ u x p. yields_then yields_second_attributes (λ v y q. yields_then yields_flags (λ w z k. yields_done (record {
      has_block = s.has_block;
      few_labels = s.few_labels;
      few_blocks = s.few_blocks;
      few_items = omega (arith, s.few_items);
      each_label = s.each_label;
      each_block = s.each_block;
      each_declaration = declared h.signatures s.each_declaration;
      qubits = p.0;
      results = p.1;
      major = k.0;
      minor = k.1;
    }))))

abbrev read_as : Module → Result Module Breach
read_as m = Ok m

ended_shaped : (text : List ℕ) (n : ℕ) (out : Outcome Token Module) (m : Module) → Good (λ u m. IsShaped m) n out → ended text out ≡ Ok m → IsShaped m
ended_shaped text n (Ok (x, [])) m g e = let same : x ≡ m = at e in subst IsShaped same g.3
  where
    at : read_as x ≡ read_as m → x ≡ m
    at e = cc
ended_shaped text n (Ok (x, y ∷ ys)) m g e = absurd (cc)
ended_shaped text n (Err f) m g e = absurd (cc)

heading_shaped : (text : List ℕ) (h : Heading) (rest : List Token) (wrong : Option Signature) (m : Module) → IsShapedHeading h → AreFit rest → behind_heading text h rest wrong ≡ Ok m → IsShaped m
heading_shaped text h rest (Some s) m g fit e = absurd (cc)
heading_shaped text h rest None m g fit e = ended_shaped text (length rest) (r.read_ending h rest) m ((yields_ending h g).gives rest fit) e

answer_shaped : (text : List ℕ) (n : ℕ) (out : Outcome Token Heading) (m : Module) → Good (λ u h. IsShapedHeading h) n out → answer_behind text out ≡ Ok m → IsShaped m
answer_shaped text n (Ok (h, rest)) m g e = heading_shaped text h rest (first_wrong h.signatures) m g.3 g.1 e
answer_shaped text n (Err f) m g e = absurd (cc)

-- the module that is read of fit tokens is shaped
pub read_shaped : (text : List ℕ) (xs : List Token) (m : Module) → AreFit xs → answer text xs ≡ Ok m → IsShaped m
read_shaped text xs m fit e = answer_shaped text (length xs) (r.read_heading xs) m (yields_heading.gives xs fit) e
