-- A type, and what stands behind it, where the code reads the type in a call of its own.
use Rattle.std.proofs.Common.{◌≡◌, Bool, true, false, cond, List, Ok, Err, ap}
use Rattle.grammar_parts.specs.Reading.{Outcome, Reader, done, and_then, heads}
use Rattle.grammar_parts.specs.Kinds.{among}
use Rattle.qir_module.specs.Tokens.{Token}
use Rattle.qir_module.specs.Words as w
use Rattle.qir_module.specs.Words.{kind}
use Rattle.qir_module.specs.Reader.{read_word, read_typed, word_kinds}
use Rattle.qir_reader.specs.Parts.{read_type}

pub typed_on : {A : Type 0} (r : Bool → Reader Token A) (ts rest : List Token) (b : Bool) → read_type ts ≡ Ok (b, rest) → read_typed r ts ≡ r b rest
typed_on {A} r ts rest b e = choice (heads (among kind (word_kinds w.I64)) ts) e
  where
    at : (x : Bool) (out : Outcome Token Token) → and_then out (λ a. done x) ≡ Ok (b, rest) → and_then out (λ a. r x) ≡ r b rest
    at x (Ok (a, mid)) e = let pair : ◌≡◌ {A = Bool × List Token} (x, mid) (b, rest) = cc in ap (λ (z : Bool × List Token). r z.0 z.1) pair
    at x (Err f) e = absurd (cc)

    choice : (h : Bool) → cond h (and_then (read_word w.I64 ts) (λ a. done false)) (and_then (read_word w.I1 ts) (λ a. done true)) ≡ Ok (b, rest)
        → cond h (and_then (read_word w.I64 ts) (λ a. r false)) (and_then (read_word w.I1 ts) (λ a. r true)) ≡ r b rest
    choice true e = at false (read_word w.I64 ts) e
    choice false e = at true (read_word w.I1 ts) e
