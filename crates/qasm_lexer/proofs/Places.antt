-- Places: behind several characters, and how large their numbers are.
use Rattle.std.proofs.Common.{◌≡◌, ℕ, ◌+◌, ◌≤◌, Bool, true, false, ◌==◌, List, [], ◌∷◌, ◌++◌, length, take, IsUtf8, sym, refl, ap, ◌∙◌, arith, length-take-le}
use Rattle.std.specs.Prelude.{if◌then◌else◌}
use Rattle.std.specs.Str.{chars, IsCharBoundary}
use Rattle.std.proofs.lemmas.Bool.Decides.{nat_tests}
use Rattle.std.proofs.lemmas.Str.{encodes-chars, length-le-encodes, IsUtf8-take}
use Rattle.qq_base.specs.declared.refusal.Span.{Span}
use Rattle.qasm_lexer.specs.Tokens.{first_place, place_behind, place_of}

-- one character on
abbrev pub place_after : Span → ℕ → Span
place_after at c = if c == 10 then record { line = at.line + 1; column = 1 } else record { line = at.line; column = at.column + 1 }

pub place_line : (at : Span) (c : ℕ) (cs ds : List ℕ) → cs ≡ c ∷ ds → c ≡ 10 → place_behind (record { line = at.line + 1; column = 1 }) ds ≡ place_behind at cs
place_line at c cs ds e h = ap (λ x. place_behind (place_after at x) ds) (sym h) ∙ sym (ap (place_behind at) e)

pub place_column : (at : Span) (c : ℕ) (cs ds : List ℕ) → cs ≡ c ∷ ds → (c ≡ 10 → ⊥) → place_behind (record { line = at.line; column = at.column + 1 }) ds ≡ place_behind at cs
place_column at c cs ds e h =
    sym (ap (λ b. place_behind (if b then record { line = at.line + 1; column = 1 } else record { line = at.line; column = at.column + 1 }) ds) (not_line c h)) ∙ sym (ap (place_behind at) e)
  where
    not_line : (c : ℕ) → (c ≡ 10 → ⊥) → (c == 10) ≡ false
    not_line c h = grind (arith, nat_tests, h)

-- behind some characters and others
pub place-append : (at : Span) (xs ys : List ℕ) → place_behind at (xs ++ ys) ≡ place_behind (place_behind at xs) ys
place-append at [] ys = refl
place-append at (x ∷ xs) ys = place-append (place_after at x) xs ys

line_after : (at : Span) (c : ℕ) → (place_after at c).line ≤ at.line + 1
line_after at c = by_test (c == 10)
  where
    by_test : (b : Bool) → let place : Span = if b then record { line = at.line + 1; column = 1 } else record { line = at.line; column = at.column + 1 } in place.line ≤ at.line + 1
    by_test true = omega arith
    by_test false = omega arith

column_after : (at : Span) (c : ℕ) → 1 ≤ at.column → (1 ≤ (place_after at c).column) × ((place_after at c).column ≤ at.column + 1)
column_after at c h = by_test (c == 10)
  where
    by_test : (b : Bool) → let place : Span = if b then record { line = at.line + 1; column = 1 } else record { line = at.line; column = at.column + 1 } in (1 ≤ place.column) × (place.column ≤ at.column + 1)
    by_test true = (omega arith, omega arith)
    by_test false = (omega arith, omega arith)

line_bound : (at : Span) (cs : List ℕ) → (place_behind at cs).line ≤ at.line + length cs
line_bound at [] = omega arith
line_bound at (c ∷ cs) = let ih = line_bound (place_after at c) cs in let one = line_after at c in omega (arith, ih, one)

column_bound : (at : Span) (cs : List ℕ) → 1 ≤ at.column → (place_behind at cs).column ≤ at.column + length cs
column_bound at [] h = omega arith
column_bound at (c ∷ cs) h =
    let one = column_after at c h in
    let ih = column_bound (place_after at c) cs one.0 in
    omega (arith, ih, one.1)

-- there are no more characters than bytes
chars_fewer : (bytes : List ℕ) → IsUtf8 bytes → length (chars bytes) ≤ length bytes
chars_fewer bytes utf8 = omega (arith, length-le-encodes (chars bytes), ap length (encodes-chars bytes utf8))

-- the numbers of a place are at most one more than its byte
pub place_small : (text : List ℕ) (n : ℕ) → IsUtf8 text → IsCharBoundary text n → ((place_of text n).line ≤ n + 1) × ((place_of text n).column ≤ n + 1)
place_small text n utf8 boundary =
    let fewer = chars_fewer (take n text) (IsUtf8-take text n utf8 boundary) in
    let len = length-take-le n text boundary.0 in
    let line = line_bound first_place (chars (take n text)) in
    let column = column_bound first_place (chars (take n text)) (omega arith) in
    (omega (arith, fewer, len, line), omega (arith, fewer, len, column))
