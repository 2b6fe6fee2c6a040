-- The names that a program has without declaring them: the predefined numbers, the gates that are built in, and those of
-- `stdgates.inc` (OpenQASM 3.0 specification, "Standard library").
use Rattle.std.specs.Prelude.{ℕ, Bool, true, false, ◌||◌, List, [], ◌∷◌, ◌++◌, pos, codes}
use Rattle.std.specs.Str.{bytes_eq}
use Rattle.angle_arith.specs.Fraction.{fraction_of}
use Rattle.scope_env.specs.OpenScopes.{OpenScopes, Outside, Named}
use Rattle.const_eval.specs.Constant.{Constant, part_of_pi}
use Rattle.const_eval.specs.ConstantPlaces.{pi_text, tau_text}
use Rattle.const_eval.specs.Things.{Thing, Fixed, TargetRow}
use Rattle.gate_table.specs.Table.{source_names}

-- so many times pi
abbrev pub times_pi : ℕ → Constant
times_pi n = part_of_pi (fraction_of (pos n) (pos 1))

-- the global scope at the start: the predefined numbers, and the gates that are built in
abbrev pub predefined : {A : Type 0} → OpenScopes (Thing A)
predefined =
    Named (codes "pi") (Fixed (times_pi 1)) (
    Named pi_text (Fixed (times_pi 1)) (
    Named (codes "tau") (Fixed (times_pi 2)) (
    Named tau_text (Fixed (times_pi 2)) (
    Named (codes "U") (TargetRow 26) (
    Named (codes "gphase") (TargetRow 30) Outside)))))

-- the names of `stdgates.inc`: those by which a source calls a row, but for the two that are built in
abbrev pub is_built_in : List ℕ → Bool
is_built_in text = bytes_eq text (codes "U") || bytes_eq text (codes "gphase")

abbrev pub included_of : Bool → List ℕ × ℕ → List (List ℕ × ℕ)
included_of true entry = []
included_of false entry = entry ∷ []

abbrev pub included_among : List (List ℕ × ℕ) → List (List ℕ × ℕ)
included_among [] = []
included_among (entry ∷ entries) = included_of (is_built_in entry.0) entry ++ included_among entries

abbrev pub included : List (List ℕ × ℕ)
included = included_among source_names

-- the scopes with names for rows of the target table
abbrev pub with_rows : {A : Type 0} → List (List ℕ × ℕ) → OpenScopes (Thing A) → OpenScopes (Thing A)
with_rows [] scopes = scopes
with_rows (entry ∷ entries) scopes = with_rows entries (Named entry.0 (TargetRow entry.1) scopes)
