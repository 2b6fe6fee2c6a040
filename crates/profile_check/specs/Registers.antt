-- Serves private contracts: registers that are assigned again, and the types that registers are assigned with.
use Rattle.std.specs.Prelude.{◌≡◌, ℕ, nat_eq, if◌then◌else◌, not, Bool, true, List, [], ◌∷◌, ◌++◌, Option, Some, None}
use Rattle.std.specs.List.{list_all, flat_map}
use Rattle.std.specs.HashSet.{HashSet, contains}
use Rattle.std.specs.declared.hash.FoldHasher.{FoldHasher}
use Rattle.std.specs.declared.hash.BuildHasherDefault.{BuildHasherDefault}
use Rattle.qir_module.specs.declared.instruction.Operand.{Operand}
use Rattle.qir_module.specs.declared.instruction.Operand.TheVariants.{Register, Fixed}
use Rattle.qir_module.specs.Numbered.{is_among}
use Rattle.qir_module.specs.Broken.{Place}
use Rattle.qir_module.specs.Passes.{item_registers, assigned_with, item_operands, is_fixed_truth}
use Rattle.profile_check.specs.Walk.{Test, seen}
use Rattle.profile_check.specs.declared.place.Place.{Place as CodePlace}
use Rattle.profile_check.specs.Visits.{Placed}

abbrev pub Numbers : Type 0
Numbers = HashSet ℕ (BuildHasherDefault FoldHasher)

-- the set has the numbers of a list
abbrev pub HasAll : Numbers → List ℕ → Type 0
HasAll set numbers = (n : ℕ) → contains nat_eq set n ≡ is_among numbers n

-- the registers that are assigned by items
abbrev pub registers_in : List Placed → List ℕ
registers_in ps = flat_map (λ (p : Placed). item_registers p.here) ps

abbrev pub place_in : Placed → Place
place_in p = record { block = p.block; item = p.item }

-- the first of the items that assigns a register again, behind those that are assigned
abbrev pub first_again : List ℕ → List Placed → Option Place
first_again before [] = None
first_again before (p ∷ ps) = if list_all (λ r. not (is_among before r)) (item_registers p.here) then first_again (before ++ item_registers p.here) ps else Some (place_in p)

-- what was found in the items that were visited, and the registers that they assign, if none assigns one again
pub record HoldsAssigned (assigned : Numbers) (again : Option CodePlace) (visited : List Placed) : Type 0 where
  pub found : seen again ≡ first_again [] visited
  pub all : again ≡ None → HasAll assigned (registers_in visited)

-- the registers that are assigned as truth values, or as words
abbrev pub typed_in : Bool → List Placed → List ℕ
typed_in truth ps = flat_map (λ (p : Placed). assigned_with truth p.here) ps

-- a register and whether it is a truth value
abbrev pub of_type : Bool → Option (ℕ × Bool) → List ℕ
of_type truth None = []
of_type truth (Some p) = if p.1 then (if truth then p.0 ∷ [] else []) else (if truth then [] else p.0 ∷ [])

abbrev pub operand_fits : (Bool → ℕ → Bool) → Operand → Bool → Bool
operand_fits has (Register r) truth = has truth r
operand_fits has (Fixed z) truth = if truth then is_fixed_truth z else true

-- the registers that are used have their types
unfoldable pub operands_fit : (Bool → ℕ → Bool) → Test
operands_fit has b i item = list_all (λ (o : Operand × Bool). operand_fits has o.0 o.1) (item_operands item)

abbrev pub in_sets : Numbers → Numbers → Bool → ℕ → Bool
in_sets words truths truth r = if truth then contains nat_eq truths r else contains nat_eq words r
