-- Serves private contracts: the entries of phis, beside the names of predecessors.
use Rattle.std.specs.Prelude.{◌≡◌, ℕ, zero, suc, nat_eq, if◌then◌else◌, Bool, true, false, List, [], ◌∷◌, length, map, Option, Some, None, slice_get}
use Rattle.std.specs.List.{flat_map}
use Rattle.std.specs.HashMap.{HashMap, get}
use Rattle.std.specs.declared.hash.FoldHasher.{FoldHasher}
use Rattle.std.specs.declared.hash.BuildHasherDefault.{BuildHasherDefault}
use Rattle.qir_module.specs.declared.instruction.Operand.{Operand}
use Rattle.qir_module.specs.declared.block.Phi.{Phi}
use Rattle.qir_module.specs.declared.block.Block.{Block}
use Rattle.qir_module.specs.Spots.{Item, ThePhi, TheInstr, TheLast}
use Rattle.qir_module.specs.Passes.{names_each_once}
use Rattle.profile_check.specs.Walk.{first_item}
use Rattle.profile_check.specs.Ways.{ways_among}

abbrev pub Counts : Type 0
Counts = HashMap ℕ Bool (BuildHasherDefault FoldHasher)

-- whether a number that is there stands alone
abbrev pub single : ℕ → Option Bool
single zero = None
single (suc zero) = Some true
single (suc (suc n)) = Some false

abbrev pub times : ℕ → List ℕ → ℕ
times n [] = 0
times n (x ∷ xs) = if nat_eq x n then suc (times n xs) else times n xs

abbrev pub HasCounts : Counts → List ℕ → Type 0
HasCounts counts names = (n : ℕ) → get nat_eq counts n ≡ single (times n names)

abbrev pub names_in : List (Operand × ℕ) → List ℕ
names_in entries = map (λ (e : Operand × ℕ). e.1) entries

abbrev pub name_in : Option Block → List ℕ
name_in None = []
name_in (Some b) = b.name ∷ []

-- the names of the blocks at some places
abbrev pub names_at : List Block → List ℕ → List ℕ
names_at blocks places = flat_map (λ p. name_in (slice_get blocks p)) places

-- a phi, where the predecessors of its block have such names
unfoldable pub phi_fits : List ℕ → ℕ → Item → Bool
phi_fits names i (ThePhi phi) = names_each_once (names_in phi.entries) names
phi_fits names i (TheInstr instr) = true
phi_fits names i (TheLast last) = true

-- the first block has no phi
abbrev pub first_phi_at : List Phi → Option ℕ
first_phi_at [] = None
first_phi_at (phi ∷ phis) = Some 0

abbrev pub is_single : Option Bool → Bool
is_single None = false
is_single (Some alone) = alone

-- the first of a block's phis that is wrong, where its predecessors have such names
abbrev pub wrong_phi : ℕ → List ℕ → List Phi → Option ℕ
wrong_phi place names phis = if nat_eq place 0 then first_phi_at phis else first_item (phi_fits names) 0 (map ThePhi phis)

abbrev pub wrong_phi_at : List Block → ℕ → Block → Option ℕ
wrong_phi_at blocks k b = wrong_phi k (names_at blocks (ways_among blocks (length blocks) k)) b.phis
