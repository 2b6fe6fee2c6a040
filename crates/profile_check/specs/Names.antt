-- Serves private contracts: where the names of blocks lead, as a table that the code makes.
use Rattle.std.specs.Prelude.{◌≡◌, ℕ, nat_eq, if◌then◌else◌, Bool, true, false, ◌&&◌, List, Option, Some, None, slice_get}
use Rattle.std.specs.List.{list_all}
use Rattle.std.specs.HashMap.{HashMap, get}
use Rattle.std.specs.declared.hash.FoldHasher.{FoldHasher}
use Rattle.std.specs.declared.hash.BuildHasherDefault.{BuildHasherDefault}
use Rattle.qir_module.specs.declared.block.Block.{Block}
use Rattle.qir_module.specs.Machine.{place_of}
use Rattle.qir_module.specs.Spots.{Item, ThePhi, TheInstr, TheLast}
use Rattle.qir_module.specs.Carried.{targets_of}
use Rattle.qir_module.specs.Passes.{is_target, are_distinct}
use Rattle.profile_check.specs.Walk.{Test}

-- a table from numbers to numbers
abbrev pub Table : Type 0
Table = HashMap ℕ ℕ (BuildHasherDefault FoldHasher)

-- the table has the place of the first block of each name
abbrev pub HasPlaces : Table → List Block → Type 0
HasPlaces places blocks = (name : ℕ) → get nat_eq places name ≡ place_of blocks name

abbrev pub is_at : ℕ → Option ℕ → Bool
is_at k None = false
is_at k (Some place) = nat_eq place k

-- where the k-th block has the name of one in front of it
abbrev pub named_before : List Block → ℕ → Block → Option ℕ
named_before blocks k b = if is_at k (place_of blocks b.name) then None else Some 0

-- each block is the first of its name
abbrev pub AreApart : List Block → Type 0
AreApart blocks = (k : ℕ) (b : Block) → slice_get blocks k ≡ Some b → place_of blocks b.name ≡ Some k

-- the targets exist, are not the first block, and differ
abbrev pub item_targets_fit : (ℕ → Option ℕ) → Item → Bool
item_targets_fit place (TheLast last) = list_all (λ name. is_target (place name)) (targets_of last) && are_distinct (targets_of last)
item_targets_fit place (ThePhi phi) = true
item_targets_fit place (TheInstr instr) = true

unfoldable pub targets_fit : (ℕ → Option ℕ) → Test
targets_fit place b i item = item_targets_fit place item
