-- Serves private contracts: the first place of a module that does not pass a test, block by block and item
-- by item.
use Rattle.std.specs.Prelude.{ℕ, suc, if◌then◌else◌, Bool, List, [], ◌∷◌, Option, Some, None}
use Rattle.qir_module.specs.declared.block.Block.{Block}
use Rattle.qir_module.specs.Spots.{Item, ThePhi, TheInstr, TheLast, items_in, Spot}
use Rattle.qir_module.specs.Broken.{Place}
use Rattle.profile_check.specs.declared.place.Place.{Place as CodePlace}
use Rattle.profile_check.specs.declared.item.Item.{Item as CodeItem}
use Rattle.profile_check.specs.declared.item.Item.TheVariants.{Phi as CodePhi, Instr as CodeInstr, Last as CodeLast}

-- a place that the code found, as a place of the text
abbrev pub seen : Option CodePlace → Option Place
seen None = None
seen (Some p) = Some (record { block = p.block; item = p.item })

-- an item that the code reads
abbrev pub item_of : CodeItem → Item
item_of (CodePhi phi) = ThePhi phi.now
item_of (CodeInstr instr) = TheInstr instr.now
item_of (CodeLast last) = TheLast last

-- the index of the first of the items that does not pass, counted from a number on
abbrev pub first_item : (ℕ → Item → Bool) → ℕ → List Item → Option ℕ
first_item keeps i [] = None
first_item keeps i (item ∷ items) = if keeps i item then first_item keeps (suc i) items else Some i

abbrev pub place_or : ℕ → Option ℕ → Option Place → Option Place
place_or k (Some i) others = Some (record { block = k; item = i })
place_or k None others = others

-- the first place, where `find` gives the first item of a block, if any
abbrev pub first_place : (ℕ → Block → Option ℕ) → ℕ → List Block → Option Place
first_place find k [] = None
first_place find k (b ∷ blocks) = place_or k (find k b) (first_place find (suc k) blocks)

-- a test that goes by an item and its place alone
abbrev pub Test : Type 0
Test = ℕ → ℕ → Item → Bool

abbrev pub first_in : Test → ℕ → Block → Option ℕ
first_in keeps k b = first_item (keeps k) 0 (items_in b)

abbrev pub passed_by : Test → Spot → Bool
passed_by keeps s = keeps s.block s.item s.here
