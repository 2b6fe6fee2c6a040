-- Serves private contracts: the rule on records and returns, item by item.
use Rattle.std.specs.Prelude.{ℕ, suc, if◌then◌else◌, not, Bool, true, false, ◌&&◌, ◌||◌, List, [], ◌∷◌, take, Option, Some, None}
use Rattle.qir_module.specs.declared.instruction.Last.{Last}
use Rattle.qir_module.specs.declared.instruction.Last.TheVariants.{Jump, Branch, Return}
use Rattle.qir_module.specs.declared.block.Block.{Block}
use Rattle.qir_module.specs.Spots.{Item, ThePhi, TheInstr, TheLast, items_in}
use Rattle.qir_module.specs.Passes.{is_record, is_zero, returns, some_returns}

-- where another block in front returns
abbrev pub return_fits : Bool → Last → Bool
return_fits returned (Return code) = is_zero code && not returned
return_fits returned (Jump to) = true
return_fits returned (Branch test first second) = true

-- in a block that returns or does not, behind records or not
abbrev pub record_fits : Bool → Bool → Bool → Item → Bool
record_fits ends returned recorded (ThePhi phi) = true
record_fits ends returned recorded (TheInstr instr) = if is_record (TheInstr instr) then ends else not recorded
record_fits ends returned recorded (TheLast last) = return_fits returned last

-- the first of the items that does not fit
abbrev pub records_from : Bool → Bool → Bool → ℕ → List Item → Option ℕ
records_from ends returned recorded i [] = None
records_from ends returned recorded i (x ∷ xs) = if record_fits ends returned recorded x then records_from ends returned (recorded || is_record x) (suc i) xs else Some i

abbrev pub records_in : Bool → Block → Option ℕ
records_in returned b = records_from (returns b.last) returned false 0 (items_in b)

abbrev pub records_at : List Block → ℕ → Block → Option ℕ
records_at blocks k b = records_in (some_returns (take k blocks)) b
