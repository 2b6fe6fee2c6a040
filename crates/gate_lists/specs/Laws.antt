-- Laws of lists of instructions.
use Rattle.std.specs.Prelude.{◌≡◌, List, length, All, Some, Ok}
use Rattle.qq_base.specs.declared.refusal.Span.{Span}
use Rattle.gate_table.specs.declared.table.Row.{Row}
use Rattle.gate_table.specs.Table.{row_of}
use Rattle.gate_lists.specs.Units.{word_of}
use Rattle.gate_lists.specs.Instructions.{Instruction, inverse_list}

-- a gate of the table with as many arguments as it takes, each a word of 64 bits
pub record IsInstruction (i : Instruction) : Type 0 where
  pub row : Row
  pub is_row : row_of i.gate ≡ Some row
  pub count : length i.arguments ≡ row.params
  pub words : All (λ z. word_of z ≡ z) i.arguments

-- the inverse of the inverse of a list, where both exist, is the list
abbrev pub InversesOfListsReturn : Type 0
InversesOfListsReturn =
    (first second : Span) (list once twice : List Instruction) → All IsInstruction list
    → inverse_list first list ≡ Ok once → inverse_list second once ≡ Ok twice → twice ≡ list
