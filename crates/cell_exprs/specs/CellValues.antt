-- How a value of the source lies in the cells of the core: what a reader must believe of the layers that take expressions of
-- the source to expressions over cells. A truth value is one cell, a register of bits is a cell for each bit, that of index 0
-- first, and all else is one word of 64 bits: the lowest 64 bits of the number.
use Rattle.std.specs.Prelude.{[], ◌∷◌, map, pos}
use Rattle.qasm_types.specs.declared.ty.Ty.{Ty}
use Rattle.qasm_types.specs.declared.ty.Ty.TheVariants as t
use Rattle.qasm_types.specs.Values.{Value, Truth, Register, Number, Count, Units, PartOfPi}
use Rattle.qir_module.specs.Machine.{Word, Holds}
use Rattle.core_ir.specs.declared.expression.CellKind.{CellKind}
use Rattle.core_ir.specs.declared.expression.CellKind.TheVariants.{Truth as TruthKind, Number as NumberKind}
use Rattle.core_ir.specs.Run.{Cells}
use Rattle.machine_words.specs.Words.{word_of}

-- The cells of a value. A part of pi has none: it is known before the run.
abbrev pub cells_of_value : Value → Cells
cells_of_value (Truth b) = Holds b ∷ []
cells_of_value (Register bits) = map Holds bits
cells_of_value (Number z) = Word (word_of z) ∷ []
cells_of_value (Count c) = Word (pos c) ∷ []
cells_of_value (Units z) = Word z ∷ []
cells_of_value (PartOfPi p) = []

-- what the cells of a type hold
abbrev pub kind_of_type : Ty → CellKind
kind_of_type t.Bool = TruthKind
kind_of_type t.Bit = TruthKind
kind_of_type (t.Bits n) = TruthKind
kind_of_type _ = NumberKind
