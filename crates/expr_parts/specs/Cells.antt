-- The cells of a value with its type: a whole constant and a fraction of pi have none, since they are known before the run.
use Rattle.std.specs.Prelude.{[]}
use Rattle.qasm_types.specs.declared.ty.Ty.{Ty}
use Rattle.qasm_types.specs.declared.ty.Ty.TheVariants as t
use Rattle.qasm_types.specs.Values.{Value}
use Rattle.core_ir.specs.Run.{Cells}
use Rattle.const_eval.specs.Values.{TypedValue}
use Rattle.cell_exprs.specs.CellValues.{cells_of_value}

abbrev pub cells_at : Ty → Value → Cells
cells_at t.Whole x = []
cells_at t.Pi x = []
cells_at type x = cells_of_value x

abbrev pub cells_of_typed : TypedValue → Cells
cells_of_typed v = cells_at v.type v.value
