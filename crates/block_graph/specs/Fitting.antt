-- For private contracts only: what a program's statements meet, told of its tree instead of its list.
use Rattle.std.specs.Prelude.{◌≡◌, ◌<◌, All, Some}
use Rattle.gate_table.specs.Table.{row_of}
use Rattle.core_ir.specs.declared.expression.CellKind.TheVariants.{Truth as TruthKind}
use Rattle.core_ir.specs.Core.{Core}
use Rattle.core_ir.specs.Tree.{Stmt, Skip, Seq, Assign, Gate, Reset, Measure, If, Block, Loop, Leave, Again}
use Rattle.core_ir.specs.WellFormed.{kind_at, PairFits, LeafFits, IntoFits, QubitsDiffer}
use Rattle.block_graph.specs.Bounds.{IsHeldLeaf}

abbrev pub IsFit : Core → Stmt → Type 0
IsFit core Skip = Unit {0}
IsFit core (Seq a b) = IsFit core a × IsFit core b
IsFit core (Assign pairs) = All (PairFits core) pairs
IsFit core (Gate leaf) = LeafFits core leaf × IsHeldLeaf leaf × QubitsDiffer leaf (row_of leaf.gate.0)
IsFit core (Reset qubit) = qubit.0 < core.qubits
IsFit core (Measure qubit into) = (qubit.0 < core.qubits) × IntoFits core.cells into
IsFit core (If test a b) = (kind_at core test ≡ Some TruthKind) × IsFit core a × IsFit core b
IsFit core (Block a) = IsFit core a
IsFit core (Loop a) = IsFit core a
IsFit core (Leave k) = Unit {0}
IsFit core (Again k) = Unit {0}
