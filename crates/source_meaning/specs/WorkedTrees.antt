-- For worked rows: programs of one line as trees, by the columns at which their parts begin, and what the definitions say of them.
-- They have no gate calls, so that the expansion of one does not matter.
use Rattle.std.specs.Prelude.{ℕ, Bool, List, [], ◌∷◌, Option, Some, None, Result, Ok, Err, codes}
use Prim.Native.String.{String}
use Rattle.qq_base.specs.declared.refusal.Refusal.{Refusal}
use Rattle.qq_base.specs.declared.refusal.Span.{Span}
use Rattle.qq_base.specs.declared.rule.Rule.{Rule}
use Rattle.qq_base.specs.declared.run.Event.{Event}
use Rattle.qq_base.specs.declared.run.Event.TheVariants as event
use Rattle.qq_base.specs.declared.run.Record.{Record}
use Rattle.qq_base.specs.Seen.{Seen, Ending}
use Rattle.qasm_ast.specs.declared.expr.Base.{Base}
use Rattle.qasm_ast.specs.declared.expr.BinaryOp.{BinaryOp}
use Rattle.qasm_ast.specs.Tree.{word, qubit, Tree, named, number, binary, Maybe, Brackets, no_bracket, Name, Scalar, Operand, Parameter, Statement, Statements, no_statement, a_statement}
use Rattle.const_eval.specs.Walk.{done}
use Rattle.const_eval.specs.Things.{qubit_id}
use Rattle.source_meaning.specs.GateCalls.{Expands}
use Rattle.source_meaning.specs.Walked.{Walked, qubits_so_far}
use Rattle.source_meaning.specs.Source.{walked, refusal_of_walk, source_run, source_halt, labels}

-- a column of the first line
abbrev pub at : ℕ → Span
at column = record { line = 1; column = column }

-- ---- parts of trees

abbrev pub num : ℕ → ℕ → Tree
num n column = number n (at column)

abbrev pub name : String → ℕ → Tree
name text column = named (word (codes text)) no_bracket (at column) (at column)

abbrev pub indexed : String → Brackets → ℕ → Tree
indexed text index column = named (word (codes text)) index (at column) (at column)

abbrev pub two : BinaryOp → Tree → Tree → ℕ → Tree
two o a b column = binary o a b (at column)

abbrev pub named_at : String → ℕ → Name
named_at text column = record { text = codes text; place = at column }

abbrev pub type : Base → Maybe → ℕ → Scalar
type base width column = record { base = base; width = width; place = at column }

abbrev pub operand : String → ℕ → Operand
operand text column = record { name = word (codes text); index = no_bracket; place = at column }

abbrev pub operand_at : String → Brackets → ℕ → Operand
operand_at text index column = record { name = word (codes text); index = index; place = at column }

abbrev pub wired : ℕ → ℕ → Operand
wired n column = record { name = qubit n; index = no_bracket; place = at column }

abbrev pub parameter : Scalar → Name → Parameter
parameter type name = record { type = type; name = name }

abbrev pub stmts : List Statement → Statements
stmts [] = no_statement
stmts (s ∷ ss) = a_statement s (stmts ss)

-- ---- what is said of a program

abbrev pub no_gates : Expands
no_gates scopes call = done []

-- the rule by which the walk refuses a program, if by one
abbrev pub refusal : Statements → Span → Option Refusal
refusal top place = refusal_of_walk (walked no_gates top place)

abbrev pub by : Rule → ℕ → Option Refusal
by rule column = Some (record { rule = rule; at = at column })

-- its cost, joints, sites and qubits
abbrev pub sums_of : Result Walked Refusal → Option (ℕ × ℕ × ℕ × ℕ)
sums_of (Ok w) = Some (w.cost, w.joints, w.sites, qubits_so_far w)
sums_of (Err refusal) = None

abbrev pub sums : Statements → Span → Option (ℕ × ℕ × ℕ × ℕ)
sums top place = sums_of (walked no_gates top place)

abbrev pub labels_in : Statements → Span → List (List ℕ)
labels_in = labels no_gates

-- what is seen of its run, and where that stands
abbrev pub run : Statements → Span → List Bool → ℕ → Seen
run = source_run no_gates

abbrev pub halt : Statements → Span → List Bool → ℕ → Option Span
halt = source_halt no_gates

abbrev pub seen : Ending → List Event → List Record → Seen
seen fate events records = record { fate = fate; events = events; records = records }

abbrev pub measured_as : ℕ → Bool → Event
measured_as q b = event.Measure (qubit_id q) b

abbrev pub reset_of : ℕ → Event
reset_of q = event.Reset (qubit_id q)
