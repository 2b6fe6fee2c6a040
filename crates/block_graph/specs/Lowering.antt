-- For private contracts only: the module that a core is lowered to, as a function. A statement appends blocks to the
-- graph that is being made. Where the run of the module and its bounds are concerned, nobody needs to believe this file:
-- the laws of `specs/Laws.antt` say what is true of the module.
use Rattle.std.specs.Prelude.{ℕ, zero, suc, ◌+◌, ◌<◌, All, if◌then◌else◌, Bool, true, false, not, ◌&&◌, ◌||◌, List, [], ◌∷◌, ◌++◌, length, map, take, replicate, filter, get_or, slice_set, pos, Option, Some, None}
use Rattle.gate_table.specs.Table.{row_of}
use Rattle.gate_table.specs.declared.table.Row.{Row}
use Rattle.qq_base.specs.declared.run.QubitId.{QubitId}
use Rattle.qir_module.specs.declared.instruction.Operand.{Operand}
use Rattle.qir_module.specs.declared.instruction.Operand.TheVariants.{Fixed, Register}
use Rattle.qir_module.specs.declared.instruction.Arg.{Arg}
use Rattle.qir_module.specs.declared.instruction.Arg.TheVariants.{Number, Truth, Id, Text}
use Rattle.qir_module.specs.declared.instruction.Instr.{Instr}
use Rattle.qir_module.specs.declared.instruction.Instr.TheVariants.{Call}
use Rattle.qir_module.specs.declared.instruction.Last.{Last}
use Rattle.qir_module.specs.declared.instruction.Last.TheVariants.{Jump, Branch, Return}
use Rattle.qir_module.specs.declared.function.Function.{Function}
use Rattle.qir_module.specs.declared.block.Phi.{Phi}
use Rattle.qir_module.specs.declared.block.Block.{Block as ModuleBlock}
use Rattle.qir_module.specs.declared.profile.Profile.TheVariants.{Adaptive}
use Rattle.qir_module.specs.Module.{Module}
use Rattle.qir_module.specs.Numbered.{counted, called_functions, is_among}
use Rattle.core_ir.specs.declared.expression.CellKind.{CellKind}
use Rattle.core_ir.specs.declared.expression.CoreExpr.{CoreExpr}
use Rattle.core_ir.specs.declared.statement.GateArg.{GateArg}
use Rattle.core_ir.specs.declared.statement.GateArg.TheVariants.{Unused, Units, Running}
use Rattle.core_ir.specs.declared.statement.LeafCall.{LeafCall}
use Rattle.core_ir.specs.declared.program.Output.{Output}
use Rattle.core_ir.specs.declared.program.Output.TheVariants.{Array as ArrayOutput, Truth as TruthOutput, Number as NumberOutput}
use Rattle.core_ir.specs.Core.{Core}
use Rattle.core_ir.specs.Tree.{Stmt, Skip, Seq, Assign, Gate, Reset, Measure, If, Block, Loop, Leave, Again, program_of}
use Rattle.core_ir.specs.Ways.{Falls, Agains, reaches, stores}
use Rattle.core_ir.specs.Size.{pair_exprs, leaf_exprs}
use Rattle.cell_operands.specs.Operands.{operand_of}
use Rattle.phi_place.specs.State.{CellState}
use Rattle.phi_place.specs.Phis.{same_operand, ways_differ, phis_for, values_for}
use Rattle.expr_lower.specs.Coded.{Coded}
use Rattle.expr_lower.specs.Lowered.{AreConstant, AreCells, IsLowered}
use Rattle.block_graph.specs.Work.{PhiPart, Ready, Late, Draft, Level, Open, Work}

-- ---- expressions

-- The code of expressions, from the operands of the cells, with the registers from a number on. The lowering is a
-- function of it, so that it can be read apart from how expressions are done.
abbrev pub Coder : Type 0
Coder = List ℕ → List Operand → ℕ → Coded

-- what is asked of it
pub record IsCoder (core : Core) (coder : Coder) : Type 0 where
  -- a constant is a fixed operand, wherever it is asked for
  pub constants : (exprs : List ℕ) (values : List Operand) (next : ℕ) → AreConstant core.exprs exprs (coder exprs values next).operands
  -- expressions of the core have their values in the operands, from cells that are where they should be
  pub lowers : (exprs : List ℕ) (values : List Operand) (next : ℕ) → All (λ e. e < length core.exprs) exprs → AreCells core.cells next values
      → IsLowered core exprs values next (coder exprs values next).code (coder exprs values next).operands

abbrev pub first_operand : List Operand → Operand
first_operand operands = get_or operands 0 (Fixed (pos 0))

-- ---- calls

-- by their places in the table of functions
abbrev pub call : Option ℕ → ℕ → List Arg → Instr
call register function args = Call register (record { 0 = function }) args

abbrev pub initialize_call : Instr
initialize_call = call None 0 (Id 0 ∷ [])

abbrev pub read_call : ℕ → ℕ → Instr
read_call register result = call (Some register) 1 (Id result ∷ [])

abbrev pub reset_call : QubitId → Instr
reset_call qubit = call None 5 (Id qubit.0 ∷ [])

abbrev pub measure_call : QubitId → ℕ → Instr
measure_call qubit result = call None 6 (Id qubit.0 ∷ Id result ∷ [])

-- the numbers of units that the gate takes, where the operands are those of the running ones
abbrev pub unit_args : List GateArg → List Operand → List Arg
unit_args [] operands = []
unit_args (Unused ∷ args) operands = unit_args args operands
unit_args (Units z ∷ args) operands = Number (Fixed z) ∷ unit_args args operands
unit_args (Running e ∷ args) [] = []
unit_args (Running e ∷ args) (operand ∷ operands) = Number operand ∷ unit_args args operands

abbrev pub qubit_args : Option Row → List QubitId → List Arg
qubit_args None qubits = []
qubit_args (Some row) qubits = map (λ (q : QubitId). Id q.0) (take row.qubits qubits)

-- gate g of the target table is function 7 + g
abbrev pub gate_call : LeafCall → List Operand → Instr
gate_call leaf operands = call None (7 + leaf.gate.0) (unit_args leaf.args operands ++ qubit_args (row_of leaf.gate.0) leaf.qubits)

-- ---- cells

-- the operands of the pairs' expressions, stored one pair after the other
abbrev pub stored : List (ℕ × ℕ) → List Operand → List Operand → List Operand
stored [] operands values = values
stored (p ∷ pairs) [] values = values
stored (p ∷ pairs) (operand ∷ operands) values = stored pairs operands (slice_set values p.0 operand)

-- ---- the state of the graph

abbrev pub opened : List Operand → Open
opened values = record { phis = Ready []; body = []; values = values }

abbrev pub closed : Open → Last → Draft
closed o last = record { phis = o.phis; body = o.body; last = last }

-- the open block ends here
abbrev pub close : Work → Open → Last → Work
close w o last = record w { done = w.done ++ closed o last ∷ []; now = None }

-- where no way leads nothing is appended
abbrev pub when_open : Option Open → Work → (Open → Work) → Work
when_open None w f = w
when_open (Some o) w f = f o

-- instructions behind those of the open block, and the operands behind them
abbrev pub appended : Work → Open → List Instr → List Operand → ℕ → ℕ → Work
appended w o code values next results = record w { now = Some (record o { body = o.body ++ code; values = values }); next = next; results = results }

-- the way from the end of the open block
abbrev pub way_of : Work → Open → CellState
way_of w o = record { block = length w.done; values = o.values }

abbrev pub add_way : List Level → ℕ → CellState → List Level
add_way [] k way = []
add_way (l ∷ ls) zero way = record l { ways = l.ways ++ way ∷ [] } ∷ ls
add_way (l ∷ ls) (suc k) way = l ∷ add_way ls k way

abbrev pub label_at : List Level → ℕ → ℕ
label_at [] k = 0
label_at (l ∷ ls) zero = l.label
label_at (l ∷ ls) (suc k) = label_at ls k

-- ---- straight statements

abbrev pub assign_work : Coder → List (ℕ × ℕ) → Work → Open → Work
assign_work coder pairs w o =
    let c = coder (pair_exprs pairs) o.values w.next in
    appended w o c.code (stored pairs c.operands o.values) (w.next + length c.code) w.results

abbrev pub gate_work : Coder → LeafCall → Work → Open → Work
gate_work coder leaf w o =
    let c = coder (leaf_exprs leaf) o.values w.next in
    appended w o (c.code ++ gate_call leaf c.operands ∷ []) o.values (w.next + length c.code) w.results

abbrev pub reset_work : QubitId → Work → Open → Work
reset_work qubit w o = appended w o (reset_call qubit ∷ []) o.values w.next w.results

-- an outcome that a cell takes is read at once
abbrev pub measure_work : QubitId → Option ℕ → Work → Open → Work
measure_work qubit None w o = appended w o (measure_call qubit w.results ∷ []) o.values w.next (suc w.results)
measure_work qubit (Some c) w o =
    appended w o (measure_call qubit w.results ∷ read_call w.next w.results ∷ []) (slice_set o.values c (Register w.next)) (suc w.next) (suc w.results)

-- ---- jumps

abbrev pub leave_work : ℕ → Work → Open → Work
leave_work k w o = record w { done = w.done ++ closed o (Jump (label_at w.ends k)) ∷ []; now = None; ends = add_way w.ends k (way_of w o) }

abbrev pub again_work : ℕ → Work → Open → Work
again_work k w o = record w { done = w.done ++ closed o (Jump (label_at w.starts k)) ∷ []; now = None; starts = add_way w.starts k (way_of w o) }

-- what falls off the end of a block or loop leaves it
abbrev pub leave_zero : Work → Work
leave_zero w = when_open w.now w (leave_work 0 w)

-- ---- joins

-- the register behind those of the phis of cells from c on
abbrev pub next_for : (ℕ → Bool) → List CellKind → ℕ → ℕ → ℕ
next_for needs [] c next = next
next_for needs (kind ∷ kinds) c next = if needs c then next_for needs kinds (suc c) (suc next) else next_for needs kinds (suc c) next

-- The block in which these ways join, under a label. A cell has a phi exactly where two of them differ.
abbrev pub join_work : List CellKind → ℕ → List CellState → Work → Work
join_work kinds label [] w = w
join_work kinds label (way ∷ ways) w =
    let needs = ways_differ (way ∷ ways) in
    record w {
      targets = slice_set w.targets label (length w.done);
      now = Some (record { phis = Ready (phis_for needs (way ∷ ways) kinds 0 w.next); body = []; values = values_for needs way.values 0 w.next });
      next = next_for needs kinds 0 w.next;
    }

abbrev pub open_end : Work → Work
open_end w = record w { targets = w.targets ++ 0 ∷ []; ends = record { label = length w.targets; block = 0; ways = [] } ∷ w.ends }

abbrev pub close_end : List CellKind → List Level → Work → Work
close_end kinds [] w = w
close_end kinds (l ∷ ls) w = join_work kinds l.label l.ways (record w { ends = ls })

-- ---- loops

-- A cell needs a phi at the start of a loop where the body assigns it on a way back to the start, unless it is the
-- constant 0 there and on each way back: where it is open there and the body assigns it.
abbrev pub needs_phi : List CoreExpr → Stmt → Operand → ℕ → Bool
needs_phi exprs a operand c =
    stores true exprs a c (Agains 0) && (not (same_operand operand (Fixed (pos 0))) || stores false exprs a c (Agains 0))

abbrev pub start_needs : List CoreExpr → Stmt → List Operand → ℕ → Bool
start_needs exprs a values c = needs_phi exprs a (operand_of values c) c

-- The start of a loop is a block of its own. Its phis have the way from in front alone, until the ways back are known.
abbrev pub open_loop : List CellKind → (ℕ → Bool) → Work → Open → Work
open_loop kinds needs w o = record w {
  done = w.done ++ closed o (Jump (length w.targets)) ∷ [];
  now = Some (record { phis = Late (length w.lates); body = []; values = values_for needs o.values 0 w.next });
  next = next_for needs kinds 0 w.next;
  targets = w.targets ++ (length w.done + 1) ∷ 0 ∷ [];
  lates = w.lates ++ phis_for needs (way_of w o ∷ []) kinds 0 w.next ∷ [];
  ends = record { label = length w.targets + 1; block = 0; ways = [] } ∷ w.ends;
  starts = record { label = length w.targets; block = length w.done + 1; ways = way_of w o ∷ [] } ∷ w.starts;
}

-- the phis of the start, with all ways to it
abbrev pub close_start : List CellKind → (ℕ → Bool) → ℕ → ℕ → List Level → Work → Work
close_start kinds needs late next [] v = v
close_start kinds needs late next (l ∷ ls) v = record v { starts = ls; lates = slice_set v.lates late (phis_for needs l.ways kinds 0 next) }

-- ---- choices

-- the first body that is lowered is the one where the test holds, or the other
abbrev pub branch_last : Bool → Operand → ℕ → Last
branch_last true test label = Branch test label (label + 1)
branch_last false test label = Branch test (label + 1) label

abbrev pub open_first : Coder → Bool → ℕ → Work → Open → Work
open_first coder holds test w o =
    let c = coder (test ∷ []) o.values w.next in
    record w {
      done = w.done ++ record { phis = o.phis; body = o.body ++ c.code; last = branch_last holds (first_operand c.operands) (length w.targets) } ∷ [];
      now = Some (opened o.values);
      next = w.next + length c.code;
      targets = w.targets ++ (length w.done + 1) ∷ 0 ∷ 0 ∷ [];
    }

-- the end of a body of a choice
abbrev pub fall_work : ℕ → Work → Work
fall_work label w = when_open w.now w (λ o. close w o (Jump label))

abbrev pub fall_ways : Work → Option Open → List CellState
fall_ways w None = []
fall_ways w (Some o) = way_of w o ∷ []

abbrev pub open_second : ℕ → List Operand → Work → Work
open_second label values w = record w { now = Some (opened values); targets = slice_set w.targets label (length w.done) }

-- Behind the second body: a join, where the first reaches its end; else what is behind the second alone.
abbrev pub join_bodies : List CellKind → ℕ → List CellState → Work → Work
join_bodies kinds label [] u = u
join_bodies kinds label (way ∷ ways) u = join_work kinds label ((way ∷ ways) ++ fall_ways u u.now) (fall_work label u)

abbrev pub two_bodies : List CellKind → ℕ → List Operand → Work → (Work → Work) → Work
two_bodies kinds label values v second =
    join_bodies kinds (label + 2) (fall_ways v v.now) (second (open_second (label + 1) values (fall_work (label + 2) v)))

-- ---- statements

-- Of a choice the body that never reaches its end, if one does, is lowered first: so the block that goes on is the last
-- of the text, and registers stay in its order.
abbrev pub lower_of : Core → Coder → Stmt → Work → Work
lower_of core coder Skip w = w
lower_of core coder (Seq a b) w = lower_of core coder b (lower_of core coder a w)
lower_of core coder (Assign pairs) w = when_open w.now w (assign_work coder pairs w)
lower_of core coder (Gate leaf) w = when_open w.now w (gate_work coder leaf w)
lower_of core coder (Reset qubit) w = when_open w.now w (reset_work qubit w)
lower_of core coder (Measure qubit into) w = when_open w.now w (measure_work qubit into w)
lower_of core coder (If test a b) w =
    when_open w.now w (λ o.
    if reaches b Falls
    then two_bodies core.cells (length w.targets) o.values (lower_of core coder a (open_first coder true test w o)) (lower_of core coder b)
    else two_bodies core.cells (length w.targets) o.values (lower_of core coder b (open_first coder false test w o)) (lower_of core coder a))
lower_of core coder (Block a) w =
    when_open w.now w (λ o.
    let v = leave_zero (lower_of core coder a (open_end w)) in
    close_end core.cells v.ends v)
lower_of core coder (Loop a) w =
    when_open w.now w (λ o.
    let needs = start_needs core.exprs a o.values in
    let v = leave_zero (lower_of core coder a (open_loop core.cells needs w o)) in
    close_end core.cells v.ends (close_start core.cells needs (length w.lates) w.next v.starts v))
lower_of core coder (Leave k) w = when_open w.now w (leave_work k w)
lower_of core coder (Again k) w = when_open w.now w (again_work k w)

-- ---- the program

-- all cells start as 0 or false, and the run-time system is initialized first
abbrev pub first_work : ℕ → Work
first_work cells = record {
  done = [];
  now = Some (record { phis = Ready []; body = initialize_call ∷ []; values = replicate cells (Fixed (pos 0)) });
  next = 0;
  results = 0;
  targets = [];
  lates = [];
  ends = [];
  starts = [];
}

abbrev pub record_call : List Operand → Output → Instr
record_call values (ArrayOutput label size) = call None 2 (Number (Fixed (pos size)) ∷ Text label ∷ [])
record_call values (TruthOutput label c) = call None 3 (Truth (operand_of values c) ∷ Text label ∷ [])
record_call values (NumberOutput label c) = call None 4 (Number (operand_of values c) ∷ Text label ∷ [])

-- where the program ends the outputs are recorded
abbrev pub end_work : List Output → Work → Open → Work
end_work outputs w o = record w { done = w.done ++ record { phis = o.phis; body = o.body ++ map (record_call o.values) outputs; last = Return (pos 0) } ∷ []; now = None }

abbrev pub whole_work : Core → Coder → Work
whole_work core coder =
    let v = lower_of core coder (program_of core) (first_work (length core.cells)) in
    when_open v.now v (end_work core.outputs v)

-- ---- the module

abbrev pub settled_phis : (ℕ → List Phi) → PhiPart → List Phi
settled_phis lates (Ready phis) = phis
settled_phis lates (Late place) = lates place

abbrev pub settled_last : (ℕ → ℕ) → Last → Last
settled_last labels (Jump label) = Jump (labels label)
settled_last labels (Branch test first second) = Branch test (labels first) (labels second)
settled_last labels (Return code) = Return code

abbrev pub settled : (ℕ → ℕ) → (ℕ → List Phi) → ℕ → Draft → ModuleBlock
settled labels lates k d = record { name = k; phis = settled_phis lates d.phis; body = d.body; last = settled_last labels d.last }

-- the k-th block is named k
abbrev pub settled_from : (ℕ → ℕ) → (ℕ → List Phi) → ℕ → List Draft → List ModuleBlock
settled_from labels lates k [] = []
settled_from labels lates k (d ∷ ds) = settled labels lates k d ∷ settled_from labels lates (suc k) ds

abbrev pub blocks_of : Work → List ModuleBlock
blocks_of w = settled_from (λ l. get_or w.targets l 0) (λ l. get_or w.lates l []) 0 w.done

-- exactly the called functions, in the order of the table
abbrev pub declared_of : List ModuleBlock → List Function
declared_of blocks = map (λ f. record { 0 = f }) (filter (is_among (called_functions blocks)) (counted 0 37))

abbrev pub module_of : Core → Work → Module
module_of core w = record {
  labels = core.labels;
  blocks = blocks_of w;
  declarations = declared_of (blocks_of w);
  profile = Adaptive;
  qubits = core.qubits;
  results = w.results;
  major = 2;
  minor = 0;
  dynamic_qubits = false;
  dynamic_results = false;
}

-- the module that the core is lowered to
abbrev pub lowered : Core → Coder → Module
lowered core coder = module_of core (whole_work core coder)
