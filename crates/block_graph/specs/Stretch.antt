-- For private contracts only: which stretch of a module's blocks a statement is. A place is what is left of a block, not a
-- number of an item, so that straight code is told by lists alone. Nothing here is numbered.
use Rattle.std.specs.Prelude.{◌≡◌, ◌⊎◌, ℕ, zero, suc, ◌<◌, ◌≤◌, List, [], ◌∷◌, ◌++◌, length, map, slice_get, slice_set, replicate, pos, Option, Some, None}
use Rattle.qq_base.specs.declared.run.QubitId.{QubitId}
use Rattle.qir_module.specs.declared.instruction.Operand.{Operand}
use Rattle.qir_module.specs.declared.instruction.Operand.TheVariants.{Fixed, Register}
use Rattle.qir_module.specs.declared.instruction.Instr.{Instr}
use Rattle.qir_module.specs.declared.instruction.Last.{Last}
use Rattle.qir_module.specs.declared.instruction.Last.TheVariants.{Jump, Branch, Return}
use Rattle.qir_module.specs.declared.block.Block.{Block as ModuleBlock}
use Rattle.qir_module.specs.Module.{Module}
use Rattle.qir_module.specs.Machine.{Value, State, with_register}
use Rattle.core_ir.specs.declared.expression.CellKind.{CellKind}
use Rattle.core_ir.specs.declared.statement.LeafCall.{LeafCall}
use Rattle.core_ir.specs.declared.program.Output.{Output}
use Rattle.core_ir.specs.Core.{Core}
use Rattle.core_ir.specs.Run.{Cells}
use Rattle.core_ir.specs.Size.{pair_exprs, leaf_exprs}
use Rattle.core_ir.specs.Tree.{Stmt, Skip, Seq, Assign, Gate, Reset, Measure, If, Block, Loop, Leave, Again, program_of}
use Rattle.cell_operands.specs.Operands.{HoldsCells}
use Rattle.phi_place.specs.Phis.{Carries}
use Rattle.expr_lower.specs.Lowered.{straight, HoldValues}
use Rattle.block_graph.specs.Lowering.{first_operand, stored, gate_call, reset_call, measure_call, read_call, initialize_call, record_call}

-- what is left of a block, and where the cells are
pub record Place : Type 0 where
  pub block : ℕ
  pub rest : List Instr
  pub last : Last
  pub values : List Operand

-- ---- what the parts below promise

-- behind the code the operands have the expressions' values, and the cells are where they were
pub record Computes (core : Core) (exprs : List ℕ) (values : List Operand) (code : List Instr) (operands : List Operand) : Type 0 where
  pub by : (labels : ℕ) (s : State) (cells : Cells) → HoldsCells s core.cells values cells
      → (s' : State) × (straight labels code s ≡ Some s') × HoldsCells s' core.cells values cells × HoldValues s' core cells exprs operands

-- the register holds no cell
pub record IsFresh (kinds : List CellKind) (values : List Operand) (r : ℕ) : Type 0 where
  pub by : (s : State) (cells : Cells) (v : Value) → HoldsCells s kinds values cells → HoldsCells (with_register s r v) kinds values cells

-- ---- jumps

-- from a block with these operands one comes to the start of another
pub record Leads (kinds : List CellKind) (m : Module) (from : ℕ) (before : List Operand) (to : Place) : Type 0 where
  pub target : ModuleBlock
  pub found : slice_get m.blocks to.block ≡ Some target
  pub body : target.body ≡ to.rest
  pub last : target.last ≡ to.last
  pub long : length to.values ≡ length kinds
  pub carries : Carries target.phis kinds (record { block = from; values = before }) to.values

-- the block of a place ends here, with a jump
pub record GoesTo (kinds : List CellKind) (m : Module) (p to : Place) : Type 0 where
  pub rest : p.rest ≡ []
  pub last : p.last ≡ Jump to.block
  pub leads : Leads kinds m p.block p.values to

pub record Forward (kinds : List CellKind) (m : Module) (p to : Place) : Type 0 where
  pub goes : GoesTo kinds m p to
  pub later : p.block < to.block

pub record Back (kinds : List CellKind) (m : Module) (p to : Place) : Type 0 where
  pub goes : GoesTo kinds m p to
  pub not_later : to.block ≤ p.block

-- where a way ends it goes on to the join
abbrev pub Joins : List CellKind → Module → Option Place → Option Place → Type 0
Joins kinds m None join = Unit {0}
Joins kinds m (Some p) None = ⊥
Joins kinds m (Some p) (Some to) = Forward kinds m p to

-- the bodies of a choice go on to one end: both by a jump, or one alone where the other never ends
abbrev pub Merges : List CellKind → Module → Option Place → Option Place → Option Place → Type 0
Merges kinds m first second end = (Joins kinds m first end × Joins kinds m second end) ⊎ ((first ≡ None) × (end ≡ second)) ⊎ ((second ≡ None) × (end ≡ first))

-- ---- straight statements

-- where no way leads nothing is lowered
abbrev pub FromPlace : Option Place → Option Place → (Place → Type 0) → Type 0
FromPlace None end P = end ≡ None
FromPlace (Some p) end P = P p

pub record AssignLow (core : Core) (pairs : List (ℕ × ℕ)) (p : Place) (end : Option Place) : Type 0 where
  pub code : List Instr
  pub rest : List Instr
  pub operands : List Operand
  pub is : p.rest ≡ code ++ rest
  pub computes : Computes core (pair_exprs pairs) p.values code operands
  pub ends : end ≡ Some (record p { rest = rest; values = stored pairs operands p.values })

pub record GateLow (core : Core) (leaf : LeafCall) (p : Place) (end : Option Place) : Type 0 where
  pub code : List Instr
  pub rest : List Instr
  pub operands : List Operand
  pub is : p.rest ≡ code ++ gate_call leaf operands ∷ rest
  pub computes : Computes core (leaf_exprs leaf) p.values code operands
  pub ends : end ≡ Some (record p { rest = rest })

pub record ResetLow (qubit : QubitId) (p : Place) (end : Option Place) : Type 0 where
  pub rest : List Instr
  pub is : p.rest ≡ reset_call qubit ∷ rest
  pub ends : end ≡ Some (record p { rest = rest })

pub record DropLow (qubit : QubitId) (p : Place) (end : Option Place) : Type 0 where
  pub rest : List Instr
  pub result : ℕ
  pub is : p.rest ≡ measure_call qubit result ∷ rest
  pub ends : end ≡ Some (record p { rest = rest })

pub record ReadLow (core : Core) (qubit : QubitId) (c : ℕ) (p : Place) (end : Option Place) : Type 0 where
  pub rest : List Instr
  pub result : ℕ
  pub register : ℕ
  pub is : p.rest ≡ measure_call qubit result ∷ read_call register result ∷ rest
  pub fresh : IsFresh core.cells p.values register
  pub ends : end ≡ Some (record p { rest = rest; values = slice_set p.values c (Register register) })

abbrev pub MeasureLow : Core → QubitId → Option ℕ → Place → Option Place → Type 0
MeasureLow core qubit None p end = DropLow qubit p end
MeasureLow core qubit (Some c) p end = ReadLow core qubit c p end

-- a choice, apart from its bodies
pub record Branches (core : Core) (m : Module) (test : ℕ) (p yes_at no_at : Place) : Type 0 where
  pub code : List Instr
  pub operands : List Operand
  pub is : p.rest ≡ code
  pub computes : Computes core (test ∷ []) p.values code operands
  pub last : p.last ≡ Branch (first_operand operands) yes_at.block no_at.block
  pub leads_yes : Leads core.cells m p.block p.values yes_at
  pub leads_no : Leads core.cells m p.block p.values no_at
  pub later_yes : p.block < yes_at.block
  pub later_no : p.block < no_at.block

-- ---- statements

abbrev pub end_at : List (Option Place) → ℕ → Option Place
end_at [] k = None
end_at (e ∷ es) zero = e
end_at (e ∷ es) (suc k) = end_at es k

abbrev pub start_at : List Place → ℕ → Option Place
start_at [] k = None
start_at (s ∷ ss) zero = Some s
start_at (s ∷ ss) (suc k) = start_at ss k

-- The statement, from a place, is the blocks up to an end; `ends` are those of the enclosing blocks and loops, `starts`
-- those of the enclosing loops.
abbrev pub Low : Core → Module → Stmt → Option Place → Option Place → List (Option Place) → List Place → Type 0
Low core m Skip start end ends starts = end ≡ start
Low core m (Seq a b) start end ends starts = (mid : Option Place) × Low core m a start mid ends starts × Low core m b mid end ends starts
Low core m (Assign pairs) start end ends starts = FromPlace start end (λ p. AssignLow core pairs p end)
Low core m (Gate leaf) start end ends starts = FromPlace start end (λ p. GateLow core leaf p end)
Low core m (Reset qubit) start end ends starts = FromPlace start end (λ p. ResetLow qubit p end)
Low core m (Measure qubit into) start end ends starts = FromPlace start end (λ p. MeasureLow core qubit into p end)
Low core m (If test a b) start end ends starts =
    FromPlace start end (λ p.
    (yes_at : Place) × (no_at : Place) × (yes_end : Option Place) × (no_end : Option Place) × Branches core m test p yes_at no_at
    × Low core m a (Some yes_at) yes_end ends starts × Low core m b (Some no_at) no_end ends starts × Merges core.cells m yes_end no_end end)
Low core m (Block a) start end ends starts =
    FromPlace start end (λ p. (inner_end : Option Place) × Low core m a (Some p) inner_end (end ∷ ends) starts × Joins core.cells m inner_end end)
Low core m (Loop a) start end ends starts =
    FromPlace start end (λ p.
    (head : Place) × (inner_end : Option Place) × Forward core.cells m p head
    × Low core m a (Some head) inner_end (end ∷ ends) (head ∷ starts) × Joins core.cells m inner_end end)
Low core m (Leave k) start end ends starts = FromPlace start end (λ p. (to : Place) × (end_at ends k ≡ Some to) × Forward core.cells m p to × (end ≡ None))
Low core m (Again k) start end ends starts = FromPlace start end (λ p. (to : Place) × (start_at starts k ≡ Some to) × Back core.cells m p to × (end ≡ None))

-- ---- the program

-- the first block
pub record Starts (core : Core) (m : Module) (p : Place) : Type 0 where
  pub target : ModuleBlock
  pub found : slice_get m.blocks 0 ≡ Some target
  pub block : p.block ≡ 0
  pub phis : target.phis ≡ []
  pub body : target.body ≡ initialize_call ∷ p.rest
  pub last : target.last ≡ p.last
  pub values : p.values ≡ replicate (length core.cells) (Fixed (pos 0))

-- the outputs are recorded where the program ends
abbrev pub Returns : List Output → Option Place → Type 0
Returns outputs None = Unit {0}
Returns outputs (Some p) = (p.rest ≡ map (record_call p.values) outputs) × (p.last ≡ Return (pos 0))

-- the module is the core's program
pub record IsGraphOf (core : Core) (m : Module) : Type 0 where
  pub start : Place
  pub end : Option Place
  pub starts : Starts core m start
  pub low : Low core m (program_of core) (Some start) end [] []
  pub returns : Returns core.outputs end
