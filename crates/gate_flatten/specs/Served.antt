-- Serves private contracts alone: what the code's calls, gates and operands are seen as, and what is asked of a place where a
-- gate is called.
use Rattle.std.specs.Prelude.{◌≡◌, ℕ, ◌+◌, ◌<◌, true, List, map, length, slice_get, All, ℤ, Option, Some, Result, IfOk, OnOk, Vec}
use Rattle.std.specs.declared.alloc.Global.{Global}
use Rattle.qq_base.specs.declared.refusal.Fault.{Fault}
use Rattle.qq_base.specs.declared.rule.Rule.{Rule}
use Rattle.qq_base.specs.declared.run.QubitId.{QubitId}
use Rattle.gate_table.specs.Table.{row_of}
use Rattle.qasm_ast.specs.declared.expr.OperandName.{OperandName}
use Rattle.qasm_ast.specs.declared.expr.OperandRef.{OperandRef}
use Rattle.qasm_ast.specs.declared.stmt.StmtId.{StmtId}
use Rattle.qasm_ast.specs.Tree.{Statement}
use Rattle.qasm_ast.specs.Whole.{Source, AllOf, IsExpr, ModifierFits, DeclaredFits, NameFits, OperandFits, IsStmt}
use Rattle.qasm_ast.specs.View.{trees_in, change_in, name_in, operand_in, statement_in, statements_in}
use Rattle.alias_resolve.specs.declared.select.QubitList.{QubitList}
use Rattle.alias_resolve.specs.Places.{Selected}
use Rattle.alias_resolve.specs.Seen.{seen_qubits}
use Rattle.const_eval.specs.declared.environment.Callable.{Callable}
use Rattle.const_eval.specs.Meaning.{Meaning}
use Rattle.const_eval.specs.Seen.{HasNames, MeaningInside}
use Rattle.const_eval.specs.Walk.{Walk, each_in_turn}
use Rattle.gate_lists.specs.declared.expansion.TurnExpr.{TurnExpr}
use Rattle.gate_lists.specs.declared.member.Member.{Member}
use Rattle.gate_lists.specs.declared.modified.Modified.{Modified}
use Rattle.gate_lists.specs.declared.work.Work.{Work}
use Rattle.gate_lists.specs.Amounts.{units_in, IsNamed, params_of, qubits_of}
use Rattle.gate_lists.specs.Growing.{Grows}
use Rattle.gate_lists.specs.Instructions.{Instruction}
use Rattle.gate_lists.specs.Modifiers.{control_count}
use Rattle.gate_arguments.specs.declared.scope.Argument.{Argument}
use Rattle.gate_arguments.specs.declared.scope.Body.{Body}
use Rattle.gate_arguments.specs.Environment.{declarations_in}
use Rattle.gate_arguments.specs.Scope.{Scope}
use Rattle.gate_arguments.specs.Seen.{scope_seen, scope_names, scope_callables, arguments_seen, open_in, ArgumentFits, HasOperand, TurnsFit}
use Rattle.gate_flatten.specs.declared.call.Call.{Call}
use Rattle.gate_flatten.specs.declared.gate.Defined.{Defined}
use Rattle.gate_flatten.specs.declared.gate.Gate.{Gate}
use Rattle.gate_flatten.specs.declared.gate.Gate.TheVariants as gate
use Rattle.gate_flatten.specs.declared.gate.Ready.{Ready}
use Rattle.gate_flatten.specs.declared.gate.Ready.TheVariants as ready
use Rattle.gate_flatten.specs.declared.applications.Placed.{Placed}
use Rattle.gate_flatten.specs.declared.ready_call.Prepared.{Prepared}
use Rattle.gate_flatten.specs.Expand as spec
use Rattle.gate_flatten.specs.Applications as applications
use Rattle.gate_arguments.specs.Answering.{HasCallables, HasInside, IsDefinition}

-- ---- operands

abbrev pub placed_seen : Placed → applications.Placed (Selected QubitId)
placed_seen s = record { place = s.place; thing = seen_qubits s.list }

-- what is single is one
abbrev pub IsOne : QubitList → Type 0
IsOne list = list.single ≡ true → length list.ids.items ≡ 1

-- the environment answers for an operand
abbrev pub AnswersOperand : List (OperandName × Result (Selected QubitId) Rule) → List ((ℕ × ℕ) × MeaningInside) → Option Body → OperandRef → Type 0
AnswersOperand operands inside body o = HasOperand operands inside body o.name

-- ---- calls and gates of a program

module _ (p : Source) where
  abbrev pub call_seen : Call → spec.Call
  call_seen call = spec.call_of (map (change_in p) call.mods.now) (name_in p call.gate) (trees_in p call.args.now) (map (operand_in p) call.operands.now)

  pub record CallFits (call : Call) : Type 0 where
    pub mods : AllOf (ModifierFits (length p.exprs)) call.mods.now
    pub name : DeclaredFits (length p.names) call.gate
    pub args : AllOf (IsExpr (length p.exprs)) call.args.now
    pub operands : AllOf (OperandFits (length p.names) (length p.exprs)) call.operands.now

  abbrev pub gate_seen : Gate → spec.Gate
  gate_seen (gate.Table g row) = spec.TableGate g.0 row
  gate_seen (gate.Defined d) = spec.DefinedGate d.def (map (name_in p) d.params.now) (map (name_in p) d.qubits.now) (statements_in p d.body.now)

  abbrev pub ready_seen : (ℕ → ℤ) → Ready → spec.Ready
  ready_seen worths (ready.Table g args count) = spec.TableReady g.0 count (map (units_in worths) args.items)
  ready_seen worths (ready.Defined d arguments) = spec.DefinedReady d.def (map (name_in p) d.params.now) (map (name_in p) d.qubits.now) (statements_in p d.body.now) (arguments_seen worths arguments.now)

  pub record DefinedFits (d : Defined) : Type 0 where
    pub definition : IsDefinition (slice_get p.stmts d.def.0)
    pub params : AllOf (DeclaredFits (length p.names)) d.params.now
    pub names : AllOf (DeclaredFits (length p.names)) d.qubits.now
    pub body : AllOf (IsStmt (length p.stmts)) d.body.now

  abbrev pub GateFits : Gate → Type 0
  GateFits (gate.Table g row) = row_of g.0 ≡ Some row
  GateFits (gate.Defined d) = DefinedFits d

  abbrev pub ReadyFits : ℕ → Ready → Type 0
  ReadyFits turns (ready.Table g args count) = (g.0 < 31) × (length args.items ≡ params_of g.0) × (count ≡ qubits_of g.0) × All (IsNamed turns) args.items
  ReadyFits turns (ready.Defined d arguments) = DefinedFits d × (length arguments.now ≡ length d.params.now) × All (ArgumentFits turns) arguments.now

-- how many qubits a gate takes
abbrev pub count_of : Ready → ℕ
count_of (ready.Table g args count) = count
count_of (ready.Defined d arguments) = length d.qubits.now

-- a call that is ready for its applications: each has as many qubits as its modifiers and its gate take
pub record PreparedFits (p : Source) (turns : ℕ) (call : Prepared) : Type 0 where
  pub ready : ReadyFits p turns call.ready
  pub qubits : (k : ℕ) → k < call.times → length (applications.application (map placed_seen call.operands.items) k) ≡ control_count call.modifiers.items + count_of call.ready

-- ---- walks at a place

-- by the maps of an environment
module _ (p : Source) (names : List (ℕ × Meaning)) (callables : List (ℕ × Callable)) (operands : List (OperandName × Result (Selected QubitId) Rule)) (inside : List ((ℕ × ℕ) × MeaningInside)) where
  -- what is asked of the environment of a place
  pub record Served (body : Option Body) : Type 0 where
    pub has_names : HasNames p (scope_names names inside body)
    pub has_callables : HasCallables p (scope_callables callables inside body)
    pub has_inside : HasInside p inside

  -- and of the body of a gate
  pub record ServedBody (turns : ℕ) (body : Option Body) : Type 0 where
    pub served : Served body
    pub turns_fit : TurnsFit turns body
    pub has_operands : (name : OperandName) → NameFits (length p.names) name → HasOperand operands inside body name

  module _ (worths : ℕ → ℤ) (levels : ℕ) where
    -- a statement in the body of a called gate
    abbrev pub member_by : Scope → Statement → Walk (List Instruction)
    member_by = spec.member_list (declarations_in p inside) (spec.call_list (declarations_in p inside) levels)

    module _ (body : Option Body) where
      abbrev pub call_walk : Call → List Argument → Walk (List Instruction)
      call_walk call arguments = spec.call_list (declarations_in p inside) levels (scope_seen p worths names callables operands inside body) (call_seen p call) (arguments_seen worths arguments)

      -- the applications of a call
      abbrev pub applications_walk : Prepared → Walk (List Instruction)
      applications_walk call = each_in_turn (spec.applied (declarations_in p inside) member_by (open_in body) (ready_seen p worths call.ready) call.modifiers.items) (applications.applications call.times (map placed_seen call.operands.items))

      abbrev pub applied_walk : Ready → List Modified → List QubitId → Walk (List Instruction)
      applied_walk made modifiers qubits = spec.list_on (declarations_in p inside) member_by (open_in body) (ready_seen p worths made) modifiers qubits

      abbrev pub gate_walk : Ready → List QubitId → Walk (List Instruction)
      gate_walk made qubits = spec.gate_list (declarations_in p inside) member_by (open_in body) (ready_seen p worths made) qubits

      abbrev pub body_walk : List StmtId → Walk (List Instruction)
      body_walk ids = spec.body_list (member_by (scope_seen p worths names callables operands inside body)) (statements_in p ids)

      abbrev pub member_walk : StmtId → Walk (List Instruction)
      member_walk id = member_by (scope_seen p worths names callables operands inside body) (statement_in p id.0)

-- ---- what a walk leaves

-- the turns that were there keep their places, and of members it is known what was paid for them
pub record Leaves (old new : Work) (result : Result (Vec Member Global) Fault) : Type 0 where
  pub kept : (k : ℕ) (t : TurnExpr) → slice_get old.turns.items.items k ≡ Some t → slice_get new.turns.items.items k ≡ Some t
  pub grown : IfOk result (λ v. Grows old new v.items)
  -- no argument of the outermost call is named that was not named before
  pub args : OnOk result (new.turns.args ≡ old.turns.args)
