-- The outermost call, as its walk is due.
use Rattle.std.proofs.Common.{◌≡◌, ℕ, ◌-◌, List, length, map, ℤ, Option, Some, None, Result, Ok, refl, sym, ap, ◌∙◌}
use Rattle.qq_base.specs.declared.refusal.Fault.{Fault}
use Rattle.qq_base.specs.declared.refusal.Fault.TheVariants as fault
use Rattle.qq_base.specs.declared.rule.Rule.{Rule}
use Rattle.qq_base.specs.declared.run.QubitId.{QubitId}
use Rattle.qasm_ast.specs.declared.expr.ExprId.{ExprId}
use Rattle.qasm_ast.specs.declared.expr.OperandName.{OperandName}
use Rattle.qasm_ast.specs.declared.expr.OperandRef.{OperandRef}
use Rattle.qasm_ast.specs.declared.stmt.Declared.{Declared}
use Rattle.qasm_ast.specs.declared.stmt.Modifier.{Modifier}
use Rattle.qasm_ast.specs.declared.stmt.Stmt.{Stmt}
use Rattle.qasm_ast.specs.declared.stmt.StmtKind.{StmtKind}
use Rattle.qasm_ast.specs.declared.stmt.StmtKind.TheVariants as s
use Rattle.qasm_ast.specs.Tree.{Statement, stmt_of}
use Rattle.qasm_ast.specs.View as view
use Rattle.qasm_ast.specs.Whole.{Source}
use Rattle.alias_resolve.specs.Places.{Selected}
use Rattle.const_eval.specs.declared.environment.Callable.{Callable}
use Rattle.const_eval.specs.Answers.{Fails}
use Rattle.const_eval.specs.Constant.{Constant}
use Rattle.const_eval.specs.Meaning.{Meaning}
use Rattle.const_eval.specs.Seen.{MeaningInside}
use Rattle.const_eval.specs.Walk.{Walk, within_budget}
use Rattle.gate_lists.specs.declared.budget.Budget.{Budget}
use Rattle.gate_lists.specs.Instructions.{Instruction, without_phases}
use Rattle.gate_lists.specs.Paid.{paid_from}
use Rattle.gate_lists.specs.Seen.{leaf_of}
use Rattle.gate_arguments.specs.declared.scope.Argument.{Argument}
use Rattle.gate_arguments.specs.Environment.{declarations_in, scope_in}
use Rattle.gate_arguments.specs.Scope.{Scope}
use Rattle.gate_arguments.specs.Seen.{arguments_seen, scope_seen}
use Rattle.gate_flatten.specs.Expand.{Call, call_of, call_list}
use Rattle.gate_flatten.specs.Outer.{OuterMeaning}
use Rattle.gate_flatten.specs.Serves.{HasParts}
use Rattle.gate_flatten.specs.Seen.{due, due_expansion, due_call, outer_arguments}
use Rattle.gate_flatten.proofs.Dueing.{full, dropped, due_paid, due_fails}

module _ (p : Source) (names : List (ℕ × Meaning)) (callables : List (ℕ × Callable)) (operands : List (OperandName × Result (Selected QubitId) Rule)) (inside : List ((ℕ × ℕ) × MeaningInside)) where
  -- outside of bodies no name is a turn
  scope_same : (worths : ℕ → ℤ) → scope_seen p worths names callables operands inside None ≡ scope_in p names callables operands
  scope_same worths = refl

  module _ (call : ℕ) (stmt : Stmt) (seen : view.statement_in p call ≡ view.stmt_in p stmt) (mods : List Modifier) (name : Declared) (args : List ExprId) (os : List OperandRef) (is : stmt.kind ≡ s.GateCall mods name args os) where
    abbrev written : Call
    written = call_of (map (view.change_in p) mods) (view.name_in p name) (view.trees_in p args) (map (view.operand_in p) os)

    abbrev kind_seen : StmtKind → Statement
    kind_seen kind = stmt_of p.names (view.tree_in p) (view.statement_in p) kind stmt.at stmt.close

    abbrev pub walk_here : (ℕ → ℤ) → List Argument → Walk (List Instruction)
    walk_here worths arguments = call_list (declarations_in p inside) 64 (scope_seen p worths names callables operands inside None) written (arguments_seen worths arguments)

    due_is : (given worths : ℕ → ℤ) (outers : List OuterMeaning) (arguments : List Argument) (budget : ℕ) → arguments_seen worths arguments ≡ outer_arguments given 0 outers
        → due_call p call names callables operands inside outers budget given ≡ due (within_budget budget stmt.at (dropped budget stmt.at (walk_here worths arguments)))
    due_is given worths outers arguments budget same =
        ap (λ (st : Statement). due_expansion (declarations_in p inside) (scope_in p names callables operands) (outer_arguments given 0 outers) st budget) (seen ∙ ap kind_seen is)
        ∙ ap (λ (cs : List Constant). due_expansion (declarations_in p inside) (scope_in p names callables operands) cs (kind_seen (s.GateCall mods name args os)) budget) (sym same)
        ∙ ap (λ (scope : Scope). due_expansion (declarations_in p inside) scope (arguments_seen worths arguments) (kind_seen (s.GateCall mods name args os)) budget) (sym (scope_same worths))

    pub call_answered : (given worths : ℕ → ℤ) (outers : List OuterMeaning) (arguments : List Argument) (budget : ℕ) (instructions : List Instruction) (rest : Budget)
        → arguments_seen worths arguments ≡ outer_arguments given 0 outers
        → paid_from (full budget stmt.at) (walk_here worths arguments) ≡ Ok (instructions, rest)
        → due_call p call names callables operands inside outers budget given ≡ Ok (record { leaves = map leaf_of (without_phases instructions); cost = budget - rest.left })
    call_answered given worths outers arguments budget instructions rest same paid =
        due_is given worths outers arguments budget same ∙ due_paid budget stmt.at (walk_here worths arguments) instructions rest paid

    pub call_fails : (given worths : ℕ → ℤ) (outers : List OuterMeaning) (arguments : List Argument) (budget : ℕ) (why : Fault)
        → arguments_seen worths arguments ≡ outer_arguments given 0 outers
        → Fails why (paid_from (full budget stmt.at) (walk_here worths arguments))
        → Fails why (due_call p call names callables operands inside outers budget given)
    call_fails given worths outers arguments budget fault.Memory same e = tt
    call_fails given worths outers arguments budget (fault.Refused refusal) same e =
        due_is given worths outers arguments budget same ∙ due_fails budget stmt.at (walk_here worths arguments) (fault.Refused refusal) e

-- the outermost call has as many arguments as the environment answers for
pub parts_count : (operands : List (OperandName × Result (Selected QubitId) Rule)) (outers : List OuterMeaning) (o : Option Stmt) (stmt : Stmt) (mods : List Modifier) (name : Declared) (args : List ExprId) (os : List OperandRef)
    → o ≡ Some stmt → stmt.kind ≡ s.GateCall mods name args os → HasParts operands outers o → length outers ≡ length args
parts_count operands outers o stmt mods name args os e is parts = let both = rw (e, is) at parts in both.1
