use Rattle.std.proofs.Common.{◌≡◌, ◌+◌, le_refl, refl, sym, ◌∙◌}
use Rattle.std.proofs.lemmas.Result.{IfOk-weaker}
use Rattle.qasm_expr.proofs.Exits.{behind}
use Rattle.qasm_grammar.specs.Reader.{read_operand}
use Rattle.qasm_stmt.specs.Seen.{IsOperand, IsWire, Grown}
use Rattle.qasm_stmt.proofs.Growing.{grown_same}
use Rattle.qasm_stmt.proofs.Showing.{gives_map}
use Rattle.qasm_stmt.proofs.operands.operand.Goals as goal

pub returns-then-begins_name-clause-gives : goal.returns-then-begins_name-clause-gives
unfolding read_operand
returns-then-begins_name-clause-gives c =
    behind _ _ _ _ _ _ c.target.result (le_refl _) (rw (sym c.begins_name.ensures ∙ c.if-begins_name.true) refl) c.target.ensures.gives

pub returns-clause-gives : goal.returns-clause-gives
unfolding read_operand
returns-clause-gives c =
    behind _ _ _ _ _ _ c.hardware.result (le_refl _) (rw (sym c.begins_name.ensures ∙ c.if-begins_name.false) refl)
    (gives_map IsWire (IsOperand c.args.arena.now) _ _ _ c.hardware.result (λ x o w. w c.args.arena.now) c.hardware.ensures.gives)

pub returns-clause-grown : goal.returns-clause-grown
returns-clause-grown c =
    IfOk-weaker c.hardware.result (λ r. r.1 ≡ c.args.from + 1) (λ r. Grown c.args.arena.now c.args.arena.now) (λ r e. grown_same c.args.arena.now) c.hardware.ensures.next
