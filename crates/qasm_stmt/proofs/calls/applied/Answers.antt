use Rattle.std.proofs.Common.{le_refl, refl, arith}
use Rattle.qasm_grammar.specs.Parts.{call_of}
use Rattle.qasm_grammar.specs.Reader.{read_applied, read_operands}
use Rattle.qasm_stmt.specs.Seen.{IsTree, IsChange}
use Rattle.qasm_stmt.proofs.Filling.{no_items, list_later}
use Rattle.qasm_stmt.proofs.Growing.{name_later, tree_later}
use Rattle.qasm_expr.proofs.Exits.{handed, handed_mark}
use Rattle.qasm_stmt.proofs.calls.applied.Goals as goal

pub returns-in_err-operands-clause-gives : goal.returns-in_err-operands-clause-gives
unfolding read_applied read_operands
returns-in_err-operands-clause-gives c = λ x es s u.
    handed _ _ _ _ c.from_residual.ensures c.in_err-operands.ensures.gives (le_refl _) (λ e h. rw h refl)

pub returns-in_err-at-clause-gives : goal.returns-in_err-at-clause-gives
unfolding read_applied read_operands
returns-in_err-at-clause-gives c = λ x es s u.
    let os = c.in_ok-operands.ensures.gives in
    handed_mark _ _ _ _ c.from_residual-in_err-at.ensures c.in_err-at.ensures os.2 os.3 (λ e h. rw (os.4, h) refl)

pub returns-clause-gives : goal.returns-clause-gives
unfolding read_applied read_operands
returns-clause-gives c = λ x es s u.
    let os = c.in_ok-operands.ensures.gives in
    let k = c.in_ok-at.ensures in
    let grown = c.in_ok-operands.ensures.grown in (
      call_of x es os.0,
      record {
        changes = no_items (IsChange c.operands.new.arena) c.new.result.items c.new.ensures.items;
        name = name_later c.requires.sound grown c.args.gate x s;
        arguments = list_later (IsTree c.args.arena.now) (IsTree c.operands.new.arena) (tree_later c.requires.sound grown) c.args.args.items es u;
        operands = os.1;
      },
      omega (arith, os.2, k.1),
      k.2,
      rw (os.4, k.4) refl,
    )
