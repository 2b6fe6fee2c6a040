use Rattle.std.proofs.Common.{ap, sym, arith, ◌∙◌}
use Rattle.qir_module.specs.Numbered.{called_functions}
use Rattle.block_lower.proofs.Settling.{declared_then, declared_else}
use Rattle.block_lower.proofs.settle.declarations.Goals as goal
use Rattle.block_lower.proofs.settle.declarations.Goals.{then-is_called+in_ok-push, else-is_called}

pub loop-f-preserved : goal.loop-f-preserved
loop-f-preserved c = elim c.if-is_called.branch [
  | then-is_called+in_ok-push w ↦ declared_then (called_functions c.args.blocks.now) c.loop-f.f _ _ _ (omega arith) (sym c.is_called.ensures ∙ w.if-is_called.true) (ap (λ v. v.items) w.functions-is ∙ w.in_ok-push.ensures.items) c.loop-f.invariant
  | else-is_called w ↦ declared_else (called_functions c.args.blocks.now) c.loop-f.f _ _ _ (omega arith) (sym c.is_called.ensures ∙ w.if-is_called.false) (ap (λ v. v.items) w.functions-is) c.loop-f.invariant
]
