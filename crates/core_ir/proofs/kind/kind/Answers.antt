use Rattle.std.proofs.Common.{arith, ◌∙◌, sym}
use Rattle.core_ir.proofs.Exprs.{known_says, same_says}
use Rattle.core_ir.proofs.kind.kind.Goals as goal

pub returns-in-Known : goal.returns-in-Known
returns-in-Known c = sym (known_says _ _ _ _ _ _ _ c.requires.fit c.requires.there c.loop-kind.invariant.0 c.find_source.ensures c.in-Known.is) ∙ c.loop-kind.invariant.1

pub loop-kind-smaller : goal.loop-kind-smaller
loop-kind-smaller c = (same_says _ _ _ _ _ _ _ c.requires.fit c.requires.there c.loop-kind.invariant.0 c.find_source.ensures c.in-Same.is).0

pub loop-kind-preserved : goal.loop-kind-preserved
loop-kind-preserved c =
    let step = same_says _ _ _ _ _ _ _ c.requires.fit c.requires.there c.loop-kind.invariant.0 c.find_source.ensures c.in-Same.is in
    (omega (arith, step.0, c.loop-kind.invariant.0), sym step.1 ∙ c.loop-kind.invariant.1)
