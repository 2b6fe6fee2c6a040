use Rattle.std.proofs.Common.{◌≡◌, ◌<◌, ◌≤◌, length, ap, arith, ◌∙◌}
use Rattle.gate_flatten.proofs.Exits.{at_exit}
use Rattle.gate_flatten.proofs.Modifying.{modifiers_more, modifiers_fail, modifiers_end}
use Rattle.gate_flatten.proofs.modifiers.modifiers_at.Goals as goal

pub returns-in_err-known : goal.returns-in_err-known
returns-in_err-known g c =
    let same : c.deref-modifier-items.result.now ≡ c.args.mods.now = cc in
    let lt : c.loop-modifier.modifier-index < length c.args.mods.now = omega (arith, ap length same) in
    let fails = rw same at c.in_err-known.ensures in
    at_exit _ _ _ _ c.from_residual.ensures.1 (rw c.loop-modifier.invariant (modifiers_fail c.args.program.now _ _ _ _ _ _ _ lt fails))

pub loop-modifier-preserved : goal.loop-modifier-preserved
loop-modifier-preserved g c =
    let same : c.deref-modifier-items.result.now ≡ c.args.mods.now = cc in
    let lt : c.loop-modifier.modifier-index < length c.args.mods.now = omega (arith, ap length same) in
    let known = rw same at c.in_ok-known.ensures in
    rw c.in_ok-push.ensures (c.loop-modifier.invariant ∙ modifiers_more c.args.program.now _ _ _ _ _ _ _ _ lt known)

pub returns : goal.returns
returns g c =
    let same : c.deref-modifier-items.result.now ≡ c.args.mods.now = cc in
    let le : length c.args.mods.now ≤ c.loop-modifier.modifier-index = omega (arith, ap length same) in
    c.loop-modifier.invariant ∙ modifiers_end c.args.program.now _ _ _ _ _ le
