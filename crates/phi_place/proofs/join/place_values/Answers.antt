use Rattle.std.proofs.Common.{◌<◌, length, arith, ap, sym, ◌∙◌, length-append}
use Rattle.phi_place.proofs.Joins.{values_then, values_else}
use Rattle.phi_place.proofs.join.place_values.Goals as goal
use Rattle.phi_place.proofs.join.place_values.Goals.{then-needs_phi+in_ok-push, else-needs_phi+in_ok-push-2}

pub loop-c-preserved : goal.loop-c-preserved
loop-c-preserved c =
    let within : c.loop-c.c < length c.args.first.now = omega arith in
    elim c.if-needs_phi.branch [
      | then-needs_phi+in_ok-push w ↦
          (let need = sym c.needs_phi.ensures ∙ w.if-needs_phi.true in
          let pushed = ap (λ v. v.items) w.values-is ∙ w.in_ok-push.ensures.items in
          let grown = ap length pushed ∙ length-append c.loop-c.values.items _ in (
            values_then _ _ _ _ _ _ _ _ within need w.free-is pushed c.loop-c.invariant.0,
            omega (arith, w.free-is),
            omega (arith, grown),
          ))
      | else-needs_phi+in_ok-push-2 w ↦
          (let need = sym c.needs_phi.ensures ∙ w.if-needs_phi.false in
          let pushed = ap (λ v. v.items) w.values-is ∙ w.in_ok-push-2.ensures.items in
          let grown = ap length pushed ∙ length-append c.loop-c.values.items _ in (
            values_else _ _ _ _ _ _ _ _ _ within need w.free-is pushed w.get.ensures c.loop-c.invariant.0,
            omega (arith, w.free-is),
            omega (arith, grown),
          ))
    ]
