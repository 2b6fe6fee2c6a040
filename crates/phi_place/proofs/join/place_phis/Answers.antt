use Rattle.std.proofs.Common.{◌<◌, length, arith, ap, sym, ◌∙◌, length-append}
use Rattle.core_ir.specs.declared.expression.CellKind.TheVariants.{Truth}
use Rattle.phi_place.proofs.Joins.{phis_then, phis_else}
use Rattle.phi_place.proofs.join.place_phis.Goals as goal
use Rattle.phi_place.proofs.join.place_phis.Goals.{then-needs_phi+in_ok-entries+in_ok-push, else-needs_phi}

pub loop-c-preserved : goal.loop-c-preserved
loop-c-preserved c =
    let inside : c.loop-c.c < length c.args.kinds.now = omega arith in
    elim c.if-needs_phi.branch [
      | then-needs_phi+in_ok-entries+in_ok-push w ↦
          (let need = sym c.needs_phi.ensures ∙ w.if-needs_phi.true in
          let pushed = ap (λ v. v.items) w.phis-is ∙ w.in_ok-push.ensures.items in
          let grown = ap length pushed ∙ length-append c.loop-c.phis.items _ in (
            phis_then _ c.args.ways.now _ _ _ _ _ _ _ _ _ _ inside need w.free-is pushed w.is_number.ensures w.in_ok-entries.ensures c.loop-c.invariant.0,
            omega (arith, w.free-is, grown),
            omega (arith, grown),
          ))
      | else-needs_phi w ↦
          (let need = sym c.needs_phi.ensures ∙ w.if-needs_phi.false in
          let kept = ap (λ v. v.items) w.phis-is in (
            phis_else _ c.args.ways.now _ _ _ _ Truth _ _ _ inside need w.free-is kept c.loop-c.invariant.0,
            omega (arith, w.free-is, ap length kept),
            omega (arith, ap length kept),
          ))
    ]
