use Rattle.std.proofs.Common.{◌<◌, ◌≤◌, [], ◌∷◌, length, arith, ◌∙◌, length-append}
use Rattle.std.proofs.lemmas.List.Elements.{All-append}
use Rattle.gate_lists.specs.Amounts.{IsNamed}
use Rattle.gate_flatten.proofs.Exits.{at_exit}
use Rattle.gate_flatten.proofs.Readying.{units_more, units_refused, units_end, one_named}
use Rattle.gate_flatten.proofs.gate.units_of_all.Goals as goal

pub returns-in_err-units-clause-answer : goal.returns-in_err-units-clause-answer
returns-in_err-units-clause-answer c = λ worths.
    let item = rw c.args-2.view_is at c.index.ensures in
    let lt : c.loop-k.k < length c.args.args.now = omega (arith, c.requires.count) in
    at_exit _ _ _ _ c.from_residual.ensures.1 (rw (c.loop-k.invariant.due worths) (
    units_refused c.args.program.now worths c.args.args.now c.args.arguments.now c.loop-k.amounts.items c.loop-k.k c.index.result.now c.index-arguments-k.result _ lt c.loop-k-test.true
    (rw (← item, c.expr.ensures.place, ← c.index-arguments-k.is) (c.in_err-units.ensures.answer worths))))

pub loop-k-preserved : goal.loop-k-preserved
loop-k-preserved c =
    let item = rw c.args-2.view_is at c.index.ensures in
    let lt : c.loop-k.k < length c.args.args.now = omega (arith, c.requires.count) in
    rw c.in_ok-push.ensures (record {
      due = λ worths. c.loop-k.invariant.due worths ∙
          units_more c.args.program.now worths c.args.args.now c.args.arguments.now c.loop-k.amounts.items c.loop-k.k c.index.result.now c.index-arguments-k.result c.in_ok-units.units lt c.loop-k-test.true
          (rw (← item, c.expr.ensures.place, ← c.index-arguments-k.is) (c.in_ok-units.ensures.answer worths));
      count = rw (length-append c.loop-k.amounts.items (c.in_ok-units.units ∷ [])) (omega (arith, c.loop-k.invariant.count));
      named = λ turns all. All-append (IsNamed turns) c.loop-k.amounts.items (c.in_ok-units.units ∷ []) (c.loop-k.invariant.named turns all)
          (one_named turns c.in_ok-units.units (c.in_ok-units.ensures.named turns (rw c.index-arguments-k.is (all c.loop-k.k c.index-arguments-k.result c.loop-k-test.true))));
    })

pub returns-clause-answer : goal.returns-clause-answer
returns-clause-answer c = λ worths.
    let le : length c.args.args.now ≤ c.loop-k.k = omega (arith, c.requires.count) in
    c.loop-k.invariant.due worths ∙ units_end c.args.program.now worths c.args.args.now c.args.arguments.now c.loop-k.amounts.items c.loop-k.k le c.loop-k-test.false
