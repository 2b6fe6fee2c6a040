use Rattle.std.proofs.Common.{◌<◌, ◌^◌, ◌∙◌, Ok, arith, ◌+ℤ◌, ℤ, sym, ap, to_z, subst}
use Rattle.std.specs.Int.{w128}
use Rattle.alias_resolve.specs.declared.select.SelectFault.TheVariants.{IndexRange}
use Rattle.alias_resolve.proofs.Bits.{through_bits, range_of_bits, step_of_bits, fits_of_bits, sum_of_bits}
use Rattle.alias_resolve.proofs.Counting.{longer_is_refused}
use Rattle.alias_resolve.proofs.Ranges.{room, room-falls}
use Rattle.alias_resolve.proofs.Turns.{turn-passed, turn-outside, turn-place, turn-last}
use Rattle.alias_resolve.proofs.range.range_places.Goals as goal

pub returns-then-is_longer-clause-err : goal.returns-then-is_longer-clause-err
returns-then-is_longer-clause-err c =
    let longer = longer_is_refused (IndexRange c.args.index 0) c.args.size (through_bits c.args.start) (through_bits c.args.step) (through_bits c.args.stop) (step_of_bits c.args.step c.ranges.step c.requires) (sym c.is_longer.ensures ∙ c.if-is_longer.true) in
    λ _. range_of_bits (λ _. IndexRange c.args.index 0) c.args.size c.args.start c.args.step c.args.stop _ c.ranges.start c.ranges.step c.ranges.stop longer

pub returns-in_default-clause-err : goal.returns-in_default-clause-err
returns-in_default-clause-err c =
    let goes = sym c.has_passed.ensures ∙ c.loop-place-test.true in
    let out = sym c.place_of.ensures ∙ c.in_default.is in
    λ _.
    range_of_bits (λ _. IndexRange c.args.index 0) c.args.size c.args.start c.args.step c.args.stop _ c.ranges.start c.ranges.step c.ranges.stop
    (c.loop-place.invariant (λ _. IndexRange c.args.index 0) ∙ turn-outside (λ _. IndexRange c.args.index 0) c.args.size (through_bits c.args.step) (through_bits c.args.stop) (to_z w128 c.loop-place.number-bits) c.loop-place.places.items (step_of_bits c.args.step c.ranges.step c.requires) goes out)

pub returns-in_default-checked_add-clause-ok : goal.returns-in_default-checked_add-clause-ok
returns-in_default-checked_add-clause-ok c =
    let goes = sym c.has_passed.ensures ∙ c.loop-place-test.true in
    let at = sym c.place_of.ensures ∙ c.in-Some.is in
    let small : c.args.size < 2 ^ 32 = omega arith in
    let last = turn-last (λ _. IndexRange c.args.index 0) c.args.size (through_bits c.args.step) (through_bits c.args.stop) (to_z w128 c.loop-place.number-bits) c.loop-place.places.items (step_of_bits c.args.step c.ranges.step c.requires) goes c.in-Some.place at small (fits_of_bits c.args.step c.ranges.step) (fits_of_bits c.args.stop c.ranges.stop) (λ fits. c.in_default-checked_add.ensures fits) in
    range_of_bits (λ _. IndexRange c.args.index 0) c.args.size c.args.start c.args.step c.args.stop _ c.ranges.start c.ranges.step c.ranges.stop
    (c.loop-place.invariant (λ _. IndexRange c.args.index 0) ∙ last ∙ ap Ok (sym c.in_ok-push.ensures.items))

pub loop-place-smaller : goal.loop-place-smaller
loop-place-smaller c =
    let at = sym c.place_of.ensures ∙ c.in-Some.is in
    let next = sum_of_bits (to_z w128 c.loop-place.number-bits +ℤ through_bits c.args.step) c.in-Some-checked_add.next c.in-Some-checked_add.ensures.0 c.in-Some-checked_add.ensures.1 in
    let falls = room-falls c.args.size c.in-Some.place (through_bits c.args.step) (to_z w128 c.loop-place.number-bits) (step_of_bits c.args.step c.ranges.step c.requires) at in
    subst (λ (z : ℤ). room c.args.size (through_bits c.args.step) z < room c.args.size (through_bits c.args.step) (to_z w128 c.loop-place.number-bits)) (sym next) falls

pub loop-place-preserved : goal.loop-place-preserved
loop-place-preserved c =
    let goes = sym c.has_passed.ensures ∙ c.loop-place-test.true in
    let at = sym c.place_of.ensures ∙ c.in-Some.is in
    let next = sum_of_bits (to_z w128 c.loop-place.number-bits +ℤ through_bits c.args.step) c.in-Some-checked_add.next c.in-Some-checked_add.ensures.0 c.in-Some-checked_add.ensures.1 in
    λ fault_at.
    let turn = turn-place fault_at c.args.size (through_bits c.args.step) (through_bits c.args.stop) (to_z w128 c.loop-place.number-bits) c.loop-place.places.items (step_of_bits c.args.step c.ranges.step c.requires) goes c.in-Some.place at in
    rw (c.in_ok-push.ensures.items, next) (c.loop-place.invariant fault_at ∙ turn)

pub returns-clause-ok : goal.returns-clause-ok
returns-clause-ok c =
    let passed = sym c.has_passed.ensures ∙ c.loop-place-test.false in
    range_of_bits (λ _. IndexRange c.args.index 0) c.args.size c.args.start c.args.step c.args.stop _ c.ranges.start c.ranges.step c.ranges.stop
    (c.loop-place.invariant (λ _. IndexRange c.args.index 0) ∙ turn-passed (λ _. IndexRange c.args.index 0) c.args.size (through_bits c.args.step) (through_bits c.args.stop) (to_z w128 c.loop-place.number-bits) c.loop-place.places.items passed)
