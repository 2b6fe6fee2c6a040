use Rattle.std.proofs.Common.{◌+◌, ◌<◌, ◌^◌, ◌∙◌, refl, arith}
use Rattle.std.proofs.lemmas.List.FromFn.{length-range_with_len}
use Rattle.std.proofs.lemmas.Result.{err_from_is_err_and}
use Rattle.alias_resolve.specs.Seen.{seen_places}
use Rattle.alias_resolve.proofs.Bounds.{All-range, positions_of-first, small-first, small-later, Fits-selected_by, Fits-narrowed, narrowed_by-drop}
use Rattle.alias_resolve.proofs.select_places.positions.Goals as goal

pub returns-in_default-clause-within : goal.returns-in_default-clause-within
returns-in_default-clause-within c = rw c.in_ok-all_places.ensures (All-range c.args.length)

pub returns-in_default-clause-few : goal.returns-in_default-clause-few
returns-in_default-clause-few c = let small : c.args.length < 2 ^ 32 = omega arith in rw (c.in_ok-all_places.ensures, length-range_with_len 0 c.args.length) small

pub returns-in_err-selection-clause-err : goal.returns-in_err-selection-clause-err
returns-in_err-selection-clause-err c =
    let split = c.in-Some.ensures.cases.0 in
    let few = small-first c.args.index.now c.in-Some.first.now c.in-Some.later.now split c.requires.small in
    let small : c.args.length < 2 ^ 32 = omega arith in
    let whole = positions_of-first c.args.length c.args.index.now c.in-Some.first.now c.in-Some.later.now split small few in
    let p = err_from_is_err_and c.from_residual-in_err-selection.result c.from_residual-in_err-selection.ensures.1 in
    rw (p.1, p.2) (λ ne. whole ∙ rw (c.in_err-selection.ensures.err ne) refl)

pub loop-k-init : goal.loop-k-init
loop-k-init c =
    let split = c.in-Some.ensures.cases.0 in
    let few = small-first c.args.index.now c.in-Some.first.now c.in-Some.later.now split c.requires.small in
    let small : c.args.length < 2 ^ 32 = omega arith in
    let whole = positions_of-first c.args.length c.args.index.now c.in-Some.first.now c.in-Some.later.now split small few in
    record {
      due = whole ∙ rw c.in_ok-selection.ensures.ok refl;
      fits = Fits-selected_by 0 c.args.length c.in-Some.first.now (seen_places c.in_ok-selection.selection) small few c.in_ok-selection.ensures.ok;
    }

pub narrowed-requires-clause-small : goal.narrowed-requires-clause-small
narrowed-requires-clause-small c =
    small-later c.args.index.now c.in-Some.first.now c.in-Some.later.now c.loop-k.k c.index-later-k.result c.in-Some.ensures.cases.0 c.requires.small c.loop-k-test.true c.index-later-k.is

pub loop-k-preserved : goal.loop-k-preserved
loop-k-preserved c =
    let few = small-later c.args.index.now c.in-Some.first.now c.in-Some.later.now c.loop-k.k c.index-later-k.result c.in-Some.ensures.cases.0 c.requires.small c.loop-k-test.true c.index-later-k.is in
    let next = narrowed_by-drop (c.loop-k.k + 1) (seen_places c.loop-k.selection) c.in-Some.later.now c.loop-k.k c.index-later-k.result c.loop-k-test.true c.index-later-k.is in
    record {
      due = c.loop-k.invariant.due ∙ next ∙ rw c.in_ok-selection-2.ensures.ok refl;
      fits = Fits-narrowed c.args.length (c.loop-k.k + 1) (seen_places c.loop-k.selection) (seen_places c.in_ok-selection-2.selection) c.index-later-k.result c.loop-k.invariant.fits few c.in_ok-selection-2.ensures.ok;
    }
