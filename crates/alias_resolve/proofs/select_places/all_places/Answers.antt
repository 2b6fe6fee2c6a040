use Rattle.std.proofs.Common.{◌≡◌, ◌+◌, arith}
use Rattle.alias_resolve.proofs.Bounds.{range-push}
use Rattle.alias_resolve.proofs.select_places.all_places.Goals as goal

pub loop-place-preserved : goal.loop-place-preserved
loop-place-preserved c = let same : 0 + c.loop-place.place ≡ c.loop-place.place = omega arith in rw (c.in_ok-push.ensures.items, c.loop-place.invariant, range-push 0 c.loop-place.place, same)
