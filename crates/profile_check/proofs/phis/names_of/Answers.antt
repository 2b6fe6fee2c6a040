use Rattle.std.proofs.Common.{◌≡◌, ℕ, ◌+◌, List, ◌++◌, drop, get_or, slice_get, ap, sym, ◌∙◌, arith, append_assoc}
use Rattle.profile_check.specs.Phis.{name_in, names_at}
use Rattle.profile_check.proofs.PhiLemmas.{names_step}
use Rattle.profile_check.proofs.phis.names_of.Goals as goal

pub loop-place-preserved : goal.loop-place-preserved
loop-place-preserved c =
    let blocks = c.args.blocks.now in
    let places = c.args.places.now in
    let i = c.loop-place.place-index in
    let here = name_in (slice_get blocks (get_or places i 0)) in
    let rest = names_at blocks (drop (i + 1) places) in
    let pushed : c.push_name.new.names.items ≡ c.loop-place.names.items ++ here = c.in_ok-push_name.ensures in
    ap (λ (ns : List ℕ). ns ++ rest) pushed
    ∙ append_assoc c.loop-place.names.items here rest
    ∙ ap (λ (ns : List ℕ). c.loop-place.names.items ++ ns) (sym (names_step blocks i places (omega arith)))
    ∙ c.loop-place.invariant
