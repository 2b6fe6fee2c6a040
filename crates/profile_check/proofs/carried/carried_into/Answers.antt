use Rattle.std.proofs.Common.{◌≡◌, ℕ, ◌<◌, nat_lt, true, false, not, ◌||◌, List, length, get_or, refl, ap, sym, ◌∙◌, arith, lt-ltb}
use Rattle.std.proofs.lemmas.Bool.{le-ltb}
use Rattle.std.specs.Prelude.{bit_and, bit_or}
use Rattle.std.specs.List.{list_all}
use Rattle.qir_module.specs.Carried.{is_empty}
use Rattle.profile_check.specs.Rounds.{is_bit, has_bit}
use Rattle.profile_check.proofs.BitLemmas.{ones_bit, later_more, entered_more, met_more}
use Rattle.profile_check.proofs.carried.carried_into.Goals as goal
use Rattle.profile_check.proofs.carried.carried_into.Goals.{then-place-block, else-place-block}

pub loop-place-init : goal.loop-place-init
loop-place-init c = (refl, λ j within. ones_bit j within)

pub loop-place-preserved : goal.loop-place-preserved
loop-place-preserved c =
    let before = c.args.before.now in
    let carried = c.args.carried.now in
    let assigned = c.args.assigned.now in
    let i = c.loop-place.place-index in
    let x = get_or before i 0 in
    let inside : i < length before = omega arith in
    elim c.if-place-block.branch [
      | then-place-block w ↦
          let lower : x < c.args.block = w.if-place-block.true in
          let below : nat_lt x c.args.block ≡ true = lt-ltb x c.args.block lower in
          let met : c.if-place-block.met ≡ bit_and c.loop-place.met (bit_or (get_or carried x 0) (get_or assigned x 0)) =
          w.met-is
          ∙ ap (λ (n : ℕ). bit_and c.loop-place.met (bit_or n w.word-then-place-block.result)) w.word.ensures
          ∙ ap (λ (n : ℕ). bit_and c.loop-place.met (bit_or (get_or carried x 0) n)) w.word-then-place-block.ensures in (
            w.entered-is ∙ entered_more c.args.block before i x inside refl below,
            λ j small. ap (λ (n : ℕ). is_bit n j) met ∙ met_more carried assigned c.args.block before i x c.loop-place.met j inside refl below (c.loop-place.invariant.1 j small),
          )
      | else-place-block w ↦
          let past : nat_lt x c.args.block ≡ false = le-ltb x c.args.block w.if-place-block.false in
          let same = later_more c.args.block before i x inside refl past in (
            w.entered-is ∙ c.loop-place.invariant.0 ∙ ap (λ (xs : List ℕ). not (is_empty xs)) (sym same),
            λ j small. ap (λ (n : ℕ). is_bit n j) w.met-is ∙ c.loop-place.invariant.1 j small ∙ ap (list_all (λ p. has_bit carried p j || has_bit assigned p j)) (sym same),
          )
    ]
