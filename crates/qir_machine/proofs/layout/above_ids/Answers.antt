use Rattle.std.proofs.Common.{ℕ, ◌<◌, ◌≤◌, take, arith}
use Rattle.std.proofs.lemmas.Option.{slice_get-get_or}
use Rattle.std.specs.List.{flat_map}
use Rattle.qir_machine.specs.Effect.{id_in}
use Rattle.qir_machine.proofs.Rooms.{all_weaker, ids_more}
use Rattle.qir_machine.proofs.layout.above_ids.Goals as goal

pub loop-arg-preserved : goal.loop-arg-preserved
loop-arg-preserved c =
    let before : c.args.bound ≤ c.loop-arg.least = c.loop-arg.invariant.grows in
    let more : c.loop-arg.least ≤ c.above_id-least.result = c.above_id-least.ensures.grows in
    record {
      grows = omega arith;
      above = ids_more (λ (k : ℕ). k < c.above_id-least.result) c.args.args.now c.loop-arg.arg-index _ (slice_get-get_or c.args.args.now c.loop-arg.arg-index _ c.loop-arg-test.true)
          (all_weaker (λ (k : ℕ). k < c.loop-arg.least) (λ (k : ℕ). k < c.above_id-least.result) (flat_map id_in (take c.loop-arg.arg-index c.args.args.now)) (λ k few. omega arith) c.loop-arg.invariant.above)
          c.above_id-least.ensures.above;
    }
