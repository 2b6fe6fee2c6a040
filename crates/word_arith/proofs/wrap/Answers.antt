use Rattle.std.proofs.Common.{to_z, of_z, ◌≡◌, ◌^◌, pos, ◌∙◌, arith}
use Rattle.std.proofs.lemmas.Int.{to_z-of_z, of_z-to_z}
use Rattle.std.proofs.lemmas.Grind.{common_steps}
use Rattle.std.specs.Int.{w64, w128}
use Rattle.word_arith.specs.WordTy.{value_of, IsValue}
use Rattle.word_arith.proofs.Congruence.{congruent_trans}
use Rattle.word_arith.proofs.Reduction.{reduced_law, reduced_from_reduction}
use Rattle.word_arith.proofs.wrap.Goals as goal

pub returns-then-ty-clause-value : goal.returns-then-ty-clause-value
returns-then-ty-clause-value c =
    let ty = c.args.ty in
    let m = 2 ^ ty.width in
    let low = c.low_bits-low in
    let r = c.sign_extended.result in
    let is : value_of ty (to_z w64 (of_z w64 r)) ≡ r = grind (arith, to_z-of_z) in
    let near = congruent_trans m r (pos low.result) _ c.sign_extended.ensures.congruent low.ensures.congruent in
    let inside : IsValue ty r = grind (arith, common_steps) in
    is ∙ reduced_from_reduction ty c.args.x r (inside, rw (to_z-of_z w128 c.args.x c.ranges.x) at near)

pub returns-else-ty-clause-value : goal.returns-else-ty-clause-value
returns-else-ty-clause-value c =
    let ty = c.args.ty in
    let low = c.low_bits-low in
    let r = pos low.result in
    let is : value_of ty (to_z w64 (of_z w64 c.cast_signed.result)) ≡ r = grind (arith, to_z-of_z, of_z-to_z) in
    let inside : IsValue ty r = grind (arith, common_steps) in
    is ∙ reduced_from_reduction ty c.args.x r (inside, rw (to_z-of_z w128 c.args.x c.ranges.x) at low.ensures.congruent)

pub returns-then-ty-clause-reduction : goal.returns-then-ty-clause-reduction
returns-then-ty-clause-reduction c = reduced_law c.args.ty

pub returns-else-ty-clause-reduction : goal.returns-else-ty-clause-reduction
returns-else-ty-clause-reduction c = reduced_law c.args.ty
