use Rattle.std.proofs.Common.{◌≡◌, ◌∙◌, sym, ap, to_z, of_z, eq-eqb, rules}
use Rattle.std.proofs.lemmas.Bool.{eqb-true}
use Rattle.std.proofs.lemmas.Int.{to_z-of_z}
use Rattle.std.specs.Int.{w128}
use Rattle.word_arith.specs.WordTy.{reduced}
use Rattle.word_arith.proofs.Reduction.{value_of-read, reduced-value, reduced_law}
use Rattle.word_arith.proofs.is_value.Goals as goal

pub returns : goal.returns
returns c =
    let ty = c.args.ty in
    let x = c.args.x in
    let v = c.value.result in
    let x_is = to_z-of_z w128 x c.ranges.x in
    let v_is = to_z-of_z w128 v (search rules) in
    let reduction : v ≡ reduced ty x = value_of-read ty c.wrap.result v (search rules) c.value.ensures.value ∙ c.wrap.ensures.value ∙ ap (reduced ty) x_is in (
      λ same.
          let e : v ≡ x = sym v_is ∙ ap (to_z w128) (eqb-true _ _ same) ∙ x_is in
          ((reduced_law ty x x).0 (sym e ∙ reduction)).0,
      λ inside. eq-eqb _ _ (ap (of_z w128) (reduction ∙ sym (reduced-value ty x inside))),
    )
