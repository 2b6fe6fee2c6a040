use Rattle.std.proofs.Common.{◌≡◌, ℤ, Some, subst, sym}
use Rattle.std.specs.Int.{w128}
use Rattle.std.proofs.lemmas.Int.{to_z-of_z}
use Rattle.qasm_types.specs.Values.{cast}
use Rattle.const_eval.specs.Numbered.{IsNumberOf, IsReducedNumber, value_for}
use Rattle.const_eval.specs.Seen.{constant_of}
use Rattle.const_eval.proofs.Counting.{cast-reduced}
use Rattle.const_eval.proofs.number.number_at.Goals as goal

pub returns-in_default : goal.returns-in_default
returns-in_default c =
    let k = c.args.constant.now in
    let ty = c.args.ty in
    let z = c.number_in.result in
    let r = c.reduced.result in
    let first = to_z-of_z w128 z (record { sfits = c.number_in.type_inv }) in
    let last = to_z-of_z w128 r (record { sfits = c.reduced.type_inv }) in
    let h : IsReducedNumber ty z r = subst (λ (x : ℤ). IsReducedNumber ty x r) first c.reduced.ensures in
    let facts = cast-reduced k ty z r c.requires.row c.requires.numbered c.in_default.not-Bool c.in_default.not-Angle c.number_in.ensures.number h in
    record {
      number = subst (λ (x : ℤ). cast (constant_of k).type (constant_of k).value ty ≡ Some (value_for ty x)) (sym last) facts.0;
      stands = subst (λ (x : ℤ). IsNumberOf ty x) (sym last) facts.1;
    }
