use Rattle.std.proofs.Common.{◌∙◌, length, not, ap, refl, sym, arith, Ok}
use Rattle.const_eval.specs.Constant.{register_of, truth_value}
use Rattle.const_eval.proofs.RegisterRows.{length-paired, paired_value, same_test}
use Rattle.const_eval.proofs.register.paired_result.Goals as goal

pub register-requires : goal.register-requires
register-requires c =
    let long = length-paired c.args.op c.args.left.now c.args.right.now c.requires.same in
    omega (arith, ap length c.in_ok-paired-in_default.ensures, long, c.requires.few)

pub returns-in-Equal : goal.returns-in-Equal
returns-in-Equal c =
    let test = same_test c.eq.result c.args.left.now c.args.right.now c.requires.same c.eq.ensures in
    rw c.in-Equal.is (ap (λ b. Ok (truth_value b)) (sym test))

pub returns-in-NotEqual : goal.returns-in-NotEqual
returns-in-NotEqual c =
    let test = same_test _ c.args.left.now c.args.right.now c.requires.same refl in
    rw c.in-NotEqual.is (ap (λ b. Ok (truth_value (not b))) (sym test) ∙ ap (λ b. Ok (truth_value b)) (sym c.ne.ensures))

pub returns-in_ok-paired-in_default : goal.returns-in_ok-paired-in_default
returns-in_ok-paired-in_default c =
    paired_value c.args.op c.args.left.now c.args.right.now c.args.at c.requires.same c.requires.pair c.in_default.not-Equal c.in_default.not-NotEqual
    ∙ ap (λ bits. Ok (register_of bits)) (sym c.in_ok-paired-in_default.ensures) ∙ ap Ok (sym c.register.ensures)
