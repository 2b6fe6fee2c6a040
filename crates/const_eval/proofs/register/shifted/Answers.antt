use Rattle.std.proofs.Common.{◌≡◌, ◌∙◌, min, length, unsigned_abs, ap, sym, Ok, int_lt, pos, false}
use Rattle.std.specs.Int.{w128}
use Rattle.std.proofs.lemmas.Int.{to_z-of_z}
use Rattle.const_eval.specs.Constant.{register_of}
use Rattle.const_eval.proofs.RegisterRows.{no_amount_below, right_only, shifted_left, shifted_right}
use Rattle.const_eval.proofs.register.shifted.Goals as goal
use Rattle.const_eval.proofs.register.shifted.Goals.{in-ShiftLeft+in_ok-moved-in-ShiftLeft, in_default+in_ok-moved-in_default}

pub returns : goal.returns
returns c =
    let some : int_lt c.args.amount (pos 0) ≡ false = no_amount_below c.args.amount c.ranges.amount c.if-amount-lt0.false in
    let is_count : c.least-count.result ≡ min (unsigned_abs c.args.amount) (length c.args.bits.now) = rw (to_z-of_z w128 c.args.amount c.ranges.amount) at c.least-count.ensures in
    elim c.match-op.branch [
      | in-ShiftLeft+in_ok-moved-in-ShiftLeft w ↦
          rw w.in-ShiftLeft.is
          (shifted_left c.args.at c.args.bits.now c.args.amount c.least-count.result some is_count
          ∙ ap (λ bits. Ok (register_of bits)) (sym (ap (λ v. v.items) w.moved-is ∙ w.in_ok-moved-in-ShiftLeft.ensures)) ∙ ap Ok (sym c.register.ensures))
      | in_default+in_ok-moved-in_default w ↦
          rw (right_only c.args.op c.requires.shift w.in_default.not-ShiftLeft)
          (shifted_right c.args.at c.args.bits.now c.args.amount c.least-count.result some is_count
          ∙ ap (λ bits. Ok (register_of bits)) (sym (ap (λ v. v.items) w.moved-is ∙ w.in_ok-moved-in_default.ensures)) ∙ ap Ok (sym c.register.ensures))
    ]
