use Rattle.std.proofs.Common.{◌≡◌, true, arith}
use Rattle.std.specs.Char.{is_ascii_digit}
use Rattle.std.proofs.lemmas.List.Sums.{prefix_len-le-length}
use Rattle.qq_tool.specs.Reading.{is_numeral}
use Rattle.qq_tool.proofs.Numbers.{digits_in_front, numeral_tells}
use Rattle.qq_tool.proofs.read.number.Goals as goal

pub split_at-requires : goal.split_at-requires
split_at-requires c = omega (arith, c.digit_count.ensures, prefix_len-le-length is_ascii_digit c.args.bytes.now)

pub value_of-requires-clause-few : goal.value_of-requires-clause-few
value_of-requires-clause-few c =
    let passes : is_numeral c.split_at.result.0.now ≡ true = cc in
    (numeral_tells c.split_at.result.0.now passes).few

pub value_of-requires-clause-digits : goal.value_of-requires-clause-digits
value_of-requires-clause-digits c = rw (c.split_at.ensures.front, c.digit_count.ensures) (digits_in_front c.args.bytes.now)
