use Rattle.std.proofs.Common.{◌≡◌, ◌∙◌, sym, ap, arith, true}
use Rattle.std.proofs.lemmas.Slice.Eq.{bytes_eq-Decides}
use Rattle.std.specs.Fmt.{decimal}
use Rattle.std.specs.Str.{bytes_eq}
use Rattle.qq_tool.proofs.Words.{number_in_word, no_number_in_word, decimal_parses}
use Rattle.qq_tool.proofs.command.number_of.Goals as goal

pub returns-in-Err : goal.returns-in-Err
returns-in-Err c = sym (no_number_in_word c.args.most c.args.word.now (λ n small is.
    let parsed = decimal_parses c.args.word.now c.parse.result n c.parse.ensures.value.0 is (omega (arith, c.ranges.most)) in cc))

pub returns-then-number-most : goal.returns-then-number-most
returns-then-number-most c = sym (no_number_in_word c.args.most c.args.word.now (λ n small is.
    let parsed = decimal_parses c.args.word.now c.parse.result n c.parse.ensures.value.0 is (omega (arith, c.ranges.most)) in
    let same : c.in-Ok.number ≡ n = cc in
    omega (arith, same)))

pub returns-then-is_decimal : goal.returns-then-is_decimal
returns-then-is_decimal c =
    let test : bytes_eq c.args.word.now (decimal c.in-Ok.number) ≡ true = cc in
    let is = (bytes_eq-Decides c.args.word.now (decimal c.in-Ok.number)).0 test in
    sym (number_in_word c.args.most c.in-Ok.number c.args.word.now (omega (arith, c.ranges.most)) (omega arith) is)

pub returns-else-is_decimal : goal.returns-else-is_decimal
returns-else-is_decimal c = sym (no_number_in_word c.args.most c.args.word.now (λ n small is.
    let parsed = decimal_parses c.args.word.now c.parse.result n c.parse.ensures.value.0 is (omega (arith, c.ranges.most)) in
    let same : n ≡ c.in-Ok.number = cc in
    let test = (bytes_eq-Decides c.args.word.now (decimal c.in-Ok.number)).1 (is ∙ ap decimal same) in
    cc))
