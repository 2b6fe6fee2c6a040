use Rattle.std.proofs.Common.{◌≡◌, ◌-◌, ◌<◌, suc, length, take, sym, ap, ◌∙◌, arith}
use Rattle.qasm_grammar.specs.Answer.{ends_in, is_version_word}
use Rattle.program_parser.proofs.Texts.{last_in}
use Rattle.program_parser.proofs.refusal.is_behind_version_word.Goals as goal

pub returns-then-at-gt0 : goal.returns-then-at-gt0
returns-then-at-gt0 c =
    let n : c.args.at ≡ suc (c.args.at - 1) = omega arith in
    let lt : c.args.at - 1 < length c.args.tokens.now = omega arith in
    c.is_version_word.ensures ∙ sym (ap (λ k. ends_in is_version_word (take k c.args.tokens.now)) n ∙ last_in is_version_word c.args.tokens.now (c.args.at - 1) _ lt)
