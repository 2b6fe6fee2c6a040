use Rattle.std.proofs.Common.{sym, ap, ◌∙◌}
use Rattle.std.specs.Prelude.{nat_eq}
use Rattle.std.specs.Cmp.Lexicographic.{pointwise}
use Rattle.program_parser.proofs.Texts.{either_quote}
use Rattle.program_parser.proofs.inclusion.is_stdgates.Goals as goal

pub returns-else-eq : goal.returns-else-eq
returns-else-eq c = either_quote c.args.spelling.now c.as_slice-else-eq.result.now c.eq-else-eq.result c.as_slice-else-eq.ensures (ap (pointwise nat_eq c.args.spelling.now) (sym c.as_slice.ensures) ∙ sym c.eq.ensures ∙ c.if-eq.false) c.eq-else-eq.ensures
