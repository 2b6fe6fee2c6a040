use Rattle.std.proofs.lemmas.Bool.Decides.{Decides-eqb}
use Rattle.std.proofs.lemmas.Slice.Eq.{strip_prefix_is}
use Rattle.qq_tool.proofs.Pieces.{after_given}
use Rattle.qq_tool.proofs.read.expect.Goals as goal

pub returns : goal.returns
returns c = after_given c.args.prefix.now c.args.bytes.now c.strip_prefix.result (strip_prefix_is Decides-eqb c.args.bytes.now c.args.prefix.now c.strip_prefix.result c.strip_prefix.ensures.cases)
