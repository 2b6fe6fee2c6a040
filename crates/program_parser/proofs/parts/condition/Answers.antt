use Rattle.std.proofs.Common.{ap, ◌∙◌}
use Rattle.qasm_expr.specs.Reader.{read_grouped}
use Rattle.program_parser.proofs.Standing.{tree_stands}
use Rattle.program_parser.proofs.Exits.{handed}
use Rattle.program_parser.proofs.Putting.{inner_is}
use Rattle.program_parser.proofs.parts.condition.Goals as goal

pub returns-in_err-found : goal.returns-in_err-found
returns-in_err-found c = handed _ _ _ _ _ _ c.from_residual.ensures (λ no. ap (λ r. read_grouped c.args.parser.now.text c.args.room r c.args.parser.now.left) (inner_is c.args.parser.now.text c.args.room) ∙ c.in_err-found.ensures.read no)

pub returns : goal.returns
returns c =
    let x = c.in_ok-found.ensures in
    record { value = x.value; shown = tree_stands _ _ _ x.shown; read = ap (λ r. read_grouped c.args.parser.now.text c.args.room r c.args.parser.now.left) (inner_is c.args.parser.now.text c.args.room) ∙ x.read; after = x.after }
