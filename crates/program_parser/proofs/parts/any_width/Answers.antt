use Rattle.std.proofs.Common.{Some, None, refl, sym, ap, ◌∙◌, arith}
use Rattle.qasm_expr.specs.Reader.{read_width}
use Rattle.qasm_parser.proofs.Growing.{after_same, fewer}
use Rattle.program_parser.proofs.Standing.{tree_stands, none_stands, some_stands}
use Rattle.program_parser.proofs.Exits.{handed}
use Rattle.program_parser.proofs.Putting.{inner_is}
use Rattle.program_parser.proofs.parts.any_width.Goals as goal

pub returns-then-not-sees : goal.returns-then-not-sees
returns-then-not-sees c = record { value = None; shown = none_stands _; read = rw (sym c.sees.ensures ∙ c.if-not-sees.true) refl; after = after_same _ }

pub returns-in_err-found : goal.returns-in_err-found
returns-in_err-found c = handed _ _ _ _ _ _ c.from_residual.ensures (λ no. rw (sym c.sees.ensures ∙ c.if-not-sees.false, ap (λ r. read_width c.args.parser.now.text c.args.room r c.args.parser.now.left) (inner_is c.args.parser.now.text c.args.room) ∙ c.in_err-found.ensures.read no) refl)

pub returns : goal.returns
returns c =
    let x = c.in_ok-found.ensures in
    record {
      value = Some x.value;
      shown = some_stands _ _ _ (tree_stands _ _ _ x.shown);
      read = rw (sym c.sees.ensures ∙ c.if-not-sees.false, ap (λ r. read_width c.args.parser.now.text c.args.room r c.args.parser.now.left) (inner_is c.args.parser.now.text c.args.room) ∙ x.read) refl;
      after = fewer 1 0 (omega arith) x.after;
    }
