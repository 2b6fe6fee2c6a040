use Rattle.std.proofs.Common.{true, refl, sym, ap, arith}
use Rattle.qasm_ast.specs.Tree.{trees}
use Rattle.qasm_expr.specs.Reader.{read_list}
use Rattle.qasm_grammar.specs.Parts.{over_set}
use Rattle.qasm_grammar.specs.Reader.{read_chosen}
use Rattle.qasm_parser.proofs.Growing.{after_on, fewer}
use Rattle.program_parser.proofs.Standing.{later, trees_stand}
use Rattle.program_parser.proofs.Exits.{handed}
use Rattle.program_parser.proofs.Putting.{inner_open}
use Rattle.program_parser.proofs.turns.chosen.Goals as goal

pub returns-in_err-inner : goal.returns-in_err-inner
unfolding read_chosen
returns-in_err-inner c = handed _ _ _ _ _ _ c.from_residual.ensures (λ no. rw (c.in_err-inner.ensures.read no) refl)

pub returns-in_err-found : goal.returns-in_err-found
unfolding read_chosen
returns-in_err-found c =
    let o = c.in_ok-inner.ensures in
    let deeper = ap (λ r. read_list c.args.parser.now.text true r c.enter.new.self.left) (inner_open c.args.parser.now.text _ _ o.shown) in
    handed _ _ _ _ _ _ c.from_residual-in_err-found.ensures (λ no. rw (o.read, deeper, sym o.after.text, c.in_err-found.ensures.read no) refl)

pub returns-in_err-mark : goal.returns-in_err-mark
unfolding read_chosen
returns-in_err-mark c =
    let o = c.in_ok-inner.ensures in
    let deeper = ap (λ r. read_list c.args.parser.now.text true r c.enter.new.self.left) (inner_open c.args.parser.now.text _ _ o.shown) in
    let x = c.in_ok-found.ensures in
    handed _ _ _ _ _ _ c.from_residual-in_err-mark.ensures (λ no. rw (o.read, deeper, sym o.after.text, x.read, sym x.after.text, c.in_err-mark.ensures.read no) refl)

pub returns : goal.returns
unfolding read_chosen
returns c =
    let o = c.in_ok-inner.ensures in
    let deeper = ap (λ r. read_list c.args.parser.now.text true r c.enter.new.self.left) (inner_open c.args.parser.now.text _ _ o.shown) in
    let x = c.in_ok-found.ensures in
    let s = c.in_ok-mark.ensures in
    let t = later s.after.longer (trees_stand _ c.in_ok-found.found _ x.shown) in
    record {
      value = over_set (trees x.value);
      shown = record { holds = λ v f. t.holds v f };
      read = rw (o.read, deeper, sym o.after.text, x.read, sym x.after.text, s.read) refl;
      after = fewer 2 1 (omega arith) (after_on o.after (after_on x.after s.after));
    }
