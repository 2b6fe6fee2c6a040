use Rattle.std.proofs.Common.{sym, ap, subst, ◌∙◌}
use Rattle.grammar_parts.specs.Reading.{taken, take_one}
use Rattle.qasm_expr.specs.Grammar.{literal_of}
use Rattle.qasm_parser.specs.Shows.{Leaf, IsLeaf}
use Rattle.qasm_parser.proofs.Exits.{stops, no_memory, noded}
use Rattle.qasm_parser.proofs.Growing.{longer_here}
use Rattle.qasm_parser.proofs.Taking.{skipped_here, one_ended, one_missed}
use Rattle.qasm_parser.proofs.parser.Parser.literal.Goals as goal

pub returns-in_default : goal.returns-in_default
returns-in_default c = stops _ _ _ (λ no. one_ended _ c.args.self.now.left (sym c.next.ensures.token ∙ c.in_default.is))

pub returns-in_err-kind : goal.returns-in_err-kind
returns-in_err-kind c = no_memory _ _ _ _ _ _ c.from_residual.ensures (longer_here _) c.in_err-kind.ensures.memory

pub returns-in_default-2 : goal.returns-in_default-2
returns-in_default-2 c = stops _ _ _ (λ no. one_missed _ c.args.self.now.left c.in-Some.token (sym c.next.ensures.token ∙ c.in-Some.is) (subst (IsLeaf c.args.self.now.text c.in-Some.token) c.in_default-2.is c.in_ok-kind.ensures.leaf))

pub node-requires-clause-fits : goal.node-requires-clause-fits
node-requires-clause-fits c =
    let leaf : Leaf c.args.self.now.text c.in-Some.token c.in-Some.token.kind c.in-Some-2.kind = subst (IsLeaf c.args.self.now.text c.in-Some.token) c.in-Some-2.is c.in_ok-kind.ensures.leaf in
    λ names le. leaf.fits names _

pub returns : goal.returns
returns c =
    let leaf : Leaf c.args.self.now.text c.in-Some.token c.in-Some.token.kind c.in-Some-2.kind = subst (IsLeaf c.args.self.now.text c.in-Some.token) c.in-Some-2.is c.in_ok-kind.ensures.leaf in
    noded _ _ _ _ _ _ c.node.result leaf.tree c.skip.ensures.after
    (ap (take_one (literal_of c.args.self.now.text)) (skipped_here c.skip.ensures c.in-Some.token (sym c.next.ensures.token ∙ c.in-Some.is)) ∙ ap (taken c.in-Some.token c.skip.new.self.left) leaf.is)
    (record { holds = λ names exprs steps enough. leaf.shown _ _ })
    c.node.ensures
