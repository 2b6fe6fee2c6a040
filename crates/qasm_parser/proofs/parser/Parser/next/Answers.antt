use Rattle.std.proofs.Common.{sym, arith}
use Rattle.qasm_parser.proofs.Ready.{first_end, first_at, spelled_at}
use Rattle.qasm_parser.proofs.parser.Parser.next.Goals as goal

pub returns-then-self-clause-token : goal.returns-then-self-clause-token
returns-then-self-clause-token c = rw (sym c.self.view_is) (sym (first_end c.self.inside.tokens.now c.self.inside.at c.if-self.true))

pub returns-clause-token : goal.returns-clause-token
returns-clause-token c = rw (sym c.self.view_is) (sym (first_at c.self.inside.tokens.now c.self.inside.at _ (omega (arith, c.self.invariant.within, c.if-self.false))))

pub returns-clause-spelled : goal.returns-clause-spelled
returns-clause-spelled c = rw (sym c.self.view_is) (spelled_at c.self.inside.text.now c.self.inside.tokens.now c.self.inside.at _ c.self.invariant.cut (omega (arith, c.self.invariant.within, c.if-self.false)))
