use Rattle.std.proofs.Common.{refl, sym, subst}
use Rattle.qasm_grammar.specs.Parts.{call_statement}
use Rattle.qasm_stmt.specs.Seen.{IsLine}
use Rattle.qasm_stmt.proofs.Changes.{call_seen}
use Rattle.qasm_stmt.proofs.calls.call_line.Goals as goal

pub returns-clause-gives : goal.returns-clause-gives
returns-clause-gives c =
    let r = c.in_ok-found.ensures.gives in
    (call_statement r.0, subst (λ s. IsLine c.call.new.arena s (call_statement r.0)) (sym c.statement.ensures) (call_seen c.call.new.arena c.in_ok-found.found r.0 r.1), r.2, r.3, rw r.4 refl)
