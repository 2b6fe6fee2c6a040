use Rattle.std.proofs.Common.{◌+◌, refl, sym, ap, ◌∙◌}
use Rattle.qasm_parser.specs.State.{State, first}
use Rattle.qasm_parser.proofs.Ready.{filled_at, skipped}
use Rattle.qasm_parser.proofs.parser.Parser.skip.Goals as goal

pub returns : goal.returns
returns c =
    let lt = filled_at c.self.inside.tokens.now c.self.inside.at (λ none. c.requires (sym (ap (λ (s : State). first s.left) c.self.view_is) ∙ none)) in
    rw (sym c.self.view_is) (skipped c.self.inside (record { alloc = c.self.inside.alloc; text = c.self.inside.text; tokens = c.self.inside.tokens; at = c.self.inside.at + 1; names = c.self.inside.names; exprs = c.self.inside.exprs; stmts = c.self.inside.stmts }) c.self.invariant refl refl refl refl refl lt refl)
