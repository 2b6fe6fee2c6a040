use Rattle.std.proofs.Common.{◌≡◌, ◌≤◌, ◌+◌, Some, slice_get, length, drop, refl, sym, ap, subst, ◌∙◌}
use Rattle.grammar_parts.specs.Reading.{taken, take_one}
use Rattle.qasm_lexer.specs.Sizes.{bytes_of}
use Rattle.qasm_expr.specs.Grammar.{name_of}
use Rattle.qasm_parser.specs.State.{State, IsSpelled, first}
use Rattle.qasm_parser.proofs.Leaves.{name_yes, name_no, name_is}
use Rattle.qasm_parser.proofs.Exits.{stops, no_memory}
use Rattle.qasm_parser.proofs.Growing.{get_below, longer_same, word_lasts}
use Rattle.qasm_parser.proofs.Taking.{one_ended, one_missed}
use Rattle.qasm_parser.proofs.Ready.{filled_by, cut_first, named_ready, named_after}
use Rattle.qasm_parser.proofs.parser.Parser.name.Goals as goal

pub invariant_of-self-2 : goal.invariant_of-self-2
invariant_of-self-2 c =
    let spelled : IsSpelled c.self.inside.text.now c.in-Some.token = subst (λ (s : State). IsSpelled s.text c.in-Some.token) (sym c.self.view_is) c.in-Some.ensures.spelled in
    let lt = filled_by c.self.inside.tokens.now c.self.inside.at c.in-Some.token (ap (λ (s : State). first s.left) c.self.view_is ∙ sym c.next.ensures.token ∙ c.in-Some.is) in
    let size : length c.spelling.result.now ≤ 4096 = subst (λ l. length l ≤ 4096) (sym c.spelling.ensures) (spelled.name (name_is c.self.inside.text.now c.in-Some.token _ (sym c.is_name.ensures ∙ c.if-not-is_name.false))) in
    named_ready c.self.inside (record { alloc = c.self.inside.alloc; text = c.self.inside.text; tokens = c.self.inside.tokens; at = c.self.inside.at + 1; names = c.intern.new.names; exprs = c.self.inside.exprs; stmts = c.self.inside.stmts }) c.self.invariant refl refl refl refl refl lt c.spelling.result.now size c.in_ok-name.ensures.kept

pub returns-in_default : goal.returns-in_default
returns-in_default c = stops _ _ _ (λ no. one_ended _ c.args.self.now.left (sym c.next.ensures.token ∙ c.in_default.is))

pub returns-then-not-is_name : goal.returns-then-not-is_name
returns-then-not-is_name c = stops _ _ _ (λ no. one_missed _ c.args.self.now.left c.in-Some.token (sym c.next.ensures.token ∙ c.in-Some.is) (name_no c.args.self.now.text c.in-Some.token c.in-Some.token.kind (sym c.is_name.ensures ∙ c.if-not-is_name.true)))

pub returns-in_err-name : goal.returns-in_err-name
returns-in_err-name c = no_memory _ _ _ _ _ _ c.from_residual.ensures (rw (sym c.self.view_is) (longer_same _ _ refl refl c.in_err-name.ensures.err refl)) c.in_err-name.ensures.memory

pub returns : goal.returns
returns c =
    let spelled : IsSpelled c.self.inside.text.now c.in-Some.token = subst (λ (s : State). IsSpelled s.text c.in-Some.token) (sym c.self.view_is) c.in-Some.ensures.spelled in
    let next : first (drop c.self.inside.at c.self.inside.tokens.now) ≡ Some c.in-Some.token = ap (λ (s : State). first s.left) c.self.view_is ∙ sym c.next.ensures.token ∙ c.in-Some.is in
    let lt = filled_by c.self.inside.tokens.now c.self.inside.at c.in-Some.token next in
    let is = sym c.is_name.ensures ∙ c.if-not-is_name.false in
    let size : length c.spelling.result.now ≤ 4096 = subst (λ l. length l ≤ 4096) (sym c.spelling.ensures) (spelled.name (name_is c.self.inside.text.now c.in-Some.token _ is)) in
    rw (sym c.self.view_is) (record {
      value = (bytes_of c.self.inside.text.now c.in-Some.token, c.in-Some.token.at);
      shown = (get_below c.intern.new.names.keys c.in_ok-name.name c.spelling.result.now c.in_ok-name.ensures.found, word_lasts _ c.in_ok-name.name _ (subst (λ w. slice_get c.intern.new.names.keys c.in_ok-name.name ≡ Some w) c.spelling.ensures c.in_ok-name.ensures.found), refl);
      read = ap (take_one (name_of c.self.inside.text.now)) (cut_first c.self.inside.tokens.now c.self.inside.at c.in-Some.token next) ∙ ap (taken c.in-Some.token _) (name_yes c.self.inside.text.now c.in-Some.token c.in-Some.token.kind is);
      after = named_after c.self.inside (record { alloc = c.self.inside.alloc; text = c.self.inside.text; tokens = c.self.inside.tokens; at = c.self.inside.at + 1; names = c.intern.new.names; exprs = c.self.inside.exprs; stmts = c.self.inside.stmts }) c.self.invariant refl refl refl refl refl lt c.spelling.result.now size c.in_ok-name.ensures.kept;
    })
