use Rattle.std.proofs.Common.{◌≡◌, ◌+◌, Ok, Some, true, false, drop, refl, sym, ap, ◌∙◌}
use Rattle.grammar_parts.specs.Reading.{taken, and_then, done}
use Rattle.qasm_parser.specs.State.{State, first}
use Rattle.qasm_parser.specs.Shows.{read_word_as}
use Rattle.qasm_parser.proofs.Exits.{stops, no_memory}
use Rattle.qasm_parser.proofs.Growing.{get_below, longer_same, word_lasts}
use Rattle.qasm_parser.proofs.Taking.{one_ended, one_missed, worded_as}
use Rattle.qasm_parser.proofs.Ready.{filled_by, cut_first, named_ready, named_after}
use Rattle.qasm_parser.proofs.parser.Parser.word_as.Goals as goal

pub invariant_of-self-2 : goal.invariant_of-self-2
invariant_of-self-2 c =
    let lt = filled_by c.self.inside.tokens.now c.self.inside.at c.in-Some.token (ap (λ (s : State). first s.left) c.self.view_is ∙ sym c.next.ensures.token ∙ c.in-Some.is) in
    named_ready c.self.inside (record { alloc = c.self.inside.alloc; text = c.self.inside.text; tokens = c.self.inside.tokens; at = c.self.inside.at + 1; names = c.intern.new.names; exprs = c.self.inside.exprs; stmts = c.self.inside.stmts }) c.self.invariant refl refl refl refl refl lt c.args.spelling.now c.requires c.in_ok-name.ensures.kept

pub returns-in_default : goal.returns-in_default
returns-in_default c = stops _ _ _ (λ no. rw (one_ended _ c.args.self.now.left (sym c.next.ensures.token ∙ c.in_default.is)) refl)

pub returns-then-not-is_word : goal.returns-then-not-is_word
returns-then-not-is_word c = stops _ _ _ (λ no. rw (one_missed _ c.args.self.now.left c.in-Some.token (sym c.next.ensures.token ∙ c.in-Some.is) (worded_as c.args.self.now.text c.in-Some.token c.args.word false (sym c.is_word.ensures ∙ c.if-not-is_word.true))) refl)

pub returns-in_err-name : goal.returns-in_err-name
returns-in_err-name c = no_memory _ _ _ _ _ _ c.from_residual.ensures (rw (sym c.self.view_is) (longer_same _ _ refl refl c.in_err-name.ensures.err refl)) c.in_err-name.ensures.memory

pub returns : goal.returns
returns c =
    let next : first (drop c.self.inside.at c.self.inside.tokens.now) ≡ Some c.in-Some.token = ap (λ (s : State). first s.left) c.self.view_is ∙ sym c.next.ensures.token ∙ c.in-Some.is in
    let lt = filled_by c.self.inside.tokens.now c.self.inside.at c.in-Some.token next in
    let is = sym c.is_word.ensures ∙ c.if-not-is_word.false in
    rw (sym c.self.view_is) (record {
      value = (c.args.spelling.now, c.in-Some.token.at);
      shown = (get_below c.intern.new.names.keys c.in_ok-name.name c.args.spelling.now c.in_ok-name.ensures.found, word_lasts _ c.in_ok-name.name _ c.in_ok-name.ensures.found, refl);
      read = ap (read_word_as c.self.inside.text.now c.args.word c.args.spelling.now) (cut_first c.self.inside.tokens.now c.self.inside.at c.in-Some.token next) ∙ ap (λ o. and_then (taken c.in-Some.token (drop (c.self.inside.at + 1) c.self.inside.tokens.now) o) (λ x. done (c.args.spelling.now, x.at))) (worded_as c.self.inside.text.now c.in-Some.token c.args.word true is);
      after = named_after c.self.inside (record { alloc = c.self.inside.alloc; text = c.self.inside.text; tokens = c.self.inside.tokens; at = c.self.inside.at + 1; names = c.intern.new.names; exprs = c.self.inside.exprs; stmts = c.self.inside.stmts }) c.self.invariant refl refl refl refl refl lt c.args.spelling.now c.requires c.in_ok-name.ensures.kept;
    })
