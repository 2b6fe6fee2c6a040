use Rattle.std.proofs.Common.{◌≡◌, List, ◌∷◌, ◌++◌, [], take, sym, ap, subst, ◌∙◌}
use Rattle.qasm_lexer.specs.declared.token.Token.{Token}
use Rattle.qasm_expr.specs.Seen.{Cut}
use Rattle.qasm_grammar.specs.Stops.{a_barrier}
use Rattle.program_parser.proofs.Programs.{cut_barred}
use Rattle.program_parser.proofs.refusal.might_begin.Goals as goal

pub new-parser-requires : goal.new-parser-requires
new-parser-requires c =
    let front : c.deref.result.now ≡ take c.args.at c.args.tokens.now ++ a_barrier ∷ [] = c.deref.ensures.value ∙ c.in_ok-push.ensures.items ∙ ap (λ (l : List Token). l ++ a_barrier ∷ []) c.in_ok-front.ensures.items in
    subst (Cut c.args.text.now) (sym front) (cut_barred c.args.text.now c.args.tokens.now c.args.at c.requires.within c.requires.cut)
