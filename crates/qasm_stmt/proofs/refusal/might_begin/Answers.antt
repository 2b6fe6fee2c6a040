use Rattle.std.proofs.Common.{◌≡◌, List, Vec, Global, ◌∷◌, ◌++◌, [], Some, Err, length, take, nat_eq, sym, ap, subst, ◌∙◌}
use Rattle.qasm_lexer.specs.declared.token.Token.{Token}
use Rattle.qasm_grammar.specs.Stops.{a_barrier}
use Rattle.qasm_grammar.specs.Reader.{read_program}
use Rattle.qasm_grammar.specs.Answer.{takes_all}
use Rattle.qasm_ast.specs.declared.stmt.StmtId.{StmtId}
use Rattle.qasm_ast.specs.Tree.{Statements}
use Rattle.qasm_expr.specs.Seen.{Cut, Gives}
use Rattle.qasm_stmt.specs.Seen.{IsStatements}
use Rattle.qasm_stmt.proofs.Programs.{cut_barred, empty_drop}
use Rattle.qasm_stmt.proofs.refusal.might_begin.Goals as goal

pub whole-requires-clause-cut : goal.whole-requires-clause-cut
whole-requires-clause-cut c =
    let front : c.deref.result.now ≡ take c.args.at c.args.tokens.now ++ a_barrier ∷ [] = c.deref.ensures.value ∙ c.in_ok-push.ensures.items ∙ ap (λ (l : List Token). l ++ a_barrier ∷ []) c.in_ok-front.ensures.items in
    subst (Cut c.args.text.now) (sym front) (cut_barred c.args.text.now c.args.tokens.now c.args.at c.requires.within c.requires.cut)

pub returns-in-Ok : goal.returns-in-Ok
returns-in-Ok c =
    let front : c.deref.result.now ≡ take c.args.at c.args.tokens.now ++ a_barrier ∷ [] = c.deref.ensures.value ∙ c.in_ok-push.ensures.items ∙ ap (λ (l : List Token). l ++ a_barrier ∷ []) c.in_ok-front.ensures.items in
    let g = c.in-Ok.ensures.gives in
    let count : c.len.result ≡ length c.deref.result.now = c.len.ensures ∙ sym c.deref.ensures.len in
    ap (λ k. nat_eq c.in-Ok.end k) count ∙ sym (empty_drop c.in-Ok.end c.deref.result.now g.3)
    ∙ sym (ap takes_all g.4) ∙ ap (λ l. takes_all (read_program c.args.text.now (Some 64) 64 l)) front

pub returns-in-Err-Syntax : goal.returns-in-Err-Syntax
returns-in-Err-Syntax c =
    let front : c.deref.result.now ≡ take c.args.at c.args.tokens.now ++ a_barrier ∷ [] = c.deref.ensures.value ∙ c.in_ok-push.ensures.items ∙ ap (λ (l : List Token). l ++ a_barrier ∷ []) c.in_ok-front.ensures.items in
    let g = subst (λ s. Gives (λ (v : Vec StmtId Global) (ss : Statements). IsStatements c.whole.new.arena v.items ss) c.deref.result.now 0 (read_program c.args.text.now (Some 64) 64 c.deref.result.now) (Err s)) c.in-Err-Syntax.field-0-is c.in-Err-Syntax.ensures.gives in
    let count : c.len-in-Err-Syntax.result ≡ length c.deref.result.now = c.len-in-Err-Syntax.ensures ∙ sym c.deref.ensures.len in
    ap (λ k. nat_eq c.in-Err-Syntax.end k) count ∙ sym (empty_drop c.in-Err-Syntax.end c.deref.result.now g.1)
    ∙ sym (ap takes_all g.2) ∙ ap (λ l. takes_all (read_program c.args.text.now (Some 64) 64 l)) front
