use Rattle.std.proofs.Common.{◌≡◌, List, Some, Ok, length, drop, sym, ap, subst, ◌∙◌, arith}
use Rattle.qasm_ast.specs.declared.expr.Expr.{Expr}
use Rattle.qasm_ast.specs.declared.stmt.Stmt.{Stmt}
use Rattle.qasm_ast.specs.View.{statements_of}
use Rattle.qasm_ast.specs.Whole.{Source, IsProgram}
use Rattle.qasm_lexer.specs.Tokens.{place_of}
use Rattle.qasm_expr.specs.Seen.{Cut}
use Rattle.qasm_parser.specs.declared.stop.Stop.TheVariants as why
use Rattle.qasm_parser.specs.State.{State, start_of}
use Rattle.program_parser.specs.Parsed.{IsParsed}
use Rattle.program_parser.proofs.Programs.{stopped_at, stopped_early, fault_parsed, program_fits, whole_parsed}
use Rattle.program_parser.proofs.program.parse_program.Goals as goal

pub new-parser-requires : goal.new-parser-requires
new-parser-requires c = subst (λ text. Cut text c.args.tokens.now) (sym c.as_bytes.ensures.value) (c.tokens_are_cut.ensures c.args.text.now c.args.tokens.now c.requires.size c.requires.lexed)

pub fault_of-requires-clause-cut : goal.fault_of-requires-clause-cut
fault_of-requires-clause-cut c = c.tokens_are_cut.ensures c.args.text.now c.args.tokens.now c.requires.size c.requires.lexed

pub returns-in-Err : goal.returns-in-Err
returns-in-Err c =
    let text = c.args.text.now in
    let tokens = c.args.tokens.now in
    let is : c.new-parser.result ≡ start_of text tokens = c.new-parser.ensures ∙ ap (λ l. start_of l tokens) c.as_bytes.ensures.value in
    record {
      parsed = fault_parsed text tokens (c.answers_are_right.ensures text (Some 64) 64 tokens) c.saturating_sub-at.result c.in-Err.stop c.fault_of.result (λ no. stopped_at text tokens c.new-parser.result c.whole.new.parser is (c.programs_are_read_exactly.ensures text (Some 64) 64 tokens) c.in-Err.stop (c.in-Err.ensures no) c.saturating_sub-at.result (omega arith)) c.fault_of.ensures;
      levels = tt;
    }

pub returns-then-remaining-gt0 : goal.returns-then-remaining-gt0
returns-then-remaining-gt0 c =
    let text = c.args.text.now in
    let tokens = c.args.tokens.now in
    let is : c.new-parser.result ≡ start_of text tokens = c.new-parser.ensures ∙ ap (λ l. start_of l tokens) c.as_bytes.ensures.value in
    let r = c.in-Ok.ensures in
    let all : c.whole.new.parser.tokens ≡ tokens = r.after.longer.tokens ∙ ap (λ (s : State). s.tokens) is in
    let here : drop c.at-at.result tokens ≡ c.whole.new.parser.left = ap (drop c.at-at.result) (sym all) ∙ c.at-at.ensures.here in
    record {
      parsed = fault_parsed text tokens (c.answers_are_right.ensures text (Some 64) 64 tokens) c.at-at.result why.Syntax c.fault_of-then-remaining-gt0.result (λ no. stopped_early text tokens c.new-parser.result c.whole.new.parser is c.at-at.result r.value r.read here (omega arith)) c.fault_of-then-remaining-gt0.ensures;
      levels = tt;
    }

pub new-requires : goal.new-requires
new-requires c =
    let text = c.args.text.now in
    let tokens = c.args.tokens.now in
    let is : c.new-parser.result ≡ start_of text tokens = c.new-parser.ensures ∙ ap (λ l. start_of l tokens) c.as_bytes.ensures.value in
    let r = c.in-Ok.ensures in
    let lists = c.lists-names.ensures in
    let cut = c.tokens_are_cut.ensures text tokens c.requires.size c.requires.lexed in
    subst (λ (es : List Expr). IsProgram (record { names = c.in-Ok-words.names.items; exprs = es; stmts = c.lists-names.result.2.items; top = c.in-Ok.top.items; end = c.end_of-end.result })) (sym lists.exprs)
    (subst (λ (sts : List Stmt). IsProgram (record { names = c.in-Ok-words.names.items; exprs = c.whole.new.parser.exprs; stmts = sts; top = c.in-Ok.top.items; end = c.end_of-end.result })) (sym lists.stmts)
    (program_fits text tokens c.new-parser.result c.whole.new.parser is r.after c.in-Ok.top r.value r.shown c.in-Ok-words.names.items c.end_of-end.result (c.in-Ok-words.ensures.items ∙ lists.names) cut.few c.in-Ok-words.ensures.distinct))

pub returns : goal.returns
returns c =
    let text = c.args.text.now in
    let tokens = c.args.tokens.now in
    let is : c.new-parser.result ≡ start_of text tokens = c.new-parser.ensures ∙ ap (λ l. start_of l tokens) c.as_bytes.ensures.value in
    let r = c.in-Ok.ensures in
    let lists = c.lists-names.ensures in
    let made : List Expr → List Stmt → Source = λ es sts. record { names = c.in-Ok-words.names.items; exprs = es; stmts = sts; top = c.in-Ok.top.items; end = c.end_of-end.result } in
    let whole : c.in_ok-new.field-0 ≡ made c.whole.new.parser.exprs c.whole.new.parser.stmts = c.in_ok-new.ensures ∙ ap (λ es. made es c.lists-names.result.2.items) lists.exprs ∙ ap (made c.whole.new.parser.exprs) lists.stmts in
    let place = subst (λ l. c.end_of-end.result ≡ place_of l (length l)) c.as_bytes-2.ensures.value c.end_of-end.ensures in
    let none : length c.whole.new.parser.left ≡ 0 = omega arith in
    let parsed : IsParsed text tokens (Ok c.in_ok-new.field-0) =
    subst (λ (p : Source). IsParsed text tokens (Ok p)) (sym whole)
    (whole_parsed text tokens (c.answers_are_right.ensures text (Some 64) 64 tokens) c.new-parser.result c.whole.new.parser is c.in-Ok.top c.in-Ok-words.names.items c.end_of-end.result r.after r (c.in-Ok-words.ensures.items ∙ lists.names) none place) in
    record { parsed = parsed; levels = c.programs_fit_their_room.ensures text (Some 64) 64 tokens (statements_of c.in_ok-new.field-0) parsed.0 }
