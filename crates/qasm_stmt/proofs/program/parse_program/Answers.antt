use Rattle.std.proofs.Common.{◌≡◌, nat_eq, Vec, Global, Some, Ok, Err, length, drop, sym, subst, arith}
use Rattle.std.specs.List.{IsDistinct}
use Rattle.std.specs.Cmp.Lexicographic.{pointwise}
use Rattle.qasm_ast.specs.declared.stmt.StmtId.{StmtId}
use Rattle.qasm_ast.specs.Tree.{Statements}
use Rattle.qasm_ast.specs.View.{statements_of}
use Rattle.qasm_ast.specs.Whole.{Source}
use Rattle.qasm_lexer.specs.Tokens.{place_of}
use Rattle.qasm_expr.specs.declared.stop.Stop.TheVariants as e
use Rattle.qasm_expr.specs.Seen.{Cut, Gives}
use Rattle.qasm_expr.proofs.Cuts.{cut_of}
use Rattle.qasm_grammar.specs.Reader.{read_program}
use Rattle.qasm_stmt.specs.Parsed.{IsParsed}
use Rattle.qasm_stmt.specs.Seen.{IsStatements}
use Rattle.qasm_stmt.proofs.Programs.{fault_parsed, stops_at, stops_early, program_fits, whole_parsed}
use Rattle.qasm_stmt.proofs.program.parse_program.Goals as goal

pub whole-requires-clause-cut : goal.whole-requires-clause-cut
whole-requires-clause-cut c = subst (λ text. Cut text c.args.tokens.now) (sym c.as_bytes.ensures.value) (cut_of c.args.text.now c.args.tokens.now c.requires.size c.requires.lexed)

pub fault_of-requires-clause-cut : goal.fault_of-requires-clause-cut
fault_of-requires-clause-cut c = cut_of c.args.text.now c.args.tokens.now c.requires.size c.requires.lexed

pub returns-in-Err-clause-parsed : goal.returns-in-Err-clause-parsed
returns-in-Err-clause-parsed c =
    let gives = subst (λ text. Gives (λ (v : Vec StmtId Global) (ss : Statements). IsStatements c.whole.new.arena v.items ss) c.args.tokens.now 0 (read_program text (Some 64) 64 c.args.tokens.now) (Err c.in-Err.stop)) c.as_bytes.ensures.value c.in-Err.ensures.gives in
    fault_parsed c.args.text.now c.args.tokens.now c.in-Err.stop c.fault_of.result (stops_at (λ (v : Vec StmtId Global) (ss : Statements). IsStatements c.whole.new.arena v.items ss) c.args.text.now c.args.tokens.now c.in-Err.stop gives) c.fault_of.ensures

pub fault_of-requires-then-at-tokens-clause-cut : goal.fault_of-requires-then-at-tokens-clause-cut
fault_of-requires-then-at-tokens-clause-cut c = cut_of c.args.text.now c.args.tokens.now c.requires.size c.requires.lexed

pub returns-then-at-tokens-clause-parsed : goal.returns-then-at-tokens-clause-parsed
returns-then-at-tokens-clause-parsed c =
    let g = c.in-Ok.ensures.gives in
    let read = subst (λ text. read_program text (Some 64) 64 c.args.tokens.now ≡ Ok (g.0, drop c.in-Ok.found.1 c.args.tokens.now)) c.as_bytes.ensures.value g.4 in
    fault_parsed c.args.text.now c.args.tokens.now (e.Syntax c.in-Ok.found.1) c.fault_of-then-at-tokens.result (stops_early c.args.text.now c.args.tokens.now c.in-Ok.found.1 g.0 c.if-at-tokens.true read) c.fault_of-then-at-tokens.ensures

pub new-requires : goal.new-requires
new-requires c =
    let g = c.in-Ok.ensures.gives in
    let cut = cut_of c.args.text.now c.args.tokens.now c.requires.size c.requires.lexed in
    program_fits c.whole.new.arena c.in-Ok.found.1 c.in-Ok-words.names.items c.in-Ok.found.0.items c.end_of-end.result c.in-Ok-words.ensures.items c.in-Ok.ensures.sound c.in-Ok.ensures.few (omega (arith, g.3, cut.few)) (subst (IsDistinct (pointwise nat_eq)) c.in-Ok-words.ensures.items c.in-Ok-words.ensures.distinct) g.1.0

pub returns : goal.returns
returns c =
    let g = c.in-Ok.ensures.gives in
    let read = subst (λ text. read_program text (Some 64) 64 c.args.tokens.now ≡ Ok (g.0, drop c.in-Ok.found.1 c.args.tokens.now)) c.as_bytes.ensures.value g.4 in
    let place = subst (λ text. c.end_of-end.result ≡ place_of text (length text)) c.as_bytes-2.ensures.value c.end_of-end.ensures in
    let parsed : IsParsed c.args.text.now c.args.tokens.now (Ok c.in_ok-new.field-0) =
    subst (λ (p : Source). IsParsed c.args.text.now c.args.tokens.now (Ok p)) (sym c.in_ok-new.ensures)
    (whole_parsed c.args.text.now c.args.tokens.now c.whole.new.arena c.in-Ok.found.1 c.in-Ok-words.names.items c.in-Ok.found.0.items c.end_of-end.result g.0 c.in-Ok-words.ensures.items g.1.1 read g.3 (omega arith) place) in
    record { parsed = parsed; levels = c.programs_fit_their_room.ensures c.args.text.now (Some 64) 64 c.args.tokens.now (statements_of c.in_ok-new.field-0) parsed.0 }
