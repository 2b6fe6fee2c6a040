use Rattle.std.proofs.Common.{Some, drop, refl, sym, subst, ◌∙◌, le_refl}
use Rattle.qasm_grammar.specs.Reader.{read_member}
use Rattle.qasm_stmt.specs.Seen.{Spare, tree, stmt}
use Rattle.qasm_stmt.proofs.Growing.{grown_on}
use Rattle.qasm_stmt.proofs.Showing.{pushed_grown, pushed_sound, pushed_member}
use Rattle.qasm_expr.proofs.Exits.{handed}
use Rattle.qasm_stmt.proofs.Filling.{goes_on}
use Rattle.qasm_stmt.proofs.Paying.{pushed_few, pushed_paid, kept_spare}
use Rattle.qasm_stmt.proofs.Members.{Found, member_moves, call_line_allowed, barrier_line_allowed, allowed_stands}
use Rattle.qasm_stmt.proofs.gates.member.Goals.{then-begins_call+in_ok-call_line, else-begins_call+in_ok-found}
use Rattle.qasm_stmt.proofs.gates.member.Goals as goal

pub returns-in_err-call_line-clause-gives : goal.returns-in_err-call_line-clause-gives
unfolding read_member
returns-in_err-call_line-clause-gives c =
    handed _ _ _ _ c.from_residual.ensures c.in_err-call_line.ensures.gives (le_refl _) (λ x h. rw (sym c.begins_call.ensures ∙ c.if-begins_call.true, h) refl)

pub returns-in_err-found-clause-gives : goal.returns-in_err-found-clause-gives
unfolding read_member
returns-in_err-found-clause-gives c =
    handed _ _ _ _ c.from_residual-in_err-found.ensures c.in_err-found.ensures.gives (le_refl _) (λ x h. rw (sym c.begins_call.ensures ∙ c.if-begins_call.false, h) refl)

-- what either way finds
found : (c : goal.In_ok-id) → Found c.args.text.now c.args.room c.args.tokens.now c.args.from c.args.arena.now c.if-begins_call.arena c.if-begins_call.found
unfolding read_member
found c = elim c.if-begins_call.branch as (λ z. Found c.args.text.now c.args.room c.args.tokens.now c.args.from c.args.arena.now c.if-begins_call.arena c.if-begins_call.found) [
  | then-begins_call+in_ok-call_line w ↦
      let g = w.in_ok-call_line.ensures.gives in
      subst (λ b. Found c.args.text.now c.args.room c.args.tokens.now c.args.from c.args.arena.now b c.if-begins_call.found) (sym w.arena-is)
      (subst (Found c.args.text.now c.args.room c.args.tokens.now c.args.from c.args.arena.now w.call_line.new.arena) (sym w.found-is)
      (record { shown = g.0; line = g.1; allowed = call_line_allowed c.args.text.now (Some 64) c.args.room (drop c.args.from c.args.tokens.now) (drop w.in_ok-call_line.next c.args.tokens.now) g.0 g.4; on = g.2; within = g.3; read = rw (sym c.begins_call.ensures ∙ w.if-begins_call.true, g.4) refl; grown = w.in_ok-call_line.ensures.grown; kept = w.in_ok-call_line.ensures.kept; few = w.in_ok-call_line.ensures.few; sound = w.in_ok-call_line.ensures.sound }))
  | else-begins_call+in_ok-found w ↦
      let g = w.in_ok-found.ensures.gives in
      subst (λ b. Found c.args.text.now c.args.room c.args.tokens.now c.args.from c.args.arena.now b c.if-begins_call.found) (sym w.arena-is)
      (subst (Found c.args.text.now c.args.room c.args.tokens.now c.args.from c.args.arena.now w.barrier_line.new.arena) (sym w.found-is)
      (record { shown = g.0; line = g.1; allowed = barrier_line_allowed c.args.text.now (Some 64) c.args.room (drop c.args.from c.args.tokens.now) (drop w.in_ok-found.next c.args.tokens.now) g.0 g.4; on = g.2; within = g.3; read = rw (sym c.begins_call.ensures ∙ w.if-begins_call.false, g.4) refl; grown = w.in_ok-found.ensures.grown; kept = w.in_ok-found.ensures.kept; few = w.in_ok-found.ensures.few; sound = w.in_ok-found.ensures.sound }))
]

-- and it took a token
spare : (c : goal.In_ok-id) → Spare c.args.arena.now c.if-begins_call.arena c.args.from c.if-begins_call.found.1
spare c =
    let f = found c in
    kept_spare c.args.arena.now c.if-begins_call.arena c.args.from c.if-begins_call.found.1 f.kept (goes_on c.args.tokens.now c.args.from c.if-begins_call.found.1 (member_moves c.args.text.now (Some 64) c.args.room (drop c.args.from c.args.tokens.now) (drop c.if-begins_call.found.1 c.args.tokens.now) f.shown f.read))

pub returns-clause-gives : goal.returns-clause-gives
returns-clause-gives c =
    let f = found c in
    let stands = allowed_stands c.if-begins_call.arena.names.keys (tree c.if-begins_call.arena) (stmt c.if-begins_call.arena) c.if-begins_call.found.0 f.shown f.line.1 f.allowed in
    (f.shown, pushed_member c.if-begins_call.arena c.push.new.arena c.if-begins_call.found.0 c.in_ok-id.id f.sound c.in_ok-id.ensures.pushed f.shown f.line stands, f.on, f.within, f.read)

pub returns-clause-grown : goal.returns-clause-grown
returns-clause-grown c =
    let f = found c in
    grown_on f.grown (pushed_grown c.if-begins_call.arena c.push.new.arena c.if-begins_call.found.0 c.in_ok-id.id f.sound c.in_ok-id.ensures.pushed)

pub returns-clause-paid : goal.returns-clause-paid
returns-clause-paid c =
    pushed_paid c.args.arena.now c.if-begins_call.arena c.push.new.arena c.if-begins_call.found.0 c.in_ok-id.id c.args.from c.if-begins_call.found.1 c.in_ok-id.ensures.pushed (spare c)

pub returns-clause-few : goal.returns-clause-few
returns-clause-few c =
    let f = found c in
    pushed_few c.args.arena.now c.if-begins_call.arena c.push.new.arena c.if-begins_call.found.0 c.in_ok-id.id c.args.from c.if-begins_call.found.1 c.in_ok-id.ensures.pushed (spare c) c.requires.few f.few

pub returns-clause-sound : goal.returns-clause-sound
returns-clause-sound c =
    let f = found c in
    pushed_sound c.if-begins_call.arena c.push.new.arena c.if-begins_call.found.0 c.in_ok-id.id f.sound c.in_ok-id.ensures.pushed f.line.0
