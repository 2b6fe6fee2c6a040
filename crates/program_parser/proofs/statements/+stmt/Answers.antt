use Rattle.std.proofs.Common.{◌≡◌, ◌-◌, ◌∷◌, ◌++◌, [], false, Some, None, Ok, length, refl, sym, ap, ◌∙◌, length-append, arith}
use Rattle.qasm_lexer.specs.declared.token.Token.{Token}
use Rattle.qasm_ast.specs.Tree.{a_statement, no_statement, while, subroutine}
use Rattle.qasm_grammar.specs.Grammar.{without_else, with_else, for_of}
use Rattle.qasm_grammar.specs.Parts.{close_or, opened_statements}
use Rattle.qasm_grammar.specs.Reader.{stmt_kinds, read_stmt, read_stmt_at, read_declaration, read_subroutine_definition, read_control, read_conditional, read_behind_body, read_while_loop, read_for_loop}
use Rattle.qasm_parser.specs.Shows.{Each}
use Rattle.qasm_parser.proofs.Growing.{after_same, after_on, fewer, spend, has_room}
use Rattle.qasm_parser.proofs.Showing.{shorter, each_none, each_more}
use Rattle.qasm_parser.proofs.Exits.{pushed}
use Rattle.qasm_parser.proofs.Repeating.{repeating_start, repeating_stop, repeating_err, repeating_more}
use Rattle.program_parser.specs.World.{Stands}
use Rattle.program_parser.specs.Nesting.{deeper_body}
use Rattle.program_parser.proofs.Standing.{later, world_of, from_here}
use Rattle.program_parser.proofs.Exits.{handed, instead}
use Rattle.program_parser.proofs.Nesting.{stmt_open, block_shut, block_inside, body_braced, body_alone, behind_open, behind_alone, behind_else}
use Rattle.program_parser.proofs.Bodies.{NumberIn, close_same, opened_stand, one_stands, nothing_in, branch_in, while_in, subroutine_in, for_in}
use Rattle.program_parser.proofs.Pushing.{may_push, open_line, opened_stands}
use Rattle.program_parser.proofs.statements.+stmt.Goals.{conditional-then-taken-via-then-taken, conditional-then-taken-via-else-taken+then-not-sees_word}
use Rattle.program_parser.proofs.statements.+stmt.Goals as goal

pub stmt-push-requires-clause-room : goal.stmt-push-requires-clause-room
stmt-push-requires-clause-room t c =
    has_room c.in_ok-found.ensures.after

pub stmt-push-requires-clause-fits : goal.stmt-push-requires-clause-fits
stmt-push-requires-clause-fits t c =
    may_push _ _ _ (open_line _ _ _ _ c.in_ok-found.ensures.shown)

pub stmt-returns-in_err-id-clause-reads : goal.stmt-returns-in_err-id-clause-reads
stmt-returns-in_err-id-clause-reads t c =
    handed _ _ _ _ _ _ c.from_residual-in_err-id.ensures (λ no. absurd (no c.in_err-id.ensures.0))

pub stmt-returns-clause-reads : goal.stmt-returns-clause-reads
stmt-returns-clause-reads t c =
    let l = c.in_ok-found.ensures in
    let p = c.in_ok-id.ensures in
    record { value = l.value; shown = opened_stands _ _ _ _ _ _ p l.shown; read = rw (l.read, p.left) refl; after = spend l.after p.after }

pub stmt-returns-clause-moves : goal.stmt-returns-clause-moves
stmt-returns-clause-moves t c =
    omega (arith, shorter c.in_ok-found.ensures.after, ap length c.in_ok-id.ensures.left)

pub unlisted-returns-in_err-found : goal.unlisted-returns-in_err-found
unfolding read_stmt_at
unlisted-returns-in_err-found t c =
    let open' = stmt_open c.args.parser.now.text c.args.room c.args.parser.now.left in
    handed _ _ _ _ _ _ c.from_residual.ensures (λ no. open' ∙ rw (sym c.begins.ensures ∙ c.if-begins.true, c.in_err-found.ensures no) refl)

pub unlisted-returns-then-begins : goal.unlisted-returns-then-begins
unfolding read_stmt_at
unlisted-returns-then-begins t c =
    let open' = stmt_open c.args.parser.now.text c.args.room c.args.parser.now.left in
    let l = c.in_ok-found.ensures in
    record { value = (l.value, false); shown = record { holds = λ v f. (l.shown.holds v f, refl) }; read = open' ∙ rw (sym c.begins.ensures ∙ c.if-begins.true, l.read) refl; after = l.after }

pub unlisted-returns-in_err-found-2 : goal.unlisted-returns-in_err-found-2
unfolding read_stmt_at
unlisted-returns-in_err-found-2 t c =
    let open' = stmt_open c.args.parser.now.text c.args.room c.args.parser.now.left in
    handed _ _ _ _ _ _ c.from_residual-in_err-found-2.ensures (λ no. open' ∙ rw (sym c.begins.ensures ∙ c.if-begins.false, sym c.begins-2.ensures ∙ c.if-begins-2.true, c.in_err-found-2.ensures no) refl)

pub unlisted-returns-then-begins-2 : goal.unlisted-returns-then-begins-2
unfolding read_stmt_at
unlisted-returns-then-begins-2 t c =
    let open' = stmt_open c.args.parser.now.text c.args.room c.args.parser.now.left in
    let l = c.in_ok-found-2.ensures in
    record { value = (l.value, false); shown = record { holds = λ v f. (l.shown.holds v f, refl) }; read = open' ∙ rw (sym c.begins.ensures ∙ c.if-begins.false, sym c.begins-2.ensures ∙ c.if-begins-2.true, l.read) refl; after = l.after }

pub unlisted-returns : goal.unlisted-returns
unfolding read_stmt_at
unlisted-returns t c =
    let open' = stmt_open c.args.parser.now.text c.args.room c.args.parser.now.left in
    instead _ _ _ _ _ _ c.control.result (open' ∙ rw (sym c.begins.ensures ∙ c.if-begins.false, sym c.begins-2.ensures ∙ c.if-begins-2.false) refl) c.control.ensures

pub declaration-returns-then-sees_word : goal.declaration-returns-then-sees_word
unfolding read_declaration
declaration-returns-then-sees_word t c =
    instead _ _ _ _ _ _ c.inclusion.result (rw (sym c.sees_word.ensures ∙ c.if-sees_word.true) refl) c.inclusion.ensures

pub declaration-returns-then-sees_word-2 : goal.declaration-returns-then-sees_word-2
unfolding read_declaration
declaration-returns-then-sees_word-2 t c =
    instead _ _ _ _ _ _ c.qubit_line.result (rw (sym c.sees_word.ensures ∙ c.if-sees_word.false, sym c.sees_word-2.ensures ∙ c.if-sees_word-2.true) refl) c.qubit_line.ensures

pub declaration-returns-then-sees_word-3 : goal.declaration-returns-then-sees_word-3
unfolding read_declaration
declaration-returns-then-sees_word-3 t c =
    instead _ _ _ _ _ _ c.qreg_line.result (rw (sym c.sees_word.ensures ∙ c.if-sees_word.false, sym c.sees_word-2.ensures ∙ c.if-sees_word-2.false, sym c.sees_word-3.ensures ∙ c.if-sees_word-3.true) refl) c.qreg_line.ensures

pub declaration-returns-then-sees_word-4 : goal.declaration-returns-then-sees_word-4
unfolding read_declaration
declaration-returns-then-sees_word-4 t c =
    instead _ _ _ _ _ _ c.creg_line.result (rw (sym c.sees_word.ensures ∙ c.if-sees_word.false, sym c.sees_word-2.ensures ∙ c.if-sees_word-2.false, sym c.sees_word-3.ensures ∙ c.if-sees_word-3.false, sym c.sees_word-4.ensures ∙ c.if-sees_word-4.true) refl) c.creg_line.ensures

pub declaration-returns-then-begins_type : goal.declaration-returns-then-begins_type
unfolding read_declaration
declaration-returns-then-begins_type t c =
    instead _ _ _ _ _ _ c.variable_line.result (rw (sym c.sees_word.ensures ∙ c.if-sees_word.false, sym c.sees_word-2.ensures ∙ c.if-sees_word-2.false, sym c.sees_word-3.ensures ∙ c.if-sees_word-3.false, sym c.sees_word-4.ensures ∙ c.if-sees_word-4.false, sym c.begins_type.ensures ∙ c.if-begins_type.true) refl) c.variable_line.ensures

pub declaration-returns-then-sees_word-5 : goal.declaration-returns-then-sees_word-5
unfolding read_declaration
declaration-returns-then-sees_word-5 t c =
    instead _ _ _ _ _ _ c.constant_line.result (rw (sym c.sees_word.ensures ∙ c.if-sees_word.false, sym c.sees_word-2.ensures ∙ c.if-sees_word-2.false, sym c.sees_word-3.ensures ∙ c.if-sees_word-3.false, sym c.sees_word-4.ensures ∙ c.if-sees_word-4.false, sym c.begins_type.ensures ∙ c.if-begins_type.false, sym c.sees_word-5.ensures ∙ c.if-sees_word-5.true) refl) c.constant_line.ensures

pub declaration-returns-then-sees_word-6 : goal.declaration-returns-then-sees_word-6
unfolding read_declaration
declaration-returns-then-sees_word-6 t c =
    instead _ _ _ _ _ _ c.output_line.result (rw (sym c.sees_word.ensures ∙ c.if-sees_word.false, sym c.sees_word-2.ensures ∙ c.if-sees_word-2.false, sym c.sees_word-3.ensures ∙ c.if-sees_word-3.false, sym c.sees_word-4.ensures ∙ c.if-sees_word-4.false, sym c.begins_type.ensures ∙ c.if-begins_type.false, sym c.sees_word-5.ensures ∙ c.if-sees_word-5.false, sym c.sees_word-6.ensures ∙ c.if-sees_word-6.true) refl) c.output_line.ensures

pub declaration-returns-then-sees_word-7 : goal.declaration-returns-then-sees_word-7
unfolding read_declaration
declaration-returns-then-sees_word-7 t c =
    instead _ _ _ _ _ _ c.alias_line.result (rw (sym c.sees_word.ensures ∙ c.if-sees_word.false, sym c.sees_word-2.ensures ∙ c.if-sees_word-2.false, sym c.sees_word-3.ensures ∙ c.if-sees_word-3.false, sym c.sees_word-4.ensures ∙ c.if-sees_word-4.false, sym c.begins_type.ensures ∙ c.if-begins_type.false, sym c.sees_word-5.ensures ∙ c.if-sees_word-5.false, sym c.sees_word-6.ensures ∙ c.if-sees_word-6.false, sym c.sees_word-7.ensures ∙ c.if-sees_word-7.true) refl) c.alias_line.ensures

pub declaration-returns-then-sees_word-8 : goal.declaration-returns-then-sees_word-8
unfolding read_declaration
declaration-returns-then-sees_word-8 t c =
    instead _ _ _ _ _ _ c.gate_definition.result (rw (sym c.sees_word.ensures ∙ c.if-sees_word.false, sym c.sees_word-2.ensures ∙ c.if-sees_word-2.false, sym c.sees_word-3.ensures ∙ c.if-sees_word-3.false, sym c.sees_word-4.ensures ∙ c.if-sees_word-4.false, sym c.begins_type.ensures ∙ c.if-begins_type.false, sym c.sees_word-5.ensures ∙ c.if-sees_word-5.false, sym c.sees_word-6.ensures ∙ c.if-sees_word-6.false, sym c.sees_word-7.ensures ∙ c.if-sees_word-7.false, sym c.sees_word-8.ensures ∙ c.if-sees_word-8.true) refl) c.gate_definition.ensures

pub declaration-returns : goal.declaration-returns
unfolding read_declaration
declaration-returns t c =
    instead _ _ _ _ _ _ c.subroutine_definition.result (rw (sym c.sees_word.ensures ∙ c.if-sees_word.false, sym c.sees_word-2.ensures ∙ c.if-sees_word-2.false, sym c.sees_word-3.ensures ∙ c.if-sees_word-3.false, sym c.sees_word-4.ensures ∙ c.if-sees_word-4.false, sym c.begins_type.ensures ∙ c.if-begins_type.false, sym c.sees_word-5.ensures ∙ c.if-sees_word-5.false, sym c.sees_word-6.ensures ∙ c.if-sees_word-6.false, sym c.sees_word-7.ensures ∙ c.if-sees_word-7.false, sym c.sees_word-8.ensures ∙ c.if-sees_word-8.false) refl) c.subroutine_definition.ensures

pub subroutine_definition-returns : goal.subroutine_definition-returns
unfolding read_subroutine_definition
subroutine_definition-returns t c =
    let w = c.in_ok-at.ensures in
    let x = c.in_ok-name.ensures in
    let ps = c.in_ok-params.ensures in
    let r = c.in_ok-result.ensures in
    let b = c.in_ok-body.ensures in
    let name = later (after_on ps.after (after_on r.after b.after)).longer x.shown in
    let params = later (after_on r.after b.after).longer ps.shown in
    let result = later b.after.longer r.shown in
    record {
      value = subroutine x.value ps.value r.value b.value.statements w.value.at b.value.close;
      shown = record { holds = λ v f. let q = b.shown.holds v f in subroutine_in v _ _ _ _ (ap (λ (s : Token). s.at) w.shown) q.1 c.in_ok-name.name c.in_ok-params.params c.in_ok-result.result c.in_ok-body.body.statements _ _ _ _ (name.holds v f) (params.holds v f) (result.holds v f) q.0 };
      read = rw (w.read, sym w.after.text, x.read, sym x.after.text, ps.read, sym ps.after.text, r.read, sym r.after.text, b.read) refl;
      after = fewer 4 1 (omega arith) (after_on w.after (after_on x.after (after_on ps.after (after_on r.after b.after))));
    }

pub block-returns-in_err-inner : goal.block-returns-in_err-inner
block-returns-in_err-inner t c =
    handed _ _ _ _ _ _ c.from_residual.ensures (λ no. block_shut c.args.parser.now.text c.args.room c.args.parser.now.left _ (c.in_err-inner.ensures.read no))

pub block-returns-in_err-statements : goal.block-returns-in_err-statements
block-returns-in_err-statements t c =
    let o = c.in_ok-inner.ensures in
    let inside = block_inside c.args.parser.now.text c.args.room c.in_ok-inner.inner c.args.parser.now.left c.enter.new.self.left o.value o.shown o.read in
    handed _ _ _ _ _ _ c.from_residual-in_err-statements.ensures (λ no. inside ∙ rw (sym o.after.text, c.in_err-statements.ensures no) refl)

pub block-returns-in_err-close : goal.block-returns-in_err-close
block-returns-in_err-close t c =
    let o = c.in_ok-inner.ensures in
    let inside = block_inside c.args.parser.now.text c.args.room c.in_ok-inner.inner c.args.parser.now.left c.enter.new.self.left o.value o.shown o.read in
    let ss = c.in_ok-statements.ensures in
    handed _ _ _ _ _ _ c.from_residual-in_err-close.ensures (λ no. inside ∙ rw (sym o.after.text, ss.read, sym ss.after.text, c.in_err-close.ensures.read no) refl)

pub block-returns : goal.block-returns
block-returns t c =
    let o = c.in_ok-inner.ensures in
    let inside = block_inside c.args.parser.now.text c.args.room c.in_ok-inner.inner c.args.parser.now.left c.enter.new.self.left o.value o.shown o.read in
    let ss = c.in_ok-statements.ensures in
    let e = c.in_ok-close.ensures in
    let stands = later e.after.longer ss.shown in
    record {
      value = record { statements = opened_statements ss.value; close = e.value.at };
      shown = record { holds = λ v f. (stands.holds v f, ap (λ (s : Token). s.at) e.shown) };
      read = inside ∙ rw (sym o.after.text, ss.read, sym ss.after.text, e.read) refl;
      after = fewer 2 1 (omega arith) (after_on o.after (after_on ss.after e.after));
    }

pub stmts-stmts-init : goal.stmts-stmts-init
stmts-stmts-init t c =
    record {
      repeating = repeating_start c.args.parser.now.text stmt_kinds (read_stmt c.args.parser.now.text (Some 64) c.args.room) (Each (Stands NumberIn c.args.parser.now)) c.args.parser.now.left c.new-found.result.items (each_none _ _ c.new-found.ensures.items);
      count = omega (arith, ap length c.new-found.ensures.items);
      after = after_same _;
    }

pub stmts-returns-in_err-id : goal.stmts-returns-in_err-id
stmts-returns-in_err-id t c =
    let at' = c.stmts.invariant.after.text in
    handed _ _ _ _ _ _ c.from_residual.ensures (λ no. repeating_err _ _ _ c.stmts.invariant.repeating (rw (sym at') (sym c.begins.ensures ∙ c.stmts-test.true)) _ (rw (sym at') (c.in_err-id.ensures.reads no)))

pub stmts-stmts-smaller : goal.stmts-stmts-smaller
stmts-stmts-smaller t c =
    c.in_ok-id.ensures.moves

pub stmts-stmts-preserved : goal.stmts-stmts-preserved
stmts-stmts-preserved t c =
    let at' = c.stmts.invariant.after.text in
    let g = c.stmts.invariant.repeating in
    let r = c.in_ok-id.ensures.reads in
    let here : Stands NumberIn c.stmt.new.parser c.in_ok-id.id r.value = record { holds = λ v f. (r.shown.holds v f).0 } in
    let push = pushed c.push.result c.stmts.found.items c.push.new.self.items (c.stmts.found.items ++ c.in_ok-id.id ∷ []) c.push.ensures.items (sym c.is_err.ensures.value ∙ c.if-is_err.false) in
    let seen = each_more (Stands NumberIn c.stmts.parser) (Stands NumberIn c.stmt.new.parser) (λ x a h. later r.after.longer h) c.stmts.found.items c.push.new.self.items g.acc c.in_ok-id.id r.value push g.sees here in
    record {
      repeating = repeating_more _ _ _ g (rw (sym at') (sym c.begins.ensures ∙ c.stmts-test.true)) (Each (Stands NumberIn c.stmt.new.parser)) _ r.value c.push.new.self.items seen c.in_ok-id.ensures.moves (rw (sym at') r.read);
      count = omega (arith, ap length push, length-append c.stmts.found.items (c.in_ok-id.id ∷ []), c.in_ok-id.ensures.moves, c.stmts.invariant.count);
      after = after_on c.stmts.invariant.after r.after;
    }

pub stmts-returns : goal.stmts-returns
stmts-returns t c =
    let g = c.stmts.invariant.repeating in
    let count = c.stmts.invariant.count in
    record {
      value = g.acc;
      shown = opened_stand _ _ g.acc (omega (arith, count, c.alloc.ensures)) g.sees;
      read = repeating_stop _ _ _ g (rw (sym c.stmts.invariant.after.text) (sym c.begins.ensures ∙ c.stmts-test.false));
      after = c.stmts.invariant.after;
    }

pub body-returns-in_err-found : goal.body-returns-in_err-found
body-returns-in_err-found t c =
    let braced = body_braced c.args.parser.now.text c.args.room c.args.parser.now.left (sym c.sees.ensures ∙ c.if-sees.true) in
    handed _ _ _ _ _ _ c.from_residual.ensures (λ no. braced ∙ rw (c.in_err-found.ensures no) refl)

pub body-returns-then-sees : goal.body-returns-then-sees
body-returns-then-sees t c =
    let braced = body_braced c.args.parser.now.text c.args.room c.args.parser.now.left (sym c.sees.ensures ∙ c.if-sees.true) in
    let b = c.in_ok-found.ensures in
    record {
      value = record { statements = b.value.statements; is_open = false; close = Some b.value.close };
      shown = record { holds = λ v f. let q = b.shown.holds v f in (q.0, refl, ap Some q.1) };
      read = braced ∙ rw b.read refl;
      after = fewer 1 0 (omega arith) b.after;
    }

pub body-returns-in_err-id : goal.body-returns-in_err-id
body-returns-in_err-id t c =
    let alone = body_alone c.args.parser.now.text c.args.room (c.args.room - 1) c.args.parser.now.left (omega (arith, c.if-room-eq0.false)) (sym c.sees.ensures ∙ c.if-sees.false) in
    handed _ _ _ _ _ _ c.from_residual-in_err-id.ensures (λ no. alone ∙ rw (c.in_err-id.ensures.reads no) refl)

pub body-returns : goal.body-returns
body-returns t c =
    let alone = body_alone c.args.parser.now.text c.args.room (c.args.room - 1) c.args.parser.now.left (omega (arith, c.if-room-eq0.false)) (sym c.sees.ensures ∙ c.if-sees.false) in
    let s = c.in_ok-id.ensures.reads in
    let push = pushed c.push.result c.new-statements.result.items c.push.new.self.items (c.new-statements.result.items ++ c.in_ok-id.id ∷ []) c.push.ensures.items (sym c.is_err.ensures.value ∙ c.if-is_err.false) ∙ ap (λ l. l ++ c.in_ok-id.id ∷ []) c.new-statements.ensures.items in
    let one = one_stands _ c.push.new.self c.in_ok-id.id s.value.0 push (record { holds = λ v f. (s.shown.holds v f).0 }) in
    record {
      value = record { statements = a_statement s.value.0 no_statement; is_open = s.value.1; close = None };
      shown = record { holds = λ v f. (one.holds v f, (s.shown.holds v f).1, refl) };
      read = alone ∙ rw s.read refl;
      after = s.after;
    }

pub control-returns-then-sees_word : goal.control-returns-then-sees_word
unfolding read_control
control-returns-then-sees_word t c =
    instead _ _ _ _ _ _ c.conditional.result (rw (sym c.sees_word.ensures ∙ c.if-sees_word.true) refl) c.conditional.ensures

pub control-returns-then-sees_word-2 : goal.control-returns-then-sees_word-2
unfolding read_control
control-returns-then-sees_word-2 t c =
    instead _ _ _ _ _ _ c.while_loop.result (rw (sym c.sees_word.ensures ∙ c.if-sees_word.false, sym c.sees_word-2.ensures ∙ c.if-sees_word-2.true) refl) c.while_loop.ensures

pub control-returns : goal.control-returns
unfolding read_control
control-returns t c =
    instead _ _ _ _ _ _ c.for_loop.result (rw (sym c.sees_word.ensures ∙ c.if-sees_word.false, sym c.sees_word-2.ensures ∙ c.if-sees_word-2.false) refl) c.for_loop.ensures

pub conditional-returns-then-taken : goal.conditional-returns-then-taken
unfolding read_conditional
conditional-returns-then-taken t c =
    let w = c.in_ok-at.ensures in
    let e = c.in_ok-test.ensures in
    let b = c.in_ok-taken.ensures in
    let body = deeper_body c.body.new.parser.text c.args.room in
    let left = c.body.new.parser.left in
    let test = later b.after.longer e.shown in
    let none = c.new.ensures.items in
    let open' : c.in_ok-taken.taken.is_open ≡ b.value.is_open = (b.shown.holds (world_of c.body.new.parser) (from_here c.body.new.parser)).1 in
    let last = elim c.then-taken.branch as (λ z. read_behind_body c.body.new.parser.text body e.value w.value.at b.value left ≡ Ok (without_else e.value w.value.at b.value, left)) [
      | conditional-then-taken-via-then-taken v ↦ behind_open c.body.new.parser.text body e.value w.value.at b.value left (sym open' ∙ v.if-taken.true)
      | conditional-then-taken-via-else-taken+then-not-sees_word v ↦ behind_alone c.body.new.parser.text body e.value w.value.at b.value left (sym open' ∙ v.if-taken.false) (sym v.sees_word.ensures ∙ v.if-not-sees_word.true)
    ] in
    record {
      value = without_else e.value w.value.at b.value;
      shown = record { holds = λ v f. let q = b.shown.holds v f in (branch_in v _ _ _ _ (ap (λ (s : Token). s.at) w.shown) (c.close_or-close.ensures ∙ close_same _ _ _ _ q.2 (ap (λ (s : Token). s.at) w.shown)) _ c.in_ok-taken.taken.statements c.new.result _ _ _ (test.holds v f) q.0 (nothing_in v c.new.result none), refl) };
      read = rw (w.read, sym w.after.text, e.read, sym e.after.text, b.read, sym b.after.text) last;
      after = fewer 2 1 (omega arith) (after_on w.after (after_on e.after b.after));
    }

pub conditional-returns-in_err-word : goal.conditional-returns-in_err-word
unfolding read_conditional
conditional-returns-in_err-word t c =
    let w = c.in_ok-at.ensures in
    let e = c.in_ok-test.ensures in
    let b = c.in_ok-taken.ensures in
    let body = deeper_body c.body.new.parser.text c.args.room in
    let left = c.body.new.parser.left in
    let open' : c.in_ok-taken.taken.is_open ≡ b.value.is_open = (b.shown.holds (world_of c.body.new.parser) (from_here c.body.new.parser)).1 in
    let last = behind_else c.body.new.parser.text body e.value w.value.at b.value left (sym open' ∙ c.if-taken.false) (sym c.sees_word.ensures ∙ c.if-not-sees_word.false) in
    handed _ _ _ _ _ _ c.from_residual-in_err-word.ensures (λ no. rw (w.read, sym w.after.text, e.read, sym e.after.text, b.read, sym b.after.text) (last ∙ rw (c.in_err-word.ensures.read no) refl))

pub conditional-returns-in_err-other : goal.conditional-returns-in_err-other
unfolding read_conditional
conditional-returns-in_err-other t c =
    let w = c.in_ok-at.ensures in
    let e = c.in_ok-test.ensures in
    let b = c.in_ok-taken.ensures in
    let body = deeper_body c.body.new.parser.text c.args.room in
    let left = c.body.new.parser.left in
    let open' : c.in_ok-taken.taken.is_open ≡ b.value.is_open = (b.shown.holds (world_of c.body.new.parser) (from_here c.body.new.parser)).1 in
    let last = behind_else c.body.new.parser.text body e.value w.value.at b.value left (sym open' ∙ c.if-taken.false) (sym c.sees_word.ensures ∙ c.if-not-sees_word.false) in
    let x = c.in_ok-word.ensures in
    handed _ _ _ _ _ _ c.from_residual-in_err-other.ensures (λ no. rw (w.read, sym w.after.text, e.read, sym e.after.text, b.read, sym b.after.text) (last ∙ rw (x.read, sym x.after.text, c.in_err-other.ensures no) refl))

pub conditional-returns : goal.conditional-returns
unfolding read_conditional
conditional-returns t c =
    let w = c.in_ok-at.ensures in
    let e = c.in_ok-test.ensures in
    let b = c.in_ok-taken.ensures in
    let body = deeper_body c.body.new.parser.text c.args.room in
    let left = c.body.new.parser.left in
    let open' : c.in_ok-taken.taken.is_open ≡ b.value.is_open = (b.shown.holds (world_of c.body.new.parser) (from_here c.body.new.parser)).1 in
    let last = behind_else c.body.new.parser.text body e.value w.value.at b.value left (sym open' ∙ c.if-taken.false) (sym c.sees_word.ensures ∙ c.if-not-sees_word.false) in
    let x = c.in_ok-word.ensures in
    let d = c.in_ok-other.ensures in
    let test = later (after_on b.after (after_on x.after d.after)).longer e.shown in
    let taken = later (after_on x.after d.after).longer b.shown in
    record {
      value = with_else e.value w.value.at b.value d.value;
      shown = record { holds = λ v f. let q = taken.holds v f in let r = d.shown.holds v f in (branch_in v _ _ _ _ (ap (λ (s : Token). s.at) w.shown) (c.close_or-close-2.ensures ∙ close_same _ _ _ _ r.2 (c.close_or-close.ensures ∙ close_same _ _ _ _ q.2 (ap (λ (s : Token). s.at) w.shown))) _ c.in_ok-taken.taken.statements c.in_ok-other.other.statements _ _ _ (test.holds v f) q.0 r.0, r.1) };
      read = rw (w.read, sym w.after.text, e.read, sym e.after.text, b.read, sym b.after.text) (last ∙ rw (x.read, sym x.after.text, d.read) refl);
      after = fewer 3 1 (omega arith) (after_on w.after (after_on e.after (after_on b.after (after_on x.after d.after))));
    }

pub while_loop-returns : goal.while_loop-returns
unfolding read_while_loop
while_loop-returns t c =
    let w = c.in_ok-at.ensures in
    let e = c.in_ok-test.ensures in
    let b = c.in_ok-turn.ensures in
    let test = later b.after.longer e.shown in
    record {
      value = (while e.value b.value.statements w.value.at (close_or b.value.close w.value.at), b.value.is_open);
      shown = record { holds = λ v f. let q = b.shown.holds v f in (while_in v _ _ _ _ (ap (λ (s : Token). s.at) w.shown) (c.close_or-close.ensures ∙ close_same _ _ _ _ q.2 (ap (λ (s : Token). s.at) w.shown)) _ c.in_ok-turn.turn.statements _ _ (test.holds v f) q.0, q.1) };
      read = rw (w.read, sym w.after.text, e.read, sym e.after.text, b.read) refl;
      after = fewer 2 1 (omega arith) (after_on w.after (after_on e.after b.after));
    }

pub for_loop-returns-in_err-turn : goal.for_loop-returns-in_err-turn
unfolding read_for_loop
for_loop-returns-in_err-turn t c =
    let w = c.in_ok-at.ensures in
    let s = c.in_ok-ty.ensures in
    let x = c.in_ok-name.ensures in
    let i = c.in_ok-word.ensures in
    let r = c.in_ok-over.ensures in
    handed _ _ _ _ _ _ c.from_residual-in_err-turn.ensures (λ no. rw (w.read, sym w.after.text, s.read, sym s.after.text, x.read, sym x.after.text, i.read, sym i.after.text, r.read, sym r.after.text, c.in_err-turn.ensures no) refl)

pub for_loop-returns : goal.for_loop-returns
unfolding read_for_loop
for_loop-returns t c =
    let w = c.in_ok-at.ensures in
    let s = c.in_ok-ty.ensures in
    let x = c.in_ok-name.ensures in
    let i = c.in_ok-word.ensures in
    let r = c.in_ok-over.ensures in
    let b = c.in_ok-turn.ensures in
    let type = later (after_on x.after (after_on i.after (after_on r.after b.after))).longer s.shown in
    let name = later (after_on i.after (after_on r.after b.after)).longer x.shown in
    let over = later b.after.longer r.shown in
    record {
      value = for_of s.value x.value r.value b.value w.value.at;
      shown = record { holds = λ v f. let q = b.shown.holds v f in for_in v _ _ _ (ap (λ (y : Token). y.at) w.shown) _ _ c.in_ok-turn.turn.statements _ _ _ b.value (c.close_or-close.ensures ∙ close_same _ _ _ _ q.2 (ap (λ (y : Token). y.at) w.shown)) q.1 (type.holds v f) (name.holds v f) q.0 _ c.in_ok-over.over r.value c.loop_kind-kind.ensures (over.holds v f) };
      read = rw (w.read, sym w.after.text, s.read, sym s.after.text, x.read, sym x.after.text, i.read, sym i.after.text, r.read, sym r.after.text, b.read) refl;
      after = fewer 5 1 (omega arith) (after_on w.after (after_on s.after (after_on x.after (after_on i.after (after_on r.after b.after)))));
    }
