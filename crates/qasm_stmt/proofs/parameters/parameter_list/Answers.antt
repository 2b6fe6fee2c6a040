use Rattle.std.proofs.Common.{◌≤◌, ◌<◌, ◌++◌, ◌∷◌, [], List, Vec, Global, false, Some, length, drop, sym, ap, ◌∙◌, length-drop, length-append, arith, refl}
use Rattle.std.proofs.lemmas.Result.{err_from_is_err_and}
use Rattle.qasm_ast.specs.declared.expr.TypeRef.{TypeRef}
use Rattle.qasm_ast.specs.declared.stmt.Declared.{Declared}
use Rattle.qasm_ast.specs.Tree.{Parameter}
use Rattle.qasm_expr.proofs.Exits.{exit}
use Rattle.qasm_expr.proofs.Units.{pushed}
use Rattle.qasm_grammar.specs.Reader.{read_parameter, parameter_kinds}
use Rattle.qasm_stmt.specs.Seen.{Each, IsList, IsParameter}
use Rattle.qasm_stmt.proofs.Growing.{each_none, grown_same, grown_on, parameter_later}
use Rattle.qasm_expr.proofs.Loops.{listing_start, listing_stop, listing_err, listing_end, listing_more}
use Rattle.qasm_stmt.proofs.Filling.{each_more}
use Rattle.qasm_stmt.proofs.Handed.{parameter_moves}
use Rattle.qasm_stmt.proofs.parameters.parameter_list.Goals as goal

pub items-init : goal.items-init
items-init c =
    record {
      listing = listing_start c.args.text.now parameter_kinds (read_parameter c.args.text.now (Some 64) c.args.room) c.args.tokens.now c.args.from (Each (IsParameter c.args.arena.now)) false c.new-found.result.items (each_none _ _ c.new-found.ensures.items) c.requires.within;
      count = omega (arith, ap length c.new-found.ensures.items);
      grown = grown_same _;
      kept = refl;
      few = c.requires.few;
      sound = c.requires.sound;
    }

pub returns-in_err-item-clause-gives : goal.returns-in_err-item-clause-gives
returns-in_err-item-clause-gives c =
    let g = c.items.invariant.listing in
    let begun = sym c.begins_parameter.ensures ∙ c.items-test.true in
    let p = err_from_is_err_and c.from_residual.result c.from_residual.ensures.1 in
    rw (p.1, p.2) (exit (IsParameter c.parameter.new.arena) (λ (v : Vec (TypeRef × Declared) Global) (ps : List Parameter). IsList (IsParameter c.parameter.new.arena) v.items ps) c.args.tokens.now c.args.from c.items.at (read_parameter c.args.text.now (Some 64) c.args.room (drop c.items.at c.args.tokens.now)) _ c.in_err-item.field-0.0 (listing_err c.args.text.now parameter_kinds (read_parameter c.args.text.now (Some 64) c.args.room) c.args.tokens.now c.args.from g begun) g.from_at c.in_err-item.ensures.gives)

pub returns-then-not-sees-clause-gives : goal.returns-then-not-sees-clause-gives
returns-then-not-sees-clause-gives c =
    let g = c.items.invariant.listing in
    let r = c.in_ok-item.ensures.gives in
    let shorter : length (drop c.in_ok-item.next c.args.tokens.now) < length (drop c.items.at c.args.tokens.now) = parameter_moves c.args.text.now (Some 64) c.args.room (drop c.items.at c.args.tokens.now) r.0 (drop c.in_ok-item.next c.args.tokens.now) r.4 in
    let on : c.items.at < c.in_ok-item.next = omega (arith, shorter, length-drop c.in_ok-item.next c.args.tokens.now, length-drop c.items.at c.args.tokens.now) in
    let push = pushed c.push.result c.items.found.items c.push.new.self.items (c.items.found.items ++ c.in_ok-item.item ∷ []) c.push.ensures.items (sym c.is_err.ensures.value ∙ c.if-is_err.false) in
    let seen = each_more (IsParameter c.items.arena) (IsParameter c.parameter.new.arena) (parameter_later c.items.invariant.sound c.in_ok-item.ensures.grown) c.items.found.items c.push.new.self.items g.acc c.in_ok-item.item r.0 push g.sees r.1 in
    let begun = sym c.begins_parameter.ensures ∙ c.items-test.true in
    let le0 : c.args.from ≤ c.items.at = g.from_at in
    let few = c.requires.cut.few in
    let count = c.items.invariant.count in
    (g.acc ++ r.0 ∷ [], (omega (arith, few, count, ap length push, length-append c.items.found.items (c.in_ok-item.item ∷ []), on, r.3), seen), omega (arith, on, le0), r.3, listing_end c.args.text.now parameter_kinds (read_parameter c.args.text.now (Some 64) c.args.room) c.args.tokens.now c.args.from g begun c.in_ok-item.next r.0 on r.3 r.4 (sym c.sees.ensures.value ∙ c.if-not-sees.true))

pub items-preserved : goal.items-preserved
items-preserved c =
    let g = c.items.invariant.listing in
    let r = c.in_ok-item.ensures.gives in
    let shorter : length (drop c.in_ok-item.next c.args.tokens.now) < length (drop c.items.at c.args.tokens.now) = parameter_moves c.args.text.now (Some 64) c.args.room (drop c.items.at c.args.tokens.now) r.0 (drop c.in_ok-item.next c.args.tokens.now) r.4 in
    let on : c.items.at < c.in_ok-item.next = omega (arith, shorter, length-drop c.in_ok-item.next c.args.tokens.now, length-drop c.items.at c.args.tokens.now) in
    let push = pushed c.push.result c.items.found.items c.push.new.self.items (c.items.found.items ++ c.in_ok-item.item ∷ []) c.push.ensures.items (sym c.is_err.ensures.value ∙ c.if-is_err.false) in
    let seen = each_more (IsParameter c.items.arena) (IsParameter c.parameter.new.arena) (parameter_later c.items.invariant.sound c.in_ok-item.ensures.grown) c.items.found.items c.push.new.self.items g.acc c.in_ok-item.item r.0 push g.sees r.1 in
    let begun = sym c.begins_parameter.ensures ∙ c.items-test.true in
    let few = c.in_ok-item.ensures.few in
    let count = c.items.invariant.count in
    record {
      listing = listing_more c.args.text.now parameter_kinds (read_parameter c.args.text.now (Some 64) c.args.room) c.args.tokens.now c.args.from g begun (Each (IsParameter c.parameter.new.arena)) c.in_ok-item.next r.0 c.push.new.self.items seen on r.3 r.4 (sym c.sees.ensures.value ∙ c.if-not-sees.false);
      count = omega (arith, count, ap length push, length-append c.items.found.items (c.in_ok-item.item ∷ []), on);
      grown = grown_on c.items.invariant.grown c.in_ok-item.ensures.grown;
      kept = c.in_ok-item.ensures.kept ∙ c.items.invariant.kept;
      few = (omega (arith, few.0), omega (arith, few.1), omega (arith, few.2));
      sound = c.in_ok-item.ensures.sound;
    }

pub returns-clause-gives : goal.returns-clause-gives
returns-clause-gives c =
    let g = c.items.invariant.listing in
    let end : c.items.at ≤ length c.args.tokens.now = g.at_end in
    let few = c.requires.cut.few in
    let count = c.items.invariant.count in
    (g.acc, (omega (arith, few, count, end), g.sees), g.from_at, g.at_end, listing_stop c.args.text.now parameter_kinds (read_parameter c.args.text.now (Some 64) c.args.room) c.args.tokens.now c.args.from g (sym c.begins_parameter.ensures ∙ c.items-test.false))
