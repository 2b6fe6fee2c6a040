use Rattle.std.proofs.Common.{◌∷◌, [], ◌++◌, codes, le_refl, refl, sym, ap, ◌∙◌, arith}
use Rattle.qasm_expr.proofs.Growing.{get_below, grows_name}
use Rattle.qasm_expr.proofs.Trees.{text_found}
use Rattle.qasm_expr.proofs.Units.{pushed}
use Rattle.qasm_grammar.specs.Parts.{declared, call_of}
use Rattle.qasm_grammar.specs.Reader.{read_phase, read_any_operands}
use Rattle.qasm_stmt.specs.declared.arena.Arena.{Arena}
use Rattle.qasm_stmt.specs.Seen.{IsTree, IsName, IsChange}
use Rattle.qasm_stmt.proofs.Filling.{no_items, one_item}
use Rattle.qasm_stmt.proofs.Growing.{grown_on, grown_by, sound_by, name_later, tree_later}
use Rattle.qasm_expr.proofs.Exits.{handed, handed_mark}
use Rattle.qasm_stmt.proofs.calls.phase.Goals as goal

pub returns-in_err-place-clause-gives : goal.returns-in_err-place-clause-gives
unfolding read_phase
returns-in_err-place-clause-gives c =
    handed _ _ _ _ c.from_residual.ensures c.in_err-place.ensures.gives (le_refl _) (λ e h. rw h refl)

pub condition-requires-clause-sound : goal.condition-requires-clause-sound
condition-requires-clause-sound c =
    sound_by c.args.arena.now _ c.requires.sound (grows_name _ _ _ _ c.in_ok-name.ensures.kept (omega arith)) refl

pub returns-in_err-angle-clause-gives : goal.returns-in_err-angle-clause-gives
unfolding read_phase
returns-in_err-angle-clause-gives c =
    let w = c.in_ok-place.ensures.gives in
    handed _ _ _ _ c.from_residual-in_err-angle.ensures c.in_err-angle.ensures.gives w.2 (λ e h. rw (w.4, h) refl)

pub returns-in_err-operands-clause-gives : goal.returns-in_err-operands-clause-gives
unfolding read_phase read_any_operands
returns-in_err-operands-clause-gives c =
    let w = c.in_ok-place.ensures.gives in
    let r = c.in_ok-angle.ensures.gives in
    handed _ _ _ _ c.from_residual-in_err-operands.ensures c.in_err-operands.ensures.gives (omega (arith, w.2, r.2)) (λ e h. rw (w.4, r.4, h) refl)

pub returns-in_err-at-clause-gives : goal.returns-in_err-at-clause-gives
unfolding read_phase read_any_operands
returns-in_err-at-clause-gives c =
    let w = c.in_ok-place.ensures.gives in
    let r = c.in_ok-angle.ensures.gives in
    let os = c.in_ok-operands.ensures.gives in
    handed_mark _ _ _ _ c.from_residual-in_err-at.ensures c.in_err-at.ensures (omega (arith, w.2, r.2, os.2)) os.3 (λ e h. rw (w.4, r.4, os.4, h) refl)

pub returns-clause-gives : goal.returns-clause-gives
unfolding read_phase read_any_operands
returns-clause-gives c =
    let w = c.in_ok-place.ensures.gives in
    let r = c.in_ok-angle.ensures.gives in
    let os = c.in_ok-operands.ensures.gives in
    let k = c.in_ok-at.ensures in
    let b : Arena = record { names = c.intern.new.names; exprs = c.args.arena.now.exprs; stmts = c.args.arena.now.stmts } in
    let sound = sound_by c.args.arena.now b c.requires.sound (grows_name _ _ _ _ c.in_ok-name.ensures.kept (omega arith)) refl in
    let grown = grown_on c.in_ok-angle.ensures.grown c.in_ok-operands.ensures.grown in
    let named : IsName b (record { name = c.in_ok-name.name; at = c.in_ok-place.place }) (declared (codes "gphase", w.0.at)) =
    (get_below _ c.in_ok-name.name _ c.in_ok-name.ensures.found, ap (λ t. declared (t, c.in_ok-place.place)) (text_found _ c.in_ok-name.name _ c.in_ok-name.ensures.found) ∙ ap (λ p. declared (codes "gphase", p)) w.1) in
    let push = pushed c.push.result c.new-args.result.items c.push.new.self.items (c.new-args.result.items ++ c.in_ok-angle.angle ∷ []) c.push.ensures.items (sym c.is_err.ensures.value ∙ c.if-is_err.false) in (
      call_of (declared (codes "gphase", w.0.at)) (r.0 ∷ []) os.0,
      record {
        changes = no_items (IsChange c.operands.new.arena) c.new.result.items c.new.ensures.items;
        name = name_later sound grown _ _ named;
        arguments = one_item (IsTree c.operands.new.arena) c.new-args.result.items c.push.new.self.items c.in_ok-angle.angle r.0 c.new-args.ensures.items push (tree_later c.in_ok-angle.ensures.sound c.in_ok-operands.ensures.grown c.in_ok-angle.angle r.0 r.1);
        operands = os.1;
      },
      omega (arith, w.2, r.2, os.2, k.1),
      k.2,
      rw (w.4, r.4, os.4, k.4) refl,
    )

pub returns-clause-grown : goal.returns-clause-grown
returns-clause-grown c =
    grown_on (grown_by c.args.arena.now _ (grows_name _ _ _ _ c.in_ok-name.ensures.kept (omega arith)) refl) (grown_on c.in_ok-angle.ensures.grown c.in_ok-operands.ensures.grown)
