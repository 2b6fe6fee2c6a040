use Rattle.std.proofs.Common.{◌++◌, ◌∷◌, [], length, le_refl, sym, ap, ◌∙◌, length-append, arith, refl}
use Rattle.qasm_expr.proofs.Units.{pushed}
use Rattle.qasm_stmt.specs.Seen.{IsChange}
use Rattle.qasm_stmt.proofs.Changes.{changing_start, changing_full, changing_err, changing_at, changing_more, changing_plain, changing_end}
use Rattle.qasm_stmt.proofs.Filling.{each_more, list_later}
use Rattle.qasm_stmt.proofs.Growing.{grown_same, grown_on, change_later}
use Rattle.qasm_expr.proofs.Exits.{handed, handed_mark}
use Rattle.qasm_stmt.proofs.calls.call.Goals as goal

pub mods-init : goal.mods-init
mods-init c =
    record {
      changing = changing_start _ _ (IsChange c.args.arena.now) c.new-mods.result.items c.args.room c.args.from c.new-mods.ensures.items;
      count = omega (arith, ap length c.new-mods.ensures.items);
      grown = grown_same _;
      kept = refl;
      few = c.requires.few;
      sound = c.requires.sound;
      start = le_refl _;
      end = c.requires.within;
    }

pub returns-then-left-eq0-clause-gives : goal.returns-then-left-eq0-clause-gives
returns-then-left-eq0-clause-gives c =
    (c.mods.invariant.start, c.mods.invariant.end, changing_full _ _ c.mods.invariant.changing (sym c.begins_change.ensures ∙ c.mods-test.true) c.if-left-eq0.true)

pub returns-in_err-change-clause-gives : goal.returns-in_err-change-clause-gives
returns-in_err-change-clause-gives c =
    handed _ _ _ _ c.from_residual.ensures c.in_err-change.ensures.gives c.mods.invariant.start (changing_err _ _ c.mods.invariant.changing (sym c.begins_change.ensures ∙ c.mods-test.true) (omega arith))

pub returns-in_err-next-clause-gives : goal.returns-in_err-next-clause-gives
returns-in_err-next-clause-gives c =
    let r = c.in_ok-change.ensures.gives in
    handed_mark _ _ _ _ c.from_residual-in_err-next.ensures c.in_err-next.ensures (omega (arith, c.mods.invariant.start, r.2)) r.3 (changing_at _ _ c.mods.invariant.changing (sym c.begins_change.ensures ∙ c.mods-test.true) (omega arith) _ _ r.4)

pub mods-preserved : goal.mods-preserved
mods-preserved c =
    let g = c.mods.invariant.changing in
    let r = c.in_ok-change.ensures.gives in
    let k = c.in_ok-next.ensures in
    let few = c.in_ok-change.ensures.few in
    let push = pushed c.push.result c.mods.mods.items c.push.new.self.items (c.mods.mods.items ++ c.in_ok-change.change ∷ []) c.push.ensures.items (sym c.is_err.ensures.value ∙ c.if-is_err.false) in
    let seen = each_more (IsChange c.mods.arena) (IsChange c.modifier.new.arena) (change_later c.mods.invariant.sound c.in_ok-change.ensures.grown) c.mods.mods.items c.push.new.self.items g.acc c.in_ok-change.change r.0 push g.sees r.1 in
    record {
      changing = changing_more _ _ g (sym c.begins_change.ensures ∙ c.mods-test.true) (omega arith) r.0 _ r.4 (IsChange c.modifier.new.arena) c.in_ok-next.next k.0 c.push.new.self.items seen k.4;
      count = omega (arith, ap length push, length-append c.mods.mods.items (c.in_ok-change.change ∷ []), r.2, k.1, c.mods.invariant.count);
      grown = grown_on c.mods.invariant.grown c.in_ok-change.ensures.grown;
      kept = c.in_ok-change.ensures.kept ∙ c.mods.invariant.kept;
      few = (omega (arith, few.0, k.1), omega (arith, few.1, k.1), omega (arith, few.2, k.1));
      sound = c.in_ok-change.ensures.sound;
      start = omega (arith, c.mods.invariant.start, r.2, k.1);
      end = k.2;
    }

pub returns-in_err-plain-clause-gives : goal.returns-in_err-plain-clause-gives
returns-in_err-plain-clause-gives c =
    handed _ _ _ _ c.from_residual-in_err-plain.ensures c.in_err-plain.ensures.gives c.mods.invariant.start (changing_plain _ _ c.mods.invariant.changing (sym c.begins_change.ensures ∙ c.mods-test.false))

pub returns-clause-gives : goal.returns-clause-gives
returns-clause-gives c =
    let g = c.mods.invariant.changing in
    let r = c.in_ok-plain.ensures.gives in (
      record { changes = g.acc; name = r.0.name; arguments = r.0.arguments; operands = r.0.operands },
      record {
        changes = list_later (IsChange c.mods.arena) (IsChange c.plain_call.new.arena) (change_later c.mods.invariant.sound c.in_ok-plain.ensures.grown) c.mods.mods.items g.acc (omega (arith, c.mods.invariant.count, c.mods.invariant.end, c.requires.cut.few), g.sees);
        name = r.1.name;
        arguments = r.1.arguments;
        operands = r.1.operands;
      },
      omega (arith, c.mods.invariant.start, r.2),
      r.3,
      changing_end _ _ g (sym c.begins_change.ensures ∙ c.mods-test.false) r.0 _ r.4,
    )
