use Rattle.std.proofs.Common.{List, refl, sym, ap, subst, ◌∙◌, arith, rules}
use Rattle.core_ir.specs.declared.expression.CellKind.{CellKind}
use Rattle.core_ir.specs.Core.{Core}
use Rattle.core_ir.specs.Tree.{body_of}
use Rattle.phi_place.specs.Phis.{is_listed}
use Rattle.expr_lower.specs.Coded.{coded}
use Rattle.block_graph.specs.Lowering.{start_needs, close_start, close_end}
use Rattle.block_lower.specs.Parts.{IsSmall}
use Rattle.block_lower.proofs.Rising.{choice_small, block_small, loop_small}
use Rattle.block_lower.proofs.Choices.{first_small, turned_small, fallen_small, second_small, put_back, block_some, block_body_small, block_left_small, block_end_small, needs_are, loop_some, loop_body_small, loop_left_small, loop_end_small, loop_is}
use Rattle.block_lower.proofs.statements.+lowering.Goals as goal

pub lower_choice-open_first-requires-clause-small : goal.lower_choice-open_first-requires-clause-small
lower_choice-open_first-requires-clause-small t c = (choice_small c.args.core.now (coded c.args.core.now) c.args.holds c.args.test (body_of c.args.core.now.stmts c.args.first.now) (body_of c.args.core.now.stmts c.args.second.now) c.args.work.now c.args.here c.requires.small).start

pub lower_choice-lower_body-requires : goal.lower_choice-lower_body-requires
lower_choice-lower_body-requires t c = (search rules, (c.requires.fits, (c.requires.first, first_small c.args.core.now (coded c.args.core.now) c.args.holds c.args.test (body_of c.args.core.now.stmts c.args.first.now) (body_of c.args.core.now.stmts c.args.second.now) c.args.work.now c.open_first.new.self c.args.here c.in_ok-choice.ensures.work c.requires.small)))

pub lower_choice-turn-requires-clause-small : goal.lower_choice-turn-requires-clause-small
lower_choice-turn-requires-clause-small t c = turned_small c.args.core.now (coded c.args.core.now) c.args.holds c.args.test (body_of c.args.core.now.stmts c.args.first.now) (body_of c.args.core.now.stmts c.args.second.now) c.args.work.now c.open_first.new.self c.lower_body.new.work c.args.here c.in_ok-choice.ensures.work c.in_ok-lower_body.ensures c.requires.small

pub lower_choice-turn-requires-clause-behind : goal.lower_choice-turn-requires-clause-behind
lower_choice-turn-requires-clause-behind t c =
    fallen_small c.args.core.now (coded c.args.core.now) c.args.holds c.args.test (body_of c.args.core.now.stmts c.args.first.now) (body_of c.args.core.now.stmts c.args.second.now) c.args.work.now c.open_first.new.self c.lower_body.new.work c.args.here c.in_ok-choice.choice.join c.in_ok-choice.ensures.work c.in_ok-lower_body.ensures c.in_ok-choice.ensures.join c.requires.small

pub lower_choice-lower_body-requires-2 : goal.lower_choice-lower_body-requires-2
lower_choice-lower_body-requires-2 t c = (
  search rules,
  (
    c.requires.fits,
    (
      c.requires.second,
      second_small c.args.core.now (coded c.args.core.now) c.args.holds c.args.test (body_of c.args.core.now.stmts c.args.first.now) (body_of c.args.core.now.stmts c.args.second.now) c.args.work.now c.open_first.new.self c.lower_body.new.work c.turn.new.self c.args.here c.in_ok-choice.choice.second c.in_ok-choice.choice.join c.in_ok-choice.choice.values c.in_ok-choice.ensures.work c.in_ok-lower_body.ensures
          c.in_ok-choice.ensures.second c.in_ok-choice.ensures.join c.in_ok-choice.ensures.values c.in_ok-ways.ensures.work c.requires.small,
    ),
  ),
)

pub lower_block-open_end-requires : goal.lower_block-open_end-requires
lower_block-open_end-requires t c = (block_small c.args.core.now (coded c.args.core.now) (body_of c.args.core.now.stmts c.args.body.now) c.put_open.new.self (subst IsSmall (sym (block_some c.args.core.now (coded c.args.core.now) (body_of c.args.core.now.stmts c.args.body.now) c.args.work.now c.put_open.new.self c.in-Some.open (sym c.take_open.ensures.value ∙ c.in-Some.is) (put_back c.args.work.now c.take_open.new.self c.put_open.new.self c.in-Some.open (sym c.take_open.ensures.value ∙ c.in-Some.is) c.take_open.ensures.work c.put_open.ensures))) c.requires.small)).start

pub lower_block-lower_body-requires : goal.lower_block-lower_body-requires
lower_block-lower_body-requires t c = (search rules, (c.requires.fits, (c.requires.within, block_body_small c.args.core.now (coded c.args.core.now) (body_of c.args.core.now.stmts c.args.body.now) c.put_open.new.self c.open_end.new.self c.in_ok-open_end.ensures (subst IsSmall (sym (block_some c.args.core.now (coded c.args.core.now) (body_of c.args.core.now.stmts c.args.body.now) c.args.work.now c.put_open.new.self c.in-Some.open (sym c.take_open.ensures.value ∙ c.in-Some.is) (put_back c.args.work.now c.take_open.new.self c.put_open.new.self c.in-Some.open (sym c.take_open.ensures.value ∙ c.in-Some.is) c.take_open.ensures.work c.put_open.ensures))) c.requires.small))))

pub lower_block-leave-requires : goal.lower_block-leave-requires
lower_block-leave-requires t c = block_left_small c.args.core.now (coded c.args.core.now) (body_of c.args.core.now.stmts c.args.body.now) c.put_open.new.self c.open_end.new.self c.lower_body.new.work c.in_ok-open_end.ensures c.in_ok-lower_body.ensures (subst IsSmall (sym (block_some c.args.core.now (coded c.args.core.now) (body_of c.args.core.now.stmts c.args.body.now) c.args.work.now c.put_open.new.self c.in-Some.open (sym c.take_open.ensures.value ∙ c.in-Some.is) (put_back c.args.work.now c.take_open.new.self c.put_open.new.self c.in-Some.open (sym c.take_open.ensures.value ∙ c.in-Some.is) c.take_open.ensures.work c.put_open.ensures))) c.requires.small)

pub lower_block-close_end-requires-clause-small : goal.lower_block-close_end-requires-clause-small
lower_block-close_end-requires-clause-small t c =
    block_end_small c.args.core.now (coded c.args.core.now) (body_of c.args.core.now.stmts c.args.body.now) c.put_open.new.self c.open_end.new.self c.lower_body.new.work c.leave.new.self c.in_ok-open_end.ensures c.in_ok-lower_body.ensures c.in_ok-leave.ensures (subst IsSmall (sym (block_some c.args.core.now (coded c.args.core.now) (body_of c.args.core.now.stmts c.args.body.now) c.args.work.now c.put_open.new.self c.in-Some.open (sym c.take_open.ensures.value ∙ c.in-Some.is) (put_back c.args.work.now c.take_open.new.self c.put_open.new.self c.in-Some.open (sym c.take_open.ensures.value ∙ c.in-Some.is) c.take_open.ensures.work c.put_open.ensures))) c.requires.small)

pub lower_loop-open_loop-requires-clause-small : goal.lower_loop-open_loop-requires-clause-small
lower_loop-open_loop-requires-clause-small t c = (loop_small c.args.core.now (coded c.args.core.now) (body_of c.args.core.now.stmts c.args.body.now) (start_needs c.args.core.now.exprs (body_of c.args.core.now.stmts c.args.body.now) c.in-Some.open.values) c.take_open.new.self c.in-Some.open (subst IsSmall (sym (loop_some c.args.core.now (coded c.args.core.now) (body_of c.args.core.now.stmts c.args.body.now) (start_needs c.args.core.now.exprs (body_of c.args.core.now.stmts c.args.body.now) c.in-Some.open.values) c.args.work.now c.take_open.new.self c.in-Some.open (sym c.take_open.ensures.value ∙ c.in-Some.is) c.take_open.ensures.work refl)) c.requires.small)).start

pub lower_loop-lower_body-requires : goal.lower_loop-lower_body-requires
lower_loop-lower_body-requires t c = (search rules, (c.requires.fits, (c.requires.within, loop_body_small c.args.core.now (coded c.args.core.now) (body_of c.args.core.now.stmts c.args.body.now) (is_listed c.in_ok-start.start.cells.items) c.take_open.new.self c.open_loop.new.self c.in-Some.open c.in_ok-start.ensures.work (subst IsSmall (sym (loop_some c.args.core.now (coded c.args.core.now) (body_of c.args.core.now.stmts c.args.body.now) (is_listed c.in_ok-start.start.cells.items) c.args.work.now c.take_open.new.self c.in-Some.open (sym c.take_open.ensures.value ∙ c.in-Some.is) c.take_open.ensures.work (needs_are c.in_ok-start.start.cells.items (start_needs c.args.core.now.exprs (body_of c.args.core.now.stmts c.args.body.now) c.in-Some.open.values) c.in_ok-start.ensures.cells))) c.requires.small))))

pub lower_loop-leave-requires : goal.lower_loop-leave-requires
lower_loop-leave-requires t c = loop_left_small c.args.core.now (coded c.args.core.now) (body_of c.args.core.now.stmts c.args.body.now) (is_listed c.in_ok-start.start.cells.items) c.take_open.new.self c.open_loop.new.self c.lower_body.new.work c.in-Some.open c.in_ok-start.ensures.work c.in_ok-lower_body.ensures (subst IsSmall (sym (loop_some c.args.core.now (coded c.args.core.now) (body_of c.args.core.now.stmts c.args.body.now) (is_listed c.in_ok-start.start.cells.items) c.args.work.now c.take_open.new.self c.in-Some.open (sym c.take_open.ensures.value ∙ c.in-Some.is) c.take_open.ensures.work (needs_are c.in_ok-start.start.cells.items (start_needs c.args.core.now.exprs (body_of c.args.core.now.stmts c.args.body.now) c.in-Some.open.values) c.in_ok-start.ensures.cells))) c.requires.small)

pub lower_loop-close_start-requires-clause-small : goal.lower_loop-close_start-requires-clause-small
lower_loop-close_start-requires-clause-small t c =
    let small = (loop_small c.args.core.now (coded c.args.core.now) (body_of c.args.core.now.stmts c.args.body.now) (start_needs c.args.core.now.exprs (body_of c.args.core.now.stmts c.args.body.now) c.in-Some.open.values) c.take_open.new.self c.in-Some.open (subst IsSmall (sym (loop_some c.args.core.now (coded c.args.core.now) (body_of c.args.core.now.stmts c.args.body.now) (start_needs c.args.core.now.exprs (body_of c.args.core.now.stmts c.args.body.now) c.in-Some.open.values) c.args.work.now c.take_open.new.self c.in-Some.open (sym c.take_open.ensures.value ∙ c.in-Some.is) c.take_open.ensures.work refl)) c.requires.small)).start in
    omega (arith, small.next, c.in_ok-start.ensures.next)

pub lower_loop-close_end-requires-clause-small : goal.lower_loop-close_end-requires-clause-small
lower_loop-close_end-requires-clause-small t c =
    loop_end_small c.args.core.now (coded c.args.core.now) (body_of c.args.core.now.stmts c.args.body.now) (is_listed c.in_ok-start.start.cells.items) c.take_open.new.self c.open_loop.new.self c.lower_body.new.work c.leave.new.self c.close_start.new.self c.in-Some.open c.in_ok-start.start.late c.in_ok-start.start.next c.in_ok-start.ensures.work c.in_ok-lower_body.ensures c.in_ok-leave.ensures
    c.in_ok-start.ensures.late c.in_ok-start.ensures.next (c.in_ok-close_start.ensures ∙ ap (λ (ks : List CellKind). close_start ks (is_listed c.in_ok-start.start.cells.items) c.in_ok-start.start.late c.in_ok-start.start.next c.leave.new.self.starts c.leave.new.self) (c.deref.ensures.value ∙ ap (λ (v : Core). v.cells) c.core.view_is)) (subst IsSmall (sym (loop_some c.args.core.now (coded c.args.core.now) (body_of c.args.core.now.stmts c.args.body.now) (is_listed c.in_ok-start.start.cells.items) c.args.work.now c.take_open.new.self c.in-Some.open (sym c.take_open.ensures.value ∙ c.in-Some.is) c.take_open.ensures.work (needs_are c.in_ok-start.start.cells.items (start_needs c.args.core.now.exprs (body_of c.args.core.now.stmts c.args.body.now) c.in-Some.open.values) c.in_ok-start.ensures.cells))) c.requires.small)

pub lower_loop-returns : goal.lower_loop-returns
lower_loop-returns t c =
    c.in_ok-close_end.ensures ∙ ap (λ (ks : List CellKind). close_end ks c.close_start.new.self.ends c.close_start.new.self) (c.deref-2.ensures.value ∙ ap (λ (v : Core). v.cells) c.core.view_is)
    ∙ loop_is c.args.core.now (coded c.args.core.now) (body_of c.args.core.now.stmts c.args.body.now) (is_listed c.in_ok-start.start.cells.items) c.take_open.new.self c.open_loop.new.self c.lower_body.new.work c.leave.new.self c.close_start.new.self c.in-Some.open c.in_ok-start.start.late c.in_ok-start.start.next c.in_ok-start.ensures.work c.in_ok-lower_body.ensures c.in_ok-leave.ensures
    c.in_ok-start.ensures.late c.in_ok-start.ensures.next (c.in_ok-close_start.ensures ∙ ap (λ (ks : List CellKind). close_start ks (is_listed c.in_ok-start.start.cells.items) c.in_ok-start.start.late c.in_ok-start.start.next c.leave.new.self.starts c.leave.new.self) (c.deref.ensures.value ∙ ap (λ (v : Core). v.cells) c.core.view_is)) ∙ (loop_some c.args.core.now (coded c.args.core.now) (body_of c.args.core.now.stmts c.args.body.now) (is_listed c.in_ok-start.start.cells.items) c.args.work.now c.take_open.new.self c.in-Some.open (sym c.take_open.ensures.value ∙ c.in-Some.is) c.take_open.ensures.work (needs_are c.in_ok-start.start.cells.items (start_needs c.args.core.now.exprs (body_of c.args.core.now.stmts c.args.body.now) c.in-Some.open.values) c.in_ok-start.ensures.cells))
