use Rattle.std.proofs.Common.{◌≡◌, Ok, ap, sym, ◌∙◌, arith}
use Rattle.std.proofs.lemmas.Result.{err_from_is_err_and}
use Rattle.gate_lists.specs.Units.{word_of}
use Rattle.gate_arguments.specs.Rows.{made_seen}
use Rattle.gate_arguments.specs.Scope.{turn_of}
use Rattle.gate_arguments.proofs.Paying.{constant_paid, constant_unpaid, paid_left}
use Rattle.gate_arguments.proofs.Turning.{grows_by, keeps_made, makes_pushed, makes_then, pushed_at, turn_same, worths_before}
use Rattle.gate_arguments.proofs.turn.made_turn.Goals as goal

pub returns-in_err-pay-clause-answer : goal.returns-in_err-pay-clause-answer
returns-in_err-pay-clause-answer c =
    let p = err_from_is_err_and c.from_residual.result c.from_residual.ensures.1 in
    λ given worths are. rw (p.1, p.2) (constant_unpaid c.args.work.now.budget 2 (Ok (turn_of (made_seen worths c.args.made))) (turn_of (made_seen worths c.args.made)) c.in_err-pay.field-0.0 (λ i. Ok (turn_of (made_seen worths c.args.made))) c.in_err-pay.ensures)

pub returns-clause-answer : goal.returns-clause-answer
returns-clause-answer c = λ given worths are.
    let old = c.expression_of.new.turns.items.items in
    let new = c.push.new.self.items.items in
    let pushed = makes_pushed old new c.in_ok-turn.turn c.in_ok-push.field-0 c.in_ok-push.ensures.pushed in
    let before = worths_before given worths old new pushed.kept are in
    let worth : worths c.in_ok-push.field-0 ≡ word_of (made_seen worths c.args.made) =
    are.each c.in_ok-push.field-0 c.in_ok-turn.turn (pushed_at old new c.in_ok-turn.turn c.in_ok-push.field-0 c.in_ok-push.ensures.pushed) ∙ c.in_ok-turn.ensures.worth given worths before in
    constant_paid c.args.work.now.budget c.pay.new.budget 2 (Ok (turn_of (made_seen worths c.args.made))) (turn_of (made_seen worths c.args.made)) (λ i. Ok (turn_of (made_seen worths c.args.made))) c.in_ok-pay.ensures
    ∙ ap (λ y. Ok (y, c.pay.new.budget)) (sym (turn_same (worths c.in_ok-push.field-0) (made_seen worths c.args.made) worth))

pub returns-clause-kept : goal.returns-clause-kept
returns-clause-kept c =
    keeps_made _ _ 3 (makes_then c.args.work.now.turns.items.items c.expression_of.new.turns.items.items c.push.new.self.items.items 2 1 3 (omega arith) c.in_ok-turn.ensures.added
    (makes_pushed c.expression_of.new.turns.items.items c.push.new.self.items.items c.in_ok-turn.turn c.in_ok-push.field-0 c.in_ok-push.ensures.pushed))

pub returns-clause-grown : goal.returns-clause-grown
returns-clause-grown c =
    let left = paid_left c.args.work.now.budget c.pay.new.budget 2 c.in_ok-pay.ensures in
    grows_by c.args.work.now (record { budget = c.pay.new.budget; turns = c.push.new.self }) 3
    (makes_then c.args.work.now.turns.items.items c.expression_of.new.turns.items.items c.push.new.self.items.items 2 1 3 (omega arith) c.in_ok-turn.ensures.added
    (makes_pushed c.expression_of.new.turns.items.items c.push.new.self.items.items c.in_ok-turn.turn c.in_ok-push.field-0 c.in_ok-push.ensures.pushed))
    (omega arith)
