use Rattle.std.proofs.Common.{◌≡◌, ◌∙◌, refl, ap, subst, arith, suc, ◌-◌, [], map, nat_eq}
use Rattle.qq_base.specs.declared.run.Step.{Step}
use Rattle.run_text.specs.Showing.{Going, next_outcome, outcomes_behind}
use Rattle.run_text.specs.Shown.{event_line, record_line}
use Rattle.qir_machine.specs.Steps.{IsStep, RecordsComeLast}
use Rattle.run_text.proofs.Prints.{printed_none, printed_as}
use Rattle.run_text.proofs.Shows.{prints_from, map-outcomes_behind, event_goes_on, record_goes_on, turn_goes_on, asked_ends, turning_ends, done_ends}
use Rattle.run_text.proofs.show.Show.take.Goals as goal

pub returns-in-Event : goal.returns-in-Event
returns-in-Event g c = λ before behind is last.
    let event = c.in-Event.event in
    let now = c.args.self.now in
    let same = c.self.view_is in
    let step = subst (λ (s : Step). IsStep before (next_outcome now) s behind) c.in-Event.is is in
    let outcomes = ap (map (nat_eq 49)) c.left_behind-self-inside.ensures ∙ map-outcomes_behind event c.self.inside.outcomes.now (nat_eq 49)
    ∙ ap (λ (s : Going). outcomes_behind event s.outcomes) same in (
      event_line event,
      prints_from _ _ c.self.inside.printer now.pending (event_line event) _ (ap (λ (s : Going). s.pending) same) c.event.ensures,
      event_goes_on before behind event now _ step (ap (λ (s : Going). s.labels) same) outcomes (ap (λ (s : Going). s.turns) same),
    )

pub returns-in-Record : goal.returns-in-Record
returns-in-Record g c = λ before behind is last.
    let one = c.in-Record.record in
    let now = c.args.self.now in
    let same = c.self.view_is in
    let text = record_line now.labels one in
    let step = subst (λ (s : Step). IsStep before (next_outcome now) s behind) c.in-Record.is is in
    let lasts = subst (λ (s : Step). RecordsComeLast s behind) c.in-Record.is last in
    let printed = printed_as text (ap (λ (s : Going). record_line s.labels one) same) c.record.ensures in (
      text,
      prints_from _ _ c.self.inside.printer now.pending text _ (ap (λ (s : Going). s.pending) same) printed,
      record_goes_on before behind one now _ step lasts (ap (λ (s : Going). s.labels) same) (ap (λ (s : Going). s.outcomes) same) (ap (λ (s : Going). s.turns) same),
    )

pub returns-in-Ask : goal.returns-in-Ask
returns-in-Ask g c = λ before behind is last.
    let now = c.args.self.now in
    let step = subst (λ (s : Step). IsStep before (next_outcome now) s behind) c.in-Ask.is is in
    ([], printed_none _, (refl, refl, asked_ends before behind now step))

pub returns-in-Turn : goal.returns-in-Turn
returns-in-Turn g c = λ before behind is last.
    let now = c.args.self.now in
    let turns = ap (λ (s : Going). s.turns) c.self.view_is in
    let step = subst (λ (s : Step). IsStep before (next_outcome now) s behind) c.in-Turn.is is in
    ([], printed_none _, (refl, refl, turning_ends before behind now step (omega (arith, turns))))

pub returns-in-Turn-2 : goal.returns-in-Turn-2
returns-in-Turn-2 g c = λ before behind is last.
    let now = c.args.self.now in
    let same = c.self.view_is in
    let turns = ap (λ (s : Going). s.turns) same in
    let less : now.turns ≡ suc (c.self.inside.turns - 1) = omega (arith, turns) in
    let step = subst (λ (s : Step). IsStep before (next_outcome now) s behind) c.in-Turn-2.is is in (
      [],
      prints_from _ _ c.self.inside.printer now.pending [] _ (ap (λ (s : Going). s.pending) same) (printed_none _),
      turn_goes_on before behind now _ step (ap (λ (s : Going). s.labels) same) (ap (λ (s : Going). s.outcomes) same) less,
    )

pub returns-in-Done : goal.returns-in-Done
returns-in-Done g c = λ before behind is last.
    let now = c.args.self.now in
    let step = subst (λ (s : Step). IsStep before (next_outcome now) s behind) c.in-Done.is is in
    ([], printed_none _, (refl, refl, done_ends before behind now step))
