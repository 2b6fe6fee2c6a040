use Rattle.std.proofs.Common.{◌≡◌, refl, sym, subst, Option, None, codes}
use Rattle.qir_module.specs.Text.{line}
use Rattle.qq_tool.specs.declared.status.Status.{Status}
use Rattle.qq_tool.specs.declared.status.Status.TheVariants.{BadWords, ReadFault}
use Rattle.qq_tool.specs.Answer.{change, IsAnswer}
use Rattle.qq_tool.specs.Command.{Command}
use Rattle.qq_tool.specs.Due.{Due}
use Rattle.qq_tool.proofs.Telling.{reads_some}
use Rattle.qq_tool.proofs.Told.{tells_err, writes_err, bad_words_is, not_told, told_alone}
use Rattle.qq_tool.proofs.tool.respond.Goals as goal

pub returns-in-None-clause-answer : goal.returns-in-None-clause-answer
returns-in-None-clause-answer g c =
    let input = change (g.S.Source.left c.args.input.now) (g.S.Source.left c.args.input.now) (g.S.Source.faults c.args.input.now) (g.S.Source.faults c.args.input.now) in
    let taken = g.O.Sink.taken c.args.out.now in
    let faults = g.O.Sink.faults c.args.out.now in
    let err = change (g.E.Sink.taken c.args.err.now) (g.E.Sink.taken c.tell.new.sink) (g.E.Sink.faults c.args.err.now) (g.E.Sink.faults c.tell.new.sink) in
    let never = not_told (λ (s : Status). s ≡ BadWords) c.tell.result ReadFault c.tell.ensures.told.answer (λ e. cc) (λ e. cc) (λ e. cc) in
    let bad : IsAnswer None input (change taken taken faults faults) err c.tell.result = record {
      tells = λ bytes _. tells_err (Due None bytes) BadWords (line (codes "bad words")) err taken faults c.tell.result c.tell.ensures.told (refl, refl, refl);
      writes = writes_err BadWords (line (codes "bad words")) err taken faults c.tell.result bad_words_is c.tell.ensures.told;
      read = λ _ most bytes none. absurd cc;
      read_fault = λ h. absurd (never h);
      statuses = told_alone BadWords c.tell.result c.tell.ensures.told.answer c.tell.ensures.no_memory;
    } in
    subst (λ (command : Option Command). IsAnswer command input (change taken taken faults faults) err c.tell.result) (sym c.in-None.ensures) bad

pub returns-in-Some-clause-answer : goal.returns-in-Some-clause-answer
returns-in-Some-clause-answer g c = rw c.in-Some.ensures c.perform.ensures

pub returns-in-Some-clause-unread : goal.returns-in-Some-clause-unread
returns-in-Some-clause-unread g c = λ none. absurd (reads_some _ _ c.in-Some.ensures none)
