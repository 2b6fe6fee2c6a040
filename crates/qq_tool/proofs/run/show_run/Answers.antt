use Rattle.std.proofs.Common.{◌≡◌, sym, ap, ◌∙◌, subst, true, false, [], ◌++◌, Some, None, append-nil}
use Rattle.qq_base.specs.Seen.{Seen, Ending}
use Rattle.qir_machine.specs.Remaining.{remaining}
use Rattle.qir_module.specs.Machine.{machine_run}
use Rattle.run_text.specs.Showing.{Going}
use Rattle.run_text.specs.Shown.{fate_line, ending_of}
use Rattle.qq_tool.specs.declared.status.Status.TheVariants.{WriteFault, OutOfMemory}
use Rattle.qq_tool.specs.Status.{IsStatusOfFate}
use Rattle.qq_tool.specs.Tasks.{bits_of}
use Rattle.qq_tool.specs.Playing.{Played, IsPlayed}
use Rattle.qq_tool.proofs.Playing.{shown_from, told_failed, told_whole}
use Rattle.qq_tool.proofs.Tasks.{some_status, fate_never}
use Rattle.qq_tool.proofs.run.show_run.Goals as goal

pub returns-in_default-clause-settled : goal.returns-in_default-clause-settled
returns-in_default-clause-settled g c =
    some_status _ (c.passing_module_is_never_stuck.ensures c.args.«module».now c.labels_of-labels.ensures.shaped c.requires (bits_of c.args.outcomes.now) c.args.turns)

pub returns-in-None-clause-settled : goal.returns-in-None-clause-settled
returns-in-None-clause-settled g c =
    some_status _ (c.passing_module_is_never_stuck.ensures c.args.«module».now c.labels_of-labels.ensures.shaped c.requires (bits_of c.args.outcomes.now) c.args.turns)

pub returns-then-has_failed-clause-settled : goal.returns-then-has_failed-clause-settled
returns-then-has_failed-clause-settled g c =
    some_status _ (c.passing_module_is_never_stuck.ensures c.args.«module».now c.labels_of-labels.ensures.shaped c.requires (bits_of c.args.outcomes.now) c.args.turns)

pub returns-in-None-clause-told : goal.returns-in-None-clause-told
returns-in-None-clause-told g c =
    let taken = g.O.Sink.taken in
    let faults = g.O.Sink.faults in
    let m = c.args.«module».now in
    let bits = bits_of c.args.outcomes.now in
    let turns = c.args.turns in
    let end : Played = record { remains = remaining c.play.new.machine; going = c.play.new.show; taken = taken c.play.new.out; faults = faults c.play.new.out } in
    let played = subst (λ (going : Going). IsPlayed (record { remains = remaining c.in-Ok.machine; going = going; taken = taken c.args.out.now; faults = faults c.args.out.now }) None end) c.new-show.ensures c.in-None.ensures in
    told_failed (IsStatusOfFate (machine_run m bits turns).fate) (taken c.args.out.now) end.taken (faults c.args.out.now) end.faults end.going.pending played.0 played.1 _ played.2
    (shown_from m.labels c.labels_of-labels.result.now (machine_run m) (remaining c.in-Ok.machine) bits turns c.labels_of-labels.ensures.labels c.in-Ok.ensures.whole_run ∙ played.3) played.4
    (fate_never (machine_run m bits turns).fate WriteFault (λ e. cc) (λ e. cc) (λ e. cc))

pub returns-then-has_failed-clause-told : goal.returns-then-has_failed-clause-told
returns-then-has_failed-clause-told g c =
    let taken = g.O.Sink.taken in
    let faults = g.O.Sink.faults in
    let m = c.args.«module».now in
    let bits = bits_of c.args.outcomes.now in
    let turns = c.args.turns in
    let end : Played = record { remains = remaining c.play.new.machine; going = c.play.new.show; taken = taken c.play.new.out; faults = faults c.play.new.out } in
    let played = subst (λ (going : Going). IsPlayed (record { remains = remaining c.in-Ok.machine; going = going; taken = taken c.args.out.now; faults = faults c.args.out.now }) (Some c.in-Some.fate) end) c.new-show.ensures c.in-Some.ensures in
    let text = played.0 ++ fate_line (ending_of c.in-Some.fate) in
    let failed : c.finish.new.self.pending.failed ≡ true = cc in
    told_failed (IsStatusOfFate (machine_run m bits turns).fate) (taken c.args.out.now) (taken c.finish.new.out) (faults c.args.out.now) (faults c.finish.new.out) c.finish.new.self.pending text [] _
    (c.texts_are_joined.ensures.both _ _ _ played.0 (fate_line (ending_of c.in-Some.fate)) played.1 c.finish.ensures.prints)
    (shown_from m.labels c.labels_of-labels.result.now (machine_run m) (remaining c.in-Ok.machine) bits turns c.labels_of-labels.ensures.labels c.in-Ok.ensures.whole_run ∙ played.2 ∙ sym (append-nil text)) failed
    (fate_never (machine_run m bits turns).fate WriteFault (λ e. cc) (λ e. cc) (λ e. cc))

pub returns-clause-told : goal.returns-clause-told
returns-clause-told g c =
    let taken = g.O.Sink.taken in
    let faults = g.O.Sink.faults in
    let m = c.args.«module».now in
    let bits = bits_of c.args.outcomes.now in
    let turns = c.args.turns in
    let fate = (machine_run m bits turns).fate in
    let end : Played = record { remains = remaining c.play.new.machine; going = c.play.new.show; taken = taken c.play.new.out; faults = faults c.play.new.out } in
    let played = subst (λ (going : Going). IsPlayed (record { remains = remaining c.in-Ok.machine; going = going; taken = taken c.args.out.now; faults = faults c.args.out.now }) (Some c.in-Some.fate) end) c.new-show.ensures c.in-Some.ensures in
    let text = played.0 ++ fate_line (ending_of c.in-Some.fate) in
    let done : c.finish.new.self.pending.failed ≡ false = cc in
    let same : fate ≡ ending_of c.in-Some.fate = sym (ap (λ (seen : Seen). seen.fate) (c.in-Ok.ensures.whole_run bits turns)) ∙ played.3 in
    let due = subst (λ (e : Ending). IsStatusOfFate e c.status_of.result) (sym same) c.status_of.ensures in
    told_whole (IsStatusOfFate fate) (taken c.args.out.now) (taken c.finish.new.out) (faults c.args.out.now) (faults c.finish.new.out) c.finish.new.self.pending text _ c.status_of.result
    (c.texts_are_joined.ensures.both _ _ _ played.0 (fate_line (ending_of c.in-Some.fate)) played.1 c.finish.ensures.prints)
    (shown_from m.labels c.labels_of-labels.result.now (machine_run m) (remaining c.in-Ok.machine) bits turns c.labels_of-labels.ensures.labels c.in-Ok.ensures.whole_run ∙ played.2) done (c.finish.ensures.empty done) due
    (λ e. fate_never fate WriteFault (λ f. cc) (λ f. cc) (λ f. cc) (subst (IsStatusOfFate fate) e due))
    (λ e. fate_never fate OutOfMemory (λ f. cc) (λ f. cc) (λ f. cc) (subst (IsStatusOfFate fate) e due))
