use Rattle.std.proofs.Common.{◌≡◌, refl, ap, Err, inl, inr, subst, sym, List, ℕ}
use Rattle.qq_base.specs.declared.refusal.Refusal.{Refusal}
use Rattle.qq_tool.specs.declared.status.Status.{Status}
use Rattle.qq_tool.specs.declared.status.Status.TheVariants.{Success, Refused}
use Rattle.qq_tool.specs.Answer.{change}
use Rattle.qq_tool.specs.Due.{DueOfSource}
use Rattle.qq_tool.specs.Refused.{refusal_line}
use Rattle.qq_tool.specs.Tasks.{text_of}
use Rattle.qq_tool.specs.Told.{IsTold}
use Rattle.qq_tool.proofs.Tasks.{source_statuses}
use Rattle.qq_tool.proofs.Told.{tells_out, writes_out, tells_err, writes_err, refused_is}
use Rattle.qq_tool.proofs.tool.answer_source.Goals as goal

pub returns-in-Ok-output_of-clause-tells : goal.returns-in-Ok-output_of-clause-tells
returns-in-Ok-output_of-clause-tells g c =
    tells_out (DueOfSource (text_of c.args.task) c.args.source.now) (λ (s : Status). s ≡ Success) _ _ (g.E.Sink.taken c.args.err.now) (g.E.Sink.faults c.args.err.now) _ Success c.tell.ensures.told refl
    (λ s is. inr (is, refl, c.in-Ok.program, c.in-Ok.ensures.ok, subst (λ (text : List ℕ). text_of c.args.task c.in-Ok.program text) (sym c.deref.ensures.value) c.in-Ok-output_of.ensures))

pub returns-in-Ok-output_of-clause-writes : goal.returns-in-Ok-output_of-clause-writes
returns-in-Ok-output_of-clause-writes g c =
    writes_out (λ (s : Status). s ≡ Success) _ _ (g.E.Sink.taken c.args.err.now) (g.E.Sink.faults c.args.err.now) _ c.tell.ensures.told (λ e. cc) (λ e. cc)

pub returns-in-Ok-output_of-clause-statuses : goal.returns-in-Ok-output_of-clause-statuses
returns-in-Ok-output_of-clause-statuses g c = source_statuses Success _ _ _ c.tell.ensures.told (λ e. cc) (λ e. cc) (λ e. cc) (λ e. cc)

pub returns-in-Err-Refused-clause-tells : goal.returns-in-Err-Refused-clause-tells
returns-in-Err-Refused-clause-tells g c =
    let refusal = c.in-Err-Refused.refusal in
    let err = change (g.E.Sink.taken c.args.err.now) (g.E.Sink.taken c.report.new.err) (g.E.Sink.faults c.args.err.now) (g.E.Sink.faults c.report.new.err) in
    let told = subst (λ (r : Refusal). IsTold (λ (s : Status). s ≡ Refused) (refusal_line r) err c.report.result) c.in-Err-Refused.refusal-is c.report.ensures in
    tells_err (DueOfSource (text_of c.args.task) c.args.source.now) Refused (refusal_line refusal) err (g.O.Sink.taken c.args.out.now) (g.O.Sink.faults c.args.out.now) c.report.result told
    (inl (refl, refl, refusal, c.in-Err-Refused.ensures.refused refusal (ap Err c.in-Err-Refused.field-0-is), refl))

pub returns-in-Err-Refused-clause-writes : goal.returns-in-Err-Refused-clause-writes
returns-in-Err-Refused-clause-writes g c =
    writes_err Refused _ _ (g.O.Sink.taken c.args.out.now) (g.O.Sink.faults c.args.out.now) _ refused_is c.report.ensures

pub returns-in-Err-Refused-clause-statuses : goal.returns-in-Err-Refused-clause-statuses
returns-in-Err-Refused-clause-statuses g c = source_statuses Refused _ _ _ c.report.ensures (λ e. cc) (λ e. cc) (λ e. cc) (λ e. cc)
