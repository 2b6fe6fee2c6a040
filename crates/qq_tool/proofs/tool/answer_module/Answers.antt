use Rattle.std.proofs.Common.{◌≡◌, refl, ap, Err, inl, inr, subst}
use Rattle.qq_tool.specs.declared.status.Status.{Status}
use Rattle.qq_tool.specs.declared.status.Status.TheVariants.{Refused, ReadFault}
use Rattle.qq_tool.specs.declared.verdict.QirRefusal.{QirRefusal}
use Rattle.qq_tool.specs.Answer.{change}
use Rattle.qq_tool.specs.Due.{DueOfModule}
use Rattle.qq_tool.specs.Tasks.{shows_of, module_command}
use Rattle.qq_tool.specs.Told.{IsTold}
use Rattle.qq_tool.specs.Verdict.{line_of}
use Rattle.qq_tool.proofs.Tasks.{shows_never, shown_status, refused_status, memory_status}
use Rattle.qq_tool.proofs.Told.{tells_out, writes_out, tells_err, writes_err, refused_is}
use Rattle.qq_tool.proofs.tool.answer_module.Goals as goal

pub returns-in-Ok-clause-tells : goal.returns-in-Ok-clause-tells
returns-in-Ok-clause-tells g c =
    let of = c.in-Ok.«module» in
    let given = c.output_module.ensures in
    tells_out (DueOfModule (shows_of c.args.task) c.args.text.now) (λ (s : Status). shows_of c.args.task of s given.0) given.0 _ (g.E.Sink.taken c.args.err.now) (g.E.Sink.faults c.args.err.now) _ given.1 given.3 given.2
    (λ s is. inr (refl, of, c.in-Ok.ensures.ok, is))

pub returns-in-Ok-clause-writes : goal.returns-in-Ok-clause-writes
returns-in-Ok-clause-writes g c =
    let of = c.in-Ok.«module» in
    let given = c.output_module.ensures in
    writes_out (λ (s : Status). shows_of c.args.task of s given.0) given.0 _ (g.E.Sink.taken c.args.err.now) (g.E.Sink.faults c.args.err.now) _ given.3
    (shows_never c.args.task of given.0 Refused (λ e. cc) (λ e. cc) (λ e. cc)) (shows_never c.args.task of given.0 ReadFault (λ e. cc) (λ e. cc) (λ e. cc))

pub returns-in-Ok-clause-statuses : goal.returns-in-Ok-clause-statuses
returns-in-Ok-clause-statuses g c = shown_status c.args.task c.in-Ok.«module» c.output_module.ensures.0 _ _ c.output_module.ensures.3

pub returns-in-Err-Refused-clause-tells : goal.returns-in-Err-Refused-clause-tells
returns-in-Err-Refused-clause-tells g c =
    let refusal = c.in-Err-Refused.refusal in
    let err = change (g.E.Sink.taken c.args.err.now) (g.E.Sink.taken c.report_module.new.err) (g.E.Sink.faults c.args.err.now) (g.E.Sink.faults c.report_module.new.err) in
    let told = subst (λ (r : QirRefusal). IsTold (λ (s : Status). s ≡ Refused) (line_of r) err c.report_module.result) c.in-Err-Refused.refusal-is c.report_module.ensures in
    tells_err (DueOfModule (shows_of c.args.task) c.args.text.now) Refused (line_of refusal) err (g.O.Sink.taken c.args.out.now) (g.O.Sink.faults c.args.out.now) c.report_module.result told
    (inl (refl, refl, c.in-Err-Refused.ensures.refused refusal (ap Err c.in-Err-Refused.field-0-is)))

pub returns-in-Err-Refused-clause-writes : goal.returns-in-Err-Refused-clause-writes
returns-in-Err-Refused-clause-writes g c =
    writes_err Refused _ _ (g.O.Sink.taken c.args.out.now) (g.O.Sink.faults c.args.out.now) _ refused_is c.report_module.ensures

pub returns-in-Err-Refused-clause-statuses : goal.returns-in-Err-Refused-clause-statuses
returns-in-Err-Refused-clause-statuses g c = refused_status (module_command c.args.task) _ _ _ c.report_module.ensures

pub returns-in-Err-Memory-clause-statuses : goal.returns-in-Err-Memory-clause-statuses
returns-in-Err-Memory-clause-statuses g c = memory_status (module_command c.args.task)
