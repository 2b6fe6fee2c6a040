use Rattle.std.proofs.Common.{◌≡◌, refl, ap, Err, inl, inr, subst, ◌∙◌, List, ℕ, ◌<◌, length, Some, arith}
use Rattle.std.proofs.lemmas.List.{length-append}
use Rattle.qq_tool.specs.declared.status.Status.TheVariants.{Refused, ReadFault, OutOfMemory}
use Rattle.qq_tool.specs.Answer.{change, Tells}
use Rattle.qq_tool.specs.Command.{input_limit}
use Rattle.qq_tool.specs.Due.{Due}
use Rattle.qq_tool.specs.Tasks.{task_of, too_long_line}
use Rattle.qq_tool.proofs.Tasks.{too_long_due, refused_status, memory_status, fault_status}
use Rattle.qq_tool.proofs.Telling.{reads, same_limit, whole_input, front_gone, input_told, read_whole, read_front}
use Rattle.qq_tool.proofs.Told.{tells_err, writes_err, refused_is, tells_nothing, writes_nothing}
use Rattle.qq_tool.proofs.tool.perform.Goals as goal

pub answer-requires : goal.answer-requires
answer-requires g c = λ most is.
    omega (arith, same_limit c.limit_of.result most _ c.limit_of.ensures is, ap length c.deref.ensures.value, c.in-Ok.ensures.within)

pub returns-in-Ok : goal.returns-in-Ok
returns-in-Ok g c =
    let left = g.S.Source.left in
    let out = change (g.O.Sink.taken c.args.out.now) (g.O.Sink.taken c.answer.new.out) (g.O.Sink.faults c.args.out.now) (g.O.Sink.faults c.answer.new.out) in
    let err = change (g.E.Sink.taken c.args.err.now) (g.E.Sink.taken c.answer.new.err) (g.E.Sink.faults c.args.err.now) (g.E.Sink.faults c.answer.new.err) in
    let before = left c.args.input.now in
    let after = left c.read_all.new.source in
    let command = task_of c.args.command in
    record {
      tells = λ bytes same. subst (λ (xs : List ℕ). Tells (Due (Some command) xs) out err c.answer.result)
          (c.deref.ensures.value ∙ whole_input before after c.in-Ok.bytes.items bytes c.in-Ok.ensures.bytes c.in-Ok.ensures.end (input_told command before bytes same)) c.answer.ensures.tells;
      writes = c.answer.ensures.writes;
      read = λ _. read_whole c.limit_of.result (input_limit (Some command)) before after c.in-Ok.bytes.items c.limit_of.ensures c.in-Ok.ensures.bytes c.in-Ok.ensures.end c.in-Ok.ensures.within;
      read_fault = λ h. absurd (c.answer.ensures.statuses.1 h);
      statuses = c.answer.ensures.statuses.0;
    }

pub returns-in-Err-TooLong : goal.returns-in-Err-TooLong
returns-in-Err-TooLong g c =
    let before = g.S.Source.left c.args.input.now in
    let after = g.S.Source.left c.read_all.new.source in
    let out = g.O.Sink.taken c.args.out.now in
    let faults = g.O.Sink.faults c.args.out.now in
    let err = change (g.E.Sink.taken c.args.err.now) (g.E.Sink.taken c.report_length.new.err) (g.E.Sink.faults c.args.err.now) (g.E.Sink.faults c.report_length.new.err) in
    let command = task_of c.args.command in
    let told = c.report_length.ensures in
    let too_long = c.in-Err-TooLong.ensures.too_long (ap Err c.in-Err-TooLong.field-0-is) in
    let longer : (bytes : List ℕ) → before ≡ Some bytes → c.limit_of.result < length bytes = λ bytes same.
    (let rest = front_gone before after too_long.0 bytes too_long.1 same in omega (arith, too_long.2, ap length rest.1, length-append too_long.0 rest.0)) in
    let status = refused_status command (too_long_line command) err c.report_length.result told in
    record {
      tells = λ bytes same. tells_err (Due (Some command) bytes) Refused (too_long_line command) err out faults c.report_length.result told
          (too_long_due command c.limit_of.result bytes c.limit_of.ensures (longer bytes (input_told command before bytes same)));
      writes = writes_err Refused (too_long_line command) err out faults c.report_length.result refused_is told;
      read = λ _. read_front c.limit_of.result (input_limit (Some command)) before after too_long.0 c.limit_of.ensures too_long.1 too_long.2;
      read_fault = λ h. absurd (status.1 h);
      statuses = status.0;
    }

pub returns-in-Err-ReadFault : goal.returns-in-Err-ReadFault
returns-in-Err-ReadFault g c =
    let out = g.O.Sink.taken c.args.out.now in
    let err = g.E.Sink.taken c.args.err.now in
    let command = task_of c.args.command in
    record {
      tells = λ bytes same. tells_nothing (Due (Some command) bytes) out err (g.O.Sink.faults c.args.out.now) (g.E.Sink.faults c.args.err.now) ReadFault (inr refl);
      writes = writes_nothing out err (g.O.Sink.faults c.args.out.now) (g.E.Sink.faults c.args.err.now) ReadFault (inr refl);
      read = λ settled. absurd (settled.0 refl);
      read_fault = λ _. (reads command, c.in-Err-ReadFault.ensures.fault (ap Err c.in-Err-ReadFault.field-0-is));
      statuses = fault_status command;
    }

pub returns-in-Err-Memory : goal.returns-in-Err-Memory
returns-in-Err-Memory g c =
    let out = g.O.Sink.taken c.args.out.now in
    let err = g.E.Sink.taken c.args.err.now in
    let command = task_of c.args.command in
    record {
      tells = λ bytes same. tells_nothing (Due (Some command) bytes) out err (g.O.Sink.faults c.args.out.now) (g.E.Sink.faults c.args.err.now) OutOfMemory (inl refl);
      writes = writes_nothing out err (g.O.Sink.faults c.args.out.now) (g.E.Sink.faults c.args.err.now) OutOfMemory (inl refl);
      read = λ settled. absurd (settled.2 refl);
      read_fault = λ h. absurd ((memory_status command).1 h);
      statuses = (memory_status command).0;
    }
