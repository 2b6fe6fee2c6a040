use Rattle.std.proofs.Common.{refl, sym, inl, inr}
use Rattle.qq_tool.specs.Answer.{change}
use Rattle.qq_tool.proofs.Told.{part_of}
use Rattle.qq_tool.proofs.tell.tell.Goals as goal

pub returns-in-Err-clause-told : goal.returns-in-Err-clause-told
returns-in-Err-clause-told g c = record {
  answer = inr (inl refl);
  whole = λ e. absurd (c.requires.write_fault (sym e));
  part = λ _. part_of (change (g.W.Sink.taken c.args.sink.now) (g.W.Sink.taken c.write_all.new.sink) (g.W.Sink.faults c.args.sink.now) (g.W.Sink.faults c.write_all.new.sink))
      c.args.text.now c.in-Err.field-0.written c.in-Err.ensures.part;
  fault = λ _. c.in-Err.ensures.fault;
  memory = λ e. absurd cc;
}
