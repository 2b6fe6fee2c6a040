use Rattle.std.proofs.Common.{refl}
use Rattle.gate_flatten.proofs.Growing.{grows_one}
use Rattle.gate_flatten.proofs.Readying.{one_paid}
use Rattle.gate_flatten.proofs.gate.one_instruction.Goals as goal

pub returns-clause-answer : goal.returns-clause-answer
returns-clause-answer c = λ worths.
    rw (c.in_ok-push.ensures, c.new-list.ensures.items, c.new.ensures.seen worths) (one_paid c.args.work.now.budget c.spend.new.self _ c.in_ok-spend.ensures.paid c.in_ok-spend.ensures.rest)

pub returns-clause-leaves : goal.returns-clause-leaves
returns-clause-leaves c = record {
  kept = λ k t e. e;
  grown = rw (c.in_ok-push.ensures, c.new-list.ensures.items) (grows_one c.args.work.now c.spend.new.self c.new.result c.in_ok-spend.ensures.paid (rw c.in_ok-spend.ensures.rest refl) (c.new.ensures.named _ c.requires.named));
  args = refl;
}
