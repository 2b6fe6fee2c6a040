use Rattle.std.proofs.Common.{take}
use Rattle.std.specs.List.{AllByRecursion}
use Rattle.qir_machine.specs.Effect.{IsRoomFor}
use Rattle.qir_machine.specs.Layout.{IsWithin}
use Rattle.qir_machine.proofs.layout.with_body.Given as goal

abbrev pub invariant-loop-instr : goal.invariant-loop-instr
invariant-loop-instr l = record {
  grows : IsWithin l.initial.all l.all;
  enough : AllByRecursion (IsRoomFor l.all.registers l.all.results) (take l.instr-index l.body);
}
