use Rattle.std.proofs.Common.{take}
use Rattle.run_text.specs.Printing.{Prints, desk}
use Rattle.run_text.proofs.printer.Printer.put.Given as goal

abbrev pub invariant-loop-byte : goal.invariant-loop-byte
invariant-loop-byte g l =
    let taken = g.O.Sink.taken in
    let faults = g.O.Sink.faults in
    Prints (desk (taken l.fn.out) (faults l.fn.out) l.fn.self) (take l.byte-index l.text) (desk (taken l.out) (faults l.out) l.self)
