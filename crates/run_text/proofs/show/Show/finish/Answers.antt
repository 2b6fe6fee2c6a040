use Rattle.std.proofs.Common.{ap, append-nil}
use Rattle.run_text.specs.Showing.{Going}
use Rattle.run_text.specs.Shown.{fate_line, ending_of}
use Rattle.run_text.proofs.Prints.{printed_then, printed_as}
use Rattle.run_text.proofs.Shows.{prints_from}
use Rattle.run_text.proofs.show.Show.finish.Goals as goal

pub returns-clause-prints : goal.returns-clause-prints
returns-clause-prints g c =
    let text = fate_line (ending_of c.args.fate) in
    prints_from _ _ c.self.inside.printer c.args.self.now.pending text _ (ap (λ (s : Going). s.pending) c.self.view_is)
    (printed_as text (append-nil text) (printed_then c.fate.ensures c.flush.ensures.prints))
