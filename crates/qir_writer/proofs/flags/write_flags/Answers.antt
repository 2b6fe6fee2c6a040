use Rattle.std.proofs.lemmas.Result.{IfOk-equal}
use Rattle.qir_writer.proofs.Texts.{joined_four}
use Rattle.qir_writer.proofs.flags.write_flags.Goals as goal

pub returns : goal.returns
returns c =
    IfOk-equal c.write_truth_flag-2.result _ _ _ c.write_truth_flag-2.ensures
    (rw (c.in_ok-write_truth_flag.ensures, c.in_ok-write_number_flag-2.ensures, c.in_ok-write_number_flag.ensures, ← c.module.view_is, joined_four))
