use Rattle.qir_writer.proofs.Texts.{labels_text_more}
use Rattle.qir_writer.proofs.label.write_labels.Goals as goal

pub loop-number-preserved : goal.loop-number-preserved
loop-number-preserved c =
    rw (c.in_ok-write_label.ensures, c.loop-number.invariant, c.index-labels-number.is) (labels_text_more _ _ _ _ c.loop-number-test.true)
