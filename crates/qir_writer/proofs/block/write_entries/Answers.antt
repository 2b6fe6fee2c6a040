use Rattle.qir_module.specs.Written.{entry_text}
use Rattle.qir_writer.proofs.Texts.{comma_joined_more}
use Rattle.qir_writer.proofs.block.write_entries.Goals as goal

pub loop-index-preserved : goal.loop-index-preserved
loop-index-preserved c =
    rw (c.in_ok-write_entry.ensures, c.in_ok-write_comma.ensures, c.loop-index.invariant) (comma_joined_more (entry_text c.args.truth) _ _ _ _ c.loop-index-test.true)
