use Rattle.qir_module.specs.Written.{arg_text}
use Rattle.qir_writer.proofs.Texts.{comma_joined_more}
use Rattle.qir_writer.proofs.instruction.write_args.Goals as goal

pub loop-index-preserved : goal.loop-index-preserved
loop-index-preserved c =
    rw (c.in_ok-write_arg.ensures, c.in_ok-write_comma.ensures, c.loop-index.invariant) (comma_joined_more arg_text _ _ _ _ c.loop-index-test.true)
