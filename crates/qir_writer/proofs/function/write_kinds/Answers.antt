use Rattle.qir_module.specs.Written.{kind_text}
use Rattle.qir_module.specs.Kinds.{kind_of}
use Rattle.qir_writer.proofs.Texts.{comma_joined_more}
use Rattle.qir_writer.proofs.function.write_kinds.Goals as goal

pub loop-index-preserved : goal.loop-index-preserved
loop-index-preserved c =
    rw (c.in_ok-extend_from_slice.ensures.items, c.as_bytes.ensures.value, c.kind_name.ensures, c.in_ok-write_comma.ensures, c.loop-index.invariant)
    (comma_joined_more (λ kind. kind_text (kind_of kind)) _ _ _ _ c.loop-index-test.true)
