use Rattle.qir_writer.proofs.Texts.{joined_nine}
use Rattle.qir_writer.proofs.flags.write_attributes.Goals as goal

pub returns : goal.returns
returns c =
    rw (
      c.in_ok-extend_from_slice-6.ensures.items,
      c.in_ok-push.ensures.items,
      c.in_ok-extend_from_slice-5.ensures.items,
      c.in_ok-write_decimal-2.ensures,
      c.from-2.ensures,
      c.in_ok-extend_from_slice-4.ensures.items,
      c.in_ok-write_decimal.ensures,
      c.from.ensures,
      c.in_ok-extend_from_slice-3.ensures.items,
      c.in_ok-extend_from_slice-2.ensures.items,
      c.as_bytes.ensures.value,
      c.profile_name.ensures,
      c.in_ok-extend_from_slice.ensures.items,
      ← c.module.view_is,
      joined_nine,
    )
