use Rattle.std.proofs.Common.{refl}
use Rattle.qir_module.specs.Reader.{read_heading}
use Rattle.qir_reader.proofs.cursor.Cursor.heading.Goals as goal

pub returns : goal.returns
unfolding read_heading
returns c =
    let d = c.in_ok-declarations.ensures in
    record {
      value = record { labels = c.in_ok-labels.labels.items; blocks = c.in_ok-blocks.blocks.items; signatures = d.value };
      shown = (refl, refl, d.shown);
      read = rw (c.in_ok-labels.ensures, c.in_ok-blocks.ensures, d.read) refl;
    }
