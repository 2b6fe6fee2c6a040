use Rattle.qir_module.specs.Words as w
use Rattle.qir_module.specs.Reader.{read_small_number}
use Rattle.qir_reader.specs.Seen.{quoted_of}
use Rattle.qir_reader.proofs.Lines.{line_read}
use Rattle.qir_reader.proofs.cursor.Cursor.version_flag.Goals as goal

pub returns : goal.returns
returns c =
    line_read c.args.number c.args.behaviour (quoted_of c.args.name) w.I32 read_small_number c.args.self.now _ _ c.mark.new.self _ _ c.in_ok-value.value
    c.in_ok-flag_front.ensures.read c.in_ok-value.ensures c.in_ok-mark.ensures.read
