use Rattle.std.proofs.Common.{◌≡◌, refl}
use Rattle.qir_module.specs.Words as w
use Rattle.qir_module.specs.Reader.{read_keyed, read_quoted}
use Rattle.qir_reader.proofs.Passing.{takes_on}
use Rattle.qir_reader.proofs.cursor.Cursor.labeling_schema.Goals as goal

pub returns : goal.returns
returns c =
    let is : (read_keyed w.LabelingSchema (read_quoted w.Labeled)) c.args.self.now ≡ (read_quoted w.Labeled) c.mark.new.self = rw (c.in_ok-quoted.ensures.read, c.in_ok-mark.ensures.read) refl in
    takes_on (read_keyed w.LabelingSchema (read_quoted w.Labeled)) (read_quoted w.Labeled) c.args.self.now c.mark.new.self is c.quoted-2.result c.quoted-2.new.self c.quoted-2.ensures
