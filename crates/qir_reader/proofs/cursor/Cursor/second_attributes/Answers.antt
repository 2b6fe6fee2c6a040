use Rattle.std.proofs.Common.{◌≡◌, refl}
use Rattle.qir_module.specs.Reader.{read_second_attributes, read_right_brace}
use Rattle.qir_reader.proofs.Passing.{takes_on}
use Rattle.qir_reader.proofs.cursor.Cursor.second_attributes.Goals as goal

pub returns : goal.returns
unfolding read_second_attributes
returns c =
    let is : read_second_attributes c.args.self.now ≡ read_right_brace c.quoted.new.self = rw (c.in_ok-word.ensures.read, c.in_ok-group_number.ensures.read, c.in_ok-mark.ensures.read, c.in_ok-mark-2.ensures.read, c.in_ok-quoted.ensures.read) refl in
    takes_on read_second_attributes read_right_brace c.args.self.now c.quoted.new.self is c.mark-3.result c.mark-3.new.self c.mark-3.ensures
