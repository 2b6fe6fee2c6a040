use Rattle.std.proofs.Common.{◌≡◌, refl}
use Rattle.qir_module.specs.Reader.{read_flag_list, read_right_brace}
use Rattle.qir_reader.proofs.Passing.{takes_on}
use Rattle.qir_reader.proofs.cursor.Cursor.flag_list.Goals as goal

pub returns : goal.returns
unfolding read_flag_list
returns c =
    let is : read_flag_list c.args.self.now ≡ read_right_brace c.flag-4.new.self = rw (c.in_ok-sign.ensures.read, c.in_ok-mark.ensures.read, c.in_ok-mark-2.ensures.read, c.in_ok-mark-3.ensures.read, c.in_ok-flag.ensures.read, c.in_ok-mark-4.ensures.read, c.in_ok-flag-2.ensures.read, c.in_ok-mark-5.ensures.read, c.in_ok-flag-3.ensures.read, c.in_ok-mark-6.ensures.read, c.in_ok-flag-4.ensures.read) refl in
    takes_on read_flag_list read_right_brace c.args.self.now c.flag-4.new.self is c.mark-7.result c.mark-7.new.self c.mark-7.ensures
