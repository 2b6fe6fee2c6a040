use Rattle.std.proofs.Common.{◌≡◌, refl}
use Rattle.qir_module.specs.Reader.{read_word}
use Rattle.qir_reader.specs.Seen.{reserved_of, quoted_of}
use Rattle.qir_reader.specs.Parts.{read_flag_front}
use Rattle.qir_reader.proofs.Passing.{takes_on}
use Rattle.qir_reader.proofs.cursor.Cursor.flag_front.Goals as goal

pub returns : goal.returns
returns c =
    let is : (read_flag_front c.args.number c.args.behaviour (quoted_of c.args.name) (reserved_of c.args.value)) c.args.self.now ≡ (read_word (reserved_of c.args.value)) c.mark-5.new.self = rw (c.in_ok-flag_number.ensures.read, c.in_ok-mark.ensures.read, c.in_ok-mark-2.ensures.read, c.in_ok-mark-3.ensures.read, c.in_ok-word.ensures.read, c.in_ok-sign.ensures.read, c.in_ok-mark-4.ensures.read, c.in_ok-flag_text.ensures.read, c.in_ok-mark-5.ensures.read) refl in
    takes_on (read_flag_front c.args.number c.args.behaviour (quoted_of c.args.name) (reserved_of c.args.value)) (read_word (reserved_of c.args.value)) c.args.self.now c.mark-5.new.self is c.word-2.result c.word-2.new.self c.word-2.ensures
