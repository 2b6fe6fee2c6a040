use Rattle.std.proofs.Common.{◌≡◌, cond, sym, ap, ◌∙◌}
use Rattle.grammar_parts.specs.Reading.{and_then}
use Rattle.qir_module.specs.Words as w
use Rattle.qir_module.specs.Reader.{◌▹◌, read_argument, read_typed, read_value_argument, read_word, read_pointer_argument}
use Rattle.qir_reader.proofs.Passing.{gives_on, neither_heads}
use Rattle.qir_reader.proofs.cursor.Cursor.argument.Goals as goal

pub returns : goal.returns
unfolding read_argument
returns c =
    let old = c.args.self.now in
    let number = sym c.sees_word.ensures ∙ c.if-sees_word.false in
    let truth = sym c.sees_word-else-sees_word.ensures ∙ c.if-sees_word-2.false in
    let typed = neither_heads 209 206 old number truth in
    let is : read_argument old ≡ read_pointer_argument c.word.new.self =
    ap (λ b. cond b (read_typed read_value_argument old) ((read_word w.Ptr ▹ read_pointer_argument) old)) typed
    ∙ ap (λ out. and_then out (λ t. read_pointer_argument)) c.in_ok-word.ensures.read in
    gives_on read_argument read_pointer_argument old c.word.new.self is c.pointer_argument.result c.pointer_argument.new.self c.pointer_argument.ensures
