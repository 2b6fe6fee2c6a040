use Rattle.std.proofs.Common.{sym, ap, ◌∙◌}
use Rattle.std.proofs.lemmas.List.{take_rest}
use Rattle.qir_module.specs.Words.{function_named}
use Rattle.qir_reader.proofs.Taking.{some_left, function_taken, function_unknown}
use Rattle.qir_reader.proofs.cursor.Cursor.function_name.Goals as goal

pub returns-in_default-function_of : goal.returns-in_default-function_of
returns-in_default-function_of c =
    λ other. function_unknown c.args.self.now c.in-Some.next c.in-Some.ensures c.in-Named.is (sym (c.function_of.ensures ∙ ap function_named (take_rest c.in-Some.next.spelling.now 1)) ∙ c.in_default-function_of.is)

pub advance-requires : goal.advance-requires
advance-requires c = some_left c.args.self.now c.in-Some.next c.in-Some.ensures

pub returns : goal.returns
returns c =
    function_taken c.args.self.now c.advance.new.self c.in-Some.next c.in-Some-function_of.function c.in-Some.ensures c.in-Named.is
    (sym (c.function_of.ensures ∙ ap function_named (take_rest c.in-Some.next.spelling.now 1)) ∙ c.in-Some-function_of.is) c.advance.ensures
