use Rattle.std.proofs.Common.{◌≡◌, ◌+◌, ◌-◌, ◌++◌, ◌∷◌, [], sym, ◌∙◌, subst}
use Rattle.std.proofs.lemmas.Result.{err_from_is_err_and}
use Rattle.grammar_parts.specs.Kinds.{among}
use Rattle.qir_module.specs.Words.{kind}
use Rattle.qir_module.specs.Reader.{◌▹◌, read_comma, read_argument}
use Rattle.qir_reader.proofs.Separated.{Some, none_here, one_more, more_fails}
use Rattle.qir_reader.proofs.cursor.Cursor.some_arguments.Goals as goal

pub returns-then-not-sees : goal.returns-then-not-sees
returns-then-not-sees c =
    none_here (among kind (44 ∷ [])) read_argument (read_comma ▹ read_argument) c.args.self.now c.loop.invariant (sym c.sees.ensures ∙ c.if-not-sees.true)

pub returns-in_err-further_argument : goal.returns-in_err-further_argument
returns-in_err-further_argument c =
    let p = err_from_is_err_and c.from_residual-in_err-further_argument.result c.from_residual-in_err-further_argument.ensures.1 in
    rw (p.1, p.2) (λ other. more_fails (among kind (44 ∷ [])) read_argument (read_comma ▹ read_argument) c.args.self.now c.loop.invariant c.loop-test.true
    (sym c.sees.ensures ∙ c.if-not-sees.false) (c.in_err-further_argument.ensures other))

pub loop-preserved : goal.loop-preserved
loop-preserved c =
    let next = one_more (among kind (44 ∷ [])) read_argument (read_comma ▹ read_argument) c.args.self.now c.loop.invariant c.loop-test.true
    (sym c.sees.ensures ∙ c.if-not-sees.false) c.in_ok-further_argument.ensures in
    let items : c.push-in-loop.new.self.items ≡ c.loop.found.items ++ c.in_ok-further_argument.field-0 ∷ [] = c.in_ok-push-2.ensures.items in
    subst (λ xs. Some (among kind (44 ∷ [])) read_argument (read_comma ▹ read_argument) c.args.self.now (c.count-end.result - (c.loop.counter + 1)) xs c.further_argument.new.self) (sym items) next
