use Rattle.std.proofs.Common.{◌-◌, ◌∷◌, []}
use Rattle.grammar_parts.specs.Kinds.{among}
use Rattle.qir_module.specs.Words.{kind}
use Rattle.qir_module.specs.Reader.{◌▹◌, read_comma, read_argument}
use Rattle.qir_reader.proofs.Separated.{Some}
use Rattle.qir_reader.proofs.cursor.Cursor.some_arguments.Given as goal

-- these arguments were read, and as many may follow as tokens were left behind the first
abbrev pub invariant-loop : goal.invariant-loop
invariant-loop l = Some (among kind (44 ∷ [])) read_argument (read_comma ▹ read_argument) l.fn.self (l.end - l.counter) l.found.items l.self
