use Rattle.std.proofs.Common.{◌-◌, ◌∷◌, [], map}
use Rattle.grammar_parts.specs.Kinds.{among}
use Rattle.qir_module.specs.Words.{kind}
use Rattle.qir_module.specs.Reader.{◌▹◌, read_comma, read_value_type}
use Rattle.qir_reader.specs.Headings.{type_of}
use Rattle.qir_reader.proofs.Separated.{Some}
use Rattle.qir_reader.proofs.cursor.Cursor.some_types.Given as goal

-- these types were read, and as many may follow as tokens were left behind the first
abbrev pub invariant-loop : goal.invariant-loop
invariant-loop l = Some (among kind (44 ∷ [])) read_value_type (read_comma ▹ read_value_type) l.fn.self (l.end - l.counter) (map type_of l.found.items) l.self
