use Rattle.std.proofs.Common.{◌-◌}
use Rattle.grammar_parts.specs.Kinds.{among}
use Rattle.qir_module.specs.Words.{kind}
use Rattle.qir_module.specs.Reader.{block_kinds, read_block}
use Rattle.qir_reader.proofs.Separated.{Some}
use Rattle.qir_reader.proofs.cursor.Cursor.some_blocks.Given as goal

-- these blocks were read, and as many may follow as tokens were left behind the first
abbrev pub invariant-loop : goal.invariant-loop
invariant-loop l = Some (among kind block_kinds) read_block read_block l.fn.self (l.end - l.counter) l.found.items l.self
