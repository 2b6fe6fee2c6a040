use Rattle.std.proofs.Common.{◌-◌, length}
use Rattle.grammar_parts.specs.Kinds.{among}
use Rattle.qir_module.specs.Words.{kind}
use Rattle.qir_module.specs.Reader.{label_kinds, read_label, next_label, read_labels_from}
use Rattle.qir_reader.proofs.Going.{Going}
use Rattle.qir_reader.proofs.cursor.Cursor.labels.Given as goal

-- these labels were read, and as many may follow as tokens were left behind them
abbrev pub invariant-loop-number : goal.invariant-loop-number
invariant-loop-number l = Going (λ s. among kind label_kinds) read_label next_label (read_labels_from (length l.fn.self) 0 l.fn.self) (l.number-end - l.number) l.number l.found.items l.self
