use Rattle.std.proofs.Common.{◌≡◌, ◌++◌, take}
use Rattle.qir_module.specs.Written.{labels_text}
use Rattle.qir_writer.proofs.label.write_labels.Given as goal

abbrev pub invariant-loop-number : goal.invariant-loop-number
invariant-loop-number l = l.out.items ≡ l.fn.out.items ++ labels_text 0 (take l.number l.labels)
