use Rattle.std.proofs.Common.{◌≡◌, ◌-◌, ◌∷◌, ◌++◌, codes}
use Rattle.qq_tool.specs.ThinRun.{label_of, bit_labels}
use Rattle.qq_tool.proofs.lower.labels.Given as goal

-- the labels so far, and those of the bits that are left, are all
abbrev pub invariant-loop-bit : goal.invariant-loop-bit
invariant-loop-bit l = l.items.items ++ bit_labels l.bit (l.bits - l.bit) ≡ label_of (codes "c") ∷ bit_labels 0 l.bits
