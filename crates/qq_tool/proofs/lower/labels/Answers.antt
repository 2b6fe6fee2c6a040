use Rattle.std.proofs.Common.{◌≡◌, ℕ, suc, ◌+◌, ◌-◌, ◌<◌, List, [], ◌∷◌, ◌++◌, ap, ◌∙◌, arith, append_assoc}
use Rattle.qq_tool.specs.Thin.{bit_text}
use Rattle.qq_tool.specs.ThinRun.{label_of, bit_labels}
use Rattle.qq_tool.proofs.lower.labels.Goals as goal

-- one more label
one_more : (labels pushed all : List (List ℕ)) (label : List ℕ) (bit bits : ℕ) → bit < bits → label ≡ label_of (bit_text bit) → pushed ≡ labels ++ label ∷ [] → labels ++ bit_labels bit (bits - bit) ≡ all → pushed ++ bit_labels (bit + 1) (bits - (bit + 1)) ≡ all
one_more labels pushed all label bit bits within is push so_far =
    ap (λ ls. ls ++ bit_labels (bit + 1) (bits - (bit + 1))) push
    ∙ append_assoc labels (label ∷ []) (bit_labels (bit + 1) (bits - (bit + 1)))
    ∙ ap (λ l. labels ++ l ∷ bit_labels (bit + 1) (bits - (bit + 1))) is
    ∙ ap (λ n. labels ++ label_of (bit_text bit) ∷ bit_labels n (bits - (bit + 1))) next
    ∙ ap (λ n. labels ++ bit_labels bit n) left
    ∙ so_far
  where
    next : bit + 1 ≡ suc bit
    next = omega arith

    left : suc (bits - (bit + 1)) ≡ bits - bit
    left = omega (arith, within)

pub loop-bit-preserved : goal.loop-bit-preserved
loop-bit-preserved c =
    one_more c.loop-bit.items.items c.push.new.self.items _ c.in_ok-bit_label.field-0 c.loop-bit.bit c.args.bits c.loop-bit-test.true c.in_ok-bit_label.ensures c.in_ok-push.ensures.items c.loop-bit.invariant
