-- The text of a label, by its bytes without the last one.
use Rattle.std.proofs.Common.{◌≡◌, refl, sym, ap, ◌∙◌, ℕ, List, [], ◌∷◌, ◌++◌, length, Option, Some, None}
use Rattle.std.specs.List.{flat_map}
use Rattle.qir_module.specs.Text.{escaped}
use Rattle.run_text.specs.Shown.{without_last, label_text}

without_last-push : (front : List ℕ) (last : ℕ) → without_last (front ++ last ∷ []) ≡ front
without_last-push [] last = refl
without_last-push (c ∷ []) last = refl
without_last-push (c ∷ d ∷ cs) last = ap (λ (rest : List ℕ). c ∷ rest) (without_last-push (d ∷ cs) last)

-- a label that ends with a byte
pub label_text_of : (label front : List ℕ) (last : ℕ) → label ≡ front ++ last ∷ [] → flat_map escaped front ≡ label_text (Some label)
label_text_of label front last is = ap (flat_map escaped) (sym (without_last-push front last) ∙ ap without_last (sym is))

-- a label that has no bytes
pub no_label_text : (label : List ℕ) → length label ≡ 0 → [] ≡ label_text (Some label)
no_label_text [] is = refl
no_label_text (c ∷ cs) is = cc
