-- The last byte of a label.
use Rattle.std.proofs.Common.{◌≡◌, ℕ, ◌-◌, false, List, [], ◌∷◌, length, get_or, refl, ap, ◌∙◌, arith}
use Rattle.std.specs.Prelude.{◌==◌}
use Rattle.qir_module.specs.Grammar.{ends_in_zero}

last_is : (c : ℕ) (cs : List ℕ) → (get_or (c ∷ cs) (length cs) 0 == 0) ≡ ends_in_zero (c ∷ cs)
last_is c [] = refl
last_is c (d ∷ ds) = last_is d ds

pub last_byte_is : (bytes : List ℕ) → (length bytes == 0) ≡ false → (get_or bytes (length bytes - 1) 0 == 0) ≡ ends_in_zero bytes
last_byte_is [] some = cc
last_byte_is (c ∷ cs) some =
    let before : length (c ∷ cs) - 1 ≡ length cs = omega arith in
    ap (λ n. get_or (c ∷ cs) n 0 == 0) before ∙ last_is c cs
