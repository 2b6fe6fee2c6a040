-- Comparisons of words whose numbers are in the range of signed or of unsigned words, and a word's lowest bit.
use Rattle.std.proofs.Common.{◌≡◌, ℕ, ◌^◌, ◌<◌, Bool, true, false, not, eq-eqb, nat_eq, nat_lt, nat_le, ℤ, pos, FitsSigned, refl, sym, ap, ◌∙◌, arith}
use Rattle.std.proofs.lemmas.Bool.{eqb-true}
use Rattle.std.proofs.lemmas.Bool.Decides.{Decides-int_eq}
use Rattle.std.proofs.lemmas.Int.{to_z-of_z}
use Rattle.std.specs.Int.{w64, cast_unsigned, cast_signed}
use Rattle.std.specs.Int.RustNames.{int_lt, int_le}
use Rattle.std.specs.Ordering.{int_eq}
use Rattle.qir_module.specs.Machine.{same_word, unsigned_lt}
use Rattle.machine_words.specs.Words.{word_of}
use Rattle.machine_words.proofs.Words.{word_fits, unsigned_of_word}

same_test : (a b : Bool) → (a ≡ true → b ≡ true) → (b ≡ true → a ≡ true) → a ≡ b
same_test true true f g = refl
same_test false false f g = refl
same_test true false f g = sym (f refl)
same_test false true f g = g refl

-- ---- signed

eq_signed : (x y : ℤ) → FitsSigned w64 x → FitsSigned w64 y → same_word x y ≡ int_eq x y
eq_signed x y f g = same_test (same_word x y) (int_eq x y)
    (λ e. let same : cast_unsigned w64 x ≡ cast_unsigned w64 y = eqb-true _ _ e in
    (Decides-int_eq x y).1 (sym (to_z-of_z w64 x f) ∙ ap (cast_signed w64) same ∙ to_z-of_z w64 y g))
    (λ e. let same : x ≡ y = (Decides-int_eq x y).0 e in eq-eqb _ _ (ap (cast_unsigned w64) same))

pub equal_signed : (x y : ℤ) → FitsSigned w64 x → FitsSigned w64 y → same_word (word_of x) (word_of y) ≡ int_eq x y
equal_signed x y f g = (λ t. same_word (word_fits x f t) (word_fits y g t)) ∙ eq_signed x y f g

pub less_signed : (x y : ℤ) → FitsSigned w64 x → FitsSigned w64 y → int_lt (word_of x) (word_of y) ≡ int_lt x y
less_signed x y f g t = int_lt (word_fits x f t) (word_fits y g t)

pub at_most_signed : (x y : ℤ) → FitsSigned w64 x → FitsSigned w64 y → int_le (word_of x) (word_of y) ≡ int_le x y
at_most_signed x y f g t = int_le (word_fits x f t) (word_fits y g t)

-- ---- unsigned

not_less : (m n : ℕ) → not (nat_lt n m) ≡ nat_le m n
not_less m n = grind arith

pub equal_naturals : (m n : ℕ) → nat_eq m n ≡ int_eq (pos m) (pos n)
equal_naturals m n = same_test (nat_eq m n) (int_eq (pos m) (pos n))
    (λ e. (Decides-int_eq (pos m) (pos n)).1 (ap pos (eqb-true m n e)))
    (λ e. let same : pos m ≡ pos n = (Decides-int_eq (pos m) (pos n)).0 e in eq-eqb m n cc)

pub equal_unsigned : (m n : ℕ) → m < 2 ^ 64 → n < 2 ^ 64 → same_word (word_of (pos m)) (word_of (pos n)) ≡ int_eq (pos m) (pos n)
equal_unsigned m n h l = (λ t. nat_eq (unsigned_of_word m h t) (unsigned_of_word n l t)) ∙ equal_naturals m n

pub less_unsigned : (m n : ℕ) → m < 2 ^ 64 → n < 2 ^ 64 → unsigned_lt (word_of (pos m)) (word_of (pos n)) ≡ int_lt (pos m) (pos n)
less_unsigned m n h l t = nat_lt (unsigned_of_word m h t) (unsigned_of_word n l t)

pub at_most_unsigned : (m n : ℕ) → m < 2 ^ 64 → n < 2 ^ 64 → not (unsigned_lt (word_of (pos n)) (word_of (pos m))) ≡ int_le (pos m) (pos n)
at_most_unsigned m n h l = ap not (less_unsigned n m l h) ∙ not_less m n
