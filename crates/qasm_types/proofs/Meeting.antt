-- Where two words meet, as the code finds it.
use Rattle.std.proofs.Common.{◌≡◌, ℕ, ◌≤◌, max, true, ℤ, Some, None, refl, subst, ap, ◌∙◌, ◌⊎◌, inl, inr, ⊎_elim, nat_le, if◌then◌else◌, arith}
use Rattle.std.specs.Option.{option_map, option_or}
use Rattle.qasm_types.specs.declared.ty.Ty.{Ty}
use Rattle.qasm_types.specs.declared.ty.Ty.TheVariants as t
use Rattle.qasm_types.specs.Types.{IsTruth, IsWord}
use Rattle.qasm_types.specs.Words.{MeetAt, TwoWords, ConstantRight, ConstantLeft, IsTakenAs, TruthAsWord, BitsAsWord, meeting}
use Rattle.qasm_types.specs.Operators.{IsNumber}
use Rattle.qasm_types.specs.Plans.{met, taken_beside, words_plan, all_at, angles_plan, truth_with_word, bits_with_word, mixed_plan}
use Rattle.qasm_types.proofs.ByKind.{word_cases, truth_cases}
use Rattle.std.proofs.lemmas.Bool.{leb-true}
use Rattle.qasm_types.proofs.Choices.{all_at_cases, or_cases, choice_cases, some_is}

pub number_cases : (P : Ty → Type 0) → ((n : ℕ) → P (t.Int n)) → ((n : ℕ) → P (t.Uint n)) → P t.Whole → (a : Ty) → IsNumber a → P a
number_cases P int uint whole (t.Int n) h = int n
number_cases P int uint whole (t.Uint n) h = uint n
number_cases P int uint whole t.Whole h = whole
number_cases P int uint whole _ h = absurd h

number_from_word : (a : Ty) → IsWord a → IsNumber a
number_from_word a h = word_cases IsNumber (λ n. tt) (λ n. tt) a h

pub met_from_meets : (a b : Ty) (u v : ℤ) (m : Ty) → MeetAt a u b v m → met a u b v ≡ Some m
met_from_meets _ _ _ _ _ (TwoWords a b u v p q) =
    word_cases (λ c. met c u b v ≡ Some (meeting c b)) (λ m. word_cases (λ d. met (t.Int m) u d v ≡ Some (meeting (t.Int m) d)) (λ n. refl) (λ n. refl) b q) (λ m. word_cases (λ d. met (t.Uint m) u d v ≡ Some (meeting (t.Uint m) d)) (λ n. refl) (λ n. refl) b q) a p
met_from_meets _ _ _ _ _ (ConstantRight (t.Int n) u v p) = refl
met_from_meets _ _ _ _ _ (ConstantRight (t.Uint n) u v p) = refl
met_from_meets _ _ _ _ _ (ConstantRight _ u v p) = absurd p
met_from_meets _ _ _ _ _ (ConstantLeft (t.Int n) u v p) = refl
met_from_meets _ _ _ _ _ (ConstantLeft (t.Uint n) u v p) = refl
met_from_meets _ _ _ _ _ (ConstantLeft _ u v p) = absurd p

beside_left : (a b : Ty) (u v : ℤ) (m : Ty) → IsWord a → option_map (meeting a) (taken_beside a b v) ≡ Some m → MeetAt a u b v m
beside_left a (t.Int n) u v m p e = subst (λ k. MeetAt a u (t.Int n) v k) (some_is _ _ e) (TwoWords a (t.Int n) u v p tt)
beside_left a (t.Uint n) u v m p e = subst (λ k. MeetAt a u (t.Uint n) v k) (some_is _ _ e) (TwoWords a (t.Uint n) u v p tt)
beside_left a t.Whole u v m p e = subst (λ k. MeetAt a u t.Whole v k) (some_is _ _ e) (ConstantRight a u v p)
beside_left a _ u v m p e = absurd cc

pub meets_from_met : (a b : Ty) (u v : ℤ) (m : Ty) → met a u b v ≡ Some m → MeetAt a u b v m
meets_from_met (t.Int n) b u v m e = beside_left (t.Int n) b u v m tt e
meets_from_met (t.Uint n) b u v m e = beside_left (t.Uint n) b u v m tt e
meets_from_met t.Whole (t.Int n) u v m e = subst (λ k. MeetAt t.Whole u (t.Int n) v k) (some_is _ _ e) (ConstantLeft (t.Int n) u v tt)
meets_from_met t.Whole (t.Uint n) u v m e = subst (λ k. MeetAt t.Whole u (t.Uint n) v k) (some_is _ _ e) (ConstantLeft (t.Uint n) u v tt)
meets_from_met _ (t.Int n) u v m e = absurd cc
meets_from_met _ (t.Uint n) u v m e = absurd cc
meets_from_met _ _ u v m e = absurd cc

-- beside a word stands a number
pub number_right : (a b : Ty) (u v : ℤ) (m : Ty) → IsWord a → MeetAt a u b v m → IsNumber b
number_right _ _ _ _ _ h (TwoWords a b u v p q) = number_from_word b q
number_right _ _ _ _ _ h (ConstantRight a u v p) = tt
number_right _ _ _ _ _ h (ConstantLeft b u v p) = absurd h

pub number_left : (a b : Ty) (u v : ℤ) (m : Ty) → IsWord b → MeetAt a u b v m → IsNumber a
number_left _ _ _ _ _ h (TwoWords a b u v p q) = number_from_word a p
number_left _ _ _ _ _ h (ConstantRight a u v p) = absurd h
number_left _ _ _ _ _ h (ConstantLeft b u v p) = tt

-- ---- operands that are taken as words

pub small : (n : ℕ) → n ≤ 64 → nat_le n 64 ≡ true
small n h = grind arith

pub truth_left : (a b : Ty) (u v : ℤ) (m : Ty) → IsTruth a → MeetAt (t.Uint 1) u b v m → truth_with_word a u b v ≡ Some (m, m, m)
truth_left a b u v m p q =
    let e = ap all_at (met_from_meets (t.Uint 1) b u v m q) in
    truth_cases (λ c. truth_with_word c u b v ≡ Some (m, m, m)) e e a p

pub truth_right : (a b : Ty) (u v : ℤ) (m : Ty) → IsTruth b → MeetAt a u (t.Uint 1) v m → truth_with_word a u b v ≡ Some (m, m, m)
truth_right a b u v m p q =
    let e = ap all_at (met_from_meets a (t.Uint 1) u v m q) in
    let by : (c : Ty) → IsTruth c → words_plan a u (t.Uint 1) v ≡ Some (m, m, m) → truth_with_word a u c v ≡ Some (m, m, m) = λ c h.
    number_cases (λ d. words_plan d u (t.Uint 1) v ≡ Some (m, m, m) → truth_with_word d u c v ≡ Some (m, m, m))
    (λ n. truth_cases (λ f. words_plan (t.Int n) u (t.Uint 1) v ≡ Some (m, m, m) → truth_with_word (t.Int n) u f v ≡ Some (m, m, m)) (λ e. e) (λ e. e) c h)
    (λ n. truth_cases (λ f. words_plan (t.Uint n) u (t.Uint 1) v ≡ Some (m, m, m) → truth_with_word (t.Uint n) u f v ≡ Some (m, m, m)) (λ e. e) (λ e. e) c h)
    (truth_cases (λ f. words_plan t.Whole u (t.Uint 1) v ≡ Some (m, m, m) → truth_with_word t.Whole u f v ≡ Some (m, m, m)) (λ e. e) (λ e. e) c h)
    a (number_left a (t.Uint 1) u v m tt q) in
    by b p e

pub mixed_left : (a b : Ty) (u v : ℤ) (m : Ty) (n : ℕ) → IsTakenAs a n → MeetAt (t.Uint n) u b v m → mixed_plan a u b v ≡ Some (m, m, m)
mixed_left _ b u v m _ (TruthAsWord a p) q = ap (λ o. option_or o (bits_with_word a u b v)) (truth_left a b u v m p q)
mixed_left _ b u v m _ (BitsAsWord n h) q =
    let e = ap (λ s. if s then words_plan (t.Uint (max n 1)) u b v else None) (small n h) ∙ ap all_at (met_from_meets (t.Uint (max n 1)) b u v m q) in
    number_cases (λ c. bits_with_word (t.Bits n) u c v ≡ Some (m, m, m) → mixed_plan (t.Bits n) u c v ≡ Some (m, m, m)) (λ k e. e) (λ k e. e) (λ e. e) b (number_right (t.Uint (max n 1)) b u v m tt q) e

pub mixed_right : (a b : Ty) (u v : ℤ) (m : Ty) (n : ℕ) → IsTakenAs b n → MeetAt a u (t.Uint n) v m → mixed_plan a u b v ≡ Some (m, m, m)
mixed_right a _ u v m _ (TruthAsWord b p) q = ap (λ o. option_or o (bits_with_word a u b v)) (truth_right a b u v m p q)
mixed_right a _ u v m _ (BitsAsWord n h) q =
    let e = ap (λ s. if s then words_plan a u (t.Uint (max n 1)) v else None) (small n h) ∙ ap all_at (met_from_meets a (t.Uint (max n 1)) u v m q) in
    number_cases (λ c. (if nat_le n 64 then words_plan c u (t.Uint (max n 1)) v else None) ≡ Some (m, m, m) → mixed_plan c u (t.Bits n) v ≡ Some (m, m, m)) (λ k e. e) (λ k e. e) (λ e. e) a (number_left a (t.Uint (max n 1)) u v m tt q) e

pub no_words_left : (a b : Ty) (u v : ℤ) (n : ℕ) → IsTakenAs a n → IsNumber b → (words_plan a u b v ≡ None) × (angles_plan a b ≡ None)
no_words_left _ b u v _ (TruthAsWord a p) q =
    truth_cases (λ c. (words_plan c u b v ≡ None) × (angles_plan c b ≡ None))
    (number_cases (λ d. (words_plan t.Bool u d v ≡ None) × (angles_plan t.Bool d ≡ None)) (λ k. (refl, refl)) (λ k. (refl, refl)) (refl, refl) b q)
    (number_cases (λ d. (words_plan t.Bit u d v ≡ None) × (angles_plan t.Bit d ≡ None)) (λ k. (refl, refl)) (λ k. (refl, refl)) (refl, refl) b q) a p
no_words_left _ b u v _ (BitsAsWord n h) q =
    number_cases (λ d. (words_plan (t.Bits n) u d v ≡ None) × (angles_plan (t.Bits n) d ≡ None)) (λ k. (refl, refl)) (λ k. (refl, refl)) (refl, refl) b q

pub no_words_right : (a b : Ty) (u v : ℤ) (n : ℕ) → IsTakenAs b n → IsNumber a → (words_plan a u b v ≡ None) × (angles_plan a b ≡ None)
no_words_right a _ u v _ (TruthAsWord b p) q =
    truth_cases (λ c. (words_plan a u c v ≡ None) × (angles_plan a c ≡ None))
    (number_cases (λ d. (words_plan d u t.Bool v ≡ None) × (angles_plan d t.Bool ≡ None)) (λ k. (refl, refl)) (λ k. (refl, refl)) (refl, refl) a q)
    (number_cases (λ d. (words_plan d u t.Bit v ≡ None) × (angles_plan d t.Bit ≡ None)) (λ k. (refl, refl)) (λ k. (refl, refl)) (refl, refl) a q) b p
no_words_right a _ u v _ (BitsAsWord n h) q =
    number_cases (λ d. (words_plan d u (t.Bits n) v ≡ None) × (angles_plan d (t.Bits n) ≡ None)) (λ k. (refl, refl)) (λ k. (refl, refl)) (refl, refl) a q

-- ---- back

pub truth_rows : (a b : Ty) (u v : ℤ) (p : Ty × Ty × Ty) → truth_with_word a u b v ≡ Some p
    → (m : Ty) × ((IsTruth a × MeetAt (t.Uint 1) u b v m) ⊎ (IsTruth b × MeetAt a u (t.Uint 1) v m)) × ((m, m, m) ≡ p)
truth_rows t.Bool b u v p e = let (m, h, is) = all_at_cases (met (t.Uint 1) u b v) p e in (m, inl (tt, meets_from_met (t.Uint 1) b u v m h), is)
truth_rows t.Bit b u v p e = let (m, h, is) = all_at_cases (met (t.Uint 1) u b v) p e in (m, inl (tt, meets_from_met (t.Uint 1) b u v m h), is)
truth_rows a t.Bool u v p e = let (m, h, is) = all_at_cases (met a u (t.Uint 1) v) p e in (m, inr (tt, meets_from_met a (t.Uint 1) u v m h), is)
truth_rows a t.Bit u v p e = let (m, h, is) = all_at_cases (met a u (t.Uint 1) v) p e in (m, inr (tt, meets_from_met a (t.Uint 1) u v m h), is)
truth_rows _ _ u v p e = absurd cc

bits_left : (n : ℕ) (b : Ty) (u v : ℤ) (p : Ty × Ty × Ty) → (if nat_le n 64 then words_plan (t.Uint (max n 1)) u b v else None) ≡ Some p
    → (m : Ty) × ((k : ℕ) × IsTakenAs (t.Bits n) k × MeetAt (t.Uint k) u b v m) × ((m, m, m) ≡ p)
bits_left n b u v p e =
    let (few, e2) = choice_cases (nat_le n 64) (words_plan (t.Uint (max n 1)) u b v) p e in
    let (m, h, is) = all_at_cases (met (t.Uint (max n 1)) u b v) p e2 in
    (m, (max n 1, BitsAsWord n (leb-true n 64 few), meets_from_met (t.Uint (max n 1)) b u v m h), is)

bits_right : (a : Ty) (n : ℕ) (u v : ℤ) (p : Ty × Ty × Ty) → (if nat_le n 64 then words_plan a u (t.Uint (max n 1)) v else None) ≡ Some p
    → (m : Ty) × ((k : ℕ) × IsTakenAs (t.Bits n) k × MeetAt a u (t.Uint k) v m) × ((m, m, m) ≡ p)
bits_right a n u v p e =
    let (few, e2) = choice_cases (nat_le n 64) (words_plan a u (t.Uint (max n 1)) v) p e in
    let (m, h, is) = all_at_cases (met a u (t.Uint (max n 1)) v) p e2 in
    (m, (max n 1, BitsAsWord n (leb-true n 64 few), meets_from_met a (t.Uint (max n 1)) u v m h), is)

-- the two are compared as words, one of them taken as one
abbrev pub AreMixed : Ty → Ty → ℤ → ℤ → Ty → Type 0
AreMixed a b u v m = ((k : ℕ) × IsTakenAs a k × MeetAt (t.Uint k) u b v m) ⊎ ((k : ℕ) × IsTakenAs b k × MeetAt a u (t.Uint k) v m)

bits_rows : (a b : Ty) (u v : ℤ) (p : Ty × Ty × Ty) → bits_with_word a u b v ≡ Some p → (m : Ty) × AreMixed a b u v m × ((m, m, m) ≡ p)
bits_rows (t.Bits n) b u v p e = let (m, h, is) = bits_left n b u v p e in (m, inl h, is)
bits_rows a (t.Bits n) u v p e = let (m, h, is) = bits_right a n u v p e in (m, inr h, is)
bits_rows _ _ u v p e = absurd cc

pub mixed_rows : (a b : Ty) (u v : ℤ) (p : Ty × Ty × Ty) → mixed_plan a u b v ≡ Some p → (m : Ty) × AreMixed a b u v m × ((m, m, m) ≡ p)
mixed_rows a b u v p e = ⊎_elim
    (λ h. let (m, r, is) = truth_rows a b u v p h in (m, ⊎_elim (λ l. inl (1, TruthAsWord a l.0, l.1)) (λ l. inr (1, TruthAsWord b l.0, l.1)) r, is))
    (λ h. bits_rows a b u v p h)
    (or_cases (truth_with_word a u b v) (bits_with_word a u b v) p e)
