-- The rows of the table of casts are those that the code's tests find.
use Rattle.std.proofs.Common.{◌≡◌, ℕ, ◌≤◌, true, ◌&&◌, ℤ, refl, sym, ap, subst, ◌∙◌, eq-eqb, nat_eq, nat_le, arith}
use Rattle.std.proofs.lemmas.Bool.{eqb-true, leb-true}
use Rattle.std.proofs.lemmas.Bool.Decides.{Decides-and}
use Rattle.std.specs.Bool.{Decides}
use Rattle.qasm_types.specs.declared.ty.Ty.{Ty}
use Rattle.qasm_types.specs.declared.ty.Ty.TheVariants as t
use Rattle.qasm_types.specs.Types.{width_of, IsTruth, IsWord}
use Rattle.qasm_types.specs.Casts.{HasCast, SameType, TruthToTruth, TruthToWord, WordToBool, WordToWord, WordToBits, WordToBit, BitsToWord, BitsToBool, BitsToAngle, AngleToBits, AngleToAngle, AngleToBool, ConstantToWord, ConstantToBool, ConstantToBits, ConstantToBit, ConstantToAngle, FractionToAngle}
use Rattle.qasm_types.specs.Plans.{casts, word_casts, bits_cast, angle_casts, constant_casts, is_pattern}
use Rattle.qasm_types.proofs.ByKind.{word_cases, truth_cases, Decides-is_pattern}

same : (n : ℕ) → nat_eq n n ≡ true
same n = eq-eqb n n refl

small : (n : ℕ) → n ≤ 64 → nat_le n 64 ≡ true
small n h = grind arith

-- ---- from the rows

same_casts : (a : Ty) (v : ℤ) → casts a v a ≡ true
same_casts (t.Bits n) v = same n
same_casts _ v = refl

pub casts_from_row : (a b : Ty) (v : ℤ) → HasCast a v b → casts a v b ≡ true
casts_from_row _ _ _ (SameType a v) = same_casts a v
casts_from_row _ _ _ (TruthToTruth a b v p q) =
    truth_cases (λ c. casts c v b ≡ true) (truth_cases (λ d. casts t.Bool v d ≡ true) refl refl b q) (truth_cases (λ d. casts t.Bit v d ≡ true) refl refl b q) a p
casts_from_row _ _ _ (TruthToWord a b v p q) =
    truth_cases (λ c. casts c v b ≡ true) (word_cases (λ d. casts t.Bool v d ≡ true) (λ n. refl) (λ n. refl) b q) (word_cases (λ d. casts t.Bit v d ≡ true) (λ n. refl) (λ n. refl) b q) a p
casts_from_row _ _ _ (WordToBool a v p) = word_cases (λ c. casts c v t.Bool ≡ true) (λ n. refl) (λ n. refl) a p
casts_from_row _ _ _ (WordToWord a b v p q) =
    word_cases (λ c. casts c v b ≡ true) (λ m. word_cases (λ d. casts (t.Int m) v d ≡ true) (λ n. refl) (λ n. refl) b q) (λ m. word_cases (λ d. casts (t.Uint m) v d ≡ true) (λ n. refl) (λ n. refl) b q) a p
casts_from_row _ _ _ (WordToBits a v p) = word_cases (λ c. casts c v (t.Bits (width_of c)) ≡ true) same same a p
casts_from_row _ _ _ (WordToBit a v p one) =
    word_cases (λ c. width_of c ≡ 1 → casts c v t.Bit ≡ true) (λ n e. eq-eqb n 1 e) (λ n e. eq-eqb n 1 e) a p one
casts_from_row _ _ _ (BitsToWord n b v few q) = word_cases (λ d. casts (t.Bits n) v d ≡ true) (λ m. small n few) (λ m. small n few) b q
casts_from_row _ _ _ (BitsToBool n v) = refl
casts_from_row _ _ _ (BitsToAngle n v) = same n
casts_from_row _ _ _ (AngleToBits n v) = same n
casts_from_row _ _ _ (AngleToAngle m n v) = refl
casts_from_row _ _ _ (AngleToBool n v) = refl
casts_from_row _ _ _ (ConstantToWord b v q) = word_cases (λ d. casts t.Whole v d ≡ true) (λ n. refl) (λ n. refl) b q
casts_from_row _ _ _ (ConstantToBool v) = refl
casts_from_row _ _ _ (ConstantToBits n v few p) = ap (λ x. x && is_pattern v n) (small n few) ∙ (Decides-is_pattern v n).1 p
casts_from_row _ _ _ (ConstantToBit v p) = (Decides-is_pattern v 1).1 p
casts_from_row _ _ _ (ConstantToAngle n v) = refl
casts_from_row _ _ _ (FractionToAngle n v) = refl

-- ---- to the rows

row_from_truth : (a b : Ty) (v : ℤ) → IsTruth a → casts t.Bool v b ≡ true → HasCast a v b
row_from_truth a t.Bool v p h = TruthToTruth a t.Bool v p tt
row_from_truth a t.Bit v p h = TruthToTruth a t.Bit v p tt
row_from_truth a (t.Int n) v p h = TruthToWord a (t.Int n) v p tt
row_from_truth a (t.Uint n) v p h = TruthToWord a (t.Uint n) v p tt
row_from_truth a _ v p h = absurd cc

row_from_word : (a b : Ty) (v : ℤ) → IsWord a → word_casts (width_of a) b ≡ true → HasCast a v b
row_from_word a t.Bool v p h = WordToBool a v p
row_from_word a (t.Int n) v p h = WordToWord a (t.Int n) v p tt
row_from_word a (t.Uint n) v p h = WordToWord a (t.Uint n) v p tt
row_from_word a (t.Bits m) v p h = subst (λ k. HasCast a v (t.Bits k)) (sym (eqb-true m (width_of a) h)) (WordToBits a v p)
row_from_word a t.Bit v p h = WordToBit a v p (eqb-true (width_of a) 1 h)
row_from_word a _ v p h = absurd cc

row_from_bits : (n : ℕ) (b : Ty) (v : ℤ) → bits_cast n b ≡ true → HasCast (t.Bits n) v b
row_from_bits n t.Bool v h = BitsToBool n v
row_from_bits n (t.Int m) v h = BitsToWord n (t.Int m) v (leb-true n 64 h) tt
row_from_bits n (t.Uint m) v h = BitsToWord n (t.Uint m) v (leb-true n 64 h) tt
row_from_bits n (t.Bits m) v h = subst (λ k. HasCast (t.Bits n) v (t.Bits k)) (sym (eqb-true m n h)) (SameType (t.Bits n) v)
row_from_bits n (t.Angle m) v h = subst (λ k. HasCast (t.Bits n) v (t.Angle k)) (sym (eqb-true m n h)) (BitsToAngle n v)
row_from_bits n _ v h = absurd cc

row_from_angle : (n : ℕ) (b : Ty) (v : ℤ) → angle_casts n b ≡ true → HasCast (t.Angle n) v b
row_from_angle n t.Bool v h = AngleToBool n v
row_from_angle n (t.Bits m) v h = subst (λ k. HasCast (t.Angle n) v (t.Bits k)) (sym (eqb-true m n h)) (AngleToBits n v)
row_from_angle n (t.Angle m) v h = AngleToAngle n m v
row_from_angle n _ v h = absurd cc

row_from_constant : (b : Ty) (v : ℤ) → constant_casts v b ≡ true → HasCast t.Whole v b
row_from_constant t.Bool v h = ConstantToBool v
row_from_constant (t.Int n) v h = ConstantToWord (t.Int n) v tt
row_from_constant (t.Uint n) v h = ConstantToWord (t.Uint n) v tt
row_from_constant (t.Bits n) v h =
    let both = (Decides-and (nat_le n 64) (is_pattern v n) (leb-true n 64, small n) (Decides-is_pattern v n)).0 h in
    ConstantToBits n v both.0 both.1
row_from_constant t.Bit v h = ConstantToBit v ((Decides-is_pattern v 1).0 h)
row_from_constant (t.Angle n) v h = ConstantToAngle n v
row_from_constant t.Whole v h = SameType t.Whole v
row_from_constant _ v h = absurd cc

pub row_from_casts : (a b : Ty) (v : ℤ) → casts a v b ≡ true → HasCast a v b
row_from_casts t.Bool b v h = row_from_truth t.Bool b v tt h
row_from_casts t.Bit b v h = row_from_truth t.Bit b v tt h
row_from_casts (t.Int n) b v h = row_from_word (t.Int n) b v tt h
row_from_casts (t.Uint n) b v h = row_from_word (t.Uint n) b v tt h
row_from_casts (t.Bits n) b v h = row_from_bits n b v h
row_from_casts (t.Angle n) b v h = row_from_angle n b v h
row_from_casts t.Whole b v h = row_from_constant b v h
row_from_casts t.Turn t.Turn v h = SameType t.Turn v
row_from_casts t.Turn _ v h = absurd cc
row_from_casts t.Pi t.Pi v h = SameType t.Pi v
row_from_casts t.Pi (t.Angle n) v h = FractionToAngle n v
row_from_casts t.Pi _ v h = absurd cc

pub Decides-casts : (a b : Ty) (v : ℤ) → Decides (casts a v b) (HasCast a v b)
Decides-casts a b v = (row_from_casts a b v, casts_from_row a b v)
