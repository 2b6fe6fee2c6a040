-- Where no two names are equal, the number of a name is found from its bytes.
use Rattle.std.proofs.Common.{◌≡◌, ℕ, zero, suc, ◌+◌, ◌<◌, Bool, true, false, not, cond, List, [], ◌∷◌, length, Some, None, slice_get, nat_eq, nat_lt, refl, sym, ap, subst, arith}
use Rattle.std.proofs.lemmas.Bool.{lt-ltb}
use Rattle.std.specs.List.{position_or_len}
use Rattle.std.specs.Cmp.Lexicographic.{pointwise, same_text, other_text}
use Rattle.qasm_ast.specs.Tree.{text_at}
use Rattle.qasm_ast.specs.View.{number_of}

pub text_at-found : (names : List (List ℕ)) (n : ℕ) (text : List ℕ) → slice_get names n ≡ Some text → text_at names n ≡ text
text_at-found [] n text e = absurd (cc)
text_at-found (x ∷ names) zero text e = cc
text_at-found (x ∷ names) (suc n) text e = text_at-found names n text e

abbrev Differ : List (List ℕ) → Type 0
Differ names = (j k : ℕ) (text : List ℕ) → slice_get names j ≡ Some text → slice_get names k ≡ Some text → j ≡ k

one_name : (x : List ℕ) (names : List (List ℕ)) (n : ℕ) (text : List ℕ) → Differ (x ∷ names) → slice_get (x ∷ names) n ≡ Some text → ((m : ℕ) → slice_get names m ≡ Some text → position_or_len (pointwise nat_eq text) names ≡ m) → (b : Bool) → b ≡ pointwise nat_eq text x → cond (not b) (1 + position_or_len (pointwise nat_eq text) names) 0 ≡ n
one_name x names n text differ e later true t = differ 0 n text (ap Some (sym (same_text text x t))) e
one_name x names zero text differ e later false t = let same : text ≡ x = cc in absurd (other_text text x t same)
one_name x names (suc n) text differ e later false t = omega (arith, later n e)

first_place : (names : List (List ℕ)) (n : ℕ) (text : List ℕ) → Differ names → slice_get names n ≡ Some text → position_or_len (pointwise nat_eq text) names ≡ n
first_place [] n text differ e = absurd (cc)
first_place (x ∷ names) n text differ e =
    one_name x names n text differ e (λ m f. first_place names m text (λ j k t g h. omega (arith, differ (suc j) (suc k) t g h)) f) (pointwise nat_eq text x) refl

pub number_of-found : (names : List (List ℕ)) (n : ℕ) (text : List ℕ) → Differ names → n < length names → slice_get names n ≡ Some text → number_of names text ≡ Some n
number_of-found names n text differ lt e =
    subst (λ k. cond (nat_lt k (length names)) (Some k) None ≡ Some n) (sym (first_place names n text differ e)) (ap (λ b. cond b (Some n) None) (lt-ltb n (length names) lt))
