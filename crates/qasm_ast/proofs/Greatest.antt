-- The greatest of the numbers of a list, front by front.
use Rattle.std.proofs.Common.{◌≡◌, ℕ, zero, suc, ◌+◌, ◌<◌, max, min, List, [], ◌∷◌, length, take, get_or, ap, arith}
use Rattle.qasm_ast.specs.Level.{greatest}

pub greatest-take : {A : Type 0} (f : A → ℕ) (xs : List A) (i : ℕ) (d : A) → i < length xs → greatest f (take (i + 1) xs) ≡ max (greatest f (take i xs)) (f (get_or xs i d))
greatest-take f [] i d lt = absurd (omega arith)
greatest-take f (y ∷ ys) zero d lt = omega arith
greatest-take f (y ∷ ys) (suc i) d lt =
    let later : greatest f (take (i + 1) ys) ≡ max (greatest f (take i ys)) (f (get_or ys i d)) = greatest-take f ys i d (omega arith) in
    let same : suc i + 1 ≡ suc (i + 1) = omega arith in
    rw same (omega (arith, later))

-- one turn of a loop that keeps the greatest number, cut at 65
pub one_more : {A : Type 0} (f : A → ℕ) (xs : List A) (i : ℕ) (d : A) (most value new : ℕ) → i < length xs → most ≡ min 65 (greatest f (take i xs)) → value ≡ min 65 (f (get_or xs i d)) → new ≡ max most value → new ≡ min 65 (greatest f (take (i + 1) xs))
one_more f xs i d most value new lt seen found taken = omega (arith, greatest-take f xs i d lt)

-- the same with the element that was read
pub one_read : {A : Type 0} (f : A → ℕ) (xs : List A) (i : ℕ) (x : A) (most value new : ℕ) → x ≡ get_or xs i x → i < length xs → most ≡ min 65 (greatest f (take i xs)) → value ≡ min 65 (f x) → new ≡ max most value → new ≡ min 65 (greatest f (take (i + 1) xs))
one_read f xs i x most value new e lt seen found taken =
    let here : f x ≡ f (get_or xs i x) = ap f e in
    omega (arith, greatest-take f xs i x lt)
