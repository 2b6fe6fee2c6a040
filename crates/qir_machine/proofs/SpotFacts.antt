-- What a module's rules say of an item, where it stands.
use Rattle.std.proofs.Common.{◌≡◌, ℕ, zero, suc, ◌+◌, Bool, true, false, ◌&&◌, List, [], ◌∷◌, ◌++◌, length, slice_get, Some, refl, sym, subst, arith, append_assoc, append-nil}
use Rattle.std.specs.List.{AllByRecursion}
use Rattle.qir_module.specs.declared.block.Block.{Block}
use Rattle.qir_module.specs.Module.{Module}
use Rattle.qir_module.specs.Spots.{Item, items_in, Spot, spots_behind, block_spots, spots_from}
use Rattle.qir_module.specs.Passes.{Demand, IsKept}

pub all_left : {A : Type 0} (P : A → Type 0) (xs ys : List A) → AllByRecursion P (xs ++ ys) → AllByRecursion P xs
all_left P [] ys all = tt
all_left P (x ∷ xs) ys all = (all.0, all_left P xs ys all.1)

pub all_right : {A : Type 0} (P : A → Type 0) (xs ys : List A) → AllByRecursion P (xs ++ ys) → AllByRecursion P ys
all_right P [] ys all = all
all_right P (x ∷ xs) ys all = all_right P xs ys all.1

pub and_left : (a b : Bool) → (a && b) ≡ true → a ≡ true
and_left true b is = refl
and_left false b is = is

pub and_right : (a b : Bool) → (a && b) ≡ true → b ≡ true
and_right true b is = is
and_right false b is = absurd (let wrong : false ≡ true = is in cc)

-- the spot of an item of a block, behind those in front of it
abbrev pub spot_at : ℕ → Block → List Item → Item → Spot
spot_at k b front here = record { block = k; item = length front; of = b; front = front; here = here }

spot_behind : (P : Spot → Type 0) (k : ℕ) (b : Block) (i : ℕ) (front mid : List Item) (here : Item) (back : List Item) → AllByRecursion P (spots_behind k b i front (mid ++ here ∷ back))
    → P (record { block = k; item = i + length mid; of = b; front = front ++ mid; here = here })
spot_behind P k b i front [] here back all =
    let same : i ≡ i + 0 = omega arith in
    subst (λ n. P (record { block = k; item = n; of = b; front = front ++ []; here = here })) same
    (subst (λ (fs : List Item). P (record { block = k; item = i; of = b; front = fs; here = here })) (sym (append-nil front)) all.0)
spot_behind P k b i front (x ∷ mid) here back all =
    let same : suc i + length mid ≡ i + suc (length mid) = omega arith in
    subst (λ n. P (record { block = k; item = n; of = b; front = front ++ x ∷ mid; here = here })) same
    (subst (λ (fs : List Item). P (record { block = k; item = suc i + length mid; of = b; front = fs; here = here })) (append_assoc front (x ∷ []) mid)
    (spot_behind P k b (suc i) (front ++ x ∷ []) mid here back all.1))

block_of : (P : Spot → Type 0) (k : ℕ) (blocks : List Block) (i : ℕ) (b : Block) → slice_get blocks i ≡ Some b → AllByRecursion P (spots_from k blocks) → AllByRecursion P (block_spots (k + i) b)
block_of P k [] i b is all = absurd (cc)
block_of P k (x ∷ blocks) zero b is all =
    let same : x ≡ b = cc in
    let place : k ≡ k + 0 = omega arith in
    subst (λ n. AllByRecursion P (block_spots n b)) place (subst (λ (y : Block). AllByRecursion P (block_spots k y)) same (all_left P (block_spots k x) (spots_from (suc k) blocks) all))
block_of P k (x ∷ blocks) (suc i) b is all =
    let place : suc k + i ≡ k + suc i = omega arith in
    subst (λ n. AllByRecursion P (block_spots n b)) place (block_of P (suc k) blocks i b is (all_right P (block_spots k x) (spots_from (suc k) blocks) all))

-- a demand that is kept is met at each item
pub kept_at : (m : Module) (demand : Demand) (k : ℕ) (b : Block) (front : List Item) (here : Item) (back : List Item) → IsKept m demand → slice_get m.blocks k ≡ Some b → items_in b ≡ front ++ here ∷ back
    → demand m (spot_at k b front here) ≡ true
kept_at m demand k b front here back kept is items =
    let zero_k : 0 + k ≡ k = omega arith in
    let zero_item : 0 + length front ≡ length front = omega arith in
    let whole = subst (λ n. AllByRecursion (λ (s : Spot). demand m s ≡ true) (block_spots n b)) zero_k (block_of (λ (s : Spot). demand m s ≡ true) 0 m.blocks k b is kept) in
    subst (λ n. demand m (record { block = k; item = n; of = b; front = front; here = here }) ≡ true) zero_item
    (spot_behind (λ (s : Spot). demand m s ≡ true) k b 0 [] front here back (subst (λ (is : List Item). AllByRecursion (λ (s : Spot). demand m s ≡ true) (spots_behind k b 0 [] is)) items whole))
