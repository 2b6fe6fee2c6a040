-- The last item of a list, which is the first of the list from behind.
use Rattle.std.proofs.Common.{◌≡◌, ℕ, suc, zero, ◌-◌, List, [], ◌∷◌, ◌++◌, reverse, length, slice_get, get_or, None, Some, refl, ap, arith}
use Rattle.std.proofs.Math.ListN.{set}
use Rattle.std.proofs.Math.Seq.{set-append_seam}
use Rattle.std.proofs.lemmas.List.{reverse-append}
use Rattle.std.proofs.lemmas.Option.{slice_get_within, slice_get-get_or}

module _ {X : Type 0} where
  -- the items in front of the last one
  pub record Ends (xs : List X) (k : ℕ) (x : X) : Type 0 where
    pub front : List X
    pub is : xs ≡ front ++ x ∷ []
    pub place : length front ≡ k

  pub ends : (xs : List X) (k : ℕ) (x : X) → suc k ≡ length xs → slice_get xs k ≡ Some x → Ends xs k x
  ends [] k x long found = absurd (omega (arith, long))
  ends (y ∷ []) zero x long found = record { front = []; is = let same : y ≡ x = cc in rw same refl; place = refl }
  ends (y ∷ []) (suc k) x long found = absurd (omega (arith, long))
  ends (y ∷ z ∷ zs) zero x long found = absurd (omega (arith, long))
  ends (y ∷ z ∷ zs) (suc k) x long found =
      let rest : Ends (z ∷ zs) k x = ends (z ∷ zs) k x (omega (arith, long)) found in
      record { front = y ∷ rest.front; is = ap (λ (l : List X). y ∷ l) rest.is; place = ap suc rest.place }

  pub reverse-ends : (xs : List X) (k : ℕ) (x : X) (e : Ends xs k x) → reverse xs ≡ x ∷ reverse e.front
  reverse-ends xs k x e = rw (e.is, reverse-append e.front (x ∷ [])) refl

  pub reverse-set : (xs : List X) (k : ℕ) (x y : X) (e : Ends xs k x) → reverse (set xs k y) ≡ y ∷ reverse e.front
  reverse-set xs k x y e = rw (e.is, ← e.place, set-append_seam e.front x [] y, reverse-append e.front (y ∷ [])) refl

  -- the last item, where there is one
  pub last_place : (xs : List X) (x : X) → slice_get xs (length xs - 1) ≡ Some x → suc (length xs - 1) ≡ length xs
  last_place xs x found = omega (arith, slice_get_within xs (length xs - 1) x found)

  pub no_last : (xs : List X) → slice_get xs (length xs - 1) ≡ None → xs ≡ []
  no_last [] none = refl
  no_last (x ∷ xs) none =
      let found : slice_get (x ∷ xs) (length (x ∷ xs) - 1) ≡ Some (get_or (x ∷ xs) (length (x ∷ xs) - 1) x) = slice_get-get_or (x ∷ xs) (length (x ∷ xs) - 1) x (omega arith) in
      cc
