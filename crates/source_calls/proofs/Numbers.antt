-- The number of a name tells what stood when it was declared.
use Rattle.std.proofs.Common.{◌≡◌, ℕ, suc, ◌<◌, ◌≤◌, Bool, true, false, List, Some, nat_eq, refl, ◌∙◌, cond, arith}
use Rattle.scope_env.specs.OpenScopes.{OpenScopes, Outside, Opened, Sealed, Named, is_same, find, since}
use Rattle.const_eval.specs.Things.{Known, Gate, DefinedGate}
use Rattle.source_calls.specs.Calls.{names_in, names_before, since_number, newest_definition, definition_of}

-- a number is itself, and no greater one
itself : (n : ℕ) → nat_eq n n ≡ true
itself n = grind arith

greater : (m n : ℕ) → n < m → nat_eq m n ≡ false
greater m n h = grind arith

module _ {A : Type 0} where
  -- what stood before is no more than all
  since_few : (x : List ℕ) (scopes : OpenScopes A) → names_in (since x scopes) ≤ names_in scopes
  since_few x Outside = omega arith
  since_few x (Opened outer) = since_few x outer
  since_few x (Sealed seen callers) = since_few x seen
  since_few x (Named y a rest) = by (is_same x y) (since_few x rest)
    where
      by : (same : Bool) → names_in (since x rest) ≤ names_in rest → names_in (cond same (Named y a rest) (since x rest)) ≤ suc (names_in rest)
      by true h = omega arith
      by false h = omega arith

  -- a name that stands for something has fewer before it than there are
  before_fewer : (x : List ℕ) (a : A) (scopes : OpenScopes A) → find x scopes ≡ Some a → names_before (since x scopes) < names_in (since x scopes)
  before_fewer x a Outside e = cc
  before_fewer x a (Opened outer) e = before_fewer x a outer e
  before_fewer x a (Sealed seen callers) e = before_fewer x a seen e
  before_fewer x a (Named y b rest) e = by (is_same x y) e (before_fewer x a rest)
    where
      by : (same : Bool) → cond same (Some b) (find x rest) ≡ Some a → (find x rest ≡ Some a → names_before (since x rest) < names_in (since x rest))
          → names_before (cond same (Named y b rest) (since x rest)) < names_in (cond same (Named y b rest) (since x rest))
      by true h go = omega arith
      by false h go = go h

  -- A number of what stood when a name was declared tells the same there and in all the scopes.
  pub since_number-since : (x : List ℕ) (n : ℕ) (scopes : OpenScopes A) → n < names_in (since x scopes) → since_number n scopes ≡ since_number n (since x scopes)
  since_number-since x n Outside h = refl
  since_number-since x n (Opened outer) h = since_number-since x n outer h
  since_number-since x n (Sealed seen callers) h = since_number-since x n seen h
  since_number-since x n (Named y a rest) h = by (is_same x y) h (since_few x rest) (since_number-since x n rest)
    where
      by : (same : Bool) → n < names_in (cond same (Named y a rest) (since x rest)) → names_in (since x rest) ≤ names_in rest
          → (n < names_in (since x rest) → since_number n rest ≡ since_number n (since x rest))
          → since_number n (Named y a rest) ≡ since_number n (cond same (Named y a rest) (since x rest))
      by true h few go = refl
      by false h few go = rw (greater (names_in rest) n (omega arith)) (go h)

  -- the newest name's number tells the scopes in which it is the newest
  newest : (x : List ℕ) (a : A) (scopes : OpenScopes A) → find x scopes ≡ Some a → since_number (names_before (since x scopes)) (since x scopes) ≡ since x scopes
  newest x a Outside e = cc
  newest x a (Opened outer) e = newest x a outer e
  newest x a (Sealed seen callers) e = newest x a seen e
  newest x a (Named y b rest) e = by (is_same x y) e (newest x a rest)
    where
      by : (same : Bool) → cond same (Some b) (find x rest) ≡ Some a → (find x rest ≡ Some a → since_number (names_before (since x rest)) (since x rest) ≡ since x rest)
          → since_number (names_before (cond same (Named y b rest) (since x rest))) (cond same (Named y b rest) (since x rest)) ≡ cond same (Named y b rest) (since x rest)
      by true h go = rw (itself (names_in rest)) refl
      by false h go = go h

  pub number_tells : (x : List ℕ) (a : A) (scopes : OpenScopes A) → find x scopes ≡ Some a → since_number (names_before (since x scopes)) scopes ≡ since x scopes
  number_tells x a scopes e = since_number-since x (names_before (since x scopes)) scopes (before_fewer x a scopes e) ∙ newest x a scopes e

  -- and that of a name in a body
  pub inner_number_tells : (x text : List ℕ) (a : A) (scopes : OpenScopes A) → find text (since x scopes) ≡ Some a → since_number (names_before (since text (since x scopes))) scopes ≡ since text (since x scopes)
  inner_number_tells x text a scopes e =
      let fewer = before_fewer text a (since x scopes) e in
      let few = since_few text (since x scopes) in
      since_number-since x (names_before (since text (since x scopes))) scopes (omega arith) ∙ number_tells text a (since x scopes) e

-- the newest name is the one that is found
pub newest_found : (x : List ℕ) (g : Gate) (scopes : OpenScopes Known) → find x scopes ≡ Some (DefinedGate g) → (y : List ℕ) × (is_same x y ≡ true) × (newest_definition (since x scopes) ≡ definition_of y g)
newest_found x g Outside e = absurd cc
newest_found x g (Opened outer) e = newest_found x g outer e
newest_found x g (Sealed seen callers) e = newest_found x g seen e
newest_found x g (Named y thing rest) e = by (is_same x y) refl e (newest_found x g rest)
  where
    by : (same : Bool) → is_same x y ≡ same → cond same (Some thing) (find x rest) ≡ Some (DefinedGate g)
        → (find x rest ≡ Some (DefinedGate g) → (z : List ℕ) × (is_same x z ≡ true) × (newest_definition (since x rest) ≡ definition_of z g))
        → (z : List ℕ) × (is_same x z ≡ true) × (newest_definition (cond same (Named y thing rest) (since x rest)) ≡ definition_of z g)
    by true s h go = let is : thing ≡ DefinedGate g = cc in (y, s, rw is refl)
    by false s h go = go h
