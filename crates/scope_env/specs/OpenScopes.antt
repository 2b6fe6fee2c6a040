-- The scopes that are open at a place of a program, as the definitions over source trees have them, for any content, the
-- newest name first. A name is a text here, and means what the innermost scope that has it declares
-- (https://openqasm.com/versions/3.0/language/scope.html).
--
-- The scope of a called body is sealed: from within it only what its definition sees is seen, and the scopes of the callers
-- lie below, out of sight. So the open scopes of a program and of all that called are one value.
--
-- `Scopes.antt` has what a contract sees of the code's type `Scopes`: a list of scopes whose names are numbers. Where nothing is
-- sealed the two say the same in two ways: what stands here between one `Opened` and the next is one scope of the list there, and
-- `find` and `close` mean the same of both.
use Rattle.std.specs.Prelude.{◌≡◌, ℕ, ◌+◌, nat_eq, Bool, true, false, if◌then◌else◌, List, Option, Some, None}
use Rattle.std.specs.Cmp.Lexicographic.{pointwise}
use Rattle.std.specs.Option.{option_map}

pub data OpenScopes (A : Type 0) : Type 0 where
  Outside : OpenScopes A
  -- a scope that is opened inside the others
  Opened : (outer : OpenScopes A) → OpenScopes A
  -- the scope of a called body: what its definition sees, and the scopes of the callers
  Sealed : (seen : OpenScopes A) (callers : OpenScopes A) → OpenScopes A
  -- a name that is declared in the innermost scope
  Named : (name : List ℕ) (a : A) (rest : OpenScopes A) → OpenScopes A

abbrev pub is_same : List ℕ → List ℕ → Bool
is_same = pointwise nat_eq

-- what a name stands for
abbrev pub find : {A : Type 0} → List ℕ → OpenScopes A → Option A
find x Outside = None
find x (Opened outer) = find x outer
find x (Sealed seen callers) = find x seen
find x (Named y a rest) = if is_same x y then Some a else find x rest

-- whether the innermost scope has the name
abbrev pub is_here : {A : Type 0} → List ℕ → OpenScopes A → Bool
is_here x Outside = false
is_here x (Opened outer) = false
is_here x (Sealed seen callers) = false
is_here x (Named y a rest) = if is_same x y then true else is_here x rest

-- the name stands for another thing; one that is not seen stays as it is
abbrev pub assign : {A : Type 0} → List ℕ → A → OpenScopes A → OpenScopes A
assign x a Outside = Outside
assign x a (Opened outer) = Opened (assign x a outer)
assign x a (Sealed seen callers) = Sealed seen callers
assign x a (Named y b rest) = if is_same x y then Named y a rest else Named y b (assign x a rest)

-- without the innermost scope
abbrev pub close : {A : Type 0} → OpenScopes A → OpenScopes A
close Outside = Outside
close (Opened outer) = outer
close (Sealed seen callers) = callers
close (Named x a rest) = close rest

-- what stood when a name was declared, the name included
abbrev pub since : {A : Type 0} → List ℕ → OpenScopes A → OpenScopes A
since x Outside = Outside
since x (Opened outer) = since x outer
since x (Sealed seen callers) = since x seen
since x (Named y a rest) = if is_same x y then Named y a rest else since x rest

-- the names that stand for something of a kind, and no others
abbrev pub only_of : {A : Type 0} → (A → Bool) → OpenScopes A → OpenScopes A
only_of kind Outside = Outside
only_of kind (Opened outer) = Opened (only_of kind outer)
only_of kind (Sealed seen callers) = Sealed (only_of kind seen) (only_of kind callers)
only_of kind (Named x a rest) = if kind a then Named x a (only_of kind rest) else only_of kind rest

-- the sum of a number over all open scopes, those of the callers included
abbrev pub total : {A : Type 0} → (A → ℕ) → OpenScopes A → ℕ
total size Outside = 0
total size (Opened outer) = total size outer
total size (Sealed seen callers) = total size callers
total size (Named x a rest) = size a + total size rest

-- the same scopes and names, with f of each thing
abbrev pub map_scopes : {A B : Type 0} → (A → B) → OpenScopes A → OpenScopes B
map_scopes f Outside = Outside
map_scopes f (Opened outer) = Opened (map_scopes f outer)
map_scopes f (Sealed seen callers) = Sealed (map_scopes f seen) (map_scopes f callers)
map_scopes f (Named x a rest) = Named x (f a) (map_scopes f rest)

-- ---- laws

-- a declared name is found, and each other name means what it meant
abbrev pub NewNamesAreFound : Type 0 → Type 0
NewNamesAreFound A = (x y : List ℕ) (a : A) (scopes : OpenScopes A) →
    (find x (Named x a scopes) ≡ Some a) × (is_same x y ≡ false → find x (Named y a scopes) ≡ find x scopes)

-- no other name means another thing when one is assigned
abbrev pub OtherNamesAreKept : Type 0 → Type 0
OtherNamesAreKept A = (x y : List ℕ) (a : A) (scopes : OpenScopes A) → is_same x y ≡ false → find x (assign y a scopes) ≡ find x scopes

-- Opening a scope hides no name, and what was declared since is gone when it is closed; what a called body declares is gone when the
-- body is left.
abbrev pub BodiesAreLeft : Type 0 → Type 0
BodiesAreLeft A = (x : List ℕ) (a : A) (seen scopes : OpenScopes A) →
    (find x (Opened scopes) ≡ find x scopes) × (close (Named x a (Opened scopes)) ≡ scopes) × (close (Named x a (Sealed seen scopes)) ≡ scopes)

-- where a function is applied to all things, a name stands for that function of what it stood for
abbrev pub ThingsAreMapped : Type 0 → Type 0 → Type 0
ThingsAreMapped A B = (f : A → B) (x : List ℕ) (scopes : OpenScopes A) →
    (find x (map_scopes f scopes) ≡ option_map f (find x scopes)) × (close (map_scopes f scopes) ≡ map_scopes f (close scopes))
