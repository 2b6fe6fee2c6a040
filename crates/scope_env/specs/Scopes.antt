-- Scopes of names, for any content. A scope is the list of what was declared in it, names with their values, and
-- the newest declaration stands first. Of several scopes the innermost stands first. A name is a number.
--
-- The rules are those of the scopes of OpenQASM 3.0: a name means what the innermost scope that has it declares
-- (https://openqasm.com/versions/3.0/language/scope.html).
use Rattle.std.specs.Prelude.{◌≡◌, ℕ, Bool, false, List, [], ◌∷◌, map, Option, None, Some, nat_eq, is_some, is_none}
use Rattle.std.specs.Map.{lookup}
use Rattle.std.specs.List.{list_all}
use Rattle.std.specs.Option.{option_or, option_map}

module _ {A : Type 0} where
  -- what the innermost scope that has the name declares it to be
  abbrev pub find : ℕ → List (List (ℕ × A)) → Option A
  find name [] = None
  find name (scope ∷ outer) = option_or (lookup (nat_eq name) scope) (find name outer)

  -- whether the innermost scope has the name
  abbrev pub is_declared : ℕ → List (List (ℕ × A)) → Bool
  is_declared name [] = false
  is_declared name (scope ∷ outer) = is_some (lookup (nat_eq name) scope)

  -- the scopes after a declaration, which stands in the innermost
  abbrev pub declare : ℕ → A → List (List (ℕ × A)) → List (List (ℕ × A))
  declare name value [] = ((name, value) ∷ []) ∷ []
  declare name value (scope ∷ outer) = ((name, value) ∷ scope) ∷ outer

  -- the scopes after one more is opened, with no name in it
  abbrev pub opened : List (List (ℕ × A)) → List (List (ℕ × A))
  opened scopes = [] ∷ scopes

  -- the scopes after the innermost is closed, with all its names
  abbrev pub close : List (List (ℕ × A)) → List (List (ℕ × A))
  close [] = []
  close (scope ∷ outer) = outer

-- the same scopes and names, with f of each value
abbrev pub map_values : {A B : Type 0} → (A → B) → List (List (ℕ × A)) → List (List (ℕ × B))
map_values {A} {B} f scopes = map {A = List (ℕ × A)} {B = List (ℕ × B)} (λ scope. map {A = ℕ × A} {B = ℕ × B} (λ e. (e.0, f e.1)) scope) scopes

-- what a name means after a declaration: that name the new value, and each other name what it meant
abbrev pub DeclarationsAreFound : Type 0 → Type 0
DeclarationsAreFound A = (name other : ℕ) (value : A) (scopes : List (List (ℕ × A))) →
    (find name (declare name value scopes) ≡ Some value) × (nat_eq other name ≡ false → find other (declare name value scopes) ≡ find other scopes)

-- a name means nothing exactly where no scope has it
abbrev pub UnknownNamesAreNowhere : Type 0 → Type 0
UnknownNamesAreNowhere A = (name : ℕ) (scopes : List (List (ℕ × A))) →
    is_none (find name scopes) ≡ list_all (λ scope. is_none (lookup (nat_eq name) scope)) scopes

-- opening a scope changes what no name means, and closing it leaves the scopes that stood, whatever was declared in it
abbrev pub ScopesAreRestored : Type 0 → Type 0
ScopesAreRestored A = (name : ℕ) (value : A) (scopes : List (List (ℕ × A))) →
    (find name (opened scopes) ≡ find name scopes) × (close (opened scopes) ≡ scopes) × (close (declare name value (opened scopes)) ≡ scopes)

-- where a function is applied to all values, a name means that function of what it meant
abbrev pub ValuesAreMapped : Type 0 → Type 0 → Type 0
ValuesAreMapped A B = (f : A → B) (name : ℕ) (scopes : List (List (ℕ × A))) →
    find name (map_values f scopes) ≡ option_map f (find name scopes)
