-- What is known of a part that can be read from the left, looking at one token ahead.
use Rattle.std.specs.Prelude.{◌≡◌, List, [], ◌∷◌, ◌++◌}
use Rattle.grammar_parts.specs.Part.{Part}
use Rattle.grammar_parts.specs.Reading.{Outcome, Takes}

-- F holds of each token that begins the part, and M of each that goes on behind a whole one.
pub record Fine {T A : Type 0} (p : Part T A) (F : T → Type 0) (M : A → T → Type 0) : Type 0 where
  pub starts : p.begins []
  pub fronts : (xs ys : List T) → p.begins (xs ++ ys) → p.begins xs
  pub whole : (xs : List T) (a : A) → p.derives xs a → p.begins xs
  pub single : (xs : List T) (a b : A) → p.derives xs a → p.derives xs b → a ≡ b
  pub first : (t : T) (ts : List T) → p.begins (t ∷ ts) → F t
  pub more : (xs : List T) (a : A) (t : T) → p.derives xs a → p.begins (xs ++ t ∷ []) → M a t

-- the limited part is within the wide one
pub record Below {T A : Type 0} (p q : Part T A) : Type 0 where
  pub derived : (ts : List T) (a : A) → p.derives ts a → q.derives ts a
  pub begun : (ts : List T) → p.begins ts → q.begins ts

-- Under the condition C the reader r reads the part p exactly, where q is p without limits; F begins
-- them, and M goes on behind a whole one.
pub record Follows {T A : Type 0} (C : Type 0) (p q : Part T A) (r : List T → Outcome T A) (F : T → Type 0) (M : A → T → Type 0) : Type 0 where
  pub fine : Fine p F M
  pub wide : Fine q F M
  pub below : Below p q
  pub takes : C → (ts : List T) → Takes p q ts (r ts)

-- the empty list is no whole part
pub record Filled {T A : Type 0} (q : Part T A) : Type 0 where
  pub never_empty : (a : A) → q.derives [] a → ⊥
