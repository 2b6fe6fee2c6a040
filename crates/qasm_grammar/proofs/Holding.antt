-- What holds of each value that a part derives, by the way the part is made.
use Rattle.std.proofs.Common.{◌≡◌, inl, inr, ℕ, zero, suc, ◌<◌, Bool, true, false, cond, List, [], ◌∷◌, Option, Some, None, refl, subst, arith}
use Rattle.grammar_parts.specs.Part.{Part, nothing, never, one, then, either, many, Many, repeated, nothing_kept}
use Rattle.qasm_grammar.specs.Height.{Each}
use Rattle.grammar_parts.specs.Kinds.{opening, is_item, items, entry, entries, any_list, some_list}

pub record Holds {T A : Type 0} (p : Part T A) (P : A → Type 0) : Type 0 where
  pub holds : (ts : List T) (a : A) → p.derives ts a → P a

-- each of these, with the state in front of it
abbrev pub Chain : {S A : Type 0} → (S → A → S) → (S → A → Type 0) → S → List A → Type 0
Chain next Q s [] = Unit {0}
Chain next Q s (a ∷ as') = Q s a × Chain next Q (next s a) as'

-- nothing is said
abbrev pub Any : {A : Type 0} → A → Type 0
Any a = Unit {0}

module _ {T : Type 0} where
  pub holds_any : {A : Type 0} {p : Part T A} → Holds p Any
  holds_any = record { holds = λ ts a d. tt }

  pub holds_nothing : {A : Type 0} {P : A → Type 0} {a : A} → P a → Holds (nothing {T = T} a) P
  holds_nothing {A} {P} h = record { holds = λ ts b d. subst P d.1 h }

  pub holds_never : {A : Type 0} {P : A → Type 0} → Holds (never {T = T}) P
  holds_never = record { holds = λ ts a d. absurd d }

  pub holds_one : {A : Type 0} {test : T → Option A} {P : A → Type 0} → ((t : T) (a : A) → test t ≡ Some a → P a) → Holds (one test) P
  holds_one h = record { holds = λ ts a d. h d.0 a d.2 }

  pub holds_then : {A B : Type 0} {p : Part T A} {q : A → Part T B} {P : A → Type 0} {Q : B → Type 0} → Holds p P → ((a : A) → P a → Holds (q a) Q) → Holds (then p q) Q
  holds_then f g = record { holds = λ ts b (xs, ys, a, e, d, w). (g a (f.holds xs a d)).holds ys b w }

  -- where nothing is asked of the first part
  pub holds_behind : {A B : Type 0} {p : Part T A} {q : A → Part T B} {Q : B → Type 0} → ((a : A) → Holds (q a) Q) → Holds (then p q) Q
  holds_behind g = record { holds = λ ts b (xs, ys, a, e, d, w). (g a).holds ys b w }

  pub holds_either : {A : Type 0} {p q : Part T A} {P : A → Type 0} → Holds p P → Holds q P → Holds (either p q) P
  holds_either {A} {p} {q} {P} f g = record { holds = at }
    where
      at : (ts : List T) (a : A) → (either p q).derives ts a → P a
      at ts a (inl d) = f.holds ts a d
      at ts a (inr d) = g.holds ts a d

  pub holds_cond : {A : Type 0} {p q : Part T A} {P : A → Type 0} (b : Bool) → Holds p P → Holds q P → Holds (cond b p q) P
  holds_cond true f g = f
  holds_cond false f g = g

  -- where the part stands only under a condition
  pub holds_if : {A : Type 0} {p : Part T A} {P : A → Type 0} (b : Bool) → (b ≡ true → Holds p P) → Holds (cond b p never) P
  holds_if true f = f refl
  holds_if false f = holds_never

  pub holds_wider : {A : Type 0} {p : Part T A} {P Q : A → Type 0} → Holds p P → ((a : A) → P a → Q a) → Holds p Q
  holds_wider f g = record { holds = λ ts a d. g a (f.holds ts a d) }

  pub holds_both : {A : Type 0} {p : Part T A} {P Q : A → Type 0} → Holds p P → Holds p Q → Holds p (λ a. P a × Q a)
  holds_both f g = record { holds = λ ts a d. (f.holds ts a d, g.holds ts a d) }

  pub holds_map : {A B : Type 0} {p : Part T A} {P : A → Type 0} {Q : B → Type 0} (f : A → B) → Holds p P → ((a : A) → P a → Q (f a)) → Holds (then p (λ a. nothing (f a))) Q
  holds_map f h g = holds_then h (λ a x. holds_nothing (g a x))

  pub holds_many : {S A : Type 0} {p : S → Part T A} {P : A → Type 0} (next : S → A → S) → ((s : S) → Holds (p s) P) → (s : S) → Holds (many p next s) (Each P)
  holds_many {S} {A} {p} {P} next f s = record { holds = λ ts as' d. at s ts as' d }
    where
      at : (s : S) (ts : List T) (as' : List A) → Many p next s ts as' → Each P as'
      at s ts [] d = tt
      at s ts (a ∷ as') (xs, ys, e, d, w) = ((f s).holds xs a d, at (next s a) ys as' w)

  -- each value stands in a relation to the state in front of it
  pub holds_chain : {S A : Type 0} {p : S → Part T A} (next : S → A → S) (Ready : S → Type 0) (Q : S → A → Type 0) → ((s : S) → Ready s → Holds (p s) (λ a. Q s a × Ready (next s a))) → (s : S) → Ready s → Holds (many p next s) (Chain next Q s)
  holds_chain {S} {A} {p} next Ready Q f s h = record { holds = λ ts as' d. at s h ts as' d }
    where
      at : (s : S) → Ready s → (ts : List T) (as' : List A) → Many p next s ts as' → Chain next Q s as'
      at s h ts [] d = tt
      at s h ts (a ∷ as') (xs, ys, e, d, w) = let g = (f s h).holds xs a d in (g.0, at (next s a) g.1 ys as' w)

  pub holds_repeated : {A : Type 0} {p : Part T A} {P : A → Type 0} → Holds p P → Holds (repeated p) (Each P)
  holds_repeated f = holds_many (λ s a. s) (λ s. f) nothing_kept

  -- a token that opens a level has room for one
  pub holds_opening : {A : Type 0} (room : ℕ) (test : T → Option A) → Holds (opening room test) (λ a. 0 < room)
  holds_opening zero test = holds_never
  holds_opening (suc room) test = record { holds = λ ts a d. omega arith }

  -- ---- lists with commas

  module _ (kind : T → ℕ) (comma : ℕ) {A : Type 0} {p : Part T A} {P : A → Type 0} (f : Holds p P) where
    abbrev IfItem : Option A → Type 0
    IfItem None = Unit {0}
    IfItem (Some a) = P a

    entry_holds : (s : Bool) → Holds (entry kind comma p s) IfItem
    entry_holds false = holds_map (λ a. Some a) f (λ a h. h)
    entry_holds true = holds_behind (λ u. holds_nothing tt)

    items_hold : (os : List (Option A)) → Each IfItem os → Each P (items os)
    items_hold [] h = tt
    items_hold (None ∷ os) h = items_hold os h.1
    items_hold (Some a ∷ os) h = (h.0, items_hold os h.1)

    entries_hold : (s : Bool) → Holds (entries kind comma p s) (Each IfItem)
    entries_hold s = holds_many (λ s a. is_item a) entry_holds s

    pub holds_any_list : Holds (any_list kind comma p) (Each P)
    holds_any_list = holds_map items (entries_hold false) items_hold

    pub holds_some_list : Holds (some_list kind comma p) (Each P)
    holds_some_list = holds_then f (λ a h. holds_map (λ found. a ∷ items found) (entries_hold true) (λ os g. (h, items_hold os g)))
