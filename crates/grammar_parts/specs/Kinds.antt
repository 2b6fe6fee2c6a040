-- Tokens by their kinds. A kind is a number, so that sets of kinds are lists, and whether one set is
-- within another, or apart from it, is computed.
use Rattle.std.specs.Prelude.{cond, ◌==◌, ◌||◌, ◌&&◌, not, ◌≡◌, ℕ, zero, suc, Bool, true, false, List, [], ◌∷◌, length, Option, Some, None, nat_lt}
use Rattle.grammar_parts.specs.Part.{Part, nothing, never, one, then, many}
use Rattle.grammar_parts.specs.Reading.{Reader, done, ◌>>=◌, take_one, take_never, take_many}

abbrev pub has : List ℕ → ℕ → Bool
has [] k = false
has (x ∷ xs) k = (k == x) || has xs k

abbrev pub within : List ℕ → List ℕ → Bool
within [] ys = true
within (x ∷ xs) ys = has ys x && within xs ys

abbrev pub disjoint : List ℕ → List ℕ → Bool
disjoint [] ys = true
disjoint (x ∷ xs) ys = not (has ys x) && disjoint xs ys

-- the kind of the token is in the set
abbrev pub among : {T : Type 0} → (T → ℕ) → List ℕ → T → Bool
among kind set t = has set (kind t)

abbrev pub Among : {T : Type 0} → (T → ℕ) → List ℕ → T → Type 0
Among kind set t = has set (kind t) ≡ true

-- the token itself, where it has this kind
abbrev pub marked : {T : Type 0} → (T → ℕ) → ℕ → T → Option T
marked kind k t = cond (kind t == k) (Some t) None

-- a value that a table has for each of some kinds
abbrev pub kinds_of : {A : Type 0} → List (ℕ × A) → List ℕ
kinds_of [] = []
kinds_of (row ∷ rows) = row.0 ∷ kinds_of rows

abbrev pub found_in : {A : Type 0} → List (ℕ × A) → ℕ → Option A
found_in [] k = None
found_in (row ∷ rows) k = cond (k == row.0) (Some row.1) (found_in rows k)

-- the value and the token, where the table has its kind
abbrev pub with_token : {T A : Type 0} → T → Option A → Option (A × T)
with_token t None = None
with_token t (Some a) = Some (a, t)

abbrev pub picked : {T A : Type 0} → (T → ℕ) → List (ℕ × A) → T → Option (A × T)
picked kind rows t = with_token t (found_in rows (kind t))

-- a token of this kind
abbrev pub mark : {T : Type 0} → (T → ℕ) → ℕ → Part T T
mark kind k = one (marked kind k)

abbrev pub take_mark : {T : Type 0} → (T → ℕ) → ℕ → Reader T T
take_mark kind k = take_one (marked kind k)

abbrev pub is_some : {A : Type 0} → Option A → Bool
is_some None = false
is_some (Some a) = true

-- the test has a value for the token
abbrev pub by : {T A : Type 0} → (T → Option A) → T → Bool
by test t = is_some (test t)

-- ---- limits

-- a token that opens a level, where there is room for one
abbrev pub opening : {T A : Type 0} → ℕ → (T → Option A) → Part T A
opening zero test = never
opening (suc room) test = one test

abbrev pub take_opening : {T A : Type 0} → ℕ → (T → Option A) → Reader T A
take_opening zero test = take_never (by test)
take_opening (suc room) test = take_one test

-- Fewer than the limit are there. There may be no limit.
abbrev pub is_free : Option ℕ → ℕ → Bool
is_free None used = true
is_free (Some limit) used = nat_lt used limit

-- a part only where it is allowed
abbrev pub allowed : {T A : Type 0} → Bool → Part T A → Part T A
allowed b p = cond b p never

abbrev pub take_allowed : {T A : Type 0} → Bool → (T → Bool) → Reader T A → Reader T A
take_allowed b test r = cond b r (take_never test)

-- ---- lists

-- In a list an item may come, or a comma behind an item; the list may end in either state.
abbrev pub is_item : {A : Type 0} → Option A → Bool
is_item None = false
is_item (Some a) = true

abbrev pub items : {A : Type 0} → List (Option A) → List A
items [] = []
items (None ∷ more) = items more
items (Some a ∷ more) = a ∷ items more

abbrev pub entry : {T A : Type 0} → (T → ℕ) → ℕ → Part T A → Bool → Part T (Option A)
entry kind comma item false = then item (λ a. nothing (Some a))
entry kind comma item true = then (mark kind comma) (λ u. nothing None)

abbrev pub entries : {T A : Type 0} → (T → ℕ) → ℕ → Part T A → Bool → Part T (List (Option A))
entries kind comma item = many (entry kind comma item) (λ s a. is_item a)

-- [ item { "," item } [ "," ] ]
abbrev pub any_list : {T A : Type 0} → (T → ℕ) → ℕ → Part T A → Part T (List A)
any_list kind comma item = then (entries kind comma item false) (λ found. nothing (items found))

-- item { "," item } [ "," ]
abbrev pub some_list : {T A : Type 0} → (T → ℕ) → ℕ → Part T A → Part T (List A)
some_list kind comma item = then item (λ a. then (entries kind comma item true) (λ found. nothing (a ∷ items found)))

abbrev pub take_entry : {T A : Type 0} → (T → ℕ) → ℕ → Reader T A → Bool → Reader T (Option A)
take_entry kind comma item false = item >>= (λ a. done (Some a))
take_entry kind comma item true = take_mark kind comma >>= (λ u. done None)

-- the kinds that begin an entry, where those in the set begin an item
abbrev pub entry_kinds : ℕ → List ℕ → Bool → List ℕ
entry_kinds comma set false = set
entry_kinds comma set true = comma ∷ []

abbrev pub take_entries : {T A : Type 0} → (T → ℕ) → ℕ → List ℕ → Reader T A → ℕ → Bool → Reader T (List (Option A))
take_entries kind comma set item n s ts = take_many (λ s. among kind (entry_kinds comma set s)) (take_entry kind comma item) (λ s a. is_item a) n s ts

abbrev pub take_any_list : {T A : Type 0} → (T → ℕ) → ℕ → List ℕ → Reader T A → Reader T (List A)
take_any_list kind comma set item = (λ ts. take_entries kind comma set item (length ts) false ts) >>= (λ found. done (items found))

abbrev pub take_some_list : {T A : Type 0} → (T → ℕ) → ℕ → List ℕ → Reader T A → Reader T (List A)
take_some_list kind comma set item = item >>= (λ a. (λ ts. take_entries kind comma set item (length ts) true ts) >>= (λ found. done (a ∷ items found)))
