-- The parts of variables, and what brackets select of parts.
use Rattle.std.proofs.Common.{◌≡◌, ℕ, zero, suc, ◌+◌, ◌<◌, List, [], ◌∷◌, length, map, take, drop, get_or, Option, Some, None, refl, sym, ap, ◌∙◌, arith, slice_get}
use Rattle.std.specs.List.{range_with_len, cons_option}
use Rattle.std.proofs.Math.Seq.{drop-cons}
use Rattle.alias_resolve.specs.Places.{items_at}

-- ---- cells one after another

module _ {A : Type 0} (d : A) where
  first_is : (x y : A) (xs ys : List A) → x ∷ xs ≡ y ∷ ys → x ≡ y
  first_is x y xs ys e = cc

  rest_is : (x y : A) (xs ys : List A) → x ∷ xs ≡ y ∷ ys → xs ≡ ys
  rest_is x y xs ys e = cc

  none_left : (cells : List A) (n : ℕ) (x : A) (front : List A) → take (suc n) cells ≡ x ∷ front → 0 < length cells
  none_left [] n x front e = absurd cc
  none_left (c ∷ cells) n x front e = omega arith

  short_drop : (cells : List A) (k : ℕ) → 0 < length (drop k cells) → k < length cells
  short_drop cells zero h = omega arith
  short_drop [] (suc k) h = absurd (omega arith)
  short_drop (c ∷ cells) (suc k) h = let more = short_drop cells k h in omega arith

  pub read_range : (cells : List A) (first n : ℕ) (front : List A) → take n (drop first cells) ≡ front → length front ≡ n → map (λ (k : ℕ). get_or cells k d) (range_with_len first n) ≡ front
  read_range cells first zero [] e l = refl
  read_range cells first zero (x ∷ front) e l = absurd cc
  read_range cells first (suc n) [] e l = absurd cc
  read_range cells first (suc n) (x ∷ front) e l =
      let inside = short_drop cells first (none_left (drop first cells) n x front e) in
      let open_up : drop first cells ≡ get_or cells first d ∷ drop (suc first) cells = drop-cons cells first d inside in
      let both : get_or cells first d ∷ take n (drop (suc first) cells) ≡ x ∷ front = ap (take (suc n)) (sym open_up) ∙ e in
      let here = first_is (get_or cells first d) x (take n (drop (suc first) cells)) front both in
      let later = rest_is (get_or cells first d) x (take n (drop (suc first) cells)) front both in
      let count : length front ≡ n = omega arith in
      let next : suc first ≡ first + 1 = omega arith in
      let moved : take n (drop (first + 1) cells) ≡ front = ap (λ k. take n (drop k cells)) (sym next) ∙ later in
      λ i. here i ∷ read_range cells (first + 1) n front moved count i

-- ---- items at places

module _ {A B : Type 0} (f : A → B) where
  abbrev mapped : Option A → Option B
  mapped None = None
  mapped (Some a) = Some (f a)

  get_mapped : (items : List A) (k : ℕ) → slice_get (map f items) k ≡ mapped (slice_get items k)
  get_mapped [] k = refl
  get_mapped (x ∷ items) zero = refl
  get_mapped (x ∷ items) (suc k) = get_mapped items k

  cons_mapped : (o : Option A) (later : List A) → cons_option (mapped o) (map f later) ≡ map f (cons_option o later)
  cons_mapped None later = refl
  cons_mapped (Some a) later = refl

  -- what is selected of mapped items is what is selected of the items, mapped
  pub items_mapped : (items : List A) (places : List ℕ) → items_at (map f items) places ≡ map f (items_at items places)
  items_mapped items [] = refl
  items_mapped items (k ∷ places) =
      (λ i. cons_option (get_mapped items k i) (items_mapped items places i)) ∙ cons_mapped (slice_get items k) (items_at items places)
