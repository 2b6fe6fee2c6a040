-- In a module in which each register is assigned once, a register has one type.
use Rattle.std.proofs.Common.{◌≡◌, ◌⊎◌, inl, inr, ℕ, zero, suc, ◌<◌, ◌≤◌, Bool, true, false, not, ◌||◌, nat_eq, nat_lt, if◌then◌else◌, List, [], ◌∷◌, ◌++◌, length, take, slice_get, Some, refl, sym, ap, ◌∙◌, arith}
use Rattle.std.specs.List.{list_any, list_all, flat_map}
use Rattle.std.proofs.lemmas.Bool.{eqb-true, ltb-true, ltb-false}
use Rattle.qir_module.specs.declared.block.Block.{Block}
use Rattle.qir_module.specs.Module.{Module}
use Rattle.qir_module.specs.Numbered.{registers_of, is_among}
use Rattle.qir_module.specs.Spots.{Item, ThePhi, TheInstr, TheLast, items_in}
use Rattle.qir_module.specs.Passes.{Passes, item_registers, registers_assigned, block_assigned, assigned_earlier, assigned_once_kept, gives_truth, assigned_with, assigned_as}
use Rattle.qir_machine.proofs.SpotFacts.{and_left, and_right, spot_at, kept_at}

-- ---- lists in which a number stands

pub or_cases : (a b : Bool) → (a || b) ≡ true → (a ≡ true) ⊎ (b ≡ true)
or_cases true b is = inl refl
or_cases false b is = inr is

pub or_left : (a b : Bool) → a ≡ true → (a || b) ≡ true
or_left true b is = refl
or_left false b is = absurd (let wrong : false ≡ true = is in cc)

pub or_right : (a b : Bool) → b ≡ true → (a || b) ≡ true
or_right true b is = refl
or_right false b is = is

pub any_left : {A : Type 0} (p : A → Bool) (xs ys : List A) → list_any p xs ≡ true → list_any p (xs ++ ys) ≡ true
any_left p [] ys is = absurd (let wrong : false ≡ true = is in cc)
any_left p (x ∷ xs) ys is = elim (or_cases (p x) (list_any p xs) is) [ inl a ↦ or_left (p x) (list_any p (xs ++ ys)) a | inr a ↦ or_right (p x) (list_any p (xs ++ ys)) (any_left p xs ys a) ]

pub any_right : {A : Type 0} (p : A → Bool) (xs ys : List A) → list_any p ys ≡ true → list_any p (xs ++ ys) ≡ true
any_right p [] ys is = is
any_right p (x ∷ xs) ys is = or_right (p x) (list_any p (xs ++ ys)) (any_right p xs ys is)

pub any_cases : {A : Type 0} (p : A → Bool) (xs ys : List A) → list_any p (xs ++ ys) ≡ true → (list_any p xs ≡ true) ⊎ (list_any p ys ≡ true)
any_cases p [] ys is = inr is
any_cases p (x ∷ xs) ys is = elim (or_cases (p x) (list_any p (xs ++ ys)) is) [
  | inl a ↦ inl (or_left (p x) (list_any p xs) a)
  | inr a ↦ elim (any_cases p xs ys a) [ inl b ↦ inl (or_right (p x) (list_any p xs) b) | inr b ↦ inr b ]
]

-- an item of a list of items, with those in front of it and behind it
pub record IsIn {A : Type 0} (xs : List A) (P : A → Type 0) : Type 0 where
  pub front : List A
  pub here : A
  pub back : List A
  pub items : xs ≡ front ++ here ∷ back
  pub holds : P here

pub in_flat : {A B : Type 0} (p : B → Bool) (f : A → List B) (xs : List A) → list_any p (flat_map f xs) ≡ true → IsIn xs (λ x. list_any p (f x) ≡ true)
in_flat p f [] is = absurd (let wrong : false ≡ true = is in cc)
in_flat p f (x ∷ xs) is = elim (any_cases p (f x) (flat_map f xs) is) [
  | inl a ↦ record { front = []; here = x; back = xs; items = refl; holds = a }
  | inr a ↦ let later = in_flat p f xs a in
      record { front = x ∷ later.front; here = later.here; back = later.back; items = ap (λ ys. x ∷ ys) later.items; holds = later.holds }
]

pub flat_front : {A B : Type 0} (p : B → Bool) (f : A → List B) (front : List A) (here : A) (back : List A) → list_any p (f here) ≡ true → list_any p (flat_map f (front ++ here ∷ back)) ≡ true
flat_front p f [] here back is = any_left p (f here) (flat_map f back) is
flat_front p f (x ∷ front) here back is = any_right p (f x) (flat_map f (front ++ here ∷ back)) (flat_front p f front here back is)

-- ---- two assignments

cut_at : {A : Type 0} (front : List A) (here : A) (back : List A) → slice_get (front ++ here ∷ back) (length front) ≡ Some here
cut_at [] here back = refl
cut_at (x ∷ front) here back = cut_at front here back

any_at : {A : Type 0} (p : A → Bool) (xs : List A) (i n : ℕ) (x : A) → slice_get xs i ≡ Some x → i < n → p x ≡ true → list_any p (take n xs) ≡ true
any_at p [] i n x is few holds = absurd (cc)
any_at p (y ∷ ys) i zero x is few holds = absurd (omega arith)
any_at p (y ∷ ys) zero (suc n) x is few holds = let same : x ≡ y = cc in or_left (p y) (list_any p (take n ys)) (ap p (sym same) ∙ holds)
any_at p (y ∷ ys) (suc i) (suc n) x is few holds = or_right (p y) (list_any p (take n ys)) (any_at p ys i n x is (omega arith) holds)

flat_at : {A B : Type 0} (p : B → Bool) (f : A → List B) (xs : List A) (i n : ℕ) (x : A) → slice_get xs i ≡ Some x → i < n → list_any p (f x) ≡ true → list_any p (flat_map f (take n xs)) ≡ true
flat_at p f [] i n x is few holds = absurd (cc)
flat_at p f (y ∷ ys) i zero x is few holds = absurd (omega arith)
flat_at p f (y ∷ ys) zero (suc n) x is few holds =
    let same : x ≡ y = cc in any_left p (f y) (flat_map f (take n ys)) (ap (λ z. list_any p (f z)) (sym same) ∙ holds)
flat_at p f (y ∷ ys) (suc i) (suc n) x is few holds = any_right p (f y) (flat_map f (take n ys)) (flat_at p f ys i n x is (omega arith) holds)

-- of two places in a list one stands in front, or they are one
data Order {A : Type 0} (f : List A) (h : A) (g : List A) (k : A) : Type 0 where
  Before : (rest : List A) → g ≡ f ++ h ∷ rest → Order f h g k
  Same : h ≡ k → f ≡ g → Order f h g k
  Behind : (rest : List A) → f ≡ g ++ k ∷ rest → Order f h g k

deeper : {A : Type 0} (x y : A) (f g : List A) (h k : A) → x ≡ y → Order f h g k → Order (x ∷ f) h (y ∷ g) k
deeper x y f g h k same (Before rest is) = Before rest (ap (λ z. z ∷ g) (sym same) ∙ ap (λ l. x ∷ l) is)
deeper x y f g h k same (Same one fronts) = Same one (ap (λ z. z ∷ f) same ∙ ap (λ l. y ∷ l) fronts)
deeper x y f g h k same (Behind rest is) = Behind rest (ap (λ z. z ∷ f) same ∙ ap (λ l. y ∷ l) is)

order : {A : Type 0} (f : List A) (h : A) (b g : List A) (k : A) (c : List A) → f ++ h ∷ b ≡ g ++ k ∷ c → Order f h g k
order [] h b [] k c is = Same (cc) refl
order [] h b (y ∷ g) k c is = let head : h ≡ y = cc in Before g (ap (λ z. z ∷ g) (sym head))
order (x ∷ f) h b [] k c is = let head : x ≡ k = cc in Behind f (ap (λ z. z ∷ f) head)
order (x ∷ f) h b (y ∷ g) k c is = deeper x y f g h k (cc) (order f h b g k c (cc))

-- ---- registers of items

pub kept_register : (q : ℕ → Bool) (xs : List ℕ) (r : ℕ) → list_all q xs ≡ true → is_among xs r ≡ true → q r ≡ true
kept_register q [] r all is = absurd (let wrong : false ≡ true = is in cc)
kept_register q (x ∷ xs) r all is = elim (or_cases (nat_eq r x) (is_among xs r) is) [
  | inl a ↦ let same : r ≡ x = eqb-true r x a in ap q same ∙ and_left (q x) (list_all q xs) all
  | inr a ↦ kept_register q xs r (and_right (q x) (list_all q xs) all) a
]

typed_list : (flag truth : Bool) (xs : List ℕ) (r : ℕ) → is_among (if flag then (if truth then xs else []) else (if truth then [] else xs)) r ≡ true → is_among xs r ≡ true
typed_list true true xs r is = is
typed_list true false xs r is = absurd (let wrong : false ≡ true = is in cc)
typed_list false true xs r is = absurd (let wrong : false ≡ true = is in cc)
typed_list false false xs r is = is

one_type : (flag : Bool) (xs : List ℕ) (r : ℕ) → is_among (if flag then xs else []) r ≡ true → is_among (if flag then [] else xs) r ≡ true → ⊥
one_type true xs r a b = let wrong : false ≡ true = b in cc
one_type false xs r a b = let wrong : false ≡ true = a in cc

phi_list : (number truth : Bool) (xs : List ℕ) (r : ℕ) → is_among (if number then (if truth then [] else xs) else (if truth then xs else [])) r ≡ true → is_among xs r ≡ true
phi_list true true xs r is = absurd (let wrong : false ≡ true = is in cc)
phi_list true false xs r is = is
phi_list false true xs r is = is
phi_list false false xs r is = absurd (let wrong : false ≡ true = is in cc)

pub with_registers : (truth : Bool) (item : Item) (r : ℕ) → is_among (assigned_with truth item) r ≡ true → is_among (item_registers item) r ≡ true
with_registers truth (ThePhi phi) r is = phi_list phi.number truth (phi.register ∷ []) r is
with_registers truth (TheInstr instr) r is = typed_list (gives_truth instr) truth (registers_of instr) r is
with_registers truth (TheLast last) r is = absurd (let wrong : false ≡ true = is in cc)

phi_type : (number : Bool) (xs : List ℕ) (r : ℕ) → is_among (if number then [] else xs) r ≡ true → is_among (if number then xs else []) r ≡ true → ⊥
phi_type true xs r a b = let wrong : false ≡ true = a in cc
phi_type false xs r a b = let wrong : false ≡ true = b in cc

item_type : (item : Item) (r : ℕ) → is_among (assigned_with true item) r ≡ true → is_among (assigned_with false item) r ≡ true → ⊥
item_type (ThePhi phi) r a b = phi_type phi.number (phi.register ∷ []) r a b
item_type (TheInstr instr) r a b = one_type (gives_truth instr) (registers_of instr) r a b
item_type (TheLast last) r a b = let wrong : false ≡ true = a in cc

-- ---- where a register is assigned

record Place (m : Module) (truth : Bool) (r : ℕ) : Type 0 where
  k : ℕ
  b : Block
  found : slice_get m.blocks k ≡ Some b
  at : IsIn (items_in b) (λ item. is_among (assigned_with truth item) r ≡ true)

place_of_type : (m : Module) (truth : Bool) (r : ℕ) → assigned_as m truth r ≡ true → Place m truth r
place_of_type m truth r is =
    let block = in_flat (nat_eq r) (λ (b : Block). flat_map (assigned_with truth) (items_in b)) m.blocks is in
    record {
      k = length block.front;
      b = block.here;
      found = ap (λ (bs : List Block). slice_get bs (length block.front)) block.items ∙ cut_at block.front block.here block.back;
      at = in_flat (nat_eq r) (assigned_with truth) (items_in block.here) block.holds;
    }

-- none of the registers of an item is assigned in front of it
apart : (m : Module) (k : ℕ) (b : Block) (front : List Item) (here : Item) (back : List Item) (r : ℕ) → Passes m → slice_get m.blocks k ≡ Some b → items_in b ≡ front ++ here ∷ back
    → is_among (item_registers here) r ≡ true → is_among (assigned_earlier m (spot_at k b front here)) r ≡ true → ⊥
apart m k b front here back r passes found items now earlier =
    let kept = kept_at m assigned_once_kept k b front here back passes.assigned_once found items in
    let not_earlier = kept_register (λ x. not (is_among (assigned_earlier m (spot_at k b front here)) x)) (item_registers here) r kept now in
    let wrong : not true ≡ true = ap not (sym earlier) ∙ not_earlier in
    cc

pub one_type_each : (m : Module) (r : ℕ) → Passes m → assigned_as m true r ≡ true → assigned_as m false r ≡ true → ⊥
one_type_each m r passes as_truth as_word = by_block (place_of_type m true r as_truth) (place_of_type m false r as_word)
  where
    -- the first stands in an earlier block
    earlier_block : (truth other : Bool) (p : Place m truth r) (q : Place m other r) → p.k < q.k → ⊥
    earlier_block truth other p q before =
        let named = with_registers truth p.at.here r p.at.holds in
        let in_block : is_among (block_assigned p.b) r ≡ true = ap (λ (is : List Item). is_among (registers_assigned is) r) p.at.items ∙ flat_front (nat_eq r) item_registers p.at.front p.at.here p.at.back named in
        apart m q.k q.b q.at.front q.at.here q.at.back r passes q.found q.at.items (with_registers other q.at.here r q.at.holds)
        (any_left (nat_eq r) (flat_map block_assigned (take q.k m.blocks)) (registers_assigned q.at.front) (flat_at (nat_eq r) block_assigned m.blocks p.k q.k p.b p.found before in_block))

    -- the first stands in front in the same block
    earlier_item : (truth other : Bool) (p : Place m truth r) (q : Place m other r) (rest : List Item) → q.at.front ≡ p.at.front ++ p.at.here ∷ rest → ⊥
    earlier_item truth other p q rest fronts =
        let named = with_registers truth p.at.here r p.at.holds in
        apart m q.k q.b q.at.front q.at.here q.at.back r passes q.found q.at.items (with_registers other q.at.here r q.at.holds)
        (any_right (nat_eq r) (flat_map block_assigned (take q.k m.blocks)) (registers_assigned q.at.front)
        (ap (λ (is : List Item). is_among (registers_assigned is) r) fronts ∙ flat_front (nat_eq r) item_registers p.at.front p.at.here rest named))

    by_item : (p : Place m true r) (q : Place m false r) → Order p.at.front p.at.here q.at.front q.at.here → ⊥
    by_item p q (Before rest is) = earlier_item true false p q rest is
    by_item p q (Same one fronts) = item_type q.at.here r (ap (λ (i : Item). is_among (assigned_with true i) r) (sym one) ∙ p.at.holds) q.at.holds
    by_item p q (Behind rest is) = earlier_item false true q p rest is

    by_block : Place m true r → Place m false r → ⊥
    by_block p q = by_order p q (nat_lt p.k q.k) refl (nat_lt q.k p.k) refl
      where
        by_order : (p : Place m true r) (q : Place m false r) (a : Bool) → nat_lt p.k q.k ≡ a → (b : Bool) → nat_lt q.k p.k ≡ b → ⊥
        by_order p q true before b other = earlier_block true false p q (ltb-true p.k q.k before)
        by_order p q false before true other = earlier_block false true q p (ltb-true q.k p.k other)
        by_order p q false before false other =
            let first : q.k ≤ p.k = ltb-false p.k q.k before in
            let second : p.k ≤ q.k = ltb-false q.k p.k other in
            let same : p.k ≡ q.k = omega arith in
            let found = ap (slice_get m.blocks) (sym same) ∙ p.found in
            let one : p.b ≡ q.b = (let there = q.found in cc) in
            by_item p q (order p.at.front p.at.here p.at.back q.at.front q.at.here q.at.back (sym p.at.items ∙ ap items_in one ∙ q.at.items))
