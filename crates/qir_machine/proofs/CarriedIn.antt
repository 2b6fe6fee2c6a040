-- What is carried into a block is there when it is entered.
use Rattle.std.proofs.Common.{◌≡◌, ◌⊎◌, inl, inr, ℕ, zero, suc, ◌+◌, ◌<◌, ◌≤◌, Bool, true, false, ◌&&◌, ◌||◌, nat_eq, if◌then◌else◌, List, [], ◌∷◌, ◌++◌, map, filter, slice_get, Option, Some, None, refl, sym, ap, ◌∙◌, arith}
use Rattle.std.proofs.lemmas.Bool.{eqb-true, eq-eqb}
use Rattle.std.specs.List.{list_any, list_all, flat_map}
use Rattle.qir_module.specs.declared.block.Block.{Block}
use Rattle.qir_module.specs.Carried.{is_way, earlier, Thing, TheRegister, TheResult, same_thing, assigned_by, are_assigning, block_assigns, assigns, is_empty, carried_within, is_carried, is_left}
use Rattle.qir_module.specs.Numbered.{registers_of, measured_in, is_among, counted}
use Rattle.qir_module.specs.Spots.{Item, ThePhi, TheInstr, TheLast, items_in}
use Rattle.qir_module.specs.Passes.{item_registers, registers_assigned, block_assigned}
use Rattle.qir_machine.proofs.SpotFacts.{and_left}
use Rattle.qir_machine.proofs.UniqueTypes.{or_left, or_right, or_cases, in_flat, flat_front, kept_register}
use Rattle.qir_machine.proofs.Demands.{split_at}

-- ---- earlier predecessors

among_counted : (k n x : ℕ) → is_among (counted k n) x ≡ true → x < k + n
among_counted k zero x is = absurd (let wrong : false ≡ true = is in cc)
among_counted k (suc n) x is = elim (or_cases (nat_eq x k) (is_among (counted (suc k) n) x) is) [
  | inl a ↦ let same : x ≡ k = eqb-true x k a in omega arith
  | inr a ↦ let rest = among_counted (suc k) n x a in omega arith
]

differs : (x k : ℕ) → nat_eq x k ≡ false → x ≡ k → ⊥
differs x k e same = let wrong : false ≡ true = sym e ∙ eq-eqb x k same in cc

or_else : (a b : Bool) → (a ≡ false → b ≡ true) → (a || b) ≡ true
or_else true b other = refl
or_else false b other = other refl

counted_among : (k n x : ℕ) → k ≤ x → x < k + n → is_among (counted k n) x ≡ true
counted_among k zero x least few = absurd (omega arith)
counted_among k (suc n) x least few = or_else (nat_eq x k) (is_among (counted (suc k) n) x) (λ e. let other = differs x k e in counted_among (suc k) n x (omega arith) (omega arith))

kept_filter : (p : ℕ → Bool) (y : ℕ) (xs zs : List ℕ) (x : ℕ) (b : Bool) → (is_among zs x ≡ true → is_among xs x ≡ true) → is_among (if b then y ∷ zs else zs) x ≡ true → (nat_eq x y || is_among xs x) ≡ true
kept_filter p y xs zs x true again is = elim (or_cases (nat_eq x y) (is_among zs x) is) [ inl a ↦ or_left (nat_eq x y) (is_among xs x) a | inr a ↦ or_right (nat_eq x y) (is_among xs x) (again a) ]
kept_filter p y xs zs x false again is = or_right (nat_eq x y) (is_among xs x) (again is)

among_filter : (p : ℕ → Bool) (xs : List ℕ) (x : ℕ) → is_among (filter p xs) x ≡ true → is_among xs x ≡ true
among_filter p [] x is = is
among_filter p (y ∷ xs) x is = kept_filter p y xs (filter p xs) x (p y) (among_filter p xs x) is

put_filter : (y : ℕ) (zs : List ℕ) (x : ℕ) (b : Bool) → (x ≡ y → b ≡ true) → (nat_eq x y ≡ true) ⊎ (is_among zs x ≡ true) → is_among (if b then y ∷ zs else zs) x ≡ true
put_filter y zs x true is (inl a) = or_left (nat_eq x y) (is_among zs x) a
put_filter y zs x true is (inr a) = or_right (nat_eq x y) (is_among zs x) a
put_filter y zs x false is (inl a) = absurd (let wrong : false ≡ true = is (eqb-true x y a) in cc)
put_filter y zs x false is (inr a) = a

filter_among : (p : ℕ → Bool) (xs : List ℕ) (x : ℕ) → is_among xs x ≡ true → p x ≡ true → is_among (filter p xs) x ≡ true
filter_among p [] x is holds = is
filter_among p (y ∷ xs) x is holds =
    put_filter y (filter p xs) x (p y) (λ same. ap p (sym same) ∙ holds)
    (elim (or_cases (nat_eq x y) (is_among xs x) is) [ inl a ↦ inl a | inr a ↦ inr (filter_among p xs x a holds) ])

earlier_below : (blocks : List Block) (b x : ℕ) → is_among (earlier blocks b) x ≡ true → x < b
earlier_below blocks b x is = let few = among_counted 0 b x (among_filter (λ p. is_way blocks p b) (counted 0 b) x is) in omega arith

earlier_has : (blocks : List Block) (k b : ℕ) → k < b → is_way blocks k b ≡ true → is_among (earlier blocks b) k ≡ true
earlier_has blocks k b before way = filter_among (λ p. is_way blocks p b) (counted 0 b) k (counted_among 0 b k (omega arith) (omega arith)) way

-- ---- what is carried does not depend on the bound of its recursion

every_same : (p q : ℕ → Bool) (xs : List ℕ) → ((x : ℕ) → is_among xs x ≡ true → p x ≡ q x) → list_all p xs ≡ list_all q xs
every_same p q [] same = refl
every_same p q (x ∷ xs) same = ap (λ b. b && list_all p xs) (same x (or_left (nat_eq x x) (is_among xs x) (eq-eqb x x refl))) ∙ ap (λ b. q x && b) (every_same p q xs (λ y is. same y (or_right (nat_eq y x) (is_among xs y) is)))

within_same : (blocks : List Block) (assigned : ℕ → Bool) (n n' b : ℕ) → b < n → b < n' → carried_within (earlier blocks) assigned n b ≡ carried_within (earlier blocks) assigned n' b
within_same blocks assigned zero n' b few few' = absurd (omega arith)
within_same blocks assigned (suc n) zero b few few' = absurd (omega arith)
within_same blocks assigned (suc n) (suc n') b few few' =
    ap (λ (all : Bool). if is_empty (earlier blocks b) then false else all)
    (every_same _ _ (earlier blocks b) (λ p is. let before = earlier_below blocks b p is in ap (λ c. c || assigned p) (within_same blocks assigned n n' p (omega arith) (omega arith))))

not_empty : (xs : List ℕ) (x : ℕ) (b : Bool) → is_among xs x ≡ true → (if is_empty xs then false else b) ≡ true → b ≡ true
not_empty [] x b is e = absurd (let wrong : false ≡ true = is in cc)
not_empty (y ∷ ys) x b is e = e

-- a jump forwards leaves what is carried
pub left_forwards : (blocks : List Block) (k to : ℕ) (t : Thing) → k < to → is_way blocks k to ≡ true → is_carried blocks to t ≡ true → is_left blocks k t ≡ true
left_forwards blocks k to t before way carried =
    let among = earlier_has blocks k to before way in
    let all = not_empty (earlier blocks to) k (list_all (λ p. carried_within (earlier blocks) (λ q. assigns blocks q t) to p || assigns blocks p t) (earlier blocks to)) among carried in
    let here = kept_register (λ p. carried_within (earlier blocks) (λ q. assigns blocks q t) to p || assigns blocks p t) (earlier blocks to) k all among in
    ap (λ c. c || assigns blocks k t) (within_same blocks (λ q. assigns blocks q t) (suc k) to k (omega arith) before) ∙ here

-- ---- what is carried is assigned somewhere

pub some_assigns : (blocks : List Block) (t : Thing) (n b : ℕ) → carried_within (earlier blocks) (λ p. assigns blocks p t) n b ≡ true → (p : ℕ) × (assigns blocks p t ≡ true)
some_assigns blocks t zero b is = absurd (let wrong : false ≡ true = is in cc)
some_assigns blocks t (suc n) b is = by_list (earlier blocks b) is (λ p. some_assigns blocks t n p)
  where
    by_list : (ps : List ℕ) → (if is_empty ps then false else list_all (λ p. carried_within (earlier blocks) (λ q. assigns blocks q t) n p || assigns blocks p t) ps) ≡ true
        → ((p : ℕ) → carried_within (earlier blocks) (λ q. assigns blocks q t) n p ≡ true → (q : ℕ) × (assigns blocks q t ≡ true)) → (q : ℕ) × (assigns blocks q t ≡ true)
    by_list [] e again = absurd (let wrong : false ≡ true = e in cc)
    by_list (p ∷ ps) e again = elim (or_cases (carried_within (earlier blocks) (λ q. assigns blocks q t) n p) (assigns blocks p t) (and_left (carried_within (earlier blocks) (λ q. assigns blocks q t) n p || assigns blocks p t) (list_all (λ p'. carried_within (earlier blocks) (λ q. assigns blocks q t) n p' || assigns blocks p' t) ps) e)) [
      | inl a ↦ again p a
      | inr a ↦ (p, a)
    ]

register_among : (xs : List ℕ) (ks : List ℕ) (r : ℕ) → list_any (same_thing (TheRegister r)) (map TheRegister xs ++ map TheResult ks) ≡ true → is_among xs r ≡ true
register_among [] [] r is = is
register_among [] (k ∷ ks) r is = register_among [] ks r is
register_among (x ∷ xs) ks r is = elim (or_cases (nat_eq r x) (list_any (same_thing (TheRegister r)) (map TheRegister xs ++ map TheResult ks)) is) [
  | inl a ↦ or_left (nat_eq r x) (is_among xs r) a
  | inr a ↦ or_right (nat_eq r x) (is_among xs r) (register_among xs ks r a)
]

pub result_among : (xs : List ℕ) (ks : List ℕ) (k : ℕ) → list_any (same_thing (TheResult k)) (map TheRegister xs ++ map TheResult ks) ≡ true → is_among ks k ≡ true
result_among [] [] k is = is
result_among [] (l ∷ ks) k is = elim (or_cases (nat_eq k l) (list_any (same_thing (TheResult k)) (map TheResult ks)) is) [
  | inl a ↦ or_left (nat_eq k l) (is_among ks k) a
  | inr a ↦ or_right (nat_eq k l) (is_among ks k) (result_among [] ks k a)
]
result_among (x ∷ xs) ks k is = result_among xs ks k is

item_assigns_register : (item : Item) (r : ℕ) → list_any (same_thing (TheRegister r)) (assigned_by item) ≡ true → is_among (item_registers item) r ≡ true
item_assigns_register (ThePhi phi) r is = register_among (phi.register ∷ []) [] r is
item_assigns_register (TheInstr instr) r is = register_among (registers_of instr) (measured_in instr) r is
item_assigns_register (TheLast last) r is = absurd (let wrong : false ≡ true = is in cc)

registers_assigned_here : (items : List Item) (r : ℕ) → are_assigning items (TheRegister r) ≡ true → is_among (registers_assigned items) r ≡ true
registers_assigned_here items r is =
    let found = in_flat (same_thing (TheRegister r)) assigned_by items is in
    ap (λ (is : List Item). is_among (registers_assigned is) r) found.items ∙ flat_front (nat_eq r) item_registers found.front found.here found.back (item_assigns_register found.here r found.holds)

pub register_named : (blocks : List Block) (p r : ℕ) → assigns blocks p (TheRegister r) ≡ true → is_among (flat_map block_assigned blocks) r ≡ true
register_named blocks p r is = by_block (slice_get blocks p) refl is
  where
    by_block : (o : Option Block) → slice_get blocks p ≡ o → block_assigns o (TheRegister r) ≡ true → is_among (flat_map block_assigned blocks) r ≡ true
    by_block None e a = absurd (let wrong : false ≡ true = a in cc)
    by_block (Some b) e a =
        let cut = split_at blocks p b e in
        ap (λ (bs : List Block). is_among (flat_map block_assigned bs) r) cut.2 ∙ flat_front (nat_eq r) block_assigned cut.0 b cut.1 (registers_assigned_here (items_in b) r a)
