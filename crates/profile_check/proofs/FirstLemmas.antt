-- The first of some places, and the first item of a text that does not pass.
use Rattle.std.proofs.Common.{◌≡◌, ℕ, suc, ◌+◌, ◌<◌, ◌≤◌, ◌⊎◌, nat_eq, nat_lt, Bool, true, false, ◌&&◌, ◌||◌, cond, if◌then◌else◌, List, [], ◌∷◌, ◌++◌, length, map, filter, take, get_or, Option, Some, None, refl, ap, sym, ◌∙◌, arith, inl, inr, eq-eqb, lt-ltb}
use Rattle.std.proofs.lemmas.Bool.{le-ltb, false≢true, cases_lt}
use Rattle.std.proofs.lemmas.Bool.Decides.{eqb_tells}
use Rattle.std.proofs.lemmas.List.Elements.{filter_more}
use Rattle.qir_module.specs.declared.block.Block.{Block}
use Rattle.qir_module.specs.Spots.{Item, items_in, Spot, spots_behind, block_spots, spots_from}
use Rattle.qir_module.specs.Broken.{first_failing}
use Rattle.profile_check.specs.declared.place.Place.{Place}
use Rattle.profile_check.specs.First.{is_before, first_of, first_among}
use Rattle.profile_check.specs.Walk.{seen}
use Rattle.profile_check.proofs.Members.{In, in_either}

-- ---- some places behind others

pub among-append : (found : Option Place) (xs ys : List Place) → first_among found (xs ++ ys) ≡ first_among (first_among found xs) ys
among-append found [] ys = refl
among-append found (x ∷ xs) ys = among-append (first_of found x) xs ys

map-append : {X Y : Type 0} (f : X → Y) (xs ys : List X) → map f (xs ++ ys) ≡ map f xs ++ map f ys
map-append f [] ys = refl
map-append f (x ∷ xs) ys = ap (λ (zs : List _). f x ∷ zs) (map-append f xs ys)

picked : {X : Type 0} (test : X → Bool) (at : X → Place) (found : Option Place) (xs : List X) (i : ℕ) (x : X) → i < length xs → x ≡ get_or xs i x
    → first_among found (map at (filter test (take (i + 1) xs))) ≡ first_among (first_among found (map at (filter test (take i xs)))) (map at (cond (test x) (x ∷ []) []))
picked test at found xs i x within is =
    ap (λ (ys : List _). first_among found (map at ys)) (filter_more test xs i x within)
    ∙ ap (λ (y : _). first_among found (map at (filter test (take i xs) ++ cond (test y) (y ∷ []) []))) (sym is)
    ∙ ap (first_among found) (map-append at (filter test (take i xs)) (cond (test x) (x ∷ []) []))
    ∙ among-append found (map at (filter test (take i xs))) (map at (cond (test x) (x ∷ []) []))

pub picked_one : {X : Type 0} (test : X → Bool) (at : X → Place) (found : Option Place) (xs : List X) (i : ℕ) (x : X) → i < length xs → x ≡ get_or xs i x → test x ≡ true
    → first_of (first_among found (map at (filter test (take i xs)))) (at x) ≡ first_among found (map at (filter test (take (i + 1) xs)))
picked_one test at found xs i x within is passes =
    sym (picked test at found xs i x within is ∙ ap (λ (t : Bool). first_among (first_among found (map at (filter test (take i xs)))) (map at (cond t (x ∷ []) []))) passes)

pub picked_none : {X : Type 0} (test : X → Bool) (at : X → Place) (found : Option Place) (xs : List X) (i : ℕ) (x : X) → i < length xs → x ≡ get_or xs i x → test x ≡ false
    → first_among found (map at (filter test (take i xs))) ≡ first_among found (map at (filter test (take (i + 1) xs)))
picked_none test at found xs i x within is fails =
    sym (picked test at found xs i x within is ∙ ap (λ (t : Bool). first_among (first_among found (map at (filter test (take i xs)))) (map at (cond t (x ∷ []) []))) fails)

-- ---- the order of places

before_true : (p q : Place) → (p.block < q.block) ⊎ ((p.block ≡ q.block) × (p.item < q.item)) → is_before p q ≡ true
before_true p q (inl lower) = ap (λ (t : Bool). t || (nat_eq p.block q.block && nat_lt p.item q.item)) (lt-ltb p.block q.block lower)
before_true p q (inr same) =
    ap (λ (t : Bool). nat_lt p.block q.block || (t && nat_lt p.item q.item)) (eq-eqb p.block q.block same.0)
    ∙ ap (λ (t : Bool). nat_lt p.block q.block || t) (lt-ltb p.item q.item same.1)
    ∙ or_true (nat_lt p.block q.block)
  where
    or_true : (t : Bool) → (t || true) ≡ true
    or_true true = refl
    or_true false = refl

before_false : (p q : Place) → q.block ≤ p.block → (p.block ≡ q.block → q.item ≤ p.item) → is_before p q ≡ false
before_false p q past items =
    ap (λ (t : Bool). t || (nat_eq p.block q.block && nat_lt p.item q.item)) (le-ltb p.block q.block past)
    ∙ elim (eqb_tells p.block q.block) [
      | inl same ↦ ap (λ (t : Bool). t && nat_lt p.item q.item) same.0 ∙ le-ltb p.item q.item (items same.1)
      | inr other ↦ ap (λ (t : Bool). t && nat_lt p.item q.item) other.0
    ]

before_tells : (p q : Place) → is_before p q ≡ true → (p.block < q.block) ⊎ ((p.block ≡ q.block) × (p.item < q.item))
before_tells p q before = elim (cases_lt p.block q.block) [
  | inl lower ↦ inl lower
  | inr past ↦ elim (eqb_tells p.block q.block) [
    | inl same ↦ elim (cases_lt p.item q.item) [
      | inl lower ↦ inr (same.1, lower)
      | inr behind ↦ absurd (false≢true (sym (before_false p q past (λ e. behind)) ∙ before))
    ]
    | inr other ↦ absurd (false≢true (sym (before_false p q past (λ e. absurd (other.1 e))) ∙ before))
  ]
]

before_itself : (p : Place) → is_before p p ≡ false
before_itself p = before_false p p (omega arith) (λ e. omega arith)

behind : (p q : Place) → is_before p q ≡ true → is_before q p ≡ false
behind p q before = elim (before_tells p q before) [
  | inl lower ↦ before_false q p (omega (arith, lower)) (λ e. absurd (omega (arith, lower, e)))
  | inr same ↦ before_false q p (omega (arith, same.0)) (λ e. omega (arith, same.1))
]

-- ---- the least of some places

abbrev IsFrom : Place → Place → Type 0
IsFrom q p = (p ≡ q) ⊎ (is_before q p ≡ true)

abbrev IsFoundFrom : Place → Option Place → Type 0
IsFoundFrom q None = Unit {0}
IsFoundFrom q (Some f) = IsFrom q f

-- from two places from q on, of which one is q, the first is q
first_is : (q f p : Place) → IsFrom q f → IsFrom q p → (f ≡ q) ⊎ (q ≡ p) → (if is_before p f then Some p else Some f) ≡ Some q
first_is q f p (inl f_is) (inl p_is) here =
    let fails : is_before p f ≡ false = ap (λ (x : Place). is_before x f) p_is ∙ ap (is_before q) f_is ∙ before_itself q in
    ap (λ (t : Bool). if t then Some p else Some f) fails ∙ ap Some f_is
first_is q f p (inl f_is) (inr p_behind) here =
    let fails : is_before p f ≡ false = ap (is_before p) f_is ∙ behind q p p_behind in
    ap (λ (t : Bool). if t then Some p else Some f) fails ∙ ap Some f_is
first_is q f p (inr f_behind) (inl p_is) here =
    let passes : is_before p f ≡ true = ap (λ (x : Place). is_before x f) p_is ∙ f_behind in
    ap (λ (t : Bool). if t then Some p else Some f) passes ∙ ap Some p_is
first_is q f p (inr f_behind) (inr p_behind) (inl f_is) = absurd (false≢true (sym (ap (is_before q) f_is ∙ before_itself q) ∙ f_behind))
first_is q f p (inr f_behind) (inr p_behind) (inr p_is) = absurd (false≢true (sym (ap (is_before q) (sym p_is) ∙ before_itself q) ∙ p_behind))

from_first : (q : Place) (found : Option Place) (p : Place) → IsFoundFrom q found → IsFrom q p → IsFoundFrom q (first_of found p)
from_first q None p none from = from
from_first q (Some f) p found from = elim (is_before p f) as (λ t. IsFoundFrom q (if t then Some p else Some f)) [ true ↦ from | false ↦ found ]

least_is : (q : Place) (found : Option Place) (ps : List Place) → IsFoundFrom q found → (found ≡ Some q) ⊎ In q ps → ((p : Place) → In p ps → IsFrom q p) → first_among found ps ≡ Some q
least_is q found [] from (inl is) all = is
least_is q found [] from (inr within) all = absurd within
least_is q None (p ∷ ps) from (inl is) all = absurd (cc)
least_is q None (p ∷ ps) from (inr (inl is)) all = least_is q (Some p) ps (all p (inl refl)) (inl (ap Some (sym is))) (λ r within. all r (inr within))
least_is q None (p ∷ ps) from (inr (inr within)) all = least_is q (Some p) ps (all p (inl refl)) (inr within) (λ r inside. all r (inr inside))
least_is q (Some f) (p ∷ ps) from (inl is) all =
    let f_is : f ≡ q = cc in
    let p_from : IsFrom q p = all p (inl refl) in
    least_is q (first_of (Some f) p) ps (from_first q (Some f) p from p_from) (inl (first_is q f p from p_from (inl f_is))) (λ r inside. all r (inr inside))
least_is q (Some f) (p ∷ ps) from (inr (inl is)) all =
    let p_from : IsFrom q p = all p (inl refl) in
    least_is q (first_of (Some f) p) ps (from_first q (Some f) p from p_from) (inl (first_is q f p from p_from (inr is))) (λ r inside. all r (inr inside))
least_is q (Some f) (p ∷ ps) from (inr (inr within)) all =
    least_is q (first_of (Some f) p) ps (from_first q (Some f) p from (all p (inl refl))) (inr within) (λ r inside. all r (inr inside))

-- ---- the items of a text, in order

abbrev pub at_spot : Spot → Place
at_spot s = record { block = s.block; item = s.item }

abbrev pub InOrder : List Spot → Type 0
InOrder [] = Unit {0}
InOrder (s ∷ ss) = ((r : Spot) → In r ss → is_before (at_spot s) (at_spot r) ≡ true) × InOrder ss

later : (test : Spot → Bool) (s : Spot) (ss : List Spot) → test s ≡ true → (p : Place) → (r : Spot) × In r (s ∷ ss) × (p ≡ at_spot r) × (test r ≡ false) → (r : Spot) × In r ss × (p ≡ at_spot r) × (test r ≡ false)
later test s ss passes p (r, inl is, at, fails) = absurd (false≢true (sym fails ∙ ap test is ∙ passes))
later test s ss passes p (r, inr within, at, fails) = (r, within, at, fails)

from_here : (test : Spot → Bool) (s : Spot) (ss : List Spot) → InOrder (s ∷ ss) → (p : Place) → (r : Spot) × In r (s ∷ ss) × (p ≡ at_spot r) × (test r ≡ false) → IsFrom (at_spot s) p
from_here test s ss order p (r, inl is, at, fails) = inl (at ∙ ap at_spot is)
from_here test s ss order p (r, inr within, at, fails) = inr (ap (is_before (at_spot s)) at ∙ order.0 r within)

pub first_is_least : (test : Spot → Bool) (ps : List Place) (ss : List Spot) → InOrder ss
    → ((p : Place) → In p ps → (s : Spot) × In s ss × (p ≡ at_spot s) × (test s ≡ false)) → ((s : Spot) → In s ss → test s ≡ false → In (at_spot s) ps)
    → seen (first_among None ps) ≡ first_failing test ss
first_is_least test [] [] order sound complete = refl
first_is_least test (p ∷ ps) [] order sound complete = absurd ((sound p (inl refl)).1)
first_is_least test ps (s ∷ ss) order sound complete =
    by_test (test s) refl (λ passes. first_is_least test ps ss order.1 (λ p within. later test s ss passes p (sound p within)) (λ r within fails. complete r (inr within) fails))
  where
    by_test : (t : Bool) → test s ≡ t → (test s ≡ true → seen (first_among None ps) ≡ first_failing test ss) → seen (first_among None ps) ≡ (if t then first_failing test ss else Some (record { block = s.block; item = s.item }))
    by_test true passes rest = rest passes
    by_test false fails rest = ap seen (least_is (at_spot s) None ps tt (inr (complete s (inl refl) fails)) (λ p within. from_here test s ss order p (sound p within)))

-- ---- that they are in order

in_block : (k : ℕ) (b : Block) (i : ℕ) (front items : List Item) (r : Spot) → In r (spots_behind k b i front items) → (r.block ≡ k) × (i ≤ r.item)
in_block k b i front [] r within = absurd within
in_block k b i front (x ∷ xs) r (inl is) = (ap (λ (s : Spot). s.block) is, omega (arith, ap (λ (s : Spot). s.item) is))
in_block k b i front (x ∷ xs) r (inr within) =
    let rest = in_block k b (suc i) (front ++ x ∷ []) xs r within in
    (rest.0, omega (arith, rest.1))

in_blocks : (k : ℕ) (blocks : List Block) (r : Spot) → In r (spots_from k blocks) → k ≤ r.block
in_blocks k [] r within = absurd within
in_blocks k (b ∷ bs) r within = elim (in_either (block_spots k b) (spots_from (suc k) bs) r within) [
  | inl here ↦ omega (arith, (in_block k b 0 [] (items_in b) r here).0)
  | inr there ↦ omega (arith, in_blocks (suc k) bs r there)
]

order_behind : (k : ℕ) (b : Block) (i : ℕ) (front items : List Item) → InOrder (spots_behind k b i front items)
order_behind k b i front [] = tt
order_behind k b i front (x ∷ xs) = (
  (λ r within.
      let rest = in_block k b (suc i) (front ++ x ∷ []) xs r within in
      before_true (record { block = k; item = i }) (at_spot r) (inr (sym rest.0, omega (arith, rest.1)))),
  order_behind k b (suc i) (front ++ x ∷ []) xs,
)

order-append : (xs ys : List Spot) → InOrder xs → InOrder ys → ((x y : Spot) → In x xs → In y ys → is_before (at_spot x) (at_spot y) ≡ true) → InOrder (xs ++ ys)
order-append [] ys first second apart = second
order-append (x ∷ xs) ys first second apart = (
  (λ r within. elim (in_either xs ys r within) [ inl here ↦ first.0 r here | inr there ↦ apart x r (inl refl) there ]),
  order-append xs ys first.1 second (λ a b here there. apart a b (inr here) there),
)

pub spots_order : (k : ℕ) (blocks : List Block) → InOrder (spots_from k blocks)
spots_order k [] = tt
spots_order k (b ∷ bs) = order-append (block_spots k b) (spots_from (suc k) bs) (order_behind k b 0 [] (items_in b)) (spots_order (suc k) bs) (λ x y here there.
    let low = (in_block k b 0 [] (items_in b) x here).0 in
    let high = in_blocks (suc k) bs y there in
    before_true (at_spot x) (at_spot y) (inl (omega (arith, low, high))))
