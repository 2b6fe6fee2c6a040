-- The expressions that are reached, as they are collected.
use Rattle.std.proofs.Common.{◌≡◌, ◌≢◌, ℕ, zero, suc, ◌+◌, ◌<◌, ◌≤◌, ◌⊎◌, inl, inr, nat_eq, if◌then◌else◌, Bool, true, false, ◌||◌, All, List, [], ◌∷◌, ◌++◌, length, get_or, drop, Some, refl, sym, ap, ◌∙◌, subst, ⊎_elim, arith, cond, nat_lt, reverse}
use Rattle.std.specs.Prelude.{slice_get, Result, Ok, Err, MatchResult}
use Rattle.std.specs.List.{AllByRecursion, list_any}
use Rattle.std.specs.List.Sorted.{IsStrictlyIncreasing, IsBinarySearchResult}
use Rattle.std.proofs.lemmas.List.Kept.{AllPairs-from_increasing}
use Rattle.std.proofs.lemmas.List.Sorted.{searched}
use Rattle.std.specs.Ordering.{match_ordering, nat_cmp}
use Rattle.std.specs.declared.cmp.Ordering.{Ordering}
use Rattle.std.specs.declared.cmp.Ordering.TheVariants.{Less, Equal, Greater}
use Rattle.std.specs.Cmp.{nat_cmp_is}
use Rattle.std.specs.BTreeSet.{insert_key}
use Rattle.std.proofs.lemmas.Bool.{false≢true, cases_lt, eq-eqb, ne_eqb, eqb-true, ltb-true}
use Rattle.std.proofs.lemmas.List.{reverse-append}
use Rattle.std.proofs.lemmas.List.Elements.{recursion_from_All, All-from_recursion}
use Rattle.std.proofs.lemmas.Option.{slice_get-get_or}
use Rattle.core_ir.specs.declared.expression.CoreExpr.{CoreExpr}
use Rattle.core_ir.specs.Size.{operands_of, reaches_within, reaches_expr, is_reached}
use Rattle.core_ir.specs.Laws.{NameEarlier}
use Rattle.expr_lower.specs.Emit.{place_in}
use Rattle.expr_lower.specs.Order.{Among, Rises, IsOrder, head_or, put_all, Collects}

-- ---- lists

pub all_at : (P : ℕ → Type 0) (xs : List ℕ) (k : ℕ) → AllByRecursion P xs → Among k xs → P k
all_at P [] k all among = absurd among
all_at P (x ∷ xs) k all among = ⊎_elim (λ is. subst P (sym is) all.0) (λ behind. all_at P xs k all.1 behind) among

pub all_each : (P : ℕ → Type 0) (xs : List ℕ) → ((k : ℕ) → Among k xs → P k) → AllByRecursion P xs
all_each P [] each = tt
all_each P (x ∷ xs) each = (each x (inl refl), all_each P xs (λ k among. each k (inr among)))

pub all_weaker : (P Q : ℕ → Type 0) (xs : List ℕ) → ((k : ℕ) → P k → Q k) → AllByRecursion P xs → AllByRecursion Q xs
all_weaker P Q [] weaker all = tt
all_weaker P Q (x ∷ xs) weaker all = (weaker x all.0, all_weaker P Q xs weaker all.1)

pub among_front : (k : ℕ) (xs ys : List ℕ) → Among k xs → Among k (xs ++ ys)
among_front k [] ys among = absurd among
among_front k (x ∷ xs) ys among = ⊎_elim (λ is. inl is) (λ behind. inr (among_front k xs ys behind)) among

pub among_back : (k : ℕ) (xs ys : List ℕ) → Among k ys → Among k (xs ++ ys)
among_back k [] ys among = among
among_back k (x ∷ xs) ys among = inr (among_back k xs ys among)

pub among_cases : (k : ℕ) (xs ys : List ℕ) → Among k (xs ++ ys) → Among k xs ⊎ Among k ys
among_cases k [] ys among = inr among
among_cases k (x ∷ xs) ys among =
    ⊎_elim (λ is. inl (inl is)) (λ behind. ⊎_elim (λ here. inl (inr here)) (λ there. inr there) (among_cases k xs ys behind)) among

all_front : (P : ℕ → Type 0) (xs ys : List ℕ) → AllByRecursion P (xs ++ ys) → AllByRecursion P xs
all_front P [] ys all = tt
all_front P (x ∷ xs) ys all = (all.0, all_front P xs ys all.1)

all_last : (P : ℕ → Type 0) (xs : List ℕ) (k : ℕ) → AllByRecursion P (xs ++ k ∷ []) → P k
all_last P [] k all = all.0
all_last P (x ∷ xs) k all = all_last P xs k all.1

-- ---- numbers put in

abbrev InsertedAs : ℕ → ℕ → List ℕ → Type 0
InsertedAs k x xs = (insert_key nat_cmp (x ∷ xs) k ≡ k ∷ x ∷ xs) ⊎ ((k ≡ x) × (insert_key nat_cmp (x ∷ xs) k ≡ x ∷ xs)) ⊎ (insert_key nat_cmp (x ∷ xs) k ≡ x ∷ insert_key nat_cmp xs k)

choice_of : (k x : ℕ) (xs : List ℕ) (r : Ordering) → r ≡ nat_cmp k x → insert_key nat_cmp (x ∷ xs) k ≡ match_ordering r (k ∷ x ∷ xs) (x ∷ xs) (x ∷ insert_key nat_cmp xs k)
choice_of k x xs r is = ap (λ o. match_ordering o (k ∷ x ∷ xs) (x ∷ xs) (x ∷ insert_key nat_cmp xs k)) (sym is)

inserted_as : (k x : ℕ) (xs : List ℕ) → InsertedAs k x xs
inserted_as k x xs =
    ⊎_elim (λ below. inl (choice_of k x xs Less (nat_cmp_is k x Less below)))
    (λ not_below. ⊎_elim (λ above. inr (inr (choice_of k x xs Greater (nat_cmp_is k x Greater above))))
    (λ not_above. let same : k ≡ x = omega (arith, not_below, not_above) in inr (inl (same, choice_of k x xs Equal (nat_cmp_is k x Equal same))))
    (cases_lt x k))
    (cases_lt k x)

all_insert : (P : ℕ → Type 0) (xs : List ℕ) (k : ℕ) → AllByRecursion P xs → P k → AllByRecursion P (insert_key nat_cmp xs k)
all_insert P [] k all one = (one, tt)
all_insert P (x ∷ xs) k all one = by_case (inserted_as k x xs) (all_insert P xs k all.1 one)
  where
    by_case : InsertedAs k x xs → AllByRecursion P (insert_key nat_cmp xs k) → AllByRecursion P (insert_key nat_cmp (x ∷ xs) k)
    by_case (inl front) behind = subst (AllByRecursion P) (sym front) (one, all)
    by_case (inr (inl same)) behind = subst (AllByRecursion P) (sym same.1) all
    by_case (inr (inr back)) behind = subst (AllByRecursion P) (sym back) (all.0, behind)

among_insert : (k : ℕ) (xs : List ℕ) → Among k (insert_key nat_cmp xs k)
among_insert k [] = inl refl
among_insert k (x ∷ xs) = by_case (inserted_as k x xs) (among_insert k xs)
  where
    by_case : InsertedAs k x xs → Among k (insert_key nat_cmp xs k) → Among k (insert_key nat_cmp (x ∷ xs) k)
    by_case (inl front) behind = subst (Among k) (sym front) (inl refl)
    by_case (inr (inl same)) behind = subst (Among k) (sym same.1) (inl same.0)
    by_case (inr (inr back)) behind = subst (Among k) (sym back) (inr behind)

among_kept : (j k : ℕ) (xs : List ℕ) → Among j xs → Among j (insert_key nat_cmp xs k)
among_kept j k [] among = absurd among
among_kept j k (x ∷ xs) among = by_case (inserted_as k x xs) (λ there. among_kept j k xs there) among
  where
    by_case : InsertedAs k x xs → (Among j xs → Among j (insert_key nat_cmp xs k)) → Among j (x ∷ xs) → Among j (insert_key nat_cmp (x ∷ xs) k)
    by_case (inl front) behind there = subst (Among j) (sym front) (inr there)
    by_case (inr (inl same)) behind there = subst (Among j) (sym same.1) there
    by_case (inr (inr back)) behind there = subst (Among j) (sym back) (⊎_elim (λ is. inl is) (λ later. inr (behind later)) there)

all_put : (P : ℕ → Type 0) (keys xs : List ℕ) → AllByRecursion P keys → AllByRecursion P xs → AllByRecursion P (put_all keys xs)
all_put P keys [] all more = all
all_put P keys (x ∷ xs) all more = all_put P (insert_key nat_cmp keys x) xs (all_insert P keys x all more.0) more.1

among_put_kept : (j : ℕ) (keys xs : List ℕ) → Among j keys → Among j (put_all keys xs)
among_put_kept j keys [] among = among
among_put_kept j keys (x ∷ xs) among = among_put_kept j (insert_key nat_cmp keys x) xs (among_kept j x keys among)

among_put : (j : ℕ) (keys xs : List ℕ) → Among j xs → Among j (put_all keys xs)
among_put j keys [] among = absurd among
among_put j keys (x ∷ xs) among =
    ⊎_elim (λ is. among_put_kept j (insert_key nat_cmp keys x) xs (subst (λ (i : ℕ). Among i (insert_key nat_cmp keys x)) (sym is) (among_insert x keys)))
    (λ behind. among_put j (insert_key nat_cmp keys x) xs behind) among

-- ---- what is reached

any_at : (p : ℕ → Bool) (xs : List ℕ) (k : ℕ) → Among k xs → p k ≡ true → list_any p xs ≡ true
any_at p [] k among passes = absurd among
any_at p (x ∷ xs) k among passes =
    ⊎_elim (λ is. ap (λ b. b || list_any p xs) (ap p (sym is) ∙ passes)) (λ behind. or_true (p x) (list_any p xs) (any_at p xs k behind passes)) among
  where
    or_true : (a b : Bool) → b ≡ true → (a || b) ≡ true
    or_true true b e = refl
    or_true false b e = e

pub any_from : (p : ℕ → Bool) (xs : List ℕ) → list_any p xs ≡ true → (k : ℕ) × Among k xs × (p k ≡ true)
any_from p [] any = absurd (false≢true any)
any_from p (x ∷ xs) any = here (p x) refl any (any_from p xs)
  where
    here : (b : Bool) → p x ≡ b → (b || list_any p xs) ≡ true → (list_any p xs ≡ true → (k : ℕ) × Among k xs × (p k ≡ true)) → (k : ℕ) × Among k (x ∷ xs) × (p k ≡ true)
    here true is any behind = (x, inl refl, is)
    here false is any behind = let there = behind any in (there.0, inr there.1, there.2)

pub or_cases : (a b : Bool) → (a || b) ≡ true → (a ≡ true) ⊎ (b ≡ true)
or_cases true b e = inl refl
or_cases false b e = inr e

or_second : (a b : Bool) → b ≡ true → (a || b) ≡ true
or_second true b e = refl
or_second false b e = e

-- what is reached with some levels is reached with as many as the number has, and one
fewer : (exprs : List CoreExpr) (n : ℕ) → NameEarlier exprs n → (levels more k e : ℕ) → e < n → e < more → reaches_within exprs levels k e ≡ true → reaches_within exprs more k e ≡ true
fewer exprs n w zero more k e l lm reach = absurd (false≢true reach)
fewer exprs n w (suc levels) zero k e l lm reach = absurd (omega (arith, lm))
fewer exprs n w (suc levels) (suc more) k e l lm reach =
    ⊎_elim (λ same. ap (λ b. b || list_any (reaches_within exprs more k) (operands_of (slice_get exprs e))) same)
    (λ below. let via = any_from (reaches_within exprs levels k) (operands_of (slice_get exprs e)) below in
    let lower : via.0 < e = all_at (λ j. j < e) (operands_of (slice_get exprs e)) via.0 (w e l) via.1 in
    or_second (nat_eq e k) (list_any (reaches_within exprs more k) (operands_of (slice_get exprs e)))
    (any_at (reaches_within exprs more k) (operands_of (slice_get exprs e)) via.0 via.1 (fewer exprs n w levels more k via.0 (omega (arith, lower, l)) (omega (arith, lower, lm)) via.2)))
    (or_cases (nat_eq e k) (list_any (reaches_within exprs levels k) (operands_of (slice_get exprs e))) reach)

one_further : (exprs : List CoreExpr) (levels k j e : ℕ) → Among j (operands_of (slice_get exprs k)) → reaches_within exprs levels k e ≡ true → reaches_within exprs (suc levels) j e ≡ true
one_further exprs zero k j e named reach = absurd (false≢true reach)
one_further exprs (suc levels) k j e named reach =
    or_second (nat_eq e j) (list_any (reaches_within exprs (suc levels) j) (operands_of (slice_get exprs e)))
    (⊎_elim (λ same. let is : e ≡ k = eqb-true e k same in
    any_at (reaches_within exprs (suc levels) j) (operands_of (slice_get exprs e)) j (subst (λ (i : ℕ). Among j (operands_of (slice_get exprs i))) (sym is) named)
    (ap (λ b. b || list_any (reaches_within exprs levels j) (operands_of (slice_get exprs j))) (eq-eqb j j refl)))
    (λ below. let via = any_from (reaches_within exprs levels k) (operands_of (slice_get exprs e)) below in
    any_at (reaches_within exprs (suc levels) j) (operands_of (slice_get exprs e)) via.0 via.1 (one_further exprs levels k j via.0 named via.2))
    (or_cases (nat_eq e k) (list_any (reaches_within exprs levels k) (operands_of (slice_get exprs e))) reach))

pub reach_step : (exprs : List CoreExpr) (roots : List ℕ) (k j : ℕ) → NameEarlier exprs (length exprs) → AllByRecursion (λ e. e < length exprs) roots → Among j (operands_of (slice_get exprs k))
    → is_reached exprs roots k ≡ true → is_reached exprs roots j ≡ true
unfolding reaches_expr
reach_step exprs roots k j w within named reach =
    let via = any_from (reaches_expr exprs k) roots reach in
    any_at (reaches_expr exprs j) roots via.0 via.1
    (fewer exprs (length exprs) w (suc (suc via.0)) (suc via.0) j via.0 (all_at (λ e. e < length exprs) roots via.0 within via.1) (omega arith) (one_further exprs (suc via.0) k j via.0 named via.2))

pub root_reached : (exprs : List CoreExpr) (roots : List ℕ) (e : ℕ) → Among e roots → is_reached exprs roots e ≡ true
unfolding reaches_expr
root_reached exprs roots e among =
    any_at (reaches_expr exprs e) roots e among (ap (λ b. b || list_any (reaches_within exprs e e) (operands_of (slice_get exprs e))) (eq-eqb e e refl))

-- ---- collecting

pub collects_start : (exprs : List CoreExpr) (roots : List ℕ) → AllByRecursion (λ e. e < length exprs) roots → Collects exprs roots (put_all [] roots) []
collects_start exprs roots within = record {
  rises = tt;
  within = tt;
  reached = tt;
  closed = λ k among. absurd among;
  has_roots = all_each (λ e. Among e [] ⊎ Among e (put_all [] roots)) roots (λ e among. inr (among_put e [] roots among));
  pending = all_put (λ q. (q < length exprs) × (is_reached exprs roots q ≡ true)) [] roots tt
      (all_each (λ q. (q < length exprs) × (is_reached exprs roots q ≡ true)) roots (λ q among. (all_at (λ e. e < length exprs) roots q within among, root_reached exprs roots q among)));
}

below_head : (n k : ℕ) (order : List ℕ) → Rises order → k < head_or n order → AllByRecursion (λ y. k < y) order
below_head n k [] rises l = tt
below_head n k (x ∷ xs) rises l = (l, all_weaker (λ y. x < y) (λ y. k < y) xs (λ y lt. omega (arith, l, lt)) rises.0)

head_within : (n : ℕ) (order : List ℕ) → AllByRecursion (λ k. k < n) order → head_or n order ≤ n
head_within n [] within = omega arith
head_within n (x ∷ xs) within = omega (arith, within.0)

pub collects_step : (exprs : List CoreExpr) (roots rest order : List ℕ) (k : ℕ) → NameEarlier exprs (length exprs) → AllByRecursion (λ e. e < length exprs) roots
    → AllByRecursion (λ q. q < k) rest → Collects exprs roots (rest ++ k ∷ []) order → Collects exprs roots (put_all rest (operands_of (slice_get exprs k))) (k ∷ order)
collects_step exprs roots rest order k w within below all =
    let here = all_last (λ q. (q < head_or (length exprs) order) × (is_reached exprs roots q ≡ true)) rest k all.pending in
    let inside : k < length exprs = omega (arith, here.0, head_within (length exprs) order all.within) in
    record {
      rises = (below_head (length exprs) k order all.rises here.0, all.rises);
      within = (inside, all.within);
      reached = (here.1, all.reached);
      closed = λ i among. ⊎_elim
          (λ is. subst (λ (m : ℕ). AllByRecursion (λ j. Among j (k ∷ order) ⊎ Among j (put_all rest (operands_of (slice_get exprs k)))) (operands_of (slice_get exprs m))) (sym is)
          (all_each (λ j. Among j (k ∷ order) ⊎ Among j (put_all rest (operands_of (slice_get exprs k)))) (operands_of (slice_get exprs k)) (λ j named. inr (among_put j rest (operands_of (slice_get exprs k)) named))))
          (λ behind. all_weaker (λ j. Among j order ⊎ Among j (rest ++ k ∷ [])) (λ j. Among j (k ∷ order) ⊎ Among j (put_all rest (operands_of (slice_get exprs k)))) (operands_of (slice_get exprs i)) moved (all.closed i behind))
          among;
      has_roots = all_weaker (λ j. Among j order ⊎ Among j (rest ++ k ∷ [])) (λ j. Among j (k ∷ order) ⊎ Among j (put_all rest (operands_of (slice_get exprs k)))) roots moved all.has_roots;
      pending = all_put (λ q. (q < k) × (is_reached exprs roots q ≡ true)) rest (operands_of (slice_get exprs k))
          (all_each (λ q. (q < k) × (is_reached exprs roots q ≡ true)) rest (λ q among. (all_at (λ q. q < k) rest q below among, (all_at (λ q. (q < head_or (length exprs) order) × (is_reached exprs roots q ≡ true)) rest q (all_front (λ q. (q < head_or (length exprs) order) × (is_reached exprs roots q ≡ true)) rest (k ∷ []) all.pending) among).1)))
          (all_each (λ q. (q < k) × (is_reached exprs roots q ≡ true)) (operands_of (slice_get exprs k)) (λ q named. (all_at (λ j. j < k) (operands_of (slice_get exprs k)) q (w k inside) named, reach_step exprs roots k q w within named here.1)));
    }
  where
    moved : (j : ℕ) → Among j order ⊎ Among j (rest ++ k ∷ []) → Among j (k ∷ order) ⊎ Among j (put_all rest (operands_of (slice_get exprs k)))
    moved j (inl taken) = inl (inr taken)
    moved j (inr waits) =
        ⊎_elim (λ early. inr (among_put_kept j rest (operands_of (slice_get exprs k)) early)) (λ last. ⊎_elim (λ is. inl (inl is)) (λ none. absurd none) last) (among_cases j rest (k ∷ []) waits)

pub collects_all : (exprs : List CoreExpr) (roots order : List ℕ) → Collects exprs roots [] order → IsOrder exprs roots order
collects_all exprs roots order all = record {
  rises = all.rises;
  within = all.within;
  reached = all.reached;
  closed = λ k among. all_weaker (λ j. Among j order ⊎ Among j []) (λ j. Among j order) (operands_of (slice_get exprs k)) taken (all.closed k among);
  has_roots = all_weaker (λ j. Among j order ⊎ Among j []) (λ j. Among j order) roots taken all.has_roots;
}
  where
    taken : (j : ℕ) → Among j order ⊎ Among j [] → Among j order
    taken j (inl here) = here
    taken j (inr none) = absurd none

-- an order rises as std says it
pub increasing : (order : List ℕ) → Rises order → IsStrictlyIncreasing order
increasing [] rises k l = absurd (omega (arith, l))
increasing (x ∷ []) rises k l = absurd (omega (arith, l))
increasing (x ∷ y ∷ ys) rises zero l = rises.0.0
increasing (x ∷ y ∷ ys) rises (suc k) l =
    let up : suc (k + 1) ≡ suc k + 1 = omega arith in
    subst (λ (n : ℕ). get_or (y ∷ ys) k 0 < get_or (x ∷ y ∷ ys) n 0) up (increasing (y ∷ ys) rises.1 k (omega (arith, l)))

-- ---- places

place_first : (xs : List ℕ) (k i : ℕ) → ((j : ℕ) → j < i → get_or xs j 0 ≢ k) → i < length xs → get_or xs i 0 ≡ k → place_in xs k ≡ i
place_first [] k i before l is = absurd (omega (arith, l))
place_first (x ∷ xs) k zero before l is = ap (λ b. if b then 0 else suc (place_in xs k)) (eq-eqb x k is)
place_first (x ∷ xs) k (suc i) before l is =
    ap (λ b. if b then 0 else suc (place_in xs k)) (ne_eqb x k (before 0 (omega arith))) ∙ ap suc (place_first xs k i (λ j lt. before (suc j) (omega (arith, lt))) (omega (arith, l)) is)

place_none : (xs : List ℕ) (k : ℕ) → ((j : ℕ) → j < length xs → get_or xs j 0 ≢ k) → place_in xs k ≡ length xs
place_none [] k none = refl
place_none (x ∷ xs) k none =
    ap (λ b. if b then 0 else suc (place_in xs k)) (ne_eqb x k (none 0 (omega arith))) ∙ ap suc (place_none xs k (λ j lt. none (suc j) (omega (arith, lt))))

rises_to : (xs : List ℕ) → IsStrictlyIncreasing xs → (i j : ℕ) → i ≤ j → j < length xs → get_or xs i 0 ≤ get_or xs j 0
rises_to xs rises i j le l =
    ⊎_elim (λ lt. let strict : get_or xs i 0 < get_or xs j 0 = AllPairs-from_increasing xs rises i j 0 lt l in omega (arith, strict))
    (λ ge. let same : i ≡ j = omega (arith, ge, le) in subst (λ (n : ℕ). get_or xs i 0 ≤ get_or xs n 0) same (omega arith)) (cases_lt i j)

-- what a search in a list that rises answers
pub search_places : (xs : List ℕ) (k : ℕ) (r : Result ℕ ℕ) → IsBinarySearchResult (λ y. nat_cmp y k) xs r → IsStrictlyIncreasing xs → MatchResult r (λ i. place_in xs k ≡ i) (λ i. place_in xs k ≡ length xs)
search_places xs k r position rises = by_case r (searched xs k r position (rises_to xs rises))
  where
    by_case : (r : Result ℕ ℕ) → MatchResult r (λ i. (i < length xs) × (get_or xs i 0 ≡ k)) (λ i. (i ≤ length xs) × ((j : ℕ) → j < i → get_or xs j 0 < k) × ((j : ℕ) → i ≤ j → j < length xs → k < get_or xs j 0))
        → MatchResult r (λ i. place_in xs k ≡ i) (λ i. place_in xs k ≡ length xs)
    by_case (Ok i) found = place_first xs k i (λ j lt same. let strict : get_or xs j 0 < get_or xs i 0 = AllPairs-from_increasing xs rises j i 0 lt found.0 in absurd (omega (arith, strict, same, found.1))) found.0 found.1
    by_case (Err i) none = place_none xs k (λ j lt same. ⊎_elim (λ before. absurd (omega (arith, same, none.1 j before))) (λ behind. absurd (omega (arith, same, none.2 j behind lt))) (cases_lt j i))

pub place_found : (xs : List ℕ) (k i : ℕ) (r : Result ℕ ℕ) → r ≡ Ok i → IsBinarySearchResult (λ y. nat_cmp y k) xs r → IsStrictlyIncreasing xs → i ≡ place_in xs k
place_found xs k i r is position rises = sym (subst (λ (x : Result ℕ ℕ). MatchResult x (λ j. place_in xs k ≡ j) (λ j. place_in xs k ≡ length xs)) is (search_places xs k r position rises))

pub place_missing : (xs : List ℕ) (k i : ℕ) (r : Result ℕ ℕ) → r ≡ Err i → IsBinarySearchResult (λ y. nat_cmp y k) xs r → IsStrictlyIncreasing xs → length xs ≡ place_in xs k
place_missing xs k i r is position rises = sym (subst (λ (x : Result ℕ ℕ). MatchResult x (λ j. place_in xs k ≡ j) (λ j. place_in xs k ≡ length xs)) is (search_places xs k r position rises))

-- ---- for the code

less_is : (b c : Bool) → cond b Less (cond c Equal Greater) ≡ Less → b ≡ true
less_is true c is = refl
less_is false true is = cc
less_is false false is = cc

below_from : (q k : ℕ) → nat_cmp q k ≡ Less → q < k
below_from q k is = ltb-true q k (less_is (nat_lt q k) (nat_eq q k) is)

pub collect_more : (exprs : List CoreExpr) (roots keys rest keys' taken taken' : List ℕ) (k : ℕ) (expr other : CoreExpr) → NameEarlier exprs (length exprs) → All (λ e. e < length exprs) roots
    → keys ≡ rest ++ k ∷ [] → All (λ q. nat_cmp q k ≡ Less) rest → k < length exprs → expr ≡ get_or exprs k other → keys' ≡ put_all rest (operands_of (Some expr)) → taken' ≡ taken ++ k ∷ []
    → Collects exprs roots keys (reverse taken) → Collects exprs roots keys' (reverse taken')
collect_more exprs roots keys rest keys' taken taken' k expr other w within split below inside read put push all =
    let found : slice_get exprs k ≡ Some expr = slice_get-get_or exprs k other inside ∙ ap Some (sym read) in
    let step : Collects exprs roots (put_all rest (operands_of (slice_get exprs k))) (k ∷ reverse taken) =
    collects_step exprs roots rest (reverse taken) k w (recursion_from_All (λ e. e < length exprs) roots within)
    (all_weaker (λ q. nat_cmp q k ≡ Less) (λ q. q < k) rest (λ q less. below_from q k less) (recursion_from_All (λ q. nat_cmp q k ≡ Less) rest below))
    (subst (λ ks. Collects exprs roots ks (reverse taken)) split all) in
    subst (λ o. Collects exprs roots keys' o) (sym (ap reverse push ∙ reverse-append taken (k ∷ [])))
    (subst (λ ks. Collects exprs roots ks (k ∷ reverse taken)) (ap (λ o. put_all rest (operands_of o)) found ∙ sym put) step)

-- the next one is that of an expression, and below the one before
pub collect_inside : (exprs : List CoreExpr) (roots keys rest taken : List ℕ) (k : ℕ) → keys ≡ rest ++ k ∷ [] → Collects exprs roots keys (reverse taken) → (k < head_or (length exprs) (reverse taken)) × (k < length exprs)
collect_inside exprs roots keys rest taken k split all =
    let here = all_last (λ q. (q < head_or (length exprs) (reverse taken)) × (is_reached exprs roots q ≡ true)) rest k (subst (AllByRecursion (λ q. (q < head_or (length exprs) (reverse taken)) × (is_reached exprs roots q ≡ true))) split all.pending) in
    (here.0, omega (arith, here.0, head_within (length exprs) (reverse taken) all.within))

pub collect_start : (exprs : List CoreExpr) (roots keys : List ℕ) → All (λ e. e < length exprs) roots → keys ≡ put_all [] roots → Collects exprs roots keys []
collect_start exprs roots keys within is = subst (λ ks. Collects exprs roots ks []) (sym is) (collects_start exprs roots (recursion_from_All (λ e. e < length exprs) roots within))

drop_past : (i : ℕ) (xs : List ℕ) → length xs ≤ i → drop i xs ≡ []
drop_past zero [] l = refl
drop_past zero (x ∷ xs) l = absurd (omega (arith, l))
drop_past (suc i) [] l = refl
drop_past (suc i) (x ∷ xs) l = drop_past i xs (omega (arith, l))

-- all roots are put in
pub roots_put : (keys roots : List ℕ) (i : ℕ) → length roots ≤ i → put_all keys (drop i roots) ≡ put_all [] roots → keys ≡ put_all [] roots
roots_put keys roots i l is = ap (put_all keys) (sym (drop_past i roots l)) ∙ is

pub none_left : (n : ℕ) → (0 < n → false ≡ true) → n ≡ 0
none_left n none = ⊎_elim (λ lt. absurd (false≢true (none lt))) (λ le. omega (arith, le)) (cases_lt 0 n)

pub collect_end : (exprs : List CoreExpr) (roots keys taken order : List ℕ) → length keys ≡ 0 → order ≡ reverse taken → Collects exprs roots keys (reverse taken) → IsOrder exprs roots order
collect_end exprs roots [] taken order none is all = subst (IsOrder exprs roots) (sym is) (collects_all exprs roots (reverse taken) all)
collect_end exprs roots (k ∷ keys) taken order none is all = absurd (omega (arith, none))

pub order_increasing : (exprs : List CoreExpr) (roots order : List ℕ) → IsOrder exprs roots order → IsStrictlyIncreasing order
order_increasing exprs roots order is = increasing order is.rises

pub order_within : (exprs : List CoreExpr) (roots order : List ℕ) → IsOrder exprs roots order → All (λ k. k < length exprs) order
order_within exprs roots order is = All-from_recursion (λ k. k < length exprs) order is.within

-- the next one is below the one before
pub collect_smaller : (exprs : List CoreExpr) (roots keys rest taken taken' : List ℕ) (k : ℕ) → keys ≡ rest ++ k ∷ [] → taken' ≡ taken ++ k ∷ [] → Collects exprs roots keys (reverse taken)
    → head_or (length exprs) (reverse taken') < head_or (length exprs) (reverse taken)
collect_smaller exprs roots keys rest taken taken' k split push all =
    subst (λ (o : List ℕ). head_or (length exprs) o < head_or (length exprs) (reverse taken)) (sym (ap reverse push ∙ reverse-append taken (k ∷ []))) (collect_inside exprs roots keys rest taken k split all).0
