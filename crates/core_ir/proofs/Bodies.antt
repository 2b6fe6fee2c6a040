-- Lists of statements: which of them stand in a list, and how often.
use Rattle.std.proofs.Common.{◌≡◌, ℕ, zero, suc, ◌+◌, ◌<◌, ◌≤◌, ◌⊎◌, inl, inr, nat_eq, Bool, true, false, cond, if◌then◌else◌, All, List, [], ◌∷◌, ◌++◌, length, get_or, Option, Some, refl, sym, ap, ◌∙◌, subst, arith, fold, drop, ◌-◌}
use Rattle.std.proofs.lemmas.List.{drop_more}
use Rattle.std.specs.Prelude.{slice_get, count_by}
use Rattle.std.proofs.lemmas.Bool.{cases_lt, eqb-true, eq-eqb, lt-ltb, le-ltb}
use Rattle.std.proofs.lemmas.List.Elements.{All-head, All-tail, All-cons, All-nil, All-append}
use Rattle.std.proofs.lemmas.Option.{slice_get-get_or}
use Rattle.core_ir.specs.declared.statement.CoreStmt.{CoreStmt}
use Rattle.core_ir.specs.declared.statement.CoreStmt.TheVariants.{If as IfNode, Block as BlockNode, Loop as LoopNode}
use Rattle.core_ir.specs.Levels.{opens, holds, levels_below}
use Rattle.core_ir.specs.WellFormed.{inner_of, bodies_in, times}

-- ---- what holds of all

pub all_front : {X : Type 0} (P : X → Type 0) (xs ys : List X) → All P (xs ++ ys) → All P xs
all_front P [] ys all = All-nil P
all_front P (x ∷ xs) ys all = All-cons P x xs (All-head P x (xs ++ ys) all) (all_front P xs ys (All-tail P x (xs ++ ys) all))

pub all_back : {X : Type 0} (P : X → Type 0) (xs ys : List X) → All P (xs ++ ys) → All P ys
all_back P [] ys all = all
all_back P (x ∷ xs) ys all = all_back P xs ys (All-tail P x (xs ++ ys) all)

-- ---- how often

pub times_append : (k : ℕ) (xs ys : List ℕ) → times k (xs ++ ys) ≡ times k xs + times k ys
times_append k [] ys = omega arith
times_append k (x ∷ xs) ys = times_front (nat_eq x k) (times k (xs ++ ys)) (times k xs) (times k ys) (times_append k xs ys)
  where
    times_front : (same : Bool) (all first second : ℕ) → all ≡ first + second → (if same then suc all else all) ≡ (if same then suc first else first) + second
    times_front true all first second e = omega (arith, e)
    times_front false all first second e = e

fold_times : (k n : ℕ) (xs : List ℕ) → fold (λ a x. a + cond (nat_eq x k) 1 0) n xs ≡ n + times k xs
fold_times k n [] = omega arith
fold_times k n (x ∷ xs) = fold_times k (n + cond (nat_eq x k) 1 0) xs ∙ one_more (nat_eq x k) (times k xs)
  where
    one_more : (same : Bool) (rest : ℕ) → n + cond same 1 0 + rest ≡ n + (if same then suc rest else rest)
    one_more true rest = omega arith
    one_more false rest = omega arith

pub count_times : (k : ℕ) (xs : List ℕ) → count_by (λ j. nat_eq j k) xs ≡ times k xs
count_times k xs = fold_times k 0 xs ∙ omega arith

-- what holds of all members of a list holds of one that stands in it
pub member : (P : ℕ → Type 0) (k : ℕ) (xs : List ℕ) → All P xs → 0 < times k xs → P k
member P k [] all there = absurd (omega (arith, there))
member P k (x ∷ xs) all there = member_at (nat_eq x k) refl there (member P k xs (All-tail P x xs all))
  where
    member_at : (same : Bool) → nat_eq x k ≡ same → 0 < (if same then suc (times k xs) else times k xs) → (0 < times k xs → P k) → P k
    member_at true is found behind = subst P (eqb-true x k is) (All-head P x xs all)
    member_at false is found behind = behind found

pub times_here : (k : ℕ) (xs : List ℕ) → 0 < times k (k ∷ xs)
times_here k xs = subst (λ b. 0 < (if b then suc (times k xs) else times k xs)) (sym (eq-eqb k k refl)) (omega arith)

pub times_behind : (k x : ℕ) (xs : List ℕ) → 0 < times k xs → 0 < times k (x ∷ xs)
times_behind k x xs there = behind (nat_eq x k)
  where
    behind : (same : Bool) → 0 < (if same then suc (times k xs) else times k xs)
    behind true = omega arith
    behind false = there

pub times_first : (k : ℕ) (xs ys : List ℕ) → 0 < times k xs → 0 < times k (xs ++ ys)
times_first k xs ys there = omega (arith, there, times_append k xs ys)

pub times_second : (k : ℕ) (xs ys : List ℕ) → 0 < times k ys → 0 < times k (xs ++ ys)
times_second k xs ys there = omega (arith, there, times_append k xs ys)

-- ---- the bodies of all statements

pub times_one : (k n : ℕ) (stmts : List CoreStmt) → times k (inner_of (slice_get stmts n)) ≤ times k (bodies_in stmts)
times_one k n [] = omega arith
times_one k zero (s ∷ stmts) = omega (arith, times_append k (inner_of (Some s)) (bodies_in stmts))
times_one k (suc n) (s ∷ stmts) = omega (arith, times_append k (inner_of (Some s)) (bodies_in stmts), times_one k n stmts)

pub times_two : (k n m : ℕ) (stmts : List CoreStmt) → n < m → times k (inner_of (slice_get stmts n)) + times k (inner_of (slice_get stmts m)) ≤ times k (bodies_in stmts)
times_two k n m [] l = omega arith
times_two k n zero (s ∷ stmts) l = absurd (omega (arith, l))
times_two k zero (suc m) (s ∷ stmts) l = omega (arith, times_append k (inner_of (Some s)) (bodies_in stmts), times_one k m stmts)
times_two k (suc n) (suc m) (s ∷ stmts) l = omega (arith, times_append k (inner_of (Some s)) (bodies_in stmts), times_two k n m stmts (omega (arith, l)))

-- what stands in some body stands in that of one statement
pub body_with : (k : ℕ) (stmts : List CoreStmt) → 0 < times k (bodies_in stmts) → (n : ℕ) × (n < length stmts) × (0 < times k (inner_of (slice_get stmts n)))
body_with k [] there = absurd (omega (arith, there))
body_with k (s ∷ stmts) there =
    elim (cases_lt 0 (times k (inner_of (Some s)))) [
      | inl here ↦ (0, omega arith, here)
      | inr none ↦ let later = body_with k stmts (omega (arith, there, none, times_append k (inner_of (Some s)) (bodies_in stmts))) in (suc later.0, omega (arith, later.1), later.2)
    ]

-- ---- for the code

pub stmt_read : (stmts : List CoreStmt) (k : ℕ) (x y : CoreStmt) → k < length stmts → x ≡ get_or stmts k x → x ≡ y → slice_get stmts k ≡ Some y
stmt_read stmts k x y l is same = slice_get-get_or stmts k x l ∙ ap Some (sym is ∙ same)

pub all_inner : (P : ℕ → Type 0) (o : Option CoreStmt) (xs : List ℕ) → inner_of o ≡ xs → All P xs → All P (inner_of o)
all_inner P o xs is all = subst (All P) (sym is) all

-- one statement further down
pub step_holds : (loops : Bool) (stmts : List CoreStmt) (left inner : ℕ) (s : CoreStmt) → 0 < left → left ≤ length stmts → s ≡ get_or stmts (left - 1) s
    → 0 < times inner (inner_of (Some s)) → levels_below loops stmts left inner ≡ opens loops (Some s) + levels_below loops stmts (left - 1) (left - 1)
step_holds loops stmts zero inner s some there is held = absurd (omega (arith, some))
step_holds loops stmts (suc n) inner s some there is held =
    let found : slice_get stmts n ≡ Some s = stmt_read stmts n s s (omega (arith, there)) (is ∙ ap (λ (m : ℕ). get_or stmts m s) (omega arith)) refl in
    let here : holds (slice_get stmts n) inner ≡ true = ap (λ o. holds o inner) found ∙ lt-ltb 0 (times inner (inner_of (Some s))) held in
    let down : suc n - 1 ≡ n = omega arith in
    ap (λ b. if b then opens loops (slice_get stmts n) + levels_below loops stmts n n else levels_below loops stmts n inner) here
    ∙ ap (λ o. opens loops o + levels_below loops stmts n n) found
    ∙ ap (λ (m : ℕ). opens loops (Some s) + levels_below loops stmts m m) (sym down)

pub step_passes : (loops : Bool) (stmts : List CoreStmt) (left inner : ℕ) (s : CoreStmt) → 0 < left → left ≤ length stmts → s ≡ get_or stmts (left - 1) s
    → times inner (inner_of (Some s)) ≤ 0 → levels_below loops stmts left inner ≡ levels_below loops stmts (left - 1) inner
step_passes loops stmts zero inner s some there is free = absurd (omega (arith, some))
step_passes loops stmts (suc n) inner s some there is free =
    let found : slice_get stmts n ≡ Some s = stmt_read stmts n s s (omega (arith, there)) (is ∙ ap (λ (m : ℕ). get_or stmts m s) (omega arith)) refl in
    let here : holds (slice_get stmts n) inner ≡ false = ap (λ o. holds o inner) found ∙ le-ltb 0 (times inner (inner_of (Some s))) free in
    let down : suc n - 1 ≡ n = omega arith in
    ap (λ b. if b then opens loops (slice_get stmts n) + levels_below loops stmts n n else levels_below loops stmts n inner) here
    ∙ ap (λ (m : ℕ). levels_below loops stmts m inner) (sym down)

pub opens_most : (loops : Bool) (o : Option CoreStmt) → opens loops o ≤ 1
opens_most true (Some (BlockNode a)) = omega arith
opens_most false (Some (BlockNode a)) = omega arith
opens_most true (Some (LoopNode a)) = omega arith
opens_most false (Some (LoopNode a)) = omega arith
opens_most true _ = omega arith
opens_most false _ = omega arith

pub both_parts : (P : ℕ → Type 0) (xs ys : List ℕ) → All P xs → All P ys → All P (xs ++ ys)
both_parts P xs ys first second = All-append P xs ys first second

-- a statement that is no choice, block or loop has no bodies
pub no_inner : (s : CoreStmt) → ((test : ℕ) (a b : List ℕ) → s ≡ IfNode test a b → ⊥) → ((a : List ℕ) → s ≡ BlockNode a → ⊥) → ((a : List ℕ) → s ≡ LoopNode a → ⊥) → inner_of (Some s) ≡ []
no_inner (IfNode test a b) choice block loop = absurd (choice test a b refl)
no_inner (BlockNode a) choice block loop = absurd (block a refl)
no_inner (LoopNode a) choice block loop = absurd (loop a refl)
no_inner _ choice block loop = refl

pub one_inner : (s : CoreStmt) (a : List ℕ) → (s ≡ BlockNode a) ⊎ (s ≡ LoopNode a) → inner_of (Some s) ≡ a
one_inner s a is = elim is [ inl block ↦ ap (λ x. inner_of (Some x)) block | inr loop ↦ ap (λ x. inner_of (Some x)) loop ]

pub bodies_step : (stmts : List CoreStmt) (i k : ℕ) (s : CoreStmt) → i < length stmts → s ≡ get_or stmts i s
    → times k (bodies_in (drop i stmts)) ≡ times k (inner_of (Some s)) + times k (bodies_in (drop (i + 1) stmts))
bodies_step stmts i k s l is =
    ap (λ ss. times k (bodies_in ss)) (drop_more stmts i s l) ∙ ap (λ x. times k (bodies_in (x ∷ drop (i + 1) stmts))) (sym is)
    ∙ times_append k (inner_of (Some s)) (bodies_in (drop (i + 1) stmts))
