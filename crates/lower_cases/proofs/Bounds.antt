-- What is tested of a core, and that it fits.
use Rattle.std.proofs.Common.{◌≡◌, ◌≢◌, ℕ, zero, suc, ◌+◌, ◌-◌, ◌<◌, ◌≤◌, Bool, true, false, not, ◌&&◌, ◌||◌, if◌then◌else◌, nat_eq, ◌⊎◌, inl, inr, All, AllPairs, List, [], ◌∷◌, ◌++◌, length, take, get_or, Option, Some, None, sym, ap, ◌∙◌, subst, ⊎_elim, refl, arith}
use Rattle.std.specs.Prelude.{slice_get, cond, Contains, ◌↔◌}
use Rattle.std.specs.List.{AllByRecursion, list_any, count_by}
use Rattle.std.proofs.lemmas.Bool.{cases_lt}
use Rattle.std.proofs.lemmas.List.{take_more}
use Rattle.std.proofs.lemmas.Bool.{eqb-true, eq-eqb}
use Rattle.std.proofs.lemmas.List.Sums.{count_by-le-length, sum_by-cons}
use Rattle.std.proofs.lemmas.List.Folds.{list_any_at}
use Rattle.std.proofs.lemmas.List.Elements.{All-from_recursion}
use Rattle.std.proofs.lemmas.Option.{slice_get-get_or, slice_get_past}
use Rattle.qq_base.specs.declared.run.QubitId.{QubitId}
use Rattle.core_ir.specs.declared.expression.CoreExpr.{CoreExpr}
use Rattle.core_ir.specs.declared.expression.CoreExpr.TheVariants.{Truth}
use Rattle.core_ir.specs.declared.statement.CoreStmt.{CoreStmt}
use Rattle.core_ir.specs.Core.{Core}
use Rattle.core_ir.specs.Tree.{Stmt, Skip, Seq, Assign, Gate, Reset, Measure, If, Block, Loop, Leave, Again, node_stmt, stmt_within, sequence, stmt_of, body_of, program_of}
use Rattle.core_ir.specs.Ways.{Exit, Falls, Agains, is_fall, inside_block, inside_loop, reaches, passes, stores, counts, given_last, names_cell, is_into, assigns, Before, begin, after, loop_start}
use Rattle.core_ir.specs.Size.{count_from, is_working, is_reached, working_nodes, pair_exprs, leaf_exprs, open_cells, at_level, weight_of, weight, knots_of, knots}
use Rattle.core_ir.specs.WellFormed.{IsSafeExpr, IsSafe, IsWellFormed, GatesDiffer, is_measure, Fits}
use Rattle.lower_cases.specs.Bound.{price_of, weights, most_knots, LeavesOf, AreDistinct, IsPlain}
use Rattle.lower_cases.specs.declared.limits.Prices.{Prices}

pub safe_from : (exprs : List CoreExpr) → All (λ expr. IsSafeExpr exprs (Some expr)) exprs → IsSafe exprs
safe_from exprs all k =
    ⊎_elim (λ lt. subst (IsSafeExpr exprs) (sym (slice_get-get_or exprs k (Truth false) lt)) (all k (Truth false) lt))
    (λ past. subst (IsSafeExpr exprs) (sym (slice_get_past exprs k past)) tt) (cases_lt k (length exprs))

-- ---- truth values

either : {P : Type 0} (a b : Bool) → (a ≡ true → P) → (b ≡ true → P) → (a || b) ≡ true → P
either true b left right e = left refl
either false b left right e = right e

first_of_both : (a b : Bool) → (a && b) ≡ true → a ≡ true
first_of_both true b e = refl
first_of_both false b e = e

second_of_both : (a b : Bool) → (a && b) ≡ true → b ≡ true
second_of_both true b e = e
second_of_both false b e = absurd (cc e)

or_first : (a b : Bool) → a ≡ true → (a || b) ≡ true
or_first true b e = refl
or_first false b e = absurd (cc e)

or_second : (a b : Bool) → b ≡ true → (a || b) ≡ true
or_second true b e = refl
or_second false b e = e

-- ---- numbers that pass a test

-- no fewer pass a test that is passed wherever another is
count_less : (f g : ℕ → Bool) (k n : ℕ) → ((c : ℕ) → f c ≡ true → g c ≡ true) → count_from f k n ≤ count_from g k n
count_less f g k zero passes = omega arith
count_less f g k (suc n) passes = two (f k) (g k) (count_from f (suc k) n) (count_from g (suc k) n) (passes k) (count_less f g (suc k) n passes)
  where
    two : (a b : Bool) (m r : ℕ) → (a ≡ true → b ≡ true) → m ≤ r → (if a then suc m else m) ≤ (if b then suc r else r)
    two true true m r i l = omega (arith, l)
    two true false m r i l = absurd (cc (i refl))
    two false true m r i l = omega (arith, l)
    two false false m r i l = l

count_either : (f g : ℕ → Bool) (k n : ℕ) → count_from (λ c. f c || g c) k n ≤ count_from f k n + count_from g k n
count_either f g k zero = omega arith
count_either f g k (suc n) = two (f k) (g k) (count_from (λ c. f c || g c) (suc k) n) (count_from f (suc k) n) (count_from g (suc k) n) (count_either f g (suc k) n)
  where
    two : (a b : Bool) (m q r : ℕ) → m ≤ q + r → (if a || b then suc m else m) ≤ (if a then suc q else q) + (if b then suc r else r)
    two true true m q r l = omega (arith, l)
    two true false m q r l = omega (arith, l)
    two false true m q r l = omega (arith, l)
    two false false m q r l = l

count_none : (k n : ℕ) → count_from (λ c. false) k n ≡ 0
count_none k zero = refl
count_none k (suc n) = count_none (suc k) n

-- one number stands once
count_past : (x k n : ℕ) → x < k → count_from (λ c. nat_eq c x) k n ≡ 0
count_past x k zero l = refl
count_past x k (suc n) l = two (nat_eq k x) (eqb-true k x) (count_past x (suc k) n (omega (arith, l)))
  where
    two : (b : Bool) → (b ≡ true → k ≡ x) → count_from (λ c. nat_eq c x) (suc k) n ≡ 0
        → (if b then suc (count_from (λ c. nat_eq c x) (suc k) n) else count_from (λ c. nat_eq c x) (suc k) n) ≡ 0
    two true same none = absurd (omega (arith, l, same refl))
    two false same none = none

count_one : (x k n : ℕ) → count_from (λ c. nat_eq c x) k n ≤ 1
count_one x k zero = omega arith
count_one x k (suc n) = two (nat_eq k x) (eqb-true k x) (count_one x (suc k) n)
  where
    two : (b : Bool) → (b ≡ true → k ≡ x) → count_from (λ c. nat_eq c x) (suc k) n ≤ 1
        → (if b then suc (count_from (λ c. nat_eq c x) (suc k) n) else count_from (λ c. nat_eq c x) (suc k) n) ≤ 1
    two true same one = omega (arith, count_past x (suc k) n (omega (arith, same refl)))
    two false same one = one

-- no more numbers stand in a list than it is long
count_listed : (xs : List ℕ) (k n : ℕ) → count_from (λ c. list_any (nat_eq c) xs) k n ≤ length xs
count_listed [] k n = omega (arith, count_none k n)
count_listed (x ∷ xs) k n = omega (arith, count_either (λ c. nat_eq c x) (λ c. list_any (nat_eq c) xs) k n, count_one x k n, count_listed xs k n)

count_shift : (f : ℕ → Bool) (k n : ℕ) → count_from f (suc k) n ≡ count_from (λ c. f (suc c)) k n
count_shift f k zero = refl
count_shift f k (suc n) = ap (λ (m : ℕ). if f (suc k) then suc m else m) (count_shift f (suc k) n)

-- ---- expressions and cells

count_working : (exprs : List CoreExpr) → count_from (λ k. is_working (slice_get exprs k)) 0 (length exprs) ≡ count_by (λ (e : CoreExpr). is_working (Some e)) exprs
count_working [] = refl
count_working (x ∷ xs) =
    ap (λ (m : ℕ). if is_working (Some x) then suc m else m) (count_shift (λ k. is_working (slice_get (x ∷ xs) k)) 0 (length xs) ∙ count_working xs)
    ∙ two (is_working (Some x)) (count_by (λ (e : CoreExpr). is_working (Some e)) xs) ∙ sym (sum_by-cons (λ (e : CoreExpr). cond (is_working (Some e)) 1 0) x xs)
  where
    two : (b : Bool) (m : ℕ) → (if b then suc m else m) ≡ cond b 1 0 + m
    two true m = omega arith
    two false m = omega arith

-- no statement reaches more working expressions than there are
nodes_few : (exprs : List CoreExpr) (roots : List ℕ) → working_nodes exprs roots ≤ count_by (λ (e : CoreExpr). is_working (Some e)) exprs
nodes_few exprs roots =
    omega (arith, count_working exprs, count_less (λ k. is_working (slice_get exprs k) && is_reached exprs roots k) (λ k. is_working (slice_get exprs k)) 0 (length exprs) (λ k e. first_of_both (is_working (slice_get exprs k)) (is_reached exprs roots k) e))

given_named : (exprs : List CoreExpr) (pairs : List (ℕ × ℕ)) (c : ℕ) (before : Option ℕ) → counts false exprs (given_last pairs c before) ≡ true → (counts false exprs before ≡ true) ⊎ (names_cell pairs c ≡ true)
given_named exprs [] c before e = inl e
given_named exprs (p ∷ pairs) c before e = two (nat_eq p.0 c) (given_named exprs pairs c (if nat_eq p.0 c then Some p.1 else before) e)
  where
    two : (b : Bool) → (counts false exprs (if b then Some p.1 else before) ≡ true) ⊎ (names_cell pairs c ≡ true) → (counts false exprs before ≡ true) ⊎ ((b || names_cell pairs c) ≡ true)
    two true h = inr refl
    two false h = h

-- what is stored in a cell is assigned to it
stored_assigned : (exprs : List CoreExpr) (s : Stmt) (c : ℕ) (x : Exit) → stores false exprs s c x ≡ true → assigns s c ≡ true
stored_assigned exprs Skip c x e = absurd (cc e)
stored_assigned exprs (Seq a b) c x e =
    let p = not (is_fall x) && stores false exprs a c x in
    let q = reaches a Falls && stores false exprs b c x in
    let r = stores false exprs a c Falls && passes b c x in
    either p (q || r) (λ h. or_first (assigns a c) (assigns b c) (stored_assigned exprs a c x (second_of_both (not (is_fall x)) (stores false exprs a c x) h)))
    (λ h. either q r (λ i. or_second (assigns a c) (assigns b c) (stored_assigned exprs b c x (second_of_both (reaches a Falls) (stores false exprs b c x) i)))
    (λ i. or_first (assigns a c) (assigns b c) (stored_assigned exprs a c Falls (first_of_both (stores false exprs a c Falls) (passes b c x) i))) h) e
stored_assigned exprs (Assign pairs) c x e =
    ⊎_elim (λ h. absurd (cc h)) (λ h. h) (given_named exprs pairs c None (second_of_both (is_fall x) (counts false exprs (given_last pairs c None)) e))
stored_assigned exprs (Gate leaf) c x e = absurd (cc e)
stored_assigned exprs (Reset qubit) c x e = absurd (cc e)
stored_assigned exprs (Measure qubit into) c x e = second_of_both (is_fall x) (is_into into c) e
stored_assigned exprs (If test a b) c x e =
    either (stores false exprs a c x) (stores false exprs b c x) (λ h. or_first (assigns a c) (assigns b c) (stored_assigned exprs a c x h)) (λ h. or_second (assigns a c) (assigns b c) (stored_assigned exprs b c x h)) e
stored_assigned exprs (Block a) c x e =
    either (is_fall x && stores false exprs a c Falls) (stores false exprs a c (inside_block x)) (λ h. stored_assigned exprs a c Falls (second_of_both (is_fall x) (stores false exprs a c Falls) h)) (stored_assigned exprs a c (inside_block x)) e
stored_assigned exprs (Loop a) c x e =
    let back = stores false exprs a c (Agains 0) in
    let turned : (y : Exit) → (stores false exprs a c y || (passes a c y && back)) ≡ true → assigns a c ≡ true =
    λ y h. either (stores false exprs a c y) (passes a c y && back) (stored_assigned exprs a c y) (λ i. stored_assigned exprs a c (Agains 0) (second_of_both (passes a c y) back i)) h in
    either (is_fall x && (stores false exprs a c Falls || (passes a c Falls && back))) (stores false exprs a c (inside_loop x) || (passes a c (inside_loop x) && back))
    (λ h. turned Falls (second_of_both (is_fall x) (stores false exprs a c Falls || (passes a c Falls && back)) h)) (turned (inside_loop x)) e
stored_assigned exprs (Leave k) c x e = absurd (cc e)
stored_assigned exprs (Again k) c x e = absurd (cc e)

-- the open cells, and those that a statement assigns, are listed
abbrev OpenListed : List ℕ → Before → Type 0
OpenListed cells at = (c : ℕ) → at.open_cell c ≡ true → list_any (nat_eq c) cells ≡ true

abbrev AssignsListed : List ℕ → Stmt → Type 0
AssignsListed cells s = (c : ℕ) → assigns s c ≡ true → list_any (nat_eq c) cells ≡ true

after_listed : (cells : List ℕ) (exprs : List CoreExpr) (s : Stmt) (x : Exit) (at : Before) → AssignsListed cells s → OpenListed cells at → OpenListed cells (after exprs s x at)
after_listed cells exprs s x at named opens c e =
    either (at.reached && stores false exprs s c x) (passes s c x && at.open_cell c) (λ h. named c (stored_assigned exprs s c x (second_of_both at.reached (stores false exprs s c x) h)))
    (λ h. opens c (second_of_both (passes s c x) (at.open_cell c) h)) e

start_listed : (cells : List ℕ) (exprs : List CoreExpr) (a : Stmt) (at : Before) → AssignsListed cells a → OpenListed cells at → OpenListed cells (loop_start exprs a at)
start_listed cells exprs a at named opens c e =
    either (at.open_cell c) (at.reached && stores false exprs a c (Agains 0)) (opens c) (λ h. named c (stored_assigned exprs a c (Agains 0) (second_of_both at.reached (stores false exprs a c (Agains 0)) h))) e

open_few : (cells : List ℕ) (n : ℕ) (at : Before) → OpenListed cells at → open_cells n at ≤ length cells
open_few cells n at opens = omega (arith, count_less at.open_cell (λ c. list_any (nat_eq c) cells) 0 n opens, count_listed cells 0 n)

level_few : (n : ℕ) (xs : List ℕ) (k : ℕ) → AllByRecursion (λ x. x ≤ n) xs → at_level xs k ≤ n
level_few n [] k all = omega arith
level_few n (x ∷ xs) zero all = all.0
level_few n (x ∷ xs) (suc k) all = level_few n xs k all.1

abbrev pub works : List CoreExpr → ℕ
works exprs = count_by (λ (e : CoreExpr). is_working (Some e)) exprs

-- ---- weight and knots

weight_of_few : (cells : List ℕ) (n : ℕ) (exprs : List CoreExpr) (s : Stmt) (at : Before) (ends starts : List ℕ)
    → AssignsListed cells s → OpenListed cells at → AllByRecursion (λ x. x ≤ length cells) ends → AllByRecursion (λ x. x ≤ length cells) starts
    → weight_of n exprs s at ends starts ≤ price_of (weights (length cells) (works exprs)) s
weight_of_few cells n exprs Skip at ends starts named opens e b = omega arith
weight_of_few cells n exprs (Seq a c) at ends starts named opens e b =
    let first : AssignsListed cells a = λ d h. named d (or_first (assigns a d) (assigns c d) h) in
    let second : AssignsListed cells c = λ d h. named d (or_second (assigns a d) (assigns c d) h) in
    omega (arith, weight_of_few cells n exprs a at ends starts first opens e b, weight_of_few cells n exprs c (after exprs a Falls at) ends starts second (after_listed cells exprs a Falls at first opens) e b)
weight_of_few cells n exprs (Assign pairs) at ends starts named opens e b = nodes_few exprs (pair_exprs pairs)
weight_of_few cells n exprs (Gate leaf) at ends starts named opens e b = omega (arith, nodes_few exprs (leaf_exprs leaf))
weight_of_few cells n exprs (Reset qubit) at ends starts named opens e b = omega arith
weight_of_few cells n exprs (Measure qubit into) at ends starts named opens e b = omega arith
weight_of_few cells n exprs (If test a c) at ends starts named opens e b =
    let first : AssignsListed cells a = λ d h. named d (or_first (assigns a d) (assigns c d) h) in
    let second : AssignsListed cells c = λ d h. named d (or_second (assigns a d) (assigns c d) h) in
    let few = open_few cells n (after exprs (If test a c) Falls at) (after_listed cells exprs (If test a c) Falls at named opens) in
    omega (arith, nodes_few exprs (test ∷ []), few, weight_of_few cells n exprs a at ends starts first opens e b, weight_of_few cells n exprs c at ends starts second opens e b)
weight_of_few cells n exprs (Block a) at ends starts named opens e b =
    let few = open_few cells n (after exprs (Block a) Falls at) (after_listed cells exprs (Block a) Falls at named opens) in
    omega (arith, few, weight_of_few cells n exprs a at (open_cells n (after exprs (Block a) Falls at) ∷ ends) starts named opens (few, e) b)
weight_of_few cells n exprs (Loop a) at ends starts named opens e b =
    let few = open_few cells n (after exprs (Loop a) Falls at) (after_listed cells exprs (Loop a) Falls at named opens) in
    let start = start_listed cells exprs a at named opens in
    let first = open_few cells n (loop_start exprs a at) start in
    omega (arith, few, first, weight_of_few cells n exprs a (loop_start exprs a at) (open_cells n (after exprs (Loop a) Falls at) ∷ ends) (open_cells n (loop_start exprs a at) ∷ starts) named start (few, e) (first, b))
weight_of_few cells n exprs (Leave k) at ends starts named opens e b = omega (arith, level_few (length cells) ends k e)
weight_of_few cells n exprs (Again k) at ends starts named opens e b = omega (arith, level_few (length cells) starts k b)

listed_any : (cells : List ℕ) (c : ℕ) → Contains cells c → list_any (nat_eq c) cells ≡ true
listed_any cells c here = list_any_at (nat_eq c) cells here.0 c here.1 (eq-eqb c (get_or cells here.0 c) (sym here.2))

weight_few : (core : Core) (cells : List ℕ) (budget : ℕ) → ((c : ℕ) → Contains cells c ↔ (assigns (program_of core) c ≡ true))
    → price_of (weights (length cells) (works core.exprs)) (program_of core) ≤ budget → weight core ≤ budget + length core.outputs
weight_few core cells budget named enough =
    omega (arith, enough, weight_of_few cells (length core.cells) core.exprs (program_of core) begin [] [] (λ c h. listed_any cells c ((named c).1 h)) (λ c h. absurd (cc h)) tt tt)

pub weight_light : (core : Core) (cells body : List ℕ) (opened working outputs : ℕ) → body ≡ core.body → opened ≡ length cells → working ≡ works core.exprs → outputs ≡ length core.outputs → outputs ≤ 4000032
    → ((c : ℕ) → Contains cells c ↔ (assigns (body_of core.stmts body) c ≡ true)) → price_of (weights opened working) (program_of core) ≤ 4000032 - outputs → weight core ≤ 4000032
weight_light core cells body opened working outputs whole o w few l named enough =
    let known : (c : ℕ) → Contains cells c ↔ (assigns (program_of core) c ≡ true) = subst (λ (ks : List ℕ). (c : ℕ) → Contains cells c ↔ (assigns (body_of core.stmts ks) c ≡ true)) whole named in
    let first = subst (λ (n : ℕ). price_of (weights n working) (program_of core) ≤ 4000032 - outputs) o enough in
    let second = subst (λ (n : ℕ). price_of (weights (length cells) n) (program_of core) ≤ 4000032 - outputs) w first in
    omega (arith, few, l, weight_few core cells (4000032 - outputs) known second)

at_most_three : (b : Bool) → (if b then 3 else 2) ≤ 3
at_most_three true = omega arith
at_most_three false = omega arith

knots_of_few : (s : Stmt) → knots_of s ≤ price_of most_knots s
knots_of_few Skip = omega arith
knots_of_few (Seq a c) = omega (arith, knots_of_few a, knots_of_few c)
knots_of_few (Assign pairs) = omega arith
knots_of_few (Gate leaf) = omega arith
knots_of_few (Reset qubit) = omega arith
knots_of_few (Measure qubit into) = omega arith
knots_of_few (If test a c) = omega (arith, at_most_three (reaches a Falls && reaches c Falls), knots_of_few a, knots_of_few c)
knots_of_few (Block a) = omega (arith, knots_of_few a)
knots_of_few (Loop a) = omega (arith, knots_of_few a)
knots_of_few (Leave k) = omega arith
knots_of_few (Again k) = omega arith

pub knots_few : (core : Core) (budget : ℕ) → price_of most_knots (program_of core) ≤ budget → knots core ≤ budget
knots_few core budget enough = omega (arith, enough, knots_of_few (program_of core))

-- the statements of the program, going down as many levels as there are statements
pub program_is : (core : Core) → sequence (stmt_within core.stmts (length core.stmts)) core.body ≡ program_of core
unfolding stmt_of
program_is core = refl

-- ---- bodies

before_suc : (n : ℕ) → suc n - 1 ≡ n
before_suc n = omega arith

-- a statement's tree by its node, going down one level less
within_is : (stmts : List CoreStmt) (levels k : ℕ) → 0 < levels → stmt_within stmts levels k ≡ node_stmt (stmt_within stmts (levels - 1)) (slice_get stmts k)
within_is stmts zero k l = absurd (omega (arith, l))
within_is stmts (suc n) k l = ap (λ m. node_stmt (stmt_within stmts m) (slice_get stmts k)) (sym (before_suc n))

not_none : (n : ℕ) → n ≢ 0 → 0 < n
not_none zero not = absurd (not refl)
not_none (suc n) not = omega arith

node_leaves : (p : Prices) (stmts : List CoreStmt) (levels k : ℕ) (s : CoreStmt) (budget : ℕ) (left : Option ℕ) → 0 < levels → slice_get stmts k ≡ Some s
    → LeavesOf (price_of p (node_stmt (stmt_within stmts (levels - 1)) (Some s))) budget left → LeavesOf (price_of p (stmt_within stmts levels k)) budget left
node_leaves p stmts levels k s budget left l found leaves =
    subst (λ (t : Stmt). LeavesOf (price_of p t) budget left) (sym (within_is stmts levels k l ∙ ap (node_stmt (stmt_within stmts (levels - 1))) found)) leaves

pub found_leaves : (p : Prices) (stmts : List CoreStmt) (levels k : ℕ) (s : CoreStmt) (budget : ℕ) (left : Option ℕ) → levels ≢ 0 → k < length stmts → s ≡ get_or stmts k s
    → LeavesOf (price_of p (node_stmt (stmt_within stmts (levels - 1)) (Some s))) budget left → LeavesOf (price_of p (stmt_within stmts levels k)) budget left
found_leaves p stmts levels k s budget left some l is = node_leaves p stmts levels k s budget left (not_none levels some) (slice_get-get_or stmts k s l ∙ ap Some (sym is))

pub past_leaves : (p : Prices) (stmts : List CoreStmt) (levels k budget : ℕ) → length stmts ≤ k → LeavesOf (price_of p (stmt_within stmts levels k)) budget (Some budget)
past_leaves p stmts zero k budget l = omega arith
past_leaves p stmts (suc n) k budget l = subst (λ (o : Option CoreStmt). price_of p (node_stmt (stmt_within stmts n) o) + budget ≤ budget) (sym (slice_get_past stmts k l)) (omega arith)

price_append : (p : Prices) (tree : ℕ → Stmt) (xs : List ℕ) (k : ℕ) → price_of p (sequence tree (xs ++ k ∷ [])) ≡ price_of p (sequence tree xs) + price_of p (tree k)
price_append p tree [] k = omega arith
price_append p tree (x ∷ xs) k = omega (arith, price_append p tree xs k)

-- one statement more
pub price_more : (p : Prices) (tree : ℕ → Stmt) (xs : List ℕ) (i d : ℕ) → i < length xs
    → price_of p (sequence tree (take (i + 1) xs)) ≡ price_of p (sequence tree (take i xs)) + price_of p (tree (get_or xs i d))
price_more p tree xs i d l = ap (λ ys. price_of p (sequence tree ys)) (take_more xs i d l) ∙ price_append p tree (take i xs) (get_or xs i d)

-- ---- qubits

pub pairs_from : (qs : List QubitId) → AreDistinct qs → AllPairs (λ (a b : QubitId). a.0 ≢ b.0) qs
pairs_from [] all i j d l m = absurd (omega (arith, m))
pairs_from (q ∷ qs) all zero (suc j) d l m = All-from_recursion (λ (r : QubitId). q.0 ≢ r.0) qs all.0 j d (omega (arith, m))
pairs_from (q ∷ qs) all (suc i) (suc j) d l m = pairs_from qs all.1 i j d (omega (arith, l)) (omega (arith, m))
pairs_from (q ∷ qs) all i zero d l m = absurd (omega (arith, l))

-- ---- the whole

pub plain_from : (core : Core) → IsWellFormed core → All GatesDiffer core.stmts → IsSafe core.exprs
    → length core.cells ≤ 2147483648 → length core.exprs ≤ 4000000000 → length core.stmts ≤ 1048576 → length core.labels ≤ 16384 → core.qubits ≤ 1024
    → knots core ≤ 16001 → IsPlain core
plain_from core well_formed differ safe cells exprs stmts labels qubits few_knots = record {
  well_formed = well_formed;
  differ = differ;
  safe = safe;
  few_cells = cells;
  few_exprs = exprs;
  few_stmts = stmts;
  few_labels = labels;
  few_qubits = qubits;
  few_knots = few_knots;
}

pub fits_from : (core : Core) → IsPlain core → weight core ≤ 4000032 → reaches (program_of core) Falls ≡ true → Fits core
fits_from core plain light ends = record {
  well_formed = plain.well_formed;
  differ = plain.differ;
  safe = plain.safe;
  few_cells = plain.few_cells;
  few_exprs = plain.few_exprs;
  few_qubits = plain.few_qubits;
  few_labels = plain.few_labels;
  few_measures = omega (arith, plain.few_stmts, count_by-le-length is_measure core.stmts);
  end_reached = ends;
  light = light;
  few_knots = plain.few_knots;
}
