-- The levels around each statement, found from the numbers, are those of the program.
use Rattle.std.proofs.Common.{◌≡◌, ℕ, zero, suc, ◌+◌, ◌-◌, ◌<◌, ◌≤◌, inl, inr, nat_eq, Bool, true, false, if◌then◌else◌, All, List, [], ◌∷◌, ◌++◌, length, Option, Some, None, refl, sym, ap, ◌∙◌, subst, arith}
use Rattle.std.proofs.lemmas.Bool.{eqb-true}
use Rattle.std.specs.Prelude.{slice_get}
use Rattle.std.proofs.lemmas.Bool.{cases_lt, lt-ltb, le-ltb}
use Rattle.std.proofs.lemmas.Option.{slice_get_past}
use Rattle.core_ir.specs.declared.statement.CoreStmt.{CoreStmt}
use Rattle.core_ir.specs.declared.statement.CoreStmt.TheVariants.{Assign as AssignNode, Gate as GateNode, Reset as ResetNode, Measure as MeasureNode, If as IfNode, Block as BlockNode, Loop as LoopNode, Leave as LeaveNode, Again as AgainNode}
use Rattle.core_ir.specs.Tree.{Stmt, Seq, If, Block, Loop, sequence, node_stmt, stmt_within, stmt_of, body_of}
use Rattle.core_ir.specs.Levels.{opens, levels_below, LevelFits, LevelsFit, JumpHas}
use Rattle.core_ir.specs.WellFormed.{inner_of, bodies_in, times, IsLater, NamesLater, StandOnce, BodiesStand, HasLevels}
use Rattle.core_ir.proofs.Bodies.{member, times_here, times_behind, times_first, times_second, times_append, times_one, times_two, body_with}

-- ---- the trees of statements

sequence_same : (t u : ℕ → Stmt) (js : List ℕ) → ((j : ℕ) → 0 < times j js → t j ≡ u j) → sequence t js ≡ sequence u js
sequence_same t u [] e = refl
sequence_same t u (j ∷ js) e = ap (λ x. Seq x (sequence t js)) (e j (times_here j js)) ∙ ap (λ x. Seq (u j) x) (sequence_same t u js (λ k there. e k (times_behind k j js there)))

pub stmts_node_same : (t u : ℕ → Stmt) (o : Option CoreStmt) → ((j : ℕ) → 0 < times j (inner_of o) → t j ≡ u j) → node_stmt t o ≡ node_stmt u o
stmts_node_same t u None e = refl
stmts_node_same t u (Some (AssignNode pairs)) e = refl
stmts_node_same t u (Some (GateNode leaf)) e = refl
stmts_node_same t u (Some (ResetNode qubit)) e = refl
stmts_node_same t u (Some (MeasureNode qubit into)) e = refl
stmts_node_same t u (Some (IfNode test a b)) e =
    ap (λ x. If test x (sequence t b)) (sequence_same t u a (λ j there. e j (times_first j a b there)))
    ∙ ap (λ x. If test (sequence u a) x) (sequence_same t u b (λ j there. e j (times_second j a b there)))
stmts_node_same t u (Some (BlockNode a)) e = ap Block (sequence_same t u a e)
stmts_node_same t u (Some (LoopNode a)) e = ap Loop (sequence_same t u a e)
stmts_node_same t u (Some (LeaveNode k)) e = refl
stmts_node_same t u (Some (AgainNode k)) e = refl

-- what a body names stands later; behind the list nothing is named
pub later_at : (stmts : List CoreStmt) → NamesLater stmts → (k j : ℕ) → 0 < times j (inner_of (slice_get stmts k)) → (k < length stmts) × (k < j) × (j < length stmts)
later_at stmts later k j there = elim (cases_lt k (length stmts)) [
  | inl l ↦ (let found = member (IsLater k (length stmts)) j (inner_of (slice_get stmts k)) (later k l) there in (l, found.0, found.1))
  | inr past ↦ absurd (omega (arith, subst (λ o. 0 < times j (inner_of o)) (slice_get_past stmts k past) there))
]

pub enough : (stmts : List CoreStmt) → NamesLater stmts → (f g k : ℕ) → length stmts ≤ f + k → length stmts ≤ g + k → stmt_within stmts f k ≡ stmt_within stmts g k
enough stmts w zero zero k lf lg = refl
enough stmts w zero (suc g) k lf lg = sym (ap (node_stmt (stmt_within stmts g)) (slice_get_past stmts k (omega (arith, lf))))
enough stmts w (suc f) zero k lf lg = ap (node_stmt (stmt_within stmts f)) (slice_get_past stmts k (omega (arith, lg)))
enough stmts w (suc f) (suc g) k lf lg =
    stmts_node_same (stmt_within stmts f) (stmt_within stmts g) (slice_get stmts k)
    (λ j there. enough stmts w f g j (omega (arith, (later_at stmts w k j there).1, lf)) (omega (arith, (later_at stmts w k j there).1, lg)))

pub unfold_stmt : (stmts : List CoreStmt) (k : ℕ) → NamesLater stmts → stmt_of stmts k ≡ node_stmt (stmt_of stmts) (slice_get stmts k)
unfolding stmt_of
unfold_stmt stmts k w = enough stmts w (length stmts) (suc (length stmts)) k (omega arith) (omega arith)

-- ---- the levels around a statement

abbrev pub around : Bool → List CoreStmt → ℕ → ℕ
around loops stmts k = levels_below loops stmts k k

-- what stands in no body of the first n statements has no levels among them
levels_none : (loops : Bool) (stmts : List CoreStmt) (n k : ℕ) → ((i : ℕ) → times k (inner_of (slice_get stmts i)) ≤ 0) → levels_below loops stmts n k ≡ 0
levels_none loops stmts zero k free = refl
levels_none loops stmts (suc n) k free =
    ap (λ b. if b then opens loops (slice_get stmts n) + levels_below loops stmts n n else levels_below loops stmts n k) (le-ltb 0 (times k (inner_of (slice_get stmts n))) (free n))
    ∙ levels_none loops stmts n k free

levels_inner : (loops : Bool) (stmts : List CoreStmt) (d i k : ℕ) → 0 < times k (inner_of (slice_get stmts i)) → ((m : ℕ) → i < m → times k (inner_of (slice_get stmts m)) ≤ 0)
    → levels_below loops stmts (d + suc i) k ≡ opens loops (slice_get stmts i) + around loops stmts i
levels_inner loops stmts zero i k there free =
    (let down : 0 + suc i ≡ suc i = omega arith in ap (λ (n : ℕ). levels_below loops stmts n k) down)
    ∙ ap (λ b. if b then opens loops (slice_get stmts i) + levels_below loops stmts i i else levels_below loops stmts i k) (lt-ltb 0 (times k (inner_of (slice_get stmts i))) there)
levels_inner loops stmts (suc d) i k there free =
    let down : suc d + suc i ≡ suc (d + suc i) = omega arith in
    ap (λ (n : ℕ). levels_below loops stmts n k) down
    ∙ ap (λ b. if b then opens loops (slice_get stmts (d + suc i)) + levels_below loops stmts (d + suc i) (d + suc i) else levels_below loops stmts (d + suc i) k) (le-ltb 0 (times k (inner_of (slice_get stmts (d + suc i)))) (free (d + suc i) (omega arith)))
    ∙ levels_inner loops stmts d i k there free

-- around a statement of a body stand the levels around the body's statement, and that one where it is a level
pub around_inner : (loops : Bool) (body : List ℕ) (stmts : List CoreStmt) (i k : ℕ) → NamesLater stmts → StandOnce body stmts → 0 < times k (inner_of (slice_get stmts i))
    → around loops stmts k ≡ opens loops (slice_get stmts i) + around loops stmts i
around_inner loops body stmts i k later once there =
    let at = later_at stmts later i k there in
    let only : times k (body ++ bodies_in stmts) ≡ 1 = once k at.2 in
    let free : (m : ℕ) → i < m → times k (inner_of (slice_get stmts m)) ≤ 0 = λ m l. omega (arith, only, there, times_append k body (bodies_in stmts), times_two k i m stmts l) in
    let far : (d : ℕ) × (k ≡ d + suc i) = (k - suc i, omega (arith, at.1)) in
    ap (λ (n : ℕ). levels_below loops stmts n k) far.1 ∙ levels_inner loops stmts far.0 i k there free

-- around a statement of the whole program's body stand no levels
pub around_top : (loops : Bool) (body : List ℕ) (stmts : List CoreStmt) (k : ℕ) → k < length stmts → StandOnce body stmts → 0 < times k body → around loops stmts k ≡ 0
around_top loops body stmts k l once there =
    levels_none loops stmts k k (λ i. omega (arith, once k l, there, times_append k body (bodies_in stmts), times_one k i stmts))

-- ---- from the numbers to the program

each_has : (t : ℕ → Stmt) (js : List ℕ) (ends starts : ℕ) → ((j : ℕ) → 0 < times j js → HasLevels (t j) ends starts) → HasLevels (sequence t js) ends starts
each_has t [] ends starts has = tt
each_has t (j ∷ js) ends starts has = (has j (times_here j js), each_has t js ends starts (λ k there. has k (times_behind k j js there)))

one_has : (t : ℕ → Stmt) (js : List ℕ) (ends starts j : ℕ) → HasLevels (sequence t js) ends starts → 0 < times j js → HasLevels (t j) ends starts
one_has t [] ends starts j has there = absurd (omega (arith, there))
one_has t (k ∷ js) ends starts j has there = here (nat_eq k j) refl there (one_has t js ends starts j has.1)
  where
    here : (same : Bool) → nat_eq k j ≡ same → 0 < (if same then suc (times j js) else times j js) → (0 < times j js → HasLevels (t j) ends starts) → HasLevels (t j) ends starts
    here true is found behind = subst (λ (i : ℕ). HasLevels (t i) ends starts) (eqb-true k j is) has.0
    here false is found behind = behind found

-- what a statement's own bodies have, where it has levels
abbrev pub InnerHas : (ℕ → Stmt) → Option CoreStmt → ℕ → ℕ → Type 0
InnerHas t o ends starts = (j : ℕ) → 0 < times j (inner_of o) → HasLevels (t j) (opens false o + ends) (opens true o + starts)

zero_more : (t : Stmt) (ends starts : ℕ) → HasLevels t (0 + ends) (0 + starts) → HasLevels t ends starts
zero_more t ends starts has =
    let e : 0 + ends ≡ ends = omega arith in
    let s : 0 + starts ≡ starts = omega arith in
    subst (λ (n : ℕ). HasLevels t ends n) s (subst (λ (n : ℕ). HasLevels t n (0 + starts)) e has)

more_zero : (t : Stmt) (ends starts : ℕ) → HasLevels t ends starts → HasLevels t (0 + ends) (0 + starts)
more_zero t ends starts has =
    let e : ends ≡ 0 + ends = omega arith in
    let s : starts ≡ 0 + starts = omega arith in
    subst (λ (n : ℕ). HasLevels t (0 + ends) n) s (subst (λ (n : ℕ). HasLevels t n starts) e has)

one_less : (t : Stmt) (loop ends starts : ℕ) → HasLevels t (1 + ends) (loop + starts) → HasLevels t (suc ends) (loop + starts)
one_less t loop ends starts has = let e : 1 + ends ≡ suc ends = omega arith in subst (λ (n : ℕ). HasLevels t n (loop + starts)) e has

less_one : (t : Stmt) (loop ends starts : ℕ) → HasLevels t (suc ends) (loop + starts) → HasLevels t (1 + ends) (loop + starts)
less_one t loop ends starts has = let e : suc ends ≡ 1 + ends = omega arith in subst (λ (n : ℕ). HasLevels t n (loop + starts)) e has

starts_are : (t : Stmt) (ends n m : ℕ) → n ≡ m → HasLevels t ends n → HasLevels t ends m
starts_are t ends n m e has = subst (λ (k : ℕ). HasLevels t ends k) e has

node_has : (t : ℕ → Stmt) (o : Option CoreStmt) (ends starts : ℕ) → JumpHas o ends starts → InnerHas t o ends starts → HasLevels (node_stmt t o) ends starts
node_has t None ends starts jump inner = tt
node_has t (Some (AssignNode pairs)) ends starts jump inner = tt
node_has t (Some (GateNode leaf)) ends starts jump inner = tt
node_has t (Some (ResetNode qubit)) ends starts jump inner = tt
node_has t (Some (MeasureNode qubit into)) ends starts jump inner = tt
node_has t (Some (IfNode test a b)) ends starts jump inner =
    (each_has t a ends starts (λ j there. zero_more (t j) ends starts (inner j (times_first j a b there))), each_has t b ends starts (λ j there. zero_more (t j) ends starts (inner j (times_second j a b there))))
node_has t (Some (BlockNode a)) ends starts jump inner =
    each_has t a (suc ends) starts (λ j there. starts_are (t j) (suc ends) (0 + starts) starts (omega arith) (one_less (t j) 0 ends starts (inner j there)))
node_has t (Some (LoopNode a)) ends starts jump inner =
    each_has t a (suc ends) (suc starts) (λ j there. starts_are (t j) (suc ends) (1 + starts) (suc starts) (omega arith) (one_less (t j) 1 ends starts (inner j there)))
node_has t (Some (LeaveNode k)) ends starts jump inner = jump
node_has t (Some (AgainNode k)) ends starts jump inner = jump

has_jump : (t : ℕ → Stmt) (o : Option CoreStmt) (ends starts : ℕ) → HasLevels (node_stmt t o) ends starts → JumpHas o ends starts
has_jump t None ends starts has = tt
has_jump t (Some (AssignNode pairs)) ends starts has = tt
has_jump t (Some (GateNode leaf)) ends starts has = tt
has_jump t (Some (ResetNode qubit)) ends starts has = tt
has_jump t (Some (MeasureNode qubit into)) ends starts has = tt
has_jump t (Some (IfNode test a b)) ends starts has = tt
has_jump t (Some (BlockNode a)) ends starts has = tt
has_jump t (Some (LoopNode a)) ends starts has = tt
has_jump t (Some (LeaveNode k)) ends starts has = has
has_jump t (Some (AgainNode k)) ends starts has = has

has_inner : (t : ℕ → Stmt) (o : Option CoreStmt) (ends starts : ℕ) → HasLevels (node_stmt t o) ends starts → InnerHas t o ends starts
has_inner t None ends starts has j there = absurd (omega (arith, there))
has_inner t (Some (AssignNode pairs)) ends starts has j there = absurd (omega (arith, there))
has_inner t (Some (GateNode leaf)) ends starts has j there = absurd (omega (arith, there))
has_inner t (Some (ResetNode qubit)) ends starts has j there = absurd (omega (arith, there))
has_inner t (Some (MeasureNode qubit into)) ends starts has j there = absurd (omega (arith, there))
has_inner t (Some (IfNode test a b)) ends starts has j there =
    elim (cases_lt 0 (times j a)) [
      | inl here ↦ more_zero (t j) ends starts (one_has t a ends starts j has.0 here)
      | inr none ↦ more_zero (t j) ends starts (one_has t b ends starts j has.1 (omega (arith, there, none, times_append j a b)))
    ]
has_inner t (Some (BlockNode a)) ends starts has j there =
    less_one (t j) 0 ends starts (starts_are (t j) (suc ends) starts (0 + starts) (omega arith) (one_has t a (suc ends) starts j has there))
has_inner t (Some (LoopNode a)) ends starts has j there =
    less_one (t j) 1 ends starts (starts_are (t j) (suc ends) (suc starts) (1 + starts) (omega arith) (one_has t a (suc ends) (suc starts) j has there))
has_inner t (Some (LeaveNode k)) ends starts has j there = absurd (omega (arith, there))
has_inner t (Some (AgainNode k)) ends starts has j there = absurd (omega (arith, there))

-- a statement with the levels that are around it
abbrev pub HasAround : List CoreStmt → Stmt → ℕ → Type 0
HasAround stmts t k = HasLevels t (around false stmts k) (around true stmts k)

has_as : (t : Stmt) (e f s u : ℕ) → e ≡ f → s ≡ u → HasLevels t e s → HasLevels t f u
has_as t e f s u same also has = subst (λ (n : ℕ). HasLevels t f n) also (subst (λ (n : ℕ). HasLevels t n s) same has)

pub jump_here : (stmts : List CoreStmt) (k : ℕ) (o : Option CoreStmt) → LevelFits stmts k o → JumpHas o (around false stmts k) (around true stmts k)
jump_here stmts k None fits = tt
jump_here stmts k (Some (AssignNode pairs)) fits = tt
jump_here stmts k (Some (GateNode leaf)) fits = tt
jump_here stmts k (Some (ResetNode qubit)) fits = tt
jump_here stmts k (Some (MeasureNode qubit into)) fits = tt
jump_here stmts k (Some (IfNode test a b)) fits = tt
jump_here stmts k (Some (BlockNode a)) fits = tt
jump_here stmts k (Some (LoopNode a)) fits = tt
jump_here stmts k (Some (LeaveNode n)) fits = fits
jump_here stmts k (Some (AgainNode n)) fits = fits

pub fits_here : (stmts : List CoreStmt) (k : ℕ) (o : Option CoreStmt) → JumpHas o (around false stmts k) (around true stmts k) → LevelFits stmts k o
fits_here stmts k None jump = tt
fits_here stmts k (Some (AssignNode pairs)) jump = tt
fits_here stmts k (Some (GateNode leaf)) jump = tt
fits_here stmts k (Some (ResetNode qubit)) jump = tt
fits_here stmts k (Some (MeasureNode qubit into)) jump = tt
fits_here stmts k (Some (IfNode test a b)) jump = tt
fits_here stmts k (Some (BlockNode a)) jump = tt
fits_here stmts k (Some (LoopNode a)) jump = tt
fits_here stmts k (Some (LeaveNode n)) jump = jump
fits_here stmts k (Some (AgainNode n)) jump = jump

down : (body : List ℕ) (stmts : List CoreStmt) → NamesLater stmts → StandOnce body stmts → LevelsFit stmts → (f k : ℕ) → k < length stmts → HasAround stmts (stmt_within stmts f k) k
down body stmts later once fits zero k l = tt
down body stmts later once fits (suc f) k l =
    node_has (stmt_within stmts f) (slice_get stmts k) (around false stmts k) (around true stmts k) (jump_here stmts k (slice_get stmts k) (fits k l))
    (λ j there. has_as (stmt_within stmts f j) (around false stmts j) (opens false (slice_get stmts k) + around false stmts k) (around true stmts j) (opens true (slice_get stmts k) + around true stmts k)
    (around_inner false body stmts k j later once there) (around_inner true body stmts k j later once there)
    (down body stmts later once fits f j (later_at stmts later k j there).2))

pub program_has : (body : List ℕ) (stmts : List CoreStmt) → All (λ k. k < length stmts) body → NamesLater stmts → StandOnce body stmts → LevelsFit stmts → HasLevels (body_of stmts body) 0 0
unfolding stmt_of
program_has body stmts named later once fits =
    each_has (stmt_of stmts) body 0 0 (λ j there.
    let l = member (λ k. k < length stmts) j body named there in
    has_as (stmt_of stmts j) (around false stmts j) 0 (around true stmts j) 0 (around_top false body stmts j l once there) (around_top true body stmts j l once there)
    (down body stmts later once fits (length stmts) j l))

-- ---- from the program to the numbers

up : (body : List ℕ) (stmts : List CoreStmt) → NamesLater stmts → StandOnce body stmts → HasLevels (body_of stmts body) 0 0 → (bound k : ℕ) → k < bound → k < length stmts → HasAround stmts (stmt_of stmts k) k
up body stmts later once has zero k l there = absurd (omega (arith, l))
up body stmts later once has (suc bound) k l there =
    elim (cases_lt 0 (times k body)) [
      | inl top ↦
          has_as (stmt_of stmts k) 0 (around false stmts k) 0 (around true stmts k) (sym (around_top false body stmts k there once top)) (sym (around_top true body stmts k there once top))
          (one_has (stmt_of stmts) body 0 0 k has top)
      | inr none ↦ within (body_with k stmts (omega (arith, none, once k there, times_append k body (bodies_in stmts)))) (λ i lt at. up body stmts later once has bound i (omega (arith, lt, l)) at)
    ]
  where
    within : (i : ℕ) × (i < length stmts) × (0 < times k (inner_of (slice_get stmts i))) → ((i : ℕ) → i < k → i < length stmts → HasAround stmts (stmt_of stmts i) i) → HasAround stmts (stmt_of stmts k) k
    within (i, at, held) below =
        has_as (stmt_of stmts k) (opens false (slice_get stmts i) + around false stmts i) (around false stmts k) (opens true (slice_get stmts i) + around true stmts i) (around true stmts k)
        (sym (around_inner false body stmts i k later once held)) (sym (around_inner true body stmts i k later once held))
        (has_inner (stmt_of stmts) (slice_get stmts i) (around false stmts i) (around true stmts i)
        (subst (λ t. HasAround stmts t i) (unfold_stmt stmts i later) (below i (later_at stmts later i k held).1 at)) k held)

pub numbers_have : (body : List ℕ) (stmts : List CoreStmt) → NamesLater stmts → StandOnce body stmts → HasLevels (body_of stmts body) 0 0 → LevelsFit stmts
numbers_have body stmts later once has k l =
    fits_here stmts k (slice_get stmts k)
    (has_jump (stmt_of stmts) (slice_get stmts k) (around false stmts k) (around true stmts k)
    (subst (λ t. HasAround stmts t k) (unfold_stmt stmts k later) (up body stmts later once has (suc k) k (omega arith) l)))

-- ---- for the code

pub levels_to : (body : List ℕ) (stmts : List CoreStmt) → BodiesStand body stmts → LevelsFit stmts → HasLevels (body_of stmts body) 0 0
levels_to body stmts stand fits = program_has body stmts stand.named stand.later stand.once fits

pub levels_from : (body : List ℕ) (stmts : List CoreStmt) → BodiesStand body stmts → HasLevels (body_of stmts body) 0 0 → LevelsFit stmts
levels_from body stmts stand has = numbers_have body stmts stand.later stand.once has
