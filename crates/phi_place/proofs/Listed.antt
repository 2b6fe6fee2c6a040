-- The cells that statements assign, as they are listed.
use Rattle.std.proofs.Common.{◌≡◌, ℕ, zero, suc, ◌+◌, ◌<◌, ◌≤◌, ◌⊎◌, inl, inr, nat_eq, Bool, true, false, ◌||◌, All, List, [], ◌∷◌, ◌++◌, length, map, get_or, drop, Some, None, refl, sym, ap, ◌∙◌, subst, ⊎_elim, arith, append_assoc}
use Rattle.std.specs.Prelude.{Contains}
use Rattle.std.specs.Option.{option_to_list}
use Rattle.std.proofs.lemmas.Bool.{false≢true, eq-eqb, eqb-true}
use Rattle.std.proofs.lemmas.List.{drop_more}
use Rattle.std.proofs.lemmas.List.Elements.{All-head, All-tail, All-cons, All-nil, Contains-append_left, Contains-append_right, Contains-append_cases}
use Rattle.std.proofs.lemmas.Option.{slice_get-get_or}
use Rattle.core_ir.specs.declared.statement.CoreStmt.{CoreStmt}
use Rattle.core_ir.specs.declared.statement.CoreStmt.TheVariants.{Assign as AssignNode, Gate as GateNode, Reset as ResetNode, Measure as MeasureNode, If as IfNode, Block as BlockNode, Loop as LoopNode, Leave as LeaveNode, Again as AgainNode}
use Rattle.core_ir.specs.Tree.{Stmt, Skip, Seq, Assign, Gate, Reset, Measure, If, Block, Loop, Leave, Again, sequence, node_stmt, stmt_of}
use Rattle.core_ir.specs.Ways.{assigns, names_cell}
use Rattle.core_ir.specs.WellFormed.{inner_of, IsLater, NamesLater}
use Rattle.core_ir.specs.Laws.{StmtsUnfold}
use Rattle.phi_place.specs.Assigned.{cells_in, own_cells, first_body, second_body}

-- ---- lists

append_nil : {A : Type 0} (xs : List A) → xs ++ [] ≡ xs
append_nil [] = refl
append_nil (x ∷ xs) = ap (λ ys. x ∷ ys) (append_nil xs)

all_left : (P : ℕ → Type 0) (xs ys : List ℕ) → All P (xs ++ ys) → All P xs
all_left P [] ys all = All-nil P
all_left P (x ∷ xs) ys all = All-cons P x xs (All-head P x (xs ++ ys) all) (all_left P xs ys (All-tail P x (xs ++ ys) all))

all_right : (P : ℕ → Type 0) (xs ys : List ℕ) → All P (xs ++ ys) → All P ys
all_right P [] ys all = all
all_right P (x ∷ xs) ys all = all_right P xs ys (All-tail P x (xs ++ ys) all)

-- ---- bodies

inner_is : (s : CoreStmt) → inner_of (Some s) ≡ first_body s ++ second_body s
inner_is (AssignNode pairs) = refl
inner_is (GateNode leaf) = refl
inner_is (ResetNode qubit) = refl
inner_is (MeasureNode qubit into) = refl
inner_is (IfNode test a b) = refl
inner_is (BlockNode a) = sym (append_nil a)
inner_is (LoopNode a) = sym (append_nil a)
inner_is (LeaveNode k) = refl
inner_is (AgainNode k) = refl

later_both : (stmts : List CoreStmt) (k : ℕ) (s : CoreStmt) → NamesLater stmts → k < length stmts → s ≡ get_or stmts k s → All (IsLater k (length stmts)) (first_body s ++ second_body s)
later_both stmts k s later l is =
    subst (All (IsLater k (length stmts))) (ap inner_of (slice_get-get_or stmts k s l ∙ ap Some (sym is)) ∙ inner_is s) (later k l)

pub later_first : (stmts : List CoreStmt) (k : ℕ) (s : CoreStmt) → NamesLater stmts → k < length stmts → s ≡ get_or stmts k s → All (IsLater k (length stmts)) (first_body s)
later_first stmts k s later l is = all_left (IsLater k (length stmts)) (first_body s) (second_body s) (later_both stmts k s later l is)

pub later_second : (stmts : List CoreStmt) (k : ℕ) (s : CoreStmt) → NamesLater stmts → k < length stmts → s ≡ get_or stmts k s → All (IsLater k (length stmts)) (second_body s)
later_second stmts k s later l is = all_right (IsLater k (length stmts)) (first_body s) (second_body s) (later_both stmts k s later l is)

-- ---- the list of a statement

cells_node : (t : ℕ → Stmt) (s : CoreStmt) → cells_in (node_stmt t (Some s)) ≡ own_cells s ++ (cells_in (sequence t (first_body s)) ++ cells_in (sequence t (second_body s)))
cells_node t (AssignNode pairs) = sym (append_nil (map (λ (p : ℕ × ℕ). p.0) pairs))
cells_node t (GateNode leaf) = refl
cells_node t (ResetNode qubit) = refl
cells_node t (MeasureNode qubit into) = sym (append_nil (option_to_list into))
cells_node t (IfNode test a b) = refl
cells_node t (BlockNode a) = sym (append_nil (cells_in (sequence t a)))
cells_node t (LoopNode a) = sym (append_nil (cells_in (sequence t a)))
cells_node t (LeaveNode k) = refl
cells_node t (AgainNode k) = refl

-- what was listed and the statement's own cells, and then those of its bodies
pub cells_start : (stmts : List CoreStmt) (k : ℕ) (s : CoreStmt) (listed : List ℕ) → StmtsUnfold → NamesLater stmts → k < length stmts → s ≡ get_or stmts k s
    → (listed ++ own_cells s) ++ (cells_in (sequence (stmt_of stmts) (first_body s)) ++ cells_in (sequence (stmt_of stmts) (second_body s))) ≡ listed ++ cells_in (stmt_of stmts k)
cells_start stmts k s listed unfolds later l is =
    append_assoc listed (own_cells s) (cells_in (sequence (stmt_of stmts) (first_body s)) ++ cells_in (sequence (stmt_of stmts) (second_body s)))
    ∙ ap (λ cells. listed ++ cells) (sym (ap cells_in (unfolds stmts k later ∙ ap (node_stmt (stmt_of stmts)) (slice_get-get_or stmts k s l ∙ ap Some (sym is))) ∙ cells_node (stmt_of stmts) s))

-- one statement further
pub cells_step : (t : ℕ → Stmt) (js : List ℕ) (i d : ℕ) → i < length js → cells_in (sequence t (drop i js)) ≡ cells_in (t (get_or js i d)) ++ cells_in (sequence t (drop (i + 1) js))
cells_step t js i d l = ap (λ ks. cells_in (sequence t ks)) (drop_more js i d l)

-- ---- what is listed is assigned

contains_one : (k c : ℕ) → Contains (k ∷ []) c → nat_eq k c ≡ true
contains_one k c has = one has.0 has.1 has.2
  where
    one : (i : ℕ) → i < 1 → get_or (k ∷ []) i c ≡ c → nat_eq k c ≡ true
    one zero l is = eq-eqb k c is
    one (suc i) l is = absurd (omega (arith, l))

one_contains : (k c : ℕ) → nat_eq k c ≡ true → Contains (k ∷ []) c
one_contains k c same = (0, omega arith, eqb-true k c same)

none_contains : (c : ℕ) → Contains [] c → ⊥
none_contains c has = absurd (omega (arith, has.1))

or_left : (a b : Bool) → a ≡ true → (a || b) ≡ true
or_left a b e = ap (λ x. x || b) e

or_right : (a b : Bool) → b ≡ true → (a || b) ≡ true
or_right true b e = refl
or_right false b e = e

or_cases : (a b : Bool) → (a || b) ≡ true → (a ≡ true) ⊎ (b ≡ true)
or_cases true b e = inl refl
or_cases false b e = inr e

pairs_assign : (pairs : List (ℕ × ℕ)) (c : ℕ) → Contains (map (λ (p : ℕ × ℕ). p.0) pairs) c → names_cell pairs c ≡ true
pairs_assign [] c has = absurd (none_contains c has)
pairs_assign (p ∷ pairs) c has =
    ⊎_elim (λ here. or_left (nat_eq p.0 c) (names_cell pairs c) (contains_one p.0 c here)) (λ behind. or_right (nat_eq p.0 c) (names_cell pairs c) (pairs_assign pairs c behind))
    (Contains-append_cases (p.0 ∷ []) (map (λ (q : ℕ × ℕ). q.0) pairs) c has)

assign_pairs : (pairs : List (ℕ × ℕ)) (c : ℕ) → names_cell pairs c ≡ true → Contains (map (λ (p : ℕ × ℕ). p.0) pairs) c
assign_pairs [] c names = absurd (false≢true names)
assign_pairs (p ∷ pairs) c names =
    ⊎_elim (λ here. Contains-append_left (p.0 ∷ []) (map (λ (q : ℕ × ℕ). q.0) pairs) c (one_contains p.0 c here))
    (λ behind. Contains-append_right (p.0 ∷ []) (map (λ (q : ℕ × ℕ). q.0) pairs) c (assign_pairs pairs c behind))
    (or_cases (nat_eq p.0 c) (names_cell pairs c) names)

both_assign : (a b : Stmt) (c : ℕ) → (Contains (cells_in a) c → assigns a c ≡ true) → (Contains (cells_in b) c → assigns b c ≡ true) → Contains (cells_in a ++ cells_in b) c → (assigns a c || assigns b c) ≡ true
both_assign a b c first second has =
    ⊎_elim (λ here. or_left (assigns a c) (assigns b c) (first here)) (λ there. or_right (assigns a c) (assigns b c) (second there)) (Contains-append_cases (cells_in a) (cells_in b) c has)

assign_both : (a b : Stmt) (c : ℕ) → (assigns a c ≡ true → Contains (cells_in a) c) → (assigns b c ≡ true → Contains (cells_in b) c) → (assigns a c || assigns b c) ≡ true → Contains (cells_in a ++ cells_in b) c
assign_both a b c first second is =
    ⊎_elim (λ here. Contains-append_left (cells_in a) (cells_in b) c (first here)) (λ there. Contains-append_right (cells_in a) (cells_in b) c (second there)) (or_cases (assigns a c) (assigns b c) is)

pub listed_assigns : (s : Stmt) (c : ℕ) → Contains (cells_in s) c → assigns s c ≡ true
listed_assigns Skip c has = absurd (none_contains c has)
listed_assigns (Seq a b) c has = both_assign a b c (λ h. listed_assigns a c h) (λ h. listed_assigns b c h) has
listed_assigns (Assign pairs) c has = pairs_assign pairs c has
listed_assigns (Gate leaf) c has = absurd (none_contains c has)
listed_assigns (Reset qubit) c has = absurd (none_contains c has)
listed_assigns (Measure qubit None) c has = absurd (none_contains c has)
listed_assigns (Measure qubit (Some k)) c has = contains_one k c has
listed_assigns (If test a b) c has = both_assign a b c (λ h. listed_assigns a c h) (λ h. listed_assigns b c h) has
listed_assigns (Block a) c has = listed_assigns a c has
listed_assigns (Loop a) c has = listed_assigns a c has
listed_assigns (Leave k) c has = absurd (none_contains c has)
listed_assigns (Again k) c has = absurd (none_contains c has)

pub assigns_listed : (s : Stmt) (c : ℕ) → assigns s c ≡ true → Contains (cells_in s) c
assigns_listed Skip c is = absurd (false≢true is)
assigns_listed (Seq a b) c is = assign_both a b c (λ h. assigns_listed a c h) (λ h. assigns_listed b c h) is
assigns_listed (Assign pairs) c is = assign_pairs pairs c is
assigns_listed (Gate leaf) c is = absurd (false≢true is)
assigns_listed (Reset qubit) c is = absurd (false≢true is)
assigns_listed (Measure qubit None) c is = absurd (false≢true is)
assigns_listed (Measure qubit (Some k)) c is = one_contains k c is
assigns_listed (If test a b) c is = assign_both a b c (λ h. assigns_listed a c h) (λ h. assigns_listed b c h) is
assigns_listed (Block a) c is = assigns_listed a c is
assigns_listed (Loop a) c is = assigns_listed a c is
assigns_listed (Leave k) c is = absurd (false≢true is)
assigns_listed (Again k) c is = absurd (false≢true is)

-- ---- for the code

drop_zero : {A : Type 0} (xs : List A) → drop 0 xs ≡ xs
drop_zero [] = refl
drop_zero (x ∷ xs) = refl

drop_past : {A : Type 0} (i : ℕ) (xs : List A) → length xs ≤ i → drop i xs ≡ []
drop_past zero [] l = refl
drop_past zero (x ∷ xs) l = absurd (omega (arith, l))
drop_past (suc i) [] l = refl
drop_past (suc i) (x ∷ xs) l = drop_past i xs (omega (arith, l))

pub cells_begin : (stmts : List CoreStmt) (k : ℕ) (s : CoreStmt) (listed cells first : List ℕ) → StmtsUnfold → NamesLater stmts → k < length stmts → s ≡ get_or stmts k s → cells ≡ listed ++ own_cells s → first ≡ first_body s
    → cells ++ (cells_in (sequence (stmt_of stmts) (drop 0 first)) ++ cells_in (sequence (stmt_of stmts) (second_body s))) ≡ listed ++ cells_in (stmt_of stmts k)
cells_begin stmts k s listed cells first unfolds later l is own body =
    ap (λ cs. cs ++ (cells_in (sequence (stmt_of stmts) (drop 0 first)) ++ cells_in (sequence (stmt_of stmts) (second_body s)))) own
    ∙ ap (λ js. (listed ++ own_cells s) ++ (cells_in (sequence (stmt_of stmts) js) ++ cells_in (sequence (stmt_of stmts) (second_body s)))) (drop_zero first ∙ body)
    ∙ cells_start stmts k s listed unfolds later l is

pub listed_all : (t : ℕ → Stmt) (js cells : List ℕ) (i : ℕ) → length js ≤ i → cells ++ cells_in (sequence t (drop i js)) ≡ cells_in (sequence t js) → cells ≡ cells_in (sequence t js)
listed_all t js cells i l is = sym (append_nil cells) ∙ ap (λ ks. cells ++ cells_in (sequence t ks)) (sym (drop_past i js l)) ∙ is
