-- The module keeps the limits of the profile.
use Rattle.std.proofs.Common.{◌≡◌, ◌≢◌, ℕ, zero, suc, ◌+◌, ◌*◌, ◌<◌, ◌≤◌, nat_eq, nat_lt, nat_le, if◌then◌else◌, Bool, true, false, ◌&&◌, ◌||◌, All, List, [], ◌∷◌, ◌++◌, map, length, Option, Some, None, refl, sym, ap, ◌∙◌, subst, arith, length-append, lt-ltb, le-leb, eq-eqb, eqb-true}
use Rattle.std.specs.Prelude.{slice_get, count_by, cond}
use Rattle.std.specs.List.{sum_by, flat_map, list_all, AllByRecursion}
use Rattle.std.proofs.lemmas.List.Sums.{sum_by-cons}
use Rattle.std.proofs.lemmas.List.Elements.{recursion_from_All}
use Rattle.qir_module.specs.declared.instruction.Operand.{Operand}
use Rattle.qir_module.specs.declared.instruction.Instr.{Instr}
use Rattle.qir_module.specs.declared.instruction.Instr.TheVariants.{Op, Zext, Trunc, Select, Call}
use Rattle.qir_module.specs.declared.instruction.Last.TheVariants.{Jump}
use Rattle.qir_module.specs.declared.block.Phi.{Phi}
use Rattle.qir_module.specs.declared.block.Block.{Block as ModuleBlock}
use Rattle.qir_module.specs.Items.{block_items, items_of}
use Rattle.qir_module.specs.Numbered.{CountsFrom, registers_of, block_registers}
use Rattle.qir_module.specs.Spots.{Item, items_in, Spot}
use Rattle.qir_module.specs.Passes.{IsKept, at_first_item, item_registers, block_assigned, limits_kept}
use Rattle.core_ir.specs.declared.expression.CellKind.{CellKind}
use Rattle.core_ir.specs.declared.expression.CoreExpr.{CoreExpr}
use Rattle.core_ir.specs.declared.statement.CoreStmt.{CoreStmt}
use Rattle.core_ir.specs.declared.statement.CoreStmt.TheVariants.{Assign as AssignNode, Gate as GateNode, Reset as ResetNode, Measure as MeasureNode, If as IfNode, Block as BlockNode, Loop as LoopNode, Leave as LeaveNode, Again as AgainNode}
use Rattle.core_ir.specs.declared.program.Output.{Output}
use Rattle.core_ir.specs.Core.{Core}
use Rattle.core_ir.specs.Laws.{StmtsUnfold}
use Rattle.core_ir.specs.Size.{open_cells, weight_of, joined_of}
use Rattle.core_ir.specs.Tree.{sequence, node_stmt, stmt_of, Stmt, Skip, Seq, Assign, Gate, Reset, Measure, If, Block, Loop, Leave, Again, program_of}
use Rattle.core_ir.specs.Ways.{Falls, reaches, assigns, Before, begin, after, loop_start}
use Rattle.core_ir.specs.WellFormed.{inner_of, bodies_in, times, IsLater, NamesLater, is_measure}
use Rattle.phi_place.specs.State.{CellState}
use Rattle.phi_place.specs.Phis.{WaysCarry, SameWhereNotDiffer}
use Rattle.block_graph.specs.Laws.{IsLowerable, IsSmallWork}
use Rattle.block_graph.specs.Work.{Draft, Level, Open, Work}
use Rattle.block_graph.specs.Lowering.{Coder, close, when_open, leave_work, leave_zero, join_work, open_end, close_end, start_needs, open_loop, close_start, open_first, fall_work, fall_ways, open_second, join_bodies, two_bodies, lower_of, first_work, end_work, settled_phis, lowered}
use Rattle.block_graph.specs.Claims.{traced_draft, traced_now, traced, phi_registers, counted_draft, counted_now, entries_in, no_phis, no_code, one_each, phis_in, items_in as items_of_work, phis_counted, NumbersInOrder}
use Rattle.block_graph.proofs.Coding.{both}
use Rattle.block_graph.proofs.Walking.{late_phis, program_settles, walk}
use Rattle.block_graph.proofs.Flow.{and_cases}
use Rattle.block_graph.proofs.Sizing.{count_less, ones}
use Rattle.block_graph.proofs.Spotting.{spot_at, each_spot, all_middle, all_get}
use Rattle.block_graph.proofs.Ruling.{first_true, true_split, blocks_same}
use Rattle.block_graph.proofs.Ordering.{order_steps, start_order, is_in_order}
use Rattle.block_graph.proofs.Bounding.{program_grown, first_small, is_within}
use Rattle.block_graph.proofs.Whole.{first_valid, program_fits}

-- ---- phis are within the weight

pub joined_less : (n : ℕ) (exprs : List CoreExpr) (s : Stmt) (at : Before) (ends starts : List ℕ) → joined_of n exprs s at ≤ weight_of n exprs s at ends starts
joined_less n exprs Skip at ends starts = omega arith
joined_less n exprs (Seq a b) at ends starts = omega (arith, joined_less n exprs a at ends starts, joined_less n exprs b (after exprs a Falls at) ends starts)
joined_less n exprs (Assign pairs) at ends starts = omega arith
joined_less n exprs (Gate leaf) at ends starts = omega arith
joined_less n exprs (Reset qubit) at ends starts = omega arith
joined_less n exprs (Measure qubit into) at ends starts = omega arith
joined_less n exprs (If test a b) at ends starts =
    let open_behind = (after exprs (If test a b) Falls at).open_cell in
    let less = count_less (λ c. open_behind c && (assigns a c || assigns b c)) open_behind 0 n (λ c e. (and_cases (open_behind c) (assigns a c || assigns b c) e).0) in
    omega (arith, less, joined_less n exprs a at ends starts, joined_less n exprs b at ends starts)
joined_less n exprs (Block a) at ends starts =
    let open_behind = (after exprs (Block a) Falls at).open_cell in
    let less = count_less (λ c. open_behind c && assigns a c) open_behind 0 n (λ c e. (and_cases (open_behind c) (assigns a c) e).0) in
    omega (arith, less, joined_less n exprs a at (open_cells n (after exprs (Block a) Falls at) ∷ ends) starts)
joined_less n exprs (Loop a) at ends starts =
    let open_behind = (after exprs (Loop a) Falls at).open_cell in
    let open_start = (loop_start exprs a at).open_cell in
    let less = count_less (λ c. open_behind c && assigns a c) open_behind 0 n (λ c e. (and_cases (open_behind c) (assigns a c) e).0) in
    let first = count_less (λ c. open_start c && assigns a c) open_start 0 n (λ c e. (and_cases (open_start c) (assigns a c) e).0) in
    omega (arith, less, first, joined_less n exprs a (loop_start exprs a at) (open_cells n (after exprs (Loop a) Falls at) ∷ ends) (open_cells n (loop_start exprs a at) ∷ starts))
joined_less n exprs (Leave k) at ends starts = omega arith
joined_less n exprs (Again k) at ends starts = omega arith

-- ---- registers are few

one_register : (i : Instr) → length (registers_of i) ≤ 1
one_register (Op r op truth left right) = omega arith
one_register (Zext r from) = omega arith
one_register (Trunc r from) = omega arith
one_register (Select r truth test chosen other) = omega arith
one_register (Call None function args) = omega arith
one_register (Call (Some r) function args) = omega arith

body_registers : (body : List Instr) → length (flat_map registers_of body) ≤ length body
body_registers [] = omega arith
body_registers (i ∷ body) = omega (arith, one_register i, body_registers body, length-append (registers_of i) (flat_map registers_of body))

registers_long : (phis : List Phi) → length (map (λ (p : Phi). p.register) phis) ≡ length phis
registers_long [] = refl
registers_long (p ∷ phis) = ap suc (registers_long phis)

registers_less : (blocks : List ModuleBlock) → length (flat_map block_registers blocks) ≤ sum_by (λ (b : ModuleBlock). length b.phis) blocks + items_of blocks
registers_less [] = omega arith
registers_less (b ∷ blocks) =
    let r = registers_less blocks in
    let p = sum_by-cons (λ (b : ModuleBlock). length b.phis) b blocks in
    let q = sum_by-cons block_items b blocks in
    let l = length-append (block_registers b) (flat_map block_registers blocks) in
    let o = length-append (map (λ (p : Phi). p.register) b.phis) (flat_map registers_of b.body) in
    omega (arith, r, p, q, l, o, registers_long b.phis, body_registers b.body)

counts_below : (n bound : ℕ) (xs : List ℕ) → CountsFrom n xs → n + length xs ≤ bound → list_all (λ r. nat_lt r bound) xs ≡ true
counts_below n bound [] c le = refl
counts_below n bound (x ∷ xs) c le = both (nat_lt x bound) (list_all (λ r. nat_lt r bound) xs) (lt-ltb x bound (omega (arith, c.0, le))) (counts_below (suc n) bound xs c.1 (omega (arith, le)))

-- ---- results are as few as the measurements of the tree

abbrev measures_of : Stmt → ℕ
measures_of (Seq a b) = measures_of a + measures_of b
measures_of (Measure qubit into) = 1
measures_of (If test a b) = measures_of a + measures_of b
measures_of (Block a) = measures_of a
measures_of (Loop a) = measures_of a
measures_of Skip = 0
measures_of (Assign pairs) = 0
measures_of (Gate leaf) = 0
measures_of (Reset qubit) = 0
measures_of (Leave k) = 0
measures_of (Again k) = 0

join_results : (kinds : List CellKind) (label : ℕ) (ways : List CellState) (x : Work) → (join_work kinds label ways x).results ≡ x.results
join_results kinds label [] x = refl
join_results kinds label (way ∷ ways) x = refl

close_end_results : (kinds : List CellKind) (ls : List Level) (x : Work) → (close_end kinds ls x).results ≡ x.results
close_end_results kinds [] x = refl
close_end_results kinds (l ∷ ls) x = join_results kinds l.label l.ways (record x { ends = ls })

close_start_results : (kinds : List CellKind) (needs : ℕ → Bool) (late next : ℕ) (ls : List Level) (v : Work) → (close_start kinds needs late next ls v).results ≡ v.results
close_start_results kinds needs late next [] v = refl
close_start_results kinds needs late next (l ∷ ls) v = refl

fall_results : (label : ℕ) (v : Work) (now : Option Open) → (when_open now v (λ o. close v o (Jump label))).results ≡ v.results
fall_results label v None = refl
fall_results label v (Some o) = refl

leave_results : (k : ℕ) (v : Work) (now : Option Open) → (when_open now v (leave_work k v)).results ≡ v.results
leave_results k v None = refl
leave_results k v (Some o) = refl

bodies_results : (kinds : List CellKind) (label : ℕ) (ways : List CellState) (u : Work) → (join_bodies kinds label ways u).results ≡ u.results
bodies_results kinds label [] u = refl
bodies_results kinds label (way ∷ ways) u = join_results kinds label ((way ∷ ways) ++ fall_ways u u.now) (fall_work label u) ∙ fall_results label u u.now

when_less : (n : Option Open) (w : Work) (f : Open → Work) (m : ℕ) → ((o : Open) → (f o).results ≤ w.results + m) → (when_open n w f).results ≤ w.results + m
when_less None w f m g = omega arith
when_less (Some o) w f m g = g o

either_less : (x z : Work) (r : Bool) (m : ℕ) → x.results ≤ m → z.results ≤ m → (if r then x else z).results ≤ m
either_less x z true m f g = f
either_less x z false m f g = g

two_less : (core : Core) (label : ℕ) (values : List Operand) (v : Work) (second : Work → Work) (m : ℕ) → ((g : Work) → (second g).results ≤ g.results + m) → (two_bodies core.cells label values v second).results ≤ v.results + m
two_less core label values v second m more =
    let g = open_second (label + 1) values (fall_work (label + 2) v) in
    omega (arith, bodies_results core.cells (label + 2) (fall_ways v v.now) (second g), more g, fall_results (label + 2) v v.now)

results_less : (core : Core) (coder : Coder) (s : Stmt) (w : Work) → (lower_of core coder s w).results ≤ w.results + measures_of s
results_less core coder Skip w = omega arith
results_less core coder (Seq a b) w = omega (arith, results_less core coder a w, results_less core coder b (lower_of core coder a w))
results_less core coder (Assign pairs) w = when_less w.now w _ 0 (λ o. omega arith)
results_less core coder (Gate leaf) w = when_less w.now w _ 0 (λ o. omega arith)
results_less core coder (Reset qubit) w = when_less w.now w _ 0 (λ o. omega arith)
results_less core coder (Measure qubit None) w = when_less w.now w _ 1 (λ o. omega arith)
results_less core coder (Measure qubit (Some c)) w = when_less w.now w _ 1 (λ o. omega arith)
results_less core coder (If test a b) w =
    when_less w.now w (λ o. if reaches b Falls then two_bodies core.cells (length w.targets) o.values (lower_of core coder a (open_first coder true test w o)) (lower_of core coder b) else two_bodies core.cells (length w.targets) o.values (lower_of core coder b (open_first coder false test w o)) (lower_of core coder a)) (measures_of a + measures_of b) (λ o.
    let one = two_less core (length w.targets) o.values (lower_of core coder a (open_first coder true test w o)) (lower_of core coder b) (measures_of b) (λ g. results_less core coder b g) in
    let two = two_less core (length w.targets) o.values (lower_of core coder b (open_first coder false test w o)) (lower_of core coder a) (measures_of a) (λ g. results_less core coder a g) in
    either_less (two_bodies core.cells (length w.targets) o.values (lower_of core coder a (open_first coder true test w o)) (lower_of core coder b)) (two_bodies core.cells (length w.targets) o.values (lower_of core coder b (open_first coder false test w o)) (lower_of core coder a)) (reaches b Falls) (w.results + (measures_of a + measures_of b))
    (omega (arith, one, results_less core coder a (open_first coder true test w o)))
    (omega (arith, two, results_less core coder b (open_first coder false test w o))))
results_less core coder (Block a) w = when_less w.now w (λ o. let v = leave_zero (lower_of core coder a (open_end w)) in close_end core.cells v.ends v) (measures_of a) (λ o.
    let u = lower_of core coder a (open_end w) in
    let v = leave_zero u in
    omega (arith, close_end_results core.cells v.ends v, leave_results 0 u u.now, results_less core coder a (open_end w)))
results_less core coder (Loop a) w =
    when_less w.now w (λ o.
    let needs = start_needs core.exprs a o.values in
    let v = leave_zero (lower_of core coder a (open_loop core.cells needs w o)) in
    close_end core.cells v.ends (close_start core.cells needs (length w.lates) w.next v.starts v)) (measures_of a) (λ o.
    let needs = start_needs core.exprs a o.values in
    let u = lower_of core coder a (open_loop core.cells needs w o) in
    let v = leave_zero u in
    let y = close_start core.cells needs (length w.lates) w.next v.starts v in
    omega (arith, close_end_results core.cells v.ends y, close_start_results core.cells needs (length w.lates) w.next v.starts v, leave_results 0 u u.now, results_less core coder a (open_loop core.cells needs w o)))
results_less core coder (Leave k) w = omega (arith, leave_results k w w.now)
results_less core coder (Again k) w = when_less w.now w _ 0 (λ o. omega arith)

pub end_results : (outputs : List Output) (v : Work) (now : Option Open) → (when_open now v (end_work outputs v)).results ≡ v.results
end_results outputs v None = refl
end_results outputs v (Some o) = refl

-- ---- the measurements of the tree are those of the list: each statement stands in one body, at one place

-- the measurements below the statements of a list
abbrev below : List CoreStmt → List ℕ → ℕ
below stmts [] = 0
below stmts (k ∷ ks) = measures_of (stmt_of stmts k) + below stmts ks

sequence_measures : (stmts : List CoreStmt) (ks : List ℕ) → measures_of (sequence (stmt_of stmts) ks) ≡ below stmts ks
sequence_measures stmts [] = refl
sequence_measures stmts (k ∷ ks) = omega (arith, sequence_measures stmts ks)

below_append : (stmts : List CoreStmt) (xs ys : List ℕ) → below stmts (xs ++ ys) ≡ below stmts xs + below stmts ys
below_append stmts [] ys = omega arith
below_append stmts (x ∷ xs) ys = omega (arith, below_append stmts xs ys)

times_append : (k : ℕ) (xs ys : List ℕ) → times k (xs ++ ys) ≡ times k xs + times k ys
times_append k [] ys = omega arith
times_append k (x ∷ xs) ys = at (nat_eq x k) (times_append k xs ys)
  where
    at : (b : Bool) → times k (xs ++ ys) ≡ times k xs + times k ys → (if b then suc (times k (xs ++ ys)) else times k (xs ++ ys)) ≡ (if b then suc (times k xs) else times k xs) + times k ys
    at true e = omega (arith, e)
    at false e = e

-- without one number
abbrev without : ℕ → List ℕ → List ℕ
without n [] = []
without n (x ∷ xs) = if nat_eq x n then without n xs else x ∷ without n xs

-- what a list keeps without a number that stands in it once at most
record Without (stmts : List CoreStmt) (n : ℕ) (xs : List ℕ) : Type 0 where
  sum : below stmts xs ≡ times n xs * measures_of (stmt_of stmts n) + below stmts (without n xs)
  fewer : (k : ℕ) → times k (without n xs) ≤ times k xs
  later : (high : ℕ) → AllByRecursion (λ (x : ℕ). (n ≤ x) × (x < high)) xs → AllByRecursion (λ (x : ℕ). (suc n ≤ x) × (x < high)) (without n xs)

without_one : (stmts : List CoreStmt) (n : ℕ) (xs : List ℕ) → Without stmts n xs
without_one stmts n [] = record { sum = omega arith; fewer = λ k. omega arith; later = λ high all. tt }
without_one stmts n (x ∷ xs) = at (nat_eq x n) refl (without_one stmts n xs)
  where
    weigh : (b : Bool) → nat_eq x n ≡ b → Without stmts n xs → measures_of (stmt_of stmts x) + below stmts xs ≡ (if b then suc (times n xs) else times n xs) * measures_of (stmt_of stmts n) + below stmts (if b then without n xs else x ∷ without n xs)
    weigh true e r = omega (arith, r.sum, ap (λ (k : ℕ). measures_of (stmt_of stmts k)) (eqb-true x n e))
    weigh false e r = omega (arith, r.sum)

    fewer_at : (b : Bool) (k : ℕ) → Without stmts n xs → times k (if b then without n xs else x ∷ without n xs) ≤ (if nat_eq x k then suc (times k xs) else times k xs)
    fewer_at true k r = two (nat_eq x k) (r.fewer k)
      where
        two : (c : Bool) → times k (without n xs) ≤ times k xs → times k (without n xs) ≤ (if c then suc (times k xs) else times k xs)
        two true le = omega (arith, le)
        two false le = le
    fewer_at false k r = two (nat_eq x k) (r.fewer k)
      where
        two : (c : Bool) → times k (without n xs) ≤ times k xs → (if c then suc (times k (without n xs)) else times k (without n xs)) ≤ (if c then suc (times k xs) else times k xs)
        two true le = omega (arith, le)
        two false le = le

    later_at : (b : Bool) → nat_eq x n ≡ b → Without stmts n xs → (high : ℕ) → AllByRecursion (λ (x : ℕ). (n ≤ x) × (x < high)) (x ∷ xs) → AllByRecursion (λ (x : ℕ). (suc n ≤ x) × (x < high)) (if b then without n xs else x ∷ without n xs)
    later_at true e r high all = r.later high all.1
    later_at false e r high all = ((omega (arith, all.0.0, apart), all.0.1), r.later high all.1)
      where
        apart : x ≢ n
        apart h = cc (e, eq-eqb x n h)

    at : (b : Bool) → nat_eq x n ≡ b → Without stmts n xs → Without stmts n (x ∷ xs)
    at b e r = record {
      sum = subst (λ (c : Bool). measures_of (stmt_of stmts x) + below stmts xs ≡ (if c then suc (times n xs) else times n xs) * measures_of (stmt_of stmts n) + below stmts (if c then without n xs else x ∷ without n xs)) (sym e) (weigh b e r);
      fewer = λ k. subst (λ (c : Bool). times k (if c then without n xs else x ∷ without n xs) ≤ (if nat_eq x k then suc (times k xs) else times k xs)) (sym e) (fewer_at b k r);
      later = λ high all. subst (λ (c : Bool). AllByRecursion (λ (x : ℕ). (suc n ≤ x) × (x < high)) (if c then without n xs else x ∷ without n xs)) (sym e) (later_at b e r high all);
    }

node_measures : (unfolds : StmtsUnfold) (stmts : List CoreStmt) (k : ℕ) (x : CoreStmt) → NamesLater stmts → slice_get stmts k ≡ Some x → measures_of (stmt_of stmts k) ≡ cond (is_measure x) 1 0 + below stmts (inner_of (Some x))
node_measures unfolds stmts k x later is = ap measures_of (unfolds stmts k later ∙ ap (node_stmt (stmt_of stmts)) is) ∙ of_node x
  where
    of_node : (x : CoreStmt) → measures_of (node_stmt (stmt_of stmts) (Some x)) ≡ cond (is_measure x) 1 0 + below stmts (inner_of (Some x))
    of_node (AssignNode pairs) = omega arith
    of_node (GateNode leaf) = omega arith
    of_node (ResetNode qubit) = omega arith
    of_node (MeasureNode qubit into) = omega arith
    of_node (IfNode test a b) = omega (arith, sequence_measures stmts a, sequence_measures stmts b, below_append stmts a b)
    of_node (BlockNode a) = omega (arith, sequence_measures stmts a)
    of_node (LoopNode a) = omega (arith, sequence_measures stmts a)
    of_node (LeaveNode k) = omega arith
    of_node (AgainNode k) = omega arith

range_append : (low high : ℕ) (xs ys : List ℕ) → AllByRecursion (λ (x : ℕ). (low ≤ x) × (x < high)) xs → AllByRecursion (λ (x : ℕ). (low ≤ x) × (x < high)) ys → AllByRecursion (λ (x : ℕ). (low ≤ x) × (x < high)) (xs ++ ys)
range_append low high [] ys a b = b
range_append low high (x ∷ xs) ys a b = (a.0, range_append low high xs ys a.1 b)

later_range : (n high : ℕ) (xs : List ℕ) → AllByRecursion (IsLater n high) xs → AllByRecursion (λ (x : ℕ). (suc n ≤ x) × (x < high)) xs
later_range n high [] all = tt
later_range n high (x ∷ xs) all = ((omega (arith, all.0.0), all.0.1), later_range n high xs all.1)

-- the statements from the n-th on, with those that bodies have named so far and that are not done
measures_bound : (unfolds : StmtsUnfold) (stmts : List CoreStmt) → NamesLater stmts → (n : ℕ) (rest : List CoreStmt) (pending : List ℕ) → ((i : ℕ) → slice_get stmts (n + i) ≡ slice_get rest i) → n + length rest ≡ length stmts → AllByRecursion (λ (x : ℕ). (n ≤ x) × (x < length stmts)) pending → ((k : ℕ) → k < length stmts → times k (pending ++ bodies_in rest) ≤ 1)
    → below stmts pending ≤ count_by is_measure rest
measures_bound unfolds stmts later n [] [] same long range once = omega arith
measures_bound unfolds stmts later n [] (x ∷ pending) same long range once = absurd (omega (arith, long, range.0.0, range.0.1))
measures_bound unfolds stmts later n (x ∷ rest) pending same long range once =
    let w = without_one stmts n pending in
    let here : slice_get stmts n ≡ Some x = let z : n ≡ n + 0 = omega arith in ap (slice_get stmts) z ∙ same 0 in
    let inner = inner_of (Some x) in
    let next = without n pending ++ inner in
    let inner_range : AllByRecursion (λ (y : ℕ). (suc n ≤ y) × (y < length stmts)) inner = later_range n (length stmts) inner (recursion_from_All (IsLater n (length stmts)) inner (subst (λ (o : Option CoreStmt). All (IsLater n (length stmts)) (inner_of o)) here (later n (omega (arith, long))))) in
    let r = measures_bound unfolds stmts later (suc n) rest next (λ i. let z : suc n + i ≡ n + suc i = omega arith in ap (slice_get stmts) z ∙ same (suc i)) (omega (arith, long)) (range_append (suc n) (length stmts) (without n pending) inner (w.later (length stmts) range) inner_range)
    (λ k lt. omega (arith, once k lt, times_append k pending (inner ++ bodies_in rest), times_append k inner (bodies_in rest), times_append k next (bodies_in rest), times_append k (without n pending) inner, w.fewer k)) in
    let few : times n pending ≤ 1 = omega (arith, once n (omega (arith, long)), times_append n pending (bodies_in (x ∷ rest))) in
    let one = times_one (times n pending) (measures_of (stmt_of stmts n)) few in
    let own = node_measures unfolds stmts n x later here in
    let total = sum_by-cons (λ (y : CoreStmt). cond (is_measure y) 1 0) x rest in
    omega (arith, w.sum, one, own, r, total, below_append stmts (without n pending) inner)
  where
    times_one : (t m : ℕ) → t ≤ 1 → t * m ≤ m
    times_one zero m le = omega arith
    times_one (suc zero) m le = omega arith
    times_one (suc (suc t)) m le = absurd (omega (arith, le))

program_measures : (unfolds : StmtsUnfold) (core : Core) (coder : Coder) → IsLowerable core coder → measures_of (program_of core) ≤ count_by is_measure core.stmts
program_measures unfolds core coder l =
    let b = l.fits.well_formed.bodies in
    let bound = measures_bound unfolds core.stmts b.later 0 core.stmts core.body (λ i. let z : 0 + i ≡ i = omega arith in ap (slice_get core.stmts) z) (omega arith) (named core.body (recursion_from_All (λ k. k < length core.stmts) core.body b.named)) (λ k lt. omega (arith, b.once k lt)) in
    omega (arith, bound, sequence_measures core.stmts core.body)
  where
    named : (ks : List ℕ) → AllByRecursion (λ (k : ℕ). k < length core.stmts) ks → AllByRecursion (λ (x : ℕ). (0 ≤ x) × (x < length core.stmts)) ks
    named [] all = tt
    named (k ∷ ks) all = ((omega arith, all.0), named ks all.1)

measures_weight : (n : ℕ) (exprs : List CoreExpr) (s : Stmt) (at : Before) (ends starts : List ℕ) → measures_of s ≤ weight_of n exprs s at ends starts
measures_weight n exprs Skip at ends starts = omega arith
measures_weight n exprs (Seq a b) at ends starts = omega (arith, measures_weight n exprs a at ends starts, measures_weight n exprs b (after exprs a Falls at) ends starts)
measures_weight n exprs (Assign pairs) at ends starts = omega arith
measures_weight n exprs (Gate leaf) at ends starts = omega arith
measures_weight n exprs (Reset qubit) at ends starts = omega arith
measures_weight n exprs (Measure qubit into) at ends starts = omega arith
measures_weight n exprs (If test a b) at ends starts = omega (arith, measures_weight n exprs a at ends starts, measures_weight n exprs b at ends starts)
measures_weight n exprs (Block a) at ends starts = omega (arith, measures_weight n exprs a at (open_cells n (after exprs (Block a) Falls at) ∷ ends) starts)
measures_weight n exprs (Loop a) at ends starts = omega (arith, measures_weight n exprs a (loop_start exprs a at) (open_cells n (after exprs (Loop a) Falls at) ∷ ends) (open_cells n (loop_start exprs a at) ∷ starts))
measures_weight n exprs (Leave k) at ends starts = omega arith
measures_weight n exprs (Again k) at ends starts = omega arith

-- ---- the graph while it is made

traced_done : (lates : ℕ → List Phi) (ds : List Draft) → length (flat_map (traced_draft phi_registers registers_of lates) ds) ≤ sum_by (counted_draft 0 phis_in no_code lates) ds + sum_by (counted_draft 2 entries_in one_each lates) ds
traced_done lates [] = omega arith
traced_done lates (d ∷ ds) =
    let r = traced_done lates ds in
    let p = sum_by-cons (counted_draft 0 phis_in no_code lates) d ds in
    let q = sum_by-cons (counted_draft 2 entries_in one_each lates) d ds in
    let l = length-append (traced_draft phi_registers registers_of lates d) (flat_map (traced_draft phi_registers registers_of lates) ds) in
    let o = length-append (phi_registers (settled_phis lates d.phis)) (flat_map registers_of d.body) in
    omega (arith, r, p, q, l, o, registers_long (settled_phis lates d.phis), body_registers d.body, ones d.body)

traced_less : (lates : ℕ → List Phi) (w : Work) → length (traced phi_registers registers_of lates w) ≤ phis_counted lates w + items_of_work lates w
traced_less lates w = omega (arith, length-append (flat_map (traced_draft phi_registers registers_of lates) w.done) (traced_now phi_registers registers_of lates w.now), traced_done lates w.done, now_less w.now)
  where
    now_less : (n : Option Open) → length (traced_now phi_registers registers_of lates n) ≤ counted_now 0 phis_in no_code lates n + counted_now 2 entries_in one_each lates n
    now_less None = omega arith
    now_less (Some o) = omega (arith, length-append (phi_registers (settled_phis lates o.phis)) (flat_map registers_of o.body), registers_long (settled_phis lates o.phis), body_registers o.body, ones o.body)

done_less : (lates : ℕ → List Phi) (ds : List Draft) → length ds ≤ sum_by (counted_draft 1 no_phis no_code lates) ds
done_less lates [] = omega arith
done_less lates (d ∷ ds) = omega (arith, done_less lates ds, sum_by-cons (counted_draft 1 no_phis no_code lates) d ds)

pub work_is_small : WaysCarry → SameWhereNotDiffer → (core : Core) (coder : Coder) → IsLowerable core coder → IsSmallWork core (lower_of core coder (program_of core) (first_work (length core.cells)))
work_is_small carry keeps core coder l =
    let w = first_work (length core.cells) in
    let v = lower_of core coder (program_of core) w in
    let lates = late_phis core coder in
    let n = walk carry keeps core coder l.coder_fits lates (NumbersInOrder lates) (order_steps core lates) (program_of core) w (program_fits core l.fits l.held) l.fits.well_formed.levels (first_valid core.cells) (program_settles core coder) (start_order lates (length core.cells)) in
    let g = program_grown carry keeps core coder l in
    let s = first_small lates (length core.cells) in
    let j = joined_less (length core.cells) core.exprs (program_of core) begin [] [] in
    record {
      next = omega (arith, n.next, traced_less lates v, g.items, g.phis, s.items, s.phis, j);
      results = omega (arith, results_less core coder (program_of core) w, measures_weight (length core.cells) core.exprs (program_of core) begin [] []);
      done = omega (arith, g.blocks, s.blocks, done_less lates v.done);
    }

-- ---- the rule

pub limits_rule : StmtsUnfold → WaysCarry → SameWhereNotDiffer → (core : Core) (coder : Coder) → IsLowerable core coder → IsKept (lowered core coder) limits_kept
limits_rule unfolds carry keeps core coder l =
    let m = lowered core coder in
    let v = lower_of core coder (program_of core) (first_work (length core.cells)) in
    let within = is_within carry keeps core coder l in
    let order = is_in_order carry keeps core coder l in
    let f = l.fits in
    let many : length m.blocks ≤ 16384 = omega (arith, within.blocks, f.few_knots) in
    let results : m.results ≤ 1048576 = omega (arith, end_results core.outputs v v.now, results_less core coder (program_of core) (first_work (length core.cells)), program_measures unfolds core coder l, f.few_measures) in
    let j = joined_less (length core.cells) core.exprs (program_of core) begin [] [] in
    let registers : length (flat_map block_registers m.blocks) ≤ 8388608 = omega (arith, registers_less m.blocks, within.phis, within.items, j, f.light) in
    let all : list_all (λ r. nat_lt r 8_388_608) (flat_map block_assigned m.blocks) ≡ true = ap (list_all (λ r. nat_lt r 8_388_608)) (sym (blocks_same m.blocks)) ∙ counts_below 0 8388608 (flat_map block_registers m.blocks) order.registers (omega (arith, registers)) in
    let blocks = true_split (λ r. nat_lt r 8_388_608) block_assigned m.blocks all in
    let head = both (nat_le (length m.blocks) 16_384 && nat_le (length m.labels) 16_384 && nat_le m.qubits 1_024) (nat_le m.results 1_048_576) (both (nat_le (length m.blocks) 16_384 && nat_le (length m.labels) 16_384) (nat_le m.qubits 1_024) (both (nat_le (length m.blocks) 16_384) (nat_le (length m.labels) 16_384) (le-leb (length m.blocks) 16_384 many) (le-leb (length m.labels) 16_384 f.few_labels)) (le-leb m.qubits 1_024 f.few_qubits)) (le-leb m.results 1_048_576 results) in
    each_spot (λ (s : Spot). limits_kept m s ≡ true) m (λ k b is front item rest e.
    let here = all_get (λ (b : ModuleBlock). list_all (λ r. nat_lt r 8_388_608) (block_assigned b) ≡ true) m.blocks k b blocks is in
    let items = true_split (λ r. nat_lt r 8_388_608) item_registers (items_in b) here in
    both (at_first_item (spot_at k b front item) (nat_le (length m.blocks) 16_384 && nat_le (length m.labels) 16_384 && nat_le m.qubits 1_024 && nat_le m.results 1_048_576)) (list_all (λ r. nat_lt r 8_388_608) (item_registers item)) (first_true (spot_at k b front item) (nat_le (length m.blocks) 16_384 && nat_le (length m.labels) 16_384 && nat_le m.qubits 1_024 && nat_le m.results 1_048_576) head)
    (all_middle (λ (x : Item). list_all (λ r. nat_lt r 8_388_608) (item_registers x) ≡ true) front item rest (subst (AllByRecursion (λ (x : Item). list_all (λ r. nat_lt r 8_388_608) (item_registers x) ≡ true)) e items)))
