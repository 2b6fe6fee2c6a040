-- All statements, and the whole program: the module that a core is lowered to is the core's graph, and runs as the core does.
use Rattle.std.proofs.Common.{◌≡◌, ℕ, zero, suc, ◌+◌, ◌<◌, ◌≤◌, Bool, true, false, List, [], ◌∷◌, ◌++◌, map, length, get_or, pos, Option, Some, None, refl, sym, ap, ◌∙◌, subst, arith}
use Rattle.std.specs.Prelude.{slice_get, if◌then◌else◌}
use Rattle.std.specs.List.{AllByRecursion}
use Rattle.std.proofs.lemmas.List.Elements.{recursion_from_All}
use Rattle.qir_module.specs.declared.instruction.Operand.{Operand}
use Rattle.qir_module.specs.declared.instruction.Last.TheVariants.{Jump, Return}
use Rattle.qir_module.specs.declared.block.Phi.{Phi}
use Rattle.qir_module.specs.Machine.{machine_run}
use Rattle.qir_module.specs.Module.{Module}
use Rattle.qir_module.specs.Numbered.{CountsFrom}
use Rattle.core_ir.specs.declared.expression.CellKind.{CellKind}
use Rattle.core_ir.specs.declared.expression.CellKind.TheVariants.{Truth as TruthKind}
use Rattle.core_ir.specs.declared.statement.CoreStmt.{CoreStmt}
use Rattle.core_ir.specs.declared.statement.CoreStmt.TheVariants.{Assign as AssignNode, Gate as GateNode, Reset as ResetNode, Measure as MeasureNode, If as IfNode, Block as BlockNode, Loop as LoopNode, Leave as LeaveNode, Again as AgainNode}
use Rattle.core_ir.specs.declared.program.Output.{Output}
use Rattle.core_ir.specs.Core.{Core}
use Rattle.core_ir.specs.Run.{core_run}
use Rattle.core_ir.specs.Tree.{sequence, node_stmt, stmt_within, stmt_of, Stmt, Skip, Seq, Assign, Gate, Reset, Measure, If, Block, Loop, Leave, Again, program_of}
use Rattle.core_ir.specs.Ways.{Falls, reaches}
use Rattle.core_ir.specs.WellFormed.{kind_at, StmtFits, OutputFits, GatesDiffer, HasLevels, Fits}
use Rattle.phi_place.specs.Phis.{WaysCarry, SameWhereNotDiffer}
use Rattle.expr_lower.specs.Lowered.{AreCells, StraightRuns}
use Rattle.block_graph.specs.Bounds.{IsHeldStmt, IsHeldOutput, IsHeld}
use Rattle.block_graph.specs.Fitting.{IsFit}
use Rattle.block_graph.specs.Laws.{IsLowerable}
use Rattle.block_graph.specs.Work.{Draft, Level, Open, Work}
use Rattle.block_graph.specs.Lowering.{Coder, IsCoder, initialize_call, record_call, closed, when_open, branch_last, first_operand, leave_zero, open_end, close_end, start_needs, open_loop, close_start, open_first, fall_work, open_second, two_bodies, lower_of, first_work, end_work, whole_work, settled, settled_from, lowered, next_for}
use Rattle.block_graph.specs.Stretch.{Place, Low, Returns, IsGraphOf}
use Rattle.block_graph.proofs.Cells.{cells_more, cells_phis, next_more, first_cells}
use Rattle.block_graph.proofs.Flow.{leave_none, starts_stay}
use Rattle.block_graph.proofs.Moving.{levels_more, stand_more, IsValid, SameLevels, same_then, same_length, EndsGo, StartsGo, moves_refl, Stand, get_end, stand_less, StandsIf, LowFrom, Emits, seq_emits, dead_emits}
use Rattle.block_graph.proofs.Emitting.{now_of, pushed, assign_emits, gate_emits, reset_emits, measure_emits, leave_emits, again_emits, block_at}
use Rattle.block_graph.proofs.Looping.{Stays, loop_at}
use Rattle.block_graph.proofs.Choosing.{fallen, Makes, makes_true, makes_false, if_emits}
use Rattle.block_graph.proofs.Running.{names_of, graph_runs}

-- ---- the graph where a body begins

pub open_end_valid : (kinds : List CellKind) (w : Work) → IsValid kinds w → IsValid kinds (open_end w)
open_end_valid kinds w ok = record { now = ok.now; ends = ((tt, tt), ok.ends); starts = ok.starts; stand = ok.stand }

pub open_loop_valid : (kinds : List CellKind) (needs : ℕ → Bool) (w : Work) (o : Open) → w.now ≡ Some o → IsValid kinds w → IsValid kinds (open_loop kinds needs w o)
open_loop_valid kinds needs w o is ok =
    let n = now_of kinds w o is ok in
    let more = next_more needs kinds 0 w.next in
    let d = closed o (Jump (length w.targets)) in
    let next = next_for needs kinds 0 w.next in
    record {
      now = cells_phis needs kinds o.values w.next n;
      ends = ((tt, tt), levels_more kinds w.next next (length w.done) (length (w.done ++ d ∷ [])) w.ends more (omega (arith, pushed w d)) ok.ends);
      starts = ((((omega (arith, pushed w d), cells_more kinds w.next next o.values more n), tt), (tt, tt)), levels_more kinds w.next next (length w.done) (length (w.done ++ d ∷ [])) w.starts more (omega (arith, pushed w d)) ok.starts);
      stand = (omega (arith, pushed w d), stand_more (length w.done) (length (w.done ++ d ∷ [])) w.starts (omega (arith, pushed w d)) ok.stand);
    }

pub open_first_valid : (kinds : List CellKind) (coder : Coder) (holds : Bool) (test : ℕ) (w : Work) (o : Open) → w.now ≡ Some o → IsValid kinds w → IsValid kinds (open_first coder holds test w o)
open_first_valid kinds coder holds test w o is ok =
    let n = now_of kinds w o is ok in
    let c = coder (test ∷ []) o.values w.next in
    let next = w.next + length c.code in
    let more : w.next ≤ next = omega arith in
    let d : Draft = record { phis = o.phis; body = o.body ++ c.code; last = branch_last holds (first_operand c.operands) (length w.targets) } in
    record {
      now = cells_more kinds w.next next o.values more n;
      ends = levels_more kinds w.next next (length w.done) (length (w.done ++ d ∷ [])) w.ends more (omega (arith, pushed w d)) ok.ends;
      starts = levels_more kinds w.next next (length w.done) (length (w.done ++ d ∷ [])) w.starts more (omega (arith, pushed w d)) ok.starts;
      stand = stand_more (length w.done) (length (w.done ++ d ∷ [])) w.starts (omega (arith, pushed w d)) ok.stand;
    }

pub open_second_valid : (kinds : List CellKind) (label x : ℕ) (values : List Operand) (f : Work) → AreCells kinds x values → x ≤ f.next → IsValid kinds f → IsValid kinds (open_second label values f)
open_second_valid kinds label x values f cells le ok = record { now = cells_more kinds x f.next values le cells; ends = ok.ends; starts = ok.starts; stand = ok.stand }

pub levels_same : (s : Stmt) (w v : Work) → SameLevels w.ends v.ends → SameLevels w.starts v.starts → HasLevels s (length w.ends) (length w.starts) → HasLevels s (length v.ends) (length v.starts)
levels_same s w v a b l = subst (λ (k : ℕ). HasLevels s k (length v.starts)) (sym (same_length w.ends v.ends a)) (subst (λ (k : ℕ). HasLevels s (length w.ends) k) (sym (same_length w.starts v.starts b)) l)

either_emits : (core : Core) (s : Stmt) (w x z : Work) (r : Bool) → Emits core s w x → Emits core s w z → Emits core s w (if r then x else z)
either_emits core s w x z true f g = f
either_emits core s w x z false f g = g

when_emits : (core : Core) (s : Stmt) (w : Work) (f : Open → Work) (now : Option Open) → w.now ≡ now → IsValid core.cells w → ((m : Module) (ends : List (Option Place)) (starts : List Place) → Low core m s None None ends starts) → ((o : Open) → w.now ≡ Some o → Emits core s w (f o)) → Emits core s w (when_open now w f)
when_emits core s w f None is ok low next = dead_emits core s w is low ok
when_emits core s w f (Some o) is ok low next = next o is

module _ (carry : WaysCarry) (keeps : SameWhereNotDiffer) (core : Core) (coder : Coder) (isc : IsCoder core coder) where
  -- a body with what falls off its end
  pub body_emits : (a : Stmt) (w v : Work) → 0 < length w.ends → Emits core a w v → Emits core (Seq a (Leave 0)) w (leave_zero v)
  body_emits a w v lt ea = seq_emits core a (Leave 0) w v (leave_zero v) ea (leave_emits core 0 v v.now refl (omega (arith, lt, same_length w.ends v.ends ea.moves.ends)) ea.valid)

  block_emits : (a : Stmt) (w u : Work) (now : Option Open) → w.now ≡ now → IsValid core.cells w → Emits core (Seq a (Leave 0)) (open_end w) u → u.now ≡ None → Emits core (Block a) w (when_open now w (λ o. close_end core.cells u.ends u))
  block_emits a w u None is ok ei none = dead_emits core (Block a) w is (λ m ends starts. refl) ok
  block_emits a w u (Some o) is ok ei none = block_at carry keeps core a w u o u.ends is ei none refl

  loop_emits : (a : Stmt) (w : Work) (u : Open → Work) (now : Option Open) → w.now ≡ now → IsValid core.cells w → ((o : Open) → w.now ≡ Some o → Emits core (Seq a (Leave 0)) (open_loop core.cells (start_needs core.exprs a o.values) w o) (u o)) → ((o : Open) → (u o).now ≡ None) → ((o : Open) → Stays core a w o (u o)) → Emits core (Loop a) w (when_open now w (λ o. close_end core.cells (u o).ends (close_start core.cells (start_needs core.exprs a o.values) (length w.lates) w.next (u o).starts (u o))))
  loop_emits a w u None is ok ei none stays = dead_emits core (Loop a) w is (λ m ends starts. refl) ok
  loop_emits a w u (Some o) is ok ei none stays = loop_at carry keeps core a w (u o) o (u o).ends (u o).starts is ok (ei o is) (none o) refl refl (stays o)

  choice_emits : (test : ℕ) (a b s : Stmt) (holds : Bool) (w : Work) (o : Open) → w.now ≡ Some o → kind_at core test ≡ Some TruthKind → IsValid core.cells w → Makes core holds test a b s → Emits core a (open_first coder holds test w o) (lower_of core coder a (open_first coder holds test w o)) → ((f : Work) → IsValid core.cells f → SameLevels w.ends f.ends → SameLevels w.starts f.starts → Emits core b f (lower_of core coder b f)) → Emits core s w (two_bodies core.cells (length w.targets) o.values (lower_of core coder a (open_first coder holds test w o)) (lower_of core coder b))
  choice_emits test a b s holds w o is kind ok makes ea eb =
      let v = lower_of core coder a (open_first coder holds test w o) in
      let n = now_of core.cells w o is ok in
      let fell = fallen core.cells (length w.targets + 2) v v.now refl ea.valid in
      let f = fall_work (length w.targets + 2) v in
      let more : w.next ≤ w.next + length (coder (test ∷ []) o.values w.next).code = omega arith in
      let x_le : w.next ≤ f.next = omega (arith, fell.next, ea.moves.next, more) in
      let g = open_second (length w.targets + 1) o.values f in
      let eb' = eb g (open_second_valid core.cells (length w.targets + 1) w.next o.values f n x_le fell.valid) (same_then w.ends v.ends f.ends ea.moves.ends fell.moves.ends) (same_then w.starts v.starts f.starts ea.moves.starts fell.moves.starts) in
      if_emits carry keeps core coder isc test a b s holds w v (lower_of core coder b g) o is kind ok ea eb' makes v.now refl

  pub emits : (s : Stmt) (w : Work) → IsFit core s → HasLevels s (length w.ends) (length w.starts) → IsValid core.cells w → Emits core s w (lower_of core coder s w)
  emits Skip w fit l ok = record { moves = moves_refl w; valid = ok; low = λ m labels lates ends starts end f at g h. record { start = end; at = at; low = refl } }
  emits (Seq a b) w fit l ok =
      let ea = emits a w fit.0 l.0 ok in
      seq_emits core a b w (lower_of core coder a w) (lower_of core coder b (lower_of core coder a w)) ea (emits b (lower_of core coder a w) fit.1 (levels_same b w (lower_of core coder a w) ea.moves.ends ea.moves.starts l.1) ea.valid)
  emits (Assign pairs) w fit l ok = assign_emits core coder isc pairs w w.now refl fit ok
  emits (Gate leaf) w fit l ok = gate_emits core coder isc leaf w w.now refl fit.0 ok
  emits (Reset qubit) w fit l ok = reset_emits core qubit w w.now refl ok
  emits (Measure qubit into) w fit l ok = measure_emits core qubit into w w.now refl fit.1 ok
  emits (If test a b) w fit l ok =
      when_emits core (If test a b) w (λ o. if reaches b Falls then two_bodies core.cells (length w.targets) o.values (lower_of core coder a (open_first coder true test w o)) (lower_of core coder b) else two_bodies core.cells (length w.targets) o.values (lower_of core coder b (open_first coder false test w o)) (lower_of core coder a)) w.now refl ok (λ m ends starts. refl) (λ o is.
      either_emits core (If test a b) w (two_bodies core.cells (length w.targets) o.values (lower_of core coder a (open_first coder true test w o)) (lower_of core coder b)) (two_bodies core.cells (length w.targets) o.values (lower_of core coder b (open_first coder false test w o)) (lower_of core coder a)) (reaches b Falls)
      (choice_emits test a b (If test a b) true w o is fit.0 ok (makes_true core test a b) (emits a (open_first coder true test w o) fit.1 l.0 (open_first_valid core.cells coder true test w o is ok)) (λ f vf se sh. emits b f fit.2 (levels_same b w f se sh l.1) vf))
      (choice_emits test b a (If test a b) false w o is fit.0 ok (makes_false core test a b) (emits b (open_first coder false test w o) fit.2 l.1 (open_first_valid core.cells coder false test w o is ok)) (λ f vf se sh. emits a f fit.1 (levels_same a w f se sh l.0) vf)))
  emits (Block a) w fit l ok =
      let v = lower_of core coder a (open_end w) in
      block_emits a w (leave_zero v) w.now refl ok (body_emits a (open_end w) v (omega arith) (emits a (open_end w) fit l (open_end_valid core.cells w ok))) (leave_none v v.now refl)
  emits (Loop a) w fit l ok =
      loop_emits a w (λ o. leave_zero (lower_of core coder a (open_loop core.cells (start_needs core.exprs a o.values) w o))) w.now refl ok (λ o is. body_emits a (open_loop core.cells (start_needs core.exprs a o.values) w o) (lower_of core coder a (open_loop core.cells (start_needs core.exprs a o.values) w o)) (omega arith) (emits a (open_loop core.cells (start_needs core.exprs a o.values) w o) fit l (open_loop_valid core.cells (start_needs core.exprs a o.values) w o is ok))) (λ o. leave_none (lower_of core coder a (open_loop core.cells (start_needs core.exprs a o.values) w o)) (lower_of core coder a (open_loop core.cells (start_needs core.exprs a o.values) w o)).now refl) (λ o. starts_stay core coder isc.constants a w o)
  emits (Leave k) w fit l ok = leave_emits core k w w.now refl l ok
  emits (Again k) w fit l ok = again_emits core k w w.now refl l ok

-- ---- the program

pub settled_get : (labels : ℕ → ℕ) (lates : ℕ → List Phi) (j : ℕ) (ds : List Draft) (k : ℕ) (d : Draft) → slice_get ds k ≡ Some d → slice_get (settled_from labels lates j ds) k ≡ Some (settled labels lates (j + k) d)
settled_get labels lates j [] k d e = absurd (cc e)
settled_get labels lates j (x ∷ ds) zero d e = let same : x ≡ d = cc e in let z : j ≡ j + 0 = omega arith in ap (λ (y : Draft). Some (settled labels lates j y)) same ∙ ap (λ (n : ℕ). Some (settled labels lates n d)) z
settled_get labels lates j (x ∷ ds) (suc k) d e = let z : suc j + k ≡ j + suc k = omega arith in settled_get labels lates (suc j) ds k d e ∙ ap (λ (n : ℕ). Some (settled labels lates n d)) z

pub settled_names : (labels : ℕ → ℕ) (lates : ℕ → List Phi) (j : ℕ) (ds : List Draft) → CountsFrom j (names_of (settled_from labels lates j ds))
settled_names labels lates j [] = tt
settled_names labels lates j (d ∷ ds) = (refl, settled_names labels lates (suc j) ds)

pub first_valid : (kinds : List CellKind) → IsValid kinds (first_work (length kinds))
first_valid kinds = record { now = first_cells kinds 0; ends = tt; starts = tt; stand = tt }

-- the graph behind the last block, and where the program ends
record IsEnded (outputs : List Output) (v z : Work) (m : Module) (labels : ℕ → ℕ) (lates : ℕ → List Phi) : Type 0 where
  stand : Stand m labels lates v.done
  targets : z.targets ≡ v.targets
  lates_same : z.lates ≡ v.lates
  end : Option Place
  at : StandsIf m lates (length v.done) v.now end
  returns : Returns outputs end

ended : (outputs : List Output) (v : Work) (now : Option Open) (m : Module) (labels : ℕ → ℕ) (lates : ℕ → List Phi) → v.now ≡ now → Stand m labels lates (when_open now v (end_work outputs v)).done → IsEnded outputs v (when_open now v (end_work outputs v)) m labels lates
ended outputs v None m labels lates is f = record { stand = f; targets = refl; lates_same = refl; end = None; at = subst (λ (n : Option Open). StandsIf m lates (length v.done) n None) (sym is) tt; returns = tt }
ended outputs v (Some o) m labels lates is f =
    let d : Draft = record { phis = o.phis; body = o.body ++ map (record_call o.values) outputs; last = Return (pos 0) } in
    let p : Place = record { block = length v.done; rest = map (record_call o.values) outputs; last = Return (pos 0); values = o.values } in
    record {
      stand = stand_less m labels lates v.done (v.done ++ d ∷ []) (d ∷ []) refl f;
      targets = refl;
      lates_same = refl;
      end = Some p;
      at = subst (λ (n : Option Open). StandsIf m lates (length v.done) n (Some p)) (sym is) (record { block = refl; values = refl; found = f.by (length v.done) d (get_end v.done d) });
      returns = (refl, refl);
    }

pub is_graph : WaysCarry → SameWhereNotDiffer → (core : Core) (coder : Coder) → IsCoder core coder → IsFit core (program_of core) → HasLevels (program_of core) 0 0 → IsGraphOf core (lowered core coder)
is_graph carry keeps core coder isc fit levels = from r.start r.at r.low
  where
    v : Work
    v = lower_of core coder (program_of core) (first_work (length core.cells))

    z : Work
    z = when_open v.now v (end_work core.outputs v)

    labels : ℕ → ℕ
    labels k = get_or z.targets k 0

    lates : ℕ → List Phi
    lates k = get_or z.lates k []

    m : Module
    m = lowered core coder

    stand_all : Stand m labels lates z.done
    stand_all = record { by = λ k d e. let zero_more : 0 + k ≡ k = omega arith in settled_get labels lates 0 z.done k d e ∙ ap (λ (n : ℕ). Some (settled labels lates n d)) zero_more }

    done : IsEnded core.outputs v z m labels lates
    done = ended core.outputs v v.now m labels lates refl stand_all

    em : Emits core (program_of core) (first_work (length core.cells)) v
    em = emits carry keeps core coder isc (program_of core) (first_work (length core.cells)) fit levels (first_valid core.cells)

    no_ends : (ls : List Level) → SameLevels [] ls → EndsGo core.cells m labels ls []
    no_ends [] q = tt
    no_ends (k ∷ ks) q = absurd q

    no_starts : (ls : List Level) → SameLevels [] ls → StartsGo core.cells m labels ls []
    no_starts [] q = tt
    no_starts (k ∷ ks) q = absurd q

    r : LowFrom core m lates (first_work (length core.cells)) (program_of core) done.end [] []
    r = em.low m labels lates [] [] done.end (record { blocks = done.stand; targets = record { by = λ k le lt. ap (λ (t : List ℕ). get_or t k 0) done.targets }; phis = record { by = λ k le lt. ap (λ (t : List (List Phi)). get_or t k []) done.lates_same } }) done.at (no_ends v.ends em.moves.ends) (no_starts v.starts em.moves.starts)

    from : (start : Option Place) → StandsIf m lates 0 (first_work (length core.cells)).now start → Low core m (program_of core) start done.end [] [] → IsGraphOf core m
    from None at low = absurd at
    from (Some p) at low = record {
      start = p;
      end = done.end;
      starts = record { target = record { name = 0; phis = []; body = (initialize_call ∷ []) ++ p.rest; last = p.last }; found = at.found; block = at.block; phis = refl; body = refl; last = refl; values = at.values };
      low = low;
      returns = done.returns;
    }

-- ---- what a core's statements meet, told of its tree

get_of : {A : Type 0} (P : A → Type 0) (xs : List A) (k : ℕ) (x : A) → AllByRecursion P xs → slice_get xs k ≡ Some x → P x
get_of P [] k x all e = absurd (cc e)
get_of P (y ∷ xs) zero x all e = let same : y ≡ x = cc e in subst P same all.0
get_of P (y ∷ xs) (suc k) x all e = get_of P xs k x all.1 e

abbrev IsFitNode : Core → CoreStmt → Type 0
IsFitNode core node = StmtFits core node × IsHeldStmt node × GatesDiffer node

fit_sequence : (core : Core) (tree : ℕ → Stmt) → ((k : ℕ) → IsFit core (tree k)) → (ks : List ℕ) → IsFit core (sequence tree ks)
fit_sequence core tree fits [] = tt
fit_sequence core tree fits (k ∷ ks) = (fits k, fit_sequence core tree fits ks)

fit_node : (core : Core) (tree : ℕ → Stmt) → ((k : ℕ) → IsFit core (tree k)) → (node : CoreStmt) → IsFitNode core node → IsFit core (node_stmt tree (Some node))
fit_node core tree fits (AssignNode pairs) f = f.0
fit_node core tree fits (GateNode leaf) f = (f.0, f.1, f.2)
fit_node core tree fits (ResetNode qubit) f = f.0
fit_node core tree fits (MeasureNode qubit into) f = f.0
fit_node core tree fits (IfNode test a b) f = (f.0, fit_sequence core tree fits a, fit_sequence core tree fits b)
fit_node core tree fits (BlockNode a) f = fit_sequence core tree fits a
fit_node core tree fits (LoopNode a) f = fit_sequence core tree fits a
fit_node core tree fits (LeaveNode k) f = tt
fit_node core tree fits (AgainNode k) f = tt

fit_option : (core : Core) (tree : ℕ → Stmt) → ((k : ℕ) → IsFit core (tree k)) → (node : Option CoreStmt) → ((x : CoreStmt) → node ≡ Some x → IsFitNode core x) → IsFit core (node_stmt tree node)
fit_option core tree fits None f = tt
fit_option core tree fits (Some node) f = fit_node core tree fits node (f node refl)

fit_within : (core : Core) → ((k : ℕ) (x : CoreStmt) → slice_get core.stmts k ≡ Some x → IsFitNode core x) → (levels k : ℕ) → IsFit core (stmt_within core.stmts levels k)
fit_within core f zero k = tt
fit_within core f (suc levels) k = fit_option core (stmt_within core.stmts levels) (fit_within core f levels) (slice_get core.stmts k) (f k)

fit_of : (core : Core) → ((k : ℕ) (x : CoreStmt) → slice_get core.stmts k ≡ Some x → IsFitNode core x) → (k : ℕ) → IsFit core (stmt_of core.stmts k)
unfolding stmt_of
fit_of core f k = fit_within core f (length core.stmts) k

pub program_fits : (core : Core) → Fits core → IsHeld core → IsFit core (program_of core)
program_fits core fits held =
    fit_sequence core (stmt_of core.stmts) (fit_of core (λ k x e. (
      get_of (StmtFits core) core.stmts k x (recursion_from_All (StmtFits core) core.stmts fits.well_formed.stmts) e,
      get_of IsHeldStmt core.stmts k x (recursion_from_All IsHeldStmt core.stmts held.stmts) e,
      get_of GatesDiffer core.stmts k x (recursion_from_All GatesDiffer core.stmts fits.differ) e,
    ))) core.body

-- ---- the theorem

pub same_run : StraightRuns → WaysCarry → SameWhereNotDiffer → (core : Core) (coder : Coder) → IsLowerable core coder → (outcomes : List Bool) (turns : ℕ) → machine_run (lowered core coder) outcomes turns ≡ core_run core outcomes turns
same_run runs carry keeps core coder l outcomes turns =
    let fit = program_fits core l.fits l.held in
    let named : CountsFrom 0 (names_of (lowered core coder).blocks) = settled_names (λ k. get_or (whole_work core coder).targets k 0) (λ k. get_or (whole_work core coder).lates k []) 0 (whole_work core coder).done in
    graph_runs core (lowered core coder) named runs refl fit (recursion_from_All (OutputFits core) core.outputs l.fits.well_formed.outputs) (recursion_from_All IsHeldOutput core.outputs l.held.outputs) (is_graph carry keeps core coder l.coder_fits fit l.fits.well_formed.levels) outcomes turns
