-- The lowering of straight statements, jumps, joins and blocks.
use Rattle.std.proofs.Common.{◌≡◌, ◌≢◌, ℕ, zero, suc, ◌+◌, ◌<◌, ◌≤◌, All, List, [], ◌∷◌, ◌++◌, map, length, get_or, Option, Some, None, refl, sym, ap, ◌∙◌, subst, arith, append_assoc, append-nil, length-append, length-set, get_or-set_same, get_or-set_other}
use Rattle.std.specs.Prelude.{slice_get, slice_set}
use Rattle.std.specs.List.{AllByRecursion, flat_map}
use Rattle.std.proofs.lemmas.Option.{slice_get_within}
use Rattle.std.proofs.lemmas.List.{get_or_append_left}
use Rattle.std.proofs.lemmas.List.Elements.{recursion_from_All, All-from_recursion}
use Rattle.qq_base.specs.declared.run.QubitId.{QubitId}
use Rattle.gate_table.specs.Table.{row_of}
use Rattle.gate_table.specs.declared.table.Row.{Row}
use Rattle.qir_module.specs.declared.instruction.Operand.{Operand}
use Rattle.qir_module.specs.declared.instruction.Operand.TheVariants.{Register}
use Rattle.qir_module.specs.declared.instruction.Instr.{Instr}
use Rattle.qir_module.specs.declared.instruction.Last.TheVariants.{Jump}
use Rattle.qir_module.specs.declared.block.Phi.{Phi}
use Rattle.qir_module.specs.Module.{Module}
use Rattle.core_ir.specs.declared.expression.CellKind.{CellKind}
use Rattle.core_ir.specs.declared.expression.CellKind.TheVariants.{Truth as TruthKind, Number as NumberKind}
use Rattle.core_ir.specs.declared.expression.CoreExpr.{CoreExpr}
use Rattle.core_ir.specs.declared.statement.GateArg.{GateArg}
use Rattle.core_ir.specs.declared.statement.GateArg.TheVariants.{Unused, Units, Running}
use Rattle.core_ir.specs.declared.statement.LeafCall.{LeafCall}
use Rattle.core_ir.specs.Core.{Core}
use Rattle.core_ir.specs.Tree.{Expr, node_expr, expr_within, expr_of, Stmt, Seq, Assign, Gate, Reset, Measure, Block, Leave, Again}
use Rattle.core_ir.specs.Size.{pair_exprs, running_in, leaf_exprs}
use Rattle.core_ir.specs.WellFormed.{kind_of, kind_at, PairFits, ArgsFit, TakesRow, LeafFits, IntoFits}
use Rattle.cell_operands.specs.Operands.{IsBelow}
use Rattle.phi_place.specs.State.{CellState}
use Rattle.phi_place.specs.Phis.{ways_differ, phis_for, values_for, Carries, WaysCarry, SameWhereNotDiffer}
use Rattle.expr_lower.specs.Lowered.{HasCell, Behind, AreCells, IsLowered}
use Rattle.block_graph.specs.Work.{PhiPart, Ready, Draft, Level, Open, Work}
use Rattle.block_graph.specs.Lowering.{Coder, IsCoder, stored, gate_call, reset_call, measure_call, read_call, closed, when_open, appended, way_of, label_at, assign_work, gate_work, reset_work, measure_work, leave_work, again_work, join_work, open_end, close_end, settled_phis, next_for}
use Rattle.block_graph.specs.Stretch.{Place, Computes, IsFresh, Leads, Joins, Low}
use Rattle.block_graph.proofs.Holding.{fresh_below}
use Rattle.block_graph.proofs.Cells.{cells_below, cells_more, cells_set, cells_stored, cells_phis, next_more, WaysFit, ways_in, ways_carried}
use Rattle.block_graph.proofs.Moving.{LevelsFit, levels_more, stand_more, NowFits, IsValid, add_fits, stand_add, SameLevels, same_levels, add_same, Grows, grows_refl, Settles, EndGoes, EndsGo, StartsGo, add_leaves, add_agains, each_forward, now_phis, draft_phis, phi_list, map_push, Stand, get_end, IsFinal, StandsAt, StandsIf, stands_none, LowFrom, Emits, dead_emits}

-- ---- expressions in range

within_node : (core : Core) (e : ℕ) (tree : ℕ → Expr) (kind : CellKind) (node : Option CoreExpr) → slice_get core.exprs e ≡ node → kind_of core.cells (node_expr tree node) ≡ Some kind → e < length core.exprs
within_node core e tree kind None is k = absurd (cc k)
within_node core e tree kind (Some node) is k = slice_get_within core.exprs e node is

pub kind_within : (core : Core) (e : ℕ) (kind : CellKind) → kind_at core e ≡ Some kind → e < length core.exprs
unfolding expr_of
kind_within core e kind k = within_node core e (expr_within core.exprs e) kind (slice_get core.exprs e) refl k

abbrev pub AreWithin : Core → List ℕ → Type 0
AreWithin core exprs = AllByRecursion (λ e. e < length core.exprs) exprs

pub pairs_within : (core : Core) (pairs : List (ℕ × ℕ)) → AllByRecursion (PairFits core) pairs → AreWithin core (pair_exprs pairs)
pairs_within core [] fit = tt
pairs_within core (p ∷ pairs) fit = (kind_within core p.1 fit.0.kind fit.0.value, pairs_within core pairs fit.1)

unused_within : (core : Core) (args : List GateArg) → ArgsFit core 0 args → AreWithin core (flat_map running_in args)
unused_within core [] fit = tt
unused_within core (Unused ∷ args) fit = unused_within core args fit.1
unused_within core (Units z ∷ args) fit = absurd (cc fit.0)
unused_within core (Running e ∷ args) fit = absurd (cc fit.0)

args_within : (core : Core) (n : ℕ) (args : List GateArg) → ArgsFit core n args → AreWithin core (flat_map running_in args)
args_within core n [] fit = tt
args_within core zero (arg ∷ args) fit = unused_within core (arg ∷ args) fit
args_within core (suc n) (Unused ∷ args) fit = absurd fit.0
args_within core (suc n) (Units z ∷ args) fit = args_within core n args fit.1
args_within core (suc n) (Running e ∷ args) fit = (kind_within core e NumberKind fit.0, args_within core n args fit.1)

pub leaf_within : (core : Core) (leaf : LeafCall) → LeafFits core leaf → AreWithin core (leaf_exprs leaf)
leaf_within core leaf fit = at (row_of leaf.gate.0) fit.1
  where
    at : (row : Option Row) → TakesRow core leaf row → AreWithin core (leaf_exprs leaf)
    at None t = absurd t
    at (Some row) t = args_within core row.params leaf.args t.0

pub now_of : (kinds : List CellKind) (w : Work) (o : Open) → w.now ≡ Some o → IsValid kinds w → AreCells kinds w.next o.values
now_of kinds w o e ok = subst (NowFits kinds w.next) e ok.now

-- what the coder gives
pub coded : (core : Core) (coder : Coder) → IsCoder core coder → (exprs : List ℕ) (values : List Operand) (next : ℕ) → AreWithin core exprs → AreCells core.cells next values → IsLowered core exprs values next (coder exprs values next).code (coder exprs values next).operands
coded core coder is exprs values next within cells = is.lowers exprs values next (All-from_recursion (λ e. e < length core.exprs) exprs within) cells

pub computed : (core : Core) (exprs : List ℕ) (values : List Operand) (next : ℕ) (code : List Instr) (operands : List Operand) → IsLowered core exprs values next code operands → Computes core exprs values code operands
computed core exprs values next code operands l = record { by = λ labels s cells h. l.values labels s cells h }

-- ---- straight statements

pub record Straight (kinds : List CellKind) (w : Work) (o : Open) (values : List Operand) (next : ℕ) : Type 0 where
  pub opens : w.now ≡ Some o
  pub more : w.next ≤ next
  pub cells : AreCells kinds next values

pub straight_emits : (core : Core) (s : Stmt) (w : Work) (o : Open) (code : List Instr) (values : List Operand) (next results : ℕ) → Straight core.cells w o values next → IsValid core.cells w → ((m : Module) (ends : List (Option Place)) (starts : List Place) (p : Place) (rest : List Instr) → p.rest ≡ code ++ rest → p.values ≡ o.values → Low core m s (Some p) (Some (record p { rest = rest; values = values })) ends starts) → Emits core s w (appended w o code values next results)
straight_emits core s w o code values next results st ok low = record {
  moves = record { phis = ([], sym (append-nil (map draft_phis w.done ++ o.phis ∷ [])) ∙ ap (λ (n : Option Open). (map draft_phis w.done ++ now_phis n) ++ []) (sym st.opens)); added = []; done = sym (append-nil w.done); targets = grows_refl w.targets 0; lates = grows_refl w.lates []; next = st.more; ends = same_levels w.ends; starts = same_levels w.starts };
  valid = record { now = st.cells; ends = levels_more core.cells w.next next (length w.done) (length w.done) w.ends st.more (omega arith) ok.ends; starts = levels_more core.cells w.next next (length w.done) (length w.done) w.starts st.more (omega arith) ok.starts; stand = ok.stand };
  low = λ m labels lates ends starts end f at g h. from m lates ends starts end at;
}
  where
    from : (m : Module) (lates : ℕ → List Phi) (ends : List (Option Place)) (starts : List Place) (end : Option Place) → StandsIf m lates (length w.done) (Some (record o { body = o.body ++ code; values = values })) end → LowFrom core m lates w s end ends starts
    from m lates ends starts None at = absurd at
    from m lates ends starts (Some q) at =
        let p : Place = record q { rest = code ++ q.rest; values = o.values } in
        let here : StandsAt m lates (length w.done) o p = record { block = at.block; values = refl; found = at.found ∙ ap (λ (b : List Instr). Some (record { name = length w.done; phis = settled_phis lates o.phis; body = b; last = q.last })) (append_assoc o.body code q.rest) } in
        let l : Low core m s (Some p) (Some (record q { values = values })) ends starts = low m ends starts p q.rest refl refl in
        record { start = Some p; at = subst (λ (n : Option Open). StandsIf m lates (length w.done) n (Some p)) (sym st.opens) here; low = subst (λ (x : List Operand). Low core m s (Some p) (Some (record q { values = x })) ends starts) (sym at.values) l }

pub assign_emits : (core : Core) (coder : Coder) → IsCoder core coder → (pairs : List (ℕ × ℕ)) (w : Work) (now : Option Open) → w.now ≡ now → All (PairFits core) pairs → IsValid core.cells w → Emits core (Assign pairs) w (when_open now w (assign_work coder pairs w))
assign_emits core coder isc pairs w None is fit ok = dead_emits core (Assign pairs) w is (λ m ends starts. refl) ok
assign_emits core coder isc pairs w (Some o) is fit ok =
    let fits = recursion_from_All (PairFits core) pairs fit in
    let cells = now_of core.cells w o is ok in
    let c = coder (pair_exprs pairs) o.values w.next in
    let l = coded core coder isc (pair_exprs pairs) o.values w.next (pairs_within core pairs fits) cells in
    let next = w.next + length c.code in
    let more : w.next ≤ next = omega arith in
    straight_emits core (Assign pairs) w o c.code (stored pairs c.operands o.values) next w.results
    (record { opens = is; more = more; cells = cells_stored core (Behind (HasCell core.cells o.values) c.code) next pairs c.operands o.values fits (recursion_from_All (IsBelow next) c.operands l.below) l.typed (cells_more core.cells w.next next o.values more cells) })
    ok (λ m ends starts p rest e_rest e_values. record {
      code = c.code;
      rest = rest;
      operands = c.operands;
      is = e_rest;
      computes = subst (λ (v : List Operand). Computes core (pair_exprs pairs) v c.code c.operands) (sym e_values) (computed core (pair_exprs pairs) o.values w.next c.code c.operands l);
      ends = ap (λ (v : List Operand). Some (record p { rest = rest; values = stored pairs c.operands v })) (sym e_values);
    })

pub gate_emits : (core : Core) (coder : Coder) → IsCoder core coder → (leaf : LeafCall) (w : Work) (now : Option Open) → w.now ≡ now → LeafFits core leaf → IsValid core.cells w → Emits core (Gate leaf) w (when_open now w (gate_work coder leaf w))
gate_emits core coder isc leaf w None is fit ok = dead_emits core (Gate leaf) w is (λ m ends starts. refl) ok
gate_emits core coder isc leaf w (Some o) is fit ok =
    let cells = now_of core.cells w o is ok in
    let c = coder (leaf_exprs leaf) o.values w.next in
    let l = coded core coder isc (leaf_exprs leaf) o.values w.next (leaf_within core leaf fit) cells in
    let next = w.next + length c.code in
    let more : w.next ≤ next = omega arith in
    straight_emits core (Gate leaf) w o (c.code ++ gate_call leaf c.operands ∷ []) o.values next w.results
    (record { opens = is; more = more; cells = cells_more core.cells w.next next o.values more cells })
    ok (λ m ends starts p rest e_rest e_values. record {
      code = c.code;
      rest = rest;
      operands = c.operands;
      is = e_rest ∙ append_assoc c.code (gate_call leaf c.operands ∷ []) rest;
      computes = subst (λ (v : List Operand). Computes core (leaf_exprs leaf) v c.code c.operands) (sym e_values) (computed core (leaf_exprs leaf) o.values w.next c.code c.operands l);
      ends = ap (λ (v : List Operand). Some (record p { rest = rest; values = v })) (sym e_values);
    })

pub reset_emits : (core : Core) (qubit : QubitId) (w : Work) (now : Option Open) → w.now ≡ now → IsValid core.cells w → Emits core (Reset qubit) w (when_open now w (reset_work qubit w))
reset_emits core qubit w None is ok = dead_emits core (Reset qubit) w is (λ m ends starts. refl) ok
reset_emits core qubit w (Some o) is ok =
    straight_emits core (Reset qubit) w o (reset_call qubit ∷ []) o.values w.next w.results
    (record { opens = is; more = omega arith; cells = now_of core.cells w o is ok })
    ok (λ m ends starts p rest e_rest e_values. record {
      rest = rest;
      is = e_rest;
      ends = ap (λ (v : List Operand). Some (record p { rest = rest; values = v })) (sym e_values);
    })

pub measure_emits : (core : Core) (qubit : QubitId) (into : Option ℕ) (w : Work) (now : Option Open) → w.now ≡ now → IntoFits core.cells into → IsValid core.cells w → Emits core (Measure qubit into) w (when_open now w (measure_work qubit into w))
measure_emits core qubit into w None is fit ok = dead_emits core (Measure qubit into) w is (λ m ends starts. refl) ok
measure_emits core qubit None w (Some o) is fit ok =
    straight_emits core (Measure qubit None) w o (measure_call qubit w.results ∷ []) o.values w.next (suc w.results)
    (record { opens = is; more = omega arith; cells = now_of core.cells w o is ok })
    ok (λ m ends starts p rest e_rest e_values. record {
      rest = rest;
      result = w.results;
      is = e_rest;
      ends = ap (λ (v : List Operand). Some (record p { rest = rest; values = v })) (sym e_values);
    })
measure_emits core qubit (Some c) w (Some o) is fit ok =
    let cells = now_of core.cells w o is ok in
    let more : w.next ≤ suc w.next = omega arith in
    let below : w.next < suc w.next = omega arith in
    straight_emits core (Measure qubit (Some c)) w o (measure_call qubit w.results ∷ read_call w.next w.results ∷ []) (slice_set o.values c (Register w.next)) (suc w.next) (suc w.results)
    (record { opens = is; more = more; cells = cells_set core.cells (suc w.next) o.values c (Register w.next) TruthKind (cells_more core.cells w.next (suc w.next) o.values more cells) fit below tt })
    ok (λ m ends starts p rest e_rest e_values. record {
      rest = rest;
      result = w.results;
      register = w.next;
      is = e_rest;
      fresh = subst (λ (v : List Operand). IsFresh core.cells v w.next) (sym e_values) (fresh_below core.cells o.values w.next (cells_below core.cells w.next o.values cells));
      ends = ap (λ (v : List Operand). Some (record p { rest = rest; values = slice_set v c (Register w.next) })) (sym e_values);
    })

-- ---- jumps

-- a block that was closed with a jump
abbrev pub jump_place : ℕ → Open → Place → Place
jump_place b o to = record { block = b; rest = []; last = Jump to.block; values = o.values }

pub closed_at : (m : Module) (labels : ℕ → ℕ) (lates : ℕ → List Phi) (done : List Draft) (b : ℕ) (o : Open) (label : ℕ) (to : Place) → Stand m labels lates done → slice_get done b ≡ Some (closed o (Jump label)) → to.block ≡ labels label → StandsAt m lates b o (jump_place b o to)
closed_at m labels lates done b o label to f e here = record {
  block = refl;
  values = refl;
  found = f.by b (closed o (Jump label)) e ∙ ap (λ (c : List Instr). Some (record { name = b; phis = settled_phis lates o.phis; body = c; last = Jump (labels label) })) (sym (append-nil o.body)) ∙ ap (λ (l : ℕ). Some (record { name = b; phis = settled_phis lates o.phis; body = o.body ++ []; last = Jump l })) (sym here);
}

pub pushed : (w : Work) (d : Draft) → length (w.done ++ d ∷ []) ≡ suc (length w.done)
pushed w d = omega (arith, length-append w.done (d ∷ []))

pub closed_phis : (w : Work) (o : Open) (d : Draft) → w.now ≡ Some o → d.phis ≡ o.phis → (more : List PhiPart) × (map draft_phis (w.done ++ d ∷ []) ++ [] ≡ phi_list w ++ more)
closed_phis w o d is e = ([], ap (λ (l : List PhiPart). l ++ []) (map_push w.done d) ∙ ap (λ (x : PhiPart). (map draft_phis w.done ++ x ∷ []) ++ []) e ∙ ap (λ (n : Option Open). (map draft_phis w.done ++ now_phis n) ++ []) (sym is))

pub leave_emits : (core : Core) (k : ℕ) (w : Work) (now : Option Open) → w.now ≡ now → k < length w.ends → IsValid core.cells w → Emits core (Leave k) w (when_open now w (leave_work k w))
leave_emits core k w None is lt ok = dead_emits core (Leave k) w is (λ m ends starts. refl) ok
leave_emits core k w (Some o) is lt ok = record {
  moves = record { phis = closed_phis w o d is refl; added = d ∷ []; done = refl; targets = grows_refl w.targets 0; lates = grows_refl w.lates []; next = omega arith; ends = add_same w.ends k (way_of w o); starts = same_levels w.starts };
  valid = record { now = tt; ends = add_fits core.cells w.next b (length (w.done ++ d ∷ [])) w.ends k (way_of w o) (omega arith) (omega (arith, pushed w d)) cells ok.ends; starts = levels_more core.cells w.next w.next b (length (w.done ++ d ∷ [])) w.starts (omega arith) (omega (arith, pushed w d)) ok.starts; stand = stand_more b (length (w.done ++ d ∷ [])) w.starts (omega (arith, pushed w d)) ok.stand };
  low = λ m labels lates ends starts end f at g h.
      let r = add_leaves core.cells m labels w.ends k (way_of w o) ends lt g in
      let here = closed_at m labels lates (w.done ++ d ∷ []) b o (label_at w.ends k) r.to f.blocks (get_end w.done d) r.block in
      record { start = Some (jump_place b o r.to); at = subst (λ (x : Option Open). StandsIf m lates b x (Some (jump_place b o r.to))) (sym is) here; low = (r.to, r.at, record { goes = record { rest = refl; last = refl; leads = r.leads }; later = r.later }, stands_none m lates (length (w.done ++ d ∷ [])) end at) };
}
  where
    b : ℕ
    b = length w.done

    d : Draft
    d = closed o (Jump (label_at w.ends k))

    cells : AreCells core.cells w.next o.values
    cells = now_of core.cells w o is ok

pub again_emits : (core : Core) (k : ℕ) (w : Work) (now : Option Open) → w.now ≡ now → k < length w.starts → IsValid core.cells w → Emits core (Again k) w (when_open now w (again_work k w))
again_emits core k w None is lt ok = dead_emits core (Again k) w is (λ m ends starts. refl) ok
again_emits core k w (Some o) is lt ok = record {
  moves = record { phis = closed_phis w o d is refl; added = d ∷ []; done = refl; targets = grows_refl w.targets 0; lates = grows_refl w.lates []; next = omega arith; ends = same_levels w.ends; starts = add_same w.starts k (way_of w o) };
  valid = record { now = tt; ends = levels_more core.cells w.next w.next b (length (w.done ++ d ∷ [])) w.ends (omega arith) (omega (arith, pushed w d)) ok.ends; starts = add_fits core.cells w.next b (length (w.done ++ d ∷ [])) w.starts k (way_of w o) (omega arith) (omega (arith, pushed w d)) cells ok.starts; stand = stand_add (length (w.done ++ d ∷ [])) w.starts k (way_of w o) (stand_more b (length (w.done ++ d ∷ [])) w.starts (omega (arith, pushed w d)) ok.stand) };
  low = λ m labels lates ends starts end f at g h.
      let r = add_agains core.cells m labels b w.starts k (way_of w o) starts lt ok.stand h in
      let here = closed_at m labels lates (w.done ++ d ∷ []) b o (label_at w.starts k) r.to f.blocks (get_end w.done d) r.block in
      record { start = Some (jump_place b o r.to); at = subst (λ (x : Option Open). StandsIf m lates b x (Some (jump_place b o r.to))) (sym is) here; low = (r.to, r.at, record { goes = record { rest = refl; last = refl; leads = r.leads }; not_later = r.not_later }, stands_none m lates (length (w.done ++ d ∷ [])) end at) };
}
  where
    b : ℕ
    b = length w.done

    d : Draft
    d = closed o (Jump (label_at w.starts k))

    cells : AreCells core.cells w.next o.values
    cells = now_of core.cells w o is ok

-- ---- joins

pub record Joined (label : ℕ) (x v : Work) : Type 0 where
  pub phis : (more : List PhiPart) × (phi_list v ≡ phi_list x ++ more)
  pub done : v.done ≡ x.done
  pub lates : v.lates ≡ x.lates
  pub ends : v.ends ≡ x.ends
  pub starts : v.starts ≡ x.starts
  pub next : x.next ≤ v.next
  pub long : length v.targets ≡ length x.targets
  pub other : (l : ℕ) → l ≢ label → get_or v.targets l 0 ≡ get_or x.targets l 0

pub opened_phis : (x : Work) (ps : PhiPart) → x.now ≡ None → (more : List PhiPart) × (map draft_phis x.done ++ ps ∷ [] ≡ phi_list x ++ more)
opened_phis x ps none = (ps ∷ [], ap (λ (l : List PhiPart). l ++ ps ∷ []) (sym (append-nil (map draft_phis x.done))) ∙ ap (λ (n : Option Open). (map draft_phis x.done ++ now_phis n) ++ ps ∷ []) (sym none))

pub joined : (kinds : List CellKind) (label : ℕ) (ways : List CellState) (x : Work) → x.now ≡ None → Joined label x (join_work kinds label ways x)
joined kinds label [] x none = record { phis = ([], sym (append-nil (phi_list x))); done = refl; lates = refl; ends = refl; starts = refl; next = omega arith; long = refl; other = λ l ne. refl }
joined kinds label (way ∷ ways) x none = record { phis = opened_phis x (Ready (phis_for (ways_differ (way ∷ ways)) (way ∷ ways) kinds 0 x.next)) none; done = refl; lates = refl; ends = refl; starts = refl; next = next_more (ways_differ (way ∷ ways)) kinds 0 x.next; long = length-set x.targets label (length x.done); other = λ l ne. get_or-set_other x.targets label l (length x.done) 0 ne }

pub join_valid : (kinds : List CellKind) (label : ℕ) (ways : List CellState) (x : Work) → WaysFit kinds x.next (length x.done) ways → IsValid kinds x → IsValid kinds (join_work kinds label ways x)
join_valid kinds label [] x ok v = v
join_valid kinds label (way ∷ ways) x ok v =
    let needs = ways_differ (way ∷ ways) in
    let more = next_more needs kinds 0 x.next in
    record {
      now = cells_phis needs kinds way.values x.next ok.0.0.1;
      ends = levels_more kinds x.next (next_for needs kinds 0 x.next) (length x.done) (length x.done) x.ends more (omega arith) v.ends;
      starts = levels_more kinds x.next (next_for needs kinds 0 x.next) (length x.done) (length x.done) x.starts more (omega arith) v.starts;
      stand = v.stand;
    }

-- an opened block with these phis is where a way leads
pub leads_at : (kinds : List CellKind) (m : Module) (lates : ℕ → List Phi) (b from : ℕ) (before : List Operand) (o : Open) (p : Place) → o.body ≡ [] → length o.values ≡ length kinds → StandsAt m lates b o p → Carries (settled_phis lates o.phis) kinds (record { block = from; values = before }) o.values → Leads kinds m from before p
leads_at kinds m lates b from before o p e long at c = record {
  target = record { name = b; phis = settled_phis lates o.phis; body = o.body ++ p.rest; last = p.last };
  found = ap (slice_get m.blocks) at.block ∙ at.found;
  body = ap (λ (x : List Instr). x ++ p.rest) e;
  last = refl;
  long = ap length at.values ∙ long;
  carries = subst (λ (v : List Operand). Carries (settled_phis lates o.phis) kinds (record { block = from; values = before }) v) (sym at.values) c;
}

pub join_goes : WaysCarry → SameWhereNotDiffer → (kinds : List CellKind) (m : Module) (labels : ℕ → ℕ) (lates : ℕ → List Phi) (label : ℕ) (ways : List CellState) (x : Work) (end : Option Place) → x.now ≡ None → WaysFit kinds x.next (length x.done) ways → label < length x.targets → labels label ≡ get_or (join_work kinds label ways x).targets label 0 → StandsIf m lates (length x.done) (join_work kinds label ways x).now end → EndGoes kinds m labels label ways end
join_goes carry same kinds m labels lates label [] x end none ok lt settles at =
    let gone = stands_none m lates (length x.done) end (subst (λ (n : Option Open). StandsIf m lates (length x.done) n end) none at) in
    subst (λ (e : Option Place). EndGoes kinds m labels label [] e) (sym gone) refl
join_goes carry same kinds m labels lates label (way ∷ ways) x None none ok lt settles at = absurd at
join_goes carry same kinds m labels lates label (way ∷ ways) x (Some to) none ok lt settles at =
    let needs = ways_differ (way ∷ ways) in
    let o : Open = record { phis = Ready (phis_for needs (way ∷ ways) kinds 0 x.next); body = []; values = values_for needs way.values 0 x.next } in
    let long = (cells_phis needs kinds way.values x.next ok.0.0.1).long in (
      at.block ∙ sym (settles ∙ get_or-set_same x.targets label (length x.done) 0 lt),
      each_forward kinds m to (way ∷ ways) (λ v i.
          let w = ways_in kinds x.next (length x.done) (way ∷ ways) v ok i in
          (omega (arith, w.0, at.block), leads_at kinds m lates (length x.done) v.block v.values o to refl long at (ways_carried carry needs kinds x.next (length x.done) x.next (way ∷ ways) v way.values ok i ok.0.0.1 (λ c e. same (way ∷ ways) v c i e)))),
    )

-- ---- blocks

pub joins_leave : (core : Core) (m : Module) (mid end : Option Place) (ends : List (Option Place)) (starts : List Place) → Low core m (Leave 0) mid None (end ∷ ends) starts → Joins core.cells m mid end
joins_leave core m None end ends starts l = tt
joins_leave core m (Some p) end ends starts l = subst (λ (e : Option Place). Joins core.cells m (Some p) e) (sym l.1) l.2

longer_by : (xs : List ℕ) (a : ℕ) → length (xs ++ a ∷ []) ≡ suc (length xs)
longer_by xs a = omega (arith, length-append xs (a ∷ []))

pub block_at : WaysCarry → SameWhereNotDiffer → (core : Core) (a : Stmt) (w u : Work) (o : Open) (us : List Level) → w.now ≡ Some o → Emits core (Seq a (Leave 0)) (open_end w) u → u.now ≡ None → u.ends ≡ us → Emits core (Block a) w (close_end core.cells us u)
block_at carry keeps core a w u o [] is ei none e = absurd (subst (λ (k : List Level). SameLevels (record { label = length w.targets; block = 0; ways = [] } ∷ w.ends) k) e ei.moves.ends)
block_at carry keeps core a w u o (l ∷ ls) is ei none e = record {
  moves = record {
    phis = (ei.moves.phis.0 ++ j.phis.0, j.phis.1 ∙ ap (λ (x : List PhiPart). x ++ j.phis.0) ei.moves.phis.1 ∙ append_assoc (phi_list w) ei.moves.phis.0 j.phis.0);
    added = ei.moves.added;
    done = j.done ∙ ei.moves.done;
    targets = record { long = omega (arith, j.long, ei.moves.targets.long, longer_by w.targets 0); same = λ k lt. j.other k (λ h. absurd (omega (arith, h, lt, same.0))) ∙ ei.moves.targets.same k (omega (arith, lt, longer_by w.targets 0)) ∙ get_or_append_left w.targets (0 ∷ []) 0 k lt };
    lates = subst (λ (t : List (List Phi)). Grows w.lates t []) (sym j.lates) ei.moves.lates;
    next = omega (arith, ei.moves.next, j.next);
    ends = subst (λ (k : List Level). SameLevels w.ends k) (sym j.ends) same.3;
    starts = subst (λ (k : List Level). SameLevels w.starts k) (sym j.starts) ei.moves.starts;
  };
  valid = join_valid core.cells l.label l.ways x levels.0 (record { now = ei.valid.now; ends = levels.1; starts = ei.valid.starts; stand = ei.valid.stand });
  low = λ m labels lates ends starts end f at g h.
      let at_x = subst (λ (d : List Draft). StandsIf m lates (length d) v.now end) j.done at in
      let lab : labels l.label ≡ get_or v.targets l.label 0 = f.targets.by l.label (omega (arith, same.0)) (omega (arith, within, j.long)) in
      let goes = join_goes carry keeps core.cells m labels lates l.label l.ways x end none levels.0 within lab at_x in
      let inner : IsFinal m labels lates (open_end w) u = record {
        blocks = subst (λ (d : List Draft). Stand m labels lates d) j.done f.blocks;
        targets = record { by = λ k le lt. f.targets.by k (omega (arith, le, longer_by w.targets 0)) (omega (arith, lt, j.long)) ∙ j.other k (λ h'. absurd (omega (arith, h', le, longer_by w.targets 0, same.0))) };
        phis = subst (λ (t : List (List Phi)). Settles w.lates t lates []) j.lates f.phis;
      } in
      let g' : EndsGo core.cells m labels u.ends (end ∷ ends) = subst (λ (k : List Level). EndsGo core.cells m labels k (end ∷ ends)) (sym e) (goes, subst (λ (k : List Level). EndsGo core.cells m labels k ends) j.ends g) in
      let r = ei.low m labels lates (end ∷ ends) starts None inner (subst (λ (n : Option Open). StandsIf m lates (length u.done) n None) (sym none) tt) g' (subst (λ (k : List Level). StartsGo core.cells m labels k starts) j.starts h) in
      from m lates ends starts end r.start r.at r.low;
}
  where
    same : (l.label ≡ length w.targets) × (l.block ≡ 0) × ((more : List CellState) × (l.ways ≡ [] ++ more)) × SameLevels w.ends ls
    same = subst (λ (k : List Level). SameLevels (record { label = length w.targets; block = 0; ways = [] } ∷ w.ends) k) e ei.moves.ends

    x : Work
    x = record u { ends = ls }

    v : Work
    v = join_work core.cells l.label l.ways x

    j : Joined l.label x v
    j = joined core.cells l.label l.ways x none

    levels : WaysFit core.cells u.next (length u.done) l.ways × LevelsFit core.cells u.next (length u.done) ls
    levels = subst (λ (k : List Level). LevelsFit core.cells u.next (length u.done) k) e ei.valid.ends

    within : l.label < length u.targets
    within = omega (arith, same.0, ei.moves.targets.long, longer_by w.targets 0)

    from : (m : Module) (lates : ℕ → List Phi) (ends : List (Option Place)) (starts : List Place) (end start : Option Place) → StandsIf m lates (length w.done) w.now start → Low core m (Seq a (Leave 0)) start None (end ∷ ends) starts → LowFrom core m lates w (Block a) end ends starts
    from m lates ends starts end None at low = absurd (subst (λ (n : Option Open). StandsIf m lates (length w.done) n None) is at)
    from m lates ends starts end (Some p) at low = record { start = Some p; at = at; low = (low.0, low.1, joins_leave core m low.0 end ends starts low.2) }
