-- Each operand of the module is of the type that its register is assigned with.
use Rattle.std.proofs.Common.{◌≡◌, inl, ℕ, zero, suc, ◌+◌, ◌<◌, ◌≤◌, ⊎_elim, Bool, true, false, not, List, [], ◌∷◌, ◌++◌, map, length, take, get_or, pos, Option, Some, None, refl, sym, ap, ◌∙◌, subst, arith, append-nil, length-set, get_or-set_same}
use Rattle.std.specs.Prelude.{slice_get, slice_set, if◌then◌else◌}
use Rattle.std.specs.Int.{w64}
use Rattle.std.specs.List.{flat_map, list_all, AllByRecursion}
use Rattle.std.proofs.lemmas.Int.{fits_signed_from_abs}
use Rattle.std.proofs.lemmas.List.Elements.{recursion_from_All}
use Rattle.gate_table.specs.Table.{row_of as gate_row_of}
use Rattle.gate_table.specs.declared.table.Row.{Row as GateRow}
use Rattle.qq_base.specs.declared.run.QubitId.{QubitId}
use Rattle.qir_module.specs.declared.instruction.Operand.{Operand}
use Rattle.qir_module.specs.declared.instruction.Operand.TheVariants.{Register, Fixed}
use Rattle.qir_module.specs.declared.instruction.Arg.{Arg}
use Rattle.qir_module.specs.declared.instruction.Arg.TheVariants.{Id}
use Rattle.qir_module.specs.declared.instruction.Instr.{Instr}
use Rattle.qir_module.specs.declared.instruction.Last.{Last}
use Rattle.qir_module.specs.declared.instruction.Last.TheVariants.{Jump, Branch, Return}
use Rattle.qir_module.specs.declared.block.Phi.{Phi}
use Rattle.qir_module.specs.declared.block.Block.{Block as ModuleBlock}
use Rattle.qir_module.specs.Module.{Module}
use Rattle.qir_module.specs.Numbered.{is_among}
use Rattle.qir_module.specs.Spots.{Item, ThePhi, TheInstr, TheLast, items_in, Spot}
use Rattle.qir_module.specs.Passes.{IsKept, arg_operands, instr_operands, last_operands, item_operands, assigned_with, assigned_as, is_fixed_truth, has_type, operand_types_kept}
use Rattle.core_ir.specs.declared.expression.CellKind.{CellKind}
use Rattle.core_ir.specs.declared.expression.CellKind.TheVariants.{Truth as TruthCell, Number as NumberCell}
use Rattle.core_ir.specs.declared.statement.GateArg.{GateArg}
use Rattle.core_ir.specs.declared.statement.GateArg.TheVariants.{Unused, Units, Running}
use Rattle.core_ir.specs.declared.statement.LeafCall.{LeafCall}
use Rattle.core_ir.specs.declared.program.Output.{Output}
use Rattle.core_ir.specs.declared.program.Output.TheVariants.{Array as ArrayOutput, Truth as TruthOutput, Number as NumberOutput}
use Rattle.core_ir.specs.Core.{Core}
use Rattle.core_ir.specs.Size.{running_in, pair_exprs, leaf_exprs}
use Rattle.core_ir.specs.Tree.{Stmt, Skip, Seq, Assign, Gate, Reset, Measure, If, Block, Loop, Leave, Again, program_of}
use Rattle.core_ir.specs.Ways.{Falls, reaches}
use Rattle.core_ir.specs.WellFormed.{kind_at, ArgsFit, PairFits, TakesRow, LeafFits, OutputFits, HasLevels}
use Rattle.cell_operands.specs.Operands.{is_number}
use Rattle.phi_place.specs.State.{CellState}
use Rattle.phi_place.specs.Phis.{phis_for, values_for, ways_differ, WaysCarry, SameWhereNotDiffer}
use Rattle.expr_lower.specs.Lowered.{IsTyped, HasCell, Behind, AreTyped, IsLowered}
use Rattle.block_graph.specs.Bounds.{IsHeldArg, IsHeldLeaf, IsHeldOutput}
use Rattle.block_graph.specs.Fitting.{IsFit}
use Rattle.block_graph.specs.Laws.{IsLowerable}
use Rattle.block_graph.specs.Work.{PhiPart, Ready, Late, Draft, Level, Open, Work}
use Rattle.block_graph.specs.Lowering.{Coder, IsCoder, stored, unit_args, qubit_args, gate_call, reset_call, measure_call, read_call, record_call, opened, closed, close, when_open, way_of, label_at, assign_work, gate_work, reset_work, measure_work, leave_work, again_work, leave_zero, join_work, open_end, close_end, start_needs, open_loop, close_start, branch_last, first_operand, open_first, fall_work, fall_ways, open_second, join_bodies, two_bodies, lower_of, first_work, end_work, whole_work, settled_phis, settled_last, settled, settled_from, lowered}
use Rattle.block_graph.specs.Claims.{traced_draft, traced_now}
use Rattle.block_graph.proofs.Calling.{row_small, unused_args}
use Rattle.block_graph.proofs.Cells.{zero_at}
use Rattle.block_graph.proofs.Coding.{both, flat_append, all_append}
use Rattle.block_graph.proofs.Flow.{fall_none, leave_none}
use Rattle.block_graph.proofs.Moving.{IsValid, SameLevels, same_then, Grows, Settles, settles_left, settles_right, Emits}
use Rattle.block_graph.proofs.Emitting.{kind_within, pairs_within, leaf_within, now_of, coded}
use Rattle.block_graph.proofs.Choosing.{fallen}
use Rattle.block_graph.proofs.Whole.{open_end_valid, open_loop_valid, open_first_valid, open_second_valid, levels_same, body_emits, emits, first_valid, program_fits}
use Rattle.block_graph.proofs.Walking.{close_end_lates, fall_lates, leave_lates, bodies_lates, one_longer, lates_grow, loop_lates, Steps, walk, late_phis, end_none, program_settles}
use Rattle.block_graph.proofs.Ordering.{traced_more, traced_same, traced_close, traced_open}
use Rattle.block_graph.proofs.Spotting.{each_spot, all_middle, all_get, OfItems, all_items}
use Rattle.block_graph.proofs.Shaping.{first_typed}
use Rattle.block_graph.proofs.Typing.{phis_with, instr_with, Has, Adds, adds_old, adds_new, among_left, among_first, AreOperands, PhisTyped, PartTyped, BodyTyped, DraftTyped, CellsTyped, NowTyped, WaysTyped, LevelsTyped, IsTypedWork, cells_with, work_with, ways_with, gives_all, code_typed, behind_typed, cell_has, exprs_with, cells_put, stored_typed, opened_typed, phis_typed, ways_push}

-- ---- calls

units_typed : (has : ℕ → Bool → Type 0) (core : Core) (n : ℕ) (args : List GateArg) (operands : List Operand) → n ≤ length args → ArgsFit core n args → AllByRecursion IsHeldArg args → AreTyped has core (flat_map running_in args) operands → AreOperands has (flat_map arg_operands (unit_args args operands))
units_typed has core zero args operands le fit held typed = subst (λ (l : List Arg). AreOperands has (flat_map arg_operands l)) (sym (unused_args core args operands fit)) tt
units_typed has core (suc n) [] operands le fit held typed = absurd (omega (arith, le))
units_typed has core (suc n) (Unused ∷ args) operands le fit held typed = absurd fit.0
units_typed has core (suc n) (Units z ∷ args) operands le fit held typed = (held.0, units_typed has core n args operands (omega (arith, le)) fit.1 held.1 typed)
units_typed has core (suc n) (Running e ∷ args) [] le fit held typed = absurd typed
units_typed has core (suc n) (Running e ∷ args) (o ∷ operands) le fit held typed = (typed.0 NumberCell fit.0, units_typed has core n args operands (omega (arith, le)) fit.1 held.1 typed.1)

ids_silent : (qubits : List QubitId) → flat_map arg_operands (map (λ (q : QubitId). Id q.0) qubits) ≡ []
ids_silent [] = refl
ids_silent (q ∷ qubits) = ids_silent qubits

gate_typed : (has : ℕ → Bool → Type 0) (core : Core) (leaf : LeafCall) (operands : List Operand) → LeafFits core leaf → IsHeldLeaf leaf → AreTyped has core (leaf_exprs leaf) operands → AreOperands has (instr_operands (gate_call leaf operands))
gate_typed has core leaf operands fit shape typed = at (gate_row_of leaf.gate.0) refl fit.1
  where
    at : (o : Option GateRow) → gate_row_of leaf.gate.0 ≡ o → TakesRow core leaf o → AreOperands has (instr_operands (gate_call leaf operands))
    at None e takes = absurd takes
    at (Some row) e takes =
        let small = row_small leaf.gate.0 row e in
        let units = unit_args leaf.args operands in
        let ids = map (λ (q : QubitId). Id q.0) (take row.qubits leaf.qubits) in
        let held = recursion_from_All IsHeldArg leaf.args shape.args in
        let args : flat_map arg_operands (unit_args leaf.args operands ++ qubit_args (gate_row_of leaf.gate.0) leaf.qubits) ≡ flat_map arg_operands units =
        ap (λ (r : Option GateRow). flat_map arg_operands (units ++ qubit_args r leaf.qubits)) e ∙ flat_append arg_operands units ids ∙ ap (λ (l : List (Operand × Bool)). flat_map arg_operands units ++ l) (ids_silent (take row.qubits leaf.qubits)) ∙ append-nil (flat_map arg_operands units) in
        subst (AreOperands has) (sym args) (units_typed has core row.params leaf.args operands (omega (arith, small.0, shape.four)) takes.0 held typed)

record_typed : (has : ℕ → Bool → Type 0) (core : Core) (values : List Operand) (outputs : List Output) → CellsTyped has core.cells values → AllByRecursion (OutputFits core) outputs → AllByRecursion IsHeldOutput outputs → BodyTyped has (map (record_call values) outputs)
record_typed has core values [] cells fit held = tt
record_typed has core values (ArrayOutput label size ∷ outputs) cells fit held = ((fits_signed_from_abs w64 (pos size) (omega (arith, held.0)), tt), record_typed has core values outputs cells fit.1 held.1)
record_typed has core values (TruthOutput label c ∷ outputs) cells fit held = ((cells c TruthCell fit.0.1, tt), record_typed has core values outputs cells fit.1 held.1)
record_typed has core values (NumberOutput label c ∷ outputs) cells fit held = ((cells c NumberCell fit.0.1, tt), record_typed has core values outputs cells fit.1 held.1)

-- ---- steps

module _ (kinds : List CellKind) (lates : ℕ → List Phi) where
  more_adds : (w v : Work) (o : Open) (code : List Instr) (values : List Operand) → w.now ≡ Some o → v.done ≡ w.done → v.now ≡ Some (record o { body = o.body ++ code; values = values }) → Adds lates w v (λ truth. flat_map (instr_with truth) code)
  more_adds w v o code values is done now = record { by = λ truth. traced_more (phis_with truth) (instr_with truth) lates w v o code values is done now }

  close_adds : (w v : Work) (o : Open) (code : List Instr) (last : Last) → w.now ≡ Some o → v.done ≡ w.done ++ record { phis = o.phis; body = o.body ++ code; last = last } ∷ [] → v.now ≡ None → Adds lates w v (λ truth. flat_map (instr_with truth) code)
  close_adds w v o code last is done none = record { by = λ truth. traced_close (phis_with truth) (instr_with truth) lates w v o code last is done none }

  open_adds : (x v : Work) (o : Open) → x.now ≡ None → v.done ≡ x.done → v.now ≡ Some o → o.body ≡ [] → Adds lates x v (λ truth. phis_with truth (settled_phis lates o.phis))
  open_adds x v o none done now body = record { by = λ truth. traced_open (phis_with truth) (instr_with truth) lates x v o none done now body }

  more_typed : (w v : Work) (o : Open) (code : List Instr) (values : List Operand) → w.now ≡ Some o → v.done ≡ w.done → v.now ≡ Some (record o { body = o.body ++ code; values = values }) → v.lates ≡ w.lates → v.ends ≡ w.ends → v.starts ≡ w.starts
      → (CellsTyped (Has lates v) kinds o.values → BodyTyped (Has lates v) code) → (CellsTyped (Has lates v) kinds o.values → CellsTyped (Has lates v) kinds values) → IsTypedWork (Has lates w) kinds w → IsTypedWork (Has lates v) kinds v
  more_typed w v o code values is done now late ends starts body cells t =
      let H = Has lates v in
      let a = more_adds w v o code values is done now in
      let s = work_with (Has lates w) H (adds_old lates w v (λ truth. flat_map (instr_with truth) code) a) kinds w t in
      let here : NowTyped H kinds (Some o) = subst (NowTyped H kinds) is s.now in
      record {
        done = subst (AllByRecursion (DraftTyped H)) (sym done) s.done;
        now = subst (NowTyped H kinds) (sym now) (here.0, all_append (λ (i : Instr). AreOperands H (instr_operands i)) o.body code here.1 (body here.2), cells here.2);
        lates = subst (AllByRecursion (PhisTyped H)) (sym late) s.lates;
        ends = subst (LevelsTyped H kinds) (sym ends) s.ends;
        starts = subst (LevelsTyped H kinds) (sym starts) s.starts;
      }

  ended_typed : (w v : Work) (o : Open) (code : List Instr) (last : Last) → w.now ≡ Some o → v.done ≡ w.done ++ record { phis = o.phis; body = o.body ++ code; last = last } ∷ [] → v.now ≡ None → v.lates ≡ w.lates
      → (CellsTyped (Has lates v) kinds o.values → BodyTyped (Has lates v) code × AreOperands (Has lates v) (last_operands last)) → (CellsTyped (Has lates v) kinds o.values → LevelsTyped (Has lates v) kinds w.ends → LevelsTyped (Has lates v) kinds v.ends) → (CellsTyped (Has lates v) kinds o.values → LevelsTyped (Has lates v) kinds w.starts → LevelsTyped (Has lates v) kinds v.starts)
      → IsTypedWork (Has lates w) kinds w → IsTypedWork (Has lates v) kinds v
  ended_typed w v o code last is done none late body ends starts t =
      let H = Has lates v in
      let d : Draft = record { phis = o.phis; body = o.body ++ code; last = last } in
      let a = close_adds w v o code last is done none in
      let s = work_with (Has lates w) H (adds_old lates w v (λ truth. flat_map (instr_with truth) code) a) kinds w t in
      let here : NowTyped H kinds (Some o) = subst (NowTyped H kinds) is s.now in
      let own = body here.2 in
      record {
        done = subst (AllByRecursion (DraftTyped H)) (sym done) (all_append (DraftTyped H) w.done (d ∷ []) s.done ((here.0, all_append (λ (i : Instr). AreOperands H (instr_operands i)) o.body code here.1 own.0, own.1), tt));
        now = subst (NowTyped H kinds) (sym none) tt;
        lates = subst (AllByRecursion (PhisTyped H)) (sym late) s.lates;
        ends = ends here.2 s.ends;
        starts = starts here.2 s.starts;
      }

  jump_done : (w : Work) (o : Open) (last : Last) → w.done ++ closed o last ∷ [] ≡ w.done ++ record { phis = o.phis; body = o.body ++ []; last = last } ∷ []
  jump_done w o last = ap (λ (b : List Instr). w.done ++ record { phis = o.phis; body = b; last = last } ∷ []) (sym (append-nil o.body))

  -- a block is opened, from what is there behind it
  begun_typed : (x v : Work) (o : Open) → x.now ≡ None → v.done ≡ x.done → v.now ≡ Some o → o.body ≡ [] → (IsTypedWork (Has lates v) kinds x → PartTyped (Has lates v) o.phis × CellsTyped (Has lates v) kinds o.values × AllByRecursion (PhisTyped (Has lates v)) v.lates × LevelsTyped (Has lates v) kinds v.ends × LevelsTyped (Has lates v) kinds v.starts) → IsTypedWork (Has lates x) kinds x → IsTypedWork (Has lates v) kinds v
  begun_typed x v o none done now body opens t =
      let H = Has lates v in
      let a = open_adds x v o none done now body in
      let s = work_with (Has lates x) H (adds_old lates x v (λ truth. phis_with truth (settled_phis lates o.phis)) a) kinds x t in
      let g = opens s in
      record {
        done = subst (AllByRecursion (DraftTyped H)) (sym done) s.done;
        now = subst (NowTyped H kinds) (sym now) (g.0, subst (BodyTyped H) (sym body) tt, g.1);
        lates = g.2;
        ends = g.3;
        starts = g.4;
      }

  join_typed : (label : ℕ) (ways : List CellState) (x : Work) → x.now ≡ None → WaysTyped (Has lates x) kinds ways → IsTypedWork (Has lates x) kinds x → IsTypedWork (Has lates (join_work kinds label ways x)) kinds (join_work kinds label ways x)
  join_typed label [] x none typed t = t
  join_typed label (way ∷ ways) x none typed t =
      let needs = ways_differ (way ∷ ways) in
      let v = join_work kinds label (way ∷ ways) x in
      let ps = phis_for needs (way ∷ ways) kinds 0 x.next in
      let o : Open = record { phis = Ready ps; body = []; values = values_for needs way.values 0 x.next } in
      let a = open_adds x v o none refl refl refl in
      let old = adds_old lates x v (λ truth. phis_with truth ps) a in
      let all : WaysTyped (Has lates v) kinds (way ∷ ways) = ways_with (Has lates x) (Has lates v) old kinds (way ∷ ways) typed in
      begun_typed x v o none refl refl refl (λ s. (
        phis_typed (Has lates v) needs kinds (way ∷ ways) all kinds 0 x.next (λ j. let z : 0 + j ≡ j = omega arith in ap (slice_get kinds) z),
        (λ c kind is. opened_typed (Has lates v) needs (way ∷ ways) kinds way.values 0 x.next c kind (λ r truth e. adds_new lates x v (λ truth. phis_with truth ps) a r truth e) is (all.0 c kind is)),
        s.lates,
        s.ends,
        s.starts,
      )) t

  close_end_typed : (ls : List Level) (v : Work) → v.now ≡ None → LevelsTyped (Has lates v) kinds ls → IsTypedWork (Has lates v) kinds v → IsTypedWork (Has lates (close_end kinds ls v)) kinds (close_end kinds ls v)
  close_end_typed [] v none fits t = t
  close_end_typed (l ∷ ls) v none fits t = join_typed l.label l.ways (record v { ends = ls }) none fits.0 (record { done = t.done; now = t.now; lates = t.lates; ends = fits.1; starts = t.starts })

  fall_typed : (label : ℕ) (v : Work) (now : Option Open) → v.now ≡ now → IsTypedWork (Has lates v) kinds v → IsTypedWork (Has lates (when_open now v (λ o. close v o (Jump label)))) kinds (when_open now v (λ o. close v o (Jump label)))
  fall_typed label v None is t = t
  fall_typed label v (Some o) is t = ended_typed v (close v o (Jump label)) o [] (Jump label) is (jump_done v o (Jump label)) refl refl (λ c. (tt, tt)) (λ c s. s) (λ c s. s) t

  leave_typed : (k : ℕ) (v : Work) (now : Option Open) → v.now ≡ now → IsTypedWork (Has lates v) kinds v → IsTypedWork (Has lates (when_open now v (leave_work k v))) kinds (when_open now v (leave_work k v))
  leave_typed k v None is t = t
  leave_typed k v (Some o) is t =
      let last = Jump (label_at v.ends k) in
      let x = leave_work k v o in
      ended_typed v x o [] last is (jump_done v o last) refl refl (λ c. (tt, tt)) (λ c s. ways_push (Has lates x) kinds v.ends k (way_of v o) c s) (λ c s. s) t

  again_typed : (k : ℕ) (v : Work) (now : Option Open) → v.now ≡ now → IsTypedWork (Has lates v) kinds v → IsTypedWork (Has lates (when_open now v (again_work k v))) kinds (when_open now v (again_work k v))
  again_typed k v None is t = t
  again_typed k v (Some o) is t =
      let last = Jump (label_at v.starts k) in
      let x = again_work k v o in
      ended_typed v x o [] last is (jump_done v o last) refl refl (λ c. (tt, tt)) (λ c s. s) (λ c s. ways_push (Has lates x) kinds v.starts k (way_of v o) c s) t

  -- the values at the end of a body
  fallen_ways : (label : ℕ) (v : Work) (now : Option Open) → v.now ≡ now → IsTypedWork (Has lates (when_open now v (λ o. close v o (Jump label)))) kinds v → WaysTyped (Has lates (when_open now v (λ o. close v o (Jump label)))) kinds (fall_ways v now)
  fallen_ways label v None is t = tt
  fallen_ways label v (Some o) is t = let here : NowTyped (Has lates (close v o (Jump label))) kinds (Some o) = subst (NowTyped (Has lates (close v o (Jump label))) kinds) is t.now in (here.2, tt)

  bodies_typed : (label : ℕ) (ways : List CellState) (u : Work) → (fall_work label u).now ≡ None → WaysTyped (Has lates (fall_work label u)) kinds (ways ++ fall_ways u u.now) → IsTypedWork (Has lates u) kinds u → IsTypedWork (Has lates (fall_work label u)) kinds (fall_work label u) → IsTypedWork (Has lates (join_bodies kinds label ways u)) kinds (join_bodies kinds label ways u)
  bodies_typed label [] u none all t fell = t
  bodies_typed label (way ∷ ways) u none all t fell = join_typed label ((way ∷ ways) ++ fall_ways u u.now) (fall_work label u) none all fell

  fall_has : (label : ℕ) (v : Work) (now : Option Open) → v.now ≡ now → (r : ℕ) (truth : Bool) → Has lates v r truth → Has lates (when_open now v (λ o. close v o (Jump label))) r truth
  fall_has label v None is r truth h = h
  fall_has label v (Some o) is r truth h = adds_old lates v (close v o (Jump label)) (λ truth. flat_map (instr_with truth) []) (close_adds v (close v o (Jump label)) o [] (Jump label) is (jump_done v o (Jump label)) refl) r truth h

  -- ---- loops

  -- the late phis of a loop, with some ways
  abbrev IsLate : (ℕ → Bool) → Work → Type 0
  IsLate needs w = (ways : List CellState) × (lates (length w.lates) ≡ phis_for needs ways kinds 0 w.next)

  own_late : (needs : ℕ → Bool) (w v : Work) (start : Level) (es ss : List Level) → SameLevels (start ∷ w.starts) ss → length w.lates < length v.lates → Settles w.lates (close_end kinds es (close_start kinds needs (length w.lates) w.next ss v)).lates lates [] → IsLate needs w
  own_late needs w v start es [] same lt st = absurd same
  own_late needs w v start es (l ∷ ls) same lt st =
      let ps = phis_for needs l.ways kinds 0 w.next in
      let x = close_start kinds needs (length w.lates) w.next (l ∷ ls) v in
      let st' : Settles w.lates x.lates lates [] = subst (λ (t : List (List Phi)). Settles w.lates t lates []) (close_end_lates kinds es x) st in
      (l.ways, st'.by (length w.lates) (omega arith) (omega (arith, lt, length-set v.lates (length w.lates) ps)) ∙ get_or-set_same v.lates (length w.lates) ps [] lt)

  loop_typed : (needs : ℕ → Bool) (w : Work) (o : Open) → w.now ≡ Some o → IsLate needs w → IsTypedWork (Has lates w) kinds w → IsTypedWork (Has lates (open_loop kinds needs w o)) kinds (open_loop kinds needs w o)
  loop_typed needs w o is own t =
      let last = Jump (length w.targets) in
      let mid : Work = record w { done = w.done ++ closed o last ∷ []; now = None } in
      let v = open_loop kinds needs w o in
      let b : Open = record { phis = Late (length w.lates); body = []; values = values_for needs o.values 0 w.next } in
      let c = close_adds w mid o [] last is (jump_done w o last) refl in
      let a = open_adds mid v b refl refl refl refl in
      let xs : Bool → List ℕ = λ truth. phis_with truth (lates (length w.lates)) in
      let old : (r : ℕ) (truth : Bool) → Has lates w r truth → Has lates v r truth = λ r truth h. adds_old lates mid v xs a r truth (adds_old lates w mid (λ truth. flat_map (instr_with truth) []) c r truth h) in
      let here : NowTyped (Has lates w) kinds (Some o) = subst (NowTyped (Has lates w) kinds) is t.now in
      let cells : CellsTyped (Has lates v) kinds o.values = cells_with (Has lates w) (Has lates v) old kinds o.values here.2 in
      let first = phis_typed (Has lates v) needs kinds (way_of w o ∷ []) (cells, tt) kinds 0 w.next (λ j. let z : 0 + j ≡ j = omega arith in ap (slice_get kinds) z) in
      begun_typed mid v b refl refl refl refl (λ s. (
        tt,
        (λ i kind is_i. opened_typed (Has lates v) needs own.0 kinds o.values 0 w.next i kind (λ r truth e. adds_new lates mid v xs a r truth (subst (λ (ps : List Phi). is_among (phis_with truth ps) r ≡ true) (sym own.1) e)) is_i (cells i kind is_i)),
        all_append (PhisTyped (Has lates v)) w.lates (phis_for needs (way_of w o ∷ []) kinds 0 w.next ∷ []) s.lates (first, tt),
        (tt, s.ends),
        ((cells, tt), s.starts),
      ))
      (ended_typed w mid o [] last is (jump_done w o last) refl refl (λ c. (tt, tt)) (λ c s. s) (λ c s. s) t)

  lates_put : (has : ℕ → Bool → Type 0) (late : List (List Phi)) (k : ℕ) (ps : List Phi) → PhisTyped has ps → AllByRecursion (PhisTyped has) late → AllByRecursion (PhisTyped has) (slice_set late k ps)
  lates_put has [] k ps h all = tt
  lates_put has (x ∷ late) zero ps h all = (h, all.1)
  lates_put has (x ∷ late) (suc k) ps h all = (all.0, lates_put has late k ps h all.1)

  closes_typed : (needs : ℕ → Bool) (late next : ℕ) (es ss : List Level) (v : Work) → v.now ≡ None → LevelsTyped (Has lates v) kinds es → LevelsTyped (Has lates v) kinds ss → IsTypedWork (Has lates v) kinds v → IsTypedWork (Has lates (close_end kinds es (close_start kinds needs late next ss v))) kinds (close_end kinds es (close_start kinds needs late next ss v))
  closes_typed needs late next es [] v none fe fs t = close_end_typed es v none fe t
  closes_typed needs late next es (l ∷ ls) v none fe fs t =
      let ps = phis_for needs l.ways kinds 0 next in
      let first = phis_typed (Has lates v) needs kinds l.ways fs.0 kinds 0 next (λ j. let z : 0 + j ≡ j = omega arith in ap (slice_get kinds) z) in
      close_end_typed es (close_start kinds needs late next (l ∷ ls) v) none fe
      (record { done = t.done; now = t.now; lates = lates_put (Has lates v) v.lates late ps first t.lates; ends = t.ends; starts = fs.1 })

  either_typed : (w x z : Work) (r : Bool) → (Settles w.lates x.lates lates [] → IsTypedWork (Has lates x) kinds x) → (Settles w.lates z.lates lates [] → IsTypedWork (Has lates z) kinds z) → Settles w.lates (if r then x else z).lates lates [] → IsTypedWork (Has lates (if r then x else z)) kinds (if r then x else z)
  either_typed w x z true f g k = f k
  either_typed w x z false f g k = g k

  when_typed : (n : Option Open) (w : Work) (f : Open → Work) → w.now ≡ n → Settles w.lates (when_open n w f).lates lates [] → IsTypedWork (Has lates w) kinds w → ((o : Open) → w.now ≡ Some o → Settles w.lates (f o).lates lates [] → IsTypedWork (Has lates (f o)) kinds (f o)) → IsTypedWork (Has lates (when_open n w f)) kinds (when_open n w f)
  when_typed None w f e st t next = t
  when_typed (Some o) w f e st t next = next o e st

-- what is assigned stays assigned
has_steps : (core : Core) (lates : ℕ → List Phi) (w0 : Work) → Steps core lates (λ x. (r : ℕ) (truth : Bool) → Has lates w0 r truth → Has lates x r truth)
has_steps core lates w0 = record {
  more = λ w v o code values is done now c q p. λ r truth h. adds_old lates w v (λ truth. flat_map (instr_with truth) code) (more_adds core.cells lates w v o code values is done now) r truth (p r truth h);
  ends = λ w v o code last is done none c q t p. λ r truth h. adds_old lates w v (λ truth. flat_map (instr_with truth) code) (close_adds core.cells lates w v o code last is done none) r truth (p r truth h);
  begins = λ x v o none done now body c n k p. λ r truth h. adds_old lates x v (λ truth. phis_with truth (settled_phis lates o.phis)) (open_adds core.cells lates x v o none done now body) r truth (p r truth h);
  same = λ w v done now n k p. λ r truth h. ap (λ (l : List ℕ). is_among l r) (traced_same (phis_with truth) (instr_with truth) lates w v done now) ∙ p r truth h;
}

branch_typed : (has : ℕ → Bool → Type 0) (holds : Bool) (v : Operand) (label : ℕ) → IsTyped has true v → AreOperands has (last_operands (branch_last holds v label))
branch_typed has true v label h = (h, tt)
branch_typed has false v label h = (h, tt)

-- ---- statements

module _ (carry : WaysCarry) (keeps : SameWhereNotDiffer) (core : Core) (coder : Coder) (isc : IsCoder core coder) (lates : ℕ → List Phi) where
  -- code of expressions, where its registers are there
  pub record CodeTyped (has : ℕ → Bool → Type 0) (exprs : List ℕ) (values : List Operand) (next : ℕ) : Type 0 where
    pub body : BodyTyped has (coder exprs values next).code
    pub operands : AreTyped has core exprs (coder exprs values next).operands

  code_of : (has : ℕ → Bool → Type 0) (exprs : List ℕ) (values : List Operand) (next : ℕ) → IsLowered core exprs values next (coder exprs values next).code (coder exprs values next).operands → CellsTyped has core.cells values → ((r : ℕ) (truth : Bool) → is_among (flat_map (instr_with truth) (coder exprs values next).code) r ≡ true → has r truth) → CodeTyped has exprs values next
  code_of has exprs values next lowered cells new =
      let c = coder exprs values next in
      let old = cell_has has core.cells values cells in
      let g = gives_all has c.code new in
      record {
        body = code_typed (HasCell core.cells values) has c.code old g lowered.reads;
        operands = exprs_with (Behind (HasCell core.cells values) c.code) has core (behind_typed (HasCell core.cells values) has c.code old g) exprs c.operands lowered.typed;
      }

  first_opens : (test : ℕ) (holds : Bool) (w : Work) (o : Open) → w.now ≡ Some o → kind_at core test ≡ Some TruthCell → IsValid core.cells w → IsTypedWork (Has lates w) core.cells w → IsTypedWork (Has lates (open_first coder holds test w o)) core.cells (open_first coder holds test w o)
  first_opens test holds w o is kind ok t =
      let c = coder (test ∷ []) o.values w.next in
      let last = branch_last holds (first_operand c.operands) (length w.targets) in
      let mid : Work = record w { done = w.done ++ record { phis = o.phis; body = o.body ++ c.code; last = last } ∷ []; now = None; next = w.next + length c.code } in
      let v = open_first coder holds test w o in
      let a = close_adds core.cells lates w mid o c.code last is refl refl in
      let b = open_adds core.cells lates mid v (opened o.values) refl refl refl refl in
      let lowered = coded core coder isc (test ∷ []) o.values w.next (kind_within core test TruthCell kind, tt) (now_of core.cells w o is ok) in
      let here : NowTyped (Has lates w) core.cells (Some o) = subst (NowTyped (Has lates w) core.cells) is t.now in
      let old : (r : ℕ) (truth : Bool) → Has lates w r truth → Has lates v r truth = λ r truth h. adds_old lates mid v (λ truth. phis_with truth []) b r truth (adds_old lates w mid (λ truth. flat_map (instr_with truth) c.code) a r truth h) in
      begun_typed core.cells lates mid v (opened o.values) refl refl refl refl (λ s. (tt, cells_with (Has lates w) (Has lates v) old core.cells o.values here.2, s.lates, s.ends, s.starts))
      (ended_typed core.cells lates w mid o c.code last is refl refl refl (λ cells.
      let e = code_of (Has lates mid) (test ∷ []) o.values w.next lowered cells (λ r truth h. adds_new lates w mid (λ truth. flat_map (instr_with truth) c.code) a r truth h) in
      (e.body, branch_typed (Has lates mid) holds (first_operand c.operands) (length w.targets) (first_typed core (Has lates mid) test c.operands kind e.operands))) (λ c s. s) (λ c s. s) t)

  choice_typed : (test : ℕ) (a b : Stmt) (holds : Bool) (w : Work) (o : Open) → w.now ≡ Some o → kind_at core test ≡ Some TruthCell → IsValid core.cells w → Emits core a (open_first coder holds test w o) (lower_of core coder a (open_first coder holds test w o))
      → (Settles w.lates (lower_of core coder a (open_first coder holds test w o)).lates lates [] → (r : ℕ) (truth : Bool) → Has lates (open_first coder holds test w o) r truth → Has lates (lower_of core coder a (open_first coder holds test w o)) r truth)
      → (Settles w.lates (lower_of core coder a (open_first coder holds test w o)).lates lates [] → IsTypedWork (Has lates (open_first coder holds test w o)) core.cells (open_first coder holds test w o) → IsTypedWork (Has lates (lower_of core coder a (open_first coder holds test w o))) core.cells (lower_of core coder a (open_first coder holds test w o)))
      → ((g : Work) → IsValid core.cells g → SameLevels w.ends g.ends → SameLevels w.starts g.starts → Settles g.lates (lower_of core coder b g).lates lates [] → (r : ℕ) (truth : Bool) → Has lates g r truth → Has lates (lower_of core coder b g) r truth)
      → ((g : Work) → IsValid core.cells g → SameLevels w.ends g.ends → SameLevels w.starts g.starts → Settles g.lates (lower_of core coder b g).lates lates [] → IsTypedWork (Has lates g) core.cells g → IsTypedWork (Has lates (lower_of core coder b g)) core.cells (lower_of core coder b g))
      → IsTypedWork (Has lates w) core.cells w → Settles w.lates (two_bodies core.cells (length w.targets) o.values (lower_of core coder a (open_first coder holds test w o)) (lower_of core coder b)).lates lates []
      → IsTypedWork (Has lates (two_bodies core.cells (length w.targets) o.values (lower_of core coder a (open_first coder holds test w o)) (lower_of core coder b))) core.cells (two_bodies core.cells (length w.targets) o.values (lower_of core coder a (open_first coder holds test w o)) (lower_of core coder b))
  choice_typed test a b holds w o is kind ok ea grows_a first grows_b second t st =
      let label = length w.targets + 2 in
      let x = open_first coder holds test w o in
      let v = lower_of core coder a x in
      let cells = now_of core.cells w o is ok in
      let fell = fallen core.cells label v v.now refl ea.valid in
      let f = fall_work label v in
      let more : w.next ≤ w.next + length (coder (test ∷ []) o.values w.next).code = omega arith in
      let le : w.next ≤ f.next = omega (arith, fell.next, ea.moves.next, more) in
      let g = open_second (length w.targets + 1) o.values f in
      let u = lower_of core coder b g in
      let z = fall_work label u in
      let valid = open_second_valid core.cells (length w.targets + 1) w.next o.values f cells le fell.valid in
      let ends = same_then w.ends v.ends f.ends ea.moves.ends fell.moves.ends in
      let starts = same_then w.starts v.starts f.starts ea.moves.starts fell.moves.starts in
      let same : f.lates ≡ v.lates = fall_lates label v v.now in
      let grown_b : Grows v.lates u.lates [] = subst (λ (y : List (List Phi)). Grows y u.lates []) same (lates_grow core coder b g) in
      let grown_a : Grows w.lates v.lates [] = lates_grow core coder a x in
      let st_u : Settles w.lates u.lates lates [] = subst (λ (y : List (List Phi)). Settles w.lates y lates []) (bodies_lates core.cells label (fall_ways v v.now) u) st in
      let st_b : Settles g.lates u.lates lates [] = subst (λ (y : List (List Phi)). Settles y u.lates lates []) (sym same) (settles_right w.lates v.lates u.lates lates [] grown_a st_u) in
      let st_a : Settles w.lates v.lates lates [] = settles_left w.lates v.lates u.lates lates [] grown_b st_u in
      let tx = first_opens test holds w o is kind ok t in
      let tv = first st_a tx in
      let has_f = fall_has core.cells lates label v v.now refl in
      let tf = fall_typed core.cells lates label v v.now refl tv in
      let none_f = fall_none label v v.now refl in
      let d = open_adds core.cells lates f g (opened o.values) none_f refl refl refl in
      let has_g = adds_old lates f g (λ truth. phis_with truth []) d in
      let here : NowTyped (Has lates x) core.cells (Some (opened o.values)) = tx.now in
      let cells_g : CellsTyped (Has lates g) core.cells o.values = cells_with (Has lates x) (Has lates g) (λ r truth h. has_g r truth (has_f r truth (grows_a st_a r truth h))) core.cells o.values here.2 in
      let tg = begun_typed core.cells lates f g (opened o.values) none_f refl refl refl (λ s. (tt, cells_g, s.lates, s.ends, s.starts)) tf in
      let tu = second g valid ends starts st_b tg in
      let has_z = fall_has core.cells lates label u u.now refl in
      let tz = fall_typed core.cells lates label u u.now refl tu in
      let ways_f = fallen_ways core.cells lates label v v.now refl (work_with (Has lates v) (Has lates f) has_f core.cells v tv) in
      let ways_v = ways_with (Has lates f) (Has lates z) (λ r truth h. has_z r truth (grows_b g valid ends starts st_b r truth (has_g r truth h))) core.cells (fall_ways v v.now) ways_f in
      let ways_u = fallen_ways core.cells lates label u u.now refl (work_with (Has lates u) (Has lates z) has_z core.cells u tu) in
      bodies_typed core.cells lates label (fall_ways v v.now) u (fall_none label u u.now refl) (all_append (λ (way : CellState). CellsTyped (Has lates z) core.cells way.values) (fall_ways v v.now) (fall_ways u u.now) ways_v ways_u) tu tz

  grows : (s : Stmt) (w : Work) → IsFit core s → HasLevels s (length w.ends) (length w.starts) → IsValid core.cells w → Settles w.lates (lower_of core coder s w).lates lates [] → (r : ℕ) (truth : Bool) → Has lates w r truth → Has lates (lower_of core coder s w) r truth
  grows s w fit l ok st = walk carry keeps core coder isc lates (λ x. (r : ℕ) (truth : Bool) → Has lates w r truth → Has lates x r truth) (has_steps core lates w) s w fit l ok st (λ r truth h. h)

  pub types_stay : (s : Stmt) (w : Work) → IsFit core s → HasLevels s (length w.ends) (length w.starts) → IsValid core.cells w → Settles w.lates (lower_of core coder s w).lates lates [] → IsTypedWork (Has lates w) core.cells w → IsTypedWork (Has lates (lower_of core coder s w)) core.cells (lower_of core coder s w)
  types_stay Skip w fit l ok st t = t
  types_stay (Seq a b) w fit l ok st t =
      let u = lower_of core coder a w in
      let ea = emits carry keeps core coder isc a w fit.0 l.0 ok in
      types_stay b u fit.1 (levels_same b w u ea.moves.ends ea.moves.starts l.1) ea.valid (settles_right w.lates u.lates (lower_of core coder b u).lates lates [] (lates_grow core coder a w) st)
      (types_stay a w fit.0 l.0 ok (settles_left w.lates u.lates (lower_of core coder b u).lates lates [] (lates_grow core coder b u) st) t)
  types_stay (Assign pairs) w fit l ok st t = when_typed core.cells lates w.now w (assign_work coder pairs w) refl st t (λ o is st'.
      let c = coder (pair_exprs pairs) o.values w.next in
      let v = assign_work coder pairs w o in
      let values = stored pairs c.operands o.values in
      let now = now_of core.cells w o is ok in
      let fits = recursion_from_All (PairFits core) pairs fit in
      let lowered = coded core coder isc (pair_exprs pairs) o.values w.next (pairs_within core pairs fits) now in
      let a = more_adds core.cells lates w v o c.code values is refl refl in
      let new : (r : ℕ) (truth : Bool) → is_among (flat_map (instr_with truth) c.code) r ≡ true → Has lates v r truth = λ r truth h. adds_new lates w v (λ truth. flat_map (instr_with truth) c.code) a r truth h in
      more_typed core.cells lates w v o c.code values is refl refl refl refl refl
      (λ cells. (code_of (Has lates v) (pair_exprs pairs) o.values w.next lowered cells new).body)
      (λ cells. stored_typed (Has lates v) core pairs c.operands o.values now.long fits (code_of (Has lates v) (pair_exprs pairs) o.values w.next lowered cells new).operands cells) t)
  types_stay (Gate leaf) w fit l ok st t = when_typed core.cells lates w.now w (gate_work coder leaf w) refl st t (λ o is st'.
      let c = coder (leaf_exprs leaf) o.values w.next in
      let v = gate_work coder leaf w o in
      let i = gate_call leaf c.operands in
      let code = c.code ++ i ∷ [] in
      let lowered = coded core coder isc (leaf_exprs leaf) o.values w.next (leaf_within core leaf fit.0) (now_of core.cells w o is ok) in
      let a = more_adds core.cells lates w v o code o.values is refl refl in
      let new : (r : ℕ) (truth : Bool) → is_among (flat_map (instr_with truth) c.code) r ≡ true → Has lates v r truth = λ r truth h. adds_new lates w v (λ truth. flat_map (instr_with truth) code) a r truth (ap (λ (xs : List ℕ). is_among xs r) (flat_append (instr_with truth) c.code (i ∷ [])) ∙ among_left (flat_map (instr_with truth) c.code) (flat_map (instr_with truth) (i ∷ [])) r h) in
      more_typed core.cells lates w v o code o.values is refl refl refl refl refl
      (λ cells.
      let e = code_of (Has lates v) (leaf_exprs leaf) o.values w.next lowered cells new in
      all_append (λ (j : Instr). AreOperands (Has lates v) (instr_operands j)) c.code (i ∷ []) e.body (gate_typed (Has lates v) core leaf c.operands fit.0 fit.1 e.operands, tt))
      (λ cells. cells) t)
  types_stay (Reset qubit) w fit l ok st t = when_typed core.cells lates w.now w (reset_work qubit w) refl st t (λ o is st'.
      more_typed core.cells lates w (reset_work qubit w o) o (reset_call qubit ∷ []) o.values is refl refl refl refl refl (λ cells. (tt, tt)) (λ cells. cells) t)
  types_stay (Measure qubit None) w fit l ok st t = when_typed core.cells lates w.now w (measure_work qubit None w) refl st t (λ o is st'.
      more_typed core.cells lates w (measure_work qubit None w o) o (measure_call qubit w.results ∷ []) o.values is refl refl refl refl refl (λ cells. (tt, tt)) (λ cells. cells) t)
  types_stay (Measure qubit (Some c)) w fit l ok st t = when_typed core.cells lates w.now w (measure_work qubit (Some c) w) refl st t (λ o is st'.
      let v = measure_work qubit (Some c) w o in
      let code = measure_call qubit w.results ∷ read_call w.next w.results ∷ [] in
      let values = slice_set o.values c (Register w.next) in
      let a = more_adds core.cells lates w v o code values is refl refl in
      more_typed core.cells lates w v o code values is refl refl refl refl refl (λ cells. (tt, (tt, tt)))
      (λ cells. cells_put (Has lates v) core.cells o.values c (Register w.next) TruthCell (now_of core.cells w o is ok).long fit.1 (adds_new lates w v (λ truth. flat_map (instr_with truth) code) a w.next true (among_first w.next [])) cells) t)
  types_stay (If test a b) w fit l ok st t =
      when_typed core.cells lates w.now w (λ o. if reaches b Falls then two_bodies core.cells (length w.targets) o.values (lower_of core coder a (open_first coder true test w o)) (lower_of core coder b) else two_bodies core.cells (length w.targets) o.values (lower_of core coder b (open_first coder false test w o)) (lower_of core coder a)) refl st t (λ o is st'.
      let oka = open_first_valid core.cells coder true test w o is ok in
      let okb = open_first_valid core.cells coder false test w o is ok in
      either_typed core.cells lates w (two_bodies core.cells (length w.targets) o.values (lower_of core coder a (open_first coder true test w o)) (lower_of core coder b)) (two_bodies core.cells (length w.targets) o.values (lower_of core coder b (open_first coder false test w o)) (lower_of core coder a)) (reaches b Falls)
      (choice_typed test a b true w o is fit.0 ok (emits carry keeps core coder isc a (open_first coder true test w o) fit.1 l.0 oka) (λ s. grows a (open_first coder true test w o) fit.1 l.0 oka s) (λ s m. types_stay a (open_first coder true test w o) fit.1 l.0 oka s m) (λ g vg se ss s. grows b g fit.2 (levels_same b w g se ss l.1) vg s) (λ g vg se ss s m. types_stay b g fit.2 (levels_same b w g se ss l.1) vg s m) t)
      (choice_typed test b a false w o is fit.0 ok (emits carry keeps core coder isc b (open_first coder false test w o) fit.2 l.1 okb) (λ s. grows b (open_first coder false test w o) fit.2 l.1 okb s) (λ s m. types_stay b (open_first coder false test w o) fit.2 l.1 okb s m) (λ g vg se ss s. grows a g fit.1 (levels_same a w g se ss l.0) vg s) (λ g vg se ss s m. types_stay a g fit.1 (levels_same a w g se ss l.0) vg s m) t)
      st')
  types_stay (Block a) w fit l ok st t = when_typed core.cells lates w.now w (λ o. let v = leave_zero (lower_of core coder a (open_end w)) in close_end core.cells v.ends v) refl st t (λ o is st'.
      let u = lower_of core coder a (open_end w) in
      let v = leave_zero u in
      let inner : Settles w.lates u.lates lates [] = subst (λ (y : List (List Phi)). Settles w.lates y lates []) (close_end_lates core.cells v.ends v ∙ leave_lates 0 u u.now) st' in
      let tu = types_stay a (open_end w) fit l (open_end_valid core.cells w ok) inner (record { done = t.done; now = t.now; lates = t.lates; ends = (tt, t.ends); starts = t.starts }) in
      let tv = leave_typed core.cells lates 0 u u.now refl tu in
      close_end_typed core.cells lates v.ends v (leave_none u u.now refl) tv.ends tv)
  types_stay (Loop a) w fit l ok st t =
      when_typed core.cells lates w.now w (λ o.
      let needs = start_needs core.exprs a o.values in
      let v = leave_zero (lower_of core coder a (open_loop core.cells needs w o)) in
      close_end core.cells v.ends (close_start core.cells needs (length w.lates) w.next v.starts v)) refl st t (λ o is st'.
      let needs = start_needs core.exprs a o.values in
      let w1 = open_loop core.cells needs w o in
      let u = lower_of core coder a w1 in
      let v = leave_zero u in
      let kept = loop_lates lates core.cells needs w o u v v.ends v.starts (leave_lates 0 u u.now) (lates_grow core coder a w1) st' in
      let ok1 = open_loop_valid core.cells needs w o is ok in
      let em = emits carry keeps core coder isc a w1 fit l ok1 in
      let bm = (body_emits carry keeps core coder isc a w1 u (omega arith) em).moves in
      let start : Level = record { label = length w.targets; block = length w.done + 1; ways = way_of w o ∷ [] } in
      let longer : length w.lates < length v.lates = omega (arith, one_longer w.lates (phis_for needs (way_of w o ∷ []) core.cells 0 w.next), (lates_grow core coder a w1).long, ap length (leave_lates 0 u u.now)) in
      let own = own_late core.cells lates needs w v start v.ends v.starts bm.starts longer st' in
      let tu = types_stay a w1 fit l ok1 kept.inner (loop_typed core.cells lates needs w o is own t) in
      let tv = leave_typed core.cells lates 0 u u.now refl tu in
      closes_typed core.cells lates needs (length w.lates) w.next v.ends v.starts v (leave_none u u.now refl) tv.ends tv.starts tv)
  types_stay (Leave k) w fit l ok st t = leave_typed core.cells lates k w w.now refl t
  types_stay (Again k) w fit l ok st t = again_typed core.cells lates k w w.now refl t

-- ---- the program

zero_typed : (has : ℕ → Bool → Type 0) (truth : Bool) → IsTyped has truth (Fixed (pos 0))
zero_typed has true = inl refl
zero_typed has false = fits_signed_from_abs w64 (pos 0) (omega arith)

whole_typed : WaysCarry → SameWhereNotDiffer → (core : Core) (coder : Coder) → IsLowerable core coder → IsTypedWork (Has (late_phis core coder) (whole_work core coder)) core.cells (whole_work core coder)
whole_typed carry keeps core coder l =
    let w = first_work (length core.cells) in
    let lates = late_phis core coder in
    let v = lower_of core coder (program_of core) w in
    let H = Has lates w in
    let start : IsTypedWork H core.cells w = record {
      done = tt;
      now = (tt, (tt, tt), (λ c kind is. subst (IsTyped H (not (is_number kind))) (sym (zero_at (length core.cells) c)) (zero_typed H (not (is_number kind)))));
      lates = tt;
      ends = tt;
      starts = tt;
    } in
    at v v.now refl (types_stay carry keeps core coder l.coder_fits lates (program_of core) w (program_fits core l.fits l.held) l.fits.well_formed.levels (first_valid core.cells) (program_settles core coder) start)
  where
    at : (v : Work) (now : Option Open) → v.now ≡ now → IsTypedWork (Has (late_phis core coder) v) core.cells v → IsTypedWork (Has (late_phis core coder) (when_open now v (end_work core.outputs v))) core.cells (when_open now v (end_work core.outputs v))
    at v None is t = t
    at v (Some o) is t =
        let lates = late_phis core coder in
        let z = end_work core.outputs v o in
        ended_typed core.cells lates v z o (map (record_call o.values) core.outputs) (Return (pos 0)) is refl refl refl
        (λ cells. (record_typed (Has lates z) core o.values core.outputs cells (recursion_from_All (OutputFits core) core.outputs l.fits.well_formed.outputs) (recursion_from_All IsHeldOutput core.outputs l.held.outputs), tt)) (λ c s. s) (λ c s. s) t

-- ---- the rule

flat_mapped : {A B C : Type 0} (f : B → List C) (g : A → B) (xs : List A) → flat_map f (map g xs) ≡ flat_map (λ (x : A). f (g x)) xs
flat_mapped f g [] = refl
flat_mapped f g (x ∷ xs) = ap (λ l. f (g x) ++ l) (flat_mapped f g xs)

items_with : (truth : Bool) (b : ModuleBlock) → flat_map (assigned_with truth) (items_in b) ≡ phis_with truth b.phis ++ flat_map (instr_with truth) b.body
items_with truth b =
    flat_append (assigned_with truth) (map ThePhi b.phis ++ map TheInstr b.body) (TheLast b.last ∷ [])
    ∙ append-nil (flat_map (assigned_with truth) (map ThePhi b.phis ++ map TheInstr b.body))
    ∙ flat_append (assigned_with truth) (map ThePhi b.phis) (map TheInstr b.body)
    ∙ ap (λ (l : List ℕ). l ++ flat_map (assigned_with truth) (map TheInstr b.body)) (flat_mapped (assigned_with truth) ThePhi b.phis)
    ∙ ap (λ (l : List ℕ). phis_with truth b.phis ++ l) (flat_mapped (assigned_with truth) TheInstr b.body)

blocks_with : (truth : Bool) (labels : ℕ → ℕ) (lates : ℕ → List Phi) (k : ℕ) (ds : List Draft) → flat_map (λ (b : ModuleBlock). flat_map (assigned_with truth) (items_in b)) (settled_from labels lates k ds) ≡ flat_map (traced_draft (phis_with truth) (instr_with truth) lates) ds
blocks_with truth labels lates k [] = refl
blocks_with truth labels lates k (d ∷ ds) =
    let b = settled labels lates k d in
    ap (λ (l : List ℕ). l ++ flat_map (λ (b : ModuleBlock). flat_map (assigned_with truth) (items_in b)) (settled_from labels lates (suc k) ds)) (items_with truth b)
    ∙ ap (λ (l : List ℕ). traced_draft (phis_with truth) (instr_with truth) lates d ++ l) (blocks_with truth labels lates (suc k) ds)

module _ (m : Module) (has : ℕ → Bool → Type 0) (is_assigned : (r : ℕ) (truth : Bool) → has r truth → assigned_as m truth r ≡ true) where
  operand_kept : (truth : Bool) (o : Operand) → IsTyped has truth o → has_type m o truth ≡ true
  operand_kept truth (Register r) h = is_assigned r truth h
  operand_kept true (Fixed z) h = ⊎_elim (λ e. ap is_fixed_truth e) (λ e. ap is_fixed_truth e) h
  operand_kept false (Fixed z) h = refl

  operands_kept : (os : List (Operand × Bool)) → AreOperands has os → list_all (λ (o : Operand × Bool). has_type m o.0 o.1) os ≡ true
  operands_kept [] all = refl
  operands_kept (o ∷ os) all = both (has_type m o.0 o.1) (list_all (λ (o : Operand × Bool). has_type m o.0 o.1) os) (operand_kept o.1 o.0 all.0) (operands_kept os all.1)

  abbrev IsKeptItem : Item → Type 0
  IsKeptItem item = list_all (λ (o : Operand × Bool). has_type m o.0 o.1) (item_operands item) ≡ true

  phis_kept_typed : (phis : List Phi) → PhisTyped has phis → AllByRecursion (λ (p : Phi). IsKeptItem (ThePhi p)) phis
  phis_kept_typed [] all = tt
  phis_kept_typed (p ∷ phis) all = (operands_kept (item_operands (ThePhi p)) all.0, phis_kept_typed phis all.1)

  late_kept : (lates : List (List Phi)) (k : ℕ) → AllByRecursion (PhisTyped has) lates → AllByRecursion (λ (p : Phi). IsKeptItem (ThePhi p)) (get_or lates k [])
  late_kept [] k all = tt
  late_kept (ps ∷ lates) zero all = phis_kept_typed ps all.0
  late_kept (ps ∷ lates) (suc k) all = late_kept lates k all.1

  part_kept : (lates : List (List Phi)) (part : PhiPart) → AllByRecursion (PhisTyped has) lates → PartTyped has part → AllByRecursion (λ (p : Phi). IsKeptItem (ThePhi p)) (settled_phis (λ k. get_or lates k []) part)
  part_kept lates (Ready phis) all h = phis_kept_typed phis h
  part_kept lates (Late place) all h = late_kept lates place all

  body_kept : (code : List Instr) → BodyTyped has code → AllByRecursion (λ (i : Instr). IsKeptItem (TheInstr i)) code
  body_kept [] all = tt
  body_kept (i ∷ is) all = (operands_kept (instr_operands i) all.0, body_kept is all.1)

  end_kept : (labels : ℕ → ℕ) (last : Last) → AreOperands has (last_operands last) → IsKeptItem (TheLast (settled_last labels last))
  end_kept labels (Jump label) h = refl
  end_kept labels (Branch test first second) h = operands_kept (last_operands (Branch test first second)) h
  end_kept labels (Return code) h = refl

  blocks_kept : (labels : ℕ → ℕ) (lates : List (List Phi)) → AllByRecursion (PhisTyped has) lates → (k : ℕ) (ds : List Draft) → AllByRecursion (DraftTyped has) ds → AllByRecursion (OfItems IsKeptItem) (settled_from labels (λ k. get_or lates k []) k ds)
  blocks_kept labels lates late k [] all = tt
  blocks_kept labels lates late k (d ∷ ds) all =
      (record { phis = part_kept lates d.phis late all.0.0; body = body_kept d.body all.0.1; last = end_kept labels d.last all.0.2 }, blocks_kept labels lates late (suc k) ds all.1)

pub types_rule : WaysCarry → SameWhereNotDiffer → (core : Core) (coder : Coder) → IsLowerable core coder → IsKept (lowered core coder) operand_types_kept
types_rule carry keeps core coder l =
    let m = lowered core coder in
    let z = whole_work core coder in
    let v = lower_of core coder (program_of core) (first_work (length core.cells)) in
    let labels : ℕ → ℕ = λ k. get_or z.targets k 0 in
    let lates = late_phis core coder in
    let H = Has lates z in
    let t = whole_typed carry keeps core coder l in
    let none : z.now ≡ None = end_none core.outputs v v.now refl in
    let is_assigned : (r : ℕ) (truth : Bool) → H r truth → assigned_as m truth r ≡ true = λ r truth h.
    ap (λ (xs : List ℕ). is_among xs r) (blocks_with truth labels lates 0 z.done ∙ sym (append-nil (flat_map (traced_draft (phis_with truth) (instr_with truth) lates) z.done)) ∙ ap (λ (n : Option Open). flat_map (traced_draft (phis_with truth) (instr_with truth) lates) z.done ++ traced_now (phis_with truth) (instr_with truth) lates n) (sym none)) ∙ h in
    let blocks = blocks_kept m H is_assigned labels z.lates t.lates 0 z.done t.done in
    each_spot (λ (s : Spot). operand_types_kept m s ≡ true) m (λ k b is front item rest e.
    all_middle (λ (x : Item). list_all (λ (o : Operand × Bool). has_type m o.0 o.1) (item_operands x) ≡ true) front item rest
    (subst (AllByRecursion (λ (x : Item). list_all (λ (o : Operand × Bool). has_type m o.0 o.1) (item_operands x) ≡ true)) e
    (all_items (λ (x : Item). list_all (λ (o : Operand × Bool). has_type m o.0 o.1) (item_operands x) ≡ true) b (all_get (OfItems (λ (x : Item). list_all (λ (o : Operand × Bool). has_type m o.0 o.1) (item_operands x) ≡ true)) m.blocks k b blocks is))))
