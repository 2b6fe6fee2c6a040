-- The phis and the ends of blocks have operands of their types, with registers and blocks that are there, while each statement
-- is lowered.
use Rattle.std.proofs.Common.{◌≡◌, ℕ, zero, suc, ◌+◌, ◌<◌, ◌≤◌, Bool, true, false, not, List, [], ◌∷◌, ◌++◌, map, length, pos, Option, Some, None, refl, sym, ap, ◌∙◌, subst, arith, length-append}
use Rattle.std.specs.Prelude.{slice_get, slice_set, if◌then◌else◌}
use Rattle.std.specs.List.{flat_map, AllByRecursion}
use Rattle.qir_module.specs.declared.instruction.Operand.{Operand}
use Rattle.qir_module.specs.declared.instruction.Operand.TheVariants.{Register}
use Rattle.qir_module.specs.declared.instruction.Instr.{Instr}
use Rattle.qir_module.specs.declared.instruction.Last.{Last}
use Rattle.qir_module.specs.declared.instruction.Last.TheVariants.{Jump, Branch, Return}
use Rattle.qir_module.specs.declared.block.Phi.{Phi}
use Rattle.qir_module.specs.Numbered.{registers_of}
use Rattle.core_ir.specs.declared.expression.CellKind.{CellKind}
use Rattle.core_ir.specs.declared.expression.CellKind.TheVariants.{Truth as TruthKind}
use Rattle.core_ir.specs.Core.{Core}
use Rattle.core_ir.specs.Size.{pair_exprs, leaf_exprs}
use Rattle.core_ir.specs.Tree.{Stmt, Skip, Seq, Assign, Gate, Reset, Measure, If, Block, Loop, Leave, Again, program_of}
use Rattle.core_ir.specs.Ways.{Falls, reaches}
use Rattle.core_ir.specs.WellFormed.{kind_at, HasLevels}
use Rattle.cell_operands.specs.Operands.{is_number, operand_of}
use Rattle.phi_place.specs.State.{CellState}
use Rattle.phi_place.specs.Phis.{phis_for, entries_of, values_for, ways_differ, WaysCarry, SameWhereNotDiffer}
use Rattle.expr_lower.specs.Lowered.{IsTyped, AreTyped, Behind, HasCell}
use Rattle.block_graph.specs.Fitting.{IsFit}
use Rattle.block_graph.specs.Laws.{IsLowerable}
use Rattle.block_graph.specs.Work.{PhiPart, Ready, Late, Draft, Level, Open, Work}
use Rattle.block_graph.specs.Lowering.{Coder, IsCoder, stored, gate_call, reset_call, measure_call, read_call, record_call, opened, closed, close, when_open, appended, way_of, label_at, assign_work, gate_work, reset_work, measure_work, leave_work, again_work, leave_zero, next_for, join_work, open_end, close_end, start_needs, open_loop, close_start, branch_last, first_operand, open_first, fall_work, fall_ways, open_second, join_bodies, two_bodies, lower_of, first_work, end_work, whole_work}
use Rattle.block_graph.specs.Claims.{Below}
use Rattle.block_graph.proofs.Cells.{next_more, WayFits, ways_more}
use Rattle.block_graph.proofs.Coding.{all_append, typed_more, typed_with, counts_bound, behind_less, cell_less, cell_typed}
use Rattle.block_graph.proofs.Flow.{each_append, leave_none}
use Rattle.block_graph.proofs.Moving.{LevelsFit, IsValid, SameLevels, same_then, moves_longer, Emits}
use Rattle.block_graph.proofs.Emitting.{kind_within, now_of, coded, pushed}
use Rattle.block_graph.proofs.Choosing.{fallen}
use Rattle.block_graph.proofs.Whole.{open_end_valid, open_loop_valid, open_first_valid, open_second_valid, levels_same, body_emits, emits, first_valid, program_fits}

-- an entry is of a type, with a register below a number, and from a block below another
abbrev pub IsEntryBelow : ℕ → ℕ → Bool → Operand × ℕ → Type 0
IsEntryBelow next blocks truth entry = IsTyped (Below next) truth entry.0 × (entry.1 < blocks)

abbrev pub IsPhiBelow : ℕ → ℕ → Phi → Type 0
IsPhiBelow next blocks p = (p.register < next) × (0 < length p.entries) × AllByRecursion (IsEntryBelow next blocks (not p.number)) p.entries

abbrev pub ArePhisBelow : ℕ → ℕ → List Phi → Type 0
ArePhisBelow next blocks phis = AllByRecursion (IsPhiBelow next blocks) phis

abbrev pub IsPartBelow : ℕ → ℕ → PhiPart → Type 0
IsPartBelow next blocks (Ready phis) = ArePhisBelow next blocks phis
IsPartBelow next blocks (Late place) = Unit {0}

abbrev pub IsLastBelow : ℕ → Last → Type 0
IsLastBelow next (Jump label) = Unit {0}
IsLastBelow next (Branch test first second) = IsTyped (Below next) true test
IsLastBelow next (Return code) = code ≡ pos 0

abbrev pub IsDraftBelow : ℕ → ℕ → Draft → Type 0
IsDraftBelow next blocks d = IsPartBelow next blocks d.phis × IsLastBelow next d.last

abbrev pub NowIsBelow : ℕ → ℕ → Option Open → Type 0
NowIsBelow next blocks None = Unit {0}
NowIsBelow next blocks (Some o) = IsPartBelow next blocks o.phis

pub record AreBelow (w : Work) : Type 0 where
  pub done : AllByRecursion (IsDraftBelow w.next (length w.done)) w.done
  pub now : NowIsBelow w.next (length w.done) w.now
  pub lates : AllByRecursion (ArePhisBelow w.next (length w.done)) w.lates

-- ---- with more registers and blocks

entries_more : (a b c d : ℕ) (truth : Bool) (es : List (Operand × ℕ)) → a ≤ b → c ≤ d → AllByRecursion (IsEntryBelow a c truth) es → AllByRecursion (IsEntryBelow b d truth) es
entries_more a b c d truth [] le lb all = tt
entries_more a b c d truth (e ∷ es) le lb all = ((typed_more a b truth e.0 le all.0.0, omega (arith, lb, all.0.1)), entries_more a b c d truth es le lb all.1)

phis_more : (a b c d : ℕ) (ps : List Phi) → a ≤ b → c ≤ d → ArePhisBelow a c ps → ArePhisBelow b d ps
phis_more a b c d [] le lb all = tt
phis_more a b c d (p ∷ ps) le lb all = ((omega (arith, le, all.0.0), all.0.1, entries_more a b c d (not p.number) p.entries le lb all.0.2), phis_more a b c d ps le lb all.1)

part_more : (a b c d : ℕ) (part : PhiPart) → a ≤ b → c ≤ d → IsPartBelow a c part → IsPartBelow b d part
part_more a b c d (Ready phis) le lb h = phis_more a b c d phis le lb h
part_more a b c d (Late place) le lb h = tt

last_more : (a b : ℕ) (last : Last) → a ≤ b → IsLastBelow a last → IsLastBelow b last
last_more a b (Jump label) le h = tt
last_more a b (Branch test first second) le h = typed_more a b true test le h
last_more a b (Return code) le h = h

drafts_more : (a b c d : ℕ) (ds : List Draft) → a ≤ b → c ≤ d → AllByRecursion (IsDraftBelow a c) ds → AllByRecursion (IsDraftBelow b d) ds
drafts_more a b c d [] le lb all = tt
drafts_more a b c d (x ∷ ds) le lb all = ((part_more a b c d x.phis le lb all.0.0, last_more a b x.last le all.0.1), drafts_more a b c d ds le lb all.1)

lates_more : (a b c d : ℕ) (lates : List (List Phi)) → a ≤ b → c ≤ d → AllByRecursion (ArePhisBelow a c) lates → AllByRecursion (ArePhisBelow b d) lates
lates_more a b c d [] le lb all = tt
lates_more a b c d (ps ∷ lates) le lb all = (phis_more a b c d ps le lb all.0, lates_more a b c d lates le lb all.1)

lates_set : (a c : ℕ) (lates : List (List Phi)) (k : ℕ) (ps : List Phi) → ArePhisBelow a c ps → AllByRecursion (ArePhisBelow a c) lates → AllByRecursion (ArePhisBelow a c) (slice_set lates k ps)
lates_set a c [] k ps h all = tt
lates_set a c (x ∷ lates) zero ps h all = (h, all.1)
lates_set a c (x ∷ lates) (suc k) ps h all = (all.0, lates_set a c lates k ps h all.1)

-- ---- the phis of some ways

entries_some : (ways : List CellState) (c : ℕ) → 0 < length ways → 0 < length (entries_of ways c)
entries_some [] c lt = absurd (omega (arith, lt))
entries_some (way ∷ ways) c lt = omega arith

entries_below : (kinds : List CellKind) (x bound top : ℕ) (ways : List CellState) (c : ℕ) (kind : CellKind) → AllByRecursion (WayFits kinds x bound) ways → slice_get kinds c ≡ Some kind → x ≤ top → AllByRecursion (IsEntryBelow top bound (not (is_number kind))) (entries_of ways c)
entries_below kinds x bound top [] c kind all is le = tt
entries_below kinds x bound top (way ∷ ways) c kind all is le =
    ((typed_more x top (not (is_number kind)) (operand_of way.values c) le (cell_typed kinds x way.values c kind all.0.1 is), all.0.0), entries_below kinds x bound top ways c kind all.1 is le)

phis_below : (needs : ℕ → Bool) (kinds : List CellKind) (x bound top : ℕ) (ways : List CellState) → AllByRecursion (WayFits kinds x bound) ways → 0 < length ways → x ≤ top → (ks : List CellKind) (c next : ℕ) → ((j : ℕ) → slice_get kinds (c + j) ≡ slice_get ks j) → next_for needs ks c next ≤ top → ArePhisBelow top bound (phis_for needs ways ks c next)
phis_below needs kinds x bound top ways all some le [] c next same fits = tt
phis_below needs kinds x bound top ways all some le (kind ∷ ks) c next same fits = two (needs c) fits (phis_below needs kinds x bound top ways all some le ks (suc c) (suc next) rest) (phis_below needs kinds x bound top ways all some le ks (suc c) next rest)
  where
    rest : (j : ℕ) → slice_get kinds (suc c + j) ≡ slice_get ks j
    rest j = let z : suc c + j ≡ c + suc j = omega arith in ap (slice_get kinds) z ∙ same (suc j)

    here : slice_get kinds c ≡ Some kind
    here = let z : c ≡ c + 0 = omega arith in ap (slice_get kinds) z ∙ same 0

    two : (b : Bool) → (if b then next_for needs ks (suc c) (suc next) else next_for needs ks (suc c) next) ≤ top
        → (next_for needs ks (suc c) (suc next) ≤ top → ArePhisBelow top bound (phis_for needs ways ks (suc c) (suc next)))
        → (next_for needs ks (suc c) next ≤ top → ArePhisBelow top bound (phis_for needs ways ks (suc c) next))
        → ArePhisBelow top bound (if b then record { register = next; number = is_number kind; entries = entries_of ways c } ∷ phis_for needs ways ks (suc c) (suc next) else phis_for needs ways ks (suc c) next)
    two true h m s = let more = next_more needs ks (suc c) (suc next) in ((omega (arith, h, more), entries_some ways c some, entries_below kinds x bound top ways c kind all here le), m h)
    two false h m s = s h

-- ---- steps

ended_below : (w v : Work) (o : Open) (d : Draft) → w.now ≡ Some o → v.done ≡ w.done ++ d ∷ [] → v.now ≡ None → v.lates ≡ w.lates → w.next ≤ v.next → d.phis ≡ o.phis → IsLastBelow v.next d.last → AreBelow w → AreBelow v
ended_below w v o d is done none late le phis last b =
    let n = v.next in
    let k = length v.done in
    let longer : length w.done ≤ length v.done = omega (arith, ap length done, pushed w d) in
    let part : IsPartBelow n k d.phis = subst (IsPartBelow n k) (sym phis) (part_more w.next n (length w.done) k o.phis le longer (subst (NowIsBelow w.next (length w.done)) is b.now)) in
    record {
      done = subst (AllByRecursion (IsDraftBelow n k)) (sym done) (all_append (IsDraftBelow n k) w.done (d ∷ []) (drafts_more w.next n (length w.done) k w.done le longer b.done) ((part, last), tt));
      now = subst (NowIsBelow n k) (sym none) tt;
      lates = subst (AllByRecursion (ArePhisBelow n k)) (sym late) (lates_more w.next n (length w.done) k w.lates le longer b.lates);
    }

begun_below : (x v : Work) (o : Open) → v.done ≡ x.done → v.now ≡ Some o → v.lates ≡ x.lates → x.next ≤ v.next → IsPartBelow v.next (length v.done) o.phis → AreBelow x → AreBelow v
begun_below x v o done now late le part b =
    let n = v.next in
    let k = length v.done in
    let longer : length x.done ≤ length v.done = omega (arith, ap length done) in
    record {
      done = subst (AllByRecursion (IsDraftBelow n k)) (sym done) (drafts_more x.next n (length x.done) k x.done le longer b.done);
      now = subst (NowIsBelow n k) (sym now) part;
      lates = subst (AllByRecursion (ArePhisBelow n k)) (sym late) (lates_more x.next n (length x.done) k x.lates le longer b.lates);
    }

more_below : (w : Work) (o : Open) (code : List Instr) (values : List Operand) (next results : ℕ) → w.now ≡ Some o → w.next ≤ next → AreBelow w → AreBelow (appended w o code values next results)
more_below w o code values next results is le b = record {
  done = drafts_more w.next next (length w.done) (length w.done) w.done le (omega arith) b.done;
  now = part_more w.next next (length w.done) (length w.done) o.phis le (omega arith) (subst (NowIsBelow w.next (length w.done)) is b.now);
  lates = lates_more w.next next (length w.done) (length w.done) w.lates le (omega arith) b.lates;
}

join_below : (kinds : List CellKind) (label : ℕ) (ways : List CellState) (x : Work) → x.now ≡ None → AllByRecursion (WayFits kinds x.next (length x.done)) ways → AreBelow x → AreBelow (join_work kinds label ways x)
join_below kinds label [] x none fits b = b
join_below kinds label (way ∷ ways) x none fits b =
    let needs = ways_differ (way ∷ ways) in
    let more = next_more needs kinds 0 x.next in
    begun_below x (join_work kinds label (way ∷ ways) x) (record { phis = Ready (phis_for needs (way ∷ ways) kinds 0 x.next); body = []; values = values_for needs way.values 0 x.next }) refl refl refl more
    (phis_below needs kinds x.next (length x.done) (next_for needs kinds 0 x.next) (way ∷ ways) fits (omega arith) more kinds 0 x.next (λ j. let z : 0 + j ≡ j = omega arith in ap (slice_get kinds) z) (omega arith)) b

close_end_below : (kinds : List CellKind) (ls : List Level) (v : Work) → v.now ≡ None → LevelsFit kinds v.next (length v.done) ls → AreBelow v → AreBelow (close_end kinds ls v)
close_end_below kinds [] v none fits b = b
close_end_below kinds (l ∷ ls) v none fits b = join_below kinds l.label l.ways (record v { ends = ls }) none fits.0.0 (record { done = b.done; now = b.now; lates = b.lates })

fall_below : (label : ℕ) (v : Work) (now : Option Open) → v.now ≡ now → AreBelow v → AreBelow (when_open now v (λ o. close v o (Jump label)))
fall_below label v None is b = b
fall_below label v (Some o) is b = ended_below v (close v o (Jump label)) o (closed o (Jump label)) is refl refl refl (omega arith) refl tt b

leave_below : (k : ℕ) (v : Work) (now : Option Open) → v.now ≡ now → AreBelow v → AreBelow (when_open now v (leave_work k v))
leave_below k v None is b = b
leave_below k v (Some o) is b = ended_below v (leave_work k v o) o (closed o (Jump (label_at v.ends k))) is refl refl refl (omega arith) refl tt b

again_below : (k : ℕ) (v : Work) (now : Option Open) → v.now ≡ now → AreBelow v → AreBelow (when_open now v (again_work k v))
again_below k v None is b = b
again_below k v (Some o) is b = ended_below v (again_work k v o) o (closed o (Jump (label_at v.starts k))) is refl refl refl (omega arith) refl tt b

bodies_below : (kinds : List CellKind) (label : ℕ) (ways : List CellState) (u : Work) → (fall_work label u).now ≡ None → AllByRecursion (WayFits kinds (fall_work label u).next (length (fall_work label u).done)) (ways ++ fall_ways u u.now) → AreBelow u → AreBelow (fall_work label u) → AreBelow (join_bodies kinds label ways u)
bodies_below kinds label [] u none fits b fell = b
bodies_below kinds label (way ∷ ways) u none fits b fell = join_below kinds label ((way ∷ ways) ++ fall_ways u u.now) (fall_work label u) none fits fell

-- ---- loops

-- the innermost level has a way
abbrev HasFirst : List Level → Type 0
HasFirst [] = Unit {0}
HasFirst (l ∷ ls) = 0 < length l.ways

has_first : (l : Level) (ls ks : List Level) → 0 < length l.ways → SameLevels (l ∷ ls) ks → HasFirst ks
has_first l ls [] lt s = tt
has_first l ls (k ∷ ks) lt s = omega (arith, lt, ap length s.2.1, length-append l.ways s.2.0)

loop_below : (kinds : List CellKind) (needs : ℕ → Bool) (w : Work) (o : Open) → w.now ≡ Some o → IsValid kinds w → AreBelow w → AreBelow (open_loop kinds needs w o)
loop_below kinds needs w o is ok b =
    let d = closed o (Jump (length w.targets)) in
    let mid : Work = record w { done = w.done ++ d ∷ []; now = None; next = next_for needs kinds 0 w.next } in
    let long = pushed w d in
    let more = next_more needs kinds 0 w.next in
    let m = ended_below w mid o d is refl refl refl more refl tt b in
    let first : ArePhisBelow mid.next (length mid.done) (phis_for needs (way_of w o ∷ []) kinds 0 w.next) =
    phis_below needs kinds w.next (length mid.done) mid.next (way_of w o ∷ []) ((omega (arith, long), now_of kinds w o is ok), tt) (omega arith) more kinds 0 w.next (λ j. let z : 0 + j ≡ j = omega arith in ap (slice_get kinds) z) (omega arith) in
    record {
      done = m.done;
      now = tt;
      lates = all_append (ArePhisBelow mid.next (length mid.done)) w.lates (phis_for needs (way_of w o ∷ []) kinds 0 w.next ∷ []) m.lates (first, tt);
    }

loop_closes : (kinds : List CellKind) (needs : ℕ → Bool) (late next : ℕ) (es ss : List Level) (v : Work) → v.now ≡ None → next_for needs kinds 0 next ≤ v.next → LevelsFit kinds v.next (length v.done) es → LevelsFit kinds v.next (length v.done) ss → HasFirst ss → AreBelow v → AreBelow (close_end kinds es (close_start kinds needs late next ss v))
loop_closes kinds needs late next es [] v none le fe fs some b = close_end_below kinds es v none fe b
loop_closes kinds needs late next es (l ∷ ls) v none le fe fs some b =
    let first = phis_below needs kinds v.next (length v.done) v.next l.ways fs.0.0 some (omega arith) kinds 0 next (λ j. let z : 0 + j ≡ j = omega arith in ap (slice_get kinds) z) le in
    close_end_below kinds es (close_start kinds needs late next (l ∷ ls) v) none fe
    (record { done = b.done; now = b.now; lates = lates_set v.next (length v.done) v.lates late (phis_for needs l.ways kinds 0 next) first b.lates })

-- ---- choices

branch_below : (next : ℕ) (holds : Bool) (v : Operand) (label : ℕ) → IsTyped (Below next) true v → IsLastBelow next (branch_last holds v label)
branch_below next true v label h = h
branch_below next false v label h = h

pub first_typed : (core : Core) (has : ℕ → Bool → Type 0) (test : ℕ) (operands : List Operand) → kind_at core test ≡ Some TruthKind → AreTyped has core (test ∷ []) operands → IsTyped has true (first_operand operands)
first_typed core has test [] kind typed = absurd typed
first_typed core has test (o ∷ os) kind typed = typed.0 TruthKind kind

first_below : (coder : Coder) (holds : Bool) (test : ℕ) (w : Work) (o : Open) → w.now ≡ Some o → IsTyped (Below (w.next + length (coder (test ∷ []) o.values w.next).code)) true (first_operand (coder (test ∷ []) o.values w.next).operands) → AreBelow w → AreBelow (open_first coder holds test w o)
first_below coder holds test w o is typed b =
    let c = coder (test ∷ []) o.values w.next in
    let d : Draft = record { phis = o.phis; body = o.body ++ c.code; last = branch_last holds (first_operand c.operands) (length w.targets) } in
    let mid : Work = record w { done = w.done ++ d ∷ []; now = None; next = w.next + length c.code } in
    begun_below mid (open_first coder holds test w o) (opened o.values) refl refl refl (omega arith) tt
    (ended_below w mid o d is refl refl refl (omega arith) refl (branch_below (w.next + length c.code) holds (first_operand c.operands) (length w.targets) typed) b)

either_below : (x z : Work) (r : Bool) → AreBelow x → AreBelow z → AreBelow (if r then x else z)
either_below x z true f g = f
either_below x z false f g = g

when_below : (n : Option Open) (w : Work) (f : Open → Work) → w.now ≡ n → AreBelow w → ((o : Open) → w.now ≡ Some o → AreBelow (f o)) → AreBelow (when_open n w f)
when_below None w f e b next = b
when_below (Some o) w f e b next = next o e

-- ---- statements

module _ (carry : WaysCarry) (keeps : SameWhereNotDiffer) (core : Core) (coder : Coder) (isc : IsCoder core coder) where
  test_below : (test : ℕ) (w : Work) (o : Open) → w.now ≡ Some o → kind_at core test ≡ Some TruthKind → IsValid core.cells w → IsTyped (Below (w.next + length (coder (test ∷ []) o.values w.next).code)) true (first_operand (coder (test ∷ []) o.values w.next).operands)
  test_below test w o is kind ok =
      let c = coder (test ∷ []) o.values w.next in
      let next = w.next + length c.code in
      let cells = now_of core.cells w o is ok in
      let lowered = coded core coder isc (test ∷ []) o.values w.next (kind_within core test TruthKind kind, tt) cells in
      let few = counts_bound w.next next (flat_map registers_of c.code) lowered.registers (omega (arith, lowered.each)) in
      typed_with (Behind (HasCell core.cells o.values) c.code) (Below next) (λ r t h. behind_less next (HasCell core.cells o.values) c.code (λ r t h. cell_less core.cells w.next next o.values (omega arith) cells r t h) few r t h) true (first_operand c.operands)
      (first_typed core (Behind (HasCell core.cells o.values) c.code) test c.operands kind lowered.typed)

  choice_below : (test : ℕ) (a b : Stmt) (holds : Bool) (w : Work) (o : Open) → w.now ≡ Some o → kind_at core test ≡ Some TruthKind → IsValid core.cells w → Emits core a (open_first coder holds test w o) (lower_of core coder a (open_first coder holds test w o))
      → ((g : Work) → IsValid core.cells g → SameLevels w.ends g.ends → SameLevels w.starts g.starts → Emits core b g (lower_of core coder b g))
      → (AreBelow (open_first coder holds test w o) → AreBelow (lower_of core coder a (open_first coder holds test w o)))
      → ((g : Work) → IsValid core.cells g → SameLevels w.ends g.ends → SameLevels w.starts g.starts → AreBelow g → AreBelow (lower_of core coder b g))
      → AreBelow w → AreBelow (two_bodies core.cells (length w.targets) o.values (lower_of core coder a (open_first coder holds test w o)) (lower_of core coder b))
  choice_below test a b holds w o is kind ok ea eb first second n =
      let label = length w.targets + 2 in
      let v = lower_of core coder a (open_first coder holds test w o) in
      let cells = now_of core.cells w o is ok in
      let fell = fallen core.cells label v v.now refl ea.valid in
      let f = fall_work label v in
      let more : w.next ≤ w.next + length (coder (test ∷ []) o.values w.next).code = omega arith in
      let le : w.next ≤ f.next = omega (arith, fell.next, ea.moves.next, more) in
      let g = open_second (length w.targets + 1) o.values f in
      let valid = open_second_valid core.cells (length w.targets + 1) w.next o.values f cells le fell.valid in
      let ends = same_then w.ends v.ends f.ends ea.moves.ends fell.moves.ends in
      let starts = same_then w.starts v.starts f.starts ea.moves.starts fell.moves.starts in
      let u = lower_of core coder b g in
      let eu = eb g valid ends starts in
      let last = fallen core.cells label u u.now refl eu.valid in
      let z = fall_work label u in
      let bv = first (first_below coder holds test w o is (test_below test w o is kind ok) n) in
      let bf = fall_below label v v.now refl bv in
      let bg = begun_below f g (opened o.values) refl refl refl (omega arith) tt bf in
      let bu = second g valid ends starts bg in
      let longer : length f.done ≤ length z.done = omega (arith, moves_longer g u eu.moves, moves_longer u z last.moves) in
      let higher : v.next ≤ z.next = omega (arith, fell.next, eu.moves.next, last.moves.next) in
      let fits_v = ways_more core.cells v.next z.next (length f.done) (length z.done) (fall_ways v v.now) higher longer fell.ways in
      let fits_u = ways_more core.cells u.next z.next (length z.done) (length z.done) (fall_ways u u.now) last.moves.next (omega arith) last.ways in
      bodies_below core.cells label (fall_ways v v.now) u last.none (each_append (WayFits core.cells z.next (length z.done)) (fall_ways v v.now) (fall_ways u u.now) fits_v.0 fits_u.0) bu (fall_below label u u.now refl bu)

  pub stays_below : (s : Stmt) (w : Work) → IsFit core s → HasLevels s (length w.ends) (length w.starts) → IsValid core.cells w → AreBelow w → AreBelow (lower_of core coder s w)
  stays_below Skip w fit l ok n = n
  stays_below (Seq a b) w fit l ok n =
      let u = lower_of core coder a w in
      let ea = emits carry keeps core coder isc a w fit.0 l.0 ok in
      stays_below b u fit.1 (levels_same b w u ea.moves.ends ea.moves.starts l.1) ea.valid (stays_below a w fit.0 l.0 ok n)
  stays_below (Assign pairs) w fit l ok n = when_below w.now w (assign_work coder pairs w) refl n (λ o is.
      let c = coder (pair_exprs pairs) o.values w.next in
      more_below w o c.code (stored pairs c.operands o.values) (w.next + length c.code) w.results is (omega arith) n)
  stays_below (Gate leaf) w fit l ok n = when_below w.now w (gate_work coder leaf w) refl n (λ o is.
      let c = coder (leaf_exprs leaf) o.values w.next in
      more_below w o (c.code ++ gate_call leaf c.operands ∷ []) o.values (w.next + length c.code) w.results is (omega arith) n)
  stays_below (Reset qubit) w fit l ok n = when_below w.now w (reset_work qubit w) refl n (λ o is.
      more_below w o (reset_call qubit ∷ []) o.values w.next w.results is (omega arith) n)
  stays_below (Measure qubit None) w fit l ok n = when_below w.now w (measure_work qubit None w) refl n (λ o is.
      more_below w o (measure_call qubit w.results ∷ []) o.values w.next (suc w.results) is (omega arith) n)
  stays_below (Measure qubit (Some c)) w fit l ok n = when_below w.now w (measure_work qubit (Some c) w) refl n (λ o is.
      more_below w o (measure_call qubit w.results ∷ read_call w.next w.results ∷ []) (slice_set o.values c (Register w.next)) (suc w.next) (suc w.results) is (omega arith) n)
  stays_below (If test a b) w fit l ok n =
      when_below w.now w (λ o. if reaches b Falls then two_bodies core.cells (length w.targets) o.values (lower_of core coder a (open_first coder true test w o)) (lower_of core coder b) else two_bodies core.cells (length w.targets) o.values (lower_of core coder b (open_first coder false test w o)) (lower_of core coder a)) refl n (λ o is.
      let oka = open_first_valid core.cells coder true test w o is ok in
      let okb = open_first_valid core.cells coder false test w o is ok in
      either_below (two_bodies core.cells (length w.targets) o.values (lower_of core coder a (open_first coder true test w o)) (lower_of core coder b)) (two_bodies core.cells (length w.targets) o.values (lower_of core coder b (open_first coder false test w o)) (lower_of core coder a)) (reaches b Falls)
      (choice_below test a b true w o is fit.0 ok (emits carry keeps core coder isc a (open_first coder true test w o) fit.1 l.0 oka) (λ g vg se ss. emits carry keeps core coder isc b g fit.2 (levels_same b w g se ss l.1) vg) (λ m. stays_below a (open_first coder true test w o) fit.1 l.0 oka m) (λ g vg se ss m. stays_below b g fit.2 (levels_same b w g se ss l.1) vg m) n)
      (choice_below test b a false w o is fit.0 ok (emits carry keeps core coder isc b (open_first coder false test w o) fit.2 l.1 okb) (λ g vg se ss. emits carry keeps core coder isc a g fit.1 (levels_same a w g se ss l.0) vg) (λ m. stays_below b (open_first coder false test w o) fit.2 l.1 okb m) (λ g vg se ss m. stays_below a g fit.1 (levels_same a w g se ss l.0) vg m) n))
  stays_below (Block a) w fit l ok n = when_below w.now w (λ o. let v = leave_zero (lower_of core coder a (open_end w)) in close_end core.cells v.ends v) refl n (λ o is.
      let w1 = open_end w in
      let u = lower_of core coder a w1 in
      let v = leave_zero u in
      let ok1 = open_end_valid core.cells w ok in
      let em = emits carry keeps core coder isc a w1 fit l ok1 in
      let bm = body_emits carry keeps core coder isc a w1 u (omega arith) em in
      close_end_below core.cells v.ends v (leave_none u u.now refl) bm.valid.ends (leave_below 0 u u.now refl (stays_below a w1 fit l ok1 (record { done = n.done; now = n.now; lates = n.lates }))))
  stays_below (Loop a) w fit l ok n =
      when_below w.now w (λ o.
      let needs = start_needs core.exprs a o.values in
      let v = leave_zero (lower_of core coder a (open_loop core.cells needs w o)) in
      close_end core.cells v.ends (close_start core.cells needs (length w.lates) w.next v.starts v)) refl n (λ o is.
      let needs = start_needs core.exprs a o.values in
      let w1 = open_loop core.cells needs w o in
      let u = lower_of core coder a w1 in
      let v = leave_zero u in
      let ok1 = open_loop_valid core.cells needs w o is ok in
      let em = emits carry keeps core coder isc a w1 fit l ok1 in
      let bm = body_emits carry keeps core coder isc a w1 u (omega arith) em in
      let start : Level = record { label = length w.targets; block = length w.done + 1; ways = way_of w o ∷ [] } in
      loop_closes core.cells needs (length w.lates) w.next v.ends v.starts v (leave_none u u.now refl) bm.moves.next bm.valid.ends bm.valid.starts (has_first start w.starts v.starts (omega arith) bm.moves.starts)
      (leave_below 0 u u.now refl (stays_below a w1 fit l ok1 (loop_below core.cells needs w o is ok n))))
  stays_below (Leave k) w fit l ok n = leave_below k w w.now refl n
  stays_below (Again k) w fit l ok n = again_below k w w.now refl n

-- ---- the program

pub whole_below : WaysCarry → SameWhereNotDiffer → (core : Core) (coder : Coder) → IsLowerable core coder → AreBelow (whole_work core coder)
whole_below carry keeps core coder l =
    let w = first_work (length core.cells) in
    let v = lower_of core coder (program_of core) w in
    at v v.now refl (stays_below carry keeps core coder l.coder_fits (program_of core) w (program_fits core l.fits l.held) l.fits.well_formed.levels (first_valid core.cells) (record { done = tt; now = tt; lates = tt }))
  where
    at : (v : Work) (now : Option Open) → v.now ≡ now → AreBelow v → AreBelow (when_open now v (end_work core.outputs v))
    at v None is b = b
    at v (Some o) is b = ended_below v (end_work core.outputs v o) o (record { phis = o.phis; body = o.body ++ map (record_call o.values) core.outputs; last = Return (pos 0) }) is refl refl refl (omega arith) refl refl b
