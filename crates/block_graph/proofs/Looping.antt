-- The lowering of a loop: its start has a phi for each cell that its body changes on a way back.
use Rattle.std.proofs.Common.{◌≡◌, ℕ, zero, suc, ◌+◌, ◌<◌, ◌≤◌, ⊎_elim, false, List, [], ◌∷◌, ◌++◌, map, length, get_or, Option, Some, None, refl, sym, ap, ◌∙◌, subst, arith, append_assoc, append-nil, length-append, length-set, get_or-set_same, get_or-set_other}
use Rattle.std.specs.Prelude.{slice_get, slice_set}
use Rattle.std.specs.List.{AllByRecursion}
use Rattle.std.proofs.lemmas.List.{get_or_append_left, get_or_at, length-map}
use Rattle.qir_module.specs.declared.instruction.Operand.{Operand}
use Rattle.qir_module.specs.declared.instruction.Instr.{Instr}
use Rattle.qir_module.specs.declared.instruction.Last.{Last}
use Rattle.qir_module.specs.declared.instruction.Last.TheVariants.{Jump}
use Rattle.qir_module.specs.declared.block.Phi.{Phi}
use Rattle.qir_module.specs.declared.block.Block.{Block as ModuleBlock}
use Rattle.qir_module.specs.Module.{Module}
use Rattle.core_ir.specs.Core.{Core}
use Rattle.core_ir.specs.Tree.{Stmt, Seq, Loop, Leave}
use Rattle.cell_operands.specs.Operands.{operand_of}
use Rattle.phi_place.specs.State.{CellState}
use Rattle.phi_place.specs.Phis.{operand_at, phis_for, values_for, Carries, IsAmong, WaysCarry, SameWhereNotDiffer}
use Rattle.expr_lower.specs.Lowered.{AreCells}
use Rattle.block_graph.specs.Work.{PhiPart, Late, Draft, Level, Open, Work}
use Rattle.block_graph.specs.Lowering.{closed, way_of, join_work, start_needs, open_loop, close_start, close_end, settled_phis, settled_last, settled}
use Rattle.block_graph.specs.Stretch.{Place, Leads, Low}
use Rattle.block_graph.proofs.Cells.{cells_phis, next_more, WaysFit, ways_carried}
use Rattle.block_graph.proofs.Flow.{Added, AtZero}
use Rattle.block_graph.proofs.Moving.{LevelsFit, StartsStand, IsValid, SameLevels, Grows, grows_then, grows_more, grows_set, EachLeads, EndsGo, StartsGo, leads_less, each_leads, now_phis, draft_phis, phi_list, map_push, Stand, get_left, get_end, IsFinal, StandsAt, StandsIf, LowFrom, Emits}
use Rattle.block_graph.proofs.Emitting.{now_of, jump_place, closed_at, pushed, Joined, joined, join_valid, join_goes, joins_leave}

place_same : (p q : Place) → p.block ≡ q.block → p.rest ≡ q.rest → p.last ≡ q.last → p.values ≡ q.values → p ≡ q
place_same p q a b c d = ap (λ (x : ℕ). record p { block = x }) a ∙ ap (λ (x : List Instr). record p { block = q.block; rest = x }) b ∙ ap (λ (x : Last). record p { block = q.block; rest = q.rest; last = x }) c ∙ ap (λ (x : List Operand). record q { values = x }) d

pub some_block : (x y : ModuleBlock) → Some x ≡ Some y → x ≡ y
some_block x y e = cc e

pub drafted : (xs : List Draft) (k : ℕ) (ps : PhiPart) → slice_get (map draft_phis xs) k ≡ Some ps → (d : Draft) × (slice_get xs k ≡ Some d) × (d.phis ≡ ps)
drafted [] k ps e = absurd (cc e)
drafted (x ∷ xs) zero ps e = (x, refl, cc e)
drafted (x ∷ xs) (suc k) ps e = drafted xs k ps e

two_longer : (xs : List ℕ) (a b : ℕ) → length (xs ++ a ∷ b ∷ []) ≡ suc (suc (length xs))
two_longer xs a b = omega (arith, length-append xs (a ∷ b ∷ []))

each_in : (P : CellState → Type 0) (ways : List CellState) (way : CellState) → AllByRecursion P ways → IsAmong way ways → P way
each_in P [] way a i = absurd i
each_in P (w ∷ ways) way a i = ⊎_elim (λ e. subst P (sym e) a.0) (λ j. each_in P ways way a.1 j) i

-- in the body of a loop, the ways to its start keep the cells that have no phi there
abbrev pub Stays : Core → Stmt → Work → Open → Work → Type 0
Stays core a w o u = (i : ℕ) → start_needs core.exprs a o.values i ≡ false → Added (AtZero (λ (way : CellState). operand_at way i ≡ operand_of o.values i)) (open_loop core.cells (start_needs core.exprs a o.values) w o).starts u.starts

pub loop_at : WaysCarry → SameWhereNotDiffer → (core : Core) (a : Stmt) (w u : Work) (o : Open) (us ks : List Level) → w.now ≡ Some o → IsValid core.cells w → Emits core (Seq a (Leave 0)) (open_loop core.cells (start_needs core.exprs a o.values) w o) u → u.now ≡ None → u.ends ≡ us → u.starts ≡ ks → Stays core a w o u
    → Emits core (Loop a) w (close_end core.cells us (close_start core.cells (start_needs core.exprs a o.values) (length w.lates) w.next ks u))
loop_at carry keeps core a w u o [] ks is ok ei none e eh stays = absurd (subst (λ (k : List Level). SameLevels (record { label = length w.targets + 1; block = 0; ways = [] } ∷ w.ends) k) e ei.moves.ends)
loop_at carry keeps core a w u o (l ∷ ls) [] is ok ei none e eh stays = absurd (subst (λ (k : List Level). SameLevels (record { label = length w.targets; block = length w.done + 1; ways = way_of w o ∷ [] } ∷ w.starts) k) eh ei.moves.starts)
loop_at carry keeps core a w u o (l ∷ ls) (hd ∷ ks) is ok ei none e eh stays = record {
  moves = record {
    phis = (Late at_late ∷ (ei.moves.phis.0 ++ j.phis.0), j.phis.1 ∙ ap (λ (x : List PhiPart). x ++ j.phis.0) (ei.moves.phis.1 ∙ ap (λ (x : List PhiPart). x ++ ei.moves.phis.0) opened_list) ∙ append_assoc (phi_list w ++ Late at_late ∷ []) ei.moves.phis.0 j.phis.0 ∙ append_assoc (phi_list w) (Late at_late ∷ []) (ei.moves.phis.0 ++ j.phis.0));
    added = entry ∷ ei.moves.added;
    done = j.done ∙ ei.moves.done ∙ append_assoc w.done (entry ∷ []) ei.moves.added;
    targets = record { long = omega (arith, j.long, ei.moves.targets.long, long2); same = λ k lt. j.other k (λ h. absurd (omega (arith, h, lt, same.0))) ∙ ei.moves.targets.same k (omega (arith, lt, long2)) ∙ get_or_append_left w.targets ((length w.done + 1) ∷ 0 ∷ []) 0 k lt };
    lates = subst (λ (t : List (List Phi)). Grows w.lates t []) (sym j.lates) (grows_set w.lates u.lates [] at_late ps (omega arith) (grows_then w.lates (w.lates ++ first_phis ∷ []) u.lates [] (grows_more w.lates (first_phis ∷ []) []) ei.moves.lates));
    next = omega (arith, ei.moves.next, j.next, next_more (start_needs core.exprs a o.values) core.cells 0 w.next);
    ends = subst (λ (k : List Level). SameLevels w.ends k) (sym j.ends) same.3;
    starts = subst (λ (k : List Level). SameLevels w.starts k) (sym j.starts) sameh.3;
  };
  valid = join_valid core.cells l.label l.ways x levels.0 (record { now = ei.valid.now; ends = levels.1; starts = hlevels.1; stand = stands.1 });
  low = λ m labels lates ends starts end f at g h.
      let at_x = subst (λ (d : List Draft). StandsIf m lates (length d) v.now end) j.done at in
      let lab : labels l.label ≡ get_or v.targets l.label 0 = f.targets.by l.label (omega (arith, same.0)) (omega (arith, within, j.long)) in
      let goes = join_goes carry keeps core.cells m labels lates l.label l.ways x end none levels.0 within lab at_x in
      let stand : Stand m labels lates u.done = subst (λ (d : List Draft). Stand m labels lates d) j.done f.blocks in
      let inner : IsFinal m labels lates (open_loop core.cells (start_needs core.exprs a o.values) w o) u = record {
        blocks = stand;
        targets = record { by = λ k le lt. f.targets.by k (omega (arith, le, long2)) (omega (arith, lt, j.long)) ∙ j.other k (λ h'. absurd (omega (arith, h', le, long2, same.0))) };
        phis = record { by = λ k le lt. f.phis.by k (omega (arith, le, late_longer)) (omega (arith, lt, late_length)) ∙ ap (λ (t : List (List Phi)). get_or t k []) j.lates ∙ get_or-set_other u.lates at_late k ps [] (λ h'. absurd (omega (arith, h', le, late_longer))) };
      } in
      let late_is : lates at_late ≡ ps = f.phis.by at_late (omega arith) (omega (arith, late_length, late_within)) ∙ ap (λ (t : List (List Phi)). get_or t at_late []) j.lates ∙ get_or-set_same u.lates at_late ps [] late_within in
      let found : slice_get m.blocks b ≡ Some (settled labels lates b d) = stand.by b d head_draft.1 in
      let head : Place = record { block = b; rest = d.body; last = settled_last labels d.last; values = oh.values } in
      let carries : (way : CellState) → IsAmong way hd.ways → Leads core.cells m way.block way.values head = λ way i. record { target = settled labels lates b d; found = found; body = refl; last = refl; long = head_long; carries = subst (λ (q : List Phi). Carries q core.cells way oh.values) (sym (ap (settled_phis lates) head_draft.2 ∙ late_is)) (ways_carried carry (start_needs core.exprs a o.values) core.cells u.next (length u.done) w.next hd.ways way o.values hlevels.0 i n (λ c f. stay way i c f)) } in
      let leads : EachLeads core.cells m hd.ways head = each_leads core.cells m head hd.ways carries in
      let head_label : labels (length w.targets) ≡ b = f.targets.by (length w.targets) (omega arith) (omega (arith, j.long, ei.moves.targets.long, long2)) ∙ j.other (length w.targets) (λ h'. absurd (omega (arith, h', same.0))) ∙ ei.moves.targets.same (length w.targets) (omega (arith, long2)) ∙ get_or_at w.targets b (0 ∷ []) 0 (length w.targets) refl in
      let g' : EndsGo core.cells m labels u.ends (end ∷ ends) = subst (λ (k : List Level). EndsGo core.cells m labels k (end ∷ ends)) (sym e) (goes, subst (λ (k : List Level). EndsGo core.cells m labels k ends) j.ends g) in
      let h' : StartsGo core.cells m labels u.starts (head ∷ starts) = subst (λ (k : List Level). StartsGo core.cells m labels k (head ∷ starts)) (sym eh) ((sym (ap labels sameh.0 ∙ head_label), sym sameh.1, leads), subst (λ (k : List Level). StartsGo core.cells m labels k starts) j.starts h) in
      let r = ei.low m labels lates (end ∷ ends) (head ∷ starts) None inner (subst (λ (n : Option Open). StandsIf m lates (length u.done) n None) (sym none) tt) g' h' in
      let first : Leads core.cells m (length w.done) o.values head = (leads_less core.cells m head (way_of w o ∷ []) sameh.2.0 (subst (λ (q : List CellState). EachLeads core.cells m q head) sameh.2.1 leads)).0 in
      let here : StandsAt m lates (length w.done) o (jump_place (length w.done) o head) = closed_at m labels lates u.done (length w.done) o (length w.targets) head stand (ap (λ (q : List Draft). slice_get q (length w.done)) ei.moves.done ∙ get_left (w.done ++ entry ∷ []) ei.moves.added (length w.done) entry (get_end w.done entry)) (sym head_label) in
      from m labels lates ends starts end head r.start refl refl refl refl found r.at r.low first here;
}
  where
    b : ℕ
    b = length w.done + 1

    at_late : ℕ
    at_late = length w.lates

    entry : Draft
    entry = closed o (Jump (length w.targets))

    oh : Open
    oh = record { phis = Late (length w.lates); body = []; values = values_for (start_needs core.exprs a o.values) o.values 0 w.next }

    ps : List Phi
    ps = phis_for (start_needs core.exprs a o.values) hd.ways core.cells 0 w.next

    n : AreCells core.cells w.next o.values
    n = now_of core.cells w o is ok

    head_long : length (values_for (start_needs core.exprs a o.values) o.values 0 w.next) ≡ length core.cells
    head_long = (cells_phis (start_needs core.exprs a o.values) core.cells o.values w.next n).long

    long2 : length (w.targets ++ (length w.done + 1) ∷ 0 ∷ []) ≡ suc (suc (length w.targets))
    long2 = two_longer w.targets (length w.done + 1) 0

    stay : (way : CellState) → IsAmong way hd.ways → (c : ℕ) → start_needs core.exprs a o.values c ≡ false → operand_of o.values c ≡ operand_at way c
    stay way i c f =
        let P : CellState → Type 0 = λ way. operand_at way c ≡ operand_of o.values c in
        let k = (subst (Added (AtZero P) (open_loop core.cells (start_needs core.exprs a o.values) w o).starts) eh (stays c f)).0 in
        sym (each_in P hd.ways way (subst (AllByRecursion P) (sym k.1) (refl, k.2)) i)

    first_phis : List Phi
    first_phis = phis_for (start_needs core.exprs a o.values) (way_of w o ∷ []) core.cells 0 w.next

    opened_list : phi_list (open_loop core.cells (start_needs core.exprs a o.values) w o) ≡ phi_list w ++ Late (length w.lates) ∷ []
    opened_list = ap (λ (l : List PhiPart). l ++ Late (length w.lates) ∷ []) (map_push w.done entry ∙ ap (λ (q : Option Open). map draft_phis w.done ++ now_phis q) (sym is))

    same : (l.label ≡ length w.targets + 1) × (l.block ≡ 0) × ((more : List CellState) × (l.ways ≡ [] ++ more)) × SameLevels w.ends ls
    same = subst (λ (k : List Level). SameLevels (record { label = length w.targets + 1; block = 0; ways = [] } ∷ w.ends) k) e ei.moves.ends

    sameh : (hd.label ≡ length w.targets) × (hd.block ≡ length w.done + 1) × ((more : List CellState) × (hd.ways ≡ (way_of w o ∷ []) ++ more)) × SameLevels w.starts ks
    sameh = subst (λ (k : List Level). SameLevels (record { label = length w.targets; block = length w.done + 1; ways = way_of w o ∷ [] } ∷ w.starts) k) eh ei.moves.starts

    x : Work
    x = record u { ends = ls; starts = ks; lates = slice_set u.lates (length w.lates) (phis_for (start_needs core.exprs a o.values) hd.ways core.cells 0 w.next) }

    v : Work
    v = join_work core.cells l.label l.ways x

    j : Joined l.label x v
    j = joined core.cells l.label l.ways x none

    levels : WaysFit core.cells u.next (length u.done) l.ways × LevelsFit core.cells u.next (length u.done) ls
    levels = subst (λ (k : List Level). LevelsFit core.cells u.next (length u.done) k) e ei.valid.ends

    hlevels : WaysFit core.cells u.next (length u.done) hd.ways × LevelsFit core.cells u.next (length u.done) ks
    hlevels = subst (λ (k : List Level). LevelsFit core.cells u.next (length u.done) k) eh ei.valid.starts

    stands : (hd.block ≤ length u.done) × StartsStand (length u.done) ks
    stands = subst (λ (k : List Level). StartsStand (length u.done) k) eh ei.valid.stand

    within : l.label < length u.targets
    within = omega (arith, same.0, ei.moves.targets.long, long2)

    late_longer : length (w.lates ++ first_phis ∷ []) ≡ suc (length w.lates)
    late_longer = omega (arith, length-append w.lates (first_phis ∷ []))

    late_within : length w.lates < length u.lates
    late_within = omega (arith, late_longer, ei.moves.lates.long)

    late_length : length v.lates ≡ length u.lates
    late_length = ap length j.lates ∙ length-set u.lates (length w.lates) ps

    -- the loop's first block keeps its phis
    head_phis : slice_get (map draft_phis u.done) b ≡ Some (Late (length w.lates))
    head_phis =
        let listed : map draft_phis u.done ≡ ((map draft_phis (w.done ++ entry ∷ [])) ++ Late (length w.lates) ∷ []) ++ ei.moves.phis.0 = sym (append-nil (map draft_phis u.done)) ∙ ap (λ (q : Option Open). map draft_phis u.done ++ now_phis q) (sym none) ∙ ei.moves.phis.1 in
        let len : length (map draft_phis (w.done ++ entry ∷ [])) ≡ b = length-map (w.done ++ entry ∷ []) draft_phis ∙ omega (arith, pushed w entry) in
        ap (λ (q : List PhiPart). slice_get q b) listed ∙ get_left (map draft_phis (w.done ++ entry ∷ []) ++ Late (length w.lates) ∷ []) ei.moves.phis.0 b (Late (length w.lates)) (ap (λ (k : ℕ). slice_get (map draft_phis (w.done ++ entry ∷ []) ++ Late (length w.lates) ∷ []) k) (sym len) ∙ get_end (map draft_phis (w.done ++ entry ∷ [])) (Late (length w.lates)))

    head_draft : (d : Draft) × (slice_get u.done b ≡ Some d) × (d.phis ≡ Late (length w.lates))
    head_draft = drafted u.done b (Late (length w.lates)) head_phis

    d : Draft
    d = head_draft.0

    from : (m : Module) (labels : ℕ → ℕ) (lates : ℕ → List Phi) (ends : List (Option Place)) (starts : List Place) (end : Option Place) (head : Place) (start : Option Place) → head.block ≡ b → head.rest ≡ d.body → head.last ≡ settled_last labels d.last → head.values ≡ oh.values → slice_get m.blocks b ≡ Some (settled labels lates b d) → StandsIf m lates (length (w.done ++ entry ∷ [])) (Some oh) start → Low core m (Seq a (Leave 0)) start None (end ∷ ends) (head ∷ starts) → Leads core.cells m (length w.done) o.values head → StandsAt m lates (length w.done) o (jump_place (length w.done) o head) → LowFrom core m lates w (Loop a) end ends starts
    from m labels lates ends starts end head None hb hr hl hst found at low first here = absurd at
    from m labels lates ends starts end head (Some q) hb hr hl hst found at low first here =
        let long : length (w.done ++ entry ∷ []) ≡ b = omega (arith, pushed w entry) in
        let blocks = some_block _ _ (sym at.found ∙ ap (slice_get m.blocks) long ∙ found) in
        let same_head : q ≡ head = place_same q head (at.block ∙ long ∙ sym hb) (ap (λ (z : ModuleBlock). z.body) blocks ∙ sym hr) (ap (λ (z : ModuleBlock). z.last) blocks ∙ sym hl) (at.values ∙ sym hst) in
        let low_a = subst (λ (z : Place). Low core m a (Some z) low.0 (end ∷ ends) (head ∷ starts)) same_head low.1 in
        let p = jump_place (length w.done) o head in
        let later : length w.done < head.block = omega (arith, hb) in
        record { start = Some p; at = subst (λ (z : Option Open). StandsIf m lates (length w.done) z (Some p)) (sym is) here; low = (head, low.0, record { goes = record { rest = refl; last = refl; leads = first }; later = later }, low_a, joins_leave core m low.0 end ends (head ∷ starts) low.2) }
