-- The blocks that jumps name are there.
use Rattle.std.proofs.Common.{◌≡◌, ◌≢◌, ℕ, zero, suc, ◌+◌, ◌<◌, ◌⊎◌, inl, inr, ⊎_elim, nat_eq, eq-eqb, Bool, true, false, not, ◌&&◌, ◌||◌, List, [], ◌∷◌, ◌++◌, map, length, get_or, pos, Option, Some, None, refl, sym, ap, ◌∙◌, subst, arith, ne_eqb}
use Rattle.std.specs.Prelude.{slice_get}
use Rattle.std.specs.List.{AllByRecursion}
use Rattle.qir_module.specs.declared.instruction.Instr.{Instr}
use Rattle.qir_module.specs.declared.instruction.Last.{Last}
use Rattle.qir_module.specs.declared.instruction.Last.TheVariants.{Jump, Branch, Return}
use Rattle.qir_module.specs.declared.block.Phi.{Phi}
use Rattle.qir_module.specs.declared.block.Block.{Block as ModuleBlock}
use Rattle.qir_module.specs.Module.{Module}
use Rattle.qir_module.specs.Machine.{place_of}
use Rattle.qir_module.specs.Carried.{targets_of}
use Rattle.qir_module.specs.Numbered.{CountsFrom, is_among}
use Rattle.qir_module.specs.Spots.{TheInstr, TheLast}
use Rattle.qir_module.specs.Passes.{IsKept, is_target, targets_kept, targets_kept_at, is_record}
use Rattle.core_ir.specs.Core.{Core}
use Rattle.core_ir.specs.Tree.{program_of}
use Rattle.core_ir.specs.declared.program.Output.{Output}
use Rattle.phi_place.specs.Phis.{WaysCarry, SameWhereNotDiffer}
use Rattle.block_graph.specs.Laws.{IsLowerable}
use Rattle.block_graph.specs.Work.{Draft, Level, Open, Work}
use Rattle.block_graph.specs.Lowering.{Coder, record_call, first_work, lower_of, when_open, end_work, whole_work, settled_last, settled_from, lowered}
use Rattle.block_graph.specs.Claims.{AreSilent, EndsFine}
use Rattle.block_graph.proofs.Coding.{all_append, both}
use Rattle.block_graph.proofs.Walking.{Steps, late_phis, walk_program, end_none}
use Rattle.block_graph.proofs.Spotting.{kept_by_lasts}
use Rattle.block_graph.proofs.Flow.{or_left, or_right}
use Rattle.block_graph.proofs.Running.{names_of, block_place}
use Rattle.block_graph.proofs.Moving.{SameLevels}
use Rattle.block_graph.proofs.Jumps.{IsIn, jumps_in, named, labels_of, one_target_is, pending_push, settled_push}
use Rattle.block_graph.proofs.Tables.{blocks_opened, waits, Table, opened_push}
use Rattle.block_graph.proofs.Jumping.{jumps}
use Rattle.block_graph.proofs.Whole.{settled_names, emits, first_valid, program_fits}

-- ---- the labels at the end

abbrev pub NoLabel : ℕ → Type 0
NoLabel l = ⊥

pub start_table : (cells : ℕ) → Table NoLabel (first_work cells)
start_table cells = record {
  pending = record { ends_once = tt; starts_once = tt; apart = λ l i j. i; ends_below = tt; starts_below = tt; ends_exact = tt; starts_exact = tt; fresh = λ l k le. refl };
  settled = record { mention = λ l k e. absurd (cc e); bound = λ l. inl refl; inj = λ l l' lt e. absurd (omega (arith, lt)) };
}

return_table : (outputs : List Output) (v : Work) (n : Option Open) → v.now ≡ n → Table NoLabel v → Table NoLabel (when_open n v (end_work outputs v))
return_table outputs v None e t = t
return_table outputs v (Some o) e t =
    let d : Draft = record { phis = o.phis; body = o.body ++ map (record_call o.values) outputs; last = Return (pos 0) } in
    record {
      pending = pending_push v.done (length v.targets) v.ends v.starts d (λ l i. absurd (cc i)) t.pending;
      settled = settled_push v.done (λ l. get_or v.targets l 0) (blocks_opened v.now (length v.done)) (length (v.done ++ d ∷ [])) (waits NoLabel v) d (opened_push v.now v.done d) (λ l i. absurd (cc i)) t.settled;
    }

-- each label that is named has a block, which is not the first, and no two have one
pub record LabelsSettled (z : Work) : Type 0 where
  pub mention : (l k : ℕ) → named l z.done k ≡ true → 0 < get_or z.targets l 0
  pub bound : (l : ℕ) → (get_or z.targets l 0 ≡ 0) ⊎ (get_or z.targets l 0 < length z.done)
  pub own : (l l' : ℕ) → 0 < get_or z.targets l 0 → get_or z.targets l 0 ≡ get_or z.targets l' 0 → l ≡ l'

no_levels : (ls : List Level) → SameLevels [] ls → ls ≡ []
no_levels [] s = refl
no_levels (l ∷ ls) s = absurd s

end_levels : (outputs : List Output) (v : Work) (n : Option Open) → ((when_open n v (end_work outputs v)).ends ≡ v.ends) × ((when_open n v (end_work outputs v)).starts ≡ v.starts)
end_levels outputs v None = (refl, refl)
end_levels outputs v (Some o) = (refl, refl)

pub labels_settled : WaysCarry → SameWhereNotDiffer → (core : Core) (coder : Coder) → IsLowerable core coder → LabelsSettled (whole_work core coder)
labels_settled carry keeps core coder l =
    let w = first_work (length core.cells) in
    let v = lower_of core coder (program_of core) w in
    let z = whole_work core coder in
    let fit = program_fits core l.fits l.held in
    let em = emits carry keeps core coder l.coder_fits (program_of core) w fit l.fits.well_formed.levels (first_valid core.cells) in
    let j = jumps carry keeps core coder l.coder_fits (program_of core) w NoLabel fit l.fits.well_formed.levels (first_valid core.cells) (start_table (length core.cells)) in
    let t = return_table core.outputs v v.now refl j.table in
    let lv = end_levels core.outputs v v.now in
    let ends : z.ends ≡ [] = lv.0 ∙ no_levels v.ends em.moves.ends in
    let starts : z.starts ≡ [] = lv.1 ∙ no_levels v.starts em.moves.starts in
    let none : z.now ≡ None = end_none core.outputs v v.now refl in
    record {
      mention = λ x k e. ⊎_elim (λ h. h) (λ i. ⊎_elim (λ h. absurd h) (λ h. ⊎_elim (λ q. absurd (subst (λ (ls : List Level). IsIn x (labels_of ls)) ends q)) (λ q. absurd (subst (λ (ls : List Level). IsIn x (labels_of ls)) starts q)) h) (wait_cases NoLabel z x i)) (t.settled.mention x k e);
      bound = subst (λ (n : Option Open). (x : ℕ) → (get_or z.targets x 0 ≡ 0) ⊎ (get_or z.targets x 0 < blocks_opened n (length z.done))) none t.settled.bound;
      own = t.settled.inj;
    }
  where
    wait_cases : (P : ℕ → Type 0) (z : Work) (x : ℕ) → waits P z x → P x ⊎ (IsIn x (labels_of z.ends) ⊎ IsIn x (labels_of z.starts))
    wait_cases P z x i = ⊎_elim (λ h. inl h) (λ h. inr h) i

-- ---- how blocks end

-- no statement records or returns
abbrev pub DraftIsFine : Draft → Type 0
DraftIsFine d = AreSilent d.body × EndsFine d.last

abbrev pub NowIsSilent : Option Open → Type 0
NowIsSilent None = Unit {0}
NowIsSilent (Some o) = AreSilent o.body

pub record EachEnds (w : Work) : Type 0 where
  pub done : AllByRecursion DraftIsFine w.done
  pub now : NowIsSilent w.now

silent_now : (now : Option Open) (o : Open) → now ≡ Some o → NowIsSilent now → AreSilent o.body
silent_now now o is s = subst NowIsSilent is s

silent_append : (xs ys : List Instr) → AreSilent xs → AreSilent ys → AreSilent (xs ++ ys)
silent_append xs ys a b = all_append (λ (i : Instr). is_record (TheInstr i) ≡ false) xs ys a b

pub end_steps : (core : Core) (lates : ℕ → List Phi) → Steps core lates EachEnds
end_steps core lates = record {
  more = λ w v o code values is done now c q s. record { done = subst (AllByRecursion DraftIsFine) (sym done) s.done; now = subst NowIsSilent (sym now) (silent_append o.body code (silent_now w.now o is s.now) q) };
  ends = λ w v o code last is done none c q t s. record { done = subst (AllByRecursion DraftIsFine) (sym done) (all_append DraftIsFine w.done (record { phis = o.phis; body = o.body ++ code; last = last } ∷ []) s.done ((silent_append o.body code (silent_now w.now o is s.now) q, t), tt)); now = subst NowIsSilent (sym none) tt };
  begins = λ x v o none done now body c n r s. record { done = subst (AllByRecursion DraftIsFine) (sym done) s.done; now = subst NowIsSilent (sym now) (subst AreSilent (sym body) tt) };
  same = λ w v done now n r s. record { done = subst (AllByRecursion DraftIsFine) (sym done) s.done; now = subst NowIsSilent (sym now) s.now };
}

-- the two targets of a branch are two labels
abbrev pub HasTwoTargets : Last → Type 0
HasTwoTargets (Jump label) = Unit {0}
HasTwoTargets (Branch test first second) = first ≢ second
HasTwoTargets (Return code) = Unit {0}

two_targets : (last : Last) → EndsFine last → HasTwoTargets last
two_targets (Jump label) e = tt
two_targets (Branch test first second) e = e
two_targets (Return code) e = tt

abbrev pub EachHasTwo : Work → Type 0
EachHasTwo w = AllByRecursion (λ (d : Draft). HasTwoTargets d.last) w.done

has_two : (ds : List Draft) → AllByRecursion DraftIsFine ds → AllByRecursion (λ (d : Draft). HasTwoTargets d.last) ds
has_two [] all = tt
has_two (d ∷ ds) all = (two_targets d.last all.0.1, has_two ds all.1)

-- ---- the rule

positive_target : (n : ℕ) → 0 < n → is_target (Some n) ≡ true
positive_target zero lt = absurd (omega (arith, lt))
positive_target (suc n) lt = refl

pub settled_long : (labels : ℕ → ℕ) (lates : ℕ → List Phi) (k : ℕ) (ds : List Draft) → length (settled_from labels lates k ds) ≡ length ds
settled_long labels lates k [] = refl
settled_long labels lates k (d ∷ ds) = ap suc (settled_long labels lates (suc k) ds)

module _ (m : Module) (z : Work) (named_blocks : CountsFrom 0 (names_of m.blocks)) (long : length m.blocks ≡ length z.done) (st : LabelsSettled z) where
  label_target : (l k : ℕ) → named l z.done k ≡ true → is_target (place_of m.blocks (get_or z.targets l 0)) ≡ true
  label_target l k e =
      let lt = st.mention l k e in
      let within : get_or z.targets l 0 < length m.blocks = ⊎_elim (λ h. absurd (omega (arith, h, lt))) (λ h. omega (arith, h, long)) (st.bound l) in
      ap is_target (block_place 0 m.blocks (get_or z.targets l 0) named_blocks (omega arith) (omega (arith, within))) ∙ positive_target (get_or z.targets l 0) lt

  last_kept : (k : ℕ) (d : Draft) → slice_get z.done k ≡ Some d → HasTwoTargets d.last → targets_kept_at m (TheLast (settled_last (λ l. get_or z.targets l 0) d.last)) ≡ true
  last_kept k d is differ = at d.last refl differ
    where
      names : (last : Last) (l : ℕ) → d.last ≡ last → is_among (targets_of last) l ≡ true → named l z.done k ≡ true
      names last l e h = ap (λ (o : Option Draft). jumps_in o l) is ∙ ap (λ (t : Last). is_among (targets_of t) l) e ∙ h

      at : (last : Last) → d.last ≡ last → HasTwoTargets last → targets_kept_at m (TheLast (settled_last (λ l. get_or z.targets l 0) last)) ≡ true
      at (Jump label) e t = both (is_target (place_of m.blocks (get_or z.targets label 0)) && true) true (both (is_target (place_of m.blocks (get_or z.targets label 0))) true (label_target label k (names (Jump label) label e (one_target_is label))) refl) refl
      at (Branch test first second) e t =
          let nf = names (Branch test first second) first e (or_left (nat_eq first first) (nat_eq first second || false) (eq-eqb first first refl)) in
          let ns = names (Branch test first second) second e (or_right (nat_eq second first) (nat_eq second second || false) (or_left (nat_eq second second) false (eq-eqb second second refl))) in
          let f = get_or z.targets first 0 in
          let s = get_or z.targets second 0 in
          both (is_target (place_of m.blocks f) && (is_target (place_of m.blocks s) && true)) (not (nat_eq f s || false) && true)
          (both (is_target (place_of m.blocks f)) (is_target (place_of m.blocks s) && true) (label_target first k nf) (both (is_target (place_of m.blocks s)) true (label_target second k ns) refl))
          (ap (λ (b : Bool). not (b || false) && true) (ne_eqb f s (λ h. t (st.own first second (st.mention first k nf) h))))
      at (Return code) e t = refl

  lasts_kept : (j : ℕ) (ds : List Draft) → ((i : ℕ) → slice_get z.done (j + i) ≡ slice_get ds i) → AllByRecursion (λ (d : Draft). HasTwoTargets d.last) ds → (lates : ℕ → List Phi) → AllByRecursion (λ (b : ModuleBlock). targets_kept_at m (TheLast b.last) ≡ true) (settled_from (λ l. get_or z.targets l 0) lates j ds)
  lasts_kept j [] same all lates = tt
  lasts_kept j (d ∷ ds) same all lates =
      let here : j ≡ j + 0 = omega arith in
      (last_kept j d (ap (slice_get z.done) here ∙ same 0) all.0, lasts_kept (suc j) ds (λ i. let next : suc j + i ≡ j + suc i = omega arith in ap (slice_get z.done) next ∙ same (suc i)) all.1 lates)

pub targets_rule : WaysCarry → SameWhereNotDiffer → (core : Core) (coder : Coder) → IsLowerable core coder → IsKept (lowered core coder) targets_kept
targets_rule carry keeps core coder l =
    let m = lowered core coder in
    let z = whole_work core coder in
    let labels : ℕ → ℕ = λ k. get_or z.targets k 0 in
    let lates = late_phis core coder in
    let st = labels_settled carry keeps core coder l in
    let differ = walk_program carry keeps core coder l EachEnds EachHasTwo (end_steps core lates) (record { done = tt; now = (refl, tt) }) (λ v is s. has_two v.done s.done) (λ v o is c s. all_append (λ (d : Draft). HasTwoTargets d.last) v.done (record { phis = o.phis; body = o.body ++ map (record_call o.values) core.outputs; last = Return (pos 0) } ∷ []) (has_two v.done s.done) (tt, tt)) in
    let lasts = lasts_kept m z (settled_names labels lates 0 z.done) (settled_long labels lates 0 z.done) st 0 z.done (λ i. let none : 0 + i ≡ i = omega arith in ap (slice_get z.done) none) differ lates in
    kept_by_lasts m targets_kept (targets_kept_at m) (λ s. refl) (λ p. refl) (λ i. refl) lasts
