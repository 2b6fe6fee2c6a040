-- While a statement is lowered, the ways to each open label are the drafts that name it, and every other label that is
-- named has its block.
use Rattle.std.proofs.Common.{◌≡◌, ◌≢◌, ℕ, zero, suc, ◌+◌, ◌<◌, ◌≤◌, ◌⊎◌, inl, inr, ⊎_elim, Bool, true, false, List, [], ◌∷◌, ◌++◌, length, get_or, Option, Some, None, refl, sym, ap, ◌∙◌, subst, arith, length-append, length-set, get_or-set_same, get_or-set_other, eq-eqb}
use Rattle.std.specs.Prelude.{slice_set, if◌then◌else◌}
use Rattle.std.proofs.lemmas.List.{get_or_at}
use Rattle.qir_module.specs.declared.instruction.Last.TheVariants.{Jump}
use Rattle.core_ir.specs.declared.expression.CellKind.{CellKind}
use Rattle.phi_place.specs.State.{CellState}
use Rattle.block_graph.specs.Work.{Draft, Level, Open, Work}
use Rattle.block_graph.specs.Lowering.{closed, close, way_of, label_at, when_open, leave_work, again_work, join_work, open_end, close_end, open_loop, close_start}
use Rattle.block_graph.proofs.Jumps.{IsIn, once, named, times, named_within, named_kept, Exact, labels_of, EachBelow, below_in, label_in, add_labels, one_target, one_target_eq, Pending, pending_push, pending_more, pending_leave, pending_again, Settled, settled_push, settled_same, settled_set, settled_drop}
use Rattle.block_graph.proofs.Moving.{SameLevels}

-- one more than the last block that was blocks_opened
abbrev pub blocks_opened : Option Open → ℕ → ℕ
blocks_opened None n = n
blocks_opened (Some o) n = suc n

abbrev pub waits : (ℕ → Type 0) → Work → ℕ → Type 0
waits P w l = P l ⊎ IsIn l (labels_of w.ends) ⊎ IsIn l (labels_of w.starts)

-- P says which labels beside those of the levels are open
pub record Table (P : ℕ → Type 0) (w : Work) : Type 0 where
  pub pending : Pending w.done (length w.targets) w.ends w.starts
  pub settled : Settled w.done (λ l. get_or w.targets l 0) (blocks_opened w.now (length w.done)) (waits P w)

-- labels from before that are not open are named no more
pub record Frame (w v : Work) : Type 0 where
  pub by : (l : ℕ) → l < length w.targets → (IsIn l (labels_of w.ends) → ⊥) → (IsIn l (labels_of w.starts) → ⊥) → (k : ℕ) → named l v.done k ≡ named l w.done k

pub record Jumped (P : ℕ → Type 0) (w v : Work) : Type 0 where
  pub table : Table P v
  pub frame : Frame w v

pub same_labels : (ls ks : List Level) → SameLevels ls ks → labels_of ks ≡ labels_of ls
same_labels [] [] a = refl
same_labels [] (k ∷ ks) a = absurd a
same_labels (l ∷ ls) [] a = absurd a
same_labels (l ∷ ls) (k ∷ ks) a = ap (λ x. x ∷ labels_of ks) a.0 ∙ ap (λ x. l.label ∷ x) (same_labels ls ks a.3)

pub frame_then : (w u v : Work) → length w.targets ≤ length u.targets → SameLevels w.ends u.ends → SameLevels w.starts u.starts → Frame w u → Frame u v → Frame w v
frame_then w u v le se sh a b = record { by = λ l lt ne nh k. b.by l (omega (arith, lt, le)) (λ i. ne (subst (IsIn l) (same_labels w.ends u.ends se) i)) (λ i. nh (subst (IsIn l) (same_labels w.starts u.starts sh) i)) k ∙ a.by l lt ne nh k }

-- where no draft is added
pub same_frame : (w v : Work) → v.done ≡ w.done → Frame w v
same_frame w v e = record { by = λ l lt ne nh k. ap (λ d. named l d k) e }

pub jumped_same : (P : ℕ → Type 0) (w : Work) → Table P w → Jumped P w w
jumped_same P w t = record { table = t; frame = same_frame w w refl }

pub opened_le : (n : Option Open) (k : ℕ) → blocks_opened n k ≤ suc k
opened_le None k = omega arith
opened_le (Some o) k = omega arith

pub opened_is : (w : Work) (n : Option Open) → w.now ≡ n → blocks_opened w.now (length w.done) ≡ blocks_opened n (length w.done)
opened_is w n e = ap (λ x. blocks_opened x (length w.done)) e

pub jumped_when : (P : ℕ → Type 0) (n : Option Open) (w : Work) (f : Open → Work) → w.now ≡ n → Table P w → ((o : Open) → w.now ≡ Some o → Jumped P w (f o)) → Jumped P w (when_open n w f)
jumped_when P None w f e t next = jumped_same P w t
jumped_when P (Some o) w f e t next = next o e

-- code in the open block
pub straight_jumped : (P : ℕ → Type 0) (w : Work) (o : Open) (next results : ℕ) → Table P w → Jumped P w (record w { now = Some o; next = next; results = results })
straight_jumped P w o next results t = record { table = record { pending = t.pending; settled = settled_same w.done (λ l. get_or w.targets l 0) (λ l. get_or w.targets l 0) (blocks_opened w.now (length w.done)) (suc (length w.done)) (waits P w) (waits P w) (λ l. refl) (opened_le w.now (length w.done)) (λ l i. i) t.settled }; frame = record { by = λ l lt ne nh k. refl } }

pub pushed : (done : List Draft) (d : Draft) → length (done ++ d ∷ []) ≡ suc (length done)
pushed done d = omega (arith, length-append done (d ∷ []))

pub opened_push : (n : Option Open) (done : List Draft) (d : Draft) → blocks_opened n (length done) ≤ length (done ++ d ∷ [])
opened_push n done d = let a = opened_le n (length done) in let b = pushed done d in omega (arith, a, b)

pub leave_jumped : (P : ℕ → Type 0) (k : ℕ) (w : Work) (o : Open) → k < length w.ends → Table P w → Jumped P w (leave_work k w o)
leave_jumped P k w o lt t =
    let d = closed o (Jump (label_at w.ends k)) in
    let same = add_labels w.ends k (way_of w o) in
    let at = label_in w.ends k lt in
    record {
      table = record {
        pending = pending_leave w.done (length w.targets) w.ends w.starts d k (way_of w o) refl refl lt t.pending;
        settled = settled_same (w.done ++ d ∷ []) (λ l. get_or w.targets l 0) (λ l. get_or w.targets l 0) (length (w.done ++ d ∷ [])) (length (w.done ++ d ∷ [])) (waits P w) (waits P (leave_work k w o)) (λ l. refl) (omega arith) (λ l i. ⊎_elim (λ h. inl h) (λ h. ⊎_elim (λ j. inr (inl (subst (IsIn l) (sym same) j))) (λ j. inr (inr j)) h) i) (settled_push w.done (λ l. get_or w.targets l 0) (blocks_opened w.now (length w.done)) (length (w.done ++ d ∷ [])) (waits P w) d (opened_push w.now w.done d) (λ l e. inr (inr (inl (subst (λ x. IsIn x (labels_of w.ends)) (sym (one_target_eq (label_at w.ends k) l e)) at)))) t.settled);
      };
      frame = record { by = λ l below ne nh j. named_kept l w.done d j (one_target (label_at w.ends k) l (λ h. ne (subst (λ x. IsIn x (labels_of w.ends)) h at))) };
    }

pub again_jumped : (P : ℕ → Type 0) (k : ℕ) (w : Work) (o : Open) → k < length w.starts → Table P w → Jumped P w (again_work k w o)
again_jumped P k w o lt t =
    let d = closed o (Jump (label_at w.starts k)) in
    let same = add_labels w.starts k (way_of w o) in
    let at = label_in w.starts k lt in
    record {
      table = record {
        pending = pending_again w.done (length w.targets) w.ends w.starts d k (way_of w o) refl refl lt t.pending;
        settled = settled_same (w.done ++ d ∷ []) (λ l. get_or w.targets l 0) (λ l. get_or w.targets l 0) (length (w.done ++ d ∷ [])) (length (w.done ++ d ∷ [])) (waits P w) (waits P (again_work k w o)) (λ l. refl) (omega arith) (λ l i. ⊎_elim (λ h. inl h) (λ h. ⊎_elim (λ j. inr (inl j)) (λ j. inr (inr (subst (IsIn l) (sym same) j))) h) i) (settled_push w.done (λ l. get_or w.targets l 0) (blocks_opened w.now (length w.done)) (length (w.done ++ d ∷ [])) (waits P w) d (opened_push w.now w.done d) (λ l e. inr (inr (inr (subst (λ x. IsIn x (labels_of w.starts)) (sym (one_target_eq (label_at w.starts k) l e)) at)))) t.settled);
      };
      frame = record { by = λ l below ne nh j. named_kept l w.done d j (one_target (label_at w.starts k) l (λ h. nh (subst (λ x. IsIn x (labels_of w.starts)) h at))) };
    }

-- a jump to a label that is open, and no level's
pub fall_jumped : (P : ℕ → Type 0) (label : ℕ) (v : Work) (n : Option Open) → v.now ≡ n → P label → label < length v.targets → (IsIn label (labels_of v.ends) → ⊥) → (IsIn label (labels_of v.starts) → ⊥) → Table P v → Table P (when_open n v (λ o. close v o (Jump label)))
fall_jumped P label v None e p lt ne nh t = t
fall_jumped P label v (Some o) e p lt ne nh t =
    let d = closed o (Jump label) in
    record {
      pending = pending_push v.done (length v.targets) v.ends v.starts d (λ l i. let h = one_target_eq label l i in (subst (λ x. x < length v.targets) (sym h) lt, (λ j. ne (subst (λ x. IsIn x (labels_of v.ends)) h j)), (λ j. nh (subst (λ x. IsIn x (labels_of v.starts)) h j)))) t.pending;
      settled = settled_push v.done (λ l. get_or v.targets l 0) (blocks_opened v.now (length v.done)) (length (v.done ++ d ∷ [])) (waits P v) d (opened_push v.now v.done d) (λ l i. inr (inl (subst P (sym (one_target_eq label l i)) p))) t.settled;
    }

-- appended zeros change no label
pub get_more : (xs ys : List ℕ) (i : ℕ) → ((j : ℕ) → get_or ys j 0 ≡ 0) → get_or (xs ++ ys) i 0 ≡ get_or xs i 0
get_more [] ys i z = z i
get_more (x ∷ xs) ys zero z = refl
get_more (x ∷ xs) ys (suc i) z = get_more xs ys i z

pub zero_one : (j : ℕ) → get_or {A = ℕ} (0 ∷ []) j 0 ≡ 0
zero_one zero = refl
zero_one (suc j) = refl

-- a label in front of zeros
pub get_front : (xs ys : List ℕ) (n i : ℕ) → i ≢ length xs → ((j : ℕ) → get_or ys j 0 ≡ 0) → get_or (xs ++ n ∷ ys) i 0 ≡ get_or xs i 0
get_front [] ys n zero ne z = absurd (ne refl)
get_front [] ys n (suc i) ne z = z i
get_front (x ∷ xs) ys n zero ne z = refl
get_front (x ∷ xs) ys n (suc i) ne z = get_front xs ys n i (λ h. ne (ap suc h)) z

pub long_one : (xs : List ℕ) → length (xs ++ 0 ∷ []) ≡ suc (length xs)
long_one xs = omega (arith, length-append xs (0 ∷ []))

pub below_not : (n : ℕ) (xs : List ℕ) (x : ℕ) → EachBelow n xs → n ≤ x → IsIn x xs → ⊥
below_not n xs x b le i = let r = below_in n xs x b i in absurd (omega (arith, r, le))

pub once_false : (b : Bool) → 0 ≡ once b → b ≡ false
once_false true e = absurd (omega (arith, e))
once_false false e = refl

pub once_true : (n : ℕ) (b : Bool) → suc n ≡ once b → b ≡ true
once_true n true e = refl
once_true n false e = absurd (omega (arith, e))

-- a label that has a way is named
pub way_named : (l : ℕ) (way : CellState) (ways : List CellState) (done : List Draft) → Exact l (way ∷ ways) done → named l done way.block ≡ true
way_named l way ways done x = once_true (times way.block ways) (named l done way.block) (sym (ap (λ b. if b then suc (times way.block ways) else times way.block ways) (eq-eqb way.block way.block refl)) ∙ x.by way.block)

pub open_end_table : (P : ℕ → Type 0) (w : Work) → Table P w → Table P (open_end w)
open_end_table P w t =
    let p = t.pending in
    let n = length w.targets in
    let long = long_one w.targets in
    let q = pending_more w.done n (length (w.targets ++ 0 ∷ [])) w.ends w.starts (omega (arith, long)) p in
    record {
      pending = record {
        ends_once = (below_not n (labels_of w.ends) n p.ends_below (omega arith), p.ends_once);
        starts_once = p.starts_once;
        apart = λ l i j. ⊎_elim (λ h. below_not n (labels_of w.starts) l p.starts_below (omega (arith, h)) j) (λ h. p.apart l h j) i;
        ends_below = (omega (arith, long), q.ends_below);
        starts_below = q.starts_below;
        ends_exact = (record { by = λ k. ap once (sym (p.fresh n k (omega arith))) }, p.ends_exact);
        starts_exact = p.starts_exact;
        fresh = q.fresh;
      };
      settled = settled_same w.done (λ l. get_or w.targets l 0) (λ l. get_or (w.targets ++ 0 ∷ []) l 0) (blocks_opened w.now (length w.done)) (blocks_opened w.now (length w.done)) (waits P w) (waits P (open_end w)) (λ l. get_more w.targets (0 ∷ []) l zero_one) (omega arith) (λ l i. ⊎_elim (λ h. inl h) (λ h. ⊎_elim (λ j. inr (inl (inr j))) (λ j. inr (inr j)) h) i) t.settled;
    }

-- the join of ways
pub join_table : (kinds : List CellKind) (P Q : ℕ → Type 0) (label : ℕ) (ways : List CellState) (x : Work) → x.now ≡ None → label < length x.targets → Pending x.done (length x.targets) x.ends x.starts → Exact label ways x.done → Settled x.done (λ l. get_or x.targets l 0) (length x.done) Q → ((l : ℕ) → Q l → (l ≡ label) ⊎ waits P x l) → Table P (join_work kinds label ways x)
join_table kinds P Q label [] x none lt p e s f = record {
  pending = p;
  settled = subst (λ n. Settled x.done (λ l. get_or x.targets l 0) (blocks_opened n (length x.done)) (waits P x)) (sym none) (settled_drop x.done (λ l. get_or x.targets l 0) (length x.done) label Q (waits P x) (λ k. once_false (named label x.done k) (e.by k)) f s);
}
join_table kinds P Q label (way ∷ ways) x none lt p e s f =
    let within = named_within label x.done way.block (way_named label way ways x.done e) in
    record {
      pending = subst (λ n. Pending x.done n x.ends x.starts) (sym (length-set x.targets label (length x.done))) p;
      settled = settled_set x.done (λ l. get_or x.targets l 0) (λ l. get_or (slice_set x.targets label (length x.done)) l 0) (length x.done) (length x.done) label Q (waits P x) (get_or-set_same x.targets label (length x.done) 0 lt) (λ l ne. get_or-set_other x.targets label l (length x.done) 0 ne) (omega arith) (omega (arith, within)) f s;
    }

pub join_done : (kinds : List CellKind) (label : ℕ) (ways : List CellState) (x : Work) → (join_work kinds label ways x).done ≡ x.done
join_done kinds label [] x = refl
join_done kinds label (way ∷ ways) x = refl

pub settled_none : (P : ℕ → Type 0) (x : Work) → x.now ≡ None → Table P x → Settled x.done (λ l. get_or x.targets l 0) (length x.done) (waits P x)
settled_none P x none t = subst (λ n. Settled x.done (λ l. get_or x.targets l 0) (blocks_opened n (length x.done)) (waits P x)) none t.settled

-- without the innermost end
pub pending_tail : (done : List Draft) (count : ℕ) (l : Level) (ls starts : List Level) → Pending done count (l ∷ ls) starts → Pending done count ls starts
pending_tail done count l ls starts p = record { ends_once = p.ends_once.1; starts_once = p.starts_once; apart = λ x i j. p.apart x (inr i) j; ends_below = p.ends_below.1; starts_below = p.starts_below; ends_exact = p.ends_exact.1; starts_exact = p.starts_exact; fresh = p.fresh }

pub end_table : (kinds : List CellKind) (P : ℕ → Type 0) (v : Work) (ls : List Level) → v.ends ≡ ls → v.now ≡ None → Table P v → Table P (close_end kinds ls v)
end_table kinds P v [] e none t = t
end_table kinds P v (l ∷ ls) e none t =
    let p = subst (λ k. Pending v.done (length v.targets) k v.starts) e t.pending in
    join_table kinds P (waits P v) l.label l.ways (record v { ends = ls }) none p.ends_below.0 (pending_tail v.done (length v.targets) l ls v.starts p) p.ends_exact.0 (settled_none P v none t) (λ x i. ⊎_elim (λ h. inr (inl h)) (λ h. ⊎_elim (λ j. ⊎_elim (λ g. inl g) (λ g. inr (inr (inl g))) (subst (λ k. IsIn x (labels_of k)) e j)) (λ j. inr (inr (inr j))) h) i)

pub end_done : (kinds : List CellKind) (v : Work) (ls : List Level) → (close_end kinds ls v).done ≡ v.done
end_done kinds v [] = refl
end_done kinds v (l ∷ ls) = join_done kinds l.label l.ways (record v { ends = ls })

-- ---- loops

pub two_zero : (j : ℕ) → get_or {A = ℕ} (0 ∷ 0 ∷ []) j 0 ≡ 0
two_zero zero = refl
two_zero (suc zero) = refl
two_zero (suc (suc j)) = refl

pub long_two : (xs : List ℕ) (a b : ℕ) → length (xs ++ a ∷ b ∷ []) ≡ suc (suc (length xs))
long_two xs a b = omega (arith, length-append xs (a ∷ b ∷ []))

pub long_three : (xs : List ℕ) (a b c : ℕ) → length (xs ++ a ∷ b ∷ c ∷ []) ≡ suc (suc (suc (length xs)))
long_three xs a b c = omega (arith, length-append xs (a ∷ b ∷ c ∷ []))

pub open_loop_table : (kinds : List CellKind) (P : ℕ → Type 0) (needs : ℕ → Bool) (w : Work) (o : Open) → w.now ≡ Some o → Table P w → Table P (open_loop kinds needs w o)
open_loop_table kinds P needs w o is t =
    let p = t.pending in
    let n = length w.targets in
    let b = length w.done + 1 in
    let new = w.targets ++ b ∷ 0 ∷ [] in
    let long = long_two w.targets b 0 in
    let d = closed o (Jump n) in
    let h0 : Level = record { label = n; block = b; ways = [] } in
    let q = pending_more w.done n (length new) w.ends w.starts (omega (arith, long)) p in
    -- the start's label, with no way yet
    let q1 : Pending w.done (length new) w.ends (h0 ∷ w.starts) = record {
      ends_once = q.ends_once;
      starts_once = (below_not n (labels_of w.starts) n p.starts_below (omega arith), q.starts_once);
      apart = λ l i j. ⊎_elim (λ h. below_not n (labels_of w.ends) l p.ends_below (omega (arith, h)) i) (λ h. p.apart l i h) j;
      ends_below = q.ends_below;
      starts_below = (omega (arith, long), q.starts_below);
      ends_exact = q.ends_exact;
      starts_exact = (record { by = λ k. ap once (sym (p.fresh n k (omega arith))) }, q.starts_exact);
      fresh = q.fresh;
    } in
    let q2 = pending_again w.done (length new) w.ends (h0 ∷ w.starts) d 0 (way_of w o) refl refl (omega arith) q1 in
    let unnamed : (k : ℕ) → named (n + 1) (w.done ++ d ∷ []) k ≡ false = λ k. named_kept (n + 1) w.done d k (one_target n (n + 1) (λ h. absurd (omega (arith, h)))) ∙ p.fresh (n + 1) k (omega arith) in
    let s1 = settled_push w.done (λ l. get_or w.targets l 0) (blocks_opened w.now (length w.done)) (suc (length w.done)) (λ l. (l ≡ n) ⊎ waits P w l) d (opened_le w.now (length w.done)) (λ l e. inr (inl (one_target_eq n l e))) (settled_same w.done (λ l. get_or w.targets l 0) (λ l. get_or w.targets l 0) (blocks_opened w.now (length w.done)) (blocks_opened w.now (length w.done)) (waits P w) (λ l. (l ≡ n) ⊎ waits P w l) (λ l. refl) (omega arith) (λ l i. inr i) t.settled) in
    let s2 = settled_set (w.done ++ d ∷ []) (λ l. get_or w.targets l 0) (λ l. get_or new l 0) (suc (length w.done)) b n (λ l. (l ≡ n) ⊎ waits P w l) (waits P w) (get_or_at w.targets b (0 ∷ []) 0 n refl) (λ l ne. get_front w.targets (0 ∷ []) b l ne zero_one) (omega arith) (omega arith) (λ l i. i) s1 in
    let dl = pushed w.done d in
    record {
      pending = record {
        ends_once = (below_not n (labels_of w.ends) (n + 1) p.ends_below (omega arith), q2.ends_once);
        starts_once = q2.starts_once;
        apart = λ l i j. ⊎_elim (λ h. ⊎_elim (λ g. absurd (omega (arith, h, g))) (λ g. below_not n (labels_of w.starts) l p.starts_below (omega (arith, h)) g) j) (λ h. q2.apart l h j) i;
        ends_below = (omega (arith, long), q2.ends_below);
        starts_below = q2.starts_below;
        ends_exact = (record { by = λ k. ap once (sym (unnamed k)) }, q2.ends_exact);
        starts_exact = q2.starts_exact;
        fresh = q2.fresh;
      };
      settled = settled_same (w.done ++ d ∷ []) (λ l. get_or new l 0) (λ l. get_or new l 0) (suc b) (suc (length (w.done ++ d ∷ []))) (waits P w) (waits P (open_loop kinds needs w o)) (λ l. refl) (omega (arith, dl)) (λ l i. ⊎_elim (λ h. inl h) (λ h. ⊎_elim (λ j. inr (inl (inr j))) (λ j. inr (inr (inr j))) h) i) s2;
    }

-- without the innermost start, which is settled
pub close_start_table : (kinds : List CellKind) (P : ℕ → Type 0) (needs : ℕ → Bool) (late next : ℕ) (v : Work) (hs : List Level) → v.starts ≡ hs → ((h : Level) (ks : List Level) → hs ≡ h ∷ ks → 0 < get_or v.targets h.label 0) → Table P v → Table P (close_start kinds needs late next hs v)
close_start_table kinds P needs late next v [] e pos t = t
close_start_table kinds P needs late next v (h ∷ hs) e pos t =
    let p = subst (λ k. Pending v.done (length v.targets) v.ends k) e t.pending in
    let s = t.settled in
    record {
      pending = record { ends_once = p.ends_once; starts_once = p.starts_once.1; apart = λ x i j. p.apart x i (inr j); ends_below = p.ends_below; starts_below = p.starts_below.1; ends_exact = p.ends_exact; starts_exact = p.starts_exact.1; fresh = p.fresh };
      settled = record {
        mention = λ l k i. ⊎_elim (λ g. inl g) (λ g. ⊎_elim (λ j. inr (inl j)) (λ j. ⊎_elim (λ r. inr (inr (inl r))) (λ r. ⊎_elim (λ y. inl (subst (λ z. 0 < get_or v.targets z 0) (sym y) (pos h hs refl))) (λ y. inr (inr (inr y))) (subst (λ z. IsIn l (labels_of z)) e r)) j) g) (s.mention l k i);
        bound = s.bound;
        inj = s.inj;
      };
    }

pub close_start_done : (kinds : List CellKind) (needs : ℕ → Bool) (late next : ℕ) (v : Work) (hs : List Level) → ((close_start kinds needs late next hs v).done ≡ v.done) × ((close_start kinds needs late next hs v).now ≡ v.now) × ((close_start kinds needs late next hs v).ends ≡ v.ends) × ((close_start kinds needs late next hs v).targets ≡ v.targets)
close_start_done kinds needs late next v [] = (refl, refl, refl, refl)
close_start_done kinds needs late next v (h ∷ hs) = (refl, refl, refl, refl)
