-- The outputs are recorded in the one block that returns, and nothing but the return stands behind them.
use Rattle.std.proofs.Common.{◌≡◌, ℕ, zero, suc, ◌+◌, ◌⊎◌, inl, inr, ⊎_elim, if◌then◌else◌, Bool, true, false, not, ◌||◌, List, [], ◌∷◌, ◌++◌, map, length, get_or, take, pos, Option, Some, None, refl, sym, ap, ◌∙◌, subst, arith, append_assoc}
use Rattle.std.specs.Prelude.{slice_get}
use Rattle.std.specs.List.{list_any, AllByRecursion}
use Rattle.qir_module.specs.declared.instruction.Operand.{Operand}
use Rattle.qir_module.specs.declared.instruction.Instr.{Instr}
use Rattle.qir_module.specs.declared.instruction.Last.{Last}
use Rattle.qir_module.specs.declared.instruction.Last.TheVariants.{Jump, Branch, Return}
use Rattle.qir_module.specs.declared.block.Phi.{Phi}
use Rattle.qir_module.specs.declared.block.Block.{Block as ModuleBlock}
use Rattle.qir_module.specs.Module.{Module}
use Rattle.qir_module.specs.Spots.{Item, ThePhi, TheInstr, TheLast, items_in, Spot}
use Rattle.qir_module.specs.Passes.{IsKept, at_first_item, is_record, returns, some_returns, return_kept, item_records_kept, records_kept}
use Rattle.core_ir.specs.declared.program.Output.{Output}
use Rattle.core_ir.specs.declared.program.Output.TheVariants.{Array as ArrayOutput, Truth as TruthOutput, Number as NumberOutput}
use Rattle.core_ir.specs.Core.{Core}
use Rattle.core_ir.specs.Tree.{program_of}
use Rattle.phi_place.specs.Phis.{WaysCarry, SameWhereNotDiffer}
use Rattle.block_graph.specs.Laws.{IsLowerable}
use Rattle.block_graph.specs.Work.{Draft, Open, Work}
use Rattle.block_graph.specs.Lowering.{Coder, record_call, first_work, lower_of, when_open, end_work, whole_work, settled_phis, settled_last, settled, settled_from, lowered}
use Rattle.block_graph.specs.Claims.{AreSilent, EndsFine}
use Rattle.block_graph.proofs.Coding.{both}
use Rattle.block_graph.proofs.Walking.{late_phis, program_settles, walk}
use Rattle.block_graph.proofs.Spotting.{spot_at, each_spot, all_middle, all_items, all_true}
use Rattle.block_graph.proofs.Ruling.{first_true, all_left}
use Rattle.block_graph.proofs.Targets.{DraftIsFine, NowIsSilent, EachEnds, end_steps}
use Rattle.block_graph.proofs.Living.{IsOpen, lives}
use Rattle.block_graph.proofs.Whole.{first_valid, program_fits}

-- ---- items that are no records

silent_items : (b : ModuleBlock) → AreSilent b.body → AllByRecursion (λ (x : Item). is_record x ≡ false) (items_in b)
silent_items b s = all_items (λ (x : Item). is_record x ≡ false) b (record { phis = all_true (λ (p : Phi). is_record (ThePhi p) ≡ false) b.phis (λ p. refl); body = s; last = refl })

none_record : (xs : List Item) → AllByRecursion (λ (x : Item). is_record x ≡ false) xs → list_any is_record xs ≡ false
none_record [] all = refl
none_record (x ∷ xs) all = ap (λ (b : Bool). b || list_any is_record xs) all.0 ∙ none_record xs all.1

-- items without a record, and then records up to the last instruction
front_silent : (xs ys front : List Item) (item : Item) (rest : List Item) → xs ++ ys ≡ front ++ item ∷ rest → AllByRecursion (λ (x : Item). is_record x ≡ false) xs → AllByRecursion (λ (y : Item). (is_record y ≡ true) ⊎ ((l : Last) × (y ≡ TheLast l))) ys
    → ((is_record item ≡ true) ⊎ ((l : Last) × (item ≡ TheLast l))) ⊎ (list_any is_record front ≡ false)
front_silent [] ys front item rest e a b = inl (all_middle (λ (y : Item). (is_record y ≡ true) ⊎ ((l : Last) × (y ≡ TheLast l))) front item rest (subst (AllByRecursion (λ (y : Item). (is_record y ≡ true) ⊎ ((l : Last) × (y ≡ TheLast l)))) e b))
front_silent (x ∷ xs) ys [] item rest e a b = inr refl
front_silent (x ∷ xs) ys (y ∷ front) item rest e a b =
    let here : x ≡ y = cc e in
    let tail : xs ++ ys ≡ front ++ item ∷ rest = cc e in
    ⊎_elim (λ h. inl h) (λ h. inr (ap (λ (c : Bool). c || list_any is_record front) (ap is_record (sym here) ∙ a.0) ∙ h)) (front_silent xs ys front item rest tail a.1 b)

record_items : (values : List Operand) (outputs : List Output) (last : Last) → AllByRecursion (λ (y : Item). (is_record y ≡ true) ⊎ ((l : Last) × (y ≡ TheLast l))) (map TheInstr (map (record_call values) outputs) ++ TheLast last ∷ [])
record_items values [] last = (inr (last, refl), tt)
record_items values (o ∷ outputs) last = (inl (one o), record_items values outputs last)
  where
    one : (o : Output) → is_record (TheInstr (record_call values o)) ≡ true
    one (ArrayOutput label size) = refl
    one (TruthOutput label c) = refl
    one (NumberOutput label c) = refl

map_append : (xs ys : List Instr) → map TheInstr (xs ++ ys) ≡ map TheInstr xs ++ map TheInstr ys
map_append [] ys = refl
map_append (x ∷ xs) ys = ap (λ (l : List Item). TheInstr x ∷ l) (map_append xs ys)

-- ---- returns

not_return : (labels : ℕ → ℕ) (last : Last) → EndsFine last → returns (settled_last labels last) ≡ false
not_return labels (Jump label) e = refl
not_return labels (Branch test first second) e = refl
not_return labels (Return code) e = absurd e

none_return : (labels : ℕ → ℕ) (lates : ℕ → List Phi) (k : ℕ) (ds more : List Draft) → AllByRecursion DraftIsFine ds → some_returns (take (length ds) (settled_from labels lates k (ds ++ more))) ≡ false
none_return labels lates k [] more all = refl
none_return labels lates k (d ∷ ds) more all = ap (λ (b : Bool). b || some_returns (take (length ds) (settled_from labels lates (suc k) (ds ++ more)))) (not_return labels d.last all.0.1) ∙ none_return labels lates (suc k) ds more all.1

last_returns : (labels : ℕ → ℕ) (lates : ℕ → List Phi) (k : ℕ) (ds : List Draft) (d : Draft) → d.last ≡ Return (pos 0) → some_returns (settled_from labels lates k (ds ++ d ∷ [])) ≡ true
last_returns labels lates k [] d e = ap (λ (l : Last). returns (settled_last labels l) || false) e
last_returns labels lates k (x ∷ ds) d e = at (returns (settled_last labels x.last)) (last_returns labels lates (suc k) ds d e)
  where
    at : (b : Bool) → some_returns (settled_from labels lates (suc k) (ds ++ d ∷ [])) ≡ true → (b || some_returns (settled_from labels lates (suc k) (ds ++ d ∷ []))) ≡ true
    at true h = refl
    at false h = h

-- a block of a statement, or the last one
record PlaceOf (labels : ℕ → ℕ) (lates : ℕ → List Phi) (j : ℕ) (ds : List Draft) (last : Draft) (k : ℕ) (b : ModuleBlock) : Type 0 where
  draft : Draft
  is : b ≡ settled labels lates (j + k) draft
  fine : DraftIsFine draft ⊎ ((draft ≡ last) × (k ≡ length ds))

place_of_block : (labels : ℕ → ℕ) (lates : ℕ → List Phi) (j : ℕ) (ds : List Draft) (last : Draft) (k : ℕ) (b : ModuleBlock) → AllByRecursion DraftIsFine ds → slice_get (settled_from labels lates j (ds ++ last ∷ [])) k ≡ Some b → PlaceOf labels lates j ds last k b
place_of_block labels lates j [] last zero b all e = let z : j ≡ j + 0 = omega arith in let here : settled labels lates j last ≡ b = cc e in record { draft = last; is = sym here ∙ ap (λ (n : ℕ). settled labels lates n last) z; fine = inr (refl, refl) }
place_of_block labels lates j [] last (suc k) b all e = absurd (cc e)
place_of_block labels lates j (d ∷ ds) last zero b all e = let z : j ≡ j + 0 = omega arith in let here : settled labels lates j d ≡ b = cc e in record { draft = d; is = sym here ∙ ap (λ (n : ℕ). settled labels lates n d) z; fine = inl all.0 }
place_of_block labels lates j (d ∷ ds) last (suc k) b all e =
    let r = place_of_block labels lates (suc j) ds last k b all.1 e in
    let z : suc j + k ≡ j + suc k = omega arith in
    record { draft = r.draft; is = r.is ∙ ap (λ (n : ℕ). settled labels lates n r.draft) z; fine = ⊎_elim (λ h. inl h) (λ h. inr (h.0, ap suc h.1)) r.fine }

-- ---- the rule

abbrev LastIsKept : Module → ℕ → Item → Type 0
LastIsKept m k (ThePhi p) = Unit {0}
LastIsKept m k (TheInstr i) = Unit {0}
LastIsKept m k (TheLast last) = return_kept m k last ≡ true

-- the whole, with its last block
record IsEndedWith (core : Core) (z : Work) : Type 0 where
  before : List Draft
  fine : AllByRecursion DraftIsFine before
  open_block : Open
  silent : AreSilent open_block.body
  done : z.done ≡ before ++ record { phis = open_block.phis; body = open_block.body ++ map (record_call open_block.values) core.outputs; last = Return (pos 0) } ∷ []

whole_ended : WaysCarry → SameWhereNotDiffer → (core : Core) (coder : Coder) → IsLowerable core coder → IsEndedWith core (whole_work core coder)
whole_ended carry keeps core coder l =
    let w = first_work (length core.cells) in
    let v = lower_of core coder (program_of core) w in
    let fit = program_fits core l.fits l.held in
    let levels = l.fits.well_formed.levels in
    let s = walk carry keeps core coder l.coder_fits (late_phis core coder) EachEnds (end_steps core (late_phis core coder)) (program_of core) w fit levels (first_valid core.cells) (program_settles core coder) (record { done = tt; now = (refl, tt) }) in
    let alive = (lives carry keeps core coder l.coder_fits (program_of core) w fit levels (first_valid core.cells) tt).now l.fits.end_reached in
    at v v.now refl alive s
  where
    at : (v : Work) (now : Option Open) → v.now ≡ now → IsOpen v.now → EachEnds v → IsEndedWith core (when_open now v (end_work core.outputs v))
    at v None is alive s = absurd (subst IsOpen is alive)
    at v (Some o) is alive s = record { before = v.done; fine = s.done; open_block = o; silent = subst NowIsSilent is s.now; done = refl }

module _ (m : Module) (core : Core) (labels : ℕ → ℕ) (lates : ℕ → List Phi) (z : Work) (ended : IsEndedWith core z) (blocks : m.blocks ≡ settled_from labels lates 0 z.done) where
  abbrev final : Draft
  final = record { phis = ended.open_block.phis; body = ended.open_block.body ++ map (record_call ended.open_block.values) core.outputs; last = Return (pos 0) }

  all_blocks : m.blocks ≡ settled_from labels lates 0 (ended.before ++ final ∷ [])
  all_blocks = blocks ∙ ap (settled_from labels lates 0) ended.done

  one_returns : some_returns m.blocks ≡ true
  one_returns = ap some_returns all_blocks ∙ last_returns labels lates 0 ended.before final refl

  last_fine : (k : ℕ) (last : Last) → returns last ≡ false → return_kept m k last ≡ true
  last_fine k (Jump to) r = refl
  last_fine k (Branch test first second) r = refl
  last_fine k (Return code) r = absurd (cc r)

  items_last : (k : ℕ) (b : ModuleBlock) → return_kept m k b.last ≡ true → AllByRecursion (LastIsKept m k) (items_in b)
  items_last k b e = all_items (LastIsKept m k) b (record { phis = all_true (λ (p : Phi). LastIsKept m k (ThePhi p)) b.phis (λ p. tt); body = all_true (λ (i : Instr). LastIsKept m k (TheInstr i)) b.body (λ i. tt); last = e })

  -- in a block of a statement
  statement_item : (k : ℕ) (b : ModuleBlock) (front : List Item) (item : Item) → is_record item ≡ false → list_any is_record front ≡ false → LastIsKept m k item → item_records_kept m (spot_at k b front item) item ≡ true
  statement_item k b front (ThePhi p) r f l = refl
  statement_item k b front (TheInstr i) r f l = ap (λ (c : Bool). if c then returns b.last else not (list_any is_record front)) r ∙ ap not f
  statement_item k b front (TheLast last) r f l = l

  -- in the block that returns
  final_item : (k : ℕ) (b : ModuleBlock) (front : List Item) (item : Item) → returns b.last ≡ true → ((is_record item ≡ true) ⊎ ((l : Last) × (item ≡ TheLast l))) ⊎ (list_any is_record front ≡ false) → LastIsKept m k item → item_records_kept m (spot_at k b front item) item ≡ true
  final_item k b front (ThePhi p) r h l = refl
  final_item k b front (TheInstr i) r h l = at (is_record (TheInstr i)) refl h
    where
      at : (c : Bool) → is_record (TheInstr i) ≡ c → ((is_record (TheInstr i) ≡ true) ⊎ ((l : Last) × (TheInstr i ≡ TheLast l))) ⊎ (list_any is_record front ≡ false) → (if c then returns b.last else not (list_any is_record front)) ≡ true
      at true e h = r
      at false e (inl (inl q)) = absurd (cc (e, q))
      at false e (inl (inr q)) = absurd (cc q.1)
      at false e (inr q) = ap not q
  final_item k b front (TheLast last) r h l = l

  at_block : (k : ℕ) (b : ModuleBlock) → slice_get m.blocks k ≡ Some b → (front : List Item) (item : Item) (rest : List Item) → items_in b ≡ front ++ item ∷ rest → item_records_kept m (spot_at k b front item) item ≡ true
  at_block k b is front item rest e =
      let p = place_of_block labels lates 0 ended.before final k b ended.fine (ap (λ (l : List ModuleBlock). slice_get l k) (sym all_blocks) ∙ is) in
      ⊎_elim (λ (fine : DraftIsFine p.draft).
      let silent = subst (AllByRecursion (λ (x : Item). is_record x ≡ false)) e (silent_items b (subst AreSilent (sym (ap (λ (x : ModuleBlock). x.body) p.is)) fine.0)) in
      let last = items_last k b (last_fine k b.last (ap (λ (x : ModuleBlock). returns x.last) p.is ∙ not_return labels p.draft.last fine.1)) in
      statement_item k b front item (all_middle (λ (x : Item). is_record x ≡ false) front item rest silent) (none_record front (all_left (λ (x : Item). is_record x ≡ false) front (item ∷ rest) silent).0) (all_middle (LastIsKept m k) front item rest (subst (AllByRecursion (LastIsKept m k)) e last)))
      (λ (h : (p.draft ≡ final) × (k ≡ length ended.before)).
      let same : b ≡ settled labels lates (0 + k) final = p.is ∙ ap (settled labels lates (0 + k)) h.0 in
      let none : some_returns (take k m.blocks) ≡ false = ap (λ (n : ℕ). some_returns (take n m.blocks)) h.1 ∙ ap (λ (l : List ModuleBlock). some_returns (take (length ended.before) l)) all_blocks ∙ none_return labels lates 0 ended.before (final ∷ []) ended.fine in
      let last = items_last k b (ap (λ (x : ModuleBlock). return_kept m k x.last) same ∙ ap not none) in
      let parts : items_in b ≡ (map ThePhi (settled_phis lates ended.open_block.phis) ++ map TheInstr ended.open_block.body) ++ (map TheInstr (map (record_call ended.open_block.values) core.outputs) ++ TheLast (Return (pos 0)) ∷ []) =
      ap items_in same
      ∙ ap (λ (l : List Item). (map ThePhi (settled_phis lates ended.open_block.phis) ++ l) ++ TheLast (Return (pos 0)) ∷ []) (map_append ended.open_block.body (map (record_call ended.open_block.values) core.outputs))
      ∙ ap (λ (l : List Item). l ++ TheLast (Return (pos 0)) ∷ []) (sym (append_assoc (map ThePhi (settled_phis lates ended.open_block.phis)) (map TheInstr ended.open_block.body) (map TheInstr (map (record_call ended.open_block.values) core.outputs))))
      ∙ append_assoc (map ThePhi (settled_phis lates ended.open_block.phis) ++ map TheInstr ended.open_block.body) (map TheInstr (map (record_call ended.open_block.values) core.outputs)) (TheLast (Return (pos 0)) ∷ []) in
      let quiet : AllByRecursion (λ (x : Item). is_record x ≡ false) (map ThePhi (settled_phis lates ended.open_block.phis) ++ map TheInstr ended.open_block.body) = (all_left (λ (x : Item). is_record x ≡ false) (map ThePhi (settled_phis lates ended.open_block.phis) ++ map TheInstr ended.open_block.body) (TheLast (Return (pos 0)) ∷ []) (silent_items (record { name = 0; phis = settled_phis lates ended.open_block.phis; body = ended.open_block.body; last = Return (pos 0) }) ended.silent)).0 in
      final_item k b front item (ap (λ (x : ModuleBlock). returns x.last) same) (front_silent (map ThePhi (settled_phis lates ended.open_block.phis) ++ map TheInstr ended.open_block.body) (map TheInstr (map (record_call ended.open_block.values) core.outputs) ++ TheLast (Return (pos 0)) ∷ []) front item rest (sym parts ∙ e) quiet (record_items ended.open_block.values core.outputs (Return (pos 0)))) (all_middle (LastIsKept m k) front item rest (subst (AllByRecursion (LastIsKept m k)) e last))) p.fine

  whole_rule : IsKept m records_kept
  whole_rule = each_spot (λ (s : Spot). records_kept m s ≡ true) m (λ k b is front item rest e. both (at_first_item (spot_at k b front item) (some_returns m.blocks)) (item_records_kept m (spot_at k b front item) item) (first_true (spot_at k b front item) (some_returns m.blocks) one_returns) (at_block k b is front item rest e))

pub records_rule : WaysCarry → SameWhereNotDiffer → (core : Core) (coder : Coder) → IsLowerable core coder → IsKept (lowered core coder) records_kept
records_rule carry keeps core coder l =
    let z = whole_work core coder in
    whole_rule (lowered core coder) core (λ k. get_or z.targets k 0) (late_phis core coder) z (whole_ended carry keeps core coder l) refl
