-- How the graph that is being made changes, and where its blocks stand in the final module.
use Rattle.std.proofs.Common.{◌≡◌, ℕ, zero, suc, ◌<◌, ◌≤◌, inl, inr, List, [], ◌∷◌, ◌++◌, map, length, get_or, Option, Some, None, refl, sym, ap, ◌∙◌, subst, arith, append_assoc, append-nil, length-append, length-set, get_or-set_other}
use Rattle.std.specs.Prelude.{slice_get, slice_set}
use Rattle.std.proofs.lemmas.List.{get_or_append_left}
use Rattle.qir_module.specs.declared.block.Phi.{Phi}
use Rattle.qir_module.specs.Module.{Module}
use Rattle.core_ir.specs.declared.expression.CellKind.{CellKind}
use Rattle.core_ir.specs.Core.{Core}
use Rattle.core_ir.specs.Tree.{Stmt, Seq}
use Rattle.phi_place.specs.State.{CellState}
use Rattle.phi_place.specs.Phis.{IsAmong}
use Rattle.expr_lower.specs.Lowered.{AreCells}
use Rattle.block_graph.specs.Work.{PhiPart, Draft, Level, Open, Work}
use Rattle.block_graph.specs.Lowering.{add_way, label_at, settled_phis, settled}
use Rattle.block_graph.specs.Stretch.{Place, Leads, end_at, start_at, Low}
use Rattle.block_graph.proofs.Cells.{WaysFit, ways_more, ways_last}

-- ---- what is true of the graph at each moment

-- the ways of each level
abbrev pub LevelsFit : List CellKind → ℕ → ℕ → List Level → Type 0
LevelsFit kinds x bound [] = Unit {0}
LevelsFit kinds x bound (l ∷ ls) = WaysFit kinds x bound l.ways × LevelsFit kinds x bound ls

pub levels_more : (kinds : List CellKind) (x y bound more : ℕ) (ls : List Level) → x ≤ y → bound ≤ more → LevelsFit kinds x bound ls → LevelsFit kinds y more ls
levels_more kinds x y bound more [] le lb ok = tt
levels_more kinds x y bound more (l ∷ ls) le lb ok = (ways_more kinds x y bound more l.ways le lb ok.0, levels_more kinds x y bound more ls le lb ok.1)

-- the starts of the enclosing loops stand before the bound
abbrev pub StartsStand : ℕ → List Level → Type 0
StartsStand bound [] = Unit {0}
StartsStand bound (l ∷ ls) = (l.block ≤ bound) × StartsStand bound ls

pub stand_more : (bound more : ℕ) (ls : List Level) → bound ≤ more → StartsStand bound ls → StartsStand more ls
stand_more bound more [] le ok = tt
stand_more bound more (l ∷ ls) le ok = (omega (arith, le, ok.0), stand_more bound more ls le ok.1)

abbrev pub NowFits : List CellKind → ℕ → Option Open → Type 0
NowFits kinds x None = Unit {0}
NowFits kinds x (Some o) = AreCells kinds x o.values

pub record IsValid (kinds : List CellKind) (w : Work) : Type 0 where
  pub now : NowFits kinds w.next w.now
  pub ends : LevelsFit kinds w.next (length w.done) w.ends
  pub starts : LevelsFit kinds w.next (length w.done) w.starts
  pub stand : StartsStand (length w.done) w.starts

pub add_fits : (kinds : List CellKind) (x bound more : ℕ) (ls : List Level) (k : ℕ) (way : CellState) → bound ≤ way.block → way.block < more → AreCells kinds x way.values → LevelsFit kinds x bound ls → LevelsFit kinds x more (add_way ls k way)
add_fits kinds x bound more [] k way le lt a ok = tt
add_fits kinds x bound more (l ∷ ls) zero way le lt a ok = (ways_last kinds x bound more l.ways way le lt a ok.0, levels_more kinds x x bound more ls (omega arith) (omega (arith, le, lt)) ok.1)
add_fits kinds x bound more (l ∷ ls) (suc k) way le lt a ok = (ways_more kinds x x bound more l.ways (omega arith) (omega (arith, le, lt)) ok.0, add_fits kinds x bound more ls k way le lt a ok.1)

pub stand_add : (bound : ℕ) (ls : List Level) (k : ℕ) (way : CellState) → StartsStand bound ls → StartsStand bound (add_way ls k way)
stand_add bound [] k way s = tt
stand_add bound (l ∷ ls) zero way s = s
stand_add bound (l ∷ ls) (suc k) way s = (s.0, stand_add bound ls k way s.1)

-- ---- levels with further ways

abbrev pub SameLevels : List Level → List Level → Type 0
SameLevels [] [] = Unit {0}
SameLevels [] (k ∷ ks) = ⊥
SameLevels (l ∷ ls) [] = ⊥
SameLevels (l ∷ ls) (k ∷ ks) = (k.label ≡ l.label) × (k.block ≡ l.block) × ((more : List CellState) × (k.ways ≡ l.ways ++ more)) × SameLevels ls ks

pub same_levels : (ls : List Level) → SameLevels ls ls
same_levels [] = tt
same_levels (l ∷ ls) = (refl, refl, ([], sym (append-nil l.ways)), same_levels ls)

pub same_then : (ls ks js : List Level) → SameLevels ls ks → SameLevels ks js → SameLevels ls js
same_then [] [] [] a b = tt
same_then [] [] (j ∷ js) a b = absurd b
same_then [] (k ∷ ks) js a b = absurd a
same_then (l ∷ ls) [] js a b = absurd a
same_then (l ∷ ls) (k ∷ ks) [] a b = absurd b
same_then (l ∷ ls) (k ∷ ks) (j ∷ js) a b = (b.0 ∙ a.0, b.1 ∙ a.1, (a.2.0 ++ b.2.0, b.2.1 ∙ ap (λ (z : List CellState). z ++ b.2.0) a.2.1 ∙ append_assoc l.ways a.2.0 b.2.0), same_then ls ks js a.3 b.3)

pub same_length : (ls ks : List Level) → SameLevels ls ks → length ks ≡ length ls
same_length [] [] a = refl
same_length [] (k ∷ ks) a = absurd a
same_length (l ∷ ls) [] a = absurd a
same_length (l ∷ ls) (k ∷ ks) a = ap suc (same_length ls ks a.3)

pub add_same : (ls : List Level) (k : ℕ) (way : CellState) → SameLevels ls (add_way ls k way)
add_same [] k way = tt
add_same (l ∷ ls) zero way = (refl, refl, (way ∷ [], refl), same_levels ls)
add_same (l ∷ ls) (suc k) way = (refl, refl, ([], sym (append-nil l.ways)), add_same ls k way)

-- ---- tables that grow

pub record Grows {A : Type 0} (old new : List A) (d : A) : Type 0 where
  pub long : length old ≤ length new
  pub same : (l : ℕ) → l < length old → get_or new l d ≡ get_or old l d

pub grows_refl : {A : Type 0} (old : List A) (d : A) → Grows old old d
grows_refl old d = record { long = omega arith; same = λ l lt. refl }

pub grows_then : {A : Type 0} (a b c : List A) (d : A) → Grows a b d → Grows b c d → Grows a c d
grows_then a b c d g h = record { long = omega (arith, g.long, h.long); same = λ l lt. h.same l (omega (arith, lt, g.long)) ∙ g.same l lt }

pub grows_more : {A : Type 0} (old more : List A) (d : A) → Grows old (old ++ more) d
grows_more old more d = record { long = omega (arith, length-append old more); same = λ l lt. get_or_append_left old more d l lt }

-- a place of its own is set
pub grows_set : {A : Type 0} (old new : List A) (d : A) (l : ℕ) (v : A) → length old ≤ l → Grows old new d → Grows old (slice_set new l v) d
grows_set old new d l v le g = record { long = omega (arith, g.long, length-set new l v); same = λ k lt. get_or-set_other new l k v d (λ e. absurd (omega (arith, e, lt, le))) ∙ g.same k lt }

-- what was settled of a table between two moments stands in the final one
pub record Settles {A : Type 0} (old new : List A) (final : ℕ → A) (d : A) : Type 0 where
  pub by : (l : ℕ) → length old ≤ l → l < length new → final l ≡ get_or new l d

pub settles_left : {A : Type 0} (a b c : List A) (final : ℕ → A) (d : A) → Grows b c d → Settles a c final d → Settles a b final d
settles_left a b c final d g s = record { by = λ l le lt. s.by l le (omega (arith, lt, g.long)) ∙ g.same l lt }

pub settles_right : {A : Type 0} (a b c : List A) (final : ℕ → A) (d : A) → Grows a b d → Settles a c final d → Settles b c final d
settles_right a b c final d g s = record { by = λ l le lt. s.by l (omega (arith, le, g.long)) lt }

-- ---- where ways lead, in the final module

abbrev pub EachForward : List CellKind → Module → List CellState → Place → Type 0
EachForward kinds m [] to = Unit {0}
EachForward kinds m (w ∷ ws) to = (w.block < to.block) × Leads kinds m w.block w.values to × EachForward kinds m ws to

abbrev pub EachLeads : List CellKind → Module → List CellState → Place → Type 0
EachLeads kinds m [] to = Unit {0}
EachLeads kinds m (w ∷ ws) to = Leads kinds m w.block w.values to × EachLeads kinds m ws to

abbrev pub EndGoes : List CellKind → Module → (ℕ → ℕ) → ℕ → List CellState → Option Place → Type 0
EndGoes kinds m labels label ways None = ways ≡ []
EndGoes kinds m labels label ways (Some to) = (to.block ≡ labels label) × EachForward kinds m ways to

abbrev pub EndsGo : List CellKind → Module → (ℕ → ℕ) → List Level → List (Option Place) → Type 0
EndsGo kinds m labels [] es = Unit {0}
EndsGo kinds m labels (l ∷ ls) [] = ⊥
EndsGo kinds m labels (l ∷ ls) (e ∷ es) = EndGoes kinds m labels l.label l.ways e × EndsGo kinds m labels ls es

abbrev pub StartGoes : List CellKind → Module → (ℕ → ℕ) → Level → Place → Type 0
StartGoes kinds m labels l to = (to.block ≡ labels l.label) × (to.block ≡ l.block) × EachLeads kinds m l.ways to

abbrev pub StartsGo : List CellKind → Module → (ℕ → ℕ) → List Level → List Place → Type 0
StartsGo kinds m labels [] hs = Unit {0}
StartsGo kinds m labels (l ∷ ls) [] = ⊥
StartsGo kinds m labels (l ∷ ls) (h ∷ hs) = StartGoes kinds m labels l h × StartsGo kinds m labels ls hs

pub forward_less : (kinds : List CellKind) (m : Module) (to : Place) (ws more : List CellState) → EachForward kinds m (ws ++ more) to → EachForward kinds m ws to
forward_less kinds m to [] more g = tt
forward_less kinds m to (w ∷ ws) more g = (g.0, g.1, forward_less kinds m to ws more g.2)

forward_rest : (kinds : List CellKind) (m : Module) (to : Place) (ws more : List CellState) → EachForward kinds m (ws ++ more) to → EachForward kinds m more to
forward_rest kinds m to [] more g = g
forward_rest kinds m to (w ∷ ws) more g = forward_rest kinds m to ws more g.2

pub leads_less : (kinds : List CellKind) (m : Module) (to : Place) (ws more : List CellState) → EachLeads kinds m (ws ++ more) to → EachLeads kinds m ws to
leads_less kinds m to [] more g = tt
leads_less kinds m to (w ∷ ws) more g = (g.0, leads_less kinds m to ws more g.1)

leads_rest : (kinds : List CellKind) (m : Module) (to : Place) (ws more : List CellState) → EachLeads kinds m (ws ++ more) to → EachLeads kinds m more to
leads_rest kinds m to [] more g = g
leads_rest kinds m to (w ∷ ws) more g = leads_rest kinds m to ws more g.1

none_less : (ws more : List CellState) → ws ++ more ≡ [] → ws ≡ []
none_less [] more e = refl
none_less (w ∷ ws) more e = absurd (cc e)

none_last : (ws : List CellState) (way : CellState) → ws ++ way ∷ [] ≡ [] → ⊥
none_last [] way e = absurd (cc e)
none_last (w ∷ ws) way e = absurd (cc e)

pub end_less : (kinds : List CellKind) (m : Module) (labels : ℕ → ℕ) (label : ℕ) (ws more : List CellState) (e : Option Place) → EndGoes kinds m labels label (ws ++ more) e → EndGoes kinds m labels label ws e
end_less kinds m labels label ws more None g = none_less ws more g
end_less kinds m labels label ws more (Some to) g = (g.0, forward_less kinds m to ws more g.1)

pub end_rest : (kinds : List CellKind) (m : Module) (labels : ℕ → ℕ) (label : ℕ) (ws more : List CellState) (e : Option Place) → EndGoes kinds m labels label (ws ++ more) e → EndGoes kinds m labels label more e
end_rest kinds m labels label [] more e g = g
end_rest kinds m labels label (w ∷ ws) more None g = absurd (cc g)
end_rest kinds m labels label (w ∷ ws) more (Some to) g = (g.0, forward_rest kinds m to (w ∷ ws) more g.1)

end_same : (kinds : List CellKind) (m : Module) (labels : ℕ → ℕ) (l k : Level) (e : Option Place) → k.label ≡ l.label → (more : List CellState) → k.ways ≡ l.ways ++ more → EndGoes kinds m labels k.label k.ways e → EndGoes kinds m labels l.label l.ways e
end_same kinds m labels l k e el more ew g = end_less kinds m labels l.label l.ways more e (subst (λ (z : List CellState). EndGoes kinds m labels l.label z e) ew (subst (λ (j : ℕ). EndGoes kinds m labels j k.ways e) el g))

pub ends_less : (kinds : List CellKind) (m : Module) (labels : ℕ → ℕ) (ls ks : List Level) (es : List (Option Place)) → SameLevels ls ks → EndsGo kinds m labels ks es → EndsGo kinds m labels ls es
ends_less kinds m labels [] [] es s g = tt
ends_less kinds m labels [] (k ∷ ks) es s g = absurd s
ends_less kinds m labels (l ∷ ls) [] es s g = absurd s
ends_less kinds m labels (l ∷ ls) (k ∷ ks) [] s g = absurd g
ends_less kinds m labels (l ∷ ls) (k ∷ ks) (e ∷ es) s g = (end_same kinds m labels l k e s.0 s.2.0 s.2.1 g.0, ends_less kinds m labels ls ks es s.3 g.1)

pub starts_less : (kinds : List CellKind) (m : Module) (labels : ℕ → ℕ) (ls ks : List Level) (hs : List Place) → SameLevels ls ks → StartsGo kinds m labels ks hs → StartsGo kinds m labels ls hs
starts_less kinds m labels [] [] hs s g = tt
starts_less kinds m labels [] (k ∷ ks) hs s g = absurd s
starts_less kinds m labels (l ∷ ls) [] hs s g = absurd s
starts_less kinds m labels (l ∷ ls) (k ∷ ks) [] s g = absurd g
starts_less kinds m labels (l ∷ ls) (k ∷ ks) (h ∷ hs) s g = ((g.0.0 ∙ ap labels s.0, g.0.1 ∙ s.1, leads_less kinds m h l.ways s.2.0 (subst (λ (z : List CellState). EachLeads kinds m z h) s.2.1 g.0.2)), starts_less kinds m labels ls ks hs s.3 g.1)

-- the way that was added leads to the end
pub record LeavesTo (kinds : List CellKind) (m : Module) (labels : ℕ → ℕ) (label : ℕ) (way : CellState) (es : List (Option Place)) (k : ℕ) : Type 0 where
  pub to : Place
  pub at : end_at es k ≡ Some to
  pub block : to.block ≡ labels label
  pub later : way.block < to.block
  pub leads : Leads kinds m way.block way.values to

pub add_leaves : (kinds : List CellKind) (m : Module) (labels : ℕ → ℕ) (ls : List Level) (k : ℕ) (way : CellState) (es : List (Option Place)) → k < length ls → EndsGo kinds m labels (add_way ls k way) es → LeavesTo kinds m labels (label_at ls k) way es k
add_leaves kinds m labels [] k way es lt g = absurd (omega (arith, lt))
add_leaves kinds m labels (l ∷ ls) zero way [] lt g = absurd g
add_leaves kinds m labels (l ∷ ls) zero way (None ∷ es) lt g = absurd (none_last l.ways way g.0)
add_leaves kinds m labels (l ∷ ls) zero way (Some to ∷ es) lt g = let r = forward_rest kinds m to l.ways (way ∷ []) g.0.1 in record { to = to; at = refl; block = g.0.0; later = r.0; leads = r.1 }
add_leaves kinds m labels (l ∷ ls) (suc k) way [] lt g = absurd g
add_leaves kinds m labels (l ∷ ls) (suc k) way (e ∷ es) lt g = let r = add_leaves kinds m labels ls k way es (omega (arith, lt)) g.1 in record { to = r.to; at = r.at; block = r.block; later = r.later; leads = r.leads }

-- the way that was added leads to the start
pub record AgainTo (kinds : List CellKind) (m : Module) (labels : ℕ → ℕ) (label bound : ℕ) (way : CellState) (hs : List Place) (k : ℕ) : Type 0 where
  pub to : Place
  pub at : start_at hs k ≡ Some to
  pub block : to.block ≡ labels label
  pub not_later : to.block ≤ bound
  pub leads : Leads kinds m way.block way.values to

pub add_agains : (kinds : List CellKind) (m : Module) (labels : ℕ → ℕ) (bound : ℕ) (ls : List Level) (k : ℕ) (way : CellState) (hs : List Place) → k < length ls → StartsStand bound ls → StartsGo kinds m labels (add_way ls k way) hs → AgainTo kinds m labels (label_at ls k) bound way hs k
add_agains kinds m labels bound [] k way hs lt st g = absurd (omega (arith, lt))
add_agains kinds m labels bound (l ∷ ls) zero way [] lt st g = absurd g
add_agains kinds m labels bound (l ∷ ls) zero way (h ∷ hs) lt st g = record { to = h; at = refl; block = g.0.0; not_later = omega (arith, g.0.1, st.0); leads = (leads_rest kinds m h l.ways (way ∷ []) g.0.2).0 }
add_agains kinds m labels bound (l ∷ ls) (suc k) way [] lt st g = absurd g
add_agains kinds m labels bound (l ∷ ls) (suc k) way (h ∷ hs) lt st g = let r = add_agains kinds m labels bound ls k way hs (omega (arith, lt)) st.1 g.1 in record { to = r.to; at = r.at; block = r.block; not_later = r.not_later; leads = r.leads }

pub each_forward : (kinds : List CellKind) (m : Module) (to : Place) (ws : List CellState) → ((way : CellState) → IsAmong way ws → (way.block < to.block) × Leads kinds m way.block way.values to) → EachForward kinds m ws to
each_forward kinds m to [] each = tt
each_forward kinds m to (w ∷ ws) each = let h = each w (inl refl) in (h.0, h.1, each_forward kinds m to ws (λ way i. each way (inr i)))

pub each_leads : (kinds : List CellKind) (m : Module) (to : Place) (ws : List CellState) → ((way : CellState) → IsAmong way ws → Leads kinds m way.block way.values to) → EachLeads kinds m ws to
each_leads kinds m to [] each = tt
each_leads kinds m to (w ∷ ws) each = (each w (inl refl), each_leads kinds m to ws (λ way i. each way (inr i)))

-- ---- from one moment to a later one

-- the phis of the blocks that were opened
abbrev pub now_phis : Option Open → List PhiPart
now_phis None = []
now_phis (Some o) = o.phis ∷ []

abbrev pub draft_phis : Draft → PhiPart
draft_phis d = d.phis

abbrev pub phi_list : Work → List PhiPart
phi_list w = map draft_phis w.done ++ now_phis w.now

pub map_push : (xs : List Draft) (x : Draft) → map draft_phis (xs ++ x ∷ []) ≡ map draft_phis xs ++ x.phis ∷ []
map_push [] x = refl
map_push (y ∷ xs) x = ap (λ (l : List PhiPart). y.phis ∷ l) (map_push xs x)

pub record Moves (w v : Work) : Type 0 where
  pub phis : (more : List PhiPart) × (phi_list v ≡ phi_list w ++ more)
  pub added : List Draft
  pub done : v.done ≡ w.done ++ added
  pub targets : Grows w.targets v.targets 0
  pub lates : Grows w.lates v.lates []
  pub next : w.next ≤ v.next
  pub ends : SameLevels w.ends v.ends
  pub starts : SameLevels w.starts v.starts

pub moves_refl : (w : Work) → Moves w w
moves_refl w = record { phis = ([], sym (append-nil (phi_list w))); added = []; done = sym (append-nil w.done); targets = grows_refl w.targets 0; lates = grows_refl w.lates []; next = omega arith; ends = same_levels w.ends; starts = same_levels w.starts }

pub moves_then : (w u v : Work) → Moves w u → Moves u v → Moves w v
moves_then w u v a b = record {
  phis = (a.phis.0 ++ b.phis.0, b.phis.1 ∙ ap (λ (x : List PhiPart). x ++ b.phis.0) a.phis.1 ∙ append_assoc (phi_list w) a.phis.0 b.phis.0);
  added = a.added ++ b.added;
  done = b.done ∙ ap (λ (d : List Draft). d ++ b.added) a.done ∙ append_assoc w.done a.added b.added;
  targets = grows_then w.targets u.targets v.targets 0 a.targets b.targets;
  lates = grows_then w.lates u.lates v.lates [] a.lates b.lates;
  next = omega (arith, a.next, b.next);
  ends = same_then w.ends u.ends v.ends a.ends b.ends;
  starts = same_then w.starts u.starts v.starts a.starts b.starts;
}

pub moves_longer : (w v : Work) → Moves w v → length w.done ≤ length v.done
moves_longer w v a = omega (arith, ap length a.done, length-append w.done a.added)

-- The same, where labels from a base on may have been settled: a choice settles the label of its second body only behind
-- its first.
pub record MovesBelow (base : ℕ) (w v : Work) : Type 0 where
  pub phis : (more : List PhiPart) × (phi_list v ≡ phi_list w ++ more)
  pub added : List Draft
  pub done : v.done ≡ w.done ++ added
  pub long : length w.targets ≤ length v.targets
  pub same : (l : ℕ) → l < base → get_or v.targets l 0 ≡ get_or w.targets l 0
  pub lates : Grows w.lates v.lates []
  pub next : w.next ≤ v.next
  pub ends : SameLevels w.ends v.ends
  pub starts : SameLevels w.starts v.starts

pub below_from : (base : ℕ) (w v : Work) → base ≤ length w.targets → Moves w v → MovesBelow base w v
below_from base w v le a = record { phis = a.phis; added = a.added; done = a.done; long = a.targets.long; same = λ l lt. a.targets.same l (omega (arith, lt, le)); lates = a.lates; next = a.next; ends = a.ends; starts = a.starts }

pub below_to : (w v : Work) → MovesBelow (length w.targets) w v → Moves w v
below_to w v a = record { phis = a.phis; added = a.added; done = a.done; targets = record { long = a.long; same = a.same }; lates = a.lates; next = a.next; ends = a.ends; starts = a.starts }

pub below_then : (base : ℕ) (w u v : Work) → MovesBelow base w u → MovesBelow base u v → MovesBelow base w v
below_then base w u v a b = record {
  phis = (a.phis.0 ++ b.phis.0, b.phis.1 ∙ ap (λ (x : List PhiPart). x ++ b.phis.0) a.phis.1 ∙ append_assoc (phi_list w) a.phis.0 b.phis.0);
  added = a.added ++ b.added;
  done = b.done ∙ ap (λ (d : List Draft). d ++ b.added) a.done ∙ append_assoc w.done a.added b.added;
  long = omega (arith, a.long, b.long);
  same = λ l lt. b.same l lt ∙ a.same l lt;
  lates = grows_then w.lates u.lates v.lates [] a.lates b.lates;
  next = omega (arith, a.next, b.next);
  ends = same_then w.ends u.ends v.ends a.ends b.ends;
  starts = same_then w.starts u.starts v.starts a.starts b.starts;
}

-- ---- the final module

-- the blocks so far stand in it
pub record Stand (m : Module) (labels : ℕ → ℕ) (lates : ℕ → List Phi) (done : List Draft) : Type 0 where
  pub by : (k : ℕ) (d : Draft) → slice_get done k ≡ Some d → slice_get m.blocks k ≡ Some (settled labels lates k d)

pub get_left : {A : Type 0} (xs ys : List A) (k : ℕ) (x : A) → slice_get xs k ≡ Some x → slice_get (xs ++ ys) k ≡ Some x
get_left [] ys k x e = absurd (cc e)
get_left (y ∷ xs) ys zero x e = e
get_left (y ∷ xs) ys (suc k) x e = get_left xs ys k x e

pub get_end : {A : Type 0} (xs : List A) (x : A) → slice_get (xs ++ x ∷ []) (length xs) ≡ Some x
get_end [] x = refl
get_end (y ∷ xs) x = get_end xs x

pub stand_less : (m : Module) (labels : ℕ → ℕ) (lates : ℕ → List Phi) (done more added : List Draft) → more ≡ done ++ added → Stand m labels lates more → Stand m labels lates done
stand_less m labels lates done more added e f = record { by = λ k d h. f.by k d (ap (λ (l : List Draft). slice_get l k) e ∙ get_left done added k d h) }

pub record IsFinal (m : Module) (labels : ℕ → ℕ) (lates : ℕ → List Phi) (w v : Work) : Type 0 where
  pub blocks : Stand m labels lates v.done
  pub targets : Settles w.targets v.targets labels 0
  pub phis : Settles w.lates v.lates lates []

pub final_left : (m : Module) (labels : ℕ → ℕ) (lates : ℕ → List Phi) (w u v : Work) → Moves u v → IsFinal m labels lates w v → IsFinal m labels lates w u
final_left m labels lates w u v b f = record {
  blocks = stand_less m labels lates u.done v.done b.added b.done f.blocks;
  targets = settles_left w.targets u.targets v.targets labels 0 b.targets f.targets;
  phis = settles_left w.lates u.lates v.lates lates [] b.lates f.phis;
}

pub final_right : (m : Module) (labels : ℕ → ℕ) (lates : ℕ → List Phi) (w u v : Work) → Moves w u → IsFinal m labels lates w v → IsFinal m labels lates u v
final_right m labels lates w u v a f = record {
  blocks = f.blocks;
  targets = settles_right w.targets u.targets v.targets labels 0 a.targets f.targets;
  phis = settles_right w.lates u.lates v.lates lates [] a.lates f.phis;
}

-- the open block at a place of the final module
pub record StandsAt (m : Module) (lates : ℕ → List Phi) (b : ℕ) (o : Open) (p : Place) : Type 0 where
  pub block : p.block ≡ b
  pub values : p.values ≡ o.values
  pub found : slice_get m.blocks b ≡ Some (record { name = b; phis = settled_phis lates o.phis; body = o.body ++ p.rest; last = p.last })

abbrev pub StandsIf : Module → (ℕ → List Phi) → ℕ → Option Open → Option Place → Type 0
StandsIf m lates b None None = Unit {0}
StandsIf m lates b None (Some p) = ⊥
StandsIf m lates b (Some o) None = ⊥
StandsIf m lates b (Some o) (Some p) = StandsAt m lates b o p

pub stands_none : (m : Module) (lates : ℕ → List Phi) (b : ℕ) (end : Option Place) → StandsIf m lates b None end → end ≡ None
stands_none m lates b None a = refl
stands_none m lates b (Some p) a = absurd a

-- a statement is the blocks from where the graph stood
pub record LowFrom (core : Core) (m : Module) (lates : ℕ → List Phi) (w : Work) (s : Stmt) (end : Option Place) (ends : List (Option Place)) (starts : List Place) : Type 0 where
  pub start : Option Place
  pub at : StandsIf m lates (length w.done) w.now start
  pub low : Low core m s start end ends starts

-- The lowering of a statement, from one moment to another. It is told backwards: of any final module that has what was
-- added, and any end, where each way that leads to an enclosing level goes on to it.
pub record Emits (core : Core) (s : Stmt) (w v : Work) : Type 0 where
  pub moves : Moves w v
  pub valid : IsValid core.cells v
  pub low : (m : Module) (labels : ℕ → ℕ) (lates : ℕ → List Phi) (ends : List (Option Place)) (starts : List Place) (end : Option Place) → IsFinal m labels lates w v → StandsIf m lates (length v.done) v.now end → EndsGo core.cells m labels v.ends ends → StartsGo core.cells m labels v.starts starts → LowFrom core m lates w s end ends starts

pub seq_emits : (core : Core) (a b : Stmt) (w u v : Work) → Emits core a w u → Emits core b u v → Emits core (Seq a b) w v
seq_emits core a b w u v ea eb = record {
  moves = moves_then w u v ea.moves eb.moves;
  valid = eb.valid;
  low = λ m labels lates ends starts end f at g h.
      let rb = eb.low m labels lates ends starts end (final_right m labels lates w u v ea.moves f) at g h in
      let ra = ea.low m labels lates ends starts rb.start (final_left m labels lates w u v eb.moves f) rb.at (ends_less core.cells m labels u.ends v.ends ends eb.moves.ends g) (starts_less core.cells m labels u.starts v.starts starts eb.moves.starts h) in
      record { start = ra.start; at = ra.at; low = (rb.start, ra.low, rb.low) };
}

-- where no way leads
pub dead_emits : (core : Core) (s : Stmt) (w : Work) → w.now ≡ None → ((m : Module) (ends : List (Option Place)) (starts : List Place) → Low core m s None None ends starts) → IsValid core.cells w → Emits core s w w
dead_emits core s w e low ok = record {
  moves = moves_refl w;
  valid = ok;
  low = λ m labels lates ends starts end f at g h.
      let at' = subst (λ (n : Option Open). StandsIf m lates (length w.done) n end) e at in
      let none = stands_none m lates (length w.done) end at' in
      record { start = None; at = subst (λ (n : Option Open). StandsIf m lates (length w.done) n None) (sym e) tt; low = subst (λ (x : Option Place). Low core m s None x ends starts) (sym none) (low m ends starts) };
}
