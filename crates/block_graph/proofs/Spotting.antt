-- What holds of each item of a module, from what holds of its blocks.
use Rattle.std.proofs.Common.{◌≡◌, ℕ, zero, suc, ◌+◌, Bool, true, List, [], ◌∷◌, ◌++◌, map, length, Some, refl, sym, ap, ◌∙◌, subst, arith, append_assoc, length-append}
use Rattle.std.specs.Prelude.{slice_get}
use Rattle.std.specs.List.{AllByRecursion}
use Rattle.qir_module.specs.declared.instruction.Instr.{Instr}
use Rattle.qir_module.specs.declared.instruction.Last.{Last}
use Rattle.qir_module.specs.declared.block.Phi.{Phi}
use Rattle.qir_module.specs.declared.block.Block.{Block as ModuleBlock}
use Rattle.qir_module.specs.Module.{Module}
use Rattle.qir_module.specs.Spots.{Item, ThePhi, TheInstr, TheLast, items_in, Spot, spots_behind, block_spots, spots_from, spots}
use Rattle.qir_module.specs.Passes.{Demand, IsKept}
use Rattle.block_graph.proofs.Coding.{all_append}

-- the spot of an item of the k-th block
abbrev pub spot_at : ℕ → ModuleBlock → List Item → Item → Spot
spot_at k b front item = record { block = k; item = length front; of = b; front = front; here = item }

all_behind : (P : Spot → Type 0) (k : ℕ) (b : ModuleBlock) (all : List Item) → ((front : List Item) (item : Item) (rest : List Item) → all ≡ front ++ item ∷ rest → P (spot_at k b front item)) → (front items : List Item) → all ≡ front ++ items → AllByRecursion P (spots_behind k b (length front) front items)
all_behind P k b all h front [] e = tt
all_behind P k b all h front (item ∷ items) e =
    let one : length (front ++ item ∷ []) ≡ suc (length front) = omega (arith, length-append front (item ∷ [])) in
    (h front item items e, subst (λ (i : ℕ). AllByRecursion P (spots_behind k b i (front ++ item ∷ []) items)) one (all_behind P k b all h (front ++ item ∷ []) items (e ∙ sym (append_assoc front (item ∷ []) items))))

all_from : (P : Spot → Type 0) (all : List ModuleBlock) → ((k : ℕ) (b : ModuleBlock) → slice_get all k ≡ Some b → AllByRecursion P (block_spots k b)) → (j : ℕ) (blocks : List ModuleBlock) → ((i : ℕ) → slice_get all (j + i) ≡ slice_get blocks i) → AllByRecursion P (spots_from j blocks)
all_from P all h j [] same = tt
all_from P all h j (b ∷ blocks) same =
    let here : j ≡ j + 0 = omega arith in
    all_append P (block_spots j b) (spots_from (suc j) blocks) (h j b (ap (slice_get all) here ∙ same 0))
    (all_from P all h (suc j) blocks (λ i. let next : suc j + i ≡ j + suc i = omega arith in ap (slice_get all) next ∙ same (suc i)))

-- each item with what stands around it
pub each_spot : (P : Spot → Type 0) (m : Module) → ((k : ℕ) (b : ModuleBlock) → slice_get m.blocks k ≡ Some b → (front : List Item) (item : Item) (rest : List Item) → items_in b ≡ front ++ item ∷ rest → P (spot_at k b front item)) → AllByRecursion P (spots m)
each_spot P m h = all_from P m.blocks (λ k b is. all_behind P k b (items_in b) (h k b is) [] (items_in b) refl) 0 m.blocks (λ i. let z : 0 + i ≡ i = omega arith in ap (slice_get m.blocks) z)

pub all_middle : {A : Type 0} (P : A → Type 0) (xs : List A) (x : A) (ys : List A) → AllByRecursion P (xs ++ x ∷ ys) → P x
all_middle P [] x ys all = all.0
all_middle P (y ∷ xs) x ys all = all_middle P xs x ys all.1

pub all_get : {A : Type 0} (P : A → Type 0) (xs : List A) (k : ℕ) (x : A) → AllByRecursion P xs → slice_get xs k ≡ Some x → P x
all_get P [] k x all e = absurd (cc e)
all_get P (y ∷ xs) zero x all e = let same : y ≡ x = cc e in subst P same all.0
all_get P (y ∷ xs) (suc k) x all e = all_get P xs k x all.1 e

-- what holds of a block's items
pub record OfItems (P : Item → Type 0) (b : ModuleBlock) : Type 0 where
  pub phis : AllByRecursion (λ (p : Phi). P (ThePhi p)) b.phis
  pub body : AllByRecursion (λ (i : Instr). P (TheInstr i)) b.body
  pub last : P (TheLast b.last)

all_map : {A : Type 0} (P : Item → Type 0) (f : A → Item) (xs : List A) → AllByRecursion (λ (x : A). P (f x)) xs → AllByRecursion P (map f xs)
all_map P f [] all = tt
all_map P f (x ∷ xs) all = (all.0, all_map P f xs all.1)

pub all_items : (P : Item → Type 0) (b : ModuleBlock) → OfItems P b → AllByRecursion P (items_in b)
all_items P b o = all_append P (map ThePhi b.phis ++ map TheInstr b.body) (TheLast b.last ∷ []) (all_append P (map ThePhi b.phis) (map TheInstr b.body) (all_map P ThePhi b.phis o.phis) (all_map P TheInstr b.body o.body)) (o.last, tt)

pub all_true : {A : Type 0} (P : A → Type 0) (xs : List A) → ((x : A) → P x) → AllByRecursion P xs
all_true P [] h = tt
all_true P (x ∷ xs) h = (h x, all_true P xs h)

-- a demand on the item alone, that phis and last instructions meet
pub kept_by_instrs : (m : Module) (demand : Demand) (f : Item → Bool) → ((s : Spot) → demand m s ≡ f s.here) → ((p : Phi) → f (ThePhi p) ≡ true) → ((l : Last) → f (TheLast l) ≡ true)
    → AllByRecursion (λ (b : ModuleBlock). AllByRecursion (λ (i : Instr). f (TheInstr i) ≡ true) b.body) m.blocks → IsKept m demand
kept_by_instrs m demand f same phis lasts bodies =
    each_spot (λ (s : Spot). demand m s ≡ true) m (λ k b is front item rest e.
    same (spot_at k b front item)
    ∙ all_middle (λ (x : Item). f x ≡ true) front item rest (subst (AllByRecursion (λ (x : Item). f x ≡ true)) e (all_items (λ (x : Item). f x ≡ true) b (record {
      phis = all_true (λ (p : Phi). f (ThePhi p) ≡ true) b.phis phis;
      body = all_get (λ (b : ModuleBlock). AllByRecursion (λ (i : Instr). f (TheInstr i) ≡ true) b.body) m.blocks k b bodies is;
      last = lasts b.last;
    }))))

-- a demand on the item alone, that phis and instructions meet
pub kept_by_lasts : (m : Module) (demand : Demand) (f : Item → Bool) → ((s : Spot) → demand m s ≡ f s.here) → ((p : Phi) → f (ThePhi p) ≡ true) → ((i : Instr) → f (TheInstr i) ≡ true)
    → AllByRecursion (λ (b : ModuleBlock). f (TheLast b.last) ≡ true) m.blocks → IsKept m demand
kept_by_lasts m demand f same phis instrs lasts =
    each_spot (λ (s : Spot). demand m s ≡ true) m (λ k b is front item rest e.
    same (spot_at k b front item)
    ∙ all_middle (λ (x : Item). f x ≡ true) front item rest (subst (AllByRecursion (λ (x : Item). f x ≡ true)) e (all_items (λ (x : Item). f x ≡ true) b (record {
      phis = all_true (λ (p : Phi). f (ThePhi p) ≡ true) b.phis phis;
      body = all_true (λ (i : Instr). f (TheInstr i) ≡ true) b.body instrs;
      last = all_get (λ (b : ModuleBlock). f (TheLast b.last) ≡ true) m.blocks k b lasts is;
    }))))
