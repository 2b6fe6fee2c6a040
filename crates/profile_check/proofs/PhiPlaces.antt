-- Where the rule on phis stands, block by block.
use Rattle.std.proofs.Common.{◌≡◌, ℕ, zero, suc, ◌+◌, nat_eq, Bool, true, false, not, ◌&&◌, cond, if◌then◌else◌, List, [], ◌∷◌, ◌++◌, length, map, filter, Option, Some, None, slice_get, refl, ap, sym, ◌∙◌, arith, append_assoc}
use Rattle.std.proofs.Math.Dec.{eqb-suc-zero}
use Rattle.qir_module.specs.declared.instruction.Operand.{Operand}
use Rattle.qir_module.specs.declared.instruction.Instr.{Instr}
use Rattle.qir_module.specs.declared.instruction.Last.{Last}
use Rattle.qir_module.specs.declared.block.Phi.{Phi}
use Rattle.qir_module.specs.declared.block.Block.{Block}
use Rattle.qir_module.specs.Module.{Module}
use Rattle.qir_module.specs.Numbered.{counted, is_among}
use Rattle.qir_module.specs.Spots.{Item, ThePhi, TheInstr, TheLast, spots_behind}
use Rattle.qir_module.specs.Carried.{targets_of, jumps_to, is_way}
use Rattle.qir_module.specs.Passes.{block_names, predecessors, names_each_once, phis_kept}
use Rattle.qir_module.specs.Broken.{first_failing, first_breach}
use Rattle.profile_check.specs.Walk.{first_item, first_place}
use Rattle.profile_check.specs.Ways.{ways_among}
use Rattle.profile_check.specs.Phis.{name_in, names_at, phi_fits, first_phi_at, wrong_phi_at}
use Rattle.profile_check.proofs.Walks.{item_at, first_in_spots, by_blocks}
use Rattle.profile_check.proofs.NameLemmas.{first_place_all}

-- the names at the places of predecessors are the names of the predecessors
names_from : (all : List Block) (b : ℕ) (of : Block) (k : ℕ) (bs : List Block) → slice_get all b ≡ Some of → ((j : ℕ) → slice_get all (k + j) ≡ slice_get bs j)
    → names_at all (filter (λ p. is_way all p b) (counted k (length bs))) ≡ block_names (filter (λ (p : Block). is_among (targets_of p.last) of.name) bs)
names_from all b of k [] at stands = refl
names_from all b of k (x ∷ xs) at stands =
    let here : k ≡ k + 0 = omega arith in
    let stands_here : slice_get all k ≡ Some x = ap (slice_get all) here ∙ stands 0 in
    let way : is_way all k b ≡ is_among (targets_of x.last) of.name = ap (λ (o : Option Block). jumps_to o (slice_get all b)) stands_here ∙ ap (jumps_to (Some x)) at in
    let later = filter (λ p. is_way all p b) (counted (suc k) (length xs)) in
    let rest : names_at all later ≡ block_names (filter (λ (p : Block). is_among (targets_of p.last) of.name) xs) =
    names_from all b of (suc k) xs at (λ j. let e : suc k + j ≡ k + suc j = omega arith in ap (slice_get all) e ∙ stands (suc j)) in
    ap (λ (t : Bool). names_at all (cond t (k ∷ later) later)) way
    ∙ elim (is_among (targets_of x.last) of.name) as (λ t. names_at all (cond t (k ∷ later) later) ≡ block_names (cond t (x ∷ filter (λ (p : Block). is_among (targets_of p.last) of.name) xs) (filter (λ (p : Block). is_among (targets_of p.last) of.name) xs))) [
      | true ↦ ap (λ (o : Option Block). name_in o ++ names_at all later) stands_here ∙ ap (λ (ns : List ℕ). x.name ∷ ns) rest
      | false ↦ rest
    ]

pub names_of_ways : (all : List Block) (b : ℕ) (of : Block) → slice_get all b ≡ Some of → names_at all (ways_among all (length all) b) ≡ predecessors all of.name
names_of_ways all b of at = names_from all b of 0 all at (λ j. let e : 0 + j ≡ j = omega arith in ap (slice_get all) e)

-- behind the phis nothing breaks the rule
body_passes : (m : Module) (k : ℕ) (b : Block) (i : ℕ) (front : List Item) (body : List Instr) (last : Last) → first_failing (phis_kept m) (spots_behind k b i front (map TheInstr body ++ TheLast last ∷ [])) ≡ None
body_passes m k b i front [] last = refl
body_passes m k b i front (x ∷ xs) last = body_passes m k b (suc i) (front ++ TheInstr x ∷ []) xs last

-- in the first block each phi does
first_block : (m : Module) (b : Block) (phis : List Phi) (rest : List Item) → item_at (first_failing (phis_kept m) (spots_behind 0 b 0 [] rest)) ≡ None → item_at (first_failing (phis_kept m) (spots_behind 0 b 0 [] (map ThePhi phis ++ rest))) ≡ first_phi_at phis
first_block m b [] rest none = none
first_block m b (phi ∷ phis) rest none = refl

-- in another block those do whose entries are not one for each predecessor
other_block : (m : Module) (k : ℕ) (b : Block) (names : List ℕ) (i : ℕ) (front : List Item) (phis : List Phi) (rest : List Item) → nat_eq k 0 ≡ false → names ≡ predecessors m.blocks b.name
    → ((j : ℕ) (behind : List Item) → first_failing (phis_kept m) (spots_behind k b j behind rest) ≡ None)
    → item_at (first_failing (phis_kept m) (spots_behind k b i front (map ThePhi phis ++ rest))) ≡ first_item (phi_fits names) i (map ThePhi phis)
unfolding phi_fits
other_block m k b names i front [] rest later are none = ap item_at (none i front)
other_block m k b names i front (phi ∷ phis) rest later are none =
    let entries = map (λ (e : Operand × ℕ). e.1) phi.entries in
    let found = λ (t : Bool). item_at (if t then first_failing (phis_kept m) (spots_behind k b (suc i) (front ++ ThePhi phi ∷ []) (map ThePhi phis ++ rest)) else Some (record { block = k; item = i })) in
    ap (λ (t : Bool). found (not t && names_each_once entries (predecessors m.blocks b.name))) later
    ∙ ap (λ (ns : List ℕ). found (names_each_once entries ns)) (sym are)
    ∙ elim (names_each_once entries names) as (λ t. found t ≡ (if t then first_item (phi_fits names) (suc i) (map ThePhi phis) else Some i)) [
      | true ↦ other_block m k b names (suc i) (front ++ ThePhi phi ∷ []) phis rest later are none
      | false ↦ refl
    ]

in_block : (m : Module) (k : ℕ) (b : Block) → slice_get m.blocks k ≡ Some b → first_in_spots (phis_kept m) k b ≡ wrong_phi_at m.blocks k b
in_block m zero b at =
    let rest = map TheInstr b.body ++ TheLast b.last ∷ [] in
    ap (λ (items : List Item). item_at (first_failing (phis_kept m) (spots_behind 0 b 0 [] items))) (append_assoc (map ThePhi b.phis) (map TheInstr b.body) (TheLast b.last ∷ []))
    ∙ first_block m b b.phis rest (ap item_at (body_passes m 0 b 0 [] b.body b.last))
in_block m (suc k) b at =
    let rest = map TheInstr b.body ++ TheLast b.last ∷ [] in
    let names = names_at m.blocks (ways_among m.blocks (length m.blocks) (suc k)) in
    let later : nat_eq (suc k) 0 ≡ false = eqb-suc-zero k in
    ap (λ (items : List Item). item_at (first_failing (phis_kept m) (spots_behind (suc k) b 0 [] items))) (append_assoc (map ThePhi b.phis) (map TheInstr b.body) (TheLast b.last ∷ []))
    ∙ other_block m (suc k) b names 0 [] b.phis rest later (names_of_ways m.blocks (suc k) b at) (λ j behind. body_passes m (suc k) b j behind b.body b.last)
    ∙ ap (λ (t : Bool). if t then first_phi_at b.phis else first_item (phi_fits names) 0 (map ThePhi b.phis)) (sym later)

pub phis_at : (m : Module) → first_breach m phis_kept ≡ first_place (wrong_phi_at m.blocks) 0 m.blocks
phis_at m = by_blocks (phis_kept m) 0 m.blocks ∙ first_place_all m.blocks (first_in_spots (phis_kept m)) (wrong_phi_at m.blocks) (in_block m)
