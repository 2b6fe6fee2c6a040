-- The module is shaped: it can be made as a value of its type.
use Rattle.std.proofs.Common.{◌≡◌, ℕ, zero, suc, ◌+◌, ◌<◌, ◌≤◌, ◌⊎◌, ⊎_elim, Bool, true, false, not, List, [], ◌∷◌, map, length, get_or, pos, Option, Some, None, refl, sym, subst, arith}
use Rattle.std.specs.Prelude.{FitsSigned, filter, if◌then◌else◌}
use Rattle.std.specs.Int.{w64}
use Rattle.std.specs.List.{sum_by, flat_map, AllByRecursion}
use Rattle.std.proofs.lemmas.Int.{fits_signed_from_abs}
use Rattle.std.proofs.lemmas.List.Sums.{sum_by-cons}
use Rattle.std.proofs.lemmas.List.Elements.{recursion_from_All}
use Rattle.qir_module.specs.declared.instruction.Operand.{Operand}
use Rattle.qir_module.specs.declared.instruction.Operand.TheVariants.{Register, Fixed}
use Rattle.qir_module.specs.declared.instruction.Arg.{Arg}
use Rattle.qir_module.specs.declared.instruction.Arg.TheVariants.{Number, Truth, Id, Text}
use Rattle.qir_module.specs.declared.instruction.Instr.{Instr}
use Rattle.qir_module.specs.declared.instruction.Instr.TheVariants.{Op, Zext, Trunc, Select, Call}
use Rattle.qir_module.specs.declared.instruction.Last.{Last}
use Rattle.qir_module.specs.declared.instruction.Last.TheVariants.{Jump, Branch, Return}
use Rattle.qir_module.specs.declared.block.Phi.{Phi}
use Rattle.qir_module.specs.declared.block.Block.{Block as ModuleBlock}
use Rattle.qir_module.specs.Items.{block_items, items_of}
use Rattle.qir_module.specs.Module.{IsNumber, IsTyped as IsTypedOperand, IsFunction, IsShapedArg, IsShapedInstr, IsShapedLast, IsShapedEntry, IsShapedPhi, IsShapedBlock, IsLabel, IsShaped}
use Rattle.qir_module.specs.Numbered.{called_functions, is_among, counted}
use Rattle.core_ir.specs.Core.{Core}
use Rattle.core_ir.specs.Tree.{program_of}
use Rattle.core_ir.specs.Ways.{begin}
use Rattle.core_ir.specs.WellFormed.{IsLabelText}
use Rattle.phi_place.specs.Phis.{WaysCarry, SameWhereNotDiffer}
use Rattle.expr_lower.specs.Lowered.{IsTyped}
use Rattle.block_graph.specs.Bounds.{AreBytes}
use Rattle.block_graph.specs.Laws.{IsLowerable}
use Rattle.block_graph.specs.Work.{Ready, Late, PhiPart, Draft, Open, Work}
use Rattle.block_graph.specs.Lowering.{Coder, initialize_call, when_open, end_work, first_work, lower_of, whole_work, settled_phis, settled_last, settled_from, lowered}
use Rattle.block_graph.specs.Claims.{Below, IsArgBelow, IsInstrBelow, IsGoodInstr}
use Rattle.block_graph.proofs.Ruling.{module_instrs, flat_split}
use Rattle.block_graph.proofs.Bounding.{is_within}
use Rattle.block_graph.proofs.Limiting.{joined_less, end_results, work_is_small}
use Rattle.block_graph.proofs.Targets.{labels_settled, settled_long}
use Rattle.block_graph.proofs.Shaping.{IsEntryBelow, ArePhisBelow, IsPartBelow, IsLastBelow, IsDraftBelow, whole_below}

-- the numbers of the module
record AreSmall (core : Core) (next results blocks : ℕ) : Type 0 where
  few_registers : next ≤ 8000096
  few_results : results ≤ 4000032
  few_blocks : blocks ≤ 16002
  few_qubits : core.qubits ≤ 1024
  few_labels : length core.labels ≤ 16384

-- ---- operands and instructions

typed_shaped : (next : ℕ) (truth : Bool) (o : Operand) → next ≤ 8000096 → IsTyped (Below next) truth o → IsTypedOperand truth o
typed_shaped next true (Register r) le h = omega (arith, h, le)
typed_shaped next true (Fixed z) le h = h
typed_shaped next false (Register r) le h = omega (arith, h, le)
typed_shaped next false (Fixed z) le h = h

module _ (core : Core) (next results blocks : ℕ) (small : AreSmall core next results blocks) where
  arg_shaped : (arg : Arg) → IsArgBelow core next results arg → IsShapedArg arg
  arg_shaped (Number operand) h = typed_shaped next false operand small.few_registers h
  arg_shaped (Truth operand) h = typed_shaped next true operand small.few_registers h
  arg_shaped (Id n) h = number (⊎_elim (λ g. omega (arith, g, small.few_qubits)) (λ g. omega (arith, g, small.few_results)) h)
    where
      number : n < 4000033 → IsNumber n
      number lt = omega (arith, lt)
  arg_shaped (Text k) h = omega (arith, h, small.few_labels)

  args_shaped : (args : List Arg) → AllByRecursion (IsArgBelow core next results) args → AllByRecursion IsShapedArg args
  args_shaped [] all = tt
  args_shaped (arg ∷ args) all = (arg_shaped arg all.0, args_shaped args all.1)

  instr_shaped : (i : Instr) → IsInstrBelow core next results i → IsShapedInstr i
  instr_shaped (Op r op truth left right) h = (omega (arith, h.0, small.few_registers), h.1.0, typed_shaped next truth left small.few_registers h.1.1, typed_shaped next truth right small.few_registers h.1.2)
  instr_shaped (Zext r from) h = (omega (arith, h.0, small.few_registers), typed_shaped next true from small.few_registers h.1)
  instr_shaped (Trunc r from) h = (omega (arith, h.0, small.few_registers), typed_shaped next false from small.few_registers h.1)
  instr_shaped (Select r truth test chosen other) h = (omega (arith, h.0, small.few_registers), typed_shaped next true test small.few_registers h.1.0, typed_shaped next truth chosen small.few_registers h.1.1, typed_shaped next truth other small.few_registers h.1.2)
  instr_shaped (Call None function args) h = (tt, h.1, args_shaped args h.2)
  instr_shaped (Call (Some r) function args) h = (omega (arith, h.0, small.few_registers), h.1, args_shaped args h.2)

  instrs_shaped : (code : List Instr) → AllByRecursion (IsGoodInstr core next results) code → AllByRecursion IsShapedInstr code
  instrs_shaped [] all = tt
  instrs_shaped (i ∷ is) all = (instr_shaped i all.0.below, instrs_shaped is all.1)

  -- ---- phis and ends of blocks

  entries_shaped : (truth : Bool) (es : List (Operand × ℕ)) → AllByRecursion (IsEntryBelow next blocks truth) es → AllByRecursion (IsShapedEntry truth) es
  entries_shaped truth [] all = tt
  entries_shaped truth (e ∷ es) all = ((typed_shaped next truth e.0 small.few_registers all.0.0, omega (arith, all.0.1, small.few_blocks)), entries_shaped truth es all.1)

  phis_shaped : (ps : List Phi) → ArePhisBelow next blocks ps → AllByRecursion IsShapedPhi ps
  phis_shaped [] all = tt
  phis_shaped (p ∷ ps) all = ((omega (arith, all.0.0, small.few_registers), all.0.1, entries_shaped (not p.number) p.entries all.0.2), phis_shaped ps all.1)

  late_shaped : (lates : List (List Phi)) (k : ℕ) → AllByRecursion (ArePhisBelow next blocks) lates → AllByRecursion IsShapedPhi (get_or lates k [])
  late_shaped [] k all = tt
  late_shaped (ps ∷ lates) zero all = phis_shaped ps all.0
  late_shaped (ps ∷ lates) (suc k) all = late_shaped lates k all.1

  part_shaped : (lates : List (List Phi)) (part : PhiPart) → AllByRecursion (ArePhisBelow next blocks) lates → IsPartBelow next blocks part → AllByRecursion IsShapedPhi (settled_phis (λ k. get_or lates k []) part)
  part_shaped lates (Ready phis) all h = phis_shaped phis h
  part_shaped lates (Late place) all h = late_shaped lates place all

  target_number : (targets : List ℕ) (l : ℕ) → (get_or targets l 0 ≡ 0) ⊎ (get_or targets l 0 < blocks) → IsNumber (get_or targets l 0)
  target_number targets l h = number (⊎_elim (λ g. omega (arith, g)) (λ g. omega (arith, g, small.few_blocks)) h)
    where
      number : get_or targets l 0 < 16003 → IsNumber (get_or targets l 0)
      number lt = omega (arith, lt)

  last_shaped : (targets : List ℕ) (last : Last) → ((l : ℕ) → (get_or targets l 0 ≡ 0) ⊎ (get_or targets l 0 < blocks)) → IsLastBelow next last → IsShapedLast (settled_last (λ k. get_or targets k 0) last)
  last_shaped targets (Jump label) bound h = target_number targets label (bound label)
  last_shaped targets (Branch test first second) bound h = (typed_shaped next true test small.few_registers h, target_number targets first (bound first), target_number targets second (bound second))
  last_shaped targets (Return code) bound h = subst (FitsSigned w64) (sym h) (fits_signed_from_abs w64 (pos 0) (omega arith))

  -- ---- blocks

  blocks_shaped : (targets : List ℕ) (lates : List (List Phi)) → ((l : ℕ) → (get_or targets l 0 ≡ 0) ⊎ (get_or targets l 0 < blocks)) → AllByRecursion (ArePhisBelow next blocks) lates → (k : ℕ) (ds : List Draft) → k + length ds ≤ 16002
      → AllByRecursion (IsDraftBelow next blocks) ds
      → AllByRecursion (λ (b : ModuleBlock). AllByRecursion IsShapedInstr b.body) (settled_from (λ k. get_or targets k 0) (λ k. get_or lates k []) k ds)
      → sum_by (λ (b : ModuleBlock). length b.phis) (settled_from (λ k. get_or targets k 0) (λ k. get_or lates k []) k ds) ≤ 4000032
      → items_of (settled_from (λ k. get_or targets k 0) (λ k. get_or lates k []) k ds) ≤ 4000064
      → AllByRecursion IsShapedBlock (settled_from (λ k. get_or targets k 0) (λ k. get_or lates k []) k ds)
  blocks_shaped targets lates bound late k [] few all bodies phis items = tt
  blocks_shaped targets lates bound late k (d ∷ ds) few all bodies phis items =
      let rest = settled_from (λ k. get_or targets k 0) (λ k. get_or lates k []) (suc k) ds in
      let b : ModuleBlock = record { name = k; phis = settled_phis (λ k. get_or lates k []) d.phis; body = d.body; last = settled_last (λ k. get_or targets k 0) d.last } in
      let p = sum_by-cons (λ (b : ModuleBlock). length b.phis) b rest in
      let i = sum_by-cons block_items b rest in (
        (omega (arith, few), omega (arith, p, i, phis, items), part_shaped lates d.phis late all.0.0, bodies.0, last_shaped targets d.last bound all.0.1),
        blocks_shaped targets lates bound late (suc k) ds (omega (arith, few)) all.1 bodies.1 (omega (arith, p, phis)) (omega (arith, i, items)),
      )

-- ---- labels and declarations

labels_shaped : (labels : List (List ℕ)) → AllByRecursion IsLabelText labels → AllByRecursion AreBytes labels → AllByRecursion IsLabel labels
labels_shaped [] texts bytes = tt
labels_shaped (l ∷ labels) texts bytes = ((texts.0.short, bytes.0, texts.0.text, texts.0.ends), labels_shaped labels texts.1 bytes.1)

-- the functions of the table from one on
counted_functions : (p : ℕ → Bool) (k n : ℕ) → k + n ≤ 37 → AllByRecursion IsFunction (map (λ f. record { 0 = f }) (filter p (counted k n)))
counted_functions p k zero le = tt
counted_functions p k (suc n) le = two (p k) (counted_functions p (suc k) n (omega (arith, le)))
  where
    two : (b : Bool) → AllByRecursion IsFunction (map (λ f. record { 0 = f }) (filter p (counted (suc k) n))) → AllByRecursion IsFunction (map (λ f. record { 0 = f }) (if b then k ∷ filter p (counted (suc k) n) else filter p (counted (suc k) n)))
    two true all = (omega (arith, le), all)
    two false all = all

-- ---- the module

end_next : (core : Core) (v : Work) (now : Option Open) → (when_open now v (end_work core.outputs v)).next ≡ v.next
end_next core v None = refl
end_next core v (Some o) = refl

some_block : (blocks : List ModuleBlock) (more : List Instr) → flat_map (λ (b : ModuleBlock). b.body) blocks ≡ initialize_call ∷ more → 0 < length blocks
some_block [] more e = absurd (cc e)
some_block (b ∷ blocks) more e = omega arith

pub is_shaped : WaysCarry → SameWhereNotDiffer → (core : Core) (coder : Coder) → IsLowerable core coder → IsShaped (lowered core coder)
is_shaped carry keeps core coder l =
    let m = lowered core coder in
    let z = whole_work core coder in
    let v = lower_of core coder (program_of core) (first_work (length core.cells)) in
    let f = l.fits in
    let s = work_is_small carry keeps core coder l in
    let within = is_within carry keeps core coder l in
    let labels : ℕ → ℕ = λ k. get_or z.targets k 0 in
    let lates : ℕ → List Phi = λ k. get_or z.lates k [] in
    let long = settled_long labels lates 0 z.done in
    let many : length z.done ≤ 16002 = omega (arith, long, within.blocks, f.few_knots) in
    let next : z.next ≤ 8000096 = omega (arith, end_next core v v.now, s.next, f.light) in
    let results : z.results ≤ 4000032 = omega (arith, end_results core.outputs v v.now, s.results, f.light) in
    let small : AreSmall core z.next z.results (length z.done) = record { few_registers = next; few_results = results; few_blocks = many; few_qubits = f.few_qubits; few_labels = f.few_labels } in
    let instrs = module_instrs carry keeps core coder l in
    let below = whole_below carry keeps core coder l in
    let settled = labels_settled carry keeps core coder l in
    let first : IsShapedInstr initialize_call = (tt, omega arith, (omega arith, tt)) in
    let all : AllByRecursion IsShapedInstr (flat_map (λ (b : ModuleBlock). b.body) m.blocks) = subst (AllByRecursion IsShapedInstr) (sym instrs.starts) (first, instrs_shaped core z.next z.results (length z.done) small instrs.more instrs.good) in
    let bodies = flat_split IsShapedInstr (λ (b : ModuleBlock). b.body) m.blocks all in
    let j = joined_less (length core.cells) core.exprs (program_of core) begin [] [] in
    let phis : sum_by (λ (b : ModuleBlock). length b.phis) m.blocks ≤ 4000032 = omega (arith, within.phis, j, f.light) in
    let items : items_of m.blocks ≤ 4000064 = omega (arith, within.items, f.light) in
    record {
      has_block = some_block m.blocks instrs.more instrs.starts;
      few_labels = omega (arith, f.few_labels);
      few_blocks = omega (arith, long, many);
      few_items = omega (arith, items);
      each_label = labels_shaped core.labels (recursion_from_All IsLabelText core.labels f.well_formed.labels) (recursion_from_All AreBytes core.labels l.held.labels);
      each_block = blocks_shaped core z.next z.results (length z.done) small z.targets z.lates settled.bound below.lates 0 z.done (omega (arith, many)) below.done bodies phis items;
      each_declaration = counted_functions (is_among (called_functions m.blocks)) 0 37 (omega arith);
      qubits = omega (arith, f.few_qubits);
      results = omega (arith, results);
      major = omega arith;
      minor = omega arith;
    }
