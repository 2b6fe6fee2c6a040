-- The rules one after another, and that what they find are places of the text.
use Rattle.std.proofs.Common.{◌≡◌, ℕ, suc, ◌+◌, ◌<◌, ◌^◌, ◌⊎◌, Bool, true, false, if◌then◌else◌, List, [], ◌∷◌, ◌++◌, length, Option, Some, None, refl, ap, sym, ◌∙◌, arith, inl, inr, length-append}
use Rattle.std.proofs.lemmas.List.{length-map}
use Rattle.std.specs.List.{AllByRecursion}
use Rattle.qir_module.specs.declared.block.Block.{Block}
use Rattle.qir_module.specs.Module.{Module, IsShaped, IsShapedBlock}
use Rattle.qir_module.specs.Spots.{Item, items_in, Spot, spots_behind, block_spots, spots_from}
use Rattle.qir_module.specs.Passes.{Demand}
use Rattle.qir_module.specs.Broken.{Place, Breach, first_failing, first_breach, breach_or, first_rule, rules, broken}
use Rattle.profile_check.specs.declared.place.Place.{Place as CodePlace}
use Rattle.profile_check.specs.Walk.{seen}

pub broken_here : (rule : ℕ) (at : CodePlace) (breach : Option Place) (others : Option Breach) → seen (Some at) ≡ breach → Some (record { rule = rule; at = record { block = at.block; item = at.item } }) ≡ breach_or rule breach others
broken_here rule at breach others is = ap (λ (o : Option Place). breach_or rule o others) is

pub kept_here : (rule : ℕ) (breach : Option Place) (others : Option Breach) → seen None ≡ breach → breach_or rule breach others ≡ others
kept_here rule breach others is = ap (λ (o : Option Place). breach_or rule o others) (sym is)

-- ---- places of the text

abbrev IsWithin : ℕ → Place → Type 0
IsWithin blocks p = (p.block < blocks) × (p.item < 2 ^ 32)

failing_behind : (test : Spot → Bool) (k : ℕ) (b : Block) (i : ℕ) (front items : List Item) (p : Place) → first_failing test (spots_behind k b i front items) ≡ Some p → (p.block ≡ k) × (p.item < i + length items)
failing_behind test k b i front [] p found = absurd (cc)
failing_behind test k b i front (x ∷ xs) p found = by_test (test (record { block = k; item = i; of = b; front = front; here = x })) found (failing_behind test k b (suc i) (front ++ x ∷ []) xs p)
  where
    by_test : (t : Bool) → (if t then first_failing test (spots_behind k b (suc i) (front ++ x ∷ []) xs) else Some (record { block = k; item = i })) ≡ Some p
        → (first_failing test (spots_behind k b (suc i) (front ++ x ∷ []) xs) ≡ Some p → (p.block ≡ k) × (p.item < suc i + length xs)) → (p.block ≡ k) × (p.item < i + suc (length xs))
    by_test true found rest = let later = rest found in (later.0, omega (arith, later.1))
    by_test false found rest =
        let here : record { block = k; item = i } ≡ p = cc in
        (sym (ap (λ (q : Place). q.block) here), omega (arith, ap (λ (q : Place). q.item) here))

failing_either : (test : Spot → Bool) (xs ys : List Spot) (p : Place) → first_failing test (xs ++ ys) ≡ Some p → (first_failing test xs ≡ Some p) ⊎ (first_failing test ys ≡ Some p)
failing_either test [] ys p found = inr found
failing_either test (x ∷ xs) ys p found = elim (test x) as (λ t. (if t then first_failing test (xs ++ ys) else Some (record { block = x.block; item = x.item })) ≡ Some p → ((if t then first_failing test xs else Some (record { block = x.block; item = x.item })) ≡ Some p) ⊎ (first_failing test ys ≡ Some p)) [
  | true ↦ λ e. failing_either test xs ys p e
  | false ↦ λ e. inl e
] found

failing_from : (test : Spot → Bool) (k : ℕ) (blocks : List Block) (p : Place) → AllByRecursion IsShapedBlock blocks → first_failing test (spots_from k blocks) ≡ Some p → IsWithin (k + length blocks) p
failing_from test k [] p shaped found = absurd (cc)
failing_from test k (b ∷ bs) p shaped found = elim (failing_either test (block_spots k b) (spots_from (suc k) bs) p found) [
  | inl here ↦
      let at = failing_behind test k b 0 [] (items_in b) p here in
      let items : length (items_in b) ≡ length b.phis + length b.body + 1 = simp (length-append, length-map) (omega arith) in
      (omega (arith, at.0), omega (arith, at.1, items, shaped.0.1))
  | inr there ↦
      let rest = failing_from test (suc k) bs p shaped.1 there in
      (omega (arith, rest.0), rest.1)
]

rule_within : (m : Module) (rs : List (ℕ × Demand)) (b : Breach) → IsShaped m → first_rule m rs ≡ Some b → IsWithin (length m.blocks) b.at
rule_within m [] b shaped found = absurd (cc)
rule_within m (r ∷ rs) b shaped found = by_breach (first_breach m r.1) refl found (rule_within m rs b shaped)
  where
    by_breach : (o : Option Place) → first_breach m r.1 ≡ o → breach_or r.0 o (first_rule m rs) ≡ Some b → (first_rule m rs ≡ Some b → IsWithin (length m.blocks) b.at) → IsWithin (length m.blocks) b.at
    by_breach None is found rest = rest found
    by_breach (Some p) is found rest =
        let one : record { rule = r.0; at = p } ≡ b = cc in
        let at : p ≡ b.at = ap (λ (x : Breach). x.at) one in
        let within = failing_from (r.1 m) 0 m.blocks b.at shaped.each_block (is ∙ ap Some at) in
        (omega (arith, within.0), within.1)

pub broken_within : (m : Module) (b : Breach) → IsShaped m → broken m ≡ Some b → (b.at.block < length m.blocks) × (b.at.item < 2 ^ 32)
broken_within m b shaped found = rule_within m rules b shaped found
