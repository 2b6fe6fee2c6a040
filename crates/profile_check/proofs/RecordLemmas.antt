-- The rule on records and returns, item by item.
use Rattle.std.proofs.Common.{◌≡◌, ℕ, suc, ◌+◌, ◌<◌, Bool, true, false, ◌||◌, if◌then◌else◌, List, [], ◌∷◌, ◌++◌, length, map, take, Some, None, refl, ap, ◌∙◌, arith, append_assoc}
use Rattle.std.specs.List.{list_any}
use Rattle.qir_module.specs.Module.{Module}
use Rattle.qir_module.specs.declared.instruction.Last.{Last}
use Rattle.qir_module.specs.declared.instruction.Last.TheVariants.{Jump, Branch, Return}
use Rattle.qir_module.specs.declared.block.Phi.{Phi}
use Rattle.qir_module.specs.declared.block.Block.{Block}
use Rattle.qir_module.specs.Spots.{Item, ThePhi, TheInstr, TheLast, items_in, Spot, spots_behind}
use Rattle.qir_module.specs.Passes.{is_record, returns, some_returns, item_records_kept, records_kept}
use Rattle.qir_module.specs.Broken.{first_failing, first_breach}
use Rattle.profile_check.specs.Walk.{first_place}
use Rattle.profile_check.specs.Records.{return_fits, record_fits, records_from, records_in, records_at}
use Rattle.profile_check.proofs.Walks.{item_at, first_in_spots, by_blocks, first_place_same, start_or, whole_module}

-- the last item of a block
pub last_record : (ends returned recorded : Bool) (i : ℕ) (last : Last) → records_from ends returned recorded i (TheLast last ∷ []) ≡ (if return_fits returned last then None else Some i)
last_record ends returned recorded i last = refl

-- phis fit, and are no records
pub skip_phis : (ends returned : Bool) (i : ℕ) (phis : List Phi) (rest : List Item) → records_from ends returned false i (map ThePhi phis ++ rest) ≡ records_from ends returned false (i + length phis) rest
skip_phis ends returned i [] rest = let e : i ≡ i + 0 = omega arith in ap (λ (n : ℕ). records_from ends returned false n rest) e
skip_phis ends returned i (p ∷ phis) rest =
    let e : suc i + length phis ≡ i + suc (length phis) = omega arith in
    skip_phis ends returned (suc i) phis rest ∙ ap (λ (n : ℕ). records_from ends returned false n rest) e

pub behind_phis : (returned : Bool) (b : Block) → records_in returned b ≡ records_from (returns b.last) returned false (length b.phis) (map TheInstr b.body ++ TheLast b.last ∷ [])
behind_phis returned b =
    let e : 0 + length b.phis ≡ length b.phis = omega arith in
    let body = map TheInstr b.body in
    ap (records_from (returns b.last) returned false 0) (append_assoc (map ThePhi b.phis) body (TheLast b.last ∷ []))
    ∙ skip_phis (returns b.last) returned 0 b.phis (body ++ TheLast b.last ∷ [])
    ∙ ap (λ (n : ℕ). records_from (returns b.last) returned false n (body ++ TheLast b.last ∷ [])) e

-- ---- as the demand says it

fits_same : (m : Module) (s : Spot) (x : Item) → item_records_kept m s x ≡ record_fits (returns s.of.last) (some_returns (take s.block m.blocks)) (list_any is_record s.front) x
fits_same m s (ThePhi phi) = refl
fits_same m s (TheInstr instr) = refl
fits_same m s (TheLast last) = elim last as (λ l. item_records_kept m s (TheLast l) ≡ return_fits (some_returns (take s.block m.blocks)) l) [ Jump to ↦ refl | Branch test first second ↦ refl | Return code ↦ refl ]

any_more : (front : List Item) (x : Item) → list_any is_record (front ++ x ∷ []) ≡ (list_any is_record front || is_record x)
any_more [] x = elim (is_record x) as (λ t. (t || false) ≡ (false || t)) [ true ↦ refl | false ↦ refl ]
any_more (y ∷ front) x =
    ap (λ (t : Bool). is_record y || t) (any_more front x)
    ∙ elim (is_record y) as (λ t. (t || (list_any is_record front || is_record x)) ≡ ((t || list_any is_record front) || is_record x)) [ true ↦ refl | false ↦ refl ]

by_item : (m : Module) (k : ℕ) (b : Block) (i : ℕ) (front items : List Item)
    → item_at (first_failing (λ s. item_records_kept m s s.here) (spots_behind k b i front items)) ≡ records_from (returns b.last) (some_returns (take k m.blocks)) (list_any is_record front) i items
by_item m k b i front [] = refl
by_item m k b i front (x ∷ xs) =
    let s : Spot = record { block = k; item = i; of = b; front = front; here = x } in
    let rest = spots_behind k b (suc i) (front ++ x ∷ []) xs in
    let test = λ (t : Spot). item_records_kept m t t.here in
    let returned = some_returns (take k m.blocks) in
    ap (λ (t : Bool). item_at (if t then first_failing test rest else Some (record { block = k; item = i }))) (fits_same m s x)
    ∙ elim (record_fits (returns b.last) returned (list_any is_record front) x) as (λ t. item_at (if t then first_failing test rest else Some (record { block = k; item = i })) ≡ (if t then records_from (returns b.last) returned (list_any is_record front || is_record x) (suc i) xs else Some i)) [
      | true ↦ by_item m k b (suc i) (front ++ x ∷ []) xs ∙ ap (λ (t : Bool). records_from (returns b.last) returned t (suc i) xs) (any_more front x)
      | false ↦ refl
    ]

pub records_breach : (m : Module) → 0 < length m.blocks → first_breach m records_kept ≡ start_or (some_returns m.blocks) (first_place (records_at m.blocks) 0 m.blocks)
records_breach m some =
    let test = λ (s : Spot). item_records_kept m s s.here in
    whole_module (some_returns m.blocks) test m.blocks some
    ∙ ap (start_or (some_returns m.blocks)) (
    by_blocks test 0 m.blocks
    ∙ first_place_same (first_in_spots test) (records_at m.blocks) 0 m.blocks (λ k b. by_item m k b 0 [] (items_in b)))
