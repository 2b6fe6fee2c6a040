-- The entries of phis, beside the names of predecessors.
use Rattle.std.proofs.Common.{◌≡◌, ℕ, zero, suc, ◌+◌, nat_eq, Bool, true, not, ◌&&◌, ◌||◌, cond, List, [], ◌∷◌, ◌++◌, Some, is_some, refl, ap, sym, ◌∙◌, inl, inr, eq-eqb, arith}
use Rattle.std.proofs.lemmas.List.Sums.{sum_by-cons}
use Rattle.std.proofs.lemmas.Option.{slice_get_read, slice_get_past}
use Rattle.std.proofs.Common.{◌<◌, ◌≤◌, length, drop, get_or, slice_get}
use Rattle.qir_module.specs.declared.block.Block.{Block}
use Rattle.std.specs.Prelude.{count_by}
use Rattle.std.specs.List.{list_all}
use Rattle.std.specs.HashMap.{get}
use Rattle.std.specs.HashSet.{contains}
use Rattle.qir_module.specs.Passes.{names_each_once}
use Rattle.profile_check.specs.Registers.{Numbers, HasAll}
use Rattle.std.proofs.lemmas.Bool.{ne_eqb}
use Rattle.std.proofs.lemmas.Bool.Decides.{eqb_tells}
use Rattle.qir_module.specs.Numbered.{is_among}
use Rattle.profile_check.specs.Phis.{Counts, single, is_single, times, HasCounts, name_in, names_at}

pub single_step : (k : ℕ) → single (suc k) ≡ Some (not (is_some (single k)))
single_step zero = refl
single_step (suc zero) = refl
single_step (suc (suc k)) = refl

pub among_front : (r : ℕ) (ns : List ℕ) (n : ℕ) → is_among (r ∷ ns) n ≡ cond (nat_eq r n) true (is_among ns n)
among_front r ns n = elim (eqb_tells r n) [
  | inl same ↦ ap (λ (t : Bool). t || is_among ns n) (eq-eqb n r (sym same.1)) ∙ ap (λ (t : Bool). cond t true (is_among ns n)) (sym same.0)
  | inr other ↦ ap (λ (t : Bool). t || is_among ns n) (ne_eqb n r (λ e. other.1 (sym e))) ∙ ap (λ (t : Bool). cond t true (is_among ns n)) (sym other.0)
]

-- ---- counts and sets

times_count : (n : ℕ) (ns : List ℕ) → times n ns ≡ count_by (nat_eq n) ns
times_count n [] = refl
times_count n (x ∷ xs) =
    let more : suc (times n xs) ≡ 1 + count_by (nat_eq n) xs = omega (arith, times_count n xs) in
    let same : times n xs ≡ 0 + count_by (nat_eq n) xs = omega (arith, times_count n xs) in
    elim (eqb_tells x n) [
      | inl is ↦
          ap (λ (t : Bool). cond t (suc (times n xs)) (times n xs)) is.0
          ∙ more
          ∙ ap (λ (t : Bool). cond t 1 0 + count_by (nat_eq n) xs) (sym (eq-eqb n x (sym is.1)))
          ∙ sym (sum_by-cons (λ (y : ℕ). cond (nat_eq n y) 1 0) x xs)
      | inr other ↦
          ap (λ (t : Bool). cond t (suc (times n xs)) (times n xs)) other.0
          ∙ same
          ∙ ap (λ (t : Bool). cond t 1 0 + count_by (nat_eq n) xs) (sym (ne_eqb n x (λ e. other.1 (sym e))))
          ∙ sym (sum_by-cons (λ (y : ℕ). cond (nat_eq n y) 1 0) x xs)
    ]

single_one : (k : ℕ) → is_single (single k) ≡ nat_eq k 1
single_one zero = refl
single_one (suc zero) = refl
single_one (suc (suc k)) = sym (ne_eqb (suc (suc k)) 1 (λ e. absurd (omega (arith, e))))

alone_same : (counts : Counts) (es names : List ℕ) → HasCounts counts es → list_all (λ n. is_single (get nat_eq counts n)) names ≡ list_all (λ n. nat_eq (count_by (nat_eq n) es) 1) names
alone_same counts es [] has = refl
alone_same counts es (n ∷ ns) has =
    ap (λ (t : Bool). t && list_all (λ n. is_single (get nat_eq counts n)) ns) (ap is_single (has n) ∙ single_one (times n es) ∙ ap (λ (k : ℕ). nat_eq k 1) (times_count n es))
    ∙ ap (λ (t : Bool). nat_eq (count_by (nat_eq n) es) 1 && t) (alone_same counts es ns has)

all_in : (set : Numbers) (names es : List ℕ) → HasAll set names → list_all (contains nat_eq set) es ≡ list_all (is_among names) es
all_in set names [] has = refl
all_in set names (e ∷ es) has =
    ap (λ (t : Bool). t && list_all (contains nat_eq set) es) (has e) ∙ ap (λ (t : Bool). is_among names e && t) (all_in set names es has)

pub once_each : (counts : Counts) (set : Numbers) (es names : List ℕ) → HasCounts counts es → HasAll set names
    → (list_all (λ n. is_single (get nat_eq counts n)) names && list_all (contains nat_eq set) es) ≡ names_each_once es names
once_each counts set es names counted has =
    ap (λ (t : Bool). t && list_all (contains nat_eq set) es) (alone_same counts es names counted)
    ∙ ap (λ (t : Bool). list_all (λ n. nat_eq (count_by (nat_eq n) es) 1) names && t) (all_in set names es has)

-- ---- the names at some places

names_suc : (blocks : List Block) (i : ℕ) (places : List ℕ) → i < length places → names_at blocks (drop i places) ≡ name_in (slice_get blocks (get_or places i 0)) ++ names_at blocks (drop (suc i) places)
names_suc blocks i [] within = absurd (omega arith)
names_suc blocks zero (p ∷ ps) within = refl
names_suc blocks (suc i) (p ∷ ps) within = names_suc blocks i ps (omega arith)

pub names_step : (blocks : List Block) (i : ℕ) (places : List ℕ) → i < length places → names_at blocks (drop i places) ≡ name_in (slice_get blocks (get_or places i 0)) ++ names_at blocks (drop (i + 1) places)
names_step blocks i places within =
    let one : suc i ≡ i + 1 = omega arith in
    names_suc blocks i places within ∙ ap (λ (n : ℕ). name_in (slice_get blocks (get_or places i 0)) ++ names_at blocks (drop n places)) one

-- ---- the name of the block at a place

pub name_within : (blocks : List Block) (place : ℕ) (b : Block) → place < length blocks → b ≡ get_or blocks place b → name_in (slice_get blocks place) ≡ b.name ∷ []
name_within blocks place b within is = ap name_in (slice_get_read blocks (length blocks) place b refl within is)

pub name_past : (blocks : List Block) (place : ℕ) → length blocks ≤ place → name_in (slice_get blocks place) ≡ []
name_past blocks place past = ap name_in (slice_get_past blocks place past)
