-- Joins and starts of loops are asked about some cells alone: the phis, and the operands behind them, are those of all cells.
use Rattle.std.proofs.Common.{◌≡◌, ⊎_elim, ℕ, zero, suc, ◌+◌, ◌<◌, ◌≤◌, ◌-◌, if◌then◌else◌, Bool, true, false, not, ◌&&◌, ◌||◌, All, List, [], ◌∷◌, length, map, get_or, take, ◌++◌, pos, Option, Some, None, refl, sym, ap, ◌∙◌, subst, arith, nat_eq, nat_lt, zero-add}
use Rattle.std.specs.Prelude.{slice_get, filter}
use Rattle.std.specs.List.{filter_map, cons_option, range_with_len}
use Rattle.std.proofs.lemmas.List.FromFn.{length-range_with_len, get_or-range_with_len, map-range_with_len_more}
use Rattle.std.specs.List.Sorted.{IsStrictlyIncreasing}
use Rattle.std.proofs.lemmas.Bool.{cases_lt, eqb-true, ltb-true, lt-ltb}
use Rattle.std.proofs.lemmas.List.{get_or-map, map-id, get_or_default, take_more, append-nil}
use Rattle.std.proofs.lemmas.List.Elements.{All-head, All-tail, filter_passes, filter_map-append}
use Rattle.std.proofs.lemmas.List.Kept.{IsStrictlyIncreasing-filter}
use Rattle.std.proofs.lemmas.Map.Views.{any-filter_same}
use Rattle.std.proofs.lemmas.Option.{slice_get_past, slice_get-get_or}
use Rattle.qir_module.specs.declared.instruction.Operand.{Operand}
use Rattle.qir_module.specs.declared.instruction.Operand.TheVariants.{Register, Fixed}
use Rattle.qir_module.specs.declared.block.Phi.{Phi}
use Rattle.core_ir.specs.declared.expression.CellKind.{CellKind}
use Rattle.cell_operands.specs.Operands.{is_number, operand_of}
use Rattle.phi_place.specs.State.{CellState}
use Rattle.phi_place.specs.Phis.{operand_at, same_operand, all_same, ways_differ, is_listed, entries_of, phis_for, values_for, first_values}
use Rattle.block_lower.specs.Kept.{placed, picked, shortened, AreListed}
use Rattle.block_lower.proofs.Keeping.{has_listed, Ascends, ascends, none_below, none_more, Follows, follows, Aligned, aligned, placed_values}

-- ---- phis

none_picked : (at : ℕ → Option CellKind) (us : List ℕ) (c : ℕ) → Ascends c us → ((x : ℕ) → c ≤ x → at x ≡ None) → filter_map at us ≡ []
none_picked at [] c up none = refl
none_picked at (u ∷ us) c up none =
    ap (λ (o : Option CellKind). cons_option o (filter_map at us)) (none u up.0) ∙ none_picked at us (suc u) up.1 (λ x le. none x (omega (arith, le, up.0)))

-- a cell that has its phi or none in both
hit : (needs short : ℕ → Bool) (ways sways : List CellState) (kinds ks : List CellKind) (us : List ℕ) (u c i next : ℕ) (k : CellKind) → u ≡ c → slice_get kinds c ≡ Some k → short i ≡ needs u → entries_of sways i ≡ entries_of ways u
    → ((m : ℕ) → phis_for short sways (filter_map (slice_get kinds) us) (suc i) m ≡ phis_for needs ways ks (suc c) m)
    → phis_for short sways (filter_map (slice_get kinds) (u ∷ us)) i next ≡ phis_for needs ways (k ∷ ks) c next
hit needs short ways sways kinds ks us u c i next k at kind need entries more =
    ap (λ (o : Option CellKind). phis_for short sways (cons_option o (filter_map (slice_get kinds) us)) i next) (ap (slice_get kinds) at ∙ kind)
    ∙ ap (λ (b : Bool). if b then record { register = next; number = is_number k; entries = entries_of sways i } ∷ phis_for short sways (filter_map (slice_get kinds) us) (suc i) (suc next) else phis_for short sways (filter_map (slice_get kinds) us) (suc i) next) (need ∙ ap needs at)
    ∙ either (needs c)
  where
    either : (b : Bool) → (if b then record { register = next; number = is_number k; entries = entries_of sways i } ∷ phis_for short sways (filter_map (slice_get kinds) us) (suc i) (suc next) else phis_for short sways (filter_map (slice_get kinds) us) (suc i) next)
        ≡ (if b then record { register = next; number = is_number k; entries = entries_of ways c } ∷ phis_for needs ways ks (suc c) (suc next) else phis_for needs ways ks (suc c) next)
    either true =
        ap (λ (es : List (Operand × ℕ)). record { register = next; number = is_number k; entries = es } ∷ phis_for short sways (filter_map (slice_get kinds) us) (suc i) (suc next)) (entries ∙ ap (entries_of ways) at)
        ∙ ap (λ (ps : List Phi). record { register = next; number = is_number k; entries = entries_of ways c } ∷ ps) (more (suc next))
    either false = more next

-- where a cell that is not listed has none
same_phis : (needs short : ℕ → Bool) (ways sways : List CellState) (kinds : List CellKind) (n : ℕ) (ks : List CellKind) (us : List ℕ) (c i next : ℕ)
    → Follows (slice_get kinds) c ks → c + length ks ≤ n → Ascends c us → Aligned short needs i us → Aligned (entries_of sways) (entries_of ways) i us
    → ((x : ℕ) → c ≤ x → x < n → is_listed us x ≡ false → needs x ≡ false)
    → phis_for short sways (filter_map (slice_get kinds) us) i next ≡ phis_for needs ways ks c next
same_phis needs short ways sways kinds n [] us c i next follow fit up align entries outside = ap (λ (ks : List CellKind). phis_for short sways ks i next) (none_picked (slice_get kinds) us c up follow)
same_phis needs short ways sways kinds n (k ∷ ks) [] c i next follow fit up align entries outside =
    same_phis needs short ways sways kinds n ks [] (suc c) i next follow.1 (omega (arith, fit)) tt tt tt (λ x le. outside x (omega (arith, le)))
    ∙ sym (ap (λ (b : Bool). if b then record { register = next; number = is_number k; entries = entries_of ways c } ∷ phis_for needs ways ks (suc c) (suc next) else phis_for needs ways ks (suc c) next) (outside c (omega arith) (omega (arith, fit)) refl))
same_phis needs short ways sways kinds n (k ∷ ks) (u ∷ us) c i next follow fit up align entries outside =
    ⊎_elim
    (λ lt.
    same_phis needs short ways sways kinds n ks (u ∷ us) (suc c) i next follow.1 (omega (arith, fit)) (omega (arith, lt), up.1) align entries (λ x le. outside x (omega (arith, le)))
    ∙ sym (ap (λ (b : Bool). if b then record { register = next; number = is_number k; entries = entries_of ways c } ∷ phis_for needs ways ks (suc c) (suc next) else phis_for needs ways ks (suc c) next) (outside c (omega arith) (omega (arith, fit)) (none_below (u ∷ us) u c (omega arith, up.1) lt))))
    (λ le.
    let at : u ≡ c = omega (arith, le, up.0) in
    hit needs short ways sways kinds ks us u c i next k at follow.0 align.0 entries.0
    (λ m. same_phis needs short ways sways kinds n ks us (suc c) (suc i) m follow.1 (omega (arith, fit)) (subst (λ (k : ℕ). Ascends (suc k) us) at up.1) align.1 entries.1 (λ x low lt none. outside x (omega (arith, low)) lt (none_more u x us (omega (arith, at, low)) none))))
    (cases_lt c u)

-- ---- short ways

operand_short : (cells : List ℕ) (way : CellState) (j : ℕ) → j < length cells → operand_at (shortened cells way) j ≡ operand_at way (get_or cells j 0)
operand_short cells way j l = get_or-map (operand_of way.values) cells j 0 (Fixed (pos 0)) l

same_short : (cells : List ℕ) (o : Operand) (ways : List CellState) (j : ℕ) → j < length cells → all_same o (map (shortened cells) ways) j ≡ all_same o ways (get_or cells j 0)
same_short cells o [] j l = refl
same_short cells o (w ∷ ways) j l =
    ap (λ (p : Operand). same_operand o p && all_same o (map (shortened cells) ways) j) (operand_short cells w j l) ∙ ap (λ (b : Bool). same_operand o (operand_at w (get_or cells j 0)) && b) (same_short cells o ways j l)

differ_short : (cells : List ℕ) (ways : List CellState) (j : ℕ) → j < length cells → ways_differ (map (shortened cells) ways) j ≡ ways_differ ways (get_or cells j 0)
differ_short cells [] j l = refl
differ_short cells (w ∷ ways) j l =
    ap (λ (p : Operand). not (all_same p (map (shortened cells) ways) j)) (operand_short cells w j l) ∙ ap not (same_short cells (operand_at w (get_or cells j 0)) ways j l)

entries_short : (cells : List ℕ) (ways : List CellState) (j : ℕ) → j < length cells → entries_of (map (shortened cells) ways) j ≡ entries_of ways (get_or cells j 0)
entries_short cells [] j l = refl
entries_short cells (w ∷ ways) j l =
    ap (λ (p : Operand). (p, w.block) ∷ entries_of (map (shortened cells) ways) j) (operand_short cells w j l) ∙ ap (λ (es : List (Operand × ℕ)). (operand_at w (get_or cells j 0), w.block) ∷ es) (entries_short cells ways j l)

first_short : (cells : List ℕ) (ways : List CellState) → 0 < length ways → first_values (map (shortened cells) ways) ≡ picked cells (first_values ways)
first_short cells [] some = absurd (omega (arith, some))
first_short cells (w ∷ ways) some = refl

aligned_entries : (cells : List ℕ) (ways : List CellState) → Aligned (entries_of (map (shortened cells) ways)) (entries_of ways) 0 cells
aligned_entries cells ways =
    aligned (entries_of (map (shortened cells) ways)) (entries_of ways) cells 0 (λ j n is l. (let same : n ≡ j = omega (arith, is) in ap (entries_of (map (shortened cells) ways)) same ∙ entries_short cells ways j l))

aligned_differ : (cells : List ℕ) (ways : List CellState) → Aligned (ways_differ (map (shortened cells) ways)) (ways_differ ways) 0 cells
aligned_differ cells ways =
    aligned (ways_differ (map (shortened cells) ways)) (ways_differ ways) cells 0 (λ j n is l. (let same : n ≡ j = omega (arith, is) in ap (ways_differ (map (shortened cells) ways)) same ∙ differ_short cells ways j l))

-- ---- joins

all_zero : (ways : List CellState) (c : ℕ) → All (λ (w : CellState). operand_at w c ≡ Fixed (pos 0)) ways → all_same (Fixed (pos 0)) ways c ≡ true
all_zero [] c each = refl
all_zero (w ∷ ways) c each =
    ap (λ (p : Operand). same_operand (Fixed (pos 0)) p && all_same (Fixed (pos 0)) ways c) (All-head (λ (w : CellState). operand_at w c ≡ Fixed (pos 0)) w ways each) ∙ all_zero ways c (All-tail (λ (w : CellState). operand_at w c ≡ Fixed (pos 0)) w ways each)

none_differ : (ways : List CellState) (c : ℕ) → All (λ (w : CellState). operand_at w c ≡ Fixed (pos 0)) ways → ways_differ ways c ≡ false
none_differ [] c each = refl
none_differ (w ∷ ways) c each =
    ap (λ (p : Operand). not (all_same p ways c)) (All-head (λ (w : CellState). operand_at w c ≡ Fixed (pos 0)) w ways each) ∙ ap not (all_zero ways c (All-tail (λ (w : CellState). operand_at w c ≡ Fixed (pos 0)) w ways each))

pub join_phis_are : (ways short : List CellState) (kinds few : List CellKind) (cells : List ℕ) (n next : ℕ) → IsStrictlyIncreasing cells → length kinds ≤ n → AreListed n cells ways → short ≡ map (shortened cells) ways → few ≡ filter_map (slice_get kinds) cells
    → phis_for (ways_differ short) short few 0 next ≡ phis_for (ways_differ ways) ways kinds 0 next
join_phis_are ways short kinds few cells n next rises fit listed made kind =
    ap (λ (ws : List CellState). phis_for (ways_differ ws) ws few 0 next) made ∙ ap (λ (ks : List CellKind). phis_for (ways_differ (map (shortened cells) ways)) (map (shortened cells) ways) ks 0 next) kind
    ∙ same_phis (ways_differ ways) (ways_differ (map (shortened cells) ways)) ways (map (shortened cells) ways) kinds n kinds cells 0 0 next (follows [] kinds 0 refl) (omega (arith, fit)) (ascends cells rises)
    (aligned_differ cells ways) (aligned_entries cells ways) (λ x le lt none. none_differ ways x (listed x lt none))

pub join_values_are : (ways short : List CellState) (row : List Operand) (cells : List ℕ) (n next : ℕ) → 0 < length ways → IsStrictlyIncreasing cells → length row ≤ n → AreListed n cells ways → short ≡ map (shortened cells) ways → row ≡ first_values ways
    → placed cells (values_for (ways_differ short) (first_values short) 0 next) row ≡ values_for (ways_differ ways) (first_values ways) 0 next
join_values_are ways short row cells n next some rises fit listed made first =
    ap (λ (ws : List CellState). placed cells (values_for (ways_differ ws) (first_values ws) 0 next) row) made
    ∙ ap (λ (os : List Operand). placed cells (values_for (ways_differ (map (shortened cells) ways)) os 0 next) row) (first_short cells ways some ∙ ap (picked cells) (sym first))
    ∙ placed_values (ways_differ ways) (ways_differ (map (shortened cells) ways)) row row n row row [] cells 0 0 next (follows [] row 0 refl) (follows [] row 0 refl) refl refl (omega (arith, fit)) (ascends cells rises)
    (aligned_differ cells ways) (λ x le lt none. (none_differ ways x (listed x lt none), refl))
    ∙ ap (λ (os : List Operand). values_for (ways_differ ways) os 0 next) first

pub first_row : (ways : List CellState) (way : CellState) (row : List Operand) → 0 < length ways → way ≡ get_or ways 0 way → row ≡ way.values → row ≡ first_values ways
first_row [] way row some is same = absurd (omega (arith, some))
first_row (w ∷ ways) way row some is same = same ∙ ap (λ (v : CellState). v.values) is

-- ---- the listed cells

few_ascend : (us : List ℕ) (c n : ℕ) → Ascends c us → All (λ (x : ℕ). x < n) us → length us ≤ n - c
few_ascend [] c n up below = omega arith
few_ascend (u ∷ us) c n up below = omega (arith, up.0, All-head (λ (x : ℕ). x < n) u us below, few_ascend us (suc u) n up.1 (All-tail (λ (x : ℕ). x < n) u us below))

all_below : (n : ℕ) (us below : List ℕ) → below ≡ filter (λ c. nat_lt c n) us → All (λ (x : ℕ). x < n) below
all_below n us below is = subst (All (λ (x : ℕ). x < n)) (sym is) (λ k d l. ltb-true (get_or (filter (λ c. nat_lt c n) us) k d) n (filter_passes (λ c. nat_lt c n) us k d l))

pub few_below : (n : ℕ) (us below : List ℕ) → below ≡ filter (λ c. nat_lt c n) us → IsStrictlyIncreasing below → length below ≤ n
few_below n us below is rises =
    omega (arith, few_ascend below 0 n (ascends below rises) (all_below n us below is))

pub rises_below : (n : ℕ) (us below : List ℕ) → below ≡ filter (λ c. nat_lt c n) us → IsStrictlyIncreasing us → IsStrictlyIncreasing below
rises_below n us below is rises = subst IsStrictlyIncreasing (sym is) (IsStrictlyIncreasing-filter (λ c. nat_lt c n) us rises)

-- of the cells below n as many are listed
pub listed_below : (n : ℕ) (us below : List ℕ) (x : ℕ) → below ≡ filter (λ c. nat_lt c n) us → x < n → is_listed below x ≡ is_listed us x
listed_below n us below x is lt =
    ap (λ (ks : List ℕ). is_listed ks x) is ∙ any-filter_same (λ k. nat_eq k x) (λ c. nat_lt c n) true (λ k same. ap (λ (m : ℕ). nat_lt m n) (eqb-true k x same) ∙ lt-ltb x n lt) us

pub kinds_then : (kinds : List CellKind) (cells : List ℕ) (i d : ℕ) (e : CellKind) → i < length cells → get_or cells i d < length kinds
    → filter_map (slice_get kinds) (take (i + 1) cells) ≡ filter_map (slice_get kinds) (take i cells) ++ get_or kinds (get_or cells i d) e ∷ []
kinds_then kinds cells i d e l within =
    ap (filter_map (slice_get kinds)) (take_more cells i d l) ∙ filter_map-append (slice_get kinds) (take i cells) (get_or cells i d ∷ [])
    ∙ ap (λ (o : Option CellKind). filter_map (slice_get kinds) (take i cells) ++ cons_option o []) (slice_get-get_or kinds (get_or cells i d) e within)

pub kinds_else : (kinds : List CellKind) (cells : List ℕ) (i d : ℕ) → i < length cells → length kinds ≤ get_or cells i d
    → filter_map (slice_get kinds) (take (i + 1) cells) ≡ filter_map (slice_get kinds) (take i cells)
kinds_else kinds cells i d l past =
    ap (filter_map (slice_get kinds)) (take_more cells i d l) ∙ filter_map-append (slice_get kinds) (take i cells) (get_or cells i d ∷ [])
    ∙ ap (λ (o : Option CellKind). filter_map (slice_get kinds) (take i cells) ++ cons_option o []) (slice_get_past kinds (get_or cells i d) past) ∙ append-nil (filter_map (slice_get kinds) (take i cells))

-- ---- starts of loops

pub numbers_more : (n : ℕ) → range_with_len 0 (n + 1) ≡ range_with_len 0 n ++ n ∷ []
numbers_more n =
    sym (map-id (range_with_len 0 (n + 1))) ∙ map-range_with_len_more (λ (x : ℕ). x) 0 n n (zero-add n) ∙ ap (λ (us : List ℕ). us ++ n ∷ []) (map-id (range_with_len 0 n))

pub range_rises : (n : ℕ) → IsStrictlyIncreasing (range_with_len 0 n)
range_rises n = λ k l.
    let few : length (range_with_len 0 n) ≡ n = length-range_with_len 0 n in
    let here : get_or (range_with_len 0 n) k 0 ≡ 0 + k = get_or-range_with_len 0 n k 0 (omega (arith, l, few)) in
    let next : get_or (range_with_len 0 n) (k + 1) 0 ≡ 0 + (k + 1) = get_or-range_with_len 0 n (k + 1) 0 (omega (arith, l, few)) in
    omega (arith, here, next)

range_lists : (n j : ℕ) → j < n → is_listed (range_with_len 0 n) j ≡ true
range_lists n j l = has_listed (range_with_len 0 n) j (j, omega (arith, l, length-range_with_len 0 n), get_or-range_with_len 0 n j j l ∙ zero-add j)

-- each of the cells below n is listed
listed_here : (n : ℕ) (cells below : List ℕ) (j : ℕ) → below ≡ filter (λ c. nat_lt c n) cells → j < length below → is_listed cells (get_or below j 0) ≡ true
listed_here n cells below j is l =
    sym (listed_below n cells below (get_or below j 0) is (all_below n cells below is j 0 l)) ∙ has_listed below (get_or below j 0) (j, l, get_or_default below j (get_or below j 0) 0 l)

aligned_listed : (n : ℕ) (cells below all : List ℕ) → below ≡ filter (λ c. nat_lt c n) cells → all ≡ range_with_len 0 (length below) → Aligned (is_listed all) (is_listed cells) 0 below
aligned_listed n cells below all is each =
    aligned (is_listed all) (is_listed cells) below 0 (λ j m same l. ap (λ (us : List ℕ). is_listed us m) each ∙ range_lists (length below) m (omega (arith, same, l)) ∙ sym (listed_here n cells below j is l))

pub loop_phis_are : (ways short : List CellState) (kinds few : List CellKind) (cells below all : List ℕ) (n next : ℕ) → IsStrictlyIncreasing below → length kinds ≤ n → below ≡ filter (λ c. nat_lt c n) cells → all ≡ range_with_len 0 (length below)
    → short ≡ map (shortened below) ways → few ≡ filter_map (slice_get kinds) below → phis_for (is_listed all) short few 0 next ≡ phis_for (is_listed cells) ways kinds 0 next
loop_phis_are ways short kinds few cells below all n next rises fit is each made kind =
    ap (λ (ws : List CellState). phis_for (is_listed all) ws few 0 next) made ∙ ap (λ (ks : List CellKind). phis_for (is_listed all) (map (shortened below) ways) ks 0 next) kind
    ∙ same_phis (is_listed cells) (is_listed all) ways (map (shortened below) ways) kinds n kinds below 0 0 next (follows [] kinds 0 refl) (omega (arith, fit)) (ascends below rises)
    (aligned_listed n cells below all is each) (aligned_entries below ways) (λ x le lt none. sym (listed_below n cells below x is lt) ∙ none)

pub loop_values_are : (row : List Operand) (cells below all : List ℕ) (n next : ℕ) → IsStrictlyIncreasing below → length row ≤ n → below ≡ filter (λ c. nat_lt c n) cells → all ≡ range_with_len 0 (length below)
    → placed below (values_for (is_listed all) (picked below row) 0 next) row ≡ values_for (is_listed cells) row 0 next
loop_values_are row cells below all n next rises fit is each =
    placed_values (is_listed cells) (is_listed all) row row n row row [] below 0 0 next (follows [] row 0 refl) (follows [] row 0 refl) refl refl (omega (arith, fit)) (ascends below rises)
    (aligned_listed n cells below all is each) (λ x le lt none. (sym (listed_below n cells below x is lt) ∙ none, refl))
