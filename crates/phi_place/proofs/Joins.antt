-- For the code: the clauses of a join, and the search in an ascending list.
use Rattle.std.proofs.Common.{◌≡◌, ◌≢◌, ℕ, zero, suc, ◌+◌, ◌<◌, ◌≤◌, inl, inr, nat_eq, if◌then◌else◌, Bool, true, false, All, List, [], ◌∷◌, ◌++◌, length, map, get_or, drop, refl, sym, ap, ◌∙◌, subst, ⊎_elim, arith, append_assoc, take, ◌-◌, ◌||◌, pos}
use Rattle.std.specs.Prelude.{Result, Ok, Err, MatchResult, is_ok}
use Rattle.std.specs.Ordering.{nat_cmp}
use Rattle.std.specs.List.{list_any}
use Rattle.std.specs.List.Sorted.{IsStrictlyIncreasing, IsBinarySearchResult}
use Rattle.std.proofs.lemmas.List.{drop_more}
use Rattle.std.proofs.lemmas.List.Kept.{AllPairs-from_increasing}
use Rattle.std.proofs.lemmas.List.Sorted.{searched}
use Rattle.std.proofs.lemmas.Bool.{eq-eqb, ne_eqb, cases_lt}
use Rattle.std.proofs.lemmas.List.Elements.{All-head, All-cons, All-nil}
use Rattle.qir_module.specs.declared.instruction.Operand.{Operand}
use Rattle.qir_module.specs.declared.instruction.Operand.TheVariants.{Register, Fixed}
use Rattle.qir_module.specs.declared.block.Phi.{Phi}
use Rattle.qir_module.specs.Numbered.{CountsFrom}
use Rattle.core_ir.specs.declared.expression.CellKind.{CellKind}
use Rattle.cell_operands.specs.Operands.{is_number, operand_of, IsBelow}
use Rattle.phi_place.specs.State.{CellState}
use Rattle.phi_place.specs.Phis.{ways_differ, is_listed, entries_of, phis_for, values_for, first_values, Carries, IsWay, IsAmong, HaveOwnBlocks}
use Rattle.phi_place.proofs.Carries.{ways_carry, same_where_not_differ}

-- ---- joins

among_at : (ways : List CellState) (k : ℕ) (d : CellState) → k < length ways → IsAmong (get_or ways k d) ways
among_at [] k d l = absurd (omega (arith, l))
among_at (w ∷ ways) zero d l = inl refl
among_at (w ∷ ways) (suc k) d l = inr (among_at ways k d (omega (arith, l)))

first_is : (ways : List CellState) (count next : ℕ) → 0 < length ways → All (IsWay count next) ways → (length (first_values ways) ≡ count) × All (IsBelow next) (first_values ways)
first_is [] count next some all = absurd (omega (arith, some))
first_is (w ∷ ways) count next some all = All-head (IsWay count next) w ways all

pub join_carries : (ways : List CellState) (kinds : List CellKind) (next : ℕ) → 0 < length ways → HaveOwnBlocks ways → All (IsWay (length kinds) next) ways
    → All (λ way. Carries (phis_for (ways_differ ways) ways kinds 0 next) kinds way (values_for (ways_differ ways) (first_values ways) 0 next)) ways
join_carries ways kinds next some own all k d l =
    let first = first_is ways (length kinds) next some all in
    ways_carry (ways_differ ways) ways kinds (first_values ways) (get_or ways k d) next own (among_at ways k d l) first.0 first.1 (λ c lt same. same_where_not_differ ways (get_or ways k d) c (among_at ways k d l) same)

pub header_carries : (needs : ℕ → Bool) (entry : CellState) (kinds : List CellKind) (next : ℕ) → IsWay (length kinds) next entry
    → Carries (phis_for needs (entry ∷ []) kinds 0 next) kinds entry (values_for needs entry.values 0 next)
header_carries needs entry kinds next fits = ways_carry needs (entry ∷ []) kinds entry.values entry next (tt, tt) (inl refl) fits.0 fits.1 (λ c lt same. refl)

-- the entries name the ways' blocks
abbrev pub blocks_of : List CellState → List ℕ
blocks_of ways = map (λ (w : CellState). w.block) ways

names_of : (ways : List CellState) (c : ℕ) → map (λ (e : Operand × ℕ). e.1) (entries_of ways c) ≡ blocks_of ways
names_of [] c = refl
names_of (w ∷ ways) c = ap (λ (names : List ℕ). w.block ∷ names) (names_of ways c)

pub entries_name : (needs : ℕ → Bool) (ways : List CellState) (kinds : List CellKind) (c next : ℕ) → All (λ (p : Phi). map (λ (e : Operand × ℕ). e.1) p.entries ≡ blocks_of ways) (phis_for needs ways kinds c next)
entries_name needs ways [] c next = All-nil (λ (p : Phi). map (λ (e : Operand × ℕ). e.1) p.entries ≡ blocks_of ways)
entries_name needs ways (kind ∷ kinds) c next = one (needs c) (entries_name needs ways kinds (suc c) (suc next)) (entries_name needs ways kinds (suc c) next)
  where
    one : (need : Bool) → All (λ (p : Phi). map (λ (e : Operand × ℕ). e.1) p.entries ≡ blocks_of ways) (phis_for needs ways kinds (suc c) (suc next))
        → All (λ (p : Phi). map (λ (e : Operand × ℕ). e.1) p.entries ≡ blocks_of ways) (phis_for needs ways kinds (suc c) next)
        → All (λ (p : Phi). map (λ (e : Operand × ℕ). e.1) p.entries ≡ blocks_of ways) (if need then record { register = next; number = is_number kind; entries = entries_of ways c } ∷ phis_for needs ways kinds (suc c) (suc next) else phis_for needs ways kinds (suc c) next)
    one true more same = All-cons (λ (p : Phi). map (λ (e : Operand × ℕ). e.1) p.entries ≡ blocks_of ways) (record { register = next; number = is_number kind; entries = entries_of ways c }) (phis_for needs ways kinds (suc c) (suc next)) (names_of ways c) more
    one false more same = same

-- the registers of phis
abbrev pub registers_of : List Phi → List ℕ
registers_of phis = map (λ (p : Phi). p.register) phis

phis_count : (needs : ℕ → Bool) (ways : List CellState) (kinds : List CellKind) (c next : ℕ) → CountsFrom next (registers_of (phis_for needs ways kinds c next))
phis_count needs ways [] c next = tt
phis_count needs ways (kind ∷ kinds) c next = one (needs c) (phis_count needs ways kinds (suc c) (suc next)) (phis_count needs ways kinds (suc c) next)
  where
    one : (need : Bool) → CountsFrom (suc next) (registers_of (phis_for needs ways kinds (suc c) (suc next))) → CountsFrom next (registers_of (phis_for needs ways kinds (suc c) next))
        → CountsFrom next (registers_of (if need then record { register = next; number = is_number kind; entries = entries_of ways c } ∷ phis_for needs ways kinds (suc c) (suc next) else phis_for needs ways kinds (suc c) next))
    one true more same = (refl, more)
    one false more same = same

pub counted_phis : (needs : ℕ → Bool) (ways : List CellState) (kinds : List CellKind) (next : ℕ) (phis : List Phi) → phis ≡ phis_for needs ways kinds 0 next → CountsFrom next (registers_of phis)
counted_phis needs ways kinds next phis is = subst (λ ps. CountsFrom next (registers_of ps)) (sym is) (phis_count needs ways kinds 0 next)

-- ---- one cell further

pub phis_step : (needs : ℕ → Bool) (ways : List CellState) (kinds : List CellKind) (c next : ℕ) (d : CellKind) → c < length kinds
    → phis_for needs ways (drop c kinds) c next ≡ (if needs c then record { register = next; number = is_number (get_or kinds c d); entries = entries_of ways c } ∷ phis_for needs ways (drop (c + 1) kinds) (suc c) (suc next) else phis_for needs ways (drop (c + 1) kinds) (suc c) next)
phis_step needs ways kinds c next d l = ap (λ ks. phis_for needs ways ks c next) (drop_more kinds c d l)

pub values_step : (needs : ℕ → Bool) (values : List Operand) (c next : ℕ) → c < length values
    → values_for needs (drop c values) c next ≡ (if needs c then Register next ∷ values_for needs (drop (c + 1) values) (suc c) (suc next) else operand_of values c ∷ values_for needs (drop (c + 1) values) (suc c) next)
values_step needs values c next l = ap (λ os. values_for needs os c next) (drop_more values c (Fixed (pos 0)) l)

-- ---- the search

not_listed : (xs : List ℕ) (c : ℕ) → ((k : ℕ) → k < length xs → get_or xs k 0 ≢ c) → list_any (λ k. nat_eq k c) xs ≡ false
not_listed [] c none = refl
not_listed (x ∷ xs) c none = ap (λ b. b || list_any (λ k. nat_eq k c) xs) (ne_eqb x c (none 0 (omega arith))) ∙ not_listed xs c (λ k l. none (suc k) (omega (arith, l)))

listed_at : (xs : List ℕ) (c i : ℕ) → i < length xs → get_or xs i 0 ≡ c → list_any (λ k. nat_eq k c) xs ≡ true
listed_at [] c i l is = absurd (omega (arith, l))
listed_at (x ∷ xs) c zero l is = ap (λ b. b || list_any (λ k. nat_eq k c) xs) (eq-eqb x c is)
listed_at (x ∷ xs) c (suc i) l is = or_true (nat_eq x c) (list_any (λ k. nat_eq k c) xs) (listed_at xs c i (omega (arith, l)) is)
  where
    or_true : (a b : Bool) → b ≡ true → (a || b) ≡ true
    or_true true b e = refl
    or_true false b e = e

rises_to : (xs : List ℕ) → IsStrictlyIncreasing xs → (i j : ℕ) → i ≤ j → j < length xs → get_or xs i 0 ≤ get_or xs j 0
rises_to xs rises i j le l =
    ⊎_elim (λ lt. let strict : get_or xs i 0 < get_or xs j 0 = AllPairs-from_increasing xs rises i j 0 lt l in omega (arith, strict))
    (λ ge. let same : i ≡ j = omega (arith, ge, le) in subst (λ (n : ℕ). get_or xs i 0 ≤ get_or xs n 0) same (omega arith)) (cases_lt i j)

pub search_lists : (xs : List ℕ) (c : ℕ) (r : Result ℕ ℕ) → IsBinarySearchResult (λ y. nat_cmp y c) xs r → IsStrictlyIncreasing xs → is_ok r ≡ is_listed xs c
search_lists xs c r position rises = by_case r (searched xs c r position (rises_to xs rises))
  where
    by_case : (r : Result ℕ ℕ) → MatchResult r (λ i. (i < length xs) × (get_or xs i 0 ≡ c)) (λ i. (i ≤ length xs) × ((k : ℕ) → k < i → get_or xs k 0 < c) × ((k : ℕ) → i ≤ k → k < length xs → c < get_or xs k 0)) → is_ok r ≡ is_listed xs c
    by_case (Ok i) found = sym (listed_at xs c i found.0 found.1)
    by_case (Err i) none =
        sym (not_listed xs c (λ k l same. ⊎_elim (λ before. absurd (omega (arith, same, none.1 k before))) (λ behind. absurd (omega (arith, same, none.2 k behind l))) (cases_lt k i)))

-- ---- the clauses

pub carried_header : (needs : ℕ → Bool) (entry : CellState) (kinds : List CellKind) (next : ℕ) (phis : List Phi) (values : List Operand) → IsWay (length kinds) next entry
    → phis ≡ phis_for needs (entry ∷ []) kinds 0 next → values ≡ values_for needs entry.values 0 next → Carries phis kinds entry values
carried_header needs entry kinds next phis values fits first second =
    subst (λ ps. Carries ps kinds entry values) (sym first) (subst (Carries (phis_for needs (entry ∷ []) kinds 0 next) kinds entry) (sym second) (header_carries needs entry kinds next fits))

pub carried_join : (ways : List CellState) (kinds : List CellKind) (next : ℕ) (phis : List Phi) (values : List Operand) → 0 < length ways → HaveOwnBlocks ways → All (IsWay (length kinds) next) ways
    → phis ≡ phis_for (ways_differ ways) ways kinds 0 next → values ≡ values_for (ways_differ ways) (first_values ways) 0 next → All (λ way. Carries phis kinds way values) ways
carried_join ways kinds next phis values some own fits is also =
    subst (λ ps. All (λ way. Carries ps kinds way values) ways) (sym is)
    (subst (λ vs. All (λ way. Carries (phis_for (ways_differ ways) ways kinds 0 next) kinds way vs) ways) (sym also) (join_carries ways kinds next some own fits))

pub named_phis : (needs : ℕ → Bool) (ways : List CellState) (kinds : List CellKind) (next : ℕ) (phis : List Phi) → phis ≡ phis_for needs ways kinds 0 next → All (λ (p : Phi). map (λ (e : Operand × ℕ). e.1) p.entries ≡ blocks_of ways) phis
named_phis needs ways kinds next phis is = subst (All (λ (p : Phi). map (λ (e : Operand × ℕ). e.1) p.entries ≡ blocks_of ways)) (sym is) (entries_name needs ways kinds 0 next)

pub named_header : (needs : ℕ → Bool) (entry : CellState) (kinds : List CellKind) (next : ℕ) (phis : List Phi) → phis ≡ phis_for needs (entry ∷ []) kinds 0 next → All (λ (p : Phi). map (λ (e : Operand × ℕ). e.1) p.entries ≡ entry.block ∷ []) phis
named_header needs entry kinds next phis is = subst (All (λ (p : Phi). map (λ (e : Operand × ℕ). e.1) p.entries ≡ entry.block ∷ [])) (sym is) (entries_name needs (entry ∷ []) kinds 0 next)

-- the operands of the first way
pub first_of : (ways : List CellState) (first : CellState) (values : List Operand) → 0 < length ways → first ≡ get_or ways 0 first → values ≡ first.values → values ≡ first_values ways
first_of [] first values some is seen = absurd (omega (arith, some))
first_of (w ∷ ways) first values some is seen = seen ∙ ap (λ (v : CellState). v.values) is

-- ---- one cell further, as the code goes

one_up : (c : ℕ) → suc c ≡ c + 1
one_up c = omega arith

pub phis_then : (needs : ℕ → Bool) (ways : List CellState) (kinds : List CellKind) (c free free' : ℕ) (d : CellKind) (phis phis' all : List Phi) (number : Bool) (entries : List (Operand × ℕ))
    → c < length kinds → needs c ≡ true → free' ≡ free + 1 → phis' ≡ phis ++ record { register = free; number = number; entries = entries } ∷ [] → number ≡ is_number (get_or kinds c d) → entries ≡ entries_of ways c
    → phis ++ phis_for needs ways (drop c kinds) c free ≡ all → phis' ++ phis_for needs ways (drop (c + 1) kinds) (c + 1) free' ≡ all
phis_then needs ways kinds c free free' d phis phis' all number entries l need up push is also so_far =
    let phi : Phi = record { register = free; number = is_number (get_or kinds c d); entries = entries_of ways c } in
    let made : phis' ≡ phis ++ phi ∷ [] = push ∙ ap (λ (n : Bool). phis ++ record { register = free; number = n; entries = entries } ∷ []) is ∙ ap (λ (es : List (Operand × ℕ)). phis ++ record { register = free; number = is_number (get_or kinds c d); entries = es } ∷ []) also in
    let left : phis_for needs ways (drop c kinds) c free ≡ phi ∷ phis_for needs ways (drop (c + 1) kinds) (suc c) (suc free) =
    phis_step needs ways kinds c free d l ∙ ap (λ b. if b then phi ∷ phis_for needs ways (drop (c + 1) kinds) (suc c) (suc free) else phis_for needs ways (drop (c + 1) kinds) (suc c) free) need in
    ap (λ ps. ps ++ phis_for needs ways (drop (c + 1) kinds) (c + 1) free') made
    ∙ append_assoc phis (phi ∷ []) (phis_for needs ways (drop (c + 1) kinds) (c + 1) free')
    ∙ ap (λ (n : ℕ). phis ++ (phi ∷ phis_for needs ways (drop (c + 1) kinds) n free')) (sym (one_up c))
    ∙ ap (λ (n : ℕ). phis ++ (phi ∷ phis_for needs ways (drop (c + 1) kinds) (suc c) n)) (up ∙ sym (one_up free))
    ∙ ap (λ ps. phis ++ ps) (sym left) ∙ so_far

pub phis_else : (needs : ℕ → Bool) (ways : List CellState) (kinds : List CellKind) (c free free' : ℕ) (d : CellKind) (phis phis' all : List Phi) → c < length kinds → needs c ≡ false → free' ≡ free → phis' ≡ phis
    → phis ++ phis_for needs ways (drop c kinds) c free ≡ all → phis' ++ phis_for needs ways (drop (c + 1) kinds) (c + 1) free' ≡ all
phis_else needs ways kinds c free free' d phis phis' all l need stays same so_far =
    let phi : Phi = record { register = free; number = is_number (get_or kinds c d); entries = entries_of ways c } in
    let left : phis_for needs ways (drop c kinds) c free ≡ phis_for needs ways (drop (c + 1) kinds) (suc c) free =
    phis_step needs ways kinds c free d l ∙ ap (λ b. if b then phi ∷ phis_for needs ways (drop (c + 1) kinds) (suc c) (suc free) else phis_for needs ways (drop (c + 1) kinds) (suc c) free) need in
    ap (λ ps. ps ++ phis_for needs ways (drop (c + 1) kinds) (c + 1) free') same
    ∙ ap (λ (n : ℕ). phis ++ phis_for needs ways (drop (c + 1) kinds) n free') (sym (one_up c))
    ∙ ap (λ (n : ℕ). phis ++ phis_for needs ways (drop (c + 1) kinds) (suc c) n) stays
    ∙ ap (λ ps. phis ++ ps) (sym left) ∙ so_far

pub values_then : (needs : ℕ → Bool) (first : List Operand) (c free free' : ℕ) (values values' all : List Operand) → c < length first → needs c ≡ true → free' ≡ free + 1 → values' ≡ values ++ Register free ∷ []
    → values ++ values_for needs (drop c first) c free ≡ all → values' ++ values_for needs (drop (c + 1) first) (c + 1) free' ≡ all
values_then needs first c free free' values values' all l need up push so_far =
    let left : values_for needs (drop c first) c free ≡ Register free ∷ values_for needs (drop (c + 1) first) (suc c) (suc free) =
    values_step needs first c free l ∙ ap (λ b. if b then Register free ∷ values_for needs (drop (c + 1) first) (suc c) (suc free) else operand_of first c ∷ values_for needs (drop (c + 1) first) (suc c) free) need in
    ap (λ vs. vs ++ values_for needs (drop (c + 1) first) (c + 1) free') push
    ∙ append_assoc values (Register free ∷ []) (values_for needs (drop (c + 1) first) (c + 1) free')
    ∙ ap (λ (n : ℕ). values ++ (Register free ∷ values_for needs (drop (c + 1) first) n free')) (sym (one_up c))
    ∙ ap (λ (n : ℕ). values ++ (Register free ∷ values_for needs (drop (c + 1) first) (suc c) n)) (up ∙ sym (one_up free))
    ∙ ap (λ vs. values ++ vs) (sym left) ∙ so_far

pub values_else : (needs : ℕ → Bool) (first : List Operand) (c free free' : ℕ) (values values' all : List Operand) (operand : Operand) → c < length first → needs c ≡ false → free' ≡ free → values' ≡ values ++ operand ∷ []
    → operand ≡ operand_of first c → values ++ values_for needs (drop c first) c free ≡ all → values' ++ values_for needs (drop (c + 1) first) (c + 1) free' ≡ all
values_else needs first c free free' values values' all operand l need stays push is so_far =
    let left : values_for needs (drop c first) c free ≡ operand_of first c ∷ values_for needs (drop (c + 1) first) (suc c) free =
    values_step needs first c free l ∙ ap (λ b. if b then Register free ∷ values_for needs (drop (c + 1) first) (suc c) (suc free) else operand_of first c ∷ values_for needs (drop (c + 1) first) (suc c) free) need in
    ap (λ vs. vs ++ values_for needs (drop (c + 1) first) (c + 1) free') (push ∙ ap (λ (o : Operand). values ++ o ∷ []) is)
    ∙ append_assoc values (operand_of first c ∷ []) (values_for needs (drop (c + 1) first) (c + 1) free')
    ∙ ap (λ (n : ℕ). values ++ (operand_of first c ∷ values_for needs (drop (c + 1) first) n free')) (sym (one_up c))
    ∙ ap (λ (n : ℕ). values ++ (operand_of first c ∷ values_for needs (drop (c + 1) first) (suc c) n)) stays
    ∙ ap (λ vs. values ++ vs) (sym left) ∙ so_far
