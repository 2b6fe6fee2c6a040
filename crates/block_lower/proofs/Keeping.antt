-- Rows in which some cells are put at operands.
use Rattle.std.proofs.Common.{◌≡◌, ◌≢◌, ◌⊎◌, inl, inr, ⊎_elim, ℕ, zero, suc, ◌+◌, ◌<◌, ◌≤◌, ◌-◌, ◌^◌, nat_eq, if◌then◌else◌, Bool, true, false, ◌||◌, All, AllPairs, List, [], ◌∷◌, ◌++◌, length, map, get_or, pos, Option, Some, None, refl, sym, ap, ◌∙◌, subst, arith, append_assoc, length-append, length-set, get_or-set_other, get_or-set_same}
use Rattle.std.specs.Prelude.{slice_set, slice_get, replicate}
use Rattle.std.specs.Prelude.{Ok, Err, Contains}
use Rattle.std.specs.List.Sorted.{IsStrictlyIncreasing, IsBinarySearchResult}
use Rattle.std.specs.Ordering.{nat_cmp}
use Rattle.std.proofs.lemmas.List.Sorted.{searched}
use Rattle.std.proofs.lemmas.Bool.{true≢false, eqb-true, eq-eqb, ne_eqb, cases_lt}
use Rattle.std.proofs.lemmas.List.{set_past, set_at, get_or_at, length_push, get_or-replicate, length-replicate, get_or_past, length-map, map-append}
use Rattle.std.proofs.lemmas.List.Folds.{list_any-from_Any, Any-from_list_any, list_any-append}
use Rattle.std.proofs.lemmas.List.Kept.{AllPairs-from_increasing}
use Rattle.std.proofs.lemmas.List.Elements.{All-nil, All-push}
use Rattle.std.proofs.lemmas.List.Quantifiers.{all_pairs_push}
use Rattle.std.proofs.lemmas.Option.{slice_get_past, slice_get-get_or, get_or_from_slice_get}
use Rattle.qir_module.specs.declared.instruction.Operand.{Operand}
use Rattle.qir_module.specs.declared.instruction.Operand.TheVariants.{Register, Fixed}
use Rattle.cell_operands.specs.Operands.{operand_of}
use Rattle.phi_place.specs.Phis.{is_listed, values_for}
use Rattle.block_lower.specs.Kept.{placed, kept_row, picked, IsKept}

-- ---- ascending cells

-- from c on
abbrev pub Ascends : ℕ → List ℕ → Type 0
Ascends c [] = Unit {0}
Ascends c (u ∷ us) = (c ≤ u) × Ascends (suc u) us

in_pairs : (us : List ℕ) (c : ℕ) → AllPairs (λ (x y : ℕ). x < y) us → (0 < length us → c ≤ get_or us 0 0) → Ascends c us
in_pairs [] c pairs least = tt
in_pairs (u ∷ us) c pairs least =
    (least (omega arith), in_pairs us (suc u) (λ i j d l m. pairs (suc i) (suc j) d (omega (arith, l)) (omega (arith, m))) (λ some. let up : u < get_or us 0 0 = pairs 0 1 0 (omega arith) (omega (arith, some)) in omega (arith, up)))

pub ascends : (us : List ℕ) → IsStrictlyIncreasing us → Ascends 0 us
ascends us rises = in_pairs us 0 (AllPairs-from_increasing us rises) (λ some. omega arith)

or_none : (a b : Bool) → (a || b) ≡ false → (a ≡ false) × (b ≡ false)
or_none true b none = absurd (true≢false none)
or_none false b none = (refl, none)

differs : (u x : ℕ) → nat_eq u x ≡ false → x ≢ u
differs u x none same = true≢false (sym (eq-eqb u x (sym same)) ∙ none)

pub none_below : (us : List ℕ) (c x : ℕ) → Ascends c us → x < c → is_listed us x ≡ false
none_below [] c x up lt = refl
none_below (u ∷ us) c x up lt = ap (λ b. b || is_listed us x) (ne_eqb u x (λ same. omega (arith, same, up.0, lt))) ∙ none_below us (suc u) x up.1 (omega (arith, up.0, lt))

pub none_more : (u x : ℕ) (us : List ℕ) → u < x → is_listed us x ≡ false → is_listed (u ∷ us) x ≡ false
none_more u x us lt none = ap (λ b. b || is_listed us x) (ne_eqb u x (λ same. omega (arith, same, lt))) ∙ none

-- ---- listed cells

pub has_listed : (us : List ℕ) (x : ℕ) → Contains us x → is_listed us x ≡ true
has_listed us x has = list_any-from_Any (λ k. nat_eq k x) us (has.0, x, has.1, has.2, eq-eqb x x refl)

listed_has : (us : List ℕ) (x : ℕ) → is_listed us x ≡ true → Contains us x
listed_has us x is =
    let some = Any-from_list_any (λ k. nat_eq k x) us is in
    (some.0, some.2, subst (λ (y : ℕ). get_or us some.0 y ≡ y) (eqb-true some.1 x some.4) some.3)

-- what is not listed where all are is listed in none
pub unlisted : (us all : List ℕ) (x : ℕ) → (Contains us x → Contains all x) → is_listed all x ≡ false → is_listed us x ≡ false
unlisted us all x each none = at (is_listed us x) refl
  where
    at : (b : Bool) → is_listed us x ≡ b → is_listed us x ≡ false
    at true is = absurd (true≢false (sym (has_listed all x (each (listed_has us x is))) ∙ none))
    at false is = is

pub listed_in_both : (old us cells new : List ℕ) (x : ℕ) → new ≡ old ++ us → us ≡ cells → is_listed new x ≡ false → (is_listed old x ≡ false) × (is_listed cells x ≡ false)
listed_in_both old us cells new x added same none =
    or_none (is_listed old x) (is_listed cells x)
    (sym (list_any-append (λ k. nat_eq k x) old cells) ∙ ap (λ (ks : List ℕ). is_listed (old ++ ks) x) (sym same) ∙ ap (λ (ks : List ℕ). is_listed ks x) (sym added) ∙ none)

-- ---- the search in ascending cells

not_listed : (us : List ℕ) (x : ℕ) → ((k : ℕ) → k < length us → get_or us k 0 ≢ x) → is_listed us x ≡ false
not_listed [] x none = refl
not_listed (u ∷ us) x none = ap (λ b. b || is_listed us x) (ne_eqb u x (none 0 (omega arith))) ∙ not_listed us x (λ k l. none (suc k) (omega (arith, l)))

in_order : (us : List ℕ) → IsStrictlyIncreasing us → (i j : ℕ) → i ≤ j → j < length us → get_or us i 0 ≤ get_or us j 0
in_order us rises i j le l =
    ⊎_elim (λ lt. let up : get_or us i 0 < get_or us j 0 = AllPairs-from_increasing us rises i j 0 lt l in omega (arith, up))
    (λ ge. let same : i ≡ j = omega (arith, ge, le) in subst (λ (n : ℕ). get_or us i 0 ≤ get_or us n 0) same (omega arith)) (cases_lt i j)

pub found : (us : List ℕ) (x i : ℕ) → IsStrictlyIncreasing us → IsBinarySearchResult (λ y. nat_cmp y x) us (Ok i) → (i < length us) × (get_or us i 0 ≡ x)
found us x i rises position = searched us x (Ok i) position (in_order us rises)

pub missing : (us : List ℕ) (x i : ℕ) → IsStrictlyIncreasing us → IsBinarySearchResult (λ y. nat_cmp y x) us (Err i) → is_listed us x ≡ false
missing us x i rises position =
    let none = searched us x (Err i) position (in_order us rises) in
    not_listed us x (λ k l same. ⊎_elim (λ before. absurd (omega (arith, same, none.1 k before))) (λ behind. absurd (omega (arith, same, none.2 k behind l))) (cases_lt k i))

-- ---- a cell of the row

pub placed_other : (cells : List ℕ) (operands row : List Operand) (c : ℕ) → is_listed cells c ≡ false → operand_of (placed cells operands row) c ≡ operand_of row c
placed_other [] operands row c none = refl
placed_other (u ∷ us) [] row c none = refl
placed_other (u ∷ us) (o ∷ os) row c none =
    let both = or_none (nat_eq u c) (is_listed us c) none in
    placed_other us os (slice_set row u o) c both.1 ∙ get_or-set_other row u c o (Fixed (pos 0)) (differs u c both.0)

pub placed_at : (cells : List ℕ) (operands row : List Operand) (least k : ℕ) (e : Operand) → Ascends least cells → length operands ≡ length cells → k < length cells → get_or cells k 0 < length row
    → operand_of (placed cells operands row) (get_or cells k 0) ≡ get_or operands k e
placed_at [] operands row least k e up same l inside = absurd (omega (arith, l))
placed_at (u ∷ us) [] row least k e up same l inside = absurd (omega (arith, same))
placed_at (u ∷ us) (o ∷ os) row least zero e up same l inside =
    placed_other us os (slice_set row u o) u (none_below us (suc u) u up.1 (omega arith)) ∙ get_or-set_same row u o (Fixed (pos 0)) inside
placed_at (u ∷ us) (o ∷ os) row least (suc k) e up same l inside =
    placed_at us os (slice_set row u o) (suc u) k e up.1 (omega (arith, same)) (omega (arith, l)) (subst (λ (n : ℕ). get_or us k 0 < n) (sym (length-set row u o)) inside)

pub placed_past : (us : List ℕ) (os row : List Operand) (c : ℕ) → Ascends c us → length row ≤ c → placed us os row ≡ row
placed_past [] os row c up le = refl
placed_past (u ∷ us) [] row c up le = refl
placed_past (u ∷ us) (o ∷ os) row c up le =
    ap (placed us os) (set_past row u o (omega (arith, up.0, le))) ∙ placed_past us os row (suc u) up.1 (omega (arith, up.0, le))

-- ---- lists from a place on

-- these are the elements from c on
abbrev pub Follows : {A : Type 0} → (ℕ → Option A) → ℕ → List A → Type 0
Follows at c [] = (x : ℕ) → c ≤ x → at x ≡ None
Follows at c (f ∷ fs) = (at c ≡ Some f) × Follows at (suc c) fs

pub follows : {A : Type 0} (front fs : List A) (c : ℕ) → length front ≡ c → Follows (slice_get (front ++ fs)) c fs
follows front [] c same = λ x le. slice_get_past (front ++ []) x (omega (arith, length-append front [], same, le))
follows front (f ∷ fs) c same = (
  slice_get-get_or (front ++ f ∷ fs) c f (omega (arith, length-append front (f ∷ fs), same)) ∙ ap Some (get_or_at front f fs f c same),
  subst (λ xs. Follows (slice_get xs) (suc c) fs) (append_assoc front (f ∷ []) fs) (follows (front ++ f ∷ []) fs (suc c) (omega (arith, length_push front f, same))),
)

-- what is asked from i on about a short list is what is asked about these cells
abbrev pub Aligned : {A : Type 0} → (ℕ → A) → (ℕ → A) → ℕ → List ℕ → Type 0
Aligned short long i [] = Unit {0}
Aligned short long i (u ∷ us) = (short i ≡ long u) × Aligned short long (suc i) us

pub aligned : {A : Type 0} (short long : ℕ → A) (us : List ℕ) (i : ℕ) → ((j n : ℕ) → n ≡ i + j → j < length us → short n ≡ long (get_or us j 0)) → Aligned short long i us
aligned short long [] i each = tt
aligned short long (u ∷ us) i each = (each 0 i (omega arith) (omega arith), aligned short long us (suc i) (λ j n is l. each (suc j) n (omega (arith, is)) (omega (arith, l))))

-- ---- the operands behind phis

-- a cell that is not listed
skip : (needs : ℕ → Bool) (fs base front vs : List Operand) (us : List ℕ) (c next : ℕ) (b f : Operand) → b ≡ f → needs c ≡ false
    → placed us vs ((front ++ f ∷ []) ++ base) ≡ (front ++ f ∷ []) ++ values_for needs fs (suc c) next → placed us vs (front ++ b ∷ base) ≡ front ++ values_for needs (f ∷ fs) c next
skip needs fs base front vs us c next b f is need more =
    ap (λ (o : Operand). placed us vs (front ++ o ∷ base)) is ∙ ap (placed us vs) (sym (append_assoc front (f ∷ []) base)) ∙ more ∙ append_assoc front (f ∷ []) (values_for needs fs (suc c) next)
    ∙ sym (ap (λ (n : Bool). front ++ (if n then Register next ∷ values_for needs fs (suc c) (suc next) else f ∷ values_for needs fs (suc c) next)) need)

-- a cell that is
hit : (needs short : ℕ → Bool) (first fs base front : List Operand) (us : List ℕ) (u c i next : ℕ) (b f : Operand) → u ≡ c → length front ≡ c → short i ≡ needs u → operand_of first c ≡ f
    → ((v : Operand) (m : ℕ) → placed us (values_for short (picked us first) (suc i) m) ((front ++ v ∷ []) ++ base) ≡ (front ++ v ∷ []) ++ values_for needs fs (suc c) m)
    → placed (u ∷ us) (values_for short (picked (u ∷ us) first) i next) (front ++ b ∷ base) ≡ front ++ values_for needs (f ∷ fs) c next
hit needs short first fs base front us u c i next b f at same align is more =
    ap (λ (need : Bool). placed (u ∷ us) (if need then Register next ∷ values_for short (picked us first) (suc i) (suc next) else operand_of first u ∷ values_for short (picked us first) (suc i) next) (front ++ b ∷ base)) (align ∙ ap needs at)
    ∙ either (needs c)
  where
    put : (v : Operand) (m : ℕ) → placed (u ∷ us) (v ∷ values_for short (picked us first) (suc i) m) (front ++ b ∷ base) ≡ front ++ v ∷ values_for needs fs (suc c) m
    put v m =
        ap (placed us (values_for short (picked us first) (suc i) m)) (set_at front b base v u (omega (arith, same, at)) ∙ sym (append_assoc front (v ∷ []) base)) ∙ more v m
        ∙ append_assoc front (v ∷ []) (values_for needs fs (suc c) m)

    either : (need : Bool) → placed (u ∷ us) (if need then Register next ∷ values_for short (picked us first) (suc i) (suc next) else operand_of first u ∷ values_for short (picked us first) (suc i) next) (front ++ b ∷ base)
        ≡ front ++ (if need then Register next ∷ values_for needs fs (suc c) (suc next) else f ∷ values_for needs fs (suc c) next)
    either true = put (Register next) (suc next)
    either false = put (operand_of first u) next ∙ ap (λ (o : Operand). front ++ o ∷ values_for needs fs (suc c) next) (ap (operand_of first) at ∙ is)

-- where a cell that is not listed has no phi, and is as it was
pub placed_values : (needs short : ℕ → Bool) (first old : List Operand) (n : ℕ) (fs base front : List Operand) (us : List ℕ) (c i next : ℕ)
    → Follows (slice_get first) c fs → Follows (slice_get old) c base → length front ≡ c → length base ≡ length fs → c + length fs ≤ n → Ascends c us → Aligned short needs i us
    → ((x : ℕ) → c ≤ x → x < n → is_listed us x ≡ false → (needs x ≡ false) × (operand_of old x ≡ operand_of first x))
    → placed us (values_for short (picked us first) i next) (front ++ base) ≡ front ++ values_for needs fs c next
placed_values needs short first old n [] [] front us c i next follow before same long fit up align outside =
    placed_past us (values_for short (picked us first) i next) (front ++ []) c up (omega (arith, length-append front [], same))
placed_values needs short first old n [] (b ∷ base) front us c i next follow before same long fit up align outside = absurd (omega (arith, long))
placed_values needs short first old n (f ∷ fs) [] front us c i next follow before same long fit up align outside = absurd (omega (arith, long))
placed_values needs short first old n (f ∷ fs) (b ∷ base) front [] c i next follow before same long fit up align outside =
    let out = outside c (omega arith) (omega (arith, fit)) refl in
    skip needs fs base front [] [] c next b f (sym (get_or_from_slice_get old c b (Fixed (pos 0)) before.0) ∙ out.1 ∙ get_or_from_slice_get first c f (Fixed (pos 0)) follow.0) out.0
    (placed_values needs short first old n fs base (front ++ f ∷ []) [] (suc c) i next follow.1 before.1 (omega (arith, length_push front f, same)) (omega (arith, long)) (omega (arith, fit)) tt tt (λ x le. outside x (omega (arith, le))))
placed_values needs short first old n (f ∷ fs) (b ∷ base) front (u ∷ us) c i next follow before same long fit up align outside =
    ⊎_elim
    (λ lt.
    let out = outside c (omega arith) (omega (arith, fit)) (none_below (u ∷ us) u c (omega arith, up.1) lt) in
    skip needs fs base front (values_for short (picked (u ∷ us) first) i next) (u ∷ us) c next b f (sym (get_or_from_slice_get old c b (Fixed (pos 0)) before.0) ∙ out.1 ∙ get_or_from_slice_get first c f (Fixed (pos 0)) follow.0) out.0
    (placed_values needs short first old n fs base (front ++ f ∷ []) (u ∷ us) (suc c) i next follow.1 before.1 (omega (arith, length_push front f, same)) (omega (arith, long)) (omega (arith, fit)) (omega (arith, lt), up.1) align (λ x le. outside x (omega (arith, le)))))
    (λ le.
    let at : u ≡ c = omega (arith, le, up.0) in
    hit needs short first fs base front us u c i next b f at same align.0 (get_or_from_slice_get first c f (Fixed (pos 0)) follow.0)
    (λ v m. placed_values needs short first old n fs base (front ++ v ∷ []) us (suc c) (suc i) m follow.1 before.1 (omega (arith, length_push front v, same)) (omega (arith, long)) (omega (arith, fit)) (subst (λ (k : ℕ). Ascends (suc k) us) at up.1) align.1
    (λ x low lt none. outside x (omega (arith, low)) lt (none_more u x us (omega (arith, at, low)) none))))
    (cases_lt c u)

-- ---- rows that are kept

pub kept_hit : (count : ℕ) (cells : List ℕ) (operands : List Operand) (k : ℕ) (e : Operand) → IsKept count cells operands → k < length cells → operand_of (kept_row count cells operands) (get_or cells k 0) ≡ get_or operands k e
kept_hit count cells operands k e is l =
    placed_at cells operands (replicate count (Fixed (pos 0))) 0 k e (ascends cells is.rises) is.each l (subst (λ (n : ℕ). get_or cells k 0 < n) (sym (length-replicate count (Fixed (pos 0)))) (is.within k 0 l))

zero_at : (count c : ℕ) → operand_of (replicate count (Fixed (pos 0))) c ≡ Fixed (pos 0)
zero_at count c =
    ⊎_elim (λ lt. get_or-replicate count c (Fixed (pos 0)) (Fixed (pos 0)) lt) (λ le. get_or_past (replicate count (Fixed (pos 0))) c (Fixed (pos 0)) (omega (arith, length-replicate count (Fixed (pos 0)), le))) (cases_lt c count)

pub kept_miss : (count : ℕ) (cells : List ℕ) (operands : List Operand) (c : ℕ) → is_listed cells c ≡ false → operand_of (kept_row count cells operands) c ≡ Fixed (pos 0)
kept_miss count cells operands c none = placed_other cells operands (replicate count (Fixed (pos 0))) c none ∙ zero_at count c

-- without phis
values_stay : (os : List Operand) (c next : ℕ) → values_for (λ k. false) os c next ≡ os
values_stay [] c next = refl
values_stay (o ∷ os) c next = ap (λ (rest : List Operand). o ∷ rest) (values_stay os (suc c) next)

-- a row is kept by the cells that are not 0
pub kept_all : (row : List Operand) (cells : List ℕ) → Ascends 0 cells → ((c : ℕ) → c < length row → is_listed cells c ≡ false → operand_of row c ≡ Fixed (pos 0)) → kept_row (length row) cells (picked cells row) ≡ row
kept_all row cells up outside =
    let zeros = replicate (length row) (Fixed (pos 0)) in
    ap (λ (os : List Operand). placed cells os zeros) (sym (values_stay (picked cells row) 0 0))
    ∙ placed_values (λ c. false) (λ c. false) row zeros (length row) row zeros [] cells 0 0 0 (follows [] row 0 refl) (follows [] zeros 0 refl) refl (length-replicate (length row) (Fixed (pos 0))) (omega arith) up (aligned (λ c. false) (λ c. false) cells 0 (λ j n is l. refl))
    (λ c le lt none. (refl, zero_at (length row) c ∙ sym (outside c lt none)))
    ∙ values_stay row 0 0

-- the cells below c that are not 0
pub record Gathered (row : List Operand) (c : ℕ) (cells : List ℕ) (operands : List Operand) : Type 0 where
  pub rises : IsStrictlyIncreasing cells
  pub within : All (λ (x : ℕ). x < c) cells
  pub same : operands ≡ picked cells row
  pub rest : (x : ℕ) → x < c → is_listed cells x ≡ false → operand_of row x ≡ Fixed (pos 0)

pub gathered_none : (row : List Operand) → Gathered row 0 [] []
gathered_none row = record { rises = λ k l. absurd (omega (arith, l)); within = All-nil (λ (x : ℕ). x < 0); same = refl; rest = λ x lt none. absurd (omega (arith, lt)) }

rises_push : (us : List ℕ) (c : ℕ) → IsStrictlyIncreasing us → All (λ (x : ℕ). x < c) us → IsStrictlyIncreasing (us ++ c ∷ [])
rises_push us c rises below = λ k l. all_pairs_push (λ (x y : ℕ). x < y) us c (AllPairs-from_increasing us rises) below k (k + 1) 0 (omega arith) l

none_before : (us : List ℕ) (c x : ℕ) → is_listed (us ++ c ∷ []) x ≡ false → (is_listed us x ≡ false) × (nat_eq c x ≡ false)
none_before [] c x none = (refl, (or_none (nat_eq c x) false none).0)
none_before (u ∷ us) c x none =
    let both = or_none (nat_eq u x) (is_listed (us ++ c ∷ []) x) none in
    let rest = none_before us c x both.1 in
    (ap (λ b. b || is_listed us x) both.0 ∙ rest.0, rest.1)

pub gathered_push : (row : List Operand) (c : ℕ) (cells : List ℕ) (operands : List Operand) (o : Operand) → o ≡ operand_of row c → Gathered row c cells operands → Gathered row (c + 1) (cells ++ c ∷ []) (operands ++ o ∷ [])
gathered_push row c cells operands o is g = record {
  rises = rises_push cells c g.rises g.within;
  within = All-push (λ (x : ℕ). x < c + 1) cells c (λ k d l. omega (arith, g.within k d l)) (omega arith);
  same = ap (λ (os : List Operand). os ++ o ∷ []) g.same ∙ ap (λ (p : Operand). picked cells row ++ p ∷ []) is ∙ sym (map-append (operand_of row) cells (c ∷ []));
  rest = λ x lt none. (let both = none_before cells c x none in g.rest x (let ne : x ≢ c = differs c x both.1 in omega (arith, lt, ne)) both.0);
}

pub gathered_zero : (row : List Operand) (c : ℕ) (cells : List ℕ) (operands : List Operand) → operand_of row c ≡ Fixed (pos 0) → Gathered row c cells operands → Gathered row (c + 1) cells operands
gathered_zero row c cells operands is g = record {
  rises = g.rises;
  within = λ k d l. omega (arith, g.within k d l);
  same = g.same;
  rest = λ x lt none. ⊎_elim (λ (before : x < c). g.rest x before none) (λ (le : c ≤ x). (let same : x ≡ c = omega (arith, lt, le) in ap (operand_of row) same ∙ is)) (cases_lt x c);
}

pub gathered_kept : (row : List Operand) (cells : List ℕ) (operands : List Operand) → length row ≤ 2 ^ 31 → Gathered row (length row) cells operands → IsKept (length row) cells operands
gathered_kept row cells operands few g = record { few = few; rises = g.rises; within = g.within; each = ap length g.same ∙ length-map cells (operand_of row) }

pub gathered_row : (row : List Operand) (cells : List ℕ) (operands : List Operand) → Gathered row (length row) cells operands → kept_row (length row) cells operands ≡ row
gathered_row row cells operands g = ap (kept_row (length row) cells) g.same ∙ kept_all row cells (ascends cells g.rises) g.rest
