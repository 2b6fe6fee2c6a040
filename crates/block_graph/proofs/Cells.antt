-- Operands of the cells, one for each, with registers that are taken; and the ways that bring them to a join.
use Rattle.std.proofs.Common.{◌≡◌, ◌≢◌, ℕ, zero, suc, ◌+◌, ◌<◌, ◌≤◌, inl, ⊎_elim, nat_eq, if◌then◌else◌, Bool, true, false, not, List, [], ◌∷◌, ◌++◌, length, pos, Some, refl, sym, ap, ◌∙◌, subst, arith, length-set, get_or-set_same, get_or-set_other, eq-eqb, eqb-true, replicate}
use Rattle.std.specs.Prelude.{slice_get, slice_set}
use Rattle.std.specs.List.{AllByRecursion}
use Rattle.std.proofs.lemmas.Int.{fits_signed_from_abs}
use Rattle.std.proofs.lemmas.Option.{slice_get_within}
use Rattle.std.specs.Int.{w64}
use Rattle.std.proofs.lemmas.List.{length-replicate}
use Rattle.std.proofs.lemmas.List.Elements.{recursion_from_All, All-from_recursion}
use Rattle.qir_module.specs.declared.instruction.Operand.{Operand}
use Rattle.qir_module.specs.declared.instruction.Operand.TheVariants.{Fixed, Register}
use Rattle.core_ir.specs.declared.expression.CellKind.{CellKind}
use Rattle.core_ir.specs.Core.{Core}
use Rattle.core_ir.specs.Size.{pair_exprs}
use Rattle.core_ir.specs.WellFormed.{PairFits}
use Rattle.cell_operands.specs.Operands.{is_number, operand_of, IsBelow}
use Rattle.phi_place.specs.State.{CellState}
use Rattle.phi_place.specs.Phis.{operand_at, phis_for, values_for, Carries, IsAmong, HaveOwnBlocks, WaysCarry}
use Rattle.expr_lower.specs.Lowered.{IsTyped, AreTyped, AreCells}
use Rattle.block_graph.specs.Lowering.{stored, next_for}

-- ---- registers below a number

pub below_more : (x y : ℕ) (o : Operand) → x ≤ y → IsBelow x o → IsBelow y o
below_more x y (Register r) le b = omega (arith, le, b)
below_more x y (Fixed z) le b = tt

pub all_more : (x y : ℕ) (os : List Operand) → x ≤ y → AllByRecursion (IsBelow x) os → AllByRecursion (IsBelow y) os
all_more x y [] le all = tt
all_more x y (o ∷ os) le all = (below_more x y o le all.0, all_more x y os le all.1)

all_set : (x : ℕ) (os : List Operand) (c : ℕ) (o : Operand) → IsBelow x o → AllByRecursion (IsBelow x) os → AllByRecursion (IsBelow x) (slice_set os c o)
all_set x [] c o b all = tt
all_set x (p ∷ os) zero o b all = (b, all.1)
all_set x (p ∷ os) (suc c) o b all = (all.0, all_set x os c o b all.1)

-- ---- the cells

-- any register is there
abbrev pub AnyRegister : ℕ → Bool → Type 0
AnyRegister r truth = Unit {0}

pub typed_any : (has : ℕ → Bool → Type 0) (truth : Bool) (o : Operand) → IsTyped has truth o → IsTyped AnyRegister truth o
typed_any has truth (Register r) t = tt
typed_any has truth (Fixed z) t = t

pub cells_below : (kinds : List CellKind) (x : ℕ) (os : List Operand) → AreCells kinds x os → AllByRecursion (IsBelow x) os
cells_below kinds x os a = recursion_from_All (IsBelow x) os a.below

pub cells_more : (kinds : List CellKind) (x y : ℕ) (os : List Operand) → x ≤ y → AreCells kinds x os → AreCells kinds y os
cells_more kinds x y os le a = record { long = a.long; below = All-from_recursion (IsBelow y) os (all_more x y os le (cells_below kinds x os a)); typed = a.typed }

set_typed : (kinds : List CellKind) (x : ℕ) (os : List Operand) (c : ℕ) (o : Operand) (kind : CellKind) → AreCells kinds x os → slice_get kinds c ≡ Some kind → IsTyped AnyRegister (not (is_number kind)) o
    → (i : ℕ) (other : CellKind) → slice_get kinds i ≡ Some other → (here : Bool) → nat_eq i c ≡ here → IsTyped AnyRegister (not (is_number other)) (operand_of (slice_set os c o) i)
set_typed kinds x os c o kind a is t i other is_i true e =
    let same : i ≡ c = eqb-true i c e in
    let within = slice_get_within kinds c kind is in
    let kinds_same : other ≡ kind = cc (sym is_i ∙ ap (slice_get kinds) same ∙ is) in
    let here : operand_of (slice_set os c o) i ≡ o = ap (operand_of (slice_set os c o)) same ∙ get_or-set_same os c o (Fixed (pos 0)) (omega (arith, within, a.long)) in
    subst (λ k. IsTyped AnyRegister (not (is_number k)) (operand_of (slice_set os c o) i)) (sym kinds_same) (subst (IsTyped AnyRegister (not (is_number kind))) (sym here) t)
set_typed kinds x os c o kind a is t i other is_i false e =
    subst (IsTyped AnyRegister (not (is_number other))) (sym (get_or-set_other os c i o (Fixed (pos 0)) (λ eq. cc (e, eq-eqb i c eq)))) (a.typed i other is_i)

pub cells_set : (kinds : List CellKind) (x : ℕ) (os : List Operand) (c : ℕ) (o : Operand) (kind : CellKind) → AreCells kinds x os → slice_get kinds c ≡ Some kind → IsBelow x o → IsTyped AnyRegister (not (is_number kind)) o → AreCells kinds x (slice_set os c o)
cells_set kinds x os c o kind a is b t = record {
  long = length-set os c o ∙ a.long;
  below = All-from_recursion (IsBelow x) (slice_set os c o) (all_set x os c o b (cells_below kinds x os a));
  typed = λ i other is_i. set_typed kinds x os c o kind a is t i other is_i (nat_eq i c) refl;
}

pub cells_stored : (core : Core) (has : ℕ → Bool → Type 0) (x : ℕ) (pairs : List (ℕ × ℕ)) (operands os : List Operand) → AllByRecursion (PairFits core) pairs → AllByRecursion (IsBelow x) operands → AreTyped has core (pair_exprs pairs) operands → AreCells core.cells x os → AreCells core.cells x (stored pairs operands os)
cells_stored core has x [] operands os fit below typed a = a
cells_stored core has x (p ∷ pairs) [] os fit below typed a = absurd typed
cells_stored core has x (p ∷ pairs) (o ∷ operands) os fit below typed a =
    cells_stored core has x pairs operands (slice_set os p.0 o) fit.1 below.1 typed.1
    (cells_set core.cells x os p.0 o fit.0.kind a fit.0.cell below.0 (typed_any has (not (is_number fit.0.kind)) o (typed.0 fit.0.kind fit.0.value)))

-- all cells start as the constant 0
pub zero_at : (n c : ℕ) → operand_of (replicate n (Fixed (pos 0))) c ≡ Fixed (pos 0)
zero_at zero c = refl
zero_at (suc n) zero = refl
zero_at (suc n) (suc c) = zero_at n c

zero_below : (n x : ℕ) → AllByRecursion (IsBelow x) (replicate n (Fixed (pos 0)))
zero_below zero x = tt
zero_below (suc n) x = (tt, zero_below n x)

zero_typed : (truth : Bool) → IsTyped AnyRegister truth (Fixed (pos 0))
zero_typed true = inl refl
zero_typed false = fits_signed_from_abs w64 (pos 0) (omega arith)

pub first_cells : (kinds : List CellKind) (x : ℕ) → AreCells kinds x (replicate (length kinds) (Fixed (pos 0)))
first_cells kinds x = record {
  long = length-replicate (length kinds) (Fixed (pos 0));
  below = All-from_recursion (IsBelow x) (replicate (length kinds) (Fixed (pos 0))) (zero_below (length kinds) x);
  typed = λ c kind is. subst (IsTyped AnyRegister (not (is_number kind))) (sym (zero_at (length kinds) c)) (zero_typed (not (is_number kind)));
}

-- ---- behind phis

pub next_more : (needs : ℕ → Bool) (kinds : List CellKind) (c next : ℕ) → next ≤ next_for needs kinds c next
next_more needs [] c next = omega arith
next_more needs (k ∷ kinds) c next = two (needs c) (next_more needs kinds (suc c) (suc next)) (next_more needs kinds (suc c) next)
  where
    two : (b : Bool) → suc next ≤ next_for needs kinds (suc c) (suc next) → next ≤ next_for needs kinds (suc c) next → next ≤ (if b then next_for needs kinds (suc c) (suc next) else next_for needs kinds (suc c) next)
    two true m k = omega (arith, m)
    two false m k = k

pub values_long : (needs : ℕ → Bool) (first : List Operand) (c next : ℕ) → length (values_for needs first c next) ≡ length first
values_long needs [] c next = refl
values_long needs (o ∷ os) c next = two (needs c) (values_long needs os (suc c) (suc next)) (values_long needs os (suc c) next)
  where
    two : (b : Bool) → length (values_for needs os (suc c) (suc next)) ≡ length os → length (values_for needs os (suc c) next) ≡ length os → length (if b then Register next ∷ values_for needs os (suc c) (suc next) else o ∷ values_for needs os (suc c) next) ≡ suc (length os)
    two true m k = ap suc m
    two false m k = ap suc k

values_below : (needs : ℕ → Bool) (kinds : List CellKind) (first : List Operand) (c next : ℕ) → length first ≡ length kinds → AllByRecursion (IsBelow next) first → AllByRecursion (IsBelow (next_for needs kinds c next)) (values_for needs first c next)
values_below needs [] [] c next e all = tt
values_below needs [] (o ∷ os) c next e all = absurd (omega (arith, e))
values_below needs (k ∷ kinds) [] c next e all = absurd (omega (arith, e))
values_below needs (k ∷ kinds) (o ∷ os) c next e all =
    let e' : length os ≡ length kinds = omega (arith, e) in
    two (needs c) (next_more needs kinds (suc c) (suc next)) (next_more needs kinds (suc c) next) (values_below needs kinds os (suc c) (suc next) e' (all_more next (suc next) os (omega arith) all.1)) (values_below needs kinds os (suc c) next e' all.1)
  where
    two : (b : Bool) → suc next ≤ next_for needs kinds (suc c) (suc next) → next ≤ next_for needs kinds (suc c) next → AllByRecursion (IsBelow (next_for needs kinds (suc c) (suc next))) (values_for needs os (suc c) (suc next)) → AllByRecursion (IsBelow (next_for needs kinds (suc c) next)) (values_for needs os (suc c) next)
        → AllByRecursion (IsBelow (if b then next_for needs kinds (suc c) (suc next) else next_for needs kinds (suc c) next)) (if b then Register next ∷ values_for needs os (suc c) (suc next) else o ∷ values_for needs os (suc c) next)
    two true lm lk m k = (omega (arith, lm), m)
    two false lm lk m k = (below_more next (next_for needs kinds (suc c) next) o lk all.0, k)

values_typed : (needs : ℕ → Bool) (first : List Operand) (c next i : ℕ) (truth : Bool) → IsTyped AnyRegister truth (operand_of first i) → IsTyped AnyRegister truth (operand_of (values_for needs first c next) i)
values_typed needs [] c next i truth t = t
values_typed needs (o ∷ os) c next zero truth t = two (needs c)
  where
    two : (b : Bool) → IsTyped AnyRegister truth (operand_of (if b then Register next ∷ values_for needs os (suc c) (suc next) else o ∷ values_for needs os (suc c) next) 0)
    two true = tt
    two false = t
values_typed needs (o ∷ os) c next (suc i) truth t = two (needs c) (values_typed needs os (suc c) (suc next) i truth t) (values_typed needs os (suc c) next i truth t)
  where
    two : (b : Bool) → IsTyped AnyRegister truth (operand_of (values_for needs os (suc c) (suc next)) i) → IsTyped AnyRegister truth (operand_of (values_for needs os (suc c) next) i)
        → IsTyped AnyRegister truth (operand_of (if b then Register next ∷ values_for needs os (suc c) (suc next) else o ∷ values_for needs os (suc c) next) (suc i))
    two true m k = m
    two false m k = k

pub cells_phis : (needs : ℕ → Bool) (kinds : List CellKind) (first : List Operand) (next : ℕ) → AreCells kinds next first → AreCells kinds (next_for needs kinds 0 next) (values_for needs first 0 next)
cells_phis needs kinds first next a = record {
  long = values_long needs first 0 next ∙ a.long;
  below = All-from_recursion (IsBelow (next_for needs kinds 0 next)) (values_for needs first 0 next) (values_below needs kinds first 0 next a.long (cells_below kinds next first a));
  typed = λ c kind is. values_typed needs first 0 next c (not (is_number kind)) (a.typed c kind is);
}

-- a cell without a phi stays
pub value_stays : (needs : ℕ → Bool) (first : List Operand) (c next i : ℕ) → needs (c + i) ≡ false → operand_of (values_for needs first c next) i ≡ operand_of first i
value_stays needs [] c next i e = refl
value_stays needs (o ∷ os) c next zero e = let z : c + 0 ≡ c = omega arith in ap (λ (b : Bool). operand_of (if b then Register next ∷ values_for needs os (suc c) (suc next) else o ∷ values_for needs os (suc c) next) 0) (sym (ap needs z) ∙ e)
value_stays needs (o ∷ os) c next (suc i) e =
    let z : c + suc i ≡ suc c + i = omega arith in
    let e' = sym (ap needs z) ∙ e in
    two (needs c) (value_stays needs os (suc c) (suc next) i e') (value_stays needs os (suc c) next i e')
  where
    two : (b : Bool) → operand_of (values_for needs os (suc c) (suc next)) i ≡ operand_of os i → operand_of (values_for needs os (suc c) next) i ≡ operand_of os i
        → operand_of (if b then Register next ∷ values_for needs os (suc c) (suc next) else o ∷ values_for needs os (suc c) next) (suc i) ≡ operand_of os i
    two true m k = m
    two false m k = k

-- ---- ways

-- a way comes from a block below the bound, with registers below x
abbrev pub WayFits : List CellKind → ℕ → ℕ → CellState → Type 0
WayFits kinds x bound way = (way.block < bound) × AreCells kinds x way.values

-- each of them does, and each comes from a block of its own
abbrev pub WaysFit : List CellKind → ℕ → ℕ → List CellState → Type 0
WaysFit kinds x bound ways = AllByRecursion (WayFits kinds x bound) ways × HaveOwnBlocks ways

each_more : (kinds : List CellKind) (x y bound more : ℕ) (ways : List CellState) → x ≤ y → bound ≤ more → AllByRecursion (WayFits kinds x bound) ways → AllByRecursion (WayFits kinds y more) ways
each_more kinds x y bound more [] le lb ok = tt
each_more kinds x y bound more (w ∷ ways) le lb ok = ((omega (arith, ok.0.0, lb), cells_more kinds x y w.values le ok.0.1), each_more kinds x y bound more ways le lb ok.1)

pub ways_more : (kinds : List CellKind) (x y bound more : ℕ) (ways : List CellState) → x ≤ y → bound ≤ more → WaysFit kinds x bound ways → WaysFit kinds y more ways
ways_more kinds x y bound more ways le lb ok = (each_more kinds x y bound more ways le lb ok.0, ok.1)

among_fits : (kinds : List CellKind) (x bound : ℕ) (ways : List CellState) (way : CellState) → AllByRecursion (WayFits kinds x bound) ways → IsAmong way ways → WayFits kinds x bound way
among_fits kinds x bound [] way ok i = absurd i
among_fits kinds x bound (w ∷ ways) way ok i = ⊎_elim (λ e. subst (WayFits kinds x bound) (sym e) ok.0) (λ j. among_fits kinds x bound ways way ok.1 j) i

pub ways_in : (kinds : List CellKind) (x bound : ℕ) (ways : List CellState) (way : CellState) → WaysFit kinds x bound ways → IsAmong way ways → WayFits kinds x bound way
ways_in kinds x bound ways way ok i = among_fits kinds x bound ways way ok.0 i

each_last : (kinds : List CellKind) (x bound : ℕ) (ways : List CellState) (way : CellState) → AllByRecursion (WayFits kinds x bound) ways → WayFits kinds x bound way → AllByRecursion (WayFits kinds x bound) (ways ++ way ∷ [])
each_last kinds x bound [] way ok w = (w, tt)
each_last kinds x bound (v ∷ ways) way ok w = (ok.0, each_last kinds x bound ways way ok.1 w)

apart_last : (block : ℕ) (ways : List CellState) (way : CellState) → AllByRecursion (λ (w : CellState). block ≢ w.block) ways → block ≢ way.block → AllByRecursion (λ (w : CellState). block ≢ w.block) (ways ++ way ∷ [])
apart_last block [] way all ne = (ne, tt)
apart_last block (w ∷ ways) way all ne = (all.0, apart_last block ways way all.1 ne)

own_last : (kinds : List CellKind) (x bound : ℕ) (ways : List CellState) (way : CellState) → bound ≤ way.block → AllByRecursion (WayFits kinds x bound) ways → HaveOwnBlocks ways → HaveOwnBlocks (ways ++ way ∷ [])
own_last kinds x bound [] way le ok own = (tt, tt)
own_last kinds x bound (w ∷ ways) way le ok own = (apart_last w.block ways way own.0 (λ e. absurd (omega (arith, e, ok.0.0, le))), own_last kinds x bound ways way le ok.1 own.1)

-- one more way, from a later block
pub ways_last : (kinds : List CellKind) (x bound more : ℕ) (ways : List CellState) (way : CellState) → bound ≤ way.block → way.block < more → AreCells kinds x way.values → WaysFit kinds x bound ways → WaysFit kinds x more (ways ++ way ∷ [])
ways_last kinds x bound more ways way le lt a ok =
    (each_last kinds x more ways way (each_more kinds x x bound more ways (omega arith) (omega (arith, le, lt)) ok.0) (lt, a), own_last kinds x bound ways way le ok.0 ok.1)

-- the phis of the ways carry each of them
pub ways_carried : WaysCarry → (needs : ℕ → Bool) (kinds : List CellKind) (x bound next : ℕ) (ways : List CellState) (way : CellState) (first : List Operand) → WaysFit kinds x bound ways → IsAmong way ways → AreCells kinds next first → ((c : ℕ) → needs c ≡ false → operand_of first c ≡ operand_at way c)
    → Carries (phis_for needs ways kinds 0 next) kinds way (values_for needs first 0 next)
ways_carried carry needs kinds x bound next ways way first ok i a stays = carry needs ways kinds first way next ok.1 i a.long a.below (λ c lt e. stays c e)
