-- The phis of listed cells, and the register behind them.
use Rattle.std.proofs.Common.{◌≡◌, ℕ, zero, suc, ◌+◌, ◌<◌, ◌≤◌, nat_eq, cond, if◌then◌else◌, Bool, true, false, ◌||◌, ◌&&◌, List, [], ◌∷◌, ◌++◌, length, get_or, take, refl, sym, ap, ◌∙◌, subst, arith}
use Rattle.std.specs.Prelude.{filter, Contains}
use Rattle.std.specs.List.Sorted.{IsStrictlyIncreasing}
use Rattle.std.proofs.lemmas.Bool.{false≢true, eqb-true, eq-eqb}
use Rattle.std.proofs.lemmas.List.Kept.{IsStrictlyIncreasing-filter}
use Rattle.std.proofs.lemmas.List.Folds.{list_any-from_Any}
use Rattle.qir_module.specs.declared.block.Phi.{Phi}
use Rattle.core_ir.specs.declared.expression.CellKind.{CellKind}
use Rattle.cell_operands.specs.Operands.{is_number}
use Rattle.core_ir.specs.declared.expression.CoreExpr.{CoreExpr}
use Rattle.core_ir.specs.Tree.{Stmt}
use Rattle.core_ir.specs.Ways.{Agains, assigns, stores}
use Rattle.phi_place.specs.State.{CellState}
use Rattle.phi_place.specs.Phis.{is_listed, ways_differ, entries_of, phis_for}
use Rattle.block_graph.specs.Laws.{StoresAreAssigned}
use Rattle.block_graph.specs.Work.{Open, Work}
use Rattle.block_graph.specs.Lowering.{next_for, way_of, open_loop, join_work, fall_work, fall_ways, join_bodies, start_needs}
use Rattle.block_lower.specs.Parts.{joined, looped}
use Rattle.qir_module.specs.declared.instruction.Operand.{Operand}

-- the register behind the phis
pub next_behind : (needs : ℕ → Bool) (ways : List CellState) (kinds : List CellKind) (c next : ℕ) → next + length (phis_for needs ways kinds c next) ≡ next_for needs kinds c next
next_behind needs ways [] c next = omega arith
next_behind needs ways (kind ∷ kinds) c next = one (needs c) (record { register = next; number = is_number kind; entries = entries_of ways c }) (next_behind needs ways kinds (suc c) (suc next)) (next_behind needs ways kinds (suc c) next)
  where
    one : (b : Bool) (phi : Phi) → suc next + length (phis_for needs ways kinds (suc c) (suc next)) ≡ next_for needs kinds (suc c) (suc next) → next + length (phis_for needs ways kinds (suc c) next) ≡ next_for needs kinds (suc c) next
        → next + length (if b then phi ∷ phis_for needs ways kinds (suc c) (suc next) else phis_for needs ways kinds (suc c) next) ≡ (if b then next_for needs kinds (suc c) (suc next) else next_for needs kinds (suc c) next)
    one true phi more same = omega (arith, more)
    one false phi more same = same

pub joined_is : (kinds : List CellKind) (label : ℕ) (ways : List CellState) (w : Work) → 0 < length ways → joined kinds label ways w ≡ join_work kinds label ways w
joined_is kinds label [] w some = absurd (omega (arith, some))
joined_is kinds label (way ∷ ways) w some = ap (λ (n : ℕ). record (join_work kinds label (way ∷ ways) w) { next = n }) (next_behind (ways_differ (way ∷ ways)) (way ∷ ways) kinds 0 w.next)

pub looped_is : (kinds : List CellKind) (needs : ℕ → Bool) (w : Work) (o : Open) → looped kinds needs w o ≡ open_loop kinds needs w o
looped_is kinds needs w o = ap (λ (n : ℕ). record (open_loop kinds needs w o) { next = n }) (next_behind needs (way_of w o ∷ []) kinds 0 w.next)

-- behind the second body of a choice
pub bodies_is : (kinds : List CellKind) (label : ℕ) (ways all : List CellState) (u f v : Work) → 0 < length ways → f ≡ fall_work label u → all ≡ ways ++ fall_ways u u.now → v ≡ joined kinds label all f → v ≡ join_bodies kinds label ways u
bodies_is kinds label [] all u f v some fallen every made = absurd (omega (arith, some))
bodies_is kinds label (way ∷ ways) all u f v some fallen every made =
    made ∙ ap (λ (ws : List CellState). joined kinds label ws f) every ∙ ap (λ (x : Work). joined kinds label ((way ∷ ways) ++ fall_ways u u.now) x) fallen
    ∙ joined_is kinds label ((way ∷ ways) ++ fall_ways u u.now) (fall_work label u) (omega arith)

-- ---- the cells that need a phi, among those that are assigned

listed_cons : (p : ℕ → Bool) (x : ℕ) (xs : List ℕ) (c : ℕ) → is_listed (filter p xs) c ≡ (p c && is_listed xs c) → is_listed (filter p (x ∷ xs)) c ≡ (p c && is_listed (x ∷ xs) c)
listed_cons p x xs c behind = here (p x) refl (nat_eq x c) refl
  where
    here : (a : Bool) → p x ≡ a → (b : Bool) → nat_eq x c ≡ b → is_listed (cond a (x ∷ filter p xs) (filter p xs)) c ≡ (p c && (b || is_listed xs c))
    here true px true same = ap (λ b. b || is_listed (filter p xs) c) same ∙ sym (ap (λ b. b && true) (ap p (sym (eqb-true x c same)) ∙ px))
    here true px false same = ap (λ b. b || is_listed (filter p xs) c) same ∙ behind
    here false px true same = behind ∙ none (p c) (ap p (sym (eqb-true x c same)) ∙ px)
      where
        none : (b : Bool) → b ≡ false → (b && is_listed xs c) ≡ (b && true)
        none true is = absurd (false≢true (sym is))
        none false is = refl
    here false px false same = behind

listed_filter : (p : ℕ → Bool) (xs : List ℕ) (c : ℕ) → is_listed (filter p xs) c ≡ (p c && is_listed xs c)
listed_filter p [] c = sym (none (p c))
  where
    none : (b : Bool) → (b && false) ≡ false
    none true = refl
    none false = refl
listed_filter p (x ∷ xs) c = listed_cons p x xs c (listed_filter p xs c)

has_listed : (xs : List ℕ) (c : ℕ) → Contains xs c → is_listed xs c ≡ true
has_listed xs c has = list_any-from_Any (λ k. nat_eq k c) xs (has.0, c, has.1, has.2, eq-eqb c c refl)

one_more : (i : ℕ) → suc i + 1 ≡ suc (i + 1)
one_more i = omega arith

pub filter_then : (p : ℕ → Bool) (xs : List ℕ) (i d : ℕ) → i < length xs → p (get_or xs i d) ≡ true → filter p (take (i + 1) xs) ≡ filter p (take i xs) ++ get_or xs i d ∷ []
filter_then p [] i d l need = absurd (omega (arith, l))
filter_then p (x ∷ xs) zero d l need = ap (λ b. cond b (x ∷ []) []) need
filter_then p (x ∷ xs) (suc i) d l need = ap (λ (n : ℕ). filter p (take n (x ∷ xs))) (one_more i) ∙ here (p x) (filter_then p xs i d (omega (arith, l)) need)
  where
    here : (b : Bool) → filter p (take (i + 1) xs) ≡ filter p (take i xs) ++ get_or xs i d ∷ [] → cond b (x ∷ filter p (take (i + 1) xs)) (filter p (take (i + 1) xs)) ≡ cond b (x ∷ filter p (take i xs)) (filter p (take i xs)) ++ get_or xs i d ∷ []
    here true behind = ap (λ (ys : List ℕ). x ∷ ys) behind
    here false behind = behind

pub filter_else : (p : ℕ → Bool) (xs : List ℕ) (i d : ℕ) → i < length xs → p (get_or xs i d) ≡ false → filter p (take (i + 1) xs) ≡ filter p (take i xs)
filter_else p [] i d l need = absurd (omega (arith, l))
filter_else p (x ∷ xs) zero d l need = ap (λ b. cond b (x ∷ []) []) need
filter_else p (x ∷ xs) (suc i) d l need = ap (λ (n : ℕ). filter p (take n (x ∷ xs))) (one_more i) ∙ here (p x) (filter_else p xs i d (omega (arith, l)) need)
  where
    here : (b : Bool) → filter p (take (i + 1) xs) ≡ filter p (take i xs) → cond b (x ∷ filter p (take (i + 1) xs)) (filter p (take (i + 1) xs)) ≡ cond b (x ∷ filter p (take i xs)) (filter p (take i xs))
    here true behind = ap (λ (ys : List ℕ). x ∷ ys) behind
    here false behind = behind

take_past : (xs : List ℕ) (i : ℕ) → length xs ≤ i → take i xs ≡ xs
take_past [] zero le = refl
take_past [] (suc i) le = refl
take_past (x ∷ xs) zero le = absurd (omega (arith, le))
take_past (x ∷ xs) (suc i) le = ap (λ (ys : List ℕ). x ∷ ys) (take_past xs i (omega (arith, le)))

pub needs_rise : (p : ℕ → Bool) (all cells : List ℕ) (i : ℕ) → length all ≤ i → cells ≡ filter p (take i all) → IsStrictlyIncreasing all → IsStrictlyIncreasing cells
needs_rise p all cells i le is rises = subst IsStrictlyIncreasing (sym (is ∙ ap (filter p) (take_past all i le))) (IsStrictlyIncreasing-filter p all rises)

pub needs_listed : (exprs : List CoreExpr) (a : Stmt) (values : List Operand) (all cells : List ℕ) (i : ℕ) → StoresAreAssigned → length all ≤ i → cells ≡ filter (start_needs exprs a values) (take i all) → ((c : ℕ) → assigns a c ≡ true → Contains all c)
    → (c : ℕ) → is_listed cells c ≡ start_needs exprs a values c
needs_listed exprs a values all cells i stored le is has c =
    ap (λ (cs : List ℕ). is_listed cs c) (is ∙ ap (filter (start_needs exprs a values)) (take_past all i le)) ∙ listed_filter (start_needs exprs a values) all c ∙ both (start_needs exprs a values c) refl
  where
    left : (x y : Bool) → (x && y) ≡ true → x ≡ true
    left true y is = refl
    left false y is = is

    both : (b : Bool) → start_needs exprs a values c ≡ b → (b && is_listed all c) ≡ b
    both true needs = has_listed all c (has c (stored exprs a c (Agains 0) (left (stores true exprs a c (Agains 0)) _ needs)))
    both false needs = refl
