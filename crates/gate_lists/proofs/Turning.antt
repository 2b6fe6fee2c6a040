-- Lists of turns that grow.
use Rattle.std.proofs.Common.{◌≡◌, ℕ, zero, suc, ◌+◌, ◌<◌, ◌≤◌, Bool, true, false, not, cond, List, [], ◌∷◌, ◌++◌, length, get_or, Some, ◌⊎◌, inl, inr, refl, sym, ap, subst, ◌∙◌, arith, ℤ, neg_ℤ, ◌+ℤ◌, ◌-ℤ◌, ◌*ℤ◌}
use Rattle.std.specs.Prelude.{int_div}
use Rattle.std.specs.List.{slice_get}
use Rattle.std.proofs.lemmas.Bool.{ltb-true, lt-ltb}
use Rattle.std.proofs.lemmas.List.{length-append}
use Rattle.std.proofs.lemmas.Option.{slice_get-get_or}
use Rattle.std.proofs.lemmas.List.Sums.{sum_by-append}
use Rattle.gate_lists.specs.declared.expansion.TurnExpr.{TurnExpr}
use Rattle.gate_lists.specs.declared.expansion.TurnExpr.TheVariants as turn
use Rattle.gate_lists.specs.Turns.{turn_fits, is_outer, made_count, worth_by}
use Rattle.gate_lists.specs.declared.member.Amount.{Amount}
use Rattle.gate_lists.specs.declared.member.Amount.TheVariants as amount
use Rattle.gate_lists.specs.Amounts.{units_in, IsNamed}
use Rattle.gate_lists.specs.Growing.{AreWorths, MakesTurns, worth_where}
use Rattle.gate_lists.specs.Pushed.{IsPushed}
use Rattle.gate_lists.specs.Units.{word_of}
use Rattle.gate_lists.proofs.Units.{word_of-word_of}

-- ---- one item behind a list

-- what stands in a list with one more is that item or was there
pub slice_get-push : {A : Type 0} (xs : List A) (y : A) (i : ℕ) (x : A) → slice_get (xs ++ y ∷ []) i ≡ Some x
    → (slice_get xs i ≡ Some x) ⊎ ((i ≡ length xs) × (x ≡ y))
slice_get-push [] y zero x e = inr (refl, cc)
slice_get-push [] y (suc i) x e = absurd cc
slice_get-push (z ∷ xs) y zero x e = inl e
slice_get-push (z ∷ xs) y (suc i) x e =
    elim (slice_get-push xs y i x e) [
      | inl there ↦ inl there
      | inr here ↦ inr (omega (arith, here.0), here.1)
    ]

pub slice_get-kept : {A : Type 0} (xs : List A) (y : A) (i : ℕ) (x : A) → slice_get xs i ≡ Some x → slice_get (xs ++ y ∷ []) i ≡ Some x
slice_get-kept [] y i x e = absurd cc
slice_get-kept (z ∷ xs) y zero x e = e
slice_get-kept (z ∷ xs) y (suc i) x e = slice_get-kept xs y i x e

pub slice_get-last : {A : Type 0} (xs : List A) (y : A) → slice_get (xs ++ y ∷ []) (length xs) ≡ Some y
slice_get-last [] y = refl
slice_get-last (x ∷ xs) y = slice_get-last xs y

-- ---- turns that fit

-- a turn that names no argument fits also where there are some
pub fits_more : (args at : ℕ) (t : TurnExpr) → turn_fits 0 at t ≡ true → turn_fits args at t ≡ true
fits_more args at (turn.Outer k) e = let below : k < 0 = ltb-true k 0 e in absurd (omega arith)
fits_more args at (turn.Fixed z) e = e
fits_more args at (turn.Neg a) e = e
fits_more args at (turn.Add a b) e = e
fits_more args at (turn.Sub a b) e = e
fits_more args at (turn.Mul a k) e = e
fits_more args at (turn.Div a k) e = e

-- and where there are more of them
pub fits_wider : (args more at : ℕ) (t : TurnExpr) → args ≤ more → turn_fits args at t ≡ true → turn_fits more at t ≡ true
fits_wider args more at (turn.Outer k) le e = let below = ltb-true k args e in lt-ltb k more (omega arith)
fits_wider args more at (turn.Fixed z) le e = e
fits_wider args more at (turn.Neg a) le e = e
fits_wider args more at (turn.Add a b) le e = e
fits_wider args more at (turn.Sub a b) le e = e
fits_wider args more at (turn.Mul a k) le e = e
fits_wider args more at (turn.Div a k) le e = e

abbrev pub AllFit : ℕ → List TurnExpr → Type 0
AllFit args turns = (at : ℕ) (t : TurnExpr) → slice_get turns at ≡ Some t → turn_fits args at t ≡ true

abbrev pub OuterOnce : List TurnExpr → Type 0
OuterOnce turns = (i j k : ℕ) → slice_get turns i ≡ Some (turn.Outer k) → slice_get turns j ≡ Some (turn.Outer k) → i ≡ j

pub all_fit_pushed : (args more : ℕ) (turns : List TurnExpr) (t : TurnExpr) → args ≤ more → AllFit args turns → turn_fits more (length turns) t ≡ true → AllFit more (turns ++ t ∷ [])
all_fit_pushed args more turns t le fit new at u e =
    elim (slice_get-push turns t at u e) [
      | inl there ↦ fits_wider args more at u le (fit at u there)
      | inr here ↦ fitting at u here.0 here.1
    ]
  where
    fitting : (at : ℕ) (u : TurnExpr) → at ≡ length turns → u ≡ t → turn_fits more at u ≡ true
    fitting at u e f = rw (e, f) new

-- no argument is named twice, where the new turn names none that was named
pub once_pushed : (args : ℕ) (turns : List TurnExpr) (t : TurnExpr) → AllFit args turns → OuterOnce turns
    → ((k : ℕ) → t ≡ turn.Outer k → args ≤ k) → OuterOnce (turns ++ t ∷ [])
once_pushed args turns t fit once new i j k at_i at_j =
    let named : (at : ℕ) → slice_get turns at ≡ Some (turn.Outer k) → k < args = λ at e. ltb-true k args (fit at (turn.Outer k) e) in
    elim (slice_get-push turns t i (turn.Outer k) at_i) [
      | inl i_there ↦ elim (slice_get-push turns t j (turn.Outer k) at_j) [
        | inl j_there ↦ once i j k i_there j_there
        | inr j_here ↦ let inside = named i i_there in let above = new k (sym j_here.1) in absurd (omega arith)
      ]
      | inr i_here ↦ elim (slice_get-push turns t j (turn.Outer k) at_j) [
        | inl j_there ↦ let inside = named j j_there in let above = new k (sym i_here.1) in absurd (omega arith)
        | inr j_here ↦ i_here.0 ∙ sym j_here.0
      ]
    ]

-- a turn that names no argument is none
pub fits_none : (at k : ℕ) (t : TurnExpr) → turn_fits 0 at t ≡ true → t ≡ turn.Outer k → (args : ℕ) → args ≤ k
fits_none at k t e is args =
    let outer : turn_fits 0 at (turn.Outer k) ≡ true = rw is at e in
    let below : k < 0 = ltb-true k 0 outer in
    absurd (omega arith)

-- ---- how many there are

at_most_one : (b : Bool) → 0 + cond b 1 0 ≤ 1
at_most_one true = omega arith
at_most_one false = omega arith

pub made_count-push : (turns : List TurnExpr) (t : TurnExpr) → made_count (turns ++ t ∷ []) ≤ made_count turns + 1
made_count-push turns t =
    let sum : made_count (turns ++ t ∷ []) ≡ made_count turns + (0 + cond (not (is_outer t)) 1 0) = sum_by-append (λ (u : TurnExpr). cond (not (is_outer u)) 1 0) turns (t ∷ []) in
    omega (arith, sum, at_most_one (not (is_outer t)))

-- ---- worths

-- what is worth right in a longer list is so in a shorter
pub worths_before : (given worths : ℕ → ℤ) (old new : List TurnExpr) → ((k : ℕ) (t : TurnExpr) → slice_get old k ≡ Some t → slice_get new k ≡ Some t)
    → AreWorths given worths new → AreWorths given worths old
worths_before given worths old new kept all = record { each = λ k t e. all.each k t (kept k t e) }

-- ---- what a list of turns keeps

-- where a turn that is no argument was put behind it or was not
pub push_keeps : (args : ℕ) (old new : List TurnExpr) (t : TurnExpr) (b : Bool) → AllFit args old → OuterOnce old
    → turn_fits 0 (length old) t ≡ true → new ≡ cond b (old ++ t ∷ []) old → AllFit args new × OuterOnce new
push_keeps args old new t true fit once fits is =
    let P : List TurnExpr → Type 0 = λ turns. AllFit args turns × OuterOnce turns in
    subst P (sym is) (
      all_fit_pushed args args old t (omega arith) fit (fits_more args (length old) t fits),
      once_pushed args old t fit once (λ k e. fits_none (length old) k t fits e args),
    )
push_keeps args old new t false fit once fits is =
    let P : List TurnExpr → Type 0 = λ turns. AllFit args turns × OuterOnce turns in subst P (sym is) (fit, once)

-- where an argument behind all that were named was put behind it
pub outer_keeps : (args : ℕ) (old new : List TurnExpr) (k : ℕ) → AllFit args old → OuterOnce old
    → args ≤ k → new ≡ old ++ turn.Outer k ∷ [] → AllFit (k + 1) new × OuterOnce new
outer_keeps args old new k fit once le is =
    let P : List TurnExpr → Type 0 = λ turns. AllFit (k + 1) turns × OuterOnce turns in
    let wider : args ≤ k + 1 = omega arith in
    let below : k < k + 1 = omega arith in
    subst P (sym is) (
      all_fit_pushed args (k + 1) old (turn.Outer k) wider fit (lt-ltb k (k + 1) below),
      once_pushed args old (turn.Outer k) fit once (λ j e. same_outer j e),
    )
  where
    same_outer : (j : ℕ) → turn.Outer k ≡ turn.Outer j → args ≤ j
    same_outer j e = let same : k ≡ j = cc in omega arith

-- a turn that was put behind others
pub makes_one : (old new : List TurnExpr) (t : TurnExpr) (place : ℕ) → IsPushed old new t place → MakesTurns old new 1
makes_one old new t place pushed =
    let P : List TurnExpr → Type 0 = λ turns. MakesTurns old turns 1 in
    subst P (sym pushed.items)
    (record { more = omega (arith, length-append old (t ∷ [])); kept = λ k u e. slice_get-kept old t k u e; few = made_count-push old t })

-- ---- what named turns are worth

word_of_turn : (given worths : ℕ → ℤ) (t : TurnExpr) → word_of (worth_by given worths t) ≡ worth_by given worths t
word_of_turn given worths (turn.Outer k) = word_of-word_of (given k)
word_of_turn given worths (turn.Fixed z) = word_of-word_of z
word_of_turn given worths (turn.Neg a) = word_of-word_of (neg_ℤ (worths a))
word_of_turn given worths (turn.Add a b) = word_of-word_of (worths a +ℤ worths b)
word_of_turn given worths (turn.Sub a b) = word_of-word_of (worths a -ℤ worths b)
word_of_turn given worths (turn.Mul a k) = word_of-word_of (worths a *ℤ k)
word_of_turn given worths (turn.Div a k) = word_of-word_of (int_div (worths a) k)

pub worth_is_word : (given worths : ℕ → ℤ) (turns : List TurnExpr) (k : ℕ) → AreWorths given worths turns → k < length turns → word_of (worths k) ≡ worths k
worth_is_word given worths turns k all lt =
    let t = get_or turns k (turn.Outer 0) in
    let is : worths k ≡ worth_by given worths t = all.each k t (slice_get-get_or turns k (turn.Outer 0) lt) in
    ap word_of is ∙ word_of_turn given worths t ∙ sym is

pub running_is : (given worths : ℕ → ℤ) (turns : List TurnExpr) (a : Amount) (is_there s : Bool) (k : ℕ) → a ≡ amount.Turn k s → s ≡ false → is_there ≡ true
    → IsNamed (length turns) a → AreWorths given worths turns → Some (worths k) ≡ worth_where is_there (units_in worths a)
running_is given worths turns a true true k is sign there named all = absurd cc
running_is given worths turns a true false k is sign there named all =
    let P : Amount → Type 0 = λ x. IsNamed (length turns) x in
    let inside : k < length turns = subst P is named in
    ap Some (sym (ap (units_in worths) is ∙ worth_is_word given worths turns k all inside))
running_is given worths turns a false s k is sign there named all = absurd cc
