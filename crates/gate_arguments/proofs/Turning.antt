-- Lists of turns that grow.
use Rattle.std.proofs.Common.{◌≡◌, ℕ, zero, suc, ◌+◌, ◌*◌, ◌≤◌, Bool, true, false, not, cond, List, [], ◌∷◌, ◌++◌, length, slice_get, All, Some, Result, Ok, Err, IfOk, OnOk, OnErr, ◌^◌, ℤ, pos, negsuc, refl, sym, ap, subst, ◌∙◌, arith, length-append}
use Rattle.std.specs.Int.RustNames.{unsigned_abs}
use Rattle.std.proofs.lemmas.Int.{ints}
use Rattle.std.proofs.lemmas.List.Sums.{sum_by-append}
use Rattle.gate_lists.specs.declared.expansion.TurnExpr.{TurnExpr}
use Rattle.gate_lists.specs.declared.expansion.TurnExpr.TheVariants as turn
use Rattle.gate_lists.specs.Units.{word_of}
use Rattle.qasm_types.specs.declared.ty.Ty.TheVariants as t
use Rattle.qasm_types.specs.Values.{Units}
use Rattle.gate_arguments.specs.Scope.{turn_of}
use Rattle.gate_arguments.specs.Words.{word_of_small, word_of_word}
use Rattle.gate_lists.specs.declared.member.Member.{Member}
use Rattle.gate_lists.specs.declared.work.Work.{Work}
use Rattle.gate_lists.specs.Amounts.{IsNamed}
use Rattle.gate_lists.specs.Growing.{AreWorths, Grows, MakesTurns}
use Rattle.gate_lists.specs.Pushed.{IsPushed}
use Rattle.gate_lists.specs.Turns.{is_outer, made_count}
use Rattle.gate_arguments.specs.Kept.{KeepsTurns}

-- ---- worths

-- what holds of all turns holds of those that were there before
pub worths_before : (given worths : ℕ → ℤ) (old new : List TurnExpr) → ((k : ℕ) (t : TurnExpr) → slice_get old k ≡ Some t → slice_get new k ≡ Some t) → AreWorths given worths new → AreWorths given worths old
worths_before given worths old new kept are = record { each = λ k t e. are.each k t (kept k t e) }

-- ---- places

get_more : (xs ys : List TurnExpr) (k : ℕ) (t : TurnExpr) → slice_get xs k ≡ Some t → slice_get (xs ++ ys) k ≡ Some t
get_more [] ys k t e = absurd cc
get_more (x ∷ xs) ys zero t e = e
get_more (x ∷ xs) ys (suc k) t e = get_more xs ys k t e

one_at_most : (b : Bool) → cond b 1 0 ≤ 1
one_at_most true = omega arith
one_at_most false = omega arith

made_more : (xs : List TurnExpr) (t : TurnExpr) → made_count (xs ++ t ∷ []) ≤ made_count xs + 1
made_more xs t = omega (arith, sum_by-append (λ (x : TurnExpr). cond (not (is_outer x)) 1 0) xs (t ∷ []), one_at_most (not (is_outer t)))

-- ---- turns that are put behind others

pub makes_none : (turns : List TurnExpr) (most : ℕ) → MakesTurns turns turns most
makes_none turns most = record { more = omega arith; kept = λ k t e. e; few = omega arith }

pub makes_then : (a b c : List TurnExpr) (m n k : ℕ) → m + n ≤ k → MakesTurns a b m → MakesTurns b c n → MakesTurns a c k
makes_then a b c m n k le f g = record { more = omega (arith, f.more, g.more); kept = λ j t e. g.kept j t (f.kept j t e); few = omega (arith, f.few, g.few) }

pub makes_pushed : (old new : List TurnExpr) (t : TurnExpr) (place : ℕ) → IsPushed old new t place → MakesTurns old new 1
makes_pushed old new t place h =
    subst (λ (xs : List TurnExpr). MakesTurns old xs 1) (sym h.items)
    (record { more = omega (arith, length-append old (t ∷ [])); kept = λ k x e. get_more old (t ∷ []) k x e; few = made_more old t })

pub makes_same : (old new : List TurnExpr) (most : ℕ) → new ≡ old → MakesTurns old new most
makes_same old new most e = subst (λ (xs : List TurnExpr). MakesTurns old xs most) (sym e) (makes_none old most)

-- the place of a turn that was pushed
get_last : (xs : List TurnExpr) (t : TurnExpr) → slice_get (xs ++ t ∷ []) (length xs) ≡ Some t
get_last [] t = refl
get_last (x ∷ xs) t = get_last xs t

pub pushed_at : (old new : List TurnExpr) (t : TurnExpr) (place : ℕ) → IsPushed old new t place → slice_get new place ≡ Some t
pushed_at old new t place h = subst (λ (xs : List TurnExpr). slice_get xs place ≡ Some t) (sym h.items) (subst (λ (k : ℕ). slice_get (old ++ t ∷ []) k ≡ Some t) (sym h.next) (get_last old t))

-- ---- walks

no_members : (turns : ℕ) → All (λ (m : Member). All (IsNamed turns) m.args) []
no_members turns k d lt = absurd (omega arith)

pub keeps_made : (old new : List TurnExpr) (n : ℕ) → MakesTurns old new n → KeepsTurns old new
keeps_made old new n h = record { more = h.more; kept = h.kept }

pub keeps_none : (turns : List TurnExpr) → KeepsTurns turns turns
keeps_none turns = record { more = omega arith; kept = λ k t e. e }

pub keeps_then : (a b c : List TurnExpr) → KeepsTurns a b → KeepsTurns b c → KeepsTurns a c
keeps_then a b c f g = record { more = omega (arith, f.more, g.more); kept = λ k t e. g.kept k t (f.kept k t e) }

pub grows_by : (old new : Work) (n : ℕ) → MakesTurns old.turns.items.items new.turns.items.items n → n + 4 * new.budget.left ≤ 4 * old.budget.left → Grows old new []
grows_by old new n h le = record { more = h.more; kept = h.kept; named = no_members (length new.turns.items.items); few = omega (arith, h.few) }

pub grows_none : (work : Work) → Grows work work []
grows_none work = record { more = omega arith; kept = λ k t e. e; named = no_members (length work.turns.items.items); few = omega arith }

pub grows_then : (a b c : Work) → Grows a b [] → Grows b c [] → Grows a c []
grows_then a b c f g = record { more = omega (arith, f.more, g.more); kept = λ k t e. g.kept k t (f.kept k t e); named = g.named; few = omega (arith, f.few, g.few) }

-- ---- calls that push

small_word : (z : ℤ) → unsigned_abs z ≤ 2 ^ 40 → word_of z ≡ z
small_word (pos a) h = word_of_small (pos a) (omega (arith, ints)) (omega (arith, ints))
small_word (negsuc a) h = word_of_small (negsuc a) (omega (arith, ints)) (omega (arith, ints))

pub fixed_worth : {E : Type 0} (given worths : ℕ → ℤ) (old new : List TurnExpr) (z held : ℤ) → held ≡ z → (r : Result ℕ E) → IfOk r (IsPushed old new (turn.Fixed held)) → unsigned_abs z ≤ 2 ^ 40 → AreWorths given worths new → IfOk r (λ t. worths t ≡ z)
fixed_worth given worths old new z held same (Ok place) h small are = are.each place (turn.Fixed held) (pushed_at old new (turn.Fixed held) place h) ∙ ap word_of same ∙ small_word z small
fixed_worth given worths old new z held same (Err e) h small are = tt

pub pushed_makes : {E : Type 0} (old new : List TurnExpr) (t : TurnExpr) (r : Result ℕ E) → IfOk r (IsPushed old new t) → OnErr r (new ≡ old) → MakesTurns old new 1
pushed_makes old new t (Ok place) h err = makes_pushed old new t place h
pushed_makes old new t (Err e) h err = makes_same old new 1 err

-- a turn that is worth the word of a number
pub turn_same : (x z : ℤ) → x ≡ word_of z → turn_of x ≡ turn_of z
turn_same x z e = ap (λ (u : ℤ). record { type = t.Turn; value = Units u }) (ap word_of e ∙ word_of_word z)

-- ---- calls that are made after others

-- what holds anyway holds of each answer
pub on_any : {A E P : Type 0} (r : Result A E) → P → OnOk r P
on_any (Ok a) p = p
on_any (Err e) p = tt

pub args_then : {A E : Type 0} (r : Result A E) (x y z : ℕ) → y ≡ x → OnOk r (z ≡ y) → OnOk r (z ≡ x)
args_then (Ok a) x y z e h = h ∙ e
args_then (Err why) x y z e h = tt

pub grown_then : {A E : Type 0} (r : Result A E) (a b c : Work) → Grows a b [] → OnOk r (Grows b c []) → OnOk r (Grows a c [])
grown_then (Ok x) a b c g h = grows_then a b c g h
grown_then (Err why) a b c g h = tt
