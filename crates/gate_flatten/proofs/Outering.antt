-- The arguments of the outermost call, and the answer for it.
use Rattle.std.proofs.Common.{◌≡◌, ℕ, zero, suc, ◌+◌, ◌<◌, ◌≤◌, not, List, [], ◌∷◌, ◌++◌, length, take, get_or, All, ℤ, Some, refl, sym, ap, subst, ◌∙◌, arith, add-one, cond}
use Rattle.std.specs.Prelude.{slice_get}
use Rattle.std.proofs.Math.Seq.{take-suc}
use Rattle.std.proofs.lemmas.List.Sums.{sum_by-append}
use Rattle.std.proofs.lemmas.List.{map-append}
use Rattle.std.proofs.lemmas.List.Elements.{All-append, All-cons}
use Rattle.std.proofs.lemmas.Option.{slice_get-get_or, slice_get_within}
use Rattle.gate_lists.specs.declared.expansion.TurnExpr.{TurnExpr}
use Rattle.gate_lists.specs.declared.expansion.TurnExpr.TheVariants as turn
use Rattle.gate_lists.specs.Growing.{AreWorths}
use Rattle.gate_lists.specs.Turns.{made_count, is_outer}
use Rattle.gate_lists.specs.Pushed.{IsPushed}
use Rattle.gate_lists.specs.Units.{word_of}
use Rattle.gate_arguments.specs.declared.scope.Argument.{Argument}
use Rattle.gate_arguments.specs.Kept.{KeepsTurns}
use Rattle.gate_arguments.specs.Scope.{turn_of}
use Rattle.gate_arguments.specs.Seen.{ArgumentFits, argument_seen, arguments_seen}
use Rattle.const_eval.specs.Constant.{Constant}
use Rattle.gate_arguments.specs.Words.{word_of_word}
use Rattle.gate_flatten.specs.Outer.{OuterMeaning, FixedOuter, RunningOuter}
use Rattle.gate_flatten.specs.Seen.{outer_argument, outer_arguments}
use Rattle.gate_flatten.proofs.Growing.{arguments_later}

-- ---- lists

get_first : {A : Type 0} (xs ys : List A) (k : ℕ) (x : A) → slice_get xs k ≡ Some x → slice_get (xs ++ ys) k ≡ Some x
get_first [] ys k x e = absurd cc
get_first (y ∷ xs) ys zero x e = e
get_first (y ∷ xs) ys (suc k) x e = get_first xs ys k x e

get_last : {A : Type 0} (xs : List A) (x : A) → slice_get (xs ++ x ∷ []) (length xs) ≡ Some x
get_last [] x = refl
get_last (y ∷ xs) x = get_last xs x

length_more : {A : Type 0} (xs : List A) (x : A) → length (xs ++ x ∷ []) ≡ suc (length xs)
length_more [] x = refl
length_more (y ∷ xs) x = ap suc (length_more xs x)

-- ---- a turn that is an argument

pub outer_kept : (old : List TurnExpr) (k : ℕ) → KeepsTurns old (old ++ turn.Outer k ∷ [])
outer_kept old k = record { more = let count = length_more old (turn.Outer k) in omega arith; kept = λ j t e. get_first old (turn.Outer k ∷ []) j t e }

pub outer_inside : (old : List TurnExpr) (k : ℕ) → length old < length (old ++ turn.Outer k ∷ [])
outer_inside old k = let count = length_more old (turn.Outer k) in omega arith

pub outer_count : (old : List TurnExpr) (k : ℕ) → made_count (old ++ turn.Outer k ∷ []) ≡ made_count old
outer_count old k =
    let sum : made_count (old ++ turn.Outer k ∷ []) ≡ made_count old + (0 + 0) = sum_by-append (λ (u : TurnExpr). cond (not (is_outer u)) 1 0) old (turn.Outer k ∷ []) in
    omega (arith, sum)

pub outer_worth : (given worths : ℕ → ℤ) (old : List TurnExpr) (k : ℕ) → AreWorths given worths (old ++ turn.Outer k ∷ []) → worths (length old) ≡ word_of (given k)
outer_worth given worths old k are = are.each (length old) (turn.Outer k) (get_last old (turn.Outer k))

-- ---- the arguments one after another

outers_more : (given : ℕ → ℤ) (from : ℕ) (outers : List OuterMeaning) (outer : OuterMeaning) → outer_arguments given from (outers ++ outer ∷ []) ≡ outer_arguments given from outers ++ outer_argument given (from + length outers) outer ∷ []
outers_more given from [] outer = let same : from + 0 ≡ from = omega arith in rw same refl
outers_more given from (o ∷ outers) outer =
    let same : from + 1 + length outers ≡ from + suc (length outers) = omega arith in
    ap (λ (cs : List Constant). outer_argument given from o ∷ cs) (outers_more given (from + 1) outers outer ∙ rw same refl)

length_take : {A : Type 0} (xs : List A) (k : ℕ) → k ≤ length xs → length (take k xs) ≡ k
length_take xs zero le = refl
length_take [] (suc k) le = absurd (omega arith)
length_take (x ∷ xs) (suc k) le = ap suc (length_take xs k (omega arith))

pub one_outer_more : (given worths : ℕ → ℤ) (outers : List OuterMeaning) (found : List Argument) (k : ℕ) (outer : OuterMeaning) (a : Argument) → slice_get outers k ≡ Some outer
    → arguments_seen worths found ≡ outer_arguments given 0 (take k outers) → argument_seen worths a ≡ outer_argument given k outer
    → arguments_seen worths (found ++ a ∷ []) ≡ outer_arguments given 0 (take (k + 1) outers)
one_outer_more given worths outers found k outer a there before e =
    let lt = slice_get_within outers k outer there in
    let some = slice_get-get_or outers k outer lt in
    let is : get_or outers k outer ≡ outer = cc in
    let count : length (take k outers) ≡ k = length_take outers k (omega arith) in
    let long : 0 + length (take k outers) ≡ k = omega (arith, count) in
    rw (add-one k, take-suc outers k outer lt, is)
    (map-append (argument_seen worths) found (a ∷ [])
    ∙ ap (λ (cs : List Constant). cs ++ argument_seen worths a ∷ []) before
    ∙ ap (λ (c : Constant). outer_arguments given 0 (take k outers) ++ c ∷ []) e
    ∙ sym (outers_more given 0 (take k outers) outer ∙ ap (λ (n : ℕ). outer_arguments given 0 (take k outers) ++ outer_argument given n outer ∷ []) long))

-- ---- turns that stay

pub worths_kept : (given worths : ℕ → ℤ) (old new : List TurnExpr) → KeepsTurns old new → AreWorths given worths new → AreWorths given worths old
worths_kept given worths old new keeps are = record { each = λ k t e. are.each k t (keeps.kept k t e) }

-- ---- one argument

pub fixed_worth : (given : ℕ → ℤ) (outers : List OuterMeaning) (k : ℕ) (m : OuterMeaning) (c x : Constant) → slice_get outers k ≡ Some (FixedOuter c) → slice_get outers k ≡ Some m
    → x ≡ c → x ≡ outer_argument given k m
fixed_worth given outers k m c x there is same =
    let one : m ≡ FixedOuter c = cc in rw one same

pub running_worth : (given worths : ℕ → ℤ) (outers : List OuterMeaning) (k : ℕ) (m : OuterMeaning) (place : ℕ) → slice_get outers k ≡ Some RunningOuter → slice_get outers k ≡ Some m
    → worths place ≡ word_of (given k) → turn_of (worths place) ≡ outer_argument given k m
running_worth given worths outers k m place there is worth =
    let one : m ≡ RunningOuter = cc in
    rw one (ap turn_of worth ∙ rw (word_of_word (given k)) refl)

pub pushed_worth : (given worths : ℕ → ℤ) (old new : List TurnExpr) (k place : ℕ) → IsPushed old new (turn.Outer k) place → AreWorths given worths new → worths place ≡ word_of (given k)
pushed_worth given worths old new k place pushed are =
    ap worths pushed.next ∙ outer_worth given worths old k (subst (AreWorths given worths) pushed.items are)

pub pushed_kept : (old new : List TurnExpr) (k place : ℕ) → IsPushed old new (turn.Outer k) place → KeepsTurns old new
pushed_kept old new k place pushed = subst (KeepsTurns old) (sym pushed.items) (outer_kept old k)

-- ---- one argument more

pub count_more : (found : List Argument) (a : Argument) (k : ℕ) → length found ≡ k → length (found ++ a ∷ []) ≡ k + 1
count_more found a k count = let one = length_more found a in omega (arith, one, count)

pub fit_more : (old new : List TurnExpr) (found : List Argument) (a : Argument) → KeepsTurns old new → All (ArgumentFits (length old)) found → ArgumentFits (length new) a
    → All (ArgumentFits (length new)) (found ++ a ∷ [])
fit_more old new found a keeps all one =
    All-append (ArgumentFits (length new)) found (a ∷ []) (arguments_later (length old) (length new) found keeps.more all) (All-cons (ArgumentFits (length new)) a [] one (λ k d lt. absurd (omega arith)))
