-- Serves proofs alone: what turns are worth, computed one behind another, is what each says.
use Rattle.std.proofs.Common.{◌≡◌, ℕ, zero, suc, ◌+◌, ◌<◌, true, List, [], ◌∷◌, ◌++◌, length, get_or, Some, ℤ, pos, ◌+ℤ◌, ◌-ℤ◌, ◌*ℤ◌, refl, sym, ap, ◌∙◌, arith}
use Rattle.std.specs.Prelude.{int_div}
use Rattle.std.specs.List.{slice_get}
use Rattle.std.proofs.lemmas.Bool.{ltb-true, and_parts}
use Rattle.std.proofs.lemmas.List.{get_or_append_left, length-append}
use Rattle.std.proofs.Math.Seq.{get_or-append_seam}
use Rattle.gate_lists.specs.declared.expansion.TurnExpr.{TurnExpr}
use Rattle.gate_lists.specs.declared.expansion.TurnExpr.TheVariants as turn
use Rattle.gate_lists.specs.Turns.{turn_fits, worth_by, worths_behind, worth_at}
use Rattle.gate_lists.specs.Units.{word_of, negated}
use Rattle.gate_lists.specs.Growing.{AreWorths}

abbrev in_list : List ℤ → ℕ → ℤ
in_list values k = get_or values k (pos 0)

-- a turn is worth the same by worths that agree on the turns in front of it
worth_by-same : (given v w : ℕ → ℤ) (args at : ℕ) (t : TurnExpr) → turn_fits args at t ≡ true → ((k : ℕ) → k < at → v k ≡ w k) → worth_by given v t ≡ worth_by given w t
worth_by-same given v w args at (turn.Outer k) fits same = refl
worth_by-same given v w args at (turn.Fixed z) fits same = refl
worth_by-same given v w args at (turn.Neg a) fits same = ap negated (same a (ltb-true a at fits))
worth_by-same given v w args at (turn.Add a b) fits same =
    let parts = and_parts _ _ fits in
    ap (λ x. word_of (x +ℤ v b)) (same a (ltb-true a at parts.0)) ∙ ap (λ x. word_of (w a +ℤ x)) (same b (ltb-true b at parts.1))
worth_by-same given v w args at (turn.Sub a b) fits same =
    let parts = and_parts _ _ fits in
    ap (λ x. word_of (x -ℤ v b)) (same a (ltb-true a at parts.0)) ∙ ap (λ x. word_of (w a -ℤ x)) (same b (ltb-true b at parts.1))
worth_by-same given v w args at (turn.Mul a k) fits same = ap (λ x. word_of (x *ℤ k)) (same a (ltb-true a at fits))
worth_by-same given v w args at (turn.Div a k) fits same =
    let parts = and_parts _ _ fits in ap (λ x. word_of (int_div x k)) (same a (ltb-true a at parts.0))

-- values that were there stay
values_kept : (given : ℕ → ℤ) (values : List ℤ) (turns : List TurnExpr) (k : ℕ) → k < length values → in_list (worths_behind given values turns) k ≡ in_list values k
values_kept given values [] k lt = refl
values_kept given values (t ∷ turns) k lt =
    let one = worth_by given (in_list values) t in
    let wider : k < length (values ++ one ∷ []) = omega (arith, length-append values (one ∷ [])) in
    values_kept given (values ++ one ∷ []) turns k wider ∙ get_or_append_left values (one ∷ []) (pos 0) k lt

-- each turn behind the values is worth what it says
each_right : (given : ℕ → ℤ) (args : ℕ) (values : List ℤ) (turns : List TurnExpr)
    → ((at : ℕ) (t : TurnExpr) → slice_get turns at ≡ Some t → turn_fits args (length values + at) t ≡ true)
    → (k : ℕ) (t : TurnExpr) → slice_get turns k ≡ Some t
    → in_list (worths_behind given values turns) (length values + k) ≡ worth_by given (in_list (worths_behind given values turns)) t
each_right given args values [] fit k t e = absurd cc
each_right given args values (u ∷ turns) fit zero t e =
    let one = worth_by given (in_list values) u in
    let more = values ++ one ∷ [] in
    let wider : length values < length more = omega (arith, length-append values (one ∷ [])) in
    let is : u ≡ t = cc in
    let here : length values + zero ≡ length values = omega arith in
    let fits : turn_fits args (length values) t ≡ true = rw (← here) (fit zero t e) in
    let value : in_list (worths_behind given more turns) (length values) ≡ one = values_kept given more turns (length values) wider ∙ get_or-append_seam values one [] (pos 0) in
    let agree : (k : ℕ) → k < length values → in_list values k ≡ in_list (worths_behind given more turns) k
    = λ k lt. sym (values_kept given values (u ∷ turns) k lt) in
    rw here (value ∙ ap (worth_by given (in_list values)) is ∙ worth_by-same given (in_list values) (in_list (worths_behind given more turns)) args (length values) t fits agree)
each_right given args values (u ∷ turns) fit (suc k) t e =
    let one = worth_by given (in_list values) u in
    let more = values ++ one ∷ [] in
    let longer : length more ≡ suc (length values) = length-append values (one ∷ []) ∙ add_one (length values) in
    let shifted : (at : ℕ) → length more + at ≡ length values + suc at = λ at. omega (arith, longer) in
    let fit' : (at : ℕ) (t : TurnExpr) → slice_get turns at ≡ Some t → turn_fits args (length more + at) t ≡ true
    = λ at t e. rw (shifted at) (fit (suc at) t e) in
    rw (← shifted k) (each_right given args more turns fit' k t e)
  where
    add_one : (n : ℕ) → n + 1 ≡ suc n
    add_one n = omega arith

pub worth_at-AreWorths : (given : ℕ → ℤ) (args : ℕ) (turns : List TurnExpr)
    → ((at : ℕ) (t : TurnExpr) → slice_get turns at ≡ Some t → turn_fits args at t ≡ true) → AreWorths given (worth_at given turns) turns
worth_at-AreWorths given args turns fit = record { each = λ k t e. at k t e }
  where
    front : (at : ℕ) → 0 + at ≡ at
    front at = omega arith

    fit' : (at : ℕ) (t : TurnExpr) → slice_get turns at ≡ Some t → turn_fits args (length {A = ℤ} [] + at) t ≡ true
    fit' at t e = rw (front at) (fit at t e)

    at : (k : ℕ) (t : TurnExpr) → slice_get turns k ≡ Some t → worth_at given turns k ≡ worth_by given (worth_at given turns) t
    at k t e = rw (← front k) (each_right given args [] turns fit' k t e)
