-- Modifiers as they are read.
use Rattle.std.proofs.Common.{◌≡◌, ℕ, ◌+◌, ◌<◌, ◌≤◌, true, false, List, ◌∷◌, [], ◌++◌, length, get_or, ℤ, pos, Option, Some, None, Result, Ok, ◌∙◌}
use Rattle.std.specs.Prelude.{neg_ℤ, unsigned_abs}
use Rattle.qq_base.specs.declared.refusal.Fault.{Fault}
use Rattle.qq_base.specs.declared.refusal.Refusal.{Refusal}
use Rattle.qq_base.specs.declared.refusal.Span.{Span}
use Rattle.qasm_ast.specs.declared.expr.ExprId.{ExprId}
use Rattle.qasm_ast.specs.declared.stmt.Modifier.{Modifier}
use Rattle.qasm_ast.specs.declared.stmt.Modifier.TheVariants as written
use Rattle.qasm_ast.specs.Tree.{control, place_of}
use Rattle.qasm_ast.specs.View.{change_in, maybe_in, tree_in}
use Rattle.qasm_ast.specs.Whole.{Source}
use Rattle.const_eval.specs.Answers.{Fails}
use Rattle.const_eval.specs.ConstantWalk.{whole_walk}
use Rattle.const_eval.specs.Meaning.{Meaning}
use Rattle.const_eval.specs.Walk.{Walk, asked, done, then_walk}
use Rattle.gate_lists.specs.declared.budget.Budget.{Budget}
use Rattle.gate_lists.specs.declared.modified.Modified.{Modified}
use Rattle.gate_lists.specs.declared.modified.Modified.TheVariants as m
use Rattle.gate_lists.specs.Paid.{paid_from, paid_then, paid_asked, fails_then}
use Rattle.gate_flatten.specs.Modifiers.{in_range, modifier_walk}
use Rattle.gate_flatten.proofs.Calling.{asked_then, asked_fails}
use Rattle.gate_flatten.proofs.Fronts.{in_front, from_member, front_more, front_fails, front_all}

module _ (p : Source) (means : List ℕ → Meaning) (b b1 : Budget) (modifier : Modifier) (place : Span) where
  pub inverse_known : modifier ≡ written.Inv place → paid_from b (modifier_walk means (change_in p modifier)) ≡ Ok (m.Inverse place, b)
  inverse_known e = rw e (paid_asked b (m.Inverse place))

  module _ (id : ExprId) where
    abbrev with_power : ℤ → Walk Modified
    with_power k = then_walk (asked (in_range (neg_ℤ (pos 1024)) (pos 1024) k (place_of (tree_in p id.0)))) (λ k. done (m.Power k place))

    pub power_fails : (why : Fault) → modifier ≡ written.Pow id place → Fails why (paid_from b (whole_walk means true (tree_in p id.0)))
        → Fails why (paid_from b (modifier_walk means (change_in p modifier)))
    power_fails why e f = rw e (fails_then b (whole_walk means true (tree_in p id.0)) with_power why f)

    pub power_outside : (why : Fault) (z : ℤ) → modifier ≡ written.Pow id place → paid_from b (whole_walk means true (tree_in p id.0)) ≡ Ok (z, b1)
        → Fails why (in_range (neg_ℤ (pos 1024)) (pos 1024) z (place_of (tree_in p id.0)))
        → Fails why (paid_from b (modifier_walk means (change_in p modifier)))
    power_outside why z e f outside = rw e (rw (paid_then b b1 (whole_walk means true (tree_in p id.0)) with_power z f) (asked_fails b1 _ (λ k. done (m.Power k place)) why outside))

    pub power_known : (z k : ℤ) → modifier ≡ written.Pow id place → paid_from b (whole_walk means true (tree_in p id.0)) ≡ Ok (z, b1)
        → in_range (neg_ℤ (pos 1024)) (pos 1024) z (place_of (tree_in p id.0)) ≡ Ok k
        → paid_from b (modifier_walk means (change_in p modifier)) ≡ Ok (m.Power k place, b1)
    power_known z k e f inside = rw e (paid_then b b1 (whole_walk means true (tree_in p id.0)) with_power z f ∙ asked_then b1 _ (λ k. done (m.Power k place)) k inside ∙ paid_asked b1 (m.Power k place))

-- ---- controls

module _ (p : Source) (means : List ℕ → Meaning) (b b1 : Budget) (count : Option ExprId) (place : Span) where
  pub control_known : count ≡ None → paid_from b (modifier_walk means (control (maybe_in p count) place)) ≡ Ok (m.Controls 1 place, b)
  control_known e = rw e (paid_asked b (m.Controls 1 place))

  module _ (id : ExprId) (is : count ≡ Some id) where
    abbrev with_controls : ℤ → Walk Modified
    with_controls n = then_walk (asked (in_range (pos 1) (pos 1024) n (place_of (tree_in p id.0)))) (λ n. done (m.Controls (unsigned_abs n) place))

    pub controls_fail : (why : Fault) → Fails why (paid_from b (whole_walk means false (tree_in p id.0)))
        → Fails why (paid_from b (modifier_walk means (control (maybe_in p count) place)))
    controls_fail why f = rw is (fails_then b (whole_walk means false (tree_in p id.0)) with_controls why f)

    pub controls_outside : (why : Fault) (z : ℤ) → paid_from b (whole_walk means false (tree_in p id.0)) ≡ Ok (z, b1)
        → Fails why (in_range (pos 1) (pos 1024) z (place_of (tree_in p id.0)))
        → Fails why (paid_from b (modifier_walk means (control (maybe_in p count) place)))
    controls_outside why z f outside = rw is (rw (paid_then b b1 (whole_walk means false (tree_in p id.0)) with_controls z f) (asked_fails b1 _ (λ n. done (m.Controls (unsigned_abs n) place)) why outside))

    pub controls_known : (z k : ℤ) → paid_from b (whole_walk means false (tree_in p id.0)) ≡ Ok (z, b1)
        → in_range (pos 1) (pos 1024) z (place_of (tree_in p id.0)) ≡ Ok k
        → paid_from b (modifier_walk means (control (maybe_in p count) place)) ≡ Ok (m.Controls (unsigned_abs k) place, b1)
    controls_known z k f inside = rw is (paid_then b b1 (whole_walk means false (tree_in p id.0)) with_controls z f ∙ asked_then b1 _ (λ n. done (m.Controls (unsigned_abs n) place)) k inside ∙ paid_asked b1 (m.Controls (unsigned_abs k) place))

-- ---- the modifiers of a call

module _ (p : Source) (means : List ℕ → Meaning) (mods : List Modifier) (found : List Modified) (k : ℕ) (b : Budget) where
  -- the modifiers that were found, in front of those that are left
  abbrev pub modifiers_from : Result (List Modified × Budget) Refusal
  modifiers_from = in_front found (paid_from b (from_member (change_in p) (modifier_walk means) k mods))

  pub modifiers_fail : (d : Modifier) (why : Fault) → k < length mods → Fails why (paid_from b (modifier_walk means (change_in p (get_or mods k d)))) → Fails why modifiers_from
  modifiers_fail d why lt e = front_fails (change_in p) (modifier_walk means) mods found k d b why lt e

  pub modifiers_end : length mods ≤ k → modifiers_from ≡ Ok (found, b)
  modifiers_end le = front_all (change_in p) (modifier_walk means) mods found k b le

pub modifiers_more : (p : Source) (means : List ℕ → Meaning) (mods : List Modifier) (found : List Modified) (k : ℕ) (b b' : Budget) (d : Modifier) (a : Modified)
    → k < length mods → paid_from b (modifier_walk means (change_in p (get_or mods k d))) ≡ Ok (a, b')
    → modifiers_from p means mods found k b ≡ modifiers_from p means mods (found ++ a ∷ []) (k + 1) b'
modifiers_more p means mods found k b b' d a lt e = front_more (change_in p) (modifier_walk means) mods found k d a b b' lt e
