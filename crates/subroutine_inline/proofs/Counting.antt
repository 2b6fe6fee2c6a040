-- Walks one behind another: their answers and their costs apart, and what a budget says of both.
use Rattle.std.proofs.Common.{◌≡◌, ℕ, ◌+◌, ◌-◌, nat_lt, Bool, true, false, List, Result, Ok, Err, OnOk, refl, sym, ap, ◌∙◌, arith}
use Rattle.std.proofs.lemmas.Bool.{ltb-true, ltb-false}
use Rattle.qq_base.specs.declared.refusal.Refusal.{Refusal}
use Rattle.qq_base.specs.declared.refusal.Fault.{Fault}
use Rattle.qq_base.specs.declared.refusal.Fault.TheVariants as fault
use Rattle.qq_base.specs.declared.rule.Rule.TheVariants.{TooLarge}
use Rattle.qasm_ast.specs.Tree.{Tree}
use Rattle.const_eval.specs.declared.constant.Const.{Const}
use Rattle.const_eval.specs.Answers.{Answers, Fails}
use Rattle.const_eval.specs.Constant.{Constant}
use Rattle.const_eval.specs.ConstantWalk.{constant_walk}
use Rattle.const_eval.specs.ConstValue.{constant_value}
use Rattle.const_eval.specs.Meaning.{Meaning}
use Rattle.const_eval.specs.Nodes.{nodes_of}
use Rattle.const_eval.specs.Seen.{constant_of}
use Rattle.const_eval.specs.Walk.{Walk, asked, behind, done, then_walk}
use Rattle.gate_lists.specs.declared.budget.Budget.{Budget}
use Rattle.gate_lists.specs.Paid.{paid_from, paid_asked, paid_refused, paid_behind, paid_behind_stops}

-- ---- one behind another

module _ {A B : Type 0} (f : A → Walk B) where
  first_answer : (cost : ℕ) (answer : Result A Refusal) (a : A) → answer ≡ Ok a → (then_walk (record { cost = cost; answer = answer }) f).answer ≡ (f a).answer
  first_answer cost (Ok x) a e = let same : x ≡ a = cc in ap (λ (y : A). (f y).answer) same
  first_answer cost (Err r) a e = absurd cc

  first_cost : (cost : ℕ) (answer : Result A Refusal) (a : A) → answer ≡ Ok a → (then_walk (record { cost = cost; answer = answer }) f).cost ≡ cost + (f a).cost
  first_cost cost (Ok x) a e = let same : x ≡ a = cc in ap (λ (y : A). cost + (f y).cost) same
  first_cost cost (Err r) a e = absurd cc

  first_stops : (cost : ℕ) (answer : Result A Refusal) (r : Refusal) → answer ≡ Err r → (then_walk (record { cost = cost; answer = answer }) f).answer ≡ Err r
  first_stops cost (Ok x) r e = absurd cc
  first_stops cost (Err s) r e = let same : s ≡ r = cc in ap Err same

  pub answer_then : (w : Walk A) (a : A) → w.answer ≡ Ok a → (then_walk w f).answer ≡ (f a).answer
  answer_then w a e = first_answer w.cost w.answer a e

  pub cost_then : (w : Walk A) (a : A) → w.answer ≡ Ok a → (then_walk w f).cost ≡ w.cost + (f a).cost
  cost_then w a e = first_cost w.cost w.answer a e

  pub stops_then : (w : Walk A) (r : Refusal) → w.answer ≡ Err r → (then_walk w f).answer ≡ Err r
  stops_then w r e = first_stops w.cost w.answer r e

-- what is refused wherever another answer is
pub fails_by : {A B : Type 0} (answer : Result A Refusal) (later : Result B Refusal) → ((r : Refusal) → answer ≡ Err r → later ≡ Err r) → (why : Fault) → Fails why answer → Fails why later
fails_by answer later stops fault.Memory e = tt
fails_by answer later stops (fault.Refused r) e = stops r e

-- ---- budgets

abbrev rest : Budget → ℕ → Budget
rest b n = record { left = b.left - n; place = b.place }

abbrev answer_in : {A : Type 0} → Result (A × Budget) Refusal → Result A Refusal
answer_in (Ok x) = Ok x.0
answer_in (Err r) = Err r

abbrev left_in : {A : Type 0} → Result (A × Budget) Refusal → ℕ
left_in (Ok x) = x.1.left
left_in (Err r) = 0

no_answer : {A : Type 0} (r : Refusal) (x : A × Budget) (answer : Result (A × Budget) Refusal) → answer ≡ Err r → answer ≡ Ok x → ⊥
no_answer r x (Ok y) e e' = absurd cc
no_answer r x (Err y) e e' = absurd cc

module _ {A : Type 0} (b : Budget) where
  known : (b2 b' : Budget) (answer : Result A Refusal) (a : A) → paid_from b2 (asked answer) ≡ Ok (a, b') → (answer ≡ Ok a) × (b'.left ≡ b2.left)
  known b2 b' (Ok x) a e =
      let same : Ok (x, b2) ≡ Ok (a, b') = sym (paid_asked b2 x) ∙ e in
      (ap answer_in same, ap left_in (sym same))
  known b2 b' (Err r) a e = absurd (no_answer r (a, b') (paid_from b2 (asked (Err r))) (paid_refused b2 r) e)

  whole : (cost : ℕ) (answer : Result A Refusal) → paid_from b (record { cost = cost; answer = answer }) ≡ paid_from b (behind cost (asked answer))
  whole cost answer = let e : cost ≡ cost + 0 = omega arith in ap (λ (n : ℕ). paid_from b (record { cost = n; answer = answer })) e

  paid_known : (cost : ℕ) (answer : Result A Refusal) (a : A) (b' : Budget) (t : Bool) → nat_lt b.left cost ≡ t → paid_from b (record { cost = cost; answer = answer }) ≡ Ok (a, b')
      → (answer ≡ Ok a) × (b'.left ≡ b.left - cost)
  paid_known cost answer a b' true t e =
      absurd (no_answer (record { rule = TooLarge; at = b.place }) (a, b') (paid_from b (record { cost = cost; answer = answer })) (whole cost answer ∙ paid_behind_stops b cost (asked answer) (ltb-true b.left cost t)) e)
  paid_known cost answer a b' false t e =
      known (rest b cost) b' answer a (sym (paid_behind b cost (asked answer) (ltb-false b.left cost t)) ∙ sym (whole cost answer) ∙ e)

  -- a walk within the budget
  pub paid_answer : (w : Walk A) (a : A) (b' : Budget) → paid_from b w ≡ Ok (a, b') → (w.answer ≡ Ok a) × (b'.left ≡ b.left - w.cost)
  paid_answer w a b' e = paid_known w.cost w.answer a b' (nat_lt b.left w.cost) refl e

  passed : (cost : ℕ) (answer : Result A Refusal) (a : A) (r : Refusal) (t : Bool) → nat_lt b.left cost ≡ t → answer ≡ Ok a → paid_from b (record { cost = cost; answer = answer }) ≡ Err r
      → 0 ≡ b.left - cost
  passed cost answer a r true t known e = let lt = ltb-true b.left cost t in omega arith
  passed cost answer a r false t known e =
      let paid : paid_from (rest b cost) (asked answer) ≡ Ok (a, rest b cost) = ap (λ (x : Result A Refusal). paid_from (rest b cost) (asked x)) known ∙ paid_asked (rest b cost) a in
      absurd (no_answer r (a, rest b cost) (paid_from b (record { cost = cost; answer = answer })) e (whole cost answer ∙ paid_behind b cost (asked answer) (ltb-false b.left cost t) ∙ paid))

  -- a walk that breaks no rule is refused only where it costs more than is left
  pub paid_passed : (w : Walk A) (a : A) (r : Refusal) → w.answer ≡ Ok a → paid_from b w ≡ Err r → 0 ≡ b.left - w.cost
  paid_passed w a r known e = passed w.cost w.answer a r (nat_lt b.left w.cost) refl known e

-- ---- constants

module _ (means : List ℕ → Meaning) (t : Tree) where
  constant_known : (c : Constant) → constant_value means false t ≡ Ok c → (constant_walk means false t).answer ≡ Ok c
  constant_known c e = answer_then (λ x. behind (nodes_of t) (done x)) (asked (constant_value means false t)) c e

  -- where a constant is refused within a budget, and not without, it costs more than is left
  pub constant_passed : (b : Budget) (r : Refusal) (result : Result Const Fault) → paid_from b (constant_walk means false t) ≡ Err r → Answers constant_of result (constant_value means false t)
      → OnOk result (0 ≡ b.left - (constant_walk means false t).cost)
  constant_passed b r (Ok value) e known = paid_passed b (constant_walk means false t) (constant_of value) r (constant_known (constant_of value) known) e
  constant_passed b r (Err why) e known = tt
