-- Costs of walks, one behind another.
use Rattle.std.proofs.Common.{◌≡◌, ℕ, ◌+◌, ◌-◌, ◌<◌, ◌≤◌, Bool, true, false, nat_lt, List, [], ◌∷◌, length, Result, Ok, Err, OnOk, OnErr, IfErr, refl, sym, ap, subst, ◌∙◌, arith}
use Rattle.std.proofs.lemmas.Bool.{ltb-true, ltb-false}
use Rattle.qq_base.specs.declared.refusal.Fault.{Fault}
use Rattle.qq_base.specs.declared.refusal.Fault.TheVariants as fault
use Rattle.qq_base.specs.declared.refusal.Refusal.{Refusal}
use Rattle.qq_base.specs.declared.rule.Rule.TheVariants.{TooLarge}
use Rattle.qasm_ast.specs.declared.expr.IndexRef.{IndexRef}
use Rattle.qasm_ast.specs.Whole.{Source}
use Rattle.qasm_ast.specs.View.{brackets_in}
use Rattle.const_eval.specs.Nodes.{brackets_nodes, selecting_nodes}
use Rattle.const_eval.specs.Answers.{Answers, Fails}
use Rattle.const_eval.specs.Refusing.{refused}
use Rattle.const_eval.specs.Walk.{Walk, asked, done, behind, then_walk}
use Rattle.gate_lists.specs.declared.budget.Budget.{Budget}
use Rattle.gate_lists.specs.Paid.{paid_from, paid_then, paid_stops, paid_asked, paid_refused, paid_behind, paid_behind_stops}
use Rattle.gate_arguments.specs.Seen.{cost_alone}

-- ---- costs alone

pub spent : (b b' : Budget) (n : ℕ) → n ≤ b.left → b' ≡ record { left = b.left - n; place = b.place } → paid_from b (cost_alone n) ≡ Ok (tt, b')
unfolding cost_alone
spent b b' n le e = paid_behind b n (done tt) le ∙ paid_asked (record { left = b.left - n; place = b.place }) tt ∙ ap (λ (x : Budget). Ok (tt, x)) (sym e)

pub overspent : (b : Budget) (n : ℕ) → b.left < n → paid_from b (cost_alone n) ≡ refused TooLarge b.place
unfolding cost_alone
overspent b n lt = paid_behind_stops b n (done tt) lt

-- how a call that pays answers
pub paid_for : (b b' : Budget) (n : ℕ) (result : Result (Unit {0}) Fault) → OnOk result (n ≤ b.left) → OnOk result (b' ≡ record { left = b.left - n; place = b.place }) → OnErr result (b.left < n)
    → IfErr result (λ why. why ≡ fault.Refused (record { rule = TooLarge; at = b.place })) → Answers (λ _. (tt, b')) result (paid_from b (cost_alone n))
paid_for b b' n (Ok u) paid rest passed refused = spent b b' n paid rest
paid_for b b' n (Err why) paid rest passed refused = subst (λ f. Fails f (paid_from b (cost_alone n))) (sym refused) (overspent b n passed)

-- a cost in front of an answer
before : {A : Type 0} (n : ℕ) (a : A) → behind n (done a) ≡ then_walk (cost_alone n) (λ _. done a)
unfolding cost_alone
before n a = let k : n + 0 ≡ (n + 0) + 0 = omega arith in ap (λ (m : ℕ). record { cost = m; answer = Ok a }) k

pub cost_before : {A : Type 0} (b b' : Budget) (n : ℕ) (a : A) → paid_from b (cost_alone n) ≡ Ok (tt, b') → paid_from b (behind n (done a)) ≡ Ok (a, b')
cost_before b b' n a e = ap (paid_from b) (before n a) ∙ paid_then b b' (cost_alone n) (λ _. done a) tt e ∙ paid_asked b' a

pub cost_before_stops : {A : Type 0} (b : Budget) (n : ℕ) (a : A) (why : Fault) → Fails why (paid_from b (cost_alone n)) → Fails why (paid_from b (behind n (done a)))
cost_before_stops b n a fault.Memory e = tt
cost_before_stops b n a (fault.Refused refusal) e = ap (paid_from b) (before n a) ∙ paid_stops b (cost_alone n) (λ _. done a) refusal e

-- ---- answers

-- an answer that costs nothing
pub asked_answers : {A B : Type 0} (b : Budget) (seen : A → B) (result : Result A Fault) (answer : Result B Refusal) → Answers seen result answer → Answers (λ a. (seen a, b)) result (paid_from b (asked answer))
asked_answers b seen (Ok a) answer h = ap (λ r. paid_from b (asked r)) h ∙ paid_asked b (seen a)
asked_answers b seen (Err fault.Memory) answer h = tt
asked_answers b seen (Err (fault.Refused refusal)) answer h = ap (λ r. paid_from b (asked r)) h ∙ paid_refused b refusal

-- a walk that is behind another
pub answers_then : {A B C : Type 0} (b b' new : Budget) (w : Walk A) (f : A → Walk B) (a : A) (seen : C → B) (result : Result C Fault) → paid_from b w ≡ Ok (a, b')
    → Answers (λ c. (seen c, new)) result (paid_from b' (f a)) → Answers (λ c. (seen c, new)) result (paid_from b (then_walk w f))
answers_then b b' new w f a seen (Ok c) e h = paid_then b b' w f a e ∙ h
answers_then b b' new w f a seen (Err fault.Memory) e h = tt
answers_then b b' new w f a seen (Err (fault.Refused refusal)) e h = paid_then b b' w f a e ∙ h

-- ---- nodes of brackets

pub selecting_some : (p : Source) (index : List IndexRef) → 0 < length index → selecting_nodes (brackets_in p index) ≡ 1 + brackets_nodes (brackets_in p index)
selecting_some p [] lt = absurd (omega arith)
selecting_some p (b ∷ index) lt = refl

-- ---- constants

pub constant_paid : {A : Type 0} (b b' : Budget) (n : ℕ) (answer : Result A Refusal) (a : A) → answer ≡ Ok a → paid_from b (cost_alone n) ≡ Ok (tt, b')
    → paid_from b (then_walk (asked answer) (λ c. behind n (done c))) ≡ Ok (a, b')
constant_paid b b' n answer a e h = paid_then b b (asked answer) (λ c. behind n (done c)) a (ap (λ r. paid_from b (asked r)) e ∙ paid_asked b a) ∙ cost_before b b' n a h

pub constant_unpaid : {A : Type 0} (b : Budget) (n : ℕ) (answer : Result A Refusal) (a : A) (why : Fault) → answer ≡ Ok a → Fails why (paid_from b (cost_alone n))
    → Fails why (paid_from b (then_walk (asked answer) (λ c. behind n (done c))))
constant_unpaid b n answer a fault.Memory e h = tt
constant_unpaid b n answer a (fault.Refused refusal) e h =
    paid_then b b (asked answer) (λ c. behind n (done c)) a (ap (λ r. paid_from b (asked r)) e ∙ paid_asked b a) ∙ cost_before_stops b n a (fault.Refused refusal) h

-- an answer that is refused, and what would come behind it
pub asked_stops : {A B : Type 0} (b : Budget) (answer : Result A Refusal) (f : A → Walk B) (why : Fault) → Fails why answer → Fails why (paid_from b (then_walk (asked answer) f))
asked_stops b answer f fault.Memory h = tt
asked_stops b answer f (fault.Refused refusal) h = paid_stops b (asked answer) f refusal (ap (λ r. paid_from b (asked r)) h ∙ paid_refused b refusal)

-- an answer that is there, and what comes behind it
pub asked_then : {A B : Type 0} (b : Budget) (answer : Result A Refusal) (f : A → Walk B) (a : A) → answer ≡ Ok a → paid_from b (then_walk (asked answer) f) ≡ paid_from b (f a)
asked_then b answer f a e = paid_then b b (asked answer) f a (ap (λ r. paid_from b (asked r)) e ∙ paid_asked b a)

-- ---- back from what was paid

inverse_by : {A B : Type 0} (b new : Budget) (w : Walk A) (f : A → Walk B) (y : B) (r : Result (A × Budget) Refusal) → paid_from b w ≡ r → paid_from b (then_walk w f) ≡ Ok (y, new)
    → (x : A × Budget) × (paid_from b w ≡ Ok x) × (paid_from x.1 (f x.0) ≡ Ok (y, new))
inverse_by b new w f y (Ok x) e h = (x, e, sym (paid_then b x.1 w f x.0 e) ∙ h)
inverse_by b new w f y (Err refusal) e h = let stops = paid_stops b w f refusal e in absurd cc

-- the two walks of which one is behind the other
pub paid_inverse : {A B : Type 0} (b new : Budget) (w : Walk A) (f : A → Walk B) (y : B) → paid_from b (then_walk w f) ≡ Ok (y, new) → (x : A × Budget) × (paid_from b w ≡ Ok x) × (paid_from x.1 (f x.0) ≡ Ok (y, new))
paid_inverse b new w f y h = inverse_by b new w f y (paid_from b w) refl h

abbrev pub first_or : {A : Type 0} → A → Result (A × Budget) Refusal → A
first_or d (Ok x) = x.0
first_or d (Err e) = d

abbrev pub second_or : {A : Type 0} → Budget → Result (A × Budget) Refusal → Budget
second_or d (Ok x) = x.1
second_or d (Err e) = d

-- an answer that costs nothing
pub asked_inverse : {A : Type 0} (b new : Budget) (answer : Result A Refusal) (y : A) → paid_from b (asked answer) ≡ Ok (y, new) → (answer ≡ Ok y) × (b ≡ new)
asked_inverse b new (Ok a) y h = let e = sym (paid_asked b a) ∙ h in (ap (λ r. Ok (first_or a r)) e, ap (second_or b) e)
asked_inverse {A} b new (Err refusal) y h = let stops = paid_refused {A = A} b refusal in absurd cc

left_by : (b b' : Budget) (n : ℕ) (t : Bool) → nat_lt b.left n ≡ t → paid_from b (cost_alone n) ≡ Ok (tt, b') → b'.left + n ≤ b.left
left_by b b' n true e h = let no = sym h ∙ overspent b n (ltb-true b.left n e) in absurd cc
left_by b b' n false e h =
    let le = ltb-false b.left n e in
    let rest : Budget = record { left = b.left - n; place = b.place } in
    let same : b'.left ≡ b.left - n = ap (λ r. (second_or b r).left) (sym h ∙ spent b rest n le refl) in
    omega arith

-- what is left of a budget
pub paid_left : (b b' : Budget) (n : ℕ) → paid_from b (cost_alone n) ≡ Ok (tt, b') → b'.left + n ≤ b.left
paid_left b b' n h = left_by b b' n (nat_lt b.left n) refl h

-- an answer that something is made of
pub mapped_paid : {A B : Type 0} (b b' : Budget) (w : Walk A) (f : A → B) (a : A) → paid_from b w ≡ Ok (a, b') → paid_from b (then_walk w (λ x. done (f x))) ≡ Ok (f a, b')
mapped_paid b b' w f a e = paid_then b b' w (λ x. done (f x)) a e ∙ paid_asked b' (f a)
