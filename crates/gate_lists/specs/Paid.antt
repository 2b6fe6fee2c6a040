-- How a call answers for a walk, and what the walk leaves of a budget; with the laws of walks that follow one another.
use Rattle.std.specs.Prelude.{◌≡◌, ℕ, ◌+◌, ◌-◌, ◌<◌, ◌≤◌, nat_lt, Bool, true, false, Result, Ok, Err}
use Rattle.std.proofs.Common.{refl, ap, ◌∙◌, arith}
use Rattle.std.proofs.lemmas.Bool.{ltb-true, ltb-false, lt-ltb, le-ltb}
use Rattle.qq_base.specs.declared.refusal.Fault.{Fault}
use Rattle.qq_base.specs.declared.refusal.Fault.TheVariants as fault
use Rattle.qq_base.specs.declared.refusal.Refusal.{Refusal}
use Rattle.qq_base.specs.declared.rule.Rule.TheVariants.{TooLarge}
use Rattle.const_eval.specs.Refusing.{refused}
use Rattle.const_eval.specs.Answers.{Answers, Fails}
use Rattle.const_eval.specs.Walk.{Walk, asked, behind, then_walk}
use Rattle.gate_lists.specs.declared.budget.Budget.{Budget}

abbrev after_cost : ℕ → Budget → Budget
after_cost cost b = record { left = b.left - cost; place = b.place }

abbrev with_rest : {A : Type 0} → Budget → ℕ → Result A Refusal → Result (A × Budget) Refusal
with_rest b cost (Ok a) = Ok (a, after_cost cost b)
with_rest b cost (Err refusal) = Err refusal

abbrev where_paid : {A : Type 0} → Bool → Budget → ℕ → Result A Refusal → Result (A × Budget) Refusal
where_paid true b cost answer = refused TooLarge b.place
where_paid false b cost answer = with_rest b cost answer

-- The answer of a walk, and what is left behind it. A walk whose cost passes what is left is refused at the place of the
-- budget, whatever would be refused later.
unfoldable pub paid_from : {A : Type 0} → Budget → Walk A → Result (A × Budget) Refusal
paid_from b w = where_paid (nat_lt b.left w.cost) b w.cost w.answer

-- A call that begins with the budget `old` answers for a walk, and leaves the budget `new`: `seen` is what a value of the call
-- is seen as.
abbrev pub AnswersWithin : {A B : Type 0} → Budget → Budget → (A → B) → Result A Fault → Walk B → Type 0
AnswersWithin old new seen result w = Answers (λ a. (seen a, new)) result (paid_from old w)

-- ---- one walk behind another

-- what is left is passed on
abbrev passed_on : {A B : Type 0} → (A → Walk B) → Result (A × Budget) Refusal → Result (B × Budget) Refusal
passed_on f (Ok x) = paid_from x.1 (f x.0)
passed_on f (Err refusal) = Err refusal

rest_is : {A : Type 0} (b : Budget) (c d : ℕ) (answer : Result A Refusal) → with_rest b (c + d) answer ≡ with_rest (after_cost c b) d answer
rest_is b c d (Ok a) = let e : b.left - (c + d) ≡ b.left - c - d = omega arith in ap (λ (n : ℕ). Ok (a, record { left = n; place = b.place })) e
rest_is b c d (Err refusal) = refl

both_paid : {A : Type 0} (b : Budget) (c d : ℕ) (answer : Result A Refusal) (s t : Bool) → s ≡ t → where_paid s b (c + d) answer ≡ where_paid t (after_cost c b) d answer
both_paid b c d answer true true e = refl
both_paid b c d answer false false e = rest_is b c d answer
both_paid b c d answer true false e = absurd cc
both_paid b c d answer false true e = absurd cc

same_test : (l c d : ℕ) → c ≤ l → (t : Bool) → nat_lt (l - c) d ≡ t → nat_lt l (c + d) ≡ t
same_test l c d le true e = let h = ltb-true (l - c) d e in lt-ltb l (c + d) (omega arith)
same_test l c d le false e = let h = ltb-false (l - c) d e in le-ltb l (c + d) (omega arith)

paid_first : {A B : Type 0} (b : Budget) (c : ℕ) (a : A) (f : A → Walk B) (t : Bool) → nat_lt b.left c ≡ t
    → paid_from b (behind c (f a)) ≡ passed_on f (where_paid t b c (Ok a))
unfolding paid_from
paid_first b c a f true e =
    let h = ltb-true b.left c e in
    let more : nat_lt b.left (c + (f a).cost) ≡ true = lt-ltb b.left (c + (f a).cost) (omega arith) in
    ap (λ t. where_paid t b (c + (f a).cost) (f a).answer) more
paid_first b c a f false e =
    let h = ltb-false b.left c e in
    both_paid b c (f a).cost (f a).answer _ _ (same_test b.left c (f a).cost h _ refl)

refused_first : {A B : Type 0} (b : Budget) (c : ℕ) (refusal : Refusal) (f : A → Walk B) (t : Bool)
    → where_paid t b c (Err refusal) ≡ passed_on f (where_paid t b c (Err refusal))
refused_first b c refusal f true = refl
refused_first b c refusal f false = refl

continued_paid : {A B : Type 0} (b : Budget) (c : ℕ) (answer : Result A Refusal) (f : A → Walk B)
    → paid_from b (then_walk (record { cost = c; answer = answer }) f) ≡ passed_on f (paid_from b (record { cost = c; answer = answer }))
unfolding paid_from
continued_paid b c (Ok a) f = paid_first b c a f (nat_lt b.left c) refl
continued_paid {A} {B} b c (Err refusal) f = refused_first {A = A} {B = B} b c refusal f (nat_lt b.left c)

-- a walk that ended well, and what comes behind it
pub paid_then : {A B : Type 0} (b b' : Budget) (w : Walk A) (f : A → Walk B) (a : A) → paid_from b w ≡ Ok (a, b')
    → paid_from b (then_walk w f) ≡ paid_from b' (f a)
paid_then b b' w f a e = continued_paid b w.cost w.answer f ∙ ap (passed_on f) e

-- a walk that is refused, and what would come behind it
pub paid_stops : {A B : Type 0} (b : Budget) (w : Walk A) (f : A → Walk B) (refusal : Refusal) → paid_from b w ≡ Err refusal
    → paid_from b (then_walk w f) ≡ Err refusal
paid_stops b w f refusal e = continued_paid b w.cost w.answer f ∙ ap (passed_on f) e

pub fails_then : {A B : Type 0} (b : Budget) (w : Walk A) (f : A → Walk B) (why : Fault) → Fails why (paid_from b w)
    → Fails why (paid_from b (then_walk w f))
fails_then b w f fault.Memory e = tt
fails_then b w f (fault.Refused refusal) e = paid_stops b w f refusal e

-- ---- answers that cost nothing

pub paid_asked : {A : Type 0} (b : Budget) (a : A) → paid_from b (asked (Ok a)) ≡ Ok (a, b)
unfolding paid_from
paid_asked b a =
    let none : nat_lt b.left 0 ≡ false = le-ltb b.left 0 (omega arith) in
    let rest : b.left - 0 ≡ b.left = omega arith in
    ap (λ t. where_paid t b 0 (Ok a)) none ∙ ap (λ (n : ℕ). Ok (a, record { left = n; place = b.place })) rest

pub paid_refused : {A : Type 0} (b : Budget) (refusal : Refusal) → paid_from {A = A} b (asked (Err refusal)) ≡ Err refusal
unfolding paid_from
paid_refused {A} b refusal =
    let none : nat_lt b.left 0 ≡ false = le-ltb b.left 0 (omega arith) in
    ap (λ t. where_paid {A = A} t b 0 (Err refusal)) none

pub fails_asked : {A : Type 0} (b : Budget) (answer : Result A Refusal) (why : Fault) → Fails why answer → Fails why (paid_from b (asked answer))
fails_asked b answer fault.Memory e = tt
fails_asked b answer (fault.Refused refusal) e = ap (λ r. paid_from b (asked r)) e ∙ paid_refused b refusal

-- a call that costs nothing
pub within_asked : {A B : Type 0} (b : Budget) (seen : A → B) (result : Result A Fault) (answer : Result B Refusal) → Answers seen result answer
    → AnswersWithin b b seen result (asked answer)
within_asked b seen (Ok a) answer e = ap (λ r. paid_from b (asked r)) e ∙ paid_asked b (seen a)
within_asked b seen (Err why) answer e = fails_asked b answer why e

-- ---- costs in front of a walk

-- a cost that is paid
pub paid_behind : {A : Type 0} (b : Budget) (n : ℕ) (w : Walk A) → n ≤ b.left
    → paid_from b (behind n w) ≡ paid_from (record { left = b.left - n; place = b.place }) w
unfolding paid_from
paid_behind b n w le = both_paid b n w.cost w.answer _ _ (same_test b.left n w.cost le _ refl)

-- a cost that passes what is left
pub paid_behind_stops : {A : Type 0} (b : Budget) (n : ℕ) (w : Walk A) → b.left < n
    → paid_from b (behind n w) ≡ refused TooLarge b.place
unfolding paid_from
paid_behind_stops b n w lt =
    let more : nat_lt b.left (n + w.cost) ≡ true = lt-ltb b.left (n + w.cost) (omega arith) in
    ap (λ t. where_paid t b (n + w.cost) w.answer) more
