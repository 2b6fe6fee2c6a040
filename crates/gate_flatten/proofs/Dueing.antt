-- What is due of a walk, by what is paid for it.
use Rattle.std.proofs.Common.{◌≡◌, ℕ, ◌-◌, Bool, true, false, nat_lt, List, map, Result, Ok, Err, refl, ap, ◌∙◌, arith}
use Rattle.std.proofs.lemmas.Bool.{ltb-false}
use Rattle.qq_base.specs.declared.refusal.Fault.{Fault}
use Rattle.qq_base.specs.declared.refusal.Fault.TheVariants as fault
use Rattle.qq_base.specs.declared.refusal.Refusal.{Refusal}
use Rattle.qq_base.specs.declared.refusal.Span.{Span}
use Rattle.const_eval.specs.Answers.{Fails}
use Rattle.const_eval.specs.Walk.{Walk, done, then_walk, within_budget}
use Rattle.gate_lists.specs.declared.budget.Budget.{Budget}
use Rattle.gate_lists.specs.Instructions.{Instruction, without_phases}
use Rattle.gate_lists.specs.Paid.{paid_from, paid_then, paid_asked, fails_then}
use Rattle.gate_lists.specs.Seen.{leaf_of}
use Rattle.gate_flatten.specs.Seen.{due}

-- the parts of an answer
abbrev list_of : List Instruction → Result (List Instruction × Budget) Refusal → List Instruction
list_of otherwise (Ok x) = x.0
list_of otherwise (Err e) = otherwise

abbrev budget_of : Budget → Result (List Instruction × Budget) Refusal → Budget
budget_of otherwise (Ok x) = x.1
budget_of otherwise (Err e) = otherwise

module _ (budget : ℕ) (place : Span) where
  abbrev pub full : Budget
  full = record { left = budget; place = place }

  paid_within : (cost : ℕ) (answer : Result (List Instruction) Refusal) (is : List Instruction) (rest : Budget) (t : Bool) → nat_lt budget cost ≡ t
      → paid_from full (record { cost = cost; answer = answer }) ≡ Ok (is, rest)
      → due (within_budget budget place (record { cost = cost; answer = answer })) ≡ Ok (record { leaves = map leaf_of is; cost = budget - rest.left })
  unfolding paid_from
  paid_within cost answer is rest true e h = let wrong = rw e at h in absurd cc
  paid_within cost (Err refusal) is rest false e h = let wrong = rw e at h in absurd cc
  paid_within cost (Ok found) is rest false e h =
      let paid = rw e at h in
      let same : found ≡ is = ap (list_of found) paid in
      let left : budget - cost ≡ rest.left = ap (λ (r : Result (List Instruction × Budget) Refusal). (budget_of rest r).left) paid in
      let le = ltb-false budget cost e in
      let all : cost ≡ budget - rest.left = omega arith in
      rw (e, same) (ap (λ (n : ℕ). Ok (record { leaves = map leaf_of is; cost = n })) all)

  fails_within : (cost : ℕ) (answer : Result (List Instruction) Refusal) (refusal : Refusal) (t : Bool) → nat_lt budget cost ≡ t
      → paid_from full (record { cost = cost; answer = answer }) ≡ Err refusal
      → due (within_budget budget place (record { cost = cost; answer = answer })) ≡ Err refusal
  unfolding paid_from
  fails_within cost answer refusal true e h = let wrong = rw e at h in let same : record { rule = _; at = _ } ≡ refusal = cc in rw e (ap Err same)
  fails_within cost (Ok found) refusal false e h = let wrong = rw e at h in absurd cc
  fails_within cost (Err other) refusal false e h = let wrong = rw e at h in let same : other ≡ refusal = cc in rw e (ap Err same)

  -- the walk of a call, of which the phases that are left are dropped
  module _ (w : Walk (List Instruction)) where
    abbrev pub dropped : Walk (List Instruction)
    dropped = then_walk w (λ is. done (without_phases is))

    pub due_paid : (is : List Instruction) (rest : Budget) → paid_from full w ≡ Ok (is, rest)
        → due (within_budget budget place dropped) ≡ Ok (record { leaves = map leaf_of (without_phases is); cost = budget - rest.left })
    due_paid is rest e =
        paid_within dropped.cost dropped.answer (without_phases is) rest (nat_lt budget dropped.cost) refl
        (paid_then full rest w (λ is. done (without_phases is)) is e ∙ paid_asked rest (without_phases is))

    pub due_fails : (why : Fault) → Fails why (paid_from full w) → Fails why (due (within_budget budget place dropped))
    due_fails fault.Memory e = tt
    due_fails (fault.Refused refusal) e =
        fails_within dropped.cost dropped.answer refusal (nat_lt budget dropped.cost) refl
        (fails_then full w (λ is. done (without_phases is)) (fault.Refused refusal) e)
