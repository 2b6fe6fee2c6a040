-- Gate calls in the units of the walk: the list of a call has no more instructions than the walk counts.
use Rattle.std.proofs.Common.{◌≡◌, ℕ, ◌+◌, ◌≤◌, Bool, true, false, List, length, refl, arith}
use Rattle.std.specs.Prelude.{nat_lt, Result, Ok, Err}
use Rattle.qq_base.specs.declared.refusal.Refusal.{Refusal}
use Rattle.qq_base.specs.declared.refusal.Span.{Span}
use Rattle.qasm_ast.specs.Tree.{Trees, Name, Operand, Change}
use Rattle.const_eval.specs.Refusing.{go_on}
use Rattle.const_eval.specs.Walk.{Walk, behind, within_budget}
use Rattle.const_eval.specs.Operands.{wires_of_all}
use Rattle.const_eval.specs.Things.{known}
use Rattle.gate_lists.specs.Instructions.{Instruction}
use Rattle.source_meaning.specs.GateCalls.{GateCall, Expands}
use Rattle.source_meaning.specs.Walked.{most_cost, with_sum}
use Rattle.source_meaning.specs.Walk as walk_parts
use Rattle.source_core.specs.Gates.{Lists, turn_parts}
use Rattle.source_core.specs.Made.{Work, walked_of, Makes, after, made_behind, count_sites, use_wires, looking, with_sums}
use Rattle.source_core.specs.Makes as makes
use Rattle.core_sizes.specs.Laws.{ListsAreCounted}
use Rattle.core_sizes.proofs.Bodies.{plain_listed}
use Rattle.core_sizes.proofs.Costs.{Has, none, Paid, Free, free_then}
use Rattle.core_sizes.proofs.Parts.{free_walks}

-- what the answer of a walk has, the walk within its budget has
has_answer : {A : Type 0} (P : A → Type 0) (budget cost : ℕ) (place : Span) (answer : Result A Refusal) → Has P answer → Has (λ (s : A × ℕ). P s.0) (within_budget budget place (record { cost = cost; answer = answer }))
has_answer {A} P budget cost place answer h = by (nat_lt budget cost) answer refl h
  where
    by : (b : Bool) (answer : Result A Refusal) → nat_lt budget cost ≡ b → Has P answer → Has (λ (s : A × ℕ). P s.0) (within_budget budget place (record { cost = cost; answer = answer }))
    by true answer e h = rw e tt
    by false (Ok a) e h = rw e h
    by false (Err refusal) e h = rw e tt

counted_answer : (n : ℕ) (answer : Result (List Instruction) Refusal) → ((instructions : List Instruction) → answer ≡ Ok instructions → n ≤ length instructions) → Has (λ (instructions : List Instruction). n ≤ length instructions) answer
counted_answer n (Ok instructions) h = h instructions refl
counted_answer n (Err refusal) h = tt

module _ (lists : Lists) (statement : Span) (as' : Trees) (os : List Operand) (gate_call : GateCall) where
  -- what stands behind the expansion
  abbrev listed : List Instruction → Makes (Unit {0})
  listed instructions =
      after (count_sites (length instructions)) (λ _.
      after (use_wires (wires_of_all os)) (λ _.
      looking (λ scopes. makes.make_listed as' (lists (known scopes) gate_call))))

  listed_pays : (ends starts : ℕ) (w : Work) (r : Result (List Instruction × ℕ) Refusal) → Has (λ (s : List Instruction × ℕ). length (lists (known w.scopes) gate_call).calls ≤ length s.0) r
      → Has (λ m. Paid ends starts none none w m.body m.work) (go_on (go_on (go_on r (with_sum (walked_of w))) (with_sums w)) (λ m. go_on (listed m.given m.work) (made_behind m.body)))
  listed_pays ends starts w (Err refusal) h = tt
  listed_pays ends starts w (Ok s) h =
      let plain = plain_listed (turn_parts w.scopes as') (length w.kinds) (lists (known w.scopes) gate_call) in
      record { knots = omega (arith, plain.knots); calls = omega (arith, plain.calls, h); levels = plain.levels ends starts }

module _ {ends starts : ℕ} (expand : Expands) (lists : Lists) (counted : ListsAreCounted expand lists) where
  pub free_gate_call : (statement : Span) (changed : List Change) (name : Name) (as' : Trees) (os : List Operand) → Free ends starts (makes.make_gate_call expand lists statement changed name as' os)
  free_gate_call statement changed name as' os =
      free_then (free_walks statement (λ scopes. walk_parts.gate_arguments_walk scopes as')) (λ values.
      record { by = at (record { changes = changed; name = name; arguments = as'; values = values; operands = os }) })
    where
      at : (gate_call : GateCall) (w : Work) → Has (λ m. Paid ends starts none none w m.body m.work) (go_on (go_on (go_on (within_budget most_cost statement (behind w.cost (expand (known w.scopes) gate_call))) (with_sum (walked_of w))) (with_sums w)) (λ m. go_on (listed lists statement as' os gate_call m.given m.work) (made_behind m.body)))
      at gate_call w =
          let few : ℕ = length (lists (known w.scopes) gate_call).calls in
          let walk : Walk (List Instruction) = expand (known w.scopes) gate_call in
          listed_pays lists statement as' os gate_call ends starts w (within_budget most_cost statement (behind w.cost walk))
          (has_answer (λ (instructions : List Instruction). few ≤ length instructions) most_cost (w.cost + walk.cost) statement walk.answer (counted_answer few walk.answer (counted (known w.scopes) gate_call)))
