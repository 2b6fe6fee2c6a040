-- The steps of a call of a gate.
use Rattle.std.proofs.Common.{◌≡◌, ℕ, zero, suc, ◌+◌, ◌-◌, ◌≤◌, Bool, true, false, nat_lt, nat_eq, List, [], length, Result, Ok, Err, refl, ap, ◌∙◌, arith}
use Rattle.qq_base.specs.declared.refusal.Fault.{Fault}
use Rattle.qq_base.specs.declared.refusal.Fault.TheVariants as fault
use Rattle.qq_base.specs.declared.refusal.Refusal.{Refusal}
use Rattle.qq_base.specs.declared.rule.Rule.TheVariants.{ArgumentCount, CallDepth}
use Rattle.qasm_ast.specs.Tree.{Statement}
use Rattle.alias_resolve.specs.Places.{Selected}
use Rattle.qq_base.specs.declared.run.QubitId.{QubitId}
use Rattle.const_eval.specs.Answers.{Fails}
use Rattle.const_eval.specs.Constant.{Constant}
use Rattle.const_eval.specs.Refusing.{refused, where_allowed}
use Rattle.const_eval.specs.Walk.{Walk, asked, done, then_walk, each_in_turn}
use Rattle.gate_lists.specs.declared.budget.Budget.{Budget}
use Rattle.gate_lists.specs.declared.modified.Modified.{Modified}
use Rattle.gate_lists.specs.Instructions.{Instruction}
use Rattle.gate_lists.specs.Modifiers.{control_count}
use Rattle.gate_lists.specs.Paid.{paid_from, paid_then, paid_stops, paid_asked, paid_refused, fails_then}
use Rattle.gate_arguments.specs.Scope.{Declarations, Scope}
use Rattle.gate_flatten.specs.Applications.{Placed, placed_operands, times_of, applications}
use Rattle.gate_flatten.specs.Expand.{Call, Gate, Ready, gate_called, ready, qubit_count, applied, called, member_list, call_list}
use Rattle.gate_flatten.specs.Modifiers.{modifiers_walk}

-- ---- answers that cost nothing, and what comes behind them

pub asked_then : {A B : Type 0} (b : Budget) (answer : Result A Refusal) (f : A → Walk B) (a : A) → answer ≡ Ok a → paid_from b (then_walk (asked answer) f) ≡ paid_from b (f a)
asked_then b answer f a e = paid_then b b (asked answer) f a (rw e (paid_asked b a))

pub fails_asked : {A : Type 0} (b : Budget) (answer : Result A Refusal) (why : Fault) → Fails why answer → Fails why (paid_from b (asked answer))
fails_asked b answer fault.Memory e = tt
fails_asked {A} b answer (fault.Refused refusal) e = rw e (paid_refused {A = A} b refusal)

pub asked_fails : {A B : Type 0} (b : Budget) (answer : Result A Refusal) (f : A → Walk B) (why : Fault) → Fails why answer → Fails why (paid_from b (then_walk (asked answer) f))
asked_fails b answer f why e = fails_then b (asked answer) f why (fails_asked b answer why e)

-- what is left is no more than what there was
abbrev left_of : {A : Type 0} → Budget → Result (A × Budget) Refusal → ℕ
left_of otherwise (Ok x) = (x.1).left
left_of otherwise (Err e) = otherwise.left

less_by : {A : Type 0} (b b' : Budget) (cost : ℕ) (answer : Result A Refusal) (a : A) (t : Bool) → nat_lt b.left cost ≡ t → paid_from b (record { cost = cost; answer = answer }) ≡ Ok (a, b') → b'.left ≤ b.left
unfolding paid_from
less_by b b' cost answer a true q e = let wrong = rw q at e in absurd cc
less_by b b' cost (Err refusal) a false q e = let wrong = rw q at e in absurd cc
less_by b b' cost (Ok found) a false q e =
    let paid = rw q at e in
    let left : b.left - cost ≡ b'.left = ap (left_of b') paid in
    omega (arith, left)

pub paid_less : {A : Type 0} (b b' : Budget) (w : Walk A) (a : A) → paid_from b w ≡ Ok (a, b') → b'.left ≤ b.left
paid_less b b' w a e = less_by b b' w.cost w.answer a (nat_lt b.left w.cost) refl e

-- ---- the steps

module _ (declared : Declarations) (member : Scope → Statement → Walk (List Instruction)) (is_allowed : Bool) (scope : Scope) (call : Call) (arguments : List Constant) where
  abbrev with_times : List Modified → Ready → List (Placed (Selected QubitId)) → ℕ → Walk (List Instruction)
  with_times modifiers made operands times = each_in_turn (applied declared member scope.open_gates made modifiers) (applications times operands)

  abbrev with_operands : List Modified → Ready → List (Placed (Selected QubitId)) → Walk (List Instruction)
  with_operands modifiers made operands =
      then_walk (asked (where_allowed (nat_eq (length operands) (control_count modifiers + qubit_count made)) ArgumentCount call.name.place (times_of operands))) (with_times modifiers made operands)

  abbrev with_ready : List Modified → Ready → Walk (List Instruction)
  with_ready modifiers made = then_walk (placed_operands scope.means scope.qubits call.operands) (with_operands modifiers made)

  abbrev with_allowed : List Modified → Gate → Walk (List Instruction)
  with_allowed modifiers found = then_walk (asked (ready call.name.place call.places arguments found)) (with_ready modifiers)

  abbrev with_gate : List Modified → Gate → Walk (List Instruction)
  with_gate modifiers found = then_walk (asked (where_allowed is_allowed CallDepth call.name.place (Ok found))) (with_allowed modifiers)

  abbrev with_modifiers : List Modified → Walk (List Instruction)
  with_modifiers modifiers = then_walk (asked (gate_called declared scope.open_gates call.name.place (scope.called call.name.text))) (with_gate modifiers)

  module _ (b b1 : Budget) (modifiers : List Modified) (is_modifiers : paid_from b (modifiers_walk scope.means call.changes) ≡ Ok (modifiers, b1)) where
    behind_modifiers : paid_from b (called declared member is_allowed scope call arguments) ≡ paid_from b1 (with_modifiers modifiers)
    behind_modifiers = paid_then b b1 (modifiers_walk scope.means call.changes) with_modifiers modifiers is_modifiers

    gate_fails : (why : Fault) → Fails why (gate_called declared scope.open_gates call.name.place (scope.called call.name.text)) → Fails why (paid_from b (called declared member is_allowed scope call arguments))
    gate_fails why e = rw behind_modifiers (asked_fails b1 _ (with_gate modifiers) why e)

    module _ (found : Gate) (is_found : gate_called declared scope.open_gates call.name.place (scope.called call.name.text) ≡ Ok found) where
      behind_gate : paid_from b (called declared member is_allowed scope call arguments) ≡ paid_from b1 (with_gate modifiers found)
      behind_gate = behind_modifiers ∙ asked_then b1 _ (with_gate modifiers) found is_found

  modifiers_fail : (b : Budget) (why : Fault) → Fails why (paid_from b (modifiers_walk scope.means call.changes)) → Fails why (paid_from b (called declared member is_allowed scope call arguments))
  modifiers_fail b why e = fails_then b (modifiers_walk scope.means call.changes) with_modifiers why e

-- ---- a call where so many calls may be open

module _ (declared : Declarations) (scope : Scope) (call : Call) (arguments : List Constant) (b : Budget) where
  pub fails_at_modifiers : (levels : ℕ) (why : Fault) → Fails why (paid_from b (modifiers_walk scope.means call.changes)) → Fails why (paid_from b (call_list declared levels scope call arguments))
  unfolding call_list
  fails_at_modifiers zero why e = modifiers_fail declared (λ scope s. done []) false scope call arguments b why e
  fails_at_modifiers (suc levels) why e = modifiers_fail declared (member_list declared (call_list declared levels)) true scope call arguments b why e

  module _ (b1 : Budget) (modifiers : List Modified) (is_modifiers : paid_from b (modifiers_walk scope.means call.changes) ≡ Ok (modifiers, b1)) where
    pub fails_at_gate : (levels : ℕ) (why : Fault) → Fails why (gate_called declared scope.open_gates call.name.place (scope.called call.name.text)) → Fails why (paid_from b (call_list declared levels scope call arguments))
    unfolding call_list
    fails_at_gate zero why e = gate_fails declared (λ scope s. done []) false scope call arguments b b1 modifiers is_modifiers why e
    fails_at_gate (suc levels) why e = gate_fails declared (member_list declared (call_list declared levels)) true scope call arguments b b1 modifiers is_modifiers why e

    module _ (found : Gate) (is_found : gate_called declared scope.open_gates call.name.place (scope.called call.name.text) ≡ Ok found) where
      pub too_deep : paid_from b (call_list declared 0 scope call arguments) ≡ refused CallDepth call.name.place
      unfolding call_list
      too_deep =
          behind_gate declared (λ scope s. done []) false scope call arguments b b1 modifiers is_modifiers found is_found
          ∙ paid_stops b1 (asked (refused CallDepth call.name.place)) (with_allowed declared (λ scope s. done []) false scope call arguments modifiers) _ (paid_refused b1 _)

      module _ (levels : ℕ) where
        abbrev pub inner : Scope → Statement → Walk (List Instruction)
        inner = member_list declared (call_list declared levels)

        behind_depth : paid_from b (call_list declared (suc levels) scope call arguments) ≡ paid_from b1 (with_allowed declared inner true scope call arguments modifiers found)
        unfolding call_list
        behind_depth =
            behind_gate declared inner true scope call arguments b b1 modifiers is_modifiers found is_found
            ∙ asked_then b1 (Ok found) (with_allowed declared inner true scope call arguments modifiers) found refl

        pub fails_at_ready : (why : Fault) → Fails why (ready call.name.place call.places arguments found) → Fails why (paid_from b (call_list declared (suc levels) scope call arguments))
        fails_at_ready why e = rw behind_depth (asked_fails b1 _ (with_ready declared inner true scope call arguments modifiers) why e)

        module _ (made : Ready) (is_made : ready call.name.place call.places arguments found ≡ Ok made) where
          behind_ready : paid_from b (call_list declared (suc levels) scope call arguments) ≡ paid_from b1 (with_ready declared inner true scope call arguments modifiers made)
          behind_ready = behind_depth ∙ asked_then b1 _ (with_ready declared inner true scope call arguments modifiers) made is_made

          pub fails_at_operands : (why : Fault) → Fails why (paid_from b1 (placed_operands scope.means scope.qubits call.operands)) → Fails why (paid_from b (call_list declared (suc levels) scope call arguments))
          fails_at_operands why e = rw behind_ready (fails_then b1 _ (with_operands declared inner true scope call arguments modifiers made) why e)

          module _ (b2 : Budget) (operands : List (Placed (Selected QubitId))) (is_operands : paid_from b1 (placed_operands scope.means scope.qubits call.operands) ≡ Ok (operands, b2)) where
            behind_operands : paid_from b (call_list declared (suc levels) scope call arguments) ≡ paid_from b2 (with_operands declared inner true scope call arguments modifiers made operands)
            behind_operands = behind_ready ∙ paid_then b1 b2 _ (with_operands declared inner true scope call arguments modifiers made) operands is_operands

            pub fails_at_times : (why : Fault) → Fails why (where_allowed (nat_eq (length operands) (control_count modifiers + qubit_count made)) ArgumentCount call.name.place (times_of operands)) → Fails why (paid_from b (call_list declared (suc levels) scope call arguments))
            fails_at_times why e = rw behind_operands (asked_fails b2 _ (with_times declared inner true scope call arguments modifiers made operands) why e)

            behind_times : (times : ℕ) → where_allowed (nat_eq (length operands) (control_count modifiers + qubit_count made)) ArgumentCount call.name.place (times_of operands) ≡ Ok times
                → paid_from b (call_list declared (suc levels) scope call arguments) ≡ paid_from b2 (each_in_turn (applied declared inner scope.open_gates made modifiers) (applications times operands))
            behind_times times e = behind_operands ∙ asked_then b2 _ (with_times declared inner true scope call arguments modifiers made operands) times e

            -- the same, where the levels are one more than those below
            pub goes_on : (all times : ℕ) → all ≡ suc levels → where_allowed (nat_eq (length operands) (control_count modifiers + qubit_count made)) ArgumentCount call.name.place (times_of operands) ≡ Ok times
                → paid_from b (call_list declared all scope call arguments) ≡ paid_from b2 (each_in_turn (applied declared inner scope.open_gates made modifiers) (applications times operands))
            goes_on all times more e = rw more (behind_times times e)
