-- The qubits of an operand, step by step.
use Rattle.std.proofs.Common.{◌≡◌, ◌≢◌, ℕ, ◌<◌, ◌&&◌, Bool, true, false, not, List, [], ◌∷◌, length, Result, Ok, Err, refl, ap, ◌∙◌, arith}
use Rattle.qq_base.specs.declared.refusal.Fault.{Fault}
use Rattle.qq_base.specs.declared.refusal.Fault.TheVariants as fault
use Rattle.qq_base.specs.declared.refusal.Refusal.{Refusal}
use Rattle.qq_base.specs.declared.refusal.Span.{Span}
use Rattle.qq_base.specs.declared.rule.Rule.{Rule}
use Rattle.qq_base.specs.declared.rule.Rule.TheVariants.{WrongKind}
use Rattle.qq_base.specs.declared.run.QubitId.{QubitId}
use Rattle.qasm_ast.specs.declared.expr.IndexRef.{IndexRef}
use Rattle.qasm_ast.specs.declared.expr.OperandName.TheVariants as written
use Rattle.qasm_ast.specs.declared.expr.OperandRef.{OperandRef}
use Rattle.qasm_ast.specs.Tree.{Called, Brackets}
use Rattle.qasm_ast.specs.View.{brackets_in, called_in, operand_in}
use Rattle.qasm_ast.specs.Whole.{Source}
use Rattle.alias_resolve.specs.declared.index.IndexValue.{IndexValue}
use Rattle.alias_resolve.specs.declared.select.QubitList.{QubitList}
use Rattle.alias_resolve.specs.declared.select.SelectFault.{SelectFault}
use Rattle.alias_resolve.specs.declared.select.SelectFault.TheVariants as select
use Rattle.alias_resolve.specs.Places.{Selected, selected_of}
use Rattle.alias_resolve.specs.Seen.{seen_qubits}
use Rattle.const_eval.specs.Answers.{Answers, Fails}
use Rattle.const_eval.specs.Constant.{Constant}
use Rattle.const_eval.specs.ConstIndexes.{refusal_of_fault}
use Rattle.const_eval.specs.ConstantWalk.{indexes_walk}
use Rattle.const_eval.specs.Meaning.{Meaning}
use Rattle.const_eval.specs.Operands.{is_wire, at_place, operand_walk}
use Rattle.const_eval.specs.Refusing.{refused}
use Rattle.const_eval.specs.Selecting.{is_indexed, selection, where_selected}
use Rattle.const_eval.specs.Walk.{Walk, asked, done, then_walk, walk_where}
use Rattle.gate_lists.specs.declared.budget.Budget.{Budget}
use Rattle.gate_lists.specs.Paid.{paid_from, AnswersWithin, paid_then, paid_asked, paid_refused, fails_then, fails_asked}
use Rattle.gate_flatten.proofs.Calling.{asked_then, asked_fails}

never : (t : Bool) → t && false ≡ false
never true = refl
never false = refl

some_bracket : (p : Source) (index : List IndexRef) → 0 < length index → is_indexed (brackets_in p index) ≡ true
some_bracket p [] lt = absurd (omega arith)
some_bracket p (i ∷ index) lt = refl

some_selected : (p : Source) (index : List IndexRef) (place : Span) (all : Selected QubitId) (values : List IndexValue) → 0 < length index
    → selection place (brackets_in p index) all values ≡ where_selected place (brackets_in p index) (selected_of all.items values)
some_selected p [] place all values lt = absurd (omega arith)
some_selected p (i ∷ index) place all values lt = refl

-- a fault is refused in the same way whatever is selected
pub same_refusal : (place : Span) (index : Brackets) (why : Fault) (fault : SelectFault) → Fails why (refusal_of_fault {A = Constant} place index fault)
    → Fails why (refusal_of_fault {A = Selected QubitId} place index fault)
same_refusal place index fault.Memory f e = tt
same_refusal place index (fault.Refused refusal) (select.NotRegister n) e = let same : record { rule = _; at = _ } ≡ refusal = cc in ap Err same
same_refusal place index (fault.Refused refusal) (select.StepZero n) e = let same : record { rule = _; at = _ } ≡ refusal = cc in ap Err same
same_refusal place index (fault.Refused refusal) (select.IndexRange n member) e = let same : record { rule = _; at = _ } ≡ refusal = cc in ap Err same
same_refusal place index (fault.Refused refusal) select.Memory e = let same : record { rule = _; at = _ } ≡ refusal = cc in ap Err same

module _ (p : Source) (means : List ℕ → Meaning) (registers : Called → Result (Selected QubitId) Rule) (operand : OperandRef) (b : Budget) where
  abbrev pub walk_of : Walk (Selected QubitId)
  walk_of = operand_walk means registers (operand_in p operand)

  abbrev named : Result (Selected QubitId) Refusal
  named = at_place operand.at (registers (called_in p operand.name))

  abbrev with_values : Selected QubitId → List IndexValue → Walk (Selected QubitId)
  with_values all values = asked (selection operand.at (brackets_in p operand.index) all values)

  abbrev with_register : Selected QubitId → Walk (Selected QubitId)
  with_register all =
      walk_where (not (all.single && is_indexed (brackets_in p operand.index))) WrongKind operand.at (
      then_walk (indexes_walk means false (brackets_in p operand.index)) (with_values all))

  is_named : is_wire (called_in p operand.name) && is_indexed (brackets_in p operand.index) ≡ false → walk_of ≡ then_walk (asked named) with_register
  is_named e = rw e refl

  bare_register : operand.index ≡ [] → (all : Selected QubitId) → with_register all ≡ then_walk (done {A = List IndexValue} []) (λ values. asked (Ok all))
  bare_register none all = rw (none, never all.single) refl

  -- without brackets
  pub bare_answers : operand.index ≡ [] → (result : Result QubitList Fault) → Answers seen_qubits result named → AnswersWithin b b seen_qubits result walk_of
  bare_answers none (Ok list) e =
      let unwired : is_wire (called_in p operand.name) && is_indexed (brackets_in p operand.index) ≡ false = rw none (never (is_wire (called_in p operand.name))) in
      ap (paid_from b) (is_named unwired)
      ∙ asked_then b named with_register (seen_qubits list) e
      ∙ ap (paid_from b) (bare_register none (seen_qubits list))
      ∙ paid_then b b (done {A = List IndexValue} []) (λ values. asked (Ok (seen_qubits list))) [] (paid_asked b [])
      ∙ paid_asked b (seen_qubits list)
  bare_answers none (Err why) e =
      let unwired : is_wire (called_in p operand.name) && is_indexed (brackets_in p operand.index) ≡ false = rw none (never (is_wire (called_in p operand.name))) in
      rw (is_named unwired) (asked_fails b named with_register why e)

  -- a `$n` with brackets
  pub wire_refused : (n : ℕ) → operand.name ≡ written.Hardware n → 0 < length operand.index → paid_from b walk_of ≡ refused WrongKind operand.at
  wire_refused n is lt = rw (is, some_bracket p operand.index lt) (paid_refused b _)

  module _ (is_word : is_wire (called_in p operand.name) ≡ false) (lt : 0 < length operand.index) where
    unwired : is_wire (called_in p operand.name) && is_indexed (brackets_in p operand.index) ≡ false
    unwired = rw is_word refl

    pub register_fails : (why : Fault) → Fails why named → Fails why (paid_from b walk_of)
    register_fails why e = rw (is_named unwired) (asked_fails b named with_register why e)

    module _ (all : Selected QubitId) (found : named ≡ Ok all) where
      behind_name : paid_from b walk_of ≡ paid_from b (with_register all)
      behind_name = ap (paid_from b) (is_named unwired) ∙ asked_then b named with_register all found

      pub single_refused : all.single ≡ true → paid_from b walk_of ≡ refused WrongKind operand.at
      single_refused single = rw (behind_name, single, some_bracket p operand.index lt) (paid_refused b _)

      module _ (register : all.single ≡ false) where
        behind_register : paid_from b walk_of ≡ paid_from b (then_walk (indexes_walk means false (brackets_in p operand.index)) (with_values all))
        behind_register = behind_name ∙ rw register refl

        pub indexes_fail : (why : Fault) → Fails why (paid_from b (indexes_walk means false (brackets_in p operand.index))) → Fails why (paid_from b walk_of)
        indexes_fail why e = rw behind_register (fails_then b (indexes_walk means false (brackets_in p operand.index)) (with_values all) why e)

        module _ (b1 : Budget) (values : List IndexValue) (walked : paid_from b (indexes_walk means false (brackets_in p operand.index)) ≡ Ok (values, b1)) where
          behind_values : paid_from b walk_of ≡ paid_from b1 (asked (where_selected operand.at (brackets_in p operand.index) (selected_of all.items values)))
          behind_values =
              behind_register
              ∙ paid_then b b1 (indexes_walk means false (brackets_in p operand.index)) (with_values all) values walked
              ∙ ap (λ (r : Result (Selected QubitId) Refusal). paid_from b1 (asked r)) (some_selected p operand.index operand.at all values lt)

          pub selected_known : (s : Selected QubitId) → selected_of all.items values ≡ Ok s → paid_from b walk_of ≡ Ok (s, b1)
          selected_known s e = behind_values ∙ rw e (paid_asked b1 s)

          pub selected_fails : (fault : SelectFault) (why : Fault) → selected_of all.items values ≡ Err fault → Fails why (refusal_of_fault {A = Constant} operand.at (brackets_in p operand.index) fault)
              → Fails why (paid_from b walk_of)
          selected_fails fault why e f =
              rw (behind_values, e) (fails_asked b1 (refusal_of_fault operand.at (brackets_in p operand.index) fault) why (same_refusal operand.at (brackets_in p operand.index) why fault f))

          pub selected_err : (missing : SelectFault) (why : Fault) → (missing ≢ select.Memory → selected_of all.items values ≡ Err missing)
              → Fails why (refusal_of_fault {A = Constant} operand.at (brackets_in p operand.index) missing) → (missing ≡ select.Memory → why ≡ fault.Memory)
              → Fails why (paid_from b walk_of)
          selected_err select.Memory why e f memory = rw (memory refl) tt
          selected_err (select.NotRegister n) why e f memory = selected_fails (select.NotRegister n) why (e (λ h. absurd cc)) f
          selected_err (select.StepZero n) why e f memory = selected_fails (select.StepZero n) why (e (λ h. absurd cc)) f
          selected_err (select.IndexRange n member) why e f memory = selected_fails (select.IndexRange n member) why (e (λ h. absurd cc)) f

pub nothing : {A : Type 0} (xs : List A) → length xs ≡ 0 → xs ≡ []
nothing [] e = refl
nothing (x ∷ xs) e = absurd (omega arith)
