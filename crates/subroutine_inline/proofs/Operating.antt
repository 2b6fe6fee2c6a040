-- The qubits of an operand that stands as an argument, step by step.
use Rattle.std.proofs.Common.{◌≡◌, ◌≢◌, ℕ, ◌+◌, ◌<◌, ◌&&◌, Bool, true, false, not, List, [], ◌∷◌, length, Result, Ok, Err, refl, ap, ◌∙◌, arith}
use Rattle.qq_base.specs.declared.refusal.Fault.{Fault}
use Rattle.qq_base.specs.declared.refusal.Fault.TheVariants as fault
use Rattle.qq_base.specs.declared.refusal.Refusal.{Refusal}
use Rattle.qq_base.specs.declared.refusal.Span.{Span}
use Rattle.qq_base.specs.declared.rule.Rule.{Rule}
use Rattle.qq_base.specs.declared.rule.Rule.TheVariants.{WrongKind}
use Rattle.qq_base.specs.declared.run.QubitId.{QubitId}
use Rattle.qasm_ast.specs.declared.expr.IndexRef.{IndexRef}
use Rattle.qasm_ast.specs.declared.expr.OperandName.TheVariants as written
use Rattle.qasm_ast.specs.declared.expr.OperandRef.{OperandRef}
use Rattle.qasm_ast.specs.Tree.{Called, Brackets}
use Rattle.qasm_ast.specs.View.{brackets_in, called_in}
use Rattle.qasm_ast.specs.Whole.{Source}
use Rattle.alias_resolve.specs.declared.index.IndexValue.{IndexValue}
use Rattle.alias_resolve.specs.declared.select.SelectFault.{SelectFault}
use Rattle.alias_resolve.specs.declared.select.SelectFault.TheVariants as select
use Rattle.alias_resolve.specs.Places.{Selected, selected_of}
use Rattle.const_eval.specs.Answers.{Fails}
use Rattle.const_eval.specs.Constant.{Constant}
use Rattle.const_eval.specs.ConstIndexes.{refusal_of_fault}
use Rattle.const_eval.specs.ConstantWalk.{indexes_walk}
use Rattle.const_eval.specs.Meaning.{Meaning}
use Rattle.const_eval.specs.Operands.{is_wire, at_place, operand_walk}
use Rattle.const_eval.specs.Refusing.{refused}
use Rattle.const_eval.specs.Selecting.{is_indexed, selection, where_selected}
use Rattle.const_eval.specs.Walk.{Walk, asked, then_walk, walk_where}
use Rattle.subroutine_inline.proofs.Counting.{answer_then, cost_then, stops_then}

never : (t : Bool) → t && false ≡ false
never true = refl
never false = refl

some_bracket : (p : Source) (index : List IndexRef) → 0 < length index → is_indexed (brackets_in p index) ≡ true
some_bracket p [] lt = absurd (omega arith)
some_bracket p (i ∷ index) lt = refl

some_selected : (p : Source) (index : List IndexRef) (place : Span) (all : Selected QubitId) (values : List IndexValue) → 0 < length index
    → selection place (brackets_in p index) all values ≡ where_selected place (brackets_in p index) (selected_of all.items values)
some_selected p [] place all values lt = absurd (omega arith)
some_selected p (i ∷ index) place all values lt = refl

-- a fault is refused in the same way whatever is selected
same_refusal : (place : Span) (index : Brackets) (why : Fault) (missing : SelectFault) → Fails why (refusal_of_fault {A = Constant} place index missing)
    → Fails why (refusal_of_fault {A = Selected QubitId} place index missing)
same_refusal place index fault.Memory f e = tt
same_refusal place index (fault.Refused refusal) (select.NotRegister n) e = let same : record { rule = _; at = _ } ≡ refusal = cc in ap Err same
same_refusal place index (fault.Refused refusal) (select.StepZero n) e = let same : record { rule = _; at = _ } ≡ refusal = cc in ap Err same
same_refusal place index (fault.Refused refusal) (select.IndexRange n member) e = let same : record { rule = _; at = _ } ≡ refusal = cc in ap Err same
same_refusal place index (fault.Refused refusal) select.Memory e = let same : record { rule = _; at = _ } ≡ refusal = cc in ap Err same

module _ (p : Source) (means : List ℕ → Meaning) (registers : Called → Result (Selected QubitId) Rule) (operand : OperandRef) (place : Span) where
  abbrev pub walk_of : Walk (Selected QubitId)
  walk_of = operand_walk means registers (record { name = called_in p operand.name; index = brackets_in p operand.index; place = place })

  abbrev pub named : Result (Selected QubitId) Refusal
  named = at_place place (registers (called_in p operand.name))

  abbrev indexes : Walk (List IndexValue)
  indexes = indexes_walk means false (brackets_in p operand.index)

  abbrev with_values : Selected QubitId → List IndexValue → Walk (Selected QubitId)
  with_values all values = asked (selection place (brackets_in p operand.index) all values)

  abbrev with_register : Selected QubitId → Walk (Selected QubitId)
  with_register all =
      walk_where (not (all.single && is_indexed (brackets_in p operand.index))) WrongKind place (
      then_walk indexes (with_values all))

  is_named : is_wire (called_in p operand.name) && is_indexed (brackets_in p operand.index) ≡ false → walk_of ≡ then_walk (asked named) with_register
  is_named e = rw e refl

  -- without brackets
  module _ (none : operand.index ≡ []) where
    unindexed : is_wire (called_in p operand.name) && is_indexed (brackets_in p operand.index) ≡ false
    unindexed = rw none (never (is_wire (called_in p operand.name)))

    after_name : (r : Result (Selected QubitId) Refusal) → ((then_walk (asked r) with_register).answer ≡ r) × ((then_walk (asked r) with_register).cost ≡ 0)
    after_name (Ok all) = (rw (none, never all.single) refl, rw (none, never all.single) refl)
    after_name (Err e) = (refl, refl)

    pub bare_answer : walk_of.answer ≡ named
    bare_answer = ap (λ (w : Walk (Selected QubitId)). w.answer) (is_named unindexed) ∙ (after_name named).0

    pub bare_cost : walk_of.cost ≡ 0
    bare_cost = ap (λ (w : Walk (Selected QubitId)). w.cost) (is_named unindexed) ∙ (after_name named).1

  -- a `$n` with brackets
  pub wire_refused : (n : ℕ) → operand.name ≡ written.Hardware n → 0 < length operand.index → walk_of.answer ≡ refused WrongKind place
  wire_refused n is lt = rw (is, some_bracket p operand.index lt) refl

  module _ (is_word : is_wire (called_in p operand.name) ≡ false) (lt : 0 < length operand.index) where
    unwired : is_wire (called_in p operand.name) && is_indexed (brackets_in p operand.index) ≡ false
    unwired = rw is_word refl

    pub register_stops : (r : Refusal) → named ≡ Err r → walk_of.answer ≡ Err r
    register_stops r e = ap (λ (w : Walk (Selected QubitId)). w.answer) (is_named unwired) ∙ stops_then with_register (asked named) r e

    module _ (all : Selected QubitId) (found : named ≡ Ok all) where
      behind_name : walk_of.answer ≡ (with_register all).answer
      behind_name = ap (λ (w : Walk (Selected QubitId)). w.answer) (is_named unwired) ∙ answer_then with_register (asked named) all found

      cost_of_name : walk_of.cost ≡ 0 + (with_register all).cost
      cost_of_name = ap (λ (w : Walk (Selected QubitId)). w.cost) (is_named unwired) ∙ cost_then with_register (asked named) all found

      pub single_refused : all.single ≡ true → walk_of.answer ≡ refused WrongKind place
      single_refused single = behind_name ∙ rw (single, some_bracket p operand.index lt) refl

      module _ (register : all.single ≡ false) where
        with_indexes : with_register all ≡ then_walk indexes (with_values all)
        with_indexes = rw register refl

        behind_register : walk_of.answer ≡ (then_walk indexes (with_values all)).answer
        behind_register = behind_name ∙ ap (λ (w : Walk (Selected QubitId)). w.answer) with_indexes

        pub indexes_stop : (r : Refusal) → (indexes_walk means false (brackets_in p operand.index)).answer ≡ Err r → walk_of.answer ≡ Err r
        indexes_stop r e = behind_register ∙ stops_then (with_values all) indexes r e

        module _ (values : List IndexValue) (walked : (indexes_walk means false (brackets_in p operand.index)).answer ≡ Ok values) where
          behind_values : walk_of.answer ≡ where_selected place (brackets_in p operand.index) (selected_of all.items values)
          behind_values = behind_register ∙ answer_then (with_values all) indexes values walked ∙ some_selected p operand.index place all values lt

          pub cost_of_values : walk_of.cost ≡ (indexes_walk means false (brackets_in p operand.index)).cost
          cost_of_values =
              let one = cost_of_name in
              let two = ap (λ (w : Walk (Selected QubitId)). w.cost) with_indexes in
              let three = cost_then (with_values all) indexes values walked in
              omega arith

          pub selected_known : (s : Selected QubitId) → selected_of all.items values ≡ Ok s → walk_of.answer ≡ Ok s
          selected_known s e = behind_values ∙ rw e refl

          selected_fails : (missing : SelectFault) (why : Fault) → selected_of all.items values ≡ Err missing → Fails why (refusal_of_fault {A = Constant} place (brackets_in p operand.index) missing)
              → Fails why walk_of.answer
          selected_fails missing why e f = rw (behind_values, e) (same_refusal place (brackets_in p operand.index) why missing f)

          pub selected_err : (missing : SelectFault) (why : Fault) → (missing ≢ select.Memory → selected_of all.items values ≡ Err missing)
              → Fails why (refusal_of_fault {A = Constant} place (brackets_in p operand.index) missing) → (missing ≡ select.Memory → why ≡ fault.Memory)
              → Fails why walk_of.answer
          selected_err select.Memory why e f memory = rw (memory refl) tt
          selected_err (select.NotRegister n) why e f memory = selected_fails (select.NotRegister n) why (e (λ h. absurd cc)) f
          selected_err (select.StepZero n) why e f memory = selected_fails (select.StepZero n) why (e (λ h. absurd cc)) f
          selected_err (select.IndexRange n member) why e f memory = selected_fails (select.IndexRange n member) why (e (λ h. absurd cc)) f

pub nothing : {A : Type 0} (xs : List A) → length xs ≡ 0 → xs ≡ []
nothing [] e = refl
nothing (x ∷ xs) e = absurd (omega arith)
