-- The first answer to the name of an operand, and operands that are answered one by one.
use Rattle.std.proofs.Common.{◌≡◌, ℕ, ◌+◌, ◌<◌, ◌≤◌, List, ◌∷◌, length, map, take, drop, get_or, Some, true, false, refl, sym, subst, drop-cons, add-one}
use Rattle.std.specs.Prelude.{IsSomeAnd}
use Rattle.std.specs.Map.{lookup}
use Rattle.qasm_ast.specs.declared.expr.OperandName.{OperandName}
use Rattle.std.proofs.lemmas.List.{take_all}
use Rattle.std.proofs.lemmas.List.Elements.{All-more}
use Rattle.qasm_ast.specs.declared.expr.OperandRef.{OperandRef}
use Rattle.const_eval.specs.Seen.{is_same_operand}
use Rattle.gate_arguments.specs.Answering.{QubitsFit}
use Rattle.gate_flatten.specs.Serves.{HasOperands}
use Rattle.gate_cases.specs.declared.answers.OperandAnswer.{OperandAnswer}
use Rattle.gate_cases.specs.Answered.{answer_told, operand_told}

module _ (name : OperandName) where
  pub first_of_rest : (entry : OperandAnswer) (rest : List OperandAnswer) → is_same_operand name entry.name ≡ true
      → lookup (is_same_operand name) (map operand_told (entry ∷ rest)) ≡ Some (answer_told entry.answer)
  first_of_rest entry rest same = rw same refl

  pub later_of_rest : (entry : OperandAnswer) (rest : List OperandAnswer) → is_same_operand name entry.name ≡ false
      → lookup (is_same_operand name) (map operand_told (entry ∷ rest)) ≡ lookup (is_same_operand name) (map operand_told rest)
  later_of_rest entry rest other = rw other refl

  pub found_here : (entries : List OperandAnswer) (k : ℕ) (entry : OperandAnswer) → k < length entries → entry ≡ get_or entries k entry → is_same_operand name entry.name ≡ true
      → lookup (is_same_operand name) (map operand_told (drop k entries)) ≡ Some (answer_told entry.answer)
  found_here entries k entry lt is same =
      let front : drop k entries ≡ entry ∷ drop (k + 1) entries = rw (add-one, drop-cons entries k entry lt, sym is) refl in
      rw front (first_of_rest entry (drop (k + 1) entries) same)

  pub found_later : (entries : List OperandAnswer) (k : ℕ) (entry : OperandAnswer) → k < length entries → entry ≡ get_or entries k entry → is_same_operand name entry.name ≡ false
      → lookup (is_same_operand name) (map operand_told (drop k entries)) ≡ lookup (is_same_operand name) (map operand_told (drop (k + 1) entries))
  found_later entries k entry lt is other =
      let front : drop k entries ≡ entry ∷ drop (k + 1) entries = rw (add-one, drop-cons entries k entry lt, sym is) refl in
      rw front (later_of_rest entry (drop (k + 1) entries) other)

abbrev pub IsAnswered : List OperandAnswer → OperandRef → Type 0
IsAnswered answers o = IsSomeAnd (lookup (is_same_operand o.name) (map operand_told answers)) QubitsFit

pub answered_more : (answers : List OperandAnswer) (os : List OperandRef) (k : ℕ) (o : OperandRef) → k < length os → o ≡ get_or os k o
    → HasOperands (map operand_told answers) (take k os) → IsAnswered answers o → HasOperands (map operand_told answers) (take (k + 1) os)
answered_more answers os k o lt is so_far here = All-more (IsAnswered answers) os k o lt so_far (subst (IsAnswered answers) is here)

pub answered_all : (answers : List OperandAnswer) (os : List OperandRef) (k : ℕ) → length os ≤ k → HasOperands (map operand_told answers) (take k os) → HasOperands (map operand_told answers) os
answered_all answers os k le all = subst (HasOperands (map operand_told answers)) (take_all k os le) all
