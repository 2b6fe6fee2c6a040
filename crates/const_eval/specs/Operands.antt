-- Operands: the qubits that a gate, a `reset`, a `measure`, a `barrier`, a `let` or a call of a subroutine names, those of
-- registers of the OpenQASM 3.0 specification, "Quantum types", and the physical qubits `$n`.
use Rattle.std.specs.Prelude.{ℕ, ◌+◌, max, Bool, true, false, not, ◌&&◌, List, [], ◌∷◌, Result, Ok, Err}
use Rattle.qq_base.specs.declared.refusal.Refusal.{Refusal}
use Rattle.qq_base.specs.declared.refusal.Span.{Span}
use Rattle.qq_base.specs.declared.rule.Rule.{Rule}
use Rattle.qq_base.specs.declared.rule.Rule.TheVariants.{WrongKind}
use Rattle.qq_base.specs.declared.run.QubitId.{QubitId}
use Rattle.qasm_ast.specs.Tree.{Called, word, qubit, Tree, named, wire, no_bracket, Operand, place_of}
use Rattle.alias_resolve.specs.Places.{Selected}
use Rattle.const_eval.specs.Meaning.{Meaning}
use Rattle.const_eval.specs.Refusing.{refused}
use Rattle.const_eval.specs.Walk.{Walk, asked, done, then_walk, walk_where}
use Rattle.const_eval.specs.ConstantWalk.{indexes_walk}
use Rattle.const_eval.specs.Selecting.{is_indexed, selection}

abbrev pub is_wire : Called → Bool
is_wire (word text) = false
is_wire (qubit n) = true

-- an answer, with the place of the rule that is broken
abbrev pub at_place : {A : Type 0} → Span → Result A Rule → Result A Refusal
at_place place (Ok a) = Ok a
at_place place (Err rule) = refused rule place

-- `means` says what each name means, and `qubits` which qubits an operand names, before its brackets
module _ (means : List ℕ → Meaning) (qubits : Called → Result (Selected QubitId) Rule) where
  -- The qubits of an operand: its name, where no bracket follows a `$n` or a qubit alone; then all its indexes in order; and then
  -- what they select. Only the nodes of the indexes are counted.
  abbrev pub operand_walk : Operand → Walk (Selected QubitId)
  operand_walk o =
      walk_where (not (is_wire o.name && is_indexed o.index)) WrongKind o.place (
      then_walk (asked (at_place o.place (qubits o.name))) (λ all.
      walk_where (not (all.single && is_indexed o.index)) WrongKind o.place (
      then_walk (indexes_walk means false o.index) (λ values.
      asked (selection o.place o.index all values)))))

  abbrev pub operands_walk : List Operand → Walk (List (Selected QubitId))
  operands_walk [] = done []
  operands_walk (o ∷ os) =
      then_walk (operand_walk o) (λ s.
      then_walk (operands_walk os) (λ ss.
      done (s ∷ ss)))

-- ---- the `$n` that are used

-- A `$n` is used where a walk comes to it, so a walk of operands that breaks no rule has used all that they name. A
-- program has as many qubits as its greatest n and 1, if it uses any.
abbrev pub wires_of : Called → ℕ
wires_of (word text) = 0
wires_of (qubit n) = n + 1

abbrev pub wires_of_all : List Operand → ℕ
wires_of_all [] = 0
wires_of_all (o ∷ os) = max (wires_of o.name) (wires_of_all os)

-- ---- qubit arguments

-- an argument that names qubits; another expression is not walked
abbrev pub operand_in : Tree → Result Operand Refusal
operand_in (named name index operand place) = Ok (record { name = name; index = index; place = place })
operand_in (wire n place) = Ok (record { name = qubit n; index = no_bracket; place = place })
operand_in a = refused WrongKind (place_of a)
