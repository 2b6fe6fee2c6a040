-- The operands of a call, one after another.
use Rattle.std.proofs.Common.{◌≡◌, All, ℕ, zero, suc, arith, ◌+◌, ◌<◌, ◌≤◌, List, ◌∷◌, [], ◌++◌, length, map, get_or, Result, Ok, ap, ◌∙◌, sym}
use Rattle.std.proofs.lemmas.List.{map-append}
use Rattle.std.proofs.lemmas.List.Elements.{All-append}
use Rattle.qq_base.specs.declared.refusal.Fault.{Fault}
use Rattle.qq_base.specs.declared.refusal.Refusal.{Refusal}
use Rattle.qq_base.specs.declared.refusal.Span.{Span}
use Rattle.qq_base.specs.declared.rule.Rule.{Rule}
use Rattle.qq_base.specs.declared.run.QubitId.{QubitId}
use Rattle.qasm_ast.specs.declared.expr.OperandRef.{OperandRef}
use Rattle.qasm_ast.specs.Tree.{Called}
use Rattle.qasm_ast.specs.View.{operand_in}
use Rattle.qasm_ast.specs.Whole.{Source}
use Rattle.alias_resolve.specs.Places.{Selected}
use Rattle.alias_resolve.specs.Seen.{seen_qubits}
use Rattle.const_eval.specs.Answers.{Fails}
use Rattle.const_eval.specs.Meaning.{Meaning}
use Rattle.const_eval.specs.Operands.{operand_walk}
use Rattle.const_eval.specs.Walk.{done}
use Rattle.gate_lists.specs.declared.budget.Budget.{Budget}
use Rattle.gate_lists.specs.Paid.{paid_from, paid_then, paid_asked, fails_then}
use Rattle.gate_flatten.specs.declared.applications.Placed.{Placed}
use Rattle.gate_flatten.specs.Applications as spec
use Rattle.gate_flatten.specs.Applications.{placed, placed_walk}
use Rattle.gate_flatten.specs.Served.{IsOne, placed_seen}
use Rattle.gate_flatten.proofs.Fronts.{in_front, from_member, front_more, front_fails, front_all}

module _ (p : Source) (means : List ℕ → Meaning) (registers : Called → Result (Selected QubitId) Rule) (operands : List OperandRef) (found : List Placed) (k : ℕ) (b : Budget) where
  -- the operands that were found, in front of those that are left
  abbrev pub operands_left : Result (List (spec.Placed (Selected QubitId)) × Budget) Refusal
  operands_left = in_front (map placed_seen found) (paid_from b (from_member (operand_in p) (placed_walk means registers) k operands))

  pub operand_fails : (d : OperandRef) (why : Fault) → k < length operands → Fails why (paid_from b (operand_walk means registers (operand_in p (get_or operands k d)))) → Fails why operands_left
  operand_fails d why lt e =
      front_fails (operand_in p) (placed_walk means registers) operands (map placed_seen found) k d b why lt
      (fails_then b (operand_walk means registers (operand_in p (get_or operands k d))) (λ s. done (placed (get_or operands k d).at s)) why e)

  pub operands_end : length operands ≤ k → operands_left ≡ Ok (map placed_seen found, b)
  operands_end le = front_all (operand_in p) (placed_walk means registers) operands (map placed_seen found) k b le

pub operand_more : (p : Source) (means : List ℕ → Meaning) (registers : Called → Result (Selected QubitId) Rule) (operands : List OperandRef) (found : List Placed) (k : ℕ) (b b' : Budget) (d : OperandRef) (s : Placed)
    → k < length operands → s.place ≡ (get_or operands k d).at → paid_from b (operand_walk means registers (operand_in p (get_or operands k d))) ≡ Ok (seen_qubits s.list, b')
    → operands_left p means registers operands found k b ≡ operands_left p means registers operands (found ++ s ∷ []) (k + 1) b'
operand_more p means registers operands found k b b' d s lt place e =
    front_more (operand_in p) (placed_walk means registers) operands (map placed_seen found) k d (placed_seen s) b b' lt
    (paid_then b b' (operand_walk means registers (operand_in p (get_or operands k d))) (λ s. done (placed (get_or operands k d).at s)) (seen_qubits s.list) e
    ∙ paid_asked b' (placed (get_or operands k d).at (seen_qubits s.list))
    ∙ ap (λ (at : Span). Ok (placed at (seen_qubits s.list), b')) (sym place))
    ∙ ap (λ (found : List (spec.Placed (Selected QubitId))). in_front found (paid_from b' (from_member (operand_in p) (placed_walk means registers) (k + 1) operands))) (sym (map-append placed_seen found (s ∷ [])))

pub ones_more : (found : List Placed) (s : Placed) → All (λ (s : Placed). IsOne s.list) found → IsOne s.list → All (λ (s : Placed). IsOne s.list) (found ++ s ∷ [])
ones_more found s all one = All-append (λ (s : Placed). IsOne s.list) found (s ∷ []) all last
  where
    last : All (λ (s : Placed). IsOne s.list) (s ∷ [])
    last zero d lt = one
    last (suc k) d lt = absurd (omega arith)
