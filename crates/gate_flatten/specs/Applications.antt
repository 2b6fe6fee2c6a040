-- The applications of a call of a gate: a call with registers is applied once for each of their places, as in the OpenQASM 3.0
-- specification, "Quantum instructions". A single qubit is repeated in each application.
use Rattle.std.specs.Prelude.{ℕ, Bool, true, false, not, nat_eq, List, [], ◌∷◌, map, length, filter_map, slice_get, option_map, unwrap_or, Option, Some, None, if◌then◌else◌, Result, Ok}
use Rattle.std.specs.List.{list_any, range_with_len}
use Rattle.qq_base.specs.declared.refusal.Refusal.{Refusal}
use Rattle.qq_base.specs.declared.refusal.Span.{Span}
use Rattle.qq_base.specs.declared.rule.Rule.{Rule}
use Rattle.qq_base.specs.declared.rule.Rule.TheVariants.{SizeMismatch, RepeatedQubit}
use Rattle.qq_base.specs.declared.run.QubitId.{QubitId}
use Rattle.qasm_ast.specs.Tree.{Called, Operand}
use Rattle.alias_resolve.specs.Places.{Selected}
use Rattle.const_eval.specs.Meaning.{Meaning}
use Rattle.const_eval.specs.Operands.{operand_walk}
use Rattle.const_eval.specs.Refusing.{where_allowed, go_on}
use Rattle.const_eval.specs.Walk.{Walk, done, then_walk}
use Rattle.gate_flatten.specs.Walks.{each_walk}

-- what an operand is, with its place
pub record Placed (A : Type 0) : Type 0 where
  pub place : Span
  pub thing : A

abbrev pub placed : {A : Type 0} → Span → A → Placed A
placed place thing = record { place = place; thing = thing }

-- the operands of a call, with their places: `means` says what names mean in expressions, and `registers` as operands
module _ (means : List ℕ → Meaning) (registers : Called → Result (Selected QubitId) Rule) where
  abbrev pub placed_walk : Operand → Walk (Placed (Selected QubitId))
  placed_walk o = then_walk (operand_walk means registers o) (λ s. done (placed o.place s))

  abbrev pub placed_operands : List Operand → Walk (List (Placed (Selected QubitId)))
  placed_operands os = each_walk placed_walk os

-- The length of the registers, if there is one, once this operand is known: a register of another length than the first one is
-- refused.
abbrev pub length_with : Option ℕ → Placed (Selected QubitId) → Result (Option ℕ) Refusal
length_with so_far s = of s.thing.single so_far
  where
    of : Bool → Option ℕ → Result (Option ℕ) Refusal
    of true known = Ok known
    of false None = Ok (Some (length s.thing.items))
    of false (Some n) = where_allowed (nat_eq (length s.thing.items) n) SizeMismatch s.place (Ok (Some n))

abbrev pub length_of_all : Option ℕ → List (Placed (Selected QubitId)) → Result (Option ℕ) Refusal
length_of_all so_far [] = Ok so_far
length_of_all so_far (s ∷ ss) = go_on (length_with so_far s) (λ known. length_of_all known ss)

-- how often a call is applied: as often as its registers have places, and once where it has no register
abbrev pub times_of : List (Placed (Selected QubitId)) → Result ℕ Refusal
times_of ss = go_on (length_of_all None ss) (λ known. Ok (unwrap_or known 1))

-- the qubit of an operand in the k-th application
abbrev pub qubit_at : ℕ → Placed (Selected QubitId) → Option (Placed QubitId)
qubit_at k s = option_map (placed s.place) (slice_get s.thing.items (if s.thing.single then 0 else k))

abbrev pub application : List (Placed (Selected QubitId)) → ℕ → List (Placed QubitId)
application ss k = filter_map (qubit_at k) ss

-- the applications, in the order of the registers
abbrev pub applications : ℕ → List (Placed (Selected QubitId)) → List (List (Placed QubitId))
applications times ss = map (application ss) (range_with_len 0 times)

abbrev pub is_among : QubitId → List QubitId → Bool
is_among q qs = list_any (λ (other : QubitId). nat_eq q.0 other.0) qs

-- The qubits of one application, which are distinct: the first that stands in front of itself is refused. `before` are those
-- in front of these.
abbrev pub distinct : List QubitId → List (Placed QubitId) → Result (List QubitId) Refusal
distinct before [] = Ok []
distinct before (q ∷ qs) =
    where_allowed (not (is_among q.thing before)) RepeatedQubit q.place (
    go_on (distinct (q.thing ∷ before) qs) (λ others.
    Ok (q.thing ∷ others)))
