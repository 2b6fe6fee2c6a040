-- The sums over what names stand for are those over the things.
use Rattle.std.proofs.Common.{◌≡◌, ℕ, ◌+◌, refl, ap, ◌∙◌}
use Rattle.qasm_ast.specs.Whole.{Source}
use Rattle.scope_env.specs.OpenScopes.{OpenScopes, Outside, Opened, Sealed, Named, total, map_scopes}
use Rattle.const_eval.specs.Things.{Thing, cells_of_thing, declared_by, cells_in_scope, declared_qubits}
use Rattle.open_names.specs.declared.slot.Slot.{Slot}
use Rattle.open_names.specs.declared.slot.Slot.TheVariants as slot
use Rattle.open_names.specs.Slots.{thing_in, cells_of_slot, qubits_of_slot}

module _ {A : Type 0} (p : Source) where
  cells-slot : (s : Slot A) → cells_of_thing (thing_in p s) ≡ cells_of_slot s
  cells-slot (slot.Fixed c) = refl
  cells-slot (slot.Variable type a) = refl
  cells-slot (slot.Counter type a) = refl
  cells-slot (slot.Qubits register) = refl
  cells-slot (slot.Alias register) = refl
  cells-slot (slot.Row row) = refl
  cells-slot (slot.Gate id) = refl
  cells-slot (slot.Subroutine id) = refl

  qubits-slot : (s : Slot A) → declared_by (thing_in p s) ≡ qubits_of_slot s
  qubits-slot (slot.Fixed c) = refl
  qubits-slot (slot.Variable type a) = refl
  qubits-slot (slot.Counter type a) = refl
  qubits-slot (slot.Qubits register) = refl
  qubits-slot (slot.Alias register) = refl
  qubits-slot (slot.Row row) = refl
  qubits-slot (slot.Gate id) = refl
  qubits-slot (slot.Subroutine id) = refl

  total-mapped : (of_thing : Thing A → ℕ) (of_slot : Slot A → ℕ) → ((s : Slot A) → of_thing (thing_in p s) ≡ of_slot s) → (scopes : OpenScopes (Slot A)) → total of_thing (map_scopes (thing_in p) scopes) ≡ total of_slot scopes
  total-mapped of_thing of_slot same Outside = refl
  total-mapped of_thing of_slot same (Opened outer) = total-mapped of_thing of_slot same outer
  total-mapped of_thing of_slot same (Sealed seen callers) = total-mapped of_thing of_slot same callers
  total-mapped of_thing of_slot same (Named x s rest) = ap (λ n. n + total of_thing (map_scopes (thing_in p) rest)) (same s) ∙ ap (λ n. of_slot s + n) (total-mapped of_thing of_slot same rest)

  pub cells-things : (scopes : OpenScopes (Slot A)) → cells_in_scope (map_scopes (thing_in p) scopes) ≡ total cells_of_slot scopes
  cells-things scopes = total-mapped cells_of_thing cells_of_slot cells-slot scopes

  pub qubits-things : (scopes : OpenScopes (Slot A)) → declared_qubits (map_scopes (thing_in p) scopes) ≡ total qubits_of_slot scopes
  qubits-things scopes = total-mapped declared_by qubits_of_slot qubits-slot scopes
