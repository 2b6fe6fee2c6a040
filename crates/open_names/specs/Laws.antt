-- Laws of open names.
use Rattle.std.specs.Prelude.{◌≡◌, ℕ, List}
use Rattle.std.specs.Option.{option_map}
use Rattle.qasm_ast.specs.Whole.{Source}
use Rattle.scope_env.specs.OpenScopes.{OpenScopes, find, is_here, close, map_scopes}
use Rattle.source_meaning.specs.Library.{with_rows}
use Rattle.open_names.specs.declared.slot.Slot.{Slot}
use Rattle.open_names.specs.Slots.{thing_in}
use Rattle.open_names.specs.Standing.{with_row_slots}

-- What is said of the open scopes of the code holds of their things: what a name stands for, whether the innermost scope has it, what
-- is left when that scope is closed, and what stands when names for rows are added.
pub record FollowsSlots {A : Type 0} (p : Source) (scopes : OpenScopes (Slot A)) : Type 0 where
  pub found : (x : List ℕ) → find x (map_scopes (thing_in p) scopes) ≡ option_map (thing_in p) (find x scopes)
  pub here : (x : List ℕ) → is_here x (map_scopes (thing_in p) scopes) ≡ is_here x scopes
  pub closed : close (map_scopes (thing_in p) scopes) ≡ map_scopes (thing_in p) (close scopes)
  pub included : (rows : List (List ℕ × ℕ)) → map_scopes (thing_in p) (with_row_slots rows scopes) ≡ with_rows rows (map_scopes (thing_in p) scopes)

abbrev pub ThingsFollowSlots : Type 0 → Type 0
ThingsFollowSlots A = (p : Source) (scopes : OpenScopes (Slot A)) → FollowsSlots p scopes
