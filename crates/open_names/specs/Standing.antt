-- What a contract sees of the open names of a program: the program, its global names and the names of the scopes that are open
-- within. A name is a number in the lists, and a text in the open scopes.
use Rattle.std.specs.Prelude.{◌≡◌, ℕ, Bool, true, false, List, [], ◌∷◌}
use Rattle.std.specs.List.{list_any}
use Rattle.qasm_ast.specs.Whole.{Source}
use Rattle.qasm_ast.specs.Tree.{text_at}
use Rattle.scope_env.specs.OpenScopes.{OpenScopes, Outside, Opened, Sealed, Named, is_here, map_scopes}
use Rattle.const_eval.specs.Things.{Thing}
use Rattle.open_names.specs.declared.slot.Slot.{Slot}
use Rattle.open_names.specs.declared.slot.Slot.TheVariants as slot
use Rattle.open_names.specs.declared.names.Inner.{Inner}
use Rattle.open_names.specs.Slots.{thing_in}
use Rattle.open_names.specs.Texts.{texts}

-- a scope's names, each with its text, on top of what stands around
abbrev pub named : {A : Type 0} → List (List ℕ) → List (ℕ × A) → OpenScopes A → OpenScopes A
named ts [] around = around
named ts (entry ∷ entries) around = Named (text_at ts entry.0) entry.1 (named ts entries around)

pub record Standing (A : Type 0) : Type 0 where
  pub program : Source
  pub globals : List (ℕ × Slot A)
  -- the scopes that are open within, the innermost first
  pub inner : List (Inner A)

abbrev pub shown : {A : Type 0} → List (List ℕ) → List (ℕ × Slot A) → List (Inner A) → OpenScopes (Slot A)
shown ts globals [] = named ts globals Outside
shown ts globals (scope ∷ inner) = named ts scope.names (Opened (shown ts globals inner))

-- the open scopes
abbrev pub scopes_of : {A : Type 0} → Standing A → OpenScopes (Slot A)
scopes_of s = shown (texts s.program) s.globals s.inner

-- and as the definitions of programs have them
abbrev pub things : {A : Type 0} → Standing A → OpenScopes (Thing A)
things s = map_scopes (thing_in s.program) (scopes_of s)

-- the names of the same program, where the open scopes are these
pub record Stands {A : Type 0} (p : Source) (open_scopes : OpenScopes (Slot A)) (s : Standing A) : Type 0 where
  pub program : s.program ≡ p
  pub scopes : scopes_of s ≡ open_scopes

-- whether no scope is open within the global one
abbrev pub is_top : {A : Type 0} → OpenScopes A → Bool
is_top Outside = true
is_top (Opened outer) = false
is_top (Sealed seen callers) = false
is_top (Named x a rest) = is_top rest

-- ---- the library

-- the open scopes with names for rows of the target table
abbrev pub with_row_slots : {A : Type 0} → List (List ℕ × ℕ) → OpenScopes (Slot A) → OpenScopes (Slot A)
with_row_slots [] scopes = scopes
with_row_slots (entry ∷ entries) scopes = with_row_slots entries (Named entry.0 (slot.Row (record { 0 = entry.1 })) scopes)

-- whether the innermost scope has one of these names
abbrev pub has_one_of : {A : Type 0} → List (List ℕ × ℕ) → OpenScopes A → Bool
has_one_of entries scopes = list_any (λ (entry : List ℕ × ℕ). is_here entry.0 scopes) entries
