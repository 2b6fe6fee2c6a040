-- What open names keep where a scope is opened or closed, and where a name is declared.
use Rattle.std.proofs.Common.{◌≡◌, ℕ, ◌+◌, true, List, [], ◌∷◌, refl, sym, arith}
use Rattle.qasm_ast.specs.Whole.{Source}
use Rattle.qasm_ast.specs.Tree.{text_at}
use Rattle.scope_env.specs.OpenScopes.{OpenScopes, Outside, Opened, Named, close}
use Rattle.open_names.specs.declared.slot.Slot.{Slot}
use Rattle.open_names.specs.declared.counts.Counts.{Counts}
use Rattle.open_names.specs.declared.names.Inner.{Inner}
use Rattle.open_names.specs.Counted.{counted}
use Rattle.open_names.specs.Slots.{cells_of_slot, qubits_of_slot}
use Rattle.open_names.specs.Texts.{texts}
use Rattle.open_names.specs.Standing.{Standing, Stands, named, shown, scopes_of, is_top}
use Rattle.open_names.specs.Keys.{IsKey}
use Rattle.open_names.specs.Keeping.{AreCounted, IsKept}
use Rattle.open_names.proofs.Found.{close-named, is_top-named}

module _ {A : Type 0} where
  abbrev pub with_scope : Counts → Standing A → Standing A
  with_scope sums s = record { program = s.program; globals = s.globals; inner = record { names = []; around = sums } ∷ s.inner }

  pub IsKept-opened : (s : Standing A) (sums : Counts) → IsKept s sums → IsKept (with_scope sums s) sums
  IsKept-opened s sums kept = record {
    whole = kept.whole;
    few = kept.few;
    globals = kept.globals;
    inner = (tt, kept.counts, kept.inner);
    counts = record { cells = kept.counts.cells; qubits = kept.counts.qubits };
  }

  -- the innermost of the scopes within, and those around it
  module _ (p : Source) (globals : List (ℕ × Slot A)) (scope : Inner A) (inner : List (Inner A)) where
    abbrev inside : Standing A
    inside = record { program = p; globals = globals; inner = scope ∷ inner }

    abbrev around : Standing A
    around = record { program = p; globals = globals; inner = inner }

    pub IsKept-closed : (sums : Counts) → IsKept inside sums → IsKept around scope.around
    IsKept-closed sums kept = record {
      whole = kept.whole;
      few = kept.few;
      globals = kept.globals;
      inner = kept.inner.2;
      counts = kept.inner.1;
    }

    pub Stands-closed : Stands p (close (scopes_of inside)) around
    Stands-closed = record { program = refl; scopes = sym (close-named (texts p) scope.names (Opened (scopes_of around))) }

  -- where no scope is open within the global one, none can be closed
  pub is_top-globals : (s : Standing A) → s.inner ≡ [] → is_top (scopes_of s) ≡ true
  is_top-globals s none = rw none (is_top-named (texts s.program) s.globals Outside)

  -- ---- a name more

  AreCounted-named : (scopes : OpenScopes (Slot A)) (x : List ℕ) (slot : Slot A) (sums more : Counts) → AreCounted scopes sums → more.cells ≡ counted (sums.cells + cells_of_slot slot) → more.qubits ≡ counted (sums.qubits + qubits_of_slot slot) → AreCounted (Named x slot scopes) more
  AreCounted-named scopes x slot sums more are cells qubits = record {
    cells = omega (arith, are.cells, cells);
    qubits = omega (arith, are.qubits, qubits);
  }

  module _ (key : ℕ) (slot : Slot A) (sums more : Counts) (cells_are : more.cells ≡ counted (sums.cells + cells_of_slot slot)) (qubits_are : more.qubits ≡ counted (sums.qubits + qubits_of_slot slot)) (p : Source) (is_key : IsKey (texts p) key) (globals : List (ℕ × Slot A)) where
    pub IsKept-global : IsKept (record { program = p; globals = globals; inner = [] }) sums → IsKept (record { program = p; globals = (key, slot) ∷ globals; inner = [] }) more
    IsKept-global kept = record {
      whole = kept.whole;
      few = kept.few;
      globals = (is_key, kept.globals);
      inner = tt;
      counts = AreCounted-named (named (texts p) globals Outside) (text_at (texts p) key) slot sums more kept.counts cells_are qubits_are;
    }

    pub IsKept-inner : (names : List (ℕ × Slot A)) (sums_around : Counts) (inner : List (Inner A)) → IsKept (record { program = p; globals = globals; inner = record { names = names; around = sums_around } ∷ inner }) sums → IsKept (record { program = p; globals = globals; inner = record { names = (key, slot) ∷ names; around = sums_around } ∷ inner }) more
    IsKept-inner names sums_around inner kept = record {
      whole = kept.whole;
      few = kept.few;
      globals = kept.globals;
      inner = ((is_key, kept.inner.0), kept.inner.1, kept.inner.2);
      counts = AreCounted-named (named (texts p) names (Opened (shown (texts p) globals inner))) (text_at (texts p) key) slot sums more kept.counts cells_are qubits_are;
    }
