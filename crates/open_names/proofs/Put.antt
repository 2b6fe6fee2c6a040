-- A name that is declared in the innermost scope.
use Rattle.std.proofs.Common.{◌≡◌, ◌↔◌, IsTrue, ℕ, suc, ◌+◌, Bool, List, [], ◌∷◌, reverse, length, get_or, Some, is_some, nat_eq, refl, sym, ap, ◌∙◌, subst, arith}
use Rattle.std.proofs.Math.ListN.{set}
use Rattle.std.proofs.lemmas.Option.{slice_get-get_or}
use Rattle.std.specs.Map.{lookup}
use Rattle.qasm_ast.specs.Whole.{Source}
use Rattle.qasm_ast.specs.Tree.{text_at}
use Rattle.scope_env.specs.OpenScopes.{OpenScopes, Named, is_here}
use Rattle.open_names.specs.declared.slot.Slot.{Slot}
use Rattle.open_names.specs.declared.counts.Counts.{Counts}
use Rattle.open_names.specs.declared.names.Inner.{Inner}
use Rattle.open_names.specs.Counted.{counted}
use Rattle.open_names.specs.Slots.{cells_of_slot, qubits_of_slot}
use Rattle.open_names.specs.Texts.{texts}
use Rattle.open_names.specs.Standing.{Standing, Stands, shown, scopes_of}
use Rattle.open_names.specs.Keys.{IsKey}
use Rattle.open_names.specs.Keeping.{IsKept}
use Rattle.open_names.proofs.Last.{Ends, ends, reverse-ends, reverse-set}
use Rattle.open_names.proofs.Kept.{IsKept-inner}
use Rattle.open_names.proofs.Asked.{is_here-inside, is_here-globals}

-- one answer and one test in the place of others that are equal
pub told_by : {R : Type 0} (r told error : R) (b here : Bool) → told ≡ r → b ≡ here → ((r ≡ error) ↔ IsTrue b) → ((told ≡ error) ↔ IsTrue here)
told_by r told error b here same tests iff = (λ e. subst IsTrue tests (iff.0 (sym same ∙ e)), λ t. same ∙ iff.1 (subst IsTrue (sym tests) t))

module _ {A : Type 0} where
  -- a fact of a value in the place of one of its equal
  pub IsKey-of : (s v : Standing A) → s ≡ v → (key : ℕ) → IsKey (texts v.program) key → IsKey (texts s.program) key
  IsKey-of s v is key is_key = subst (λ (u : Standing A). IsKey (texts u.program) key) (sym is) is_key

  pub Stands-of : (s v new : Standing A) → s ≡ v → (key : ℕ) (slot : Slot A) → Stands s.program (Named (text_at (texts s.program) key) slot (scopes_of s)) new → Stands v.program (Named (text_at (texts v.program) key) slot (scopes_of v)) new
  Stands-of s v new is key slot stands = subst (λ (u : Standing A). Stands u.program (Named (text_at (texts u.program) key) slot (scopes_of u)) new) is stands

  pub is_here-of : (s v : Standing A) → s ≡ v → (key : ℕ) (b : Bool) → is_here (text_at (texts s.program) key) (scopes_of s) ≡ b → b ≡ is_here (text_at (texts v.program) key) (scopes_of v)
  is_here-of s v is key b here = subst (λ (u : Standing A). b ≡ is_here (text_at (texts u.program) key) (scopes_of u)) is (sym here)

  -- in the global scope, where no other is open
  pub is_here-top : (s : Standing A) (sums : Counts) → IsKept s sums → (key : ℕ) → IsKey (texts s.program) key → s.inner ≡ [] → is_here (text_at (texts s.program) key) (scopes_of s) ≡ is_some (lookup (nat_eq key) s.globals)
  is_here-top s sums kept key is_key top =
      ap (λ (inner : List (Inner A)). is_here (text_at (texts s.program) key) (shown (texts s.program) s.globals inner)) top ∙ is_here-globals (texts s.program) key is_key s.globals kept.globals

  -- in the innermost of other scopes
  module _ (p : Source) (globals : List (ℕ × Slot A)) (items : List (Inner A)) (k : ℕ) (scope : Inner A) (e : Ends items k scope) where
    abbrev standing : List (Inner A) → Standing A
    standing inner = record { program = p; globals = globals; inner = inner }

    module _ (key : ℕ) (slot : Slot A) (names : List (ℕ × Slot A)) (names_are : names ≡ (key, slot) ∷ scope.names) where
      abbrev changed : Inner A
      changed = record { names = names; around = scope.around }

      abbrev longer : Inner A
      longer = record { names = (key, slot) ∷ scope.names; around = scope.around }

      changed_is : reverse (set items k changed) ≡ longer ∷ reverse e.front
      changed_is = reverse-set items k scope changed e ∙ ap (λ (ns : List (ℕ × Slot A)). record { names = ns; around = scope.around } ∷ reverse e.front) names_are

      pub IsKept-last : (sums more : Counts) → more.cells ≡ counted (sums.cells + cells_of_slot slot) → more.qubits ≡ counted (sums.qubits + qubits_of_slot slot) → IsKey (texts p) key → IsKept (standing (reverse items)) sums → IsKept (standing (reverse (set items k changed))) more
      IsKept-last sums more cells_are qubits_are is_key kept =
          let before : IsKept (standing (scope ∷ reverse e.front)) sums = subst (λ (inner : List (Inner A)). IsKept (standing inner) sums) (reverse-ends items k scope e) kept in
          subst (λ (inner : List (Inner A)). IsKept (standing inner) more) (sym changed_is) (IsKept-inner key slot sums more cells_are qubits_are p is_key globals scope.names scope.around (reverse e.front) before)

      pub Stands-last : Stands p (Named (text_at (texts p) key) slot (scopes_of (standing (reverse items)))) (standing (reverse (set items k changed)))
      Stands-last = record {
        program = refl;
        scopes =
            ap (λ (inner : List (Inner A)). shown (texts p) globals inner) changed_is
            ∙ ap (λ (scopes : OpenScopes (Slot A)). Named (text_at (texts p) key) slot scopes) (sym (ap (λ (inner : List (Inner A)). shown (texts p) globals inner) (reverse-ends items k scope e)));
      }

    pub is_here-last : (key : ℕ) (sums : Counts) → IsKept (standing (reverse items)) sums → IsKey (texts p) key → is_here (text_at (texts p) key) (scopes_of (standing (reverse items))) ≡ is_some (lookup (nat_eq key) scope.names)
    is_here-last key sums kept is_key =
        let before : IsKept (standing (scope ∷ reverse e.front)) sums = subst (λ (inner : List (Inner A)). IsKept (standing inner) sums) (reverse-ends items k scope e) kept in
        ap (λ (inner : List (Inner A)). is_here (text_at (texts p) key) (shown (texts p) globals inner)) (reverse-ends items k scope e)
        ∙ is_here-inside (texts p) key is_key globals scope (reverse e.front) before.inner

-- the item at a place that was read
pub read_at : {X : Type 0} (xs : List X) (k : ℕ) (x : X) → suc k ≡ length xs → x ≡ get_or xs k x → Ends xs k x
read_at xs k x long is = ends xs k x long (slice_get-get_or xs k x (omega (arith, long)) ∙ ap Some (sym is))
