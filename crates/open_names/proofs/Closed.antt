-- Open names whose innermost scope is closed.
use Rattle.std.proofs.Common.{◌≡◌, ℕ, true, false, List, [], ◌∷◌, ◌++◌, reverse, refl, sym, ap, ◌∙◌, subst}
use Rattle.std.proofs.lemmas.List.{reverse-append}
use Rattle.std.proofs.lemmas.Bool.{false≢true}
use Rattle.qasm_ast.specs.Whole.{Source}
use Rattle.scope_env.specs.OpenScopes.{close}
use Rattle.open_names.specs.declared.slot.Slot.{Slot}
use Rattle.open_names.specs.declared.counts.Counts.{Counts}
use Rattle.open_names.specs.declared.names.Inner.{Inner}
use Rattle.open_names.specs.Standing.{Standing, Stands, scopes_of, is_top}
use Rattle.open_names.specs.Keeping.{IsKept}
use Rattle.open_names.proofs.Kept.{IsKept-closed, Stands-closed, is_top-globals}

module _ {A : Type 0} (p : Source) (globals : List (ℕ × Slot A)) (items rest : List (Inner A)) (scope : Inner A) (last : items ≡ rest ++ scope ∷ []) where
  abbrev standing : List (Inner A) → Standing A
  standing inner = record { program = p; globals = globals; inner = inner }

  turned : reverse items ≡ scope ∷ reverse rest
  turned = rw (last, reverse-append rest (scope ∷ [])) refl

  pub IsKept-rest : (sums : Counts) → IsKept (standing (reverse items)) sums → IsKept (standing (reverse rest)) scope.around
  IsKept-rest sums kept = IsKept-closed p globals scope (reverse rest) sums (subst (λ (inner : List (Inner A)). IsKept (standing inner) sums) turned kept)

  pub Stands-rest : (v : Standing A) → standing (reverse items) ≡ v → Stands v.program (close (scopes_of v)) (standing (reverse rest))
  Stands-rest v is =
      subst (λ (u : Standing A). Stands u.program (close (scopes_of u)) (standing (reverse rest))) (ap standing (sym turned) ∙ is) (Stands-closed p globals scope (reverse rest))

-- where the global scope is the only one, it is not asked to be closed
pub is_top-only : {A : Type 0} (s v : Standing A) → s ≡ v → s.inner ≡ [] → is_top (scopes_of v) ≡ false → ⊥
is_top-only {A} s v is only within = false≢true (sym within ∙ subst (λ (u : Standing A). is_top (scopes_of u) ≡ true) is (is_top-globals s only))
