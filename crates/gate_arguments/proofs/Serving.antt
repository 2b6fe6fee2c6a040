-- What is asked of an environment holds in the body of a gate that is defined.
use Rattle.std.proofs.Common.{ℕ, List, slice_get, Option, Some, None, IsSome, refl, sym, subst}
use Rattle.std.specs.Prelude.{IsSomeAnd}
use Rattle.std.specs.Map.{lookup}
use Rattle.std.specs.Option.{option_map, option_or}
use Rattle.qasm_ast.specs.Whole.{Source}
use Rattle.scope_env.specs.Scopes.{find}
use Rattle.const_eval.specs.declared.environment.Callable.{Callable}
use Rattle.const_eval.specs.declared.environment.Callable.TheVariants as callable
use Rattle.const_eval.specs.Meaning.{Meaning}
use Rattle.const_eval.specs.Seen.{CalledInside, HasNames, HeldInside, MeaningInside, NothingInside, is_same_place}
use Rattle.gate_arguments.specs.declared.scope.Body.{Body}
use Rattle.gate_arguments.specs.declared.scope.Given.{Given}
use Rattle.gate_arguments.specs.Answering.{CallableFits, HasCallables, HasInside, InsideFits, IsDefinition}
use Rattle.gate_arguments.specs.Scope.{called_around, meaning_around}
use Rattle.gate_arguments.specs.Seen.{parameter_meaning, scope_callables, scope_names}
use Rattle.gate_arguments.proofs.Naming.{callables_lookup, names_lookup}

pub there : {A : Type 0} (P : A → Type 0) (r : Option A) → IsSomeAnd r P → IsSome r
there P None h = absurd h
there P (Some a) h = refl

either : {A : Type 0} (given : Given → A) (around : MeaningInside → A) (g : Option Given) (r : Option MeaningInside) → IsSome r → IsSome (option_or (option_map given g) (option_map around r))
either given around (Some x) r h = refl
either given around None (Some m) h = refl
either given around None None h = h

module _ (p : Source) where
  fits_around : (m : MeaningInside) → InsideFits p m → CallableFits p (called_around m)
  fits_around (HeldInside v) h = tt
  fits_around (CalledInside r) h = h
  fits_around NothingInside h = tt

  fits_either : (g : Option Given) (r : Option MeaningInside) → IsSomeAnd r (InsideFits p) → IsSomeAnd (option_or (option_map (λ _. callable.Other) g) (option_map called_around r)) (CallableFits p)
  fits_either (Some x) r h = tt
  fits_either None (Some m) h = fits_around m h
  fits_either None None h = absurd h

  module _ (inside : List ((ℕ × ℕ) × MeaningInside)) (has : HasInside p inside) (b : Body) (defined : IsDefinition (slice_get p.stmts b.def.0)) where
    pub body_names : (names : List (ℕ × Meaning)) → HasNames p (scope_names names inside (Some b))
    body_names names n lt =
        subst (λ (r : Option Meaning). IsSome r) (sym (names_lookup names inside b n))
        (either (parameter_meaning b.arguments.now) meaning_around (find n b.given) (lookup (is_same_place (b.def.0, n)) inside) (there (InsideFits p) (lookup (is_same_place (b.def.0, n)) inside) (has b.def.0 n defined lt)))

    pub body_callables : (callables : List (ℕ × Callable)) → HasCallables p (scope_callables callables inside (Some b))
    body_callables callables n lt =
        subst (λ (r : Option Callable). IsSomeAnd r (CallableFits p)) (sym (callables_lookup callables inside b n))
        (fits_either (find n b.given) (lookup (is_same_place (b.def.0, n)) inside) (has b.def.0 n defined lt))
