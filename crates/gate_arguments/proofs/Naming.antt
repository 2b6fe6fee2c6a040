-- What names mean in the scope of a body, by their numbers.
use Rattle.std.proofs.Common.{◌≡◌, ℕ, Bool, true, false, ◌&&◌, cond, nat_eq, List, [], ◌∷◌, ◌++◌, slice_get, filter_map, ℤ, pos, Option, Some, None, IsSome, refl, sym, ap, ◌∙◌}
use Rattle.std.specs.List.{cons_option}
use Rattle.std.specs.Map.{lookup}
use Rattle.std.specs.Option.{option_and_then, option_map, option_or, unwrap_or}
use Rattle.std.proofs.lemmas.Map.Made.{lookup-map_values}
use Rattle.qasm_ast.specs.declared.stmt.StmtId.{StmtId}
use Rattle.qasm_ast.specs.View.{number_of, text_in}
use Rattle.qasm_ast.specs.Whole.{Source}
use Rattle.qasm_types.specs.declared.ty.Ty.TheVariants as t
use Rattle.qasm_types.specs.Values.{Units}
use Rattle.scope_env.specs.Scopes.{find}
use Rattle.const_eval.specs.declared.environment.Callable.{Callable}
use Rattle.const_eval.specs.declared.environment.Callable.TheVariants as callable
use Rattle.const_eval.specs.Meaning.{Meaning, Running}
use Rattle.const_eval.specs.Seen.{MeaningInside, HeldInside, CalledInside, NothingInside, is_same_place}
use Rattle.gate_arguments.specs.declared.scope.Argument.{Argument}
use Rattle.gate_arguments.specs.declared.scope.Argument.TheVariants as kind
use Rattle.gate_arguments.specs.declared.scope.Body.{Body}
use Rattle.gate_arguments.specs.declared.scope.Given.{Given}
use Rattle.gate_arguments.specs.declared.scope.Given.TheVariants as gives
use Rattle.gate_lists.specs.Units.{word_of}
use Rattle.gate_arguments.specs.Scope.{meaning_around, called_around, turn_of}
use Rattle.gate_arguments.specs.Seen.{all_given, entry_around, meaning_of_argument, parameter_meaning, parameter_turn, parameter_units, scope_callables, scope_names, turn_in, turn_of_argument, units_in, units_of_argument}
use Rattle.gate_arguments.specs.Words.{word_of_word}

-- ---- look-ups

append_step : {X : Type 0} (t : Bool) (x : X) (r s o : Option X) → r ≡ option_or s o → cond t (Some x) r ≡ option_or (cond t (Some x) s) o
append_step true x r s o h = refl
append_step false x r s o h = h

pub lookup_append : {K X : Type 0} (test : K → Bool) (xs ys : List (K × X)) → lookup test (xs ++ ys) ≡ option_or (lookup test xs) (lookup test ys)
lookup_append test [] ys = refl
lookup_append test (e ∷ xs) ys = append_step (test e.0) e.1 (lookup test (xs ++ ys)) (lookup test xs) (lookup test ys) (lookup_append test xs ys)

find_all : (n : ℕ) (given : List (List (ℕ × Given))) → lookup (nat_eq n) (all_given given) ≡ find n given
find_all n [] = refl
find_all n (scope ∷ outer) = lookup_append (nat_eq n) scope (all_given outer) ∙ ap (option_or (lookup (nat_eq n) scope)) (find_all n outer)

module _ {A : Type 0} (f : MeaningInside → A) (n : ℕ) where
  found_step : (s : Bool) (x : MeaningInside) (rest : Option A) (r : Option MeaningInside) → rest ≡ option_map f r → cond s (Some (f x)) rest ≡ option_map f (cond s (Some x) r)
  found_step true x rest r h = refl
  found_step false x rest r h = h

  around_step : (t : Bool) (k : ℕ) (x : MeaningInside) (rest : List (ℕ × A)) (r : Option MeaningInside) → lookup (nat_eq n) rest ≡ option_map f r
      → lookup (nat_eq n) (cons_option (cond t (Some (k, f x)) None) rest) ≡ option_map f (cond (t && nat_eq n k) (Some x) r)
  around_step true k x rest r h = found_step (nat_eq n k) x (lookup (nat_eq n) rest) r h
  around_step false k x rest r h = h

  around_lookup : (def : StmtId) (inside : List ((ℕ × ℕ) × MeaningInside)) → lookup (nat_eq n) (filter_map (entry_around f def) inside) ≡ option_map f (lookup (is_same_place (def.0, n)) inside)
  around_lookup def [] = refl
  around_lookup def (e ∷ es) = around_step (nat_eq def.0 e.0.0) e.0.1 e.1 (filter_map (entry_around f def) es) (lookup (is_same_place (def.0, n)) es) (around_lookup def es)

-- what a name means in a body, and what it is where it is called
pub names_lookup : (names : List (ℕ × Meaning)) (inside : List ((ℕ × ℕ) × MeaningInside)) (b : Body) (n : ℕ)
    → lookup (nat_eq n) (scope_names names inside (Some b)) ≡ option_or (option_map (parameter_meaning b.arguments.now) (find n b.given)) (option_map meaning_around (lookup (is_same_place (b.def.0, n)) inside))
names_lookup names inside b n =
    lookup_append (nat_eq n) _ (filter_map (entry_around meaning_around b.def) inside)
    ∙ ap (λ o. option_or o (lookup (nat_eq n) (filter_map (entry_around meaning_around b.def) inside)))
    (lookup-map_values (parameter_meaning b.arguments.now) (nat_eq n) (all_given b.given) ∙ ap (option_map (parameter_meaning b.arguments.now)) (find_all n b.given))
    ∙ ap (option_or (option_map (parameter_meaning b.arguments.now) (find n b.given))) (around_lookup meaning_around n b.def inside)

pub callables_lookup : (callables : List (ℕ × Callable)) (inside : List ((ℕ × ℕ) × MeaningInside)) (b : Body) (n : ℕ)
    → lookup (nat_eq n) (scope_callables callables inside (Some b)) ≡ option_or (option_map (λ _. callable.Other) (find n b.given)) (option_map called_around (lookup (is_same_place (b.def.0, n)) inside))
callables_lookup callables inside b n =
    lookup_append (nat_eq n) _ (filter_map (entry_around called_around b.def) inside)
    ∙ ap (λ o. option_or o (lookup (nat_eq n) (filter_map (entry_around called_around b.def) inside)))
    (lookup-map_values (λ _. callable.Other) (nat_eq n) (all_given b.given) ∙ ap (option_map (λ _. callable.Other)) (find_all n b.given))
    ∙ ap (option_or (option_map (λ _. callable.Other) (find n b.given))) (around_lookup called_around n b.def inside)

-- ---- run-time parameters

not_running : (m : MeaningInside) → meaning_around m ≡ Running → ⊥
not_running (HeldInside c) e = cc
not_running (CalledInside (callable.Row g)) e = cc
not_running (CalledInside (callable.Defined d)) e = cc
not_running (CalledInside callable.Other) e = cc
not_running (CalledInside callable.Unknown) e = cc
not_running NothingInside e = cc

running_around : (r : Option MeaningInside) → option_map meaning_around r ≡ Some Running → ⊥
running_around None e = cc
running_around (Some m) e = not_running m cc

running_argument : (a : Option Argument) → meaning_of_argument a ≡ Running → (t : ℕ) × (turn_of_argument a ≡ Some t)
running_argument None e = absurd cc
running_argument (Some (kind.Constant c)) e = absurd cc
running_argument (Some (kind.Turn t)) e = (t, refl)

running_given : (arguments : List Argument) (found : Option Given) (r : Option MeaningInside) → option_or (option_map (parameter_meaning arguments) found) (option_map meaning_around r) ≡ Some Running
    → (t : ℕ) × (option_and_then (parameter_turn arguments) found ≡ Some t)
running_given arguments None r e = absurd (running_around r e)
running_given arguments (Some (gives.Qubit q)) r e = absurd cc
running_given arguments (Some (gives.Argument k)) r e = running_argument (slice_get arguments k) cc

-- a name of a run-time value in a body is a parameter that is given a turn
pub running_turn : (names : List (ℕ × Meaning)) (inside : List ((ℕ × ℕ) × MeaningInside)) (b : Body) (n : ℕ) → lookup (nat_eq n) (scope_names names inside (Some b)) ≡ Some Running → (t : ℕ) × (turn_in (Some b) n ≡ Some t)
running_turn names inside b n e = running_given b.arguments.now (find n b.given) (lookup (is_same_place (b.def.0, n)) inside) (sym (names_lookup names inside b n) ∙ e)

-- it has the units of that turn

turn_of_word : (z : ℤ) → turn_of (word_of z) ≡ turn_of z
turn_of_word z = ap (λ (w : ℤ). record { type = t.Turn; value = Units w }) (word_of_word z)

units_of_turn_argument : (worths : ℕ → ℤ) (a : Option Argument) (k : ℕ) → turn_of_argument a ≡ Some k → turn_of (units_of_argument worths a) ≡ turn_of (worths k)
units_of_turn_argument worths None k e = absurd cc
units_of_turn_argument worths (Some (kind.Constant c)) k e = absurd cc
units_of_turn_argument worths (Some (kind.Turn j)) k e = let same : j ≡ k = cc in turn_of_word (worths j) ∙ ap (λ i. turn_of (worths i)) same

units_of_given : (worths : ℕ → ℤ) (arguments : List Argument) (found : Option Given) (k : ℕ) → option_and_then (parameter_turn arguments) found ≡ Some k
    → turn_of (unwrap_or (option_map (parameter_units worths arguments) found) (pos 0)) ≡ turn_of (worths k)
units_of_given worths arguments None k e = absurd cc
units_of_given worths arguments (Some (gives.Qubit q)) k e = absurd cc
units_of_given worths arguments (Some (gives.Argument j)) k e = units_of_turn_argument worths (slice_get arguments j) k e

pub units_of_turn : (p : Source) (worths : ℕ → ℤ) (body : Option Body) (n k : ℕ) → number_of p.names (text_in p n) ≡ Some n → turn_in body n ≡ Some k → turn_of (units_in p worths body (text_in p n)) ≡ turn_of (worths k)
units_of_turn p worths None n k e h = absurd cc
units_of_turn p worths (Some b) n k e h =
    ap (λ o. turn_of (unwrap_or (option_map (parameter_units worths b.arguments.now) (option_and_then (λ i. find i b.given) o)) (pos 0))) e
    ∙ units_of_given worths b.arguments.now (find n b.given) k h

-- ---- the same, where the scope is that of a body

pub names_of_body : (names : List (ℕ × Meaning)) (inside : List ((ℕ × ℕ) × MeaningInside)) (o : Option Body) (b : Body) (n : ℕ) → o ≡ Some b
    → lookup (nat_eq n) (scope_names names inside o) ≡ option_or (option_map (parameter_meaning b.arguments.now) (find n b.given)) (option_map meaning_around (lookup (is_same_place (b.def.0, n)) inside))
names_of_body names inside o b n e = ap (λ (x : Option Body). lookup (nat_eq n) (scope_names names inside x)) e ∙ names_lookup names inside b n

pub callables_of_body : (callables : List (ℕ × Callable)) (inside : List ((ℕ × ℕ) × MeaningInside)) (o : Option Body) (b : Body) (n : ℕ) → o ≡ Some b
    → lookup (nat_eq n) (scope_callables callables inside o) ≡ option_or (option_map (λ _. callable.Other) (find n b.given)) (option_map called_around (lookup (is_same_place (b.def.0, n)) inside))
callables_of_body callables inside o b n e = ap (λ (x : Option Body). lookup (nat_eq n) (scope_callables callables inside x)) e ∙ callables_lookup callables inside b n

pub turn_of_running : (names : List (ℕ × Meaning)) (inside : List ((ℕ × ℕ) × MeaningInside)) (o : Option Body) (n : ℕ) → IsSome o → lookup (nat_eq n) (scope_names names inside o) ≡ Some Running → (t : ℕ) × (turn_in o n ≡ Some t)
turn_of_running names inside None n some e = absurd cc
turn_of_running names inside (Some b) n some e = running_turn names inside b n e

-- ---- a parameter first, and else what is around

module _ {A : Type 0} (given : Given → A) (around : MeaningInside → A) where
  pub asked_around : (o : Option Given) (r : Option MeaningInside) → None ≡ o → IsSome (option_or (option_map given o) (option_map around r)) → IsSome r
  asked_around None None e h = absurd cc
  asked_around None (Some m) e h = refl
  asked_around (Some x) r e h = absurd cc

  pub given_first : (o : Option Given) (r : Option MeaningInside) (x : Given) → Some x ≡ o → option_or (option_map given o) (option_map around r) ≡ Some (given x)
  given_first None r x e = absurd cc
  given_first (Some y) r x e = ap (λ (z : Given). Some (given z)) cc

  pub around_last : (o : Option Given) (r : Option MeaningInside) (m : MeaningInside) → None ≡ o → r ≡ Some m → option_or (option_map given o) (option_map around r) ≡ Some (around m)
  around_last None r m e h = ap (option_map around) h
  around_last (Some y) r m e h = absurd cc
