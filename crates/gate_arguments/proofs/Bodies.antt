-- The scope of the body of a gate: the code's, where names are numbers, is that of the definition, where they are texts.
use Rattle.std.proofs.Common.{◌≡◌, ℕ, suc, ◌+◌, ◌<◌, Bool, true, false, cond, nat_eq, List, [], ◌∷◌, ◌++◌, length, map, slice_get, All, ℤ, pos, Option, Some, None, Result, Ok, refl, sym, ap, subst, ◌∙◌, arith}
use Rattle.std.specs.List.{range_with_len, zip}
use Rattle.std.specs.Map.{lookup}
use Rattle.std.specs.Option.{option_and_then, option_map, option_or, unwrap_or}
use Rattle.std.specs.Str.{bytes_eq}
use Rattle.std.proofs.lemmas.List.Elements.{All-head, All-tail}
use Rattle.qq_base.specs.declared.refusal.Refusal.{Refusal}
use Rattle.qq_base.specs.declared.rule.Rule.{Rule}
use Rattle.qq_base.specs.declared.run.QubitId.{QubitId}
use Rattle.qasm_ast.specs.declared.expr.OperandName.{OperandName}
use Rattle.qasm_ast.specs.declared.stmt.Declared.{Declared}
use Rattle.qasm_ast.specs.declared.stmt.StmtId.{StmtId}
use Rattle.qasm_ast.specs.Tree.{Called, word, qubit, Name}
use Rattle.qasm_ast.specs.View.{name_in, number_of, text_in}
use Rattle.qasm_ast.specs.Whole.{DeclaredFits, IsProgram, Source}
use Rattle.qasm_types.specs.Values as value
use Rattle.alias_resolve.specs.Places.{Selected}
use Rattle.scope_env.specs.Scopes.{find}
use Rattle.const_eval.specs.declared.constant.Const.{Const}
use Rattle.const_eval.specs.declared.constant.Const.TheVariants as c
use Rattle.const_eval.specs.declared.environment.Callable.{Callable}
use Rattle.const_eval.specs.declared.environment.Callable.TheVariants as callable
use Rattle.const_eval.specs.Constant.{Constant}
use Rattle.const_eval.specs.Meaning.{Meaning, Nothing}
use Rattle.const_eval.specs.Refusing.{go_on}
use Rattle.const_eval.specs.Seen.{MeaningInside, NothingInside, is_same_place}
use Rattle.gate_arguments.specs.declared.scope.Argument.{Argument}
use Rattle.gate_arguments.specs.declared.scope.Argument.TheVariants as kind
use Rattle.gate_arguments.specs.declared.scope.Body.{Body}
use Rattle.gate_arguments.specs.declared.scope.Given.{Given}
use Rattle.gate_arguments.specs.declared.scope.Given.TheVariants as gives
use Rattle.gate_arguments.specs.Environment.{declarations_in, inside_in}
use Rattle.gate_arguments.specs.Scope as spec
use Rattle.gate_arguments.specs.Seen.{argument_seen, arguments_seen, entered, meaning_of_argument, parameter_meaning, parameter_qubits, parameter_units, qubits_by, scope_callables, scope_names, scope_seen, units_of_argument}
use Rattle.gate_arguments.proofs.Entered.{differ, found_entered, number_of_name, values_count}
use Rattle.gate_arguments.proofs.Naming.{callables_lookup, lookup_append, names_lookup}
use Rattle.gate_arguments.proofs.Texts.{named, unnamed}

-- ---- what a parameter is given, in the code and in the definition

module _ (worths : ℕ → ℤ) (arguments : List Argument) where
  abbrev pub SeenAs : Option Given → Option spec.Given → Type 0
  SeenAs None None = Unit {0}
  SeenAs (Some (gives.Argument k)) (Some (spec.Argument v)) = (a : Argument) × (slice_get arguments k ≡ Some a) × (v ≡ argument_seen worths a)
  SeenAs (Some (gives.Qubit q)) (Some (spec.Qubit r)) = q ≡ r
  SeenAs _ _ = ⊥

  seen_step : (t u : Bool) (v : Given) (w : spec.Given) (g : Option Given) (s : Option spec.Given) → u ≡ t → SeenAs (Some v) (Some w) → SeenAs g s → SeenAs (cond t (Some v) g) (cond u (Some w) s)
  seen_step true u v w g s e first rest = subst (λ (b : Bool). SeenAs (Some v) (cond b (Some w) s)) (sym e) first
  seen_step false u v w g s e first rest = subst (λ (b : Bool). SeenAs g (cond b (Some w) s)) (sym e) rest

  -- ---- what is made of it

  means_constant : (v : Const) → meaning_of_argument (Some (kind.Constant v)) ≡ spec.meaning_given (spec.Argument (argument_seen worths (kind.Constant v)))
  means_constant (c.Whole w) = refl
  means_constant (c.Pi f) = refl
  means_constant (c.Bool b) = refl
  means_constant (c.Bits bits) = refl
  means_constant (c.Angle a) = refl

  means_argument : (a : Argument) → meaning_of_argument (Some a) ≡ spec.meaning_given (spec.Argument (argument_seen worths a))
  means_argument (kind.Constant v) = means_constant v
  means_argument (kind.Turn k) = refl

  means_step : (g : Option Given) (s : Option spec.Given) (r : Option MeaningInside) → SeenAs g s
      → unwrap_or (option_or (option_map (parameter_meaning arguments) g) (option_map spec.meaning_around r)) Nothing ≡ spec.parameter_or spec.meaning_given s (spec.meaning_around (unwrap_or r NothingInside))
  means_step None None None seen = refl
  means_step None None (Some m) seen = refl
  means_step (Some (gives.Argument k)) (Some (spec.Argument v)) r seen = ap meaning_of_argument seen.1 ∙ means_argument seen.0 ∙ ap (λ (x : Constant). spec.meaning_given (spec.Argument x)) (sym seen.2)
  means_step (Some (gives.Qubit q)) (Some (spec.Qubit p)) r seen = refl
  means_step None (Some (spec.Argument v)) r seen = absurd seen
  means_step None (Some (spec.Qubit p)) r seen = absurd seen
  means_step (Some (gives.Argument k)) None r seen = absurd seen
  means_step (Some (gives.Qubit q)) None r seen = absurd seen
  means_step (Some (gives.Argument k)) (Some (spec.Qubit p)) r seen = absurd seen
  means_step (Some (gives.Qubit q)) (Some (spec.Argument v)) r seen = absurd seen

  units_step : (g : Option Given) (s : Option spec.Given) → SeenAs g s → unwrap_or (option_map (parameter_units worths arguments) g) (pos 0) ≡ spec.parameter_or spec.units_given s (pos 0)
  units_step None None seen = refl
  units_step (Some (gives.Argument k)) (Some (spec.Argument v)) seen = ap (units_of_argument worths) seen.1 ∙ ap (λ (x : Constant). value.number_of x.value) (sym seen.2)
  units_step (Some (gives.Qubit q)) (Some (spec.Qubit p)) seen = refl
  units_step None (Some (spec.Argument v)) seen = absurd seen
  units_step None (Some (spec.Qubit p)) seen = absurd seen
  units_step (Some (gives.Argument k)) None seen = absurd seen
  units_step (Some (gives.Qubit q)) None seen = absurd seen
  units_step (Some (gives.Argument k)) (Some (spec.Qubit p)) seen = absurd seen
  units_step (Some (gives.Qubit q)) (Some (spec.Argument v)) seen = absurd seen

  called_step : (g : Option Given) (s : Option spec.Given) (r : Option MeaningInside) → SeenAs g s
      → unwrap_or (option_or (option_map (λ _. callable.Other) g) (option_map spec.called_around r)) callable.Unknown ≡ spec.parameter_or (λ _. callable.Other) s (spec.called_around (unwrap_or r NothingInside))
  called_step None None None seen = refl
  called_step None None (Some m) seen = refl
  called_step (Some (gives.Argument k)) (Some (spec.Argument v)) r seen = refl
  called_step (Some (gives.Qubit q)) (Some (spec.Qubit p)) r seen = refl
  called_step None (Some (spec.Argument v)) r seen = absurd seen
  called_step None (Some (spec.Qubit p)) r seen = absurd seen
  called_step (Some (gives.Argument k)) None r seen = absurd seen
  called_step (Some (gives.Qubit q)) None r seen = absurd seen
  called_step (Some (gives.Argument k)) (Some (spec.Qubit p)) r seen = absurd seen
  called_step (Some (gives.Qubit q)) (Some (spec.Argument v)) r seen = absurd seen

  qubits_step : (g : Option Given) (s : Option spec.Given) (m : MeaningInside) → SeenAs g s → unwrap_or (option_map parameter_qubits g) (spec.qubits_around m) ≡ spec.parameter_or spec.qubits_given s (spec.qubits_around m)
  qubits_step None None m seen = refl
  qubits_step (Some (gives.Argument k)) (Some (spec.Argument v)) m seen = refl
  qubits_step (Some (gives.Qubit q)) (Some (spec.Qubit p)) m seen = ap (λ (x : QubitId). spec.qubits_given (spec.Qubit x)) seen
  qubits_step None (Some (spec.Argument v)) m seen = absurd seen
  qubits_step None (Some (spec.Qubit p)) m seen = absurd seen
  qubits_step (Some (gives.Argument k)) None m seen = absurd seen
  qubits_step (Some (gives.Qubit q)) None m seen = absurd seen
  qubits_step (Some (gives.Argument k)) (Some (spec.Qubit p)) m seen = absurd seen
  qubits_step (Some (gives.Qubit q)) (Some (spec.Argument v)) m seen = absurd seen

-- ---- look-ups

abbrev text_of : Name → List ℕ
text_of name = name.text

module _ (p : Source) where
  abbrev pub Fits : Declared → Type 0
  Fits d = DeclaredFits (length p.names) d

  module _ (text : List ℕ) (n : ℕ) (same : (b : ℕ) → b < length p.names → bytes_eq text (text_in p b) ≡ nat_eq n b) (worths : ℕ → ℤ) (arguments : List Argument) where
    qubits_found : (ds : List Declared) (qs : List QubitId) → All Fits ds
        → SeenAs worths arguments (lookup (nat_eq n) (zip (map number_of_name ds) (map gives.Qubit qs))) (lookup (bytes_eq text) (zip (map text_of (map (name_in p) ds)) (map spec.Qubit qs)))
    qubits_found [] qs fit = tt
    qubits_found (d ∷ ds) [] fit = tt
    qubits_found (d ∷ ds) (q ∷ qs) fit =
        seen_step worths arguments (nat_eq n d.name) (bytes_eq text (text_in p d.name)) (gives.Qubit q) (spec.Qubit q) _ _ (same d.name (All-head Fits d ds fit)) refl (qubits_found ds qs (All-tail Fits d ds fit))

    -- the arguments from a place on, and then the qubits
    names_found : (from : ℕ) (ds es : List Declared) (given : List Argument) (qs : List QubitId) → length given ≡ length ds → ((k : ℕ) (a : Argument) → slice_get given k ≡ Some a → slice_get arguments (from + k) ≡ Some a) → All Fits ds → All Fits es
        → SeenAs worths arguments
        (lookup (nat_eq n) (zip (map number_of_name (ds ++ es)) (map gives.Argument (range_with_len from (length given)) ++ map gives.Qubit qs)))
        (lookup (bytes_eq text) (zip (map text_of (map (name_in p) ds)) (map spec.Argument (arguments_seen worths given)) ++ zip (map text_of (map (name_in p) es)) (map spec.Qubit qs)))
    names_found from [] es [] qs count got fit fits = qubits_found es qs fits
    names_found from [] es (a ∷ given) qs count got fit fits = absurd (omega arith)
    names_found from (d ∷ ds) es [] qs count got fit fits = absurd (omega arith)
    names_found from (d ∷ ds) es (a ∷ given) qs count got fit fits =
        let here : slice_get arguments from ≡ Some a = let zero_more : from ≡ from + 0 = omega arith in ap (slice_get arguments) zero_more ∙ got 0 a refl in
        let more : (k : ℕ) (b : Argument) → slice_get given k ≡ Some b → slice_get arguments (from + 1 + k) ≡ Some b =
        λ k b e. let moved : from + 1 + k ≡ from + suc k = omega arith in ap (slice_get arguments) moved ∙ got (suc k) b e in
        seen_step worths arguments (nat_eq n d.name) (bytes_eq text (text_in p d.name)) (gives.Argument from) (spec.Argument (argument_seen worths a)) _ _ (same d.name (All-head Fits d ds fit)) (a, here, refl)
        (names_found (from + 1) ds es given qs (omega arith) more (All-tail Fits d ds fit) fits)

  -- a text that is no name is no parameter
  module _ (text : List ℕ) (other : (b : ℕ) → b < length p.names → bytes_eq text (text_in p b) ≡ false) where
    other_step : (t : Bool) (v : spec.Given) (r : Option spec.Given) → t ≡ false → r ≡ None → cond t (Some v) r ≡ None
    other_step true v r e none = absurd cc
    other_step false v r e none = none

    nothing_found : (ds : List Declared) (vs : List spec.Given) → All Fits ds → lookup (bytes_eq text) (zip (map text_of (map (name_in p) ds)) vs) ≡ None
    nothing_found [] vs fit = refl
    nothing_found (d ∷ ds) [] fit = refl
    nothing_found (d ∷ ds) (v ∷ vs) fit = other_step (bytes_eq text (text_in p d.name)) v _ (other d.name (All-head Fits d ds fit)) (nothing_found ds vs (All-tail Fits d ds fit))

-- ---- the scope

module _ (p : Source) (worths : ℕ → ℤ) (b : Body) (given : List (List ℕ × spec.Given)) where
  -- a name finds what its text finds
  abbrev pub StandsFor : List ℕ → Option ℕ → Type 0
  StandsFor text None = spec.parameter given text ≡ None
  StandsFor text (Some n) = SeenAs worths b.arguments.now (find n b.given) (spec.parameter given text)

  abbrev pub Stands : Type 0
  Stands = (text : List ℕ) → StandsFor text (number_of p.names text)

  module _ (inside : List ((ℕ × ℕ) × MeaningInside)) where
    abbrev inside_by : Option ℕ → MeaningInside
    inside_by o = unwrap_or (option_and_then (λ n. lookup (is_same_place (b.def.0, n)) inside) o) NothingInside

    means_same : (names : List (ℕ × Meaning)) (text : List ℕ) (o : Option ℕ) → StandsFor text o
        → unwrap_or (option_and_then (λ n. lookup (nat_eq n) (scope_names names inside (Some b))) o) Nothing ≡ spec.parameter_or spec.meaning_given (spec.parameter given text) (spec.meaning_around (inside_by o))
    means_same names text None none = ap (λ (s : Option spec.Given). spec.parameter_or spec.meaning_given s Nothing) (sym none)
    means_same names text (Some n) seen =
        ap (λ (r : Option Meaning). unwrap_or r Nothing) (names_lookup names inside b n)
        ∙ means_step worths b.arguments.now (find n b.given) (spec.parameter given text) (lookup (is_same_place (b.def.0, n)) inside) seen

    called_same : (callables : List (ℕ × Callable)) (text : List ℕ) (o : Option ℕ) → StandsFor text o
        → unwrap_or (option_and_then (λ n. lookup (nat_eq n) (scope_callables callables inside (Some b))) o) callable.Unknown ≡ spec.parameter_or (λ _. callable.Other) (spec.parameter given text) (spec.called_around (inside_by o))
    called_same callables text None none = ap (λ (s : Option spec.Given). spec.parameter_or (λ _. callable.Other) s callable.Unknown) (sym none)
    called_same callables text (Some n) seen =
        ap (λ (r : Option Callable). unwrap_or r callable.Unknown) (callables_lookup callables inside b n)
        ∙ called_step worths b.arguments.now (find n b.given) (spec.parameter given text) (lookup (is_same_place (b.def.0, n)) inside) seen

    units_same : (text : List ℕ) (o : Option ℕ) → StandsFor text o
        → unwrap_or (option_map (parameter_units worths b.arguments.now) (option_and_then (λ n. find n b.given) o)) (pos 0) ≡ spec.parameter_or spec.units_given (spec.parameter given text) (pos 0)
    units_same text None none = ap (λ (s : Option spec.Given). spec.parameter_or spec.units_given s (pos 0)) (sym none)
    units_same text (Some n) seen = units_step worths b.arguments.now (find n b.given) (spec.parameter given text) seen

    qubits_same : (text : List ℕ) (o : Option ℕ) → StandsFor text o
        → unwrap_or (option_map parameter_qubits (option_and_then (λ n. find n b.given) o)) (spec.qubits_around (inside_by o)) ≡ spec.parameter_or spec.qubits_given (spec.parameter given text) (spec.qubits_around (inside_by o))
    qubits_same text None none = ap (λ (s : Option spec.Given). spec.parameter_or spec.qubits_given s (spec.qubits_around NothingInside)) (sym none)
    qubits_same text (Some n) seen = qubits_step worths b.arguments.now (find n b.given) (spec.parameter given text) (inside_by (Some n)) seen

    operands_same : Stands → (called : Called) → qubits_by p inside b called ≡ spec.body_qubits given (inside_in p inside b.def) called
    operands_same stands (word text) = qubits_same text (number_of p.names text) (stands text)
    operands_same stands (qubit n) = refl

    module _ (names : List (ℕ × Meaning)) (callables : List (ℕ × Callable)) (operands : List (OperandName × Result (Selected QubitId) Rule)) where
      pub scope_same : Stands → scope_seen p worths names callables operands inside (Some b) ≡ spec.body_scope (declarations_in p inside) b.callers.items b.def given
      scope_same stands = λ i. record {
        means = λ (text : List ℕ). means_same names text (number_of p.names text) (stands text) i;
        units = λ (text : List ℕ). units_same text (number_of p.names text) (stands text) i;
        called = λ (text : List ℕ). called_same callables text (number_of p.names text) (stands text) i;
        qubits = λ (called : Called). operands_same stands called i;
        open_gates = b.def ∷ b.callers.items;
      }

-- ---- the names of a body that are entered

module _ (p : Source) (whole : IsProgram p) (worths : ℕ → ℤ) (b : Body) (ds es : List Declared) (qs : List QubitId) (count : length b.arguments.now ≡ length ds) (fit : All (Fits p) ds) (fits : All (Fits p) es)
    (is : entered ([] ∷ []) (ds ++ es) (map gives.Argument (range_with_len 0 (length b.arguments.now)) ++ map gives.Qubit qs) ≡ Ok b.given) where
  abbrev pub given_names : List (List ℕ × spec.Given)
  given_names = spec.given_to (map (name_in p) ds) (arguments_seen worths b.arguments.now) (map (name_in p) es) qs

  stands_for : (text : List ℕ) (o : Option ℕ) → number_of p.names text ≡ o → StandsFor p worths b given_names text o
  stands_for text None e =
      let arguments = zip (map text_of (map (name_in p) ds)) (map spec.Argument (arguments_seen worths b.arguments.now)) in
      let qubits = zip (map text_of (map (name_in p) es)) (map spec.Qubit qs) in
      let other : (k : ℕ) → k < length p.names → bytes_eq text (text_in p k) ≡ false = λ k lt. unnamed p whole text k e lt in
      lookup_append (bytes_eq text) arguments qubits
      ∙ ap (λ (x : Option spec.Given). option_or x (lookup (bytes_eq text) qubits)) (nothing_found p text other ds (map spec.Argument (arguments_seen worths b.arguments.now)) fit)
      ∙ nothing_found p text other es (map spec.Qubit qs) fits
  stands_for text (Some n) e =
      let values = map gives.Argument (range_with_len 0 (length b.arguments.now)) ++ map gives.Qubit qs in
      let same : (k : ℕ) → k < length p.names → bytes_eq text (text_in p k) ≡ nat_eq n k = λ k lt. named p whole text n k e lt in
      let got : (k : ℕ) (a : Argument) → slice_get b.arguments.now k ≡ Some a → slice_get b.arguments.now (0 + k) ≡ Some a =
      λ k a g. let moved : 0 + k ≡ k = omega arith in ap (slice_get b.arguments.now) moved ∙ g in
      subst (λ (g : Option Given). SeenAs worths b.arguments.now g (spec.parameter given_names text)) (sym (found_entered n [] (ds ++ es) values b.given is))
      (names_found p text n same worths b.arguments.now 0 ds es b.arguments.now qs count got fit fits)

  pub body_seen : (names : List (ℕ × Meaning)) (callables : List (ℕ × Callable)) (operands : List (OperandName × Result (Selected QubitId) Rule)) (inside : List ((ℕ × ℕ) × MeaningInside)) (open_gates : List StmtId) → b.callers.items ≡ open_gates
      → scope_seen p worths names callables operands inside (Some b) ≡ spec.body_scope (declarations_in p inside) open_gates b.def given_names
  body_seen names callables operands inside open_gates e =
      scope_same p worths b given_names inside names callables operands (λ text. stands_for text (number_of p.names text) refl)
      ∙ ap (λ (gates : List StmtId). spec.body_scope (declarations_in p inside) gates b.def given_names) e

  -- the answer where all names are entered
  pub body_answer : (counted : length qs ≡ length es) (names : List (ℕ × Meaning)) (callables : List (ℕ × Callable)) (operands : List (OperandName × Result (Selected QubitId) Rule)) (inside : List ((ℕ × ℕ) × MeaningInside)) (open_gates : List StmtId) → b.callers.items ≡ open_gates
      → go_on (spec.names_differ [] (map (name_in p) ds ++ map (name_in p) es)) (λ _. Ok (spec.body_scope (declarations_in p inside) open_gates b.def given_names)) ≡ Ok (scope_seen p worths names callables operands inside (Some b))
  body_answer counted names callables operands inside open_gates e =
      let values = map gives.Argument (range_with_len 0 (length b.arguments.now)) ++ map gives.Qubit qs in
      ap (λ (r : Result (Unit {0}) Refusal). go_on r (λ _. Ok (spec.body_scope (declarations_in p inside) open_gates b.def given_names)))
      (differ p whole ds es values (values_count (length b.arguments.now) qs ds es count counted) fit fits b.given is)
      ∙ ap Ok (sym (body_seen names callables operands inside open_gates e))
