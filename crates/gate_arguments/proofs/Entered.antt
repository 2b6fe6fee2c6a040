-- Names that are entered with what they are given: by their numbers, and by their texts.
use Rattle.std.proofs.Common.{◌≡◌, ℕ, zero, suc, ◌+◌, ◌<◌, Bool, true, false, not, ◌||◌, cond, nat_eq, List, [], ◌∷◌, ◌++◌, length, map, All, Option, Some, None, Result, Ok, Err, refl, sym, ap, subst, ◌∙◌, arith}
use Rattle.std.specs.Prelude.{is_some}
use Rattle.std.specs.List.{list_any, range_with_len, zip}
use Rattle.std.specs.Map.{lookup}
use Rattle.std.specs.Option.{option_or}
use Rattle.std.specs.Str.{bytes_eq}
use Rattle.std.proofs.lemmas.Bool.{eqb-true}
use Rattle.std.proofs.lemmas.List.{length-append, length-map, map-append}
use Rattle.std.proofs.lemmas.List.Elements.{All-append, All-cons, All-head, All-nil, All-tail}
use Rattle.qq_base.specs.declared.refusal.Fault.{Fault}
use Rattle.qq_base.specs.declared.refusal.Fault.TheVariants as fault
use Rattle.qq_base.specs.declared.refusal.Refusal.{Refusal}
use Rattle.qq_base.specs.declared.refusal.Span.{Span}
use Rattle.qq_base.specs.declared.rule.Rule.{Rule}
use Rattle.qq_base.specs.declared.rule.Rule.TheVariants.{Redeclared}
use Rattle.qq_base.specs.declared.run.QubitId.{QubitId}
use Rattle.qasm_ast.specs.declared.stmt.Declared.{Declared}
use Rattle.qasm_ast.specs.View.{name_in, text_in}
use Rattle.qasm_ast.specs.Whole.{DeclaredFits, IsProgram, Source}
use Rattle.scope_env.specs.Scopes.{declare, find, is_declared}
use Rattle.const_eval.specs.Answers.{Fails}
use Rattle.const_eval.specs.Refusing.{go_on, where_allowed}
use Rattle.gate_arguments.specs.declared.scope.Given.{Given}
use Rattle.gate_arguments.specs.declared.scope.Given.TheVariants as gives
use Rattle.gate_arguments.specs.Scope.{names_differ}
use Rattle.gate_arguments.specs.Seen.{entered}
use Rattle.gate_arguments.proofs.Texts.{same_names}

-- ---- answers that may be refused

where_step : {A B : Type 0} (t : Bool) (rule : Rule) (place : Span) (r : Result A Refusal) (f : A → Result B Refusal) (x : Result B Refusal) → x ≡ go_on r f → where_allowed t rule place x ≡ go_on (where_allowed t rule place r) f
where_step true rule place r f x e = e
where_step false rule place r f x e = refl

allowed_parts : {A : Type 0} (t : Bool) (rule : Rule) (place : Span) (r : Result A Refusal) (s : A) → where_allowed t rule place r ≡ Ok s → (t ≡ true) × (r ≡ Ok s)
allowed_parts true rule place r s e = (refl, e)
allowed_parts false rule place r s e = absurd cc

went_on : {A : Type 0} (r : Result (Unit {0}) Refusal) (x y : A) → go_on r (λ _. Ok x) ≡ Ok y → r ≡ Ok tt
went_on (Ok u) x y e = refl
went_on (Err why) x y e = absurd cc

stopped : {A : Type 0} (r : Result (Unit {0}) Refusal) (x : A) (why : Refusal) → go_on {B = A} r (λ _. Ok x) ≡ Err why → r ≡ Err why
stopped (Ok u) x why e = absurd cc
stopped (Err other) x why e = cc

fails_before : {A B : Type 0} (r : Result A Refusal) (f : A → Result B Refusal) (why : Fault) → Fails why r → Fails why (go_on r f)
fails_before r f fault.Memory h = tt
fails_before r f (fault.Refused why) h = ap (λ x. go_on x f) h

-- ---- how many are given

pub places_count : (from n : ℕ) → length (map gives.Argument (range_with_len from n)) ≡ n
places_count from zero = refl
places_count from (suc n) = ap suc (places_count (from + 1) n)

pub values_count : (n : ℕ) (qs : List QubitId) (ds es : List Declared) → n ≡ length ds → length qs ≡ length es → length (map gives.Argument (range_with_len 0 n) ++ map gives.Qubit qs) ≡ length (ds ++ es)
values_count n qs ds es count counted =
    let first = places_count 0 n in
    omega (arith, first, length-map qs gives.Qubit, length-append (map gives.Argument (range_with_len 0 n)) (map gives.Qubit qs), length-append ds es)

-- ---- by their numbers

-- one list of names after another
pub entered_append : (scopes : List (List (ℕ × Given))) (ds es : List Declared) (vs ws : List Given) → length vs ≡ length ds → entered scopes (ds ++ es) (vs ++ ws) ≡ go_on (entered scopes ds vs) (λ s. entered s es ws)
entered_append scopes [] es [] ws same = refl
entered_append scopes [] es (v ∷ vs) ws same = absurd (omega arith)
entered_append scopes (d ∷ ds) es [] ws same = absurd (omega arith)
entered_append scopes (d ∷ ds) es (v ∷ vs) ws same =
    where_step (not (is_declared d.name scopes)) Redeclared d.at (entered (declare d.name v scopes) ds vs) (λ s. entered s es ws) (entered (declare d.name v scopes) (ds ++ es) (vs ++ ws))
    (entered_append (declare d.name v scopes) ds es vs ws (omega arith))

module _ (old scopes : List (List (ℕ × Given))) (start : old ≡ scopes) (ds es : List Declared) (us vs ws : List Given) (same : us ≡ vs) (count : length vs ≡ length ds) where
  both : entered scopes (ds ++ es) (vs ++ ws) ≡ go_on (entered scopes ds vs) (λ s. entered s es ws)
  both = entered_append scopes ds es vs ws count

  here : entered scopes ds vs ≡ entered old ds us
  here = ap (entered scopes ds) (sym same) ∙ ap (λ (s : List (List (ℕ × Given))). entered s ds us) (sym start)

  pub first_fails : (why : Fault) → Fails why (entered old ds us) → Fails why (entered scopes (ds ++ es) (vs ++ ws))
  first_fails why h = subst (Fails why) (sym (both ∙ ap (λ r. go_on r (λ s. entered s es ws)) here)) (fails_before (entered old ds us) (λ s. entered s es ws) why h)

  module _ (s : List (List (ℕ × Given))) (went : entered old ds us ≡ Ok s) (xs : List Given) (also : xs ≡ ws) where
    then : entered scopes (ds ++ es) (vs ++ ws) ≡ entered s es xs
    then = both ∙ ap (λ r. go_on r (λ s. entered s es ws)) (here ∙ went) ∙ ap (entered s es) (sym also)

    pub second_fails : (why : Fault) → Fails why (entered s es xs) → Fails why (entered scopes (ds ++ es) (vs ++ ws))
    second_fails why h = subst (Fails why) (sym then) h

    pub both_enter : (t : List (List (ℕ × Given))) → entered s es xs ≡ Ok t → entered scopes (ds ++ es) (vs ++ ws) ≡ Ok t
    both_enter t e = then ∙ e

swap_step : (t : Bool) (v : Given) (o z : Option Given) → (t ≡ true → o ≡ None) → option_or (cond t (Some v) o) z ≡ option_or o (cond t (Some v) z)
swap_step true v o z none = ap (λ (x : Option Given). option_or x (Some v)) (sym (none refl))
swap_step false v o z none = refl

not_there : (o : Option Given) → not (is_some o) ≡ true → o ≡ None
not_there None e = refl
not_there (Some v) e = absurd cc

abbrev pub number_of_name : Declared → ℕ
number_of_name d = d.name

-- what each name finds
pub found_entered : (n : ℕ) (es : List (ℕ × Given)) (ds : List Declared) (vs : List Given) (s : List (List (ℕ × Given))) → entered (es ∷ []) ds vs ≡ Ok s
    → find n s ≡ option_or (lookup (nat_eq n) es) (lookup (nat_eq n) (zip (map number_of_name ds) vs))
found_entered n es [] vs s e = let same : es ∷ [] ≡ s = cc in ap (find n) (sym same)
found_entered n es (d ∷ ds) [] s e = let same : es ∷ [] ≡ s = cc in ap (find n) (sym same)
found_entered n es (d ∷ ds) (v ∷ vs) s e =
    let parts = allowed_parts (not (is_some (lookup (nat_eq d.name) es))) Redeclared d.at (entered (((d.name, v) ∷ es) ∷ []) ds vs) s e in
    let none = not_there (lookup (nat_eq d.name) es) parts.0 in
    found_entered n ((d.name, v) ∷ es) ds vs s parts.1
    ∙ swap_step (nat_eq n d.name) v (lookup (nat_eq n) es) (lookup (nat_eq n) (zip (map number_of_name ds) vs)) (λ t. ap (λ (k : ℕ). lookup (nat_eq k) es) (eqb-true n d.name t) ∙ none)

-- ---- by their texts

-- the entries of a scope, the newest first, after names are entered
abbrev all_entered : List (ℕ × Given) → List Declared → List Given → List (ℕ × Given)
all_entered es (d ∷ ds) (v ∷ vs) = all_entered ((d.name, v) ∷ es) ds vs
all_entered es _ _ = es

module _ (p : Source) (whole : IsProgram p) where
  abbrev IsName : ℕ × Given → Type 0
  IsName e = e.0 < length p.names

  abbrev Fits : Declared → Type 0
  Fits d = DeclaredFits (length p.names) d

  abbrev text_of : ℕ × Given → List ℕ
  text_of e = text_in p e.0

  among_step : (t : Bool) (v : Given) (a : Bool) (o : Option Given) → a ≡ is_some o → (t || a) ≡ is_some (cond t (Some v) o)
  among_step true v a o e = refl
  among_step false v a o e = e

  among : (n : ℕ) (es : List (ℕ × Given)) → n < length p.names → All IsName es → list_any (bytes_eq (text_in p n)) (map text_of es) ≡ is_some (lookup (nat_eq n) es)
  among n [] lt names = refl
  among n (e ∷ es) lt names =
      let behind = list_any (bytes_eq (text_in p n)) (map text_of es) in
      ap (λ (t : Bool). t || behind) (same_names p whole n e.0 lt (All-head IsName e es names))
      ∙ among_step (nat_eq n e.0) e.1 behind (lookup (nat_eq n) es) (among n es lt (All-tail IsName e es names))

  enters : (es : List (ℕ × Given)) (ds : List Declared) (vs : List Given) → length vs ≡ length ds → All IsName es → All Fits ds
      → entered (es ∷ []) ds vs ≡ go_on (names_differ (map text_of es) (map (name_in p) ds)) (λ _. Ok (all_entered es ds vs ∷ []))
  enters es [] vs same names fit = refl
  enters es (d ∷ ds) [] same names fit = absurd (omega arith)
  enters es (d ∷ ds) (v ∷ vs) same names fit =
      let here : d.name < length p.names = All-head Fits d ds fit in
      let first : ℕ × Given = (d.name, v) in
      let rest = names_differ (text_in p d.name ∷ map text_of es) (map (name_in p) ds) in
      let more = enters (first ∷ es) ds vs (omega arith) (All-cons IsName first es here names) (All-tail Fits d ds fit) in
      ap (λ (t : Bool). where_allowed (not t) Redeclared d.at (entered ((first ∷ es) ∷ []) ds vs)) (sym (among d.name es here names))
      ∙ where_step (not (list_any (bytes_eq (text_in p d.name)) (map text_of es))) Redeclared d.at rest (λ _. Ok (all_entered (first ∷ es) ds vs ∷ [])) (entered ((first ∷ es) ∷ []) ds vs) more

  module _ (ds es : List Declared) (vs : List Given) (same : length vs ≡ length (ds ++ es)) (fit : All Fits ds) (fits : All Fits es) where
    all_enter : entered ([] ∷ []) (ds ++ es) vs ≡ go_on (names_differ [] (map (name_in p) (ds ++ es))) (λ _. Ok (all_entered [] (ds ++ es) vs ∷ []))
    all_enter = enters [] (ds ++ es) vs same (All-nil IsName) (All-append Fits ds es fit fits)

    both_lists : map (name_in p) (ds ++ es) ≡ map (name_in p) ds ++ map (name_in p) es
    both_lists = map-append (name_in p) ds es

    -- names that are entered stand once
    pub differ : (s : List (List (ℕ × Given))) → entered ([] ∷ []) (ds ++ es) vs ≡ Ok s → names_differ [] (map (name_in p) ds ++ map (name_in p) es) ≡ Ok tt
    differ s e =
        ap (names_differ []) (sym both_lists)
        ∙ went_on (names_differ [] (map (name_in p) (ds ++ es))) (all_entered [] (ds ++ es) vs ∷ []) s (sym all_enter ∙ e)

    differ_not : (why : Refusal) → entered ([] ∷ []) (ds ++ es) vs ≡ Err why → names_differ [] (map (name_in p) ds ++ map (name_in p) es) ≡ Err why
    differ_not why e =
        ap (names_differ []) (sym both_lists)
        ∙ stopped (names_differ [] (map (name_in p) (ds ++ es))) (all_entered [] (ds ++ es) vs ∷ []) why (sym all_enter ∙ e)

    -- and the first that is refused stands twice
    pub differ_fails : {A : Type 0} (f : Unit {0} → Result A Refusal) (why : Fault) → Fails why (entered ([] ∷ []) (ds ++ es) vs) → Fails why (go_on (names_differ [] (map (name_in p) ds ++ map (name_in p) es)) f)
    differ_fails f fault.Memory h = tt
    differ_fails f (fault.Refused why) h = ap (λ r. go_on r f) (differ_not why h)
