-- What is asked of open names, by the numbers of names and by their texts.
use Rattle.std.proofs.Common.{◌≡◌, ℕ, ◌<◌, Bool, List, [], ◌∷◌, ◌++◌, reverse, length, Option, None, Some, is_some, nat_eq, refl, sym, ap, ◌∙◌, subst}
use Rattle.std.proofs.lemmas.List.{reverse-append}
use Rattle.std.specs.Map.{lookup}
use Rattle.std.specs.Option.{option_or}
use Rattle.qasm_ast.specs.Whole.{Source}
use Rattle.qasm_ast.specs.Tree.{text_at}
use Rattle.qasm_ast.specs.View.{text_in}
use Rattle.scope_env.specs.OpenScopes.{Outside, Opened, find, is_here}
use Rattle.open_names.specs.declared.slot.Slot.{Slot}
use Rattle.open_names.specs.declared.counts.Counts.{Counts}
use Rattle.open_names.specs.declared.names.Inner.{Inner}
use Rattle.open_names.specs.Counted.{counted}
use Rattle.open_names.specs.Texts.{texts, standard_names}
use Rattle.open_names.specs.Standing.{Standing, shown, scopes_of, things}
use Rattle.open_names.specs.Keys.{IsKey}
use Rattle.open_names.specs.Keeping.{AreKeys, AreInner, IsKept}
use Rattle.open_names.proofs.Texts.{text_at-append, IsKey-name}
use Rattle.open_names.proofs.Found.{find-named, is_here-named}
use Rattle.open_names.proofs.Sums.{cells-things, qubits-things}
use Rattle.const_eval.specs.Things.{cells_in_scope, declared_qubits}

-- the text of a name of the program
pub text-name : (p : Source) (n : ℕ) → n < length p.names → text_at (texts p) n ≡ text_in p n
text-name p n within = text_at-append p.names standard_names n within

module _ {A : Type 0} where
  -- what holds of a name by its number among all texts holds by its text in the program
  pub by_text : {R : Type 0} (asked : List ℕ → Standing A → R) (s v : Standing A) (n : ℕ) (answer : R) → s ≡ v → n < length v.program.names → (n < length s.program.names → answer ≡ asked (text_at (texts s.program) n) s) → answer ≡ asked (text_in v.program n) v
  by_text asked s v n answer is within found =
      let inside : n < length s.program.names = subst (λ (u : Standing A). n < length u.program.names) (sym is) within in
      let here : answer ≡ asked (text_in s.program n) s = found inside ∙ ap (λ t. asked t s) (text-name s.program n inside) in
      subst (λ (u : Standing A). answer ≡ asked (text_in u.program n) u) is here

  abbrev pub asked_find : List ℕ → Standing A → Option (Slot A)
  asked_find text s = find text (scopes_of s)

  abbrev pub asked_here : List ℕ → Standing A → Bool
  asked_here text s = is_here text (scopes_of s)

  module _ (ts : List (List ℕ)) (key : ℕ) (is_key : IsKey ts key) (globals : List (ℕ × Slot A)) where
    pub find-globals : AreKeys ts globals → find (text_at ts key) (shown ts globals []) ≡ lookup (nat_eq key) globals
    find-globals keys = find-named ts key is_key globals Outside keys ∙ ends (lookup (nat_eq key) globals)
      where
        ends : (o : Option (Slot A)) → option_or o None ≡ o
        ends None = refl
        ends (Some x) = refl

    module _ (scope : Inner A) (inner : List (Inner A)) (are : AreInner ts globals (scope ∷ inner)) where
      pub find-inside : (slot : Slot A) → lookup (nat_eq key) scope.names ≡ Some slot → find (text_at ts key) (shown ts globals (scope ∷ inner)) ≡ Some slot
      find-inside slot found = find-named ts key is_key scope.names (Opened (shown ts globals inner)) are.0 ∙ ap (λ o. option_or o (find (text_at ts key) (shown ts globals inner))) found

      pub find-around : lookup (nat_eq key) scope.names ≡ None → find (text_at ts key) (shown ts globals (scope ∷ inner)) ≡ find (text_at ts key) (shown ts globals inner)
      find-around none = find-named ts key is_key scope.names (Opened (shown ts globals inner)) are.0 ∙ ap (λ o. option_or o (find (text_at ts key) (shown ts globals inner))) none

      pub is_here-inside : is_here (text_at ts key) (shown ts globals (scope ∷ inner)) ≡ is_some (lookup (nat_eq key) scope.names)
      is_here-inside = is_here-named ts key is_key scope.names (Opened (shown ts globals inner)) refl are.0

    pub is_here-globals : AreKeys ts globals → is_here (text_at ts key) (shown ts globals []) ≡ is_some (lookup (nat_eq key) globals)
    is_here-globals keys = is_here-named ts key is_key globals Outside refl keys

  -- the sums
  pub cells-kept : (s v : Standing A) (sums : Counts) → IsKept s sums → s ≡ v → sums.cells ≡ counted (cells_in_scope (things v))
  cells-kept s v sums kept is = subst (λ (u : Standing A). sums.cells ≡ counted (cells_in_scope (things u))) is (kept.counts.cells ∙ ap counted (sym (cells-things s.program (scopes_of s))))

  pub qubits-kept : (s v : Standing A) (sums : Counts) → IsKept s sums → s ≡ v → sums.qubits ≡ counted (declared_qubits (things v))
  qubits-kept s v sums kept is = subst (λ (u : Standing A). sums.qubits ≡ counted (declared_qubits (things u))) is (kept.counts.qubits ∙ ap counted (sym (qubits-things s.program (scopes_of s))))

  -- a name of the program has a number of its own
  pub key_of : (s v : Standing A) (sums : Counts) → IsKept s sums → s ≡ v → (n : ℕ) → n < length v.program.names → IsKey (texts s.program) n
  key_of s v sums kept is n within = IsKey-name s.program n kept.whole (subst (λ (u : Standing A). n < length u.program.names) (sym is) within)

  -- ---- a look from the innermost scope outwards

  module _ (ts : List (List ℕ)) (key : ℕ) (globals : List (ℕ × Slot A)) (whole : Option (Slot A)) where
    -- the scopes that are left have what the name stands for
    abbrev pub AreLeft : List (Inner A) → Type 0
    AreLeft left = (whole ≡ find (text_at ts key) (shown ts globals (reverse left))) × AreInner ts globals (reverse left)

    module _ (is_key : IsKey ts key) where
      module _ (left next : List (Inner A)) (scope : Inner A) (last : left ≡ next ++ scope ∷ []) (are : AreLeft left) where
        turned : reverse left ≡ scope ∷ reverse next
        turned = rw (last, reverse-append next (scope ∷ [])) refl

        here : AreInner ts globals (scope ∷ reverse next)
        here = subst (AreInner ts globals) turned are.1

        whole_is : whole ≡ find (text_at ts key) (shown ts globals (scope ∷ reverse next))
        whole_is = are.0 ∙ ap (λ l. find (text_at ts key) (shown ts globals l)) turned

        pub whole-inside : (slot : Slot A) → lookup (nat_eq key) scope.names ≡ Some slot → whole ≡ Some slot
        whole-inside slot found = whole_is ∙ find-inside ts key is_key globals scope (reverse next) here slot found

        pub AreLeft-around : lookup (nat_eq key) scope.names ≡ None → AreLeft next
        AreLeft-around none = (whole_is ∙ find-around ts key is_key globals scope (reverse next) here none, here.2)

      pub whole-globals : (left : List (Inner A)) → left ≡ [] → AreKeys ts globals → AreLeft left → whole ≡ lookup (nat_eq key) globals
      whole-globals left none keys are = are.0 ∙ ap (λ l. find (text_at ts key) (shown ts globals (reverse l))) none ∙ find-globals ts key is_key globals keys
