-- What names are known to be, without their cells, is kept by all that is done with scopes.
use Rattle.std.proofs.Common.{◌≡◌, ℕ, ◌+◌, Bool, true, false, List, [], ◌∷◌, Option, Some, None, refl, ap, ◌∙◌}
use Rattle.std.specs.Prelude.{if◌then◌else◌}
use Rattle.scope_env.specs.OpenScopes.{OpenScopes, Outside, Opened, Sealed, Named, is_same, find, close, since, only_of}
use Rattle.const_eval.specs.Things.{Fixed, Variable, Counter, Qubits, Alias, TargetRow, DefinedGate, DefinedSubroutine, Known, known, map_content, no_content, meaning_of_thing, running_type, means_in, types_in, is_seen_in_subroutine, declared_by, declared_qubits}
use Rattle.const_eval.specs.Binding.{seen_by}
use Rattle.source_meaning.specs.Library.{with_rows}
use Rattle.source_core.specs.Cells.{Held}

abbrev pub known_thing : Held → Known
known_thing thing = map_content no_content thing

-- ---- names

abbrev known_found : Option Held → Option Known
known_found None = None
known_found (Some thing) = Some (known_thing thing)

either_known : (is : Bool) (thing : Held) (found : Option Held) → (if is then Some (known_thing thing) else known_found found) ≡ known_found (if is then Some thing else found)
either_known true thing found = refl
either_known false thing found = refl

find_known : (x : List ℕ) (s : OpenScopes Held) → find x (known s) ≡ known_found (find x s)
find_known x Outside = refl
find_known x (Opened outer) = find_known x outer
find_known x (Sealed seen callers) = find_known x seen
find_known x (Named y thing rest) =
    ap (λ found. if is_same x y then Some (known_thing thing) else found) (find_known x rest) ∙ either_known (is_same x y) thing (find x rest)

meaning_known : (found : Option Held) → meaning_of_thing (known_found found) ≡ meaning_of_thing found
meaning_known None = refl
meaning_known (Some (Fixed c)) = refl
meaning_known (Some (Variable type v)) = refl
meaning_known (Some (Counter type v)) = refl
meaning_known (Some (Qubits s)) = refl
meaning_known (Some (Alias s)) = refl
meaning_known (Some (TargetRow row)) = refl
meaning_known (Some (DefinedGate g)) = refl
meaning_known (Some (DefinedSubroutine f)) = refl

pub means_known : (s : OpenScopes Held) (x : List ℕ) → means_in (known s) x ≡ means_in s x
means_known s x = ap meaning_of_thing (find_known x s) ∙ meaning_known (find x s)

running_known : (found : Option Held) → running_type (known_found found) ≡ running_type found
running_known None = refl
running_known (Some (Fixed c)) = refl
running_known (Some (Variable type v)) = refl
running_known (Some (Counter type v)) = refl
running_known (Some (Qubits s)) = refl
running_known (Some (Alias s)) = refl
running_known (Some (TargetRow row)) = refl
running_known (Some (DefinedGate g)) = refl
running_known (Some (DefinedSubroutine f)) = refl

pub types_known : (s : OpenScopes Held) (x : List ℕ) → types_in (known s) x ≡ types_in s x
types_known s x = ap running_type (find_known x s) ∙ running_known (find x s)

-- ---- scopes

pub close_known : (s : OpenScopes Held) → close (known s) ≡ known (close s)
close_known Outside = refl
close_known (Opened outer) = refl
close_known (Sealed seen callers) = refl
close_known (Named x thing rest) = close_known rest

pub rows_known : (rows : List (List ℕ × ℕ)) (s : OpenScopes Held) → with_rows rows (known s) ≡ known (with_rows rows s)
rows_known [] s = refl
rows_known (row ∷ rows) s = rows_known rows (Named row.0 (TargetRow row.1) s)

-- ---- what a called body sees

either_scopes : (is : Bool) (a b : OpenScopes Held) → (if is then known a else known b) ≡ known (if is then a else b)
either_scopes true a b = refl
either_scopes false a b = refl

since_known : (x : List ℕ) (s : OpenScopes Held) → since x (known s) ≡ known (since x s)
since_known x Outside = refl
since_known x (Opened outer) = since_known x outer
since_known x (Sealed seen callers) = since_known x seen
since_known x (Named y thing rest) =
    ap (λ r. if is_same x y then known (Named y thing rest) else r) (since_known x rest) ∙ either_scopes (is_same x y) (Named y thing rest) (since x rest)

kind_known : (thing : Held) → is_seen_in_subroutine (known_thing thing) ≡ is_seen_in_subroutine thing
kind_known (Fixed c) = refl
kind_known (Variable type v) = refl
kind_known (Counter type v) = refl
kind_known (Qubits s) = refl
kind_known (Alias s) = refl
kind_known (TargetRow row) = refl
kind_known (DefinedGate g) = refl
kind_known (DefinedSubroutine f) = refl

only_known : (s : OpenScopes Held) → only_of is_seen_in_subroutine (known s) ≡ known (only_of is_seen_in_subroutine s)
only_known Outside = refl
only_known (Opened outer) = ap Opened (only_known outer)
only_known (Sealed seen callers) = ap (λ a. Sealed a (only_of is_seen_in_subroutine (known callers))) (only_known seen) ∙ ap (Sealed (known (only_of is_seen_in_subroutine seen))) (only_known callers)
only_known (Named x thing rest) =
    ap (λ is. if is then Named x (known_thing thing) (only_of is_seen_in_subroutine (known rest)) else only_of is_seen_in_subroutine (known rest)) (kind_known thing)
    ∙ ap (λ r. if is_seen_in_subroutine thing then Named x (known_thing thing) r else r) (only_known rest)
    ∙ either_scopes (is_seen_in_subroutine thing) (Named x thing (only_of is_seen_in_subroutine rest)) (only_of is_seen_in_subroutine rest)

pub body_known : (name : List ℕ) (s : OpenScopes Held) → Sealed (seen_by name (known s)) (known s) ≡ known (Sealed (seen_by name s) s)
body_known name s = ap (λ a. Sealed a (known s)) (ap (only_of is_seen_in_subroutine) (since_known name s) ∙ only_known (since name s))

-- ---- qubits

declared_known : (thing : Held) → declared_by (known_thing thing) ≡ declared_by thing
declared_known (Fixed c) = refl
declared_known (Variable type v) = refl
declared_known (Counter type v) = refl
declared_known (Qubits s) = refl
declared_known (Alias s) = refl
declared_known (TargetRow row) = refl
declared_known (DefinedGate g) = refl
declared_known (DefinedSubroutine f) = refl

pub qubits_known : (s : OpenScopes Held) → declared_qubits (known s) ≡ declared_qubits s
qubits_known Outside = refl
qubits_known (Opened outer) = qubits_known outer
qubits_known (Sealed seen callers) = qubits_known callers
qubits_known (Named x thing rest) = ap (λ n. n + declared_qubits (known rest)) (declared_known thing) ∙ ap (λ n. declared_by thing + n) (qubits_known rest)
