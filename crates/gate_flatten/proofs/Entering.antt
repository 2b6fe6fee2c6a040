-- The loops over the operands of a call.
use Rattle.std.proofs.Common.{◌≡◌, ℕ, suc, ◌+◌, ◌<◌, ◌≤◌, true, false, List, [], ◌∷◌, ◌++◌, length, map, drop, reverse, get_or, Option, Some, None, Result, Ok, Err, refl, ap, add-one}
use Rattle.std.proofs.lemmas.List.{reverse-append}
use Rattle.std.proofs.Math.ListN.{drop_of_length-le}
use Rattle.std.proofs.Math.Seq.{drop-cons}
use Rattle.qq_base.specs.declared.refusal.Refusal.{Refusal}
use Rattle.qq_base.specs.declared.refusal.Span.{Span}
use Rattle.qq_base.specs.declared.rule.Rule.TheVariants.{RepeatedQubit}
use Rattle.qq_base.specs.declared.run.QubitId.{QubitId}
use Rattle.alias_resolve.specs.Places.{Selected}
use Rattle.const_eval.specs.Refusing.{refused}
use Rattle.scope_env.specs.Scopes.{is_declared}
use Rattle.gate_flatten.specs.declared.applications.Placed.{Placed}
use Rattle.gate_flatten.specs.Applications as spec
use Rattle.gate_flatten.specs.Applications.{placed, is_among, distinct, length_with, length_of_all, application, qubit_at}
use Rattle.gate_flatten.specs.Served.{placed_seen}
use Rattle.gate_flatten.proofs.Applying.{names_of, among_names, before_these, before_one, before_end}

-- the operands from one on
abbrev pub operands_from : ℕ → List Placed → List (spec.Placed (Selected QubitId))
operands_from k ops = map placed_seen (drop k ops)

-- ---- the length of registers

pub length_more : (ops : List Placed) (known more : Option ℕ) (k : ℕ) (d : Placed) → k < length ops → length_with known (placed_seen (get_or ops k d)) ≡ Ok more
    → length_of_all known (operands_from k ops) ≡ length_of_all more (operands_from (k + 1) ops)
length_more ops known more k d lt e = rw (drop-cons ops k d lt, add-one k, e) refl

pub length_refused : (ops : List Placed) (known : Option ℕ) (k : ℕ) (d : Placed) (refusal : Refusal) → k < length ops → length_with known (placed_seen (get_or ops k d)) ≡ Err refusal
    → length_of_all known (operands_from k ops) ≡ Err refusal
length_refused ops known k d refusal lt e = rw (drop-cons ops k d lt, e) refl

pub length_end : (ops : List Placed) (known : Option ℕ) (k : ℕ) → length ops ≤ k → length_of_all known (operands_from k ops) ≡ Ok known
length_end ops known k le = rw (drop_of_length-le ops le) refl

-- ---- the qubits of an application

-- what is found of an application, and what is left of it
abbrev pub distinct_from : ℕ → List QubitId → ℕ → List Placed → Result (List QubitId) Refusal
distinct_from k found at ops = before_these found (distinct (reverse found) (application (operands_from at ops) k))

pub application_skips : (ops : List Placed) (found : List QubitId) (k at : ℕ) (d : Placed) → at < length ops → qubit_at k (placed_seen (get_or ops at d)) ≡ None
    → distinct_from k found at ops ≡ distinct_from k found (at + 1) ops
application_skips ops found k at d lt e = rw (drop-cons ops at d lt, add-one at, e) refl

last_first : (found : List QubitId) (q : QubitId) → reverse (found ++ q ∷ []) ≡ q ∷ reverse found
last_first found q = reverse-append found (q ∷ [])

pub application_goes_on : (ops : List Placed) (found : List QubitId) (k at : ℕ) (d : Placed) (place : Span) (q : QubitId) → at < length ops → qubit_at k (placed_seen (get_or ops at d)) ≡ Some (placed place q)
    → is_among q (reverse found) ≡ false
    → distinct_from k found at ops ≡ distinct_from k (found ++ q ∷ []) (at + 1) ops
application_goes_on ops found k at d place q lt e new =
    rw (drop-cons ops at d lt, add-one at, e, new, last_first found q) (before_one found q (distinct (q ∷ reverse found) (application (operands_from (suc at) ops) k)))

pub application_repeats : (ops : List Placed) (found : List QubitId) (k at : ℕ) (d : Placed) (place : Span) (q : QubitId) → at < length ops → qubit_at k (placed_seen (get_or ops at d)) ≡ Some (placed place q)
    → is_among q (reverse found) ≡ true
    → distinct_from k found at ops ≡ refused RepeatedQubit place
application_repeats ops found k at d place q lt e old = rw (drop-cons ops at d lt, e, old) refl

pub application_ends : (ops : List Placed) (found : List QubitId) (k at : ℕ) → length ops ≤ at → distinct_from k found at ops ≡ Ok found
application_ends ops found k at le = rw (drop_of_length-le ops le) (before_end found (reverse found))

-- the names of the qubits that were found
pub declared_among : (q : QubitId) (found : List QubitId) (scopes : List (List (ℕ × Unit {0}))) → scopes ≡ names_of (reverse found) ∷ [] → is_declared q.0 scopes ≡ is_among q (reverse found)
declared_among q found scopes e = rw e (among_names q (reverse found))

pub names_more : (q : QubitId) (found : List QubitId) → names_of (reverse (found ++ q ∷ [])) ≡ (q.0, tt) ∷ names_of (reverse found)
names_more q found = ap names_of (last_first found q)
