-- A call that is ready for its applications: how many qubits each has.
use Rattle.std.proofs.Common.{◌≡◌, ℕ, zero, suc, ◌+◌, ◌<◌, Bool, true, false, nat_eq, List, [], ◌∷◌, length, map, All, Result, Ok, subst, ◌∙◌, arith}
use Rattle.std.proofs.lemmas.List.{length-map}
use Rattle.std.specs.Result.{IfErr, IsErrAnd}
use Rattle.std.proofs.lemmas.Result.{err_from_is_err_and}
use Rattle.qq_base.specs.declared.refusal.Fault.{Fault}
use Rattle.qq_base.specs.declared.refusal.Refusal.{Refusal}
use Rattle.qq_base.specs.declared.refusal.Span.{Span}
use Rattle.qq_base.specs.declared.rule.Rule.{Rule}
use Rattle.qq_base.specs.declared.rule.Rule.TheVariants.{ArgumentCount}
use Rattle.const_eval.specs.Answers.{Fails}
use Rattle.const_eval.specs.Refusing.{where_allowed}
use Rattle.gate_flatten.specs.declared.applications.Placed.{Placed}
use Rattle.gate_flatten.specs.Applications.{application, times_of}
use Rattle.gate_flatten.specs.Served.{IsOne, placed_seen}
use Rattle.gate_flatten.proofs.Applying.{Singles, application_length}

-- the exit of a `?`, of which it is said what the fault means
pub err_exit : {A : Type 0} (Q : Fault → Type 0) (r : Result A Fault) (why : Fault) → IsErrAnd r (λ y. y ≡ why) → Q why → IfErr r Q
err_exit Q r why is q = let p = err_from_is_err_and r is in rw (p.1, p.2) q

singles : (ss : List Placed) → All (λ (s : Placed). IsOne s.list) ss → Singles (map placed_seen ss)
singles [] h k d lt = absurd (omega arith)
singles (s ∷ ss) h zero d lt = h 0 s (omega arith)
singles (s ∷ ss) h (suc k) d lt = singles ss (λ j e less. h (suc j) e (omega arith)) k d (omega arith)

allowed_is : {A : Type 0} (t : Bool) (rule : Rule) (place : Span) (r : Result A Refusal) (a : A) → where_allowed t rule place r ≡ Ok a → r ≡ Ok a
allowed_is true rule place r a e = e
allowed_is false rule place r a e = absurd cc

-- each application has as many qubits as there are operands
pub qubits_fit : (ss : List Placed) (t : Bool) (place : Span) (times n : ℕ) → All (λ (s : Placed). IsOne s.list) ss → length ss ≡ n → where_allowed t ArgumentCount place (times_of (map placed_seen ss)) ≡ Ok times
    → (k : ℕ) → k < times → length (application (map placed_seen ss) k) ≡ n
qubits_fit ss t place times n ones count e k lt =
    application_length k times (map placed_seen ss) lt (singles ss ones) (allowed_is t ArgumentCount place (times_of (map placed_seen ss)) times e) ∙ length-map ss placed_seen ∙ count

-- how often a call is applied, by the number of qubits that its gate takes
module _ (own count : ℕ) (same : own ≡ count) (n controls : ℕ) (place : Span) (r : Result ℕ Refusal) where
  pub times_fail : (why : Fault) → Fails why (where_allowed (nat_eq n (controls + own)) ArgumentCount place r) → Fails why (where_allowed (nat_eq n (controls + count)) ArgumentCount place r)
  times_fail why e = subst (λ (k : ℕ). Fails why (where_allowed (nat_eq n (controls + k)) ArgumentCount place r)) same e

  pub times_known : (times : ℕ) → where_allowed (nat_eq n (controls + own)) ArgumentCount place r ≡ Ok times → where_allowed (nat_eq n (controls + count)) ArgumentCount place r ≡ Ok times
  times_known times e = subst (λ (k : ℕ). where_allowed (nat_eq n (controls + k)) ArgumentCount place r ≡ Ok times) same e
