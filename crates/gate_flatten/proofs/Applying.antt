-- The applications of a call: how many there are, and which qubits each has.
use Rattle.std.proofs.Common.{◌≡◌, All, ℕ, zero, suc, ◌<◌, Bool, true, false, not, nat_eq, List, [], ◌∷◌, ◌++◌, length, get_or, Option, Some, None, Result, Ok, Err, refl, sym, ap, append_assoc, arith}
use Rattle.std.specs.Prelude.{is_some, unwrap_or}
use Rattle.std.specs.Map.{lookup}
use Rattle.std.proofs.lemmas.List.{append-nil}
use Rattle.std.proofs.lemmas.Bool.{eqb-true}
use Rattle.std.proofs.lemmas.Option.{slice_get-get_or}
use Rattle.qq_base.specs.declared.refusal.Refusal.{Refusal}
use Rattle.qq_base.specs.declared.refusal.Span.{Span}
use Rattle.qq_base.specs.declared.rule.Rule.TheVariants.{SizeMismatch, RepeatedQubit}
use Rattle.qq_base.specs.declared.run.QubitId.{QubitId}
use Rattle.alias_resolve.specs.Places.{Selected}
use Rattle.const_eval.specs.Refusing.{go_on, where_allowed}
use Rattle.gate_flatten.specs.Applications.{Placed, placed, is_among, distinct, length_with, length_of_all, times_of, qubit_at, application}

-- the names of qubits in a scope of their own
abbrev pub names_of : List QubitId → List (ℕ × Unit {0})
names_of [] = []
names_of (q ∷ qs) = (q.0, tt) ∷ names_of qs

among_more : (q other : QubitId) (qs : List QubitId) (t : Bool) → nat_eq q.0 other.0 ≡ t → is_some (lookup (nat_eq q.0) (names_of qs)) ≡ is_among q qs
    → is_some (lookup (nat_eq q.0) (names_of (other ∷ qs))) ≡ is_among q (other ∷ qs)
among_more q other qs true e later = rw e refl
among_more q other qs false e later = rw e later

pub among_names : (q : QubitId) (qs : List QubitId) → is_some (lookup (nat_eq q.0) (names_of qs)) ≡ is_among q qs
among_names q [] = refl
among_names q (other ∷ qs) = among_more q other qs (nat_eq q.0 other.0) refl (among_names q qs)

-- qubits that were found, in front of those that are found later
abbrev pub before_these : List QubitId → Result (List QubitId) Refusal → Result (List QubitId) Refusal
before_these found r = go_on r (λ later. Ok (found ++ later))

pub before_nothing : (r : Result (List QubitId) Refusal) → r ≡ before_these [] r
before_nothing (Ok later) = refl
before_nothing (Err e) = refl

pub before_one : (found : List QubitId) (q : QubitId) (r : Result (List QubitId) Refusal) → before_these found (go_on r (λ others. Ok (q ∷ others))) ≡ before_these (found ++ q ∷ []) r
before_one found q (Ok later) = ap Ok (sym (append_assoc found (q ∷ []) later))
before_one found q (Err e) = refl

pub before_end : (found before : List QubitId) → before_these found (distinct before []) ≡ Ok found
before_end found before = ap Ok (append-nil found)

-- ---- how many qubits an application has

abbrev pub Singles : List (Placed (Selected QubitId)) → Type 0
Singles ss = All (λ (s : Placed (Selected QubitId)). s.thing.single ≡ true → length s.thing.items ≡ 1) ss

distinct_more : (before : List QubitId) (q : Placed QubitId) (qs : List (Placed QubitId)) (found : List QubitId) (t : Bool) (r : Result (List QubitId) Refusal)
    → ((others : List QubitId) → r ≡ Ok others → length others ≡ length qs)
    → where_allowed (not t) RepeatedQubit q.place (go_on r (λ others. Ok (q.thing ∷ others))) ≡ Ok found → length found ≡ length (q ∷ qs)
distinct_more before q qs found true r count h = absurd cc
distinct_more before q qs found false (Err refusal) count h = absurd cc
distinct_more before q qs found false (Ok others) count h =
    let more : q.thing ∷ others ≡ found = cc in
    let later = count others refl in
    rw (← more) (omega (arith, later))

pub distinct_count : (before : List QubitId) (qs : List (Placed QubitId)) (found : List QubitId) → distinct before qs ≡ Ok found → length found ≡ length qs
distinct_count before [] found e = let none : [] ≡ found = cc in rw (← none) refl
distinct_count before (q ∷ qs) found e =
    distinct_more before q qs found (is_among q.thing before) (distinct (q.thing ∷ before) qs) (λ others h. distinct_count (q.thing ∷ before) qs others h) e

-- an operand, by its parts
abbrev operand_with : Span → List QubitId → Bool → Placed (Selected QubitId)
operand_with place items single = placed place (record { items = items; single = single })

-- what is known of the registers' length once an operand is known
pub record Knows (items : List QubitId) (single : Bool) (known more : Option ℕ) : Type 0 where
  pub length_is : single ≡ false → more ≡ Some (length items)
  pub stays : (n : ℕ) → known ≡ Some n → more ≡ Some n

knows : (place : Span) (items : List QubitId) (single : Bool) (known more : Option ℕ) → length_with known (operand_with place items single) ≡ Ok more → Knows items single known more
knows place items true known more e = record { length_is = λ h. cc; stays = λ n h. cc }
knows place items false None more e = record { length_is = λ h. cc; stays = λ n h. cc }
knows place items false (Some m) more e = same (nat_eq (length items) m) refl e
  where
    same : (t : Bool) → nat_eq (length items) m ≡ t → where_allowed t SizeMismatch place (Ok (Some m)) ≡ Ok more → Knows items false (Some m) more
    same true q r = let is : length items ≡ m = eqb-true (length items) m q in record { length_is = λ h. cc; stays = λ n h. cc }
    same false q r = cc

-- each register has the length that is known at the end
pub record Ends (known : Option ℕ) (ss : List (Placed (Selected QubitId))) (last : Option ℕ) : Type 0 where
  pub all : All (λ (s : Placed (Selected QubitId)). s.thing.single ≡ false → last ≡ Some (length s.thing.items)) ss
  pub stays : (n : ℕ) → known ≡ Some n → last ≡ Some n

ends_more : (known : Option ℕ) (s : Placed (Selected QubitId)) (ss : List (Placed (Selected QubitId))) (last : Option ℕ) (r : Result (Option ℕ) Refusal) → length_with known s ≡ r
    → ((more : Option ℕ) → length_of_all more ss ≡ Ok last → Ends more ss last) → go_on r (λ more. length_of_all more ss) ≡ Ok last → Ends known (s ∷ ss) last
ends_more known s ss last (Err refusal) is later h = absurd cc
ends_more known s ss last (Ok more) is later h =
    let first : Knows s.thing.items s.thing.single known more = knows s.place s.thing.items s.thing.single known more is in
    let rest = later more h in
    record { all = each first rest; stays = λ n k. rest.stays n (first.stays n k) }
  where
    each : Knows s.thing.items s.thing.single known more → Ends more ss last → All (λ (s : Placed (Selected QubitId)). s.thing.single ≡ false → last ≡ Some (length s.thing.items)) (s ∷ ss)
    each first rest zero d lt h = rest.stays _ (first.length_is h)
    each first rest (suc k) d lt h = rest.all k d (omega arith) h

registers_are : (known : Option ℕ) (ss : List (Placed (Selected QubitId))) (last : Option ℕ) → length_of_all known ss ≡ Ok last → Ends known ss last
registers_are known [] last e = record { all = λ k d lt. absurd (omega arith); stays = λ n h. cc }
registers_are known (s ∷ ss) last e = ends_more known s ss last (length_with known s) refl (λ more h. registers_are more ss last h) e

-- a call is applied as often as each of its registers is long
times_are : (ss : List (Placed (Selected QubitId))) (times : ℕ) → times_of ss ≡ Ok times → All (λ (s : Placed (Selected QubitId)). s.thing.single ≡ false → length s.thing.items ≡ times) ss
times_are ss times e = of (length_of_all None ss) refl e
  where
    of : (r : Result (Option ℕ) Refusal) → length_of_all None ss ≡ r → go_on r (λ known. Ok (unwrap_or known 1)) ≡ Ok times
        → All (λ (s : Placed (Selected QubitId)). s.thing.single ≡ false → length s.thing.items ≡ times) ss
    of (Err refusal) is h = cc
    of (Ok last) is h = λ k d lt single.
        let is_last = (registers_are None ss last is).all k d lt single in
        let one : unwrap_or last 1 ≡ times = cc in
        rw is_last at one

-- every operand has a qubit in each application
has_qubit : (k times : ℕ) (s : Placed (Selected QubitId)) (single : Bool) → s.thing.single ≡ single → k < times → (s.thing.single ≡ true → length s.thing.items ≡ 1) → (s.thing.single ≡ false → length s.thing.items ≡ times)
    → (q : Placed QubitId) × (qubit_at k s ≡ Some q)
has_qubit k times s true is lt one all =
    let count = one is in
    let there = slice_get-get_or s.thing.items 0 (record { 0 = 0 }) (omega arith) in
    (placed s.place (get_or s.thing.items 0 (record { 0 = 0 })), rw (is, there) refl)
has_qubit k times s false is lt one all =
    let count = all is in
    let there = slice_get-get_or s.thing.items k (record { 0 = 0 }) (omega arith) in
    (placed s.place (get_or s.thing.items k (record { 0 = 0 })), rw (is, there) refl)

application_count : (k times : ℕ) (ss : List (Placed (Selected QubitId))) → k < times → Singles ss → All (λ (s : Placed (Selected QubitId)). s.thing.single ≡ false → length s.thing.items ≡ times) ss
    → length (application ss k) ≡ length ss
application_count k times [] lt ones all = refl
application_count k times (s ∷ ss) lt ones all =
    let first = has_qubit k times s s.thing.single refl lt (ones 0 s (omega arith)) (all 0 s (omega arith)) in
    let later = application_count k times ss lt (λ j d less. ones (suc j) d (omega arith)) (λ j d less. all (suc j) d (omega arith)) in
    rw first.1 (omega (arith, later))

-- an application has as many qubits as there are operands
pub application_length : (k times : ℕ) (ss : List (Placed (Selected QubitId))) → k < times → Singles ss → times_of ss ≡ Ok times → length (application ss k) ≡ length ss
application_length k times ss lt ones e = application_count k times ss lt ones (times_are ss times e)
