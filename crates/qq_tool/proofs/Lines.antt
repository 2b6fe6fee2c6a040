-- Places and statements: what is read is spelled so, and what is spelled so is read, whatever follows.
use Rattle.std.proofs.Common.{◌≡◌, ◌≢◌, ℕ, ◌<◌, ◌≤◌, cond, eqb, ltb, List, ◌∷◌, ◌++◌, Option, Some, None, refl, sym, ap, subst, ◌∙◌, ◌⊎◌, inl, inr, append_assoc, arith}
use Rattle.std.specs.Prelude.{codes}
use Rattle.std.specs.Fmt.{decimal}
use Rattle.std.specs.Option.{option_or}
use Rattle.std.proofs.lemmas.Bool.{ltb-true, lt-ltb, eqb-false, ne_eqb}
use Rattle.qq_tool.specs.declared.thin.ThinLine.{ThinLine}
use Rattle.qq_tool.specs.declared.thin.ThinLine.TheVariants.{Hadamard, Not, ControlledNot, Measure}
use Rattle.qq_tool.specs.Thin.{line_text, IsWithin}
use Rattle.qq_tool.specs.Reading.{◌>>=◌, after, number_at, place_at, hadamard_at, not_at, controlled_not_at, measure_at, line_at}
use Rattle.qq_tool.proofs.Pieces.{bind_some, test_some, unless_some, some_is, after_takes, after_again}
use Rattle.qq_tool.proofs.Numbers.{number_takes, number_again}

-- a prefix, a number and a closing bracket, before more
abbrev pub spelled_place : List ℕ → ℕ → List ℕ → List ℕ
spelled_place before n rest = before ++ (decimal n ++ (93 ∷ rest))

pub record PlaceTaken (before : List ℕ) (limit : ℕ) (bytes : List ℕ) (n : ℕ) (rest : List ℕ) : Type 0 where
  pub text : bytes ≡ spelled_place before n rest
  pub below : n < limit

pub place_takes : (before : List ℕ) (limit : ℕ) (bytes : List ℕ) (x : ℕ × List ℕ) → place_at before limit bytes ≡ Some x → PlaceTaken before limit bytes x.0 x.1
unfolding place_at
place_takes before limit bytes x e =
    let a = bind_some (after before bytes) (λ behind. number_at behind >>= λ n. after (codes "]") n.1 >>= λ rest. cond (ltb n.0 limit) (Some (n.0, rest)) None) x e in
    let b = bind_some (number_at a.0) (λ n. after (codes "]") n.1 >>= λ rest. cond (ltb n.0 limit) (Some (n.0, rest)) None) x a.2 in
    let c = bind_some (after (codes "]") b.0.1) (λ rest. cond (ltb b.0.0 limit) (Some (b.0.0, rest)) None) x b.2 in
    let t = test_some (ltb b.0.0 limit) (Some (b.0.0, c.0)) x c.2 in
    let made : ℕ × List ℕ = (b.0.0, c.0) in
    let same : made ≡ x = some_is made x t.1 in
    let e1 = after_takes before bytes a.0 a.1 in
    let e2 = number_takes a.0 b.0.0 b.0.1 b.1 in
    let e3 = after_takes (codes "]") b.0.1 c.0 c.1 in
    let whole : bytes ≡ spelled_place before b.0.0 c.0 = e1 ∙ ap (λ (r : List ℕ). before ++ r) (e2 ∙ ap (λ (r : List ℕ). decimal b.0.0 ++ r) e3) in
    subst (λ (y : ℕ × List ℕ). PlaceTaken before limit bytes y.0 y.1) {x = made} same (record { text = whole; below = ltb-true b.0.0 limit t.0 })

pub place_again : (before : List ℕ) (limit n : ℕ) (rest : List ℕ) → n < limit → limit ≤ 10000 → place_at before limit (spelled_place before n rest) ≡ Some (n, rest)
unfolding place_at
place_again before limit n rest lt small =
    rw (after_again before (decimal n ++ (93 ∷ rest)), number_again n 93 rest (omega arith) refl, after_again (codes "]") rest, lt-ltb n limit lt) refl

-- ---- statements

abbrev pub Reads : ℕ → ℕ → List ℕ → ThinLine × List ℕ → Type 0
Reads qubits bits bytes x = (bytes ≡ line_text x.0 ++ x.1) × IsWithin qubits bits x.0

-- the pieces of a statement are its text
two_regrouped : (d e a m f z y rest : List ℕ) → d ++ (a ++ (m ++ (f ++ (e ++ (a ++ (z ++ (y ++ rest))))))) ≡ (((((d ++ a) ++ m) ++ (f ++ (e ++ a))) ++ z) ++ y) ++ rest
two_regrouped d e a m f z y rest = simp append_assoc

hadamard_text : (qubit : ℕ) (rest : List ℕ) → spelled_place (codes "h q[") qubit (codes ";\n" ++ rest) ≡ line_text (Hadamard qubit) ++ rest
hadamard_text qubit rest = simp append_assoc

not_text : (qubit : ℕ) (rest : List ℕ) → spelled_place (codes "x q[") qubit (codes ";\n" ++ rest) ≡ line_text (Not qubit) ++ rest
not_text qubit rest = simp append_assoc

controlled_not_text : (control target : ℕ) (rest : List ℕ) → spelled_place (codes "cx q[") control (spelled_place (codes ", q[") target (codes ";\n" ++ rest)) ≡ line_text (ControlledNot control target) ++ rest
controlled_not_text control target rest =
    ap (λ (t : List ℕ). codes "cx q[" ++ t) (two_regrouped (decimal control) (decimal target) (codes "]") (codes ", ") (codes "q[") (codes ";") (codes "\n") rest)

measure_text : (qubit bit : ℕ) (rest : List ℕ) → spelled_place (codes "c[") bit (spelled_place (codes " = measure q[") qubit (codes ";\n" ++ rest)) ≡ line_text (Measure qubit bit) ++ rest
measure_text qubit bit rest =
    ap (λ (t : List ℕ). codes "c[" ++ t) (two_regrouped (decimal bit) (decimal qubit) (codes "]") (codes " = measure ") (codes "q[") (codes ";") (codes "\n") rest)

hadamard_takes : (qubits bits : ℕ) (bytes : List ℕ) (x : ThinLine × List ℕ) → hadamard_at qubits bytes ≡ Some x → Reads qubits bits bytes x
unfolding hadamard_at
hadamard_takes qubits bits bytes x e =
    let a = bind_some (place_at (codes "h q[") qubits bytes) (λ qubit. after (codes ";\n") qubit.1 >>= λ rest. Some (Hadamard qubit.0, rest)) x e in
    let b = bind_some (after (codes ";\n") a.0.1) (λ rest. Some (Hadamard a.0.0, rest)) x a.2 in
    let p = place_takes (codes "h q[") qubits bytes a.0 a.1 in
    let q = after_takes (codes ";\n") a.0.1 b.0 b.1 in
    let made : ThinLine × List ℕ = (Hadamard a.0.0, b.0) in
    let same : made ≡ x = some_is made x b.2 in
    let text : bytes ≡ line_text (Hadamard a.0.0) ++ b.0 = p.text ∙ ap (spelled_place (codes "h q[") a.0.0) q ∙ hadamard_text a.0.0 b.0 in
    subst (λ (y : ThinLine × List ℕ). Reads qubits bits bytes y) {x = made} same (text, p.below)

hadamard_again : (qubits qubit : ℕ) (rest : List ℕ) → qubits ≤ 1024 → qubit < qubits → hadamard_at qubits (line_text (Hadamard qubit) ++ rest) ≡ Some (Hadamard qubit, rest)
unfolding hadamard_at
hadamard_again qubits qubit rest few lt =
    ap (hadamard_at qubits) (sym (hadamard_text qubit rest))
    ∙ rw (place_again (codes "h q[") qubits qubit (codes ";\n" ++ rest) lt (omega arith), after_again (codes ";\n") rest) refl

not_takes : (qubits bits : ℕ) (bytes : List ℕ) (x : ThinLine × List ℕ) → not_at qubits bytes ≡ Some x → Reads qubits bits bytes x
unfolding not_at
not_takes qubits bits bytes x e =
    let a = bind_some (place_at (codes "x q[") qubits bytes) (λ qubit. after (codes ";\n") qubit.1 >>= λ rest. Some (Not qubit.0, rest)) x e in
    let b = bind_some (after (codes ";\n") a.0.1) (λ rest. Some (Not a.0.0, rest)) x a.2 in
    let p = place_takes (codes "x q[") qubits bytes a.0 a.1 in
    let q = after_takes (codes ";\n") a.0.1 b.0 b.1 in
    let made : ThinLine × List ℕ = (Not a.0.0, b.0) in
    let same : made ≡ x = some_is made x b.2 in
    let text : bytes ≡ line_text (Not a.0.0) ++ b.0 = p.text ∙ ap (spelled_place (codes "x q[") a.0.0) q ∙ not_text a.0.0 b.0 in
    subst (λ (y : ThinLine × List ℕ). Reads qubits bits bytes y) {x = made} same (text, p.below)

not_again : (qubits qubit : ℕ) (rest : List ℕ) → qubits ≤ 1024 → qubit < qubits → not_at qubits (line_text (Not qubit) ++ rest) ≡ Some (Not qubit, rest)
unfolding not_at
not_again qubits qubit rest few lt =
    ap (not_at qubits) (sym (not_text qubit rest))
    ∙ rw (place_again (codes "x q[") qubits qubit (codes ";\n" ++ rest) lt (omega arith), after_again (codes ";\n") rest) refl

controlled_not_takes : (qubits bits : ℕ) (bytes : List ℕ) (x : ThinLine × List ℕ) → controlled_not_at qubits bytes ≡ Some x → Reads qubits bits bytes x
unfolding controlled_not_at
controlled_not_takes qubits bits bytes x e =
    let a = bind_some (place_at (codes "cx q[") qubits bytes) (λ control. place_at (codes ", q[") qubits control.1 >>= λ target. after (codes ";\n") target.1 >>= λ rest. cond (eqb control.0 target.0) None (Some (ControlledNot control.0 target.0, rest))) x e in
    let b = bind_some (place_at (codes ", q[") qubits a.0.1) (λ target. after (codes ";\n") target.1 >>= λ rest. cond (eqb a.0.0 target.0) None (Some (ControlledNot a.0.0 target.0, rest))) x a.2 in
    let c = bind_some (after (codes ";\n") b.0.1) (λ rest. cond (eqb a.0.0 b.0.0) None (Some (ControlledNot a.0.0 b.0.0, rest))) x b.2 in
    let t = unless_some (eqb a.0.0 b.0.0) (Some (ControlledNot a.0.0 b.0.0, c.0)) x c.2 in
    let p = place_takes (codes "cx q[") qubits bytes a.0 a.1 in
    let q = place_takes (codes ", q[") qubits a.0.1 b.0 b.1 in
    let r = after_takes (codes ";\n") b.0.1 c.0 c.1 in
    let made : ThinLine × List ℕ = (ControlledNot a.0.0 b.0.0, c.0) in
    let same : made ≡ x = some_is made x t.1 in
    let text : bytes ≡ line_text (ControlledNot a.0.0 b.0.0) ++ c.0 =
    p.text ∙ ap (spelled_place (codes "cx q[") a.0.0) (q.text ∙ ap (spelled_place (codes ", q[") b.0.0) r) ∙ controlled_not_text a.0.0 b.0.0 c.0 in
    subst (λ (y : ThinLine × List ℕ). Reads qubits bits bytes y) {x = made} same (text, (p.below, q.below, eqb-false a.0.0 b.0.0 t.0))

controlled_not_again : (qubits control target : ℕ) (rest : List ℕ) → qubits ≤ 1024 → control < qubits → target < qubits → control ≢ target
    → controlled_not_at qubits (line_text (ControlledNot control target) ++ rest) ≡ Some (ControlledNot control target, rest)
unfolding controlled_not_at
controlled_not_again qubits control target rest few lt lt' other =
    ap (controlled_not_at qubits) (sym (controlled_not_text control target rest))
    ∙ rw (
      place_again (codes "cx q[") qubits control (spelled_place (codes ", q[") target (codes ";\n" ++ rest)) lt (omega arith),
      place_again (codes ", q[") qubits target (codes ";\n" ++ rest) lt' (omega arith),
      after_again (codes ";\n") rest,
      ne_eqb control target other,
    ) refl

measure_takes : (qubits bits : ℕ) (bytes : List ℕ) (x : ThinLine × List ℕ) → measure_at qubits bits bytes ≡ Some x → Reads qubits bits bytes x
unfolding measure_at
measure_takes qubits bits bytes x e =
    let a = bind_some (place_at (codes "c[") bits bytes) (λ bit. place_at (codes " = measure q[") qubits bit.1 >>= λ qubit. after (codes ";\n") qubit.1 >>= λ rest. Some (Measure qubit.0 bit.0, rest)) x e in
    let b = bind_some (place_at (codes " = measure q[") qubits a.0.1) (λ qubit. after (codes ";\n") qubit.1 >>= λ rest. Some (Measure qubit.0 a.0.0, rest)) x a.2 in
    let c = bind_some (after (codes ";\n") b.0.1) (λ rest. Some (Measure b.0.0 a.0.0, rest)) x b.2 in
    let p = place_takes (codes "c[") bits bytes a.0 a.1 in
    let q = place_takes (codes " = measure q[") qubits a.0.1 b.0 b.1 in
    let r = after_takes (codes ";\n") b.0.1 c.0 c.1 in
    let made : ThinLine × List ℕ = (Measure b.0.0 a.0.0, c.0) in
    let same : made ≡ x = some_is made x c.2 in
    let text : bytes ≡ line_text (Measure b.0.0 a.0.0) ++ c.0 =
    p.text ∙ ap (spelled_place (codes "c[") a.0.0) (q.text ∙ ap (spelled_place (codes " = measure q[") b.0.0) r) ∙ measure_text b.0.0 a.0.0 c.0 in
    subst (λ (y : ThinLine × List ℕ). Reads qubits bits bytes y) {x = made} same (text, (q.below, p.below))

measure_again : (qubits bits qubit bit : ℕ) (rest : List ℕ) → qubits ≤ 1024 → bits ≤ 4096 → qubit < qubits → bit < bits
    → measure_at qubits bits (line_text (Measure qubit bit) ++ rest) ≡ Some (Measure qubit bit, rest)
unfolding measure_at
measure_again qubits bits qubit bit rest few few' lt lt' =
    ap (measure_at qubits bits) (sym (measure_text qubit bit rest))
    ∙ rw (
      place_again (codes "c[") bits bit (spelled_place (codes " = measure q[") qubit (codes ";\n" ++ rest)) lt' (omega arith),
      place_again (codes " = measure q[") qubits qubit (codes ";\n" ++ rest) lt (omega arith),
      after_again (codes ";\n") rest,
    ) refl

-- ---- a statement of any form

either : {A : Type 0} (o p : Option A) (x : A) → option_or o p ≡ Some x → (o ≡ Some x) ⊎ (p ≡ Some x)
either None p x e = inr e
either (Some y) p x e = inl e

pub line_takes : (qubits bits : ℕ) (bytes : List ℕ) (x : ThinLine × List ℕ) → line_at qubits bits bytes ≡ Some x → Reads qubits bits bytes x
unfolding line_at
line_takes qubits bits bytes x e =
    let h = hadamard_at qubits bytes in
    let n = not_at qubits bytes in
    let c = controlled_not_at qubits bytes in
    elim (either (option_or (option_or h n) c) (measure_at qubits bits bytes) x e) [
      | inr e4 ↦ measure_takes qubits bits bytes x e4
      | inl e3 ↦ elim (either (option_or h n) c x e3) [
        | inr e3 ↦ controlled_not_takes qubits bits bytes x e3
        | inl e2 ↦ elim (either h n x e2) [
          | inr e2 ↦ not_takes qubits bits bytes x e2
          | inl e1 ↦ hadamard_takes qubits bits bytes x e1
        ]
      ]
    ]

-- another first byte
other_place : (before : List ℕ) (limit : ℕ) (bytes : List ℕ) → after before bytes ≡ None → place_at before limit bytes ≡ None
unfolding place_at
other_place before limit bytes e = rw e refl

no_hadamard : (qubits : ℕ) (bytes : List ℕ) → after (codes "h q[") bytes ≡ None → hadamard_at qubits bytes ≡ None
unfolding hadamard_at
no_hadamard qubits bytes e = rw (other_place (codes "h q[") qubits bytes e) refl

no_not : (qubits : ℕ) (bytes : List ℕ) → after (codes "x q[") bytes ≡ None → not_at qubits bytes ≡ None
unfolding not_at
no_not qubits bytes e = rw (other_place (codes "x q[") qubits bytes e) refl

no_controlled_not : (qubits : ℕ) (bytes : List ℕ) → after (codes "cx q[") bytes ≡ None → controlled_not_at qubits bytes ≡ None
unfolding controlled_not_at
no_controlled_not qubits bytes e = rw (other_place (codes "cx q[") qubits bytes e) refl

pub line_again : (qubits bits : ℕ) (l : ThinLine) (rest : List ℕ) → qubits ≤ 1024 → bits ≤ 4096 → IsWithin qubits bits l → line_at qubits bits (line_text l ++ rest) ≡ Some (l, rest)
unfolding line_at after
line_again qubits bits (Hadamard qubit) rest few few' within = rw (hadamard_again qubits qubit rest few within) refl
line_again qubits bits (Not qubit) rest few few' within =
    rw (no_hadamard qubits (line_text (Not qubit) ++ rest) refl, not_again qubits qubit rest few within) refl
line_again qubits bits (ControlledNot control target) rest few few' within =
    let text = line_text (ControlledNot control target) ++ rest in
    rw (no_hadamard qubits text refl, no_not qubits text refl, controlled_not_again qubits control target rest few within.0 within.1 within.2) refl
line_again qubits bits (Measure qubit bit) rest few few' within =
    let text = line_text (Measure qubit bit) ++ rest in
    rw (no_hadamard qubits text refl, no_not qubits text refl, no_controlled_not qubits text refl, measure_again qubits bits qubit bit rest few few' within.0 within.1) refl
