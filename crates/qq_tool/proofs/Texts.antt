-- Whole texts: what is read is spelled so, and what is spelled so is read.
use Rattle.std.proofs.Common.{◌≡◌, ℕ, zero, suc, ◌<◌, ◌≤◌, cond, eqb, List, [], ◌∷◌, ◌++◌, length, Option, Some, None, refl, sym, ap, subst, ◌∙◌, append_assoc, arith}
use Rattle.std.specs.Prelude.{codes}
use Rattle.std.specs.Fmt.{decimal}
use Rattle.std.specs.List.{flat_map, AllByRecursion}
use Rattle.std.proofs.lemmas.Bool.{eqb-false, ne_eqb}
use Rattle.qq_tool.specs.declared.thin.ThinLine.{ThinLine}
use Rattle.qq_tool.specs.declared.thin.ThinLine.TheVariants.{Hadamard, Not, ControlledNot, Measure}
use Rattle.qq_tool.specs.Thin.{Thin, IsThin, IsWithin, Spells, IsThinText, line_text, header_text, thin_text}
use Rattle.qq_tool.specs.Reading.{◌>>=◌, after, place_at, line_at, lines_at, sizes_at}
use Rattle.qq_tool.proofs.Pieces.{bind_some, unless_some, some_is, after_takes, after_again}
use Rattle.qq_tool.proofs.Lines.{spelled_place, place_takes, place_again, line_takes, line_again}

-- ---- statements, one after the other

pub record LinesTaken (qubits bits n : ℕ) (bytes : List ℕ) (ls : List ThinLine) : Type 0 where
  pub text : bytes ≡ flat_map line_text ls
  pub within : AllByRecursion (IsWithin qubits bits) ls
  pub few : length ls ≤ n

pub lines_take : (qubits bits n : ℕ) (bytes : List ℕ) (ls : List ThinLine) → lines_at qubits bits n bytes ≡ Some ls → LinesTaken qubits bits n bytes ls
unfolding lines_at
lines_take qubits bits n [] ls e =
    subst (λ (ls' : List ThinLine). LinesTaken qubits bits n [] ls') {x = []} (some_is [] ls e) (record { text = refl; within = tt; few = omega arith })
lines_take qubits bits zero (byte ∷ bytes) ls e = absurd cc
lines_take qubits bits (suc n) (byte ∷ bytes) ls e =
    let a = bind_some (line_at qubits bits (byte ∷ bytes)) (λ first. lines_at qubits bits n first.1 >>= λ others. Some (first.0 ∷ others)) ls e in
    let b = bind_some (lines_at qubits bits n a.0.1) (λ others. Some (a.0.0 ∷ others)) ls a.2 in
    let first = line_takes qubits bits (byte ∷ bytes) a.0 a.1 in
    let others = lines_take qubits bits n a.0.1 b.0 b.1 in
    let whole : byte ∷ bytes ≡ line_text a.0.0 ++ flat_map line_text b.0 = first.0 ∙ ap (λ (t : List ℕ). line_text a.0.0 ++ t) others.text in
    let fits : suc (length b.0) ≤ suc n = omega (arith, others.few) in
    subst (λ (ls' : List ThinLine). LinesTaken qubits bits (suc n) (byte ∷ bytes) ls') {x = a.0.0 ∷ b.0} (some_is (a.0.0 ∷ b.0) ls b.2)
    (record { text = whole; within = (first.1, others.within); few = fits })

one_more : (qubits bits n : ℕ) (bytes : List ℕ) → 0 < length bytes
    → lines_at qubits bits (suc n) bytes ≡ (line_at qubits bits bytes >>= λ first. lines_at qubits bits n first.1 >>= λ others. Some (first.0 ∷ others))
unfolding lines_at
one_more qubits bits n [] some = absurd (omega (arith, some))
one_more qubits bits n (byte ∷ bytes) some = refl

some_bytes : (l : ThinLine) (rest : List ℕ) → 0 < length (line_text l ++ rest)
some_bytes (Hadamard qubit) rest = omega arith
some_bytes (Not qubit) rest = omega arith
some_bytes (ControlledNot control target) rest = omega arith
some_bytes (Measure qubit bit) rest = omega arith

pub lines_again : (qubits bits n : ℕ) (ls : List ThinLine) → qubits ≤ 1024 → bits ≤ 4096 → length ls ≤ n → AllByRecursion (IsWithin qubits bits) ls
    → lines_at qubits bits n (flat_map line_text ls) ≡ Some ls
unfolding lines_at
lines_again qubits bits n [] few few' fits within = refl
lines_again qubits bits zero (l ∷ ls) few few' fits within = absurd (omega (arith, fits))
lines_again qubits bits (suc n) (l ∷ ls) few few' fits within =
    let rest = flat_map line_text ls in
    one_more qubits bits n (line_text l ++ rest) (some_bytes l rest)
    ∙ rw (line_again qubits bits l rest few few' within.0, lines_again qubits bits n ls few few' (omega (arith, fits)) within.1) refl

-- ---- the declarations

abbrev opening : List ℕ
opening = codes "OPENQASM 3.0;\ninclude \"stdgates.inc\";\n"

header_regrouped : (d e s y f t rest : List ℕ) → d ++ (s ++ (y ++ (f ++ (e ++ (t ++ (y ++ rest)))))) ≡ (((d ++ s) ++ y) ++ (f ++ ((e ++ t) ++ y))) ++ rest
header_regrouped d e s y f t rest = simp append_assoc

header_is : (qubits bits : ℕ) (rest : List ℕ)
    → opening ++ spelled_place (codes "qubit[") qubits (codes " q;\n" ++ spelled_place (codes "bit[") bits (codes " c;\n" ++ rest)) ≡ header_text qubits bits ++ rest
header_is qubits bits rest =
    ap (λ (t : List ℕ). (opening ++ codes "qubit[") ++ t) (header_regrouped (decimal qubits) (decimal bits) (codes "] q;") (codes "\n") (codes "bit[") (codes "] c;") rest)

pub record SizesTaken (bytes : List ℕ) (qubits bits : ℕ) (rest : List ℕ) : Type 0 where
  pub text : bytes ≡ header_text qubits bits ++ rest
  pub some_qubits : 1 ≤ qubits
  pub few_qubits : qubits ≤ 1024
  pub some_bits : 1 ≤ bits
  pub few_bits : bits ≤ 4096

pub sizes_take : (bytes : List ℕ) (x : ℕ × ℕ × List ℕ) → sizes_at bytes ≡ Some x → SizesTaken bytes x.0 x.1 x.2
unfolding sizes_at
sizes_take bytes x e =
    let ended = λ (qubits : ℕ) (bits : ℕ) (rest : List ℕ). cond (eqb qubits 0) None (cond (eqb bits 0) None (Some (qubits, bits, rest))) in
    let behind_bits = λ (qubits : ℕ) (bits : ℕ × List ℕ). after (codes " c;\n") bits.1 >>= λ rest. ended qubits bits.0 rest in
    let behind_between = λ (qubits : ℕ) (between : List ℕ). place_at (codes "bit[") 4097 between >>= λ bits. behind_bits qubits bits in
    let behind_qubits = λ (qubits : ℕ × List ℕ). after (codes " q;\n") qubits.1 >>= λ between. behind_between qubits.0 between in
    let a = bind_some (after opening bytes) (λ opened. place_at (codes "qubit[") 1025 opened >>= λ qubits. behind_qubits qubits) x e in
    let b = bind_some (place_at (codes "qubit[") 1025 a.0) (λ qubits. behind_qubits qubits) x a.2 in
    let c = bind_some (after (codes " q;\n") b.0.1) (λ between. behind_between b.0.0 between) x b.2 in
    let d = bind_some (place_at (codes "bit[") 4097 c.0) (λ bits. behind_bits b.0.0 bits) x c.2 in
    let f = bind_some (after (codes " c;\n") d.0.1) (λ rest. ended b.0.0 d.0.0 rest) x d.2 in
    let t = unless_some (eqb b.0.0 0) (cond (eqb d.0.0 0) None (Some (b.0.0, d.0.0, f.0))) x f.2 in
    let u = unless_some (eqb d.0.0 0) (Some (b.0.0, d.0.0, f.0)) x t.1 in
    let made : ℕ × ℕ × List ℕ = (b.0.0, d.0.0, f.0) in
    let same : made ≡ x = some_is made x u.1 in
    let p = place_takes (codes "qubit[") 1025 a.0 b.0 b.1 in
    let q = place_takes (codes "bit[") 4097 c.0 d.0 d.1 in
    let inner : b.0.1 ≡ codes " q;\n" ++ spelled_place (codes "bit[") d.0.0 (codes " c;\n" ++ f.0) =
    after_takes (codes " q;\n") b.0.1 c.0 c.1 ∙ ap (λ (r : List ℕ). codes " q;\n" ++ r) (q.text ∙ ap (spelled_place (codes "bit[") d.0.0) (after_takes (codes " c;\n") d.0.1 f.0 f.1)) in
    let whole : bytes ≡ header_text b.0.0 d.0.0 ++ f.0 =
    after_takes opening bytes a.0 a.1 ∙ ap (λ (r : List ℕ). opening ++ r) (p.text ∙ ap (spelled_place (codes "qubit[") b.0.0) inner) ∙ header_is b.0.0 d.0.0 f.0 in
    let qubits_not_0 = eqb-false b.0.0 0 t.0 in
    let bits_not_0 = eqb-false d.0.0 0 u.0 in
    subst (λ (y : ℕ × ℕ × List ℕ). SizesTaken bytes y.0 y.1 y.2) same
    (record { text = whole; some_qubits = omega (arith, qubits_not_0); few_qubits = omega (arith, p.below); some_bits = omega (arith, bits_not_0); few_bits = omega (arith, q.below) })

pub sizes_again : (qubits bits : ℕ) (rest : List ℕ) → 1 ≤ qubits → qubits ≤ 1024 → 1 ≤ bits → bits ≤ 4096 → sizes_at (header_text qubits bits ++ rest) ≡ Some (qubits, bits, rest)
unfolding sizes_at
sizes_again qubits bits rest some few some' few' =
    let behind_bits = codes " c;\n" ++ rest in
    let behind_qubits = codes " q;\n" ++ spelled_place (codes "bit[") bits behind_bits in
    ap sizes_at (sym (header_is qubits bits rest))
    ∙ rw (
      after_again opening (spelled_place (codes "qubit[") qubits behind_qubits),
      place_again (codes "qubit[") 1025 qubits behind_qubits (omega arith) (omega arith),
      after_again (codes " q;\n") (spelled_place (codes "bit[") bits behind_bits),
      place_again (codes "bit[") 4097 bits behind_bits (omega arith) (omega arith),
      after_again (codes " c;\n") rest,
      ne_eqb qubits 0 (λ h. absurd (omega arith)),
      ne_eqb bits 0 (λ h. absurd (omega arith)),
    ) refl

-- ---- whole texts

abbrev pub program_of : ℕ × ℕ × List ℕ → Option Thin
program_of x = lines_at x.0 x.1 10000 x.2 >>= λ ls. Some (record { qubits = x.0; bits = x.1; lines = ls })

-- the program of a text, if it is a thin text
abbrev pub thin_at : List ℕ → Option Thin
thin_at bytes = sizes_at bytes >>= program_of

pub thin_again : (p : Thin) → IsThin p → thin_at (thin_text p) ≡ Some p
thin_again p is =
    rw (
      sizes_again p.qubits p.bits (flat_map line_text p.lines) is.some_qubits is.few_qubits is.some_bits is.few_bits,
      lines_again p.qubits p.bits 10000 p.lines is.few_qubits is.few_bits is.few_lines is.within,
    ) refl

pub spelled_is_read : (bytes : List ℕ) (p : Thin) → Spells bytes p → thin_at bytes ≡ Some p
spelled_is_read bytes p spells = ap thin_at spells.text ∙ thin_again p spells.thin

pub no_text : (bytes : List ℕ) → thin_at bytes ≡ None → ¬ IsThinText bytes
no_text bytes e (p, spells) = let found = spelled_is_read bytes p spells in absurd cc

pub no_sizes : (bytes : List ℕ) → sizes_at bytes ≡ None → ¬ IsThinText bytes
no_sizes bytes e = no_text bytes (rw e refl)

pub no_lines : (bytes : List ℕ) (qubits bits : ℕ) (rest : List ℕ) → sizes_at bytes ≡ Some (qubits, bits, rest) → lines_at qubits bits 10000 rest ≡ None → ¬ IsThinText bytes
no_lines bytes qubits bits rest e e' = no_text bytes (rw (e, e') refl)

pub is_spelled : (bytes : List ℕ) (qubits bits : ℕ) (rest : List ℕ) (ls : List ThinLine) → sizes_at bytes ≡ Some (qubits, bits, rest) → lines_at qubits bits 10000 rest ≡ Some ls
    → Spells bytes (record { qubits = qubits; bits = bits; lines = ls })
is_spelled bytes qubits bits rest ls e e' =
    let sizes = sizes_take bytes (qubits, bits, rest) e in
    let lines = lines_take qubits bits 10000 rest ls e' in
    record {
      thin = record { some_qubits = sizes.some_qubits; few_qubits = sizes.few_qubits; some_bits = sizes.some_bits; few_bits = sizes.few_bits; few_lines = lines.few; within = lines.within };
      text = sizes.text ∙ ap (λ (r : List ℕ). header_text qubits bits ++ r) lines.text;
    }

pub one_program_of : (bytes : List ℕ) (p q : Thin) → Spells bytes p → Spells bytes q → p ≡ q
one_program_of bytes p q spells spells' = some_is p q (sym (spelled_is_read bytes p spells) ∙ spelled_is_read bytes q spells')
