-- How long a thin text is.
use Rattle.std.proofs.Common.{ℕ, ◌*◌, ◌<◌, ◌≤◌, List, [], ◌∷◌, length, inl, inr, ap, arith}
use Rattle.std.specs.Fmt.{decimal}
use Rattle.std.specs.List.{flat_map, AllByRecursion}
use Rattle.std.proofs.lemmas.List.{length-append}
use Rattle.std.proofs.lemmas.Fmt.{length-decimal-le}
use Rattle.qq_base.specs.declared.refusal.Refusal.{Refusal}
use Rattle.qq_tool.specs.declared.thin.ThinLine.{ThinLine}
use Rattle.qq_tool.specs.declared.thin.ThinLine.TheVariants.{Hadamard, Not, ControlledNot, Measure}
use Rattle.qq_tool.specs.Thin.{Thin, IsThin, IsWithin, IsThinText, line_text, header_text, thin_text}
use Rattle.qq_tool.specs.Refused.{IsRefused}
use Rattle.qq_tool.proofs.ThinPrograms.{programs_of_thin, programs_break_none}

short : (n : ℕ) → n < 10000 → length (decimal n) ≤ 4
short n small = length-decimal-le 4 n (omega arith) (omega arith) (omega arith)

length_line : (qubits bits : ℕ) (l : ThinLine) → qubits ≤ 1024 → bits ≤ 4096 → IsWithin qubits bits l → length (line_text l) ≤ 32
length_line qubits bits (Hadamard qubit) few few' within = simp length-append (omega (arith, short qubit (omega (arith, within))))
length_line qubits bits (Not qubit) few few' within = simp length-append (omega (arith, short qubit (omega (arith, within))))
length_line qubits bits (ControlledNot control target) few few' within =
    simp length-append (omega (arith, short control (omega (arith, within.0)), short target (omega (arith, within.1))))
length_line qubits bits (Measure qubit bit) few few' within =
    simp length-append (omega (arith, short qubit (omega (arith, within.0)), short bit (omega (arith, within.1))))

length_lines : (qubits bits : ℕ) (ls : List ThinLine) → qubits ≤ 1024 → bits ≤ 4096 → AllByRecursion (IsWithin qubits bits) ls → length (flat_map line_text ls) ≤ 32 * length ls
length_lines qubits bits [] few few' within = omega arith
length_lines qubits bits (l ∷ ls) few few' within =
    omega (arith, length-append (line_text l) (flat_map line_text ls), length_line qubits bits l few few' within.0, length_lines qubits bits ls few few' within.1)

length_header : (qubits bits : ℕ) → qubits ≤ 1024 → bits ≤ 4096 → length (header_text qubits bits) ≤ 200
length_header qubits bits few few' = simp length-append (omega (arith, short qubits (omega arith), short bits (omega arith)))

length_thin : (p : Thin) → IsThin p → length (thin_text p) ≤ 400000
length_thin p is =
    omega (
      arith,
      length-append (header_text p.qubits p.bits) (flat_map line_text p.lines),
      length_header p.qubits p.bits is.few_qubits is.few_bits,
      length_lines p.qubits p.bits p.lines is.few_qubits is.few_bits is.within,
      is.few_lines,
    )

pub not_refused : (bytes : List ℕ) (refusal : Refusal) → IsThinText bytes → ¬ IsRefused bytes refusal
not_refused bytes refusal (p, spells) (inl too_long) = absurd (omega (arith, ap length spells.text, length_thin p spells.thin, too_long.0))
not_refused bytes refusal thin (inr (short, inl broken)) = programs_break_none bytes refusal (programs_of_thin bytes thin) broken
not_refused bytes refusal thin (inr (short, inr other)) = other.1 thin
