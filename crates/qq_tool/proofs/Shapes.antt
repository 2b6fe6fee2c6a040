-- The module of a thin program is shaped.
use Rattle.std.proofs.Common.{◌≡◌, ℕ, zero, suc, ◌&&◌, nat_lt, All, FitsSigned, w64, ◌+◌, ◌*◌, ◌<◌, ◌≤◌, ◌^◌, Bool, true, false, List, [], ◌∷◌, ◌++◌, length, replicate, slice_set, pos, codes, refl, ap, ◌∙◌, inl, arith, length-append, length-set}
use Rattle.std.specs.List.{AllByRecursion, list_all}
use Rattle.std.specs.Fmt.{decimal}
use Rattle.std.proofs.lemmas.Bool.{ltb-true}
use Rattle.std.proofs.lemmas.Grind.{get_or_default_zero}
use Rattle.std.proofs.lemmas.Int.{fits_signed_from_abs}
use Rattle.std.proofs.lemmas.List.{length-replicate}
use Rattle.std.proofs.lemmas.List.Elements.{All-nil, All-cons, All-append}
use Rattle.std.proofs.lemmas.Fmt.{digits_decimal, length-decimal-le_succ}
use Rattle.qir_module.specs.declared.instruction.Operand.{Operand}
use Rattle.qir_module.specs.declared.instruction.Operand.TheVariants.{Register, Fixed}
use Rattle.qir_module.specs.declared.function.Function.{Function}
use Rattle.qir_module.specs.Module.{IsNumber, IsWordOperand, IsTruth, IsFunction, IsShapedInstr, IsByte, IsLabel, IsShaped}
use Rattle.qq_tool.specs.declared.thin.ThinLine.{ThinLine}
use Rattle.qq_tool.specs.declared.thin.ThinLine.TheVariants.{Hadamard, Not, ControlledNot, Measure}
use Rattle.qq_tool.specs.Thin.{Thin, IsThin, IsWithin, bit_text}
use Rattle.qq_tool.specs.ThinRun.{label_of, bit_labels}
use Rattle.qq_tool.specs.Lowered.{lines_instrs, lines_count, lines_operands, bit_record_instrs, record_instrs, declared_if, declared_by, last_operands, lowered_body, lowered}
use Rattle.qq_tool.proofs.Numbers.{by_index}
use Rattle.qq_tool.proofs.Runs.{length-bit_labels}

all_append : {X : Type 0} (P : X → Type 0) (xs ys : List X) → AllByRecursion P xs → AllByRecursion P ys → AllByRecursion P (xs ++ ys)
all_append P [] ys first second = second
all_append P (x ∷ xs) ys first second = (first.0, all_append P xs ys first.1 second)

-- ---- how many there are

length-lines_instrs : (k : ℕ) (lines : List ThinLine) → length (lines_instrs k lines) ≤ 2 * length lines
length-lines_instrs k [] = omega arith
length-lines_instrs k (Hadamard qubit ∷ lines) = omega (arith, length-lines_instrs k lines)
length-lines_instrs k (Not qubit ∷ lines) = omega (arith, length-lines_instrs k lines)
length-lines_instrs k (ControlledNot control target ∷ lines) = omega (arith, length-lines_instrs k lines)
length-lines_instrs k (Measure qubit bit ∷ lines) = omega (arith, length-lines_instrs (suc k) lines)

pub length-lines_operands : (k : ℕ) (lines : List ThinLine) (operands : List Operand) → length (lines_operands k lines operands) ≡ length operands
length-lines_operands k [] operands = refl
length-lines_operands k (Hadamard qubit ∷ lines) operands = length-lines_operands k lines operands
length-lines_operands k (Not qubit ∷ lines) operands = length-lines_operands k lines operands
length-lines_operands k (ControlledNot control target ∷ lines) operands = length-lines_operands k lines operands
length-lines_operands k (Measure qubit bit ∷ lines) operands =
    length-lines_operands (suc k) lines (slice_set operands bit (Register k)) ∙ length-set operands bit (Register k)

pub length-last_operands : (p : Thin) → length (last_operands p) ≡ p.bits
length-last_operands p = length-lines_operands 0 p.lines (replicate p.bits (Fixed (pos 0))) ∙ length-replicate p.bits (Fixed (pos 0))

length-bit_record_instrs : (k : ℕ) (operands : List Operand) → length (bit_record_instrs k operands) ≡ length operands
length-bit_record_instrs k [] = refl
length-bit_record_instrs k (operand ∷ operands) = ap suc (length-bit_record_instrs (suc k) operands)

length-lowered_body : (p : Thin) → IsThin p → length (lowered_body p) ≤ 24098
length-lowered_body p thin =
    let records : length (bit_record_instrs 1 (last_operands p)) ≡ p.bits =
    length-bit_record_instrs 1 (last_operands p) ∙ length-last_operands p in
    omega (arith, length-append (lines_instrs 0 p.lines) (record_instrs (last_operands p)), length-lines_instrs 0 p.lines, records, thin.few_lines, thin.few_bits)

-- ---- each instruction

shaped_lines : (qubits bits k : ℕ) (lines : List ThinLine) → qubits ≤ 1024 → k + length lines ≤ 10000 → AllByRecursion (IsWithin qubits bits) lines → AllByRecursion IsShapedInstr (lines_instrs k lines)
shaped_lines qubits bits k [] small few within = tt
shaped_lines qubits bits k (Hadamard qubit ∷ lines) small few within =
    ((tt, omega arith, (omega (arith, within.0), tt)), shaped_lines qubits bits k lines small (omega arith) within.1)
shaped_lines qubits bits k (Not qubit ∷ lines) small few within =
    ((tt, omega arith, (omega (arith, within.0), tt)), shaped_lines qubits bits k lines small (omega arith) within.1)
shaped_lines qubits bits k (ControlledNot control target ∷ lines) small few within =
    ((tt, omega arith, (omega (arith, within.0.0), (omega (arith, within.0.1), tt))), shaped_lines qubits bits k lines small (omega arith) within.1)
shaped_lines qubits bits k (Measure qubit bit ∷ lines) small few within = (
  (tt, omega arith, (omega (arith, within.0.0), (omega arith, tt))),
  ((omega arith, omega arith, (omega arith, tt)), shaped_lines qubits bits (suc k) lines small (omega arith) within.1),
)

-- the operands of bits are truth values
first_operands : (n : ℕ) → AllByRecursion IsTruth (replicate n (Fixed (pos 0)))
first_operands zero = tt
first_operands (suc n) = (inl refl, first_operands n)

stored_operands : (operands : List Operand) (at k : ℕ) → IsNumber k → AllByRecursion IsTruth operands → AllByRecursion IsTruth (slice_set operands at (Register k))
stored_operands [] at k number truths = tt
stored_operands (operand ∷ operands) zero k number truths = (number, truths.1)
stored_operands (operand ∷ operands) (suc at) k number truths = (truths.0, stored_operands operands at k number truths.1)

truth_operands : (k : ℕ) (lines : List ThinLine) (operands : List Operand) → k + length lines ≤ 10000 → AllByRecursion IsTruth operands → AllByRecursion IsTruth (lines_operands k lines operands)
truth_operands k [] operands few truths = truths
truth_operands k (Hadamard qubit ∷ lines) operands few truths = truth_operands k lines operands (omega arith) truths
truth_operands k (Not qubit ∷ lines) operands few truths = truth_operands k lines operands (omega arith) truths
truth_operands k (ControlledNot control target ∷ lines) operands few truths = truth_operands k lines operands (omega arith) truths
truth_operands k (Measure qubit bit ∷ lines) operands few truths =
    truth_operands (suc k) lines (slice_set operands bit (Register k)) (omega arith) (stored_operands operands bit k (omega arith) truths)

shaped_bit_records : (k : ℕ) (operands : List Operand) → k + length operands ≤ 10000 → AllByRecursion IsTruth operands → AllByRecursion IsShapedInstr (bit_record_instrs k operands)
shaped_bit_records k [] few truths = tt
shaped_bit_records k (operand ∷ operands) few truths =
    ((tt, omega arith, (truths.0, (omega arith, tt))), shaped_bit_records (suc k) operands (omega arith) truths.1)

shaped_body : (p : Thin) → IsThin p → AllByRecursion IsShapedInstr (lowered_body p)
shaped_body p thin =
    let truths : AllByRecursion IsTruth (last_operands p) = truth_operands 0 p.lines (replicate p.bits (Fixed (pos 0))) (omega (arith, thin.few_lines)) (first_operands p.bits) in
    let count : length (last_operands p) ≤ 4096 = omega (arith, length-last_operands p, thin.few_bits) in
    let fits : length (last_operands p) < 2 ^ 63 = omega (arith, count) in
    let size : IsWordOperand (Fixed (pos (length (last_operands p)))) = fits_signed_from_abs w64 (pos (length (last_operands p))) fits in
    let records : AllByRecursion IsShapedInstr (record_instrs (last_operands p)) =
    ((tt, omega arith, (size, (omega arith, tt))), shaped_bit_records 1 (last_operands p) (omega (arith, count)) truths) in
    let lines : AllByRecursion IsShapedInstr (lines_instrs 0 p.lines) =
    shaped_lines p.qubits p.bits 0 p.lines thin.few_qubits (omega (arith, thin.few_lines)) thin.within in
    ((tt, omega arith, (omega arith, tt)), all_append IsShapedInstr (lines_instrs 0 p.lines) (record_instrs (last_operands p)) lines records)

-- ---- labels and declarations

-- bytes that pass the test are bytes
small_bytes : (bytes : List ℕ) → list_all (λ b. nat_lt b 256) bytes ≡ true → All IsByte bytes
small_bytes [] holds = All-nil IsByte
small_bytes (b ∷ bytes) holds = All-cons IsByte b bytes (ltb-true b 256 (both holds).0) (small_bytes bytes (both holds).1)
  where
    both : {x y : Bool} → (x && y) ≡ true → (x ≡ true) × (y ≡ true)
    both {x = true} h = (refl, h)
    both {x = false} h = cc

-- digits are bytes
digit_bytes : (n : ℕ) → n < 2 ^ 64 → All IsByte (decimal n)
digit_bytes n named k d within =
    let digit = digits_decimal by_index n named k within in
    rw (get_or_default_zero (decimal n) k d within) (omega (arith, digit))

-- a label's text is short
is_label : (text : List ℕ) → length text < 10000 → All IsByte text → IsLabel (label_of text)
is_label text short bytes =
    let long : length (text ++ 0 ∷ []) ≡ length text + 1 = length-append text (0 ∷ []) in
    (omega (arith, short, long), All-append IsByte text (0 ∷ []) bytes (small_bytes (0 ∷ []) refl), text, refl)

bit_bytes : (k : ℕ) → k < 2 ^ 64 → All IsByte (bit_text k)
bit_bytes k named =
    All-append IsByte (codes "c" ++ codes "[" ++ decimal k) (codes "]")
    (All-append IsByte (codes "c" ++ codes "[") (decimal k) (small_bytes (codes "c" ++ codes "[") refl) (digit_bytes k named))
    (small_bytes (codes "]") refl)

shaped_bit_labels : (k n : ℕ) → k + n ≤ 4096 → AllByRecursion IsLabel (bit_labels k n)
shaped_bit_labels k zero few = tt
shaped_bit_labels k (suc n) few =
    let named : k < 2 ^ 64 = omega (arith, few) in
    let digits : length (decimal k) ≤ k + 1 = length-decimal-le_succ k named in
    let text : length (bit_text k) ≡ 3 + length (decimal k) =
    length-append (codes "c" ++ codes "[" ++ decimal k) (codes "]") ∙ omega (arith, length-append (codes "c" ++ codes "[") (decimal k)) in
    let behind : suc k + n ≤ 4096 = omega (arith, few) in
    (is_label (bit_text k) (omega (arith, few, digits, text)) (bit_bytes k named), shaped_bit_labels (suc k) n behind)

shaped_if : (called : Bool) (n : ℕ) → n < 37 → AllByRecursion IsFunction (declared_if called n)
shaped_if true n within = (within, tt)
shaped_if false n within = tt

shaped_more : (functions : List Function) (called : Bool) (n : ℕ) → n < 37 → AllByRecursion IsFunction functions → AllByRecursion IsFunction (functions ++ declared_if called n)
shaped_more functions called n within shaped = all_append IsFunction functions (declared_if called n) shaped (shaped_if called n within)

shaped_declared_by : (lines : List ThinLine) → AllByRecursion IsFunction (declared_by lines)
shaped_declared_by lines = search (arith, shaped_more, shaped_if)

-- ---- the module

pub lines_count-le : (k : ℕ) (lines : List ThinLine) → lines_count k lines ≤ k + length lines
lines_count-le k [] = omega arith
lines_count-le k (Hadamard qubit ∷ lines) = omega (arith, lines_count-le k lines)
lines_count-le k (Not qubit ∷ lines) = omega (arith, lines_count-le k lines)
lines_count-le k (ControlledNot control target ∷ lines) = omega (arith, lines_count-le k lines)
lines_count-le k (Measure qubit bit ∷ lines) = omega (arith, lines_count-le (suc k) lines)

pub lowered_shaped : (p : Thin) → IsThin p → IsShaped (lowered p)
lowered_shaped p thin =
    let zero_word : FitsSigned w64 (pos 0) = fits_signed_from_abs w64 (pos 0) (omega arith) in
    record {
      has_block = omega arith;
      few_labels = omega (arith, length-bit_labels 0 p.bits, thin.few_bits);
      few_blocks = omega arith;
      few_items = omega (arith, length-lowered_body p thin);
      each_label = (is_label (codes "c") (omega arith) (small_bytes (codes "c") refl), shaped_bit_labels 0 p.bits (omega (arith, thin.few_bits)));
      each_block = ((omega arith, omega (arith, length-lowered_body p thin), tt, shaped_body p thin, zero_word), tt);
      each_declaration = shaped_declared_by p.lines;
      qubits = omega (arith, thin.few_qubits);
      results = omega (arith, lines_count-le 0 p.lines, thin.few_lines);
      major = omega arith;
      minor = omega arith;
    }
