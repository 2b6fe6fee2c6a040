-- Kinds of types, and tests of numbers.
use Rattle.std.proofs.Common.{ℕ, ℤ, pos, negsuc, arith}
use Rattle.std.proofs.lemmas.Int.{ints}
use Rattle.std.specs.Bool.{Decides}
use Rattle.qasm_types.specs.declared.ty.Ty.{Ty}
use Rattle.qasm_types.specs.declared.ty.Ty.TheVariants as t
use Rattle.qasm_types.specs.Types.{IsTruth, IsWord}
use Rattle.qasm_types.specs.Casts.{IsPattern}
use Rattle.qasm_types.specs.Plans.{is_pattern}

-- a word is one of two, and so is a truth value
pub word_cases : (P : Ty → Type 0) → ((n : ℕ) → P (t.Int n)) → ((n : ℕ) → P (t.Uint n)) → (a : Ty) → IsWord a → P a
word_cases P int uint (t.Int n) h = int n
word_cases P int uint (t.Uint n) h = uint n
word_cases P int uint _ h = absurd h

pub truth_cases : (P : Ty → Type 0) → P t.Bool → P t.Bit → (a : Ty) → IsTruth a → P a
truth_cases P bool bit t.Bool h = bool
truth_cases P bool bit t.Bit h = bit
truth_cases P bool bit _ h = absurd h

pub Decides-is_pattern : (v : ℤ) (n : ℕ) → Decides (is_pattern v n) (IsPattern v n)
Decides-is_pattern (pos k) n = (λ e. (omega (arith, ints), grind (arith, ints)), λ h. grind (arith, ints))
Decides-is_pattern (negsuc k) n = (λ e. absurd cc, λ h. absurd (omega (arith, ints, h.0)))
