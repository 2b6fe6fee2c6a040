-- Quotients, remainders and shifts to the right: exact on words of numbers in the range of signed or of unsigned words.
use Rattle.std.proofs.Common.{◌≡◌, ℕ, ◌/◌, ◌%◌, ◌^◌, ◌<◌, ◌≤◌, ℤ, pos, ◌<ℤ◌, FitsSigned, int_div, int_rem, unsigned_abs, sym, ap, ◌∙◌, arith}
use Rattle.std.proofs.Math.Nat.{div-le_self, mod-le, mod-eq_of_lt}
use Rattle.std.proofs.lemmas.Int.{ints, quot_fits, rem_below, fits_signed_from_abs}
use Rattle.std.specs.Int.{w64, cast_unsigned, cast_signed, int_shr}
use Rattle.std.specs.Int.Signed.{mag_shr}
use Rattle.qir_module.specs.Machine.{unsigned_word, Word}
use Rattle.machine_words.specs.Words.{word_of}
use Rattle.machine_words.proofs.Words.{word_fits, word_of_unsigned, unsigned_of_word}

-- ---- signed

pub quotient_signed : (x : ℤ) (k : ℕ) → FitsSigned w64 x → 0 < k → int_div (word_of x) (pos k) ≡ word_of (int_div x (pos k))
quotient_signed x k f h =
    let positive : pos 0 <ℤ pos k = omega (arith, ints) in
    ap (λ y. int_div y (pos k)) (word_fits x f) ∙ sym (word_fits (int_div x (pos k)) (quot_fits w64 x (pos k) f positive))

pub rest_signed : (x : ℤ) (k : ℕ) → FitsSigned w64 x → 0 < k → k < 2 ^ 63 → int_rem (word_of x) (pos k) ≡ word_of (int_rem x (pos k))
rest_signed x k f h l =
    let below : unsigned_abs (int_rem x (pos k)) < k = rem_below x (pos k) h in
    ap (λ y. int_rem y (pos k)) (word_fits x f) ∙ sym (word_fits (int_rem x (pos k)) (fits_signed_from_abs w64 (int_rem x (pos k)) (omega arith)))

pub right_signed : (x : ℤ) (k : ℕ) → FitsSigned w64 x → int_shr (word_of x) k ≡ word_of (int_shr x k)
right_signed x k f =
    let most = mag_shr x (2 ^ k) in
    let small = f.sfits in
    ap (λ y. int_shr y k) (word_fits x f) ∙ sym (word_fits (int_shr x k) (record { sfits = omega (arith, most, small) }))

-- ---- unsigned

unsigned_word_is : (n : ℕ) → n < 2 ^ 64 → unsigned_word n ≡ Word (word_of (pos n))
unsigned_word_is n h = ap Word (ap (cast_signed w64) (mod-eq_of_lt h) ∙ word_of_unsigned n h)

pub quotient_unsigned : (n k : ℕ) → n < 2 ^ 64 → unsigned_word (cast_unsigned w64 (word_of (pos n)) / k) ≡ Word (word_of (pos (n / k)))
quotient_unsigned n k h =
    let less : n / k ≤ n = div-le_self n k in
    ap (λ m. unsigned_word (m / k)) (unsigned_of_word n h) ∙ unsigned_word_is (n / k) (omega arith)

pub rest_unsigned : (n k : ℕ) → n < 2 ^ 64 → unsigned_word (cast_unsigned w64 (word_of (pos n)) % k) ≡ Word (word_of (pos (n % k)))
rest_unsigned n k h =
    let less : n % k ≤ n = mod-le n k in
    ap (λ m. unsigned_word (m % k)) (unsigned_of_word n h) ∙ unsigned_word_is (n % k) (omega arith)
