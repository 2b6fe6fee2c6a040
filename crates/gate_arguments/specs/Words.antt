-- Serves private contracts alone: words of 64 bits with sign, and what turns are worth, in lemmas.
use Rattle.std.proofs.Common.{◌≡◌, ℕ, suc, ◌+◌, ◌-◌, ◌%◌, ◌<◌, List, length, get_or, ℤ, pos, negsuc, neg_ℤ, ◌+ℤ◌, ◌-ℤ◌, ◌*ℤ◌, ◌≤ℤ◌, ◌<ℤ◌, ◌↔◌, refl, sym, ap, ◌∙◌, arith}
use Rattle.std.specs.Int.{int_rem_euclid}
use Rattle.std.specs.Int.RustNames.{int_div}
use Rattle.std.proofs.Math.Nat.{mod-eq_of_lt, mod-lt}
use Rattle.std.proofs.lemmas.Int.{ints, int_rem_euclid_is}
use Rattle.std.proofs.lemmas.Option.{slice_get-get_or}
use Rattle.word_arith.specs.Whole.{IsCongruent}
use Rattle.gate_lists.specs.declared.expansion.TurnExpr.{TurnExpr}
use Rattle.gate_lists.specs.declared.expansion.TurnExpr.TheVariants as turn
use Rattle.gate_lists.specs.Growing.{AreWorths}
use Rattle.gate_lists.specs.Turns.{worth_by}
use Rattle.gate_lists.specs.Units.{word_of}

some : 0 < 18446744073709551616
some = omega arith

rest_inside : (x : ℤ) → (pos 0 ≤ℤ int_rem_euclid x (pos 18446744073709551616)) × (int_rem_euclid x (pos 18446744073709551616) <ℤ pos 18446744073709551616)
rest_inside (pos a) = (omega (arith, ints), omega (arith, ints, mod-lt a some))
rest_inside (negsuc a) = (omega (arith, ints), omega (arith, ints, mod-lt a some))

-- a word lies from -2^63 up to 2^63 - 1
pub word_inside : (x : ℤ) → (negsuc 9223372036854775807 ≤ℤ word_of x) × (word_of x <ℤ pos 9223372036854775808)
word_inside x =
    let inside = rest_inside (x -ℤ negsuc 9223372036854775807) in
    (omega (arith, ints, inside.0, inside.1), omega (arith, ints, inside.0, inside.1))

above_low : (x : ℤ) → negsuc 9223372036854775807 ≤ℤ x → (m : ℕ) × (x -ℤ negsuc 9223372036854775807 ≡ pos m)
above_low (pos a) h = (a + 9223372036854775808, omega (arith, ints))
above_low (negsuc a) h = (9223372036854775808 - suc a, omega (arith, ints))

-- a number there is its own word
pub word_of_small : (x : ℤ) → negsuc 9223372036854775807 ≤ℤ x → x <ℤ pos 9223372036854775808 → word_of x ≡ x
word_of_small x above below =
    let m = above_low x above in
    let lt : m.0 < 18446744073709551616 = omega (arith, ints, m.1) in
    let rest : int_rem_euclid (x -ℤ negsuc 9223372036854775807) (pos 18446744073709551616) ≡ pos (m.0 % 18446744073709551616) =
    int_rem_euclid_is (x -ℤ negsuc 9223372036854775807) (pos 18446744073709551616) 18446744073709551616 0 m.0 (omega arith) refl (omega (arith, ints, m.1)) in
    let same : pos (m.0 % 18446744073709551616) ≡ pos m.0 = ap pos (mod-eq_of_lt lt) in
    ap (λ (z : ℤ). negsuc 9223372036854775807 +ℤ z) (rest ∙ same) ∙ omega (arith, ints, m.1)

pub word_of_word : (x : ℤ) → word_of (word_of x) ≡ word_of x
word_of_word x = let inside = word_inside x in word_of_small (word_of x) inside.0 inside.1

-- ---- worths

worth_is_word : (given worths : ℕ → ℤ) (t : TurnExpr) → word_of (worth_by given worths t) ≡ worth_by given worths t
worth_is_word given worths (turn.Outer k) = word_of_word (given k)
worth_is_word given worths (turn.Fixed z) = word_of_word z
worth_is_word given worths (turn.Neg a) = word_of_word (neg_ℤ (worths a))
worth_is_word given worths (turn.Add a b) = word_of_word (worths a +ℤ worths b)
worth_is_word given worths (turn.Sub a b) = word_of_word (worths a -ℤ worths b)
worth_is_word given worths (turn.Mul a k) = word_of_word (worths a *ℤ k)
worth_is_word given worths (turn.Div a k) = word_of_word (int_div (worths a) k)

-- a turn that is there is worth a word
pub worth_of_turn : (given worths : ℕ → ℤ) (turns : List TurnExpr) (k : ℕ) → AreWorths given worths turns → k < length turns → word_of (worths k) ≡ worths k
worth_of_turn given worths turns k are lt =
    let t = get_or turns k (turn.Fixed (pos 0)) in
    let e : worths k ≡ worth_by given worths t = are.each k t (slice_get-get_or turns k (turn.Fixed (pos 0)) lt) in
    ap word_of e ∙ worth_is_word given worths t ∙ sym e

-- a product with a word is that with the number, modulo 2^64
pub product_with_word : (products : (m : ℕ) (a b c d : ℤ) → IsCongruent m a b → IsCongruent m c d → IsCongruent m (a *ℤ c) (b *ℤ d))
    → (one : (x y : ℤ) → IsCongruent 18446744073709551616 x y ↔ (word_of x ≡ word_of y)) → (x z : ℤ) → word_of (x *ℤ word_of z) ≡ word_of (word_of x *ℤ z)
product_with_word products one x z =
    let first = (one x (word_of x)).1 (sym (word_of_word x)) in
    let second = (one (word_of z) z).1 (word_of_word z) in
    (one (x *ℤ word_of z) (word_of x *ℤ z)).0 (products 18446744073709551616 x (word_of x) (word_of z) z first second)
