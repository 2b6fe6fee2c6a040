-- Reading statements one after the other, as a loop does.
use Rattle.std.proofs.Common.{◌≡◌, ℕ, zero, suc, ◌<◌, true, false, eqb, List, [], ◌∷◌, ◌++◌, length, Option, Some, None, refl, ap, append_assoc, arith}
use Rattle.std.proofs.lemmas.Bool.{eqb-true, eqb-false}
use Rattle.std.proofs.lemmas.List.{append-nil}
use Rattle.qq_tool.specs.declared.thin.ThinLine.{ThinLine}
use Rattle.qq_tool.specs.Reading.{◌>>=◌, line_at, lines_at}

-- what was read before, and what is still read
abbrev pub with_front : List ThinLine → Option (List ThinLine) → Option (List ThinLine)
with_front front read = read >>= λ lines. Some (front ++ lines)

regroup : (front : List ThinLine) (l : ThinLine) (read : Option (List ThinLine)) → with_front front (read >>= λ lines. Some (l ∷ lines)) ≡ with_front (front ++ l ∷ []) read
regroup front l (Some lines) = ap (λ (ls : List ThinLine). Some ls) (simp append_assoc)
regroup front l None = refl

-- what a test of emptiness tells
pub nonempty : (n : ℕ) → eqb n 0 ≡ false → 0 < n
nonempty n e = let other = eqb-false n 0 e in omega (arith, other)

pub nothing : (n : ℕ) → eqb n 0 ≡ true → n ≡ 0
nothing n e = eqb-true n 0 e

module _ (qubits bits : ℕ) where
  -- with nothing left, what was read is all
  pub ends : (front : List ThinLine) (n : ℕ) (bytes : List ℕ) → length bytes ≡ 0 → with_front front (lines_at qubits bits n bytes) ≡ Some front
  unfolding lines_at
  ends front n [] e = ap (λ (ls : List ThinLine). Some ls) (append-nil front)
  ends front n (byte ∷ bytes) e = absurd (omega (arith, e))

  -- one more statement
  pub goes_on : (front : List ThinLine) (n : ℕ) (bytes : List ℕ) (l : ThinLine) (rest : List ℕ) → 0 < length bytes → line_at qubits bits bytes ≡ Some (l, rest)
      → with_front front (lines_at qubits bits (suc n) bytes) ≡ with_front (front ++ l ∷ []) (lines_at qubits bits n rest)
  unfolding lines_at
  goes_on front n [] l rest some e = absurd (omega (arith, some))
  goes_on front n (byte ∷ bytes) l rest some e = rw e (regroup front l (lines_at qubits bits n rest))

  -- no statement
  pub stops : (front : List ThinLine) (n : ℕ) (bytes : List ℕ) → 0 < length bytes → line_at qubits bits bytes ≡ None → with_front front (lines_at qubits bits n bytes) ≡ None
  unfolding lines_at
  stops front n [] some e = absurd (omega (arith, some))
  stops front zero (byte ∷ bytes) some e = refl
  stops front (suc n) (byte ∷ bytes) some e = rw e refl

  -- a statement too many
  pub is_full : (front : List ThinLine) (bytes : List ℕ) → 0 < length bytes → with_front front (lines_at qubits bits 0 bytes) ≡ None
  unfolding lines_at
  is_full front [] some = absurd (omega (arith, some))
  is_full front (byte ∷ bytes) some = refl
