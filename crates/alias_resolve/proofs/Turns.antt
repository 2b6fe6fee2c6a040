-- The places of a range, turn by turn.
use Rattle.std.proofs.Common.{◌≡◌, ◌≢◌, ℕ, suc, ◌<◌, ◌^◌, true, false, List, [], ◌∷◌, ◌++◌, length, ℤ, pos, ◌+ℤ◌, None, Some, Ok, Err, ◌∙◌, arith, FitsSigned, length-append}
use Rattle.std.specs.Int.{w128}
use Rattle.alias_resolve.specs.declared.select.SelectFault.{SelectFault}
use Rattle.alias_resolve.specs.Numbers.{has_passed, numbers_from, place_of}
use Rattle.alias_resolve.specs.Places.{places_in}
use Rattle.alias_resolve.proofs.Placing.{behind, behind-place, behind-outside, behind-end}
use Rattle.alias_resolve.proofs.Ranges.{numbers_from-goes, numbers_from-passed, has_passed-beyond}

module _ (fault_at : ℕ → SelectFault) (n : ℕ) (step stop number : ℤ) (places : List ℕ) where
  pub turn-passed : has_passed step stop number ≡ true → behind places (places_in fault_at n (length places) (numbers_from number step stop)) ≡ Ok places
  turn-passed passed = rw (numbers_from-passed number step stop passed) (behind-end fault_at n places (length places))

  module _ (ne : step ≢ pos 0) (goes : has_passed step stop number ≡ false) where
    pub turn-outside : place_of n number ≡ None → behind places (places_in fault_at n (length places) (numbers_from number step stop)) ≡ Err (fault_at (length places))
    turn-outside out = rw (numbers_from-goes number step stop ne goes) (behind-outside fault_at n places (length places) number (numbers_from (number +ℤ step) step stop) out)

    module _ (place : ℕ) (in_register : place_of n number ≡ Some place) where
      pub turn-place : behind places (places_in fault_at n (length places) (numbers_from number step stop)) ≡
          behind (places ++ place ∷ []) (places_in fault_at n (length (places ++ place ∷ [])) (numbers_from (number +ℤ step) step stop))
      turn-place =
          let longer : length (places ++ place ∷ []) ≡ suc (length places) = omega (arith, length-append places (place ∷ [])) in
          rw (numbers_from-goes number step stop ne goes, longer) (behind-place fault_at n places (length places) number (numbers_from (number +ℤ step) step stop) place in_register)

      pub turn-last : n < 2 ^ 32 → FitsSigned w128 step → FitsSigned w128 stop → (FitsSigned w128 (number +ℤ step) → ⊥) → behind places (places_in fault_at n (length places) (numbers_from number step stop)) ≡ Ok (places ++ place ∷ [])
      turn-last small fits there beyond =
          turn-place ∙ rw (numbers_from-passed (number +ℤ step) step stop (has_passed-beyond n place step stop number in_register small fits there beyond)) (behind-end fault_at n (places ++ place ∷ []) (length (places ++ place ∷ [])))
