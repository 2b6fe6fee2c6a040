use Rattle.std.proofs.Common.{rules}
use Rattle.std.proofs.lemmas.Nat.Gcd.{IsGcd-from_mod, IsGcd-from_zero}
use Rattle.std.proofs.Common.{refl}
use Rattle.angle_arith.proofs.fraction.PiFraction.tau.Goals as goal

pub invariant_of-result : goal.invariant_of-result
invariant_of-result c = record { small = search rules; coprime = IsGcd-from_mod 2 1 1 (IsGcd-from_zero 1 0 refl) }
