use Rattle.std.proofs.Common.{◌≡◌, ℕ, ◌+◌, ◌-◌, ◌++◌, subst, inl, inr, arith, rules}
use Rattle.std.proofs.lemmas.Bool.{cases_lt}
use Rattle.std.proofs.lemmas.List.{length-take-le}
use Rattle.core_ir.specs.WellFormed.{bodies_in, times}
use Rattle.core_ir.proofs.standing.stand_once.Goals as goal

pub loop-start-preserved : goal.loop-start-preserved
loop-start-preserved c = (
  omega arith,
  (λ k l. elim (cases_lt k c.loop-start.start) [
    | inl before ↦ c.loop-start.invariant.1 k before
    | inr behind ↦ (
        let back : c.loop-start.start + (k - c.loop-start.start) ≡ k = omega arith in
        subst (λ (n : ℕ). times n (c.args.body.now ++ bodies_in c.args.stmts.now) ≡ 1) back (c.stand_from.ensures.0 (search rules) (k - c.loop-start.start) (omega (arith, length-take-le c.min-size.result c.loop-start.seen (omega arith)))))
  ]),
)
