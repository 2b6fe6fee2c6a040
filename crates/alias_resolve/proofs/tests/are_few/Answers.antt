use Rattle.std.proofs.Common.{ℕ, zero, suc, ◌≡◌, ◌+◌, ◌<◌, List, [], ◌∷◌, length, get_or, refl, sym, ◌∙◌, subst, ap, arith, rules, nat_lt, Bool, true, false}
use Rattle.std.proofs.lemmas.Grind.{common_steps}
use Rattle.alias_resolve.specs.declared.index.IndexValue.{IndexValue}
use Rattle.alias_resolve.specs.Places.{HasFewMembers}
use Rattle.alias_resolve.proofs.tests.are_few.Goals as goal

-- within a list the default does not matter
get_or_same : (xs : List IndexValue) (k : ℕ) (d e : IndexValue) → k < length xs → get_or xs k d ≡ get_or xs k e
get_or_same [] k d e lt = absurd (omega arith)
get_or_same (x ∷ xs) zero d e lt = refl
get_or_same (x ∷ xs) (suc k) d e lt = get_or_same xs k d e (omega arith)

few_more : (xs : List IndexValue) (i : ℕ) (x : IndexValue) → i < length xs → x ≡ get_or xs i x → HasFewMembers x
    → ((k : ℕ) (d : IndexValue) → k < i → HasFewMembers (get_or xs k d)) → (k : ℕ) (d : IndexValue) → k < i + 1 → HasFewMembers (get_or xs k d)
few_more xs i x lt is few all k d below = by (nat_lt k i) refl
  where
    by : (b : Bool) → nat_lt k i ≡ b → HasFewMembers (get_or xs k d)
    by true e = all k d (grind (arith, common_steps))
    by false e =
        let same : k ≡ i = grind (arith, common_steps) in
        let here : x ≡ get_or xs k d = is ∙ get_or_same xs i x d lt ∙ ap (λ (j : ℕ). get_or xs j d) (sym same) in
        subst HasFewMembers here few

pub loop-bracket-preserved : goal.loop-bracket-preserved
loop-bracket-preserved c =
    few_more c.args.brackets.now c.loop-bracket.bracket-index c.bracket-item.result c.loop-bracket-test.true c.bracket-item.is (c.is_small.ensures (search rules)) c.loop-bracket.invariant
