-- One draw more, and one line more.
use Rattle.std.proofs.Common.{◌≡◌, ℕ, suc, ◌+◌, ◌-◌, ◌*◌, ◌<◌, Bool, List, [], ◌∷◌, ◌++◌, subst, ◌∙◌, arith}
use Rattle.std.proofs.lemmas.List.{append_assoc}
use Rattle.qasm_gen.specs.Generated.{behind, next, drawn, drawn_line, outcome_of, outcomes_from, lines_from}

-- what is left of a number of turns, before and behind one
left_is : (n k : ℕ) → k < n → n - k ≡ suc (n - (k + 1))
left_is n k lt = omega (arith, lt)

pub outcome_added : (n k state : ℕ) (before whole : List Bool) → k < n → before ++ outcomes_from (n - k) state ≡ whole
    → (before ++ (outcome_of (drawn (next state)) ∷ [])) ++ outcomes_from (n - (k + 1)) (next state) ≡ whole
outcome_added n k state before whole lt h =
    append_assoc before (outcome_of (drawn (next state)) ∷ []) (outcomes_from (n - (k + 1)) (next state))
    ∙ subst (λ m. before ++ outcomes_from m state ≡ whole) (left_is n k lt) h

pub line_added : (n k state : ℕ) (before whole : List ℕ) → k < n → before ++ lines_from (n - k) state ≡ whole
    → (before ++ drawn_line (drawn (behind 1 state)) (drawn (behind 2 state)) (drawn (behind 3 state))) ++ lines_from (n - (k + 1)) (behind 3 state) ≡ whole
line_added n k state before whole lt h =
    append_assoc before (drawn_line (drawn (behind 1 state)) (drawn (behind 2 state)) (drawn (behind 3 state))) (lines_from (n - (k + 1)) (behind 3 state))
    ∙ subst (λ m. before ++ lines_from m state ≡ whole) (left_is n k lt) h

pub draws_added : (n k state end : ℕ) → k < n → behind (3 * (n - k)) state ≡ end → behind (3 * (n - (k + 1))) (behind 3 state) ≡ end
draws_added n k state end lt h = subst (λ m. behind m state ≡ end) three h
  where
    three : 3 * (n - k) ≡ suc (suc (suc (3 * (n - (k + 1)))))
    three = omega (arith, lt)
