-- Counts of statements, up to two.
use Rattle.std.proofs.Common.{◌≡◌, ◌≢◌, ℕ, suc, ◌+◌, ◌<◌, ◌≤◌, nat_eq, min, Bool, true, false, if◌then◌else◌, List, [], ◌∷◌, ◌++◌, length, get_or, drop, refl, ap, ◌∙◌, arith}
use Rattle.std.proofs.lemmas.List.{drop_more}
use Rattle.std.proofs.lemmas.Bool.{eqb-true, eq-eqb}
use Rattle.core_ir.specs.declared.statement.CoreStmt.{CoreStmt}
use Rattle.core_ir.specs.WellFormed.{bodies_in, times}
use Rattle.core_ir.proofs.Bodies.{times_append}

pub times_hit : (k j : ℕ) (js : List ℕ) → j ≡ k → times k (j ∷ js) ≡ suc (times k js)
times_hit k j js e = ap (λ b. if b then suc (times k js) else times k js) (eq-eqb j k e)

pub times_miss : (k j : ℕ) (js : List ℕ) → j ≢ k → times k (j ∷ js) ≡ times k js
times_miss k j js other = at (nat_eq j k) refl
  where
    at : (same : Bool) → nat_eq j k ≡ same → (if same then suc (times k js) else times k js) ≡ times k js
    at true is = absurd (other (eqb-true j k is))
    at false is = refl

-- one more of a list
pub times_step : (xs : List ℕ) (t k d : ℕ) → t < length xs → times k (drop t xs) ≡ times k (get_or xs t d ∷ []) + times k (drop (t + 1) xs)
times_step xs t k d l = ap (times k) (drop_more xs t d l) ∙ times_append k (get_or xs t d ∷ []) (drop (t + 1) xs)

one_time : (k j : ℕ) → j ≡ k → times k (j ∷ []) ≡ 1
one_time k j same = times_hit k j [] same

no_time : (k j : ℕ) → j ≢ k → times k (j ∷ []) ≡ 0
no_time k j other = times_miss k j [] other

-- a statement that has another place, or none
pub counted_other : (n k j : ℕ) → n ≤ 2 → j ≢ k → n ≡ min 2 (n + times k (j ∷ []))
counted_other n k j few other = let none : times k (j ∷ []) ≡ 0 = no_time k j other in omega (arith, none)

pub counted_here : (n m k j : ℕ) → m ≡ min 2 (n + 1) → j ≡ k → m ≡ min 2 (n + times k (j ∷ []))
counted_here n m k j more same = let one : times k (j ∷ []) ≡ 1 = one_time k j same in omega (arith, one)

-- what is counted is one where it stands once
pub one_counted : (start i a b c : ℕ) (body : List ℕ) (stmts : List CoreStmt) → a ≡ 0 → b ≡ min 2 (a + times (start + i) body) → c ≡ min 2 (b + times (start + i) (bodies_in stmts))
    → (c ≡ 1 → times (start + i) (body ++ bodies_in stmts) ≡ 1) × (times (start + i) (body ++ bodies_in stmts) ≡ 1 → c ≡ 1)
one_counted start i a b c body stmts x y z =
    ((λ h. omega (arith, times_append (start + i) body (bodies_in stmts), h)), (λ h. omega (arith, times_append (start + i) body (bodies_in stmts), h)))
