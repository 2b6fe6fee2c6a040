-- The levels around all statements, from the first statement on.
use Rattle.std.proofs.Common.{◌≡◌, ◌≢◌, ℕ, suc, ◌+◌, ◌<◌, ◌≤◌, nat_lt, Bool, true, false, if◌then◌else◌, ◌⊎◌, List, ◌∷◌, ◌++◌, length, get_or, drop, Option, Some, refl, sym, ap, ◌∙◌, subst, arith, inl, inr}
use Rattle.std.specs.Prelude.{slice_get}
use Rattle.std.proofs.lemmas.List.{drop_more}
use Rattle.std.proofs.lemmas.Bool.{cases_lt, lt-ltb, le-ltb}
use Rattle.core_ir.specs.declared.statement.CoreStmt.{CoreStmt}
use Rattle.core_ir.specs.Levels.{opens, holds, levels_below, JumpHas, LevelFits}
use Rattle.core_ir.specs.WellFormed.{times}
use Rattle.core_ir.proofs.Bodies.{times_append, stmt_read, opens_most}
use Rattle.core_ir.proofs.Levels.{fits_here}
use Rattle.core_ir.proofs.Counting.{times_hit, times_miss}

same_twice : (b : Bool) (v : ℕ) → (if b then v else v) ≡ v
same_twice true v = refl
same_twice false v = refl

-- the next of a body is set, or is another
pub set_hit : (xs : List ℕ) (t i j v old all : ℕ) → t < length xs → j ≡ get_or xs t j → j ≡ i
    → (if nat_lt 0 (times i (drop t xs)) then v else old) ≡ all → (if nat_lt 0 (times i (drop (t + 1) xs)) then v else v) ≡ all
set_hit xs t i j v old all l is same so =
    let next : times i (drop t xs) ≡ suc (times i (drop (t + 1) xs)) = ap (times i) (drop_more xs t j l ∙ ap (λ x. x ∷ drop (t + 1) xs) (sym is)) ∙ times_hit i j (drop (t + 1) xs) same in
    same_twice (nat_lt 0 (times i (drop (t + 1) xs))) v
    ∙ ap (λ b. if b then v else old) (sym (lt-ltb 0 (times i (drop t xs)) (omega (arith, next)))) ∙ so

pub set_miss : (xs : List ℕ) (t i j v old all : ℕ) → t < length xs → j ≡ get_or xs t j → j ≢ i
    → (if nat_lt 0 (times i (drop t xs)) then v else old) ≡ all → (if nat_lt 0 (times i (drop (t + 1) xs)) then v else old) ≡ all
set_miss xs t i j v old all l is other so =
    let next : times i (drop t xs) ≡ times i (drop (t + 1) xs) = ap (times i) (drop_more xs t j l ∙ ap (λ x. x ∷ drop (t + 1) xs) (sym is)) ∙ times_miss i j (drop (t + 1) xs) other in
    ap (λ n. if nat_lt 0 n then v else old) (sym next) ∙ so

-- set by the one body or by the other
pub both_set : (i v old first both : ℕ) (xs ys : List ℕ) → first ≡ (if nat_lt 0 (times i xs) then v else old) → both ≡ (if nat_lt 0 (times i ys) then v else first)
    → both ≡ (if nat_lt 0 (times i (xs ++ ys)) then v else old)
both_set i v old first both xs ys one two = two ∙ ap (λ n. if nat_lt 0 (times i ys) then v else n) one ∙ by_cases (cases_lt 0 (times i xs)) (cases_lt 0 (times i ys))
  where
    by_cases : ((0 < times i xs) ⊎ (times i xs ≤ 0)) → ((0 < times i ys) ⊎ (times i ys ≤ 0)) → (if nat_lt 0 (times i ys) then v else (if nat_lt 0 (times i xs) then v else old)) ≡ (if nat_lt 0 (times i (xs ++ ys)) then v else old)
    by_cases (inl x) q =
        ap (λ b. if nat_lt 0 (times i ys) then v else (if b then v else old)) (lt-ltb 0 (times i xs) x)
        ∙ same_twice (nat_lt 0 (times i ys)) v
        ∙ ap (λ b. if b then v else old) (sym (lt-ltb 0 (times i (xs ++ ys)) (omega (arith, times_append i xs ys))))
    by_cases (inr x) q =
        ap (λ b. if nat_lt 0 (times i ys) then v else (if b then v else old)) (le-ltb 0 (times i xs) x)
        ∙ ap (λ n. if nat_lt 0 n then v else old) (omega (arith, times_append i xs ys))

-- one statement further
pub level_next : (loops : Bool) (stmts : List CoreStmt) (k j a o n m : ℕ) (s : CoreStmt) → k < length stmts → s ≡ get_or stmts k s
    → o ≡ opens loops (Some s) → a ≡ levels_below loops stmts k k → n ≡ levels_below loops stmts k j → m ≡ (if holds (Some s) j then a + o else n)
    → m ≡ levels_below loops stmts (k + 1) j
level_next loops stmts k j a o n m s l is opened here there so =
    let found : slice_get stmts k ≡ Some s = stmt_read stmts k s s l is refl in
    let up : k + 1 ≡ suc k = omega arith in
    let turn : a + o ≡ opens loops (Some s) + levels_below loops stmts k k = omega (arith, here, opened) in
    so
    ∙ ap (λ x. if holds (Some s) j then x else n) turn
    ∙ ap (λ x. if holds (Some s) j then opens loops (Some s) + levels_below loops stmts k k else x) there
    ∙ ap (λ p. if holds p j then opens loops p + levels_below loops stmts k k else levels_below loops stmts k j) (sym found)
    ∙ ap (λ (x : ℕ). levels_below loops stmts x j) (sym up)

pub level_few : (loops b : Bool) (o : Option CoreStmt) (k a n c m : ℕ) → c ≡ opens loops o → a ≤ k → n ≤ k → m ≡ (if b then a + c else n) → m ≤ k + 1
level_few loops true o k a n c m opened la ln so = omega (arith, opened, la, so, opens_most loops o)
level_few loops false o k a n c m opened la ln so = omega (arith, ln, so)

pub fits_at : (stmts : List CoreStmt) (k a b : ℕ) (s : CoreStmt) → k < length stmts → s ≡ get_or stmts k s → a ≡ levels_below false stmts k k → b ≡ levels_below true stmts k k
    → JumpHas (Some s) a b → LevelFits stmts k (slice_get stmts k)
fits_at stmts k a b s l is ends starts has =
    let found : slice_get stmts k ≡ Some s = stmt_read stmts k s s l is refl in
    subst (LevelFits stmts k) (sym found)
    (fits_here stmts k (Some s) (subst (λ (n : ℕ). JumpHas (Some s) (levels_below false stmts k k) n) starts (subst (λ (n : ℕ). JumpHas (Some s) n b) ends has)))
