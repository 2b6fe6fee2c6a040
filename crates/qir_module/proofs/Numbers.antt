-- The order of numbers, and the readings behind their measurements, in lists that stand one behind another.
use Rattle.std.proofs.Common.{◌≡◌, ℕ, suc, ◌+◌, Bool, cond, List, [], ◌∷◌, ◌++◌, length, filter, refl, ap, ◌∙◌, subst, arith}
use Rattle.qir_module.specs.declared.instruction.Instr.{Instr}
use Rattle.qir_module.specs.Numbered.{CountsFrom, measured_in, ReadsFollow}

pub CountsFrom-append : (k : ℕ) (xs ys : List ℕ) → CountsFrom k xs → CountsFrom (k + length xs) ys → CountsFrom k (xs ++ ys)
CountsFrom-append k [] ys first second =
    let here : k + 0 ≡ k = omega arith in subst (λ (n : ℕ). CountsFrom n ys) here second
CountsFrom-append k (x ∷ xs) ys first second =
    let shifted : k + suc (length xs) ≡ suc k + length xs = omega arith in
    (first.0, CountsFrom-append (suc k) xs ys first.1 (subst (λ (n : ℕ). CountsFrom n ys) shifted second))

-- what is measured right behind the instructions, where so much was measured right in front of them
abbrev pub last_measured : List ℕ → List Instr → List ℕ
last_measured measured [] = measured
last_measured measured (i ∷ is) = last_measured (measured_in i) is

pub ReadsFollow-append : (measured : List ℕ) (xs ys : List Instr) → ReadsFollow measured xs → ReadsFollow (last_measured measured xs) ys → ReadsFollow measured (xs ++ ys)
ReadsFollow-append measured [] ys first second = second
ReadsFollow-append measured (x ∷ xs) ys first second = (first.0, ReadsFollow-append (measured_in x) xs ys first.1 second)

-- two tests that give the same keep the same
pub filter_by_same : (test other : ℕ → Bool) (xs : List ℕ) → ((n : ℕ) → test n ≡ other n) → filter test xs ≡ filter other xs
filter_by_same test other [] same = refl
filter_by_same test other (x ∷ xs) same =
    ap (λ (b : Bool). cond b (x ∷ filter test xs) (filter test xs)) (same x)
    ∙ ap (λ (ns : List ℕ). cond (other x) (x ∷ ns) ns) (filter_by_same test other xs same)
