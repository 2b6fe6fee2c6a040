-- Plans that are chosen: the first of two, and one where a test holds.
use Rattle.std.proofs.Common.{◌≡◌, ℕ, Bool, true, false, Option, Some, None, ◌⊎◌, inl, inr, refl, ap, nat_eq, eq-eqb, if◌then◌else◌}
use Rattle.std.specs.Option.{option_map, option_or}
use Rattle.qasm_types.specs.declared.ty.Ty.{Ty}
use Rattle.qasm_types.specs.declared.ty.Ty.TheVariants as t
use Rattle.qasm_types.specs.Plans.{Plan, all_at, compared, where_true}

pub option_map-or : {T U : Type 0} (f : T → U) (o p : Option T) → option_map f (option_or o p) ≡ option_or (option_map f o) (option_map f p)
option_map-or f None p = refl
option_map-or f (Some x) p = refl

pub some_is : {T : Type 0} (x y : T) → Some x ≡ Some y → x ≡ y
some_is x y e = cc

pub or_cases : {T : Type 0} (o p : Option T) (x : T) → option_or o p ≡ Some x → (o ≡ Some x) ⊎ (p ≡ Some x)
or_cases None p x e = inr e
or_cases (Some y) p x e = inl e

pub where_true_cases : (b : Bool) (p q : Ty × Ty × Ty) → where_true b p ≡ Some q → (b ≡ true) × (p ≡ q)
where_true_cases true p q e = (refl, cc)
where_true_cases false p q e = absurd cc

pub all_at_cases : (o : Option Ty) (p : Ty × Ty × Ty) → all_at o ≡ Some p → (m : Ty) × (o ≡ Some m) × ((m, m, m) ≡ p)
all_at_cases None p e = absurd cc
all_at_cases (Some m) p e = (m, refl, cc)

pub compared_cases : (o : Plan) (p : Ty × Ty × Ty) → compared o ≡ Some p → (q : Ty × Ty × Ty) × (o ≡ Some q) × ((q.0, q.1, t.Bool) ≡ p)
compared_cases None p e = absurd cc
compared_cases (Some q) p e = (q, refl, cc)

pub where_same : (n : ℕ) (p : Ty × Ty × Ty) → where_true (nat_eq n n) p ≡ Some p
where_same n p = ap (λ b. where_true b p) (eq-eqb n n refl)

-- the third of four plans, where the first two are none
pub third : (w a m b : Plan) (p : Ty × Ty × Ty) → w ≡ None → a ≡ None → m ≡ Some p → option_or (option_or w (option_or a m)) b ≡ Some p
third w a m b p we ae me = λ i. option_or (option_or (we i) (option_or (ae i) (me i))) b

-- the last of four plans, where the others are none
pub fourth : (w a m b : Plan) (p : Ty × Ty × Ty) → w ≡ None → a ≡ None → m ≡ None → b ≡ Some p → option_or (option_or w (option_or a m)) b ≡ Some p
fourth w a m b p we ae me be = λ i. option_or (option_or (we i) (option_or (ae i) (me i))) (be i)

pub choice_cases : (b : Bool) (o : Plan) (p : Ty × Ty × Ty) → (if b then o else None) ≡ Some p → (b ≡ true) × (o ≡ Some p)
choice_cases true o p e = (refl, e)
choice_cases false o p e = absurd cc

pub chosen_none : (b : Bool) (o : Plan) → o ≡ None → (if b then o else None) ≡ None
chosen_none true o e = e
chosen_none false o e = refl
