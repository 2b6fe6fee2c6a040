-- Lists whose members are walked one by one: what was found is in front of what is left.
use Rattle.std.proofs.Common.{◌≡◌, ℕ, suc, ◌+◌, ◌<◌, ◌≤◌, List, [], ◌∷◌, ◌++◌, length, drop, get_or, Result, Ok, Err, refl, sym, ap, ◌∙◌, append_assoc, add-one, arith}
use Rattle.std.proofs.lemmas.List.{append-nil}
use Rattle.std.proofs.Math.ListN.{drop_of_length-le}
use Rattle.std.proofs.Math.Seq.{drop-cons}
use Rattle.qq_base.specs.declared.refusal.Refusal.{Refusal}
use Rattle.const_eval.specs.Refusing.{go_on}
use Rattle.const_eval.specs.Walk.{Walk, done, then_walk}
use Rattle.subroutine_inline.proofs.Counting.{answer_then, cost_then, stops_then}

abbrev pub behind : {A : Type 0} → List A → Result (List A) Refusal → Result (List A) Refusal
behind found answer = go_on answer (λ later. Ok (found ++ later))

pub behind_nothing : {A : Type 0} (answer : Result (List A) Refusal) → answer ≡ behind [] answer
behind_nothing (Ok later) = refl
behind_nothing (Err e) = refl

behind_first : {A : Type 0} (found : List A) (a : A) (answer : Result (List A) Refusal) → behind found (go_on answer (λ later. Ok (a ∷ later))) ≡ behind (found ++ a ∷ []) answer
behind_first found a (Ok later) = ap Ok (sym (append_assoc found (a ∷ []) later))
behind_first found a (Err e) = refl

-- one more in front of a list that is walked
module _ {A : Type 0} (a : A) where
  first_answer : (cost : ℕ) (answer : Result (List A) Refusal) → (then_walk (record { cost = cost; answer = answer }) (λ later. done (a ∷ later))).answer ≡ go_on answer (λ later. Ok (a ∷ later))
  first_answer cost (Ok later) = refl
  first_answer cost (Err e) = refl

  first_cost : (cost : ℕ) (answer : Result (List A) Refusal) → (then_walk (record { cost = cost; answer = answer }) (λ later. done (a ∷ later))).cost ≡ cost
  first_cost cost (Ok later) = omega arith
  first_cost cost (Err e) = refl

-- `item` is the walk of a member, and `walk` that of a list
module _ {X A : Type 0} (item : X → Walk A) (walk : List X → Walk (List A)) (none : walk [] ≡ done [])
    (some : (x : X) (xs : List X) → walk (x ∷ xs) ≡ then_walk (item x) (λ a. then_walk (walk xs) (λ later. done (a ∷ later)))) where
  next : (xs : List X) (k : ℕ) (d : X) → k < length xs
      → walk (drop k xs) ≡ then_walk (item (get_or xs k d)) (λ a. then_walk (walk (drop (k + 1) xs)) (λ later. done (a ∷ later)))
  next xs k d lt =
      ap walk (drop-cons xs k d lt) ∙ some (get_or xs k d) (drop (suc k) xs)
      ∙ ap (λ n. then_walk (item (get_or xs k d)) (λ a. then_walk (walk (drop n xs)) (λ later. done (a ∷ later)))) (sym (add-one k))

  pub more_answer : (xs : List X) (found : List A) (k : ℕ) (d : X) (a : A) → k < length xs → (item (get_or xs k d)).answer ≡ Ok a
      → behind found (walk (drop k xs)).answer ≡ behind (found ++ a ∷ []) (walk (drop (k + 1) xs)).answer
  more_answer xs found k d a lt e =
      let rest = walk (drop (k + 1) xs) in
      ap (λ w. behind found w.answer) (next xs k d lt)
      ∙ ap (behind found) (answer_then (λ x. then_walk (walk (drop (k + 1) xs)) (λ later. done (x ∷ later))) (item (get_or xs k d)) a e)
      ∙ ap (behind found) (first_answer a rest.cost rest.answer) ∙ behind_first found a rest.answer

  pub more_cost : (xs : List X) (k : ℕ) (d : X) (a : A) → k < length xs → (item (get_or xs k d)).answer ≡ Ok a
      → (walk (drop k xs)).cost ≡ (item (get_or xs k d)).cost + (walk (drop (k + 1) xs)).cost
  more_cost xs k d a lt e =
      let rest = walk (drop (k + 1) xs) in
      ap (λ w. w.cost) (next xs k d lt)
      ∙ cost_then (λ x. then_walk (walk (drop (k + 1) xs)) (λ later. done (x ∷ later))) (item (get_or xs k d)) a e
      ∙ ap (λ n. (item (get_or xs k d)).cost + n) (first_cost a rest.cost rest.answer)

  pub stops : (xs : List X) (found : List A) (k : ℕ) (d : X) (r : Refusal) → k < length xs → (item (get_or xs k d)).answer ≡ Err r
      → behind found (walk (drop k xs)).answer ≡ Err r
  stops xs found k d r lt e =
      ap (λ w. behind found w.answer) (next xs k d lt)
      ∙ ap (behind found) (stops_then (λ x. then_walk (walk (drop (k + 1) xs)) (λ later. done (x ∷ later))) (item (get_or xs k d)) r e)

  pub end_answer : (xs : List X) (found : List A) (k : ℕ) → length xs ≤ k → behind found (walk (drop k xs)).answer ≡ Ok found
  end_answer xs found k le =
      ap (λ ys. behind found (walk ys).answer) (drop_of_length-le xs le) ∙ ap (λ w. behind found w.answer) none ∙ ap Ok (append-nil found)

  pub end_cost : (xs : List X) (k : ℕ) → length xs ≤ k → (walk (drop k xs)).cost ≡ 0
  end_cost xs k le = ap (λ ys. (walk ys).cost) (drop_of_length-le xs le) ∙ ap (λ w. w.cost) none
