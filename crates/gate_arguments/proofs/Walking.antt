-- Lists whose members are walked one by one.
use Rattle.std.proofs.Common.{◌≡◌, ℕ, suc, ◌+◌, ◌<◌, ◌≤◌, List, [], ◌∷◌, ◌++◌, length, drop, get_or, Result, Ok, Err, refl, sym, ap, ◌∙◌, append_assoc, add-one}
use Rattle.std.proofs.lemmas.List.{append-nil}
use Rattle.std.proofs.Math.ListN.{drop_of_length-le}
use Rattle.std.proofs.Math.Seq.{drop-cons}
use Rattle.qq_base.specs.declared.refusal.Fault.{Fault}
use Rattle.qq_base.specs.declared.refusal.Fault.TheVariants as fault
use Rattle.qq_base.specs.declared.refusal.Refusal.{Refusal}
use Rattle.const_eval.specs.Answers.{Fails}
use Rattle.const_eval.specs.Refusing.{go_on}
use Rattle.const_eval.specs.Walk.{Walk, done, then_walk}
use Rattle.gate_lists.specs.declared.budget.Budget.{Budget}
use Rattle.gate_lists.specs.Paid.{paid_from, paid_then, paid_stops, paid_asked}

-- what was found already, in front of an answer
unfoldable pub behind : {A : Type 0} → List A → Result (List A × Budget) Refusal → Result (List A × Budget) Refusal
behind found answer = go_on answer (λ x. Ok (found ++ x.0, x.1))

pub behind_nothing : {A : Type 0} (answer : Result (List A × Budget) Refusal) → answer ≡ behind [] answer
unfolding behind
behind_nothing (Ok x) = refl
behind_nothing (Err e) = refl

-- one more in front
with_first : {A : Type 0} (b : Budget) (w : Walk (List A)) (a : A) (answer : Result (List A × Budget) Refusal) → paid_from b w ≡ answer
    → paid_from b (then_walk w (λ as'. done (a ∷ as'))) ≡ go_on answer (λ x. Ok (a ∷ x.0, x.1))
with_first b w a (Ok x) e = paid_then b x.1 w (λ as'. done (a ∷ as')) x.0 e ∙ paid_asked x.1 (a ∷ x.0)
with_first b w a (Err refusal) e = paid_stops b w (λ as'. done (a ∷ as')) refusal e

moved : {A : Type 0} (found : List A) (a : A) (answer : Result (List A × Budget) Refusal) → behind found (go_on answer (λ x. Ok (a ∷ x.0, x.1))) ≡ behind (found ++ a ∷ []) answer
unfolding behind
moved found a (Ok x) = ap (λ xs. Ok (xs, x.1)) (sym (append_assoc found (a ∷ []) x.0))
moved found a (Err e) = refl

-- `item` is the walk of a member, and `walk` that of a list
module _ {X A : Type 0} (item : X → Walk A) (walk : List X → Walk (List A)) (none : walk [] ≡ done [])
    (some : (x : X) (xs : List X) → walk (x ∷ xs) ≡ then_walk (item x) (λ a. then_walk (walk xs) (λ as'. done (a ∷ as')))) where
  pub found_more : (xs : List X) (found : List A) (k : ℕ) (d : X) (a : A) (b b' : Budget) → k < length xs → paid_from b (item (get_or xs k d)) ≡ Ok (a, b')
      → behind found (paid_from b (walk (drop k xs))) ≡ behind (found ++ a ∷ []) (paid_from b' (walk (drop (k + 1) xs)))
  found_more xs found k d a b b' lt e =
      let rest = drop (suc k) xs in
      let first : paid_from b (walk (drop k xs)) ≡ go_on (paid_from b' (walk rest)) (λ x. Ok (a ∷ x.0, x.1)) =
      ap (λ ys. paid_from b (walk ys)) (drop-cons xs k d lt) ∙ ap (paid_from b) (some (get_or xs k d) rest)
      ∙ paid_then b b' (item (get_or xs k d)) (λ x. then_walk (walk rest) (λ as'. done (x ∷ as'))) a e
      ∙ with_first b' (walk rest) a (paid_from b' (walk rest)) refl in
      ap (behind found) first ∙ moved found a (paid_from b' (walk rest)) ∙ ap (λ n. behind (found ++ a ∷ []) (paid_from b' (walk (drop n xs)))) (sym (add-one k))

  pub found_stops : (xs : List X) (found : List A) (k : ℕ) (d : X) (b : Budget) (why : Fault) → k < length xs → Fails why (paid_from b (item (get_or xs k d))) → Fails why (behind found (paid_from b (walk (drop k xs))))
  unfolding behind
  found_stops xs found k d b fault.Memory lt e = tt
  found_stops xs found k d b (fault.Refused refusal) lt e =
      let rest = drop (suc k) xs in
      let first : paid_from b (walk (drop k xs)) ≡ Err refusal =
      ap (λ ys. paid_from b (walk ys)) (drop-cons xs k d lt) ∙ ap (paid_from b) (some (get_or xs k d) rest)
      ∙ paid_stops b (item (get_or xs k d)) (λ x. then_walk (walk rest) (λ as'. done (x ∷ as'))) refusal e in
      ap (behind found) first

  pub found_all : (xs : List X) (found : List A) (k : ℕ) (b : Budget) → length xs ≤ k → behind found (paid_from b (walk (drop k xs))) ≡ Ok (found, b)
  unfolding behind
  found_all xs found k b le =
      ap (λ ys. behind found (paid_from b (walk ys))) (drop_of_length-le xs le) ∙ ap (λ w. behind found (paid_from b w)) none ∙ ap (behind found) (paid_asked b [])
      ∙ ap (λ ys. Ok (ys, b)) (append-nil found)
