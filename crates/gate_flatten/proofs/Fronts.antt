-- Walks over lists, one member after another: what was found already stands in front of what is found later.
use Rattle.std.proofs.Common.{◌≡◌, ℕ, suc, ◌+◌, ◌<◌, ◌≤◌, List, [], ◌∷◌, ◌++◌, length, map, drop, get_or, Result, Ok, Err, refl, sym, ap, ◌∙◌, append_assoc, add-one}
use Rattle.std.proofs.lemmas.List.{append-nil}
use Rattle.std.proofs.Math.ListN.{drop_of_length-le}
use Rattle.std.proofs.Math.Seq.{drop-cons}
use Rattle.qq_base.specs.declared.refusal.Fault.{Fault}
use Rattle.qq_base.specs.declared.refusal.Fault.TheVariants as fault
use Rattle.qq_base.specs.declared.refusal.Refusal.{Refusal}
use Rattle.const_eval.specs.Answers.{Fails}
use Rattle.const_eval.specs.Walk.{Walk, done, then_walk}
use Rattle.gate_flatten.specs.Walks.{each_walk}
use Rattle.gate_lists.specs.declared.budget.Budget.{Budget}
use Rattle.gate_lists.specs.Paid.{paid_from, paid_then, paid_stops, paid_asked, fails_then}

-- what was found already, in front of an answer
abbrev pub in_front : {A : Type 0} → List A → Result (List A × Budget) Refusal → Result (List A × Budget) Refusal
in_front found (Ok x) = Ok (found ++ x.0, x.1)
in_front found (Err e) = Err e

pub front_nothing : {A : Type 0} (r : Result (List A × Budget) Refusal) → r ≡ in_front [] r
front_nothing (Ok x) = refl
front_nothing (Err e) = refl

pub front_front : {A : Type 0} (found more : List A) (r : Result (List A × Budget) Refusal) → in_front found (in_front more r) ≡ in_front (found ++ more) r
front_front found more (Ok x) = ap (λ (ys : List _). Ok (ys, x.1)) (sym (append_assoc found more x.0))
front_front found more (Err e) = refl

pub front_end : {A : Type 0} (found : List A) (b : Budget) → in_front found (paid_from b (done [])) ≡ Ok (found, b)
front_end found b = ap (in_front found) (paid_asked b []) ∙ ap (λ (ys : List _). Ok (ys, b)) (append-nil found)

pub fails_front : {A : Type 0} (found : List A) (r : Result (List A × Budget) Refusal) (why : Fault) → Fails why r → Fails why (in_front found r)
fails_front found r fault.Memory e = tt
fails_front found r (fault.Refused refusal) e = ap (in_front found) e

-- a walk whose answer is changed
abbrev changed : {A B : Type 0} → (A → B) → Result (A × Budget) Refusal → Result (B × Budget) Refusal
changed f (Ok x) = Ok (f x.0, x.1)
changed f (Err e) = Err e

then_changed : {A B : Type 0} (b : Budget) (w : Walk A) (f : A → B) (r : Result (A × Budget) Refusal) → paid_from b w ≡ r
    → paid_from b (then_walk w (λ a. done (f a))) ≡ changed f r
then_changed b w f (Ok x) e = paid_then b x.1 w (λ a. done (f a)) x.0 e ∙ paid_asked x.1 (f x.0)
then_changed b w f (Err refusal) e = paid_stops b w (λ a. done (f a)) refusal e

cons_is_front : {A : Type 0} (a : A) (r : Result (List A × Budget) Refusal) → changed (λ later. a ∷ later) r ≡ in_front (a ∷ []) r
cons_is_front a (Ok x) = refl
cons_is_front a (Err e) = refl

append_is_front : {A : Type 0} (found : List A) (r : Result (List A × Budget) Refusal) → changed (λ later. found ++ later) r ≡ in_front found r
append_is_front found (Ok x) = refl
append_is_front found (Err e) = refl

-- one answer, and the answers behind it
pub one_more : {A : Type 0} (b b' : Budget) (w : Walk A) (rest : Walk (List A)) (a : A) → paid_from b w ≡ Ok (a, b')
    → paid_from b (then_walk w (λ x. then_walk rest (λ xs. done (x ∷ xs)))) ≡ in_front (a ∷ []) (paid_from b' rest)
one_more b b' w rest a e =
    paid_then b b' w (λ x. then_walk rest (λ xs. done (x ∷ xs))) a e
    ∙ then_changed b' rest (λ xs. a ∷ xs) (paid_from b' rest) refl
    ∙ cons_is_front a (paid_from b' rest)

-- answers, and the answers behind them
pub some_more : {A : Type 0} (b b' : Budget) (w rest : Walk (List A)) (more : List A) → paid_from b w ≡ Ok (more, b')
    → paid_from b (then_walk w (λ xs. then_walk rest (λ ys. done (xs ++ ys)))) ≡ in_front more (paid_from b' rest)
some_more b b' w rest more e =
    paid_then b b' w (λ xs. then_walk rest (λ ys. done (xs ++ ys))) more e
    ∙ then_changed b' rest (λ ys. more ++ ys) (paid_from b' rest) refl
    ∙ append_is_front more (paid_from b' rest)

-- ---- the members of a list, where `g` gives what each is walked as

module _ {X Y A : Type 0} (g : X → Y) (f : Y → Walk A) where
  abbrev pub from_member : ℕ → List X → Walk (List A)
  from_member k xs = each_walk f (map g (drop k xs))

  pub front_more : (xs : List X) (found : List A) (k : ℕ) (d : X) (a : A) (b b' : Budget) → k < length xs → paid_from b (f (g (get_or xs k d))) ≡ Ok (a, b')
      → in_front found (paid_from b (from_member k xs)) ≡ in_front (found ++ a ∷ []) (paid_from b' (from_member (k + 1) xs))
  front_more xs found k d a b b' lt e =
      rw (drop-cons xs k d lt, add-one k) (
      ap (in_front found) (one_more b b' (f (g (get_or xs k d))) (each_walk f (map g (drop (suc k) xs))) a e)
      ∙ front_front found (a ∷ []) (paid_from b' (each_walk f (map g (drop (suc k) xs)))))

  pub front_fails : (xs : List X) (found : List A) (k : ℕ) (d : X) (b : Budget) (why : Fault) → k < length xs → Fails why (paid_from b (f (g (get_or xs k d))))
      → Fails why (in_front found (paid_from b (from_member k xs)))
  front_fails xs found k d b why lt e =
      rw (drop-cons xs k d lt) (
      fails_front found _ why (fails_then b (f (g (get_or xs k d))) (λ x. then_walk (each_walk f (map g (drop (suc k) xs))) (λ later. done (x ∷ later))) why e))

  pub front_all : (xs : List X) (found : List A) (k : ℕ) (b : Budget) → length xs ≤ k → in_front found (paid_from b (from_member k xs)) ≡ Ok (found, b)
  front_all xs found k b le = rw (drop_of_length-le xs le) (front_end found b)
