-- How far characters of one class go, and where a quoted text closes.
use Rattle.std.proofs.Common.{◌≡◌, ℕ, suc, ◌<◌, ◌≤◌, Bool, true, false, ◌&&◌, ◌==◌, List, [], ◌∷◌, ◌++◌, length, take, drop, Option, Some, None, refl, sym, ap, ◌∙◌, subst, arith, eqb-true}
use Rattle.std.specs.List.{list_all}
use Rattle.grammar_parts.proofs.Sets.{both_true}
use Rattle.qir_module.specs.Tokens.{Escape, Outside, Opened, HalfRead, behind, may_stand, is_outside, is_body}
use Rattle.qir_module.specs.Lexer.{run, closed, one_more}

module _ (passes : ℕ → Bool) where
  pub run_on : (c : ℕ) (cs : List ℕ) → passes c ≡ true → run passes (c ∷ cs) ≡ suc (run passes cs)
  run_on c cs e = ap (λ b. elim b [ true ↦ suc (run passes cs) | false ↦ 0 ]) e

  pub run_off : (c : ℕ) (cs : List ℕ) → passes c ≡ false → run passes (c ∷ cs) ≡ 0
  run_off c cs e = ap (λ b. elim b [ true ↦ suc (run passes cs) | false ↦ 0 ]) e

  pub run_le : (cs : List ℕ) → run passes cs ≤ length cs
  run_le [] = omega arith
  run_le (c ∷ cs) = at (passes c) refl (run_le cs)
    where
      at : (b : Bool) → passes c ≡ b → run passes cs ≤ length cs → run passes (c ∷ cs) ≤ suc (length cs)
      at true e l = omega (arith, run_on c cs e, l)
      at false e l = omega (arith, run_off c cs e)

  pub run_all : (cs : List ℕ) → list_all passes (take (run passes cs) cs) ≡ true
  run_all [] = refl
  run_all (c ∷ cs) = at (passes c) refl (run_all cs)
    where
      at : (b : Bool) → passes c ≡ b → list_all passes (take (run passes cs) cs) ≡ true → list_all passes (take (run passes (c ∷ cs)) (c ∷ cs)) ≡ true
      at true e l = ap (λ n. list_all passes (take n (c ∷ cs))) (run_on c cs e) ∙ ap (λ b. b && list_all passes (take (run passes cs) cs)) e ∙ l
      at false e l = ap (λ n. list_all passes (take n (c ∷ cs))) (run_off c cs e)

  pub run_most : (ds more : List ℕ) → list_all passes ds ≡ true → length ds ≤ run passes (ds ++ more)
  run_most [] more a = omega arith
  run_most (d ∷ ds) more a = let b = both_true (passes d) (list_all passes ds) a in omega (arith, run_on d (ds ++ more) b.0, run_most ds more b.1)

  pub run_exact : (ds : List ℕ) (c : ℕ) (more : List ℕ) → list_all passes ds ≡ true → passes c ≡ false → run passes (ds ++ c ∷ more) ≡ length ds
  run_exact [] c more a e = run_off c more e
  run_exact (d ∷ ds) c more a e = let b = both_true (passes d) (list_all passes ds) a in run_on d (ds ++ c ∷ more) b.0 ∙ ap suc (run_exact ds c more b.1 e)

-- ---- quoted texts

abbrev closed_by : Escape → ℕ → List ℕ → Bool → Bool → Option ℕ
closed_by state c cs quote stands = elim quote [ true ↦ Some 0 | false ↦ elim stands [ true ↦ one_more (closed (behind state c) cs) | false ↦ None ] ]

pub closed_here : (state : Escape) (c : ℕ) (cs : List ℕ) → (is_outside state && (c == 34)) ≡ true → closed state (c ∷ cs) ≡ Some 0
closed_here state c cs e = ap (λ b. closed_by state c cs b (may_stand state c)) e

pub closed_on : (state : Escape) (c : ℕ) (cs : List ℕ) → (is_outside state && (c == 34)) ≡ false → may_stand state c ≡ true → closed state (c ∷ cs) ≡ one_more (closed (behind state c) cs)
closed_on state c cs e f = ap (λ b. closed_by state c cs b (may_stand state c)) e ∙ ap (λ b. closed_by state c cs false b) f

pub closed_off : (state : Escape) (c : ℕ) (cs : List ℕ) → (is_outside state && (c == 34)) ≡ false → may_stand state c ≡ false → closed state (c ∷ cs) ≡ None
closed_off state c cs e f = ap (λ b. closed_by state c cs b (may_stand state c)) e ∙ ap (λ b. closed_by state c cs false b) f

-- a quote does not stand in a quoted text
pub no_quote : (state : Escape) (c : ℕ) → may_stand state c ≡ true → (is_outside state && (c == 34)) ≡ false
no_quote Opened c e = refl
no_quote (HalfRead high) c e = refl
no_quote Outside c e = at (c == 34) refl
  where
    at : (b : Bool) → (c == 34) ≡ b → (c == 34) ≡ false
    at false f = f
    at true f = absurd (cc (ap (λ d. may_stand Outside d) (eqb-true c 34 f), e))

pub closed_is : (state : Escape) (body more : List ℕ) → is_body state body ≡ true → closed state (body ++ 34 ∷ more) ≡ Some (length body)
closed_is state [] more e = closed_here state 34 more (ap (λ b. b && true) e)
closed_is state (c ∷ body) more e =
    let b = both_true (may_stand state c) (is_body (behind state c) body) e in
    closed_on state c (body ++ 34 ∷ more) (no_quote state c b.0) b.0 ∙ ap one_more (closed_is (behind state c) body more b.1)

-- what stands in front of the closing quote, and behind it
pub record Closes (state : Escape) (cs : List ℕ) (n : ℕ) : Type 0 where
  pub rest : List ℕ
  pub split : cs ≡ take n cs ++ 34 ∷ rest
  pub body : is_body state (take n cs) ≡ true
  pub inside : n < length cs

pub closed_gives : (state : Escape) (cs : List ℕ) (n : ℕ) → closed state cs ≡ Some n → Closes state cs n
closed_gives state [] n e = absurd (cc)
closed_gives state (c ∷ cs) n e = at (is_outside state && (c == 34)) refl (may_stand state c) refl (λ m. closed_gives (behind state c) cs m)
  where
    more_of : (o : Option ℕ) → one_more o ≡ Some n → (m : ℕ) × (o ≡ Some m) × (n ≡ suc m)
    more_of None f = absurd (cc)
    more_of (Some m) f = (m, refl, cc)

    at : (q : Bool) → (is_outside state && (c == 34)) ≡ q → (s : Bool) → may_stand state c ≡ s → ((m : ℕ) → closed (behind state c) cs ≡ Some m → Closes (behind state c) cs m) → Closes state (c ∷ cs) n
    at true f s g later =
        let none : n ≡ 0 = cc (closed_here state c cs f, e) in
        let b = both_true (is_outside state) (c == 34) f in
        subst (λ k. Closes state (c ∷ cs) k) (sym none) (record { rest = cs; split = ap (λ d. d ∷ cs) (eqb-true c 34 b.1); body = b.0; inside = omega arith })
    at false f true g later =
        let m = more_of (closed (behind state c) cs) (sym (closed_on state c cs f g) ∙ e) in
        let r : Closes (behind state c) cs m.0 = later m.0 m.1 in
        subst (λ k. Closes state (c ∷ cs) k) (sym m.2) (record { rest = r.rest; split = ap (λ l. c ∷ l) r.split; body = ap (λ b. b && is_body (behind state c) (take m.0 cs)) g ∙ r.body; inside = omega (arith, r.inside) })
    at false f false g later = absurd (cc (closed_off state c cs f g, e))

-- behind a run the text ends, or a character fails
abbrev pub Stopped : (ℕ → Bool) → List ℕ → Type 0
Stopped passes [] = Unit {0}
Stopped passes (c ∷ cs) = passes c ≡ false

pub run_stops : (passes : ℕ → Bool) (cs : List ℕ) → Stopped passes (drop (run passes cs) cs)
run_stops passes [] = tt
run_stops passes (c ∷ cs) = at (passes c) refl (run_stops passes cs)
  where
    at : (b : Bool) → passes c ≡ b → Stopped passes (drop (run passes cs) cs) → Stopped passes (drop (run passes (c ∷ cs)) (c ∷ cs))
    at true e h = subst (λ n. Stopped passes (drop n (c ∷ cs))) (sym (run_on passes c cs e)) h
    at false e h = subst (λ n. Stopped passes (drop n (c ∷ cs))) (sym (run_off passes c cs e)) e
