-- The marks are what they should be.
use Rattle.std.proofs.Common.{◌≡◌, ◌≢◌, ℕ, zero, suc, ◌⊎◌, inl, inr, Bool, true, false, ◌&&◌, ◌||◌, List, [], ◌∷◌, ◌++◌, replicate, get_or, refl, sym, ap, ◌∙◌, ⊎_elim, arith}
use Rattle.std.specs.Prelude.{nat_eq}
use Rattle.std.proofs.lemmas.Bool.{eq-eqb, ne_eqb}
use Rattle.core_ir.specs.declared.expression.CoreExpr.{CoreExpr}
use Rattle.core_ir.specs.Tree.{Stmt, Skip, Seq, Assign, Gate, Reset, Measure, If, Block, Loop, Leave, Again}
use Rattle.core_ir.specs.Ways.{Exit, Falls, Leaves, Agains, is_fall, reaches, passes, stores}
use Rattle.block_lower.specs.declared.mark.Mark.{Mark}
use Rattle.block_lower.specs.Marks.{no_mark, passing, mark_at, either_mark, then_mark, back_mark, either_marks, then_marks, back_marks, tail_marks, at_marks, straight_marks, given_mark, measured_mark, marks}

pub or_false : (a : Bool) → (a || false) ≡ a
or_false true = refl
or_false false = refl

and_false : (a : Bool) → (a && false) ≡ false
and_false true = refl
and_false false = refl

-- the four facts of an exit
abbrev pub facts : List CoreExpr → Stmt → ℕ → Exit → Mark
facts exprs s c x = record { reached = reaches s x; passes = passes s c x; any = stores true exprs s c x; other = stores false exprs s c x }

pub mark_eq : (a b : Mark) → a.reached ≡ b.reached → a.passes ≡ b.passes → a.any ≡ b.any → a.other ≡ b.other → a ≡ b
mark_eq a b e f g h =
    ap (λ x. record a { reached = x }) e ∙ ap (λ x. record a { reached = b.reached; passes = x }) f ∙ ap (λ x. record a { reached = b.reached; passes = b.passes; any = x }) g ∙ ap (λ x. record b { other = x }) h

either_none : (a : Mark) → either_mark a no_mark ≡ a
either_none a = mark_eq (either_mark a no_mark) a (or_false a.reached) (or_false a.passes) (or_false a.any) (or_false a.other)

either_get : (xs ys : List Mark) (k : ℕ) → get_or (either_marks xs ys) k no_mark ≡ either_mark (get_or xs k no_mark) (get_or ys k no_mark)
either_get [] ys k = refl
either_get (x ∷ xs) [] zero = sym (either_none x)
either_get (x ∷ xs) [] (suc k) = sym (either_none (get_or xs k no_mark))
either_get (x ∷ xs) (y ∷ ys) zero = refl
either_get (x ∷ xs) (y ∷ ys) (suc k) = either_get xs ys k

then_none : (a : Mark) → then_mark a no_mark ≡ no_mark
then_none a = mark_eq (then_mark a no_mark) no_mark (and_false a.reached) (and_false a.passes) (both a.reached a.any) (both a.reached a.other)
  where
    both : (x y : Bool) → ((x && false) || (y && false)) ≡ false
    both true true = refl
    both true false = refl
    both false true = refl
    both false false = refl

then_get : (a : Mark) (xs : List Mark) (k : ℕ) → get_or (then_marks a xs) k no_mark ≡ then_mark a (get_or xs k no_mark)
then_get a [] k = sym (then_none a)
then_get a (x ∷ xs) zero = refl
then_get a (x ∷ xs) (suc k) = then_get a xs k

back_get : (a : Mark) (xs : List Mark) (k : ℕ) → get_or (back_marks a xs) k no_mark ≡ back_mark a (get_or xs k no_mark)
back_get a [] k = refl
back_get a (x ∷ xs) zero = refl
back_get a (x ∷ xs) (suc k) = back_get a xs k

tail_get : (xs : List Mark) (k : ℕ) → get_or (tail_marks xs) k no_mark ≡ get_or xs (suc k) no_mark
tail_get [] k = refl
tail_get (x ∷ xs) k = refl

at_same : (j : ℕ) → get_or (at_marks j) j no_mark ≡ passing
at_same zero = refl
at_same (suc j) = at_same j

at_other : (j k : ℕ) → j ≢ k → get_or (at_marks j) k no_mark ≡ no_mark
at_other zero zero ne = absurd (ne refl)
at_other zero (suc k) ne = refl
at_other (suc j) zero ne = refl
at_other (suc j) (suc k) ne = at_other j k (λ e. ne (ap suc e))

equal_or : (j k : ℕ) → (j ≡ k) ⊎ (j ≢ k)
equal_or zero zero = inl refl
equal_or zero (suc k) = inr (λ e. omega (arith, e))
equal_or (suc j) zero = inr (λ e. omega (arith, e))
equal_or (suc j) (suc k) = ⊎_elim (λ e. inl (ap suc e)) (λ ne. inr (λ e. ne (omega (arith, e)))) (equal_or j k)

at_get : (j k : ℕ) → get_or (at_marks j) k no_mark ≡ record { reached = nat_eq j k; passes = nat_eq j k; any = false; other = false }
at_get j k = at (equal_or j k)
  where
    at : (j ≡ k) ⊎ (j ≢ k) → get_or (at_marks j) k no_mark ≡ record { reached = nat_eq j k; passes = nat_eq j k; any = false; other = false }
    at (inl e) = ap (λ x. get_or (at_marks j) x no_mark) (sym e) ∙ at_same j ∙ ap (λ b. record { reached = b; passes = b; any = false; other = false }) (sym (eq-eqb j k e))
    at (inr ne) = at_other j k ne ∙ ap (λ b. record { reached = b; passes = b; any = false; other = false }) (sym (ne_eqb j k ne))

straight_at : (m : Mark) (x : Exit) → mark_at (straight_marks m) x ≡ record { reached = is_fall x && m.reached; passes = is_fall x && m.passes; any = is_fall x && m.any; other = is_fall x && m.other }
straight_at m Falls = refl
straight_at m (Leaves k) = refl
straight_at m (Agains k) = refl

passing_at : (x : Exit) → mark_at (straight_marks passing) x ≡ record { reached = is_fall x; passes = is_fall x; any = false; other = false }
passing_at Falls = refl
passing_at (Leaves k) = refl
passing_at (Agains k) = refl

and_true : (b : Bool) → (b && true) ≡ b
and_true true = refl
and_true false = refl

pub marks_are : (exprs : List CoreExpr) (s : Stmt) (c : ℕ) (x : Exit) → mark_at (marks exprs s c) x ≡ facts exprs s c x
marks_are exprs Skip c x = passing_at x
marks_are exprs (Seq a b) c Falls = ap (λ m. then_mark m (mark_at (marks exprs b c) Falls)) (marks_are exprs a c Falls) ∙ ap (then_mark (facts exprs a c Falls)) (marks_are exprs b c Falls)
marks_are exprs (Seq a b) c (Leaves k) =
    either_get (marks exprs a c).leaves (then_marks (marks exprs a c).behind (marks exprs b c).leaves) k ∙ ap (either_mark (mark_at (marks exprs a c) (Leaves k))) (then_get (marks exprs a c).behind (marks exprs b c).leaves k)
    ∙ ap (λ m. either_mark m (then_mark (mark_at (marks exprs a c) Falls) (mark_at (marks exprs b c) (Leaves k)))) (marks_are exprs a c (Leaves k))
    ∙ ap (λ m. either_mark (facts exprs a c (Leaves k)) (then_mark m (mark_at (marks exprs b c) (Leaves k)))) (marks_are exprs a c Falls)
    ∙ ap (λ m. either_mark (facts exprs a c (Leaves k)) (then_mark (facts exprs a c Falls) m)) (marks_are exprs b c (Leaves k))
marks_are exprs (Seq a b) c (Agains k) =
    either_get (marks exprs a c).agains (then_marks (marks exprs a c).behind (marks exprs b c).agains) k ∙ ap (either_mark (mark_at (marks exprs a c) (Agains k))) (then_get (marks exprs a c).behind (marks exprs b c).agains k)
    ∙ ap (λ m. either_mark m (then_mark (mark_at (marks exprs a c) Falls) (mark_at (marks exprs b c) (Agains k)))) (marks_are exprs a c (Agains k))
    ∙ ap (λ m. either_mark (facts exprs a c (Agains k)) (then_mark m (mark_at (marks exprs b c) (Agains k)))) (marks_are exprs a c Falls)
    ∙ ap (λ m. either_mark (facts exprs a c (Agains k)) (then_mark (facts exprs a c Falls) m)) (marks_are exprs b c (Agains k))
marks_are exprs (Assign pairs) c x = straight_at (given_mark exprs pairs c) x ∙ ap (λ b. record (facts exprs (Assign pairs) c x) { reached = b }) (and_true (is_fall x))
marks_are exprs (Gate leaf) c x = passing_at x
marks_are exprs (Reset qubit) c x = passing_at x
marks_are exprs (Measure qubit into) c x = straight_at (measured_mark into c) x ∙ ap (λ b. record (facts exprs (Measure qubit into) c x) { reached = b }) (and_true (is_fall x))
marks_are exprs (If test a b) c Falls = ap (λ m. either_mark m (mark_at (marks exprs b c) Falls)) (marks_are exprs a c Falls) ∙ ap (either_mark (facts exprs a c Falls)) (marks_are exprs b c Falls)
marks_are exprs (If test a b) c (Leaves k) =
    either_get (marks exprs a c).leaves (marks exprs b c).leaves k ∙ ap (λ m. either_mark m (mark_at (marks exprs b c) (Leaves k))) (marks_are exprs a c (Leaves k)) ∙ ap (either_mark (facts exprs a c (Leaves k))) (marks_are exprs b c (Leaves k))
marks_are exprs (If test a b) c (Agains k) =
    either_get (marks exprs a c).agains (marks exprs b c).agains k ∙ ap (λ m. either_mark m (mark_at (marks exprs b c) (Agains k))) (marks_are exprs a c (Agains k)) ∙ ap (either_mark (facts exprs a c (Agains k))) (marks_are exprs b c (Agains k))
marks_are exprs (Block a) c Falls = ap (λ m. either_mark m (mark_at (marks exprs a c) (Leaves 0))) (marks_are exprs a c Falls) ∙ ap (either_mark (facts exprs a c Falls)) (marks_are exprs a c (Leaves 0))
marks_are exprs (Block a) c (Leaves k) = tail_get (marks exprs a c).leaves k ∙ marks_are exprs a c (Leaves (suc k))
marks_are exprs (Block a) c (Agains k) = marks_are exprs a c (Agains k)
marks_are exprs (Loop a) c Falls =
    ap (λ q. either_mark (back_mark q (mark_at (marks exprs a c) Falls)) (back_mark q (mark_at (marks exprs a c) (Leaves 0)))) (marks_are exprs a c (Agains 0))
    ∙ ap (λ m. either_mark (back_mark (facts exprs a c (Agains 0)) m) (back_mark (facts exprs a c (Agains 0)) (mark_at (marks exprs a c) (Leaves 0)))) (marks_are exprs a c Falls)
    ∙ ap (λ m. either_mark (back_mark (facts exprs a c (Agains 0)) (facts exprs a c Falls)) (back_mark (facts exprs a c (Agains 0)) m)) (marks_are exprs a c (Leaves 0))
marks_are exprs (Loop a) c (Leaves k) =
    back_get (mark_at (marks exprs a c) (Agains 0)) (tail_marks (marks exprs a c).leaves) k ∙ ap (back_mark (mark_at (marks exprs a c) (Agains 0))) (tail_get (marks exprs a c).leaves k)
    ∙ ap (λ q. back_mark q (mark_at (marks exprs a c) (Leaves (suc k)))) (marks_are exprs a c (Agains 0)) ∙ ap (back_mark (facts exprs a c (Agains 0))) (marks_are exprs a c (Leaves (suc k)))
marks_are exprs (Loop a) c (Agains k) =
    back_get (mark_at (marks exprs a c) (Agains 0)) (tail_marks (marks exprs a c).agains) k ∙ ap (back_mark (mark_at (marks exprs a c) (Agains 0))) (tail_get (marks exprs a c).agains k)
    ∙ ap (λ q. back_mark q (mark_at (marks exprs a c) (Agains (suc k)))) (marks_are exprs a c (Agains 0)) ∙ ap (back_mark (facts exprs a c (Agains 0))) (marks_are exprs a c (Agains (suc k)))
marks_are exprs (Leave j) c Falls = refl
marks_are exprs (Leave j) c (Leaves k) = at_get j k
marks_are exprs (Leave j) c (Agains k) = refl
marks_are exprs (Again j) c Falls = refl
marks_are exprs (Again j) c (Leaves k) = refl
marks_are exprs (Again j) c (Agains k) = at_get j k

-- ---- what the code asks

pub reached_mark : (exprs : List CoreExpr) (s : Stmt) (c : ℕ) → (marks exprs s c).behind.reached ≡ reaches s Falls
reached_mark exprs s c = ap (λ (m : Mark). m.reached) (marks_are exprs s c Falls)

pub any_mark : (exprs : List CoreExpr) (s : Stmt) (c : ℕ) → (get_or (marks exprs s c).agains 0 no_mark).any ≡ stores true exprs s c (Agains 0)
any_mark exprs s c = ap (λ (m : Mark). m.any) (marks_are exprs s c (Agains 0))

pub other_mark : (exprs : List CoreExpr) (s : Stmt) (c : ℕ) → (get_or (marks exprs s c).agains 0 no_mark).other ≡ stores false exprs s c (Agains 0)
other_mark exprs s c = ap (λ (m : Mark). m.other) (marks_are exprs s c (Agains 0))

pub at_replicate : (k : ℕ) → replicate k no_mark ++ passing ∷ [] ≡ at_marks k
at_replicate zero = refl
at_replicate (suc k) = ap (λ (ms : List Mark). no_mark ∷ ms) (at_replicate k)
