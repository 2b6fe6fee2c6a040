-- Statements that a cell passes unassigned.
use Rattle.std.proofs.Common.{◌≡◌, ℕ, Bool, true, false, not, ◌||◌, List, [], ◌∷◌, Option, Some, None, if◌then◌else◌, nat_eq, refl, sym, ap, ◌∙◌, true≢false}
use Rattle.core_ir.specs.declared.expression.CoreExpr.{CoreExpr}
use Rattle.core_ir.specs.declared.statement.CoreStmt.{CoreStmt}
use Rattle.core_ir.specs.declared.statement.CoreStmt.TheVariants.{Assign as AssignNode, Gate as GateNode, Reset as ResetNode, Measure as MeasureNode, If as IfNode, Block as BlockNode, Loop as LoopNode, Leave as LeaveNode, Again as AgainNode}
use Rattle.core_ir.specs.Tree.{Stmt, node_stmt}
use Rattle.core_ir.specs.Ways.{given_last, names_cell, is_into, counts}
use Rattle.block_lower.specs.declared.mark.Mark.{Mark}
use Rattle.block_lower.specs.Marks.{Marks, passing, then_mark, then_marks, straight_marks, seq_marks, given_mark, measured_mark, is_skipped, marks}
use Rattle.block_lower.proofs.Marking.{or_false, mark_eq}

then_passing : (m : Mark) → then_mark passing m ≡ m
then_passing m = mark_eq (then_mark passing m) m refl refl (or_false m.any) (or_false m.other)

all_then : (ms : List Mark) → then_marks passing ms ≡ ms
all_then [] = refl
all_then (m ∷ ms) = ap (λ (x : Mark). x ∷ then_marks passing ms) (then_passing m) ∙ ap (λ (xs : List Mark). m ∷ xs) (all_then ms)

pub seq_straight : (m : Marks) → seq_marks (straight_marks passing) m ≡ m
seq_straight m =
    ap (λ (x : Mark). record { behind = x; leaves = then_marks passing m.leaves; agains = then_marks passing m.agains }) (then_passing m.behind)
    ∙ ap (λ (xs : List Mark). record { behind = m.behind; leaves = xs; agains = then_marks passing m.agains }) (all_then m.leaves)
    ∙ ap (λ (xs : List Mark). record { behind = m.behind; leaves = m.leaves; agains = xs }) (all_then m.agains)

-- what names no cell gives it nothing
not_given : (pairs : List (ℕ × ℕ)) (c : ℕ) (before : Option ℕ) → names_cell pairs c ≡ false → given_last pairs c before ≡ before
not_given [] c before none = refl
not_given (p ∷ pairs) c before none = at (nat_eq p.0 c) none (not_given pairs c before)
  where
    at : (same : Bool) → (same || names_cell pairs c) ≡ false → (names_cell pairs c ≡ false → given_last pairs c before ≡ before) → given_last pairs c (if same then Some p.1 else before) ≡ before
    at true is behind = absurd (true≢false is)
    at false is behind = behind is

not_true : (b : Bool) → not b ≡ true → b ≡ false
not_true true is = absurd (true≢false (sym is))
not_true false is = refl

pub skipped_marks : (exprs : List CoreExpr) (tree : ℕ → Stmt) (s : CoreStmt) (c : ℕ) → is_skipped s c ≡ true → marks exprs (node_stmt tree (Some s)) c ≡ straight_marks passing
skipped_marks exprs tree (AssignNode pairs) c is =
    let none : names_cell pairs c ≡ false = not_true (names_cell pairs c) is in
    let given : given_last pairs c None ≡ None = not_given pairs c None none in
    ap straight_marks (mark_eq (given_mark exprs pairs c) passing refl (ap not none) (ap (counts true exprs) given) (ap (counts false exprs) given))
skipped_marks exprs tree (GateNode leaf) c is = refl
skipped_marks exprs tree (ResetNode qubit) c is = refl
skipped_marks exprs tree (MeasureNode qubit into) c is =
    let other : is_into into c ≡ false = not_true (is_into into c) is in
    ap straight_marks (mark_eq (measured_mark into c) passing refl (ap not other) other other)
skipped_marks exprs tree (IfNode test a b) c is = absurd (true≢false (sym is))
skipped_marks exprs tree (BlockNode a) c is = absurd (true≢false (sym is))
skipped_marks exprs tree (LoopNode a) c is = absurd (true≢false (sym is))
skipped_marks exprs tree (LeaveNode k) c is = absurd (true≢false (sym is))
skipped_marks exprs tree (AgainNode k) c is = absurd (true≢false (sym is))
