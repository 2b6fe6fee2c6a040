-- For private contracts only: what the ways through a statement do with a cell, at all its exits at once. It is found
-- from the inside out, with each statement looked at once.
use Rattle.std.specs.Prelude.{ℕ, zero, suc, Bool, true, false, not, ◌&&◌, ◌||◌, List, [], ◌∷◌, get_or, Option, Some, None}
use Rattle.core_ir.specs.declared.expression.CoreExpr.{CoreExpr}
use Rattle.core_ir.specs.declared.statement.CoreStmt.{CoreStmt}
use Rattle.core_ir.specs.declared.statement.CoreStmt.TheVariants.{Assign as AssignNode, Gate as GateNode, Reset as ResetNode, Measure as MeasureNode}
use Rattle.core_ir.specs.Tree.{Cut, node_expr, Stmt, Skip, Seq, Assign, Gate, Reset, Measure, If, Block, Loop, Leave, Again}
use Rattle.core_ir.specs.Ways.{Exit, Falls, Leaves, Agains, given_last, names_cell, is_into, is_zero, counts}
use Rattle.block_lower.specs.declared.mark.Mark.{Mark}

abbrev pub no_mark : Mark
no_mark = record { reached = false; passes = false; any = false; other = false }

abbrev pub passing : Mark
passing = record { reached = true; passes = true; any = false; other = false }

pub record Marks : Type 0 where
  pub behind : Mark
  pub leaves : List Mark
  pub agains : List Mark

abbrev pub mark_at : Marks → Exit → Mark
mark_at m Falls = m.behind
mark_at m (Leaves k) = get_or m.leaves k no_mark
mark_at m (Agains k) = get_or m.agains k no_mark

abbrev pub either_mark : Mark → Mark → Mark
either_mark a b = record { reached = a.reached || b.reached; passes = a.passes || b.passes; any = a.any || b.any; other = a.other || b.other }

-- the second behind the first
abbrev pub then_mark : Mark → Mark → Mark
then_mark a b = record {
  reached = a.reached && b.reached;
  passes = a.passes && b.passes;
  any = (a.reached && b.any) || (a.any && b.passes);
  other = (a.reached && b.other) || (a.other && b.passes);
}

-- behind a way back to a loop's start, or straight from it
abbrev pub back_mark : Mark → Mark → Mark
back_mark back m = record { reached = m.reached; passes = m.passes; any = m.any || (m.passes && back.any); other = m.other || (m.passes && back.other) }

abbrev pub either_marks : List Mark → List Mark → List Mark
either_marks [] ys = ys
either_marks (x ∷ xs) [] = x ∷ xs
either_marks (x ∷ xs) (y ∷ ys) = either_mark x y ∷ either_marks xs ys

abbrev pub then_marks : Mark → List Mark → List Mark
then_marks a [] = []
then_marks a (x ∷ xs) = then_mark a x ∷ then_marks a xs

abbrev pub back_marks : Mark → List Mark → List Mark
back_marks back [] = []
back_marks back (x ∷ xs) = back_mark back x ∷ back_marks back xs

abbrev pub tail_marks : List Mark → List Mark
tail_marks [] = []
tail_marks (x ∷ xs) = xs

abbrev pub at_marks : ℕ → List Mark
at_marks zero = passing ∷ []
at_marks (suc k) = no_mark ∷ at_marks k

abbrev pub straight_marks : Mark → Marks
straight_marks m = record { behind = m; leaves = []; agains = [] }

-- the constant 0 or false, told by the node
abbrev pub is_zero_node : CoreExpr → Bool
is_zero_node node = is_zero (node_expr (λ e. Cut) (Some node))

-- where an expression is given, if one is
abbrev pub given_mark : List CoreExpr → List (ℕ × ℕ) → ℕ → Mark
given_mark exprs pairs c = record {
  reached = true;
  passes = not (names_cell pairs c);
  any = counts true exprs (given_last pairs c None);
  other = counts false exprs (given_last pairs c None);
}

abbrev pub measured_mark : Option ℕ → ℕ → Mark
measured_mark into c = record { reached = true; passes = not (is_into into c); any = is_into into c; other = is_into into c }

-- a statement that goes on behind it on all ways and does not assign the cell
abbrev pub is_skipped : CoreStmt → ℕ → Bool
is_skipped (AssignNode pairs) c = not (names_cell pairs c)
is_skipped (GateNode leaf) c = true
is_skipped (ResetNode qubit) c = true
is_skipped (MeasureNode qubit into) c = not (is_into into c)
is_skipped _ c = false

abbrev pub seq_marks : Marks → Marks → Marks
seq_marks a b = record {
  behind = then_mark a.behind b.behind;
  leaves = either_marks a.leaves (then_marks a.behind b.leaves);
  agains = either_marks a.agains (then_marks a.behind b.agains);
}

abbrev pub if_marks : Marks → Marks → Marks
if_marks a b = record { behind = either_mark a.behind b.behind; leaves = either_marks a.leaves b.leaves; agains = either_marks a.agains b.agains }

abbrev pub block_marks : Marks → Marks
block_marks a = record { behind = either_mark a.behind (get_or a.leaves 0 no_mark); leaves = tail_marks a.leaves; agains = a.agains }

abbrev pub loop_marks : Marks → Marks
loop_marks a =
    let back = get_or a.agains 0 no_mark in
    record {
      behind = either_mark (back_mark back a.behind) (back_mark back (get_or a.leaves 0 no_mark));
      leaves = back_marks back (tail_marks a.leaves);
      agains = back_marks back (tail_marks a.agains);
    }

abbrev pub marks : List CoreExpr → Stmt → ℕ → Marks
marks exprs Skip c = straight_marks passing
marks exprs (Seq a b) c = seq_marks (marks exprs a c) (marks exprs b c)
marks exprs (Assign pairs) c = straight_marks (given_mark exprs pairs c)
marks exprs (Gate leaf) c = straight_marks passing
marks exprs (Reset qubit) c = straight_marks passing
marks exprs (Measure qubit into) c = straight_marks (measured_mark into c)
marks exprs (If test a b) c = if_marks (marks exprs a c) (marks exprs b c)
marks exprs (Block a) c = block_marks (marks exprs a c)
marks exprs (Loop a) c = loop_marks (marks exprs a c)
marks exprs (Leave k) c = record { behind = no_mark; leaves = at_marks k; agains = [] }
marks exprs (Again k) c = record { behind = no_mark; leaves = []; agains = at_marks k }
