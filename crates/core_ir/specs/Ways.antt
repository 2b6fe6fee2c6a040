-- The ways along the statements. A way takes either body of an `If`. Where a way through a statement ends,
-- it has fallen off its end, or left an enclosing block or loop, or gone back to the start of one.
use Rattle.std.specs.Prelude.{ℕ, zero, suc, nat_eq, if◌then◌else◌, Bool, true, false, not, ◌&&◌, ◌||◌, List, [], ◌∷◌, pos, Option, Some, None}
use Rattle.std.specs.List.{list_any}
use Rattle.core_ir.specs.declared.expression.CoreExpr.{CoreExpr}
use Rattle.core_ir.specs.Tree.{Expr, Truth, Number, expr_of, Stmt, Skip, Seq, Assign, Gate, Reset, Measure, If, Block, Loop, Leave, Again}

pub data Exit : Type 0 where
  Falls : Exit
  Leaves : (k : ℕ) → Exit
  Agains : (k : ℕ) → Exit

abbrev pub is_fall : Exit → Bool
is_fall Falls = true
is_fall _ = false

abbrev pub is_leave : ℕ → Exit → Bool
is_leave j (Leaves k) = nat_eq j k
is_leave j _ = false

abbrev pub is_again : ℕ → Exit → Bool
is_again j (Agains k) = nat_eq j k
is_again j _ = false

-- the exit of a body by which its block or loop is left at the given one, unless the body falls off its end
abbrev pub inside_block : Exit → Exit
inside_block Falls = Leaves 0
inside_block (Leaves k) = Leaves (suc k)
inside_block (Agains k) = Agains k

abbrev pub inside_loop : Exit → Exit
inside_loop Falls = Leaves 0
inside_loop (Leaves k) = Leaves (suc k)
inside_loop (Agains k) = Agains (suc k)

-- what falls off the end of a body is behind its block or loop
abbrev pub from_block : (Exit → Bool) → Exit → Bool
from_block f x = (is_fall x && f Falls) || f (inside_block x)

abbrev pub from_loop : (Exit → Bool) → Exit → Bool
from_loop f x = (is_fall x && f Falls) || f (inside_loop x)

-- whether some way through the statement ends there
abbrev pub reaches : Stmt → Exit → Bool
reaches Skip x = is_fall x
reaches (Seq a b) x = (not (is_fall x) && reaches a x) || (reaches a Falls && reaches b x)
reaches (Assign pairs) x = is_fall x
reaches (Gate leaf) x = is_fall x
reaches (Reset qubit) x = is_fall x
reaches (Measure qubit into) x = is_fall x
reaches (If test a b) x = reaches a x || reaches b x
reaches (Block a) x = from_block (reaches a) x
reaches (Loop a) x = from_loop (reaches a) x
reaches (Leave k) x = is_leave k x
reaches (Again k) x = is_again k x

-- ---- what a way does with a cell

-- the expression that the last pair of the cell gives it
abbrev pub given_last : List (ℕ × ℕ) → ℕ → Option ℕ → Option ℕ
given_last [] c before = before
given_last (p ∷ pairs) c before = given_last pairs c (if nat_eq p.0 c then Some p.1 else before)

abbrev pub names_cell : List (ℕ × ℕ) → ℕ → Bool
names_cell pairs c = list_any (λ (p : ℕ × ℕ). nat_eq p.0 c) pairs

abbrev pub is_into : Option ℕ → ℕ → Bool
is_into None c = false
is_into (Some k) c = nat_eq k c

-- the constant 0 or false
abbrev pub is_zero : Expr → Bool
is_zero (Number (pos zero)) = true
is_zero (Truth false) = true
is_zero _ = false

-- whether what is given, if anything, counts: anything, or another expression than the constant 0 or false
abbrev pub counts : Bool → List CoreExpr → Option ℕ → Bool
counts any exprs None = false
counts any exprs (Some e) = any || not (is_zero (expr_of exprs e))

-- whether the statement assigns the cell at all
abbrev pub assigns : Stmt → ℕ → Bool
assigns Skip c = false
assigns (Seq a b) c = assigns a c || assigns b c
assigns (Assign pairs) c = names_cell pairs c
assigns (Gate leaf) c = false
assigns (Reset qubit) c = false
assigns (Measure qubit into) c = is_into into c
assigns (If test a b) c = assigns a c || assigns b c
assigns (Block a) c = assigns a c
assigns (Loop a) c = assigns a c
assigns (Leave k) c = false
assigns (Again k) c = false

-- whether some way that ends there does not assign the cell
abbrev pub passes : Stmt → ℕ → Exit → Bool
passes Skip c x = is_fall x
passes (Seq a b) c x = (not (is_fall x) && passes a c x) || (passes a c Falls && passes b c x)
passes (Assign pairs) c x = is_fall x && not (names_cell pairs c)
passes (Gate leaf) c x = is_fall x
passes (Reset qubit) c x = is_fall x
passes (Measure qubit into) c x = is_fall x && not (is_into into c)
passes (If test a b) c x = passes a c x || passes b c x
passes (Block a) c x = from_block (passes a c) x
passes (Loop a) c x = from_loop (passes a c) x
passes (Leave k) c x = is_leave k x
passes (Again k) c x = is_again k x

-- Whether some way that ends there assigns the cell, and last a measured outcome or an expression that counts:
-- any one, or another than the constant 0 or false. Of a loop one way back to its start is enough: what is
-- last assigned on several is assigned on the last of them that assigns the cell.
abbrev pub stores : Bool → List CoreExpr → Stmt → ℕ → Exit → Bool
stores any exprs Skip c x = false
stores any exprs (Seq a b) c x =
    (not (is_fall x) && stores any exprs a c x)
    || ((reaches a Falls && stores any exprs b c x) || (stores any exprs a c Falls && passes b c x))
stores any exprs (Assign pairs) c x = is_fall x && counts any exprs (given_last pairs c None)
stores any exprs (Gate leaf) c x = false
stores any exprs (Reset qubit) c x = false
stores any exprs (Measure qubit into) c x = is_fall x && is_into into c
stores any exprs (If test a b) c x = stores any exprs a c x || stores any exprs b c x
stores any exprs (Block a) c x = from_block (stores any exprs a c) x
stores any exprs (Loop a) c x = from_loop (λ y. stores any exprs a c y || (passes a c y && stores any exprs a c (Agains 0))) x
stores any exprs (Leave k) c x = false
stores any exprs (Again k) c x = false

-- ---- open cells

-- At a place: whether some way along the statements leads there, and which cells are open there: on some way
-- there the last assigned value is a measured outcome or another expression than the constant 0 or false.
pub record Before : Type 0 where
  pub reached : Bool
  pub open_cell : ℕ → Bool

-- at the program's start
abbrev pub begin : Before
begin = record { reached = true; open_cell = λ c. false }

-- behind a statement, at one of its exits
abbrev pub after : List CoreExpr → Stmt → Exit → Before → Before
after exprs s x at = record {
  reached = at.reached && reaches s x;
  open_cell = λ c. (at.reached && stores false exprs s c x) || (passes s c x && at.open_cell c);
}

-- at the start of a loop: from in front of it, or by a way back
abbrev pub loop_start : List CoreExpr → Stmt → Before → Before
loop_start exprs a at = record {
  reached = at.reached;
  open_cell = λ c. at.open_cell c || (at.reached && stores false exprs a c (Agains 0));
}
