-- Where jumps go: levels that are counted from where a statement stands, and the statements of the core that loops are.
use Rattle.std.specs.Prelude.{ℕ, suc, Bool, true, false, [], ◌∷◌, ℤ, pos, negsuc}
use Rattle.qir_module.specs.declared.instruction.Opcode.TheVariants as code
use Rattle.core_ir.specs.Tree.{Expr, Cell, Number, Op}
use Rattle.machine_words.specs.Words.{word_of}
use Rattle.source_core.specs.Core.{Core, Assign, If, Loop, Leave, Again, Body, no_core, a_core, joined, only_core}
use Rattle.source_core.specs.Cells.{advanced_cell, last_cell}

-- to the end of an enclosing block or loop, or to the start of an enclosing loop
pub data Way : Type 0 where
  ToEnd : (k : ℕ) → Way
  ToStart : (k : ℕ) → Way

abbrev pub jump : Way → Core
jump (ToEnd k) = Leave k
jump (ToStart k) = Again k

-- Where the jumps of a statement go, and from which cell on each puts the cells of names back: those of what it leaves. Outside of loops
-- and calls the ways of `break`, `continue` and `return` mean nothing. `result` is the first cell of what the open call returns.
pub record Jumps : Type 0 where
  pub break_to : Way
  pub continue_to : Way
  pub loop_since : ℕ
  pub return_to : ℕ
  pub result : ℕ
  pub call_since : ℕ
  pub end_to : ℕ
  pub end_since : ℕ

-- the program is a block, which `end` leaves
abbrev pub program_jumps : Jumps
program_jumps = record { break_to = ToEnd 0; continue_to = ToEnd 0; loop_since = 0; return_to = 0; result = 0; call_since = 0; end_to = 0; end_since = 0 }

-- a statement of the top level: the cells that are taken from here on are those of no global that is declared so far
abbrev pub global_jumps : Bool → ℕ → Jumps → Jumps
global_jumps true c j = record j { end_since = c }
global_jumps false c j = j

-- in the body of a `while` or of a running `for`, which stands in the loop
abbrev pub loop_jumps : ℕ → Jumps → Jumps
loop_jumps c j = record { break_to = ToEnd 0; continue_to = ToStart 0; loop_since = c; return_to = suc j.return_to; result = j.result; call_since = j.call_since; end_to = suc j.end_to; end_since = j.end_since }

-- In a copy of the body of a static `for`. Where the body has jumps of this loop it is a block in the block of all copies, and else no
-- block at all.
abbrev pub copy_jumps : (has_jumps : Bool) → ℕ → Jumps → Jumps
copy_jumps true c j =
    record { break_to = ToEnd 1; continue_to = ToEnd 0; loop_since = c; return_to = suc (suc j.return_to); result = j.result; call_since = j.call_since; end_to = suc (suc j.end_to); end_since = j.end_since }
copy_jumps false c j = j

-- in a called body, which is a block
abbrev pub call_jumps : (result : ℕ) → ℕ → Jumps → Jumps
call_jumps result c j =
    record { break_to = ToEnd 0; continue_to = ToEnd 0; loop_since = c; return_to = 0; result = result; call_since = c; end_to = suc j.end_to; end_since = j.end_since }

-- ---- loops

-- behind the body a turn is spent
abbrev pub while_core : Expr → Body → Body
while_core test body = only_core (Loop (only_core (If test (joined body (only_core (Again 0))) no_core)))

-- the value that is advanced has not passed the last one
abbrev pub is_not_past : ℤ → ℕ → Expr
is_not_past (pos n) c = Op code.Sle (Cell (advanced_cell c)) (Cell (last_cell c))
is_not_past (negsuc n) c = Op code.Sle (Cell (last_cell c)) (Cell (advanced_cell c))

-- A running `for`: the value is advanced at the start of the loop, from one step in front of the first, so that `continue` goes there. Behind the
-- body a turn is spent.
abbrev pub for_core : ℤ → ℕ → Expr → Expr → Body → Body
for_core step c start stop body =
    a_core (Assign ((advanced_cell c, Op code.Sub start (Number (word_of step))) ∷ (last_cell c, stop) ∷ [])) (
    only_core (Loop (
    a_core (Assign ((advanced_cell c, Op code.Add (Cell (advanced_cell c)) (Number (word_of step))) ∷ [])) (
    only_core (If (is_not_past step c)
    (a_core (Assign ((c, Cell (advanced_cell c)) ∷ [])) (joined body (only_core (Again 0))))
    no_core)))))
