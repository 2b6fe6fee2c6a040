-- The cells of names: which they are, and what puts them back to zero.
--
-- A name takes its cells when it is declared, and no cell is taken twice. Each cell that no name in scope has is zero: what leaves a scope puts
-- its cells back, so that a cell is open only where its name is in scope.
use Rattle.std.specs.Prelude.{ℕ, suc, nat_le, List, [], ◌∷◌, ◌++◌, zip, filter, pos}
use Rattle.std.specs.List.{range_with_len}
use Rattle.qasm_types.specs.declared.ty.Ty.{Ty}
use Rattle.qasm_types.specs.Types.{cells_of}
use Rattle.core_ir.specs.Tree.{Expr, Number}
use Rattle.scope_env.specs.OpenScopes.{OpenScopes, Outside, Opened, Sealed, Named}
use Rattle.const_eval.specs.Things.{Thing, Variable, Counter}
use Rattle.const_eval.specs.Values.{zero_of}
use Rattle.cell_exprs.specs.Parts.{fixed_parts}

-- what a name stands for: the content of a variable is its first cell, and that of a counter the cell that its body sees
abbrev pub Held : Type 0
Held = Thing ℕ

abbrev pub cells_from : ℕ → Ty → List ℕ
cells_from c type = range_with_len c (cells_of type)

-- ---- the three cells of a running `for`: what its body sees, the value that is advanced, and the last value

abbrev pub advanced_cell : ℕ → ℕ
advanced_cell c = suc c

abbrev pub last_cell : ℕ → ℕ
last_cell c = suc (suc c)

-- ---- zeros

abbrev pub zero_parts : Ty → List Expr
zero_parts type = fixed_parts (zero_of type)

-- the cells of a type from one on, with a zero in each
abbrev pub zeros_from : ℕ → Ty → List (ℕ × Expr)
zeros_from c type = zip (cells_from c type) (zero_parts type)

abbrev pub zero_number : ℕ → ℕ × Expr
zero_number c = (c, Number (pos 0))

abbrev pub zeros_of_thing : Held → List (ℕ × Expr)
zeros_of_thing (Variable type c) = zeros_from c type
zeros_of_thing (Counter type c) = zero_number c ∷ zero_number (advanced_cell c) ∷ zero_number (last_cell c) ∷ []
zeros_of_thing _ = []

abbrev pub only_since : ℕ → List (ℕ × Expr) → List (ℕ × Expr)
only_since first pairs = filter (λ (p : ℕ × Expr). nat_le first p.0) pairs

-- the cells of all names in the open scopes, as far as they were taken since this one was next, with a zero in each
abbrev pub zeros_since : ℕ → OpenScopes Held → List (ℕ × Expr)
zeros_since first Outside = []
zeros_since first (Opened outer) = zeros_since first outer
zeros_since first (Sealed seen callers) = zeros_since first callers
zeros_since first (Named x thing rest) = only_since first (zeros_of_thing thing) ++ zeros_since first rest
