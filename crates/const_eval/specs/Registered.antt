-- Serves private contracts alone: what operators give on the bits of registers, that of index 0 first.
use Rattle.std.specs.Prelude.{ℕ, ◌-◌, Bool, true, false, not, ◌&&◌, ◌||◌, if◌then◌else◌, List, ◌++◌, length, map, replicate, take, drop}
use Rattle.std.specs.List.{zip}
use Rattle.qasm_ast.specs.declared.expr.BinaryOp.{BinaryOp}
use Rattle.qasm_ast.specs.declared.expr.BinaryOp.TheVariants as op
use Rattle.qasm_types.specs.declared.ty.Ty.{Ty}
use Rattle.qasm_types.specs.declared.ty.Ty.TheVariants as t
use Rattle.qasm_types.specs.Operators.{Group, Bitwise, Equality, Shift}

-- what `&`, `|` and `^` give on two bits
abbrev pub bit_result : BinaryOp → Bool → Bool → Bool
bit_result op.BitAnd a b = a && b
bit_result op.BitOr a b = a || b
bit_result op.BitXor a b = if a then not b else b
bit_result _ a b = false

abbrev pub paired : BinaryOp → List Bool → List Bool → List Bool
paired o xs ys = map (λ p. bit_result o p.0 p.1) (zip xs ys)

-- zeros come in at index 0, and at the highest index
abbrev pub moved_left : ℕ → List Bool → List Bool
moved_left count bits = replicate count false ++ take (length bits - count) bits

abbrev pub moved_right : ℕ → List Bool → List Bool
moved_right count bits = drop count bits ++ replicate count false

-- the operators that take two registers
abbrev pub pairs : Group → Bool
pairs Bitwise = true
pairs Equality = true
pairs _ = false

abbrev pub is_shift : Group → Bool
is_shift Shift = true
is_shift _ = false

-- the type of what an operator gives on two registers of this type
abbrev pub paired_type : Group → Ty → Ty
paired_type Equality type = t.Bool
paired_type _ type = type
