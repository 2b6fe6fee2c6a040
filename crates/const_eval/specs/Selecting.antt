-- What index brackets select, with the places of the rules that they break. What they select is that of registers of the
-- OpenQASM 3.0 specification, "Register concatenation and slicing".
use Rattle.std.specs.Prelude.{ℕ, Bool, true, false, List, length, Result, Ok, Err}
use Rattle.qq_base.specs.declared.refusal.Refusal.{Refusal}
use Rattle.qq_base.specs.declared.refusal.Span.{Span}
use Rattle.qasm_ast.specs.Tree.{Brackets, no_bracket, a_bracket}
use Rattle.qasm_types.specs.declared.ty.Ty.{Ty}
use Rattle.qasm_types.specs.declared.ty.Ty.TheVariants as t
use Rattle.alias_resolve.specs.declared.index.IndexValue.{IndexValue}
use Rattle.alias_resolve.specs.declared.select.SelectFault.{SelectFault}
use Rattle.alias_resolve.specs.Places.{Selected, selected_of, positions_of}
use Rattle.const_eval.specs.ConstIndexes.{refusal_of_fault}

abbrev pub is_indexed : Brackets → Bool
is_indexed no_bracket = false
is_indexed (a_bracket b bs) = true

-- ---- registers of bits

abbrev pub is_register_type : Ty → Bool
is_register_type (t.Bits n) = true
is_register_type _ = false

-- the bits of a register of this type; another type is no register
abbrev pub bits_of_type : Ty → ℕ
bits_of_type (t.Bits n) = n
bits_of_type _ = 0

-- the type of what is selected of a register of bits: a single position is a `bit`
abbrev pub type_of_selected : {A : Type 0} → Selected A → Ty
type_of_selected s = of s.single (length s.items)
  where
    of : Bool → ℕ → Ty
    of true n = t.Bit
    of false n = t.Bits n

-- ---- what is selected

-- an answer, or the refusal of a bracket that selects nothing, with the place of the name
abbrev pub where_selected : {A : Type 0} → Span → Brackets → Result A SelectFault → Result A Refusal
where_selected place index (Ok a) = Ok a
where_selected place index (Err fault) = refusal_of_fault place index fault

-- the places that brackets with these values select of a register of this type
abbrev pub selected_places : Span → Brackets → Ty → List IndexValue → Result (Selected ℕ) Refusal
selected_places place index type values = where_selected place index (positions_of (bits_of_type type) values)

-- the items that brackets with these values select; with no bracket they are all, as they stand
abbrev pub selection : {A : Type 0} → Span → Brackets → Selected A → List IndexValue → Result (Selected A) Refusal
selection place no_bracket all values = Ok all
selection place (a_bracket b bs) all values = where_selected place (a_bracket b bs) (selected_of all.items values)
