-- Constants with index brackets, as `b[1:2]` and `b[-1]`. What brackets select is that of registers of the OpenQASM 3.0
-- specification, "Register concatenation and slicing".
use Rattle.std.specs.Prelude.{ℕ, zero, suc, Bool, true, List, ◌∷◌, Result, Ok, Err}
use Rattle.qq_base.specs.declared.refusal.Refusal.{Refusal}
use Rattle.qq_base.specs.declared.refusal.Span.{Span}
use Rattle.qq_base.specs.declared.rule.Rule.TheVariants.{WrongKind, IndexRange, StepZero}
use Rattle.qasm_ast.specs.Tree.{Trees, no_tree, a_tree, present, Bracket, position, range, members, Brackets, no_bracket, a_bracket, place_of}
use Rattle.alias_resolve.specs.declared.index.IndexValue.{IndexValue}
use Rattle.alias_resolve.specs.declared.select.SelectFault.{SelectFault}
use Rattle.alias_resolve.specs.declared.select.SelectFault.TheVariants as fault
use Rattle.alias_resolve.specs.Places.{Selected, selected_of}
use Rattle.const_eval.specs.Constant.{Constant, truth_value, register_of, bits_in}
use Rattle.const_eval.specs.Refusing.{refused}

-- ---- places

-- the place of a member of a set, by its number
abbrev pub place_of_member : Span → Trees → ℕ → Span
place_of_member otherwise no_tree n = otherwise
place_of_member otherwise (a_tree a as') zero = place_of a
place_of_member otherwise (a_tree a as') (suc n) = place_of_member otherwise as' n

-- the place at which a position is not in the register: the index expression, the range, or the member of the set
abbrev pub place_of_index : Span → Bracket → ℕ → Span
place_of_index otherwise (position a) member = place_of a
place_of_index otherwise (range start step stop place) member = place
place_of_index otherwise (members as') member = place_of_member otherwise as' member

-- the place of a step
abbrev pub place_of_step : Span → Bracket → Span
place_of_step otherwise (range start (present step) stop place) = place_of step
place_of_step otherwise _ = otherwise

-- what is said of one of several brackets, by its number
abbrev pub at_bracket : Span → (Bracket → Span) → Brackets → ℕ → Span
at_bracket otherwise f no_bracket n = otherwise
at_bracket otherwise f (a_bracket b bs) zero = f b
at_bracket otherwise f (a_bracket b bs) (suc n) = at_bracket otherwise f bs n

-- ---- what is selected

-- Why brackets select nothing. A bracket behind a single position follows no register, which stands at the name.
abbrev pub refusal_of_fault : {A : Type 0} → Span → Brackets → SelectFault → Result A Refusal
refusal_of_fault name index (fault.NotRegister n) = refused WrongKind name
refusal_of_fault name index (fault.StepZero n) = refused StepZero (at_bracket name (place_of_step name) index n)
refusal_of_fault name index (fault.IndexRange n member) = refused IndexRange (at_bracket name (λ b. place_of_index name b member) index n)
-- no definition gives want of memory
refusal_of_fault name index fault.Memory = refused WrongKind name

-- a single position is a truth value, and else what is selected is a register
abbrev pub constant_of_bits : Selected Bool → Constant
constant_of_bits selected = of selected.single selected.items
  where
    of : Bool → List Bool → Constant
    of true (bit ∷ bits) = truth_value bit
    of _ bits = register_of bits

abbrev pub selected_constant : Span → Brackets → Result (Selected Bool) SelectFault → Result Constant Refusal
selected_constant name index (Ok selected) = Ok (constant_of_bits selected)
selected_constant name index (Err fault) = refusal_of_fault name index fault

-- what brackets with these values select of a constant's bits, with the place of the name
abbrev pub indexed_constant : Span → Brackets → Constant → List IndexValue → Result Constant Refusal
indexed_constant name index c values = selected_constant name index (selected_of (bits_in c) values)
