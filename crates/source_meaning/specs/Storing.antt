-- Where values and measured bits go.
use Rattle.std.specs.Prelude.{ℕ, Bool, List, [], ◌∷◌, ◌++◌, Option, Some, slice_set}
use Rattle.qq_base.specs.declared.refusal.Span.{Span}
use Rattle.qq_base.specs.declared.run.QubitId.{QubitId}
use Rattle.qq_base.specs.declared.run.Event.TheVariants as event
use Rattle.qasm_ast.specs.Tree.{Called, word, qubit, Brackets, no_bracket, a_bracket, Operand}
use Rattle.qasm_types.specs.declared.ty.Ty.{Ty}
use Rattle.qasm_types.specs.declared.ty.Ty.TheVariants as t
use Rattle.qasm_types.specs.Values.{Truth, Register, Value as AValue}
use Rattle.alias_resolve.specs.Places.{Selected}
use Rattle.scope_env.specs.OpenScopes.{Named, find, assign as assigned}
use Rattle.const_eval.specs.Things.{Thing, Variable}
use Rattle.const_eval.specs.Selecting.{type_of_selected, bits_of_type}
use Rattle.const_eval.specs.Values.{Frames, TypedValue, typed, cast_to, bits_in_value, qubits_in, places_in}
use Rattle.source_meaning.specs.Flow.{Next, Returned, Asking, Runs, flows, behind}

-- ---- storing

-- where a value goes: nowhere, to a variable that is declared with it, or to a target
pub data Into : Type 0 where
  Nowhere : Into
  ADeclared : (name : List ℕ) (type : Ty) → Into
  ATarget : (target : Operand) → Into

-- bits at positions, in order, so that of two for one position the later stands
abbrev pub bits_at : List ℕ → List Bool → List Bool → List Bool
bits_at [] bits register = register
bits_at (p ∷ ps) [] register = register
bits_at (p ∷ ps) (b ∷ bits) register = bits_at ps bits (slice_set register p b)

-- What is stored is made at the type of its target: an expression's value is cast to it, and measured bits stand as they are.
abbrev pub Makes : Type 0
Makes = Ty → TypedValue

abbrev pub cast_value : TypedValue → Makes
cast_value v type = cast_to type v

abbrev pub measured_value : List Bool → Makes
measured_value (b ∷ bits) t.Bit = typed t.Bit (Truth b)
measured_value bits type = typed type (Register bits)

-- a register with the bits of a part of it replaced
abbrev pub with_part : Selected ℕ → Makes → AValue → AValue
with_part places make x = Register (bits_at places.items (bits_in_value (make (type_of_selected places)).value) (bits_in_value x))

abbrev pub new_value : Frames → Brackets → Ty → AValue → Makes → AValue
new_value frames no_bracket type x make = (make type).value
new_value frames (a_bracket b bs) type x make = with_part (places_in frames (bits_of_type type) (a_bracket b bs)) make x

abbrev pub stored_in : Frames → List ℕ → Brackets → Option (Thing AValue) → Makes → Frames
stored_in frames text index (Some (Variable type x)) make = assigned text (Variable type (new_value frames index type x make)) frames
stored_in frames text index _ make = frames

abbrev pub store_target : Called → Brackets → Makes → Frames → Frames
store_target (word text) index make frames = stored_in frames text index (find text frames) make
store_target (qubit n) index make frames = frames

abbrev pub store : Into → Makes → Frames → Frames
store Nowhere make frames = frames
store (ADeclared name type) make frames = Named name (Variable type (make type).value) frames
store (ATarget o) make frames = store_target o.name o.index make frames

-- ---- measurements

-- what measured bits are for: they are stored, or returned, as a `bit` or a register
pub data Purpose : Type 0 where
  Stores : (into : Into) → Purpose
  Returns : (single : Bool) → Purpose

abbrev pub returned_bits : Bool → List Bool → TypedValue
returned_bits single bits = measured_value bits (type_of_selected (record { items = bits; single = single }))

abbrev pub finish : Purpose → List Bool → Runs
finish (Stores into) bits frames outcomes turns = flows Next (store into (measured_value bits) frames) outcomes turns
finish (Returns single) bits frames outcomes turns = flows (Returned (Some (returned_bits single bits))) frames outcomes turns

-- The qubits that are left of a measurement, in order, with the outcomes that it has taken. With no outcome left the flow is asked.
abbrev pub measuring : Span → List QubitId → List Bool → Purpose → Runs
measuring place [] taken purpose frames outcomes turns = finish purpose taken frames outcomes turns
measuring place (q ∷ qs) taken purpose frames [] turns = flows (Asking place) frames [] turns
measuring place (q ∷ qs) taken purpose frames (b ∷ outcomes) turns =
    behind (event.Measure q b ∷ []) (measuring place qs (taken ++ b ∷ []) purpose frames outcomes turns)

abbrev pub measure : Span → Operand → Purpose → Runs
measure place o purpose frames outcomes turns = measuring place (qubits_in frames o).items [] purpose frames outcomes turns
