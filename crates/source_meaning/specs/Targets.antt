-- The walk of what is measured, reset and assigned, with the variables that are declared with a measurement.
use Rattle.std.specs.Prelude.{ℕ, nat_eq, Bool, true, false, not, ◌||◌, ◌&&◌, List, length, Option, Some, None, Result, Ok}
use Rattle.qq_base.specs.declared.refusal.Refusal.{Refusal}
use Rattle.qq_base.specs.declared.refusal.Span.{Span}
use Rattle.qq_base.specs.declared.rule.Rule.TheVariants.{Redeclared, WrongKind, TypeMismatch, NotConstant, SizeMismatch, AssignConst}
use Rattle.qq_base.specs.declared.run.QubitId.{QubitId}
use Rattle.qasm_ast.specs.declared.expr.BinaryOp.{BinaryOp}
use Rattle.qasm_ast.specs.Tree.{Called, word, qubit, Tree, Brackets, no_bracket, a_bracket, Name, Operand, place_of}
use Rattle.qasm_types.specs.declared.ty.Ty.{Ty}
use Rattle.qasm_types.specs.Types.{cells_of}
use Rattle.qasm_types.specs.Operators.{group_of}
use Rattle.alias_resolve.specs.Places.{Selected}
use Rattle.scope_env.specs.OpenScopes.{OpenScopes, find, is_here}
use Rattle.const_eval.specs.Meaning.{Meaning}
use Rattle.const_eval.specs.Refusing.{refused, where_allowed, go_on}
use Rattle.const_eval.specs.Walk.{Walk, asked, done, behind, then_walk, either_walk}
use Rattle.const_eval.specs.ConstantWalk.{indexes_walk}
use Rattle.const_eval.specs.Selecting.{is_indexed, is_register_type, selected_places, type_of_selected}
use Rattle.const_eval.specs.Typed.{is_power, is_bits, bit_count}
use Rattle.const_eval.specs.Operands.{operand_walk, wires_of}
use Rattle.const_eval.specs.ExprWalk.{computed_node, type_of_meaning, expr_walk, cast_walk, operator_walk}
use Rattle.const_eval.specs.Things.{Variable, Known, is_variable, meaning_of_thing, running_type, means_in, types_in, named_qubits}
use Rattle.source_meaning.specs.Walked.{Walks, gives, after, where_right, looking, walks, spend, count_sites, use_wires}
use Rattle.source_meaning.specs.Declarations.{declare}

-- ---- measured qubits

-- measured and reset qubits count 1 each, behind the rules of their operand
abbrev pub acted_walk : OpenScopes Known → Operand → Walk (Selected QubitId)
acted_walk scopes o = then_walk (operand_walk (means_in scopes) (named_qubits scopes) o) (λ s. behind (length s.items) (done s))

abbrev pub walk_acted : Span → Operand → Walks (Selected QubitId)
walk_acted statement o =
    after (walks statement (λ scopes. acted_walk scopes o)) (λ s.
    after (use_wires (wires_of o.name)) (λ _.
    after (count_sites (length s.items)) (λ _.
    gives s)))

-- a measurement's target has as many bits as the operand has qubits
abbrev pub same_size : Ty → Selected QubitId → Bool
same_size type s = nat_eq (bit_count type) (length s.items)

-- ---- declared variables

-- the cells of a declaration stand behind the rules of its name
abbrev pub walk_variable : Span → Name → Ty → Walks (Unit {0})
walk_variable statement name type = after (declare name (Variable type tt)) (λ _. spend statement (cells_of type))

-- a name that is measured into: it is new, then it is bits, then as many as there are qubits, and then there are cells for it
abbrev pub walk_measured_variable : Span → Name → Ty → Selected QubitId → Walks (Unit {0})
walk_measured_variable statement name type s =
    looking (λ scopes. where_right (not (is_here name.text scopes)) Redeclared name.place (
    where_right (is_bits type) TypeMismatch name.place (
    where_right (same_size type s) SizeMismatch name.place (
    walk_variable statement name type))))

-- ---- targets

-- whether what a name stands for may be assigned
abbrev pub may_be_assigned : Option Known → Bool
may_be_assigned None = false
may_be_assigned (Some thing) = is_variable thing

-- The rules of a target's name stand together: it is visible, a value and a register where brackets follow, of bits where it is measured
-- into, and a variable.
abbrev pub target_type : Bool → Operand → Option Known → Result Ty Refusal
target_type is_measured o found =
    go_on (type_of_meaning o.place (running_type found) (meaning_of_thing found)) (λ type.
    where_allowed (not (is_indexed o.index && not (is_register_type type))) WrongKind o.place (
    where_allowed (not is_measured || is_bits type) TypeMismatch o.place (
    where_allowed (may_be_assigned found) AssignConst o.place (
    Ok type))))

abbrev pub named_target_type : Bool → OpenScopes Known → Operand → Called → Result Ty Refusal
named_target_type is_measured scopes o (word text) = target_type is_measured o (find text scopes)
named_target_type is_measured scopes o (qubit n) = refused WrongKind o.place

-- the type of what is assigned: the variable, or what its brackets select
abbrev pub target_places_walk : (List ℕ → Meaning) → Span → Ty → Brackets → Walk Ty
target_places_walk means place type no_bracket = done type
target_places_walk means place type (a_bracket b bs) =
    then_walk (indexes_walk means false (a_bracket b bs)) (λ values.
    then_walk (asked (selected_places place (a_bracket b bs) type values)) (λ s.
    done (type_of_selected s)))

abbrev pub target_walk : Bool → OpenScopes Known → Operand → Walk Ty
target_walk is_measured scopes o =
    then_walk (asked (named_target_type is_measured scopes o o.name)) (λ type.
    target_places_walk (means_in scopes) o.place type o.index)

-- a value and its target, which has as many bits as qubits were measured
abbrev pub walk_measured_target : Span → Operand → Operand → Walks (Unit {0})
walk_measured_target statement target o =
    after (walks statement (λ scopes. target_walk true scopes target)) (λ type.
    after (walk_acted statement o) (λ s.
    where_right (same_size type s) SizeMismatch target.place (gives tt)))

-- `measure o -> target`
abbrev pub walk_measurement : Span → Operand → Option Operand → Walks (Unit {0})
walk_measurement statement o None = after (walk_acted statement o) (λ s. gives tt)
walk_measurement statement o (Some target) =
    after (walk_acted statement o) (λ s.
    after (walks statement (λ scopes. target_walk true scopes target)) (λ type.
    where_right (same_size type s) SizeMismatch target.place (gives tt)))

-- `x op= e` is `x op e`, cast to the type of x: a node reads x, and its own rules stand at x. An operand of `**` is constant, and x is not.
abbrev pub changed_walk : OpenScopes Known → Operand → BinaryOp → Tree → Walk (Unit {0})
changed_walk scopes target o a =
    then_walk (target_walk false scopes target) (λ type.
    either_walk (is_power (group_of o)) (asked (refused NotConstant target.place)) (
    then_walk (computed_node type) (λ x.
    then_walk (expr_walk (means_in scopes) (types_in scopes) false a) (λ y.
    then_walk (operator_walk o target.place x target.place y (place_of a)) (λ z.
    then_walk (cast_walk type target.place z) (λ _.
    done tt))))))
