-- The walk of declarations: names and their cells, the library, qubits, constants and other names for qubits.
use Rattle.std.specs.Prelude.{ℕ, ◌+◌, nat_eq, nat_le, Bool, true, false, not, ◌&&◌, List, [], ◌∷◌, ◌++◌, Result, Ok}
use Rattle.std.specs.List.{list_any}
use Rattle.qq_base.specs.declared.refusal.Refusal.{Refusal}
use Rattle.qq_base.specs.declared.refusal.Span.{Span}
use Rattle.qq_base.specs.declared.rule.Rule.TheVariants.{Redeclared, RepeatedQubit, MixedQubits, QubitRange, CellRange}
use Rattle.qq_base.specs.declared.run.QubitId.{QubitId}
use Rattle.qasm_ast.specs.Tree.{Tree, Name, Scalar, Operand, Parameter, place_of}
use Rattle.alias_resolve.specs.Places.{Selected}
use Rattle.scope_env.specs.OpenScopes.{Named, Sealed, is_here}
use Rattle.const_eval.specs.Meaning.{Meaning}
use Rattle.const_eval.specs.Refusing.{where_allowed}
use Rattle.const_eval.specs.ConstCast.{cast_of_constant}
use Rattle.const_eval.specs.Constant.{Constant}
use Rattle.const_eval.specs.Walk.{Walk, asked, then_walk}
use Rattle.const_eval.specs.ConstantWalk.{constant_walk, type_walk}
use Rattle.const_eval.specs.Typed.{is_angle}
use Rattle.const_eval.specs.Operands.{operands_walk, wires_of_all}
use Rattle.const_eval.specs.Things.{Fixed, Variable, Qubits, Alias, Known, means_in, named_qubits, cells_in_scope, declared_qubits, next_qubits}
use Rattle.const_eval.specs.Binding.{Bound, ToValue, ToQubits, seen_by}
use Rattle.source_meaning.specs.Library.{included, with_rows}
use Rattle.source_meaning.specs.Walked.{Walks, gives, after, where_right, looking, charged, walks, in_scopes, use_wires}

-- ---- names

-- so many cells may be in scope
abbrev pub most_cells : ℕ
most_cells = 4096

-- a name that is declared: it is new in its scope, and there are cells for it
abbrev pub declare : Name → Known → Walks (Unit {0})
declare name thing =
    looking (λ scopes. where_right (not (is_here name.text scopes)) Redeclared name.place (
    after (in_scopes (Named name.text thing)) (λ _.
    looking (λ inner. where_right (nat_le (cells_in_scope inner) most_cells) CellRange name.place (
    gives tt)))))

abbrev pub parameter_of : Bound → Known
parameter_of (ToValue type) = Variable type tt
parameter_of (ToQubits s) = Alias s

-- the parameters, in text order
abbrev pub enter_parameters : List Parameter → List Bound → Walks (Unit {0})
enter_parameters [] bs = gives tt
enter_parameters (p ∷ ps) [] = gives tt
enter_parameters (p ∷ ps) (b ∷ bs) = after (declare p.name (parameter_of b)) (λ _. enter_parameters ps bs)

-- the scope of a called body
abbrev pub enter_body : List ℕ → Walks (Unit {0})
enter_body name = in_scopes (λ scopes. Sealed (seen_by name scopes) scopes)

-- ---- the library and qubits

abbrev pub walk_include : Span → Walks (Unit {0})
walk_include place =
    looking (λ scopes. where_right (not (list_any (λ (entry : List ℕ × ℕ). is_here entry.0 scopes) included)) Redeclared place (
    in_scopes (with_rows included)))

abbrev pub some_qubits : ℕ → ℕ → Bool → Known
some_qubits from n single = Qubits (record { items = next_qubits from n; single = single })

-- so many qubits under a new name, in a program that uses no `$n`
abbrev pub walk_new_qubits : Name → ℕ → Bool → Walks (Unit {0})
walk_new_qubits name n single w =
    (where_right (not (is_here name.text w.scopes)) Redeclared name.place (
    where_right (nat_eq w.wires 0) MixedQubits name.place (
    where_right (nat_le (declared_qubits w.scopes + n) 1024) QubitRange name.place (
    in_scopes (λ scopes. Named name.text (some_qubits (declared_qubits scopes) n single) scopes))))) w

-- ---- constants

-- the value of a constant that is declared, cast to its type
abbrev pub constant_declared_walk : (List ℕ → Meaning) → Scalar → Tree → Walk Constant
constant_declared_walk means type a =
    then_walk (type_walk means false type.base type.place type.width) (λ to.
    then_walk (constant_walk means (is_angle to) a) (λ c.
    asked (cast_of_constant c to (place_of a))))

abbrev pub walk_const : Span → Scalar → Name → Tree → Walks (Unit {0})
walk_const statement type name a =
    after (walks statement (λ scopes. constant_declared_walk (means_in scopes) type a)) (λ c.
    declare name (Fixed c))

-- ---- operands

-- operands, whose `$n` are used
abbrev pub walk_operands : Span → List Operand → Walks (List (Selected QubitId))
walk_operands statement os =
    after (walks statement (λ scopes. operands_walk (means_in scopes) (named_qubits scopes) os)) (λ ss.
    after (use_wires (wires_of_all os)) (λ _.
    gives ss))

-- the joined list of a `let`, which has no qubit twice
abbrev pub has_qubit : QubitId → List QubitId → Bool
has_qubit q qs = list_any (λ (r : QubitId). nat_eq q.0 r.0) qs

abbrev pub are_new : List QubitId → List QubitId → Bool
are_new before [] = true
are_new before (q ∷ qs) = not (has_qubit q before) && are_new (q ∷ before) qs

abbrev pub all_of : List (Selected QubitId) → List QubitId
all_of [] = []
all_of (s ∷ ss) = s.items ++ all_of ss

abbrev pub joined : List QubitId → List Operand → List (Selected QubitId) → Result (List QubitId) Refusal
joined before (o ∷ os) (s ∷ ss) = where_allowed (are_new before s.items) RepeatedQubit o.place (joined (before ++ s.items) os ss)
joined before _ _ = Ok before

abbrev pub walk_alias : Span → Name → List Operand → Walks (Unit {0})
walk_alias statement name os =
    after (walk_operands statement os) (λ ss.
    after (charged statement (asked (joined [] os ss))) (λ qs.
    declare name (Alias (record { items = qs; single = false }))))
