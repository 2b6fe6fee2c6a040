-- Declarations, measurements, gate calls and results: the elaboration of each refuses what the walk of it refuses, and comes to the same
-- sums.
use Rattle.std.proofs.Common.{◌≡◌, ℕ, Bool, false, List, [], ◌∷◌, length, Option, Some, None, refl, ap, ◌∙◌}
use Rattle.std.specs.Prelude.{◌++◌, Ok}
use Rattle.qq_base.specs.declared.refusal.Span.{Span}
use Rattle.qq_base.specs.declared.rule.Rule.TheVariants.{SizeMismatch}
use Rattle.qq_base.specs.declared.run.QubitId.{QubitId}
use Rattle.qasm_ast.specs.Tree.{Tree, Trees, Name, Scalar, Operand, Value, expression, measured, Change, Parameter}
use Rattle.qasm_types.specs.declared.ty.Ty.{Ty}
use Rattle.qasm_types.specs.Types.{cells_of}
use Rattle.alias_resolve.specs.Places.{Selected}
use Rattle.core_ir.specs.declared.expression.CellKind.{CellKind}
use Rattle.core_ir.specs.declared.expression.CellKind.TheVariants.{Number as NumberKind}
use Rattle.cell_exprs.specs.CellValues.{kind_of_type}
use Rattle.scope_env.specs.OpenScopes.{OpenScopes, Named}
use Rattle.const_eval.specs.Refusing.{go_on}
use Rattle.const_eval.specs.Operands.{wires_of_all}
use Rattle.const_eval.specs.Selecting.{type_of_selected}
use Rattle.const_eval.specs.Things.{Fixed, Variable, Alias, known}
use Rattle.const_eval.specs.Binding.{Bound, ToValue, ToQubits}
use Rattle.source_meaning.specs.Walked.{Walked, Walks}
use Rattle.source_meaning.specs.Walked as walk
use Rattle.source_meaning.specs.Library.{included, with_rows}
use Rattle.source_meaning.specs.GateCalls.{Expands}
use Rattle.source_meaning.specs.Declarations as declarations
use Rattle.source_meaning.specs.Targets as targets
use Rattle.source_meaning.specs.Walk as walk_parts
use Rattle.source_meaning.specs.Walk.{Within, NoSubroutine, InSubroutine}
use Rattle.source_core.specs.Core.{joined, assigned}
use Rattle.source_core.specs.Cells.{Held, cells_from, zeros_since}
use Rattle.source_core.specs.Gates.{Lists, Listed, turn_parts, listed_body}
use Rattle.source_core.specs.Jumps.{Jumps}
use Rattle.source_core.specs.Made.{Work, walked_of, Makes, after, made_behind, looking, gives, changes, by_walk, take_cells}
use Rattle.source_core.specs.Parts.{cast_in, target_cells, Origin, of_parts, of_cells, stored, measured_into, measured_only}
use Rattle.source_core.specs.Makes as makes
use Rattle.source_core.proofs.Known.{rows_known, qubits_known}
use Rattle.source_core.proofs.Keeps.{Keeps, keeps_acted, keeps_operands, keeps_charged, keeps_walks, keeps_spend, keeps_sites, keeps_wires, with_qubits, renames_include, renames_qubits, renames_measured}
use Rattle.source_core.proofs.Same.{Same, as_it_is, none_of, given_same, after_same, after_given, where_same, Silent, silent_gives, silent_next_cell, silent_emits, silent_then, then_silent, silent_same, walk_same, named_same, names_scopes, declare_same}

-- ---- parts that the walk does not have

pub silent_looking : {A : Type 0} {part : OpenScopes Held → Makes A} → ((s : OpenScopes Held) → Silent (part s)) → Silent (looking part)
silent_looking silent = record {
  by = λ w.
      let s = (silent w.scopes).by w in
      record { made = s.made; is = s.is; same = s.same };
}

pub silent_after : {A B : Type 0} {part : Makes A} {next : A → Makes B} → Silent part → ((a : A) → Silent (next a)) → Silent (after part next)
silent_after {part = part} {next = next} silent then = record {
  by = λ w.
      let s = silent.by w in
      let t = (then s.made.given).by s.made.work in
      record {
        made = record { given = t.made.given; body = joined s.made.body t.made.body; work = t.made.work };
        is = ap (λ r. go_on r (λ m. go_on (next m.given m.work) (made_behind m.body))) s.is ∙ ap (λ r. go_on r (made_behind s.made.body)) t.is;
        same = t.same ∙ s.same;
      };
}

pub silent_take : (n : ℕ) (kind : CellKind) → Silent (take_cells n kind)
silent_take n kind = record { by = λ w. record { made = _; is = refl; same = refl } }

-- a part that gives nothing
pub none_from : {part : Makes (Unit {0})} {walked : Walks (Unit {0})} → Same as_it_is part walked → Same none_of part walked
none_from same = record { by = same.by }

-- the walk gives nothing, and the elaboration what the walk does not know
pub then_gives : {A : Type 0} {part : Makes (Unit {0})} {walked : Walks (Unit {0})} (a : A) → Same as_it_is part walked → Same none_of (after part (λ _. gives a)) walked
then_gives a same = then_silent (none_from same) (λ _. silent_gives a)

pub walk_none : {part : Walks (Unit {0})} → Keeps part → Same none_of (by_walk part) part
walk_none keeps = none_from (walk_same keeps)

pub changes_same : (f : Work → Work) (f' : Walked → Walked) → ((w : Work) → f' (walked_of w) ≡ walked_of (f w)) → Same as_it_is (changes f) (walk.changes f')
changes_same f f' same = record { by = λ w. ap (λ (x : Walked). Ok (tt {0}, x)) (same w) }

pub no_return_same : {part : Makes (Unit {0})} {walked : Walks (Unit {0})} → Same none_of part walked → Same as_it_is (makes.no_return part) (walk_parts.no_return walked)
no_return_same same = after_given none_of _ same (λ _. given_same false)

-- ---- declarations

pub include_same : (place : Span) → Same none_of (makes.make_include place) (declarations.walk_include place)
include_same place = named_same (with_rows included) (renames_include place) (names_scopes (with_rows included) (with_rows included) (rows_known included))

pub qubits_same : (name : Name) (n : ℕ) (single : Bool) → Same none_of (makes.make_new_qubits name n single) (declarations.walk_new_qubits name n single)
qubits_same name n single =
    named_same (with_qubits name n single) (renames_qubits name n single)
    (names_scopes (makes.new_qubits name n single) (with_qubits name n single) (λ s. ap (λ k. Named name.text (declarations.some_qubits k n single) (known s)) (qubits_known s)))

pub const_same : (statement : Span) (type : Scalar) (name : Name) (a : Tree) → Same none_of (makes.make_const statement type name a) (declarations.walk_const statement type name a)
const_same statement type name a = after_same (walk_same (keeps_walks statement _)) (λ c. declare_same name (Fixed c))

pub alias_same : (statement : Span) (name : Name) (os : List Operand) → Same none_of (makes.make_alias statement name os) (declarations.walk_alias statement name os)
alias_same statement name os =
    after_same (walk_same (keeps_operands statement os)) (λ ss.
    after_same (walk_same (keeps_charged statement _)) (λ qs.
    declare_same name (Alias (record { items = qs; single = false }))))

pub variable_same : (statement : Span) (name : Name) (type : Ty) → Same none_of (makes.make_variable statement name type) (targets.walk_variable statement name type)
variable_same statement name type =
    silent_then silent_next_cell (λ c.
    after_given none_of _ (declare_same name (Variable type c)) (λ _.
    silent_then (silent_take (cells_of type) (kind_of_type type)) (λ _.
    then_gives c (walk_same (keeps_spend statement (cells_of type))))))

pub stored_variable_same : (statement : Span) (name : Name) (type : Ty) (origin : Origin) → Same none_of (makes.make_stored_variable statement name type origin) (targets.walk_variable statement name type)
stored_variable_same statement name type origin = then_silent (variable_same statement name type) (λ c. silent_emits (assigned (stored (cells_from c type) origin)))

pub measured_variable_same : (statement : Span) (name : Name) (type : Ty) (s : Selected QubitId) → Same none_of (makes.make_measured_variable statement name type s) (targets.walk_measured_variable statement name type s)
measured_variable_same statement name type s =
    named_same (Named name.text (Variable type tt)) (renames_measured statement name type s) (record { by = λ w. record { made = _; is = refl; same = refl } })

-- ---- measurements

measured_same : (target : Operand) (s : Selected QubitId) → Same none_of (makes.emit_measured target s) (walk.gives tt)
measured_same target s = silent_same (silent_looking (λ scopes. silent_emits (measured_into s.items (target_cells scopes target))))

pub measured_target_same : (statement : Span) (target o : Operand) → Same none_of (makes.make_measured_target statement target o) (targets.walk_measured_target statement target o)
measured_target_same statement target o =
    after_same (walk_same (keeps_walks statement _)) (λ type.
    after_same (walk_same (keeps_acted statement o)) (λ s.
    where_same (targets.same_size type s) SizeMismatch target.place (measured_same target s)))

pub measurement_same : (statement : Span) (o : Operand) (target : Option Operand) → Same none_of (makes.make_measurement statement o target) (targets.walk_measurement statement o target)
measurement_same statement o None = after_same (walk_same (keeps_acted statement o)) (λ s. silent_same (silent_emits (measured_only s.items)))
measurement_same statement o (Some target) =
    after_same (walk_same (keeps_acted statement o)) (λ s.
    after_same (walk_same (keeps_walks statement _)) (λ type.
    where_same (targets.same_size type s) SizeMismatch target.place (measured_same target s)))

-- ---- gate calls

silent_listed : (as' : Trees) (list : Listed) → Silent (makes.make_listed as' list)
silent_listed as' list = silent_after (silent_take (length list.turns) NumberKind) (λ c. silent_looking (λ s. silent_emits (listed_body (turn_parts s as') c list)))

pub gate_call_same : (expand : Expands) (lists : Lists) (statement : Span) (changed : List Change) (name : Name) (as' : Trees) (os : List Operand)
    → Same none_of (makes.make_gate_call expand lists statement changed name as' os) (walk_parts.walk_gate_call expand statement changed name as' os)
gate_call_same expand lists statement changed name as' os =
    after_same (walk_same (keeps_walks statement _)) (λ values.
    after_same (walk_same (keeps_walks statement _)) (λ instructions.
    after_same (walk_same (keeps_sites (length instructions))) (λ _.
    then_silent (walk_none (keeps_wires (wires_of_all os))) (λ _.
    silent_looking (λ s. silent_listed as' (lists (known s) (record { changes = changed; name = name; arguments = as'; values = values; operands = os })))))))

-- ---- results

silent_result : (j : Jumps) (type : Ty) (origin : Origin) → Silent (makes.emit_result j type origin)
silent_result j type origin = silent_looking (λ s. silent_emits (assigned (stored (cells_from j.result type) origin ++ zeros_since j.call_since s)))

silent_measured_result : (j : Jumps) (type : Ty) (s : Selected QubitId) → Silent (makes.make_measured_result j type s)
silent_measured_result j type s =
    silent_after (silent_take (cells_of (type_of_selected s)) (kind_of_type (type_of_selected s))) (λ c.
    silent_after (silent_emits (measured_into s.items (cells_from c (type_of_selected s)))) (λ _.
    silent_result j type (of_cells (type_of_selected s) c type)))

pub returned_same : (statement : Span) (j : Jumps) (within : Within) (value : Option Value) → Same none_of (makes.make_returned statement j within value) (walk_parts.walk_returned statement within value)
returned_same statement j (InSubroutine (Some type)) (Some (expression a)) =
    after_same (walk_same (keeps_walks statement _)) (λ _.
    then_silent (walk_none (keeps_spend statement (cells_of type))) (λ _. silent_looking (λ s. silent_result j type (of_parts (cast_in s false type a)))))
returned_same statement j (InSubroutine (Some type)) (Some (measured o)) =
    after_same (walk_same (keeps_acted statement o)) (λ s.
    after_same (walk_same (keeps_charged statement _)) (λ _.
    then_silent (walk_none (keeps_spend statement (cells_of type))) (λ _. silent_measured_result j type s)))
returned_same statement j (InSubroutine (Some type)) None = record { by = λ w. refl }
returned_same statement j (InSubroutine None) value = record { by = λ w. refl }
returned_same statement j NoSubroutine value = record { by = λ w. refl }

-- ---- parameters

parameter_same : (p : Parameter) (b : Bound) → Same none_of (makes.make_parameter p b) (declarations.declare p.name (declarations.parameter_of b))
parameter_same p (ToQubits s) = then_silent (declare_same p.name (Alias s)) (λ _. silent_gives [])
parameter_same p (ToValue type) =
    silent_then silent_next_cell (λ c.
    then_silent (declare_same p.name (Variable type c)) (λ _. silent_after (silent_take (cells_of type) (kind_of_type type)) (λ _. silent_gives (cells_from c type))))

pub parameters_same : (ps : List Parameter) (bs : List Bound) → Same none_of (makes.make_parameters ps bs) (declarations.enter_parameters ps bs)
parameters_same [] bs = record { by = λ w. refl }
parameters_same (p ∷ ps) [] = record { by = λ w. refl }
parameters_same (p ∷ ps) (b ∷ bs) =
    after_given none_of _ (parameter_same p b) (λ cs.
    then_silent (parameters_same ps bs) (λ ds. silent_gives (cs ++ ds)))
