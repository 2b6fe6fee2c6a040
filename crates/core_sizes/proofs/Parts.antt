-- What declarations, measurements, gate calls and results are made of, in the units of the walk.
use Rattle.std.proofs.Common.{ℕ, ◌+◌, Bool, true, false, List, [], ◌∷◌, length, Option, Some, None, refl, arith}
use Rattle.std.specs.Prelude.{◌++◌, not, nat_eq, nat_le}
use Rattle.std.specs.List.{list_any}
use Rattle.qq_base.specs.declared.refusal.Span.{Span}
use Rattle.qq_base.specs.declared.rule.Rule.TheVariants.{Redeclared, TypeMismatch, SizeMismatch, MixedQubits, QubitRange, CellRange}
use Rattle.qq_base.specs.declared.run.QubitId.{QubitId}
use Rattle.qasm_ast.specs.Tree.{Tree, Name, Scalar, Operand, Value, expression, measured, Parameter}
use Rattle.qasm_types.specs.declared.ty.Ty.{Ty}
use Rattle.qasm_types.specs.Types.{cells_of}
use Rattle.alias_resolve.specs.Places.{Selected}
use Rattle.core_ir.specs.declared.expression.CellKind.{CellKind}
use Rattle.cell_exprs.specs.CellValues.{kind_of_type}
use Rattle.scope_env.specs.OpenScopes.{OpenScopes, Opened, Named, close, is_here}
use Rattle.const_eval.specs.Walk.{Walk, asked}
use Rattle.const_eval.specs.Typed.{Computed, is_bits}
use Rattle.const_eval.specs.Selecting.{type_of_selected}
use Rattle.const_eval.specs.ExprWalk.{cast_walk, cast_expr_walk}
use Rattle.const_eval.specs.Operands.{operands_walk, wires_of, wires_of_all}
use Rattle.const_eval.specs.Things.{Fixed, Variable, Alias, Known, map_content, no_content, means_in, types_in, named_qubits, cells_in_scope, declared_qubits}
use Rattle.const_eval.specs.Binding.{Bound, ToValue, ToQubits}
use Rattle.source_meaning.specs.Walked.{Walked, Walks, most_cost, with_sum}
use Rattle.source_meaning.specs.Walked as walk
use Rattle.source_meaning.specs.Library.{included, with_rows}
use Rattle.source_meaning.specs.Declarations as declarations
use Rattle.source_meaning.specs.Targets as targets
use Rattle.source_meaning.specs.Walk.{Within, NoSubroutine, InSubroutine}
use Rattle.source_core.specs.Cells.{Held, cells_from, zeros_since}
use Rattle.source_core.specs.Jumps.{Jumps}
use Rattle.source_core.specs.Made.{Makes, by_walk, take_cells, next_cell, in_scopes, in_scope, declare, put_back}
use Rattle.source_core.specs.Parts.{cast_in, target_cells, Origin, of_parts, of_cells, stored}
use Rattle.source_core.specs.Makes as makes
use Rattle.core_sizes.proofs.Bodies.{plain_assigned, plain_measured_into, plain_measured_only}
use Rattle.core_sizes.proofs.Costs.{Credit, none, for_calls, Counts, nothing_left, counts_gives, counts_charged, counts_walks, counts_looking, counts_after, counts_where, counts_scopes, counts_wires, counts_spend, Pays, Free, after_pays, free_then, free_gives, where_pays, looking_pays, changes_pays, emits_pays, by_walk_pays}

-- ---- parts of the walk

counts_acting : (s : Selected QubitId) → Counts (walk.after (walk.count_sites (length s.items)) (λ _. walk.gives s)) (λ s. for_calls (length s.items))
counts_acting s = record { by = λ w. record { knots = omega arith; calls = omega arith } }

pub counts_acted : (statement : Span) (o : Operand) → Counts (targets.walk_acted statement o) (λ s. for_calls (length s.items))
counts_acted statement o =
    counts_after (counts_walks statement (λ scopes. targets.acted_walk scopes o)) (λ s.
    counts_after (counts_wires (wires_of o.name)) (λ _.
    counts_acting s))

pub counts_operands : (statement : Span) (os : List Operand) → Counts (declarations.walk_operands statement os) nothing_left
counts_operands statement os =
    counts_after (counts_walks statement (λ scopes. operands_walk (means_in scopes) (named_qubits scopes) os)) (λ ss.
    counts_after (counts_wires (wires_of_all os)) (λ _.
    counts_gives ss))

counts_declare : (name : Name) (thing : Known) → Counts (declarations.declare name thing) nothing_left
counts_declare name thing =
    counts_looking (λ scopes. counts_where (not (is_here name.text scopes)) Redeclared name.place (
    counts_after (counts_scopes (Named name.text thing)) (λ _.
    counts_looking (λ inner. counts_where (nat_le (cells_in_scope inner) declarations.most_cells) CellRange name.place (
    counts_gives tt)))))

counts_include : (place : Span) → Counts (declarations.walk_include place) nothing_left
counts_include place =
    counts_looking (λ scopes. counts_where (not (list_any (λ (entry : List ℕ × ℕ). is_here entry.0 scopes) included)) Redeclared place (
    counts_scopes (with_rows included)))

counts_qubits : (name : Name) (n : ℕ) (single : Bool) → Counts (declarations.walk_new_qubits name n single) nothing_left
counts_qubits name n single = record {
  by = λ w.
      (counts_where (not (is_here name.text w.scopes)) Redeclared name.place (
      counts_where (nat_eq w.wires 0) MixedQubits name.place (
      counts_where (nat_le (declared_qubits w.scopes + n) 1024) QubitRange name.place (
      counts_scopes (λ scopes. Named name.text (declarations.some_qubits (declared_qubits scopes) n single) scopes))))).by w;
}

counts_measured_variable : (statement : Span) (name : Name) (type : Ty) (s : Selected QubitId) → Counts (targets.walk_measured_variable statement name type s) nothing_left
counts_measured_variable statement name type s =
    counts_looking (λ scopes. counts_where (not (is_here name.text scopes)) Redeclared name.place (
    counts_where (is_bits type) TypeMismatch name.place (
    counts_where (targets.same_size type s) SizeMismatch name.place (
    counts_after (counts_declare name (Variable type tt)) (λ _. counts_spend statement (cells_of type))))))

-- ---- single parts, with any levels around them

module _ {ends starts : ℕ} where
  pub free_walks : {A : Type 0} (statement : Span) (part : OpenScopes Known → Walk A) → Free ends starts (by_walk (walk.walks statement part))
  free_walks statement part = by_walk_pays (counts_walks statement part)

  pub free_charged : {A : Type 0} (statement : Span) (part : Walk A) → Free ends starts (by_walk (walk.charged statement part))
  free_charged statement part = by_walk_pays (counts_charged statement part)

  pub free_spend : (statement : Span) (n : ℕ) → Free ends starts (by_walk (walk.spend statement n))
  free_spend statement n = by_walk_pays (counts_spend statement n)

  pub acted_pays : (statement : Span) (o : Operand) → Pays ends starts none (makes.make_acted statement o) (λ s. for_calls (length s.items))
  acted_pays statement o = by_walk_pays (counts_acted statement o)

  pub free_next : Free ends starts next_cell
  free_next = record { by = λ w. record { knots = omega arith; calls = omega arith; levels = tt } }

  pub free_take : (n : ℕ) (kind : CellKind) → Free ends starts (take_cells n kind)
  free_take n kind = record { by = λ w. record { knots = omega arith; calls = omega arith; levels = tt } }

  pub free_scopes : (f : OpenScopes Held → OpenScopes Held) → Free ends starts (in_scopes f)
  free_scopes f = changes_pays _ (λ w. refl) (λ w. refl)

  pub free_put_back : (first : ℕ) → Free ends starts (put_back first)
  free_put_back first = looking_pays (λ s. emits_pays (plain_assigned (zeros_since first s)))

  pub in_scope_pays : {A : Type 0} {before : Credit} {part : Makes A} → Pays ends starts before part nothing_left → Pays ends starts before (in_scope part) nothing_left
  in_scope_pays h =
      free_then free_next (λ first.
      free_then (free_scopes Opened) (λ _.
      after_pays h (λ a.
      free_then (free_put_back first) (λ _.
      free_then (free_scopes close) (λ _.
      free_gives a)))))

  -- ---- declarations

  pub free_declare : (name : Name) (thing : Held) → Free ends starts (declare name thing)
  free_declare name thing = free_then (by_walk_pays (counts_declare name (map_content no_content thing))) (λ _. free_scopes (Named name.text thing))

  pub free_include : (place : Span) → Free ends starts (makes.make_include place)
  free_include place = free_then (by_walk_pays (counts_include place)) (λ _. free_scopes (with_rows included))

  pub free_qubits : (name : Name) (n : ℕ) (single : Bool) → Free ends starts (makes.make_new_qubits name n single)
  free_qubits name n single = free_then (by_walk_pays (counts_qubits name n single)) (λ _. free_scopes (makes.new_qubits name n single))

  pub free_const : (statement : Span) (type : Scalar) (name : Name) (a : Tree) → Free ends starts (makes.make_const statement type name a)
  free_const statement type name a = free_then (free_walks statement (λ scopes. declarations.constant_declared_walk (means_in scopes) type a)) (λ c. free_declare name (Fixed c))

  pub free_alias : (statement : Span) (name : Name) (os : List Operand) → Free ends starts (makes.make_alias statement name os)
  free_alias statement name os =
      free_then (by_walk_pays (counts_operands statement os)) (λ ss.
      free_then (free_charged statement (asked (declarations.joined [] os ss))) (λ qs.
      free_declare name (Alias (record { items = qs; single = false }))))

  free_variable : (statement : Span) (name : Name) (type : Ty) → Free ends starts (makes.make_variable statement name type)
  free_variable statement name type =
      free_then free_next (λ c.
      free_then (free_declare name (Variable type c)) (λ _.
      free_then (free_take (cells_of type) (kind_of_type type)) (λ _.
      free_then (free_spend statement (cells_of type)) (λ _.
      free_gives c))))

  pub free_stored_variable : (statement : Span) (name : Name) (type : Ty) (origin : Origin) → Free ends starts (makes.make_stored_variable statement name type origin)
  free_stored_variable statement name type origin = free_then (free_variable statement name type) (λ c. emits_pays (plain_assigned (stored (cells_from c type) origin)))

  pub measured_variable_pays : (statement : Span) (name : Name) (type : Ty) (s : Selected QubitId) → Pays ends starts (for_calls (length s.items)) (makes.make_measured_variable statement name type s) nothing_left
  measured_variable_pays statement name type s =
      free_then (by_walk_pays (counts_measured_variable statement name type s)) (λ _.
      free_then free_next (λ c.
      free_then (free_scopes (Named name.text (Variable type c))) (λ _.
      free_then (free_take (cells_of type) (kind_of_type type)) (λ _.
      emits_pays (plain_measured_into s.items (cells_from c type))))))

  -- ---- measurements

  emit_measured_pays : (target : Operand) (s : Selected QubitId) → Pays ends starts (for_calls (length s.items)) (makes.emit_measured target s) nothing_left
  emit_measured_pays target s = looking_pays (λ scopes. emits_pays (plain_measured_into s.items (target_cells scopes target)))

  pub free_measured_target : (statement : Span) (target o : Operand) → Free ends starts (makes.make_measured_target statement target o)
  free_measured_target statement target o =
      free_then (free_walks statement (λ scopes. targets.target_walk true scopes target)) (λ type.
      after_pays (acted_pays statement o) (λ s.
      where_pays (targets.same_size type s) SizeMismatch target.place (λ _. emit_measured_pays target s)))

  pub free_measurement : (statement : Span) (o : Operand) (target : Option Operand) → Free ends starts (makes.make_measurement statement o target)
  free_measurement statement o None = after_pays (acted_pays statement o) (λ s. emits_pays (plain_measured_only s.items))
  free_measurement statement o (Some target) =
      after_pays (acted_pays statement o) (λ s.
      free_then (free_walks statement (λ scopes. targets.target_walk true scopes target)) (λ type.
      where_pays (targets.same_size type s) SizeMismatch target.place (λ _. emit_measured_pays target s)))

  -- ---- results

  free_result : (j : Jumps) (type : Ty) (origin : Origin) → Free ends starts (makes.emit_result j type origin)
  free_result j type origin = looking_pays (λ s. emits_pays (plain_assigned (stored (cells_from j.result type) origin ++ zeros_since j.call_since s)))

  measured_result_pays : (j : Jumps) (type : Ty) (s : Selected QubitId) → Pays ends starts (for_calls (length s.items)) (makes.make_measured_result j type s) nothing_left
  measured_result_pays j type s =
      free_then (free_take (cells_of (type_of_selected s)) (kind_of_type (type_of_selected s))) (λ c.
      after_pays (emits_pays (plain_measured_into s.items (cells_from c (type_of_selected s)))) (λ _.
      free_result j type (of_cells (type_of_selected s) c type)))

  pub free_returned : (statement : Span) (j : Jumps) (within : Within) (value : Option Value) → Free ends starts (makes.make_returned statement j within value)
  free_returned statement j (InSubroutine (Some type)) (Some (expression a)) =
      free_then (free_walks statement (λ scopes. cast_expr_walk (means_in scopes) (types_in scopes) false type a)) (λ _.
      free_then (free_spend statement (cells_of type)) (λ _.
      looking_pays (λ s. free_result j type (of_parts (cast_in s false type a)))))
  free_returned statement j (InSubroutine (Some type)) (Some (measured o)) =
      after_pays (acted_pays statement o) (λ s.
      free_then (free_charged statement (cast_walk type o.place (Computed (type_of_selected s)))) (λ _.
      free_then (free_spend statement (cells_of type)) (λ _.
      measured_result_pays j type s)))
  free_returned statement j (InSubroutine (Some type)) None = free_put_back j.call_since
  free_returned statement j (InSubroutine None) value = free_put_back j.call_since
  free_returned statement j NoSubroutine value = free_put_back j.call_since

  -- ---- parameters

  free_parameter : (p : Parameter) (b : Bound) → Free ends starts (makes.make_parameter p b)
  free_parameter p (ToQubits s) = free_then (free_declare p.name (Alias s)) (λ _. free_gives [])
  free_parameter p (ToValue type) =
      free_then free_next (λ c.
      free_then (free_declare p.name (Variable type c)) (λ _.
      free_then (free_take (cells_of type) (kind_of_type type)) (λ _.
      free_gives (cells_from c type))))

  pub free_parameters : (ps : List Parameter) (bs : List Bound) → Free ends starts (makes.make_parameters ps bs)
  free_parameters [] bs = free_gives []
  free_parameters (p ∷ ps) [] = free_gives []
  free_parameters (p ∷ ps) (b ∷ bs) =
      free_then (free_parameter p b) (λ cs.
      free_then (free_parameters ps bs) (λ ds.
      free_gives (cs ++ ds)))
