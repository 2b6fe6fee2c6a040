-- The elaboration refuses what the walk refuses, and comes to the same sums: calls, loops, statements and programs.
use Rattle.std.proofs.Common.{◌≡◌, ℕ, zero, suc, ◌+◌, Bool, true, false, List, [], ◌∷◌, Option, Some, None, ℤ, refl, ap, ◌∙◌}
use Rattle.std.specs.Prelude.{◌&&◌, ◌||◌, ◌++◌, not, zip, Result, Ok, Err}
use Rattle.qq_base.specs.declared.refusal.Refusal.{Refusal}
use Rattle.qq_base.specs.declared.refusal.Span.{Span}
use Rattle.qq_base.specs.declared.rule.Rule.TheVariants.{ReturnMissing, ReturnPlace, LoopPlace, CallPlace, OutputPlace, DeclarationPlace}
use Rattle.qasm_ast.specs.declared.expr.BinaryOp.{BinaryOp}
use Rattle.qasm_ast.specs.Tree.{Tree, call, Trees, Maybe, Name, Scalar, Operand, Value, expression, measured, Statement, include, qubits, variable, constant, output, alias, gate, subroutine, gate_call, barrier, reset, measurement, assign, invoke, branch, while, for_range, for_set, break, continue, end, give, cut_off, Statements, no_statement, a_statement, place_of}
use Rattle.qasm_types.specs.declared.ty.Ty.{Ty}
use Rattle.qasm_types.specs.Types.{cells_of}
use Rattle.core_ir.specs.declared.expression.CellKind.TheVariants.{Number as NumberKind}
use Rattle.core_ir.specs.Tree.{Expr}
use Rattle.cell_exprs.specs.CellValues.{kind_of_type}
use Rattle.cell_exprs.specs.Parts.{single_part}
use Rattle.scope_env.specs.OpenScopes.{OpenScopes, Named, Sealed, close}
use Rattle.const_eval.specs.Constant.{whole}
use Rattle.const_eval.specs.Refusing.{go_on}
use Rattle.const_eval.specs.Walk.{Walk}
use Rattle.const_eval.specs.Typed.{Typed, Exactly, Computed, is_angle}
use Rattle.const_eval.specs.Things.{Fixed, Counter, DefinedGate, DefinedSubroutine, Known, known, means_in, types_in}
use Rattle.const_eval.specs.ConstantPlaces.{is_static}
use Rattle.const_eval.specs.Ranges.{is_true, static_range_walk, running_range_walk}
use Rattle.const_eval.specs.Binding.{Binding, most_calls, wires_of_arguments, has_result, seen_by}
use Rattle.source_meaning.specs.ConstantUses.{are_fixed_in, any_jumps}
use Rattle.source_meaning.specs.Walked.{Walked, Walks}
use Rattle.source_meaning.specs.Walked as walk
use Rattle.source_meaning.specs.GateCalls.{Expands}
use Rattle.source_meaning.specs.Walk as walk_parts
use Rattle.source_meaning.specs.Walk.{Position, Walker, below, in_loop_body, in_called_body, top_level, returns_right}
use Rattle.source_meaning.specs.Declarations as declarations
use Rattle.source_meaning.specs.Source.{walk_program, walked}
use Rattle.source_core.specs.Core.{If, Leave, only_core, assigned, block_where}
use Rattle.source_core.specs.Cells.{Held, zero_parts, zeros_from}
use Rattle.source_core.specs.Gates.{Lists}
use Rattle.source_core.specs.Jumps.{Jumps, jump, program_jumps, global_jumps, loop_jumps, copy_jumps, call_jumps, while_core, for_core}
use Rattle.source_core.specs.Made.{walked_of, Made, Makes, either, looking, changes, charged, at_start}
use Rattle.source_core.specs.Parts.{cast_in, condition_in, arguments_in, target_cells, Origin, of_parts, of_cells, stored, resets_of}
use Rattle.source_core.specs.Makes as makes
use Rattle.source_core.specs.Makes.{Maker, LoopBody, makes_at}
use Rattle.source_core.specs.Elaborated.{elaborated, make_program}
use Rattle.source_core.specs.Laws.{come_to}
use Rattle.source_core.proofs.Known.{means_known, types_known, close_known, body_known}
use Rattle.source_core.proofs.Keeps.{mapped, keeps_walks, keeps_charged, keeps_acted, keeps_operands, keeps_spend, keeps_cells, keeps_joint, keeps_wires, keeps_end_of_text}
use Rattle.source_core.proofs.Same.{seen, Same, as_it_is, none_of, without_body, gives_same, given_same, refuses_same, after_same, after_given, where_same, either_same, looking_same, wrapped_same, captured_same, Silent, silent_gives, silent_next_cell, silent_emits, silent_put_back, silent_then, then_silent, silent_same, walk_same, scopes_same, in_scope_same, declare_same, and_back}
use Rattle.source_core.proofs.SameParts.{none_from, walk_none, silent_looking, silent_after, silent_take, changes_same, no_return_same, include_same, qubits_same, const_same, alias_same, stored_variable_same, measured_variable_same, measured_target_same, measurement_same, gate_call_same, returned_same, parameters_same}

-- ---- parts that look at what names mean

means_path : (s : OpenScopes Held) → means_in (known s) ≡ means_in s
means_path s = λ i x. means_known s x i

types_path : (s : OpenScopes Held) → types_in (known s) ≡ types_in s
types_path s = λ i x. types_known s x i

both_look : {A B : Type 0} {p : A → B} {part : OpenScopes Held → Makes A} (part' : OpenScopes Known → Walks B) → ((s : OpenScopes Held) → Same p (part s) (part' (known s))) → Same p (looking part) (walk.looking part')
both_look part' same = record { by = λ w. (same w.scopes).by w }

either_by : {A B : Type 0} {p : A → B} {is_first is_first' : Bool} {first second : Makes A} {first' second' : Walks B} → is_first' ≡ is_first → Same p first first' → Same p second second' → Same p (either is_first first second) (walk.either is_first' first' second')
either_by {is_first = is_first} {first' = first'} {second' = second'} e same other = record { by = λ w. ap (λ b. walk.either b first' second' (walked_of w)) e ∙ (either_same is_first same other).by w }

charged_by : {A : Type 0} (statement : Span) (part part' : Walk A) → part' ≡ part → Same as_it_is (charged statement part) (walk.charged statement part')
charged_by statement part part' e = record { by = λ w. ap (λ t. walk.charged statement t (walked_of w)) e ∙ (walk_same (keeps_charged statement part)).by w }

-- ---- loops

loop_body_same : (body : LoopBody) (body' : Walks Bool) → ((c : ℕ) → Same as_it_is (body c) body') → Same as_it_is (makes.make_loop_body body) (walk.in_scope body')
loop_body_same body body' same = silent_then silent_next_cell (λ c. in_scope_same (same c))

copies_same : (copy : ℤ → Makes Bool) (copy' : ℤ → Walks Bool) → ((z : ℤ) → Same as_it_is (copy z) (copy' z)) → (zs : List ℤ) → Same as_it_is (makes.make_copies copy zs) (walk_parts.copies_each copy' zs)
copies_same copy copy' same [] = given_same tt
copies_same copy copy' same (z ∷ zs) = after_same (same z) (λ _. copies_same copy copy' same zs)

module _ (statement : Span) (name : Name) (has_jumps : Bool) (body : LoopBody) (body' : Walks Bool) (same : (c : ℕ) → Same as_it_is (body c) body') where
  copy_same : (z : ℤ) → Same as_it_is (makes.make_copy statement name has_jumps body z) (walk_parts.walk_copy statement name has_jumps body' z)
  copy_same z =
      after_same (walk_same (keeps_spend statement 1)) (λ _.
      after_same (either_same has_jumps (walk_same (keeps_joint statement)) (given_same tt)) (λ _.
      in_scope_same (
      after_same (scopes_same (Named name.text (Fixed (whole z))) (Named name.text (Fixed (whole z))) (λ s. refl)) (λ _.
      wrapped_same (block_where has_jumps) (loop_body_same body body' same)))))

  all_copies_same : (zs : List ℤ) → Same as_it_is (makes.make_all_copies statement name has_jumps body zs) (walk_parts.copies_each (walk_parts.walk_copy statement name has_jumps body') zs)
  all_copies_same zs = wrapped_same (block_where (has_jumps && makes.has_copies zs)) (copies_same (makes.make_copy statement name has_jumps body) (walk_parts.walk_copy statement name has_jumps body') copy_same zs)

turns_same : (statement : Span) (name : Name) (type : Ty) (step : ℤ) (start stop : Expr) (body : LoopBody) (body' : Walks Bool) → ((c : ℕ) → Same as_it_is (body c) body')
    → Same as_it_is (makes.make_turns statement name type step start stop body) (walk_parts.walk_turns statement name type body')
turns_same statement name type step start stop body body' same =
    in_scope_same (
    silent_then {walked = walk.after (declarations.declare name (Counter type tt)) (λ _. walk.after (walk.spend_joint statement) (λ _. walk.after (walk.in_scope body') (λ _. walk.gives tt)))} silent_next_cell (λ c.
    after_given none_of _ (declare_same name (Counter type c)) (λ _.
    silent_then (silent_take 3 NumberKind) (λ _.
    after_same (walk_same (keeps_joint statement)) (λ _.
    after_same (wrapped_same (for_core step c start stop) (loop_body_same body body' same)) (λ _.
    given_same tt))))))

-- the walk of a `for` over a range behind the type of its variable
abbrev ranged_walk : Span → Scalar → Name → Tree → Maybe → Tree → (is_used has_jumps : Bool) → Walks Bool → Ty → OpenScopes Known → Walks (Unit {0})
ranged_walk statement type name start step stop is_used has_jumps body' to scopes =
    walk.either (is_static is_used (means_in scopes) start step stop)
    (walk.after (walk.charged statement (static_range_walk (means_in scopes) to start step stop)) (walk_parts.copies_each (walk_parts.walk_copy statement name has_jumps body')))
    (walk.after (walk.charged statement (running_range_walk (means_in scopes) (types_in scopes) type to start step stop)) (λ _. walk_parts.walk_turns statement name to body'))

range_same : (statement : Span) (type : Scalar) (name : Name) (start : Tree) (step : Maybe) (stop : Tree) (is_used has_jumps : Bool) (copied turned : LoopBody) (body' : Walks Bool)
    → ((c : ℕ) → Same as_it_is (copied c) body') → ((c : ℕ) → Same as_it_is (turned c) body')
    → Same as_it_is (makes.make_range statement type name start step stop is_used has_jumps copied turned) (walk_parts.walk_range statement type name start step stop is_used has_jumps body')
range_same statement type name start step stop is_used has_jumps copied turned body' same other =
    after_same (walk_same (keeps_walks statement _)) (λ to.
    both_look (ranged_walk statement type name start step stop is_used has_jumps body' to) (λ s.
    either_by (ap (λ m. is_static is_used m start step stop) (means_path s))
    (after_same (charged_by statement _ _ (ap (λ m. static_range_walk m to start step stop) (means_path s))) (all_copies_same statement name has_jumps copied body' same))
    (after_same (charged_by statement _ _ (λ i. running_range_walk (means_path s i) (types_path s i) type to start step stop)) (λ _.
    turns_same statement name to (makes.step_by s step) (single_part (cast_in s false to start)) (single_part (cast_in s false to stop)) turned body' other))))

set_same : (statement : Span) (type : Scalar) (name : Name) (as' : Trees) (has_jumps : Bool) (copied : LoopBody) (body' : Walks Bool) → ((c : ℕ) → Same as_it_is (copied c) body')
    → Same as_it_is (makes.make_set statement type name as' has_jumps copied) (walk_parts.walk_set statement type name as' has_jumps body')
set_same statement type name as' has_jumps copied body' same =
    after_same (walk_same (keeps_walks statement _)) (λ to.
    after_same (walk_same (keeps_walks statement _)) (all_copies_same statement name has_jumps copied body' same))

-- ---- branches

branches_same : (statement : Span) (test : Expr) {taken other : Makes Bool} {taken' other' : Walks Bool} → Same as_it_is taken taken' → Same as_it_is other other'
    → (typed : Typed) → Same as_it_is (makes.make_branches statement test taken other typed) (walk_parts.walk_branches statement taken' other' typed)
branches_same statement test same and (Exactly c) = either_same (is_true c) same and
branches_same statement test same and (Computed type) =
    after_same (walk_same (keeps_joint statement)) (λ _.
    after_given without_body _ (captured_same same) (λ r.
    after_given without_body _ (captured_same and) (λ s.
    silent_then (silent_emits (only_core (If test r.1 s.1))) (λ _.
    given_same (r.0 && s.0)))))

-- ---- outputs

output_same : (name : Name) → Same none_of (changes (λ w. record w { outputs = w.outputs ++ name.text ∷ [] })) (walk.changes (λ w. record w { outputs = w.outputs ++ name.text ∷ [] }))
output_same name = record { by = λ w. refl }

-- ---- statements, over what is made and walked of called bodies

abbrev AreSame : Maker → Walker → Type 0
AreSame maker walker = (p : Position) (j : Jumps) (body : Statements) → Same as_it_is (maker p j body) (walker p body)

abbrev pub MaySame : Option Maker → Option Walker → Type 0
MaySame None None = Unit {0}
MaySame (Some maker) (Some walker) = AreSame maker walker
MaySame _ _ = ⊥

-- what a call gives to the walk
abbrev result_of : Option Ty × ℕ → Option Ty
result_of r = r.0

silent_taken : (type : Option Ty) → Silent (makes.take_result type)
silent_taken None = silent_next_cell
silent_taken (Some type) = silent_take (cells_of type) (kind_of_type type)

module _ (expand : Expands) (lists : Lists) (deeper : Option Maker) (deeper' : Option Walker) (are : MaySame deeper deeper') where
  body_same : (p : Position) (j : Jumps) (body : Statements) → Same as_it_is (makes.make_body expand lists deeper p j body) (walk_parts.walk_body expand deeper' p body)
  body_same p j body = of deeper deeper' are
    where
      of : (deeper : Option Maker) (deeper' : Option Walker) → MaySame deeper deeper' → Same as_it_is (makes.make_body expand lists deeper p j body) (walk_parts.walk_body expand deeper' p body)
      of None None _ = given_same true
      of (Some maker) (Some walker) same = same p j body
      of None (Some walker) same = elim same [ ]
      of (Some maker) None same = elim same [ ]

  -- the walk of a call in the scope of its body
  abbrev called_walk : Span → Position → List ℕ → Binding → Walks (Option Ty)
  called_walk statement p name b =
      walk.after (declarations.enter_parameters (b.subroutine).params b.bound) (λ _.
      walk.after (walk.spend_joint statement) (λ _.
      walk.after (walk_parts.walk_body expand deeper' (in_called_body name b.result p) (b.subroutine).body) (λ returns.
      walk.where_right (not (has_result b.subroutine) || returns) ReturnMissing (b.subroutine).close (
      walk.after (walk.in_scopes close) (λ _.
      walk.gives b.result)))))

  call_same : (statement : Span) (p : Position) (j : Jumps) (wanted : Bool) (name : List ℕ) (as' : Trees) (place : Span)
      → Same result_of (makes.make_call expand lists deeper statement p j wanted name as' place) (walk_parts.walk_call expand deeper' statement p wanted name as' place)
  call_same statement p j wanted name as' place =
      after_same (walk_same (keeps_walks statement _)) (λ b.
      after_same (walk_same (keeps_walks statement _)) (λ _.
      after_same (walk_same (keeps_wires (wires_of_arguments as' b.bound))) (λ _.
      looking_same {walked = walk.after (declarations.enter_body name) (λ _. called_walk statement p name b)} (λ callers.
      after_same (scopes_same (λ s. Sealed (seen_by name s) s) (λ s. Sealed (seen_by name s) s) (body_known name)) (λ _.
      silent_then {walked = called_walk statement p name b} (silent_taken b.result) (λ r.
      silent_then silent_next_cell (λ first.
      after_given none_of _ (parameters_same (b.subroutine).params b.bound) (λ cells.
      after_same (walk_same (keeps_joint statement)) (λ _.
      silent_then (silent_emits (assigned (zip cells (arguments_in callers as' b.bound)))) (λ _.
      after_same (wrapped_same (block_where true) (and_back first (body_same (in_called_body name b.result p) (call_jumps r first j) (b.subroutine).body))) (λ returns.
      where_same (not (has_result b.subroutine) || returns) ReturnMissing (b.subroutine).close (
      after_same (scopes_same close close close_known) (λ _.
      gives_same result_of (b.result, r))))))))))))))

  result_same : (statement : Span) (to : Ty) (place : Span) (r : Option Ty × ℕ) → Same none_of (makes.make_result expand lists deeper statement to place r) (walk_parts.walk_result expand deeper' statement to place r.0)
  result_same statement to place (None, c) = gives_same none_of (of_parts [])
  result_same statement to place (Some type, c) = after_same (walk_same (keeps_charged statement _)) (λ _. gives_same none_of (of_cells type c to))

  stored_same : (statement : Span) (p : Position) (j : Jumps) (exact : Bool) (to : Ty) (a : Tree)
      → Same none_of (makes.make_stored expand lists deeper statement p j exact to a) (walk_parts.walk_stored expand deeper' statement p exact to a)
  stored_same statement p j exact to (call name as' place) = after_given result_of _ (call_same statement p j true name as' place) (λ r. result_same statement to place r)
  stored_same statement p j exact to a = after_same (walk_same (keeps_walks statement _)) (λ _. looking_same (λ s. gives_same none_of (of_parts (cast_in s exact to a))))

  initial_same : (statement : Span) (p : Position) (j : Jumps) (name : Name) (type : Ty) (value : Option Value)
      → Same none_of (makes.make_initial expand lists deeper statement p j name type value) (walk_parts.walk_initial expand deeper' statement p name type value)
  initial_same statement p j name type None = stored_variable_same statement name type (of_parts (zero_parts type))
  initial_same statement p j name type (Some (expression a)) = after_given none_of _ (stored_same statement p j (is_angle type) type a) (λ origin. stored_variable_same statement name type origin)
  initial_same statement p j name type (Some (measured o)) = after_same (walk_same (keeps_acted statement o)) (λ s. measured_variable_same statement name type s)

  silent_target : (target : Operand) (origin : Origin) → Silent (makes.emit_target expand lists deeper target origin)
  silent_target target origin = silent_looking (λ s. silent_emits (assigned (stored (target_cells s target) origin)))

  assigned_same : (statement : Span) (p : Position) (j : Jumps) (target : Operand) (op : Option BinaryOp) (value : Value)
      → Same none_of (makes.make_assigned expand lists deeper statement p j target op value) (walk_parts.walk_assigned expand deeper' statement p target op value)
  assigned_same statement p j target None (expression a) =
      after_same (walk_same (keeps_walks statement _)) (λ type.
      then_silent (stored_same statement p j false type a) (λ origin. silent_target target origin))
  assigned_same statement p j target (Some o) (expression a) =
      then_silent (walk_none (keeps_walks statement _)) (λ _. silent_looking (λ s. silent_target target _))
  assigned_same statement p j target None (measured o) = measured_target_same statement target o
  assigned_same statement p j target (Some op) (measured o) = measured_target_same statement target o

  dropped_silent : (r : Option Ty × ℕ) → Silent (makes.drop_result expand lists deeper r)
  dropped_silent (None, c) = silent_gives tt
  dropped_silent (Some type, c) = silent_emits (assigned (zeros_from c type))

  invoked_same : (statement : Span) (p : Position) (j : Jumps) (a : Tree) → Same none_of (makes.make_invoked expand lists deeper statement p j a) (walk_parts.walk_invoked expand deeper' statement p a)
  invoked_same statement p j (call name as' place) =
      after_given result_of _ (call_same statement p j false name as' place) (λ r. silent_same (dropped_silent r))
  invoked_same statement p j a = refuses_same none_of CallPlace (place_of a)

  mutual
    statement_same : (p : Position) (j : Jumps) (s : Statement) → Same as_it_is (makes.make_statement expand lists deeper p j s) (walk_parts.walk_statement expand deeper' p s)
    statement_same p j (include place close) = where_same p.at_top DeclarationPlace place (no_return_same (include_same place))
    statement_same p j (qubits type name place close) =
        where_same p.at_top DeclarationPlace place (
        after_same (walk_same (keeps_walks place _)) (λ q.
        no_return_same (qubits_same name q.0 q.1)))
    statement_same p j (variable type name value place close) =
        after_same (walk_same (keeps_walks place _)) (λ to. no_return_same (initial_same place p j name to value))
    statement_same p j (constant type name a place close) = no_return_same (const_same place type name a)
    statement_same p j (output type name place close) =
        where_same p.at_top OutputPlace place (
        after_same (walk_same (keeps_walks place _)) (λ to.
        after_given none_of _ (stored_variable_same place name to (of_parts (zero_parts to))) (λ _.
        no_return_same (output_same name))))
    statement_same p j (alias name os place close) = no_return_same (alias_same place name os)
    statement_same p j (gate name params qs body place close) =
        where_same p.at_top DeclarationPlace place (no_return_same (declare_same name (DefinedGate (record { params = params; qubits = qs; body = body }))))
    statement_same p j (subroutine name params result body place close) =
        where_same p.at_top DeclarationPlace place (
        no_return_same (declare_same name (DefinedSubroutine (record { params = params; result = result; body = body; close = close }))))
    statement_same p j (gate_call changed name as' os place close) = no_return_same (gate_call_same expand lists place changed name as' os)
    statement_same p j (barrier os place close) = after_same (walk_same (keeps_operands place os)) (λ ss. given_same false)
    statement_same p j (reset o place close) = after_same (walk_same (keeps_acted place o)) (λ s. silent_then (silent_emits (resets_of s.items)) (λ _. given_same false))
    statement_same p j (measurement o target place close) = no_return_same (measurement_same place o target)
    statement_same p j (assign target o value place close) = no_return_same (assigned_same place p j target o value)
    statement_same p j (invoke a place close) = no_return_same (invoked_same place p j a)
    statement_same p j (branch a taken other place close) =
        looking_same (λ s.
        after_same (walk_same (keeps_walks place _)) (branches_same place (condition_in s a) (in_scope_same (statements_same (below p) j taken)) (in_scope_same (statements_same (below p) j other))))
    statement_same p j (while a body place close) =
        looking_same (λ s.
        after_same (walk_same (keeps_walks place _)) (λ _.
        after_same (walk_same (keeps_joint place)) (λ _.
        after_same (wrapped_same (while_core (condition_in s a)) (loop_body_same _ _ (λ c. statements_same (in_loop_body p) (loop_jumps c j) body))) (λ _.
        given_same false))))
    statement_same p j (for_range type name start step stop body place close) =
        no_return_same (none_from (range_same place type name start step stop (are_fixed_in name.text body) (any_jumps body) _ _ _
        (λ c. statements_same (in_loop_body p) (copy_jumps (any_jumps body) c j) body)
        (λ c. statements_same (in_loop_body p) (loop_jumps c j) body)))
    statement_same p j (for_set type name as' body place close) =
        no_return_same (none_from (set_same place type name as' (any_jumps body) _ _ (λ c. statements_same (in_loop_body p) (copy_jumps (any_jumps body) c j) body)))
    statement_same p j (break place close) =
        where_same p.in_loop LoopPlace place (no_return_same (then_silent (walk_none (keeps_cells place)) (λ _. silent_after (silent_put_back j.loop_since) (λ _. silent_emits (only_core (jump j.break_to))))))
    statement_same p j (continue place close) =
        where_same p.in_loop LoopPlace place (no_return_same (then_silent (walk_none (keeps_cells place)) (λ _. silent_after (silent_put_back j.loop_since) (λ _. silent_emits (only_core (jump j.continue_to))))))
    statement_same p j (end place close) =
        after_same (walk_same (keeps_cells place)) (λ _.
        after_same (changes_same (λ w. record w { ends = w.ends + 1 }) (λ w. record w { ends = w.ends + 1 }) (λ w. refl)) (λ _.
        silent_then (silent_put_back j.end_since) (λ _.
        silent_then (silent_emits (only_core (Leave j.end_to))) (λ _.
        given_same true))))
    statement_same p j (give value place close) =
        where_same (returns_right p.within value) ReturnPlace place (
        after_given none_of _ (returned_same place j p.within value) (λ _.
        after_same (walk_same (keeps_cells place)) (λ _.
        silent_then (silent_emits (only_core (Leave j.return_to))) (λ _.
        given_same true))))
    statement_same p j cut_off = given_same false

    statements_same : (p : Position) (j : Jumps) (ss : Statements) → Same as_it_is (makes.make_statements expand lists deeper p j ss) (walk_parts.walk_statements expand deeper' p ss)
    statements_same p j no_statement = given_same false
    statements_same p j (a_statement s ss) =
        after_same (walk_same (keeps_spend _ 1)) (λ _.
        silent_then silent_next_cell (λ c.
        after_same (statement_same p (global_jumps p.at_top c j) s) (λ r.
        after_same (statements_same p j ss) (λ returns.
        given_same _))))

-- ---- programs

makes_same : (expand : Expands) (lists : Lists) (n : ℕ) → AreSame (makes_at expand lists n) (walk_parts.walk_at expand n)
makes_same expand lists zero p j ss = statements_same expand lists None None tt p j ss
makes_same expand lists (suc n) p j ss = statements_same expand lists (Some (makes_at expand lists n)) (Some (walk_parts.walk_at expand n)) (makes_same expand lists n) p j ss

pub walks_alike : (expand : Expands) (lists : Lists) (top : Statements) (place : Span) → walked expand top place ≡ come_to (elaborated expand lists top place)
walks_alike expand lists top place = ap (λ r. go_on r (λ s. Ok s.1)) (program.by at_start) ∙ at (elaborated expand lists top place)
  where
    program : Same as_it_is (make_program expand lists top place) (walk_program expand top place)
    program =
        after_same (wrapped_same (block_where true) (makes_same expand lists most_calls top_level program_jumps top)) (λ _.
        walk_same (keeps_end_of_text place))

    at : (r : Result (Made (Unit {0})) Refusal) → go_on (mapped (seen as_it_is) r) (λ s. Ok s.1) ≡ come_to r
    at (Ok m) = refl
    at (Err e) = refl
