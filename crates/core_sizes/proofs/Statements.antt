-- What statements and programs are made of, in the units of the walk.
use Rattle.std.proofs.Common.{◌≡◌, ℕ, zero, suc, ◌+◌, ◌<◌, ◌≤◌, Bool, true, false, List, [], ◌∷◌, Option, Some, None, ℤ, refl, subst, arith}
use Rattle.std.specs.Prelude.{◌&&◌, ◌||◌, ◌++◌, not, if◌then◌else◌, zip, Result, Ok, Err}
use Rattle.std.proofs.lemmas.Bool.{or_left, or_right}
use Rattle.qq_base.specs.declared.refusal.Refusal.{Refusal}
use Rattle.qq_base.specs.declared.refusal.Span.{Span}
use Rattle.qq_base.specs.declared.rule.Rule.TheVariants.{ReturnMissing, ReturnPlace, LoopPlace, CallPlace, OutputPlace, DeclarationPlace}
use Rattle.qasm_ast.specs.declared.expr.BinaryOp.{BinaryOp}
use Rattle.qasm_ast.specs.Tree.{Tree, call, Trees, Maybe, Name, Scalar, Operand, Value, expression, measured, Statement, include, qubits, variable, constant, output, alias, gate, subroutine, gate_call, barrier, reset, measurement, assign, invoke, branch, while, for_range, for_set, break, continue, end, give, cut_off, Statements, no_statement, a_statement, place_of, place_of_statement}
use Rattle.qasm_types.specs.declared.ty.Ty.{Ty}
use Rattle.qasm_types.specs.Types.{cells_of}
use Rattle.core_ir.specs.declared.expression.CellKind.TheVariants.{Number as NumberKind}
use Rattle.core_ir.specs.Tree.{Expr}
use Rattle.core_ir.specs.Ways.{Falls}
use Rattle.cell_exprs.specs.CellValues.{kind_of_type}
use Rattle.cell_exprs.specs.Parts.{single_part}
use Rattle.scope_env.specs.OpenScopes.{Named, Sealed, close}
use Rattle.const_eval.specs.Constant.{whole}
use Rattle.const_eval.specs.Refusing.{go_on}
use Rattle.const_eval.specs.Walk.{at_once}
use Rattle.const_eval.specs.ConstantWalk.{type_walk, qubits_walk}
use Rattle.const_eval.specs.ConstantPlaces.{is_static}
use Rattle.const_eval.specs.Typed.{Typed, Exactly, Computed, is_angle}
use Rattle.const_eval.specs.ExprWalk.{cast_walk, cast_expr_walk}
use Rattle.const_eval.specs.Ranges.{condition_walk, is_true, counter_type_walk, bounds_walk, static_range_walk, running_range_walk}
use Rattle.const_eval.specs.Things.{Fixed, Counter, DefinedGate, DefinedSubroutine, means_in, types_in}
use Rattle.const_eval.specs.Binding.{most_calls, call_binding_walk, arguments_walk, wires_of_arguments, has_result, seen_by}
use Rattle.source_meaning.specs.ConstantUses.{are_fixed_in, jumps, any_jumps, changed}
use Rattle.source_meaning.specs.GateCalls.{Expands}
use Rattle.source_meaning.specs.Walk.{Position, below, in_loop_body, in_called_body, top_level, returns_right}
use Rattle.source_meaning.specs.Targets.{target_walk, changed_walk}
use Rattle.source_core.specs.Core.{Core, If, Leave, Again, Body, no_core, only_core, joined, block_where}
use Rattle.source_core.specs.Cells.{zero_parts, zeros_from}
use Rattle.source_core.specs.Gates.{Lists}
use Rattle.source_core.specs.Jumps.{Way, ToEnd, ToStart, jump, Jumps, program_jumps, global_jumps, loop_jumps, copy_jumps, call_jumps, while_core, for_core}
use Rattle.source_core.specs.Made.{Work, Made, Makes, gives, after, either, captured, wrapped, changes, emit, made_behind, spend_cells, spend_joint, put_back, at_start}
use Rattle.source_core.specs.Parts.{cast_in, condition_in, arguments_in, target_cells, type_of_target, Origin, of_parts, of_cells, stored}
use Rattle.source_core.specs.Makes as makes
use Rattle.source_core.specs.Makes.{Maker, LoopBody, makes_at}
use Rattle.source_core.specs.Elaborated.{elaborated, make_program}
use Rattle.core_sizes.specs.Size.{body_reaches, body_knots, body_calls, HasLevels}
use Rattle.core_sizes.specs.Laws.{ListsAreCounted, IsBounded}
use Rattle.core_sizes.proofs.Bodies.{joined_knots, joined_calls, joined_levels, never_falls, plain_assigned, plain_resets}
use Rattle.core_sizes.proofs.Costs.{Has, counts_end, none, for_knots, nothing_left, counts_cells, counts_joint, counts_wires, Paid, Pays, Free, after_with, after_pays, free_then, then_free, weaker, free_gives, free_refuses, where_pays, either_pays, looking_pays, changes_pays, emits_pays, Wraps, wrapped_pays, by_walk_pays}
use Rattle.core_sizes.proofs.Parts.{counts_operands, free_walks, free_charged, free_spend, acted_pays, free_next, free_take, free_scopes, free_put_back, in_scope_pays, free_declare, free_include, free_qubits, free_const, free_alias, free_stored_variable, measured_variable_pays, free_measured_target, free_measurement, free_returned, free_parameters}
use Rattle.core_sizes.proofs.GateCalls.{free_gate_call}

-- ---- jumps to levels that are there

abbrev WayFits : Way → ℕ → ℕ → Type 0
WayFits (ToEnd k) ends starts = k < ends
WayFits (ToStart k) ends starts = k < starts

-- of what stands at a place, where `used` says whether a jump of the innermost loop stands in it
record JumpsFit (used : Bool) (p : Position) (j : Jumps) (ends starts : ℕ) : Type 0 where
  loop : used ≡ true → p.in_loop ≡ true → WayFits j.break_to ends starts × WayFits j.continue_to ends starts
  returning : (value : Option Value) → returns_right p.within value ≡ true → j.return_to < ends
  ending : j.end_to < ends

way_levels : (way : Way) (ends starts : ℕ) → WayFits way ends starts → HasLevels (only_core (jump way)) ends starts
way_levels (ToEnd k) ends starts h = (h, tt)
way_levels (ToStart k) ends starts h = (h, tt)

module _ {ends starts : ℕ} where
  fits_less : {used less : Bool} {p : Position} {j : Jumps} → (less ≡ true → used ≡ true) → JumpsFit used p j ends starts → JumpsFit less p j ends starts
  fits_less le fits = record { loop = λ u. fits.loop (le u); returning = fits.returning; ending = fits.ending }

  fits_below : {used : Bool} {p : Position} {j : Jumps} → JumpsFit used p j ends starts → JumpsFit used (below p) j ends starts
  fits_below fits = record { loop = fits.loop; returning = fits.returning; ending = fits.ending }

  fits_global : {used : Bool} {p : Position} {j : Jumps} (top : Bool) (c : ℕ) → JumpsFit used p j ends starts → JumpsFit used p (global_jumps top c j) ends starts
  fits_global true c fits = record { loop = fits.loop; returning = fits.returning; ending = fits.ending }
  fits_global false c fits = fits

  fits_loop : {used any : Bool} {p : Position} {j : Jumps} (c : ℕ) → JumpsFit used p j ends starts → JumpsFit any (in_loop_body p) (loop_jumps c j) (suc ends) (suc starts)
  fits_loop c fits = record { loop = λ u l. (omega arith, omega arith); returning = λ value r. omega (arith, fits.returning value r); ending = omega (arith, fits.ending) }

  fits_copy : {used : Bool} {p : Position} {j : Jumps} (c : ℕ) → JumpsFit used p j ends starts → JumpsFit true (in_loop_body p) (copy_jumps true c j) (suc (suc ends)) starts
  fits_copy c fits = record { loop = λ u l. (omega arith, omega arith); returning = λ value r. omega (arith, fits.returning value r); ending = omega (arith, fits.ending) }

  -- a copy without jumps of its loop is no block
  fits_same : {used : Bool} {p : Position} {j : Jumps} (c : ℕ) → JumpsFit used p j ends starts → JumpsFit false (in_loop_body p) (copy_jumps false c j) ends starts
  fits_same c fits = record { loop = λ u. absurd cc; returning = fits.returning; ending = fits.ending }

  fits_call : {used any : Bool} {p : Position} {j : Jumps} (name : List ℕ) (result : Option Ty) (r c : ℕ) → JumpsFit used p j ends starts → JumpsFit any (in_called_body name result p) (call_jumps r c j) (suc ends) starts
  fits_call name result r c fits = record { loop = λ u l. absurd cc; returning = λ value h. omega arith; ending = omega (arith, fits.ending) }

-- ---- bodies within others

turning_calls : (body : Body) → body_calls (joined body (only_core (Again 0))) ≡ body_calls body
turning_calls body = omega (arith, joined_calls body (only_core (Again 0)))

module _ {ends starts : ℕ} where
  wraps_block : Wraps 1 ends starts (suc ends) starts (block_where true)
  wraps_block = record { knots = λ body. omega arith; calls = λ body. omega arith; levels = λ body h. (h, tt) }

  wraps_nothing : Wraps 0 ends starts ends starts (block_where false)
  wraps_nothing = record { knots = λ body. omega arith; calls = λ body. refl; levels = λ body h. h }

  wraps_while : (test : Expr) → Wraps 4 ends starts (suc ends) (suc starts) (while_core test)
  wraps_while test = record {
    knots = λ body. rw (never_falls body) (omega (arith, joined_knots body (only_core (Again 0))));
    calls = λ body. omega (arith, turning_calls body);
    levels = λ body h. (((joined_levels body (only_core (Again 0)) (suc ends) (suc starts) h (omega arith, tt), tt), tt), tt);
  }

  wraps_for : (step : ℤ) (c : ℕ) (start stop : Expr) → Wraps 4 ends starts (suc ends) (suc starts) (for_core step c start stop)
  wraps_for step c start stop = record {
    knots = λ body. rw (never_falls body) (omega (arith, joined_knots body (only_core (Again 0))));
    calls = λ body. omega (arith, turning_calls body);
    levels = λ body h. (tt, ((tt, (((tt, joined_levels body (only_core (Again 0)) (suc ends) (suc starts) h (omega arith, tt)), tt), tt)), tt));
  }

-- a statement without knots and calls
free_leap : {ends starts : ℕ} (c : Core) → body_knots (only_core c) ≡ 0 → body_calls (only_core c) ≡ 0 → HasLevels (only_core c) ends starts → Free ends starts (emit c)
free_leap c knots calls levels = record { by = λ w. record { knots = omega (arith, knots); calls = omega (arith, calls); levels = levels } }

jump_knots : (way : Way) → body_knots (only_core (jump way)) ≡ 0
jump_knots (ToEnd k) = refl
jump_knots (ToStart k) = refl

jump_calls : (way : Way) → body_calls (only_core (jump way)) ≡ 0
jump_calls (ToEnd k) = refl
jump_calls (ToStart k) = refl

-- ---- loops

module _ {ends starts : ℕ} where
  free_loop_body : (body : LoopBody) → ((c : ℕ) → Free ends starts (body c)) → Free ends starts (makes.make_loop_body body)
  free_loop_body body h = free_then free_next (λ c. in_scope_pays (h c))

  free_copies : (copy : ℤ → Makes Bool) → ((z : ℤ) → Free ends starts (copy z)) → (zs : List ℤ) → Free ends starts (makes.make_copies copy zs)
  free_copies copy h [] = free_gives tt
  free_copies copy h (z ∷ zs) = free_then (h z) (λ _. free_copies copy h zs)

  free_joint : (statement : Span) → Pays ends starts none (spend_joint statement) (λ _. for_knots 4)
  free_joint statement = by_walk_pays (counts_joint statement)

  first_joint : (statement : Span) → Pays ends starts none (either true (spend_joint statement) (gives tt)) (λ _. for_knots 4)
  first_joint statement = record { by = (free_joint statement).by }

module _ {ends starts : ℕ} where
  -- a copy that is a block leaves credit for the block of all copies
  copy_pays : (statement : Span) (name : Name) (body : LoopBody) → ((c : ℕ) → Free (suc ends) starts (body c)) → (z : ℤ) → Pays ends starts none (makes.make_copy statement name true body z) (λ _. for_knots 1)
  copy_pays statement name body h z =
      free_then (free_spend statement 1) (λ _.
      after_with {first_before = none} {first_left = λ _. for_knots 4} {second_before = λ _. for_knots 1} {second_left = nothing_left} (λ a b. record { knots = omega arith; calls = omega arith }) (first_joint statement) (λ _.
      in_scope_pays (
      free_then (free_scopes (Named name.text (Fixed (whole z)))) (λ _.
      wrapped_pays 1 0 (block_where true) (omega arith) wraps_block (free_loop_body body h)))))

  free_copy : (statement : Span) (name : Name) (body : LoopBody) → ((c : ℕ) → Free ends starts (body c)) → (z : ℤ) → Free ends starts (makes.make_copy statement name false body z)
  free_copy statement name body h z =
      free_then (free_spend statement 1) (λ _.
      free_then no_joint (λ _.
      in_scope_pays (
      free_then (free_scopes (Named name.text (Fixed (whole z)))) (λ _.
      no_block (free_loop_body body h)))))
    where
      no_joint : Free ends starts (either false (spend_joint statement) (gives tt))
      no_joint = record { by = λ w. record { knots = omega arith; calls = omega arith; levels = tt } }

      no_block : {part : Makes Bool} → Free ends starts part → Free ends starts (wrapped (block_where false) part)
      no_block h = wrapped_pays 0 0 (block_where false) (omega arith) wraps_nothing h

module _ {ends starts : ℕ} where
  free_dropped : (statement : Span) (name : Name) (body : LoopBody) → ((c : ℕ) → Free (suc ends) starts (body c)) → (z : ℤ) → Free ends starts (makes.make_copy statement name true body z)
  free_dropped statement name body h z = weaker none none (for_knots 1) none (record { knots = omega arith; calls = omega arith }) (copy_pays statement name body h z)

  copies_pay : (statement : Span) (name : Name) (body : LoopBody) → ((c : ℕ) → Free (suc ends) starts (body c)) → (z : ℤ) (zs : List ℤ)
      → Pays ends starts none (makes.make_copies (makes.make_copy statement name true body) (z ∷ zs)) (λ _. for_knots 1)
  copies_pay statement name body h z zs =
      then_free (for_knots 1) (copy_pays statement name body h z) (λ _.
      free_copies (makes.make_copy statement name true body) (free_dropped statement name body h) zs)

-- the levels in a copy, which may be a block in the block of all copies
abbrev inner : ℕ → Bool → ℕ
inner ends has_jumps = if has_jumps then suc (suc ends) else ends

-- what is made, as what is given
abbrev kept_apart : Made Bool → Result (Made (Bool × Body)) Refusal
kept_apart m = Ok (record { given = (m.given, m.body); body = no_core; work = m.work })

few_knots : (a b : Bool) (x y : ℕ) → (if a && b then 3 else 2) + x + y ≤ 3 + x + y
few_knots true true x y = omega arith
few_knots true false x y = omega arith
few_knots false b x y = omega arith

module _ {ends starts : ℕ} where
  free_all_copies : (statement : Span) (name : Name) (has_jumps : Bool) (body : LoopBody) → ((c : ℕ) → Free (inner ends has_jumps) starts (body c)) → (zs : List ℤ) → Free ends starts (makes.make_all_copies statement name has_jumps body zs)
  free_all_copies statement name true body h [] = wrapped_pays 0 0 (block_where false) (omega arith) wraps_nothing (free_gives tt)
  free_all_copies statement name true body h (z ∷ zs) = wrapped_pays 0 1 (block_where true) (omega arith) wraps_block (copies_pay statement name body h z zs)
  free_all_copies statement name false body h zs = wrapped_pays 0 0 (block_where false) (omega arith) wraps_nothing (free_copies (makes.make_copy statement name false body) (free_copy statement name body h) zs)

  free_turns : (statement : Span) (name : Name) (type : Ty) (step : ℤ) (start stop : Expr) (body : LoopBody) → ((c : ℕ) → Free (suc ends) (suc starts) (body c)) → Free ends starts (makes.make_turns statement name type step start stop body)
  free_turns statement name type step start stop body h =
      in_scope_pays (
      free_then free_next (λ c.
      free_then (free_declare name (Counter type c)) (λ _.
      free_then (free_take 3 NumberKind) (λ _.
      after_pays (free_joint statement) (λ _.
      after_pays (wrapped_pays 4 0 (for_core step c start stop) (omega arith) (wraps_for step c start stop) (free_loop_body body h)) (λ _.
      free_gives tt))))))

  free_range : (statement : Span) (type : Scalar) (name : Name) (start : Tree) (step : Maybe) (stop : Tree) (is_used has_jumps : Bool) (copied turned : LoopBody)
      → ((c : ℕ) → Free (inner ends has_jumps) starts (copied c)) → ((c : ℕ) → Free (suc ends) (suc starts) (turned c))
      → Free ends starts (makes.make_range statement type name start step stop is_used has_jumps copied turned)
  free_range statement type name start step stop is_used has_jumps copied turned h k =
      free_then (free_walks statement (λ scopes. counter_type_walk (means_in scopes) type)) (λ to.
      looking_pays (λ s. either_pays (is_static is_used (means_in s) start step stop)
      (free_then (free_charged statement (static_range_walk (means_in s) to start step stop)) (λ zs. free_all_copies statement name has_jumps copied h zs))
      (free_then (free_charged statement (running_range_walk (means_in s) (types_in s) type to start step stop)) (λ _.
      free_turns statement name to (makes.step_by s step) (single_part (cast_in s false to start)) (single_part (cast_in s false to stop)) turned k))))

  free_set : (statement : Span) (type : Scalar) (name : Name) (as' : Trees) (has_jumps : Bool) (copied : LoopBody) → ((c : ℕ) → Free (inner ends has_jumps) starts (copied c)) → Free ends starts (makes.make_set statement type name as' has_jumps copied)
  free_set statement type name as' has_jumps copied h =
      free_then (free_walks statement (λ scopes. counter_type_walk (means_in scopes) type)) (λ to.
      free_then (free_walks statement (λ scopes. bounds_walk (means_in scopes) to as')) (λ zs. free_all_copies statement name has_jumps copied h zs))

  -- ---- branches

  choice_pays : (test : Expr) {taken other : Makes Bool} → Free ends starts taken → Free ends starts other
      → Pays ends starts (for_knots 4) (after (captured taken) (λ r. after (captured other) (λ s. after (emit (If test r.1 s.1)) (λ _. gives (r.0 && s.0))))) nothing_left
  choice_pays test {taken} {other} h k = record { by = λ w. at w (taken w) (h.by w) }
    where
      behind_it : (w : Work) (m : Made Bool) (r : Result (Made Bool) Refusal) → Paid ends starts none none w m.body m.work → Has (λ n. Paid ends starts none none m.work n.body n.work) r
          → Has (λ n. Paid ends starts (for_knots 4) none w n.body n.work)
          (go_on (go_on (go_on r (λ (n : Made Bool). kept_apart n)) (λ n. go_on (after (emit (If test m.body (n.given).1)) (λ _. gives (m.given && (n.given).0)) n.work) (made_behind n.body))) (made_behind no_core))
      behind_it w m (Err e) c d = tt
      behind_it w m (Ok n) c d =
          let few = few_knots (body_reaches m.body Falls) (body_reaches n.body Falls) (body_knots m.body) (body_knots n.body) in
          record { knots = omega (arith, few, c.knots, d.knots); calls = omega (arith, c.calls, d.calls); levels = ((c.levels, d.levels), tt) }

      at : (w : Work) (r : Result (Made Bool) Refusal) → Has (λ m. Paid ends starts none none w m.body m.work) r
          → Has (λ m. Paid ends starts (for_knots 4) none w m.body m.work) (go_on (go_on r (λ (m : Made Bool). kept_apart m)) (λ m. go_on (after (captured other) (λ s. after (emit (If test (m.given).1 s.1)) (λ _. gives ((m.given).0 && s.0))) m.work) (made_behind m.body)))
      at w (Err e) c = tt
      at w (Ok m) c = behind_it w m (other m.work) c (k.by m.work)

  free_branches : (statement : Span) (test : Expr) {taken other : Makes Bool} → Free ends starts taken → Free ends starts other → (typed : Typed) → Free ends starts (makes.make_branches statement test taken other typed)
  free_branches statement test h k (Exactly c) = either_pays (is_true c) h k
  free_branches statement test h k (Computed type) = after_pays (free_joint statement) (λ _. choice_pays test h k)

-- ---- statements, over what is made of called bodies

abbrev MakerFits : Maker → Type 0
MakerFits maker = (p : Position) (j : Jumps) (ends starts : ℕ) (body : Statements) → JumpsFit (any_jumps body) p j ends starts → Free ends starts (maker p j body)

abbrev MayFit : Option Maker → Type 0
MayFit None = Unit {0}
MayFit (Some maker) = MakerFits maker

module _ {ends starts : ℕ} where
  free_taken : (type : Option Ty) → Free ends starts (makes.take_result type)
  free_taken None = free_next
  free_taken (Some type) = free_take (cells_of type) (kind_of_type type)

module _ {ends starts : ℕ} where
  fits_any : {used : Bool} {p : Position} {j : Jumps} (has_jumps : Bool) (c : ℕ) → JumpsFit used p j ends starts → JumpsFit has_jumps (in_loop_body p) (copy_jumps has_jumps c j) (inner ends has_jumps) starts
  fits_any true c fits = fits_copy c fits
  fits_any false c fits = fits_same c fits

module _ (expand : Expands) (lists : Lists) (counted : ListsAreCounted expand lists) (deeper : Option Maker) (fit : MayFit deeper) where
  module _ {ends starts : ℕ} where
    free_body : (p : Position) (j : Jumps) (body : Statements) → JumpsFit (any_jumps body) p j ends starts → Free ends starts (makes.make_body expand lists deeper p j body)
    free_body p j body fits = of deeper fit
      where
        of : (deeper : Option Maker) → MayFit deeper → Free ends starts (makes.make_body expand lists deeper p j body)
        of None h = free_gives true
        of (Some maker) h = h p j ends starts body fits

    free_called : (p : Position) (j : Jumps) (body : Statements) → JumpsFit (any_jumps body) p j ends starts → Free ends starts (makes.make_called expand lists deeper p j body)
    free_called p j body fits =
        free_then (free_body p j body fits) (λ returns.
        free_then (free_put_back j.call_since) (λ _.
        free_gives returns))

  module _ {ends starts : ℕ} where
    free_call : {used : Bool} (statement : Span) (p : Position) (j : Jumps) (wanted : Bool) (name : List ℕ) (as' : Trees) (place : Span) → JumpsFit used p j ends starts
        → Free ends starts (makes.make_call expand lists deeper statement p j wanted name as' place)
    free_call statement p j wanted name as' place fits =
        free_then (free_walks statement (λ scopes. at_once (call_binding_walk wanted p.opened scopes name as' place))) (λ b.
        free_then (free_walks statement (λ scopes. arguments_walk (means_in scopes) (types_in scopes) as' b.bound)) (λ _.
        free_then (by_walk_pays (counts_wires (wires_of_arguments as' b.bound))) (λ _.
        looking_pays (λ callers.
        free_then (free_scopes (λ scopes. Sealed (seen_by name scopes) scopes)) (λ _.
        free_then (free_taken b.result) (λ r.
        free_then free_next (λ first.
        free_then (free_parameters (b.subroutine).params b.bound) (λ cells.
        after_pays (free_joint statement) (λ _.
        free_then (emits_pays (plain_assigned (zip cells (arguments_in callers as' b.bound)))) (λ _.
        after_pays (wrapped_pays 4 0 (block_where true) (omega arith) wraps_block (free_called (in_called_body name b.result p) (call_jumps r first j) (b.subroutine).body (fits_call name b.result r first fits))) (λ returns.
        where_pays (not (has_result b.subroutine) || returns) ReturnMissing (b.subroutine).close (λ _.
        free_then (free_scopes close) (λ _.
        free_gives (b.result, r))))))))))))))

    free_made_result : (statement : Span) (to : Ty) (place : Span) (r : Option Ty × ℕ) → Free ends starts (makes.make_result expand lists deeper statement to place r)
    free_made_result statement to place (None, c) = free_gives (of_parts [])
    free_made_result statement to place (Some type, c) = free_then (free_charged statement (cast_walk to place (Computed type))) (λ _. free_gives (of_cells type c to))

    free_stored : {used : Bool} (statement : Span) (p : Position) (j : Jumps) (exact : Bool) (to : Ty) (a : Tree) → JumpsFit used p j ends starts
        → Free ends starts (makes.make_stored expand lists deeper statement p j exact to a)
    free_stored statement p j exact to (call name as' place) fits = free_then (free_call statement p j true name as' place fits) (λ r. free_made_result statement to place r)
    free_stored statement p j exact to a fits =
        free_then (free_walks statement (λ scopes. cast_expr_walk (means_in scopes) (types_in scopes) exact to a)) (λ _.
        looking_pays (λ s. free_gives (of_parts (cast_in s exact to a))))

    free_initial : {used : Bool} (statement : Span) (p : Position) (j : Jumps) (name : Name) (type : Ty) (value : Option Value) → JumpsFit used p j ends starts
        → Free ends starts (makes.make_initial expand lists deeper statement p j name type value)
    free_initial statement p j name type None fits = free_stored_variable statement name type (of_parts (zero_parts type))
    free_initial statement p j name type (Some (expression a)) fits = free_then (free_stored statement p j (is_angle type) type a fits) (λ origin. free_stored_variable statement name type origin)
    free_initial statement p j name type (Some (measured o)) fits = after_pays (acted_pays statement o) (λ s. measured_variable_pays statement name type s)

    free_target : (target : Operand) (origin : Origin) → Free ends starts (makes.emit_target expand lists deeper target origin)
    free_target target origin = looking_pays (λ s. emits_pays (plain_assigned (stored (target_cells s target) origin)))

    free_assigned : {used : Bool} (statement : Span) (p : Position) (j : Jumps) (target : Operand) (op : Option BinaryOp) (value : Value) → JumpsFit used p j ends starts
        → Free ends starts (makes.make_assigned expand lists deeper statement p j target op value)
    free_assigned statement p j target None (expression a) fits =
        free_then (free_walks statement (λ scopes. target_walk false scopes target)) (λ type.
        free_then (free_stored statement p j false type a fits) (λ origin.
        free_target target origin))
    free_assigned statement p j target (Some o) (expression a) fits =
        free_then (free_walks statement (λ scopes. changed_walk scopes target o a)) (λ _.
        looking_pays (λ s. free_target target (of_parts (cast_in s false (type_of_target s target) (changed target o a)))))
    free_assigned statement p j target None (measured o) fits = free_measured_target statement target o
    free_assigned statement p j target (Some op) (measured o) fits = free_measured_target statement target o

    free_drop : (r : Option Ty × ℕ) → Free ends starts (makes.drop_result expand lists deeper r)
    free_drop (None, c) = free_gives tt
    free_drop (Some type, c) = emits_pays (plain_assigned (zeros_from c type))

    free_invoked : {used : Bool} (statement : Span) (p : Position) (j : Jumps) (a : Tree) → JumpsFit used p j ends starts → Free ends starts (makes.make_invoked expand lists deeper statement p j a)
    free_invoked statement p j (call name as' place) fits = free_then (free_call statement p j false name as' place fits) (λ r. free_drop r)
    free_invoked statement p j a fits = free_refuses CallPlace (place_of a)

    free_output : (name : Name) → Free ends starts (changes (λ w. record w { outputs = w.outputs ++ name.text ∷ [] }))
    free_output name = changes_pays (λ w. record w { outputs = w.outputs ++ name.text ∷ [] }) (λ w. refl) (λ w. refl)

    -- a jump, behind the zeros in the cells that it leaves
    free_jump : (place : Span) (since : ℕ) (way : Way) → WayFits way ends starts → Free ends starts (makes.no_return (after (spend_cells place) (λ _. after (put_back since) (λ _. emit (jump way)))))
    free_jump place since way fits =
        free_then (
        free_then (by_walk_pays (counts_cells place)) (λ _.
        free_then (free_put_back since) (λ _.
        free_leap (jump way) (jump_knots way) (jump_calls way) (way_levels way ends starts fits)))) (λ _.
        free_gives false)

  mutual
    free_statement : (p : Position) (j : Jumps) (ends starts : ℕ) (s : Statement) → JumpsFit (jumps s) p j ends starts → Free ends starts (makes.make_statement expand lists deeper p j s)
    free_statement p j ends starts (include place close) fits = where_pays p.at_top DeclarationPlace place (λ _. free_then (free_include place) (λ _. free_gives false))
    free_statement p j ends starts (qubits type name place close) fits =
        where_pays p.at_top DeclarationPlace place (λ _.
        free_then (free_walks place (λ scopes. qubits_walk (means_in scopes) false type.width)) (λ q.
        free_then (free_qubits name q.0 q.1) (λ _.
        free_gives false)))
    free_statement p j ends starts (variable type name value place close) fits =
        free_then (free_walks place (λ scopes. type_walk (means_in scopes) false type.base type.place type.width)) (λ to.
        free_then (free_initial place p j name to value fits) (λ _.
        free_gives false))
    free_statement p j ends starts (constant type name a place close) fits = free_then (free_const place type name a) (λ _. free_gives false)
    free_statement p j ends starts (output type name place close) fits =
        where_pays p.at_top OutputPlace place (λ _.
        free_then (free_walks place (λ scopes. type_walk (means_in scopes) false type.base type.place type.width)) (λ to.
        free_then (free_stored_variable place name to (of_parts (zero_parts to))) (λ _.
        free_then (free_output name) (λ _.
        free_gives false))))
    free_statement p j ends starts (alias name os place close) fits = free_then (free_alias place name os) (λ _. free_gives false)
    free_statement p j ends starts (gate name params qs body place close) fits =
        where_pays p.at_top DeclarationPlace place (λ _.
        free_then (free_declare name (DefinedGate (record { params = params; qubits = qs; body = body }))) (λ _.
        free_gives false))
    free_statement p j ends starts (subroutine name params result body place close) fits =
        where_pays p.at_top DeclarationPlace place (λ _.
        free_then (free_declare name (DefinedSubroutine (record { params = params; result = result; body = body; close = close }))) (λ _.
        free_gives false))
    free_statement p j ends starts (gate_call changed name as' os place close) fits = free_then (free_gate_call expand lists counted place changed name as' os) (λ _. free_gives false)
    free_statement p j ends starts (barrier os place close) fits = free_then (by_walk_pays (counts_operands place os)) (λ ss. free_gives false)
    free_statement p j ends starts (reset o place close) fits =
        after_pays (acted_pays place o) (λ s.
        after_pays (emits_pays (plain_resets s.items)) (λ _.
        free_gives false))
    free_statement p j ends starts (measurement o target place close) fits = free_then (free_measurement place o target) (λ _. free_gives false)
    free_statement p j ends starts (assign target o value place close) fits = free_then (free_assigned place p j target o value fits) (λ _. free_gives false)
    free_statement p j ends starts (invoke a place close) fits = free_then (free_invoked place p j a fits) (λ _. free_gives false)
    free_statement p j ends starts (branch a taken other place close) fits =
        looking_pays (λ s.
        free_then (free_walks place (λ scopes. condition_walk (means_in scopes) (types_in scopes) a)) (λ typed.
        free_branches place (condition_in s a)
        (in_scope_pays (free_statements (below p) j ends starts taken (fits_below (fits_less (or_left (any_jumps taken) (any_jumps other)) fits))))
        (in_scope_pays (free_statements (below p) j ends starts other (fits_below (fits_less (or_right (any_jumps taken) (any_jumps other)) fits)))) typed))
    free_statement p j ends starts (while a body place close) fits =
        looking_pays (λ s.
        free_then (free_walks place (λ scopes. condition_walk (means_in scopes) (types_in scopes) a)) (λ _.
        after_pays (free_joint place) (λ _.
        after_pays (wrapped_pays 4 0 (while_core (condition_in s a)) (omega arith) (wraps_while (condition_in s a))
        (free_loop_body (λ c. makes.make_statements expand lists deeper (in_loop_body p) (loop_jumps c j) body)
        (λ c. free_statements (in_loop_body p) (loop_jumps c j) (suc ends) (suc starts) body (fits_loop c fits)))) (λ _.
        free_gives false))))
    free_statement p j ends starts (for_range type name start step stop body place close) fits =
        free_then (free_range place type name start step stop (are_fixed_in name.text body) (any_jumps body)
        (λ c. makes.make_statements expand lists deeper (in_loop_body p) (copy_jumps (any_jumps body) c j) body)
        (λ c. makes.make_statements expand lists deeper (in_loop_body p) (loop_jumps c j) body)
        (λ c. free_statements (in_loop_body p) (copy_jumps (any_jumps body) c j) (inner ends (any_jumps body)) starts body (fits_any (any_jumps body) c fits))
        (λ c. free_statements (in_loop_body p) (loop_jumps c j) (suc ends) (suc starts) body (fits_loop c fits))) (λ _.
        free_gives false)
    free_statement p j ends starts (for_set type name as' body place close) fits =
        free_then (free_set place type name as' (any_jumps body)
        (λ c. makes.make_statements expand lists deeper (in_loop_body p) (copy_jumps (any_jumps body) c j) body)
        (λ c. free_statements (in_loop_body p) (copy_jumps (any_jumps body) c j) (inner ends (any_jumps body)) starts body (fits_any (any_jumps body) c fits))) (λ _.
        free_gives false)
    free_statement p j ends starts (break place close) fits = where_pays p.in_loop LoopPlace place (λ loops. free_jump place j.loop_since j.break_to (fits.loop refl loops).0)
    free_statement p j ends starts (continue place close) fits = where_pays p.in_loop LoopPlace place (λ loops. free_jump place j.loop_since j.continue_to (fits.loop refl loops).1)
    free_statement p j ends starts (end place close) fits =
        free_then (by_walk_pays (counts_cells place)) (λ _.
        free_then (changes_pays (λ w. record w { ends = w.ends + 1 }) (λ w. refl) (λ w. refl)) (λ _.
        free_then (free_put_back j.end_since) (λ _.
        free_then (free_leap (Leave j.end_to) refl refl (fits.ending, tt)) (λ _.
        free_gives true))))
    free_statement p j ends starts (give value place close) fits =
        where_pays (returns_right p.within value) ReturnPlace place (λ right.
        free_then (free_returned place j p.within value) (λ _.
        free_then (by_walk_pays (counts_cells place)) (λ _.
        free_then (free_leap (Leave j.return_to) refl refl (fits.returning value right, tt)) (λ _.
        free_gives true))))
    free_statement p j ends starts cut_off fits = free_gives false

    free_statements : (p : Position) (j : Jumps) (ends starts : ℕ) (ss : Statements) → JumpsFit (any_jumps ss) p j ends starts → Free ends starts (makes.make_statements expand lists deeper p j ss)
    free_statements p j ends starts no_statement fits = free_gives false
    free_statements p j ends starts (a_statement s ss) fits =
        free_then (free_spend (place_of_statement s) 1) (λ _.
        free_then free_next (λ c.
        free_then (free_statement p (global_jumps p.at_top c j) ends starts s (fits_global p.at_top c (fits_less (or_left (jumps s) (any_jumps ss)) fits))) (λ r.
        free_then (free_statements p j ends starts ss (fits_less (or_right (jumps s) (any_jumps ss)) fits)) (λ returns.
        free_gives (r || returns)))))

-- ---- programs

module _ (expand : Expands) (lists : Lists) (counted : ListsAreCounted expand lists) where
  makers_fit : (n : ℕ) → MakerFits (makes_at expand lists n)
  makers_fit zero p j ends starts body fits = free_statements expand lists counted None tt p j ends starts body fits
  makers_fit (suc n) p j ends starts body fits = free_statements expand lists counted (Some (makes_at expand lists n)) (makers_fit n) p j ends starts body fits

  pub bounded : (top : Statements) (place : Span) (m : Made (Unit {0})) → elaborated expand lists top place ≡ Ok m → IsBounded m
  bounded top place m e =
      let paid = subst (Has (λ (m : Made (Unit {0})). Paid 0 0 (for_knots 1) none at_start m.body m.work)) e (program.by at_start) in
      record { knots = omega (arith, paid.knots); calls = omega (arith, paid.calls); levels = paid.levels }
    where
      program_fits : JumpsFit (any_jumps top) top_level program_jumps 1 0
      program_fits = record { loop = λ u l. absurd cc; returning = λ value r. omega arith; ending = omega arith }

      program : Pays 0 0 (for_knots 1) (make_program expand lists top place) nothing_left
      program =
          after_pays (wrapped_pays 1 0 (block_where true) (omega arith) wraps_block (makers_fit most_calls top_level program_jumps 1 0 top program_fits)) (λ _.
          by_walk_pays (counts_end place))
