-- The walk of a subroutine call up to its body: its name and the number of its arguments, the types of its parameters and
-- its result, its qubit arguments in order, and then its classical arguments in order. Qubits are passed by reference,
-- values are cast (OpenQASM 3.0 specification, "Subroutines").
use Rattle.std.specs.Prelude.{ℕ, suc, max, nat_eq, nat_lt, Bool, true, false, not, ◌||◌, List, [], ◌∷◌, length, Option, Some, None, Result, Ok, Err}
use Rattle.std.specs.List.{list_any}
use Rattle.qq_base.specs.declared.refusal.Refusal.{Refusal}
use Rattle.qq_base.specs.declared.refusal.Span.{Span}
use Rattle.qq_base.specs.declared.rule.Rule.{Rule}
use Rattle.qq_base.specs.declared.rule.Rule.TheVariants.{Unknown, WrongKind, TypeMismatch, SizeMismatch, ArgumentCount, Recursion, CallDepth}
use Rattle.qq_base.specs.declared.run.QubitId.{QubitId}
use Rattle.qasm_ast.specs.declared.expr.Base.{Base}
use Rattle.qasm_ast.specs.declared.expr.Base.TheVariants as base
use Rattle.qasm_ast.specs.Tree.{Called, Tree, Trees, no_tree, a_tree, Scalar, Operand, Parameter, place_of}
use Rattle.qasm_types.specs.declared.ty.Ty.{Ty}
use Rattle.qasm_types.specs.Types.{cells_of}
use Rattle.alias_resolve.specs.Places.{Selected}
use Rattle.scope_env.specs.OpenScopes.{OpenScopes, is_same, find, since, only_of}
use Rattle.const_eval.specs.Meaning.{Meaning}
use Rattle.const_eval.specs.Refusing.{refused, where_allowed}
use Rattle.const_eval.specs.Walk.{Walk, asked, done, behind, then_walk, walk_where}
use Rattle.const_eval.specs.ConstantWalk.{type_walk, qubits_walk}
use Rattle.const_eval.specs.ExprWalk.{cast_expr_walk}
use Rattle.const_eval.specs.Operands.{operand_walk, operand_in, wires_of}
use Rattle.const_eval.specs.Things.{Thing, DefinedSubroutine, Subroutine, is_seen_in_subroutine, means_in, named_qubits}

-- ---- the called name

-- so many calls of subroutines may be open
abbrev pub most_calls : ℕ
most_calls = 16

abbrev pub has_result : Subroutine → Bool
has_result f = of f.result
  where
    of : Option Scalar → Bool
    of None = false
    of (Some type) = true

-- A name that is called: it is visible, it is a subroutine, one with a result where a value is taken, no subroutine whose call is
-- open calls itself, and no more calls are open than may be. `opened` are the subroutines whose calls are open.
abbrev pub called_subroutine : {A : Type 0} → (wanted : Bool) (opened : List (List ℕ)) → List ℕ → Span → Option (Thing A) → Result Subroutine Refusal
called_subroutine wanted opened name place None = refused Unknown place
called_subroutine wanted opened name place (Some (DefinedSubroutine f)) =
    where_allowed (not wanted || has_result f) TypeMismatch place (
    where_allowed (not (list_any (is_same name) opened)) Recursion place (
    where_allowed (nat_lt (length opened) most_calls) CallDepth place (
    Ok f)))
called_subroutine wanted opened name place (Some _) = refused WrongKind place

-- what the body of a subroutine sees: itself and what was declared before it, as far as they are constants, gates or subroutines
abbrev pub seen_by : {A : Type 0} → List ℕ → OpenScopes (Thing A) → OpenScopes (Thing A)
seen_by name scopes = only_of is_seen_in_subroutine (since name scopes)

-- ---- parameters

-- what a parameter takes: a value of a type, or so many qubits, which in the body are a qubit alone or a register
pub data Taken : Type 0 where
  TakesValue : (type : Ty) → Taken
  TakesQubits : (count : ℕ) (single : Bool) → Taken

-- `inside` says what names mean in the types of the definition
module _ (inside : List ℕ → Meaning) where
  abbrev pub taken_walk : Scalar → Walk Taken
  taken_walk type = of type.base
    where
      of : Base → Walk Taken
      of base.Qubit = then_walk (qubits_walk inside false type.width) (λ q. done (TakesQubits q.0 q.1))
      of b = then_walk (type_walk inside false b type.place type.width) (λ to. done (TakesValue to))

  abbrev pub all_taken_walk : List Parameter → Walk (List Taken)
  all_taken_walk [] = done []
  all_taken_walk (p ∷ ps) =
      then_walk (taken_walk p.type) (λ x.
      then_walk (all_taken_walk ps) (λ xs.
      done (x ∷ xs)))

  abbrev pub result_walk : Option Scalar → Walk (Option Ty)
  result_walk None = done None
  result_walk (Some type) = then_walk (type_walk inside false type.base type.place type.width) (λ to. done (Some to))

-- ---- arguments

abbrev pub count_of_trees : Trees → ℕ
count_of_trees no_tree = 0
count_of_trees (a_tree a as') = suc (count_of_trees as')

-- what a parameter is bound to
pub data Bound : Type 0 where
  ToValue : (type : Ty) → Bound
  ToQubits : (selected : Selected QubitId) → Bound

-- as many qubits as the parameter has; in the body they are a qubit alone where the parameter is one
abbrev pub bound_qubits : Span → ℕ → Bool → Selected QubitId → Result Bound Refusal
bound_qubits place count single s = where_allowed (nat_eq (length s.items) count) SizeMismatch place (Ok (ToQubits (record { items = s.items; single = single })))

pub record Binding : Type 0 where
  pub subroutine : Subroutine
  pub bound : List Bound
  pub result : Option Ty

-- `means` says what each name means where the call stands, and `qubits` which qubits an operand names
module _ (means : List ℕ → Meaning) (qubits : Called → Result (Selected QubitId) Rule) where
  -- a qubit argument; a classical one is walked later
  abbrev pub bound_argument_walk : Tree → Taken → Walk Bound
  bound_argument_walk a (TakesValue type) = done (ToValue type)
  bound_argument_walk a (TakesQubits count single) =
      then_walk (asked (operand_in a)) (λ o.
      then_walk (operand_walk means qubits o) (λ s.
      asked (bound_qubits (place_of a) count single s)))

  abbrev pub bound_arguments_walk : Trees → List Taken → Walk (List Bound)
  bound_arguments_walk no_tree xs = done []
  bound_arguments_walk (a_tree a as') [] = done []
  bound_arguments_walk (a_tree a as') (x ∷ xs) =
      then_walk (bound_argument_walk a x) (λ b.
      then_walk (bound_arguments_walk as' xs) (λ bs.
      done (b ∷ bs)))

  -- A call up to its classical arguments, with the place of the called name. Its cost, that of the types of the parameters and the
  -- result and of the indexes of qubit arguments, is added as one sum in front of the classical arguments.
  abbrev pub binding_walk : (List ℕ → Meaning) → Result Subroutine Refusal → Trees → Span → Walk Binding
  binding_walk inside called as' place =
      then_walk (asked called) (λ f.
      walk_where (nat_eq (count_of_trees as') (length f.params)) ArgumentCount place (
      then_walk (all_taken_walk inside f.params) (λ xs.
      then_walk (result_walk inside f.result) (λ result.
      then_walk (bound_arguments_walk as' xs) (λ bound.
      done (record { subroutine = f; bound = bound; result = result }))))))

-- the same in open scopes
abbrev pub call_binding_walk : {A : Type 0} → (wanted : Bool) (opened : List (List ℕ)) → OpenScopes (Thing A) → List ℕ → Trees → Span → Walk Binding
call_binding_walk wanted opened scopes name as' place =
    binding_walk (means_in scopes) (named_qubits scopes) (means_in (seen_by name scopes)) (called_subroutine wanted opened name place (find name scopes)) as' place

-- ---- classical arguments

module _ (means : List ℕ → Meaning) (types : List ℕ → Ty) where
  -- an argument is cast, and the parameter's cells are added behind it
  abbrev pub argument_walk : Tree → Bound → Walk (Unit {0})
  argument_walk a (ToQubits s) = done tt
  argument_walk a (ToValue type) = then_walk (cast_expr_walk means types false type a) (λ _. behind (cells_of type) (done tt))

  abbrev pub arguments_walk : Trees → List Bound → Walk (Unit {0})
  arguments_walk no_tree bs = done tt
  arguments_walk (a_tree a as') [] = done tt
  arguments_walk (a_tree a as') (b ∷ bs) = then_walk (argument_walk a b) (λ _. arguments_walk as' bs)

-- ---- the `$n` that are used

abbrev pub wires_in : Result Operand Refusal → ℕ
wires_in (Ok o) = wires_of o.name
wires_in (Err refusal) = 0

abbrev pub wires_of_argument : Tree → Bound → ℕ
wires_of_argument a (ToValue type) = 0
wires_of_argument a (ToQubits s) = wires_in (operand_in a)

abbrev pub wires_of_arguments : Trees → List Bound → ℕ
wires_of_arguments no_tree bs = 0
wires_of_arguments (a_tree a as') [] = 0
wires_of_arguments (a_tree a as') (b ∷ bs) = max (wires_of_argument a b) (wires_of_arguments as' bs)
