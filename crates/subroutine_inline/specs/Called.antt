-- The subroutine that a name calls (OpenQASM 3.0 specification, "Subroutines"): the name is visible, it is a subroutine, no subroutine
-- whose call is open calls itself, and no more calls are open than may be.
use Rattle.std.specs.Prelude.{nat_lt, not, List, length, Option, Some, None, Result, Ok}
use Rattle.qq_base.specs.declared.refusal.Refusal.{Refusal}
use Rattle.qq_base.specs.declared.refusal.Span.{Span}
use Rattle.qq_base.specs.declared.rule.Rule.TheVariants.{Unknown, WrongKind, Recursion, CallDepth}
use Rattle.qasm_ast.specs.declared.stmt.StmtId.{StmtId}
use Rattle.qasm_ast.specs.Tree.{Statement, subroutine}
use Rattle.const_eval.specs.declared.environment.Callable.{Callable}
use Rattle.const_eval.specs.declared.environment.Callable.TheVariants as callable
use Rattle.const_eval.specs.Binding.{most_calls}
use Rattle.const_eval.specs.Refusing.{refused, where_allowed}
use Rattle.const_eval.specs.Things.{Subroutine}
use Rattle.gate_arguments.specs.Scope.{is_open}

-- a subroutine, with the statement that defines it
pub record Definition : Type 0 where
  pub id : StmtId
  pub subroutine : Subroutine

-- the subroutine that a statement defines, if it defines one
abbrev pub subroutine_of : Statement → Option Subroutine
subroutine_of (subroutine name params result body place close) = Some (record { params = params; result = result; body = body; close = close })
subroutine_of _ = None

-- `opened` are the definitions of the subroutines whose calls are open
abbrev pub opened_call : List StmtId → Span → StmtId → Option Subroutine → Result Definition Refusal
opened_call opened place id None = refused WrongKind place
opened_call opened place id (Some f) =
    where_allowed (not (is_open id opened)) Recursion place (
    where_allowed (nat_lt (length opened) most_calls) CallDepth place (
    Ok (record { id = id; subroutine = f })))

-- `definition` gives the statement of a definition
abbrev pub subroutine_called : (StmtId → Statement) → List StmtId → Span → Callable → Result Definition Refusal
subroutine_called definition opened place (callable.Defined id) = opened_call opened place id (subroutine_of (definition id))
subroutine_called definition opened place callable.Unknown = refused Unknown place
subroutine_called definition opened place _ = refused WrongKind place
