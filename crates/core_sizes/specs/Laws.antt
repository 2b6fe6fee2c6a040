-- The law of the size of a program's core.
use Rattle.std.specs.Prelude.{◌≡◌, ◌≤◌, ◌+◌, ◌*◌, List, length, Ok}
use Rattle.qq_base.specs.declared.refusal.Span.{Span}
use Rattle.qasm_ast.specs.Tree.{Statements}
use Rattle.scope_env.specs.OpenScopes.{OpenScopes}
use Rattle.const_eval.specs.Things.{Known}
use Rattle.gate_lists.specs.Instructions.{Instruction}
use Rattle.source_meaning.specs.GateCalls.{GateCall, Expands}
use Rattle.source_core.specs.Gates.{Lists}
use Rattle.source_core.specs.Made.{Made}
use Rattle.source_core.specs.Elaborated.{elaborated}
use Rattle.core_sizes.specs.Size.{body_knots, body_calls, HasLevels}

-- the list of a gate call has no more instructions than the walk of the call counts
abbrev pub ListsAreCounted : Expands → Lists → Type 0
ListsAreCounted expand lists = (scopes : OpenScopes Known) (gate_call : GateCall) (instructions : List Instruction)
    → (expand scopes gate_call).answer ≡ Ok instructions → length (lists scopes gate_call).calls ≤ length instructions

-- what a program has come to, in the units of its walk
pub record IsBounded (m : Made (Unit {0})) : Type 0 where
  pub knots : body_knots m.body ≤ 4 * (m.work).joints + 1
  pub calls : body_calls m.body ≤ (m.work).sites
  pub levels : HasLevels m.body 0 0

-- the core of each program is bounded
abbrev pub CoresAreBounded : Type 0
CoresAreBounded = (expand : Expands) (lists : Lists) → ListsAreCounted expand lists
    → (top : Statements) (place : Span) (m : Made (Unit {0})) → elaborated expand lists top place ≡ Ok m → IsBounded m
