-- The elaboration of a whole program: its core, its cells and what is recorded of them at its end.
use Rattle.std.specs.Prelude.{ℕ, suc, ◌+◌, List, [], ◌∷◌, ◌++◌, length, Bool, true, Option, Some, Result}
use Rattle.qq_base.specs.declared.refusal.Refusal.{Refusal}
use Rattle.qq_base.specs.declared.refusal.Span.{Span}
use Rattle.qq_base.specs.Seen.{Seen}
use Rattle.qasm_ast.specs.Tree.{Statements}
use Rattle.qasm_types.specs.declared.ty.Ty.{Ty}
use Rattle.qasm_types.specs.declared.ty.Ty.TheVariants as t
use Rattle.core_ir.specs.declared.program.Output.{Output as Recorded}
use Rattle.core_ir.specs.declared.program.Output.TheVariants as recorded
use Rattle.scope_env.specs.OpenScopes.{OpenScopes, find}
use Rattle.const_eval.specs.Things.{Variable}
use Rattle.const_eval.specs.Binding.{most_calls}
use Rattle.source_meaning.specs.GateCalls.{Expands}
use Rattle.source_meaning.specs.Walk.{top_level}
use Rattle.source_meaning.specs.Source.{Output, outputs_from, walk_end_of_text}
use Rattle.source_core.specs.Core.{block_where}
use Rattle.source_core.specs.Cells.{Held, cells_from}
use Rattle.source_core.specs.CoreRun.{body_run}
use Rattle.source_core.specs.Gates.{Lists}
use Rattle.source_core.specs.Made.{Work, Made, Makes, after, by_walk, wrapped, at_start}
use Rattle.source_core.specs.Jumps.{program_jumps}
use Rattle.source_core.specs.Makes.{makes_at}

-- ---- records

-- an output is recorded from its first cell on, under the next label
abbrev pub bits_recorded : ℕ → List ℕ → List Recorded
bits_recorded k [] = []
bits_recorded k (c ∷ cs) = recorded.Truth k c ∷ bits_recorded (suc k) cs

abbrev pub recorded_output : ℕ → Ty → ℕ → List Recorded
recorded_output k t.Bool c = recorded.Truth k c ∷ []
recorded_output k t.Bit c = recorded.Truth k c ∷ []
recorded_output k (t.Bits n) c = recorded.Array k n ∷ bits_recorded (suc k) (cells_from c (t.Bits n))
recorded_output k type c = recorded.Number k c ∷ []

abbrev pub recorded_thing : ℕ → Option Held → List Recorded
recorded_thing k (Some (Variable type c)) = recorded_output k type c
recorded_thing k _ = []

abbrev pub then_recorded : ℕ → List Recorded → (ℕ → List Recorded) → List Recorded
then_recorded k first more = first ++ more (k + length first)

abbrev pub recorded_from : ℕ → OpenScopes Held → List Output → List Recorded
recorded_from k scopes [] = []
recorded_from k scopes (o ∷ outputs) = then_recorded k (recorded_thing k (find o.name scopes)) (λ n. recorded_from n scopes outputs)

abbrev pub recorded_outputs : Work → List Recorded
recorded_outputs w = recorded_from 0 w.scopes (outputs_from w.scopes w.outputs)

-- ---- a program

module _ (expand : Expands) (lists : Lists) (top : Statements) (place : Span) where
  abbrev pub make_program : Makes (Unit {0})
  make_program = after (wrapped (block_where true) (makes_at expand lists most_calls top_level program_jumps top)) (λ _. by_walk (walk_end_of_text place))

  -- the program's core and what it has come to, or the first rule that it breaks
  abbrev pub elaborated : Result (Made (Unit {0})) Refusal
  elaborated = make_program at_start

-- what is seen of the core's run
abbrev pub made_run : Made (Unit {0}) → List Bool → ℕ → Seen
made_run m outcomes turns = body_run m.body (m.work).kinds (recorded_outputs m.work) outcomes turns
