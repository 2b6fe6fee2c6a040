-- What is left to do in the middle of a run: a list of pieces with the frames, innermost first. Each piece takes up the flow with
-- which the one in front of it was left, as the run of the statements would.
use Rattle.std.specs.Prelude.{ℕ, suc, ◌-◌, Bool, List, [], ◌∷◌, ℤ, Option, None}
use Rattle.qq_base.specs.declared.refusal.Span.{Span}
use Rattle.qq_base.specs.declared.run.QubitId.{QubitId}
use Rattle.qq_base.specs.declared.run.Event.{Event}
use Rattle.qq_base.specs.declared.run.Record.{Record}
use Rattle.qq_base.specs.Seen.{Seen, Ended}
use Rattle.qasm_ast.specs.Tree.{Tree, Name, Statements}
use Rattle.qasm_types.specs.declared.ty.Ty.{Ty}
use Rattle.const_eval.specs.Binding.{most_calls}
use Rattle.const_eval.specs.Values.{Frames}
use Rattle.source_meaning.specs.GateCalls.{Expands}
use Rattle.source_meaning.specs.Flow.{Next, Out, Runs, flows, behind, on_next, looped, closed, in_scope, with_turn, while_run, with_value, each_turn, each_copy, counter, fixed}
use Rattle.source_meaning.specs.Storing.{Into, Purpose, measuring}
use Rattle.source_meaning.specs.Run.{called, run_at}
use Rattle.source_meaning.specs.Source.{Output, seen_of, halt_of}

pub data Piece : Type 0 where
  -- statements
  Do : (statements : Statements) → Piece
  -- what is left of the instructions of a gate call, or of the qubits of a reset
  Events : (events : List Event) → Piece
  -- the qubits that are left of a measurement, with the outcomes that it has taken
  Measures : (place : Span) (qubits : List QubitId) (taken : List Bool) (purpose : Purpose) → Piece
  -- a `while` whose body is open
  WhileOpen : (place : Span) (condition : Tree) (body : Statements) → Piece
  -- a running `for` whose body is open, with the values that are left
  TurnsOpen : (place : Span) (name : Name) (type : Ty) (body : Statements) (values : List ℤ) → Piece
  -- the copies that are left of a static `for`
  CopiesOpen : (name : Name) (body : Statements) (values : List ℤ) → Piece
  -- the end of a scope
  Close : Piece
  -- the end of a called body, with the type of its result and what its value is stored in
  CallOpen : (result : Option Ty) (into : Into) → Piece

-- the calls that are open in a list of pieces
abbrev pub open_calls : List Piece → ℕ
open_calls [] = 0
open_calls (CallOpen result into ∷ pieces) = suc (open_calls pieces)
open_calls (p ∷ pieces) = open_calls pieces

-- what is left: pieces with the frames, or the records
pub data Left : Type 0 where
  Pieces : (pieces : List Piece) (frames : Frames) → Left
  Records : (records : List Record) → Left

module _ (expand : Expands) where
  -- statements where so many calls are open
  abbrev pub runs_within : ℕ → Statements → Runs
  runs_within calls = run_at expand (most_calls - calls)

  -- the flow behind a piece, from that in front of it
  abbrev pub behind_piece : ℕ → Piece → Out → Out
  behind_piece calls (Do statements) o = on_next o (runs_within calls statements)
  behind_piece calls (Events events) o = on_next o (λ frames outcomes turns. behind events (flows Next frames outcomes turns))
  behind_piece calls (Measures place qubits taken purpose) o = on_next o (measuring place qubits taken purpose)
  behind_piece calls (WhileOpen place condition body) o = looped o (with_turn place (while_run place condition (in_scope (runs_within calls body))))
  behind_piece calls (TurnsOpen place name type body values) o = looped o (with_turn place (each_turn place (with_value name (counter type) (runs_within calls body)) values))
  behind_piece calls (CopiesOpen name body values) o = looped o (each_copy (with_value name fixed (runs_within calls body)) values)
  behind_piece calls Close o = closed o
  behind_piece calls (CallOpen result into) o = called result into o

  abbrev pub behind_pieces : List Piece → Out → Out
  behind_pieces [] o = o
  behind_pieces (p ∷ pieces) o = behind_pieces pieces (behind_piece (open_calls pieces) p o)

  -- the run of what is left
  abbrev pub remaining_run : List Piece → Runs
  remaining_run pieces frames outcomes turns = behind_pieces pieces (flows Next frames outcomes turns)

  -- what is seen of it
  abbrev pub rest_seen : List Output → Left → List Bool → ℕ → Seen
  rest_seen outputs (Pieces pieces frames) outcomes turns = seen_of outputs (remaining_run pieces frames outcomes turns)
  rest_seen outputs (Records records) outcomes turns = record { fate = Ended; events = []; records = records }

  -- and where it stands, if it has not ended
  abbrev pub rest_halt : Left → List Bool → ℕ → Option Span
  rest_halt (Pieces pieces frames) outcomes turns = halt_of (remaining_run pieces frames outcomes turns)
  rest_halt (Records records) outcomes turns = None
