-- A whole program: its walk, its outputs, labels and qubits, its run, and where a run stands that has not ended. A program is the
-- statements of its top level and the place of the end of its text; `expand` gives the instructions of a gate call.
use Rattle.std.specs.Prelude.{ℕ, zero, suc, ◌+◌, ◌*◌, Bool, true, List, [], ◌∷◌, ◌++◌, reverse, length, pos, Option, Some, None, Result, Ok, Err, codes}
use Rattle.std.specs.Fmt.{decimal}
use Rattle.qq_base.specs.declared.refusal.Refusal.{Refusal}
use Rattle.qq_base.specs.declared.refusal.Span.{Span}
use Rattle.qq_base.specs.declared.run.Record.{Record}
use Rattle.qq_base.specs.declared.run.Record.TheVariants as shown
use Rattle.qq_base.specs.Seen.{Seen, Ending as Fate, Ended, Asked, Turning, Stuck}
use Rattle.word_arith.specs.WordTy.{value_modulo}
use Rattle.qasm_ast.specs.Tree.{Statements}
use Rattle.qasm_types.specs.declared.ty.Ty.{Ty}
use Rattle.qasm_types.specs.declared.ty.Ty.TheVariants as t
use Rattle.qasm_types.specs.Values.{Value, Truth, Register, Number, Count}
use Rattle.const_eval.specs.Refusing.{go_on}
use Rattle.scope_env.specs.OpenScopes.{OpenScopes, Outside, Opened, Sealed, Named, find}
use Rattle.const_eval.specs.Things.{Thing, Variable, cells_in_scope}
use Rattle.const_eval.specs.Binding.{most_calls}
use Rattle.const_eval.specs.Values.{Frames, zero_of}
use Rattle.source_meaning.specs.Library.{predefined}
use Rattle.source_meaning.specs.GateCalls.{Expands}
use Rattle.source_meaning.specs.Walked.{Walked, Walks, qubits_so_far, at_start, after, spend}
use Rattle.source_meaning.specs.Walk.{top_level, walk_at}
use Rattle.source_meaning.specs.Flow.{Flow, Next, Ending, Asking, Spent, Out}
use Rattle.source_meaning.specs.Run.{run_at}

-- ---- the walk of a program

-- The end of a program costs 1 and all global cells, once for each `end` that was walked and once more. It stands at the end of the text.
abbrev pub walk_end_of_text : Span → Walks (Unit {0})
walk_end_of_text place w = spend place ((w.ends + 1) * (1 + cells_in_scope w.scopes)) w

abbrev pub walk_program : Expands → Statements → Span → Walks (Unit {0})
walk_program expand top place = after (walk_at expand most_calls top_level top) (λ _. walk_end_of_text place)

-- what a program has come to at its end, or the first rule that it breaks
abbrev pub walked : Expands → Statements → Span → Result Walked Refusal
walked expand top place = go_on (walk_program expand top place at_start) (λ s. Ok s.1)

-- the rule by which it is refused, if by one
abbrev pub refusal_of_walk : Result Walked Refusal → Option Refusal
refusal_of_walk (Ok w) = None
refusal_of_walk (Err refusal) = Some refusal

-- ---- outputs

pub record Output : Type 0 where
  pub name : List ℕ
  pub type : Ty

-- the variables of the global scope, the newest first
abbrev pub variables : {A : Type 0} → OpenScopes (Thing A) → List Output
variables Outside = []
variables (Opened outer) = variables outer
variables (Sealed seen callers) = variables callers
variables (Named x (Variable type v) rest) = record { name = x; type = type } ∷ variables rest
variables (Named x thing rest) = variables rest

abbrev pub output_named : {A : Type 0} → List ℕ → Option (Thing A) → List Output
output_named x (Some (Variable type v)) = record { name = x; type = type } ∷ []
output_named x _ = []

abbrev pub outputs_named : {A : Type 0} → OpenScopes (Thing A) → List (List ℕ) → List Output
outputs_named scopes [] = []
outputs_named scopes (x ∷ xs) = output_named x (find x scopes) ++ outputs_named scopes xs

-- The outputs: the variables that `output` declares, and where there are none all global variables, in order of declaration.
abbrev pub outputs_from : {A : Type 0} → OpenScopes (Thing A) → List (List ℕ) → List Output
outputs_from scopes [] = reverse (variables scopes)
outputs_from scopes (x ∷ xs) = outputs_named scopes (x ∷ xs)

abbrev pub outputs_of : Result Walked Refusal → List Output
outputs_of (Ok w) = outputs_from w.scopes w.outputs
outputs_of (Err refusal) = []

-- ---- labels: the name, and of a register then its bits by their indexes, each with a zero byte behind it

abbrev pub label : List ℕ → List ℕ
label text = text ++ 0 ∷ []

abbrev pub bit_labels : List ℕ → ℕ → ℕ → List (List ℕ)
bit_labels name k zero = []
bit_labels name k (suc n) = label (name ++ codes "[" ++ decimal k ++ codes "]") ∷ bit_labels name (suc k) n

abbrev pub labels_of_output : List ℕ → Ty → List (List ℕ)
labels_of_output name (t.Bits n) = label name ∷ bit_labels name 0 n
labels_of_output name type = label name ∷ []

abbrev pub labels_of : List Output → List (List ℕ)
labels_of [] = []
labels_of (o ∷ outputs) = labels_of_output o.name o.type ++ labels_of outputs

-- ---- records, whose labels are numbered in their order

abbrev pub bit_records : ℕ → List Bool → List Record
bit_records k [] = []
bit_records k (b ∷ bits) = shown.Bool k b ∷ bit_records (suc k) bits

-- A truth value, a whole number (what passes 2^63 - 1 as its two's complement), the count of an angle, or a register, bit by bit from index 0 on.
abbrev pub records_of_value : ℕ → Value → List Record
records_of_value k (Truth b) = shown.Bool k b ∷ []
records_of_value k (Number z) = shown.Int k (value_modulo true 64 z) ∷ []
records_of_value k (Count c) = shown.Int k (pos c) ∷ []
records_of_value k (Register bits) = shown.Array k (length bits) ∷ bit_records (suc k) bits
records_of_value k _ = []

-- a global that the run has not come to is zero
abbrev pub value_of_output : Ty → Option (Thing Value) → Value
value_of_output type (Some (Variable a x)) = x
value_of_output type _ = zero_of type

-- records, and those that are made from the next label on
abbrev pub then_records : ℕ → List Record → (ℕ → List Record) → List Record
then_records k records more = records ++ more (k + length records)

abbrev pub recorded_from : ℕ → List Output → Frames → List Record
recorded_from k [] frames = []
recorded_from k (o ∷ outputs) frames =
    then_records k (records_of_value k (value_of_output o.type (find o.name frames))) (λ n. recorded_from n outputs frames)

abbrev pub records_of : List Output → Frames → List Record
records_of outputs frames = recorded_from 0 outputs frames

-- ---- what is seen of a run

-- A run that falls off its end, or meets an `end`, is ended. No accepted program is left by another flow.
abbrev pub fate_of : Flow → Fate
fate_of Next = Ended
fate_of Ending = Ended
fate_of (Asking place) = Asked
fate_of (Spent place) = Turning
fate_of _ = Stuck

abbrev pub records_of_flow : Flow → List Output → Frames → List Record
records_of_flow Next outputs frames = records_of outputs frames
records_of_flow Ending outputs frames = records_of outputs frames
records_of_flow _ outputs frames = []

abbrev pub seen_of : List Output → Out → Seen
seen_of outputs o = record { fate = fate_of o.flow; events = o.events; records = records_of_flow o.flow outputs o.frames }

-- where a run stands that has not ended: the statement whose measurement has no outcome, or the loop whose body has no turn
abbrev pub halt_of_flow : Flow → Option Span
halt_of_flow (Asking place) = Some place
halt_of_flow (Spent place) = Some place
halt_of_flow _ = None

abbrev pub halt_of : Out → Option Span
halt_of o = halt_of_flow o.flow

-- ---- a program

module _ (expand : Expands) (top : Statements) (place : Span) where
  abbrev pub outputs : List Output
  outputs = outputs_of (walked expand top place)

  abbrev pub labels : List (List ℕ)
  labels = labels_of outputs

  abbrev pub of_walk : {A : Type 0} → A → (Walked → A) → Result Walked Refusal → A
  of_walk otherwise f (Ok w) = f w
  of_walk otherwise f (Err refusal) = otherwise

  -- the number of qubits: those declared, or the greatest n of `$n` and 1
  abbrev pub width : ℕ
  width = of_walk 0 qubits_so_far (walked expand top place)

  abbrev pub cost : ℕ
  cost = of_walk 0 (λ w. w.cost) (walked expand top place)

  abbrev pub joints : ℕ
  joints = of_walk 0 (λ w. w.joints) (walked expand top place)

  -- the instructions of its gate calls, its reset qubits and its measured qubits, along the walk
  abbrev pub sites : ℕ
  sites = of_walk 0 (λ w. w.sites) (walked expand top place)

  -- the run of its statements
  abbrev pub program_run : List Bool → ℕ → Out
  program_run outcomes turns = run_at expand most_calls top predefined outcomes turns

  -- what is seen of it
  abbrev pub source_run : List Bool → ℕ → Seen
  source_run outcomes turns = seen_of outputs (program_run outcomes turns)

  -- where it stands, if it has not ended
  abbrev pub source_halt : List Bool → ℕ → Option Span
  source_halt outcomes turns = halt_of (program_run outcomes turns)
