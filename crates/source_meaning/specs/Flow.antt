-- How parts of a run are put together: a flow, frames, events, the outcomes that are left and the turns that are left. A turn is spent
-- each time the body of a `while` or of a running `for` ends or continues.
use Rattle.std.specs.Prelude.{ℕ, zero, suc, Bool, true, false, List, [], ◌∷◌, ◌++◌, ℤ, Option}
use Rattle.qq_base.specs.declared.refusal.Span.{Span}
use Rattle.qq_base.specs.declared.run.Event.{Event}
use Rattle.qasm_ast.specs.Tree.{Tree, Name}
use Rattle.qasm_types.specs.declared.ty.Ty.{Ty}
use Rattle.qasm_types.specs.Values.{Number, Value as AValue}
use Rattle.const_eval.specs.Constant.{whole}
use Rattle.scope_env.specs.OpenScopes.{Opened, Named, close}
use Rattle.const_eval.specs.Things.{Thing, Fixed, Counter}
use Rattle.const_eval.specs.Values.{Frames, TypedValue, test}

-- ---- what a run has come to

-- How a part of a run is left. Asking and turning have the place at which the run stands.
pub data Flow : Type 0 where
  Next : Flow
  Broke : Flow
  Continued : Flow
  Returned : (value : Option TypedValue) → Flow
  Ending : Flow
  -- a measurement has no outcome: the statement that measures
  Asking : (place : Span) → Flow
  -- the body of a loop has ended or continued, and no turn is left: the loop
  Spent : (place : Span) → Flow

pub record Out : Type 0 where
  pub flow : Flow
  pub frames : Frames
  pub outcomes : List Bool
  pub turns : ℕ
  pub events : List Event

-- a part of a run: from frames, the outcomes that are left and the turns that are left
abbrev pub Runs : Type 0
Runs = Frames → List Bool → ℕ → Out

abbrev pub flows : Flow → Runs
flows flow frames outcomes turns = record { flow = flow; frames = frames; outcomes = outcomes; turns = turns; events = [] }

-- with other frames
abbrev pub goes_on : (Frames → Frames) → Runs
goes_on f frames outcomes turns = flows Next (f frames) outcomes turns

-- events, and then a run
abbrev pub behind : List Event → Out → Out
behind events o = record o { events = events ++ o.events }

-- ---- one part after another

abbrev pub next_of : Flow → Out → Runs → Out
next_of Next o go = behind o.events (go o.frames o.outcomes o.turns)
next_of _ o go = o

-- it goes on while the flow is next
abbrev pub on_next : Out → Runs → Out
on_next o go = next_of o.flow o go

abbrev pub looped_of : Flow → Out → Runs → Out
looped_of Next o go = behind o.events (go o.frames o.outcomes o.turns)
looped_of Continued o go = behind o.events (go o.frames o.outcomes o.turns)
looped_of Broke o go = record o { flow = Next }
looped_of _ o go = o

-- behind the body of a loop or a copy: it goes on behind next and continue, and break is done
abbrev pub looped : Out → Runs → Out
looped o go = looped_of o.flow o go

-- the innermost scope is closed, whatever the flow
abbrev pub closed : Out → Out
closed o = record o { frames = close o.frames }

-- a part in a scope of its own
abbrev pub in_scope : Runs → Runs
in_scope part frames outcomes turns = closed (part (Opened frames) outcomes turns)

-- ---- turns

-- a turn is spent, and then it goes on
abbrev pub with_turn : Span → Runs → Runs
with_turn place go frames outcomes zero = flows (Spent place) frames outcomes zero
with_turn place go frames outcomes (suc turns) = go frames outcomes turns

-- one of two parts
abbrev pub choose : Bool → Runs → Runs → Runs
choose is_first first second frames outcomes turns = elim is_first [ true ↦ first frames outcomes turns | false ↦ second frames outcomes turns ]

-- A `while` whose condition is false is done. Else its body runs, and `rest` behind it.
abbrev pub while_round : Tree → Runs → Runs → Runs
while_round a body rest frames outcomes turns =
    choose (test frames a) (λ fr os n. looped (body fr os n) rest) (flows Next) frames outcomes turns

-- what is behind the body of a `while`: a turn is spent, and it runs again. The bound is at least the turns that are left.
abbrev pub again : Span → Tree → Runs → ℕ → Runs
again place a body zero = flows (Spent place)
again place a body (suc bound) = with_turn place (while_round a body (again place a body bound))

abbrev pub while_run : Span → Tree → Runs → Runs
while_run place a body frames outcomes turns = while_round a body (again place a body turns) frames outcomes turns

-- the body of a `for` with a value of its variable, in a scope round it
abbrev pub with_value : Name → (ℤ → Thing AValue) → Runs → ℤ → Runs
with_value name thing body z frames outcomes turns = closed (in_scope body (Named name.text (thing z) (Opened frames)) outcomes turns)

-- a running `for`: its body once per value, and a turn is spent behind each
abbrev pub each_turn : Span → (ℤ → Runs) → List ℤ → Runs
each_turn place once [] frames outcomes turns = flows Next frames outcomes turns
each_turn place once (z ∷ zs) frames outcomes turns = looped (once z frames outcomes turns) (with_turn place (each_turn place once zs))

-- a static `for`: its copies in order, with no turn
abbrev pub each_copy : (ℤ → Runs) → List ℤ → Runs
each_copy once [] frames outcomes turns = flows Next frames outcomes turns
each_copy once (z ∷ zs) frames outcomes turns = looped (once z frames outcomes turns) (each_copy once zs)

abbrev pub counter : Ty → ℤ → Thing AValue
counter type z = Counter type (Number z)

abbrev pub fixed : ℤ → Thing AValue
fixed z = Fixed (whole z)
