-- What is due for each task, and which statuses it has.
use Rattle.std.proofs.Common.{◌≡◌, ◌≢◌, inl, refl, sym, ap, ◌∙◌, subst, ℕ, ◌<◌, arith, List, [], length, Some}
use Rattle.qasm_lexer.specs.declared.lexer.TheConstants.{MOST_BYTES}
use Rattle.qir_lexer.specs.declared.lexer.TheConstants.{MOST_BYTES as MOST_QIR_BYTES}
use Rattle.qir_module.specs.Module.{Module}
use Rattle.qir_module.specs.Machine.{machine_run}
use Rattle.qq_base.specs.declared.rule.Rule.TheVariants.{InputTooLong}
use Rattle.qq_base.specs.Seen.{Ending, Ended, Stuck}
use Rattle.qq_base.specs.Seen as ending
use Rattle.qq_tool.specs.declared.status.Status.{Status}
use Rattle.qq_tool.specs.declared.status.Status.TheVariants.{Success, Refused, BadWords, ReadFault, WriteFault, OutOfMemory, Asked, Turning}
use Rattle.qq_tool.specs.declared.command.SourceTask.{SourceTask}
use Rattle.qq_tool.specs.declared.command.SourceTask.TheVariants as s
use Rattle.qq_tool.specs.declared.command.ModuleTask.{ModuleTask}
use Rattle.qq_tool.specs.declared.command.ModuleTask.TheVariants as m
use Rattle.qq_tool.specs.declared.command.Command.{Command as Task}
use Rattle.qq_tool.specs.declared.command.Command.TheVariants as c
use Rattle.qq_tool.specs.Command.{Command, Compile, Check, Verify, Run, source_limit, qir_limit, input_limit}
use Rattle.qq_tool.specs.Answer.{Change, Tells, IsStatusOf}
use Rattle.qq_tool.specs.Due.{Due, DueOfSource, DueOfModule, ok_line}
use Rattle.qq_tool.specs.QirRefused.{ByLength, too_long, text_refusal_line}
use Rattle.qq_tool.specs.Refused.{at_start, refusal_line}
use Rattle.qq_tool.specs.Status.{IsStatusOfFate}
use Rattle.qq_tool.specs.Tasks.{source_command, module_command, task_of, text_of, shows_of, too_long_line, bits_of}
use Rattle.qq_tool.specs.Told.{IsTold}
use Rattle.qq_tool.proofs.Told.{not_told, told_as}

-- ---- what is due

pub source_limit_of : (task : SourceTask) → input_limit (Some (source_command task)) ≡ Some MOST_BYTES
source_limit_of s.Compile = refl
source_limit_of s.Check = refl

pub module_limit_of : (task : ModuleTask) → input_limit (Some (module_command task)) ≡ Some MOST_QIR_BYTES
module_limit_of m.Verify = refl
module_limit_of (m.Run outcomes turns) = refl

pub source_tells : (task : SourceTask) (bytes : List ℕ) (out err : Change) (status : Status) → Tells (DueOfSource (text_of task) bytes) out err status → Tells (Due (Some (source_command task)) bytes) out err status
source_tells s.Compile bytes out err status told = told
source_tells s.Check bytes out err status told = told

pub module_tells : (task : ModuleTask) (bytes : List ℕ) (out err : Change) (status : Status) → Tells (DueOfModule (shows_of task) bytes) out err status → Tells (Due (Some (module_command task)) bytes) out err status
module_tells m.Verify bytes out err status told = told
module_tells (m.Run outcomes turns) bytes out err status told = told

-- an input that is longer than the limit
pub too_long_due : (command : Command) (limit : ℕ) (bytes : List ℕ) → input_limit (Some command) ≡ Some limit → limit < length bytes → Due (Some command) bytes Refused (record { out = []; err = too_long_line command })
too_long_due Compile limit bytes is long = inl (refl, refl, at_start InputTooLong, inl (let same : source_limit ≡ limit = cc in omega (arith, same), refl), refl)
too_long_due Check limit bytes is long = inl (refl, refl, at_start InputTooLong, inl (let same : source_limit ≡ limit = cc in omega (arith, same), refl), refl)
too_long_due Verify limit bytes is long = inl (refl, refl, ByLength (let same : qir_limit ≡ limit = cc in omega (arith, same)) refl)
too_long_due (Run outcomes turns) limit bytes is long = inl (refl, refl, ByLength (let same : qir_limit ≡ limit = cc in omega (arith, same)) refl)

-- ---- which statuses there are

abbrev pub HasStatus : Command → Status → Type 0
HasStatus command status = IsStatusOf (Some command) status × (status ≢ ReadFault)

status_of : (command : Command) (status : Status) → status ≢ BadWords → status ≢ Asked → status ≢ Turning → IsStatusOf (Some command) status
status_of Compile status a b c = (a, b, c)
status_of Check status a b c = (a, b, c)
status_of Verify status a b c = (a, b, c)
status_of (Run outcomes turns) status a b c = a

pub memory_status : (command : Command) → HasStatus command OutOfMemory
memory_status command = (status_of command OutOfMemory (λ e. cc) (λ e. cc) (λ e. cc), (λ e. cc))

pub fault_status : (command : Command) → IsStatusOf (Some command) ReadFault
fault_status command = status_of command ReadFault (λ e. cc) (λ e. cc) (λ e. cc)

pub refused_status : (command : Command) (text : List ℕ) (sink : Change) (status : Status) → IsTold (λ (s : Status). s ≡ Refused) text sink status → HasStatus command status
refused_status command text sink status told = (
  status_of command status (never BadWords (λ e. cc) (λ e. cc) (λ e. cc)) (never Asked (λ e. cc) (λ e. cc) (λ e. cc)) (never Turning (λ e. cc) (λ e. cc) (λ e. cc)),
  never ReadFault (λ e. cc) (λ e. cc) (λ e. cc),
)
  where
    never : (other : Status) → other ≢ Refused → other ≢ WriteFault → other ≢ OutOfMemory → status ≢ other
    never other a b c = not_told (λ (s : Status). s ≡ Refused) status other told.answer a b c

pub source_statuses : (of : Status) (text : List ℕ) (sink : Change) (status : Status) → IsTold (λ (s : Status). s ≡ of) text sink status → of ≢ BadWords → of ≢ Asked → of ≢ Turning → of ≢ ReadFault
    → (status ≢ BadWords) × (status ≢ Asked) × (status ≢ Turning) × (status ≢ ReadFault)
source_statuses of text sink status told a b c d = (
  never BadWords (λ e. a (sym e)) (λ e. cc) (λ e. cc),
  never Asked (λ e. b (sym e)) (λ e. cc) (λ e. cc),
  never Turning (λ e. c (sym e)) (λ e. cc) (λ e. cc),
  never ReadFault (λ e. d (sym e)) (λ e. cc) (λ e. cc),
)
  where
    never : (other : Status) → other ≢ of → other ≢ WriteFault → other ≢ OutOfMemory → status ≢ other
    never other a b c = not_told (λ (s : Status). s ≡ of) status other told.answer a b c

-- the statuses of the task are those of its command
pub source_status : (task : SourceTask) (status : Status) → (status ≢ BadWords) × (status ≢ Asked) × (status ≢ Turning) × (status ≢ ReadFault) → HasStatus (source_command task) status
source_status task status none = (status_of (source_command task) status none.0 none.1 none.2, none.3)

-- ---- the fate of a run

pub some_status : (fate : Ending) → (fate ≡ Stuck → ⊥) → (status : Status) × IsStatusOfFate fate status
some_status Ended free = (Success, refl)
some_status ending.Asked free = (Asked, refl)
some_status ending.Turning free = (Turning, refl)
some_status Stuck free = absurd (free refl)

pub fate_never : (fate : Ending) (other : Status) → other ≢ Success → other ≢ Asked → other ≢ Turning → IsStatusOfFate fate other → ⊥
fate_never Ended other a b c is = a is
fate_never ending.Asked other a b c is = b is
fate_never ending.Turning other a b c is = c is
fate_never Stuck other a b c is = is

-- a status that is none of these is given of no module
pub shows_never : (task : ModuleTask) (of : Module) (text : List ℕ) (other : Status) → other ≢ Success → other ≢ Asked → other ≢ Turning → shows_of task of other text → ⊥
shows_never m.Verify of text other a b c is = a is.0
shows_never (m.Run outcomes turns) of text other a b c is = fate_never (machine_run of (bits_of outcomes.now) turns).fate other a b c is.0

pub shown_status : (task : ModuleTask) (of : Module) (text : List ℕ) (sink : Change) (status : Status) → IsTold (λ (s : Status). shows_of task of s text) text sink status → HasStatus (module_command task) status
shown_status m.Verify of text sink status told = (
  (
    not_told (λ (s : Status). shows_of m.Verify of s text) status BadWords told.answer (λ d. let wrong = d.0 in cc) (λ e. cc) (λ e. cc),
    not_told (λ (s : Status). shows_of m.Verify of s text) status Asked told.answer (λ d. let wrong = d.0 in cc) (λ e. cc) (λ e. cc),
    not_told (λ (s : Status). shows_of m.Verify of s text) status Turning told.answer (λ d. let wrong = d.0 in cc) (λ e. cc) (λ e. cc),
  ),
  not_told (λ (s : Status). shows_of m.Verify of s text) status ReadFault told.answer (λ d. let wrong = d.0 in cc) (λ e. cc) (λ e. cc),
)
shown_status (m.Run outcomes turns) of text sink status told = (
  not_told (λ (s : Status). shows_of (m.Run outcomes turns) of s text) status BadWords told.answer (λ d. shows_never (m.Run outcomes turns) of text BadWords (λ e. cc) (λ e. cc) (λ e. cc) d) (λ e. cc) (λ e. cc),
  not_told (λ (s : Status). shows_of (m.Run outcomes turns) of s text) status ReadFault told.answer (λ d. shows_never (m.Run outcomes turns) of text ReadFault (λ e. cc) (λ e. cc) (λ e. cc) d) (λ e. cc) (λ e. cc),
)

-- ---- a command of the code

pub source_limit_in : (command : Task) (task : SourceTask) → command ≡ c.Source task → input_limit (Some (task_of command)) ≡ Some MOST_BYTES
source_limit_in command task is = ap (λ (t : Task). input_limit (Some (task_of t))) is ∙ source_limit_of task

pub module_limit_in : (command : Task) (task : ModuleTask) → command ≡ c.Module task → input_limit (Some (task_of command)) ≡ Some MOST_QIR_BYTES
module_limit_in command task is = ap (λ (t : Task). input_limit (Some (task_of t))) is ∙ module_limit_of task

pub source_told : (command : Task) (task : SourceTask) (bytes : List ℕ) (out err : Change) (status : Status) → command ≡ c.Source task → Tells (DueOfSource (text_of task) bytes) out err status
    → Tells (Due (Some (task_of command)) bytes) out err status
source_told command task bytes out err status is told = subst (λ (t : Task). Tells (Due (Some (task_of t)) bytes) out err status) (sym is) (source_tells task bytes out err status told)

pub module_told : (command : Task) (task : ModuleTask) (bytes : List ℕ) (out err : Change) (status : Status) → command ≡ c.Module task → Tells (DueOfModule (shows_of task) bytes) out err status
    → Tells (Due (Some (task_of command)) bytes) out err status
module_told command task bytes out err status is told = subst (λ (t : Task). Tells (Due (Some (task_of t)) bytes) out err status) (sym is) (module_tells task bytes out err status told)

pub source_status_in : (command : Task) (task : SourceTask) (status : Status) → command ≡ c.Source task → (status ≢ BadWords) × (status ≢ Asked) × (status ≢ Turning) × (status ≢ ReadFault) → HasStatus (task_of command) status
source_status_in command task status is none = subst (λ (t : Task). HasStatus (task_of t) status) (sym is) (source_status task status none)

pub module_status_in : (command : Task) (task : ModuleTask) (status : Status) → command ≡ c.Module task → HasStatus (module_command task) status → HasStatus (task_of command) status
module_status_in command task status is has = subst (λ (t : Task). HasStatus (task_of t) status) (sym is) has

-- the line of an input that is too long
pub source_line_in : (command : Task) (task : SourceTask) → command ≡ c.Source task → too_long_line (task_of command) ≡ refusal_line (at_start InputTooLong)
source_line_in command task is = ap (λ (t : Task). too_long_line (task_of t)) is ∙ line task
  where
    line : (t : SourceTask) → too_long_line (source_command t) ≡ refusal_line (at_start InputTooLong)
    line s.Compile = refl
    line s.Check = refl

pub module_line_in : (command : Task) (task : ModuleTask) → command ≡ c.Module task → too_long_line (task_of command) ≡ text_refusal_line too_long
module_line_in command task is = ap (λ (t : Task). too_long_line (task_of t)) is ∙ line task
  where
    line : (t : ModuleTask) → too_long_line (module_command t) ≡ text_refusal_line too_long
    line m.Verify = refl
    line (m.Run outcomes turns) = refl

-- a line told as the same line
pub told_line : (due : Status → Type 0) (text line : List ℕ) (sink : Change) (status : Status) → line ≡ text → IsTold due text sink status → IsTold due line sink status
told_line due text line sink status same told = subst (λ (t : List ℕ). IsTold due t sink status) (sym same) told

-- ---- what is given of a module

abbrev IsGiven : ModuleTask → Module → Change → Status → Type 0
IsGiven task of sink status = (text : List ℕ) × (due : Status) × shows_of task of due text × IsTold (λ (s : Status). shows_of task of s text) text sink status

pub verify_given : (task : ModuleTask) (of : Module) (sink : Change) (status : Status) → task ≡ m.Verify → IsTold (λ (s : Status). s ≡ Success) ok_line sink status
    → (text : List ℕ) × (due : Status) × shows_of task of due text × IsTold (λ (s : Status). shows_of task of s text) text sink status
verify_given task of sink status is told =
    subst (λ (t : ModuleTask). IsGiven t of sink status) (sym is)
    (ok_line, Success, (refl, refl), told_as (λ (s : Status). s ≡ Success) (λ (s : Status). shows_of m.Verify of s ok_line) ok_line sink status (λ s e. (e, refl)) (λ s e. e.0) told)

pub run_given : (task run : ModuleTask) (of : Module) (fate : Ending) (text : List ℕ) (sink : Change) (status : Status) → task ≡ run
    → ((s : Status) → IsStatusOfFate fate s → shows_of run of s text) → ((s : Status) → shows_of run of s text → IsStatusOfFate fate s)
    → IsTold (IsStatusOfFate fate) text sink status → ((s : Status) × IsStatusOfFate fate s)
    → (text : List ℕ) × (due : Status) × shows_of task of due text × IsTold (λ (s : Status). shows_of task of s text) text sink status
run_given task run of fate text sink status is to from told due =
    subst (λ (t : ModuleTask). IsGiven t of sink status) (sym is)
    (text, due.0, to due.0 due.1, told_as (IsStatusOfFate fate) (λ (s : Status). shows_of run of s text) text sink status to from told)
