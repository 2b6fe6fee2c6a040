-- Behind a record there are only records, in a module in which records stand only in front of the return.
use Rattle.std.proofs.Common.{◌≡◌, ℕ, ◌+◌, Bool, true, false, not, ◌||◌, if◌then◌else◌, List, [], ◌∷◌, ◌++◌, length, map, take, drop, slice_get, Option, Some, None, refl, sym, ap, ◌∙◌, subst, append_assoc, take-append-drop}
use Rattle.std.specs.List.{list_any, AllByRecursion}
use Rattle.qq_base.specs.declared.run.Record as shown
use Rattle.qq_base.specs.declared.run.Step.{Step}
use Rattle.qq_base.specs.declared.run.Step.TheVariants.{Event, Record, Ask, Turn, Done}
use Rattle.qq_base.specs.Seen.{Seen, Ended, only}
use Rattle.qir_module.specs.declared.instruction.Arg.{Arg}
use Rattle.qir_module.specs.declared.instruction.Instr.{Instr}
use Rattle.qir_module.specs.declared.instruction.Instr.TheVariants.{Op, Zext, Trunc, Select, Call}
use Rattle.qir_module.specs.declared.instruction.Last.{Last}
use Rattle.qir_module.specs.declared.instruction.Last.TheVariants.{Jump, Branch, Return}
use Rattle.qir_module.specs.declared.block.Block.{Block}
use Rattle.qir_module.specs.Module.{Module}
use Rattle.qir_module.specs.Functions.{Task, Initialize, ReadResult, ArrayRecord, BoolRecord, IntRecord, ResetQubit, MeasureQubit, ApplyGate, Row, row_of}
use Rattle.qir_module.specs.Machine.{State, Effect, Goes, Does, Shows, Measures, Fails, Given, WordGiven, TruthGiven, NullGiven, IdGiven, LabelGiven, Later, behind, stored, truth_read, task_effect, given_effect, row_effect, effect_of, all_given, op_value, extended, truncated, selected, truth_in, word_in, value_in, run_rest}
use Rattle.qir_module.specs.Machine as machine
use Rattle.qir_module.specs.Numbered.{task_of}
use Rattle.qir_module.specs.Spots.{Item, ThePhi, TheInstr, TheLast, items_in}
use Rattle.qir_module.specs.Passes.{IsKept, records_kept, at_first_item, item_records_kept, some_returns, is_record, is_record_task, returns}
use Rattle.qir_machine.specs.declared.value.Value.{Value}
use Rattle.qir_machine.specs.Remaining.{Run, remaining_in, remaining, state_in, stored_in}
use Rattle.qir_machine.specs.Steps.{Remains, RecordsComeLast}
use Rattle.qir_machine.specs.Performed.{IsPerformed}
use Rattle.qir_machine.proofs.SpotFacts.{and_right, spot_at, kept_at}
use Rattle.qir_machine.proofs.UniqueTypes.{any_left, any_right, or_left}
use Rattle.qir_machine.proofs.Runs.{behind_run, drop_next}

-- a step that may have been taken
abbrev pub IsLast : Option Step → Remains → Type 0
IsLast None new = Unit {0}
IsLast (Some step) new = RecordsComeLast step new

-- ---- effects

-- the effect is a record
abbrev Records : Effect → Type 0
Records (Shows one s) = Unit {0}
Records _ = ⊥

-- nothing but a record is done
abbrev IsQuiet : Effect → Type 0
IsQuiet (Shows one s) = Unit {0}
IsQuiet Fails = Unit {0}
IsQuiet _ = ⊥

-- what ends at once
abbrev at_once : Later
at_once s outcomes turns = only Ended

records_of : (old new : Seen) (one : shown.Record) → old.records ≡ [] → new.records ≡ [] → old ≡ record { fate = new.fate; events = new.events; records = one ∷ new.records } → ⊥
records_of old new one none others same = let seen = ap (λ (seen : Seen). seen.records) same in cc

performed_record : (effect : Effect) (given : Option Bool) (one : shown.Record) (s : State) → IsPerformed effect at_once given (Some (Record one)) s → Records effect
performed_record (Goes t) given one s performed = records_of (only Ended) (only Ended) one refl refl (performed [] 0)
performed_record (Does event t) given one s performed = records_of (behind (Does event t) at_once [] 0) (only Ended) one refl refl (performed [] 0)
performed_record (Shows other t) given one s performed = tt
performed_record (Measures qubit result t) given one s performed = records_of (behind (Measures qubit result t) at_once [] 0) (only Ended) one refl refl (performed [] 0)
performed_record Fails given one s performed = records_of (behind Fails at_once [] 0) (only Ended) one refl refl (performed [] 0)

quiet_events : (effect : Effect) (later : Later) (outcomes : List Bool) (turns : ℕ) → IsQuiet effect → ((s : State) → (later s outcomes turns).events ≡ []) → (behind effect later outcomes turns).events ≡ []
quiet_events (Shows one s) later outcomes turns quiet none = none s
quiet_events Fails later outcomes turns quiet none = refl
quiet_events (Goes s) later outcomes turns quiet none = absurd quiet
quiet_events (Does event s) later outcomes turns quiet none = absurd quiet
quiet_events (Measures qubit result s) later outcomes turns quiet none = absurd quiet

-- ---- instructions

stored_none : (s : State) (r : ℕ) (v : Option machine.Value) → Records (stored s r v) → ⊥
stored_none s r None records = records
stored_none s r (Some v) records = records

read_none : (s : State) (r : ℕ) (b : Option Bool) → Records (truth_read s r b) → ⊥
read_none s r None records = records
read_none s r (Some b) records = records

task_records : (s : State) (task : Task) (register : Option ℕ) (args : List Given) → Records (task_effect s task register args) → is_record_task (Some task) ≡ true
task_records s ArrayRecord register args records = refl
task_records s BoolRecord register args records = refl
task_records s IntRecord register args records = refl
task_records s Initialize None (NullGiven ∷ []) records = absurd records
task_records s Initialize register args records = absurd records
task_records s ReadResult (Some r) (IdGiven k ∷ []) records = absurd (read_none s r (s.results k) records)
task_records s ReadResult register args records = absurd records
task_records s ResetQubit None (IdGiven q ∷ []) records = absurd records
task_records s ResetQubit register args records = absurd records
task_records s MeasureQubit None (IdGiven q ∷ IdGiven k ∷ []) records = absurd records
task_records s MeasureQubit register args records = absurd records
task_records s (ApplyGate gate) None args records = absurd records
task_records s (ApplyGate gate) register args records = absurd records

task_quiet : (s : State) (task : Task) (register : Option ℕ) (args : List Given) → is_record_task (Some task) ≡ true → IsQuiet (task_effect s task register args)
task_quiet s ArrayRecord None (WordGiven z ∷ LabelGiven l ∷ []) is = tt
task_quiet s ArrayRecord register args is = tt
task_quiet s BoolRecord None (TruthGiven b ∷ LabelGiven l ∷ []) is = tt
task_quiet s BoolRecord register args is = tt
task_quiet s IntRecord None (WordGiven z ∷ LabelGiven l ∷ []) is = tt
task_quiet s IntRecord register args is = tt
task_quiet s Initialize register args is = absurd (let wrong : false ≡ true = is in cc)
task_quiet s ReadResult register args is = absurd (let wrong : false ≡ true = is in cc)
task_quiet s ResetQubit register args is = absurd (let wrong : false ≡ true = is in cc)
task_quiet s MeasureQubit register args is = absurd (let wrong : false ≡ true = is in cc)
task_quiet s (ApplyGate gate) register args is = absurd (let wrong : false ≡ true = is in cc)

given_records : (s : State) (task : Task) (register : Option ℕ) (args : Option (List Given)) → Records (given_effect s task register args) → is_record_task (Some task) ≡ true
given_records s task register None records = absurd records
given_records s task register (Some args) records = task_records s task register args records

given_quiet : (s : State) (task : Task) (register : Option ℕ) (args : Option (List Given)) → is_record_task (Some task) ≡ true → IsQuiet (given_effect s task register args)
given_quiet s task register None is = tt
given_quiet s task register (Some args) is = task_quiet s task register args is

or_false : (b : Bool) → (b || false) ≡ b
or_false true = refl
or_false false = refl

row_records : (labels : ℕ) (s : State) (row : Option Row) (register : Option ℕ) (args : List Arg) → Records (row_effect labels s row register args) → is_record_task (task_of row) ≡ true
row_records labels s None register args records = absurd records
row_records labels s (Some row) register args records = given_records s row.task register (all_given labels s row.takes args) records

row_quiet : (labels : ℕ) (s : State) (row : Option Row) (register : Option ℕ) (args : List Arg) → is_record_task (task_of row) ≡ true → IsQuiet (row_effect labels s row register args)
row_quiet labels s None register args is = tt
row_quiet labels s (Some row) register args is = given_quiet s row.task register (all_given labels s row.takes args) is

-- an instruction with the effect of a record is one
is_recording : (labels : ℕ) (s : State) (instr : Instr) → Records (effect_of labels s instr) → is_record (TheInstr instr) ≡ true
is_recording labels s (Op r op truth left right) records = absurd (stored_none s r (op_value s op truth left right) records)
is_recording labels s (Zext r from) records = absurd (stored_none s r (extended (truth_in s from)) records)
is_recording labels s (Trunc r from) records = absurd (stored_none s r (truncated (word_in s from)) records)
is_recording labels s (Select r truth test chosen other) records = absurd (stored_none s r (selected (truth_in s test) (value_in s truth chosen) (value_in s truth other)) records)
is_recording labels s (Call register function args) records = or_false (is_record_task (task_of (row_of function.0))) ∙ row_records labels s (row_of function.0) register args records

is_quiet : (labels : ℕ) (s : State) (instr : Instr) → is_record (TheInstr instr) ≡ true → IsQuiet (effect_of labels s instr)
is_quiet labels s (Op r op truth left right) is = absurd (let wrong : false ≡ true = is in cc)
is_quiet labels s (Zext r from) is = absurd (let wrong : false ≡ true = is in cc)
is_quiet labels s (Trunc r from) is = absurd (let wrong : false ≡ true = is in cc)
is_quiet labels s (Select r truth test chosen other) is = absurd (let wrong : false ≡ true = is in cc)
is_quiet labels s (Call register function args) is = row_quiet labels s (row_of function.0) register args (sym (or_false (is_record_task (task_of (row_of function.0)))) ∙ is)

-- ---- records in front of a return

abbrev IsRecording : Instr → Type 0
IsRecording instr = is_record (TheInstr instr) ≡ true

no_events : (labels : ℕ) (jump : ℕ → Later) (body : List Instr) (last : Last) (s : State) (outcomes : List Bool) (turns : ℕ) → AllByRecursion IsRecording body → returns last ≡ true
    → (run_rest labels jump body last s outcomes turns).events ≡ []
no_events labels jump [] (Return code) s outcomes turns all is = refl
no_events labels jump [] (Jump to) s outcomes turns all is = absurd (let wrong : false ≡ true = is in cc)
no_events labels jump [] (Branch test first second) s outcomes turns all is = absurd (let wrong : false ≡ true = is in cc)
no_events labels jump (instr ∷ body) last s outcomes turns all is =
    quiet_events (effect_of labels s instr) (run_rest labels jump body last) outcomes turns (is_quiet labels s instr all.0) (λ t. no_events labels jump body last t outcomes turns all.1 is)

map-middle : (front : List Instr) (instr : Instr) (back : List Instr) → map TheInstr (front ++ instr ∷ back) ≡ map TheInstr front ++ TheInstr instr ∷ map TheInstr back
map-middle [] instr back = refl
map-middle (x ∷ front) instr back = ap (λ (is : List Item). TheInstr x ∷ is) (map-middle front instr back)

-- what the rule says of an instruction where it stands
kept_instruction : (m : Module) (k : ℕ) (b : Block) (front : List Instr) (instr : Instr) (back : List Instr) → IsKept m records_kept → slice_get m.blocks k ≡ Some b → b.body ≡ front ++ instr ∷ back
    → (if is_record (TheInstr instr) then returns b.last else not (list_any is_record (map ThePhi b.phis ++ map TheInstr front))) ≡ true
kept_instruction m k b front instr back kept found body =
    let before = map ThePhi b.phis ++ map TheInstr front in
    let behind = map TheInstr back ++ TheLast b.last ∷ [] in
    let items : items_in b ≡ before ++ TheInstr instr ∷ behind =
    ap (λ (is : List Instr). (map ThePhi b.phis ++ map TheInstr is) ++ TheLast b.last ∷ []) body
    ∙ ap (λ (is : List Item). (map ThePhi b.phis ++ is) ++ TheLast b.last ∷ []) (map-middle front instr back)
    ∙ ap (λ (is : List Item). is ++ TheLast b.last ∷ []) (sym (append_assoc (map ThePhi b.phis) (map TheInstr front) (TheInstr instr ∷ map TheInstr back)))
    ∙ append_assoc before (TheInstr instr ∷ map TheInstr back) (TheLast b.last ∷ []) in
    let spot = spot_at k b before (TheInstr instr) in
    and_right (at_first_item spot (some_returns m.blocks)) (item_records_kept m spot (TheInstr instr)) (kept_at m records_kept k b before (TheInstr instr) behind kept found items)

chosen_true : (b c d : Bool) → b ≡ true → (if b then c else d) ≡ true → c ≡ true
chosen_true true c d is chosen = chosen
chosen_true false c d is chosen = absurd (let wrong : false ≡ true = is in cc)

chosen_never : (b c d : Bool) → d ≡ true → (if b then c else not d) ≡ true → b ≡ true
chosen_never true c d is chosen = refl
chosen_never false c true is chosen = absurd (let wrong : false ≡ true = chosen in cc)
chosen_never false c false is chosen = absurd (let wrong : false ≡ true = is in cc)

-- behind a record there are only records
all_recording : (m : Module) (k : ℕ) (b : Block) (front back : List Instr) → IsKept m records_kept → slice_get m.blocks k ≡ Some b → b.body ≡ front ++ back → list_any is_record (map TheInstr front) ≡ true
    → AllByRecursion IsRecording back
all_recording m k b front [] kept found body some = tt
all_recording m k b front (instr ∷ back) kept found body some = (
  chosen_never (is_record (TheInstr instr)) (returns b.last) (list_any is_record (map ThePhi b.phis ++ map TheInstr front)) (any_right is_record (map ThePhi b.phis) (map TheInstr front) some)
      (kept_instruction m k b front instr back kept found body),
  all_recording m k b (front ++ instr ∷ []) back kept found (body ∙ sym (append_assoc front (instr ∷ []) back)) (ap (list_any is_record) (map-middle front instr []) ∙ any_left is_record (map TheInstr front) (TheInstr instr ∷ []) some),
)

behind_record : (run : Run) (b : Block) (instr : Instr) (registers : List (Option Value)) (results : List (Option Bool)) → IsKept run.of records_kept
    → slice_get run.of.blocks run.block ≡ Some b → slice_get b.body run.item ≡ Some instr → IsRecording instr
    → (outcomes : List Bool) (turns : ℕ) → (remaining (behind_run run registers results) outcomes turns).events ≡ []
behind_record run b instr registers results kept here next is outcomes turns =
    let front = take run.item b.body in
    let back = drop (run.item + 1) b.body in
    let body : b.body ≡ front ++ instr ∷ back = sym (take-append-drop run.item b.body) ∙ ap (λ (rest : List Instr). front ++ rest) (drop_next b.body run.item instr next) in
    let some : list_any is_record (map TheInstr (front ++ instr ∷ [])) ≡ true = has_record front in
    let all = all_recording run.of run.block b (front ++ instr ∷ []) back kept here (body ∙ sym (append_assoc front (instr ∷ []) back)) some in
    let ends = chosen_true (is_record (TheInstr instr)) (returns b.last) _ is (kept_instruction run.of run.block b front instr back kept here body) in
    ap (λ (o : Option Block). (remaining_in (behind_run run registers results) o outcomes turns).events) here
    ∙ no_events (length run.of.labels) _ back b.last (stored_in registers results) outcomes turns all ends
  where
    has_record : (xs : List Instr) → list_any is_record (map TheInstr (xs ++ instr ∷ [])) ≡ true
    has_record [] = or_left (is_record (TheInstr instr)) false is
    has_record (x ∷ xs) = any_right is_record (TheInstr x ∷ []) (map TheInstr (xs ++ instr ∷ [])) (has_record xs)

pub last_behind : (run : Run) (b : Block) (instr : Instr) (effect : Effect) (given : Option Bool) (step : Option Step) (registers : List (Option Value)) (results : List (Option Bool)) → IsKept run.of records_kept
    → slice_get run.of.blocks run.block ≡ Some b → slice_get b.body run.item ≡ Some instr
    → effect ≡ effect_of (length run.of.labels) (state_in run) instr
    → ((later : Later) → IsPerformed effect later given step (stored_in registers results))
    → IsLast step (remaining (behind_run run registers results))
last_behind run b instr effect given None registers results kept here next is performed = tt
last_behind run b instr effect given (Some (Event event)) registers results kept here next is performed = tt
last_behind run b instr effect given (Some Ask) registers results kept here next is performed = tt
last_behind run b instr effect given (Some Turn) registers results kept here next is performed = tt
last_behind run b instr effect given (Some Done) registers results kept here next is performed = tt
last_behind run b instr effect given (Some (Record one)) registers results kept here next is performed =
    let records = subst Records is (performed_record effect given one (stored_in registers results) (performed at_once)) in
    behind_record run b instr registers results kept here next (is_recording (length run.of.labels) (state_in run) instr records)
