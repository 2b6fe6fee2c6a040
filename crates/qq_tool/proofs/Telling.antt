-- What was read of the input, and which status a text never has.
use Rattle.std.proofs.Common.{◌≡◌, ◌≢◌, ℕ, ◌<◌, ◌≤◌, List, [], ◌++◌, length, Option, Some, None, IsNone, refl, sym, ap, ◌∙◌, subst, inl, inr, arith, append-nil}
use Rattle.std.proofs.lemmas.List.{length-append}
use Rattle.std.specs.Io.KnownBytes.{Consumes, IsAtEnd}
use Rattle.qir_module.specs.Machine.{machine_run}
use Rattle.qir_module.specs.Module.{Module}
use Rattle.qq_base.specs.Seen.{Ending, Ended, Stuck}
use Rattle.qq_base.specs.Seen as ending
use Rattle.qq_base.specs.declared.refusal.Refusal.{Refusal}
use Rattle.qq_tool.specs.declared.status.Status.{Status}
use Rattle.qq_tool.specs.declared.status.Status.TheVariants.{Success, Refused, BadWords, ReadFault, WriteFault, OutOfMemory, Asked, Turning}
use Rattle.qq_tool.specs.Command.{Command, Compile, Check, Verify, Run, input_limit, TakesSource, OfCompile, OfCheck, TakesModule, OfVerify, OfRun}
use Rattle.qq_tool.specs.Status.{code_of, IsStatusOfFate}
use Rattle.qq_tool.specs.QirRefused.{IsQirRefused, IsPassing, AreApart}
use Rattle.qq_tool.specs.Refused.{IsRefused}
use Rattle.qq_tool.specs.Thin.{Thin, IsThinText}
use Rattle.qq_tool.specs.Answer.{IsAnswer, IsInput, IsReading, IsRead, Change, IsDueStatus, IsShownStatus, IsSuccess, IsAsked, IsTurning}
use Rattle.qq_tool.specs.Compiled.{IsCompiled}
use Rattle.qq_tool.specs.Due.{Texts, Due, DueOfSource, DueOfModule, IsShownRun, ok_line}
use Rattle.qq_tool.proofs.Lengths.{not_refused}

-- ---- what was read

-- an input that was read to its end is what came
pub whole_input : (before after : Option (List ℕ)) (came bytes : List ℕ) → Consumes before after came → IsAtEnd after → before ≡ Some bytes → came ≡ bytes
whole_input None after came bytes gone end same = cc
whole_input (Some xs) None came bytes gone end same = absurd gone
whole_input (Some xs) (Some ys) came bytes gone end same =
    let all : xs ≡ came ++ [] = gone ∙ ap (λ rest. came ++ rest) end in
    let told : xs ≡ bytes = cc in
    sym (append-nil came) ∙ sym all ∙ told

-- nothing is left of it
pub nothing_left : (before after : Option (List ℕ)) (came bytes : List ℕ) → Consumes before after came → IsAtEnd after → before ≡ Some bytes → after ≡ Some []
nothing_left None after came bytes gone end same = cc
nothing_left (Some xs) None came bytes gone end same = absurd gone
nothing_left (Some xs) (Some ys) came bytes gone end same = ap Some end

-- what came is no longer than the input, and the rest is left
pub front_gone : (before after : Option (List ℕ)) (came bytes : List ℕ) → Consumes before after came → before ≡ Some bytes → (rest : List ℕ) × (bytes ≡ came ++ rest) × (after ≡ Some rest)
front_gone None after came bytes gone same = cc
front_gone (Some xs) None came bytes gone same = absurd gone
front_gone (Some xs) (Some ys) came bytes gone same = let told : xs ≡ bytes = cc in (ys, sym told ∙ gone, refl)

-- ---- every command reads

pub reads : (command : Command) → IsReading (Some command)
reads Compile = refl
reads Check = refl
reads Verify = refl
reads (Run outcomes turns) = refl

pub reads_some : (command : Command) (words : Option Command) → words ≡ Some command → IsNone (input_limit words) → ⊥
reads_some command words e none = let reading : IsReading (Some command) = reads command in let limit : input_limit words ≡ input_limit (Some command) = ap input_limit e in cc

pub input_told : (command : Command) (left : Option (List ℕ)) (bytes : List ℕ) → IsInput (Some command) left bytes → left ≡ Some bytes
input_told command left bytes same = same (reads command)

pub same_limit : (limit most : ℕ) (of : Option ℕ) → of ≡ Some limit → of ≡ Some most → limit ≡ most
same_limit limit most of p q = cc

-- an input that was read to its end, and is no longer than the limit
pub read_whole : (limit : ℕ) (of : Option ℕ) (before after : Option (List ℕ)) (came : List ℕ) → of ≡ Some limit → Consumes before after came → IsAtEnd after → length came ≤ limit
    → (most : ℕ) (bytes : List ℕ) → of ≡ Some most → before ≡ Some bytes → IsRead most bytes after
read_whole limit of before after came is gone end within most bytes same_most same = record {
  whole = λ _. nothing_left before after came bytes gone end same;
  front = λ long. absurd (omega (arith, long, within, same_limit limit most of is same_most, ap length (whole_input before after came bytes gone end same)));
}

-- an input of which more came than the limit
pub read_front : (limit : ℕ) (of : Option ℕ) (before after : Option (List ℕ)) (came : List ℕ) → of ≡ Some limit → Consumes before after came → limit < length came
    → (most : ℕ) (bytes : List ℕ) → of ≡ Some most → before ≡ Some bytes → IsRead most bytes after
read_front limit of before after came is gone long most bytes same_most same =
    let rest = front_gone before after came bytes gone same in
    record {
      whole = λ short. absurd (omega (arith, short, long, same_limit limit most of is same_most, ap length rest.1, length-append came rest.0));
      front = λ _. (came, rest.0, rest.1, omega (arith, long, same_limit limit most of is same_most), rest.2);
    }

-- ---- accepted and refused

-- the texts that are due at a status other than those of a fault
due_of : (command : Command) (input out err : Change) (status : Status) (bytes : List ℕ) → IsAnswer (Some command) input out err status
    → input.before ≡ Some bytes → IsDueStatus status → (texts : Texts) × Due (Some command) bytes status texts
due_of command input out err status bytes answer same settled = let told = (answer.tells bytes (λ _. same)).done settled in (told.0, told.1)

settled_as : (status other : Status) → status ≡ other → other ≢ ReadFault → other ≢ WriteFault → other ≢ OutOfMemory → IsDueStatus status
settled_as status other e a b c = (λ h. a (sym e ∙ h), λ h. b (sym e ∙ h), λ h. c (sym e ∙ h))

source_accepts : (fits : Thin → List ℕ → Type 0) (bytes : List ℕ) (status : Status) (texts : Texts) → DueOfSource fits bytes status texts → IsThinText bytes → status ≢ Refused
source_accepts fits bytes status texts (inl refusal) thin is = not_refused bytes refusal.2 thin refusal.3
source_accepts fits bytes status texts (inr text) thin is = let none = text.0 in cc

source_refuses : (fits : Thin → List ℕ → Type 0) (bytes : List ℕ) (status : Status) (texts : Texts) (refusal : Refusal) → DueOfSource fits bytes status texts → IsRefused bytes refusal → status ≢ Success
source_refuses fits bytes status texts refusal (inl other) refused is = let none = other.0 in cc
source_refuses fits bytes status texts refusal (inr text) refused is = not_refused bytes refusal (text.2, text.3) refused

accepts_it : (command : Command) (input out err : Change) (status : Status) → TakesSource command → IsAnswer (Some command) input out err status
    → (bytes : List ℕ) → input.before ≡ Some bytes → IsThinText bytes → status ≢ Refused
accepts_it Compile input out err status OfCompile answer bytes same thin is =
    let due = due_of Compile input out err status bytes answer same (settled_as status Refused is (λ h. cc) (λ h. cc) (λ h. cc)) in
    source_accepts IsCompiled bytes status due.0 due.1 thin is
accepts_it Check input out err status OfCheck answer bytes same thin is =
    let due = due_of Check input out err status bytes answer same (settled_as status Refused is (λ h. cc) (λ h. cc) (λ h. cc)) in
    source_accepts (λ p text. text ≡ ok_line) bytes status due.0 due.1 thin is
accepts_it Verify input out err status takes answer bytes same thin is = elim takes [ ]
accepts_it (Run outcomes turns) input out err status takes answer bytes same thin is = elim takes [ ]

refuses_it : (command : Command) (input out err : Change) (status : Status) → TakesSource command → IsAnswer (Some command) input out err status
    → (bytes : List ℕ) (refusal : Refusal) → input.before ≡ Some bytes → IsRefused bytes refusal → status ≢ Success
refuses_it Compile input out err status OfCompile answer bytes refusal same refused is =
    let due = due_of Compile input out err status bytes answer same (settled_as status Success is (λ h. cc) (λ h. cc) (λ h. cc)) in
    source_refuses IsCompiled bytes status due.0 refusal due.1 refused is
refuses_it Check input out err status OfCheck answer bytes refusal same refused is =
    let due = due_of Check input out err status bytes answer same (settled_as status Success is (λ h. cc) (λ h. cc) (λ h. cc)) in
    source_refuses (λ p text. text ≡ ok_line) bytes status due.0 refusal due.1 refused is
refuses_it Verify input out err status takes answer bytes refusal same refused is = elim takes [ ]
refuses_it (Run outcomes turns) input out err status takes answer bytes refusal same refused is = elim takes [ ]

-- ---- passing and broken

-- the text is refused, or what is given of it is given of a module that passes
module_accepts : (gives : Module → Status → List ℕ → Type 0) (bytes : List ℕ) (status : Status) (texts : Texts) (m : Module) → AreApart → ((of : Module) → gives of Refused texts.out → ⊥)
    → DueOfModule gives bytes status texts → IsPassing bytes m → status ≢ Refused
module_accepts gives bytes status texts m apart none (inl refusal) passing is = apart bytes m texts.err passing refusal.2
module_accepts gives bytes status texts m apart none (inr given) passing is = none given.1 (subst (λ (s : Status). gives given.1 s texts.out) is given.3)

module_refuses : (gives : Module → Status → List ℕ → Type 0) (bytes : List ℕ) (status : Status) (texts : Texts) (line : List ℕ) → AreApart
    → DueOfModule gives bytes status texts → IsQirRefused bytes line → IsShownStatus status → ⊥
module_refuses gives bytes status texts line apart (inl refusal) refused IsSuccess = let none = refusal.0 in cc
module_refuses gives bytes status texts line apart (inl refusal) refused IsAsked = let none = refusal.0 in cc
module_refuses gives bytes status texts line apart (inl refusal) refused IsTurning = let none = refusal.0 in cc
module_refuses gives bytes status texts line apart (inr given) refused shown = apart bytes given.1 line given.2 refused

-- no status of a refusal, or of a failure, is given of a module
verify_never : (of : Module) (text : List ℕ) → (Refused ≡ Success) × (text ≡ ok_line) → ⊥
verify_never of text given = let wrong = given.0 in cc

run_never : (fate : Ending) → IsStatusOfFate fate Refused → ⊥
run_never Ended is = cc
run_never ending.Asked is = cc
run_never ending.Turning is = cc
run_never Stuck is = is

passes_it : (command : Command) (input out err : Change) (status : Status) → AreApart → TakesModule command → IsAnswer (Some command) input out err status
    → (bytes : List ℕ) (m : Module) → input.before ≡ Some bytes → IsPassing bytes m → status ≢ Refused
passes_it Verify input out err status apart OfVerify answer bytes m same passing is =
    let due = due_of Verify input out err status bytes answer same (settled_as status Refused is (λ h. cc) (λ h. cc) (λ h. cc)) in
    module_accepts (λ m s text. (s ≡ Success) × (text ≡ ok_line)) bytes status due.0 m apart (λ of. verify_never of (due.0).out) due.1 passing is
passes_it (Run outcomes turns) input out err status apart (OfRun outcomes' turns') answer bytes m same passing is =
    let due = due_of (Run outcomes turns) input out err status bytes answer same (settled_as status Refused is (λ h. cc) (λ h. cc) (λ h. cc)) in
    module_accepts (λ m s text. IsShownRun m.labels (machine_run m outcomes turns) s text) bytes status due.0 m apart (λ of given. run_never (machine_run of outcomes turns).fate given.0) due.1 passing is
passes_it Compile input out err status apart takes answer bytes m same passing is = elim takes [ ]
passes_it Check input out err status apart takes answer bytes m same passing is = elim takes [ ]

breaks_it : (command : Command) (input out err : Change) (status : Status) → AreApart → TakesModule command → IsAnswer (Some command) input out err status
    → (bytes line : List ℕ) → input.before ≡ Some bytes → IsQirRefused bytes line → IsShownStatus status → IsDueStatus status → ⊥
breaks_it Verify input out err status apart OfVerify answer bytes line same refused shown settles =
    let due = due_of Verify input out err status bytes answer same settles in
    module_refuses (λ m s text. (s ≡ Success) × (text ≡ ok_line)) bytes status due.0 line apart due.1 refused shown
breaks_it (Run outcomes turns) input out err status apart (OfRun outcomes' turns') answer bytes line same refused shown settles =
    let due = due_of (Run outcomes turns) input out err status bytes answer same settles in
    module_refuses (λ m s text. IsShownRun m.labels (machine_run m outcomes turns) s text) bytes status due.0 line apart due.1 refused shown
breaks_it Compile input out err status apart takes answer bytes line same refused shown settles = elim takes [ ]
breaks_it Check input out err status apart takes answer bytes line same refused shown settles = elim takes [ ]

shown_settles : (status : Status) → IsShownStatus status → IsDueStatus status
shown_settles status IsSuccess = ((λ h. cc), (λ h. cc), (λ h. cc))
shown_settles status IsAsked = ((λ h. cc), (λ h. cc), (λ h. cc))
shown_settles status IsTurning = ((λ h. cc), (λ h. cc), (λ h. cc))

-- ---- the same of the words, and of the number of the status

number_refused : (status : Status) → code_of status ≡ 1 → status ≡ Refused
number_refused Success e = absurd (omega (arith, e))
number_refused Refused e = refl
number_refused BadWords e = absurd (omega (arith, e))
number_refused ReadFault e = absurd (omega (arith, e))
number_refused WriteFault e = absurd (omega (arith, e))
number_refused OutOfMemory e = absurd (omega (arith, e))
number_refused Asked e = absurd (omega (arith, e))
number_refused Turning e = absurd (omega (arith, e))

number_success : (status : Status) → code_of status ≡ 0 → status ≡ Success
number_success Success e = refl
number_success Refused e = absurd (omega (arith, e))
number_success BadWords e = absurd (omega (arith, e))
number_success ReadFault e = absurd (omega (arith, e))
number_success WriteFault e = absurd (omega (arith, e))
number_success OutOfMemory e = absurd (omega (arith, e))
number_success Asked e = absurd (omega (arith, e))
number_success Turning e = absurd (omega (arith, e))

number_asked : (status : Status) → code_of status ≡ 7 → status ≡ Asked
number_asked Success e = absurd (omega (arith, e))
number_asked Refused e = absurd (omega (arith, e))
number_asked BadWords e = absurd (omega (arith, e))
number_asked ReadFault e = absurd (omega (arith, e))
number_asked WriteFault e = absurd (omega (arith, e))
number_asked OutOfMemory e = absurd (omega (arith, e))
number_asked Asked e = refl
number_asked Turning e = absurd (omega (arith, e))

number_turning : (status : Status) → code_of status ≡ 8 → status ≡ Turning
number_turning Success e = absurd (omega (arith, e))
number_turning Refused e = absurd (omega (arith, e))
number_turning BadWords e = absurd (omega (arith, e))
number_turning ReadFault e = absurd (omega (arith, e))
number_turning WriteFault e = absurd (omega (arith, e))
number_turning OutOfMemory e = absurd (omega (arith, e))
number_turning Asked e = absurd (omega (arith, e))
number_turning Turning e = refl

answer_to : (words : Option Command) (command : Command) (input out err : Change) (status : Status) → IsAnswer words input out err status → words ≡ Some command → IsAnswer (Some command) input out err status
answer_to words command input out err status answer is = subst (λ (w : Option Command). IsAnswer w input out err status) is answer

pub accepts : (words : Option Command) (command : Command) (input out err : Change) (status : Status) → IsAnswer words input out err status → words ≡ Some command → TakesSource command
    → (bytes : List ℕ) → input.before ≡ Some bytes → IsThinText bytes → code_of status ≢ 1
accepts words command input out err status answer is takes bytes same thin one =
    accepts_it command input out err status takes (answer_to words command input out err status answer is) bytes same thin (number_refused status one)

pub refuses : (words : Option Command) (command : Command) (input out err : Change) (status : Status) → IsAnswer words input out err status → words ≡ Some command → TakesSource command
    → (bytes : List ℕ) (refusal : Refusal) → input.before ≡ Some bytes → IsRefused bytes refusal → code_of status ≢ 0
refuses words command input out err status answer is takes bytes refusal same refused none =
    refuses_it command input out err status takes (answer_to words command input out err status answer is) bytes refusal same refused (number_success status none)

pub passes : (words : Option Command) (command : Command) (input out err : Change) (status : Status) → AreApart → IsAnswer words input out err status → words ≡ Some command → TakesModule command
    → (bytes : List ℕ) (m : Module) → input.before ≡ Some bytes → IsPassing bytes m → code_of status ≢ 1
passes words command input out err status apart answer is takes bytes m same passing one =
    passes_it command input out err status apart takes (answer_to words command input out err status answer is) bytes m same passing (number_refused status one)

-- a status that is shown comes of no text that is refused
shown_never : (words : Option Command) (command : Command) (input out err : Change) (status other : Status) → AreApart → IsAnswer words input out err status → words ≡ Some command → TakesModule command
    → (bytes line : List ℕ) → input.before ≡ Some bytes → IsQirRefused bytes line → IsShownStatus other → status ≡ other → ⊥
shown_never words command input out err status other apart answer is takes bytes line same refused shown e =
    let here = subst IsShownStatus (sym e) shown in
    breaks_it command input out err status apart takes (answer_to words command input out err status answer is) bytes line same refused here (shown_settles status here)

pub breaks : (words : Option Command) (command : Command) (input out err : Change) (status : Status) → AreApart → IsAnswer words input out err status → words ≡ Some command → TakesModule command
    → (bytes line : List ℕ) → input.before ≡ Some bytes → IsQirRefused bytes line → (code_of status ≢ 0) × (code_of status ≢ 7) × (code_of status ≢ 8)
breaks words command input out err status apart answer is takes bytes line same refused = (
  λ e. shown_never words command input out err status Success apart answer is takes bytes line same refused IsSuccess (number_success status e),
  λ e. shown_never words command input out err status Asked apart answer is takes bytes line same refused IsAsked (number_asked status e),
  λ e. shown_never words command input out err status Turning apart answer is takes bytes line same refused IsTurning (number_turning status e),
)
