-- What the top call may answer, and what it has then done to its streams.
use Rattle.std.specs.Prelude.{ℕ, ◌≡◌, ◌≢◌, ◌<◌, ◌≤◌, ◌⊎◌, List, [], ◌++◌, length, Option, Some, None, IsSome}
use Rattle.std.specs.Io.KnownBytes.{Appends, Keeps}
use Rattle.qq_streams.specs.Faults.{HasRisen}
use Rattle.qq_tool.specs.declared.status.Status.{Status}
use Rattle.qq_tool.specs.declared.status.Status.TheVariants.{Success, Refused, BadWords, ReadFault, WriteFault, OutOfMemory, Asked, Turning}
use Rattle.qq_tool.specs.Command.{Command, Run, input_limit}
use Rattle.qq_tool.specs.Due.{Texts, Due}

-- ---- what a call does to a stream

-- the bytes that a stream tells and its count of faults, before a call and behind it
pub record Change : Type 0 where
  pub before : Option (List ℕ)
  pub after : Option (List ℕ)
  pub faults_before : ℕ
  pub faults_after : ℕ

abbrev pub change : Option (List ℕ) → Option (List ℕ) → ℕ → ℕ → Change
change before after faults_before faults_after = record { before = before; after = after; faults_before = faults_before; faults_after = faults_after }

-- the count of faults rose in the call
abbrev pub IsFaulty : Change → Type 0
IsFaulty c = HasRisen c.faults_before c.faults_after

-- a sink took this text, and nothing else
abbrev pub Adds : Change → List ℕ → Type 0
Adds c text = Appends c.before c.after text

-- a sink took a part of this text from its front, and nothing else
abbrev pub AddsPart : Change → List ℕ → Type 0
AddsPart c text = (part : List ℕ) × (rest : List ℕ) × (text ≡ part ++ rest) × Adds c part

abbrev pub AddsNothing : Change → Type 0
AddsNothing c = Keeps c.before c.after

-- An input of which so many bytes are taken at most was read: nothing is left, or, where there are more bytes
-- than that, a front that is longer is gone, and the rest is left.
pub record IsRead (most : ℕ) (bytes : List ℕ) (left : Option (List ℕ)) : Type 0 where
  pub whole : length bytes ≤ most → left ≡ Some []
  pub front : most < length bytes → (front : List ℕ) × (rest : List ℕ) × (bytes ≡ front ++ rest) × (most < length front) × (left ≡ Some rest)

-- ---- answers

-- every status but those of a read fault, a write fault and want of memory
abbrev pub IsDueStatus : Status → Type 0
IsDueStatus status = (status ≢ ReadFault) × (status ≢ WriteFault) × (status ≢ OutOfMemory)

-- the statuses of a command whose text for `out` was written, whole
pub data IsShownStatus : Status → Type 0 where
  IsSuccess : IsShownStatus Success
  IsAsked : IsShownStatus Asked
  IsTurning : IsShownStatus Turning

-- What was written, where `due` says which status goes with which texts.
pub record Tells (due : Status → Texts → Type 0) (out err : Change) (status : Status) : Type 0 where
  -- what is due was written, whole
  pub done : IsDueStatus status → (texts : Texts) × due status texts × Adds out texts.out × Adds err texts.err
  -- behind a write fault each sink took a part of what was due
  pub part : status ≡ WriteFault → (other : Status) × (texts : Texts) × due other texts × AddsPart out texts.out × AddsPart err texts.err

-- What holds of the sinks whatever was due.
pub record Writes (out err : Change) (status : Status) : Type 0 where
  -- a refusal leaves `out` as it was, and a success or a run that was shown leaves `err`
  pub refused : status ≡ Refused → AddsNothing out
  pub succeeded : IsShownStatus status → AddsNothing err
  -- a write fault comes only where a count of faults rose
  pub write_fault : status ≡ WriteFault → IsFaulty out ⊎ IsFaulty err
  -- behind a read fault and for want of memory nothing was written
  pub read_fault : status ≡ ReadFault → AddsNothing out × AddsNothing err
  pub memory : status ≡ OutOfMemory → AddsNothing out × AddsNothing err

abbrev pub IsReading : Option Command → Type 0
IsReading command = IsSome (input_limit command)

-- The bytes are the input of the command; where it reads nothing, any bytes are.
abbrev pub IsInput : Option Command → Option (List ℕ) → List ℕ → Type 0
IsInput command left bytes = IsReading command → left ≡ Some bytes

-- Words that are no command have only their own status or that of a write fault, and no command has theirs. Only a
-- run is asked or turning.
abbrev pub IsStatusOf : Option Command → Status → Type 0
IsStatusOf None status = (status ≡ BadWords) ⊎ (status ≡ WriteFault)
IsStatusOf (Some (Run outcomes turns)) status = status ≢ BadWords
IsStatusOf (Some _) status = (status ≢ BadWords) × (status ≢ Asked) × (status ≢ Turning)

-- The answer of the top call to a command. Where a stream does not tell its bytes, nothing is said of them,
-- and the rest stands.
pub record IsAnswer (command : Option Command) (input out err : Change) (status : Status) : Type 0 where
  -- what is due for the words and the input
  pub tells : (bytes : List ℕ) → IsInput command input.before bytes → Tells (Due command bytes) out err status
  pub writes : Writes out err status
  -- the input of a command that reads was read, unless something failed
  pub read : IsDueStatus status → (most : ℕ) (bytes : List ℕ) → input_limit command ≡ Some most → input.before ≡ Some bytes → IsRead most bytes input.after
  -- a read fault comes only where the command reads and the count of faults rose
  pub read_fault : status ≡ ReadFault → IsReading command × IsFaulty input
  -- there is no other status
  pub statuses : IsStatusOf command status
