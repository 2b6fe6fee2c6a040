-- The theorem of the program, in one place: what `compile` did, where no stream failed and memory was there. It follows
-- from `IsAnswer`, and from what is proved of the texts that are refused.
use Rattle.std.specs.Prelude.{ℕ, ◌≡◌, ◌≢◌, Bool, List}
use Rattle.qq_base.specs.declared.refusal.Refusal.{Refusal}
use Rattle.qir_module.specs.Machine.{machine_run}
use Rattle.qir_module.specs.Module.{Module, IsShaped}
use Rattle.qir_module.specs.Numbered.{IsNumbered}
use Rattle.qir_module.specs.Passes.{Passes}
use Rattle.qir_module.specs.Spoilt.{IsTextOf}
use Rattle.qir_module.specs.Written.{written}
use Rattle.qq_tool.specs.Answer.{Change, Adds, AddsNothing, IsFaulty, IsRead}
use Rattle.qq_tool.specs.Command.{source_limit}
use Rattle.qq_tool.specs.Refused.{IsRefused, IsDecided, refusal_line}
use Rattle.qq_tool.specs.Thin.{Thin, Spells}
use Rattle.qq_tool.specs.ThinRun.{source_run, labels_of}

-- no count of faults rose in the call, and it did not end for want of memory
pub record IsSound (input out err : Change) (status : ℕ) : Type 0 where
  pub input_sound : ¬ IsFaulty input
  pub out_sound : ¬ IsFaulty out
  pub err_sound : ¬ IsFaulty err
  pub memory : status ≢ 5

-- the refusal is reported, and nothing else is written
pub record Refuses (refusal : Refusal) (out err : Change) (status : ℕ) : Type 0 where
  pub refused : status ≡ 1
  pub reported : Adds err (refusal_line refusal)
  pub nothing_else : AddsNothing out

-- QIR text is written, and nothing else.
pub record Translates (program : Thin) (out err : Change) (status : ℕ) : Type 0 where
  pub accepted : status ≡ 0
  pub text : List ℕ
  pub written_out : Adds out text
  pub nothing_else : AddsNothing err
  -- it reads back as a module, of which it is the canonical text
  pub of : Module
  pub reads_back : IsTextOf text of
  pub canonical : text ≡ written of
  pub shaped : IsShaped of
  pub numbered : IsNumbered of
  -- the module keeps every rule of the profile
  pub passes : Passes of
  -- it has the program's labels and qubits
  pub labels : of.labels ≡ labels_of program
  pub qubits : of.qubits ≡ program.qubits
  -- and, for every list of measurement outcomes and every number of loop turns, exactly the program's fate, its gates,
  -- resets and measurements, and its output records
  pub same_run : (outcomes : List Bool) (turns : ℕ) → machine_run of outcomes turns ≡ source_run program outcomes turns

pub record Headline (bytes : List ℕ) (input out err : Change) (status : ℕ) : Type 0 where
  -- the source text is accepted, and no rule refuses it; or it is not, and one rule does, at one place: the first that it
  -- breaks
  pub decided : IsDecided bytes
  pub refuses : (refusal : Refusal) → IsRefused bytes refusal → Refuses refusal out err status
  pub translates : (program : Thin) → Spells bytes program → Translates program out err status
  -- it was read to its end, or, where it is refused for its length, past its limit
  pub read : IsRead source_limit bytes input.after
