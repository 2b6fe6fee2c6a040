-- This serves private contracts alone: what the commands of the code stand for.
use Rattle.std.specs.Prelude.{ℕ, ◌≡◌, nat_eq, Bool, List, map}
use Rattle.qir_module.specs.Module.{Module}
use Rattle.qir_module.specs.Machine.{machine_run}
use Rattle.qq_base.specs.declared.rule.Rule.TheVariants.{InputTooLong}
use Rattle.qq_tool.specs.declared.status.Status.{Status}
use Rattle.qq_tool.specs.declared.status.Status.TheVariants.{Success}
use Rattle.qq_tool.specs.Command.{Command, Compile, Check, Verify, Run}
use Rattle.qq_tool.specs.declared.command.SourceTask.{SourceTask}
use Rattle.qq_tool.specs.declared.command.SourceTask.TheVariants as s
use Rattle.qq_tool.specs.declared.command.ModuleTask.{ModuleTask}
use Rattle.qq_tool.specs.declared.command.ModuleTask.TheVariants as m
use Rattle.qq_tool.specs.declared.command.Command.{Command as Task}
use Rattle.qq_tool.specs.declared.command.Command.TheVariants as c
use Rattle.qq_tool.specs.Compiled.{IsCompiled}
use Rattle.qq_tool.specs.Due.{ok_line, IsShownRun}
use Rattle.qq_tool.specs.QirRefused.{text_refusal_line, too_long}
use Rattle.qq_tool.specs.Refused.{refusal_line, at_start}
use Rattle.qq_tool.specs.Thin.{Thin}

-- the outcomes that the digits 0 and 1 stand for
abbrev pub bits_of : List ℕ → List Bool
bits_of digits = map (nat_eq 49) digits

abbrev pub source_command : SourceTask → Command
source_command s.Compile = Compile
source_command s.Check = Check

abbrev pub module_command : ModuleTask → Command
module_command m.Verify = Verify
module_command (m.Run outcomes turns) = Run (bits_of outcomes.now) turns

abbrev pub task_of : Task → Command
task_of (c.Source task) = source_command task
task_of (c.Module task) = module_command task

-- ---- what a task gives

-- which texts it writes for a program
abbrev pub text_of : SourceTask → Thin → List ℕ → Type 0
text_of s.Compile = IsCompiled
text_of s.Check = λ p text. text ≡ ok_line

-- which status and text it gives for a module
abbrev pub shows_of : ModuleTask → Module → Status → List ℕ → Type 0
shows_of m.Verify = λ of status text. (status ≡ Success) × (text ≡ ok_line)
shows_of (m.Run outcomes turns) = λ of status text. IsShownRun of.labels (machine_run of (bits_of outcomes.now) turns) status text

-- the line of the refusal of an input that is too long
abbrev pub too_long_line : Command → List ℕ
too_long_line Compile = refusal_line (at_start InputTooLong)
too_long_line Check = refusal_line (at_start InputTooLong)
too_long_line Verify = text_refusal_line too_long
too_long_line (Run outcomes turns) = text_refusal_line too_long
