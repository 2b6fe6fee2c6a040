-- Which texts a compiler may write for a program.
use Rattle.std.specs.Prelude.{ℕ, ◌≡◌, Bool, List}
use Rattle.qir_module.specs.Module.{Module, IsShaped}
use Rattle.qir_module.specs.Written.{written}
use Rattle.qir_module.specs.Numbered.{IsNumbered}
use Rattle.qir_module.specs.Machine.{machine_run}
use Rattle.qir_module.specs.Passes.{Passes}
use Rattle.qir_module.specs.Spoilt.{IsTextOf}
use Rattle.qq_tool.specs.Thin.{Thin}
use Rattle.qq_tool.specs.ThinRun.{source_run, labels_of}

-- The module does what the program does: for every list of measurement outcomes and every number of loop
-- turns it has the same fate, the same events in order and the same output records.
pub record Implements (m : Module) (p : Thin) : Type 0 where
  pub shaped : IsShaped m
  pub numbered : IsNumbered m
  -- it keeps every rule of the profile
  pub passes : Passes m
  pub labels : m.labels ≡ labels_of p
  pub qubits : m.qubits ≡ p.qubits
  pub same_run : (outcomes : List Bool) (turns : ℕ) → machine_run m outcomes turns ≡ source_run p outcomes turns

-- The text is the canonical text of a module that does what the program does, and reads back as that module.
abbrev pub IsCompiled : Thin → List ℕ → Type 0
IsCompiled p text = (m : Module) × Implements m p × (text ≡ written m) × IsTextOf text m
