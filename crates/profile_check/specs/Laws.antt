-- What the rules say together.
use Rattle.std.specs.Prelude.{◌≡◌, None}
use Rattle.qir_module.specs.Module.{Module}
use Rattle.qir_module.specs.Passes.{Passes}
use Rattle.qir_module.specs.Broken.{broken}

-- a module that breaks no rule passes
abbrev pub UnbrokenPasses : Type 0
UnbrokenPasses = (m : Module) → broken m ≡ None → Passes m

-- a module that passes breaks no rule
abbrev pub PassingIsUnbroken : Type 0
PassingIsUnbroken = (m : Module) → Passes m → broken m ≡ None
