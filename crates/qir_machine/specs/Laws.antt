-- Laws of the run of a module, as definitions over it.
use Rattle.std.specs.Prelude.{◌≡◌, ℕ, ◌+◌, ◌-◌, ◌*◌, ◌≤◌, Bool, List, ◌++◌, length, Option}
use Rattle.qq_base.specs.declared.run.Event.{Event}
use Rattle.qq_base.specs.Seen.{Ended, Stuck}
use Rattle.qir_module.specs.Module.{Module, IsShaped}
use Rattle.qir_module.specs.Passes.{Passes}
use Rattle.qir_module.specs.Machine.{State, run_from, machine_run}

-- the second list begins with the first
abbrev pub GoesOnAs : List Event → List Event → Type 0
GoesOnAs events longer = (others : List Event) × (longer ≡ events ++ others)

-- where a run ended, more turns and further outcomes give the same
abbrev pub StaysEnded : Type 0
StaysEnded = (m : Module) (outcomes others : List Bool) (turns extra : ℕ)
    → (machine_run m outcomes turns).fate ≡ Ended → machine_run m (outcomes ++ others) (turns + extra) ≡ machine_run m outcomes turns

-- the events of a run begin those with more turns and further outcomes
abbrev pub KeepsEvents : Type 0
KeepsEvents = (m : Module) (outcomes others : List Bool) (turns extra : ℕ)
    → GoesOnAs (machine_run m outcomes turns).events (machine_run m (outcomes ++ others) (turns + extra)).events

-- The bound on entered blocks never ends a run: each bound that allows the later blocks, and all blocks for each
-- turn, gives the same.
abbrev pub NeverEndsByBound : Type 0
NeverEndsByBound = (m : Module) (bound other : ℕ) (from : Option ℕ) (place : ℕ) (s : State) (outcomes : List Bool) (turns : ℕ)
    → turns * length m.blocks + (length m.blocks - place) ≤ bound → turns * length m.blocks + (length m.blocks - place) ≤ other
    → run_from m bound from place s outcomes turns ≡ run_from m other from place s outcomes turns

-- a module that passes is never stuck, for every list of outcomes and every number of turns
abbrev pub NeverStuck : Type 0
NeverStuck = (m : Module) → IsShaped m → Passes m → (outcomes : List Bool) (turns : ℕ) → (machine_run m outcomes turns).fate ≡ Stuck → ⊥
