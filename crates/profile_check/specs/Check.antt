-- The answers of the checker: the rule that is broken and its place.
use Rattle.std.specs.Prelude.{Option, Some, None}
use Rattle.qir_module.specs.Broken.{Breach}
use Rattle.profile_check.specs.declared.checker.CheckFault.{CheckFault}
use Rattle.profile_check.specs.declared.checker.CheckFault.TheVariants.{Memory, Broken}
use Rattle.profile_check.specs.Rule.{number_of}

-- the rule that a fault names, and its place; want of memory names none
abbrev pub breach_in : CheckFault → Option Breach
breach_in Memory = None
breach_in (Broken rule block item) = Some (record { rule = number_of rule; at = record { block = block; item = item } })
