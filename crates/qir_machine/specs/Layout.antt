-- For private contracts alone: one room is within another.
use Rattle.std.specs.Prelude.{◌≤◌}
use Rattle.qir_machine.specs.declared.layout.Room.{Room}

pub record IsWithin (small large : Room) : Type 0 where
  pub registers : small.registers ≤ large.registers
  pub results : small.results ≤ large.results
  pub phis : small.phis ≤ large.phis
