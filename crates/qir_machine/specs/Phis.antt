-- For private contracts alone: the phis of a block, read all at once and then stored one by one.
use Rattle.std.specs.Prelude.{ℕ, ◌<◌, List, [], ◌∷◌, length, Option, Some}
use Rattle.qir_module.specs.declared.block.Phi.{Phi}
use Rattle.qir_module.specs.Machine as run
use Rattle.qir_module.specs.Machine.{State, with_register, with_front, entry_from, phi_value}
use Rattle.qir_machine.specs.declared.memory.Memory.{Memory}

-- what all phis take from the block of a name, or None where one cannot be read
abbrev pub phi_values : State → List Phi → Option ℕ → Option (List run.Value)
phi_values s [] from = Some []
phi_values s (p ∷ ps) from = with_front (phi_value s p (entry_from p.entries from)) (phi_values s ps from)

-- values stored in the registers of phis, those of the first phis last
abbrev pub stored_phis : List Phi → List run.Value → State → State
stored_phis [] values s = s
stored_phis (p ∷ ps) [] s = s
stored_phis (p ∷ ps) (v ∷ vs) s = with_register (stored_phis ps vs s) p.register v

-- the table of registers has one for the phi
abbrev pub HasRegister : Memory → Phi → Type 0
HasRegister memory p = p.register < length memory.registers.items
