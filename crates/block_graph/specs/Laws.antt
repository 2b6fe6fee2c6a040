-- The laws of the module that a core is lowered to. The layer above makes that very module.
use Rattle.std.specs.Prelude.{◌≡◌, ℕ, ◌+◌, ◌*◌, ◌≤◌, nat_le, Bool, true, List, length, count_by}
use Rattle.std.specs.List.{sum_by}
use Rattle.qir_module.specs.declared.instruction.Instr.{Instr}
use Rattle.qir_module.specs.declared.block.Block.{Block as ModuleBlock}
use Rattle.qir_module.specs.Items.{items_of}
use Rattle.qir_module.specs.Machine.{machine_run}
use Rattle.qir_module.specs.Module.{Module, IsShaped}
use Rattle.qir_module.specs.Numbered.{IsNumbered, functions_of}
use Rattle.qir_module.specs.Passes.{IsKept, flags_kept, entry_kept, qubit_ids_kept, result_ids_kept, declarations_kept, calls_kept, initialize_kept, labels_kept, assigned_once_kept, constants_kept, distinct_qubits_kept, label_texts_kept, targets_kept, phis_kept, earlier_way_kept, records_kept, limits_kept, operand_types_kept, carried_results_kept, carried_registers_kept, Passes}
use Rattle.core_ir.specs.Core.{Core}
use Rattle.core_ir.specs.Run.{core_run}
use Rattle.core_ir.specs.declared.expression.CoreExpr.{CoreExpr}
use Rattle.core_ir.specs.Tree.{Stmt, program_of}
use Rattle.core_ir.specs.Ways.{Exit, stores, assigns}
use Rattle.core_ir.specs.Size.{weight, knots, calls as calls_of_core, joined_cells}
use Rattle.core_ir.specs.WellFormed.{Fits}
use Rattle.block_graph.specs.Bounds.{IsHeld}
use Rattle.block_graph.specs.Work.{Work}
use Rattle.block_graph.specs.Lowering.{Coder, IsCoder, lower_of, first_work, lowered}

-- a core that fits, as code holds it, with code for its expressions
pub record IsLowerable (core : Core) (coder : Coder) : Type 0 where
  pub fits : Fits core
  pub held : IsHeld core
  pub coder_fits : IsCoder core coder

-- the module's run is the core's, for every list of outcomes and every number of turns
abbrev pub RunsAsCore : Type 0
RunsAsCore = (core : Core) (coder : Coder) → IsLowerable core coder → (outcomes : List Bool) (turns : ℕ) → machine_run (lowered core coder) outcomes turns ≡ core_run core outcomes turns

-- its numbers are in the order of the text
abbrev pub IsInOrder : Type 0
IsInOrder = (core : Core) (coder : Coder) → IsLowerable core coder → IsNumbered (lowered core coder)

-- the calls of gates, of resets and of measurements: those of functions from 5 on
abbrev pub work_in : Instr → ℕ
work_in instr = count_by (λ f. nat_le 5 f) (functions_of instr)

-- the bounds by the core's size
pub record IsWithin (core : Core) (m : Module) : Type 0 where
  pub items : items_of m.blocks ≤ weight core + 32
  pub blocks : length m.blocks ≤ knots core + 1
  pub phis : sum_by (λ (b : ModuleBlock). length b.phis) m.blocks ≤ joined_cells core
  pub calls : sum_by (λ (b : ModuleBlock). sum_by work_in b.body) m.blocks ≤ calls_of_core core

abbrev pub StaysWithin : Type 0
StaysWithin = (core : Core) (coder : Coder) → IsLowerable core coder → IsWithin core (lowered core coder)

-- the numbers of the graph where the program ends, before its outputs are recorded
pub record IsSmallWork (core : Core) (v : Work) : Type 0 where
  pub next : v.next ≤ 2 * weight core + 32
  pub results : v.results ≤ weight core
  pub done : length v.done ≤ knots core + 1

abbrev pub WorkIsSmall : Type 0
WorkIsSmall = (core : Core) (coder : Coder) → IsLowerable core coder → IsSmallWork core (lower_of core coder (program_of core) (first_work (length core.cells)))

-- what a way stores in a cell, the statement assigns
abbrev pub StoresAreAssigned : Type 0
StoresAreAssigned = (exprs : List CoreExpr) (s : Stmt) (c : ℕ) (x : Exit) → stores true exprs s c x ≡ true → assigns s c ≡ true

-- it can be made as a value of its type
abbrev pub ModuleIsShaped : Type 0
ModuleIsShaped = (core : Core) (coder : Coder) → IsLowerable core coder → IsShaped (lowered core coder)

-- the rules of the profile that single items and their order in the text decide
pub record KeepsItemRules (m : Module) : Type 0 where
  pub flags : IsKept m flags_kept
  pub entry : IsKept m entry_kept
  pub qubit_ids : IsKept m qubit_ids_kept
  pub result_ids : IsKept m result_ids_kept
  pub declarations : IsKept m declarations_kept
  pub calls : IsKept m calls_kept
  pub initialize : IsKept m initialize_kept
  pub labels : IsKept m labels_kept
  pub assigned_once : IsKept m assigned_once_kept
  pub constants : IsKept m constants_kept
  pub distinct_qubits : IsKept m distinct_qubits_kept
  pub label_texts : IsKept m label_texts_kept
  pub limits : IsKept m limits_kept

abbrev pub KeepsItems : Type 0
KeepsItems = (core : Core) (coder : Coder) → IsLowerable core coder → KeepsItemRules (lowered core coder)

-- the rules of the profile on the ways between blocks
pub record KeepsWayRules (m : Module) : Type 0 where
  pub targets : IsKept m targets_kept
  pub phis : IsKept m phis_kept
  pub earlier_way : IsKept m earlier_way_kept
  pub records : IsKept m records_kept

abbrev pub KeepsWays : Type 0
KeepsWays = (core : Core) (coder : Coder) → IsLowerable core coder → KeepsWayRules (lowered core coder)

-- and that on the types of operands
abbrev pub KeepsTypes : Type 0
KeepsTypes = (core : Core) (coder : Coder) → IsLowerable core coder → IsKept (lowered core coder) operand_types_kept

-- and that on results: one is read only after it was measured on every way
abbrev pub KeepsResults : Type 0
KeepsResults = (core : Core) (coder : Coder) → IsLowerable core coder → IsKept (lowered core coder) carried_results_kept

-- and that on registers: one is taken only where it was assigned on every way
abbrev pub KeepsRegisters : Type 0
KeepsRegisters = (core : Core) (coder : Coder) → IsLowerable core coder → IsKept (lowered core coder) carried_registers_kept

-- it keeps all the rules of the profile
abbrev pub LoweredPasses : Type 0
LoweredPasses = (core : Core) (coder : Coder) → IsLowerable core coder → Passes (lowered core coder)
