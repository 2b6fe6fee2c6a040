-- The rules of the profile, all together.
use Rattle.core_ir.specs.Core.{Core}
use Rattle.core_ir.specs.Laws.{StmtsUnfold}
use Rattle.phi_place.specs.Phis.{WaysCarry, SameWhereNotDiffer}
use Rattle.qir_module.specs.Passes.{Passes}
use Rattle.block_graph.specs.Laws.{IsLowerable}
use Rattle.block_graph.specs.Lowering.{Coder, lowered}
use Rattle.block_graph.proofs.Items.{keeps_items}
use Rattle.block_graph.proofs.Preceding.{keeps_ways}
use Rattle.block_graph.proofs.Typed.{types_rule}
use Rattle.block_graph.proofs.Carrying.{results_rule}
use Rattle.block_graph.proofs.Reaching.{registers_rule}

pub lowered_passes : StmtsUnfold → WaysCarry → SameWhereNotDiffer → (core : Core) (coder : Coder) → IsLowerable core coder → Passes (lowered core coder)
lowered_passes unfolds carry keeps core coder l =
    let items = keeps_items unfolds carry keeps core coder l in
    let ways = keeps_ways carry keeps core coder l in
    record {
      flags = items.flags;
      entry = items.entry;
      qubit_ids = items.qubit_ids;
      result_ids = items.result_ids;
      declarations = items.declarations;
      calls = items.calls;
      initialize = items.initialize;
      labels = items.labels;
      assigned_once = items.assigned_once;
      targets = ways.targets;
      phis = ways.phis;
      operand_types = types_rule carry keeps core coder l;
      constants = items.constants;
      carried_registers = registers_rule carry keeps core coder l;
      carried_results = results_rule carry keeps core coder l;
      distinct_qubits = items.distinct_qubits;
      records = ways.records;
      label_texts = items.label_texts;
      earlier_way = ways.earlier_way;
      limits = items.limits;
    }
