use Rattle.std.proofs.Common.{◌≡◌, ◌∙◌, ap, sym, refl, arith, take, List, slice_get, length}
use Rattle.std.specs.List.{flat_map}
use Rattle.gate_table.specs.declared.table.Row.{Row}
use Rattle.gate_table.specs.Table.{gates}
use Rattle.run_text.specs.Shown.{arguments_text, qubit_text, gate_text}
use Rattle.run_text.proofs.Gates.{gate_text_of, no_gate_text}
use Rattle.run_text.proofs.Prints.{printed_none, printed_then, printed_as}
use Rattle.run_text.proofs.printer.Printer.put_gate.Goals as goal

pub returns-then-gate-lt-GATES : goal.returns-then-gate-lt-GATES
returns-then-gate-lt-GATES g c =
    let row = c.row-row.result in
    let args = c.args.args.now in
    let qubits = c.args.qubits.now in
    let name = printed_as c.name.result.now c.as_bytes.ensures.value c.put.ensures in
    let arguments = printed_as (arguments_text (take row.params args)) (ap arguments_text c.front.ensures) c.put_arguments.ensures in
    let places = printed_as (flat_map qubit_text (take row.qubits qubits)) (ap (flat_map qubit_text) c.front-then-gate-lt-GATES.ensures) c.put_qubits.ensures in
    let has_row = ap (λ (rows : List Row). slice_get rows c.args.gate.0) (sym c.target-table.ensures.rows) ∙ c.row-row.ensures in
    printed_as (gate_text (slice_get gates c.args.gate.0) args qubits) (gate_text_of gates c.args.gate.0 c.name.result.now row args qubits c.name.ensures has_row)
    (printed_then (printed_then name arguments) places)

pub returns-else-gate-lt-GATES : goal.returns-else-gate-lt-GATES
returns-else-gate-lt-GATES g c =
    let many : length gates ≡ 31 = refl in
    printed_as (gate_text (slice_get gates c.args.gate.0) c.args.args.now c.args.qubits.now)
    (no_gate_text gates c.args.gate.0 c.args.args.now c.args.qubits.now (omega (arith, many))) (printed_none _)
