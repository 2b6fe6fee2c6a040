use Rattle.std.proofs.Common.{◌≡◌, length, arith, ◌∙◌}
use Rattle.gate_flatten.proofs.Exits.{at_exit}
use Rattle.gate_flatten.proofs.Readying.{table_fails, table_ready, row_inside, row_params, row_qubits}
use Rattle.gate_flatten.proofs.gate.ready_gate.Goals as goal

pub returns-in_err-units_of_all-in-Table-clause-answer : goal.returns-in_err-units_of_all-in-Table-clause-answer
returns-in_err-units_of_all-in-Table-clause-answer c = λ worths.
    let count : length c.args.arguments.now ≡ c.in-Table.row.params = omega arith in
    at_exit _ _ _ _ c.from_residual.ensures.1 (rw c.in-Table.is (table_fails worths _ _ c.args.arguments.now _ _ _ count (c.in_err-units_of_all-in-Table.ensures.answer worths)))

pub returns-in_ok-units_of_all-in-Table-clause-answer : goal.returns-in_ok-units_of_all-in-Table-clause-answer
returns-in_ok-units_of_all-in-Table-clause-answer c = λ worths.
    let count : length c.args.arguments.now ≡ c.in-Table.row.params = omega arith in
    rw c.in-Table.is (table_ready worths _ _ c.args.arguments.now _ _ _ count (c.in_ok-units_of_all-in-Table.ensures.answer worths))

pub returns-in_ok-units_of_all-in-Table-clause-fits : goal.returns-in_ok-units_of_all-in-Table-clause-fits
returns-in_ok-units_of_all-in-Table-clause-fits c = λ turns all.
    let count : length c.args.arguments.now ≡ c.in-Table.row.params = omega arith in
    let is_row = rw c.in-Table.is at c.requires.gate in (
      row_inside _ _ is_row,
      c.in_ok-units_of_all-in-Table.ensures.count ∙ count ∙ row_params _ _ is_row,
      row_qubits _ _ is_row,
      c.in_ok-units_of_all-in-Table.ensures.named turns all,
    )
