use Rattle.std.proofs.Common.{refl, le_refl, arith, length, ap}
use Rattle.qasm_ast.specs.Tree.{gate}
use Rattle.qasm_grammar.specs.Reader.{read_names, read_gate_definition}
use Rattle.qasm_stmt.specs.Seen.{IsName}
use Rattle.qasm_stmt.proofs.Growing.{grown_on, name_later}
use Rattle.qasm_expr.proofs.Exits.{handed}
use Rattle.qasm_stmt.proofs.Compound.{list_on, gate_line}
use Rattle.qasm_stmt.proofs.gates.gate_definition.Goals as goal

pub returns-in_err-at-clause-gives : goal.returns-in_err-at-clause-gives
unfolding read_gate_definition
returns-in_err-at-clause-gives c =
    handed _ _ _ _ c.from_residual.ensures c.in_err-at.ensures.gives (le_refl _) (λ x h. rw h refl)

pub returns-in_err-name-clause-gives : goal.returns-in_err-name-clause-gives
unfolding read_gate_definition
returns-in_err-name-clause-gives c =
    let w = c.in_ok-at.ensures.gives in
    handed _ _ _ _ c.from_residual-in_err-name.ensures c.in_err-name.ensures.gives w.2 (λ x h. rw (w.4, h) refl)

pub returns-in_err-params-clause-gives : goal.returns-in_err-params-clause-gives
unfolding read_gate_definition
returns-in_err-params-clause-gives c =
    let w = c.in_ok-at.ensures.gives in
    let n = c.in_ok-name.ensures.gives in
    handed _ _ _ _ c.from_residual-in_err-params.ensures c.in_err-params.ensures.gives (omega (arith, w.2, n.2)) (λ x h. rw (w.4, n.4, h) refl)

pub returns-in_err-qubits-clause-gives : goal.returns-in_err-qubits-clause-gives
unfolding read_gate_definition read_names
returns-in_err-qubits-clause-gives c =
    let w = c.in_ok-at.ensures.gives in
    let n = c.in_ok-name.ensures.gives in
    let ps = c.in_ok-params.ensures.gives in
    handed _ _ _ _ c.from_residual-in_err-qubits.ensures c.in_err-qubits.ensures.gives (omega (arith, w.2, n.2, ps.2)) (λ x h. rw (w.4, n.4, ps.4, h) refl)

pub returns-in_err-body-clause-gives : goal.returns-in_err-body-clause-gives
unfolding read_gate_definition read_names
returns-in_err-body-clause-gives c =
    let w = c.in_ok-at.ensures.gives in
    let n = c.in_ok-name.ensures.gives in
    let ps = c.in_ok-params.ensures.gives in
    let qs = c.in_ok-qubits.ensures.gives in
    handed _ _ _ _ c.from_residual-in_err-body.ensures c.in_err-body.ensures.gives (omega (arith, w.2, n.2, ps.2, qs.2)) (λ x h. rw (w.4, n.4, ps.4, qs.4, h) refl)

pub returns-clause-gives : goal.returns-clause-gives
unfolding read_gate_definition read_names
returns-clause-gives c =
    let w = c.in_ok-at.ensures.gives in
    let n = c.in_ok-name.ensures.gives in
    let ps = c.in_ok-params.ensures.gives in
    let qs = c.in_ok-qubits.ensures.gives in
    let b = c.in_ok-body.ensures.gives in
    let on_qubits = grown_on c.in_ok-qubits.ensures.grown c.in_ok-body.ensures.grown in
    let name = name_later c.in_ok-name.ensures.sound (grown_on c.in_ok-params.ensures.grown on_qubits) c.in_ok-name.name n.0 n.1 in
    let params = list_on (IsName c.any_gate_parameters.new.arena) (IsName c.gate_body.new.arena) c.in_ok-params.params.items ps.0 (name_later c.in_ok-params.ensures.sound on_qubits) ps.1 in
    let qubits = list_on (IsName c.names.new.arena) (IsName c.gate_body.new.arena) c.in_ok-qubits.qubits.items qs.0 (name_later c.in_ok-qubits.ensures.sound c.in_ok-body.ensures.grown) qs.1 in
    (gate n.0 ps.0 qs.0 b.0.statements w.0.at b.0.close, gate_line c.gate_body.new.arena c.in_ok-at.at c.in_ok-body.body.close w.0.at b.0.close w.1 b.1.2 c.in_ok-name.name c.in_ok-params.params.items c.in_ok-qubits.qubits.items c.in_ok-body.body n.0 ps.0 qs.0 b.0 name params qubits b.1, omega (arith, w.2, n.2, ps.2, qs.2, b.2), b.3, rw (w.4, n.4, ps.4, qs.4, b.4) refl)

pub returns-clause-spare : goal.returns-clause-spare
returns-clause-spare c =
    let w = c.in_ok-at.ensures.gives in
    let n = c.in_ok-name.ensures.gives in
    let ps = c.in_ok-params.ensures.gives in
    let qs = c.in_ok-qubits.ensures.gives in
    omega (arith, w.2, ap length c.in_ok-name.ensures.kept, n.2, ap length c.in_ok-params.ensures.kept, ps.2, ap length c.in_ok-qubits.ensures.kept, qs.2, c.in_ok-body.ensures.spare)

pub returns-clause-grown : goal.returns-clause-grown
returns-clause-grown c =
    grown_on c.in_ok-name.ensures.grown (grown_on c.in_ok-params.ensures.grown (grown_on c.in_ok-qubits.ensures.grown c.in_ok-body.ensures.grown))
