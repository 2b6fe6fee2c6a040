use Rattle.std.proofs.Common.{sym, refl, ap, arith}
use Rattle.qasm_lexer.specs.declared.token.Token.{Token}
use Rattle.qasm_ast.specs.Tree.{gate}
use Rattle.qasm_grammar.specs.Reader.{read_gate_definition, read_names}
use Rattle.qasm_parser.proofs.Growing.{after_on, fewer}
use Rattle.program_parser.proofs.Standing.{later}
use Rattle.program_parser.proofs.Exits.{handed}
use Rattle.program_parser.proofs.Bodies.{gate_in}
use Rattle.program_parser.proofs.gates.gate_definition.Goals as goal

pub returns-in_err-qubits : goal.returns-in_err-qubits
unfolding read_gate_definition read_names
returns-in_err-qubits c =
    let w = c.in_ok-at.ensures in
    let x = c.in_ok-name.ensures in
    let ps = c.in_ok-params.ensures in
    handed _ _ _ _ _ _ c.from_residual-in_err-qubits.ensures (λ no. rw (w.read, sym w.after.text, x.read, sym x.after.text, ps.read, sym ps.after.text, c.in_err-qubits.ensures no) refl)

pub returns-in_err-body : goal.returns-in_err-body
unfolding read_gate_definition read_names
returns-in_err-body c =
    let w = c.in_ok-at.ensures in
    let x = c.in_ok-name.ensures in
    let ps = c.in_ok-params.ensures in
    let qs = c.in_ok-qubits.ensures in
    handed _ _ _ _ _ _ c.from_residual-in_err-body.ensures (λ no. rw (w.read, sym w.after.text, x.read, sym x.after.text, ps.read, sym ps.after.text, qs.read, sym qs.after.text, c.in_err-body.ensures no) refl)

pub returns : goal.returns
unfolding read_gate_definition read_names
returns c =
    let w = c.in_ok-at.ensures in
    let x = c.in_ok-name.ensures in
    let ps = c.in_ok-params.ensures in
    let qs = c.in_ok-qubits.ensures in
    let b = c.in_ok-body.ensures in
    let name = later (after_on ps.after (after_on qs.after b.after)).longer x.shown in
    let params = later (after_on qs.after b.after).longer ps.shown in
    let qubits = later b.after.longer qs.shown in
    record {
      value = gate x.value ps.value qs.value b.value.statements w.value.at b.value.close;
      shown = record { holds = λ v f. let q = b.shown.holds v f in gate_in v _ _ _ _ (ap (λ (s : Token). s.at) w.shown) q.1 c.in_ok-name.name c.in_ok-params.params c.in_ok-qubits.qubits c.in_ok-body.body.statements _ _ _ _ (name.holds v f) (params.holds v f) (qubits.holds v f) q.0 };
      read = rw (w.read, sym w.after.text, x.read, sym x.after.text, ps.read, sym ps.after.text, qs.read, sym qs.after.text, b.read) refl;
      after = fewer 3 1 (omega arith) (after_on w.after (after_on x.after (after_on ps.after (after_on qs.after b.after))));
    }
