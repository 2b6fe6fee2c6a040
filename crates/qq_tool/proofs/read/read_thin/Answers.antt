use Rattle.qq_tool.proofs.Texts.{no_sizes, no_lines, is_spelled}
use Rattle.qq_tool.proofs.read.read_thin.Goals as goal

pub returns-in_default : goal.returns-in_default
returns-in_default c = no_sizes c.args.bytes.now c.in_default.ensures

pub returns-in_default-2 : goal.returns-in_default-2
returns-in_default-2 c =
    no_lines c.args.bytes.now c.in-Some.qubits c.in-Some.bits c.in-Some.rest.now c.in-Some.ensures (rw c.in_default-2.is at c.in_ok-lines.ensures)

pub invariant_of-program : goal.invariant_of-program
invariant_of-program c =
    (is_spelled c.args.bytes.now c.in-Some.qubits c.in-Some.bits c.in-Some.rest.now c.in-Some-2.lines.items c.in-Some.ensures (rw c.in-Some-2.is at c.in_ok-lines.ensures)).thin

pub returns : goal.returns
returns c =
    is_spelled c.args.bytes.now c.in-Some.qubits c.in-Some.bits c.in-Some.rest.now c.in-Some-2.lines.items c.in-Some.ensures (rw c.in-Some-2.is at c.in_ok-lines.ensures)
