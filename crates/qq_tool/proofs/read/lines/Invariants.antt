use Rattle.std.proofs.Common.{◌≡◌, ◌-◌, ◌≤◌, length}
use Rattle.qq_tool.specs.Reading.{lines_at}
use Rattle.qq_tool.proofs.Loop.{with_front}
use Rattle.qq_tool.proofs.read.lines.Given as goal

-- what was found, and what the bytes that are left give
abbrev pub invariant-loop-rest : goal.invariant-loop-rest
invariant-loop-rest l =
    (length l.found.items ≤ 10000) × (with_front l.found.items (lines_at l.qubits l.bits (10000 - length l.found.items) l.rest) ≡ lines_at l.qubits l.bits 10000 l.bytes)

abbrev pub decreases-loop-rest : goal.decreases-loop-rest
decreases-loop-rest l = 10000 - length l.found.items
