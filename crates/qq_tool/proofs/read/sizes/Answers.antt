use Rattle.std.proofs.Common.{refl}
use Rattle.std.proofs.lemmas.Bool.{ne_eqb}
use Rattle.qq_tool.specs.Reading.{sizes_at}
use Rattle.qq_tool.proofs.read.sizes.Goals as goal

pub returns : goal.returns
unfolding sizes_at
returns c =
    rw (
      c.in_ok-rest.ensures,
      c.in_ok-qubits.ensures,
      c.in_ok-rest-2.ensures,
      c.in_ok-bits.ensures,
      c.in_ok-rest-3.ensures,
      ne_eqb c.in_ok-qubits.qubits 0 c.if-qubits-eq0.false,
      ne_eqb c.in_ok-bits.bits 0 c.if-bits-eq0.false,
    ) refl
