use Rattle.std.proofs.Common.{◌≡◌, ◌++◌, take}
use Rattle.std.specs.List.{flat_map}
use Rattle.qir_module.specs.Written.{item_line, phi_text}
use Rattle.qir_writer.proofs.block.write_phis.Given as goal

abbrev pub invariant-loop-phi : goal.invariant-loop-phi
invariant-loop-phi l = l.out.items ≡ l.fn.out.items ++ flat_map (λ phi. item_line (phi_text phi)) (take l.phi-index l.phis)
