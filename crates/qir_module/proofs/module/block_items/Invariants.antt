use Rattle.std.proofs.Common.{◌≡◌, ◌+◌, length, drop}
use Rattle.std.specs.List.{sum_by}
use Rattle.qir_module.specs.declared.block.Phi.{Phi}
use Rattle.qir_module.proofs.module.block_items.Given as goal

-- the entries so far and those of the phis that are left are all
abbrev pub invariant-loop-phi : goal.invariant-loop-phi
invariant-loop-phi l = l.entries + sum_by (λ (p : Phi). length p.entries) (drop l.phi-index l.block.phis) ≡ sum_by (λ (p : Phi). length p.entries) l.block.phis
