-- The module that the code makes.
use Rattle.std.proofs.Common.{◌≡◌, ℕ, List, false, ap, ◌∙◌}
use Rattle.qir_module.specs.declared.block.Block.{Block as ModuleBlock}
use Rattle.qir_module.specs.declared.function.Function.{Function}
use Rattle.qir_module.specs.declared.profile.Profile.TheVariants.{Adaptive}
use Rattle.qir_module.specs.Module.{Module}
use Rattle.core_ir.specs.Core.{Core}
use Rattle.block_graph.specs.Work.{Work}
use Rattle.block_graph.specs.Lowering.{blocks_of, declared_of, module_of}

abbrev pub module_with : List (List ℕ) → List ModuleBlock → List Function → ℕ → ℕ → Module
module_with labels blocks declarations qubits results = record {
  labels = labels;
  blocks = blocks;
  declarations = declarations;
  profile = Adaptive;
  qubits = qubits;
  results = results;
  major = 2;
  minor = 0;
  dynamic_qubits = false;
  dynamic_results = false;
}

pub module_is : (core : Core) (w : Work) (labels : List (List ℕ)) (blocks : List ModuleBlock) (declarations : List Function) (qubits results : ℕ) → labels ≡ core.labels → blocks ≡ blocks_of w → declarations ≡ declared_of blocks → qubits ≡ core.qubits → results ≡ w.results
    → module_with labels blocks declarations qubits results ≡ module_of core w
module_is core w labels blocks declarations qubits results same_labels same_blocks same_declarations same_qubits same_results =
    ap (λ (ls : List (List ℕ)). module_with ls blocks declarations qubits results) same_labels
    ∙ ap (λ (fs : List Function). module_with core.labels blocks fs qubits results) (same_declarations ∙ ap declared_of same_blocks)
    ∙ ap (λ (bs : List ModuleBlock). module_with core.labels bs (declared_of (blocks_of w)) qubits results) same_blocks
    ∙ ap (λ (n : ℕ). module_with core.labels (blocks_of w) (declared_of (blocks_of w)) n results) same_qubits
    ∙ ap (λ (n : ℕ). module_with core.labels (blocks_of w) (declared_of (blocks_of w)) core.qubits n) same_results
