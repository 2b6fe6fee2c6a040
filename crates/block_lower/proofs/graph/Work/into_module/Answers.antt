use Rattle.std.proofs.Common.{ℕ, List, [], get_or, ap, sym, subst, ◌∙◌}
use Rattle.qir_module.specs.declared.block.Phi.{Phi}
use Rattle.qir_module.specs.Module.{IsShaped}
use Rattle.core_ir.specs.Core.{Core}
use Rattle.block_graph.specs.Work.{Work}
use Rattle.block_graph.specs.Lowering.{settled_from, blocks_of, declared_of}
use Rattle.block_lower.proofs.Module.{module_is}
use Rattle.block_lower.proofs.graph.Work.into_module.Goals as goal

pub invariant_of-result : goal.invariant_of-result
invariant_of-result c = subst IsShaped (sym (module_is c.args.core.now c.args.self c.in_ok-labels.labels.items c.in_ok-blocks.blocks.items c.in_ok-declarations.declarations.items c.core.inside.qubits c.self.inside.results
    (c.in_ok-labels.ensures ∙ c.deref.ensures.value ∙ ap (λ (v : Core). v.labels) c.core.view_is)
    (c.in_ok-blocks.ensures ∙ ap (λ (ts : List ℕ). settled_from (λ l. get_or ts l 0) (λ l. get_or c.deref-3.result.now l []) 0 c.self.inside.done.items) c.deref-2.ensures.value
    ∙ ap (λ (ls : List (List Phi)). settled_from (λ l. get_or c.self.inside.targets.items l 0) (λ l. get_or ls l []) 0 c.self.inside.done.items) c.deref-3.ensures.value ∙ ap blocks_of c.self.view_is)
    (c.in_ok-declarations.ensures ∙ ap declared_of c.deref-4.ensures.value) (ap (λ (v : Core). v.qubits) c.core.view_is) (ap (λ (w : Work). w.results) c.self.view_is))) c.requires.shaped

pub returns : goal.returns
returns c = module_is c.args.core.now c.args.self c.in_ok-labels.labels.items c.in_ok-blocks.blocks.items c.in_ok-declarations.declarations.items c.core.inside.qubits c.self.inside.results
    (c.in_ok-labels.ensures ∙ c.deref.ensures.value ∙ ap (λ (v : Core). v.labels) c.core.view_is)
    (c.in_ok-blocks.ensures ∙ ap (λ (ts : List ℕ). settled_from (λ l. get_or ts l 0) (λ l. get_or c.deref-3.result.now l []) 0 c.self.inside.done.items) c.deref-2.ensures.value
    ∙ ap (λ (ls : List (List Phi)). settled_from (λ l. get_or c.self.inside.targets.items l 0) (λ l. get_or ls l []) 0 c.self.inside.done.items) c.deref-3.ensures.value ∙ ap blocks_of c.self.view_is)
    (c.in_ok-declarations.ensures ∙ ap declared_of c.deref-4.ensures.value) (ap (λ (v : Core). v.qubits) c.core.view_is) (ap (λ (w : Work). w.results) c.self.view_is)
