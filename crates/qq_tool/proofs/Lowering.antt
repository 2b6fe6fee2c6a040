-- The module of a thin program does what the program does.
use Rattle.std.proofs.Common.{◌≡◌, ℕ, false, List, [], ◌∷◌, ◌++◌, replicate, pos, refl, sym, ap, ◌∙◌, subst}
use Rattle.qir_module.specs.declared.instruction.Operand.{Operand}
use Rattle.qir_module.specs.declared.instruction.Operand.TheVariants.{Fixed}
use Rattle.qir_module.specs.declared.instruction.Arg.TheVariants.{Id}
use Rattle.qir_module.specs.declared.instruction.Instr.{Instr}
use Rattle.qir_module.specs.declared.instruction.Last.TheVariants.{Return}
use Rattle.qir_module.specs.declared.function.Function.{Function}
use Rattle.qir_module.specs.declared.block.Block.{Block}
use Rattle.qir_module.specs.declared.profile.Profile.TheVariants.{Adaptive}
use Rattle.qir_module.specs.Module.{Module}
use Rattle.qq_tool.specs.declared.thin.ThinLine.{ThinLine}
use Rattle.qq_tool.specs.Thin.{Thin, IsThin}
use Rattle.qq_tool.specs.ThinRun.{labels_of}
use Rattle.qq_tool.specs.Compiled.{Implements}
use Rattle.qq_tool.specs.Lowered.{call, lines_instrs, lines_count, lines_operands, record_instrs, declared_by, last_operands, lowered_block, lowered}
use Rattle.qq_tool.proofs.Orders.{lowered_numbered}
use Rattle.qq_tool.proofs.Passing.{lowered_passes}
use Rattle.qq_tool.proofs.Runs.{lowered_runs}
use Rattle.qq_tool.proofs.Shapes.{lowered_shaped}

pub lowered_implements : (p : Thin) → IsThin p → Implements (lowered p) p
lowered_implements p thin = record {
  shaped = lowered_shaped p thin;
  numbered = lowered_numbered p thin;
  passes = lowered_passes p thin;
  labels = refl;
  qubits = refl;
  same_run = lowered_runs p thin;
}

-- the module that is made of these parts
abbrev pub made : List (List ℕ) → List Block → List Function → ℕ → ℕ → Module
made labels blocks declarations qubits results = record {
  labels = labels;
  blocks = blocks;
  declarations = declarations;
  profile = Adaptive;
  qubits = qubits;
  results = results;
  major = 2;
  minor = 0;
  dynamic_qubits = false;
  dynamic_results = false;
}

abbrev ended_block : List Instr → Block
ended_block body = record { name = 0; phis = []; body = body; last = Return (pos 0) }

-- what is made step by step, from the start of the block over the lines to the records, is that module
pub made_implements : (p : Thin) → IsThin p → (lines : List ThinLine) → lines ≡ p.lines
    → (first : List Instr) (zeros : List Operand) (none : ℕ) → first ≡ call 0 (Id 0 ∷ []) ∷ [] → zeros ≡ replicate p.bits (Fixed (pos 0)) → none ≡ 0
    → (body : List Instr) (operands : List Operand) (results : ℕ) → body ≡ first ++ lines_instrs none lines → operands ≡ lines_operands none lines zeros → results ≡ lines_count none lines
    → (block : Block) → block ≡ ended_block (body ++ record_instrs operands)
    → (labels : List (List ℕ)) → labels ≡ labels_of p → (blocks : List Block) → blocks ≡ block ∷ [] → (declarations : List Function) → declarations ≡ declared_by lines
    → Implements (made labels blocks declarations p.qubits results) p
made_implements p thin lines lines_is first zeros none first_is zeros_is none_is body operands results body_is operands_is results_is block block_is labels labels_is blocks blocks_is declarations declarations_is =
    subst (λ (m : Module). Implements m p) (sym module_is) (lowered_implements p thin)
  where
    whole_body : body ≡ call 0 (Id 0 ∷ []) ∷ lines_instrs 0 p.lines
    whole_body = body_is ∙ ap (λ is. is ++ lines_instrs none lines) first_is ∙ ap (λ n. call 0 (Id 0 ∷ []) ∷ lines_instrs n lines) none_is ∙ ap (λ ls. call 0 (Id 0 ∷ []) ∷ lines_instrs 0 ls) lines_is

    whole_operands : operands ≡ last_operands p
    whole_operands = operands_is ∙ ap (λ n. lines_operands n lines zeros) none_is ∙ ap (λ ls. lines_operands 0 ls zeros) lines_is ∙ ap (λ os. lines_operands 0 p.lines os) zeros_is

    whole_block : block ≡ lowered_block p
    whole_block = block_is ∙ ap (λ is. ended_block (is ++ record_instrs operands)) whole_body ∙ ap (λ os. ended_block (call 0 (Id 0 ∷ []) ∷ (lines_instrs 0 p.lines ++ record_instrs os))) whole_operands

    whole_results : results ≡ lines_count 0 p.lines
    whole_results = results_is ∙ ap (λ n. lines_count n lines) none_is ∙ ap (λ ls. lines_count 0 ls) lines_is

    module_is : made labels blocks declarations p.qubits results ≡ lowered p
    module_is =
        ap (λ ls. made ls blocks declarations p.qubits results) labels_is
        ∙ ap (λ bs. made (labels_of p) bs declarations p.qubits results) (blocks_is ∙ ap (λ b. b ∷ []) whole_block)
        ∙ ap (λ fs. made (labels_of p) (lowered_block p ∷ []) fs p.qubits results) (declarations_is ∙ ap (λ ls. declared_by ls) lines_is)
        ∙ ap (λ n. made (labels_of p) (lowered_block p ∷ []) (declared_by p.lines) p.qubits n) whole_results
