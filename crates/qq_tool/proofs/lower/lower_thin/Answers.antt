use Rattle.std.proofs.Common.{length, ap, subst, pos, arith}
use Rattle.std.proofs.lemmas.List.{length-replicate}
use Rattle.qir_module.specs.declared.instruction.Operand.TheVariants.{Fixed}
use Rattle.qq_tool.specs.Thin.{Thin}
use Rattle.qq_tool.specs.Compiled.{Implements}
use Rattle.qq_tool.proofs.Lowering.{made, made_implements}
use Rattle.qq_tool.proofs.Shapes.{length-lines_operands}
use Rattle.qq_tool.proofs.lower.lower_thin.Goals as goal

pub finish-requires : goal.finish-requires
finish-requires c =
    omega (arith, ap length c.in_ok-add_lines.ensures.operands, length-lines_operands c.in_ok-draft.draft.measured c.as_slice-lines.result.now c.in_ok-draft.draft.operands.items, ap length c.in_ok-draft.ensures.operands, length-replicate c.program.inside.bits (Fixed (pos 0)), c.program.invariant.few_bits)

pub invariant_of-result : goal.invariant_of-result
invariant_of-result c =
    let p : Thin = record { qubits = c.program.inside.qubits; bits = c.program.inside.bits; lines = c.program.inside.lines.items } in
    let done = made_implements p c.program.invariant c.as_slice-lines.result.now c.as_slice-lines.ensures.value
    c.in_ok-draft.draft.body.items c.in_ok-draft.draft.operands.items c.in_ok-draft.draft.measured c.in_ok-draft.ensures.body c.in_ok-draft.ensures.operands c.in_ok-draft.ensures.measured
    c.add_lines.new.self.body.items c.add_lines.new.self.operands.items c.add_lines.new.self.measured c.in_ok-add_lines.ensures.body c.in_ok-add_lines.ensures.operands c.in_ok-add_lines.ensures.measured
    c.in_ok-block.block c.in_ok-block.ensures c.in_ok-labels.field-0 c.in_ok-labels.ensures c.in_ok-one.field-0 c.in_ok-one.ensures c.in_ok-declarations.field-0 c.in_ok-declarations.ensures in
    done.shaped

pub returns : goal.returns
returns c =
    let p : Thin = record { qubits = c.program.inside.qubits; bits = c.program.inside.bits; lines = c.program.inside.lines.items } in
    let done = made_implements p c.program.invariant c.as_slice-lines.result.now c.as_slice-lines.ensures.value
    c.in_ok-draft.draft.body.items c.in_ok-draft.draft.operands.items c.in_ok-draft.draft.measured c.in_ok-draft.ensures.body c.in_ok-draft.ensures.operands c.in_ok-draft.ensures.measured
    c.add_lines.new.self.body.items c.add_lines.new.self.operands.items c.add_lines.new.self.measured c.in_ok-add_lines.ensures.body c.in_ok-add_lines.ensures.operands c.in_ok-add_lines.ensures.measured
    c.in_ok-block.block c.in_ok-block.ensures c.in_ok-labels.field-0 c.in_ok-labels.ensures c.in_ok-one.field-0 c.in_ok-one.ensures c.in_ok-declarations.field-0 c.in_ok-declarations.ensures in
    subst (λ (q : Thin). Implements (made c.in_ok-labels.field-0 c.in_ok-one.field-0 c.in_ok-declarations.field-0 c.program.inside.qubits c.add_lines.new.self.measured) q) c.program.view_is done
