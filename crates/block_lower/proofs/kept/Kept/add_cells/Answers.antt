use Rattle.std.proofs.Common.{List, ap, sym, ◌∙◌}
use Rattle.qir_module.specs.declared.instruction.Operand.{Operand}
use Rattle.cell_operands.specs.Operands.{operand_of}
use Rattle.block_lower.proofs.Keeping.{kept_miss, listed_in_both}
use Rattle.block_lower.proofs.kept.Kept.add_cells.Goals as goal

pub returns-clause-keeps : goal.returns-clause-keeps
returns-clause-keeps c = λ x none. (listed_in_both c.args.cells.now.items c.deref.result.now c.self.inside.cells.items c.extend_from_slice.new.self.items x c.in_ok-extend_from_slice.ensures.items c.deref.ensures.value none).0

pub returns-clause-adds : goal.returns-clause-adds
returns-clause-adds c = λ x none.
    let both = listed_in_both c.args.cells.now.items c.deref.result.now c.self.inside.cells.items c.extend_from_slice.new.self.items x c.in_ok-extend_from_slice.ensures.items c.deref.ensures.value none in
    sym (ap (λ (row : List Operand). operand_of row x) c.self.view_is) ∙ kept_miss c.self.inside.count c.self.inside.cells.items c.self.inside.operands.items x both.1
