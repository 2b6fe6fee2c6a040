use Rattle.std.proofs.Common.{◌≡◌, ℕ, ◌<◌, List, length, get_or, pos, sym, ap, ◌∙◌, subst, arith}
use Rattle.std.specs.Prelude.{Ok, Err}
use Rattle.std.specs.Ordering.{nat_cmp}
use Rattle.std.specs.List.Sorted.{IsBinarySearchResult}
use Rattle.qir_module.specs.declared.instruction.Operand.{Operand}
use Rattle.qir_module.specs.declared.instruction.Operand.TheVariants.{Fixed}
use Rattle.cell_operands.specs.Operands.{operand_of}
use Rattle.block_lower.specs.Kept.{kept_row}
use Rattle.block_lower.proofs.Keeping.{found, missing, kept_hit, kept_miss}
use Rattle.block_lower.proofs.kept.Kept.get.Goals as goal

pub returns-in-Ok : goal.returns-in-Ok
returns-in-Ok c =
    let kept = c.self.inside in
    let at = found kept.cells.items c.args.c c.in-Ok.place c.self.invariant.rises (subst (λ (us : List ℕ). IsBinarySearchResult (λ y. nat_cmp y c.args.c) us (Ok c.in-Ok.place)) c.deref.ensures.value c.in-Ok.ensures.position) in
    c.index.ensures ∙ sym (kept_hit kept.count kept.cells.items kept.operands.items c.in-Ok.place c.index.result.now c.self.invariant at.0)
    ∙ ap (operand_of (kept_row kept.count kept.cells.items kept.operands.items)) at.1 ∙ ap (λ (row : List Operand). operand_of row c.args.c) c.self.view_is

pub returns-in-Err : goal.returns-in-Err
returns-in-Err c =
    let kept = c.self.inside in
    sym (kept_miss kept.count kept.cells.items kept.operands.items c.args.c (missing kept.cells.items c.args.c c.in-Err.field-0 c.self.invariant.rises (subst (λ (us : List ℕ). IsBinarySearchResult (λ y. nat_cmp y c.args.c) us (Err c.in-Err.field-0)) c.deref.ensures.value c.in-Err.ensures.position)))
    ∙ ap (λ (row : List Operand). operand_of row c.args.c) c.self.view_is
