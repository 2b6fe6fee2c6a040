use Rattle.std.proofs.Common.{◌≡◌, ◌+◌, ◌++◌, ℕ, List, length, subst, sym, ap, ◌∙◌, arith}
use Rattle.std.specs.List.Sorted.{IsStrictlyIncreasing}
use Rattle.core_ir.specs.Core.{Core}
use Rattle.core_ir.specs.declared.expression.CoreExpr.{CoreExpr}
use Rattle.qir_module.specs.declared.instruction.Instr.{Instr}
use Rattle.qir_module.specs.declared.instruction.Operand.{Operand}
use Rattle.expr_lower.specs.Coded.{coded}
use Rattle.expr_lower.specs.Lowered.{reached_nodes, IsLowered}
use Rattle.expr_lower.proofs.Collecting.{order_increasing}
use Rattle.expr_lower.proofs.Counting.{order_few, code_short}
use Rattle.expr_lower.proofs.Coding.{coded_by, is_coded}
use Rattle.expr_lower.proofs.lower.lower_expr.Goals as goal

pub emit-requires-clause-rises : goal.emit-requires-clause-rises
emit-requires-clause-rises c = subst IsStrictlyIncreasing (sym c.deref-4.ensures.value) (order_increasing c.deref.result.now c.args.exprs.now c.in_ok-order.order.items c.in_ok-order.ensures)

pub emit-requires-clause-room : goal.emit-requires-clause-room
emit-requires-clause-room c =
    let few = order_few c.deref.result.now c.args.exprs.now c.in_ok-order.order.items c.in_ok-order.ensures in
    let is : c.deref.result.now ≡ c.args.core.now.exprs = c.deref.ensures.value ∙ ap (λ (v : Core). v.exprs) c.core.view_is in
    omega (arith, few, ap (λ (es : List CoreExpr). reached_nodes es c.args.exprs.now) is, ap length c.deref-4.ensures.value, c.requires.room)

pub pick-requires : goal.pick-requires
pick-requires c = subst IsStrictlyIncreasing (sym c.deref-5.ensures.value) (order_increasing c.deref.result.now c.args.exprs.now c.in_ok-order.order.items c.in_ok-order.ensures)

pub overflow_cast-next : goal.overflow_cast-next
overflow_cast-next c =
    let short = code_short c.deref.result.now c.deref-2.result.now c.deref-3.result.now c.args.cells.now c.args.exprs.now c.in_ok-order.order.items c.deref-4.result.now c.args.next.now c.in_ok-done.field-0.code.items c.in_ok-order.ensures c.deref-4.ensures.value c.in_ok-done.ensures.code in
    let is : c.deref.result.now ≡ c.args.core.now.exprs = c.deref.ensures.value ∙ ap (λ (v : Core). v.exprs) c.core.view_is in
    omega (arith, short, ap (λ (es : List CoreExpr). reached_nodes es c.args.exprs.now) is, c.len-count.ensures, c.in_ok-done.field-0.code.ok.0, c.requires.room)

pub overflow_add-next : goal.overflow_add-next
overflow_add-next c =
    let short = code_short c.deref.result.now c.deref-2.result.now c.deref-3.result.now c.args.cells.now c.args.exprs.now c.in_ok-order.order.items c.deref-4.result.now c.args.next.now c.in_ok-done.field-0.code.items c.in_ok-order.ensures c.deref-4.ensures.value c.in_ok-done.ensures.code in
    let is : c.deref.result.now ≡ c.args.core.now.exprs = c.deref.ensures.value ∙ ap (λ (v : Core). v.exprs) c.core.view_is in
    omega (arith, short, ap (λ (es : List CoreExpr). reached_nodes es c.args.exprs.now) is, c.len-count.ensures, c.in_ok-done.field-0.code.ok.0, c.requires.room)

pub returns-clause-code : goal.returns-clause-code
returns-clause-code c =
    let is = coded_by c.args.core.now c.args.exprs.now c.in_ok-order.order.items c.deref-4.result.now c.deref-5.result.now c.deref.result.now c.deref-2.result.now c.deref-3.result.now c.args.cells.now c.args.next.now
    c.in_ok-done.field-0.done.items c.deref-6.result.now c.in_ok-done.field-0.code.items c.in_ok-operands.operands.items
    (c.deref.ensures.value ∙ ap (λ (v : Core). v.exprs) c.core.view_is) c.in_ok-order.ensures (c.deref-2.ensures.value ∙ ap (λ (v : Core). v.exprs) c.core.view_is) (c.deref-3.ensures.value ∙ ap (λ (v : Core). v.cells) c.core.view_is)
    c.deref-4.ensures.value c.deref-5.ensures.value c.in_ok-done.ensures.done c.in_ok-done.ensures.code c.deref-6.ensures.value c.in_ok-operands.ensures in
    c.in_ok-append.ensures.items ∙ ap (λ (is : List Instr). c.args.body.now.items ++ is) is.0

pub returns-clause-operands : goal.returns-clause-operands
returns-clause-operands c = (coded_by c.args.core.now c.args.exprs.now c.in_ok-order.order.items c.deref-4.result.now c.deref-5.result.now c.deref.result.now c.deref-2.result.now c.deref-3.result.now c.args.cells.now c.args.next.now
    c.in_ok-done.field-0.done.items c.deref-6.result.now c.in_ok-done.field-0.code.items c.in_ok-operands.operands.items
    (c.deref.ensures.value ∙ ap (λ (v : Core). v.exprs) c.core.view_is) c.in_ok-order.ensures (c.deref-2.ensures.value ∙ ap (λ (v : Core). v.exprs) c.core.view_is) (c.deref-3.ensures.value ∙ ap (λ (v : Core). v.cells) c.core.view_is)
    c.deref-4.ensures.value c.deref-5.ensures.value c.in_ok-done.ensures.done c.in_ok-done.ensures.code c.deref-6.ensures.value c.in_ok-operands.ensures).1

pub returns-clause-after : goal.returns-clause-after
returns-clause-after c =
    let is = coded_by c.args.core.now c.args.exprs.now c.in_ok-order.order.items c.deref-4.result.now c.deref-5.result.now c.deref.result.now c.deref-2.result.now c.deref-3.result.now c.args.cells.now c.args.next.now
    c.in_ok-done.field-0.done.items c.deref-6.result.now c.in_ok-done.field-0.code.items c.in_ok-operands.operands.items
    (c.deref.ensures.value ∙ ap (λ (v : Core). v.exprs) c.core.view_is) c.in_ok-order.ensures (c.deref-2.ensures.value ∙ ap (λ (v : Core). v.exprs) c.core.view_is) (c.deref-3.ensures.value ∙ ap (λ (v : Core). v.cells) c.core.view_is)
    c.deref-4.ensures.value c.deref-5.ensures.value c.in_ok-done.ensures.done c.in_ok-done.ensures.code c.deref-6.ensures.value c.in_ok-operands.ensures in
    ap (λ (n : ℕ). c.args.next.now + n) (c.len-count.ensures ∙ c.in_ok-done.field-0.code.ok.0 ∙ ap (λ (is : List Instr). length is) is.0)

pub returns-clause-ok : goal.returns-clause-ok
returns-clause-ok c safe held are =
    let is = coded_by c.args.core.now c.args.exprs.now c.in_ok-order.order.items c.deref-4.result.now c.deref-5.result.now c.deref.result.now c.deref-2.result.now c.deref-3.result.now c.args.cells.now c.args.next.now
    c.in_ok-done.field-0.done.items c.deref-6.result.now c.in_ok-done.field-0.code.items c.in_ok-operands.operands.items
    (c.deref.ensures.value ∙ ap (λ (v : Core). v.exprs) c.core.view_is) c.in_ok-order.ensures (c.deref-2.ensures.value ∙ ap (λ (v : Core). v.exprs) c.core.view_is) (c.deref-3.ensures.value ∙ ap (λ (v : Core). v.cells) c.core.view_is)
    c.deref-4.ensures.value c.deref-5.ensures.value c.in_ok-done.ensures.done c.in_ok-done.ensures.code c.deref-6.ensures.value c.in_ok-operands.ensures in
    let lowers = (is_coded c.expressions_unfold.ensures c.args.core.now c.requires.well_formed safe held).lowers c.args.exprs.now c.args.cells.now c.args.next.now c.requires.within are in (
      c.in_ok-done.field-0.code.items,
      c.in_ok-append.ensures.items,
      ap (λ (n : ℕ). c.args.next.now + n) (c.len-count.ensures ∙ c.in_ok-done.field-0.code.ok.0),
      subst (λ (os : List Operand). IsLowered c.args.core.now c.args.exprs.now c.args.cells.now c.args.next.now c.in_ok-done.field-0.code.items os) (sym is.1)
          (subst (λ (is : List Instr). IsLowered c.args.core.now c.args.exprs.now c.args.cells.now c.args.next.now is (coded c.args.core.now c.args.exprs.now c.args.cells.now c.args.next.now).operands) (sym is.0) lowers),
    )
