use Rattle.std.proofs.Common.{ℕ, List, sym, ap, refl, subst, arith, reverse}
use Rattle.core_ir.specs.declared.expression.CoreExpr.TheVariants.{Cell}
use Rattle.expr_lower.specs.Order.{Collects}
use Rattle.expr_lower.proofs.Collecting.{collect_start, collect_more, collect_inside, collect_smaller, collect_end, none_left, roots_put}
use Rattle.expr_lower.proofs.reached.reached.Goals as goal

pub loop-k-init : goal.loop-k-init
loop-k-init c =
    subst (λ (o : List ℕ). Collects c.args.exprs.now c.args.roots.now c.loop-root.pending.keys o) (sym (ap reverse c.new-order.ensures.items))
    (collect_start c.args.exprs.now c.args.roots.now c.loop-root.pending.keys c.requires.within (roots_put c.loop-root.pending.keys c.args.roots.now c.loop-root.root-index (omega arith) c.loop-root.invariant))

pub bounds-exprs-k : goal.bounds-exprs-k
bounds-exprs-k c = (collect_inside c.args.exprs.now c.args.roots.now c.loop-k.pending.keys c.pop_last.new.self.keys c.loop-k.order.items c.in-Some.k c.in-Some.ensures.removal c.loop-k.invariant).1

pub loop-k-smaller : goal.loop-k-smaller
loop-k-smaller c =
    collect_smaller c.args.exprs.now c.args.roots.now c.loop-k.pending.keys c.pop_last.new.self.keys c.loop-k.order.items c.push.new.self.items c.in-Some.k c.in-Some.ensures.removal c.in_ok-push.ensures.items c.loop-k.invariant

pub loop-k-preserved : goal.loop-k-preserved
loop-k-preserved c =
    collect_more c.args.exprs.now c.args.roots.now c.loop-k.pending.keys c.pop_last.new.self.keys c.put_operands.new.pending.keys c.loop-k.order.items c.push.new.self.items c.in-Some.k _ (Cell 0) c.requires.earlier c.requires.within
    c.in-Some.ensures.removal c.in-Some.ensures.all_below (collect_inside c.args.exprs.now c.args.roots.now c.loop-k.pending.keys c.pop_last.new.self.keys c.loop-k.order.items c.in-Some.k c.in-Some.ensures.removal c.loop-k.invariant).1
    refl c.in_ok-put_operands.ensures c.in_ok-push.ensures.items c.loop-k.invariant

pub returns : goal.returns
returns c =
    collect_end c.args.exprs.now c.args.roots.now c.loop-k.pending.keys c.loop-k.order.items c.reverse.new.self.items (none_left _ c.in_default.ensures.variant.1) c.reverse.ensures.items c.loop-k.invariant
