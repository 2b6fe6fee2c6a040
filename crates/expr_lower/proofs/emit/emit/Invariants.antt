use Rattle.std.proofs.Common.{◌≡◌, ◌≤◌, ◌+◌, ◌++◌, [], drop}
use Rattle.expr_lower.specs.Emit.{emit}
use Rattle.expr_lower.proofs.emit.emit.Given as goal

-- what is emitted so far, and what the expressions that are left give, are all
abbrev pub invariant-loop-k : goal.invariant-loop-k
invariant-loop-k l =
    ((emit l.exprs l.kinds l.cells l.order (drop l.k-index l.order) l.done.items l.free).done ≡ (emit l.exprs l.kinds l.cells l.order l.order [] l.next).done)
    × (l.code.items ++ (emit l.exprs l.kinds l.cells l.order (drop l.k-index l.order) l.done.items l.free).code ≡ (emit l.exprs l.kinds l.cells l.order l.order [] l.next).code)
    × (l.free ≤ l.next + l.k-index)
