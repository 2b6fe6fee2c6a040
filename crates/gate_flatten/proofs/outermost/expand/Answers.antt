use Rattle.std.proofs.Common.{◌≡◌, ◌≤◌, length, ap, sym, ◌∙◌, arith, Ok}
use Rattle.std.proofs.lemmas.Result.{err_from_is_err_and}
use Rattle.gate_lists.specs.Turns.{worth_at}
use Rattle.gate_lists.specs.Worths.{worth_at-AreWorths}
use Rattle.gate_arguments.specs.Seen.{arguments_seen}
use Rattle.gate_flatten.specs.Seen.{outer_arguments}
use Rattle.gate_flatten.proofs.Growing.{worths_before}
use Rattle.gate_flatten.proofs.Answering.{call_answered, call_fails, parts_count}
use Rattle.gate_flatten.proofs.outermost.expand.Goals as goal

pub returns-in_err-list-clause-exact : goal.returns-in_err-list-clause-exact
returns-in_err-list-clause-exact g c = λ given.
    let p = err_from_is_err_and c.from_residual-in_err-list.result c.from_residual-in_err-list.ensures.1 in
    let worths = worth_at given c.call_list.new.work.turns.items.items in
    let are = worth_at-AreWorths given c.call_list.new.work.turns.args c.call_list.new.work.turns.items.items c.call_list.new.work.turns.fit in
    let before = worths_before given worths c.outer_arguments.new.turns.items.items c.call_list.new.work.turns.items.items c.in_err-list.ensures.leaves.kept are in
    let same : arguments_seen worths c.deref.result.now ≡ outer_arguments given 0 (g.E.CallEnv.outers c.args.env.now) = rw c.deref.ensures.value (c.in_ok-arguments.ensures.worths given worths before) in
    rw (p.1, p.2)
    (call_fails c.args.program.now (g.E.Constants.names c.args.env.now) (g.E.GateEnv.callables c.args.env.now) (g.E.GateEnv.operands c.args.env.now) (g.E.GateEnv.inside c.args.env.now)
    c.args.call.0 c.stmt-stmt.result.now c.stmt-stmt.ensures.tree _ _ _ _ c.in-GateCall.is given worths (g.E.CallEnv.outers c.args.env.now) c.deref.result.now c.args.budget c.in_err-list.field-0.0 same
    (c.in_err-list.ensures.answer given worths are))

pub returns-clause-exact : goal.returns-clause-exact
returns-clause-exact g c = λ given.
    let worths = worth_at given c.in_ok-finished.field-0.turns.items in
    let are = c.in_ok-finished.ensures.worths given in
    let before = worths_before given worths c.outer_arguments.new.turns.items.items c.call_list.new.work.turns.items.items c.in_ok-list.ensures.leaves.kept are in
    let same : arguments_seen worths c.deref.result.now ≡ outer_arguments given 0 (g.E.CallEnv.outers c.args.env.now) = rw c.deref.ensures.value (c.in_ok-arguments.ensures.worths given worths before) in
    let answer = c.in_ok-finished.ensures.exact given in
    let seen = rw c.deref-2.ensures.value at answer in
    call_answered c.args.program.now (g.E.Constants.names c.args.env.now) (g.E.GateEnv.callables c.args.env.now) (g.E.GateEnv.operands c.args.env.now) (g.E.GateEnv.inside c.args.env.now)
    c.args.call.0 c.stmt-stmt.result.now c.stmt-stmt.ensures.tree _ _ _ _ c.in-GateCall.is given worths (g.E.CallEnv.outers c.args.env.now) c.deref.result.now c.args.budget _ _ same
    (c.in_ok-list.ensures.answer given worths are)
    ∙ ap Ok (sym seen)

pub returns-clause-turns : goal.returns-clause-turns
returns-clause-turns g c =
    let named = c.in_ok-list.ensures.leaves.args in
    let first = c.in_ok-arguments.ensures.args in
    let count = parts_count (g.E.GateEnv.operands c.args.env.now) (g.E.CallEnv.outers c.args.env.now) _ c.stmt-stmt.result.now _ _ _ _ c.stmt-stmt.ensures.found c.in-GateCall.is c.requires.serves.has_parts in
    let view = c.args-2.view_is in
    let items = ap length view in
    let len = c.len.ensures in
    let le : c.call_list.new.work.turns.args ≤ length (g.E.CallEnv.outers c.args.env.now) = omega (arith, named, first, count, items, len) in
    c.in_ok-finished.ensures.turns (length (g.E.CallEnv.outers c.args.env.now)) le
