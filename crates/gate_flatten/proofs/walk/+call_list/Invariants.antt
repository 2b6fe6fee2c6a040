use Rattle.std.proofs.Common.{◌≡◌, ℕ, ◌+◌, ◌-◌, ◌*◌, map, ℤ}
use Rattle.gate_lists.specs.Growing.{AreWorths, Grows}
use Rattle.gate_lists.specs.Members.{instructions_in}
use Rattle.gate_lists.specs.Paid.{paid_from}
use Rattle.gate_arguments.specs.Environment.{declarations_in}
use Rattle.gate_arguments.specs.Seen.{open_in, scope_seen}
use Rattle.gate_flatten.specs.Expand.{applied}
use Rattle.gate_flatten.specs.Served.{applications_walk, member_by, placed_seen, ready_seen, body_walk}
use Rattle.gate_flatten.proofs.Bodies.{from_application, from_statement}
use Rattle.gate_flatten.proofs.Fronts.{in_front}
use Rattle.gate_flatten.proofs.walk.+call_list.Given as goal

abbrev pub decreases-call_list : goal.decreases-call_list
decreases-call_list g l = 5 * l.levels

abbrev pub decreases-applied_list : goal.decreases-applied_list
decreases-applied_list g l = 5 * l.levels + 4

abbrev pub decreases-gate_list : goal.decreases-gate_list
decreases-gate_list g l = 5 * l.levels + 3

abbrev pub decreases-body_list : goal.decreases-body_list
decreases-body_list g l = 5 * l.levels + 2

abbrev pub decreases-member_list : goal.decreases-member_list
decreases-member_list g l = 5 * l.levels + 1

-- the instructions of the applications that are done, in front of those of the others
abbrev pub invariant-call_list-loop-k : goal.invariant-call_list-loop-k
invariant-call_list-loop-k g l =
    let names = g.E.Constants.names l.scope.env.now in
    let callables = g.E.GateEnv.callables l.scope.env.now in
    let operands = g.E.GateEnv.operands l.scope.env.now in
    let inside = g.E.GateEnv.inside l.scope.env.now in
    let p = l.around.program.now in
    record {
      due : (given worths : ℕ → ℤ) → AreWorths given worths l.work.turns.items.items
          → paid_from l.initial.work.budget (applications_walk p names callables operands inside worths (l.levels - 1) l.scope.body l.made)
          ≡ in_front (instructions_in worths l.list.items) (paid_from l.work.budget (from_application (applied (declarations_in p inside) (member_by p names callables operands inside worths (l.levels - 1)) (open_in l.scope.body) (ready_seen p worths l.made.ready) l.made.modifiers.items) (map placed_seen l.made.operands.items) l.k (l.made.times - l.k)));
      leaves : Grows l.initial.work l.work l.list.items;
      args : l.work.turns.args ≡ l.initial.work.turns.args;
    }

-- the instructions of the statements that are done, in front of those of the others
abbrev pub invariant-body_list-loop-id : goal.invariant-body_list-loop-id
invariant-body_list-loop-id g l =
    let names = g.E.Constants.names l.scope.env.now in
    let callables = g.E.GateEnv.callables l.scope.env.now in
    let operands = g.E.GateEnv.operands l.scope.env.now in
    let inside = g.E.GateEnv.inside l.scope.env.now in
    let p = l.around.program.now in
    record {
      due : (given worths : ℕ → ℤ) → AreWorths given worths l.work.turns.items.items
          → paid_from l.initial.work.budget (body_walk p names callables operands inside worths l.levels l.scope.body l.body)
          ≡ in_front (instructions_in worths l.list.items) (paid_from l.work.budget (from_statement p (member_by p names callables operands inside worths l.levels (scope_seen p worths names callables operands inside l.scope.body)) l.id-index l.body));
      leaves : Grows l.initial.work l.work l.list.items;
      args : l.work.turns.args ≡ l.initial.work.turns.args;
    }
