use Rattle.std.proofs.Common.{refl, arith}
use Rattle.gate_lists.specs.Amounts.{params_of, IsNamed}
use Rattle.gate_lists.proofs.ByRow.{inverse_is, four_all, place_within}
use Rattle.gate_lists.proofs.Rows.{inverse_row}
use Rattle.gate_lists.proofs.member.Member.inverse.Goals as goal

pub bounds-self-a : goal.bounds-self-a
bounds-self-a c = place_within c.args.row.order (params_of c.args.self.now.gate.0) 0 (inverse_row c.args.self.now.gate.0 c.args.row c.requires).order (omega arith)

pub bounds-self-b : goal.bounds-self-b
bounds-self-b c = place_within c.args.row.order (params_of c.args.self.now.gate.0) 1 (inverse_row c.args.self.now.gate.0 c.args.row c.requires).order (omega arith)

pub bounds-self-c : goal.bounds-self-c
bounds-self-c c = place_within c.args.row.order (params_of c.args.self.now.gate.0) 2 (inverse_row c.args.self.now.gate.0 c.args.row c.requires).order (omega arith)

pub bounds-self-d : goal.bounds-self-d
bounds-self-d c = place_within c.args.row.order (params_of c.args.self.now.gate.0) 3 (inverse_row c.args.self.now.gate.0 c.args.row c.requires).order (omega arith)

pub invariant_of-result : goal.invariant_of-result
invariant_of-result c = record { of_table = (inverse_row c.args.self.now.gate.0 c.args.row c.requires).of_table; four = refl; three = c.args.self.now.three }

pub returns-clause-seen : goal.returns-clause-seen
returns-clause-seen c = λ worths.
    inverse_is worths c.args.self.now c.args.row _ c.negated.result c.negated-2.result c.negated-3.result c.negated-4.result c.requires
    (c.negated.ensures.units worths) (c.negated-2.ensures.units worths) (c.negated-3.ensures.units worths) (c.negated-4.ensures.units worths)

pub returns-clause-named : goal.returns-clause-named
returns-clause-named c = λ turns all.
    let order = (inverse_row c.args.self.now.gate.0 c.args.row c.requires).order in
    let four = c.args.self.now.four in
    let a = place_within c.args.row.order (params_of c.args.self.now.gate.0) 0 order (omega arith) in
    let b = place_within c.args.row.order (params_of c.args.self.now.gate.0) 1 order (omega arith) in
    let e = place_within c.args.row.order (params_of c.args.self.now.gate.0) 2 order (omega arith) in
    let f = place_within c.args.row.order (params_of c.args.self.now.gate.0) 3 order (omega arith) in
    four_all (IsNamed turns) c.negated.result c.negated-2.result c.negated-3.result c.negated-4.result
    (c.negated.ensures.named turns (all _ _ (omega arith))) (c.negated-2.ensures.named turns (all _ _ (omega arith)))
    (c.negated-3.ensures.named turns (all _ _ (omega arith))) (c.negated-4.ensures.named turns (all _ _ (omega arith)))
