use Rattle.std.proofs.Common.{◌≡◌, ℕ, false, length, ap, sym, subst}
use Rattle.qq_base.specs.declared.rule.Rule.TheVariants.{WrongKind}
use Rattle.qasm_ast.specs.declared.expr.OperandName.{OperandName}
use Rattle.qasm_ast.specs.Tree.{named}
use Rattle.qasm_ast.specs.View.{brackets_in, called_in}
use Rattle.qasm_ast.specs.Whole.{NameFits}
use Rattle.const_eval.specs.IsConstant.{is_constant}
use Rattle.const_eval.specs.Meaning.{meaning_in}
use Rattle.gate_lists.specs.Paid.{AnswersWithin}
use Rattle.gate_arguments.specs.Arguments.{argument_walk, called_value}
use Rattle.gate_arguments.specs.Scope.{turn_of}
use Rattle.gate_arguments.specs.Seen.{scope_names, scope_seen}
use Rattle.gate_arguments.proofs.Arguing.{name_fails}
use Rattle.gate_arguments.proofs.argument.named_turn.Goals as goal

pub returns-in-Hardware-clause-answer : goal.returns-in-Hardware-clause-answer
returns-in-Hardware-clause-answer g c = λ worths.
    let program = c.args.program.now in
    let operand = c.args.operand.now in
    let sc = scope_seen program worths (g.E.Constants.names c.args.scope.now.env.now) (g.E.GateEnv.callables c.args.scope.now.env.now) (g.E.GateEnv.operands c.args.scope.now.env.now) (g.E.GateEnv.inside c.args.scope.now.env.now) c.args.scope.now.body in
    let is = ap (λ (name : OperandName). called_value sc c.args.place (called_in program name)) c.in-Hardware.is in
    rw c.refused.ensures (name_fails sc (called_in program operand.name) (brackets_in program operand.index) operand.at c.args.place c.requires.running c.args.budget.now (record { rule = WrongKind; at = c.args.place }) is)

pub meant_turn-requires-clause-in_range : goal.meant_turn-requires-clause-in_range
meant_turn-requires-clause-in_range g c = subst (NameFits (length c.args.program.now.names)) c.in-Name.is c.requires.in_range.name

pub meant_turn-requires-clause-running : goal.meant_turn-requires-clause-running
meant_turn-requires-clause-running g c =
    let program = c.args.program.now in
    let operand = c.args.operand.now in
    let means = meaning_in program (scope_names (g.E.Constants.names c.args.scope.now.env.now) (g.E.GateEnv.inside c.args.scope.now.env.now) c.args.scope.now.body) in
    subst (λ (name : OperandName). is_constant means (named (called_in program name) (brackets_in program operand.index) operand.at c.args.place) ≡ false) c.in-Name.is c.requires.running

pub returns-in-Name-clause-answer : goal.returns-in-Name-clause-answer
returns-in-Name-clause-answer g c = λ worths.
    let program = c.args.program.now in
    let operand = c.args.operand.now in
    let sc = scope_seen program worths (g.E.Constants.names c.args.scope.now.env.now) (g.E.GateEnv.callables c.args.scope.now.env.now) (g.E.GateEnv.operands c.args.scope.now.env.now) (g.E.GateEnv.inside c.args.scope.now.env.now) c.args.scope.now.body in
    subst (λ (name : OperandName). AnswersWithin c.args.budget.now c.meant_turn.new.budget (λ (turn : ℕ). turn_of (worths turn)) c.meant_turn.result (argument_walk sc (named (called_in program name) (brackets_in program operand.index) operand.at c.args.place)))
    (sym c.in-Name.is) (c.meant_turn.ensures.answer worths)
