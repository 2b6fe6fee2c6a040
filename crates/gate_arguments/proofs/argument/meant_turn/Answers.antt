use Rattle.std.proofs.Common.{◌≡◌, ℕ, ◌+◌, ◌<◌, Ok, length, reverse, refl, ap, sym, subst, ◌∙◌, arith}
use Rattle.std.proofs.lemmas.Grind.{common_steps}
use Rattle.std.proofs.lemmas.List.{length-reverse}
use Rattle.std.proofs.lemmas.Result.{err_from_is_err_and}
use Rattle.qq_base.specs.declared.rule.Rule.TheVariants.{Unknown, WrongKind}
use Rattle.qasm_ast.specs.Tree.{word}
use Rattle.qasm_ast.specs.View.{brackets_in, number_of, text_in}
use Rattle.const_eval.specs.declared.constant.BitRegister.{BitRegister}
use Rattle.const_eval.specs.declared.constant.Const.{Const}
use Rattle.const_eval.specs.Answers.{Fails}
use Rattle.const_eval.specs.Meaning.{Held, Nothing, OtherThing}
use Rattle.const_eval.specs.Seen.{constant_of}
use Rattle.gate_lists.specs.Paid.{paid_from}
use Rattle.gate_arguments.specs.Scope.{turn_of}
use Rattle.gate_arguments.specs.Seen.{cost_alone, scope_seen}
use Rattle.gate_arguments.proofs.Arguing.{name_fails}
use Rattle.gate_arguments.proofs.ByKind.{turn_inside}
use Rattle.gate_arguments.proofs.Meant.{alone_unpaid, held_called, held_takes_none, no_register, register_stops, register_unpaid, some_take_none, stands_for, turn_alone, turn_called}
use Rattle.gate_arguments.proofs.argument.meant_turn.Goals as goal

pub returns-then-not-is_empty-clause-answer : goal.returns-then-not-is_empty-clause-answer
returns-then-not-is_empty-clause-answer g c = λ worths.
    let numbered = ap (number_of c.args.program.now.names) c.name-text.ensures.text ∙ c.name-text.ensures.number in
    let sc = scope_seen c.args.program.now worths (g.E.Constants.names c.args.scope.now.env.now) (g.E.GateEnv.callables c.args.scope.now.env.now) (g.E.GateEnv.operands c.args.scope.now.env.now) (g.E.GateEnv.inside c.args.scope.now.env.now) c.args.scope.now.body in
    let is = turn_called c.args.program.now worths (g.E.Constants.names c.args.scope.now.env.now) (g.E.GateEnv.callables c.args.scope.now.env.now) (g.E.GateEnv.operands c.args.scope.now.env.now) (g.E.GateEnv.inside c.args.scope.now.env.now) c.args.scope.now.body c.args.name numbered c.args.place c.parameter_turn-turn.result c.in-Variable.ensures c.parameter_turn-turn.ensures in
    let some : 0 < length c.args.operand.now.index = grind (arith, common_steps) in
    rw c.refused.ensures (some_take_none sc c.args.program.now (word (text_in c.args.program.now c.args.name)) c.args.operand.now.at c.args.place c.args.budget.now c.args.operand.now.index (turn_of (worths c.parameter_turn-turn.result)) some c.requires.running is refl)

pub returns-in_err-pay-in-Variable-clause-answer : goal.returns-in_err-pay-in-Variable-clause-answer
returns-in_err-pay-in-Variable-clause-answer g c = λ worths.
    let numbered = ap (number_of c.args.program.now.names) c.name-text.ensures.text ∙ c.name-text.ensures.number in
    let sc = scope_seen c.args.program.now worths (g.E.Constants.names c.args.scope.now.env.now) (g.E.GateEnv.callables c.args.scope.now.env.now) (g.E.GateEnv.operands c.args.scope.now.env.now) (g.E.GateEnv.inside c.args.scope.now.env.now) c.args.scope.now.body in
    let p = err_from_is_err_and c.from_residual.result c.from_residual.ensures.1 in
    let is = turn_called c.args.program.now worths (g.E.Constants.names c.args.scope.now.env.now) (g.E.GateEnv.callables c.args.scope.now.env.now) (g.E.GateEnv.operands c.args.scope.now.env.now) (g.E.GateEnv.inside c.args.scope.now.env.now) c.args.scope.now.body c.args.name numbered c.args.place c.parameter_turn-turn.result c.in-Variable.ensures c.parameter_turn-turn.ensures in
    let none : length c.args.operand.now.index ≡ 0 = grind (arith, common_steps) in
    rw (p.1, p.2) (alone_unpaid sc c.args.program.now (word (text_in c.args.program.now c.args.name)) c.args.operand.now.at c.args.place c.args.budget.now c.args.operand.now.index (worths c.parameter_turn-turn.result) c.in_err-pay-in-Variable.field-0.0 none c.requires.running is c.in_err-pay-in-Variable.ensures)

pub returns-in_ok-pay-in-Variable-clause-answer : goal.returns-in_ok-pay-in-Variable-clause-answer
returns-in_ok-pay-in-Variable-clause-answer g c = λ worths.
    let numbered = ap (number_of c.args.program.now.names) c.name-text.ensures.text ∙ c.name-text.ensures.number in
    let sc = scope_seen c.args.program.now worths (g.E.Constants.names c.args.scope.now.env.now) (g.E.GateEnv.callables c.args.scope.now.env.now) (g.E.GateEnv.operands c.args.scope.now.env.now) (g.E.GateEnv.inside c.args.scope.now.env.now) c.args.scope.now.body in
    let is = turn_called c.args.program.now worths (g.E.Constants.names c.args.scope.now.env.now) (g.E.GateEnv.callables c.args.scope.now.env.now) (g.E.GateEnv.operands c.args.scope.now.env.now) (g.E.GateEnv.inside c.args.scope.now.env.now) c.args.scope.now.body c.args.name numbered c.args.place c.parameter_turn-turn.result c.in-Variable.ensures c.parameter_turn-turn.ensures in
    let none : length c.args.operand.now.index ≡ 0 = grind (arith, common_steps) in
    turn_alone sc c.args.program.now (word (text_in c.args.program.now c.args.name)) c.args.operand.now.at c.args.place c.args.budget.now c.args.operand.now.index c.pay.new.budget (worths c.parameter_turn-turn.result) none c.requires.running is c.in_ok-pay-in-Variable.ensures

pub returns-in_ok-pay-in-Variable-clause-inside : goal.returns-in_ok-pay-in-Variable-clause-inside
returns-in_ok-pay-in-Variable-clause-inside g c = λ turns fits. turn_inside turns c.args.scope.now.body c.args.name c.parameter_turn-turn.result fits c.parameter_turn-turn.ensures

pub returns-in_default-clause-answer : goal.returns-in_default-clause-answer
returns-in_default-clause-answer g c = λ worths.
    let numbered = ap (number_of c.args.program.now.names) c.name-text.ensures.text ∙ c.name-text.ensures.number in
    let sc = scope_seen c.args.program.now worths (g.E.Constants.names c.args.scope.now.env.now) (g.E.GateEnv.callables c.args.scope.now.env.now) (g.E.GateEnv.operands c.args.scope.now.env.now) (g.E.GateEnv.inside c.args.scope.now.env.now) c.args.scope.now.body in
    let held = held_called c.args.program.now worths (g.E.Constants.names c.args.scope.now.env.now) (g.E.GateEnv.callables c.args.scope.now.env.now) (g.E.GateEnv.operands c.args.scope.now.env.now) (g.E.GateEnv.inside c.args.scope.now.env.now) c.args.scope.now.body c.args.name numbered c.args.place (constant_of c.in-Value.value.now) c.in-Value.ensures in
    let is = stands_for c.args.program.now worths (g.E.Constants.names c.args.scope.now.env.now) (g.E.GateEnv.callables c.args.scope.now.env.now) (g.E.GateEnv.operands c.args.scope.now.env.now) (g.E.GateEnv.inside c.args.scope.now.env.now) c.args.scope.now.body c.args.name numbered c.args.place (Held (constant_of c.in-Value.value.now)) c.in-Value.ensures in
    rw c.refused-in_default.ensures (held_takes_none sc c.args.program.now (word (text_in c.args.program.now c.args.name)) c.args.operand.now.at c.args.place c.args.budget.now c.args.operand.now.index (constant_of c.in-Value.value.now) held c.requires.running is (no_register c.in-Value.value.now c.in_default.not-Bits))

pub returns-in-Other-clause-answer : goal.returns-in-Other-clause-answer
returns-in-Other-clause-answer g c = λ worths.
    let numbered = ap (number_of c.args.program.now.names) c.name-text.ensures.text ∙ c.name-text.ensures.number in
    let sc = scope_seen c.args.program.now worths (g.E.Constants.names c.args.scope.now.env.now) (g.E.GateEnv.callables c.args.scope.now.env.now) (g.E.GateEnv.operands c.args.scope.now.env.now) (g.E.GateEnv.inside c.args.scope.now.env.now) c.args.scope.now.body in
    rw c.refused-in-Other.ensures (name_fails sc (word (text_in c.args.program.now c.args.name)) (brackets_in c.args.program.now c.args.operand.now.index) c.args.operand.now.at c.args.place c.requires.running c.args.budget.now (record { rule = WrongKind; at = c.args.place }) (stands_for c.args.program.now worths (g.E.Constants.names c.args.scope.now.env.now) (g.E.GateEnv.callables c.args.scope.now.env.now) (g.E.GateEnv.operands c.args.scope.now.env.now) (g.E.GateEnv.inside c.args.scope.now.env.now) c.args.scope.now.body c.args.name numbered c.args.place OtherThing c.in-Other.ensures))

pub returns-in-Unknown-clause-answer : goal.returns-in-Unknown-clause-answer
returns-in-Unknown-clause-answer g c = λ worths.
    let numbered = ap (number_of c.args.program.now.names) c.name-text.ensures.text ∙ c.name-text.ensures.number in
    let sc = scope_seen c.args.program.now worths (g.E.Constants.names c.args.scope.now.env.now) (g.E.GateEnv.callables c.args.scope.now.env.now) (g.E.GateEnv.operands c.args.scope.now.env.now) (g.E.GateEnv.inside c.args.scope.now.env.now) c.args.scope.now.body in
    rw c.refused-in-Unknown.ensures (name_fails sc (word (text_in c.args.program.now c.args.name)) (brackets_in c.args.program.now c.args.operand.now.index) c.args.operand.now.at c.args.place c.requires.running c.args.budget.now (record { rule = Unknown; at = c.args.place }) (stands_for c.args.program.now worths (g.E.Constants.names c.args.scope.now.env.now) (g.E.GateEnv.callables c.args.scope.now.env.now) (g.E.GateEnv.operands c.args.scope.now.env.now) (g.E.GateEnv.inside c.args.scope.now.env.now) c.args.scope.now.body c.args.name numbered c.args.place Nothing c.in-Unknown.ensures))

pub returns-in_err-pay-in-Bits-clause-answer : goal.returns-in_err-pay-in-Bits-clause-answer
returns-in_err-pay-in-Bits-clause-answer g c = λ worths.
    let p = err_from_is_err_and c.from_residual-in_err-pay-in-Bits.result c.from_residual-in_err-pay-in-Bits.ensures.1 in
    let numbered = ap (number_of c.args.program.now.names) c.name-text.ensures.text ∙ c.name-text.ensures.number in
    let sc = scope_seen c.args.program.now worths (g.E.Constants.names c.args.scope.now.env.now) (g.E.GateEnv.callables c.args.scope.now.env.now) (g.E.GateEnv.operands c.args.scope.now.env.now) (g.E.GateEnv.inside c.args.scope.now.env.now) c.args.scope.now.body in
    let held = held_called c.args.program.now worths (g.E.Constants.names c.args.scope.now.env.now) (g.E.GateEnv.callables c.args.scope.now.env.now) (g.E.GateEnv.operands c.args.scope.now.env.now) (g.E.GateEnv.inside c.args.scope.now.env.now) c.args.scope.now.body c.args.name numbered c.args.place (constant_of c.in-Value.value.now) c.in-Value.ensures in
    let is = stands_for c.args.program.now worths (g.E.Constants.names c.args.scope.now.env.now) (g.E.GateEnv.callables c.args.scope.now.env.now) (g.E.GateEnv.operands c.args.scope.now.env.now) (g.E.GateEnv.inside c.args.scope.now.env.now) c.args.scope.now.body c.args.name numbered c.args.place (Held (constant_of c.in-Value.value.now)) c.in-Value.ensures ∙ ap (λ (v : Const). Ok (constant_of v)) c.in-Bits.is in
    let viewed = ap (λ (r : BitRegister). r.text) c.bits.view_is in
    let count : c.len.result ≡ length c.in-Bits.bits.text = grind (arith, common_steps) in
    let same = count ∙ sym (length-reverse c.in-Bits.bits.text) in
    let why = c.in_err-pay-in-Bits.field-0.0 in
    let unpaid = subst (λ (k : ℕ). Fails why (paid_from c.args.budget.now (cost_alone (1 + k)))) same c.in_err-pay-in-Bits.ensures in
    rw (p.1, p.2) (register_unpaid sc c.args.program.now (word (text_in c.args.program.now c.args.name)) c.args.operand.now.at c.args.place c.args.budget.now (reverse c.in-Bits.bits.text) held is c.args.operand.now.index why c.requires.running unpaid)

pub returns-in_ok-pay-in-Bits-clause-answer : goal.returns-in_ok-pay-in-Bits-clause-answer
returns-in_ok-pay-in-Bits-clause-answer g c = λ worths.
    let numbered = ap (number_of c.args.program.now.names) c.name-text.ensures.text ∙ c.name-text.ensures.number in
    let sc = scope_seen c.args.program.now worths (g.E.Constants.names c.args.scope.now.env.now) (g.E.GateEnv.callables c.args.scope.now.env.now) (g.E.GateEnv.operands c.args.scope.now.env.now) (g.E.GateEnv.inside c.args.scope.now.env.now) c.args.scope.now.body in
    let held = held_called c.args.program.now worths (g.E.Constants.names c.args.scope.now.env.now) (g.E.GateEnv.callables c.args.scope.now.env.now) (g.E.GateEnv.operands c.args.scope.now.env.now) (g.E.GateEnv.inside c.args.scope.now.env.now) c.args.scope.now.body c.args.name numbered c.args.place (constant_of c.in-Value.value.now) c.in-Value.ensures in
    let is = stands_for c.args.program.now worths (g.E.Constants.names c.args.scope.now.env.now) (g.E.GateEnv.callables c.args.scope.now.env.now) (g.E.GateEnv.operands c.args.scope.now.env.now) (g.E.GateEnv.inside c.args.scope.now.env.now) c.args.scope.now.body c.args.name numbered c.args.place (Held (constant_of c.in-Value.value.now)) c.in-Value.ensures ∙ ap (λ (v : Const). Ok (constant_of v)) c.in-Bits.is in
    let viewed = ap (λ (r : BitRegister). r.text) c.bits.view_is in
    let count : c.len.result ≡ length c.in-Bits.bits.text = grind (arith, common_steps) in
    let same = count ∙ sym (length-reverse c.in-Bits.bits.text) in
    let paid = subst (λ (k : ℕ). paid_from c.args.budget.now (cost_alone (1 + k)) ≡ Ok (tt, c.pay-in-Bits.new.budget)) same c.in_ok-pay-in-Bits.ensures in
    register_stops sc c.args.program.now (word (text_in c.args.program.now c.args.name)) c.args.operand.now.at c.args.place c.args.budget.now (reverse c.in-Bits.bits.text) held is c.args.operand.now.index c.pay-in-Bits.new.budget c.no_indexes.result c.requires.running paid c.no_indexes.ensures
