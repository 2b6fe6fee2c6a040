-- Names in arguments, by what they mean.
use Rattle.std.proofs.Common.{◌≡◌, ℕ, ◌+◌, ◌<◌, Bool, true, false, ◌&&◌, nat_eq, List, [], ◌∷◌, length, ℤ, Option, Some, Result, Ok, refl, sym, ap, ◌∙◌, arith}
use Rattle.std.specs.Map.{lookup}
use Rattle.std.specs.Option.{option_and_then, unwrap_or}
use Rattle.qq_base.specs.declared.refusal.Fault.{Fault}
use Rattle.qq_base.specs.declared.refusal.Span.{Span}
use Rattle.qq_base.specs.declared.rule.Rule.{Rule}
use Rattle.qq_base.specs.declared.rule.Rule.TheVariants.{WrongKind}
use Rattle.qq_base.specs.declared.run.QubitId.{QubitId}
use Rattle.qasm_ast.specs.declared.expr.IndexRef.{IndexRef}
use Rattle.qasm_ast.specs.declared.expr.OperandName.{OperandName}
use Rattle.qasm_ast.specs.Tree.{Called, word, named}
use Rattle.qasm_ast.specs.Whole.{Source}
use Rattle.qasm_ast.specs.View.{bracket_in, brackets_in, number_of, text_in}
use Rattle.alias_resolve.specs.Places.{Selected}
use Rattle.const_eval.specs.declared.constant.BitRegister.{BitRegister}
use Rattle.const_eval.specs.declared.constant.Const.{Const}
use Rattle.const_eval.specs.declared.constant.Const.TheVariants as constant
use Rattle.const_eval.specs.declared.environment.Callable.{Callable}
use Rattle.const_eval.specs.Answers.{Fails}
use Rattle.const_eval.specs.Constant.{Constant, is_register, register_of}
use Rattle.const_eval.specs.ConstantWalk.{indexes_walk}
use Rattle.const_eval.specs.IsConstant.{is_called_constant, is_constant}
use Rattle.const_eval.specs.Meaning.{Meaning, Held, Running, Nothing, is_held, meaning_in}
use Rattle.const_eval.specs.Refusing.{refused}
use Rattle.const_eval.specs.Seen.{MeaningInside, constant_of}
use Rattle.gate_lists.specs.declared.budget.Budget.{Budget}
use Rattle.gate_lists.specs.Paid.{paid_from}
use Rattle.gate_arguments.specs.declared.scope.Body.{Body}
use Rattle.gate_arguments.specs.Arguments.{argument_walk, called_value, named_value}
use Rattle.gate_arguments.specs.Scope.{Scope, turn_of}
use Rattle.gate_arguments.specs.Seen.{cost_alone, scope_names, scope_seen, turn_in, units_in}
use Rattle.gate_arguments.proofs.Arguing.{bits_unpaid, indexes_stop, name_is_turn, name_takes_none, turn_unpaid}
use Rattle.gate_arguments.proofs.Naming.{units_of_turn}

-- what a name means by its number
pub meaning_is : (p : Source) (names : List (ℕ × Meaning)) (n : ℕ) (m : Meaning) → number_of p.names (text_in p n) ≡ Some n → lookup (nat_eq n) names ≡ Some m → meaning_in p names (text_in p n) ≡ m
meaning_is p names n m e h = ap (λ o. unwrap_or (option_and_then (λ k. lookup (nat_eq k) names) o) Nothing) e ∙ ap (λ o. unwrap_or o Nothing) h

-- what a name stands for in a scope, by its number
module _ (p : Source) (worths : ℕ → ℤ) (names : List (ℕ × Meaning)) (callables : List (ℕ × Callable)) (operands : List (OperandName × Result (Selected QubitId) Rule)) (inside : List ((ℕ × ℕ) × MeaningInside)) (body : Option Body)
    (n : ℕ) (numbered : number_of p.names (text_in p n) ≡ Some n) (place : Span) where
  abbrev here : Scope
  here = scope_seen p worths names callables operands inside body

  abbrev called : Called
  called = word (text_in p n)

  pub stands_for : (m : Meaning) → lookup (nat_eq n) (scope_names names inside body) ≡ Some m → called_value here place called ≡ named_value place (units_in p worths body (text_in p n)) m
  stands_for m h = ap (named_value place (units_in p worths body (text_in p n))) (meaning_is p (scope_names names inside body) n m numbered h)

  pub turn_called : (t : ℕ) → lookup (nat_eq n) (scope_names names inside body) ≡ Some Running → turn_in body n ≡ Some t → called_value here place called ≡ Ok (turn_of (worths t))
  turn_called t h i = stands_for Running h ∙ ap Ok (units_of_turn p worths body n t numbered i)

  pub held_called : (c : Constant) → lookup (nat_eq n) (scope_names names inside body) ≡ Some (Held c) → is_called_constant here.means called ≡ true
  held_called c h = ap is_held (meaning_is p (scope_names names inside body) n (Held c) numbered h)

module _ (sc : Scope) (p : Source) (name : Called) (operand place : Span) (b : Budget) where
  pub some_take_none : (index : List IndexRef) (c : Constant) → 0 < length index → is_constant sc.means (named name (brackets_in p index) operand place) ≡ false → called_value sc place name ≡ Ok c → is_register c ≡ false
      → paid_from b (argument_walk sc (named name (brackets_in p index) operand place)) ≡ refused WrongKind place
  some_take_none [] c lt running e other = absurd (omega arith)
  some_take_none (i ∷ is) c lt running e other = name_takes_none sc name operand place b (bracket_in p i) (brackets_in p is) c running e other

  -- a constant that is no register is constant without brackets
  pub held_takes_none : (index : List IndexRef) (c : Constant) → is_called_constant sc.means name ≡ true → is_constant sc.means (named name (brackets_in p index) operand place) ≡ false → called_value sc place name ≡ Ok c → is_register c ≡ false
      → paid_from b (argument_walk sc (named name (brackets_in p index) operand place)) ≡ refused WrongKind place
  held_takes_none [] c held running e other = let constant = sym (ap (λ t. t && true) held) ∙ running in absurd cc
  held_takes_none (i ∷ is) c held running e other = name_takes_none sc name operand place b (bracket_in p i) (brackets_in p is) c running e other

  pub turn_alone : (index : List IndexRef) (new : Budget) (w : ℤ) → length index ≡ 0 → is_constant sc.means (named name (brackets_in p index) operand place) ≡ false → called_value sc place name ≡ Ok (turn_of w) → paid_from b (cost_alone 2) ≡ Ok (tt, new)
      → paid_from b (argument_walk sc (named name (brackets_in p index) operand place)) ≡ Ok (turn_of w, new)
  turn_alone [] new w none running e paid = name_is_turn sc name operand place b new w running e paid
  turn_alone (i ∷ is) new w none running e paid = absurd (omega arith)

  pub alone_unpaid : (index : List IndexRef) (w : ℤ) (why : Fault) → length index ≡ 0 → is_constant sc.means (named name (brackets_in p index) operand place) ≡ false → called_value sc place name ≡ Ok (turn_of w) → Fails why (paid_from b (cost_alone 2))
      → Fails why (paid_from b (argument_walk sc (named name (brackets_in p index) operand place)))
  alone_unpaid [] w why none running e h = turn_unpaid sc name operand place b w why running e h
  alone_unpaid (i ∷ is) w why none running e h = absurd (omega arith)

  module _ (bits : List Bool) (held : is_called_constant sc.means name ≡ true) (e : called_value sc place name ≡ Ok (register_of bits)) where
    pub register_unpaid : (index : List IndexRef) (why : Fault) → is_constant sc.means (named name (brackets_in p index) operand place) ≡ false → Fails why (paid_from b (cost_alone (1 + length bits)))
        → Fails why (paid_from b (argument_walk sc (named name (brackets_in p index) operand place)))
    register_unpaid [] why running h = let constant = sym (ap (λ t. t && true) held) ∙ running in absurd cc
    register_unpaid (i ∷ is) why running h = bits_unpaid sc name operand place b (bracket_in p i) (brackets_in p is) bits running e why h

    pub register_stops : (index : List IndexRef) (b1 : Budget) (why : Fault) → is_constant sc.means (named name (brackets_in p index) operand place) ≡ false → paid_from b (cost_alone (1 + length bits)) ≡ Ok (tt, b1)
        → Fails why (paid_from b1 (indexes_walk sc.means true (brackets_in p index))) → Fails why (paid_from b (argument_walk sc (named name (brackets_in p index) operand place)))
    register_stops [] b1 why running paid h = let constant = sym (ap (λ t. t && true) held) ∙ running in absurd cc
    register_stops (i ∷ is) b1 why running paid h = indexes_stop sc name operand place b (bracket_in p i) (brackets_in p is) bits running e b1 why paid h

-- a constant that is no string of bits
pub no_register : (k : Const) → ((bits : BitRegister) → k ≡ constant.Bits bits → ⊥) → is_register (constant_of k) ≡ false
no_register (constant.Whole w) other = refl
no_register (constant.Pi f) other = refl
no_register (constant.Bool b) other = refl
no_register (constant.Bits bits) other = absurd (other bits refl)
no_register (constant.Angle a) other = refl
