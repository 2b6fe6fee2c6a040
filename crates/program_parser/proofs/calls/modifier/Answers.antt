use Rattle.std.proofs.Common.{refl, sym, ap, ◌∙◌, arith}
use Rattle.qasm_lexer.specs.declared.token.Token.{Token}
use Rattle.qasm_ast.specs.Tree.{inverse, power, control, absent, present}
use Rattle.qasm_grammar.specs.Reader.{read_modifier}
use Rattle.qasm_parser.proofs.Growing.{after_on, fewer}
use Rattle.program_parser.proofs.calls.modifier.Goals as goal

pub returns-then-sees_word : goal.returns-then-sees_word
unfolding read_modifier
returns-then-sees_word c =
    let w = c.in_ok-at.ensures in
    record { value = inverse w.value.at; shown = record { holds = λ v f. (tt, ap (λ (t : Token). inverse t.at) w.shown) }; read = rw (sym c.sees_word.ensures ∙ c.if-sees_word.true, w.read) refl; after = w.after }

pub returns-then-sees_word-2 : goal.returns-then-sees_word-2
unfolding read_modifier
returns-then-sees_word-2 c =
    let w = c.in_ok-at-2.ensures in
    let e = c.in_ok-exponent.ensures in
    record {
      value = power e.value w.value.at;
      shown = record { holds = λ v f. let p = e.shown.holds v f in (p.0, rw (p.1, w.shown) refl) };
      read = rw (sym c.sees_word.ensures ∙ c.if-sees_word.false, sym c.sees_word-2.ensures ∙ c.if-sees_word-2.true, w.read, sym w.after.text, e.read) refl;
      after = fewer 2 1 (omega arith) (after_on w.after e.after);
    }

pub returns-then-not-sees : goal.returns-then-not-sees
unfolding read_modifier
returns-then-not-sees c =
    let w = c.in_ok-at-3.ensures in
    record { value = control absent w.value.at; shown = record { holds = λ v f. (tt, ap (λ (t : Token). control absent t.at) w.shown) }; read = rw (sym c.sees_word.ensures ∙ c.if-sees_word.false, sym c.sees_word-2.ensures ∙ c.if-sees_word-2.false, w.read, sym w.after.text, sym c.sees.ensures ∙ c.if-not-sees.true) refl; after = w.after }

pub returns : goal.returns
unfolding read_modifier
returns c =
    let w = c.in_ok-at-3.ensures in
    let e = c.in_ok-count.ensures in
    record {
      value = control (present e.value) w.value.at;
      shown = record { holds = λ v f. let p = e.shown.holds v f in (p.0, rw (p.1, w.shown) refl) };
      read = rw (sym c.sees_word.ensures ∙ c.if-sees_word.false, sym c.sees_word-2.ensures ∙ c.if-sees_word-2.false, w.read, sym w.after.text, sym c.sees.ensures ∙ c.if-not-sees.false, e.read) refl;
      after = fewer 2 1 (omega arith) (after_on w.after e.after);
    }
