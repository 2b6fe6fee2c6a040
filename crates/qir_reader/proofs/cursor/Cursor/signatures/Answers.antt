use Rattle.std.proofs.Common.{◌≡◌, ◌+◌, ◌-◌, ◌++◌, ◌∷◌, [], false, true, Some, sym, ap, ◌∙◌, subst}
use Rattle.std.proofs.lemmas.Result.{err_from_is_err_and}
use Rattle.qir_module.specs.declared.function.Function.{Function}
use Rattle.qir_module.specs.Grammar.{is_right}
use Rattle.qir_module.specs.Reader.{read_signatures}
use Rattle.qir_reader.specs.Headings.{place_of_wrong}
use Rattle.qir_reader.proofs.Kept.{RightSoFar, right_stop, right_end, right_fail, right_more, wrong_last, wrong_is, wrong_functions}
use Rattle.qir_reader.proofs.cursor.Cursor.signatures.Goals as goal

pub returns-then-not-sees_word : goal.returns-then-not-sees_word
unfolding read_signatures
returns-then-not-sees_word c =
    let h = c.loop.invariant in
    record { value = h.signatures; shown = (h.functions_are, sym (ap place_of_wrong h.right)); read = right_stop h (sym c.sees_word.ensures ∙ c.if-not-sees_word.true) }

pub returns : goal.returns
unfolding read_signatures
returns c =
    let h = c.loop.invariant in
    record { value = h.signatures; shown = (h.functions_are, sym (ap place_of_wrong h.right)); read = right_end c.count-end.result c.loop.counter h c.loop-test.false }

pub returns-in_err-signature : goal.returns-in_err-signature
unfolding read_signatures
returns-in_err-signature c =
    let p = err_from_is_err_and c.from_residual.result c.from_residual.ensures.1 in
    rw (p.1, p.2) (λ other. right_fail c.count-end.result c.loop.counter c.loop.invariant c.loop-test.true (sym c.sees_word.ensures ∙ c.if-not-sees_word.false) (c.in_err-signature.ensures other))

pub returns-then-not-right : goal.returns-then-not-right
unfolding read_signatures
returns-then-not-right c =
    let h = c.loop.invariant in
    let r = c.in_ok-signature.ensures in
    let wrong : is_right r.value ≡ false = sym r.shown.2 ∙ c.if-not-right.true in
    let functions : c.push.new.self.items ≡ c.loop.functions.items ++ r.value.function ∷ [] = c.in_ok-push.ensures.items ∙ ap (λ (f : Function). c.loop.functions.items ++ f ∷ []) r.shown.0 in
    record {
      value = h.signatures ++ r.value ∷ [];
      shown = (functions ∙ wrong_functions r.value (c.count-end.result - c.loop.counter) h, ap Some r.shown.1 ∙ sym (ap place_of_wrong (wrong_is r.value (c.count-end.result - c.loop.counter) h wrong)));
      read = wrong_last c.count-end.result c.loop.counter r.value h c.loop-test.true (sym c.sees_word.ensures ∙ c.if-not-sees_word.false) r.read wrong;
    }

pub loop-preserved : goal.loop-preserved
loop-preserved c =
    let r = c.in_ok-signature.ensures in
    let right : is_right r.value ≡ true = sym r.shown.2 ∙ c.if-not-right.false in
    let functions : c.push.new.self.items ≡ c.loop.functions.items ++ r.value.function ∷ [] = c.in_ok-push.ensures.items ∙ ap (λ (f : Function). c.loop.functions.items ++ f ∷ []) r.shown.0 in
    subst (λ fs. RightSoFar c.args.self.now (c.count-end.result - (c.loop.counter + 1)) fs c.signature.new.self) (sym functions)
    (right_more c.count-end.result c.loop.counter r.value c.loop.invariant c.loop-test.true (sym c.sees_word.ensures ∙ c.if-not-sees_word.false) r.read right)
