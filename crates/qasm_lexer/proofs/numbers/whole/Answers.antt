use Rattle.std.proofs.Common.{inl, inr, ⊎_elim}
use Rattle.qasm_lexer.proofs.WholeFinds.{based_found, based_too_large, numeral_cut, numeral_found, numeral_too_large, major_found, major_too_large}
use Rattle.qasm_lexer.proofs.numbers.whole.Goals as goal

pub returns-in_default-value_of : goal.returns-in_default-value_of
returns-in_default-value_of c =
    based_too_large c.requires.digits c.requires.no_point c.requires.no_exponent c.in-Some.ensures c.args.version _ c.front_of.ensures.whole c.in_default-value_of.ensures

pub returns-in-Some : goal.returns-in-Some
returns-in-Some c =
    based_found c.requires.digits c.requires.no_point c.requires.no_exponent c.in-Some.ensures c.args.version _ _ c.front_of.ensures.whole c.in-Some-value_of.ensures

pub front_of-digits-requires : goal.front_of-digits-requires
front_of-digits-requires c =
    (_, numeral_cut c.requires.digits c.requires.no_point c.requires.no_exponent c.requires.first.2 c.requires.first.1 c.skip_digits-end.ensures)

pub returns-in_default-small_value_of : goal.returns-in_default-small_value_of
returns-in_default-small_value_of c =
    major_too_large c.requires.digits c.requires.no_point c.requires.no_exponent c.requires.first.2 c.requires.first.1 c.skip_digits-end.ensures c.args.version c.if-version.true _ c.in_default.ensures c.if-end-point.true c.front_of-digits.ensures.whole c.in_default-small_value_of.ensures

pub returns-then-end-point : goal.returns-then-end-point
returns-then-end-point c =
    major_found c.requires.digits c.requires.no_point c.requires.no_exponent c.requires.first.2 c.requires.first.1 c.skip_digits-end.ensures c.args.version c.if-version.true _ _ c.in_default.ensures c.if-end-point.true c.front_of-digits.ensures.whole c.in-Some-small_value_of.ensures

pub returns-in_default-value_of-2 : goal.returns-in_default-value_of-2
returns-in_default-value_of-2 c =
    numeral_too_large c.requires.digits c.requires.no_point c.requires.no_exponent c.requires.first.2 c.requires.first.1 c.skip_digits-end.ensures c.args.version _ c.in_default.ensures (⊎_elim (λ h. inr h.1) (λ h. inl h) c.else-version.either) c.front_of-digits.ensures.whole c.in_default-value_of-2.ensures

pub returns : goal.returns
returns c =
    numeral_found c.requires.digits c.requires.no_point c.requires.no_exponent c.requires.first.2 c.requires.first.1 c.skip_digits-end.ensures c.args.version _ _ c.in_default.ensures (⊎_elim (λ h. inr h.1) (λ h. inl h) c.else-version.either) c.front_of-digits.ensures.whole c.in-Some-value_of-2.ensures
