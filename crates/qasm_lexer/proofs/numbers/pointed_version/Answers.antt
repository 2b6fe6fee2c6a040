use Rattle.std.proofs.Common.{inl, inr}
use Rattle.qasm_lexer.proofs.NumberFinds.{version_found, version_too_large, value_cut, small_is, large_is}
use Rattle.qasm_lexer.proofs.numbers.pointed_version.Goals as goal

pub returns-in_default : goal.returns-in_default
returns-in_default c =
    version_too_large c.requires.major c.requires.point c.requires.minor c.requires.no_exponent
    (inl (large_is _ _ c.in_default.ensures (value_cut c.requires.major.0 _ c.front_of.ensures.whole)))

pub returns-in_default-small_value_of : goal.returns-in_default-small_value_of
returns-in_default-small_value_of c =
    version_too_large c.requires.major c.requires.point c.requires.minor c.requires.no_exponent
    (inr (large_is _ _ c.in_default-small_value_of.ensures (value_cut c.requires.minor.0 _ c.front_of-2.ensures.whole)))

pub returns : goal.returns
returns c =
    version_found c.requires.major c.requires.point c.requires.minor c.requires.no_exponent c.in-Some.major c.in-Some-small_value_of.minor
    (small_is _ _ _ c.in-Some.ensures (value_cut c.requires.major.0 _ c.front_of.ensures.whole))
    (small_is _ _ _ c.in-Some-small_value_of.ensures (value_cut c.requires.minor.0 _ c.front_of-2.ensures.whole))
