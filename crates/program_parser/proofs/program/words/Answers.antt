use Rattle.std.proofs.Common.{◌≡◌, ℕ, List, Vec, Global, IfOk, nat_eq, sym, subst}
use Rattle.std.specs.List.{IsDistinct}
use Rattle.std.specs.Cmp.Lexicographic.{pointwise}
use Rattle.std.proofs.lemmas.Iterator.{items_from_collect}
use Rattle.std.proofs.lemmas.Iterator.Consumers.{YieldsList-from_rest}
use Rattle.program_parser.proofs.program.words.Goals as goal

pub returns-clause-items : goal.returns-clause-items
returns-clause-items c =
    subst (λ r. IfOk r (λ (v : Vec (List ℕ) Global). v.items ≡ c.args.names.keys)) c.in_ok-words.was
    (items_from_collect c.collect.result c.collect.ensures.ran (YieldsList-from_rest c.args.names.keys c.into_iter.ensures.into_iter_gives.0))

pub returns-clause-distinct : goal.returns-clause-distinct
returns-clause-distinct c =
    subst (IsDistinct (pointwise nat_eq)) (sym (returns-clause-items c)) c.len.ensures.unique
