use Rattle.std.proofs.Common.{ap}
use Rattle.source_calls.specs.Calls.{inside_in}
use Rattle.source_calls.proofs.Numbers.{number_tells, inner_number_tells, newest_found}
use Rattle.source_calls.proofs.laws.definitions_are_found.Goals as goal

pub returns : goal.returns
returns c = record {
  told = number_tells;
  definition = λ x g scopes e. rw (number_tells x _ scopes e) (newest_found x g scopes e);
  inside = λ x thing scopes text e. ap (λ s. inside_in s text) (number_tells x thing scopes e);
  number = inner_number_tells;
}
