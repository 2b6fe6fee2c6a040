use Rattle.machine_words.proofs.Exact.{quotient_signed, rest_signed, right_signed, quotient_unsigned, rest_unsigned}
use Rattle.machine_words.proofs.Comparing.{equal_signed, less_signed, at_most_signed, equal_unsigned, less_unsigned, at_most_unsigned}
use Rattle.machine_words.proofs.ranges_are_exact.Goals as goal

pub returns-clause-signed : goal.returns-clause-signed
returns-clause-signed c = record { quotients = quotient_signed; rests = rest_signed; right = right_signed; equal = equal_signed; less = less_signed; at_most = at_most_signed }

pub returns-clause-unsigned : goal.returns-clause-unsigned
returns-clause-unsigned c = record { quotients = quotient_unsigned; rests = rest_unsigned; equal = equal_unsigned; less = less_unsigned; at_most = at_most_unsigned }
