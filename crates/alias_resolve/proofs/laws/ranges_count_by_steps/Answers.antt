use Rattle.alias_resolve.proofs.Counting.{so_many, each}
use Rattle.alias_resolve.proofs.laws.ranges_count_by_steps.Goals as goal

pub returns : goal.returns
returns c = record { so_many = so_many; each = each }
