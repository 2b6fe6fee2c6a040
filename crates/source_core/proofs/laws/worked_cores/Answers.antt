use Rattle.std.proofs.Common.{refl}
use Rattle.source_core.proofs.laws.worked_cores.Goals as goal

pub returns-clause-runs : goal.returns-clause-runs
returns-clause-runs c = record { swapped = refl; asked = refl; stopped = refl; no_turn = refl; repeated = refl; running = refl; running_stopped = refl; in_copies = refl; in_members = refl; ended = refl; downwards = refl; bounds_once = refl; copies_left = refl; copies_in_turns = refl; by_value = refl; by_reference = refl; returned_from_loops = refl; call_in_call = refl; ended_in_call = refl }

pub returns-clause-stores : goal.returns-clause-stores
returns-clause-stores c = record { divided = refl; bits_cast = refl; angles = refl; members_assigned = refl; measured_twice = refl; compared = refl; shadowed = refl; outputs = refl; end_before_a_global = refl }
