use Rattle.std.proofs.Common.{◌+◌, ◌*◌}
use Rattle.lower_cases.proofs.run.Runner.+running.Given as goal

abbrev pub decreases-run_body : goal.decreases-run_body
decreases-run_body l = 4 * l.levels + 2

abbrev pub decreases-run_numbered : goal.decreases-run_numbered
decreases-run_numbered l = 4 * l.levels + 1

abbrev pub decreases-run_stmt : goal.decreases-run_stmt
decreases-run_stmt l = 4 * l.levels + 4

abbrev pub decreases-run_loop : goal.decreases-run_loop
decreases-run_loop l = 4 * l.levels + 3
