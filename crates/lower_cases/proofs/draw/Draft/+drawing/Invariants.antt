use Rattle.std.proofs.Common.{◌+◌, ◌*◌}
use Rattle.lower_cases.proofs.draw.Draft.+drawing.Given as goal

abbrev pub decreases-draw_body : goal.decreases-draw_body
decreases-draw_body l = 3 * l.levels + 2

abbrev pub decreases-draw_stmt : goal.decreases-draw_stmt
decreases-draw_stmt l = 3 * l.levels + 1

abbrev pub decreases-draw_nested : goal.decreases-draw_nested
decreases-draw_nested l = 3 * l.levels + 3
