use Rattle.expr_lower.proofs.Collecting.{place_found, place_missing}
use Rattle.expr_lower.proofs.emit.place.Goals as goal

pub returns-in-Ok : goal.returns-in-Ok
returns-in-Ok c = place_found c.args.order.now c.args.k c.in-Ok.place c.binary_search.result c.in-Ok.is c.binary_search.ensures.position c.requires

pub returns-in-Err : goal.returns-in-Err
returns-in-Err c = place_missing c.args.order.now c.args.k c.in-Err.field-0 c.binary_search.result c.in-Err.is c.binary_search.ensures.position c.requires
