use Rattle.phi_place.proofs.Listed.{cells_begin}
use Rattle.phi_place.proofs.cells.+add_cells.Goals as goal

pub loop-j-init : goal.loop-j-init
loop-j-init t c = cells_begin _ _ _ _ _ _ c.statements_unfold.ensures c.requires.later c.requires.within c.index-stmts-k.is c.in_ok-add_own.ensures c.first_body-j-items.ensures
