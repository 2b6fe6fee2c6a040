use Rattle.qasm_grammar.proofs.Rooms.{program_fits}
use Rattle.qasm_grammar.proofs.laws.programs_fit_their_room.Goals as goal

pub returns : goal.returns
returns c = program_fits
