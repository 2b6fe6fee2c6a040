use Rattle.qasm_gen.proofs.program.line.Goals as goal

pub returns-in-0 : goal.returns-in-0
returns-in-0 c = record { line = rw c.in-0.is c.format.ensures.ok }

pub returns-in-1 : goal.returns-in-1
returns-in-1 c = record { line = rw c.in-1.is c.format-in-1.ensures.ok }
