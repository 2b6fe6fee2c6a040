use Rattle.std.proofs.Common.{◌≡◌, ◌++◌, take}
use Rattle.qir_module.specs.Written.{body_text}
use Rattle.qir_writer.proofs.block.write_body.Given as goal

abbrev pub invariant-loop-instr : goal.invariant-loop-instr
invariant-loop-instr l = l.out.items ≡ l.fn.out.items ++ body_text (take l.instr-index l.body)
