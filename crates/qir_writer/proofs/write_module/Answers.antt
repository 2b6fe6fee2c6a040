use Rattle.std.proofs.Common.{rules}
use Rattle.qir_writer.proofs.Texts.{written_of}
use Rattle.qir_writer.proofs.write_module.Goals as goal

pub returns : goal.returns
returns c =
    written_of c.args.module.now c.write_labels.new.out.items c.write_definition.new.out.items c.write_declarations.new.out.items c.write_attributes.new.out.items
    c.extend_from_slice.new.self.items c.write_flags.new.out.items
    (search rules) (search rules) (search rules) (search rules) c.in_ok-extend_from_slice.ensures.items (search rules)
