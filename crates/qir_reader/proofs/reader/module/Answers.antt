use Rattle.qir_reader.proofs.Deciding.{whole}
use Rattle.qir_reader.proofs.reader.module.Goals as goal

-- nothing stands behind the module
pub module_of-requires : goal.module_of-requires
module_of-requires c =
    c.requires.shaped _ (whole c.args.text.now c.in-Ok.ensures c.in-Ok-ending.found.0 c.in-Ok-ending.found.1 c.ending.new.cursor c.in_default.is (c.in-Ok-ending.ensures c.in-Ok.ensures.value) c.in-None.ensures)
