use Rattle.core_ir.proofs.ValueKinds.{values_have_kinds}
use Rattle.core_ir.proofs.laws.values_have_kinds.Goals as goal

pub returns : goal.returns
returns c = values_have_kinds
