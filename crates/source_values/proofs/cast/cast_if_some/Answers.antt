use Rattle.std.specs.Int.{w128}
use Rattle.std.proofs.lemmas.Int.{to_z-of_z}
use Rattle.std.proofs.Common.{◌∙◌, ap, sym}
use Rattle.qasm_types.specs.Values.{reduced_to}
use Rattle.source_values.specs.Seen.{seen}
use Rattle.source_values.proofs.Casting.{reduced_cast}
use Rattle.source_values.proofs.cast.cast_if_some.Goals as goal

pub returns-in_default : goal.returns-in_default
returns-in_default c =
    let back = to_z-of_z w128 c.low_number.result (record { sfits = c.low_number.type_inv }) in
    reduced_cast c.congruent_numbers_reduce_alike.ensures (seen c.args.value.now).type (seen c.args.value.now).value c.args.ty c.low_number.result (seen c.reduced_value.result) c.requires.is_type c.requires.written
    c.in_default.not-Bool c.in_default.not-Bits c.in_default.not-Angle c.low_number.ensures.congruent c.reduced_value.ensures.ty (sym (ap (reduced_to c.args.ty) back) ∙ c.reduced_value.ensures.value)
