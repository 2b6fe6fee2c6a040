use Rattle.std.proofs.Common.{sym}
use Rattle.qir_module.specs.Kinds.{kind_of}
use Rattle.qir_module.specs.Grammar.{type_of_kind}
use Rattle.qir_reader.specs.Headings.{type_of}
use Rattle.qir_reader.proofs.SameTypes.{lengths_differ}
use Rattle.qir_reader.proofs.declaration.are_of_kinds.Goals as goal

pub returns-then-written-kinds : goal.returns-then-written-kinds
returns-then-written-kinds c = sym (lengths_differ (λ kind. type_of_kind (kind_of kind)) type_of c.args.kinds.now c.args.written.now c.if-written-kinds.true)
