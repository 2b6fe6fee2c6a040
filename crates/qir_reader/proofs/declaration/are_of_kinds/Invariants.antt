use Rattle.std.proofs.Common.{◌≡◌, drop}
use Rattle.qir_module.specs.Kinds.{kind_of}
use Rattle.qir_module.specs.Grammar.{type_of_kind}
use Rattle.qir_reader.specs.Headings.{type_of}
use Rattle.qir_reader.proofs.SameTypes.{fit}
use Rattle.qir_reader.proofs.declaration.are_of_kinds.Given as goal

-- all types fit where those that are left do
abbrev pub invariant-loop-index : goal.invariant-loop-index
invariant-loop-index l = fit (λ kind. type_of_kind (kind_of kind)) type_of l.kinds l.written ≡ fit (λ kind. type_of_kind (kind_of kind)) type_of (drop l.index l.kinds) (drop l.index l.written)
