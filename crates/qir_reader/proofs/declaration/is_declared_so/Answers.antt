use Rattle.std.proofs.Common.{◌&&◌, map, sym, ap, ◌∙◌}
use Rattle.qir_module.specs.Functions.{row_of}
use Rattle.qir_module.specs.Grammar.{Signature, same_truth}
use Rattle.qir_reader.specs.Headings.{type_of}
use Rattle.qir_reader.proofs.Declared.{declared_by, bits_are, not_false}
use Rattle.qir_reader.proofs.declaration.is_declared_so.Goals as goal

pub returns-then-not-are_of_kinds : goal.returns-then-not-are_of_kinds
returns-then-not-are_of_kinds c = λ at.
    let row = c.in-Some.row in
    let s : Signature = record { function = c.args.function; at = at; takes = map type_of c.args.takes.now; gives = c.args.gives; irreversible = c.args.irreversible } in
    sym (
    declared_by (row_of c.args.function.0) row.takes.now row.gives row.irreversible s c.in-Some.ensures.takes c.in-Some.ensures.gives c.in-Some.ensures.irreversible
    ∙ ap (λ b. b && same_truth row.gives c.args.gives && same_truth row.irreversible c.args.irreversible) (sym c.are_of_kinds.ensures ∙ c.if-not-are_of_kinds.true)
    )

pub returns : goal.returns
returns c = λ at.
    let row = c.in-Some.row in
    let s : Signature = record { function = c.args.function; at = at; takes = map type_of c.args.takes.now; gives = c.args.gives; irreversible = c.args.irreversible } in
    sym (
    declared_by (row_of c.args.function.0) row.takes.now row.gives row.irreversible s c.in-Some.ensures.takes c.in-Some.ensures.gives c.in-Some.ensures.irreversible
    ∙ ap (λ b. b && same_truth row.gives c.args.gives && same_truth row.irreversible c.args.irreversible) (sym c.are_of_kinds.ensures ∙ c.if-not-are_of_kinds.false)
    ∙ ap (λ b. b && same_truth row.irreversible c.args.irreversible) (sym (bits_are row.gives c.args.gives) ∙ not_false _ c.if-row-gives.false)
    ∙ sym (bits_are row.irreversible c.args.irreversible)
    )
