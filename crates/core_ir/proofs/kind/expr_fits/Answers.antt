use Rattle.std.proofs.Common.{sym, ap, ◌∙◌, true≢false}
use Rattle.std.specs.Option.{is_some}
use Rattle.std.proofs.lemmas.Option.{slice_get-get_or}
use Rattle.core_ir.proofs.Exprs.{fits_from, fits_names, fits_kind}
use Rattle.core_ir.proofs.kind.expr_fits.Goals as goal

pub returns-then-names_earlier : goal.returns-then-names_earlier
returns-then-names_earlier c =
    let found = slice_get-get_or c.args.exprs.now c.args.k _ c.requires.there in
    let is = c.is_some.ensures ∙ ap is_some c.node_kind.ensures in
    ((λ some. fits_from _ _ _ _ c.requires.fit found (c.names_earlier.ensures.0 c.if-names_earlier.true) (sym is ∙ some)), (λ fits. is ∙ fits_kind _ _ _ _ c.requires.fit found fits))

pub returns-else-names_earlier : goal.returns-else-names_earlier
returns-else-names_earlier c =
    let found = slice_get-get_or c.args.exprs.now c.args.k _ c.requires.there in
    ((λ earlier. absurd (true≢false (sym earlier ∙ c.if-names_earlier.false))), (λ fits. c.names_earlier.ensures.1 (fits_names _ _ _ _ found fits)))
