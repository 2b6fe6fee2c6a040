use Rattle.std.proofs.Common.{All, refl, sym, ap, ◌∙◌, subst, true≢false}
use Rattle.std.proofs.lemmas.List.Elements.{All-nil}
use Rattle.core_ir.specs.WellFormed.{inner_of, IsLater}
use Rattle.core_ir.proofs.Bodies.{all_front, all_back, both_parts, stmt_read, one_inner, no_inner}
use Rattle.core_ir.proofs.body.names_later.Goals as goal

pub returns-then-all_later : goal.returns-then-all_later
returns-then-all_later c =
    let is = ap inner_of (stmt_read _ _ _ _ c.requires c.index-stmts-k.is c.in-If.is) in
    let P = IsLater c.args.k _ in (
      (λ second. subst (All P) (sym is) (both_parts P _ _ (c.all_later.ensures.0 c.if-all_later.true) (c.all_later-then-all_later.ensures.0 second))),
      (λ all. c.all_later-then-all_later.ensures.1 (all_back P _ _ (subst (All P) is all))),
    )

pub returns-else-all_later : goal.returns-else-all_later
returns-else-all_later c =
    let is = ap inner_of (stmt_read _ _ _ _ c.requires c.index-stmts-k.is c.in-If.is) in
    let P = IsLater c.args.k _ in (
      (λ first. absurd (true≢false (sym first ∙ c.if-all_later.false))),
      (λ all. c.all_later.ensures.1 (all_front P _ _ (subst (All P) is all))),
    )

pub returns-in-Block : goal.returns-in-Block
returns-in-Block c =
    let is = ap inner_of (stmt_read _ _ _ _ c.requires c.index-stmts-k.is refl) ∙ one_inner _ _ c.in-Block.is in
    let P = IsLater c.args.k _ in
    ((λ later. subst (All P) (sym is) (c.all_later-in-Block.ensures.0 later)), (λ all. c.all_later-in-Block.ensures.1 (subst (All P) is all)))

pub returns-in_default : goal.returns-in_default
returns-in_default c =
    let is = ap inner_of (stmt_read _ _ _ _ c.requires c.index-stmts-k.is refl) ∙ no_inner _ c.in_default.not-If c.in_default.not-Block c.in_default.not-Loop in
    let P = IsLater c.args.k _ in
    ((λ later. subst (All P) (sym is) (All-nil P)), (λ all. refl))
