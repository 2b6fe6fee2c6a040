use Rattle.std.proofs.Common.{◌≡◌, sym, subst, ◌∙◌, ap}
use Rattle.core_ir.specs.Core.{Core}
use Rattle.core_ir.specs.Levels.{LevelsFit}
use Rattle.core_ir.proofs.Levels.{levels_to, levels_from}
use Rattle.core_ir.proofs.well_formed.levels_stand.Goals as goal

pub returns : goal.returns
returns c =
    let same : c.deref.result.now ≡ c.args.core.now.stmts = c.deref.ensures.value ∙ ap (λ (x : Core). x.stmts) c.core.view_is in (
      (λ fits. levels_to _ _ c.requires (subst LevelsFit same (c.all_levels.ensures.0 fits))),
      (λ has. c.all_levels.ensures.1 (subst LevelsFit (sym same) (levels_from c.args.core.now.body c.args.core.now.stmts c.requires has))),
    )
