use Rattle.expr_parts.proofs.Trees.{Laws, tree_known}
use Rattle.expr_parts.proofs.laws.tree_parts_have_values.Goals as goal

pub returns : goal.returns
returns c =
    let laws : Laws = record {
      plans = c.plans_are_rows.ensures.operators;
      unary_plans = c.plans_are_rows.ensures.unary_operators;
      fixed = c.fixed_parts_have_values.ensures;
      casts = c.cast_parts_have_values.ensures;
      operators = c.operator_parts_have_values.ensures;
      scaled = c.scaled_parts_have_values.ensures;
      shifted = c.shifted_parts_have_values.ensures;
      unaries = c.unary_parts_have_values.ensures;
      rows = c.rows_take_casts.ensures;
      cast_values = c.casts_give_values.ensures.casts;
      taken_values = c.casts_give_values.ensures.taken;
      operator_values = c.operators_give_values.ensures.applied;
      unary_values = c.unary_operators_give_values.ensures;
      kept = c.numbers_are_kept.ensures;
      constants = c.constants_are_constant.ensures;
    } in
    tree_known laws
