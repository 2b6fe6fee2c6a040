use Rattle.std.proofs.Common.{Some, sym, ap, ◌∙◌}
use Rattle.gate_cases.proofs.Inside.{definition_within, name_within, found_inside}
use Rattle.gate_cases.proofs.env.EnvGateEnv.visible.Goals as goal

pub order-requires : goal.order-requires
order-requires c = definition_within c.args.def.0 c.args.name c.args.self.now.orders.items c.args.self.now.entries.items c.requires

pub entry-requires : goal.entry-requires
entry-requires c = name_within c.args.def.0 c.args.name c.args.self.now.orders.items c.args.self.now.entries.items c.requires

pub returns : goal.returns
returns c =
    found_inside c.args.def.0 c.args.name c.order.result c.args.self.now.orders.items c.args.self.now.entries.items c.entry.result.now c.order.ensures c.entry.ensures ∙ ap Some (sym c.visible_at.ensures)
