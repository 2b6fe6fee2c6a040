use Rattle.std.proofs.Common.{◌≡◌, map}
use Rattle.qasm_ast.specs.View.{change_in}
use Rattle.const_eval.specs.Meaning.{meaning_in}
use Rattle.gate_arguments.specs.Seen.{scope_names}
use Rattle.gate_lists.specs.Paid.{paid_from}
use Rattle.gate_flatten.specs.Modifiers.{modifiers_walk, modifier_walk}
use Rattle.gate_flatten.proofs.Fronts.{in_front, from_member}
use Rattle.gate_flatten.proofs.modifiers.modifiers_at.Given as goal

-- the modifiers that were found, in front of those that are left
abbrev pub invariant-loop-modifier : goal.invariant-loop-modifier
invariant-loop-modifier g l = let means = meaning_in l.program (scope_names (g.E.Constants.names l.scope.env.now) (g.E.GateEnv.inside l.scope.env.now) l.scope.body) in
    paid_from l.initial.budget (modifiers_walk means (map (change_in l.program) l.mods))
    ≡ in_front l.modifiers.items (paid_from l.budget (from_member (change_in l.program) (modifier_walk means) l.modifier-index l.mods))
