use Rattle.std.proofs.Common.{◌≡◌, ◌<◌, ◌^◌, length, subst, rules, arith}
use Rattle.std.proofs.lemmas.Grind.{common_steps}
use Rattle.qir_module.specs.Module.{Module, IsShaped}
use Rattle.qir_module.specs.Broken.{Breach}
use Rattle.profile_check.specs.Rule.{number_of}
use Rattle.profile_check.proofs.RuleLemmas.{broken_within}
use Rattle.profile_check.proofs.checker.fault_at.Goals as goal

pub prove-unreachable-requires : goal.prove-unreachable-requires
prove-unreachable-requires c =
    let m = c.args.«module».now in
    let found = c.args.found in
    let b : Breach = record { rule = number_of found.rule; at = record { block = found.at.block; item = found.at.item } } in
    let P : Module → Type 0 = λ x. IsShaped x in
    let shaped : IsShaped m = subst P c.«module».view_is c.«module».invariant in
    let within : found.at.block < length m.blocks = (broken_within m b shaped c.requires).0 in
    let same : c.len.result ≡ length m.blocks = first_of (search rules, grind (arith, common_steps), cc) in
    omega (arith, within, same, c.if-prove.true)

pub overflow_cast-result-2 : goal.overflow_cast-result-2
overflow_cast-result-2 c =
    let m = c.args.«module».now in
    let found = c.args.found in
    let b : Breach = record { rule = number_of found.rule; at = record { block = found.at.block; item = found.at.item } } in
    let P : Module → Type 0 = λ x. IsShaped x in
    let shaped : IsShaped m = subst P c.«module».view_is c.«module».invariant in
    let small : found.at.item < 2 ^ 32 = (broken_within m b shaped c.requires).1 in
    search rules
