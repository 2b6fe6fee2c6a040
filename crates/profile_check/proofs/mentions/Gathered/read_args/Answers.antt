use Rattle.std.proofs.Common.{◌<◌, List, length, take, get_or, ℕ, subst, sym, arith}
use Rattle.std.specs.List.{flat_map}
use Rattle.qir_module.specs.declared.instruction.Operand.TheVariants.{Register}
use Rattle.qir_module.specs.declared.instruction.Arg.TheVariants.{Number}
use Rattle.profile_check.specs.Mentions.{Adds, arg_numbers, read_mentions, latest_in}
use Rattle.profile_check.proofs.BitLemmas.{get_or_any}
use Rattle.profile_check.proofs.MentionLemmas.{adds_reads, flat_more}
use Rattle.profile_check.proofs.mentions.Gathered.read_args.Goals as goal

pub loop-arg-preserved : goal.loop-arg-preserved
loop-arg-preserved c =
    let args = c.args.args.now in
    let i = c.loop-arg.arg-index in
    let x = get_or args i (Number (Register 0)) in
    let old = c.args.self.now in
    let within : i < length args = omega arith in
    let more = flat_more arg_numbers args i x within (get_or_any args i (Number (Register 0)) x within) in
    let P : List ℕ → Type 0 = λ ns. Adds old c.read_arg.new.self (read_mentions (latest_in old) c.args.at ns) in
    subst P (sym more) (adds_reads old c.loop-arg.self c.read_arg.new.self c.args.at (flat_map arg_numbers (take i args)) (arg_numbers x) c.loop-arg.invariant c.in_ok-read_arg.ensures)
