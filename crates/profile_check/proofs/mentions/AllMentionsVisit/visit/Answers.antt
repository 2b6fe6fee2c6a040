use Rattle.profile_check.specs.Walk.{item_of}
use Rattle.profile_check.specs.Mentions.{Registers, Results}
use Rattle.profile_check.specs.Visits.{Placed}
use Rattle.profile_check.proofs.MentionLemmas.{holds_more}
use Rattle.profile_check.proofs.Visiting.{on_ok_then}
use Rattle.profile_check.proofs.mentions.AllMentionsVisit.visit.Goals as goal

pub returns : goal.returns
returns c =
    let p : Placed = record { block = c.args.block; item = c.args.item; here = item_of c.args.it } in
    on_ok_then c.gather_results.result (λ adds. λ visited holds. (
      holds_more Registers c.args.self.now.registers c.gather_registers.new.gathered visited p holds.0 c.in_ok-gather_registers.ensures,
      holds_more Results c.args.self.now.results c.gather_results.new.gathered visited p holds.1 adds,
    )) c.gather_results.ensures
