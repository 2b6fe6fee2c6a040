use Rattle.std.proofs.Common.{◌≡◌, ℕ, Bool, true, false, ◌&&◌, nat_eq, ap, sym, ◌∙◌}
use Rattle.std.specs.List.{list_all}
use Rattle.std.specs.HashMap.{get}
use Rattle.std.specs.HashSet.{contains}
use Rattle.profile_check.specs.Phis.{is_single, names_in}
use Rattle.profile_check.proofs.PhiLemmas.{once_each}
use Rattle.profile_check.proofs.phis.is_fine.Goals as goal
use Rattle.profile_check.proofs.phis.is_fine.Goals.{then-stand_alone, else-stand_alone}

pub returns : goal.returns
returns c =
    let names = c.args.names.now in
    let entries = names_in c.args.entries.now in
    let alone = list_all (λ (n : ℕ). is_single (get nat_eq c.in_ok-counts.counts n)) names in
    let known = list_all (contains nat_eq c.args.set.now) entries in
    let both = once_each c.in_ok-counts.counts c.args.set.now entries names c.in_ok-counts.ensures c.requires in
    elim c.if-stand_alone.branch [
      | then-stand_alone w ↦
          let yes : alone ≡ true = cc in
          let is : c.if-stand_alone.result ≡ known = cc in
          is ∙ sym (ap (λ (t : Bool). t && known) yes) ∙ both
      | else-stand_alone w ↦
          let no_more : alone ≡ false = cc in
          let is : c.if-stand_alone.result ≡ false = cc in
          is ∙ sym (ap (λ (t : Bool). t && known) no_more) ∙ both
    ]
