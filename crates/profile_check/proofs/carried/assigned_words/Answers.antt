use Rattle.std.proofs.Common.{◌≡◌, ◌<◌, ◌+◌, ℕ, List, Vec, Global, true, length, take, get_or, ap, sym, subst, arith}
use Rattle.profile_check.specs.declared.mentions.How.TheVariants.{Assigned}
use Rattle.profile_check.specs.declared.rounds.Use.{Use}
use Rattle.profile_check.specs.Rounds.{HoldsBits, round_assigns, is_assigning}
use Rattle.profile_check.proofs.BitLemmas.{get_or_any, bits_added, bits_kept}
use Rattle.profile_check.proofs.SlotLemmas.{not_assigning}
use Rattle.profile_check.proofs.carried.assigned_words.Goals as goal
use Rattle.profile_check.proofs.carried.assigned_words.Goals.{in-Assigned, in_default}

pub loop-one-preserved : goal.loop-one-preserved
loop-one-preserved c =
    let uses = c.args.uses.now in
    let i = c.loop-one.one-index in
    let d : Use = record { mention = record { how = Assigned; at = record { block = 0; item = 0 }; number = 0 }; block = 0; slot = 0 } in
    let u = get_or uses i d in
    let inside : i < length uses = omega arith in
    let is : u ≡ get_or uses i u = get_or_any uses i d u inside in
    let P : List ℕ → Type 0 = λ ws. HoldsBits ws c.args.blocks (round_assigns (take (i + 1) uses)) in
    elim c.match-one.branch [
      | in-Assigned w ↦
          let assigns : is_assigning u.mention.how ≡ true = ap is_assigning w.in-Assigned.is in
          subst P (sym (ap (λ (v : Vec ℕ Global). v.items) w.words-is))
          (bits_added c.loop-one.words.items w.add_bit.new.words.items c.args.blocks uses i u inside is c.loop-one.invariant assigns w.add_bit.ensures.long w.add_bit.ensures.bits)
      | in_default w ↦
          subst P (sym (ap (λ (v : Vec ℕ Global). v.items) w.words-is))
          (bits_kept c.loop-one.words.items c.args.blocks uses i u inside is c.loop-one.invariant (not_assigning u.mention.how w.in_default.not-Assigned))
    ]
