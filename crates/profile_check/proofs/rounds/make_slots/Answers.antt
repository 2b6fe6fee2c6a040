use Rattle.std.proofs.Common.{◌≡◌, ◌<◌, ◌≤◌, ◌+◌, ◌&&◌, ℕ, nat_eq, Bool, true, false, take, length, get_or, is_some, ap, sym, ◌∙◌, subst, arith}
use Rattle.std.proofs.lemmas.Bool.{false≢true}
use Rattle.std.specs.HashMap.{get}
use Rattle.profile_check.specs.declared.mentions.How.TheVariants.{Assigned}
use Rattle.profile_check.specs.declared.mentions.Mention.{Mention}
use Rattle.profile_check.specs.Names.{Table}
use Rattle.profile_check.specs.Rounds.{AreSlots, is_assigning}
use Rattle.profile_check.proofs.BitLemmas.{get_or_any}
use Rattle.profile_check.proofs.SlotLemmas.{slots_same, slots_new, not_assigning, there_too}
use Rattle.profile_check.proofs.rounds.make_slots.Goals as goal
use Rattle.profile_check.proofs.rounds.make_slots.Goals.{in-Assigned+then-not-contains_key+in_ok-insert, in-Assigned+else-not-contains_key, in_default}

pub loop-mention-preserved : goal.loop-mention-preserved
loop-mention-preserved c =
    let ms = c.args.mentions.now in
    let i = c.loop-mention.mention-index in
    let known = c.loop-mention.known in
    let count = c.loop-mention.count in
    let d : Mention = record { how = Assigned; at = record { block = 0; item = 0 }; number = 0 } in
    let m = get_or ms i d in
    let inside : i < length ms = omega arith in
    let is : m ≡ get_or ms i m = get_or_any ms i d m inside in
    let few : count ≤ i = c.loop-mention.invariant.1 in
    let P : Table → Type 0 = λ t. AreSlots t c.match-mention.count (take (i + 1) ms) in
    elim c.match-mention.branch [
      | in-Assigned+then-not-contains_key+in_ok-insert w ↦
          let assigns : is_assigning m.how ≡ true = ap is_assigning w.in-Assigned.is in
          let fresh : is_some (get nat_eq known m.number) ≡ false = sym w.contains_key.ensures ∙ w.if-not-contains_key.true in
          let Q : ℕ → Type 0 = λ n. AreSlots w.insert.new.self n (take (i + 1) ms) in (
            subst P (sym w.known-is) (subst Q (sym w.count-is) (slots_new known w.insert.new.self count ms i m inside is c.loop-mention.invariant.0 assigns fresh w.in_ok-insert.ensures.updates.0)),
            omega (arith, w.count-is, few),
          )
      | in-Assigned+else-not-contains_key w ↦
          let there : is_some (get nat_eq known m.number) ≡ true = sym w.contains_key.ensures ∙ w.if-not-contains_key.false in
          let Q : ℕ → Type 0 = λ n. AreSlots known n (take (i + 1) ms) in (
            subst P (sym w.known-is) (subst Q (sym w.count-is) (slots_same known count ms i m inside is c.loop-mention.invariant.0 (λ n. there_too known m there n))),
            omega (arith, w.count-is, few),
          )
      | in_default w ↦
          let Q : ℕ → Type 0 = λ n. AreSlots known n (take (i + 1) ms) in (
            subst P (sym w.known-is) (subst Q (sym w.count-is) (slots_same known count ms i m inside is c.loop-mention.invariant.0 (λ n e. absurd (false≢true (sym (ap (λ (t : Bool). t && nat_eq m.number n) (not_assigning m.how w.in_default.not-Assigned)) ∙ e))))),
            omega (arith, w.count-is, few),
          )
    ]
