-- Where the rules on what is carried stand: exactly where a mention or a jump back loses something.
use Rattle.std.proofs.Common.{◌≡◌, ℕ, zero, suc, ◌+◌, ◌/◌, ◌%◌, ◌<◌, ◌≤◌, nat_eq, nat_lt, not, Bool, true, false, ◌&&◌, ◌||◌, if◌then◌else◌, List, [], ◌∷◌, ◌++◌, length, map, filter, Option, Some, None, refl, ap, sym, ◌∙◌, subst, arith, inl, inr, eq-eqb, lt-ltb, append-nil}
use Rattle.std.proofs.lemmas.Bool.{false≢true}
use Rattle.std.proofs.lemmas.Bool.Decides.{eqb_tells}
use Rattle.std.proofs.lemmas.Grind.{flat_map-append}
use Rattle.std.proofs.lemmas.List.Folds.{list_all-map}
use Rattle.std.specs.List.{flat_map, list_all}
use Rattle.std.specs.HashMap.{get}
use Rattle.std.specs.declared.vec.Vec.{Vec}
use Rattle.std.specs.declared.alloc.Global.{Global}
use Rattle.qir_module.specs.declared.instruction.Operand.{Operand}
use Rattle.qir_module.specs.declared.instruction.Operand.TheVariants.{Register, Fixed}
use Rattle.qir_module.specs.declared.instruction.Instr.{Instr}
use Rattle.qir_module.specs.declared.instruction.Last.{Last}
use Rattle.qir_module.specs.declared.block.Phi.{Phi}
use Rattle.qir_module.specs.declared.block.Block.{Block}
use Rattle.qir_module.specs.Module.{Module}
use Rattle.qir_module.specs.Machine.{place_of}
use Rattle.qir_module.specs.Numbered.{counted, measured_in, read_in}
use Rattle.qir_module.specs.Spots.{Item, ThePhi, TheInstr, TheLast, items_in, Spot, spots_from}
use Rattle.qir_module.specs.Carried.{Thing, TheRegister, TheResult, targets_of, earlier, are_assigning, assigns, is_carried, is_left}
use Rattle.qir_module.specs.Broken.{first_failing, first_breach}
use Rattle.qir_module.specs.Passes.{instr_operands, last_operands, register_in, registers_read, results_read, is_left_by, entries_carried, leaves_carried, jumps_carry, carried_registers_kept, carried_results_kept}
use Rattle.profile_check.specs.declared.place.Place.{Place}
use Rattle.profile_check.specs.declared.mentions.How.TheVariants.{Read, Entry}
use Rattle.profile_check.specs.declared.mentions.Mention.{Mention}
use Rattle.profile_check.specs.declared.rounds.Use.{Use}
use Rattle.profile_check.specs.declared.jumps.Jump.{Jump}
use Rattle.profile_check.specs.Names.{Table, HasPlaces}
use Rattle.profile_check.specs.Mentions.{Things, Registers, Results, thing, operand_numbers, assigned, read, taken, taken_by, mentions_of}
use Rattle.profile_check.specs.Rounds.{is_assigning, place_in, use_of, in_round, round_uses, assigns_bit, round_assigns, carried_bit, within, is_lost, lost_uses, jump_keeps, jump_kept, lost_jumps, lost_in_round, lost_in_rounds, back_to, jumps_from, IsFirstLost}
use Rattle.profile_check.specs.Visits.{placed_from}
use Rattle.profile_check.specs.Walk.{seen}
use Rattle.profile_check.proofs.BitLemmas.{carried_same}
use Rattle.profile_check.proofs.FirstLemmas.{at_spot, spots_order, first_is_least}
use Rattle.profile_check.proofs.Members.{In, in_left, in_right, in_either, in_map, of_map, in_filter, of_filter, in_flat, of_flat, any_in, of_any, all_fails, one_fails}
use Rattle.profile_check.proofs.SpotMentions.{spot_mentions, mentions_by_spots, assigned_at, mentions_assign, item_jumps, spot_jumps, jumps_by_spots}
use Rattle.profile_check.proofs.Walks.{first_failing_same}
use Rattle.profile_check.proofs.LostLemmas.{reads_kept, takes_kept, named, spot_kept, both_true, both_false, not_true, same_nat, and_false, round_assigned, row_of_member, member_of_row, carried_needs, how_lost, use_lost, place_below, spot_from, mention_is, read_is_mention, taken_is_mention, mention_at, mention_breaks}

-- ---- jumps back of an item

abbrev IsJump : (ℕ → Option ℕ) → Place → Item → Jump → Type 0
IsJump place at item jump = (last : Last) × (item ≡ TheLast last) × (name : ℕ) × In name (targets_of last) × (place name ≡ Some jump.to) × (jump.at ≡ at) × (nat_lt at.block jump.to ≡ false)

of_back : (at : Place) (o : Option ℕ) (jump : Jump) → In jump (back_to at o) → (o ≡ Some jump.to) × (jump.at ≡ at) × (nat_lt at.block jump.to ≡ false)
of_back at None jump inside = absurd inside
of_back at (Some to) jump inside = by_test (nat_lt at.block to) refl inside
  where
    by_test : (t : Bool) → nat_lt at.block to ≡ t → In jump (if t then [] else record { at = at; to = to } ∷ []) → (Some to ≡ Some jump.to) × (jump.at ≡ at) × (nat_lt at.block jump.to ≡ false)
    by_test true is within = absurd within
    by_test false is (inl same) = (ap (λ (j : Jump). Some j.to) (sym same), ap (λ (j : Jump). j.at) same, ap (λ (j : Jump). nat_lt at.block j.to) same ∙ is)
    by_test false is (inr within) = absurd within

jump_is : (place : ℕ → Option ℕ) (at : Place) (item : Item) (jump : Jump) → In jump (item_jumps place at item) → IsJump place at item jump
jump_is place at (ThePhi phi) jump inside = absurd inside
jump_is place at (TheInstr instr) jump inside = absurd inside
jump_is place at (TheLast last) jump inside =
    let of = of_flat (λ name. back_to at (place name)) (targets_of last) jump inside in
    let back = of_back at (place of.0) jump of.2 in
    (last, refl, of.0, of.1, back.0, back.1, back.2)

-- ---- the demands

operands_all : (f : Thing → Bool) (os : List (Operand × Bool)) → list_all f (flat_map (λ (o : Operand × Bool). register_in o.0) os) ≡ list_all (λ n. f (TheRegister n)) (operand_numbers os)
operands_all f [] = refl
operands_all f ((Register r, t) ∷ os) = ap (λ (x : Bool). f (TheRegister r) && x) (operands_all f os)
operands_all f ((Fixed z, t) ∷ os) = operands_all f os

registers_all : (f : Thing → Bool) (item : Item) → list_all f (registers_read item) ≡ list_all (λ n. f (TheRegister n)) (read Registers item)
registers_all f (ThePhi phi) = refl
registers_all f (TheInstr instr) = operands_all f (instr_operands instr)
registers_all f (TheLast last) = operands_all f (last_operands last)

results_all : (f : Thing → Bool) (item : Item) → list_all f (results_read item) ≡ list_all (λ n. f (TheResult n)) (read Results item)
results_all f (ThePhi phi) = refl
results_all f (TheInstr instr) = list_all-map f TheResult (read_in instr)
results_all f (TheLast last) = refl

entries_all : (m : Module) (es : List (Operand × ℕ)) → list_all (λ (e : Operand × ℕ). list_all (is_left_by m e.1) (register_in e.0)) es ≡ list_all (λ (e : ℕ × ℕ). is_left_by m e.1 (TheRegister e.0)) (flat_map taken_by es)
entries_all m [] = refl
entries_all m ((Register r, name) ∷ es) = one (is_left_by m name (TheRegister r)) _ _ (entries_all m es)
  where
    one : (a x y : Bool) → x ≡ y → ((a && true) && x) ≡ (a && y)
    one true x y same = same
    one false x y same = refl
entries_all m ((Fixed z, name) ∷ es) = entries_all m es

takes_all : (m : Module) (item : Item) → entries_carried m item ≡ takes_kept m Registers item
takes_all m (ThePhi phi) = entries_all m phi.entries
takes_all m (TheInstr instr) = refl
takes_all m (TheLast last) = refl

registers_demand : (m : Module) (s : Spot) → spot_kept m Registers s ≡ carried_registers_kept m s
registers_demand m s =
    ap (λ (t : Bool). t && takes_kept m Registers s.here && jumps_carry m s (named m Registers) s.here) (sym (registers_all (λ t. are_assigning s.front t || is_carried m.blocks s.block t) s.here))
    ∙ ap (λ (t : Bool). list_all (λ t. are_assigning s.front t || is_carried m.blocks s.block t) (registers_read s.here) && t && jumps_carry m s (named m Registers) s.here) (sym (takes_all m s.here))

body_measured : (body : List Instr) → flat_map (assigned Results) (map TheInstr body) ≡ flat_map measured_in body
body_measured [] = refl
body_measured (x ∷ xs) = ap (λ (ns : List ℕ). measured_in x ++ ns) (body_measured xs)

phis_measured : (phis : List Phi) → flat_map (assigned Results) (map ThePhi phis) ≡ []
phis_measured [] = refl
phis_measured (x ∷ xs) = phis_measured xs

block_measured : (b : Block) → flat_map (assigned Results) (items_in b) ≡ flat_map measured_in b.body
block_measured b =
    flat_map-append (assigned Results) (map ThePhi b.phis ++ map TheInstr b.body) (TheLast b.last ∷ [])
    ∙ ap (λ (ns : List ℕ). ns ++ []) (flat_map-append (assigned Results) (map ThePhi b.phis) (map TheInstr b.body) ∙ ap (λ (ns : List ℕ). ns ++ flat_map (assigned Results) (map TheInstr b.body)) (phis_measured b.phis) ∙ body_measured b.body)
    ∙ append-nil (flat_map measured_in b.body)

blocks_measured : (bs : List Block) → flat_map (λ (b : Block). flat_map (assigned Results) (items_in b)) bs ≡ flat_map (λ (b : Block). flat_map measured_in b.body) bs
blocks_measured [] = refl
blocks_measured (b ∷ bs) =
    ap (λ (ns : List ℕ). ns ++ flat_map (λ (x : Block). flat_map (assigned Results) (items_in x)) bs) (block_measured b)
    ∙ ap (λ (ns : List ℕ). flat_map measured_in b.body ++ ns) (blocks_measured bs)

takes_none : (m : Module) (item : Item) → takes_kept m Results item ≡ true
takes_none m item = refl

results_demand : (m : Module) (s : Spot) → spot_kept m Results s ≡ carried_results_kept m s
results_demand m s =
    ap (λ (t : Bool). t && true && jumps_carry m s (named m Results) s.here) (sym (results_all (λ t. are_assigning s.front t || is_carried m.blocks s.block t) s.here))
    ∙ and_true (list_all (λ t. are_assigning s.front t || is_carried m.blocks s.block t) (results_read s.here)) (jumps_carry m s (named m Results) s.here)
    ∙ ap (λ (ns : List ℕ). list_all (λ t. are_assigning s.front t || is_carried m.blocks s.block t) (results_read s.here) && jumps_carry m s (map TheResult ns) s.here) (blocks_measured m.blocks)
  where
    and_true : (a b : Bool) → (a && true && b) ≡ (a && b)
    and_true true b = refl
    and_true false b = refl

-- ---- a bit of a jump

counted_in : (k n j : ℕ) → k ≤ j → j < k + n → In j (counted k n)
counted_in k zero j low high = absurd (omega arith)
counted_in k (suc n) j low high = elim (eqb_tells j k) [ inl same ↦ inl same.1 | inr other ↦ inr (counted_in (suc k) n j (omega (arith, other.1)) (omega arith)) ]

in_counted : (k n j : ℕ) → In j (counted k n) → j < k + n
in_counted k zero j inside = absurd inside
in_counted k (suc n) j (inl is) = omega (arith, is)
in_counted k (suc n) j (inr inside) = omega (arith, in_counted (suc k) n j inside)

-- everything that the theorem knows
record Known (m : Module) (things : Things) (ms : List Mention) (slot : ℕ → ℕ) (last : ℕ) (places : Table) : Type 0 where
  are : ms ≡ flat_map (spot_mentions things) (spots_from 0 m.blocks)
  own : (n : ℕ) (x : Mention) → In x ms → is_assigning x.how ≡ true → slot n ≡ slot x.number → n ≡ x.number
  few : (n : ℕ) → slot n < suc last
  has : HasPlaces places m.blocks

-- the bits of a number are what is assigned of it
bits_are : (m : Module) (things : Things) (ms : List Mention) (slot : ℕ → ℕ) (last : ℕ) (places : Table) → Known m things ms slot last places → (place : ℕ → ℕ) (n b : ℕ)
    → round_assigns (round_uses slot place ms (slot n / 64)) b (slot n % 64) ≡ assigns m.blocks b (thing things n)
bits_are m things ms slot last places known place n b =
    round_assigned slot place ms n b (known.own n)
    ∙ ap (λ (xs : List Mention). assigned_at xs b n) known.are
    ∙ mentions_assign things m.blocks b n

abbrev carries : Module → List Use → ℕ → ℕ → Bool
carries m uses = within m.blocks (carried_bit m.blocks (round_assigns uses))

abbrev gives : Module → List Use → ℕ → ℕ → Bool
gives m uses = within m.blocks (round_assigns uses)

use_of_member : (slot place : ℕ → ℕ) (ms : List Mention) (q : ℕ) (u : Use) → In u (round_uses slot place ms q) → (x : Mention) × In x ms × (slot x.number / 64 ≡ q) × (u ≡ use_of slot place x)
use_of_member slot place ms q u inside =
    let of = of_map (use_of slot place) (filter (in_round slot q) ms) u inside in
    let x = of.0 in
    let kept = of_filter (in_round slot q) ms x of.1 in
    (x, kept.0, same_nat (slot x.number / 64) q kept.1, of.2)

mention_lost_is : (m : Module) (things : Things) (ms : List Mention) (slot : ℕ → ℕ) (last : ℕ) (places : Table) → Known m things ms slot last places → (x : Mention) → x.at.block < length m.blocks
    → is_lost (carries m (round_uses slot (place_in places (length m.blocks)) ms (slot x.number / 64))) (gives m (round_uses slot (place_in places (length m.blocks)) ms (slot x.number / 64))) (use_of slot (place_in places (length m.blocks)) x) ≡ how_lost m things x.how x.at.block x.number
mention_lost_is m things ms slot last places known x below =
    let place = place_in places (length m.blocks) in
    use_lost m things places slot (round_uses slot place ms (slot x.number / 64)) x.how x.at x.number known.has below (bits_are m things ms slot last places known place x.number)

in_text : (m : Module) (things : Things) (ms : List Mention) (slot : ℕ → ℕ) (last : ℕ) (places : Table) → Known m things ms slot last places → (x : Mention) → In x ms → (s : Spot) × In s (spots_from 0 m.blocks) × In x (spot_mentions things s)
in_text m things ms slot last places known x inside =
    let P : List Mention → Type 0 = λ xs. In x xs in
    of_flat (spot_mentions things) (spots_from 0 m.blocks) x (subst P known.are inside)

spot_below : (m : Module) (s : Spot) → In s (spots_from 0 m.blocks) → s.block < length m.blocks
spot_below m s inside = omega (arith, (spot_from 0 m.blocks s inside).3)

-- ---- what is lost is broken

abbrev IsBroken : Module → Things → Place → Type 0
IsBroken m things p = (s : Spot) × In s (spots_from 0 m.blocks) × (p ≡ at_spot s) × (spot_kept m things s ≡ false)

use_broken : (m : Module) (things : Things) (ms : List Mention) (slot : ℕ → ℕ) (last : ℕ) (places : Table) → Known m things ms slot last places → (q : ℕ) (u : Use)
    → In u (round_uses slot (place_in places (length m.blocks)) ms q) → is_lost (carries m (round_uses slot (place_in places (length m.blocks)) ms q)) (gives m (round_uses slot (place_in places (length m.blocks)) ms q)) u ≡ true → IsBroken m things u.mention.at
use_broken m things ms slot last places known q u inside lost =
    let place = place_in places (length m.blocks) in
    let of = use_of_member slot place ms q u inside in
    let x = of.0 in
    let text = in_text m things ms slot last places known x of.1 in
    let s = text.0 in
    let at = mention_at things s x text.2 in
    let below : x.at.block < length m.blocks = subst (λ (b : ℕ). b < length m.blocks) (sym (ap (λ (p : Place). p.block) at)) (spot_below m s text.1) in
    let here : is_lost (carries m (round_uses slot place ms (slot x.number / 64))) (gives m (round_uses slot place ms (slot x.number / 64))) (use_of slot place x) ≡ true =
    ap (λ (k : ℕ). is_lost (carries m (round_uses slot place ms k)) (gives m (round_uses slot place ms k)) (use_of slot place x)) of.2
    ∙ ap (λ (v : Use). is_lost (carries m (round_uses slot place ms q)) (gives m (round_uses slot place ms q)) v) (sym of.3)
    ∙ lost in
    let x_lost : how_lost m things x.how x.at.block x.number ≡ true = sym (mention_lost_is m things ms slot last places known x below) ∙ here in
    (s, text.1, ap (λ (v : Use). v.mention.at) of.3 ∙ at, mention_breaks m things s x text.2 x_lost)

-- what is assigned is among what is named
assigned_named : (m : Module) (things : Things) (s : Spot) (n : ℕ) → In s (spots_from 0 m.blocks) → In n (assigned things s.here) → In (thing things n) (named m things)
assigned_named m things s n inside is =
    let from = spot_from 0 m.blocks s inside in
    in_map (thing things) (flat_map (λ (b : Block). flat_map (assigned things) (items_in b)) m.blocks) n
    (in_flat (λ (b : Block). flat_map (assigned things) (items_in b)) m.blocks from.0 n from.1 (in_flat (assigned things) (items_in from.0) s.here n from.2 is))

assigning_number : (things : Things) (s : Spot) (x : Mention) → In x (spot_mentions things s) → is_assigning x.how ≡ true → In x.number (assigned things s.here)
assigning_number things s x inside assigns = elim (mention_is things s x inside) [
  | inl is ↦ absurd (false≢true (sym (ap (λ (y : Mention). is_assigning y.how) is.1) ∙ assigns))
  | inr rest ↦ elim rest [
    | inl is ↦ absurd (false≢true (sym (ap (λ (y : Mention). is_assigning y.how) is.1) ∙ assigns))
    | inr is ↦ subst (λ (n : ℕ). In n (assigned things s.here)) (sym (ap (λ (y : Mention). y.number) is.1)) is.2
  ]
]

-- a jump back that loses one of what is named
jump_breaks : (m : Module) (things : Things) (s : Spot) (last : Last) (name to n : ℕ) → s.here ≡ TheLast last → In name (targets_of last) → place_of m.blocks name ≡ Some to → nat_lt s.block to ≡ false
    → In (thing things n) (named m things) → is_carried m.blocks to (thing things n) ≡ true → is_left m.blocks s.block (thing things n) ≡ false → spot_kept m things s ≡ false
jump_breaks m things s last name to n here target at back inside carried left =
    let ts = named m things in
    let lost : leaves_carried m s.block ts (place_of m.blocks name) ≡ false =
    ap (leaves_carried m s.block ts) at
    ∙ ap (λ (t : Bool). if t then true else list_all (λ t. if is_carried m.blocks to t then is_left m.blocks s.block t else true) ts) back
    ∙ all_fails (λ t. if is_carried m.blocks to t then is_left m.blocks s.block t else true) ts (thing things n) inside (ap (λ (t : Bool). if t then is_left m.blocks s.block (thing things n) else true) carried ∙ left) in
    let fails : jumps_carry m s ts s.here ≡ false =
    ap (jumps_carry m s ts) here ∙ all_fails (λ k. leaves_carried m s.block ts (place_of m.blocks k)) (targets_of last) name target lost in
    ap (λ (t : Bool). reads_kept m things s && takes_kept m things s.here && t) fails ∙ and_false (reads_kept m things s && takes_kept m things s.here)

-- the bits of a round at the slot of a number
round_bits : (m : Module) (things : Things) (ms : List Mention) (slot : ℕ → ℕ) (last : ℕ) (places : Table) → Known m things ms slot last places → (place : ℕ → ℕ) (q j n : ℕ) → slot n / 64 ≡ q → slot n % 64 ≡ j → (b : ℕ)
    → round_assigns (round_uses slot place ms q) b j ≡ assigns m.blocks b (thing things n)
round_bits m things ms slot last places known place q j n is_q is_j b =
    ap (λ (k : ℕ). round_assigns (round_uses slot place ms k) b j) (sym is_q)
    ∙ ap (λ (k : ℕ). round_assigns (round_uses slot place ms (slot n / 64)) b k) (sym is_j)
    ∙ bits_are m things ms slot last places known place n b

round_carries : (m : Module) (things : Things) (ms : List Mention) (slot : ℕ → ℕ) (last : ℕ) (places : Table) → Known m things ms slot last places → (place : ℕ → ℕ) (q j n : ℕ) → slot n / 64 ≡ q → slot n % 64 ≡ j → (b : ℕ)
    → carried_bit m.blocks (round_assigns (round_uses slot place ms q)) b j ≡ is_carried m.blocks b (thing things n)
round_carries m things ms slot last places known place q j n is_q is_j b =
    carried_same m.blocks (λ p. round_assigns (round_uses slot place ms q) p j) (λ p. assigns m.blocks p (thing things n)) (suc b) b (λ p lower. round_bits m things ms slot last places known place q j n is_q is_j p)

kept_fails : (carries gives : ℕ → ℕ → Bool) (jump : Jump) → jump_kept carries gives jump ≡ false → (j : ℕ) × In j (counted 0 64) × (jump_keeps carries gives jump j ≡ false)
unfolding jump_kept
kept_fails carries gives jump fails = one_fails (jump_keeps carries gives jump) (counted 0 64) fails

fails_kept : (carries gives : ℕ → ℕ → Bool) (jump : Jump) (j : ℕ) → j < 64 → jump_keeps carries gives jump j ≡ false → jump_kept carries gives jump ≡ false
unfolding jump_kept
fails_kept carries gives jump j small fails = all_fails (jump_keeps carries gives jump) (counted 0 64) j (counted_in 0 64 j (omega arith) (omega arith)) fails

not_false : (a : Bool) → not a ≡ false → a ≡ true
not_false true e = refl
not_false false e = absurd (false≢true (sym e))

jump_broken : (m : Module) (things : Things) (ms : List Mention) (slot : ℕ → ℕ) (last : ℕ) (places : Table) → Known m things ms slot last places → (q : ℕ) (jump : Jump)
    → In jump (jumps_from (get nat_eq places) 0 m.blocks) → jump_kept (carries m (round_uses slot (place_in places (length m.blocks)) ms q)) (gives m (round_uses slot (place_in places (length m.blocks)) ms q)) jump ≡ false → IsBroken m things jump.at
jump_broken m things ms slot last places known q jump inside fails =
    let place = place_in places (length m.blocks) in
    let uses = round_uses slot place ms q in
    let P : List Jump → Type 0 = λ js. In jump js in
    let text = of_flat (spot_jumps (get nat_eq places)) (spots_from 0 m.blocks) jump (subst P (jumps_by_spots (get nat_eq places) m.blocks) inside) in
    let s = text.0 in
    let is = jump_is (get nat_eq places) (at_spot s) s.here jump text.2 in
    let below : s.block < length m.blocks = spot_below m s text.1 in
    let from : jump.at.block ≡ s.block = ap (λ (p : Place). p.block) is.5 in
    let bit = kept_fails (carries m uses) (gives m uses) jump fails in
    let j = bit.0 in
    let parts = both_false (not (carries m uses jump.to j)) (carries m uses jump.at.block j || gives m uses jump.at.block j) bit.2 in
    let to_carries = both_true (nat_lt jump.to (length m.blocks)) (carried_bit m.blocks (round_assigns uses) jump.to j) (not_false (carries m uses jump.to j) parts.0) in
    let from_lacks = both_false (carries m uses jump.at.block j) (gives m uses jump.at.block j) parts.1 in
    let assigned_by = carried_needs (earlier m.blocks) (λ p. round_assigns uses p j) (suc jump.to) jump.to to_carries.1 in
    let found = of_any (assigns_bit assigned_by.0 j) uses assigned_by.1 in
    let u = found.0 in
    let tests = both_true (is_assigning u.mention.how && nat_eq u.block assigned_by.0) (nat_eq (u.slot % 64) j) found.2 in
    let assigning = (both_true (is_assigning u.mention.how) (nat_eq u.block assigned_by.0) tests.0).0 in
    let of = use_of_member slot place ms q u found.1 in
    let x = of.0 in
    let n = x.number in
    let is_j : slot n % 64 ≡ j = ap (λ (v : Use). v.slot % 64) (sym of.3) ∙ same_nat (u.slot % 64) j tests.1 in
    let x_assigns : is_assigning x.how ≡ true = ap (λ (v : Use). is_assigning v.mention.how) (sym of.3) ∙ assigning in
    let x_text = in_text m things ms slot last places known x of.1 in
    let inside_named = assigned_named m things x_text.0 n x_text.1 (assigning_number things x_text.0 x x_text.2 x_assigns) in
    let carried : is_carried m.blocks jump.to (thing things n) ≡ true = sym (round_carries m things ms slot last places known place q j n of.2 is_j jump.to) ∙ to_carries.1 in
    let lower : nat_lt s.block (length m.blocks) ≡ true = lt-ltb s.block (length m.blocks) below in
    let lacks_carried : is_carried m.blocks s.block (thing things n) ≡ false =
    sym (round_carries m things ms slot last places known place q j n of.2 is_j s.block)
    ∙ ap (λ (t : Bool). t && carried_bit m.blocks (round_assigns uses) s.block j) (sym lower)
    ∙ ap (λ (b : ℕ). carries m uses b j) (sym from) ∙ from_lacks.0 in
    let lacks_assigned : assigns m.blocks s.block (thing things n) ≡ false =
    sym (round_bits m things ms slot last places known place q j n of.2 is_j s.block)
    ∙ ap (λ (t : Bool). t && round_assigns uses s.block j) (sym lower)
    ∙ ap (λ (b : ℕ). gives m uses b j) (sym from) ∙ from_lacks.1 in
    let left : is_left m.blocks s.block (thing things n) ≡ false = ap (λ (t : Bool). t || assigns m.blocks s.block (thing things n)) lacks_carried ∙ lacks_assigned in
    (s, text.1, is.5, jump_breaks m things s is.0 is.2 jump.to n is.1 is.3 (sym (known.has is.2) ∙ is.4) is.6 inside_named carried left)

-- ---- what is broken is lost

abbrev IsLostAt : Module → (ℕ → ℕ) → List Mention → ℕ → Table → Place → Type 0
IsLostAt m slot ms last places p = (q : ℕ) × (q < last / 64 + 1) × In p (lost_in_round m.blocks (jumps_from (get nat_eq places) 0 m.blocks) (round_uses slot (place_in places (length m.blocks)) ms q))

mention_found : (m : Module) (things : Things) (ms : List Mention) (slot : ℕ → ℕ) (last : ℕ) (places : Table) → Known m things ms slot last places → (s : Spot) → In s (spots_from 0 m.blocks) → (x : Mention) → In x (spot_mentions things s)
    → how_lost m things x.how x.at.block x.number ≡ true → IsLostAt m slot ms last places (at_spot s)
mention_found m things ms slot last places known s s_inside x inside lost =
    let place = place_in places (length m.blocks) in
    let q = slot x.number / 64 in
    let uses = round_uses slot place ms q in
    let jumps = jumps_from (get nat_eq places) 0 m.blocks in
    let at = mention_at things s x inside in
    let below : x.at.block < length m.blocks = subst (λ (b : ℕ). b < length m.blocks) (sym (ap (λ (p : Place). p.block) at)) (spot_below m s s_inside) in
    let P : List Mention → Type 0 = λ xs. In x xs in
    let x_inside : In x ms = subst P (sym known.are) (in_flat (spot_mentions things) (spots_from 0 m.blocks) s x s_inside inside) in
    let u = use_of slot place x in
    let u_inside : In u uses = in_map (use_of slot place) (filter (in_round slot q) ms) x (in_filter (in_round slot q) ms x x_inside (eq-eqb q q refl)) in
    let u_lost : is_lost (carries m uses) (gives m uses) u ≡ true = mention_lost_is m things ms slot last places known x below ∙ lost in
    let here : In x.at (lost_uses (carries m uses) (gives m uses) uses) = in_map (λ (v : Use). v.mention.at) (filter (is_lost (carries m uses) (gives m uses)) uses) u (in_filter (is_lost (carries m uses) (gives m uses)) uses u u_inside u_lost) in
    let Q : Place → Type 0 = λ p. In p (lost_in_round m.blocks jumps uses) in
    let low : slot x.number < suc last = known.few x.number in
    (q, omega (arith, low), subst Q at (in_left (lost_uses (carries m uses) (gives m uses) uses) (lost_jumps (carries m uses) (gives m uses) jumps) x.at here))

back_in : (at : Place) (to : ℕ) (o : Option ℕ) → o ≡ Some to → nat_lt at.block to ≡ false → In (record { at = at; to = to }) (back_to at o)
back_in at to o is back =
    let j : Jump = record { at = at; to = to } in
    let P : Option ℕ → Type 0 = λ x. In j (back_to at x) in
    let Q : Bool → Type 0 = λ t. In j (if t then [] else j ∷ []) in
    subst P (sym is) (subst Q (sym back) (inl refl))

jump_found : (m : Module) (things : Things) (ms : List Mention) (slot : ℕ → ℕ) (last : ℕ) (places : Table) → Known m things ms slot last places → (s : Spot) → In s (spots_from 0 m.blocks) → (end : Last) (name to n : ℕ)
    → s.here ≡ TheLast end → In name (targets_of end) → place_of m.blocks name ≡ Some to → nat_lt s.block to ≡ false → is_carried m.blocks to (thing things n) ≡ true → is_left m.blocks s.block (thing things n) ≡ false
    → IsLostAt m slot ms last places (at_spot s)
jump_found m things ms slot last places known s s_inside end name to n here target at back carried left =
    let place = place_in places (length m.blocks) in
    let q = slot n / 64 in
    let j = slot n % 64 in
    let uses = round_uses slot place ms q in
    let jumps = jumps_from (get nat_eq places) 0 m.blocks in
    let jump : Jump = record { at = at_spot s; to = to } in
    let P : Item → Type 0 = λ x. In jump (item_jumps (get nat_eq places) (at_spot s) x) in
    let in_item : In jump (item_jumps (get nat_eq places) (at_spot s) s.here) =
    subst P (sym here) (in_flat (λ k. back_to (at_spot s) (get nat_eq places k)) (targets_of end) name jump target (back_in (at_spot s) to (get nat_eq places name) (known.has name ∙ at) back)) in
    let Q : List Jump → Type 0 = λ js. In jump js in
    let inside : In jump jumps = subst Q (sym (jumps_by_spots (get nat_eq places) m.blocks)) (in_flat (spot_jumps (get nat_eq places)) (spots_from 0 m.blocks) s jump s_inside in_item) in
    let lacks = both_false (is_carried m.blocks s.block (thing things n)) (assigns m.blocks s.block (thing things n)) left in
    let to_bit : carries m uses to j ≡ true =
    ap (λ (t : Bool). t && carried_bit m.blocks (round_assigns uses) to j) (lt-ltb to (length m.blocks) (place_below m.blocks name to at))
    ∙ round_carries m things ms slot last places known place q j n refl refl to ∙ carried in
    let lower : nat_lt s.block (length m.blocks) ≡ true = lt-ltb s.block (length m.blocks) (spot_below m s s_inside) in
    let from_carried : carries m uses s.block j ≡ false =
    ap (λ (t : Bool). t && carried_bit m.blocks (round_assigns uses) s.block j) lower ∙ round_carries m things ms slot last places known place q j n refl refl s.block ∙ lacks.0 in
    let from_given : gives m uses s.block j ≡ false =
    ap (λ (t : Bool). t && round_assigns uses s.block j) lower ∙ round_bits m things ms slot last places known place q j n refl refl s.block ∙ lacks.1 in
    let keeps : jump_keeps (carries m uses) (gives m uses) jump j ≡ false =
    ap (λ (t : Bool). not t || (carries m uses s.block j || gives m uses s.block j)) to_bit
    ∙ ap (λ (t : Bool). t || gives m uses s.block j) from_carried
    ∙ from_given in
    let small : j < 64 = omega arith in
    let lost : not (jump_kept (carries m uses) (gives m uses) jump) ≡ true = ap not (fails_kept (carries m uses) (gives m uses) jump j small keeps) in
    let found : In (at_spot s) (lost_jumps (carries m uses) (gives m uses) jumps) =
    in_map (λ (x : Jump). x.at) (filter (λ (x : Jump). not (jump_kept (carries m uses) (gives m uses) x)) jumps) jump (in_filter (λ (x : Jump). not (jump_kept (carries m uses) (gives m uses) x)) jumps jump inside lost) in
    let low : slot n < suc last = known.few n in
    (q, omega (arith, low), in_right (lost_uses (carries m uses) (gives m uses) uses) (lost_jumps (carries m uses) (gives m uses) jumps) (at_spot s) found)

jump_fails : (m : Module) (s : Spot) (ts : List Thing) (item : Item) → jumps_carry m s ts item ≡ false → (end : Last) × (item ≡ TheLast end) × (list_all (λ name. leaves_carried m s.block ts (place_of m.blocks name)) (targets_of end) ≡ false)
jump_fails m s ts (ThePhi phi) fails = absurd (false≢true (sym fails))
jump_fails m s ts (TheInstr instr) fails = absurd (false≢true (sym fails))
jump_fails m s ts (TheLast end) fails = (end, refl, fails)

abbrev Loses : Module → ℕ → List Thing → Option ℕ → Type 0
Loses m b ts o = (to : ℕ) × (o ≡ Some to) × (nat_lt b to ≡ false) × (t : Thing) × In t ts × (is_carried m.blocks to t ≡ true) × (is_left m.blocks b t ≡ false)

leaves_fails : (m : Module) (b : ℕ) (ts : List Thing) (o : Option ℕ) → leaves_carried m b ts o ≡ false → Loses m b ts o
leaves_fails m b ts None fails = absurd (false≢true (sym fails))
leaves_fails m b ts (Some to) fails = by_test (nat_lt b to) refl fails
  where
    one : (t : Thing) → In t ts → (c : Bool) → is_carried m.blocks to t ≡ c → nat_lt b to ≡ false → (if c then is_left m.blocks b t else true) ≡ false → Loses m b ts (Some to)
    one t inside true is back lost = (to, refl, back, t, inside, is, lost)
    one t inside false is back lost = absurd (false≢true (sym lost))

    by_test : (t : Bool) → nat_lt b to ≡ t → (if t then true else list_all (λ t. if is_carried m.blocks to t then is_left m.blocks b t else true) ts) ≡ false → Loses m b ts (Some to)
    by_test true is fails = absurd (false≢true (sym fails))
    by_test false is fails =
        let lost = one_fails (λ t. if is_carried m.blocks to t then is_left m.blocks b t else true) ts fails in
        one lost.0 lost.1 (is_carried m.blocks to lost.0) refl is lost.2

broken_lost : (m : Module) (things : Things) (ms : List Mention) (slot : ℕ → ℕ) (last : ℕ) (places : Table) → Known m things ms slot last places → (s : Spot) → In s (spots_from 0 m.blocks) → spot_kept m things s ≡ false → IsLostAt m slot ms last places (at_spot s)
broken_lost m things ms slot last places known s inside fails = by_parts (reads_kept m things s) refl (takes_kept m things s.here) refl fails
  where
    read_found : reads_kept m things s ≡ false → IsLostAt m slot ms last places (at_spot s)
    read_found broken =
        let one = one_fails (λ n. are_assigning s.front (thing things n) || is_carried m.blocks s.block (thing things n)) (read things s.here) broken in
        let n = one.0 in
        let parts = both_false (are_assigning s.front (thing things n)) (is_carried m.blocks s.block (thing things n)) one.2 in
        mention_found m things ms slot last places known s inside (record { how = Read; at = at_spot s; number = n }) (read_is_mention things s n one.1 parts.0) (ap not parts.1)

    take_found : takes_kept m things s.here ≡ false → IsLostAt m slot ms last places (at_spot s)
    take_found broken =
        let one = one_fails (λ (e : ℕ × ℕ). is_left_by m e.1 (thing things e.0)) (taken things s.here) broken in
        let e = one.0 in
        mention_found m things ms slot last places known s inside (record { how = Entry e.1; at = at_spot s; number = e.0 }) (taken_is_mention things s e one.1) (ap not one.2)

    jump_lost : jumps_carry m s (named m things) s.here ≡ false → IsLostAt m slot ms last places (at_spot s)
    jump_lost broken =
        let end = jump_fails m s (named m things) s.here broken in
        let one = one_fails (λ name. leaves_carried m s.block (named m things) (place_of m.blocks name)) (targets_of end.0) end.2 in
        let loses = leaves_fails m s.block (named m things) (place_of m.blocks one.0) one.2 in
        let of = of_map (thing things) (flat_map (λ (b : Block). flat_map (assigned things) (items_in b)) m.blocks) loses.3 loses.4 in
        jump_found m things ms slot last places known s inside end.0 one.0 loses.0 of.0 end.1 one.1 loses.1 loses.2
        (ap (is_carried m.blocks loses.0) (sym of.2) ∙ loses.5) (ap (is_left m.blocks s.block) (sym of.2) ∙ loses.6)

    by_parts : (a : Bool) → reads_kept m things s ≡ a → (b : Bool) → takes_kept m things s.here ≡ b → (a && b && jumps_carry m s (named m things) s.here) ≡ false → IsLostAt m slot ms last places (at_spot s)
    by_parts true is true other broken = jump_lost broken
    by_parts true is false other broken = take_found other
    by_parts false is b other broken = read_found is

-- ---- the rules

first_lost_is : (m : Module) (things : Things) (ms : List Mention) (first : Option Place) → ms ≡ mentions_of things (placed_from 0 m.blocks) → IsFirstLost m.blocks ms first → seen first ≡ first_failing (spot_kept m things) (spots_from 0 m.blocks)
first_lost_is m things ms first are lost =
    ap seen lost.found ∙ first_is_least (spot_kept m things) (lost_in_rounds m.blocks jumps lost.rounds) (spots_from 0 m.blocks) (spots_order 0 m.blocks) sound complete
  where
    jumps : List Jump
    jumps = jumps_from (get nat_eq lost.places) 0 m.blocks

    place : ℕ → ℕ
    place = place_in lost.places (length m.blocks)

    owns : (n : ℕ) (x : Mention) → In x ms → is_assigning x.how ≡ true → lost.slot n ≡ lost.slot x.number → n ≡ x.number
    owns n x inside assigns same =
        lost.slots.own x.number n (any_in (λ (y : Mention). is_assigning y.how && nat_eq y.number x.number) ms x inside (ap (λ (t : Bool). t && nat_eq x.number x.number) assigns ∙ eq-eqb x.number x.number refl)) same

    known : Known m things ms lost.slot lost.last lost.places
    known = record { are = are ∙ mentions_by_spots things m.blocks; own = owns; few = lost.slots.few; has = lost.named }

    sound : (p : Place) → In p (lost_in_rounds m.blocks jumps lost.rounds) → IsBroken m things p
    sound p inside =
        let of = of_flat (λ (uses : Vec Use Global). lost_in_round m.blocks jumps uses.items) lost.rounds p inside in
        let at = row_of_member lost.rounds of.0 of.1 in
        let q = at.0 in
        let uses = round_uses lost.slot place ms q in
        let same : of.0.items ≡ uses = sym at.2 ∙ lost.each.each q at.1 in
        let P : List Use → Type 0 = λ us. In p (lost_in_round m.blocks jumps us) in
        elim (in_either (lost_uses (carries m uses) (gives m uses) uses) (lost_jumps (carries m uses) (gives m uses) jumps) p (subst P same of.2)) [
          | inl here ↦
              let u = of_map (λ (v : Use). v.mention.at) (filter (is_lost (carries m uses) (gives m uses)) uses) p here in
              let kept = of_filter (is_lost (carries m uses) (gives m uses)) uses u.0 u.1 in
              let broken = use_broken m things ms lost.slot lost.last lost.places known q u.0 kept.0 kept.1 in
              (broken.0, broken.1, u.2 ∙ broken.2, broken.3)
          | inr there ↦
              let j = of_map (λ (x : Jump). x.at) (filter (λ (x : Jump). not (jump_kept (carries m uses) (gives m uses) x)) jumps) p there in
              let kept = of_filter (λ (x : Jump). not (jump_kept (carries m uses) (gives m uses) x)) jumps j.0 j.1 in
              let broken = jump_broken m things ms lost.slot lost.last lost.places known q j.0 kept.0 (not_true (jump_kept (carries m uses) (gives m uses) j.0) kept.1) in
              (broken.0, broken.1, j.2 ∙ broken.2, broken.3)
        ]

    complete : (s : Spot) → In s (spots_from 0 m.blocks) → spot_kept m things s ≡ false → In (at_spot s) (lost_in_rounds m.blocks jumps lost.rounds)
    complete s inside fails =
        let at = broken_lost m things ms lost.slot lost.last lost.places known s inside fails in
        let q = at.0 in
        let below : q < length lost.rounds = omega (arith, at.1, lost.long) in
        let row = member_of_row lost.rounds q below in
        let same : round_uses lost.slot place ms q ≡ row.0.items = sym (lost.each.each q below) ∙ row.2 in
        let P : List Use → Type 0 = λ us. In (at_spot s) (lost_in_round m.blocks jumps us) in
        in_flat (λ (uses : Vec Use Global). lost_in_round m.blocks jumps uses.items) lost.rounds row.0 (at_spot s) row.1 (subst P same at.2)

pub registers_at : (m : Module) (ms : List Mention) (first : Option Place) → ms ≡ mentions_of Registers (placed_from 0 m.blocks) → IsFirstLost m.blocks ms first → seen first ≡ first_breach m carried_registers_kept
registers_at m ms first are lost = first_lost_is m Registers ms first are lost ∙ first_failing_same (spot_kept m Registers) (carried_registers_kept m) (spots_from 0 m.blocks) (registers_demand m)

pub results_at : (m : Module) (ms : List Mention) (first : Option Place) → ms ≡ mentions_of Results (placed_from 0 m.blocks) → IsFirstLost m.blocks ms first → seen first ≡ first_breach m carried_results_kept
results_at m ms first are lost = first_lost_is m Results ms first are lost ∙ first_failing_same (spot_kept m Results) (carried_results_kept m) (spots_from 0 m.blocks) (results_demand m)
