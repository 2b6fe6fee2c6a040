-- Serves private contracts: the mentions of registers, or of results, by rounds of 64 slots, and what they
-- ask of what is carried in a round.
use Rattle.std.specs.Prelude.{◌≡◌, ℕ, suc, ◌+◌, ◌/◌, ◌%◌, ◌<◌, nat_eq, nat_lt, if◌then◌else◌, not, Bool, true, false, ◌&&◌, ◌||◌, List, [], ◌∷◌, ◌++◌, length, map, filter, Option, Some, None, slice_index_or, is_some}
use Rattle.std.specs.Option.{unwrap_or}
use Rattle.std.specs.Int.{bit_at}
use Rattle.std.specs.List.{list_all, list_any, flat_map}
use Rattle.std.specs.HashMap.{get}
use Rattle.std.specs.declared.vec.Vec.{Vec}
use Rattle.std.specs.declared.alloc.Global.{Global}
use Rattle.qir_module.specs.declared.block.Block.{Block}
use Rattle.qir_module.specs.Numbered.{counted}
use Rattle.qir_module.specs.Carried.{targets_of, earlier, is_empty, carried_within}
use Rattle.profile_check.specs.declared.place.Place.{Place}
use Rattle.profile_check.specs.declared.mentions.How.{How}
use Rattle.profile_check.specs.declared.mentions.How.TheVariants.{Assigned, Read, Entry}
use Rattle.profile_check.specs.declared.mentions.Mention.{Mention}
use Rattle.profile_check.specs.declared.rounds.Slots.{Slots}
use Rattle.profile_check.specs.declared.rounds.Use.{Use}
use Rattle.profile_check.specs.declared.jumps.Jump.{Jump}
use Rattle.profile_check.specs.Names.{Table, HasPlaces}
use Rattle.profile_check.specs.Ways.{row}
use Rattle.profile_check.specs.First.{first_among}

-- ---- slots

abbrev pub is_assigning : How → Bool
is_assigning Assigned = true
is_assigning Read = false
is_assigning (Entry name) = false

-- whether some mentions assign it
abbrev pub are_assigned : List Mention → ℕ → Bool
are_assigned ms n = list_any (λ (m : Mention). is_assigning m.how && nat_eq m.number n) ms

abbrev pub slot_of : Slots → ℕ → ℕ
slot_of slots n = unwrap_or (get nat_eq slots.known n) slots.count

-- what is assigned has a slot of its own
pub record HaveSlots (slot : ℕ → ℕ) (last : ℕ) (ms : List Mention) : Type 0 where
  pub own : (n other : ℕ) → are_assigned ms n ≡ true → slot other ≡ slot n → other ≡ n
  pub few : (n : ℕ) → slot n < suc last

-- the slots of what some mentions assign
pub record AreSlots (known : Table) (count : ℕ) (ms : List Mention) : Type 0 where
  pub all : (n : ℕ) → are_assigned ms n ≡ is_some (get nat_eq known n)
  pub small : (n s : ℕ) → get nat_eq known n ≡ Some s → s < count
  pub apart : (n other s : ℕ) → get nat_eq known n ≡ Some s → get nat_eq known other ≡ Some s → n ≡ other

-- ---- rounds

-- the place of the block of a name, or the number of blocks
abbrev pub place_in : Table → ℕ → ℕ → ℕ
place_in places end name = unwrap_or (get nat_eq places name) end

-- the block whose bits a mention is about
abbrev pub block_of : (ℕ → ℕ) → ℕ → How → ℕ
block_of place here Assigned = here
block_of place here Read = here
block_of place here (Entry name) = place name

abbrev pub use_of : (ℕ → ℕ) → (ℕ → ℕ) → Mention → Use
use_of slot place m = record { mention = m; block = block_of place m.at.block m.how; slot = slot m.number }

abbrev pub in_round : (ℕ → ℕ) → ℕ → Mention → Bool
in_round slot q m = nat_eq (slot m.number / 64) q

-- the mentions of a round
abbrev pub round_uses : (ℕ → ℕ) → (ℕ → ℕ) → List Mention → ℕ → List Use
round_uses slot place ms q = map (use_of slot place) (filter (in_round slot q) ms)

-- the table has the mentions of each round
pub record AreRounds (rounds : List (Vec Use Global)) (slot place : ℕ → ℕ) (ms : List Mention) : Type 0 where
  pub each : (q : ℕ) → q < length rounds → row rounds q ≡ round_uses slot place ms q

-- ---- bits

abbrev pub is_bit : ℕ → ℕ → Bool
is_bit word j = nat_eq (bit_at word j) 1

-- the bit of a block
abbrev pub has_bit : List ℕ → ℕ → ℕ → Bool
has_bit words b j = is_bit (slice_index_or words b 0) j

abbrev pub assigns_bit : ℕ → ℕ → Use → Bool
assigns_bit b j u = is_assigning u.mention.how && nat_eq u.block b && nat_eq (u.slot % 64) j

-- whether the uses of a round assign it in a block
abbrev pub round_assigns : List Use → ℕ → ℕ → Bool
round_assigns uses b j = list_any (assigns_bit b j) uses

-- what is carried where a test says what is assigned
abbrev pub carried_bit : List Block → (ℕ → ℕ → Bool) → ℕ → ℕ → Bool
carried_bit blocks assigns b j = carried_within (earlier blocks) (λ p. assigns p j) (suc b) b

abbrev pub within : List Block → (ℕ → ℕ → Bool) → ℕ → ℕ → Bool
within blocks has b j = nat_lt b (length blocks) && has b j

-- one bit of what each block assigns
pub record HoldsBits (words : List ℕ) (count : ℕ) (has : ℕ → ℕ → Bool) : Type 0 where
  pub long : length words ≡ count
  pub each : (b j : ℕ) → b < count → j < 64 → has_bit words b j ≡ has b j

-- what is carried into a block, from its earlier predecessors
abbrev pub meets : (ℕ → ℕ → Bool) → (ℕ → ℕ → Bool) → List ℕ → ℕ → Bool
meets carried assigns before j = if is_empty before then false else list_all (λ p. carried p j || assigns p j) before

-- ---- what is lost

abbrev pub use_kept : (ℕ → ℕ → Bool) → (ℕ → ℕ → Bool) → How → ℕ → ℕ → Bool
use_kept carried assigns Assigned b j = true
use_kept carried assigns Read b j = carried b j
use_kept carried assigns (Entry name) b j = carried b j || assigns b j

abbrev pub is_lost : (ℕ → ℕ → Bool) → (ℕ → ℕ → Bool) → Use → Bool
is_lost carried assigns u = not (use_kept carried assigns u.mention.how u.block (u.slot % 64))

abbrev pub lost_uses : (ℕ → ℕ → Bool) → (ℕ → ℕ → Bool) → List Use → List Place
lost_uses carried assigns uses = map (λ (u : Use). u.mention.at) (filter (is_lost carried assigns) uses)

-- a jump back leaves what its target carries
abbrev pub jump_keeps : (ℕ → ℕ → Bool) → (ℕ → ℕ → Bool) → Jump → ℕ → Bool
jump_keeps carried assigns jump j = not (carried jump.to j) || (carried jump.at.block j || assigns jump.at.block j)

unfoldable pub jump_kept : (ℕ → ℕ → Bool) → (ℕ → ℕ → Bool) → Jump → Bool
jump_kept carried assigns jump = list_all (jump_keeps carried assigns jump) (counted 0 64)

abbrev pub lost_jumps : (ℕ → ℕ → Bool) → (ℕ → ℕ → Bool) → List Jump → List Place
lost_jumps carried assigns jumps = map (λ (jump : Jump). jump.at) (filter (λ (jump : Jump). not (jump_kept carried assigns jump)) jumps)

abbrev pub lost_places : (ℕ → ℕ → Bool) → (ℕ → ℕ → Bool) → List Jump → List Use → List Place
lost_places carried assigns jumps uses = lost_uses carried assigns uses ++ lost_jumps carried assigns jumps

abbrev pub lost_in_round : List Block → List Jump → List Use → List Place
lost_in_round blocks jumps uses =
    lost_places (within blocks (carried_bit blocks (round_assigns uses))) (within blocks (round_assigns uses)) jumps uses

abbrev pub lost_in_rounds : List Block → List Jump → List (Vec Use Global) → List Place
lost_in_rounds blocks jumps rounds = flat_map (λ (uses : Vec Use Global). lost_in_round blocks jumps uses.items) rounds

-- ---- jumps back

abbrev pub back_to : Place → Option ℕ → List Jump
back_to at None = []
back_to at (Some to) = if nat_lt at.block to then [] else record { at = at; to = to } ∷ []

abbrev pub jumps_at : (ℕ → Option ℕ) → Place → List ℕ → List Jump
jumps_at place at names = flat_map (λ name. back_to at (place name)) names

abbrev pub end_of : ℕ → Block → Place
end_of k b = record { block = k; item = length b.phis + length b.body }

abbrev pub block_jumps : (ℕ → Option ℕ) → ℕ → Block → List Jump
block_jumps place k b = jumps_at place (end_of k b) (targets_of b.last)

abbrev pub jumps_from : (ℕ → Option ℕ) → ℕ → List Block → List Jump
jumps_from place k [] = []
jumps_from place k (b ∷ bs) = block_jumps place k b ++ jumps_from place (suc k) bs

-- ---- the rule

-- the first place where something that is mentioned is lost
pub record IsFirstLost (blocks : List Block) (ms : List Mention) (first : Option Place) : Type 0 where
  pub slot : ℕ → ℕ
  pub last : ℕ
  pub places : Table
  pub rounds : List (Vec Use Global)
  pub slots : HaveSlots slot last ms
  pub named : HasPlaces places blocks
  pub long : length rounds ≡ last / 64 + 1
  pub each : AreRounds rounds slot (place_in places (length blocks)) ms
  pub found : first ≡ first_among None (lost_in_rounds blocks (jumps_from (get nat_eq places) 0 blocks) rounds)
