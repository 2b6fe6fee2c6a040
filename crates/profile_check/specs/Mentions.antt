-- Serves private contracts: what the items of a module say of its registers, or of its results, one mention
-- at a time and in the order of the text.
use Rattle.std.specs.Prelude.{◌≡◌, ℕ, if◌then◌else◌, Bool, List, [], ◌∷◌, ◌++◌, map, Option, Some, None, nat_eq}
use Rattle.std.specs.List.{flat_map}
use Rattle.std.specs.HashMap.{get}
use Rattle.qir_module.specs.declared.instruction.Operand.{Operand}
use Rattle.qir_module.specs.declared.instruction.Operand.TheVariants.{Register, Fixed}
use Rattle.qir_module.specs.declared.instruction.Arg.{Arg}
use Rattle.qir_module.specs.declared.instruction.Arg.TheVariants.{Id}
use Rattle.qir_module.specs.Numbered.{measured_in, read_in, is_among}
use Rattle.qir_module.specs.Spots.{Item, ThePhi, TheInstr, TheLast}
use Rattle.qir_module.specs.Carried.{Thing, TheRegister, TheResult}
use Rattle.qir_module.specs.Passes.{item_registers, arg_operands, instr_operands, last_operands}
use Rattle.profile_check.specs.declared.place.Place.{Place}
use Rattle.profile_check.specs.declared.mentions.How.TheVariants.{Assigned, Read, Entry}
use Rattle.profile_check.specs.declared.mentions.Mention.{Mention}
use Rattle.profile_check.specs.declared.mentions.Gathered.{Gathered}
use Rattle.profile_check.specs.Names.{is_at}
use Rattle.profile_check.specs.Visits.{Placed}

-- registers, or results
pub data Things : Type 0 where
  Registers : Things
  Results : Things

abbrev pub thing : Things → ℕ → Thing
thing Registers n = TheRegister n
thing Results n = TheResult n

-- ---- what an item mentions

abbrev pub numbers_in : Operand → List ℕ
numbers_in (Register r) = r ∷ []
numbers_in (Fixed z) = []

abbrev pub operand_numbers : List (Operand × Bool) → List ℕ
operand_numbers operands = flat_map (λ (o : Operand × Bool). numbers_in o.0) operands

abbrev pub arg_numbers : Arg → List ℕ
arg_numbers arg = operand_numbers (arg_operands arg)

-- what it assigns, where a measurement assigns its result
abbrev pub assigned : Things → Item → List ℕ
assigned Registers item = item_registers item
assigned Results (ThePhi phi) = []
assigned Results (TheInstr instr) = measured_in instr
assigned Results (TheLast last) = []

-- what it reads, if it is no phi
abbrev pub read : Things → Item → List ℕ
read Registers (ThePhi phi) = []
read Registers (TheInstr instr) = operand_numbers (instr_operands instr)
read Registers (TheLast last) = operand_numbers (last_operands last)
read Results (ThePhi phi) = []
read Results (TheInstr instr) = read_in instr
read Results (TheLast last) = []

-- what an entry takes, and the name of the block that it takes it from
abbrev pub taken_by : Operand × ℕ → List (ℕ × ℕ)
taken_by entry = map (λ (n : ℕ). (n, entry.1)) (numbers_in entry.0)

abbrev pub taken : Things → Item → List (ℕ × ℕ)
taken Registers (ThePhi phi) = flat_map taken_by phi.entries
taken Registers (TheInstr instr) = []
taken Registers (TheLast last) = []
taken Results item = []

-- the id of a call that has one argument, and the second of one that has two
abbrev pub only_id_in : List Arg → List ℕ
only_id_in (Id k ∷ []) = k ∷ []
only_id_in args = []

abbrev pub second_id_in : List Arg → List ℕ
second_id_in (Id q ∷ Id k ∷ []) = k ∷ []
second_id_in args = []

-- ---- mentions, where `latest` gives the last block that assigns each

abbrev pub read_mention : (ℕ → Option ℕ) → Place → ℕ → List Mention
read_mention latest at n = if is_at at.block (latest n) then [] else record { how = Read; at = at; number = n } ∷ []

abbrev pub read_mentions : (ℕ → Option ℕ) → Place → List ℕ → List Mention
read_mentions latest at ns = flat_map (read_mention latest at) ns

abbrev pub taken_mention : Place → ℕ × ℕ → Mention
taken_mention at e = record { how = Entry e.1; at = at; number = e.0 }

abbrev pub taken_mentions : Place → List (ℕ × ℕ) → List Mention
taken_mentions at es = map (taken_mention at) es

abbrev pub assigned_mention : Place → ℕ → Mention
assigned_mention at n = record { how = Assigned; at = at; number = n }

abbrev pub assigned_mentions : Place → List ℕ → List Mention
assigned_mentions at ns = map (assigned_mention at) ns

abbrev pub item_mentions : Things → (ℕ → Option ℕ) → Place → Item → List Mention
item_mentions things latest at item =
    read_mentions latest at (read things item) ++ taken_mentions at (taken things item) ++ assigned_mentions at (assigned things item)

abbrev pub latest_behind : List ℕ → (ℕ → Option ℕ) → ℕ → ℕ → Option ℕ
latest_behind numbers latest block n = if is_among numbers n then Some block else latest n

-- ---- the mentions of a module

abbrev pub place_of : Placed → Place
place_of p = record { block = p.block; item = p.item }

abbrev pub latest_from : Things → (ℕ → Option ℕ) → List Placed → ℕ → Option ℕ
latest_from things latest [] = latest
latest_from things latest (p ∷ ps) = latest_from things (latest_behind (assigned things p.here) latest p.block) ps

abbrev pub mentions_from : Things → (ℕ → Option ℕ) → List Placed → List Mention
mentions_from things latest [] = []
mentions_from things latest (p ∷ ps) =
    item_mentions things latest (place_of p) p.here ++ mentions_from things (latest_behind (assigned things p.here) latest p.block) ps

abbrev pub nowhere : ℕ → Option ℕ
nowhere n = None

abbrev pub mentions_of : Things → List Placed → List Mention
mentions_of things placed = mentions_from things nowhere placed

abbrev pub latest_in : Gathered → ℕ → Option ℕ
latest_in g n = get nat_eq g.latest n

-- some mentions were added
pub record Adds (old new : Gathered) (added : List Mention) : Type 0 where
  pub mentions : new.mentions.items ≡ old.mentions.items ++ added
  pub latest : (n : ℕ) → latest_in new n ≡ latest_in old n

-- what an item mentions was added
pub record AddsItem (things : Things) (old new : Gathered) (at : Place) (item : Item) : Type 0 where
  pub mentions : new.mentions.items ≡ old.mentions.items ++ item_mentions things (latest_in old) at item
  pub latest : (n : ℕ) → latest_in new n ≡ latest_behind (assigned things item) (latest_in old) at.block n

-- it has what some items mention
pub record HoldsMentions (things : Things) (g : Gathered) (visited : List Placed) : Type 0 where
  pub mentions : g.mentions.items ≡ mentions_of things visited
  pub latest : (n : ℕ) → latest_in g n ≡ latest_from things nowhere visited n
