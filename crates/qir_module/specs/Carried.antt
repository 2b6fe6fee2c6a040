-- What is carried into each block: the registers that are assigned and the results that are measured on
-- every way to it, by the order of the text alone. Into the first block, and into a block without an
-- earlier predecessor, nothing is carried. Into another block is carried what each of its predecessors that
-- stand earlier carries or assigns.
use Rattle.std.specs.Prelude.{ℕ, zero, suc, nat_eq, if◌then◌else◌, Bool, true, false, ◌||◌, List, [], ◌∷◌, ◌++◌, map, filter, Option, Some, None, slice_get}
use Rattle.std.specs.List.{list_all, list_any, flat_map}
use Rattle.qir_module.specs.declared.instruction.Last.{Last}
use Rattle.qir_module.specs.declared.instruction.Last.TheVariants.{Jump, Branch, Return}
use Rattle.qir_module.specs.declared.block.Block.{Block}
use Rattle.qir_module.specs.Numbered.{registers_of, measured_in, is_among, counted}
use Rattle.qir_module.specs.Spots.{Item, ThePhi, TheInstr, TheLast, items_in}

-- ---- the ways between blocks

-- the names of the blocks that a last instruction jumps to
abbrev pub targets_of : Last → List ℕ
targets_of (Jump to) = to ∷ []
targets_of (Branch test first second) = first ∷ second ∷ []
targets_of (Return code) = []

abbrev pub jumps_to : Option Block → Option Block → Bool
jumps_to (Some from) (Some to) = is_among (targets_of from.last) to.name
jumps_to (Some from) None = false
jumps_to None to = false

-- whether the block at place p is a predecessor of the block at place b
abbrev pub is_way : List Block → ℕ → ℕ → Bool
is_way blocks p b = jumps_to (slice_get blocks p) (slice_get blocks b)

-- the places of the predecessors that stand earlier
abbrev pub earlier : List Block → ℕ → List ℕ
earlier blocks b = filter (λ p. is_way blocks p b) (counted 0 b)

-- ---- what is assigned

-- what is carried: a register, or the outcome in a result
pub data Thing : Type 0 where
  TheRegister : (r : ℕ) → Thing
  TheResult : (k : ℕ) → Thing

abbrev pub same_thing : Thing → Thing → Bool
same_thing (TheRegister r) (TheRegister s) = nat_eq r s
same_thing (TheResult k) (TheResult l) = nat_eq k l
same_thing (TheRegister r) (TheResult l) = false
same_thing (TheResult k) (TheRegister s) = false

-- a result is assigned by its measurement
abbrev pub assigned_by : Item → List Thing
assigned_by (ThePhi phi) = TheRegister phi.register ∷ []
assigned_by (TheInstr instr) = map TheRegister (registers_of instr) ++ map TheResult (measured_in instr)
assigned_by (TheLast last) = []

-- whether one of the items assigns it
abbrev pub are_assigning : List Item → Thing → Bool
are_assigning items t = list_any (same_thing t) (flat_map assigned_by items)

abbrev pub block_assigns : Option Block → Thing → Bool
block_assigns None t = false
block_assigns (Some b) t = are_assigning (items_in b) t

-- whether the block at a place assigns it
abbrev pub assigns : List Block → ℕ → Thing → Bool
assigns blocks b t = block_assigns (slice_get blocks b) t

-- ---- what is carried

abbrev pub is_empty : List ℕ → Bool
is_empty [] = true
is_empty (x ∷ xs) = false

-- Whether a thing is carried into the block at a place, where `before` gives the earlier predecessors of
-- each block and `assigned` says which blocks assign it. The first number is more than the block's place,
-- so that the recursion ends.
abbrev pub carried_within : (ℕ → List ℕ) → (ℕ → Bool) → ℕ → ℕ → Bool
carried_within before assigned zero b = false
carried_within before assigned (suc n) b =
    if is_empty (before b) then false else list_all (λ p. carried_within before assigned n p || assigned p) (before b)

-- whether it is in the set that is carried into the block
abbrev pub is_carried : List Block → ℕ → Thing → Bool
is_carried blocks b t = carried_within (earlier blocks) (λ p. assigns blocks p t) (suc b) b

-- whether it is there at the block's end: carried into the block, or assigned in it
abbrev pub is_left : List Block → ℕ → Thing → Bool
is_left blocks b t = is_carried blocks b t || assigns blocks b t
