-- The size of a core as a tree, in the form of that of `core_ir`: its knots, which bound the blocks, its calls, which bound those of
-- gates, resets and measurements, and that the levels of its jumps are there.
use Rattle.std.specs.Prelude.{ℕ, suc, ◌+◌, ◌<◌, if◌then◌else◌, Bool, not, ◌&&◌, ◌||◌}
use Rattle.core_ir.specs.Ways.{Exit, Falls, is_fall, is_leave, is_again, from_block, from_loop}
use Rattle.source_core.specs.Core.{Core, Assign, Gate, Reset, Measure, If, Block, Loop, Leave, Again, Body, no_core, a_core}

-- ---- whether some way through a statement or a body ends at an exit

abbrev mutual
  pub core_reaches : Core → Exit → Bool
  core_reaches (Assign pairs) x = is_fall x
  core_reaches (Gate gate arguments qubits) x = is_fall x
  core_reaches (Reset qubit) x = is_fall x
  core_reaches (Measure qubit into) x = is_fall x
  core_reaches (If test a b) x = body_reaches a x || body_reaches b x
  core_reaches (Block a) x = from_block (body_reaches a) x
  core_reaches (Loop a) x = from_loop (body_reaches a) x
  core_reaches (Leave k) x = is_leave k x
  core_reaches (Again k) x = is_again k x

  pub body_reaches : Body → Exit → Bool
  body_reaches no_core x = is_fall x
  body_reaches (a_core c rest) x = (not (is_fall x) && core_reaches c x) || (core_reaches c Falls && body_reaches rest x)

-- ---- knots

abbrev mutual
  -- with one body that never reaches its end there is no block behind an `If`
  pub core_knots : Core → ℕ
  core_knots (If test a b) = (if body_reaches a Falls && body_reaches b Falls then 3 else 2) + body_knots a + body_knots b
  core_knots (Block a) = 1 + body_knots a
  core_knots (Loop a) = 2 + body_knots a
  core_knots (Assign pairs) = 0
  core_knots (Gate gate arguments qubits) = 0
  core_knots (Reset qubit) = 0
  core_knots (Measure qubit into) = 0
  core_knots (Leave k) = 0
  core_knots (Again k) = 0

  pub body_knots : Body → ℕ
  body_knots no_core = 0
  body_knots (a_core c rest) = core_knots c + body_knots rest

-- ---- statements that apply a gate, reset a qubit or measure one

abbrev mutual
  pub core_calls : Core → ℕ
  core_calls (Assign pairs) = 0
  core_calls (Gate gate arguments qubits) = 1
  core_calls (Reset qubit) = 1
  core_calls (Measure qubit into) = 1
  core_calls (If test a b) = body_calls a + body_calls b
  core_calls (Block a) = body_calls a
  core_calls (Loop a) = body_calls a
  core_calls (Leave k) = 0
  core_calls (Again k) = 0

  pub body_calls : Body → ℕ
  body_calls no_core = 0
  body_calls (a_core c rest) = core_calls c + body_calls rest

-- ---- the blocks and loops that are left, and the loops that are gone back to, are there

abbrev mutual
  pub CoreHasLevels : Core → ℕ → ℕ → Type 0
  CoreHasLevels (Assign pairs) ends starts = Unit {0}
  CoreHasLevels (Gate gate arguments qubits) ends starts = Unit {0}
  CoreHasLevels (Reset qubit) ends starts = Unit {0}
  CoreHasLevels (Measure qubit into) ends starts = Unit {0}
  CoreHasLevels (If test a b) ends starts = HasLevels a ends starts × HasLevels b ends starts
  CoreHasLevels (Block a) ends starts = HasLevels a (suc ends) starts
  CoreHasLevels (Loop a) ends starts = HasLevels a (suc ends) (suc starts)
  CoreHasLevels (Leave k) ends starts = k < ends
  CoreHasLevels (Again k) ends starts = k < starts

  pub HasLevels : Body → ℕ → ℕ → Type 0
  HasLevels no_core ends starts = Unit {0}
  HasLevels (a_core c rest) ends starts = CoreHasLevels c ends starts × HasLevels rest ends starts
