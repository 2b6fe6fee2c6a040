-- Serves private contracts: the ways between blocks, as a table that the code makes.
use Rattle.std.specs.Prelude.{◌≡◌, ℕ, ◌<◌, nat_eq, nat_lt, not, ◌||◌, Bool, false, List, [], ◌∷◌, length, filter, ◌++◌, if◌then◌else◌, Option, Some, None, slice_get}
use Rattle.std.specs.List.{list_any}
use Rattle.std.specs.declared.vec.Vec.{Vec}
use Rattle.std.specs.declared.alloc.Global.{Global}
use Rattle.qir_module.specs.declared.block.Block.{Block}
use Rattle.qir_module.specs.declared.instruction.Last.{Last}
use Rattle.qir_module.specs.Numbered.{counted}
use Rattle.qir_module.specs.Carried.{targets_of, is_way, earlier, is_empty}
use Rattle.profile_check.specs.Names.{is_at}

abbrev pub Rows : Type 0
Rows = List (Vec ℕ Global)

abbrev pub items_of : {T : Type 0} → Option (Vec T Global) → List T
items_of None = []
items_of (Some v) = v.items

-- what a table has for a block
abbrev pub row : {T : Type 0} → List (Vec T Global) → ℕ → List T
row rows b = items_of (slice_get rows b)

-- the places of the predecessors of a block among the first n blocks
abbrev pub ways_among : List Block → ℕ → ℕ → List ℕ
ways_among blocks n b = filter (λ p. is_way blocks p b) (counted 0 n)

-- the table has, for each block, its predecessors among the first n blocks
pub record AreWaysAmong (rows : Rows) (blocks : List Block) (n : ℕ) : Type 0 where
  pub long : length rows ≡ length blocks
  pub each : (b : ℕ) → b < length blocks → row rows b ≡ ways_among blocks n b

abbrev pub AreWays : Rows → List Block → Type 0
AreWays rows blocks = AreWaysAmong rows blocks (length blocks)

-- whether a last instruction jumps to a block, where names have such places
abbrev pub leads : (ℕ → Option ℕ) → Last → ℕ → Bool
leads place last b = list_any (λ name. is_at b (place name)) (targets_of last)

abbrev pub one_if : {T : Type 0} → Bool → T → List T
one_if b x = if b then x ∷ [] else []

-- the rows of `new` are those of `old`, with an element behind where the test says so
pub record Adds {T : Type 0} (old new : List (Vec T Global)) (test : ℕ → Bool) (x : T) : Type 0 where
  pub long : length new ≡ length old
  pub each : (b : ℕ) → b < length old → row new b ≡ row old b ++ one_if (test b) x

-- where a block other than the first has no earlier predecessor
abbrev pub without_earlier : List Block → ℕ → Block → Option ℕ
without_earlier blocks k b = if nat_eq k 0 || not (is_empty (earlier blocks k)) then None else Some 0

-- whether a number is below another
abbrev pub any_below : ℕ → List ℕ → Bool
any_below n [] = false
any_below n (x ∷ xs) = nat_lt x n || any_below n xs
