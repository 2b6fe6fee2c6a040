-- The order of the numbers in a module, as the compiler writes them.
use Rattle.std.specs.Prelude.{ℕ, zero, suc, ◌≡◌, nat_eq, Bool, List, [], ◌∷◌, ◌++◌, length, map, Option, Some, None}
use Rattle.std.specs.Option.{option_to_list}
use Rattle.std.specs.List.{flat_map, filter, list_any, AllByRecursion}
use Rattle.qir_module.specs.declared.instruction.Arg.{Arg}
use Rattle.qir_module.specs.declared.instruction.Arg.TheVariants.{Id}
use Rattle.qir_module.specs.declared.instruction.Instr.{Instr}
use Rattle.qir_module.specs.declared.instruction.Instr.TheVariants.{Op, Zext, Trunc, Select, Call}
use Rattle.qir_module.specs.declared.function.Function.{Function}
use Rattle.qir_module.specs.declared.block.Phi.{Phi}
use Rattle.qir_module.specs.declared.block.Block.{Block}
use Rattle.qir_module.specs.Module.{Module}
use Rattle.qir_module.specs.Functions.{Task, ReadResult, MeasureQubit, Row, row_of}

-- the numbers are k, k + 1 and so on
abbrev pub CountsFrom : ℕ → List ℕ → Type 0
CountsFrom k [] = Unit {0}
CountsFrom k (n ∷ ns) = (n ≡ k) × CountsFrom (suc k) ns

-- n numbers from k on, in order
abbrev pub counted : ℕ → ℕ → List ℕ
counted k zero = []
counted k (suc n) = k ∷ counted (suc k) n

-- ---- what a module assigns, calls and measures, in the order of its text

abbrev pub registers_of : Instr → List ℕ
registers_of (Op r op truth left right) = r ∷ []
registers_of (Zext r from) = r ∷ []
registers_of (Trunc r from) = r ∷ []
registers_of (Select r truth test chosen other) = r ∷ []
registers_of (Call register function args) = option_to_list register

abbrev pub block_registers : Block → List ℕ
block_registers b = map (λ (p : Phi). p.register) b.phis ++ flat_map registers_of b.body

abbrev pub functions_of : Instr → List ℕ
functions_of (Call register function args) = function.0 ∷ []
functions_of _ = []

abbrev pub called_functions : List Block → List ℕ
called_functions blocks = flat_map (λ (b : Block). flat_map functions_of b.body) blocks

abbrev pub task_of : Option Row → Option Task
task_of None = None
task_of (Some row) = Some row.task

-- the result of a measurement, or of a reading
abbrev pub measured_by : Option Task → List Arg → List ℕ
measured_by (Some MeasureQubit) (Id q ∷ Id k ∷ []) = k ∷ []
measured_by _ _ = []

abbrev pub read_by : Option Task → List Arg → List ℕ
read_by (Some ReadResult) (Id k ∷ []) = k ∷ []
read_by _ _ = []

abbrev pub measured_in : Instr → List ℕ
measured_in (Call register function args) = measured_by (task_of (row_of function.0)) args
measured_in _ = []

abbrev pub read_in : Instr → List ℕ
read_in (Call register function args) = read_by (task_of (row_of function.0)) args
read_in _ = []

abbrev pub measured_results : List Block → List ℕ
measured_results blocks = flat_map (λ (b : Block). flat_map measured_in b.body) blocks

-- what an instruction reads, if anything, is what the one right in front measures
abbrev pub IsReadOf : List ℕ → List ℕ → Type 0
IsReadOf measured [] = Unit {0}
IsReadOf measured (k ∷ ks) = measured ≡ k ∷ []

-- a measurement names a qubit and a result, and a reading names a result
abbrev pub NamesResult : Option Task → List Arg → Type 0
NamesResult (Some MeasureQubit) (Id q ∷ Id k ∷ []) = Unit {0}
NamesResult (Some MeasureQubit) _ = ⊥
NamesResult (Some ReadResult) (Id k ∷ []) = Unit {0}
NamesResult (Some ReadResult) _ = ⊥
NamesResult _ _ = Unit {0}

abbrev pub IsNamed : Instr → Type 0
IsNamed (Call register function args) = NamesResult (task_of (row_of function.0)) args
IsNamed _ = Unit {0}

-- each reading stands right behind the measurement of its result; `measured` is what is measured right in front
abbrev pub ReadsFollow : List ℕ → List Instr → Type 0
ReadsFollow measured [] = Unit {0}
ReadsFollow measured (i ∷ is) = IsReadOf measured (read_in i) × ReadsFollow (measured_in i) is

abbrev pub EachReadsFollow : List Block → Type 0
EachReadsFollow [] = Unit {0}
EachReadsFollow (b ∷ blocks) = ReadsFollow [] b.body × EachReadsFollow blocks

abbrev pub is_among : List ℕ → ℕ → Bool
is_among xs n = list_any (nat_eq n) xs

-- ---- the order

pub record IsNumbered (m : Module) : Type 0 where
  -- the k-th block is named k
  pub names : CountsFrom 0 (map (λ (b : Block). b.name) m.blocks)
  -- registers are 0, 1, 2 and so on, in the order of their assignments
  pub registers : CountsFrom 0 (flat_map block_registers m.blocks)
  -- the k-th measurement is of result k, and all of them are required
  pub named : AllByRecursion (λ (b : Block). AllByRecursion IsNamed b.body) m.blocks
  pub results : CountsFrom 0 (measured_results m.blocks)
  pub required : m.results ≡ length (measured_results m.blocks)
  pub reads : EachReadsFollow m.blocks
  -- the declarations are exactly the called functions, in the order of the table
  pub declarations : map (λ (f : Function). f.0) m.declarations ≡ filter (is_among (called_functions m.blocks)) (counted 0 37)
