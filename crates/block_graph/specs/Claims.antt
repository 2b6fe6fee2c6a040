-- For private contracts only: what is claimed of the graph while it is made. Each claim is kept by every statement, and is
-- proved by an induction of its own. The claims on the run are with their lemmas.
use Rattle.std.specs.Prelude.{◌≡◌, ◌≢◌, ◌⊎◌, ℕ, ◌<◌, ◌+◌, ◌*◌, ◌≤◌, nat_lt, Bool, true, false, List, [], ◌∷◌, ◌++◌, map, length, Option, Some, None}
use Rattle.std.specs.List.{sum_by, flat_map, list_all, AllByRecursion}
use Rattle.qir_module.specs.declared.instruction.Arg.{Arg}
use Rattle.qir_module.specs.declared.instruction.Arg.TheVariants.{Number as NumberArg, Truth as TruthArg, Id as IdArg, Text as TextArg}
use Rattle.qir_module.specs.declared.instruction.Instr.{Instr}
use Rattle.qir_module.specs.declared.instruction.Instr.TheVariants.{Op, Zext, Trunc, Select, Call}
use Rattle.qir_module.specs.declared.instruction.Last.{Last}
use Rattle.qir_module.specs.declared.instruction.Last.TheVariants.{Jump, Branch, Return}
use Rattle.qir_module.specs.declared.block.Phi.{Phi}
use Rattle.qir_module.specs.Numbered.{CountsFrom, registers_of, measured_in, functions_of, IsNamed, ReadsFollow}
use Rattle.qir_module.specs.Spots.{TheInstr}
use Rattle.qir_module.specs.Passes.{are_distinct, instr_ids, is_qubit, is_result, instr_fits, instr_labels, constants_fit, initializes, is_record}
use Rattle.core_ir.specs.declared.expression.CoreExpr.{CoreExpr}
use Rattle.core_ir.specs.Core.{Core}
use Rattle.core_ir.specs.Size.{weight_of, knots_of, calls_of, joined_of}
use Rattle.core_ir.specs.Tree.{Stmt}
use Rattle.core_ir.specs.Ways.{Before}
use Rattle.expr_lower.specs.Lowered.{IsTyped, Reads}
use Rattle.block_graph.specs.Laws.{work_in}
use Rattle.block_graph.specs.Work.{Draft, Level, Open, Work}
use Rattle.block_graph.specs.Lowering.{initialize_call, settled_phis}

-- ---- the order of the numbers

-- what a block gives, where f is of phis and g of instructions
abbrev pub traced_draft : (List Phi → List ℕ) → (Instr → List ℕ) → (ℕ → List Phi) → Draft → List ℕ
traced_draft f g lates d = f (settled_phis lates d.phis) ++ flat_map g d.body

abbrev pub traced_now : (List Phi → List ℕ) → (Instr → List ℕ) → (ℕ → List Phi) → Option Open → List ℕ
traced_now f g lates None = []
traced_now f g lates (Some o) = f (settled_phis lates o.phis) ++ flat_map g o.body

-- what the drafts and the open block give
abbrev pub traced : (List Phi → List ℕ) → (Instr → List ℕ) → (ℕ → List Phi) → Work → List ℕ
traced f g lates w = flat_map (traced_draft f g lates) w.done ++ traced_now f g lates w.now

abbrev pub phi_registers : List Phi → List ℕ
phi_registers phis = map (λ (p : Phi). p.register) phis

abbrev pub no_registers : List Phi → List ℕ
no_registers phis = []

-- registers below a number
abbrev pub Below : ℕ → ℕ → Bool → Type 0
Below next r truth = r < next

-- an argument with registers below a number, and a qubit of the core or a result below another
abbrev pub IsArgBelow : Core → ℕ → ℕ → Arg → Type 0
IsArgBelow core next results (NumberArg operand) = IsTyped (Below next) false operand
IsArgBelow core next results (TruthArg operand) = IsTyped (Below next) true operand
IsArgBelow core next results (IdArg n) = (n < core.qubits) ⊎ (n < results)
IsArgBelow core next results (TextArg k) = k < length core.labels

abbrev pub IsBelowIf : ℕ → Option ℕ → Type 0
IsBelowIf next None = Unit {0}
IsBelowIf next (Some r) = r < next

abbrev pub IsInstrBelow : Core → ℕ → ℕ → Instr → Type 0
IsInstrBelow core next results (Op r op truth left right) = (r < next) × Reads (Below next) (Op r op truth left right)
IsInstrBelow core next results (Zext r from) = (r < next) × Reads (Below next) (Zext r from)
IsInstrBelow core next results (Trunc r from) = (r < next) × Reads (Below next) (Trunc r from)
IsInstrBelow core next results (Select r truth test chosen other) = (r < next) × Reads (Below next) (Select r truth test chosen other)
IsInstrBelow core next results (Call register function args) = IsBelowIf next register × (function.0 < 37) × AllByRecursion (IsArgBelow core next results) args

-- An instruction that keeps the rules on single instructions, and does not initialize: with the core's qubits and labels, and
-- with registers and results below two numbers.
pub record IsGoodInstr (core : Core) (next results : ℕ) (i : Instr) : Type 0 where
  pub below : IsInstrBelow core next results i
  pub qubits : list_all (λ n. nat_lt n core.qubits) (instr_ids is_qubit i) ≡ true
  pub apart : are_distinct (instr_ids is_qubit i) ≡ true
  pub measured : list_all (λ n. nat_lt n results) (instr_ids is_result i) ≡ true
  pub labels : list_all (λ k. nat_lt k (length core.labels)) (instr_labels i) ≡ true
  pub fits : instr_fits i ≡ true
  pub constants : constants_fit i ≡ true
  pub function : list_all (λ f. nat_lt f 37) (functions_of i) ≡ true
  pub later : initializes (TheInstr i) ≡ false

abbrev pub body_now : Option Open → List Instr
body_now None = []
body_now (Some o) = o.body

-- the instructions so far, in the order of the text
abbrev pub instrs_in : Work → List Instr
instrs_in w = flat_map (λ (d : Draft). d.body) w.done ++ body_now w.now

-- the first initializes, and each behind it is good
pub record InstrsStand (core : Core) (w : Work) : Type 0 where
  pub more : List Instr
  pub starts : instrs_in w ≡ initialize_call ∷ more
  pub good : AllByRecursion (IsGoodInstr core w.next w.results) more

-- measurements and readings name their results, and each reading stands right behind its measurement, whatever is in front
abbrev pub IsReadInOrder : List Instr → Type 0
IsReadInOrder body = AllByRecursion IsNamed body × ((measured : List ℕ) → ReadsFollow measured body)

abbrev pub NowIsReadInOrder : Option Open → Type 0
NowIsReadInOrder None = Unit {0}
NowIsReadInOrder (Some o) = IsReadInOrder o.body

-- with these late phis
pub record NumbersInOrder (lates : ℕ → List Phi) (w : Work) : Type 0 where
  pub registers : CountsFrom 0 (traced phi_registers registers_of lates w)
  pub next : w.next ≡ length (traced phi_registers registers_of lates w)
  pub results : CountsFrom 0 (traced no_registers measured_in lates w)
  pub measured : w.results ≡ length (traced no_registers measured_in lates w)
  pub bodies : AllByRecursion (λ (d : Draft). IsReadInOrder d.body) w.done
  pub body : NowIsReadInOrder w.now

-- no instruction is a record
abbrev pub AreSilent : List Instr → Type 0
AreSilent code = AllByRecursion (λ (i : Instr). is_record (TheInstr i) ≡ false) code

-- how a block ends while statements are lowered: the two targets of a branch are two labels, and nothing is returned
abbrev pub EndsFine : Last → Type 0
EndsFine (Jump label) = Unit {0}
EndsFine (Branch test first second) = first ≢ second
EndsFine (Return code) = ⊥

-- ---- the bounds

-- what a block counts, where f is of phis and g of instructions, and the block and its last instruction add b
abbrev pub counted_draft : ℕ → (List Phi → ℕ) → (Instr → ℕ) → (ℕ → List Phi) → Draft → ℕ
counted_draft b f g lates d = b + f (settled_phis lates d.phis) + sum_by g d.body

abbrev pub counted_now : ℕ → (List Phi → ℕ) → (Instr → ℕ) → (ℕ → List Phi) → Option Open → ℕ
counted_now b f g lates None = 0
counted_now b f g lates (Some o) = b + f (settled_phis lates o.phis) + sum_by g o.body

-- what the drafts and the open block count
abbrev pub counted_in : ℕ → (List Phi → ℕ) → (Instr → ℕ) → (ℕ → List Phi) → Work → ℕ
counted_in b f g lates w = sum_by (counted_draft b f g lates) w.done + counted_now b f g lates w.now

abbrev pub entries_in : List Phi → ℕ
entries_in phis = sum_by (λ (p : Phi). length p.entries) phis

abbrev pub no_phis : List Phi → ℕ
no_phis phis = 0

abbrev pub no_code : Instr → ℕ
no_code i = 0

abbrev pub one_each : Instr → ℕ
one_each i = 1

abbrev pub phis_in : List Phi → ℕ
phis_in phis = length phis

abbrev pub items_in : (ℕ → List Phi) → Work → ℕ
items_in lates w = counted_in 2 entries_in one_each lates w

abbrev pub phis_counted : (ℕ → List Phi) → Work → ℕ
phis_counted lates w = counted_in 0 phis_in no_code lates w

abbrev pub calls_in : (ℕ → List Phi) → Work → ℕ
calls_in lates w = counted_in 0 no_phis work_in lates w

abbrev pub blocks_in : (ℕ → List Phi) → Work → ℕ
blocks_in lates w = counted_in 1 no_phis no_code lates w

-- each way has paid an entry for each cell that is open where it leads
abbrev pub paid : List Level → List ℕ → ℕ
paid [] costs = 0
paid (l ∷ ls) [] = 0
paid (l ∷ ls) (cost ∷ costs) = cost * length l.ways + paid ls costs

pub record Grown (lates : ℕ → List Phi) (n : ℕ) (exprs : List CoreExpr) (s : Stmt) (at : Before) (ends starts : List ℕ) (w v : Work) : Type 0 where
  pub items : items_in lates v + paid v.ends ends + paid v.starts starts ≤ items_in lates w + paid w.ends ends + paid w.starts starts + weight_of n exprs s at ends starts
  pub phis : phis_counted lates v ≤ phis_counted lates w + joined_of n exprs s at
  pub calls : calls_in lates v ≤ calls_in lates w + calls_of s
  pub blocks : blocks_in lates v ≤ blocks_in lates w + knots_of s
