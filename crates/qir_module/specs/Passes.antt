-- What a module must keep to run on a target of the adaptive profile of QIR: twenty rules, each a demand on
-- every item of the text. A demand on the whole module stands at the first item of the first block.
use Rattle.std.specs.Prelude.{ℕ, zero, suc, ◌≡◌, nat_eq, nat_lt, nat_le, if◌then◌else◌, Bool, true, false, not, ◌&&◌, ◌||◌, List, [], ◌∷◌, ◌++◌, length, map, filter, take, ℤ, pos, negsuc, Option, Some, None, is_some, is_none, count_by}
use Rattle.std.specs.List.{AllByRecursion, list_all, list_any, flat_map}
use Rattle.qir_module.specs.declared.instruction.Operand.{Operand}
use Rattle.qir_module.specs.declared.instruction.Operand.TheVariants.{Register, Fixed}
use Rattle.qir_module.specs.declared.instruction.Opcode.{Opcode}
use Rattle.qir_module.specs.declared.instruction.Opcode.TheVariants.{Sdiv, Srem, Udiv, Urem, Shl, Lshr, Ashr, Eq, Ne, Slt, Sle, Sgt, Sge, Ult, Ule, Ugt, Uge}
use Rattle.qir_module.specs.declared.instruction.Arg.{Arg}
use Rattle.qir_module.specs.declared.instruction.Arg.TheVariants.{Number, Truth, Id, Text}
use Rattle.qir_module.specs.declared.instruction.Instr.{Instr}
use Rattle.qir_module.specs.declared.instruction.Instr.TheVariants.{Op, Zext, Trunc, Select, Call}
use Rattle.qir_module.specs.declared.instruction.Last.{Last}
use Rattle.qir_module.specs.declared.instruction.Last.TheVariants.{Branch, Return}
use Rattle.qir_module.specs.declared.function.Function.{Function}
use Rattle.qir_module.specs.declared.block.Phi.{Phi}
use Rattle.qir_module.specs.declared.block.Block.{Block}
use Rattle.qir_module.specs.declared.profile.Profile.{Profile}
use Rattle.qir_module.specs.declared.profile.Profile.TheVariants.{Adaptive, Base}
use Rattle.qir_module.specs.Module.{Module}
use Rattle.qir_module.specs.Functions.{Kind, NumberKind, TruthKind, NullKind, QubitKind, ResultKind, LabelKind, Task, Initialize, ArrayRecord, BoolRecord, IntRecord, Row, row_of}
use Rattle.qir_module.specs.Machine.{place_of}
use Rattle.qir_module.specs.Numbered.{registers_of, functions_of, task_of, read_in, measured_in, is_among}
use Rattle.qir_module.specs.Spots.{Item, ThePhi, TheInstr, TheLast, items_in, Spot, spots}
use Rattle.qir_module.specs.Carried.{Thing, TheRegister, TheResult, targets_of, earlier, are_assigning, is_empty, is_carried, is_left}

-- what a rule wants of an item where it stands
abbrev pub Demand : Type 0
Demand = Module → Spot → Bool

abbrev pub at_first_item : Spot → Bool → Bool
at_first_item s wanted = if nat_eq s.block 0 && nat_eq s.item 0 then wanted else true

abbrev pub at_block_start : Spot → Bool → Bool
at_block_start s wanted = if nat_eq s.item 0 then wanted else true

-- no number stands twice
abbrev pub are_distinct : List ℕ → Bool
are_distinct [] = true
are_distinct (n ∷ ns) = not (is_among ns n) && are_distinct ns

-- ---- what an item names

abbrev pub item_registers : Item → List ℕ
item_registers (ThePhi phi) = phi.register ∷ []
item_registers (TheInstr instr) = registers_of instr
item_registers (TheLast last) = []

abbrev pub item_functions : Item → List ℕ
item_functions (TheInstr instr) = functions_of instr
item_functions _ = []

abbrev pub item_tasks : Item → List (Option Task)
item_tasks item = map (λ f. task_of (row_of f)) (item_functions item)

abbrev pub takes_of : Option Row → List Kind
takes_of None = []
takes_of (Some row) = row.takes

abbrev pub id_in : Arg → List ℕ
id_in (Id n) = n ∷ []
id_in _ = []

-- the ids where the function's row takes something of a kind, however wrong the rest of the call is
abbrev pub ids_where : (Kind → Bool) → List Kind → List Arg → List ℕ
ids_where wanted [] args = []
ids_where wanted (kind ∷ kinds) [] = []
ids_where wanted (kind ∷ kinds) (arg ∷ args) = (if wanted kind then id_in arg else []) ++ ids_where wanted kinds args

abbrev pub instr_ids : (Kind → Bool) → Instr → List ℕ
instr_ids wanted (Call register function args) = ids_where wanted (takes_of (row_of function.0)) args
instr_ids wanted _ = []

abbrev pub item_ids : (Kind → Bool) → Item → List ℕ
item_ids wanted (TheInstr instr) = instr_ids wanted instr
item_ids wanted _ = []

abbrev pub is_qubit : Kind → Bool
is_qubit QubitKind = true
is_qubit _ = false

abbrev pub is_result : Kind → Bool
is_result ResultKind = true
is_result _ = false

abbrev pub is_null : Kind → Bool
is_null NullKind = true
is_null _ = false

-- ---- the module's head: flags, profile, ids, declarations, calls

abbrev pub flags_kept : Demand
flags_kept m s = at_first_item s (nat_eq m.major 2 && nat_eq m.minor 0 && not m.dynamic_qubits && not m.dynamic_results)

abbrev pub is_adaptive : Profile → Bool
is_adaptive Adaptive = true
is_adaptive Base = false

abbrev pub entry_kept : Demand
entry_kept m s = at_first_item s (is_adaptive m.profile)

abbrev pub qubit_ids_kept : Demand
qubit_ids_kept m s = list_all (λ n. nat_lt n m.qubits) (item_ids is_qubit s.here)

abbrev pub result_ids_kept : Demand
result_ids_kept m s = list_all (λ n. nat_lt n m.results) (item_ids is_result s.here)

abbrev pub declared : Module → List ℕ
declared m = map (λ (f : Function). f.0) m.declarations

-- every called function is declared, and none is declared twice
abbrev pub declarations_kept : Demand
declarations_kept m s = at_first_item s (are_distinct (declared m)) && list_all (is_among (declared m)) (item_functions s.here)

abbrev pub takes : Kind → Arg → Bool
takes NumberKind (Number operand) = true
takes TruthKind (Truth operand) = true
takes NullKind (Id n) = true
takes QubitKind (Id n) = true
takes ResultKind (Id n) = true
takes LabelKind (Text k) = true
takes _ _ = false

abbrev pub takes_all : List Kind → List Arg → Bool
takes_all [] [] = true
takes_all (kind ∷ kinds) (arg ∷ args) = takes kind arg && takes_all kinds args
takes_all [] (arg ∷ args) = false
takes_all (kind ∷ kinds) [] = false

-- a register is there exactly where the function gives a value
abbrev pub call_fits : Option Row → Option ℕ → List Arg → Bool
call_fits None register args = false
call_fits (Some row) register args = takes_all row.takes args && (if row.gives then is_some register else is_none register)

abbrev pub instr_fits : Instr → Bool
instr_fits (Call register function args) = call_fits (row_of function.0) register args
instr_fits _ = true

abbrev pub item_fits : Item → Bool
item_fits (TheInstr instr) = instr_fits instr
item_fits _ = true

abbrev pub calls_kept : Demand
calls_kept m s = item_fits s.here

abbrev pub is_initialize : Option Task → Bool
is_initialize (Some Initialize) = true
is_initialize _ = false

abbrev pub initializes : Item → Bool
initializes item = list_any is_initialize (item_tasks item)

abbrev pub is_only_zero : List ℕ → Bool
is_only_zero (zero ∷ []) = true
is_only_zero _ = false

-- it is the first instruction of the first block, with id 0, and stands nowhere else
abbrev pub initialize_kept : Demand
initialize_kept m s =
    if nat_eq s.block 0 && nat_eq s.item 0 then initializes s.here && is_only_zero (item_ids is_null s.here) else not (initializes s.here)

-- ---- blocks, registers, ways and phis

abbrev pub block_names : List Block → List ℕ
block_names blocks = map (λ (b : Block). b.name) blocks

-- the names of blocks are distinct
abbrev pub labels_kept : Demand
labels_kept m s = at_block_start s (not (is_among (block_names (take s.block m.blocks)) s.of.name))

abbrev pub registers_assigned : List Item → List ℕ
registers_assigned items = flat_map item_registers items

abbrev pub block_assigned : Block → List ℕ
block_assigned b = registers_assigned (items_in b)

-- the registers that are assigned earlier in the text
abbrev pub assigned_earlier : Module → Spot → List ℕ
assigned_earlier m s = flat_map block_assigned (take s.block m.blocks) ++ registers_assigned s.front

abbrev pub assigned_once_kept : Demand
assigned_once_kept m s = list_all (λ r. not (is_among (assigned_earlier m s) r)) (item_registers s.here)

-- the block is there, and is not the first
abbrev pub is_target : Option ℕ → Bool
is_target None = false
is_target (Some zero) = false
is_target (Some (suc p)) = true

-- the two targets of a branch differ
abbrev pub targets_kept_at : Module → Item → Bool
targets_kept_at m (TheLast last) = list_all (λ name. is_target (place_of m.blocks name)) (targets_of last) && are_distinct (targets_of last)
targets_kept_at m _ = true

abbrev pub targets_kept : Demand
targets_kept m s = targets_kept_at m s.here

-- the names of the blocks that jump to a block of a name
abbrev pub predecessors : List Block → ℕ → List ℕ
predecessors blocks name = block_names (filter (λ (p : Block). is_among (targets_of p.last) name) blocks)

-- one name for each predecessor, and no other name
abbrev pub names_each_once : List ℕ → List ℕ → Bool
names_each_once names of_predecessors =
    list_all (λ n. nat_eq (count_by (nat_eq n) names) 1) of_predecessors && list_all (is_among of_predecessors) names

abbrev pub entry_names : Phi → List ℕ
entry_names phi = map (λ (e : Operand × ℕ). e.1) phi.entries

abbrev pub phi_kept : Module → Spot → Item → Bool
phi_kept m s (ThePhi phi) = not (nat_eq s.block 0) && names_each_once (entry_names phi) (predecessors m.blocks s.of.name)
phi_kept m s _ = true

abbrev pub phis_kept : Demand
phis_kept m s = phi_kept m s s.here

-- ---- types and constants

-- an operand, and whether it is used as a truth value; else it is used as a word
abbrev pub arg_operands : Arg → List (Operand × Bool)
arg_operands (Number operand) = (operand, false) ∷ []
arg_operands (Truth operand) = (operand, true) ∷ []
arg_operands _ = []

abbrev pub instr_operands : Instr → List (Operand × Bool)
instr_operands (Op r op truth left right) = (left, truth) ∷ (right, truth) ∷ []
instr_operands (Zext r from) = (from, true) ∷ []
instr_operands (Trunc r from) = (from, false) ∷ []
instr_operands (Select r truth test chosen other) = (test, true) ∷ (chosen, truth) ∷ (other, truth) ∷ []
instr_operands (Call register function args) = flat_map arg_operands args

abbrev pub last_operands : Last → List (Operand × Bool)
last_operands (Branch test first second) = (test, true) ∷ []
last_operands _ = []

abbrev pub item_operands : Item → List (Operand × Bool)
item_operands (ThePhi phi) = map (λ (e : Operand × ℕ). (e.0, not phi.number)) phi.entries
item_operands (TheInstr instr) = instr_operands instr
item_operands (TheLast last) = last_operands last

abbrev pub compares : Opcode → Bool
compares Eq = true
compares Ne = true
compares Slt = true
compares Sle = true
compares Sgt = true
compares Sge = true
compares Ult = true
compares Ule = true
compares Ugt = true
compares Uge = true
compares _ = false

-- whether an instruction gives a truth value; else it gives a word
abbrev pub gives_truth : Instr → Bool
gives_truth (Op r op truth left right) = truth || compares op
gives_truth (Zext r from) = false
gives_truth (Trunc r from) = true
gives_truth (Select r truth test chosen other) = truth
gives_truth (Call register function args) = true

-- the registers that are assigned as truth values, or those that are assigned as words
abbrev pub assigned_with : Bool → Item → List ℕ
assigned_with truth (ThePhi phi) = if phi.number then (if truth then [] else phi.register ∷ []) else (if truth then phi.register ∷ [] else [])
assigned_with truth (TheInstr instr) = if gives_truth instr then (if truth then registers_of instr else []) else (if truth then [] else registers_of instr)
assigned_with truth (TheLast last) = []

abbrev pub assigned_as : Module → Bool → ℕ → Bool
assigned_as m truth r = is_among (flat_map (λ (b : Block). flat_map (assigned_with truth) (items_in b)) m.blocks) r

abbrev pub is_fixed_truth : ℤ → Bool
is_fixed_truth (pos n) = nat_lt n 2
is_fixed_truth (negsuc n) = false

-- a register that is used is assigned somewhere with the type of its use; a fixed truth value is 0 or 1
abbrev pub has_type : Module → Operand → Bool → Bool
has_type m (Register r) truth = assigned_as m truth r
has_type m (Fixed z) truth = if truth then is_fixed_truth z else true

abbrev pub operand_types_kept : Demand
operand_types_kept m s = list_all (λ (o : Operand × Bool). has_type m o.0 o.1) (item_operands s.here)

abbrev pub divides : Opcode → Bool
divides Sdiv = true
divides Srem = true
divides Udiv = true
divides Urem = true
divides _ = false

abbrev pub shifts : Opcode → Bool
shifts Shl = true
shifts Lshr = true
shifts Ashr = true
shifts _ = false

abbrev pub is_fixed_between : ℕ → ℕ → Operand → Bool
is_fixed_between least greatest (Register r) = false
is_fixed_between least greatest (Fixed (pos n)) = nat_le least n && nat_le n greatest
is_fixed_between least greatest (Fixed (negsuc n)) = false

-- a divisor is fixed from 1 to 2^63 - 1, and an amount of a shift from 0 to 63
abbrev pub constants_fit : Instr → Bool
constants_fit (Op r op truth left right) =
    (if divides op then is_fixed_between 1 0x7fff_ffff_ffff_ffff right else true) && (if shifts op then is_fixed_between 0 63 right else true)
constants_fit _ = true

abbrev pub item_constants_fit : Item → Bool
item_constants_fit (TheInstr instr) = constants_fit instr
item_constants_fit _ = true

abbrev pub constants_kept : Demand
constants_kept m s = item_constants_fit s.here

-- ---- what is carried

abbrev pub register_in : Operand → List Thing
register_in (Register r) = TheRegister r ∷ []
register_in (Fixed z) = []

-- the registers, or the results, that an item other than a phi reads
abbrev pub registers_read : Item → List Thing
registers_read (ThePhi phi) = []
registers_read item = flat_map (λ (o : Operand × Bool). register_in o.0) (item_operands item)

abbrev pub results_read : Item → List Thing
results_read (TheInstr instr) = map TheResult (read_in instr)
results_read _ = []

abbrev pub registers_named : Module → List Thing
registers_named m = map TheRegister (flat_map block_assigned m.blocks)

abbrev pub results_named : Module → List Thing
results_named m = map TheResult (flat_map (λ (b : Block). flat_map measured_in b.body) m.blocks)

-- what is read is carried into the block, or assigned in front in it
abbrev pub reads_carried : Module → Spot → List Thing → Bool
reads_carried m s things = list_all (λ t. are_assigning s.front t || is_carried m.blocks s.block t) things

-- it is there at the end of the block of a name
abbrev pub is_left_by : Module → ℕ → Thing → Bool
is_left_by m name t = left_at (place_of m.blocks name)
  where
    left_at : Option ℕ → Bool
    left_at None = false
    left_at (Some p) = is_left m.blocks p t

-- what a phi takes from a predecessor is carried into that or assigned in it
abbrev pub entries_carried : Module → Item → Bool
entries_carried m (ThePhi phi) = list_all (λ (e : Operand × ℕ). list_all (is_left_by m e.1) (register_in e.0)) phi.entries
entries_carried m _ = true

-- a jump back leaves what its target carries, of all things that are assigned somewhere
abbrev pub leaves_carried : Module → ℕ → List Thing → Option ℕ → Bool
leaves_carried m b things None = true
leaves_carried m b things (Some to) =
    if nat_lt b to then true else list_all (λ t. if is_carried m.blocks to t then is_left m.blocks b t else true) things

abbrev pub jumps_carry : Module → Spot → List Thing → Item → Bool
jumps_carry m s things (TheLast last) = list_all (λ name. leaves_carried m s.block things (place_of m.blocks name)) (targets_of last)
jumps_carry m s things _ = true

abbrev pub carried_registers_kept : Demand
carried_registers_kept m s = reads_carried m s (registers_read s.here) && entries_carried m s.here && jumps_carry m s (registers_named m) s.here

-- a result is read only after it was measured on every way
abbrev pub carried_results_kept : Demand
carried_results_kept m s = reads_carried m s (results_read s.here) && jumps_carry m s (results_named m) s.here

-- ---- qubits of a call, records, labels, earlier ways, limits

abbrev pub distinct_qubits_kept : Demand
distinct_qubits_kept m s = are_distinct (item_ids is_qubit s.here)

abbrev pub is_record_task : Option Task → Bool
is_record_task (Some ArrayRecord) = true
is_record_task (Some BoolRecord) = true
is_record_task (Some IntRecord) = true
is_record_task _ = false

abbrev pub is_record : Item → Bool
is_record item = list_any is_record_task (item_tasks item)

abbrev pub returns : Last → Bool
returns (Return code) = true
returns _ = false

abbrev pub some_returns : List Block → Bool
some_returns blocks = list_any (λ (b : Block). returns b.last) blocks

abbrev pub is_zero : ℤ → Bool
is_zero (pos n) = nat_eq n 0
is_zero (negsuc n) = false

-- a return is one of 0, and no block that stands earlier returns
abbrev pub return_kept : Module → ℕ → Last → Bool
return_kept m b (Return code) = is_zero code && not (some_returns (take b m.blocks))
return_kept m b _ = true

-- a record stands in a block that returns, and only records and the return stand behind one
abbrev pub item_records_kept : Module → Spot → Item → Bool
item_records_kept m s (ThePhi phi) = true
item_records_kept m s (TheInstr instr) = if is_record (TheInstr instr) then returns s.of.last else not (list_any is_record s.front)
item_records_kept m s (TheLast last) = return_kept m s.block last

-- exactly one block returns
abbrev pub records_kept : Demand
records_kept m s = at_first_item s (some_returns m.blocks) && item_records_kept m s s.here

abbrev pub label_in : Arg → List ℕ
label_in (Text k) = k ∷ []
label_in _ = []

abbrev pub instr_labels : Instr → List ℕ
instr_labels (Call register function args) = flat_map label_in args
instr_labels _ = []

abbrev pub item_labels : Item → List ℕ
item_labels (TheInstr instr) = instr_labels instr
item_labels _ = []

abbrev pub label_texts_kept : Demand
label_texts_kept m s = list_all (λ k. nat_lt k (length m.labels)) (item_labels s.here)

-- each block but the first has a predecessor that stands earlier
abbrev pub earlier_way_kept : Demand
earlier_way_kept m s = at_block_start s (nat_eq s.block 0 || not (is_empty (earlier m.blocks s.block)))

abbrev pub limits_kept : Demand
limits_kept m s =
    at_first_item s (nat_le (length m.blocks) 16_384 && nat_le (length m.labels) 16_384 && nat_le m.qubits 1_024 && nat_le m.results 1_048_576)
    && list_all (λ r. nat_lt r 8_388_608) (item_registers s.here)

-- ---- the rules

-- a demand is met at every item
abbrev pub IsKept : Module → Demand → Type 0
IsKept m demand = AllByRecursion (λ (s : Spot). demand m s ≡ true) (spots m)

pub record Passes (m : Module) : Type 0 where
  pub flags : IsKept m flags_kept
  pub entry : IsKept m entry_kept
  pub qubit_ids : IsKept m qubit_ids_kept
  pub result_ids : IsKept m result_ids_kept
  pub declarations : IsKept m declarations_kept
  pub calls : IsKept m calls_kept
  pub initialize : IsKept m initialize_kept
  pub labels : IsKept m labels_kept
  pub assigned_once : IsKept m assigned_once_kept
  pub targets : IsKept m targets_kept
  pub phis : IsKept m phis_kept
  pub operand_types : IsKept m operand_types_kept
  pub constants : IsKept m constants_kept
  pub carried_registers : IsKept m carried_registers_kept
  pub carried_results : IsKept m carried_results_kept
  pub distinct_qubits : IsKept m distinct_qubits_kept
  pub records : IsKept m records_kept
  pub label_texts : IsKept m label_texts_kept
  pub earlier_way : IsKept m earlier_way_kept
  pub limits : IsKept m limits_kept
