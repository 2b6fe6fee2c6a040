-- The rules of the profile at modules that are written out by hand: the rule and the place at which each is
-- refused, or that it passes.
use Rattle.std.specs.Prelude.{◌≡◌, refl, ℕ, true, false, List, [], ◌∷◌, ◌++◌, pos, Option, Some, None, codes, map}
use Rattle.qir_module.specs.declared.instruction.Operand.{Operand}
use Rattle.qir_module.specs.declared.instruction.Operand.TheVariants.{Register, Fixed}
use Rattle.qir_module.specs.declared.instruction.Opcode.TheVariants.{Add, Sdiv, Shl}
use Rattle.qir_module.specs.declared.instruction.Arg.TheVariants.{Number, Truth, Id, Text}
use Rattle.qir_module.specs.declared.instruction.Instr.{Instr}
use Rattle.qir_module.specs.declared.instruction.Instr.TheVariants.{Op, Zext}
use Rattle.qir_module.specs.declared.instruction.Last.{Last}
use Rattle.qir_module.specs.declared.instruction.Last.TheVariants.{Jump, Branch, Return}
use Rattle.qir_module.specs.declared.block.Phi.{Phi}
use Rattle.qir_module.specs.declared.block.Block.{Block}
use Rattle.qir_module.specs.declared.profile.Profile.TheVariants.{Adaptive, Base}
use Rattle.qir_module.specs.Module.{Module}
use Rattle.qir_module.specs.Broken.{Breach, broken}
use Rattle.qir_module.proofs.Worked.{call, read}

abbrev block : ℕ → List Phi → List Instr → Last → Block
block name phis body last = record { name = name; phis = phis; body = body; last = last }

-- one label, one qubit and one result
abbrev of_blocks : List ℕ → List Block → Module
of_blocks declared blocks = record {
  labels = (codes "c" ++ 0 ∷ []) ∷ [];
  blocks = blocks;
  declarations = map (λ (n : ℕ). record { 0 = n }) declared;
  profile = Adaptive;
  qubits = 1;
  results = 1;
  major = 2;
  minor = 0;
  dynamic_qubits = false;
  dynamic_results = false;
}

abbrev at : ℕ → ℕ → ℕ → Option Breach
at rule b i = Some (record { rule = rule; at = record { block = b; item = i } })

abbrev start : Instr
start = call 0 (Id 0 ∷ [])

abbrev measure : Instr
measure = call 6 (Id 0 ∷ Id 0 ∷ [])

-- a Hadamard gate and a measurement
abbrev coin : Module
coin = of_blocks (0 ∷ 1 ∷ 3 ∷ 6 ∷ 10 ∷ [])
    (block 0 [] (start ∷ call 10 (Id 0 ∷ []) ∷ measure ∷ read 0 0 ∷ call 3 (Truth (Register 0) ∷ Text 0 ∷ []) ∷ []) (Return (pos 0)) ∷ [])

pub coin_passes : broken coin ≡ None
coin_passes = refl

abbrev nothing : Module
nothing = record (of_blocks (0 ∷ []) (block 0 [] (start ∷ []) (Return (pos 0)) ∷ [])) { labels = []; qubits = 0; results = 0 }

pub nothing_passes : broken nothing ≡ None
nothing_passes = refl

-- ---- a register that is not assigned on one way, and a loop of two phis

-- a record of a word
abbrev recorder : ℕ
recorder = 2

abbrev shown : Operand → Instr
shown operand = call recorder (Number operand ∷ Text 0 ∷ [])

abbrev with_blocks : List Block → Module
with_blocks blocks = of_blocks (0 ∷ 1 ∷ recorder ∷ 6 ∷ []) blocks

abbrev first_block : Block
first_block = block 0 [] (start ∷ measure ∷ read 0 0 ∷ []) (Branch (Register 0) 1 2)

abbrev sum_block : Block
sum_block = block 1 [] (Op 1 Add false (Fixed (pos 1)) (Fixed (pos 2)) ∷ []) (Jump 2)

abbrev one_way : Module
one_way = with_blocks (first_block ∷ sum_block ∷ block 2 [] (shown (Register 1) ∷ []) (Return (pos 0)) ∷ [])

pub one_way_refused : broken one_way ≡ at 14 2 0
one_way_refused = refl

-- a phi for one of the two ways
abbrev one_entry : Module
one_entry = with_blocks (first_block ∷ sum_block
    ∷ block 2 (record { register = 2; number = true; entries = (Register 1, 1) ∷ [] } ∷ []) (shown (Register 2) ∷ []) (Return (pos 0)) ∷ [])

pub one_entry_refused : broken one_entry ≡ at 11 2 0
one_entry_refused = refl

-- two phis that take each other's values, in a loop that goes back by a jump to the block of a name
abbrev turning : ℕ → Operand → Module
turning back result = with_blocks (
    block 0 [] (start ∷ []) (Jump 1)
    ∷ block 1 (record { register = 0; number = true; entries = (Fixed (pos 1), 0) ∷ (Register 1, 2) ∷ [] }
    ∷ record { register = 1; number = true; entries = (Fixed (pos 2), 0) ∷ (Register 0, 2) ∷ [] } ∷ [])
    (measure ∷ read 2 0 ∷ []) (Branch (Register 2) 2 3)
    ∷ block 2 [] [] (Jump back)
    ∷ block 3 [] (shown result ∷ []) (Return (pos 0))
    ∷ [])

pub turning_passes : broken (turning 1 (Register 0)) ≡ None
turning_passes = refl

pub back_to_first_refused : broken (turning 0 (Register 0)) ≡ at 10 2 0
back_to_first_refused = refl

-- ---- one small module for each rule

abbrev one_block : List Instr → Last → Module
one_block body last = with_blocks (block 0 [] (start ∷ body) last ∷ [])

abbrev ended : List Instr → Module
ended body = one_block body (Return (pos 0))

abbrev sum_into : ℕ → Instr
sum_into r = Op r Add false (Fixed (pos 1)) (Fixed (pos 2))

pub flags_refused : broken (record nothing { minor = 1 }) ≡ at 1 0 0
flags_refused = refl

pub entry_refused : broken (record nothing { profile = Base }) ≡ at 2 0 0
entry_refused = refl

pub qubit_id_refused : broken (ended (call 6 (Id 1 ∷ Id 0 ∷ []) ∷ [])) ≡ at 3 0 1
qubit_id_refused = refl

-- the rest of the call may be wrong
pub result_id_refused : broken (ended (measure ∷ call 1 (Id 1 ∷ Id 0 ∷ []) ∷ [])) ≡ at 4 0 2
result_id_refused = refl

pub declaration_refused : broken (ended (call 10 (Id 0 ∷ []) ∷ [])) ≡ at 5 0 1
declaration_refused = refl

pub declared_twice_refused : broken (of_blocks (0 ∷ 0 ∷ []) (nothing.blocks)) ≡ at 5 0 0
declared_twice_refused = refl

-- a value that the call gives is not taken
pub call_refused : broken (ended (measure ∷ call 1 (Id 0 ∷ []) ∷ [])) ≡ at 6 0 2
call_refused = refl

pub second_initialize_refused : broken (ended (measure ∷ start ∷ [])) ≡ at 7 0 2
second_initialize_refused = refl

pub no_initialize_refused : broken (with_blocks (block 0 [] [] (Return (pos 0)) ∷ [])) ≡ at 7 0 0
no_initialize_refused = refl

pub label_refused : broken (with_blocks (block 0 [] (start ∷ []) (Jump 1) ∷ block 1 [] [] (Jump 2) ∷ block 1 [] [] (Return (pos 0)) ∷ [])) ≡ at 8 2 0
label_refused = refl

pub assigned_twice_refused : broken (ended (sum_into 5 ∷ sum_into 6 ∷ sum_into 5 ∷ [])) ≡ at 9 0 3
assigned_twice_refused = refl

pub same_targets_refused : broken (with_blocks (block 0 [] (start ∷ []) (Branch (Fixed (pos 1)) 1 1) ∷ block 1 [] [] (Return (pos 0)) ∷ [])) ≡ at 10 0 1
same_targets_refused = refl

pub first_phi_refused : broken (with_blocks (block 0 [] (start ∷ []) (Jump 1)
    ∷ block 1 (record { register = 0; number = false; entries = (Fixed (pos 1), 0) ∷ (Fixed (pos 1), 2) ∷ [] } ∷ []) [] (Return (pos 0))
    ∷ block 2 [] [] (Return (pos 0)) ∷ [])) ≡ at 11 1 0
first_phi_refused = refl

-- a word where a truth value is wanted
pub operand_type_refused : broken (ended (sum_into 0 ∷ Zext 1 (Register 0) ∷ [])) ≡ at 12 0 2
operand_type_refused = refl

pub divisor_refused : broken (ended (Op 0 Sdiv false (Fixed (pos 1)) (Fixed (pos 0)) ∷ [])) ≡ at 13 0 1
divisor_refused = refl

pub amount_refused : broken (ended (Op 0 Shl false (Fixed (pos 1)) (Fixed (pos 64)) ∷ [])) ≡ at 13 0 1
amount_refused = refl

-- what is assigned behind it in its block is not carried
pub read_before_refused : broken (ended (Op 0 Add false (Register 1) (Fixed (pos 2)) ∷ sum_into 1 ∷ [])) ≡ at 14 0 1
read_before_refused = refl

-- A jump back to a block that nothing is wrong with, from a block that has an own way around it: register 1 is
-- carried into block 2, and not into block 3.
abbrev around : Module
around = with_blocks (block 0 [] (start ∷ measure ∷ read 0 0 ∷ []) (Branch (Register 0) 1 3)
    ∷ block 1 [] (sum_into 1 ∷ []) (Jump 2)
    ∷ block 2 [] [] (Branch (Register 0) 3 4)
    ∷ block 3 [] [] (Jump 2)
    ∷ block 4 [] (shown (Fixed (pos 3)) ∷ []) (Return (pos 0)) ∷ [])

pub jump_back_refused : broken around ≡ at 14 3 0
jump_back_refused = refl

-- a result that one way does not measure
pub result_refused : broken (with_blocks (block 0 [] (start ∷ []) (Branch (Fixed (pos 1)) 1 2)
    ∷ block 1 [] (measure ∷ []) (Jump 2)
    ∷ block 2 [] (read 0 0 ∷ []) (Return (pos 0)) ∷ [])) ≡ at 15 2 0
result_refused = refl

pub same_qubit_refused : broken (of_blocks (0 ∷ 22 ∷ []) (block 0 [] (start ∷ call 22 (Id 0 ∷ Id 0 ∷ []) ∷ []) (Return (pos 0)) ∷ [])) ≡ at 16 0 1
same_qubit_refused = refl

pub behind_record_refused : broken (ended (shown (Fixed (pos 1)) ∷ sum_into 0 ∷ [])) ≡ at 17 0 2
behind_record_refused = refl

pub return_refused : broken (one_block [] (Return (pos 1))) ≡ at 17 0 1
return_refused = refl

pub second_return_refused : broken (with_blocks (block 0 [] (start ∷ []) (Branch (Fixed (pos 1)) 1 2)
    ∷ block 1 [] [] (Return (pos 0)) ∷ block 2 [] [] (Return (pos 0)) ∷ [])) ≡ at 17 2 0
second_return_refused = refl

pub no_return_refused : broken (with_blocks (block 0 [] (start ∷ []) (Jump 1) ∷ block 1 [] [] (Jump 1) ∷ [])) ≡ at 17 0 0
no_return_refused = refl

pub label_text_refused : broken (ended (call recorder (Number (Fixed (pos 1)) ∷ Text 1 ∷ []) ∷ [])) ≡ at 18 0 1
label_text_refused = refl

pub earlier_way_refused : broken (with_blocks (block 0 [] (start ∷ []) (Return (pos 0))
    ∷ block 1 [] [] (Jump 2) ∷ block 2 [] [] (Jump 1) ∷ [])) ≡ at 19 1 0
earlier_way_refused = refl

pub limits_refused : broken (record nothing { qubits = 1_025 }) ≡ at 20 0 0
limits_refused = refl

pub register_limit_refused : broken (ended (measure ∷ sum_into 8_388_608 ∷ [])) ≡ at 20 0 2
register_limit_refused = refl
