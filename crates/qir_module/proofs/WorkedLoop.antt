-- The definitions of this crate at a module with a loop that is written out by hand: two phis that take each
-- other's values, a measurement in each turn, and a record of the second behind it. And single instructions,
-- as texts and on words at the ends of their range.
use Rattle.std.specs.Prelude.{◌≡◌, refl, ℕ, ◌-◌, ◌^◌, Bool, true, false, List, [], ◌∷◌, ◌++◌, ℤ, pos, negsuc, Option, Some, None, codes}
use Rattle.std.specs.Fmt.{digits}
use Rattle.qq_base.specs.declared.run.QubitId.{QubitId}
use Rattle.qq_base.specs.declared.run.Event.{Event}
use Rattle.qq_base.specs.declared.run.Event.TheVariants.{Measure}
use Rattle.qq_base.specs.declared.run.Record.TheVariants.{Bool as BoolRecord}
use Rattle.qq_base.specs.Seen.{Ended, Asked, Turning, Stuck}
use Rattle.qir_module.specs.declared.instruction.Operand.TheVariants.{Register, Fixed}
use Rattle.qir_module.specs.declared.instruction.Opcode.TheVariants.{Add, Sdiv, Srem, Lshr, Ashr, Shl, Slt, Ult}
use Rattle.qir_module.specs.declared.instruction.Arg.TheVariants.{Truth, Id, Text}
use Rattle.qir_module.specs.declared.instruction.Instr.{Instr}
use Rattle.qir_module.specs.declared.instruction.Instr.TheVariants.{Op, Zext, Trunc, Select, Call}
use Rattle.qir_module.specs.declared.instruction.Last.{Last}
use Rattle.qir_module.specs.declared.instruction.Last.TheVariants.{Jump, Branch, Return}
use Rattle.qir_module.specs.declared.block.Phi.{Phi}
use Rattle.qir_module.specs.declared.block.Block.{Block}
use Rattle.qir_module.specs.declared.profile.Profile.TheVariants.{Adaptive}
use Rattle.qir_module.specs.Module.{Module}
use Rattle.qir_module.specs.Text.{line}
use Rattle.qir_module.specs.Written.{block_text, instr_text}
use Rattle.qir_module.specs.Machine.{Word, Holds, on_words, machine_run}
use Rattle.qir_module.specs.Items.{items_of}
use Rattle.qir_module.proofs.Worked.{text_of, call, read}

-- ---- the module

abbrev pub block : ℕ → List Phi → List Instr → Last → Block
block name phis body last = record { name = name; phis = phis; body = body; last = last }

abbrev first_phi : Phi
first_phi = record { register = 0; number = false; entries = (Fixed (pos 1), 0) ∷ (Register 1, 2) ∷ [] }

abbrev second_phi : Phi
second_phi = record { register = 1; number = false; entries = (Fixed (pos 0), 0) ∷ (Register 0, 2) ∷ [] }

abbrev head : Block
head = block 1 (first_phi ∷ second_phi ∷ []) (call 6 (Id 0 ∷ Id 0 ∷ []) ∷ read 2 0 ∷ []) (Branch (Register 2) 2 3)

abbrev exchange : Module
exchange = record {
  labels = (codes "x" ++ 0 ∷ []) ∷ [];
  blocks =
      block 0 [] (call 0 (Id 0 ∷ []) ∷ []) (Jump 1)
      ∷ head
      ∷ block 2 [] [] (Jump 1)
      ∷ block 3 [] (call 3 (Truth (Register 1) ∷ Text 0 ∷ []) ∷ []) (Return (pos 0))
      ∷ [];
  declarations = record { 0 = 0 } ∷ record { 0 = 1 } ∷ record { 0 = 3 } ∷ record { 0 = 6 } ∷ [];
  profile = Adaptive;
  qubits = 1;
  results = 1;
  major = 2;
  minor = 0;
  dynamic_qubits = false;
  dynamic_results = false;
}

pub head_text : block_text head ≡ text_of (
    "b1:"
    ∷ "  %r0 = phi i1 [ true, %b0 ], [ %r1, %b2 ]"
    ∷ "  %r1 = phi i1 [ false, %b0 ], [ %r0, %b2 ]"
    ∷ "  call void @__quantum__qis__mz__body(ptr null, ptr null)"
    ∷ "  %r2 = call i1 @__quantum__rt__read_result(ptr null)"
    ∷ "  br i1 %r2, label %b2, label %b3"
    ∷ []
    )
unfolding digits
head_text = refl

-- blocks, phi entries, instructions and last instructions
pub exchange_items : items_of (exchange.blocks) ≡ 16
exchange_items = refl

-- ---- its runs

abbrev measured : Bool → Event
measured outcome = Measure (record { 0 = 0 }) outcome

-- no turn: the second phi has its first value
pub no_turn : machine_run exchange (false ∷ []) 0 ≡ record { fate = Ended; events = measured false ∷ []; records = BoolRecord 0 false ∷ [] }
no_turn = refl

-- one turn: the two have taken each other's values at once
pub one_turn : machine_run exchange (true ∷ false ∷ []) 1 ≡ record { fate = Ended; events = measured true ∷ measured false ∷ []; records = BoolRecord 0 true ∷ [] }
one_turn = refl

-- two turns: and back
pub two_turns : machine_run exchange (true ∷ true ∷ false ∷ []) 2 ≡ record { fate = Ended; events = measured true ∷ measured true ∷ measured false ∷ []; records = BoolRecord 0 false ∷ [] }
two_turns = refl

-- a turn is wanted and none is left
pub turning : machine_run exchange (true ∷ true ∷ false ∷ []) 1 ≡ record { fate = Turning; events = measured true ∷ measured true ∷ []; records = [] }
turning = refl

-- an outcome is wanted and none is left
pub asked : machine_run exchange (true ∷ []) 5 ≡ record { fate = Asked; events = measured true ∷ []; records = [] }
asked = refl

-- ---- single instructions

pub add_text : instr_text (Op 4 Add false (Fixed (pos 1)) (Register 3)) ≡ codes "%r4 = add i64 1, %r3"
unfolding digits
add_text = refl

pub compare_text : instr_text (Op 5 Slt false (Register 4) (Fixed (negsuc 1))) ≡ codes "%r5 = icmp slt i64 %r4, -2"
unfolding digits
compare_text = refl

pub zext_text : instr_text (Zext 6 (Register 5)) ≡ codes "%r6 = zext i1 %r5 to i64"
unfolding digits
zext_text = refl

pub trunc_text : instr_text (Trunc 7 (Register 6)) ≡ codes "%r7 = trunc i64 %r6 to i1"
unfolding digits
trunc_text = refl

pub select_text : instr_text (Select 8 false (Register 7) (Register 4) (Fixed (pos 0))) ≡ codes "%r8 = select i1 %r7, i64 %r4, i64 0"
unfolding digits
select_text = refl

pub add_wraps : on_words Add (pos (2 ^ 63 - 1)) (pos 1) ≡ Some (Word (negsuc (2 ^ 63 - 1)))
add_wraps = refl

pub division_truncates : on_words Sdiv (negsuc 6) (pos 2) ≡ Some (Word (negsuc 2))
division_truncates = refl

pub remainder_has_dividend_sign : on_words Srem (negsuc 6) (pos 2) ≡ Some (Word (negsuc 0))
remainder_has_dividend_sign = refl

pub no_division_by_zero : on_words Sdiv (pos 7) (pos 0) ≡ None
no_division_by_zero = refl

pub logical_shift : on_words Lshr (negsuc 0) (pos 63) ≡ Some (Word (pos 1))
logical_shift = refl

pub arithmetic_shift : on_words Ashr (negsuc 7) (pos 1) ≡ Some (Word (negsuc 3))
arithmetic_shift = refl

pub no_shift_by_64 : on_words Shl (pos 1) (pos 64) ≡ None
no_shift_by_64 = refl

pub signed_and_unsigned : (on_words Slt (negsuc 0) (pos 0) ≡ Some (Holds true)) × (on_words Ult (negsuc 0) (pos 0) ≡ Some (Holds false))
signed_and_unsigned = (refl, refl)
