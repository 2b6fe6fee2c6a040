-- Operands keep their values while only further registers are assigned.
use Rattle.std.proofs.Common.{◌≡◌, ℕ, ◌<◌, Bool, true, false, not, List, length, ℤ, pos, Some, sym, ap, ◌∙◌, subst, ⊎_elim, refl}
use Rattle.std.proofs.lemmas.Bool.{cases_lt}
use Rattle.std.proofs.lemmas.List.{get_or_past}
use Rattle.std.proofs.lemmas.List.Elements.{All-get_or}
use Rattle.qir_module.specs.declared.instruction.Operand.{Operand}
use Rattle.qir_module.specs.declared.instruction.Operand.TheVariants.{Register, Fixed}
use Rattle.qir_module.specs.Machine.{State, word_of, truth_of, as_word, as_truth, value_in}
use Rattle.cell_operands.specs.Operands.{is_number, operand_of, IsBelow, CellsStay}

register_value : (old new : State) (truth : Bool) (r : ℕ) → new.registers r ≡ old.registers r → value_in new truth (Register r) ≡ value_in old truth (Register r)
register_value old new true r same = ap (λ v. as_truth (truth_of v)) same
register_value old new false r same = ap (λ v. as_word (word_of v)) same

fixed_value : (old new : State) (truth : Bool) (z : ℤ) → value_in new truth (Fixed z) ≡ value_in old truth (Fixed z)
fixed_value old new true z = refl
fixed_value old new false z = refl

same_value : (next : ℕ) (old new : State) (truth : Bool) (o : Operand) → ((r : ℕ) → r < next → new.registers r ≡ old.registers r) → IsBelow next o → value_in new truth o ≡ value_in old truth o
same_value next old new truth (Register r) same below = register_value old new truth r (same r below)
same_value next old new truth (Fixed z) same below = fixed_value old new truth z

pub cells_stay : CellsStay
cells_stay next old new kinds operands cells below same holds = record {
  each = λ c kind is. same_value next old new (not (is_number kind)) (operand_of operands c) same (cell_below c) ∙ holds.each c kind is;
}
  where
    cell_below : (c : ℕ) → IsBelow next (operand_of operands c)
    cell_below c = ⊎_elim (λ lt. All-get_or (IsBelow next) operands c (Fixed (pos 0)) lt below) (λ past. subst (IsBelow next) (sym (get_or_past operands c (Fixed (pos 0)) past)) tt) (cases_lt c (length operands))
