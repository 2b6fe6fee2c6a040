-- Registers that hold the cells, and what they hold behind a write.
use Rattle.std.proofs.Common.{◌≡◌, ◌≢◌, ℕ, zero, suc, nat_eq, if◌then◌else◌, Bool, true, false, not, List, [], ◌∷◌, length, map, ℤ, pos, Option, Some, None, refl, sym, ap, ◌∙◌, subst, arith, length-set, get_or-set_same, get_or-set_other, eq-eqb, eqb-true, ne_eqb}
use Rattle.std.specs.Prelude.{slice_get, slice_set, replicate}
use Rattle.std.specs.List.{AllByRecursion}
use Rattle.std.proofs.lemmas.Option.{slice_get_within}
use Rattle.std.proofs.lemmas.List.{length-replicate}
use Rattle.qir_module.specs.declared.instruction.Operand.{Operand}
use Rattle.qir_module.specs.declared.instruction.Operand.TheVariants.{Fixed, Register}
use Rattle.qir_module.specs.Machine.{Value, Word, Holds as HoldsTruth, State, with_register, with_result, word_of, truth_of, as_word, as_truth, value_in}
use Rattle.core_ir.specs.declared.expression.CellKind.{CellKind}
use Rattle.core_ir.specs.declared.expression.CellKind.TheVariants.{Truth as TruthKind, Number as NumberKind}
use Rattle.core_ir.specs.Core.{Core}
use Rattle.core_ir.specs.Run.{Cells, cell_value, value_at, word_in_value, truth_in_value, first_value, assigned_cells}
use Rattle.core_ir.specs.Size.{pair_exprs}
use Rattle.core_ir.specs.WellFormed.{PairFits}
use Rattle.cell_operands.specs.Operands.{is_number, operand_of, HoldsCells, IsBelow}
use Rattle.expr_lower.specs.Lowered.{HoldValues}
use Rattle.block_graph.specs.Lowering.{stored}
use Rattle.block_graph.specs.Stretch.{IsFresh}

-- ---- one operand

pub register_here : (s : State) (r : ℕ) (v : Value) → (with_register s r v).registers r ≡ Some v
register_here s r v = ap (λ b. if b then Some v else s.registers r) (eq-eqb r r refl)

register_other : (s : State) (r : ℕ) (v : Value) (x : ℕ) → x ≢ r → (with_register s r v).registers x ≡ s.registers x
register_other s r v x ne = ap (λ b. if b then Some v else s.registers x) (ne_eqb x r ne)

register_value : (old new : State) (truth : Bool) (r : ℕ) → new.registers r ≡ old.registers r → value_in new truth (Register r) ≡ value_in old truth (Register r)
register_value old new true r same = ap (λ v. as_truth (truth_of v)) same
register_value old new false r same = ap (λ v. as_word (word_of v)) same

fixed_value : (old new : State) (truth : Bool) (z : ℤ) → value_in new truth (Fixed z) ≡ value_in old truth (Fixed z)
fixed_value old new true z = refl
fixed_value old new false z = refl

pub other_value : (s : State) (r : ℕ) (v : Value) (truth : Bool) (o : Operand) → IsBelow r o → value_in (with_register s r v) truth o ≡ value_in s truth o
other_value s r v truth (Register x) below = register_value s (with_register s r v) truth x (register_other s r v x (λ e. absurd (omega (arith, below, e))))
other_value s r v truth (Fixed z) below = fixed_value s (with_register s r v) truth z

pub result_value : (s : State) (k : ℕ) (b : Bool) (truth : Bool) (o : Operand) → value_in (with_result s k b) truth o ≡ value_in s truth o
result_value s k b truth (Register x) = register_value s (with_result s k b) truth x refl
result_value s k b truth (Fixed z) = fixed_value s (with_result s k b) truth z

pub truth_here : (s : State) (r : ℕ) (b : Bool) → value_in (with_register s r (HoldsTruth b)) true (Register r) ≡ Some (HoldsTruth b)
truth_here s r b = ap (λ v. as_truth (truth_of v)) (register_here s r (HoldsTruth b))

-- what is read as a truth value is one, and so of words
pub truth_read_as : (x : Option Bool) (v : Value) → as_truth x ≡ Some v → x ≡ Some (truth_in_value v)
truth_read_as None v e = absurd (cc e)
truth_read_as (Some b) (HoldsTruth a) e = cc e
truth_read_as (Some b) (Word z) e = absurd (cc e)

pub word_read_as : (x : Option ℤ) (v : Value) → as_word x ≡ Some v → x ≡ Some (word_in_value v)
word_read_as None v e = absurd (cc e)
word_read_as (Some z) (Word y) e = cc e
word_read_as (Some z) (HoldsTruth b) e = absurd (cc e)

-- ---- the cells

-- each cell has an operand and a value, and the operand holds the value
pub record HoldsAll (kinds : List CellKind) (s : State) (values : List Operand) (cells : Cells) : Type 0 where
  pub each_operand : length values ≡ length kinds
  pub each_value : length cells ≡ length kinds
  pub holds : HoldsCells s kinds values cells

pub result_holds : (kinds : List CellKind) (s : State) (k : ℕ) (b : Bool) (values : List Operand) (cells : Cells) → HoldsCells s kinds values cells → HoldsCells (with_result s k b) kinds values cells
result_holds kinds s k b values cells h = record { each = λ c kind is. result_value s k b (not (is_number kind)) (operand_of values c) ∙ h.each c kind is }

get_below : (next : ℕ) (values : List Operand) (c : ℕ) → AllByRecursion (IsBelow next) values → IsBelow next (operand_of values c)
get_below next [] c all = tt
get_below next (o ∷ os) zero all = all.0
get_below next (o ∷ os) (suc c) all = get_below next os c all.1

pub fresh_below : (kinds : List CellKind) (values : List Operand) (r : ℕ) → AllByRecursion (IsBelow r) values → IsFresh kinds values r
fresh_below kinds values r all = record { by = λ s cells v h. record { each = λ c kind is. other_value s r v (not (is_number kind)) (operand_of values c) (get_below r values c all) ∙ h.each c kind is } }

-- ---- a cell is given a value

set_each : (kinds : List CellKind) (s : State) (values : List Operand) (cells : Cells) (c : ℕ) (o : Operand) (v : Value) (kind : CellKind) → HoldsAll kinds s values cells → slice_get kinds c ≡ Some kind → value_in s (not (is_number kind)) o ≡ Some v
    → (x : ℕ) (other : CellKind) → slice_get kinds x ≡ Some other → (here : Bool) → nat_eq x c ≡ here → value_in s (not (is_number other)) (operand_of (slice_set values c o) x) ≡ Some (cell_value (slice_set cells c v) x)
set_each kinds s values cells c o v kind h is holds x other is_x true e =
    let same : x ≡ c = eqb-true x c e in
    let within = slice_get_within kinds c kind is in
    let kinds_same : other ≡ kind = cc (sym is_x ∙ ap (slice_get kinds) same ∙ is) in
    let held : value_in s (not (is_number kind)) (operand_of (slice_set values c o) c) ≡ Some (cell_value (slice_set cells c v) c) =
    ap (value_in s (not (is_number kind))) (get_or-set_same values c o (Fixed (pos 0)) (omega (arith, within, h.each_operand))) ∙ holds ∙ ap Some (sym (get_or-set_same cells c v (Word (pos 0)) (omega (arith, within, h.each_value)))) in
    subst (λ k. value_in s (not (is_number k)) (operand_of (slice_set values c o) x) ≡ Some (cell_value (slice_set cells c v) x)) (sym kinds_same)
    (subst (λ y. value_in s (not (is_number kind)) (operand_of (slice_set values c o) y) ≡ Some (cell_value (slice_set cells c v) y)) (sym same) held)
set_each kinds s values cells c o v kind h is holds x other is_x false e =
    let apart : x ≢ c = λ eq. cc (e, eq-eqb x c eq) in
    ap (value_in s (not (is_number other))) (get_or-set_other values c x o (Fixed (pos 0)) apart) ∙ h.holds.each x other is_x ∙ ap Some (sym (get_or-set_other cells c x v (Word (pos 0)) apart))

pub set_holds : (kinds : List CellKind) (s : State) (values : List Operand) (cells : Cells) (c : ℕ) (o : Operand) (v : Value) (kind : CellKind) → HoldsAll kinds s values cells → slice_get kinds c ≡ Some kind → value_in s (not (is_number kind)) o ≡ Some v
    → HoldsAll kinds s (slice_set values c o) (slice_set cells c v)
set_holds kinds s values cells c o v kind h is holds = record {
  each_operand = length-set values c o ∙ h.each_operand;
  each_value = length-set cells c v ∙ h.each_value;
  holds = record { each = λ x other is_x. set_each kinds s values cells c o v kind h is holds x other is_x (nat_eq x c) refl };
}

-- the pairs of an assignment, one behind the other
pub store_holds : (core : Core) (pairs : List (ℕ × ℕ)) (operands values : List Operand) (before after : Cells) (s : State) → AllByRecursion (PairFits core) pairs → HoldValues s core before (pair_exprs pairs) operands → HoldsAll core.cells s values after
    → HoldsAll core.cells s (stored pairs operands values) (assigned_cells core.exprs pairs before after)
store_holds core [] [] values before after s fit held h = h
store_holds core [] (o ∷ os) values before after s fit held h = absurd held
store_holds core (p ∷ pairs) [] values before after s fit held h = absurd held
store_holds core (p ∷ pairs) (o ∷ os) values before after s fit held h =
    store_holds core pairs os (slice_set values p.0 o) before (slice_set after p.0 (value_at core.exprs p.1 before)) s fit.1 held.1
    (set_holds core.cells s values after p.0 o (value_at core.exprs p.1 before) fit.0.kind h fit.0.cell (held.0 fit.0.kind fit.0.value))

-- ---- the start

first_each : (kinds : List CellKind) (s : State) (c : ℕ) (kind : CellKind) → slice_get kinds c ≡ Some kind → value_in s (not (is_number kind)) (operand_of (replicate (length kinds) (Fixed (pos 0))) c) ≡ Some (cell_value (map first_value kinds) c)
first_each [] s c kind is = absurd (cc is)
first_each (k ∷ kinds) s zero TruthKind is = let same : k ≡ TruthKind = cc is in ap (λ (q : CellKind). Some (first_value q)) (sym same)
first_each (k ∷ kinds) s zero NumberKind is = let same : k ≡ NumberKind = cc is in ap (λ (q : CellKind). Some (first_value q)) (sym same)
first_each (k ∷ kinds) s (suc c) kind is = first_each kinds s c kind is

pub first_holds : (kinds : List CellKind) (s : State) → HoldsAll kinds s (replicate (length kinds) (Fixed (pos 0))) (map first_value kinds)
first_holds kinds s = record { each_operand = length-replicate (length kinds) (Fixed (pos 0)); each_value = map_long kinds; holds = record { each = first_each kinds s } }
  where
    map_long : (kinds : List CellKind) → length (map first_value kinds) ≡ length kinds
    map_long [] = refl
    map_long (k ∷ kinds) = ap suc (map_long kinds)
