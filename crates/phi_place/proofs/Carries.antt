-- What phis carry.
use Rattle.std.proofs.Common.{◌≡◌, ◌≢◌, ℕ, zero, suc, ◌+◌, ◌<◌, ◌≤◌, ◌⊎◌, inl, inr, nat_eq, if◌then◌else◌, Bool, true, false, not, ◌&&◌, List, [], ◌∷◌, length, ℤ, pos, negsuc, Option, Some, None, refl, sym, ap, ◌∙◌, subst, ⊎_elim, arith}
use Rattle.std.specs.Prelude.{slice_get}
use Rattle.std.specs.List.{AllByRecursion}
use Rattle.std.proofs.lemmas.Bool.{eq-eqb, eqb-true, ne_eqb}
use Rattle.std.proofs.lemmas.List.Elements.{recursion_from_All}
use Rattle.qir_module.specs.declared.instruction.Operand.{Operand}
use Rattle.qir_module.specs.declared.instruction.Operand.TheVariants.{Register, Fixed}
use Rattle.qir_module.specs.declared.block.Phi.{Phi}
use Rattle.qir_module.specs.Machine.{Value, Word, Holds as HoldsTruth, State, with_register, word_of, truth_of, word_in, truth_in, as_word, as_truth, value_in, entry_from, phi_value, with_phi, take_phis}
use Rattle.core_ir.specs.declared.expression.CellKind.{CellKind}
use Rattle.cell_operands.specs.Operands.{is_number, operand_of, HoldsCells, IsBelow}
use Rattle.core_ir.specs.Run.{Cells, cell_value}
use Rattle.phi_place.specs.State.{CellState}
use Rattle.phi_place.specs.Phis.{operand_at, same_number, same_operand, all_same, entries_of, phis_for, values_for, IsAmong, HaveOwnBlocks, WaysCarry, SameWhereNotDiffer}

-- ---- registers

abbrev pub SameBelow : ℕ → State → State → Type 0
SameBelow next old new = (r : ℕ) → r < next → new.registers r ≡ old.registers r

pub register_here : (s : State) (r : ℕ) (v : Value) → (with_register s r v).registers r ≡ Some v
register_here s r v = ap (λ b. if b then Some v else s.registers r) (eq-eqb r r refl)

pub register_other : (s : State) (r : ℕ) (v : Value) (x : ℕ) → x ≢ r → (with_register s r v).registers x ≡ s.registers x
register_other s r v x ne = ap (λ b. if b then Some v else s.registers x) (ne_eqb x r ne)

pub register_value : (old new : State) (truth : Bool) (r : ℕ) → new.registers r ≡ old.registers r → value_in new truth (Register r) ≡ value_in old truth (Register r)
register_value old new true r same = ap (λ v. as_truth (truth_of v)) same
register_value old new false r same = ap (λ v. as_word (word_of v)) same

fixed_value : (old new : State) (truth : Bool) (z : ℤ) → value_in new truth (Fixed z) ≡ value_in old truth (Fixed z)
fixed_value old new true z = refl
fixed_value old new false z = refl

pub same_value : (next : ℕ) (old new : State) (truth : Bool) (o : Operand) → SameBelow next old new → IsBelow next o → value_in new truth o ≡ value_in old truth o
same_value next old new truth (Register r) same below = register_value old new truth r (same r below)
same_value next old new truth (Fixed z) same below = fixed_value old new truth z

pub other_value : (s : State) (r : ℕ) (v : Value) (truth : Bool) (o : Operand) → o ≢ Register r → value_in (with_register s r v) truth o ≡ value_in s truth o
other_value s r v truth (Register x) ne = register_value s (with_register s r v) truth x (register_other s r v x (λ e. ne (ap Register e)))
other_value s r v truth (Fixed z) ne = fixed_value s (with_register s r v) truth z

-- a value that was read as one of a type is one of that type
truth_back : (x : Option Bool) (v : Value) → as_truth x ≡ Some v → as_truth (truth_of (Some v)) ≡ Some v
truth_back None v e = cc
truth_back (Some b) (HoldsTruth a) e = refl
truth_back (Some b) (Word z) e = cc

word_back : (x : Option ℤ) (v : Value) → as_word x ≡ Some v → as_word (word_of (Some v)) ≡ Some v
word_back None v e = cc
word_back (Some z) (Word y) e = refl
word_back (Some z) (HoldsTruth b) e = cc

pub value_here : (s old : State) (r : ℕ) (v : Value) (truth : Bool) (o : Operand) → value_in old truth o ≡ Some v → value_in (with_register s r v) truth (Register r) ≡ Some v
value_here s old r v true o e = ap (λ x. as_truth (truth_of x)) (register_here s r v) ∙ truth_back (truth_in old o) v e
value_here s old r v false o e = ap (λ x. as_word (word_of x)) (register_here s r v) ∙ word_back (word_in old o) v e

-- ---- the ways

apart : (block : ℕ) (ways : List CellState) (way : CellState) → AllByRecursion (λ (w : CellState). block ≢ w.block) ways → IsAmong way ways → block ≢ way.block
apart block [] way all among = absurd among
apart block (w ∷ ways) way all among =
    ⊎_elim (λ is. subst (λ (v : CellState). block ≢ v.block) (sym is) all.0) (λ behind. apart block ways way all.1 behind) among

-- from a way's block its operand is taken
pub entry_found : (ways : List CellState) (way : CellState) (c : ℕ) → HaveOwnBlocks ways → IsAmong way ways → entry_from (entries_of ways c) (Some way.block) ≡ Some (operand_at way c)
entry_found [] way c own among = absurd among
entry_found (w ∷ ways) way c own among =
    ⊎_elim (λ is. ap (λ (v : CellState). if nat_eq w.block v.block then Some (operand_at w c) else entry_from (entries_of ways c) (Some v.block)) is
    ∙ ap (λ b. if b then Some (operand_at w c) else entry_from (entries_of ways c) (Some w.block)) (eq-eqb w.block w.block refl)
    ∙ ap (λ (v : CellState). Some (operand_at v c)) (sym is))
    (λ behind. ap (λ b. if b then Some (operand_at w c) else entry_from (entries_of ways c) (Some way.block)) (ne_eqb w.block way.block (apart w.block ways way own.0 behind)) ∙ entry_found ways way c own.1 behind)
    among

-- ---- the cells from c on

-- the register is none of those that the phis from `next` on are given
abbrev Avoids : ℕ → ℕ → Operand → Type 0
Avoids low next (Register r) = (r < low) ⊎ (next ≤ r)
Avoids low next (Fixed z) = Unit {0}

avoids_less : (low next : ℕ) (o : Operand) → Avoids low (suc next) o → Avoids low next o
avoids_less low next (Register r) a = ⊎_elim (λ h. inl h) (λ h. inr (omega (arith, h))) a
avoids_less low next (Fixed z) a = tt

avoids_below : (low next : ℕ) (o : Operand) → IsBelow low o → Avoids low next o
avoids_below low next (Register r) b = inl b
avoids_below low next (Fixed z) b = tt

avoids_not : (low next : ℕ) (o : Operand) → low ≤ next → Avoids low (suc next) o → o ≢ Register next
avoids_not low next (Register r) le a = λ e. let same : r ≡ next = cc in ⊎_elim (λ h. absurd (omega (arith, h, same, le))) (λ h. absurd (omega (arith, h, same))) a
avoids_not low next (Fixed z) le a = λ e. cc

below_more : (low next : ℕ) (o : Operand) → low ≤ next → IsBelow low o → IsBelow next o
below_more low next (Register r) le b = omega (arith, le, b)
below_more low next (Fixed z) le b = tt

values_avoid : (needs : ℕ → Bool) (first : List Operand) (c next low : ℕ) → AllByRecursion (IsBelow low) first → (i : ℕ) → Avoids low next (operand_of (values_for needs first c next) i)
values_avoid needs [] c next low b i = tt
values_avoid needs (o ∷ os) c next low b i = at (needs c) i (values_avoid needs os (suc c) next low b.1) (values_avoid needs os (suc c) (suc next) low b.1)
  where
    at : (need : Bool) (i : ℕ) → ((j : ℕ) → Avoids low next (operand_of (values_for needs os (suc c) next) j)) → ((j : ℕ) → Avoids low (suc next) (operand_of (values_for needs os (suc c) (suc next)) j))
        → Avoids low next (operand_of (if need then Register next ∷ values_for needs os (suc c) (suc next) else o ∷ values_for needs os (suc c) next) i)
    at true zero same more = inr (omega arith)
    at true (suc i) same more = avoids_less low next (operand_of (values_for needs os (suc c) (suc next)) i) (more i)
    at false zero same more = avoids_below low next o b.0
    at false (suc i) same more = same i

-- the cells from c on hold their values
abbrev HoldFrom : State → List CellKind → (ℕ → Operand) → Cells → ℕ → Type 0
HoldFrom s kinds operand cells c = (i : ℕ) (kind : CellKind) → slice_get kinds i ≡ Some kind → value_in s (not (is_number kind)) (operand i) ≡ Some (cell_value cells (c + i))

record Carried (needs : ℕ → Bool) (ways : List CellState) (kinds : List CellKind) (from : ℕ) (first : List Operand) (c next : ℕ) (s : State) (cells : Cells) : Type 0 where
  s' : State
  taken : take_phis (phis_for needs ways kinds c next) (Some from) s ≡ Some s'
  same : SameBelow next s s'
  values : HoldFrom s' kinds (operand_of (values_for needs first c next)) cells c

shifted : (s : State) (kind : CellKind) (kinds : List CellKind) (way : CellState) (cells : Cells) (c : ℕ) → HoldFrom s (kind ∷ kinds) (λ i. operand_at way (c + i)) cells c → HoldFrom s kinds (λ i. operand_at way (suc c + i)) cells (suc c)
shifted s kind kinds way cells c hold i k found =
    let n : c + suc i ≡ suc c + i = omega arith in
    subst (λ (m : ℕ). value_in s (not (is_number k)) (operand_at way m) ≡ Some (cell_value cells m)) n (hold (suc i) k found)

carried : (needs : ℕ → Bool) (ways : List CellState) (way : CellState) (kinds : List CellKind) (first : List Operand) (c next low : ℕ) (s : State) (cells : Cells) → low ≤ next → length first ≡ length kinds
    → AllByRecursion (IsBelow low) first → HaveOwnBlocks ways → IsAmong way ways
    → ((i : ℕ) → i < length kinds → needs (c + i) ≡ false → operand_of first i ≡ operand_at way (c + i)) → HoldFrom s kinds (λ i. operand_at way (c + i)) cells c
    → Carried needs ways kinds way.block first c next s cells
carried needs ways way [] [] c next low s cells le long b own among rest hold = record { s' = s; taken = refl; same = λ r lt. refl; values = λ i kind found. cc }
carried needs ways way [] (o ∷ os) c next low s cells le long b own among rest hold = absurd (omega (arith, long))
carried needs ways way (kind ∷ kinds) [] c next low s cells le long b own among rest hold = absurd (omega (arith, long))
carried needs ways way (kind ∷ kinds) (o ∷ os) c next low s cells le long b own among rest hold =
    one (needs c) refl
    (carried needs ways way kinds os (suc c) next low s cells le (omega (arith, long)) b.1 own among rest' (shifted s kind kinds way cells c hold))
    (carried needs ways way kinds os (suc c) (suc next) low s cells (omega (arith, le)) (omega (arith, long)) b.1 own among rest' (shifted s kind kinds way cells c hold))
  where
    rest' : (i : ℕ) → i < length kinds → needs (suc c + i) ≡ false → operand_of os i ≡ operand_at way (suc c + i)
    rest' i lt e =
        let n : c + suc i ≡ suc c + i = omega arith in
        rest (suc i) (omega (arith, lt)) (ap needs n ∙ e) ∙ ap (operand_at way) n

    zero_at : c + 0 ≡ c
    zero_at = omega arith

    more_at : (i : ℕ) → suc c + i ≡ c + suc i
    more_at i = omega arith

    v : Value
    v = cell_value cells c

    read : value_in s (not (is_number kind)) (operand_at way c) ≡ Some v
    read = subst (λ (m : ℕ). value_in s (not (is_number kind)) (operand_at way m) ≡ Some (cell_value cells m)) zero_at (hold 0 kind refl)

    phi : Phi
    phi = record { register = next; number = is_number kind; entries = entries_of ways c }

    with_one : (k : Carried needs ways kinds way.block os (suc c) (suc next) s cells) → HoldFrom (with_register k.s' next v) (kind ∷ kinds) (operand_of (Register next ∷ values_for needs os (suc c) (suc next))) cells c
    with_one k zero t found =
        let same : kind ≡ t = cc in
        subst (λ (j : CellKind). value_in (with_register k.s' next v) (not (is_number j)) (Register next) ≡ Some (cell_value cells (c + 0))) same
        (value_here k.s' s next v (not (is_number kind)) (operand_at way c) read ∙ ap (λ (m : ℕ). Some (cell_value cells m)) (sym zero_at))
    with_one k (suc i) t found =
        let operand = operand_of (values_for needs os (suc c) (suc next)) i in
        other_value k.s' next v (not (is_number t)) operand (avoids_not low next operand le (values_avoid needs os (suc c) (suc next) low b.1 i))
        ∙ k.values i t found ∙ ap (λ (m : ℕ). Some (cell_value cells m)) (more_at i)

    without : (k : Carried needs ways kinds way.block os (suc c) next s cells) → needs c ≡ false → HoldFrom k.s' (kind ∷ kinds) (operand_of (o ∷ values_for needs os (suc c) next)) cells c
    without k e zero t found =
        let same : kind ≡ t = cc in
        same_value next s k.s' (not (is_number t)) o k.same (below_more low next o le b.0)
        ∙ ap (value_in s (not (is_number t))) (rest 0 (omega arith) (ap needs zero_at ∙ e)) ∙ hold 0 t found
    without k e (suc i) t found = k.values i t found ∙ ap (λ (m : ℕ). Some (cell_value cells m)) (more_at i)

    one : (need : Bool) → needs c ≡ need → Carried needs ways kinds way.block os (suc c) next s cells → Carried needs ways kinds way.block os (suc c) (suc next) s cells
        → Carried needs ways (kind ∷ kinds) way.block (o ∷ os) c next s cells
    one true e k r = record {
      s' = with_register r.s' next v;
      taken =
          ap (λ n. take_phis (if n then phi ∷ phis_for needs ways kinds (suc c) (suc next) else phis_for needs ways kinds (suc c) next) (Some way.block) s) e
          ∙ ap (λ x. with_phi x next (phi_value s phi (entry_from (entries_of ways c) (Some way.block)))) r.taken
          ∙ ap (λ x. with_phi (Some r.s') next (phi_value s phi x)) (entry_found ways way c own among)
          ∙ ap (with_phi (Some r.s') next) read;
      same = λ x lt. register_other r.s' next v x (λ h. absurd (omega (arith, h, lt))) ∙ r.same x (omega (arith, lt));
      values = λ i t found. ap (λ n. value_in (with_register r.s' next v) (not (is_number t)) (operand_of (if n then Register next ∷ values_for needs os (suc c) (suc next) else o ∷ values_for needs os (suc c) next) i)) e ∙ with_one r i t found;
    }
    one false e k r = record {
      s' = k.s';
      taken = ap (λ n. take_phis (if n then phi ∷ phis_for needs ways kinds (suc c) (suc next) else phis_for needs ways kinds (suc c) next) (Some way.block) s) e ∙ k.taken;
      same = k.same;
      values = λ i t found. ap (λ n. value_in k.s' (not (is_number t)) (operand_of (if n then Register next ∷ values_for needs os (suc c) (suc next) else o ∷ values_for needs os (suc c) next) i)) e ∙ without k e i t found;
    }

-- ---- the laws

pub ways_carry : WaysCarry
ways_carry needs ways kinds first way next own among long below rest = record {
  by = λ s cells holds.
      let all = carried needs ways way kinds first 0 next next s cells (omega arith) long (recursion_from_All (IsBelow next) first below) own among (rest_of) (hold_of s cells holds) in
      (all.s', all.taken, record { each = λ c kind found. all.values c kind found ∙ ap (λ (m : ℕ). Some (cell_value cells m)) (front c) });
}
  where
    front : (c : ℕ) → 0 + c ≡ c
    front c = omega arith

    rest_of : (i : ℕ) → i < length kinds → needs (0 + i) ≡ false → operand_of first i ≡ operand_at way (0 + i)
    rest_of i lt e = rest i lt (ap needs (sym (front i)) ∙ e) ∙ ap (operand_at way) (sym (front i))

    hold_of : (s : State) (cells : Cells) → HoldsCells s kinds way.values cells → HoldFrom s kinds (λ i. operand_at way (0 + i)) cells 0
    hold_of s cells holds i kind found =
        subst (λ (m : ℕ). value_in s (not (is_number kind)) (operand_at way m) ≡ Some (cell_value cells m)) (sym (front i)) (holds.each i kind found)

-- where the ways do not differ

same_numbers : (a b : ℤ) → same_number a b ≡ true → a ≡ b
same_numbers (pos m) (pos n) e = ap pos (eqb-true m n e)
same_numbers (negsuc m) (negsuc n) e = ap negsuc (eqb-true m n e)
same_numbers (pos m) (negsuc n) e = cc
same_numbers (negsuc m) (pos n) e = cc

pub same_operands : (a b : Operand) → same_operand a b ≡ true → a ≡ b
same_operands (Register r) (Register x) e = ap Register (eqb-true r x e)
same_operands (Fixed y) (Fixed z) e = ap Fixed (same_numbers y z e)
same_operands (Register r) (Fixed z) e = cc
same_operands (Fixed z) (Register r) e = cc

and_left : (a b : Bool) → (a && b) ≡ true → a ≡ true
and_left true b e = refl
and_left false b e = e

and_right : (a b : Bool) → (a && b) ≡ true → b ≡ true
and_right true b e = e
and_right false b e = cc

not_false : (b : Bool) → not b ≡ false → b ≡ true
not_false true e = refl
not_false false e = cc

same_among : (o : Operand) (ways : List CellState) (way : CellState) (c : ℕ) → all_same o ways c ≡ true → IsAmong way ways → o ≡ operand_at way c
same_among o [] way c e among = absurd among
same_among o (w ∷ ways) way c e among =
    ⊎_elim (λ is. same_operands o (operand_at w c) (and_left (same_operand o (operand_at w c)) (all_same o ways c) e) ∙ ap (λ (v : CellState). operand_at v c) (sym is))
    (λ behind. same_among o ways way c (and_right (same_operand o (operand_at w c)) (all_same o ways c) e) behind) among

pub same_where_not_differ : SameWhereNotDiffer
same_where_not_differ [] way c among e = absurd among
same_where_not_differ (w ∷ ways) way c among e =
    ⊎_elim (λ is. ap (λ (v : CellState). operand_at v c) (sym is)) (λ behind. same_among (operand_at w c) ways way c (not_false (all_same (operand_at w c) ways c) e) behind) among
