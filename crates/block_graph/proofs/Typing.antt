-- Operands are of the types that their registers are assigned with, while each statement is lowered.
use Rattle.std.proofs.Common.{◌≡◌, ◌⊎◌, ⊎_elim, ℕ, zero, suc, ◌+◌, nat_eq, Bool, true, false, not, ◌||◌, List, [], ◌∷◌, ◌++◌, map, length, pos, Option, Some, None, refl, sym, ap, ◌∙◌, subst, arith, length-set, get_or-set_same, get_or-set_other, eq-eqb, eqb-true}
use Rattle.std.specs.Prelude.{slice_get, slice_set, if◌then◌else◌}
use Rattle.std.specs.List.{flat_map, AllByRecursion}
use Rattle.std.proofs.lemmas.Option.{slice_get_within}
use Rattle.qir_module.specs.declared.instruction.Operand.{Operand}
use Rattle.qir_module.specs.declared.instruction.Operand.TheVariants.{Register, Fixed}
use Rattle.qir_module.specs.declared.instruction.Opcode.{Opcode}
use Rattle.qir_module.specs.declared.instruction.Opcode.TheVariants.{Add, Sub, Mul, Sdiv, Srem, Udiv, Urem, And, Or, Xor, Shl, Lshr, Ashr, Eq, Ne, Slt, Sle, Sgt, Sge, Ult, Ule, Ugt, Uge}
use Rattle.qir_module.specs.declared.instruction.Instr.{Instr}
use Rattle.qir_module.specs.declared.instruction.Instr.TheVariants.{Op, Zext, Trunc, Select, Call}
use Rattle.qir_module.specs.declared.block.Phi.{Phi}
use Rattle.qir_module.specs.Numbered.{is_among}
use Rattle.qir_module.specs.Spots.{ThePhi, TheInstr}
use Rattle.qir_module.specs.Passes.{instr_operands, last_operands, item_operands, compares, assigned_with}
use Rattle.core_ir.specs.declared.expression.CellKind.{CellKind}
use Rattle.core_ir.specs.Core.{Core}
use Rattle.core_ir.specs.Size.{pair_exprs}
use Rattle.core_ir.specs.WellFormed.{is_comparison, PairFits}
use Rattle.cell_operands.specs.Operands.{is_number, operand_of}
use Rattle.phi_place.specs.State.{CellState}
use Rattle.phi_place.specs.Phis.{phis_for, entries_of, values_for}
use Rattle.expr_lower.specs.Lowered.{IsTyped, Reads, ReadsOnly, Gives, Behind, HasCell, AreTyped}
use Rattle.block_graph.specs.Work.{PhiPart, Ready, Late, Draft, Level, Open, Work}
use Rattle.block_graph.specs.Lowering.{stored, add_way}
use Rattle.block_graph.specs.Claims.{traced}
use Rattle.block_graph.proofs.Coding.{all_append, typed_with}
use Rattle.block_graph.proofs.Flow.{or_left, or_right, or_cases}

-- ---- what is assigned with a type

abbrev pub phis_with : Bool → List Phi → List ℕ
phis_with truth phis = flat_map (λ (p : Phi). assigned_with truth (ThePhi p)) phis

abbrev pub instr_with : Bool → Instr → List ℕ
instr_with truth i = assigned_with truth (TheInstr i)

-- the register is assigned so far with the type, where these are the late phis
abbrev pub Has : (ℕ → List Phi) → Work → ℕ → Bool → Type 0
Has lates w r truth = is_among (traced (phis_with truth) (instr_with truth) lates w) r ≡ true

pub among_left : (xs ys : List ℕ) (r : ℕ) → is_among xs r ≡ true → is_among (xs ++ ys) r ≡ true
among_left [] ys r e = absurd (cc e)
among_left (x ∷ xs) ys r e = ⊎_elim (λ h. or_left (nat_eq r x) (is_among (xs ++ ys) r) h) (λ h. or_right (nat_eq r x) (is_among (xs ++ ys) r) (among_left xs ys r h)) (or_cases (nat_eq r x) (is_among xs r) e)

pub among_right : (xs ys : List ℕ) (r : ℕ) → is_among ys r ≡ true → is_among (xs ++ ys) r ≡ true
among_right [] ys r e = e
among_right (x ∷ xs) ys r e = or_right (nat_eq r x) (is_among (xs ++ ys) r) (among_right xs ys r e)

pub among_first : (r : ℕ) (xs : List ℕ) → is_among (r ∷ xs) r ≡ true
among_first r xs = or_left (nat_eq r r) (is_among xs r) (eq-eqb r r refl)

-- what a step adds
pub record Adds (lates : ℕ → List Phi) (w v : Work) (xs : Bool → List ℕ) : Type 0 where
  pub by : (truth : Bool) → traced (phis_with truth) (instr_with truth) lates v ≡ traced (phis_with truth) (instr_with truth) lates w ++ xs truth

pub adds_old : (lates : ℕ → List Phi) (w v : Work) (xs : Bool → List ℕ) → Adds lates w v xs → (r : ℕ) (truth : Bool) → Has lates w r truth → Has lates v r truth
adds_old lates w v xs a r truth h = ap (λ (l : List ℕ). is_among l r) (a.by truth) ∙ among_left (traced (phis_with truth) (instr_with truth) lates w) (xs truth) r h

pub adds_new : (lates : ℕ → List Phi) (w v : Work) (xs : Bool → List ℕ) → Adds lates w v xs → (r : ℕ) (truth : Bool) → is_among (xs truth) r ≡ true → Has lates v r truth
adds_new lates w v xs a r truth h = ap (λ (l : List ℕ). is_among l r) (a.by truth) ∙ among_right (traced (phis_with truth) (instr_with truth) lates w) (xs truth) r h

-- ---- what is typed

abbrev pub AreOperands : (ℕ → Bool → Type 0) → List (Operand × Bool) → Type 0
AreOperands has os = AllByRecursion (λ (o : Operand × Bool). IsTyped has o.1 o.0) os

abbrev pub PhisTyped : (ℕ → Bool → Type 0) → List Phi → Type 0
PhisTyped has phis = AllByRecursion (λ (p : Phi). AreOperands has (item_operands (ThePhi p))) phis

abbrev pub PartTyped : (ℕ → Bool → Type 0) → PhiPart → Type 0
PartTyped has (Ready phis) = PhisTyped has phis
PartTyped has (Late place) = Unit {0}

abbrev pub BodyTyped : (ℕ → Bool → Type 0) → List Instr → Type 0
BodyTyped has code = AllByRecursion (λ (i : Instr). AreOperands has (instr_operands i)) code

abbrev pub DraftTyped : (ℕ → Bool → Type 0) → Draft → Type 0
DraftTyped has d = PartTyped has d.phis × BodyTyped has d.body × AreOperands has (last_operands d.last)

abbrev pub CellsTyped : (ℕ → Bool → Type 0) → List CellKind → List Operand → Type 0
CellsTyped has kinds values = (c : ℕ) (kind : CellKind) → slice_get kinds c ≡ Some kind → IsTyped has (not (is_number kind)) (operand_of values c)

abbrev pub NowTyped : (ℕ → Bool → Type 0) → List CellKind → Option Open → Type 0
NowTyped has kinds None = Unit {0}
NowTyped has kinds (Some o) = PartTyped has o.phis × BodyTyped has o.body × CellsTyped has kinds o.values

abbrev pub WaysTyped : (ℕ → Bool → Type 0) → List CellKind → List CellState → Type 0
WaysTyped has kinds ways = AllByRecursion (λ (way : CellState). CellsTyped has kinds way.values) ways

abbrev pub LevelsTyped : (ℕ → Bool → Type 0) → List CellKind → List Level → Type 0
LevelsTyped has kinds ls = AllByRecursion (λ (l : Level). WaysTyped has kinds l.ways) ls

pub record IsTypedWork (has : ℕ → Bool → Type 0) (kinds : List CellKind) (w : Work) : Type 0 where
  pub done : AllByRecursion (DraftTyped has) w.done
  pub now : NowTyped has kinds w.now
  pub lates : AllByRecursion (PhisTyped has) w.lates
  pub ends : LevelsTyped has kinds w.ends
  pub starts : LevelsTyped has kinds w.starts

-- ---- with more registers

all_with : {A : Type 0} (P Q : A → Type 0) (xs : List A) → ((x : A) → P x → Q x) → AllByRecursion P xs → AllByRecursion Q xs
all_with P Q [] f all = tt
all_with P Q (x ∷ xs) f all = (f x all.0, all_with P Q xs f all.1)

module _ (has more : ℕ → Bool → Type 0) (f : (r : ℕ) (truth : Bool) → has r truth → more r truth) where
  operands_with : (os : List (Operand × Bool)) → AreOperands has os → AreOperands more os
  operands_with os all = all_with (λ (o : Operand × Bool). IsTyped has o.1 o.0) (λ (o : Operand × Bool). IsTyped more o.1 o.0) os (λ o h. typed_with has more f o.1 o.0 h) all

  phis_typed_with : (phis : List Phi) → PhisTyped has phis → PhisTyped more phis
  phis_typed_with phis all = all_with (λ (p : Phi). AreOperands has (item_operands (ThePhi p))) (λ (p : Phi). AreOperands more (item_operands (ThePhi p))) phis (λ p h. operands_with (item_operands (ThePhi p)) h) all

  part_with : (part : PhiPart) → PartTyped has part → PartTyped more part
  part_with (Ready phis) h = phis_typed_with phis h
  part_with (Late place) h = tt

  body_with : (code : List Instr) → BodyTyped has code → BodyTyped more code
  body_with code all = all_with (λ (i : Instr). AreOperands has (instr_operands i)) (λ (i : Instr). AreOperands more (instr_operands i)) code (λ i h. operands_with (instr_operands i) h) all

  pub cells_with : (kinds : List CellKind) (values : List Operand) → CellsTyped has kinds values → CellsTyped more kinds values
  cells_with kinds values h = λ c kind is. typed_with has more f (not (is_number kind)) (operand_of values c) (h c kind is)

  now_with : (kinds : List CellKind) (now : Option Open) → NowTyped has kinds now → NowTyped more kinds now
  now_with kinds None h = tt
  now_with kinds (Some o) h = (part_with o.phis h.0, body_with o.body h.1, cells_with kinds o.values h.2)

  pub ways_with : (kinds : List CellKind) (ways : List CellState) → WaysTyped has kinds ways → WaysTyped more kinds ways
  ways_with kinds ways all = all_with (λ (way : CellState). CellsTyped has kinds way.values) (λ (way : CellState). CellsTyped more kinds way.values) ways (λ way h. cells_with kinds way.values h) all

  pub levels_with : (kinds : List CellKind) (ls : List Level) → LevelsTyped has kinds ls → LevelsTyped more kinds ls
  levels_with kinds ls all = all_with (λ (l : Level). WaysTyped has kinds l.ways) (λ (l : Level). WaysTyped more kinds l.ways) ls (λ l h. ways_with kinds l.ways h) all

  pub work_with : (kinds : List CellKind) (w : Work) → IsTypedWork has kinds w → IsTypedWork more kinds w
  work_with kinds w t = record {
    done = all_with (DraftTyped has) (DraftTyped more) w.done (λ d h. (part_with d.phis h.0, body_with d.body h.1, operands_with (last_operands d.last) h.2)) t.done;
    now = now_with kinds w.now t.now;
    lates = all_with (PhisTyped has) (PhisTyped more) w.lates (λ ps h. phis_typed_with ps h) t.lates;
    ends = levels_with kinds w.ends t.ends;
    starts = levels_with kinds w.starts t.starts;
  }

-- ---- code of expressions

comparisons_same : (op : Opcode) → is_comparison op ≡ compares op
comparisons_same Add = refl
comparisons_same Sub = refl
comparisons_same Mul = refl
comparisons_same Sdiv = refl
comparisons_same Srem = refl
comparisons_same Udiv = refl
comparisons_same Urem = refl
comparisons_same And = refl
comparisons_same Or = refl
comparisons_same Xor = refl
comparisons_same Shl = refl
comparisons_same Lshr = refl
comparisons_same Ashr = refl
comparisons_same Eq = refl
comparisons_same Ne = refl
comparisons_same Slt = refl
comparisons_same Sle = refl
comparisons_same Sgt = refl
comparisons_same Sge = refl
comparisons_same Ult = refl
comparisons_same Ule = refl
comparisons_same Ugt = refl
comparisons_same Uge = refl

-- an instruction assigns its register with the type that it gives
own_type : (gives : Bool) (r : ℕ) → is_among (if gives then (if gives then r ∷ [] else []) else (if gives then [] else r ∷ [])) r ≡ true
own_type true r = among_first r []
own_type false r = among_first r []

or_swap : (a b : Bool) → (a || b) ≡ (b || a)
or_swap true true = refl
or_swap true false = refl
or_swap false true = refl
or_swap false false = refl

given : (i : Instr) (r : ℕ) (truth : Bool) → Gives i r truth → is_among (instr_with truth i) r ≡ true
given (Op x op t left right) r truth g =
    let same : truth ≡ (t || compares op) = g.1 ∙ or_swap (is_comparison op) t ∙ ap (λ (b : Bool). t || b) (comparisons_same op) in
    subst (λ (b : Bool). is_among (instr_with b (Op x op t left right)) r ≡ true) (sym same) (subst (λ (k : ℕ). is_among (instr_with (t || compares op) (Op x op t left right)) k ≡ true) (sym g.0) (own_type (t || compares op) x))
given (Zext x from) r truth g = subst (λ (b : Bool). is_among (instr_with b (Zext x from)) r ≡ true) (sym g.1) (subst (λ (k : ℕ). is_among (x ∷ []) k ≡ true) (sym g.0) (among_first x []))
given (Trunc x from) r truth g = subst (λ (b : Bool). is_among (instr_with b (Trunc x from)) r ≡ true) (sym g.1) (subst (λ (k : ℕ). is_among (x ∷ []) k ≡ true) (sym g.0) (among_first x []))
given (Select x t test chosen other) r truth g = subst (λ (b : Bool). is_among (instr_with b (Select x t test chosen other)) r ≡ true) (sym g.1) (subst (λ (k : ℕ). is_among (instr_with t (Select x t test chosen other)) k ≡ true) (sym g.0) (own_type t x))
given (Call register function args) r truth g = absurd g

-- each instruction's register is there
abbrev pub GivesAll : (ℕ → Bool → Type 0) → List Instr → Type 0
GivesAll more code = AllByRecursion (λ (i : Instr). (r : ℕ) (truth : Bool) → Gives i r truth → more r truth) code

pub gives_all : (more : ℕ → Bool → Type 0) (code : List Instr) → ((r : ℕ) (truth : Bool) → is_among (flat_map (instr_with truth) code) r ≡ true → more r truth) → GivesAll more code
gives_all more [] h = tt
gives_all more (i ∷ is) h = (
  (λ r truth g. h r truth (among_left (instr_with truth i) (flat_map (instr_with truth) is) r (given i r truth g))),
  gives_all more is (λ r truth e. h r truth (among_right (instr_with truth i) (flat_map (instr_with truth) is) r e)),
)

reads_typed : (has : ℕ → Bool → Type 0) (i : Instr) → Reads has i → AreOperands has (instr_operands i)
reads_typed has (Op r op truth left right) h = (h.1, (h.2, tt))
reads_typed has (Zext r from) h = (h, tt)
reads_typed has (Trunc r from) h = (h, tt)
reads_typed has (Select r truth test chosen other) h = (h.0, (h.1, (h.2, tt)))
reads_typed has (Call register function args) h = absurd h

pub code_typed : (has more : ℕ → Bool → Type 0) (code : List Instr) → ((r : ℕ) (truth : Bool) → has r truth → more r truth) → GivesAll more code → ReadsOnly has code → BodyTyped more code
code_typed has more [] f g reads = tt
code_typed has more (i ∷ is) f g reads = (
  operands_with has more f (instr_operands i) (reads_typed has i reads.0),
  code_typed (λ r truth. has r truth ⊎ Gives i r truth) more is (λ r truth h. ⊎_elim (λ a. f r truth a) (λ b. g.0 r truth b) h) g.1 reads.1,
)

pub behind_typed : (has more : ℕ → Bool → Type 0) (code : List Instr) → ((r : ℕ) (truth : Bool) → has r truth → more r truth) → GivesAll more code → (r : ℕ) (truth : Bool) → Behind has code r truth → more r truth
behind_typed has more [] f g r truth h = f r truth h
behind_typed has more (i ∷ is) f g r truth h = behind_typed (λ x t. has x t ⊎ Gives i x t) more is (λ x t a. ⊎_elim (λ b. f x t b) (λ b. g.0 x t b) a) g.1 r truth h

pub cell_has : (has : ℕ → Bool → Type 0) (kinds : List CellKind) (values : List Operand) → CellsTyped has kinds values → (r : ℕ) (truth : Bool) → HasCell kinds values r truth → has r truth
cell_has has kinds values cells r truth h = subst (has r) (sym h.4) (subst (IsTyped has (not (is_number h.1))) h.3 (cells h.0 h.1 h.2))

pub exprs_with : (has more : ℕ → Bool → Type 0) (core : Core) → ((r : ℕ) (truth : Bool) → has r truth → more r truth) → (exprs : List ℕ) (operands : List Operand) → AreTyped has core exprs operands → AreTyped more core exprs operands
exprs_with has more core f [] [] t = tt
exprs_with has more core f [] (o ∷ os) t = absurd t
exprs_with has more core f (e ∷ es) [] t = absurd t
exprs_with has more core f (e ∷ es) (o ∷ os) t = ((λ kind is. typed_with has more f (not (is_number kind)) o (t.0 kind is)), exprs_with has more core f es os t.1)

-- ---- cells

pub cells_put : (has : ℕ → Bool → Type 0) (kinds : List CellKind) (values : List Operand) (c : ℕ) (o : Operand) (kind : CellKind) → length values ≡ length kinds → slice_get kinds c ≡ Some kind → IsTyped has (not (is_number kind)) o → CellsTyped has kinds values → CellsTyped has kinds (slice_set values c o)
cells_put has kinds values c o kind long is t cells = λ i other is_i. at i other is_i (nat_eq i c) refl
  where
    at : (i : ℕ) (other : CellKind) → slice_get kinds i ≡ Some other → (here : Bool) → nat_eq i c ≡ here → IsTyped has (not (is_number other)) (operand_of (slice_set values c o) i)
    at i other is_i true e =
        let same : i ≡ c = eqb-true i c e in
        let within = slice_get_within kinds c kind is in
        let kinds_same : other ≡ kind = cc (sym is_i ∙ ap (slice_get kinds) same ∙ is) in
        let here : operand_of (slice_set values c o) i ≡ o = ap (operand_of (slice_set values c o)) same ∙ get_or-set_same values c o (Fixed (pos 0)) (omega (arith, within, long)) in
        subst (λ k. IsTyped has (not (is_number k)) (operand_of (slice_set values c o) i)) (sym kinds_same) (subst (IsTyped has (not (is_number kind))) (sym here) t)
    at i other is_i false e =
        subst (IsTyped has (not (is_number other))) (sym (get_or-set_other values c i o (Fixed (pos 0)) (λ eq. cc (e, eq-eqb i c eq)))) (cells i other is_i)

pub stored_typed : (has : ℕ → Bool → Type 0) (core : Core) (pairs : List (ℕ × ℕ)) (operands values : List Operand) → length values ≡ length core.cells → AllByRecursion (PairFits core) pairs → AreTyped has core (pair_exprs pairs) operands → CellsTyped has core.cells values → CellsTyped has core.cells (stored pairs operands values)
stored_typed has core [] operands values long fit typed cells = cells
stored_typed has core (p ∷ pairs) [] values long fit typed cells = absurd typed
stored_typed has core (p ∷ pairs) (o ∷ operands) values long fit typed cells =
    stored_typed has core pairs operands (slice_set values p.0 o) (length-set values p.0 o ∙ long) fit.1 typed.1
    (cells_put has core.cells values p.0 o fit.0.kind long fit.0.cell (typed.0 fit.0.kind fit.0.value) cells)

-- ---- phis

phi_among : (number : Bool) (r : ℕ) (more : List ℕ) → is_among ((if number then (if not number then [] else r ∷ []) else (if not number then r ∷ [] else [])) ++ more) r ≡ true
phi_among true r more = among_first r more
phi_among false r more = among_first r more

-- cells behind phis whose registers are there
pub opened_typed : (has : ℕ → Bool → Type 0) (needs : ℕ → Bool) (ways : List CellState) (ks : List CellKind) (first : List Operand) (c next i : ℕ) (kind : CellKind) → ((r : ℕ) (truth : Bool) → is_among (phis_with truth (phis_for needs ways ks c next)) r ≡ true → has r truth) → slice_get ks i ≡ Some kind → IsTyped has (not (is_number kind)) (operand_of first i) → IsTyped has (not (is_number kind)) (operand_of (values_for needs first c next) i)
opened_typed has needs ways [] first c next i kind h is t = absurd (cc is)
opened_typed has needs ways (k ∷ ks) [] c next i kind h is t = t
opened_typed has needs ways (k ∷ ks) (o ∷ os) c next zero kind h is t = two (needs c) h
  where
    two : (b : Bool) → ((r : ℕ) (truth : Bool) → is_among (phis_with truth (if b then record { register = next; number = is_number k; entries = entries_of ways c } ∷ phis_for needs ways ks (suc c) (suc next) else phis_for needs ways ks (suc c) next)) r ≡ true → has r truth)
        → IsTyped has (not (is_number kind)) (operand_of (if b then Register next ∷ values_for needs os (suc c) (suc next) else o ∷ values_for needs os (suc c) next) 0)
    two true g =
        let same : k ≡ kind = cc is in
        subst (λ (q : CellKind). has next (not (is_number q))) same (g next (not (is_number k)) (phi_among (is_number k) next (phis_with (not (is_number k)) (phis_for needs ways ks (suc c) (suc next)))))
    two false g = t
opened_typed has needs ways (k ∷ ks) (o ∷ os) c next (suc i) kind h is t = two (needs c) h (λ g. opened_typed has needs ways ks os (suc c) (suc next) i kind g is t) (λ g. opened_typed has needs ways ks os (suc c) next i kind g is t)
  where
    two : (b : Bool) → ((r : ℕ) (truth : Bool) → is_among (phis_with truth (if b then record { register = next; number = is_number k; entries = entries_of ways c } ∷ phis_for needs ways ks (suc c) (suc next) else phis_for needs ways ks (suc c) next)) r ≡ true → has r truth)
        → (((r : ℕ) (truth : Bool) → is_among (phis_with truth (phis_for needs ways ks (suc c) (suc next))) r ≡ true → has r truth) → IsTyped has (not (is_number kind)) (operand_of (values_for needs os (suc c) (suc next)) i))
        → (((r : ℕ) (truth : Bool) → is_among (phis_with truth (phis_for needs ways ks (suc c) next)) r ≡ true → has r truth) → IsTyped has (not (is_number kind)) (operand_of (values_for needs os (suc c) next) i))
        → IsTyped has (not (is_number kind)) (operand_of (if b then Register next ∷ values_for needs os (suc c) (suc next) else o ∷ values_for needs os (suc c) next) (suc i))
    two true g m s = m (λ r truth e. g r truth (among_right (assigned_with truth (ThePhi (record { register = next; number = is_number k; entries = entries_of ways c }))) (phis_with truth (phis_for needs ways ks (suc c) (suc next))) r e))
    two false g m s = s g

entries_typed : (has : ℕ → Bool → Type 0) (kinds : List CellKind) (ways : List CellState) (c : ℕ) (kind : CellKind) → slice_get kinds c ≡ Some kind → WaysTyped has kinds ways → AreOperands has (map (λ (e : Operand × ℕ). (e.0, not (is_number kind))) (entries_of ways c))
entries_typed has kinds [] c kind is all = tt
entries_typed has kinds (way ∷ ways) c kind is all = (all.0 c kind is, entries_typed has kinds ways c kind is all.1)

pub phis_typed : (has : ℕ → Bool → Type 0) (needs : ℕ → Bool) (kinds : List CellKind) (ways : List CellState) → WaysTyped has kinds ways → (ks : List CellKind) (c next : ℕ) → ((j : ℕ) → slice_get kinds (c + j) ≡ slice_get ks j) → PhisTyped has (phis_for needs ways ks c next)
phis_typed has needs kinds ways all [] c next same = tt
phis_typed has needs kinds ways all (kind ∷ ks) c next same = two (needs c) (phis_typed has needs kinds ways all ks (suc c) (suc next) rest) (phis_typed has needs kinds ways all ks (suc c) next rest)
  where
    rest : (j : ℕ) → slice_get kinds (suc c + j) ≡ slice_get ks j
    rest j = let z : suc c + j ≡ c + suc j = omega arith in ap (slice_get kinds) z ∙ same (suc j)

    here : slice_get kinds c ≡ Some kind
    here = let z : c ≡ c + 0 = omega arith in ap (slice_get kinds) z ∙ same 0

    two : (b : Bool) → PhisTyped has (phis_for needs ways ks (suc c) (suc next)) → PhisTyped has (phis_for needs ways ks (suc c) next) → PhisTyped has (if b then record { register = next; number = is_number kind; entries = entries_of ways c } ∷ phis_for needs ways ks (suc c) (suc next) else phis_for needs ways ks (suc c) next)
    two true m s = (entries_typed has kinds ways c kind here all, m)
    two false m s = s

-- ---- levels

pub ways_push : (has : ℕ → Bool → Type 0) (kinds : List CellKind) (ls : List Level) (k : ℕ) (way : CellState) → CellsTyped has kinds way.values → LevelsTyped has kinds ls → LevelsTyped has kinds (add_way ls k way)
ways_push has kinds [] k way h all = tt
ways_push has kinds (l ∷ ls) zero way h all = (all_append (λ (x : CellState). CellsTyped has kinds x.values) l.ways (way ∷ []) all.0 (h, tt), all.1)
ways_push has kinds (l ∷ ls) (suc k) way h all = (all.0, ways_push has kinds ls k way h all.1)
