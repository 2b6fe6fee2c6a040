-- Which operand a cell has where a way through a statement ends: the one that it had, unless a way that ends there
-- stores one; and the constant 0, unless the cell is open there.
use Rattle.std.proofs.Common.{◌≡◌, ◌≢◌, ℕ, zero, suc, ◌+◌, ◌⊎◌, inl, inr, ⊎_elim, Bool, true, false, not, ◌&&◌, ◌||◌, List, [], ◌∷◌, ◌++◌, length, ℤ, pos, negsuc, Option, Some, None, refl, sym, ap, ◌∙◌, subst, arith, append_assoc, append-nil, eq-eqb, eqb-true, get_or-set_other}
use Rattle.std.specs.Prelude.{nat_eq, slice_get, slice_set, if◌then◌else◌}
use Rattle.std.specs.List.{AllByRecursion}
use Rattle.qir_module.specs.declared.instruction.Operand.{Operand}
use Rattle.qir_module.specs.declared.instruction.Operand.TheVariants.{Fixed, Register}
use Rattle.qir_module.specs.declared.instruction.Last.TheVariants.{Jump}
use Rattle.core_ir.specs.declared.expression.CellKind.{CellKind}
use Rattle.core_ir.specs.declared.expression.CoreExpr.{CoreExpr}
use Rattle.core_ir.specs.declared.expression.CoreExpr.TheVariants.{Cell as CellNode, Truth as TruthNode, Number as NumberNode, Op as OpNode, Widen as WidenNode, Narrow as NarrowNode, Choose as ChooseNode}
use Rattle.core_ir.specs.Core.{Core}
use Rattle.core_ir.specs.Tree.{Expr, node_expr, expr_within, expr_of, Stmt, Skip, Seq, Assign, Gate, Reset, Measure, If, Block, Loop, Leave, Again}
use Rattle.core_ir.specs.Size.{pair_exprs}
use Rattle.core_ir.specs.Ways.{Exit, Falls, Leaves, Agains, is_fall, reaches, passes, stores, given_last, names_cell, is_zero, counts}
use Rattle.cell_operands.specs.Operands.{operand_of}
use Rattle.phi_place.specs.State.{CellState}
use Rattle.phi_place.specs.Phis.{operand_at, same_number, same_operand, all_same, ways_differ, values_for}
use Rattle.expr_lower.specs.Lowered.{IsConstant, AreConstant}
use Rattle.block_graph.specs.Work.{Level, Open, Work}
use Rattle.block_graph.specs.Lowering.{Coder, stored, close, way_of, add_way, when_open, assign_work, gate_work, reset_work, measure_work, leave_work, again_work, leave_zero, join_work, open_end, close_end, needs_phi, start_needs, open_loop, close_start, open_first, fall_work, fall_ways, open_second, join_bodies, two_bodies, lower_of}
use Rattle.block_graph.proofs.Cells.{value_stays}

-- ---- truth values

pub or_left : (a b : Bool) → a ≡ true → (a || b) ≡ true
or_left true b e = refl
or_left false b e = absurd (cc e)

pub or_right : (a b : Bool) → b ≡ true → (a || b) ≡ true
or_right true b e = refl
or_right false b e = e

pub or_cases : (a b : Bool) → (a || b) ≡ true → (a ≡ true) ⊎ (b ≡ true)
or_cases true b e = inl refl
or_cases false b e = inr e

pub and_both : (a b : Bool) → a ≡ true → b ≡ true → (a && b) ≡ true
and_both true b e f = f
and_both false b e f = absurd (cc e)

pub and_cases : (a b : Bool) → (a && b) ≡ true → (a ≡ true) × (b ≡ true)
and_cases true b e = (refl, e)
and_cases false b e = absurd (cc e)

pub flip : (b : Bool) → not b ≡ false → b ≡ true
flip true e = refl
flip false e = absurd (cc e)

-- ---- operands that are the same

nat_same : (m n : ℕ) → nat_eq m n ≡ true → m ≡ n
nat_same m n e = eqb-true m n e

word_same : (x y : ℤ) → same_number x y ≡ true → x ≡ y
word_same (pos m) (pos n) e = ap pos (nat_same m n e)
word_same (negsuc m) (negsuc n) e = ap negsuc (nat_same m n e)
word_same (pos m) (negsuc n) e = absurd (cc e)
word_same (negsuc m) (pos n) e = absurd (cc e)

pub operand_same : (a b : Operand) → same_operand a b ≡ true → a ≡ b
operand_same (Register r) (Register s) e = ap Register (nat_same r s e)
operand_same (Fixed x) (Fixed y) e = ap Fixed (word_same x y e)
operand_same (Register r) (Fixed y) e = absurd (cc e)
operand_same (Fixed x) (Register s) e = absurd (cc e)

word_refl : (x : ℤ) → same_number x x ≡ true
word_refl (pos n) = eq-eqb n n refl
word_refl (negsuc n) = eq-eqb n n refl

pub operand_refl : (a : Operand) → same_operand a a ≡ true
operand_refl (Register r) = eq-eqb r r refl
operand_refl (Fixed z) = word_refl z

abbrev pub AllKeep : ℕ → Operand → List CellState → Type 0
AllKeep c y ways = AllByRecursion (λ (way : CellState). operand_at way c ≡ y) ways

all_keep : (c : ℕ) (y o : Operand) (ways : List CellState) → o ≡ y → AllKeep c y ways → all_same o ways c ≡ true
all_keep c y o [] e k = refl
all_keep c y o (w ∷ ways) e k = and_both (same_operand o (operand_at w c)) (all_same o ways c) (ap (same_operand o) (k.0 ∙ sym e) ∙ operand_refl o) (all_keep c y o ways e k.1)

pub differ_keep : (c : ℕ) (y : Operand) (way : CellState) (ways : List CellState) → AllKeep c y (way ∷ ways) → ways_differ (way ∷ ways) c ≡ false
differ_keep c y way ways k = ap not (all_keep c y (operand_at way c) ways k.0 k.1)

-- ---- levels with further ways, of which something holds: of those of the k-th level P k

abbrev pub Added : (ℕ → CellState → Type 0) → List Level → List Level → Type 0
Added P [] [] = Unit {0}
Added P [] (k ∷ ks) = ⊥
Added P (l ∷ ls) [] = ⊥
Added P (l ∷ ls) (k ∷ ks) = ((more : List CellState) × (k.ways ≡ l.ways ++ more) × AllByRecursion (P 0) more) × Added (λ i. P (suc i)) ls ks

pub each_append : (P : CellState → Type 0) (xs ys : List CellState) → AllByRecursion P xs → AllByRecursion P ys → AllByRecursion P (xs ++ ys)
each_append P [] ys a b = b
each_append P (x ∷ xs) ys a b = (a.0, each_append P xs ys a.1 b)

pub each_map : (P Q : CellState → Type 0) (xs : List CellState) → ((way : CellState) → P way → Q way) → AllByRecursion P xs → AllByRecursion Q xs
each_map P Q [] f a = tt
each_map P Q (x ∷ xs) f a = (f x a.0, each_map P Q xs f a.1)

pub added_refl : (P : ℕ → CellState → Type 0) (ls : List Level) → Added P ls ls
added_refl P [] = tt
added_refl P (l ∷ ls) = (([], sym (append-nil l.ways), tt), added_refl (λ i. P (suc i)) ls)

pub added_then : (P : ℕ → CellState → Type 0) (ls ks js : List Level) → Added P ls ks → Added P ks js → Added P ls js
added_then P [] [] [] a b = tt
added_then P [] [] (j ∷ js) a b = absurd b
added_then P [] (k ∷ ks) js a b = absurd a
added_then P (l ∷ ls) [] js a b = absurd a
added_then P (l ∷ ls) (k ∷ ks) [] a b = absurd b
added_then P (l ∷ ls) (k ∷ ks) (j ∷ js) a b =
    ((a.0.0 ++ b.0.0, b.0.1 ∙ ap (λ (z : List CellState). z ++ b.0.0) a.0.1 ∙ append_assoc l.ways a.0.0 b.0.0, each_append (P 0) a.0.0 b.0.0 a.0.2 b.0.2), added_then (λ i. P (suc i)) ls ks js a.1 b.1)

pub added_map : (P Q : ℕ → CellState → Type 0) (ls ks : List Level) → ((i : ℕ) (way : CellState) → P i way → Q i way) → Added P ls ks → Added Q ls ks
added_map P Q [] [] f a = tt
added_map P Q [] (k ∷ ks) f a = absurd a
added_map P Q (l ∷ ls) [] f a = absurd a
added_map P Q (l ∷ ls) (k ∷ ks) f a = ((a.0.0, a.0.1, each_map (P 0) (Q 0) a.0.0 (f 0) a.0.2), added_map (λ i. P (suc i)) (λ i. Q (suc i)) ls ks (λ i. f (suc i)) a.1)

pub added_way : (P : ℕ → CellState → Type 0) (ls : List Level) (k : ℕ) (way : CellState) → P k way → Added P ls (add_way ls k way)
added_way P [] k way p = tt
added_way P (l ∷ ls) zero way p = ((way ∷ [], refl, (p, tt)), added_refl (λ i. P (suc i)) ls)
added_way P (l ∷ ls) (suc k) way p = (([], sym (append-nil l.ways), tt), added_way (λ i. P (suc i)) ls k way p)

-- ---- what stays as it is

pub dead : (core : Core) (coder : Coder) (s : Stmt) (w : Work) → w.now ≡ None → lower_of core coder s w ≡ w
dead core coder Skip w e = refl
dead core coder (Seq a b) w e = ap (lower_of core coder b) (dead core coder a w e) ∙ dead core coder b w e
dead core coder (Assign pairs) w e = ap (λ (n : Option Open). when_open n w (assign_work coder pairs w)) e
dead core coder (Gate leaf) w e = ap (λ (n : Option Open). when_open n w (gate_work coder leaf w)) e
dead core coder (Reset qubit) w e = ap (λ (n : Option Open). when_open n w (reset_work qubit w)) e
dead core coder (Measure qubit into) w e = ap (λ (n : Option Open). when_open n w (measure_work qubit into w)) e
dead core coder (If test a b) w e =
    ap (λ (n : Option Open). when_open n w (λ o. if reaches b Falls then two_bodies core.cells (length w.targets) o.values (lower_of core coder a (open_first coder true test w o)) (lower_of core coder b) else two_bodies core.cells (length w.targets) o.values (lower_of core coder b (open_first coder false test w o)) (lower_of core coder a))) e
dead core coder (Block a) w e = ap (λ (n : Option Open). when_open n w (λ o. let v = leave_zero (lower_of core coder a (open_end w)) in close_end core.cells v.ends v)) e
dead core coder (Loop a) w e =
    ap (λ (n : Option Open). when_open n w (λ o.
    let needs = start_needs core.exprs a o.values in
    let v = leave_zero (lower_of core coder a (open_loop core.cells needs w o)) in
    close_end core.cells v.ends (close_start core.cells needs (length w.lates) w.next v.starts v))) e
dead core coder (Leave k) w e = ap (λ (n : Option Open). when_open n w (leave_work k w)) e
dead core coder (Again k) w e = ap (λ (n : Option Open). when_open n w (again_work k w)) e

pub fall_ends : (j : ℕ) (v : Work) (n : Option Open) → (when_open n v (λ o. close v o (Jump j))).ends ≡ v.ends
fall_ends j v None = refl
fall_ends j v (Some o) = refl

pub fall_starts : (j : ℕ) (v : Work) (n : Option Open) → (when_open n v (λ o. close v o (Jump j))).starts ≡ v.starts
fall_starts j v None = refl
fall_starts j v (Some o) = refl

pub fall_none : (j : ℕ) (v : Work) (n : Option Open) → v.now ≡ n → (when_open n v (λ o. close v o (Jump j))).now ≡ None
fall_none j v None e = e
fall_none j v (Some o) e = refl

pub join_ends : (kinds : List CellKind) (label : ℕ) (ways : List CellState) (w : Work) → (join_work kinds label ways w).ends ≡ w.ends
join_ends kinds label [] w = refl
join_ends kinds label (way ∷ ways) w = refl

pub join_starts : (kinds : List CellKind) (label : ℕ) (ways : List CellState) (w : Work) → (join_work kinds label ways w).starts ≡ w.starts
join_starts kinds label [] w = refl
join_starts kinds label (way ∷ ways) w = refl

pub leave_none : (v : Work) (n : Option Open) → v.now ≡ n → (when_open n v (leave_work 0 v)).now ≡ None
leave_none v None e = e
leave_none v (Some o) e = refl

pub leave_starts : (v : Work) (n : Option Open) → (when_open n v (leave_work 0 v)).starts ≡ v.starts
leave_starts v None = refl
leave_starts v (Some o) = refl

-- ---- the ways through statements, as truth values

-- the exits of a body, as those of its block or loop
abbrev pub from_inside : ℕ → Exit
from_inside zero = Falls
from_inside (suc k) = Leaves k

seq_open : (p q r t u b m n : Bool) → (p || (q && (r || (t && b)))) ≡ true → u ≡ true → ((m || ((u && p) || (r && q))) || ((n || (t && q)) && b)) ≡ true
seq_open p q r t u b m n e f = ⊎_elim (λ h. or_left (m || ((u && p) || (r && q))) ((n || (t && q)) && b) (or_right m ((u && p) || (r && q)) (or_left (u && p) (r && q) (and_both u p f h)))) (λ h.
    let g = and_cases q (r || (t && b)) h in
    ⊎_elim (λ i. or_left (m || ((u && p) || (r && q))) ((n || (t && q)) && b) (or_right m ((u && p) || (r && q)) (or_right (u && p) (r && q) (and_both r q i g.0)))) (λ i.
    let j = and_cases t b i in
    or_right (m || ((u && p) || (r && q))) ((n || (t && q)) && b) (and_both (n || (t && q)) b (or_right n (t && q) (and_both t q j.0 g.0)) j.1)) (or_cases r (t && b) g.1)) (or_cases p (q && (r || (t && b))) e)

-- more ways, each with its own
wider : (p q p' q' b : Bool) → (p ≡ true → p' ≡ true) → (q ≡ true → q' ≡ true) → (p || (q && b)) ≡ true → (p' || (q' && b)) ≡ true
wider p q p' q' b f g e = ⊎_elim (λ h. or_left p' (q' && b) (f h)) (λ h. let i = and_cases q b h in or_right p' (q' && b) (and_both q' b (g i.0) i.1)) (or_cases p (q && b) e)

-- of a loop's body from its start, where the cell may be open there by a way back
loop_open : (p q r b : Bool) → (p || (q && (b || r))) ≡ true → ((p || (q && r)) || (q && b)) ≡ true
loop_open p q r b e = ⊎_elim (λ h. or_left (p || (q && r)) (q && b) (or_left p (q && r) h)) (λ h.
    let g = and_cases q (b || r) h in
    ⊎_elim (λ i. or_right (p || (q && r)) (q && b) (and_both q b g.0 i)) (λ i. or_left (p || (q && r)) (q && b) (or_right p (q && r) (and_both q r g.0 i))) (or_cases b r g.1)) (or_cases p (q && (b || r)) e)

-- ---- one operand

-- the exit is reached, and the operand is y there unless p
abbrev pub Good : Operand → Bool → Bool → Operand → Type 0
Good y r p o = (r ≡ true) × ((o ≡ y) ⊎ (p ≡ true))

all_or : (y : Operand) (c : ℕ) (r p : Bool) (ways : List CellState) → AllByRecursion (λ (way : CellState). Good y r p (operand_at way c)) ways → AllKeep c y ways ⊎ (p ≡ true)
all_or y c r p [] a = inl tt
all_or y c r p (w ∷ ways) a = ⊎_elim (λ e. ⊎_elim (λ k. inl (e, k)) (λ h. inr h) (all_or y c r p ways a.1)) (λ h. inr h) a.0.1

abbrev pub NowGood : Operand → ℕ → Bool → Bool → Option Open → Type 0
NowGood y c r p None = Unit {0}
NowGood y c r p (Some o) = Good y r p (operand_of o.values c)

join_now : (kinds : List CellKind) (y : Operand) (c : ℕ) (r p : Bool) (label : ℕ) (ways : List CellState) (w : Work) → w.now ≡ None → AllByRecursion (λ (way : CellState). Good y r p (operand_at way c)) ways → NowGood y c r p (join_work kinds label ways w).now
join_now kinds y c r p label [] w none a = subst (NowGood y c r p) (sym none) tt
join_now kinds y c r p label (way ∷ ways) w none a =
    let z : 0 + c ≡ c = omega arith in
    (a.0.0, ⊎_elim (λ k. inl (value_stays (ways_differ (way ∷ ways)) way.values 0 w.next c (ap (ways_differ (way ∷ ways)) z ∙ differ_keep c y way ways k) ∙ k.0)) (λ h. inr h) (all_or y c r p (way ∷ ways) a))

pub fallen_good : (y : Operand) (c : ℕ) (r p : Bool) (v : Work) (n : Option Open) → NowGood y c r p n → AllByRecursion (λ (way : CellState). Good y r p (operand_at way c)) (fall_ways v n)
fallen_good y c r p v None a = tt
fallen_good y c r p v (Some o) a = (a, tt)

not_eq : (k c : ℕ) → nat_eq k c ≡ false → c ≢ k
not_eq k c e h = cc (e, eq-eqb k c (sym h))

-- ---- the constant 0

zero_node : (tree : ℕ → Expr) (node : Option CoreExpr) (o : Operand) → is_zero (node_expr tree node) ≡ true → IsConstant node o → o ≡ Fixed (pos 0)
zero_node tree None o z k = absurd (cc z)
zero_node tree (Some (CellNode c)) o z k = absurd (cc z)
zero_node tree (Some (TruthNode true)) o z k = absurd (cc z)
zero_node tree (Some (TruthNode false)) o z k = k
zero_node tree (Some (NumberNode (pos zero))) o z k = k
zero_node tree (Some (NumberNode (pos (suc n)))) o z k = absurd (cc z)
zero_node tree (Some (NumberNode (negsuc n))) o z k = absurd (cc z)
zero_node tree (Some (OpNode op a b)) o z k = absurd (cc z)
zero_node tree (Some (WidenNode a)) o z k = absurd (cc z)
zero_node tree (Some (NarrowNode a)) o z k = absurd (cc z)
zero_node tree (Some (ChooseNode test a b)) o z k = absurd (cc z)

zero_constant : (exprs : List CoreExpr) (e : ℕ) (o : Operand) → is_zero (expr_of exprs e) ≡ true → IsConstant (slice_get exprs e) o → o ≡ Fixed (pos 0)
unfolding expr_of
zero_constant exprs e o z k = zero_node (expr_within exprs e) (slice_get exprs e) o z k

module _ (core : Core) (c : ℕ) (y : Operand) (any : Bool) where
  -- whether the cell may have another operand than y at an exit, where b says so of the start
  abbrev pub open_at : Stmt → Bool → Exit → Bool
  open_at s b x = stores any core.exprs s c x || (passes s c x && b)

  abbrev pub At : Stmt → Bool → Exit → Operand → Type 0
  At s b x o = Good y (reaches s x) (open_at s b x) o

  abbrev pub NowAt : Stmt → Bool → Option Open → Type 0
  NowAt s b n = NowGood y c (reaches s Falls) (open_at s b Falls) n

  abbrev pub BeginsAt : Bool → Option Open → Type 0
  BeginsAt b None = Unit {0}
  BeginsAt b (Some o) = (operand_of o.values c ≡ y) ⊎ (b ≡ true)

  pub record Flow (s : Stmt) (b : Bool) (w v : Work) : Type 0 where
    pub now : NowAt s b v.now
    pub ends : Added (λ k way. At s b (Leaves k) (operand_at way c)) w.ends v.ends
    pub starts : Added (λ k way. At s b (Agains k) (operand_at way c)) w.starts v.starts

  -- either body of a choice
  pub if_left : (test : ℕ) (a d : Stmt) (b : Bool) (x : Exit) (o : Operand) → At a b x o → At (If test a d) b x o
  if_left test a d b x o h = (or_left (reaches a x) (reaches d x) h.0, ⊎_elim (λ i. inl i) (λ i. inr (wider (stores any core.exprs a c x) (passes a c x) (stores any core.exprs (If test a d) c x) (passes (If test a d) c x) b (or_left (stores any core.exprs a c x) (stores any core.exprs d c x)) (or_left (passes a c x) (passes d c x)) i)) h.1)

  pub if_right : (test : ℕ) (a d : Stmt) (b : Bool) (x : Exit) (o : Operand) → At d b x o → At (If test a d) b x o
  if_right test a d b x o h = (or_right (reaches a x) (reaches d x) h.0, ⊎_elim (λ i. inl i) (λ i. inr (wider (stores any core.exprs d c x) (passes d c x) (stores any core.exprs (If test a d) c x) (passes (If test a d) c x) b (or_right (stores any core.exprs a c x) (stores any core.exprs d c x)) (or_right (passes a c x) (passes d c x)) i)) h.1)

  module _ (coder : Coder) (constants : (exprs : List ℕ) (values : List Operand) (next : ℕ) → AreConstant core.exprs exprs (coder exprs values next).operands) (zero_is : (e : ℕ) (o : Operand) → (any || not (is_zero (expr_of core.exprs e))) ≡ false → IsConstant (slice_get core.exprs e) o → o ≡ y) (zero_y : any ≡ false → Fixed (pos 0) ≡ y) (header : (a : Stmt) (o : Operand) (b : Bool) → (o ≡ y) ⊎ (b ≡ true) → needs_phi core.exprs a o c ≡ true → (b || stores any core.exprs a c (Agains 0)) ≡ true) where
    flow_when : (s : Stmt) (b : Bool) (n : Option Open) (w : Work) (f : Open → Work) → w.now ≡ n → BeginsAt b w.now → ((o : Open) → (operand_of o.values c ≡ y) ⊎ (b ≡ true) → Flow s b w (f o)) → Flow s b w (when_open n w f)
    flow_when s b None w f e st next = record { now = subst (NowAt s b) (sym e) tt; ends = added_refl _ w.ends; starts = added_refl _ w.starts }
    flow_when s b (Some o) w f e st next = next o (subst (BeginsAt b) e st)

    -- ---- one behind the other

    seq_first : (a d : Stmt) (b : Bool) (x : Exit) (o : Operand) → is_fall x ≡ false → At a b x o → At (Seq a d) b x o
    seq_first a d b x o f h =
        let nf : not (is_fall x) ≡ true = ap not f in
        (or_left (not (is_fall x) && reaches a x) (reaches a Falls && reaches d x) (and_both (not (is_fall x)) (reaches a x) nf h.0), ⊎_elim (λ e. inl e) (λ e. inr (wider (stores any core.exprs a c x) (passes a c x) (stores any core.exprs (Seq a d) c x) (passes (Seq a d) c x) b (λ i. or_left (not (is_fall x) && stores any core.exprs a c x) ((reaches a Falls && stores any core.exprs d c x) || (stores any core.exprs a c Falls && passes d c x)) (and_both (not (is_fall x)) (stores any core.exprs a c x) nf i)) (λ i. or_left (not (is_fall x) && passes a c x) (passes a c Falls && passes d c x) (and_both (not (is_fall x)) (passes a c x) nf i)) e)) h.1)

    seq_second : (a d : Stmt) (b : Bool) (x : Exit) (o : Operand) → reaches a Falls ≡ true → At d (open_at a b Falls) x o → At (Seq a d) b x o
    seq_second a d b x o r h = (or_right (not (is_fall x) && reaches a x) (reaches a Falls && reaches d x) (and_both (reaches a Falls) (reaches d x) r h.0), ⊎_elim (λ e. inl e) (λ e. inr (seq_open (stores any core.exprs d c x) (passes d c x) (stores any core.exprs a c Falls) (passes a c Falls) (reaches a Falls) b (not (is_fall x) && stores any core.exprs a c x) (not (is_fall x) && passes a c x) e r)) h.1)

    seq_now : (a d : Stmt) (b : Bool) (n : Option Open) → reaches a Falls ≡ true → NowAt d (open_at a b Falls) n → NowAt (Seq a d) b n
    seq_now a d b None r h = tt
    seq_now a d b (Some o) r h = seq_second a d b Falls (operand_of o.values c) r h

    seq_flow : (a d : Stmt) (b : Bool) (w u : Work) (n : Option Open) → u.now ≡ n → Flow a b w u → (BeginsAt (open_at a b Falls) u.now → Flow d (open_at a b Falls) u (lower_of core coder d u)) → Flow (Seq a d) b w (lower_of core coder d u)
    seq_flow a d b w u None e fa fd = subst (λ (v : Work). Flow (Seq a d) b w v) (sym (dead core coder d u e)) (record { now = subst (NowAt (Seq a d) b) (sym e) tt; ends = added_map _ _ w.ends u.ends (λ k way h. seq_first a d b (Leaves k) (operand_at way c) refl h) fa.ends; starts = added_map _ _ w.starts u.starts (λ k way h. seq_first a d b (Agains k) (operand_at way c) refl h) fa.starts })
    seq_flow a d b w u (Some o) e fa fd =
        let at = subst (NowAt a b) e fa.now in
        let second = fd (subst (BeginsAt (open_at a b Falls)) (sym e) at.1) in
        let v = lower_of core coder d u in
        record {
          now = seq_now a d b v.now at.0 second.now;
          ends = added_then _ w.ends u.ends v.ends (added_map _ _ w.ends u.ends (λ k way h. seq_first a d b (Leaves k) (operand_at way c) refl h) fa.ends) (added_map _ _ u.ends v.ends (λ k way h. seq_second a d b (Leaves k) (operand_at way c) at.0 h) second.ends);
          starts = added_then _ w.starts u.starts v.starts (added_map _ _ w.starts u.starts (λ k way h. seq_first a d b (Agains k) (operand_at way c) refl h) fa.starts) (added_map _ _ u.starts v.starts (λ k way h. seq_second a d b (Agains k) (operand_at way c) at.0 h) second.starts);
        }

    -- ---- choices

    sides_flow : (s first second : Stmt) (b : Bool) (w : Work) (label : ℕ) (v u f : Work) (n : Option Open) → v.now ≡ n → f.ends ≡ v.ends → f.starts ≡ v.starts → ((x : Exit) (o : Operand) → At first b x o → At s b x o) → ((x : Exit) (o : Operand) → At second b x o → At s b x o) → Added (λ k way. At first b (Leaves k) (operand_at way c)) w.ends v.ends → Added (λ k way. At first b (Agains k) (operand_at way c)) w.starts v.starts → NowAt first b v.now → Flow second b f u → Flow s b w (join_bodies core.cells label (fall_ways v n) u)
    sides_flow s first second b w label v u f n is fe fh i1 i2 ae ah na fu =
        let ends : Added (λ k way. At s b (Leaves k) (operand_at way c)) w.ends u.ends = added_then _ w.ends v.ends u.ends (added_map _ _ w.ends v.ends (λ k way. i1 (Leaves k) (operand_at way c)) ae) (subst (λ (l : List Level). Added (λ k way. At s b (Leaves k) (operand_at way c)) l u.ends) fe (added_map _ _ f.ends u.ends (λ k way. i2 (Leaves k) (operand_at way c)) fu.ends)) in
        let starts : Added (λ k way. At s b (Agains k) (operand_at way c)) w.starts u.starts = added_then _ w.starts v.starts u.starts (added_map _ _ w.starts v.starts (λ k way. i1 (Agains k) (operand_at way c)) ah) (subst (λ (l : List Level). Added (λ k way. At s b (Agains k) (operand_at way c)) l u.starts) fh (added_map _ _ f.starts u.starts (λ k way. i2 (Agains k) (operand_at way c)) fu.starts)) in
        at n is ends starts (now_more u.now fu.now)
      where
        now_more : (n : Option Open) → NowAt second b n → NowAt s b n
        now_more None h = tt
        now_more (Some o) h = i2 Falls (operand_of o.values c) h

        at : (n : Option Open) → v.now ≡ n → Added (λ k way. At s b (Leaves k) (operand_at way c)) w.ends u.ends → Added (λ k way. At s b (Agains k) (operand_at way c)) w.starts u.starts → NowAt s b u.now → Flow s b w (join_bodies core.cells label (fall_ways v n) u)
        at None e ends starts nu = record { now = nu; ends = ends; starts = starts }
        at (Some p) e ends starts nu =
            let ways = way_of v p ∷ fall_ways u u.now in
            let x = fall_work label u in
            let first_good = i1 Falls (operand_of p.values c) (subst (NowAt first b) e na) in
            record {
              now = join_now core.cells y c (reaches s Falls) (open_at s b Falls) label ways x (fall_none label u u.now refl) (first_good, fallen_good y c (reaches s Falls) (open_at s b Falls) u u.now nu);
              ends = subst (λ (l : List Level). Added (λ k way. At s b (Leaves k) (operand_at way c)) w.ends l) (sym (join_ends core.cells label ways x ∙ fall_ends label u u.now)) ends;
              starts = subst (λ (l : List Level). Added (λ k way. At s b (Agains k) (operand_at way c)) w.starts l) (sym (join_starts core.cells label ways x ∙ fall_starts label u u.now)) starts;
            }

    -- ---- blocks and loops

    -- what falls off the end of a body leaves it
    body_ends : (a s : Stmt) (b b' : Bool) (w v : Work) (n : Option Open) → v.now ≡ n → ((o : Operand) → At a b' Falls o → At s b Falls o) → ((k : ℕ) (o : Operand) → At a b' (Leaves k) o → At s b (from_inside k) o) → Flow a b' w v → Added (λ k way. At s b (from_inside k) (operand_at way c)) w.ends (when_open n v (leave_work 0 v)).ends
    body_ends a s b b' w v None e f g h = added_map _ _ w.ends v.ends (λ k way. g k (operand_at way c)) h.ends
    body_ends a s b b' w v (Some o) e f g h = added_then _ w.ends v.ends (add_way v.ends 0 (way_of v o)) (added_map _ _ w.ends v.ends (λ k way. g k (operand_at way c)) h.ends) (added_way _ v.ends 0 (way_of v o) (f (operand_of o.values c) (subst (NowAt a b') e h.now)))

    end_flow : (s : Stmt) (b : Bool) (ls : List Level) (l0 : Level) (ws : List Level) (v : Work) → l0.ways ≡ [] → v.now ≡ None → Added (λ k way. At s b (from_inside k) (operand_at way c)) (l0 ∷ ws) ls → NowAt s b (close_end core.cells ls v).now × Added (λ k way. At s b (Leaves k) (operand_at way c)) ws (close_end core.cells ls v).ends × ((close_end core.cells ls v).starts ≡ v.starts)
    end_flow s b [] l0 ws v none n a = absurd a
    end_flow s b (l ∷ ls) l0 ws v none n a =
        let ways : l.ways ≡ a.0.0 = a.0.1 ∙ ap (λ (z : List CellState). z ++ a.0.0) none in
        let x = record v { ends = ls } in
        (join_now core.cells y c (reaches s Falls) (open_at s b Falls) l.label l.ways x n (subst (AllByRecursion (λ (way : CellState). At s b Falls (operand_at way c))) (sym ways) a.0.2), subst (λ (k : List Level). Added (λ k way. At s b (Leaves k) (operand_at way c)) ws k) (sym (join_ends core.cells l.label l.ways x)) a.1, join_starts core.cells l.label l.ways x)

    block_at : (a : Stmt) (b : Bool) (k : ℕ) (o : Operand) → At a b (Leaves k) o → At (Block a) b (from_inside k) o
    block_at a b zero o h = (or_right (reaches a Falls) (reaches a (Leaves 0)) h.0, ⊎_elim (λ i. inl i) (λ i. inr (wider (stores any core.exprs a c (Leaves 0)) (passes a c (Leaves 0)) (stores any core.exprs (Block a) c Falls) (passes (Block a) c Falls) b (or_right (stores any core.exprs a c Falls) (stores any core.exprs a c (Leaves 0))) (or_right (passes a c Falls) (passes a c (Leaves 0))) i)) h.1)
    block_at a b (suc k) o h = h

    block_falls : (a : Stmt) (b : Bool) (o : Operand) → At a b Falls o → At (Block a) b Falls o
    block_falls a b o h = (or_left (reaches a Falls) (reaches a (Leaves 0)) h.0, ⊎_elim (λ i. inl i) (λ i. inr (wider (stores any core.exprs a c Falls) (passes a c Falls) (stores any core.exprs (Block a) c Falls) (passes (Block a) c Falls) b (or_left (stores any core.exprs a c Falls) (stores any core.exprs a c (Leaves 0))) (or_left (passes a c Falls) (passes a c (Leaves 0))) i)) h.1)

    abbrev loop_stores : Stmt → Exit → Bool
    loop_stores a x = stores any core.exprs a c x || (passes a c x && stores any core.exprs a c (Agains 0))

    loop_at : (a : Stmt) (b : Bool) (k : ℕ) (o : Operand) → At a (b || stores any core.exprs a c (Agains 0)) (Leaves k) o → At (Loop a) b (from_inside k) o
    loop_at a b zero o h = (or_right (reaches a Falls) (reaches a (Leaves 0)) h.0, ⊎_elim (λ i. inl i) (λ i. inr (wider (loop_stores a (Leaves 0)) (passes a c (Leaves 0)) (stores any core.exprs (Loop a) c Falls) (passes (Loop a) c Falls) b (or_right (loop_stores a Falls) (loop_stores a (Leaves 0))) (or_right (passes a c Falls) (passes a c (Leaves 0))) (loop_open (stores any core.exprs a c (Leaves 0)) (passes a c (Leaves 0)) (stores any core.exprs a c (Agains 0)) b i))) h.1)
    loop_at a b (suc k) o h = (h.0, ⊎_elim (λ i. inl i) (λ i. inr (loop_open (stores any core.exprs a c (Leaves (suc k))) (passes a c (Leaves (suc k))) (stores any core.exprs a c (Agains 0)) b i)) h.1)

    loop_falls : (a : Stmt) (b : Bool) (o : Operand) → At a (b || stores any core.exprs a c (Agains 0)) Falls o → At (Loop a) b Falls o
    loop_falls a b o h = (or_left (reaches a Falls) (reaches a (Leaves 0)) h.0, ⊎_elim (λ i. inl i) (λ i. inr (wider (loop_stores a Falls) (passes a c Falls) (stores any core.exprs (Loop a) c Falls) (passes (Loop a) c Falls) b (or_left (loop_stores a Falls) (loop_stores a (Leaves 0))) (or_left (passes a c Falls) (passes a c (Leaves 0))) (loop_open (stores any core.exprs a c Falls) (passes a c Falls) (stores any core.exprs a c (Agains 0)) b i))) h.1)

    loop_again : (a : Stmt) (b : Bool) (k : ℕ) (o : Operand) → At a (b || stores any core.exprs a c (Agains 0)) (Agains (suc k)) o → At (Loop a) b (Agains k) o
    loop_again a b k o h = (h.0, ⊎_elim (λ i. inl i) (λ i. inr (loop_open (stores any core.exprs a c (Agains (suc k))) (passes a c (Agains (suc k))) (stores any core.exprs a c (Agains 0)) b i)) h.1)

    -- the cell at a loop's start
    start_at : (a : Stmt) (values : List Operand) (next : ℕ) (b : Bool) → (operand_of values c ≡ y) ⊎ (b ≡ true) → (operand_of (values_for (start_needs core.exprs a values) values 0 next) c ≡ y) ⊎ ((b || stores any core.exprs a c (Agains 0)) ≡ true)
    start_at a values next b st = at (start_needs core.exprs a values c) refl
      where
        at : (n : Bool) → start_needs core.exprs a values c ≡ n → (operand_of (values_for (start_needs core.exprs a values) values 0 next) c ≡ y) ⊎ ((b || stores any core.exprs a c (Agains 0)) ≡ true)
        at true e = inr (header a (operand_of values c) b st e)
        at false e =
            let z : 0 + c ≡ c = omega arith in
            ⊎_elim (λ i. inl (value_stays (start_needs core.exprs a values) values 0 next c (ap (start_needs core.exprs a values) z ∙ e) ∙ i)) (λ i. inr (or_left b (stores any core.exprs a c (Agains 0)) i)) st

    close_start_flow : (needs : ℕ → Bool) (late next : ℕ) (hs : List Level) (v : Work) (P : ℕ → CellState → Type 0) (h0 : Level) (ws : List Level) → Added P (h0 ∷ ws) hs → Added (λ i. P (suc i)) ws (close_start core.cells needs late next hs v).starts × ((close_start core.cells needs late next hs v).ends ≡ v.ends) × ((close_start core.cells needs late next hs v).now ≡ v.now)
    close_start_flow needs late next [] v P h0 ws a = absurd a
    close_start_flow needs late next (h ∷ hs) v P h0 ws a = (a.1, refl, refl)

    -- ---- straight statements

    set_here : (xs : List Operand) (i : ℕ) (o : Operand) → o ≡ y → Fixed (pos 0) ≡ y → operand_of (slice_set xs i o) i ≡ y
    set_here [] i o e z = z
    set_here (x ∷ xs) zero o e z = e
    set_here (x ∷ xs) (suc i) o e z = set_here xs i o e z

    or_false : (a b : Bool) → (a || b) ≡ false → a ≡ false
    or_false true b e = absurd (cc e)
    or_false false b e = refl

    -- a pair, where `seen` says whether an earlier one named the cell and `before` what it was given
    pair_flow : (p : ℕ × ℕ) (o : Operand) (values : List Operand) (before : Option ℕ) (seen b : Bool) → IsConstant (slice_get core.exprs p.1) o → (operand_of values c ≡ y) ⊎ ((counts any core.exprs before || (not seen && b)) ≡ true) → (n : Bool) → nat_eq p.0 c ≡ n
        → (operand_of (slice_set values p.0 o) c ≡ y) ⊎ ((counts any core.exprs (if n then Some p.1 else before) || (not (seen || n) && b)) ≡ true)
    pair_flow p o values before seen b k h true e = at (any || not (is_zero (expr_of core.exprs p.1))) refl
      where
        at : (m : Bool) → (any || not (is_zero (expr_of core.exprs p.1))) ≡ m → (operand_of (slice_set values p.0 o) c ≡ y) ⊎ ((counts any core.exprs (Some p.1) || (not (seen || true) && b)) ≡ true)
        at true f = inr (or_left (any || not (is_zero (expr_of core.exprs p.1))) (not (seen || true) && b) f)
        at false f =
            let same : p.0 ≡ c = eqb-true p.0 c e in
            inl (ap (λ (j : ℕ). operand_of (slice_set values j o) c) same ∙ set_here values c o (zero_is p.1 o f k) (zero_y (or_false any (not (is_zero (expr_of core.exprs p.1))) f)))
    pair_flow p o values before seen b k h false e = at seen h
      where
        at : (seen : Bool) → (operand_of values c ≡ y) ⊎ ((counts any core.exprs before || (not seen && b)) ≡ true) → (operand_of (slice_set values p.0 o) c ≡ y) ⊎ ((counts any core.exprs before || (not (seen || false) && b)) ≡ true)
        at true h = ⊎_elim (λ i. inl (get_or-set_other values p.0 c o (Fixed (pos 0)) (not_eq p.0 c e) ∙ i)) (λ i. inr i) h
        at false h = ⊎_elim (λ i. inl (get_or-set_other values p.0 c o (Fixed (pos 0)) (not_eq p.0 c e) ∙ i)) (λ i. inr i) h

    pairs_flow : (pairs : List (ℕ × ℕ)) (operands values : List Operand) (before : Option ℕ) (seen b : Bool) → AreConstant core.exprs (pair_exprs pairs) operands → (operand_of values c ≡ y) ⊎ ((counts any core.exprs before || (not seen && b)) ≡ true)
        → (operand_of (stored pairs operands values) c ≡ y) ⊎ ((counts any core.exprs (given_last pairs c before) || (not (seen || names_cell pairs c) && b)) ≡ true)
    pairs_flow [] operands values before seen b k h = at seen h
      where
        at : (seen : Bool) → (operand_of values c ≡ y) ⊎ ((counts any core.exprs before || (not seen && b)) ≡ true) → (operand_of values c ≡ y) ⊎ ((counts any core.exprs before || (not (seen || false) && b)) ≡ true)
        at true h = h
        at false h = h
    pairs_flow (p ∷ pairs) [] values before seen b k h = absurd k
    pairs_flow (p ∷ pairs) (o ∷ operands) values before seen b k h =
        let one = pair_flow p o values before seen b k.0 h (nat_eq p.0 c) refl in
        let rest = pairs_flow pairs operands (slice_set values p.0 o) (if nat_eq p.0 c then Some p.1 else before) (seen || nat_eq p.0 c) b k.1 one in
        subst (λ (q : Bool). (operand_of (stored pairs operands (slice_set values p.0 o)) c ≡ y) ⊎ ((counts any core.exprs (given_last pairs c (if nat_eq p.0 c then Some p.1 else before)) || (not q && b)) ≡ true)) (or_assoc seen (nat_eq p.0 c) (names_cell pairs c)) rest
      where
        or_assoc : (a d e : Bool) → ((a || d) || e) ≡ (a || (d || e))
        or_assoc true d e = refl
        or_assoc false d e = refl

    -- a cell that takes an outcome
    outcome_flow : (values : List Operand) (k r : ℕ) (b : Bool) → (operand_of values c ≡ y) ⊎ (b ≡ true) → (n : Bool) → nat_eq k c ≡ n → (operand_of (slice_set values k (Register r)) c ≡ y) ⊎ ((n || (not n && b)) ≡ true)
    outcome_flow values k r b h true e = inr refl
    outcome_flow values k r b h false e = ⊎_elim (λ i. inl (get_or-set_other values k c (Register r) (Fixed (pos 0)) (not_eq k c e) ∙ i)) (λ i. inr i) h

    exit_open : (n b : Bool) (o : Operand) → n ≡ true → (o ≡ y) ⊎ (b ≡ true) → (o ≡ y) ⊎ ((false || (n && b)) ≡ true)
    exit_open n b o e h = ⊎_elim (λ i. inl i) (λ i. inr (and_both n b e i)) h

    -- ---- all statements

    either : (s : Stmt) (b r : Bool) (w x z : Work) → Flow s b w x → Flow s b w z → Flow s b w (if r then x else z)
    either s b true w x z f g = f
    either s b false w x z f g = g

    skip_now : (b : Bool) (n : Option Open) → BeginsAt b n → NowAt Skip b n
    skip_now b None h = tt
    skip_now b (Some o) h = (refl, h)

    pub flows : (s : Stmt) (b : Bool) (w : Work) → BeginsAt b w.now → Flow s b w (lower_of core coder s w)
    flows Skip b w st = record { now = skip_now b w.now st; ends = added_refl _ w.ends; starts = added_refl _ w.starts }
    flows (Seq a d) b w st = seq_flow a d b w (lower_of core coder a w) (lower_of core coder a w).now refl (flows a b w st) (λ h. flows d (open_at a b Falls) (lower_of core coder a w) h)
    flows (Assign pairs) b w st = flow_when (Assign pairs) b w.now w (assign_work coder pairs w) refl st (λ o h. record { now = (refl, pairs_flow pairs (coder (pair_exprs pairs) o.values w.next).operands o.values None false b (constants (pair_exprs pairs) o.values w.next) h); ends = added_refl _ w.ends; starts = added_refl _ w.starts })
    flows (Gate leaf) b w st = flow_when (Gate leaf) b w.now w (gate_work coder leaf w) refl st (λ o h. record { now = (refl, h); ends = added_refl _ w.ends; starts = added_refl _ w.starts })
    flows (Reset qubit) b w st = flow_when (Reset qubit) b w.now w (reset_work qubit w) refl st (λ o h. record { now = (refl, h); ends = added_refl _ w.ends; starts = added_refl _ w.starts })
    flows (Measure qubit None) b w st = flow_when (Measure qubit None) b w.now w (measure_work qubit None w) refl st (λ o h. record { now = (refl, h); ends = added_refl _ w.ends; starts = added_refl _ w.starts })
    flows (Measure qubit (Some k)) b w st = flow_when (Measure qubit (Some k)) b w.now w (measure_work qubit (Some k) w) refl st (λ o h. record { now = (refl, outcome_flow o.values k w.next b h (nat_eq k c) refl); ends = added_refl _ w.ends; starts = added_refl _ w.starts })
    flows (If test a d) b w st =
        flow_when (If test a d) b w.now w (λ o. if reaches d Falls then two_bodies core.cells (length w.targets) o.values (lower_of core coder a (open_first coder true test w o)) (lower_of core coder d) else two_bodies core.cells (length w.targets) o.values (lower_of core coder d (open_first coder false test w o)) (lower_of core coder a)) refl st (λ o h.
        let l = length w.targets in
        let v1 = lower_of core coder a (open_first coder true test w o) in
        let v2 = lower_of core coder d (open_first coder false test w o) in
        let g1 = open_second (l + 1) o.values (fall_work (l + 2) v1) in
        let g2 = open_second (l + 1) o.values (fall_work (l + 2) v2) in
        let fa1 = flows a b (open_first coder true test w o) h in
        let fd1 = flows d b g1 h in
        let fd2 = flows d b (open_first coder false test w o) h in
        let fa2 = flows a b g2 h in
        either (If test a d) b (reaches d Falls) w (two_bodies core.cells l o.values v1 (lower_of core coder d)) (two_bodies core.cells l o.values v2 (lower_of core coder a))
        (sides_flow (If test a d) a d b w (l + 2) v1 (lower_of core coder d g1) g1 v1.now refl (fall_ends (l + 2) v1 v1.now) (fall_starts (l + 2) v1 v1.now) (if_left test a d b) (if_right test a d b) fa1.ends fa1.starts fa1.now fd1)
        (sides_flow (If test a d) d a b w (l + 2) v2 (lower_of core coder a g2) g2 v2.now refl (fall_ends (l + 2) v2 v2.now) (fall_starts (l + 2) v2 v2.now) (if_right test a d b) (if_left test a d b) fd2.ends fd2.starts fd2.now fa2))
    flows (Block a) b w st = flow_when (Block a) b w.now w (λ o. let v = leave_zero (lower_of core coder a (open_end w)) in close_end core.cells v.ends v) refl st (λ o h.
        let w1 = open_end w in
        let u = lower_of core coder a w1 in
        let v = leave_zero u in
        let f = flows a b w1 st in
        let ends = body_ends a (Block a) b b w1 u u.now refl (block_falls a b) (block_at a b) f in
        let r = end_flow (Block a) b v.ends (record { label = length w.targets; block = 0; ways = [] }) w.ends v refl (leave_none u u.now refl) ends in
        record { now = r.0; ends = r.1; starts = subst (λ (l : List Level). Added (λ k way. At (Block a) b (Agains k) (operand_at way c)) w.starts l) (sym (r.2 ∙ leave_starts u u.now)) f.starts })
    flows (Loop a) b w st = flow_when (Loop a) b w.now w (λ o. let needs = start_needs core.exprs a o.values in let v = leave_zero (lower_of core coder a (open_loop core.cells needs w o)) in close_end core.cells v.ends (close_start core.cells needs (length w.lates) w.next v.starts v)) refl st (λ o h.
        let needs = start_needs core.exprs a o.values in
        let b' = b || stores any core.exprs a c (Agains 0) in
        let w1 = open_loop core.cells needs w o in
        let u = lower_of core coder a w1 in
        let v = leave_zero u in
        let f = flows a b' w1 (start_at a o.values w.next b h) in
        let ends = body_ends a (Loop a) b b' w1 u u.now refl (loop_falls a b) (loop_at a b) f in
        let eh = close_start_flow needs (length w.lates) w.next v.starts v (λ k way. At a b' (Agains k) (operand_at way c)) (record { label = length w.targets; block = length w.done + 1; ways = way_of w o ∷ [] }) w.starts (subst (λ (l : List Level). Added (λ k way. At a b' (Agains k) (operand_at way c)) w1.starts l) (sym (leave_starts u u.now)) f.starts) in
        let v2 = close_start core.cells needs (length w.lates) w.next v.starts v in
        let r = end_flow (Loop a) b v.ends (record { label = length w.targets + 1; block = 0; ways = [] }) w.ends v2 refl (eh.2 ∙ leave_none u u.now refl) ends in
        record { now = r.0; ends = r.1; starts = subst (λ (l : List Level). Added (λ k way. At (Loop a) b (Agains k) (operand_at way c)) w.starts l) (sym r.2) (added_map _ _ w.starts v2.starts (λ k way. loop_again a b k (operand_at way c)) eh.0) })
    flows (Leave k) b w st = flow_when (Leave k) b w.now w (leave_work k w) refl st (λ o h. record { now = tt; ends = added_way _ w.ends k (way_of w o) (eq-eqb k k refl, exit_open (nat_eq k k) b (operand_of o.values c) (eq-eqb k k refl) h); starts = added_refl _ w.starts })
    flows (Again k) b w st = flow_when (Again k) b w.now w (again_work k w) refl st (λ o h. record { now = tt; ends = added_refl _ w.ends; starts = added_way _ w.starts k (way_of w o) (eq-eqb k k refl, exit_open (nat_eq k k) b (operand_of o.values c) (eq-eqb k k refl) h) })

    -- the ways to the end of a block or loop
    pub block_ends : (a : Stmt) (b : Bool) (w : Work) → BeginsAt b w.now → Added (λ k way. At (Block a) b (from_inside k) (operand_at way c)) (open_end w).ends (leave_zero (lower_of core coder a (open_end w))).ends
    block_ends a b w st = let u = lower_of core coder a (open_end w) in body_ends a (Block a) b b (open_end w) u u.now refl (block_falls a b) (block_at a b) (flows a b (open_end w) st)

    pub loop_ends : (a : Stmt) (b : Bool) (w : Work) (o : Open) → (operand_of o.values c ≡ y) ⊎ (b ≡ true) → Added (λ k way. At (Loop a) b (from_inside k) (operand_at way c)) (open_loop core.cells (start_needs core.exprs a o.values) w o).ends (leave_zero (lower_of core coder a (open_loop core.cells (start_needs core.exprs a o.values) w o))).ends
    loop_ends a b w o h =
        let w1 = open_loop core.cells (start_needs core.exprs a o.values) w o in
        let u = lower_of core coder a w1 in
        let b' = b || stores any core.exprs a c (Agains 0) in
        body_ends a (Loop a) b b' w1 u u.now refl (loop_falls a b) (loop_at a b) (flows a b' w1 (start_at a o.values w.next b h))

-- ---- two uses: a cell that no way assigns keeps its operand, and one that is not open is the constant 0

abbrev pub FixesConstants : Core → Coder → Type 0
FixesConstants core coder = (exprs : List ℕ) (values : List Operand) (next : ℕ) → AreConstant core.exprs exprs (coder exprs values next).operands

keep_header : (core : Core) (c : ℕ) (y : Operand) (a : Stmt) (o : Operand) (b : Bool) → (o ≡ y) ⊎ (b ≡ true) → needs_phi core.exprs a o c ≡ true → (b || stores true core.exprs a c (Agains 0)) ≡ true
keep_header core c y a o b st n = or_right b (stores true core.exprs a c (Agains 0)) (and_cases (stores true core.exprs a c (Agains 0)) (not (same_operand o (Fixed (pos 0))) || stores false core.exprs a c (Agains 0)) n).0

pub keep_flows : (core : Core) (coder : Coder) → FixesConstants core coder → (c : ℕ) (y : Operand) (s : Stmt) (b : Bool) (w : Work) → BeginsAt core c y true b w.now → Flow core c y true s b w (lower_of core coder s w)
keep_flows core coder constants c y s b w st =
    flows core c y true coder constants (λ e o h k. absurd (cc h)) (λ h. absurd (cc h)) (keep_header core c y) s b w st

not_zero : (o : Operand) → not (same_operand o (Fixed (pos 0))) ≡ true → o ≡ Fixed (pos 0) → ⊥
not_zero o h e = let t : not (same_operand (Fixed (pos 0)) (Fixed (pos 0))) ≡ true = subst (λ (p : Operand). not (same_operand p (Fixed (pos 0))) ≡ true) e h in absurd (cc t)

pub zero_header : (core : Core) (c : ℕ) (a : Stmt) (o : Operand) (b : Bool) → (o ≡ Fixed (pos 0)) ⊎ (b ≡ true) → needs_phi core.exprs a o c ≡ true → (b || stores false core.exprs a c (Agains 0)) ≡ true
zero_header core c a o b st n =
    let g = (and_cases (stores true core.exprs a c (Agains 0)) (not (same_operand o (Fixed (pos 0))) || stores false core.exprs a c (Agains 0)) n).1 in
    ⊎_elim (λ h. ⊎_elim (λ e. absurd (not_zero o h e)) (λ e. or_left b (stores false core.exprs a c (Agains 0)) e) st) (λ h. or_right b (stores false core.exprs a c (Agains 0)) h) (or_cases (not (same_operand o (Fixed (pos 0)))) (stores false core.exprs a c (Agains 0)) g)

pub zero_flows : (core : Core) (coder : Coder) → FixesConstants core coder → (c : ℕ) (s : Stmt) (b : Bool) (w : Work) → BeginsAt core c (Fixed (pos 0)) false b w.now → Flow core c (Fixed (pos 0)) false s b w (lower_of core coder s w)
zero_flows core coder constants c s b w st =
    flows core c (Fixed (pos 0)) false coder constants (λ e o h k. zero_constant core.exprs e o (flip (is_zero (expr_of core.exprs e)) h) k) (λ h. refl) (zero_header core c) s b w st

-- the ways to the end of a block or loop, and the cells at the start of a loop
pub keep_block : (core : Core) (coder : Coder) → FixesConstants core coder → (c : ℕ) (y : Operand) (a : Stmt) (b : Bool) (w : Work) → BeginsAt core c y true b w.now → Added (λ k way. At core c y true (Block a) b (from_inside k) (operand_at way c)) (open_end w).ends (leave_zero (lower_of core coder a (open_end w))).ends
keep_block core coder constants c y a b w st = block_ends core c y true coder constants (λ e o h k. absurd (cc h)) (λ h. absurd (cc h)) (keep_header core c y) a b w st

pub zero_block : (core : Core) (coder : Coder) → FixesConstants core coder → (c : ℕ) (a : Stmt) (b : Bool) (w : Work) → BeginsAt core c (Fixed (pos 0)) false b w.now → Added (λ k way. At core c (Fixed (pos 0)) false (Block a) b (from_inside k) (operand_at way c)) (open_end w).ends (leave_zero (lower_of core coder a (open_end w))).ends
zero_block core coder constants c a b w st = block_ends core c (Fixed (pos 0)) false coder constants (λ e o h k. zero_constant core.exprs e o (flip (is_zero (expr_of core.exprs e)) h) k) (λ h. refl) (zero_header core c) a b w st

pub keep_loop : (core : Core) (coder : Coder) → FixesConstants core coder → (c : ℕ) (y : Operand) (a : Stmt) (b : Bool) (w : Work) (o : Open) → (operand_of o.values c ≡ y) ⊎ (b ≡ true) → Added (λ k way. At core c y true (Loop a) b (from_inside k) (operand_at way c)) (open_loop core.cells (start_needs core.exprs a o.values) w o).ends (leave_zero (lower_of core coder a (open_loop core.cells (start_needs core.exprs a o.values) w o))).ends
keep_loop core coder constants c y a b w o st = loop_ends core c y true coder constants (λ e o h k. absurd (cc h)) (λ h. absurd (cc h)) (keep_header core c y) a b w o st

pub zero_loop : (core : Core) (coder : Coder) → FixesConstants core coder → (c : ℕ) (a : Stmt) (b : Bool) (w : Work) (o : Open) → (operand_of o.values c ≡ Fixed (pos 0)) ⊎ (b ≡ true) → Added (λ k way. At core c (Fixed (pos 0)) false (Loop a) b (from_inside k) (operand_at way c)) (open_loop core.cells (start_needs core.exprs a o.values) w o).ends (leave_zero (lower_of core coder a (open_loop core.cells (start_needs core.exprs a o.values) w o))).ends
zero_loop core coder constants c a b w o st = loop_ends core c (Fixed (pos 0)) false coder constants (λ e o h k. zero_constant core.exprs e o (flip (is_zero (expr_of core.exprs e)) h) k) (λ h. refl) (zero_header core c) a b w o st

pub zero_start : (core : Core) (coder : Coder) → FixesConstants core coder → (c : ℕ) (a : Stmt) (values : List Operand) (next : ℕ) (b : Bool) → (operand_of values c ≡ Fixed (pos 0)) ⊎ (b ≡ true) → (operand_of (values_for (start_needs core.exprs a values) values 0 next) c ≡ Fixed (pos 0)) ⊎ ((b || stores false core.exprs a c (Agains 0)) ≡ true)
zero_start core coder constants c a values next b st = start_at core c (Fixed (pos 0)) false coder constants (λ e o h k. zero_constant core.exprs e o (flip (is_zero (expr_of core.exprs e)) h) k) (λ h. refl) (zero_header core c) a values next b st

-- where ways differ, the cell may be another
pub differ_open : (y : Operand) (c : ℕ) (r p : Bool) (ways : List CellState) → AllByRecursion (λ (way : CellState). Good y r p (operand_at way c)) ways → ways_differ ways c ≡ true → p ≡ true
differ_open y c r p [] a d = absurd (cc d)
differ_open y c r p (way ∷ ways) a d = ⊎_elim (λ k. absurd (cc (d, differ_keep c y way ways k))) (λ h. h) (all_or y c r p (way ∷ ways) a)

-- ---- the ways to the start of a loop have there what the loop was entered with, where the start has no phi

same_zero : (o : Operand) → not (same_operand o (Fixed (pos 0))) ≡ false → o ≡ Fixed (pos 0)
same_zero o e = operand_same o (Fixed (pos 0)) (flip (same_operand o (Fixed (pos 0))) e)

and_false : (a b : Bool) → (a && b) ≡ false → (a ≡ false) ⊎ (b ≡ false)
and_false true b e = inr e
and_false false b e = inl refl

both_false : (a b : Bool) → (a || b) ≡ false → (a ≡ false) × (b ≡ false)
both_false true b e = absurd (cc e)
both_false false b e = (refl, e)

-- of the innermost level
abbrev pub AtZero : (CellState → Type 0) → ℕ → CellState → Type 0
AtZero P zero way = P way
AtZero P (suc k) way = Unit {0}

-- with neither an entry nor a way back that is open
closed_start : (p q r : Bool) (y o : Operand) → r ≡ false → p ≡ false → (o ≡ y) ⊎ ((p || (q && (false || r))) ≡ true) → o ≡ y
closed_start true q r y o e f g = absurd (cc f)
closed_start false true true y o e f g = absurd (cc e)
closed_start false true false y o e f g = ⊎_elim (λ h. h) (λ h. absurd (cc h)) g
closed_start false false r y o e f g = ⊎_elim (λ h. h) (λ h. absurd (cc h)) g

pub starts_stay : (core : Core) (coder : Coder) → FixesConstants core coder → (a : Stmt) (w : Work) (o : Open) (i : ℕ) → start_needs core.exprs a o.values i ≡ false
    → Added (AtZero (λ (way : CellState). operand_at way i ≡ operand_of o.values i)) (open_loop core.cells (start_needs core.exprs a o.values) w o).starts (leave_zero (lower_of core coder a (open_loop core.cells (start_needs core.exprs a o.values) w o))).starts
starts_stay core coder constants a w o i e =
    let x = operand_of o.values i in
    let z : 0 + i ≡ i = omega arith in
    let w1 = open_loop core.cells (start_needs core.exprs a o.values) w o in
    let u = lower_of core coder a w1 in
    let stays = value_stays (start_needs core.exprs a o.values) o.values 0 w.next i (ap (start_needs core.exprs a o.values) z ∙ e) in
    let p = stores true core.exprs a i (Agains 0) in
    let q = stores false core.exprs a i (Agains 0) in
    subst (Added (AtZero (λ (way : CellState). operand_at way i ≡ x)) w1.starts) (sym (leave_starts u u.now)) (⊎_elim (λ f.
    let k = keep_flows core coder constants i x a (false || p) w1 (inl stays) in
    added_map (λ k way. At core i x true a (false || p) (Agains k) (operand_at way i)) (AtZero (λ (way : CellState). operand_at way i ≡ x)) w1.starts u.starts (keep_cases x (λ way. closed_start p (passes a i (Agains 0)) p x (operand_at way i) f f)) k.starts) (λ f.
    let g = both_false (not (same_operand x (Fixed (pos 0)))) q f in
    let zero_is = same_zero x g.0 in
    let k = zero_flows core coder constants i a (false || q) w1 (inl (stays ∙ zero_is)) in
    added_map (λ k way. At core i (Fixed (pos 0)) false a (false || q) (Agains k) (operand_at way i)) (AtZero (λ (way : CellState). operand_at way i ≡ x)) w1.starts u.starts (zero_cases x (λ way h. closed_start q (passes a i (Agains 0)) q (Fixed (pos 0)) (operand_at way i) g.1 g.1 h ∙ sym zero_is)) k.starts) (and_false p (not (same_operand x (Fixed (pos 0))) || q) e))
  where
    keep_cases : (x : Operand) → ((way : CellState) → (operand_at way i ≡ x) ⊎ ((stores true core.exprs a i (Agains 0) || (passes a i (Agains 0) && (false || stores true core.exprs a i (Agains 0)))) ≡ true) → operand_at way i ≡ x)
        → (k : ℕ) (way : CellState) → At core i x true a (false || stores true core.exprs a i (Agains 0)) (Agains k) (operand_at way i) → AtZero (λ (way : CellState). operand_at way i ≡ x) k way
    keep_cases x f zero way h = f way h.1
    keep_cases x f (suc k) way h = tt

    zero_cases : (x : Operand) → ((way : CellState) → (operand_at way i ≡ Fixed (pos 0)) ⊎ ((stores false core.exprs a i (Agains 0) || (passes a i (Agains 0) && (false || stores false core.exprs a i (Agains 0)))) ≡ true) → operand_at way i ≡ x)
        → (k : ℕ) (way : CellState) → At core i (Fixed (pos 0)) false a (false || stores false core.exprs a i (Agains 0)) (Agains k) (operand_at way i) → AtZero (λ (way : CellState). operand_at way i ≡ x) k way
    zero_cases x f zero way h = f way h.1
    zero_cases x f (suc k) way h = tt
