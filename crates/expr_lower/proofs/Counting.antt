-- How much code there is, and which registers it assigns.
use Rattle.std.proofs.Common.{◌≡◌, ℕ, zero, suc, ◌+◌, ◌<◌, ◌≤◌, ◌⊎◌, if◌then◌else◌, Bool, true, false, ◌&&◌, List, [], ◌∷◌, ◌++◌, length, get_or, Some, refl, sym, ap, ◌∙◌, subst, ⊎_elim, arith, length-append}
use Rattle.std.specs.Prelude.{slice_get}
use Rattle.std.specs.List.{AllByRecursion, flat_map}
use Rattle.std.proofs.lemmas.Bool.{cases_lt}
use Rattle.std.proofs.lemmas.Option.{slice_get-get_or}
use Rattle.qir_module.specs.declared.instruction.Operand.{Operand}
use Rattle.qir_module.specs.declared.instruction.Instr.{Instr}
use Rattle.qir_module.specs.declared.instruction.Instr.TheVariants.{Op, Zext, Trunc, Select}
use Rattle.qir_module.specs.Numbered.{CountsFrom, registers_of}
use Rattle.core_ir.specs.declared.expression.CellKind.{CellKind}
use Rattle.core_ir.specs.declared.expression.CoreExpr.{CoreExpr}
use Rattle.core_ir.specs.declared.expression.CoreExpr.TheVariants.{Cell as CellNode, Truth as TruthNode, Number as NumberNode, Op as OpNode, Widen as WidenNode, Narrow as NarrowNode, Choose as ChooseNode}
use Rattle.core_ir.specs.Size.{is_reached, is_working, count_from, working_nodes}
use Rattle.expr_lower.specs.declared.emit.Entry.{Entry}
use Rattle.expr_lower.specs.Emit.{found, entry_of, code_of, emit}
use Rattle.expr_lower.specs.Lowered.{reached_nodes}
use Rattle.expr_lower.specs.Order.{Rises, IsOrder}

-- how many of the numbers pass
abbrev passing : (ℕ → Bool) → List ℕ → ℕ
passing test [] = 0
passing test (k ∷ ks) = if test k then suc (passing test ks) else passing test ks

abbrev pub Inside : ℕ → ℕ → ℕ → Type 0
Inside low n k = (low ≤ k) × (k < low + n)

pub all_inside : (low n k : ℕ) (ks : List ℕ) → low ≤ k → AllByRecursion (λ y. k < y) ks → AllByRecursion (Inside low (suc n)) ks → AllByRecursion (Inside (suc low) n) ks
all_inside low n k [] l above inside = tt
all_inside low n k (j ∷ ks) l above inside = ((omega (arith, l, above.0), omega (arith, inside.0)), all_inside low n k ks l above.1 inside.1)

-- of a list that rises no more pass than of all numbers
count_list : (test : ℕ → Bool) (n low : ℕ) (ks : List ℕ) → Rises ks → AllByRecursion (Inside low n) ks → passing test ks ≤ count_from test low n
count_list test zero low [] rises inside = omega arith
count_list test zero low (k ∷ ks) rises inside = absurd (omega (arith, inside.0))
count_list test (suc n) low [] rises inside = omega arith
count_list test (suc n) low (k ∷ ks) rises inside =
    ⊎_elim (λ far. later (test low) (count_list test n (suc low) (k ∷ ks) rises ((omega (arith, far), omega (arith, inside.0)), all_inside low n k ks (omega (arith, far)) rises.0 inside.1)))
    (λ near. let same : k ≡ low = omega (arith, near, inside.0) in
    subst (λ (j : ℕ). (if test k then suc (passing test ks) else passing test ks) ≤ (if test j then suc (count_from test (suc low) n) else count_from test (suc low) n)) same
    (both (test k) (count_list test n (suc low) ks rises.1 (all_inside low n k ks (omega (arith, near, inside.0)) rises.0 inside.1))))
    (cases_lt low k)
  where
    later : (b : Bool) → passing test (k ∷ ks) ≤ count_from test (suc low) n → passing test (k ∷ ks) ≤ (if b then suc (count_from test (suc low) n) else count_from test (suc low) n)
    later true le = omega (arith, le)
    later false le = le

    both : (b : Bool) → passing test ks ≤ count_from test (suc low) n → (if b then suc (passing test ks) else passing test ks) ≤ (if b then suc (count_from test (suc low) n) else count_from test (suc low) n)
    both true le = omega (arith, le)
    both false le = le

pub inside_all : (n : ℕ) (ks : List ℕ) → AllByRecursion (λ k. k < n) ks → AllByRecursion (Inside 0 n) ks
inside_all n [] within = tt
inside_all n (k ∷ ks) within = ((omega arith, omega (arith, within.0)), inside_all n ks within.1)

all_pass : (test : ℕ → Bool) (ks : List ℕ) → AllByRecursion (λ k. test k ≡ true) ks → passing test ks ≡ length ks
all_pass test [] pass = refl
all_pass test (k ∷ ks) pass = ap (λ b. if b then suc (passing test ks) else passing test ks) pass.0 ∙ ap suc (all_pass test ks pass.1)

-- the order is no longer than the expressions that are reached
pub order_few : (exprs : List CoreExpr) (roots order : List ℕ) → IsOrder exprs roots order → length order ≤ reached_nodes exprs roots
order_few exprs roots order is =
    let most : passing (is_reached exprs roots) order ≤ reached_nodes exprs roots = count_list (is_reached exprs roots) (length exprs) 0 order is.rises (inside_all (length exprs) order is.within) in
    omega (arith, most, all_pass (is_reached exprs roots) order is.reached)

-- ---- the code

code_length : (memo : ℕ → Entry) (next : ℕ) (node : CoreExpr) → length (code_of memo next node) ≡ (if is_working (Some node) then 1 else 0)
code_length memo next (CellNode c) = refl
code_length memo next (TruthNode b) = refl
code_length memo next (NumberNode z) = refl
code_length memo next (OpNode op a b) = refl
code_length memo next (WidenNode a) = refl
code_length memo next (NarrowNode a) = refl
code_length memo next (ChooseNode test a b) = refl

abbrev Works : List CoreExpr → List ℕ → ℕ → Bool
Works exprs roots k = is_working (slice_get exprs k) && is_reached exprs roots k

emit_few : (exprs : List CoreExpr) (kinds : List CellKind) (cells : List Operand) (roots order rest : List ℕ) (done : List Entry) (next : ℕ)
    → AllByRecursion (λ k. k < length exprs) rest → AllByRecursion (λ k. is_reached exprs roots k ≡ true) rest
    → length (emit exprs kinds cells order rest done next).code ≤ passing (Works exprs roots) rest
emit_few exprs kinds cells roots order [] done next within reached = omega arith
emit_few exprs kinds cells roots order (k ∷ rest) done next within reached =
    let node = get_or exprs k (TruthNode false) in
    let code = code_of (found order done) next node in
    let more = (emit exprs kinds cells order rest (done ++ entry_of kinds cells (found order done) next node ∷ []) (next + length code)).code in
    let behind = emit_few exprs kinds cells roots order rest (done ++ entry_of kinds cells (found order done) next node ∷ []) (next + length code) within.1 reached.1 in
    let here : length code ≡ (if is_working (slice_get exprs k) then 1 else 0) = code_length (found order done) next node ∙ ap (λ o. if is_working o then 1 else 0) (sym (slice_get-get_or exprs k (TruthNode false) within.0)) in
    one (is_working (slice_get exprs k)) (is_reached exprs roots k) (length code) (length more) (length (code ++ more)) (length-append code more) here reached.0 behind
  where
    one : (works reach : Bool) (c m all : ℕ) → all ≡ c + m → c ≡ (if works then 1 else 0) → reach ≡ true → m ≤ passing (Works exprs roots) rest → all ≤ (if works && reach then suc (passing (Works exprs roots) rest) else passing (Works exprs roots) rest)
    one true true c m all sums is reach le = omega (arith, sums, is, le)
    one true false c m all sums is reach le = cc
    one false true c m all sums is reach le = omega (arith, sums, is, le)
    one false false c m all sums is reach le = omega (arith, sums, is, le)

pub code_few : (exprs : List CoreExpr) (kinds : List CellKind) (cells : List Operand) (roots order : List ℕ) (next : ℕ) → IsOrder exprs roots order → length (emit exprs kinds cells order order [] next).code ≤ working_nodes exprs roots
code_few exprs kinds cells roots order next is =
    let emitted : length (emit exprs kinds cells order order [] next).code ≤ passing (Works exprs roots) order = emit_few exprs kinds cells roots order order [] next is.within is.reached in
    let counted : passing (Works exprs roots) order ≤ working_nodes exprs roots = count_list (Works exprs roots) (length exprs) 0 order is.rises (inside_all (length exprs) order is.within) in
    omega (arith, emitted, counted)

emit_short : (exprs : List CoreExpr) (kinds : List CellKind) (cells : List Operand) (order rest : List ℕ) (done : List Entry) (next : ℕ) → length (emit exprs kinds cells order rest done next).code ≤ length rest
emit_short exprs kinds cells order [] done next = omega arith
emit_short exprs kinds cells order (k ∷ rest) done next =
    let node = get_or exprs k (TruthNode false) in
    let code = code_of (found order done) next node in
    let more = (emit exprs kinds cells order rest (done ++ entry_of kinds cells (found order done) next node ∷ []) (next + length code)).code in
    let behind = emit_short exprs kinds cells order rest (done ++ entry_of kinds cells (found order done) next node ∷ []) (next + length code) in
    let sums : length (code ++ more) ≡ length code + length more = length-append code more in
    one (is_working (Some node)) (length code) (code_length (found order done) next node) (length more) (length (code ++ more)) sums behind
  where
    one : (works : Bool) (c : ℕ) → c ≡ (if works then 1 else 0) → (m all : ℕ) → all ≡ c + m → m ≤ length rest → all ≤ suc (length rest)
    one true c is m all sums le = omega (arith, sums, is, le)
    one false c is m all sums le = omega (arith, sums, is, le)

-- no more instructions than expressions that are reached
pub code_short : (exprs exprs' : List CoreExpr) (kinds : List CellKind) (cells : List Operand) (roots order order' : List ℕ) (next : ℕ) (code : List Instr) → IsOrder exprs roots order → order' ≡ order → code ≡ (emit exprs' kinds cells order' order' [] next).code
    → length code ≤ reached_nodes exprs roots
code_short exprs exprs' kinds cells roots order order' next code is same code_is =
    let short : length (emit exprs' kinds cells order' order' [] next).code ≤ length order' = emit_short exprs' kinds cells order' order' [] next in
    omega (arith, short, ap length code_is, ap length same, order_few exprs roots order is)

-- ---- registers

abbrev pub RegistersFrom : ℕ → List Instr → Type 0
RegistersFrom next code = CountsFrom next (flat_map registers_of code) × (length (flat_map registers_of code) ≡ length code)

none_more : (next : ℕ) (more : List Instr) → RegistersFrom (next + 0) more → RegistersFrom next more
none_more next more from = let same : next + 0 ≡ next = omega arith in (subst (λ (n : ℕ). CountsFrom n (flat_map registers_of more)) same from.0, from.1)

one_more : (next : ℕ) (i : Instr) (more : List Instr) → registers_of i ≡ next ∷ [] → RegistersFrom (next + 1) more → RegistersFrom next (i ∷ more)
one_more next i more is from =
    let up : next + 1 ≡ suc next = omega arith in
    let rest : List ℕ = flat_map registers_of more in
    (subst (λ rs. CountsFrom next (rs ++ rest)) (sym is) (refl, subst (λ (n : ℕ). CountsFrom n rest) up from.0), ap (λ rs. length (rs ++ rest)) is ∙ ap suc from.1)

node_registers : (memo : ℕ → Entry) (next : ℕ) (node : CoreExpr) (more : List Instr) → RegistersFrom (next + length (code_of memo next node)) more → RegistersFrom next (code_of memo next node ++ more)
node_registers memo next (CellNode c) more from = none_more next more from
node_registers memo next (TruthNode b) more from = none_more next more from
node_registers memo next (NumberNode z) more from = none_more next more from
node_registers memo next (OpNode op a b) more from = one_more next (Op next op (memo a).truth (memo a).operand (memo b).operand) more refl from
node_registers memo next (WidenNode a) more from = one_more next (Zext next (memo a).operand) more refl from
node_registers memo next (NarrowNode a) more from = one_more next (Trunc next (memo a).operand) more refl from
node_registers memo next (ChooseNode test a b) more from = one_more next (Select next (memo a).truth (memo test).operand (memo a).operand (memo b).operand) more refl from

pub emit_registers : (exprs : List CoreExpr) (kinds : List CellKind) (cells : List Operand) (order rest : List ℕ) (done : List Entry) (next : ℕ) → RegistersFrom next (emit exprs kinds cells order rest done next).code
emit_registers exprs kinds cells order [] done next = (tt, refl)
emit_registers exprs kinds cells order (k ∷ rest) done next =
    let node = get_or exprs k (TruthNode false) in
    node_registers (found order done) next node (emit exprs kinds cells order rest (done ++ entry_of kinds cells (found order done) next node ∷ []) (next + length (code_of (found order done) next node))).code
    (emit_registers exprs kinds cells order rest (done ++ entry_of kinds cells (found order done) next node ∷ []) (next + length (code_of (found order done) next node)))
