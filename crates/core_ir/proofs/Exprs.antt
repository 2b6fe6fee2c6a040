-- An expression's tree is made of the trees of the expressions that it names, and its kind of their kinds.
use Rattle.std.proofs.Common.{◌≡◌, ℕ, zero, suc, ◌+◌, ◌<◌, ◌≤◌, Bool, true, false, if◌then◌else◌, List, length, get_or, Option, Some, None, refl, sym, ap, ◌∙◌, subst, arith, true≢false}
use Rattle.std.proofs.lemmas.Bool.{false≢true}
use Rattle.std.specs.Prelude.{slice_get, IsSome}
use Rattle.std.specs.List.{AllByRecursion}
use Rattle.std.proofs.lemmas.Option.{slice_get-get_or, slice_get_past}
use Rattle.qir_module.specs.declared.instruction.Opcode.{Opcode}
use Rattle.qir_module.specs.declared.instruction.Opcode.TheVariants.{And, Or, Xor}
use Rattle.core_ir.specs.declared.expression.CellKind.{CellKind}
use Rattle.core_ir.specs.declared.expression.CellKind.TheVariants.{Truth as TruthKind, Number as NumberKind}
use Rattle.core_ir.specs.declared.expression.CoreExpr.{CoreExpr}
use Rattle.core_ir.specs.declared.expression.CoreExpr.TheVariants.{Cell as CellNode, Truth as TruthNode, Number as NumberNode, Op as OpNode, Widen as WidenNode, Narrow as NarrowNode, Choose as ChooseNode}
use Rattle.core_ir.specs.declared.kind.Source.{Source}
use Rattle.core_ir.specs.declared.kind.Source.TheVariants.{Known, Same}
use Rattle.core_ir.specs.Kinds.{source_of, kind_number, node_kind}
use Rattle.core_ir.specs.Tree.{Expr, Op, Widen, Narrow, Choose, node_expr, expr_within, expr_of}
use Rattle.core_ir.specs.Laws.{NameEarlier}
use Rattle.core_ir.specs.Size.{operands_of}
use Rattle.core_ir.specs.WellFormed.{is_bitwise, is_comparison, op_kind, widen_kind, narrow_kind, choose_kind, kind_of, ExprFits, ExprsFit}

pub exprs_node_same : (t u : ℕ → Expr) (k : ℕ) (o : Option CoreExpr) → AllByRecursion (λ j. j < k) (operands_of o) → ((j : ℕ) → j < k → t j ≡ u j) → node_expr t o ≡ node_expr u o
exprs_node_same t u k None l e = refl
exprs_node_same t u k (Some (CellNode c)) l e = refl
exprs_node_same t u k (Some (TruthNode b)) l e = refl
exprs_node_same t u k (Some (NumberNode z)) l e = refl
exprs_node_same t u k (Some (OpNode op a b)) l e = ap (λ x. Op op x (t b)) (e a l.0) ∙ ap (λ x. Op op (u a) x) (e b l.1.0)
exprs_node_same t u k (Some (WidenNode a)) l e = ap Widen (e a l.0)
exprs_node_same t u k (Some (NarrowNode a)) l e = ap Narrow (e a l.0)
exprs_node_same t u k (Some (ChooseNode test a b)) l e =
    ap (λ x. Choose x (t a) (t b)) (e test l.0) ∙ ap (λ x. Choose (u test) x (t b)) (e a l.1.0) ∙ ap (λ x. Choose (u test) (u a) x) (e b l.1.1.0)

-- where there are levels enough, their number does not matter
pub enough : (exprs : List CoreExpr) (n : ℕ) → NameEarlier exprs n → (f g k : ℕ) → k < n → k < f → k < g → expr_within exprs f k ≡ expr_within exprs g k
enough exprs n w zero g k l lf lg = absurd (omega (arith, lf))
enough exprs n w (suc f) zero k l lf lg = absurd (omega (arith, lg))
enough exprs n w (suc f) (suc g) k l lf lg =
    exprs_node_same (expr_within exprs f) (expr_within exprs g) k (slice_get exprs k) (w k l)
    (λ j lt. enough exprs n w f g j (omega (arith, lt, l)) (omega (arith, lt, lf)) (omega (arith, lt, lg)))

pub unfold_expr : (exprs : List CoreExpr) (n k : ℕ) → NameEarlier exprs n → k < n → expr_of exprs k ≡ node_expr (expr_of exprs) (slice_get exprs k)
unfolding expr_of
unfold_expr exprs n k w l =
    exprs_node_same (expr_within exprs k) (expr_of exprs) k (slice_get exprs k) (w k l) (λ j lt. enough exprs n w k (suc j) j (omega (arith, lt, l)) lt (omega arith))

-- the same where the expression alone names smaller ones
pub unfold_next : (exprs : List CoreExpr) (k : ℕ) → NameEarlier exprs k → AllByRecursion (λ j. j < k) (operands_of (slice_get exprs k)) → expr_of exprs k ≡ node_expr (expr_of exprs) (slice_get exprs k)
unfolding expr_of
unfold_next exprs k w here =
    exprs_node_same (expr_within exprs k) (expr_of exprs) k (slice_get exprs k) here (λ j lt. enough exprs k w k (suc j) j lt lt (omega arith))

pub earlier_from_fit : (cells : List CellKind) (exprs : List CoreExpr) (n : ℕ) → ExprsFit cells exprs n → NameEarlier exprs n
earlier_from_fit cells exprs n fits k l = (fits k l).0

-- ---- kinds

kind_node : (cells : List CellKind) (tree : ℕ → Expr) (expr : CoreExpr) → kind_of cells (node_expr tree (Some expr)) ≡ node_kind cells (λ j. kind_of cells (tree j)) expr
kind_node cells tree (CellNode c) = refl
kind_node cells tree (TruthNode b) = refl
kind_node cells tree (NumberNode z) = refl
kind_node cells tree (OpNode op a b) = refl
kind_node cells tree (WidenNode a) = refl
kind_node cells tree (NarrowNode a) = refl
kind_node cells tree (ChooseNode test a b) = refl

pub unfold_kind : (cells : List CellKind) (exprs : List CoreExpr) (k : ℕ) (expr : CoreExpr) → NameEarlier exprs k → slice_get exprs k ≡ Some expr → AllByRecursion (λ j. j < k) (operands_of (Some expr))
    → kind_number cells exprs k ≡ node_kind cells (kind_number cells exprs) expr
unfold_kind cells exprs k expr w found here =
    ap (kind_of cells) (unfold_next exprs k w (subst (λ o. AllByRecursion (λ j. j < k) (operands_of o)) (sym found) here) ∙ ap (node_expr (expr_of exprs)) found) ∙ kind_node cells (expr_of exprs) expr

-- an expression that fits has the kind that its source says
abbrev pub SourceSays : List CellKind → List CoreExpr → ℕ → Source → Type 0
SourceSays cells exprs at (Known kind) = kind_number cells exprs at ≡ kind
SourceSays cells exprs at (Same a) = (a < at) × (kind_number cells exprs at ≡ kind_number cells exprs a)

op_known : (op : Opcode) (a b : Option CellKind) → IsSome (op_kind op a b) → is_bitwise op ≡ false → op_kind op a b ≡ Some (if is_comparison op then TruthKind else NumberKind)
op_known op None b some bits = absurd (false≢true some)
op_known op (Some NumberKind) None some bits = absurd (false≢true some)
op_known op (Some TruthKind) None some bits = absurd (false≢true some)
op_known op (Some NumberKind) (Some NumberKind) some bits = refl
op_known op (Some TruthKind) (Some TruthKind) some bits = absurd (false≢true (subst (λ b. IsSome (if b then Some TruthKind else None)) bits some))
op_known op (Some NumberKind) (Some TruthKind) some bits = absurd (false≢true some)
op_known op (Some TruthKind) (Some NumberKind) some bits = absurd (false≢true some)

bitwise_words : (op : Opcode) → is_bitwise op ≡ true → is_comparison op ≡ false
bitwise_words And bits = refl
bitwise_words Or bits = refl
bitwise_words Xor bits = refl
bitwise_words _ bits = absurd (true≢false (sym bits))

op_same : (op : Opcode) (a b : Option CellKind) → IsSome (op_kind op a b) → is_bitwise op ≡ true → op_kind op a b ≡ a
op_same op None b some bits = absurd (false≢true some)
op_same op (Some NumberKind) None some bits = absurd (false≢true some)
op_same op (Some TruthKind) None some bits = absurd (false≢true some)
op_same op (Some NumberKind) (Some NumberKind) some bits = ap (λ b. Some (if b then TruthKind else NumberKind)) (bitwise_words op bits)
op_same op (Some TruthKind) (Some TruthKind) some bits = ap (λ b. if b then Some TruthKind else None) bits
op_same op (Some NumberKind) (Some TruthKind) some bits = absurd (false≢true some)
op_same op (Some TruthKind) (Some NumberKind) some bits = absurd (false≢true some)

choose_same : (test a b : Option CellKind) → IsSome (choose_kind test a b) → choose_kind test a b ≡ a
choose_same (Some TruthKind) (Some TruthKind) (Some TruthKind) some = refl
choose_same (Some TruthKind) (Some NumberKind) (Some NumberKind) some = refl
choose_same (Some TruthKind) None b some = absurd (false≢true some)
choose_same (Some TruthKind) (Some TruthKind) None some = absurd (false≢true some)
choose_same (Some TruthKind) (Some TruthKind) (Some NumberKind) some = absurd (false≢true some)
choose_same (Some TruthKind) (Some NumberKind) None some = absurd (false≢true some)
choose_same (Some TruthKind) (Some NumberKind) (Some TruthKind) some = absurd (false≢true some)
choose_same None a b some = absurd (false≢true some)
choose_same (Some NumberKind) a b some = absurd (false≢true some)

widen_known : (a : Option CellKind) → IsSome (widen_kind a) → widen_kind a ≡ Some NumberKind
widen_known None some = absurd (false≢true some)
widen_known (Some TruthKind) some = refl
widen_known (Some NumberKind) some = absurd (false≢true some)

narrow_known : (a : Option CellKind) → IsSome (narrow_kind a) → narrow_kind a ≡ Some TruthKind
narrow_known None some = absurd (false≢true some)
narrow_known (Some NumberKind) some = refl
narrow_known (Some TruthKind) some = absurd (false≢true some)

says_of_op : (cells : List CellKind) (exprs : List CoreExpr) (at a b : ℕ) (op : Opcode) (bits : Bool) → is_bitwise op ≡ bits → a < at
    → kind_number cells exprs at ≡ op_kind op (kind_number cells exprs a) (kind_number cells exprs b) → IsSome (op_kind op (kind_number cells exprs a) (kind_number cells exprs b))
    → SourceSays cells exprs at (if bits then Same a else Known (Some (if is_comparison op then TruthKind else NumberKind)))
says_of_op cells exprs at a b op true bits l e some = (l, e ∙ op_same op (kind_number cells exprs a) (kind_number cells exprs b) some bits)
says_of_op cells exprs at a b op false bits l e some = e ∙ op_known op (kind_number cells exprs a) (kind_number cells exprs b) some bits

says_node : (cells : List CellKind) (exprs : List CoreExpr) (at : ℕ) (expr : CoreExpr) → AllByRecursion (λ j. j < at) (operands_of (Some expr))
    → kind_number cells exprs at ≡ node_kind cells (kind_number cells exprs) expr → IsSome (node_kind cells (kind_number cells exprs) expr)
    → SourceSays cells exprs at (source_of cells expr)
says_node cells exprs at (CellNode c) l e some = e
says_node cells exprs at (TruthNode b) l e some = e
says_node cells exprs at (NumberNode z) l e some = e
says_node cells exprs at (OpNode op a b) l e some = says_of_op cells exprs at a b op (is_bitwise op) refl l.0 e some
says_node cells exprs at (WidenNode a) l e some = e ∙ widen_known (kind_number cells exprs a) some
says_node cells exprs at (NarrowNode a) l e some = e ∙ narrow_known (kind_number cells exprs a) some
says_node cells exprs at (ChooseNode test a b) l e some = (l.1.0, e ∙ choose_same (kind_number cells exprs test) (kind_number cells exprs a) (kind_number cells exprs b) some)

pub source_says : (cells : List CellKind) (exprs : List CoreExpr) (n at : ℕ) (expr : CoreExpr) → ExprsFit cells exprs n → at < n → slice_get exprs at ≡ Some expr → SourceSays cells exprs at (source_of cells expr)
source_says cells exprs n at expr fits l found =
    let here : AllByRecursion (λ j. j < at) (operands_of (Some expr)) = subst (λ o. AllByRecursion (λ j. j < at) (operands_of o)) found (fits at l).0 in
    let node : kind_number cells exprs at ≡ node_kind cells (kind_number cells exprs) expr = unfold_kind cells exprs at expr (λ k lt. (fits k (omega (arith, lt, l))).0) found here in
    says_node cells exprs at expr here node (subst IsSome node (fits at l).1)

-- an expression fits exactly where it names smaller ones and has a kind
pub fits_from : (cells : List CellKind) (exprs : List CoreExpr) (k : ℕ) (expr : CoreExpr) → ExprsFit cells exprs k → slice_get exprs k ≡ Some expr
    → AllByRecursion (λ j. j < k) (operands_of (Some expr)) → IsSome (node_kind cells (kind_number cells exprs) expr) → ExprFits cells exprs k
fits_from cells exprs k expr fits found here some =
    (subst (λ o. AllByRecursion (λ j. j < k) (operands_of o)) (sym found) here, subst IsSome (sym (unfold_kind cells exprs k expr (earlier_from_fit cells exprs k fits) found here)) some)

pub fits_names : (cells : List CellKind) (exprs : List CoreExpr) (k : ℕ) (expr : CoreExpr) → slice_get exprs k ≡ Some expr → ExprFits cells exprs k → AllByRecursion (λ j. j < k) (operands_of (Some expr))
fits_names cells exprs k expr found fits = subst (λ o. AllByRecursion (λ j. j < k) (operands_of o)) found fits.0

pub fits_kind : (cells : List CellKind) (exprs : List CoreExpr) (k : ℕ) (expr : CoreExpr) → ExprsFit cells exprs k → slice_get exprs k ≡ Some expr → ExprFits cells exprs k → IsSome (node_kind cells (kind_number cells exprs) expr)
fits_kind cells exprs k expr before found fits =
    subst IsSome (unfold_kind cells exprs k expr (earlier_from_fit cells exprs k before) found (fits_names cells exprs k expr found fits)) fits.1

-- ---- for the code

pub read_says : (cells : List CellKind) (exprs : List CoreExpr) (e at : ℕ) (d : CoreExpr) (source : Source) → ExprsFit cells exprs (e + 1) → e < length exprs → at ≤ e → source ≡ source_of cells (get_or exprs at d) → SourceSays cells exprs at source
read_says cells exprs e at d source fits there l is =
    subst (SourceSays cells exprs at) (sym is) (source_says cells exprs (e + 1) at (get_or exprs at d) fits (omega (arith, l)) (slice_get-get_or exprs at d (omega (arith, there, l))))

pub known_says : (cells : List CellKind) (exprs : List CoreExpr) (e at : ℕ) (d : CoreExpr) (source : Source) (kind : Option CellKind) → ExprsFit cells exprs (e + 1) → e < length exprs → at ≤ e
    → source ≡ source_of cells (get_or exprs at d) → source ≡ Known kind → kind_number cells exprs at ≡ kind
known_says cells exprs e at d source kind fits there l is known = subst (SourceSays cells exprs at) known (read_says cells exprs e at d source fits there l is)

pub same_says : (cells : List CellKind) (exprs : List CoreExpr) (e at : ℕ) (d : CoreExpr) (source : Source) (a : ℕ) → ExprsFit cells exprs (e + 1) → e < length exprs → at ≤ e
    → source ≡ source_of cells (get_or exprs at d) → source ≡ Same a → (a < at) × (kind_number cells exprs at ≡ kind_number cells exprs a)
same_says cells exprs e at d source a fits there l is same = subst (SourceSays cells exprs at) same (read_says cells exprs e at d source fits there l is)

-- a number that is that of no expression has no kind
pub kind_past : (cells : List CellKind) (exprs : List CoreExpr) (k : ℕ) → length exprs ≤ k → None ≡ kind_number cells exprs k
unfolding expr_of
kind_past cells exprs k l = sym (ap (λ o. kind_of cells (node_expr (expr_within exprs k) o)) (slice_get_past exprs k l))
