-- Parts of a node name only nodes that are there.
use Rattle.std.proofs.Common.{◌≡◌, ℕ, ◌==◌, Bool, true, false, cond, List, Option, Some, None, refl, sym, subst}
use Rattle.std.specs.Prelude.{All}
use Rattle.std.proofs.lemmas.List.Elements.{All-nil, All-cons}
use Rattle.qq_base.specs.declared.refusal.Span.{Span}
use Rattle.qasm_ast.specs.declared.expr.Expr.{Expr}
use Rattle.qasm_ast.specs.declared.expr.ExprId.{ExprId}
use Rattle.qasm_ast.specs.declared.expr.Base.{Base}
use Rattle.qasm_ast.specs.declared.expr.Base.TheVariants as b
use Rattle.qasm_ast.specs.Tree.{Trees, no_tree, a_tree}
use Rattle.qasm_ast.specs.Whole.{IfThere, IsExpr, TypeFits}
use Rattle.grammar_parts.specs.Kinds.{found_in}
use Rattle.qasm_expr.specs.Grammar.{plain_types, sized_types}
use Rattle.qasm_expr.specs.Seen.{SeesAll}

-- ---- where they are seen

module _ (names : List (List ℕ)) (nodes : List Expr) (n : ℕ) where
  pub all_seen : (ts : Trees) (ids : List ExprId) → SeesAll names nodes n ids ts → All (IsExpr n) ids
  all_seen no_tree ids s = subst (All (IsExpr n)) (sym s) (All-nil (IsExpr n))
  all_seen (a_tree t ts) ids (x, rest, h, l, s, u) = subst (All (IsExpr n)) (sym h) (All-cons (IsExpr n) x rest l (all_seen ts rest u))

-- ---- types

pub plain_base : (k : ℕ) (base : Base) → found_in plain_types k ≡ Some base → base ≡ b.Bool
plain_base k base h = chosen (k == 16) h
  where
    chosen : (p : Bool) → cond p (Some b.Bool) None ≡ Some base → base ≡ b.Bool
    chosen true e = cc
    chosen false e = absurd (cc)

pub plain_fits : (n : ℕ) (base : Base) (place : Span) → base ≡ b.Bool → TypeFits n (record { base = base; width = None; at = place })
plain_fits n b.Bool place e = record { classical = λ e. absurd (cc); fits = record { bool = refl; width = tt } }
plain_fits n _ place e = absurd (cc)

-- the types that may have a width
abbrev pub IsSized : Base → Type 0
IsSized b.Bool = ⊥
IsSized b.Qubit = ⊥
IsSized _ = Unit {0}

pub sized_base : (k : ℕ) (base : Base) → found_in sized_types k ≡ Some base → IsSized base
sized_base k base h = chosen (k == 14) (k == 17) (k == 18) (k == 19) h
  where
    chosen : (p q r s : Bool) → cond p (Some b.Bit) (cond q (Some b.Int) (cond r (Some b.Uint) (cond s (Some b.Angle) None))) ≡ Some base → IsSized base
    chosen true q r s e = let g : b.Bit ≡ base = cc in subst IsSized g tt
    chosen false true r s e = let g : b.Int ≡ base = cc in subst IsSized g tt
    chosen false false true s e = let g : b.Uint ≡ base = cc in subst IsSized g tt
    chosen false false false true e = let g : b.Angle ≡ base = cc in subst IsSized g tt
    chosen false false false false e = absurd (cc)

pub sized_fits : (n : ℕ) (base : Base) (width : Option ExprId) (place : Span) → IsSized base → IfThere (IsExpr n) width → TypeFits n (record { base = base; width = width; at = place })
sized_fits n b.Bool width place s f = absurd s
sized_fits n b.Qubit width place s f = absurd s
sized_fits n _ width place s f = record { classical = λ e. absurd (cc); fits = record { bool = tt; width = f } }
