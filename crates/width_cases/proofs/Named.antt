-- The program of one expression on two names.
use Rattle.std.proofs.Common.{◌≡◌, ◌≢◌, ℕ, zero, suc, ◌≤◌, List, [], ◌∷◌, length, All, Option, Some, None, false, refl, sym, ap, subst, arith}
use Rattle.std.proofs.lemmas.Bool.{false≢true}
use Rattle.std.proofs.lemmas.Bool.Decides.{nat_tests}
use Rattle.std.specs.Prelude.{nat_eq, IsSome, slice_get}
use Rattle.std.specs.Map.{lookup}
use Rattle.qq_base.specs.declared.refusal.Span.{Span}
use Rattle.qasm_ast.specs.declared.expr.Expr.{Expr}
use Rattle.qasm_ast.specs.declared.stmt.Stmt.{Stmt}
use Rattle.qasm_ast.specs.declared.stmt.StmtId.{StmtId}
use Rattle.qasm_ast.specs.Whole.{Source, IsProgram, ExprFits, ExprsFit}
use Rattle.const_eval.specs.Meaning.{Meaning}
use Rattle.const_eval.specs.Seen.{HasNames}
use Rattle.width_cases.specs.Named.{the_names}

same_expr : (a b : Expr) → Some a ≡ Some b → a ≡ b
same_expr a b e = cc

-- four expressions that fit, each at its number
pub four_fit : (names : ℕ) (a b c d : Expr) → ExprFits names 0 a.kind → ExprFits names 1 b.kind → ExprFits names 2 c.kind → ExprFits names 3 d.kind
    → ExprsFit names 0 (a ∷ b ∷ c ∷ d ∷ [])
four_fit names a b c d first second third fourth zero node from is = subst (λ (e : Expr). ExprFits names 0 e.kind) (same_expr a node is) first
four_fit names a b c d first second third fourth (suc zero) node from is = subst (λ (e : Expr). ExprFits names 1 e.kind) (same_expr b node is) second
four_fit names a b c d first second third fourth (suc (suc zero)) node from is = subst (λ (e : Expr). ExprFits names 2 e.kind) (same_expr c node is) third
four_fit names a b c d first second third fourth (suc (suc (suc zero))) node from is = subst (λ (e : Expr). ExprFits names 3 e.kind) (same_expr d node is) fourth
four_fit names a b c d first second third fourth (suc (suc (suc (suc n)))) node from is = cc

abbrev first_byte : Option (List ℕ) → ℕ
first_byte (Some (byte ∷ bytes)) = byte
first_byte _ = 0

bytes_differ : (byte : ℕ) → byte ≡ 108 → byte ≡ 114 → ⊥
bytes_differ byte left right = omega arith

letters_differ : (text : List ℕ) → Some (108 ∷ []) ≡ Some text → Some (114 ∷ []) ≡ Some text → ⊥
letters_differ text left right = bytes_differ (first_byte (Some text)) (ap first_byte (sym left)) (ap first_byte (sym right))

names_differ : (j k : ℕ) (text : List ℕ) → slice_get the_names j ≡ Some text → slice_get the_names k ≡ Some text → j ≡ k
names_differ zero zero text e e' = refl
names_differ (suc zero) (suc zero) text e e' = refl
names_differ zero (suc zero) text e e' = absurd (letters_differ text e e')
names_differ (suc zero) zero text e e' = absurd (letters_differ text e' e)
names_differ (suc (suc j)) k text e e' = cc
names_differ zero (suc (suc k)) text e e' = cc
names_differ (suc zero) (suc (suc k)) text e e' = cc

names_are_short : All (λ text. length text ≤ 4096) the_names
names_are_short zero d lt = omega arith
names_are_short (suc zero) d lt = omega arith
names_are_short (suc (suc k)) d lt = absurd (omega arith)

built : (exprs : List Expr) (end : Span) → length exprs ≡ 4 → ExprsFit 2 0 exprs
    → IsProgram (record { names = the_names; exprs = exprs; stmts = []; top = []; end = end })
built exprs end four fit = record {
  few_names = omega arith;
  few_exprs = omega arith;
  few_stmts = omega arith;
  name_lengths = names_are_short;
  names_differ = names_differ;
  exprs_fit = fit;
  stmts_fit = λ n stmt is. cc;
  top_fits = record { count = omega arith; each = λ k d lt. absurd (omega arith) };
}

-- these names and four expressions that fit are a program
pub is_program : (names : List (List ℕ)) (exprs : List Expr) (stmts : List Stmt) (top : List StmtId) (end : Span)
    → names ≡ the_names → length exprs ≡ 4 → ExprsFit 2 0 exprs → stmts ≡ [] → top ≡ []
    → IsProgram (record { names = names; exprs = exprs; stmts = stmts; top = top; end = end })
is_program names exprs stmts top end are four fit no_stmt no_top = rw (are, no_stmt, no_top) (built exprs end four fit)

-- both names mean something
pub names_found : (p : Source) (a b : Meaning) → length p.names ≡ 2 → HasNames p ((0, a) ∷ (1, b) ∷ [])
names_found p a b two zero lt = refl
names_found p a b two (suc zero) lt = refl
names_found p a b two (suc (suc n)) lt = absurd (omega arith)

pub first_found : (n : ℕ) (a b : Meaning) → n ≡ 0 → lookup (nat_eq n) ((0, a) ∷ (1, b) ∷ []) ≡ Some a
first_found n a b is = rw is refl

pub second_found : (n : ℕ) (a b : Meaning) → n ≡ 1 → lookup (nat_eq n) ((0, a) ∷ (1, b) ∷ []) ≡ Some b
second_found n a b is = rw is refl

other_number : (m n : ℕ) → m ≢ n → nat_eq m n ≡ false
other_number m n differ = grind (arith, nat_tests)

-- no further name does
pub no_further : (n : ℕ) (a b : Meaning) → n ≢ 0 → n ≢ 1 → ¬ IsSome (lookup (nat_eq n) ((0, a) ∷ (1, b) ∷ []))
no_further n a b not_first not_second some =
    let none : lookup (nat_eq n) ((0, a) ∷ (1, b) ∷ []) ≡ None = rw (other_number n 0 not_first, other_number n 1 not_second) refl in
    false≢true (rw none at some)
