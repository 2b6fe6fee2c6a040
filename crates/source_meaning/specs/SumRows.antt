-- Programs worked by hand: what each costs, with its joints, its sites and its qubits.
use Rattle.std.specs.Prelude.{◌≡◌, true, false, [], ◌∷◌, Some, None, codes}
use Rattle.qasm_ast.specs.declared.expr.Base.TheVariants as base
use Rattle.qasm_ast.specs.declared.expr.BinaryOp.TheVariants as op
use Rattle.qasm_ast.specs.Tree.{truth, bit_string, call, no_tree, a_tree, absent, present, position, no_bracket, a_bracket, expression, measured, qubits, variable, subroutine, assign, branch, while, for_range, for_set, break, continue, end, give, no_statement}
use Rattle.source_meaning.specs.WorkedTrees.{at, num, name, two, named_at, type, operand, operand_at, parameter, stmts, sums}

pub record WorkedSums : Type 0 where
  -- ``
  pub row_k0 : sums no_statement (at 1) ≡ Some (1, 0, 0, 0)
  -- `int x;`
  pub row_k1 : sums (stmts ((variable (type base.Int absent 1) (named_at "x" 5) None (at 1) (at 1)) ∷ [])) (at 7) ≡ Some (4, 0, 0, 0)
  -- `int x = 5;`
  pub row_k2 : sums (stmts ((variable (type base.Int absent 1) (named_at "x" 5) (Some (expression (num 5 9))) (at 1) (at 1)) ∷ [])) (at 11) ≡ Some (5, 0, 0, 0)
  -- `bit[4] b;`
  pub row_k3 : sums (stmts ((variable (type base.Bit (present (num 4 5)) 1) (named_at "b" 8) None (at 1) (at 1)) ∷ [])) (at 10) ≡ Some (11, 0, 0, 0)
  -- `bit[4] b = "0110";`
  pub row_k4 : sums (stmts ((variable (type base.Bit (present (num 4 5)) 1) (named_at "b" 8) (Some (expression (bit_string (false ∷ true ∷ true ∷ false ∷ []) (at 12)))) (at 1) (at 1)) ∷ [])) (at 19) ≡ Some (12, 0, 0, 0)
  -- `int x; int y = x + 1;`
  pub row_k5 : sums (stmts ((variable (type base.Int absent 1) (named_at "x" 5) None (at 1) (at 1)) ∷ (variable (type base.Int absent 8) (named_at "y" 12) (Some (expression (two op.Add (name "x" 16) (num 1 20) 16))) (at 8) (at 8)) ∷ [])) (at 22) ≡ Some (12, 0, 0, 0)
  -- `bit[4] b; uint[4] n = b;`
  pub row_k6 : sums (stmts ((variable (type base.Bit (present (num 4 5)) 1) (named_at "b" 8) None (at 1) (at 1)) ∷ (variable (type base.Uint (present (num 4 16)) 11) (named_at "n" 19) (Some (expression (name "b" 23))) (at 11) (at 11)) ∷ [])) (at 25) ≡ Some (36, 0, 0, 0)
  -- `int x; x += 1;`
  pub row_k7 : sums (stmts ((variable (type base.Int absent 1) (named_at "x" 5) None (at 1) (at 1)) ∷ (assign (operand "x" 8) (Some op.Add) (expression (num 1 13)) (at 8) (at 8)) ∷ [])) (at 15) ≡ Some (10, 0, 0, 0)
  -- `bit[4] b; b[1] |= 1;`
  pub row_k8 : sums (stmts ((variable (type base.Bit (present (num 4 5)) 1) (named_at "b" 8) None (at 1) (at 1)) ∷ (assign (operand_at "b" (a_bracket (position (num 1 13)) no_bracket) 11) (Some op.BitOr) (expression (num 1 19)) (at 11) (at 11)) ∷ [])) (at 21) ≡ Some (18, 0, 0, 0)
  -- `qubit q; bit c; if (c) c = measure q;`
  pub row_k9 : sums (stmts ((qubits (type base.Qubit absent 1) (named_at "q" 7) (at 1) (at 1)) ∷ (variable (type base.Bit absent 10) (named_at "c" 14) None (at 10) (at 10)) ∷ (branch (name "c" 21) (stmts ((assign (operand "c" 24) None (measured (operand "q" 36)) (at 24) (at 24)) ∷ [])) no_statement (at 17) (at 17)) ∷ [])) (at 38) ≡ Some (12, 1, 1, 1)
  -- `if (true) int x = 1;`
  pub row_k10 : sums (stmts ((branch (truth true (at 5)) (stmts ((variable (type base.Int absent 11) (named_at "x" 15) (Some (expression (num 1 19))) (at 11) (at 11)) ∷ [])) no_statement (at 1) (at 1)) ∷ [])) (at 21) ≡ Some (6, 0, 0, 0)
  -- `while (true) break;`
  pub row_k11 : sums (stmts ((while (truth true (at 8)) (stmts ((break (at 14) (at 14)) ∷ [])) (at 1) (at 1)) ∷ [])) (at 20) ≡ Some (6, 1, 0, 0)
  -- `for int i in [0:2] { }`
  pub row_k12 : sums (stmts ((for_range (type base.Int absent 5) (named_at "i" 9) (num 0 15) absent (num 2 17) no_statement (at 1) (at 1)) ∷ [])) (at 23) ≡ Some (8, 1, 0, 0)
  -- `for int i in {2, 0} continue;`
  pub row_k14 : sums (stmts ((for_set (type base.Int absent 5) (named_at "i" 9) (a_tree (num 2 15) (a_tree (num 0 18) no_tree)) (stmts ((continue (at 21) (at 21)) ∷ [])) (at 1) (at 1)) ∷ [])) (at 30) ≡ Some (12, 2, 0, 0)
  -- `def f(int[8] a) -> int { return a; } int x = f(3);`
  pub row_k15 : sums (stmts ((subroutine (named_at "f" 5) ((parameter (type base.Int (present (num 8 11)) 7) (named_at "a" 14)) ∷ []) (Some (type base.Int absent 20)) (stmts ((give (Some (expression (name "a" 33))) (at 26) (at 26)) ∷ [])) (at 1) (at 36)) ∷ (variable (type base.Int absent 38) (named_at "x" 42) (Some (expression (call (codes "f") (a_tree (num 3 48) no_tree) (at 46)))) (at 38) (at 38)) ∷ [])) (at 51) ≡ Some (16, 1, 0, 0)
  -- `int x; end;`
  pub row_k16 : sums (stmts ((variable (type base.Int absent 1) (named_at "x" 5) None (at 1) (at 1)) ∷ (end (at 8) (at 8)) ∷ [])) (at 12) ≡ Some (9, 0, 0, 0)
