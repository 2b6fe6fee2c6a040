-- Programs worked by hand: the rule by which each is refused, and where. The walk goes through the text in order.
use Rattle.std.specs.Prelude.{◌≡◌, true, false, [], ◌∷◌, Some, None, codes}
use Rattle.qq_base.specs.declared.rule.Rule.TheVariants as rule
use Rattle.qasm_ast.specs.declared.expr.Base.TheVariants as base
use Rattle.qasm_ast.specs.declared.expr.BinaryOp.TheVariants as op
use Rattle.qasm_ast.specs.Tree.{wire, truth, call, no_tree, a_tree, absent, present, position, range, no_bracket, a_bracket, expression, measured, qubits, variable, constant, output, subroutine, reset, measurement, assign, invoke, branch, while, for_range, for_set, break, continue, give, no_statement}
use Rattle.source_meaning.specs.WorkedTrees.{at, num, name, indexed, two, named_at, type, operand, operand_at, wired, parameter, stmts, refusal, by}

-- names, declarations and where statements stand
pub record RefusedNames : Type 0 where
  -- `const int n = 2; n = 3;`
  pub row_r5c : refusal (stmts ((constant (type base.Int absent 7) (named_at "n" 11) (num 2 15) (at 1) (at 1)) ∷ (assign (operand "n" 18) None (expression (num 3 22)) (at 18) (at 18)) ∷ [])) (at 24) ≡ by rule.AssignConst 18
  -- `qubit[1025] q;`
  pub row_r5e : refusal (stmts ((qubits (type base.Qubit (present (num 1025 7)) 1) (named_at "q" 13) (at 1) (at 1)) ∷ [])) (at 15) ≡ by rule.WidthRange 7
  -- `break;`
  pub row_r9d : refusal (stmts ((break (at 1) (at 1)) ∷ [])) (at 7) ≡ by rule.LoopPlace 1
  -- `def f() -> int { while (true) { return 1; } } int x = f();`
  pub row_r10b : refusal (stmts ((subroutine (named_at "f" 5) [] (Some (type base.Int absent 12)) (stmts ((while (truth true (at 25)) (stmts ((give (Some (expression (num 1 40))) (at 33) (at 33)) ∷ [])) (at 18) (at 18)) ∷ [])) (at 1) (at 45)) ∷ (variable (type base.Int absent 47) (named_at "x" 51) (Some (expression (call (codes "f") no_tree (at 55)))) (at 47) (at 47)) ∷ [])) (at 59) ≡ by rule.ReturnMissing 45
  -- `def f() { f(); } f();`
  pub row_r10c : refusal (stmts ((subroutine (named_at "f" 5) [] None (stmts ((invoke (call (codes "f") no_tree (at 11)) (at 11) (at 11)) ∷ [])) (at 1) (at 16)) ∷ (invoke (call (codes "f") no_tree (at 18)) (at 18) (at 18)) ∷ [])) (at 22) ≡ by rule.Recursion 11
  -- `def f() -> int { return 1; } int x = f() + 1;`
  pub row_r10d : refusal (stmts ((subroutine (named_at "f" 5) [] (Some (type base.Int absent 12)) (stmts ((give (Some (expression (num 1 25))) (at 18) (at 18)) ∷ [])) (at 1) (at 28)) ∷ (variable (type base.Int absent 30) (named_at "x" 34) (Some (expression (two op.Add (call (codes "f") no_tree (at 38)) (num 1 44) 38))) (at 30) (at 30)) ∷ [])) (at 46) ≡ by rule.CallPlace 38
  -- `int x = y;`
  pub row_n1 : refusal (stmts ((variable (type base.Int absent 1) (named_at "x" 5) (Some (expression (name "y" 9))) (at 1) (at 1)) ∷ [])) (at 11) ≡ by rule.Unknown 9
  -- `int x; int x;`
  pub row_n2 : refusal (stmts ((variable (type base.Int absent 1) (named_at "x" 5) None (at 1) (at 1)) ∷ (variable (type base.Int absent 8) (named_at "x" 12) None (at 8) (at 8)) ∷ [])) (at 14) ≡ by rule.Redeclared 12
  -- `int pi;`
  pub row_n3 : refusal (stmts ((variable (type base.Int absent 1) (named_at "pi" 5) None (at 1) (at 1)) ∷ [])) (at 8) ≡ by rule.Redeclared 5
  -- `qubit q; int x = q;`
  pub row_n6 : refusal (stmts ((qubits (type base.Qubit absent 1) (named_at "q" 7) (at 1) (at 1)) ∷ (variable (type base.Int absent 10) (named_at "x" 14) (Some (expression (name "q" 18))) (at 10) (at 10)) ∷ [])) (at 20) ≡ by rule.WrongKind 18
  -- `qubit q; reset q[0];`
  pub row_n7 : refusal (stmts ((qubits (type base.Qubit absent 1) (named_at "q" 7) (at 1) (at 1)) ∷ (reset (operand_at "q" (a_bracket (position (num 0 18)) no_bracket) 16) (at 10) (at 10)) ∷ [])) (at 21) ≡ by rule.WrongKind 16
  -- `int x; x[0] = 1;`
  pub row_n8 : refusal (stmts ((variable (type base.Int absent 1) (named_at "x" 5) None (at 1) (at 1)) ∷ (assign (operand_at "x" (a_bracket (position (num 0 10)) no_bracket) 8) None (expression (num 1 15)) (at 8) (at 8)) ∷ [])) (at 17) ≡ by rule.WrongKind 8
  -- `int x = $0;`
  pub row_n9 : refusal (stmts ((variable (type base.Int absent 1) (named_at "x" 5) (Some (expression (wire 0 (at 9)))) (at 1) (at 1)) ∷ [])) (at 12) ≡ by rule.WrongKind 9
  -- `int g; def f() -> int { return g; } int x = f();`
  pub row_n10 : refusal (stmts ((variable (type base.Int absent 1) (named_at "g" 5) None (at 1) (at 1)) ∷ (subroutine (named_at "f" 12) [] (Some (type base.Int absent 19)) (stmts ((give (Some (expression (name "g" 32))) (at 25) (at 25)) ∷ [])) (at 8) (at 35)) ∷ (variable (type base.Int absent 37) (named_at "x" 41) (Some (expression (call (codes "f") no_tree (at 45)))) (at 37) (at 37)) ∷ [])) (at 49) ≡ by rule.Unknown 32
  -- `def f(int a, bit a) { } f(1, 1);`
  pub row_n11 : refusal (stmts ((subroutine (named_at "f" 5) ((parameter (type base.Int absent 7) (named_at "a" 11)) ∷ (parameter (type base.Bit absent 14) (named_at "a" 18)) ∷ []) None no_statement (at 1) (at 23)) ∷ (invoke (call (codes "f") (a_tree (num 1 27) (a_tree (num 1 30) no_tree)) (at 25)) (at 25) (at 25)) ∷ [])) (at 33) ≡ by rule.Redeclared 18
  -- `if (true) { int x; } x = 1;`
  pub row_n13 : refusal (stmts ((branch (truth true (at 5)) (stmts ((variable (type base.Int absent 13) (named_at "x" 17) None (at 13) (at 13)) ∷ [])) no_statement (at 1) (at 1)) ∷ (assign (operand "x" 22) None (expression (num 1 26)) (at 22) (at 22)) ∷ [])) (at 28) ≡ by rule.Unknown 22
  -- `while (false) int x; int x; x = y;`
  pub row_n14 : refusal (stmts ((while (truth false (at 8)) (stmts ((variable (type base.Int absent 15) (named_at "x" 19) None (at 15) (at 15)) ∷ [])) (at 1) (at 1)) ∷ (variable (type base.Int absent 22) (named_at "x" 26) None (at 22) (at 22)) ∷ (assign (operand "x" 29) None (expression (name "y" 33)) (at 29) (at 29)) ∷ [])) (at 35) ≡ by rule.Unknown 33
  -- `qubit[2] q; bit c; c = measure q;`
  pub row_m1 : refusal (stmts ((qubits (type base.Qubit (present (num 2 7)) 1) (named_at "q" 10) (at 1) (at 1)) ∷ (variable (type base.Bit absent 13) (named_at "c" 17) None (at 13) (at 13)) ∷ (assign (operand "c" 20) None (measured (operand "q" 32)) (at 20) (at 20)) ∷ [])) (at 34) ≡ by rule.SizeMismatch 20
  -- `qubit[2] q; bit[3] c = measure q;`
  pub row_m2 : refusal (stmts ((qubits (type base.Qubit (present (num 2 7)) 1) (named_at "q" 10) (at 1) (at 1)) ∷ (variable (type base.Bit (present (num 3 17)) 13) (named_at "c" 20) (Some (measured (operand "q" 32))) (at 13) (at 13)) ∷ [])) (at 34) ≡ by rule.SizeMismatch 20
  -- `qubit q; int c = measure q;`
  pub row_m3 : refusal (stmts ((qubits (type base.Qubit absent 1) (named_at "q" 7) (at 1) (at 1)) ∷ (variable (type base.Int absent 10) (named_at "c" 14) (Some (measured (operand "q" 26))) (at 10) (at 10)) ∷ [])) (at 28) ≡ by rule.TypeMismatch 14
  -- `qubit q; const bit c = true; c = measure q;`
  pub row_m4 : refusal (stmts ((qubits (type base.Qubit absent 1) (named_at "q" 7) (at 1) (at 1)) ∷ (constant (type base.Bit absent 16) (named_at "c" 20) (truth true (at 24)) (at 10) (at 10)) ∷ (assign (operand "c" 30) None (measured (operand "q" 42)) (at 30) (at 30)) ∷ [])) (at 44) ≡ by rule.AssignConst 30
  -- `qubit q; int c; c = measure z;`
  pub row_m5 : refusal (stmts ((qubits (type base.Qubit absent 1) (named_at "q" 7) (at 1) (at 1)) ∷ (variable (type base.Int absent 10) (named_at "c" 14) None (at 10) (at 10)) ∷ (assign (operand "c" 17) None (measured (operand "z" 29)) (at 17) (at 17)) ∷ [])) (at 31) ≡ by rule.TypeMismatch 17
  -- `qubit[2] q; bit c; measure q -> c;`
  pub row_m6 : refusal (stmts ((qubits (type base.Qubit (present (num 2 7)) 1) (named_at "q" 10) (at 1) (at 1)) ∷ (variable (type base.Bit absent 13) (named_at "c" 17) None (at 13) (at 13)) ∷ (measurement (operand "q" 28) (Some (operand "c" 33)) (at 20) (at 20)) ∷ [])) (at 35) ≡ by rule.SizeMismatch 33
  -- `qubit q; bit c; c = measure z;`
  pub row_m7 : refusal (stmts ((qubits (type base.Qubit absent 1) (named_at "q" 7) (at 1) (at 1)) ∷ (variable (type base.Bit absent 10) (named_at "c" 14) None (at 10) (at 10)) ∷ (assign (operand "c" 17) None (measured (operand "z" 29)) (at 17) (at 17)) ∷ [])) (at 31) ≡ by rule.Unknown 29
  -- `return;`
  pub row_s1 : refusal (stmts ((give None (at 1) (at 1)) ∷ [])) (at 8) ≡ by rule.ReturnPlace 1
  -- `def f() { return 1; } f();`
  pub row_s2 : refusal (stmts ((subroutine (named_at "f" 5) [] None (stmts ((give (Some (expression (num 1 18))) (at 11) (at 11)) ∷ [])) (at 1) (at 21)) ∷ (invoke (call (codes "f") no_tree (at 23)) (at 23) (at 23)) ∷ [])) (at 27) ≡ by rule.ReturnPlace 11
  -- `if (true) output int x;`
  pub row_s3 : refusal (stmts ((branch (truth true (at 5)) (stmts ((output (type base.Int absent 18) (named_at "x" 22) (at 11) (at 11)) ∷ [])) no_statement (at 1) (at 1)) ∷ [])) (at 24) ≡ by rule.OutputPlace 11
  -- `def f() { continue; } while (true) f();`
  pub row_s4 : refusal (stmts ((subroutine (named_at "f" 5) [] None (stmts ((continue (at 11) (at 11)) ∷ [])) (at 1) (at 21)) ∷ (while (truth true (at 30)) (stmts ((invoke (call (codes "f") no_tree (at 36)) (at 36) (at 36)) ∷ [])) (at 23) (at 23)) ∷ [])) (at 40) ≡ by rule.LoopPlace 11

-- types, casts, operators, loops and sums
pub record RefusedValues : Type 0 where
  -- `int x = 1; bit y = x;`
  pub row_r5b : refusal (stmts ((variable (type base.Int absent 1) (named_at "x" 5) (Some (expression (num 1 9))) (at 1) (at 1)) ∷ (variable (type base.Bit absent 12) (named_at "y" 16) (Some (expression (name "x" 20))) (at 12) (at 12)) ∷ [])) (at 22) ≡ by rule.NoCast 20
  -- `int x = 1; int y = 6 / x;`
  pub row_r5d : refusal (stmts ((variable (type base.Int absent 1) (named_at "x" 5) (Some (expression (num 1 9))) (at 1) (at 1)) ∷ (variable (type base.Int absent 12) (named_at "y" 16) (Some (expression (two op.Divide (num 6 20) (name "x" 24) 20))) (at 12) (at 12)) ∷ [])) (at 26) ≡ by rule.DivisorRange 24
  -- `int[65] x;`
  pub row_t1 : refusal (stmts ((variable (type base.Int (present (num 65 5)) 1) (named_at "x" 9) None (at 1) (at 1)) ∷ [])) (at 11) ≡ by rule.WidthRange 5
  -- `int n = 4; int[n] x;`
  pub row_t3 : refusal (stmts ((variable (type base.Int absent 1) (named_at "n" 5) (Some (expression (num 4 9))) (at 1) (at 1)) ∷ (variable (type base.Int (present (name "n" 16)) 12) (named_at "x" 19) None (at 12) (at 12)) ∷ [])) (at 21) ≡ by rule.NotConstant 16
  -- `int[pi] x;`
  pub row_t4 : refusal (stmts ((variable (type base.Int (present (name "pi" 5)) 1) (named_at "x" 9) None (at 1) (at 1)) ∷ [])) (at 11) ≡ by rule.NoCast 5
  -- `bit[4] b; int x = b + 1;`
  pub row_t5 : refusal (stmts ((variable (type base.Bit (present (num 4 5)) 1) (named_at "b" 8) None (at 1) (at 1)) ∷ (variable (type base.Int absent 11) (named_at "x" 15) (Some (expression (two op.Add (name "b" 19) (num 1 23) 19))) (at 11) (at 11)) ∷ [])) (at 25) ≡ by rule.TypeMismatch 19
  -- `angle a = 3;`
  pub row_t6 : refusal (stmts ((variable (type base.Angle absent 1) (named_at "a" 7) (Some (expression (num 3 11))) (at 1) (at 1)) ∷ [])) (at 13) ≡ by rule.NotPiMultiple 11
  -- `angle[4] a = pi/16;`
  pub row_t7 : refusal (stmts ((variable (type base.Angle (present (num 4 7)) 1) (named_at "a" 10) (Some (expression (two op.Divide (name "pi" 14) (num 16 17) 14))) (at 1) (at 1)) ∷ [])) (at 20) ≡ by rule.NotDyadic 14
  -- `int x; int y = x * pi;`
  pub row_t8 : refusal (stmts ((variable (type base.Int absent 1) (named_at "x" 5) None (at 1) (at 1)) ∷ (variable (type base.Int absent 8) (named_at "y" 12) (Some (expression (two op.Multiply (name "x" 16) (name "pi" 20) 16))) (at 8) (at 8)) ∷ [])) (at 23) ≡ by rule.NotPiMultiple 16
  -- `int x; int y = x / 0;`
  pub row_t9 : refusal (stmts ((variable (type base.Int absent 1) (named_at "x" 5) None (at 1) (at 1)) ∷ (variable (type base.Int absent 8) (named_at "y" 12) (Some (expression (two op.Divide (name "x" 16) (num 0 20) 16))) (at 8) (at 8)) ∷ [])) (at 22) ≡ by rule.ConstDivide 20
  -- `int[8] x; int y = x << 8;`
  pub row_t10 : refusal (stmts ((variable (type base.Int (present (num 8 5)) 1) (named_at "x" 8) None (at 1) (at 1)) ∷ (variable (type base.Int absent 11) (named_at "y" 15) (Some (expression (two op.ShiftLeft (name "x" 19) (num 8 24) 19))) (at 11) (at 11)) ∷ [])) (at 26) ≡ by rule.ShiftRange 24
  -- `int x; int y = 2 ** x;`
  pub row_t11 : refusal (stmts ((variable (type base.Int absent 1) (named_at "x" 5) None (at 1) (at 1)) ∷ (variable (type base.Int absent 8) (named_at "y" 12) (Some (expression (two op.Power (num 2 16) (name "x" 21) 16))) (at 8) (at 8)) ∷ [])) (at 23) ≡ by rule.NotConstant 21
  -- `int x; if (pi) x = 1;`
  pub row_t12 : refusal (stmts ((variable (type base.Int absent 1) (named_at "x" 5) None (at 1) (at 1)) ∷ (branch (name "pi" 12) (stmts ((assign (operand "x" 16) None (expression (num 1 20)) (at 16) (at 16)) ∷ [])) no_statement (at 8) (at 8)) ∷ [])) (at 22) ≡ by rule.NoCast 12
  -- `const angle a = 3/2*pi;`
  pub row_t13 : refusal (stmts ((constant (type base.Angle absent 7) (named_at "a" 13) (two op.Multiply (two op.Divide (num 3 17) (num 2 19) 17) (name "pi" 21) 17) (at 1) (at 1)) ∷ [])) (at 24) ≡ by rule.ConstDivide 19
  -- `angle[4] a; angle[8] b; bool c = a == b;`
  pub row_t14 : refusal (stmts ((variable (type base.Angle (present (num 4 7)) 1) (named_at "a" 10) None (at 1) (at 1)) ∷ (variable (type base.Angle (present (num 8 19)) 13) (named_at "b" 22) None (at 13) (at 13)) ∷ (variable (type base.Bool absent 25) (named_at "c" 30) (Some (expression (two op.Equal (name "a" 34) (name "b" 39) 34))) (at 25) (at 25)) ∷ [])) (at 41) ≡ by rule.TypeMismatch 34
  -- `int x = 1; x /= x;`
  pub row_t15 : refusal (stmts ((variable (type base.Int absent 1) (named_at "x" 5) (Some (expression (num 1 9))) (at 1) (at 1)) ∷ (assign (operand "x" 12) (Some op.Divide) (expression (name "x" 17)) (at 12) (at 12)) ∷ [])) (at 19) ≡ by rule.DivisorRange 17
  -- `bit[4] b; int x; b[x] = 1;`
  pub row_t16 : refusal (stmts ((variable (type base.Bit (present (num 4 5)) 1) (named_at "b" 8) None (at 1) (at 1)) ∷ (variable (type base.Int absent 11) (named_at "x" 15) None (at 11) (at 11)) ∷ (assign (operand_at "b" (a_bracket (position (name "x" 20)) no_bracket) 18) None (expression (num 1 25)) (at 18) (at 18)) ∷ [])) (at 27) ≡ by rule.NotConstant 20
  -- `bit[4] b; b[0:1] = 7;`
  pub row_t17 : refusal (stmts ((variable (type base.Bit (present (num 4 5)) 1) (named_at "b" 8) None (at 1) (at 1)) ∷ (assign (operand_at "b" (a_bracket (range (present (num 0 13)) absent (present (num 1 15)) (at 13)) no_bracket) 11) None (expression (num 7 20)) (at 11) (at 11)) ∷ [])) (at 22) ≡ by rule.NoCast 20
  -- `int x = 2**64;`
  pub row_t18 : refusal (stmts ((variable (type base.Int absent 1) (named_at "x" 5) (Some (expression (two op.Power (num 2 9) (num 64 12) 9))) (at 1) (at 1)) ∷ [])) (at 15) ≡ by rule.ConstRange 9
  -- `bit[4] b; b[3:0:0] = 1;`
  pub row_t19 : refusal (stmts ((variable (type base.Bit (present (num 4 5)) 1) (named_at "b" 8) None (at 1) (at 1)) ∷ (assign (operand_at "b" (a_bracket (range (present (num 3 13)) (present (num 0 15)) (present (num 0 17)) (at 13)) no_bracket) 11) None (expression (num 1 22)) (at 11) (at 11)) ∷ [])) (at 24) ≡ by rule.StepZero 15
  -- `bit[4] b; bit c = b[0][0];`
  pub row_t20 : refusal (stmts ((variable (type base.Bit (present (num 4 5)) 1) (named_at "b" 8) None (at 1) (at 1)) ∷ (variable (type base.Bit absent 11) (named_at "c" 15) (Some (expression (indexed "b" (a_bracket (position (num 0 21)) (a_bracket (position (num 0 24)) no_bracket)) 19))) (at 11) (at 11)) ∷ [])) (at 27) ≡ by rule.WrongKind 19
  -- `def f() { } int x = f();`
  pub row_t21 : refusal (stmts ((subroutine (named_at "f" 5) [] None no_statement (at 1) (at 11)) ∷ (variable (type base.Int absent 13) (named_at "x" 17) (Some (expression (call (codes "f") no_tree (at 21)))) (at 13) (at 13)) ∷ [])) (at 25) ≡ by rule.TypeMismatch 21
  -- `for bool b in {0} { }`
  pub row_s5 : refusal (stmts ((for_set (type base.Bool absent 5) (named_at "b" 10) (a_tree (num 0 16) no_tree) no_statement (at 1) (at 1)) ∷ [])) (at 22) ≡ by rule.TypeMismatch 5
  -- `for int[33] i in [0:1] { }`
  pub row_s6 : refusal (stmts ((for_range (type base.Int (present (num 33 9)) 5) (named_at "i" 13) (num 0 19) absent (num 1 21) no_statement (at 1) (at 1)) ∷ [])) (at 27) ≡ by rule.LoopWidth 5
  -- `for int i in [0:0:1] { }`
  pub row_s8 : refusal (stmts ((for_range (type base.Int absent 5) (named_at "i" 9) (num 0 15) (present (num 0 17)) (num 1 19) no_statement (at 1) (at 1)) ∷ [])) (at 25) ≡ by rule.StepZero 17
  -- `int n; for int i in [0:n:1] { }`
  pub row_s9 : refusal (stmts ((variable (type base.Int absent 1) (named_at "n" 5) None (at 1) (at 1)) ∷ (for_range (type base.Int absent 12) (named_at "i" 16) (num 0 22) (present (name "n" 24)) (num 1 26) no_statement (at 8) (at 8)) ∷ [])) (at 32) ≡ by rule.NotConstant 24
  -- `int n; for int i in {0, n} { }`
  pub row_s10 : refusal (stmts ((variable (type base.Int absent 1) (named_at "n" 5) None (at 1) (at 1)) ∷ (for_set (type base.Int absent 12) (named_at "i" 16) (a_tree (num 0 22) (a_tree (name "n" 25) no_tree)) no_statement (at 8) (at 8)) ∷ [])) (at 31) ≡ by rule.NotConstant 25
  -- `for int i in [0:1] { i = 2; }`
  pub row_s11 : refusal (stmts ((for_range (type base.Int absent 5) (named_at "i" 9) (num 0 15) absent (num 1 17) (stmts ((assign (operand "i" 22) None (expression (num 2 26)) (at 22) (at 22)) ∷ [])) (at 1) (at 1)) ∷ [])) (at 30) ≡ by rule.AssignConst 22
  -- `int n = 1; qubit[2] q; for int i in [0:n] reset q[i];`
  pub row_s12 : refusal (stmts ((variable (type base.Int absent 1) (named_at "n" 5) (Some (expression (num 1 9))) (at 1) (at 1)) ∷ (qubits (type base.Qubit (present (num 2 18)) 12) (named_at "q" 21) (at 12) (at 12)) ∷ (for_range (type base.Int absent 28) (named_at "i" 32) (num 0 38) absent (name "n" 40) (stmts ((reset (operand_at "q" (a_bracket (position (name "i" 51)) no_bracket) 49) (at 43) (at 43)) ∷ [])) (at 24) (at 24)) ∷ [])) (at 54) ≡ by rule.NotConstant 51
  -- `bit[4096] a; bit b;`
  pub row_s13 : refusal (stmts ((variable (type base.Bit (present (num 4096 5)) 1) (named_at "a" 11) None (at 1) (at 1)) ∷ (variable (type base.Bit absent 14) (named_at "b" 18) None (at 14) (at 14)) ∷ [])) (at 20) ≡ by rule.CellRange 18
  -- `reset $1024;`
  pub row_s15 : refusal (stmts ((reset (wired 1024 7) (at 1) (at 1)) ∷ [])) (at 13) ≡ by rule.QubitRange 7
  -- `qubit q; reset $0;`
  pub row_s16 : refusal (stmts ((qubits (type base.Qubit absent 1) (named_at "q" 7) (at 1) (at 1)) ∷ (reset (wired 0 16) (at 10) (at 10)) ∷ [])) (at 19) ≡ by rule.MixedQubits 16
  -- `def f(qubit[2] r) { } qubit[3] q; f(q);`
  pub row_s17 : refusal (stmts ((subroutine (named_at "f" 5) ((parameter (type base.Qubit (present (num 2 13)) 7) (named_at "r" 16)) ∷ []) None no_statement (at 1) (at 21)) ∷ (qubits (type base.Qubit (present (num 3 29)) 23) (named_at "q" 32) (at 23) (at 23)) ∷ (invoke (call (codes "f") (a_tree (name "q" 37) no_tree) (at 35)) (at 35) (at 35)) ∷ [])) (at 40) ≡ by rule.SizeMismatch 37
  -- `def f(int a) { } f();`
  pub row_s18 : refusal (stmts ((subroutine (named_at "f" 5) ((parameter (type base.Int absent 7) (named_at "a" 11)) ∷ []) None no_statement (at 1) (at 16)) ∷ (invoke (call (codes "f") no_tree (at 18)) (at 18) (at 18)) ∷ [])) (at 22) ≡ by rule.ArgumentCount 18
  -- `def f(qubit r) { } f(1);`
  pub row_s19 : refusal (stmts ((subroutine (named_at "f" 5) ((parameter (type base.Qubit absent 7) (named_at "r" 13)) ∷ []) None no_statement (at 1) (at 18)) ∷ (invoke (call (codes "f") (a_tree (num 1 22) no_tree) (at 20)) (at 20) (at 20)) ∷ [])) (at 25) ≡ by rule.WrongKind 22
  -- `def f() -> int { return 1; } int x = 1; x += f();`
  pub row_s20 : refusal (stmts ((subroutine (named_at "f" 5) [] (Some (type base.Int absent 12)) (stmts ((give (Some (expression (num 1 25))) (at 18) (at 18)) ∷ [])) (at 1) (at 28)) ∷ (variable (type base.Int absent 30) (named_at "x" 34) (Some (expression (num 1 38))) (at 30) (at 30)) ∷ (assign (operand "x" 41) (Some op.Add) (expression (call (codes "f") no_tree (at 46))) (at 41) (at 41)) ∷ [])) (at 50) ≡ by rule.CallPlace 46
  -- `def f() -> int { return f(); } int x = f();`
  pub row_s21 : refusal (stmts ((subroutine (named_at "f" 5) [] (Some (type base.Int absent 12)) (stmts ((give (Some (expression (call (codes "f") no_tree (at 25)))) (at 18) (at 18)) ∷ [])) (at 1) (at 30)) ∷ (variable (type base.Int absent 32) (named_at "x" 36) (Some (expression (call (codes "f") no_tree (at 40)))) (at 32) (at 32)) ∷ [])) (at 44) ≡ by rule.CallPlace 25
  -- `for int[4] i in [0:2147483649:4] { }`
  pub row_s22 : refusal (stmts ((for_range (type base.Int (present (num 4 9)) 5) (named_at "i" 12) (num 0 18) (present (num 2147483649 20)) (num 4 31) no_statement (at 1) (at 1)) ∷ [])) (at 37) ≡ by rule.LoopWidth 20
  -- `int[y] x = z;`
  pub row_o1 : refusal (stmts ((variable (type base.Int (present (name "y" 5)) 1) (named_at "x" 8) (Some (expression (name "z" 12))) (at 1) (at 1)) ∷ [])) (at 14) ≡ by rule.Unknown 5
  -- `int x = z + (1/0);`
  pub row_o2 : refusal (stmts ((variable (type base.Int absent 1) (named_at "x" 5) (Some (expression (two op.Add (name "z" 9) (two op.Divide (num 1 14) (num 0 16) 14) 9))) (at 1) (at 1)) ∷ [])) (at 19) ≡ by rule.Unknown 9
  -- `bit c; c = z + 1;`
  pub row_o4 : refusal (stmts ((variable (type base.Bit absent 1) (named_at "c" 5) None (at 1) (at 1)) ∷ (assign (operand "c" 8) None (expression (two op.Add (name "z" 12) (num 1 16) 12)) (at 8) (at 8)) ∷ [])) (at 18) ≡ by rule.Unknown 12
  -- `def f(int[99] a) { } f(z);`
  pub row_o5 : refusal (stmts ((subroutine (named_at "f" 5) ((parameter (type base.Int (present (num 99 11)) 7) (named_at "a" 15)) ∷ []) None no_statement (at 1) (at 20)) ∷ (invoke (call (codes "f") (a_tree (name "z" 24) no_tree) (at 22)) (at 22) (at 22)) ∷ [])) (at 27) ≡ by rule.WidthRange 11
  -- `def f(int a, qubit r) { } f(z, y);`
  pub row_o6 : refusal (stmts ((subroutine (named_at "f" 5) ((parameter (type base.Int absent 7) (named_at "a" 11)) ∷ (parameter (type base.Qubit absent 14) (named_at "r" 20)) ∷ []) None no_statement (at 1) (at 25)) ∷ (invoke (call (codes "f") (a_tree (name "z" 29) (a_tree (name "y" 32) no_tree)) (at 27)) (at 27) (at 27)) ∷ [])) (at 35) ≡ by rule.Unknown 32
  -- `const int n = 1; n = z;`
  pub row_o8 : refusal (stmts ((constant (type base.Int absent 7) (named_at "n" 11) (num 1 15) (at 1) (at 1)) ∷ (assign (operand "n" 18) None (expression (name "z" 22)) (at 18) (at 18)) ∷ [])) (at 24) ≡ by rule.AssignConst 18
