-- Programs worked by hand, those of the rows of `source_meaning`: the core that each is elaborated to shows what the program shows.
use Rattle.std.specs.Prelude.{◌≡◌, ℕ, Bool, true, false, List, [], ◌∷◌, Option, Some, None, Result, Ok, Err, codes}
use Rattle.qq_base.specs.declared.refusal.Refusal.{Refusal}
use Rattle.qq_base.specs.declared.refusal.Span.{Span}
use Rattle.qq_base.specs.Seen.{Seen}
use Rattle.qasm_ast.specs.declared.expr.Base.TheVariants as base
use Rattle.qasm_ast.specs.declared.expr.BinaryOp.TheVariants as op
use Rattle.qasm_ast.specs.declared.expr.UnaryOp.TheVariants as unary_op
use Rattle.qasm_ast.specs.Tree.{truth, bit_string, unary, call, no_tree, a_tree, absent, present, position, range, members, no_bracket, a_bracket, expression, measured, qubits, variable, constant, output, subroutine, reset, assign, invoke, branch, while, for_range, for_set, break, continue, end, give, no_statement, Statements}
use Rattle.source_meaning.specs.WorkedTrees.{at, num, name, indexed, two, named_at, type, operand, operand_at, parameter, stmts, no_gates, run}
use Rattle.source_core.specs.Gates.{Lists}
use Rattle.source_core.specs.Made.{Made}
use Rattle.source_core.specs.Elaborated.{elaborated, made_run}

-- the programs have no gate calls
abbrev pub no_lists : Lists
no_lists scopes gate_call = record { turns = []; calls = [] }

-- what is seen of the core's run, of a program that is not refused
abbrev pub shown_by : Result (Made (Unit {0})) Refusal → List Bool → ℕ → Option Seen
shown_by (Ok m) outcomes turns = Some (made_run m outcomes turns)
shown_by (Err refusal) outcomes turns = None

abbrev pub RunsAlike : Statements → Span → List Bool → ℕ → Type 0
RunsAlike top place outcomes turns = shown_by (elaborated no_gates no_lists top place) outcomes turns ≡ Some (run top place outcomes turns)

-- loops, jumps, calls and measurements
pub record WorkedCores : Type 0 where
  -- `qubit q; int a = 1; int b = 2; bit c; c = measure q; while (c) { int t = a; a = b; b = t; c = measure q; }`
  pub swapped : RunsAlike (stmts ((qubits (type base.Qubit absent 1) (named_at "q" 7) (at 1) (at 1)) ∷ (variable (type base.Int absent 10) (named_at "a" 14) (Some (expression (num 1 18))) (at 10) (at 10)) ∷ (variable (type base.Int absent 21) (named_at "b" 25) (Some (expression (num 2 29))) (at 21) (at 21)) ∷ (variable (type base.Bit absent 32) (named_at "c" 36) None (at 32) (at 32)) ∷ (assign (operand "c" 39) None (measured (operand "q" 51)) (at 39) (at 39)) ∷ (while (name "c" 61) (stmts ((variable (type base.Int absent 66) (named_at "t" 70) (Some (expression (name "a" 74))) (at 66) (at 66)) ∷ (assign (operand "a" 77) None (expression (name "b" 81)) (at 77) (at 77)) ∷ (assign (operand "b" 84) None (expression (name "t" 88)) (at 84) (at 84)) ∷ (assign (operand "c" 91) None (measured (operand "q" 103)) (at 91) (at 91)) ∷ [])) (at 54) (at 54)) ∷ [])) (at 107) (true ∷ true ∷ false ∷ []) 2
  -- `qubit q; int a = 1; int b = 2; bit c; c = measure q; while (c) { int t = a; a = b; b = t; c = measure q; }`
  pub asked : RunsAlike (stmts ((qubits (type base.Qubit absent 1) (named_at "q" 7) (at 1) (at 1)) ∷ (variable (type base.Int absent 10) (named_at "a" 14) (Some (expression (num 1 18))) (at 10) (at 10)) ∷ (variable (type base.Int absent 21) (named_at "b" 25) (Some (expression (num 2 29))) (at 21) (at 21)) ∷ (variable (type base.Bit absent 32) (named_at "c" 36) None (at 32) (at 32)) ∷ (assign (operand "c" 39) None (measured (operand "q" 51)) (at 39) (at 39)) ∷ (while (name "c" 61) (stmts ((variable (type base.Int absent 66) (named_at "t" 70) (Some (expression (name "a" 74))) (at 66) (at 66)) ∷ (assign (operand "a" 77) None (expression (name "b" 81)) (at 77) (at 77)) ∷ (assign (operand "b" 84) None (expression (name "t" 88)) (at 84) (at 84)) ∷ (assign (operand "c" 91) None (measured (operand "q" 103)) (at 91) (at 91)) ∷ [])) (at 54) (at 54)) ∷ [])) (at 107) (true ∷ []) 5
  -- `qubit q; int n = 0; while (n < 5) { n += 1; if (n == 2) continue; if (n == 3) break; reset q; }`
  pub stopped : RunsAlike (stmts ((qubits (type base.Qubit absent 1) (named_at "q" 7) (at 1) (at 1)) ∷ (variable (type base.Int absent 10) (named_at "n" 14) (Some (expression (num 0 18))) (at 10) (at 10)) ∷ (while (two op.Less (name "n" 28) (num 5 32) 28) (stmts ((assign (operand "n" 37) (Some op.Add) (expression (num 1 42)) (at 37) (at 37)) ∷ (branch (two op.Equal (name "n" 49) (num 2 54) 49) (stmts ((continue (at 57) (at 57)) ∷ [])) no_statement (at 45) (at 45)) ∷ (branch (two op.Equal (name "n" 71) (num 3 76) 71) (stmts ((break (at 79) (at 79)) ∷ [])) no_statement (at 67) (at 67)) ∷ (reset (operand "q" 92) (at 86) (at 86)) ∷ [])) (at 21) (at 21)) ∷ [])) (at 96) [] 2
  -- `qubit q; int n = 0; while (n < 5) { n += 1; if (n == 2) continue; if (n == 3) break; reset q; }`
  pub no_turn : RunsAlike (stmts ((qubits (type base.Qubit absent 1) (named_at "q" 7) (at 1) (at 1)) ∷ (variable (type base.Int absent 10) (named_at "n" 14) (Some (expression (num 0 18))) (at 10) (at 10)) ∷ (while (two op.Less (name "n" 28) (num 5 32) 28) (stmts ((assign (operand "n" 37) (Some op.Add) (expression (num 1 42)) (at 37) (at 37)) ∷ (branch (two op.Equal (name "n" 49) (num 2 54) 49) (stmts ((continue (at 57) (at 57)) ∷ [])) no_statement (at 45) (at 45)) ∷ (branch (two op.Equal (name "n" 71) (num 3 76) 71) (stmts ((break (at 79) (at 79)) ∷ [])) no_statement (at 67) (at 67)) ∷ (reset (operand "q" 92) (at 86) (at 86)) ∷ [])) (at 21) (at 21)) ∷ [])) (at 96) [] 1
  -- `def f(qubit q, int[8] k) -> int[8] { int[8] n = k; if (k > 0) { while (true) { bit m = measure q; if (m) return n; n += 1; } } return -1; } qubit q; int[8] u = f(q, 3); int[8] v = f(q, 0); if (v == 0) end; reset q;`
  pub repeated : RunsAlike (stmts ((subroutine (named_at "f" 5) ((parameter (type base.Qubit absent 7) (named_at "q" 13)) ∷ (parameter (type base.Int (present (num 8 20)) 16) (named_at "k" 23)) ∷ []) (Some (type base.Int (present (num 8 33)) 29)) (stmts ((variable (type base.Int (present (num 8 42)) 38) (named_at "n" 45) (Some (expression (name "k" 49))) (at 38) (at 38)) ∷ (branch (two op.Greater (name "k" 56) (num 0 60) 56) (stmts ((while (truth true (at 72)) (stmts ((variable (type base.Bit absent 80) (named_at "m" 84) (Some (measured (operand "q" 96))) (at 80) (at 80)) ∷ (branch (name "m" 103) (stmts ((give (Some (expression (name "n" 113))) (at 106) (at 106)) ∷ [])) no_statement (at 99) (at 99)) ∷ (assign (operand "n" 116) (Some op.Add) (expression (num 1 121)) (at 116) (at 116)) ∷ [])) (at 65) (at 65)) ∷ [])) no_statement (at 52) (at 52)) ∷ (give (Some (expression (unary unary_op.Negate (num 1 136) (at 135)))) (at 128) (at 128)) ∷ [])) (at 1) (at 139)) ∷ (qubits (type base.Qubit absent 141) (named_at "q" 147) (at 141) (at 141)) ∷ (variable (type base.Int (present (num 8 154)) 150) (named_at "u" 157) (Some (expression (call (codes "f") (a_tree (name "q" 163) (a_tree (num 3 166) no_tree)) (at 161)))) (at 150) (at 150)) ∷ (variable (type base.Int (present (num 8 174)) 170) (named_at "v" 177) (Some (expression (call (codes "f") (a_tree (name "q" 183) (a_tree (num 0 186) no_tree)) (at 181)))) (at 170) (at 170)) ∷ (branch (two op.Equal (name "v" 194) (num 0 199) 194) (stmts ((end (at 202) (at 202)) ∷ [])) no_statement (at 190) (at 190)) ∷ (reset (operand "q" 213) (at 207) (at 207)) ∷ [])) (at 215) (false ∷ false ∷ true ∷ []) 2
  -- `qubit q; for int i in [0:3] { if (i == 1) continue; if (i == 3) break; reset q; }`
  pub running : RunsAlike (stmts ((qubits (type base.Qubit absent 1) (named_at "q" 7) (at 1) (at 1)) ∷ (for_range (type base.Int absent 14) (named_at "i" 18) (num 0 24) absent (num 3 26) (stmts ((branch (two op.Equal (name "i" 35) (num 1 40) 35) (stmts ((continue (at 43) (at 43)) ∷ [])) no_statement (at 31) (at 31)) ∷ (branch (two op.Equal (name "i" 57) (num 3 62) 57) (stmts ((break (at 65) (at 65)) ∷ [])) no_statement (at 53) (at 53)) ∷ (reset (operand "q" 78) (at 72) (at 72)) ∷ [])) (at 10) (at 10)) ∷ [])) (at 82) [] 3
  -- `qubit q; for int i in [0:3] { if (i == 1) continue; if (i == 3) break; reset q; }`
  pub running_stopped : RunsAlike (stmts ((qubits (type base.Qubit absent 1) (named_at "q" 7) (at 1) (at 1)) ∷ (for_range (type base.Int absent 14) (named_at "i" 18) (num 0 24) absent (num 3 26) (stmts ((branch (two op.Equal (name "i" 35) (num 1 40) 35) (stmts ((continue (at 43) (at 43)) ∷ [])) no_statement (at 31) (at 31)) ∷ (branch (two op.Equal (name "i" 57) (num 3 62) 57) (stmts ((break (at 65) (at 65)) ∷ [])) no_statement (at 53) (at 53)) ∷ (reset (operand "q" 78) (at 72) (at 72)) ∷ [])) (at 10) (at 10)) ∷ [])) (at 82) [] 2
  -- `qubit[4] q; for int i in [0:3] { if (i == 1) continue; reset q[i]; }`
  pub in_copies : RunsAlike (stmts ((qubits (type base.Qubit (present (num 4 7)) 1) (named_at "q" 10) (at 1) (at 1)) ∷ (for_range (type base.Int absent 17) (named_at "i" 21) (num 0 27) absent (num 3 29) (stmts ((branch (two op.Equal (name "i" 38) (num 1 43) 38) (stmts ((continue (at 46) (at 46)) ∷ [])) no_statement (at 34) (at 34)) ∷ (reset (operand_at "q" (a_bracket (position (name "i" 64)) no_bracket) 62) (at 56) (at 56)) ∷ [])) (at 13) (at 13)) ∷ [])) (at 69) [] 0
  -- `qubit[3] q; for int i in {2, 0} reset q[i];`
  pub in_members : RunsAlike (stmts ((qubits (type base.Qubit (present (num 3 7)) 1) (named_at "q" 10) (at 1) (at 1)) ∷ (for_set (type base.Int absent 17) (named_at "i" 21) (a_tree (num 2 27) (a_tree (num 0 30) no_tree)) (stmts ((reset (operand_at "q" (a_bracket (position (name "i" 41)) no_bracket) 39) (at 33) (at 33)) ∷ [])) (at 13) (at 13)) ∷ [])) (at 44) [] 0
  -- `qubit q; bit c; while (true) { c = measure q; if (c) end; } reset q;`
  pub ended : RunsAlike (stmts ((qubits (type base.Qubit absent 1) (named_at "q" 7) (at 1) (at 1)) ∷ (variable (type base.Bit absent 10) (named_at "c" 14) None (at 10) (at 10)) ∷ (while (truth true (at 24)) (stmts ((assign (operand "c" 32) None (measured (operand "q" 44)) (at 32) (at 32)) ∷ (branch (name "c" 51) (stmts ((end (at 54) (at 54)) ∷ [])) no_statement (at 47) (at 47)) ∷ [])) (at 17) (at 17)) ∷ (reset (operand "q" 67) (at 61) (at 61)) ∷ [])) (at 69) (false ∷ true ∷ []) 1
  -- `int s; for int i in [3:-2:0] s += i;`
  pub downwards : RunsAlike (stmts ((variable (type base.Int absent 1) (named_at "s" 5) None (at 1) (at 1)) ∷ (for_range (type base.Int absent 12) (named_at "i" 16) (num 3 22) (present (unary unary_op.Negate (num 2 25) (at 24))) (num 0 27) (stmts ((assign (operand "s" 30) (Some op.Add) (expression (name "i" 35)) (at 30) (at 30)) ∷ [])) (at 8) (at 8)) ∷ [])) (at 37) [] 2
  -- `int s; int n = 3; for int i in [0:n] { n = 0; s += i; }`
  pub bounds_once : RunsAlike (stmts ((variable (type base.Int absent 1) (named_at "s" 5) None (at 1) (at 1)) ∷ (variable (type base.Int absent 8) (named_at "n" 12) (Some (expression (num 3 16))) (at 8) (at 8)) ∷ (for_range (type base.Int absent 23) (named_at "i" 27) (num 0 33) absent (name "n" 35) (stmts ((assign (operand "n" 40) None (expression (num 0 44)) (at 40) (at 40)) ∷ (assign (operand "s" 47) (Some op.Add) (expression (name "i" 52)) (at 47) (at 47)) ∷ [])) (at 19) (at 19)) ∷ [])) (at 56) [] 4
  -- `qubit[3] q; for int i in [0:2] { if (i == 1) break; reset q[i]; }`
  pub copies_left : RunsAlike (stmts ((qubits (type base.Qubit (present (num 3 7)) 1) (named_at "q" 10) (at 1) (at 1)) ∷ (for_range (type base.Int absent 17) (named_at "i" 21) (num 0 27) absent (num 2 29) (stmts ((branch (two op.Equal (name "i" 38) (num 1 43) 38) (stmts ((break (at 46) (at 46)) ∷ [])) no_statement (at 34) (at 34)) ∷ (reset (operand_at "q" (a_bracket (position (name "i" 61)) no_bracket) 59) (at 53) (at 53)) ∷ [])) (at 13) (at 13)) ∷ [])) (at 66) [] 0
  -- `int n; while (n < 2) { for int i in {0, 1} { if (i == 1) continue; n += 1; } }`
  pub copies_in_turns : RunsAlike (stmts ((variable (type base.Int absent 1) (named_at "n" 5) None (at 1) (at 1)) ∷ (while (two op.Less (name "n" 15) (num 2 19) 15) (stmts ((for_set (type base.Int absent 28) (named_at "i" 32) (a_tree (num 0 38) (a_tree (num 1 41) no_tree)) (stmts ((branch (two op.Equal (name "i" 50) (num 1 55) 50) (stmts ((continue (at 58) (at 58)) ∷ [])) no_statement (at 46) (at 46)) ∷ (assign (operand "n" 68) (Some op.Add) (expression (num 1 73)) (at 68) (at 68)) ∷ [])) (at 24) (at 24)) ∷ [])) (at 8) (at 8)) ∷ [])) (at 79) [] 2
  -- `def f(int a) -> int { a += 1; return a; } int a = 5; int b = f(a);`
  pub by_value : RunsAlike (stmts ((subroutine (named_at "f" 5) ((parameter (type base.Int absent 7) (named_at "a" 11)) ∷ []) (Some (type base.Int absent 17)) (stmts ((assign (operand "a" 23) (Some op.Add) (expression (num 1 28)) (at 23) (at 23)) ∷ (give (Some (expression (name "a" 38))) (at 31) (at 31)) ∷ [])) (at 1) (at 41)) ∷ (variable (type base.Int absent 43) (named_at "a" 47) (Some (expression (num 5 51))) (at 43) (at 43)) ∷ (variable (type base.Int absent 54) (named_at "b" 58) (Some (expression (call (codes "f") (a_tree (name "a" 64) no_tree) (at 62)))) (at 54) (at 54)) ∷ [])) (at 67) [] 0
  -- `def f(qubit[2] r) -> bit[2] { return measure r; } qubit[3] q; bit[2] c = f(q[{2, 0}]);`
  pub by_reference : RunsAlike (stmts ((subroutine (named_at "f" 5) ((parameter (type base.Qubit (present (num 2 13)) 7) (named_at "r" 16)) ∷ []) (Some (type base.Bit (present (num 2 26)) 22)) (stmts ((give (Some (measured (operand "r" 46))) (at 31) (at 31)) ∷ [])) (at 1) (at 49)) ∷ (qubits (type base.Qubit (present (num 3 57)) 51) (named_at "q" 60) (at 51) (at 51)) ∷ (variable (type base.Bit (present (num 2 67)) 63) (named_at "c" 70) (Some (expression (call (codes "f") (a_tree (indexed "q" (a_bracket (members (a_tree (num 2 79) (a_tree (num 0 82) no_tree))) no_bracket) 76) no_tree) (at 74)))) (at 63) (at 63)) ∷ [])) (at 87) (true ∷ false ∷ []) 0
  -- `def f() -> uint[2] { for int i in {1, 2} { for int j in [0:5] { if (j == 2) return j + 3; } } return 0; } int x = f();`
  pub returned_from_loops : RunsAlike (stmts ((subroutine (named_at "f" 5) [] (Some (type base.Uint (present (num 2 17)) 12)) (stmts ((for_set (type base.Int absent 26) (named_at "i" 30) (a_tree (num 1 36) (a_tree (num 2 39) no_tree)) (stmts ((for_range (type base.Int absent 48) (named_at "j" 52) (num 0 58) absent (num 5 60) (stmts ((branch (two op.Equal (name "j" 69) (num 2 74) 69) (stmts ((give (Some (expression (two op.Add (name "j" 84) (num 3 88) 84))) (at 77) (at 77)) ∷ [])) no_statement (at 65) (at 65)) ∷ [])) (at 44) (at 44)) ∷ [])) (at 22) (at 22)) ∷ (give (Some (expression (num 0 102))) (at 95) (at 95)) ∷ [])) (at 1) (at 105)) ∷ (variable (type base.Int absent 107) (named_at "x" 111) (Some (expression (call (codes "f") no_tree (at 115)))) (at 107) (at 107)) ∷ [])) (at 119) [] 2
  -- `const int k = 4; def g() -> int { return k; } def f() -> int { int x = g(); return x + 1; } int k2 = f();`
  pub call_in_call : RunsAlike (stmts ((constant (type base.Int absent 7) (named_at "k" 11) (num 4 15) (at 1) (at 1)) ∷ (subroutine (named_at "g" 22) [] (Some (type base.Int absent 29)) (stmts ((give (Some (expression (name "k" 42))) (at 35) (at 35)) ∷ [])) (at 18) (at 45)) ∷ (subroutine (named_at "f" 51) [] (Some (type base.Int absent 58)) (stmts ((variable (type base.Int absent 64) (named_at "x" 68) (Some (expression (call (codes "g") no_tree (at 72)))) (at 64) (at 64)) ∷ (give (Some (expression (two op.Add (name "x" 84) (num 1 88) 84))) (at 77) (at 77)) ∷ [])) (at 47) (at 91)) ∷ (variable (type base.Int absent 93) (named_at "k2" 97) (Some (expression (call (codes "f") no_tree (at 102)))) (at 93) (at 93)) ∷ [])) (at 106) [] 0
  -- `def f() { end; } int x = 1; f(); x = 2;`
  pub ended_in_call : RunsAlike (stmts ((subroutine (named_at "f" 5) [] None (stmts ((end (at 11) (at 11)) ∷ [])) (at 1) (at 16)) ∷ (variable (type base.Int absent 18) (named_at "x" 22) (Some (expression (num 1 26))) (at 18) (at 18)) ∷ (invoke (call (codes "f") no_tree (at 29)) (at 29) (at 29)) ∷ (assign (operand "x" 34) None (expression (num 2 38)) (at 34) (at 34)) ∷ [])) (at 40) [] 0

-- values, scopes and outputs
pub record WorkedStores : Type 0 where
  -- `int[8] x = -7; int a = x / 2; int b = x % 2; int[8] c = -8; int d = c >> 1; uint[8] e = 200; uint[8] f = e >> 3;`
  pub divided : RunsAlike (stmts ((variable (type base.Int (present (num 8 5)) 1) (named_at "x" 8) (Some (expression (unary unary_op.Negate (num 7 13) (at 12)))) (at 1) (at 1)) ∷ (variable (type base.Int absent 16) (named_at "a" 20) (Some (expression (two op.Divide (name "x" 24) (num 2 28) 24))) (at 16) (at 16)) ∷ (variable (type base.Int absent 31) (named_at "b" 35) (Some (expression (two op.Remainder (name "x" 39) (num 2 43) 39))) (at 31) (at 31)) ∷ (variable (type base.Int (present (num 8 50)) 46) (named_at "c" 53) (Some (expression (unary unary_op.Negate (num 8 58) (at 57)))) (at 46) (at 46)) ∷ (variable (type base.Int absent 61) (named_at "d" 65) (Some (expression (two op.ShiftRight (name "c" 69) (num 1 74) 69))) (at 61) (at 61)) ∷ (variable (type base.Uint (present (num 8 82)) 77) (named_at "e" 85) (Some (expression (num 200 89))) (at 77) (at 77)) ∷ (variable (type base.Uint (present (num 8 99)) 94) (named_at "f" 102) (Some (expression (two op.ShiftRight (name "e" 106) (num 3 111) 106))) (at 94) (at 94)) ∷ [])) (at 113) [] 0
  -- `bit[4] b = "0110"; bit c = b[1]; bit[2] d = b[1:2]; uint[4] n = b; bit[4] e = n; bool t = b;`
  pub bits_cast : RunsAlike (stmts ((variable (type base.Bit (present (num 4 5)) 1) (named_at "b" 8) (Some (expression (bit_string (false ∷ true ∷ true ∷ false ∷ []) (at 12)))) (at 1) (at 1)) ∷ (variable (type base.Bit absent 20) (named_at "c" 24) (Some (expression (indexed "b" (a_bracket (position (num 1 30)) no_bracket) 28))) (at 20) (at 20)) ∷ (variable (type base.Bit (present (num 2 38)) 34) (named_at "d" 41) (Some (expression (indexed "b" (a_bracket (range (present (num 1 47)) absent (present (num 2 49)) (at 47)) no_bracket) 45))) (at 34) (at 34)) ∷ (variable (type base.Uint (present (num 4 58)) 53) (named_at "n" 61) (Some (expression (name "b" 65))) (at 53) (at 53)) ∷ (variable (type base.Bit (present (num 4 72)) 68) (named_at "e" 75) (Some (expression (name "n" 79))) (at 68) (at 68)) ∷ (variable (type base.Bool absent 82) (named_at "t" 87) (Some (expression (name "b" 91))) (at 82) (at 82)) ∷ [])) (at 93) [] 0
  -- `angle[4] a = pi/2; angle[4] b = a + a; angle[8] c = a; angle[4] d = -a; angle[2] e = a; angle[4] f = a / 3;`
  pub angles : RunsAlike (stmts ((variable (type base.Angle (present (num 4 7)) 1) (named_at "a" 10) (Some (expression (two op.Divide (name "pi" 14) (num 2 17) 14))) (at 1) (at 1)) ∷ (variable (type base.Angle (present (num 4 26)) 20) (named_at "b" 29) (Some (expression (two op.Add (name "a" 33) (name "a" 37) 33))) (at 20) (at 20)) ∷ (variable (type base.Angle (present (num 8 46)) 40) (named_at "c" 49) (Some (expression (name "a" 53))) (at 40) (at 40)) ∷ (variable (type base.Angle (present (num 4 62)) 56) (named_at "d" 65) (Some (expression (unary unary_op.Negate (name "a" 70) (at 69)))) (at 56) (at 56)) ∷ (variable (type base.Angle (present (num 2 79)) 73) (named_at "e" 82) (Some (expression (name "a" 86))) (at 73) (at 73)) ∷ (variable (type base.Angle (present (num 4 95)) 89) (named_at "f" 98) (Some (expression (two op.Divide (name "a" 102) (num 3 106) 102))) (at 89) (at 89)) ∷ [])) (at 108) [] 0
  -- `bit[3] b; b[{0, 2}] = "01"; b[-2] = 1; bit[3] c = b << 1; bit[3] d = ~b;`
  pub members_assigned : RunsAlike (stmts ((variable (type base.Bit (present (num 3 5)) 1) (named_at "b" 8) None (at 1) (at 1)) ∷ (assign (operand_at "b" (a_bracket (members (a_tree (num 0 14) (a_tree (num 2 17) no_tree))) no_bracket) 11) None (expression (bit_string (false ∷ true ∷ []) (at 23))) (at 11) (at 11)) ∷ (assign (operand_at "b" (a_bracket (position (unary unary_op.Negate (num 2 32) (at 31))) no_bracket) 29) None (expression (num 1 37)) (at 29) (at 29)) ∷ (variable (type base.Bit (present (num 3 44)) 40) (named_at "c" 47) (Some (expression (two op.ShiftLeft (name "b" 51) (num 1 56) 51))) (at 40) (at 40)) ∷ (variable (type base.Bit (present (num 3 63)) 59) (named_at "d" 66) (Some (expression (unary unary_op.Complement (name "b" 71) (at 70)))) (at 59) (at 59)) ∷ [])) (at 73) [] 0
  -- `bit[2] b; qubit[2] q; b[{0, 0}] = measure q;`
  pub measured_twice : RunsAlike (stmts ((variable (type base.Bit (present (num 2 5)) 1) (named_at "b" 8) None (at 1) (at 1)) ∷ (qubits (type base.Qubit (present (num 2 17)) 11) (named_at "q" 20) (at 11) (at 11)) ∷ (assign (operand_at "b" (a_bracket (members (a_tree (num 0 26) (a_tree (num 0 29) no_tree))) no_bracket) 23) None (measured (operand "q" 43)) (at 23) (at 23)) ∷ [])) (at 45) (false ∷ true ∷ []) 0
  -- `int[4] x = 5; uint[8] y = 250; bool c = x < y; int[16] z = x + y; int[4] m = -1; uint[4] n = 1; bool d = m < n;`
  pub compared : RunsAlike (stmts ((variable (type base.Int (present (num 4 5)) 1) (named_at "x" 8) (Some (expression (num 5 12))) (at 1) (at 1)) ∷ (variable (type base.Uint (present (num 8 20)) 15) (named_at "y" 23) (Some (expression (num 250 27))) (at 15) (at 15)) ∷ (variable (type base.Bool absent 32) (named_at "c" 37) (Some (expression (two op.Less (name "x" 41) (name "y" 45) 41))) (at 32) (at 32)) ∷ (variable (type base.Int (present (num 16 52)) 48) (named_at "z" 56) (Some (expression (two op.Add (name "x" 60) (name "y" 64) 60))) (at 48) (at 48)) ∷ (variable (type base.Int (present (num 4 71)) 67) (named_at "m" 74) (Some (expression (unary unary_op.Negate (num 1 79) (at 78)))) (at 67) (at 67)) ∷ (variable (type base.Uint (present (num 4 87)) 82) (named_at "n" 90) (Some (expression (num 1 94))) (at 82) (at 82)) ∷ (variable (type base.Bool absent 97) (named_at "d" 102) (Some (expression (two op.Less (name "m" 106) (name "n" 110) 106))) (at 97) (at 97)) ∷ [])) (at 112) [] 0
  -- `int x = 1; if (x == 1) { int x = 5; x += 1; } x += 1;`
  pub shadowed : RunsAlike (stmts ((variable (type base.Int absent 1) (named_at "x" 5) (Some (expression (num 1 9))) (at 1) (at 1)) ∷ (branch (two op.Equal (name "x" 16) (num 1 21) 16) (stmts ((variable (type base.Int absent 26) (named_at "x" 30) (Some (expression (num 5 34))) (at 26) (at 26)) ∷ (assign (operand "x" 37) (Some op.Add) (expression (num 1 42)) (at 37) (at 37)) ∷ [])) no_statement (at 12) (at 12)) ∷ (assign (operand "x" 47) (Some op.Add) (expression (num 1 52)) (at 47) (at 47)) ∷ [])) (at 54) [] 0
  -- `int x = 1; output int y; y = x + 1; output bit z;`
  pub outputs : RunsAlike (stmts ((variable (type base.Int absent 1) (named_at "x" 5) (Some (expression (num 1 9))) (at 1) (at 1)) ∷ (output (type base.Int absent 19) (named_at "y" 23) (at 12) (at 12)) ∷ (assign (operand "y" 26) None (expression (two op.Add (name "x" 30) (num 1 34) 30)) (at 26) (at 26)) ∷ (output (type base.Bit absent 44) (named_at "z" 48) (at 37) (at 37)) ∷ [])) (at 50) [] 0
  -- `bit c = 1; if (c) end; int x = 7;`
  pub end_before_a_global : RunsAlike (stmts ((variable (type base.Bit absent 1) (named_at "c" 5) (Some (expression (num 1 9))) (at 1) (at 1)) ∷ (branch (name "c" 16) (stmts ((end (at 19) (at 19)) ∷ [])) no_statement (at 12) (at 12)) ∷ (variable (type base.Int absent 24) (named_at "x" 28) (Some (expression (num 7 32))) (at 24) (at 24)) ∷ [])) (at 34) [] 0
