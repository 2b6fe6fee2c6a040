-- Calls of gates worked by hand: their instructions and cost, or the rule that they break and where.
use Rattle.std.specs.Prelude.{◌≡◌, ℕ, zero, suc, ◌+◌, ◌-◌, nat_le, false, List, [], ◌∷◌, map, ℤ, pos, neg_ℤ, Option, Some, None, Result, Ok, Err, codes, if◌then◌else◌}
use Rattle.std.specs.Str.{bytes_eq}
use Rattle.qq_base.specs.declared.refusal.Refusal.{Refusal}
use Rattle.qq_base.specs.declared.refusal.Span.{Span}
use Rattle.qq_base.specs.declared.rule.Rule.{Rule}
use Rattle.qq_base.specs.declared.rule.Rule.TheVariants.{Unknown, Redeclared, RepeatedQubit, SizeMismatch, NotDyadic, ControlOutsideTable, Recursion, CallDepth, TooLarge}
use Rattle.qq_base.specs.declared.run.GateId.{GateId}
use Rattle.qq_base.specs.declared.run.QubitId.{QubitId}
use Rattle.gate_table.specs.Table.{gate_named}
use Rattle.angle_arith.specs.Fraction.{fraction_of}
use Rattle.qasm_ast.specs.declared.expr.BinaryOp.TheVariants as op
use Rattle.qasm_ast.specs.declared.expr.UnaryOp.TheVariants as uop
use Rattle.qasm_ast.specs.Tree.{Called, word, qubit, Tree, named, number, unary, binary, Trees, no_tree, a_tree, absent, present, Bracket, position, range, Brackets, no_bracket, a_bracket, Name, Operand, Change, inverse, power, control, Statement, gate, gate_call, Statements, no_statement, a_statement, place_of_statement}
use Rattle.alias_resolve.specs.Places.{Selected}
use Rattle.const_eval.specs.declared.environment.Callable.{Callable}
use Rattle.const_eval.specs.declared.environment.Callable.TheVariants as callable
use Rattle.const_eval.specs.Constant.{Constant, part_of_pi}
use Rattle.const_eval.specs.Meaning.{Running, Nothing}
use Rattle.const_eval.specs.Refusing.{refused}
use Rattle.const_eval.specs.Seen.{MeaningInside, HeldInside, CalledInside}
use Rattle.const_eval.specs.Walk.{within_budget}
use Rattle.gate_lists.specs.Instructions.{Instruction}
use Rattle.gate_arguments.specs.Scope.{Declarations, Scope, turn_of}
use Rattle.gate_flatten.specs.Seen.{walk_of_call}

-- ---- trees, by the columns at which they begin

abbrev at : ℕ → Span
at column = record { line = 1; column = column }

abbrev name : List ℕ → ℕ → Name
name text column = record { text = text; place = at column }

abbrev var : List ℕ → ℕ → Tree
var text column = named (word text) no_bracket (at column) (at column)

abbrev one : Bracket → Brackets
one b = a_bracket b no_bracket

-- a name alone, `q[n]`, and `q[m:n]`
abbrev bare : List ℕ → ℕ → Operand
bare text column = record { name = word text; index = no_bracket; place = at column }

abbrev item : ℕ → ℕ → Operand
item n column = record { name = word (codes "q"); index = one (position (number n (at (column)))); place = at column }

abbrev slice : ℕ → ℕ → ℕ → Operand
slice m n column = record { name = word (codes "q"); index = one (range (present (number m (at column))) absent (present (number n (at column))) (at column)); place = at column }

abbrev call : List Change → List ℕ → ℕ → Trees → List Operand → Statement
call changes text column arguments operands = gate_call changes (name text column) arguments operands (at column) (at column)

abbrev half : Tree → ℕ → Tree
half a column = binary op.Divide a (number 2 (at column)) (at column)

-- `gate g(t) a, b { rz(t) a; cx a, b; gphase(t/2); }`
abbrev g_body : Statements
g_body =
    a_statement (call [] (codes "rz") 17 (a_tree (var (codes "t") 20) no_tree) (bare (codes "a") 23 ∷ [])) (
    a_statement (call [] (codes "cx") 26 no_tree (bare (codes "a") 29 ∷ bare (codes "b") 32 ∷ [])) (
    a_statement (call [] (codes "gphase") 35 (a_tree (half (var (codes "t") 42) 42) no_tree) [])
    no_statement))

-- `gate k a { k a; }`
abbrev k_body : Statements
k_body = a_statement (call [] (codes "k") 12 no_tree (bare (codes "a") 14 ∷ [])) no_statement

-- `gate n(t) a { rz(t + pi/3) a; }`
abbrev n_body : Statements
n_body = a_statement (call [] (codes "rz") 15 (a_tree (binary op.Add (var (codes "t") 18) (binary op.Divide (var (codes "pi") 22) (number 3 (at 25)) (at 22)) (at 18)) no_tree) (bare (codes "a") 28 ∷ [])) no_statement

-- Gates that call each other, one for each number: the first calls `x`, and each other one the gate before it. Their names
-- have one character, from 1,000 on.
abbrev deep_body : ℕ → Statements
deep_body zero = a_statement (call [] (codes "x") 20 no_tree (bare (codes "a") 22 ∷ [])) no_statement
deep_body (suc n) = a_statement (call [] ((1000 + n) ∷ []) 20 no_tree (bare (codes "a") 22 ∷ [])) no_statement

abbrev definition : ℕ → Statement
definition zero = gate (name (codes "g") 6) (name (codes "t") 8 ∷ []) (name (codes "a") 11 ∷ name (codes "b") 14 ∷ []) g_body (at 1) (at 50)
definition (suc zero) = gate (name (codes "k") 6) [] (name (codes "a") 8 ∷ []) k_body (at 1) (at 17)
-- `gate m a, a { }`
definition (suc (suc zero)) = gate (name (codes "m") 6) [] (name (codes "a") 8 ∷ name (codes "a") 11 ∷ []) no_statement (at 1) (at 15)
definition (suc (suc (suc zero))) = gate (name (codes "n") 6) (name (codes "t") 8 ∷ []) (name (codes "a") 11 ∷ []) n_body (at 1) (at 32)
definition (suc (suc (suc (suc n)))) = gate (name ((1000 + n) ∷ []) 6) [] (name (codes "a") 8 ∷ []) (deep_body n) (at 1) (at 25)

-- ---- where the calls stand: the gates are defined, `q` has the qubits 0 to 3, and `x0` is a run-time value

abbrev by_table : Option GateId → Callable
by_table None = callable.Unknown
by_table (Some g) = callable.Row g

abbrev deep_or_table : List ℕ → Callable
deep_or_table (c ∷ []) = if nat_le 1000 c then callable.Defined (record { 0 = c - 996 }) else by_table (gate_named (c ∷ []))
deep_or_table text = by_table (gate_named text)

abbrev called_at_top : List ℕ → Callable
called_at_top text =
    if bytes_eq text (codes "g") then callable.Defined (record { 0 = 0 })
    else if bytes_eq text (codes "k") then callable.Defined (record { 0 = 1 })
    else if bytes_eq text (codes "m") then callable.Defined (record { 0 = 2 })
    else if bytes_eq text (codes "n") then callable.Defined (record { 0 = 3 })
    else deep_or_table text

abbrev seen_inside : List ℕ → MeaningInside
seen_inside text = if bytes_eq text (codes "pi") then HeldInside (part_of_pi (fraction_of (pos 1) (pos 1))) else CalledInside (called_at_top text)

abbrev declared : Declarations
declared = record { definition = λ id. definition id.0; inside = λ id text. seen_inside text }

abbrev register : Called → Result (Selected QubitId) Rule
register (word text) = if bytes_eq text (codes "q") then Ok (record { items = record { 0 = 0 } ∷ record { 0 = 1 } ∷ record { 0 = 2 } ∷ record { 0 = 3 } ∷ []; single = false }) else Err Unknown
register (qubit n) = Err Unknown

abbrev top : Scope
top = record {
  means = λ text. if bytes_eq text (codes "x0") then Running else Nothing;
  units = λ text. pos 0;
  called = called_at_top;
  qubits = register;
  open_gates = [];
}

abbrev expanded : List Constant → Statement → ℕ → Result (List Instruction × ℕ) Refusal
expanded arguments s budget = within_budget budget (place_of_statement s) (walk_of_call declared top arguments s)

-- ---- answers

abbrev instruction : List ℕ → List ℤ → List ℕ → Instruction
instruction text units qubits = record { gate = row (gate_named text); arguments = units; qubits = map {A = ℕ} {B = QubitId} (λ n. record { 0 = n }) qubits }
  where
    row : Option GateId → ℕ
    row None = 31
    row (Some g) = g.0

abbrev parts_of_pi : List ℕ → List Constant
parts_of_pi = map (λ (n : ℕ). part_of_pi (fraction_of (pos 1) (pos n)))

abbrev half_pi : List Constant
half_pi = parts_of_pi (2 ∷ [])

-- a turn of 1,000 units
abbrev a_turn : List Constant
a_turn = turn_of (pos 1000) ∷ []

abbrev pi_tree : Trees
pi_tree = a_tree (half (var (codes "pi") 1) 1) no_tree

abbrev x0_at : ℕ → Trees
x0_at column = a_tree (var (codes "x0") column) no_tree

pub record WorkedCalls : Type 0 where
  -- `inv @ g(pi/2) q[0], q[1];`, `ctrl @ g(pi/2) q[2], q[0], q[1];`
  pub inverse_of_body : expanded half_pi (call (inverse (at 1) ∷ []) (codes "g") 7 pi_tree (item 0 15 ∷ item 1 21 ∷ [])) 250000 ≡ Ok (instruction (codes "cx") [] (0 ∷ 1 ∷ []) ∷ instruction (codes "rz") (neg_ℤ (pos 1073741824) ∷ []) (0 ∷ []) ∷ [], 12)
  pub control_of_body : expanded half_pi (call (control absent (at 1) ∷ []) (codes "g") 8 pi_tree (item 2 16 ∷ item 0 22 ∷ item 1 28 ∷ [])) 250000 ≡ Ok (instruction (codes "crz") (pos 1073741824 ∷ []) (2 ∷ 0 ∷ []) ∷ instruction (codes "ccx") [] (2 ∷ 0 ∷ 1 ∷ []) ∷ instruction (codes "p") (pos 536870912 ∷ []) (2 ∷ []) ∷ [], 13)
  -- `cx q[0:1], q[2:3];`, `ctrl(2) @ x q[0], q[1], q[2];`, `pow(0) @ x q[0];`, `ctrl @ inv @ s q[0], q[1];`
  pub pairs : expanded [] (call [] (codes "cx") 1 no_tree (slice 0 1 4 ∷ slice 2 3 12 ∷ [])) 250000 ≡ Ok (instruction (codes "cx") [] (0 ∷ 2 ∷ []) ∷ instruction (codes "cx") [] (1 ∷ 3 ∷ []) ∷ [], 6)
  pub two_controls : expanded [] (call (control (present (number 2 (at 6))) (at 1) ∷ []) (codes "x") 11 no_tree (item 0 13 ∷ item 1 19 ∷ item 2 25 ∷ [])) 250000 ≡ Ok (instruction (codes "ccx") [] (0 ∷ 1 ∷ 2 ∷ []) ∷ [], 5)
  pub no_copies : expanded [] (call (power (number 0 (at 5)) (at 1) ∷ []) (codes "x") 10 no_tree (item 0 12 ∷ [])) 250000 ≡ Ok ([], 3)
  pub right_to_left : expanded [] (call (control absent (at 1) ∷ inverse (at 8) ∷ []) (codes "s") 14 no_tree (item 0 16 ∷ item 1 22 ∷ [])) 250000 ≡ Ok (instruction (codes "cp") (neg_ℤ (pos 1073741824) ∷ []) (0 ∷ 1 ∷ []) ∷ [], 3)
  -- `pow(-2) @ s q[0];`, `ctrl @ gphase(pi/2) q[0];`, `inv @ U(pi, pi/2, pi/4) q[0];`, `x q[1:0];`
  pub inverted_copies : expanded [] (call (power (unary uop.Negate (number 2 (at 6)) (at 5)) (at 1) ∷ []) (codes "s") 11 no_tree (item 0 13 ∷ [])) 250000 ≡ Ok (instruction (codes "sdg") [] (0 ∷ []) ∷ instruction (codes "sdg") [] (0 ∷ []) ∷ [], 8)
  pub controlled_phase : expanded half_pi (call (control absent (at 1) ∷ []) (codes "gphase") 8 pi_tree (item 0 21 ∷ [])) 250000 ≡ Ok (instruction (codes "p") (pos 1073741824 ∷ []) (0 ∷ []) ∷ [], 2)
  pub exchanged : expanded (parts_of_pi (1 ∷ 2 ∷ 4 ∷ [])) (call (inverse (at 1) ∷ []) (codes "U") 7 (a_tree (var (codes "pi") 9) (a_tree (half (var (codes "pi") 13) 13) pi_tree)) (item 0 25 ∷ [])) 250000 ≡ Ok (instruction (codes "U") (neg_ℤ (pos 2147483648) ∷ neg_ℤ (pos 536870912) ∷ neg_ℤ (pos 1073741824) ∷ []) (0 ∷ []) ∷ [], 2)
  pub nowhere : expanded [] (call [] (codes "x") 1 no_tree (slice 1 0 3 ∷ [])) 250000 ≡ Ok ([], 2)
  -- `k q[0];`, `x q[0:3];` where the budget is 2, `ctrl @ ch q[0], q[1], q[2];`, `cx q, q;`, `cx q[0:1], q[0:2];`, `m q[0], q[1];`
  pub calls_itself : expanded [] (call [] (codes "k") 19 no_tree (item 0 21 ∷ [])) 250000 ≡ refused Recursion (at 12)
  pub too_large : expanded [] (call [] (codes "x") 1 no_tree (slice 0 3 3 ∷ [])) 2 ≡ refused TooLarge (at 1)
  pub no_control : expanded [] (call (control absent (at 1) ∷ []) (codes "ch") 8 no_tree (item 0 11 ∷ item 1 17 ∷ item 2 23 ∷ [])) 250000 ≡ refused ControlOutsideTable (at 1)
  pub repeated : expanded [] (call [] (codes "cx") 1 no_tree (bare (codes "q") 4 ∷ bare (codes "q") 7 ∷ [])) 250000 ≡ refused RepeatedQubit (at 7)
  pub other_length : expanded [] (call [] (codes "cx") 1 no_tree (slice 0 1 4 ∷ slice 0 2 12 ∷ [])) 250000 ≡ refused SizeMismatch (at 12)
  pub same_parameter : expanded [] (call [] (codes "m") 1 no_tree (item 0 3 ∷ item 1 9 ∷ [])) 250000 ≡ refused Redeclared (at 11)
  -- 63 gates that call each other and `x`, and one more
  pub deep : expanded [] (call [] (1062 ∷ []) 1 no_tree (item 0 3 ∷ [])) 250000 ≡ Ok (instruction (codes "x") [] (0 ∷ []) ∷ [], 65)
  pub too_deep : expanded [] (call [] (1063 ∷ []) 1 no_tree (item 0 3 ∷ [])) 250000 ≡ refused CallDepth (at 20)
  -- `g(x0) q[0], q[1];`, `inv @ g(x0) q[0], q[1];` and `n(x0) q[0];`, where the run-time argument has 1,000 units
  pub turned : expanded a_turn (call [] (codes "g") 1 (x0_at 3) (item 0 7 ∷ item 1 13 ∷ [])) 250000 ≡ Ok (instruction (codes "rz") (pos 1000 ∷ []) (0 ∷ []) ∷ instruction (codes "cx") [] (0 ∷ 1 ∷ []) ∷ [], 15)
  pub turned_back : expanded a_turn (call (inverse (at 1) ∷ []) (codes "g") 7 (x0_at 9) (item 0 13 ∷ item 1 19 ∷ [])) 250000 ≡ Ok (instruction (codes "cx") [] (0 ∷ 1 ∷ []) ∷ instruction (codes "rz") (neg_ℤ (pos 1000) ∷ []) (0 ∷ []) ∷ [], 15)
  pub third_beside_turn : expanded a_turn (call [] (codes "n") 1 (x0_at 3) (item 0 7 ∷ [])) 250000 ≡ refused NotDyadic (at 22)
