-- Calls of subroutines worked by hand: what they bind and what they cost, or the rule that they break and where.
use Rattle.std.specs.Prelude.{◌≡◌, ℕ, zero, suc, Bool, true, false, List, [], ◌∷◌, map, replicate, pos, Option, Some, None, Result, Ok, Err, codes, if◌then◌else◌}
use Rattle.std.specs.Str.{bytes_eq}
use Rattle.qq_base.specs.declared.refusal.Refusal.{Refusal}
use Rattle.qq_base.specs.declared.refusal.Span.{Span}
use Rattle.qq_base.specs.declared.rule.Rule.{Rule}
use Rattle.qq_base.specs.declared.rule.Rule.TheVariants.{Unknown, WrongKind, NoCast, NotConstant, IndexRange, StepZero, SizeMismatch, ArgumentCount, WidthRange, Recursion, CallPlace, CallDepth, MixedQubits}
use Rattle.qq_base.specs.declared.run.QubitId.{QubitId}
use Rattle.angle_arith.specs.Fraction.{fraction_of}
use Rattle.qasm_ast.specs.declared.expr.Base.{Base}
use Rattle.qasm_ast.specs.declared.expr.Base.TheVariants as base
use Rattle.qasm_ast.specs.declared.expr.BinaryOp.TheVariants as op
use Rattle.qasm_ast.specs.declared.expr.ExprId.{ExprId}
use Rattle.qasm_ast.specs.declared.expr.TypeRef.{TypeRef}
use Rattle.qasm_ast.specs.declared.stmt.Declared.{Declared}
use Rattle.qasm_ast.specs.declared.stmt.StmtId.{StmtId}
use Rattle.qasm_ast.specs.Tree.{Called, word, qubit, Tree, named, wire, number, binary, call, Trees, no_tree, a_tree, Maybe, absent, present, Bracket, position, range, no_bracket, a_bracket, Name, Scalar, Parameter, Statement, gate, subroutine, give, expression, measured, no_statement, a_statement}
use Rattle.qasm_types.specs.declared.ty.Ty.{Ty}
use Rattle.qasm_types.specs.declared.ty.Ty.TheVariants as t
use Rattle.alias_resolve.specs.Places.{Selected}
use Rattle.const_eval.specs.declared.environment.Callable.{Callable}
use Rattle.const_eval.specs.declared.environment.Callable.TheVariants as callable
use Rattle.const_eval.specs.Binding.{Binding, Bound, ToValue, ToQubits}
use Rattle.const_eval.specs.Constant.{part_of_pi, whole}
use Rattle.const_eval.specs.Meaning.{Meaning, Held, Running, Nothing}
use Rattle.const_eval.specs.Refusing.{refused, go_on}
use Rattle.const_eval.specs.Seen.{MeaningInside, HeldInside, NothingInside}
use Rattle.const_eval.specs.Walk.{Walk}
use Rattle.gate_arguments.specs.Scope.{Declarations, Scope}
use Rattle.subroutine_inline.specs.Bound.{bound_call, call_walk, qubits_given, values_given}

-- ---- trees, by the columns at which they begin

abbrev at : ℕ → Span
at column = record { line = 1; column = column }

abbrev name : List ℕ → ℕ → Name
name text column = record { text = text; place = at column }

abbrev var : List ℕ → ℕ → Tree
var text column = named (word text) no_bracket (at column) (at column)

abbrev num : ℕ → ℕ → Tree
num n column = number n (at column)

-- `q[..]`
abbrev of_q : Bracket → ℕ → Tree
of_q b column = named (word (codes "q")) (a_bracket b no_bracket) (at column) (at column)

abbrev one : Tree → Trees
one a = a_tree a no_tree

abbrev both : Tree → Tree → Trees
both a b = a_tree a (one b)

-- ---- definitions

abbrev typed : Base → Maybe → ℕ → Scalar
typed base width column = record { base = base; width = width; place = at column }

abbrev parameter : Scalar → List ℕ → ℕ → Parameter
parameter type text column = record { type = type; name = name text column }

-- a definition with an empty body
abbrev empty : List ℕ → List Parameter → ℕ → Statement
empty text params close = subroutine (name text 5) params None no_statement (at 1) (at close)

-- `def f(int[8] a, qubit[2] r, qubit s) -> bit { return measure s; }`
abbrev defines_f : Statement
defines_f = subroutine (name (codes "f") 5) (
    parameter (typed base.Int (present (num 8 11)) 7) (codes "a") 14
    ∷ parameter (typed base.Qubit (present (num 2 23)) 17) (codes "r") 26
    ∷ parameter (typed base.Qubit absent 29) (codes "s") 35 ∷ [])
    (Some (typed base.Bit absent 41))
    (a_statement (give (Some (measured (record { name = word (codes "s"); index = no_bracket; place = at 62 }))) (at 47) (at 47)) no_statement)
    (at 1) (at 65)

-- `def w(bit[n] c) -> uint[n + n] { return c; }`
abbrev defines_w : Statement
defines_w = subroutine (name (codes "w") 5) (parameter (typed base.Bit (present (var (codes "n") 11)) 7) (codes "c") 14 ∷ [])
    (Some (typed base.Uint (present (binary op.Add (var (codes "n") 25) (var (codes "n") 29) (at 25))) 20))
    (a_statement (give (Some (expression (var (codes "c") 41))) (at 34) (at 34)) no_statement)
    (at 1) (at 44)

abbrev definition : ℕ → Statement
definition zero = defines_f
-- `def one(qubit[1] r) { }`
definition (suc zero) = empty (codes "one") (parameter (typed base.Qubit (present (num 1 15)) 9) (codes "r") 18 ∷ []) 23
-- `def h(qubit s) { }`
definition (suc (suc zero)) = empty (codes "h") (parameter (typed base.Qubit absent 7) (codes "s") 13 ∷ []) 18
-- `def two(qubit a, qubit b) { }`
definition (suc (suc (suc zero))) = empty (codes "two") (parameter (typed base.Qubit absent 9) (codes "a") 15 ∷ parameter (typed base.Qubit absent 18) (codes "b") 24 ∷ []) 29
definition (suc (suc (suc (suc zero)))) = defines_w
-- `def z(bit[0] c) { }`, `def v(int[x0] i) { }`, `def p(int[pi] i) { }`
definition (suc (suc (suc (suc (suc zero))))) = empty (codes "z") (parameter (typed base.Bit (present (num 0 11)) 7) (codes "c") 14 ∷ []) 19
definition (suc (suc (suc (suc (suc (suc zero)))))) = empty (codes "v") (parameter (typed base.Int (present (var (codes "x0") 11)) 7) (codes "i") 15 ∷ []) 20
definition (suc (suc (suc (suc (suc (suc (suc zero))))))) = empty (codes "p") (parameter (typed base.Int (present (var (codes "pi") 11)) 7) (codes "i") 15 ∷ []) 20
-- `gate g a { }`
definition _ = gate (name (codes "g") 6) [] (name (codes "a") 8 ∷ []) no_statement (at 1) (at 12)

-- ---- where the calls stand: `q` has the qubits 0 to 3, `o` is qubit 2 alone, `x0` is a run-time value and `n` is 7; where the
-- subroutines are defined, `n` is 4, and of these only `n` and `pi` are visible

abbrev defined : ℕ → Callable
defined n = callable.Defined (record { 0 = n })

abbrev called_at_top : List ℕ → Callable
called_at_top text =
    if bytes_eq text (codes "f") then defined 0
    else if bytes_eq text (codes "one") then defined 1
    else if bytes_eq text (codes "h") then defined 2
    else if bytes_eq text (codes "two") then defined 3
    else if bytes_eq text (codes "w") then defined 4
    else if bytes_eq text (codes "z") then defined 5
    else if bytes_eq text (codes "v") then defined 6
    else if bytes_eq text (codes "p") then defined 7
    else if bytes_eq text (codes "g") then defined 8
    else if bytes_eq text (codes "x") then callable.Row (record { 0 = 0 })
    else if bytes_eq text (codes "q") then callable.Other
    else callable.Unknown

abbrev seen_inside : List ℕ → MeaningInside
seen_inside text =
    if bytes_eq text (codes "n") then HeldInside (whole (pos 4))
    else if bytes_eq text (codes "pi") then HeldInside (part_of_pi (fraction_of (pos 1) (pos 1)))
    else NothingInside

abbrev declared : Declarations
declared = record { definition = λ id. definition id.0; inside = λ id text. seen_inside text }

abbrev selected : List ℕ → Bool → Selected QubitId
selected qubits single = record { items = map {A = ℕ} {B = QubitId} (λ n. record { 0 = n }) qubits; single = single }

abbrev register : Called → Result (Selected QubitId) Rule
register (word text) =
    if bytes_eq text (codes "q") then Ok (selected (0 ∷ 1 ∷ 2 ∷ 3 ∷ []) false)
    else if bytes_eq text (codes "o") then Ok (selected (2 ∷ []) true)
    else if bytes_eq text (codes "x0") then Err WrongKind
    else Err Unknown
register (qubit n) = Err MixedQubits

abbrev means_at_top : List ℕ → Meaning
means_at_top text =
    if bytes_eq text (codes "n") then Held (whole (pos 7))
    else if bytes_eq text (codes "x0") then Running
    else Nothing

abbrev top : Scope
top = record { means = means_at_top; units = λ text. pos 0; called = called_at_top; qubits = register; open_gates = [] }

-- the same in a program that declares no qubits
abbrev wires : Called → Result (Selected QubitId) Rule
wires (word text) = Err Unknown
wires (qubit n) = Ok (selected (n ∷ []) true)

abbrev without_qubits : Scope
without_qubits = record { means = means_at_top; units = λ text. pos 0; called = called_at_top; qubits = wires; open_gates = [] }

-- ---- answers

-- the number of the definition, what the parameters are bound to, the type of the result, and the cost
abbrev answered : Walk (StmtId × Binding) → Result (ℕ × List Bound × Option Ty × ℕ) Refusal
answered w = go_on w.answer (λ b. Ok (b.0.0, b.1.bound, b.1.result, w.cost))

-- a call where the calls of these definitions are open
abbrev called_in : List ℕ → List ℕ → Trees → Result (ℕ × List Bound × Option Ty × ℕ) Refusal
called_in opened text arguments = answered (call_walk declared top (map {A = ℕ} {B = StmtId} (λ n. record { 0 = n }) opened) (call text arguments (at 1)))

abbrev called : List ℕ → Trees → Result (ℕ × List Bound × Option Ty × ℕ) Refusal
called text arguments = called_in [] text arguments

abbrev a_parameter : ℕ → TypeRef × Declared
a_parameter n = (record { base = base.Qubit; width = None; at = at 1 }, record { name = n; at = at 1 })

abbrev an_argument : ℕ → ExprId
an_argument n = record { 0 = n }

pub record WorkedCalls : Type 0 where
  -- `f(1 + 2, q[1:2], o);`, `one(o);`, `h(q[2:2]);`, `two(q[0], q[0]);`
  pub each_kind : called (codes "f") (a_tree (binary op.Add (num 1 3) (num 2 7) (at 3)) (both (of_q (range (present (num 1 12)) absent (present (num 2 14)) (at 12)) 10) (var (codes "o") 18))) ≡ Ok (0, ToValue (t.Int 8) ∷ ToQubits (selected (1 ∷ 2 ∷ []) false) ∷ ToQubits (selected (2 ∷ []) true) ∷ [], Some t.Bit, 4)
  pub register_of_one : called (codes "one") (one (var (codes "o") 5)) ≡ Ok (1, ToQubits (selected (2 ∷ []) false) ∷ [], None, 1)
  pub qubit_alone : called (codes "h") (one (of_q (range (present (num 2 5)) absent (present (num 2 7)) (at 5)) 3)) ≡ Ok (2, ToQubits (selected (2 ∷ []) true) ∷ [], None, 2)
  pub same_twice : called (codes "two") (both (of_q (position (num 0 7)) 5) (of_q (position (num 0 13)) 11)) ≡ Ok (3, ToQubits (selected (0 ∷ []) true) ∷ ToQubits (selected (0 ∷ []) true) ∷ [], None, 2)
  -- `w(u);`: the types are read where the subroutine is defined, and a classical argument is not walked yet
  pub types_inside : called (codes "w") (one (var (codes "u") 3)) ≡ Ok (4, ToValue (t.Bits 4) ∷ [], Some (t.Uint 8), 4)
  -- `h($3);` in a program that declares no qubits, and in one that does
  pub wire_alone : answered (call_walk declared without_qubits [] (call (codes "h") (one (wire 3 (at 3))) (at 1))) ≡ Ok (2, ToQubits (selected (3 ∷ []) true) ∷ [], None, 0)
  pub mixed : called (codes "h") (one (wire 3 (at 3))) ≡ refused MixedQubits (at 3)
  -- `u();`, `g();`, `x();`, `q();`
  pub not_visible : called (codes "u") no_tree ≡ refused Unknown (at 1)
  pub a_gate : called (codes "g") no_tree ≡ refused WrongKind (at 1)
  pub a_row : called (codes "x") no_tree ≡ refused WrongKind (at 1)
  pub a_register : called (codes "q") no_tree ≡ refused WrongKind (at 1)
  -- `h();` in the body of `h`, also 16 calls deep; `h(o);` where 15 and where 16 other calls are open
  pub calls_itself : called_in (1 ∷ 2 ∷ []) (codes "h") no_tree ≡ refused Recursion (at 1)
  pub deep_in_itself : called_in (replicate 16 2) (codes "h") no_tree ≡ refused Recursion (at 1)
  pub deepest : called_in (replicate 15 1) (codes "h") (one (var (codes "o") 3)) ≡ Ok (2, ToQubits (selected (2 ∷ []) true) ∷ [], None, 0)
  pub too_deep : called_in (replicate 16 1) (codes "h") no_tree ≡ refused CallDepth (at 1)
  -- `f(1, q);`, `z();`, `z(1);`, `v(1);`, `p(1);`
  pub few_arguments : called (codes "f") (both (num 1 3) (var (codes "q") 6)) ≡ refused ArgumentCount (at 1)
  pub count_first : called (codes "z") no_tree ≡ refused ArgumentCount (at 1)
  pub no_width : called (codes "z") (one (num 1 3)) ≡ refused WidthRange (at 11)
  pub unseen_width : called (codes "v") (one (num 1 3)) ≡ refused Unknown (at 11)
  pub width_of_pi : called (codes "p") (one (num 1 3)) ≡ refused NoCast (at 11)
  -- `h(1);`, `h(x0);`, `f(u, q, o);`, `h(o[0]);` with `o` alone
  pub no_operand : called (codes "h") (one (num 1 3)) ≡ refused WrongKind (at 3)
  pub a_value : called (codes "h") (one (var (codes "x0") 3)) ≡ refused WrongKind (at 3)
  pub other_size : called (codes "f") (a_tree (var (codes "u") 3) (both (var (codes "q") 6) (var (codes "o") 9))) ≡ refused SizeMismatch (at 6)
  pub indexed_qubit : called (codes "h") (one (named (word (codes "o")) (a_bracket (position (num 0 5)) no_bracket) (at 3) (at 3))) ≡ refused WrongKind (at 3)
  -- `h(q[n]);`, `h(q[x0]);`, `h(q[0:0:3]);`, `two(q[9], u);`
  pub out_of_range : called (codes "h") (one (of_q (position (var (codes "n") 5)) 3)) ≡ refused IndexRange (at 5)
  pub no_constant : called (codes "h") (one (of_q (position (var (codes "x0") 5)) 3)) ≡ refused NotConstant (at 5)
  pub no_step : called (codes "h") (one (of_q (range (present (num 0 5)) (present (num 0 7)) (present (num 3 9)) (at 5)) 3)) ≡ refused StepZero (at 7)
  pub first_stands : called (codes "two") (both (of_q (position (num 9 7)) 5) (var (codes "u") 11)) ≡ refused IndexRange (at 7)
  -- an expression that is no call
  pub no_call : answered (call_walk declared top [] (num 1 1)) ≡ refused CallPlace (at 1)
  -- parameters and arguments by their numbers, and a cost over the limit
  pub values_apart : values_given (a_parameter 5 ∷ a_parameter 6 ∷ []) (an_argument 10 ∷ an_argument 11 ∷ []) (ToQubits (selected (1 ∷ []) true) ∷ ToValue t.Bit ∷ []) ≡ (6, t.Bit, an_argument 11) ∷ []
  pub qubits_apart : qubits_given (a_parameter 5 ∷ a_parameter 6 ∷ []) (an_argument 10 ∷ an_argument 11 ∷ []) (ToQubits (selected (1 ∷ []) true) ∷ ToValue t.Bit ∷ []) ≡ (5, selected (1 ∷ []) true) ∷ []
  pub costs_much : (bound_call [] [] 300000 (record { 0 = 0 }) (record { subroutine = record { params = []; result = None; body = no_statement; close = at 1 }; bound = []; result = None })).cost ≡ 250001
