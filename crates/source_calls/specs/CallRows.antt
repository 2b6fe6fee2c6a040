-- Calls of gates in open scopes, worked by hand: their instructions and cost, or the rule that they break and where.
use Rattle.std.specs.Prelude.{◌≡◌, ℕ, false, List, [], ◌∷◌, ℤ, pos, neg_ℤ, Option, Some, None, Result, Ok, codes}
use Rattle.qq_base.specs.declared.refusal.Refusal.{Refusal}
use Rattle.qq_base.specs.declared.refusal.Span.{Span}
use Rattle.qq_base.specs.declared.rule.Rule.TheVariants.{Unknown, WrongKind, Recursion}
use Rattle.qq_base.specs.declared.run.GateId.{GateId}
use Rattle.gate_table.specs.Table.{gate_named}
use Rattle.angle_arith.specs.Fraction.{fraction_of}
use Rattle.qasm_ast.specs.Tree.{word, Tree, named, Trees, no_tree, a_tree, no_bracket, Name, Operand, Change, inverse, Statement, gate_call, Statements, no_statement, a_statement}
use Rattle.scope_env.specs.OpenScopes.{OpenScopes, Opened, Sealed, Named}
use Rattle.const_eval.specs.Constant.{Constant, part_of_pi}
use Rattle.const_eval.specs.Refusing.{refused}
use Rattle.const_eval.specs.Walk.{within_budget}
use Rattle.const_eval.specs.Binding.{seen_by}
use Rattle.const_eval.specs.Things.{Known, Qubits, DefinedGate, DefinedSubroutine, Alias, next_qubits, one_qubit}
use Rattle.gate_lists.specs.Instructions.{Instruction}
use Rattle.source_meaning.specs.Library.{predefined, included, with_rows}
use Rattle.source_meaning.specs.GateCalls.{turn}
use Rattle.source_calls.specs.Calls.{expand}

-- ---- trees, by the columns at which they begin

abbrev at : ℕ → Span
at column = record { line = 1; column = column }

abbrev name : List ℕ → ℕ → Name
name text column = record { text = text; place = at column }

abbrev variable : List ℕ → ℕ → Tree
variable text column = named (word text) no_bracket (at column) (at column)

abbrev bare : List ℕ → ℕ → Operand
bare text column = record { name = word text; index = no_bracket; place = at column }

abbrev call : List ℕ → ℕ → Trees → List Operand → Statement
call text column arguments operands = gate_call [] (name text column) arguments operands (at column) (at column)

abbrev a_gate : List Name → List Name → Statements → Known
a_gate params qubits body = DefinedGate (record { params = params; qubits = qubits; body = body })

-- ---- what is declared

-- `gate g(t) a { rz(t) a; }`
abbrev g : Known
g = a_gate (name (codes "t") 8 ∷ []) (name (codes "a") 11 ∷ []) (a_statement (call (codes "rz") 15 (a_tree (variable (codes "t") 18) no_tree) (bare (codes "a") 21 ∷ [])) no_statement)

-- `gate h2(t) a { g(t) a; h a; }`, where `g` is declared before
abbrev h2 : Known
h2 = a_gate (name (codes "t") 9 ∷ []) (name (codes "a") 12 ∷ []) (a_statement (call (codes "g") 16 (a_tree (variable (codes "t") 18) no_tree) (bare (codes "a") 21 ∷ [])) (a_statement (call (codes "h") 24 no_tree (bare (codes "a") 26 ∷ [])) no_statement))

-- `gate k a { k a; }`, and `gate m a { f a; }`
abbrev k : Known
k = a_gate [] (name (codes "a") 8 ∷ []) (a_statement (call (codes "k") 12 no_tree (bare (codes "a") 14 ∷ [])) no_statement)

abbrev m : Known
m = a_gate [] (name (codes "a") 8 ∷ []) (a_statement (call (codes "f") 12 no_tree (bare (codes "a") 14 ∷ [])) no_statement)

-- `def f() { }`
abbrev f : Known
f = DefinedSubroutine (record { params = []; result = None; body = no_statement; close = at 11 })

-- `include "stdgates.inc"; gate g ..; def f() { } gate h2 ..; gate k ..; gate m ..; qubit[2] q;`
abbrev top : OpenScopes Known
top =
    Named (codes "q") (Qubits (record { items = next_qubits 0 2; single = false })) (
    Named (codes "m") m (
    Named (codes "k") k (
    Named (codes "h2") h2 (
    Named (codes "f") f (
    Named (codes "g") g (
    with_rows included predefined))))))

-- in the body of a subroutine that was declared behind all of them but `q`, with a qubit `p` as its parameter
abbrev body : OpenScopes Known
body = Named (codes "p") (Alias (one_qubit 1)) (Sealed (seen_by (codes "s") (Named (codes "s") f top)) (Opened top))

-- ---- calls

abbrev expanded : OpenScopes Known → List Change → List ℕ → List Constant → Operand → Result (List Instruction × ℕ) Refusal
expanded scopes changes text values operand =
    within_budget 250000 (at 1) (expand scopes (record { changes = changes; name = name text 1; arguments = no_tree; values = values; operands = operand ∷ [] }))

abbrev row : Option GateId → ℕ
row None = 31
row (Some id) = id.0

abbrev instruction : List ℕ → List ℤ → ℕ → Instruction
instruction text units q = record { gate = row (gate_named text); arguments = units; qubits = record { 0 = q } ∷ [] }

abbrev half_pi : List Constant
half_pi = part_of_pi (fraction_of (pos 1) (pos 2)) ∷ []

pub record WorkedGateCalls : Type 0 where
  -- `h q;`, `g(pi/2) q;`, `h2(t) q;` where t has 1,000 units, `inv @ g(pi/2) q;`
  pub of_table : expanded top [] (codes "h") [] (bare (codes "q") 9) ≡ Ok (instruction (codes "h") [] 0 ∷ instruction (codes "h") [] 1 ∷ [], 2)
  pub defined : expanded top [] (codes "g") half_pi (bare (codes "q") 9) ≡ Ok (instruction (codes "rz") (pos 1073741824 ∷ []) 0 ∷ instruction (codes "rz") (pos 1073741824 ∷ []) 1 ∷ [], 6)
  pub nested : expanded body [] (codes "h2") (turn (pos 1000) ∷ []) (bare (codes "p") 9) ≡ Ok (instruction (codes "rz") (pos 1000 ∷ []) 1 ∷ instruction (codes "h") [] 1 ∷ [], 9)
  pub inverted : expanded top (inverse (at 1) ∷ []) (codes "g") half_pi (bare (codes "q") 9) ≡ Ok (instruction (codes "rz") (neg_ℤ (pos 1073741824) ∷ []) 0 ∷ instruction (codes "rz") (neg_ℤ (pos 1073741824) ∷ []) 1 ∷ [], 6)
  -- `k q;`, `m q;`, `f q;`, `w q;`, and `h q;` in the body
  pub calls_itself : expanded top [] (codes "k") [] (bare (codes "q") 9) ≡ refused Recursion (at 12)
  pub calls_subroutine : expanded top [] (codes "m") [] (bare (codes "q") 9) ≡ refused Unknown (at 12)
  pub no_gate : expanded top [] (codes "f") [] (bare (codes "q") 9) ≡ refused WrongKind (at 1)
  pub not_declared : expanded top [] (codes "w") [] (bare (codes "q") 9) ≡ refused Unknown (at 1)
  pub not_seen : expanded body [] (codes "h") [] (bare (codes "q") 9) ≡ refused Unknown (at 9)
