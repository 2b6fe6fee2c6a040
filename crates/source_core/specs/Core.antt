-- The core that a program is elaborated to, as a tree: expressions stand within statements, and a body is a list of statements. Each
-- statement does what the statement of `core_ir` with its name does.
use Rattle.std.specs.Prelude.{ℕ, Bool, true, false, List, [], ◌∷◌, ℤ, Option}
use Rattle.qq_base.specs.declared.run.GateId.{GateId}
use Rattle.qq_base.specs.declared.run.QubitId.{QubitId}
use Rattle.core_ir.specs.Tree.{Expr}

-- An argument of a gate, in units of 2^-32 turn: none at this place, one that is known before the run, or the value of an expression.
pub data Argument : Type 0 where
  Unused : Argument
  Units : (units : ℤ) → Argument
  Running : (e : Expr) → Argument

mutual
  pub data Core : Type 0 where
    Assign : (pairs : List (ℕ × Expr)) → Core
    Gate : (gate : GateId) (arguments : List Argument) (qubits : List QubitId) → Core
    Reset : (qubit : QubitId) → Core
    Measure : (qubit : QubitId) (into : Option ℕ) → Core
    If : (test : Expr) (a b : Body) → Core
    Block : (a : Body) → Core
    Loop : (a : Body) → Core
    Leave : (k : ℕ) → Core
    Again : (k : ℕ) → Core

  pub data Body : Type 0 where
    no_core : Body
    a_core : (c : Core) (rest : Body) → Body

-- one body behind another
abbrev pub joined : Body → Body → Body
joined no_core b = b
joined (a_core c rest) b = a_core c (joined rest b)

abbrev pub only_core : Core → Body
only_core c = a_core c no_core

-- a list of statements as a body
abbrev pub body_of_all : List Core → Body
body_of_all [] = no_core
body_of_all (c ∷ cs) = a_core c (body_of_all cs)

-- cells with what is stored in them, at once; where there are none, no statement
abbrev pub assigned : List (ℕ × Expr) → Body
assigned [] = no_core
assigned (p ∷ pairs) = only_core (Assign (p ∷ pairs))

-- a body, in a block of its own where it is left from within
abbrev pub block_where : Bool → Body → Body
block_where true body = only_core (Block body)
block_where false body = body
