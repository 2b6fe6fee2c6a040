-- The graphs of four cores that are written out by hand: one for each statement.
use Rattle.std.specs.Prelude.{◌≡◌, refl, ℕ, true, false, if◌then◌else◌, List, [], ◌∷◌, map, slice_get, pos, Option, Some, None}
use Rattle.qq_base.specs.declared.run.QubitId.{QubitId}
use Rattle.qir_module.specs.declared.instruction.Operand.{Operand}
use Rattle.qir_module.specs.declared.instruction.Operand.TheVariants.{Fixed, Register}
use Rattle.qir_module.specs.declared.instruction.Arg.TheVariants.{Number, Truth, Id, Text}
use Rattle.qir_module.specs.declared.instruction.Last.TheVariants.{Jump, Branch, Return}
use Rattle.core_ir.specs.declared.expression.CellKind.TheVariants.{Truth as TruthKind, Number as NumberKind}
use Rattle.core_ir.specs.declared.expression.CoreExpr.{CoreExpr}
use Rattle.core_ir.specs.declared.expression.CoreExpr.TheVariants.{Cell as CellNode, Truth as TruthNode, Number as NumberNode}
use Rattle.core_ir.specs.declared.statement.GateArg.TheVariants.{Unused, Running}
use Rattle.core_ir.specs.declared.statement.CoreStmt.TheVariants.{Assign, Gate, Reset, Measure, If, Block, Loop, Leave, Again}
use Rattle.core_ir.specs.declared.program.Output.TheVariants.{Truth as TruthOutput, Number as NumberOutput}
use Rattle.core_ir.specs.Core.{Core}
use Rattle.core_ir.specs.Tree.{expr_of, stmt_of}
use Rattle.cell_operands.specs.Operands.{operand_of}
use Rattle.block_graph.specs.Lowering.{Coder, call, lowered}

abbrev qubit : ℕ → QubitId
qubit n = record { 0 = n }

-- cells and constants alone, which need no code
abbrev plain_operand : List Operand → Option CoreExpr → Operand
plain_operand values (Some (CellNode c)) = operand_of values c
plain_operand values (Some (TruthNode b)) = Fixed (if b then pos 1 else pos 0)
plain_operand values (Some (NumberNode z)) = Fixed z
plain_operand values _ = Fixed (pos 0)

abbrev plain : List CoreExpr → Coder
plain nodes exprs values next = record { code = []; operands = map (λ e. plain_operand values (slice_get nodes e)) exprs }

-- c1 = 7; p(c1) q[0]; reset q[0]; c0 = measure q[0];
abbrev straight : Core
straight = record {
  cells = TruthKind ∷ NumberKind ∷ [];
  exprs = NumberNode (pos 7) ∷ CellNode 1 ∷ [];
  stmts = Assign ((1, 0) ∷ []) ∷ Gate (record { gate = record { 0 = 11 }; args = Running 1 ∷ Unused ∷ Unused ∷ Unused ∷ []; qubits = qubit 0 ∷ qubit 0 ∷ qubit 0 ∷ [] }) ∷ Reset (qubit 0) ∷ Measure (qubit 0) (Some 0) ∷ [];
  body = 0 ∷ 1 ∷ 2 ∷ 3 ∷ [];
  outputs = TruthOutput 0 0 ∷ NumberOutput 1 1 ∷ [];
  labels = (99 ∷ 0 ∷ []) ∷ (0 ∷ []) ∷ [];
  qubits = 1;
}

pub straight_graph : (lowered straight (plain straight.exprs)).blocks
    ≡ record {
      name = 0;
      phis = [];
      body = call None 0 (Id 0 ∷ [])
          ∷ call None 18 (Number (Fixed (pos 7)) ∷ Id 0 ∷ [])
          ∷ call None 5 (Id 0 ∷ [])
          ∷ call None 6 (Id 0 ∷ Id 0 ∷ [])
          ∷ call (Some 0) 1 (Id 0 ∷ [])
          ∷ call None 3 (Truth (Register 0) ∷ Text 0 ∷ [])
          ∷ call None 4 (Number (Fixed (pos 7)) ∷ Text 1 ∷ [])
          ∷ [];
      last = Return (pos 0);
    } ∷ []
unfolding expr_of stmt_of
straight_graph = refl

pub straight_results : (lowered straight (plain straight.exprs)).results ≡ 1
unfolding expr_of stmt_of
straight_results = refl

-- exactly the functions that are called, in the order of the table
pub straight_declares : map (λ f. f.0) (lowered straight (plain straight.exprs)).declarations ≡ 0 ∷ 1 ∷ 3 ∷ 4 ∷ 5 ∷ 6 ∷ 18 ∷ []
unfolding expr_of stmt_of
straight_declares = refl

-- c0 = measure q[0]; if (c0) { c1 = 5; } else { c1 = 6; }
abbrev choice : Core
choice = record {
  cells = TruthKind ∷ NumberKind ∷ [];
  exprs = CellNode 0 ∷ NumberNode (pos 5) ∷ NumberNode (pos 6) ∷ [];
  stmts = Measure (qubit 0) (Some 0) ∷ If 0 (2 ∷ []) (3 ∷ []) ∷ Assign ((1, 1) ∷ []) ∷ Assign ((1, 2) ∷ []) ∷ [];
  body = 0 ∷ 1 ∷ [];
  outputs = NumberOutput 0 1 ∷ [];
  labels = (99 ∷ 0 ∷ []) ∷ [];
  qubits = 1;
}

-- the two ways differ in c1 alone
pub choice_graph : (lowered choice (plain choice.exprs)).blocks
    ≡ record { name = 0; phis = []; body = call None 0 (Id 0 ∷ []) ∷ call None 6 (Id 0 ∷ Id 0 ∷ []) ∷ call (Some 0) 1 (Id 0 ∷ []) ∷ []; last = Branch (Register 0) 1 2 }
    ∷ record { name = 1; phis = []; body = []; last = Jump 3 }
    ∷ record { name = 2; phis = []; body = []; last = Jump 3 }
    ∷ record {
      name = 3;
      phis = record { register = 1; number = true; entries = (Fixed (pos 5), 1) ∷ (Fixed (pos 6), 2) ∷ [] } ∷ [];
      body = call None 4 (Number (Register 1) ∷ Text 0 ∷ []) ∷ [];
      last = Return (pos 0);
    } ∷ []
unfolding expr_of stmt_of
choice_graph = refl

-- loop { c0 = measure q[0]; if (c0) leave; go back }
abbrev waiting : Core
waiting = record {
  cells = TruthKind ∷ NumberKind ∷ [];
  exprs = CellNode 0 ∷ [];
  stmts = Loop (1 ∷ 2 ∷ 3 ∷ []) ∷ Measure (qubit 0) (Some 0) ∷ If 0 (4 ∷ []) [] ∷ Again 0 ∷ Leave 0 ∷ [];
  body = 0 ∷ [];
  outputs = TruthOutput 0 0 ∷ [];
  labels = (99 ∷ 0 ∷ []) ∷ [];
  qubits = 1;
}

-- The loop's start has a phi for c0, which the body assigns, and none for c1; the body that never reaches its end has no
-- block behind it; one way alone leads to the loop's end.
pub waiting_graph : (lowered waiting (plain waiting.exprs)).blocks
    ≡ record { name = 0; phis = []; body = call None 0 (Id 0 ∷ []) ∷ []; last = Jump 1 }
    ∷ record {
      name = 1;
      phis = record { register = 0; number = false; entries = (Fixed (pos 0), 0) ∷ (Register 1, 3) ∷ [] } ∷ [];
      body = call None 6 (Id 0 ∷ Id 0 ∷ []) ∷ call (Some 1) 1 (Id 0 ∷ []) ∷ [];
      last = Branch (Register 1) 2 3;
    }
    ∷ record { name = 2; phis = []; body = []; last = Jump 4 }
    ∷ record { name = 3; phis = []; body = []; last = Jump 1 }
    ∷ record { name = 4; phis = []; body = call None 3 (Truth (Register 1) ∷ Text 0 ∷ []) ∷ []; last = Return (pos 0) }
    ∷ []
unfolding expr_of stmt_of
waiting_graph = refl

-- c0 = measure q[0]; block { if (c0) leave; c1 = 5; }
abbrev leaving : Core
leaving = record {
  cells = TruthKind ∷ NumberKind ∷ [];
  exprs = CellNode 0 ∷ NumberNode (pos 5) ∷ [];
  stmts = Measure (qubit 0) (Some 0) ∷ Block (2 ∷ 3 ∷ []) ∷ If 0 (4 ∷ []) [] ∷ Assign ((1, 1) ∷ []) ∷ Leave 0 ∷ [];
  body = 0 ∷ 1 ∷ [];
  outputs = NumberOutput 0 1 ∷ [];
  labels = (99 ∷ 0 ∷ []) ∷ [];
  qubits = 1;
}

-- what falls off the block's end leaves it, as the one that leaves does
pub leaving_graph : (lowered leaving (plain leaving.exprs)).blocks
    ≡ record { name = 0; phis = []; body = call None 0 (Id 0 ∷ []) ∷ call None 6 (Id 0 ∷ Id 0 ∷ []) ∷ call (Some 0) 1 (Id 0 ∷ []) ∷ []; last = Branch (Register 0) 1 2 }
    ∷ record { name = 1; phis = []; body = []; last = Jump 3 }
    ∷ record { name = 2; phis = []; body = []; last = Jump 3 }
    ∷ record {
      name = 3;
      phis = record { register = 1; number = true; entries = (Fixed (pos 0), 1) ∷ (Fixed (pos 5), 2) ∷ [] } ∷ [];
      body = call None 4 (Number (Register 1) ∷ Text 0 ∷ []) ∷ [];
      last = Return (pos 0);
    } ∷ []
unfolding expr_of stmt_of
leaving_graph = refl
