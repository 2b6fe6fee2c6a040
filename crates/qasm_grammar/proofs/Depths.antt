-- What a statement asks of the expressions at its depth and one level deeper, at each depth.
use Rattle.std.proofs.Common.{ℕ, zero, suc, ◌≤◌, List, Option, None, arith}
use Rattle.grammar_parts.proofs.Productions.{Reads, Opens, reads_nowhere, opens_none, opens_some, opens_self}
use Rattle.qasm_expr.specs.TokenKinds.{kind}
use Rattle.qasm_expr.specs.Grammar.{expr}
use Rattle.qasm_expr.specs.Reader.{expr_kinds, content_kinds, read_expr}
use Rattle.qasm_expr.proofs.Exprs.{expr_more, colon_more, reads_content}
use Rattle.qasm_expr.proofs.Levels.{expr_itself, shut_expr, shut_content, reads_expr}
use Rattle.qasm_grammar.specs.Parts.{inner, inside}
use Rattle.qasm_grammar.specs.Reader.{read_inner, read_inside}

module _ (text : List ℕ) where
  -- The limited grammar with this room, against the one without limits with that much.
  pub record Depth (C : Type 0) (limit : Option ℕ) (room wide : ℕ) : Type 1 where
    pub expr : Reads (kind text) C (expr text limit room) (expr text None wide) (read_expr text limit room) expr_kinds expr_more
    pub inner : Reads (kind text) C (inner text limit room) (inner text None wide) (read_inner text limit room) expr_kinds expr_more
    pub inside : Reads (kind text) C (inside text limit room) (inside text None wide) (read_inside text limit room) content_kinds colon_more
    pub opens : Opens (kind text) C room wide

  -- ---- the grammar without limits, against itself

  inner_itself : (room : ℕ) → Reads (kind text) ⊥ (inner text None room) (inner text None room) (read_inner text None room) expr_kinds expr_more
  inner_itself zero = reads_nowhere (kind text) expr_kinds expr_more
  inner_itself (suc room) = expr_itself text room

  inside_itself : (room : ℕ) → Reads (kind text) ⊥ (inside text None room) (inside text None room) (read_inside text None room) content_kinds colon_more
  inside_itself zero = reads_nowhere (kind text) content_kinds colon_more
  inside_itself (suc room) = reads_content text (expr_itself text room) (inner_itself room) (opens_self (kind text) room)

  pub depth_itself : (room : ℕ) → Depth ⊥ None room room
  depth_itself room = record { expr = expr_itself text room; inner = inner_itself room; inside = inside_itself room; opens = opens_self (kind text) room }

  -- ---- the limited grammar, against a wide one with room for three levels more

  opens_at : (room wide : ℕ) → suc (suc (suc room)) ≤ wide → Opens (kind text) (Unit {0}) room wide
  opens_at room zero le = absurd (omega (arith, le))
  opens_at zero (suc wide) le = opens_none (kind text) wide
  opens_at (suc room) (suc wide) le = opens_some (kind text) room wide

  reads_inner : (limit : Option ℕ) (room wide : ℕ) → suc (suc (suc room)) ≤ wide → Reads (kind text) (Unit {0}) (inner text limit room) (inner text None wide) (read_inner text limit room) expr_kinds expr_more
  reads_inner limit room zero le = absurd (omega (arith, le))
  reads_inner limit room (suc zero) le = absurd (omega (arith, le))
  reads_inner limit zero (suc (suc wide)) le = shut_expr text wide
  reads_inner limit (suc room) (suc (suc wide)) le = reads_expr text limit room (suc wide) (omega (arith, le))

  reads_inside : (limit : Option ℕ) (room wide : ℕ) → suc (suc (suc room)) ≤ wide → Reads (kind text) (Unit {0}) (inside text limit room) (inside text None wide) (read_inside text limit room) content_kinds colon_more
  reads_inside limit room zero le = absurd (omega (arith, le))
  reads_inside limit room (suc zero) le = absurd (omega (arith, le))
  reads_inside limit zero (suc (suc wide)) le = shut_content text wide
  reads_inside limit (suc room) (suc (suc wide)) le =
      let less : suc (suc (suc room)) ≤ suc wide = omega (arith, le) in
      reads_content text (reads_expr text limit room (suc wide) less) (reads_inner limit room (suc wide) less) (opens_at room (suc wide) less)

  pub depth : (limit : Option ℕ) (room wide : ℕ) → suc (suc (suc room)) ≤ wide → Depth (Unit {0}) limit room wide
  depth limit room wide le = record { expr = reads_expr text limit room wide le; inner = reads_inner limit room wide le; inside = reads_inside limit room wide le; opens = opens_at room wide le }
