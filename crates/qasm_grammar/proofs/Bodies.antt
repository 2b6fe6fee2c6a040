-- The bodies of gates and the parameters of subroutines at each depth are read exactly.
use Rattle.std.proofs.Common.{ℕ, zero, suc, ◌≤◌, List, [], Option, None, refl, arith}
use Rattle.qasm_lexer.specs.declared.token.Keyword.TheVariants as k
use Rattle.qasm_lexer.specs.declared.token.Mark.TheVariants as m
use Rattle.grammar_parts.proofs.Sets.{tells_picked}
use Rattle.grammar_parts.proofs.Productions.{Reads, reads_map, reads_either, reads_nowhere, reads_never, may_repeated}
use Rattle.qasm_expr.specs.TokenKinds.{kind}
use Rattle.qasm_expr.specs.Grammar.{plain_types, sized_types}
use Rattle.qasm_expr.specs.Reader.{type_kinds}
use Rattle.qasm_grammar.specs.Parts.{statements, call_statement, any_type, parameter, modified}
use Rattle.qasm_grammar.specs.Grammar.{member, gate_body, inner_parameter}
use Rattle.qasm_grammar.specs.Reader.{symbol_kinds, parameter_kinds, change_kinds, member_kinds, read_modified, read_member, read_gate_body, read_inner_parameter}
use Rattle.qasm_grammar.proofs.Depths.{Depth, depth_itself, depth}
use Rattle.qasm_grammar.proofs.Pieces.{reads_braced, reads_parameter}
use Rattle.qasm_grammar.proofs.Hits.{Hits, hits_one, hits_keyword, hits_symbol, hits_then, hits_either}
use Rattle.qasm_grammar.proofs.CallLaws.{reads_call, modified_itself, reads_modified}
use Rattle.qasm_grammar.proofs.Lines.{reads_barrier_line}

module _ (text : List ℕ) where
  -- ---- the bodies of gates

  module _ {C : Type 0} {limit : Option ℕ} {room wide : ℕ} (d : Depth text C limit room wide) (h : Reads (kind text) C (modified text limit room) (modified text None wide) (read_modified text limit room) change_kinds []) where
    reads_member : Reads (kind text) C (member text limit room) (member text None wide) (read_member text limit room) member_kinds []
    unfolding read_member
    reads_member = reads_either (kind text) (reads_map (kind text) call_statement (reads_call text d h)) (reads_barrier_line text d) refl

    reads_deeper_body : Reads (kind text) C (gate_body text limit (suc room)) (gate_body text None (suc wide)) (read_gate_body text limit (suc room)) (symbol_kinds m.LeftBrace) []
    reads_deeper_body = reads_braced text (read_member text limit room) member_kinds statements (may_repeated (kind text) reads_member refl) refl

  pub gate_body_itself : (room : ℕ) → Reads (kind text) ⊥ (gate_body text None room) (gate_body text None room) (read_gate_body text None room) (symbol_kinds m.LeftBrace) []
  gate_body_itself zero = reads_nowhere (kind text) (symbol_kinds m.LeftBrace) []
  gate_body_itself (suc room) = reads_deeper_body (depth_itself text room) (modified_itself text room)

  hits_gate_body : (room : ℕ) → Hits text (gate_body text None (suc room)) (symbol_kinds m.LeftBrace)
  hits_gate_body room = hits_then text (hits_symbol text m.LeftBrace)

  pub reads_gate_body : (limit : Option ℕ) (room wide : ℕ) → suc (suc (suc room)) ≤ wide → Reads (kind text) (Unit {0}) (gate_body text limit room) (gate_body text None wide) (read_gate_body text limit room) (symbol_kinds m.LeftBrace) []
  reads_gate_body limit room zero le = absurd (omega (arith, le))
  reads_gate_body limit zero (suc wide) le = reads_never (kind text) (gate_body_itself (suc wide)) (hits_gate_body wide).hit
  reads_gate_body limit (suc room) (suc wide) le =
      let less : suc (suc (suc room)) ≤ wide = omega (arith, le) in
      reads_deeper_body (depth text limit room wide less) (reads_modified text limit room wide less)

  -- ---- the parameters of subroutines

  pub hits_type : (room : ℕ) → Hits text (any_type text None room) type_kinds
  hits_type room = hits_either text (hits_then text (hits_one text (tells_picked (kind text) plain_types))) (hits_then text (hits_one text (tells_picked (kind text) sized_types)))

  hits_parameter : (room : ℕ) → Hits text (parameter text None room) parameter_kinds
  hits_parameter room = hits_either text (hits_then text (hits_type room)) (hits_then text (hits_keyword text k.Qubit))

  pub parameter_itself : (room : ℕ) → Reads (kind text) ⊥ (inner_parameter text None room) (inner_parameter text None room) (read_inner_parameter text None room) parameter_kinds []
  parameter_itself zero = reads_nowhere (kind text) parameter_kinds []
  parameter_itself (suc room) = reads_parameter text (depth_itself text room)

  pub reads_inner_parameter : (limit : Option ℕ) (room wide : ℕ) → suc (suc (suc room)) ≤ wide → Reads (kind text) (Unit {0}) (inner_parameter text limit room) (inner_parameter text None wide) (read_inner_parameter text limit room) parameter_kinds []
  reads_inner_parameter limit room zero le = absurd (omega (arith, le))
  reads_inner_parameter limit zero (suc wide) le = reads_never (kind text) (parameter_itself (suc wide)) (hits_parameter wide).hit
  reads_inner_parameter limit (suc room) (suc wide) le = reads_parameter text (depth text limit room wide (omega (arith, le)))
