-- The gate call at each depth is read exactly.
use Rattle.std.proofs.Common.{ℕ, zero, suc, ◌≤◌, List, [], Option, None, refl, arith}
use Rattle.qasm_lexer.specs.declared.token.Keyword.TheVariants as k
use Rattle.qasm_lexer.specs.declared.token.Mark.TheVariants as m
use Rattle.grammar_parts.proofs.Productions.{Reads, reads_then, reads_map, reads_either, reads_nowhere, reads_never}
use Rattle.qasm_expr.specs.TokenKinds.{kind}
use Rattle.qasm_grammar.specs.Parts.{with_change, modifier, changed, modified, call}
use Rattle.qasm_grammar.specs.Reader.{change_kinds, call_kinds, read_modifier, read_changed, read_modified, read_call}
use Rattle.qasm_grammar.proofs.Depths.{Depth, depth_itself, depth}
use Rattle.qasm_grammar.proofs.Pieces.{reads_symbol, reads_plain_call, reads_modifier}
use Rattle.qasm_grammar.proofs.Hits.{Hits, hits_keyword, hits_then, hits_either}

module _ (text : List ℕ) where
  module _ {C : Type 0} {limit : Option ℕ} {room wide : ℕ} (d : Depth text C limit room wide) (h : Reads (kind text) C (modified text limit room) (modified text None wide) (read_modified text limit room) change_kinds []) where
    pub reads_call : Reads (kind text) C (call text limit room) (call text None wide) (read_call text limit room) call_kinds []
    reads_call = reads_either (kind text) h (reads_plain_call text d) refl

    reads_changed : Reads (kind text) C (changed text (modifier text limit room) (call text limit room)) (changed text (modifier text None wide) (call text None wide)) (read_changed text (read_modifier text limit room) (read_call text limit room)) change_kinds []
    reads_changed = reads_then (kind text) (reads_modifier text d) (λ x. reads_then (kind text) (reads_symbol text m.At) (λ a. reads_map (kind text) (with_change x) reads_call) refl) refl

  -- where there is room for a level, each modifier begins a call
  pub hits_modified : (room : ℕ) → Hits text (modified text None (suc room)) change_kinds
  unfolding modified
  hits_modified room = hits_then text (hits_either text (hits_then text (hits_keyword text k.Inv)) (hits_either text (hits_then text (hits_keyword text k.Pow)) (hits_then text (hits_keyword text k.Ctrl))))

  pub modified_itself : (room : ℕ) → Reads (kind text) ⊥ (modified text None room) (modified text None room) (read_modified text None room) change_kinds []
  unfolding modified read_modified
  modified_itself zero = reads_nowhere (kind text) change_kinds []
  modified_itself (suc room) = reads_changed (depth_itself text room) (modified_itself room)

  pub reads_modified : (limit : Option ℕ) (room wide : ℕ) → suc (suc (suc room)) ≤ wide → Reads (kind text) (Unit {0}) (modified text limit room) (modified text None wide) (read_modified text limit room) change_kinds []
  unfolding modified read_modified
  reads_modified limit room zero le = absurd (omega (arith, le))
  reads_modified limit zero (suc wide) le = reads_never (kind text) (modified_itself (suc wide)) (hits_modified wide).hit
  reads_modified limit (suc room) (suc wide) le =
      let less : suc (suc (suc room)) ≤ wide = omega (arith, le) in
      reads_changed (depth text limit room wide less) (reads_modified limit room wide less)
