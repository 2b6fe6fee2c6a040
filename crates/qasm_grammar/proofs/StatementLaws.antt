-- The statement at each depth is read exactly.
use Rattle.std.proofs.Common.{◌≡◌, ℕ, zero, suc, ◌≤◌, false, List, [], Option, Some, None, refl, arith}
use Rattle.qq_base.specs.declared.refusal.Span.{Span}
use Rattle.qasm_lexer.specs.declared.token.Token.{Token}
use Rattle.qasm_lexer.specs.declared.token.Keyword.TheVariants as k
use Rattle.qasm_lexer.specs.declared.token.Mark.TheVariants as m
use Rattle.qasm_ast.specs.Tree.{Name, Scalar, while, a_statement, no_statement}
use Rattle.grammar_parts.specs.Part.{Part}
use Rattle.grammar_parts.specs.Reading.{Reader}
use Rattle.grammar_parts.proofs.Productions.{Reads, reads_nowhere, reads_never}
use Rattle.qasm_expr.specs.TokenKinds.{kind}
use Rattle.qasm_expr.proofs.Tokens.{tells_name}
use Rattle.qasm_grammar.specs.Parts.{Block, Body, Turns, over_range, over_set, Opened, opened_statements, close_or, block_of, body_of, modified}
use Rattle.qasm_grammar.specs.Grammar.{for_of, gate_body, inner_parameter, declaration, action, conditional, while_loop, for_loop, control, stmt_at, stmt}
use Rattle.qasm_grammar.specs.Reader.{word_kinds, symbol_kinds, parameter_kinds, change_kinds, declaration_kinds, action_kinds, control_kinds, stmt_kinds, body_kinds, read_block_of, read_body_of, read_modified, read_gate_body, read_inner_parameter, read_conditional, read_while_loop, read_for_loop, read_control, read_stmt_at, read_stmt}
use Rattle.qasm_grammar.proofs.Depths.{Depth, depth_itself, depth}
use Rattle.qasm_grammar.proofs.Pieces.{reads_keyword, reads_name, reads_braced, reads_condition, reads_any_type, reads_turns}
use Rattle.qasm_grammar.proofs.Hits.{Hits, hits_one, hits_keyword, hits_symbol, hits_then, hits_either}
use Rattle.qasm_grammar.proofs.CallLaws.{hits_modified, modified_itself, reads_modified}
use Rattle.qasm_grammar.proofs.Lines.{reads_declaration, reads_action}
use Rattle.qasm_grammar.proofs.Openings.{ReadsOpen, open_closed, open_map, open_behind, open_either, open_never, may_open_repeated, open_nowhere, reads_bodies}
use Rattle.qasm_grammar.proofs.Bodies.{gate_body_itself, reads_gate_body, hits_type, parameter_itself, reads_inner_parameter}

-- a loop is open where its body is
for_is_open : (s : Scalar) (x : Name) (r : Turns) (place : Span) (c : Body) → (for_of s x r c place).1 ≡ c.is_open
for_is_open s x (over_range start step stop) place c = refl
for_is_open s x (over_set es) place c = refl

module _ (text : List ℕ) where
  -- ---- blocks and bodies

  module _ {C : Type 0} {p q : Part Token Opened} {r : Reader Token Opened} (f : ReadsOpen text C (λ s. s.1) p q r stmt_kinds) where
    reads_block : Reads (kind text) C (block_of text p) (block_of text q) (read_block_of text r) (symbol_kinds m.LeftBrace) []
    reads_block = reads_braced text r stmt_kinds opened_statements (may_open_repeated text f refl) refl

    reads_body : ReadsOpen text C (λ c. c.is_open) (body_of text p) (body_of text q) (read_body_of text r) body_kinds
    unfolding read_body_of
    reads_body = open_either text (open_closed text (λ c. c.is_open) (λ c. record { statements = c.statements; is_open = false; close = Some c.close }) reads_block) (open_map text (λ c. c.is_open) (λ s. record { statements = a_statement s.0 no_statement; is_open = s.1; close = None }) (λ s. refl) f) refl

  -- ---- statements, where the parts at their depth are read exactly

  module _ {C : Type 0} {limit : Option ℕ} {room wide : ℕ} (d : Depth text C limit room wide) where
    module _ {pb qb : Part Token Body} {rb : Reader Token Body} (body : ReadsOpen text C (λ c. c.is_open) pb qb rb body_kinds) where
      reads_conditional : ReadsOpen text C (λ s. s.1) (conditional text limit room pb) (conditional text None wide qb) (read_conditional text limit room rb) (word_kinds k.If)
      unfolding read_conditional
      reads_conditional = open_behind text (reads_keyword text k.If) (λ w. open_behind text (reads_condition text d) (λ e. reads_bodies text body e w.at) refl) refl

      reads_while_loop : ReadsOpen text C (λ s. s.1) (while_loop text limit room pb) (while_loop text None wide qb) (read_while_loop text limit room rb) (word_kinds k.While)
      unfolding read_while_loop
      reads_while_loop = open_behind text (reads_keyword text k.While) (λ w. open_behind text (reads_condition text d) (λ e. open_map text (λ s. s.1) (λ c. (while e c.statements w.at (close_or c.close w.at), c.is_open)) (λ c. refl) body) refl) refl

      reads_for_loop : ReadsOpen text C (λ s. s.1) (for_loop text limit room pb) (for_loop text None wide qb) (read_for_loop text limit room rb) (word_kinds k.For)
      unfolding read_for_loop
      reads_for_loop = open_behind text (reads_keyword text k.For) (λ w. open_behind text (reads_any_type text d) (λ s. open_behind text (reads_name text) (λ x. open_behind text (reads_keyword text k.In) (λ i. open_behind text (reads_turns text d) (λ r. open_map text (λ s. s.1) (λ c. for_of s x r c w.at) (for_is_open s x r w.at) body) refl) refl) refl) refl) refl

      reads_control : ReadsOpen text C (λ s. s.1) (control text limit room pb) (control text None wide qb) (read_control text limit room rb) control_kinds
      unfolding read_control
      reads_control = open_either text reads_conditional (open_either text reads_while_loop reads_for_loop refl) refl

    reads_stmt_at : Reads (kind text) C (modified text limit room) (modified text None wide) (read_modified text limit room) change_kinds []
        → Reads (kind text) C (gate_body text limit room) (gate_body text None wide) (read_gate_body text limit room) (symbol_kinds m.LeftBrace) []
        → Reads (kind text) C (inner_parameter text limit room) (inner_parameter text None wide) (read_inner_parameter text limit room) parameter_kinds []
        → {pc qc : Part Token Block} {rc : Reader Token Block} → Reads (kind text) C pc qc rc (symbol_kinds m.LeftBrace) []
        → {pb qb : Part Token Body} {rb : Reader Token Body} → ReadsOpen text C (λ c. c.is_open) pb qb rb body_kinds
        → ReadsOpen text C (λ s. s.1) (stmt_at text limit room pc pb) (stmt_at text None wide qc qb) (read_stmt_at text limit room rc rb) stmt_kinds
    unfolding read_stmt_at
    reads_stmt_at calls gates one_parameter block body =
        open_either text (open_closed text (λ s. s.1) (λ s. (s, false)) (reads_declaration text d gates one_parameter block))
        (open_either text (open_closed text (λ s. s.1) (λ s. (s, false)) (reads_action text d calls)) (reads_control body) refl) refl

  -- ---- each token of the kinds begins a statement, where there is room for a level

  hits_declaration : (room : ℕ) (block : Part Token Block) → Hits text (declaration text None room block) declaration_kinds
  hits_declaration room block =
      hits_either text (hits_then text (hits_keyword text k.Include))
      (hits_either text (hits_then text (hits_keyword text k.Qubit))
      (hits_either text (hits_then text (hits_keyword text k.Qreg))
      (hits_either text (hits_then text (hits_keyword text k.Creg))
      (hits_either text (hits_then text (hits_type text room))
      (hits_either text (hits_then text (hits_keyword text k.Const))
      (hits_either text (hits_then text (hits_keyword text k.Output))
      (hits_either text (hits_then text (hits_keyword text k.Let))
      (hits_either text (hits_then text (hits_keyword text k.Gate)) (hits_then text (hits_keyword text k.Def))))))))))

  hits_action : (room : ℕ) → Hits text (action text None (suc room)) action_kinds
  hits_action room =
      hits_either text (hits_then text (hits_keyword text k.Barrier))
      (hits_either text (hits_then text (hits_keyword text k.Reset))
      (hits_either text (hits_then text (hits_keyword text k.Measure))
      (hits_either text (hits_then text (hits_keyword text k.Break))
      (hits_either text (hits_then text (hits_keyword text k.Continue))
      (hits_either text (hits_then text (hits_keyword text k.End))
      (hits_either text (hits_then text (hits_keyword text k.Return))
      (hits_either text (hits_then text (hits_modified text room))
      (hits_either text (hits_then text (hits_then text (hits_keyword text k.Gphase))) (hits_then text (hits_one text (tells_name text)))))))))))

  hits_control : (room : ℕ) (body : Part Token Body) → Hits text (control text None room body) control_kinds
  hits_control room body = hits_either text (hits_then text (hits_keyword text k.If)) (hits_either text (hits_then text (hits_keyword text k.While)) (hits_then text (hits_keyword text k.For)))

  hits_stmt : (room : ℕ) → Hits text (stmt text None (suc room)) stmt_kinds
  unfolding stmt
  hits_stmt room =
      let block : Part Token Block = block_of text (stmt text None room) in
      hits_either text (hits_then text (hits_declaration (suc room) block)) (hits_either text (hits_then text (hits_action room)) (hits_control (suc room) (body_of text (stmt text None room))))

  hits_block : (room : ℕ) → Hits text (block_of text (stmt text None room)) (symbol_kinds m.LeftBrace)
  hits_block room = hits_then text (hits_symbol text m.LeftBrace)

  hits_body : (room : ℕ) → Hits text (body_of text (stmt text None (suc room))) body_kinds
  hits_body room = hits_either text (hits_then text (hits_block (suc room))) (hits_then text (hits_stmt room))

  -- ---- the statement at each depth

  pub stmt_itself : (room : ℕ) → ReadsOpen text ⊥ (λ s. s.1) (stmt text None room) (stmt text None room) (read_stmt text None room) stmt_kinds
  unfolding stmt read_stmt
  stmt_itself zero = reads_stmt_at (depth_itself text zero) (modified_itself text zero) (gate_body_itself text zero) (parameter_itself text zero) (reads_nowhere (kind text) (symbol_kinds m.LeftBrace) []) (open_nowhere text (λ c. c.is_open) body_kinds)
  stmt_itself (suc room) = reads_stmt_at (depth_itself text (suc room)) (modified_itself text (suc room)) (gate_body_itself text (suc room)) (parameter_itself text (suc room)) (reads_block (stmt_itself room)) (reads_body (stmt_itself room))

  pub reads_stmt : (limit : Option ℕ) (room wide : ℕ) → suc (suc (suc room)) ≤ wide → ReadsOpen text (Unit {0}) (λ s. s.1) (stmt text limit room) (stmt text None wide) (read_stmt text limit room) stmt_kinds
  unfolding stmt read_stmt
  reads_stmt limit room zero le = absurd (omega (arith, le))
  reads_stmt limit room (suc zero) le = absurd (omega (arith, le))
  reads_stmt limit zero (suc (suc wide)) le =
      reads_stmt_at (depth text limit zero (suc (suc wide)) le) (reads_modified text limit zero (suc (suc wide)) le) (reads_gate_body text limit zero (suc (suc wide)) le) (reads_inner_parameter text limit zero (suc (suc wide)) le)
      (reads_never (kind text) (reads_block (stmt_itself (suc wide))) (hits_block (suc wide)).hit) (open_never text (reads_body (stmt_itself (suc wide))) (hits_body wide).hit)
  reads_stmt limit (suc room) (suc (suc wide)) le =
      let inner : ReadsOpen text (Unit {0}) (λ s. s.1) (stmt text limit room) (stmt text None (suc wide)) (read_stmt text limit room) stmt_kinds = reads_stmt limit room (suc wide) (omega (arith, le)) in
      reads_stmt_at (depth text limit (suc room) (suc (suc wide)) le) (reads_modified text limit (suc room) (suc (suc wide)) le) (reads_gate_body text limit (suc room) (suc (suc wide)) le) (reads_inner_parameter text limit (suc room) (suc (suc wide)) le)
      (reads_block inner) (reads_body inner)
