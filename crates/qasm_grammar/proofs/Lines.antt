-- Each statement that is no control statement is read exactly, where the parts at its depth are.
use Rattle.std.proofs.Common.{◌≡◌, inl, ℕ, true, List, [], ◌∷◌, ◌++◌, Option, Some, None, refl}
use Rattle.qq_base.specs.declared.refusal.Span.{Span}
use Rattle.qasm_lexer.specs.declared.token.Token.{Token}
use Rattle.qasm_lexer.specs.declared.token.Keyword.{Keyword}
use Rattle.qasm_lexer.specs.declared.token.Keyword.TheVariants as k
use Rattle.qasm_lexer.specs.declared.token.Mark.TheVariants as m
use Rattle.qasm_ast.specs.declared.expr.Base.TheVariants as b
use Rattle.qasm_ast.specs.Tree.{Tree, call as call_tree, trees, maybe, Operand, expression, Statement, include, qubits, variable, constant, output, alias, gate, subroutine, barrier, reset, measurement, assign, invoke, break, continue, end, give}
use Rattle.grammar_parts.specs.Part.{Part, one, then}
use Rattle.grammar_parts.specs.Reading.{Reader, ◌>>=◌, take_one}
use Rattle.grammar_parts.specs.Kinds.{disjoint, Among, kinds_of}
use Rattle.grammar_parts.specs.Law.{Follows, Filled}
use Rattle.grammar_parts.proofs.Following.{follows_one, follows_then, follows_wider}
use Rattle.grammar_parts.proofs.Sets.{tells_marked, tells_picked, has_apart}
use Rattle.grammar_parts.proofs.Productions.{Reads, May, filled_one, filled_then, reads_one, reads_then, may_then, reads_map, reads_either, may_left_out, may_repeated, may_list}
use Rattle.qasm_expr.specs.TokenKinds.{mark_kind, kind}
use Rattle.qasm_expr.specs.Grammar.{scalar, comma}
use Rattle.qasm_expr.specs.Reader.{type_kinds, read_between}
use Rattle.qasm_expr.proofs.Tokens.{tells_name}
use Rattle.qasm_grammar.specs.Parts.{Block, declared, operand_at, call_statement, modified}
use Rattle.qasm_grammar.specs.Grammar.{assign_operators, at_one, word_line, inclusion, version_line, qubit_line, qreg_line, creg_line, variable_line, constant_line, output_line, joined, alias_line, barrier_line, gate_body, any_gate_parameters, gate_definition, inner_parameter, parameters, result, subroutine_definition, declaration, reset_line, measure_line, return_line, assigned, assignment, gate_call_line, behind_name, named_line, action}
use Rattle.qasm_grammar.specs.Reader.{word_kinds, symbol_kinds, name_kinds, operand_kinds, parameter_kinds, change_kinds, assignment_kinds, declaration_kinds, action_kinds, read_modified, read_word_line, read_inclusion, read_version_line, read_qubit_line, read_qreg_line, read_creg_line, read_variable_line, read_constant_line, read_output_line, read_joined, read_alias_line, read_barrier_line, read_gate_body, read_any_gate_parameters, read_gate_definition, read_inner_parameter, read_parameters, read_result, read_subroutine_definition, read_declaration, read_reset_line, read_measure_line, read_return_line, read_assigned, read_assignment, read_gate_call_line, read_behind_name, read_named_line, read_action}
use Rattle.qasm_grammar.proofs.Tokens.{version_among, included_among}
use Rattle.qasm_grammar.proofs.Depths.{Depth}
use Rattle.qasm_grammar.proofs.Pieces.{may_optional, reads_keyword, reads_symbol, reads_ended, reads_name, reads_names, may_width, reads_any_type, may_indexes, reads_target, reads_operand, may_operands, reads_value, reads_call_arguments, reads_applied, reads_phase}

module _ (text : List ℕ) {C : Type 0} where
  -- a token of some kinds, of which not each passes the test, behind another part
  module _ {A B D : Type 0} {p q : Part Token A} {r : Reader Token A} {F M : List ℕ} (f : Reads (kind text) C p q r F M) {test : Token → Option B} (G : List ℕ) (sound : (x : Token) (a : B) → test x ≡ Some a → Among (kind text) G x) (apart : disjoint M G ≡ true) where
    follows_token : {p' q' : B → Part Token D} {s : B → Reader Token D} {H L : List ℕ} → ((a : B) → Reads (kind text) C (p' a) (q' a) (s a) H L) → Follows C (then (one test) p') (then (one test) q') (take_one test >>= s) (Among (kind text) G) (λ b. Among (kind text) L)
    follows_token g = follows_then (follows_wider (follows_one test) (λ t h. sound t h.0 h.1) (λ a t x. x)) (λ a. (g a).follows) (λ a t m h. absurd m) (λ t h. h) (λ a t d h. absurd ((filled_one (kind text) test).never_empty a d)) (λ a c t d m. absurd m)

    reads_then_token : {p' q' : A → B → Part Token D} {s : A → B → Reader Token D} {H L : List ℕ} → ((w : A) (a : B) → Reads (kind text) C (p' w a) (q' w a) (s w a) H L) → Reads (kind text) C (then p (λ w. then (one test) (p' w))) (then q (λ w. then (one test) (q' w))) (r >>= (λ w. take_one test >>= s w)) F L
    reads_then_token {q' = q'} g = record {
      follows = follows_then f.follows (λ w. follows_token (g w)) (λ w t. has_apart M G apart (kind text t)) (λ t h. h) (λ w t d h. absurd (f.filled.never_empty w d)) (λ w c t d m. absurd ((filled w).never_empty c d));
      filled = filled_then (kind text) f.filled;
      hit = λ c t h. inl (f.hit c t h);
    }
      where
        filled : (w : A) → Filled (then (one test) (q' w))
        filled w = filled_then (kind text) (filled_one (kind text) test)

  pub reads_word_line : (w : Keyword) (statement : Span → Span → Statement) → Reads (kind text) C (word_line text w statement) (word_line text w statement) (read_word_line text w statement) (word_kinds w) []
  unfolding read_word_line
  reads_word_line w statement = reads_then (kind text) (reads_keyword text w) (λ x. reads_ended text (at_one statement x.at)) refl

  reads_inclusion : Reads (kind text) C (inclusion text) (inclusion text) (read_inclusion text) (word_kinds k.Include) []
  unfolding read_inclusion
  reads_inclusion = reads_then_token (reads_keyword text k.Include) (3 ∷ 4 ∷ []) (included_among text) refl (λ w x. reads_ended text (at_one include w.at))

  pub reads_version_line : Reads (kind text) C (version_line text) (version_line text) (read_version_line text) (word_kinds k.OpenQasm) []
  unfolding read_version_line
  reads_version_line = reads_then_token (reads_keyword text k.OpenQasm) (5 ∷ []) (version_among text) refl (λ w v. reads_ended text v)

  module _ {limit : Option ℕ} {room wide : ℕ} (d : Depth text C limit room wide) where
    -- ---- declarations

    reads_qubit_line : Reads (kind text) C (qubit_line text limit room) (qubit_line text None wide) (read_qubit_line text limit room) (word_kinds k.Qubit) []
    unfolding read_qubit_line
    reads_qubit_line = reads_then (kind text) (reads_keyword text k.Qubit) (λ w. may_then (kind text) (may_width text d) (λ e. reads_then (kind text) (reads_name text) (λ x. reads_ended text (at_one (qubits (scalar b.Qubit (maybe e) w.at) x) w.at)) refl) refl) refl

    reads_qreg_line : Reads (kind text) C (qreg_line text limit room) (qreg_line text None wide) (read_qreg_line text limit room) (word_kinds k.Qreg) []
    unfolding read_qreg_line
    reads_qreg_line = reads_then (kind text) (reads_keyword text k.Qreg) (λ w. reads_then (kind text) (reads_name text) (λ x. may_then (kind text) (may_width text d) (λ e. reads_ended text (at_one (qubits (scalar b.Qubit (maybe e) w.at) x) w.at)) refl) refl) refl

    reads_creg_line : Reads (kind text) C (creg_line text limit room) (creg_line text None wide) (read_creg_line text limit room) (word_kinds k.Creg) []
    unfolding read_creg_line
    reads_creg_line = reads_then (kind text) (reads_keyword text k.Creg) (λ w. reads_then (kind text) (reads_name text) (λ x. may_then (kind text) (may_width text d) (λ e. reads_ended text (at_one (variable (scalar b.Bit (maybe e) w.at) x None) w.at)) refl) refl) refl

    reads_variable_line : Reads (kind text) C (variable_line text limit room) (variable_line text None wide) (read_variable_line text limit room) type_kinds []
    unfolding read_variable_line
    reads_variable_line = reads_then (kind text) (reads_any_type text d) (λ s. reads_then (kind text) (reads_name text) (λ x. may_then (kind text) (may_optional text (reads_then (kind text) (reads_symbol text m.Assign) (λ a. reads_value text d) refl) refl) (λ v. reads_ended text (at_one (variable s x v) s.place)) refl) refl) refl

    reads_constant_line : Reads (kind text) C (constant_line text limit room) (constant_line text None wide) (read_constant_line text limit room) (word_kinds k.Const) []
    unfolding read_constant_line
    reads_constant_line = reads_then (kind text) (reads_keyword text k.Const) (λ w. reads_then (kind text) (reads_any_type text d) (λ s. reads_then (kind text) (reads_name text) (λ x. reads_then (kind text) (reads_symbol text m.Assign) (λ a. reads_then (kind text) d.expr (λ e. reads_ended text (at_one (constant s x e) w.at)) refl) refl) refl) refl) refl

    reads_output_line : Reads (kind text) C (output_line text limit room) (output_line text None wide) (read_output_line text limit room) (word_kinds k.Output) []
    unfolding read_output_line
    reads_output_line = reads_then (kind text) (reads_keyword text k.Output) (λ w. reads_then (kind text) (reads_any_type text d) (λ s. reads_then (kind text) (reads_name text) (λ x. reads_ended text (at_one (output s x) w.at)) refl) refl) refl

    reads_joined : Reads (kind text) C (joined text limit room) (joined text None wide) (read_joined text limit room) (symbol_kinds m.PlusPlus) (symbol_kinds m.LeftBracket)
    reads_joined = reads_then (kind text) (reads_symbol text m.PlusPlus) (λ p. reads_operand text d) refl

    reads_alias_line : Reads (kind text) C (alias_line text limit room) (alias_line text None wide) (read_alias_line text limit room) (word_kinds k.Let) []
    unfolding read_alias_line
    reads_alias_line = reads_then (kind text) (reads_keyword text k.Let) (λ w. reads_then (kind text) (reads_name text) (λ x. reads_then (kind text) (reads_symbol text m.Assign) (λ a. reads_then (kind text) (reads_operand text d) (λ o. may_then (kind text) (may_repeated (kind text) reads_joined refl) (λ os. reads_ended text (at_one (alias x (o ∷ os)) w.at)) refl) refl) refl) refl) refl

    -- ---- gates and subroutines

    pub reads_barrier_line : Reads (kind text) C (barrier_line text limit room) (barrier_line text None wide) (read_barrier_line text limit room) (word_kinds k.Barrier) []
    unfolding read_barrier_line
    reads_barrier_line = reads_then (kind text) (reads_keyword text k.Barrier) (λ w. may_then (kind text) (may_operands text d) (λ os. reads_ended text (at_one (barrier os) w.at)) refl) refl

    may_gate_parameters : May (kind text) C (any_gate_parameters text room) (any_gate_parameters text wide) (read_any_gate_parameters text room) (symbol_kinds m.LeftParen) (symbol_kinds m.LeftParen)
    unfolding read_any_gate_parameters read_between
    may_gate_parameters = may_left_out (kind text) [] (reads_then (kind text) (d.opens.reads (tells_marked (kind text) (mark_kind m.LeftParen))) (λ o. may_then (kind text) (may_list (kind text) comma (reads_name text) refl) (λ xs. reads_map (kind text) (λ c. xs) (reads_symbol text m.RightParen)) refl) refl) refl

    may_result : May (kind text) C (result text limit room) (result text None wide) (read_result text limit room) (symbol_kinds m.Arrow) (symbol_kinds m.Arrow ++ symbol_kinds m.LeftBracket)
    may_result = may_optional text (reads_then (kind text) (reads_symbol text m.Arrow) (λ a. reads_any_type text d) refl) refl

    module _ (gates : Reads (kind text) C (gate_body text limit room) (gate_body text None wide) (read_gate_body text limit room) (symbol_kinds m.LeftBrace) []) (one_parameter : Reads (kind text) C (inner_parameter text limit room) (inner_parameter text None wide) (read_inner_parameter text limit room) parameter_kinds []) {pb qb : Part Token Block} {rb : Reader Token Block} (block : Reads (kind text) C pb qb rb (symbol_kinds m.LeftBrace) []) where
      reads_gate_definition : Reads (kind text) C (gate_definition text limit room) (gate_definition text None wide) (read_gate_definition text limit room) (word_kinds k.Gate) []
      unfolding read_gate_definition
      reads_gate_definition = reads_then (kind text) (reads_keyword text k.Gate) (λ w. reads_then (kind text) (reads_name text) (λ x. may_then (kind text) may_gate_parameters (λ ps. reads_then (kind text) (reads_names text) (λ qs. reads_map (kind text) (λ c. gate x ps qs c.statements w.at c.close) gates) refl) refl) refl) refl

      reads_parameters : Reads (kind text) C (parameters text limit room) (parameters text None wide) (read_parameters text limit room) (symbol_kinds m.LeftParen) []
      unfolding read_parameters read_between
      reads_parameters = reads_then (kind text) (d.opens.reads (tells_marked (kind text) (mark_kind m.LeftParen))) (λ o. may_then (kind text) (may_list (kind text) comma one_parameter refl) (λ ps. reads_map (kind text) (λ c. ps) (reads_symbol text m.RightParen)) refl) refl

      reads_subroutine_definition : Reads (kind text) C (subroutine_definition text limit room pb) (subroutine_definition text None wide qb) (read_subroutine_definition text limit room rb) (word_kinds k.Def) []
      unfolding read_subroutine_definition
      reads_subroutine_definition = reads_then (kind text) (reads_keyword text k.Def) (λ w. reads_then (kind text) (reads_name text) (λ x. reads_then (kind text) reads_parameters (λ ps. may_then (kind text) may_result (λ s. reads_map (kind text) (λ c. subroutine x ps s c.statements w.at c.close) block) refl) refl) refl) refl

      pub reads_declaration : Reads (kind text) C (declaration text limit room pb) (declaration text None wide qb) (read_declaration text limit room rb) declaration_kinds []
      unfolding read_declaration
      reads_declaration =
          reads_either (kind text) reads_inclusion
          (reads_either (kind text) reads_qubit_line
          (reads_either (kind text) reads_qreg_line
          (reads_either (kind text) reads_creg_line
          (reads_either (kind text) reads_variable_line
          (reads_either (kind text) reads_constant_line
          (reads_either (kind text) reads_output_line
          (reads_either (kind text) reads_alias_line
          (reads_either (kind text) reads_gate_definition reads_subroutine_definition refl) refl) refl) refl) refl) refl) refl) refl) refl

    -- ---- actions

    reads_reset_line : Reads (kind text) C (reset_line text limit room) (reset_line text None wide) (read_reset_line text limit room) (word_kinds k.Reset) []
    unfolding read_reset_line
    reads_reset_line = reads_then (kind text) (reads_keyword text k.Reset) (λ w. reads_then (kind text) (reads_operand text d) (λ o. reads_ended text (at_one (reset o) w.at)) refl) refl

    reads_measure_line : Reads (kind text) C (measure_line text limit room) (measure_line text None wide) (read_measure_line text limit room) (word_kinds k.Measure) []
    unfolding read_measure_line
    reads_measure_line = reads_then (kind text) (reads_keyword text k.Measure) (λ w. reads_then (kind text) (reads_operand text d) (λ o. may_then (kind text) (may_optional text (reads_then (kind text) (reads_symbol text m.Arrow) (λ a. reads_target text d) refl) refl) (λ g. reads_ended text (at_one (measurement o g) w.at)) refl) refl) refl

    reads_return_line : Reads (kind text) C (return_line text limit room) (return_line text None wide) (read_return_line text limit room) (word_kinds k.Return) []
    unfolding read_return_line
    reads_return_line = reads_then (kind text) (reads_keyword text k.Return) (λ w. may_then (kind text) (may_optional text (reads_value text d) refl) (λ v. reads_ended text (at_one (give v) w.at)) refl) refl

    reads_assigned : (o : Operand) → Reads (kind text) C (assigned text limit room o) (assigned text None wide o) (read_assigned text limit room o) (symbol_kinds m.Assign ++ kinds_of assign_operators) []
    unfolding read_assigned
    reads_assigned o = reads_either (kind text)
        (reads_then (kind text) (reads_symbol text m.Assign) (λ a. reads_then (kind text) (reads_value text d) (λ v. reads_ended text (at_one (assign o None v) o.place)) refl) refl)
        (reads_then (kind text) (reads_one (kind text) (tells_picked (kind text) assign_operators)) (λ a. reads_then (kind text) d.expr (λ e. reads_ended text (at_one (assign o (Some a.0) (expression e)) o.place)) refl) refl) refl

    reads_assignment : (x : List ℕ × Span) → Reads (kind text) C (assignment text limit room x) (assignment text None wide x) (read_assignment text limit room x) assignment_kinds []
    unfolding read_assignment
    reads_assignment x = may_then (kind text) (may_indexes text d) (λ is. reads_assigned (operand_at x is)) refl

    reads_gate_call_line : (x : List ℕ × Span) (es : List Tree) → Reads (kind text) C (gate_call_line text limit room x es) (gate_call_line text None wide x es) (read_gate_call_line text limit room x es) operand_kinds []
    reads_gate_call_line x es = reads_map (kind text) call_statement (reads_applied text d (declared x) es)

    reads_behind_name : (x : List ℕ × Span) → Reads (kind text) C (behind_name text limit room x) (behind_name text None wide x) (read_behind_name text limit room x) (assignment_kinds ++ (symbol_kinds m.LeftParen ++ operand_kinds)) []
    unfolding read_behind_name
    reads_behind_name x = reads_either (kind text) (reads_assignment x)
        (reads_either (kind text)
        (reads_then (kind text) (reads_call_arguments text d) (λ es. reads_either (kind text) (reads_ended text (at_one (invoke (call_tree x.0 (trees es) x.1)) x.1)) (reads_gate_call_line x es) refl) refl)
        (reads_gate_call_line x []) refl) refl

    reads_named_line : Reads (kind text) C (named_line text limit room) (named_line text None wide) (read_named_line text limit room) name_kinds []
    reads_named_line = reads_then (kind text) (reads_one (kind text) (tells_name text)) reads_behind_name refl

    pub reads_action : Reads (kind text) C (modified text limit room) (modified text None wide) (read_modified text limit room) change_kinds [] → Reads (kind text) C (action text limit room) (action text None wide) (read_action text limit room) action_kinds []
    unfolding read_action
    reads_action h =
        reads_either (kind text) reads_barrier_line
        (reads_either (kind text) reads_reset_line
        (reads_either (kind text) reads_measure_line
        (reads_either (kind text) (reads_word_line k.Break break)
        (reads_either (kind text) (reads_word_line k.Continue continue)
        (reads_either (kind text) (reads_word_line k.End end)
        (reads_either (kind text) reads_return_line
        (reads_either (kind text) (reads_map (kind text) call_statement h)
        (reads_either (kind text) (reads_map (kind text) call_statement (reads_phase text d)) reads_named_line refl) refl) refl) refl) refl) refl) refl) refl) refl
