-- Each part of a statement is read exactly, where the expressions at its depth are.
use Rattle.std.proofs.Common.{◌≡◌, ℕ, true, List, [], ◌∷◌, ◌++◌, codes, Option, Some, None, refl}
use Rattle.qasm_lexer.specs.declared.token.Token.{Token}
use Rattle.qasm_lexer.specs.declared.token.Keyword.{Keyword}
use Rattle.qasm_lexer.specs.declared.token.Keyword.TheVariants as k
use Rattle.qasm_lexer.specs.declared.token.Mark.{Mark}
use Rattle.qasm_lexer.specs.declared.token.Mark.TheVariants as m
use Rattle.qasm_ast.specs.declared.expr.Base.TheVariants as b
use Rattle.qasm_ast.specs.Tree.{Tree, trees, maybe, Name, expression, measured, inverse, power, control, Statements}
use Rattle.grammar_parts.specs.Part.{Part, repeated}
use Rattle.grammar_parts.specs.Reading.{Reader, take_repeated}
use Rattle.grammar_parts.specs.Kinds.{disjoint}
use Rattle.grammar_parts.proofs.Sets.{tells_marked}
use Rattle.grammar_parts.proofs.Productions.{Reads, May, reads_one, reads_mark, reads_then, reads_more, may_then, reads_map, may_map, reads_either, may_left_out, may_repeated, may_list, may_sets, reads_list}
use Rattle.qasm_expr.specs.TokenKinds.{keyword_kind, mark_kind, kind}
use Rattle.qasm_expr.specs.Grammar.{scalar, comma, arguments, index}
use Rattle.qasm_expr.specs.Reader.{type_kinds, begins, read_arguments, read_indexes, read_list}
use Rattle.qasm_expr.proofs.Tokens.{tells_name}
use Rattle.qasm_expr.proofs.Exprs.{expr_more, reads_width, reads_type, reads_grouped, reads_arguments, reads_index}
use Rattle.qasm_grammar.specs.Parts.{over_range, over_set, declared, operand_at, call_of, optional, keyword, symbol, ended, name, names, braced, inner, inside, condition, any_width, any_type, target, operand, operands, any_operands, value, parameter, applied, named_call, phase, plain_call, modifier, behind_second, span, chosen, turns}
use Rattle.qasm_grammar.specs.Reader.{word_kinds, symbol_kinds, name_kinds, operand_kinds, value_kinds, parameter_kinds, change_kinds, read_optional, read_keyword, read_symbol, read_ended, read_name, read_names, read_braced, read_inner, read_inside, read_condition, read_any_width, read_any_type, read_target, read_operand, read_operands, read_any_operands, read_value, read_parameter, read_applied, read_named_call, read_phase, read_plain_call, read_modifier, read_behind_second, read_span, read_chosen, read_turns}
use Rattle.qasm_grammar.proofs.Tokens.{tells_hardware}
use Rattle.qasm_grammar.proofs.Depths.{Depth}

-- what may go on behind a whole operand, a list of them, a list of names
abbrev pub target_more : List ℕ
target_more = symbol_kinds m.LeftBracket

abbrev pub operands_more : List ℕ
operands_more = comma ∷ (operand_kinds ++ target_more)

abbrev pub names_more : List ℕ
names_more = comma ∷ name_kinds

abbrev pub value_more : List ℕ
value_more = expr_more ++ target_more

module _ (text : List ℕ) {C : Type 0} where
  pub may_optional : {A : Type 0} {p q : Part Token A} {r : Reader Token A} {F M : List ℕ} → Reads (kind text) C p q r F M → disjoint F [] ≡ true → May (kind text) C (optional p) (optional q) (read_optional text F r) (F ++ []) (F ++ (M ++ []))
  may_optional h e = may_left_out (kind text) None (reads_map (kind text) (λ a. Some a) h) e

  pub reads_keyword : (w : Keyword) → Reads (kind text) C (keyword text w) (keyword text w) (read_keyword text w) (word_kinds w) []
  reads_keyword w = reads_mark (kind text) (keyword_kind w)

  pub reads_symbol : (x : Mark) → Reads (kind text) C (symbol text x) (symbol text x) (read_symbol text x) (symbol_kinds x) []
  reads_symbol x = reads_mark (kind text) (mark_kind x)

  pub reads_ended : {A : Type 0} (a : A) → Reads (kind text) C (ended text a) (ended text a) (read_ended text a) (symbol_kinds m.Semicolon) []
  reads_ended a = reads_map (kind text) (λ s. a) (reads_symbol m.Semicolon)

  pub reads_name : Reads (kind text) C (name text) (name text) (read_name text) name_kinds []
  reads_name = reads_map (kind text) declared (reads_one (kind text) (tells_name text))

  pub reads_names : Reads (kind text) C (names text) (names text) (read_names text) name_kinds names_more
  unfolding read_names
  reads_names = reads_list (kind text) comma reads_name refl

  pub reads_braced : {A : Type 0} {p q : Part Token A} (r : Reader Token A) (F : List ℕ) {M : List ℕ} (listed : List A → Statements) → May (kind text) C (repeated p) (repeated q) (take_repeated (begins text F) r) F M → disjoint M (symbol_kinds m.RightBrace) ≡ true → Reads (kind text) C (braced text listed p) (braced text listed q) (read_braced text F listed r) (symbol_kinds m.LeftBrace) []
  unfolding read_braced
  reads_braced r F listed h e = reads_then (kind text) (reads_symbol m.LeftBrace) (λ o. may_then (kind text) h (λ ss. reads_map (kind text) (λ c. record { statements = listed ss; close = c.at }) (reads_symbol m.RightBrace)) e) refl

  module _ {limit : Option ℕ} {room wide : ℕ} (d : Depth text C limit room wide) where
    -- ---- operands, values and types

    pub reads_condition : Reads (kind text) C (condition text limit room) (condition text None wide) (read_condition text limit room) (symbol_kinds m.LeftParen) []
    reads_condition = reads_grouped text d.inner d.opens

    pub may_width : May (kind text) C (any_width text limit room) (any_width text None wide) (read_any_width text limit room) (symbol_kinds m.LeftBracket) (symbol_kinds m.LeftBracket)
    may_width = may_optional (reads_width text d.inner d.opens) refl

    pub reads_any_type : Reads (kind text) C (any_type text limit room) (any_type text None wide) (read_any_type text limit room) type_kinds target_more
    reads_any_type = reads_type text d.inner d.opens

    pub may_indexes : May (kind text) C (repeated (index text room (inside text limit room))) (repeated (index text wide (inside text None wide))) (read_indexes text room (read_inside text limit room)) target_more target_more
    may_indexes = may_repeated (kind text) (reads_index text d.inner d.inside d.opens) refl

    pub reads_target : Reads (kind text) C (target text limit room) (target text None wide) (read_target text limit room) name_kinds target_more
    unfolding read_target
    reads_target = reads_more (kind text) (reads_one (kind text) (tells_name text)) (λ x. may_map (kind text) (operand_at x) may_indexes) refl

    pub reads_operand : Reads (kind text) C (operand text limit room) (operand text None wide) (read_operand text limit room) operand_kinds target_more
    unfolding read_operand
    reads_operand = reads_either (kind text) reads_target (reads_one (kind text) (tells_hardware text)) refl

    pub reads_operands : Reads (kind text) C (operands text limit room) (operands text None wide) (read_operands text limit room) operand_kinds (target_more ++ operands_more)
    unfolding read_operands
    reads_operands = reads_list (kind text) comma reads_operand refl

    pub may_operands : May (kind text) C (any_operands text limit room) (any_operands text None wide) (read_any_operands text limit room) operand_kinds operands_more
    unfolding read_any_operands
    may_operands = may_list (kind text) comma reads_operand refl

    pub reads_value : Reads (kind text) C (value text limit room) (value text None wide) (read_value text limit room) value_kinds value_more
    unfolding read_value
    reads_value = reads_either (kind text) (reads_map (kind text) expression d.expr)
        (reads_then (kind text) (reads_keyword k.Measure) (λ w. reads_map (kind text) measured reads_operand) refl) refl

    pub reads_parameter : Reads (kind text) C (parameter text limit room) (parameter text None wide) (read_parameter text limit room) parameter_kinds []
    unfolding read_parameter
    reads_parameter = reads_either (kind text)
        (reads_then (kind text) reads_any_type (λ s. reads_map (kind text) (λ x. record { type = s; name = x }) reads_name) refl)
        (reads_then (kind text) (reads_keyword k.Qubit) (λ w. may_then (kind text) may_width (λ e. reads_map (kind text) (λ x. record { type = scalar b.Qubit (maybe e) w.at; name = x }) reads_name) refl) refl) refl

    -- ---- calls of gates

    pub reads_call_arguments : Reads (kind text) C (arguments text room (inner text limit room)) (arguments text wide (inner text None wide)) (read_arguments text room (read_inner text limit room)) (symbol_kinds m.LeftParen) []
    reads_call_arguments = reads_arguments text d.inner d.opens

    pub reads_applied : (x : Name) (es : List Tree) → Reads (kind text) C (applied text limit room x es) (applied text None wide x es) (read_applied text limit room x es) operand_kinds []
    unfolding read_applied
    reads_applied x es = reads_then (kind text) reads_operands (λ os. reads_ended (call_of x es os)) refl

    pub reads_named_call : Reads (kind text) C (named_call text limit room) (named_call text None wide) (read_named_call text limit room) name_kinds []
    unfolding read_named_call
    reads_named_call = reads_then (kind text) reads_name (λ x. reads_either (kind text) (reads_then (kind text) reads_call_arguments (reads_applied x) refl) (reads_applied x []) refl) refl

    pub reads_phase : Reads (kind text) C (phase text limit room) (phase text None wide) (read_phase text limit room) (word_kinds k.Gphase) []
    unfolding read_phase
    reads_phase = reads_then (kind text) (reads_keyword k.Gphase) (λ w. reads_then (kind text) reads_condition (λ e. may_then (kind text) may_operands (λ os. reads_ended (call_of (declared (codes "gphase", w.at)) (e ∷ []) os)) refl) refl) refl

    pub reads_plain_call : Reads (kind text) C (plain_call text limit room) (plain_call text None wide) (read_plain_call text limit room) (word_kinds k.Gphase ++ name_kinds) []
    reads_plain_call = reads_either (kind text) reads_phase reads_named_call refl

    pub reads_modifier : Reads (kind text) C (modifier text limit room) (modifier text None wide) (read_modifier text limit room) change_kinds (symbol_kinds m.LeftParen)
    unfolding read_modifier
    reads_modifier = reads_either (kind text) (reads_map (kind text) (λ w. inverse w.at) (reads_keyword k.Inv))
        (reads_either (kind text) (reads_then (kind text) (reads_keyword k.Pow) (λ w. reads_map (kind text) (λ e. power e w.at) reads_condition) refl)
        (reads_more (kind text) (reads_keyword k.Ctrl) (λ w. may_map (kind text) (λ e. control (maybe e) w.at) (may_optional reads_condition refl)) refl) refl) refl

    -- ---- what a loop goes over

    may_behind_second : (first second : Tree) → May (kind text) C (behind_second text limit room first second) (behind_second text None wide first second) (read_behind_second text limit room first second) (symbol_kinds m.Colon) (mark_kind m.Colon ∷ expr_more)
    unfolding read_behind_second
    may_behind_second first second = may_sets (kind text) (symbol_kinds m.Colon) (mark_kind m.Colon ∷ expr_more)
        (may_left_out (kind text) (over_range first (maybe None) second) (reads_then (kind text) (reads_symbol m.Colon) (λ c. reads_map (kind text) (λ third. over_range first (maybe (Some second)) third) d.inner) refl) refl) refl refl refl

    reads_span : Reads (kind text) C (span text limit room) (span text None wide) (read_span text limit room) (symbol_kinds m.LeftBracket) []
    unfolding read_span
    reads_span = reads_then (kind text) (d.opens.reads (tells_marked (kind text) (mark_kind m.LeftBracket)))
        (λ o. reads_then (kind text) d.inner (λ first. reads_then (kind text) (reads_symbol m.Colon)
        (λ c. reads_then (kind text) d.inner (λ second. may_then (kind text) (may_behind_second first second)
        (λ r. reads_map (kind text) (λ e. r) (reads_symbol m.RightBracket)) refl) refl) refl) refl) refl

    reads_chosen : Reads (kind text) C (chosen text limit room) (chosen text None wide) (read_chosen text limit room) (symbol_kinds m.LeftBrace) []
    unfolding read_chosen read_list
    reads_chosen = reads_then (kind text) (d.opens.reads (tells_marked (kind text) (mark_kind m.LeftBrace)))
        (λ o. reads_then (kind text) (reads_list (kind text) comma d.inner refl) (λ es. reads_map (kind text) (λ c. over_set (trees es)) (reads_symbol m.RightBrace)) refl) refl

    pub reads_turns : Reads (kind text) C (turns text limit room) (turns text None wide) (read_turns text limit room) (symbol_kinds m.LeftBracket ++ symbol_kinds m.LeftBrace) []
    reads_turns = reads_either (kind text) reads_span reads_chosen refl
