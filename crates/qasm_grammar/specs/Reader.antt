-- For private contracts: the readers of lists that stand for the grammar's parts, which the code follows. The laws say
-- that they read exactly.
use Rattle.std.specs.Prelude.{ℕ, zero, suc, cond, List, [], ◌∷◌, ◌++◌, codes, Option, Some, None, true, false}
use Rattle.qq_base.specs.declared.refusal.Span.{Span}
use Rattle.qasm_lexer.specs.declared.token.Token.{Token}
use Rattle.qasm_lexer.specs.declared.token.Keyword.{Keyword}
use Rattle.qasm_lexer.specs.declared.token.Keyword.TheVariants as k
use Rattle.qasm_lexer.specs.declared.token.Mark.{Mark}
use Rattle.qasm_lexer.specs.declared.token.Mark.TheVariants as m
use Rattle.qasm_ast.specs.declared.expr.Base.TheVariants as b
use Rattle.qasm_ast.specs.Tree.{Tree, call as call_tree, trees, maybe, Bracket, Name, Scalar, Operand, Value, expression, measured, Change, inverse, power, control, Parameter, Statement, include, qubits, variable, constant, output, alias, gate, subroutine, barrier, reset, measurement, assign, invoke, while, break, continue, end, give, Statements, a_statement, no_statement}
use Rattle.grammar_parts.specs.Reading.{Reader, done, ◌>>=◌, take_one, take_never, choose, take_repeated}
use Rattle.grammar_parts.specs.Kinds.{picked, kinds_of, take_any_list, take_some_list}
use Rattle.qasm_expr.specs.TokenKinds.{keyword_kind, mark_kind, kind}
use Rattle.qasm_expr.specs.Grammar.{scalar, comma, name_of}
use Rattle.qasm_expr.specs.Reader.{type_kinds, expr_kinds, content_kinds, begins, read_sign, read_opener, read_between, read_width, read_type, read_grouped, read_list, read_arguments, read_content, read_indexes, read_expr}
use Rattle.qasm_grammar.specs.Parts.{Block, Body, Call, Turns, over_range, over_set, Opened, statements, opened_statements, close_or, declared, operand_at, call_of, with_change, call_statement, hardware_of, version_of, included}
use Rattle.qasm_grammar.specs.Grammar.{assign_operators, at_one, without_else, with_else, for_of}

-- ---- the kinds of token that begin a part

abbrev pub word_kinds : Keyword → List ℕ
word_kinds w = keyword_kind w ∷ []

abbrev pub symbol_kinds : Mark → List ℕ
symbol_kinds x = mark_kind x ∷ []

abbrev pub name_kinds : List ℕ
name_kinds = 1 ∷ []

abbrev pub operand_kinds : List ℕ
operand_kinds = name_kinds ++ (6 ∷ [])

abbrev pub value_kinds : List ℕ
value_kinds = expr_kinds ++ word_kinds k.Measure

abbrev pub parameter_kinds : List ℕ
parameter_kinds = type_kinds ++ word_kinds k.Qubit

abbrev pub change_kinds : List ℕ
change_kinds = word_kinds k.Inv ++ (word_kinds k.Pow ++ word_kinds k.Ctrl)

abbrev pub call_kinds : List ℕ
call_kinds = change_kinds ++ (word_kinds k.Gphase ++ name_kinds)

abbrev pub member_kinds : List ℕ
member_kinds = call_kinds ++ word_kinds k.Barrier

-- behind the name of a target
abbrev pub assignment_kinds : List ℕ
assignment_kinds = symbol_kinds m.LeftBracket ++ (symbol_kinds m.Assign ++ kinds_of assign_operators)

abbrev pub declaration_kinds : List ℕ
declaration_kinds =
    word_kinds k.Include ++ (word_kinds k.Qubit ++ (word_kinds k.Qreg ++ (word_kinds k.Creg ++ (type_kinds
    ++ (word_kinds k.Const ++ (word_kinds k.Output ++ (word_kinds k.Let ++ (word_kinds k.Gate ++ word_kinds k.Def))))))))

abbrev pub action_kinds : List ℕ
action_kinds =
    word_kinds k.Barrier ++ (word_kinds k.Reset ++ (word_kinds k.Measure ++ (word_kinds k.Break ++ (word_kinds k.Continue
    ++ (word_kinds k.End ++ (word_kinds k.Return ++ (change_kinds ++ (word_kinds k.Gphase ++ name_kinds))))))))

abbrev pub control_kinds : List ℕ
control_kinds = word_kinds k.If ++ (word_kinds k.While ++ word_kinds k.For)

abbrev pub stmt_kinds : List ℕ
stmt_kinds = declaration_kinds ++ (action_kinds ++ control_kinds)

abbrev pub body_kinds : List ℕ
body_kinds = symbol_kinds m.LeftBrace ++ stmt_kinds

-- ---- parts of statements

-- a part that may be left out, which these kinds begin
abbrev pub read_optional : {A : Type 0} → List ℕ → List ℕ → Reader Token A → Reader Token (Option A)
read_optional text set r = choose (begins text set) (r >>= (λ a. done (Some a))) (done None)

module _ (text : List ℕ) where
  abbrev pub read_keyword : Keyword → Reader Token Token
  read_keyword w = read_sign text (keyword_kind w)

  abbrev pub read_symbol : Mark → Reader Token Token
  read_symbol x = read_sign text (mark_kind x)

  abbrev pub read_ended : {A : Type 0} → A → Reader Token A
  read_ended a = read_symbol m.Semicolon >>= (λ s. done a)

  abbrev pub read_name : Reader Token Name
  read_name = take_one (name_of text) >>= (λ x. done (declared x))

  unfoldable pub read_names : Reader Token (List Name)
  read_names = take_some_list (kind text) comma name_kinds read_name

  -- statements in braces, which these kinds begin
  unfoldable pub read_braced : {A : Type 0} → List ℕ → (List A → Statements) → Reader Token A → Reader Token Block
  read_braced set listed item = read_symbol m.LeftBrace >>= (λ o. take_repeated (begins text set) item >>= (λ ss. read_symbol m.RightBrace >>= (λ c. done (record { statements = listed ss; close = c.at }))))

  abbrev pub read_block_of : Reader Token Opened → Reader Token Block
  read_block_of stmt = read_braced stmt_kinds opened_statements stmt

  unfoldable pub read_body_of : Reader Token Opened → Reader Token Body
  read_body_of stmt = choose (begins text (symbol_kinds m.LeftBrace)) (read_block_of stmt >>= (λ c. done (record { statements = c.statements; is_open = false; close = Some c.close })))
      (stmt >>= (λ s. done (record { statements = a_statement s.0 no_statement; is_open = s.1; close = None })))

  abbrev pub read_changed : Reader Token Change → Reader Token Call → Reader Token Call
  read_changed change call = change >>= (λ h. read_symbol m.At >>= (λ a. call >>= (λ c. done (with_change h c))))

  module _ (limit : Option ℕ) where
    -- ---- one level deeper

    abbrev pub read_inner : ℕ → Reader Token Tree
    read_inner zero = take_never (begins text expr_kinds)
    read_inner (suc room) = read_expr text limit room

    abbrev pub read_inside : ℕ → Reader Token Bracket
    read_inside zero = take_never (begins text content_kinds)
    read_inside (suc room) = read_content text room (read_expr text limit room) (read_inner room)

    -- ---- operands, values and types

    abbrev pub read_condition : ℕ → Reader Token Tree
    read_condition room = read_grouped text room (read_inner room)

    abbrev pub read_any_width : ℕ → Reader Token (Option Tree)
    read_any_width room = read_optional text (symbol_kinds m.LeftBracket) (read_width text room (read_inner room))

    abbrev pub read_any_type : ℕ → Reader Token Scalar
    read_any_type room = read_type text room (read_inner room)

    unfoldable pub read_target : ℕ → Reader Token Operand
    read_target room = take_one (name_of text) >>= (λ x. read_indexes text room (read_inside room) >>= (λ is. done (operand_at x is)))

    unfoldable pub read_operand : ℕ → Reader Token Operand
    read_operand room = choose (begins text name_kinds) (read_target room) (take_one hardware_of)

    unfoldable pub read_operands : ℕ → Reader Token (List Operand)
    read_operands room = take_some_list (kind text) comma operand_kinds (read_operand room)

    unfoldable pub read_any_operands : ℕ → Reader Token (List Operand)
    read_any_operands room = take_any_list (kind text) comma operand_kinds (read_operand room)

    unfoldable pub read_value : ℕ → Reader Token Value
    read_value room = choose (begins text expr_kinds) (read_expr text limit room >>= (λ e. done (expression e)))
        (read_keyword k.Measure >>= (λ w. read_operand room >>= (λ o. done (measured o))))

    unfoldable pub read_parameter : ℕ → Reader Token Parameter
    read_parameter room = choose (begins text type_kinds) (read_any_type room >>= (λ s. read_name >>= (λ x. done (record { type = s; name = x }))))
        (read_keyword k.Qubit >>= (λ w. read_any_width room >>= (λ e. read_name >>= (λ x. done (record { type = scalar b.Qubit (maybe e) w.at; name = x })))))

    -- ---- calls of gates

    unfoldable pub read_applied : ℕ → Name → List Tree → Reader Token Call
    read_applied room x es = read_operands room >>= (λ os. read_ended (call_of x es os))

    unfoldable pub read_named_call : ℕ → Reader Token Call
    read_named_call room = read_name >>= (λ x. choose (begins text (symbol_kinds m.LeftParen)) (read_arguments text room (read_inner room) >>= read_applied room x) (read_applied room x []))

    unfoldable pub read_phase : ℕ → Reader Token Call
    read_phase room = read_keyword k.Gphase >>= (λ w. read_condition room >>= (λ e. read_any_operands room >>= (λ os. read_ended (call_of (declared (codes "gphase", w.at)) (e ∷ []) os))))

    abbrev pub read_plain_call : ℕ → Reader Token Call
    read_plain_call room = choose (begins text (word_kinds k.Gphase)) (read_phase room) (read_named_call room)

    unfoldable pub read_modifier : ℕ → Reader Token Change
    read_modifier room =
        choose (begins text (word_kinds k.Inv)) (read_keyword k.Inv >>= (λ w. done (inverse w.at)))
        (choose (begins text (word_kinds k.Pow)) (read_keyword k.Pow >>= (λ w. read_condition room >>= (λ e. done (power e w.at))))
        (read_keyword k.Ctrl >>= (λ w. read_optional text (symbol_kinds m.LeftParen) (read_condition room) >>= (λ e. done (control (maybe e) w.at)))))

    unfoldable pub read_modified : ℕ → Reader Token Call
    read_modified zero = take_never (begins text change_kinds)
    read_modified (suc room) = read_changed (read_modifier room) (choose (begins text change_kinds) (read_modified room) (read_plain_call room))

    abbrev pub read_call : ℕ → Reader Token Call
    read_call room = choose (begins text change_kinds) (read_modified room) (read_plain_call room)

    abbrev pub read_call_line : ℕ → Reader Token Statement
    read_call_line room = read_call room >>= (λ c. done (call_statement c))

    -- ---- what a loop goes over

    unfoldable pub read_behind_second : ℕ → Tree → Tree → Reader Token Turns
    read_behind_second room first second =
        choose (begins text (symbol_kinds m.Colon)) (read_symbol m.Colon >>= (λ c. read_inner room >>= (λ third. done (over_range first (maybe (Some second)) third))))
        (done (over_range first (maybe None) second))

    unfoldable pub read_span : ℕ → Reader Token Turns
    read_span room = read_opener text room (mark_kind m.LeftBracket) >>= (λ o. read_inner room >>= (λ first. read_symbol m.Colon >>= (λ c. read_inner room >>= (λ second. read_behind_second room first second >>= (λ r. read_symbol m.RightBracket >>= (λ d. done r))))))

    unfoldable pub read_chosen : ℕ → Reader Token Turns
    read_chosen room = read_opener text room (mark_kind m.LeftBrace) >>= (λ o. read_list text true (read_inner room) >>= (λ es. read_symbol m.RightBrace >>= (λ c. done (over_set (trees es)))))

    abbrev pub read_turns : ℕ → Reader Token Turns
    read_turns room = choose (begins text (symbol_kinds m.LeftBracket)) (read_span room) (read_chosen room)

  -- ---- statements

  unfoldable pub read_word_line : Keyword → (Span → Span → Statement) → Reader Token Statement
  read_word_line w statement = read_keyword w >>= (λ x. read_ended (at_one statement x.at))

  unfoldable pub read_inclusion : Reader Token Statement
  read_inclusion = read_keyword k.Include >>= (λ w. take_one (included text) >>= (λ x. read_ended (at_one include w.at)))

  unfoldable pub read_version_line : Reader Token Token
  read_version_line = read_keyword k.OpenQasm >>= (λ w. take_one version_of >>= (λ v. read_ended v))

  abbrev pub read_gate_parameters : ℕ → Reader Token (List Name)
  read_gate_parameters room = read_between text room (mark_kind m.LeftParen) (mark_kind m.RightParen) (take_any_list (kind text) comma name_kinds read_name)

  unfoldable pub read_any_gate_parameters : ℕ → Reader Token (List Name)
  read_any_gate_parameters room = choose (begins text (symbol_kinds m.LeftParen)) (read_gate_parameters room) (done [])

  abbrev pub read_subroutine_call : List ℕ × Span → List Tree → Reader Token Statement
  read_subroutine_call x es = read_ended (at_one (invoke (call_tree x.0 (trees es) x.1)) x.1)

  unfoldable pub read_behind_body : Reader Token Body → Tree → Span → Body → Reader Token Opened
  read_behind_body body e place c = cond c.is_open (done (without_else e place c))
      (choose (begins text (word_kinds k.Else)) (read_keyword k.Else >>= (λ w. body >>= (λ d. done (with_else e place c d)))) (done (without_else e place c)))

  abbrev pub read_whole_line : Reader Token Statement → Reader Token Opened
  read_whole_line line = line >>= (λ s. done (s, false))

  -- the version, or none
  abbrev pub read_version : Reader Token (Option Token)
  read_version = read_optional text (word_kinds k.OpenQasm) read_version_line

  module _ (limit : Option ℕ) where
    -- ---- declarations

    unfoldable pub read_qubit_line : ℕ → Reader Token Statement
    read_qubit_line room = read_keyword k.Qubit >>= (λ w. read_any_width limit room >>= (λ e. read_name >>= (λ x. read_ended (at_one (qubits (scalar b.Qubit (maybe e) w.at) x) w.at))))

    unfoldable pub read_qreg_line : ℕ → Reader Token Statement
    read_qreg_line room = read_keyword k.Qreg >>= (λ w. read_name >>= (λ x. read_any_width limit room >>= (λ e. read_ended (at_one (qubits (scalar b.Qubit (maybe e) w.at) x) w.at))))

    unfoldable pub read_creg_line : ℕ → Reader Token Statement
    read_creg_line room = read_keyword k.Creg >>= (λ w. read_name >>= (λ x. read_any_width limit room >>= (λ e. read_ended (at_one (variable (scalar b.Bit (maybe e) w.at) x None) w.at))))

    -- the initial value of a variable
    abbrev pub read_initial : ℕ → Reader Token (Option Value)
    read_initial room = read_optional text (symbol_kinds m.Assign) (read_symbol m.Assign >>= (λ a. read_value limit room))

    unfoldable pub read_variable_line : ℕ → Reader Token Statement
    read_variable_line room = read_any_type limit room >>= (λ s. read_name >>= (λ x. read_initial room >>= (λ v. read_ended (at_one (variable s x v) s.place))))

    unfoldable pub read_constant_line : ℕ → Reader Token Statement
    read_constant_line room = read_keyword k.Const >>= (λ w. read_any_type limit room >>= (λ s. read_name >>= (λ x. read_symbol m.Assign >>= (λ a. read_expr text limit room >>= (λ e. read_ended (at_one (constant s x e) w.at))))))

    unfoldable pub read_output_line : ℕ → Reader Token Statement
    read_output_line room = read_keyword k.Output >>= (λ w. read_any_type limit room >>= (λ s. read_name >>= (λ x. read_ended (at_one (output s x) w.at))))

    abbrev pub read_joined : ℕ → Reader Token Operand
    read_joined room = read_symbol m.PlusPlus >>= (λ p. read_operand limit room)

    abbrev pub read_joins : ℕ → Reader Token (List Operand)
    read_joins room = take_repeated (begins text (symbol_kinds m.PlusPlus)) (read_joined room)

    unfoldable pub read_alias_line : ℕ → Reader Token Statement
    read_alias_line room = read_keyword k.Let >>= (λ w. read_name >>= (λ x. read_symbol m.Assign >>= (λ a. read_operand limit room >>= (λ o. read_joins room >>= (λ os. read_ended (at_one (alias x (o ∷ os)) w.at))))))

    -- ---- gates and subroutines

    unfoldable pub read_barrier_line : ℕ → Reader Token Statement
    read_barrier_line room = read_keyword k.Barrier >>= (λ w. read_any_operands limit room >>= (λ os. read_ended (at_one (barrier os) w.at)))

    unfoldable pub read_member : ℕ → Reader Token Statement
    read_member room = choose (begins text call_kinds) (read_call_line limit room) (read_barrier_line room)

    abbrev pub read_gate_body : ℕ → Reader Token Block
    read_gate_body zero = take_never (begins text (symbol_kinds m.LeftBrace))
    read_gate_body (suc room) = read_braced member_kinds statements (read_member room)

    unfoldable pub read_gate_definition : ℕ → Reader Token Statement
    read_gate_definition room = read_keyword k.Gate >>= (λ w. read_name >>= (λ x. read_any_gate_parameters room >>= (λ ps. read_names >>= (λ qs. read_gate_body room >>= (λ c. done (gate x ps qs c.statements w.at c.close))))))

    abbrev pub read_inner_parameter : ℕ → Reader Token Parameter
    read_inner_parameter zero = take_never (begins text parameter_kinds)
    read_inner_parameter (suc room) = read_parameter limit room

    unfoldable pub read_parameters : ℕ → Reader Token (List Parameter)
    read_parameters room = read_between text room (mark_kind m.LeftParen) (mark_kind m.RightParen) (take_any_list (kind text) comma parameter_kinds (read_inner_parameter room))

    abbrev pub read_result : ℕ → Reader Token (Option Scalar)
    read_result room = read_optional text (symbol_kinds m.Arrow) (read_symbol m.Arrow >>= (λ a. read_any_type limit room))

    unfoldable pub read_subroutine_definition : ℕ → Reader Token Block → Reader Token Statement
    read_subroutine_definition room block = read_keyword k.Def >>= (λ w. read_name >>= (λ x. read_parameters room >>= (λ ps. read_result room >>= (λ r. block >>= (λ c. done (subroutine x ps r c.statements w.at c.close))))))

    unfoldable pub read_declaration : ℕ → Reader Token Block → Reader Token Statement
    read_declaration room block =
        choose (begins text (word_kinds k.Include)) read_inclusion
        (choose (begins text (word_kinds k.Qubit)) (read_qubit_line room)
        (choose (begins text (word_kinds k.Qreg)) (read_qreg_line room)
        (choose (begins text (word_kinds k.Creg)) (read_creg_line room)
        (choose (begins text type_kinds) (read_variable_line room)
        (choose (begins text (word_kinds k.Const)) (read_constant_line room)
        (choose (begins text (word_kinds k.Output)) (read_output_line room)
        (choose (begins text (word_kinds k.Let)) (read_alias_line room)
        (choose (begins text (word_kinds k.Gate)) (read_gate_definition room) (read_subroutine_definition room block)))))))))

    -- ---- actions

    unfoldable pub read_reset_line : ℕ → Reader Token Statement
    read_reset_line room = read_keyword k.Reset >>= (λ w. read_operand limit room >>= (λ o. read_ended (at_one (reset o) w.at)))

    -- the target of a measurement
    abbrev pub read_aim : ℕ → Reader Token (Option Operand)
    read_aim room = read_optional text (symbol_kinds m.Arrow) (read_symbol m.Arrow >>= (λ a. read_target limit room))

    unfoldable pub read_measure_line : ℕ → Reader Token Statement
    read_measure_line room = read_keyword k.Measure >>= (λ w. read_operand limit room >>= (λ o. read_aim room >>= (λ g. read_ended (at_one (measurement o g) w.at))))

    -- the value that is returned
    abbrev pub read_returned : ℕ → Reader Token (Option Value)
    read_returned room = read_optional text value_kinds (read_value limit room)

    unfoldable pub read_return_line : ℕ → Reader Token Statement
    read_return_line room = read_keyword k.Return >>= (λ w. read_returned room >>= (λ v. read_ended (at_one (give v) w.at)))

    unfoldable pub read_assigned : ℕ → Operand → Reader Token Statement
    read_assigned room o =
        choose (begins text (symbol_kinds m.Assign)) (read_symbol m.Assign >>= (λ a. read_value limit room >>= (λ v. read_ended (at_one (assign o None v) o.place))))
        (take_one (picked (kind text) assign_operators) >>= (λ a. read_expr text limit room >>= (λ e. read_ended (at_one (assign o (Some a.0) (expression e)) o.place))))

    unfoldable pub read_assignment : ℕ → List ℕ × Span → Reader Token Statement
    read_assignment room x = read_indexes text room (read_inside limit room) >>= (λ is. read_assigned room (operand_at x is))

    abbrev pub read_gate_call_line : ℕ → List ℕ × Span → List Tree → Reader Token Statement
    read_gate_call_line room x es = read_applied limit room (declared x) es >>= (λ c. done (call_statement c))

    unfoldable pub read_behind_name : ℕ → List ℕ × Span → Reader Token Statement
    read_behind_name room x =
        choose (begins text assignment_kinds) (read_assignment room x)
        (choose (begins text (symbol_kinds m.LeftParen)) (read_arguments text room (read_inner limit room) >>= (λ es. choose (begins text (symbol_kinds m.Semicolon)) (read_subroutine_call x es) (read_gate_call_line room x es)))
        (read_gate_call_line room x []))

    abbrev pub read_named_line : ℕ → Reader Token Statement
    read_named_line room = take_one (name_of text) >>= read_behind_name room

    abbrev pub read_modified_line : ℕ → Reader Token Statement
    read_modified_line room = read_modified limit room >>= (λ c. done (call_statement c))

    abbrev pub read_phase_line : ℕ → Reader Token Statement
    read_phase_line room = read_phase limit room >>= (λ c. done (call_statement c))

    unfoldable pub read_action : ℕ → Reader Token Statement
    read_action room =
        choose (begins text (word_kinds k.Barrier)) (read_barrier_line room)
        (choose (begins text (word_kinds k.Reset)) (read_reset_line room)
        (choose (begins text (word_kinds k.Measure)) (read_measure_line room)
        (choose (begins text (word_kinds k.Break)) (read_word_line k.Break break)
        (choose (begins text (word_kinds k.Continue)) (read_word_line k.Continue continue)
        (choose (begins text (word_kinds k.End)) (read_word_line k.End end)
        (choose (begins text (word_kinds k.Return)) (read_return_line room)
        (choose (begins text change_kinds) (read_modified_line room)
        (choose (begins text (word_kinds k.Gphase)) (read_phase_line room) (read_named_line room)))))))))

    -- ---- control statements

    unfoldable pub read_conditional : ℕ → Reader Token Body → Reader Token Opened
    read_conditional room body = read_keyword k.If >>= (λ w. read_condition limit room >>= (λ e. body >>= read_behind_body body e w.at))

    unfoldable pub read_while_loop : ℕ → Reader Token Body → Reader Token Opened
    read_while_loop room body = read_keyword k.While >>= (λ w. read_condition limit room >>= (λ e. body >>= (λ c. done (while e c.statements w.at (close_or c.close w.at), c.is_open))))

    unfoldable pub read_for_loop : ℕ → Reader Token Body → Reader Token Opened
    read_for_loop room body = read_keyword k.For >>= (λ w. read_any_type limit room >>= (λ s. read_name >>= (λ x. read_keyword k.In >>= (λ i. read_turns limit room >>= (λ r. body >>= (λ c. done (for_of s x r c w.at)))))))

    unfoldable pub read_control : ℕ → Reader Token Body → Reader Token Opened
    read_control room body = choose (begins text (word_kinds k.If)) (read_conditional room body) (choose (begins text (word_kinds k.While)) (read_while_loop room body) (read_for_loop room body))

    -- ---- by the room

    unfoldable pub read_stmt_at : ℕ → Reader Token Block → Reader Token Body → Reader Token Opened
    read_stmt_at room block body = choose (begins text declaration_kinds) (read_whole_line (read_declaration room block)) (choose (begins text action_kinds) (read_whole_line (read_action room)) (read_control room body))

    unfoldable pub read_stmt : ℕ → Reader Token Opened
    read_stmt zero = read_stmt_at zero (take_never (begins text (symbol_kinds m.LeftBrace))) (take_never (begins text body_kinds))
    read_stmt (suc room) = read_stmt_at (suc room) (read_block_of (read_stmt room)) (read_body_of (read_stmt room))

    -- statements, as many as there are
    abbrev pub read_all_stmts : ℕ → Reader Token (List Opened)
    read_all_stmts room = take_repeated (begins text stmt_kinds) (read_stmt room)

    abbrev pub read_stmts : ℕ → Reader Token Statements
    read_stmts room = read_all_stmts room >>= (λ ss. done (opened_statements ss))

    unfoldable pub read_program : ℕ → Reader Token Statements
    read_program room = read_version >>= (λ v. read_stmts room)
