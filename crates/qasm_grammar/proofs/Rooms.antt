-- The levels of a program are no more than its room.
use Rattle.std.proofs.Common.{◌≡◌, ℕ, zero, suc, ◌≤◌, ◌<◌, max, List, [], ◌∷◌, Option, Some, None, subst, arith}
use Rattle.qq_base.specs.declared.refusal.Span.{Span}
use Rattle.qasm_lexer.specs.declared.token.Token.{Token}
use Rattle.qasm_lexer.specs.declared.token.TokenKind.{TokenKind}
use Rattle.qasm_lexer.specs.declared.token.TokenKind.TheVariants as t
use Rattle.qasm_ast.specs.Tree.{qubit, Tree, trees, maybe, no_bracket, Name, Scalar, Operand, Change, inverse, power, control, Statement, Statements}
use Rattle.qasm_ast.specs.Level.{level_of, trees_level, maybe_level, width_level, bracket_level, greatest, level_if_some, scalar_level, operand_level, operands_level, value_level, names_level, arguments_level, parameter_level, changes_level, stmt_level, stmts_level}
use Rattle.grammar_parts.specs.Part.{Part, either, repeated}
use Rattle.qasm_expr.specs.TokenKinds.{kind}
use Rattle.qasm_expr.specs.Grammar.{comma, arguments, index}
use Rattle.qasm_grammar.specs.Parts.{Block, Body, Call, Turns, over_range, over_set, Opened, statements, opened_statements, with_change, declared, operand_at, call_statement, hardware_at, optional, block_of, body_of, inner, inside, condition, any_width, any_type, target, operand, operands, any_operands, value, parameter, applied, named_call, phase, plain_call, modifier, modified, call, behind_second, span, turns}
use Rattle.qasm_grammar.specs.Grammar.{for_of, any_gate_parameters, behind_body, member, gate_body, gate_definition, inner_parameter, parameters, result, subroutine_definition, declaration, barrier_line, assigned, assignment, subroutine_call, gate_call_line, behind_name, action, control as controlled, stmt_at, stmt, program}
use Rattle.qasm_grammar.specs.Whole.{IsProgramOf}
use Rattle.qasm_grammar.specs.Height.{Each}
use Rattle.qasm_grammar.proofs.Holding.{Holds, holds_nothing, holds_never, holds_one, holds_then, holds_behind, holds_either, holds_cond, holds_wider, holds_map, holds_repeated, holds_opening, holds_any_list, holds_some_list}
use Rattle.qasm_grammar.proofs.ExprRooms.{FitsDeeper, trees_fit, brackets_fit, width_fits, type_fits, grouped_fits, arguments_fit, content_fits, index_fits, expr_fits, deeper_expr_fits}

-- ---- what fits

pub greatest_fits : {A : Type 0} (f : A → ℕ) (room : ℕ) (xs : List A) → Each (λ a. f a ≤ room) xs → greatest f xs ≤ room
greatest_fits f room [] h = omega arith
greatest_fits f room (x ∷ xs) h = omega (arith, h.0, greatest_fits f room xs h.1)

deeper_greatest : {A : Type 0} (f : A → ℕ) (room : ℕ) → 0 < room → (xs : List A) → Each (λ a. suc (f a) ≤ room) xs → suc (greatest f xs) ≤ room
deeper_greatest f room lt [] h = lt
deeper_greatest f room lt (x ∷ xs) h = omega (arith, h.0, deeper_greatest f room lt xs h.1)

names_fit : (room : ℕ) → 0 < room → (xs : List Name) → names_level xs ≤ room
names_fit room lt [] = omega arith
names_fit room lt (x ∷ xs) = omega (arith, lt)

arguments_fit_call : (room : ℕ) (es : List Tree) → suc (trees_level (trees es)) ≤ room → arguments_level (trees es) ≤ room
arguments_fit_call room [] h = omega arith
arguments_fit_call room (e ∷ es) h = h

maybe_fits : (room : ℕ) (e : Option Tree) → level_if_some (λ a. suc (level_of a)) e ≤ room → width_level (maybe e) ≤ room
maybe_fits room None h = omega arith
maybe_fits room (Some e) h = h

abbrev SomeFits : {A : Type 0} → (A → ℕ) → ℕ → Option A → Type 0
SomeFits f room o = level_if_some f o ≤ room

abbrev OperandFits : ℕ → Operand → Type 0
OperandFits room o = operand_level o ≤ room

abbrev StmtFits : ℕ → Statement → Type 0
StmtFits room s = stmt_level s ≤ room

abbrev OpenedFits : ℕ → Opened → Type 0
OpenedFits room s = stmt_level s.0 ≤ room

abbrev BlockFits : ℕ → Block → Type 0
BlockFits room c = suc (stmts_level c.statements) ≤ room

abbrev BodyFits : ℕ → Body → Type 0
BodyFits room c = suc (stmts_level c.statements) ≤ room

-- a modifier leaves this room to what follows it
abbrev own_level : Change → ℕ
own_level (inverse place) = 0
own_level (power e place) = suc (level_of e)
own_level (control e place) = width_level e

abbrev CallFits : ℕ → Call → Type 0
CallFits room c = changes_level c.changes (max (arguments_level (trees c.arguments)) (operands_level c.operands)) ≤ room

change_fits : (room : ℕ) (h : Change) (c : Call) → own_level h ≤ room → CallFits room c → CallFits (suc room) (with_change h c)
change_fits room (inverse place) c g l = omega (arith, l)
change_fits room (power e place) c g l = omega (arith, g, l)
change_fits room (control e place) c g l = omega (arith, g, l)

abbrev TurnsFit : ℕ → Turns → Type 0
TurnsFit room (over_range start step stop) = suc (max (level_of start) (max (maybe_level step) (level_of stop))) ≤ room
TurnsFit room (over_set es) = suc (trees_level es) ≤ room

for_fits : (room : ℕ) (s : Scalar) (x : Name) (r : Turns) (c : Body) (place : Span) → scalar_level s ≤ room → TurnsFit room r → BodyFits room c → OpenedFits room (for_of s x r c place)
for_fits room s x (over_range start step stop) c place h g l = omega (arith, h, g, l)
for_fits room s x (over_set es) c place h g l = omega (arith, h, g, l)

statements_fit : (room : ℕ) (ss : List Statement) → Each (StmtFits room) ss → stmts_level (statements ss) ≤ room
statements_fit room [] h = omega arith
statements_fit room (s ∷ ss) h = omega (arith, h.0, statements_fit room ss h.1)

opened_fit : (room : ℕ) (ss : List Opened) → Each (OpenedFits room) ss → stmts_level (opened_statements ss) ≤ room
opened_fit room [] h = omega arith
opened_fit room (s ∷ ss) h = omega (arith, h.0, opened_fit room ss h.1)

hardware_fits : (room : ℕ) (x : Token) (kd : TokenKind) (o : Operand) → hardware_at x kd ≡ Some o → OperandFits room o
hardware_fits room x (t.Hardware n) o e = let same : record { name = qubit n; index = no_bracket; place = x.at } ≡ o = cc in subst (λ z. OperandFits room z) same (omega arith)
hardware_fits room x _ o e = absurd (cc)

optional_fits : {A : Type 0} {p : Part Token A} (f : A → ℕ) (room : ℕ) → Holds p (λ a. f a ≤ room) → Holds (optional p) (SomeFits f room)
optional_fits f room h = holds_either (holds_map (λ a. Some a) h (λ a g. g)) (holds_nothing (omega arith))

module _ (text : List ℕ) where
  module _ (limit : Option ℕ) where
    inner_fits : (room : ℕ) → Holds (inner text limit room) (FitsDeeper room)
    inner_fits zero = holds_never
    inner_fits (suc room) = deeper_expr_fits text limit room

    inside_fits : (room : ℕ) → Holds (inside text limit room) (λ c. bracket_level c ≤ room)
    inside_fits zero = holds_never
    inside_fits (suc room) = content_fits text (expr_fits text limit room) (inner_fits room)

    -- ---- parts of statements

    condition_fits : (room : ℕ) → Holds (condition text limit room) (FitsDeeper room)
    condition_fits room = grouped_fits text (inner_fits room)

    any_width_fits : (room : ℕ) → Holds (any_width text limit room) (λ e. width_level (maybe e) ≤ room)
    any_width_fits room = holds_wider (optional_fits (λ a. suc (level_of a)) room (width_fits text (inner_fits room))) (maybe_fits room)

    any_type_fits : (room : ℕ) → Holds (any_type text limit room) (λ s. scalar_level s ≤ room)
    any_type_fits room = type_fits text (inner_fits room)

    indexes_fit : (room : ℕ) → Holds (repeated (index text room (inside text limit room))) (Each (λ c. bracket_level c ≤ room))
    indexes_fit room = holds_repeated (index_fits text (inner_fits room) (inside_fits room))

    target_fits : (room : ℕ) → Holds (target text limit room) (OperandFits room)
    target_fits room = holds_behind (λ x. holds_map _ (indexes_fit room) (brackets_fit room))

    operand_fits : (room : ℕ) → Holds (operand text limit room) (OperandFits room)
    operand_fits room = holds_either (target_fits room) (holds_one (λ x o e. hardware_fits room x x.kind o e))

    operands_fit : (room : ℕ) → Holds (operands text limit room) (λ os. operands_level os ≤ room)
    operands_fit room = holds_wider (holds_some_list (kind text) comma (operand_fits room)) (greatest_fits operand_level room)

    any_operands_fit : (room : ℕ) → Holds (any_operands text limit room) (λ os. operands_level os ≤ room)
    any_operands_fit room = holds_wider (holds_any_list (kind text) comma (operand_fits room)) (greatest_fits operand_level room)

    value_fits : (room : ℕ) → Holds (value text limit room) (λ v. value_level v ≤ room)
    value_fits room = holds_either (holds_map _ (expr_fits text limit room) (λ e h. h)) (holds_behind (λ w. holds_map _ (operand_fits room) (λ o h. h)))

    parameter_fits : (room : ℕ) → Holds (parameter text limit room) (λ p. parameter_level p ≤ room)
    parameter_fits room =
        holds_either (holds_then (any_type_fits room) (λ s h. holds_behind (λ x. holds_nothing h)))
        (holds_behind (λ w. holds_then (any_width_fits room) (λ e h. holds_behind (λ x. holds_nothing h))))

    -- ---- calls of gates

    call_arguments_fit : (room : ℕ) → Holds (arguments text room (inner text limit room)) (λ es. suc (trees_level (trees es)) ≤ room)
    call_arguments_fit room = arguments_fit text (inner_fits room)

    applied_fits : (room : ℕ) (x : Name) (es : List Tree) → arguments_level (trees es) ≤ room → Holds (applied text limit room x es) (CallFits room)
    applied_fits room x es h = holds_then (operands_fit room) (λ os g. holds_behind (λ s. holds_nothing (omega (arith, h, g))))

    named_call_fits : (room : ℕ) → Holds (named_call text limit room) (CallFits room)
    named_call_fits room = holds_behind (λ x. holds_either (holds_then (call_arguments_fit room) (λ es h. applied_fits room x es (arguments_fit_call room es h))) (applied_fits room x [] (omega arith)))

    phase_fits : (room : ℕ) → Holds (phase text limit room) (CallFits room)
    phase_fits room = holds_behind (λ w. holds_then (condition_fits room) (λ e h. holds_then (any_operands_fit room) (λ os g. holds_behind (λ s. holds_nothing (omega (arith, h, g))))))

    plain_call_fits : (room : ℕ) → Holds (plain_call text limit room) (CallFits room)
    plain_call_fits room = holds_either (phase_fits room) (named_call_fits room)

    modifier_fits : (room : ℕ) → Holds (modifier text limit room) (λ h. own_level h ≤ room)
    modifier_fits room =
        holds_either (holds_behind (λ w. holds_nothing (omega arith)))
        (holds_either (holds_behind (λ w. holds_map _ (condition_fits room) (λ e h. h)))
        (holds_behind (λ w. holds_map _ (optional_fits (λ a. suc (level_of a)) room (condition_fits room)) (maybe_fits room))))

    modified_fits : (room : ℕ) → Holds (modified text limit room) (CallFits room)
    unfolding modified
    modified_fits zero = holds_never
    modified_fits (suc room) = holds_then (modifier_fits room) (λ h g. holds_behind (λ a. holds_map (with_change h) (holds_either (modified_fits room) (plain_call_fits room)) (λ c l. change_fits room h c g l)))

    call_fits : (room : ℕ) → Holds (call text limit room) (CallFits room)
    call_fits room = holds_either (modified_fits room) (plain_call_fits room)

    -- ---- what a loop goes over

    span_fits : (room : ℕ) → Holds (span text limit room) (TurnsFit room)
    span_fits room = holds_behind (λ o. holds_then (inner_fits room) (λ first h. holds_behind (λ c. holds_then (inner_fits room) (λ second g. holds_then (behind_second_fits first second h g) (λ r l. holds_behind (λ d. holds_nothing l))))))
      where
        behind_second_fits : (first second : Tree) → FitsDeeper room first → FitsDeeper room second → Holds (behind_second text limit room first second) (TurnsFit room)
        behind_second_fits first second h g = holds_either (holds_behind (λ c. holds_then (inner_fits room) (λ third l. holds_nothing (omega (arith, h, g, l))))) (holds_nothing (omega (arith, h, g)))

    turns_fit : (room : ℕ) → Holds (turns text limit room) (TurnsFit room)
    turns_fit room = holds_either (span_fits room) (holds_then (holds_opening room _) (λ o lt. holds_then (holds_some_list (kind text) comma (inner_fits room)) (λ es h. holds_behind (λ c. holds_nothing (trees_fit room lt es h)))))

    -- ---- gates and subroutines

    barrier_fits : (room : ℕ) → Holds (barrier_line text limit room) (StmtFits room)
    barrier_fits room = holds_behind (λ w. holds_then (any_operands_fit room) (λ os h. holds_behind (λ s. holds_nothing h)))

    member_fits : (room : ℕ) → Holds (member text limit room) (StmtFits room)
    member_fits room = holds_either (holds_map call_statement (call_fits room) (λ c h. h)) (barrier_fits room)

    gate_body_fits : (room : ℕ) → Holds (gate_body text limit room) (BlockFits room)
    gate_body_fits zero = holds_never
    gate_body_fits (suc room) = holds_behind (λ o. holds_then (holds_repeated (member_fits room)) (λ ss h. holds_behind (λ c. holds_nothing (omega (arith, statements_fit room ss h)))))

    gate_names_fit : (room : ℕ) → Holds (any_gate_parameters text room) (λ xs. names_level xs ≤ room)
    gate_names_fit room = holds_either (holds_then (holds_opening room _) (λ o lt. holds_behind (λ xs. holds_behind (λ c. holds_nothing (names_fit room lt xs))))) (holds_nothing (omega arith))

    gate_fits : (room : ℕ) → Holds (gate_definition text limit room) (StmtFits room)
    gate_fits room = holds_behind (λ w. holds_behind (λ x. holds_then (gate_names_fit room) (λ ps h. holds_behind (λ qs. holds_then (gate_body_fits room) (λ c g. holds_nothing (omega (arith, h, g)))))))

    inner_parameter_fits : (room : ℕ) → Holds (inner_parameter text limit room) (λ p. suc (parameter_level p) ≤ room)
    inner_parameter_fits zero = holds_never
    inner_parameter_fits (suc room) = holds_wider (parameter_fits room) (λ p h. omega (arith, h))

    parameters_fit : (room : ℕ) → Holds (parameters text limit room) (λ ps. suc (greatest parameter_level ps) ≤ room)
    parameters_fit room = holds_then (holds_opening room _) (λ o lt. holds_then (holds_any_list (kind text) comma (inner_parameter_fits room)) (λ ps h. holds_behind (λ c. holds_nothing (deeper_greatest parameter_level room lt ps h))))

    result_fits : (room : ℕ) → Holds (result text limit room) (SomeFits scalar_level room)
    result_fits room = optional_fits scalar_level room (holds_behind (λ a. any_type_fits room))

    module _ (room : ℕ) {block : Part Token Block} (b : Holds block (BlockFits room)) where
      subroutine_fits : Holds (subroutine_definition text limit room block) (StmtFits room)
      subroutine_fits = holds_behind (λ w. holds_behind (λ x. holds_then (parameters_fit room) (λ ps h. holds_then (result_fits room) (λ r g. holds_then b (λ c l. holds_nothing (omega (arith, h, g, l)))))))

      declaration_fits : Holds (declaration text limit room block) (StmtFits room)
      declaration_fits =
          holds_either (holds_behind (λ w. holds_behind (λ x. holds_behind (λ s. holds_nothing (omega arith)))))
          (holds_either (holds_behind (λ w. holds_then (any_width_fits room) (λ e h. holds_behind (λ x. holds_behind (λ s. holds_nothing h)))))
          (holds_either (holds_behind (λ w. holds_behind (λ x. holds_then (any_width_fits room) (λ e h. holds_behind (λ s. holds_nothing h)))))
          (holds_either (holds_behind (λ w. holds_behind (λ x. holds_then (any_width_fits room) (λ e h. holds_behind (λ s. holds_nothing (omega (arith, h)))))))
          (holds_either (holds_then (any_type_fits room) (λ s h. holds_behind (λ x. holds_then (optional_fits value_level room (holds_behind (λ a. value_fits room))) (λ v g. holds_behind (λ z. holds_nothing (omega (arith, h, g)))))))
          (holds_either (holds_behind (λ w. holds_then (any_type_fits room) (λ s h. holds_behind (λ x. holds_behind (λ a. holds_then (expr_fits text limit room) (λ e g. holds_behind (λ z. holds_nothing (omega (arith, h, g)))))))))
          (holds_either (holds_behind (λ w. holds_then (any_type_fits room) (λ s h. holds_behind (λ x. holds_behind (λ z. holds_nothing h)))))
          (holds_either (holds_behind (λ w. holds_behind (λ x. holds_behind (λ a. holds_then (operand_fits room) (λ o h. holds_then (holds_repeated (holds_behind (λ p. operand_fits room))) (λ os g. holds_behind (λ z. holds_nothing (greatest_fits operand_level room (o ∷ os) (h, g)))))))))
          (holds_either (gate_fits room) subroutine_fits))))))))

    -- ---- actions

    assigned_fits : (room : ℕ) (o : Operand) → OperandFits room o → Holds (assigned text limit room o) (StmtFits room)
    assigned_fits room o h =
        holds_either (holds_behind (λ a. holds_then (value_fits room) (λ v g. holds_behind (λ z. holds_nothing (omega (arith, h, g))))))
        (holds_behind (λ a. holds_then (expr_fits text limit room) (λ e g. holds_behind (λ z. holds_nothing (omega (arith, h, g))))))

    gate_call_fits : (room : ℕ) (x : List ℕ × Span) (es : List Tree) → arguments_level (trees es) ≤ room → Holds (gate_call_line text limit room x es) (StmtFits room)
    gate_call_fits room x es h = holds_map call_statement (applied_fits room (declared x) es h) (λ c g. g)

    assignment_fits : (room : ℕ) (x : List ℕ × Span) → Holds (assignment text limit room x) (StmtFits room)
    assignment_fits room x = holds_then (indexes_fit room) (λ is h. assigned_fits room (operand_at x is) (brackets_fit room is h))

    calls_fit : (room : ℕ) (x : List ℕ × Span) (es : List Tree) → suc (trees_level (trees es)) ≤ room → Holds (either (subroutine_call text x es) (gate_call_line text limit room x es)) (StmtFits room)
    calls_fit room x es h = holds_either (holds_behind (λ z. holds_nothing h)) (gate_call_fits room x es (arguments_fit_call room es h))

    behind_name_fits : (room : ℕ) (x : List ℕ × Span) → Holds (behind_name text limit room x) (StmtFits room)
    behind_name_fits room x =
        holds_either (assignment_fits room x)
        (holds_either (holds_then (call_arguments_fit room) (λ es h. calls_fit room x es h))
        (gate_call_fits room x [] (omega arith)))

    action_fits : (room : ℕ) → Holds (action text limit room) (StmtFits room)
    action_fits room =
        holds_either (barrier_fits room)
        (holds_either (holds_behind (λ w. holds_then (operand_fits room) (λ o h. holds_behind (λ z. holds_nothing h))))
        (holds_either (holds_behind (λ w. holds_then (operand_fits room) (λ o h. holds_then (optional_fits operand_level room (holds_behind (λ a. target_fits room))) (λ g l. holds_behind (λ z. holds_nothing (omega (arith, h, l)))))))
        (holds_either (holds_behind (λ w. holds_behind (λ z. holds_nothing (omega arith))))
        (holds_either (holds_behind (λ w. holds_behind (λ z. holds_nothing (omega arith))))
        (holds_either (holds_behind (λ w. holds_behind (λ z. holds_nothing (omega arith))))
        (holds_either (holds_behind (λ w. holds_then (optional_fits value_level room (value_fits room)) (λ v h. holds_behind (λ z. holds_nothing h))))
        (holds_either (holds_map call_statement (modified_fits room) (λ c h. h))
        (holds_either (holds_map call_statement (phase_fits room) (λ c h. h)) (holds_behind (behind_name_fits room))))))))))

    -- ---- control statements

    module _ (room : ℕ) {body : Part Token Body} (b : Holds body (BodyFits room)) where
      behind_body_fits : (e : Tree) (place : Span) → FitsDeeper room e → (c : Body) → BodyFits room c → Holds (behind_body text body e place c) (OpenedFits room)
      behind_body_fits e place h c g = holds_cond c.is_open (holds_nothing (omega (arith, h, g))) (holds_either (holds_behind (λ w. holds_then b (λ d l. holds_nothing (omega (arith, h, g, l))))) (holds_nothing (omega (arith, h, g))))

      control_fits : Holds (controlled text limit room body) (OpenedFits room)
      control_fits =
          holds_either (holds_behind (λ w. holds_then (condition_fits room) (λ e h. holds_then b (behind_body_fits e w.at h))))
          (holds_either (holds_behind (λ w. holds_then (condition_fits room) (λ e h. holds_then b (λ c g. holds_nothing (omega (arith, h, g))))))
          (holds_behind (λ w. holds_then (any_type_fits room) (λ s h. holds_behind (λ x. holds_behind (λ i. holds_then (turns_fit room) (λ r g. holds_then b (λ c l. holds_nothing (for_fits room s x r c w.at h g l)))))))))

    stmt_at_fits : (room : ℕ) {block : Part Token Block} {body : Part Token Body} → Holds block (BlockFits room) → Holds body (BodyFits room) → Holds (stmt_at text limit room block body) (OpenedFits room)
    stmt_at_fits room c b = holds_either (holds_map _ (declaration_fits room c) (λ s h. h)) (holds_either (holds_map _ (action_fits room) (λ s h. h)) (control_fits room b))

    -- ---- by the room

    block_fits : (room : ℕ) {s : Part Token Opened} → Holds s (OpenedFits room) → Holds (block_of text s) (BlockFits (suc room))
    block_fits room f = holds_behind (λ o. holds_then (holds_repeated f) (λ ss h. holds_behind (λ c. holds_nothing (omega (arith, opened_fit room ss h)))))

    body_fits : (room : ℕ) {s : Part Token Opened} → Holds s (OpenedFits room) → Holds (body_of text s) (BodyFits (suc room))
    body_fits room f = holds_either (holds_map _ (block_fits room f) (λ c h. h)) (holds_map _ f (λ s h. omega (arith, h)))

    stmt_fits : (room : ℕ) → Holds (stmt text limit room) (OpenedFits room)
    unfolding stmt
    stmt_fits zero = stmt_at_fits zero holds_never holds_never
    stmt_fits (suc room) = stmt_at_fits (suc room) (block_fits room (stmt_fits room)) (body_fits room (stmt_fits room))

    pub program_fits : (room : ℕ) (tokens : List Token) (ss : Statements) → IsProgramOf text limit room tokens ss → stmts_level ss ≤ room
    program_fits room tokens ss d = (fits room).holds tokens ss d
      where
        fits : (room : ℕ) → Holds (program text limit room) (λ ss. stmts_level ss ≤ room)
        fits room = holds_behind (λ v. holds_map opened_statements (holds_repeated (stmt_fits room)) (opened_fit room))
