-- The grammar of statements and programs, of OpenQASM 3.0 without what the profile leaves out. Each part is
-- one line of it, over tokens of a text. `room` is the number of levels that may still be opened, and a
-- limit of None lets a chain have any number of operators.
--
--   program = [ "OPENQASM" Version ";" ] { stmt }
--   stmt    = "include" Text ";"
--           | "qubit" [ width ] Name ";"  |  "qreg" Name [ width ] ";"
--           | type Name [ "=" value ] ";" |  "creg" Name [ width ] ";"
--           | "const" type Name "=" expr ";"  |  "output" type Name ";"
--           | "let" Name "=" operand { "++" operand } ";"
--           | "gate" Name [ "(" [ names ] ")" ] names "{" { call | barrier } "}"
--           | "def" Name "(" [ parameters ] ")" [ "->" type ] "{" { stmt } "}"
--           | call | barrier
--           | "reset" operand ";"  |  "measure" operand [ "->" target ] ";"
--           | target "=" value ";" |  target assign expr ";"
--           | Name "(" [ exprs ] ")" ";"
--           | "if" "(" expr ")" body [ "else" body ]
--           | "while" "(" expr ")" body
--           | "for" type Name "in" turns body
--           | "break" ";" | "continue" ";" | "end" ";" | "return" [ value ] ";"
--   barrier = "barrier" [ operands ] ";"
--   width   = "[" expr "]"
--   assign  = += -= *= /= %= &= |= ^= <<= >>=
--
-- A list may end with one comma. An `else` belongs to the nearest `if`. What begins alike is written with
-- the common part in front. The first token of a body opens its level: with no room a body is nothing.
--
-- A statement's place is that of its first token. Its other place is that of its closing brace, where it
-- has braces of its own at its end, else its place. For an `if` that is the brace of the `else` body, else
-- that of the first body, where it has braces.
use Rattle.std.specs.Prelude.{ℕ, zero, suc, true, false, cond, List, [], ◌∷◌, Option, Some, None}
use Rattle.qq_base.specs.declared.refusal.Span.{Span}
use Rattle.qasm_lexer.specs.declared.token.Token.{Token}
use Rattle.qasm_lexer.specs.declared.token.Keyword.{Keyword}
use Rattle.qasm_lexer.specs.declared.token.Keyword.TheVariants as k
use Rattle.qasm_lexer.specs.declared.token.Mark.TheVariants as m
use Rattle.qasm_ast.specs.declared.expr.Base.TheVariants as b
use Rattle.qasm_ast.specs.declared.expr.BinaryOp.{BinaryOp}
use Rattle.qasm_ast.specs.declared.expr.BinaryOp.TheVariants as op
use Rattle.qasm_ast.specs.Tree.{Tree, call as call_tree, trees, maybe, Name, Scalar, Operand, expression, Statement, include, qubits, variable, constant, output, alias, gate, subroutine, barrier, reset, measurement, assign, invoke, branch, while, for_range, for_set, break, continue, end, give, Statements, no_statement, Parameter}
use Rattle.grammar_parts.specs.Part.{Part, nothing, never, one, then, either, repeated}
use Rattle.grammar_parts.specs.Kinds.{picked, any_list}
use Rattle.qasm_expr.specs.TokenKinds.{mark_kind, kind}
use Rattle.qasm_expr.specs.Grammar.{scalar, comma, name_of, opener, arguments, index, expr}
use Rattle.qasm_grammar.specs.Parts.{Block, Body, Turns, over_range, over_set, Opened, statements, opened_statements, close_or, declared, operand_at, call_statement, version_of, optional, included, keyword, symbol, ended, name, names, braced, block_of, body_of, inner, inside, condition, any_width, any_type, target, operand, any_operands, value, parameter, applied, phase, modified, call, turns}

-- the marks that assign the value of an operator
abbrev pub assign_operators : List (ℕ × BinaryOp)
assign_operators =
    (mark_kind m.PlusAssign, op.Add)
    ∷ (mark_kind m.MinusAssign, op.Subtract)
    ∷ (mark_kind m.StarAssign, op.Multiply)
    ∷ (mark_kind m.SlashAssign, op.Divide)
    ∷ (mark_kind m.PercentAssign, op.Remainder)
    ∷ (mark_kind m.AndAssign, op.BitAnd)
    ∷ (mark_kind m.OrAssign, op.BitOr)
    ∷ (mark_kind m.CaretAssign, op.BitXor)
    ∷ (mark_kind m.ShiftLeftAssign, op.ShiftLeft)
    ∷ (mark_kind m.ShiftRightAssign, op.ShiftRight)
    ∷ []

-- a statement that has no other closing brace
abbrev pub at_one : (Span → Span → Statement) → Span → Statement
at_one statement place = statement place place

-- an `if` with no `else`, and one with it
abbrev pub without_else : Tree → Span → Body → Opened
without_else e place c = (branch e c.statements no_statement place (close_or c.close place), true)

abbrev pub with_else : Tree → Span → Body → Body → Opened
with_else e place c d = (branch e c.statements d.statements place (close_or d.close (close_or c.close place)), d.is_open)

abbrev pub for_of : Scalar → Name → Turns → Body → Span → Opened
for_of s x (over_range start step stop) c place = (for_range s x start step stop c.statements place (close_or c.close place), c.is_open)
for_of s x (over_set es) c place = (for_set s x es c.statements place (close_or c.close place), c.is_open)

module _ (text : List ℕ) where
  -- a word and a semicolon
  abbrev pub word_line : Keyword → (Span → Span → Statement) → Part Token Statement
  word_line w statement = then (keyword text w) (λ x. ended text (at_one statement x.at))

  abbrev pub inclusion : Part Token Statement
  inclusion = then (keyword text k.Include) (λ w. then (one (included text)) (λ x. ended text (at_one include w.at)))

  abbrev pub version_line : Part Token Token
  version_line = then (keyword text k.OpenQasm) (λ w. then (one version_of) (λ v. ended text v))

  -- the names in round brackets behind a gate's name
  abbrev pub gate_parameters : ℕ → Part Token (List Name)
  gate_parameters room = then (opener text room (mark_kind m.LeftParen)) (λ o. then (any_list (kind text) comma (name text)) (λ xs. then (symbol text m.RightParen) (λ c. nothing xs)))

  abbrev pub any_gate_parameters : ℕ → Part Token (List Name)
  any_gate_parameters room = either (gate_parameters room) (nothing [])

  abbrev pub subroutine_call : List ℕ × Span → List Tree → Part Token Statement
  subroutine_call x es = ended text (at_one (invoke (call_tree x.0 (trees es) x.1)) x.1)

  abbrev pub behind_body : Part Token Body → Tree → Span → Body → Part Token Opened
  behind_body body e place c = cond c.is_open (nothing (without_else e place c))
      (either (then (keyword text k.Else) (λ w. then body (λ d. nothing (with_else e place c d)))) (nothing (without_else e place c)))

  abbrev pub whole_line : Part Token Statement → Part Token Opened
  whole_line line = then line (λ s. nothing (s, false))

  module _ (limit : Option ℕ) where
    -- ---- declarations

    abbrev pub qubit_line : ℕ → Part Token Statement
    qubit_line room = then (keyword text k.Qubit) (λ w. then (any_width text limit room) (λ e. then (name text) (λ x. ended text (at_one (qubits (scalar b.Qubit (maybe e) w.at) x) w.at))))

    abbrev pub qreg_line : ℕ → Part Token Statement
    qreg_line room = then (keyword text k.Qreg) (λ w. then (name text) (λ x. then (any_width text limit room) (λ e. ended text (at_one (qubits (scalar b.Qubit (maybe e) w.at) x) w.at))))

    abbrev pub creg_line : ℕ → Part Token Statement
    creg_line room = then (keyword text k.Creg) (λ w. then (name text) (λ x. then (any_width text limit room) (λ e. ended text (at_one (variable (scalar b.Bit (maybe e) w.at) x None) w.at))))

    abbrev pub variable_line : ℕ → Part Token Statement
    variable_line room = then (any_type text limit room) (λ s. then (name text) (λ x. then (optional (then (symbol text m.Assign) (λ a. value text limit room))) (λ v. ended text (at_one (variable s x v) s.place))))

    abbrev pub constant_line : ℕ → Part Token Statement
    constant_line room = then (keyword text k.Const) (λ w. then (any_type text limit room) (λ s. then (name text) (λ x. then (symbol text m.Assign) (λ a. then (expr text limit room) (λ e. ended text (at_one (constant s x e) w.at))))))

    abbrev pub output_line : ℕ → Part Token Statement
    output_line room = then (keyword text k.Output) (λ w. then (any_type text limit room) (λ s. then (name text) (λ x. ended text (at_one (output s x) w.at))))

    abbrev pub joined : ℕ → Part Token Operand
    joined room = then (symbol text m.PlusPlus) (λ p. operand text limit room)

    abbrev pub alias_line : ℕ → Part Token Statement
    alias_line room = then (keyword text k.Let) (λ w. then (name text) (λ x. then (symbol text m.Assign) (λ a. then (operand text limit room) (λ o. then (repeated (joined room)) (λ os. ended text (at_one (alias x (o ∷ os)) w.at))))))

    -- ---- gates and subroutines

    abbrev pub barrier_line : ℕ → Part Token Statement
    barrier_line room = then (keyword text k.Barrier) (λ w. then (any_operands text limit room) (λ os. ended text (at_one (barrier os) w.at)))

    -- what may stand in the body of a gate
    abbrev pub member : ℕ → Part Token Statement
    member room = either (then (call text limit room) (λ c. nothing (call_statement c))) (barrier_line room)

    abbrev pub gate_body : ℕ → Part Token Block
    gate_body zero = never
    gate_body (suc room) = braced text statements (member room)

    abbrev pub gate_definition : ℕ → Part Token Statement
    gate_definition room = then (keyword text k.Gate) (λ w. then (name text) (λ x. then (any_gate_parameters room) (λ ps. then (names text) (λ qs. then (gate_body room) (λ c. nothing (gate x ps qs c.statements w.at c.close))))))

    -- a parameter stands one level deeper than its round brackets
    abbrev pub inner_parameter : ℕ → Part Token Parameter
    inner_parameter zero = never
    inner_parameter (suc room) = parameter text limit room

    abbrev pub parameters : ℕ → Part Token (List Parameter)
    parameters room = then (opener text room (mark_kind m.LeftParen)) (λ o. then (any_list (kind text) comma (inner_parameter room)) (λ ps. then (symbol text m.RightParen) (λ c. nothing ps)))

    abbrev pub result : ℕ → Part Token (Option Scalar)
    result room = optional (then (symbol text m.Arrow) (λ a. any_type text limit room))

    abbrev pub subroutine_definition : ℕ → Part Token Block → Part Token Statement
    subroutine_definition room block = then (keyword text k.Def) (λ w. then (name text) (λ x. then (parameters room) (λ ps. then (result room) (λ r. then block (λ c. nothing (subroutine x ps r c.statements w.at c.close))))))

    abbrev pub declaration : ℕ → Part Token Block → Part Token Statement
    declaration room block =
        either inclusion
        (either (qubit_line room)
        (either (qreg_line room)
        (either (creg_line room)
        (either (variable_line room)
        (either (constant_line room)
        (either (output_line room)
        (either (alias_line room)
        (either (gate_definition room) (subroutine_definition room block)))))))))

    -- ---- actions

    abbrev pub reset_line : ℕ → Part Token Statement
    reset_line room = then (keyword text k.Reset) (λ w. then (operand text limit room) (λ o. ended text (at_one (reset o) w.at)))

    abbrev pub measure_line : ℕ → Part Token Statement
    measure_line room = then (keyword text k.Measure) (λ w. then (operand text limit room) (λ o. then (optional (then (symbol text m.Arrow) (λ a. target text limit room))) (λ g. ended text (at_one (measurement o g) w.at))))

    abbrev pub return_line : ℕ → Part Token Statement
    return_line room = then (keyword text k.Return) (λ w. then (optional (value text limit room)) (λ v. ended text (at_one (give v) w.at)))

    abbrev pub assigned : ℕ → Operand → Part Token Statement
    assigned room o =
        either (then (symbol text m.Assign) (λ a. then (value text limit room) (λ v. ended text (at_one (assign o None v) o.place))))
        (then (one (picked (kind text) assign_operators)) (λ a. then (expr text limit room) (λ e. ended text (at_one (assign o (Some a.0) (expression e)) o.place))))

    -- behind the name of a target, of a subroutine, or of a gate
    abbrev pub assignment : ℕ → List ℕ × Span → Part Token Statement
    assignment room x = then (repeated (index text room (inside text limit room))) (λ is. assigned room (operand_at x is))

    abbrev pub gate_call_line : ℕ → List ℕ × Span → List Tree → Part Token Statement
    gate_call_line room x es = then (applied text limit room (declared x) es) (λ c. nothing (call_statement c))

    abbrev pub behind_name : ℕ → List ℕ × Span → Part Token Statement
    behind_name room x =
        either (assignment room x)
        (either (then (arguments text room (inner text limit room)) (λ es. either (subroutine_call x es) (gate_call_line room x es)))
        (gate_call_line room x []))

    abbrev pub named_line : ℕ → Part Token Statement
    named_line room = then (one (name_of text)) (behind_name room)

    abbrev pub modified_line : ℕ → Part Token Statement
    modified_line room = then (modified text limit room) (λ c. nothing (call_statement c))

    abbrev pub phase_line : ℕ → Part Token Statement
    phase_line room = then (phase text limit room) (λ c. nothing (call_statement c))

    abbrev pub action : ℕ → Part Token Statement
    action room =
        either (barrier_line room)
        (either (reset_line room)
        (either (measure_line room)
        (either (word_line k.Break break)
        (either (word_line k.Continue continue)
        (either (word_line k.End end)
        (either (return_line room)
        (either (modified_line room)
        (either (phase_line room) (named_line room)))))))))

    -- ---- control statements

    abbrev pub conditional : ℕ → Part Token Body → Part Token Opened
    conditional room body = then (keyword text k.If) (λ w. then (condition text limit room) (λ e. then body (behind_body body e w.at)))

    abbrev pub while_loop : ℕ → Part Token Body → Part Token Opened
    while_loop room body = then (keyword text k.While) (λ w. then (condition text limit room) (λ e. then body (λ c. nothing (while e c.statements w.at (close_or c.close w.at), c.is_open))))

    abbrev pub for_loop : ℕ → Part Token Body → Part Token Opened
    for_loop room body = then (keyword text k.For) (λ w. then (any_type text limit room) (λ s. then (name text) (λ x. then (keyword text k.In) (λ i. then (turns text limit room) (λ r. then body (λ c. nothing (for_of s x r c w.at)))))))

    abbrev pub control : ℕ → Part Token Body → Part Token Opened
    control room body = either (conditional room body) (either (while_loop room body) (for_loop room body))

    -- ---- by the room

    abbrev pub stmt_at : ℕ → Part Token Block → Part Token Body → Part Token Opened
    stmt_at room block body = either (whole_line (declaration room block)) (either (whole_line (action room)) (control room body))

    unfoldable pub stmt : ℕ → Part Token Opened
    stmt zero = stmt_at zero never never
    stmt (suc room) = stmt_at (suc room) (block_of text (stmt room)) (body_of text (stmt room))

    abbrev pub stmts : ℕ → Part Token Statements
    stmts room = then (repeated (stmt room)) (λ ss. nothing (opened_statements ss))

    abbrev pub program : ℕ → Part Token Statements
    program room = then (optional version_line) (λ v. stmts room)
