-- The parts that statements are made of: names, operands, values, calls and bodies. `room` is the number of
-- levels that may still be opened, and a limit of None lets a chain have any number of operators.
--
--   operand   = target | Hardware
--   target    = Name { index }
--   value     = expr | "measure" operand
--   call      = { modifier "@" } ( Name [ "(" [ exprs ] ")" ] operands | "gphase" "(" expr ")" [ operands ] ) ";"
--   modifier  = "inv" | "pow" "(" expr ")" | "ctrl" [ "(" expr ")" ]
--   parameter = type Name | "qubit" [ "[" expr "]" ] Name
--   turns     = "[" expr ":" expr [ ":" expr ] "]" | "{" exprs "}"
--   body      = "{" { stmt } "}" | stmt
--
-- A list may end with one comma. In a range of three parts the middle one is the step. A modifier opens a
-- level by its word, which stays open to the end of its call.
use Rattle.std.specs.Prelude.{ℕ, zero, suc, ◌==◌, ◌&&◌, ◌||◌, Bool, true, false, cond, List, [], ◌∷◌, ◌++◌, codes, Option, Some, None}
use Rattle.qq_base.specs.declared.refusal.Span.{Span}
use Rattle.qasm_lexer.specs.declared.token.Token.{Token}
use Rattle.qasm_lexer.specs.declared.token.TokenKind.{TokenKind}
use Rattle.qasm_lexer.specs.declared.token.TokenKind.TheVariants as t
use Rattle.qasm_lexer.specs.declared.token.Keyword.{Keyword}
use Rattle.qasm_lexer.specs.declared.token.Keyword.TheVariants as k
use Rattle.qasm_lexer.specs.declared.token.Mark.{Mark}
use Rattle.qasm_lexer.specs.declared.token.Mark.TheVariants as m
use Rattle.qasm_ast.specs.declared.expr.Base.TheVariants as b
use Rattle.qasm_ast.specs.Tree.{word, qubit, Tree, trees, Trees, Maybe, maybe, Bracket, brackets, no_bracket, Name, Scalar, Operand, Value, expression, measured, Change, inverse, power, control, Parameter, Statement, gate_call, Statements, no_statement, a_statement}
use Rattle.grammar_parts.specs.Part.{Part, nothing, never, one, then, either, repeated}
use Rattle.grammar_parts.specs.Kinds.{any_list, some_list}
use Rattle.qasm_lexer.specs.Sizes.{bytes_of}
use Rattle.qasm_expr.specs.TokenKinds.{keyword_kind, mark_kind, kind}
use Rattle.qasm_expr.specs.Grammar.{scalar, comma, name_of, sign, opener, width, type, grouped, arguments, content, index, expr}

-- ---- what the parts derive

-- statements in braces, with the place of the closing one
pub record Block : Type 0 where
  pub statements : Statements
  pub close : Span

-- The body of a control statement: whether it ends in an `if` that has no `else`, and the place of its
-- closing brace, where it has braces.
pub record Body : Type 0 where
  pub statements : Statements
  pub is_open : Bool
  pub close : Option Span

-- a gate call, with the modifiers in front of it
pub record Call : Type 0 where
  pub changes : List Change
  pub name : Name
  pub arguments : List Tree
  pub operands : List Operand

-- what a `for` goes over; a range has start, step and stop
pub data Turns : Type 0 where
  over_range : Tree → Maybe → Tree → Turns
  over_set : Trees → Turns

-- a statement, and whether it ends in an `if` that has no `else`
abbrev pub Opened : Type 0
Opened = Statement × Bool

abbrev pub statements : List Statement → Statements
statements [] = no_statement
statements (s ∷ ss) = a_statement s (statements ss)

abbrev pub opened_statements : List Opened → Statements
opened_statements [] = no_statement
opened_statements (s ∷ ss) = a_statement s.0 (opened_statements ss)

-- the place of a closing brace, where there is one, else that place
abbrev pub close_or : Option Span → Span → Span
close_or None place = place
close_or (Some close) place = close

abbrev pub declared : List ℕ × Span → Name
declared x = record { text = x.0; place = x.1 }

abbrev pub operand_at : List ℕ × Span → List Bracket → Operand
operand_at x is = record { name = word x.0; index = brackets is; place = x.1 }

abbrev pub call_of : Name → List Tree → List Operand → Call
call_of x es os = record { changes = []; name = x; arguments = es; operands = os }

abbrev pub with_change : Change → Call → Call
with_change h c = record { changes = h ∷ c.changes; name = c.name; arguments = c.arguments; operands = c.operands }

abbrev pub place_of_change : Change → Span
place_of_change (inverse place) = place
place_of_change (power e place) = place
place_of_change (control e place) = place

-- a call begins with its first modifier, or with its name
abbrev pub place_of_call : List Change → Name → Span
place_of_call [] x = x.place
place_of_call (h ∷ hs) x = place_of_change h

abbrev pub call_statement : Call → Statement
call_statement c = gate_call c.changes c.name (trees c.arguments) c.operands (place_of_call c.changes c.name) (place_of_call c.changes c.name)

-- ---- one token

abbrev pub hardware_at : Token → TokenKind → Option Operand
hardware_at x (t.Hardware n) = Some (record { name = qubit n; index = no_bracket; place = x.at })
hardware_at x _ = None

-- a hardware qubit
abbrev pub hardware_of : Token → Option Operand
hardware_of x = hardware_at x x.kind

abbrev pub is_zero : Option ℕ → Bool
is_zero None = true
is_zero (Some minor) = minor == 0

abbrev pub version_at : Token → TokenKind → Option Token
version_at x (t.Version major minor) = cond ((major == 3) && is_zero minor) (Some x) None
version_at x _ = None

-- the version 3 or 3.0, by its value
abbrev pub version_of : Token → Option Token
version_of x = version_at x x.kind

abbrev pub same : List ℕ → List ℕ → Bool
same [] [] = true
same (c ∷ cs) (d ∷ ds) = (c == d) && same cs ds
same _ _ = false

-- the text `stdgates.inc`, in quotes of either kind
abbrev pub is_stdgates : List ℕ → Bool
is_stdgates cs = same cs ((34 ∷ []) ++ (codes "stdgates.inc" ++ (34 ∷ []))) || same cs ((39 ∷ []) ++ (codes "stdgates.inc" ++ (39 ∷ [])))

-- a part that may be left out
abbrev pub optional : {A : Type 0} → Part Token A → Part Token (Option A)
optional p = either (then p (λ a. nothing (Some a))) (nothing None)

module _ (text : List ℕ) where
  abbrev pub included_at : Token → TokenKind → Option Token
  included_at x t.Text = cond (is_stdgates (bytes_of text x)) (Some x) None
  included_at x _ = None

  -- the file that may be included
  abbrev pub included : Token → Option Token
  included x = included_at x x.kind

  abbrev pub keyword : Keyword → Part Token Token
  keyword w = sign text (keyword_kind w)

  abbrev pub symbol : Mark → Part Token Token
  symbol x = sign text (mark_kind x)

  -- a semicolon ends what has this value
  abbrev pub ended : {A : Type 0} → A → Part Token A
  ended a = then (symbol m.Semicolon) (λ s. nothing a)

  abbrev pub name : Part Token Name
  name = then (one (name_of text)) (λ x. nothing (declared x))

  abbrev pub names : Part Token (List Name)
  names = some_list (kind text) comma name

  -- statements in braces
  abbrev pub braced : {A : Type 0} → (List A → Statements) → Part Token A → Part Token Block
  braced listed item = then (symbol m.LeftBrace) (λ o. then (repeated item) (λ ss. then (symbol m.RightBrace) (λ c. nothing (record { statements = listed ss; close = c.at }))))

  -- the body of a subroutine, and that of a control statement
  abbrev pub block_of : Part Token Opened → Part Token Block
  block_of stmt = braced opened_statements stmt

  abbrev pub body_of : Part Token Opened → Part Token Body
  body_of stmt = either (then (block_of stmt) (λ c. nothing (record { statements = c.statements; is_open = false; close = Some c.close })))
      (then stmt (λ s. nothing (record { statements = a_statement s.0 no_statement; is_open = s.1; close = None })))

  abbrev pub changed : Part Token Change → Part Token Call → Part Token Call
  changed change call = then change (λ h. then (symbol m.At) (λ a. then call (λ c. nothing (with_change h c))))

  module _ (limit : Option ℕ) where
    -- ---- one level deeper

    -- an expression
    abbrev pub inner : ℕ → Part Token Tree
    inner zero = never
    inner (suc room) = expr text limit room

    -- what stands between the brackets of an index
    abbrev pub inside : ℕ → Part Token Bracket
    inside zero = never
    inside (suc room) = content text room (expr text limit room) (inner room)

    -- ---- operands, values and types

    abbrev pub condition : ℕ → Part Token Tree
    condition room = grouped text room (inner room)

    abbrev pub any_width : ℕ → Part Token (Option Tree)
    any_width room = optional (width text room (inner room))

    abbrev pub any_type : ℕ → Part Token Scalar
    any_type room = type text room (inner room)

    abbrev pub target : ℕ → Part Token Operand
    target room = then (one (name_of text)) (λ x. then (repeated (index text room (inside room))) (λ is. nothing (operand_at x is)))

    abbrev pub operand : ℕ → Part Token Operand
    operand room = either (target room) (one hardware_of)

    abbrev pub operands : ℕ → Part Token (List Operand)
    operands room = some_list (kind text) comma (operand room)

    abbrev pub any_operands : ℕ → Part Token (List Operand)
    any_operands room = any_list (kind text) comma (operand room)

    abbrev pub value : ℕ → Part Token Value
    value room = either (then (expr text limit room) (λ e. nothing (expression e)))
        (then (keyword k.Measure) (λ w. then (operand room) (λ o. nothing (measured o))))

    abbrev pub parameter : ℕ → Part Token Parameter
    parameter room =
        either (then (any_type room) (λ s. then name (λ x. nothing (record { type = s; name = x }))))
        (then (keyword k.Qubit) (λ w. then (any_width room) (λ e. then name (λ x. nothing (record { type = scalar b.Qubit (maybe e) w.at; name = x })))))

    -- ---- calls of gates

    -- operands and the end of a call
    abbrev pub applied : ℕ → Name → List Tree → Part Token Call
    applied room x es = then (operands room) (λ os. ended (call_of x es os))

    abbrev pub named_call : ℕ → Part Token Call
    named_call room = then name (λ x. either (then (arguments text room (inner room)) (applied room x)) (applied room x []))

    abbrev pub phase : ℕ → Part Token Call
    phase room = then (keyword k.Gphase) (λ w. then (condition room) (λ e. then (any_operands room) (λ os. ended (call_of (declared (codes "gphase", w.at)) (e ∷ []) os))))

    abbrev pub plain_call : ℕ → Part Token Call
    plain_call room = either (phase room) (named_call room)

    -- a modifier, where there is this room behind its word
    abbrev pub modifier : ℕ → Part Token Change
    modifier room =
        either (then (keyword k.Inv) (λ w. nothing (inverse w.at)))
        (either (then (keyword k.Pow) (λ w. then (condition room) (λ e. nothing (power e w.at))))
        (then (keyword k.Ctrl) (λ w. then (optional (condition room)) (λ e. nothing (control (maybe e) w.at)))))

    -- a call that begins with a modifier
    unfoldable pub modified : ℕ → Part Token Call
    modified zero = never
    modified (suc room) = changed (modifier room) (either (modified room) (plain_call room))

    abbrev pub call : ℕ → Part Token Call
    call room = either (modified room) (plain_call room)

    -- ---- what a loop goes over

    abbrev pub behind_second : ℕ → Tree → Tree → Part Token Turns
    behind_second room first second =
        either (then (symbol m.Colon) (λ c. then (inner room) (λ third. nothing (over_range first (maybe (Some second)) third))))
        (nothing (over_range first (maybe None) second))

    abbrev pub span : ℕ → Part Token Turns
    span room = then (opener text room (mark_kind m.LeftBracket)) (λ o. then (inner room) (λ first. then (symbol m.Colon) (λ c. then (inner room) (λ second. then (behind_second room first second) (λ r. then (symbol m.RightBracket) (λ d. nothing r))))))

    abbrev pub chosen : ℕ → Part Token Turns
    chosen room = then (opener text room (mark_kind m.LeftBrace)) (λ o. then (some_list (kind text) comma (inner room)) (λ es. then (symbol m.RightBrace) (λ c. nothing (over_set (trees es)))))

    abbrev pub turns : ℕ → Part Token Turns
    turns room = either (span room) (chosen room)
