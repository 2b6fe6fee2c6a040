-- What holds of every expression of a program, where it holds of what the expressions of each room derive.
use Rattle.std.proofs.Common.{◌≡◌, ℕ, zero, suc, ◌≤◌, List, [], ◌∷◌, Option, Some, None, subst, arith}
use Rattle.qq_base.specs.declared.refusal.Span.{Span}
use Rattle.qasm_lexer.specs.declared.token.Token.{Token}
use Rattle.qasm_lexer.specs.declared.token.TokenKind.{TokenKind}
use Rattle.qasm_lexer.specs.declared.token.TokenKind.TheVariants as t
use Rattle.qasm_ast.specs.Tree.{qubit, Tree, call as call_tree, trees, Trees, Maybe, maybe, absent, present, Bracket, brackets, no_bracket, place_of, Name, Scalar, Operand, Change, Statement, Statements}
use Rattle.grammar_parts.specs.Part.{Part, either, repeated}
use Rattle.qasm_expr.specs.TokenKinds.{kind}
use Rattle.qasm_expr.specs.Grammar.{comma, width, type, grouped, arguments, stop, behind_colon, set, content, index, expr}
use Rattle.qasm_grammar.specs.Parts.{Block, Body, Call, Turns, over_range, over_set, Opened, statements, opened_statements, with_change, declared, operand_at, call_statement, hardware_at, optional, block_of, body_of, inner, inside, condition, any_width, any_type, target, operand, operands, any_operands, value, parameter, applied, named_call, phase, plain_call, modifier, modified, call, behind_second, span, turns}
use Rattle.qasm_grammar.specs.Grammar.{for_of, member, gate_body, gate_definition, inner_parameter, parameters, result, subroutine_definition, declaration, barrier_line, assigned, assignment, subroutine_call, gate_call_line, behind_name, action, behind_body, control as controlled, stmt_at, stmt, program}
use Rattle.qasm_grammar.specs.Height.{Each, IfSome, EveryTree, EveryMaybe, EveryBracket, EveryBrackets, EveryScalar, EveryOperand, EveryValue, EveryParameter, EveryChange, EveryOf, Every}
use Rattle.qasm_grammar.proofs.Holding.{Holds, holds_nothing, holds_never, holds_one, holds_then, holds_behind, holds_either, holds_cond, holds_wider, holds_map, holds_both, holds_repeated, holds_any_list, holds_some_list}

optional_holds : {A : Type 0} {p : Part Token A} {Q : A → Type 0} → Holds p Q → Holds (optional p) (IfSome Q)
optional_holds h = holds_either (holds_map (λ a. Some a) h (λ a g. g)) (holds_nothing tt)

module _ (P : Tree → Type 0) where
  pub trees_every : (es : List Tree) → Each P es → EveryTree P (trees es)
  trees_every [] h = tt
  trees_every (e ∷ es) h = (h.0, trees_every es h.1)

  pub brackets_every : (bs : List Bracket) → Each (EveryBracket P) bs → EveryBrackets P (brackets bs)
  brackets_every [] h = tt
  brackets_every (b ∷ bs) h = (h.0, brackets_every bs h.1)

  maybe_every : (e : Option Tree) → IfSome P e → EveryMaybe P (maybe e)
  maybe_every None h = tt
  maybe_every (Some e) h = h

  statements_every : (ss : List Statement) → Each (EveryOf P) ss → Every P (statements ss)
  statements_every [] h = tt
  statements_every (s ∷ ss) h = (h.0, statements_every ss h.1)

  opened_every : (ss : List Opened) → Each (λ s. EveryOf P s.0) ss → Every P (opened_statements ss)
  opened_every [] h = tt
  opened_every (s ∷ ss) h = (h.0, opened_every ss h.1)

  hardware_every : (x : Token) (kd : TokenKind) (o : Operand) → hardware_at x kd ≡ Some o → EveryOperand P o
  hardware_every x (t.Hardware n) o e = let same : record { name = qubit n; index = no_bracket; place = x.at } ≡ o = cc in subst (λ z. EveryOperand P z) same tt
  hardware_every x _ o e = absurd (cc)

  abbrev EveryCall : Call → Type 0
  EveryCall c = Each (EveryChange P) c.changes × EveryTree P (trees c.arguments) × Each (EveryOperand P) c.operands

  -- a call with these arguments is an expression of which P holds
  abbrev pub IsCall : List Tree → Type 0
  IsCall es = (name : List ℕ) (place : Span) → P (call_tree name (trees es) place)

  abbrev EveryTurn : Turns → Type 0
  EveryTurn (over_range start step stop) = P start × EveryMaybe P step × P stop
  EveryTurn (over_set es) = EveryTree P es

  abbrev EveryOpened : Opened → Type 0
  EveryOpened s = EveryOf P s.0

  abbrev EveryBlock : Block → Type 0
  EveryBlock c = Every P c.statements

  abbrev EveryBody : Body → Type 0
  EveryBody c = Every P c.statements

  for_every : (s : Scalar) (x : Name) (r : Turns) (c : Body) (place : Span) → EveryScalar P s → EveryTurn r → EveryBody c → EveryOpened (for_of s x r c place)
  for_every s x (over_range start step stop) c place h g l = (h, g.0, g.1, g.2, l)
  for_every s x (over_set es) c place h g l = (h, g, l)

  module _ (text : List ℕ) where
    -- ---- what stands in brackets

    module _ (room : ℕ) {inner : Part Token Tree} (i : Holds inner P) where
      pub width_every : Holds (width text room inner) P
      width_every = holds_behind (λ o. holds_then i (λ e h. holds_behind (λ c. holds_nothing h)))

      pub type_every : Holds (type text room inner) (EveryScalar P)
      type_every = holds_either (holds_behind (λ w. holds_nothing tt))
          (holds_behind (λ w. holds_either (holds_then width_every (λ e h. holds_nothing h)) (holds_nothing tt)))

      pub grouped_every : Holds (grouped text room inner) P
      grouped_every = holds_behind (λ o. holds_then i (λ e h. holds_behind (λ c. holds_nothing h)))

      pub arguments_every : Holds (arguments text room inner) (λ es. EveryTree P (trees es))
      arguments_every = holds_behind (λ o. holds_then (holds_any_list (kind text) comma i) (λ es h. holds_behind (λ c. holds_nothing (trees_every es h))))

      set_every : Holds (set text room inner) (EveryBracket P)
      set_every = holds_behind (λ o. holds_then (holds_some_list (kind text) comma i) (λ es h. holds_behind (λ c. holds_nothing (trees_every es h))))

    module _ (room : ℕ) {e : Part Token Tree} (f : Holds e P) where
      stop_every : (start step : Maybe) (place : Span) → EveryMaybe P start → EveryMaybe P step → Holds (stop text e start step place) (EveryBracket P)
      stop_every start step place h g = holds_behind (λ c. holds_then f (λ x l. holds_nothing (h, g, l)))

      behind_colon_every : (start : Maybe) (place : Span) → EveryMaybe P start → Holds (behind_colon text e start place) (EveryBracket P)
      behind_colon_every start place h =
          holds_either (stop_every start absent place h tt)
          (holds_either (holds_then f (λ x l. holds_either (stop_every start (present x) place h l) (holds_nothing (h, tt, l))))
          (holds_nothing (h, tt, tt)))

      pub content_every : {inner : Part Token Tree} → Holds inner P → Holds (content text room e inner) (EveryBracket P)
      content_every i =
          holds_either (set_every room i)
          (holds_either (holds_behind (λ c. behind_colon_every absent c.at tt))
          (holds_then f (λ x l. holds_either (holds_behind (λ c. behind_colon_every (present x) (place_of x) l)) (holds_nothing l))))

    pub index_every : (room : ℕ) {inside : Part Token Bracket} → Holds inside (EveryBracket P) → Holds (index text room inside) (EveryBracket P)
    index_every room b = holds_behind (λ o. holds_then b (λ c h. holds_behind (λ d. holds_nothing h)))

    -- ---- statements, where P holds of the expressions of each room up to `top`

    module _ (limit : Option ℕ) {top : ℕ} (low : (room : ℕ) → room ≤ top → Holds (expr text limit room) P)
        (calls : (room : ℕ) → room ≤ top → Holds (arguments text room (inner text limit room)) IsCall) where
      inner_every : (room : ℕ) → room ≤ top → Holds (inner text limit room) P
      inner_every zero le = holds_never
      inner_every (suc room) le = low room (omega (arith, le))

      inside_every : (room : ℕ) → room ≤ top → Holds (inside text limit room) (EveryBracket P)
      inside_every zero le = holds_never
      inside_every (suc room) le = content_every room (low room (omega (arith, le))) (inner_every room (omega (arith, le)))

      module _ (room : ℕ) (le : room ≤ top) where
        condition_every : Holds (condition text limit room) P
        condition_every = grouped_every room (inner_every room le)

        any_width_every : Holds (any_width text limit room) (λ e. EveryMaybe P (maybe e))
        any_width_every = holds_wider (optional_holds (width_every room (inner_every room le))) maybe_every

        any_type_every : Holds (any_type text limit room) (EveryScalar P)
        any_type_every = type_every room (inner_every room le)

        indexes_every : Holds (repeated (index text room (inside text limit room))) (Each (EveryBracket P))
        indexes_every = holds_repeated (index_every room (inside_every room le))

        target_every : Holds (target text limit room) (EveryOperand P)
        target_every = holds_behind (λ x. holds_map _ indexes_every brackets_every)

        operand_every : Holds (operand text limit room) (EveryOperand P)
        operand_every = holds_either target_every (holds_one (λ x o e. hardware_every x x.kind o e))

        operands_every : Holds (operands text limit room) (Each (EveryOperand P))
        operands_every = holds_some_list (kind text) comma operand_every

        any_operands_every : Holds (any_operands text limit room) (Each (EveryOperand P))
        any_operands_every = holds_any_list (kind text) comma operand_every

        value_every : Holds (value text limit room) (EveryValue P)
        value_every = holds_either (holds_map _ (low room le) (λ e h. h)) (holds_behind (λ w. holds_map _ operand_every (λ o h. h)))

        parameter_every : Holds (parameter text limit room) (EveryParameter P)
        parameter_every =
            holds_either (holds_then any_type_every (λ s h. holds_behind (λ x. holds_nothing h)))
            (holds_behind (λ w. holds_then any_width_every (λ e h. holds_behind (λ x. holds_nothing h))))

        -- ---- calls of gates

        call_arguments_every : Holds (arguments text room (inner text limit room)) (λ es. EveryTree P (trees es))
        call_arguments_every = arguments_every room (inner_every room le)

        applied_every : (x : Name) (es : List Tree) → EveryTree P (trees es) → Holds (applied text limit room x es) EveryCall
        applied_every x es h = holds_then operands_every (λ os g. holds_behind (λ s. holds_nothing (tt, h, g)))

        named_call_every : Holds (named_call text limit room) EveryCall
        named_call_every = holds_behind (λ x. holds_either (holds_then call_arguments_every (λ es h. applied_every x es h)) (applied_every x [] tt))

        phase_every : Holds (phase text limit room) EveryCall
        phase_every = holds_behind (λ w. holds_then condition_every (λ e h. holds_then any_operands_every (λ os g. holds_behind (λ s. holds_nothing (tt, (h, tt), g)))))

        plain_call_every : Holds (plain_call text limit room) EveryCall
        plain_call_every = holds_either phase_every named_call_every

        modifier_every : Holds (modifier text limit room) (EveryChange P)
        modifier_every =
            holds_either (holds_behind (λ w. holds_nothing tt))
            (holds_either (holds_behind (λ w. holds_map _ condition_every (λ e h. h)))
            (holds_behind (λ w. holds_map _ (optional_holds condition_every) maybe_every)))

      modified_every : (room : ℕ) → room ≤ top → Holds (modified text limit room) EveryCall
      unfolding modified
      modified_every zero le = holds_never
      modified_every (suc room) le =
          let below : room ≤ top = omega (arith, le) in
          holds_then (modifier_every room below) (λ h g. holds_behind (λ a. holds_map (with_change h) (holds_either (modified_every room below) (plain_call_every room below)) (λ c l. ((g, l.0), l.1, l.2))))

      module _ (room : ℕ) (le : room ≤ top) where
        call_every : Holds (call text limit room) EveryCall
        call_every = holds_either (modified_every room le) (plain_call_every room le)

        -- ---- what a loop goes over

        behind_second_every : (first second : Tree) → P first → P second → Holds (behind_second text limit room first second) EveryTurn
        behind_second_every first second h g = holds_either (holds_behind (λ c. holds_then (inner_every room le) (λ third l. holds_nothing (h, g, l)))) (holds_nothing (h, tt, g))

        span_every : Holds (span text limit room) EveryTurn
        span_every = holds_behind (λ o. holds_then (inner_every room le) (λ first h. holds_behind (λ c. holds_then (inner_every room le) (λ second g. holds_then (behind_second_every first second h g) (λ r l. holds_behind (λ d. holds_nothing l))))))

        turns_every : Holds (turns text limit room) EveryTurn
        turns_every = holds_either span_every (holds_behind (λ o. holds_then (holds_some_list (kind text) comma (inner_every room le)) (λ es h. holds_behind (λ c. holds_nothing (trees_every es h)))))

        -- ---- gates and subroutines

        barrier_every : Holds (barrier_line text limit room) (EveryOf P)
        barrier_every = holds_behind (λ w. holds_then (any_operands_every room le) (λ os h. holds_behind (λ s. holds_nothing h)))

        member_every : Holds (member text limit room) (EveryOf P)
        member_every = holds_either (holds_map call_statement call_every (λ c h. h)) barrier_every

        result_every : Holds (result text limit room) (IfSome (EveryScalar P))
        result_every = optional_holds (holds_behind (λ a. any_type_every room le))

      gate_body_every : (room : ℕ) → room ≤ top → Holds (gate_body text limit room) EveryBlock
      gate_body_every zero le = holds_never
      gate_body_every (suc room) le = holds_behind (λ o. holds_then (holds_repeated (member_every room (omega (arith, le)))) (λ ss h. holds_behind (λ c. holds_nothing (statements_every ss h))))

      inner_parameter_every : (room : ℕ) → room ≤ top → Holds (inner_parameter text limit room) (EveryParameter P)
      inner_parameter_every zero le = holds_never
      inner_parameter_every (suc room) le = parameter_every room (omega (arith, le))

      module _ (room : ℕ) (le : room ≤ top) where
        gate_every : Holds (gate_definition text limit room) (EveryOf P)
        gate_every = holds_behind (λ w. holds_behind (λ x. holds_behind (λ ps. holds_behind (λ qs. holds_then (gate_body_every room le) (λ c g. holds_nothing g)))))

        parameters_every : Holds (parameters text limit room) (Each (EveryParameter P))
        parameters_every = holds_behind (λ o. holds_then (holds_any_list (kind text) comma (inner_parameter_every room le)) (λ ps h. holds_behind (λ c. holds_nothing h)))

        module _ {block : Part Token Block} (b : Holds block EveryBlock) where
          subroutine_every : Holds (subroutine_definition text limit room block) (EveryOf P)
          subroutine_every = holds_behind (λ w. holds_behind (λ x. holds_then parameters_every (λ ps h. holds_then (result_every room le) (λ r g. holds_then b (λ c l. holds_nothing (h, g, l))))))

          declaration_every : Holds (declaration text limit room block) (EveryOf P)
          declaration_every =
              holds_either (holds_behind (λ w. holds_behind (λ x. holds_behind (λ s. holds_nothing tt))))
              (holds_either (holds_behind (λ w. holds_then (any_width_every room le) (λ e h. holds_behind (λ x. holds_behind (λ s. holds_nothing h)))))
              (holds_either (holds_behind (λ w. holds_behind (λ x. holds_then (any_width_every room le) (λ e h. holds_behind (λ s. holds_nothing h)))))
              (holds_either (holds_behind (λ w. holds_behind (λ x. holds_then (any_width_every room le) (λ e h. holds_behind (λ s. holds_nothing (h, tt))))))
              (holds_either (holds_then (any_type_every room le) (λ s h. holds_behind (λ x. holds_then (optional_holds (holds_behind (λ a. value_every room le))) (λ v g. holds_behind (λ z. holds_nothing (h, g))))))
              (holds_either (holds_behind (λ w. holds_then (any_type_every room le) (λ s h. holds_behind (λ x. holds_behind (λ a. holds_then (low room le) (λ e g. holds_behind (λ z. holds_nothing (h, g))))))))
              (holds_either (holds_behind (λ w. holds_then (any_type_every room le) (λ s h. holds_behind (λ x. holds_behind (λ z. holds_nothing h)))))
              (holds_either (holds_behind (λ w. holds_behind (λ x. holds_behind (λ a. holds_then (operand_every room le) (λ o h. holds_then (holds_repeated (holds_behind (λ p. operand_every room le))) (λ os g. holds_behind (λ z. holds_nothing (h, g))))))))
              (holds_either gate_every subroutine_every))))))))

        -- ---- actions

        assigned_every : (o : Operand) → EveryOperand P o → Holds (assigned text limit room o) (EveryOf P)
        assigned_every o h =
            holds_either (holds_behind (λ a. holds_then (value_every room le) (λ v g. holds_behind (λ z. holds_nothing (h, g)))))
            (holds_behind (λ a. holds_then (low room le) (λ e g. holds_behind (λ z. holds_nothing (h, g)))))

        gate_call_every : (x : List ℕ × Span) (es : List Tree) → EveryTree P (trees es) → Holds (gate_call_line text limit room x es) (EveryOf P)
        gate_call_every x es h = holds_map call_statement (applied_every room le (declared x) es h) (λ c g. g)

        assignment_every : (x : List ℕ × Span) → Holds (assignment text limit room x) (EveryOf P)
        assignment_every x = holds_then (indexes_every room le) (λ is h. assigned_every (operand_at x is) (brackets_every is h))

        calls_every : (x : List ℕ × Span) (es : List Tree) → EveryTree P (trees es) × IsCall es → Holds (either (subroutine_call text x es) (gate_call_line text limit room x es)) (EveryOf P)
        calls_every x es h = holds_either (holds_behind (λ z. holds_nothing (h.1 x.0 x.1))) (gate_call_every x es h.0)

        behind_name_every : (x : List ℕ × Span) → Holds (behind_name text limit room x) (EveryOf P)
        behind_name_every x =
            holds_either (assignment_every x)
            (holds_either (holds_then (holds_both (call_arguments_every room le) (calls room le)) (λ es h. calls_every x es h))
            (gate_call_every x [] tt))

        action_every : Holds (action text limit room) (EveryOf P)
        action_every =
            holds_either (barrier_every room le)
            (holds_either (holds_behind (λ w. holds_then (operand_every room le) (λ o h. holds_behind (λ z. holds_nothing h))))
            (holds_either (holds_behind (λ w. holds_then (operand_every room le) (λ o h. holds_then (optional_holds (holds_behind (λ a. target_every room le))) (λ g l. holds_behind (λ z. holds_nothing (h, l))))))
            (holds_either (holds_behind (λ w. holds_behind (λ z. holds_nothing tt)))
            (holds_either (holds_behind (λ w. holds_behind (λ z. holds_nothing tt)))
            (holds_either (holds_behind (λ w. holds_behind (λ z. holds_nothing tt)))
            (holds_either (holds_behind (λ w. holds_then (optional_holds (value_every room le)) (λ v h. holds_behind (λ z. holds_nothing h))))
            (holds_either (holds_map call_statement (modified_every room le) (λ c h. h))
            (holds_either (holds_map call_statement (phase_every room le) (λ c h. h)) (holds_behind behind_name_every)))))))))

        -- ---- control statements

        module _ {body : Part Token Body} (b : Holds body EveryBody) where
          behind_body_every : (e : Tree) (place : Span) → P e → (c : Body) → EveryBody c → Holds (behind_body text body e place c) EveryOpened
          behind_body_every e place h c g = holds_cond c.is_open (holds_nothing (h, g, tt)) (holds_either (holds_behind (λ w. holds_then b (λ d l. holds_nothing (h, g, l)))) (holds_nothing (h, g, tt)))

          control_every : Holds (controlled text limit room body) EveryOpened
          control_every =
              holds_either (holds_behind (λ w. holds_then (condition_every room le) (λ e h. holds_then b (behind_body_every e w.at h))))
              (holds_either (holds_behind (λ w. holds_then (condition_every room le) (λ e h. holds_then b (λ c g. holds_nothing (h, g)))))
              (holds_behind (λ w. holds_then (any_type_every room le) (λ s h. holds_behind (λ x. holds_behind (λ i. holds_then (turns_every room le) (λ r g. holds_then b (λ c l. holds_nothing (for_every s x r c w.at h g l)))))))))

        stmt_at_every : {block : Part Token Block} {body : Part Token Body} → Holds block EveryBlock → Holds body EveryBody → Holds (stmt_at text limit room block body) EveryOpened
        stmt_at_every c b = holds_either (holds_map _ (declaration_every c) (λ s h. h)) (holds_either (holds_map _ action_every (λ s h. h)) (control_every b))

      -- ---- by the room

      block_every : {s : Part Token Opened} → Holds s EveryOpened → Holds (block_of text s) EveryBlock
      block_every f = holds_behind (λ o. holds_then (holds_repeated f) (λ ss h. holds_behind (λ c. holds_nothing (opened_every ss h))))

      body_every : {s : Part Token Opened} → Holds s EveryOpened → Holds (body_of text s) EveryBody
      body_every f = holds_either (holds_map _ (block_every f) (λ c h. h)) (holds_map _ f (λ s h. (h, tt)))

      stmt_every : (room : ℕ) → room ≤ top → Holds (stmt text limit room) EveryOpened
      unfolding stmt
      stmt_every zero le = stmt_at_every zero le holds_never holds_never
      stmt_every (suc room) le =
          let f : Holds (stmt text limit room) EveryOpened = stmt_every room (omega (arith, le)) in
          stmt_at_every (suc room) le (block_every f) (body_every f)

      pub program_every : Holds (program text limit top) (Every P)
      program_every = holds_behind (λ v. holds_map opened_statements (holds_repeated (stmt_every top (omega arith))) opened_every)
