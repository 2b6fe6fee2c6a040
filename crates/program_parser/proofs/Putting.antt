-- What the parts of statements stand for, put together; and the readers one level deeper, under both of their names.
use Rattle.std.proofs.Common.{◌≡◌, ℕ, zero, suc, Vec, Global, Bool, true, false, List, [], ◌∷◌, length, Option, Some, None, Ok, Err, refl, sym, ap, subst, ◌∙◌, arith}
use Rattle.std.specs.Prelude.{All, codes}
use Rattle.std.proofs.lemmas.List.Elements.{All-nil, All-cons}
use Rattle.qq_base.specs.declared.refusal.Span.{Span}
use Rattle.qasm_lexer.specs.declared.token.Token.{Token}
use Rattle.qasm_lexer.specs.declared.token.TokenKind.{TokenKind}
use Rattle.qasm_lexer.specs.declared.token.TokenKind.TheVariants as t
use Rattle.qasm_lexer.specs.declared.token.Keyword.{Keyword}
use Rattle.qasm_lexer.specs.declared.token.Keyword.TheVariants as k
use Rattle.qasm_lexer.specs.declared.token.Mark.{Mark}
use Rattle.qasm_lexer.specs.declared.token.Mark.TheVariants as m
use Rattle.qasm_ast.specs.declared.expr.ExprId.{ExprId}
use Rattle.qasm_ast.specs.declared.expr.IndexRef.{IndexRef}
use Rattle.qasm_ast.specs.declared.expr.OperandRef.{OperandRef}
use Rattle.qasm_ast.specs.declared.expr.OperandName.TheVariants as o
use Rattle.qasm_ast.specs.declared.expr.TypeRef.{TypeRef}
use Rattle.qasm_ast.specs.declared.expr.Base.TheVariants as b
use Rattle.qasm_ast.specs.declared.stmt.Declared.{Declared}
use Rattle.qasm_ast.specs.declared.stmt.Modifier.{Modifier}
use Rattle.qasm_ast.specs.declared.stmt.Modifier.TheVariants as h
use Rattle.qasm_ast.specs.declared.stmt.StmtKind.{StmtKind}
use Rattle.qasm_ast.specs.declared.stmt.StmtKind.TheVariants as s
use Rattle.qasm_ast.specs.declared.stmt.ValueRef.TheVariants as v
use Rattle.qasm_ast.specs.Tree.{Tree, trees_at, a_tree, no_tree, maybe, Scalar, Parameter, Change, change_of, Bracket, qubit, no_bracket, Name, Operand, operand_of, expression, measured, stmt_of}
use Rattle.qasm_ast.specs.Whole.{AllOf, IndexFits, StmtFits, TypeFits, QubitFits, IfThere, IsExpr, ModifierFits, OperandFits}
use Rattle.grammar_parts.specs.Reading.{Outcome, Reader, and_then, done, ◌>>=◌}
use Rattle.qasm_expr.specs.Grammar.{scalar}
use Rattle.qasm_expr.specs.Reader.{read_expr, read_content}
use Rattle.qasm_expr.specs.Seen.{deeper_expr, deeper_content}
use Rattle.qasm_expr.specs.TokenKinds.{kind_of}
use Rattle.grammar_parts.specs.Kinds.{found_in}
use Rattle.qasm_expr.specs.TokenKinds.{keyword_kind, mark_kind}
use Rattle.qasm_grammar.specs.Grammar.{assign_operators}
use Rattle.qasm_grammar.specs.Parts.{declared, operand_at, hardware_at, Call, call_of, place_of_change, place_of_call, call_statement}
use Rattle.qasm_grammar.specs.Reader.{read_inner, read_inside, read_keyword, read_condition, read_any_operands, read_ended, read_phase}
use Rattle.qasm_parser.specs.State.{State}
use Rattle.program_parser.specs.World.{World, Stands, sub_in, body_in}
use Rattle.qasm_parser.specs.Shows.{Each, read_word_as}
use Rattle.qasm_parser.proofs.Showing.{each_none}
use Rattle.program_parser.specs.declared.calls.GateCall.{GateCall}
use Rattle.program_parser.specs.Shows.{ListIn, PlainIn, MaybeIn, TreeIn, TreesIn, BracketsIn, NameIn, ScalarIn, OperandIn, ValueIn, ChangeIn, ParameterIn, CallIn, LineIn, IsPlain, plain_statement, at_modifier, at_call, statement_of_call}
use Rattle.program_parser.proofs.Standing.{list_in, width_in, world_of, from_here}
use Rattle.program_parser.specs.Begins.{assigning, hardware_number}

-- ---- one level deeper

module _ (text : List ℕ) where
  pub inner_is : (room : ℕ) → read_inner text (Some 64) room ≡ deeper_expr text room
  inner_is zero = refl
  inner_is (suc room) = refl

  pub inside_is : (room : ℕ) → read_inside text (Some 64) room ≡ deeper_content text room
  inside_is zero = refl
  inside_is (suc room) = ap (read_content text room (read_expr text (Some 64) room)) (inner_is room)

  pub inner_open : (room inner : ℕ) → room ≡ suc inner → read_inner text (Some 64) room ≡ read_expr text (Some 64) inner
  inner_open room inner e = ap (read_inner text (Some 64)) e

-- ---- one token

assign_mark : (x : Mark) → found_in assign_operators (mark_kind x) ≡ assigning (t.Mark x)
assign_mark m.Semicolon = refl
assign_mark _ = refl

assign_word : (x : Keyword) → found_in assign_operators (keyword_kind x) ≡ None
assign_word k.OpenQasm = refl
assign_word _ = refl

pub assigns : (bits : Bool) (kind : TokenKind) → found_in assign_operators (kind_of bits kind) ≡ assigning kind
assigns bits (t.Mark x) = assign_mark x
assigns bits (t.Word w) = assign_word w
assigns true t.Text = refl
assigns false t.Text = refl
assigns bits _ = refl

pub hardware_none : (x : Token) (kind : TokenKind) → hardware_number kind ≡ None → hardware_at x kind ≡ None
hardware_none x (t.Hardware n) e = absurd (cc)
hardware_none x _ e = refl

pub hardware_some : (x : Token) (kind : TokenKind) (n : ℕ) → hardware_number kind ≡ Some n → hardware_at x kind ≡ Some (record { name = qubit n; index = no_bracket; place = x.at })
hardware_some x (t.Hardware k) n e = let same : k ≡ n = cc in ap (λ j. Some (record { name = qubit j; index = no_bracket; place = x.at })) same
hardware_some x _ n e = absurd (cc)

-- ---- operands and values

module _ (s : State) where
  pub target_stands : (x : Declared) (w : List ℕ × Span) (js : Vec IndexRef Global) (bs : List Bracket) → Stands NameIn s x (declared w) → Stands BracketsIn s js bs → Stands OperandIn s (record { name = o.Name x.name; index = js.items; at = x.at }) (operand_at w bs)
  target_stands x w js bs h g = record {
    holds = λ v f.
        let n = h.holds v f in
        let i = g.holds v f in
        (record { name = n.0; index = i.0 }, rw i.1 (ap (λ (m : Name). operand_at (m.text, m.place) bs) n.1));
  }

  pub hardware_stands : (n : ℕ) (js : List IndexRef) (place : Span) → js ≡ [] → Stands OperandIn s (record { name = o.Hardware n; index = js; at = place }) (record { name = qubit n; index = no_bracket; place = place })
  hardware_stands n js place none = record {
    holds = λ w f. (record { name = tt; index = subst (AllOf (IndexFits (length w.exprs))) (sym none) (record { count = omega arith; each = All-nil (IndexFits (length w.exprs)) }) }, rw none refl);
  }

  pub expression_stands : (x : ExprId) (e : Tree) → Stands TreeIn s x e → Stands ValueIn s (v.Expr x) (expression e)
  expression_stands x e h = record { holds = λ w f. let p = h.holds w f in (p.0, ap expression p.1) }

  pub measured_stands : (x : OperandRef) (a : Operand) → Stands OperandIn s x a → Stands ValueIn s (v.Measure x) (measured a)
  measured_stands x a h = record { holds = λ w f. let p = h.holds w f in (p.0, ap measured p.1) }

-- ---- types of qubits and of old bits

pub qubit_fits : (n : ℕ) (width : Option ExprId) (place : Span) → IfThere (IsExpr n) width → QubitFits n (record { base = b.Qubit; width = width; at = place })
qubit_fits n width place h = record { quantum = refl; fits = record { bool = tt; width = h } }

pub bit_fits : (n : ℕ) (width : Option ExprId) (place : Span) → IfThere (IsExpr n) width → TypeFits n (record { base = b.Bit; width = width; at = place })
bit_fits n width place h = record { classical = λ e. absurd (cc); fits = record { bool = tt; width = h } }

-- ---- statements of one word

pub plain_in : (w : World) (kind : StmtKind) → IsPlain kind → (place close : Span) → StmtFits w.known w.exprs w.stmts w.count kind × (stmt_of w.names (sub_in w) (body_in w) kind place close ≡ plain_statement kind place close)
plain_in w s.Break h place close = (tt, refl)
plain_in w s.Continue h place close = (tt, refl)
plain_in w s.End h place close = (tt, refl)
plain_in w _ h place close = absurd h

-- ---- parameters

module _ (s : State) where
  parameter_same : (a a' : Scalar) (n n' : Name) → a ≡ a' → n ≡ n' → (let p : Parameter = record { type = a; name = n } in p) ≡ record { type = a'; name = n' }
  parameter_same a a' n n' e h = cc

  pub parameter_stands : (type : TypeRef) (x : Declared) (a : Scalar) (n : Name) → Stands ScalarIn s type a → Stands NameIn s x n → Stands ParameterIn s (type, x) (record { type = a; name = n })
  parameter_stands type x a n h g = record {
    holds = λ w f.
        let p = h.holds w f in
        let q = g.holds w f in
        ((p.0.fits, q.0), parameter_same _ _ _ _ p.1 q.1);
  }

  pub qubit_parameter_stands : (width : Option ExprId) (e : Option Tree) (place place' : Span) (x : Declared) (n : Name) → place ≡ place' → Stands (MaybeIn TreeIn) s width e → Stands NameIn s x n → Stands ParameterIn s (record { base = b.Qubit; width = width; at = place }, x) (record { type = scalar b.Qubit (maybe e) place'; name = n })
  qubit_parameter_stands width e place place' x n is h g = record {
    holds = λ w f.
        let p = width_in w _ _ (h.holds w f) in
        let q = g.holds w f in
        (((qubit_fits _ _ _ p.0).fits, q.0), parameter_same _ _ _ _ (rw (p.1, is) refl) q.1);
  }

-- ---- calls of gates

-- the reader of a part whose value is changed, in front of another
pub regroup : {A B C : Type 0} (out : Outcome Token A) (f : A → B) (next : B → Reader Token C) → and_then (and_then out (λ a. done (f a))) next ≡ and_then out (λ a. next (f a))
regroup (Ok r) f next = refl
regroup (Err e) f next = refl

pub no_trees : (s : State) (xs : Vec ExprId Global) → xs.items ≡ [] → Stands TreesIn s xs []
no_trees s xs e = record { holds = λ w f. (record { count = omega (arith, ap length e); each = subst (All (IsExpr (length w.exprs))) (sym e) (All-nil (IsExpr (length w.exprs))) }, ap (trees_at (sub_in w)) e) }

pub one_tree : (s : State) (xs : Vec ExprId Global) (x : ExprId) (t : Tree) → xs.items ≡ x ∷ [] → Stands TreeIn s x t → Stands TreesIn s xs (t ∷ [])
one_tree s xs x t e h = record {
  holds = λ w f.
      let p = h.holds w f in
      (record { count = omega (arith, ap length e); each = subst (All (IsExpr (length w.exprs))) (sym e) (All-cons (IsExpr (length w.exprs)) x [] p.0 (All-nil (IsExpr (length w.exprs)))) }, ap (trees_at (sub_in w)) e ∙ ap (λ u. a_tree u no_tree) p.1);
}

module _ (w : World) where
  modifier_place : (x : Modifier) → at_modifier x ≡ place_of_change (change_of w.names (sub_in w) x)
  modifier_place (h.Inv place) = refl
  modifier_place (h.Pow id place) = refl
  modifier_place (h.Ctrl id place) = refl

  call_place : (xs : List Modifier) (hs : List Change) (d : Declared) (n : Name) → Each (ChangeIn w) xs hs → NameIn w d n → at_call xs d ≡ place_of_call hs n
  call_place [] [] d n e s = ap (λ (m : Name). m.place) s.1
  call_place (x ∷ xs) (h ∷ hs) d n e s = modifier_place x ∙ ap place_of_change e.0.1
  call_place [] (h ∷ hs) d n e s = absurd e
  call_place (x ∷ xs) [] d n e s = absurd e

pub call_stands : (s : State) (x : GateCall) (c : Call) → Stands CallIn s x c → Stands LineIn s (statement_of_call x) (call_statement c)
call_stands s x c h = record {
  holds = λ w f.
      let k = h.holds w f in
      let changes = list_in (ModifierFits (length w.exprs)) (change_of w.names (sub_in w)) _ _ k.changes in
      let operands = list_in (OperandFits w.known (length w.exprs)) (operand_of w.names (sub_in w)) _ _ k.operands in
      ((changes.0, k.name.0, k.arguments.0, operands.0), rw (changes.1, k.name.1, k.arguments.1, operands.1, call_place w _ _ _ _ k.changes.1 k.name) refl);
}

-- a call without modifiers
pub plain_stands : (s : State) (mods : Vec Modifier Global) (gate : Declared) (args : Vec ExprId Global) (operands : Vec OperandRef Global) (x : Name) (es : List Tree) (os : List Operand) → mods.items ≡ [] → Stands NameIn s gate x → Stands TreesIn s args es → Stands (ListIn OperandIn) s operands os → Stands PlainIn s (record { mods = mods; gate = gate; args = args; operands = operands }) (call_of x es os)
plain_stands s mods gate args operands x es os none h g k = record {
  holds = λ w f. record {
    call = record { changes = (omega (arith, ap length none), each_none (ChangeIn w) _ none); name = h.holds w f; arguments = g.holds w f; operands = k.holds w f };
    unchanged = refl;
  };
}

-- a call of a global phase, where its word is read as a name
pub phase_as : (text : List ℕ) (room : ℕ) (ts : List Token) → read_phase text (Some 64) room ts ≡ and_then (read_word_as text k.Gphase (codes "gphase") ts) (λ v. read_condition text (Some 64) room >>= (λ e. read_any_operands text (Some 64) room >>= (λ os. read_ended text (call_of (declared v) (e ∷ []) os))))
unfolding read_phase
phase_as text room ts = sym (regroup (read_keyword text k.Gphase ts) (λ (w : Token). (codes "gphase", w.at)) (λ v. read_condition text (Some 64) room >>= (λ e. read_any_operands text (Some 64) room >>= (λ os. read_ended text (call_of (declared v) (e ∷ []) os)))))

-- the value of a call without modifiers has none
pub unchanged_in : (s : State) (x : GateCall) (c : Call) → Stands PlainIn s x c → c.changes ≡ []
unchanged_in s x c h = (h.holds (world_of s) (from_here s)).unchanged
