-- Statements that have bodies, from what their parts stand for.
use Rattle.std.proofs.Common.{◌≡◌, ℕ, ◌<◌, ◌^◌, Vec, Global, Bool, false, List, [], ◌∷◌, length, Option, Some, Result, Ok, Err, refl, sym, ap, subst, ◌∙◌, arith}
use Rattle.std.specs.Prelude.{All}
use Rattle.std.proofs.lemmas.List.Elements.{All-nil, All-cons}
use Rattle.qq_base.specs.declared.refusal.Span.{Span}
use Rattle.qasm_lexer.specs.declared.token.Token.{Token}
use Rattle.qasm_ast.specs.declared.expr.ExprId.{ExprId}
use Rattle.qasm_ast.specs.declared.expr.TypeRef.{TypeRef}
use Rattle.qasm_ast.specs.declared.stmt.Stmt.{Stmt}
use Rattle.qasm_ast.specs.declared.stmt.StmtId.{StmtId}
use Rattle.qasm_ast.specs.declared.stmt.StmtKind.{StmtKind}
use Rattle.qasm_ast.specs.declared.stmt.StmtKind.TheVariants as s
use Rattle.qasm_ast.specs.declared.stmt.Declared.{Declared}
use Rattle.qasm_ast.specs.Tree.{Tree, Name, name_of, Scalar, scalar_of, Parameter, parameter_of, Statement, Statements, no_statement, a_statement, statements_at, stmt_of, branch, while, subroutine, gate}
use Rattle.qasm_ast.specs.Whole.{IsStmt, IsGateMember, IsGateStmt, StmtFits, DeclaredFits, TypeFits, ParamFits}
use Rattle.grammar_parts.specs.Reading.{Outcome, Reader, and_then}
use Rattle.qasm_grammar.specs.Parts as p
use Rattle.qasm_grammar.specs.Grammar.{for_of}
use Rattle.qasm_parser.specs.declared.stop.Stop.{Stop}
use Rattle.qasm_parser.specs.State.{State, After}
use Rattle.qasm_parser.proofs.Growing.{after_on}
use Rattle.qasm_parser.specs.Shows.{Each}
use Rattle.qasm_parser.proofs.Showing.{each_on}
use Rattle.program_parser.specs.declared.calls.GateCall.{GateCall}
use Rattle.program_parser.specs.declared.turns.LoopOver.{LoopOver}
use Rattle.program_parser.specs.declared.turns.LoopOver.TheVariants as u
use Rattle.program_parser.specs.World.{World, From, Stands, sub_in, body_in}
use Rattle.program_parser.specs.Parses.{ParsesWith}
use Rattle.program_parser.specs.Shows.{ListIn, MaybeIn, TreeIn, NameIn, ScalarIn, ParameterIn, TurnsIn, CallIn, PlainIn, LineIn, StatementIn, MemberIn, line_of, loop_kind, statement_of_call}
use Rattle.program_parser.specs.Nesting.{GateLineIn, OpenLineIn, StatementsIn, AllOpenedIn, MembersIn, AllMembersIn}
use Rattle.program_parser.proofs.Standing.{list_in, maybe_in}
use Rattle.program_parser.proofs.Putting.{call_stands}

pub close_same : (a b : Option Span) (place other : Span) → a ≡ b → place ≡ other → p.close_or a place ≡ p.close_or b other
close_same a b place other e f = rw (e, f) refl

pub plain_of_gate : (st : State) (x : Stmt) (t : Statement) → Stands GateLineIn st x t → Stands LineIn st x t
plain_of_gate st x t h = record { holds = λ w f. (h.holds w f).0 }

-- a statement that may stand in the body of a gate is one
pub plainly : (spare : ℕ) (reader : Reader Token Statement) (old new : State) (r : Result Stmt Stop) → ParsesWith spare GateLineIn reader old r new → ParsesWith spare LineIn reader old r new
plainly spare reader old new (Ok x) h = record { value = h.value; shown = plain_of_gate new x h.value h.shown; read = h.read; after = h.after }
plainly spare reader old new (Err e) h = h

-- what is made of a statement that has no other closing brace, where it may stand in the body of a gate
pub gate_line_stands : (st : State) (kind : StmtKind) (place : Span) (x : Stmt) (t : Statement) → x ≡ line_of kind place → IsGateStmt (Some (line_of kind place)) → ((w : World) → From st w → StmtFits w.known w.exprs w.stmts w.count kind × (stmt_of w.names (sub_in w) (body_in w) kind place place ≡ t)) → Stands GateLineIn st x t
gate_line_stands st kind place x t is g f = subst (λ y. Stands GateLineIn st y t) (sym is) (record { holds = λ w from. (f w from, g) })

pub call_line_stands : (st : State) (call : GateCall) (x : Stmt) (c : p.Call) → x ≡ statement_of_call call → Stands CallIn st call c → Stands GateLineIn st x (p.call_statement c)
call_line_stands st call x c is h = subst (λ y. Stands GateLineIn st y (p.call_statement c)) (sym is) (record { holds = λ w from. ((call_stands st call c h).holds w from, tt) })

pub plain_line_stands : (st : State) (call : GateCall) (x : Stmt) (c : p.Call) → x ≡ statement_of_call call → Stands PlainIn st call c → Stands LineIn st x (p.call_statement c)
plain_line_stands st call x c is h = subst (λ y. Stands LineIn st y (p.call_statement c)) (sym is) (call_stands st call c (record { holds = λ w from. (h.holds w from).call }))

-- ---- lists of statements

-- a statement by its number, without its mark
abbrev pub NumberIn : World → StmtId → p.Opened → Type 0
NumberIn w x a = StatementIn w x a.0

module _ (w : World) where
  listed_in : {A : Type 0} (P : StmtId → Type 0) (shown : A → Statement) (listed : List A → Statements) → listed [] ≡ no_statement → ((a : A) (as' : List A) → listed (a ∷ as') ≡ a_statement (shown a) (listed as')) → (xs : List StmtId) (as' : List A) → Each (λ x a. P x × (body_in w x.0 ≡ shown a)) xs as' → All P xs × (statements_at w.names (sub_in w) (body_in w) xs ≡ listed as')
  listed_in P shown listed none more [] [] e = (All-nil P, sym none)
  listed_in P shown listed none more (x ∷ xs) (a ∷ as') e =
      let r = listed_in P shown listed none more xs as' e.1 in
      (All-cons P x xs e.0.0 r.0, rw (e.0.1, r.1, more a as') refl)
  listed_in P shown listed none more [] (a ∷ as') e = absurd e
  listed_in P shown listed none more (x ∷ xs) [] e = absurd e

  opened_in : (xs : Vec StmtId Global) (as' : List p.Opened) → length xs.items < 2 ^ 32 → Each (NumberIn w) xs.items as' → StatementsIn w xs (p.opened_statements as')
  opened_in xs as' lt e = let r = listed_in (IsStmt w.count) (λ (a : p.Opened). a.0) p.opened_statements refl (λ a as'. refl) xs.items as' e in (record { count = lt; each = r.0 }, r.1)

  members_in : (xs : Vec StmtId Global) (as' : List Statement) → length xs.items < 2 ^ 32 → Each (MemberIn w) xs.items as' → MembersIn w xs (p.statements as')
  members_in xs as' lt e = let r = listed_in (IsGateMember w.stmts w.count) (λ (a : Statement). a) p.statements refl (λ a as'. refl) xs.items as' e in (record { count = lt; each = r.0 }, r.1)

  pub nothing_in : (xs : Vec StmtId Global) → xs.items ≡ [] → StatementsIn w xs no_statement
  nothing_in xs e = opened_in xs [] (omega (arith, ap length e)) (subst (λ l. Each (NumberIn w) l []) (sym e) tt)

module _ (st : State) (xs : Vec StmtId Global) where
  pub opened_stand : (as' : List p.Opened) → length xs.items < 2 ^ 32 → Each (Stands NumberIn st) xs.items as' → Stands AllOpenedIn st xs as'
  opened_stand as' lt e = record { holds = λ w f. opened_in w xs as' lt (each_on (Stands NumberIn st) (NumberIn w) (λ x a h. h.holds w f) xs.items as' e) }

  pub members_stand : (as' : List Statement) → length xs.items < 2 ^ 32 → Each (Stands MemberIn st) xs.items as' → Stands AllMembersIn st xs as'
  members_stand as' lt e = record { holds = λ w f. members_in w xs as' lt (each_on (Stands MemberIn st) (MemberIn w) (λ x a h. h.holds w f) xs.items as' e) }

  pub one_stands : (x : StmtId) (t : Statement) → xs.items ≡ x ∷ [] → Stands StatementIn st x t → Stands StatementsIn st xs (a_statement t no_statement)
  one_stands x t e h = record { holds = λ w f. opened_in w xs ((t, false) ∷ []) (omega (arith, ap length e)) (subst (λ l. Each (NumberIn w) l ((t, false) ∷ [])) (sym e) (h.holds w f, tt)) }

-- ---- statements that are made

module _ (w : World) (at' close place end : Span) (here : at' ≡ place) (there : close ≡ end) where
  pub branch_in : (test : ExprId) (taken other : Vec StmtId Global) (e : Tree) (ss us : Statements) → TreeIn w test e → StatementsIn w taken ss → StatementsIn w other us → LineIn w (record { kind = s.If test taken.items other.items; at = at'; close = close }) (branch e ss us place end)
  branch_in test taken other e ss us t y n = ((t.0, y.0, n.0), rw (t.1, y.1, n.1, here, there) refl)

  pub while_in : (test : ExprId) (body : Vec StmtId Global) (e : Tree) (ss : Statements) → TreeIn w test e → StatementsIn w body ss → LineIn w (record { kind = s.While test body.items; at = at'; close = close }) (while e ss place end)
  while_in test body e ss t y = ((t.0, y.0), rw (t.1, y.1, here, there) refl)

  pub subroutine_in : (name : Declared) (params : Vec (TypeRef × Declared) Global) (result : Option TypeRef) (body : Vec StmtId Global) (x : Name) (ps : List Parameter) (r : Option Scalar) (ss : Statements) → NameIn w name x → ListIn ParameterIn w params ps → MaybeIn ScalarIn w result r → StatementsIn w body ss → LineIn w (record { kind = s.Def name params.items result body.items; at = at'; close = close }) (subroutine x ps r ss place end)
  subroutine_in name params result body x ps r ss n l t y =
      let whole = list_in (ParamFits w.known (length w.exprs)) (parameter_of w.names (sub_in w)) params.items ps l in
      let type = maybe_in (TypeFits (length w.exprs)) (scalar_of w.names (sub_in w)) w result r t in
      ((n.0, whole.0, type.0, y.0), rw (n.1, whole.1, type.1, y.1, here, there) refl)

  pub gate_in : (name : Declared) (params qubits : Vec Declared Global) (body : Vec StmtId Global) (x : Name) (ps qs : List Name) (ss : Statements) → NameIn w name x → ListIn NameIn w params ps → ListIn NameIn w qubits qs → MembersIn w body ss → LineIn w (record { kind = s.Gate name params.items qubits.items body.items; at = at'; close = close }) (gate x ps qs ss place end)
  gate_in name params qubits body x ps qs ss n l m y =
      let first = list_in (DeclaredFits w.known) (name_of w.names (sub_in w)) params.items ps l in
      let second = list_in (DeclaredFits w.known) (name_of w.names (sub_in w)) qubits.items qs m in
      ((n.0, first.0, second.0, y.0), rw (n.1, first.1, second.1, y.1, here, there) refl)

-- a `for`, by what it goes over
module _ (w : World) (at' close place : Span) (here : at' ≡ place) (type : TypeRef) (name : Declared) (body : Vec StmtId Global) (is_open : Bool) (t : Scalar) (x : Name) (c : p.Body) (there : close ≡ p.close_or c.close place) (open' : is_open ≡ c.is_open) (ht : ScalarIn w type t) (hx : NameIn w name x) (hc : StatementsIn w body c.statements) where
  over_in : (over : LoopOver) (r : p.Turns) → TurnsIn w over r → OpenLineIn w (record { kind = loop_kind type name over body.items; at = at'; close = close }, is_open) (for_of t x r c place)
  over_in (u.Range start step stop) (p.over_range first middle last) h = (((ht.0, hx.0, h.0.0, h.1, h.3.0, hc.0), rw (ht.1, hx.1, h.0.1, h.2, h.3.1, hc.1, here, there) refl), open')
  over_in (u.Set ids) (p.over_set ts) h = (((ht.0, hx.0, h.0, hc.0), rw (ht.1, hx.1, h.1, hc.1, here, there) refl), open')
  over_in (u.Range start step stop) (p.over_set ts) h = absurd h
  over_in (u.Set ids) (p.over_range first middle last) h = absurd h

  pub for_in : (kind : StmtKind) (over : LoopOver) (r : p.Turns) → kind ≡ loop_kind type name over body.items → TurnsIn w over r → OpenLineIn w (record { kind = kind; at = at'; close = close }, is_open) (for_of t x r c place)
  for_in kind over r is h = subst (λ (k : StmtKind). OpenLineIn w (record { kind = k; at = at'; close = close }, is_open) (for_of t x r c place)) (sym is) (over_in over r h)

-- ---- all statements of a program

pub all_statements : (a b c : State) (r : Result (Vec StmtId Global) Stop) (whole : Reader Token Statements) (part : Reader Token (List p.Opened)) → After 0 0 a b → whole a.left ≡ and_then (part b.left) (λ ss rest. Ok (p.opened_statements ss, rest)) → ParsesWith 0 AllOpenedIn part b r c → ParsesWith 0 StatementsIn whole a r c
all_statements a b c (Ok x) whole part g e h = record { value = p.opened_statements h.value; shown = record { holds = λ w f. h.shown.holds w f }; read = e ∙ ap (λ (o : Outcome Token (List p.Opened)). and_then o (λ ss rest. Ok (p.opened_statements ss, rest))) h.read; after = after_on g h.after }
all_statements a b c (Err stop) whole part g e h = λ no. e ∙ ap (λ (o : Outcome Token (List p.Opened)). and_then o (λ ss rest. Ok (p.opened_statements ss, rest))) (h no)
