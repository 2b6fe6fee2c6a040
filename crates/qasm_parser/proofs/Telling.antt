-- What the call for an expression tells.
use Rattle.std.proofs.Common.{◌≡◌, ℕ, ◌≤◌, List, length, drop, Result, Some, Ok, Err, sym, ap, subst, ◌∙◌, le_refl}
use Rattle.qq_base.specs.declared.refusal.Fault.{Fault}
use Rattle.qq_base.specs.declared.refusal.Fault.TheVariants as f
use Rattle.qasm_lexer.specs.declared.token.Token.{Token}
use Rattle.qasm_ast.specs.declared.expr.Expr.{Expr}
use Rattle.qasm_ast.specs.declared.expr.ExprId.{ExprId}
use Rattle.qasm_ast.specs.Tree.{Tree}
use Rattle.grammar_parts.specs.Reading.{Outcome, Reader, syntax, deep}
use Rattle.qasm_expr.specs.Answer.{Tells, Grows, refusal_of}
use Rattle.qasm_expr.specs.Reader.{read_expr}
use Rattle.qasm_parser.specs.declared.stop.Stop.{Stop}
use Rattle.qasm_parser.specs.declared.stop.Stop.TheVariants as why
use Rattle.qasm_parser.specs.Answer.{fault_of}
use Rattle.qasm_parser.specs.State.{State, resumed, Longer, Reads}
use Rattle.qasm_parser.specs.Shows.{IsTree}
use Rattle.qasm_parser.proofs.Showing.{tree_now}

-- the answer of the call
abbrev pub answered : List ℕ → List Token → ℕ → Result ExprId Stop → Result (ExprId × ℕ) Fault
answered text tokens at' (Ok id) = Ok (id, at')
answered text tokens at' (Err e) = Err (fault_of text (drop at' tokens) e)

module _ (text : List ℕ) (tokens : List Token) (a b : State) (at' : ℕ) (within : at' ≤ length tokens) (here : drop at' tokens ≡ b.left) where
  pub told : (reader : Reader Token Tree) (r : Result ExprId Stop) → Reads IsTree reader a r b → Tells text tokens b.names b.exprs (reader a.left) (answered text tokens at' r)
  told reader (Ok id) h = subst (λ (out : Outcome Token Tree). Tells text tokens b.names b.exprs out (Ok (id, at'))) (sym h.read) (tree_now b id h.value h.shown, h.shown.0, within, here)
  told reader (Err why.Memory) h = tt
  told reader (Err why.Syntax) h = subst (λ (out : Outcome Token Tree). Tells text tokens b.names b.exprs out (Err (f.Refused (refusal_of text (syntax (drop at' tokens)))))) (sym (h.read (λ no. cc))) (ap (λ l. refusal_of text (syntax l)) here)
  told reader (Err why.Deep) h = subst (λ (out : Outcome Token Tree). Tells text tokens b.names b.exprs out (Err (f.Refused (refusal_of text (deep (drop at' tokens)))))) (sym (h.read (λ no. cc))) (ap (λ l. refusal_of text (deep l)) here)

longer_by : (a b : State) (reader : Reader Token Tree) (r : Result ExprId Stop) → Reads IsTree reader a r b → Longer a b
longer_by a b reader (Ok id) h = h.after.longer
longer_by a b reader (Err e) h = h.longer

-- of the expression at a token, with lists that go on
module _ (text : List ℕ) (tokens : List Token) (from room : ℕ) (names names' : List (List ℕ)) (nodes nodes' : List Expr) (a b : State) (is : a ≡ resumed text tokens from names nodes) (names_are : names' ≡ b.names) (nodes_are : nodes' ≡ b.exprs) (r : Result ExprId Stop) (h : Reads IsTree (read_expr a.text (Some 64) room) a r b) where
  pub tells : (at' : ℕ) → at' ≤ length b.tokens → drop at' b.tokens ≡ b.left → Tells text tokens names' nodes' (read_expr text (Some 64) room (drop from tokens)) (answered text tokens at' r)
  tells at' within here =
      let same : b.tokens ≡ tokens = (longer_by a b (read_expr a.text (Some 64) room) r h).tokens ∙ ap (λ (s : State). s.tokens) is in
      subst (λ ns. Tells text tokens ns nodes' (read_expr text (Some 64) room (drop from tokens)) (answered text tokens at' r)) (sym names_are)
      (subst (λ es. Tells text tokens b.names es (read_expr text (Some 64) room (drop from tokens)) (answered text tokens at' r)) (sym nodes_are)
      (subst (λ (s : State). Tells text tokens b.names b.exprs (read_expr s.text (Some 64) room s.left) (answered text tokens at' r)) is
      (told text tokens a b at' (subst (λ ts. at' ≤ length ts) same within) (subst (λ ts. drop at' ts ≡ b.left) same here) (read_expr a.text (Some 64) room) r h)))

  -- the lists have grown, whatever the answer
  pub grown : Grows names names' nodes nodes'
  grown =
      let g = longer_by a b (read_expr a.text (Some 64) room) r h in
      subst (λ ns. Grows names ns nodes nodes') (sym names_are)
      (subst (λ es. Grows names b.names nodes es) (sym nodes_are)
      (subst (λ (s : State). Grows s.names b.names s.exprs b.exprs) is
      (record { more_names = g.more_names; more_nodes = g.more_exprs; names_are = g.names; nodes_are = g.exprs; fits = λ n x le e. g.exprs_fit n x le e _ (le_refl _); sizes = g.sizes })))
