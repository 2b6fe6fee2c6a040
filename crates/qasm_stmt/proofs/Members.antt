-- Members of a gate's body: what they are, and that each takes a token.
use Rattle.std.proofs.Common.{◌≡◌, ℕ, suc, ◌<◌, ◌≤◌, Bool, true, false, cond, List, length, drop, Option, Some, Ok, Err, sym, ap, subst, le_refl}
use Rattle.qq_base.specs.declared.refusal.Span.{Span}
use Rattle.qasm_lexer.specs.declared.token.Token.{Token}
use Rattle.qasm_lexer.specs.declared.token.Keyword.TheVariants as k
use Rattle.qasm_lexer.specs.declared.token.Mark.TheVariants.{Semicolon}
use Rattle.qasm_ast.specs.declared.stmt.Stmt.{Stmt}
use Rattle.qasm_ast.specs.declared.stmt.StmtKind.{StmtKind}
use Rattle.qasm_ast.specs.declared.stmt.StmtKind.TheVariants as s
use Rattle.qasm_ast.specs.Tree.{Tree, Operand, Statement, gate_call, barrier, stmt_of}
use Rattle.qasm_ast.specs.Whole.{IsGateStmt}
use Rattle.grammar_parts.specs.Reading.{Outcome, and_then, heads}
use Rattle.qasm_expr.specs.Reader.{begins}
use Rattle.qasm_grammar.specs.Grammar.{at_one}
use Rattle.qasm_grammar.specs.Parts.{Call, call_statement}
use Rattle.qasm_grammar.specs.Reader.{call_kinds, read_keyword, read_symbol, read_any_operands, read_call, read_call_line, read_barrier_line, read_member}
use Rattle.qasm_stmt.specs.declared.arena.Arena.{Arena}
use Rattle.qasm_stmt.specs.Seen.{Sound, Few, Grown, IsLine}
use Rattle.qasm_grammar.proofs.CallLaws.{reads_call, reads_modified}
use Rattle.qasm_grammar.proofs.Depths.{Depth, depth}
use Rattle.qasm_grammar.proofs.Lines.{reads_barrier_line}
use Rattle.qasm_grammar.proofs.Moves.{moves}

-- a call of a gate, or a barrier
abbrev pub IsAllowed : Statement → Type 0
IsAllowed (gate_call changes name arguments operands place close) = Unit {0}
IsAllowed (barrier operands place close) = Unit {0}
IsAllowed _ = ⊥

module _ (names : List (List ℕ)) (sub : ℕ → Tree) (body : ℕ → Statement) where
  kind_allowed : (kind : StmtKind) (place close : Span) → IsAllowed (stmt_of names sub body kind place close) → IsGateStmt (Some (record { kind = kind; at = place; close = close }))
  kind_allowed (s.GateCall mods name ids os) place close h = tt
  kind_allowed (s.Barrier os) place close h = tt
  kind_allowed _ place close h = absurd h

  -- what is shown as such a statement may stand in the body of a gate
  pub allowed_stands : (x : Stmt) (t : Statement) → stmt_of names sub body x.kind x.at x.close ≡ t → IsAllowed t → IsGateStmt (Some x)
  allowed_stands x t e h = kind_allowed x.kind x.at x.close (subst IsAllowed (sym e) h)

same_answer : (x y : Statement × List Token) → ◌≡◌ {A = Outcome Token Statement} (Ok x) (Ok y) → x ≡ y
same_answer x y e = cc

module _ (text : List ℕ) (limit : Option ℕ) (room : ℕ) (ts rest : List Token) (t : Statement) where
  -- a line that is a call
  made_of_call : (o : Outcome Token Call) → and_then o (λ c more. Ok (call_statement c, more)) ≡ Ok (t, rest) → (c : Call) × (o ≡ Ok (c, rest)) × IsAllowed t
  made_of_call (Ok r) e =
      let same = same_answer (call_statement r.0, r.1) (t, rest) e in
      (r.0, ap (λ z. Ok (r.0, z.1)) same, subst (λ z. IsAllowed z.0) same tt)
  made_of_call (Err x) e = absurd (cc)

  pub call_line_allowed : read_call_line text limit room ts ≡ Ok (t, rest) → IsAllowed t
  call_line_allowed e = (made_of_call (read_call text limit room ts) e).2

  ended_allowed : (os : List Operand) (place : Span) (o : Outcome Token Token) → and_then o (λ s more. Ok (at_one (barrier os) place, more)) ≡ Ok (t, rest) → IsAllowed t
  ended_allowed os place (Ok r) e = subst (λ z. IsAllowed z.0) (same_answer (at_one (barrier os) place, r.1) (t, rest) e) tt
  ended_allowed os place (Err x) e = absurd (cc)

  operands_allowed : (place : Span) (o : Outcome Token (List Operand)) → and_then o (λ os more. and_then (read_symbol text Semicolon more) (λ s more. Ok (at_one (barrier os) place, more))) ≡ Ok (t, rest) → IsAllowed t
  operands_allowed place (Ok r) e = ended_allowed r.0 place (read_symbol text Semicolon r.1) e
  operands_allowed place (Err x) e = absurd (cc)

  word_allowed : (o : Outcome Token Token) → and_then o (λ w more. and_then (read_any_operands text limit room more) (λ os more. and_then (read_symbol text Semicolon more) (λ s more. Ok (at_one (barrier os) w.at, more)))) ≡ Ok (t, rest) → IsAllowed t
  word_allowed (Ok r) e = operands_allowed r.0.at (read_any_operands text limit room r.1) e
  word_allowed (Err x) e = absurd (cc)

  pub barrier_line_allowed : read_barrier_line text limit room ts ≡ Ok (t, rest) → IsAllowed t
  unfolding read_barrier_line
  barrier_line_allowed e = word_allowed (read_keyword text k.Barrier ts) e

  -- ---- a member takes a token

  here : Depth text (Unit {0}) limit room (suc (suc (suc room)))
  here = depth text limit room (suc (suc (suc room))) (le_refl _)

  call_line_moves : read_call_line text limit room ts ≡ Ok (t, rest) → length rest < length ts
  call_line_moves e =
      let c = made_of_call (read_call text limit room ts) e in
      let law = reads_call text here (reads_modified text limit room (suc (suc (suc room))) (le_refl _)) in
      moves law.follows ts c.0 rest c.1 law.filled

  pub member_moves : read_member text limit room ts ≡ Ok (t, rest) → length rest < length ts
  unfolding read_member
  member_moves e = by_head (heads (begins text call_kinds) ts) e
    where
      by_head : (b : Bool) → cond b (read_call_line text limit room ts) (read_barrier_line text limit room ts) ≡ Ok (t, rest) → length rest < length ts
      by_head true e = call_line_moves e
      by_head false e = let law = reads_barrier_line text here in moves law.follows ts t rest e law.filled

-- a member that is found, and not yet in its list
pub record Found (text : List ℕ) (room : ℕ) (tokens : List Token) (from : ℕ) (a b : Arena) (found : Stmt × ℕ) : Type 0 where
  pub shown : Statement
  pub line : IsLine b found.0 shown
  pub allowed : IsAllowed shown
  pub on : from ≤ found.1
  pub within : found.1 ≤ length tokens
  pub read : read_member text (Some 64) room (drop from tokens) ≡ Ok (shown, drop found.1 tokens)
  pub grown : Grown a b
  pub kept : b.stmts.items ≡ a.stmts.items
  pub few : Few b found.1
  pub sound : Sound b
