-- The answer of the parser tells what the reader of expressions gives.
use Rattle.std.proofs.Common.{◌≡◌, ℕ, List, length, drop, Some, Result, Ok, Err, refl, subst}
use Rattle.qq_base.specs.declared.refusal.Fault.{Fault}
use Rattle.qasm_lexer.specs.declared.token.Token.{Token}
use Rattle.qasm_ast.specs.declared.expr.Expr.{Expr}
use Rattle.qasm_ast.specs.declared.expr.ExprId.{ExprId}
use Rattle.qasm_ast.specs.Tree.{Tree}
use Rattle.grammar_parts.specs.Reading.{Outcome}
use Rattle.qasm_expr.specs.declared.stop.Stop.{Stop}
use Rattle.qasm_expr.specs.declared.stop.Stop.TheVariants as s
use Rattle.qasm_expr.specs.Answer.{Tells, IsAnswer, IsWithin, fault_of}
use Rattle.qasm_expr.specs.Reader.{read_expr}
use Rattle.qasm_expr.specs.Seen.{Sees, Gives}
use Rattle.qasm_expr.proofs.Growing.{sees_below}
use Rattle.qasm_expr.proofs.Levels.{expr_exactly}
use Rattle.qasm_expr.proofs.Trees.{sees_tree}

-- a stop as the fault of the call
abbrev pub faulted : List ℕ → List Token → Result (ExprId × ℕ) Stop → Result (ExprId × ℕ) Fault
faulted text tokens (Ok found) = Ok found
faulted text tokens (Err stop) = Err (fault_of text tokens stop)

abbrev ShowsTree : List (List ℕ) → List Expr → ExprId → Tree → Type 0
ShowsTree names nodes x a = Sees names nodes x.0 a

module _ (text : List ℕ) (tokens : List Token) (from : ℕ) (names : List (List ℕ)) (nodes : List Expr) where
  told : (read : Outcome Token Tree) (answer : Result (ExprId × ℕ) Stop) → Gives (ShowsTree names nodes) tokens from read answer → Tells text tokens names nodes read (faulted text tokens answer)
  told (Ok a) (Ok found) g = at_value g
    where
      at_value : Gives (ShowsTree names nodes) tokens from (Ok a) (Ok found) → Tells text tokens names nodes (Ok a) (Ok found)
      at_value (b, seen, from_at, at_end, same) = let e : (b, drop found.1 tokens) ≡ a = cc in subst (λ z. Tells text tokens names nodes (Ok z) (Ok found)) e (sees_tree names nodes b found.0.0 seen, sees_below names nodes b found.0.0 seen, at_end, refl)
  told (Ok a) (Err (s.Syntax n)) g = absurd (cc)
  told (Ok a) (Err (s.Deep n)) g = absurd (cc)
  told (Err x) (Ok found) g = let w = g.4 in absurd (cc)
  told (Err x) (Err (s.Syntax n)) g = let w = g.2 in cc
  told (Err x) (Err (s.Deep n)) g = let w = g.2 in cc
  told read (Err s.Memory) g = tt

  pub answered : (room : ℕ) (answer : Result (ExprId × ℕ) Stop) → Gives (ShowsTree names nodes) tokens from (read_expr text (Some 64) room (drop from tokens)) answer → IsAnswer text tokens from room names nodes (faulted text tokens answer)
  answered room answer g = (read_expr text (Some 64) room (drop from tokens), expr_exactly text (Some 64) room (drop from tokens), told (read_expr text (Some 64) room (drop from tokens)) answer g)

pub is_within : {X A : Type 0} (shows : X → A → Type 0) (tokens : List Token) (from : ℕ) (read : Outcome Token A) (stop : Stop) → Gives shows tokens from read (Err stop) → IsWithin (length tokens) stop
is_within shows tokens from read s.Memory g = tt
is_within shows tokens from read (s.Syntax n) g = g.1
is_within shows tokens from read (s.Deep n) g = g.1
