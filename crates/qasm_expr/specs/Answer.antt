-- What the parser of expressions answers: the tree that is read and the place behind it, or the refusal.
use Rattle.std.specs.Prelude.{◌≡◌, ℕ, ◌+◌, ◌≤◌, ◌<◌, Bool, true, false, List, [], ◌∷◌, ◌++◌, length, drop, slice_get, Some, None, Result, Ok, Err, if◌then◌else◌}
use Rattle.qq_base.specs.declared.refusal.Span.{Span}
use Rattle.qq_base.specs.declared.refusal.Fault.{Fault}
use Rattle.qq_base.specs.declared.refusal.Fault.TheVariants as f
use Rattle.qq_base.specs.declared.refusal.Refusal.{Refusal}
use Rattle.qq_base.specs.declared.rule.Rule.{Rule}
use Rattle.qq_base.specs.declared.rule.Rule.TheVariants as r
use Rattle.qasm_lexer.specs.Tokens.{place_of}
use Rattle.qasm_lexer.specs.declared.token.Token.{Token}
use Rattle.qasm_lexer.specs.declared.token.TokenKind.{TokenKind}
use Rattle.qasm_lexer.specs.declared.token.TokenKind.TheVariants as t
use Rattle.qasm_lexer.specs.declared.token.Keyword.{Keyword}
use Rattle.qasm_lexer.specs.declared.token.Keyword.TheVariants as k
use Rattle.qasm_lexer.specs.declared.token.Mark.TheVariants as m
use Rattle.qasm_ast.specs.declared.expr.Expr.{Expr}
use Rattle.qasm_ast.specs.declared.expr.ExprId.{ExprId}
use Rattle.qasm_ast.specs.Tree.{Tree, tree_of}
use Rattle.qasm_ast.specs.Whole.{ExprFits}
use Rattle.grammar_parts.specs.Exact.{Exactly}
use Rattle.grammar_parts.specs.Reading.{Outcome, syntax, deep}
use Rattle.grammar_parts.specs.Reading as reading
use Rattle.qasm_expr.specs.declared.stop.Stop.{Stop}
use Rattle.qasm_expr.specs.declared.stop.Stop.TheVariants as s
use Rattle.qasm_expr.specs.Grammar.{expr}

-- the words that the profile leaves out
abbrev pub is_left_out_word : Keyword → Bool
is_left_out_word k.Float = true
is_left_out_word k.Complex = true
is_left_out_word k.Array = true
is_left_out_word k.Duration = true
is_left_out_word k.Stretch = true
is_left_out_word k.Box = true
is_left_out_word k.Delay = true
is_left_out_word k.DurationOf = true
is_left_out_word k.Defcal = true
is_left_out_word k.Cal = true
is_left_out_word k.DefcalGrammar = true
is_left_out_word k.Extern = true
is_left_out_word k.Pragma = true
is_left_out_word k.Input = true
is_left_out_word k.Readonly = true
is_left_out_word k.Mutable = true
is_left_out_word k.Void = true
is_left_out_word k.Switch = true
is_left_out_word k.Case = true
is_left_out_word k.Default = true
is_left_out_word k.Negctrl = true
is_left_out_word k.Euler = true
is_left_out_word k.EulerSign = true
is_left_out_word _ = false

-- such a word, or the mark `#`
abbrev pub is_left_out : TokenKind → Bool
is_left_out (t.Word word) = is_left_out_word word
is_left_out (t.Mark m.Hash) = true
is_left_out _ = false

-- the rule of what stands where no expression goes on
abbrev pub rule_at : List Token → Rule
rule_at [] = r.Syntax
rule_at (x ∷ xs) = if is_left_out x.kind then r.LeftOut else r.Syntax

-- the place of the first of these tokens of a text, or of its end
abbrev pub place_at : List ℕ → List Token → Span
place_at text [] = place_of text (length text)
place_at text (x ∷ xs) = x.at

-- the refusal, by where reading stops
abbrev pub refusal_of : List ℕ → reading.Refusal Token → Refusal
refusal_of text (syntax rest) = record { rule = rule_at rest; at = place_at text rest }
refusal_of text (deep rest) = record { rule = r.NestingDeep; at = place_at text rest }

-- the same by the place where it stops
abbrev pub fault_of : List ℕ → List Token → Stop → Fault
fault_of text tokens s.Memory = f.Memory
fault_of text tokens (s.Syntax n) = f.Refused (refusal_of text (syntax (drop n tokens)))
fault_of text tokens (s.Deep n) = f.Refused (refusal_of text (deep (drop n tokens)))

-- a place among so many tokens, or their end
abbrev pub IsWithin : ℕ → Stop → Type 0
IsWithin count s.Memory = Unit {0}
IsWithin count (s.Syntax n) = n ≤ count
IsWithin count (s.Deep n) = n ≤ count

-- The answer tells what is read, want of memory aside: the tree that is seen of the node and where the
-- rest begins, or the refusal.
abbrev pub Tells : List ℕ → List Token → List (List ℕ) → List Expr → Outcome Token Tree → Result (ExprId × ℕ) Fault → Type 0
Tells text tokens names nodes read (Err f.Memory) = Unit {0}
Tells text tokens names nodes (Ok a) (Ok found) = (tree_of names nodes found.0.0 ≡ a.0) × (found.0.0 < length nodes) × (found.1 ≤ length tokens) × (drop found.1 tokens ≡ a.1)
Tells text tokens names nodes (Err stop) (Err (f.Refused refusal)) = refusal ≡ refusal_of text stop
Tells text tokens names nodes _ _ = ⊥

-- The expression that begins at a token, where this many levels may still be opened, is read exactly.
abbrev pub IsAnswer : List ℕ → List Token → ℕ → ℕ → List (List ℕ) → List Expr → Result (ExprId × ℕ) Fault → Type 0
IsAnswer text tokens from room names nodes result = (read : Outcome Token Tree) × Exactly (expr text (Some 64) room) (expr text None) (drop from tokens) read × Tells text tokens names nodes read result

-- ---- the lists of names and nodes

-- The old names and nodes stand as they were, and each new node is as a program asks.
pub record Grows (names names' : List (List ℕ)) (nodes nodes' : List Expr) : Type 0 where
  pub more_names : List (List ℕ)
  pub more_nodes : List Expr
  pub names_are : names' ≡ names ++ more_names
  pub nodes_are : nodes' ≡ nodes ++ more_nodes
  pub fits : (n : ℕ) (x : Expr) → length nodes ≤ n → slice_get nodes' n ≡ Some x → ExprFits (length names') n x.kind
  pub sizes : (k : ℕ) (text : List ℕ) → length names ≤ k → slice_get names' k ≡ Some text → length text ≤ 4096

-- At most one name and one node for each token that is taken, from one place to another.
abbrev pub Added : ℕ → ℕ → ℕ → ℕ → ℕ → ℕ → Type 0
Added names names' nodes nodes' from to = (names' + from ≤ names + to) × (nodes' + from ≤ nodes + to)
