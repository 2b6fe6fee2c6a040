-- Operands that are joined, one at least.
use Rattle.std.proofs.Common.{◌≡◌, ℕ, ◌<◌, List, ◌∷◌, ◌++◌, [], length, true, false, Some, Ok, Err, refl, sym}
use Rattle.qasm_lexer.specs.declared.token.Token.{Token}
use Rattle.qasm_lexer.specs.declared.token.Mark.TheVariants as m
use Rattle.qasm_ast.specs.declared.expr.OperandRef.{OperandRef}
use Rattle.qasm_ast.specs.Tree.{Operand}
use Rattle.grammar_parts.specs.Reading.{Outcome, Refusal, Reader, and_then, heads}
use Rattle.qasm_expr.specs.Reader.{begins}
use Rattle.qasm_grammar.specs.Reader.{symbol_kinds, read_operand, read_symbol, read_joined, read_joins}
use Rattle.qasm_parser.proofs.Repeating.{Repeating, repeating_start, repeating_stop, repeating_err, repeating_more}
use Rattle.qasm_parser.specs.Shows.{Each}
use Rattle.program_parser.specs.Shows.{read_joined_operands}
use Rattle.program_parser.proofs.Putting.{regroup}

-- the first part of a list with those behind it, in front of another reader
pub first_apart : {A C : Type 0} (out : Outcome Token A) (behind : Reader Token (List A)) (next : List A → Reader Token C) → and_then out (λ a rest. and_then (behind rest) (λ as' more. next (a ∷ as') more)) ≡ and_then (and_then out (λ a rest. and_then (behind rest) (λ as' more. Ok (a ∷ as', more)))) next
first_apart (Ok r) behind next = sym (regroup (behind r.1) (λ as'. r.0 ∷ as') next)
first_apart (Err e) behind next = refl

-- what was read of the operands: the first one, and some of those that are joined to it
pub record Joining (text : List ℕ) (room : ℕ) (R : OperandRef → Operand → Type 0) (start : List Token) (found : List OperandRef) (left : List Token) : Type 0 where
  pub first : Operand
  pub behind : List Token
  pub read : read_operand text (Some 64) room start ≡ Ok (first, behind)
  pub repeating : Repeating text (symbol_kinds m.PlusPlus) (read_joined text (Some 64) room) (λ xs os. Each R xs (first ∷ os)) (read_joins text (Some 64) room behind) found left

module _ (text : List ℕ) (room : ℕ) (start : List Token) where
  pub joining_start : (R : OperandRef → Operand → Type 0) (found : List OperandRef) (o : Operand) (left : List Token) → Each R found (o ∷ []) → read_operand text (Some 64) room start ≡ Ok (o, left) → Joining text room R start found left
  joining_start R found o left sees h = record { first = o; behind = left; read = h; repeating = repeating_start text (symbol_kinds m.PlusPlus) (read_joined text (Some 64) room) (λ xs os. Each R xs (o ∷ os)) left found sees }

  module _ {R : OperandRef → Operand → Type 0} {found : List OperandRef} {left : List Token} (g : Joining text room R start found left) where
    pub joining_stop : heads (begins text (symbol_kinds m.PlusPlus)) left ≡ false → read_joined_operands text room start ≡ Ok (g.first ∷ g.repeating.acc, left)
    joining_stop h = rw (g.read, repeating_stop text (symbol_kinds m.PlusPlus) (read_joined text (Some 64) room) g.repeating h) refl

    module _ (seen : heads (begins text (symbol_kinds m.PlusPlus)) left ≡ true) (x : Token) (rest : List Token) (mark : read_symbol text m.PlusPlus left ≡ Ok (x, rest)) where
      pub joining_err : (e : Refusal Token) → read_operand text (Some 64) room rest ≡ Err e → read_joined_operands text room start ≡ Err e
      joining_err e h = rw (g.read, repeating_err text (symbol_kinds m.PlusPlus) (read_joined text (Some 64) room) g.repeating seen e (rw (mark, h) refl)) refl

      pub joining_more : (R' : OperandRef → Operand → Type 0) (found' : List OperandRef) (o : Operand) (next : List Token) → Each R' found' (g.first ∷ (g.repeating.acc ++ o ∷ [])) → length next < length left → read_operand text (Some 64) room rest ≡ Ok (o, next) → Joining text room R' start found' next
      joining_more R' found' o next sees lt h = record {
        first = g.first;
        behind = g.behind;
        read = g.read;
        repeating = repeating_more text (symbol_kinds m.PlusPlus) (read_joined text (Some 64) room) g.repeating seen (λ xs os. Each R' xs (g.first ∷ os)) next o found' sees lt (rw (mark, h) refl);
      }
