-- What a reader leaves is shorter than what it was given, where its part is not empty.
use Rattle.std.proofs.Common.{◌≡◌, ℕ, suc, ◌≤◌, ◌<◌, List, [], ◌∷◌, ◌++◌, Option, length, Ok, ap, subst, length-append, le_refl, arith}
use Rattle.qasm_lexer.specs.declared.token.Token.{Token}
use Rattle.qasm_ast.specs.Tree.{Operand, Name}
use Rattle.grammar_parts.specs.Part.{Part}
use Rattle.grammar_parts.specs.Reading.{Reader, Answers}
use Rattle.grammar_parts.specs.Law.{Follows, Filled}
use Rattle.qasm_grammar.specs.Parts.{Opened}
use Rattle.qasm_grammar.specs.Reader.{read_name, read_operand, read_stmt}
use Rattle.qasm_grammar.proofs.Depths.{Depth, depth}
use Rattle.qasm_grammar.proofs.Pieces.{reads_name, reads_operand}
use Rattle.qasm_grammar.proofs.StatementLaws.{reads_stmt}

module _ {A : Type 0} {p q : Part Token A} {r : Reader Token A} {F : Token → Type 0} {M : A → Token → Type 0} (f : Follows (Unit {0}) p q r F M) (ts : List Token) (a : A) (rest : List Token) (h : r ts ≡ Ok (a, rest)) where
  answer : Answers p q ts (Ok (a, rest))
  answer = subst (λ o. Answers p q ts o) h (f.takes tt ts).holds

  -- a reader adds no token
  pub stays_within : length rest ≤ length ts
  stays_within = omega (arith, ap length answer.1, length-append answer.0 rest)

  pub moves : Filled q → length rest < length ts
  moves filled = longer answer.0 answer.1 answer.2
    where
      longer : (xs : List Token) → ts ≡ xs ++ rest → p.derives xs a → length rest < length ts
      longer [] e d = absurd (filled.never_empty a (f.below.derived [] a d))
      longer (x ∷ xs) e d = omega (arith, ap length e, length-append xs rest)

module _ (text : List ℕ) where
  pub name_moves : (ts : List Token) (x : Name) (rest : List Token) → read_name text ts ≡ Ok (x, rest) → length rest < length ts
  name_moves ts x rest h = moves (reads_name text).follows ts x rest h (reads_name text {C = Unit {0}}).filled

  module _ (limit : Option ℕ) (room : ℕ) where
    here : Depth text (Unit {0}) limit room (suc (suc (suc room)))
    here = depth text limit room (suc (suc (suc room))) (le_refl _)

    pub operand_moves : (ts : List Token) (o : Operand) (rest : List Token) → read_operand text limit room ts ≡ Ok (o, rest) → length rest < length ts
    operand_moves ts o rest h = moves (reads_operand text here).follows ts o rest h (reads_operand text here).filled

    pub stmt_moves : (ts : List Token) (s : Opened) (rest : List Token) → read_stmt text limit room ts ≡ Ok (s, rest) → length rest < length ts
    stmt_moves ts s rest h = moves (reads_stmt text limit room (suc (suc (suc room))) (le_refl _)).follows ts s rest h (reads_stmt text limit room (suc (suc (suc room))) (le_refl _)).filled
