-- For private contracts: what is answered of a list of tokens, the statements of the program or the refusal, computed as
-- the code does. The laws say that it is right.
use Rattle.std.specs.Prelude.{ℕ, ◌-◌, Bool, true, false, cond, List, [], ◌∷◌, ◌++◌, length, take, Option, Result, Ok, Err}
use Rattle.qq_base.specs.declared.refusal.Refusal.{Refusal}
use Rattle.qq_base.specs.declared.rule.Rule.{Rule}
use Rattle.qq_base.specs.declared.rule.Rule.TheVariants.{NestingDeep, Syntax, Version, LeftOut, Include}
use Rattle.qasm_lexer.specs.declared.token.Token.{Token}
use Rattle.qasm_lexer.specs.declared.token.TokenKind.{TokenKind}
use Rattle.qasm_lexer.specs.declared.token.TokenKind.TheVariants as t
use Rattle.qasm_lexer.specs.declared.token.Keyword.TheVariants as k
use Rattle.qasm_lexer.specs.declared.token.Mark.TheVariants as m
use Rattle.qasm_ast.specs.Tree.{Statements}
use Rattle.grammar_parts.specs.Reading.{Outcome, Refusal as Stop, syntax, deep}
use Rattle.qasm_grammar.specs.Reader.{read_program}
use Rattle.qasm_grammar.specs.Whole.{IsProgramOf, finish}
use Rattle.qasm_expr.specs.Answer.{is_left_out_word, place_at}
use Rattle.qasm_grammar.specs.Stops.{a_barrier, IsRefused}

abbrev pub is_empty : List Token → Bool
is_empty [] = true
is_empty (x ∷ xs) = false

-- no token is left, or only a limit stops
abbrev pub takes_all : {A : Type 0} → Outcome Token A → Bool
takes_all (Ok (a, rest)) = is_empty rest
takes_all (Err (syntax rest)) = is_empty rest
takes_all (Err (deep rest)) = true

abbrev pub is_version_word : TokenKind → Bool
is_version_word (t.Word k.OpenQasm) = true
is_version_word _ = false

abbrev pub is_include_word : TokenKind → Bool
is_include_word (t.Word k.Include) = true
is_include_word _ = false

-- the last of these tokens passes
abbrev pub ends_in : (TokenKind → Bool) → List Token → Bool
ends_in test [] = false
ends_in test (x ∷ []) = test x.kind
ends_in test (x ∷ y ∷ xs) = ends_in test (y ∷ xs)

abbrev pub rule_where : Bool → Rule → Rule
rule_where holds special = cond holds special Syntax

-- the tokens in front of a rest
abbrev pub front_of : List Token → List Token → List Token
front_of tokens rest = take (length tokens - length rest) tokens

module _ (text : List ℕ) (limit : Option ℕ) (room : ℕ) where
  -- a barrier is read behind these, limits aside
  abbrev pub might_begin : List Token → Bool
  might_begin xs = takes_all (read_program text limit room (xs ++ a_barrier ∷ []))

  abbrev pub rule_at : List Token → TokenKind → Rule
  rule_at xs (t.Word k.OpenQasm) = rule_where (might_begin xs) Version
  rule_at xs (t.Word w) = cond (is_left_out_word w) LeftOut Syntax
  rule_at xs (t.Mark m.Hash) = LeftOut
  rule_at xs (t.Mark m.At) = rule_where (might_begin xs) LeftOut
  rule_at xs (t.Version major minor) = rule_where (ends_in is_version_word xs) Version
  rule_at xs t.Text = rule_where (ends_in is_include_word xs) Include
  rule_at xs _ = Syntax

  abbrev pub rule_of : List Token → List Token → Rule
  rule_of xs [] = Syntax
  rule_of xs (x ∷ rest) = rule_at xs x.kind

  abbrev pub answer_of : List Token → Result Statements (Stop Token) → Result Statements Refusal
  answer_of tokens (Ok ss) = Ok ss
  answer_of tokens (Err (deep rest)) = Err (record { rule = NestingDeep; at = place_at text rest })
  answer_of tokens (Err (syntax rest)) = Err (record { rule = rule_of (front_of tokens rest) rest; at = place_at text rest })

  abbrev pub answer : List Token → Result Statements Refusal
  answer tokens = answer_of tokens (finish (read_program text limit room tokens))

  -- what an answer means
  abbrev pub IsAnswer : List Token → Result Statements Refusal → Type 0
  IsAnswer tokens (Ok ss) = IsProgramOf text limit room tokens ss
  IsAnswer tokens (Err refusal) = IsRefused text limit room tokens refusal
