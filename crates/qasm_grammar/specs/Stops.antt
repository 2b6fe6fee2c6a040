-- The rule by which a list of tokens is refused that is no program, and the place.
use Rattle.std.specs.Prelude.{◌≡◌, ◌⊎◌, ℕ, cond, List, [], ◌∷◌, ◌++◌, Option}
use Rattle.qq_base.specs.declared.refusal.Refusal.{Refusal}
use Rattle.qq_base.specs.declared.rule.Rule.{Rule}
use Rattle.qq_base.specs.declared.rule.Rule.TheVariants.{NestingDeep, Syntax, Version, LeftOut, Include}
use Rattle.qasm_lexer.specs.declared.token.Token.{Token}
use Rattle.qasm_lexer.specs.declared.token.TokenKind.{TokenKind}
use Rattle.qasm_lexer.specs.declared.token.TokenKind.TheVariants as t
use Rattle.qasm_lexer.specs.declared.token.Keyword.{Keyword}
use Rattle.qasm_lexer.specs.declared.token.Keyword.TheVariants as k
use Rattle.qasm_lexer.specs.declared.token.Mark.TheVariants as m
use Rattle.qasm_lexer.specs.Tokens.{first_place}
use Rattle.qasm_ast.specs.Tree.{Statements}
use Rattle.grammar_parts.specs.Exact.{OnlyLimits, NoneGoesOn}
use Rattle.qasm_expr.specs.Answer.{is_left_out_word, place_at}
use Rattle.qasm_grammar.specs.Grammar.{program}
use Rattle.qasm_grammar.specs.Whole.{wide, IsProgramOf}

-- a token `barrier`, at no matter what place
abbrev pub a_barrier : Token
a_barrier = record { kind = t.Word k.Barrier; start = 0; end = 0; at = first_place }

-- Behind these a statement or a member of a gate's body might begin, limits aside: of all tokens `barrier`
-- begins both, and stands nowhere else.
abbrev pub MightBegin : List ℕ → List Token → Type 0
MightBegin text xs = (room : ℕ) × (wide text room).begins (xs ++ a_barrier ∷ [])

-- the last of these tokens is this word
abbrev pub EndsWith : Keyword → List Token → Type 0
EndsWith w xs = (before : List Token) × (x : Token) × (xs ≡ before ++ x ∷ []) × (x.kind ≡ t.Word w)

-- where this holds it is this rule, else it is Syntax
abbrev pub IsRuleWhere : Type 0 → Rule → Rule → Type 0
IsRuleWhere P special rule = (P × (rule ≡ special)) ⊎ ((P → ⊥) × (rule ≡ Syntax))

-- The rule at a token of this kind, behind tokens with which no program goes on.
abbrev pub RuleAt : List ℕ → List Token → TokenKind → Rule → Type 0
-- a version stands where a statement might begin, behind the front of the program
RuleAt text xs (t.Word k.OpenQasm) rule = IsRuleWhere (MightBegin text xs) Version rule
RuleAt text xs (t.Word w) rule = rule ≡ cond (is_left_out_word w) LeftOut Syntax
RuleAt text xs (t.Mark m.Hash) rule = rule ≡ LeftOut
-- an annotation
RuleAt text xs (t.Mark m.At) rule = IsRuleWhere (MightBegin text xs) LeftOut rule
-- a version other than 3.0
RuleAt text xs (t.Version major minor) rule = IsRuleWhere (EndsWith k.OpenQasm xs) Version rule
-- a file other than stdgates.inc
RuleAt text xs t.Text rule = IsRuleWhere (EndsWith k.Include xs) Include rule
RuleAt text xs _ rule = rule ≡ Syntax

-- behind these tokens the rest is refused by this rule, where no program goes on with its first token
abbrev pub RuleOf : List ℕ → List Token → List Token → Rule → Type 0
RuleOf text xs [] rule = rule ≡ Syntax
RuleOf text xs (x ∷ rest) rule = RuleAt text xs x.kind rule

module _ (text : List ℕ) (limit : Option ℕ) (room : ℕ) (tokens : List Token) where
  -- Only the limits forbid the first token of the rest; or no program goes on with it.
  abbrev pub StopsBy : List Token → List Token → Rule → Type 0
  StopsBy xs rest rule =
      ((x : Token) × (more : List Token) × (rest ≡ x ∷ more) × OnlyLimits (program text limit room) (wide text) xs x × (rule ≡ NestingDeep))
      ⊎ (((ss : Statements) → IsProgramOf text limit room tokens ss → ⊥) × NoneGoesOn (wide text) xs rest × RuleOf text xs rest rule)

  -- The tokens are refused so: behind the longest front that begins a program.
  pub record IsRefused (refusal : Refusal) : Type 0 where
    pub front : List Token
    pub rest : List Token
    pub split : tokens ≡ front ++ rest
    pub begun : (program text limit room).begins front
    pub place : refusal.at ≡ place_at text rest
    pub stops : StopsBy front rest refusal.rule
