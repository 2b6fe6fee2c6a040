-- Whole programs: which lists of tokens are one, and where a list that is none stops to be one.
use Rattle.std.specs.Prelude.{◌≡◌, ℕ, List, [], ◌∷◌, ◌++◌, Option, None, Result, Ok, Err}
use Rattle.qasm_lexer.specs.declared.token.Token.{Token}
use Rattle.qasm_ast.specs.Tree.{Statements}
use Rattle.grammar_parts.specs.Part.{Part}
use Rattle.grammar_parts.specs.Reading.{Refusal, syntax, deep, Outcome}
use Rattle.grammar_parts.specs.Exact.{OnlyLimits, NoneGoesOn}
use Rattle.qasm_grammar.specs.Grammar.{program}

-- The program without limits: for each number of levels that with room for so many, and any chain.
abbrev pub wide : List ℕ → ℕ → Part Token Statements
wide text = program text None

module _ (text : List ℕ) (limit : Option ℕ) (room : ℕ) (tokens : List Token) where
  -- these are the statements of the program that the tokens are
  abbrev pub IsProgramOf : Statements → Type 0
  IsProgramOf ss = (program text limit room).derives tokens ss

  -- The statements, where the tokens are a program. Else the rest behind the longest front that begins one:
  -- no program goes on with its first token, or only the limits forbid it.
  abbrev pub ProgramExact : Result Statements (Refusal Token) → Type 0
  ProgramExact (Ok ss) = IsProgramOf ss
  ProgramExact (Err (syntax rest)) = (xs : List Token) × (tokens ≡ xs ++ rest) × (program text limit room).begins xs × ((ss : Statements) → IsProgramOf ss → ⊥) × NoneGoesOn (wide text) xs rest
  ProgramExact (Err (deep rest)) = (xs : List Token) × (x : Token) × (more : List Token) × (rest ≡ x ∷ more) × (tokens ≡ xs ++ rest) × (program text limit room).begins xs × OnlyLimits (program text limit room) (wide text) xs x

-- no tokens are left
abbrev pub finish : {A : Type 0} → Outcome Token A → Result A (Refusal Token)
finish (Ok (a, [])) = Ok a
finish (Ok (a, x ∷ rest)) = Err (syntax (x ∷ rest))
finish (Err e) = Err e
