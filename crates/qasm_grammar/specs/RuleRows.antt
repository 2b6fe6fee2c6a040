-- Worked rows of refusals: by which rule some short lists of tokens are refused, and where. What stands on
-- the right is read by hand. In all of them two levels may be opened and a chain has two operators at most.
use Rattle.std.specs.Prelude.{◌≡◌, ℕ, List, [], ◌∷◌, length, None, Some, Err}
use Rattle.qq_base.specs.declared.rule.Rule.{Rule}
use Rattle.qq_base.specs.declared.rule.Rule.TheVariants.{NestingDeep, Syntax, Version, LeftOut, Include}
use Rattle.qasm_lexer.specs.declared.token.Token.{Token}
use Rattle.qasm_lexer.specs.declared.token.Keyword.TheVariants as k
use Rattle.qasm_lexer.specs.declared.token.Mark.TheVariants as m
use Rattle.qasm_lexer.specs.Tokens.{place_of}
use Rattle.qasm_grammar.specs.Answer.{answer}
use Rattle.qasm_grammar.specs.Rows.{text, column, a_name, b_name, whole, sign, word_of, version, other_file}

-- These tokens are refused by this rule at this column.
abbrev pub IsRefusedBy : List Token → Rule → ℕ → Type 0
IsRefusedBy tokens rule n = answer text (Some 2) 2 tokens ≡ Err (record { rule = rule; at = column n })

-- a version other than 3.0: `OPENQASM 3.1 ;`
abbrev pub RuleOfVersion : Type 0
RuleOfVersion = IsRefusedBy (word_of k.OpenQasm 1 ∷ version 3 (Some 1) 2 ∷ sign m.Semicolon 3 ∷ []) Version 2

-- no version at all: `OPENQASM ;`
abbrev pub RuleOfVersionWord : Type 0
RuleOfVersionWord = IsRefusedBy (word_of k.OpenQasm 1 ∷ sign m.Semicolon 2 ∷ []) Syntax 2

-- a version behind a statement, in a body of a control statement, and in that of a gate: `end ; OPENQASM 3 ;`
abbrev pub RuleOfSecondVersion : Type 0
RuleOfSecondVersion = IsRefusedBy (word_of k.End 1 ∷ sign m.Semicolon 2 ∷ word_of k.OpenQasm 3 ∷ version 3 None 4 ∷ sign m.Semicolon 5 ∷ []) Version 3

-- `if ( a ) OPENQASM 3 ;`
abbrev pub RuleOfVersionInBody : Type 0
RuleOfVersionInBody = IsRefusedBy (word_of k.If 1 ∷ sign m.LeftParen 2 ∷ a_name 3 ∷ sign m.RightParen 4 ∷ word_of k.OpenQasm 5 ∷ version 3 None 6 ∷ sign m.Semicolon 7 ∷ []) Version 5

-- `gate a b { OPENQASM 3 ;`
abbrev pub RuleOfVersionInGate : Type 0
RuleOfVersionInGate = IsRefusedBy (word_of k.Gate 1 ∷ a_name 2 ∷ b_name 3 ∷ sign m.LeftBrace 4 ∷ word_of k.OpenQasm 5 ∷ version 3 None 6 ∷ sign m.Semicolon 7 ∷ []) Version 5

-- no statement begins there: `a = OPENQASM 3 ;`
abbrev pub RuleOfVersionInValue : Type 0
RuleOfVersionInValue = IsRefusedBy (a_name 1 ∷ sign m.Assign 2 ∷ word_of k.OpenQasm 3 ∷ version 3 None 4 ∷ sign m.Semicolon 5 ∷ []) Syntax 3

-- another file: `include 'other' ;`
abbrev pub RuleOfInclude : Type 0
RuleOfInclude = IsRefusedBy (word_of k.Include 1 ∷ other_file 2 ∷ sign m.Semicolon 3 ∷ []) Include 2

-- a text that is no file: `a = 'other' ;`
abbrev pub RuleOfText : Type 0
RuleOfText = IsRefusedBy (a_name 1 ∷ sign m.Assign 2 ∷ other_file 3 ∷ sign m.Semicolon 4 ∷ []) Syntax 3

-- words that the profile leaves out, also where no statement begins: `float a ;`
abbrev pub RuleOfWord : Type 0
RuleOfWord = IsRefusedBy (word_of k.Float 1 ∷ a_name 2 ∷ sign m.Semicolon 3 ∷ []) LeftOut 1

-- `inv @ negctrl @ a b ;`
abbrev pub RuleOfModifier : Type 0
RuleOfModifier = IsRefusedBy (word_of k.Inv 1 ∷ sign m.At 2 ∷ word_of k.Negctrl 3 ∷ sign m.At 4 ∷ a_name 5 ∷ b_name 6 ∷ sign m.Semicolon 7 ∷ []) LeftOut 3

-- the mark of a pragma: `# a`
abbrev pub RuleOfHash : Type 0
RuleOfHash = IsRefusedBy (sign m.Hash 1 ∷ a_name 2 ∷ []) LeftOut 1

-- an annotation: `@ a`
abbrev pub RuleOfAnnotation : Type 0
RuleOfAnnotation = IsRefusedBy (sign m.At 1 ∷ a_name 2 ∷ []) LeftOut 1

-- `gate a b { @ a`
abbrev pub RuleOfAnnotationInGate : Type 0
RuleOfAnnotationInGate = IsRefusedBy (word_of k.Gate 1 ∷ a_name 2 ∷ b_name 3 ∷ sign m.LeftBrace 4 ∷ sign m.At 5 ∷ a_name 6 ∷ []) LeftOut 5

-- no statement begins there: `a = @ ;`
abbrev pub RuleOfAnnotationInValue : Type 0
RuleOfAnnotationInValue = IsRefusedBy (a_name 1 ∷ sign m.Assign 2 ∷ sign m.At 3 ∷ sign m.Semicolon 4 ∷ []) Syntax 3

-- a third level: `inv @ inv @ inv @ a b ;`
abbrev pub RuleOfDepth : Type 0
RuleOfDepth = IsRefusedBy (word_of k.Inv 1 ∷ sign m.At 2 ∷ word_of k.Inv 3 ∷ sign m.At 4 ∷ word_of k.Inv 5 ∷ sign m.At 6 ∷ a_name 7 ∷ b_name 8 ∷ sign m.Semicolon 9 ∷ []) NestingDeep 5

-- a third operator of a chain: `a = 1 + 1 + 1 + 1 ;`
abbrev pub RuleOfChain : Type 0
RuleOfChain = IsRefusedBy (a_name 1 ∷ sign m.Assign 2 ∷ whole 3 ∷ sign m.Plus 4 ∷ whole 5 ∷ sign m.Plus 6 ∷ whole 7 ∷ sign m.Plus 8 ∷ whole 9 ∷ sign m.Semicolon 10 ∷ []) NestingDeep 8

-- what begins no statement: `1 ;`
abbrev pub RuleOfNumber : Type 0
RuleOfNumber = IsRefusedBy (whole 1 ∷ sign m.Semicolon 2 ∷ []) Syntax 1

-- the end of the text: `end`
abbrev pub RuleOfEnd : Type 0
RuleOfEnd = answer text (Some 2) 2 (word_of k.End 1 ∷ []) ≡ Err (record { rule = Syntax; at = place_of text (length text) })
