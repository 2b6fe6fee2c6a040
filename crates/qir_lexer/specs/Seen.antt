-- The tokens of the code as those of the definition: a token of the code keeps no word and no text, which its bytes
-- in the text are.
use Rattle.std.specs.Prelude.{◌≡◌, ℕ, ◌+◌, ◌-◌, List, length, map, take, drop, Option, Some, None, Result, Ok, Err}
use Rattle.std.specs.declared.alloc.Global.{Global}
use Rattle.std.specs.declared.vec.Vec.{Vec}
use Rattle.qir_module.specs.Tokens.{TokenKind, Token, Breach, Tokens}
use Rattle.qir_module.specs.Tokens as t
use Rattle.qir_lexer.specs.declared.token.QirKind.{QirKind}
use Rattle.qir_lexer.specs.declared.token.QirKind.TheVariants as k
use Rattle.qir_lexer.specs.declared.token.QirToken.{QirToken}
use Rattle.qir_lexer.specs.declared.rule.TextRefusal.{TextRefusal}
use Rattle.qir_lexer.specs.declared.rule.TextFault.{TextFault}
use Rattle.qir_lexer.specs.declared.rule.TextFault.TheVariants.{Memory, Refused}
use Rattle.qir_lexer.specs.Rules.{breach_of}

-- the characters without so many in front and one behind
abbrev pub between : ℕ → List ℕ → List ℕ
between front spelling = take (length spelling - (front + 1)) (drop front spelling)

-- what a token of this kind is that is spelled so
abbrev pub kind_of : List ℕ → QirKind → TokenKind
kind_of spelling k.Word = t.Word spelling
kind_of spelling (k.Number value) = t.Number value
kind_of spelling (k.Register number) = t.Register number
kind_of spelling (k.Target number) = t.Target number
kind_of spelling (k.Block number) = t.Block number
kind_of spelling (k.Constant number) = t.Constant number
kind_of spelling (k.Group number) = t.Group number
kind_of spelling (k.Flag number) = t.Flag number
kind_of spelling k.Named = t.Named (drop 1 spelling)
kind_of spelling k.FlagName = t.FlagName (drop 1 spelling)
kind_of spelling k.Text = t.Text (between 1 spelling)
kind_of spelling k.Bytes = t.Bytes (between 2 spelling)
kind_of spelling k.FlagText = t.FlagText (between 2 spelling)
kind_of spelling (k.Mark character) = t.Mark character

abbrev pub token_of : List ℕ → QirToken → Token
token_of text token = record { kind = kind_of (take (token.end - token.start) (drop token.start text)) token.kind; start = token.start; end = token.end; at = token.at }

abbrev pub tokens_of : List ℕ → List QirToken → List Token
tokens_of text tokens = map (token_of text) tokens

-- what is found next, as the definition has it
abbrev pub found_of : List ℕ → Result (Option QirToken) TextRefusal → Result (Option Token) Breach
found_of text (Ok None) = Ok None
found_of text (Ok (Some token)) = Ok (Some (token_of text token))
found_of text (Err refusal) = Err (breach_of refusal)

-- the answer is the tokens of the text, or its first breach of a rule of tokens, want of memory aside
abbrev pub Gives : List ℕ → Result (Vec QirToken Global) TextFault → Type 0
Gives text (Ok tokens) = Tokens text (Ok (tokens_of text tokens.items))
Gives text (Err (Refused refusal)) = Tokens text (Err (breach_of refusal))
Gives text (Err Memory) = Unit {0}

-- the answer is this reading of the text, want of memory aside
abbrev pub IsReading : List ℕ → Result (List Token) Breach → Result (Vec QirToken Global) TextFault → Type 0
IsReading text reading (Ok tokens) = reading ≡ Ok (tokens_of text tokens.items)
IsReading text reading (Err (Refused refusal)) = reading ≡ Err (breach_of refusal)
IsReading text reading (Err Memory) = Unit {0}
