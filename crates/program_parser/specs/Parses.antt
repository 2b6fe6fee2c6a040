-- For private contracts only: what a call tells that reads by a reader of the grammar.
use Rattle.std.specs.Prelude.{◌≡◌, ◌≢◌, ℕ, Result, Ok, Err}
use Rattle.qasm_lexer.specs.declared.token.Token.{Token}
use Rattle.grammar_parts.specs.Reading.{Reader}
use Rattle.qasm_parser.specs.declared.stop.Stop.{Stop}
use Rattle.qasm_parser.specs.declared.stop.Stop.TheVariants as why
use Rattle.qasm_parser.specs.State.{State, Read, refusal}
use Rattle.program_parser.specs.World.{World, Stands}

-- The reader gives the value that the answer stands for and the tokens that are left, of which so many were taken at least;
-- or no part goes on with those that are left. Want of memory is aside.
abbrev pub ParsesWith : {X A : Type 0} → ℕ → (World → X → A → Type 0) → Reader Token A → State → Result X Stop → State → Type 0
ParsesWith spare look reader old (Ok x) new = Read spare (Stands look) reader old new x
ParsesWith spare look reader old (Err e) new = e ≢ why.Memory → reader old.left ≡ Err (refusal e new.left)

abbrev pub Parses : {X A : Type 0} → (World → X → A → Type 0) → Reader Token A → State → Result X Stop → State → Type 0
Parses = ParsesWith 0

-- the same, where a token is spare
abbrev pub Takes : {X A : Type 0} → (World → X → A → Type 0) → Reader Token A → State → Result X Stop → State → Type 0
Takes = ParsesWith 1
