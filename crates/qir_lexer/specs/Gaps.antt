-- Serves private contracts: how far blanks and comments go.
use Rattle.std.specs.Prelude.{◌≡◌, ℕ, ◌≤◌, false, List, [], ◌∷◌, length, drop}
use Rattle.qir_module.specs.Tokens.{Skips}
use Rattle.qir_module.specs.Lexer.{lead_of}
use Rattle.qir_lexer.specs.Scan.{is_gap}

-- neither a blank nor a comment begins the text
abbrev pub BeginsNoGap : List ℕ → Type 0
BeginsNoGap [] = Unit {0}
BeginsNoGap (c ∷ cs) = is_gap (lead_of c) ≡ false

-- so many bytes of the text are gaps, and behind them is none
pub record SkipsGaps (text : List ℕ) (size : ℕ) : Type 0 where
  pub gaps : List (List ℕ)
  pub inside : size ≤ length text
  pub skipped : Skips gaps text (drop size text)
  pub ends : BeginsNoGap (drop size text)
