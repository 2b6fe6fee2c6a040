use Rattle.std.proofs.Common.{◌≡◌, ◌+◌, ◌<◌, ◌^◌, length}
use denote.Text.{Utf8}
use denote.Shadow.{shadow}
use Rattle.std.specs.Str.{chars}
use Rattle.qasm_lexer.specs.Tokens.{place_behind}
use Rattle.qasm_lexer.proofs.lexer.place_behind.Given as goal

-- the place behind what is left is that behind all, and both numbers have room
abbrev pub invariant-loop-first : goal.invariant-loop-first
invariant-loop-first l =
    shadow (Utf8 l.rest) × record {
      same : place_behind l.at (chars l.rest) ≡ place_behind l.fn.at (chars l.text);
      line : l.at.line + length l.rest < 2 ^ 32;
      column : l.at.column + length l.rest < 2 ^ 32;
    }

abbrev pub decreases-loop-first : goal.decreases-loop-first
decreases-loop-first l = length l.rest
