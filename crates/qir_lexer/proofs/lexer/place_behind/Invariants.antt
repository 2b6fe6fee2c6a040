use Rattle.std.proofs.Common.{◌≡◌, ◌+◌, ◌-◌, ◌<◌, ◌^◌, length, drop}
use Rattle.qir_module.specs.Tokens.{place_behind}
use Rattle.qir_lexer.proofs.lexer.place_behind.Given as goal

-- the place behind what is left is that behind all, and both numbers have room
abbrev pub invariant-loop-byte : goal.invariant-loop-byte
invariant-loop-byte l =
    record {
      same : place_behind l.at (drop l.byte-index l.bytes) ≡ place_behind l.fn.at l.bytes;
      line : l.at.line + (length l.bytes - l.byte-index) < 2 ^ 32;
      column : l.at.column + (length l.bytes - l.byte-index) < 2 ^ 32;
    }
