use Rattle.std.proofs.Common.{◌≡◌, ◌++◌, drop}
use Rattle.std.specs.Prelude.{IsTrue}
use Rattle.qir_module.specs.Tokens.{is_body, bytes_from, bytes_meant}
use Rattle.qir_reader.specs.Seen.{escape_of, IsSmall}
use Rattle.qir_reader.proofs.bytes.bytes_meant.Given as goal

-- the bytes so far and those that the rest means are the bytes of all
abbrev pub invariant-loop-character : goal.invariant-loop-character
invariant-loop-character l = record {
  small : IsSmall l.state;
  stands : IsTrue (is_body (escape_of l.state) (drop l.character-index l.body));
  bytes : l.bytes.items ++ bytes_from (escape_of l.state) (drop l.character-index l.body) ≡ bytes_meant l.body;
}
