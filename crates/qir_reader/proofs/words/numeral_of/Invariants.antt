use Rattle.std.proofs.Common.{◌≡◌, ◌<◌, ◌^◌, drop}
use Rattle.std.specs.List.{list_all}
use Rattle.std.specs.Char.{is_ascii_digit}
use Rattle.std.specs.Str.Parse.{digits_value, digits_value_after}
use Rattle.qir_reader.proofs.words.numeral_of.Given as goal

-- the value so far and the digits that are left give the value of all, and all are digits if those left are
abbrev pub invariant-loop-byte : goal.invariant-loop-byte
invariant-loop-byte l = record {
  small : l.value < 2 ^ 32;
  digits : list_all is_ascii_digit (drop l.byte-index l.body) ≡ list_all is_ascii_digit l.body;
  value : digits_value_after 10 l.value (drop l.byte-index l.body) ≡ digits_value 10 l.body;
}
