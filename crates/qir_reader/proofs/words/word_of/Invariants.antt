use Rattle.std.proofs.Common.{◌≡◌, drop}
use Rattle.qir_module.specs.Words.{looked_up, words, Other}
use Rattle.qir_reader.proofs.words.word_of.Given as goal

-- the spelling is in what is left of the table, if it is there
abbrev pub invariant-loop-place : goal.invariant-loop-place
invariant-loop-place l = looked_up Other words l.spelling ≡ looked_up Other (drop l.place words) l.spelling
