use Rattle.std.proofs.Common.{◌≡◌, drop}
use Rattle.qir_module.specs.Words.{looked_up, texts, OtherText}
use Rattle.qir_reader.proofs.words.name_of.Given as goal

-- the text is in what is left of the table, if it is there
abbrev pub invariant-loop-place : goal.invariant-loop-place
invariant-loop-place l = looked_up OtherText texts l.body ≡ looked_up OtherText (drop l.place texts) l.body
