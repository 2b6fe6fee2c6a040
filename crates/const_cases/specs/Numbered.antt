-- For private contracts alone: the meanings of names by their numbers.
use Rattle.std.specs.Prelude.{ℕ, suc, List, [], ◌∷◌}
use Rattle.const_cases.specs.declared.names.Named.{Named}
use Rattle.const_cases.specs.declared.names.Named.TheVariants as n
use Rattle.const_eval.specs.Meaning.{Meaning, Held, Running, OtherThing, Nothing}
use Rattle.const_eval.specs.Seen.{constant_of}

abbrev pub meaning_of : Named → Meaning
meaning_of (n.Held c) = Held (constant_of c)
meaning_of n.Running = Running
meaning_of n.Other = OtherThing
meaning_of n.Unknown = Nothing

-- the meanings with their numbers, from a number on
abbrev pub numbered : ℕ → List Named → List (ℕ × Meaning)
numbered from [] = []
numbered from (name ∷ names) = (from, meaning_of name) ∷ numbered (suc from) names
