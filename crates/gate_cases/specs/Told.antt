-- For private contracts alone: what the environment says of each name, in each definition and of each argument.
use Rattle.std.specs.Prelude.{ℕ, suc, List, [], ◌∷◌, cond, nat_lt}
use Rattle.const_eval.specs.declared.environment.Callable.{Callable}
use Rattle.const_eval.specs.declared.environment.Callable.TheVariants as c
use Rattle.const_eval.specs.Meaning.{Meaning, Held, Running, OtherThing, Nothing}
use Rattle.const_eval.specs.Seen.{MeaningInside, HeldInside, CalledInside, NothingInside, constant_of}
use Rattle.gate_flatten.specs.Outer.{OuterMeaning, FixedOuter, RunningOuter}
use Rattle.gate_cases.specs.declared.env.Named.{Named}
use Rattle.gate_cases.specs.declared.env.Named.TheVariants as n
use Rattle.gate_cases.specs.declared.env.Entry.{Entry}
use Rattle.gate_cases.specs.declared.env.Outer.{Outer}
use Rattle.gate_cases.specs.declared.env.Outer.TheVariants as o
pub use Rattle.gate_cases.specs.Answered.{operand_told}

abbrev pub meaning_told : Entry → Meaning
meaning_told entry = of entry.named
  where
    of : Named → Meaning
    of (n.Held value) = Held (constant_of value)
    of n.Running = Running
    of (n.Qubits ids single) = OtherThing
    of (n.Row gate) = OtherThing
    of (n.Gate def) = OtherThing
    of (n.Subroutine def) = OtherThing
    of n.Unknown = Nothing

abbrev pub callable_told : Entry → Callable
callable_told entry = of entry.named
  where
    of : Named → Callable
    of (n.Held value) = c.Other
    of n.Running = c.Other
    of (n.Qubits ids single) = c.Other
    of (n.Row gate) = c.Row gate
    of (n.Gate def) = c.Defined def
    of (n.Subroutine def) = c.Defined def
    of n.Unknown = c.Unknown

-- in a definition up to which so many names were declared
abbrev pub inside_told : ℕ → Entry → MeaningInside
inside_told order entry = cond (nat_lt order entry.order) NothingInside (of entry.named)
  where
    of : Named → MeaningInside
    of (n.Held value) = HeldInside (constant_of value)
    of n.Running = NothingInside
    of (n.Qubits ids single) = NothingInside
    of (n.Row gate) = CalledInside (c.Row gate)
    of (n.Gate def) = CalledInside (c.Defined def)
    of (n.Subroutine def) = NothingInside
    of n.Unknown = NothingInside

abbrev pub outer_told : Outer → OuterMeaning
outer_told (o.Fixed value) = FixedOuter (constant_of value)
outer_told o.Running = RunningOuter

-- ---- maps

-- what is told of each entry, with their numbers, from a number on
abbrev pub numbered : {B : Type 0} → (Entry → B) → ℕ → List Entry → List (ℕ × B)
numbered tell from [] = []
numbered tell from (entry ∷ entries) = (from, tell entry) ∷ numbered tell (suc from) entries

-- of one definition what each name means there, from a number on, in front of the rest
abbrev pub row : ℕ → ℕ → ℕ → List Entry → List ((ℕ × ℕ) × MeaningInside) → List ((ℕ × ℕ) × MeaningInside)
row def order from [] rest = rest
row def order from (entry ∷ entries) rest = ((def, from), inside_told order entry) ∷ row def order (suc from) entries rest

-- the same of each definition, from a number on
abbrev pub rows : ℕ → List ℕ → List Entry → List ((ℕ × ℕ) × MeaningInside)
rows def [] entries = []
rows def (order ∷ orders) entries = row def order 0 entries (rows (suc def) orders entries)
