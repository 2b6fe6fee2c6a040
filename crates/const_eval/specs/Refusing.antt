-- Answers that may be refused: the first rule that is broken stands, and what comes behind it is not asked.
use Rattle.std.specs.Prelude.{Bool, true, false, Result, Ok, Err}
use Rattle.qq_base.specs.declared.refusal.Refusal.{Refusal}
use Rattle.qq_base.specs.declared.refusal.Span.{Span}
use Rattle.qq_base.specs.declared.rule.Rule.{Rule}

abbrev pub refused : {A : Type 0} → Rule → Span → Result A Refusal
refused rule place = Err (record { rule = rule; at = place })

-- an answer, and what is made of it where it is no refusal
abbrev pub go_on : {A B : Type 0} → Result A Refusal → (A → Result B Refusal) → Result B Refusal
go_on (Ok a) f = f a
go_on (Err e) f = Err e

-- an answer where something is allowed, and else the refusal
abbrev pub where_allowed : {A : Type 0} → Bool → Rule → Span → Result A Refusal → Result A Refusal
where_allowed true rule place answer = answer
where_allowed false rule place answer = refused rule place
