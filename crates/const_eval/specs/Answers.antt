-- How a call answers for a definition that may refuse.
use Rattle.std.specs.Prelude.{◌≡◌, Result, Ok, Err}
use Rattle.qq_base.specs.declared.refusal.Fault.{Fault}
use Rattle.qq_base.specs.declared.refusal.Fault.TheVariants as fault
use Rattle.qq_base.specs.declared.refusal.Refusal.{Refusal}

-- A fault other than want of memory is the refusal of the definition.
abbrev pub Fails : {A : Type 0} → Fault → Result A Refusal → Type 0
Fails fault.Memory r = Unit {0}
Fails (fault.Refused refusal) r = r ≡ Err refusal

-- A value of the call is that of the definition, where `view` is what it is seen as, and a fault is as above.
abbrev pub Answers : {A B : Type 0} → (A → B) → Result A Fault → Result B Refusal → Type 0
Answers view (Ok a) r = r ≡ Ok (view a)
Answers view (Err fault) r = Fails fault r
