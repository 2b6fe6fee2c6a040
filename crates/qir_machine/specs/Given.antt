-- For private contracts alone: what the code's buffer of arguments holds.
use Rattle.std.specs.Prelude.{◌≡◌, ℕ, Bool, false, List, [], ◌∷◌, ◌++◌, length, min, pos, Option, Some, None}
use Rattle.qir_module.specs.Machine as run
use Rattle.qir_module.specs.Machine.{padded, units_in, qubits_in}
use Rattle.qir_machine.specs.declared.given.Given.{Given}
use Rattle.qir_machine.specs.declared.given.Given.TheVariants.{Word, Truth, Null, Id, Label}
use Rattle.qir_machine.specs.declared.given.Arguments.{Arguments}

abbrev pub Givens : Type 0
Givens = List run.Given

abbrev pub given_of : Given → run.Given
given_of (Word z) = run.WordGiven z
given_of (Truth b) = run.TruthGiven b
given_of Null = run.NullGiven
given_of (Id n) = run.IdGiven n
given_of (Label l) = run.LabelGiven l

-- the last truth value that is given, and the last label
abbrev pub truth_from : Bool → Givens → Bool
truth_from b [] = b
truth_from b (run.TruthGiven c ∷ others) = truth_from c others
truth_from b (_ ∷ others) = truth_from b others

abbrev pub label_from : ℕ → Givens → ℕ
label_from l [] = l
label_from l (run.LabelGiven k ∷ others) = label_from k others
label_from l (_ ∷ others) = label_from l others

-- the buffer holds what is given
pub record IsRead (givens : Givens) (all : Arguments) : Type 0 where
  pub words : all.words ≡ padded 4 (pos 0) (units_in givens)
  pub word_count : all.word_count ≡ min 4 (length (units_in givens))
  pub ids : all.ids ≡ padded 3 (record { 0 = 0 }) (qubits_in givens)
  pub id_count : all.id_count ≡ min 3 (length (qubits_in givens))
  pub truth : all.truth ≡ truth_from false givens
  pub label : all.label ≡ label_from 0 givens

-- all arguments could be read, and the buffer holds them
abbrev pub AreRead : Option Givens → Arguments → Type 0
AreRead givens all = (gs : Givens) × (givens ≡ Some gs) × IsRead gs all

-- what was read, in front of what is left to read
abbrev pub prepend : {A : Type 0} → List A → Option (List A) → Option (List A)
prepend front None = None
prepend front (Some others) = Some (front ++ others)
