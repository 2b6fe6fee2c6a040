-- Serves private contracts alone: what operators make of turns, kind by kind.
use Rattle.std.specs.Prelude.{ℕ, ◌<◌, ◌≤◌, ◌^◌, ◌&&◌, Bool, true, false, not, ℤ, pos, neg_ℤ, ◌+ℤ◌, ◌-ℤ◌, ◌*ℤ◌, ◌≤ℤ◌, ◌<ℤ◌, int_div, int_le, int_lt, unsigned_abs, Result, Ok}
use Rattle.std.specs.Ordering.{int_eq}
use Rattle.qq_base.specs.declared.refusal.Refusal.{Refusal}
use Rattle.qq_base.specs.declared.refusal.Span.{Span}
use Rattle.qq_base.specs.declared.rule.Rule.{Rule}
use Rattle.qq_base.specs.declared.rule.Rule.TheVariants.{TypeMismatch, ConstDivide, NotPiMultiple, DivisorRange}
use Rattle.qasm_types.specs.declared.ty.Ty.{Ty}
use Rattle.qasm_types.specs.declared.ty.Ty.TheVariants as t
use Rattle.qasm_types.specs.Values.{Value, PartOfPi, number_of}
use Rattle.const_eval.specs.Constant.{Constant, is_part_of_pi}
use Rattle.const_eval.specs.Refusing.{refused, where_allowed}
use Rattle.gate_lists.specs.Units.{word_of}
use Rattle.gate_arguments.specs.declared.turn.Made.{Made}
use Rattle.gate_arguments.specs.declared.turn.Made.TheVariants as made
use Rattle.gate_arguments.specs.declared.turn.Part.{Part}
use Rattle.gate_arguments.specs.declared.turn.Part.TheVariants as part
use Rattle.gate_arguments.specs.Arguments.{units_of_part}

-- ---- what is made

abbrev pub part_seen : (ℕ → ℤ) → Part → ℤ
part_seen worths (part.Turn k) = word_of (worths k)
part_seen worths (part.Units z) = z

-- the units of what is made, before they are brought to a word
abbrev pub made_seen : (ℕ → ℤ) → Made → ℤ
made_seen worths (made.Negative k) = neg_ℤ (word_of (worths k))
made_seen worths (made.Sum a b) = part_seen worths a +ℤ part_seen worths b
made_seen worths (made.Difference a b) = part_seen worths a -ℤ part_seen worths b
made_seen worths (made.Product k z) = word_of (worths k) *ℤ z
made_seen worths (made.Quotient k z) = int_div (word_of (worths k)) z

abbrev pub PartFits : ℕ → Part → Type 0
PartFits turns (part.Turn k) = k < turns
PartFits turns (part.Units z) = unsigned_abs z ≤ 2 ^ 40

-- the turns that it names are there
abbrev pub MadeFits : ℕ → Made → Type 0
MadeFits turns (made.Negative k) = k < turns
MadeFits turns (made.Sum a b) = PartFits turns a × PartFits turns b
MadeFits turns (made.Difference a b) = PartFits turns a × PartFits turns b
MadeFits turns (made.Product k z) = k < turns
MadeFits turns (made.Quotient k z) = (k < turns) × (pos 1 ≤ℤ z) × (z <ℤ pos (2 ^ 63))

-- ---- a constant beside a turn

-- the rule where the table has no row
abbrev pub rule_of_kind : Bool → Rule
rule_of_kind true = NotPiMultiple
rule_of_kind false = TypeMismatch

abbrev pub rule_beside : Constant → Rule
rule_beside c = rule_of_kind (is_part_of_pi c)

abbrev pub units_beside : Span → Span → Constant → Result ℤ Refusal
units_beside at place c = of c.type c.value
  where
    of : Ty → Value → Result ℤ Refusal
    of t.Pi (PartOfPi f) = units_of_part place f
    of _ x = refused (rule_beside c) at

abbrev pub number_beside : Span → Constant → Result ℤ Refusal
number_beside at c = of c.type c.value
  where
    of : Ty → Value → Result ℤ Refusal
    of t.Whole x = Ok (number_of x)
    of _ x = refused (rule_beside c) at

-- the rule where a turn is divided by what is no whole number: the fraction 0 of pi is 0 first
abbrev pub no_rest : {A : Type 0} → Span → Span → Constant → Result A Refusal
no_rest {A} at place c = of c.type c.value
  where
    of : Ty → Value → Result A Refusal
    of t.Pi (PartOfPi f) = where_allowed (not (int_eq f.num (pos 0))) ConstDivide place (refused NotPiMultiple at)
    of _ x = refused (rule_beside c) at

abbrev pub divisor_beside : Span → Span → Constant → Result ℤ Refusal
divisor_beside at place c = of c.type c.value
  where
    of : Ty → Value → Result ℤ Refusal
    of t.Whole x =
        where_allowed (not (int_eq (number_of x) (pos 0))) ConstDivide place (
        where_allowed (int_le (pos 1) (number_of x) && int_lt (number_of x) (pos (2 ^ 63))) DivisorRange place (Ok (number_of x)))
    of _ x = no_rest at place c
