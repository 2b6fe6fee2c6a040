-- The modifiers of a call of a gate as they are written: `inv @`, `pow(k) @`, `ctrl @` and `ctrl(n) @`, as in the OpenQASM 3.0
-- specification, "Quantum instructions".
use Rattle.std.specs.Prelude.{ℕ, true, false, ◌&&◌, List, ℤ, pos, neg_ℤ, int_le, unsigned_abs, Result, Ok}
use Rattle.qq_base.specs.declared.refusal.Refusal.{Refusal}
use Rattle.qq_base.specs.declared.refusal.Span.{Span}
use Rattle.qq_base.specs.declared.rule.Rule.TheVariants.{PowRange}
use Rattle.qasm_ast.specs.Tree.{Change, inverse, power, control, absent, present, place_of}
use Rattle.const_eval.specs.Meaning.{Meaning}
use Rattle.const_eval.specs.Refusing.{where_allowed}
use Rattle.const_eval.specs.Walk.{Walk, asked, done, then_walk}
use Rattle.const_eval.specs.ConstantWalk.{whole_walk}
use Rattle.gate_lists.specs.declared.modified.Modified.{Modified}
use Rattle.gate_lists.specs.declared.modified.Modified.TheVariants as m
use Rattle.gate_flatten.specs.Walks.{each_walk}

abbrev pub in_range : ℤ → ℤ → ℤ → Span → Result ℤ Refusal
in_range least greatest z place = where_allowed (int_le least z && int_le z greatest) PowRange place (Ok z)

-- The exponent must leave no remainder where it divides, which a number of controls may.
abbrev pub modifier_walk : (List ℕ → Meaning) → Change → Walk Modified
modifier_walk means (inverse place) = done (m.Inverse place)
modifier_walk means (power a place) =
    then_walk (whole_walk means true a) (λ k.
    then_walk (asked (in_range (neg_ℤ (pos 1024)) (pos 1024) k (place_of a))) (λ k.
    done (m.Power k place)))
modifier_walk means (control absent place) = done (m.Controls 1 place)
modifier_walk means (control (present a) place) =
    then_walk (whole_walk means false a) (λ n.
    then_walk (asked (in_range (pos 1) (pos 1024) n (place_of a))) (λ n.
    done (m.Controls (unsigned_abs n) place)))

-- the modifiers of a call, from left to right
abbrev pub modifiers_walk : (List ℕ → Meaning) → List Change → Walk (List Modified)
modifiers_walk means changes = each_walk (modifier_walk means) changes
