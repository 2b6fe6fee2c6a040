-- What turns are worth while their list grows, and what a walk leaves of them.
use Rattle.std.specs.Prelude.{◌≡◌, ℕ, ◌+◌, ◌*◌, ◌≤◌, List, length, slice_get, Bool, true, false, ℤ, Option, Some, None}
use Rattle.qq_base.specs.declared.run.QubitId.{QubitId}
use Rattle.gate_lists.specs.declared.expansion.TurnExpr.{TurnExpr}
use Rattle.gate_lists.specs.declared.member.Member.{Member}
use Rattle.gate_lists.specs.declared.work.Work.{Work}
use Rattle.gate_lists.specs.Members.{AreNamed}
use Rattle.gate_lists.specs.Turns.{worth_by, made_count}

-- `worths` gives each turn of a list what its expression says
pub record AreWorths (given worths : ℕ → ℤ) (turns : List TurnExpr) : Type 0 where
  pub each : (k : ℕ) (t : TurnExpr) → slice_get turns k ≡ Some t → worths k ≡ worth_by given worths t

-- Turns were put behind others, so many of them at most.
pub record MakesTurns (old new : List TurnExpr) (most : ℕ) : Type 0 where
  pub more : length old ≤ length new
  pub kept : (k : ℕ) (t : TurnExpr) → slice_get old k ≡ Some t → slice_get new k ≡ Some t
  pub few : made_count new ≤ made_count old + most

-- an argument and a qubit that are there or not
abbrev pub worth_where : Bool → ℤ → Option ℤ
worth_where true z = Some z
worth_where false z = None

abbrev pub qubit_where : Bool → QubitId → QubitId
qubit_where true qubit = qubit
qubit_where false qubit = record { 0 = 0 }

-- What a walk leaves that gives these members: the turns that were there keep their places, the members name turns that are
-- there, and what was paid is enough for the turns that were made and for 4 more for each member.
pub record Grows (old new : Work) (members : List Member) : Type 0 where
  pub more : length old.turns.items.items ≤ length new.turns.items.items
  pub kept : (k : ℕ) (t : TurnExpr) → slice_get old.turns.items.items k ≡ Some t → slice_get new.turns.items.items k ≡ Some t
  pub named : AreNamed (length new.turns.items.items) members
  pub few : made_count new.turns.items.items + 4 * (new.budget.left + length members) ≤ made_count old.turns.items.items + 4 * old.budget.left
