-- The size of bodies: of one behind another, and of those that neither branch nor jump.
use Rattle.std.proofs.Common.{◌≡◌, ℕ, suc, ◌+◌, ◌≤◌, Bool, true, false, List, [], ◌∷◌, length, map, refl, ap, ◌∙◌, arith}
use Rattle.std.specs.Prelude.{◌&&◌}
use Rattle.qq_base.specs.declared.run.QubitId.{QubitId}
use Rattle.core_ir.specs.Tree.{Expr}
use Rattle.core_ir.specs.Ways.{Falls}
use Rattle.gate_lists.specs.declared.expansion.LeafCall.{LeafCall}
use Rattle.gate_lists.specs.declared.expansion.TurnExpr.{TurnExpr}
use Rattle.source_core.specs.Core.{Again, Body, no_core, a_core, joined, only_core, body_of_all, assigned}
use Rattle.source_core.specs.Parts.{measured_into, measured_only, resets_of}
use Rattle.source_core.specs.Gates.{Listed, turns_stored, gate_by, listed_body}
use Rattle.core_sizes.specs.Size.{core_reaches, body_reaches, body_knots, body_calls, HasLevels}

-- ---- one body behind another

pub joined_knots : (a b : Body) → body_knots (joined a b) ≡ body_knots a + body_knots b
joined_knots no_core b = omega arith
joined_knots (a_core c rest) b = omega (arith, joined_knots rest b)

pub joined_calls : (a b : Body) → body_calls (joined a b) ≡ body_calls a + body_calls b
joined_calls no_core b = omega arith
joined_calls (a_core c rest) b = omega (arith, joined_calls rest b)

pub joined_levels : (a b : Body) (ends starts : ℕ) → HasLevels a ends starts → HasLevels b ends starts → HasLevels (joined a b) ends starts
joined_levels no_core b ends starts h k = k
joined_levels (a_core c rest) b ends starts h k = (h.0, joined_levels rest b ends starts h.1 k)

-- a body that ends with a way back never reaches its end
pub never_falls : (a : Body) → body_reaches (joined a (only_core (Again 0))) Falls ≡ false
never_falls no_core = refl
never_falls (a_core c rest) = ap (λ b. core_reaches c Falls && b) (never_falls rest) ∙ and_false (core_reaches c Falls)
  where
    and_false : (b : Bool) → (b && false) ≡ false
    and_false true = refl
    and_false false = refl

-- ---- bodies without branches and jumps, with at most so many calls

pub record Plain (n : ℕ) (body : Body) : Type 0 where
  pub knots : body_knots body ≡ 0
  pub calls : body_calls body ≤ n
  pub levels : (ends starts : ℕ) → HasLevels body ends starts

pub plain_none : Plain 0 no_core
plain_none = record { knots = refl; calls = omega arith; levels = λ ends starts. tt }

pub plain_assigned : (pairs : List (ℕ × Expr)) → Plain 0 (assigned pairs)
plain_assigned [] = plain_none
plain_assigned (p ∷ pairs) = record { knots = refl; calls = omega arith; levels = λ ends starts. (tt, tt) }

pub plain_joined : {n k : ℕ} {a b : Body} → Plain n a → Plain k b → Plain (n + k) (joined a b)
plain_joined {a = a} {b = b} h l = record {
  knots = omega (arith, joined_knots a b, h.knots, l.knots);
  calls = omega (arith, joined_calls a b, h.calls, l.calls);
  levels = λ ends starts. joined_levels a b ends starts (h.levels ends starts) (l.levels ends starts);
}

pub plain_measured_into : (qs : List QubitId) (cs : List ℕ) → Plain (length qs) (measured_into qs cs)
plain_measured_into [] cs = plain_none
plain_measured_into (q ∷ qs) [] = record { knots = refl; calls = omega arith; levels = λ ends starts. tt }
plain_measured_into (q ∷ qs) (c ∷ cs) =
    let rest = plain_measured_into qs cs in
    record { knots = omega (arith, rest.knots); calls = omega (arith, rest.calls); levels = λ ends starts. (tt, rest.levels ends starts) }

pub plain_measured_only : (qs : List QubitId) → Plain (length qs) (measured_only qs)
plain_measured_only [] = plain_none
plain_measured_only (q ∷ qs) =
    let rest = plain_measured_only qs in
    record { knots = omega (arith, rest.knots); calls = omega (arith, rest.calls); levels = λ ends starts. (tt, rest.levels ends starts) }

pub plain_resets : (qs : List QubitId) → Plain (length qs) (resets_of qs)
plain_resets [] = plain_none
plain_resets (q ∷ qs) =
    let rest = plain_resets qs in
    record { knots = omega (arith, rest.knots); calls = omega (arith, rest.calls); levels = λ ends starts. (tt, rest.levels ends starts) }

-- ---- the list of a gate call

plain_turns : (given : List Expr) (c at : ℕ) (turns : List TurnExpr) → Plain 0 (turns_stored given c at turns)
plain_turns given c at [] = plain_none
plain_turns given c at (t ∷ turns) =
    let rest = plain_turns given c (suc at) turns in
    record { knots = omega (arith, rest.knots); calls = omega (arith, rest.calls); levels = λ ends starts. (tt, rest.levels ends starts) }

plain_gates : (c : ℕ) (calls : List LeafCall) → Plain (length calls) (body_of_all (map (gate_by c) calls))
plain_gates c [] = plain_none
plain_gates c (gate_call ∷ calls) =
    let rest = plain_gates c calls in
    record { knots = omega (arith, rest.knots); calls = omega (arith, rest.calls); levels = λ ends starts. (tt, rest.levels ends starts) }

pub plain_listed : (given : List Expr) (c : ℕ) (list : Listed) → Plain (length list.calls) (listed_body given c list)
plain_listed given c list =
    let all = plain_joined (plain_turns given c c list.turns) (plain_joined (plain_gates c list.calls) (plain_assigned _)) in
    record { knots = all.knots; calls = omega (arith, all.calls); levels = all.levels }
