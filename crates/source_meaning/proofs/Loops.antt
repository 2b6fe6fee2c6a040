-- What more turns and further outcomes do to loops and measurements. A turn is spent at a time, so a bound that is at least the turns
-- that are left does not show.
use Rattle.std.proofs.Common.{◌≡◌, ℕ, zero, suc, ◌+◌, ◌≤◌, Bool, true, false, List, [], ◌∷◌, ◌++◌, ℤ, refl, sym, subst, arith}
use Rattle.qq_base.specs.declared.refusal.Span.{Span}
use Rattle.qq_base.specs.declared.run.QubitId.{QubitId}
use Rattle.qq_base.specs.declared.run.Event.TheVariants as event
use Rattle.qasm_ast.specs.Tree.{Tree, Name}
use Rattle.qasm_types.specs.Values.{Value}
use Rattle.const_eval.specs.Things.{Thing}
use Rattle.const_eval.specs.Values.{Frames, test}
use Rattle.source_meaning.specs.Flow.{Next, Runs, flows, looped, with_turn, choose, while_round, again, while_run, with_value, each_turn, each_copy}
use Rattle.source_meaning.specs.Storing.{Purpose, Stores, Returns, finish, measuring}
use Rattle.source_meaning.proofs.Longer.{Extends, Regular, behind_extends, looped_extends, looped_falls, closed_extends, regular_moved, regular_in_scope}

module _ (others : List Bool) (extra : ℕ) where
  -- ---- turns

  one_more : (turns : ℕ) → suc turns + extra ≡ suc (turns + extra)
  one_more turns = omega arith

  turn_extends : (place : Span) (go : Runs) (frames : Frames) (outcomes : List Bool) (turns : ℕ) → Regular others extra go
      → Extends others extra (with_turn place go frames outcomes turns) (with_turn place go frames (outcomes ++ others) (turns + extra))
  turn_extends place go frames outcomes zero r = ((with_turn place go frames (outcomes ++ others) (zero + extra)).events, refl)
  turn_extends place go frames outcomes (suc turns) r =
      subst (λ n. Extends others extra (go frames outcomes turns) (with_turn place go frames (outcomes ++ others) n)) (sym (one_more turns)) (r.extends frames outcomes turns)

  turn_falls : (place : Span) (go : Runs) (frames : Frames) (outcomes : List Bool) (turns : ℕ) → Regular others extra go → (with_turn place go frames outcomes turns).turns ≤ turns
  turn_falls place go frames outcomes zero r = omega arith
  turn_falls place go frames outcomes (suc turns) r = let h : (go frames outcomes turns).turns ≤ turns = r.falls frames outcomes turns in omega (arith, h)

  regular_turn : (place : Span) (go : Runs) → Regular others extra go → Regular others extra (with_turn place go)
  regular_turn place go r = record {
    extends = λ frames outcomes turns. turn_extends place go frames outcomes turns r;
    falls = λ frames outcomes turns. turn_falls place go frames outcomes turns r;
  }

  regular_looped : (part rest : Runs) → Regular others extra part → Regular others extra rest → Regular others extra (λ frames outcomes turns. looped (part frames outcomes turns) rest)
  regular_looped part rest r s = record {
    extends = λ frames outcomes turns. let o = part frames outcomes turns in looped_extends others extra o (part frames (outcomes ++ others) (turns + extra)) rest rest (r.extends frames outcomes turns) (s.extends o.frames o.outcomes o.turns);
    falls = λ frames outcomes turns. let o = part frames outcomes turns in looped_falls others extra o.flow o.frames o.outcomes o.turns o.events rest turns (r.falls frames outcomes turns) (s.falls o.frames o.outcomes o.turns);
  }

  -- ---- `for`

  pub regular_copies : (once : ℤ → Runs) → ((z : ℤ) → Regular others extra (once z)) → (zs : List ℤ) → Regular others extra (each_copy once zs)
  regular_copies once r [] = regular_moved others extra (λ frames. Next) (λ frames. frames)
  regular_copies once r (z ∷ zs) = regular_looped (once z) (each_copy once zs) (r z) (regular_copies once r zs)

  pub regular_turns : (place : Span) (once : ℤ → Runs) → ((z : ℤ) → Regular others extra (once z)) → (zs : List ℤ) → Regular others extra (each_turn place once zs)
  regular_turns place once r [] = regular_moved others extra (λ frames. Next) (λ frames. frames)
  regular_turns place once r (z ∷ zs) = regular_looped (once z) (with_turn place (each_turn place once zs)) (r z) (regular_turn place (each_turn place once zs) (regular_turns place once r zs))

  pub regular_with_value : (name : Name) (thing : ℤ → Thing Value) (body : Runs) → Regular others extra body → (z : ℤ) → Regular others extra (with_value name thing body z)
  regular_with_value name thing body r z = let s = regular_in_scope others extra body r in record {
    extends = λ frames outcomes turns. closed_extends others extra _ _ (s.extends _ outcomes turns);
    falls = λ frames outcomes turns. s.falls _ outcomes turns;
  }

  -- ---- `while`

  module _ (place : Span) (a : Tree) (body : Runs) (r : Regular others extra body) where
    module _ (rest rest' : Runs) (frames : Frames) (outcomes : List Bool) (turns : ℕ)
        (later : (frames : Frames) (outcomes : List Bool) (left : ℕ) → left ≤ turns → Extends others extra (rest frames outcomes left) (rest' frames (outcomes ++ others) (left + extra))) where
      round_at : (holds : Bool) → Extends others extra (choose holds (λ fr os n. looped (body fr os n) rest) (flows Next) frames outcomes turns)
          (choose holds (λ fr os n. looped (body fr os n) rest') (flows Next) frames (outcomes ++ others) (turns + extra))
      round_at true = let o = body frames outcomes turns in
          looped_extends others extra o (body frames (outcomes ++ others) (turns + extra)) rest rest' (r.extends frames outcomes turns) (later o.frames o.outcomes o.turns (r.falls frames outcomes turns))
      round_at false = refl

    round_falls : (rest : Runs) (frames : Frames) (outcomes : List Bool) (turns : ℕ) → ((frames : Frames) (outcomes : List Bool) (left : ℕ) → (rest frames outcomes left).turns ≤ left)
        → (holds : Bool) → (choose holds (λ fr os n. looped (body fr os n) rest) (flows Next) frames outcomes turns).turns ≤ turns
    round_falls rest frames outcomes turns later true = let o = body frames outcomes turns in
        looped_falls others extra o.flow o.frames o.outcomes o.turns o.events rest turns (r.falls frames outcomes turns) (later o.frames o.outcomes o.turns)
    round_falls rest frames outcomes turns later false = omega arith

    again_falls : (bound : ℕ) (frames : Frames) (outcomes : List Bool) (turns : ℕ) → (again place a body bound frames outcomes turns).turns ≤ turns
    again_falls zero frames outcomes turns = omega arith
    again_falls (suc bound) frames outcomes zero = omega arith
    again_falls (suc bound) frames outcomes (suc turns) =
        let h : (while_round a body (again place a body bound) frames outcomes turns).turns ≤ turns = round_falls (again place a body bound) frames outcomes turns (again_falls bound) (test frames a) in
        omega (arith, h)

    -- a bound for the turns that are left, and one for those with more
    again_extends : (bound bound' : ℕ) (frames : Frames) (outcomes : List Bool) (turns : ℕ) → turns ≤ bound → turns + extra ≤ bound'
        → Extends others extra (again place a body bound frames outcomes turns) (again place a body bound' frames (outcomes ++ others) (turns + extra))
    again_extends zero bound' frames outcomes turns few more = ((again place a body bound' frames (outcomes ++ others) (turns + extra)).events, refl)
    again_extends (suc bound) bound' frames outcomes zero few more = ((again place a body bound' frames (outcomes ++ others) (zero + extra)).events, refl)
    again_extends (suc bound) zero frames outcomes (suc turns) few more = absurd (omega (arith, more))
    again_extends (suc bound) (suc bound') frames outcomes (suc turns) few more =
        subst (λ n. Extends others extra (while_round a body (again place a body bound) frames outcomes turns) (with_turn place (while_round a body (again place a body bound')) frames (outcomes ++ others) n)) (sym (one_more turns))
        (round_at (again place a body bound) (again place a body bound') frames outcomes turns
        (λ fr os left fewer. again_extends bound bound' fr os left (omega (arith, few, fewer)) (omega (arith, more, fewer)))
        (test frames a))

    pub regular_while : Regular others extra (while_run place a body)
    regular_while = record {
      extends = λ frames outcomes turns. round_at (again place a body turns) (again place a body (turns + extra)) frames outcomes turns
          (λ fr os left fewer. again_extends turns (turns + extra) fr os left fewer (omega (arith, fewer))) (test frames a);
      falls = λ frames outcomes turns. round_falls (again place a body turns) frames outcomes turns (again_falls turns) (test frames a);
    }

  -- ---- measurements

  finish_extends : (purpose : Purpose) (bits : List Bool) (frames : Frames) (outcomes : List Bool) (turns : ℕ)
      → Extends others extra (finish purpose bits frames outcomes turns) (finish purpose bits frames (outcomes ++ others) (turns + extra))
  finish_extends (Stores into) bits frames outcomes turns = refl
  finish_extends (Returns single) bits frames outcomes turns = refl

  finish_falls : (purpose : Purpose) (bits : List Bool) (frames : Frames) (outcomes : List Bool) (turns : ℕ) → (finish purpose bits frames outcomes turns).turns ≤ turns
  finish_falls (Stores into) bits frames outcomes turns = omega arith
  finish_falls (Returns single) bits frames outcomes turns = omega arith

  pub measuring_extends : (place : Span) (qs : List QubitId) (taken : List Bool) (purpose : Purpose) (frames : Frames) (outcomes : List Bool) (turns : ℕ)
      → Extends others extra (measuring place qs taken purpose frames outcomes turns) (measuring place qs taken purpose frames (outcomes ++ others) (turns + extra))
  measuring_extends place [] taken purpose frames outcomes turns = finish_extends purpose taken frames outcomes turns
  measuring_extends place (q ∷ qs) taken purpose frames [] turns = ((measuring place (q ∷ qs) taken purpose frames ([] ++ others) (turns + extra)).events, refl)
  measuring_extends place (q ∷ qs) taken purpose frames (b ∷ outcomes) turns =
      behind_extends others extra (event.Measure q b ∷ []) _ _ (measuring_extends place qs (taken ++ b ∷ []) purpose frames outcomes turns)

  pub measuring_falls : (place : Span) (qs : List QubitId) (taken : List Bool) (purpose : Purpose) (frames : Frames) (outcomes : List Bool) (turns : ℕ)
      → (measuring place qs taken purpose frames outcomes turns).turns ≤ turns
  measuring_falls place [] taken purpose frames outcomes turns = finish_falls purpose taken frames outcomes turns
  measuring_falls place (q ∷ qs) taken purpose frames [] turns = omega arith
  measuring_falls place (q ∷ qs) taken purpose frames (b ∷ outcomes) turns = measuring_falls place qs (taken ++ b ∷ []) purpose frames outcomes turns
