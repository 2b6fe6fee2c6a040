-- The state of a walk over a program, and the parts that a walk is put together from. A walk goes through the text in
-- order; it stops at the first rule that is broken, and carries with it what is declared and what the program costs so far.
--
-- What declares nothing, as an expression, an operand or a range, is walked by `Walk` of `const_eval`, over what names mean where
-- the walk stands; `charged` adds its cost to the sum, at the place of the statement.
use Rattle.std.specs.Prelude.{ℕ, ◌+◌, max, nat_le, Bool, true, false, List, [], Result, Ok}
use Rattle.qq_base.specs.declared.refusal.Refusal.{Refusal}
use Rattle.qq_base.specs.declared.refusal.Span.{Span}
use Rattle.qq_base.specs.declared.rule.Rule.{Rule}
use Rattle.qq_base.specs.declared.rule.Rule.TheVariants.{TooManyJoints}
use Rattle.scope_env.specs.OpenScopes.{OpenScopes, Opened, close}
use Rattle.const_eval.specs.Refusing.{refused, where_allowed, go_on}
use Rattle.const_eval.specs.Walk.{Walk, done, behind, within_budget}
use Rattle.const_eval.specs.Things.{Known, cells_in_scope, declared_qubits}
use Rattle.source_meaning.specs.Library.{predefined}

-- how far a walk has come
pub record Walked : Type 0 where
  pub scopes : OpenScopes Known
  -- as many qubits as the `$n` that are used so far need: the greatest n and 1
  pub wires : ℕ
  -- the names that `output` declares, in order
  pub outputs : List (List ℕ)
  -- what the program costs so far, and its joints: the joins of ways that its blocks will have
  pub cost : ℕ
  pub joints : ℕ
  -- the gates, resets and measured qubits so far
  pub sites : ℕ
  -- the `end` statements walked so far
  pub ends : ℕ

-- before the first statement
abbrev pub at_start : Walked
at_start = record { scopes = predefined; wires = 0; outputs = []; cost = 0; joints = 0; sites = 0; ends = 0 }

-- the number of qubits: those that are declared, or those that `$n` are used of, since a program uses one of the two kinds
abbrev pub qubits_so_far : Walked → ℕ
qubits_so_far w = max (declared_qubits w.scopes) w.wires

-- ---- the limits

abbrev pub most_cost : ℕ
most_cost = 250000

abbrev pub most_joints : ℕ
most_joints = 4000

-- ---- parts of a walk

-- a part of a walk gives something, or refuses
abbrev pub Walks : Type 0 → Type 0
Walks A = Walked → Result (A × Walked) Refusal

abbrev pub gives : {A : Type 0} → A → Walks A
gives a w = Ok (a, w)

abbrev pub refuses : {A : Type 0} → Rule → Span → Walks A
refuses rule place w = refused rule place

-- one part after another, which takes what the first one gives
abbrev pub after : {A B : Type 0} → Walks A → (A → Walks B) → Walks B
after part next w = go_on (part w) (λ s. next s.0 s.1)

-- a part where something is allowed, and else the refusal
abbrev pub where_right : {A : Type 0} → Bool → Rule → Span → Walks A → Walks A
where_right allowed rule place part w = elim allowed [ true ↦ part w | false ↦ refused rule place ]

-- one of two parts
abbrev pub either : {A : Type 0} → Bool → Walks A → Walks A → Walks A
either is_first first second w = elim is_first [ true ↦ first w | false ↦ second w ]

-- a part that looks at the open scopes
abbrev pub looking : {A : Type 0} → (OpenScopes Known → Walks A) → Walks A
looking part w = part w.scopes w

abbrev pub changes : (Walked → Walked) → Walks (Unit {0})
changes f w = Ok (tt, f w)

-- ---- sums

-- what a walk has come to, with what it cost
abbrev pub with_sum : {A : Type 0} → Walked → A × ℕ → Result (A × Walked) Refusal
with_sum w r = Ok (r.0, record w { cost = r.1 })

-- the walk of a part of the statement at this place, which stops where the sum with what the program costs so far passes the limit
abbrev pub charged : {A : Type 0} → Span → Walk A → Walks A
charged statement walk w = go_on (within_budget most_cost statement (behind w.cost walk)) (with_sum w)

-- the same over the open scopes
abbrev pub walks : {A : Type 0} → Span → (OpenScopes Known → Walk A) → Walks A
walks statement walk = looking (λ scopes. charged statement (walk scopes))

-- the statement at this place costs so much more
abbrev pub spend : Span → ℕ → Walks (Unit {0})
spend statement n = charged statement (behind n (done tt))

-- and has one joint more
abbrev pub join : Span → Walks (Unit {0})
join statement w = where_allowed (nat_le (w.joints + 1) most_joints) TooManyJoints statement (Ok (tt, record w { joints = w.joints + 1 }))

-- 1 and the cells in scope
abbrev pub spend_cells : Span → Walks (Unit {0})
spend_cells statement = looking (λ scopes. spend statement (1 + cells_in_scope scopes))

-- the same and a joint, in one step
abbrev pub spend_joint : Span → Walks (Unit {0})
spend_joint statement = after (spend_cells statement) (λ _. join statement)

-- so many gates, resets or measured qubits
abbrev pub count_sites : ℕ → Walks (Unit {0})
count_sites n = changes (λ w. record w { sites = w.sites + n })

-- `$n` that need so many qubits are used
abbrev pub use_wires : ℕ → Walks (Unit {0})
use_wires n = changes (λ w. record w { wires = max w.wires n })

-- ---- scopes

abbrev pub in_scopes : (OpenScopes Known → OpenScopes Known) → Walks (Unit {0})
in_scopes f = changes (λ w. record w { scopes = f w.scopes })

-- a part in a scope of its own
abbrev pub in_scope : {A : Type 0} → Walks A → Walks A
in_scope part = after (in_scopes Opened) (λ _. after part (λ a. after (in_scopes close) (λ _. gives a)))
