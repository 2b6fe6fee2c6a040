-- The state of the elaboration, and the parts that it is put together from, under the names of those of the walk. A part gives
-- something and makes statements of the core; it refuses what the walk refuses.
use Rattle.std.specs.Prelude.{ℕ, Bool, true, false, List, [], ◌++◌, length, replicate, Result, Ok}
use Rattle.qq_base.specs.declared.refusal.Refusal.{Refusal}
use Rattle.qq_base.specs.declared.refusal.Span.{Span}
use Rattle.qq_base.specs.declared.rule.Rule.{Rule}
use Rattle.qasm_ast.specs.Tree.{Name}
use Rattle.qasm_types.specs.declared.ty.Ty.{Ty}
use Rattle.qasm_types.specs.Types.{cells_of}
use Rattle.core_ir.specs.declared.expression.CellKind.{CellKind}
use Rattle.scope_env.specs.OpenScopes.{OpenScopes, Opened, Named, close}
use Rattle.const_eval.specs.Refusing.{refused, go_on}
use Rattle.const_eval.specs.Walk.{Walk}
use Rattle.const_eval.specs.Things.{Known, known, map_content, no_content}
use Rattle.cell_exprs.specs.CellValues.{kind_of_type}
use Rattle.source_meaning.specs.Library.{predefined}
use Rattle.source_meaning.specs.Walked.{Walked, Walks}
use Rattle.source_meaning.specs.Walked as walk
use Rattle.source_meaning.specs.Declarations as declarations
use Rattle.source_core.specs.Core.{Core, Body, no_core, joined, only_core, assigned}
use Rattle.source_core.specs.Cells.{Held, zeros_since}

-- how far an elaboration has come: what the walk has, with cells in the scopes, and the kinds of the cells that are taken
pub record Work : Type 0 where
  pub scopes : OpenScopes Held
  pub kinds : List CellKind
  pub wires : ℕ
  pub outputs : List (List ℕ)
  pub cost : ℕ
  pub joints : ℕ
  pub sites : ℕ
  pub ends : ℕ

abbrev pub at_start : Work
at_start = record { scopes = predefined; kinds = []; wires = 0; outputs = []; cost = 0; joints = 0; sites = 0; ends = 0 }

-- the walk that has come as far
abbrev pub walked_of : Work → Walked
walked_of w = record { scopes = known w.scopes; wires = w.wires; outputs = w.outputs; cost = w.cost; joints = w.joints; sites = w.sites; ends = w.ends }

-- ---- parts

pub record Made (A : Type 0) : Type 0 where
  pub given : A
  pub body : Body
  pub work : Work

abbrev pub Makes : Type 0 → Type 0
Makes A = Work → Result (Made A) Refusal

abbrev pub gives : {A : Type 0} → A → Makes A
gives a w = Ok (record { given = a; body = no_core; work = w })

abbrev pub refuses : {A : Type 0} → Rule → Span → Makes A
refuses rule place w = refused rule place

-- what is made behind a body
abbrev pub made_behind : {A : Type 0} → Body → Made A → Result (Made A) Refusal
made_behind body m = Ok (record { given = m.given; body = joined body m.body; work = m.work })

-- one part after another, which takes what the first one gives and is made behind it
abbrev pub after : {A B : Type 0} → Makes A → (A → Makes B) → Makes B
after part next w = go_on (part w) (λ m. go_on (next m.given m.work) (made_behind m.body))

abbrev pub where_right : {A : Type 0} → Bool → Rule → Span → Makes A → Makes A
where_right allowed rule place part w = elim allowed [ true ↦ part w | false ↦ refused rule place ]

abbrev pub either : {A : Type 0} → Bool → Makes A → Makes A → Makes A
either is_first first second w = elim is_first [ true ↦ first w | false ↦ second w ]

abbrev pub looking : {A : Type 0} → (OpenScopes Held → Makes A) → Makes A
looking part w = part w.scopes w

abbrev pub changes : (Work → Work) → Makes (Unit {0})
changes f w = Ok (record { given = tt; body = no_core; work = f w })

-- ---- statements of the core

abbrev pub emits : Body → Makes (Unit {0})
emits body w = Ok (record { given = tt; body = body; work = w })

abbrev pub emit : Core → Makes (Unit {0})
emit c = emits (only_core c)

-- a part whose statements are given and do not stand here
abbrev pub captured : {A : Type 0} → Makes A → Makes (A × Body)
captured part w = go_on (part w) (λ m. Ok (record { given = (m.given, m.body); body = no_core; work = m.work }))

-- a part whose statements stand within another body
abbrev pub wrapped : {A : Type 0} → (Body → Body) → Makes A → Makes A
wrapped f part w = go_on (part w) (λ m. Ok (record { given = m.given; body = f m.body; work = m.work }))

-- ---- parts of the walk

-- a part of the walk that declares nothing, with its sums
abbrev pub with_sums : {A : Type 0} → Work → A × Walked → Result (Made A) Refusal
with_sums w r = Ok (record {
  given = r.0;
  body = no_core;
  work = record { scopes = w.scopes; kinds = w.kinds; wires = (r.1).wires; outputs = (r.1).outputs; cost = (r.1).cost; joints = (r.1).joints; sites = (r.1).sites; ends = (r.1).ends };
})

abbrev pub by_walk : {A : Type 0} → Walks A → Makes A
by_walk part w = go_on (part (walked_of w)) (with_sums w)

abbrev pub charged : {A : Type 0} → Span → Walk A → Makes A
charged statement part = by_walk (walk.charged statement part)

abbrev pub walks : {A : Type 0} → Span → (OpenScopes Known → Walk A) → Makes A
walks statement part = by_walk (walk.walks statement part)

abbrev pub spend : Span → ℕ → Makes (Unit {0})
spend statement n = by_walk (walk.spend statement n)

abbrev pub spend_cells : Span → Makes (Unit {0})
spend_cells statement = by_walk (walk.spend_cells statement)

abbrev pub spend_joint : Span → Makes (Unit {0})
spend_joint statement = by_walk (walk.spend_joint statement)

abbrev pub count_sites : ℕ → Makes (Unit {0})
count_sites n = by_walk (walk.count_sites n)

abbrev pub use_wires : ℕ → Makes (Unit {0})
use_wires n = by_walk (walk.use_wires n)

-- ---- cells

-- the cell that is taken next
abbrev pub next_cell : Makes ℕ
next_cell w = gives (length w.kinds) w

-- so many new cells of a kind; it gives the first of them
abbrev pub take_cells : ℕ → CellKind → Makes ℕ
take_cells n kind =
    after next_cell (λ c.
    after (changes (λ w. record w { kinds = w.kinds ++ replicate n kind })) (λ _.
    gives c))

abbrev pub take_typed : Ty → Makes ℕ
take_typed type = take_cells (cells_of type) (kind_of_type type)

-- the cells of names that were taken since this one was next are put back to zero
abbrev pub put_back : ℕ → Makes (Unit {0})
put_back first = looking (λ scopes. emits (assigned (zeros_since first scopes)))

-- ---- scopes

abbrev pub in_scopes : (OpenScopes Held → OpenScopes Held) → Makes (Unit {0})
in_scopes f = changes (λ w. record w { scopes = f w.scopes })

-- a part in a scope of its own, whose cells are put back at its end
abbrev pub in_scope : {A : Type 0} → Makes A → Makes A
in_scope part =
    after next_cell (λ first.
    after (in_scopes Opened) (λ _.
    after part (λ a.
    after (put_back first) (λ _.
    after (in_scopes close) (λ _.
    gives a)))))

-- a name that is declared, by the rules of the walk
abbrev pub declare : Name → Held → Makes (Unit {0})
declare name thing =
    after (by_walk (declarations.declare name (map_content no_content thing))) (λ _.
    in_scopes (Named name.text thing))
