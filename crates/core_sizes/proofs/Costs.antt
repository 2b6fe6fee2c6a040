-- What parts of the elaboration make, in the units of the walk: for each joint four knots may stand, and for each site one call. A part
-- may make more where credit is left in front of it, and leave credit for what stands behind it.
use Rattle.std.proofs.Common.{◌≡◌, ℕ, ◌+◌, ◌*◌, ◌≤◌, Bool, true, false, refl, arith}
use Rattle.std.specs.Prelude.{nat_le, Result, Ok, Err}
use Rattle.qq_base.specs.declared.refusal.Refusal.{Refusal}
use Rattle.qq_base.specs.declared.refusal.Span.{Span}
use Rattle.qq_base.specs.declared.rule.Rule.{Rule}
use Rattle.qq_base.specs.declared.rule.Rule.TheVariants.{TooManyJoints}
use Rattle.scope_env.specs.OpenScopes.{OpenScopes}
use Rattle.const_eval.specs.Refusing.{where_allowed, go_on}
use Rattle.const_eval.specs.Walk.{Walk, behind, within_budget}
use Rattle.const_eval.specs.Things.{Known}
use Rattle.source_meaning.specs.Walked.{Walked, Walks, with_sum, most_cost, most_joints}
use Rattle.source_meaning.specs.Walked as walk
use Rattle.source_meaning.specs.Source.{walk_end_of_text}
use Rattle.source_core.specs.Core.{Body}
use Rattle.source_core.specs.Cells.{Held}
use Rattle.source_core.specs.Made.{Work, walked_of, Made, Makes, after, made_behind, where_right, either, looking, gives, refuses, changes, wrapped, emits, by_walk, with_sums}
use Rattle.core_sizes.specs.Size.{body_knots, body_calls, HasLevels}
use Rattle.core_sizes.proofs.Bodies.{joined_knots, joined_calls, joined_levels, Plain}

-- what an answer that is no refusal has
abbrev pub Has : {A : Type 0} → (A → Type 0) → Result A Refusal → Type 0
Has P (Ok a) = P a
Has P (Err e) = Unit {0}

-- so many knots and calls
pub record Credit : Type 0 where
  pub knots : ℕ
  pub calls : ℕ

abbrev pub none : Credit
none = record { knots = 0; calls = 0 }

abbrev pub for_knots : ℕ → Credit
for_knots n = record { knots = n; calls = 0 }

abbrev pub for_calls : ℕ → Credit
for_calls n = record { knots = 0; calls = n }

abbrev pub both : Credit → Credit → Credit
both c d = record { knots = c.knots + d.knots; calls = c.calls + d.calls }

-- ---- parts of the walk

pub record Counted (before after : Credit) (w v : Walked) : Type 0 where
  pub knots : after.knots + 4 * w.joints ≤ 4 * v.joints + before.knots
  pub calls : after.calls + w.sites ≤ v.sites + before.calls

-- what it counts is left as credit
pub record Counts {A : Type 0} (part : Walks A) (left : A → Credit) : Type 0 where
  pub by : (w : Walked) → Has (λ r. Counted none (left r.0) w r.1) (part w)

abbrev pub nothing_left : {A : Type 0} → A → Credit
nothing_left a = none

pub counts_gives : {A : Type 0} (a : A) → Counts (walk.gives a) nothing_left
counts_gives a = record { by = λ w. record { knots = omega arith; calls = omega arith } }

pub counts_charged : {A : Type 0} (statement : Span) (part : Walk A) → Counts (walk.charged statement part) nothing_left
counts_charged {A} statement part = record { by = λ w. at w (within_budget most_cost statement (behind w.cost part)) }
  where
    at : (w : Walked) (r : Result (A × ℕ) Refusal) → Has (λ r. Counted none none w r.1) (go_on r (with_sum w))
    at w (Ok a) = record { knots = omega arith; calls = omega arith }
    at w (Err e) = tt

pub counts_walks : {A : Type 0} (statement : Span) (part : OpenScopes Known → Walk A) → Counts (walk.walks statement part) nothing_left
counts_walks statement part = record { by = λ w. (counts_charged statement (part w.scopes)).by w }

pub counts_looking : {A : Type 0} {part : OpenScopes Known → Walks A} {left : A → Credit} → ((s : OpenScopes Known) → Counts (part s) left) → Counts (walk.looking part) left
counts_looking h = record { by = λ w. (h w.scopes).by w }

pub counts_after : {A B : Type 0} {part : Walks A} {next : A → Walks B} {left : B → Credit} → Counts part nothing_left → ((a : A) → Counts (next a) left) → Counts (walk.after part next) left
counts_after {A} {B} {part} {next} {left} h then = record { by = λ w. at w (part w) (h.by w) }
  where
    behind_it : (w v : Walked) (r : Result (B × Walked) Refusal) → Counted none none w v → Has (λ r. Counted none (left r.0) v r.1) r → Has (λ r. Counted none (left r.0) w r.1) r
    behind_it w v (Ok r) c d = record { knots = omega (arith, c.knots, d.knots); calls = omega (arith, c.calls, d.calls) }
    behind_it w v (Err e) c d = tt

    at : (w : Walked) (r : Result (A × Walked) Refusal) → Has (λ r. Counted none none w r.1) r → Has (λ r. Counted none (left r.0) w r.1) (go_on r (λ s. next s.0 s.1))
    at w (Ok r) c = behind_it w r.1 (next r.0 r.1) c ((then r.0).by r.1)
    at w (Err e) c = tt

pub counts_where : {A : Type 0} (allowed : Bool) (rule : Rule) (place : Span) {part : Walks A} {left : A → Credit} → Counts part left → Counts (walk.where_right allowed rule place part) left
counts_where true rule place h = record { by = h.by }
counts_where false rule place h = record { by = λ w. tt }

pub counts_scopes : (f : OpenScopes Known → OpenScopes Known) → Counts (walk.in_scopes f) nothing_left
counts_scopes f = record { by = λ w. record { knots = omega arith; calls = omega arith } }

pub counts_wires : (n : ℕ) → Counts (walk.use_wires n) nothing_left
counts_wires n = record { by = λ w. record { knots = omega arith; calls = omega arith } }

pub counts_sites : (n : ℕ) → Counts (walk.count_sites n) (λ _. for_calls n)
counts_sites n = record { by = λ w. record { knots = omega arith; calls = omega arith } }

pub counts_spend : (statement : Span) (n : ℕ) → Counts (walk.spend statement n) nothing_left
counts_spend statement n = record { by = λ w. (counts_charged statement _).by w }

pub counts_cells : (statement : Span) → Counts (walk.spend_cells statement) nothing_left
counts_cells statement = record { by = λ w. (counts_spend statement _).by w }

pub counts_end : (place : Span) → Counts (walk_end_of_text place) nothing_left
counts_end place = record { by = λ w. (counts_spend place _).by w }

counts_join : (statement : Span) → Counts (walk.join statement) (λ _. for_knots 4)
counts_join statement = record { by = λ w. at w (nat_le (w.joints + 1) most_joints) }
  where
    at : (w : Walked) (b : Bool) → Has (λ (r : Unit {0} × Walked). Counted none (for_knots 4) w r.1) (where_allowed b TooManyJoints statement (Ok (tt {0}, record w { joints = w.joints + 1 })))
    at w true = record { knots = omega arith; calls = omega arith }
    at w false = tt

pub counts_joint : (statement : Span) → Counts (walk.spend_joint statement) (λ _. for_knots 4)
counts_joint statement = counts_after (counts_cells statement) (λ _. counts_join statement)

-- ---- parts of the elaboration

pub record Paid (ends starts : ℕ) (before after : Credit) (w : Work) (body : Body) (v : Work) : Type 0 where
  pub knots : body_knots body + after.knots + 4 * w.joints ≤ 4 * v.joints + before.knots
  pub calls : body_calls body + after.calls + w.sites ≤ v.sites + before.calls
  pub levels : HasLevels body ends starts

-- with so many enclosing blocks and loops, and so many enclosing loops
pub record Pays {A : Type 0} (ends starts : ℕ) (before : Credit) (part : Makes A) (left : A → Credit) : Type 0 where
  pub by : (w : Work) → Has (λ m. Paid ends starts before (left m.given) w m.body m.work) (part w)

-- from no credit to none
abbrev pub Free : {A : Type 0} → ℕ → ℕ → Makes A → Type 0
Free ends starts part = Pays ends starts none part nothing_left

-- from one credit to another by way of two parts
pub record Fits (before first_before first_left second_before second_left left : Credit) : Type 0 where
  pub knots : first_before.knots + second_before.knots + left.knots ≤ before.knots + first_left.knots + second_left.knots
  pub calls : first_before.calls + second_before.calls + left.calls ≤ before.calls + first_left.calls + second_left.calls

pub after_with : {A B : Type 0} {ends starts : ℕ} {before first_before : Credit} {first_left second_before : A → Credit} {second_left left : B → Credit} {part : Makes A} {next : A → Makes B}
    → ((a : A) (b : B) → Fits before first_before (first_left a) (second_before a) (second_left b) (left b))
    → Pays ends starts first_before part first_left → ((a : A) → Pays ends starts (second_before a) (next a) second_left) → Pays ends starts before (after part next) left
after_with {A} {B} {ends} {starts} {before} {first_before} {first_left} {second_before} {second_left} {left} {part} {next} fits h then = record { by = λ w. at w (part w) (h.by w) }
  where
    behind_it : (w : Work) (m : Made A) (r : Result (Made B) Refusal) → Paid ends starts first_before (first_left m.given) w m.body m.work
        → Has (λ n. Paid ends starts (second_before m.given) (second_left n.given) m.work n.body n.work) r
        → Has (λ n. Paid ends starts before (left n.given) w n.body n.work) (go_on r (made_behind m.body))
    behind_it w m (Err e) h k = tt
    behind_it w m (Ok n) h k =
        let f = fits m.given n.given in
        record {
          knots = omega (arith, joined_knots m.body n.body, h.knots, k.knots, f.knots);
          calls = omega (arith, joined_calls m.body n.body, h.calls, k.calls, f.calls);
          levels = joined_levels m.body n.body ends starts h.levels k.levels;
        }

    at : (w : Work) (r : Result (Made A) Refusal) → Has (λ m. Paid ends starts first_before (first_left m.given) w m.body m.work) r
        → Has (λ m. Paid ends starts before (left m.given) w m.body m.work) (go_on r (λ m. go_on (next m.given m.work) (made_behind m.body)))
    at w (Ok m) h = behind_it w m (next m.given m.work) h ((then m.given).by m.work)
    at w (Err e) h = tt

-- the credit that a part leaves is there for the next one
pub after_pays : {A B : Type 0} {ends starts : ℕ} {before : Credit} {middle : A → Credit} {left : B → Credit} {part : Makes A} {next : A → Makes B}
    → Pays ends starts before part middle → ((a : A) → Pays ends starts (middle a) (next a) left) → Pays ends starts before (after part next) left
after_pays h then = after_with (λ a b. record { knots = omega arith; calls = omega arith }) h then

-- a part that needs none leaves what there is
pub free_then : {A B : Type 0} {ends starts : ℕ} {before : Credit} {left : B → Credit} {part : Makes A} {next : A → Makes B}
    → Free ends starts part → ((a : A) → Pays ends starts before (next a) left) → Pays ends starts before (after part next) left
free_then h then = after_with (λ a b. record { knots = omega arith; calls = omega arith }) h then

pub then_free : {A B : Type 0} {ends starts : ℕ} {before : Credit} {part : Makes A} {next : A → Makes B} (left : Credit)
    → Pays ends starts before part (λ _. left) → ((a : A) → Free ends starts (next a)) → Pays ends starts before (after part next) (λ _. left)
then_free left h then = after_with (λ a b. record { knots = omega arith; calls = omega arith }) h then

-- there may be more credit, and less be left
pub weaker : {A : Type 0} {ends starts : ℕ} {part : Makes A} (before before' left left' : Credit) → Fits before' before left none none left' → Pays ends starts before part (λ _. left) → Pays ends starts before' part (λ _. left')
weaker {A} {ends} {starts} {part} before before' left left' fits h = record { by = λ w. at w (part w) (h.by w) }
  where
    at : (w : Work) (r : Result (Made A) Refusal) → Has (λ m. Paid ends starts before left w m.body m.work) r → Has (λ m. Paid ends starts before' left' w m.body m.work) r
    at w (Ok m) h = record { knots = omega (arith, fits.knots, h.knots); calls = omega (arith, fits.calls, h.calls); levels = h.levels }
    at w (Err e) h = tt

pub gives_pays : {A : Type 0} {ends starts : ℕ} (credit : Credit) (a : A) → Pays ends starts credit (gives a) (λ _. credit)
gives_pays credit a = record { by = λ w. record { knots = omega arith; calls = omega arith; levels = tt } }

pub free_gives : {A : Type 0} {ends starts : ℕ} (a : A) → Free ends starts (gives a)
free_gives a = gives_pays none a

pub free_refuses : {A : Type 0} {ends starts : ℕ} (rule : Rule) (place : Span) → Free {A = A} ends starts (refuses rule place)
free_refuses rule place = record { by = λ w. tt }

pub where_pays : {A : Type 0} {ends starts : ℕ} {before : Credit} {left : A → Credit} {part : Makes A} (allowed : Bool) (rule : Rule) (place : Span) → (allowed ≡ true → Pays ends starts before part left) → Pays ends starts before (where_right allowed rule place part) left
where_pays true rule place h = record { by = (h refl).by }
where_pays false rule place h = record { by = λ w. tt }

pub either_pays : {A : Type 0} {ends starts : ℕ} {before : Credit} {left : A → Credit} {first second : Makes A} (is_first : Bool) → Pays ends starts before first left → Pays ends starts before second left → Pays ends starts before (either is_first first second) left
either_pays true h k = record { by = h.by }
either_pays false h k = record { by = k.by }

pub looking_pays : {A : Type 0} {ends starts : ℕ} {before : Credit} {left : A → Credit} {part : OpenScopes Held → Makes A} → ((s : OpenScopes Held) → Pays ends starts before (part s) left) → Pays ends starts before (looking part) left
looking_pays h = record { by = λ w. (h w.scopes).by w }

pub changes_pays : {ends starts : ℕ} (f : Work → Work) → ((w : Work) → (f w).joints ≡ w.joints) → ((w : Work) → (f w).sites ≡ w.sites) → Free ends starts (changes f)
changes_pays f joints sites = record { by = λ w. record { knots = omega (arith, joints w); calls = omega (arith, sites w); levels = tt } }

pub emits_pays : {n ends starts : ℕ} {body : Body} → Plain n body → Pays ends starts (for_calls n) (emits body) nothing_left
emits_pays {n} {ends} {starts} {body} plain = record { by = λ w. record { knots = omega (arith, plain.knots); calls = omega (arith, plain.calls); levels = plain.levels ends starts } }

-- what stands within another body, with credit for it from in front or from within
pub record Wraps (n ends starts inner_ends inner_starts : ℕ) (f : Body → Body) : Type 0 where
  pub knots : (body : Body) → body_knots (f body) ≤ n + body_knots body
  pub calls : (body : Body) → body_calls (f body) ≡ body_calls body
  pub levels : (body : Body) → HasLevels body inner_ends inner_starts → HasLevels (f body) ends starts

pub wrapped_pays : {A : Type 0} {n ends starts inner_ends inner_starts : ℕ} {part : Makes A} (before left : ℕ) (f : Body → Body)
    → n ≤ before + left → Wraps n ends starts inner_ends inner_starts f → Pays inner_ends inner_starts none part (λ _. for_knots left) → Pays ends starts (for_knots before) (wrapped f part) nothing_left
wrapped_pays {A} {n} {ends} {starts} {inner_ends} {inner_starts} {part} before left f enough wraps h = record { by = λ w. at w (part w) (h.by w) }
  where
    at : (w : Work) (r : Result (Made A) Refusal) → Has (λ m. Paid inner_ends inner_starts none (for_knots left) w m.body m.work) r
        → Has {A = Made A} (λ m. Paid ends starts (for_knots before) none w m.body m.work) (go_on r (λ m. Ok (record { given = m.given; body = f m.body; work = m.work })))
    at w (Ok m) h = record { knots = omega (arith, enough, wraps.knots m.body, h.knots); calls = omega (arith, wraps.calls m.body, h.calls); levels = wraps.levels m.body h.levels }
    at w (Err e) h = tt

pub by_walk_pays : {A : Type 0} {ends starts : ℕ} {part : Walks A} {left : A → Credit} → Counts part left → Pays ends starts none (by_walk part) left
by_walk_pays {A} {ends} {starts} {part} {left} h = record { by = λ w. at w (part (walked_of w)) (h.by (walked_of w)) }
  where
    at : (w : Work) (r : Result (A × Walked) Refusal) → Has (λ r. Counted none (left r.0) (walked_of w) r.1) r → Has (λ m. Paid ends starts none (left m.given) w m.body m.work) (go_on r (with_sums w))
    at w (Ok r) c = record { knots = omega (arith, c.knots); calls = omega (arith, c.calls); levels = tt }
    at w (Err e) c = tt
