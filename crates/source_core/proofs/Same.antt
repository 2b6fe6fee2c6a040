-- Parts of the elaboration refuse what parts of the walk refuse, and come to the same sums.
use Rattle.std.proofs.Common.{◌≡◌, ℕ, Bool, true, false, refl, sym, ap, ◌∙◌}
use Rattle.std.specs.Prelude.{Result, Ok, Err}
use Rattle.qq_base.specs.declared.refusal.Refusal.{Refusal}
use Rattle.qq_base.specs.declared.refusal.Span.{Span}
use Rattle.qq_base.specs.declared.rule.Rule.{Rule}
use Rattle.qasm_ast.specs.Tree.{Name}
use Rattle.scope_env.specs.OpenScopes.{OpenScopes, Opened, Named, close}
use Rattle.const_eval.specs.Refusing.{go_on}
use Rattle.const_eval.specs.Things.{Known, known}
use Rattle.source_meaning.specs.Walked.{Walked, Walks}
use Rattle.source_meaning.specs.Walked as walk
use Rattle.source_meaning.specs.Declarations as declarations
use Rattle.source_core.specs.Core.{Body, no_core}
use Rattle.source_core.specs.Cells.{Held}
use Rattle.source_core.specs.Made.{Work, walked_of, Made, Makes, after, made_behind, where_right, either, looking, gives, refuses, captured, wrapped, emits, by_walk, next_cell, put_back, in_scopes, in_scope, declare, with_sums}
use Rattle.source_core.proofs.Known.{known_thing, close_known}
use Rattle.source_core.proofs.Keeps.{mapped, in_these, Keeps, Renames, renames_declare}

-- what is given, and what it has come to without cells
abbrev pub seen : {A B : Type 0} → (A → B) → Made A → B × Walked
seen p m = (p m.given, walked_of m.work)

pub record Same {A B : Type 0} (p : A → B) (make : Makes A) (walked : Walks B) : Type 0 where
  pub by : (w : Work) → walked (walked_of w) ≡ mapped (seen p) (make w)

-- the same is given
abbrev pub as_it_is : {A : Type 0} → A → A
as_it_is a = a

-- what is given has no counterpart
abbrev pub none_of : {A : Type 0} → A → Unit {0}
none_of a = tt

behind_seen : {A B : Type 0} (p : A → B) (body : Body) (r : Result (Made A) Refusal) → mapped (seen p) (go_on r (made_behind body)) ≡ mapped (seen p) r
behind_seen p body (Ok m) = refl
behind_seen p body (Err e) = refl

-- ---- one part after another

pub gives_same : {A B : Type 0} (p : A → B) (a : A) → Same p (gives a) (walk.gives (p a))
gives_same p a = record { by = λ w. refl }

pub given_same : {A : Type 0} (a : A) → Same as_it_is (gives a) (walk.gives a)
given_same a = record { by = λ w. refl }

pub refuses_same : {A B : Type 0} (p : A → B) (rule : Rule) (place : Span) → Same p (refuses rule place) (walk.refuses rule place)
refuses_same p rule place = record { by = λ w. refl }

pub after_same : {A B B' : Type 0} {q : B → B'} {part : Makes A} {next : A → Makes B} {part' : Walks A} {next' : A → Walks B'}
    → Same as_it_is part part' → ((a : A) → Same q (next a) (next' a)) → Same q (after part next) (walk.after part' next')
after_same {A = A} {q = q} {part = part} {next = next} {next' = next'} same then = record { by = λ w. ap (λ r. go_on r (λ s. next' s.0 s.1)) (same.by w) ∙ at (part w) }
  where
    at : (r : Result (Made A) Refusal) → go_on (mapped (seen as_it_is) r) (λ s. next' s.0 s.1) ≡ mapped (seen q) (go_on r (λ m. go_on (next m.given m.work) (made_behind m.body)))
    at (Ok m) = (then m.given).by m.work ∙ sym (behind_seen q m.body (next m.given m.work))
    at (Err e) = refl

-- where the walk is given something else
pub after_given : {A A' B B' : Type 0} (p : A → A') {q : B → B'} {part : Makes A} {next : A → Makes B} {part' : Walks A'} (next' : A' → Walks B')
    → Same p part part' → ((a : A) → Same q (next a) (next' (p a))) → Same q (after part next) (walk.after part' next')
after_given {A = A} p {q = q} {part = part} {next = next} next' same then = record { by = λ w. ap (λ r. go_on r (λ s. next' s.0 s.1)) (same.by w) ∙ at (part w) }
  where
    at : (r : Result (Made A) Refusal) → go_on (mapped (seen p) r) (λ s. next' s.0 s.1) ≡ mapped (seen q) (go_on r (λ m. go_on (next m.given m.work) (made_behind m.body)))
    at (Ok m) = (then m.given).by m.work ∙ sym (behind_seen q m.body (next m.given m.work))
    at (Err e) = refl

pub where_same : {A B : Type 0} {p : A → B} (allowed : Bool) (rule : Rule) (place : Span) {part : Makes A} {part' : Walks B} → Same p part part' → Same p (where_right allowed rule place part) (walk.where_right allowed rule place part')
where_same true rule place same = record { by = same.by }
where_same false rule place same = record { by = λ w. refl }

pub either_same : {A B : Type 0} {p : A → B} (is_first : Bool) {first second : Makes A} {first' second' : Walks B} → Same p first first' → Same p second second' → Same p (either is_first first second) (walk.either is_first first' second')
either_same true same other = record { by = same.by }
either_same false same other = record { by = other.by }

pub looking_same : {A B : Type 0} {p : A → B} {part : OpenScopes Held → Makes A} {walked : Walks B} → ((s : OpenScopes Held) → Same p (part s) walked) → Same p (looking part) walked
looking_same same = record { by = λ w. (same w.scopes).by w }

pub wrapped_same : {A B : Type 0} {p : A → B} (f : Body → Body) {part : Makes A} {walked : Walks B} → Same p part walked → Same p (wrapped f part) walked
wrapped_same {A = A} {p = p} f {part = part} same = record { by = λ w. same.by w ∙ at (part w) }
  where
    at : (r : Result (Made A) Refusal) → mapped (seen p) r ≡ mapped (seen p) (go_on r (λ m. Ok (record { given = m.given; body = f m.body; work = m.work })))
    at (Ok m) = refl
    at (Err e) = refl

abbrev pub without_body : {A : Type 0} → A × Body → A
without_body r = r.0

pub captured_same : {A : Type 0} {part : Makes A} {walked : Walks A} → Same as_it_is part walked → Same without_body (captured part) walked
captured_same {A} {part} same = record { by = λ w. same.by w ∙ at (part w) }
  where
    at : (r : Result (Made A) Refusal) → mapped (seen as_it_is) r ≡ mapped (seen without_body) (go_on r (λ m. Ok (record { given = (m.given, m.body); body = no_core; work = m.work })))
    at (Ok m) = refl
    at (Err e) = refl

-- ---- parts that the walk does not have

-- nothing is refused, and all is as it was but for cells
pub record Unseen {A : Type 0} (part : Makes A) (w : Work) : Type 0 where
  pub made : Made A
  pub is : part w ≡ Ok made
  pub same : walked_of made.work ≡ walked_of w

pub record Silent {A : Type 0} (part : Makes A) : Type 0 where
  pub by : (w : Work) → Unseen part w

pub silent_gives : {A : Type 0} (a : A) → Silent (gives a)
silent_gives a = record { by = λ w. record { made = record { given = a; body = _; work = w }; is = refl; same = refl } }

pub silent_next_cell : Silent next_cell
silent_next_cell = record { by = λ w. record { made = _; is = refl; same = refl } }

pub silent_emits : (body : Body) → Silent (emits body)
silent_emits body = record { by = λ w. record { made = _; is = refl; same = refl } }

pub silent_put_back : (first : ℕ) → Silent (put_back first)
silent_put_back first = record { by = λ w. record { made = _; is = refl; same = refl } }

pub silent_then : {A B B' : Type 0} {q : B → B'} {part : Makes A} {next : A → Makes B} {walked : Walks B'}
    → Silent part → ((a : A) → Same q (next a) walked) → Same q (after part next) walked
silent_then {q = q} {part = part} {next = next} {walked = walked} silent then = record {
  by = λ w.
      let s = silent.by w in
      ap walked (sym s.same) ∙ (then s.made.given).by s.made.work ∙ sym (behind_seen q s.made.body (next s.made.given s.made.work))
      ∙ ap (λ r. mapped (seen q) (go_on r (λ m. go_on (next m.given m.work) (made_behind m.body)))) (sym s.is);
}

-- ---- parts of the walk

pub walk_same : {A : Type 0} {part : Walks A} → Keeps part → Same as_it_is (by_walk part) part
walk_same {A} {part} keeps = record { by = λ w. keeps.by (walked_of w) ∙ at w (part (walked_of w)) }
  where
    at : (w : Work) (r : Result (A × Walked) Refusal) → mapped (in_these (known w.scopes)) r ≡ mapped (seen as_it_is) (go_on r (with_sums w))
    at w (Ok r) = refl
    at w (Err e) = refl

-- ---- scopes

pub scopes_same : (f : OpenScopes Held → OpenScopes Held) (f' : OpenScopes Known → OpenScopes Known) → ((s : OpenScopes Held) → f' (known s) ≡ known (f s)) → Same as_it_is (in_scopes f) (walk.in_scopes f')
scopes_same f f' same = record { by = λ w. ap (λ (s : OpenScopes Known). Ok (tt, record (walked_of w) { scopes = s })) (same w.scopes) }

pub in_scope_same : {A : Type 0} {part : Makes A} {walked : Walks A} → Same as_it_is part walked → Same as_it_is (in_scope part) (walk.in_scope walked)
in_scope_same same =
    silent_then silent_next_cell (λ first.
    after_same (scopes_same Opened Opened (λ s. refl)) (λ _.
    after_same same (λ a.
    silent_then (silent_put_back first) (λ _.
    after_same (scopes_same close close close_known) (λ _.
    given_same a)))))

-- ---- names

-- the scopes change as f says, and nothing else is seen
pub record Naming {A : Type 0} (part : Makes A) (f : OpenScopes Known → OpenScopes Known) (w : Work) : Type 0 where
  pub made : Made A
  pub is : part w ≡ Ok made
  pub same : walked_of made.work ≡ record (walked_of w) { scopes = f (known w.scopes) }

pub record Names {A : Type 0} (part : Makes A) (f : OpenScopes Known → OpenScopes Known) : Type 0 where
  pub by : (w : Work) → Naming part f w

-- a part of the walk that names something, behind which the elaboration names it with its cells
pub named_same : {A : Type 0} (f : OpenScopes Known → OpenScopes Known) {part : Walks (Unit {0})} {next : Makes A} → Renames part f → Names next f → Same none_of (after (by_walk part) (λ _. next)) part
named_same {A = A} f {part = part} {next = next} renames names = record { by = λ w. renames.by (walked_of w) ∙ at w (part (walked_of w)) }
  where
    at : (w : Work) (r : Result (Unit {0} × Walked) Refusal)
        → mapped (in_these (f (known w.scopes))) r ≡ mapped (seen none_of) (go_on (go_on r (with_sums w)) (λ m. go_on (next m.work) (made_behind m.body)))
    at w (Err e) = refl
    at w (Ok r) =
        let v : Work = record { scopes = w.scopes; kinds = w.kinds; wires = (r.1).wires; outputs = (r.1).outputs; cost = (r.1).cost; joints = (r.1).joints; sites = (r.1).sites; ends = (r.1).ends } in
        let n = names.by v in
        ap (λ (x : Walked). Ok (tt {0}, x)) (sym n.same)
        ∙ ap (λ x. mapped (seen none_of) (go_on x (made_behind no_core))) (sym n.is)

pub names_scopes : (f : OpenScopes Held → OpenScopes Held) (f' : OpenScopes Known → OpenScopes Known) → ((s : OpenScopes Held) → f' (known s) ≡ known (f s)) → Names (in_scopes f) f'
names_scopes f f' same = record { by = λ w. record { made = _; is = refl; same = ap (λ (s : OpenScopes Known). record (walked_of w) { scopes = s }) (sym (same w.scopes)) } }

pub declare_same : (name : Name) (thing : Held) → Same none_of (declare name thing) (declarations.declare name (known_thing thing))
declare_same name thing =
    named_same (Named name.text (known_thing thing)) (renames_declare name (known_thing thing))
    (names_scopes (Named name.text thing) (Named name.text (known_thing thing)) (λ s. refl))

-- ---- what stands behind all that is walked

pub then_silent : {A B : Type 0} {part : Makes A} {next : A → Makes B} {walked : Walks (Unit {0})} → Same none_of part walked → ((a : A) → Silent (next a)) → Same none_of (after part next) walked
then_silent {A = A} {part = part} {next = next} same silent = record { by = λ w. same.by w ∙ at (part w) }
  where
    at : (r : Result (Made A) Refusal) → mapped (seen none_of) r ≡ mapped (seen none_of) (go_on r (λ m. go_on (next m.given m.work) (made_behind m.body)))
    at (Err e) = refl
    at (Ok m) =
        let s = (silent m.given).by m.work in
        ap (λ (x : Walked). Ok (tt {0}, x)) (sym s.same) ∙ ap (λ x. mapped (seen none_of) (go_on x (made_behind m.body))) (sym s.is)

pub silent_same : {A : Type 0} {part : Makes A} → Silent part → Same none_of part (walk.gives tt)
silent_same silent = record {
  by = λ w.
      let s = silent.by w in
      ap (λ (x : Walked). Ok (tt {0}, x)) (sym s.same) ∙ ap (mapped (seen none_of)) (sym s.is);
}

-- cells are put back behind a part
pub and_back : {A : Type 0} (first : ℕ) {part : Makes A} {walked : Walks A} → Same as_it_is part walked → Same as_it_is (after part (λ a. after (put_back first) (λ _. gives a))) walked
and_back {A} first {part} same = record { by = λ w. same.by w ∙ at (part w) }
  where
    at : (r : Result (Made A) Refusal) → mapped (seen as_it_is) r ≡ mapped (seen as_it_is) (go_on r (λ m. go_on (after (put_back first) (λ _. gives m.given) m.work) (made_behind m.body)))
    at (Ok m) = refl
    at (Err e) = refl
