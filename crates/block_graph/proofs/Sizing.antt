-- How many items, phis, calls and blocks each step adds.
use Rattle.std.proofs.Common.{◌≡◌, ℕ, zero, suc, ◌+◌, ◌*◌, ◌≤◌, ◌⊎◌, inl, inr, ⊎_elim, Bool, true, false, not, ◌&&◌, ◌||◌, List, [], ◌∷◌, ◌++◌, length, Option, Some, None, refl, ap, arith, nat_eq, nat_le}
use Rattle.std.specs.Prelude.{if◌then◌else◌, cond}
use Rattle.std.specs.List.{sum_by}
use Rattle.std.proofs.lemmas.List.Sums.{sum_by-cons, sum_by-append}
use Rattle.qir_module.specs.declared.instruction.Operand.{Operand}
use Rattle.qir_module.specs.declared.instruction.Instr.{Instr}
use Rattle.qir_module.specs.declared.instruction.Instr.TheVariants.{Op, Zext, Trunc, Select, Call}
use Rattle.qir_module.specs.declared.instruction.Last.{Last}
use Rattle.qir_module.specs.declared.block.Phi.{Phi}
use Rattle.core_ir.specs.declared.expression.CellKind.{CellKind}
use Rattle.core_ir.specs.declared.expression.CoreExpr.{CoreExpr}
use Rattle.core_ir.specs.Size.{count_from, at_level}
use Rattle.core_ir.specs.Tree.{Stmt, Skip, Seq, Assign, Gate, Reset, Measure, If, Block, Loop, Leave, Again}
use Rattle.core_ir.specs.Ways.{Exit, Falls, Agains, is_fall, inside_block, inside_loop, reaches, passes, stores, given_last, names_cell, is_into, counts, assigns}
use Rattle.cell_operands.specs.Operands.{is_number}
use Rattle.phi_place.specs.State.{CellState}
use Rattle.phi_place.specs.Phis.{entries_of, phis_for, values_for, ways_differ}
use Rattle.expr_lower.specs.Lowered.{ReadsOnly, Reads}
use Rattle.block_graph.specs.Laws.{work_in}
use Rattle.block_graph.specs.Work.{Ready, Draft, Level, Open, Work}
use Rattle.block_graph.specs.Lowering.{closed, add_way, join_work, settled_phis}
use Rattle.block_graph.specs.Claims.{counted_draft, counted_now, counted_in, entries_in, no_phis, no_code, one_each, phis_in, items_in, phis_counted, calls_in, blocks_in, paid}
use Rattle.block_graph.proofs.Flow.{or_left, or_right, or_cases, and_both, and_cases}

-- ---- cells

pub count_less : (f g : ℕ → Bool) (k n : ℕ) → ((c : ℕ) → f c ≡ true → g c ≡ true) → count_from f k n ≤ count_from g k n
count_less f g k zero h = omega arith
count_less f g k (suc n) h = two (f k) (g k) (h k) (count_less f g (suc k) n h)
  where
    two : (a b : Bool) → (a ≡ true → b ≡ true) → count_from f (suc k) n ≤ count_from g (suc k) n → (if a then suc (count_from f (suc k) n) else count_from f (suc k) n) ≤ (if b then suc (count_from g (suc k) n) else count_from g (suc k) n)
    two true true i le = omega (arith, le)
    two true false i le = absurd (cc (i refl))
    two false true i le = omega (arith, le)
    two false false i le = le

pub phis_many : (needs : ℕ → Bool) (ways : List CellState) (kinds : List CellKind) (c next : ℕ) → length (phis_for needs ways kinds c next) ≡ count_from needs c (length kinds)
phis_many needs ways [] c next = refl
phis_many needs ways (kind ∷ kinds) c next = two (needs c) (phis_many needs ways kinds (suc c) (suc next)) (phis_many needs ways kinds (suc c) next)
  where
    two : (b : Bool) → length (phis_for needs ways kinds (suc c) (suc next)) ≡ count_from needs (suc c) (length kinds) → length (phis_for needs ways kinds (suc c) next) ≡ count_from needs (suc c) (length kinds)
        → length (if b then record { register = next; number = is_number kind; entries = entries_of ways c } ∷ phis_for needs ways kinds (suc c) (suc next) else phis_for needs ways kinds (suc c) next) ≡ (if b then suc (count_from needs (suc c) (length kinds)) else count_from needs (suc c) (length kinds))
    two true m s = ap suc m
    two false m s = s

entries_long : (ways : List CellState) (c : ℕ) → length (entries_of ways c) ≡ length ways
entries_long [] c = refl
entries_long (w ∷ ways) c = ap suc (entries_long ways c)

pub phis_entries : (needs : ℕ → Bool) (ways : List CellState) (kinds : List CellKind) (c next : ℕ) → entries_in (phis_for needs ways kinds c next) ≡ count_from needs c (length kinds) * length ways
phis_entries needs ways [] c next = omega arith
phis_entries needs ways (kind ∷ kinds) c next = two (needs c) (phis_entries needs ways kinds (suc c) (suc next)) (phis_entries needs ways kinds (suc c) next)
  where
    two : (b : Bool) → entries_in (phis_for needs ways kinds (suc c) (suc next)) ≡ count_from needs (suc c) (length kinds) * length ways → entries_in (phis_for needs ways kinds (suc c) next) ≡ count_from needs (suc c) (length kinds) * length ways
        → entries_in (if b then record { register = next; number = is_number kind; entries = entries_of ways c } ∷ phis_for needs ways kinds (suc c) (suc next) else phis_for needs ways kinds (suc c) next) ≡ (if b then suc (count_from needs (suc c) (length kinds)) else count_from needs (suc c) (length kinds)) * length ways
    two true m s =
        let l = entries_long ways c in
        let q = sum_by-cons (λ (p : Phi). length p.entries) (record { register = next; number = is_number kind; entries = entries_of ways c }) (phis_for needs ways kinds (suc c) (suc next)) in
        omega (arith, m, l, q)
    two false m s = s

pub times_less : (a b k : ℕ) → a ≤ b → a * k ≤ b * k
times_less a b zero le = omega arith
times_less a b (suc k) le = let r = times_less a b k le in omega (arith, r, le)

-- ---- what is stored is assigned

named_given : (exprs : List CoreExpr) (pairs : List (ℕ × ℕ)) (c : ℕ) (before : Option ℕ) → counts true exprs (given_last pairs c before) ≡ true → (counts true exprs before ≡ true) ⊎ (names_cell pairs c ≡ true)
named_given exprs [] c before e = inl e
named_given exprs (p ∷ pairs) c before e = at (nat_eq p.0 c) (named_given exprs pairs c (if nat_eq p.0 c then Some p.1 else before) e)
  where
    at : (n : Bool) → (counts true exprs (if n then Some p.1 else before) ≡ true) ⊎ (names_cell pairs c ≡ true) → (counts true exprs before ≡ true) ⊎ ((n || names_cell pairs c) ≡ true)
    at true h = inr refl
    at false h = h

pub stores_assigns : (exprs : List CoreExpr) (s : Stmt) (c : ℕ) (x : Exit) → stores true exprs s c x ≡ true → assigns s c ≡ true
stores_assigns exprs Skip c x e = absurd (cc e)
stores_assigns exprs (Seq a b) c x e =
    let p = not (is_fall x) && stores true exprs a c x in
    let q = reaches a Falls && stores true exprs b c x in
    let r = stores true exprs a c Falls && passes b c x in
    ⊎_elim (λ h. or_left (assigns a c) (assigns b c) (stores_assigns exprs a c x (and_cases (not (is_fall x)) (stores true exprs a c x) h).1)) (λ h. ⊎_elim (λ k. or_right (assigns a c) (assigns b c) (stores_assigns exprs b c x (and_cases (reaches a Falls) (stores true exprs b c x) k).1)) (λ k. or_left (assigns a c) (assigns b c) (stores_assigns exprs a c Falls (and_cases (stores true exprs a c Falls) (passes b c x) k).0)) (or_cases q r h)) (or_cases p (q || r) e)
stores_assigns exprs (Assign pairs) c x e = ⊎_elim (λ h. absurd (cc h)) (λ h. h) (named_given exprs pairs c None (and_cases (is_fall x) (counts true exprs (given_last pairs c None)) e).1)
stores_assigns exprs (Gate leaf) c x e = absurd (cc e)
stores_assigns exprs (Reset qubit) c x e = absurd (cc e)
stores_assigns exprs (Measure qubit into) c x e = (and_cases (is_fall x) (is_into into c) e).1
stores_assigns exprs (If test a b) c x e = ⊎_elim (λ h. or_left (assigns a c) (assigns b c) (stores_assigns exprs a c x h)) (λ h. or_right (assigns a c) (assigns b c) (stores_assigns exprs b c x h)) (or_cases (stores true exprs a c x) (stores true exprs b c x) e)
stores_assigns exprs (Block a) c x e = ⊎_elim (λ h. stores_assigns exprs a c Falls (and_cases (is_fall x) (stores true exprs a c Falls) h).1) (λ h. stores_assigns exprs a c (inside_block x) h) (or_cases (is_fall x && stores true exprs a c Falls) (stores true exprs a c (inside_block x)) e)
stores_assigns exprs (Loop a) c x e =
    let again = stores true exprs a c (Agains 0) in
    let one : (y : Exit) → (stores true exprs a c y || (passes a c y && again)) ≡ true → assigns a c ≡ true = λ y h. ⊎_elim (λ k. stores_assigns exprs a c y k) (λ k. stores_assigns exprs a c (Agains 0) (and_cases (passes a c y) again k).1) (or_cases (stores true exprs a c y) (passes a c y && again) h) in
    ⊎_elim (λ h. one Falls (and_cases (is_fall x) (stores true exprs a c Falls || (passes a c Falls && again)) h).1) (λ h. one (inside_loop x) h) (or_cases (is_fall x && (stores true exprs a c Falls || (passes a c Falls && again))) (stores true exprs a c (inside_loop x) || (passes a c (inside_loop x) && again)) e)
stores_assigns exprs (Leave k) c x e = absurd (cc e)
stores_assigns exprs (Again k) c x e = absurd (cc e)

-- ---- code

pub ones : (code : List Instr) → sum_by one_each code ≡ length code
ones [] = refl
ones (i ∷ is) = let r = ones is in let q = sum_by-cons one_each i is in omega (arith, r, q)

quiet_work : (has : ℕ → Bool → Type 0) (i : Instr) → Reads has i → work_in i ≡ 0
quiet_work has (Op r op truth left right) h = refl
quiet_work has (Zext r from) h = refl
quiet_work has (Trunc r from) h = refl
quiet_work has (Select r truth test chosen other) h = refl
quiet_work has (Call register function args) h = absurd h

pub code_work : (has : ℕ → Bool → Type 0) (code : List Instr) → ReadsOnly has code → sum_by work_in code ≡ 0
code_work has [] r = refl
code_work has (i ∷ is) r = let a = quiet_work has i r.0 in let b = code_work _ is r.1 in let q = sum_by-cons work_in i is in omega (arith, a, b, q)

-- an instruction is one call at most
pub one_work : (i : Instr) → work_in i ≤ 1
one_work (Op r op truth left right) = omega arith
one_work (Zext r from) = omega arith
one_work (Trunc r from) = omega arith
one_work (Select r truth test chosen other) = omega arith
one_work (Call register function args) = at (nat_le 5 function.0)
  where
    at : (b : Bool) → 0 + cond b 1 0 ≤ 1
    at true = omega arith
    at false = omega arith

-- ---- sums over the blocks

module _ (b : ℕ) (f : List Phi → ℕ) (g : Instr → ℕ) (lates : ℕ → List Phi) where
  push : (xs : List Draft) (d : Draft) → sum_by (counted_draft b f g lates) (xs ++ d ∷ []) ≡ sum_by (counted_draft b f g lates) xs + counted_draft b f g lates d
  push xs d =
      let p = sum_by-append (counted_draft b f g lates) xs (d ∷ []) in
      let q = sum_by-cons (counted_draft b f g lates) d [] in
      omega (arith, p, q)

  counted_more : (w v : Work) (o : Open) (code : List Instr) (values : List Operand) → w.now ≡ Some o → v.done ≡ w.done → v.now ≡ Some (record o { body = o.body ++ code; values = values }) → counted_in b f g lates v ≡ counted_in b f g lates w + sum_by g code
  counted_more w v o code values is done now =
      let x = ap (sum_by (counted_draft b f g lates)) done in
      let y = ap (counted_now b f g lates) now in
      let z = ap (counted_now b f g lates) is in
      let q = sum_by-append g o.body code in
      omega (arith, x, y, z, q)

  counted_close : (w v : Work) (o : Open) (code : List Instr) (last : Last) → w.now ≡ Some o → v.done ≡ w.done ++ record { phis = o.phis; body = o.body ++ code; last = last } ∷ [] → v.now ≡ None → counted_in b f g lates v ≡ counted_in b f g lates w + sum_by g code
  counted_close w v o code last is done now =
      let d : Draft = record { phis = o.phis; body = o.body ++ code; last = last } in
      let x = ap (sum_by (counted_draft b f g lates)) done in
      let y = ap (counted_now b f g lates) now in
      let z = ap (counted_now b f g lates) is in
      let q = sum_by-append g o.body code in
      let p = push w.done d in
      omega (arith, x, y, z, q, p)

  counted_jump : (w v : Work) (o : Open) (last : Last) → w.now ≡ Some o → v.done ≡ w.done ++ closed o last ∷ [] → v.now ≡ None → counted_in b f g lates v ≡ counted_in b f g lates w
  counted_jump w v o last is done now =
      let x = ap (sum_by (counted_draft b f g lates)) done in
      let y = ap (counted_now b f g lates) now in
      let z = ap (counted_now b f g lates) is in
      let p = push w.done (closed o last) in
      omega (arith, x, y, z, p)

  counted_open : (x v : Work) (o : Open) → x.now ≡ None → v.done ≡ x.done → v.now ≡ Some o → o.body ≡ [] → counted_in b f g lates v ≡ counted_in b f g lates x + b + f (settled_phis lates o.phis)
  counted_open x v o none done now body =
      let p = ap (sum_by (counted_draft b f g lates)) done in
      let y = ap (counted_now b f g lates) now in
      let z = ap (counted_now b f g lates) none in
      let q = ap (sum_by g) body in
      let e : sum_by g [] ≡ 0 = refl in
      omega (arith, p, y, z, q, e)

-- from one moment to another at most so many items, phis, calls and blocks are added
module _ (lates : ℕ → List Phi) where
  pub record Adds (w v : Work) (i p c b : ℕ) : Type 0 where
    pub items : items_in lates v ≤ items_in lates w + i
    pub phis : phis_counted lates v ≤ phis_counted lates w + p
    pub calls : calls_in lates v ≤ calls_in lates w + c
    pub blocks : blocks_in lates v ≤ blocks_in lates w + b

  pub adds_none : (w : Work) → Adds w w 0 0 0 0
  adds_none w = record { items = omega arith; phis = omega arith; calls = omega arith; blocks = omega arith }

  pub adds_more : (w v : Work) (i p c b i' p' c' b' : ℕ) → i ≤ i' → p ≤ p' → c ≤ c' → b ≤ b' → Adds w v i p c b → Adds w v i' p' c' b'
  adds_more w v i p c b i' p' c' b' hi hp hc hb x = record { items = omega (arith, x.items, hi); phis = omega (arith, x.phis, hp); calls = omega (arith, x.calls, hc); blocks = omega (arith, x.blocks, hb) }

  pub none_sum : (code : List Instr) → sum_by no_code code ≡ 0
  none_sum [] = refl
  none_sum (i ∷ is) = let r = none_sum is in let q = sum_by-cons no_code i is in omega (arith, r, q)

  pub code_adds : (w v : Work) (o : Open) (code : List Instr) (values : List Operand) → w.now ≡ Some o → v.done ≡ w.done → v.now ≡ Some (record o { body = o.body ++ code; values = values }) → Adds w v (length code) 0 (sum_by work_in code) 0
  code_adds w v o code values is done now =
      let a = counted_more 2 entries_in one_each lates w v o code values is done now in
      let b = counted_more 0 phis_in no_code lates w v o code values is done now in
      let c = counted_more 0 no_phis work_in lates w v o code values is done now in
      let d = counted_more 1 no_phis no_code lates w v o code values is done now in
      let l = ones code in
      let z = none_sum code in
      record { items = omega (arith, a, l); phis = omega (arith, b, z); calls = omega (arith, c); blocks = omega (arith, d, z) }

  pub close_adds : (w v : Work) (o : Open) (code : List Instr) (last : Last) → w.now ≡ Some o → v.done ≡ w.done ++ record { phis = o.phis; body = o.body ++ code; last = last } ∷ [] → v.now ≡ None → Adds w v (length code) 0 (sum_by work_in code) 0
  close_adds w v o code last is done now =
      let a = counted_close 2 entries_in one_each lates w v o code last is done now in
      let b = counted_close 0 phis_in no_code lates w v o code last is done now in
      let c = counted_close 0 no_phis work_in lates w v o code last is done now in
      let d = counted_close 1 no_phis no_code lates w v o code last is done now in
      let l = ones code in
      let z = none_sum code in
      record { items = omega (arith, a, l); phis = omega (arith, b, z); calls = omega (arith, c); blocks = omega (arith, d, z) }

  pub jump_adds : (w v : Work) (o : Open) (last : Last) → w.now ≡ Some o → v.done ≡ w.done ++ closed o last ∷ [] → v.now ≡ None → Adds w v 0 0 0 0
  jump_adds w v o last is done now =
      let a = counted_jump 2 entries_in one_each lates w v o last is done now in
      let b = counted_jump 0 phis_in no_code lates w v o last is done now in
      let c = counted_jump 0 no_phis work_in lates w v o last is done now in
      let d = counted_jump 1 no_phis no_code lates w v o last is done now in
      record { items = omega (arith, a); phis = omega (arith, b); calls = omega (arith, c); blocks = omega (arith, d) }

  pub open_adds : (x v : Work) (o : Open) → x.now ≡ None → v.done ≡ x.done → v.now ≡ Some o → o.body ≡ [] → Adds x v (2 + entries_in (settled_phis lates o.phis)) (length (settled_phis lates o.phis)) 0 1
  open_adds x v o none done now body =
      let a = counted_open 2 entries_in one_each lates x v o none done now body in
      let b = counted_open 0 phis_in no_code lates x v o none done now body in
      let c = counted_open 0 no_phis work_in lates x v o none done now body in
      let d = counted_open 1 no_phis no_code lates x v o none done now body in
      record { items = omega (arith, a); phis = omega (arith, b); calls = omega (arith, c); blocks = omega (arith, d) }

  -- a join where the cells with a phi are open, and assigned
  pub join_adds : (kinds : List CellKind) (label : ℕ) (ways : List CellState) (x : Work) (opens sets : ℕ → Bool) → x.now ≡ None → ((c : ℕ) → ways_differ ways c ≡ true → (opens c ≡ true) × (sets c ≡ true))
      → Adds x (join_work kinds label ways x) (2 + count_from opens 0 (length kinds) * length ways) (count_from (λ c. opens c && sets c) 0 (length kinds)) 0 1
  join_adds kinds label [] x opens sets none h = adds_more x x 0 0 0 0 (2 + count_from opens 0 (length kinds) * 0) (count_from (λ c. opens c && sets c) 0 (length kinds)) 0 1 (omega arith) (omega arith) (omega arith) (omega arith) (adds_none x)
  join_adds kinds label (way ∷ ways) x opens sets none h =
      let needs = ways_differ (way ∷ ways) in
      let n = length kinds in
      let ps = phis_for needs (way ∷ ways) kinds 0 x.next in
      let v = join_work kinds label (way ∷ ways) x in
      let a = open_adds x v (record { phis = Ready ps; body = []; values = values_for needs way.values 0 x.next }) none refl refl refl in
      let many = phis_many needs (way ∷ ways) kinds 0 x.next in
      let entries = phis_entries needs (way ∷ ways) kinds 0 x.next in
      let all = count_less needs opens 0 n (λ c e. (h c e).0) in
      let both = count_less needs (λ c. opens c && sets c) 0 n (λ c e. let q = h c e in and_both (opens c) (sets c) q.0 q.1) in
      let t = times_less (count_from needs 0 n) (count_from opens 0 n) (suc (length ways)) all in
      adds_more x v (2 + entries_in ps) (length ps) 0 1 (2 + count_from opens 0 n * suc (length ways)) (count_from (λ c. opens c && sets c) 0 n) 0 1 (omega (arith, entries, t)) (omega (arith, many, both)) (omega arith) (omega arith) a

-- ---- what is paid for phis that are still to come: an entry for each open cell, at each way

longer : (ways : List CellState) (way : CellState) → length (ways ++ way ∷ []) ≡ suc (length ways)
longer [] way = refl
longer (w ∷ ways) way = ap suc (longer ways way)

pub paid_way : (ls : List Level) (costs : List ℕ) (k : ℕ) (way : CellState) → paid (add_way ls k way) costs ≤ paid ls costs + at_level costs k
paid_way [] costs k way = omega arith
paid_way (l ∷ ls) [] zero way = omega arith
paid_way (l ∷ ls) [] (suc k) way = omega arith
paid_way (l ∷ ls) (cost ∷ costs) zero way = let r = ap (λ (n : ℕ). cost * n) (longer l.ways way) in omega (arith, r)
paid_way (l ∷ ls) (cost ∷ costs) (suc k) way = let r = paid_way ls costs k way in omega (arith, r)
