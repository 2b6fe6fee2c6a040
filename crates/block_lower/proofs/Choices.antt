-- The steps of choices, blocks and loops, as the code takes them: what each leaves is what the definition makes.
use Rattle.std.proofs.Common.{◌≡◌, ℕ, ◌+◌, if◌then◌else◌, Bool, true, false, List, length, Option, Some, None, sym, ap, ◌∙◌, subst}
use Rattle.std.proofs.Math.Path.{fun_ext}
use Rattle.qir_module.specs.declared.instruction.Operand.{Operand}
use Rattle.core_ir.specs.Core.{Core}
use Rattle.core_ir.specs.Tree.{Stmt, If, Block, Loop}
use Rattle.core_ir.specs.Ways.{Falls, reaches}
use Rattle.phi_place.specs.State.{CellState}
use Rattle.phi_place.specs.Phis.{is_listed}
use Rattle.block_graph.specs.Work.{Level, Open, Work}
use Rattle.block_graph.specs.Lowering.{Coder, when_open, leave_zero, open_end, close_end, start_needs, open_loop, close_start, open_first, fall_work, fall_ways, open_second, join_bodies, lower_of}
use Rattle.block_lower.specs.Parts.{IsSmall, choice_of}
use Rattle.block_lower.proofs.Rising.{choice_small, block_small, loop_of, loop_small, ends_stay}

opened_none : (w : Work) (f : Open → Work) (now : Option Open) → now ≡ None → when_open now w f ≡ w
opened_none w f now none = ap (λ (n : Option Open). when_open n w f) none

opened_some : (w : Work) (f : Open → Work) (now : Option Open) (o : Open) → now ≡ Some o → when_open now w f ≡ f o
opened_some w f now o some = ap (λ (n : Option Open). when_open n w f) some

abbrev pub choose : Core → Coder → ℕ → Stmt → Stmt → Work → Open → Work
choose core coder test a b w o = if reaches b Falls then choice_of core coder true test a b w o else choice_of core coder false test b a w o

-- ---- choices

first_is : (core : Core) (coder : Coder) (holds : Bool) (test : ℕ) (a : Stmt) (w w1 w2 : Work) (o : Open) → w1 ≡ open_first coder holds test w o → w2 ≡ lower_of core coder a w1 → w2 ≡ lower_of core coder a (open_first coder holds test w o)
first_is core coder holds test a w w1 w2 o one two = two ∙ ap (lower_of core coder a) one

pub first_small : (core : Core) (coder : Coder) (holds : Bool) (test : ℕ) (a b : Stmt) (w w1 : Work) (o : Open) → w1 ≡ open_first coder holds test w o → IsSmall (choice_of core coder holds test a b w o) → IsSmall (lower_of core coder a w1)
first_small core coder holds test a b w w1 o one small = subst (λ (v : Work). IsSmall (lower_of core coder a v)) (sym one) (choice_small core coder holds test a b w o small).first

pub turned_small : (core : Core) (coder : Coder) (holds : Bool) (test : ℕ) (a b : Stmt) (w w1 w2 : Work) (o : Open) → w1 ≡ open_first coder holds test w o → w2 ≡ lower_of core coder a w1 → IsSmall (choice_of core coder holds test a b w o) → IsSmall w2
turned_small core coder holds test a b w w1 w2 o one two small = subst IsSmall (sym (first_is core coder holds test a w w1 w2 o one two)) (choice_small core coder holds test a b w o small).first

pub fallen_small : (core : Core) (coder : Coder) (holds : Bool) (test : ℕ) (a b : Stmt) (w w1 w2 : Work) (o : Open) (join : ℕ) → w1 ≡ open_first coder holds test w o → w2 ≡ lower_of core coder a w1 → join ≡ length w.targets + 2
    → IsSmall (choice_of core coder holds test a b w o) → IsSmall (fall_work join w2)
fallen_small core coder holds test a b w w1 w2 o join one two at small =
    subst (λ (n : ℕ). IsSmall (fall_work n w2)) (sym at) (subst (λ (v : Work). IsSmall (fall_work (length w.targets + 2) v)) (sym (first_is core coder holds test a w w1 w2 o one two)) (choice_small core coder holds test a b w o small).fallen)

second_is : (core : Core) (coder : Coder) (holds : Bool) (test : ℕ) (a : Stmt) (w w1 w2 w3 : Work) (o : Open) (second join : ℕ) (values : List Operand) → w1 ≡ open_first coder holds test w o → w2 ≡ lower_of core coder a w1 → second ≡ length w.targets + 1 → join ≡ length w.targets + 2 → values ≡ o.values
    → w3 ≡ open_second second values (fall_work join w2) → w3 ≡ open_second (length w.targets + 1) o.values (fall_work (length w.targets + 2) (lower_of core coder a (open_first coder holds test w o)))
second_is core coder holds test a w w1 w2 w3 o second join values one two at_second at_join same three =
    three ∙ ap (λ (v : Work). open_second second values (fall_work join v)) (first_is core coder holds test a w w1 w2 o one two)
    ∙ ap (λ (n : ℕ). open_second second values (fall_work n (lower_of core coder a (open_first coder holds test w o)))) at_join
    ∙ ap (λ (n : ℕ). open_second n values (fall_work (length w.targets + 2) (lower_of core coder a (open_first coder holds test w o)))) at_second
    ∙ ap (λ (os : List Operand). open_second (length w.targets + 1) os (fall_work (length w.targets + 2) (lower_of core coder a (open_first coder holds test w o)))) same

pub second_small : (core : Core) (coder : Coder) (holds : Bool) (test : ℕ) (a b : Stmt) (w w1 w2 w3 : Work) (o : Open) (second join : ℕ) (values : List Operand) → w1 ≡ open_first coder holds test w o → w2 ≡ lower_of core coder a w1 → second ≡ length w.targets + 1 → join ≡ length w.targets + 2 → values ≡ o.values
    → w3 ≡ open_second second values (fall_work join w2) → IsSmall (choice_of core coder holds test a b w o) → IsSmall (lower_of core coder b w3)
second_small core coder holds test a b w w1 w2 w3 o second join values one two at_second at_join same three small =
    subst (λ (v : Work). IsSmall (lower_of core coder b v)) (sym (second_is core coder holds test a w w1 w2 w3 o second join values one two at_second at_join same three)) (choice_small core coder holds test a b w o small).second

pub choice_is : (core : Core) (coder : Coder) (holds : Bool) (test : ℕ) (a b : Stmt) (w w1 w2 w3 w4 : Work) (o : Open) (second join : ℕ) (values : List Operand) (ways : List CellState) → w1 ≡ open_first coder holds test w o → w2 ≡ lower_of core coder a w1 → second ≡ length w.targets + 1 → join ≡ length w.targets + 2
    → values ≡ o.values → w3 ≡ open_second second values (fall_work join w2) → ways ≡ fall_ways w2 w2.now → w4 ≡ lower_of core coder b w3 → join_bodies core.cells join ways w4 ≡ choice_of core coder holds test a b w o
choice_is core coder holds test a b w w1 w2 w3 w4 o second join values ways one two at_second at_join same three fallen four =
    let v = lower_of core coder a (open_first coder holds test w o) in
    let u = lower_of core coder b (open_second (length w.targets + 1) o.values (fall_work (length w.targets + 2) v)) in
    let first : w2 ≡ v = first_is core coder holds test a w w1 w2 o one two in
    let last : w4 ≡ u = four ∙ ap (lower_of core coder b) (second_is core coder holds test a w w1 w2 w3 o second join values one two at_second at_join same three) in
    ap (λ (n : ℕ). join_bodies core.cells n ways w4) at_join ∙ ap (λ (ws : List CellState). join_bodies core.cells (length w.targets + 2) ws w4) (fallen ∙ ap (λ (x : Work). fall_ways x x.now) first)
    ∙ ap (λ (x : Work). join_bodies core.cells (length w.targets + 2) (fall_ways v v.now) x) last

-- ---- blocks

abbrev pub block_of : Core → Coder → Stmt → Work → Work
block_of core coder a w = close_end core.cells (leave_zero (lower_of core coder a (open_end w))).ends (leave_zero (lower_of core coder a (open_end w)))

pub block_body_small : (core : Core) (coder : Coder) (a : Stmt) (w w1 : Work) → w1 ≡ open_end w → IsSmall (block_of core coder a w) → IsSmall (lower_of core coder a w1)
block_body_small core coder a w w1 one small = subst (λ (v : Work). IsSmall (lower_of core coder a v)) (sym one) (block_small core coder a w small).body

pub block_left_small : (core : Core) (coder : Coder) (a : Stmt) (w w1 w2 : Work) → w1 ≡ open_end w → w2 ≡ lower_of core coder a w1 → IsSmall (block_of core coder a w) → IsSmall w2
block_left_small core coder a w w1 w2 one two small = subst IsSmall (sym (two ∙ ap (lower_of core coder a) one)) (block_small core coder a w small).body

pub block_end_small : (core : Core) (coder : Coder) (a : Stmt) (w w1 w2 w3 : Work) → w1 ≡ open_end w → w2 ≡ lower_of core coder a w1 → w3 ≡ leave_zero w2 → IsSmall (block_of core coder a w) → IsSmall w3
block_end_small core coder a w w1 w2 w3 one two three small = subst IsSmall (sym (three ∙ ap leave_zero (two ∙ ap (lower_of core coder a) one))) (block_small core coder a w small).left

pub block_is : (core : Core) (coder : Coder) (a : Stmt) (w w1 w2 w3 : Work) → w1 ≡ open_end w → w2 ≡ lower_of core coder a w1 → w3 ≡ leave_zero w2 → close_end core.cells w3.ends w3 ≡ block_of core coder a w
block_is core coder a w w1 w2 w3 one two three = ap (λ (v : Work). close_end core.cells v.ends v) (three ∙ ap leave_zero (two ∙ ap (lower_of core coder a) one))

-- ---- loops

pub loop_body_small : (core : Core) (coder : Coder) (a : Stmt) (needs : ℕ → Bool) (w w1 : Work) (o : Open) → w1 ≡ open_loop core.cells needs w o → IsSmall (loop_of core coder a needs w o) → IsSmall (lower_of core coder a w1)
loop_body_small core coder a needs w w1 o one small = subst (λ (v : Work). IsSmall (lower_of core coder a v)) (sym one) (loop_small core coder a needs w o small).body

pub loop_left_small : (core : Core) (coder : Coder) (a : Stmt) (needs : ℕ → Bool) (w w1 w2 : Work) (o : Open) → w1 ≡ open_loop core.cells needs w o → w2 ≡ lower_of core coder a w1 → IsSmall (loop_of core coder a needs w o) → IsSmall w2
loop_left_small core coder a needs w w1 w2 o one two small = subst IsSmall (sym (two ∙ ap (lower_of core coder a) one)) (loop_small core coder a needs w o small).body

closed_is : (core : Core) (coder : Coder) (a : Stmt) (needs : ℕ → Bool) (w w1 w2 w3 w4 : Work) (o : Open) (late next : ℕ) → w1 ≡ open_loop core.cells needs w o → w2 ≡ lower_of core coder a w1 → w3 ≡ leave_zero w2 → late ≡ length w.lates → next ≡ w.next
    → w4 ≡ close_start core.cells needs late next w3.starts w3
    → w4 ≡ close_start core.cells needs (length w.lates) w.next (leave_zero (lower_of core coder a (open_loop core.cells needs w o))).starts (leave_zero (lower_of core coder a (open_loop core.cells needs w o)))
closed_is core coder a needs w w1 w2 w3 w4 o late next one two three at_late at_next four =
    let v = leave_zero (lower_of core coder a (open_loop core.cells needs w o)) in
    four ∙ ap (λ (x : Work). close_start core.cells needs late next x.starts x) (three ∙ ap leave_zero (two ∙ ap (lower_of core coder a) one))
    ∙ ap (λ (n : ℕ). close_start core.cells needs n next v.starts v) at_late ∙ ap (λ (n : ℕ). close_start core.cells needs (length w.lates) n v.starts v) at_next

pub loop_end_small : (core : Core) (coder : Coder) (a : Stmt) (needs : ℕ → Bool) (w w1 w2 w3 w4 : Work) (o : Open) (late next : ℕ) → w1 ≡ open_loop core.cells needs w o → w2 ≡ lower_of core coder a w1 → w3 ≡ leave_zero w2 → late ≡ length w.lates → next ≡ w.next
    → w4 ≡ close_start core.cells needs late next w3.starts w3 → IsSmall (loop_of core coder a needs w o) → IsSmall w4
loop_end_small core coder a needs w w1 w2 w3 w4 o late next one two three at_late at_next four small = subst IsSmall (sym (closed_is core coder a needs w w1 w2 w3 w4 o late next one two three at_late at_next four)) (loop_small core coder a needs w o small).closed

pub loop_is : (core : Core) (coder : Coder) (a : Stmt) (needs : ℕ → Bool) (w w1 w2 w3 w4 : Work) (o : Open) (late next : ℕ) → w1 ≡ open_loop core.cells needs w o → w2 ≡ lower_of core coder a w1 → w3 ≡ leave_zero w2 → late ≡ length w.lates → next ≡ w.next
    → w4 ≡ close_start core.cells needs late next w3.starts w3 → close_end core.cells w4.ends w4 ≡ loop_of core coder a needs w o
loop_is core coder a needs w w1 w2 w3 w4 o late next one two three at_late at_next four =
    let v = leave_zero (lower_of core coder a (open_loop core.cells needs w o)) in
    let x = close_start core.cells needs (length w.lates) w.next v.starts v in
    ap (λ (y : Work). close_end core.cells y.ends y) (closed_is core coder a needs w w1 w2 w3 w4 o late next one two three at_late at_next four)
    ∙ ap (λ (ls : List Level). close_end core.cells ls x) (ends_stay core.cells needs (length w.lates) w.next v.starts v)

-- the listed cells are those that need a phi
pub needs_are : (cells : List ℕ) (needs : ℕ → Bool) → ((c : ℕ) → is_listed cells c ≡ needs c) → is_listed cells ≡ needs
needs_are cells needs each = fun_ext each

-- ---- the open block, taken out

none_back : (w v : Work) → w.now ≡ None → v ≡ record w { now = None } → v ≡ w
none_back w v none taken = taken ∙ ap (λ (n : Option Open). record w { now = n }) (sym none)

-- where nothing is open, nothing is lowered
pub if_none : (core : Core) (coder : Coder) (test : ℕ) (a b : Stmt) (w v : Work) → w.now ≡ None → v ≡ record w { now = None } → v ≡ lower_of core coder (If test a b) w
if_none core coder test a b w v none taken = none_back w v none taken ∙ sym (opened_none w (choose core coder test a b w) w.now none)

pub block_none : (core : Core) (coder : Coder) (a : Stmt) (w v : Work) → w.now ≡ None → v ≡ record w { now = None } → v ≡ lower_of core coder (Block a) w
block_none core coder a w v none taken = none_back w v none taken ∙ sym (opened_none w (λ o. block_of core coder a w) w.now none)

pub loop_none : (core : Core) (coder : Coder) (a : Stmt) (w v : Work) → w.now ≡ None → v ≡ record w { now = None } → v ≡ lower_of core coder (Loop a) w
loop_none core coder a w v none taken = none_back w v none taken ∙ sym (opened_none w (λ o. loop_of core coder a (start_needs core.exprs a o.values) w o) w.now none)

pub if_true : (core : Core) (coder : Coder) (test : ℕ) (a b : Stmt) (w v : Work) (o : Open) → w.now ≡ Some o → v ≡ record w { now = None } → reaches b Falls ≡ true → choice_of core coder true test a b v o ≡ lower_of core coder (If test a b) w
if_true core coder test a b w v o some taken reached =
    ap (λ (x : Work). choice_of core coder true test a b x o) taken ∙ sym (ap (λ (r : Bool). if r then choice_of core coder true test a b w o else choice_of core coder false test b a w o) reached) ∙ sym (opened_some w (choose core coder test a b w) w.now o some)

pub if_false : (core : Core) (coder : Coder) (test : ℕ) (a b : Stmt) (w v : Work) (o : Open) → w.now ≡ Some o → v ≡ record w { now = None } → reaches b Falls ≡ false → choice_of core coder false test b a v o ≡ lower_of core coder (If test a b) w
if_false core coder test a b w v o some taken reached =
    ap (λ (x : Work). choice_of core coder false test b a x o) taken ∙ sym (ap (λ (r : Bool). if r then choice_of core coder true test a b w o else choice_of core coder false test b a w o) reached) ∙ sym (opened_some w (choose core coder test a b w) w.now o some)

pub put_back : (w v u : Work) (o : Open) → w.now ≡ Some o → v ≡ record w { now = None } → u ≡ record v { now = Some o } → u ≡ w
put_back w v u o some taken put = put ∙ ap (λ (x : Work). record x { now = Some o }) taken ∙ ap (λ (n : Option Open). record w { now = n }) (sym some)

pub block_some : (core : Core) (coder : Coder) (a : Stmt) (w u : Work) (o : Open) → w.now ≡ Some o → u ≡ w → block_of core coder a u ≡ lower_of core coder (Block a) w
block_some core coder a w u o some same = ap (block_of core coder a) same ∙ sym (opened_some w (λ o. block_of core coder a w) w.now o some)

pub loop_some : (core : Core) (coder : Coder) (a : Stmt) (needs : ℕ → Bool) (w v : Work) (o : Open) → w.now ≡ Some o → v ≡ record w { now = None } → needs ≡ start_needs core.exprs a o.values → loop_of core coder a needs v o ≡ lower_of core coder (Loop a) w
loop_some core coder a needs w v o some taken same =
    ap (λ (f : ℕ → Bool). loop_of core coder a f v o) same ∙ ap (λ (x : Work). loop_of core coder a (start_needs core.exprs a o.values) x o) taken
    ∙ sym (opened_some w (λ p. loop_of core coder a (start_needs core.exprs a p.values) w p) w.now o some)
