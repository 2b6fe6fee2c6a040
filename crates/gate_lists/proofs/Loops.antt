-- Controls and modifiers are applied from the last to the first: what is refused at one is refused at all in front of it.
use Rattle.std.proofs.Common.{◌≡◌, ℕ, zero, suc, ◌+◌, ◌-◌, ◌<◌, ◌≤◌, List, [], ◌∷◌, length, take, drop, get_or, ℤ, Result, Ok, Err, refl, sym, ap, ◌∙◌, add-one, arith}
use Rattle.std.proofs.lemmas.List.{drop-drop, take_all}
use Rattle.std.proofs.Math.ListN.{drop_of_length-le}
use Rattle.std.proofs.Math.Seq.{drop-cons}
use Rattle.qq_base.specs.declared.refusal.Fault.{Fault}
use Rattle.qq_base.specs.declared.refusal.Fault.TheVariants as fault
use Rattle.qq_base.specs.declared.refusal.Refusal.{Refusal}
use Rattle.qq_base.specs.declared.refusal.Span.{Span}
use Rattle.qq_base.specs.declared.run.QubitId.{QubitId}
use Rattle.const_eval.specs.Refusing.{go_on}
use Rattle.const_eval.specs.Answers.{Fails}
use Rattle.const_eval.specs.Walk.{then_walk}
use Rattle.gate_lists.specs.declared.budget.Budget.{Budget}
use Rattle.gate_lists.specs.declared.member.Member.{Member}
use Rattle.gate_lists.specs.declared.modified.Modified.{Modified}
use Rattle.gate_lists.specs.Instructions.{Instruction, under_controls, controlled_list}
use Rattle.gate_lists.specs.Members.{instructions_in, AreNamed}
use Rattle.gate_lists.specs.Modifiers.{controls_of, control_count, changed_list, modified_list}
use Rattle.gate_lists.specs.Paid.{paid_from, paid_then, paid_stops, paid_asked}

-- ---- controls

pub under_one_more : (place : Span) (controls : List QubitId) (is js : List Instruction) (k : ℕ) (d : QubitId) → k < length controls
    → under_controls place (drop (k + 1) controls) is ≡ Ok js
    → under_controls place (drop k controls) is ≡ controlled_list place (get_or controls k d) js
under_one_more place controls is js k d lt e =
    let rest : under_controls place (drop (suc k) controls) is ≡ Ok js = rw (← add-one k) e in
    rw (drop-cons controls k d lt, rest) refl

pub under_refused : (place : Span) (controls : List QubitId) (is : List Instruction) (k : ℕ) (refusal : Refusal)
    → under_controls place (drop k controls) is ≡ Err refusal → under_controls place controls is ≡ Err refusal
under_refused place controls is zero refusal e = e
under_refused place [] is (suc k) refusal e = e
under_refused place (control ∷ controls) is (suc k) refusal e =
    ap (λ r. go_on r (controlled_list place control)) (under_refused place controls is k refusal e)

-- ---- modifiers

-- how many controls stand in front of the modifiers from k on
abbrev pub controls_before : List Modified → ℕ → ℕ
controls_before ms k = control_count (take k ms)

before_suc : (ms : List Modified) (k : ℕ) (d : Modified) → k < length ms → controls_before ms (suc k) ≡ controls_before ms k + controls_of (get_or ms k d)
before_suc [] k d lt = absurd (omega arith)
before_suc (m ∷ ms) zero d lt = omega arith
before_suc (m ∷ ms) (suc k) d lt = omega (arith, before_suc ms k d (omega arith))

pub controls_before_more : (ms : List Modified) (k : ℕ) (d : Modified) → k < length ms → controls_before ms (k + 1) ≡ controls_before ms k + controls_of (get_or ms k d)
controls_before_more ms k d lt = ap (controls_before ms) (add-one k) ∙ before_suc ms k d lt

module _ (budget : Budget) where
  -- what the modifiers from k on make of a list, with the controls that are theirs
  abbrev pub made_from : List Modified → List QubitId → List Instruction → ℕ → Result (List Instruction × Budget) Refusal
  made_from ms controls is k = paid_from budget (modified_list (drop k ms) (drop (controls_before ms k) controls) is)

  pub made_refused : (ms : List Modified) (controls : List QubitId) (is : List Instruction) (k : ℕ) (refusal : Refusal)
      → made_from ms controls is k ≡ Err refusal → paid_from budget (modified_list ms controls is) ≡ Err refusal
  made_refused ms controls is zero refusal e = e
  made_refused [] controls is (suc k) refusal e = e
  made_refused (m ∷ ms) controls is (suc k) refusal e =
      let own = drop (controls_of m) controls in
      let same : drop (controls_before ms k) own ≡ drop (controls_of m + controls_before ms k) controls = drop-drop (controls_before ms k) (controls_of m) controls in
      let inner : made_from ms own is k ≡ Err refusal = rw same e in
      paid_stops budget (modified_list ms own is) (changed_list m (take (controls_of m) controls)) refusal (made_refused ms own is k refusal inner)

-- ---- loops

-- what the controls from k on made
pub record IsUnder (place : Span) (controls : List QubitId) (list members : List Member) (k : ℕ) : Type 0 where
  pub exact : (worths : ℕ → ℤ) → under_controls place (drop k controls) (instructions_in worths list) ≡ Ok (instructions_in worths members)
  pub named : (turns : ℕ) → AreNamed turns list → AreNamed turns members
  pub count : length members ≡ length list

pub under_none : (place : Span) (controls : List QubitId) (list : List Member) (k : ℕ) → length controls ≤ k → IsUnder place controls list list k
under_none place controls list k le = record {
  exact = λ worths. rw (drop_of_length-le controls le) refl;
  named = λ turns all. all;
  count = refl;
}

pub under_less : (place : Span) (controls : List QubitId) (list members next : List Member) (k : ℕ) (d : QubitId) → IsUnder place controls list members k
    → 0 < k → k ≤ length controls
    → ((worths : ℕ → ℤ) → controlled_list place (get_or controls (k - 1) d) (instructions_in worths members) ≡ Ok (instructions_in worths next))
    → ((turns : ℕ) → AreNamed turns members → AreNamed turns next) → length next ≡ length members
    → IsUnder place controls list next (k - 1)
under_less place controls list members next k d so some inside made named count =
    let back : k - 1 + 1 ≡ k = omega arith in
    let lt : k - 1 < length controls = omega arith in
    record {
      exact = λ worths. under_one_more place controls (instructions_in worths list) (instructions_in worths members) (k - 1) d lt (rw back (so.exact worths)) ∙ made worths;
      named = λ turns all. named turns (so.named turns all);
      count = count ∙ so.count;
    }

pub under_fails : (place : Span) (controls : List QubitId) (list members : List Member) (k : ℕ) (d : QubitId) → IsUnder place controls list members k
    → 0 < k → k ≤ length controls → (worths : ℕ → ℤ) (why : Fault)
    → Fails why (controlled_list place (get_or controls (k - 1) d) (instructions_in worths members))
    → Fails why (under_controls place controls (instructions_in worths list))
under_fails place controls list members k d so some inside worths fault.Memory e = tt
under_fails place controls list members k d so some inside worths (fault.Refused refusal) e =
    let back : k - 1 + 1 ≡ k = omega arith in
    let lt : k - 1 < length controls = omega arith in
    under_refused place controls (instructions_in worths list) (k - 1) refusal
    (under_one_more place controls (instructions_in worths list) (instructions_in worths members) (k - 1) d lt (rw back (so.exact worths)) ∙ e)

pub under_all : (place : Span) (controls : List QubitId) (list members : List Member) (k : ℕ) → IsUnder place controls list members k → k ≤ 0
    → (worths : ℕ → ℤ) → under_controls place controls (instructions_in worths list) ≡ Ok (instructions_in worths members)
under_all place controls list members zero so le worths = so.exact worths
under_all place controls list members (suc k) so le worths = absurd (omega arith)

-- what the modifiers from k on made, where `end` controls are left
pub record IsModified (first now : Budget) (ms : List Modified) (controls : List QubitId) (list members : List Member) (k end : ℕ) : Type 0 where
  pub exact : (worths : ℕ → ℤ) → made_from first ms controls (instructions_in worths list) k ≡ Ok (instructions_in worths members, now)
  pub named : (turns : ℕ) → AreNamed turns list → AreNamed turns members
  pub paid : now.left + length members ≤ first.left + length list
  pub before : end ≡ controls_before ms k
  pub inside : end ≤ length controls

pub modified_none : (first : Budget) (ms : List Modified) (controls : List QubitId) (list : List Member) (k end : ℕ)
    → length ms ≤ k → end ≡ length controls → length controls ≡ control_count ms → IsModified first first ms controls list list k end
modified_none first ms controls list k end le is count = record {
  exact = λ worths. rw (drop_of_length-le ms le) (paid_asked first (instructions_in worths list));
  named = λ turns all. all;
  paid = omega arith;
  before = is ∙ count ∙ ap control_count (sym (take_all k ms le));
  inside = omega arith;
}

one_step : (first : Budget) (ms : List Modified) (controls : List QubitId) (is : List Instruction) (j : ℕ) (d : Modified) → j < length ms
    → made_from first ms controls is j
    ≡ paid_from first (then_walk (modified_list (drop (j + 1) ms) (drop (controls_before ms (j + 1)) controls) is) (changed_list (get_or ms j d) (take (controls_of (get_or ms j d)) (drop (controls_before ms j) controls))))
one_step first ms controls is j d lt =
    let m = get_or ms j d in
    let own = drop (controls_before ms j) controls in
    let next : drop (controls_of m) own ≡ drop (controls_before ms (j + 1)) controls
    = drop-drop (controls_of m) (controls_before ms j) controls ∙ ap (λ n. drop n controls) (sym (controls_before_more ms j d lt)) in
    ap (λ (ns : List Modified). paid_from first (modified_list ns own is)) (drop-cons ms j d lt)
    ∙ ap (λ (cs : List QubitId). paid_from first (then_walk (modified_list (drop (suc j) ms) cs is) (changed_list m (take (controls_of m) own)))) next
    ∙ ap (λ n. paid_from first (then_walk (modified_list (drop n ms) (drop (controls_before ms (j + 1)) controls) is) (changed_list m (take (controls_of m) own)))) (sym (add-one j))

-- one modifier more
step_is : (first now : Budget) (ms : List Modified) (controls : List QubitId) (list members : List Member) (k end : ℕ) (d : Modified)
    → IsModified first now ms controls list members k end → 0 < k → k ≤ length ms → (worths : ℕ → ℤ)
    → made_from first ms controls (instructions_in worths list) (k - 1)
    ≡ paid_from now (changed_list (get_or ms (k - 1) d) (take (controls_of (get_or ms (k - 1) d)) (drop (controls_before ms (k - 1)) controls)) (instructions_in worths members))
step_is first now ms controls list members k end d so some inside worths =
    let back : k - 1 + 1 ≡ k = omega arith in
    let lt : k - 1 < length ms = omega arith in
    let m = get_or ms (k - 1) d in
    let is = instructions_in worths list in
    one_step first ms controls is (k - 1) d lt
    ∙ paid_then first now (modified_list (drop (k - 1 + 1) ms) (drop (controls_before ms (k - 1 + 1)) controls) is) (changed_list m (take (controls_of m) (drop (controls_before ms (k - 1)) controls))) (instructions_in worths members) (rw back (so.exact worths))

pub enough_controls : (first now : Budget) (ms : List Modified) (controls : List QubitId) (list members : List Member) (k end : ℕ) (d : Modified)
    → IsModified first now ms controls list members k end → 0 < k → k ≤ length ms
    → end ≡ controls_before ms (k - 1) + controls_of (get_or ms (k - 1) d)
enough_controls first now ms controls list members k end d so some inside =
    let back : k - 1 + 1 ≡ k = omega arith in
    let lt : k - 1 < length ms = omega arith in
    so.before ∙ ap (controls_before ms) (sym back) ∙ controls_before_more ms (k - 1) d lt

pub modified_less : (first now next : Budget) (ms : List Modified) (controls own : List QubitId) (list members more : List Member) (k end start : ℕ) (d : Modified)
    → IsModified first now ms controls list members k end → 0 < k → k ≤ length ms
    → start ≡ end - controls_of (get_or ms (k - 1) d) → own ≡ take (end - start) (drop start controls)
    → ((worths : ℕ → ℤ) → paid_from now (changed_list (get_or ms (k - 1) d) own (instructions_in worths members)) ≡ Ok (instructions_in worths more, next))
    → ((turns : ℕ) → AreNamed turns members → AreNamed turns more) → next.left + length more ≤ now.left + length members
    → IsModified first next ms controls list more (k - 1) start
modified_less first now next ms controls own list members more k end start d so some inside begins owned made named paid =
    let m = get_or ms (k - 1) d in
    let all = enough_controls first now ms controls list members k end d so some inside in
    let at : start ≡ controls_before ms (k - 1) = omega (arith, begins, all) in
    let size : end - start ≡ controls_of m = omega (arith, begins, all) in
    let takes : own ≡ take (controls_of m) (drop (controls_before ms (k - 1)) controls)
    = owned ∙ ap (λ n. take n (drop start controls)) size ∙ ap (λ n. take (controls_of m) (drop n controls)) at in
    let before = so.paid in
    let within = so.inside in
    record {
      exact = λ worths. step_is first now ms controls list members k end d so some inside worths
          ∙ ap (λ (cs : List QubitId). paid_from now (changed_list m cs (instructions_in worths members))) (sym takes) ∙ made worths;
      named = λ turns all. named turns (so.named turns all);
      paid = omega arith;
      before = at;
      inside = omega (arith, begins);
    }

pub modified_fails : (first now : Budget) (ms : List Modified) (controls own : List QubitId) (list members : List Member) (k end start : ℕ) (d : Modified)
    → IsModified first now ms controls list members k end → 0 < k → k ≤ length ms
    → start ≡ end - controls_of (get_or ms (k - 1) d) → own ≡ take (end - start) (drop start controls)
    → (worths : ℕ → ℤ) (why : Fault)
    → Fails why (paid_from now (changed_list (get_or ms (k - 1) d) own (instructions_in worths members)))
    → Fails why (paid_from first (modified_list ms controls (instructions_in worths list)))
modified_fails first now ms controls own list members k end start d so some inside begins owned worths fault.Memory e = tt
modified_fails first now ms controls own list members k end start d so some inside begins owned worths (fault.Refused refusal) e =
    let m = get_or ms (k - 1) d in
    let all = enough_controls first now ms controls list members k end d so some inside in
    let at : start ≡ controls_before ms (k - 1) = omega (arith, begins, all) in
    let size : end - start ≡ controls_of m = omega (arith, begins, all) in
    let takes : own ≡ take (controls_of m) (drop (controls_before ms (k - 1)) controls)
    = owned ∙ ap (λ n. take n (drop start controls)) size ∙ ap (λ n. take (controls_of m) (drop n controls)) at in
    made_refused first ms controls (instructions_in worths list) (k - 1) refusal
    (step_is first now ms controls list members k end d so some inside worths
    ∙ ap (λ (cs : List QubitId). paid_from now (changed_list m cs (instructions_in worths members))) (sym takes) ∙ e)

pub modified_all : (first now : Budget) (ms : List Modified) (controls : List QubitId) (list members : List Member) (k end : ℕ)
    → IsModified first now ms controls list members k end → k ≤ 0 → (worths : ℕ → ℤ)
    → paid_from first (modified_list ms controls (instructions_in worths list)) ≡ Ok (instructions_in worths members, now)
modified_all first now ms controls list members zero end so le worths = so.exact worths
modified_all first now ms controls list members (suc k) end so le worths = absurd (omega arith)

-- ---- counts

pub count_left : (ms : List Modified) (k : ℕ) (d : Modified) → k < length ms → control_count (drop k ms) ≡ controls_of (get_or ms k d) + control_count (drop (k + 1) ms)
count_left ms k d lt = rw (drop-cons ms k d lt, add-one k) refl
