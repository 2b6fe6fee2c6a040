-- The steps of a call, of an application and of a body, as the code takes them.
use Rattle.std.proofs.Common.{◌≡◌, ℕ, suc, ◌+◌, ◌-◌, ◌<◌, ◌≤◌, List, [], ◌++◌, length, take, drop, get_or, ℤ, Result, Ok, Err, refl, sym, ap, ◌∙◌, arith}
use Rattle.std.proofs.lemmas.List.{length-map, map-append}
use Rattle.qq_base.specs.declared.refusal.Fault.{Fault}
use Rattle.qq_base.specs.declared.refusal.Fault.TheVariants as fault
use Rattle.qq_base.specs.declared.refusal.Refusal.{Refusal}
use Rattle.qq_base.specs.declared.rule.Rule.TheVariants.{TooLarge}
use Rattle.qq_base.specs.declared.run.QubitId.{QubitId}
use Rattle.qasm_ast.specs.declared.stmt.StmtId.{StmtId}
use Rattle.qasm_ast.specs.Tree.{Statement}
use Rattle.qasm_ast.specs.View.{name_in, statement_in, statements_in}
use Rattle.qasm_ast.specs.Whole.{Source}
use Rattle.alias_resolve.specs.Places.{Selected}
use Rattle.const_eval.specs.Answers.{Fails}
use Rattle.const_eval.specs.Refusing.{refused, go_on}
use Rattle.const_eval.specs.Walk.{Walk, each_in_turn}
use Rattle.gate_lists.specs.declared.budget.Budget.{Budget}
use Rattle.gate_lists.specs.declared.member.Member.{Member}
use Rattle.gate_lists.specs.declared.modified.Modified.{Modified}
use Rattle.gate_lists.specs.Instructions.{Instruction}
use Rattle.gate_lists.specs.Members.{instructions_in}
use Rattle.gate_lists.specs.Modifiers.{control_count, modified_list}
use Rattle.gate_lists.specs.Paid.{paid_from, paid_then, fails_then, AnswersWithin}
use Rattle.gate_arguments.specs.Scope.{Declarations, Scope}
use Rattle.gate_flatten.specs.Applications.{Placed, application, applications, distinct}
use Rattle.gate_flatten.specs.Expand.{Ready, applied, body_list, gate_list, list_on, qubit_count}
use Rattle.gate_flatten.proofs.Bodies.{without, from_statement, statement_more, statement_fails, statement_unpaid, from_application, application_more, application_fails}
use Rattle.gate_flatten.proofs.Calling.{asked_then, asked_fails}
use Rattle.gate_flatten.specs.declared.gate.Ready.{Ready as CodeReady}
use Rattle.gate_flatten.specs.declared.gate.Ready.TheVariants as code
use Rattle.gate_flatten.specs.Served.{count_of, ready_seen}
use Rattle.gate_flatten.proofs.Fronts.{in_front, front_nothing}

-- ---- bodies

module _ (p : Source) (member : Statement → Walk (List Instruction)) (worths : ℕ → ℤ) (ids : List StmtId) (whole : Result (List Instruction × Budget) Refusal) (found : List Member) (k : ℕ) (d : StmtId) (b : Budget)
    (so_far : whole ≡ in_front (instructions_in worths found) (paid_from b (from_statement p member k ids))) (lt : k < length ids) where
  pub body_goes_on : (more : List Member) (mid b' : Budget) → 1 ≤ b.left → mid ≡ without 1 b → paid_from mid (member (statement_in p (get_or ids k d).0)) ≡ Ok (instructions_in worths more, b')
      → whole ≡ in_front (instructions_in worths (found ++ more)) (paid_from b' (from_statement p member (k + 1) ids))
  body_goes_on more mid b' paid is e =
      so_far
      ∙ statement_more p member ids (instructions_in worths found) (instructions_in worths more) k d b b' lt paid (rw (← is) e)
      ∙ ap (λ (found : List Instruction). in_front found (paid_from b' (from_statement p member (k + 1) ids))) (sym (map-append _ found more))

  pub body_fails : (mid : Budget) (why : Fault) → 1 ≤ b.left → mid ≡ without 1 b → Fails why (paid_from mid (member (statement_in p (get_or ids k d).0))) → Fails why whole
  body_fails mid why paid is e = rw so_far (statement_fails p member ids (instructions_in worths found) k d b why lt paid (rw (← is) e))

  pub body_unpaid : b.left < 1 → whole ≡ refused TooLarge b.place
  body_unpaid less = so_far ∙ statement_unpaid p member ids (instructions_in worths found) k d b lt less

-- ---- applications

module _ (declared : Declarations) (member : Scope → Statement → Walk (List Instruction)) (open_gates : List StmtId) (made : Ready) (modifiers : List Modified) where
  module _ (worths : ℕ → ℤ) (ss : List (Placed (Selected QubitId))) (times : ℕ) (whole : Result (List Instruction × Budget) Refusal) (found : List Member) (k : ℕ) (b : Budget)
      (so_far : whole ≡ in_front (instructions_in worths found) (paid_from b (from_application (applied declared member open_gates made modifiers) ss k (times - k)))) (lt : k < times) where
    one_less : times - k ≡ suc (times - (k + 1))
    one_less = omega arith

    pub qubits_fail : (why : Fault) → Fails why (distinct [] (application ss k)) → Fails why whole
    qubits_fail why e =
        rw so_far (application_fails (applied declared member open_gates made modifiers) ss (instructions_in worths found) k (times - k) (times - (k + 1)) b why one_less
        (asked_fails b _ (λ qs. list_on declared member open_gates made modifiers qs) why e))

    module _ (qs : List QubitId) (are : distinct [] (application ss k) ≡ Ok qs) where
      pub application_goes_on : (more : List Member) (b' : Budget) → paid_from b (list_on declared member open_gates made modifiers qs) ≡ Ok (instructions_in worths more, b')
          → whole ≡ in_front (instructions_in worths (found ++ more)) (paid_from b' (from_application (applied declared member open_gates made modifiers) ss (k + 1) (times - (k + 1))))
      application_goes_on more b' e =
          so_far
          ∙ application_more (applied declared member open_gates made modifiers) ss (instructions_in worths found) (instructions_in worths more) k (times - k) (times - (k + 1)) b b' one_less
          (asked_then b _ (λ qs. list_on declared member open_gates made modifiers qs) qs are ∙ e)
          ∙ ap (λ (found : List Instruction). in_front found (paid_from b' (from_application (applied declared member open_gates made modifiers) ss (k + 1) (times - (k + 1))))) (sym (map-append _ found more))

      pub application_is_refused : (why : Fault) → Fails why (paid_from b (list_on declared member open_gates made modifiers qs)) → Fails why whole
      application_is_refused why e =
          rw so_far (application_fails (applied declared member open_gates made modifiers) ss (instructions_in worths found) k (times - k) (times - (k + 1)) b why one_less
          (rw (asked_then b _ (λ qs. list_on declared member open_gates made modifiers qs) qs are) e))

  -- the list of the gate, and then what its modifiers make of it
  module _ (qs own controls : List QubitId) (n : ℕ) (count : control_count modifiers ≡ n) (are_own : own ≡ drop n qs) (are_controls : controls ≡ take n qs) (b : Budget) where
    pub list_fails : (why : Fault) → Fails why (paid_from b (gate_list declared member open_gates made own)) → Fails why (paid_from b (list_on declared member open_gates made modifiers qs))
    list_fails why e =
        fails_then b (gate_list declared member open_gates made (drop (control_count modifiers) qs)) (λ is. modified_list modifiers (take (control_count modifiers) qs) is) why
        (rw (count, ← are_own) e)

    pub list_modified : {A : Type 0} (seen : A → List Instruction) (result : Result A Fault) (is : List Instruction) (b1 b2 : Budget) → paid_from b (gate_list declared member open_gates made own) ≡ Ok (is, b1)
        → AnswersWithin b1 b2 seen result (modified_list modifiers controls is)
        → AnswersWithin b b2 seen result (list_on declared member open_gates made modifiers qs)
    list_modified seen result is b1 b2 e answers =
        let first : paid_from b (gate_list declared member open_gates made (drop (control_count modifiers) qs)) ≡ Ok (is, b1) = rw (count, ← are_own) e in
        rw (paid_then b b1 (gate_list declared member open_gates made (drop (control_count modifiers) qs)) (λ is. modified_list modifiers (take (control_count modifiers) qs) is) is first, count, ← are_controls) answers

-- ---- the scope of a body

-- the scope is there where the names differ
pub names_are_new : {A : Type 0} (r : Result (Unit {0}) Refusal) (s t : A) → go_on r (λ _. Ok s) ≡ Ok t → (r ≡ Ok tt) × (s ≡ t)
names_are_new (Ok u) s t e = (refl, cc)
names_are_new (Err refusal) s t e = absurd cc

pub names_fail : {A : Type 0} (r : Result (Unit {0}) Refusal) (s : A) (why : Fault) → Fails why (go_on r (λ _. Ok s)) → Fails why r
names_fail r s fault.Memory e = tt
names_fail (Ok u) s (fault.Refused refusal) e = absurd cc
names_fail (Err other) s (fault.Refused refusal) e = let same : other ≡ refusal = cc in ap Err same

-- how many qubits a gate takes
pub ready_count : (p : Source) (worths : ℕ → ℤ) (r : CodeReady) → qubit_count (ready_seen p worths r) ≡ count_of r
ready_count p worths (code.Table gate args count) = refl
ready_count p worths (code.Defined d arguments) = length-map d.qubits.now (name_in p)

-- ---- how they begin

pub applications_start : (f : List (Placed QubitId) → Walk (List Instruction)) (ss : List (Placed (Selected QubitId))) (times : ℕ) (b : Budget)
    → paid_from b (each_in_turn f (applications times ss)) ≡ in_front [] (paid_from b (from_application f ss 0 (times - 0)))
applications_start f ss times b = let same : times - 0 ≡ times = omega arith in rw same (front_nothing (paid_from b (each_in_turn f (applications times ss))))

pub body_starts : (p : Source) (member : Statement → Walk (List Instruction)) (ids : List StmtId) (b : Budget)
    → paid_from b (body_list member (statements_in p ids)) ≡ in_front [] (paid_from b (from_statement p member 0 ids))
body_starts p member ids b = front_nothing (paid_from b (body_list member (statements_in p ids)))
