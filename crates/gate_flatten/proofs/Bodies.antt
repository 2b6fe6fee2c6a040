-- The statements of a body and the applications of a call, one after another.
use Rattle.std.proofs.Common.{◌≡◌, ℕ, suc, ◌+◌, ◌-◌, ◌<◌, ◌≤◌, List, ◌++◌, length, map, drop, get_or, Ok, ap, ◌∙◌, add-one}
use Rattle.std.proofs.Math.ListN.{drop_of_length-le}
use Rattle.std.proofs.Math.Seq.{drop-cons}
use Rattle.std.specs.List.{range_with_len}
use Rattle.qq_base.specs.declared.refusal.Fault.{Fault}
use Rattle.qq_base.specs.declared.refusal.Fault.TheVariants as fault
use Rattle.qq_base.specs.declared.rule.Rule.TheVariants.{TooLarge}
use Rattle.qq_base.specs.declared.run.QubitId.{QubitId}
use Rattle.qasm_ast.specs.declared.stmt.StmtId.{StmtId}
use Rattle.qasm_ast.specs.Tree.{Statement}
use Rattle.qasm_ast.specs.View.{statement_in, statements_in}
use Rattle.qasm_ast.specs.Whole.{Source}
use Rattle.alias_resolve.specs.Places.{Selected}
use Rattle.const_eval.specs.Answers.{Fails}
use Rattle.const_eval.specs.Refusing.{refused}
use Rattle.const_eval.specs.Walk.{Walk, behind, done, then_walk, each_in_turn}
use Rattle.gate_lists.specs.declared.budget.Budget.{Budget}
use Rattle.gate_lists.specs.Instructions.{Instruction}
use Rattle.gate_lists.specs.Paid.{paid_from, paid_behind, paid_behind_stops, fails_then}
use Rattle.gate_flatten.specs.Applications.{Placed, application}
use Rattle.gate_flatten.specs.Expand.{body_list}
use Rattle.gate_flatten.proofs.Fronts.{in_front, front_front, front_end, fails_front, some_more}

-- a budget of which something was paid
abbrev pub without : ℕ → Budget → Budget
without n b = record { left = b.left - n; place = b.place }

-- ---- bodies

module _ (p : Source) (member : Statement → Walk (List Instruction)) where
  abbrev pub from_statement : ℕ → List StmtId → Walk (List Instruction)
  from_statement k ids = body_list member (statements_in p (drop k ids))

  abbrev rest_behind : ℕ → List StmtId → List Instruction → Walk (List Instruction)
  rest_behind k ids is = then_walk (body_list member (statements_in p (drop (suc k) ids))) (λ js. done (is ++ js))

  pub statement_more : (ids : List StmtId) (found more : List Instruction) (k : ℕ) (d : StmtId) (b b' : Budget) → k < length ids → 1 ≤ b.left
      → paid_from (without 1 b) (member (statement_in p (get_or ids k d).0)) ≡ Ok (more, b')
      → in_front found (paid_from b (from_statement k ids)) ≡ in_front (found ++ more) (paid_from b' (from_statement (k + 1) ids))
  statement_more ids found more k d b b' lt le e =
      rw (drop-cons ids k d lt, add-one k) (
      ap (in_front found) (some_more b b' (behind 1 (member (statement_in p (get_or ids k d).0))) (body_list member (statements_in p (drop (suc k) ids))) more (paid_behind b 1 (member (statement_in p (get_or ids k d).0)) le ∙ e))
      ∙ front_front found more (paid_from b' (body_list member (statements_in p (drop (suc k) ids)))))

  pub statement_fails : (ids : List StmtId) (found : List Instruction) (k : ℕ) (d : StmtId) (b : Budget) (why : Fault) → k < length ids → 1 ≤ b.left
      → Fails why (paid_from (without 1 b) (member (statement_in p (get_or ids k d).0)))
      → Fails why (in_front found (paid_from b (from_statement k ids)))
  statement_fails ids found k d b why lt le e =
      let first : Fails why (paid_from b (behind 1 (member (statement_in p (get_or ids k d).0)))) = rw (paid_behind b 1 (member (statement_in p (get_or ids k d).0)) le) e in
      rw (drop-cons ids k d lt) (fails_front found _ why (fails_then b (behind 1 (member (statement_in p (get_or ids k d).0))) (rest_behind k ids) why first))

  pub statement_unpaid : (ids : List StmtId) (found : List Instruction) (k : ℕ) (d : StmtId) (b : Budget) → k < length ids → b.left < 1
      → in_front found (paid_from b (from_statement k ids)) ≡ refused TooLarge b.place
  statement_unpaid ids found k d b lt less =
      let first : Fails (fault.Refused (record { rule = TooLarge; at = b.place })) (paid_from b (behind 1 (member (statement_in p (get_or ids k d).0)))) = paid_behind_stops b 1 (member (statement_in p (get_or ids k d).0)) less in
      rw (drop-cons ids k d lt) (fails_front found _ (fault.Refused (record { rule = TooLarge; at = b.place })) (fails_then b (behind 1 (member (statement_in p (get_or ids k d).0))) (rest_behind k ids) (fault.Refused (record { rule = TooLarge; at = b.place })) first))

  pub all_statements : (ids : List StmtId) (found : List Instruction) (k : ℕ) (b : Budget) → length ids ≤ k → in_front found (paid_from b (from_statement k ids)) ≡ Ok (found, b)
  all_statements ids found k b le = rw (drop_of_length-le ids le) (front_end found b)

-- ---- applications

module _ (f : List (Placed QubitId) → Walk (List Instruction)) (ss : List (Placed (Selected QubitId))) where
  -- so many applications, from one on
  abbrev pub from_application : ℕ → ℕ → Walk (List Instruction)
  from_application k count = each_in_turn f (map (application ss) (range_with_len k count))

  one_application : (found more : List Instruction) (k count : ℕ) (b b' : Budget) → paid_from b (f (application ss k)) ≡ Ok (more, b')
      → in_front found (paid_from b (from_application k (suc count))) ≡ in_front (found ++ more) (paid_from b' (from_application (k + 1) count))
  one_application found more k count b b' e =
      ap (in_front found) (some_more b b' (f (application ss k)) (from_application (k + 1) count) more e)
      ∙ front_front found more (paid_from b' (from_application (k + 1) count))

  pub application_more : (found more : List Instruction) (k count less : ℕ) (b b' : Budget) → count ≡ suc less → paid_from b (f (application ss k)) ≡ Ok (more, b')
      → in_front found (paid_from b (from_application k count)) ≡ in_front (found ++ more) (paid_from b' (from_application (k + 1) less))
  application_more found more k count less b b' is e = rw is (one_application found more k less b b' e)

  pub application_fails : (found : List Instruction) (k count less : ℕ) (b : Budget) (why : Fault) → count ≡ suc less → Fails why (paid_from b (f (application ss k)))
      → Fails why (in_front found (paid_from b (from_application k count)))
  application_fails found k count less b why is e =
      rw is (fails_front found _ why (fails_then b (f (application ss k)) (λ is. then_walk (from_application (k + 1) less) (λ js. done (is ++ js))) why e))

  pub all_applications : (found : List Instruction) (k count : ℕ) (b : Budget) → count ≡ 0 → in_front found (paid_from b (from_application k count)) ≡ Ok (found, b)
  all_applications found k count b is = rw is (front_end found b)
