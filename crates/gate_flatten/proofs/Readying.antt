-- Gates with their arguments.
use Rattle.std.proofs.Common.{◌≡◌, ◌≢◌, ℕ, zero, suc, All, ◌+◌, ◌-◌, ◌<◌, ◌≤◌, true, false, nat_eq, List, [], ◌∷◌, ◌++◌, length, map, drop, get_or, ℤ, Some, Result, Ok, Err, refl, sym, ap, ◌∙◌, append_assoc, add-one, arith}
use Rattle.std.proofs.lemmas.Bool.{eq-eqb, ne_eqb}
use Rattle.std.proofs.lemmas.Option.{slice_get_within}
use Rattle.std.proofs.lemmas.List.{append-nil, length-map, map-append}
use Rattle.std.proofs.Math.ListN.{drop_of_length-le}
use Rattle.std.proofs.Math.Seq.{drop-cons}
use Rattle.qq_base.specs.declared.refusal.Fault.{Fault}
use Rattle.qq_base.specs.declared.refusal.Fault.TheVariants as fault
use Rattle.qq_base.specs.declared.refusal.Refusal.{Refusal}
use Rattle.qq_base.specs.declared.refusal.Span.{Span}
use Rattle.qq_base.specs.declared.rule.Rule.TheVariants.{ArgumentCount, TooLarge}
use Rattle.gate_table.specs.declared.table.Row.{Row}
use Rattle.gate_table.specs.Table.{row_of, rows}
use Rattle.qasm_ast.specs.declared.expr.ExprId.{ExprId}
use Rattle.qasm_ast.specs.declared.stmt.StmtId.{StmtId}
use Rattle.qasm_ast.specs.Tree.{Name, Statements, place_of}
use Rattle.qasm_ast.specs.View.{tree_in, trees_in}
use Rattle.qasm_ast.specs.Whole.{Source}
use Rattle.const_eval.specs.Answers.{Fails}
use Rattle.const_eval.specs.Refusing.{refused, go_on}
use Rattle.const_eval.specs.Walk.{behind, done}
use Rattle.gate_lists.specs.declared.budget.Budget.{Budget}
use Rattle.gate_lists.specs.declared.member.Amount.{Amount}
use Rattle.gate_lists.specs.Amounts.{units_in, IsNamed, params_of, qubits_of}
use Rattle.gate_lists.specs.Paid.{paid_from, paid_behind, paid_behind_stops, paid_asked}
use Rattle.gate_arguments.specs.declared.scope.Argument.{Argument}
use Rattle.gate_arguments.specs.Arguments.{places_of, units_at, units_of_all}
use Rattle.gate_arguments.specs.Seen.{argument_seen, arguments_seen}
use Rattle.gate_flatten.specs.Expand.{TableGate, DefinedGate, TableReady, DefinedReady, ready}

-- ---- what costs 1

pub one_paid : {A : Type 0} (b b' : Budget) (a : A) → 1 ≤ b.left → b' ≡ record { left = b.left - 1; place = b.place } → paid_from b (behind 1 (done a)) ≡ Ok (a, b')
one_paid b b' a le e = rw e (paid_behind b 1 (done a) le ∙ paid_asked _ a)

pub one_unpaid : {A : Type 0} (b : Budget) (a : A) → b.left < 1 → paid_from b (behind 1 (done a)) ≡ refused TooLarge b.place
one_unpaid b a less = paid_behind_stops b 1 (done a) less

-- ---- units

-- units that were found, in front of those that are left
abbrev before_units : List ℤ → Result (List ℤ) Refusal → Result (List ℤ) Refusal
before_units found r = go_on r (λ later. Ok (found ++ later))

before_one : (found : List ℤ) (z : ℤ) (r : Result (List ℤ) Refusal) → before_units found (go_on r (λ zs. Ok (z ∷ zs))) ≡ before_units (found ++ z ∷ []) r
before_one found z (Ok later) = ap Ok (sym (append_assoc found (z ∷ []) later))
before_one found z (Err e) = refl

module _ (p : Source) (worths : ℕ → ℤ) (args : List ExprId) (arguments : List Argument) where
  abbrev pub units_from : List Amount → ℕ → Result (List ℤ) Refusal
  units_from found k = before_units (map (units_in worths) found) (units_of_all (places_of (trees_in p (drop k args))) (arguments_seen worths (drop k arguments)))

  pub units_start : units_of_all (places_of (trees_in p args)) (arguments_seen worths arguments) ≡ units_from [] 0
  units_start = of (units_of_all (places_of (trees_in p args)) (arguments_seen worths arguments))
    where
      of : (r : Result (List ℤ) Refusal) → r ≡ before_units [] r
      of (Ok later) = refl
      of (Err e) = refl

  pub units_more : (found : List Amount) (k : ℕ) (d : ExprId) (e : Argument) (amount : Amount) → k < length args → k < length arguments
      → units_at (place_of (tree_in p (get_or args k d).0)) (argument_seen worths (get_or arguments k e)) ≡ Ok (units_in worths amount)
      → units_from found k ≡ units_from (found ++ amount ∷ []) (k + 1)
  units_more found k d e amount lt less is =
      rw (drop-cons args k d lt, drop-cons arguments k e less, add-one k, is, map-append (units_in worths) found (amount ∷ []))
      (before_one (map (units_in worths) found) (units_in worths amount) (units_of_all (places_of (trees_in p (drop (suc k) args))) (arguments_seen worths (drop (suc k) arguments))))

  pub units_refused : (found : List Amount) (k : ℕ) (d : ExprId) (e : Argument) (why : Fault) → k < length args → k < length arguments
      → Fails why (units_at (place_of (tree_in p (get_or args k d).0)) (argument_seen worths (get_or arguments k e)))
      → Fails why (units_from found k)
  units_refused found k d e fault.Memory lt less is = tt
  units_refused found k d e (fault.Refused refusal) lt less is = rw (drop-cons args k d lt, drop-cons arguments k e less, is) refl

  pub units_end : (found : List Amount) (k : ℕ) → length args ≤ k → length arguments ≤ k → units_from found k ≡ Ok (map (units_in worths) found)
  units_end found k le more = rw (drop_of_length-le args le) (ap Ok (append-nil (map (units_in worths) found)))

-- ---- gates with their arguments

module _ (worths : ℕ → ℤ) (name : Span) (places : List Span) (arguments : List Argument) where
  module _ (id : ℕ) (row : Row) where
    pub table_ready : (units : List ℤ) → length arguments ≡ row.params → units_of_all places (arguments_seen worths arguments) ≡ Ok units
        → ready name places (arguments_seen worths arguments) (TableGate id row) ≡ Ok (TableReady id row.qubits units)
    table_ready units count e =
        let same : nat_eq (length (arguments_seen worths arguments)) row.params ≡ true = eq-eqb _ _ (length-map arguments (argument_seen worths) ∙ count) in
        rw (same, e) refl

    pub table_fails : (why : Fault) → length arguments ≡ row.params → Fails why (units_of_all places (arguments_seen worths arguments))
        → Fails why (ready name places (arguments_seen worths arguments) (TableGate id row))
    table_fails fault.Memory count e = tt
    table_fails (fault.Refused refusal) count e =
        let same : nat_eq (length (arguments_seen worths arguments)) row.params ≡ true = eq-eqb _ _ (length-map arguments (argument_seen worths) ∙ count) in
        rw (same, e) refl

    pub table_miscounted : length arguments ≢ row.params
        → ready name places (arguments_seen worths arguments) (TableGate id row) ≡ refused ArgumentCount name
    table_miscounted other =
        let differs : nat_eq (length (arguments_seen worths arguments)) row.params ≡ false = ne_eqb _ _ (λ same. other (sym (length-map arguments (argument_seen worths)) ∙ same)) in
        rw differs refl

  module _ (id : StmtId) (params names : List Name) (body : Statements) where
    pub defined_ready : length arguments ≡ length params
        → ready name places (arguments_seen worths arguments) (DefinedGate id params names body) ≡ Ok (DefinedReady id params names body (arguments_seen worths arguments))
    defined_ready count =
        let same : nat_eq (length (arguments_seen worths arguments)) (length params) ≡ true = eq-eqb _ _ (length-map arguments (argument_seen worths) ∙ count) in
        rw same refl

    pub defined_miscounted : length arguments ≢ length params
        → ready name places (arguments_seen worths arguments) (DefinedGate id params names body) ≡ refused ArgumentCount name
    defined_miscounted other =
        let differs : nat_eq (length (arguments_seen worths arguments)) (length params) ≡ false = ne_eqb _ _ (λ same. other (sym (length-map arguments (argument_seen worths)) ∙ same)) in
        rw differs refl

-- ---- rows of the table

pub row_inside : (id : ℕ) (row : Row) → row_of id ≡ Some row → id < 31
row_inside id row e = let lt = slice_get_within rows id row e in lt

pub row_params : (id : ℕ) (row : Row) → row_of id ≡ Some row → row.params ≡ params_of id
unfolding params_of
row_params id row e = rw e refl

pub row_qubits : (id : ℕ) (row : Row) → row_of id ≡ Some row → row.qubits ≡ qubits_of id
unfolding qubits_of
row_qubits id row e = rw e refl

pub one_named : (turns : ℕ) (a : Amount) → IsNamed turns a → All (IsNamed turns) (a ∷ [])
one_named turns a named zero d lt = named
one_named turns a named (suc k) d lt = absurd (omega arith)
