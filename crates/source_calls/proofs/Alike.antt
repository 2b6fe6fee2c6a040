-- A call gives the same at places that are alike.
use Rattle.std.proofs.Common.{◌≡◌, ℕ, zero, suc, ◌+◌, Bool, true, false, not, nat_eq, List, [], ◌∷◌, ◌++◌, drop, length, Option, Some, None, Result, Ok, Err, refl, ap, subst, ◌∙◌}
use Rattle.qq_base.specs.declared.refusal.Refusal.{Refusal}
use Rattle.qq_base.specs.declared.refusal.Span.{Span}
use Rattle.qq_base.specs.declared.rule.Rule.{Rule}
use Rattle.qq_base.specs.declared.rule.Rule.TheVariants.{WrongKind, ArgumentCount, Recursion, CallDepth}
use Rattle.qq_base.specs.declared.run.GateId.{GateId}
use Rattle.qq_base.specs.declared.run.QubitId.{QubitId}
use Rattle.gate_table.specs.declared.table.Row.{Row}
use Rattle.gate_table.specs.Table.{row_of}
use Rattle.qasm_ast.specs.declared.expr.BinaryOp.{BinaryOp}
use Rattle.qasm_ast.specs.declared.stmt.StmtId.{StmtId}
use Rattle.qasm_ast.specs.Tree.{Called, word, qubit, Name, Tree, named, wire, number, truth, bit_string, unary, binary, cast, call, cut, Trees, no_tree, a_tree, absent, present, Brackets, no_bracket, a_bracket, Operand, Change, inverse, power, control, Statement, gate, gate_call, barrier, Statements, no_statement, a_statement}
use Rattle.const_eval.specs.declared.environment.Callable.{Callable}
use Rattle.const_eval.specs.declared.environment.Callable.TheVariants as callable
use Rattle.const_eval.specs.Constant.{Constant}
use Rattle.const_eval.specs.Meaning.{Meaning, Held}
use Rattle.const_eval.specs.IsConstant.{is_constant}
use Rattle.const_eval.specs.Refusing.{refused, where_allowed, go_on}
use Rattle.const_eval.specs.Seen.{MeaningInside, HeldInside, CalledInside, NothingInside}
use Rattle.const_eval.specs.Walk.{Walk, asked, done, then_walk, each_in_turn}
use Rattle.const_eval.specs.ConstantWalk.{constant_walk}
use Rattle.gate_lists.specs.Instructions.{Instruction}
use Rattle.gate_lists.specs.Modifiers.{control_count}
use Rattle.gate_lists.specs.declared.modified.Modified.{Modified}
use Rattle.gate_arguments.specs.Scope.{Declarations, Scope, is_open, Given, parameter, parameter_or, meaning_given, qubits_given, meaning_around, called_around, qubits_around, body_qubits, body_scope, given_to, names_differ}
use Rattle.gate_arguments.specs.Arguments.{units_of_all, argument_walk, arguments_walk, called_value, counted, bracketed, selected_walk, operand_of, of_constancy}
use Rattle.gate_flatten.specs.Modifiers.{modifier_walk, modifiers_walk}
use Rattle.gate_flatten.specs.Applications.{Placed, placed_operands, times_of, applications, distinct}
use Rattle.gate_flatten.specs.Expand.{Gate, TableGate, DefinedGate, of_table, of_program, gate_called, Ready, TableReady, DefinedReady, ready, qubit_count, body_list, gate_list, applied, Call, call_of, called, member_list, call_list, expansion}
use Rattle.expr_names.specs.Names.{CalledIs, NamesAre, AllNamesAre, ModifierNamesAre, BracketNamesAre, OperandsNamesAre}
use Rattle.expr_names.specs.Laws.{Agree, ConstantsRestOnNames, OperandsRestOnNames}
use Rattle.source_calls.specs.Alike.{ModifiersNamesAre, CallNamesAre, MemberNamesAre, BodyNamesAre, is_gate, IsSameGate, CallablesAlike, InsideAlike, DeclarationsAlike, OpenAlike, ScopesAlike}

-- ---- walks

-- a walk, and what is made of its answer
then_same : {A B : Type 0} (w : Walk A) (f g : A → Walk B) → ((a : A) → f a ≡ g a) → then_walk w f ≡ then_walk w g
then_same {A = A} w f g same = by w.answer
  where
    by : (answer : Result A Refusal) → then_walk (record { cost = w.cost; answer = answer }) f ≡ then_walk (record { cost = w.cost; answer = answer }) g
    by (Ok a) = rw (same a) refl
    by (Err e) = refl

each_same : {A B : Type 0} (f g : A → Walk (List B)) → ((a : A) → f a ≡ g a) → (as' : List A) → each_in_turn f as' ≡ each_in_turn g as'
each_same f g same [] = refl
each_same f g same (a ∷ as') = rw (same a, each_same f g same as') refl

body_same : (is : List ℕ → Bool) (f g : Statement → Walk (List Instruction)) → ((s : Statement) → MemberNamesAre is s → f s ≡ g s) → (ss : Statements) → BodyNamesAre is ss → body_list f ss ≡ body_list g ss
body_same is f g same no_statement are = refl
body_same is f g same (a_statement s ss) are = rw (same s are.0, body_same is f g same ss are.1) refl

-- ---- arguments, modifiers and operands, in scopes whose names agree

module _ (is : List ℕ → Bool) (s t : Scope) (means : Agree is s.means t.means) (units : Agree is s.units t.units) (constants : ConstantsRestOnNames is s.means t.means) where
  value_same : (place : Span) (name : Called) → CalledIs is name → called_value s place name ≡ called_value t place name
  value_same place (word text) are = rw (means text are, units text are) refl
  value_same place (qubit n) are = refl

  selected_same : (place : Span) (bs : Brackets) (c : Constant) → BracketNamesAre is bs → selected_walk s place bs c ≡ selected_walk t place bs c
  selected_same place no_bracket c are = refl
  selected_same place (a_bracket b bs) c are = rw (constants.indexes true (a_bracket b bs) are) refl

  by_constancy : (a : Tree) → NamesAre is a → (one other : Walk Constant) → one ≡ other → of_constancy (is_constant s.means a) (constant_walk s.means true a) one ≡ of_constancy (is_constant t.means a) (constant_walk t.means true a) other
  by_constancy a are one other e = rw (constants.constancy a are, constants.walk true a are, e) refl

  operand_of_same : (o : BinaryOp) (a : Tree) → NamesAre is a → argument_walk s a ≡ argument_walk t a → operand_of o (constant_walk s.means true a) (argument_walk s a) ≡ operand_of o (constant_walk t.means true a) (argument_walk t a)
  operand_of_same o a are e = rw (constants.walk true a are, e) refl

  argument_same : (a : Tree) → NamesAre is a → argument_walk s a ≡ argument_walk t a
  argument_same (named name index o place) are =
      by_constancy (named name index o place) are _ _ (rw (value_same place name are.0) (then_same (counted (go_on (called_value t place name) (bracketed place index))) _ _ (λ c. selected_same place index c are.1)))
  argument_same (wire n place) are = refl
  argument_same (number n place) are = refl
  argument_same (truth b place) are = refl
  argument_same (bit_string bits place) are = refl
  argument_same (unary o a place) are = by_constancy (unary o a place) are _ _ (rw (argument_same a are) refl)
  argument_same (binary o a b place) are =
      by_constancy (binary o a b place) are _ _ (rw (operand_of_same o a are.0 (argument_same a are.0), operand_of_same o b are.1 (argument_same b are.1)) refl)
  argument_same (cast base width type_place a place) are =
      by_constancy (cast base width type_place a place) are _ _ (rw (constants.type true base type_place width are.0, argument_same a are.1) refl)
  argument_same (call name as' place) are = constants.walk true (call name as' place) are
  argument_same cut are = refl

  arguments_same : (as' : Trees) → AllNamesAre is as' → arguments_walk s as' ≡ arguments_walk t as'
  arguments_same no_tree are = refl
  arguments_same (a_tree a as') are = rw (argument_same a are.0, arguments_same as' are.1) refl

  modifier_same : (change : Change) → ModifierNamesAre is change → modifier_walk s.means change ≡ modifier_walk t.means change
  modifier_same (inverse place) are = refl
  modifier_same (power a place) are = rw (constants.whole true a are) refl
  modifier_same (control absent place) are = refl
  modifier_same (control (present a) place) are = rw (constants.whole false a are) refl

  modifiers_same : (changes : List Change) → ModifiersNamesAre is changes → modifiers_walk s.means changes ≡ modifiers_walk t.means changes
  modifiers_same [] are = refl
  modifiers_same (change ∷ changes) are = rw (modifier_same change are.0, modifiers_same changes are.1) refl

  module _ (operands : OperandsRestOnNames is s.means t.means) (qubits : (name : Called) → CalledIs is name → s.qubits name ≡ t.qubits name) where
    operands_same : (os : List Operand) → OperandsNamesAre is os → placed_operands s.means s.qubits os ≡ placed_operands t.means t.qubits os
    operands_same [] are = refl
    operands_same (o ∷ os) are = rw (operands s.qubits t.qubits qubits o are.0, operands_same os are.1) refl

-- ---- answers that are alike

-- `R` says what is alike; what is refused is the same
abbrev AnswersAlike : {A : Type 0} → (A → A → Type 0) → Result A Refusal → Result A Refusal → Type 0
AnswersAlike R (Ok a) (Ok b) = R a b
AnswersAlike R (Err e) (Err f) = e ≡ f
AnswersAlike R _ _ = ⊥

allowed_alike : {A : Type 0} (R : A → A → Type 0) (b : Bool) (rule : Rule) (place : Span) (x y : Result A Refusal) → AnswersAlike R x y → AnswersAlike R (where_allowed b rule place x) (where_allowed b rule place y)
allowed_alike R true rule place x y h = h
allowed_alike R false rule place x y h = refl

go_on_alike : {A B : Type 0} (R : B → B → Type 0) (x : Result A Refusal) (f g : A → Result B Refusal) → ((a : A) → AnswersAlike R (f a) (g a)) → AnswersAlike R (go_on x f) (go_on x g)
go_on_alike R (Ok a) f g h = h a
go_on_alike R (Err e) f g h = refl

-- walks that go on from such answers
asked_alike : {A B : Type 0} (R : A → A → Type 0) (x y : Result A Refusal) (f g : A → Walk B) → AnswersAlike R x y → ((a b : A) → R a b → f a ≡ g b) → then_walk (asked x) f ≡ then_walk (asked y) g
asked_alike R (Ok a) (Ok b) f g h same = rw (same a b h) refl
asked_alike R (Ok a) (Err e) f g h same = absurd h
asked_alike R (Err e) (Ok b) f g h same = absurd h
asked_alike R (Err d) (Err e) f g h same = ap (λ (r : Refusal). record { cost = 0; answer = Err r }) h

then_both : {A B : Type 0} (v w : Walk A) (f g : A → Walk B) → v ≡ w → ((a : A) → f a ≡ g a) → then_walk v f ≡ then_walk w g
then_both {A = A} v w f g e same = ap (λ (u : Walk A). then_walk u f) e ∙ then_same w f g same

-- ---- gates that are alike

module _ (is : List ℕ → Bool) (pair : StmtId → StmtId → Bool) where
  -- the same gate of the table, or the same definition with its two numbers
  abbrev GatesAlike : Gate → Gate → Type 0
  GatesAlike (TableGate i r) (TableGate j s) = TableGate i r ≡ TableGate j s
  GatesAlike (DefinedGate a params names body) (DefinedGate b params' names' body') = (pair a b ≡ true) × (DefinedGate a params names body ≡ DefinedGate a params' names' body') × BodyNamesAre is body
  GatesAlike _ _ = ⊥

  abbrev ReadiesAlike : Ready → Ready → Type 0
  ReadiesAlike (TableReady i n us) (TableReady j m vs) = TableReady i n us ≡ TableReady j m vs
  ReadiesAlike (DefinedReady a params names body cs) (DefinedReady b params' names' body' cs') = (pair a b ≡ true) × (DefinedReady a params names body cs ≡ DefinedReady a params' names' body' cs') × BodyNamesAre is body
  ReadiesAlike _ _ = ⊥

  table_alike : (place : Span) (id : ℕ) (row : Option Row) → AnswersAlike GatesAlike (of_table place id row) (of_table place id row)
  table_alike place id None = refl
  table_alike place id (Some row) = refl

  ready_alike : (name : Span) (places : List Span) (cs : List Constant) (g h : Gate) → GatesAlike g h → AnswersAlike ReadiesAlike (ready name places cs g) (ready name places cs h)
  ready_alike name places cs (TableGate i r) (TableGate j s) e =
      subst (λ (h : Gate). AnswersAlike ReadiesAlike (ready name places cs (TableGate i r)) (ready name places cs h)) e
      (allowed_alike ReadiesAlike (nat_eq (length cs) r.params) ArgumentCount name _ _ (go_on_alike ReadiesAlike (units_of_all places cs) _ _ (λ units. refl)))
  ready_alike name places cs (DefinedGate a params names body) (DefinedGate b params' names' body') (p, e, are) =
      let one : params ≡ params' = cc in
      let two : names ≡ names' = cc in
      let three : body ≡ body' = cc in
      rw (← one, ← two, ← three) (allowed_alike ReadiesAlike (nat_eq (length cs) (length params)) ArgumentCount name _ _ (p, refl, are))
  ready_alike name places cs (TableGate i r) (DefinedGate b params' names' body') e = absurd e
  ready_alike name places cs (DefinedGate a params names body) (TableGate j s) e = absurd e

  count_same : (m n : Ready) → ReadiesAlike m n → qubit_count m ≡ qubit_count n
  count_same (TableReady i n us) (TableReady j m vs) e = cc
  count_same (DefinedReady a params names body cs) (DefinedReady b params' names' body' cs') (p, e, are) = let two : names ≡ names' = cc in ap length two
  count_same (TableReady i n us) (DefinedReady b params' names' body' cs') e = absurd e
  count_same (DefinedReady a params names body cs) (TableReady j m vs) e = absurd e

  module _ (one other : Declarations) (alike : DeclarationsAlike is pair one other) where
    open_same : (a b : StmtId) → pair a b ≡ true → (os ps : List StmtId) → OpenAlike is pair one os ps → is_open a os ≡ is_open b ps
    open_same a b p [] [] h = refl
    open_same a b p (c ∷ os) (d ∷ ps) (q, h) = rw (alike.apart c d a b q p, open_same a b p os ps h) refl
    open_same a b p [] (d ∷ ps) h = absurd h
    open_same a b p (c ∷ os) [] h = absurd h

    no_gate : (place : Span) (a : StmtId) (os : List StmtId) (s : Statement) → is_gate s ≡ false → of_program place a s os ≡ refused WrongKind place
    no_gate place a os (gate name params qubits body at close) e = absurd cc
    no_gate place a os _ e = refl

    found_alike : (place : Span) (os ps : List StmtId) → OpenAlike is pair one os ps → (c d : Callable) → CallablesAlike is pair one c d → AnswersAlike GatesAlike (gate_called one os place c) (gate_called other ps place d)
    found_alike place os ps open_alike (callable.Row g) (callable.Row h) e =
        subst (λ (k : GateId). AnswersAlike GatesAlike (gate_called one os place (callable.Row g)) (gate_called other ps place (callable.Row k))) e (table_alike place g.0 (row_of g.0))
    found_alike place os ps open_alike (callable.Defined a) (callable.Defined b) p =
        let same : IsSameGate is (one.definition a) (other.definition b) = alike.gates a b p in
        rw (same.one.3, same.other.3, open_same a b p os ps open_alike)
        (allowed_alike GatesAlike (not (is_open b ps)) Recursion place (Ok (DefinedGate a same.params same.qubits same.body)) (Ok (DefinedGate b same.params same.qubits same.body)) (p, refl, same.names))
    found_alike place os ps open_alike (callable.Defined a) callable.Other e = rw (no_gate place a os (one.definition a) e) refl
    found_alike place os ps open_alike callable.Other callable.Other e = refl
    found_alike place os ps open_alike callable.Unknown callable.Unknown e = refl
    found_alike place os ps open_alike _ _ e = absurd e

    -- ---- bodies

    around_means : (x y : MeaningInside) → InsideAlike is pair one x y → meaning_around x ≡ meaning_around y
    around_means (HeldInside c) (HeldInside d) e = ap Held e
    around_means (CalledInside (callable.Row g)) (CalledInside (callable.Row h)) e = refl
    around_means (CalledInside (callable.Defined a)) (CalledInside (callable.Defined b)) e = refl
    around_means (CalledInside (callable.Defined a)) (CalledInside callable.Other) e = refl
    around_means (CalledInside callable.Other) (CalledInside callable.Other) e = refl
    around_means (CalledInside callable.Unknown) (CalledInside callable.Unknown) e = refl
    around_means NothingInside NothingInside e = refl
    around_means _ _ e = absurd e

    around_called : (x y : MeaningInside) → InsideAlike is pair one x y → CallablesAlike is pair one (called_around x) (called_around y)
    around_called (HeldInside c) (HeldInside d) e = tt
    around_called (CalledInside c) (CalledInside d) e = e
    around_called NothingInside NothingInside e = tt
    around_called _ _ e = absurd e

    around_qubits : (x y : MeaningInside) → InsideAlike is pair one x y → qubits_around x ≡ qubits_around y
    around_qubits (HeldInside c) (HeldInside d) e = refl
    around_qubits (CalledInside (callable.Row g)) (CalledInside (callable.Row h)) e = refl
    around_qubits (CalledInside (callable.Defined a)) (CalledInside (callable.Defined b)) e = refl
    around_qubits (CalledInside (callable.Defined a)) (CalledInside callable.Other) e = refl
    around_qubits (CalledInside callable.Other) (CalledInside callable.Other) e = refl
    around_qubits (CalledInside callable.Unknown) (CalledInside callable.Unknown) e = refl
    around_qubits NothingInside NothingInside e = refl
    around_qubits _ _ e = absurd e

    parameter_alike : (given : Option Given) (c d : Callable) → CallablesAlike is pair one c d → CallablesAlike is pair one (parameter_or (λ _. callable.Other) given c) (parameter_or (λ _. callable.Other) given d)
    parameter_alike (Some g) c d e = tt
    parameter_alike None c d e = e

    body_alike : (a b : StmtId) → pair a b ≡ true → (os ps : List StmtId) → OpenAlike is pair one os ps → (given : List (List ℕ × Given))
        → ScopesAlike is pair one (body_scope one os a given) (body_scope other ps b given)
    body_alike a b p os ps open_alike given = record {
      means = λ text h. ap (parameter_or meaning_given (parameter given text)) (around_means (one.inside a text) (other.inside b text) (alike.inside a b p text h));
      units = λ text h. refl;
      called = λ text h. parameter_alike (parameter given text) (called_around (one.inside a text)) (called_around (other.inside b text)) (around_called (one.inside a text) (other.inside b text) (alike.inside a b p text h));
      qubits = named_alike;
      open_gates = (p, open_alike);
    }
      where
        named_alike : (name : Called) → CalledIs is name → body_qubits given (one.inside a) name ≡ body_qubits given (other.inside b) name
        named_alike (word text) h = ap (parameter_or qubits_given (parameter given text)) (around_qubits (one.inside a text) (other.inside b text) (alike.inside a b p text h))
        named_alike (qubit n) h = refl

    -- ---- the list of a gate

    module _ (member member' : Scope → Statement → Walk (List Instruction))
        (members : (s t : Scope) → ScopesAlike is pair one s t → (m : Statement) → MemberNamesAre is m → member s m ≡ member' t m)
        (os ps : List StmtId) (open_alike : OpenAlike is pair one os ps) where
      gate_list_same : (m n : Ready) → ReadiesAlike m n → (qubits : List QubitId) → gate_list one member os m qubits ≡ gate_list other member' ps n qubits
      gate_list_same (TableReady i n us) (TableReady j m vs) e qubits = ap (λ (made : Ready). gate_list other member' ps made qubits) e
      gate_list_same (DefinedReady a params names body cs) (DefinedReady b params' names' body' cs') (p, e, are) qubits =
          then_same (asked (names_differ [] (params ++ names))) _ (λ _. body_list (member' (body_scope other ps b (given_to params cs names qubits))) body) (λ _.
          body_same is _ _ (members _ _ (body_alike a b p os ps open_alike (given_to params cs names qubits))) body are)
          ∙ ap (λ (made : Ready). gate_list other member' ps made qubits) (renumbered a b _ _ _ _ _ _ _ _ e)
        where
          renumbered : (a b : StmtId) (params params' names names' : List Name) (body body' : Statements) (cs cs' : List Constant) → DefinedReady a params names body cs ≡ DefinedReady a params' names' body' cs' → DefinedReady b params names body cs ≡ DefinedReady b params' names' body' cs'
          renumbered a b params params' names names' body body' cs cs' e = cc
      gate_list_same (TableReady i n us) (DefinedReady b params' names' body' cs') e qubits = absurd e
      gate_list_same (DefinedReady a params names body cs) (TableReady j m vs) e qubits = absurd e

      applied_same : (m n : Ready) → ReadiesAlike m n → (modifiers : List Modified) (qubits : List (Placed QubitId)) → applied one member os m modifiers qubits ≡ applied other member' ps n modifiers qubits
      applied_same m n e modifiers qubits =
          then_same (asked (distinct [] qubits)) _ _ (λ qs.
          then_both (gate_list one member os m (drop (control_count modifiers) qs)) (gate_list other member' ps n (drop (control_count modifiers) qs)) _ _ (gate_list_same m n e (drop (control_count modifiers) qs)) (λ is.
          refl))

    -- ---- calls

    module _ (constants : (u v : List ℕ → Meaning) → Agree is u v → ConstantsRestOnNames is u v)
        (operands : (u v : List ℕ → Meaning) → Agree is u v → OperandsRestOnNames is u v) where
      called_same : (member member' : Scope → Statement → Walk (List Instruction)) → ((s t : Scope) → ScopesAlike is pair one s t → (m : Statement) → MemberNamesAre is m → member s m ≡ member' t m)
          → (is_allowed : Bool) (s t : Scope) → ScopesAlike is pair one s t → (to : Call) → CallNamesAre is to → (values : List Constant)
          → called one member is_allowed s to values ≡ called other member' is_allowed t to values
      called_same member member' members is_allowed s t scopes to names values =
          let rest : ConstantsRestOnNames is s.means t.means = constants s.means t.means scopes.means in
          then_both (modifiers_walk s.means to.changes) (modifiers_walk t.means to.changes) _ _ (modifiers_same is s t scopes.means scopes.units rest to.changes names.changes) (λ modifiers.
          asked_alike GatesAlike _ _ _ _ (found_alike to.name.place s.open_gates t.open_gates scopes.open_gates (s.called to.name.text) (t.called to.name.text) (scopes.called to.name.text names.name)) (λ g h gates.
          asked_alike GatesAlike _ _ _ _ (allowed_alike GatesAlike is_allowed CallDepth to.name.place (Ok g) (Ok h) gates) (λ g h gates.
          asked_alike ReadiesAlike _ _ _ _ (ready_alike to.name.place to.places values g h gates) (λ m n readies.
          then_both (placed_operands s.means s.qubits to.operands) (placed_operands t.means t.qubits to.operands) _ _ (operands_same is s t scopes.means scopes.units rest (operands s.means t.means scopes.means) scopes.qubits to.operands names.operands) (λ os.
          then_both
          (asked (where_allowed (nat_eq (length os) (control_count modifiers + qubit_count m)) ArgumentCount to.name.place (times_of os)))
          (asked (where_allowed (nat_eq (length os) (control_count modifiers + qubit_count n)) ArgumentCount to.name.place (times_of os))) _ _
          (ap (λ (k : ℕ). asked (where_allowed (nat_eq (length os) (control_count modifiers + k)) ArgumentCount to.name.place (times_of os))) (count_same m n readies)) (λ times.
          each_same _ _ (applied_same member member' members s.open_gates t.open_gates scopes.open_gates m n readies modifiers) (applications times os)))))))

      member_same : (go go' : Scope → Call → List Constant → Walk (List Instruction))
          → ((s t : Scope) → ScopesAlike is pair one s t → (to : Call) → CallNamesAre is to → (values : List Constant) → go s to values ≡ go' t to values)
          → (s t : Scope) → ScopesAlike is pair one s t → (m : Statement) → MemberNamesAre is m → member_list one go s m ≡ member_list other go' t m
      member_same go go' same s t scopes (gate_call changes name as' os at close) are =
          let rest : ConstantsRestOnNames is s.means t.means = constants s.means t.means scopes.means in
          then_both (arguments_walk s as') (arguments_walk t as') _ _ (arguments_same is s t scopes.means scopes.units rest as' are.2) (λ cs.
          same s t scopes (call_of changes name as' os) (record { changes = are.0; name = are.1; operands = are.3 }) cs)
      member_same go go' same s t scopes (barrier os at close) are =
          let rest : ConstantsRestOnNames is s.means t.means = constants s.means t.means scopes.means in
          then_both (placed_operands s.means s.qubits os) (placed_operands t.means t.qubits os) _ _ (operands_same is s t scopes.means scopes.units rest (operands s.means t.means scopes.means) scopes.qubits os are) (λ _. refl)
      member_same go go' same s t scopes _ are = refl

      call_list_same : (levels : ℕ) (s t : Scope) → ScopesAlike is pair one s t → (to : Call) → CallNamesAre is to → (values : List Constant) → call_list one levels s to values ≡ call_list other levels t to values
      unfolding call_list
      call_list_same zero = called_same (λ scope s. done []) (λ scope s. done []) (λ s t scopes m are. refl) false
      call_list_same (suc levels) = called_same (member_list one (call_list one levels)) (member_list other (call_list other levels)) (member_same (call_list one levels) (call_list other levels) (call_list_same levels)) true

      pub expansion_same : (s t : Scope) → ScopesAlike is pair one s t → (to : Call) → CallNamesAre is to → (values : List Constant) → expansion one s to values ≡ expansion other t to values
      expansion_same s t scopes to are values =
          then_both (call_list one 64 s to values) (call_list other 64 t to values) _ _ (call_list_same 64 s t scopes to are values) (λ is. refl)
