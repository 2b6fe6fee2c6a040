-- Two places at which gates are called that are alike: the names that are asked mean the same there, and the definitions are the
-- same, whatever numbers they have. A call gives the same list with the same cost at both, or breaks the same rule.
--
-- So the answer of code, which knows definitions by their numbers in a program and answers for the names of the program alone, is
-- that of the open scopes.
use Rattle.std.specs.Prelude.{◌≡◌, ℕ, Bool, true, false, nat_eq, List, [], ◌∷◌}
use Rattle.qq_base.specs.declared.refusal.Span.{Span}
use Rattle.qasm_ast.specs.declared.stmt.StmtId.{StmtId}
use Rattle.qasm_ast.specs.Tree.{Called, Name, Change, Statement, gate, gate_call, barrier, Statements, no_statement, a_statement}
use Rattle.const_eval.specs.declared.environment.Callable.{Callable}
use Rattle.const_eval.specs.declared.environment.Callable.TheVariants as callable
use Rattle.const_eval.specs.Constant.{Constant}
use Rattle.const_eval.specs.Seen.{MeaningInside, HeldInside, CalledInside, NothingInside}
use Rattle.gate_arguments.specs.Scope.{Declarations, Scope}
use Rattle.gate_flatten.specs.Expand.{Call, expansion}
use Rattle.expr_names.specs.Names.{CalledIs, AllNamesAre, ModifierNamesAre, OperandsNamesAre}
use Rattle.expr_names.specs.Laws.{Agree}

-- ---- the names that are asked: `is` says which they are

module _ (is : List ℕ → Bool) where
  abbrev pub ModifiersNamesAre : List Change → Type 0
  ModifiersNamesAre [] = Unit {0}
  ModifiersNamesAre (change ∷ changes) = ModifierNamesAre is change × ModifiersNamesAre changes

  pub record CallNamesAre (call : Call) : Type 0 where
    pub changes : ModifiersNamesAre call.changes
    pub name : is call.name.text ≡ true
    pub operands : OperandsNamesAre is call.operands

  -- of a statement in the body of a gate
  abbrev pub MemberNamesAre : Statement → Type 0
  MemberNamesAre (gate_call changes name as' os _ _) = ModifiersNamesAre changes × (is name.text ≡ true) × AllNamesAre is as' × OperandsNamesAre is os
  MemberNamesAre (barrier os _ _) = OperandsNamesAre is os
  MemberNamesAre _ = Unit {0}

  abbrev pub BodyNamesAre : Statements → Type 0
  BodyNamesAre no_statement = Unit {0}
  BodyNamesAre (a_statement s ss) = MemberNamesAre s × BodyNamesAre ss

-- ---- definitions

abbrev pub is_gate : Statement → Bool
is_gate (gate name params qubits body place close) = true
is_gate _ = false

-- the same gate, wherever and under whatever name it is written
pub record IsSameGate (is : List ℕ → Bool) (s t : Statement) : Type 0 where
  pub params : List Name
  pub qubits : List Name
  pub body : Statements
  pub names : BodyNamesAre is body
  pub one : (name : Name) × (place : Span) × (close : Span) × (s ≡ gate name params qubits body place close)
  pub other : (name : Name) × (place : Span) × (close : Span) × (t ≡ gate name params qubits body place close)

-- `pair a b` says that the number `a` among the one's definitions is the number `b` among the others
module _ (is : List ℕ → Bool) (pair : StmtId → StmtId → Bool) (one : Declarations) where
  -- what may be called: a subroutine, which is no gate, is like any other thing
  abbrev pub CallablesAlike : Callable → Callable → Type 0
  CallablesAlike (callable.Row g) (callable.Row h) = g ≡ h
  CallablesAlike (callable.Defined a) (callable.Defined b) = pair a b ≡ true
  CallablesAlike (callable.Defined a) callable.Other = is_gate (one.definition a) ≡ false
  CallablesAlike callable.Other callable.Other = Unit {0}
  CallablesAlike callable.Unknown callable.Unknown = Unit {0}
  CallablesAlike _ _ = ⊥

  -- what a name means in a body
  abbrev pub InsideAlike : MeaningInside → MeaningInside → Type 0
  InsideAlike (HeldInside c) (HeldInside d) = c ≡ d
  InsideAlike (CalledInside c) (CalledInside d) = CallablesAlike c d
  InsideAlike NothingInside NothingInside = Unit {0}
  InsideAlike _ _ = ⊥

  pub record DeclarationsAlike (other : Declarations) : Type 0 where
    -- numbers that are a pair are of the same gate, in whose body names mean the same
    pub gates : (a b : StmtId) → pair a b ≡ true → IsSameGate is (one.definition a) (other.definition b)
    pub inside : (a b : StmtId) → pair a b ≡ true → (text : List ℕ) → is text ≡ true → InsideAlike (one.inside a text) (other.inside b text)
    -- and one number is in no two pairs
    pub apart : (a b c d : StmtId) → pair a b ≡ true → pair c d ≡ true → nat_eq a.0 c.0 ≡ nat_eq b.0 d.0

  -- the gates whose calls are open
  abbrev pub OpenAlike : List StmtId → List StmtId → Type 0
  OpenAlike [] [] = Unit {0}
  OpenAlike (a ∷ as') (b ∷ bs) = (pair a b ≡ true) × OpenAlike as' bs
  OpenAlike _ _ = ⊥

  pub record ScopesAlike (s t : Scope) : Type 0 where
    pub means : Agree is s.means t.means
    pub units : Agree is s.units t.units
    pub called : (text : List ℕ) → is text ≡ true → CallablesAlike (s.called text) (t.called text)
    pub qubits : (name : Called) → CalledIs is name → s.qubits name ≡ t.qubits name
    pub open_gates : OpenAlike s.open_gates t.open_gates

-- ---- the law

abbrev pub CallsAreAlike : Type 0
CallsAreAlike = (is : List ℕ → Bool) (pair : StmtId → StmtId → Bool) (one other : Declarations) → DeclarationsAlike is pair one other
    → (s t : Scope) → ScopesAlike is pair one s t
    → (call : Call) → CallNamesAre is call → (values : List Constant)
    → expansion one s call values ≡ expansion other t call values
