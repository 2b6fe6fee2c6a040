-- Members as they are answered.
use Rattle.std.proofs.Common.{◌≡◌, ℕ, zero, suc, ◌+◌, ◌*◌, ◌<◌, ◌≤◌, Bool, true, false, cond, not, nat_eq, nat_lt, List, [], ◌∷◌, ◌++◌, map, length, take, get_or, All, ℤ, Option, Some, None, refl, sym, ap, ◌∙◌, arith, eq-eqb}
use Rattle.std.proofs.lemmas.List.{append-nil, map-append, take_more, take_all}
use Rattle.std.proofs.lemmas.List.Elements.{All-append, All-cons, filter-append}
use Rattle.qq_base.specs.declared.run.GateId.{GateId}
use Rattle.qq_base.specs.declared.run.QubitId.{QubitId}
use Rattle.gate_table.specs.declared.table.Row.{Row}
use Rattle.gate_table.specs.Table.{row_of}
use Rattle.gate_lists.specs.declared.expansion.GateArg.{GateArg}
use Rattle.gate_lists.specs.declared.expansion.GateArg.TheVariants as arg
use Rattle.gate_lists.specs.declared.expansion.LeafCall.{LeafCall}
use Rattle.gate_lists.specs.declared.expansion.TurnExpr.{TurnExpr}
use Rattle.gate_lists.specs.declared.member.Amount.{Amount}
use Rattle.gate_lists.specs.declared.member.Member.{Member}
use Rattle.gate_lists.specs.Amounts.{units_in, params_of, qubits_of}
use Rattle.gate_lists.specs.Growing.{AreWorths, MakesTurns, worth_where, qubit_where}
use Rattle.gate_lists.specs.Instructions.{Instruction, gphase, without_phases}
use Rattle.gate_lists.specs.Members.{instruction_in, instructions_in}
use Rattle.gate_lists.specs.Seen.{Leaf, Expanded, argument_in, leaf_in, leaf_of, filled}
use Rattle.gate_lists.specs.Turns.{ArgFits}
use Rattle.gate_lists.proofs.ByRow.{three_of, four_of}
use Rattle.gate_lists.proofs.Rows.{few_params, few_qubits, row_params, row_qubits}
use Rattle.gate_lists.proofs.Turning.{worths_before}

-- ---- the places of a member

filled_arguments : {A : Type 0} (u : A → ℤ) (p : ℕ) (a b c e : A) → p ≤ 4
    → worth_where (nat_lt 0 p) (u a) ∷ worth_where (nat_lt 1 p) (u b) ∷ worth_where (nat_lt 2 p) (u c) ∷ worth_where (nat_lt 3 p) (u e) ∷ []
    ≡ filled 4 None (map Some (map u (take p (a ∷ b ∷ c ∷ e ∷ []))))
filled_arguments u zero a b c e few = refl
filled_arguments u (suc zero) a b c e few = refl
filled_arguments u (suc (suc zero)) a b c e few = refl
filled_arguments u (suc (suc (suc zero))) a b c e few = refl
filled_arguments u (suc (suc (suc (suc zero)))) a b c e few = refl
filled_arguments u (suc (suc (suc (suc (suc p))))) a b c e few = absurd (omega arith)

filled_qubits : (n : ℕ) (a b c : QubitId) → n ≤ 3
    → qubit_where (nat_lt 0 n) a ∷ qubit_where (nat_lt 1 n) b ∷ qubit_where (nat_lt 2 n) c ∷ [] ≡ filled 3 (record { 0 = 0 }) (take n (a ∷ b ∷ c ∷ []))
filled_qubits zero a b c few = refl
filled_qubits (suc zero) a b c few = refl
filled_qubits (suc (suc zero)) a b c few = refl
filled_qubits (suc (suc (suc zero))) a b c few = refl
filled_qubits (suc (suc (suc (suc n)))) a b c few = absurd (omega arith)

abbrev leaf : ℕ → List (Option ℤ) → List QubitId → Leaf
leaf gate arguments qubits = record { gate = gate; arguments = arguments; qubits = qubits }

pub leaf_is : (worths : ℕ → ℤ) (m : Member) (row : Row) (call : LeafCall) (w x y z : GateArg) (d : Amount) (q : QubitId) → row_of m.gate.0 ≡ Some row
    → call.gate ≡ m.gate → call.args ≡ w ∷ x ∷ y ∷ z ∷ []
    → (e f g : QubitId) → call.qubits ≡ e ∷ f ∷ g ∷ []
    → e ≡ qubit_where (nat_lt 0 row.qubits) (get_or m.qubits 0 q) → f ≡ qubit_where (nat_lt 1 row.qubits) (get_or m.qubits 1 q) → g ≡ qubit_where (nat_lt 2 row.qubits) (get_or m.qubits 2 q)
    → argument_in worths w ≡ worth_where (nat_lt 0 row.params) (units_in worths (get_or m.args 0 d)) → argument_in worths x ≡ worth_where (nat_lt 1 row.params) (units_in worths (get_or m.args 1 d))
    → argument_in worths y ≡ worth_where (nat_lt 2 row.params) (units_in worths (get_or m.args 2 d)) → argument_in worths z ≡ worth_where (nat_lt 3 row.params) (units_in worths (get_or m.args 3 d))
    → leaf_in worths call ≡ leaf_of (instruction_in worths m)
leaf_is worths m row call w x y z d q is gate args e f g qubits he hf hg hw hx hy hz =
    let p = row.params in
    let params : params_of m.gate.0 ≡ p = row_params m.gate.0 row is in
    let count : qubits_of m.gate.0 ≡ row.qubits = row_qubits m.gate.0 row is in
    let few : p ≤ 4 = omega (arith, params, few_params m.gate.0 m.of_table) in
    let short : row.qubits ≤ 3 = omega (arith, count, few_qubits m.gate.0 m.of_table) in
    let u = units_in worths in
    let one : argument_in worths w ∷ argument_in worths x ∷ argument_in worths y ∷ argument_in worths z ∷ []
    ≡ worth_where (nat_lt 0 p) (u (get_or m.args 0 d)) ∷ worth_where (nat_lt 1 p) (u (get_or m.args 1 d)) ∷ worth_where (nat_lt 2 p) (u (get_or m.args 2 d)) ∷ worth_where (nat_lt 3 p) (u (get_or m.args 3 d)) ∷ [] = cc in
    let arguments : map (argument_in worths) call.args ≡ filled 4 None (map Some (map u (take (params_of m.gate.0) m.args)))
    = ap (map (argument_in worths)) args ∙ one ∙ filled_arguments u p (get_or m.args 0 d) (get_or m.args 1 d) (get_or m.args 2 d) (get_or m.args 3 d) few
    ∙ ap (λ (xs : List Amount). filled 4 None (map Some (map u (take p xs)))) (sym (four_of m.args d m.four))
    ∙ ap (λ n. filled 4 None (map Some (map u (take n m.args)))) (sym params) in
    let three : e ∷ f ∷ g ∷ [] ≡ qubit_where (nat_lt 0 row.qubits) (get_or m.qubits 0 q) ∷ qubit_where (nat_lt 1 row.qubits) (get_or m.qubits 1 q) ∷ qubit_where (nat_lt 2 row.qubits) (get_or m.qubits 2 q) ∷ [] = cc in
    let places : call.qubits ≡ filled 3 (record { 0 = 0 }) (take (qubits_of m.gate.0) m.qubits)
    = qubits ∙ three ∙ filled_qubits row.qubits (get_or m.qubits 0 q) (get_or m.qubits 1 q) (get_or m.qubits 2 q) short
    ∙ ap (λ (qs : List QubitId). filled 3 (record { 0 = 0 }) (take row.qubits qs)) (sym (three_of m.qubits q m.three))
    ∙ ap (λ n. filled 3 (record { 0 = 0 }) (take n m.qubits)) (sym count) in
    ap (λ (g : GateId). leaf g.0 (map (argument_in worths) call.args) call.qubits) gate
    ∙ ap (λ (os : List (Option ℤ)). leaf m.gate.0 os call.qubits) arguments
    ∙ ap (λ (qs : List QubitId). leaf m.gate.0 (filled 4 None (map Some (map u (take (params_of m.gate.0) m.args)))) qs) places

-- ---- turns that are made one after another

pub makes_joined : (a b c : List TurnExpr) (m n : ℕ) → MakesTurns a b m → MakesTurns b c n → MakesTurns a c (m + n)
makes_joined a b c m n first second =
    let few_first = first.few in
    let few_second = second.few in
    let more_first = first.more in
    let more_second = second.more in
    record {
      more = omega arith;
      kept = λ k t e. second.kept k t (first.kept k t e);
      few = omega arith;
    }

pub makes_none : (a : List TurnExpr) → MakesTurns a a 0
makes_none a = record { more = omega arith; kept = λ k t e. e; few = omega arith }

arg_fits_longer : (m n : ℕ) → m ≤ n → (a : GateArg) → ArgFits m a → ArgFits n a
arg_fits_longer m n le (arg.Running k) fits = omega arith
arg_fits_longer m n le (arg.Units z) fits = tt
arg_fits_longer m n le arg.Unused fits = tt

pub call_fits_longer : (m n : ℕ) → m ≤ n → (args : List GateArg) → All (ArgFits m) args → All (ArgFits n) args
call_fits_longer m n le args all = λ k d lt. arg_fits_longer m n le (get_or args k d) (all k d lt)

-- ---- a loop over the members: so many are answered

pub record IsAnswered (members : List Member) (first now : List TurnExpr) (calls : List LeafCall) (k : ℕ) : Type 0 where
  pub worth : (given worths : ℕ → ℤ) → AreWorths given worths now → map (leaf_in worths) calls ≡ map leaf_of (without_phases (instructions_in worths (take k members)))
  pub named : All (λ (call : LeafCall). All (ArgFits (length now)) call.args) calls
  pub made : MakesTurns first now (4 * k)

pub answered_none : (members : List Member) (first : List TurnExpr) → IsAnswered members first first [] 0
answered_none members first = record {
  worth = λ given worths all. refl;
  named = λ k d lt. absurd (omega arith);
  made = makes_none first;
}

-- the instructions of one member more
one_more : (worths : ℕ → ℤ) (members : List Member) (k : ℕ) (x : Member) → k < length members → x ≡ get_or members k x
    → instructions_in worths (take (k + 1) members) ≡ instructions_in worths (take k members) ++ instruction_in worths x ∷ []
one_more worths members k x lt at =
    ap (map (instruction_in worths)) (take_more members k x lt)
    ∙ map-append (instruction_in worths) (take k members) (get_or members k x ∷ [])
    ∙ ap (λ (m : Member). instructions_in worths (take k members) ++ instruction_in worths m ∷ []) (sym at)

-- a member at the end, where it is an instruction or a phase
last_kept : (b : Bool) (i : Instruction) → b ≡ false → cond (not b) (i ∷ []) [] ≡ i ∷ []
last_kept true i e = absurd cc
last_kept false i e = refl

last_dropped : (b : Bool) (i : Instruction) → b ≡ true → cond (not b) (i ∷ []) [] ≡ []
last_dropped true i e = refl
last_dropped false i e = absurd cc

without_last : (is : List Instruction) (i : Instruction) → without_phases (is ++ i ∷ []) ≡ without_phases is ++ cond (not (nat_eq i.gate gphase)) (i ∷ []) []
without_last is i = filter-append (λ (j : Instruction). not (nat_eq j.gate gphase)) is (i ∷ [])

-- a phase that is left
pub answered_phase : (members : List Member) (first now : List TurnExpr) (calls : List LeafCall) (k : ℕ) (x : Member) → IsAnswered members first now calls k
    → k < length members → x ≡ get_or members k x → x.gate.0 ≡ gphase → IsAnswered members first now calls (k + 1)
answered_phase members first now calls k x so lt at phase =
    let few = so.made.few in
    record {
      worth = λ given worths all.
          so.worth given worths all
          ∙ ap (map leaf_of) (sym (ap without_phases (one_more worths members k x lt at)
          ∙ without_last (instructions_in worths (take k members)) (instruction_in worths x)
          ∙ ap (λ (is : List Instruction). without_phases (instructions_in worths (take k members)) ++ is) (last_dropped (nat_eq x.gate.0 gphase) (instruction_in worths x) (eq-eqb x.gate.0 gphase phase))
          ∙ append-nil (without_phases (instructions_in worths (take k members)))));
      named = so.named;
      made = record { more = so.made.more; kept = so.made.kept; few = omega arith };
    }

-- an instruction more
pub answered_more : (members : List Member) (first now next : List TurnExpr) (calls : List LeafCall) (k : ℕ) (x : Member) (call : LeafCall) → IsAnswered members first now calls k
    → k < length members → x ≡ get_or members k x → nat_eq x.gate.0 gphase ≡ false → MakesTurns now next 4
    → ((given worths : ℕ → ℤ) → AreWorths given worths next → leaf_in worths call ≡ leaf_of (instruction_in worths x))
    → All (ArgFits (length next)) call.args
    → IsAnswered members first next (calls ++ call ∷ []) (k + 1)
answered_more members first now next calls k x call so lt at kept made worth named =
    let joined = makes_joined first now next (4 * k) 4 so.made made in
    let few = joined.few in
    record {
      worth = λ given worths all.
          map-append (leaf_in worths) calls (call ∷ [])
          ∙ ap (λ (ls : List Leaf). ls ++ leaf_in worths call ∷ []) (so.worth given worths (worths_before given worths now next made.kept all))
          ∙ ap (λ (l : Leaf). map leaf_of (without_phases (instructions_in worths (take k members))) ++ l ∷ []) (worth given worths all)
          ∙ sym (ap (λ (is : List Instruction). map leaf_of (without_phases is)) (one_more worths members k x lt at)
          ∙ ap (map leaf_of) (without_last (instructions_in worths (take k members)) (instruction_in worths x)
          ∙ ap (λ (is : List Instruction). without_phases (instructions_in worths (take k members)) ++ is) (last_kept (nat_eq x.gate.0 gphase) (instruction_in worths x) kept))
          ∙ map-append leaf_of (without_phases (instructions_in worths (take k members))) (instruction_in worths x ∷ []));
      named = All-append (λ (c : LeafCall). All (ArgFits (length next)) c.args) calls (call ∷ [])
          (λ j d lt. call_fits_longer (length now) (length next) made.more (get_or calls j d).args (so.named j d lt))
          (All-cons (λ (c : LeafCall). All (ArgFits (length next)) c.args) call [] named (λ j d lt. absurd (omega arith)));
      made = record { more = joined.more; kept = joined.kept; few = omega arith };
    }

pub answered_all : (members : List Member) (first now : List TurnExpr) (calls : List LeafCall) (k : ℕ) → IsAnswered members first now calls k → length members ≤ k
    → (given worths : ℕ → ℤ) → AreWorths given worths now → map (leaf_in worths) calls ≡ map leaf_of (without_phases (instructions_in worths members))
answered_all members first now calls k so le given worths all =
    so.worth given worths all ∙ ap (λ (ms : List Member). map leaf_of (without_phases (instructions_in worths ms))) (take_all k members le)

abbrev expanded : List Leaf → ℕ → Expanded
expanded leaves cost = record { leaves = leaves; cost = cost }

pub expanded_same : (a b : List Leaf) (cost : ℕ) → a ≡ b → expanded a cost ≡ expanded b cost
expanded_same a b cost e = ap (λ (ls : List Leaf). expanded ls cost) e
