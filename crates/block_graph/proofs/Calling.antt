-- What the calls of gates, resets, measurements and records do.
use Rattle.std.proofs.Common.{◌≡◌, ℕ, zero, suc, ◌+◌, ◌<◌, ◌≤◌, nat_lt, nat_le, if◌then◌else◌, Bool, true, false, ◌&&◌, List, [], ◌∷◌, ◌++◌, length, map, take, replicate, ℤ, pos, Option, Some, None, refl, sym, ap, ◌∙◌, arith, lt-ltb, leb-true, mod-eq_of_lt, append-nil}
use Rattle.std.specs.Prelude.{slice_get, option_map}
use Rattle.std.specs.List.{enumerate_from, flat_map, list_all}
use Rattle.std.proofs.lemmas.Option.{slice_get-map}
use Rattle.qq_base.specs.declared.run.QubitId.{QubitId}
use Rattle.qq_base.specs.declared.run.Event.TheVariants.{Gate as GateEvent}
use Rattle.gate_table.specs.Table.{TargetGate, gates, rows as gate_rows_of, row_of as gate_row_of}
use Rattle.gate_table.specs.declared.table.Row.{Row as GateRow}
use Rattle.qir_module.specs.declared.instruction.Operand.{Operand}
use Rattle.qir_module.specs.declared.instruction.Arg.{Arg}
use Rattle.qir_module.specs.declared.instruction.Arg.TheVariants.{Id}
use Rattle.qir_module.specs.Functions.{Kind, NumberKind, QubitKind, ApplyGate, ArrayRecord, BoolRecord, IntRecord, Row, gate_row, gate_rows, runtime_rows, rows, row_of}
use Rattle.qir_module.specs.Machine.{State, truth_in, word_in, Given, WordGiven, TruthGiven, IdGiven, LabelGiven, word_given, truth_given, with_front, given, all_given, Does, Shows, padded, units_in, qubits_in, task_effect, given_effect, row_effect, effect_of}
use Rattle.core_ir.specs.declared.expression.CellKind.TheVariants.{Truth as TruthCell, Number as NumberCell}
use Rattle.core_ir.specs.declared.statement.GateArg.{GateArg}
use Rattle.core_ir.specs.declared.statement.GateArg.TheVariants.{Unused, Units, Running}
use Rattle.core_ir.specs.declared.statement.LeafCall.{LeafCall}
use Rattle.core_ir.specs.declared.program.Output.{Output}
use Rattle.core_ir.specs.declared.program.Output.TheVariants.{Array as ArrayOutput, Truth as TruthOutput, Number as NumberOutput}
use Rattle.core_ir.specs.Core.{Core}
use Rattle.core_ir.specs.Run.{Cells, cell_value, value_at, word_in_value, truth_in_value, units_of, leaf_event, record_of}
use Rattle.core_ir.specs.Size.{running_in, leaf_exprs}
use Rattle.core_ir.specs.WellFormed.{ArgsFit, QubitsFit, TakesRow, LeafFits, OutputFits}
use Rattle.expr_lower.specs.Lowered.{HoldValues}
use Rattle.cell_operands.specs.Operands.{operand_of, HoldsCells}
use Rattle.block_graph.specs.Bounds.{IsHeldLeaf, IsHeldOutput}
use Rattle.block_graph.specs.Lowering.{unit_args, qubit_args, gate_call, record_call}
use Rattle.block_graph.proofs.Holding.{truth_read_as, word_read_as}

-- ---- the functions of gates

both_left : (a b : Bool) → (a && b) ≡ true → a ≡ true
both_left true b e = refl
both_left false b e = absurd (cc e)

both_right : (a b : Bool) → (a && b) ≡ true → b ≡ true
both_right true b e = e
both_right false b e = absurd (cc e)

get_behind : {A : Type 0} (xs ys : List A) (k : ℕ) → slice_get (xs ++ ys) (length xs + k) ≡ slice_get ys k
get_behind [] ys k = let z : 0 + k ≡ k = omega arith in ap (slice_get ys) z
get_behind (x ∷ xs) ys k = let z : suc (length xs) + k ≡ suc (length xs + k) = omega arith in ap (slice_get (x ∷ (xs ++ ys))) z ∙ get_behind xs ys k

abbrev numbered_gate : ℕ → TargetGate → Option (ℕ × TargetGate)
numbered_gate j x = Some (j, x)

get_numbered : (n : ℕ) (xs : List TargetGate) (k : ℕ) → slice_get (enumerate_from n xs) k ≡ option_map (λ (g : TargetGate). (n + k, g)) (slice_get xs k)
get_numbered n [] k = refl
get_numbered n (x ∷ xs) zero = let z : n ≡ n + 0 = omega arith in ap (λ (j : ℕ). numbered_gate j x) z
get_numbered n (x ∷ xs) (suc k) = let z : n + 1 + k ≡ n + suc k = omega arith in get_numbered (n + 1) xs k ∙ ap (λ (j : ℕ). option_map (λ (g : TargetGate). (j, g)) (slice_get xs k)) z

get_taken : {A : Type 0} (n : ℕ) (xs : List A) (k : ℕ) → k < n → slice_get (take n xs) k ≡ slice_get xs k
get_taken zero xs k lt = absurd (omega (arith, lt))
get_taken (suc n) [] k lt = refl
get_taken (suc n) (x ∷ xs) zero lt = refl
get_taken (suc n) (x ∷ xs) (suc k) lt = get_taken n xs k (omega (arith, lt))

-- the function of a gate takes what the gate's row says
pub record IsGateFunction (g : ℕ) (row : GateRow) : Type 0 where
  pub function : Row
  pub found : row_of (7 + g) ≡ Some function
  pub takes : function.takes ≡ replicate row.params NumberKind ++ replicate row.qubits QubitKind
  pub task : function.task ≡ ApplyGate g
  pub gives : function.gives ≡ false

abbrev table_row : TargetGate → GateRow
table_row t = record { params = t.params; qubits = t.qubits }

pub gate_function : (g : ℕ) (row : GateRow) → g < 30 → gate_row_of g ≡ Some row → IsGateFunction g row
gate_function g row few is = at (slice_get gates g) refl
  where
    at : (o : Option TargetGate) → slice_get gates g ≡ o → IsGateFunction g row
    at None e = absurd (cc (sym is ∙ slice_get-map table_row gates g ∙ ap (option_map table_row) e))
    at (Some t) e =
        let z : 0 + g ≡ g = omega arith in
        let same : table_row t ≡ row =
        cc (sym is ∙ slice_get-map table_row gates g ∙ ap (option_map table_row) e) in
        record {
          function = gate_row (g, t);
          found = get_behind runtime_rows gate_rows g ∙ slice_get-map gate_row (enumerate_from 0 (take 30 gates)) g ∙ ap (option_map gate_row) (get_numbered 0 (take 30 gates) g
              ∙ ap (option_map (λ (q : TargetGate). (0 + g, q))) (get_taken 30 gates g few ∙ e) ∙ ap (λ (j : ℕ). numbered_gate j t) z);
          takes = ap (λ (r : GateRow). replicate r.params NumberKind ++ replicate r.qubits QubitKind) same;
          task = refl;
          gives = refl;
        }

-- no gate takes more than four arguments, or more than three qubits
abbrev is_small : GateRow → Bool
is_small row = nat_le row.params 4 && nat_le row.qubits 3

small_at : (rows : List GateRow) (g : ℕ) (row : GateRow) → list_all is_small rows ≡ true → slice_get rows g ≡ Some row → is_small row ≡ true
small_at [] g row all is = absurd (cc is)
small_at (r ∷ rows) zero row all is = let same : r ≡ row = cc is in ap is_small (sym same) ∙ both_left (is_small r) (list_all is_small rows) all
small_at (r ∷ rows) (suc g) row all is = small_at rows g row (both_right (is_small r) (list_all is_small rows) all) is

all_small : list_all is_small gate_rows_of ≡ true
all_small = refl

pub row_small : (g : ℕ) (row : GateRow) → gate_row_of g ≡ Some row → (row.params ≤ 4) × (row.qubits ≤ 3)
row_small g row is =
    let small = small_at gate_rows_of g row all_small is in
    (leb-true row.params 4 (both_left (nat_le row.params 4) (nat_le row.qubits 3) small), leb-true row.qubits 3 (both_right (nat_le row.params 4) (nat_le row.qubits 3) small))

-- ---- arguments

units_of_words : (zs : List ℤ) (others : List Given) → units_in (map WordGiven zs ++ others) ≡ zs ++ units_in others
units_of_words [] others = refl
units_of_words (z ∷ zs) others = ap (λ xs. z ∷ xs) (units_of_words zs others)

units_of_ids : (ns : List ℕ) → units_in (map IdGiven ns) ≡ []
units_of_ids [] = refl
units_of_ids (n ∷ ns) = units_of_ids ns

qubits_of_words : (zs : List ℤ) (others : List Given) → qubits_in (map WordGiven zs ++ others) ≡ qubits_in others
qubits_of_words [] others = refl
qubits_of_words (z ∷ zs) others = qubits_of_words zs others

abbrev the_qubit : ℕ → QubitId
the_qubit n = record { 0 = n }

qubits_of_ids : (ns : List ℕ) → qubits_in (map IdGiven ns) ≡ map the_qubit ns
qubits_of_ids [] = refl
qubits_of_ids (n ∷ ns) = ap (λ xs. the_qubit n ∷ xs) (qubits_of_ids ns)

-- behind the arguments that a gate takes all is 0
unused_units : (core : Core) (cells : Cells) (args : List GateArg) (k r : ℕ) → length args ≤ k → k ≤ r → ArgsFit core 0 args → map (units_of core.exprs cells) args ≡ take (length args) (replicate r (pos 0))
unused_units core cells [] k r le lr fit = refl
unused_units core cells (a ∷ args) zero r le lr fit = absurd (omega (arith, le))
unused_units core cells (a ∷ args) (suc k) zero le lr fit = absurd (omega (arith, lr))
unused_units core cells (a ∷ args) (suc k) (suc r) le lr fit =
    ap (λ (x : GateArg). units_of core.exprs cells x ∷ map (units_of core.exprs cells) args) fit.0 ∙ ap (λ zs. pos 0 ∷ zs) (unused_units core cells args k r (omega (arith, le)) (omega (arith, lr)) fit.1)

pub unused_args : (core : Core) (args : List GateArg) (operands : List Operand) → ArgsFit core 0 args → unit_args args operands ≡ []
unused_args core [] operands fit = refl
unused_args core (a ∷ args) operands fit = ap (λ (x : GateArg). unit_args (x ∷ args) operands) fit.0 ∙ unused_args core args operands fit.1

abbrev all_behind : List Given → Option (List Given) → Option (List Given)
all_behind [] given = given
all_behind (x ∷ xs) given = with_front (Some x) (all_behind xs given)

-- the words of the arguments that a gate takes
record Words (core : Core) (s : State) (cells : Cells) (labels n r : ℕ) (kinds : List Kind) (args : List GateArg) (operands : List Operand) (others : List Arg) : Type 0 where
  words : List ℤ
  read : all_given labels s (replicate n NumberKind ++ kinds) (unit_args args operands ++ others) ≡ all_behind (map WordGiven words) (all_given labels s kinds others)
  units : map (units_of core.exprs cells) args ≡ take (length args) (words ++ replicate r (pos 0))

args_read : (core : Core) (s : State) (cells : Cells) (labels n r : ℕ) (kinds : List Kind) (args : List GateArg) (operands : List Operand) (others : List Arg) → n ≤ length args → length args ≤ r → ArgsFit core n args → HoldValues s core cells (flat_map running_in args) operands → Words core s cells labels n r kinds args operands others
args_read core s cells labels zero r kinds args operands others le lr fit held = record {
  words = [];
  read = ap (λ (xs : List Arg). all_given labels s kinds (xs ++ others)) (unused_args core args operands fit);
  units = unused_units core cells args (length args) r (omega arith) lr fit;
}
args_read core s cells labels (suc n) r kinds [] operands others le lr fit held = absurd (omega (arith, le))
args_read core s cells labels (suc n) r kinds (Unused ∷ args) operands others le lr fit held = absurd fit.0
args_read core s cells labels (suc n) r kinds (Units z ∷ args) operands others le lr fit held =
    let behind = args_read core s cells labels n r kinds args operands others (omega (arith, le)) (omega (arith, lr)) fit.1 held in
    record {
      words = z ∷ behind.words;
      read = ap (with_front (Some (WordGiven z))) behind.read;
      units = ap (λ zs. z ∷ zs) behind.units;
    }
args_read core s cells labels (suc n) r kinds (Running e ∷ args) [] others le lr fit held = absurd held
args_read core s cells labels (suc n) r kinds (Running e ∷ args) (o ∷ operands) others le lr fit held =
    let behind = args_read core s cells labels n r kinds args operands others (omega (arith, le)) (omega (arith, lr)) fit.1 held.1 in
    let word = word_read_as (word_in s o) (value_at core.exprs e cells) (held.0 NumberCell fit.0) in
    record {
      words = word_in_value (value_at core.exprs e cells) ∷ behind.words;
      read = ap (λ (w : Option ℤ). with_front (word_given w) (all_given labels s (replicate n NumberKind ++ kinds) (unit_args args operands ++ others))) word ∙ ap (with_front (Some (WordGiven (word_in_value (value_at core.exprs e cells))))) behind.read;
      units = ap (λ zs. word_in_value (value_at core.exprs e cells) ∷ zs) behind.units;
    }

-- the qubits that it takes, and those behind them
record Ids (s : State) (labels n r : ℕ) (qubits : List QubitId) : Type 0 where
  ids : List ℕ
  read : all_given labels s (replicate n QubitKind) (map (λ (q : QubitId). Id q.0) (take n qubits)) ≡ Some (map IdGiven ids)
  names : qubits ≡ take (length qubits) (map the_qubit ids ++ replicate r (the_qubit 0))

unused_qubits : (bound : ℕ) (qubits : List QubitId) (r : ℕ) → length qubits ≤ r → QubitsFit bound 0 qubits → qubits ≡ take (length qubits) (replicate r (the_qubit 0))
unused_qubits bound [] r le fit = refl
unused_qubits bound (q ∷ qubits) zero le fit = absurd (omega (arith, le))
unused_qubits bound (q ∷ qubits) (suc r) le fit = ap (λ (n : ℕ). the_qubit n ∷ qubits) fit.0 ∙ ap (λ qs. the_qubit 0 ∷ qs) (unused_qubits bound qubits r (omega (arith, le)) fit.1)

ids_read : (s : State) (labels bound n r : ℕ) (qubits : List QubitId) → n ≤ length qubits → length qubits ≤ r → QubitsFit bound n qubits → Ids s labels n r qubits
ids_read s labels bound zero r qubits le lr fit = record { ids = []; read = refl; names = unused_qubits bound qubits r lr fit }
ids_read s labels bound (suc n) r [] le lr fit = absurd (omega (arith, le))
ids_read s labels bound (suc n) r (q ∷ qubits) le lr fit =
    let behind = ids_read s labels bound n r qubits (omega (arith, le)) (omega (arith, lr)) fit.1 in
    record { ids = q.0 ∷ behind.ids; read = ap (with_front (Some (IdGiven q.0))) behind.read; names = ap (λ qs. q ∷ qs) behind.names }

all_behind_some : (xs ys : List Given) → all_behind xs (Some ys) ≡ Some (xs ++ ys)
all_behind_some [] ys = refl
all_behind_some (x ∷ xs) ys = ap (with_front (Some x)) (all_behind_some xs ys)

-- ---- the call of a gate

pub gate_effect : (core : Core) (leaf : LeafCall) (operands : List Operand) (s : State) (cells : Cells) (labels : ℕ) → LeafFits core leaf → IsHeldLeaf leaf → HoldValues s core cells (leaf_exprs leaf) operands → effect_of labels s (gate_call leaf operands) ≡ Does (leaf_event core.exprs cells leaf) s
gate_effect core leaf operands s cells labels fit shape held = at (gate_row_of leaf.gate.0) refl fit.1
  where
    at : (o : Option GateRow) → gate_row_of leaf.gate.0 ≡ o → TakesRow core leaf o → effect_of labels s (gate_call leaf operands) ≡ Does (leaf_event core.exprs cells leaf) s
    at None e takes = absurd takes
    at (Some row) e takes =
        let small = row_small leaf.gate.0 row e in
        let f = gate_function leaf.gate.0 row fit.0 e in
        let ids_args = map (λ (q : QubitId). Id q.0) (take row.qubits leaf.qubits) in
        let w = args_read core s cells labels row.params 4 (replicate row.qubits QubitKind) leaf.args operands ids_args (omega (arith, small.0, shape.four)) (omega (arith, shape.four)) takes.0 held in
        let q = ids_read s labels core.qubits row.qubits 3 leaf.qubits (omega (arith, small.1, shape.three)) (omega (arith, shape.three)) takes.1 in
        let all : all_given labels s (replicate row.params NumberKind ++ replicate row.qubits QubitKind) (unit_args leaf.args operands ++ ids_args) ≡ Some (map WordGiven w.words ++ map IdGiven q.ids) = w.read ∙ ap (all_behind (map WordGiven w.words)) q.read ∙ all_behind_some (map WordGiven w.words) (map IdGiven q.ids) in
        let units : units_in (map WordGiven w.words ++ map IdGiven q.ids) ≡ w.words = units_of_words w.words (map IdGiven q.ids) ∙ ap (λ zs. w.words ++ zs) (units_of_ids q.ids) ∙ append-nil w.words in
        let names : qubits_in (map WordGiven w.words ++ map IdGiven q.ids) ≡ map the_qubit q.ids = qubits_of_words w.words (map IdGiven q.ids) ∙ qubits_of_ids q.ids in
        let units_same : padded 4 (pos 0) (units_in (map WordGiven w.words ++ map IdGiven q.ids)) ≡ map (units_of core.exprs cells) leaf.args = ap (padded 4 (pos 0)) units ∙ ap (λ (n : ℕ). take n (w.words ++ replicate 4 (pos 0))) (sym shape.four) ∙ sym w.units in
        let names_same : padded 3 (the_qubit 0) (qubits_in (map WordGiven w.words ++ map IdGiven q.ids)) ≡ leaf.qubits = ap (padded 3 (the_qubit 0)) names ∙ ap (λ (n : ℕ). take n (map the_qubit q.ids ++ replicate 3 (the_qubit 0))) (sym shape.three) ∙ sym q.names in
        ap (λ (r : Option GateRow). row_effect labels s (row_of (7 + leaf.gate.0)) None (unit_args leaf.args operands ++ qubit_args r leaf.qubits)) e
        ∙ ap (λ (r : Option Row). row_effect labels s r None (unit_args leaf.args operands ++ ids_args)) f.found
        ∙ ap (λ (t : List Kind). given_effect s f.function.task None (all_given labels s t (unit_args leaf.args operands ++ ids_args))) f.takes
        ∙ ap (given_effect s f.function.task None) all
        ∙ ap (λ t. task_effect s t None (map WordGiven w.words ++ map IdGiven q.ids)) f.task
        ∙ ap (λ (zs : List ℤ). Does (GateEvent leaf.gate zs (padded 3 (the_qubit 0) (qubits_in (map WordGiven w.words ++ map IdGiven q.ids)))) s) units_same
        ∙ ap (λ (qs : List QubitId). Does (GateEvent leaf.gate (map (units_of core.exprs cells) leaf.args) qs) s) names_same

-- ---- records

pub record_effect : (core : Core) (values : List Operand) (cells : Cells) (s : State) (o : Output) → OutputFits core o → IsHeldOutput o → HoldsCells s core.cells values cells → effect_of (length core.labels) s (record_call values o) ≡ Shows (record_of o cells) s
record_effect core values cells s (ArrayOutput label size) fit held h =
    ap (λ (here : Bool). given_effect s ArrayRecord None (with_front (Some (WordGiven (pos size))) (with_front (if here then Some (LabelGiven label) else None) (Some [])))) (lt-ltb label (length core.labels) fit)
    ∙ ap (λ (n : ℕ). Shows (record_of (ArrayOutput label n) cells) s) (mod-eq_of_lt held)
record_effect core values cells s (TruthOutput label c) fit held h =
    ap (λ (read : Option Bool). given_effect s BoolRecord None (with_front (truth_given read) (with_front (if nat_lt label (length core.labels) then Some (LabelGiven label) else None) (Some [])))) (truth_read_as (truth_in s (operand_of values c)) (cell_value cells c) (h.each c TruthCell fit.1))
    ∙ ap (λ (here : Bool). given_effect s BoolRecord None (with_front (Some (TruthGiven (truth_in_value (cell_value cells c)))) (with_front (if here then Some (LabelGiven label) else None) (Some [])))) (lt-ltb label (length core.labels) fit.0)
record_effect core values cells s (NumberOutput label c) fit held h =
    ap (λ (read : Option ℤ). given_effect s IntRecord None (with_front (word_given read) (with_front (if nat_lt label (length core.labels) then Some (LabelGiven label) else None) (Some [])))) (word_read_as (word_in s (operand_of values c)) (cell_value cells c) (h.each c NumberCell fit.1))
    ∙ ap (λ (here : Bool). given_effect s IntRecord None (with_front (Some (WordGiven (word_in_value (cell_value cells c)))) (with_front (if here then Some (LabelGiven label) else None) (Some [])))) (lt-ltb label (length core.labels) fit.0)
