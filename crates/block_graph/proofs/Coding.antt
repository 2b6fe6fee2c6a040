-- The code that statements append: it takes the next registers and results, and keeps the rules on single instructions.
use Rattle.std.proofs.Common.{◌≡◌, ◌≢◌, inl, inr, ⊎_elim, ℕ, zero, suc, ◌+◌, ◌<◌, ◌≤◌, nat_lt, Bool, true, false, not, ◌&&◌, ◌||◌, List, [], ◌∷◌, ◌++◌, map, length, take, replicate, pos, Option, Some, None, refl, sym, ap, ◌∙◌, subst, arith, append_assoc, length-append, lt-ltb, ltb-true, ne_eqb}
use Rattle.std.specs.Prelude.{if◌then◌else◌, AllPairs, slice_get, slice_index_or}
use Rattle.std.specs.Int.{w64}
use Rattle.std.specs.List.{flat_map, list_all, AllByRecursion}
use Rattle.std.proofs.lemmas.Int.{fits_signed_from_abs}
use Rattle.std.proofs.lemmas.List.Elements.{recursion_from_All}
use Rattle.gate_table.specs.Table.{row_of as gate_row_of}
use Rattle.gate_table.specs.declared.table.Row.{Row as GateRow}
use Rattle.qq_base.specs.declared.run.QubitId.{QubitId}
use Rattle.qir_module.specs.declared.instruction.Operand.{Operand}
use Rattle.qir_module.specs.declared.instruction.Operand.TheVariants.{Fixed, Register}
use Rattle.qir_module.specs.declared.instruction.Arg.{Arg}
use Rattle.qir_module.specs.declared.instruction.Arg.TheVariants.{Number, Truth, Id, Text}
use Rattle.qir_module.specs.declared.instruction.Instr.{Instr}
use Rattle.qir_module.specs.declared.instruction.Instr.TheVariants.{Op, Zext, Trunc, Select, Call}
use Rattle.qir_module.specs.Functions.{Kind, NumberKind, QubitKind, Task, Row, row_of}
use Rattle.qir_module.specs.Numbered.{CountsFrom, registers_of, measured_in, read_in, task_of, measured_by, read_by, NamesResult, IsNamed, IsReadOf, ReadsFollow, is_among}
use Rattle.qir_module.specs.Spots.{TheInstr}
use Rattle.qir_module.specs.Passes.{are_distinct, takes_of, ids_where, instr_ids, is_qubit, is_result, takes_all, call_fits, is_initialize, label_in, constants_fit, is_record, is_record_task}
use Rattle.core_ir.specs.declared.expression.CellKind.{CellKind}
use Rattle.core_ir.specs.declared.expression.CellKind.TheVariants.{Truth as TruthCell, Number as NumberCell}
use Rattle.core_ir.specs.declared.statement.GateArg.{GateArg}
use Rattle.core_ir.specs.declared.statement.GateArg.TheVariants.{Unused, Units, Running}
use Rattle.core_ir.specs.declared.statement.LeafCall.{LeafCall}
use Rattle.core_ir.specs.declared.program.Output.{Output}
use Rattle.core_ir.specs.declared.program.Output.TheVariants.{Array as ArrayOutput, Truth as TruthOutput, Number as NumberOutput}
use Rattle.core_ir.specs.Core.{Core}
use Rattle.core_ir.specs.Size.{running_in, leaf_exprs}
use Rattle.core_ir.specs.WellFormed.{ArgsFit, QubitsFit, QubitsDiffer, TakesRow, LeafFits, OutputFits}
use Rattle.cell_operands.specs.Operands.{is_number, operand_of, IsBelow}
use Rattle.expr_lower.specs.Lowered.{IsTyped, ReadsOnly, Reads, Gives, Behind, HasCell, AreTyped, AreCells, IsLowered}
use Rattle.block_graph.specs.Bounds.{IsHeldArg, IsHeldLeaf, IsHeldOutput}
use Rattle.block_graph.specs.Lowering.{unit_args, qubit_args, gate_call, reset_call, measure_call, read_call, record_call}
use Rattle.block_graph.specs.Claims.{Below, IsArgBelow, IsInstrBelow, IsReadInOrder, IsGoodInstr, AreSilent}
use Rattle.block_graph.proofs.Calling.{gate_function, row_small, unused_args}

-- ---- numbers one behind the other

pub counts_append : (k : ℕ) (xs ys : List ℕ) → CountsFrom k xs → CountsFrom (k + length xs) ys → CountsFrom k (xs ++ ys)
counts_append k [] ys a b = let z : k + 0 ≡ k = omega arith in subst (λ (n : ℕ). CountsFrom n ys) z b
counts_append k (x ∷ xs) ys a b = let z : k + suc (length xs) ≡ suc k + length xs = omega arith in (a.0, counts_append (suc k) xs ys a.1 (subst (λ (n : ℕ). CountsFrom n ys) z b))

pub flat_append : {A B : Type 0} (f : A → List B) (xs ys : List A) → flat_map f (xs ++ ys) ≡ flat_map f xs ++ flat_map f ys
flat_append f [] ys = refl
flat_append f (x ∷ xs) ys = ap (λ z. f x ++ z) (flat_append f xs ys) ∙ sym (append_assoc (f x) (flat_map f xs) (flat_map f ys))

pub all_append : {A : Type 0} (P : A → Type 0) (xs ys : List A) → AllByRecursion P xs → AllByRecursion P ys → AllByRecursion P (xs ++ ys)
all_append P [] ys a b = b
all_append P (x ∷ xs) ys a b = (a.0, all_append P xs ys a.1 b)

follow_append : (measured : List ℕ) (xs ys : List Instr) → ReadsFollow measured xs → ((m : List ℕ) → ReadsFollow m ys) → ReadsFollow measured (xs ++ ys)
follow_append measured [] ys a b = b measured
follow_append measured (x ∷ xs) ys a b = (a.0, follow_append (measured_in x) xs ys a.1 b)

pub read_append : (xs ys : List Instr) → IsReadInOrder xs → IsReadInOrder ys → IsReadInOrder (xs ++ ys)
read_append xs ys a b = (all_append IsNamed xs ys a.0 b.0, λ m. follow_append m xs ys (a.1 m) b.1)

-- ---- the rules on single instructions

small_function : (f : ℕ) → f < 37 → f < 37
small_function f lt = lt

one_below : (n bound : ℕ) → n < bound → list_all (λ k. nat_lt k bound) (n ∷ []) ≡ true
one_below n bound lt = ap (λ (b : Bool). b && true) (lt-ltb n bound lt)

pub both : (a b : Bool) → a ≡ true → b ≡ true → (a && b) ≡ true
both true b e f = f
both false b e f = absurd (cc e)

pub both_cases : (a b : Bool) → (a && b) ≡ true → (a ≡ true) × (b ≡ true)
both_cases true b e = (refl, e)
both_cases false b e = absurd (cc e)

below_more : (a b : ℕ) (ns : List ℕ) → a ≤ b → list_all (λ n. nat_lt n a) ns ≡ true → list_all (λ n. nat_lt n b) ns ≡ true
below_more a b [] le e = refl
below_more a b (n ∷ ns) le e =
    let c = both_cases (nat_lt n a) (list_all (λ n. nat_lt n a) ns) e in
    both (nat_lt n b) (list_all (λ n. nat_lt n b) ns) (lt-ltb n b (omega (arith, ltb-true n a c.0, le))) (below_more a b ns le c.1)

pub typed_more : (a b : ℕ) (truth : Bool) (o : Operand) → a ≤ b → IsTyped (Below a) truth o → IsTyped (Below b) truth o
typed_more a b truth (Register r) le t = omega (arith, t, le)
typed_more a b truth (Fixed z) le t = t

one_less : (n bound : ℕ) → list_all (λ k. nat_lt k bound) (n ∷ []) ≡ true → n < bound
one_less n bound e = ltb-true n bound (both_cases (nat_lt n bound) true e).0

pub typed_with : (has more : ℕ → Bool → Type 0) → ((r : ℕ) (t : Bool) → has r t → more r t) → (truth : Bool) (o : Operand) → IsTyped has truth o → IsTyped more truth o
typed_with has more f truth (Register r) t = f r truth t
typed_with has more f truth (Fixed z) t = t

arg_more : (core : Core) (a b c d : ℕ) (arg : Arg) → a ≤ b → c ≤ d → IsArgBelow core a c arg → IsArgBelow core b d arg
arg_more core a b c d (Number o) le lr h = typed_more a b false o le h
arg_more core a b c d (Truth o) le lr h = typed_more a b true o le h
arg_more core a b c d (Id n) le lr h = ⊎_elim (λ q. inl q) (λ q. inr (omega (arith, q, lr))) h
arg_more core a b c d (Text k) le lr h = h

args_more : (core : Core) (a b c d : ℕ) (args : List Arg) → a ≤ b → c ≤ d → AllByRecursion (IsArgBelow core a c) args → AllByRecursion (IsArgBelow core b d) args
args_more core a b c d [] le lr all = tt
args_more core a b c d (arg ∷ args) le lr all = (arg_more core a b c d arg le lr all.0, args_more core a b c d args le lr all.1)

reads_more : (has more : ℕ → Bool → Type 0) → ((r : ℕ) (t : Bool) → has r t → more r t) → (i : Instr) → Reads has i → Reads more i
reads_more has more f (Op r op truth left right) h = (h.0, typed_with has more f truth left h.1, typed_with has more f truth right h.2)
reads_more has more f (Zext r from) h = typed_with has more f true from h
reads_more has more f (Trunc r from) h = typed_with has more f false from h
reads_more has more f (Select r truth test chosen other) h = (typed_with has more f true test h.0, typed_with has more f truth chosen h.1, typed_with has more f truth other h.2)
reads_more has more f (Call register function args) h = absurd h

below_instr : (core : Core) (a b c d : ℕ) (i : Instr) → a ≤ b → c ≤ d → IsInstrBelow core a c i → IsInstrBelow core b d i
below_instr core a b c d (Op r op truth left right) le lr h = (omega (arith, h.0, le), reads_more (Below a) (Below b) (λ x t q. omega (arith, q, le)) (Op r op truth left right) h.1)
below_instr core a b c d (Zext r from) le lr h = (omega (arith, h.0, le), reads_more (Below a) (Below b) (λ x t q. omega (arith, q, le)) (Zext r from) h.1)
below_instr core a b c d (Trunc r from) le lr h = (omega (arith, h.0, le), reads_more (Below a) (Below b) (λ x t q. omega (arith, q, le)) (Trunc r from) h.1)
below_instr core a b c d (Select r truth test chosen other) le lr h = (omega (arith, h.0, le), reads_more (Below a) (Below b) (λ x t q. omega (arith, q, le)) (Select r truth test chosen other) h.1)
below_instr core a b c d (Call None function args) le lr h = (tt, h.1, args_more core a b c d args le lr h.2)
below_instr core a b c d (Call (Some r) function args) le lr h = (omega (arith, h.0, le), h.1, args_more core a b c d args le lr h.2)

pub good_more : (core : Core) (a b c d : ℕ) → a ≤ b → c ≤ d → (code : List Instr) → AllByRecursion (IsGoodInstr core a c) code → AllByRecursion (IsGoodInstr core b d) code
good_more core a b c d le lr [] all = tt
good_more core a b c d le lr (i ∷ is) all = (record { below = below_instr core a b c d i le lr all.0.below; qubits = all.0.qubits; apart = all.0.apart; measured = below_more c d (instr_ids is_result i) lr all.0.measured; labels = all.0.labels; fits = all.0.fits; constants = all.0.constants; function = all.0.function; later = all.0.later }, good_more core a b c d le lr is all.1)

one_good : (core : Core) (next results : ℕ) (i : Instr) → list_all (λ r. nat_lt r next) (registers_of i) ≡ true → Reads (Below next) i → constants_fit i ≡ true → IsGoodInstr core next results i
one_good core next results (Op r op truth left right) e h c = record { below = (one_less r next e, h); qubits = refl; apart = refl; measured = refl; labels = refl; fits = refl; constants = c; function = refl; later = refl }
one_good core next results (Zext r from) e h c = record { below = (one_less r next e, h); qubits = refl; apart = refl; measured = refl; labels = refl; fits = refl; constants = c; function = refl; later = refl }
one_good core next results (Trunc r from) e h c = record { below = (one_less r next e, h); qubits = refl; apart = refl; measured = refl; labels = refl; fits = refl; constants = c; function = refl; later = refl }
one_good core next results (Select r truth test chosen other) e h c = record { below = (one_less r next e, h); qubits = refl; apart = refl; measured = refl; labels = refl; fits = refl; constants = c; function = refl; later = refl }
one_good core next results (Call register function args) e h c = absurd h

true_left : (p : ℕ → Bool) (xs ys : List ℕ) → list_all p (xs ++ ys) ≡ true → (list_all p xs ≡ true) × (list_all p ys ≡ true)
true_left p [] ys e = (refl, e)
true_left p (x ∷ xs) ys e =
    let c = both_cases (p x) (list_all p (xs ++ ys)) e in
    let r = true_left p xs ys c.1 in
    (both (p x) (list_all p xs) c.0 r.0, r.1)

pub counts_bound : (n bound : ℕ) (xs : List ℕ) → CountsFrom n xs → n + length xs ≤ bound → list_all (λ r. nat_lt r bound) xs ≡ true
counts_bound n bound [] c le = refl
counts_bound n bound (x ∷ xs) c le = both (nat_lt x bound) (list_all (λ r. nat_lt r bound) xs) (lt-ltb x bound (omega (arith, c.0, le))) (counts_bound (suc n) bound xs c.1 (omega (arith, le)))

gives_less : (i : Instr) (next r : ℕ) (t : Bool) → list_all (λ r. nat_lt r next) (registers_of i) ≡ true → Gives i r t → r < next
gives_less (Op x op truth left right) next r t e g = let lt = one_less x next e in omega (arith, g.0, lt)
gives_less (Zext x from) next r t e g = let lt = one_less x next e in omega (arith, g.0, lt)
gives_less (Trunc x from) next r t e g = let lt = one_less x next e in omega (arith, g.0, lt)
gives_less (Select x truth test chosen other) next r t e g = let lt = one_less x next e in omega (arith, g.0, lt)
gives_less (Call register function args) next r t e g = absurd g

quiet_good : (core : Core) (next results : ℕ) (has : ℕ → Bool → Type 0) (code : List Instr) → ((r : ℕ) (t : Bool) → has r t → r < next) → list_all (λ r. nat_lt r next) (flat_map registers_of code) ≡ true → ReadsOnly has code → AllByRecursion (λ (i : Instr). constants_fit i ≡ true) code → AllByRecursion (IsGoodInstr core next results) code
quiet_good core next results has [] f e r c = tt
quiet_good core next results has (i ∷ is) f e r c =
    let two = true_left (λ r. nat_lt r next) (registers_of i) (flat_map registers_of is) e in
    (one_good core next results i two.0 (reads_more has (Below next) f i r.0) c.0, quiet_good core next results _ is (λ x t h. ⊎_elim (λ q. f x t q) (λ q. gives_less i next x t two.0 q) h) two.1 r.1 c.1)

pub behind_less : (next : ℕ) (has : ℕ → Bool → Type 0) (code : List Instr) → ((r : ℕ) (t : Bool) → has r t → r < next) → list_all (λ r. nat_lt r next) (flat_map registers_of code) ≡ true → (r : ℕ) (t : Bool) → Behind has code r t → r < next
behind_less next has [] f e r t b = f r t b
behind_less next has (i ∷ is) f e r t b =
    let two = true_left (λ r. nat_lt r next) (registers_of i) (flat_map registers_of is) e in
    behind_less next _ is (λ x u h. ⊎_elim (λ q. f x u q) (λ q. gives_less i next x u two.0 q) h) two.1 r t b

pub cell_less : (kinds : List CellKind) (next bound : ℕ) (values : List Operand) → next ≤ bound → AreCells kinds next values → (r : ℕ) (t : Bool) → HasCell kinds values r t → r < bound
cell_less kinds next bound values le a r t h = omega (arith, less (operand_of values h.0) (get_below values h.0 (recursion_from_All (IsBelow next) values a.below)) h.3, le)
  where
    get_below : (values : List Operand) (c : ℕ) → AllByRecursion (IsBelow next) values → IsBelow next (operand_of values c)
    get_below [] c all = tt
    get_below (o ∷ os) zero all = all.0
    get_below (o ∷ os) (suc c) all = get_below os c all.1

    less : (o : Operand) → IsBelow next o → o ≡ Register r → r < next
    less (Register x) b e = let same : x ≡ r = cc e in omega (arith, b, same)
    less (Fixed z) b e = absurd (cc e)

-- the operand of a cell, of its kind
pub cell_typed : (kinds : List CellKind) (next : ℕ) (values : List Operand) (c : ℕ) (kind : CellKind) → AreCells kinds next values → slice_get kinds c ≡ Some kind → IsTyped (Below next) (not (is_number kind)) (operand_of values c)
cell_typed kinds next values c kind a is = at (operand_of values c) (below_at values c (recursion_from_All (IsBelow next) values a.below)) (a.typed c kind is)
  where
    below_at : (values : List Operand) (c : ℕ) → AllByRecursion (IsBelow next) values → IsBelow next (operand_of values c)
    below_at [] c all = tt
    below_at (o ∷ os) zero all = all.0
    below_at (o ∷ os) (suc c) all = below_at os c all.1

    at : (o : Operand) → IsBelow next o → IsTyped (λ r t. Unit {0}) (not (is_number kind)) o → IsTyped (Below next) (not (is_number kind)) o
    at (Register r) b t = b
    at (Fixed z) b t = t

-- the arguments of a gate, in front of others
record UnitsFit (n : ℕ) (units : List Arg) : Type 0 where
  takes : (kinds : List Kind) (others : List Arg) → takes_all (replicate n NumberKind ++ kinds) (units ++ others) ≡ takes_all kinds others
  ids : (wanted : Kind → Bool) (kinds : List Kind) (others : List Arg) → ids_where wanted (replicate n NumberKind ++ kinds) (units ++ others) ≡ ids_where wanted kinds others
  labels : flat_map label_in units ≡ []

no_ids : (b : Bool) (ns : List ℕ) → (if b then [] else []) ++ ns ≡ ns
no_ids true ns = refl
no_ids false ns = refl

one_unit : (n : ℕ) (operand : Operand) (units : List Arg) → UnitsFit n units → UnitsFit (suc n) (Number operand ∷ units)
one_unit n operand units u = record {
  takes = λ kinds others. u.takes kinds others;
  ids = λ wanted kinds others. no_ids (wanted NumberKind) (ids_where wanted (replicate n NumberKind ++ kinds) (units ++ others)) ∙ u.ids wanted kinds others;
  labels = u.labels;
}

units_fit : (core : Core) (has : ℕ → Bool → Type 0) (n : ℕ) (args : List GateArg) (operands : List Operand) → n ≤ length args → ArgsFit core n args → AreTyped has core (flat_map running_in args) operands → UnitsFit n (unit_args args operands)
units_fit core has zero args operands le fit typed = subst (UnitsFit 0) (sym (unused_args core args operands fit)) (record { takes = λ kinds others. refl; ids = λ wanted kinds others. refl; labels = refl })
units_fit core has (suc n) [] operands le fit typed = absurd (omega (arith, le))
units_fit core has (suc n) (Unused ∷ args) operands le fit typed = absurd fit.0
units_fit core has (suc n) (Units z ∷ args) operands le fit typed = one_unit n (Fixed z) (unit_args args operands) (units_fit core has n args operands (omega (arith, le)) fit.1 typed)
units_fit core has (suc n) (Running e ∷ args) [] le fit typed = absurd typed
units_fit core has (suc n) (Running e ∷ args) (o ∷ operands) le fit typed = one_unit n o (unit_args args operands) (units_fit core has n args operands (omega (arith, le)) fit.1 typed.1)

-- its qubits
record IdsFit (bound n : ℕ) (named : List QubitId) : Type 0 where
  takes : takes_all (replicate n QubitKind) (map (λ (q : QubitId). Id q.0) (take n named)) ≡ true
  qubits : ids_where is_qubit (replicate n QubitKind) (map (λ (q : QubitId). Id q.0) (take n named)) ≡ map (λ (q : QubitId). q.0) (take n named)
  results : ids_where is_result (replicate n QubitKind) (map (λ (q : QubitId). Id q.0) (take n named)) ≡ []
  below : list_all (λ k. nat_lt k bound) (map (λ (q : QubitId). q.0) (take n named)) ≡ true
  labels : flat_map label_in (map (λ (q : QubitId). Id q.0) (take n named)) ≡ []

ids_fit : (bound n : ℕ) (qubits : List QubitId) → n ≤ length qubits → QubitsFit bound n qubits → IdsFit bound n qubits
ids_fit bound zero qubits le fit = record { takes = refl; qubits = refl; results = refl; below = refl; labels = refl }
ids_fit bound (suc n) [] le fit = absurd (omega (arith, le))
ids_fit bound (suc n) (q ∷ qubits) le fit =
    let r = ids_fit bound n qubits (omega (arith, le)) fit.1 in
    record {
      takes = r.takes;
      qubits = ap (λ (ns : List ℕ). q.0 ∷ ns) r.qubits;
      results = r.results;
      below = both (nat_lt q.0 bound) (list_all (λ k. nat_lt k bound) (map (λ (q : QubitId). q.0) (take n qubits))) (lt-ltb q.0 bound fit.0) r.below;
      labels = r.labels;
    }

not_among : (q : QubitId) (qubits : List QubitId) → ((j : ℕ) → j < length qubits → q.0 ≢ (slice_index_or qubits j q).0) → is_among (map (λ (q : QubitId). q.0) qubits) q.0 ≡ false
not_among q [] h = refl
not_among q (x ∷ qubits) h = ap (λ (b : Bool). b || is_among (map (λ (q : QubitId). q.0) qubits) q.0) (ne_eqb q.0 x.0 (h 0 (omega arith))) ∙ not_among q qubits (λ j lt. h (suc j) (omega (arith, lt)))

qubits_apart : (qubits : List QubitId) → AllPairs (λ (a b : QubitId). a.0 ≢ b.0) qubits → are_distinct (map (λ (q : QubitId). q.0) qubits) ≡ true
qubits_apart [] p = refl
qubits_apart (q ∷ qubits) p = both (not (is_among (map (λ (q : QubitId). q.0) qubits) q.0)) (are_distinct (map (λ (q : QubitId). q.0) qubits)) (ap not (not_among q qubits (λ j lt. p 0 (suc j) q (omega arith) (omega (arith, lt))))) (qubits_apart qubits (λ i j d lt within. p (suc i) (suc j) d (omega (arith, lt)) (omega (arith, within))))

units_below : (core : Core) (next results : ℕ) (has : ℕ → Bool → Type 0) → ((r : ℕ) (t : Bool) → has r t → r < next) → (n : ℕ) (args : List GateArg) (operands : List Operand) → n ≤ length args → ArgsFit core n args → AllByRecursion IsHeldArg args → AreTyped has core (flat_map running_in args) operands → AllByRecursion (IsArgBelow core next results) (unit_args args operands)
units_below core next results has less zero args operands le fit held typed = subst (AllByRecursion (IsArgBelow core next results)) (sym (unused_args core args operands fit)) tt
units_below core next results has less (suc n) [] operands le fit held typed = absurd (omega (arith, le))
units_below core next results has less (suc n) (Unused ∷ args) operands le fit held typed = absurd fit.0
units_below core next results has less (suc n) (Units z ∷ args) operands le fit held typed = (held.0, units_below core next results has less n args operands (omega (arith, le)) fit.1 held.1 typed)
units_below core next results has less (suc n) (Running e ∷ args) [] le fit held typed = absurd typed
units_below core next results has less (suc n) (Running e ∷ args) (o ∷ operands) le fit held typed = (typed_with has (Below next) less false o (typed.0 NumberCell fit.0), units_below core next results has less n args operands (omega (arith, le)) fit.1 held.1 typed.1)

ids_below : (core : Core) (next results n : ℕ) (qubits : List QubitId) → n ≤ length qubits → QubitsFit core.qubits n qubits → AllByRecursion (IsArgBelow core next results) (map (λ (q : QubitId). Id q.0) (take n qubits))
ids_below core next results zero qubits le fit = tt
ids_below core next results (suc n) [] le fit = absurd (omega (arith, le))
ids_below core next results (suc n) (q ∷ qubits) le fit = (inl fit.0, ids_below core next results n qubits (omega (arith, le)) fit.1)

flat_append_args : (xs ys : List Arg) → flat_map label_in (xs ++ ys) ≡ flat_map label_in xs ++ flat_map label_in ys
flat_append_args xs ys = flat_append label_in xs ys

pub gate_good : (core : Core) (next results : ℕ) (leaf : LeafCall) (has : ℕ → Bool → Type 0) (operands : List Operand) → ((r : ℕ) (t : Bool) → has r t → r < next) → LeafFits core leaf → IsHeldLeaf leaf → QubitsDiffer leaf (gate_row_of leaf.gate.0) → AreTyped has core (leaf_exprs leaf) operands → IsGoodInstr core next results (gate_call leaf operands)
gate_good core next results leaf has operands less fit shape differ typed = at (gate_row_of leaf.gate.0) refl fit.1 differ
  where
    at : (o : Option GateRow) → gate_row_of leaf.gate.0 ≡ o → TakesRow core leaf o → QubitsDiffer leaf o → IsGoodInstr core next results (gate_call leaf operands)
    at None e takes apart = absurd takes
    at (Some row) e takes apart =
        let small = row_small leaf.gate.0 row e in
        let f = gate_function leaf.gate.0 row fit.0 e in
        let units = unit_args leaf.args operands in
        let ids = map (λ (q : QubitId). Id q.0) (take row.qubits leaf.qubits) in
        let kinds = replicate row.params NumberKind ++ replicate row.qubits QubitKind in
        let u = units_fit core has row.params leaf.args operands (omega (arith, small.0, shape.four)) takes.0 typed in
        let q = ids_fit core.qubits row.qubits leaf.qubits (omega (arith, small.1, shape.three)) takes.1 in
        let args : unit_args leaf.args operands ++ qubit_args (gate_row_of leaf.gate.0) leaf.qubits ≡ units ++ ids = ap (λ (r : Option GateRow). units ++ qubit_args r leaf.qubits) e in
        let taken : takes_of (row_of (7 + leaf.gate.0)) ≡ kinds = ap takes_of f.found ∙ f.takes in
        let ids_of : (wanted : Kind → Bool) → instr_ids wanted (gate_call leaf operands) ≡ ids_where wanted (replicate row.qubits QubitKind) ids = λ wanted. ap (λ (ks : List Kind). ids_where wanted ks (unit_args leaf.args operands ++ qubit_args (gate_row_of leaf.gate.0) leaf.qubits)) taken ∙ ap (ids_where wanted kinds) args ∙ u.ids wanted (replicate row.qubits QubitKind) ids in
        let qubits : instr_ids is_qubit (gate_call leaf operands) ≡ map (λ (q : QubitId). q.0) (take row.qubits leaf.qubits) = ids_of is_qubit ∙ q.qubits in
        let held = recursion_from_All IsHeldArg leaf.args shape.args in
        record {
          below = (tt, small_function (7 + leaf.gate.0) (omega (arith, fit.0)), subst (AllByRecursion (IsArgBelow core next results)) (sym args) (all_append (IsArgBelow core next results) units ids (units_below core next results has less row.params leaf.args operands (omega (arith, small.0, shape.four)) takes.0 held typed) (ids_below core next results row.qubits leaf.qubits (omega (arith, small.1, shape.three)) takes.1)));
          qubits = ap (list_all (λ k. nat_lt k core.qubits)) qubits ∙ q.below;
          apart = ap are_distinct qubits ∙ qubits_apart (take row.qubits leaf.qubits) apart;
          measured = ap (list_all (λ k. nat_lt k results)) (ids_of is_result ∙ q.results);
          labels = ap (list_all (λ k. nat_lt k (length core.labels))) (ap (flat_map label_in) args ∙ flat_append_args units ids ∙ ap (λ (ns : List ℕ). ns ++ flat_map label_in ids) u.labels ∙ q.labels);
          fits = ap (λ (r : Option Row). call_fits r None (unit_args leaf.args operands ++ qubit_args (gate_row_of leaf.gate.0) leaf.qubits)) f.found
              ∙ ap (λ (ks : List Kind). takes_all ks (unit_args leaf.args operands ++ qubit_args (gate_row_of leaf.gate.0) leaf.qubits) && (if f.function.gives then false else true)) f.takes
              ∙ ap (λ (b : Bool). takes_all kinds (unit_args leaf.args operands ++ qubit_args (gate_row_of leaf.gate.0) leaf.qubits) && (if b then false else true)) f.gives
              ∙ ap (λ (given : List Arg). takes_all kinds given && true) args
              ∙ ap (λ (b : Bool). b && true) (u.takes (replicate row.qubits QubitKind) ids ∙ q.takes);
          constants = refl;
          function = one_below (7 + leaf.gate.0) 37 (omega (arith, fit.0));
          later = ap (λ (t : Option Task). is_initialize t || false) (ap task_of f.found ∙ ap Some f.task);
        }

-- ---- instructions that take the next registers and results

pub record IsNextCode (core : Core) (next result next_behind result_behind : ℕ) (code : List Instr) : Type 0 where
  pub registers : CountsFrom next (flat_map registers_of code)
  pub after : next_behind ≡ next + length (flat_map registers_of code)
  pub results : CountsFrom result (flat_map measured_in code)
  pub measured : result_behind ≡ result + length (flat_map measured_in code)
  pub body : IsReadInOrder code
  pub good : AllByRecursion (IsGoodInstr core next_behind result_behind) code

pub no_code : (core : Core) (next results : ℕ) → IsNextCode core next results next results []
no_code core next results = record { registers = tt; after = omega arith; results = tt; measured = omega arith; body = (tt, λ m. tt); good = tt }

pub code_append : (core : Core) (next results mid read after measured : ℕ) (xs ys : List Instr) → IsNextCode core next results mid read xs → IsNextCode core mid read after measured ys → IsNextCode core next results after measured (xs ++ ys)
code_append core next results mid read after measured xs ys a b =
    let er = flat_append registers_of xs ys in
    let em = flat_append measured_in xs ys in
    record {
      registers = subst (CountsFrom next) (sym er) (counts_append next (flat_map registers_of xs) (flat_map registers_of ys) a.registers (subst (λ (n : ℕ). CountsFrom n (flat_map registers_of ys)) a.after b.registers));
      after = omega (arith, a.after, b.after, ap length er, length-append (flat_map registers_of xs) (flat_map registers_of ys));
      results = subst (CountsFrom results) (sym em) (counts_append results (flat_map measured_in xs) (flat_map measured_in ys) a.results (subst (λ (n : ℕ). CountsFrom n (flat_map measured_in ys)) a.measured b.results));
      measured = omega (arith, a.measured, b.measured, ap length em, length-append (flat_map measured_in xs) (flat_map measured_in ys));
      body = read_append xs ys a.body b.body;
      good = all_append (IsGoodInstr core after measured) xs ys (good_more core mid after read measured (omega (arith, b.after)) (omega (arith, b.measured)) xs a.good) b.good;
    }

-- code of expressions has no calls
pub record IsQuiet (i : Instr) : Type 0 where
  pub measures : measured_in i ≡ []
  pub reads : read_in i ≡ []
  pub named : IsNamed i

quiet : (has : ℕ → Bool → Type 0) (i : Instr) → Reads has i → IsQuiet i
quiet has (Op r op truth left right) h = record { measures = refl; reads = refl; named = tt }
quiet has (Zext r from) h = record { measures = refl; reads = refl; named = tt }
quiet has (Trunc r from) h = record { measures = refl; reads = refl; named = tt }
quiet has (Select r truth test chosen other) h = record { measures = refl; reads = refl; named = tt }
quiet has (Call register function args) h = absurd h

reads_none : (measured ks : List ℕ) → ks ≡ [] → IsReadOf measured ks
reads_none measured [] e = tt
reads_none measured (k ∷ ks) e = absurd (cc e)

quiet_results : (has : ℕ → Bool → Type 0) (code : List Instr) → ReadsOnly has code → flat_map measured_in code ≡ []
quiet_results has [] r = refl
quiet_results has (i ∷ is) r = ap (λ (xs : List ℕ). xs ++ flat_map measured_in is) (quiet has i r.0).measures ∙ quiet_results _ is r.1

quiet_named : (has : ℕ → Bool → Type 0) (code : List Instr) → ReadsOnly has code → AllByRecursion IsNamed code
quiet_named has [] r = tt
quiet_named has (i ∷ is) r = ((quiet has i r.0).named, quiet_named _ is r.1)

quiet_follow : (has : ℕ → Bool → Type 0) (code : List Instr) → ReadsOnly has code → (measured : List ℕ) → ReadsFollow measured code
quiet_follow has [] r measured = tt
quiet_follow has (i ∷ is) r measured = (reads_none measured (read_in i) (quiet has i r.0).reads, quiet_follow _ is r.1 (measured_in i))

-- one register each
quiet_register : (has : ℕ → Bool → Type 0) (i : Instr) → Reads has i → length (registers_of i) ≡ 1
quiet_register has (Op r op truth left right) h = refl
quiet_register has (Zext r from) h = refl
quiet_register has (Trunc r from) h = refl
quiet_register has (Select r truth test chosen other) h = refl
quiet_register has (Call register function args) h = absurd h

quiet_registers : (has : ℕ → Bool → Type 0) (code : List Instr) → ReadsOnly has code → length (flat_map registers_of code) ≡ length code
quiet_registers has [] r = refl
quiet_registers has (i ∷ is) r = omega (arith, quiet_register has i r.0, quiet_registers _ is r.1, length-append (registers_of i) (flat_map registers_of is))

pub lowered_code : (core : Core) (exprs : List ℕ) (values : List Operand) (next results : ℕ) (code : List Instr) (operands : List Operand) → AreCells core.cells next values → IsLowered core exprs values next code operands → IsNextCode core next results (next + length code) results code
lowered_code core exprs values next results code operands cells l =
    let few : list_all (λ r. nat_lt r (next + length code)) (flat_map registers_of code) ≡ true = counts_bound next (next + length code) (flat_map registers_of code) l.registers (omega (arith, quiet_registers (HasCell core.cells values) code l.reads)) in
    let none = quiet_results (HasCell core.cells values) code l.reads in
    record {
      registers = l.registers;
      after = omega (arith, quiet_registers (HasCell core.cells values) code l.reads);
      results = subst (CountsFrom results) (sym none) tt;
      measured = omega (arith, ap length none);
      body = (quiet_named (HasCell core.cells values) code l.reads, quiet_follow (HasCell core.cells values) code l.reads);
      good = quiet_good core (next + length code) results (HasCell core.cells values) code (λ r t h. cell_less core.cells next (next + length code) values (omega arith) cells r t h) few l.reads l.fixed;
    }

-- a call that neither measures nor reads
pub quiet_call : (core : Core) (i : Instr) (next results : ℕ) → registers_of i ≡ [] → IsQuiet i → IsGoodInstr core next results i → IsNextCode core next results next results (i ∷ [])
quiet_call core i next results er q g =
    let er' : flat_map registers_of (i ∷ []) ≡ [] = ap (λ (xs : List ℕ). xs ++ []) er in
    let em : flat_map measured_in (i ∷ []) ≡ [] = ap (λ (xs : List ℕ). xs ++ []) q.measures in
    record {
      registers = subst (CountsFrom next) (sym er') tt;
      after = omega (arith, ap length er');
      results = subst (CountsFrom results) (sym em) tt;
      measured = omega (arith, ap length em);
      body = ((q.named, tt), λ m. (reads_none m (read_in i) q.reads, tt));
      good = (g, tt);
    }

pub gate_quiet : (leaf : LeafCall) (operands : List Operand) → (core : Core) → LeafFits core leaf → IsQuiet (gate_call leaf operands)
gate_quiet leaf operands core fit = at (gate_row_of leaf.gate.0) refl fit.1
  where
    args : List Arg
    args = unit_args leaf.args operands ++ qubit_args (gate_row_of leaf.gate.0) leaf.qubits

    at : (o : Option GateRow) → gate_row_of leaf.gate.0 ≡ o → TakesRow core leaf o → IsQuiet (gate_call leaf operands)
    at None e takes = absurd takes
    at (Some row) e takes =
        let f = gate_function leaf.gate.0 row fit.0 e in
        let task = ap task_of f.found ∙ ap Some f.task in
        record {
          measures = ap (λ (t : Option Task). measured_by t args) task;
          reads = ap (λ (t : Option Task). read_by t args) task;
          named = subst (λ (t : Option Task). NamesResult t args) (sym task) tt;
        }

pub reset_code : (core : Core) (qubit : QubitId) (next results : ℕ) → qubit.0 < core.qubits → IsNextCode core next results next results (reset_call qubit ∷ [])
reset_code core qubit next results lt =
    quiet_call core (reset_call qubit) next results refl (record { measures = refl; reads = refl; named = tt })
    (record { below = (tt, small_function 5 (omega arith), (inl lt, tt)); qubits = one_below qubit.0 core.qubits lt; apart = refl; measured = refl; labels = refl; fits = refl; constants = refl; function = refl; later = refl })

measure_good : (core : Core) (qubit : QubitId) (next results : ℕ) → qubit.0 < core.qubits → IsGoodInstr core next (suc results) (measure_call qubit results)
measure_good core qubit next results lt = record { below = (tt, small_function 6 (omega arith), (inl lt, (inr (omega arith), tt))); qubits = one_below qubit.0 core.qubits lt; apart = refl; measured = one_below results (suc results) (omega arith); labels = refl; fits = refl; constants = refl; function = refl; later = refl }

pub measure_code : (core : Core) (qubit : QubitId) (next results : ℕ) → qubit.0 < core.qubits → IsNextCode core next results next (suc results) (measure_call qubit results ∷ [])
measure_code core qubit next results lt = record { registers = tt; after = omega arith; results = (refl, tt); measured = omega arith; body = ((tt, tt), λ m. (tt, tt)); good = (measure_good core qubit next results lt, tt) }

pub read_code : (core : Core) (qubit : QubitId) (next results : ℕ) → qubit.0 < core.qubits → IsNextCode core next results (suc next) (suc results) (measure_call qubit results ∷ read_call next results ∷ [])
read_code core qubit next results lt = record {
  registers = (refl, tt);
  after = omega arith;
  results = (refl, tt);
  measured = omega arith;
  body = ((tt, (tt, tt)), λ m. (tt, (refl, tt)));
  good = (measure_good core qubit (suc next) results lt, (record { below = (omega arith, small_function 1 (omega arith), (inr (omega arith), tt)); qubits = refl; apart = refl; measured = one_below results (suc results) (omega arith); labels = refl; fits = refl; constants = refl; function = refl; later = refl }, tt));
}

record_quiet : (values : List Operand) (o : Output) → (registers_of (record_call values o) ≡ []) × IsQuiet (record_call values o)
record_quiet values (ArrayOutput label size) = (refl, record { measures = refl; reads = refl; named = tt })
record_quiet values (TruthOutput label c) = (refl, record { measures = refl; reads = refl; named = tt })
record_quiet values (NumberOutput label c) = (refl, record { measures = refl; reads = refl; named = tt })

record_good : (core : Core) (next results : ℕ) (values : List Operand) (o : Output) → AreCells core.cells next values → OutputFits core o → IsHeldOutput o → IsGoodInstr core next results (record_call values o)
record_good core next results values (ArrayOutput label size) a fit held = record { below = (tt, small_function 2 (omega arith), (fits_signed_from_abs w64 (pos size) (omega (arith, held)), (fit, tt))); qubits = refl; apart = refl; measured = refl; labels = one_below label (length core.labels) fit; fits = refl; constants = refl; function = refl; later = refl }
record_good core next results values (TruthOutput label c) a fit held = record { below = (tt, small_function 3 (omega arith), (cell_typed core.cells next values c TruthCell a fit.1, (fit.0, tt))); qubits = refl; apart = refl; measured = refl; labels = one_below label (length core.labels) fit.0; fits = refl; constants = refl; function = refl; later = refl }
record_good core next results values (NumberOutput label c) a fit held = record { below = (tt, small_function 4 (omega arith), (cell_typed core.cells next values c NumberCell a fit.1, (fit.0, tt))); qubits = refl; apart = refl; measured = refl; labels = one_below label (length core.labels) fit.0; fits = refl; constants = refl; function = refl; later = refl }

pub record_code : (core : Core) (values : List Operand) (outputs : List Output) (next results : ℕ) → AreCells core.cells next values → AllByRecursion (OutputFits core) outputs → AllByRecursion IsHeldOutput outputs → IsNextCode core next results next results (map (record_call values) outputs)
record_code core values [] next results a fit held = no_code core next results
record_code core values (o ∷ outputs) next results a fit held =
    let q = record_quiet values o in
    code_append core next results next results next results (record_call values o ∷ []) (map (record_call values) outputs) (quiet_call core (record_call values o) next results q.0 q.1 (record_good core next results values o a fit.0 held.0)) (record_code core values outputs next results a fit.1 held.1)

-- ---- no statement records

quiet_silent : (has : ℕ → Bool → Type 0) (code : List Instr) → ReadsOnly has code → AreSilent code
quiet_silent has [] r = tt
quiet_silent has (i ∷ is) r = (one has i r.0, quiet_silent _ is r.1)
  where
    one : (has : ℕ → Bool → Type 0) (i : Instr) → Reads has i → is_record (TheInstr i) ≡ false
    one has (Op r op truth left right) h = refl
    one has (Zext r from) h = refl
    one has (Trunc r from) h = refl
    one has (Select r truth test chosen other) h = refl
    one has (Call register function args) h = absurd h

pub lowered_silent : (core : Core) (exprs : List ℕ) (values : List Operand) (next : ℕ) (code : List Instr) (operands : List Operand) → IsLowered core exprs values next code operands → AreSilent code
lowered_silent core exprs values next code operands l = quiet_silent (HasCell core.cells values) code l.reads

pub gate_silent : (core : Core) (leaf : LeafCall) (operands : List Operand) → LeafFits core leaf → AreSilent (gate_call leaf operands ∷ [])
gate_silent core leaf operands fit = (at (gate_row_of leaf.gate.0) refl fit.1, tt)
  where
    at : (o : Option GateRow) → gate_row_of leaf.gate.0 ≡ o → TakesRow core leaf o → is_record (TheInstr (gate_call leaf operands)) ≡ false
    at None e takes = absurd takes
    at (Some row) e takes =
        let f = gate_function leaf.gate.0 row fit.0 e in
        ap (λ (t : Option Task). is_record_task t || false) (ap task_of f.found ∙ ap Some f.task)
