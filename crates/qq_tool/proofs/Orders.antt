-- The numbers in the module of a thin program stand in their order.
use Rattle.std.proofs.Common.{◌≡◌, ℕ, suc, ◌+◌, Bool, true, false, ◌||◌, if◌then◌else◌, nat_eq, List, [], ◌∷◌, ◌++◌, length, map, filter, refl, sym, ap, ◌∙◌, subst, arith, append-nil, zero-add, ◌≤◌}
use Rattle.std.specs.List.{flat_map, list_any, AllByRecursion}
use Rattle.std.proofs.lemmas.Grind.{flat_map-append}
use Rattle.std.proofs.lemmas.List.Folds.{list_any-append}
use Rattle.qir_module.specs.declared.instruction.Operand.{Operand}
use Rattle.qir_module.specs.declared.instruction.Instr.{Instr}
use Rattle.qir_module.specs.declared.function.Function.{Function}
use Rattle.qir_module.specs.Numbered.{CountsFrom, counted, registers_of, functions_of, called_functions, measured_in, ReadsFollow, IsNamed, is_among, IsNumbered}
use Rattle.qir_module.proofs.Numbers.{ReadsFollow-append, filter_by_same}
use Rattle.qq_tool.proofs.Shapes.{length-last_operands}
use Rattle.qq_tool.specs.declared.thin.ThinLine.{ThinLine}
use Rattle.qq_tool.specs.declared.thin.ThinLine.TheVariants.{Hadamard, Not, ControlledNot, Measure}
use Rattle.qq_tool.specs.Thin.{Thin, IsThin}
use Rattle.qq_tool.specs.Lowered.{lines_instrs, lines_count, bit_record_instrs, record_instrs, is_measure, is_not, is_hadamard, is_controlled_not, declared_if, last_operands, lowered_block, lowered}

-- ---- registers and results: those of the lines alone

registers_in_lines : (k : ℕ) (lines : List ThinLine) → CountsFrom k (flat_map registers_of (lines_instrs k lines))
registers_in_lines k [] = tt
registers_in_lines k (Hadamard qubit ∷ lines) = registers_in_lines k lines
registers_in_lines k (Not qubit ∷ lines) = registers_in_lines k lines
registers_in_lines k (ControlledNot control target ∷ lines) = registers_in_lines k lines
registers_in_lines k (Measure qubit bit ∷ lines) = (refl, registers_in_lines (suc k) lines)

results_in_lines : (k : ℕ) (lines : List ThinLine) → CountsFrom k (flat_map measured_in (lines_instrs k lines))
results_in_lines k [] = tt
results_in_lines k (Hadamard qubit ∷ lines) = results_in_lines k lines
results_in_lines k (Not qubit ∷ lines) = results_in_lines k lines
results_in_lines k (ControlledNot control target ∷ lines) = results_in_lines k lines
results_in_lines k (Measure qubit bit ∷ lines) = (refl, results_in_lines (suc k) lines)

counted_results : (k : ℕ) (lines : List ThinLine) → lines_count k lines ≡ k + length (flat_map measured_in (lines_instrs k lines))
counted_results k [] = omega arith
counted_results k (Hadamard qubit ∷ lines) = counted_results k lines
counted_results k (Not qubit ∷ lines) = counted_results k lines
counted_results k (ControlledNot control target ∷ lines) = counted_results k lines
counted_results k (Measure qubit bit ∷ lines) = omega (arith, counted_results (suc k) lines)

no_registers : (k : ℕ) (operands : List Operand) → flat_map registers_of (bit_record_instrs k operands) ≡ []
no_registers k [] = refl
no_registers k (operand ∷ operands) = no_registers (suc k) operands

no_results : (k : ℕ) (operands : List Operand) → flat_map measured_in (bit_record_instrs k operands) ≡ []
no_results k [] = refl
no_results k (operand ∷ operands) = no_results (suc k) operands

-- every measurement and every reading names its result
named_lines : (k : ℕ) (lines : List ThinLine) → AllByRecursion IsNamed (lines_instrs k lines)
named_lines k [] = tt
named_lines k (Hadamard qubit ∷ lines) = (tt, named_lines k lines)
named_lines k (Not qubit ∷ lines) = (tt, named_lines k lines)
named_lines k (ControlledNot control target ∷ lines) = (tt, named_lines k lines)
named_lines k (Measure qubit bit ∷ lines) = (tt, (tt, named_lines (suc k) lines))

named_records : (k : ℕ) (operands : List Operand) → AllByRecursion IsNamed (bit_record_instrs k operands)
named_records k [] = tt
named_records k (operand ∷ operands) = (tt, named_records (suc k) operands)

named_both : (xs ys : List Instr) → AllByRecursion IsNamed xs → AllByRecursion IsNamed ys → AllByRecursion IsNamed (xs ++ ys)
named_both [] ys first second = second
named_both (x ∷ xs) ys first second = (first.0, named_both xs ys first.1 second)

-- what the body has behind the lines gives nothing
of_lines : (f : Instr → List ℕ) (xs ys : List Instr) → flat_map f ys ≡ [] → flat_map f (xs ++ ys) ++ [] ≡ flat_map f xs
of_lines f xs ys none =
    append-nil (flat_map f (xs ++ ys)) ∙ flat_map-append f xs ys ∙ ap (λ ns. flat_map f xs ++ ns) none ∙ append-nil (flat_map f xs)

-- ---- readings

reads_in_lines : (measured : List ℕ) (k : ℕ) (lines : List ThinLine) → ReadsFollow measured (lines_instrs k lines)
reads_in_lines measured k [] = tt
reads_in_lines measured k (Hadamard qubit ∷ lines) = (tt, reads_in_lines [] k lines)
reads_in_lines measured k (Not qubit ∷ lines) = (tt, reads_in_lines [] k lines)
reads_in_lines measured k (ControlledNot control target ∷ lines) = (tt, reads_in_lines [] k lines)
reads_in_lines measured k (Measure qubit bit ∷ lines) = (tt, (refl, reads_in_lines [] (suc k) lines))

no_reads : (measured : List ℕ) (k : ℕ) (operands : List Operand) → ReadsFollow measured (bit_record_instrs k operands)
no_reads measured k [] = tt
no_reads measured k (operand ∷ operands) = (tt, no_reads [] (suc k) operands)

-- ---- declarations

-- whether a function is called, by the kinds of lines that there are
abbrev is_called : Bool → Bool → Bool → Bool → ℕ → Bool
is_called m x h c n =
    if nat_eq n 1 then m else if nat_eq n 6 then m else if nat_eq n 7 then x else if nat_eq n 10 then h else if nat_eq n 22 then c else false

-- one more line of a kind
with_measure : (x h c m : Bool) (n : ℕ) → (nat_eq n 6 || (nat_eq n 1 || is_called m x h c n)) ≡ is_called true x h c n
with_measure x h c m n = grind arith

with_not : (m x h c : Bool) (n : ℕ) → (nat_eq n 7 || is_called m x h c n) ≡ is_called m true h c n
with_not m x h c n = grind arith

with_hadamard : (m x h c : Bool) (n : ℕ) → (nat_eq n 10 || is_called m x h c n) ≡ is_called m x true c n
with_hadamard m x h c n = grind arith

with_controlled_not : (m x h c : Bool) (n : ℕ) → (nat_eq n 22 || is_called m x h c n) ≡ is_called m x h true n
with_controlled_not m x h c n = grind arith

called_by_lines : (k : ℕ) (lines : List ThinLine) (n : ℕ) → is_among (flat_map functions_of (lines_instrs k lines)) n ≡ is_called (list_any is_measure lines) (list_any is_not lines) (list_any is_hadamard lines) (list_any is_controlled_not lines) n
called_by_lines k [] n = sym (none n)
  where
    none : (m : ℕ) → is_called false false false false m ≡ false
    none m = grind arith
called_by_lines k (Hadamard qubit ∷ lines) n =
    ap (λ (b : Bool). nat_eq n 10 || b) (called_by_lines k lines n) ∙ with_hadamard (list_any is_measure lines) (list_any is_not lines) (list_any is_hadamard lines) (list_any is_controlled_not lines) n
called_by_lines k (Not qubit ∷ lines) n =
    ap (λ (b : Bool). nat_eq n 7 || b) (called_by_lines k lines n) ∙ with_not (list_any is_measure lines) (list_any is_not lines) (list_any is_hadamard lines) (list_any is_controlled_not lines) n
called_by_lines k (ControlledNot control target ∷ lines) n =
    ap (λ (b : Bool). nat_eq n 22 || b) (called_by_lines k lines n) ∙ with_controlled_not (list_any is_measure lines) (list_any is_not lines) (list_any is_hadamard lines) (list_any is_controlled_not lines) n
called_by_lines k (Measure qubit bit ∷ lines) n =
    ap (λ (b : Bool). nat_eq n 6 || (nat_eq n 1 || b)) (called_by_lines (suc k) lines n) ∙ with_measure (list_any is_not lines) (list_any is_hadamard lines) (list_any is_controlled_not lines) (list_any is_measure lines) n

-- the records of some bits call one function
called_by_records : (k : ℕ) (operands : List Operand) (n : ℕ) → 1 ≤ length operands → is_among (flat_map functions_of (bit_record_instrs k operands)) n ≡ nat_eq n 3
called_by_records k [] n some = absurd (omega (arith, some))
called_by_records k (operand ∷ operands) n some = all_alike (suc k) operands
  where
    again : (c d : Bool) → (c || d) ≡ c → (c || (c || d)) ≡ c
    again true d same = refl
    again false d same = same

    alone : (c : Bool) → (c || false) ≡ c
    alone true = refl
    alone false = refl

    all_alike : (k : ℕ) (operands : List Operand) → (nat_eq n 3 || is_among (flat_map functions_of (bit_record_instrs k operands)) n) ≡ nat_eq n 3
    all_alike k [] = alone (nat_eq n 3)
    all_alike k (operand ∷ operands) = again (nat_eq n 3) (is_among (flat_map functions_of (bit_record_instrs (suc k) operands)) n) (all_alike (suc k) operands)

-- whether a function is called by the whole body
abbrev is_called_by_body : Bool → Bool → Bool → Bool → ℕ → Bool
is_called_by_body m x h c n = nat_eq n 0 || (is_called m x h c n || (nat_eq n 2 || nat_eq n 3))

called_by_body : (p : Thin) (n : ℕ) → 1 ≤ length (last_operands p)
    → is_among (called_functions (lowered_block p ∷ [])) n ≡ is_called_by_body (list_any is_measure p.lines) (list_any is_not p.lines) (list_any is_hadamard p.lines) (list_any is_controlled_not p.lines) n
called_by_body p n some =
    let lines = flat_map functions_of (lines_instrs 0 p.lines) in
    let records = flat_map functions_of (record_instrs (last_operands p)) in
    ap (λ ns. nat_eq n 0 || is_among ns n) (append-nil (flat_map functions_of (lines_instrs 0 p.lines ++ record_instrs (last_operands p))) ∙ flat_map-append functions_of (lines_instrs 0 p.lines) (record_instrs (last_operands p)))
    ∙ ap (λ (b : Bool). nat_eq n 0 || b) (list_any-append (nat_eq n) lines records)
    ∙ ap (λ (b : Bool). nat_eq n 0 || (b || is_among records n)) (called_by_lines 0 p.lines n)
    ∙ ap (λ (b : Bool). nat_eq n 0 || (is_called (list_any is_measure p.lines) (list_any is_not p.lines) (list_any is_hadamard p.lines) (list_any is_controlled_not p.lines) n || (nat_eq n 2 || b))) (called_by_records 1 (last_operands p) n some)

-- they are the declared ones
declared_numbers : (m x h c : Bool)
    → map (λ (f : Function). f.0) (declared_if true 0 ++ declared_if m 1 ++ declared_if true 2 ++ declared_if true 3 ++ declared_if m 6 ++ declared_if x 7 ++ declared_if h 10 ++ declared_if c 22)
    ≡ filter (is_called_by_body m x h c) (counted 0 37)
declared_numbers true true true true = refl
declared_numbers true true true false = refl
declared_numbers true true false true = refl
declared_numbers true true false false = refl
declared_numbers true false true true = refl
declared_numbers true false true false = refl
declared_numbers true false false true = refl
declared_numbers true false false false = refl
declared_numbers false true true true = refl
declared_numbers false true true false = refl
declared_numbers false true false true = refl
declared_numbers false true false false = refl
declared_numbers false false true true = refl
declared_numbers false false true false = refl
declared_numbers false false false true = refl
declared_numbers false false false false = refl

-- ---- the module

pub lowered_numbered : (p : Thin) → IsThin p → IsNumbered (lowered p)
lowered_numbered p thin = record {
  names = (refl, tt);
  registers = subst (CountsFrom 0) (sym registers) (registers_in_lines 0 p.lines);
  named = ((tt, named_both (lines_instrs 0 p.lines) (record_instrs (last_operands p)) (named_lines 0 p.lines) (tt, named_records 1 (last_operands p))), tt);
  results = subst (CountsFrom 0) (sym results) (results_in_lines 0 p.lines);
  required = counted_results 0 p.lines ∙ zero-add (length (flat_map measured_in (lines_instrs 0 p.lines))) ∙ ap length (sym results);
  reads = ((tt, ReadsFollow-append [] (lines_instrs 0 p.lines) (record_instrs (last_operands p)) (reads_in_lines [] 0 p.lines) (tt, no_reads [] 1 (last_operands p))), tt);
  declarations =
      declared_numbers (list_any is_measure p.lines) (list_any is_not p.lines) (list_any is_hadamard p.lines) (list_any is_controlled_not p.lines)
      ∙ sym (filter_by_same (is_among (called_functions (lowered_block p ∷ []))) (is_called_by_body (list_any is_measure p.lines) (list_any is_not p.lines) (list_any is_hadamard p.lines) (list_any is_controlled_not p.lines)) (counted 0 37) (λ n. called_by_body p n some));
}
  where
    registers : flat_map registers_of (lines_instrs 0 p.lines ++ record_instrs (last_operands p)) ++ [] ≡ flat_map registers_of (lines_instrs 0 p.lines)
    registers = of_lines registers_of (lines_instrs 0 p.lines) (record_instrs (last_operands p)) (no_registers 1 (last_operands p))

    results : flat_map measured_in (lines_instrs 0 p.lines ++ record_instrs (last_operands p)) ++ [] ≡ flat_map measured_in (lines_instrs 0 p.lines)
    results = of_lines measured_in (lines_instrs 0 p.lines) (record_instrs (last_operands p)) (no_results 1 (last_operands p))

    some : 1 ≤ length (last_operands p)
    some = omega (arith, length-last_operands p, thin.some_bits)
