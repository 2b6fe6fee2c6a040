-- Registers and results are numbered in the order of the text, and each outcome that is read is read at once.
use Rattle.std.proofs.Common.{◌≡◌, ℕ, suc, ◌+◌, List, [], ◌∷◌, ◌++◌, map, length, get_or, pos, Option, Some, None, refl, sym, ap, ◌∙◌, subst, arith, append_assoc, append-nil, length-append}
use Rattle.std.specs.Prelude.{filter}
use Rattle.std.specs.List.{flat_map, AllByRecursion}
use Rattle.qir_module.specs.declared.instruction.Operand.{Operand}
use Rattle.qir_module.specs.declared.instruction.Instr.{Instr}
use Rattle.qir_module.specs.declared.instruction.Last.{Last}
use Rattle.qir_module.specs.declared.instruction.Last.TheVariants.{Return}
use Rattle.qir_module.specs.declared.block.Phi.{Phi}
use Rattle.qir_module.specs.declared.block.Block.{Block as ModuleBlock}
use Rattle.qir_module.specs.declared.function.Function.{Function}
use Rattle.qir_module.specs.Numbered.{CountsFrom, registers_of, block_registers, measured_in, IsNamed, EachReadsFollow, measured_results, called_functions, is_among, counted, IsNumbered}
use Rattle.core_ir.specs.Core.{Core}
use Rattle.phi_place.specs.Phis.{WaysCarry, SameWhereNotDiffer}
use Rattle.block_graph.specs.Laws.{IsLowerable}
use Rattle.block_graph.specs.Work.{Draft, Open, Work}
use Rattle.block_graph.specs.Lowering.{Coder, record_call, end_work, first_work, lower_of, whole_work, settled_phis, settled_from, blocks_of, lowered}
use Rattle.block_graph.specs.Claims.{traced_draft, traced_now, traced, phi_registers, no_registers, IsReadInOrder, NowIsReadInOrder, NumbersInOrder}
use Rattle.core_ir.specs.Tree.{program_of}
use Rattle.block_graph.proofs.Coding.{counts_append, flat_append, all_append, read_append, IsNextCode}
use Rattle.block_graph.proofs.Walking.{Steps, late_phis, walk_program, end_none}
use Rattle.block_graph.proofs.Whole.{settled_names}

-- ---- what is given so far, where the late phis are known

module _ (f : List Phi → List ℕ) (g : Instr → List ℕ) (lates : ℕ → List Phi) where
  pub traced_more : (w v : Work) (o : Open) (code : List Instr) (values : List Operand) → w.now ≡ Some o → v.done ≡ w.done → v.now ≡ Some (record o { body = o.body ++ code; values = values }) → traced f g lates v ≡ traced f g lates w ++ flat_map g code
  traced_more w v o code values is same now =
      ap (λ (d : List Draft). flat_map (traced_draft f g lates) d ++ traced_now f g lates v.now) same
      ∙ ap (λ (n : Option Open). flat_map (traced_draft f g lates) w.done ++ traced_now f g lates n) now
      ∙ ap (λ (l : List ℕ). flat_map (traced_draft f g lates) w.done ++ (f (settled_phis lates o.phis) ++ l)) (flat_append g o.body code)
      ∙ ap (λ (l : List ℕ). flat_map (traced_draft f g lates) w.done ++ l) (sym (append_assoc (f (settled_phis lates o.phis)) (flat_map g o.body) (flat_map g code)))
      ∙ sym (append_assoc (flat_map (traced_draft f g lates) w.done) (traced_now f g lates (Some o)) (flat_map g code))
      ∙ ap (λ (n : Option Open). (flat_map (traced_draft f g lates) w.done ++ traced_now f g lates n) ++ flat_map g code) (sym is)

  pub traced_same : (w v : Work) → v.done ≡ w.done → v.now ≡ w.now → traced f g lates v ≡ traced f g lates w
  traced_same w v done now = ap (λ (d : List Draft). flat_map (traced_draft f g lates) d ++ traced_now f g lates v.now) done ∙ ap (λ (n : Option Open). flat_map (traced_draft f g lates) w.done ++ traced_now f g lates n) now

  pub traced_close : (w v : Work) (o : Open) (code : List Instr) (last : Last) → w.now ≡ Some o → v.done ≡ w.done ++ record { phis = o.phis; body = o.body ++ code; last = last } ∷ [] → v.now ≡ None → traced f g lates v ≡ traced f g lates w ++ flat_map g code
  traced_close w v o code last is done none =
      let d : Draft = record { phis = o.phis; body = o.body ++ code; last = last } in
      ap (λ (x : List Draft). flat_map (traced_draft f g lates) x ++ traced_now f g lates v.now) done
      ∙ ap (λ (n : Option Open). flat_map (traced_draft f g lates) (w.done ++ d ∷ []) ++ traced_now f g lates n) none
      ∙ append-nil (flat_map (traced_draft f g lates) (w.done ++ d ∷ []))
      ∙ flat_append (traced_draft f g lates) w.done (d ∷ [])
      ∙ ap (λ (x : List ℕ). flat_map (traced_draft f g lates) w.done ++ x) (append-nil (traced_draft f g lates d))
      ∙ ap (λ (l : List ℕ). flat_map (traced_draft f g lates) w.done ++ (f (settled_phis lates o.phis) ++ l)) (flat_append g o.body code)
      ∙ ap (λ (l : List ℕ). flat_map (traced_draft f g lates) w.done ++ l) (sym (append_assoc (f (settled_phis lates o.phis)) (flat_map g o.body) (flat_map g code)))
      ∙ sym (append_assoc (flat_map (traced_draft f g lates) w.done) (traced_now f g lates (Some o)) (flat_map g code))
      ∙ ap (λ (n : Option Open). (flat_map (traced_draft f g lates) w.done ++ traced_now f g lates n) ++ flat_map g code) (sym is)

  pub traced_open : (x v : Work) (o : Open) → x.now ≡ None → v.done ≡ x.done → v.now ≡ Some o → o.body ≡ [] → traced f g lates v ≡ traced f g lates x ++ f (settled_phis lates o.phis)
  traced_open x v o none done now body =
      ap (λ (d : List Draft). flat_map (traced_draft f g lates) d ++ traced_now f g lates v.now) done
      ∙ ap (λ (n : Option Open). flat_map (traced_draft f g lates) x.done ++ traced_now f g lates n) now
      ∙ ap (λ (b : List Instr). flat_map (traced_draft f g lates) x.done ++ (f (settled_phis lates o.phis) ++ flat_map g b)) body
      ∙ ap (λ (l : List ℕ). flat_map (traced_draft f g lates) x.done ++ l) (append-nil (f (settled_phis lates o.phis)))
      ∙ ap (λ (l : List ℕ). l ++ f (settled_phis lates o.phis)) (sym (append-nil (flat_map (traced_draft f g lates) x.done)))
      ∙ ap (λ (n : Option Open). (flat_map (traced_draft f g lates) x.done ++ traced_now f g lates n) ++ f (settled_phis lates o.phis)) (sym none)

read_now : (now : Option Open) (o : Open) → now ≡ Some o → NowIsReadInOrder now → IsReadInOrder o.body
read_now now o is r = subst NowIsReadInOrder is r

-- ---- the steps, with these late phis

module _ (core : Core) (lates : ℕ → List Phi) where
  -- what is added to both
  adds : (w v : Work) (xs ys : List ℕ) → traced phi_registers registers_of lates v ≡ traced phi_registers registers_of lates w ++ xs → CountsFrom w.next xs → v.next ≡ w.next + length xs → traced no_registers measured_in lates v ≡ traced no_registers measured_in lates w ++ ys → CountsFrom w.results ys → v.results ≡ w.results + length ys
      → NumbersInOrder lates w → AllByRecursion (λ (d : Draft). IsReadInOrder d.body) v.done → NowIsReadInOrder v.now → NumbersInOrder lates v
  adds w v xs ys ex cx lx ey cy ly n bodies body =
      let tr = traced phi_registers registers_of lates w in
      let tm = traced no_registers measured_in lates w in
      record {
        registers = subst (CountsFrom 0) (sym ex) (counts_append 0 tr xs n.registers (subst (λ (k : ℕ). CountsFrom k xs) (n.next ∙ zero_more (length tr)) cx));
        next = omega (arith, lx, n.next, ap length ex, length-append tr xs);
        results = subst (CountsFrom 0) (sym ey) (counts_append 0 tm ys n.results (subst (λ (k : ℕ). CountsFrom k ys) (n.measured ∙ zero_more (length tm)) cy));
        measured = omega (arith, ly, n.measured, ap length ey, length-append tm ys);
        bodies = bodies;
        body = body;
      }
    where
      zero_more : (k : ℕ) → k ≡ 0 + k
      zero_more k = omega arith

  more_order : (w v : Work) (o : Open) (code : List Instr) (values : List Operand) → w.now ≡ Some o → v.done ≡ w.done → v.now ≡ Some (record o { body = o.body ++ code; values = values }) → IsNextCode core w.next w.results v.next v.results code → NumbersInOrder lates w → NumbersInOrder lates v
  more_order w v o code values is same now c n =
      adds w v (flat_map registers_of code) (flat_map measured_in code) (traced_more phi_registers registers_of lates w v o code values is same now) c.registers c.after (traced_more no_registers measured_in lates w v o code values is same now) c.results c.measured n
      (subst (AllByRecursion (λ (d : Draft). IsReadInOrder d.body)) (sym same) n.bodies)
      (subst NowIsReadInOrder (sym now) (read_append o.body code (read_now w.now o is n.body) c.body))

  close_order : (w v : Work) (o : Open) (code : List Instr) (last : Last) → w.now ≡ Some o → v.done ≡ w.done ++ record { phis = o.phis; body = o.body ++ code; last = last } ∷ [] → v.now ≡ None → IsNextCode core w.next w.results v.next v.results code → NumbersInOrder lates w → NumbersInOrder lates v
  close_order w v o code last is done none c n =
      let d : Draft = record { phis = o.phis; body = o.body ++ code; last = last } in
      adds w v (flat_map registers_of code) (flat_map measured_in code) (traced_close phi_registers registers_of lates w v o code last is done none) c.registers c.after (traced_close no_registers measured_in lates w v o code last is done none) c.results c.measured n
      (subst (AllByRecursion (λ (d : Draft). IsReadInOrder d.body)) (sym done) (all_append (λ (d : Draft). IsReadInOrder d.body) w.done (d ∷ []) n.bodies (read_append o.body code (read_now w.now o is n.body) c.body, tt)))
      (subst NowIsReadInOrder (sym none) tt)

  open_order : (x v : Work) (o : Open) → x.now ≡ None → v.done ≡ x.done → v.now ≡ Some o → o.body ≡ [] → CountsFrom x.next (phi_registers (settled_phis lates o.phis)) → v.next ≡ x.next + length (phi_registers (settled_phis lates o.phis)) → v.results ≡ x.results → NumbersInOrder lates x → NumbersInOrder lates v
  open_order x v o none done now body c en er n =
      adds x v (phi_registers (settled_phis lates o.phis)) [] (traced_open phi_registers registers_of lates x v o none done now body) c en (traced_open no_registers measured_in lates x v o none done now body) tt (omega (arith, er)) n
      (subst (AllByRecursion (λ (d : Draft). IsReadInOrder d.body)) (sym done) n.bodies)
      (subst NowIsReadInOrder (sym now) (subst IsReadInOrder (sym body) (tt, λ m. tt)))

  pub order_steps : Steps core lates (NumbersInOrder lates)
  order_steps = record {
    more = λ w v o code values is done now c q n. more_order w v o code values is done now c n;
    ends = λ w v o code last is done none c q t n. close_order w v o code last is done none c n;
    begins = open_order;
    same = λ w v done now next results n. record {
      registers = subst (CountsFrom 0) (sym (traced_same phi_registers registers_of lates w v done now)) n.registers;
      next = next ∙ n.next ∙ sym (ap length (traced_same phi_registers registers_of lates w v done now));
      results = subst (CountsFrom 0) (sym (traced_same no_registers measured_in lates w v done now)) n.results;
      measured = results ∙ n.measured ∙ sym (ap length (traced_same no_registers measured_in lates w v done now));
      bodies = subst (AllByRecursion (λ (d : Draft). IsReadInOrder d.body)) (sym done) n.bodies;
      body = subst NowIsReadInOrder (sym now) n.body;
    };
  }

-- ---- the module

pub start_order : (lates : ℕ → List Phi) (cells : ℕ) → NumbersInOrder lates (first_work cells)
start_order lates cells = record { registers = tt; next = refl; results = tt; measured = refl; bodies = tt; body = ((tt, tt), λ m. (tt, tt)) }

registers_settled : (labels : ℕ → ℕ) (lates : ℕ → List Phi) (k : ℕ) (ds : List Draft) → flat_map block_registers (settled_from labels lates k ds) ≡ flat_map (traced_draft phi_registers registers_of lates) ds
registers_settled labels lates k [] = refl
registers_settled labels lates k (d ∷ ds) = ap (λ (l : List ℕ). traced_draft phi_registers registers_of lates d ++ l) (registers_settled labels lates (suc k) ds)

results_settled : (labels : ℕ → ℕ) (lates : ℕ → List Phi) (k : ℕ) (ds : List Draft) → measured_results (settled_from labels lates k ds) ≡ flat_map (traced_draft no_registers measured_in lates) ds
results_settled labels lates k [] = refl
results_settled labels lates k (d ∷ ds) = ap (λ (l : List ℕ). flat_map measured_in d.body ++ l) (results_settled labels lates (suc k) ds)

named_settled : (labels : ℕ → ℕ) (lates : ℕ → List Phi) (k : ℕ) (ds : List Draft) → AllByRecursion (λ (d : Draft). IsReadInOrder d.body) ds → AllByRecursion (λ (b : ModuleBlock). AllByRecursion IsNamed b.body) (settled_from labels lates k ds)
named_settled labels lates k [] all = tt
named_settled labels lates k (d ∷ ds) all = (all.0.0, named_settled labels lates (suc k) ds all.1)

reads_settled : (labels : ℕ → ℕ) (lates : ℕ → List Phi) (k : ℕ) (ds : List Draft) → AllByRecursion (λ (d : Draft). IsReadInOrder d.body) ds → EachReadsFollow (settled_from labels lates k ds)
reads_settled labels lates k [] all = tt
reads_settled labels lates k (d ∷ ds) all = (all.0.1 [], reads_settled labels lates (suc k) ds all.1)

functions_same : (ks : List ℕ) → map (λ (f : Function). f.0) (map (λ (k : ℕ). record { 0 = k }) ks) ≡ ks
functions_same [] = refl
functions_same (k ∷ ks) = ap (λ (l : List ℕ). k ∷ l) (functions_same ks)

pub is_in_order : WaysCarry → SameWhereNotDiffer → (core : Core) (coder : Coder) → IsLowerable core coder → IsNumbered (lowered core coder)
is_in_order carry keeps core coder l =
    let z = whole_work core coder in
    let labels : ℕ → ℕ = λ k. get_or z.targets k 0 in
    let lates = late_phis core coder in
    let n = walk_program carry keeps core coder l (NumbersInOrder lates) (NumbersInOrder lates) (order_steps core lates) (start_order lates (length core.cells)) (λ v is n. n) (λ v o is c n. close_order core lates v (end_work core.outputs v o) o (map (record_call o.values) core.outputs) (Return (pos 0)) is refl refl c n) in
    let v = lower_of core coder (program_of core) (first_work (length core.cells)) in
    let none : z.now ≡ None = end_none core.outputs v v.now refl in
    let registers : traced phi_registers registers_of lates z ≡ flat_map (traced_draft phi_registers registers_of lates) z.done = ap (λ (q : Option Open). flat_map (traced_draft phi_registers registers_of lates) z.done ++ traced_now phi_registers registers_of lates q) none ∙ append-nil (flat_map (traced_draft phi_registers registers_of lates) z.done) in
    let results : traced no_registers measured_in lates z ≡ flat_map (traced_draft no_registers measured_in lates) z.done = ap (λ (q : Option Open). flat_map (traced_draft no_registers measured_in lates) z.done ++ traced_now no_registers measured_in lates q) none ∙ append-nil (flat_map (traced_draft no_registers measured_in lates) z.done) in
    let same = results ∙ sym (results_settled labels lates 0 z.done) in
    record {
      names = settled_names labels lates 0 z.done;
      registers = subst (CountsFrom 0) (registers ∙ sym (registers_settled labels lates 0 z.done)) n.registers;
      named = named_settled labels lates 0 z.done n.bodies;
      results = subst (CountsFrom 0) same n.results;
      required = n.measured ∙ ap length same;
      reads = reads_settled labels lates 0 z.done n.bodies;
      declarations = functions_same (filter (is_among (called_functions (blocks_of z))) (counted 0 37));
    }
