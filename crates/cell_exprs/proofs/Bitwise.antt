-- `&`, `|` and `^` on truth values and on registers.
use Rattle.std.proofs.Common.{◌≡◌, ℕ, zero, suc, ◌+◌, ◌*◌, ◌%◌, min, max, Bool, true, false, ◌&&◌, ◌||◌, List, [], ◌∷◌, length, map, pos, Some, refl, sym, ap, ◌∙◌, arith}
use Rattle.std.proofs.lemmas.Nat.Bits.{bit_at_lowest, bit_at-suc, bit_at_and, bit_at_or, bit_at_xor, same_from_bits}
use Rattle.std.specs.Int.{bit_at}
use Rattle.std.specs.Int.Bits.{bit_and, bit_or, bit_xor}
use Rattle.qasm_ast.specs.declared.expr.BinaryOp.{BinaryOp}
use Rattle.qasm_ast.specs.declared.expr.BinaryOp.TheVariants as op
use Rattle.qasm_types.specs.declared.ty.Ty.TheVariants as t
use Rattle.qasm_types.specs.Values.{Value, Truth, Register, number_of_truth, number_of_bits, bits_of, apply}
use Rattle.qir_module.specs.Machine.{Holds, differ}
use Rattle.core_ir.specs.Tree.{Expr, Op}
use Rattle.core_ir.specs.Run.{Cells, value_of}
use Rattle.cell_exprs.specs.Parts.{single_part, truth_code, paired}
use Rattle.cell_exprs.specs.Laws.{HaveValue}
use Rattle.cell_exprs.proofs.Numbers.{values, single_value}
use Rattle.cell_exprs.proofs.Casting.{odd_first, half_rest}

abbrev pub IsBitwise : BinaryOp → Type 0
IsBitwise op.BitAnd = Unit {0}
IsBitwise op.BitOr = Unit {0}
IsBitwise op.BitXor = Unit {0}
IsBitwise _ = ⊥

-- what such an operator gives on two truth values, and on numbers
abbrev bit_on : BinaryOp → Bool → Bool → Bool
bit_on op.BitAnd a b = a && b
bit_on op.BitOr a b = a || b
bit_on _ a b = differ a b

abbrev each_bit : BinaryOp → List Bool → List Bool → List Bool
each_bit o [] bs = []
each_bit o (a ∷ as') [] = []
each_bit o (a ∷ as') (b ∷ bs) = bit_on o a b ∷ each_bit o as' bs

rest_of : (b : Bool) (m : ℕ) → (number_of_truth b + 2 * m) % 2 ≡ number_of_truth b
rest_of true m = omega arith
rest_of false m = omega arith

module _ (f : ℕ → ℕ → ℕ) (g : ℕ → ℕ → ℕ) (h : Bool → Bool → Bool) (law : (m n i : ℕ) → bit_at (f m n) i ≡ g (bit_at m i) (bit_at n i))
    (on : (a b : Bool) → number_of_truth (h a b) ≡ g (number_of_truth a) (number_of_truth b)) where
  next_number : (a b : Bool) (m n : ℕ) → f (number_of_truth a + 2 * m) (number_of_truth b + 2 * n) ≡ number_of_truth (h a b) + 2 * f m n
  next_number a b m n = same_from_bits _ _ each
    where
      each : (i : ℕ) → bit_at (f (number_of_truth a + 2 * m) (number_of_truth b + 2 * n)) i ≡ bit_at (number_of_truth (h a b) + 2 * f m n) i
      each zero =
          law _ _ 0 ∙ (λ t. g (bit_at_lowest (number_of_truth a + 2 * m) t) (bit_at_lowest (number_of_truth b + 2 * n) t))
          ∙ (λ t. g (rest_of a m t) (rest_of b n t)) ∙ sym (on a b) ∙ sym (rest_of (h a b) (f m n)) ∙ sym (bit_at_lowest _)
      each (suc i) =
          law _ _ (suc i) ∙ (λ t. g (bit_at-suc (number_of_truth a + 2 * m) i t) (bit_at-suc (number_of_truth b + 2 * n) i t))
          ∙ (λ t. g (bit_at (half_rest a m t) i) (bit_at (half_rest b n t) i)) ∙ sym (law m n i)
          ∙ sym (ap (λ x. bit_at x i) (half_rest (h a b) (f m n))) ∙ sym (bit_at-suc (number_of_truth (h a b) + 2 * f m n) i)

  abbrev by_each : List Bool → List Bool → List Bool
  by_each [] bs = []
  by_each (a ∷ as') [] = []
  by_each (a ∷ as') (b ∷ bs) = h a b ∷ by_each as' bs

  bits_of_each : (as' bs : List Bool) → length as' ≡ length bs → bits_of (length as') (pos (f (number_of_bits as') (number_of_bits bs))) ≡ by_each as' bs
  bits_of_each [] bs e = refl
  bits_of_each (a ∷ as') [] e = absurd cc
  bits_of_each (a ∷ as') (b ∷ bs) e =
      let l : length as' ≡ length bs = omega arith in
      let n = f (number_of_bits as') (number_of_bits bs) in
      ap (λ x. bits_of (suc (length as')) (pos x)) (next_number a b (number_of_bits as') (number_of_bits bs))
      ∙ (λ i. odd_first (h a b) n i ∷ bits_of (length as') (pos (half_rest (h a b) n i)))
      ∙ ap (λ r. h a b ∷ r) (bits_of_each as' bs l)

and_on : (a b : Bool) → number_of_truth (a && b) ≡ min (number_of_truth a) (number_of_truth b)
and_on true true = refl
and_on true false = refl
and_on false true = refl
and_on false false = refl

or_on : (a b : Bool) → number_of_truth (a || b) ≡ max (number_of_truth a) (number_of_truth b)
or_on true true = refl
or_on true false = refl
or_on false true = refl
or_on false false = refl

xor_on : (a b : Bool) → number_of_truth (differ a b) ≡ (number_of_truth a + number_of_truth b) % 2
xor_on true true = refl
xor_on true false = refl
xor_on false true = refl
xor_on false false = refl

module _ (cells : Cells) where
  -- ---- truth values

  truth_instruction : (o : BinaryOp) (a b : Bool) (ex ey : Expr) → IsBitwise o → value_of ex cells ≡ Holds a → value_of ey cells ≡ Holds b → value_of (Op (truth_code o) ex ey) cells ≡ Holds (bit_on o a b)
  truth_instruction op.BitAnd a b ex ey h p q = rw (p, q) refl
  truth_instruction op.BitOr a b ex ey h p q = rw (p, q) refl
  truth_instruction op.BitXor a b ex ey h p q = rw (p, q) refl
  truth_instruction _ a b ex ey h p q = absurd h

  truth_applied : (o : BinaryOp) (a b : Bool) → IsBitwise o → apply o t.Bit (Truth a) (Truth b) ≡ Some (Truth (bit_on o a b))
  truth_applied op.BitAnd true true h = refl
  truth_applied op.BitAnd true false h = refl
  truth_applied op.BitAnd false true h = refl
  truth_applied op.BitAnd false false h = refl
  truth_applied op.BitOr true true h = refl
  truth_applied op.BitOr true false h = refl
  truth_applied op.BitOr false true h = refl
  truth_applied op.BitOr false false h = refl
  truth_applied op.BitXor true true h = refl
  truth_applied op.BitXor true false h = refl
  truth_applied op.BitXor false true h = refl
  truth_applied op.BitXor false false h = refl
  truth_applied _ a b h = absurd h

  pub truth_operator : (o : BinaryOp) (a b : Bool) (xs ys : List Expr) → IsBitwise o → HaveValue cells xs (Truth a) → HaveValue cells ys (Truth b)
      → (z : Value) × (apply o t.Bit (Truth a) (Truth b) ≡ Some z) × HaveValue cells (Op (truth_code o) (single_part xs) (single_part ys) ∷ []) z
  truth_operator o a b xs ys h p q =
      (Truth (bit_on o a b), truth_applied o a b h, ap (λ v. v ∷ []) (truth_instruction o a b (single_part xs) (single_part ys) h (single_value cells xs (Holds a) p) (single_value cells ys (Holds b) q)))

  -- ---- registers

  paired_values : (o : BinaryOp) (xs ys : List Expr) (as' bs : List Bool) → IsBitwise o → values cells xs ≡ map Holds as' → values cells ys ≡ map Holds bs → values cells (paired (truth_code o) xs ys) ≡ map Holds (each_bit o as' bs)
  paired_values o [] ys [] bs h p q = refl
  paired_values o [] ys (a ∷ as') bs h p q = absurd cc
  paired_values o (x ∷ xs) ys [] bs h p q = absurd cc
  paired_values o (x ∷ xs) [] (a ∷ as') [] h p q = refl
  paired_values o (x ∷ xs) [] (a ∷ as') (b ∷ bs) h p q = absurd cc
  paired_values o (x ∷ xs) (y ∷ ys) (a ∷ as') [] h p q = absurd cc
  paired_values o (x ∷ xs) (y ∷ ys) (a ∷ as') (b ∷ bs) h p q =
      let first : value_of x cells ≡ Holds a = cc in
      let second : value_of y cells ≡ Holds b = cc in
      let is = truth_instruction o a b x y h first second in
      let left : values cells xs ≡ map Holds as' = cc in
      let right : values cells ys ≡ map Holds bs = cc in
      let rest = paired_values o xs ys as' bs h left right in
      λ i. is i ∷ rest i

  register_applied : (o : BinaryOp) (as' bs : List Bool) → IsBitwise o → length as' ≡ length bs → apply o (t.Bits (length as')) (Register as') (Register bs) ≡ Some (Register (each_bit o as' bs))
  register_applied op.BitAnd as' bs h l = ap (λ r. Some (Register r)) (bits_of_each bit_and min (λ a b. a && b) bit_at_and and_on as' bs l ∙ same as' bs)
    where
      same : (as' bs : List Bool) → by_each bit_and min (λ a b. a && b) bit_at_and and_on as' bs ≡ each_bit op.BitAnd as' bs
      same [] bs = refl
      same (a ∷ as') [] = refl
      same (a ∷ as') (b ∷ bs) = ap (λ r. (a && b) ∷ r) (same as' bs)
  register_applied op.BitOr as' bs h l = ap (λ r. Some (Register r)) (bits_of_each bit_or max (λ a b. a || b) bit_at_or or_on as' bs l ∙ same as' bs)
    where
      same : (as' bs : List Bool) → by_each bit_or max (λ a b. a || b) bit_at_or or_on as' bs ≡ each_bit op.BitOr as' bs
      same [] bs = refl
      same (a ∷ as') [] = refl
      same (a ∷ as') (b ∷ bs) = ap (λ r. (a || b) ∷ r) (same as' bs)
  register_applied op.BitXor as' bs h l = ap (λ r. Some (Register r)) (bits_of_each bit_xor (λ m n. (m + n) % 2) differ bit_at_xor xor_on as' bs l ∙ same as' bs)
    where
      same : (as' bs : List Bool) → by_each bit_xor (λ m n. (m + n) % 2) differ bit_at_xor xor_on as' bs ≡ each_bit op.BitXor as' bs
      same [] bs = refl
      same (a ∷ as') [] = refl
      same (a ∷ as') (b ∷ bs) = ap (λ r. differ a b ∷ r) (same as' bs)
  register_applied _ as' bs h l = absurd h

  pub register_operator : (o : BinaryOp) (n : ℕ) (as' bs : List Bool) (xs ys : List Expr) → IsBitwise o → length as' ≡ n → length bs ≡ n → HaveValue cells xs (Register as') → HaveValue cells ys (Register bs)
      → (z : Value) × (apply o (t.Bits n) (Register as') (Register bs) ≡ Some z) × HaveValue cells (paired (truth_code o) xs ys) z
  register_operator o n as' bs xs ys h la lb p q =
      (Register (each_bit o as' bs), ap (λ k. apply o (t.Bits k) (Register as') (Register bs)) (sym la) ∙ register_applied o as' bs h (la ∙ sym lb), paired_values o xs ys as' bs h p q)
