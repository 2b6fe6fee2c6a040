-- What is read of fit tokens is shaped: each part of a module.
use Rattle.std.proofs.Common.{◌≡◌, inl, inr, ℕ, zero, suc, ◌+◌, ◌<◌, ◌≤◌, ◌^◌, ◌&&◌, ◌⊎◌, Bool, true, false, cond, List, [], ◌∷◌, ◌++◌, length, Option, Some, None, refl, ap, arith}
use Rattle.std.specs.Prelude.{All, FitsSigned, pos, negsuc, ℤ, nat_lt}
use Rattle.std.specs.Int.{w64}
use Rattle.std.specs.List.{AllByRecursion, sum_by}
use Rattle.std.specs.Str.Parse.{digits_value}
use Rattle.std.proofs.lemmas.Bool.{ltb-true, eqb-true}
use Rattle.std.proofs.lemmas.List.Sums.{sum_by-cons}
use Rattle.grammar_parts.specs.Part.{nothing_kept}
use Rattle.grammar_parts.specs.Reading.{Reader, take_one}
use Rattle.qq_base.specs.declared.refusal.Span.{Span}
use Rattle.qir_module.specs.declared.instruction.Operand.{Operand}
use Rattle.qir_module.specs.declared.instruction.Operand.TheVariants as o
use Rattle.qir_module.specs.declared.instruction.Opcode.{Opcode}
use Rattle.qir_module.specs.declared.function.Function.{Function}
use Rattle.qir_module.specs.declared.block.Phi.{Phi}
use Rattle.qir_module.specs.declared.block.Block.{Block}
use Rattle.qir_module.specs.Items.{block_items}
use Rattle.qir_module.specs.Module.{IsNumber, IsTruth, IsTyped, IsFunction, IsTruthOpcode, IsRegister, IsShapedArg, IsShapedInstr, IsShapedLast, IsShapedEntry, IsShapedPhi, IsShapedBlock, IsByte, IsLabel}
use Rattle.qir_module.specs.Functions.{row_of}
use Rattle.qir_module.specs.Tokens.{TokenKind, Token, bytes_meant}
use Rattle.qir_module.specs.Tokens as t
use Rattle.qir_module.specs.Words as w
use Rattle.qir_module.specs.Words.{Reserved, Quoted, same, has_name, named_from, function_named, looked_up, words, texts, is_numeral}
use Rattle.qir_module.specs.Grammar as g
use Rattle.qir_module.specs.Grammar.{truth_number, Item, AsPhi, AsInstr, phis_of, instrs_of, Signature, Attributes, Flags}
use Rattle.qir_module.specs.Reader as r
use Rattle.qir_reader.proofs.Fit.{IsFit, Yields, IfThere, Any, Weighs, AreWeighed, yields_then, yields_done, yields_more, yields_one, yields_any, yields_strictly, yields_any_strictly, yields_never, yields_choice, yields_many, nought, plain, weighed_more, any_grows, Grows, behind_one, behind_strictly, counted, yields_typed, counted_typed, yields_separated, yields_in_parens}

both_true : (a b : Bool) → (a && b) ≡ true → (a ≡ true) × (b ≡ true)
both_true true b e = (refl, e)
both_true false b e = absurd (cc)

-- ---- what a token gives

number_fits : (k : TokenKind) → IsFit k → IfThere (FitsSigned w64) (g.number_at k)
number_fits (t.Number z) h = h
number_fits _ h = tt

small_if : (b : Bool) (n : ℕ) → (b ≡ true → IsNumber n) → IfThere IsNumber (cond b (Some n) None)
small_if true n h = h refl
small_if false n h = tt

small_number_fits : (k : TokenKind) → IfThere IsNumber (g.small_at k)
small_number_fits (t.Number (pos n)) = small_if (nat_lt n (2 ^ 32)) n (λ e. ltb-true n (2 ^ 32) e)
small_number_fits (t.Number (negsuc n)) = tt
small_number_fits _ = tt

register_fits : (k : TokenKind) → IsFit k → IfThere IsNumber (g.register_at k)
register_fits (t.Register n) h = h
register_fits _ h = tt

target_fits : (k : TokenKind) → IsFit k → IfThere IsNumber (g.target_at k)
target_fits (t.Target n) h = h
target_fits _ h = tt

block_fits : (k : TokenKind) → IsFit k → IfThere IsNumber (g.block_at k)
block_fits (t.Block n) h = h
block_fits _ h = tt

constant_fits : (k : TokenKind) → IsFit k → IfThere IsNumber (g.constant_at k)
constant_fits (t.Constant n) h = h
constant_fits _ h = tt

-- a property of each entry of a table holds of what is looked up
found_there : {A : Type 0} (Q : A → Type 0) (other : A) (rows : List (List ℕ × A)) (cs : List ℕ) → AllByRecursion (λ row. Q row.1) rows → Q other → Q (looked_up other rows cs)
found_there Q other [] cs h o = o
found_there Q other (row ∷ rows) cs h o = elim (same row.0 cs) as (λ b. Q (cond b row.1 (looked_up other rows cs))) [ true ↦ h.0 | false ↦ found_there Q other rows cs h.1 o ]

numeral_if : (b : Bool) (n : ℕ) (other : Quoted) → (b ≡ true → IsNumber n) → IfThere IsNumber (g.numeral_in other) → IfThere IsNumber (g.numeral_in (cond b (w.Numeral n) other))
numeral_if true n other h o = h refl
numeral_if false n other h o = o

numeral_fits : (k : TokenKind) → IfThere IsNumber (g.and_then (g.text_at k) g.numeral_in)
numeral_fits (t.Text body) =
    numeral_if (is_numeral body) (digits_value 10 body) (looked_up w.OtherText texts body) (λ e. ltb-true (digits_value 10 body) (2 ^ 32) (both_true _ _ e).1)
    (found_there (λ q. IfThere IsNumber (g.numeral_in q)) w.OtherText texts body (tt, (tt, (tt, (tt, (tt, (tt, (tt, (tt, (tt, (tt, (tt, (tt, (tt, tt))))))))))))) tt)
numeral_fits _ = tt

logic_fits : (k : TokenKind) → IfThere (IsTruthOpcode true) (g.and_then (g.reserved_at k) g.logic)
logic_fits (t.Word spelling) =
    found_there (λ x. IfThere (IsTruthOpcode true) (g.logic x)) w.Other words spelling
    (tt, (tt, (tt, (tt, (tt, (tt, (tt, (tt, (tt, (tt, (tt, (tt, (tt, (tt, (tt, (tt, (tt, (tt, (tt, (tt, (tt, (tt, (tt, (tt, (tt, (tt, (tt, (tt, (tt, (tt, (tt, (tt, (tt, (tt, (tt, (tt, (tt, (tt, (tt, (tt, (tt, (tt, (tt, (tt, (tt, (tt, (tt, (tt, (tt, tt))))))))))))))))))))))))))))))))))))))))))))))))) tt
logic_fits _ = tt

named_below : (n place : ℕ) (name : List ℕ) → IfThere (λ f. f.0 < place + n) (named_from n place name)
named_below zero place name = tt
named_below (suc n) place name =
    elim (has_name name (row_of place)) as (λ b. IfThere (λ (f : Function). f.0 < place + suc n) (cond b (Some (record { 0 = place })) (named_from n (suc place) name))) [
      | true ↦ omega arith
      | false ↦ there_more (λ (f : Function). f.0 < suc place + n) (λ (f : Function). f.0 < place + suc n) (named_from n (suc place) name) (λ f l. omega (arith, l)) (named_below n (suc place) name)
    ]
  where
    there_more : (P Q : Function → Type 0) (o : Option Function) → ((f : Function) → P f → Q f) → IfThere P o → IfThere Q o
    there_more P Q None k h = tt
    there_more P Q (Some f) k h = k f h

with_place_fits : (at : Span) (o : Option Function) → IfThere IsFunction o → IfThere (λ (f : Function × Span). IsFunction f.0) (g.with_place at o)
with_place_fits at None h = tt
with_place_fits at (Some f) h = h

function_fits : (x : Token) → IfThere (λ (f : Function × Span). IsFunction f.0) (r.function_at false x)
function_fits x = at x.kind
  where
    at : (k : TokenKind) → IfThere (λ (f : Function × Span). IsFunction f.0) (g.with_place x.at (g.and_then (g.name_at k) (g.named_function false)))
    at (t.Named name) = with_place_fits x.at (function_named name) (named_below 37 0 name)
    at _ = tt

ends_so : (bytes : List ℕ) → g.ends_in_zero bytes ≡ true → (text : List ℕ) × (bytes ≡ text ++ 0 ∷ [])
ends_so [] e = absurd (cc)
ends_so (c ∷ []) e = ([], ap (λ n. n ∷ []) (eqb-true c 0 e))
ends_so (c ∷ d ∷ cs) e = let h = ends_so (d ∷ cs) e in (c ∷ h.0, ap (λ l. c ∷ l) h.1)

label_fits : (k : ℤ) (x : TokenKind) → IsFit x → IfThere IsLabel (g.passing false (λ bytes. g.is_count k (length bytes) && g.ends_in_zero bytes) (g.bytes_at x))
label_fits k (t.Bytes body) h = at (bytes_meant body) (g.is_count k (length (bytes_meant body)) && g.ends_in_zero (bytes_meant body)) refl h
  where
    at : (bytes : List ℕ) (b : Bool) → (g.is_count k (length bytes) && g.ends_in_zero bytes) ≡ b → (length bytes < 2 ^ 32) × All IsByte bytes → IfThere IsLabel (cond b (Some bytes) None)
    at bytes true e h = let z = ends_so bytes (both_true _ _ e).1 in (h.0, h.1, z.0, z.1)
    at bytes false e h = tt
label_fits k _ h = tt

-- a value of one token
weighed_there : {A : Type 0} (Q : A → Type 0) (o : Option A) → IfThere Q o → IfThere (Weighs nought Q 1) o
weighed_there Q None h = tt
weighed_there Q (Some a) h = record { some = omega arith; enough = omega arith; holds = h }

-- ---- operands

yields_number : Yields (λ u z. FitsSigned w64 z) r.read_number
yields_number = yields_one _ (λ x fit. number_fits x.kind fit)

yields_register : Yields (Weighs nought IsNumber) r.read_register
yields_register = yields_one _ (λ x fit. weighed_there IsNumber (g.register_at x.kind) (register_fits x.kind fit))

yields_target : Yields (λ u n. IsNumber n) r.read_target
yields_target = yields_one _ (λ x fit. target_fits x.kind fit)

yields_truth : Yields (λ u b. Unit {0}) r.read_truth
yields_truth = yields_choice (behind_one _ plain (yields_done tt)) (behind_one _ plain (yields_done tt))

truth_is : (b : Bool) → (truth_number b ≡ pos 0) ⊎ (truth_number b ≡ pos 1)
truth_is false = inl refl
truth_is true = inr refl

yields_fixed : (b : Bool) → Yields (λ u x. IsTyped b x) (r.read_fixed b)
yields_fixed false = yields_then yields_number (λ u z h. yields_done h)
yields_fixed true = yields_then yields_truth (λ u b h. yields_done (truth_is b))

typed_register : (b : Bool) (n : ℕ) → IsNumber n → IsTyped b (o.Register n)
typed_register true n h = h
typed_register false n h = h

yields_operand : (b : Bool) → Yields (λ u x. IsTyped b x) (r.read_operand b)
unfolding r.read_operand
yields_operand b = yields_choice (yields_then yields_register (λ u n h. yields_done (typed_register b n h.holds))) (yields_fixed b)

-- ---- instructions

yields_binary : (n : ℕ) (op : Opcode) (b : Bool) → IsNumber n → IsTruthOpcode b op → Yields (λ u x. IsShapedInstr x) (r.read_binary n op b)
unfolding r.read_binary
yields_binary n op b h k = yields_then (yields_operand b) (λ u x p. behind_one _ plain (yields_then (yields_operand b) (λ v y q. yields_done (h, k, p, q))))

truth_opcode : (b : Bool) (op : Opcode) → IsTruthOpcode true op → IsTruthOpcode b op
truth_opcode true op h = h
truth_opcode false op h = tt

yields_operation : (n : ℕ) → IsNumber n → Yields (λ u x. IsShapedInstr x) (r.read_operation n)
unfolding r.read_operation
yields_operation n h =
    yields_choice (yields_then (yields_any _) (λ u op s. behind_one _ plain (yields_binary n op false h tt)))
    (yields_choice (yields_then (yields_one {Q = λ u op. IsTruthOpcode true op} _ (λ x fit. logic_fits x.kind)) (λ u op q. yields_typed plain (λ b. yields_binary n op b h (truth_opcode b op q))))
    (behind_one _ plain (yields_then (yields_any _) (λ u op s. behind_one _ plain (yields_binary n op false h tt)))))

yields_conversion : (n : ℕ) → IsNumber n → Yields (λ u x. IsShapedInstr x) (r.read_conversion n)
unfolding r.read_conversion
yields_conversion n h =
    yields_choice (behind_one _ plain (behind_one _ plain (yields_then (yields_operand true) (λ u x p. behind_one _ plain (behind_one _ plain (yields_done (h, p)))))))
    (behind_one _ plain (behind_one _ plain (yields_then (yields_operand false) (λ u x p. behind_one _ plain (behind_one _ plain (yields_done (h, p)))))))

yields_chosen : (n : ℕ) (test : Operand) (b : Bool) → IsNumber n → IsTruth test → Yields (λ u x. IsShapedInstr x) (r.read_choice n test b)
unfolding r.read_choice
yields_chosen n test b h k = yields_then (yields_operand b) (λ u x p. behind_one _ plain (behind_one _ plain (yields_then (yields_operand b) (λ v y q. yields_done (h, k, p, q)))))

yields_selection : (n : ℕ) → IsNumber n → Yields (λ u x. IsShapedInstr x) (r.read_selection n)
unfolding r.read_selection
yields_selection n h = behind_one _ plain (behind_one _ plain (yields_then (yields_operand true) (λ u x p. behind_one _ plain (yields_typed plain (λ b. yields_chosen n x b h p)))))

-- ---- calls

yields_id : Yields (λ u n. IsNumber n) r.read_id
unfolding r.read_id
yields_id =
    yields_choice (behind_one _ plain (yields_done (omega arith)))
    (behind_one _ plain (behind_one _ plain (behind_one _ plain (yields_then (yields_one {Q = λ u n. IsNumber n} _ (λ x fit. small_number_fits x.kind)) (λ u n h. behind_one _ plain (behind_one _ plain (behind_one _ plain (yields_done h))))))))

yields_value_argument : (b : Bool) → Yields (λ u x. IsShapedArg x) (r.read_value_argument b)
yields_value_argument false = yields_then (yields_operand false) (λ u x h. yields_done h)
yields_value_argument true = yields_then (yields_operand true) (λ u x h. yields_done h)

yields_pointer_argument : Yields (λ u x. IsShapedArg x) r.read_pointer_argument
yields_pointer_argument = yields_choice (yields_then yields_id (λ u n h. yields_done h)) (yields_then (yields_one {Q = λ u n. IsNumber n} _ (λ x fit. constant_fits x.kind fit)) (λ u n h. yields_done h))

yields_argument : Yields (Weighs nought IsShapedArg) r.read_argument
unfolding r.read_argument
yields_argument = yields_choice (counted_typed yields_value_argument) (counted _ yields_pointer_argument)

yields_arguments : Yields (λ u xs. AllByRecursion IsShapedArg xs) r.read_arguments
unfolding r.read_arguments
yields_arguments = yields_in_parens r.argument_kinds yields_argument

yields_function_name : Yields (λ u f. IsFunction f.0) r.read_function_name
yields_function_name = yields_strictly _ _ (λ x fit. function_fits x)

yields_call : (n : Option ℕ) → IsRegister n → Yields (Weighs nought IsShapedInstr) (r.read_call n)
unfolding r.read_call
yields_call n h = counted _ (behind_one _ plain (yields_then yields_function_name (λ u f p. yields_then yields_arguments (λ v xs q. yields_done (h, p, q)))))

yields_instruction : (n : ℕ) → IsNumber n → Yields (λ u x. IsShapedInstr x) (r.read_instruction n)
yields_instruction n h = yields_choice (yields_operation n h) (yields_choice (yields_conversion n h) (yields_choice (yields_selection n h) (yields_more (λ u x few q. q.holds) (yields_call (Some n) h))))

-- ---- phis

yields_entry : (b : Bool) → Yields (Weighs nought (IsShapedEntry b)) (r.read_entry b)
unfolding r.read_entry
yields_entry b = counted _ (yields_then (yields_operand b) (λ u x p. behind_one _ plain (yields_then yields_target (λ v n q. behind_one _ plain (yields_done (p, q))))))

-- a phi, and as many tokens as entries
abbrev PhiRead : ℕ → Phi → Type 0
PhiRead u p = IsShapedPhi p × (length p.entries ≤ u)

phi_grows : Grows PhiRead
phi_grows = record { more = λ v u p l q. (q.0, omega (arith, l, q.1)) }

yields_phi_of : (n : ℕ) (b : Bool) → IsNumber n → Yields PhiRead (r.read_phi_of n b)
unfolding r.read_phi_of
yields_phi_of n true h = yields_then (yields_separated (yields_entry true)) (λ u es q. yields_done ((h, q.some, q.each), omega (arith, q.few)))
yields_phi_of n false h = yields_then (yields_separated (yields_entry false)) (λ u es q. yields_done ((h, q.some, q.each), omega (arith, q.few)))

yields_phi : (n : ℕ) → IsNumber n → Yields PhiRead (r.read_phi n)
yields_phi n h = behind_one _ phi_grows (yields_typed phi_grows (λ b. yields_phi_of n b h))

-- ---- items

abbrev IsShapedItem : Item → Type 0
IsShapedItem (AsPhi p) = IsShapedPhi p
IsShapedItem (AsInstr n) = IsShapedInstr n

abbrev item_weight : Item → ℕ
item_weight (AsPhi p) = length p.entries
item_weight (AsInstr n) = 1

-- an item behind a register
abbrev ItemRead : ℕ → Item → Type 0
ItemRead u x = IsShapedItem x × (item_weight x ≤ u + 1)

item_grows : Grows ItemRead
item_grows = record { more = λ v u x l q. (q.0, omega (arith, l, q.1)) }

yields_early_phi : (phis : Bool) (n : ℕ) → IsNumber n → Yields ItemRead (r.read_early_phi phis n)
yields_early_phi false n h = yields_never (λ x. false)
yields_early_phi true n h = yields_then (yields_phi n h) (λ u p q. yields_done (q.0, omega (arith, q.1)))

yields_assigned : (phis : Bool) (n : ℕ) → IsNumber n → Yields ItemRead (r.read_assigned phis n)
unfolding r.read_assigned
yields_assigned phis n h =
    yields_choice (yields_then (yields_instruction n h) (λ u x q. yields_done (q, omega arith))) (yields_choice (yields_early_phi phis n h) (yields_never _))

yields_item : (phis : Bool) → Yields (Weighs item_weight IsShapedItem) (r.read_item phis)
unfolding r.read_item
yields_item phis =
    yields_choice (yields_then yields_register (λ u n h. yields_more (λ v x few q. record { some = omega (arith, h.some); enough = omega (arith, h.some, q.1); holds = q.0 }) (behind_one _ item_grows (yields_assigned phis n h.holds))))
    (yields_choice (yields_then (yields_call None tt) (λ u x q. yields_done (record { some = omega (arith, q.some); enough = omega (arith, q.some); holds = q.holds }))) (yields_never _))

yields_items : Yields (AreWeighed item_weight IsShapedItem) r.read_items
unfolding r.read_items
yields_items = yields_many item_weight IsShapedItem _ _ _ yields_item true

phis_shaped : (xs : List Item) → AllByRecursion IsShapedItem xs → AllByRecursion IsShapedPhi (phis_of xs)
phis_shaped [] h = tt
phis_shaped (AsPhi p ∷ xs) h = (h.0, phis_shaped xs h.1)
phis_shaped (AsInstr n ∷ xs) h = phis_shaped xs h.1

instrs_shaped : (xs : List Item) → AllByRecursion IsShapedItem xs → AllByRecursion IsShapedInstr (instrs_of xs)
instrs_shaped [] h = tt
instrs_shaped (AsPhi p ∷ xs) h = instrs_shaped xs h.1
instrs_shaped (AsInstr n ∷ xs) h = (h.0, instrs_shaped xs h.1)

items_count : (xs : List Item) → length (phis_of xs) + length (instrs_of xs) ≡ length xs
items_count [] = refl
items_count (AsPhi p ∷ xs) = omega (arith, items_count xs)
items_count (AsInstr n ∷ xs) = omega (arith, items_count xs)

items_weigh : (xs : List Item) → sum_by (λ (p : Phi). length p.entries) (phis_of xs) + length (instrs_of xs) ≡ sum_by item_weight xs
items_weigh [] = refl
items_weigh (AsPhi p ∷ xs) = omega (arith, items_weigh xs, sum_by-cons (λ (p : Phi). length p.entries) p (phis_of xs), sum_by-cons item_weight (AsPhi p) xs)
items_weigh (AsInstr n ∷ xs) = omega (arith, items_weigh xs, sum_by-cons item_weight (AsInstr n) xs)

-- ---- blocks

yields_label_target : Yields (λ u n. IsNumber n) r.read_label_target
yields_label_target = behind_one _ plain yields_target

yields_branch : Yields (λ u x. IsShapedLast x) r.read_branch
unfolding r.read_branch
yields_branch = behind_one _ plain (yields_then (yields_operand true) (λ u x p. behind_one _ plain (yields_then yields_label_target (λ v n q. behind_one _ plain (yields_then yields_label_target (λ w m s. yields_done (p, q, s)))))))

yields_last : Yields (Weighs nought IsShapedLast) r.read_last
unfolding r.read_last
yields_last =
    yields_choice (counted _ (yields_choice (yields_then yields_label_target (λ u n h. yields_done h)) yields_branch))
    (counted _ (behind_one _ plain (yields_then yields_number (λ u z h. yields_done h))))

-- a block, and what it counts
abbrev BlockRead : ℕ → Block → Type 0
BlockRead u b = IsNumber b.name × (length b.phis + length b.body + 2 ≤ u) × (block_items b ≤ u) × AllByRecursion IsShapedPhi b.phis × AllByRecursion IsShapedInstr b.body × IsShapedLast b.last

yields_block : Yields (Weighs block_items IsShapedBlock) r.read_block
unfolding r.read_block
yields_block =
    yields_more {P = BlockRead} (λ u b few h. record { some = omega (arith, h.1); enough = h.2; holds = (h.0, omega (arith, few, h.1), h.3, h.4, h.5) })
    (yields_then (yields_one {Q = Weighs nought IsNumber} _ (λ x fit. weighed_there IsNumber (g.block_at x.kind) (block_fits x.kind fit))) (λ u n p. yields_then yields_items (λ v xs q. yields_then yields_last (λ w last s.
    yields_done (p.holds, omega (arith, p.some, q.few, s.some, items_count xs), omega (arith, p.some, q.enough, s.some, items_weigh xs), phis_shaped xs q.each, instrs_shaped xs q.each, s.holds)))))

-- blocks, one at least
abbrev pub BlocksRead : ℕ → List Block → Type 0
BlocksRead u bs = (0 < length bs) × AreWeighed block_items IsShapedBlock u bs

blocks_grow : Grows BlocksRead
blocks_grow = record { more = λ v u bs l q. (q.0, weighed_more.more v u bs l q.1) }

yields_blocks : Yields BlocksRead r.read_blocks
unfolding r.read_blocks
yields_blocks =
    yields_then yields_block (λ u b p. yields_then (yields_many block_items IsShapedBlock _ _ _ (λ s. yields_block) nothing_kept) (λ v bs q. yields_then (yields_any _) (λ w x s.
    yields_done (omega arith, record { few = omega (arith, p.some, q.few); enough = omega (arith, p.enough, q.enough, sum_by-cons block_items b bs); each = (p.holds, q.each) }))))

pub yields_function : Yields BlocksRead r.read_function
unfolding r.read_function
yields_function = behind_one _ blocks_grow (behind_one _ blocks_grow (behind_one _ blocks_grow (behind_one _ blocks_grow (behind_one _ blocks_grow (behind_one _ blocks_grow (behind_one _ blocks_grow yields_blocks))))))

-- ---- labels and declarations

yields_label : (k : ℕ) → Yields (Weighs nought IsLabel) (r.read_label k)
unfolding r.read_label
yields_label k =
    yields_then (yields_any_strictly _ _) (λ u n s. yields_more {P = λ v b. IsLabel b} (λ v b few q. record { some = omega (arith, s); enough = omega arith; holds = q })
    (behind_one _ plain (behind_one _ plain (behind_one _ plain (behind_one _ plain (yields_then (yields_any _) (λ v z s. behind_one _ plain (behind_one _ plain (behind_one _ plain
    (yields_strictly {Q = λ v b. IsLabel b} _ _ (λ x fit. label_fits z x.kind fit)))))))))))

pub yields_labels : Yields (AreWeighed nought IsLabel) r.read_labels
unfolding r.read_labels
yields_labels = yields_many nought IsLabel _ _ _ yields_label 0

abbrev pub IsDeclared : Signature → Type 0
IsDeclared s = IsFunction s.function

yields_value_type : Yields (Weighs nought (λ a. Unit {0})) r.read_value_type
unfolding r.read_value_type
yields_value_type = yields_choice (counted _ (yields_done tt)) (yields_choice (counted _ (yields_done tt)) (counted _ (yields_done tt)))

yields_result_type : Yields (λ u b. Unit {0}) r.read_result_type
unfolding r.read_result_type
yields_result_type = yields_choice (behind_one _ plain (yields_done tt)) (behind_one _ plain (yields_done tt))

yields_undoing : Yields (λ u b. Unit {0}) r.read_undoing
unfolding r.read_undoing
yields_undoing = yields_choice (behind_one _ plain (yields_done tt)) (yields_done tt)

yields_signature : Yields (Weighs nought IsDeclared) r.read_signature
unfolding r.read_signature
yields_signature = counted _ (yields_then yields_result_type (λ u gives h. yields_then yields_function_name (λ v f p. yields_then (yields_in_parens r.value_type_kinds yields_value_type) (λ w types h. yields_then yields_undoing (λ z fixed h. yields_done p)))))

yields_signature_behind : (right : Bool) → Yields (Weighs nought IsDeclared) (r.read_signature_behind right)
yields_signature_behind true = yields_signature
yields_signature_behind false = yields_never (λ x. false)

pub yields_signatures : Yields (AreWeighed nought IsDeclared) r.read_signatures
unfolding r.read_signatures
yields_signatures = yields_many nought IsDeclared _ _ _ yields_signature_behind true

-- ---- attributes and flags

abbrev pub AreAttributes : Attributes → Type 0
AreAttributes x = IsNumber x.qubits × IsNumber x.results

abbrev pub AreFlags : Flags → Type 0
AreFlags x = IsNumber x.major × IsNumber x.minor

yields_numeral : Yields (λ u n. IsNumber n) r.read_numeral
yields_numeral = yields_one _ (λ x fit. numeral_fits x.kind)

pub yields_attributes : Yields (λ u x. AreAttributes x) r.read_attributes
unfolding r.read_attributes
yields_attributes =
    behind_one _ plain (behind_strictly _ _ plain (behind_one _ plain (behind_one _ plain (behind_one _ plain (yields_then (behind_one _ any_grows (behind_one _ any_grows (yields_any_strictly _ _))) (λ u p s.
    yields_then (behind_one _ any_grows (behind_one _ any_grows (yields_any _))) (λ v x s. yields_then (behind_one _ plain (behind_one _ plain yields_numeral)) (λ v n h. yields_then (behind_one _ plain (behind_one _ plain yields_numeral)) (λ w k i. behind_one _ plain (yields_done (h, i)))))))))))

pub yields_second_attributes : Yields Any r.read_second_attributes
unfolding r.read_second_attributes
yields_second_attributes = behind_one _ any_grows (behind_strictly _ _ any_grows (behind_one _ any_grows (behind_one _ any_grows (behind_one _ any_grows (yields_any _)))))

yields_flag_list : Yields Any r.read_flag_list
unfolding r.read_flag_list
yields_flag_list =
    behind_one _ any_grows (behind_one _ any_grows (behind_one _ any_grows (behind_one _ any_grows (behind_one _ any_grows (behind_one _ any_grows (behind_one _ any_grows (behind_one _ any_grows
    (behind_one _ any_grows (behind_one _ any_grows (behind_one _ any_grows (yields_any _)))))))))))

yields_flag_line : {A : Type 0} {Q : A → Type 0} (k : ℕ) (test : Token → Option Token) (name : Quoted) (type : Reserved) (value : Reader Token A) → Yields (λ u a. Q a) value
    → Yields (λ u a. Q a) (r.read_flag_line k (take_one test) name type value)
unfolding r.read_flag_line
yields_flag_line k test name type value h =
    behind_strictly _ _ plain (behind_one _ plain (behind_one _ plain (behind_one _ plain (behind_one _ plain (behind_one _ plain (behind_one _ plain (behind_one _ plain (behind_one _ plain (behind_one _ plain
    (yields_then h (λ u a q. behind_one _ plain (yields_done q))))))))))))

pub yields_flags : Yields (λ u x. AreFlags x) r.read_flags
unfolding r.read_flags
yields_flags =
    yields_then yields_flag_list (λ u x s. yields_then (yields_flag_line 0 _ w.MajorVersion w.I32 r.read_small_number yields_small) (λ u major h. yields_then (yields_flag_line 1 _ w.MinorVersion w.I32 r.read_small_number yields_small) (λ u minor k.
    yields_then (yields_flag_line 2 _ w.DynamicQubits w.I1 r.read_truth yields_truth) (λ u qubits s. yields_then (yields_flag_line 3 _ w.DynamicResults w.I1 r.read_truth yields_truth) (λ u results s. yields_done (h, k))))))
  where
    yields_small : Yields (λ u n. IsNumber n) r.read_small_number
    yields_small = yields_one _ (λ x fit. small_number_fits x.kind)
