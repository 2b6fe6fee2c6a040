-- Drafts as blocks, and the functions that blocks call.
use Rattle.std.proofs.Common.{◌≡◌, ℕ, zero, suc, ◌+◌, ◌-◌, ◌<◌, nat_eq, cond, Bool, true, false, ◌||◌, List, [], ◌∷◌, ◌++◌, length, map, get_or, drop, reverse, refl, sym, ap, ◌∙◌, arith, append_assoc}
use Rattle.std.specs.Prelude.{filter}
use Rattle.std.specs.List.{flat_map}
use Rattle.std.proofs.lemmas.List.{reverse-append}
use Rattle.std.proofs.lemmas.List.Folds.{list_any-append}
use Rattle.qir_module.specs.declared.block.Block.{Block as ModuleBlock}
use Rattle.qir_module.specs.declared.block.Phi.{Phi}
use Rattle.qir_module.specs.declared.function.Function.{Function}
use Rattle.qir_module.specs.declared.instruction.Instr.{Instr}
use Rattle.qir_module.specs.Numbered.{counted, functions_of, called_functions, is_among}
use Rattle.block_graph.specs.Work.{Draft}
use Rattle.block_graph.specs.Lowering.{settled, settled_from}
use Rattle.block_lower.specs.Parts.{declared_from}

append_nil : {A : Type 0} (xs : List A) → xs ++ [] ≡ xs
append_nil [] = refl
append_nil (x ∷ xs) = ap (λ ys. x ∷ ys) (append_nil xs)

-- ---- blocks

last_first : (left : List Draft) (d : Draft) → reverse (left ++ d ∷ []) ≡ d ∷ reverse left
last_first left d = reverse-append left (d ∷ [])

pub blocks_next : (labels : ℕ → ℕ) (lates : ℕ → List Phi) (name : ℕ) (left left' : List Draft) (d : Draft) (blocks blocks' all : List ModuleBlock) → left ≡ left' ++ d ∷ [] → blocks ++ settled_from labels lates name (reverse left) ≡ all
    → blocks' ≡ blocks ++ settled labels lates name d ∷ [] → blocks' ++ settled_from labels lates (name + 1) (reverse left') ≡ all
blocks_next labels lates name left left' d blocks blocks' all is so_far push =
    let up : name + 1 ≡ suc name = omega arith in
    let rest = settled_from labels lates (suc name) (reverse left') in
    ap (λ bs. bs ++ settled_from labels lates (name + 1) (reverse left')) push
    ∙ ap (λ (n : ℕ). (blocks ++ settled labels lates name d ∷ []) ++ settled_from labels lates n (reverse left')) up
    ∙ append_assoc blocks (settled labels lates name d ∷ []) rest
    ∙ sym (ap (λ ds. blocks ++ settled_from labels lates name ds) (ap reverse is ∙ last_first left' d)) ∙ so_far

pub blocks_done : (labels : ℕ → ℕ) (lates : ℕ → List Phi) (name : ℕ) (left : List Draft) (blocks all : List ModuleBlock) → left ≡ [] → blocks ++ settled_from labels lates name (reverse left) ≡ all → blocks ≡ all
blocks_done labels lates name left blocks all is so_far = sym (append_nil blocks) ∙ sym (ap (λ ds. blocks ++ settled_from labels lates name (reverse ds)) is) ∙ so_far

-- ---- functions

pub declared_next : (called : List ℕ) (f : ℕ) → f < 37 → declared_from called f (37 - f) ≡ cond (is_among called f) (record { 0 = f } ∷ declared_from called (f + 1) (37 - (f + 1))) (declared_from called (f + 1) (37 - (f + 1)))
declared_next called f l =
    let down : 37 - f ≡ suc (37 - (f + 1)) = omega (arith, l) in
    let up : suc f ≡ f + 1 = omega arith in
    ap (declared_from called f) down ∙ here (is_among called f) ∙ ap (λ (n : ℕ). cond (is_among called f) (record { 0 = f } ∷ declared_from called n (37 - (f + 1))) (declared_from called n (37 - (f + 1)))) up
  where
    here : (b : Bool) → map (λ (g : ℕ). record { 0 = g }) (cond b (f ∷ filter (is_among called) (counted (suc f) (37 - (f + 1)))) (filter (is_among called) (counted (suc f) (37 - (f + 1)))))
        ≡ cond b (record { 0 = f } ∷ declared_from called (suc f) (37 - (f + 1))) (declared_from called (suc f) (37 - (f + 1)))
    here true = refl
    here false = refl

pub declared_then : (called : List ℕ) (f : ℕ) (functions more all : List Function) → f < 37 → is_among called f ≡ true → more ≡ functions ++ record { 0 = f } ∷ [] → functions ++ declared_from called f (37 - f) ≡ all → more ++ declared_from called (f + 1) (37 - (f + 1)) ≡ all
declared_then called f functions more all l need push so_far =
    let rest = declared_from called (f + 1) (37 - (f + 1)) in
    let here : declared_from called f (37 - f) ≡ record { 0 = f } ∷ rest = declared_next called f l ∙ ap (λ b. cond b (record { 0 = f } ∷ rest) rest) need in
    ap (λ (fs : List Function). fs ++ rest) push ∙ append_assoc functions (record { 0 = f } ∷ []) rest ∙ sym (ap (λ (fs : List Function). functions ++ fs) here) ∙ so_far

pub declared_else : (called : List ℕ) (f : ℕ) (functions more all : List Function) → f < 37 → is_among called f ≡ false → more ≡ functions → functions ++ declared_from called f (37 - f) ≡ all → more ++ declared_from called (f + 1) (37 - (f + 1)) ≡ all
declared_else called f functions more all l need same so_far =
    let rest = declared_from called (f + 1) (37 - (f + 1)) in
    let here : declared_from called f (37 - f) ≡ rest = declared_next called f l ∙ ap (λ b. cond b (record { 0 = f } ∷ rest) rest) need in
    ap (λ (fs : List Function). fs ++ rest) same ∙ sym (ap (λ (fs : List Function). functions ++ fs) here) ∙ so_far

among_append : (xs ys : List ℕ) (n : ℕ) → is_among (xs ++ ys) n ≡ (is_among xs n || is_among ys n)
among_append xs ys n = list_any-append (nat_eq n) xs ys

next_of : {A : Type 0} (xs : List A) (i : ℕ) (x : A) → i < length xs → x ≡ get_or xs i x → drop i xs ≡ x ∷ drop (i + 1) xs
next_of [] i x l is = absurd (omega (arith, l))
next_of (y ∷ xs) zero x l is = ap (λ z. z ∷ xs) (sym is)
next_of (y ∷ xs) (suc i) x l is = next_of xs i x (omega (arith, l)) is ∙ ap (λ (n : ℕ). x ∷ drop n (y ∷ xs)) up
  where
    up : suc (i + 1) ≡ suc i + 1
    up = omega arith

pub blocks_call : (blocks : List ModuleBlock) (i f : ℕ) (b : ModuleBlock) → i < length blocks → b ≡ get_or blocks i b
    → is_among (called_functions (drop i blocks)) f ≡ (is_among (flat_map functions_of b.body) f || is_among (called_functions (drop (i + 1) blocks)) f)
blocks_call blocks i f b l is = ap (λ (bs : List ModuleBlock). is_among (called_functions bs) f) (next_of blocks i b l is) ∙ among_append (flat_map functions_of b.body) (called_functions (drop (i + 1) blocks)) f

pub body_calls : (body : List Instr) (i f : ℕ) (x : Instr) → i < length body → x ≡ get_or body i x → is_among (flat_map functions_of (drop i body)) f ≡ (is_among (functions_of x) f || is_among (flat_map functions_of (drop (i + 1) body)) f)
body_calls body i f x l is = ap (λ (is : List Instr). is_among (flat_map functions_of is) f) (next_of body i x l is) ∙ among_append (functions_of x) (flat_map functions_of (drop (i + 1) body)) f
