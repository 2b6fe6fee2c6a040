-- The items that a visitor was given, as they grow.
use Rattle.std.proofs.Common.{◌≡◌, ℕ, zero, suc, ◌+◌, ◌<◌, List, [], ◌∷◌, ◌++◌, length, map, take, get_or, Result, Ok, Err, ap, sym, ◌∙◌, arith, append_assoc, append-nil, length-append}
use Rattle.std.proofs.lemmas.List.{length-map}
use Rattle.std.specs.Prelude.{OnOk}
use Rattle.qir_module.specs.declared.instruction.Instr.{Instr}
use Rattle.qir_module.specs.declared.instruction.Last.{Last}
use Rattle.qir_module.specs.declared.block.Phi.{Phi}
use Rattle.qir_module.specs.declared.block.Block.{Block}
use Rattle.qir_module.specs.Spots.{Item, ThePhi, TheInstr, TheLast}
use Rattle.profile_check.specs.Visits.{Placed, placed_items, placed_parts, placed_in, placed_from}

pub placed_items-append : (k i : ℕ) (xs ys : List Item) → placed_items k i (xs ++ ys) ≡ placed_items k i xs ++ placed_items k (i + length xs) ys
placed_items-append k i [] ys = let e : i ≡ i + 0 = omega arith in ap (λ (n : ℕ). placed_items k n ys) e
placed_items-append k i (x ∷ xs) ys =
    let e : suc i + length xs ≡ i + suc (length xs) = omega arith in
    ap (λ (ps : List Placed). record { block = k; item = i; here = x } ∷ ps) (placed_items-append k (suc i) xs ys ∙ ap (λ (n : ℕ). placed_items k (suc i) xs ++ placed_items k n ys) e)

placed_suc : {X : Type 0} (f : X → Item) (k from i : ℕ) (xs : List X) (x : X) → i < length xs → x ≡ get_or xs i x
    → placed_items k from (map f (take (suc i) xs)) ≡ placed_items k from (map f (take i xs)) ++ record { block = k; item = from + i; here = f x } ∷ []
placed_suc f k from i [] x within is = absurd (omega arith)
placed_suc f k from zero (y ∷ ys) x within is =
    let e : from ≡ from + 0 = omega arith in
    ap (λ (z : _). record { block = k; item = from; here = f z } ∷ []) (sym is) ∙ ap (λ (n : ℕ). record { block = k; item = n; here = f x } ∷ []) e
placed_suc f k from (suc i) (y ∷ ys) x within is =
    let e : suc from + i ≡ from + suc i = omega arith in
    ap (λ (ps : List Placed). record { block = k; item = from; here = f y } ∷ ps) (
    placed_suc f k (suc from) i ys x (omega arith) is
    ∙ ap (λ (n : ℕ). placed_items k (suc from) (map f (take i ys)) ++ record { block = k; item = n; here = f x } ∷ []) e)

-- one more item
pub placed_more : {X : Type 0} (f : X → Item) (k from i : ℕ) (xs : List X) (x : X) (visited : List Placed) → i < length xs → x ≡ get_or xs i x
    → (visited ++ placed_items k from (map f (take i xs))) ++ record { block = k; item = from + i; here = f x } ∷ [] ≡ visited ++ placed_items k from (map f (take (i + 1) xs))
placed_more f k from i xs x visited within is =
    let one : suc i ≡ i + 1 = omega arith in
    append_assoc visited (placed_items k from (map f (take i xs))) (record { block = k; item = from + i; here = f x } ∷ [])
    ∙ ap (λ (ps : List Placed). visited ++ ps) (sym (placed_suc f k from i xs x within is) ∙ ap (λ (n : ℕ). placed_items k from (map f (take n xs))) one)

-- the parts of a block one behind another
pub placed_three : (k : ℕ) (phis : List Phi) (body : List Instr) (last : Last) (visited : List Placed)
    → ((visited ++ placed_items k 0 (map ThePhi phis)) ++ placed_items k (length phis) (map TheInstr body)) ++ record { block = k; item = length phis + length body; here = TheLast last } ∷ [] ≡ visited ++ placed_parts k phis body last
placed_three k phis body last visited =
    let mp = map ThePhi phis in
    let mb = map TheInstr body in
    let a = placed_items k 0 mp in
    let b = placed_items k (length phis) mb in
    let c : List Placed = record { block = k; item = length phis + length body; here = TheLast last } ∷ [] in
    let at : 0 + length mp ≡ length phis = simp length-map (omega arith) in
    let end : 0 + length (mp ++ mb) ≡ length phis + length body = simp (length-append, length-map) (omega arith) in
    ap (λ (ps : List Placed). ps ++ c) (append_assoc visited a b)
    ∙ append_assoc visited (a ++ b) c
    ∙ ap (λ (ps : List Placed). visited ++ ps) (sym (
    placed_items-append k 0 (mp ++ mb) (TheLast last ∷ [])
    ∙ ap (λ (n : ℕ). placed_items k 0 (mp ++ mb) ++ placed_items k n (TheLast last ∷ [])) end
    ∙ ap (λ (ps : List Placed). ps ++ c) (placed_items-append k 0 mp mb ∙ ap (λ (n : ℕ). a ++ placed_items k n mb) at)))

placed_block_suc : (k i : ℕ) (bs : List Block) (b : Block) → i < length bs → b ≡ get_or bs i b → placed_from k (take (suc i) bs) ≡ placed_from k (take i bs) ++ placed_in (k + i) b
placed_block_suc k i [] b within is = absurd (omega arith)
placed_block_suc k zero (x ∷ xs) b within is =
    let e : k ≡ k + 0 = omega arith in
    append-nil (placed_in k x) ∙ ap (placed_in k) (sym is) ∙ ap (λ (n : ℕ). placed_in n b) e
placed_block_suc k (suc i) (x ∷ xs) b within is =
    let e : suc k + i ≡ k + suc i = omega arith in
    ap (λ (ps : List Placed). placed_in k x ++ ps) (placed_block_suc (suc k) i xs b (omega arith) is ∙ ap (λ (n : ℕ). placed_from (suc k) (take i xs) ++ placed_in n b) e)
    ∙ sym (append_assoc (placed_in k x) (placed_from (suc k) (take i xs)) (placed_in (k + suc i) b))

-- one more block
pub placed_block_more : (i : ℕ) (bs : List Block) (b : Block) (visited : List Placed) → i < length bs → b ≡ get_or bs i b
    → (visited ++ placed_from 0 (take i bs)) ++ placed_in i b ≡ visited ++ placed_from 0 (take (i + 1) bs)
placed_block_more i bs b visited within is =
    let one : suc i ≡ i + 1 = omega arith in
    let e : 0 + i ≡ i = omega arith in
    append_assoc visited (placed_from 0 (take i bs)) (placed_in i b)
    ∙ ap (λ (ps : List Placed). visited ++ ps) (sym (placed_block_suc 0 i bs b within is ∙ ap (λ (n : ℕ). placed_from 0 (take i bs) ++ placed_in n b) e) ∙ ap (λ (n : ℕ). placed_from 0 (take n bs)) one)

pub on_ok_then : {A E : Type 0} {P Q : Type 0} (r : Result A E) → (P → Q) → OnOk r P → OnOk r Q
on_ok_then (Ok x) f p = f p
on_ok_then (Err e) f p = p

-- the same where the items are the first of their block
pub placed_first : {X : Type 0} (f : X → Item) (k i : ℕ) (xs : List X) (x : X) (visited : List Placed) → i < length xs → x ≡ get_or xs i x
    → (visited ++ placed_items k 0 (map f (take i xs))) ++ record { block = k; item = i; here = f x } ∷ [] ≡ visited ++ placed_items k 0 (map f (take (i + 1) xs))
placed_first f k i xs x visited within is =
    let e : i ≡ 0 + i = omega arith in
    ap (λ (n : ℕ). (visited ++ placed_items k 0 (map f (take i xs))) ++ record { block = k; item = n; here = f x } ∷ []) e
    ∙ placed_more f k 0 i xs x visited within is
