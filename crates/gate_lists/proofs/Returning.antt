-- The inverse of the inverse of a list.
use Rattle.std.proofs.Common.{◌≡◌, ℕ, ◌≤◌, List, [], ◌∷◌, ◌++◌, map, length, reverse, take, get_or, All, ℤ, pos, Option, Some, None, Result, Ok, Err, ◌⊎◌, inl, inr, refl, sym, ap, subst, ◌∙◌, arith}
use Rattle.std.specs.Option.{option_map}
use Rattle.std.proofs.lemmas.List.{reverse-append, reverse-reverse}
use Rattle.std.proofs.lemmas.List.Elements.{All-tail}
use Rattle.qq_base.specs.declared.refusal.Refusal.{Refusal}
use Rattle.qq_base.specs.declared.refusal.Span.{Span}
use Rattle.qq_base.specs.declared.rule.Rule.TheVariants.{InverseOutsideTable}
use Rattle.gate_table.specs.declared.table.InvRow.{InvRow}
use Rattle.gate_table.specs.Table.{inverse_of}
use Rattle.gate_table.specs.Laws.{InversesReturn}
use Rattle.const_eval.specs.Refusing.{go_on}
use Rattle.gate_lists.specs.Amounts.{params_of}
use Rattle.gate_lists.specs.Instructions.{Instruction, inverse_instruction, inverse_by_row, each_by_row}
use Rattle.gate_lists.specs.Laws.{IsInstruction, InversesOfListsReturn}
use Rattle.gate_lists.specs.Units.{negated}
use Rattle.gate_lists.proofs.Units.{negated-negated}
use Rattle.gate_lists.proofs.Rows.{IsOrder, inverse_row, row_params}

-- ---- the arguments of one instruction, where `n` negates

straight : (n : ℤ → ℤ) (xs : List ℤ) → length xs ≤ 4 → All (λ (z : ℤ). n (n z) ≡ z) xs
    → map (λ (k : ℕ). n (get_or (map (λ (j : ℕ). n (get_or xs j (pos 0))) (take (length xs) (0 ∷ 1 ∷ 2 ∷ 3 ∷ []))) k (pos 0))) (take (length (map (λ (j : ℕ). n (get_or xs j (pos 0))) (take (length xs) (0 ∷ 1 ∷ 2 ∷ 3 ∷ [])))) (0 ∷ 1 ∷ 2 ∷ 3 ∷ [])) ≡ xs
straight n [] few all = refl
straight n (a ∷ []) few all = let ha = all 0 a (omega arith) in cc
straight n (a ∷ b ∷ []) few all = let ha = all 0 a (omega arith) in let hb = all 1 a (omega arith) in cc
straight n (a ∷ b ∷ c ∷ []) few all = let ha = all 0 a (omega arith) in let hb = all 1 a (omega arith) in let hc = all 2 a (omega arith) in cc
straight n (a ∷ b ∷ c ∷ d ∷ []) few all =
    let ha = all 0 a (omega arith) in let hb = all 1 a (omega arith) in let hc = all 2 a (omega arith) in let hd = all 3 a (omega arith) in cc
straight n (a ∷ b ∷ c ∷ d ∷ e ∷ xs) few all = absurd (omega arith)

crossed : (n : ℤ → ℤ) (xs : List ℤ) → 3 ≤ length xs → length xs ≤ 4 → All (λ (z : ℤ). n (n z) ≡ z) xs
    → map (λ (k : ℕ). n (get_or (map (λ (j : ℕ). n (get_or xs j (pos 0))) (take (length xs) (0 ∷ 2 ∷ 1 ∷ 3 ∷ []))) k (pos 0))) (take (length (map (λ (j : ℕ). n (get_or xs j (pos 0))) (take (length xs) (0 ∷ 2 ∷ 1 ∷ 3 ∷ [])))) (0 ∷ 2 ∷ 1 ∷ 3 ∷ [])) ≡ xs
crossed n [] some few all = absurd (omega arith)
crossed n (a ∷ []) some few all = absurd (omega arith)
crossed n (a ∷ b ∷ []) some few all = absurd (omega arith)
crossed n (a ∷ b ∷ c ∷ []) some few all = let ha = all 0 a (omega arith) in let hb = all 1 a (omega arith) in let hc = all 2 a (omega arith) in cc
crossed n (a ∷ b ∷ c ∷ d ∷ []) some few all =
    let ha = all 0 a (omega arith) in let hb = all 1 a (omega arith) in let hc = all 2 a (omega arith) in let hd = all 3 a (omega arith) in cc
crossed n (a ∷ b ∷ c ∷ d ∷ e ∷ xs) some few all = absurd (omega arith)

two_and_one : (n : ℕ) → n ≡ 2 → n ≡ 1 → ⊥
two_and_one n two one = omega arith

-- two rows whose places return
places_return : (n : ℤ → ℤ) (xs : List ℤ) (first second : List ℕ) → length xs ≤ 4 → IsOrder first (length xs) → IsOrder second (length xs)
    → get_or first (get_or second 1 0) 0 ≡ 1 → All (λ (z : ℤ). n (n z) ≡ z) xs
    → map (λ (k : ℕ). n (get_or (map (λ (j : ℕ). n (get_or xs j (pos 0))) (take (length xs) first)) k (pos 0))) (take (length (map (λ (j : ℕ). n (get_or xs j (pos 0))) (take (length xs) first))) second) ≡ xs
places_return n xs first second few (inl a) (inl b) again all = rw (a, b) (straight n xs few all)
places_return n xs first second few (inl a) (inr b) again all =
    absurd (two_and_one _ (rw (a, b.0) refl) again)
places_return n xs first second few (inr a) (inl b) again all =
    absurd (two_and_one _ (rw (a.0, b) refl) again)
places_return n xs first second few (inr a) (inr b) again all = rw (a.0, b.0) (crossed n xs a.1 few all)

-- ---- one instruction

map_some : {A B : Type 0} (f : A → B) (o : Option A) (y : B) → option_map f o ≡ Some y → (x : A) × (o ≡ Some x) × (f x ≡ y)
map_some f None y e = absurd cc
map_some f (Some x) y e = (x, refl, cc)

row_of_inverse : (i j : Instruction) → inverse_by_row i ≡ Some j → (row : InvRow) × (inverse_of i.gate ≡ Some row) × (inverse_instruction i row ≡ j)
unfolding inverse_by_row
row_of_inverse i j e = map_some (inverse_instruction i) (inverse_of i.gate) j e

back_again : InversesReturn → (i j k : Instruction) → IsInstruction i → inverse_by_row i ≡ Some j → inverse_by_row j ≡ Some k → k ≡ i
back_again returns i j k fits e f = by (row_of_inverse i j e) (row_of_inverse j k f)
  where
    by : (row : InvRow) × (inverse_of i.gate ≡ Some row) × (inverse_instruction i row ≡ j) → (row : InvRow) × (inverse_of j.gate ≡ Some row) × (inverse_instruction j row ≡ k) → k ≡ i
    by (first, is, made) (second, is', made') =
        let there : inverse_of first.gate.0 ≡ Some second = ap (λ (x : Instruction). inverse_of x.gate) made ∙ is' in
        let again = returns i.gate first second is there in
        let row = inverse_row i.gate first is in
        let row' = inverse_row first.gate.0 second there in
        let count : params_of i.gate ≡ length i.arguments = row_params i.gate fits.row fits.is_row ∙ sym fits.count in
        let few : length i.arguments ≤ 4 = omega (arith, count, row.few) in
        let order : IsOrder first.order (length i.arguments) = subst (IsOrder first.order) count row.order in
        let order' : IsOrder second.order (length i.arguments) = subst (IsOrder second.order) (row.params ∙ count) row'.order in
        let words : All (λ (z : ℤ). negated (negated z) ≡ z) i.arguments = λ k d lt. negated-negated (get_or i.arguments k d) ∙ fits.words k d lt in
        let arguments = places_return negated i.arguments first.order second.order few order order' (again.1 1 (omega arith)) words in
        let whole : inverse_instruction (inverse_instruction i first) second ≡ i
        = ap (λ (g : ℕ). record { gate = g; arguments = (inverse_instruction (inverse_instruction i first) second).arguments; qubits = i.qubits }) again.0
        ∙ ap (λ (xs : List ℤ). record { gate = i.gate; arguments = xs; qubits = i.qubits }) arguments in
        sym made' ∙ ap (λ (x : Instruction). inverse_instruction x second) (sym made) ∙ whole

-- ---- lists

abbrev Changed : List Instruction → List Instruction → Type 0
Changed [] [] = Unit {0}
Changed [] (j ∷ js) = ⊥
Changed (i ∷ is) [] = ⊥
Changed (i ∷ is) (j ∷ js) = (inverse_by_row i ≡ Some j) × Changed is js

first_and_rest : (answer : Result (List Instruction) Refusal) (j : Instruction) (js : List Instruction) → go_on answer (λ later. Ok (j ∷ later)) ≡ Ok js
    → (later : List Instruction) × (answer ≡ Ok later) × (js ≡ j ∷ later)
first_and_rest (Ok later) j js e = (later, refl, cc)
first_and_rest (Err refusal) j js e = absurd cc

some_or_none : (o : Option Instruction) → (o ≡ None) ⊎ ((j : Instruction) × (o ≡ Some j))
some_or_none None = inl refl
some_or_none (Some j) = inr (j, refl)

changed_none : (js : List Instruction) → js ≡ [] → Changed [] js
changed_none [] e = tt
changed_none (j ∷ js) e = absurd cc

changed_cons : (i j : Instruction) (is js later : List Instruction) → inverse_by_row i ≡ Some j → Changed is later → js ≡ j ∷ later → Changed (i ∷ is) js
changed_cons i j is js later e rest same = subst (Changed (i ∷ is)) (sym same) (e, rest)

err_and_ok : (answer : Result (List Instruction) Refusal) (refusal : Refusal) (js : List Instruction) → answer ≡ Err refusal → answer ≡ Ok js → ⊥
err_and_ok answer refusal js err ok = cc

made_changed : (place : Span) (is js : List Instruction) → each_by_row InverseOutsideTable place inverse_by_row is ≡ Ok js → Changed is js
made_changed place [] js e = changed_none js cc
made_changed place (i ∷ is) js e =
    elim (some_or_none (inverse_by_row i)) [
      | inl none ↦ absurd (refused_first none)
      | inr some ↦
          let made : go_on (each_by_row InverseOutsideTable place inverse_by_row is) (λ later. Ok (some.0 ∷ later)) ≡ Ok js = rw some.1 at e in
          let rest = first_and_rest (each_by_row InverseOutsideTable place inverse_by_row is) some.0 js made in
          changed_cons i some.0 is js rest.0 some.1 (made_changed place is rest.0 rest.1) rest.2
    ]
  where
    refused_first : inverse_by_row i ≡ None → ⊥
    refused_first none = err_and_ok (each_by_row InverseOutsideTable place inverse_by_row (i ∷ is)) (record { rule = InverseOutsideTable; at = place }) js (rw none refl) e

changed_append : (as' bs cs ds : List Instruction) → Changed as' bs → Changed cs ds → Changed (as' ++ cs) (bs ++ ds)
changed_append [] [] cs ds h g = g
changed_append [] (b ∷ bs) cs ds h g = absurd h
changed_append (a ∷ as') [] cs ds h g = absurd h
changed_append (a ∷ as') (b ∷ bs) cs ds h g = (h.0, changed_append as' bs cs ds h.1 g)

changed_reverse : (is js : List Instruction) → Changed is js → Changed (reverse is) (reverse js)
changed_reverse [] [] h = tt
changed_reverse [] (j ∷ js) h = absurd h
changed_reverse (i ∷ is) [] h = absurd h
changed_reverse (i ∷ is) (j ∷ js) h =
    rw (reverse-append (i ∷ []) is, reverse-append (j ∷ []) js) (changed_append (reverse is) (reverse js) (i ∷ []) (j ∷ []) (changed_reverse is js h.1) (h.0, tt))

same_again : InversesReturn → (is js ks : List Instruction) → All IsInstruction is → Changed is js → Changed js ks → ks ≡ is
same_again returns [] [] [] all h g = refl
same_again returns [] [] (k ∷ ks) all h g = absurd g
same_again returns [] (j ∷ js) ks all h g = absurd h
same_again returns (i ∷ is) [] ks all h g = absurd h
same_again returns (i ∷ is) (j ∷ js) [] all h g = absurd g
same_again returns (i ∷ is) (j ∷ js) (k ∷ ks) all h g =
    let first : k ≡ i = back_again returns i j k (all 0 i (omega arith)) h.0 g.0 in
    let rest : ks ≡ is = same_again returns is js ks (All-tail IsInstruction i is all) h.1 g.1 in
    cc

reversed : (answer : Result (List Instruction) Refusal) (js : List Instruction) → go_on answer (λ later. Ok (reverse later)) ≡ Ok js
    → (later : List Instruction) × (answer ≡ Ok later) × (js ≡ reverse later)
reversed (Ok later) js e = (later, refl, cc)
reversed (Err refusal) js e = absurd cc

pub inverses_return : InversesReturn → InversesOfListsReturn
inverses_return returns first second list once twice all e f =
    let a = reversed (each_by_row InverseOutsideTable first inverse_by_row list) once e in
    let b = reversed (each_by_row InverseOutsideTable second inverse_by_row once) twice f in
    let forth : Changed list a.0 = made_changed first list a.0 a.1 in
    let back : Changed once b.0 = made_changed second once b.0 b.1 in
    let turned : Changed (reverse once) (reverse b.0) = changed_reverse once b.0 back in
    let same : reverse once ≡ a.0 = ap reverse a.2 ∙ reverse-reverse a.0 in
    let back' : Changed a.0 twice = subst (λ (xs : List Instruction). Changed xs twice) same (subst (Changed (reverse once)) (sym b.2) turned) in
    same_again returns list a.0 twice all forth back'
