-- The buffer of the arguments of a call, one argument after another.
use Rattle.std.proofs.Common.{◌≡◌, ℕ, zero, suc, ◌+◌, ◌<◌, ◌≤◌, Bool, false, List, [], ◌∷◌, ◌++◌, length, take, replicate, min, pos, ℤ, slice_set, Option, Some, None, refl, sym, ap, ◌∙◌, arith, append_assoc, length-append, append-nil}
use Rattle.std.proofs.lemmas.List.{take-replicate, take-append-le}
use Rattle.qq_base.specs.declared.run.QubitId.{QubitId}
use Rattle.qir_module.specs.declared.instruction.Arg.{Arg}
use Rattle.qir_module.specs.Functions.{Kind}
use Rattle.qir_module.specs.Machine.{State, Given, WordGiven, TruthGiven, NullGiven, IdGiven, LabelGiven, given, all_given, with_front, padded, units_in, qubits_in}
use Rattle.qir_machine.specs.declared.given.Arguments.{Arguments}
use Rattle.qir_machine.specs.Given.{Givens, truth_from, label_from, IsRead, prepend}

-- ---- a list that is filled up to a length

set_take : {A : Type 0} (n m : ℕ) (us : List A) (x w : A) → length us < n → n ≤ length us + m
    → slice_set (take n (us ++ replicate m x)) (length us) w ≡ take n ((us ++ w ∷ []) ++ replicate m x)
set_take zero m us x w short room = absurd (omega arith)
set_take (suc n) zero [] x w short room = absurd (omega arith)
set_take (suc n) (suc m) [] x w short room =
    let few : n ≤ m = omega arith in
    let more : n ≤ suc m = omega arith in
    ap (λ rest. w ∷ rest) (take-replicate n m x few ∙ sym (take-replicate n (suc m) x more))
set_take (suc n) m (u ∷ us) x w short room = ap (λ rest. u ∷ rest) (set_take n m us x w (omega arith) (omega arith))

pub padded_more : {A : Type 0} (n : ℕ) (us : List A) (x w : A) → length us < n → slice_set (padded n x us) (length us) w ≡ padded n x (us ++ w ∷ [])
padded_more n us x w short = set_take n n us x w short (omega arith)

pub padded_full : {A : Type 0} (n : ℕ) (us : List A) (x w : A) → n ≤ length us → padded n x (us ++ w ∷ []) ≡ padded n x us
padded_full n us x w full =
    let longer : n ≤ length (us ++ w ∷ []) = omega (arith, length-append us (w ∷ [])) in
    take-append-le n (us ++ w ∷ []) (replicate n x) longer ∙ take-append-le n us (w ∷ []) full ∙ sym (take-append-le n us (replicate n x) full)

-- ---- one more thing that is given

units_in-append : (xs ys : Givens) → units_in (xs ++ ys) ≡ units_in xs ++ units_in ys
units_in-append [] ys = refl
units_in-append (WordGiven z ∷ xs) ys = ap (λ rest. z ∷ rest) (units_in-append xs ys)
units_in-append (TruthGiven b ∷ xs) ys = units_in-append xs ys
units_in-append (NullGiven ∷ xs) ys = units_in-append xs ys
units_in-append (IdGiven n ∷ xs) ys = units_in-append xs ys
units_in-append (LabelGiven n ∷ xs) ys = units_in-append xs ys

qubits_in-append : (xs ys : Givens) → qubits_in (xs ++ ys) ≡ qubits_in xs ++ qubits_in ys
qubits_in-append [] ys = refl
qubits_in-append (WordGiven z ∷ xs) ys = qubits_in-append xs ys
qubits_in-append (TruthGiven b ∷ xs) ys = qubits_in-append xs ys
qubits_in-append (NullGiven ∷ xs) ys = qubits_in-append xs ys
qubits_in-append (IdGiven n ∷ xs) ys = ap (λ rest. record { 0 = n } ∷ rest) (qubits_in-append xs ys)
qubits_in-append (LabelGiven n ∷ xs) ys = qubits_in-append xs ys

truth_from-append : (b : Bool) (xs ys : Givens) → truth_from b (xs ++ ys) ≡ truth_from (truth_from b xs) ys
truth_from-append b [] ys = refl
truth_from-append b (WordGiven z ∷ xs) ys = truth_from-append b xs ys
truth_from-append b (TruthGiven c ∷ xs) ys = truth_from-append c xs ys
truth_from-append b (NullGiven ∷ xs) ys = truth_from-append b xs ys
truth_from-append b (IdGiven n ∷ xs) ys = truth_from-append b xs ys
truth_from-append b (LabelGiven n ∷ xs) ys = truth_from-append b xs ys

label_from-append : (l : ℕ) (xs ys : Givens) → label_from l (xs ++ ys) ≡ label_from (label_from l xs) ys
label_from-append l [] ys = refl
label_from-append l (WordGiven z ∷ xs) ys = label_from-append l xs ys
label_from-append l (TruthGiven c ∷ xs) ys = label_from-append l xs ys
label_from-append l (NullGiven ∷ xs) ys = label_from-append l xs ys
label_from-append l (IdGiven n ∷ xs) ys = label_from-append l xs ys
label_from-append l (LabelGiven n ∷ xs) ys = label_from-append n xs ys

-- the buffer holds lists of words, of ids, a truth value and a label
record Parts (all : Arguments) (words : List ℤ) (ids : List QubitId) (truth : Bool) (label : ℕ) : Type 0 where
  words_are : all.words ≡ padded 4 (pos 0) words
  word_count : all.word_count ≡ min 4 (length words)
  ids_are : all.ids ≡ padded 3 (record { 0 = 0 }) ids
  id_count : all.id_count ≡ min 3 (length ids)
  truth_is : all.truth ≡ truth
  label_is : all.label ≡ label

from_parts : (gs : Givens) (all : Arguments) → Parts all (units_in gs) (qubits_in gs) (truth_from false gs) (label_from 0 gs) → IsRead gs all
from_parts gs all p = record { words = p.words_are; word_count = p.word_count; ids = p.ids_are; id_count = p.id_count; truth = p.truth_is; label = p.label_is }

-- one more thing, by what it adds to each part
one_more : (gs : Givens) (g : Given) (all : Arguments)
    → Parts all (units_in gs ++ units_in (g ∷ [])) (qubits_in gs ++ qubits_in (g ∷ [])) (truth_from (truth_from false gs) (g ∷ [])) (label_from (label_from 0 gs) (g ∷ []))
    → IsRead (gs ++ g ∷ []) all
one_more gs g all p = record {
  words = p.words_are ∙ ap (λ (us : List ℤ). padded 4 (pos 0) us) (sym (units_in-append gs (g ∷ [])));
  word_count = p.word_count ∙ ap (λ (us : List ℤ). min 4 (length us)) (sym (units_in-append gs (g ∷ [])));
  ids = p.ids_are ∙ ap (λ (us : List QubitId). padded 3 (record { 0 = 0 }) us) (sym (qubits_in-append gs (g ∷ [])));
  id_count = p.id_count ∙ ap (λ (us : List QubitId). min 3 (length us)) (sym (qubits_in-append gs (g ∷ [])));
  truth = p.truth_is ∙ sym (truth_from-append false gs (g ∷ []));
  label = p.label_is ∙ sym (label_from-append 0 gs (g ∷ []));
}

-- what a thing that adds nothing to a part leaves as it was
kept_words : (gs : Givens) (all : Arguments) → IsRead gs all → (all.words ≡ padded 4 (pos 0) (units_in gs ++ [])) × (all.word_count ≡ min 4 (length (units_in gs ++ [])))
kept_words gs all r = (
  r.words ∙ ap (λ (us : List ℤ). padded 4 (pos 0) us) (sym (append-nil (units_in gs))),
  r.word_count ∙ ap (λ (us : List ℤ). min 4 (length us)) (sym (append-nil (units_in gs))),
)

kept_ids : (gs : Givens) (all : Arguments) → IsRead gs all → (all.ids ≡ padded 3 (record { 0 = 0 }) (qubits_in gs ++ [])) × (all.id_count ≡ min 3 (length (qubits_in gs ++ [])))
kept_ids gs all r = (
  r.ids ∙ ap (λ (us : List QubitId). padded 3 (record { 0 = 0 }) us) (sym (append-nil (qubits_in gs))),
  r.id_count ∙ ap (λ (us : List QubitId). min 3 (length us)) (sym (append-nil (qubits_in gs))),
)

-- a list of at most so many, one longer
counted_more : {A : Type 0} (n : ℕ) (us : List A) (w : A) → length us < n → min n (length us) + 1 ≡ min n (length (us ++ w ∷ []))
counted_more n us w short = let longer = length-append us (w ∷ []) in omega (arith, longer)

counted_full : {A : Type 0} (n : ℕ) (us : List A) (w : A) → n ≤ length us → min n (length us) ≡ min n (length (us ++ w ∷ []))
counted_full n us w full = let longer = length-append us (w ∷ []) in omega (arith, longer)

-- at a place that is the length
set_more : {A : Type 0} (n count : ℕ) (list us : List A) (x w : A) → list ≡ padded n x us → count ≡ min n (length us) → length us < n → slice_set list count w ≡ padded n x (us ++ w ∷ [])
set_more n count list us x w list_is count_is short =
    let same : count ≡ length us = omega arith in
    ap (λ l. slice_set l count w) list_is ∙ ap (λ k. slice_set (padded n x us) k w) same ∙ padded_more n us x w short

pub with_word : (gs : Givens) (all : Arguments) (z : ℤ) → all.word_count < 4 → IsRead gs all
    → IsRead (gs ++ WordGiven z ∷ []) (record all { words = slice_set all.words all.word_count z; word_count = all.word_count + 1 })
with_word gs all z few r =
    let count : all.word_count ≡ min 4 (length (units_in gs)) = r.word_count in
    let short : length (units_in gs) < 4 = omega arith in
    one_more gs (WordGiven z) _ (record {
      words_are = set_more 4 all.word_count all.words (units_in gs) (pos 0) z r.words r.word_count short;
      word_count = ap (λ n. n + 1) r.word_count ∙ counted_more 4 (units_in gs) z short;
      ids_are = (kept_ids gs all r).0;
      id_count = (kept_ids gs all r).1;
      truth_is = r.truth;
      label_is = r.label;
    })

-- a word behind the fourth is left out
pub without_word : (gs : Givens) (all : Arguments) (z : ℤ) → 4 ≤ all.word_count → IsRead gs all → IsRead (gs ++ WordGiven z ∷ []) all
without_word gs all z many r =
    let count : all.word_count ≡ min 4 (length (units_in gs)) = r.word_count in
    let full : 4 ≤ length (units_in gs) = omega arith in
    one_more gs (WordGiven z) all (record {
      words_are = r.words ∙ sym (padded_full 4 (units_in gs) (pos 0) z full);
      word_count = r.word_count ∙ counted_full 4 (units_in gs) z full;
      ids_are = (kept_ids gs all r).0;
      id_count = (kept_ids gs all r).1;
      truth_is = r.truth;
      label_is = r.label;
    })

pub with_id : (gs : Givens) (all : Arguments) (n : ℕ) → all.id_count < 3 → IsRead gs all
    → IsRead (gs ++ IdGiven n ∷ []) (record all { ids = slice_set all.ids all.id_count (record { 0 = n }); id_count = all.id_count + 1 })
with_id gs all n few r =
    let count : all.id_count ≡ min 3 (length (qubits_in gs)) = r.id_count in
    let short : length (qubits_in gs) < 3 = omega arith in
    one_more gs (IdGiven n) _ (record {
      words_are = (kept_words gs all r).0;
      word_count = (kept_words gs all r).1;
      ids_are = set_more 3 all.id_count all.ids (qubits_in gs) (record { 0 = 0 }) (record { 0 = n }) r.ids r.id_count short;
      id_count = ap (λ k. k + 1) r.id_count ∙ counted_more 3 (qubits_in gs) (record { 0 = n }) short;
      truth_is = r.truth;
      label_is = r.label;
    })

pub without_id : (gs : Givens) (all : Arguments) (n : ℕ) → 3 ≤ all.id_count → IsRead gs all → IsRead (gs ++ IdGiven n ∷ []) all
without_id gs all n many r =
    let count : all.id_count ≡ min 3 (length (qubits_in gs)) = r.id_count in
    let full : 3 ≤ length (qubits_in gs) = omega arith in
    one_more gs (IdGiven n) all (record {
      words_are = (kept_words gs all r).0;
      word_count = (kept_words gs all r).1;
      ids_are = r.ids ∙ sym (padded_full 3 (qubits_in gs) (record { 0 = 0 }) (record { 0 = n }) full);
      id_count = r.id_count ∙ counted_full 3 (qubits_in gs) (record { 0 = n }) full;
      truth_is = r.truth;
      label_is = r.label;
    })

pub with_truth : (gs : Givens) (all : Arguments) (b : Bool) → IsRead gs all → IsRead (gs ++ TruthGiven b ∷ []) (record all { truth = b })
with_truth gs all b r = one_more gs (TruthGiven b) _ (record {
  words_are = (kept_words gs all r).0;
  word_count = (kept_words gs all r).1;
  ids_are = (kept_ids gs all r).0;
  id_count = (kept_ids gs all r).1;
  truth_is = refl;
  label_is = r.label;
})

pub with_label : (gs : Givens) (all : Arguments) (l : ℕ) → IsRead gs all → IsRead (gs ++ LabelGiven l ∷ []) (record all { label = l })
with_label gs all l r = one_more gs (LabelGiven l) _ (record {
  words_are = (kept_words gs all r).0;
  word_count = (kept_words gs all r).1;
  ids_are = (kept_ids gs all r).0;
  id_count = (kept_ids gs all r).1;
  truth_is = r.truth;
  label_is = refl;
})

pub with_null : (gs : Givens) (all : Arguments) → IsRead gs all → IsRead (gs ++ NullGiven ∷ []) all
with_null gs all r = one_more gs NullGiven all (record {
  words_are = (kept_words gs all r).0;
  word_count = (kept_words gs all r).1;
  ids_are = (kept_ids gs all r).0;
  id_count = (kept_ids gs all r).1;
  truth_is = r.truth;
  label_is = r.label;
})

-- ---- all arguments, one kind after another

pub lengths_differ : (labels : ℕ) (s : State) (kinds : List Kind) (args : List Arg) → (length kinds ≡ length args → ⊥) → all_given labels s kinds args ≡ None
lengths_differ labels s [] [] differ = absurd (differ refl)
lengths_differ labels s [] (arg ∷ args) differ = refl
lengths_differ labels s (kind ∷ kinds) [] differ = refl
lengths_differ labels s (kind ∷ kinds) (arg ∷ args) differ =
    ap (with_front (given labels s kind arg)) (lengths_differ labels s kinds args (λ same. differ (ap (λ n. suc n) same))) ∙ none_behind (given labels s kind arg)
  where
    none_behind : (o : Option Given) → with_front o None ≡ None
    none_behind None = refl
    none_behind (Some g) = refl

pub prepend_more : {A : Type 0} (front : List A) (x : A) (others : Option (List A)) → prepend front (with_front (Some x) others) ≡ prepend (front ++ x ∷ []) others
prepend_more front x None = refl
prepend_more front x (Some hs) = ap (λ l. Some l) (sym (append_assoc front (x ∷ []) hs))

pub prepend_none : {A : Type 0} (front : List A) (others : Option (List A)) → prepend front (with_front None others) ≡ None
prepend_none front others = refl

pub prepend_done : {A : Type 0} (front : List A) → prepend front (Some []) ≡ Some front
prepend_done front = ap (λ l. Some l) (append-nil front)
