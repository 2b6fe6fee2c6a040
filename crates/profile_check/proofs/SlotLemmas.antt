-- Slots as they are given, and the rounds of mentions.
use Rattle.std.proofs.Common.{◌≡◌, ℕ, suc, ◌+◌, ◌/◌, ◌<◌, nat_eq, Bool, true, false, ◌&&◌, ◌||◌, cond, List, [], ◌∷◌, ◌++◌, length, map, filter, take, get_or, Option, Some, None, is_some, refl, ap, sym, ◌∙◌, arith, inl, inr}
use Rattle.std.proofs.lemmas.Bool.{false≢true}
use Rattle.std.proofs.lemmas.Bool.Decides.{eqb_tells}
use Rattle.std.proofs.lemmas.List.Elements.{filter_more}
use Rattle.std.proofs.lemmas.List.Folds.{list_any_more}
use Rattle.std.specs.Option.{unwrap_or}
use Rattle.std.specs.HashMap.{get}
use Rattle.std.specs.declared.vec.Vec.{Vec}
use Rattle.std.specs.declared.alloc.Global.{Global}
use Rattle.profile_check.specs.declared.mentions.How.{How}
use Rattle.profile_check.specs.declared.mentions.How.TheVariants.{Assigned, Read, Entry}
use Rattle.profile_check.specs.declared.mentions.Mention.{Mention}
use Rattle.profile_check.specs.declared.rounds.Slots.{Slots}
use Rattle.profile_check.specs.declared.rounds.Use.{Use}
use Rattle.profile_check.specs.Names.{Table, is_at}
use Rattle.profile_check.specs.Ways.{one_if, Adds}
use Rattle.profile_check.specs.Rounds.{is_assigning, are_assigned, slot_of, HaveSlots, AreSlots, use_of, in_round, round_uses, AreRounds}

or_false : (t : Bool) → (t || false) ≡ t
or_false true = refl
or_false false = refl

-- ---- slots

and_false : (t : Bool) → (t && false) ≡ false
and_false true = refl
and_false false = refl

pub not_assigning : (how : How) → (how ≡ Assigned → ⊥) → is_assigning how ≡ false
not_assigning Assigned other = absurd (other refl)
not_assigning Read other = refl
not_assigning (Entry name) other = refl

pub there_too : (known : Table) (m : Mention) → is_some (get nat_eq known m.number) ≡ true → (n : ℕ) → (is_assigning m.how && nat_eq m.number n) ≡ true → is_some (get nat_eq known n) ≡ true
there_too known m there n e = elim (eqb_tells m.number n) [
  | inl same ↦ ap (λ (k : ℕ). is_some (get nat_eq known k)) (sym same.1) ∙ there
  | inr other ↦ absurd (false≢true (sym (ap (λ (t : Bool). is_assigning m.how && t) other.0 ∙ and_false (is_assigning m.how)) ∙ e))
]

-- a mention that assigns what has a slot, or that assigns nothing
pub slots_same : (known : Table) (count : ℕ) (ms : List Mention) (i : ℕ) (m : Mention) → i < length ms → m ≡ get_or ms i m → AreSlots known count (take i ms) → ((n : ℕ) → (is_assigning m.how && nat_eq m.number n) ≡ true → is_some (get nat_eq known n) ≡ true)
    → AreSlots known count (take (i + 1) ms)
slots_same known count ms i m within is slots there = record {
  all = λ n.
      let test = λ (x : Mention). is_assigning x.how && nat_eq x.number n in
      list_any_more test ms i m within
      ∙ ap (λ (x : Mention). are_assigned (take i ms) n || test x) (sym is)
      ∙ ap (λ (t : Bool). t || test m) (slots.all n)
      ∙ covered (is_some (get nat_eq known n)) (test m) (there n);
  small = slots.small;
  apart = slots.apart;
}
  where
    covered : (has new : Bool) → (new ≡ true → has ≡ true) → (has || new) ≡ has
    covered true new follows = refl
    covered false true follows = absurd (false≢true (follows refl))
    covered false false follows = refl

-- a mention that assigns what has no slot yet
pub slots_new : (known new : Table) (count : ℕ) (ms : List Mention) (i : ℕ) (m : Mention) → i < length ms → m ≡ get_or ms i m → AreSlots known count (take i ms)
    → is_assigning m.how ≡ true → is_some (get nat_eq known m.number) ≡ false → ((q : ℕ) → get nat_eq new q ≡ cond (nat_eq m.number q) (Some count) (get nat_eq known q))
    → AreSlots new (count + 1) (take (i + 1) ms)
slots_new known new count ms i m within is slots assigns fresh updates = record {
  all = λ n.
      let test = λ (x : Mention). is_assigning x.how && nat_eq x.number n in
      list_any_more test ms i m within
      ∙ ap (λ (x : Mention). are_assigned (take i ms) n || test x) (sym is)
      ∙ ap (λ (t : Bool). are_assigned (take i ms) n || (t && nat_eq m.number n)) assigns
      ∙ ap (λ (t : Bool). t || nat_eq m.number n) (slots.all n)
      ∙ both (nat_eq m.number n) (get nat_eq known n)
      ∙ ap is_some (sym (updates n));
  small = λ n s at. elim (eqb_tells m.number n) [
    | inl same ↦
        let e : Some count ≡ Some s = sym (updates n ∙ ap (λ (t : Bool). cond t (Some count) (get nat_eq known n)) same.0) ∙ at in
        let one : count ≡ s = cc in
        omega (arith, one)
    | inr other ↦
        let e : get nat_eq known n ≡ Some s = sym (updates n ∙ ap (λ (t : Bool). cond t (Some count) (get nat_eq known n)) other.0) ∙ at in
        let low : s < count = slots.small n s e in
        omega (arith, low)
  ];
  apart = λ n other s at at_other. of_both n other s at at_other;
}
  where
    both : (t : Bool) (o : Option ℕ) → (is_some o || t) ≡ is_some (cond t (Some count) o)
    both true None = refl
    both true (Some s) = refl
    both false None = refl
    both false (Some s) = refl

    old : (n s : ℕ) → nat_eq m.number n ≡ false → get nat_eq new n ≡ Some s → get nat_eq known n ≡ Some s
    old n s elsewhere at = sym (updates n ∙ ap (λ (t : Bool). cond t (Some count) (get nat_eq known n)) elsewhere) ∙ at

    fresh_slot : (n s : ℕ) → nat_eq m.number n ≡ true → get nat_eq new n ≡ Some s → s ≡ count
    fresh_slot n s here at =
        let e : Some count ≡ Some s = sym (updates n ∙ ap (λ (t : Bool). cond t (Some count) (get nat_eq known n)) here) ∙ at in
        cc

    of_both : (n other s : ℕ) → get nat_eq new n ≡ Some s → get nat_eq new other ≡ Some s → n ≡ other
    of_both n other s at at_other = elim (eqb_tells m.number n) [
      | inl same ↦ elim (eqb_tells m.number other) [
        | inl same_other ↦ sym same.1 ∙ same_other.1
        | inr elsewhere ↦
            let low : s < count = slots.small other s (old other s elsewhere.0 at_other) in
            let high : s ≡ count = fresh_slot n s same.0 at in
            absurd (omega (arith, low, high))
      ]
      | inr apart ↦ elim (eqb_tells m.number other) [
        | inl same_other ↦
            let low : s < count = slots.small n s (old n s apart.0 at) in
            let high : s ≡ count = fresh_slot other s same_other.0 at_other in
            absurd (omega (arith, low, high))
        | inr elsewhere ↦ slots.apart n other s (old n s apart.0 at) (old other s elsewhere.0 at_other)
      ]
    ]

pub have_slots : (slots : Slots) (ms : List Mention) → AreSlots slots.known slots.count ms → HaveSlots (slot_of slots) slots.count ms
have_slots slots ms are = record {
  own = λ n other assigned same. of_known n other (get nat_eq slots.known n) (get nat_eq slots.known other) refl refl (sym (are.all n) ∙ assigned) same;
  few = λ n. below n (get nat_eq slots.known n) refl;
}
  where
    of_known : (n other : ℕ) (o p : Option ℕ) → get nat_eq slots.known n ≡ o → get nat_eq slots.known other ≡ p → is_some (get nat_eq slots.known n) ≡ true → unwrap_or (get nat_eq slots.known other) slots.count ≡ unwrap_or (get nat_eq slots.known n) slots.count → other ≡ n
    of_known n other None p at at_other known same = absurd (false≢true (sym (ap is_some at) ∙ known))
    of_known n other (Some s) None at at_other known same =
        let low : s < slots.count = are.small n s at in
        let e : slots.count ≡ s = sym (ap (λ (o : Option ℕ). unwrap_or o slots.count) at_other) ∙ same ∙ ap (λ (o : Option ℕ). unwrap_or o slots.count) at in
        absurd (omega (arith, low, e))
    of_known n other (Some s) (Some t) at at_other known same =
        let e : t ≡ s = sym (ap (λ (o : Option ℕ). unwrap_or o slots.count) at_other) ∙ same ∙ ap (λ (o : Option ℕ). unwrap_or o slots.count) at in
        are.apart other n s (at_other ∙ ap Some e) at

    below : (n : ℕ) (o : Option ℕ) → get nat_eq slots.known n ≡ o → unwrap_or (get nat_eq slots.known n) slots.count < suc slots.count
    below n None at =
        let e : unwrap_or (get nat_eq slots.known n) slots.count ≡ slots.count = ap (λ (o : Option ℕ). unwrap_or o slots.count) at in
        omega (arith, e)
    below n (Some s) at =
        let e : unwrap_or (get nat_eq slots.known n) slots.count ≡ s = ap (λ (o : Option ℕ). unwrap_or o slots.count) at in
        let low : s < slots.count = are.small n s at in
        omega (arith, e, low)

-- ---- rounds

map-append : {X Y : Type 0} (f : X → Y) (xs ys : List X) → map f (xs ++ ys) ≡ map f xs ++ map f ys
map-append f [] ys = refl
map-append f (x ∷ xs) ys = ap (λ (zs : List _). f x ∷ zs) (map-append f xs ys)

pub rounds_more : (old new : List (Vec Use Global)) (slot place : ℕ → ℕ) (ms : List Mention) (i : ℕ) (m : Mention) → i < length ms → m ≡ get_or ms i m → AreRounds old slot place (take i ms)
    → Adds old new (λ b. is_at b (Some (slot m.number / 64))) (use_of slot place m) → AreRounds new slot place (take (i + 1) ms)
rounds_more old new slot place ms i m within is rounds adds = record {
  each = λ q below.
      let inside : q < length old = omega (arith, adds.long) in
      adds.each q inside
      ∙ ap (λ (us : List Use). us ++ one_if (nat_eq (slot m.number / 64) q) (use_of slot place m)) (rounds.each q inside)
      ∙ ap (λ (us : List Use). round_uses slot place (take i ms) q ++ us) (one (nat_eq (slot m.number / 64) q))
      ∙ sym (map-append (use_of slot place) (filter (in_round slot q) (take i ms)) (cond (in_round slot q m) (m ∷ []) []))
      ∙ ap (λ (x : Mention). map (use_of slot place) (filter (in_round slot q) (take i ms) ++ cond (in_round slot q x) (x ∷ []) [])) is
      ∙ ap (map (use_of slot place)) (sym (filter_more (in_round slot q) ms i m within));
}
  where
    one : (t : Bool) → one_if t (use_of slot place m) ≡ map (use_of slot place) (cond t (m ∷ []) [])
    one true = refl
    one false = refl
