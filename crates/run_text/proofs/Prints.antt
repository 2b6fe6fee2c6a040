-- One text printed behind another, and what each step of a printer prints.
use Rattle.std.proofs.Common.{◌≡◌, refl, sym, ap, ◌∙◌, subst, ℕ, ◌+◌, ◌<◌, ◌≤◌, ◌⊎◌, inl, inr, arith, Bool, true, false, List, [], ◌∷◌, ◌++◌, length, get_or, take, drop, append_assoc, append-nil, take-append-drop, ℤ, FitsSigned, to_z, of_z, w64, Option, Some, None}
use Rattle.std.proofs.lemmas.Int.{to_z-of_z}
use Rattle.std.proofs.lemmas.List.{take_more}
use Rattle.std.proofs.lemmas.List.Concat.{flat_map-append}
use Rattle.std.specs.List.{flat_map}
use Rattle.std.specs.Io.KnownBytes.{Appends}
use Rattle.qq_streams.specs.Faults.{raised, HasRisen}
use Rattle.run_text.specs.Printing.{Desk, desk, Pending, Prints}

-- ---- what a sink takes

appends_none : (bytes : Option (List ℕ)) → Appends bytes bytes []
appends_none None = tt
appends_none (Some xs) = sym (append-nil xs)

appends_both : (a b c : Option (List ℕ)) (s t : List ℕ) → Appends a b s → Appends b c t → Appends a c (s ++ t)
appends_both None b c s t p q = tt
appends_both (Some x) None c s t p q = absurd p
appends_both (Some x) (Some y) None s t p q = absurd q
appends_both (Some x) (Some y) (Some z) s t p q = q ∙ ap (λ l. l ++ t) p ∙ append_assoc x s t

raised_le : (a b : ℕ) → a ≤ b → raised a ≤ raised b
raised_le a b h = omega arith

both : (b : Bool) → b ≡ false → b ≡ true → ⊥
both b e h = cc

-- ---- texts behind one another

pub printed_none : (d : Desk) → Prints d [] d
printed_none d = record {
  part = [];
  rest = d.pending.waiting;
  took = appends_none d.taken;
  split = append-nil d.pending.waiting;
  waits = λ _. refl;
  count = omega arith;
  risen = λ h. inl h;
  over = λ h. (h, refl);
}

then_by : (a b c : Desk) (s t : List ℕ) → Prints a s b → Prints b t c → (failed : Bool) → b.pending.failed ≡ failed → Prints a (s ++ t) c
then_by a b c s t p q false e = record {
  part = p.part ++ q.part;
  rest = q.rest;
  took = appends_both a.taken b.taken c.taken p.part q.part p.took q.took;
  split = sym (append_assoc a.pending.waiting s t) ∙ ap (λ x. x ++ t) p.split ∙ append_assoc p.part p.rest t
      ∙ ap (λ x. p.part ++ x) (ap (λ x. x ++ t) (p.waits e) ∙ q.split) ∙ sym (append_assoc p.part q.part q.rest);
  waits = q.waits;
  count = omega (arith, p.count, q.count);
  risen = λ h. elim (q.risen h) [ inl w ↦ absurd (both b.pending.failed e w) | inr r ↦ inr (omega (arith, r, raised_le a.faults b.faults p.count)) ];
  over = λ h. absurd (both b.pending.failed e (p.over h).0);
}
then_by a b c s t p q true e = record {
  part = p.part ++ q.part;
  rest = p.rest ++ t;
  took = appends_both a.taken b.taken c.taken p.part q.part p.took q.took;
  split = sym (append_assoc a.pending.waiting s t) ∙ ap (λ x. x ++ t) p.split ∙ append_assoc p.part p.rest t
      ∙ ap (λ x. x ++ (p.rest ++ t)) (sym (append-nil p.part) ∙ ap (λ x. p.part ++ x) (sym (q.over e).1));
  waits = λ h. absurd (both c.pending.failed h (q.over e).0);
  count = omega (arith, p.count, q.count);
  risen = λ h. elim (p.risen e) [ inl w ↦ inl w | inr r ↦ inr (omega (arith, r, q.count)) ];
  over = λ h. ((q.over e).0, ap (λ x. x ++ q.part) (p.over h).1 ∙ (q.over e).1);
}

-- one text and then another is both
pub printed_then : {a b c : Desk} {s t : List ℕ} → Prints a s b → Prints b t c → Prints a (s ++ t) c
printed_then {a} {b} {c} {s} {t} p q = then_by a b c s t p q b.pending.failed refl

pub printed_as : {a b : Desk} {s : List ℕ} (t : List ℕ) → s ≡ t → Prints a s b → Prints a t b
printed_as {a} {b} t e p = subst (λ (text : List ℕ). Prints a text b) e p

-- a signed number behind a call is the number
pub printed_signed : {a b : Desk} (f : ℤ → List ℕ) (z : ℤ) → FitsSigned w64 z → Prints a (f (to_z w64 (of_z w64 z))) b → Prints a (f z) b
printed_signed {a} {b} f z fits p = printed_as (f z) (ap f (to_z-of_z w64 z fits)) p

-- ---- lists that are printed item by item

-- a byte more
pub printed_byte : {a b c : Desk} (bytes : List ℕ) (i d : ℕ) → i < length bytes → Prints a (take i bytes) b → Prints b (get_or bytes i d ∷ []) c → Prints a (take (i + 1) bytes) c
printed_byte {a} {b} {c} bytes i d h p q = printed_as (take (i + 1) bytes) (sym (take_more bytes i d h)) (printed_then p q)

-- an item more
pub printed_item : {X : Type 0} {a b c : Desk} (f : X → List ℕ) (xs : List X) (i : ℕ) (d : X) → i < length xs → Prints a (flat_map f (take i xs)) b → Prints b (f (get_or xs i d)) c → Prints a (flat_map f (take (i + 1) xs)) c
printed_item {X} {a} {b} {c} f xs i d h p q =
    let x = get_or xs i d in
    let more : flat_map f (take (i + 1) xs) ≡ flat_map f (take i xs) ++ f x =
    ap (flat_map f) (take_more xs i d h) ∙ flat_map-append f (take i xs) (x ∷ []) ∙ ap (λ (t : List ℕ). flat_map f (take i xs) ++ t) (append-nil (f x)) in
    printed_as (flat_map f (take (i + 1) xs)) (sym more) (printed_then p q)

-- ---- the steps of a printer

-- a text is put behind what waits
pub printed_waiting : (taken : Option (List ℕ)) (faults : ℕ) (old new : Pending) (text : List ℕ) → old.failed ≡ new.failed → new.waiting ≡ old.waiting ++ text
    → Prints (desk taken faults old) text (desk taken faults new)
printed_waiting taken faults old new text same waits = record {
  part = [];
  rest = old.waiting ++ text;
  took = appends_none taken;
  split = refl;
  waits = λ _. sym waits;
  count = omega arith;
  risen = λ h. inl (same ∙ h);
  over = λ h. (sym same ∙ h, refl);
}

-- a write has failed before
pub printed_over : (d : Desk) (text : List ℕ) → d.pending.failed ≡ true → Prints d text d
printed_over d text failed = record {
  part = [];
  rest = d.pending.waiting ++ text;
  took = appends_none d.taken;
  split = refl;
  waits = λ h. absurd (both d.pending.failed h failed);
  count = omega arith;
  risen = λ h. inl h;
  over = λ h. (h, refl);
}

-- all that waits is written
pub printed_out : (old new : Desk) → old.pending.failed ≡ false → new.pending.failed ≡ false → new.pending.waiting ≡ [] → Appends old.taken new.taken old.pending.waiting → old.faults ≤ new.faults
    → Prints old [] new
printed_out old new before after empty took count = record {
  part = old.pending.waiting;
  rest = [];
  took = took;
  split = refl;
  waits = λ _. sym empty;
  count = count;
  risen = λ h. absurd (both new.pending.failed after h);
  over = λ h. absurd (both old.pending.failed before h);
}

-- the write of what waits fails
pub printed_cut : (old new : Desk) (n : ℕ) → old.pending.failed ≡ false → new.pending.failed ≡ true → Appends old.taken new.taken (take n old.pending.waiting) → old.faults ≤ new.faults → HasRisen old.faults new.faults
    → Prints old [] new
printed_cut old new n before after took count rises = record {
  part = take n old.pending.waiting;
  rest = drop n old.pending.waiting;
  took = took;
  split = append-nil old.pending.waiting ∙ sym (take-append-drop n old.pending.waiting);
  waits = λ h. absurd (both new.pending.failed h after);
  count = count;
  risen = λ _. inr rises;
  over = λ h. absurd (both old.pending.failed before h);
}
