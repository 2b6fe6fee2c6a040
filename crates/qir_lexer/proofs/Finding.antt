-- What the code of the lexer finds is what the definition's functions give.
use Rattle.std.proofs.Common.{◌≡◌, ◌⊎◌, inl, inr, ℕ, zero, suc, ◌+◌, ◌-◌, ◌<◌, ◌≤◌, ◌^◌, Bool, true, false, not, ◌&&◌, ◌||◌, ◌==◌, cond, List, [], ◌∷◌, ◌++◌, length, take, drop, filter, Option, Some, None, ℤ, pos, negsuc, neg_ℤ, refl, sym, ap, ◌∙◌, subst, arith, append-nil, eq-eqb, eqb-true}
use Rattle.std.specs.Prelude.{nat_lt, IsTrue, ◌-ℤ◌}
use Rattle.std.proofs.Math.ListN.{get_or}
use Rattle.std.proofs.Math.Seq.{drop-cons}
use Rattle.std.proofs.lemmas.List.{drop-drop}
use Rattle.qir_module.specs.Lexer.{or_else, closed, quoted_at, quoted_behind, quoted_step, name_behind, name_step, special_step}
use Rattle.qir_module.specs.Tokens.{Outside, begins_word, continues_word}
use Rattle.qir_lexer.proofs.Leads.{differs}
use Rattle.std.specs.List.{list_all}
use Rattle.std.specs.Char.{is_ascii_digit}
use Rattle.std.specs.Str.Parse.{digits_value}
use Rattle.std.proofs.Math.Seq.{take-add}
use mir.Syntax.{w64}
use mir.Val.{to_z, of_z, SFits}
use Rattle.std.proofs.lemmas.Int.{to_z-of_z, to_z_pos}
use Rattle.std.proofs.lemmas.Bool.{lt-ltb, ltb-true}
use Rattle.std.proofs.lemmas.List.{length-take-le, length-drop, take_all, drop-take}
use Rattle.std.proofs.lemmas.List.Elements.{filter-append}
use Rattle.grammar_parts.proofs.Sets.{both_true}
use Rattle.qir_module.specs.Tokens.{TokenKind, leads_with_zero, is_word, is_minus_zero, is_misnumbered, is_misformed}
use Rattle.qir_module.specs.Tokens as t
use Rattle.qir_module.specs.Lexer.{Step, Found, Fails, run, heads, found, number_behind, number_step, block_behind, block_step, numbered, value_of, plus, minus}
use Rattle.qir_lexer.specs.declared.piece.Numbered.{Numbered}
use Rattle.qir_lexer.specs.declared.piece.Numbered.TheVariants as n
use Rattle.qir_lexer.specs.Seen.{between}
use Rattle.qir_lexer.specs.Scan.{numbered_kind, signed, is_zero, is_number}
use Rattle.qir_lexer.proofs.Runs.{run_le, run_all}

-- ---- slices

-- the rest of a text as a slice has it
pub rest_is : (skip : ℕ) (text : List ℕ) → take (length text - skip) (drop skip text) ≡ drop skip text
rest_is skip text = take_all (length text - skip) (drop skip text) (omega (arith, length-drop skip text))

pub front_size : (D : List ℕ) (count : ℕ) → count ≡ run is_ascii_digit D → count ≡ length (take count D)
front_size D count e = sym (length-take-le count D (omega (arith, run_le is_ascii_digit D, e)))

pub front_digits : (D : List ℕ) (count : ℕ) → count ≡ run is_ascii_digit D → list_all is_ascii_digit (take count D) ≡ true
front_digits D count e = subst (λ m. list_all is_ascii_digit (take m D) ≡ true) (sym e) (run_all is_ascii_digit D)

-- what stands between the quotes of a spelling
pub between_is : (front n : ℕ) (text : List ℕ) → n + (front + 1) ≤ length text → between front (take (n + (front + 1)) text) ≡ take n (drop front text)
between_is front n text l =
    let size : length (take (n + (front + 1)) text) - (front + 1) ≡ n = omega (arith, length-take-le (n + (front + 1)) text l) in
    let order : n + (front + 1) ≡ front + (n + 1) = omega arith in
    let rest : drop front (take (n + (front + 1)) text) ≡ take (n + 1) (drop front text) = ap (λ m. drop front (take m text)) order ∙ drop-take front (n + 1) text in
    ap (λ m. take m (drop front (take (n + (front + 1)) text))) size ∙ ap (take n) rest ∙ take_twice n (drop front text)
  where
    take_twice : (m : ℕ) (xs : List ℕ) → take m (take (m + 1) xs) ≡ take m xs
    take_twice zero xs = refl
    take_twice (suc m) [] = let s : suc m + 1 ≡ suc (m + 1) = omega arith in ap (λ k. take (suc m) (take k [])) s
    take_twice (suc m) (x ∷ xs) = let s : suc m + 1 ≡ suc (m + 1) = omega arith in ap (λ k. take (suc m) (take k (x ∷ xs))) s ∙ ap (λ l. x ∷ l) (take_twice m xs)

-- ---- digits

filter_all : (ds : List ℕ) → list_all is_ascii_digit ds ≡ true → filter is_ascii_digit ds ≡ ds
filter_all [] a = refl
filter_all (d ∷ ds) a =
    let b = both_true (is_ascii_digit d) (list_all is_ascii_digit ds) a in
    ap (λ x. cond x (d ∷ filter is_ascii_digit ds) (filter is_ascii_digit ds)) b.0 ∙ ap (λ l. d ∷ l) (filter_all ds b.1)

-- the digits of a spelling that has no others in front
pub digits_kept : (skip count : ℕ) (text D : List ℕ) → D ≡ drop skip text → filter is_ascii_digit (take skip text) ≡ [] → list_all is_ascii_digit (take count D) ≡ true → filter is_ascii_digit (take (skip + count) text) ≡ take count D
digits_kept skip count text D e none all =
    ap (filter is_ascii_digit) (take-add skip count text) ∙ filter-append is_ascii_digit (take skip text) (take count (drop skip text))
    ∙ ap (λ l. l ++ filter is_ascii_digit (take count (drop skip text))) none
    ∙ ap (λ l. filter is_ascii_digit (take count l)) (sym e) ∙ filter_all (take count D) all

-- ---- steps

pub step_number : (make : List ℕ → TokenKind) (skip count : ℕ) (text D : List ℕ) → D ≡ drop skip text → count ≡ run is_ascii_digit D → (count ≡ 0 → ⊥) → number_step make skip text ≡ Some (found (make (take count D)) (take (skip + count) text))
step_number make skip zero text D e r some = absurd (some refl)
step_number make skip (suc m) text D e r some =
    ap (number_behind make skip text) (ap (run is_ascii_digit) (sym e) ∙ sym r) ∙ ap (λ l. Some (found (make (take (suc m) l)) (take (skip + suc m) text))) (sym e)

pub found_bad : (kind : TokenKind) (spelling : List ℕ) → is_misformed spelling kind ≡ true → found kind spelling ≡ Fails 4
found_bad kind spelling e = ap (λ b. cond b (Fails 4) (Found kind (length spelling))) e

pub found_good : (kind : TokenKind) (size : ℕ) (text : List ℕ) → size ≤ length text → is_misformed (take size text) kind ≡ false → found kind (take size text) ≡ Found kind size
found_good kind size text l e = ap (λ b. cond b (Fails 4) (Found kind (length (take size text)))) e ∙ ap (Found kind) (length-take-le size text l)

sort_misformed : (sort : Numbered) (cs : List ℕ) (v : ℕ) → is_misformed cs (numbered_kind sort v) ≡ is_misnumbered cs v
sort_misformed n.Register cs v = refl
sort_misformed n.Target cs v = refl
sort_misformed n.Block cs v = refl
sort_misformed n.Constant cs v = refl
sort_misformed n.Group cs v = refl
sort_misformed n.Flag cs v = refl

small_bad : (ds : List ℕ) (v : ℕ) → ((leads_with_zero ds ≡ false) × (v < 2 ^ 32) → ⊥) → (leads_with_zero ds || not (nat_lt v (2 ^ 32))) ≡ true
small_bad ds v h = at (leads_with_zero ds) refl (nat_lt v (2 ^ 32)) refl
  where
    at : (a : Bool) → leads_with_zero ds ≡ a → (b : Bool) → nat_lt v (2 ^ 32) ≡ b → (a || not b) ≡ true
    at true e b f = refl
    at false e false f = refl
    at false e true f = absurd (h (e, ltb-true v (2 ^ 32) f))

small_good : (ds : List ℕ) (v : ℕ) → leads_with_zero ds ≡ false → v < 2 ^ 32 → (leads_with_zero ds || not (nat_lt v (2 ^ 32))) ≡ false
small_good ds v e l = ap (λ a. a || not (nat_lt v (2 ^ 32))) e ∙ ap not (lt-ltb v (2 ^ 32) l)

-- a token with a number behind so many characters
module _ (sort : Numbered) (skip count : ℕ) (text D : List ℕ) (e : D ≡ drop skip text) (none : filter is_ascii_digit (take skip text) ≡ []) (r : count ≡ run is_ascii_digit D) (some : count ≡ 0 → ⊥) where
  kept : filter is_ascii_digit (take (skip + count) text) ≡ take count D
  kept = digits_kept skip count text D e none (front_digits D count r)

  pub numbered_room : skip ≤ length text → skip + count ≤ length text
  numbered_room l = omega (arith, run_le is_ascii_digit D, r, ap length e, length-drop skip text, l)

  pub numbered_bad : ((leads_with_zero (take count D) ≡ false) × (digits_value 10 (take count D) < 2 ^ 32) → ⊥) → Some (Fails 4) ≡ number_step (numbered (numbered_kind sort)) skip text
  numbered_bad h =
      let v : ℕ = digits_value 10 (take count D) in
      sym (step_number (numbered (numbered_kind sort)) skip count text D e r some
      ∙ ap (λ s. Some s) (found_bad (numbered_kind sort v) (take (skip + count) text) (sort_misformed sort (take (skip + count) text) v ∙ ap (λ l. leads_with_zero l || not (nat_lt v (2 ^ 32))) kept ∙ small_bad (take count D) v h)))

  pub numbered_good : skip ≤ length text → (v : ℕ) (kind : TokenKind) → kind ≡ numbered_kind sort v → ((leads_with_zero (take count D) ≡ false) × (digits_value 10 (take count D) < 2 ^ 32)) × (v ≡ digits_value 10 (take count D)) → Some (Found kind (skip + count)) ≡ number_step (numbered (numbered_kind sort)) skip text
  numbered_good l v kind k h =
      let w : ℕ = digits_value 10 (take count D) in
      ap (λ x. Some (Found x (skip + count))) (k ∙ ap (numbered_kind sort) h.1)
      ∙ sym (step_number (numbered (numbered_kind sort)) skip count text D e r some
      ∙ ap (λ s. Some s) (found_good (numbered_kind sort w) (skip + count) text (numbered_room l) (sort_misformed sort (take (skip + count) text) w ∙ ap (λ x. leads_with_zero x || not (nat_lt w (2 ^ 32))) kept ∙ small_good (take count D) w h.0.0 h.0.1)))

-- ---- a block's name

pub heads_at : (k : ℕ) (xs : List ℕ) (i : ℕ) → i < length xs → get_or xs i 0 ≡ k → heads (λ c. c == k) (drop i xs) ≡ true
heads_at k xs i l e = ap (heads (λ c. c == k)) (drop-cons xs i 0 l) ∙ eq-eqb (get_or xs i 0) k e

pub heads_no : (k : ℕ) (xs : List ℕ) (i : ℕ) → (i < length xs → get_or xs i 0 ≡ k → ⊥) → heads (λ c. c == k) (drop i xs) ≡ false
heads_no k xs i h = at (heads (λ c. c == k) (drop i xs)) refl
  where
    inside : (ys : List ℕ) → drop i xs ≡ ys → heads (λ c. c == k) ys ≡ true → ⊥
    inside [] e g = cc
    inside (y ∷ ys) e g =
        let l : i < length xs = omega (arith, ap length e, length-drop i xs) in
        h l (let same : get_or xs i 0 ∷ drop (suc i) xs ≡ y ∷ ys = sym (drop-cons xs i 0 l) ∙ e in let first : get_or xs i 0 ≡ y = cc in first ∙ eqb-true y k g)

    at : (b : Bool) → heads (λ c. c == k) (drop i xs) ≡ b → heads (λ c. c == k) (drop i xs) ≡ false
    at false e = e
    at true e = absurd (inside (drop i xs) refl e)

module _ (text D : List ℕ) (count : ℕ) (e : D ≡ drop 1 text) (r : count ≡ run is_ascii_digit D) where
  run_same : run is_ascii_digit (drop 1 text) ≡ count
  run_same = ap (run is_ascii_digit) (sym e) ∙ sym r

  ends_same : heads (λ c. c == 58) (drop (1 + run is_ascii_digit (drop 1 text)) text) ≡ heads (λ c. c == 58) (drop count D)
  ends_same = ap (λ m. heads (λ c. c == 58) (drop (1 + m) text)) run_same ∙ ap (heads (λ c. c == 58)) (sym (drop-drop count 1 text) ∙ ap (drop count) (sym e))

  pub block_none : (count ≡ 0) ⊎ (heads (λ c. c == 58) (drop count D) ≡ false) → None ≡ block_step text
  block_none (inl z) = sym (ap (λ m. block_behind text m (heads (λ c. c == 58) (drop (1 + run is_ascii_digit (drop 1 text)) text))) (run_same ∙ z))
  block_none (inr f) = sym (ap (λ m. block_behind text m (heads (λ c. c == 58) (drop (1 + run is_ascii_digit (drop 1 text)) text))) run_same ∙ ap (block_behind text count) (ends_same ∙ f) ∙ no_end count)
    where
      no_end : (m : ℕ) → block_behind text m false ≡ None
      no_end zero = refl
      no_end (suc m) = refl

  module _ (some : count ≡ 0 → ⊥) (ends : heads (λ c. c == 58) (drop count D) ≡ true) (b : heads (λ c. c == 98) text ≡ true) where
    block_is : block_step text ≡ Some (found (t.Block (value_of (take count D))) (take (count + 2) text))
    block_is = ap (λ m. block_behind text m (heads (λ c. c == 58) (drop (1 + run is_ascii_digit (drop 1 text)) text))) run_same ∙ ap (block_behind text count) (ends_same ∙ ends) ∙ with_end count some
      where
        with_end : (m : ℕ) → (m ≡ 0 → ⊥) → block_behind text m true ≡ Some (found (t.Block (value_of (take m D))) (take (m + 2) text))
        with_end zero no_zero = absurd (no_zero refl)
        with_end (suc m) no_zero = ap (λ l. Some (found (t.Block (value_of (take (suc m) l))) (take (suc m + 2) text))) (sym e)

    front_none : filter is_ascii_digit (take 1 text) ≡ []
    front_none = of text b
      where
        of : (xs : List ℕ) → heads (λ c. c == 98) xs ≡ true → filter is_ascii_digit (take 1 xs) ≡ []
        of [] h = refl
        of (x ∷ xs) h = ap (λ c. filter is_ascii_digit (c ∷ [])) (eqb-true x 98 h)

    last_none : filter is_ascii_digit (take 1 (drop (1 + count) text)) ≡ []
    last_none = ap (λ l. filter is_ascii_digit (take 1 l)) (sym (drop-drop count 1 text) ∙ ap (drop count) (sym e)) ∙ of (drop count D) ends
      where
        of : (xs : List ℕ) → heads (λ c. c == 58) xs ≡ true → filter is_ascii_digit (take 1 xs) ≡ []
        of [] h = refl
        of (x ∷ xs) h = ap (λ c. filter is_ascii_digit (c ∷ [])) (eqb-true x 58 h)

    block_kept : filter is_ascii_digit (take (count + 2) text) ≡ take count D
    block_kept =
        let order : count + 2 ≡ (1 + count) + 1 = omega arith in
        ap (λ m. filter is_ascii_digit (take m text)) order ∙ ap (filter is_ascii_digit) (take-add (1 + count) 1 text) ∙ filter-append is_ascii_digit (take (1 + count) text) (take 1 (drop (1 + count) text))
        ∙ ap (λ l. filter is_ascii_digit (take (1 + count) text) ++ l) last_none ∙ append-nil (filter is_ascii_digit (take (1 + count) text))
        ∙ digits_kept 1 count text D e front_none (front_digits D count r)

    block_room : count + 2 ≤ length text
    block_room = of (drop count D) refl ends
      where
        of : (xs : List ℕ) → drop count D ≡ xs → heads (λ c. c == 58) xs ≡ true → count + 2 ≤ length text
        of [] h g = absurd (cc)
        of (x ∷ xs) h g = omega (arith, ap length h, length-drop count D, ap length e, length-drop 1 text)

    pub block_bad : ((leads_with_zero (take count D) ≡ false) × (digits_value 10 (take count D) < 2 ^ 32) → ⊥) → Some (Fails 4) ≡ block_step text
    block_bad h =
        let v : ℕ = digits_value 10 (take count D) in
        sym (block_is ∙ ap (λ s. Some s) (found_bad (t.Block v) (take (count + 2) text) (ap (λ l. leads_with_zero l || not (nat_lt v (2 ^ 32))) block_kept ∙ small_bad (take count D) v h)))

    pub block_good : (v : ℕ) → ((leads_with_zero (take count D) ≡ false) × (digits_value 10 (take count D) < 2 ^ 32)) × (v ≡ digits_value 10 (take count D)) → Some (Found (t.Block v) (count + 2)) ≡ block_step text
    block_good v h =
        let w : ℕ = digits_value 10 (take count D) in
        ap (λ x. Some (Found (t.Block x) (count + 2))) h.1
        ∙ sym (block_is ∙ ap (λ s. Some s) (found_good (t.Block w) (count + 2) text block_room (ap (λ l. leads_with_zero l || not (nat_lt w (2 ^ 32))) block_kept ∙ small_good (take count D) w h.0.0 h.0.1)))

-- ---- numbers by themselves

abbrev pub make_number : Bool → List ℕ → TokenKind
make_number negative = cond negative minus plus

abbrev pub front_of : Bool → ℕ
front_of negative = cond negative 1 0

number_kind : (negative : Bool) (ds : List ℕ) → make_number negative ds ≡ t.Number (signed negative (digits_value 10 ds))
number_kind true ds = refl
number_kind false ds = refl

-- a minus in front of a zero
minus_zero : (negative : Bool) (cs : List ℕ) (v : ℕ) → (negative ≡ true → heads (λ c. c == 45) cs ≡ true) → (negative ≡ false → heads (λ c. c == 45) cs ≡ false) → is_minus_zero cs (signed negative v) ≡ (negative && is_zero v)
minus_zero true (c ∷ cs) zero h g = h refl
minus_zero true [] zero h g = absurd (cc (h refl))
minus_zero true cs (suc v) h g = none cs
  where
    none : (l : List ℕ) → is_minus_zero l (negsuc v) ≡ false
    none [] = refl
    none (x ∷ l) = refl
minus_zero false (c ∷ cs) zero h g = g refl
minus_zero false [] zero h g = refl
minus_zero false cs (suc v) h g = none cs
  where
    none : (l : List ℕ) → is_minus_zero l (pos (suc v)) ≡ false
    none [] = refl
    none (x ∷ l) = refl

module _ (negative : Bool) (count : ℕ) (text D : List ℕ) (e : D ≡ drop (front_of negative) text) (minus_there : negative ≡ true → heads (λ c. c == 45) text ≡ true) (r : count ≡ run is_ascii_digit D) (some : count ≡ 0 → ⊥) where
  abbrev spelling : List ℕ
  spelling = take (front_of negative + count) text

  number_front : filter is_ascii_digit (take (front_of negative) text) ≡ []
  number_front = of negative minus_there
    where
      sign : (xs : List ℕ) → heads (λ c. c == 45) xs ≡ true → filter is_ascii_digit (take 1 xs) ≡ []
      sign [] h = refl
      sign (x ∷ xs) h = ap (λ c. filter is_ascii_digit (c ∷ [])) (eqb-true x 45 h)

      of : (b : Bool) → (b ≡ true → heads (λ c. c == 45) text ≡ true) → filter is_ascii_digit (take (front_of b) text) ≡ []
      of true h = sign text (h refl)
      of false h = refl

  number_kept : filter is_ascii_digit spelling ≡ take count D
  number_kept = digits_kept (front_of negative) count text D e number_front (front_digits D count r)

  -- the first character of the spelling
  sign_there : negative ≡ true → heads (λ c. c == 45) spelling ≡ true
  sign_there b = of text (minus_there b) b
    where
      of : (xs : List ℕ) → heads (λ c. c == 45) xs ≡ true → negative ≡ true → heads (λ c. c == 45) (take (front_of negative + count) xs) ≡ true
      of [] h g = absurd (cc)
      of (x ∷ xs) h g = let m : front_of negative + count ≡ suc count = ap (λ b. front_of b + count) g ∙ omega arith in ap (λ k. heads (λ c. c == 45) (take k (x ∷ xs))) m ∙ h

  digit_first : negative ≡ false → heads (λ c. c == 45) spelling ≡ false
  digit_first b = of (take count D) (front_digits D count r) (ap (λ s. take (front_of s + count) text) b ∙ ap (λ k. take k text) zero_front ∙ ap (take count) (sym (ap (λ s. drop (front_of s) text) b) ∙ sym e))
    where
      zero_front : 0 + count ≡ count
      zero_front = omega arith

      of : (ds : List ℕ) → list_all is_ascii_digit ds ≡ true → spelling ≡ ds → heads (λ c. c == 45) spelling ≡ false
      of [] a h = ap (heads (λ c. c == 45)) h
      of (d ∷ ds) a h = ap (heads (λ c. c == 45)) h ∙ differs is_ascii_digit d 45 (both_true (is_ascii_digit d) (list_all is_ascii_digit ds) a).0 refl

  number_formed : is_misformed spelling (make_number negative (take count D)) ≡ not (is_number negative (take count D))
  number_formed =
      let v : ℕ = digits_value 10 (take count D) in
      ap (is_misformed spelling) (number_kind negative (take count D))
      ∙ ap (λ l. leads_with_zero l || is_minus_zero spelling (signed negative v) || not (is_word (signed negative v))) number_kept
      ∙ ap (λ b. leads_with_zero (take count D) || b || not (is_word (signed negative v))) (minus_zero negative spelling v sign_there digit_first)
      ∙ sym (twice (leads_with_zero (take count D) || (negative && is_zero v) || not (is_word (signed negative v))))
    where
      twice : (b : Bool) → not (not b) ≡ b
      twice true = refl
      twice false = refl

  number_is : number_step (make_number negative) (front_of negative) text ≡ Some (found (make_number negative (take count D)) spelling)
  number_is = step_number (make_number negative) (front_of negative) count text D e r some

  pub number_bad : ¬ (IsTrue (is_number negative (take count D))) → Fails 4 ≡ or_else (number_step (make_number negative) (front_of negative) text) (Fails 2)
  number_bad h = sym (ap (λ s. or_else s (Fails 2)) number_is ∙ found_bad (make_number negative (take count D)) spelling (number_formed ∙ ap not (is_false (is_number negative (take count D)) h)))
    where
      is_false : (b : Bool) → ¬ (IsTrue b) → b ≡ false
      is_false true h = absurd (h refl)
      is_false false h = refl

  pub number_good : (text ≡ [] → ⊥) → (z : ℤ) → IsTrue (is_number negative (take count D)) × (z ≡ signed negative (digits_value 10 (take count D))) → Found (t.Number z) (front_of negative + count) ≡ or_else (number_step (make_number negative) (front_of negative) text) (Fails 2)
  number_good there z h =
      ap (λ k. Found k (front_of negative + count)) (ap (λ x. t.Number x) h.1 ∙ sym (number_kind negative (take count D)))
      ∙ sym (ap (λ s. or_else s (Fails 2)) number_is ∙ found_good (make_number negative (take count D)) (front_of negative + count) text room (number_formed ∙ ap not h.0))
    where
      inside : (b : Bool) → front_of b ≤ length text
      inside false = omega arith
      inside true = of text there
        where
          of : (xs : List ℕ) → (xs ≡ [] → ⊥) → 1 ≤ length xs
          of [] h = absurd (h refl)
          of (x ∷ xs) h = omega arith

      room : front_of negative + count ≤ length text
      room = omega (arith, run_le is_ascii_digit D, r, ap length e, length-drop (front_of negative) text, inside negative)

-- ---- whole numbers with a sign

pub minus_one : (m : ℕ) → negsuc 0 -ℤ pos m ≡ negsuc m
minus_one zero = refl
minus_one (suc m) = ap negsuc (omega arith)

-- ---- names and quoted texts

abbrev pub quoted_there : List ℕ → Option ℕ
quoted_there D = cond (heads (λ c. c == 34) D) (closed Outside (drop 1 D)) None

pub quoted_is : (make : List ℕ → TokenKind) (skip : ℕ) (text D : List ℕ) (size : ℕ) → D ≡ drop skip text → Some size ≡ quoted_there D → quoted_step make skip text ≡ Some (Found (make (take size (drop (skip + 1) text))) (skip + size + 2))
quoted_is make skip text D size e h = at (heads (λ c. c == 34) D) refl h
  where
    at : (b : Bool) → heads (λ c. c == 34) D ≡ b → Some size ≡ cond b (closed Outside (drop 1 D)) None → quoted_step make skip text ≡ Some (Found (make (take size (drop (skip + 1) text))) (skip + size + 2))
    at false f g = absurd (cc)
    at true f g =
        let here : heads (λ c. c == 34) (drop skip text) ≡ true = ap (heads (λ c. c == 34)) (sym e) ∙ f in
        let inner : closed Outside (drop (skip + 1) text) ≡ Some size = ap (closed Outside) (sym (drop-drop 1 skip text) ∙ ap (drop 1) (sym e)) ∙ sym g in
        ap (quoted_at make skip text) here ∙ ap (quoted_behind make skip text) inner

pub text_found : (text : List ℕ) (size : ℕ) → Some size ≡ quoted_there text → size + 2 ≤ length text → Found (t.Text (between 1 (take (size + 2) text))) (size + 2) ≡ or_else (quoted_step t.Text 0 text) (Fails 3)
text_found text size h l =
    let order : 0 + size + 2 ≡ size + 2 = omega arith in
    ap (λ b. Found (t.Text b) (size + 2)) (between_is 1 size text l) ∙ ap (Found (t.Text (take size (drop 1 text)))) (sym order) ∙ ap (λ s. or_else s (Fails 3)) (sym (quoted_is t.Text 0 text text size refl h))

-- a quoted text behind one character
pub behind_found : (make : List ℕ → TokenKind) (text D : List ℕ) (size : ℕ) (other : Step) → D ≡ drop 1 text → Some size ≡ quoted_there D → size + 3 ≤ length text → Found (make (between 2 (take (size + 3) text))) (size + 3) ≡ or_else (quoted_step make 1 text) other
behind_found make text D size other e h l =
    let order : 1 + size + 2 ≡ size + 3 = omega arith in
    ap (λ b. Found (make b) (size + 3)) (between_is 2 size text l) ∙ ap (Found (make (take size (drop 2 text)))) (sym order) ∙ ap (λ s. or_else s other) (sym (quoted_is make 1 text D size e h))

pub bytes_found : (text D : List ℕ) (first size : ℕ) (other : Step) → (first ≡ 98 → ⊥) → first ≡ 99 → D ≡ drop 1 text → Some size ≡ quoted_there D → size + 3 ≤ length text → Found (t.Bytes (between 2 (take (size + 3) text))) (size + 3) ≡ or_else (special_step (first == 98) (first == 99) text) other
bytes_found text D first size other no_b is_c e h l = behind_found t.Bytes text D size other e h l ∙ ap (λ c. or_else (special_step (c == 98) (c == 99) text) other) (sym is_c)

-- a name is not there
name_none : (make : List ℕ → TokenKind) (skip : ℕ) (text D : List ℕ) → D ≡ drop skip text → None ≡ cond (heads begins_word D) (Some (run continues_word D)) None → name_step make skip text ≡ None
name_none make skip text D e h = at (heads begins_word D) refl h
  where
    at : (b : Bool) → heads begins_word D ≡ b → None ≡ cond b (Some (run continues_word D)) None → name_step make skip text ≡ None
    at true f g = absurd (cc)
    at false f g = ap (name_behind make skip text) (ap (heads begins_word) (sym e) ∙ f)

pub flag_text_found : (text D : List ℕ) (size : ℕ) → D ≡ drop 1 text → None ≡ number_step (numbered t.Flag) 1 text → None ≡ cond (heads begins_word D) (Some (run continues_word D)) None → Some size ≡ quoted_there D → size + 3 ≤ length text → Found (t.FlagText (between 2 (take (size + 3) text))) (size + 3) ≡ or_else (number_step (numbered t.Flag) 1 text) (or_else (name_step t.FlagName 1 text) (or_else (quoted_step t.FlagText 1 text) (Found (t.Mark 33) 1)))
flag_text_found text D size e no_number no_name h l =
    let last : Step = or_else (quoted_step t.FlagText 1 text) (Found (t.Mark 33) 1) in
    behind_found t.FlagText text D size (Found (t.Mark 33) 1) e h l ∙ ap (λ s. or_else s last) (sym (name_none t.FlagName 1 text D e no_name)) ∙ ap (λ s. or_else s (or_else (name_step t.FlagName 1 text) last)) no_number

word_minus_at : (m : ℕ) → m < 2 ^ 63 → to_z w64 (of_z w64 (negsuc 0 -ℤ to_z w64 (suc m - 1))) ≡ negsuc m
word_minus_at m l =
    let one : suc m - 1 ≡ m = omega arith in
    let high : to_z w64 m ≡ pos m = to_z_pos w64 m l in
    let fits : SFits w64 (negsuc m) = record { sfits = l } in
    ap (λ k. to_z w64 (of_z w64 (negsuc 0 -ℤ to_z w64 k))) one ∙ ap (λ z. to_z w64 (of_z w64 (negsuc 0 -ℤ z))) high ∙ ap (λ z. to_z w64 (of_z w64 z)) (minus_one m) ∙ to_z-of_z w64 (negsuc m) fits

pub word_minus : (negative : Bool) (ds : List ℕ) (v : ℕ) → negative ≡ true → leads_with_zero ds ≡ false → v ≡ digits_value 10 ds → (v ≡ 0 → ⊥) → v ≤ 2 ^ 63 → IsTrue (is_number negative ds) × (to_z w64 (of_z w64 (negsuc 0 -ℤ to_z w64 (v - 1))) ≡ signed negative (digits_value 10 ds))
word_minus negative ds zero n z e some l = absurd (some refl)
word_minus negative ds (suc m) n z e some l =
    let small : m < 2 ^ 63 = omega (arith, l) in (
      ap (λ b. is_number b ds) n ∙ ap (λ b. not (b || is_zero (digits_value 10 ds) || not (is_word (neg_ℤ (pos (digits_value 10 ds)))))) z ∙ ap (λ w. not (is_zero w || not (is_word (neg_ℤ (pos w))))) (sym e) ∙ ap (λ b. not (not b)) (lt-ltb m (2 ^ 63) small),
      word_minus_at m small ∙ ap (λ w. neg_ℤ (pos w)) e ∙ ap (λ b. signed b (digits_value 10 ds)) (sym n),
    )

-- the value of 64 bits that hold a number is that number
pub same_word : (negative : Bool) (ds : List ℕ) (z : ℤ) → IsTrue (is_number negative ds) × (z ≡ signed negative (digits_value 10 ds)) → to_z w64 (of_z w64 z) ≡ z
same_word negative ds z h = to_z-of_z w64 z (subst (λ y. SFits w64 y) (sym h.1) (fits (signed negative (digits_value 10 ds)) (inner (leads_with_zero ds || (negative && is_zero (digits_value 10 ds))) (is_word (signed negative (digits_value 10 ds))) h.0)))
  where
    inner : (a b : Bool) → not (a || not b) ≡ true → b ≡ true
    inner false true e = refl
    inner false false e = absurd (cc)
    inner true b e = absurd (cc)

    fits : (y : ℤ) → is_word y ≡ true → SFits w64 y
    fits (pos n) e = record { sfits = ltb-true n (2 ^ 63) e }
    fits (negsuc n) e = record { sfits = ltb-true n (2 ^ 63) e }
