-- Quoted texts and names of functions as tokens; a label's bytes, escaped and read back.
use Rattle.std.proofs.Common.{◌≡◌, ℕ, suc, ◌+◌, ◌*◌, ◌/◌, ◌%◌, ◌<◌, ◌^◌, ◌==◌, ◌&&◌, ◌||◌, Bool, true, false, List, [], ◌∷◌, ◌++◌, length, take, drop, Option, Some, None, sym, refl, ap, ◌∙◌, subst, arith, if◌then◌else◌}
use Rattle.std.specs.List.{list_all, flat_map, AllByRecursion}
use Rattle.std.specs.Char.{is_ascii_digit, digit_value}
use Rattle.std.specs.Fmt.{decimal}
use Rattle.std.proofs.lemmas.Bool.{and_parts}
use Rattle.std.proofs.lemmas.Bool.Decides.{nat_tests}
use Rattle.std.proofs.lemmas.List.{append_assoc, take_at, length-append}
use Rattle.qir_module.specs.Text.{is_plain, hex_digit, escaped}
use Rattle.qir_module.specs.Tokens.{TokenKind, begins_word, continues_word, Escape, Outside, Opened, HalfRead, bytes_at, may_stand, is_outside, is_hex, bytes_from, bytes_meant, leads_with_zero}
use Rattle.qir_module.specs.Tokens as t
use Rattle.qir_module.specs.Lexer.{Found, Fails, run, heads, closed, one_more, or_else, number_behind, number_step, numbered, name_behind, name_step, quoted_behind, quoted_at}
use Rattle.qir_text_tokens.proofs.Passages.{Tokenizes, one_token}
use Rattle.qir_text_tokens.proofs.Numerals.{AreDigits, IsDecimal, decimal_is, run_all}

-- ---- quoted texts

-- these characters go on a quoted text up to its closing quote
pub record IsClosed (body : List ℕ) : Type 0 where
  pub closes : (rest : List ℕ) → closed Outside (body ++ 34 ∷ rest) ≡ Some (length body)

closed_at : (state next : Escape) (c : ℕ) (cs : List ℕ) (n : ℕ) → (is_outside state && (c == 34)) ≡ false → may_stand state c ≡ true → t.behind state c ≡ next → closed next cs ≡ Some n → closed state (c ∷ cs) ≡ Some (suc n)
closed_at state next c cs n e f g h =
    ap (λ b. elim b as (λ b. Option ℕ) [ true ↦ Some 0 | false ↦ elim (may_stand state c) as (λ b. Option ℕ) [ true ↦ one_more (closed (t.behind state c) cs) | false ↦ None ] ]) e
    ∙ ap (λ b. elim b as (λ b. Option ℕ) [ true ↦ one_more (closed (t.behind state c) cs) | false ↦ None ]) f
    ∙ ap (λ s. one_more (closed s cs)) g ∙ ap one_more h

no_quote : (c : ℕ) → is_plain c ≡ true → (c == 34) ≡ false
no_quote c e = grind (arith, nat_tests)

no_escape : (c : ℕ) → is_plain c ≡ true → (c == 92) ≡ false
no_escape c e = grind (arith, nat_tests)

plain_closed : (c : ℕ) (cs : List ℕ) (n : ℕ) → is_plain c ≡ true → closed Outside cs ≡ Some n → closed Outside (c ∷ cs) ≡ Some (suc n)
plain_closed c cs n e h =
    closed_at Outside Outside c cs n (no_quote c e) (ap (λ b. b || (c == 92)) e) (ap (λ b. if b then Opened else Outside) (no_escape c e)) h

digit_plain : (c : ℕ) → is_ascii_digit c ≡ true → is_plain c ≡ true
digit_plain c e = grind (arith, nat_tests)

pub digits_closed : (ds : List ℕ) → AreDigits ds → IsClosed ds
digits_closed ds e = record { closes = λ rest. at ds rest e }
  where
    at : (ds rest : List ℕ) → AreDigits ds → closed Outside (ds ++ 34 ∷ rest) ≡ Some (length ds)
    at [] rest e = refl
    at (d ∷ ds) rest e =
        let parts = and_parts (is_ascii_digit d) (list_all is_ascii_digit ds) e in
        plain_closed d (ds ++ 34 ∷ rest) (length ds) (digit_plain d parts.0) (at ds rest parts.1)

pub decimal_closed : (n : ℕ) → n < 2 ^ 64 → IsClosed (decimal n)
decimal_closed n small =
    let d = decimal_is n small in
    let is : IsDecimal n d.0 d.1 = d.2 in
    subst IsClosed (sym is.is) (digits_closed (d.0 ∷ d.1) is.digits)

quoted_found : (make : List ℕ → TokenKind) (skip : ℕ) (text body behind : List ℕ) → drop (skip + 1) text ≡ body ++ 34 ∷ behind → IsClosed body → quoted_at make skip text true ≡ Some (Found (make body) (skip + length body + 2))
quoted_found make skip text body behind e h =
    ap (quoted_behind make skip text) (ap (closed Outside) e ∙ h.closes behind)
    ∙ ap (λ (x : List ℕ). Some (Found (make x) (skip + length body + 2))) (ap (take (length body)) e ∙ take_at body (34 ∷ behind) (length body) refl)

pub text_read : (body behind : List ℕ) → IsClosed body → Tokenizes (34 ∷ (body ++ 34 ∷ behind)) (t.Text body ∷ []) behind
text_read body behind h =
    let text : List ℕ = 34 ∷ (body ++ 34 ∷ behind) in
    one_token 34 (body ++ 34 ∷ []) (body ++ 34 ∷ behind) behind (t.Text body) (0 + length body + 2) (sym (append_assoc body (34 ∷ []) behind))
    (ap (λ o. or_else o (Fails 3)) (quoted_found t.Text 0 text body behind refl h)) (omega (arith, length-append body (34 ∷ [])))

-- ---- the bytes of a label

hex_may_stand : (d : ℕ) → d < 16 → is_hex (hex_digit d) ≡ true
hex_may_stand d h = grind (arith, nat_tests)

hex_value : (d : ℕ) → d < 16 → digit_value (hex_digit d) ≡ d
hex_value d h = grind (arith, nat_tests)

abbrev escape_of : Bool → ℕ → List ℕ
escape_of b byte = if b then byte ∷ [] else 92 ∷ hex_digit (byte / 16) ∷ hex_digit (byte % 16) ∷ []

closed_more : (b : Bool) (byte : ℕ) (more rest : List ℕ) → byte < 2 ^ 8 → is_plain byte ≡ b → closed Outside (more ++ 34 ∷ rest) ≡ Some (length more) → closed Outside (escape_of b byte ++ more ++ 34 ∷ rest) ≡ Some (length (escape_of b byte ++ more))
closed_more true byte more rest small e h = plain_closed byte (more ++ 34 ∷ rest) (length more) e h
closed_more false byte more rest small e h =
    let high : ℕ = hex_digit (byte / 16) in
    let low : ℕ = hex_digit (byte % 16) in
    closed_at Outside Opened 92 (high ∷ low ∷ more ++ 34 ∷ rest) (suc (suc (length more))) refl refl refl
    (closed_at Opened (HalfRead (digit_value high)) high (low ∷ more ++ 34 ∷ rest) (suc (length more)) refl (hex_may_stand (byte / 16) (omega arith)) refl
    (closed_at (HalfRead (digit_value high)) Outside low (more ++ 34 ∷ rest) (length more) refl (hex_may_stand (byte % 16) (omega arith)) refl h))

pub escaped_closed : (label : List ℕ) → AllByRecursion (λ byte. byte < 2 ^ 8) label → IsClosed (flat_map escaped label)
escaped_closed label h = record { closes = λ rest. at label rest h }
  where
    at : (label rest : List ℕ) → AllByRecursion (λ byte. byte < 2 ^ 8) label → closed Outside (flat_map escaped label ++ 34 ∷ rest) ≡ Some (length (flat_map escaped label))
    at [] rest h = refl
    at (byte ∷ label) rest h = closed_more (is_plain byte) byte (flat_map escaped label) rest h.0 refl (at label rest h.1)

meant_more : (b : Bool) (byte : ℕ) (more : List ℕ) → byte < 2 ^ 8 → is_plain byte ≡ b → bytes_from Outside (escape_of b byte ++ more) ≡ byte ∷ bytes_from Outside more
meant_more true byte more small e = ap (λ b. (if b then [] else byte ∷ []) ++ bytes_from (if b then Opened else Outside) more) (no_escape byte e)
meant_more false byte more small e =
    let high = hex_value (byte / 16) (omega arith) in
    let low = hex_value (byte % 16) (omega arith) in
    let same : digit_value (hex_digit (byte / 16)) * 16 + digit_value (hex_digit (byte % 16)) ≡ byte = omega (arith, high, low) in
    ap (λ (x : ℕ). x ∷ bytes_from Outside more) same

-- what stands in the quotes means the bytes
pub escaped_meant : (label : List ℕ) → AllByRecursion (λ byte. byte < 2 ^ 8) label → bytes_meant (flat_map escaped label) ≡ label
escaped_meant [] h = refl
escaped_meant (byte ∷ label) h = meant_more (is_plain byte) byte (flat_map escaped label) h.0 refl ∙ ap (λ (x : List ℕ). byte ∷ x) (escaped_meant label h.1)

pub bytes_read : (body behind : List ℕ) → IsClosed body → Tokenizes (99 ∷ 34 ∷ (body ++ 34 ∷ behind)) (t.Bytes body ∷ []) behind
bytes_read body behind h =
    let text : List ℕ = 99 ∷ 34 ∷ (body ++ 34 ∷ behind) in
    one_token 99 (34 ∷ (body ++ 34 ∷ [])) (34 ∷ (body ++ 34 ∷ behind)) behind (t.Bytes body) (1 + length body + 2) (ap (λ (x : List ℕ). 34 ∷ x) (sym (append_assoc body (34 ∷ []) behind)))
    (ap (λ o. or_else o (or_else (name_step t.Word 0 text) (Fails 2))) (quoted_found t.Bytes 1 text body behind refl h)) (omega (arith, length-append body (34 ∷ [])))

-- ---- the names of functions

letter_no_digit : (c : ℕ) → begins_word c ≡ true → is_ascii_digit c ≡ false
letter_no_digit c e = grind (arith, nat_tests)

pub name_read : (name behind : List ℕ) → heads begins_word name ≡ true → list_all continues_word name ≡ true → Tokenizes (64 ∷ (name ++ 40 ∷ behind)) (t.Named name ∷ []) (40 ∷ behind)
name_read [] behind e f = absurd (cc)
name_read (c ∷ cs) behind e f =
    let name : List ℕ = c ∷ cs in
    let text : List ℕ = 64 ∷ (name ++ 40 ∷ behind) in
    let count : run continues_word (name ++ 40 ∷ behind) ≡ length name = run_all continues_word name (40 ∷ behind) f refl in
    let no_number : number_step (numbered t.Constant) 1 text ≡ None =
    ap (λ b. number_behind (numbered t.Constant) 1 text (elim b as (λ b. ℕ) [ true ↦ suc (run is_ascii_digit (cs ++ 40 ∷ behind)) | false ↦ 0 ])) (letter_no_digit c e) in
    let named : name_step t.Named 1 text ≡ Some (Found (t.Named name) (1 + length name)) =
    ap (name_behind t.Named 1 text) e
    ∙ ap (λ (n : ℕ). Some (Found (t.Named (take n (name ++ 40 ∷ behind))) (1 + n))) count
    ∙ ap (λ (x : List ℕ). Some (Found (t.Named x) (1 + length name))) (take_at name (40 ∷ behind) (length name) refl) in
    one_token 64 name (name ++ 40 ∷ behind) (40 ∷ behind) (t.Named name) (1 + length name) refl
    (ap (λ o. or_else o (or_else (name_step t.Named 1 text) (Fails 2))) no_number ∙ ap (λ o. or_else o (Fails 2)) named) (omega arith)
