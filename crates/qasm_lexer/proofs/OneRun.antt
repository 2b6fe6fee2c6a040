-- A text has one reading: one list of gaps at each place, one thing behind them, and one run.
use Rattle.std.proofs.Common.{◌≡◌, ℕ, ◌<◌, ◌≤◌, ◌⊎◌, Bool, true, false, not, ◌&&◌, ◌||◌, ◌==◌, List, [], ◌∷◌, ◌++◌, length, drop, IsUtf8, Option, None, Some, Result, Ok, Err, sym, refl, ap, ◌∙◌, subst, arith, inl, inr, ⊎_elim, length-drop, append_assoc}
use Rattle.std.specs.Str.{chars, IsCharBoundary, IsValidUpTo}
use lib.Utf8.{encodes}
use Rattle.std.proofs.lemmas.Bool.{false≢true}
use Rattle.std.proofs.lemmas.List.{append_cancel_left, drop_all}
use Rattle.std.proofs.lemmas.Str.{encodes-chars, IsUtf8-drop, chars-nil}
use Rattle.std.proofs.str.Laws.{order}
use Rattle.qq_base.specs.declared.rule.Rule.{Rule}
use Rattle.qq_base.specs.declared.rule.Rule.TheVariants.{BadCharacter, OpenComment, OpenString, LiteralRange, FloatLiteral, NotUtf8}
use Rattle.qq_base.specs.declared.refusal.Refusal.{Refusal}
use Rattle.qq_base.specs.declared.refusal.Span.{Span}
use Rattle.qq_base.specs.declared.refusal.Fault.{Fault}
use Rattle.qq_base.specs.declared.refusal.Fault.TheVariants.{Memory, Refused}
use Rattle.std.specs.declared.alloc.Global.{Global}
use Rattle.std.specs.declared.vec.Vec.{Vec}
use Rattle.qasm_lexer.specs.Characters.{is_blank, is_quote, ends_line}
use Rattle.qasm_lexer.specs.Spelling.{Spells, IsSpelled, AsToken, AsDecimal}
use Rattle.qasm_lexer.specs.Scan.{StopsAt}
use Rattle.qasm_lexer.specs.Tokens.{IsGap, Blank, LineComment, BlockComment, Skips, has_close, rest_from, spelling_of, place_of, BeginsComment, BeginsWith, IsLongest, IsToken, IsRefused, Stands, IsNext, Reads, Tokens, Gives, IsAnswer, opens_version}
use Rattle.qasm_lexer.specs.declared.token.TokenKind.{TokenKind}
use Rattle.qasm_lexer.specs.declared.token.Token.{Token}
use Rattle.qasm_lexer.proofs.Cutting.{cons≢nil}
use Rattle.qasm_lexer.proofs.Numerals.{cons_head, cons_tail, either}
use Rattle.qasm_lexer.proofs.Starts.{spelled_some, quote_cases}
use Rattle.qasm_lexer.proofs.Fronts.{run_unique}
use Rattle.qasm_lexer.proofs.KindLaws.{kinds_same}
use Rattle.qasm_lexer.proofs.OneReading.{longest_same, spelled_no_blank, slash_no_literal, slash_no_decimal, bad_comment, not_both, rule_same, token_refused}

-- where a comment closes
has_close_cons : (c : ℕ) (cs : List ℕ) → has_close cs ≡ true → has_close (c ∷ cs) ≡ true
has_close_cons c [] h = h
has_close_cons c (d ∷ cs) h = ap (λ b. ((c == 42) && (d == 47)) || b) h ∙ or_true ((c == 42) && (d == 47))
  where
    or_true : (b : Bool) → (b || true) ≡ true
    or_true true = refl
    or_true false = refl

has_close_tail : (c : ℕ) (cs : List ℕ) → has_close (c ∷ cs) ≡ false → has_close cs ≡ false
has_close_tail c cs h = by_test (either (has_close cs))
  where
    by_test : (has_close cs ≡ true) ⊎ (has_close cs ≡ false) → has_close cs ≡ false
    by_test (inl k) = absurd (false≢true (sym h ∙ has_close_cons c cs k))
    by_test (inr k) = k

closes : (body rest : List ℕ) → has_close (body ++ 42 ∷ 47 ∷ rest) ≡ true
closes [] rest = refl
closes (c ∷ cs) rest = has_close_cons c (cs ++ 42 ∷ 47 ∷ rest) (closes cs rest)

close_same : (x y r s : List ℕ) → x ++ 42 ∷ 47 ∷ r ≡ y ++ 42 ∷ 47 ∷ s → has_close (x ++ 42 ∷ []) ≡ false → has_close (y ++ 42 ∷ []) ≡ false → x ≡ y
close_same [] [] r s e h k = refl
close_same [] (a ∷ []) r s e h k = let same = cons_head (cons_tail e) in absurd (omega arith)
close_same [] (a ∷ b ∷ ys) r s e h k =
    absurd (false≢true (sym k ∙ ap (λ l. has_close (l ++ 42 ∷ [])) (ap (λ z. z ∷ b ∷ ys) (sym (cons_head e)) ∙ ap (λ z. 42 ∷ z ∷ ys) (sym (cons_head (cons_tail e))))))
close_same (a ∷ []) [] r s e h k = let same = cons_head (cons_tail e) in absurd (omega arith)
close_same (a ∷ b ∷ xs) [] r s e h k =
    absurd (false≢true (sym h ∙ ap (λ l. has_close (l ++ 42 ∷ [])) (ap (λ z. z ∷ b ∷ xs) (cons_head e) ∙ ap (λ z. 42 ∷ z ∷ xs) (cons_head (cons_tail e)))))
close_same (a ∷ xs) (b ∷ ys) r s e h k =
    ap (λ z. z ∷ xs) (cons_head e) ∙ ap (λ z. b ∷ z) (close_same xs ys r s (cons_tail e) (has_close_tail a (xs ++ 42 ∷ []) h) (has_close_tail b (ys ++ 42 ∷ []) k))

no_blank_slash : (c : ℕ) → is_blank c ≡ true → c ≡ 47 → ⊥
no_blank_slash c h e = false≢true (sym (ap is_blank e) ∙ h)

line_stops : (behind : List ℕ) → (behind ≡ []) ⊎ BeginsWith ends_line behind → StopsAt (λ c. not (ends_line c)) behind
line_stops [] h = tt
line_stops (c ∷ cs) (inl h) = absurd (cons≢nil h)
line_stops (c ∷ cs) (inr h) = ap not h

block_split : (body behind : List ℕ) → 47 ∷ 42 ∷ ((body ++ 42 ∷ 47 ∷ []) ++ behind) ≡ 47 ∷ 42 ∷ (body ++ 42 ∷ 47 ∷ behind)
block_split body behind = ap (λ x. 47 ∷ 42 ∷ x) (append_assoc body (42 ∷ 47 ∷ []) behind)

-- one gap begins a text
pub gap_same : (a b c d : List ℕ) → IsGap a b → IsGap c d → a ++ b ≡ c ++ d → a ≡ c
gap_same a b c d (Blank x e h) (Blank y f k) at =
    e ∙ ap (λ z. z ∷ []) (cons_head (ap (λ z. z ++ b) (sym e) ∙ at ∙ ap (λ z. z ++ d) f)) ∙ sym f
gap_same a b c d (Blank x e h) (LineComment y f k l) at = absurd (no_blank_slash x h (cons_head (ap (λ z. z ++ b) (sym e) ∙ at ∙ ap (λ z. z ++ d) f)))
gap_same a b c d (Blank x e h) (BlockComment y f k) at = absurd (no_blank_slash x h (cons_head (ap (λ z. z ++ b) (sym e) ∙ at ∙ ap (λ z. z ++ d) f)))
gap_same a b c d (LineComment x e h l) (Blank y f k) at = absurd (no_blank_slash y k (cons_head (ap (λ z. z ++ d) (sym f) ∙ sym at ∙ ap (λ z. z ++ b) e)))
gap_same a b c d (BlockComment x e h) (Blank y f k) at = absurd (no_blank_slash y k (cons_head (ap (λ z. z ++ d) (sym f) ∙ sym at ∙ ap (λ z. z ++ b) e)))
gap_same a b c d (LineComment x e h l) (LineComment y f k m) at =
    let tails = cons_tail (cons_tail (ap (λ z. z ++ b) (sym e) ∙ at ∙ ap (λ z. z ++ d) f)) in
    e ∙ ap (λ z. 47 ∷ 47 ∷ z) (run_unique (λ z. not (ends_line z)) x b y d tails (line_stops b l) (line_stops d m) h k).0 ∙ sym f
gap_same a b c d (LineComment x e h l) (BlockComment y f k) at = let same = cons_head (cons_tail (ap (λ z. z ++ b) (sym e) ∙ at ∙ ap (λ z. z ++ d) f)) in absurd (omega arith)
gap_same a b c d (BlockComment x e h) (LineComment y f k m) at = let same = cons_head (cons_tail (ap (λ z. z ++ b) (sym e) ∙ at ∙ ap (λ z. z ++ d) f)) in absurd (omega arith)
gap_same a b c d (BlockComment x e h) (BlockComment y f k) at =
    let all = sym (block_split x b) ∙ ap (λ z. z ++ b) (sym e) ∙ at ∙ ap (λ z. z ++ d) f ∙ block_split y d in
    e ∙ ap (λ z. 47 ∷ 42 ∷ (z ++ 42 ∷ 47 ∷ [])) (close_same x y b d (cons_tail (cons_tail all)) h k) ∙ sym f

-- a gap begins with a blank, or is a comment
gap_head : (gap behind rest : List ℕ) → IsGap gap behind → rest ≡ gap ++ behind → ((c : ℕ) × (rest ≡ c ∷ behind) × (is_blank c ≡ true)) ⊎ ((tail : List ℕ) × (rest ≡ 47 ∷ tail) × BeginsComment rest)
gap_head gap behind rest (Blank c e h) at = inl (c, at ∙ ap (λ z. z ++ behind) e, h)
gap_head gap behind rest (LineComment body e h l) at =
    let all = at ∙ ap (λ z. z ++ behind) e in inr (47 ∷ body ++ behind, all, (body ++ behind, inl all))
gap_head gap behind rest (BlockComment body e h) at =
    let all = at ∙ ap (λ z. z ++ behind) e in inr (42 ∷ (body ++ 42 ∷ 47 ∷ []) ++ behind, all, ((body ++ 42 ∷ 47 ∷ []) ++ behind, inr all))

gap_some : (gap behind rest : List ℕ) → IsGap gap behind → rest ≡ gap ++ behind → rest ≡ [] → ⊥
gap_some gap behind rest g e none =
    ⊎_elim (λ h. cons≢nil (sym h.1 ∙ none)) (λ h. cons≢nil (sym h.1 ∙ none)) (gap_head gap behind rest g e)

gap_token : (version : Bool) (gap behind rest spelling after : List ℕ) (kind : TokenKind) → IsGap gap behind → rest ≡ gap ++ behind → ¬ (BeginsComment rest) → rest ≡ spelling ++ after → Spells version spelling kind → ⊥
gap_token version gap behind rest spelling after kind g e no_comment split s =
    ⊎_elim (λ h. spelled_no_blank version h.0 behind spelling after h.2 (sym h.1 ∙ split) (AsToken kind s)) (λ h. no_comment h.2) (gap_head gap behind rest g e)

open_not_gap : (gap behind rest : List ℕ) → IsGap gap behind → rest ≡ gap ++ behind → (body : List ℕ) → rest ≡ 47 ∷ 42 ∷ body → has_close body ≡ false → ⊥
open_not_gap gap behind rest (Blank c e h) at body f k = no_blank_slash c h (cons_head (ap (λ z. z ++ behind) (sym e) ∙ sym at ∙ f))
open_not_gap gap behind rest (LineComment x e h l) at body f k = let same = cons_head (cons_tail (ap (λ z. z ++ behind) (sym e) ∙ sym at ∙ f)) in omega arith
open_not_gap gap behind rest (BlockComment x e h) at body f k =
    let all = sym (block_split x behind) ∙ ap (λ z. z ++ behind) (sym e) ∙ sym at ∙ f in
    false≢true (sym k ∙ ap has_close (sym (cons_tail (cons_tail all))) ∙ closes x behind)

gap_refused : (version : Bool) (gap behind rest : List ℕ) (rule : Rule) → IsGap gap behind → rest ≡ gap ++ behind → IsRefused version rest rule → ⊥
gap_refused version gap behind rest BadCharacter g e x =
    ⊎_elim (λ h. not_both (is_blank x.0) x.3 (ap is_blank (cons_head (sym x.2 ∙ h.1)) ∙ h.2)) (λ h. bad_comment version rest x h.0 h.1) (gap_head gap behind rest g e)
gap_refused version gap behind rest OpenComment g e x = open_not_gap gap behind rest g e x.0 x.1 x.2
gap_refused version gap behind rest OpenString g e x =
    ⊎_elim (λ h. quote_blank x.0 x.4 (ap is_blank (cons_head (sym x.3 ∙ h.1)) ∙ h.2)) (λ h. false≢true (ap is_quote (cons_head (sym h.1 ∙ x.3)) ∙ x.4)) (gap_head gap behind rest g e)
  where
    quote_blank : (q : ℕ) → is_quote q ≡ true → is_blank q ≡ true → ⊥
    quote_blank q h k = ⊎_elim (λ (e : q ≡ 34). false≢true (sym (ap is_blank e) ∙ k)) (λ (e : q ≡ 39). false≢true (sym (ap is_blank e) ∙ k)) (quote_cases q h)
gap_refused version gap behind rest LiteralRange g e x =
    ⊎_elim (λ h. spelled_no_blank version h.0 behind x.0 x.1 h.2 (sym h.1 ∙ x.3.split) (AsToken x.2 x.4)) (λ h. slash_no_literal version h.0 x.0 x.1 x.2 (sym h.1 ∙ x.3.split) x.4 x.5) (gap_head gap behind rest g e)
gap_refused version gap behind rest FloatLiteral g e x =
    ⊎_elim (λ h. spelled_no_blank version h.0 behind x.0 x.1 h.2 (sym h.1 ∙ x.2.split) (AsDecimal x.3)) (λ h. slash_no_decimal version h.0 x.0 x.1 (sym h.1 ∙ x.2.split) x.3) (gap_head gap behind rest g e)
gap_refused version gap behind rest _ g e x = x

refused_some : (version : Bool) (rest : List ℕ) (rule : Rule) → IsRefused version rest rule → rest ≡ [] → ⊥
refused_some version rest BadCharacter x none = cons≢nil (sym x.2 ∙ none)
refused_some version rest OpenComment x none = cons≢nil (sym x.1 ∙ none)
refused_some version rest OpenString x none = cons≢nil (sym x.3 ∙ none)
refused_some version rest LiteralRange x none = spelled_empty x.0 x.1 (sym x.3.split ∙ none) (AsToken x.2 x.4)
  where
    spelled_empty : (s b : List ℕ) → s ++ b ≡ [] → IsSpelled version s → ⊥
    spelled_empty [] b e s = spelled_some version s
    spelled_empty (c ∷ cs) b e s = cons≢nil e
refused_some version rest FloatLiteral x none = spelled_empty x.0 x.1 (sym x.2.split ∙ none) (AsDecimal x.3)
  where
    spelled_empty : (s b : List ℕ) → s ++ b ≡ [] → IsSpelled version s → ⊥
    spelled_empty [] b e s = spelled_some version s
    spelled_empty (c ∷ cs) b e s = cons≢nil e
refused_some version rest _ x none = x

-- the end of a text
end_rest : (text : List ℕ) (at : ℕ) → at ≡ length text → rest_from text at ≡ []
end_rest text at e = ap chars (drop_all at text (omega (arith, e))) ∙ chars-nil

-- no gap begins where something stands
pub stands_no_gap : (text : List ℕ) (at : ℕ) (version : Bool) (found : Result (Option Token) Refusal) (gap behind : List ℕ) → Stands text at version found → IsGap gap behind → rest_from text at ≡ gap ++ behind → ⊥
stands_no_gap text at version (Ok None) gap behind s g e = gap_some gap behind (rest_from text at) g e (end_rest text at s)
stands_no_gap text at version (Ok (Some token)) gap behind s g e =
    let here = subst (λ n. rest_from text n ≡ gap ++ behind) (sym s.0) e in
    let no_comment = subst (λ n. ¬ (BeginsComment (rest_from text n))) (sym s.0) s.1 in
    gap_token version gap behind (rest_from text token.start) (spelling_of text token) (rest_from text token.end) token.kind g here no_comment s.2.longest.split s.2.spells
stands_no_gap text at version (Err refusal) gap behind s g e = gap_refused version gap behind (rest_from text at) refusal.rule g e s.1

-- a place in a text is known by what stands there
pub offset_same : (text : List ℕ) (i j : ℕ) → IsUtf8 text → IsCharBoundary text i → IsCharBoundary text j → rest_from text i ≡ rest_from text j → i ≡ j
offset_same text i j utf8 a b e =
    let same = sym (encodes-chars (drop i text) (IsUtf8-drop text i utf8 a)) ∙ ap encodes e ∙ encodes-chars (drop j text) (IsUtf8-drop text j utf8 b) in
    omega (arith, ap length same, length-drop i text, length-drop j text, a.0, b.0)

token_same : (a b : Token) → a.kind ≡ b.kind → a.start ≡ b.start → a.end ≡ b.end → a.at ≡ b.at → a ≡ b
token_same a b k s e p =
    let one : a ≡ record { kind = b.kind; start = a.start; end = a.end; at = a.at } = ap (λ (x : TokenKind). let t : Token = record { kind = x; start = a.start; end = a.end; at = a.at } in t) k in
    let two : record { kind = b.kind; start = a.start; end = a.end; at = a.at } ≡ record { kind = b.kind; start = b.start; end = a.end; at = a.at } = ap (λ (x : ℕ). let t : Token = record { kind = b.kind; start = x; end = a.end; at = a.at } in t) s in
    let three : record { kind = b.kind; start = b.start; end = a.end; at = a.at } ≡ record { kind = b.kind; start = b.start; end = b.end; at = a.at } = ap (λ (x : ℕ). let t : Token = record { kind = b.kind; start = b.start; end = x; at = a.at } in t) e in
    let four : record { kind = b.kind; start = b.start; end = b.end; at = a.at } ≡ b = ap (λ (x : Span). let t : Token = record { kind = b.kind; start = b.start; end = b.end; at = x } in t) p in
    one ∙ two ∙ three ∙ four

refusal_same : (a b : Refusal) → a.rule ≡ b.rule → a.at ≡ b.at → a ≡ b
refusal_same a b r p =
    let one : a ≡ record { rule = b.rule; at = a.at } = ap (λ (x : Rule). let t : Refusal = record { rule = x; at = a.at } in t) r in
    let two : record { rule = b.rule; at = a.at } ≡ b = ap (λ (x : Span). let t : Refusal = record { rule = b.rule; at = x } in t) p in
    one ∙ two

-- one token stands at a place
tokens_same : (text : List ℕ) (version : Bool) (a b : Token) → IsUtf8 text → a.start ≡ b.start → IsToken text version a → IsToken text version b → a ≡ b
tokens_same text version a b utf8 s x y =
    let rests = ap (rest_from text) s in
    let y_longest = subst (λ r. IsLongest version r (spelling_of text b) (rest_from text b.end)) (sym rests) y.longest in
    let same = longest_same version (rest_from text a.start) (spelling_of text a) (rest_from text a.end) (spelling_of text b) (rest_from text b.end) x.longest y_longest (AsToken a.kind x.spells) (AsToken b.kind y.spells) in
    let kinds = kinds_same version (spelling_of text b) a.kind b.kind (subst (λ z. Spells version z a.kind) same x.spells) y.spells in
    let behind = append_cancel_left (spelling_of text b) (rest_from text a.end) (rest_from text b.end) (ap (λ z. z ++ rest_from text a.end) (sym same) ∙ sym x.longest.split ∙ y_longest.split) in
    token_same a b kinds s (offset_same text a.end b.end utf8 x.ends y.ends behind) (x.place ∙ ap (place_of text) s ∙ sym y.place)

token_some : (text : List ℕ) (at : ℕ) (version : Bool) (token : Token) → token.start ≡ at → IsToken text version token → at ≡ length text → ⊥
token_some text at version token s x e = omega (arith, s, x.ordered, x.ends.0, e)

token_no_refusal : (text : List ℕ) (at : ℕ) (version : Bool) (token : Token) (rule : Rule) → Stands text at version (Ok (Some token)) → IsRefused version (rest_from text at) rule → ⊥
token_no_refusal text at version token rule s x =
    token_refused version (rest_from text token.start) (spelling_of text token) (rest_from text token.end) token.kind rule (subst (λ n. ¬ (BeginsComment (rest_from text n))) (sym s.0) s.1) s.2.longest s.2.spells s.2.fits (subst (λ n. IsRefused version (rest_from text n) rule) (sym s.0) x)

-- one thing stands at a place
pub stands_same : (text : List ℕ) (at : ℕ) (version : Bool) (a b : Result (Option Token) Refusal) → IsUtf8 text → Stands text at version a → Stands text at version b → a ≡ b
stands_same text at version (Ok None) (Ok None) utf8 x y = refl
stands_same text at version (Ok None) (Ok (Some t)) utf8 x y = absurd (token_some text at version t y.0 y.2 x)
stands_same text at version (Ok None) (Err r) utf8 x y = absurd (refused_some version (rest_from text at) r.rule y.1 (end_rest text at x))
stands_same text at version (Ok (Some s)) (Ok None) utf8 x y = absurd (token_some text at version s x.0 x.2 y)
stands_same text at version (Ok (Some s)) (Ok (Some t)) utf8 x y = ap (λ z. Ok (Some z)) (tokens_same text version s t utf8 (x.0 ∙ sym y.0) x.2 y.2)
stands_same text at version (Ok (Some s)) (Err r) utf8 x y = absurd (token_no_refusal text at version s r.rule x y.1)
stands_same text at version (Err q) (Ok None) utf8 x y = absurd (refused_some version (rest_from text at) q.rule x.1 (end_rest text at y))
stands_same text at version (Err q) (Ok (Some t)) utf8 x y = absurd (token_no_refusal text at version t q.rule y x.1)
stands_same text at version (Err q) (Err r) utf8 x y = ap Err (refusal_same q r (rule_same version (rest_from text at) q.rule r.rule x.1 y.1) (x.0 ∙ sym y.0))

-- the same is skipped
skips_same : (text : List ℕ) (i j : ℕ) (version : Bool) (a b : Result (Option Token) Refusal) (gaps others : List (List ℕ)) (from : List ℕ) → Stands text i version a → Stands text j version b → Skips gaps from (rest_from text i) → Skips others from (rest_from text j) → rest_from text i ≡ rest_from text j
skips_same text i j version a b [] [] from x y s t = sym s ∙ t
skips_same text i j version a b [] (g ∷ gs) from x y s t = absurd (stands_no_gap text i version a g t.0 x t.2 (sym s ∙ t.1))
skips_same text i j version a b (g ∷ gs) [] from x y s t = absurd (stands_no_gap text j version b g s.0 y s.2 (sym t ∙ s.1))
skips_same text i j version a b (g ∷ gs) (h ∷ hs) from x y s t =
    let same = gap_same g s.0 h t.0 s.2 t.2 (sym s.1 ∙ t.1) in
    let behind = append_cancel_left h s.0 t.0 (ap (λ z. z ++ s.0) (sym same) ∙ sym s.1 ∙ t.1) in
    skips_same text i j version a b gs hs t.0 x y (subst (λ z. Skips gs z (rest_from text i)) behind s.3) t.3

-- one thing comes next
pub next_same : (text : List ℕ) (from : ℕ) (version : Bool) (a b : Result (Option Token) Refusal) → IsUtf8 text → IsNext text from version a → IsNext text from version b → a ≡ b
next_same text from version a b utf8 x y =
    let rests = skips_same text x.at y.at version a b x.gaps y.gaps (rest_from text from) x.stands y.stands x.skipped y.skipped in
    let places = offset_same text x.at y.at utf8 x.boundary y.boundary rests in
    stands_same text y.at version a b utf8 (subst (λ n. Stands text n version a) places x.stands) y.stands

none_some : {A : Type 0} {x : A} → None ≡ Some x → ⊥
none_some e = cc

ok_err : {x : Option Token} {y : Refusal} → ◌≡◌ {A = Result (Option Token) Refusal} (Ok x) (Err y) → ⊥
ok_err e = cc

ok_none_some : {t : Token} → ◌≡◌ {A = Result (Option Token) Refusal} (Ok None) (Ok (Some t)) → ⊥
ok_none_some e = cc

ok_same : {s t : Token} → ◌≡◌ {A = Result (Option Token) Refusal} (Ok (Some s)) (Ok (Some t)) → s ≡ t
ok_same e = cc

err_same : {q r : Refusal} → ◌≡◌ {A = Result (Option Token) Refusal} (Err q) (Err r) → q ≡ r
err_same e = cc

-- one run
pub reads_same : (text : List ℕ) (from : ℕ) (version : Bool) (ss ts : List Token) (a b : Option Refusal) → IsUtf8 text → Reads text from version ss a → Reads text from version ts b → (ss ≡ ts) × (a ≡ b)
reads_same text from version [] [] None None utf8 x y = (refl, refl)
reads_same text from version [] [] None (Some r) utf8 x y = absurd (ok_err (next_same text from version (Ok None) (Err r) utf8 x y))
reads_same text from version [] [] (Some q) None utf8 x y = absurd (ok_err (next_same text from version (Ok None) (Err q) utf8 y x))
reads_same text from version [] [] (Some q) (Some r) utf8 x y = (refl, ap Some (err_same (next_same text from version (Err q) (Err r) utf8 x y)))
reads_same text from version [] (t ∷ ts) None b utf8 x y = absurd (ok_none_some (next_same text from version (Ok None) (Ok (Some t)) utf8 x y.0))
reads_same text from version [] (t ∷ ts) (Some q) b utf8 x y = absurd (ok_err (next_same text from version (Ok (Some t)) (Err q) utf8 y.0 x))
reads_same text from version (s ∷ ss) [] a None utf8 x y = absurd (ok_none_some (next_same text from version (Ok None) (Ok (Some s)) utf8 y x.0))
reads_same text from version (s ∷ ss) [] a (Some r) utf8 x y = absurd (ok_err (next_same text from version (Ok (Some s)) (Err r) utf8 x.0 y))
reads_same text from version (s ∷ ss) (t ∷ ts) a b utf8 x y =
    let tokens : s ≡ t = ok_same (next_same text from version (Ok (Some s)) (Ok (Some t)) utf8 x.0 y.0) in
    let rest = reads_same text t.end (opens_version t.kind) ss ts a b utf8 (subst (λ z. Reads text z.end (opens_version z.kind) ss a) tokens x.1) y.1 in
    (ap (λ z. z ∷ ss) tokens ∙ ap (λ z. t ∷ z) rest.0, rest.1)

valid_same : (bytes : List ℕ) (m n : ℕ) → IsValidUpTo bytes m → IsValidUpTo bytes n → m ≡ n
valid_same bytes m n x y =
    ⊎_elim
    (λ (below : m < n). absurd (x.longest n below y.front))
    (λ (not_below : n ≤ m). ⊎_elim (λ (above : n < m). absurd (y.longest m above x.front)) (λ (not_above : m ≤ n). omega arith) (order n m))
    (order m n)

-- the bytes have one reading
pub one_reading : (bytes : List ℕ) (a b : Result (List Token) Refusal) → Tokens bytes a → Tokens bytes b → a ≡ b
one_reading bytes (Ok ss) (Ok ts) x y = ap Ok (reads_same bytes 0 false ss ts None None x.0 x.1 y.1).0
one_reading bytes (Ok ss) (Err r) x (inl y) = absurd (none_some (reads_same bytes 0 false ss y.0 None (Some r) x.0 x.1 y.2).1)
one_reading bytes (Ok ss) (Err r) x (inr y) = absurd (y.1 x.0)
one_reading bytes (Err q) (Ok ts) (inl x) y = absurd (none_some (reads_same bytes 0 false ts x.0 None (Some q) y.0 y.1 x.2).1)
one_reading bytes (Err q) (Ok ts) (inr x) y = absurd (x.1 y.0)
one_reading bytes (Err q) (Err r) (inl x) (inl y) = ap Err (some_refusal (reads_same bytes 0 false x.0 y.0 (Some q) (Some r) x.1 x.2 y.2).1)
  where
    some_refusal : Some q ≡ Some r → q ≡ r
    some_refusal e = cc
one_reading bytes (Err q) (Err r) (inl x) (inr y) = absurd (y.1 x.1)
one_reading bytes (Err q) (Err r) (inr x) (inl y) = absurd (x.1 y.1)
one_reading bytes (Err q) (Err r) (inr x) (inr y) =
    ap Err (x.3 ∙ ap (λ (n : ℕ). let t : Refusal = record { rule = NotUtf8; at = place_of bytes n } in t) (valid_same bytes x.0 y.0 x.2 y.2) ∙ sym y.3)

-- so an answer is the only reading
pub only_answer : (bytes : List ℕ) (answer : Result (Vec Token Global) Fault) → Gives bytes answer → (reading : Result (List Token) Refusal) → Tokens bytes reading → IsAnswer reading answer
only_answer bytes (Ok tokens) found reading t = one_reading bytes reading (Ok tokens.items) t found
only_answer bytes (Err (Refused refusal)) found reading t = one_reading bytes reading (Err refusal) t found
only_answer bytes (Err Memory) found reading t = tt
