-- A text has one reading at most.
use Rattle.std.proofs.Common.{◌≡◌, inl, inr, ℕ, ◌-◌, ◌≤◌, true, false, not, List, [], ◌∷◌, ◌++◌, length, take, drop, Option, Some, None, Result, Ok, Err, refl, sym, ap, ◌∙◌, subst, arith, length-append, ◌==◌}
use Rattle.std.specs.List.{list_all}
use Rattle.std.proofs.Math.Seq.{take-append_seam, drop-append_seam, drop-length}
use Rattle.std.proofs.lemmas.List.{length-drop, length-take-le}
use Rattle.grammar_parts.proofs.Fine.{cons_same}
use Rattle.qq_base.specs.declared.refusal.Span.{Span}
use Rattle.qir_module.specs.Tokens.{TokenKind, Token, Breach, is_blank, ends_line, place_of, EndsLine, IsGap, Skips, IsLongest, BreaksBy, Spells, is_misformed, IsToken, Stands, IsNext, Reads, Tokens, spelling_of}
use Rattle.qir_module.specs.Lexer.{Lead, Blank, Semicolon, lead_of, run}
use Rattle.qir_lexer.specs.Scan.{is_gap}
use Rattle.qir_lexer.specs.Gaps.{BeginsNoGap}
use Rattle.qir_lexer.proofs.Runs.{run_exact, run_le, run_most}
use Rattle.qir_lexer.proofs.Leads.{LeadIs, lead_is}
use Rattle.qir_lexer.proofs.Possible.{Possible, PossibleIn, possible}
use Rattle.qir_lexer.proofs.WholeSteps.{one_kind, one_form}

-- ---- gaps

blank_lead : (c : ℕ) → is_blank c ≡ true → lead_of c ≡ Blank
blank_lead c h = rw h refl

-- a comment goes to the end of its line
line_size : (body rest : List ℕ) → list_all (λ d. not (ends_line d)) body ≡ true → EndsLine rest → run (λ d. not (ends_line d)) (body ++ rest) ≡ length body
line_size body [] a e = omega (arith, run_le (λ d. not (ends_line d)) (body ++ []), run_most (λ d. not (ends_line d)) body [] a, length-append body [])
line_size body (c ∷ rest) a e = run_exact (λ d. not (ends_line d)) body c rest a (ap not e)

-- behind a gap of a text stands one rest
one_rest : (gap more gap' more' : List ℕ) → gap ++ more ≡ gap' ++ more' → IsGap gap more → IsGap gap' more' → more ≡ more'
one_rest gap more gap' more' e (inl (c, g, b)) (inl (d, h, b')) =
    let same : c ∷ more ≡ d ∷ more' = sym (ap (λ l. l ++ more) g) ∙ e ∙ ap (λ l. l ++ more') h in cc
one_rest gap more gap' more' e (inl (c, g, b)) (inr (body, h, a, l)) =
    let same : c ∷ more ≡ 59 ∷ (body ++ more') = sym (ap (λ x. x ++ more) g) ∙ e ∙ ap (λ x. x ++ more') h in
    let first : c ≡ 59 = cc in absurd (cc (ap is_blank first, b))
one_rest gap more gap' more' e (inr (body, g, a, l)) (inl (d, h, b)) =
    let same : 59 ∷ (body ++ more) ≡ d ∷ more' = sym (ap (λ x. x ++ more) g) ∙ e ∙ ap (λ x. x ++ more') h in
    let first : 59 ≡ d = cc in absurd (cc (ap is_blank first, b))
one_rest gap more gap' more' e (inr (body, g, a, l)) (inr (body', h, a', l')) =
    let same : 59 ∷ (body ++ more) ≡ 59 ∷ (body' ++ more') = sym (ap (λ x. x ++ more) g) ∙ e ∙ ap (λ x. x ++ more') h in
    let tails : body ++ more ≡ body' ++ more' = cc in
    let size : length body ≡ length body' = sym (line_size body more a l) ∙ ap (run (λ d. not (ends_line d))) tails ∙ line_size body' more' a' l' in
    sym (drop-append_seam body more) ∙ ap (drop (length body)) tails ∙ ap (λ n. drop n (body' ++ more')) size ∙ drop-append_seam body' more'

-- where a gap begins, no text without one does
gap_here : (gap more : List ℕ) → IsGap gap more → BeginsNoGap (gap ++ more) → ⊥
gap_here gap more (inl (c, g, b)) n =
    let here : BeginsNoGap (c ∷ more) = subst (λ l. BeginsNoGap (l ++ more)) g n in
    cc (ap is_gap (blank_lead c b), here)
gap_here gap more (inr (body, g, a, l)) n =
    let here : BeginsNoGap (59 ∷ (body ++ more)) = subst (λ x. BeginsNoGap (x ++ more)) g n in cc

one_end : (gaps gaps' : List (List ℕ)) (text rest rest' : List ℕ) → Skips gaps text rest → Skips gaps' text rest' → BeginsNoGap rest → BeginsNoGap rest' → rest ≡ rest'
one_end [] [] text rest rest' s s' n n' = sym s ∙ s'
one_end [] (g ∷ gs) text rest rest' s (more, e, h, s') n n' = absurd (gap_here g more h (subst BeginsNoGap (sym s ∙ e) n))
one_end (g ∷ gs) [] text rest rest' (more, e, h, s) s' n n' = absurd (gap_here g more h (subst BeginsNoGap (sym s' ∙ e) n'))
one_end (g ∷ gs) (g' ∷ gs') text rest rest' (more, e, h, s) (more', e', h', s') n n' =
    let same : more ≡ more' = one_rest g more g' more' (sym e ∙ e') h h' in
    one_end gs gs' more rest rest' s (subst (λ l. Skips gs' l rest') (sym same) s') n n'

-- ---- what stands behind them

-- a token begins no gap
possible_no_gap : (text : List ℕ) (n : ℕ) → PossibleIn text n → BeginsNoGap text
possible_no_gap [] n p = tt
possible_no_gap (c ∷ cs) n p = at (lead_of c) p
  where
    at : (lead : Lead) → Possible lead c (c ∷ cs) n → is_gap lead ≡ false
    at Blank q = absurd q
    at Semicolon q = absurd q
    at _ q = refl

longest_no_gap : (text spelling : List ℕ) (kind : TokenKind) → IsLongest text spelling → Spells spelling kind → BeginsNoGap text
longest_no_gap text spelling kind l s = possible_no_gap text (length spelling) (possible text spelling l.rest kind l.split s)

plain_lead : (c : ℕ) → is_blank c ≡ false → (c == 59) ≡ false → is_gap (lead_of c) ≡ false
plain_lead c b s = at (lead_of c) (lead_is c)
  where
    at : (lead : Lead) → LeadIs c lead → is_gap lead ≡ false
    at Blank h = absurd (cc (h, b))
    at Semicolon h = absurd (cc (ap (λ d. d == 59) h, s))
    at _ h = refl

breach_no_gap : (text : List ℕ) (rule : ℕ) → BreaksBy text rule → BeginsNoGap text
breach_no_gap text rule (inl (r, (c, rest, e, b, s, q, none))) = subst BeginsNoGap (sym e) (plain_lead c b s)
breach_no_gap text rule (inr (inl (r, (rest, e, none)))) = subst BeginsNoGap (sym e) refl
breach_no_gap text rule (inr (inr (r, (spelling, kind, l, s, m)))) = longest_no_gap text spelling kind l s

drop_all : (text : List ℕ) → drop (length text) text ≡ []
drop_all text = drop-length text

stands_no_gap : (text : List ℕ) (at : ℕ) (found : Result (Option Token) Breach) → Stands text at found → BeginsNoGap (drop at text)
stands_no_gap text at (Ok None) h = subst BeginsNoGap (sym (ap (λ n. drop n text) h ∙ drop_all text)) tt
stands_no_gap text at (Ok (Some token)) (e, t) = subst (λ n. BeginsNoGap (drop n text)) e (longest_no_gap (drop token.start text) (spelling_of text token) token.kind t.longest t.spells)
stands_no_gap text at (Err breach) (l, p, b) = breach_no_gap (drop at text) breach.rule b

stands_inside : (text : List ℕ) (at : ℕ) (found : Result (Option Token) Breach) → Stands text at found → at ≤ length text
stands_inside text at (Ok None) h = omega (arith, h)
stands_inside text at (Ok (Some token)) (e, t) = omega (arith, e, t.ordered, t.inside)
stands_inside text at (Err breach) h = h.0

-- two spellings that are longest in a text are one
one_longest : (text a b : List ℕ) (k m : TokenKind) → IsLongest text a → IsLongest text b → Spells a k → Spells b m → a ≡ b
one_longest text a b k m l r s q =
    let size : length a ≡ length b = omega (arith, l.longest b r.rest m r.split q, r.longest a l.rest k l.split s) in
    sym (take-append_seam a l.rest) ∙ ap (take (length a)) (sym l.split ∙ r.split) ∙ ap (λ n. take n (b ++ r.rest)) size ∙ take-append_seam b r.rest

one_rule : (text : List ℕ) (a b : ℕ) → BreaksBy text a → BreaksBy text b → a ≡ b
one_rule text a b (inl (r, x)) (inl (q, y)) = r ∙ sym q
one_rule text a b (inl (r, (c, rest, e, p, s, quote, none))) (inr (inl (q, (more, f, none')))) =
    let same : c ∷ rest ≡ 34 ∷ more = sym e ∙ f in let first : c ≡ 34 = cc in absurd (cc (first, quote))
one_rule text a b (inl (r, (c, rest, e, p, s, quote, none))) (inr (inr (q, (spelling, kind, l, t, m)))) = absurd (none spelling l.rest kind l.split t)
one_rule text a b (inr (inl (r, (more, f, none)))) (inl (q, (c, rest, e, p, s, quote, none'))) =
    let same : c ∷ rest ≡ 34 ∷ more = sym e ∙ f in let first : c ≡ 34 = cc in absurd (cc (first, quote))
one_rule text a b (inr (inl (r, x))) (inr (inl (q, y))) = r ∙ sym q
one_rule text a b (inr (inl (r, (more, f, none)))) (inr (inr (q, (spelling, kind, l, t, m)))) = absurd (none spelling l.rest kind l.split t)
one_rule text a b (inr (inr (r, (spelling, kind, l, t, m)))) (inl (q, (c, rest, e, p, s, quote, none))) = absurd (none spelling l.rest kind l.split t)
one_rule text a b (inr (inr (r, (spelling, kind, l, t, m)))) (inr (inl (q, (more, f, none)))) = absurd (none spelling l.rest kind l.split t)
one_rule text a b (inr (inr (r, x))) (inr (inr (q, y))) = r ∙ sym q

-- where a token of the right form stands, no rule is broken
token_or_breach : (text spelling : List ℕ) (kind : TokenKind) (rule : ℕ) → IsLongest text spelling → Spells spelling kind → is_misformed spelling kind ≡ false → BreaksBy text rule → ⊥
token_or_breach text spelling kind rule l s w (inl (r, (c, rest, e, p, q, quote, none))) = none spelling l.rest kind l.split s
token_or_breach text spelling kind rule l s w (inr (inl (r, (more, f, none)))) = none spelling l.rest kind l.split s
token_or_breach text spelling kind rule l s w (inr (inr (r, (other, k, m, t, bad)))) =
    let same : other ≡ spelling = one_longest text other spelling k kind m l t s in
    one_form spelling kind k s (subst (λ x. Spells x k) same t) w (subst (λ x. is_misformed x k ≡ true) same bad)

nothing_stands : (text : List ℕ) (rule : ℕ) → text ≡ [] → BreaksBy text rule → ⊥
nothing_stands text rule e (inl (r, (c, rest, f, b, s, q, none))) = cc
nothing_stands text rule e (inr (inl (r, (rest, f, none)))) = cc
nothing_stands text rule e (inr (inr (r, (spelling, kind, l, t, m)))) = subst (λ x. PossibleIn x (length spelling)) e (possible text spelling l.rest kind l.split t)

abbrev a_token : TokenKind → ℕ → ℕ → Span → Token
a_token k s n p = record { kind = k; start = s; end = n; at = p }

abbrev a_breach : ℕ → Span → Result (Option Token) Breach
a_breach r s = Err (record { rule = r; at = s })

abbrev a_find : Token → Result (Option Token) Breach
a_find x = Ok (Some x)

same_token : (text : List ℕ) (a b : Token) → a.start ≡ b.start → IsToken text a → IsToken text b → a ≡ b
same_token text a b e t r =
    let place : a.at ≡ b.at = t.place ∙ ap (place_of text) e ∙ sym r.place in
    let other : IsLongest (drop a.start text) (spelling_of text b) = subst (λ n. IsLongest (drop n text) (spelling_of text b)) (sym e) r.longest in
    let spelling : spelling_of text a ≡ spelling_of text b = one_longest (drop a.start text) (spelling_of text a) (spelling_of text b) a.kind b.kind t.longest other t.spells r.spells in
    let size_a : length (spelling_of text a) ≡ a.end - a.start = length-take-le (a.end - a.start) (drop a.start text) (omega (arith, t.ordered, t.inside, length-drop a.start text)) in
    let size_b : length (spelling_of text b) ≡ b.end - b.start = length-take-le (b.end - b.start) (drop b.start text) (omega (arith, r.ordered, r.inside, length-drop b.start text)) in
    let end : a.end ≡ b.end = omega (arith, size_a, size_b, ap length spelling, e, t.ordered, r.ordered) in
    let kind : a.kind ≡ b.kind = one_kind (spelling_of text b) a.kind b.kind (subst (λ l. Spells l a.kind) spelling t.spells) r.spells (subst (λ l. is_misformed l a.kind ≡ false) spelling t.well_formed) r.well_formed in
    same_of a.kind b.kind kind a.start b.start e a.end b.end end a.at b.at place
  where
    same_of : (k k' : TokenKind) → k ≡ k' → (s s' : ℕ) → s ≡ s' → (n n' : ℕ) → n ≡ n' → (p p' : Span) → p ≡ p' → a_token k s n p ≡ a_token k' s' n' p'
    same_of k k' e s s' f n n' g p p' h = cc

one_standing : (text : List ℕ) (at : ℕ) (a b : Result (Option Token) Breach) → Stands text at a → Stands text at b → a ≡ b
one_standing text at (Ok None) (Ok None) x y = refl
one_standing text at (Ok None) (Ok (Some token)) x (e, t) = absurd (omega (arith, x, e, t.ordered, t.inside))
one_standing text at (Ok None) (Err breach) x (l, p, b) = absurd (nothing_stands (drop at text) breach.rule (ap (λ n. drop n text) x ∙ drop_all text) b)
one_standing text at (Ok (Some token)) (Ok None) (e, t) y = absurd (omega (arith, y, e, t.ordered, t.inside))
one_standing text at (Ok (Some token)) (Ok (Some other)) (e, t) (f, r) = ap (λ (x : Token). Ok (Some x)) (same_token text token other (e ∙ sym f) t r)
one_standing text at (Ok (Some token)) (Err breach) (e, t) (l, p, b) = absurd (token_or_breach (drop token.start text) (spelling_of text token) token.kind breach.rule t.longest t.spells t.well_formed (subst (λ n. BreaksBy (drop n text) breach.rule) (sym e) b))
one_standing text at (Err breach) (Ok None) (l, p, b) y = absurd (nothing_stands (drop at text) breach.rule (ap (λ n. drop n text) y ∙ drop_all text) b)
one_standing text at (Err breach) (Ok (Some token)) (l, p, b) (e, t) = absurd (token_or_breach (drop token.start text) (spelling_of text token) token.kind breach.rule t.longest t.spells t.well_formed (subst (λ n. BreaksBy (drop n text) breach.rule) (sym e) b))
one_standing text at (Err a) (Err b) (l, p, x) (m, q, y) = same_of a.rule b.rule (one_rule (drop at text) a.rule b.rule x y) a.at b.at (p ∙ sym q)
  where
    same_of : (r r' : ℕ) → r ≡ r' → (s s' : Span) → s ≡ s' → a_breach r s ≡ a_breach r' s'
    same_of r r' e s s' f = cc

pub one_next : (text : List ℕ) (from : ℕ) (a b : Result (Option Token) Breach) → IsNext text from a → IsNext text from b → a ≡ b
one_next text from a b x y =
    let rest : drop x.at text ≡ drop y.at text = one_end x.gaps y.gaps (drop from text) (drop x.at text) (drop y.at text) x.skipped y.skipped (stands_no_gap text x.at a x.stands) (stands_no_gap text y.at b y.stands) in
    let at : x.at ≡ y.at = omega (arith, ap length rest, length-drop x.at text, length-drop y.at text, stands_inside text x.at a x.stands, stands_inside text y.at b y.stands) in
    one_standing text y.at a b (subst (λ n. Stands text n a) at x.stands) y.stands

-- ---- readings

-- the end of a reading as what comes next
abbrev end_found : Option Breach → Result (Option Token) Breach
end_found None = Ok None
end_found (Some breach) = Err breach

ends_next : (text : List ℕ) (from : ℕ) (end : Option Breach) → Reads text from [] end → IsNext text from (end_found end)
ends_next text from None h = h
ends_next text from (Some breach) h = h

end_no_token : (end : Option Breach) (token : Token) → end_found end ≡ Ok (Some token) → ⊥
end_no_token None token e = cc
end_no_token (Some breach) token e = cc

one_end_found : (a b : Option Breach) → end_found a ≡ end_found b → a ≡ b
one_end_found None None e = refl
one_end_found None (Some b) e = absurd (cc)
one_end_found (Some a) None e = absurd (cc)
one_end_found (Some a) (Some b) e = cc

one_run : (text : List ℕ) (from : ℕ) (xs ys : List Token) (a b : Option Breach) → Reads text from xs a → Reads text from ys b → (xs ≡ ys) × (a ≡ b)
one_run text from [] [] a b x y = (refl, one_end_found a b (one_next text from (end_found a) (end_found b) (ends_next text from a x) (ends_next text from b y)))
one_run text from [] (t ∷ ys) a b x (y, ys') = absurd (end_no_token a t (one_next text from (end_found a) (Ok (Some t)) (ends_next text from a x) y))
one_run text from (t ∷ xs) [] a b (x, xs') y = absurd (end_no_token b t (one_next text from (end_found b) (Ok (Some t)) (ends_next text from b y) x))
one_run text from (t ∷ xs) (u ∷ ys) a b (x, xs') (y, ys') =
    let found : a_find t ≡ a_find u = one_next text from (Ok (Some t)) (Ok (Some u)) x y in
    let same : t ≡ u = cc in
    let more = one_run text t.end xs ys a b xs' (subst (λ (n : ℕ). Reads text n ys b) (ap (λ (z : Token). z.end) (sym same)) ys') in
    (cons_same t u xs ys same more.0, more.1)

pub one_reading : (text : List ℕ) (a b : Result (List Token) Breach) → Tokens text a → Tokens text b → a ≡ b
one_reading text (Ok xs) (Ok ys) x y = ap (λ l. Ok l) (one_run text 0 xs ys None None x y).0
one_reading text (Ok xs) (Err b) x (ys, y) = let r = one_run text 0 xs ys None (Some b) x y in absurd (cc (r.1))
one_reading text (Err a) (Ok ys) (xs, x) y = let r = one_run text 0 xs ys (Some a) None x y in absurd (cc (r.1))
one_reading text (Err a) (Err b) (xs, x) (ys, y) = let r = one_run text 0 xs ys (Some a) (Some b) x y in let same : a ≡ b = cc (r.1) in ap (λ e. Err e) same
