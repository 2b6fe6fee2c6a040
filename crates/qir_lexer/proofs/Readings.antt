-- The run of the lexer: gaps, the next token, and the tokens so far.
use Rattle.std.proofs.Common.{◌≡◌, ℕ, suc, ◌+◌, ◌-◌, ◌<◌, ◌≤◌, ◌^◌, Bool, true, false, not, List, [], ◌∷◌, ◌++◌, length, take, drop, nat_eq, Option, None, Some, Ok, Err, inl, sym, refl, ap, ◌∙◌, subst, arith, append_assoc, append-nil}
use Rattle.std.specs.Prelude.{if◌then◌else◌}
use Rattle.std.proofs.Math.Seq.{take-add}
use Rattle.std.proofs.lemmas.List.{length-take-le, length-drop, drop-drop, take-append-drop}
use Rattle.qq_base.specs.declared.refusal.Span.{Span}
use Rattle.qir_module.specs.Tokens.{Token, Breach, place_behind, place_of, first_place, IsGap, Skips, IsNext, Reads}
use Rattle.std.proofs.Math.ListN.{get_or}
use Rattle.std.proofs.lemmas.List.{drop_more}
use Rattle.qir_module.specs.Tokens.{ends_line, Spells, IsLongest, is_misformed, BreaksBy}
use Rattle.qir_module.specs.Lexer as x
use Rattle.qir_module.specs.Lexer.{lead_of, run, step_by}
use Rattle.qir_lexer.specs.declared.token.QirKind.{QirKind}
use Rattle.qir_lexer.specs.declared.scan.Lead.{Lead}
use Rattle.qir_lexer.specs.declared.scan.Lead.TheVariants as l
use Rattle.qir_lexer.specs.declared.scan.Class.TheVariants.{InLine}
use Rattle.qir_lexer.specs.declared.rule.TextRule.{TextRule}
use Rattle.qir_lexer.specs.Scan.{passes, lead_in, is_gap}
use Rattle.qir_lexer.specs.Gaps.{BeginsNoGap, SkipsGaps}
use Rattle.qir_lexer.proofs.Leads.{LeadIs, lead_is}
use Rattle.qir_lexer.proofs.Steps.{TokenHolds, GapHolds, StepHolds, longest_of}
use Rattle.qir_lexer.proofs.LeadSteps.{comment_holds, step_right}
use Rattle.qir_lexer.specs.declared.token.QirToken.{QirToken}
use Rattle.qir_lexer.specs.Rules.{number_of, breach_of}
use Rattle.qir_lexer.specs.Seen.{kind_of, token_of, tokens_of, found_of}

-- ---- gaps

pub skips_more : (gaps : List (List ℕ)) (text rest gap more : List ℕ) → Skips gaps text rest → rest ≡ gap ++ more → IsGap gap more → Skips (gaps ++ gap ∷ []) text more
skips_more [] text rest gap more s e g = (more, s ∙ e, g, refl)
skips_more (x ∷ gaps) text rest gap more (behind, e, g, s) f h = (behind, e, g, skips_more gaps behind rest gap more s f h)

-- ---- places

place-append : (at : Span) (xs ys : List ℕ) → place_behind at (xs ++ ys) ≡ place_behind (place_behind at xs) ys
place-append at [] ys = refl
place-append at (x ∷ xs) ys = place-append (if nat_eq x 10 then record { line = at.line + 1; column = 1 } else record { line = at.line; column = at.column + 1 }) xs ys

-- the place behind so many bytes from a byte on
pub place_on : (text : List ℕ) (from n : ℕ) → place_behind (place_of text from) (take n (drop from text)) ≡ place_of text (from + n)
place_on text from n = sym (place-append first_place (take from text) (take n (drop from text))) ∙ ap (place_behind first_place) (sym (take-add from n text))

-- both numbers of a place are at most one more than the bytes in front
place_small : (at : Span) (xs : List ℕ) (n : ℕ) → 1 ≤ at.line → at.line + at.column ≤ n + 2 → 1 ≤ at.column → ((place_behind at xs).line ≤ n + length xs + 1) × ((place_behind at xs).column ≤ n + length xs + 1)
place_small at [] n l s c = (omega (arith, l, s, c), omega (arith, l, s, c))
place_small at (x ∷ xs) n l s c = by (nat_eq x 10) (λ p m k h g. place_small p xs m k h g)
  where
    by : (b : Bool) → ((p : Span) (m : ℕ) → 1 ≤ p.line → p.line + p.column ≤ m + 2 → 1 ≤ p.column → ((place_behind p xs).line ≤ m + length xs + 1) × ((place_behind p xs).column ≤ m + length xs + 1)) → ((place_behind (if b then record { line = at.line + 1; column = 1 } else record { line = at.line; column = at.column + 1 }) xs).line ≤ n + suc (length xs) + 1) × ((place_behind (if b then record { line = at.line + 1; column = 1 } else record { line = at.line; column = at.column + 1 }) xs).column ≤ n + suc (length xs) + 1)
    by true go = let r = go (record { line = at.line + 1; column = 1 }) (suc n) (omega arith) (omega (arith, s, c)) (omega arith) in (omega (arith, r.0), omega (arith, r.1))
    by false go = let r = go (record { line = at.line; column = at.column + 1 }) (suc n) l (omega (arith, s)) (omega arith) in (omega (arith, r.0), omega (arith, r.1))

pub place_room : (text : List ℕ) (from : ℕ) (at : Span) (n : ℕ) → at ≡ place_of text from → length text ≤ 1073741824 → from + n ≤ length text → (at.line + n < 2 ^ 32) × (at.column + n < 2 ^ 32)
place_room text from at n e few l =
    let r = place_small first_place (take from text) 0 (omega arith) (omega arith) (omega arith) in
    let size : length (take from text) ≡ from = length-take-le from text (omega (arith, l)) in
    (omega (arith, r.0, size, ap (λ (p : Span). p.line) e, few, l), omega (arith, r.1, size, ap (λ (p : Span). p.column) e, few, l))

-- ---- the tokens so far

pub record SoFar (text : List ℕ) (from : ℕ) (at : Span) (tokens : List QirToken) : Type 0 where
  pub inside : from ≤ length text
  pub place : at ≡ place_of text from
  pub goes_on : (rest : List Token) (end : Option Breach) → Reads text from rest end → Reads text 0 (tokens_of text tokens ++ rest) end

pub at_start : (text : List ℕ) (tokens : List QirToken) → tokens ≡ [] → SoFar text 0 first_place tokens
at_start text tokens none = record { inside = omega arith; place = refl; goes_on = λ rest end reads. subst (λ (t : List QirToken). Reads text 0 (tokens_of text t ++ rest) end) (sym none) reads }

pub all_tokens : {text : List ℕ} {from : ℕ} {at : Span} {tokens : List QirToken} → SoFar text from at tokens → IsNext text from (Ok None) → Reads text 0 (tokens_of text tokens) None
all_tokens {text} {tokens = tokens} before next = subst (λ t. Reads text 0 t None) (append-nil (tokens_of text tokens)) (before.goes_on [] None next)

tokens-append : (text : List ℕ) (tokens : List QirToken) (token : QirToken) → tokens_of text (tokens ++ token ∷ []) ≡ tokens_of text tokens ++ token_of text token ∷ []
tokens-append text [] token = refl
tokens-append text (x ∷ tokens) token = ap (λ l. token_of text x ∷ l) (tokens-append text tokens token)

pub one_token_more : {text : List ℕ} {from : ℕ} {at : Span} {tokens : List QirToken} (token : QirToken) (at_end : Span) (more : List QirToken) → SoFar text from at tokens → IsNext text from (Ok (Some (token_of text token))) → at_end ≡ place_of text token.end → more ≡ tokens ++ token ∷ [] → SoFar text token.end at_end more
one_token_more {text} {tokens = tokens} token at_end more before next p m = record {
  inside = next.stands.1.inside;
  place = p;
  goes_on = λ rest end reads.
      subst (λ t. Reads text 0 t end) (sym (ap (λ l. l ++ rest) (ap (tokens_of text) m ∙ tokens-append text tokens token) ∙ append_assoc (tokens_of text tokens) (token_of text token ∷ []) rest))
      (before.goes_on (token_of text token ∷ rest) end (next, reads));
}

pub refused_there : {text : List ℕ} {from : ℕ} {at : Span} {tokens : List QirToken} (breach : Breach) → SoFar text from at tokens → IsNext text from (Err breach) → (x : List Token) × Reads text 0 x (Some breach)
refused_there {text} {tokens = tokens} breach before next = (tokens_of text tokens ++ [], before.goes_on [] (Some breach) next)

-- what a push that worked leaves
pub pushed : (before after : List QirToken) (token : QirToken) (ok failed : Bool) → after ≡ (if ok then before ++ token ∷ [] else before) → ok ≡ not failed → failed ≡ false → after ≡ before ++ token ∷ []
pushed before after token ok failed e n h = e ∙ ap (λ b. if b then before ++ token ∷ [] else before) (n ∙ ap not h)

-- the token of a step
pub some_token : {text : List ℕ} {from : ℕ} (found : Option QirToken) (token : QirToken) → found ≡ Some token → IsNext text from (found_of text (Ok found)) → IsNext text from (Ok (Some (token_of text token)))
some_token {text} {from} found token e next = subst (λ r. IsNext text from (found_of text (Ok r))) e next

pub no_token : {text : List ℕ} {from : ℕ} (found : Option QirToken) → found ≡ None → IsNext text from (found_of text (Ok found)) → IsNext text from (Ok None)
no_token {text} {from} found e next = subst (λ r. IsNext text from (found_of text (Ok r))) e next

-- the place of a token has room, and the place behind it
pub token_room : {text : List ℕ} {from : ℕ} (token : QirToken) → IsNext text from (Ok (Some (token_of text token))) → length text ≤ 1073741824 → (token.at.line + (token.end - token.start) < 2 ^ 32) × (token.at.column + (token.end - token.start) < 2 ^ 32)
token_room {text} token next few = place_room text token.start token.at (token.end - token.start) next.stands.1.place few (omega (arith, next.stands.1.ordered, next.stands.1.inside))

pub token_size : {text : List ℕ} {from : ℕ} (token : QirToken) → IsNext text from (Ok (Some (token_of text token))) → length (take (token.end - token.start) (drop token.start text)) ≡ token.end - token.start
token_size {text} token next = length-take-le (token.end - token.start) (drop token.start text) (omega (arith, next.stands.1.ordered, next.stands.1.inside, length-drop token.start text))

pub token_place : {text : List ℕ} {from : ℕ} (token : QirToken) (at : Span) → IsNext text from (Ok (Some (token_of text token))) → at ≡ place_behind token.at (take (token.end - token.start) (drop token.start text)) → at ≡ place_of text token.end
token_place {text} token at next e =
    let size : token.start + (token.end - token.start) ≡ token.end = omega (arith, next.stands.1.ordered) in
    e ∙ ap (λ p. place_behind p (take (token.end - token.start) (drop token.start text))) next.stands.1.place ∙ place_on text token.start (token.end - token.start) ∙ ap (place_of text) size

-- ---- how far gaps go

no_gap : (lead : Lead) → (lead ≡ l.Blank → ⊥) → (lead ≡ l.Semicolon → ⊥) → is_gap (lead_in lead) ≡ false
no_gap l.Blank b s = absurd (b refl)
no_gap l.Semicolon b s = absurd (s refl)
no_gap _ b s = refl

module _ (text : List ℕ) (size : ℕ) (inside : size < length text) where
  abbrev head : ℕ
  head = get_or text size 0

  split : drop size text ≡ head ∷ drop (size + 1) text
  split = drop_more text size 0 inside

  pub no_gap_here : (lead : Lead) → lead_in lead ≡ lead_of head → (lead ≡ l.Blank → ⊥) → (lead ≡ l.Semicolon → ⊥) → (gaps : List (List ℕ)) → Skips gaps text (drop size text) → SkipsGaps text size
  no_gap_here lead e b s gaps skips = record { gaps = gaps; inside = omega (arith, inside); skipped = skips; ends = subst BeginsNoGap (sym split) (ap is_gap (sym e) ∙ no_gap lead b s) }

  pub blank_more : (gaps : List (List ℕ)) → Skips gaps text (drop size text) → x.Blank ≡ lead_of head → (size + 1 ≤ length text) × (more : List (List ℕ)) × Skips more text (drop (size + 1) text)
  blank_more gaps skips e = (omega (arith, inside), gaps ++ (head ∷ []) ∷ [], skips_more gaps text (drop size text) (head ∷ []) (drop (size + 1) text) skips split (inl (head, refl, subst (LeadIs head) (sym e) (lead_is head))))

  pub comment_more : (gaps : List (List ℕ)) → Skips gaps text (drop size text) → x.Semicolon ≡ lead_of head → (rest : List ℕ) (count : ℕ) → rest ≡ drop (size + 1) text → count ≡ run (passes InLine) rest → (size + (1 + count) ≤ length text) × (more : List (List ℕ)) × Skips more text (drop (size + (1 + count)) text)
  comment_more gaps skips e rest count r n =
      let c : GapHolds (head ∷ rest) (suc (run (λ d. not (ends_line d)) rest)) = comment_holds head rest (subst (LeadIs head) (sym e) (lead_is head)) in
      let here : drop size text ≡ head ∷ rest = split ∙ ap (λ l. head ∷ l) (sym r) in
      let one : 1 + count ≡ suc (run (λ d. not (ends_line d)) rest) = omega (arith, n) in
      let far : drop (size + (1 + count)) text ≡ drop (suc (run (λ d. not (ends_line d)) rest)) (head ∷ rest) = sym (drop-drop (1 + count) size text) ∙ ap (drop (1 + count)) here ∙ ap (λ k. drop k (head ∷ rest)) one in (
        omega (arith, c.inside, ap length here, length-drop size text, one),
        gaps ++ take (suc (run (λ d. not (ends_line d)) rest)) (head ∷ rest) ∷ [],
        skips_more gaps text (drop size text) (take (suc (run (λ d. not (ends_line d)) rest)) (head ∷ rest)) (drop (size + (1 + count)) text) skips
            (here ∙ sym (take-append-drop (suc (run (λ d. not (ends_line d)) rest)) (head ∷ rest)) ∙ ap (λ l. take (suc (run (λ d. not (ends_line d)) rest)) (head ∷ rest) ++ l) (sym far))
            (subst (λ l. IsGap (take (suc (run (λ d. not (ends_line d)) rest)) (head ∷ rest)) l) (sym far) c.gap),
      )

-- ---- the next token

-- what the first token of a text is, from its step
pub holds_at : (E : List ℕ) (first : ℕ) (rest : List ℕ) (step : x.Step) → E ≡ first ∷ rest → step ≡ step_by (lead_of first) first E → StepHolds E step
holds_at E first rest step e h = subst (λ s. StepHolds E s) (sym h) (subst (λ l. StepHolds l (step_by (lead_of first) first l)) (sym e) (step_right first rest))

module _ (text : List ℕ) (from size : ℕ) (G : List ℕ) (g : G ≡ drop from text) (before : from ≤ length text) (gap : SkipsGaps G size) where
  abbrev start : ℕ
  start = from + size

  pub start_inside : start ≤ length text
  start_inside = omega (arith, gap.inside, ap length g, length-drop from text, before)

  skipped_here : Skips gap.gaps (drop from text) (drop start text)
  skipped_here = subst (λ l. Skips gap.gaps l (drop start text)) g (subst (λ l. Skips gap.gaps G l) (ap (drop size) g ∙ drop-drop size from text) gap.skipped)

  module _ (place : Span) (p : place ≡ place_of text start) (E : List ℕ) (e : E ≡ drop start text) where
    pub next_ok : (kind : QirKind) (n : ℕ) → TokenHolds E (kind_of (take n E) kind) n → IsNext text from (Ok (Some (token_of text (record { kind = kind; start = start; end = start + n; at = place }))))
    next_ok kind n h =
        let t : TokenHolds (drop start text) (kind_of (take n (drop start text)) kind) n = subst (λ l. TokenHolds l (kind_of (take n l) kind) n) e h in
        let size_is : start + n - start ≡ n = omega arith in
        record {
          gaps = gap.gaps;
          at = start;
          forward = omega arith;
          skipped = skipped_here;
          stands = (
            refl,
            record {
              ordered = omega (arith, t.some);
              inside = omega (arith, t.inside, length-drop start text, start_inside, t.some);
              place = p;
              spells = subst (λ m. Spells (take m (drop start text)) (kind_of (take m (drop start text)) kind)) (sym size_is) t.spells;
              longest = subst (λ m. IsLongest (drop start text) (take m (drop start text))) (sym size_is) (longest_of (drop start text) n t.inside t.longest);
              well_formed = subst (λ m. is_misformed (take m (drop start text)) (kind_of (take m (drop start text)) kind) ≡ false) (sym size_is) t.well_formed;
            },
          );
        }

    pub next_err : (rule : TextRule) → BreaksBy E (number_of rule) → IsNext text from (Err (breach_of (record { rule = rule; at = place })))
    next_err rule h = record { gaps = gap.gaps; at = start; forward = omega arith; skipped = skipped_here; stands = (start_inside, p, subst (λ l. BreaksBy l (number_of rule)) e h) }

  pub next_none : start ≡ length text → IsNext text from (Ok None)
  next_none e = record { gaps = gap.gaps; at = start; forward = omega arith; skipped = skipped_here; stands = e }
