-- The tokens of a text as a function are those of the definition, and a text spells one module or is spoilt in one way.
use Rattle.std.proofs.Common.{◌≡◌, inl, inr, ℕ, zero, suc, ◌+◌, ◌-◌, ◌<◌, ◌≤◌, false, List, [], ◌∷◌, ◌++◌, length, take, drop, Some, None, Result, Ok, Err, refl, sym, ap, ◌∙◌, subst, arith}
use Rattle.std.proofs.lemmas.List.{length-drop, drop-drop, take-append-drop}
use Rattle.qq_base.specs.declared.refusal.Span.{Span}
use Rattle.qir_module.specs.Module.{Module}
use Rattle.qir_module.specs.Tokens.{TokenKind, Token, Breach, first_place, place_behind, place_of, Skips, Spells, IsLongest, is_misformed, BreaksBy, IsNext, Reads, Tokens}
use Rattle.qir_module.specs.Lexer.{Step, Gap, Found, Fails, step_of, with_token, lexed_behind, lexed_from, lexed}
use Rattle.qir_module.specs.Grammar.{module_part}
use Rattle.qir_module.specs.Spoilt.{IsTextOf, IsSpoilt, IsRefused, IsAnswer, IsTextAnswer}
use Rattle.qir_module.specs.Reader.{answer, answer_of, read_text}
use Rattle.std.specs.declared.alloc.Global.{Global}
use Rattle.std.specs.declared.vec.Vec.{Vec}
use Rattle.qir_lexer.specs.declared.token.QirToken.{QirToken}
use Rattle.qir_lexer.specs.declared.rule.TextFault.{TextFault}
use Rattle.qir_lexer.specs.declared.rule.TextFault.TheVariants.{Memory, Refused}
use Rattle.qir_lexer.specs.Rules.{breach_of}
use Rattle.qir_lexer.specs.Seen.{tokens_of, Gives, IsReading}
use Rattle.qir_lexer.proofs.Steps.{TokenHolds, GapHolds, StepHolds, longest_of}
use Rattle.qir_lexer.proofs.LeadSteps.{step_right}
use Rattle.qir_lexer.proofs.Readings.{skips_more, place_on}
use Rattle.qir_lexer.proofs.OneReading.{one_reading}
use Rattle.qir_lexer.proofs.Whole.{answer_right, one_module, one_refusal, not_refused}

-- the result of a reading from a byte on
abbrev ReadsAs : List ℕ → ℕ → Result (List Token) Breach → Type 0
ReadsAs text from (Ok tokens) = Reads text from tokens None
ReadsAs text from (Err breach) = (tokens : List Token) × Reads text from tokens (Some breach)

-- behind these gaps, which begin at one byte, the text is read from another on
pub record Comes (text : List ℕ) (from start : ℕ) (at : Span) (cs : List ℕ) : Type 0 where
  pub gaps : List (List ℕ)
  pub forward : from ≤ start
  pub inside : start ≤ length text
  pub place : at ≡ place_of text start
  pub skipped : Skips gaps (drop from text) (drop start text)
  pub here : cs ≡ drop start text

comes_end : {text : List ℕ} {from start : ℕ} {at : Span} {cs : List ℕ} → Comes text from start at cs → start ≡ length text → IsNext text from (Ok None)
comes_end {start = start} h e = record { gaps = h.gaps; at = start; forward = h.forward; skipped = h.skipped; stands = e }

module _ (text : List ℕ) (from start : ℕ) (at : Span) (c : ℕ) (cs : List ℕ) (h : Comes text from start at (c ∷ cs)) where
  behind_is : (size : ℕ) → drop size (c ∷ cs) ≡ drop (start + size) text
  behind_is size = ap (drop size) h.here ∙ drop-drop size start text

  place_is : (size : ℕ) → place_behind at (take size (c ∷ cs)) ≡ place_of text (start + size)
  place_is size = ap (λ p. place_behind p (take size (c ∷ cs))) h.place ∙ ap (λ l. place_behind (place_of text start) (take size l)) h.here ∙ place_on text start size

  inside_is : (size : ℕ) → 0 < size → size ≤ length (c ∷ cs) → start + size ≤ length text
  inside_is size p l = omega (arith, l, ap length h.here, length-drop start text, p)

  behind_gap : (size : ℕ) → GapHolds (c ∷ cs) size → Comes text from (start + size) (place_behind at (take size (c ∷ cs))) (drop size (c ∷ cs))
  behind_gap size g = record {
    gaps = h.gaps ++ take size (c ∷ cs) ∷ [];
    forward = omega (arith, h.forward);
    inside = inside_is size g.some g.inside;
    place = place_is size;
    skipped = subst (λ l. Skips (h.gaps ++ take size (c ∷ cs) ∷ []) (drop from text) l) (behind_is size) (skips_more h.gaps (drop from text) (drop start text) (take size (c ∷ cs)) (drop size (c ∷ cs)) h.skipped (sym h.here ∙ sym (take-append-drop size (c ∷ cs))) g.gap);
    here = behind_is size;
  }

  behind_token : (kind : TokenKind) (size : ℕ) → TokenHolds (c ∷ cs) kind size → Comes text (start + size) (start + size) (place_behind at (take size (c ∷ cs))) (drop size (c ∷ cs))
  behind_token kind size t = record { gaps = []; forward = omega arith; inside = inside_is size t.some t.inside; place = place_is size; skipped = refl; here = behind_is size }

  token_next : (kind : TokenKind) (size : ℕ) → TokenHolds (c ∷ cs) kind size → IsNext text from (Ok (Some (record { kind = kind; start = start; end = start + size; at = at })))
  token_next kind size t =
      let r : TokenHolds (drop start text) kind size = subst (λ l. TokenHolds l kind size) h.here t in
      let same : start + size - start ≡ size = omega arith in
      record {
        gaps = h.gaps;
        at = start;
        forward = h.forward;
        skipped = h.skipped;
        stands = (
          refl,
          record {
            ordered = omega (arith, r.some);
            inside = inside_is size t.some t.inside;
            place = h.place;
            spells = subst (λ m. Spells (take m (drop start text)) kind) (sym same) r.spells;
            longest = subst (λ m. IsLongest (drop start text) (take m (drop start text))) (sym same) (longest_of (drop start text) size r.inside r.longest);
            well_formed = subst (λ m. is_misformed (take m (drop start text)) kind ≡ false) (sym same) r.well_formed;
          },
        );
      }

  breach_next : (rule : ℕ) → BreaksBy (c ∷ cs) rule → IsNext text from (Err (record { rule = rule; at = at }))
  breach_next rule b = record { gaps = h.gaps; at = start; forward = h.forward; skipped = h.skipped; stands = (h.inside, h.place, subst (λ l. BreaksBy l rule) h.here b) }

  one_token : (token : Token) (out : Result (List Token) Breach) → IsNext text from (Ok (Some token)) → ReadsAs text token.end out → ReadsAs text from (with_token token out)
  one_token token (Ok xs) n r = (n, r)
  one_token token (Err breach) n (xs, r) = (token ∷ xs, (n, r))

  by_step : (rest : ℕ → Result (List Token) Breach) (step : Step) → StepHolds (c ∷ cs) step → ((size : ℕ) → 0 < size → (back : ℕ) → Comes text back (start + size) (place_behind at (take size (c ∷ cs))) (drop size (c ∷ cs)) → ReadsAs text back (rest size)) → ReadsAs text from (lexed_behind rest start at step)
  by_step rest (Gap size) g go = go size g.some from (behind_gap size g)
  by_step rest (Found kind size) t go = one_token (record { kind = kind; start = start; end = start + size; at = at }) (rest size) (token_next kind size t) (go size t.some (start + size) (behind_token kind size t))
  by_step rest (Fails rule) b go = ([], breach_next rule b)

lexed_reads : (text : List ℕ) (n from start : ℕ) (at : Span) (cs : List ℕ) → Comes text from start at cs → length text ≤ start + n → ReadsAs text from (lexed_from n start at cs)
lexed_reads text zero from start at cs h l = comes_end h (omega (arith, h.inside, l))
lexed_reads text (suc n) from start at [] h l = comes_end h (omega (arith, h.inside, ap length h.here, length-drop start text))
lexed_reads text (suc n) from start at (c ∷ cs) h l =
    by_step text from start at c cs h (λ size. lexed_from n (start + size) (place_behind at (take size (c ∷ cs))) (drop size (c ∷ cs))) (step_of c cs) (step_right c cs)
    (λ size p back g. lexed_reads text n back (start + size) (place_behind at (take size (c ∷ cs))) (drop size (c ∷ cs)) g (omega (arith, l, p)))

tokens_as : (text : List ℕ) (out : Result (List Token) Breach) → ReadsAs text 0 out → Tokens text out
tokens_as text (Ok xs) h = h
tokens_as text (Err breach) h = h

pub lexed_right : (text : List ℕ) → Tokens text (lexed text)
lexed_right text = tokens_as text (lexed text) (lexed_reads text (length text) 0 0 first_place text (record { gaps = []; forward = omega arith; inside = omega arith; place = refl; skipped = refl; here = refl }) (omega arith))

-- what gives the tokens of a text gives its one reading
pub no_other : (text : List ℕ) (result : Result (Vec QirToken Global) TextFault) → Gives text result → (reading : Result (List Token) Breach) → Tokens text reading → IsReading text reading result
no_other text (Ok tokens) g reading t = one_reading text reading (Ok (tokens_of text tokens.items)) t g
no_other text (Err (Refused refusal)) g reading t = one_reading text reading (Err (breach_of refusal)) t g
no_other text (Err Memory) g reading t = tt

-- ---- texts

pub text_right : (text : List ℕ) → IsTextAnswer text (read_text text)
text_right text = at (lexed text) (lexed_right text)
  where
    of : (tokens : List Token) → Tokens text (Ok tokens) → (out : Result Module Breach) → IsAnswer text tokens out → IsTextAnswer text out
    of tokens t (Ok m) a = (tokens, t, a)
    of tokens t (Err breach) a = inr (tokens, t, a)

    at : (out : Result (List Token) Breach) → Tokens text out → IsTextAnswer text (answer_of text out)
    at (Ok tokens) t = of tokens t (answer text tokens) (answer_right text tokens)
    at (Err breach) t = inl t

abbrev oks : List Token → Result (List Token) Breach
oks xs = Ok xs

abbrev errs : Breach → Result (List Token) Breach
errs b = Err b

same_tokens : (text : List ℕ) (xs ys : List Token) → Tokens text (Ok xs) → Tokens text (Ok ys) → xs ≡ ys
same_tokens text xs ys x y = let e : oks xs ≡ oks ys = one_reading text (Ok xs) (Ok ys) x y in cc

pub one_text : (text : List ℕ) (m n : Module) → IsTextOf text m → IsTextOf text n → m ≡ n
one_text text m n (xs, x, d) (ys, y, e) = one_module ys m n (subst (λ l. (module_part false).derives l m) (same_tokens text xs ys x y) d) e

pub one_breach : (text : List ℕ) (a b : Breach) → IsSpoilt text a → IsSpoilt text b → a ≡ b
one_breach text a b (inl x) (inl y) = let e : errs a ≡ errs b = one_reading text (Err a) (Err b) x y in cc
one_breach text a b (inl x) (inr (ys, y, f)) = absurd (cc (one_reading text (Err a) (Ok ys) x y))
one_breach text a b (inr (xs, x, f)) (inl y) = absurd (cc (one_reading text (Ok xs) (Err b) x y))
one_breach text a b (inr (xs, x, f)) (inr (ys, y, g)) = one_refusal text ys a b (subst (λ l. IsRefused text l a) (same_tokens text xs ys x y) f) g

pub not_spoilt : (text : List ℕ) (m : Module) (breach : Breach) → IsTextOf text m → IsSpoilt text breach → ⊥
not_spoilt text m breach (xs, x, d) (inl y) = cc (one_reading text (Ok xs) (Err breach) x y)
not_spoilt text m breach (xs, x, d) (inr (ys, y, f)) = not_refused text ys m breach (subst (λ l. (module_part false).derives l m) (same_tokens text xs ys x y) d) f
