-- One step of the lexer: from a byte of the text over gaps to a token, its end or a refusal.
use Rattle.std.proofs.Common.{◌≡◌, ℕ, ◌+◌, ◌-◌, ◌<◌, ◌≤◌, ◌^◌, Bool, true, false, List, [], ◌∷◌, ◌++◌, length, take, drop, IsUtf8, Option, None, Some, Result, Ok, Err, MatchBool, sym, refl, ap, ◌∙◌, subst, arith, length-append, length-take-le, append_assoc, take-append-drop}
use Rattle.std.specs.Str.{chars, IsCharBoundary}
use Rattle.std.proofs.lemmas.Str.{chars-append, chars-nil, IsUtf8-take, IsUtf8-append, IsCharBoundary-at_seam, encodes-chars}
use Rattle.std.proofs.lemmas.Bool.{false≢true}
use Rattle.qasm_lexer.specs.Characters.{is_blank}
use Rattle.qasm_lexer.proofs.NumberSteps.{front_chars}
use lib.Utf8.{encodes}
use Rattle.std.proofs.lemmas.List.{take_at, drop_at}
use Rattle.qq_base.specs.declared.refusal.Span.{Span}
use Rattle.qq_base.specs.declared.refusal.Refusal.{Refusal}
use Rattle.qq_base.specs.declared.rule.Rule.{Rule}
use Rattle.qq_base.specs.declared.rule.Rule.TheVariants.{OpenComment}
use Rattle.qasm_lexer.specs.Spelling.{Spells, AsToken, IsTooLarge}
use Rattle.qasm_lexer.specs.Scan.{Cuts, StopsAt, SkipsGaps, BeginsNoGap}
use Rattle.qasm_lexer.specs.Tokens.{place_behind, place_of, first_place, rest_from, spelling_of, Skips, BeginsComment, IsLongest, IsRefused, Stands, IsNext}
use Rattle.qasm_lexer.specs.declared.token.Token.{Token}
use Rattle.qasm_lexer.specs.declared.token.TokenKind.{TokenKind}
use Rattle.qasm_lexer.proofs.Starts.{spelled_some}
use Rattle.qasm_lexer.proofs.NumberFinds.{Found}
use Rattle.qasm_lexer.proofs.Places.{place-append, place_small}

-- a text in two parts: where the second one begins
pub record Parts (text front rest : List ℕ) : Type 0 where
  pub split : text ≡ front ++ rest
  pub front_utf8 : IsUtf8 front
  pub rest_utf8 : IsUtf8 rest

module _ {text front rest : List ℕ} (parts : Parts text front rest) where
  at_length : (at : ℕ) → at ≡ length text - length rest → length front ≡ at
  at_length at e = omega (arith, e, ap length parts.split, length-append front rest)

  pub rest_is : (at : ℕ) → at ≡ length text - length rest → drop at text ≡ rest
  rest_is at e = ap (drop at) parts.split ∙ drop_at front rest at (at_length at e)

  pub front_is : (at : ℕ) → at ≡ length text - length rest → take at text ≡ front
  front_is at e = ap (take at) parts.split ∙ take_at front rest at (at_length at e)

  pub boundary_is : (at : ℕ) → at ≡ length text - length rest → IsCharBoundary text at
  boundary_is at e = subst (IsCharBoundary text) (at_length at e) (IsCharBoundary-at_seam text front rest parts.split parts.rest_utf8)

-- the text up to `from`, and what stands there
pub parts_at : (text here : List ℕ) (from : ℕ) → IsUtf8 text → IsCharBoundary text from → here ≡ drop from text → IsUtf8 here → Parts text (take from text) here
parts_at text here from utf8 boundary e here_utf8 = record {
  split = sym (take-append-drop from text) ∙ ap (λ x. take from text ++ x) (sym e);
  front_utf8 = IsUtf8-take text from utf8 boundary;
  rest_utf8 = here_utf8;
}

pub parts_on : {text front here cut rest : List ℕ} → Parts text front here → (c : Cuts here cut rest) → Parts text (front ++ c.bytes) rest
parts_on {text} {front} {here} {cut} {rest} parts c = record {
  split = parts.split ∙ ap (λ x. front ++ x) c.split ∙ sym (append_assoc front c.bytes rest);
  front_utf8 = IsUtf8-append front c.bytes parts.front_utf8 c.utf8;
  rest_utf8 = c.rest_utf8;
}

-- the place behind the gaps
pub place_on : (text here rest gap : List ℕ) (from at : ℕ) → IsUtf8 text → IsCharBoundary text from → here ≡ drop from text → IsUtf8 here → (c : Cuts here gap rest) → at ≡ length text - length rest → place_behind (place_of text from) gap ≡ place_of text at
place_on text here rest gap from at utf8 boundary e here_utf8 c is =
    let start = parts_at text here from utf8 boundary e here_utf8 in
    let parts = parts_on start c in
    sym (ap (λ x. place_behind first_place (chars x)) (front_is parts at is)
    ∙ ap (place_behind first_place) (chars-append (take from text) c.bytes start.front_utf8 ∙ ap (λ x. chars (take from text) ++ x) c.spelled)
    ∙ place-append first_place (chars (take from text)) gap)

module _ {text here rest : List ℕ} {from : ℕ} {is_open : Bool} (utf8 : IsUtf8 text) (boundary : IsCharBoundary text from) (there : here ≡ drop from text) (here_utf8 : IsUtf8 here) (skip : SkipsGaps here rest is_open) (at : ℕ) (is : at ≡ length text - length rest) where
  parts : Parts text (take from text ++ skip.has_rest.1.bytes) rest
  parts = parts_on (parts_at text here from utf8 boundary there here_utf8) skip.has_rest.1

  rest_at : rest_from text at ≡ chars rest
  rest_at = ap chars (rest_is parts at is)

  forward : from ≤ at
  forward =
      let long = length-take-le from text boundary.0 in
      omega (arith, at_length parts at is, length-append (take from text) skip.has_rest.1.bytes, long)

  skipped : Skips skip.gaps (rest_from text from) (rest_from text at)
  skipped = subst (λ x. Skips skip.gaps x (rest_from text at)) (ap chars there) (subst (λ x. Skips skip.gaps (chars here) x) (sym rest_at) skip.skipped)

  next : (version : Bool) (found : Result (Option Token) Refusal) → Stands text at version found → IsNext text from version found
  next version found stands = record { gaps = skip.gaps; at = at; boundary = boundary_is parts at is; forward = forward; skipped = skipped; stands = stands }

  -- a refusal
  pub next_refused : (version : Bool) (rule : Rule) (place : Span) → place ≡ place_of text at → IsRefused version (chars rest) rule → IsNext text from version (Err (record { rule = rule; at = place }))
  next_refused version rule place p refused = next version _ (p, subst (λ x. IsRefused version x rule) (sym rest_at) refused)

  -- the end
  pub next_end : (version : Bool) → chars rest ≡ [] → IsNext text from version (Ok None)
  next_end version none =
      let empty : rest ≡ [] = sym (encodes-chars rest parts.rest_utf8) ∙ ap encodes none in
      next version _ (omega (arith, is, ap length empty))

  -- a token
  pub next_token : (version : Bool) (kind : TokenKind) (end : List ℕ) (stop : ℕ) (place : Span) → stop ≡ length text - length end → place ≡ place_of text at → ¬ (BeginsComment (chars rest)) → Found version rest kind end → IsNext text from version (Ok (Some (record { kind = kind; start = at; end = stop; at = place })))
  next_token version kind end stop place stop_is p no_comment found =
      next version _ (
        refl,
        subst (λ x. ¬ (BeginsComment x)) (sym rest_at) no_comment,
        record {
          ordered = longer found.0 found.1.spelled found.2;
          starts = boundary_is parts at is;
          ends = boundary_is behind stop stop_is;
          place = p;
          spells = subst (λ x. Spells version x kind) (sym spelling) found.2;
          longest = subst (λ x. IsLongest version x (spelling_of text token) (rest_from text stop)) (sym rest_at) (subst (λ x. IsLongest version (chars rest) x (rest_from text stop)) (sym spelling) (subst (λ x. IsLongest version (chars rest) found.0 x) (sym end_at) found.3));
          fits = subst (λ x. ¬ (IsTooLarge x kind)) (sym spelling) found.4;
        },
      )
    where
      token : Token
      token = record { kind = kind; start = at; end = stop; at = place }

      behind : Parts text ((take from text ++ skip.has_rest.1.bytes) ++ found.1.bytes) end
      behind = parts_on parts found.1

      end_at : rest_from text stop ≡ chars end
      end_at = ap chars (rest_is behind stop stop_is)

      stop_length : stop ≡ at + length found.1.bytes
      stop_length = omega (arith, at_length behind stop stop_is, at_length parts at is, length-append (take from text ++ skip.has_rest.1.bytes) found.1.bytes)

      spelling : spelling_of text token ≡ found.0
      spelling =
          ap (λ x. chars (take (stop - at) x)) (rest_is parts at is ∙ found.1.split)
          ∙ ap chars (take_at found.1.bytes end (stop - at) (omega (arith, stop_length)))
          ∙ found.1.spelled

      longer : (front : List ℕ) → chars found.1.bytes ≡ front → Spells version front kind → at < stop
      longer front e s = by_bytes found.1.bytes e stop_length
        where
          by_bytes : (bytes : List ℕ) → chars bytes ≡ front → stop ≡ at + length bytes → at < stop
          by_bytes [] e len = absurd (spelled_some version (AsToken kind (subst (λ x. Spells version x kind) (sym e ∙ chars-nil) s)))
          by_bytes (b ∷ bs) e len = omega (arith, len)

-- the place that the scanner gives
pub place_here : {text here rest : List ℕ} (from at : ℕ) (place : Span) (bytes gap : List ℕ) → IsUtf8 text → IsCharBoundary text from → here ≡ drop from text → IsUtf8 here → Cuts here gap rest → here ≡ bytes ++ rest → at ≡ length text - length rest → place ≡ place_of text from → place_behind place (chars bytes) ≡ place_of text at
place_here {text} {here} {rest} from at place bytes gap utf8 boundary e here_utf8 c whole is p =
    ap (λ x. place_behind x (chars bytes)) p ∙ ap (place_behind (place_of text from)) (front_chars bytes c whole) ∙ place_on text here rest gap from at utf8 boundary e here_utf8 c is

-- and its numbers have room
pub place_room : (text : List ℕ) (from : ℕ) (place : Span) (n m k : ℕ) → IsUtf8 text → IsCharBoundary text from → place ≡ place_of text from → n + from ≡ length text → m + k ≡ n → length text ≤ 4194304 → (place.line + m < 2 ^ 32) × (place.column + m < 2 ^ 32)
place_room text from place n m k utf8 boundary p here front few =
    let small = place_small text from utf8 boundary in
    (omega (arith, small.0, ap (λ x. x.line) p, here, front, few), omega (arith, small.1, ap (λ x. x.column) p, here, front, few))

-- what stands where no gap begins
pub no_gap : {cs : List ℕ} (is_open : Bool) → is_open ≡ false → MatchBool is_open (IsRefused false cs OpenComment) (BeginsNoGap cs) → BeginsNoGap cs
no_gap true h m = absurd (false≢true (sym h))
no_gap false h m = m

pub an_open_comment : {cs : List ℕ} (is_open : Bool) → is_open ≡ true → MatchBool is_open (IsRefused false cs OpenComment) (BeginsNoGap cs) → IsRefused false cs OpenComment
an_open_comment true h m = m
an_open_comment false h m = absurd (false≢true h)

pub first_no_blank : (cs ds : List ℕ) (c : ℕ) → BeginsNoGap cs → cs ≡ c ∷ ds → is_blank c ≡ false
first_no_blank cs ds c gap e = subst (StopsAt is_blank) e gap.no_blank
