-- One token, as the readers of lists take it.
use Rattle.std.proofs.Common.{◌≡◌, ℕ, zero, suc, ◌<◌, ◌≤◌, Bool, true, false, ◌||◌, cond, List, [], ◌∷◌, Option, Some, None, Result, Ok, Err, refl, sym, ap, subst, ◌∙◌}
use Rattle.std.specs.Prelude.{◌==◌, ◌≢◌}
use Rattle.std.proofs.lemmas.Bool.{lt-ltb, le-ltb}
use Rattle.qasm_lexer.specs.declared.token.Token.{Token}
use Rattle.qasm_lexer.specs.declared.token.TokenKind.{TokenKind}
use Rattle.qasm_lexer.specs.declared.token.Keyword.{Keyword}
use Rattle.qasm_lexer.specs.declared.token.Mark.{Mark}
use Rattle.qasm_lexer.specs.Sizes.{bytes_of}
use Rattle.grammar_parts.specs.Reading.{Outcome, Reader, syntax, deep, heads, taken, take_one, take_never}
use Rattle.grammar_parts.specs.Kinds.{has, found_in, is_some, by, marked, picked, with_token, is_free, take_allowed, take_opening}
use Rattle.qasm_expr.specs.TokenKinds.{bits_of, kind_of, kind, keyword_kind, mark_kind}
use Rattle.qasm_expr.specs.Reader.{begins, read_opener}
use Rattle.qasm_parser.specs.State.{State, Read, Takes, Skipped, first}
use Rattle.qasm_parser.specs.declared.stop.Stop.{Stop}
use Rattle.qasm_parser.specs.Kinds.{is_mark, is_word}
use Rattle.qasm_parser.specs.Shows.{IsDeeper, IsPower}
use Rattle.qasm_parser.proofs.Signs.{marks, words}

-- ---- what the next token is

pub at_first : (P : List Token → Type 0) (ts : List Token) (x : Token) → first ts ≡ Some x → ((rest : List Token) → P (x ∷ rest)) → P ts
at_first P [] x e f = absurd (cc)
at_first P (y ∷ ts) x e f = let same : x ≡ y = cc in subst (λ z. P (z ∷ ts)) same (f ts)

pub at_end : (P : List Token → Type 0) (ts : List Token) → first ts ≡ None → P [] → P ts
at_end P [] e f = f
at_end P (y ∷ ts) e f = absurd (cc)

-- the token that is skipped is the next one
pub skipped_here : {old new : State} (s : Skipped old new) (x : Token) → first old.left ≡ Some x → old.left ≡ x ∷ new.left
skipped_here {old} {new} s x e = let same : Some s.token ≡ Some x = sym (ap first s.here) ∙ e in let is : s.token ≡ x = cc in s.here ∙ ap (λ z. z ∷ new.left) is

module _ (text : List ℕ) (set : List ℕ) where
  pub heads_filled : (ts : List Token) → heads (begins text set) ts ≡ true → first ts ≢ None
  heads_filled [] e = absurd (cc)
  heads_filled (x ∷ ts) e = λ no. cc

  -- a set of kinds that is told by a test of the kind
  pub told_first : (f : Bool → TokenKind → Bool) → ((bits : Bool) (k : TokenKind) → has set (kind_of bits k) ≡ f bits k) → (ts : List Token) (x : Token) → first ts ≡ Some x → f (is_some (bits_of (bytes_of text x))) x.kind ≡ heads (begins text set) ts
  told_first f sets ts x e = at_first (λ l. f (is_some (bits_of (bytes_of text x))) x.kind ≡ heads (begins text set) l) ts x e (λ rest. sym (sets (is_some (bits_of (bytes_of text x))) x.kind))

  pub told_end : (ts : List Token) → first ts ≡ None → false ≡ heads (begins text set) ts
  told_end ts e = at_end (λ l. false ≡ heads (begins text set) l) ts e refl

-- ---- a token that is taken

module _ {X A : Type 0} {shows : State → X → A → Type 0} (reader : Reader Token A) {old new : State} (s : Skipped old new) where
  pub took : (x : Token) → first old.left ≡ Some x → (v : A) (y : X) → ((rest : List Token) → reader (x ∷ rest) ≡ Ok (v, rest)) → shows new y v → Read 1 shows reader old new y
  took x e v y read shown = record { value = v; shown = shown; read = ap reader (skipped_here s x e) ∙ read new.left; after = s.after }

-- a token that has no value, or none at all
pub one_missed : {A : Type 0} (test : Token → Option A) (ts : List Token) (x : Token) → first ts ≡ Some x → test x ≡ None → take_one test ts ≡ Err (syntax ts)
one_missed test ts x e none = at_first (λ l. take_one test l ≡ Err (syntax l)) ts x e (λ rest. ap (taken x rest) none)

pub one_ended : {A : Type 0} (test : Token → Option A) (ts : List Token) → first ts ≡ None → take_one test ts ≡ Err (syntax ts)
one_ended test ts e = at_end (λ l. take_one test l ≡ Err (syntax l)) ts e refl

never_hit : {A : Type 0} (test : Token → Bool) (x : Token) (rest : List Token) → test x ≡ true → take_never {A = A} test (x ∷ rest) ≡ Err (deep (x ∷ rest))
never_hit {A} test x rest e = ap (λ b. cond {A = Outcome Token A} b (Err (deep (x ∷ rest))) (Err (syntax (x ∷ rest)))) e

never_missed : {A : Type 0} (test : Token → Bool) (x : Token) (rest : List Token) → test x ≡ false → take_never {A = A} test (x ∷ rest) ≡ Err (syntax (x ∷ rest))
never_missed {A} test x rest e = ap (λ b. cond {A = Outcome Token A} b (Err (deep (x ∷ rest))) (Err (syntax (x ∷ rest)))) e

-- ---- a token that opens a level

module _ {A : Type 0} (test : Token → Option A) (room : ℕ) (ts : List Token) where
  pub opening_ended : first ts ≡ None → take_opening room test ts ≡ Err (syntax ts)
  opening_ended e = at_end (λ l. take_opening room test l ≡ Err (syntax l)) ts e (by_room room)
    where
      by_room : (r : ℕ) → take_opening r test [] ≡ Err (syntax [])
      by_room zero = refl
      by_room (suc r) = refl

  pub opening_missed : (x : Token) → first ts ≡ Some x → test x ≡ None → take_opening room test ts ≡ Err (syntax ts)
  opening_missed x e none = at_first (λ l. take_opening room test l ≡ Err (syntax l)) ts x e (by_room room)
    where
      by_room : (r : ℕ) (rest : List Token) → take_opening r test (x ∷ rest) ≡ Err (syntax (x ∷ rest))
      by_room zero rest = never_missed (by test) x rest (ap is_some none)
      by_room (suc r) rest = ap (taken x rest) none

  pub opening_shut : (x : Token) (v : A) → room ≡ 0 → first ts ≡ Some x → test x ≡ Some v → take_opening room test ts ≡ Err (deep ts)
  opening_shut x v shut e some = at_first (λ l. take_opening room test l ≡ Err (deep l)) ts x e (λ rest. ap (λ r. take_opening r test (x ∷ rest)) shut ∙ never_hit (by test) x rest (ap is_some some))

pub opening_taken : {A : Type 0} (test : Token → Option A) (room inner : ℕ) (x : Token) (v : A) → room ≡ suc inner → test x ≡ Some v → (rest : List Token) → take_opening room test (x ∷ rest) ≡ Ok (v, rest)
opening_taken test room inner x v e some rest = ap (λ r. take_opening r test (x ∷ rest)) e ∙ ap (taken x rest) some

-- ---- a token that a chain may have

module _ {A : Type 0} (test : Token → Option A) (used : ℕ) where
  pub chain_free : (reader : Reader Token A) (ts : List Token) → used < 64 → take_allowed (is_free (Some 64) used) (by test) reader ts ≡ reader ts
  chain_free reader ts lt = ap (λ b. cond {A = Reader Token A} b reader (take_never (by test)) ts) (lt-ltb used 64 lt)

  pub chain_full : (reader : Reader Token A) (ts : List Token) (x : Token) (v : A) → 64 ≤ used → first ts ≡ Some x → test x ≡ Some v → take_allowed (is_free (Some 64) used) (by test) reader ts ≡ Err (deep ts)
  chain_full reader ts x v le e some = ap (λ b. cond {A = Reader Token A} b reader (take_never (by test)) ts) (le-ltb used 64 le) ∙ at_first (λ l. take_never {A = A} (by test) l ≡ Err (deep l)) ts x e (λ rest. never_hit (by test) x rest (ap is_some some))

  by_either : (b : Bool) (P : Bool → Type 0) → P true → P false → P b
  by_either true P free full = free
  by_either false P free full = full

  pub chain_ended : (ts : List Token) → first ts ≡ None → take_allowed (is_free (Some 64) used) (by test) (take_one test) ts ≡ Err (syntax ts)
  chain_ended ts e = by_either (is_free (Some 64) used) (λ b. take_allowed b (by test) (take_one test) ts ≡ Err (syntax ts)) (one_ended test ts e) (at_end (λ l. take_never {A = A} (by test) l ≡ Err (syntax l)) ts e refl)

  pub chain_missed : (ts : List Token) (x : Token) → first ts ≡ Some x → test x ≡ None → take_allowed (is_free (Some 64) used) (by test) (take_one test) ts ≡ Err (syntax ts)
  chain_missed ts x e none = by_either (is_free (Some 64) used) (λ b. take_allowed b (by test) (take_one test) ts ≡ Err (syntax ts)) (one_missed test ts x e none) (at_first (λ l. take_never {A = A} (by test) l ≡ Err (syntax l)) ts x e (λ rest. never_missed (by test) x rest (ap is_some none)))

-- ---- values of a token

module _ (text : List ℕ) (x : Token) where
  pub marked_as : (mark : Mark) (b : Bool) → is_mark x.kind mark ≡ b → marked (kind text) (mark_kind mark) x ≡ cond b (Some x) None
  marked_as mark b e = ap (λ c. cond c (Some x) None) (marks (is_some (bits_of (bytes_of text x))) x.kind mark ∙ e)

  pub worded_as : (word : Keyword) (b : Bool) → is_word x.kind word ≡ b → marked (kind text) (keyword_kind word) x ≡ cond b (Some x) None
  worded_as word b e = ap (λ c. cond c (Some x) None) (words (is_some (bits_of (bytes_of text x))) x.kind word ∙ e)

  pub picked_as : {A : Type 0} (rows : List (ℕ × A)) (o : Option A) → found_in rows (kind text x) ≡ o → picked (kind text) rows x ≡ with_token x o
  picked_as rows o e = ap (with_token x) e

-- ---- words and marks

alone : (b : Bool) → (b || false) ≡ b
alone true = refl
alone false = refl

-- the word that is seen
pub seen_word : (text : List ℕ) (word : Keyword) (ts : List Token) (x : Token) → first ts ≡ Some x → is_word x.kind word ≡ heads (begins text (keyword_kind word ∷ [])) ts
seen_word text word ts x e = at_first (λ l. is_word x.kind word ≡ heads (begins text (keyword_kind word ∷ [])) l) ts x e (λ rest. sym (words (is_some (bits_of (bytes_of text x))) x.kind word) ∙ sym (alone (kind text x == keyword_kind word)))

module _ (text : List ℕ) (mark : Mark) (ts : List Token) where
  -- the token that is seen
  pub seen_mark : (x : Token) → first ts ≡ Some x → is_mark x.kind mark ≡ heads (begins text (mark_kind mark ∷ [])) ts
  seen_mark x e = at_first (λ l. is_mark x.kind mark ≡ heads (begins text (mark_kind mark ∷ [])) l) ts x e (λ rest. sym (marks (is_some (bits_of (bytes_of text x))) x.kind mark) ∙ sym (alone (kind text x == mark_kind mark)))

  marked_at : (b : Bool) (x : Token) (rest : List Token) → heads (begins text (mark_kind mark ∷ [])) (x ∷ rest) ≡ b → marked (kind text) (mark_kind mark) x ≡ cond b (Some x) None
  marked_at b x rest e = ap (λ c. cond c (Some x) None) (sym (alone (kind text x == mark_kind mark)) ∙ e)

-- ---- the operator of a power

module _ (text : List ℕ) (mark : Mark) (room used : ℕ) where
  abbrev read_power_mark : Reader Token Token
  read_power_mark = take_allowed (is_free (Some 64) used) (by (marked (kind text) (mark_kind mark))) (read_opener text room (mark_kind mark))

  pub power_missed : (ts : List Token) → heads (begins text (mark_kind mark ∷ [])) ts ≡ false → read_power_mark ts ≡ Err (syntax ts)
  power_missed ts e = by_free (is_free (Some 64) used)
    where
      missed : (l : List Token) → heads (begins text (mark_kind mark ∷ [])) l ≡ false → take_never {A = Token} (by (marked (kind text) (mark_kind mark))) l ≡ Err (syntax l)
      missed [] h = refl
      missed (x ∷ rest) h = never_missed (by (marked (kind text) (mark_kind mark))) x rest (ap is_some (marked_at text mark (x ∷ rest) false x rest h))

      opened : (l : List Token) → heads (begins text (mark_kind mark ∷ [])) l ≡ false → read_opener text room (mark_kind mark) l ≡ Err (syntax l)
      opened [] h = opening_ended (marked (kind text) (mark_kind mark)) room [] refl
      opened (x ∷ rest) h = opening_missed (marked (kind text) (mark_kind mark)) room (x ∷ rest) x refl (marked_at text mark (x ∷ rest) false x rest h)

      by_free : (b : Bool) → take_allowed b (by (marked (kind text) (mark_kind mark))) (read_opener text room (mark_kind mark)) ts ≡ Err (syntax ts)
      by_free true = opened ts e
      by_free false = missed ts e

  pub power_full : (ts : List Token) → 64 ≤ used → heads (begins text (mark_kind mark ∷ [])) ts ≡ true → read_power_mark ts ≡ Err (deep ts)
  power_full [] le e = absurd (cc)
  power_full (x ∷ rest) le e = chain_full (marked (kind text) (mark_kind mark)) used (read_opener text room (mark_kind mark)) (x ∷ rest) x x le refl (marked_at text mark (x ∷ rest) true x rest e)

pub power_open : (mark : Mark) (room used : ℕ) (old new : State) (r : Result ℕ Stop) → used < 64 → Takes (IsDeeper room) (read_opener old.text room (mark_kind mark)) old r new → Takes (IsPower room used) (read_power_mark old.text mark room used) old r new
power_open mark room used old new (Ok x) lt h = record { value = h.value; shown = (h.shown, lt); read = chain_free (marked (kind old.text) (mark_kind mark)) used (read_opener old.text room (mark_kind mark)) old.left lt ∙ h.read; after = h.after }
power_open mark room used old new (Err e) lt h = record { longer = h.longer; read = λ no. chain_free (marked (kind old.text) (mark_kind mark)) used (read_opener old.text room (mark_kind mark)) old.left lt ∙ h.read no }
