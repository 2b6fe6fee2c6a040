-- Readers of lists of tokens by what holds of the values that they give. The numbers and bytes of the tokens are
-- within their ranges, and so are those of what is read.
use Rattle.std.proofs.Common.{ℕ, zero, suc, ◌+◌, ◌<◌, ◌≤◌, ◌^◌, Bool, true, false, cond, List, [], ◌∷◌, length, Option, Some, None, Ok, Err, arith}
use Rattle.std.proofs.lemmas.List.Sums.{sum_by-cons}
use Rattle.std.specs.Prelude.{All, FitsSigned}
use Rattle.std.specs.Int.{w64}
use Rattle.std.specs.List.{AllByRecursion, sum_by}
use Rattle.grammar_parts.specs.Reading.{syntax, deep, Outcome, Reader, done, ◌>>=◌, and_then, heads, taken, take_one, take_never, choose, take_many}
use Rattle.qir_module.specs.Module.{IsNumber, IsByte}
use Rattle.qir_module.specs.Tokens.{TokenKind, Token, bytes_meant}
use Rattle.qir_module.specs.Tokens as t
use Rattle.grammar_parts.specs.Part.{nothing_kept}
use Rattle.grammar_parts.specs.Kinds.{among}
use Rattle.qir_module.specs.Words.{kind}
use Rattle.qir_module.specs.Reader.{take_strictly, taken_strictly, ◌▹◌, read_comma, read_typed, read_separated, read_in_parens}

-- the number or the bytes of a token are within their ranges
abbrev pub IsFit : TokenKind → Type 0
IsFit (t.Number z) = FitsSigned w64 z
IsFit (t.Register n) = IsNumber n
IsFit (t.Target n) = IsNumber n
IsFit (t.Block n) = IsNumber n
IsFit (t.Constant n) = IsNumber n
IsFit (t.Bytes body) = (length (bytes_meant body) < 2 ^ 32) × All IsByte (bytes_meant body)
IsFit _ = Unit {0}

-- the tokens are, and they are few
pub record AreFit (ts : List Token) : Type 0 where
  pub few : length ts < 2 ^ 32
  pub each : AllByRecursion (λ x. IsFit x.kind) ts

-- so many tokens at least were taken, this holds of their number and the value, and what is left is fit
abbrev pub Good : {A : Type 0} → (ℕ → A → Type 0) → ℕ → Outcome Token A → Type 0
Good Q n (Ok r) = (taken : ℕ) × AreFit r.1 × (taken + length r.1 ≤ n) × Q taken r.0
Good Q n (Err e) = Unit {0}

-- this holds of what the reader gives of fit tokens
pub record Yields {A : Type 0} (Q : ℕ → A → Type 0) (r : Reader Token A) : Type 0 where
  pub gives : (ts : List Token) → AreFit ts → Good Q (length ts) (r ts)

-- this holds of the value, if there is one
abbrev pub IfThere : {A : Type 0} → (A → Type 0) → Option A → Type 0
IfThere Q None = Unit {0}
IfThere Q (Some a) = Q a

-- a token at least was taken, and nothing is said of the value
abbrev pub Any : {A : Type 0} → ℕ → A → Type 0
Any taken a = 1 ≤ taken

-- a token at least was taken, and as many as the value weighs, and this holds of the value
pub record Weighs {A : Type 0} (weight : A → ℕ) (Q : A → Type 0) (taken : ℕ) (a : A) : Type 0 where
  pub some : 1 ≤ taken
  pub enough : weight a ≤ taken
  pub holds : Q a

-- the same of a list
pub record AreWeighed {A : Type 0} (weight : A → ℕ) (Q : A → Type 0) (taken : ℕ) (xs : List A) : Type 0 where
  pub few : length xs ≤ taken
  pub enough : sum_by weight xs ≤ taken
  pub each : AllByRecursion Q xs

pub fit_behind : (x : Token) (ts : List Token) → AreFit (x ∷ ts) → AreFit ts
fit_behind x ts h = record { few = omega (arith, h.few); each = h.each.1 }

-- ---- one reader behind another

good_behind : {A : Type 0} (Q : ℕ → A → Type 0) (u m n : ℕ) (out : Outcome Token A) → u + m ≤ n → Good (λ v a. Q (u + v) a) m out → Good Q n out
good_behind Q u m n (Ok r) l (v, fit, k, q) = (u + v, fit, omega (arith, l, k), q)
good_behind Q u m n (Err e) l h = tt

good_then : {A B : Type 0} (P : ℕ → A → Type 0) (Q : ℕ → B → Type 0) (n : ℕ) (out : Outcome Token A) (f : A → Reader Token B) → Good P n out
    → ((u : ℕ) (a : A) → P u a → Yields (λ v b. Q (u + v) b) (f a)) → Good Q n (and_then out f)
good_then P Q n (Ok (a, rest)) f (u, fit, l, p) k = good_behind Q u (length rest) n (f a rest) l ((k u a p).gives rest fit)
good_then P Q n (Err e) f h k = tt

pub yields_then : {A B : Type 0} {P : ℕ → A → Type 0} {Q : ℕ → B → Type 0} {r : Reader Token A} {f : A → Reader Token B} → Yields P r
    → ((u : ℕ) (a : A) → P u a → Yields (λ v b. Q (u + v) b) (f a)) → Yields Q (r >>= f)
yields_then {P = P} {Q = Q} {r = r} {f = f} h k = record { gives = λ ts fit. good_then P Q (length ts) (r ts) f (h.gives ts fit) k }

pub yields_done : {A : Type 0} {Q : ℕ → A → Type 0} {a : A} → Q 0 a → Yields Q (done a)
yields_done q = record { gives = λ ts fit. (0, fit, omega arith, q) }

good_more : {A : Type 0} (P Q : ℕ → A → Type 0) (n : ℕ) (out : Outcome Token A) → n < 2 ^ 32 → ((u : ℕ) (a : A) → u < 2 ^ 32 → P u a → Q u a) → Good P n out → Good Q n out
good_more P Q n (Ok r) few k (u, fit, l, p) = (u, fit, l, k u r.0 (omega (arith, few, l)) p)
good_more P Q n (Err e) few k h = tt

-- from what is said another thing follows
pub yields_more : {A : Type 0} {P Q : ℕ → A → Type 0} {r : Reader Token A} → ((u : ℕ) (a : A) → u < 2 ^ 32 → P u a → Q u a) → Yields P r → Yields Q r
yields_more {P = P} {Q = Q} {r = r} k h = record { gives = λ ts fit. good_more P Q (length ts) (r ts) fit.few k (h.gives ts fit) }

-- ---- one token

good_taken : {A : Type 0} (Q : ℕ → A → Type 0) (x : Token) (ts : List Token) (o : Option A) → AreFit ts → IfThere (Q 1) o → Good Q (length (x ∷ ts)) (taken x ts o)
good_taken Q x ts (Some a) fit h = (1, fit, omega arith, h)
good_taken Q x ts None fit h = tt

pub yields_one : {A : Type 0} {Q : ℕ → A → Type 0} (test : Token → Option A) → ((x : Token) → IsFit x.kind → IfThere (Q 1) (test x)) → Yields Q (take_one test)
yields_one {A} {Q} test k = record { gives = at }
  where
    at : (ts : List Token) → AreFit ts → Good Q (length ts) (take_one test ts)
    at [] fit = tt
    at (x ∷ ts) fit = good_taken Q x ts (test x) (fit_behind x ts fit) (k x fit.each.0)

any_there : {A : Type 0} (o : Option A) → IfThere (Any 1) o
any_there None = tt
any_there (Some a) = omega arith

-- a token of which nothing is said
pub yields_any : {A : Type 0} (test : Token → Option A) → Yields Any (take_one test)
yields_any test = yields_one test (λ x fit. any_there (test x))

good_strictly : {A : Type 0} (Q : ℕ → A → Type 0) (x : Token) (ts : List Token) (o wide : Option A) → AreFit ts → IfThere (Q 1) o → Good Q (length (x ∷ ts)) (taken_strictly x ts o wide)
good_strictly Q x ts (Some a) wide fit h = (1, fit, omega arith, h)
good_strictly Q x ts None (Some a) fit h = tt
good_strictly Q x ts None None fit h = tt

pub yields_strictly : {A : Type 0} {Q : ℕ → A → Type 0} (strict wide : Token → Option A) → ((x : Token) → IsFit x.kind → IfThere (Q 1) (strict x)) → Yields Q (take_strictly strict wide)
yields_strictly {A} {Q} strict wide k = record { gives = at }
  where
    at : (ts : List Token) → AreFit ts → Good Q (length ts) (take_strictly strict wide ts)
    at [] fit = tt
    at (x ∷ ts) fit = good_strictly Q x ts (strict x) (wide x) (fit_behind x ts fit) (k x fit.each.0)

pub yields_any_strictly : {A : Type 0} (strict wide : Token → Option A) → Yields Any (take_strictly strict wide)
yields_any_strictly strict wide = yields_strictly strict wide (λ x fit. any_there (strict x))

good_never : {A : Type 0} (Q : ℕ → A → Type 0) (n : ℕ) (x : Token) (ts : List Token) (b : Bool) → Good Q n (cond b (Err (deep (x ∷ ts))) (Err (syntax (x ∷ ts))))
good_never Q n x ts true = tt
good_never Q n x ts false = tt

pub yields_never : {A : Type 0} {Q : ℕ → A → Type 0} (test : Token → Bool) → Yields Q (take_never {A = A} test)
yields_never {A} {Q} test = record { gives = at }
  where
    at : (ts : List Token) → AreFit ts → Good Q (length ts) (take_never {A = A} test ts)
    at [] fit = tt
    at (x ∷ ts) fit = good_never Q (length (x ∷ ts)) x ts (test x)

-- ---- choices and lists

good_choice : {A : Type 0} (Q : ℕ → A → Type 0) (n : ℕ) (b : Bool) (x y : Outcome Token A) → Good Q n x → Good Q n y → Good Q n (cond b x y)
good_choice Q n true x y h k = h
good_choice Q n false x y h k = k

pub yields_choice : {A : Type 0} {Q : ℕ → A → Type 0} {test : Token → Bool} {r s : Reader Token A} → Yields Q r → Yields Q s → Yields Q (choose test r s)
yields_choice {Q = Q} {test = test} {r = r} {s = s} h k = record { gives = λ ts fit. good_choice Q (length ts) (heads test ts) (r ts) (s ts) (h.gives ts fit) (k.gives ts fit) }

good_cons : {A : Type 0} (weight : A → ℕ) (Q : A → Type 0) (u m n : ℕ) (a : A) (out : Outcome Token (List A)) → u + m ≤ n → Weighs weight Q u a → Good (AreWeighed weight Q) m out
    → Good (AreWeighed weight Q) n (and_then out (λ items rest. Ok (a ∷ items, rest)))
good_cons weight Q u m n a (Ok (items, rest)) l q (v, fit, k, h) =
    (u + v, fit, omega (arith, l, k), record { few = omega (arith, h.few, q.some); enough = omega (arith, h.enough, q.enough, sum_by-cons weight a items); each = (q.holds, h.each) })
good_cons weight Q u m n a (Err e) l q h = tt

module _ {S A : Type 0} (weight : A → ℕ) (Q : A → Type 0) (test : S → Token → Bool) (r : S → Reader Token A) (next : S → A → S) (h : (s : S) → Yields (Weighs weight Q) (r s)) where
  good_next : (n m : ℕ) (s : S) (out : Outcome Token A) → Good (Weighs weight Q) m out
      → ((a : A) (rest : List Token) → AreFit rest → Good (AreWeighed weight Q) (length rest) (take_many test r next n (next s a) rest))
      → Good (AreWeighed weight Q) m (and_then out (λ a rest. and_then (take_many test r next n (next s a) rest) (λ items rest. Ok (a ∷ items, rest))))
  good_next n m s (Ok (a, rest)) (u, fit, l, q) more = good_cons weight Q u (length rest) m a (take_many test r next n (next s a) rest) l q (more a rest fit)
  good_next n m s (Err e) g more = tt

  good_none : (n : ℕ) (ts : List Token) → AreFit ts → length ts ≤ n → Good (AreWeighed weight Q) n (Ok ([], ts))
  good_none n ts fit l = (0, fit, omega (arith, l), record { few = omega arith; enough = omega arith; each = tt })

  good_many : (n : ℕ) (s : S) (ts : List Token) → AreFit ts → Good (AreWeighed weight Q) (length ts) (take_many test r next n s ts)
  good_many zero s ts fit = good_none (length ts) ts fit (omega arith)
  good_many (suc n) s ts fit =
      good_choice (AreWeighed weight Q) (length ts) (heads (test s) ts) _ _ (good_next n (length ts) s (r s ts) ((h s).gives ts fit) (λ a rest fit. good_many n (next s a) rest fit)) (good_none (length ts) ts fit (omega arith))

  pub yields_many : (s : S) → Yields (AreWeighed weight Q) (λ ts. take_many test r next (length ts) s ts)
  yields_many s = record { gives = λ ts fit. good_many (length ts) s ts fit }

-- ---- the readers of a module's parts that give a value of any kind

-- nothing weighs anything
abbrev pub nought : {A : Type 0} → A → ℕ
nought a = 0

-- what holds with some tokens taken holds with more
pub record Grows {A : Type 0} (Q : ℕ → A → Type 0) : Type 0 where
  pub more : (v u : ℕ) (a : A) → v ≤ u → Q v a → Q u a

pub plain : {A : Type 0} {Q : A → Type 0} → Grows (λ u a. Q a)
plain = record { more = λ v u a l q. q }

pub weighs_more : {A : Type 0} {weight : A → ℕ} {Q : A → Type 0} → Grows (Weighs weight Q)
weighs_more = record { more = λ v u a l q. record { some = omega (arith, l, q.some); enough = omega (arith, l, q.enough); holds = q.holds } }

pub weighed_more : {A : Type 0} {weight : A → ℕ} {Q : A → Type 0} → Grows (AreWeighed weight Q)
weighed_more = record { more = λ v u a l q. record { few = omega (arith, l, q.few); enough = omega (arith, l, q.enough); each = q.each } }

pub any_grows : {A : Type 0} → Grows {A = A} Any
any_grows = record { more = λ v u a l q. omega (arith, l, q) }

-- behind a token of which nothing is said
pub behind_one : {A B : Type 0} {Q : ℕ → B → Type 0} (test : Token → Option A) {r : Reader Token B} → Grows Q → Yields Q r → Yields Q (take_one test ▹ r)
behind_one {Q = Q} test g h = yields_then (yields_any test) (λ u a s. yields_more (λ v b few q. g.more v (u + v) b (omega arith) q) h)

pub behind_strictly : {A B : Type 0} {Q : ℕ → B → Type 0} (strict wide : Token → Option A) {r : Reader Token B} → Grows Q → Yields Q r → Yields Q (take_strictly strict wide ▹ r)
behind_strictly {Q = Q} strict wide g h = yields_then (yields_any_strictly strict wide) (λ u a s. yields_more (λ v b few q. g.more v (u + v) b (omega arith) q) h)

-- the first token of what weighs nothing
pub counted : {A B : Type 0} {Q : B → Type 0} (test : Token → Option A) {r : Reader Token B} → Yields (λ u b. Q b) r → Yields (Weighs nought Q) (take_one test ▹ r)
counted test h = yields_then (yields_any test) (λ u a s. yields_more (λ v b few q. record { some = omega (arith, s); enough = omega arith; holds = q }) h)

pub yields_typed : {A : Type 0} {Q : ℕ → A → Type 0} {r : Bool → Reader Token A} → Grows Q → ((b : Bool) → Yields Q (r b)) → Yields Q (read_typed r)
yields_typed g h = yields_choice (behind_one _ g (h false)) (behind_one _ g (h true))

-- the same, where nothing is said of how many tokens are taken behind the type
pub counted_typed : {A : Type 0} {Q : A → Type 0} {r : Bool → Reader Token A} → ((b : Bool) → Yields (λ u a. Q a) (r b)) → Yields (Weighs nought Q) (read_typed r)
counted_typed h = yields_choice (counted _ (h false)) (counted _ (h true))

-- one item at least
pub record AreSome {A : Type 0} (Q : A → Type 0) (taken : ℕ) (xs : List A) : Type 0 where
  pub some : 0 < length xs
  pub few : length xs ≤ taken
  pub each : AllByRecursion Q xs

pub yields_separated : {A : Type 0} {Q : A → Type 0} {item : Reader Token A} → Yields (Weighs nought Q) item → Yields (AreSome Q) (read_separated item)
yields_separated {A} {Q} {item} h =
    yields_then h (λ u x q. yields_then (yields_many nought Q (λ s. among kind (44 ∷ [])) (λ s. read_comma ▹ item) (λ s a. s) (λ s. behind_one _ weighs_more h) nothing_kept)
    (λ v xs qs. yields_done (record { some = omega arith; few = omega (arith, q.some, qs.few); each = (q.holds, qs.each) })))

pub yields_in_parens : {A : Type 0} {Q : A → Type 0} (set : List ℕ) {item : Reader Token A} → Yields (Weighs nought Q) item → Yields (λ u xs. AllByRecursion Q xs) (read_in_parens set item)
yields_in_parens {A} {Q} set {item} h =
    behind_one _ plain (yields_then {P = λ u xs. AllByRecursion Q xs} (yields_choice (yields_more (λ u xs few q. q.each) (yields_separated h)) (yields_done tt)) (λ u xs q. behind_one _ plain (yields_done q)))
