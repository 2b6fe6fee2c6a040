-- Readers of lists of tokens, one for each way to make a part, and what a reader of a part answers.
use Rattle.std.specs.Prelude.{cond, ◌≡◌, ℕ, zero, suc, Bool, false, List, [], ◌∷◌, ◌++◌, length, Option, Some, None, Result, Ok, Err}
use Rattle.grammar_parts.specs.Part.{Part, nothing_kept}

-- Where a reader stops short: no list of the wide grammar goes on so, or only a limit forbids the token.
pub data Refusal (T : Type 0) : Type 0 where
  syntax : List T → Refusal T
  deep : List T → Refusal T

-- the value and the rest of the tokens, or the refusal with the rest that it stands at
abbrev pub Outcome : Type 0 → Type 0 → Type 0
Outcome T A = Result (A × List T) (Refusal T)

abbrev pub Reader : Type 0 → Type 0 → Type 0
Reader T A = List T → Outcome T A

-- The token behind these does not go on.
abbrev pub Stops : {T A : Type 0} → Part T A → List T → List T → Type 0
Stops {T} {A} p xs rest = (t : T) (more : List T) → rest ≡ t ∷ more → p.begins (xs ++ t ∷ []) → ⊥

-- What a reader of the part p answers, where q is the part without limits: it takes the longest front
-- that begins q. An answer Ok is a whole part behind which no wide part goes on either.
abbrev pub Answers : {T A : Type 0} → Part T A → Part T A → List T → Outcome T A → Type 0
Answers {T} {A} p q ts (Ok r) = (xs : List T) × (ts ≡ xs ++ r.1) × p.derives xs r.0 × Stops q xs r.1
Answers {T} {A} p q ts (Err (syntax rest)) = (xs : List T) × (ts ≡ xs ++ rest) × p.begins xs × ((a : A) → q.derives xs a → ⊥) × Stops q xs rest
Answers {T} {A} p q ts (Err (deep rest)) = (xs : List T) × (t : T) × (more : List T) × (rest ≡ t ∷ more) × (ts ≡ xs ++ rest) × p.begins xs × (p.begins (xs ++ t ∷ []) → ⊥) × q.begins (xs ++ t ∷ [])

-- The same as a record, from which a proof can read the parts and the outcome.
pub record Takes {T A : Type 0} (p q : Part T A) (ts : List T) (out : Outcome T A) : Type 0 where
  pub holds : Answers p q ts out

abbrev pub and_then : {T A B : Type 0} → Outcome T A → (A → Reader T B) → Outcome T B
and_then (Ok r) f = f r.0 r.1
and_then (Err e) f = Err e

-- one reader behind another
infixl 10 ◌>>=◌
abbrev pub ◌>>=◌ : {T A B : Type 0} → Reader T A → (A → Reader T B) → Reader T B
r >>= s = λ ts. and_then (r ts) s

-- ---- readers of lists, one for each way to make a part

abbrev pub done : {T A : Type 0} → A → Reader T A
done a ts = Ok (a, ts)

-- a token by its value
abbrev pub taken : {T A : Type 0} → T → List T → Option A → Outcome T A
taken t ts (Some a) = Ok (a, ts)
taken t ts None = Err (syntax (t ∷ ts))

abbrev pub take_one : {T A : Type 0} → (T → Option A) → Reader T A
take_one test [] = Err (syntax [])
take_one test (t ∷ ts) = taken t ts (test t)

-- what has no room: a token that begins the part is too deep
abbrev pub take_never : {T A : Type 0} → (T → Bool) → Reader T A
take_never test [] = Err (syntax [])
take_never test (t ∷ ts) = cond (test t) (Err (deep (t ∷ ts))) (Err (syntax (t ∷ ts)))

abbrev pub heads : {T : Type 0} → (T → Bool) → List T → Bool
heads test [] = false
heads test (t ∷ ts) = test t

-- the first part where the next token begins it, else the second
abbrev pub choose : {T A : Type 0} → (T → Bool) → Reader T A → Reader T A → Reader T A
choose test r s ts = cond (heads test ts) (r ts) (s ts)

-- Parts as long as the next token begins one. The number bounds them, and the count of the tokens is enough.
abbrev pub take_many : {S T A : Type 0} → (S → T → Bool) → (S → Reader T A) → (S → A → S) → ℕ → S → Reader T (List A)
take_many test r next zero s ts = Ok ([], ts)
take_many test r next (suc n) s ts = choose (test s) (λ ts. and_then (r s ts) (λ a rest. and_then (take_many test r next n (next s a) rest) (λ items rest. Ok (a ∷ items, rest)))) (λ ts. Ok ([], ts)) ts

-- any number of equal parts
abbrev pub take_repeated : {T A : Type 0} → (T → Bool) → Reader T A → Reader T (List A)
take_repeated test r ts = take_many (λ s. test) (λ s. r) (λ s a. s) (length ts) nothing_kept ts
