-- Taking the next token.
use Rattle.std.proofs.Common.{◌≡◌, ℕ, ◌<◌, cond, List, [], ◌∷◌, length, drop, true, false, Some, None, Ok, Err, sym, ap, ◌∙◌, arith, eq-eqb}
use Rattle.grammar_parts.specs.Reading.{deep, taken}
use Rattle.qir_module.specs.declared.function.Function.{Function}
use Rattle.qir_module.specs.Tokens.{Token}
use Rattle.qir_module.specs.Words.{kind, function_named}
use Rattle.qir_module.specs.Grammar.{and_then, name_at, named_function, with_place, or_none}
use Rattle.qir_module.specs.Reader.{read_sign, read_function_name, function_at, taken_strictly}
use Rattle.qir_lexer.specs.Seen.{kind_of}
use Rattle.qir_lexer.specs.declared.token.QirKind.TheVariants as k
use Rattle.qir_reader.specs.declared.peek.Next.{Next}
use Rattle.qir_reader.specs.Seen.{Read, Peeks, head_kind}

-- a token of this kind stands next, and is taken
pub sign_taken : (k : ℕ) (old new : List Token) → 0 < k → head_kind old ≡ k → new ≡ drop 1 old → Read {X = Unit {0}} (λ x a. Unit {0}) (read_sign k) old new tt
sign_taken k [] new some is next = absurd (omega arith)
sign_taken k (t ∷ ts) new some is next = record {
  value = t;
  shown = tt;
  read = ap (λ b. taken t ts (cond b (Some t) None)) (eq-eqb (kind t) k is) ∙ ap (λ rest. Ok (t, rest)) (sym next);
}

-- something stands next where something is seen
pub some_left : (ts : List Token) (next : Next) → Peeks ts (Some next) → 0 < length ts
some_left [] next seen = absurd seen
some_left (t ∷ ts) next seen = omega arith

-- ---- the name of a function

-- the name of a token that is seen
name_seen : (t : Token) (next : Next) → t.kind ≡ kind_of next.spelling.now next.kind → next.kind ≡ k.Named → name_at t.kind ≡ Some (drop 1 next.spelling.now)
name_seen t next seen is = ap name_at (seen ∙ ap (kind_of next.spelling.now) is)

pub function_taken : (old new : List Token) (next : Next) (f : Function) → Peeks old (Some next) → next.kind ≡ k.Named
    → function_named (drop 1 next.spelling.now) ≡ Some f → new ≡ drop 1 old → read_function_name old ≡ Ok ((f, next.at), new)
function_taken [] new next f seen is found rest = absurd seen
function_taken (t ∷ ts) new next f seen is found rest =
    let one : function_at false t ≡ Some (f, next.at) =
    ap (λ o. with_place t.at (and_then o (named_function false))) (name_seen t next seen.kind is)
    ∙ ap (with_place t.at) found ∙ ap (λ at. Some (f, at)) seen.at in
    ap (λ o. taken_strictly t ts o (function_at true t)) one ∙ ap (λ more. Ok ((f, next.at), more)) (sym rest)

pub function_unknown : (old : List Token) (next : Next) → Peeks old (Some next) → next.kind ≡ k.Named
    → function_named (drop 1 next.spelling.now) ≡ None → read_function_name old ≡ Err (deep old)
function_unknown [] next seen is found = absurd seen
function_unknown (t ∷ ts) next seen is found =
    let none : function_at false t ≡ None =
    ap (λ o. with_place t.at (and_then o (named_function false))) (name_seen t next seen.kind is) ∙ ap (with_place t.at) found in
    let wide : function_at true t ≡ Some (or_none (function_named (drop 1 next.spelling.now)), t.at) =
    ap (λ o. with_place t.at (and_then o (named_function true))) (name_seen t next seen.kind is) in
    ap (λ o. taken_strictly t ts o (function_at true t)) none ∙ ap (taken_strictly t ts None) wide
