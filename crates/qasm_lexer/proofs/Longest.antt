-- The longest names, texts and hardware qubits that characters begin.
use Rattle.std.proofs.Common.{◌≡◌, ℕ, ◌+◌, ◌≤◌, Bool, true, not, ◌&&◌, ◌||◌, List, [], ◌∷◌, ◌++◌, length, sym, refl, ap, ◌∙◌, subst, arith, length-append, append_assoc}
use Rattle.std.specs.List.{list_all}
use Rattle.std.specs.Char.{is_ascii_digit}
use Rattle.std.proofs.lemmas.Bool.Decides.{Decides-eqb}
use Rattle.qasm_lexer.specs.Characters.{ends_line, is_digit_in, begins_name, continues_name}
use Rattle.qasm_lexer.specs.Spelling.{IsNameLike, IsQuoted, IsSpelled}
use Rattle.qasm_lexer.specs.Scan.{StopsAt, passes}
use Rattle.qasm_lexer.specs.Tokens.{IsLongest}
use Rattle.qasm_lexer.specs.declared.scan.Class.TheVariants.{InText}
use Rattle.qasm_lexer.proofs.Passing.{and_true}
use Rattle.qasm_lexer.proofs.Numerals.{cons_head, cons_tail}
use Rattle.qasm_lexer.proofs.Starts.{AtLetter, AtQuote, AtDollar, letter_start, quote_start, spelled_at}
use Rattle.qasm_lexer.proofs.Fronts.{run_longest}

-- names and words
pub name_continues : (c : ℕ) → begins_name c ≡ true → continues_name c ≡ true
name_continues c h = ap (λ x. x || is_ascii_digit c) h

-- each character of a name goes on one
name_all : (cs : List ℕ) → IsNameLike cs → list_all continues_name cs ≡ true
name_all [] is = absurd is
name_all (c ∷ cs) is = and_true (name_continues c is.0) is.1

pub name_longest : (version : Bool) (cs behind : List ℕ) → IsNameLike cs → StopsAt continues_name behind → IsLongest version (cs ++ behind) cs behind
name_longest version [] behind is stops = absurd is
name_longest version (c ∷ cs) behind is stops = record {
  split = refl;
  longest = λ other more e s.
      let like = spelled_at AtLetter version c (cs ++ behind) other more (letter_start c is.0) e s in
      run_longest continues_name (c ∷ cs) behind other more e stops (name_all other like);
}

-- texts
pub text_longest : (version : Bool) (cs behind : List ℕ) (quote : ℕ) (body : List ℕ) → IsQuoted cs quote body → IsLongest version (cs ++ behind) cs behind
text_longest version cs behind quote body is =
    subst (λ x. IsLongest version (x ++ behind) x behind) (sym is.split) (record { split = refl; longest = λ other more e s. bound other more e s })
  where
    quote_stops : StopsAt (passes (InText quote)) (quote ∷ behind)
    quote_stops = ap (λ b. not b && not (ends_line quote)) ((Decides-eqb quote quote).1 refl)

    bound : (other more : List ℕ) → (quote ∷ body ++ quote ∷ []) ++ behind ≡ other ++ more → IsSpelled version other → length other ≤ length (quote ∷ body ++ quote ∷ [])
    bound other more e s =
        let h = spelled_at AtQuote version quote ((body ++ quote ∷ []) ++ behind) other more (quote_start quote is.quotes) e s in
        let tails = e ∙ ap (λ x. x ++ more) h.2.split in
        let q : h.0 ≡ quote = sym (cons_head tails) in
        let both : body ++ (quote ∷ behind) ≡ h.1 ++ (quote ∷ more) = sym (append_assoc body (quote ∷ []) behind) ∙ cons_tail tails ∙ append_assoc h.1 (h.0 ∷ []) more ∙ ap (λ x. h.1 ++ x ∷ more) q in
        let short = run_longest (passes (InText quote)) body (quote ∷ behind) h.1 (quote ∷ more) both quote_stops (ap (λ x. list_all (passes (InText x)) h.1) (sym q) ∙ h.2.closed) in
        omega (arith, short, ap length h.2.split, length-append h.1 (h.0 ∷ []), length-append body (quote ∷ []))

-- hardware qubits
pub dollar_bound : (version : Bool) (digits behind : List ℕ) → StopsAt (is_digit_in 10) behind → (other more : List ℕ) → 36 ∷ digits ++ behind ≡ other ++ more → IsSpelled version other → length other ≤ length digits + 1
dollar_bound version digits behind stops other more e s =
    let h = spelled_at AtDollar version 36 (digits ++ behind) other more refl e s in
    let short = run_longest (is_digit_in 10) digits behind h.1.0 more (cons_tail (e ∙ ap (λ x. x ++ more) h.1.1)) stops h.1.2.each in
    omega (arith, short, ap length h.1.1)

pub dollar_longest : (version : Bool) (digits behind : List ℕ) → StopsAt (is_digit_in 10) behind → IsLongest version (36 ∷ digits ++ behind) (36 ∷ digits) behind
dollar_longest version digits behind stops = record { split = refl; longest = λ other more e s. let bound = dollar_bound version digits behind stops other more e s in omega (arith, bound) }
