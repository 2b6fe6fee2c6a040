-- Loops over equal parts, by the tokens that are left. `S` says which values the items that were found stand for.
use Rattle.std.proofs.Common.{◌≡◌, ℕ, zero, suc, ◌≤◌, ◌<◌, true, false, List, [], ◌∷◌, ◌++◌, length, Ok, Err, refl, sym, ap, ◌∙◌, le_refl, append_assoc, append-nil, arith}
use Rattle.qasm_lexer.specs.declared.token.Token.{Token}
use Rattle.grammar_parts.specs.Part.{nothing_kept}
use Rattle.grammar_parts.specs.Reading.{Outcome, Refusal, Reader, and_then, heads, take_many, take_repeated}
use Rattle.qasm_expr.specs.Reader.{begins}
use Rattle.qasm_parser.proofs.Listing.{some_fuel, heads_filled}

abbrev pub rest_of : {A : Type 0} → List ℕ → List ℕ → Reader Token A → ℕ → List A → Reader Token (List A)
rest_of text set item n acc ts = and_then (take_many (λ s. begins text set) (λ s. item) (λ s a. s) n nothing_kept ts) (λ more rest. Ok (acc ++ more, rest))

pub record Repeating {X A : Type 0} (text set : List ℕ) (item : Reader Token A) (S : List X → List A → Type 0) (out : Outcome Token (List A)) (found : List X) (left : List Token) : Type 0 where
  pub acc : List A
  pub fuel : ℕ
  pub sees : S found acc
  pub enough : length left ≤ fuel
  pub same : out ≡ rest_of text set item fuel acc left

module _ {A : Type 0} (text set : List ℕ) (item : Reader Token A) where
  rest_none : (n : ℕ) (acc : List A) (ts : List Token) → heads (begins text set) ts ≡ false → rest_of text set item n acc ts ≡ Ok (acc, ts)
  rest_none zero acc ts h = ap (λ l. Ok (l, ts)) (append-nil acc)
  rest_none (suc n) acc ts h = rw h (ap (λ l. Ok (l, ts)) (append-nil acc))

  rest_err : (n : ℕ) (acc : List A) (ts : List Token) (x : Refusal Token) → heads (begins text set) ts ≡ true → item ts ≡ Err x → rest_of text set item (suc n) acc ts ≡ Err x
  rest_err n acc ts x h k = rw (h, k) refl

  joined_parts : (acc : List A) (b : A) (o : Outcome Token (List A)) → and_then (and_then o (λ its r. Ok (b ∷ its, r))) (λ more r. Ok (acc ++ more, r)) ≡ and_then o (λ more r. Ok ((acc ++ b ∷ []) ++ more, r))
  joined_parts acc b (Ok r) = ap (λ l. Ok (l, r.1)) (sym (append_assoc acc (b ∷ []) r.0))
  joined_parts acc b (Err x) = refl

  rest_more : (n : ℕ) (acc : List A) (ts rest : List Token) (b : A) → heads (begins text set) ts ≡ true → item ts ≡ Ok (b, rest) → rest_of text set item (suc n) acc ts ≡ rest_of text set item n (acc ++ b ∷ []) rest
  rest_more n acc ts rest b h k = rw (h, k) (joined_parts acc b (take_many (λ s. begins text set) (λ s. item) (λ s a. s) n nothing_kept rest))

module _ {X A : Type 0} (text set : List ℕ) (item : Reader Token A) where
  pub repeating_start : (S : List X → List A → Type 0) (left : List Token) (found : List X) → S found [] → Repeating text set item S (take_repeated (begins text set) item left) found left
  repeating_start S left found e = record { acc = []; fuel = length left; sees = e; enough = le_refl _; same = sym (nil_front (take_repeated (begins text set) item left)) }
    where
      nil_front : (o : Outcome Token (List A)) → and_then o (λ more rest. Ok ([] ++ more, rest)) ≡ o
      nil_front (Ok r) = refl
      nil_front (Err x) = refl

  module _ {S : List X → List A → Type 0} {out : Outcome Token (List A)} {found : List X} {left : List Token} (g : Repeating text set item S out found left) where
    pub repeating_stop : heads (begins text set) left ≡ false → out ≡ Ok (g.acc, left)
    repeating_stop h = g.same ∙ rest_none text set item g.fuel g.acc left h

    module _ (h : heads (begins text set) left ≡ true) where
      fuel_here : (m : ℕ) × (g.fuel ≡ suc m)
      fuel_here = let enough : length left ≤ g.fuel = g.enough in some_fuel g.fuel (omega (arith, heads_filled text set left h))

      pub repeating_err : (x : Refusal Token) → item left ≡ Err x → out ≡ Err x
      unfolding fuel_here
      repeating_err x k = g.same ∙ ap (λ n. rest_of text set item n g.acc left) fuel_here.1 ∙ rest_err text set item fuel_here.0 g.acc left x h k

      pub repeating_more : (S' : List X → List A → Type 0) (next : List Token) (b : A) (found' : List X) → S' found' (g.acc ++ b ∷ []) → length next < length left → item left ≡ Ok (b, next) → Repeating text set item S' out found' next
      unfolding fuel_here
      repeating_more S' next b found' s lt k =
          let enough : length left ≤ g.fuel = g.enough in
          let is_fuel : g.fuel ≡ suc fuel_here.0 = fuel_here.1 in
          record {
            acc = g.acc ++ b ∷ [];
            fuel = fuel_here.0;
            sees = s;
            enough = omega arith;
            same = g.same ∙ ap (λ n. rest_of text set item n g.acc left) fuel_here.1 ∙ rest_more text set item fuel_here.0 g.acc left next b h k;
          }
