-- Loops over equal parts, and over lists with commas. `S` says which values the items that were found stand for.
use Rattle.std.proofs.Common.{◌≡◌, inl, inr, ℕ, zero, suc, ◌+◌, ◌≤◌, ◌<◌, Bool, true, false, List, [], ◌∷◌, ◌++◌, length, drop, Option, Some, None, Ok, Err, refl, sym, ap, subst, ◌∙◌, le_refl, length-drop, append_assoc, append-nil, arith, ◌||◌}
use Rattle.std.specs.Prelude.{◌==◌}
use Rattle.std.proofs.lemmas.Bool.{eqb-true}
use Rattle.qasm_lexer.specs.declared.token.Token.{Token}
use Rattle.grammar_parts.specs.Part.{nothing_kept}
use Rattle.grammar_parts.specs.Reading.{Outcome, Refusal, Reader, and_then, heads, take_many, take_repeated}
use Rattle.grammar_parts.specs.Kinds.{items, take_entries, take_some_list}
use Rattle.qasm_expr.specs.TokenKinds.{kind}
use Rattle.qasm_expr.specs.Grammar.{comma}
use Rattle.qasm_expr.specs.Reader.{begins, read_sign, read_listed}
use Rattle.qasm_expr.specs.Seen.{head_kind}
use Rattle.qasm_expr.proofs.Places.{Split, split_at, heads_sign, sign_yes}

some_fuel : (n : ℕ) → 0 < n → (m : ℕ) × (n ≡ suc m)
some_fuel zero lt = absurd (omega arith)
some_fuel (suc m) lt = (m, refl)

heads_filled : (text set : List ℕ) (ts : List Token) → heads (begins text set) ts ≡ true → 0 < length ts
heads_filled text set [] e = absurd (cc)
heads_filled text set (x ∷ ts) e = omega arith

-- ---- parts, as many as there are

abbrev pub rest_of : {A : Type 0} → List ℕ → List ℕ → Reader Token A → ℕ → List A → Reader Token (List A)
rest_of text set item n acc ts = and_then (take_many (λ s. begins text set) (λ s. item) (λ s a. s) n nothing_kept ts) (λ more rest. Ok (acc ++ more, rest))

pub record Repeating {X A : Type 0} (text set : List ℕ) (item : Reader Token A) (tokens : List Token) (S : List X → List A → Type 0) (from : ℕ) (out : Outcome Token (List A)) (found : List X) (at' : ℕ) : Type 0 where
  pub acc : List A
  pub fuel : ℕ
  pub sees : S found acc
  pub from_at : from ≤ at'
  pub at_end : at' ≤ length tokens
  pub enough : length (drop at' tokens) ≤ fuel
  pub same : out ≡ rest_of text set item fuel acc (drop at' tokens)

module _ {A : Type 0} (text set : List ℕ) (item : Reader Token A) where
  rest_none : (n : ℕ) (acc : List A) (ts : List Token) → heads (begins text set) ts ≡ false → rest_of text set item n acc ts ≡ Ok (acc, ts)
  rest_none zero acc ts h = ap (λ l. Ok (l, ts)) (append-nil acc)
  rest_none (suc n) acc ts h = rw h (ap (λ l. Ok (l, ts)) (append-nil acc))

  rest_err : (n : ℕ) (acc : List A) (ts : List Token) (x : Refusal Token) → heads (begins text set) ts ≡ true → item ts ≡ Err x → rest_of text set item (suc n) acc ts ≡ Err x
  rest_err n acc ts x h k = rw (h, k) refl

  joined_parts : (acc : List A) (b : A) (o : Outcome Token (List A)) → and_then (and_then o (λ its r. Ok (b ∷ its, r))) (λ more r. Ok (acc ++ more, r)) ≡ and_then o (λ more r. Ok ((acc ++ b ∷ []) ++ more, r))
  joined_parts acc b (Ok r) = ap (λ l. Ok (l, r.1)) (sym (append_assoc acc (b ∷ []) r.0))
  joined_parts acc b (Err x) = refl

  rest_more : (n : ℕ) (acc : List A) (ts rest : List Token) (b : A) → heads (begins text set) ts ≡ true → item ts ≡ Ok (b, rest) → rest_of text set item (suc n) acc ts ≡ rest_of text set item n (acc ++ b ∷ []) rest
  rest_more n acc ts rest b h k = rw (h, k) (joined_parts acc b (take_many (λ s. begins text set) (λ s. item) (λ s a. s) n nothing_kept rest))

module _ {X A : Type 0} (text set : List ℕ) (item : Reader Token A) where
  module _ (tokens : List Token) (from : ℕ) where
    pub repeating_start : (S : List X → List A → Type 0) (found : List X) → S found [] → from ≤ length tokens → Repeating text set item tokens S from (take_repeated (begins text set) item (drop from tokens)) found from
    repeating_start S found e le = record { acc = []; fuel = length (drop from tokens); sees = e; from_at = le_refl _; at_end = le; enough = le_refl _; same = sym (nil_front (take_repeated (begins text set) item (drop from tokens))) }
      where
        nil_front : (o : Outcome Token (List A)) → and_then o (λ more rest. Ok ([] ++ more, rest)) ≡ o
        nil_front (Ok r) = refl
        nil_front (Err x) = refl

    module _ {S : List X → List A → Type 0} {out : Outcome Token (List A)} {found : List X} {at' : ℕ} (g : Repeating text set item tokens S from out found at') where
      pub repeating_stop : heads (begins text set) (drop at' tokens) ≡ false → out ≡ Ok (g.acc, drop at' tokens)
      repeating_stop h = g.same ∙ rest_none text set item g.fuel g.acc (drop at' tokens) h

      module _ (h : heads (begins text set) (drop at' tokens) ≡ true) where
        fuel_here : (m : ℕ) × (g.fuel ≡ suc m)
        fuel_here = let enough : length (drop at' tokens) ≤ g.fuel = g.enough in some_fuel g.fuel (omega (arith, heads_filled text set (drop at' tokens) h))

        pub repeating_err : (x : Refusal Token) → item (drop at' tokens) ≡ Err x → out ≡ Err x
        unfolding fuel_here
        repeating_err x k = g.same ∙ ap (λ n. rest_of text set item n g.acc (drop at' tokens)) fuel_here.1 ∙ rest_err text set item fuel_here.0 g.acc (drop at' tokens) x h k

        pub repeating_more : (S' : List X → List A → Type 0) (next : ℕ) (b : A) (found' : List X) → S' found' (g.acc ++ b ∷ []) → at' < next → next ≤ length tokens → item (drop at' tokens) ≡ Ok (b, drop next tokens) → Repeating text set item tokens S' from out found' next
        unfolding fuel_here
        repeating_more S' next b found' s lt le k =
            let enough : length (drop at' tokens) ≤ g.fuel = g.enough in let le0 : from ≤ at' = g.from_at in let is_fuel : g.fuel ≡ suc fuel_here.0 = fuel_here.1 in
            record {
              acc = g.acc ++ b ∷ [];
              fuel = fuel_here.0;
              sees = s;
              from_at = omega arith;
              at_end = le;
              enough = omega (arith, length-drop next tokens, length-drop at' tokens);
              same = g.same ∙ ap (λ n. rest_of text set item n g.acc (drop at' tokens)) fuel_here.1 ∙ rest_more text set item fuel_here.0 g.acc (drop at' tokens) (drop next tokens) b h k;
            }

-- ---- lists with commas

-- where an item may come
abbrev pub onward : {A : Type 0} → List ℕ → List ℕ → Reader Token A → ℕ → List A → Reader Token (List A)
onward text set item n acc ts = and_then (take_entries (kind text) comma set item n false ts) (λ more rest. Ok (acc ++ items more, rest))

-- behind an item, where a comma may come
abbrev pub behind_item : {A : Type 0} → List ℕ → List ℕ → Reader Token A → ℕ → List A → Reader Token (List A)
behind_item text set item n acc ts = and_then (take_entries (kind text) comma set item n true ts) (λ more rest. Ok (acc ++ items more, rest))

-- the first item has to come, or an item may come
abbrev pub listed : {A : Type 0} → List ℕ → List ℕ → Reader Token A → Bool → ℕ → List A → Reader Token (List A)
listed text set item true n acc ts = take_some_list (kind text) comma set item ts
listed text set item false n acc ts = onward text set item n acc ts

pub record Listing {X A : Type 0} (text set : List ℕ) (item : Reader Token A) (tokens : List Token) (S : List X → List A → Type 0) (from : ℕ) (out : Outcome Token (List A)) (first : Bool) (found : List X) (at' : ℕ) : Type 0 where
  pub acc : List A
  pub fuel : ℕ
  pub sees : S found acc
  pub alone : first ≡ true → acc ≡ []
  pub from_at : from ≤ at'
  pub at_end : at' ≤ length tokens
  pub enough : length (drop at' tokens) ≤ fuel
  pub same : out ≡ listed text set item first fuel acc (drop at' tokens)

module _ {A : Type 0} (text set : List ℕ) (item : Reader Token A) where
  onward_none : (n : ℕ) (acc : List A) (ts : List Token) → heads (begins text set) ts ≡ false → onward text set item n acc ts ≡ Ok (acc, ts)
  onward_none zero acc ts h = ap (λ l. Ok (l, ts)) (append-nil acc)
  onward_none (suc n) acc ts h = rw h (ap (λ l. Ok (l, ts)) (append-nil acc))

  behind_none : (n : ℕ) (acc : List A) (ts : List Token) → heads (begins text (comma ∷ [])) ts ≡ false → behind_item text set item n acc ts ≡ Ok (acc, ts)
  behind_none zero acc ts h = ap (λ l. Ok (l, ts)) (append-nil acc)
  behind_none (suc n) acc ts h = rw h (ap (λ l. Ok (l, ts)) (append-nil acc))

  onward_err : (n : ℕ) (acc : List A) (ts : List Token) (x : Refusal Token) → heads (begins text set) ts ≡ true → item ts ≡ Err x → onward text set item (suc n) acc ts ≡ Err x
  onward_err n acc ts x h k = rw (h, k) refl

  joined_item : (acc : List A) (t : A) (o : Outcome Token (List (Option A))) → and_then (and_then o (λ its r. Ok (Some t ∷ its, r))) (λ its r. Ok (acc ++ items its, r)) ≡ and_then o (λ its r. Ok ((acc ++ t ∷ []) ++ items its, r))
  joined_item acc t (Ok r) = ap (λ l. Ok (l, r.1)) (sym (append_assoc acc (t ∷ []) (items r.0)))
  joined_item acc t (Err x) = refl

  onward_item : (n : ℕ) (acc : List A) (ts rest : List Token) (t : A) → heads (begins text set) ts ≡ true → item ts ≡ Ok (t, rest) → onward text set item (suc n) acc ts ≡ behind_item text set item n (acc ++ t ∷ []) rest
  onward_item n acc ts rest t h k = rw (h, k) (joined_item acc t (take_entries (kind text) comma set item n true rest))

  joined_comma : (acc : List A) (o : Outcome Token (List (Option A))) → and_then (and_then o (λ its r. Ok (None ∷ its, r))) (λ its r. Ok (acc ++ items its, r)) ≡ and_then o (λ its r. Ok (acc ++ items its, r))
  joined_comma acc (Ok r) = refl
  joined_comma acc (Err x) = refl

  behind_comma : (n : ℕ) (acc : List A) (x : Token) (rest : List Token) → heads (begins text (comma ∷ [])) (x ∷ rest) ≡ true → read_sign text comma (x ∷ rest) ≡ Ok (x, rest) → behind_item text set item (suc n) acc (x ∷ rest) ≡ onward text set item n acc rest
  behind_comma n acc x rest h k = rw (h, k) (joined_comma acc (take_entries (kind text) comma set item n false rest))

module _ {X A : Type 0} (text set : List ℕ) (item : Reader Token A) where
  module _ (tokens : List Token) (from : ℕ) where
    pub listing_start : (S : List X → List A → Type 0) (filled : Bool) (found : List X) → S found [] → from ≤ length tokens → Listing text set item tokens S from (read_listed text set filled item (drop from tokens)) filled found from
    listing_start S true found e le = record { acc = []; fuel = length (drop from tokens); sees = e; alone = λ h. refl; from_at = le_refl _; at_end = le; enough = le_refl _; same = refl }
    listing_start S false found e le = record { acc = []; fuel = length (drop from tokens); sees = e; alone = λ h. refl; from_at = le_refl _; at_end = le; enough = le_refl _; same = refl }

    module _ {S : List X → List A → Type 0} {out : Outcome Token (List A)} {first : Bool} {found : List X} {at' : ℕ} (g : Listing text set item tokens S from out first found at') where
      pub listing_stop : (first || heads (begins text set) (drop at' tokens)) ≡ false → out ≡ Ok (g.acc, drop at' tokens)
      listing_stop h = by_first first refl
        where
          by_first : (b : Bool) → first ≡ b → out ≡ Ok (g.acc, drop at' tokens)
          by_first true e = let w : true ≡ false = sym (ap (λ b. b || heads (begins text set) (drop at' tokens)) e) ∙ h in absurd (cc)
          by_first false e = g.same ∙ ap (λ b. listed text set item b g.fuel g.acc (drop at' tokens)) e ∙ onward_none text set item g.fuel g.acc (drop at' tokens) (sym (ap (λ b. b || heads (begins text set) (drop at' tokens)) e) ∙ h)

      module _ (h : (first || heads (begins text set) (drop at' tokens)) ≡ true) where
        begun_at : first ≡ false → heads (begins text set) (drop at' tokens) ≡ true
        begun_at e = sym (ap (λ b. b || heads (begins text set) (drop at' tokens)) e) ∙ h

        pub listing_err : (x : Refusal Token) → item (drop at' tokens) ≡ Err x → out ≡ Err x
        listing_err x k = by_first first refl
          where
            by_first : (b : Bool) → first ≡ b → out ≡ Err x
            by_first true e = g.same ∙ ap (λ b. listed text set item b g.fuel g.acc (drop at' tokens)) e ∙ rw k refl
            by_first false e =
                let enough : length (drop at' tokens) ≤ g.fuel = g.enough in
                let f = some_fuel g.fuel (omega (arith, heads_filled text set (drop at' tokens) (begun_at e))) in
                g.same ∙ ap (λ b. listed text set item b g.fuel g.acc (drop at' tokens)) e ∙ ap (λ n. onward text set item n g.acc (drop at' tokens)) f.1 ∙ onward_err text set item f.0 g.acc (drop at' tokens) x (begun_at e) k

        -- what is left behind an item
        pub record Behind (next : ℕ) (t : A) : Type 0 where
          pub left : ℕ
          pub enough : length (drop next tokens) ≤ left
          pub same : out ≡ behind_item text set item left (g.acc ++ t ∷ []) (drop next tokens)

        behind : (next : ℕ) (t : A) → at' < next → next ≤ length tokens → item (drop at' tokens) ≡ Ok (t, drop next tokens) → Behind next t
        behind next t lt le k = by_first first refl
          where
            by_first : (b : Bool) → first ≡ b → Behind next t
            by_first true e = record {
              left = length (drop next tokens);
              enough = le_refl _;
              same = g.same ∙ ap (λ b. listed text set item b g.fuel g.acc (drop at' tokens)) e ∙ rw k refl ∙ ap (λ l. behind_item text set item (length (drop next tokens)) (l ++ t ∷ []) (drop next tokens)) (sym (g.alone e));
            }
            by_first false e =
                let enough : length (drop at' tokens) ≤ g.fuel = g.enough in
                let f = some_fuel g.fuel (omega (arith, heads_filled text set (drop at' tokens) (begun_at e))) in
                let is_fuel : g.fuel ≡ suc f.0 = f.1 in
                record {
                  left = f.0;
                  enough = omega (arith, length-drop next tokens, length-drop at' tokens);
                  same = g.same ∙ ap (λ b. listed text set item b g.fuel g.acc (drop at' tokens)) e ∙ ap (λ n. onward text set item n g.acc (drop at' tokens)) f.1 ∙ onward_item text set item f.0 g.acc (drop at' tokens) (drop next tokens) t (begun_at e) k;
                }

        pub listing_end : (next : ℕ) (t : A) → at' < next → next ≤ length tokens → item (drop at' tokens) ≡ Ok (t, drop next tokens) → (head_kind text (drop next tokens) == comma) ≡ false → out ≡ Ok (g.acc ++ t ∷ [], drop next tokens)
        unfolding behind
        listing_end next t lt le k w = let b = behind next t lt le k in b.same ∙ behind_none text set item b.left (g.acc ++ t ∷ []) (drop next tokens) (heads_sign text comma (drop next tokens) false (omega arith) w)

        pub listing_more : (S' : List X → List A → Type 0) (next : ℕ) (t : A) (found' : List X) → S' found' (g.acc ++ t ∷ []) → at' < next → next ≤ length tokens → item (drop at' tokens) ≡ Ok (t, drop next tokens) → (head_kind text (drop next tokens) == comma) ≡ true → Listing text set item tokens S' from out false found' (next + 1)
        unfolding behind
        listing_more S' next t found' s lt le k w = by_split (split_at tokens next le)
          where
            b : Behind next t
            b = behind next t lt le k

            by_split : Split tokens next → Listing text set item tokens S' from out false found' (next + 1)
            by_split (inl z) = let zero_kind : 0 ≡ comma = eqb-true 0 comma (sym (ap (λ l. head_kind text l == comma) z.0) ∙ w) in absurd (omega arith)
            by_split (inr z) =
                let le0 : from ≤ at' = g.from_at in
                let left_enough : length (drop next tokens) ≤ b.left = b.enough in
                let two = some_fuel b.left (omega (arith, ap length z.1)) in
                let is_left : b.left ≡ suc two.0 = two.1 in
                let hd : heads (begins text (comma ∷ [])) (z.0 ∷ drop (next + 1) tokens) ≡ true = subst (λ l. heads (begins text (comma ∷ [])) l ≡ true) z.1 (heads_sign text comma (drop next tokens) true (omega arith) w) in
                let read : read_sign text comma (z.0 ∷ drop (next + 1) tokens) ≡ Ok (z.0, drop (next + 1) tokens) = sign_yes text (z.0 ∷ drop (next + 1) tokens) (drop (next + 1) tokens) z.0 comma refl (sym (ap (λ l. head_kind text l == comma) z.1) ∙ w) in
                record {
                  acc = g.acc ++ t ∷ [];
                  fuel = two.0;
                  sees = s;
                  alone = λ e. absurd (cc);
                  from_at = omega arith;
                  at_end = z.2;
                  enough = omega (arith, length-drop (next + 1) tokens, length-drop next tokens);
                  same = b.same ∙ ap (λ n. behind_item text set item n (g.acc ++ t ∷ []) (drop next tokens)) two.1 ∙ ap (behind_item text set item (suc two.0) (g.acc ++ t ∷ [])) z.1 ∙ behind_comma text set item two.0 (g.acc ++ t ∷ []) z.0 (drop (next + 1) tokens) hd read;
                }
