-- Loops over lists with commas, by the tokens that are left. `S` says which values the items that were found stand for.
use Rattle.std.proofs.Common.{◌≡◌, ℕ, zero, suc, ◌≤◌, ◌<◌, Bool, true, false, List, [], ◌∷◌, ◌++◌, length, Option, Some, None, Ok, Err, refl, sym, ap, subst, ◌∙◌, le_refl, append_assoc, append-nil, arith, ◌||◌}
use Rattle.qasm_lexer.specs.declared.token.Token.{Token}
use Rattle.grammar_parts.specs.Reading.{Outcome, Refusal, Reader, and_then, heads}
use Rattle.grammar_parts.specs.Kinds.{items, take_entries, take_some_list}
use Rattle.qasm_expr.specs.TokenKinds.{kind}
use Rattle.qasm_expr.specs.Grammar.{comma}
use Rattle.qasm_expr.specs.Reader.{begins, read_sign, read_listed}

pub some_fuel : (n : ℕ) → 0 < n → (m : ℕ) × (n ≡ suc m)
some_fuel zero lt = absurd (omega arith)
some_fuel (suc m) lt = (m, refl)

pub heads_filled : (text set : List ℕ) (ts : List Token) → heads (begins text set) ts ≡ true → 0 < length ts
heads_filled text set [] e = absurd (cc)
heads_filled text set (x ∷ ts) e = omega arith

-- where an item may come
abbrev pub onward : {A : Type 0} → List ℕ → List ℕ → Reader Token A → ℕ → List A → Reader Token (List A)
onward text set item n acc ts = and_then (take_entries (kind text) comma set item n false ts) (λ more rest. Ok (acc ++ items more, rest))

-- behind an item, where a comma may come
abbrev pub behind_item : {A : Type 0} → List ℕ → List ℕ → Reader Token A → ℕ → List A → Reader Token (List A)
behind_item text set item n acc ts = and_then (take_entries (kind text) comma set item n true ts) (λ more rest. Ok (acc ++ items more, rest))

-- the first item has to come, or an item may come
abbrev pub listed : {A : Type 0} → List ℕ → List ℕ → Reader Token A → Bool → ℕ → List A → Reader Token (List A)
listed text set item true n acc ts = take_some_list (kind text) comma set item ts
listed text set item false n acc ts = onward text set item n acc ts

pub record Listing {X A : Type 0} (text set : List ℕ) (item : Reader Token A) (S : List X → List A → Type 0) (out : Outcome Token (List A)) (first : Bool) (found : List X) (left : List Token) : Type 0 where
  pub acc : List A
  pub fuel : ℕ
  pub sees : S found acc
  pub alone : first ≡ true → acc ≡ []
  pub enough : length left ≤ fuel
  pub same : out ≡ listed text set item first fuel acc left

module _ {A : Type 0} (text set : List ℕ) (item : Reader Token A) where
  onward_none : (n : ℕ) (acc : List A) (ts : List Token) → heads (begins text set) ts ≡ false → onward text set item n acc ts ≡ Ok (acc, ts)
  onward_none zero acc ts h = ap (λ l. Ok (l, ts)) (append-nil acc)
  onward_none (suc n) acc ts h = rw h (ap (λ l. Ok (l, ts)) (append-nil acc))

  behind_none : (n : ℕ) (acc : List A) (ts : List Token) → heads (begins text (comma ∷ [])) ts ≡ false → behind_item text set item n acc ts ≡ Ok (acc, ts)
  behind_none zero acc ts h = ap (λ l. Ok (l, ts)) (append-nil acc)
  behind_none (suc n) acc ts h = rw h (ap (λ l. Ok (l, ts)) (append-nil acc))

  onward_err : (n : ℕ) (acc : List A) (ts : List Token) (x : Refusal Token) → heads (begins text set) ts ≡ true → item ts ≡ Err x → onward text set item (suc n) acc ts ≡ Err x
  onward_err n acc ts x h k = rw (h, k) refl

  joined_item : (acc : List A) (t : A) (o : Outcome Token (List (Option A))) → and_then (and_then o (λ its r. Ok (Some t ∷ its, r))) (λ its r. Ok (acc ++ items its, r)) ≡ and_then o (λ its r. Ok ((acc ++ t ∷ []) ++ items its, r))
  joined_item acc t (Ok r) = ap (λ l. Ok (l, r.1)) (sym (append_assoc acc (t ∷ []) (items r.0)))
  joined_item acc t (Err x) = refl

  onward_item : (n : ℕ) (acc : List A) (ts rest : List Token) (t : A) → heads (begins text set) ts ≡ true → item ts ≡ Ok (t, rest) → onward text set item (suc n) acc ts ≡ behind_item text set item n (acc ++ t ∷ []) rest
  onward_item n acc ts rest t h k = rw (h, k) (joined_item acc t (take_entries (kind text) comma set item n true rest))

  joined_comma : (acc : List A) (o : Outcome Token (List (Option A))) → and_then (and_then o (λ its r. Ok (None ∷ its, r))) (λ its r. Ok (acc ++ items its, r)) ≡ and_then o (λ its r. Ok (acc ++ items its, r))
  joined_comma acc (Ok r) = refl
  joined_comma acc (Err x) = refl

  behind_comma : (n : ℕ) (acc : List A) (x : Token) (rest : List Token) → heads (begins text (comma ∷ [])) (x ∷ rest) ≡ true → read_sign text comma (x ∷ rest) ≡ Ok (x, rest) → behind_item text set item (suc n) acc (x ∷ rest) ≡ onward text set item n acc rest
  behind_comma n acc x rest h k = rw (h, k) (joined_comma acc (take_entries (kind text) comma set item n false rest))

module _ {X A : Type 0} (text set : List ℕ) (item : Reader Token A) where
  pub listing_start : (S : List X → List A → Type 0) (left : List Token) (filled : Bool) (found : List X) → S found [] → Listing text set item S (read_listed text set filled item left) filled found left
  listing_start S left true found e = record { acc = []; fuel = length left; sees = e; alone = λ h. refl; enough = le_refl _; same = refl }
  listing_start S left false found e = record { acc = []; fuel = length left; sees = e; alone = λ h. refl; enough = le_refl _; same = refl }

  module _ {S : List X → List A → Type 0} {out : Outcome Token (List A)} {first : Bool} {found : List X} {left : List Token} (g : Listing text set item S out first found left) where
    pub listing_stop : (first || heads (begins text set) left) ≡ false → out ≡ Ok (g.acc, left)
    listing_stop h = by_first first refl
      where
        by_first : (b : Bool) → first ≡ b → out ≡ Ok (g.acc, left)
        by_first true e = let w : true ≡ false = sym (ap (λ b. b || heads (begins text set) left) e) ∙ h in absurd (cc)
        by_first false e = g.same ∙ ap (λ b. listed text set item b g.fuel g.acc left) e ∙ onward_none text set item g.fuel g.acc left (sym (ap (λ b. b || heads (begins text set) left) e) ∙ h)

    module _ (h : (first || heads (begins text set) left) ≡ true) where
      begun_at : first ≡ false → heads (begins text set) left ≡ true
      begun_at e = sym (ap (λ b. b || heads (begins text set) left) e) ∙ h

      pub listing_err : (x : Refusal Token) → item left ≡ Err x → out ≡ Err x
      listing_err x k = by_first first refl
        where
          by_first : (b : Bool) → first ≡ b → out ≡ Err x
          by_first true e = g.same ∙ ap (λ b. listed text set item b g.fuel g.acc left) e ∙ rw k refl
          by_first false e =
              let enough : length left ≤ g.fuel = g.enough in
              let f = some_fuel g.fuel (omega (arith, heads_filled text set left (begun_at e))) in
              g.same ∙ ap (λ b. listed text set item b g.fuel g.acc left) e ∙ ap (λ n. onward text set item n g.acc left) f.1 ∙ onward_err text set item f.0 g.acc left x (begun_at e) k

      -- what is left behind an item
      pub record Behind (next : List Token) (t : A) : Type 0 where
        pub fuel : ℕ
        pub enough : length next ≤ fuel
        pub same : out ≡ behind_item text set item fuel (g.acc ++ t ∷ []) next

      behind : (next : List Token) (t : A) → length next < length left → item left ≡ Ok (t, next) → Behind next t
      behind next t lt k = by_first first refl
        where
          by_first : (b : Bool) → first ≡ b → Behind next t
          by_first true e = record {
            fuel = length next;
            enough = le_refl _;
            same = g.same ∙ ap (λ b. listed text set item b g.fuel g.acc left) e ∙ rw k refl ∙ ap (λ l. behind_item text set item (length next) (l ++ t ∷ []) next) (sym (g.alone e));
          }
          by_first false e =
              let enough : length left ≤ g.fuel = g.enough in
              let f = some_fuel g.fuel (omega (arith, heads_filled text set left (begun_at e))) in
              let is_fuel : g.fuel ≡ suc f.0 = f.1 in
              record {
                fuel = f.0;
                enough = omega arith;
                same = g.same ∙ ap (λ b. listed text set item b g.fuel g.acc left) e ∙ ap (λ n. onward text set item n g.acc left) f.1 ∙ onward_item text set item f.0 g.acc left next t (begun_at e) k;
              }

      pub listing_end : (next : List Token) (t : A) → length next < length left → item left ≡ Ok (t, next) → heads (begins text (comma ∷ [])) next ≡ false → out ≡ Ok (g.acc ++ t ∷ [], next)
      unfolding behind
      listing_end next t lt k w = let b = behind next t lt k in b.same ∙ behind_none text set item b.fuel (g.acc ++ t ∷ []) next w

      pub listing_more : (S' : List X → List A → Type 0) (next rest : List Token) (x : Token) (t : A) (found' : List X) → S' found' (g.acc ++ t ∷ []) → length next < length left → item left ≡ Ok (t, next) → next ≡ x ∷ rest → heads (begins text (comma ∷ [])) next ≡ true → read_sign text comma next ≡ Ok (x, rest) → Listing text set item S' out false found' rest
      unfolding behind
      listing_more S' next rest x t found' s lt k here hd read =
          let b = behind next t lt k in
          let left_enough : length next ≤ b.fuel = b.enough in
          let two = some_fuel b.fuel (omega (arith, ap length here)) in
          let is_left : b.fuel ≡ suc two.0 = two.1 in
          record {
            acc = g.acc ++ t ∷ [];
            fuel = two.0;
            sees = s;
            alone = λ e. absurd (cc);
            enough = omega (arith, ap length here);
            same = b.same ∙ ap (λ n. behind_item text set item n (g.acc ++ t ∷ []) next) two.1 ∙ ap (behind_item text set item (suc two.0) (g.acc ++ t ∷ [])) here ∙ behind_comma text set item two.0 (g.acc ++ t ∷ []) x rest (subst (λ l. heads (begins text (comma ∷ [])) l ≡ true) here hd) (subst (λ l. read_sign text comma l ≡ Ok (x, rest)) here read);
          }
