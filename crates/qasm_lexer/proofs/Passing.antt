-- Fronts of a text of which each character passes a test, and why the longest one is that.
use Rattle.std.proofs.Common.{◌≡◌, ℕ, Bool, true, false, ◌&&◌, List, [], ◌∷◌, ◌++◌, IsUtf8, sym, refl, ap, ◌∙◌, subst}
use Rattle.std.specs.Prelude.{IsTrue}
use Rattle.std.specs.List.{list_all}
use Rattle.std.specs.Str.{chars}
use Rattle.std.proofs.lemmas.Bool.{false≢true}
use Rattle.qasm_lexer.specs.Scan.{Cuts, StopsAt, SkipsPassing}
use Rattle.qasm_lexer.proofs.Cutting.{cut_none, cut_twice}

-- the rest stands behind characters that pass
pub record Passed (passes : ℕ → Bool) (text rest : List ℕ) : Type 0 where
  pub front : List ℕ
  pub cuts : Cuts text front rest
  pub each : IsTrue (list_all passes front)

pub passed_none : (passes : ℕ → Bool) (text : List ℕ) → IsUtf8 text → Passed passes text text
passed_none passes text utf8 = record { front = []; cuts = cut_none text utf8; each = refl }

pub and_first : (a b : Bool) → (a && b) ≡ true → a ≡ true
and_first true b h = refl
and_first false b h = h

pub and_second : (a b : Bool) → (a && b) ≡ true → b ≡ true
and_second true b h = h
and_second false b h = absurd (false≢true h)

pub and_true : {a b : Bool} → a ≡ true → b ≡ true → (a && b) ≡ true
and_true {a} {b} h k = ap (λ x. x && b) h ∙ k

pub list_all-append : (passes : ℕ → Bool) (xs ys : List ℕ) → IsTrue (list_all passes xs) → IsTrue (list_all passes ys) → IsTrue (list_all passes (xs ++ ys))
list_all-append passes [] ys h k = k
list_all-append passes (x ∷ xs) ys h k = and_true (and_first (passes x) _ h) (list_all-append passes xs ys (and_second (passes x) _ h) k)

pub passed_one : (passes : ℕ → Bool) {text rest behind : List ℕ} (c : ℕ) → Passed passes text rest → Cuts rest (c ∷ []) behind → passes c ≡ true → Passed passes text behind
passed_one passes c before cut pass = record {
  front = before.front ++ c ∷ [];
  cuts = cut_twice before.cuts cut;
  each = list_all-append passes before.front (c ∷ []) before.each (ap (λ b. b && true) pass);
}

-- the scanner stops here
pub skips_end : (passes : ℕ → Bool) {text rest : List ℕ} → Passed passes text rest → StopsAt passes (chars rest) → SkipsPassing passes text rest
skips_end passes before stops = record { front = before.front; cuts = before.cuts; each = before.each; stops = stops }

pub stops_nil : (passes : ℕ → Bool) (cs : List ℕ) → cs ≡ [] → StopsAt passes cs
stops_nil passes cs e = subst (StopsAt passes) (sym e) tt

pub stops_cons : (passes : ℕ → Bool) (cs ds : List ℕ) (c : ℕ) → cs ≡ c ∷ ds → passes c ≡ false → StopsAt passes cs
stops_cons passes cs ds c e h = subst (StopsAt passes) (sym e) h

-- nothing is skipped where the text stops at once
pub skips_none : (passes : ℕ → Bool) {text : List ℕ} → IsUtf8 text → StopsAt passes (chars text) → SkipsPassing passes text text
skips_none passes {text} utf8 stops = record { front = []; cuts = cut_none text utf8; each = refl; stops = stops }
