-- Numbers of names and their texts.
use Rattle.std.proofs.Common.{◌≡◌, ◌≢◌, ℕ, suc, zero, ◌<◌, Bool, true, false, List, [], ◌∷◌, ◌++◌, length, length-append, slice_get, Some, nat_eq, refl, sym, ap, ◌∙◌, arith}
use Rattle.std.proofs.lemmas.Bool.{eqb-true, eqb-false}
use Rattle.std.proofs.lemmas.Slice.Eq.{bytes_eq-Decides}
use Rattle.std.specs.Cmp.Lexicographic.{nat_list_eq_equiv}
use Rattle.qasm_ast.specs.Whole.{Source, IsProgram}
use Rattle.qasm_ast.specs.Tree.{text_at}
use Rattle.scope_env.specs.OpenScopes.{is_same}
use Rattle.open_names.specs.Texts.{texts, standard_names}
use Rattle.open_names.specs.Keys.{IsKey}

-- ---- texts at their places

pub text_at-append : (xs ys : List (List ℕ)) (n : ℕ) → n < length xs → text_at (xs ++ ys) n ≡ text_at xs n
text_at-append [] ys n h = absurd (omega (arith, h))
text_at-append (x ∷ xs) ys zero h = refl
text_at-append (x ∷ xs) ys (suc n) h = text_at-append xs ys n (omega (arith, h))

pub slice_get-text_at : (xs : List (List ℕ)) (n : ℕ) → n < length xs → slice_get xs n ≡ Some (text_at xs n)
slice_get-text_at [] n h = absurd (omega (arith, h))
slice_get-text_at (x ∷ xs) zero h = refl
slice_get-text_at (x ∷ xs) (suc n) h = slice_get-text_at xs n (omega (arith, h))

-- ---- numbers

-- a name of the program
pub IsKey-name : (p : Source) (n : ℕ) → IsProgram p → n < length p.names → IsKey (texts p) n
IsKey-name p n whole within = record {
  within = omega (arith, length-append p.names standard_names, within);
  first = λ other less same.
      let before : other < length p.names = omega (arith, less, within) in
      let texts_are : text_at p.names other ≡ text_at p.names n =
      sym (text_at-append p.names standard_names other before) ∙ same ∙ text_at-append p.names standard_names n within in
      let numbers_are : other ≡ n =
      whole.names_differ other n (text_at p.names n) (slice_get-text_at p.names other before ∙ ap Some texts_are) (slice_get-text_at p.names n within) in
      absurd (omega (arith, numbers_are, less));
}

is_same-true : (x y : List ℕ) → is_same x y ≡ true → x ≡ y
is_same-true x y same = (bytes_eq-Decides x y).0 same

-- two numbers with one text are one
keys_agree : (ts : List (List ℕ)) (j k : ℕ) → IsKey ts j → IsKey ts k → text_at ts j ≡ text_at ts k → j ≢ k → ⊥
keys_agree ts j k a b same other =
    let not_below : (j < k → ⊥) = λ less. b.first j less same in
    let not_above : (k < j → ⊥) = λ less. a.first k less (sym same) in
    other (omega (arith, not_below, not_above))

pub is_same-keys : (ts : List (List ℕ)) (j k : ℕ) → IsKey ts j → IsKey ts k → is_same (text_at ts j) (text_at ts k) ≡ nat_eq j k
is_same-keys ts j k a b = by (nat_eq j k) refl (is_same (text_at ts j) (text_at ts k)) refl
  where
    by : (e : Bool) → nat_eq j k ≡ e → (s : Bool) → is_same (text_at ts j) (text_at ts k) ≡ s → s ≡ e
    by true numbers true texts_are = refl
    by true numbers false texts_are = sym texts_are ∙ ap (λ n. is_same (text_at ts j) (text_at ts n)) (sym (eqb-true j k numbers)) ∙ nat_list_eq_equiv.refl (text_at ts j)
    by false numbers true texts_are = absurd (keys_agree ts j k a b (is_same-true (text_at ts j) (text_at ts k) texts_are) (eqb-false j k numbers))
    by false numbers false texts_are = refl
