-- Names of a program by their texts and by their numbers. No two names are equal, so both tell the same names apart.
use Rattle.std.proofs.Common.{◌≡◌, ℕ, zero, suc, ◌<◌, Bool, true, false, cond, nat_eq, List, [], ◌∷◌, length, get_or, slice_get, Some, None, refl, sym, ap, ◌∙◌, arith}
use Rattle.std.specs.List.{position_or_len}
use Rattle.std.specs.Prelude.{nat_lt}
use Rattle.std.specs.Str.{bytes_eq}
use Rattle.std.specs.Cmp.Lexicographic.{pointwise, bytes_decides}
use Rattle.std.proofs.lemmas.Bool.{ltb-false}
use Rattle.std.proofs.lemmas.Bool.Decides.{same_from_decides, Decides-like, Decides-eqb}
use Rattle.std.proofs.lemmas.List.Quantifiers.{position-Some}
use Rattle.std.proofs.lemmas.List.Sums.{fails_before_first}
use Rattle.std.proofs.lemmas.Option.{slice_get-get_or, get_or_from_slice_get}
use Rattle.qasm_ast.specs.Tree.{text_at}
use Rattle.qasm_ast.specs.View.{number_of, text_in}
use Rattle.qasm_ast.specs.Whole.{Source, IsProgram}

text_got : (names : List (List ℕ)) (n : ℕ) → n < length names → slice_get names n ≡ Some (text_at names n)
text_got [] n lt = absurd (omega arith)
text_got (text ∷ names) zero lt = refl
text_got (text ∷ names) (suc n) lt = text_got names n (omega arith)

got_text : (names : List (List ℕ)) (n : ℕ) (text : List ℕ) → slice_get names n ≡ Some text → text_at names n ≡ text
got_text [] n text e = absurd cc
got_text (x ∷ names) zero text e = cc
got_text (x ∷ names) (suc n) text e = got_text names n text e

none_past : (t : Bool) (n : ℕ) → cond t (Some n) None ≡ None → t ≡ false
none_past true n e = absurd cc
none_past false n e = refl

module _ (p : Source) (whole : IsProgram p) where
  pub same_names : (a b : ℕ) → a < length p.names → b < length p.names → bytes_eq (text_in p a) (text_in p b) ≡ nat_eq a b
  same_names a b la lb =
      let text = text_in p a in
      let other = text_in p b in
      same_from_decides (bytes_eq text other) (nat_eq a b)
      (Decides-like (bytes_eq text other) (λ (e : text ≡ other). whole.names_differ a b text (text_got p.names a la) (text_got p.names b lb ∙ ap Some (sym e))) (λ (e : a ≡ b). ap (text_in p) e) (bytes_decides text other))
      (Decides-eqb a b)

  -- a text that is a name
  pub named : (text : List ℕ) (n b : ℕ) → number_of p.names text ≡ Some n → b < length p.names → bytes_eq text (text_in p b) ≡ nat_eq n b
  named text n b e lt =
      let found = position-Some (pointwise nat_eq text) p.names n [] e in
      let same : text ≡ get_or p.names n [] = (bytes_decides text (get_or p.names n [])).0 found.1 in
      let here : text_in p n ≡ text = got_text p.names n text (slice_get-get_or p.names n [] found.0 ∙ ap Some (sym same)) in
      ap (λ (t : List ℕ). bytes_eq t (text_in p b)) (sym here) ∙ same_names n b found.0 lt

  -- a text that is no name
  pub unnamed : (text : List ℕ) (b : ℕ) → number_of p.names text ≡ None → b < length p.names → bytes_eq text (text_in p b) ≡ false
  unnamed text b e lt =
      let test = pointwise nat_eq text in
      let past = ltb-false (position_or_len test p.names) (length p.names) (none_past (nat_lt (position_or_len test p.names) (length p.names)) (position_or_len test p.names) e) in
      let got : get_or p.names b [] ≡ text_in p b = get_or_from_slice_get p.names b (text_in p b) [] (text_got p.names b lt) in
      let before : b < position_or_len test p.names = omega (arith, past) in
      ap (bytes_eq text) (sym got) ∙ fails_before_first test p.names b [] before
