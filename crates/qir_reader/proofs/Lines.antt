-- Flag lines: what stands in front of a value, the value, and the closing brace.
use Rattle.std.proofs.Common.{◌≡◌, ℕ, List, Ok, Err, refl, sym, ap, ◌∙◌}
use Rattle.grammar_parts.specs.Reading.{Refusal, Outcome, Reader, done, ◌>>=◌, and_then}
use Rattle.qir_module.specs.Tokens.{Token}
use Rattle.qir_module.specs.Words.{Quoted, Reserved}
use Rattle.qir_module.specs.Grammar.{flag_at}
use Rattle.qir_module.specs.Reader.{◌▹◌, read_numbered, read_equals, read_bang, read_left_brace, read_right_brace, read_word, read_sign, read_comma, read_flag_text, read_flag_line}
use Rattle.qir_module.specs.Words as w
use Rattle.qir_reader.specs.Parts.{read_flag_front}

-- readers one behind the other, grouped in another way
regrouped_at : {A B C : Type 0} (s : Reader Token B) (t u : Reader Token C) → ((ts : List Token) → (s ▹ t) ts ≡ u ts) → (out : Outcome Token A) → and_then (and_then out (λ a. s)) (λ b. t) ≡ and_then out (λ a. u)
regrouped_at s t u is (Ok (a, rest)) = is rest
regrouped_at s t u is (Err e) = refl

regrouped : {A B C : Type 0} (r : Reader Token A) (s : Reader Token B) (t u : Reader Token C) → ((ts : List Token) → (s ▹ t) ts ≡ u ts) → (ts : List Token) → ((r ▹ s) ▹ t) ts ≡ (r ▹ u) ts
regrouped r s t u is ts = regrouped_at s t u is (r ts)

module _ {A B C : Type 0} (a : Reader Token A) (b c d e f g h i j : Reader Token B) (t : Reader Token C) where
  -- ten readers in front of another
  ten_in_front : (ts : List Token) → ((a ▹ (b ▹ (c ▹ (d ▹ (e ▹ (f ▹ (g ▹ (h ▹ (i ▹ j))))))))) ▹ t) ts ≡ (a ▹ (b ▹ (c ▹ (d ▹ (e ▹ (f ▹ (g ▹ (h ▹ (i ▹ (j ▹ t)))))))))) ts
  ten_in_front =
      regrouped a (b ▹ (c ▹ (d ▹ (e ▹ (f ▹ (g ▹ (h ▹ (i ▹ j)))))))) t (b ▹ (c ▹ (d ▹ (e ▹ (f ▹ (g ▹ (h ▹ (i ▹ (j ▹ t)))))))))
      (regrouped b (c ▹ (d ▹ (e ▹ (f ▹ (g ▹ (h ▹ (i ▹ j))))))) t (c ▹ (d ▹ (e ▹ (f ▹ (g ▹ (h ▹ (i ▹ (j ▹ t))))))))
      (regrouped c (d ▹ (e ▹ (f ▹ (g ▹ (h ▹ (i ▹ j)))))) t (d ▹ (e ▹ (f ▹ (g ▹ (h ▹ (i ▹ (j ▹ t)))))))
      (regrouped d (e ▹ (f ▹ (g ▹ (h ▹ (i ▹ j))))) t (e ▹ (f ▹ (g ▹ (h ▹ (i ▹ (j ▹ t))))))
      (regrouped e (f ▹ (g ▹ (h ▹ (i ▹ j)))) t (f ▹ (g ▹ (h ▹ (i ▹ (j ▹ t)))))
      (regrouped f (g ▹ (h ▹ (i ▹ j))) t (g ▹ (h ▹ (i ▹ (j ▹ t))))
      (regrouped g (h ▹ (i ▹ j)) t (h ▹ (i ▹ (j ▹ t)))
      (regrouped h (i ▹ j) t (i ▹ (j ▹ t))
      (regrouped i j t (j ▹ t) (λ ts. refl)))))))))

module _ {A : Type 0} (k behaviour : ℕ) (name : Quoted) (type : Reserved) (value : Reader Token A) where
  abbrev closed : Reader Token A
  closed = value >>= (λ v. read_right_brace ▹ done v)

  line_is : (ts : List Token) → (read_flag_front k behaviour name type ▹ closed) ts ≡ read_flag_line k (read_sign behaviour) name type value ts
  unfolding read_flag_line
  line_is ts =
      ten_in_front (read_numbered flag_at k) read_equals read_bang read_left_brace (read_word w.I32) (read_sign behaviour) read_comma (read_flag_text name) read_comma (read_word type) closed ts

  up_to_value : (old mid rest : List Token) (x : Token) (v : A) → read_flag_front k behaviour name type old ≡ Ok (x, mid) → value mid ≡ Ok (v, rest)
      → read_flag_line k (read_sign behaviour) name type value old ≡ (read_right_brace ▹ done v) rest
  up_to_value old mid rest x v front read =
      sym (line_is old) ∙ ap (λ o. and_then o (λ y. closed)) front ∙ ap (λ o. and_then o (λ u. read_right_brace ▹ done u)) read

  -- a whole line
  pub line_read : (old mid rest new : List Token) (x y : Token) (v : A) → read_flag_front k behaviour name type old ≡ Ok (x, mid) → value mid ≡ Ok (v, rest) → read_right_brace rest ≡ Ok (y, new)
      → read_flag_line k (read_sign behaviour) name type value old ≡ Ok (v, new)
  line_read old mid rest new x y v front read brace = up_to_value old mid rest x v front read ∙ ap (λ o. and_then o (λ z. done v)) brace

  -- a line that does not close
  pub line_open : (old mid rest : List Token) (x : Token) (v : A) (e : Refusal Token) → read_flag_front k behaviour name type old ≡ Ok (x, mid) → value mid ≡ Ok (v, rest) → read_right_brace rest ≡ Err e
      → read_flag_line k (read_sign behaviour) name type value old ≡ Err e
  line_open old mid rest x v e front read brace = up_to_value old mid rest x v front read ∙ ap (λ o. and_then o (λ z. done v)) brace
