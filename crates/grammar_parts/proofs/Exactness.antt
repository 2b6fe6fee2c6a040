-- From exactness against each wide part with room enough to exactness against all of them.
use Rattle.std.proofs.Common.{◌≡◌, ℕ, suc, ◌+◌, ◌≤◌, List, [], ◌∷◌, ◌++◌, Ok, Err, sym, subst, ◌∙◌, le_refl, arith}
use Rattle.std.proofs.lemmas.List.{append_cancel_right}
use Rattle.grammar_parts.specs.Part.{Part}
use Rattle.grammar_parts.specs.Reading.{Outcome, syntax, deep, Stops, Answers}
use Rattle.grammar_parts.specs.Exact.{NoneGoesOn, Exactly}
use Rattle.grammar_parts.specs.Law.{Below}

-- room enough for two
abbrev both : ℕ → ℕ → ℕ
both a b = suc (suc (suc (a + b)))

module _ {T A : Type 0} (p : Part T A) (wide : ℕ → Part T A) (room : ℕ) (higher : (a b : ℕ) → suc (suc (suc a)) ≤ b → Below (wide a) (wide b)) (below : (w : ℕ) → suc (suc (suc room)) ≤ w → Below p (wide w)) where
  none_goes : (ts xs rest : List T) → ts ≡ xs ++ rest → ((w : ℕ) → suc (suc (suc room)) ≤ w → (ys : List T) × (ts ≡ ys ++ rest) × Stops (wide w) ys rest) → NoneGoesOn wide xs rest
  none_goes ts xs rest e law w t more h g =
      let l = law (both room w) (omega arith) in
      let same : l.0 ≡ xs = append_cancel_right l.0 xs rest (sym l.1 ∙ e) in
      l.2 t more h (subst (λ ys. (wide (both room w)).begins (ys ++ t ∷ [])) (sym same) ((higher w (both room w) (omega arith)).begun _ g))

  pub exactly : (ts : List T) (out : Outcome T A) → ((w : ℕ) → suc (suc (suc room)) ≤ w → Answers p (wide w) ts out) → Exactly p wide ts out
  exactly ts (Ok r) law = let l = law (suc (suc (suc room))) (le_refl _) in
      (l.0, l.1, l.2, none_goes ts l.0 r.1 l.1 (λ w le. let k = law w le in (k.0, k.1, k.3)))
  exactly ts (Err (syntax rest)) law = let l = law (suc (suc (suc room))) (le_refl _) in
      (l.0, l.1, l.2, (λ a d. l.3 a ((below (suc (suc (suc room))) (le_refl _)).derived l.0 a d)), none_goes ts l.0 rest l.1 (λ w le. let k = law w le in (k.0, k.1, k.4)))
  exactly ts (Err (deep rest)) law = let l = law (suc (suc (suc room))) (le_refl _) in
      (l.0, l.1, l.2, l.3, l.4, l.5, (l.6, suc (suc (suc room)), l.7))
