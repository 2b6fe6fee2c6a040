-- What stands behind a register and its `=`, where no instruction does.
use Rattle.std.proofs.Common.{◌≡◌, ℕ, Bool, true, false, cond, List, [], ◌∷◌, Ok, Err, refl}
use Rattle.grammar_parts.specs.Reading.{Refusal, syntax, deep, Outcome, heads}
use Rattle.grammar_parts.specs.Kinds.{among}
use Rattle.qir_module.specs.declared.block.Phi.{Phi}
use Rattle.qir_module.specs.Tokens.{Token}
use Rattle.qir_module.specs.Words as w
use Rattle.qir_module.specs.Words.{kind}
use Rattle.qir_module.specs.Grammar.{Item, AsPhi}
use Rattle.qir_module.specs.Reader.{instruction_kinds, word_kinds, stray_kinds, read_phi, read_stray, read_assigned}
use Rattle.qir_reader.specs.declared.stop.Stop.TheVariants as why
use Rattle.qir_reader.specs.Seen.{refusal, stray_stop}

pub stray_is : (ts : List Token) → read_stray {A = Item} ts ≡ Err (refusal (stray_stop ts) ts)
stray_is [] = refl
stray_is (t ∷ ts) = at (among kind stray_kinds t)
  where
    at : (b : Bool) → cond {A = Outcome Token Item} b (Err (deep (t ∷ ts))) (Err (syntax (t ∷ ts))) ≡ Err (refusal (cond b why.Value why.Syntax) (t ∷ ts))
    at true = refl
    at false = refl

none_among : (ts : List Token) → heads (among kind []) ts ≡ false
none_among [] = refl
none_among (t ∷ ts) = refl

module _ (n : ℕ) (ts : List Token) (none : heads (among kind instruction_kinds) ts ≡ false) where
  -- no phi may stand here
  pub no_early : read_assigned false n ts ≡ Err (refusal (stray_stop ts) ts)
  unfolding read_assigned
  no_early = rw (none, none_among ts) (stray_is ts)

  pub no_phi : heads (among kind (word_kinds w.Phi)) ts ≡ false → read_assigned true n ts ≡ Err (refusal (stray_stop ts) ts)
  unfolding read_assigned
  no_phi e = rw (none, e) (stray_is ts)

  pub phi_fails : {e : Refusal Token} → heads (among kind (word_kinds w.Phi)) ts ≡ true → read_phi n ts ≡ Err e → read_assigned true n ts ≡ Err e
  unfolding read_assigned
  phi_fails seen fails = rw (none, seen, fails) refl

  pub phi_read : {rest : List Token} {p : Phi} → heads (among kind (word_kinds w.Phi)) ts ≡ true → read_phi n ts ≡ Ok (p, rest) → read_assigned true n ts ≡ Ok (AsPhi p, rest)
  unfolding read_assigned
  phi_read seen read = rw (none, seen, read) refl
