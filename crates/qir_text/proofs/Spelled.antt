-- The canonical text of a shaped module spells it, and what follows as a text has one answer.
use Rattle.std.proofs.Common.{◌≡◌, List, ℕ, Result, Ok, Err, ap, subst}
use Rattle.qir_module.specs.Module.{Module, IsShaped}
use Rattle.qir_module.specs.Tokens.{Token, Breach, Tokens}
use Rattle.qir_module.specs.Spoilt.{IsTextOf, IsSpoilt, IsTextAnswer}
use Rattle.qir_module.specs.Written.{written}
use Rattle.qir_text_tokens.specs.Signs.{kinds_of, module_tokens}
use Rattle.qir_text.proofs.Known.{Known}
use Rattle.qir_text.proofs.ModuleParts.{module_made}

pub spelled : Known → ((m : Module) → IsShaped m → (tokens : List Token) × Tokens (written m) (Ok tokens) × (kinds_of tokens ≡ module_tokens m)) →
    (m : Module) → IsShaped m → IsTextOf (written m) m
spelled known found m shaped = let f = found m shaped in (f.0, f.1, (module_made known m shaped).made f.0 f.2)

module _ (spells : (m : Module) → IsShaped m → IsTextOf (written m) m) (once : (text : List ℕ) (m n : Module) → IsTextOf text m → IsTextOf text n → m ≡ n) where
  pub answered : ((text : List ℕ) (m : Module) (breach : Breach) → IsTextOf text m → IsSpoilt text breach → ⊥) →
      (m : Module) (answer : Result Module Breach) → IsShaped m → IsTextAnswer (written m) answer → answer ≡ Ok m
  answered not_both m (Ok n) shaped is = ap Ok (once (written m) n m is (spells m shaped))
  answered not_both m (Err breach) shaped is = absurd (not_both (written m) m breach (spells m shaped) is)

  pub told_apart : (m n : Module) → IsShaped m → IsShaped n → written m ≡ written n → m ≡ n
  told_apart m n shaped shaped_too e = once (written n) m n (subst (λ text. IsTextOf text m) e (spells m shaped)) (spells n shaped_too)
