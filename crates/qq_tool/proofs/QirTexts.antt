-- Each QIR text passes or is refused by one line, and not both.
use Rattle.std.proofs.Common.{◌≡◌, inl, inr, refl, sym, ap, ◌∙◌, ℕ, ◌≤◌, arith, List, length, Option, Some, None, Result, Ok, Err}
use Rattle.std.proofs.lemmas.Bool.{cases_lt}
use Rattle.qir_module.specs.Module.{Module}
use Rattle.qir_module.specs.Tokens.{Breach}
use Rattle.qir_module.specs.Spoilt.{IsTextOf, IsSpoilt, IsTextAnswer}
use Rattle.qir_module.specs.Broken.{broken}
use Rattle.qir_module.specs.Broken as p
use Rattle.qir_module.specs.Reader.{read_text}
use Rattle.qir_lexer.specs.Rules.{breach_of}
use Rattle.profile_check.specs.Laws.{UnbrokenPasses, PassingIsUnbroken}
use Rattle.qq_tool.specs.Command.{qir_limit}
use Rattle.qq_tool.specs.QirRefused.{text_refusal_line, broken_line, too_long, IsQirRefused, ByLength, ByText, ByProfile, IsPassing, AreApart, IsQirDecided}
use Rattle.qq_tool.proofs.QirRules.{spoilt_by, one_text_line, rule_of_broken, breach_at, one_broken_line}

-- the laws of texts and of modules
pub record Laws : Type 0 where
  pub answered : (text : List ℕ) → IsTextAnswer text (read_text text)
  pub one_module : (text : List ℕ) (m n : Module) → IsTextOf text m → IsTextOf text n → m ≡ n
  pub one_breach : (text : List ℕ) (a b : Breach) → IsSpoilt text a → IsSpoilt text b → a ≡ b
  pub not_both : (text : List ℕ) (m : Module) (breach : Breach) → IsTextOf text m → IsSpoilt text breach → ⊥
  pub unbroken : UnbrokenPasses
  pub passing : PassingIsUnbroken

pub are_apart : ((text : List ℕ) (m n : Module) → IsTextOf text m → IsTextOf text n → m ≡ n) → ((text : List ℕ) (m : Module) (breach : Breach) → IsTextOf text m → IsSpoilt text breach → ⊥)
    → PassingIsUnbroken → AreApart
are_apart one not_both unbroken bytes m line passing (ByLength long same) = omega (arith, long, passing.short)
are_apart one not_both unbroken bytes m line passing (ByText short refusal spoilt same) = not_both bytes m (breach_of refusal) passing.spelled spoilt
are_apart one not_both unbroken bytes m line passing (ByProfile short n spelled rule block item is same) =
    let wrong = sym (unbroken m passing.passing) ∙ ap broken (one bytes m n passing.spelled spelled) ∙ is in cc

-- ---- one line

one_line : Laws → (bytes a b : List ℕ) → IsQirRefused bytes a → IsQirRefused bytes b → a ≡ b
one_line laws bytes a b (ByLength long is) (ByLength long' is') = is ∙ sym is'
one_line laws bytes a b (ByLength long is) (ByText short refusal spoilt is') = absurd (omega (arith, long, short))
one_line laws bytes a b (ByLength long is) (ByProfile short m spelled rule block item breaks is') = absurd (omega (arith, long, short))
one_line laws bytes a b (ByText short refusal spoilt is) (ByLength long is') = absurd (omega (arith, long, short))
one_line laws bytes a b (ByText short refusal spoilt is) (ByText short' refusal' spoilt' is') =
    is ∙ one_text_line refusal refusal' (laws.one_breach bytes (breach_of refusal) (breach_of refusal') spoilt spoilt') ∙ sym is'
one_line laws bytes a b (ByText short refusal spoilt is) (ByProfile short' m spelled rule block item breaks is') = absurd (laws.not_both bytes m (breach_of refusal) spelled spoilt)
one_line laws bytes a b (ByProfile short m spelled rule block item breaks is) (ByLength long is') = absurd (omega (arith, long, short))
one_line laws bytes a b (ByProfile short m spelled rule block item breaks is) (ByText short' refusal spoilt is') = absurd (laws.not_both bytes m (breach_of refusal) spelled spoilt)
one_line laws bytes a b (ByProfile short m spelled rule block item breaks is) (ByProfile short' n spelled' rule' block' item' breaks' is') =
    let found = sym breaks ∙ ap broken (laws.one_module bytes m n spelled spelled') ∙ breaks' in
    let same : breach_at rule block item ≡ breach_at rule' block' item' = cc in
    is ∙ one_broken_line rule rule' block item block' item' same ∙ sym is'

-- ---- each text

refused_by : Laws → (bytes line : List ℕ) → IsQirRefused bytes line → IsQirDecided bytes
refused_by laws bytes line refused =
    inr (λ m passing. are_apart laws.one_module laws.not_both laws.passing bytes m line passing refused, line, refused, λ other h. one_line laws bytes other line h refused)

by_profile : Laws → (bytes : List ℕ) → length bytes ≤ qir_limit → (m : Module) → IsTextOf bytes m → (found : Option p.Breach) → broken m ≡ found → IsQirDecided bytes
by_profile laws bytes short m spelled None is =
    let passing : IsPassing bytes m = record { short = short; spelled = spelled; passing = laws.unbroken m is } in
    inl ((m, passing), λ line. are_apart laws.one_module laws.not_both laws.passing bytes m line passing)
by_profile laws bytes short m spelled (Some breach) is =
    let rule = rule_of_broken m breach is in
    refused_by laws bytes (broken_line rule.0 breach.at.block breach.at.item)
    (ByProfile short m spelled rule.0 breach.at.block breach.at.item (is ∙ ap (λ n. Some (record { rule = n; at = breach.at })) (sym rule.1)) refl)

by_text : Laws → (bytes : List ℕ) → length bytes ≤ qir_limit → (answer : Result Module Breach) → IsTextAnswer bytes answer → IsQirDecided bytes
by_text laws bytes short (Ok m) spelled = by_profile laws bytes short m spelled (broken m) refl
by_text laws bytes short (Err breach) spoilt =
    let by = spoilt_by bytes breach spoilt in
    refused_by laws bytes (text_refusal_line by.0) (ByText short by.0 by.1 refl)

pub decided : Laws → (bytes : List ℕ) → IsQirDecided bytes
decided laws bytes = elim (cases_lt qir_limit (length bytes)) [
  | inl long ↦ refused_by laws bytes (text_refusal_line too_long) (ByLength long refl)
  | inr short ↦ by_text laws bytes short (read_text bytes) (laws.answered bytes)
]
