-- The rules of QIR text and of the profile, by their numbers.
use Rattle.std.proofs.Common.{◌≡◌, inl, inr, refl, sym, ap, ◌∙◌, subst, ℕ, cond, eqb, List, [], ◌∷◌, Option, Some, None}
use Rattle.std.specs.List.{AllByRecursion}
use Rattle.qir_module.specs.Tokens.{TokenKind, Token, Breach, BreaksBy, Reads}
use Rattle.qir_module.specs.Tokens as t
use Rattle.qir_module.specs.Module.{Module}
use Rattle.qir_module.specs.Spoilt.{rule_of_value, FailsBy, ByValue, ByMore, ByDeclaration, Otherwise, IsSpoilt}
use Rattle.qir_module.specs.Passes.{Demand}
use Rattle.qir_module.specs.Broken.{Place, breach_or, first_breach, first_rule, rules, broken}
use Rattle.qir_module.specs.Broken as p
use Rattle.qir_lexer.specs.declared.rule.TextRule.{TextRule}
use Rattle.qir_lexer.specs.declared.rule.TextRule.TheVariants.{TooLong, BadCharacter, OpenString, NumberForm, Syntax, NumberOrder, LabelLength, UnknownFunction, SignatureWrong, UnknownInstruction, UnknownProfile, TrailingText}
use Rattle.qir_lexer.specs.declared.rule.TextRefusal.{TextRefusal}
use Rattle.qir_lexer.specs.Rules.{number_of, breach_of}
use Rattle.profile_check.specs.declared.rule.CheckRule.{CheckRule}
use Rattle.profile_check.specs.declared.rule.CheckRule.TheVariants.{Flags, Entry, QubitIds, ResultIds, Declarations, Calls, Initialize, Labels, AssignedOnce, Targets, Phis, OperandTypes, Constants, CarriedRegister, CarriedResult, DistinctQubits, Records, LabelTexts, EarlierWay, Limits}
use Rattle.profile_check.specs.Rule as c
use Rattle.qq_tool.specs.QirRefused.{text_refusal_line, broken_line}

-- ---- rules of the text

-- a rule has the number
abbrev pub IsTextRule : ℕ → Type 0
IsTextRule n = (rule : TextRule) × (number_of rule ≡ n)

rule_of_tokens : (text : List ℕ) (n : ℕ) → BreaksBy text n → IsTextRule n
rule_of_tokens text n (inl h) = (BadCharacter, sym h.0)
rule_of_tokens text n (inr (inl h)) = (OpenString, sym h.0)
rule_of_tokens text n (inr (inr h)) = (NumberForm, sym h.0)

rule_of_reading : (text : List ℕ) (from : ℕ) (tokens : List Token) (breach : Breach) → Reads text from tokens (Some breach) → IsTextRule breach.rule
rule_of_reading text from [] breach reads = rule_of_tokens _ breach.rule reads.stands.2
rule_of_reading text from (token ∷ tokens) breach reads = rule_of_reading text token.end tokens breach reads.1

rule_of_kind : (kind : TokenKind) → IsTextRule (rule_of_value kind)
rule_of_kind (t.Constant n) = (NumberOrder, refl)
rule_of_kind (t.Group n) = (NumberOrder, refl)
rule_of_kind (t.Flag n) = (NumberOrder, refl)
rule_of_kind (t.Bytes body) = (LabelLength, refl)
rule_of_kind (t.Named name) = (UnknownFunction, refl)
rule_of_kind (t.Word spelling) = (UnknownInstruction, refl)
rule_of_kind (t.Text body) = (UnknownProfile, refl)
rule_of_kind kind = (Syntax, refl)

rule_by : (breach other : Breach) → breach ≡ other → IsTextRule other.rule → IsTextRule breach.rule
rule_by breach other same is = subst (λ (b : Breach). IsTextRule b.rule) (sym same) is

rule_of_failing : (text : List ℕ) (front rest : List Token) (breach : Breach) → FailsBy text front rest breach → IsTextRule breach.rule
rule_of_failing text front rest breach (ByValue x more same begins is) = rule_by breach _ is (rule_of_kind x.kind)
rule_of_failing text front rest breach (ByMore loose m derives x more same is) = rule_by breach _ is (TrailingText, refl)
rule_of_failing text front rest breach (ByDeclaration loose none s wrong is) = rule_by breach _ is (SignatureWrong, refl)
rule_of_failing text front rest breach (Otherwise loose none wrong is) = rule_by breach _ is (Syntax, refl)

rule_of_spoilt : (text : List ℕ) (breach : Breach) → IsSpoilt text breach → IsTextRule breach.rule
rule_of_spoilt text breach (inl reading) = rule_of_reading text 0 reading.0 breach reading.1
rule_of_spoilt text breach (inr refused) = rule_of_failing text refused.2.front refused.2.rest breach refused.2.fails

-- a text is spoilt by a refusal
pub spoilt_by : (text : List ℕ) (breach : Breach) → IsSpoilt text breach → (refusal : TextRefusal) × IsSpoilt text (breach_of refusal)
spoilt_by text breach spoilt =
    let is = rule_of_spoilt text breach spoilt in
    (record { rule = is.0; at = breach.at }, subst (λ n. IsSpoilt text (record { rule = n; at = breach.at })) (sym is.1) spoilt)

-- the rule of a number
rule_at : ℕ → TextRule
rule_at n =
    cond (eqb n 1) TooLong (cond (eqb n 2) BadCharacter (cond (eqb n 3) OpenString (cond (eqb n 4) NumberForm (cond (eqb n 5) Syntax (cond (eqb n 6) NumberOrder
    (cond (eqb n 7) LabelLength (cond (eqb n 8) UnknownFunction (cond (eqb n 9) SignatureWrong (cond (eqb n 10) UnknownInstruction (cond (eqb n 11) UnknownProfile TrailingText))))))))))

rule_back : (rule : TextRule) → rule_at (number_of rule) ≡ rule
unfolding rule_at
rule_back TooLong = refl
rule_back BadCharacter = refl
rule_back OpenString = refl
rule_back NumberForm = refl
rule_back Syntax = refl
rule_back NumberOrder = refl
rule_back LabelLength = refl
rule_back UnknownFunction = refl
rule_back SignatureWrong = refl
rule_back UnknownInstruction = refl
rule_back UnknownProfile = refl
rule_back TrailingText = refl

-- one breach is told by one line
pub one_text_line : (a b : TextRefusal) → breach_of a ≡ breach_of b → text_refusal_line a ≡ text_refusal_line b
one_text_line a b same =
    let rule = sym (rule_back a.rule) ∙ ap (λ (breach : Breach). rule_at breach.rule) same ∙ rule_back b.rule in
    ap (λ (r : TextRule). text_refusal_line (record { rule = r; at = a.at })) rule
    ∙ ap (λ (breach : Breach). text_refusal_line (record { rule = b.rule; at = breach.at })) same

-- ---- rules of the profile

abbrev pub IsCheckRule : ℕ → Type 0
IsCheckRule n = (rule : CheckRule) × (c.number_of rule ≡ n)

are_rules : AllByRecursion (λ (r : ℕ × Demand). IsCheckRule r.0) rules
are_rules = (
  (Flags, refl),
  (
    (Entry, refl),
    (
      (QubitIds, refl),
      (
        (ResultIds, refl),
        (
          (Declarations, refl),
          (
            (Calls, refl),
            (
              (Initialize, refl),
              (
                (Labels, refl),
                (
                  (AssignedOnce, refl),
                  (
                    (Targets, refl),
                    (
                      (Phis, refl),
                      ((OperandTypes, refl), ((Constants, refl), ((CarriedRegister, refl), ((CarriedResult, refl), ((DistinctQubits, refl), ((Records, refl), ((LabelTexts, refl), ((EarlierWay, refl), ((Limits, refl), tt))))))))),
                    ),
                  ),
                ),
              ),
            ),
          ),
        ),
      ),
    ),
  ),
)

rule_of_first : (m : Module) (rs : List (ℕ × Demand)) (breach : p.Breach) → AllByRecursion (λ (r : ℕ × Demand). IsCheckRule r.0) rs → first_rule m rs ≡ Some breach → IsCheckRule breach.rule
rule_of_first m [] breach are is = absurd (cc)
rule_of_first m (r ∷ rs) breach are is = by_place (first_breach m r.1) (λ e. rule_of_first m rs breach are.1 e) is
  where
    by_place : (place : Option Place) → (first_rule m rs ≡ Some breach → IsCheckRule breach.rule) → breach_or r.0 place (first_rule m rs) ≡ Some breach → IsCheckRule breach.rule
    by_place (Some place) others e = let same : record { rule = r.0; at = place } ≡ breach = cc in subst (λ (b : p.Breach). IsCheckRule b.rule) same are.0
    by_place None others e = others e

pub rule_of_broken : (m : Module) (breach : p.Breach) → broken m ≡ Some breach → IsCheckRule breach.rule
rule_of_broken m breach is = rule_of_first m rules breach are_rules is

check_at : ℕ → CheckRule
check_at n =
    cond (eqb n 1) Flags (cond (eqb n 2) Entry (cond (eqb n 3) QubitIds (cond (eqb n 4) ResultIds (cond (eqb n 5) Declarations (cond (eqb n 6) Calls (cond (eqb n 7) Initialize
    (cond (eqb n 8) Labels (cond (eqb n 9) AssignedOnce (cond (eqb n 10) Targets (cond (eqb n 11) Phis (cond (eqb n 12) OperandTypes (cond (eqb n 13) Constants (cond (eqb n 14) CarriedRegister
    (cond (eqb n 15) CarriedResult (cond (eqb n 16) DistinctQubits (cond (eqb n 17) Records (cond (eqb n 18) LabelTexts (cond (eqb n 19) EarlierWay Limits))))))))))))))))))

check_back : (rule : CheckRule) → check_at (c.number_of rule) ≡ rule
unfolding check_at
check_back Flags = refl
check_back Entry = refl
check_back QubitIds = refl
check_back ResultIds = refl
check_back Declarations = refl
check_back Calls = refl
check_back Initialize = refl
check_back Labels = refl
check_back AssignedOnce = refl
check_back Targets = refl
check_back Phis = refl
check_back OperandTypes = refl
check_back Constants = refl
check_back CarriedRegister = refl
check_back CarriedResult = refl
check_back DistinctQubits = refl
check_back Records = refl
check_back LabelTexts = refl
check_back EarlierWay = refl
check_back Limits = refl

abbrev pub breach_at : CheckRule → ℕ → ℕ → p.Breach
breach_at rule block item = record { rule = c.number_of rule; at = record { block = block; item = item } }

pub one_broken_line : (rule other : CheckRule) (block item other_block other_item : ℕ) → breach_at rule block item ≡ breach_at other other_block other_item
    → broken_line rule block item ≡ broken_line other other_block other_item
one_broken_line rule other block item other_block other_item same =
    let rules_same = sym (check_back rule) ∙ ap (λ (breach : p.Breach). check_at breach.rule) same ∙ check_back other in
    ap (λ (r : CheckRule). broken_line r block item) rules_same
    ∙ ap (λ (breach : p.Breach). broken_line other breach.at.block breach.at.item) same
