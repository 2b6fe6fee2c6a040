-- Which module the bytes of a text spell, and by which rule and where a text is refused that spells none.
use Rattle.std.specs.Prelude.{◌≡◌, ℕ, true, false, cond, Result, ◌⊎◌, List, [], ◌∷◌, ◌++◌, Ok, Err, Option, Some, None}
use Rattle.qq_base.specs.declared.refusal.Span.{Span}
use Rattle.qir_module.specs.Module.{Module}
use Rattle.grammar_parts.specs.Reading.{Stops}
use Rattle.qir_module.specs.Tokens.{TokenKind, Token, Breach, Tokens, end_of}
use Rattle.qir_module.specs.Tokens as t
use Rattle.qir_module.specs.Grammar.{Signature, is_right, heading, Heading, module_part}

-- the bytes have tokens, and these are the module
abbrev pub IsTextOf : List ℕ → Module → Type 0
IsTextOf text m = (tokens : List Token) × Tokens text (Ok tokens) × (module_part false).derives tokens m

-- ---- the rule of a token

-- The rule by which a token fails of which only the value is wrong: NumberOrder for the number of a label, a group or
-- a flag, LabelLength, UnknownFunction, UnknownInstruction and UnknownProfile.
abbrev pub rule_of_value : TokenKind → ℕ
rule_of_value (t.Constant n) = 6
rule_of_value (t.Group n) = 6
rule_of_value (t.Flag n) = 6
rule_of_value (t.Bytes body) = 7
rule_of_value (t.Named name) = 8
rule_of_value (t.Word spelling) = 10
rule_of_value (t.Text body) = 11
rule_of_value _ = 5

-- the place of the first of these tokens, or of the end of the text
abbrev pub place_at : List ℕ → List Token → Span
place_at text [] = end_of text
place_at text (x ∷ rest) = x.at

-- the first declaration that is not the table's
abbrev pub first_wrong : List Signature → Option Signature
first_wrong [] = None
first_wrong (s ∷ ss) = cond (is_right s) (first_wrong ss) (Some s)

-- these are a module up to a declaration that is not the table's
abbrev pub EndsWrong : List Token → Signature → Type 0
EndsWrong front s = (h : Heading) × (heading false).derives front h × (first_wrong h.signatures ≡ Some s)

-- a token that only the loose grammar takes behind these stands there
abbrev pub OnlyLoose : List Token → List Token → Type 0
OnlyLoose front rest = (x : Token) × (more : List Token) × (rest ≡ x ∷ more) × (module_part true).begins (front ++ x ∷ [])

module _ (text : List ℕ) where
  -- Behind the longest front that begins a module, the rest is refused so. A case stands where none before it does.
  -- (Behind a declaration that is not the table's the loose grammar goes on with no token either.)
  pub data FailsBy (front rest : List Token) (breach : Breach) : Type 0 where
    -- only the value of the token is wrong
    ByValue : (x : Token) (more : List Token) → rest ≡ x ∷ more → (module_part true).begins (front ++ x ∷ []) → breach ≡ record { rule = rule_of_value x.kind; at = x.at } → FailsBy front rest breach
    -- TrailingText
    ByMore : ¬ (OnlyLoose front rest) → (m : Module) → (module_part false).derives front m → (x : Token) (more : List Token) → rest ≡ x ∷ more → breach ≡ record { rule = 12; at = x.at } → FailsBy front rest breach
    -- SignatureWrong, at the name of the declaration
    ByDeclaration : ¬ (OnlyLoose front rest) → ((m : Module) → ¬ ((module_part false).derives front m)) → (s : Signature) → EndsWrong front s → breach ≡ record { rule = 9; at = s.at } → FailsBy front rest breach
    -- Syntax
    Otherwise : ¬ (OnlyLoose front rest) → ((m : Module) → ¬ ((module_part false).derives front m)) → ((s : Signature) → ¬ (EndsWrong front s)) → breach ≡ record { rule = 5; at = place_at text rest } → FailsBy front rest breach

  -- the tokens are no module, by this rule and there
  pub record IsRefused (tokens : List Token) (breach : Breach) : Type 0 where
    pub front : List Token
    pub rest : List Token
    pub split : tokens ≡ front ++ rest
    pub begun : (module_part false).begins front
    pub longest : Stops (module_part false) front rest
    pub fails : FailsBy front rest breach

  -- the tokens are this module, or are refused so
  abbrev pub IsAnswer : List Token → Result Module Breach → Type 0
  IsAnswer tokens (Ok m) = (module_part false).derives tokens m
  IsAnswer tokens (Err breach) = IsRefused tokens breach

-- The text spells no module, by this rule and there. The rules of tokens are asked over the whole text first.
abbrev pub IsSpoilt : List ℕ → Breach → Type 0
IsSpoilt text breach = Tokens text (Err breach) ⊎ ((tokens : List Token) × Tokens text (Ok tokens) × IsRefused text tokens breach)

-- the text spells this module, or is spoilt so
abbrev pub IsTextAnswer : List ℕ → Result Module Breach → Type 0
IsTextAnswer text (Ok m) = IsTextOf text m
IsTextAnswer text (Err breach) = IsSpoilt text breach
