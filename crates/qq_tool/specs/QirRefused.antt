-- Which QIR texts are refused, by which rule and where, and the line that says so.
use Rattle.std.specs.Prelude.{ℕ, ◌<◌, ◌≤◌, ◌≡◌, ◌⊎◌, List, ◌++◌, length, codes, Some}
use Rattle.std.specs.Fmt.{decimal}
use Rattle.qir_module.specs.Module.{Module}
use Rattle.qir_module.specs.Spoilt.{IsTextOf, IsSpoilt}
use Rattle.qir_module.specs.Passes.{Passes}
use Rattle.qir_module.specs.Broken.{broken}
use Rattle.qir_module.specs.Text.{line}
use Rattle.qir_lexer.specs.declared.rule.TextRule.TheVariants.{TooLong}
use Rattle.qir_lexer.specs.declared.rule.TextRefusal.{TextRefusal}
use Rattle.qir_lexer.specs.Rules.{breach_of}
use Rattle.qir_lexer.specs.Rules as n
use Rattle.profile_check.specs.declared.rule.CheckRule.{CheckRule}
use Rattle.profile_check.specs.Rule as p
use Rattle.qq_tool.specs.Command.{qir_limit}
use Rattle.qq_tool.specs.Refused.{two_digits}

-- as `refused N05 Syntax at 1:4`
abbrev pub text_refusal_line : TextRefusal → List ℕ
text_refusal_line r = line (codes "refused N" ++ two_digits (n.number_of r.rule) ++ codes " " ++ n.name_of r.rule
    ++ codes " at " ++ decimal r.at.line ++ codes ":" ++ decimal r.at.column)

-- as `refused P14 CarriedRegister at block 2 item 0`
abbrev pub broken_line : CheckRule → ℕ → ℕ → List ℕ
broken_line rule block item = line (codes "refused P" ++ two_digits (p.number_of rule) ++ codes " " ++ p.name_of rule
    ++ codes " at block " ++ decimal block ++ codes " item " ++ decimal item)

abbrev pub too_long : TextRefusal
too_long = record { rule = TooLong; at = record { line = 1; column = 1 } }

-- The first rule that a QIR text breaks, by its line: its length; the rules of QIR text; and of the module that it
-- spells the rules of the profile.
pub data IsQirRefused (bytes : List ℕ) (text : List ℕ) : Type 0 where
  ByLength : qir_limit < length bytes → text ≡ text_refusal_line too_long → IsQirRefused bytes text
  ByText : length bytes ≤ qir_limit → (r : TextRefusal) → IsSpoilt bytes (breach_of r) → text ≡ text_refusal_line r → IsQirRefused bytes text
  ByProfile : length bytes ≤ qir_limit → (m : Module) → IsTextOf bytes m → (rule : CheckRule) (block item : ℕ)
      → broken m ≡ Some (record { rule = p.number_of rule; at = record { block = block; item = item } })
      → text ≡ broken_line rule block item → IsQirRefused bytes text

-- the text is short enough and spells this module, which passes
pub record IsPassing (bytes : List ℕ) (m : Module) : Type 0 where
  pub short : length bytes ≤ qir_limit
  pub spelled : IsTextOf bytes m
  pub passing : Passes m

-- no text passes and is refused
abbrev pub AreApart : Type 0
AreApart = (bytes : List ℕ) (m : Module) (line : List ℕ) → IsPassing bytes m → IsQirRefused bytes line → ⊥

-- The text spells a module that passes, and no line refuses it; or it does not, and one line does.
abbrev pub IsQirDecided : List ℕ → Type 0
IsQirDecided bytes =
    (((m : Module) × IsPassing bytes m) × ((line : List ℕ) → ¬ IsQirRefused bytes line))
    ⊎ (((m : Module) → ¬ IsPassing bytes m) × (line : List ℕ) × IsQirRefused bytes line × ((other : List ℕ) → IsQirRefused bytes other → other ≡ line))
