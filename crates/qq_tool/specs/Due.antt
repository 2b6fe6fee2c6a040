-- What is due: the status and the two texts of a command for an input.
use Rattle.std.specs.Prelude.{ℕ, ◌≡◌, ◌⊎◌, List, [], Option, Some, None, codes}
use Rattle.qq_base.specs.declared.refusal.Refusal.{Refusal}
use Rattle.qq_base.specs.Seen.{Seen}
use Rattle.qir_module.specs.Module.{Module}
use Rattle.qir_module.specs.Machine.{machine_run}
use Rattle.qir_module.specs.Text.{line}
use Rattle.qq_tool.specs.declared.status.Status.{Status}
use Rattle.qq_tool.specs.declared.status.Status.TheVariants.{Success, Refused, BadWords}
use Rattle.qq_tool.specs.Command.{Command, Compile, Check, Verify, Run}
use Rattle.qq_tool.specs.Status.{IsStatusOfFate}
use Rattle.qq_tool.specs.Refused.{IsRefused, refusal_line}
use Rattle.qq_tool.specs.QirRefused.{IsQirRefused, IsPassing}
use Rattle.run_text.specs.Shown.{shown}
use Rattle.qq_tool.specs.Thin.{Thin, Spells}
use Rattle.qq_tool.specs.Compiled.{IsCompiled}

-- the text for `out` and the text for `err`
pub record Texts : Type 0 where
  pub out : List ℕ
  pub err : List ℕ

-- ---- source text

-- a source text is refused: its line, and nothing else
abbrev pub DueRefusal : List ℕ → Status → Texts → Type 0
DueRefusal bytes status texts = (status ≡ Refused) × (texts.out ≡ []) × (refusal : Refusal) × IsRefused bytes refusal × (texts.err ≡ refusal_line refusal)

-- a source text is accepted: a text that fits the program that it spells, and nothing else
abbrev pub DueOutput : (Thin → List ℕ → Type 0) → List ℕ → Status → Texts → Type 0
DueOutput fits bytes status texts = (status ≡ Success) × (texts.err ≡ []) × (p : Thin) × Spells bytes p × fits p texts.out

abbrev pub ok_line : List ℕ
ok_line = line (codes "ok")

abbrev pub DueOfSource : (Thin → List ℕ → Type 0) → List ℕ → Status → Texts → Type 0
DueOfSource fits bytes status texts = DueRefusal bytes status texts ⊎ DueOutput fits bytes status texts

-- ---- QIR text

-- a QIR text is refused: its line, and nothing else
abbrev pub DueQirRefusal : List ℕ → Status → Texts → Type 0
DueQirRefusal bytes status texts = (status ≡ Refused) × (texts.out ≡ []) × IsQirRefused bytes texts.err

-- the status and the text for `out` of a run
abbrev pub IsShownRun : List (List ℕ) → Seen → Status → List ℕ → Type 0
IsShownRun labels seen status text = IsStatusOfFate seen.fate status × (text ≡ shown labels seen)

-- a QIR text spells a module that passes: what the command gives of it, and nothing else
abbrev pub DueOfModule : (Module → Status → List ℕ → Type 0) → List ℕ → Status → Texts → Type 0
DueOfModule gives bytes status texts =
    DueQirRefusal bytes status texts ⊎ ((texts.err ≡ []) × (m : Module) × IsPassing bytes m × gives m status texts.out)

-- ---- each command

-- Words that are no command have a status of their own, whatever the input.
abbrev pub Due : Option Command → List ℕ → Status → Texts → Type 0
Due None bytes status texts = (status ≡ BadWords) × (texts.out ≡ []) × (texts.err ≡ line (codes "bad words"))
Due (Some Compile) bytes status texts = DueOfSource IsCompiled bytes status texts
Due (Some Check) bytes status texts = DueOfSource (λ p text. text ≡ ok_line) bytes status texts
Due (Some Verify) bytes status texts = DueOfModule (λ m s text. (s ≡ Success) × (text ≡ ok_line)) bytes status texts
Due (Some (Run outcomes turns)) bytes status texts = DueOfModule (λ m s text. IsShownRun m.labels (machine_run m outcomes turns) s text) bytes status texts
