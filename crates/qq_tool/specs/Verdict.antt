-- This serves private contracts alone: the line of a refusal of the code.
use Rattle.std.specs.Prelude.{ℕ, List}
use Rattle.qq_tool.specs.QirRefused.{text_refusal_line, broken_line}
use Rattle.qq_tool.specs.declared.verdict.QirRefusal.{QirRefusal}
use Rattle.qq_tool.specs.declared.verdict.QirRefusal.TheVariants.{Text, Profile}

abbrev pub line_of : QirRefusal → List ℕ
line_of (Text refusal) = text_refusal_line refusal
line_of (Profile rule block item) = broken_line rule block item
