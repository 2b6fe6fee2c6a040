-- For private contracts alone: what the parts of the writer speak of, beside the canonical text itself.
use Rattle.std.specs.Prelude.{ℕ, zero, suc, List, [], ◌++◌, codes, map}
use Rattle.qir_module.specs.Text.{line, comma_joined}
use Rattle.qir_module.specs.Written.{kind_text, gives_text, group_text}
use Rattle.qir_module.specs.Kinds.{kind_of}
use Rattle.qir_module.specs.declared.function.FunctionRow.{FunctionRow}

-- what stands in front of the item of a list that has this many in front of it
abbrev pub comma_before : ℕ → List ℕ
comma_before zero = []
comma_before (suc index) = codes ", "

-- the line that declares the function of a row of the code's table
abbrev pub row_line : FunctionRow → List ℕ
row_line row = line (codes "declare " ++ gives_text row.gives ++ codes " @" ++ row.name.now ++ codes "(" ++ comma_joined (map (λ kind. kind_text (kind_of kind)) row.takes.now) ++ codes ")" ++ group_text row.irreversible)
