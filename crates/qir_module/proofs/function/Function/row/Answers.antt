use Rattle.std.proofs.Common.{◌≡◌, ℕ, ◌≤◌, Option, None, sym, ap, arith}
use Rattle.std.specs.Option.{option_map}
use Rattle.std.proofs.lemmas.Option.{slice_get_past}
use Rattle.qir_module.specs.Functions.{Row, rows, row_of}
use Rattle.qir_module.proofs.function.Function.row.Goals as goal

-- behind the last function
no_row : {A : Type 0} (part : Row → A) (place : ℕ) → 37 ≤ place → None ≡ option_map part (row_of place)
no_row part place past = ap (λ (row : Option Row). option_map part row) (sym (slice_get_past rows place past))

pub returns-in-37-to-255-clause-name : goal.returns-in-37-to-255-clause-name
returns-in-37-to-255-clause-name c = no_row (λ row. row.name) c.args.self.0 (omega arith)

pub returns-in-37-to-255-clause-takes : goal.returns-in-37-to-255-clause-takes
returns-in-37-to-255-clause-takes c = no_row (λ row. row.takes) c.args.self.0 (omega arith)

pub returns-in-37-to-255-clause-gives : goal.returns-in-37-to-255-clause-gives
returns-in-37-to-255-clause-gives c = no_row (λ row. row.gives) c.args.self.0 (omega arith)

pub returns-in-37-to-255-clause-irreversible : goal.returns-in-37-to-255-clause-irreversible
returns-in-37-to-255-clause-irreversible c = no_row (λ row. row.irreversible) c.args.self.0 (omega arith)
