use Rattle.gate_table.proofs.Names.{row_names_differ, source_names_differ}
use Rattle.gate_table.proofs.laws.names_differ.Goals as goal

pub returns : goal.returns
returns c = record { rows = row_names_differ; sources = source_names_differ }
