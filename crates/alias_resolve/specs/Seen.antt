-- The answers of the calls, as what is selected.
use Rattle.std.specs.Prelude.{ℕ}
use Rattle.qq_base.specs.declared.run.QubitId.{QubitId}
use Rattle.alias_resolve.specs.declared.select.Selection.{Selection}
use Rattle.alias_resolve.specs.declared.select.QubitList.{QubitList}
use Rattle.alias_resolve.specs.Places.{Selected}

abbrev pub seen_places : Selection → Selected ℕ
seen_places selection = record { items = selection.places.items; single = selection.single }

abbrev pub seen_qubits : QubitList → Selected QubitId
seen_qubits list = record { items = list.ids.items; single = list.single }
