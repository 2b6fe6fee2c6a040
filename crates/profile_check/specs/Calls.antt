-- Serves private contracts: the tests of items that take a number or a list of the module, and of calls.
use Rattle.std.specs.Prelude.{ℕ, Bool, true, false, nat_lt, List, Option, Some}
use Rattle.std.specs.List.{list_all}
use Rattle.qir_module.specs.Functions as table
use Rattle.qir_module.specs.Numbered.{is_among}
use Rattle.qir_module.specs.Passes.{is_qubit, is_result, item_ids, item_labels, item_functions}
use Rattle.profile_check.specs.Walk.{Test}
use Rattle.profile_check.specs.declared.calls.Ids.{Ids}
use Rattle.profile_check.specs.declared.calls.Ids.TheVariants.{Qubits, Results}

abbrev pub is_reading_task : Option table.Task → Bool
is_reading_task (Some table.ReadResult) = true
is_reading_task _ = false

abbrev pub is_measuring_task : Option table.Task → Bool
is_measuring_task (Some table.MeasureQubit) = true
is_measuring_task _ = false

-- the kind of the ids
abbrev pub wanted : Ids → table.Kind → Bool
wanted Qubits = is_qubit
wanted Results = is_result

-- the ids of a kind are below a number
unfoldable pub ids_below : (table.Kind → Bool) → ℕ → Test
ids_below kind limit b i item = list_all (λ n. nat_lt n limit) (item_ids kind item)

-- the labels are below a number
unfoldable pub labels_below : ℕ → Test
labels_below limit b i item = list_all (λ k. nat_lt k limit) (item_labels item)

-- the called functions are among some
unfoldable pub called_among : List ℕ → Test
called_among declared b i item = list_all (is_among declared) (item_functions item)
