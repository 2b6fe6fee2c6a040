-- The kinds of arguments of the code's rows, as the table of functions calls them.
use Rattle.qir_module.specs.Functions as table
use Rattle.qir_module.specs.declared.function.Kind.{Kind}
use Rattle.qir_module.specs.declared.function.Kind.TheVariants.{Number, Truth, Null, Qubit, Result, Label}

abbrev pub kind_of : Kind → table.Kind
kind_of Number = table.NumberKind
kind_of Truth = table.TruthKind
kind_of Null = table.NullKind
kind_of Qubit = table.QubitKind
kind_of Result = table.ResultKind
kind_of Label = table.LabelKind
