-- The table of the rules of the profile: their numbers and their names.
use Rattle.std.specs.Prelude.{ℕ, List, codes}
use Rattle.profile_check.specs.declared.rule.CheckRule.{CheckRule}
use Rattle.profile_check.specs.declared.rule.CheckRule.TheVariants.{Flags, Entry, QubitIds, ResultIds, Declarations, Calls, Initialize, Labels, AssignedOnce, Targets, Phis, OperandTypes, Constants, CarriedRegister, CarriedResult, DistinctQubits, Records, LabelTexts, EarlierWay, Limits}

-- what stands behind the P
abbrev pub number_of : CheckRule → ℕ
number_of Flags = 1
number_of Entry = 2
number_of QubitIds = 3
number_of ResultIds = 4
number_of Declarations = 5
number_of Calls = 6
number_of Initialize = 7
number_of Labels = 8
number_of AssignedOnce = 9
number_of Targets = 10
number_of Phis = 11
number_of OperandTypes = 12
number_of Constants = 13
number_of CarriedRegister = 14
number_of CarriedResult = 15
number_of DistinctQubits = 16
number_of Records = 17
number_of LabelTexts = 18
number_of EarlierWay = 19
number_of Limits = 20

-- what stands behind the number
abbrev pub name_of : CheckRule → List ℕ
name_of Flags = codes "Flags"
name_of Entry = codes "Entry"
name_of QubitIds = codes "QubitIds"
name_of ResultIds = codes "ResultIds"
name_of Declarations = codes "Declarations"
name_of Calls = codes "Calls"
name_of Initialize = codes "Initialize"
name_of Labels = codes "Labels"
name_of AssignedOnce = codes "AssignedOnce"
name_of Targets = codes "Targets"
name_of Phis = codes "Phis"
name_of OperandTypes = codes "OperandTypes"
name_of Constants = codes "Constants"
name_of CarriedRegister = codes "CarriedRegister"
name_of CarriedResult = codes "CarriedResult"
name_of DistinctQubits = codes "DistinctQubits"
name_of Records = codes "Records"
name_of LabelTexts = codes "LabelTexts"
name_of EarlierWay = codes "EarlierWay"
name_of Limits = codes "Limits"
