-- The numbers of the statuses, as the program's users see them.
use Rattle.std.specs.Prelude.{ℕ, ◌≡◌}
use Rattle.qq_base.specs.Seen.{Ending, Ended, Asked, Turning, Stuck}
use Rattle.qq_tool.specs.declared.status.Status.{Status}
use Rattle.qq_tool.specs.declared.status.Status.TheVariants as s

abbrev pub code_of : Status → ℕ
code_of s.Success = 0
code_of s.Refused = 1
code_of s.BadWords = 2
code_of s.ReadFault = 3
code_of s.WriteFault = 4
code_of s.OutOfMemory = 5
code_of s.Asked = 7
code_of s.Turning = 8

-- the status of a run by its fate; a stuck run has none
abbrev pub IsStatusOfFate : Ending → Status → Type 0
IsStatusOfFate Ended status = status ≡ s.Success
IsStatusOfFate Asked status = status ≡ s.Asked
IsStatusOfFate Turning status = status ≡ s.Turning
IsStatusOfFate Stuck status = ⊥
