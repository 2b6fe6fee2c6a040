-- The commands of the program.
use Rattle.std.specs.Prelude.{ℕ, ◌&&◌, nat_le, if◌then◌else◌, Bool, List, [], ◌∷◌, length, map, nat_eq, Option, Some, None, codes}
use Rattle.std.specs.List.{list_all}
use Rattle.std.specs.Str.{bytes_eq}
use Rattle.std.specs.Str.Parse.{digits_value}
use Rattle.std.specs.Fmt.{decimal}
use Rattle.qasm_lexer.specs.declared.lexer.TheConstants.{MOST_BYTES}
use Rattle.qir_lexer.specs.declared.lexer.TheConstants.{MOST_BYTES as MOST_QIR_BYTES}

pub data Command : Type 0 where
  -- source text in, and QIR text out, or only whether it is accepted
  Compile : Command
  Check : Command
  -- QIR text in, and whether it passes out, or what its run shows for these outcomes and so many turns
  Verify : Command
  Run : (outcomes : List Bool) (turns : ℕ) → Command

-- ---- the words of a run

abbrev pub is_bit : ℕ → Bool
is_bit c = nat_le 48 c && nat_le c 49

-- A dash for no outcomes, or 1 to 65,536 of the characters 0 and 1.
abbrev pub outcomes_in : List ℕ → Option (List Bool)
outcomes_in word =
    if bytes_eq word (codes "-") then Some []
    else (if nat_le 1 (length word) && nat_le (length word) 65536 && list_all is_bit word then Some (map (nat_eq 49) word) else None)

-- the number that the word is in decimal digits, without sign or leading zero, if it is one and at most `most`
abbrev pub number_in : ℕ → List ℕ → Option ℕ
number_in most word =
    if bytes_eq word (decimal (digits_value 10 word)) && nat_le (digits_value 10 word) most then Some (digits_value 10 word) else None

abbrev pub run_of : Option (List Bool) → Option ℕ → Option Command
run_of None turns = None
run_of (Some outcomes) None = None
run_of (Some outcomes) (Some turns) = Some (Run outcomes turns)

-- ---- the words

abbrev pub single : List ℕ → Option Command
single word =
    if bytes_eq word (codes "compile") then Some Compile
    else (if bytes_eq word (codes "check") then Some Check
    else (if bytes_eq word (codes "verify") then Some Verify else None))

-- what the words behind the program's name say, if anything
abbrev pub command_of : List (List ℕ) → Option Command
command_of (word ∷ []) = single word
command_of (word ∷ bits ∷ turns ∷ []) = if bytes_eq word (codes "run") then run_of (outcomes_in bits) (number_in 1000000 turns) else None
command_of words = None

-- ---- what is read

-- the greatest number of bytes of a source text: 4,194,304
abbrev pub source_limit : ℕ
source_limit = MOST_BYTES

-- the greatest number of bytes of a QIR text: 1,073,741,824
abbrev pub qir_limit : ℕ
qir_limit = MOST_QIR_BYTES

-- how many bytes of input it takes at most; None where it reads nothing
abbrev pub input_limit : Option Command → Option ℕ
input_limit None = None
input_limit (Some Compile) = Some source_limit
input_limit (Some Check) = Some source_limit
input_limit (Some Verify) = Some qir_limit
input_limit (Some (Run outcomes turns)) = Some qir_limit

-- whether what it reads is source text
pub data TakesSource : Command → Type 0 where
  OfCompile : TakesSource Compile
  OfCheck : TakesSource Check

-- or QIR text
pub data TakesModule : Command → Type 0 where
  OfVerify : TakesModule Verify
  OfRun : (outcomes : List Bool) (turns : ℕ) → TakesModule (Run outcomes turns)
