-- This serves private contracts alone: reading a thin text from left to right, as the functions of the reader do. Each
-- definition gives the value that stands in front and the bytes behind it, or nothing where no such value stands
-- there. That they read just the texts of `Thin` is proved in `proofs/Texts.antt`.
use Rattle.std.specs.Prelude.{ℕ, zero, suc, ◌≡◌, nat_eq, nat_le, nat_lt, if◌then◌else◌, Bool, true, false, not, ◌&&◌, List, [], ◌∷◌, length, drop, take_while, Option, Some, None, codes}
use Rattle.std.specs.Char.{is_ascii_digit}
use Rattle.std.specs.List.{prefix_len}
use Rattle.std.specs.Option.{option_or}
use Rattle.std.specs.Str.Parse.{digits_value}
use Rattle.qq_tool.specs.declared.thin.ThinLine.{ThinLine}
use Rattle.qq_tool.specs.declared.thin.ThinLine.TheVariants.{Hadamard, Not, ControlledNot, Measure}

infixl 10 ◌>>=◌
abbrev pub ◌>>=◌ : {A B : Type 0} → Option A → (A → Option B) → Option B
(Some x) >>= f = f x
None >>= f = None

-- what a function returned, seen by view, is what reading gives
abbrev pub Gives : {X Y : Type 0} → (X → Y) → Option X → Option Y → Type 0
Gives view (Some x) read = read ≡ Some (view x)
Gives view None read = read ≡ None

-- the bytes behind a prefix
unfoldable pub after : List ℕ → List ℕ → Option (List ℕ)
after [] bytes = Some bytes
after (c ∷ prefix) [] = None
after (c ∷ prefix) (byte ∷ bytes) = if nat_eq byte c then after prefix bytes else None

-- one to four digits, and no zero in front of others
unfoldable pub is_numeral : List ℕ → Bool
is_numeral [] = false
is_numeral (digit ∷ []) = true
is_numeral (first ∷ second ∷ digits) = not (nat_eq first 48) && nat_le (length digits) 2

unfoldable pub number_at : List ℕ → Option (ℕ × List ℕ)
number_at bytes =
    let digits = take_while is_ascii_digit bytes in
    if is_numeral digits then Some (digits_value 10 digits, drop (prefix_len is_ascii_digit bytes) bytes) else None

-- a number below the limit and a closing bracket, behind a prefix
unfoldable pub place_at : List ℕ → ℕ → List ℕ → Option (ℕ × List ℕ)
place_at before limit bytes = do
  behind ← after before bytes
  n ← number_at behind
  rest ← after (codes "]") n.1
  if nat_lt n.0 limit then Some (n.0, rest) else None

unfoldable pub hadamard_at : ℕ → List ℕ → Option (ThinLine × List ℕ)
hadamard_at qubits bytes = do
  qubit ← place_at (codes "h q[") qubits bytes
  rest ← after (codes ";\n") qubit.1
  Some (Hadamard qubit.0, rest)

unfoldable pub not_at : ℕ → List ℕ → Option (ThinLine × List ℕ)
not_at qubits bytes = do
  qubit ← place_at (codes "x q[") qubits bytes
  rest ← after (codes ";\n") qubit.1
  Some (Not qubit.0, rest)

unfoldable pub controlled_not_at : ℕ → List ℕ → Option (ThinLine × List ℕ)
controlled_not_at qubits bytes = do
  control ← place_at (codes "cx q[") qubits bytes
  target ← place_at (codes ", q[") qubits control.1
  rest ← after (codes ";\n") target.1
  if nat_eq control.0 target.0 then None else Some (ControlledNot control.0 target.0, rest)

unfoldable pub measure_at : ℕ → ℕ → List ℕ → Option (ThinLine × List ℕ)
measure_at qubits bits bytes = do
  bit ← place_at (codes "c[") bits bytes
  qubit ← place_at (codes " = measure q[") qubits bit.1
  rest ← after (codes ";\n") qubit.1
  Some (Measure qubit.0 bit.0, rest)

unfoldable pub line_at : ℕ → ℕ → List ℕ → Option (ThinLine × List ℕ)
line_at qubits bits bytes =
    option_or (option_or (option_or (hadamard_at qubits bytes) (not_at qubits bytes)) (controlled_not_at qubits bytes)) (measure_at qubits bits bytes)

-- at most n lines, and nothing behind them
unfoldable pub lines_at : ℕ → ℕ → ℕ → List ℕ → Option (List ThinLine)
lines_at qubits bits n [] = Some []
lines_at qubits bits zero (byte ∷ bytes) = None
lines_at qubits bits (suc n) (byte ∷ bytes) = do
  first ← line_at qubits bits (byte ∷ bytes)
  others ← lines_at qubits bits n first.1
  Some (first.0 ∷ others)

-- the sizes of the two registers, of qubits and of bits
unfoldable pub sizes_at : List ℕ → Option (ℕ × ℕ × List ℕ)
sizes_at bytes = do
  opened ← after (codes "OPENQASM 3.0;\ninclude \"stdgates.inc\";\n") bytes
  qubits ← place_at (codes "qubit[") 1025 opened
  between ← after (codes " q;\n") qubits.1
  bits ← place_at (codes "bit[") 4097 between
  rest ← after (codes " c;\n") bits.1
  if nat_eq qubits.0 0 then None else (if nat_eq bits.0 0 then None else Some (qubits.0, bits.0, rest))
