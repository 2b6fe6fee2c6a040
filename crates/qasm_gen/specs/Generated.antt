-- The program and the outcomes that a seed gives, as a fold over draws. A draw is a step of a linear congruential generator modulo
-- 2^64, with the multiplier and the increment of MMIX (Knuth, "The Art of Computer Programming", volume 2, section 3.3.4), and gives
-- the upper 32 bits of the state behind it.
use Rattle.std.specs.Prelude.{ℕ, zero, suc, ◌+◌, ◌*◌, ◌^◌, ◌/◌, ◌%◌, nat_eq, Bool, List, [], ◌∷◌, ◌++◌, get_or, codes}
use Rattle.std.specs.Fmt.{decimal}
use Rattle.std.specs.List.{concat}

-- ---- draws

-- the state behind a draw
abbrev pub next : ℕ → ℕ
next state = (state * 6364136223846793005 + 1442695040888963407) % 2 ^ 64

-- what the draw gives that leaves this state
abbrev pub drawn : ℕ → ℕ
drawn state = state / 2 ^ 32

-- the state behind so many draws
abbrev pub behind : ℕ → ℕ → ℕ
behind zero state = state
behind (suc n) state = behind n (next state)

-- ---- lines

-- the lines with two numbers below 8 that differ, one of each kind
abbrev pub lines_with : ℕ → ℕ → List (List ℕ)
lines_with a b =
    concat (codes "h q[" ∷ decimal a ∷ codes "];\n" ∷ [])
    ∷ concat (codes "cx q[" ∷ decimal a ∷ codes "], q[" ∷ decimal b ∷ codes "];\n" ∷ [])
    ∷ concat (codes "rz(pi/" ∷ decimal (2 ^ b) ∷ codes ") q[" ∷ decimal a ∷ codes "];\n" ∷ [])
    ∷ concat (codes "c[" ∷ decimal a ∷ codes "] = measure q[" ∷ decimal b ∷ codes "];\n" ∷ [])
    ∷ concat (codes "if (c[" ∷ decimal a ∷ codes "]) { x q[" ∷ decimal b ∷ codes "]; n += 1; }\n" ∷ [])
    ∷ concat (codes "while (n < " ∷ decimal b ∷ codes ") { n += 1; if (c[" ∷ decimal a ∷ codes "]) break; }\n" ∷ [])
    ∷ codes "for int i in [0:6] cx q[i], q[i+1];\n"
    ∷ concat (codes "if (n > " ∷ decimal b ∷ codes ") { n = n - " ∷ decimal a ∷ codes "; reset q[" ∷ decimal a ∷ codes "]; } else { n += " ∷ decimal b ∷ codes "; }\n" ∷ [])
    ∷ []

-- the line of a kind from 0 to 7
abbrev pub line_of : ℕ → ℕ → ℕ → List ℕ
line_of kind a b = get_or (lines_with a b) kind []

-- of three draws the first gives the kind, and the others the two numbers
abbrev pub drawn_line : ℕ → ℕ → ℕ → List ℕ
drawn_line first second third = line_of (first % 8) (second % 8) ((second % 8 + 1 + third % 7) % 8)

-- so many lines, from a state on
abbrev pub lines_from : ℕ → ℕ → List ℕ
lines_from zero state = []
lines_from (suc n) state = drawn_line (drawn (behind 1 state)) (drawn (behind 2 state)) (drawn (behind 3 state)) ++ lines_from n (behind 3 state)

abbrev pub head : List ℕ
head = codes "OPENQASM 3.0;\ninclude \"stdgates.inc\";\nqubit[8] q;\nbit[8] c;\nint n = 0;\n"

-- ---- outcomes

-- a draw is odd
abbrev pub outcome_of : ℕ → Bool
outcome_of n = nat_eq (n % 2) 1

abbrev pub outcomes_from : ℕ → ℕ → List Bool
outcomes_from zero state = []
outcomes_from (suc n) state = outcome_of (drawn (behind 1 state)) ∷ outcomes_from n (behind 1 state)

-- ---- what a seed gives

-- the text: the seed is the first state, and each line takes three draws
abbrev pub generated_text : ℕ → ℕ → List ℕ
generated_text seed size = head ++ lines_from size seed

-- the outcomes of the draws behind those of the text
abbrev pub generated_outcomes : ℕ → ℕ → List Bool
generated_outcomes seed size = outcomes_from size (behind (3 * size) seed)
