-- Pieces of text that the canonical text of a module is made of.
use Rattle.std.specs.Prelude.{ℕ, ◌+◌, ◌/◌, ◌%◌, nat_le, nat_eq, nat_lt, if◌then◌else◌, Bool, not, ◌&&◌, List, [], ◌∷◌, ◌++◌, codes}

-- a text and the end of its line
abbrev pub line : List ℕ → List ℕ
line text = text ++ 10 ∷ []

-- the items, with a comma and a blank between each two
abbrev pub comma_joined : List (List ℕ) → List ℕ
comma_joined [] = []
comma_joined (item ∷ []) = item
comma_joined (item ∷ next ∷ items) = item ++ codes ", " ++ comma_joined (next ∷ items)

-- the upper case hexadecimal digit of a number below 16
abbrev pub hex_digit : ℕ → ℕ
hex_digit n = if nat_lt n 10 then 48 + n else 55 + n

-- a byte from the blank to the tilde, other than the quote and the backslash
abbrev pub is_plain : ℕ → Bool
is_plain byte = nat_le 32 byte && nat_le byte 126 && not (nat_eq byte 34) && not (nat_eq byte 92)

-- a byte of a quoted text: itself, or a backslash and two hexadecimal digits
abbrev pub escaped : ℕ → List ℕ
escaped byte = if is_plain byte then byte ∷ [] else 92 ∷ hex_digit (byte / 16) ∷ hex_digit (byte % 16) ∷ []
