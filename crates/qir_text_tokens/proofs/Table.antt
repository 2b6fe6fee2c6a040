-- What each row of the table of functions has: a name that is a word.
use Rattle.std.proofs.Common.{◌≡◌, ℕ, zero, suc, ◌<◌, Bool, true, ◌&&◌, List, [], ◌∷◌, length, Some, refl, arith}
use Rattle.std.specs.Prelude.{slice_get}
use Rattle.std.specs.List.{list_all}
use Rattle.std.proofs.lemmas.Bool.{and_parts}
use Rattle.qir_module.specs.Functions.{Row, rows, row_of}
use Rattle.qir_module.specs.Tokens.{begins_word, continues_word}
use Rattle.qir_module.specs.Lexer.{heads}

abbrev is_named : Row → Bool
is_named row = heads begins_word row.name && list_all continues_word row.name

all_named : list_all is_named rows ≡ true
all_named = refl

-- the row of a function
pub record RowAt (place : ℕ) : Type 0 where
  pub row : Row
  pub is : row_of place ≡ Some row
  pub begins : heads begins_word row.name ≡ true
  pub continues : list_all continues_word row.name ≡ true

passing_at : (test : Row → Bool) (rs : List Row) (place : ℕ) → list_all test rs ≡ true → place < length rs → (row : Row) × (slice_get rs place ≡ Some row) × (test row ≡ true)
passing_at test [] place e h = absurd (omega arith)
passing_at test (row ∷ rs) zero e h = (row, refl, (and_parts (test row) (list_all test rs) e).0)
passing_at test (row ∷ rs) (suc place) e h = passing_at test rs place (and_parts (test row) (list_all test rs) e).1 (omega arith)

pub row_at : (place : ℕ) → place < 37 → RowAt place
row_at place h =
    let found = passing_at is_named rows place all_named h in
    let parts = and_parts (heads begins_word found.0.name) (list_all continues_word found.0.name) found.2 in
    record { row = found.0; is = found.1; begins = parts.0; continues = parts.1 }
