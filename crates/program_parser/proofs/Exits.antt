-- Refusals on their way out, and calls behind one another.
use Rattle.std.proofs.Common.{◌≡◌, ℕ, ◌+◌, ◌≤◌, Result, Ok, Err, ◌∙◌}
use Rattle.std.specs.Prelude.{◌≢◌}
use Rattle.std.specs.Result.{IsErr, IsErrAnd}
use Rattle.std.proofs.lemmas.Result.{err_from_is_err_and}
use Rattle.qasm_lexer.specs.declared.token.Token.{Token}
use Rattle.grammar_parts.specs.Reading.{Reader}
use Rattle.qasm_parser.specs.declared.stop.Stop.{Stop}
use Rattle.qasm_parser.specs.declared.stop.Stop.TheVariants as why
use Rattle.qasm_parser.specs.State.{State, After, refusal}
use Rattle.qasm_parser.proofs.Growing.{after_on, fewer}
use Rattle.program_parser.specs.World.{World}
use Rattle.program_parser.specs.Parses.{ParsesWith}

module _ {Y B : Type 0} (spare : ℕ) (look : World → Y → B → Type 0) (whole : Reader Token B) (old new : State) where
  -- a refusal of a part, handed on by `?`, is that of the whole
  pub handed : {e : Stop} (r : Result Y Stop) → IsErr r × IsErrAnd r (λ y. y ≡ e) → (e ≢ why.Memory → whole old.left ≡ Err (refusal e new.left)) → ParsesWith spare look whole old r new
  handed r is f = let q = err_from_is_err_and r is.1 in rw (q.1, q.2) f

  -- one reader in place of another
  pub instead : (part : Reader Token B) (r : Result Y Stop) → whole old.left ≡ part old.left → ParsesWith spare look part old r new → ParsesWith spare look whole old r new
  instead part (Ok x) e h = record { value = h.value; shown = h.shown; read = e ∙ h.read; after = h.after }
  instead part (Err stop) e h = λ no. e ∙ h no

-- what is read behind some tokens, for the whole
pub behind : {Y B : Type 0} (m n spare : ℕ) → spare ≤ m + n → (look : World → Y → B → Type 0) (whole part : Reader Token B) (a b c : State) (r : Result Y Stop) → After m 0 a b → whole a.left ≡ part b.left → ParsesWith n look part b r c → ParsesWith spare look whole a r c
behind m n spare le look whole part a b c (Ok x) g e h = record { value = h.value; shown = h.shown; read = e ∙ h.read; after = fewer (m + n) spare le (after_on g h.after) }
behind m n spare le look whole part a b c (Err stop) g e h = λ no. e ∙ h no
