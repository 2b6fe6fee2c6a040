-- One reader in place of another, and of several kinds of token none that stands next.
use Rattle.std.proofs.Common.{◌≡◌, ℕ, ◌||◌, Bool, true, false, List, [], ◌∷◌, Ok, Err, refl, ◌∙◌}
use Rattle.std.specs.Prelude.{◌==◌, Result}
use Rattle.grammar_parts.specs.Reading.{Reader, heads}
use Rattle.grammar_parts.specs.Kinds.{among}
use Rattle.qir_module.specs.Tokens.{Token}
use Rattle.qir_module.specs.Words.{kind}
use Rattle.qir_reader.specs.declared.stop.Stop.{Stop}
use Rattle.qir_reader.specs.Seen.{Gives, Takes}

-- what another reader answers of what is left is the answer
pub gives_on : {A : Type 0} (reader later : Reader Token A) (old mid : List Token) → reader old ≡ later mid → (result : Result A Stop) (new : List Token)
    → Gives later mid result new → Gives reader old result new
gives_on reader later old mid is (Ok x) new gives = is ∙ gives
gives_on reader later old mid is (Err e) new gives = λ other. is ∙ gives other

-- and where nothing is given of it
pub takes_on : {A : Type 0} (reader : Reader Token A) (later : Reader Token A) (old mid : List Token) → reader old ≡ later mid → (result : Result (Unit {0}) Stop) (new : List Token)
    → Takes later mid result new → Takes reader old result new
takes_on reader later old mid is (Ok x) new takes = record { value = takes.value; shown = tt; read = is ∙ takes.read }
takes_on reader later old mid is (Err e) new takes = λ other. is ∙ takes other

neither : (p q : Bool) → (p || false) ≡ false → (q || false) ≡ false → (p || (q || false)) ≡ false
neither false q first second = second
neither true q first second = cc

-- a token of neither kind stands next
pub neither_heads : (a b : ℕ) (ts : List Token) → heads (among kind (a ∷ [])) ts ≡ false → heads (among kind (b ∷ [])) ts ≡ false
    → heads (among kind (a ∷ b ∷ [])) ts ≡ false
neither_heads a b [] first second = refl
neither_heads a b (t ∷ ts) first second = neither (kind t == a) (kind t == b) first second
