use Rattle.std.proofs.Common.{◌⊎◌, inl, inr}
use Rattle.grammar_parts.specs.Part.{nothing_kept}
use Rattle.grammar_parts.proofs.Following.{follows_many}
use Rattle.grammar_parts.proofs.laws.repetition_is_read_exactly.Goals as goal

pub returns : goal.returns
returns g c test apart hit miss ts =
    ((follows_many {N = λ t. ((a : g.row.P.Denot) × g.P.Phrase.more a t) ⊎ g.P.Phrase.first t} (λ s a. s) (λ s. test) (λ s. g.P.Phrase.read) (λ s. g.P.Phrase.filled) (λ s. apart) (λ s a t m. inl (a, m)) (λ s t f. inr f) (λ u s. hit) (λ s. miss) nothing_kept).takes tt ts).holds
