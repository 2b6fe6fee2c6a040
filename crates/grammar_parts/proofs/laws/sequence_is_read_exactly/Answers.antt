use Rattle.grammar_parts.proofs.Following.{follows_then}
use Rattle.grammar_parts.proofs.laws.sequence_is_read_exactly.Goals as goal

pub returns-clause-exact : goal.returns-clause-exact
returns-clause-exact g c apart ts =
    ((follows_then g.P.Phrase.read (λ a. g.Q.Phrase.read) apart (λ t f. f) (λ a t d. absurd (g.P.Phrase.filled.never_empty a d)) (λ a b t d. absurd (g.Q.Phrase.filled.never_empty b d))).takes tt ts).holds

pub returns-clause-single : goal.returns-clause-single
returns-clause-single g c apart =
    (follows_then g.P.Phrase.read (λ a. g.Q.Phrase.read) apart (λ t f. f) (λ a t d. absurd (g.P.Phrase.filled.never_empty a d)) (λ a b t d. absurd (g.Q.Phrase.filled.never_empty b d))).fine.single
