use Rattle.std.proofs.Common.{[], ◌∷◌, drop, sym, ◌∙◌, ap, subst}
use Rattle.std.specs.Str.{IsCharBoundary}
use Rattle.qasm_lexer.specs.Scan.{Cuts}
use Rattle.qasm_lexer.proofs.Cutting.{cut_char, boundary_behind_char}
use Rattle.qasm_lexer.proofs.scan.split_first.Goals as goal

-- the text begins with the character
pub split_at-requires : goal.split_at-requires
split_at-requires c =
    let split = sym c.chars.ensures.rest ∙ c.in_ok-first.ensures.steps.0 in
    subst (λ n. IsCharBoundary c.args.text.now n) (sym c.len_utf8.ensures.value) (boundary_behind_char _ _ _ c.utf8.text split)

pub returns : goal.returns
returns c =
    let split = sym c.chars.ensures.rest ∙ c.in_ok-first.ensures.steps.0 in
    let behind = c.split_at.ensures.back ∙ ap (λ n. drop n c.args.text.now) c.len_utf8.ensures.value in
    subst (λ bs. Cuts c.args.text.now (c.in_ok-first.first ∷ []) bs) (sym behind) (cut_char _ _ _ c.utf8.text split)
