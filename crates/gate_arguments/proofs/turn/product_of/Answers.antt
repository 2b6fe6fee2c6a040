use Rattle.std.proofs.Common.{ℤ, ◌*ℤ◌, true, ap, ◌∙◌, arith}
use Rattle.std.specs.Int.{w64, w128}
use Rattle.std.proofs.lemmas.Int.{to_z-of_z}
use Rattle.word_arith.specs.declared.word_ty.WordTy.{WordTy}
use Rattle.gate_lists.specs.Units.{word_of}
use Rattle.gate_arguments.specs.Words.{product_with_word}
use Rattle.gate_arguments.proofs.turn.product_of.Goals as goal

pub returns-clause-worth : goal.returns-clause-worth
returns-clause-worth c = λ given worths.
    let same = to_z-of_z w64 c.wrap.result (record { sfits = c.wrap.type_inv }) in
    let ty : WordTy = record { signed = true; width = 64; has_bits = omega arith; fits_i64 = omega arith } in
    ap (λ (z : ℤ). word_of (worths c.args.turn *ℤ z)) (same ∙ c.wrap.ensures.value ∙ ap word_of (to_z-of_z w128 c.args.number c.ranges.number))
    ∙ product_with_word c.congruent_numbers_combine.ensures.products (λ x y. c.congruent_numbers_have_one_word.ensures ty x y) (worths c.args.turn) c.args.number
