use Rattle.std.proofs.Common.{[], ◌∷◌, codes, pos, All, FitsSigned, w64, arith, rules, refl, lit<}
use Rattle.std.proofs.lemmas.Int.{fits_signed_from_abs}
use Rattle.std.proofs.lemmas.List.Elements.{All-nil, All-cons}
use Rattle.qir_module.specs.Module.{IsByte}
use Rattle.qir_writer.proofs.tests.coin.Goals as goal

label_bytes : All IsByte (99 ∷ 0 ∷ [])
label_bytes = All-cons IsByte 99 (0 ∷ []) (lit< tt) (All-cons IsByte 0 [] (lit< tt) (All-nil IsByte))

zero_word : FitsSigned w64 (pos 0)
zero_word = fits_signed_from_abs w64 (pos 0) (lit< tt)

pub invariant_of-result : goal.invariant_of-result
invariant_of-result c =
    let few = c.in_ok-coin_body.ensures.few in
    rw (c.in_ok-vec-3.ensures.items, c.in_ok-vec-2.ensures.items, c.in_ok-vec.ensures.items, c.in_ok-from_slice.ensures.items, c.new.ensures.items)
    record {
      has_block = search rules;
      few_labels = search rules;
      few_blocks = search rules;
      few_items = omega arith;
      each_label = ((lit< tt, label_bytes, codes "c", refl), tt);
      each_block = ((lit< tt, omega arith, tt, c.in_ok-coin_body.ensures.shaped, zero_word), tt);
      each_declaration = search rules;
      qubits = lit< tt;
      results = lit< tt;
      major = lit< tt;
      minor = lit< tt;
    }
