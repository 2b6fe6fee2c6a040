-- All phis at once are all read and then stored.
use Rattle.std.proofs.Common.{◌≡◌, ℕ, List, [], ◌∷◌, length, map, take, Option, Some, None, refl, ap, ◌∙◌}
use Rattle.std.specs.Option.{option_map}
use Rattle.qir_module.specs.declared.block.Phi.{Phi}
use Rattle.qir_module.specs.Machine.{Value, State, with_register, with_front, entry_from, phi_value, with_phi, take_phis}
use Rattle.qir_machine.specs.Phis.{phi_values, stored_phis}

one_more : (p : Phi) (ps : List Phi) (s : State) (value : Option Value) (values : Option (List Value))
    → with_phi (option_map (λ vs. stored_phis ps vs s) values) p.register value ≡ option_map (λ vs. stored_phis (p ∷ ps) vs s) (with_front value values)
one_more p ps s None None = refl
one_more p ps s None (Some vs) = refl
one_more p ps s (Some v) None = refl
one_more p ps s (Some v) (Some vs) = refl

pub taken_by_values : (phis : List Phi) (from : Option ℕ) (s : State) → take_phis phis from s ≡ option_map (λ vs. stored_phis phis vs s) (phi_values s phis from)
taken_by_values [] from s = refl
taken_by_values (p ∷ ps) from s =
    ap (λ taken. with_phi taken p.register (phi_value s p (entry_from p.entries from))) (taken_by_values ps from s)
    ∙ one_more p ps s (phi_value s p (entry_from p.entries from)) (phi_values s ps from)

-- values behind those of the phis make no difference
pub stored_front : {A : Type 0} (f : A → Value) (phis : List Phi) (values : List A) (s : State) → stored_phis phis (map f (take (length phis) values)) s ≡ stored_phis phis (map f values) s
stored_front f [] values s = refl
stored_front f (p ∷ ps) [] s = refl
stored_front f (p ∷ ps) (v ∷ vs) s = ap (λ (old : State). with_register old p.register (f v)) (stored_front f ps vs s)
