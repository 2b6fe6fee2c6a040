-- Whether a declaration is the table's, part by part.
use Rattle.std.proofs.Common.{◌≡◌, ◌&&◌, not, Bool, true, false, List, [], ◌∷◌, map, Option, Some, None, refl, sym, ap, ◌∙◌}
use mathlib.Core.Bool.{beq}
use Rattle.std.specs.Option.{option_map}
use Rattle.qir_module.specs.declared.function.Kind.{Kind as CodeKind}
use Rattle.qir_module.specs.Kinds.{kind_of}
use Rattle.qir_module.specs.Functions.{Kind, Row}
use Rattle.qir_module.specs.Grammar.{Signature, type_of_kind, same_types, same_truth, is_declared_so}

map_twice : (kinds : List CodeKind) → map type_of_kind (map kind_of kinds) ≡ map (λ kind. type_of_kind (kind_of kind)) kinds
map_twice [] = refl
map_twice (k ∷ ks) = ap (λ types. type_of_kind (kind_of k) ∷ types) (map_twice ks)

-- of one row
parts_of : (row : Row) (takes : List Kind) (gives irreversible : Bool) (s : Signature) → takes ≡ row.takes → gives ≡ row.gives → irreversible ≡ row.irreversible
    → is_declared_so (Some row) s ≡ (same_types (map type_of_kind takes) s.takes && same_truth gives s.gives && same_truth irreversible s.irreversible)
parts_of row takes gives irreversible s t g i =
    ap (λ x. same_types (map type_of_kind x) s.takes && same_truth row.gives s.gives && same_truth row.irreversible s.irreversible) (sym t)
    ∙ ap (λ x. same_types (map type_of_kind takes) s.takes && same_truth x s.gives && same_truth row.irreversible s.irreversible) (sym g)
    ∙ ap (λ x. same_types (map type_of_kind takes) s.takes && same_truth gives s.gives && same_truth x s.irreversible) (sym i)

-- the three parts are asked
pub declared_by : (row : Option Row) (takes : List CodeKind) (gives irreversible : Bool) (s : Signature)
    → Some (map kind_of takes) ≡ option_map (λ (r : Row). r.takes) row → Some gives ≡ option_map (λ (r : Row). r.gives) row → Some irreversible ≡ option_map (λ (r : Row). r.irreversible) row
    → is_declared_so row s ≡ (same_types (map (λ kind. type_of_kind (kind_of kind)) takes) s.takes && same_truth gives s.gives && same_truth irreversible s.irreversible)
declared_by None takes gives irreversible s t g i = absurd (cc)
declared_by (Some row) takes gives irreversible s t g i =
    parts_of row (map kind_of takes) gives irreversible s (cc) (cc) (cc)
    ∙ ap (λ x. same_types x s.takes && same_truth gives s.gives && same_truth irreversible s.irreversible) (map_twice takes)

-- two truth values are the same
pub bits_are : (a b : Bool) → beq a b ≡ same_truth a b
bits_are true true = refl
bits_are false false = refl
bits_are true false = refl
bits_are false true = refl

pub not_false : (b : Bool) → not b ≡ false → b ≡ true
not_false true is = refl
not_false false is = cc
