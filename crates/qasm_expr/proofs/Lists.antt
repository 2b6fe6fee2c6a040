-- Lists of trees and of index brackets that are seen, with a larger bound, and with one more at the end.
use Rattle.std.proofs.Common.{◌≡◌, ℕ, ◌≤◌, ◌<◌, List, [], ◌∷◌, ◌++◌, length, Option, refl, sym, ap, subst, arith}
use Rattle.qasm_ast.specs.declared.expr.Expr.{Expr}
use Rattle.qasm_ast.specs.declared.expr.ExprId.{ExprId}
use Rattle.qasm_ast.specs.declared.expr.IndexRef.{IndexRef}
use Rattle.qasm_ast.specs.Tree.{Tree, Trees, no_tree, a_tree, trees, Maybe, absent, present, Bracket, position, range, members, Brackets, no_bracket, a_bracket, brackets}
use Rattle.qasm_expr.specs.Seen.{Sees, SeesAll, SeesMaybe, SeesBracket, SeesBrackets}
use Rattle.qasm_expr.specs.Answer.{Grows}
use Rattle.qasm_expr.proofs.Growing.{nodes_longer, all_later, maybe_later, brackets_later, sees_below}

-- ---- what is seen, with a larger bound, and with one more at the end

module _ (names : List (List ℕ)) (nodes : List Expr) (n m : ℕ) (le : n ≤ m) where
  pub all_wider : (ts : Trees) (ids : List ExprId) → SeesAll names nodes n ids ts → SeesAll names nodes m ids ts
  all_wider no_tree ids s = s
  all_wider (a_tree t ts) ids (x, rest, h, l, s, u) = (x, rest, h, omega arith, s, all_wider ts rest u)

  pub maybe_wider : (t : Maybe) (id : Option ExprId) → SeesMaybe names nodes n id t → SeesMaybe names nodes m id t
  maybe_wider absent id s = s
  maybe_wider (present t) id (x, h, l, s) = (x, h, omega arith, s)

  pub bracket_wider : (b : Bracket) (j : IndexRef) → SeesBracket names nodes n j b → SeesBracket names nodes m j b
  bracket_wider (position t) j (x, h, l, s) = (x, h, omega arith, s)
  bracket_wider (range start step stop place) j (x, y, z, h, s, u, v) = (x, y, z, h, maybe_wider start x s, maybe_wider step y u, maybe_wider stop z v)
  bracket_wider (members ts) j (ids, h, s) = (ids, h, all_wider ts ids s)

  pub brackets_wider : (bs : Brackets) (js : List IndexRef) → SeesBrackets names nodes n js bs → SeesBrackets names nodes m js bs
  brackets_wider no_bracket js s = s
  brackets_wider (a_bracket b bs) js (j, rest, h, s, u) = (j, rest, h, bracket_wider b j s, brackets_wider bs rest u)

all_push : (names : List (List ℕ)) (nodes : List Expr) (n : ℕ) (acc : List Tree) (ids : List ExprId) (id : ExprId) (t : Tree) → SeesAll names nodes n ids (trees acc) → id.0 < n → Sees names nodes id.0 t → SeesAll names nodes n (ids ++ id ∷ []) (trees (acc ++ t ∷ []))
all_push names nodes n [] ids id t s lt u = (id, [], ap (λ l. l ++ id ∷ []) s, lt, u, refl)
all_push names nodes n (a ∷ acc) ids id t (x, rest, h, l, s, r) lt u = (x, rest ++ id ∷ [], ap (λ z. z ++ id ∷ []) h, l, s, all_push names nodes n acc rest id t r lt u)

brackets_push : (names : List (List ℕ)) (nodes : List Expr) (n : ℕ) (acc : List Bracket) (js : List IndexRef) (j : IndexRef) (b : Bracket) → SeesBrackets names nodes n js (brackets acc) → SeesBracket names nodes n j b → SeesBrackets names nodes n (js ++ j ∷ []) (brackets (acc ++ b ∷ []))
brackets_push names nodes n [] js j b s u = (j, [], ap (λ l. l ++ j ∷ []) s, u, refl)
brackets_push names nodes n (a ∷ acc) js j b (x, rest, h, s, r) u = (x, rest ++ j ∷ [], ap (λ z. z ++ j ∷ []) h, s, brackets_push names nodes n acc rest j b r u)

-- what is seen stays while the lists grow, below the new bound
module _ {names names' : List (List ℕ)} {nodes nodes' : List Expr} (g : Grows names names' nodes nodes') where
  pub all_on : (ts : Trees) (ids : List ExprId) → SeesAll names nodes (length nodes) ids ts → SeesAll names' nodes' (length nodes') ids ts
  all_on ts ids s = all_wider names' nodes' (length nodes) (length nodes') (nodes_longer g) ts ids (all_later g ts (length nodes) ids s)

  pub maybe_on : (t : Maybe) (id : Option ExprId) → SeesMaybe names nodes (length nodes) id t → SeesMaybe names' nodes' (length nodes') id t
  maybe_on t id s = maybe_wider names' nodes' (length nodes) (length nodes') (nodes_longer g) t id (maybe_later g t (length nodes) id s)

  pub brackets_on : (bs : Brackets) (js : List IndexRef) → SeesBrackets names nodes (length nodes) js bs → SeesBrackets names' nodes' (length nodes') js bs
  brackets_on bs js s = brackets_wider names' nodes' (length nodes) (length nodes') (nodes_longer g) bs js (brackets_later g bs (length nodes) js s)

  -- one more is seen at the end
  pub all_with : (acc : List Tree) (ids ids' : List ExprId) (id : ExprId) (t : Tree) → ids' ≡ ids ++ id ∷ [] → SeesAll names nodes (length nodes) ids (trees acc) → Sees names' nodes' id.0 t → SeesAll names' nodes' (length nodes') ids' (trees (acc ++ t ∷ []))
  all_with acc ids ids' id t e s u = subst (λ l. SeesAll names' nodes' (length nodes') l (trees (acc ++ t ∷ []))) (sym e) (all_push names' nodes' (length nodes') acc ids id t (all_on (trees acc) ids s) (sees_below names' nodes' t id.0 u) u)

  pub brackets_with : (acc : List Bracket) (js js' : List IndexRef) (j : IndexRef) (b : Bracket) → js' ≡ js ++ j ∷ [] → SeesBrackets names nodes (length nodes) js (brackets acc) → SeesBracket names' nodes' (length nodes') j b → SeesBrackets names' nodes' (length nodes') js' (brackets (acc ++ b ∷ []))
  brackets_with acc js js' j b e s u = subst (λ l. SeesBrackets names' nodes' (length nodes') l (brackets (acc ++ b ∷ []))) (sym e) (brackets_push names' nodes' (length nodes') acc js j b (brackets_on (brackets acc) js s) u)
