-- Arguments that are found one by one.
use Rattle.std.proofs.Common.{◌≡◌, ℕ, zero, suc, ◌+◌, ◌<◌, ◌≤◌, List, [], ◌∷◌, ◌++◌, All, length, drop, get_or, ℤ, Ok, refl, sym, ap, ◌∙◌, arith}
use Rattle.std.proofs.lemmas.List.{map-append}
use Rattle.std.proofs.lemmas.List.Elements.{All-append}
use Rattle.qq_base.specs.declared.refusal.Fault.{Fault}
use Rattle.qasm_ast.specs.declared.expr.ExprId.{ExprId}
use Rattle.qasm_ast.specs.Whole.{Source}
use Rattle.qasm_ast.specs.View.{tree_in, trees_in}
use Rattle.const_eval.specs.Answers.{Fails}
use Rattle.const_eval.specs.Constant.{Constant}
use Rattle.const_eval.specs.Walk.{Walk}
use Rattle.gate_lists.specs.declared.budget.Budget.{Budget}
use Rattle.gate_lists.specs.Paid.{paid_from}
use Rattle.gate_arguments.specs.declared.scope.Argument.{Argument}
use Rattle.gate_arguments.specs.Arguments.{argument_walk, arguments_walk}
use Rattle.gate_arguments.specs.Scope.{Scope}
use Rattle.gate_arguments.specs.Seen.{ArgumentFits, argument_seen, arguments_seen}
use Rattle.gate_arguments.proofs.ByKind.{all_more}
use Rattle.gate_arguments.proofs.Walking.{behind, found_all, found_more, found_stops}

module _ (p : Source) (sc : Scope) where
  abbrev argument : ExprId → Walk Constant
  argument id = argument_walk sc (tree_in p id.0)

  abbrev arguments_of : List ExprId → Walk (List Constant)
  arguments_of ids = arguments_walk sc (trees_in p ids)

  pub argument_stops : (ids : List ExprId) (found : List Constant) (k : ℕ) (d : ExprId) (b : Budget) (why : Fault) → k < length ids → Fails why (paid_from b (argument_walk sc (tree_in p (get_or ids k d).0)))
      → Fails why (behind found (paid_from b (arguments_walk sc (trees_in p (drop k ids)))))
  argument_stops ids found k d b why lt e = found_stops argument arguments_of refl (λ x xs. refl) ids found k d b why lt e

  pub all_arguments : (ids : List ExprId) (found : List Constant) (k : ℕ) (b : Budget) → length ids ≤ k → behind found (paid_from b (arguments_walk sc (trees_in p (drop k ids)))) ≡ Ok (found, b)
  all_arguments ids found k b le = found_all argument arguments_of refl (λ x xs. refl) ids found k b le

  pub found_argument : (worths : ℕ → ℤ) (ids : List ExprId) (found : List Argument) (k : ℕ) (d : ExprId) (a : Argument) (b b' : Budget) → k < length ids → paid_from b (argument_walk sc (tree_in p (get_or ids k d).0)) ≡ Ok (argument_seen worths a, b')
      → behind (arguments_seen worths found) (paid_from b (arguments_walk sc (trees_in p (drop k ids)))) ≡ behind (arguments_seen worths (found ++ a ∷ [])) (paid_from b' (arguments_walk sc (trees_in p (drop (k + 1) ids))))
  found_argument worths ids found k d a b b' lt e =
      found_more argument arguments_of refl (λ x xs. refl) ids (arguments_seen worths found) k d (argument_seen worths a) b b' lt e
      ∙ ap (λ (xs : List Constant). behind xs (paid_from b' (arguments_walk sc (trees_in p (drop (k + 1) ids))))) (sym (map-append (argument_seen worths) found (a ∷ [])))

-- an argument more, of which each is a turn that is there
pub fit_more : (m n : ℕ) (found : List Argument) (a : Argument) → m ≤ n → All (ArgumentFits m) found → ArgumentFits n a → All (ArgumentFits n) (found ++ a ∷ [])
fit_more m n found a le all fits = All-append (ArgumentFits n) found (a ∷ []) (all_more m n found le all) one
  where
    one : All (ArgumentFits n) (a ∷ [])
    one zero d lt = fits
    one (suc k) d lt = absurd (omega arith)
