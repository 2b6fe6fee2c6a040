-- Names that are entered one by one.
use Rattle.std.proofs.Common.{◌≡◌, ℕ, ◌+◌, ◌<◌, ◌≤◌, true, false, List, length, drop, get_or, Ok, refl, add-one, arith}
use Rattle.std.proofs.Math.ListN.{drop_of_length-le}
use Rattle.std.proofs.Math.Seq.{drop-cons}
use Rattle.qq_base.specs.declared.rule.Rule.TheVariants.{Redeclared}
use Rattle.qasm_ast.specs.declared.stmt.Declared.{Declared}
use Rattle.scope_env.specs.Scopes.{is_declared, declare}
use Rattle.const_eval.specs.Refusing.{refused}
use Rattle.gate_arguments.specs.declared.scope.Given.{Given}
use Rattle.gate_arguments.specs.Seen.{entered}

module _ (scopes : List (List (ℕ × Given))) (ds : List Declared) (vs : List Given) (k : ℕ) (same : length vs ≡ length ds) where
  pub entered_more : (d : Declared) (v : Given) → k < length ds → is_declared (get_or ds k d).name scopes ≡ false
      → entered scopes (drop k ds) (drop k vs) ≡ entered (declare (get_or ds k d).name (get_or vs k v) scopes) (drop (k + 1) ds) (drop (k + 1) vs)
  entered_more d v lt new = let lv : k < length vs = omega arith in rw (drop-cons ds k d lt, drop-cons vs k v lv, add-one k, new) refl

  pub entered_stops : (d : Declared) (v : Given) → k < length ds → is_declared (get_or ds k d).name scopes ≡ true → entered scopes (drop k ds) (drop k vs) ≡ refused Redeclared (get_or ds k d).at
  entered_stops d v lt there = let lv : k < length vs = omega arith in rw (drop-cons ds k d lt, drop-cons vs k v lv, there) refl

  pub entered_all : length ds ≤ k → entered scopes (drop k ds) (drop k vs) ≡ Ok scopes
  entered_all le = rw (drop_of_length-le ds le) refl
