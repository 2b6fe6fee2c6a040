-- What walks leave, one behind another.
use Rattle.std.proofs.Common.{◌≡◌, ℕ, zero, suc, ◌+◌, ◌-◌, ◌≤◌, List, [], ◌∷◌, ◌++◌, length, All, ℤ, Some, ◌∙◌, arith, length-append}
use Rattle.std.specs.Prelude.{slice_get}
use Rattle.std.proofs.lemmas.List.Elements.{All-append}
use Rattle.std.specs.Prelude.{Result, Ok, Err, Vec, IfOk}
use Rattle.std.specs.declared.alloc.Global.{Global}
use Rattle.std.specs.Result.{IsErrAnd}
use Rattle.std.proofs.lemmas.Result.{err_from_is_err_and}
use Rattle.qq_base.specs.declared.refusal.Fault.{Fault}
use Rattle.gate_lists.specs.declared.budget.Budget.{Budget}
use Rattle.gate_lists.specs.declared.expansion.TurnExpr.{TurnExpr}
use Rattle.gate_lists.specs.declared.member.Amount.{Amount}
use Rattle.gate_lists.specs.declared.member.Amount.TheVariants as amount
use Rattle.gate_lists.specs.declared.member.Member.{Member}
use Rattle.gate_lists.specs.declared.work.Work.{Work}
use Rattle.gate_lists.specs.Amounts.{IsNamed}
use Rattle.gate_lists.specs.Growing.{AreWorths, Grows}
use Rattle.gate_lists.specs.Members.{AreNamed}
use Rattle.gate_flatten.specs.Served.{Leaves}
use Rattle.gate_arguments.specs.declared.scope.Argument.{Argument}
use Rattle.gate_arguments.specs.declared.scope.Argument.TheVariants as kind
use Rattle.gate_arguments.specs.Seen.{ArgumentFits}

-- the turns that were there keep their places
abbrev pub Kept : List TurnExpr → List TurnExpr → Type 0
Kept old new = (k : ℕ) (t : TurnExpr) → slice_get old k ≡ Some t → slice_get new k ≡ Some t

pub kept_twice : (a b c : List TurnExpr) → Kept a b → Kept b c → Kept a c
kept_twice a b c first second k t e = second k t (first k t e)

-- worths of turns are worths of those that were there before
pub worths_before : (given worths : ℕ → ℤ) (old new : List TurnExpr) → Kept old new → AreWorths given worths new → AreWorths given worths old
worths_before given worths old new kept are = record { each = λ k t e. are.each k t (kept k t e) }

named_later : (n m : ℕ) (a : Amount) → n ≤ m → IsNamed n a → IsNamed m a
named_later n m (amount.Turn k negated) le h = omega arith
named_later n m (amount.Units z) le h = tt

pub all_named_later : (n m : ℕ) (as' : List Amount) → n ≤ m → All (IsNamed n) as' → All (IsNamed m) as'
all_named_later n m as' le h k d lt = named_later n m _ le (h k d lt)

pub members_later : (n m : ℕ) (ms : List Member) → n ≤ m → AreNamed n ms → AreNamed m ms
members_later n m ms le h k d lt = all_named_later n m _ le (h k d lt)

fits_later : (n m : ℕ) (a : Argument) → n ≤ m → ArgumentFits n a → ArgumentFits m a
fits_later n m (kind.Turn k) le h = omega arith
fits_later n m (kind.Constant c) le h = tt

pub arguments_later : (n m : ℕ) (as' : List Argument) → n ≤ m → All (ArgumentFits n) as' → All (ArgumentFits m) as'
arguments_later n m as' le h k d lt = fits_later n m _ le (h k d lt)

none_named : (n : ℕ) → AreNamed n []
none_named n k d lt = absurd (omega arith)

pub grows_same : (w : Work) → Grows w w []
grows_same w = record { more = omega arith; kept = λ k t e. e; named = none_named _; few = omega arith }

-- a walk that made no turn and gives no member
pub grows_paid : (old : Work) (b : Budget) → b.left ≤ old.budget.left → Grows old (record old { budget = b }) []
grows_paid old b le = record {
  more = omega arith;
  kept = λ k t e. e;
  named = none_named _;
  few = omega arith;
}

-- one walk behind another
pub grows_more : (a b c : Work) (xs ys : List Member) → Grows a b xs → Grows b c ys → Grows a c (xs ++ ys)
grows_more a b c xs ys first second = record {
  more = omega (arith, first.more, second.more);
  kept = kept_twice _ _ _ first.kept second.kept;
  named = All-append (λ (m : Member). All (IsNamed (length c.turns.items.items)) m.args) xs ys (members_later _ _ xs second.more first.named) second.named;
  few = rw (length-append xs ys) (omega (arith, first.few, second.few));
}

-- one member, for which 1 was paid
pub grows_one : (old : Work) (b : Budget) (m : Member) → 1 ≤ old.budget.left → b.left ≡ old.budget.left - 1 → All (IsNamed (length old.turns.items.items)) m.args
    → Grows old (record old { budget = b }) (m ∷ [])
grows_one old b m paid rest named = record {
  more = omega arith;
  kept = λ k t e. e;
  named = one;
  few = omega arith;
}
  where
    one : AreNamed (length old.turns.items.items) (m ∷ [])
    one zero d lt = named
    one (suc k) d lt = absurd (omega arith)

-- where turns were made, and no member
pub grows_on : (a b c : Work) (ys : List Member) → Grows a b [] → Grows b c ys → Grows a c ys
grows_on a b c ys first second = record {
  more = omega (arith, first.more, second.more);
  kept = kept_twice _ _ _ first.kept second.kept;
  named = second.named;
  few = omega (arith, first.few, second.few);
}

-- the exit of a `?`
pub leaves_exit : (Q : Fault → Type 0) (old new : Work) (r : Result (Vec Member Global) Fault) → IsErrAnd r Q → Kept old.turns.items.items new.turns.items.items → Leaves old new r
leaves_exit Q old new r is kept = let p = err_from_is_err_and r is in rw p.1 (record { kept = kept; grown = tt; args = tt })

pub leaves_refused : (old new : Work) (why : Fault) → Kept old.turns.items.items new.turns.items.items → Leaves old new (Err why)
leaves_refused old new why kept = record { kept = kept; grown = tt; args = tt }

-- a walk behind one that made turns
pub leaves_on : (a b c : Work) (r : Result (Vec Member Global) Fault) → Grows a b [] → b.turns.args ≡ a.turns.args → Leaves b c r → Leaves a c r
leaves_on a b c (Ok v) first same second = record { kept = kept_twice _ _ _ first.kept second.kept; grown = grows_on a b c v.items first second.grown; args = second.args ∙ same }
leaves_on a b c (Err why) first same second = record { kept = kept_twice _ _ _ first.kept second.kept; grown = tt; args = tt }

-- what modifiers make of members
pub leaves_modified : (a b : Work) (rest : Budget) (list : List Member) (r : Result (Vec Member Global) Fault) → Grows a b list → b.turns.args ≡ a.turns.args
    → ((turns : ℕ) → AreNamed turns list → IfOk r (λ v. AreNamed turns v.items)) → IfOk r (λ v. rest.left + length v.items ≤ b.budget.left + length list)
    → Leaves a (record { budget = rest; turns = b.turns }) r
leaves_modified a b rest list (Ok v) first same named paid = record {
  kept = first.kept;
  grown = record {
    more = first.more;
    kept = first.kept;
    named = named (length b.turns.items.items) first.named;
    few = omega (arith, first.few, paid);
  };
  args = same;
}
leaves_modified a b rest list (Err why) first same named paid = record { kept = first.kept; grown = tt; args = tt }
