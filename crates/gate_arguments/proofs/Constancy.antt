-- What has a value as a constant is constant.
use Rattle.std.proofs.Common.{◌≡◌, ℕ, ◌+◌, ◌-◌, Bool, true, false, ◌&&◌, nat_lt, List, ℤ, Option, Result, Ok, Err, refl, sym, ap, ◌∙◌, arith}
use Rattle.std.proofs.lemmas.Bool.{ltb-true, ltb-false}
use Rattle.qq_base.specs.declared.refusal.Refusal.{Refusal}
use Rattle.qq_base.specs.declared.refusal.Span.{Span}
use Rattle.qq_base.specs.declared.rule.Rule.{Rule}
use Rattle.qasm_ast.specs.declared.expr.Base.{Base}
use Rattle.qasm_ast.specs.Tree.{Called, word, qubit, Tree, named, wire, number, truth, bit_string, unary, binary, cast, call, cut, Trees, no_tree, a_tree, Maybe, absent, present, Bracket, position, range, members, Brackets, no_bracket, a_bracket, place_of}
use Rattle.qasm_types.specs.declared.ty.Ty.{Ty}
use Rattle.alias_resolve.specs.declared.index.IndexValue.{IndexValue}
use Rattle.const_eval.specs.Constant.{Constant}
use Rattle.const_eval.specs.ConstCast.{whole_at}
use Rattle.const_eval.specs.ConstantWalk.{constant_walk, whole_walk, end_walk, members_walk, index_walk, indexes_walk}
use Rattle.const_eval.specs.ConstValue.{called_constant, called_in_constant, constant_value, end_value, index_value, index_values, meant, member_values, value, whole_from, written_type}
use Rattle.const_eval.specs.IsConstant.{is_called_constant, is_constant, are_constant, is_constant_maybe, is_constant_bracket, are_constant_brackets}
use Rattle.const_eval.specs.Meaning.{Meaning, Held, Running, OtherThing, Nothing, is_held}
use Rattle.const_eval.specs.Refusing.{go_on, where_allowed}
use Rattle.const_eval.specs.Walk.{Walk, asked, behind, then_walk}
use Rattle.gate_lists.specs.declared.budget.Budget.{Budget}
use Rattle.gate_arguments.proofs.Paying.{first_or}
use Rattle.gate_lists.specs.Paid.{paid_from, paid_asked, paid_behind, paid_behind_stops, paid_refused}

-- ---- answers that are no refusal

pub go_ok : {A B : Type 0} (r : Result A Refusal) (f : A → Result B Refusal) (b : B) → go_on r f ≡ Ok b → (a : A) × (r ≡ Ok a) × (f a ≡ Ok b)
go_ok (Ok a) f b e = (a, refl, e)
go_ok (Err refusal) f b e = absurd cc

pub allowed_ok : {A : Type 0} (t : Bool) (rule : Rule) (place : Span) (r : Result A Refusal) (a : A) → where_allowed t rule place r ≡ Ok a → r ≡ Ok a
allowed_ok true rule place r a e = e
allowed_ok false rule place r a e = absurd cc

both : (a b : Bool) → a ≡ true → b ≡ true → a && b ≡ true
both a b p q = rw (p, q) refl

-- ---- values

module _ (means : List ℕ → Meaning) where
  module _ (exact : Bool) (whole_place : Span) where
    held : (place : Span) (m : Meaning) (c : Constant) → meant whole_place place m ≡ Ok c → is_held m ≡ true
    held place (Held k) c e = refl
    held place Running c e = absurd cc
    held place OtherThing c e = absurd cc
    held place Nothing c e = absurd cc

    called_ok : (place : Span) (name : Called) (c : Constant) → called_constant means whole_place place name ≡ Ok c → is_called_constant means name ≡ true
    called_ok place (word text) c e = held place (means text) c e
    called_ok place (qubit n) c e = absurd cc

    no_call : (place : Span) (m : Meaning) (c : Constant) → called_in_constant place m ≡ Ok c → ⊥
    no_call place (Held k) c e = cc
    no_call place Running c e = cc
    no_call place OtherThing c e = cc
    no_call place Nothing c e = cc

    mutual
      value_ok : (a : Tree) (c : Constant) → value means exact whole_place a ≡ Ok c → is_constant means a ≡ true
      value_ok (named name index operand place) c e =
          let called = go_ok (called_constant means whole_place place name) _ c e in
          let allowed = allowed_ok _ _ place _ c called.2 in
          let values = go_ok (index_values means exact whole_place index) _ c allowed in
          both _ _ (called_ok place name called.0 called.1) (brackets_ok index values.0 values.1)
      value_ok (wire n place) c e = refl
      value_ok (number n place) c e = refl
      value_ok (truth b place) c e = refl
      value_ok (bit_string bits place) c e = refl
      value_ok (unary o a place) c e = let x = go_ok (value means exact whole_place a) _ c e in value_ok a x.0 x.1
      value_ok (binary o a b place) c e =
          let x = go_ok (value means exact whole_place a) _ c e in
          let y = go_ok (value means exact whole_place b) _ c x.2 in
          both _ _ (value_ok a x.0 x.1) (value_ok b y.0 y.1)
      value_ok (cast base width type_place a place) c e =
          let type = go_ok (written_type means exact whole_place base width type_place) _ c e in
          let x = go_ok (value means exact whole_place a) _ c type.2 in
          both _ _ (type_ok base width type_place type.0 type.1) (value_ok a x.0 x.1)
      value_ok (call name as' place) c e = absurd (no_call place (means name) c e)
      value_ok cut c e = absurd cc

      type_ok : (base : Base) (width : Maybe) (place : Span) (type : Ty) → written_type means exact whole_place base width place ≡ Ok type → is_constant_maybe means width ≡ true
      type_ok base absent place type e = refl
      type_ok base (present width) place type e = let x = go_ok (value means exact whole_place width) _ type e in value_ok width x.0 x.1

      brackets_ok : (index : Brackets) (vs : List IndexValue) → index_values means exact whole_place index ≡ Ok vs → are_constant_brackets means index ≡ true
      brackets_ok no_bracket vs e = refl
      brackets_ok (a_bracket b bs) vs e =
          let v = go_ok (index_value means exact whole_place b) _ vs e in
          let rest = go_ok (index_values means exact whole_place bs) _ vs v.2 in
          both _ _ (bracket_ok b v.0 v.1) (brackets_ok bs rest.0 rest.1)

      bracket_ok : (b : Bracket) (v : IndexValue) → index_value means exact whole_place b ≡ Ok v → is_constant_bracket means b ≡ true
      bracket_ok (position a) v e = let z = go_ok (whole_from (place_of a) (value means exact whole_place a)) _ v e in (let u = go_ok (value means exact whole_place a) (λ x. whole_at (place_of a) x) z.0 z.1 in value_ok a u.0 u.1)
      bracket_ok (range start step stop place) v e =
          let a = go_ok (end_value means exact whole_place start) _ v e in
          let b = go_ok (end_value means exact whole_place step) _ v a.2 in
          let c = go_ok (end_value means exact whole_place stop) _ v b.2 in
          both _ _ (end_ok start a.0 a.1) (both _ _ (end_ok step b.0 b.1) (end_ok stop c.0 c.1))
      bracket_ok (members as') v e = let zs = go_ok (member_values means exact whole_place as') _ v e in members_ok as' zs.0 zs.1

      end_ok : (a : Maybe) (z : Option ℤ) → end_value means exact whole_place a ≡ Ok z → is_constant_maybe means a ≡ true
      end_ok absent z e = refl
      end_ok (present a) z e = let x = go_ok (whole_from (place_of a) (value means exact whole_place a)) _ z e in (let u = go_ok (value means exact whole_place a) (λ x. whole_at (place_of a) x) x.0 x.1 in value_ok a u.0 u.1)

      members_ok : (as' : Trees) (zs : List ℤ) → member_values means exact whole_place as' ≡ Ok zs → are_constant means as' ≡ true
      members_ok no_tree zs e = refl
      members_ok (a_tree a as') zs e =
          let x = go_ok (whole_from (place_of a) (value means exact whole_place a)) _ zs e in
          let rest = go_ok (member_values means exact whole_place as') _ zs x.2 in
          both _ _ ((let u = go_ok (value means exact whole_place a) (λ x. whole_at (place_of a) x) x.0 x.1 in value_ok a u.0 u.1)) (members_ok as' rest.0 rest.1)

  -- ---- walks

  then_ok : {A B : Type 0} (cost : ℕ) (r : Result A Refusal) (f : A → Walk B) (b : B) → (then_walk (record { cost = cost; answer = r }) f).answer ≡ Ok b → (a : A) × (r ≡ Ok a) × ((f a).answer ≡ Ok b)
  then_ok cost (Ok a) f b e = (a, refl, e)
  then_ok cost (Err refusal) f b e = absurd cc

  module _ (exact : Bool) where
    constant_ok : (a : Tree) (c : Constant) → (constant_walk means exact a).answer ≡ Ok c → is_constant means a ≡ true
    constant_ok a c e = let x = then_ok 0 (constant_value means exact a) _ c e in value_ok exact (place_of a) a x.0 x.1

    whole_walk_ok : (a : Tree) (z : ℤ) → (whole_walk means exact a).answer ≡ Ok z → is_constant means a ≡ true
    whole_walk_ok a z e = let x = then_ok _ (constant_walk means exact a).answer _ z e in constant_ok a x.0 x.1

    end_walk_ok : (a : Maybe) (z : Option ℤ) → (end_walk means exact a).answer ≡ Ok z → is_constant_maybe means a ≡ true
    end_walk_ok absent z e = refl
    end_walk_ok (present a) z e = let x = then_ok _ (whole_walk means exact a).answer _ z e in whole_walk_ok a x.0 x.1

    members_walk_ok : (as' : Trees) (zs : List ℤ) → (members_walk means exact as').answer ≡ Ok zs → are_constant means as' ≡ true
    members_walk_ok no_tree zs e = refl
    members_walk_ok (a_tree a as') zs e =
        let x = then_ok _ (whole_walk means exact a).answer _ zs e in
        let rest = then_ok _ (members_walk means exact as').answer _ zs x.2 in
        both _ _ (whole_walk_ok a x.0 x.1) (members_walk_ok as' rest.0 rest.1)

    index_walk_ok : (b : Bracket) (v : IndexValue) → (index_walk means exact b).answer ≡ Ok v → is_constant_bracket means b ≡ true
    index_walk_ok (position a) v e = let x = then_ok _ (whole_walk means exact a).answer _ v e in whole_walk_ok a x.0 x.1
    index_walk_ok (range start step stop place) v e =
        let a = then_ok _ (end_walk means exact start).answer _ v e in
        let b = then_ok _ (end_walk means exact step).answer _ v a.2 in
        let c = then_ok _ (end_walk means exact stop).answer _ v b.2 in
        both _ _ (end_walk_ok start a.0 a.1) (both _ _ (end_walk_ok step b.0 b.1) (end_walk_ok stop c.0 c.1))
    index_walk_ok (members as') v e = let x = then_ok _ (members_walk means exact as').answer _ v e in members_walk_ok as' x.0 x.1

    indexes_walk_ok : (bs : Brackets) (vs : List IndexValue) → (indexes_walk means exact bs).answer ≡ Ok vs → are_constant_brackets means bs ≡ true
    indexes_walk_ok no_bracket vs e = refl
    indexes_walk_ok (a_bracket b bs) vs e =
        let v = then_ok _ (index_walk means exact b).answer _ vs e in
        let rest = then_ok _ (indexes_walk means exact bs).answer _ vs v.2 in
        both _ _ (index_walk_ok b v.0 v.1) (indexes_walk_ok bs rest.0 rest.1)

-- ---- what is paid

answer_by : {A : Type 0} (b b' : Budget) (cost : ℕ) (r : Result A Refusal) (a : A) (t : Bool) → nat_lt b.left cost ≡ t → paid_from b (behind cost (asked r)) ≡ Ok (a, b') → r ≡ Ok a
answer_by b b' cost r a true over e = let wrong = sym (paid_behind_stops b cost (asked r) (ltb-true b.left cost over)) ∙ e in absurd cc
answer_by b b' cost (Ok x) a false over e =
    ap (λ q. Ok (first_or x q)) (sym (paid_behind b cost (asked (Ok x)) (ltb-false b.left cost over) ∙ paid_asked (record { left = b.left - cost; place = b.place }) x) ∙ e)
answer_by {A} b b' cost (Err refusal) a false over e =
    let wrong = sym (paid_behind {A = A} b cost (asked (Err refusal)) (ltb-false b.left cost over) ∙ paid_refused {A = A} (record { left = b.left - cost; place = b.place }) refusal) ∙ e in
    absurd cc

answer_of : {A : Type 0} (b b' : Budget) (w : Walk A) (a : A) → paid_from b w ≡ Ok (a, b') → w.answer ≡ Ok a
answer_of b b' w a e =
    let cost : w.cost + 0 ≡ w.cost = omega arith in
    answer_by b b' w.cost w.answer a (nat_lt b.left w.cost) refl (ap (λ (n : ℕ). paid_from b (record { cost = n; answer = w.answer })) cost ∙ e)

-- an expression whose constant is paid for is constant
pub paid_constant : (means : List ℕ → Meaning) (exact : Bool) (b b' : Budget) (a : Tree) (c : Constant) → paid_from b (constant_walk means exact a) ≡ Ok (c, b') → is_constant means a ≡ true
paid_constant means exact b b' a c e = constant_ok means exact a c (answer_of b b' (constant_walk means exact a) c e)

pub paid_indexes : (means : List ℕ → Meaning) (exact : Bool) (b b' : Budget) (bs : Brackets) (vs : List IndexValue) → paid_from b (indexes_walk means exact bs) ≡ Ok (vs, b') → are_constant_brackets means bs ≡ true
paid_indexes means exact b b' bs vs e = indexes_walk_ok means exact bs vs (answer_of b b' (indexes_walk means exact bs) vs e)
