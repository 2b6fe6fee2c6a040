-- Answers of the parser's functions: refusals on their way out, and readers one level deeper.
use Rattle.std.proofs.Common.{◌≡◌, ◌≢◌, ℕ, zero, suc, ◌+◌, ◌-◌, ◌≤◌, ◌<◌, List, length, slice_get, Some, Result, Ok, Err, refl, sym, ap, subst, ◌∙◌, arith}
use Rattle.std.specs.Result.{IfErr, IsErr, IsErrAnd}
use Rattle.std.proofs.lemmas.Result.{err_from_is_err_and}
use Rattle.qasm_lexer.specs.declared.token.Token.{Token}
use Rattle.qasm_ast.specs.declared.expr.Expr.{Expr}
use Rattle.qasm_ast.specs.Tree.{Tree, named, wire, number, truth, bit_string, unary as unary_tree, binary as binary_tree, cast, call, cut, place_of}
use Rattle.grammar_parts.specs.Reading.{Outcome, Refusal, Reader}
use Rattle.qasm_expr.specs.declared.stop.Stop.{Stop}
use Rattle.qasm_expr.specs.declared.stop.Stop.TheVariants as s
use Rattle.qasm_expr.specs.Grammar.{Counted}
use Rattle.qasm_expr.specs.Reader.{read_expr, read_unary, read_unary_at, read_content, read_level, read_binary}
use Rattle.qasm_expr.specs.Seen.{Gives, Passes, Sees, deeper_expr, deeper_unary, deeper_content, tighter, rows_at}
use Rattle.qasm_expr.specs.Answer.{Grows}
use Rattle.qasm_expr.proofs.Growing.{grows_same}

pub exit : {X Y A B : Type 0} (shows : X → A → Type 0) (shows' : Y → B → Type 0) (tokens : List Token) (from at' : ℕ) (out : Outcome Token A) (out' : Outcome Token B) (e : Stop) → ((x : Refusal Token) → out ≡ Err x → out' ≡ Err x) → from ≤ at' → Gives shows tokens at' out (Err e) → Gives shows' tokens from out' (Err e)
exit shows shows' tokens from at' out out' (s.Syntax n) g le h = (omega (arith, h.0), h.1, g _ h.2)
exit shows shows' tokens from at' out out' (s.Deep n) g le h = (omega (arith, h.0), h.1, g _ h.2)
exit shows shows' tokens from at' out out' s.Memory g le h = tt

pub exit_mark : {Y B : Type 0} (shows' : Y → B → Type 0) (tokens : List Token) (from at' : ℕ) (out : Outcome Token Token) (out' : Outcome Token B) (e : Stop) → ((x : Refusal Token) → out ≡ Err x → out' ≡ Err x) → from ≤ at' → at' ≤ length tokens → Passes tokens at' out (Err e) → Gives shows' tokens from out' (Err e)
exit_mark shows' tokens from at' out out' (s.Syntax n) g le le' h = (omega (arith, h.0), omega (arith, h.0), g _ h.1)
exit_mark shows' tokens from at' out out' (s.Deep n) g le le' h = (omega (arith, h.0), omega (arith, h.0), g _ h.1)
exit_mark shows' tokens from at' out out' s.Memory g le le' h = tt

-- a mark is not missed for want of memory
pub mark_memory : (tokens : List Token) (at' : ℕ) (out : Outcome Token Token) (e : Stop) → Passes tokens at' out (Err e) → e ≢ s.Memory
mark_memory tokens at' out (s.Syntax n) h = λ f. cc
mark_memory tokens at' out (s.Deep n) h = λ f. cc
mark_memory tokens at' out s.Memory h = absurd h

-- nor is what `?` hands on, where that is not
pub handed_memory : {Y : Type 0} (e : Stop) (r : Result Y Stop) → IsErrAnd r (λ y. y ≡ e) → e ≢ s.Memory → IfErr r (λ y. y ≢ s.Memory)
handed_memory e (Ok y) is differ = tt
handed_memory e (Err y) is differ = λ f. differ (sym is ∙ f)

-- a refusal of a part, handed on by `?`, is that of the whole
module _ {Y B : Type 0} (shows : Y → B → Type 0) (tokens : List Token) (e : Stop) (r : Result (Y × ℕ) Stop) {from at' : ℕ} {out : Outcome Token B} (is : IsErr r × IsErrAnd r (λ y. y ≡ e)) where
  pub handed : {A : Type 0} {part : Outcome Token A} → Gives {X = Unit {0}} (λ x a. Unit {0}) tokens at' part (Err e) → from ≤ at' → ((x : Refusal Token) → part ≡ Err x → out ≡ Err x) → Gives shows tokens from out r
  handed {part = part} h le f =
      let p = err_from_is_err_and r is.1 in
      rw (p.1, p.2) (exit {X = Unit {0}} (λ x a. Unit {0}) shows tokens from at' part out e f le h)

  pub handed_mark : {part : Outcome Token Token} → Passes tokens at' part (Err e) → from ≤ at' → at' ≤ length tokens → ((x : Refusal Token) → part ≡ Err x → out ≡ Err x) → Gives shows tokens from out r
  handed_mark {part = part} h le le' f =
      let p = err_from_is_err_and r is.1 in
      rw (p.1, p.2) (exit_mark shows tokens from at' part out e f le le' h)

-- what a later reader answers, for the whole
pub behind : {X A : Type 0} (shows : X → A → Type 0) (tokens : List Token) (from at' : ℕ) (out out' : Outcome Token A) (r : Result (X × ℕ) Stop) → from ≤ at' → out ≡ out' → Gives shows tokens at' out' r → Gives shows tokens from out r
behind shows tokens from at' out out' (Ok r) le e h = let le' : at' ≤ r.1 = h.2 in (h.0, h.1, omega arith, h.3, e ∙ h.4)
behind shows tokens from at' out out' (Err (s.Syntax n)) le e h = let le' : at' ≤ n = h.0 in (omega arith, h.1, e ∙ h.2)
behind shows tokens from at' out out' (Err (s.Deep n)) le e h = let le' : at' ≤ n = h.0 in (omega arith, h.1, e ∙ h.2)
behind shows tokens from at' out out' (Err s.Memory) le e h = tt

pub grows_kept : (names names' : List (List ℕ)) (nodes nodes' : List Expr) → names' ≡ names → nodes' ≡ nodes → Grows names names' nodes nodes'
grows_kept names names' nodes nodes' e f = subst (λ l. Grows names l nodes nodes') (sym e) (subst (λ l. Grows names names nodes l) (sym f) (grows_same names nodes))

-- ---- one level deeper

module _ (text : List ℕ) where
  pub deeper_expr_at : (room : ℕ) → 0 < room → deeper_expr text room ≡ read_expr text (Some 64) (room - 1)
  deeper_expr_at zero lt = absurd (omega arith)
  deeper_expr_at (suc room) lt = let e : suc room - 1 ≡ room = omega arith in ap (read_expr text (Some 64)) (sym e)

  pub deeper_unary_at : (room used : ℕ) (ts : List Token) → 0 < room → deeper_unary text room used ts ≡ read_unary text (Some 64) (room - 1) used ts
  deeper_unary_at zero used ts lt = absurd (omega arith)
  deeper_unary_at (suc room) used ts lt = let e : suc room - 1 ≡ room = omega arith in ap (λ n. read_unary text (Some 64) n used ts) (sym e)

  pub deeper_content_at : (room : ℕ) → 0 < room → deeper_content text room ≡ read_content text (room - 1) (read_expr text (Some 64) (room - 1)) (deeper_expr text (room - 1))
  deeper_content_at zero lt = absurd (omega arith)
  deeper_content_at (suc room) lt = let e : suc room - 1 ≡ room = omega arith in ap (λ n. read_content text n (read_expr text (Some 64) n) (deeper_expr text n)) (sym e)

  pub unary_open : (room used : ℕ) (ts : List Token) → read_unary text (Some 64) room used ts ≡ read_unary_at text (Some 64) room (deeper_expr text room) (deeper_content text room) (deeper_unary text room) used ts
  unfolding read_unary
  unary_open zero used ts = refl
  unary_open (suc zero) used ts = refl
  unary_open (suc (suc room)) used ts = refl

  pub binary_open : (rank used : ℕ) (item : ℕ → Reader Token Counted) → rank < 10 → read_binary text (Some 64) (tighter rank) item used ≡ read_level text (Some 64) (rows_at rank) (read_binary text (Some 64) (tighter (rank + 1)) item) used
  binary_open zero used item lt = refl
  binary_open (suc zero) used item lt = refl
  binary_open (suc (suc zero)) used item lt = refl
  binary_open (suc (suc (suc zero))) used item lt = refl
  binary_open (suc (suc (suc (suc zero)))) used item lt = refl
  binary_open (suc (suc (suc (suc (suc zero))))) used item lt = refl
  binary_open (suc (suc (suc (suc (suc (suc zero)))))) used item lt = refl
  binary_open (suc (suc (suc (suc (suc (suc (suc zero))))))) used item lt = refl
  binary_open (suc (suc (suc (suc (suc (suc (suc (suc zero)))))))) used item lt = refl
  binary_open (suc (suc (suc (suc (suc (suc (suc (suc (suc zero))))))))) used item lt = refl
  binary_open (suc (suc (suc (suc (suc (suc (suc (suc (suc (suc rank)))))))))) used item lt = absurd (omega arith)

-- ---- the place of a node is that of its tree

same_place : (x y : Expr) → Some x ≡ Some y → x.at ≡ y.at
same_place x y e = ap (λ (z : Expr). z.at) (inner x y e)
  where
    inner : (x y : Expr) → Some x ≡ Some y → x ≡ y
    inner x y e = cc

pub sees_place : (names : List (List ℕ)) (nodes : List Expr) (t : Tree) (id : ℕ) (x : Expr) → Sees names nodes id t → slice_get nodes id ≡ Some x → x.at ≡ place_of t
sees_place names nodes (named c bs place at') id x h g = same_place x _ (sym g ∙ h.1)
sees_place names nodes (wire n at') id x h g = same_place x _ (sym g ∙ h)
sees_place names nodes (number n at') id x h g = same_place x _ (sym g ∙ h)
sees_place names nodes (truth b at') id x h g = same_place x _ (sym g ∙ h)
sees_place names nodes (bit_string bs at') id x h g = same_place x _ (sym g ∙ h)
sees_place names nodes (unary_tree op a at') id x h g = same_place x _ (sym g ∙ h.1)
sees_place names nodes (binary_tree op a b at') id x h g = same_place x _ (sym g ∙ h.2)
sees_place names nodes (cast base width place a at') id x h g = same_place x _ (sym g ∙ h.2)
sees_place names nodes (call text as' at') id x h g = same_place x _ (sym g ∙ h.2)
sees_place names nodes cut id x s g = absurd s
