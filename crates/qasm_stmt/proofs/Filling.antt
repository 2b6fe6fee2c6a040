-- Lists that loops fill, over plain variables.
use Rattle.std.proofs.Common.{◌≡◌, ℕ, ◌<◌, List, [], ◌∷◌, ◌++◌, Bool, true, false, ◌||◌, length, drop, sym, ap, subst, ◌∙◌, length-drop, arith}
use Rattle.qasm_lexer.specs.declared.token.Token.{Token}
use Rattle.qasm_stmt.specs.Seen.{Each, IsList}
use Rattle.qasm_stmt.proofs.Growing.{each_on, each_push}

-- one item more, where what the others stand for stays
pub each_more : {X A : Type 0} (R S : X → A → Type 0) → ((x : X) (a : A) → R x a → S x a) → (found new : List X) (acc : List A) (x : X) (a : A) → new ≡ found ++ x ∷ [] → Each R found acc → S x a → Each S new (acc ++ a ∷ [])
each_more R S later found new acc x a push sees s = subst (λ l. Each S l (acc ++ a ∷ [])) (sym push) (each_push S found acc x a (each_on R S later found acc sees) s)

-- what leaves fewer tokens stands behind
pub goes_on : (tokens : List Token) (at' next : ℕ) → length (drop next tokens) < length (drop at' tokens) → at' < next
goes_on tokens at' next shorter = omega (arith, shorter, length-drop next tokens, length-drop at' tokens)

pub or_true : (b d : Bool) → b ≡ true → (b || d) ≡ true
or_true b d e = ap (λ x. x || d) e

pub or_false : (b d e : Bool) → b ≡ false → d ≡ e → (b || d) ≡ e
or_false b d e f g = ap (λ x. x || d) f ∙ g

-- ---- whole lists

pub no_items : {X A : Type 0} (R : X → A → Type 0) (found : List X) → found ≡ [] → IsList R found []
no_items R found e = subst (λ l. IsList R l []) (sym e) (omega arith, tt)

pub one_item : {X A : Type 0} (R : X → A → Type 0) (found new : List X) (x : X) (a : A) → found ≡ [] → new ≡ found ++ x ∷ [] → R x a → IsList R new (a ∷ [])
one_item R found new x a e push r = subst (λ l. IsList R l (a ∷ [])) (sym (push ∙ ap (λ l. l ++ x ∷ []) e)) (omega arith, (r, tt))

pub list_later : {X A : Type 0} (R S : X → A → Type 0) → ((x : X) (a : A) → R x a → S x a) → (xs : List X) (as' : List A) → IsList R xs as' → IsList S xs as'
list_later R S later xs as' e = (e.0, each_on R S later xs as' e.1)
