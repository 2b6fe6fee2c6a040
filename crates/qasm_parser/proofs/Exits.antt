-- Refusals on their way out, and answers that are new nodes.
use Rattle.std.proofs.Common.{◌≡◌, ℕ, ◌+◌, true, false, cond, is_ok, is_err, List, Result, Ok, Err, sym, ap, subst, ◌∙◌, arith}
use Rattle.std.specs.Prelude.{◌≢◌}
use Rattle.std.specs.Result.{IsErr, IsErrAnd}
use Rattle.std.proofs.lemmas.Result.{err_from_is_err_and}
use Rattle.qq_base.specs.declared.refusal.Span.{Span}
use Rattle.qasm_lexer.specs.declared.token.Token.{Token}
use Rattle.qasm_ast.specs.declared.expr.ExprId.{ExprId}
use Rattle.qasm_ast.specs.declared.expr.ExprKind.{ExprKind}
use Rattle.qasm_ast.specs.Tree.{Tree, node_of}
use Rattle.grammar_parts.specs.Reading.{Reader}
use Rattle.qasm_parser.specs.declared.stop.Stop.{Stop}
use Rattle.qasm_parser.specs.declared.stop.Stop.TheVariants as why
use Rattle.qasm_parser.specs.State.{State, Lasts, Longer, After, Stopped, ReadsWith, Reads, Adds, refusal}
use Rattle.qasm_parser.specs.Shows.{IsTree}
use Rattle.qasm_parser.proofs.Growing.{longer_here, after_on, past, fewer, spend}

-- reading stops where nothing has changed
pub stops : {A : Type 0} (reader : Reader Token A) (s : State) (e : Stop) → (e ≢ why.Memory → reader s.left ≡ Err (refusal e s.left)) → Stopped reader s s e
stops reader s e f = record { longer = longer_here s; read = f }

-- a refusal of a part, handed on by `?`, is that of the whole
pub handed : {Y B : Type 0} (spare : ℕ) (shows : State → Y → B → Type 0) (whole : Reader Token B) (old new : State) {e : Stop} (r : Result Y Stop) → IsErr r × IsErrAnd r (λ y. y ≡ e) → Longer old new → (e ≢ why.Memory → whole old.left ≡ Err (refusal e new.left)) → ReadsWith spare shows whole old r new
handed spare shows whole old new r is g f = let q = err_from_is_err_and r is.1 in rw (q.1, q.2) (record { longer = g; read = f })

-- want of memory, handed on by `?`
pub no_memory : {Y B : Type 0} (spare : ℕ) (shows : State → Y → B → Type 0) (whole : Reader Token B) (old new : State) {e : Stop} (r : Result Y Stop) → IsErr r × IsErrAnd r (λ y. y ≡ e) → Longer old new → e ≡ why.Memory → ReadsWith spare shows whole old r new
no_memory spare shows whole old new r is g m = handed spare shows whole old new r is g (λ no. absurd (no m))

-- what is read behind some tokens, for the whole
pub behind : {X A : Type 0} (a b c : State) (spare : ℕ) (shows : State → X → A → Type 0) (whole part : Reader Token A) (r : Result X Stop) → After 0 0 a b → whole a.left ≡ part b.left → ReadsWith spare shows part b r c → ReadsWith spare shows whole a r c
behind a b c spare shows whole part (Ok x) g e h = let same : 0 + spare ≡ spare = omega arith in record { value = h.value; shown = h.shown; read = e ∙ h.read; after = subst (λ n. After n 0 a c) same (after_on g h.after) }
behind a b c spare shows whole part (Err stop) g e h = record { longer = past g h.longer; read = λ no. e ∙ h.read no }

-- the answer is a new node, for which a token is spare
pub noded : (whole : Reader Token Tree) (a b c : State) (kind : ExprKind) (place : Span) (r : Result ExprId Stop) (value : Tree) → After 1 0 a b → whole a.left ≡ Ok (value, b.left) → Lasts b (λ names sub. node_of names sub kind place ≡ value) → Adds kind place b r c → Reads IsTree whole a r c
noded whole a b c kind place (Ok id) value g e k h = record { value = value; shown = (h.is_new, h.shown value k); read = e ∙ ap (λ ts. Ok (value, ts)) (sym h.left); after = spend g h.after }
noded whole a b c kind place (Err stop) value g e k h = record { longer = past g h.1; read = λ no. absurd (no h.0) }

-- the same, with no token to spare
pub spared : {X A : Type 0} (old new : State) (shows : State → X → A → Type 0) (reader : Reader Token A) (r : Result X Stop) → ReadsWith 1 shows reader old r new → Reads shows reader old r new
spared old new shows reader (Ok x) h = record { value = h.value; shown = h.shown; read = h.read; after = fewer 1 0 (omega arith) h.after }
spared old new shows reader (Err stop) h = h

-- one reader in place of another
pub instead : {X A : Type 0} (spare : ℕ) (old new : State) (shows : State → X → A → Type 0) (whole part : Reader Token A) (r : Result X Stop) → whole old.left ≡ part old.left → ReadsWith spare shows part old r new → ReadsWith spare shows whole old r new
instead spare old new shows whole part (Ok x) e h = record { value = h.value; shown = h.shown; read = e ∙ h.read; after = h.after }
instead spare old new shows whole part (Err stop) e h = record { longer = h.longer; read = λ no. e ∙ h.read no }

-- what a push leaves, where it fails and where it succeeds
pub unpushed : {A E X : Type 0} (r : Result A E) (old new added : List X) → new ≡ cond (is_ok r) added old → is_err r ≡ true → new ≡ old
unpushed (Ok a) old new added h e = absurd (cc)
unpushed (Err x) old new added h e = h

pub pushed : {A E X : Type 0} (r : Result A E) (old new added : List X) → new ≡ cond (is_ok r) added old → is_err r ≡ false → new ≡ added
pushed (Ok a) old new added h e = h
pushed (Err x) old new added h e = absurd (cc)
