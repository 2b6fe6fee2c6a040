-- A program that is read whole, and tokens that are read with a barrier behind them.
use Rattle.std.proofs.Common.{◌≡◌, inl, inr, ◌⊎◌, ℕ, zero, suc, ◌+◌, ◌-◌, ◌≤◌, ◌<◌, ◌^◌, Bool, true, false, Vec, Global, List, [], ◌∷◌, ◌++◌, length, take, drop, get_or, Option, Some, None, Ok, Err, refl, sym, ap, subst, ◌∙◌, append-nil, length-append, length-drop, arith}
use Rattle.std.specs.Prelude.{◌≢◌, slice_get, nat_eq}
use Rattle.std.specs.List.{IsDistinct, AllByRecursion}
use Rattle.std.specs.Cmp.Lexicographic.{pointwise, nat_list_eq_equiv}
use Rattle.std.proofs.lemmas.Bool.{false≢true}
use Rattle.std.proofs.lemmas.List.{length-take-le}
use Rattle.std.proofs.lemmas.Option.{slice_get-get_or}
use Rattle.std.proofs.Math.Seq.{drop-append_seam}
use Rattle.qq_base.specs.declared.refusal.Fault.{Fault}
use Rattle.qq_base.specs.declared.refusal.Fault.TheVariants.{Memory, Refused}
use Rattle.qq_base.specs.declared.refusal.Refusal.{Refusal}
use Rattle.qq_base.specs.declared.refusal.Span.{Span}
use Rattle.qq_base.specs.declared.rule.Rule.{Rule}
use Rattle.qasm_lexer.specs.Sizes.{bytes_of}
use Rattle.qasm_lexer.specs.Tokens.{place_of}
use Rattle.qasm_lexer.specs.declared.token.Token.{Token}
use Rattle.qasm_lexer.specs.declared.token.TokenKind.TheVariants as t
use Rattle.qasm_ast.specs.declared.stmt.StmtId.{StmtId}
use Rattle.qasm_ast.specs.Tree.{Statements, statements_at, tree_of, statement_of}
use Rattle.qasm_ast.specs.Whole.{StmtFits, IsProgram}
use Rattle.grammar_parts.specs.Reading.{Outcome, syntax, deep}
use Rattle.grammar_parts.specs.Reading as Reading
use Rattle.qasm_expr.specs.Answer.{place_at}
use Rattle.qasm_expr.specs.Seen.{Cut}
use Rattle.qasm_expr.specs.TokenKinds.{bits_of}
use Rattle.qasm_grammar.specs.Answer.{answer, answer_of, rule_of, might_begin, takes_all, is_empty, front_of, IsAnswer}
use Rattle.qasm_grammar.specs.Reader.{read_program}
use Rattle.qasm_grammar.specs.Stops.{a_barrier, IsRefused}
use Rattle.qasm_grammar.specs.Whole.{IsProgramOf, ProgramExact, finish}
use Rattle.qasm_parser.specs.declared.stop.Stop.{Stop}
use Rattle.qasm_parser.specs.declared.stop.Stop.TheVariants as why
use Rattle.qasm_parser.specs.State.{State, After, Read, start_of, first, refusal}
use Rattle.program_parser.specs.World.{Stands}
use Rattle.program_parser.specs.Nesting.{StatementsIn}
use Rattle.program_parser.specs.Parsed.{IsParsed}
use Rattle.program_parser.specs.Refusing.{IsFault}
use Rattle.program_parser.proofs.Standing.{world_of, from_here}

-- ---- tokens with a barrier behind them

get_taken : {X : Type 0} (n k : ℕ) (xs : List X) (x : X) → slice_get (take k xs) n ≡ Some x → slice_get xs n ≡ Some x
get_taken n zero xs x h = absurd (cc)
get_taken n (suc k) [] x h = absurd (cc)
get_taken zero (suc k) (y ∷ xs) x h = h
get_taken (suc n) (suc k) (y ∷ xs) x h = get_taken n k xs x h

inner : {K : Type 0} (y x : K) → Some y ≡ Some x → y ≡ x
inner y x e = cc

-- a member of a list with one more at its end
get_either : {X : Type 0} (xs : List X) (y : X) (n : ℕ) (x : X) → slice_get (xs ++ y ∷ []) n ≡ Some x → (slice_get xs n ≡ Some x) ⊎ (y ≡ x)
get_either [] y zero x h = inr (inner y x h)
get_either [] y (suc n) x h = absurd (cc)
get_either (z ∷ xs) y zero x h = inl h
get_either (z ∷ xs) y (suc n) x h = get_either xs y n x h

pub cut_barred : (text : List ℕ) (tokens : List Token) (n : ℕ) → n < length tokens → Cut text tokens → Cut text (take n tokens ++ a_barrier ∷ [])
cut_barred text tokens n lt cut = record {
  few = let few : length tokens < 2 ^ 23 = cut.few in omega (arith, length-append (take n tokens) (a_barrier ∷ []), length-take-le n tokens (omega arith));
  spans = λ k x h. elim (get_either (take n tokens) a_barrier k x h) [ inl g ↦ cut.spans k x (get_taken k n tokens x g) | inr g ↦ subst (λ (y : Token). (y.start ≤ y.end) × (y.end ≤ length text)) g (omega arith, omega arith) ];
  name_sizes = λ k x h is_name. elim (get_either (take n tokens) a_barrier k x h) [ inl g ↦ cut.name_sizes k x (get_taken k n tokens x g) is_name | inr g ↦ absurd (no_name x g is_name) ];
  bits_sizes = λ k x bits h is_bits. elim (get_either (take n tokens) a_barrier k x h) [ inl g ↦ cut.bits_sizes k x bits (get_taken k n tokens x g) is_bits | inr g ↦ absurd (no_bits x g bits is_bits) ];
}
  where
    no_name : (x : Token) → a_barrier ≡ x → x.kind ≡ t.Name → ⊥
    no_name x h g = let w : a_barrier.kind ≡ t.Name = ap (λ (y : Token). y.kind) h ∙ g in absurd (cc)

    no_bits : (x : Token) → a_barrier ≡ x → (bits : List Bool) → bits_of (bytes_of text x) ≡ Some bits → ⊥
    no_bits x h bits g = let w : bits_of (bytes_of text a_barrier) ≡ Some bits = ap (λ y. bits_of (bytes_of text y)) h ∙ g in absurd (cc)

-- whether no token is left, by the next one
pub ended : (left : List Token) (o : Option Token) (b : Bool) (test : Option Token → Bool) → test None ≡ true → ((x : Token) → test (Some x) ≡ false) → o ≡ first left → b ≡ test o → b ≡ is_empty left
ended [] o b test none some e h = h ∙ ap test e ∙ none
ended (x ∷ left) o b test none some e h = h ∙ ap test e ∙ some x

-- whether a barrier is read behind these tokens, by how reading stops
pub told_all : (text : List ℕ) (xs front : List Token) (s : State) (out : Outcome Token Statements) (b : Bool) → s ≡ start_of text front → front ≡ xs ++ a_barrier ∷ [] → read_program s.text (Some 64) 64 s.left ≡ out → b ≡ takes_all out → b ≡ might_begin text (Some 64) 64 xs
told_all text xs front s out b is here read h =
    h ∙ ap takes_all (sym read ∙ ap (λ (a : State). read_program a.text (Some 64) 64 a.left) is ∙ ap (read_program text (Some 64) 64) here)

-- ---- distinct names

of_member : {K : Type 0} (P : K → Type 0) (ks : List K) (k : ℕ) (x : K) → AllByRecursion P ks → slice_get ks k ≡ Some x → P x
of_member P [] k x a h = absurd (cc)
of_member P (y ∷ ks) zero x a h = subst P (inner y x h) a.0
of_member P (y ∷ ks) (suc k) x a h = of_member P ks k x a.1 h

distinct_at : {K : Type 0} (eq : K → K → Bool) → ((x : K) → eq x x ≡ true) → (ks : List K) → IsDistinct eq ks → (j k : ℕ) (x : K) → slice_get ks j ≡ Some x → slice_get ks k ≡ Some x → j ≡ k
unfolding IsDistinct
distinct_at eq self [] d j k x h g = absurd (cc)
distinct_at eq self (y ∷ ks) d zero zero x h g = refl
distinct_at eq self (y ∷ ks) d zero (suc k) x h g =
    let differ : eq y x ≡ false = of_member (λ z. eq y z ≡ false) ks k x d.0 g in
    let same : eq y x ≡ true = subst (λ z. eq z x ≡ true) (sym (inner y x h)) (self x) in
    absurd (false≢true (sym differ ∙ same))
distinct_at eq self (y ∷ ks) d (suc j) zero x h g =
    let differ : eq y x ≡ false = of_member (λ z. eq y z ≡ false) ks j x d.0 h in
    let same : eq y x ≡ true = subst (λ z. eq z x ≡ true) (sym (inner y x g)) (self x) in
    absurd (false≢true (sym differ ∙ same))
distinct_at eq self (y ∷ ks) d (suc j) (suc k) x h g = ap suc (distinct_at eq self ks d.1 j k x h g)

-- ---- the lists of a program

module _ (text : List ℕ) (tokens : List Token) (a b : State) (is : a ≡ start_of text tokens) (g : After 0 0 a b) (top : Vec StmtId Global) (ss : Statements) (stands : Stands StatementsIn b top ss) where
  begun : After 0 0 (start_of text tokens) b
  begun = subst (λ s. After 0 0 s b) is g

  module _ (names : List (List ℕ)) (end : Span) (same : names ≡ b.names) where
    pub program_fits : length tokens < 2 ^ 23 → IsDistinct (pointwise nat_eq) names → IsProgram (record { names = names; exprs = b.exprs; stmts = b.stmts; top = top.items; end = end })
    unfolding begun
    program_fits few distinct = subst (λ ns. IsProgram (record { names = ns; exprs = b.exprs; stmts = b.stmts; top = top.items; end = end })) (sym same) (record {
      few_names = let k : length b.names + length b.left ≤ 0 + length tokens = begun.few_names in omega arith;
      few_exprs = let k : length b.exprs + length b.stmts + length b.left + 0 ≤ 0 + 0 + length tokens + 0 = begun.few_nodes in omega arith;
      few_stmts = let k : length b.exprs + length b.stmts + length b.left + 0 ≤ 0 + 0 + length tokens + 0 = begun.few_nodes in omega arith;
      name_lengths = λ k d le. begun.longer.sizes k (get_or b.names k d) (omega arith) (slice_get-get_or b.names k d le);
      names_differ = distinct_at (pointwise nat_eq) nat_list_eq_equiv.refl b.names (subst (IsDistinct (pointwise nat_eq)) same distinct);
      exprs_fit = λ n x le h. begun.longer.exprs_fit n x (omega arith) h (length b.names) (omega arith);
      stmts_fit = λ n x h.
          subst (λ es. StmtFits (length b.names) es b.stmts n x.kind) (append-nil b.exprs)
          (subst (λ sts. StmtFits (length b.names) (b.exprs ++ []) sts n x.kind) (append-nil b.stmts)
          (begun.longer.stmts_fit n x (omega arith) h (length b.names) [] [] (omega arith)));
      top_fits = (stands.holds (world_of b) (from_here b)).0;
    })

  seen : statements_at b.names (tree_of b.names b.exprs) (statement_of b.names b.exprs b.stmts) top.items ≡ ss
  unfolding tree_of statement_of
  seen = (stands.holds (world_of b) (from_here b)).1

-- ---- answers

-- where reading stops
abbrev pub rest_of : Reading.Refusal Token → List Token
rest_of (syntax rest) = rest
rest_of (deep rest) = rest

rest_is : (stop : Stop) (left : List Token) → rest_of (refusal stop left) ≡ left
rest_is why.Deep left = refl
rest_is why.Syntax left = refl
rest_is why.Memory left = refl

front_before : (text : List ℕ) (tokens : List Token) (e : Reading.Refusal Token) → ProgramExact text (Some 64) 64 tokens (Err e) → (xs : List Token) × (tokens ≡ xs ++ rest_of e)
front_before text tokens (syntax rest) h = (h.0, h.1)
front_before text tokens (deep rest) h = (h.0, h.4)

module _ (text : List ℕ) (tokens : List Token) (a b : State) (is : a ≡ start_of text tokens) where
  read_of : (out : Outcome Token Statements) → read_program a.text (Some 64) 64 a.left ≡ out → read_program text (Some 64) 64 tokens ≡ out
  read_of out h = ap (λ (s : State). read_program s.text (Some 64) 64 s.left) (sym is) ∙ h

  -- reading stops at a rest of the tokens
  module _ (exact : ProgramExact text (Some 64) 64 tokens (finish (read_program text (Some 64) 64 tokens))) (stop : Stop) (h : read_program a.text (Some 64) 64 a.left ≡ Err (refusal stop b.left)) where
    front : (xs : List Token) × (tokens ≡ xs ++ b.left)
    front =
        let r = front_before text tokens (refusal stop b.left) (subst (ProgramExact text (Some 64) 64 tokens) (ap finish (read_of _ h)) exact) in
        (r.0, r.1 ∙ ap (λ l. r.0 ++ l) (rest_is stop b.left))

    pub few_left : length b.left ≤ length tokens
    unfolding front
    few_left = let e : tokens ≡ front.0 ++ b.left = front.1 in omega (arith, ap length e, length-append front.0 b.left)

    pub stopped_at : (n : ℕ) → n ≡ length tokens - length b.left → finish (read_program text (Some 64) 64 tokens) ≡ Err (refusal stop (drop n tokens))
    unfolding front
    stopped_at n at' =
        let e : tokens ≡ front.0 ++ b.left = front.1 in
        let count : n ≡ length front.0 = omega (arith, ap length e, length-append front.0 b.left) in
        let here : drop n tokens ≡ b.left = ap (λ k. drop k tokens) count ∙ ap (drop (length front.0)) e ∙ drop-append_seam front.0 b.left in
        ap finish (read_of _ h) ∙ ap (λ l. Err (refusal stop l)) (sym here)

  -- all statements are read, and a token is left
  pub stopped_early : (n : ℕ) (ss : Statements) → read_program a.text (Some 64) 64 a.left ≡ Ok (ss, b.left) → drop n tokens ≡ b.left → 0 < length b.left → finish (read_program text (Some 64) 64 tokens) ≡ Err (refusal why.Syntax (drop n tokens))
  stopped_early n ss h here lt = ap finish (read_of _ h ∙ ap (λ l. Ok (ss, l)) (sym here)) ∙ left (drop n tokens) (omega (arith, ap length here))
    where
      left : (rest : List Token) → 0 < length rest → finish (Ok (ss, rest)) ≡ Err (syntax rest)
      left [] l = absurd (omega arith)
      left (x ∷ rest) l = refl

module _ (text : List ℕ) (tokens : List Token) (right : IsAnswer text (Some 64) 64 tokens (answer text (Some 64) 64 tokens)) where
  refused_by : (found : Refusal) → answer text (Some 64) 64 tokens ≡ Err found → IsRefused text (Some 64) 64 tokens found
  refused_by found h = subst (IsAnswer text (Some 64) 64 tokens) h right

  -- the fault of tokens of which the whole reading stops so
  pub fault_parsed : (n : ℕ) (stop : Stop) (fault : Fault) → (stop ≢ why.Memory → finish (read_program text (Some 64) 64 tokens) ≡ Err (refusal stop (drop n tokens))) → IsFault text tokens n stop fault → IsParsed text tokens (Err fault)
  fault_parsed n stop Memory h f = tt
  fault_parsed n why.Memory (Refused found) h f = absurd f
  fault_parsed n why.Syntax (Refused found) h f = refused_by found (ap (answer_of text (Some 64) 64 tokens) (h (λ e. cc)) ∙ f)
  fault_parsed n why.Deep (Refused found) h f = refused_by found (ap (answer_of text (Some 64) 64 tokens) (h (λ e. cc)) ∙ f)

  -- the program with these lists is what the tokens are
  pub whole_parsed : (a b : State) (is : a ≡ start_of text tokens) (top : Vec StmtId Global) (names : List (List ℕ)) (end : Span) (g : After 0 0 a b) (r : Read 0 (Stands StatementsIn) (read_program a.text (Some 64) 64) a b top) → names ≡ b.names → length b.left ≡ 0 → end ≡ place_of text (length text) → IsParsed text tokens (Ok (record { names = names; exprs = b.exprs; stmts = b.stmts; top = top.items; end = end }))
  unfolding seen
  whole_parsed a b is top names end g r same none place =
      let empty : b.left ≡ [] = no_tokens b.left none in
      let told : answer text (Some 64) 64 tokens ≡ Ok r.value = ap (λ o. answer_of text (Some 64) 64 tokens (finish o)) (read_of text tokens a b is _ (r.read ∙ ap (λ l. Ok (r.value, l)) empty)) in
      let program : IsProgramOf text (Some 64) 64 tokens r.value = subst (IsAnswer text (Some 64) 64 tokens) told right in
      subst (λ ns. IsParsed text tokens (Ok (record { names = ns; exprs = b.exprs; stmts = b.stmts; top = top.items; end = end }))) (sym same)
      (subst (IsProgramOf text (Some 64) 64 tokens) (sym (seen text tokens a b is g top r.value r.shown)) program, place)
    where
      no_tokens : (l : List Token) → length l ≡ 0 → l ≡ []
      no_tokens [] h = refl
      no_tokens (x ∷ l) h = absurd (omega arith)

-- a refusal where no program goes on, by its rule and its place
pub fault_syntax : (text : List ℕ) (tokens : List Token) (n : ℕ) (rule : Rule) (place : Span) → n ≤ length tokens → rule ≡ rule_of text (Some 64) 64 (take n tokens) (drop n tokens) → place ≡ place_at text (drop n tokens) → IsFault text tokens n why.Syntax (Refused (record { rule = rule; at = place }))
fault_syntax text tokens n rule place le r p = rw (front_at, sym r, sym p) refl
  where
    front_at : front_of tokens (drop n tokens) ≡ take n tokens
    front_at = let e : length tokens - length (drop n tokens) ≡ n = omega (arith, length-drop n tokens) in ap (λ k. take k tokens) e
