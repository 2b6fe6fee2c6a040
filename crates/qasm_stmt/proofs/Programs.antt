-- A program that is read whole, and tokens that are read with a barrier behind them.
use Rattle.std.proofs.Common.{◌≡◌, inl, inr, ℕ, zero, suc, ◌-◌, ◌≤◌, ◌<◌, ◌^◌, Bool, true, false, List, [], ◌∷◌, ◌++◌, length, take, drop, slice_get, Some, Result, Ok, Err, refl, sym, ap, subst, ◌∙◌, length-drop, length-append, arith}
use Rattle.std.specs.Prelude.{◌==◌}
use Rattle.std.proofs.lemmas.List.{length-take-le}
use Rattle.std.proofs.lemmas.Bool.{eq-eqb, ne_eqb, false≢true}
use Rattle.std.specs.List.{IsDistinct, AllByRecursion}
use Rattle.std.specs.Prelude.{nat_eq}
use Rattle.std.specs.Cmp.Lexicographic.{pointwise, nat_list_eq_equiv}
use Rattle.std.proofs.Common.{Vec, Global, get_or}
use Rattle.std.proofs.lemmas.Option.{slice_get-get_or}
use Rattle.std.proofs.Math.ListN.{drop_of_length-le}
use Rattle.qq_base.specs.declared.refusal.Fault.{Fault}
use Rattle.qq_base.specs.declared.refusal.Fault.TheVariants.{Memory, Refused}
use Rattle.qq_base.specs.declared.refusal.Refusal.{Refusal}
use Rattle.qq_base.specs.declared.refusal.Span.{Span}
use Rattle.qasm_ast.specs.declared.stmt.StmtId.{StmtId}
use Rattle.qasm_ast.specs.Whole.{AllOf, IsStmt, IsProgram}
use Rattle.qasm_grammar.specs.Reader.{read_program}
use Rattle.qasm_grammar.specs.Whole.{IsProgramOf, finish}
use Rattle.qasm_grammar.specs.Stops.{IsRefused}
use Rattle.qq_base.specs.declared.rule.Rule.{Rule}
use Rattle.qasm_expr.specs.Answer.{place_at}
use Rattle.qasm_grammar.specs.Answer.{answer, answer_of, rule_of, IsAnswer}
use Rattle.qasm_grammar.proofs.Refusals.{answer_right}
use Rattle.qasm_stmt.specs.declared.arena.Arena.{Arena}
use Rattle.qasm_ast.specs.Tree.{statements_at}
use Rattle.qasm_lexer.specs.Tokens.{place_of}
use Rattle.qasm_stmt.specs.Seen.{Sound, Few, tree, stmt}
use Rattle.qasm_stmt.specs.Parsed.{IsParsed}
use Rattle.qasm_stmt.specs.Refusing.{IsFault}
use Rattle.qasm_lexer.specs.declared.token.Token.{Token}
use Rattle.qasm_lexer.specs.declared.token.TokenKind.TheVariants as t
use Rattle.qasm_ast.specs.Tree.{Statements}
use Rattle.grammar_parts.specs.Reading.{Outcome, syntax, deep}
use Rattle.grammar_parts.specs.Reading as Reading
use Rattle.qasm_expr.specs.declared.stop.Stop.{Stop}
use Rattle.qasm_expr.specs.declared.stop.Stop.TheVariants as e
use Rattle.qasm_lexer.specs.Sizes.{bytes_of}
use Rattle.qasm_expr.specs.TokenKinds.{bits_of}
use Rattle.qasm_expr.specs.Seen.{Cut, Gives}
use Rattle.qasm_expr.proofs.Growing.{get_either}
use Rattle.qasm_grammar.specs.Stops.{a_barrier}
use Rattle.qasm_grammar.specs.Answer.{is_empty, front_of}

-- ---- lists of tokens

get_taken : {X : Type 0} (n k : ℕ) (xs : List X) (x : X) → slice_get (take k xs) n ≡ Some x → slice_get xs n ≡ Some x
get_taken n zero xs x h = absurd (cc)
get_taken n (suc k) [] x h = absurd (cc)
get_taken zero (suc k) (y ∷ xs) x h = h
get_taken (suc n) (suc k) (y ∷ xs) x h = get_taken n k xs x h

-- the tokens in front of a place, with a barrier behind them
pub barred : List Token → ℕ → List Token
barred tokens n = take n tokens ++ a_barrier ∷ []

pub cut_barred : (text : List ℕ) (tokens : List Token) (n : ℕ) → n < length tokens → Cut text tokens → Cut text (take n tokens ++ a_barrier ∷ [])
cut_barred text tokens n lt cut = record {
  few = let few : length tokens < 2 ^ 23 = cut.few in omega (arith, length-append (take n tokens) (a_barrier ∷ []), length-take-le n tokens (omega arith));
  spans = λ k x h. elim (get_either (take n tokens) a_barrier k x h) [ inl g ↦ cut.spans k x (get_taken k n tokens x g) | inr g ↦ subst (λ (y : Token). (y.start ≤ y.end) × (y.end ≤ length text)) g.1 (omega arith, omega arith) ];
  name_sizes = λ k x h is_name. elim (get_either (take n tokens) a_barrier k x h) [ inl g ↦ cut.name_sizes k x (get_taken k n tokens x g) is_name | inr g ↦ absurd (no_name x g.1 is_name) ];
  bits_sizes = λ k x bits h is_bits. elim (get_either (take n tokens) a_barrier k x h) [ inl g ↦ cut.bits_sizes k x bits (get_taken k n tokens x g) is_bits | inr g ↦ absurd (no_bits x g.1 bits is_bits) ];
}
  where
    no_name : (x : Token) → a_barrier ≡ x → x.kind ≡ t.Name → ⊥
    no_name x h g = let w : a_barrier.kind ≡ t.Name = ap (λ (y : Token). y.kind) h ∙ g in absurd (cc)

    no_bits : (x : Token) → a_barrier ≡ x → (bits : List Bool) → bits_of (bytes_of text x) ≡ Some bits → ⊥
    no_bits x h bits g = let w : bits_of (bytes_of text a_barrier) ≡ Some bits = ap (λ y. bits_of (bytes_of text y)) h ∙ g in absurd (cc)

pub empty_drop : (n : ℕ) (xs : List Token) → n ≤ length xs → is_empty (drop n xs) ≡ (n == length xs)
empty_drop n xs le = by_rest (drop n xs) refl
  where
    by_rest : (rest : List Token) → drop n xs ≡ rest → is_empty (drop n xs) ≡ (n == length xs)
    by_rest [] h = ap is_empty h ∙ sym (equal (omega (arith, length-drop n xs, ap length h)))
      where
        equal : n ≡ length xs → (n == length xs) ≡ true
        equal e = eq-eqb n (length xs) e
    by_rest (x ∷ rest) h = ap is_empty h ∙ sym (ne_eqb n (length xs) (λ e. absurd (omega (arith, length-drop n xs, ap length h))))

-- the tokens in front of the rest from a place on
pub front_at : (n : ℕ) (tokens : List Token) → n ≤ length tokens → front_of tokens (drop n tokens) ≡ take n tokens
front_at n tokens le = let e : length tokens - length (drop n tokens) ≡ n = omega (arith, length-drop n tokens) in ap (λ k. take k tokens) e

-- ---- distinct names

inner : {K : Type 0} (y x : K) → Some y ≡ Some x → y ≡ x
inner y x e = cc

of_member : {K : Type 0} (P : K → Type 0) (ks : List K) (k : ℕ) (x : K) → AllByRecursion P ks → slice_get ks k ≡ Some x → P x
of_member P [] k x a h = absurd (cc)
of_member P (y ∷ ks) zero x a h = subst P (inner y x h) a.0
of_member P (y ∷ ks) (suc k) x a h = of_member P ks k x a.1 h

pub distinct_at : {K : Type 0} (eq : K → K → Bool) → ((x : K) → eq x x ≡ true) → (ks : List K) → IsDistinct eq ks → (j k : ℕ) (x : K) → slice_get ks j ≡ Some x → slice_get ks k ≡ Some x → j ≡ k
unfolding IsDistinct
distinct_at eq self [] d j k x h g = absurd (cc)
distinct_at eq self (y ∷ ks) d zero zero x h g = refl
distinct_at eq self (y ∷ ks) d zero (suc k) x h g =
    let differ : eq y x ≡ false = of_member (λ z. eq y z ≡ false) ks k x d.0 g in
    let same : eq y x ≡ true = subst (λ z. eq z x ≡ true) (sym (inner y x h)) (self x) in
    absurd (false≢true (sym differ ∙ same))
distinct_at eq self (y ∷ ks) d (suc j) zero x h g =
    let differ : eq y x ≡ false = of_member (λ z. eq y z ≡ false) ks j x d.0 h in
    let same : eq y x ≡ true = subst (λ z. eq z x ≡ true) (sym (inner y x g)) (self x) in
    absurd (false≢true (sym differ ∙ same))
distinct_at eq self (y ∷ ks) d (suc j) (suc k) x h g = ap suc (distinct_at eq self ks d.1 j k x h g)

pub names_differ : (names : List (List ℕ)) → IsDistinct (pointwise nat_eq) names → (j k : ℕ) (text : List ℕ) → slice_get names j ≡ Some text → slice_get names k ≡ Some text → j ≡ k
names_differ names d = distinct_at (pointwise nat_eq) nat_list_eq_equiv.refl names d

-- ---- the lists of a program

nothing_at : {X : Type 0} (n : ℕ) (x : X) → slice_get {X = X} [] n ≡ Some x → ⊥
nothing_at n x h = absurd (cc)

pub sound_empty : (a : Arena) → a.names.keys ≡ [] → a.exprs.items ≡ [] → a.stmts.items ≡ [] → Sound a
sound_empty a names exprs stmts = record {
  names = λ k text h. absurd (nothing_at k text (subst (λ l. slice_get l k ≡ Some text) names h));
  exprs = λ n x le h. absurd (nothing_at n x (subst (λ l. slice_get l n ≡ Some x) exprs h));
  stmts = λ n x h. absurd (nothing_at n x (subst (λ l. slice_get l n ≡ Some x) stmts h));
}

pub few_empty : (a : Arena) → a.names.keys ≡ [] → a.exprs.items ≡ [] → a.stmts.items ≡ [] → Few a 0
few_empty a names exprs stmts = (omega (arith, ap length names), omega (arith, ap length exprs), omega (arith, ap length stmts))

module _ (a : Arena) (n : ℕ) (names : List (List ℕ)) (top : List StmtId) (end : Span) (same : names ≡ a.names.keys) where
  pub program_fits : Sound a → Few a n → n < 2 ^ 32 → IsDistinct (pointwise nat_eq) a.names.keys → AllOf (IsStmt (length a.stmts.items)) top → IsProgram (record { names = names; exprs = a.exprs.items; stmts = a.stmts.items; top = top; end = end })
  program_fits s few lt distinct fits = subst (λ ns. IsProgram (record { names = ns; exprs = a.exprs.items; stmts = a.stmts.items; top = top; end = end })) (sym same) (record {
    few_names = omega (arith, few.0);
    few_exprs = omega (arith, few.1);
    few_stmts = omega (arith, few.2);
    name_lengths = λ k d le. s.names k (get_or a.names.keys k d) (slice_get-get_or a.names.keys k d le);
    names_differ = names_differ a.names.keys distinct;
    exprs_fit = s.exprs;
    stmts_fit = s.stmts;
    top_fits = fits;
  })

-- ---- answers

-- whether all tokens are taken, by the answer of a reader
abbrev pub told_all : ℕ → Result (Vec StmtId Global × ℕ) Stop → Bool
told_all count (Ok r) = r.1 == count
told_all count (Err (e.Syntax n)) = n == count
told_all count (Err (e.Deep n)) = true
told_all count (Err e.Memory) = false

-- the whole reading stops so
abbrev pub StopsAt : List ℕ → List Token → Stop → Type 0
StopsAt text tokens e.Memory = Unit {0}
StopsAt text tokens (e.Syntax n) = finish (read_program text (Some 64) 64 tokens) ≡ Err (syntax (drop n tokens))
StopsAt text tokens (e.Deep n) = finish (read_program text (Some 64) 64 tokens) ≡ Err (deep (drop n tokens))

module _ (text : List ℕ) (tokens : List Token) where
  -- a whole program, or one with a token too many
  pub answered_whole : (n : ℕ) (ss : Statements) → read_program text (Some 64) 64 tokens ≡ Ok (ss, drop n tokens) → n ≤ length tokens → length tokens ≤ n → IsProgramOf text (Some 64) 64 tokens ss
  answered_whole n ss h le le' =
      let none : drop n tokens ≡ [] = drop_of_length-le tokens le' in
      let a : answer text (Some 64) 64 tokens ≡ Ok ss = ap (λ o. answer_of text (Some 64) 64 tokens (finish o)) (h ∙ ap (λ rest. Ok (ss, rest)) none) in
      subst (IsAnswer text (Some 64) 64 tokens) a (answer_right text (Some 64) 64 tokens)

  refused_by : (refusal : Refusal) → answer text (Some 64) 64 tokens ≡ Err refusal → IsRefused text (Some 64) 64 tokens refusal
  refused_by refusal a = subst (IsAnswer text (Some 64) 64 tokens) a (answer_right text (Some 64) 64 tokens)

  -- the fault of tokens of which the whole reading stops so
  pub fault_parsed : (stop : Stop) (fault : Fault) → StopsAt text tokens stop → IsFault text tokens stop fault → IsParsed text tokens (Err fault)
  fault_parsed stop Memory h f = tt
  fault_parsed e.Memory (Refused refusal) h f = absurd f
  fault_parsed (e.Syntax n) (Refused refusal) h f = refused_by refusal (ap (answer_of text (Some 64) 64 tokens) h ∙ f)
  fault_parsed (e.Deep n) (Refused refusal) h f = refused_by refusal (ap (answer_of text (Some 64) 64 tokens) h ∙ f)

-- what a later reader gives, turned into what the whole stands for
pub gives_then : {X A B : Type 0} (shows : X → A → Type 0) (shows' : X → B → Type 0) (tokens : List Token) (from at' : ℕ) (out : Outcome Token A) (out' : Outcome Token B) (f : A → B) (r : Result (X × ℕ) Stop) → ((x : X) (v : A) → shows x v → shows' x (f v)) → from ≤ at' → ((v : A) (rest : List Token) → out ≡ Ok (v, rest) → out' ≡ Ok (f v, rest)) → ((x : Reading.Refusal Token) → out ≡ Err x → out' ≡ Err x) → Gives shows tokens at' out r → Gives shows' tokens from out' r
gives_then shows shows' tokens from at' out out' f (Ok r) s le h g given = let le' : at' ≤ r.1 = given.2 in (f given.0, s r.0 given.0 given.1, omega arith, given.3, h given.0 _ given.4)
gives_then shows shows' tokens from at' out out' f (Err (e.Syntax n)) s le h g given = let le' : at' ≤ n = given.0 in (omega arith, given.1, g _ given.2)
gives_then shows shows' tokens from at' out out' f (Err (e.Deep n)) s le h g given = let le' : at' ≤ n = given.0 in (omega arith, given.1, g _ given.2)
gives_then shows shows' tokens from at' out out' f (Err e.Memory) s le h g given = tt

-- a refusal where no program goes on, by its rule and its place
pub fault_syntax : (text : List ℕ) (tokens : List Token) (n : ℕ) (rule : Rule) (place : Span) → n ≤ length tokens → rule ≡ rule_of text (Some 64) 64 (take n tokens) (drop n tokens) → place ≡ place_at text (drop n tokens) → IsFault text tokens (e.Syntax n) (Refused (record { rule = rule; at = place }))
fault_syntax text tokens n rule place le r p = rw (front_at n tokens le, sym r, sym p) refl

-- the whole reading stops where the reader of programs does, or at a token too many
pub stops_at : {X : Type 0} (shows : X → Statements → Type 0) (text : List ℕ) (tokens : List Token) (stop : Stop) → Gives shows tokens 0 (read_program text (Some 64) 64 tokens) (Err stop) → StopsAt text tokens stop
stops_at shows text tokens e.Memory g = tt
stops_at shows text tokens (e.Syntax n) g = ap finish g.2
stops_at shows text tokens (e.Deep n) g = ap finish g.2

pub stops_early : (text : List ℕ) (tokens : List Token) (n : ℕ) (ss : Statements) → n < length tokens → read_program text (Some 64) 64 tokens ≡ Ok (ss, drop n tokens) → StopsAt text tokens (e.Syntax n)
stops_early text tokens n ss lt h = ap finish h ∙ left (drop n tokens) (omega (arith, length-drop n tokens))
  where
    left : (rest : List Token) → 0 < length rest → finish (Ok (ss, rest)) ≡ Err (syntax rest)
    left [] l = absurd (omega arith)
    left (x ∷ rest) l = refl

-- the program with these lists is what the tokens are
pub whole_parsed : (text : List ℕ) (tokens : List Token) (a : Arena) (n : ℕ) (names : List (List ℕ)) (top : List StmtId) (end : Span) (ss : Statements) → names ≡ a.names.keys → statements_at a.names.keys (tree a) (stmt a) top ≡ ss → read_program text (Some 64) 64 tokens ≡ Ok (ss, drop n tokens) → n ≤ length tokens → length tokens ≤ n → end ≡ place_of text (length text) → IsParsed text tokens (Ok (record { names = names; exprs = a.exprs.items; stmts = a.stmts.items; top = top; end = end }))
whole_parsed text tokens a n names top end ss same seen read le le' place =
    subst (λ ns. IsParsed text tokens (Ok (record { names = ns; exprs = a.exprs.items; stmts = a.stmts.items; top = top; end = end }))) (sym same)
    (subst (IsProgramOf text (Some 64) 64 tokens) (sym seen) (answered_whole text tokens n ss read le le'), place)
