-- Parts that may end in an `if` with no `else`, which alone then goes on behind a whole one.
use Rattle.std.proofs.Common.{◌≡◌, inl, inr, ℕ, Bool, true, false, cond, List, [], ◌∷◌, ◌++◌, refl, sym, ap, ◌∙◌}
use Rattle.qq_base.specs.declared.refusal.Span.{Span}
use Rattle.qasm_lexer.specs.declared.token.Token.{Token}
use Rattle.qasm_lexer.specs.declared.token.Keyword.TheVariants as k
use Rattle.qasm_ast.specs.Tree.{Tree}
use Rattle.grammar_parts.specs.Part.{Part, nothing, never, then, either, nothing_kept, repeated}
use Rattle.grammar_parts.specs.Reading.{Reader, done, ◌>>=◌, take_never, choose, take_repeated}
use Rattle.grammar_parts.specs.Kinds.{has, disjoint, among, Among}
use Rattle.grammar_parts.specs.Law.{Fine, Follows, Filled}
use Rattle.grammar_parts.proofs.Fine.{fine_never, fine_wider}
use Rattle.grammar_parts.proofs.Taking.{below_self}
use Rattle.grammar_parts.proofs.Following.{follows_nothing, follows_never, follows_then, follows_wider, follows_either, follows_many}
use Rattle.grammar_parts.proofs.Sets.{has_apart, has_front, has_back, has_either, miss}
use Rattle.grammar_parts.proofs.Productions.{Reads, May, filled_then, reads_map}
use Rattle.qasm_expr.specs.TokenKinds.{kind}
use Rattle.qasm_grammar.specs.Parts.{Body, Opened, keyword}
use Rattle.qasm_grammar.specs.Grammar.{without_else, with_else, behind_body}
use Rattle.qasm_grammar.specs.Reader.{word_kinds, read_keyword, read_behind_body}
use Rattle.qasm_grammar.proofs.Pieces.{reads_keyword}

module _ (text : List ℕ) where
  abbrev pub OpenMore : {A : Type 0} → (A → Bool) → A → Token → Type 0
  OpenMore is_open a x = (is_open a ≡ true) × Among (kind text) (word_kinds k.Else) x

  -- A part that is not empty. The kinds in F are those that begin it.
  pub record ReadsOpen (C : Type 0) {A : Type 0} (is_open : A → Bool) (p q : Part Token A) (r : Reader Token A) (F : List ℕ) : Type 0 where
    pub follows : Follows C p q r (Among (kind text) F) (OpenMore is_open)
    pub filled : Filled q
    pub hit : C → (x : Token) → Among (kind text) F x → q.begins (x ∷ [])

  module _ {C A B : Type 0} {p q : Part Token A} {r : Reader Token A} where
    -- a value made of a part behind which nothing goes on
    pub open_closed : {F : List ℕ} (is_open : B → Bool) (f : A → B) → Reads (kind text) C p q r F [] → ReadsOpen C is_open (then p (λ a. nothing (f a))) (then q (λ a. nothing (f a))) (r >>= (λ a. done (f a))) F
    open_closed {F} is_open f h =
        let g : Reads (kind text) C (then p (λ a. nothing (f a))) (then q (λ a. nothing (f a))) (r >>= (λ a. done (f a))) F [] = reads_map (kind text) f h in
        record { follows = follows_wider g.follows (λ t x. x) (λ b t m. absurd (cc)); filled = g.filled; hit = g.hit }

    -- a value made of another, which is open where that is
    pub open_map : {F : List ℕ} {left : A → Bool} (right : B → Bool) (f : A → B) → ((a : A) → right (f a) ≡ left a) → ReadsOpen C left p q r F → ReadsOpen C right (then p (λ a. nothing (f a))) (then q (λ a. nothing (f a))) (r >>= (λ a. done (f a))) F
    open_map right f same h = record {
      follows = follows_then h.follows (λ a. follows_wider (follows_nothing (f a)) (λ t x. x) (λ b t x. absurd x)) (λ a t m g. g) (λ t x. x) (λ a t d x. absurd x) (λ a b t d m. (ap right (sym d.1) ∙ same a ∙ m.0, m.1));
      filled = filled_then (kind text) h.filled;
      hit = λ c t i. inl (h.hit c t i);
    }

    pub open_behind : {is_open : B → Bool} {p' q' : A → Part Token B} {s : A → Reader Token B} {F M G : List ℕ} → Reads (kind text) C p q r F M → ((a : A) → ReadsOpen C is_open (p' a) (q' a) (s a) G) → disjoint M G ≡ true → ReadsOpen C is_open (then p p') (then q q') (r >>= s) F
    open_behind {M = M} {G = G} f g e = record {
      follows = follows_then f.follows (λ a. (g a).follows) (λ a t. has_apart M G e (kind text t)) (λ t h. h) (λ a t d h. absurd (f.filled.never_empty a d)) (λ a b t d m. absurd ((g a).filled.never_empty b d));
      filled = filled_then (kind text) f.filled;
      hit = λ c t h. inl (f.hit c t h);
    }

  module _ {C A : Type 0} {is_open : A → Bool} {p q : Part Token A} {r : Reader Token A} {F : List ℕ} (f : ReadsOpen C is_open p q r F) where
    pub open_either : {p' q' : Part Token A} {s : Reader Token A} {G : List ℕ} → ReadsOpen C is_open p' q' s G → disjoint F G ≡ true → ReadsOpen C is_open (either p p') (either q q') (choose (among (kind text) F) r s) (F ++ G)
    open_either {q' = q'} {G = G} g e = record {
      follows = follows_either (among (kind text) F) f.follows g.follows f.filled (λ t. has_apart F G e (kind text t)) f.hit (λ t. miss (has F (kind text t))) (λ t. has_front F G (kind text t)) (λ t. has_back F G (kind text t)) (λ a t m. m) (λ a t m. m) (λ a t d. absurd (g.filled.never_empty a d));
      filled = record { never_empty = empty_of };
      hit = λ c t h. elim (has_either F G (kind text t) h) [ inl i ↦ inl (f.hit c t i) | inr j ↦ inr (g.hit c t j) ];
    }
      where
        empty_of : (a : A) → (either q q').derives [] a → ⊥
        empty_of a (inl d) = f.filled.never_empty a d
        empty_of a (inr d) = g.filled.never_empty a d

    -- where no level is left, by what is known of the wide part
    pub open_never : {D : Type 0} → ((x : Token) → Among (kind text) F x → q.begins (x ∷ [])) → ReadsOpen D is_open never q (take_never (among (kind text) F)) F
    open_never hit = record {
      follows = follows_never (among (kind text) F) f.follows.wide f.filled (λ c. hit) (λ t e g. miss (has F (kind text t)) e g);
      filled = f.filled;
      hit = λ c. hit;
    }

    pub may_open_repeated : disjoint (word_kinds k.Else) F ≡ true → May (kind text) C (repeated p) (repeated q) (take_repeated (among (kind text) F) r) F (F ++ word_kinds k.Else)
    may_open_repeated e = record {
      follows = follows_many (λ s a. s) (λ s. among (kind text) F) (λ s. f.follows) (λ s. f.filled) (λ s a t m g. has_apart (word_kinds k.Else) F e (kind text t) m.1 g) (λ s a t m. has_back F (word_kinds k.Else) (kind text t) m.1) (λ s t g. has_front F (word_kinds k.Else) (kind text t) g) (λ c s t h. f.hit c t h) (λ s t. miss (has F (kind text t))) nothing_kept;
      hit = λ c t h. ([], [], t ∷ [], refl, refl, f.hit c t h);
      none = λ c. ([], refl);
    }

  -- a part that nothing derives, against itself, where nothing is said of its reader
  pub open_nowhere : {A : Type 0} {r : Reader Token A} (is_open : A → Bool) (F : List ℕ) → ReadsOpen ⊥ is_open never never r F
  open_nowhere {A} is_open F =
      let f : Fine {T = Token} {A = A} never (Among (kind text) F) (OpenMore is_open) = fine_wider fine_never (λ t x. absurd x) (λ a t x. absurd x) in
      record { follows = record { fine = f; wide = f; below = below_self; takes = λ c. absurd c }; filled = record { never_empty = λ a d. d }; hit = λ c. absurd c }

  -- ---- the two bodies of an `if`

  module _ {C : Type 0} {pb qb : Part Token Body} {rb : Reader Token Body} {F : List ℕ} (body : ReadsOpen C (λ c. c.is_open) pb qb rb F) (e : Tree) (place : Span) where
    -- the `else` part, or none
    abbrev else_or : Part Token Body → Body → Part Token Opened
    else_or b c = either (then (keyword text k.Else) (λ w. then b (λ d. nothing (with_else e place c d)))) (nothing (without_else e place c))

    filled_else : (c : Body) → Filled (then (keyword text k.Else) (λ w. then qb (λ d. nothing {A = Opened} (with_else e place c d))))
    filled_else c = filled_then (kind text) (reads_keyword text {C = C} k.Else).filled

    follows_behind_body : (c : Body) → Follows C (behind_body text pb e place c) (behind_body text qb e place c) (read_behind_body text rb e place c) (λ t. (c.is_open ≡ false) × Among (kind text) (word_kinds k.Else) t) (OpenMore (λ s. s.1))
    unfolding read_behind_body
    follows_behind_body c = at c.is_open refl
      where
        at : (o : Bool) → c.is_open ≡ o → Follows C (cond o (nothing (without_else e place c)) (else_or pb c)) (cond o (nothing (without_else e place c)) (else_or qb c)) (cond o (done (without_else e place c)) (choose (among (kind text) (word_kinds k.Else)) (read_keyword text k.Else >>= (λ w. rb >>= (λ d. done (with_else e place c d)))) (done (without_else e place c)))) (λ t. (c.is_open ≡ false) × Among (kind text) (word_kinds k.Else) t) (OpenMore (λ s. s.1))
        at true h = follows_wider (follows_nothing (without_else e place c)) (λ t x. absurd x) (λ s t x. absurd x)
        at false h =
            let f : ReadsOpen C (λ s. s.1) (then (keyword text k.Else) (λ w. then pb (λ d. nothing {A = Opened} (with_else e place c d)))) (then (keyword text k.Else) (λ w. then qb (λ d. nothing {A = Opened} (with_else e place c d)))) (read_keyword text k.Else >>= (λ w. rb >>= (λ d. done (with_else e place c d)))) (word_kinds k.Else) = open_behind (reads_keyword text k.Else) (λ w. open_map (λ s. s.1) (with_else e place c) (λ d. refl) body) refl in
            follows_either (among (kind text) (word_kinds k.Else)) f.follows (follows_wider (follows_nothing (without_else e place c)) (λ t x. x) (λ s t x. absurd x)) f.filled (λ t i g. g) f.hit (λ t. miss (has (word_kinds k.Else) (kind text t))) (λ t i. (h, i)) (λ t g. absurd g) (λ s t m. m) (λ s t m. m) (λ s t d i. (ap (λ z. z.1) (sym d.1), i))

    more_at : (c : Body) (s : Opened) (t : Token) (o : Bool) → (cond o (nothing {A = Opened} (without_else e place c)) (else_or qb c)).derives [] s → Among (kind text) (word_kinds k.Else) t → OpenMore {A = Opened} (λ z. z.1) s t
    more_at c s t true d m = (ap (λ z. z.1) (sym d.1), m)
    more_at c s t false (inl d) m = absurd ((filled_else c).never_empty s d)
    more_at c s t false (inr d) m = (ap (λ z. z.1) (sym d.1), m)

    not_both : (b : Bool) → b ≡ true → b ≡ false → ⊥
    not_both b x y = cc

    pub reads_bodies : ReadsOpen C (λ s. s.1) (then pb (behind_body text pb e place)) (then qb (behind_body text qb e place)) (rb >>= read_behind_body text rb e place) F
    reads_bodies = record {
      follows = follows_then body.follows follows_behind_body (λ c t m g. not_both c.is_open m.0 g.0) (λ t h. h) (λ c t d g. absurd (body.filled.never_empty c d)) (λ c s t d m. more_at c s t c.is_open d m.1);
      filled = filled_then (kind text) body.filled;
      hit = λ c t h. inl (body.hit c t h);
    }
