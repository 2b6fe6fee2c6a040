-- Each token of some kinds begins a part, whatever else is known of it.
use Rattle.std.proofs.Common.{inl, inr, ℕ, List, [], ◌∷◌, ◌++◌, Option}
use Rattle.qasm_lexer.specs.declared.token.Token.{Token}
use Rattle.qasm_lexer.specs.declared.token.Keyword.{Keyword}
use Rattle.qasm_lexer.specs.declared.token.Mark.{Mark}
use Rattle.grammar_parts.specs.Part.{Part, one, then, either}
use Rattle.grammar_parts.specs.Kinds.{Among}
use Rattle.grammar_parts.proofs.Sets.{Tells, tells_marked, has_either}
use Rattle.grammar_parts.proofs.Productions.{one_hit}
use Rattle.qasm_expr.specs.TokenKinds.{keyword_kind, mark_kind, kind}
use Rattle.qasm_grammar.specs.Parts.{keyword, symbol}
use Rattle.qasm_grammar.specs.Reader.{word_kinds, symbol_kinds}

module _ (text : List ℕ) where
  pub record Hits {A : Type 0} (p : Part Token A) (F : List ℕ) : Type 0 where
    pub hit : (x : Token) → Among (kind text) F x → p.begins (x ∷ [])

  pub hits_one : {A : Type 0} {test : Token → Option A} {F : List ℕ} → Tells (kind text) test F → Hits (one test) F
  hits_one {test = test} tells = record { hit = λ x h. one_hit (kind text) test x (tells.complete x h) }

  pub hits_keyword : (w : Keyword) → Hits (keyword text w) (word_kinds w)
  hits_keyword w = hits_one (tells_marked (kind text) (keyword_kind w))

  pub hits_symbol : (x : Mark) → Hits (symbol text x) (symbol_kinds x)
  hits_symbol x = hits_one (tells_marked (kind text) (mark_kind x))

  pub hits_then : {A B : Type 0} {p : Part Token A} {q : A → Part Token B} {F : List ℕ} → Hits p F → Hits (then p q) F
  hits_then h = record { hit = λ x a. inl (h.hit x a) }

  pub hits_either : {A : Type 0} {p q : Part Token A} {F G : List ℕ} → Hits p F → Hits q G → Hits (either p q) (F ++ G)
  hits_either {A} {p} {q} {F} {G} f g = record { hit = hit }
    where
      hit : (x : Token) → Among (kind text) (F ++ G) x → (either p q).begins (x ∷ [])
      hit x h = elim (has_either F G (kind text x) h) [ inl i ↦ inl (f.hit x i) | inr j ↦ inr (g.hit x j) ]
