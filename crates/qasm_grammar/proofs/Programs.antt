-- The program is read exactly, and what follows of it.
use Rattle.std.proofs.Common.{◌≡◌, ℕ, suc, ◌≤◌, List, [], ◌∷◌, ◌++◌, Option, None, Ok, Err, refl, sym, subst, ◌∙◌, le_refl, append-nil, append_assoc}
use Rattle.qasm_lexer.specs.declared.token.Token.{Token}
use Rattle.qasm_lexer.specs.declared.token.Keyword.TheVariants as k
use Rattle.qasm_ast.specs.Tree.{Statements}
use Rattle.grammar_parts.specs.Reading.{Outcome, syntax, deep}
use Rattle.grammar_parts.specs.Kinds.{Among}
use Rattle.grammar_parts.specs.Exact.{NoneGoesOn, Exactly}
use Rattle.grammar_parts.specs.Law.{Follows}
use Rattle.grammar_parts.proofs.Following.{follows_then, follows_wider}
use Rattle.grammar_parts.proofs.Sets.{has_within, has_apart}
use Rattle.grammar_parts.proofs.Productions.{May, may_map}
use Rattle.grammar_parts.proofs.Exactness.{exactly}
use Rattle.qasm_expr.specs.TokenKinds.{kind}
use Rattle.qasm_grammar.specs.Parts.{opened_statements, optional}
use Rattle.qasm_grammar.specs.Grammar.{version_line, stmts, program}
use Rattle.qasm_grammar.specs.Reader.{word_kinds, stmt_kinds, read_optional, read_version_line, read_stmts, read_program}
use Rattle.qasm_grammar.specs.Whole.{wide, IsProgramOf, ProgramExact, finish}
use Rattle.qasm_grammar.proofs.Pieces.{may_optional}
use Rattle.qasm_grammar.proofs.Lines.{reads_version_line}
use Rattle.qasm_grammar.proofs.Openings.{may_open_repeated}
use Rattle.qasm_grammar.proofs.StatementLaws.{reads_stmt}

-- the kinds that begin a program, and those that may go on behind a whole one
abbrev pub program_kinds : List ℕ
program_kinds = word_kinds k.OpenQasm ++ stmt_kinds

abbrev pub program_more : List ℕ
program_more = program_kinds ++ word_kinds k.Else

module _ (text : List ℕ) where
  may_version : May (kind text) (Unit {0}) (optional (version_line text)) (optional (version_line text)) (read_optional text (word_kinds k.OpenQasm) (read_version_line text)) (word_kinds k.OpenQasm) (word_kinds k.OpenQasm)
  may_version = may_optional text (reads_version_line text) refl

  may_stmts : (limit : Option ℕ) (room wide : ℕ) → suc (suc (suc room)) ≤ wide → May (kind text) (Unit {0}) (stmts text limit room) (stmts text None wide) (read_stmts text limit room) stmt_kinds (stmt_kinds ++ word_kinds k.Else)
  may_stmts limit room wide le = may_map (kind text) opened_statements (may_open_repeated text (reads_stmt text limit room wide le) refl)

  pub follows_program : (limit : Option ℕ) (room wide : ℕ) → suc (suc (suc room)) ≤ wide → Follows (Unit {0}) (program text limit room) (program text None wide) (read_program text limit room) (Among (kind text) program_kinds) (λ ss. Among (kind text) program_more)
  unfolding read_program
  follows_program limit room wide le =
      let ss : May (kind text) (Unit {0}) (stmts text limit room) (stmts text None wide) (read_stmts text limit room) stmt_kinds (stmt_kinds ++ word_kinds k.Else) = may_stmts limit room wide le in
      follows_then may_version.follows
      (λ v. follows_wider ss.follows (λ t h. h) (λ a t. has_within (stmt_kinds ++ word_kinds k.Else) program_more refl (kind text t)))
      (λ v t. has_apart (word_kinds k.OpenQasm) stmt_kinds refl (kind text t)) (λ t. has_within (word_kinds k.OpenQasm) program_kinds refl (kind text t)) (λ v t d. has_within stmt_kinds program_kinds refl (kind text t)) (λ v a t d. has_within (word_kinds k.OpenQasm) program_more refl (kind text t))

  pub program_exactly : (limit : Option ℕ) (room : ℕ) (ts : List Token) → Exactly (program text limit room) (wide text) ts (read_program text limit room ts)
  program_exactly limit room ts = exactly (program text limit room) (wide text) room
      (λ a b le. (follows_program None a b le).below) (λ w le. (follows_program limit room w le).below) ts (read_program text limit room ts)
      (λ w le. ((follows_program limit room w le).takes tt ts).holds)

  module _ (limit : Option ℕ) (room : ℕ) where
    -- against the wide grammar with room enough
    pub known : Follows (Unit {0}) (program text limit room) (wide text (suc (suc (suc room)))) (read_program text limit room) (Among (kind text) program_kinds) (λ ss. Among (kind text) program_more)
    known = follows_program limit room (suc (suc (suc room))) (le_refl _)

    -- at most one list of statements is derived
    pub program_single : (tokens : List Token) (a c : Statements) → (program text limit room).derives tokens a → (program text limit room).derives tokens c → a ≡ c
    program_single = known.fine.single

    module _ (tokens : List Token) where
      -- where no program goes on behind a front, the whole is none
      not_derived : (xs : List Token) (x : Token) (more : List Token) → tokens ≡ xs ++ x ∷ more → NoneGoesOn (wide text) xs (x ∷ more) → (ss : Statements) → IsProgramOf text limit room tokens ss → ⊥
      not_derived xs x more e none ss d =
          let b : (program text limit room).begins ((xs ++ x ∷ []) ++ more) = subst (λ l. (program text limit room).begins l) (e ∙ sym (append_assoc xs (x ∷ []) more)) (known.fine.whole tokens ss d) in
          none (suc (suc (suc room))) x more refl (known.below.begun _ (known.fine.fronts (xs ++ x ∷ []) more b))

      not_derived_at : (xs rest : List Token) → tokens ≡ xs ++ rest → ((ss : Statements) → (program text limit room).derives xs ss → ⊥) → NoneGoesOn (wide text) xs rest → (ss : Statements) → IsProgramOf text limit room tokens ss → ⊥
      not_derived_at xs [] e not none ss d = not ss (subst (λ l. (program text limit room).derives l ss) (e ∙ append-nil xs) d)
      not_derived_at xs (x ∷ more) e not none ss d = not_derived xs x more e none ss d

      program_at : (out : Outcome Token Statements) → Exactly (program text limit room) (wide text) tokens out → ProgramExact text limit room tokens (finish out)
      program_at (Ok (ss, [])) h = subst (λ l. (program text limit room).derives l ss) (sym (h.1 ∙ append-nil h.0)) h.2
      program_at (Ok (ss, x ∷ ts)) h = (h.0, h.1, known.fine.whole h.0 ss h.2, not_derived h.0 x ts h.1 h.3, h.3)
      program_at (Err (syntax rest)) h = (h.0, h.1, h.2, not_derived_at h.0 rest h.1 h.3 h.4, h.4)
      program_at (Err (deep rest)) h = h

      pub program_exact : ProgramExact text limit room tokens (finish (read_program text limit room tokens))
      program_exact = program_at (read_program text limit room tokens) (program_exactly limit room tokens)
