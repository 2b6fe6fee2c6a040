-- A list of tokens that is no program is refused by one rule at one place, and which is computed.
use Rattle.std.proofs.Common.{◌≡◌, ◌⊎◌, inl, inr, ℕ, suc, ◌-◌, Bool, true, false, List, [], ◌∷◌, ◌++◌, length, take, Option, Result, Ok, Err, refl, sym, ap, subst, ◌∙◌, length-append, append-nil, append_assoc, arith}
use Rattle.std.proofs.lemmas.List.{append_cancel_left}
use Rattle.std.proofs.Math.Seq.{take-append_seam}
use Rattle.qq_base.specs.declared.refusal.Span.{Span}
use Rattle.qq_base.specs.declared.refusal.Refusal.{Refusal}
use Rattle.qq_base.specs.declared.rule.Rule.{Rule}
use Rattle.qq_base.specs.declared.rule.Rule.TheVariants.{Version, LeftOut, Include}
use Rattle.qasm_lexer.specs.declared.token.Token.{Token}
use Rattle.qasm_lexer.specs.declared.token.TokenKind.{TokenKind}
use Rattle.qasm_lexer.specs.declared.token.TokenKind.TheVariants as t
use Rattle.qasm_lexer.specs.declared.token.Keyword.{Keyword}
use Rattle.qasm_lexer.specs.declared.token.Keyword.TheVariants as k
use Rattle.qasm_lexer.specs.declared.token.Mark.TheVariants as m
use Rattle.qasm_ast.specs.Tree.{Statements}
use Rattle.grammar_parts.specs.Reading.{Outcome, Refusal as Stop, syntax, deep}
use Rattle.grammar_parts.specs.Exact.{NoneGoesOn, Exactly}
use Rattle.grammar_parts.proofs.Fine.{tails, cons_same}
use Rattle.qasm_grammar.specs.Grammar.{program}
use Rattle.qasm_grammar.specs.Reader.{read_program}
use Rattle.qasm_grammar.specs.Whole.{wide, IsProgramOf, ProgramExact, finish}
use Rattle.qasm_expr.specs.Answer.{place_at}
use Rattle.qasm_grammar.specs.Stops.{a_barrier, MightBegin, EndsWith, IsRuleWhere, RuleAt, RuleOf, StopsBy, IsRefused}
use Rattle.qasm_grammar.specs.Answer.{takes_all, is_version_word, is_include_word, ends_in, rule_where, front_of, might_begin, rule_at, rule_of, answer_of, answer, IsAnswer}
use Rattle.qasm_grammar.proofs.Programs.{known, program_exactly, program_exact}

-- ---- lists

head_same : (x y : Token) (xs ys : List Token) → x ∷ xs ≡ y ∷ ys → x ≡ y
head_same x y xs ys e = cc

-- a token behind a front of a list with one more token stands in the list, or is that one
last_cut : (xs ys : List Token) (b x : Token) (more : List Token) → xs ++ b ∷ [] ≡ ys ++ x ∷ more → ((xs ≡ ys) × (b ∷ [] ≡ x ∷ more)) ⊎ ((r : List Token) × (xs ≡ ys ++ x ∷ r))
last_cut [] [] b x more e = inl (refl, e)
last_cut [] (y ∷ []) b x more e = absurd (cc)
last_cut [] (y ∷ z ∷ ys) b x more e = absurd (cc)
last_cut (z ∷ xs) [] b x more e = inr (xs, cons_same z x xs xs (head_same z x (xs ++ b ∷ []) more e) refl)
last_cut (z ∷ xs) (y ∷ ys) b x more e =
    let h : z ≡ y = head_same z y (xs ++ b ∷ []) (ys ++ x ∷ more) e in
    elim (last_cut xs ys b x more (tails z y (xs ++ b ∷ []) (ys ++ x ∷ more) e)) [
      | inl c ↦ inl (cons_same z y xs ys h c.0, c.1)
      | inr c ↦ inr (c.0, cons_same z y xs (ys ++ x ∷ c.0) h c.1)
    ]

-- of two fronts one goes on with the rest of the other
two_fronts : (xs ys us vs : List Token) → xs ++ ys ≡ us ++ vs → (xs ≡ us) ⊎ (((x : Token) × (more : List Token) × (r : List Token) × (vs ≡ x ∷ more) × (xs ≡ us ++ x ∷ r)) ⊎ ((x : Token) × (more : List Token) × (r : List Token) × (ys ≡ x ∷ more) × (us ≡ xs ++ x ∷ r)))
two_fronts [] ys [] vs e = inl refl
two_fronts [] ys (u ∷ us) vs e = inr (inr (u, us ++ vs, us, e, refl))
two_fronts (x ∷ xs) ys [] vs e = inr (inl (x, xs ++ ys, xs, sym e, refl))
two_fronts (x ∷ xs) ys (u ∷ us) vs e =
    let h : x ≡ u = head_same x u (xs ++ ys) (us ++ vs) e in
    elim (two_fronts xs ys us vs (tails x u (xs ++ ys) (us ++ vs) e)) [
      | inl c ↦ inl (cons_same x u xs us h c)
      | inr (inl c) ↦ inr (inl (c.0, c.1, c.2, c.3, cons_same x u xs _ h c.4))
      | inr (inr c) ↦ inr (inr (c.0, c.1, c.2, c.3, cons_same u x us _ (sym h) c.4))
    ]

front_is : (tokens xs rest : List Token) → tokens ≡ xs ++ rest → front_of tokens rest ≡ xs
front_is tokens xs rest e =
    let n : length tokens - length rest ≡ length xs = omega (arith, ap length e, length-append xs rest) in
    ap (λ z. take z tokens) n ∙ ap (λ l. take (length xs) l) e ∙ take-append_seam xs rest

abbrev refusal : Rule → Span → Refusal
refusal rule place = record { rule = rule; at = place }

refusal_same : (a c : Rule) (p q : Span) → a ≡ c → p ≡ q → refusal a p ≡ refusal c q
refusal_same a c p q e h = cc

-- ---- the last token

last_of : (test : TokenKind → Bool) (xs : List Token) → ends_in test xs ≡ true → (before : List Token) × (x : Token) × (xs ≡ before ++ x ∷ []) × (test x.kind ≡ true)
last_of test [] e = absurd (cc)
last_of test (x ∷ []) e = ([], x, refl, e)
last_of test (x ∷ y ∷ xs) e = let h = last_of test (y ∷ xs) e in (x ∷ h.0, h.1, ap (λ l. x ∷ l) h.2, h.3)

ends_so : (test : TokenKind → Bool) (before : List Token) (x : Token) → ends_in test (before ++ x ∷ []) ≡ test x.kind
ends_so test [] x = refl
ends_so test (y ∷ []) x = refl
ends_so test (y ∷ z ∷ before) x = ends_so test (z ∷ before) x

version_word : (kd : TokenKind) → is_version_word kd ≡ true → kd ≡ t.Word k.OpenQasm
version_word (t.Word k.OpenQasm) e = refl
version_word _ e = absurd (cc)

include_word : (kd : TokenKind) → is_include_word kd ≡ true → kd ≡ t.Word k.Include
include_word (t.Word k.Include) e = refl
include_word _ e = absurd (cc)

not_both : (b : Bool) → b ≡ true → b ≡ false → ⊥
not_both b x y = cc

-- what is decided so, by a test that tells it
decided : {P : Type 0} (special : Rule) (b : Bool) → (b ≡ true → P) → (b ≡ false → P → ⊥) → IsRuleWhere P special (rule_where b special)
decided special true holds fails = inl (holds refl, refl)
decided special false holds fails = inr (fails refl, refl)

one_rule : {P : Type 0} (special a c : Rule) → IsRuleWhere P special a → IsRuleWhere P special c → a ≡ c
one_rule special a c (inl x) (inl y) = x.1 ∙ sym y.1
one_rule special a c (inl x) (inr y) = absurd (y.0 x.0)
one_rule special a c (inr x) (inl y) = absurd (x.0 y.0)
one_rule special a c (inr x) (inr y) = x.1 ∙ sym y.1

ends_decided : (w : Keyword) (test : TokenKind → Bool) → ((kd : TokenKind) → test kd ≡ true → kd ≡ t.Word w) → test (t.Word w) ≡ true → (special : Rule) (xs : List Token) → IsRuleWhere (EndsWith w xs) special (rule_where (ends_in test xs) special)
ends_decided w test sound complete special xs = decided special (ends_in test xs) (λ e. let h = last_of test xs e in (h.0, h.1, h.2, sound h.1.kind h.3)) fails
  where
    fails : ends_in test xs ≡ false → EndsWith w xs → ⊥
    fails e (before, x, h, g) = not_both (ends_in test xs) (ap (ends_in test) h ∙ ends_so test before x ∙ ap test g ∙ complete) e

module _ (text : List ℕ) where
  rule_at_one : (xs : List Token) (kd : TokenKind) (a c : Rule) → RuleAt text xs kd a → RuleAt text xs kd c → a ≡ c
  rule_at_one xs (t.Word k.OpenQasm) a c x y = one_rule Version a c x y
  rule_at_one xs (t.Mark m.At) a c x y = one_rule LeftOut a c x y
  rule_at_one xs (t.Version major minor) a c x y = one_rule Version a c x y
  rule_at_one xs t.Text a c x y = one_rule Include a c x y
  rule_at_one xs _ a c x y = x ∙ sym y

  rule_of_one : (xs rest : List Token) (a c : Rule) → RuleOf text xs rest a → RuleOf text xs rest c → a ≡ c
  rule_of_one xs [] a c x y = x ∙ sym y
  rule_of_one xs (z ∷ rest) a c x y = rule_at_one xs z.kind a c x y

  module _ (limit : Option ℕ) (room : ℕ) where
    -- a front of tokens that begin a program begins one
    begun_before : (xs : List Token) (x : Token) (r : List Token) (us : List Token) → us ≡ xs ++ x ∷ r → (program text limit room).begins us → (program text limit room).begins (xs ++ x ∷ [])
    begun_before xs x r us e b = (known text limit room).fine.fronts (xs ++ x ∷ []) r (subst (λ l. (program text limit room).begins l) (e ∙ sym (append_assoc xs (x ∷ []) r)) b)

    -- ---- whether a barrier goes on

    module _ (xs : List Token) (begun : (program text limit room).begins xs) where
      barred : (ys : List Token) (x : Token) (more : List Token) → xs ++ a_barrier ∷ [] ≡ ys ++ x ∷ more → ((program text limit room).begins (ys ++ x ∷ []) → ⊥) → ((xs ≡ ys) × (a_barrier ∷ [] ≡ x ∷ more))
      barred ys x more e no_more = elim (last_cut xs ys a_barrier x more e) [ inl c ↦ c | inr c ↦ absurd (no_more (begun_before ys x c.0 xs c.1 begun)) ]

      none_more : (ys rest : List Token) (x : Token) (more : List Token) → rest ≡ x ∷ more → NoneGoesOn (wide text) ys rest → (program text limit room).begins (ys ++ x ∷ []) → ⊥
      none_more ys rest x more e none b = none (suc (suc (suc room))) x more e ((known text limit room).below.begun _ b)

      goes_on : (out : Outcome Token Statements) → Exactly (program text limit room) (wide text) (xs ++ a_barrier ∷ []) out → takes_all out ≡ true → MightBegin text xs
      goes_on (Ok (ss, [])) h e = (suc (suc (suc room)), (known text limit room).below.begun _ (subst (λ l. (program text limit room).begins l) (sym (h.1 ∙ append-nil h.0)) ((known text limit room).fine.whole h.0 ss h.2)))
      goes_on (Ok (ss, x ∷ more)) h e = absurd (cc)
      goes_on (Err (syntax [])) h e = (suc (suc (suc room)), (known text limit room).below.begun _ (subst (λ l. (program text limit room).begins l) (sym (h.1 ∙ append-nil h.0)) h.2))
      goes_on (Err (syntax (x ∷ more))) h e = absurd (cc)
      goes_on (Err (deep rest)) (ys, x, more, same, cut, b, only) e =
          let s = barred ys x more (cut ∙ ap (λ l. ys ++ l) same) only.0 in
          (only.1, subst (λ l. (wide text only.1).begins l) (ap (λ l. l ++ x ∷ []) (sym s.0) ∙ ap (λ z. xs ++ z ∷ []) (sym (head_same a_barrier x [] more s.1))) only.2)

      stopped : (ys : List Token) (x : Token) (more : List Token) → xs ++ a_barrier ∷ [] ≡ ys ++ x ∷ more → NoneGoesOn (wide text) ys (x ∷ more) → MightBegin text xs → ⊥
      stopped ys x more cut none (w, goes) =
          let s = barred ys x more cut (none_more ys (x ∷ more) x more refl none) in
          none w x more refl (subst (λ l. (wide text w).begins l) (ap (λ l. l ++ a_barrier ∷ []) s.0 ∙ ap (λ z. ys ++ z ∷ []) (head_same a_barrier x [] more s.1)) goes)

      goes_no : (out : Outcome Token Statements) → Exactly (program text limit room) (wide text) (xs ++ a_barrier ∷ []) out → takes_all out ≡ false → MightBegin text xs → ⊥
      goes_no (Ok (ss, [])) h e g = absurd (cc)
      goes_no (Ok (ss, x ∷ more)) h e g = stopped h.0 x more h.1 h.3 g
      goes_no (Err (syntax [])) h e g = absurd (cc)
      goes_no (Err (syntax (x ∷ more))) h e g = stopped h.0 x more h.1 h.4 g
      goes_no (Err (deep rest)) h e g = absurd (cc)

      barrier_decided : (special : Rule) → IsRuleWhere (MightBegin text xs) special (rule_where (might_begin text limit room xs) special)
      barrier_decided special =
          let h : Exactly (program text limit room) (wide text) (xs ++ a_barrier ∷ []) (read_program text limit room (xs ++ a_barrier ∷ [])) = program_exactly text limit room (xs ++ a_barrier ∷ []) in
          decided special (might_begin text limit room xs) (goes_on (read_program text limit room (xs ++ a_barrier ∷ [])) h) (goes_no (read_program text limit room (xs ++ a_barrier ∷ [])) h)

      rule_at_holds : (kd : TokenKind) → RuleAt text xs kd (rule_at text limit room xs kd)
      rule_at_holds (t.Word k.OpenQasm) = barrier_decided Version
      rule_at_holds (t.Mark m.At) = barrier_decided LeftOut
      rule_at_holds (t.Version major minor) = ends_decided k.OpenQasm is_version_word version_word refl Version xs
      rule_at_holds t.Text = ends_decided k.Include is_include_word include_word refl Include xs
      rule_at_holds _ = refl

      rule_of_holds : (rest : List Token) → RuleOf text xs rest (rule_of text limit room xs rest)
      rule_of_holds [] = refl
      rule_of_holds (x ∷ rest) = rule_at_holds x.kind

    -- ---- what is answered is right

    module _ (tokens : List Token) where
      answered : (out : Result Statements (Stop Token)) → ProgramExact text limit room tokens out → IsAnswer text limit room tokens (answer_of text limit room tokens out)
      answered (Ok ss) h = h
      answered (Err (syntax rest)) (xs, cut, b, not, none) = record {
        front = xs;
        rest = rest;
        split = cut;
        begun = b;
        place = refl;
        stops = inr (not, none, subst (λ l. RuleOf text xs rest (rule_of text limit room l rest)) (sym (front_is tokens xs rest cut)) (rule_of_holds xs b rest));
      }
      answered (Err (deep rest)) (xs, x, more, same, cut, b, only) = record { front = xs; rest = rest; split = cut; begun = b; place = refl; stops = inl (x, more, same, only, refl) }

      pub answer_right : IsAnswer text limit room tokens (answer text limit room tokens)
      answer_right = answered (finish (read_program text limit room tokens)) (program_exact text limit room tokens)

      -- ---- no other refusal is

      -- the token behind the front does not go on
      no_further : (r : Refusal) (f : IsRefused text limit room tokens r) (x : Token) (more : List Token) → f.rest ≡ x ∷ more → (program text limit room).begins (f.front ++ x ∷ []) → ⊥
      no_further r f x more e b = at f.stops
        where
          at : StopsBy text limit room tokens f.front f.rest r.rule → ⊥
          at (inl (y, ys, same, only, s)) = only.0 (subst (λ z. (program text limit room).begins (f.front ++ z ∷ [])) (head_same x y more ys (sym e ∙ same)) b)
          at (inr (not, none, s)) = none_more f.front f.begun f.front f.rest x more e none b

      pub not_refused : (ss : Statements) (r : Refusal) → IsProgramOf text limit room tokens ss → IsRefused text limit room tokens r → ⊥
      not_refused ss r d f = at f.stops
        where
          at : StopsBy text limit room tokens f.front f.rest r.rule → ⊥
          at (inl (y, ys, same, only, s)) = no_further r f y ys same (begun_before f.front y ys tokens (f.split ∙ ap (λ l. f.front ++ l) same) ((known text limit room).fine.whole tokens ss d))
          at (inr (not, none, s)) = not ss d

      same_front : (a c : Refusal) (f : IsRefused text limit room tokens a) (g : IsRefused text limit room tokens c) → f.front ≡ g.front
      same_front a c f g = elim (two_fronts f.front f.rest g.front g.rest (sym f.split ∙ g.split)) [
        | inl e ↦ e
        | inr (inl h) ↦ absurd (no_further c g h.0 h.1 h.3 (begun_before g.front h.0 h.2 f.front h.4 f.begun))
        | inr (inr h) ↦ absurd (no_further a f h.0 h.1 h.3 (begun_before f.front h.0 h.2 g.front h.4 g.begun))
      ]

      same_rule : (xs rest : List Token) (a c : Rule) → StopsBy text limit room tokens xs rest a → StopsBy text limit room tokens xs rest c → a ≡ c
      same_rule xs rest a c (inl f) (inl g) = f.4 ∙ sym g.4
      same_rule xs rest a c (inl (x, more, same, only, s)) (inr (not, none, r)) = absurd (none only.1 x more same only.2)
      same_rule xs rest a c (inr (not, none, r)) (inl (x, more, same, only, s)) = absurd (none only.1 x more same only.2)
      same_rule xs rest a c (inr f) (inr g) = rule_of_one xs rest a c f.2 g.2

      pub one_refusal : (a c : Refusal) → IsRefused text limit room tokens a → IsRefused text limit room tokens c → a ≡ c
      one_refusal a c f g =
          let fronts : f.front ≡ g.front = same_front a c f g in
          let rests : f.rest ≡ g.rest = append_cancel_left g.front f.rest g.rest (ap (λ l. l ++ f.rest) (sym fronts) ∙ sym f.split ∙ g.split) in
          let stops : StopsBy text limit room tokens g.front g.rest a.rule = subst (λ l. StopsBy text limit room tokens g.front l a.rule) rests (subst (λ l. StopsBy text limit room tokens l f.rest a.rule) fronts f.stops) in
          let rules : a.rule ≡ c.rule = same_rule g.front g.rest a.rule c.rule stops g.stops in
          let places : a.at ≡ c.at = f.place ∙ ap (place_at text) rests ∙ sym g.place in
          refusal_same a.rule c.rule a.at c.at rules places
