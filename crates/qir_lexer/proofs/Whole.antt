-- What is answered of tokens is right, and nothing else is.
use Rattle.std.proofs.Common.{◌≡◌, ◌&&◌, inl, inr, ℕ, Bool, true, false, cond, List, [], ◌∷◌, ◌++◌, Option, Some, None, Ok, Err, refl, sym, ap, subst, ◌∙◌, append-nil, append_assoc}
use Rattle.std.proofs.lemmas.List.{append_cancel_right}
use Rattle.qir_module.specs.Module.{Module}
use Rattle.grammar_parts.specs.Reading.{Refusal, Outcome, syntax, deep, Stops, Answers, and_then}
use Rattle.grammar_parts.specs.Kinds.{Among}
use Rattle.grammar_parts.specs.Law.{Follows}
use Rattle.grammar_parts.proofs.Fine.{cuts, goes}
use Rattle.grammar_parts.proofs.Sets.{has_apart}
use Rattle.qir_module.specs.Tokens.{Token, Breach}
use Rattle.qir_module.specs.Words.{kind}
use Rattle.qir_module.specs.Grammar.{Signature, is_right, all_right, Heading, heading, module_part}
use Rattle.qir_module.specs.Spoilt.{rule_of_value, first_wrong, EndsWrong, FailsBy, ByValue, ByMore, ByDeclaration, Otherwise, IsRefused, IsAnswer}
use Rattle.qir_module.specs.Reader.{read_nothing, read_heading, read_ending, read_module, breach_at, ended, behind_heading, answer_behind, answer}
use Rattle.qir_lexer.proofs.Parts.{heading_kinds, reads_heading, whole_ending, reads_ending, module_follows}

known : Follows (Unit {0}) (module_part false) (module_part true) read_module (Among kind heading_kinds) (λ m. Among kind [])
known = module_follows

same_head : (x y : Token) (xs ys : List Token) → x ∷ xs ≡ y ∷ ys → x ≡ y
same_head x y xs ys e = cc

-- ---- wrong declarations

none_right : (ss : List Signature) → first_wrong ss ≡ None → all_right ss ≡ true
none_right [] e = refl
none_right (s ∷ ss) e = at (is_right s) refl e (λ g. none_right ss g)
  where
    at : (b : Bool) → is_right s ≡ b → cond b (first_wrong ss) (Some s) ≡ None → (first_wrong ss ≡ None → all_right ss ≡ true) → (is_right s && all_right ss) ≡ true
    at true h g later = ap (λ b. b && all_right ss) h ∙ later g
    at false h g later = absurd (cc)

some_wrong : (ss : List Signature) (x : Signature) → first_wrong ss ≡ Some x → all_right ss ≡ false
some_wrong [] x e = absurd (cc)
some_wrong (s ∷ ss) x e = at (is_right s) refl e (λ g. some_wrong ss x g)
  where
    at : (b : Bool) → is_right s ≡ b → cond b (first_wrong ss) (Some s) ≡ Some x → (first_wrong ss ≡ Some x → all_right ss ≡ false) → (is_right s && all_right ss) ≡ false
    at true h g later = ap (λ b. b && all_right ss) h ∙ later g
    at false h g later = ap (λ b. b && all_right ss) h

heading_single : (xs : List Token) (h g : Heading) → (heading false).derives xs h → (heading false).derives xs g → h ≡ g
heading_single xs h g d e = reads_heading.follows.fine.single xs h g d e

-- behind declarations that are the table's no other one ends
not_wrong : (ys zs : List Token) (h : Heading) → (heading false).derives ys h → first_wrong h.signatures ≡ None → (whole_ending false h).begins zs → (s : Signature) → EndsWrong (ys ++ zs) s → ⊥
not_wrong ys [] h d n b s (g, e, f) =
    let same : h ≡ g = heading_single ys h g d (subst (λ l. (heading false).derives l g) (append-nil ys) e) in
    absurd (cc (ap (λ (k : Heading). first_wrong k.signatures) same, n, f))
not_wrong ys (z ∷ zs) h d n b s (g, e, f) =
    has_apart (201 ∷ 131 ∷ []) (202 ∷ []) refl (kind z) (goes reads_heading.follows.fine ys h z zs d (reads_heading.follows.fine.whole (ys ++ z ∷ zs) g e)) ((reads_ending h).follows.fine.first z zs b)

-- ---- what is answered is right

stops_strictly : (xs rest : List Token) → Stops (module_part true) xs rest → Stops (module_part false) xs rest
stops_strictly xs rest stop x more e b = stop x more e (known.below.begun _ b)

pub one_module : (tokens : List Token) (m n : Module) → (module_part false).derives tokens m → (module_part false).derives tokens n → m ≡ n
one_module tokens m n d e = known.fine.single tokens m n d e

module _ (text : List ℕ) (tokens : List Token) where
  refused_syntax : (rest : List Token) → Answers (module_part false) (module_part true) tokens (Err (syntax rest)) → ((xs : List Token) → tokens ≡ xs ++ rest → (s : Signature) → EndsWrong xs s → ⊥) → IsRefused text tokens (breach_at text (syntax rest))
  refused_syntax rest (xs, split, b, none, stop) right = record {
    front = xs;
    rest = rest;
    split = split;
    begun = b;
    longest = stops_strictly xs rest stop;
    fails = Otherwise (λ (x, more, e, g). stop x more e g) (λ m d. none m (known.below.derived xs m d)) (λ s w. right xs split s w) refl;
  }

  refused_deep : (rest : List Token) → Answers (module_part false) (module_part true) tokens (Err (deep rest)) → IsRefused text tokens (breach_at text (deep rest))
  refused_deep rest (xs, x, more, same, split, b, strict, loose) = record {
    front = xs;
    rest = rest;
    split = split;
    begun = b;
    longest = λ y ys e g. strict (subst (λ z. (module_part false).begins (xs ++ z ∷ [])) (same_head y x ys more (sym e ∙ same)) g);
    fails = ByValue x more same loose (ap (λ l. breach_at text (deep l)) same);
  }

  refused : (e : Refusal Token) → Answers (module_part false) (module_part true) tokens (Err e) → ((rest xs : List Token) → e ≡ syntax rest → tokens ≡ xs ++ rest → (s : Signature) → EndsWrong xs s → ⊥) → IsRefused text tokens (breach_at text e)
  refused (syntax rest) h right = refused_syntax rest h (λ xs. right rest xs refl)
  refused (deep rest) h right = refused_deep rest h

  -- where the heading stops short, no declaration ends it
  heading_short : (e : Refusal Token) → Answers (heading false) (heading true) tokens (Err e) → (rest xs : List Token) → e ≡ syntax rest → tokens ≡ xs ++ rest → (s : Signature) → EndsWrong xs s → ⊥
  heading_short (deep more) h rest xs same split s w = absurd (cc)
  heading_short (syntax more) (ys, cut, b, none, stop) rest xs same split s (g, d, f) =
      let rests : more ≡ rest = cc in
      let fronts : xs ≡ ys = append_cancel_right xs ys rest (sym split ∙ cut ∙ ap (λ l. ys ++ l) rests) in
      none g (reads_heading.follows.below.derived ys g (subst (λ l. (heading false).derives l g) fronts d))

  module _ (h : Heading) (rest : List Token) (front : List Token) (split : tokens ≡ front ++ rest) (d : (heading false).derives front h) where
    -- the tokens end behind a module, or go on, or the ending stops short
    ending_short : first_wrong h.signatures ≡ None → (e : Refusal Token) → Answers (whole_ending false h) (whole_ending true h) rest (Err e) → (more xs : List Token) → e ≡ syntax more → tokens ≡ xs ++ more → (s : Signature) → EndsWrong xs s → ⊥
    ending_short n (deep more) w rest xs same cut s v = absurd (cc)
    ending_short n (syntax left) (zs, cuts, b, none, stop) more xs same cut s v =
        let rests : left ≡ more = cc in
        let fronts : xs ≡ front ++ zs = append_cancel_right xs (front ++ zs) more (sym cut ∙ split ∙ ap (λ l. front ++ l) (cuts ∙ ap (λ l. zs ++ l) rests) ∙ sym (append_assoc front zs more)) in
        not_wrong front zs h d n b s (subst (λ l. EndsWrong l s) fronts v)

    ended_right : first_wrong h.signatures ≡ None → (out : Outcome Token Module) → Answers (whole_ending false h) (whole_ending true h) rest out → Answers (module_part false) (module_part true) tokens out → IsAnswer text tokens (ended text out)
    ended_right n (Ok (m, [])) w (xs, cut, e, stop) = subst (λ l. (module_part false).derives l m) (sym (cut ∙ append-nil xs)) e
    ended_right n (Ok (m, x ∷ more)) w (xs, cut, e, stop) = record {
      front = xs;
      rest = x ∷ more;
      split = cut;
      begun = known.fine.whole xs m e;
      longest = stops_strictly xs (x ∷ more) stop;
      fails = ByMore (λ (y, ys, f, g). stop y ys f g) m e x more refl refl;
    }
    ended_right n (Err e) w g = refused e g (ending_short n e w)

    -- a declaration that is not the table's ends the heading
    wrong_right : (s : Signature) → first_wrong h.signatures ≡ Some s → Answers (module_part false) (module_part true) tokens (Err (syntax rest)) → IsRefused text tokens (record { rule = 9; at = s.at })
    wrong_right s f (xs, cut, b, none, stop) =
        let fronts : front ≡ xs = append_cancel_right front xs rest (sym split ∙ cut) in
        record {
          front = xs;
          rest = rest;
          split = cut;
          begun = b;
          longest = stops_strictly xs rest stop;
          fails = ByDeclaration (λ (y, ys, e, g). stop y ys e g) (λ m e. none m (known.below.derived xs m e)) s (h, subst (λ l. (heading false).derives l h) fronts d, f) refl;
        }

    nothing_read : (ts : List Token) → read_nothing {A = Module} ts ≡ Err (syntax ts)
    nothing_read [] = refl
    nothing_read (x ∷ ts) = refl

    heading_right : (o : Option Signature) → first_wrong h.signatures ≡ o → Answers (module_part false) (module_part true) tokens (cond (all_right h.signatures) (read_ending h) read_nothing rest) → IsAnswer text tokens (behind_heading text h rest o)
    heading_right (Some s) f w = wrong_right s f (subst (λ out. Answers (module_part false) (module_part true) tokens out) (ap (λ b. cond b (read_ending h) read_nothing rest) (some_wrong h.signatures s f) ∙ nothing_read rest) w)
    heading_right None f w =
        ended_right f (read_ending h rest) ((reads_ending h).follows.takes tt rest).holds
        (subst (λ out. Answers (module_part false) (module_part true) tokens out) (ap (λ b. cond b (read_ending h) read_nothing rest) (none_right h.signatures f)) w)

  answered : (o : Outcome Token Heading) → Answers (heading false) (heading true) tokens o → Answers (module_part false) (module_part true) tokens (and_then o (λ h. cond (all_right h.signatures) (read_ending h) read_nothing)) → IsAnswer text tokens (answer_behind text o)
  answered (Err e) h w = refused e w (heading_short e h)
  answered (Ok (g, rest)) (front, split, d, stop) w = heading_right g rest front split d (first_wrong g.signatures) refl w

  pub answer_right : IsAnswer text tokens (answer text tokens)
  unfolding read_module
  answer_right = answered (read_heading tokens) (reads_heading.follows.takes tt tokens).holds (known.takes tt tokens).holds

  -- ---- no other answer is

  no_further : (breach : Breach) (f : IsRefused text tokens breach) (x : Token) (more r zs : List Token) → f.rest ≡ x ∷ more → zs ≡ f.front ++ x ∷ r → (module_part false).begins zs → ⊥
  no_further breach f x more r zs e g b = f.longest x more e (known.fine.fronts (f.front ++ x ∷ []) r (subst (λ l. (module_part false).begins l) (g ∙ sym (append_assoc f.front (x ∷ []) r)) b))

  pub not_refused : (m : Module) (breach : Breach) → (module_part false).derives tokens m → IsRefused text tokens breach → ⊥
  not_refused m breach d f = at f.rest refl
    where
      whole : f.rest ≡ [] → (module_part false).derives f.front m
      whole e = subst (λ l. (module_part false).derives l m) (f.split ∙ ap (λ l. f.front ++ l) e ∙ append-nil f.front) d

      none_left : f.rest ≡ [] → FailsBy text f.front f.rest breach → ⊥
      none_left e (ByValue x more same loose b) = cc
      none_left e (ByMore only n g x more same b) = cc
      none_left e (ByDeclaration only none s w b) = none m (whole e)
      none_left e (Otherwise only none right b) = none m (whole e)

      at : (rest : List Token) → f.rest ≡ rest → ⊥
      at [] e = none_left e f.fails
      at (x ∷ more) e = no_further breach f x more more tokens e (f.split ∙ ap (λ l. f.front ++ l) e) (known.fine.whole tokens m d)

  one_failure : (front rest : List Token) (a c : Breach) → FailsBy text front rest a → FailsBy text front rest c → a ≡ c
  one_failure front rest a c (ByValue x more same loose e) (ByValue y ys also loosely f) = e ∙ ap (λ (z : Token). record { rule = rule_of_value z.kind; at = z.at }) (same_head x y more ys (sym same ∙ also)) ∙ sym f
  one_failure front rest a c (ByValue x more same loose e) (ByMore only m d y ys also f) = absurd (only (x, more, same, loose))
  one_failure front rest a c (ByValue x more same loose e) (ByDeclaration only none s w f) = absurd (only (x, more, same, loose))
  one_failure front rest a c (ByValue x more same loose e) (Otherwise only none right f) = absurd (only (x, more, same, loose))
  one_failure front rest a c (ByMore only m d x more same e) (ByValue y ys also loosely f) = absurd (only (y, ys, also, loosely))
  one_failure front rest a c (ByMore only m d x more same e) (ByMore only' n g y ys also f) = e ∙ ap (λ (z : Token). record { rule = 12; at = z.at }) (same_head x y more ys (sym same ∙ also)) ∙ sym f
  one_failure front rest a c (ByMore only m d x more same e) (ByDeclaration only' none s w f) = absurd (none m d)
  one_failure front rest a c (ByMore only m d x more same e) (Otherwise only' none right f) = absurd (none m d)
  one_failure front rest a c (ByDeclaration only none s w e) (ByValue y ys also loosely f) = absurd (only (y, ys, also, loosely))
  one_failure front rest a c (ByDeclaration only none s w e) (ByMore only' n g y ys also f) = absurd (none n g)
  one_failure front rest a c (ByDeclaration only none s (h, d, p) e) (ByDeclaration only' none' s' (h', d', p') f) =
      let same : Some s ≡ Some s' = sym p ∙ ap (λ (k : Heading). first_wrong k.signatures) (heading_single front h h' d d') ∙ p' in
      let one : s ≡ s' = cc in e ∙ ap (λ (z : Signature). record { rule = 9; at = z.at }) one ∙ sym f
  one_failure front rest a c (ByDeclaration only none s w e) (Otherwise only' none' right f) = absurd (right s w)
  one_failure front rest a c (Otherwise only none right e) (ByValue y ys also loosely f) = absurd (only (y, ys, also, loosely))
  one_failure front rest a c (Otherwise only none right e) (ByMore only' n g y ys also f) = absurd (none n g)
  one_failure front rest a c (Otherwise only none right e) (ByDeclaration only' none' s w f) = absurd (right s w)
  one_failure front rest a c (Otherwise only none right e) (Otherwise only' none' right' f) = e ∙ sym f

  pub one_refusal : (a c : Breach) → IsRefused text tokens a → IsRefused text tokens c → a ≡ c
  one_refusal a c f g = elim (cuts f.front f.rest g.front g.rest (sym f.split ∙ g.split)) [
    | inl e ↦ one_failure g.front g.rest a c (subst (λ l. FailsBy text g.front l a) e.1 (subst (λ l. FailsBy text l f.rest a) e.0 f.fails)) g.fails
    | inr (inl e) ↦ absurd (no_further a f e.0 (e.1 ++ g.rest) e.1 g.front e.3 e.2 g.begun)
    | inr (inr e) ↦ absurd (no_further c g e.0 (e.1 ++ f.rest) e.1 f.front e.3 e.2 f.begun)
  ]
