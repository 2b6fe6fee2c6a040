-- Which kinds the tests of single tokens tell, and tokens of which only the value may be wrong.
use Rattle.std.proofs.Common.{◌≡◌, inl, inr, ℕ, zero, suc, ◌^◌, ◌<◌, Bool, true, false, cond, ◌&&◌, ◌==◌, List, [], ◌∷◌, Option, Some, None, ℤ, pos, negsuc, refl, ap, arith, eqb-true}
use Rattle.std.specs.Prelude.{nat_lt}
use Rattle.std.proofs.lemmas.Bool.{ltb-true}
use Rattle.qq_base.specs.declared.refusal.Span.{Span}
use Rattle.qir_module.specs.declared.function.Function.{Function}
use Rattle.grammar_parts.specs.Part.{one}
use Rattle.grammar_parts.specs.Reading.{Answers}
use Rattle.grammar_parts.specs.Kinds.{has, disjoint, is_some}
use Rattle.grammar_parts.proofs.Fine.{fine_one, fine_wider}
use Rattle.grammar_parts.proofs.Sets.{Tells, both_true, has_apart, has_cases}
use Rattle.grammar_parts.proofs.Productions.{Reads, filled_one, one_hit}
use Rattle.qir_module.specs.Tokens.{TokenKind, Token}
use Rattle.qir_module.specs.Tokens as t
use Rattle.qir_module.specs.Words as w
use Rattle.qir_module.specs.Words.{Reserved, Quoted, reserved_class, quoted_class, text_class, flag_text_class, group_class, flag_class, number_class, name_class, flag_name_class, class_of, kind, word_of, text_of, same, main_name, flags_name}
use Rattle.qir_module.specs.Grammar.{number_at, small_at, register_at, target_at, block_at, constant_at, group_at, flag_at, bytes_at, reserved_at, text_at, name_at, and_then, arithmetic, logic, condition, numeral_in, named_function, with_place, profile_named, stray_word}
use Rattle.qir_module.specs.Reader.{number_kinds, stray_kinds, taken_strictly, take_strictly, function_at, profile_at}

-- ---- the kinds of each sort of token

abbrev pub word_set : List ℕ
word_set =
    200 ∷ 201 ∷ 202 ∷ 203 ∷ 204 ∷ 205 ∷ 206 ∷ 207 ∷ 208 ∷ 209 ∷ 210 ∷ 211 ∷ 212 ∷ 213 ∷ 214 ∷ 215 ∷ 216 ∷ 217 ∷ 218 ∷ 219
    ∷ 220 ∷ 221 ∷ 222 ∷ 223 ∷ 224 ∷ 225 ∷ 226 ∷ 227 ∷ 228 ∷ 229 ∷ []

abbrev pub text_set : List ℕ
text_set = 300 ∷ 301 ∷ 302 ∷ 303 ∷ 304 ∷ 305 ∷ 306 ∷ 307 ∷ 308 ∷ 309 ∷ 310 ∷ 311 ∷ 312 ∷ 313 ∷ []

abbrev pub flag_text_set : List ℕ
flag_text_set = 320 ∷ 321 ∷ 322 ∷ 323 ∷ 324 ∷ 325 ∷ 326 ∷ 327 ∷ 328 ∷ 329 ∷ 330 ∷ 331 ∷ 332 ∷ 333 ∷ []

abbrev pub group_set : List ℕ
group_set = 130 ∷ 131 ∷ 132 ∷ []

abbrev pub flag_set : List ℕ
flag_set = 134 ∷ 135 ∷ 136 ∷ 137 ∷ 138 ∷ []

abbrev pub name_set : List ℕ
name_set = 150 ∷ 151 ∷ []

abbrev pub set_of : TokenKind → List ℕ
set_of (t.Word s) = word_set
set_of (t.Number z) = number_kinds
set_of (t.Register n) = 160 ∷ []
set_of (t.Target n) = 161 ∷ []
set_of (t.Block n) = 162 ∷ []
set_of (t.Constant n) = 163 ∷ []
set_of (t.Group n) = group_set
set_of (t.Flag n) = flag_set
set_of (t.Named s) = name_set
set_of (t.FlagName s) = 152 ∷ 153 ∷ []
set_of (t.Text s) = text_set
set_of (t.Bytes s) = 164 ∷ []
set_of (t.FlagText s) = flag_text_set
set_of (t.Mark c) = []

word_in : (r : Reserved) → has word_set (reserved_class r) ≡ true
word_in w.Define = refl
word_in _ = refl

text_in : (q : Quoted) → has text_set (text_class q) ≡ true
text_in w.EntryPoint = refl
text_in _ = refl

flag_text_in : (q : Quoted) → has flag_text_set (flag_text_class q) ≡ true
flag_text_in w.EntryPoint = refl
flag_text_in _ = refl

group_in : (n : ℕ) → has group_set (group_class n) ≡ true
group_in zero = refl
group_in (suc zero) = refl
group_in (suc (suc n)) = refl

flag_in : (n : ℕ) → has flag_set (flag_class n) ≡ true
flag_in zero = refl
flag_in (suc zero) = refl
flag_in (suc (suc zero)) = refl
flag_in (suc (suc (suc zero))) = refl
flag_in (suc (suc (suc (suc n)))) = refl

one_of_four : (a b c : Bool) → has number_kinds (cond a 140 (cond b 141 (cond c 142 143))) ≡ true
one_of_four true b c = refl
one_of_four false true c = refl
one_of_four false false true = refl
one_of_four false false false = refl

number_in : (z : ℤ) → has number_kinds (number_class z) ≡ true
number_in (negsuc n) = refl
number_in (pos n) = one_of_four (n == 1) (n == 7) (nat_lt n (2 ^ 32))

name_in : (b : Bool) → has name_set (cond b 150 151) ≡ true
name_in true = refl
name_in false = refl

flag_name_in : (b : Bool) → has (152 ∷ 153 ∷ []) (cond b 152 153) ≡ true
flag_name_in true = refl
flag_name_in false = refl

-- no mark is in the set
abbrev pub is_above : List ℕ → Bool
is_above [] = true
is_above (x ∷ xs) = nat_lt 129 x && is_above xs

mark_below : (b : Bool) (c : ℕ) → nat_lt c 128 ≡ b → cond b c 129 < 130
mark_below true c e = omega (arith, ltb-true c 128 e)
mark_below false c e = omega arith

mark_none : (S : List ℕ) (k : ℕ) → k < 130 → is_above S ≡ true → has S k ≡ true → ⊥
mark_none [] k l a h = cc
mark_none (x ∷ xs) k l a h = let b = both_true (nat_lt 129 x) (is_above xs) a in elim (has_cases x xs k h) [ inl e ↦ absurd (omega (arith, ltb-true 129 x b.0, e, l)) | inr r ↦ mark_none xs k l b.1 r ]

-- no token of this sort is in the set
abbrev pub is_apart : List ℕ → TokenKind → Bool
is_apart S (t.Mark c) = is_above S
is_apart S k = disjoint S (set_of k)

pub apart : (S : List ℕ) (k : TokenKind) → is_apart S k ≡ true → has S (class_of k) ≡ true → ⊥
apart S (t.Mark c) e h = mark_none S (cond (nat_lt c 128) c 129) (mark_below (nat_lt c 128) c refl) e h
apart S (t.Word s) e h = has_apart S word_set e (reserved_class (word_of s)) h (word_in (word_of s))
apart S (t.Number z) e h = has_apart S number_kinds e (number_class z) h (number_in z)
apart S (t.Register n) e h = has_apart S (160 ∷ []) e 160 h refl
apart S (t.Target n) e h = has_apart S (161 ∷ []) e 161 h refl
apart S (t.Block n) e h = has_apart S (162 ∷ []) e 162 h refl
apart S (t.Constant n) e h = has_apart S (163 ∷ []) e 163 h refl
apart S (t.Group n) e h = has_apart S group_set e (group_class n) h (group_in n)
apart S (t.Flag n) e h = has_apart S flag_set e (flag_class n) h (flag_in n)
apart S (t.Named s) e h = has_apart S name_set e (name_class s) h (name_in (same main_name s))
apart S (t.FlagName s) e h = has_apart S (152 ∷ 153 ∷ []) e (flag_name_class s) h (flag_name_in (same flags_name s))
apart S (t.Text s) e h = has_apart S text_set e (text_class (text_of s)) h (text_in (text_of s))
apart S (t.Bytes s) e h = has_apart S (164 ∷ []) e 164 h refl
apart S (t.FlagText s) e h = has_apart S flag_text_set e (flag_text_class (text_of s)) h (flag_text_in (text_of s))

-- ---- what the tests tell

pub tells_value : {A : Type 0} (test : TokenKind → Option A) (S : List ℕ) → ((k : TokenKind) (a : A) → test k ≡ Some a → has S (class_of k) ≡ true) → ((k : TokenKind) → has S (class_of k) ≡ true → is_some (test k) ≡ true) → Tells kind (λ (x : Token). test x.kind) S
tells_value test S sound complete = record { sound = λ x a e. sound x.kind a e; complete = λ x h. complete x.kind h }

pub tells_number : Tells kind (λ (x : Token). number_at x.kind) number_kinds
tells_number = tells_value number_at number_kinds sound complete
  where
    sound : (k : TokenKind) (a : ℤ) → number_at k ≡ Some a → has number_kinds (class_of k) ≡ true
    sound (t.Number z) a e = number_in z
    sound _ a e = absurd (cc)

    complete : (k : TokenKind) → has number_kinds (class_of k) ≡ true → is_some (number_at k) ≡ true
    complete (t.Number z) h = refl
    complete k h = absurd (apart number_kinds k refl h)

abbrev pub small_kinds : List ℕ
small_kinds = 140 ∷ 141 ∷ 142 ∷ []

small_sound : (n : ℕ) (a b c : Bool) → (m : ℕ) → cond c (Some n) None ≡ Some m → has small_kinds (cond a 140 (cond b 141 (cond c 142 143))) ≡ true
small_sound n true b c m e = refl
small_sound n false true c m e = refl
small_sound n false false true m e = refl
small_sound n false false false m e = absurd (cc)

small_complete : (n : ℕ) (a b c : Bool) → (n == 1) ≡ a → (n == 7) ≡ b → nat_lt n (2 ^ 32) ≡ c → has small_kinds (cond a 140 (cond b 141 (cond c 142 143))) ≡ true → is_some (cond c (Some n) None) ≡ true
small_complete n a b true x y z h = refl
small_complete n true b false x y z h = absurd (cc (ap (λ m. nat_lt m (2 ^ 32)) (eqb-true n 1 x), z))
small_complete n false true false x y z h = absurd (cc (ap (λ m. nat_lt m (2 ^ 32)) (eqb-true n 7 y), z))
small_complete n false false false x y z h = absurd (cc)

pub tells_small : Tells kind (λ (x : Token). small_at x.kind) small_kinds
tells_small = tells_value small_at small_kinds sound complete
  where
    sound : (k : TokenKind) (a : ℕ) → small_at k ≡ Some a → has small_kinds (class_of k) ≡ true
    sound (t.Number (pos n)) a e = small_sound n (n == 1) (n == 7) (nat_lt n (2 ^ 32)) a e
    sound _ a e = absurd (cc)

    complete : (k : TokenKind) → has small_kinds (class_of k) ≡ true → is_some (small_at k) ≡ true
    complete (t.Number (pos n)) h = small_complete n (n == 1) (n == 7) (nat_lt n (2 ^ 32)) refl refl refl h
    complete (t.Number (negsuc n)) h = absurd (cc)
    complete k h = absurd (apart small_kinds k refl h)

pub tells_register : Tells kind (λ (x : Token). register_at x.kind) (160 ∷ [])
tells_register = tells_value register_at (160 ∷ []) sound complete
  where
    sound : (k : TokenKind) (a : ℕ) → register_at k ≡ Some a → has (160 ∷ []) (class_of k) ≡ true
    sound (t.Register n) a e = refl
    sound _ a e = absurd (cc)

    complete : (k : TokenKind) → has (160 ∷ []) (class_of k) ≡ true → is_some (register_at k) ≡ true
    complete (t.Register n) h = refl
    complete k h = absurd (apart (160 ∷ []) k refl h)

pub tells_target : Tells kind (λ (x : Token). target_at x.kind) (161 ∷ [])
tells_target = tells_value target_at (161 ∷ []) sound complete
  where
    sound : (k : TokenKind) (a : ℕ) → target_at k ≡ Some a → has (161 ∷ []) (class_of k) ≡ true
    sound (t.Target n) a e = refl
    sound _ a e = absurd (cc)

    complete : (k : TokenKind) → has (161 ∷ []) (class_of k) ≡ true → is_some (target_at k) ≡ true
    complete (t.Target n) h = refl
    complete k h = absurd (apart (161 ∷ []) k refl h)

pub tells_block : Tells kind (λ (x : Token). block_at x.kind) (162 ∷ [])
tells_block = tells_value block_at (162 ∷ []) sound complete
  where
    sound : (k : TokenKind) (a : ℕ) → block_at k ≡ Some a → has (162 ∷ []) (class_of k) ≡ true
    sound (t.Block n) a e = refl
    sound _ a e = absurd (cc)

    complete : (k : TokenKind) → has (162 ∷ []) (class_of k) ≡ true → is_some (block_at k) ≡ true
    complete (t.Block n) h = refl
    complete k h = absurd (apart (162 ∷ []) k refl h)

pub tells_constant : Tells kind (λ (x : Token). constant_at x.kind) (163 ∷ [])
tells_constant = tells_value constant_at (163 ∷ []) sound complete
  where
    sound : (k : TokenKind) (a : ℕ) → constant_at k ≡ Some a → has (163 ∷ []) (class_of k) ≡ true
    sound (t.Constant n) a e = refl
    sound _ a e = absurd (cc)

    complete : (k : TokenKind) → has (163 ∷ []) (class_of k) ≡ true → is_some (constant_at k) ≡ true
    complete (t.Constant n) h = refl
    complete k h = absurd (apart (163 ∷ []) k refl h)

pub tells_group : Tells kind (λ (x : Token). group_at x.kind) group_set
tells_group = tells_value group_at group_set sound complete
  where
    sound : (k : TokenKind) (a : ℕ) → group_at k ≡ Some a → has group_set (class_of k) ≡ true
    sound (t.Group n) a e = group_in n
    sound _ a e = absurd (cc)

    complete : (k : TokenKind) → has group_set (class_of k) ≡ true → is_some (group_at k) ≡ true
    complete (t.Group n) h = refl
    complete k h = absurd (apart group_set k refl h)

pub tells_flag : Tells kind (λ (x : Token). flag_at x.kind) flag_set
tells_flag = tells_value flag_at flag_set sound complete
  where
    sound : (k : TokenKind) (a : ℕ) → flag_at k ≡ Some a → has flag_set (class_of k) ≡ true
    sound (t.Flag n) a e = flag_in n
    sound _ a e = absurd (cc)

    complete : (k : TokenKind) → has flag_set (class_of k) ≡ true → is_some (flag_at k) ≡ true
    complete (t.Flag n) h = refl
    complete k h = absurd (apart flag_set k refl h)

pub tells_bytes : Tells kind (λ (x : Token). bytes_at x.kind) (164 ∷ [])
tells_bytes = tells_value bytes_at (164 ∷ []) sound complete
  where
    sound : (k : TokenKind) (a : List ℕ) → bytes_at k ≡ Some a → has (164 ∷ []) (class_of k) ≡ true
    sound (t.Bytes s) a e = refl
    sound _ a e = absurd (cc)

    complete : (k : TokenKind) → has (164 ∷ []) (class_of k) ≡ true → is_some (bytes_at k) ≡ true
    complete (t.Bytes s) h = refl
    complete k h = absurd (apart (164 ∷ []) k refl h)

-- words

module _ {A : Type 0} (test : Reserved → Option A) (S : List ℕ) (sound : (r : Reserved) (a : A) → test r ≡ Some a → has S (reserved_class r) ≡ true) (complete : (r : Reserved) → has S (reserved_class r) ≡ true → is_some (test r) ≡ true) (others : (k : TokenKind) → reserved_at k ≡ None → is_apart S k ≡ true) where
  word_sound : (k : TokenKind) (a : A) → and_then (reserved_at k) test ≡ Some a → has S (class_of k) ≡ true
  word_sound (t.Word s) a e = sound (word_of s) a e
  word_sound _ a e = absurd (cc)

  word_complete : (k : TokenKind) → has S (class_of k) ≡ true → is_some (and_then (reserved_at k) test) ≡ true
  word_complete (t.Word s) h = complete (word_of s) h
  word_complete k h = absurd (apart S k (others k refl) h)

  pub tells_word : Tells kind (λ (x : Token). and_then (reserved_at x.kind) test) S
  tells_word = tells_value (λ k. and_then (reserved_at k) test) S word_sound word_complete

pub tells_arithmetic : Tells kind (λ (x : Token). and_then (reserved_at x.kind) arithmetic) (228 ∷ [])
tells_arithmetic = tells_word arithmetic (228 ∷ []) sound complete others
  where
    sound : (r : Reserved) (a : _) → arithmetic r ≡ Some a → has (228 ∷ []) (reserved_class r) ≡ true
    sound (w.Arithmetic op) a e = refl
    sound _ a e = absurd (cc)

    complete : (r : Reserved) → has (228 ∷ []) (reserved_class r) ≡ true → is_some (arithmetic r) ≡ true
    complete (w.Arithmetic op) h = refl
    complete _ h = absurd (cc)

    others : (k : TokenKind) → reserved_at k ≡ None → is_apart (228 ∷ []) k ≡ true
    others (t.Word s) e = absurd (cc)
    others _ e = refl

pub tells_logic : Tells kind (λ (x : Token). and_then (reserved_at x.kind) logic) (229 ∷ [])
tells_logic = tells_word logic (229 ∷ []) sound complete others
  where
    sound : (r : Reserved) (a : _) → logic r ≡ Some a → has (229 ∷ []) (reserved_class r) ≡ true
    sound (w.Logic op) a e = refl
    sound _ a e = absurd (cc)

    complete : (r : Reserved) → has (229 ∷ []) (reserved_class r) ≡ true → is_some (logic r) ≡ true
    complete (w.Logic op) h = refl
    complete _ h = absurd (cc)

    others : (k : TokenKind) → reserved_at k ≡ None → is_apart (229 ∷ []) k ≡ true
    others (t.Word s) e = absurd (cc)
    others _ e = refl

pub tells_condition : Tells kind (λ (x : Token). and_then (reserved_at x.kind) condition) (218 ∷ [])
tells_condition = tells_word condition (218 ∷ []) sound complete others
  where
    sound : (r : Reserved) (a : _) → condition r ≡ Some a → has (218 ∷ []) (reserved_class r) ≡ true
    sound (w.Condition op) a e = refl
    sound _ a e = absurd (cc)

    complete : (r : Reserved) → has (218 ∷ []) (reserved_class r) ≡ true → is_some (condition r) ≡ true
    complete (w.Condition op) h = refl
    complete _ h = absurd (cc)

    others : (k : TokenKind) → reserved_at k ≡ None → is_apart (218 ∷ []) k ≡ true
    others (t.Word s) e = absurd (cc)
    others _ e = refl

pub tells_stray : Tells kind (λ (x : Token). and_then (reserved_at x.kind) stray_word) stray_kinds
tells_stray = tells_word stray_word stray_kinds sound complete others
  where
    sound : (r : Reserved) (a : Reserved) → stray_word r ≡ Some a → has stray_kinds (reserved_class r) ≡ true
    sound w.Phi a e = absurd (cc)
    sound w.Icmp a e = absurd (cc)
    sound w.Zext a e = absurd (cc)
    sound w.Trunc a e = absurd (cc)
    sound w.Select a e = absurd (cc)
    sound w.Call a e = absurd (cc)
    sound w.Br a e = absurd (cc)
    sound w.Ret a e = absurd (cc)
    sound (w.Arithmetic op) a e = absurd (cc)
    sound (w.Logic op) a e = absurd (cc)
    sound _ a e = refl

    complete : (r : Reserved) → has stray_kinds (reserved_class r) ≡ true → is_some (stray_word r) ≡ true
    complete w.Phi h = absurd (cc)
    complete w.Icmp h = absurd (cc)
    complete w.Zext h = absurd (cc)
    complete w.Trunc h = absurd (cc)
    complete w.Select h = absurd (cc)
    complete w.Call h = absurd (cc)
    complete w.Br h = absurd (cc)
    complete w.Ret h = absurd (cc)
    complete (w.Arithmetic op) h = absurd (cc)
    complete (w.Logic op) h = absurd (cc)
    complete _ h = refl

    others : (k : TokenKind) → reserved_at k ≡ None → is_apart stray_kinds k ≡ true
    others (t.Word s) e = absurd (cc)
    others _ e = refl

-- quoted texts

pub tells_numeral : Tells kind (λ (x : Token). and_then (text_at x.kind) numeral_in) (312 ∷ [])
tells_numeral = tells_value (λ k. and_then (text_at k) numeral_in) (312 ∷ []) sound complete
  where
    numeral_sound : (q : Quoted) (a : ℕ) → numeral_in q ≡ Some a → has (312 ∷ []) (text_class q) ≡ true
    numeral_sound (w.Numeral n) a e = refl
    numeral_sound _ a e = absurd (cc)

    numeral_complete : (q : Quoted) → has (312 ∷ []) (text_class q) ≡ true → is_some (numeral_in q) ≡ true
    numeral_complete (w.Numeral n) h = refl
    numeral_complete _ h = absurd (cc)

    sound : (k : TokenKind) (a : ℕ) → and_then (text_at k) numeral_in ≡ Some a → has (312 ∷ []) (class_of k) ≡ true
    sound (t.Text s) a e = numeral_sound (text_of s) a e
    sound _ a e = absurd (cc)

    complete : (k : TokenKind) → has (312 ∷ []) (class_of k) ≡ true → is_some (and_then (text_at k) numeral_in) ≡ true
    complete (t.Text s) h = numeral_complete (text_of s) h
    complete k h = absurd (apart (312 ∷ []) k refl h)

pub tells_profile : Tells kind (profile_at true) text_set
tells_profile = tells_value (λ k. and_then (text_at k) (profile_named true)) text_set sound complete
  where
    sound : (k : TokenKind) (a : _) → and_then (text_at k) (profile_named true) ≡ Some a → has text_set (class_of k) ≡ true
    sound (t.Text s) a e = text_in (text_of s)
    sound _ a e = absurd (cc)

    complete : (k : TokenKind) → has text_set (class_of k) ≡ true → is_some (and_then (text_at k) (profile_named true)) ≡ true
    complete (t.Text s) h = refl
    complete k h = absurd (apart text_set k refl h)

pub tells_function : Tells kind (function_at true) name_set
tells_function = record { sound = λ x a e. sound x.at x.kind a e; complete = λ x h. complete x.at x.kind h }
  where
    sound : (p : Span) (k : TokenKind) (a : Function × Span) → with_place p (and_then (name_at k) (named_function true)) ≡ Some a → has name_set (class_of k) ≡ true
    sound p (t.Named s) a e = name_in (same main_name s)
    sound p _ a e = absurd (cc)

    complete : (p : Span) (k : TokenKind) → has name_set (class_of k) ≡ true → is_some (with_place p (and_then (name_at k) (named_function true))) ≡ true
    complete p (t.Named s) h = refl
    complete p k h = absurd (apart name_set k refl h)

-- ---- tokens of which only the value may be wrong

module _ {A : Type 0} (strict wide : Token → Option A) (within : (x : Token) (a : A) → strict x ≡ Some a → wide x ≡ Some a) where
  answers_strictly : (ts : List Token) → Answers (one strict) (one wide) ts (take_strictly strict wide ts)
  answers_strictly [] = ([], refl, inl refl, none, λ u more h g. cc)
    where
      none : (a : A) → (one wide).derives [] a → ⊥
      none a (u, e, h) = cc
  answers_strictly (x ∷ ts) = at (strict x) refl (wide x) refl
    where
      two_behind : (u : Token) → (one wide).begins (x ∷ u ∷ []) → ⊥
      two_behind u (inl e) = cc
      two_behind u (inr (v, a, e, h)) = cc

      none : (a : A) → (one wide).derives [] a → ⊥
      none a (u, e, h) = cc

      stays : (test : Token → Option A) → test x ≡ None → (u : Token) (more : List Token) → x ∷ ts ≡ u ∷ more → (one test).begins (u ∷ []) → ⊥
      stays test n u more e (inl g) = cc
      stays test n u more e (inr (v, a, g, h)) = cc

      at : (o : Option A) → strict x ≡ o → (p : Option A) → wide x ≡ p → Answers (one strict) (one wide) (x ∷ ts) (taken_strictly x ts o p)
      at (Some a) e p f = (x ∷ [], refl, (x, refl, e), λ u more h g. two_behind u g)
      at None e (Some a) f = ([], x, ts, refl, refl, inl refl, (λ g. stays strict e x ts refl g), inr (x, a, refl, f))
      at None e None f = ([], refl, inl refl, none, stays wide f)

  pub reads_strictly : {C : Type 0} {F : List ℕ} → Tells kind wide F → Reads kind C (one strict) (one wide) (take_strictly strict wide) F []
  reads_strictly {F = F} tells = record {
    follows = record {
      fine = fine_wider (fine_one strict) (λ u h. tells.sound u h.0 (within u h.0 h.1)) (λ a u x. absurd x);
      wide = fine_wider (fine_one wide) (λ u h. tells.sound u h.0 h.1) (λ a u x. absurd x);
      below = record { derived = λ ts a (u, e, h). (u, e, within u a h); begun = begun };
      takes = λ c ts. record { holds = answers_strictly ts };
    };
    filled = filled_one kind wide;
    hit = λ c u h. one_hit kind wide u (tells.complete u h);
  }
    where
      begun : (ts : List Token) → (one strict).begins ts → (one wide).begins ts
      begun ts (inl e) = inl e
      begun ts (inr (u, a, e, h)) = inr (u, a, e, within u a h)
