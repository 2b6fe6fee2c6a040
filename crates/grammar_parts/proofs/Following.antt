-- One law for each way to make a part, with all that the next law asks.
use Rattle.std.proofs.Common.{◌≡◌, Bool, true, false, List, [], ◌∷◌, length, le_refl, Option, Some, Ok}
use Rattle.grammar_parts.specs.Part.{Part, nothing, never, one, then, either, many}
use Rattle.grammar_parts.specs.Reading.{Outcome, and_then, take_one, take_never, choose, take_many}
use Rattle.grammar_parts.specs.Law.{Fine, Follows, Filled}
use Rattle.grammar_parts.proofs.Fine.{fine_then, fine_nothing, fine_never, fine_one, fine_either, fine_many, fine_wider}
use Rattle.grammar_parts.proofs.Taking.{below_self, below_then, below_either, below_never, below_many, answers_then, answers_nothing, answers_one, answers_never, answers_choose, answers_many}

pub follows_nothing : {C : Type 0} {T A : Type 0} (a : A) → Follows C (nothing a) (nothing a) (λ (ts : List T). Ok (a, ts)) (λ t. ⊥) (λ b t. ⊥)
follows_nothing a = record { fine = fine_nothing a; wide = fine_nothing a; below = below_self; takes = λ c ts. record { holds = answers_nothing a ts } }

pub follows_one : {C : Type 0} {T A : Type 0} (test : T → Option A) → Follows C (one test) (one test) (take_one test) (λ t. (a : A) × (test t ≡ Some a)) (λ b t. ⊥)
follows_one test = record { fine = fine_one test; wide = fine_one test; below = below_self; takes = λ c ts. record { holds = answers_one test ts } }

pub follows_never : {C : Type 0} {T A : Type 0} {q : Part T A} {F : T → Type 0} {M : A → T → Type 0} (test : T → Bool) → Fine q F M → Filled q → (C → (t : T) → test t ≡ true → q.begins (t ∷ [])) → ((t : T) → test t ≡ false → F t → ⊥) → Follows C never q (take_never test) F M
follows_never test f filled hit miss = record {
  fine = fine_wider fine_never (λ t x. absurd x) (λ a t x. absurd x);
  wide = f;
  below = below_never f.starts;
  takes = λ c ts. record { holds = answers_never test f filled.never_empty (hit c) miss ts };
}

pub follows_wider : {C : Type 0} {T A : Type 0} {p q : Part T A} {r : List T → Outcome T A} {F G : T → Type 0} {M N : A → T → Type 0} → Follows C p q r F M → ((t : T) → F t → G t) → ((a : A) (t : T) → M a t → N a t) → Follows C p q r G N
follows_wider f g n = record { fine = fine_wider f.fine g n; wide = fine_wider f.wide g n; below = f.below; takes = f.takes }

pub follows_then : {C : Type 0} {T A B : Type 0} {p q : Part T A} {p' q' : A → Part T B} {r : List T → Outcome T A} {s : A → List T → Outcome T B} {F H : T → Type 0} {M G : A → T → Type 0} {K : B → T → Type 0} → Follows C p q r F M → ((a : A) → Follows C (p' a) (q' a) (s a) (G a) K) → (apart : (a : A) (t : T) → M a t → G a t → ⊥) → (first_of_p : (t : T) → F t → H t) → (first_of_q : (a : A) (t : T) → q.derives [] a → G a t → H t) → (more_of_p : (a : A) (b : B) (t : T) → (q' a).derives [] b → M a t → K b t) → Follows C (then p p') (then q q') (λ ts. and_then (r ts) s) H K
follows_then {r = r} {s = s} f g apart first_of_p first_of_q more_of_p = record {
  fine = fine_then f.fine (λ a. (g a).fine) apart first_of_p (λ a t d. first_of_q a t (f.below.derived [] a d)) (λ a b t d. more_of_p a b t ((g a).below.derived [] b d));
  wide = fine_then f.wide (λ a. (g a).wide) apart first_of_p first_of_q more_of_p;
  below = below_then f.below (λ a. (g a).below);
  takes = λ c ts. record { holds = answers_then f.wide (λ a. (g a).wide) apart f.below (λ a. (g a).below) f.fine.whole ts (r ts) s (f.takes c ts).holds (λ a rest e. ((g a).takes c rest).holds) };
}

pub follows_either : {C : Type 0} {T A : Type 0} {p q p' q' : Part T A} {r s : List T → Outcome T A} {F G H : T → Type 0} {M N K : A → T → Type 0} (test : T → Bool) → Follows C p q r F M → Follows C p' q' s G N → Filled q → (apart : (t : T) → F t → G t → ⊥) → (hit : C → (t : T) → test t ≡ true → q.begins (t ∷ [])) → (miss : (t : T) → test t ≡ false → F t → ⊥) → (first_of_p : (t : T) → F t → H t) → (first_of_q : (t : T) → G t → H t) → (more_of_p : (a : A) (t : T) → M a t → K a t) → (more_of_q : (a : A) (t : T) → N a t → K a t) → (q_empty : (a : A) (t : T) → q'.derives [] a → F t → K a t) → Follows C (either p p') (either q q') (choose test r s) H K
follows_either {r = r} {s = s} test f g filled apart hit miss first_of_p first_of_q more_of_p more_of_q q_empty = record {
  fine = fine_either f.fine g.fine apart (λ a b d e. filled.never_empty a (f.below.derived [] a d)) first_of_p first_of_q more_of_p more_of_q (λ a t d e. absurd (filled.never_empty a (f.below.derived [] a d))) (λ a t d. q_empty a t (g.below.derived [] a d));
  wide = fine_either f.wide g.wide apart (λ a b d e. filled.never_empty a d) first_of_p first_of_q more_of_p more_of_q (λ a t d e. absurd (filled.never_empty a d)) q_empty;
  below = below_either f.below g.below;
  takes = λ c ts. record { holds = answers_choose f.wide g.wide f.below g.below test r s filled.never_empty apart (hit c) miss ts (f.takes c ts).holds (g.takes c ts).holds };
}

pub follows_many : {C : Type 0} {S T A : Type 0} {p q : S → Part T A} {r : S → List T → Outcome T A} {F : S → T → Type 0} {M : S → A → T → Type 0} {N : T → Type 0} (next : S → A → S) (test : S → T → Bool) → ((s : S) → Follows C (p s) (q s) (r s) (F s) (M s)) → ((s : S) → Filled (q s)) → (apart : (s : S) (a : A) (t : T) → M s a t → F (next s a) t → ⊥) → (more_of_item : (s : S) (a : A) (t : T) → M s a t → N t) → (more_of_next : (s : S) (t : T) → F s t → N t) → (C → (s : S) (t : T) → test s t ≡ true → (q s).begins (t ∷ [])) → ((s : S) (t : T) → test s t ≡ false → F s t → ⊥) → (s : S) → Follows C (many p next s) (many q next s) (λ ts. take_many test r next (length ts) s ts) (F s) (λ items t. N t)
follows_many {r = r} next test f filled apart more_of_item more_of_next hit miss s = record {
  fine = fine_many (λ u. (f u).fine) (λ u a d. (filled u).never_empty a ((f u).below.derived [] a d)) apart more_of_item more_of_next s;
  wide = fine_many (λ u. (f u).wide) (λ u. (filled u).never_empty) apart more_of_item more_of_next s;
  below = below_many (λ u. (f u).fine) (λ u. (f u).wide) (λ u. (f u).below) (λ u. (filled u).never_empty) apart more_of_item more_of_next s;
  takes = λ c ts. record { holds = answers_many (λ u. (f u).fine) (λ u. (f u).wide) (λ u. (f u).below) (λ u. (filled u).never_empty) apart more_of_item more_of_next test r (hit c) miss (λ u l. ((f u).takes c l).holds) (length ts) s ts (le_refl _) };
}
