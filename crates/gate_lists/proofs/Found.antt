-- Lists of instructions that are made one by one from the rows of the table.
use Rattle.std.proofs.Common.{◌≡◌, All, ℕ, suc, ◌+◌, ◌<◌, ◌≤◌, List, [], ◌∷◌, ◌++◌, map, length, drop, get_or, reverse, Option, Some, None, ℤ, Result, Ok, Err, refl, sym, ap, subst, ◌∙◌, append_assoc, add-one, arith}
use Rattle.std.proofs.lemmas.List.{append-nil, map-append, length-append, reverse-append}
use Rattle.std.proofs.lemmas.List.Elements.{All-append, All-cons, All-get_or}
use Rattle.std.proofs.Math.ListN.{drop_of_length-le}
use Rattle.std.proofs.Math.Seq.{drop-cons}
use Rattle.qq_base.specs.declared.refusal.Refusal.{Refusal}
use Rattle.qq_base.specs.declared.refusal.Span.{Span}
use Rattle.qq_base.specs.declared.rule.Rule.{Rule}
use Rattle.const_eval.specs.Refusing.{go_on, refused}
use Rattle.gate_lists.specs.declared.member.Member.{Member}
use Rattle.gate_lists.specs.Instructions.{Instruction, each_by_row}
use Rattle.gate_lists.specs.Members.{instruction_in, instructions_in, AreNamed}
use Rattle.gate_lists.specs.Amounts.{IsNamed}

-- what was found already, in front of an answer
abbrev pub behind : List Instruction → Result (List Instruction) Refusal → Result (List Instruction) Refusal
behind found answer = go_on answer (λ later. Ok (found ++ later))

behind_first : (found : List Instruction) (j : Instruction) (answer : Result (List Instruction) Refusal)
    → behind found (go_on answer (λ later. Ok (j ∷ later))) ≡ behind (found ++ j ∷ []) answer
behind_first found j (Ok later) = ap Ok (sym (append_assoc found (j ∷ []) later))
behind_first found j (Err e) = refl

pub behind_nothing : (answer : Result (List Instruction) Refusal) → behind [] answer ≡ answer
behind_nothing (Ok later) = refl
behind_nothing (Err e) = refl

module _ (rule : Rule) (place : Span) (f : Instruction → Option Instruction) (worths : ℕ → ℤ) where
  abbrev pub made_from : List Member → Result (List Instruction) Refusal
  made_from members = each_by_row rule place f (instructions_in worths members)

  first_made : (found : List Instruction) (i j : Instruction) (is : List Instruction) → f i ≡ Some j
      → behind found (each_by_row rule place f (i ∷ is)) ≡ behind (found ++ j ∷ []) (each_by_row rule place f is)
  first_made found i j is e = rw e (behind_first found j (each_by_row rule place f is))

  first_refused : (found : List Instruction) (i : Instruction) (is : List Instruction) → f i ≡ None
      → behind found (each_by_row rule place f (i ∷ is)) ≡ refused rule place
  first_refused found i is e = rw e refl

  -- one member more
  pub more_made : (members : List Member) (found : List Instruction) (k : ℕ) (d : Member) (j : Instruction) → k < length members
      → f (instruction_in worths (get_or members k d)) ≡ Some j
      → behind found (made_from (drop k members)) ≡ behind (found ++ j ∷ []) (made_from (drop (k + 1) members))
  more_made members found k d j lt e =
      rw (drop-cons members k d lt, add-one k) (first_made found (instruction_in worths (get_or members k d)) j (instructions_in worths (drop (suc k) members)) e)

  -- a member that has no row
  pub none_made : (members : List Member) (found : List Instruction) (k : ℕ) (d : Member) → k < length members
      → f (instruction_in worths (get_or members k d)) ≡ None
      → behind found (made_from (drop k members)) ≡ refused rule place
  none_made members found k d lt e =
      rw (drop-cons members k d lt) (first_refused found (instruction_in worths (get_or members k d)) (instructions_in worths (drop (suc k) members)) e)

  pub all_made : (members : List Member) (found : List Instruction) (k : ℕ) → length members ≤ k
      → behind found (made_from (drop k members)) ≡ Ok found
  all_made members found k le = rw (drop_of_length-le members le) (ap Ok (append-nil found))

-- ---- a loop over the members of a list: so many are changed

pub record IsMade (rule : Rule) (place : Span) (f : Instruction → Option Instruction) (list made : List Member) (k : ℕ) : Type 0 where
  pub exact : (worths : ℕ → ℤ) → behind (instructions_in worths made) (made_from rule place f worths (drop k list)) ≡ made_from rule place f worths list
  pub named : (turns : ℕ) → AreNamed turns list → AreNamed turns made
  pub count : length made ≡ k

pub made_none : (rule : Rule) (place : Span) (f : Instruction → Option Instruction) (list : List Member) → IsMade rule place f list [] 0
made_none rule place f list = record {
  exact = λ worths. behind_nothing (made_from rule place f worths list);
  named = λ turns all i d lt. absurd (omega arith);
  count = refl;
}

pub made_one_more : (rule : Rule) (place : Span) (f : Instruction → Option Instruction) (list made : List Member) (k : ℕ) (x y : Member)
    → IsMade rule place f list made k → k < length list → x ≡ get_or list k x
    → ((worths : ℕ → ℤ) → f (instruction_in worths x) ≡ Some (instruction_in worths y))
    → ((turns : ℕ) → All (IsNamed turns) x.args → All (IsNamed turns) y.args)
    → IsMade rule place f list (made ++ y ∷ []) (k + 1)
made_one_more rule place f list made k x y so lt at is named = record {
  exact = λ worths. rw (map-append (instruction_in worths) made (y ∷ [])) (sym (more_made rule place f worths list (instructions_in worths made) k x (instruction_in worths y) lt (ap (λ (m : Member). f (instruction_in worths m)) (sym at) ∙ is worths)) ∙ so.exact worths);
  named = λ turns all. All-append (λ (m : Member). All (IsNamed turns) m.args) made (y ∷ []) (so.named turns all) (one turns (named turns (there turns (All-get_or (λ (m : Member). All (IsNamed turns) m.args) list k x lt all))));
  count = length-append made (y ∷ []) ∙ ap (λ n. n + 1) so.count;
}
  where
    there : (turns : ℕ) → All (IsNamed turns) (get_or list k x).args → All (IsNamed turns) x.args
    there turns all = let P : Member → Type 0 = λ (m : Member). All (IsNamed turns) m.args in subst P (sym at) all

    one : (turns : ℕ) → All (IsNamed turns) y.args → AreNamed turns (y ∷ [])
    one turns all = All-cons (λ (m : Member). All (IsNamed turns) m.args) y [] all (λ i e lt. absurd (omega arith))

pub made_refused : (rule : Rule) (place : Span) (f : Instruction → Option Instruction) (list made : List Member) (k : ℕ) (x : Member)
    → IsMade rule place f list made k → k < length list → x ≡ get_or list k x
    → (worths : ℕ → ℤ) → f (instruction_in worths x) ≡ None
    → made_from rule place f worths list ≡ refused rule place
made_refused rule place f list made k x so lt at worths is =
    sym (so.exact worths) ∙ none_made rule place f worths list (instructions_in worths made) k x lt (ap (λ (m : Member). f (instruction_in worths m)) (sym at) ∙ is)

pub made_all : (rule : Rule) (place : Span) (f : Instruction → Option Instruction) (list made : List Member) (k : ℕ)
    → IsMade rule place f list made k → length list ≤ k
    → (worths : ℕ → ℤ) → made_from rule place f worths list ≡ Ok (instructions_in worths made)
made_all rule place f list made k so le worths = sym (so.exact worths) ∙ all_made rule place f worths list (instructions_in worths made) k le

-- ---- lists in reverse order

map-reverse : (f : Member → Instruction) (xs : List Member) → map f (reverse xs) ≡ reverse (map f xs)
map-reverse f [] = refl
map-reverse f (x ∷ xs) =
    ap (map f) (reverse-append (x ∷ []) xs) ∙ map-append f (reverse xs) (x ∷ []) ∙ ap (λ ys. ys ++ f x ∷ []) (map-reverse f xs) ∙ sym (reverse-append (f x ∷ []) (map f xs))

pub reversed_all : (worths : ℕ → ℤ) (answer : Result (List Instruction) Refusal) (made turned : List Member) → answer ≡ Ok (instructions_in worths made) → turned ≡ reverse made
    → go_on answer (λ js. Ok (reverse js)) ≡ Ok (instructions_in worths turned)
reversed_all worths answer made turned e t =
    ap (λ r. go_on r (λ js. Ok (reverse js))) e ∙ ap Ok (sym (ap (map (instruction_in worths)) t ∙ map-reverse (instruction_in worths) made))
