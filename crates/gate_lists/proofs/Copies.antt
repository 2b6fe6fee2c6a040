-- Copies of lists.
use Rattle.std.proofs.Common.{◌≡◌, ℕ, ℤ, pos, negsuc, ◌<ℤ◌, zero, suc, ◌+◌, ◌-◌, ◌*◌, ◌<◌, ◌≤◌, List, [], ◌++◌, map, length, All, Ok, refl, sym, ap, ◌∙◌, append_assoc, arith}
use Rattle.std.proofs.lemmas.Int.{ints}
use Rattle.std.proofs.lemmas.List.{append-nil, map-append, length-append, length-map}
use Rattle.std.proofs.lemmas.List.Elements.{All-append, All-same}
use Rattle.qq_base.specs.declared.refusal.Fault.{Fault}
use Rattle.qq_base.specs.declared.refusal.Span.{Span}
use Rattle.qq_base.specs.declared.rule.Rule.TheVariants.{TooLarge}
use Rattle.const_eval.specs.Refusing.{refused}
use Rattle.const_eval.specs.Answers.{Fails}
use Rattle.const_eval.specs.Walk.{asked}
use Rattle.gate_lists.specs.declared.budget.Budget.{Budget}
use Rattle.gate_lists.specs.declared.member.Member.{Member}
use Rattle.gate_lists.specs.Amounts.{IsNamed}
use Rattle.gate_lists.specs.Instructions.{Instruction, copies_of, copied_list, inverse_list, power_list}
use Rattle.gate_lists.specs.Members.{instruction_in, instructions_in, AreNamed}
use Rattle.gate_lists.specs.Paid.{paid_from, paid_behind, paid_behind_stops, paid_asked, fails_then, fails_asked}

-- a copy behind the others is one in front of them
pub one_more_copy : {A : Type 0} (n : ℕ) (xs : List A) → copies_of n xs ++ xs ≡ copies_of (suc n) xs
one_more_copy zero xs = sym (append-nil xs)
one_more_copy (suc n) xs = append_assoc xs (copies_of n xs) xs ∙ ap (λ ys. xs ++ ys) (one_more_copy n xs)

pub map-copies_of : {A B : Type 0} (f : A → B) (n : ℕ) (xs : List A) → map f (copies_of n xs) ≡ copies_of n (map f xs)
map-copies_of f zero xs = refl
map-copies_of f (suc n) xs = map-append f xs (copies_of n xs) ∙ ap (λ ys. map f xs ++ ys) (map-copies_of f n xs)

pub length-copies_of : {A : Type 0} (n : ℕ) (xs : List A) → length (copies_of n xs) ≡ n * length xs
length-copies_of zero xs = omega arith
length-copies_of (suc n) xs = length-append xs (copies_of n xs) ∙ omega (arith, length-copies_of n xs)

pub All-copies_of : {A : Type 0} (P : A → Type 0) (n : ℕ) (xs : List A) → All P xs → All P (copies_of n xs)
All-copies_of P zero xs all = λ i d lt. absurd (omega arith)
All-copies_of P (suc n) xs all = All-append P xs (copies_of n xs) all (All-copies_of P n xs all)

-- fewer copies cost less
pub fewer_copies : (k n size : ℕ) → k < n → k * size + size ≤ n * size
fewer_copies zero zero size lt = absurd (omega arith)
fewer_copies zero (suc n) size lt = omega arith
fewer_copies (suc k) zero size lt = absurd (omega arith)
fewer_copies (suc k) (suc n) size lt = omega (arith, fewer_copies k n size (omega arith))

-- ---- a loop that makes copies: so many are made and paid

pub record IsCopied (first now : Budget) (list copies : List Member) (k : ℕ) : Type 0 where
  pub repeated : copies ≡ copies_of k list
  pub place : now.place ≡ first.place
  pub left : now.left + k * (1 + length list) ≡ first.left

same_budget : (a b : Budget) → a.left ≡ b.left → a.place ≡ b.place → a ≡ b
same_budget a b left place =
    ap (λ (n : ℕ). record { left = n; place = a.place }) left ∙ ap (λ (p : Span). record { left = b.left; place = p }) place

pub copied_none : (first : Budget) (list : List Member) → IsCopied first first list [] 0
copied_none first list = record { repeated = refl; place = refl; left = omega arith }

pub copied_more : (first now next : Budget) (list copies : List Member) (k : ℕ) → IsCopied first now list copies k → 1 + length list ≤ now.left
    → next ≡ record { left = now.left - (1 + length list); place = now.place } → IsCopied first next list (copies ++ list) (k + 1)
copied_more first now next list copies k so paid is =
    let step : k + 1 ≡ suc k = omega arith in
    let product : (k + 1) * (1 + length list) ≡ k * (1 + length list) + (1 + length list) = one_more k (1 + length list) in
    let rest : next.left ≡ now.left - (1 + length list) = ap (λ (b : Budget). b.left) is in
    let before : now.left + k * (1 + length list) ≡ first.left = so.left in
    record {
      repeated = ap (λ (xs : List Member). xs ++ list) so.repeated ∙ one_more_copy k list ∙ ap (λ n. copies_of n list) (sym step);
      place = ap (λ (b : Budget). b.place) is ∙ so.place;
      left = omega (arith, product, rest, before);
    }
  where
    one_more : (k size : ℕ) → (k + 1) * size ≡ k * size + size
    one_more k size = omega arith

pub copied_all : (first now : Budget) (list copies : List Member) (n : ℕ) → IsCopied first now list copies n
    → (worths : ℕ → ℤ) → paid_from first (copied_list n (instructions_in worths list)) ≡ Ok (instructions_in worths copies, now)
copied_all first now list copies n so worths =
    let is = instructions_in worths list in
    let size : length is ≡ length list = length-map list (instruction_in worths) in
    let cost : n * (1 + length is) ≡ n * (1 + length list) = ap (λ m. n * (1 + m)) size in
    let before : now.left + n * (1 + length list) ≡ first.left = so.left in
    let paid : n * (1 + length is) ≤ first.left = omega (arith, cost, before) in
    let left : first.left - n * (1 + length is) ≡ now.left = omega (arith, cost, before) in
    let rest : record { left = first.left - n * (1 + length is); place = first.place } ≡ now = same_budget (record { left = first.left - n * (1 + length is); place = first.place }) now left (sym so.place) in
    let made : copies_of n is ≡ instructions_in worths copies = sym (map-copies_of (instruction_in worths) n list) ∙ ap (λ (xs : List Member). instructions_in worths xs) (sym so.repeated) in
    paid_behind first (n * (1 + length is)) (asked (Ok (copies_of n is))) paid
    ∙ paid_asked (record { left = first.left - n * (1 + length is); place = first.place }) (copies_of n is)
    ∙ ap (λ (xs : List Instruction). Ok (xs, record { left = first.left - n * (1 + length is); place = first.place })) made
    ∙ ap (λ (b : Budget). Ok (instructions_in worths copies, b)) rest

pub copied_refused : (first now : Budget) (list copies : List Member) (k n : ℕ) → IsCopied first now list copies k → k < n → now.left < 1 + length list
    → (worths : ℕ → ℤ) → paid_from first (copied_list n (instructions_in worths list)) ≡ refused TooLarge now.place
copied_refused first now list copies k n so lt passed worths =
    let is = instructions_in worths list in
    let size : length is ≡ length list = length-map list (instruction_in worths) in
    let cost : n * (1 + length is) ≡ n * (1 + length list) = ap (λ m. n * (1 + m)) size in
    let before : now.left + k * (1 + length list) ≡ first.left = so.left in
    let fewer : k * (1 + length list) + (1 + length list) ≤ n * (1 + length list) = fewer_copies k n (1 + length list) lt in
    let above : first.left < n * (1 + length is) = omega (arith, cost, before, fewer) in
    paid_behind_stops first (n * (1 + length is)) (asked (Ok (copies_of n is))) above
    ∙ ap (λ (p : Span). refused TooLarge p) (sym so.place)

-- the copies and what is left are not more than what there was
pub copied_paid : (first now : Budget) (list copies : List Member) (n : ℕ) → IsCopied first now list copies n → now.left + length copies ≤ first.left
copied_paid first now list copies n so =
    let before : now.left + n * (1 + length list) ≡ first.left = so.left in
    let long : length copies ≡ n * length list = ap (λ (xs : List Member). length xs) so.repeated ∙ length-copies_of n list in
    let apart : n * (1 + length list) ≡ n + n * length list = spread n (length list) in
    omega (arith, before, long, apart)
  where
    spread : (n m : ℕ) → n * (1 + m) ≡ n + n * m
    spread n m = omega arith

pub copied_named : (first now : Budget) (list copies : List Member) (n : ℕ) → IsCopied first now list copies n
    → (turns : ℕ) → AreNamed turns list → AreNamed turns copies
copied_named first now list copies n so turns all =
    let P : Member → Type 0 = λ (m : Member). All (IsNamed turns) m.args in
    All-same P copies (copies_of n list) so.repeated (All-copies_of P n list all)

-- a negative power is refused where the inverse is
pub power_fails : (b : Budget) (place : Span) (k : ℤ) (is : List Instruction) (why : Fault) → k <ℤ pos 0 → Fails why (inverse_list place is)
    → Fails why (paid_from b (power_list place k is))
power_fails b place (pos n) is why below e = absurd (omega (arith, ints))
power_fails b place (negsuc n) is why below e = fails_then b (asked (inverse_list place is)) (copied_list (suc n)) why (fails_asked b (inverse_list place is) why e)
