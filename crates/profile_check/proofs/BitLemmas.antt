-- Bits of words, and the words of a round.
use Rattle.std.proofs.Common.{◌≡◌, ℕ, zero, suc, ◌+◌, ◌*◌, ◌%◌, ◌^◌, ◌<◌, ◌≤◌, nat_eq, nat_lt, Bool, true, false, not, ◌&&◌, ◌||◌, cond, if◌then◌else◌, List, [], ◌∷◌, ◌++◌, length, filter, take, get_or, Option, Some, refl, ap, sym, ◌∙◌, arith, inl, inr, eq-eqb, lt-ltb, map, append-nil}
use Rattle.std.proofs.lemmas.Bool.{ne_eqb, false≢true, le-ltb, cases_lt}
use Rattle.std.proofs.lemmas.Bool.Decides.{eqb_tells}
use Rattle.std.proofs.lemmas.Nat.{and_le_l}
use Rattle.std.proofs.lemmas.Nat.Bits.{bit_at-zero, bit_at_or, bit_at_and, bit_at-lt, bit_at_ones, bit_at_set_same, bit_at_set_other, same_from_bits_below}
use Rattle.std.proofs.lemmas.List.{get_or_append_left, get_or_push, length_push, get_or-set_same, get_or-set_other, get_or_past}
use Rattle.std.proofs.lemmas.Option.{slice_get-get_or}
use Rattle.std.proofs.Math.ListN.{set}
use Rattle.std.proofs.lemmas.List.Elements.{filter_more}
use Rattle.std.proofs.lemmas.List.Folds.{list_any_more, list_all-append}
use Rattle.std.specs.Prelude.{bit_and, bit_or, min, max}
use Rattle.std.specs.Int.{w64, bit_at}
use Rattle.std.specs.List.{list_all}
use Rattle.qir_module.specs.declared.block.Block.{Block}
use Rattle.qir_module.specs.Numbered.{counted}
use Rattle.qir_module.specs.Carried.{is_way, earlier, is_empty, carried_within}
use Rattle.profile_check.specs.declared.rounds.Use.{Use}
use Rattle.profile_check.specs.declared.jumps.Jump.{Jump}
use Rattle.profile_check.specs.Ways.{Rows, row, AreWays}
use Rattle.profile_check.specs.Rounds.{is_assigning, is_bit, has_bit, assigns_bit, round_assigns, HoldsBits, meets, carried_bit, jump_keeps, jump_kept, within, use_kept, is_lost, lost_uses, lost_jumps, lost_in_round}
use Rattle.profile_check.specs.First.{first_among}
use Rattle.profile_check.specs.declared.place.Place.{Place}
use Rattle.profile_check.specs.declared.mentions.How.{How}
use Rattle.profile_check.specs.declared.mentions.How.TheVariants.{Assigned, Read, Entry}
use Rattle.profile_check.proofs.FirstLemmas.{among-append}
use Rattle.profile_check.proofs.NameLemmas.{earlier_ways}

-- ---- one bit

pub zero_bit : (j : ℕ) → is_bit 0 j ≡ false
zero_bit j = ap (λ (n : ℕ). nat_eq n 1) (bit_at-zero j)

pub ones_bit : (j : ℕ) → j < 64 → is_bit 0xffff_ffff_ffff_ffff j ≡ true
ones_bit j within = ap (λ (n : ℕ). nat_eq n 1) (bit_at_ones 64 j within)

one_max : (x y : ℕ) → x < 2 → y < 2 → nat_eq (max x y) 1 ≡ (nat_eq x 1 || nat_eq y 1)
one_max zero zero a b = refl
one_max zero (suc zero) a b = refl
one_max (suc zero) zero a b = refl
one_max (suc zero) (suc zero) a b = refl
one_max (suc (suc x)) y a b = absurd (omega arith)
one_max zero (suc (suc y)) a b = absurd (omega arith)
one_max (suc zero) (suc (suc y)) a b = absurd (omega arith)

one_min : (x y : ℕ) → x < 2 → y < 2 → nat_eq (min x y) 1 ≡ (nat_eq x 1 && nat_eq y 1)
one_min zero zero a b = refl
one_min zero (suc zero) a b = refl
one_min (suc zero) zero a b = refl
one_min (suc zero) (suc zero) a b = refl
one_min (suc (suc x)) y a b = absurd (omega arith)
one_min zero (suc (suc y)) a b = absurd (omega arith)
one_min (suc zero) (suc (suc y)) a b = absurd (omega arith)

pub or_bit : (a b j : ℕ) → is_bit (bit_or a b) j ≡ (is_bit a j || is_bit b j)
or_bit a b j = ap (λ (n : ℕ). nat_eq n 1) (bit_at_or a b j) ∙ one_max (bit_at a j) (bit_at b j) (bit_at-lt a j) (bit_at-lt b j)

pub and_bit : (a b j : ℕ) → is_bit (bit_and a b) j ≡ (is_bit a j && is_bit b j)
and_bit a b j = ap (λ (n : ℕ). nat_eq n 1) (bit_at_and a b j) ∙ one_min (bit_at a j) (bit_at b j) (bit_at-lt a j) (bit_at-lt b j)

or_true : (t : Bool) → (t || true) ≡ true
or_true true = refl
or_true false = refl

or_false : (t : Bool) → (t || false) ≡ t
or_false true = refl
or_false false = refl

pub set_bit : (word k j : ℕ) → k < 64 → is_bit (bit_or word (1 * 2 ^ k % 2 ^ 64)) j ≡ (is_bit word j || nat_eq k j)
set_bit word k j within = elim (eqb_tells k j) [
  | inl same ↦
      ap (λ (i : ℕ). is_bit (bit_or word (1 * 2 ^ k % 2 ^ 64)) i) (sym same.1)
      ∙ ap (λ (n : ℕ). nat_eq n 1) (bit_at_set_same w64 word k within)
      ∙ sym (ap (λ (t : Bool). is_bit word j || t) same.0 ∙ or_true (is_bit word j))
  | inr other ↦
      ap (λ (n : ℕ). nat_eq n 1) (bit_at_set_other w64 word k within j (λ e. other.1 (sym e)))
      ∙ sym (ap (λ (t : Bool). is_bit word j || t) other.0 ∙ or_false (is_bit word j))
]

-- ---- words that have all bits of others

pub all_counted : (p : ℕ → Bool) (k n : ℕ) → list_all p (counted k n) ≡ true → (j : ℕ) → k ≤ j → j < k + n → p j ≡ true
all_counted p k zero all j low high = absurd (omega arith)
all_counted p k (suc n) all j low high =
    let parts = both_true (p k) (list_all p (counted (suc k) n)) all in
    elim (eqb_tells k j) [
      | inl same ↦ ap p (sym same.1) ∙ parts.0
      | inr other ↦
          let above : suc k ≤ j = omega (arith, other.1) in
          all_counted p (suc k) n parts.1 j above (omega arith)
    ]
  where
    both_true : (a b : Bool) → (a && b) ≡ true → (a ≡ true) × (b ≡ true)
    both_true true b e = (refl, e)
    both_true false b e = absurd (false≢true e)

pub counted_all : (p : ℕ → Bool) (k n : ℕ) → ((j : ℕ) → j < k + n → p j ≡ true) → list_all p (counted k n) ≡ true
counted_all p k zero each = refl
counted_all p k (suc n) each =
    ap (λ (t : Bool). t && list_all p (counted (suc k) n)) (each k (omega arith))
    ∙ counted_all p (suc k) n (λ j below. each j (omega arith))

keeps_min : (x y : ℕ) → x < 2 → y < 2 → (not (nat_eq x 1) || nat_eq y 1) ≡ true → min x y ≡ x
keeps_min zero y a b kept = omega arith
keeps_min (suc zero) (suc zero) a b kept = refl
keeps_min (suc zero) zero a b kept = absurd (false≢true kept)
keeps_min (suc (suc x)) y a b kept = absurd (omega arith)
keeps_min (suc zero) (suc (suc y)) a b kept = absurd (omega arith)

kept_bit : (a b : Bool) → (a && b) ≡ a → (not a || b) ≡ true
kept_bit true b e = e
kept_bit false b e = refl

pub word_kept : (wanted left : ℕ) → wanted < 2 ^ 64 → nat_eq (bit_and wanted left) wanted ≡ list_all (λ j. not (is_bit wanted j) || is_bit left j) (counted 0 64)
word_kept wanted left small = decide (list_all (λ j. not (is_bit wanted j) || is_bit left j) (counted 0 64)) refl
  where
    test : ℕ → Bool
    test = λ j. not (is_bit wanted j) || is_bit left j

    decide : (t : Bool) → list_all test (counted 0 64) ≡ t → nat_eq (bit_and wanted left) wanted ≡ t
    decide true all =
        let fits : bit_and wanted left < 2 ^ 64 = omega (arith, and_le_l wanted left) in
        eq-eqb (bit_and wanted left) wanted (same_from_bits_below 64 (bit_and wanted left) wanted fits small (λ j within.
        bit_at_and wanted left j ∙ keeps_min (bit_at wanted j) (bit_at left j) (bit_at-lt wanted j) (bit_at-lt left j) (all_counted test 0 64 all j (omega arith) (omega arith))))
    decide false none = ne_eqb (bit_and wanted left) wanted (λ same.
        let all : list_all test (counted 0 64) ≡ true = counted_all test 0 64 (λ j below.
        kept_bit (is_bit wanted j) (is_bit left j) (sym (and_bit wanted left j) ∙ ap (λ (n : ℕ). is_bit n j) same)) in
        false≢true (sym none ∙ all))

-- ---- what the uses of a round assign

pub bits_added : (old new : List ℕ) (count : ℕ) (uses : List Use) (i : ℕ) (u : Use) → i < length uses → u ≡ get_or uses i u → HoldsBits old count (round_assigns (take i uses))
    → is_assigning u.mention.how ≡ true → length new ≡ length old → ((b j : ℕ) → b < length old → j < 64 → has_bit new b j ≡ (has_bit old b j || (nat_eq u.block b && nat_eq (u.slot % 64) j)))
    → HoldsBits new count (round_assigns (take (i + 1) uses))
bits_added old new count uses i u within is holds assigns long grown = record {
  long = long ∙ holds.long;
  each = λ b j below small.
      let inside : b < length old = omega (arith, holds.long) in
      grown b j inside small
      ∙ ap (λ (t : Bool). t || (nat_eq u.block b && nat_eq (u.slot % 64) j)) (holds.each b j below small)
      ∙ ap (λ (t : Bool). round_assigns (take i uses) b j || (t && nat_eq u.block b && nat_eq (u.slot % 64) j)) (sym assigns)
      ∙ ap (λ (v : Use). round_assigns (take i uses) b j || assigns_bit b j v) is
      ∙ sym (list_any_more (assigns_bit b j) uses i u within);
}

pub bits_kept : (words : List ℕ) (count : ℕ) (uses : List Use) (i : ℕ) (u : Use) → i < length uses → u ≡ get_or uses i u → HoldsBits words count (round_assigns (take i uses))
    → is_assigning u.mention.how ≡ false → HoldsBits words count (round_assigns (take (i + 1) uses))
bits_kept words count uses i u within is holds reads = record {
  long = holds.long;
  each = λ b j below small.
      holds.each b j below small
      ∙ sym (or_false (round_assigns (take i uses) b j))
      ∙ ap (λ (t : Bool). round_assigns (take i uses) b j || (t && nat_eq u.block b && nat_eq (u.slot % 64) j)) (sym reads)
      ∙ ap (λ (v : Use). round_assigns (take i uses) b j || assigns_bit b j v) is
      ∙ sym (list_any_more (assigns_bit b j) uses i u within);
}

-- ---- what all earlier predecessors leave

is_empty-push : (xs : List ℕ) (x : ℕ) → is_empty (xs ++ x ∷ []) ≡ false
is_empty-push [] x = refl
is_empty-push (y ∷ ys) x = refl

and_true : (t : Bool) → (t && true) ≡ t
and_true true = refl
and_true false = refl

earlier_more : (block : ℕ) (before : List ℕ) (i x : ℕ) → i < length before → x ≡ get_or before i 0 → nat_lt x block ≡ true → filter (λ q. nat_lt q block) (take (i + 1) before) ≡ filter (λ q. nat_lt q block) (take i before) ++ x ∷ []
earlier_more block before i x within is below =
    filter_more (λ q. nat_lt q block) before i 0 within
    ∙ ap (λ (y : ℕ). filter (λ q. nat_lt q block) (take i before) ++ cond (nat_lt y block) (y ∷ []) []) (sym is)
    ∙ ap (λ (t : Bool). filter (λ q. nat_lt q block) (take i before) ++ cond t (x ∷ []) []) below

pub later_more : (block : ℕ) (before : List ℕ) (i x : ℕ) → i < length before → x ≡ get_or before i 0 → nat_lt x block ≡ false → filter (λ q. nat_lt q block) (take (i + 1) before) ≡ filter (λ q. nat_lt q block) (take i before)
later_more block before i x within is past =
    filter_more (λ q. nat_lt q block) before i 0 within
    ∙ ap (λ (y : ℕ). filter (λ q. nat_lt q block) (take i before) ++ cond (nat_lt y block) (y ∷ []) []) (sym is)
    ∙ ap (λ (t : Bool). filter (λ q. nat_lt q block) (take i before) ++ cond t (x ∷ []) []) past
    ∙ append-nil (filter (λ q. nat_lt q block) (take i before))

pub entered_more : (block : ℕ) (before : List ℕ) (i x : ℕ) → i < length before → x ≡ get_or before i 0 → nat_lt x block ≡ true → true ≡ not (is_empty (filter (λ q. nat_lt q block) (take (i + 1) before)))
entered_more block before i x within is below =
    sym (ap (λ (xs : List ℕ). not (is_empty xs)) (earlier_more block before i x within is below) ∙ ap not (is_empty-push (filter (λ q. nat_lt q block) (take i before)) x))

pub met_more : (carried assigned : List ℕ) (block : ℕ) (before : List ℕ) (i x met j : ℕ) → i < length before → x ≡ get_or before i 0 → nat_lt x block ≡ true
    → is_bit met j ≡ list_all (λ p. has_bit carried p j || has_bit assigned p j) (filter (λ q. nat_lt q block) (take i before))
    → is_bit (bit_and met (bit_or (get_or carried x 0) (get_or assigned x 0))) j ≡ list_all (λ p. has_bit carried p j || has_bit assigned p j) (filter (λ q. nat_lt q block) (take (i + 1) before))
met_more carried assigned block before i x met j within is below holds =
    let p = λ (q : ℕ). has_bit carried q j || has_bit assigned q j in
    let front = filter (λ q. nat_lt q block) (take i before) in
    and_bit met (bit_or (get_or carried x 0) (get_or assigned x 0)) j
    ∙ ap (λ (t : Bool). is_bit met j && t) (or_bit (get_or carried x 0) (get_or assigned x 0) j)
    ∙ ap (λ (t : Bool). t && p x) holds
    ∙ ap (λ (t : Bool). list_all p front && t) (sym (and_true (p x)))
    ∙ sym (list_all-append p front (x ∷ []))
    ∙ ap (list_all p) (sym (earlier_more block before i x within is below))

-- ---- what is carried, block by block

all_same_below : (test f g : ℕ → Bool) (o n : ℕ) → ((p : ℕ) → p < o + n → f p ≡ g p) → list_all f (filter test (counted o n)) ≡ list_all g (filter test (counted o n))
all_same_below test f g o zero same = refl
all_same_below test f g o (suc n) same = elim (test o) as (λ t. list_all f (cond t (o ∷ filter test (counted (suc o) n)) (filter test (counted (suc o) n))) ≡ list_all g (cond t (o ∷ filter test (counted (suc o) n)) (filter test (counted (suc o) n)))) [
  | true ↦
      ap (λ (t : Bool). t && list_all f (filter test (counted (suc o) n))) (same o (omega arith))
      ∙ ap (λ (t : Bool). g o && t) (all_same_below test f g (suc o) n (λ p below. same p (omega arith)))
  | false ↦ all_same_below test f g (suc o) n (λ p below. same p (omega arith))
]

-- the bound on the recursion does not matter
pub carried_bound : (blocks : List Block) (assigned : ℕ → Bool) (n m b : ℕ) → b < n → b < m → carried_within (earlier blocks) assigned n b ≡ carried_within (earlier blocks) assigned m b
carried_bound blocks assigned zero m b low high = absurd (omega arith)
carried_bound blocks assigned (suc n) zero b low high = absurd (omega arith)
carried_bound blocks assigned (suc n) (suc m) b low high =
    ap (λ (t : Bool). if is_empty (earlier blocks b) then false else t)
    (all_same_below (λ p. is_way blocks p b) (λ p. carried_within (earlier blocks) assigned n p || assigned p) (λ p. carried_within (earlier blocks) assigned m p || assigned p) 0 b (λ p below.
    ap (λ (t : Bool). t || assigned p) (carried_bound blocks assigned n m p (omega arith) (omega arith))))

pub carried_meets : (blocks : List Block) (assigned : ℕ → Bool) (b : ℕ)
    → carried_within (earlier blocks) assigned (suc b) b ≡ (if is_empty (earlier blocks b) then false else list_all (λ p. carried_within (earlier blocks) assigned (suc p) p || assigned p) (earlier blocks b))
carried_meets blocks assigned b =
    ap (λ (t : Bool). if is_empty (earlier blocks b) then false else t)
    (all_same_below (λ p. is_way blocks p b) (λ p. carried_within (earlier blocks) assigned b p || assigned p) (λ p. carried_within (earlier blocks) assigned (suc p) p || assigned p) 0 b (λ p below.
    ap (λ (t : Bool). t || assigned p) (carried_bound blocks assigned b (suc p) p (omega arith) (omega arith))))

pub carried_step : (blocks : List Block) (rows : Rows) (words assigned : List ℕ) (k word : ℕ) → AreWays rows blocks → k < length blocks → HoldsBits words k (carried_bit blocks (has_bit assigned))
    → ((j : ℕ) → j < 64 → is_bit word j ≡ meets (has_bit words) (has_bit assigned) (filter (λ q. nat_lt q k) (row rows k)) j)
    → HoldsBits (words ++ word ∷ []) (k + 1) (carried_bit blocks (has_bit assigned))
carried_step blocks rows words assigned k word ways within holds met = record {
  long = length_push words word ∙ ap (λ (n : ℕ). n + 1) holds.long;
  each = λ b j below small. elim (eqb_tells b k) [
    | inl here ↦
        ap (λ (n : ℕ). has_bit (words ++ word ∷ []) n j) here.1
        ∙ ap (λ (n : ℕ). is_bit n j) (get_or_push words word 0 k holds.long)
        ∙ met j small
        ∙ ap (λ (ns : List ℕ). meets (has_bit words) (has_bit assigned) ns j) (ap (filter (λ q. nat_lt q k)) (ways.each k within) ∙ earlier_ways blocks k (omega arith))
        ∙ ap (λ (t : Bool). if is_empty (earlier blocks k) then false else t)
        (all_same_below (λ p. is_way blocks p k) (λ p. has_bit words p j || has_bit assigned p j) (λ p. carried_bit blocks (has_bit assigned) p j || has_bit assigned p j) 0 k (λ p lower.
        ap (λ (t : Bool). t || has_bit assigned p j) (holds.each p j (omega arith) small)))
        ∙ sym (carried_meets blocks (λ p. has_bit assigned p j) k)
        ∙ ap (λ (n : ℕ). carried_bit blocks (has_bit assigned) n j) (sym here.1)
    | inr other ↦
        let lower : b < k = omega (arith, other.1) in
        let inside : b < length words = omega (arith, holds.long) in
        ap (λ (n : ℕ). is_bit n j) (get_or_append_left words (word ∷ []) 0 b inside) ∙ holds.each b j lower small
  ];
}

-- ---- a bit that is set, and jumps that keep what is carried

pub get_or_any : {X : Type 0} (xs : List X) (i : ℕ) (d e : X) → i < length xs → get_or xs i d ≡ get_or xs i e
get_or_any xs i d e within =
    let both : Some (get_or xs i d) ≡ Some (get_or xs i e) = sym (slice_get-get_or xs i d within) ∙ slice_get-get_or xs i e within in
    cc

pub bit_set : (words : List ℕ) (block slot old : ℕ) → block < length words → old ≡ get_or words block old → (b j : ℕ) → b < length words → j < 64
    → has_bit (set words block (bit_or old (1 * 2 ^ (slot % 64) % 2 ^ 64))) b j ≡ (has_bit words b j || (nat_eq block b && nat_eq (slot % 64) j))
bit_set words block slot old within is b j below small =
    let k = slot % 64 in
    let new = bit_or old (1 * 2 ^ k % 2 ^ 64) in
    let low : k < 64 = omega arith in
    elim (eqb_tells block b) [
      | inl same ↦
          ap (λ (n : ℕ). is_bit n j) (ap (λ (n : ℕ). get_or (set words block new) n 0) (sym same.1) ∙ get_or-set_same words block new 0 within)
          ∙ set_bit old k j low
          ∙ ap (λ (n : ℕ). is_bit n j || nat_eq k j) (is ∙ get_or_any words block old 0 within ∙ ap (λ (n : ℕ). get_or words n 0) same.1)
          ∙ ap (λ (t : Bool). has_bit words b j || (t && nat_eq k j)) (sym same.0)
      | inr other ↦
          ap (λ (n : ℕ). is_bit n j) (get_or-set_other words block b new 0 (λ e. other.1 (sym e)))
          ∙ sym (or_false (has_bit words b j))
          ∙ ap (λ (t : Bool). has_bit words b j || (t && nat_eq k j)) (sym other.0)
    ]

all_same : (f g : ℕ → Bool) (ns : List ℕ) → ((n : ℕ) → f n ≡ g n) → list_all f ns ≡ list_all g ns
all_same f g [] same = refl
all_same f g (n ∷ ns) same = ap (λ (t : Bool). t && list_all f ns) (same n) ∙ ap (λ (t : Bool). g n && t) (all_same f g ns same)

pub jump_words : (carried assigned : List ℕ) (jump : Jump) (wanted a b : ℕ) → wanted ≡ get_or carried jump.to 0 → a ≡ get_or carried jump.at.block 0 → b ≡ get_or assigned jump.at.block 0 → wanted < 2 ^ 64
    → nat_eq (bit_and wanted (bit_or a b)) wanted ≡ jump_kept (has_bit carried) (has_bit assigned) jump
unfolding jump_kept
jump_words carried assigned jump wanted a b is_wanted is_a is_b small =
    word_kept wanted (bit_or a b) small
    ∙ all_same (λ j. not (is_bit wanted j) || is_bit (bit_or a b) j) (jump_keeps (has_bit carried) (has_bit assigned) jump) (counted 0 64) (λ j.
    ap (λ (t : Bool). not (is_bit wanted j) || t) (or_bit a b j)
    ∙ ap (λ (n : ℕ). not (is_bit n j) || (is_bit a j || is_bit b j)) is_wanted
    ∙ ap (λ (n : ℕ). not (has_bit carried jump.to j) || (is_bit n j || is_bit b j)) is_a
    ∙ ap (λ (n : ℕ). not (has_bit carried jump.to j) || (has_bit carried jump.at.block j || is_bit n j)) is_b)

-- ---- the words of a round

pub carried_same : (blocks : List Block) (f g : ℕ → Bool) (n b : ℕ) → ((p : ℕ) → p < b → f p ≡ g p) → carried_within (earlier blocks) f n b ≡ carried_within (earlier blocks) g n b
carried_same blocks f g zero b same = refl
carried_same blocks f g (suc n) b same =
    ap (λ (t : Bool). if is_empty (earlier blocks b) then false else t)
    (all_same_below (λ p. is_way blocks p b) (λ p. carried_within (earlier blocks) f n p || f p) (λ p. carried_within (earlier blocks) g n p || g p) 0 b (λ p below.
    let lower : p < b = omega arith in
    ap (λ (t : Bool). t || f p) (carried_same blocks f g n p (λ q deeper. same q (omega arith)))
    ∙ ap (λ (t : Bool). carried_within (earlier blocks) g n p || t) (same p lower)))

filter_same : {X : Type 0} (f g : X → Bool) (xs : List X) → ((x : X) → f x ≡ g x) → filter f xs ≡ filter g xs
filter_same f g [] same = refl
filter_same f g (x ∷ xs) same = ap (λ (t : Bool). cond t (x ∷ filter f xs) (filter f xs)) (same x) ∙ ap (λ (ys : List _). cond (g x) (x ∷ ys) ys) (filter_same f g xs same)

all_counted_same : (f g : ℕ → Bool) (k n : ℕ) → ((j : ℕ) → j < k + n → f j ≡ g j) → list_all f (counted k n) ≡ list_all g (counted k n)
all_counted_same f g k zero same = refl
all_counted_same f g k (suc n) same = ap (λ (t : Bool). t && list_all f (counted (suc k) n)) (same k (omega arith)) ∙ ap (λ (t : Bool). g k && t) (all_counted_same f g (suc k) n (λ j below. same j (omega arith)))

abbrev SameBits : (ℕ → ℕ → Bool) → (ℕ → ℕ → Bool) → Type 0
SameBits f g = (b j : ℕ) → j < 64 → f b j ≡ g b j

use_same : (c c' a a' : ℕ → ℕ → Bool) → SameBits c c' → SameBits a a' → (how : How) (b j : ℕ) → j < 64 → use_kept c a how b j ≡ use_kept c' a' how b j
use_same c c' a a' same_c same_a Assigned b j small = refl
use_same c c' a a' same_c same_a Read b j small = same_c b j small
use_same c c' a a' same_c same_a (Entry name) b j small = ap (λ (t : Bool). t || a b j) (same_c b j small) ∙ ap (λ (t : Bool). c' b j || t) (same_a b j small)

lost_use_same : (c c' a a' : ℕ → ℕ → Bool) → SameBits c c' → SameBits a a' → (u : Use) → is_lost c a u ≡ is_lost c' a' u
lost_use_same c c' a a' same_c same_a u =
    let small : u.slot % 64 < 64 = omega arith in
    ap not (use_same c c' a a' same_c same_a u.mention.how u.block (u.slot % 64) small)

jump_same : (c c' a a' : ℕ → ℕ → Bool) → SameBits c c' → SameBits a a' → (jump : Jump) → not (jump_kept c a jump) ≡ not (jump_kept c' a' jump)
unfolding jump_kept
jump_same c c' a a' same_c same_a jump = ap not (all_counted_same (jump_keeps c a jump) (jump_keeps c' a' jump) 0 64 (λ j small.
    let low : j < 64 = omega arith in
    let from = jump.at.block in
    ap (λ (t : Bool). not t || (c from j || a from j)) (same_c jump.to j low)
    ∙ ap (λ (t : Bool). not (c' jump.to j) || (t || a from j)) (same_c from j low)
    ∙ ap (λ (t : Bool). not (c' jump.to j) || (c' from j || t)) (same_a from j low)))

pub bits_within : (blocks : List Block) (words : List ℕ) (has : ℕ → ℕ → Bool) → HoldsBits words (length blocks) has → SameBits (has_bit words) (within blocks has)
bits_within blocks words has holds b j small = elim (cases_lt b (length blocks)) [
  | inl lower ↦ holds.each b j lower small ∙ ap (λ (t : Bool). t && has b j) (sym (lt-ltb b (length blocks) lower))
  | inr past ↦
      let behind : length words ≤ b = omega (arith, holds.long) in
      ap (λ (n : ℕ). is_bit n j) (get_or_past words b 0 behind) ∙ zero_bit j ∙ ap (λ (t : Bool). t && has b j) (sym (le-ltb b (length blocks) past))
]

pub round_is : (blocks : List Block) (jumps : List Jump) (uses : List Use) (carried assigned : List ℕ) (found : Option Place)
    → HoldsBits assigned (length blocks) (round_assigns uses) → HoldsBits carried (length blocks) (carried_bit blocks (has_bit assigned))
    → first_among (first_among found (lost_uses (has_bit carried) (has_bit assigned) uses)) (lost_jumps (has_bit carried) (has_bit assigned) jumps) ≡ first_among found (lost_in_round blocks jumps uses)
round_is blocks jumps uses carried assigned found holds_a holds_c =
    let a' = within blocks (round_assigns uses) in
    let c' = within blocks (carried_bit blocks (round_assigns uses)) in
    let c_holds : HoldsBits carried (length blocks) (carried_bit blocks (round_assigns uses)) = record {
      long = holds_c.long;
      each = λ b j below small. holds_c.each b j below small ∙ carried_same blocks (λ p. has_bit assigned p j) (λ p. round_assigns uses p j) (suc b) b (λ p lower. holds_a.each p j (omega arith) small);
    } in
    let same_a : SameBits (has_bit assigned) a' = bits_within blocks assigned (round_assigns uses) holds_a in
    let same_c : SameBits (has_bit carried) c' = bits_within blocks carried (carried_bit blocks (round_assigns uses)) c_holds in
    sym (among-append found (lost_uses (has_bit carried) (has_bit assigned) uses) (lost_jumps (has_bit carried) (has_bit assigned) jumps))
    ∙ ap (λ (us : List Use). first_among found (map (λ (u : Use). u.mention.at) us ++ lost_jumps (has_bit carried) (has_bit assigned) jumps))
    (filter_same (is_lost (has_bit carried) (has_bit assigned)) (is_lost c' a') uses (lost_use_same (has_bit carried) c' (has_bit assigned) a' same_c same_a))
    ∙ ap (λ (js : List Jump). first_among found (lost_uses c' a' uses ++ map (λ (jump : Jump). jump.at) js))
    (filter_same (λ jump. not (jump_kept (has_bit carried) (has_bit assigned) jump)) (λ jump. not (jump_kept c' a' jump)) jumps (jump_same (has_bit carried) c' (has_bit assigned) a' same_c same_a))
