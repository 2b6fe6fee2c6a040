-- Where the rules on what is carried stand.
use Rattle.std.proofs.Common.{◌≡◌, ℕ, zero, suc, ◌+◌, ◌/◌, ◌%◌, ◌<◌, ◌⊎◌, nat_eq, nat_lt, not, Bool, true, false, ◌&&◌, ◌||◌, cond, if◌then◌else◌, List, [], ◌∷◌, ◌++◌, length, map, filter, Option, Some, None, refl, ap, sym, ◌∙◌, subst, arith, inl, inr, eq-eqb, lt-ltb}
use Rattle.std.proofs.lemmas.Bool.{le-ltb, false≢true}
use Rattle.std.proofs.lemmas.Bool.Decides.{eqb_tells}
use Rattle.std.proofs.lemmas.Option.{slice_get_within}
use Rattle.std.specs.List.{flat_map, list_all, list_any}
use Rattle.std.specs.Option.{unwrap_or}
use Rattle.std.specs.declared.vec.Vec.{Vec}
use Rattle.std.specs.declared.alloc.Global.{Global}
use Rattle.qir_module.specs.declared.block.Block.{Block}
use Rattle.qir_module.specs.Module.{Module}
use Rattle.qir_module.specs.Machine.{place_of}
use Rattle.qir_module.specs.Spots.{Item, items_in, Spot, spots_behind, block_spots, spots_from}
use Rattle.qir_module.specs.Carried.{Thing, are_assigning, assigns, is_empty, carried_within, is_carried, is_left}
use Rattle.qir_module.specs.Passes.{is_left_by, jumps_carry}
use Rattle.profile_check.specs.declared.place.Place.{Place}
use Rattle.profile_check.specs.declared.mentions.How.{How}
use Rattle.profile_check.specs.declared.mentions.How.TheVariants.{Assigned, Read, Entry}
use Rattle.profile_check.specs.declared.mentions.Mention.{Mention}
use Rattle.profile_check.specs.declared.rounds.Use.{Use}
use Rattle.profile_check.specs.Names.{Table, HasPlaces, is_at}
use Rattle.profile_check.specs.Ways.{row}
use Rattle.profile_check.specs.Mentions.{Things, thing, assigned, read, taken, read_mention, read_mentions, taken_mention, taken_mentions, assigned_mention, assigned_mentions}
use Rattle.profile_check.specs.Rounds.{is_assigning, place_in, block_of, use_of, in_round, round_uses, assigns_bit, round_assigns, carried_bit, within, is_lost}
use Rattle.profile_check.proofs.BitLemmas.{carried_same}
use Rattle.profile_check.proofs.FirstLemmas.{at_spot}
use Rattle.profile_check.proofs.Members.{In, in_left, in_right, in_either, in_map, of_map, in_flat, of_flat, any_same, all_fails}
use Rattle.profile_check.proofs.SpotMentions.{front_latest, front_is, spot_mentions, assigns_at, assigned_at}
use Rattle.profile_check.proofs.WaysLemmas.{found_at}

-- ---- what an item asks

abbrev pub reads_kept : Module → Things → Spot → Bool
reads_kept m things s = list_all (λ n. are_assigning s.front (thing things n) || is_carried m.blocks s.block (thing things n)) (read things s.here)

abbrev pub takes_kept : Module → Things → Item → Bool
takes_kept m things item = list_all (λ (e : ℕ × ℕ). is_left_by m e.1 (thing things e.0)) (taken things item)

abbrev pub named : Module → Things → List Thing
named m things = map (thing things) (flat_map (λ (b : Block). flat_map (assigned things) (items_in b)) m.blocks)

abbrev pub spot_kept : Module → Things → Spot → Bool
spot_kept m things s = reads_kept m things s && takes_kept m things s.here && jumps_carry m s (named m things) s.here

pub both_true : (a b : Bool) → (a && b) ≡ true → (a ≡ true) × (b ≡ true)
both_true true b e = (refl, e)
both_true false b e = absurd (false≢true e)

pub both_false : (a b : Bool) → (a || b) ≡ false → (a ≡ false) × (b ≡ false)
both_false true b e = absurd (false≢true (sym e))
both_false false b e = (refl, e)

pub not_true : (a : Bool) → not a ≡ true → a ≡ false
not_true true e = absurd (false≢true e)
not_true false e = refl

pub and_false : (t : Bool) → (t && false) ≡ false
and_false true = refl
and_false false = refl

pub same_nat : (a b : ℕ) → nat_eq a b ≡ true → a ≡ b
same_nat a b e = elim (eqb_tells a b) [ inl same ↦ same.1 | inr other ↦ absurd (false≢true (sym other.0 ∙ e)) ]

-- ---- rounds

any_round : (p : Use → Bool) (f : Mention → Use) (t : Mention → Bool) (ms : List Mention) → list_any p (map f (filter t ms)) ≡ list_any (λ m. t m && p (f m)) ms
any_round p f t [] = refl
any_round p f t (m ∷ ms) = elim (t m) as (λ x. list_any p (map f (cond x (m ∷ filter t ms) (filter t ms))) ≡ ((x && p (f m)) || list_any (λ y. t y && p (f y)) ms)) [
  | true ↦ ap (λ (x : Bool). p (f m) || x) (any_round p f t ms)
  | false ↦ any_round p f t ms
]

slot_same : (s t : ℕ) → s / 64 ≡ t / 64 → s % 64 ≡ t % 64 → s ≡ t
slot_same s t high low = omega (arith, high, low)

one_assigns : (slot place : ℕ → ℕ) (how : How) (here number b n : ℕ) → (is_assigning how ≡ true → slot n ≡ slot number → n ≡ number)
    → (nat_eq (slot number / 64) (slot n / 64) && (is_assigning how && nat_eq (block_of place here how) b && nat_eq (slot number % 64) (slot n % 64))) ≡ (is_assigning how && nat_eq here b && nat_eq n number)
one_assigns slot place Read here number b n own = and_false (nat_eq (slot number / 64) (slot n / 64))
one_assigns slot place (Entry name) here number b n own = and_false (nat_eq (slot number / 64) (slot n / 64))
one_assigns slot place Assigned here number b n own = elim (eqb_tells n number) [
  | inl same ↦
      let high : nat_eq (slot number / 64) (slot n / 64) ≡ true = eq-eqb (slot number / 64) (slot n / 64) (ap (λ (k : ℕ). slot k / 64) (sym same.1)) in
      let low : nat_eq (slot number % 64) (slot n % 64) ≡ true = eq-eqb (slot number % 64) (slot n % 64) (ap (λ (k : ℕ). slot k % 64) (sym same.1)) in
      ap (λ (t : Bool). t && (nat_eq here b && nat_eq (slot number % 64) (slot n % 64))) high
      ∙ ap (λ (t : Bool). nat_eq here b && t) low
      ∙ ap (λ (t : Bool). nat_eq here b && t) (sym same.0)
  | inr other ↦ elim (eqb_tells (slot number / 64) (slot n / 64)) [
    | inl high ↦ elim (eqb_tells (slot number % 64) (slot n % 64)) [
      | inl low ↦ absurd (other.1 (own refl (sym (slot_same (slot number) (slot n) high.1 low.1))))
      | inr low ↦
          ap (λ (t : Bool). t && (nat_eq here b && nat_eq (slot number % 64) (slot n % 64))) high.0
          ∙ ap (λ (t : Bool). nat_eq here b && t) low.0
          ∙ ap (λ (t : Bool). nat_eq here b && t) (sym other.0)
    ]
    | inr high ↦
        ap (λ (t : Bool). t && (nat_eq here b && nat_eq (slot number % 64) (slot n % 64))) high.0
        ∙ sym (ap (λ (t : Bool). nat_eq here b && t) other.0 ∙ and_false (nat_eq here b))
  ]
]

pub round_assigned : (slot place : ℕ → ℕ) (ms : List Mention) (n b : ℕ) → ((x : Mention) → In x ms → is_assigning x.how ≡ true → slot n ≡ slot x.number → n ≡ x.number)
    → round_assigns (round_uses slot place ms (slot n / 64)) b (slot n % 64) ≡ assigned_at ms b n
round_assigned slot place ms n b own =
    any_round (assigns_bit b (slot n % 64)) (use_of slot place) (in_round slot (slot n / 64)) ms
    ∙ any_same (λ m. in_round slot (slot n / 64) m && assigns_bit b (slot n % 64) (use_of slot place m)) (assigns_at b n) ms (λ x inside. one_assigns slot place x.how x.at.block x.number b n (own x inside))

-- a table's rows are those of its lists
pub row_of_member : (rounds : List (Vec Use Global)) (v : Vec Use Global) → In v rounds → (q : ℕ) × (q < length rounds) × (row rounds q ≡ v.items)
row_of_member [] v inside = absurd inside
row_of_member (w ∷ ws) v (inl is) = (0, omega arith, ap (λ (x : Vec Use Global). x.items) (sym is))
row_of_member (w ∷ ws) v (inr inside) =
    let rest = row_of_member ws v inside in
    (suc rest.0, omega (arith, rest.1), rest.2)

pub member_of_row : (rounds : List (Vec Use Global)) (q : ℕ) → q < length rounds → (v : Vec Use Global) × In v rounds × (row rounds q ≡ v.items)
member_of_row [] q below = absurd (omega arith)
member_of_row (w ∷ ws) zero below = (w, inl refl, refl)
member_of_row (w ∷ ws) (suc q) below =
    let rest = member_of_row ws q (omega arith) in
    (rest.0, inr rest.1, rest.2)

-- ---- what is carried is assigned somewhere

left_needs : (has assigns : Bool) (f : ℕ → Bool) (p : ℕ) → assigns ≡ f p → (has ≡ true → (q : ℕ) × (f q ≡ true)) → (has || assigns) ≡ true → (q : ℕ) × (f q ≡ true)
left_needs true assigns f p is rest left = rest refl
left_needs false assigns f p is rest left = (p, sym is ∙ left)

needs_list : (before : ℕ → List ℕ) (f : ℕ → Bool) (n : ℕ) → ((p : ℕ) → carried_within before f n p ≡ true → (q : ℕ) × (f q ≡ true)) → (ps : List ℕ)
    → (if is_empty ps then false else list_all (λ p. carried_within before f n p || f p) ps) ≡ true → (q : ℕ) × (f q ≡ true)
needs_list before f n rest [] all = absurd (false≢true all)
needs_list before f n rest (p ∷ ps) all =
    left_needs (carried_within before f n p) (f p) f p refl (rest p) (both_true (carried_within before f n p || f p) (list_all (λ q. carried_within before f n q || f q) ps) all).0

pub carried_needs : (before : ℕ → List ℕ) (f : ℕ → Bool) (n b : ℕ) → carried_within before f n b ≡ true → (q : ℕ) × (f q ≡ true)
carried_needs before f zero b carried = absurd (false≢true carried)
carried_needs before f (suc n) b carried = needs_list before f n (λ p. carried_needs before f n p) (before b) carried

-- ---- mentions that ask for what is lost

abbrev pub how_lost : Module → Things → How → ℕ → ℕ → Bool
how_lost m things Assigned b n = false
how_lost m things Read b n = not (is_carried m.blocks b (thing things n))
how_lost m things (Entry name) b n = not (is_left_by m name (thing things n))

left_none : (m : Module) (name : ℕ) (t : Thing) → place_of m.blocks name ≡ None → is_left_by m name t ≡ false
left_none m name t none = rw none refl

left_some : (m : Module) (name p : ℕ) (t : Thing) → place_of m.blocks name ≡ Some p → is_left_by m name t ≡ is_left m.blocks p t
left_some m name p t some = rw some refl

pub place_below : (blocks : List Block) (name p : ℕ) → place_of blocks name ≡ Some p → p < length blocks
place_below blocks name p some =
    let found = found_at 0 blocks name p some in
    let inside : found.0 < length blocks = slice_get_within blocks found.0 found.1 found.3 in
    omega (arith, inside, found.2)

-- where the bits of a round say what is assigned of a number
pub use_lost : (m : Module) (things : Things) (places : Table) (slot : ℕ → ℕ) (uses : List Use) (how : How) (at : Place) (n : ℕ) → HasPlaces places m.blocks → at.block < length m.blocks
    → ((p : ℕ) → round_assigns uses p (slot n % 64) ≡ assigns m.blocks p (thing things n))
    → is_lost (within m.blocks (carried_bit m.blocks (round_assigns uses))) (within m.blocks (round_assigns uses)) (use_of slot (place_in places (length m.blocks)) (record { how = how; at = at; number = n })) ≡ how_lost m things how at.block n
use_lost m things places slot uses Assigned at n has below same = refl
use_lost m things places slot uses Read at n has below same =
    let j = slot n % 64 in
    ap (λ (t : Bool). not (t && carried_bit m.blocks (round_assigns uses) at.block j)) (lt-ltb at.block (length m.blocks) below)
    ∙ ap not (carried_same m.blocks (λ p. round_assigns uses p j) (λ p. assigns m.blocks p (thing things n)) (suc at.block) at.block (λ p lower. same p))
use_lost m things places slot uses (Entry name) at n has below same = of_place (place_of m.blocks name) refl
  where
    j : ℕ
    j = slot n % 64

    left_bit : ℕ → Bool
    left_bit = λ b. within m.blocks (carried_bit m.blocks (round_assigns uses)) b j || within m.blocks (round_assigns uses) b j

    at_place : (o : Option ℕ) → place_of m.blocks name ≡ o → place_in places (length m.blocks) name ≡ unwrap_or o (length m.blocks)
    at_place o is = ap (λ (x : Option ℕ). unwrap_or x (length m.blocks)) (has name ∙ is)

    of_place : (o : Option ℕ) → place_of m.blocks name ≡ o → not (left_bit (place_in places (length m.blocks) name)) ≡ not (is_left_by m name (thing things n))
    of_place None none =
        let past : nat_lt (length m.blocks) (length m.blocks) ≡ false = le-ltb (length m.blocks) (length m.blocks) (omega arith) in
        ap (λ (b : ℕ). not (left_bit b)) (at_place None none)
        ∙ ap (λ (t : Bool). not ((t && carried_bit m.blocks (round_assigns uses) (length m.blocks) j) || (t && round_assigns uses (length m.blocks) j))) past
        ∙ ap not (sym (left_none m name (thing things n) none))
    of_place (Some p) some =
        let lower : p < length m.blocks = place_below m.blocks name p some in
        ap (λ (b : ℕ). not (left_bit b)) (at_place (Some p) some)
        ∙ ap (λ (t : Bool). not ((t && carried_bit m.blocks (round_assigns uses) p j) || (t && round_assigns uses p j))) (lt-ltb p (length m.blocks) lower)
        ∙ ap (λ (t : Bool). not (t || round_assigns uses p j)) (carried_same m.blocks (λ q. round_assigns uses q j) (λ q. assigns m.blocks q (thing things n)) (suc p) p (λ q below_p. same q))
        ∙ ap (λ (t : Bool). not (is_carried m.blocks p (thing things n) || t)) (same p)
        ∙ ap not (sym (left_some m name p (thing things n) some))

-- ---- the items of a text

spot_behind : (k : ℕ) (b : Block) (i : ℕ) (front items : List Item) (s : Spot) → In s (spots_behind k b i front items) → (s.block ≡ k) × In s.here items
spot_behind k b i front [] s inside = absurd inside
spot_behind k b i front (x ∷ xs) s (inl is) = (ap (λ (r : Spot). r.block) is, inl (ap (λ (r : Spot). r.here) is))
spot_behind k b i front (x ∷ xs) s (inr inside) =
    let rest = spot_behind k b (suc i) (front ++ x ∷ []) xs s inside in
    (rest.0, inr rest.1)

pub spot_from : (k : ℕ) (blocks : List Block) (s : Spot) → In s (spots_from k blocks) → (b : Block) × In b blocks × In s.here (items_in b) × (s.block < k + length blocks)
spot_from k [] s inside = absurd inside
spot_from k (b ∷ bs) s inside = elim (in_either (block_spots k b) (spots_from (suc k) bs) s inside) [
  | inl here ↦
      let of_block = spot_behind k b 0 [] (items_in b) s here in
      (b, inl refl, of_block.1, omega (arith, of_block.0))
  | inr there ↦
      let rest = spot_from (suc k) bs s there in
      (rest.0, inr rest.1, rest.2, omega (arith, rest.3))
]

-- ---- what a mention of an item is

abbrev pub IsRead : Things → Spot → Mention → Type 0
IsRead things s x = (n : ℕ) × (x ≡ record { how = Read; at = at_spot s; number = n }) × In n (read things s.here) × (are_assigning s.front (thing things n) ≡ false)

abbrev pub IsTaken : Things → Spot → Mention → Type 0
IsTaken things s x = (e : ℕ × ℕ) × (x ≡ record { how = Entry e.1; at = at_spot s; number = e.0 }) × In e (taken things s.here)

abbrev pub IsAssigned : Things → Spot → Mention → Type 0
IsAssigned things s x = (n : ℕ) × (x ≡ record { how = Assigned; at = at_spot s; number = n }) × In n (assigned things s.here)

of_read : (at : Place) (latest : ℕ → Option ℕ) (n : ℕ) (t : Bool) (x : Mention) → is_at at.block (latest n) ≡ t → In x (if t then [] else record { how = Read; at = at; number = n } ∷ []) → (x ≡ record { how = Read; at = at; number = n }) × (is_at at.block (latest n) ≡ false)
of_read at latest n true x is inside = absurd inside
of_read at latest n false x is (inl same) = (same, is)
of_read at latest n false x is (inr inside) = absurd inside

pub mention_is : (things : Things) (s : Spot) (x : Mention) → In x (spot_mentions things s) → IsRead things s x ⊎ (IsTaken things s x ⊎ IsAssigned things s x)
mention_is things s x inside =
    let r = read_mentions (front_latest things s) (at_spot s) (read things s.here) in
    let t = taken_mentions (at_spot s) (taken things s.here) in
    let a = assigned_mentions (at_spot s) (assigned things s.here) in
    elim (in_either (r ++ t) a x inside) [
      | inl front ↦ elim (in_either r t x front) [
        | inl in_reads ↦
            let of = of_flat (read_mention (front_latest things s) (at_spot s)) (read things s.here) x in_reads in
            let fresh = of_read (at_spot s) (front_latest things s) of.0 (is_at s.block (front_latest things s of.0)) x refl of.2 in
            inl (of.0, fresh.0, of.1, sym (front_is (are_assigning s.front (thing things of.0)) s.block) ∙ fresh.1)
        | inr in_takes ↦
            let of = of_map (taken_mention (at_spot s)) (taken things s.here) x in_takes in
            inr (inl (of.0, of.2, of.1))
      ]
      | inr in_assigned ↦
          let of = of_map (assigned_mention (at_spot s)) (assigned things s.here) x in_assigned in
          inr (inr (of.0, of.2, of.1))
    ]

pub read_is_mention : (things : Things) (s : Spot) (n : ℕ) → In n (read things s.here) → are_assigning s.front (thing things n) ≡ false → In (record { how = Read; at = at_spot s; number = n }) (spot_mentions things s)
read_is_mention things s n inside fresh =
    let r = read_mentions (front_latest things s) (at_spot s) (read things s.here) in
    let t = taken_mentions (at_spot s) (taken things s.here) in
    let a = assigned_mentions (at_spot s) (assigned things s.here) in
    let x : Mention = record { how = Read; at = at_spot s; number = n } in
    let P : Bool → Type 0 = λ b. In x (if b then [] else x ∷ []) in
    let here : In x (read_mention (front_latest things s) (at_spot s) n) = subst P (sym (front_is (are_assigning s.front (thing things n)) s.block ∙ fresh)) (inl refl) in
    in_left (r ++ t) a x (in_left r t x (in_flat (read_mention (front_latest things s) (at_spot s)) (read things s.here) n x inside here))

pub taken_is_mention : (things : Things) (s : Spot) (e : ℕ × ℕ) → In e (taken things s.here) → In (record { how = Entry e.1; at = at_spot s; number = e.0 }) (spot_mentions things s)
taken_is_mention things s e inside =
    let r = read_mentions (front_latest things s) (at_spot s) (read things s.here) in
    let t = taken_mentions (at_spot s) (taken things s.here) in
    let a = assigned_mentions (at_spot s) (assigned things s.here) in
    in_left (r ++ t) a (taken_mention (at_spot s) e) (in_right r t (taken_mention (at_spot s) e) (in_map (taken_mention (at_spot s)) (taken things s.here) e inside))

pub mention_at : (things : Things) (s : Spot) (x : Mention) → In x (spot_mentions things s) → x.at ≡ at_spot s
mention_at things s x inside = elim (mention_is things s x inside) [
  | inl is ↦ ap (λ (y : Mention). y.at) is.1
  | inr rest ↦ elim rest [ inl is ↦ ap (λ (y : Mention). y.at) is.1 | inr is ↦ ap (λ (y : Mention). y.at) is.1 ]
]

-- an item with a mention that asks for what is lost is not kept
pub mention_breaks : (m : Module) (things : Things) (s : Spot) (x : Mention) → In x (spot_mentions things s) → how_lost m things x.how x.at.block x.number ≡ true → spot_kept m things s ≡ false
mention_breaks m things s x inside lost = elim (mention_is things s x inside) [
  | inl is ↦
      let fails : is_carried m.blocks s.block (thing things is.0) ≡ false = not_true (is_carried m.blocks s.block (thing things is.0)) (sym (ap (λ (y : Mention). how_lost m things y.how y.at.block y.number) is.1) ∙ lost) in
      let one : (are_assigning s.front (thing things is.0) || is_carried m.blocks s.block (thing things is.0)) ≡ false = ap (λ (t : Bool). t || is_carried m.blocks s.block (thing things is.0)) is.3 ∙ fails in
      ap (λ (t : Bool). t && takes_kept m things s.here && jumps_carry m s (named m things) s.here)
      (all_fails (λ n. are_assigning s.front (thing things n) || is_carried m.blocks s.block (thing things n)) (read things s.here) is.0 is.2 one)
  | inr rest ↦ elim rest [
    | inl is ↦
        let e = is.0 in
        let fails : is_left_by m e.1 (thing things e.0) ≡ false = not_true (is_left_by m e.1 (thing things e.0)) (sym (ap (λ (y : Mention). how_lost m things y.how y.at.block y.number) is.1) ∙ lost) in
        ap (λ (t : Bool). reads_kept m things s && t && jumps_carry m s (named m things) s.here)
        (all_fails (λ (d : ℕ × ℕ). is_left_by m d.1 (thing things d.0)) (taken things s.here) e is.2 fails)
        ∙ ap (λ (t : Bool). t && jumps_carry m s (named m things) s.here) (and_false (reads_kept m things s))
    | inr is ↦ absurd (false≢true (sym (ap (λ (y : Mention). how_lost m things y.how y.at.block y.number) is.1) ∙ lost))
  ]
]
