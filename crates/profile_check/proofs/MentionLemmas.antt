-- Mentions as they are gathered, item by item.
use Rattle.std.proofs.Common.{◌≡◌, ℕ, zero, suc, ◌+◌, ◌<◌, Bool, if◌then◌else◌, List, [], ◌∷◌, ◌++◌, length, take, get_or, Option, Some, None, refl, ap, sym, ◌∙◌, arith, append_assoc, append-nil}
use Rattle.std.proofs.lemmas.List.{take_more}
use Rattle.std.proofs.lemmas.Grind.{flat_map-append}
use Rattle.std.specs.List.{flat_map}
use Rattle.qir_module.specs.declared.instruction.Operand.{Operand}
use Rattle.qir_module.specs.declared.instruction.Arg.{Arg}
use Rattle.qir_module.specs.declared.instruction.Arg.TheVariants.{Number, Truth, Id, Text}
use Rattle.qir_module.specs.declared.block.Block.{Block}
use Rattle.qir_module.specs.Functions.{Task, Initialize, ReadResult, ArrayRecord, BoolRecord, IntRecord, ResetQubit, MeasureQubit, ApplyGate}
use Rattle.qir_module.specs.Numbered.{read_by, measured_by, is_among}
use Rattle.qir_module.specs.Spots.{Item}
use Rattle.qir_module.specs.Passes.{arg_operands}
use Rattle.profile_check.specs.declared.place.Place.{Place}
use Rattle.profile_check.specs.declared.mentions.How.TheVariants.{Read}
use Rattle.profile_check.specs.declared.mentions.Mention.{Mention}
use Rattle.profile_check.specs.declared.mentions.Gathered.{Gathered}
use Rattle.profile_check.specs.Calls.{is_reading_task, is_measuring_task}
use Rattle.profile_check.specs.Names.{is_at}
use Rattle.profile_check.specs.Visits.{Placed}
use Rattle.profile_check.specs.Mentions.{Things, numbers_in, operand_numbers, arg_numbers, assigned, read, taken, only_id_in, second_id_in, read_mention, read_mentions, taken_mention, taken_mentions, assigned_mentions, item_mentions, latest_behind, place_of, latest_from, mentions_from, mentions_of, nowhere, latest_in, Adds, AddsItem, HoldsMentions}
use Rattle.profile_check.specs.Rounds.{block_jumps, jumps_from}

-- ---- what a call of a task reads and measures

pub read_by_is : (o : Option Task) (args : List Arg) → read_by o args ≡ (if is_reading_task o then only_id_in args else [])
read_by_is None args = refl
read_by_is (Some Initialize) args = refl
read_by_is (Some ReadResult) [] = refl
read_by_is (Some ReadResult) (Id k ∷ []) = refl
read_by_is (Some ReadResult) (Id k ∷ (arg ∷ args)) = refl
read_by_is (Some ReadResult) (Number operand ∷ args) = refl
read_by_is (Some ReadResult) (Truth operand ∷ args) = refl
read_by_is (Some ReadResult) (Text k ∷ args) = refl
read_by_is (Some ArrayRecord) args = refl
read_by_is (Some BoolRecord) args = refl
read_by_is (Some IntRecord) args = refl
read_by_is (Some ResetQubit) args = refl
read_by_is (Some MeasureQubit) args = refl
read_by_is (Some (ApplyGate g)) args = refl

pub measured_by_is : (o : Option Task) (args : List Arg) → measured_by o args ≡ (if is_measuring_task o then second_id_in args else [])
measured_by_is None args = refl
measured_by_is (Some Initialize) args = refl
measured_by_is (Some ReadResult) args = refl
measured_by_is (Some ArrayRecord) args = refl
measured_by_is (Some BoolRecord) args = refl
measured_by_is (Some IntRecord) args = refl
measured_by_is (Some ResetQubit) args = refl
measured_by_is (Some MeasureQubit) [] = refl
measured_by_is (Some MeasureQubit) (Id q ∷ []) = refl
measured_by_is (Some MeasureQubit) (Id q ∷ (Id k ∷ [])) = refl
measured_by_is (Some MeasureQubit) (Id q ∷ (Id k ∷ (arg ∷ args))) = refl
measured_by_is (Some MeasureQubit) (Id q ∷ (Number operand ∷ args)) = refl
measured_by_is (Some MeasureQubit) (Id q ∷ (Truth operand ∷ args)) = refl
measured_by_is (Some MeasureQubit) (Id q ∷ (Text k ∷ args)) = refl
measured_by_is (Some MeasureQubit) (Number operand ∷ args) = refl
measured_by_is (Some MeasureQubit) (Truth operand ∷ args) = refl
measured_by_is (Some MeasureQubit) (Text k ∷ args) = refl
measured_by_is (Some (ApplyGate g)) args = refl

-- ---- the operands of a call

pub flat_more : {X A : Type 0} (f : X → List A) (xs : List X) (i : ℕ) (x : X) → i < length xs → x ≡ get_or xs i x → flat_map f (take (i + 1) xs) ≡ flat_map f (take i xs) ++ f x
flat_more f xs i x inside is =
    ap (flat_map f) (take_more xs i x inside)
    ∙ flat_map-append f (take i xs) (get_or xs i x ∷ [])
    ∙ ap (λ (y : _). flat_map f (take i xs) ++ flat_map f (y ∷ [])) (sym is)
    ∙ ap (λ (ys : List _). flat_map f (take i xs) ++ ys) (append-nil (f x))

pub numbers_of_args : (args : List Arg) → operand_numbers (flat_map arg_operands args) ≡ flat_map arg_numbers args
numbers_of_args [] = refl
numbers_of_args (arg ∷ args) =
    flat_map-append (λ (o : Operand × Bool). numbers_in o.0) (arg_operands arg) (flat_map arg_operands args)
    ∙ ap (λ (ns : List ℕ). arg_numbers arg ++ ns) (numbers_of_args args)

-- ---- mentions, one behind another

reads_same : (latest other : ℕ → Option ℕ) (at : Place) (ns : List ℕ) → ((n : ℕ) → is_at at.block (latest n) ≡ is_at at.block (other n)) → read_mentions latest at ns ≡ read_mentions other at ns
reads_same latest other at [] same = refl
reads_same latest other at (n ∷ ns) same =
    ap (λ (t : Bool). (if t then [] else record { how = Read; at = at; number = n } ∷ []) ++ read_mentions latest at ns) (same n)
    ∙ ap (λ (ms : List Mention). read_mention other at n ++ ms) (reads_same latest other at ns same)

pub item_same : (things : Things) (latest other : ℕ → Option ℕ) (at : Place) (item : Item) → ((n : ℕ) → is_at at.block (latest n) ≡ is_at at.block (other n)) → item_mentions things latest at item ≡ item_mentions things other at item
item_same things latest other at item same =
    ap (λ (ms : List Mention). ms ++ taken_mentions at (taken things item) ++ assigned_mentions at (assigned things item)) (reads_same latest other at (read things item) same)

pub adds_reads : (old mid new : Gathered) (at : Place) (xs ys : List ℕ) → Adds old mid (read_mentions (latest_in old) at xs) → Adds mid new (read_mentions (latest_in mid) at ys) → Adds old new (read_mentions (latest_in old) at (xs ++ ys))
adds_reads old mid new at xs ys first second = record {
  mentions =
      second.mentions
      ∙ ap (λ (ms : List Mention). ms ++ read_mentions (latest_in mid) at ys) first.mentions
      ∙ ap (λ (ms : List Mention). (old.mentions.items ++ read_mentions (latest_in old) at xs) ++ ms) (reads_same (latest_in mid) (latest_in old) at ys (λ n. ap (is_at at.block) (first.latest n)))
      ∙ append_assoc old.mentions.items (read_mentions (latest_in old) at xs) (read_mentions (latest_in old) at ys)
      ∙ ap (λ (ms : List Mention). old.mentions.items ++ ms) (sym (flat_map-append (read_mention (latest_in old) at) xs ys));
  latest = λ n. second.latest n ∙ first.latest n;
}

taken-append : (at : Place) (xs ys : List (ℕ × ℕ)) → taken_mentions at (xs ++ ys) ≡ taken_mentions at xs ++ taken_mentions at ys
taken-append at [] ys = refl
taken-append at (x ∷ xs) ys = ap (λ (ms : List Mention). taken_mention at x ∷ ms) (taken-append at xs ys)

pub adds_taken : (old mid new : Gathered) (at : Place) (xs ys : List (ℕ × ℕ)) → Adds old mid (taken_mentions at xs) → Adds mid new (taken_mentions at ys) → Adds old new (taken_mentions at (xs ++ ys))
adds_taken old mid new at xs ys first second = record {
  mentions =
      second.mentions
      ∙ ap (λ (ms : List Mention). ms ++ taken_mentions at ys) first.mentions
      ∙ append_assoc old.mentions.items (taken_mentions at xs) (taken_mentions at ys)
      ∙ ap (λ (ms : List Mention). old.mentions.items ++ ms) (sym (taken-append at xs ys));
  latest = λ n. second.latest n ∙ first.latest n;
}

behind_same : (numbers : List ℕ) (latest other : ℕ → Option ℕ) (block n : ℕ) → latest n ≡ other n → latest_behind numbers latest block n ≡ latest_behind numbers other block n
behind_same numbers latest other block n same = ap (λ (o : Option ℕ). if is_among numbers n then Some block else o) same

pub adds_item : (things : Things) (old a b new : Gathered) (at : Place) (item : Item)
    → Adds old a (read_mentions (latest_in old) at (read things item)) → Adds a b (taken_mentions at (taken things item))
    → new.mentions.items ≡ b.mentions.items ++ assigned_mentions at (assigned things item) → ((n : ℕ) → latest_in new n ≡ latest_behind (assigned things item) (latest_in b) at.block n)
    → AddsItem things old new at item
adds_item things old a b new at item reads takes mentions latest = record {
  mentions =
      let r = read_mentions (latest_in old) at (read things item) in
      let t = taken_mentions at (taken things item) in
      let s = assigned_mentions at (assigned things item) in
      mentions
      ∙ ap (λ (ms : List Mention). ms ++ s) (takes.mentions ∙ ap (λ (ms : List Mention). ms ++ t) reads.mentions ∙ append_assoc old.mentions.items r t)
      ∙ append_assoc old.mentions.items (r ++ t) s;
  latest = λ n. latest n ∙ behind_same (assigned things item) (latest_in b) (latest_in old) at.block n (takes.latest n ∙ reads.latest n);
}

-- ---- one more item

latest_same : (things : Things) (latest other : ℕ → Option ℕ) (ps : List Placed) → ((n : ℕ) → latest n ≡ other n) → (n : ℕ) → latest_from things latest ps n ≡ latest_from things other ps n
latest_same things latest other [] same n = same n
latest_same things latest other (p ∷ ps) same n =
    latest_same things (latest_behind (assigned things p.here) latest p.block) (latest_behind (assigned things p.here) other p.block) ps (λ k. behind_same (assigned things p.here) latest other p.block k (same k)) n

pub latest-append : (things : Things) (latest : ℕ → Option ℕ) (ps : List Placed) (p : Placed) (n : ℕ) → latest_from things latest (ps ++ p ∷ []) n ≡ latest_behind (assigned things p.here) (latest_from things latest ps) p.block n
latest-append things latest [] p n = refl
latest-append things latest (q ∷ ps) p n = latest-append things (latest_behind (assigned things q.here) latest q.block) ps p n

pub mentions-append : (things : Things) (latest : ℕ → Option ℕ) (ps qs : List Placed) → mentions_from things latest (ps ++ qs) ≡ mentions_from things latest ps ++ mentions_from things (latest_from things latest ps) qs
mentions-append things latest [] qs = refl
mentions-append things latest (p ∷ ps) qs =
    let behind = latest_behind (assigned things p.here) latest p.block in
    ap (λ (ms : List Mention). item_mentions things latest (place_of p) p.here ++ ms) (mentions-append things behind ps qs)
    ∙ sym (append_assoc (item_mentions things latest (place_of p) p.here) (mentions_from things behind ps) (mentions_from things (latest_from things behind ps) qs))

pub holds_more : (things : Things) (old new : Gathered) (visited : List Placed) (p : Placed) → HoldsMentions things old visited → AddsItem things old new (place_of p) p.here → HoldsMentions things new (visited ++ p ∷ [])
holds_more things old new visited p holds adds = record {
  mentions =
      let latest = latest_from things nowhere visited in
      adds.mentions
      ∙ ap (λ (ms : List Mention). ms ++ item_mentions things (latest_in old) (place_of p) p.here) holds.mentions
      ∙ ap (λ (ms : List Mention). mentions_of things visited ++ ms) (item_same things (latest_in old) latest (place_of p) p.here (λ n. ap (is_at p.block) (holds.latest n)) ∙ sym (append-nil (item_mentions things latest (place_of p) p.here)))
      ∙ sym (mentions-append things nowhere visited (p ∷ []));
  latest = λ n. adds.latest n ∙ behind_same (assigned things p.here) (latest_in old) (latest_from things nowhere visited) p.block n (holds.latest n) ∙ sym (latest-append things nowhere visited p n);
}

-- ---- jumps back, block by block

jumps_suc : (place : ℕ → Option ℕ) (k i : ℕ) (bs : List Block) (b : Block) → i < length bs → b ≡ get_or bs i b → jumps_from place k (take (suc i) bs) ≡ jumps_from place k (take i bs) ++ block_jumps place (k + i) b
jumps_suc place k i [] b inside is = absurd (omega arith)
jumps_suc place k zero (x ∷ xs) b inside is =
    let e : k ≡ k + 0 = omega arith in
    append-nil (block_jumps place k x) ∙ ap (block_jumps place k) (sym is) ∙ ap (λ (n : ℕ). block_jumps place n b) e
jumps_suc place k (suc i) (x ∷ xs) b inside is =
    let e : suc k + i ≡ k + suc i = omega arith in
    ap (λ (js : List _). block_jumps place k x ++ js) (jumps_suc place (suc k) i xs b (omega arith) is ∙ ap (λ (n : ℕ). jumps_from place (suc k) (take i xs) ++ block_jumps place n b) e)
    ∙ sym (append_assoc (block_jumps place k x) (jumps_from place (suc k) (take i xs)) (block_jumps place (k + suc i) b))

pub jumps_more : (place : ℕ → Option ℕ) (i : ℕ) (bs : List Block) (b : Block) → i < length bs → b ≡ get_or bs i b → jumps_from place 0 (take i bs) ++ block_jumps place i b ≡ jumps_from place 0 (take (i + 1) bs)
jumps_more place i bs b inside is =
    let one : suc i ≡ i + 1 = omega arith in
    let e : 0 + i ≡ i = omega arith in
    sym (jumps_suc place 0 i bs b inside is ∙ ap (λ (n : ℕ). jumps_from place 0 (take i bs) ++ block_jumps place n b) e)
    ∙ ap (λ (n : ℕ). jumps_from place 0 (take n bs)) one
