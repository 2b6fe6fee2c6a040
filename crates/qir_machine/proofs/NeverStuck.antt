-- A module that passes is never stuck, whatever the outcomes and turns.
use Rattle.std.proofs.Common.{◌≡◌, ℕ, zero, suc, ◌+◌, ◌*◌, ◌<◌, ◌≤◌, Bool, true, false, ◌&&◌, ◌||◌, nat_eq, nat_lt, List, [], ◌∷◌, ◌++◌, length, map, slice_get, Option, Some, None, refl, sym, ap, ◌∙◌, subst, arith, append_assoc, append-nil}
use Rattle.std.proofs.Math.Nat.{suc-mul}
use Rattle.std.proofs.lemmas.Bool.{eq-eqb, ltb-true}
use Rattle.std.proofs.lemmas.Option.{slice_get_within}
use Rattle.std.specs.List.{AllByRecursion}
use Rattle.qq_base.specs.Seen.{Seen, Stuck}
use Rattle.qir_module.specs.declared.instruction.Instr.{Instr}
use Rattle.qir_module.specs.declared.instruction.Last.{Last}
use Rattle.qir_module.specs.declared.instruction.Last.TheVariants.{Jump, Branch, Return}
use Rattle.qir_module.specs.declared.block.Phi.{Phi}
use Rattle.qir_module.specs.declared.block.Block.{Block}
use Rattle.qir_module.specs.Module.{Module, IsShaped, IsShapedBlock, IsShapedInstr}
use Rattle.qir_module.specs.Machine.{State, first_state, with_result, truth_in, Effect, Goes, Does, Shows, Measures, Fails, effect_of, Later, behind, branched, run_last, run_rest, after_phis, place_of, jumped, jump_to, run_block, run_from, machine_run}
use Rattle.qir_module.specs.Carried.{targets_of}
use Rattle.qir_module.specs.Numbered.{is_among}
use Rattle.qir_module.specs.Spots.{Item, ThePhi, TheInstr, TheLast, items_in}
use Rattle.qir_module.specs.Passes.{Passes, phis_kept, operand_types_kept, carried_registers_kept, last_operands, reads_carried, registers_read, entries_carried, jumps_carry, registers_named}
use Rattle.qir_machine.specs.Ready.{IsNeverStuck}
use Rattle.qir_machine.proofs.SpotFacts.{and_left, spot_at, kept_at}
use Rattle.qir_machine.proofs.UniqueTypes.{or_left, or_right}
use Rattle.qir_machine.proofs.Operands.{IsSound, IsReadable, truth_there}
use Rattle.qir_machine.proofs.Instructions.{After, instruction_there}
use Rattle.qir_machine.proofs.Demands.{known_at, readable_all, instruction_met}
use Rattle.qir_machine.proofs.Arriving.{front_of, target_there, left_by_jump, left_known}
use Rattle.qir_machine.proofs.PhisThere.{IsWay, AreTaken, phis_there}
use Rattle.qir_machine.proofs.Bounds.{entries_from}
use Rattle.qir_machine.proofs.Taking.{all_at}

abbrev IsFree : Seen → Type 0
IsFree seen = seen.fate ≡ Stuck → ⊥

-- ---- one instruction

behind_free : (effect : Effect) (later : Later) (P : State → Type 0) (turns : ℕ) → After effect P → ((s : State) (outcomes : List Bool) → P s → IsFree (later s outcomes turns)) → (outcomes : List Bool) → IsFree (behind effect later outcomes turns)
behind_free (Goes s) later P turns after free outcomes = free s outcomes after
behind_free (Does event s) later P turns after free outcomes = free s outcomes after
behind_free (Shows shown s) later P turns after free outcomes = free s outcomes after
behind_free (Measures qubit result s) later P turns after free [] = λ is. cc
behind_free (Measures qubit result s) later P turns after free (outcome ∷ outcomes) = free (with_result s result outcome) outcomes (after outcome)
behind_free Fails later P turns after free outcomes = absurd after

-- ---- a jump

-- entering a block is never stuck where its phis are taken and what is known there is
abbrev EntersFree : Module → ℕ → (Option ℕ → ℕ → Later) → Type 0
EntersFree m bound enter = (from : Option ℕ) (to : ℕ) (next : Block) (s : State) (outcomes : List Bool) (turns : ℕ) → slice_get m.blocks to ≡ Some next → AreTaken m to next.phis from s → entries_from m to turns ≤ bound → IsFree (enter from to s outcomes turns)

jumped_free : (m : Module) (bound k to : ℕ) (later : Bool) (enter : ℕ → Later) (s : State) (outcomes : List Bool) (turns : ℕ) → (later ≡ true → k < to) → k < length m.blocks → entries_from m k turns ≤ suc bound
    → ((ts : ℕ) → entries_from m to ts ≤ bound → IsFree (enter to s outcomes ts)) → IsFree (jumped later (enter to) s outcomes turns)
jumped_free m bound k to true enter s outcomes turns forwards inside ample free = let after : k < to = forwards refl in free turns (omega arith)
jumped_free m bound k to false enter s outcomes zero forwards inside ample free = λ is. cc
jumped_free m bound k to false enter s outcomes (suc turns) forwards inside ample free =
    let all : suc turns * length m.blocks ≡ turns * length m.blocks + length m.blocks = suc-mul turns (length m.blocks) in free turns (omega arith)

jump_free : (m : Module) (bound : ℕ) (enter : Option ℕ → ℕ → Later) (k : ℕ) (b : Block) (s : State) (name : ℕ) (outcomes : List Bool) (turns : ℕ) → Passes m → EntersFree m bound enter → slice_get m.blocks k ≡ Some b
    → IsSound m s (known_at m k (front_of b)) → entries_from m k turns ≤ suc bound → is_among (targets_of b.last) name ≡ true → IsFree (jump_to (enter (Some b.name)) k (place_of m.blocks name) s outcomes turns)
jump_free m bound enter k b s name outcomes turns passes free here sound ample among =
    let target = target_there m k b name passes here among in
    let way : IsWay m s k b target.to target.next = record {
      passes = passes;
      types = sound.types;
      left = λ t is. sound.there t (left_known m k b t here is);
      carried = λ t is. sound.there t (left_known m k b t here (left_by_jump m k b name target t passes here among is));
      here = here;
      there = target.found;
      jumps = ap (is_among (targets_of b.last)) target.named ∙ among;
    } in
    subst (λ (place : Option ℕ). IsFree (jump_to (enter (Some b.name)) k place s outcomes turns)) (sym target.place)
    (jumped_free m bound k target.to (nat_lt k target.to) (enter (Some b.name)) s outcomes turns (λ is. ltb-true k target.to is) (slice_get_within m.blocks k b here) ample
    (λ ts few. free (Some b.name) target.to target.next s outcomes ts target.found (phis_there m s k b target.to target.next way) few))

branch_free : (test : Option Bool) (value : Bool) (first second : Later) (s : State) (outcomes : List Bool) (turns : ℕ) → test ≡ Some value → IsFree (first s outcomes turns) → IsFree (second s outcomes turns) → IsFree (branched test first second s outcomes turns)
branch_free None value first second s outcomes turns is a b = absurd (cc)
branch_free (Some true) value first second s outcomes turns is a b = a
branch_free (Some false) value first second s outcomes turns is a b = b

last_free : (m : Module) (bound : ℕ) (enter : Option ℕ → ℕ → Later) (k : ℕ) (b : Block) (s : State) (outcomes : List Bool) (turns : ℕ) → Passes m → EntersFree m bound enter → slice_get m.blocks k ≡ Some b
    → IsSound m s (known_at m k (front_of b)) → entries_from m k turns ≤ suc bound → (last : Last) → b.last ≡ last → IsFree (run_last (λ name. jump_to (enter (Some b.name)) k (place_of m.blocks name)) last s outcomes turns)
last_free m bound enter k b s outcomes turns passes free here sound ample (Jump to) is =
    jump_free m bound enter k b s to outcomes turns passes free here sound ample (ap (λ (l : Last). is_among (targets_of l) to) is ∙ or_left (nat_eq to to) false (eq-eqb to to refl))
last_free m bound enter k b s outcomes turns passes free here sound ample (Branch test first second) is =
    let types = kept_at m operand_types_kept k b (front_of b) (TheLast b.last) [] passes.operand_types here refl in
    let registers = kept_at m carried_registers_kept k b (front_of b) (TheLast b.last) [] passes.carried_registers here refl in
    let spot = spot_at k b (front_of b) (TheLast b.last) in
    let reads = and_left (reads_carried m spot (registers_read (TheLast b.last))) (entries_carried m (TheLast b.last)) (and_left (reads_carried m spot (registers_read (TheLast b.last)) && entries_carried m (TheLast b.last)) (jumps_carry m spot (registers_named m) (TheLast b.last)) registers) in
    let readable = readable_all m s (known_at m k (front_of b)) (last_operands b.last) sound.there types reads in
    let tested = subst (λ (l : Last). AllByRecursion (IsReadable m s) (last_operands l)) is readable in
    let value = truth_there m s test passes sound.types tested.0 in
    branch_free (truth_in s test) value.0 _ _ s outcomes turns value.1
    (jump_free m bound enter k b s first outcomes turns passes free here sound ample (ap (λ (l : Last). is_among (targets_of l) first) is ∙ or_left (nat_eq first first) (nat_eq first second || false) (eq-eqb first first refl)))
    (jump_free m bound enter k b s second outcomes turns passes free here sound ample (ap (λ (l : Last). is_among (targets_of l) second) is ∙ or_right (nat_eq second first) (nat_eq second second || false) (or_left (nat_eq second second) false (eq-eqb second second refl))))
last_free m bound enter k b s outcomes turns passes free here sound ample (Return code) is = λ stuck. cc

-- ---- a block

items_split : (b : Block) (done : List Instr) (instr : Instr) (rest : List Instr) → b.body ≡ done ++ instr ∷ rest → items_in b ≡ (map ThePhi b.phis ++ map TheInstr done) ++ TheInstr instr ∷ (map TheInstr rest ++ TheLast b.last ∷ [])
items_split b done instr rest are =
    ap (λ (is : List Instr). (map ThePhi b.phis ++ map TheInstr is) ++ TheLast b.last ∷ []) are
    ∙ ap (λ (is : List Item). (map ThePhi b.phis ++ is) ++ TheLast b.last ∷ []) (split done)
    ∙ ap (λ (is : List Item). is ++ TheLast b.last ∷ []) (sym (append_assoc (map ThePhi b.phis) (map TheInstr done) (TheInstr instr ∷ map TheInstr rest)))
    ∙ append_assoc (map ThePhi b.phis ++ map TheInstr done) (TheInstr instr ∷ map TheInstr rest) (TheLast b.last ∷ [])
  where
    split : (xs : List Instr) → map TheInstr (xs ++ instr ∷ rest) ≡ map TheInstr xs ++ TheInstr instr ∷ map TheInstr rest
    split [] = refl
    split (x ∷ xs) = ap (λ is. TheInstr x ∷ is) (split xs)

front_more : (b : Block) (done : List Instr) (instr : Instr) → (map ThePhi b.phis ++ map TheInstr done) ++ TheInstr instr ∷ [] ≡ map ThePhi b.phis ++ map TheInstr (done ++ instr ∷ [])
front_more b done instr = append_assoc (map ThePhi b.phis) (map TheInstr done) (TheInstr instr ∷ []) ∙ ap (λ (is : List Item). map ThePhi b.phis ++ is) (sym (more done))
  where
    more : (xs : List Instr) → map TheInstr (xs ++ instr ∷ []) ≡ map TheInstr xs ++ TheInstr instr ∷ []
    more [] = refl
    more (x ∷ xs) = ap (λ is. TheInstr x ∷ is) (more xs)

shaped_instr : (m : Module) (k : ℕ) (b : Block) (done : List Instr) (instr : Instr) (rest : List Instr) → IsShaped m → slice_get m.blocks k ≡ Some b → b.body ≡ done ++ instr ∷ rest → IsShapedInstr instr
shaped_instr m k b done instr rest shaped here are = all_at IsShapedInstr b.body (length done) instr (all_at IsShapedBlock m.blocks k b shaped.each_block here).3 (ap (λ (is : List Instr). slice_get is (length done)) are ∙ cut done)
  where
    cut : (xs : List Instr) → slice_get (xs ++ instr ∷ rest) (length xs) ≡ Some instr
    cut [] = refl
    cut (x ∷ xs) = cut xs

rest_free : (m : Module) (bound : ℕ) (enter : Option ℕ → ℕ → Later) (k : ℕ) (b : Block) (turns : ℕ) → IsShaped m → Passes m → EntersFree m bound enter → slice_get m.blocks k ≡ Some b → entries_from m k turns ≤ suc bound
    → (done instrs : List Instr) → b.body ≡ done ++ instrs → (s : State) (outcomes : List Bool) → IsSound m s (known_at m k (map ThePhi b.phis ++ map TheInstr done))
    → IsFree (run_rest (length m.labels) (λ name. jump_to (enter (Some b.name)) k (place_of m.blocks name)) instrs b.last s outcomes turns)
rest_free m bound enter k b turns shaped passes free here ample done [] are s outcomes sound =
    let whole : done ≡ b.body = sym (are ∙ append-nil done) in
    last_free m bound enter k b s outcomes turns passes free here (subst (λ (is : List Instr). IsSound m s (known_at m k (map ThePhi b.phis ++ map TheInstr is))) whole sound) ample b.last refl
rest_free m bound enter k b turns shaped passes free here ample done (instr ∷ instrs) are s outcomes sound =
    let front = map ThePhi b.phis ++ map TheInstr done in
    let met = instruction_met m s k b front instr (map TheInstr instrs ++ TheLast b.last ∷ []) passes (shaped_instr m k b done instr instrs shaped here are) here (items_split b done instr instrs are) sound in
    let more : b.body ≡ (done ++ instr ∷ []) ++ instrs = are ∙ sym (append_assoc done (instr ∷ []) instrs) in
    behind_free (effect_of (length m.labels) s instr) _ (λ s'. IsSound m s' (known_at m k (front ++ TheInstr instr ∷ []))) turns
    (instruction_there m s (known_at m k front) (known_at m k (front ++ TheInstr instr ∷ [])) instr passes met)
    (λ s' os after. rest_free m bound enter k b turns shaped passes free here ample (done ++ instr ∷ []) instrs more s' os (subst (λ (is : List Item). IsSound m s' (known_at m k is)) (front_more b done instr) after))
    outcomes

block_free : (m : Module) (bound : ℕ) (enter : Option ℕ → ℕ → Later) (from : Option ℕ) (to : ℕ) (next : Block) (s : State) (outcomes : List Bool) (turns : ℕ) → IsShaped m → Passes m → EntersFree m bound enter → slice_get m.blocks to ≡ Some next
    → AreTaken m to next.phis from s → entries_from m to turns ≤ suc bound → IsFree (run_block m enter from to (Some next) s outcomes turns)
block_free m bound enter from to next s outcomes turns shaped passes free there phis ample =
    subst (λ (taken : Option State). IsFree (after_phis taken (λ s'. run_rest (length m.labels) (λ name. jump_to (enter (Some next.name)) to (place_of m.blocks name)) next.body next.last s' outcomes turns))) (sym phis.taken)
    (rest_free m bound enter to next turns shaped passes free there ample [] next.body refl phis.s' outcomes
    (subst (λ (is : List Item). IsSound m phis.s' (known_at m to is)) (sym (append-nil (map ThePhi next.phis))) phis.sound))

-- ---- the whole run

from_free : (m : Module) (bound : ℕ) → IsShaped m → Passes m → EntersFree m bound (run_from m bound)
from_free m zero shaped passes from to next s outcomes turns there phis ample = absurd (let inside = slice_get_within m.blocks to next there in omega arith)
from_free m (suc bound) shaped passes from to next s outcomes turns there phis ample =
    subst (λ (here : Option Block). IsFree (run_block m (run_from m bound) from to here s outcomes turns)) (sym there)
    (block_free m bound (run_from m bound) from to next s outcomes turns shaped passes (from_free m bound shaped passes) there phis ample)

first_known : (m : Module) → IsSound m first_state (known_at m 0 [])
first_known m = record { types = record { typed = λ r v is. absurd (cc) }; there = λ t is. absurd (let wrong : false ≡ true = is in cc) }

first_taken : (m : Module) (b : Block) → Passes m → slice_get m.blocks 0 ≡ Some b → (phis : List Phi) → b.phis ≡ phis → AreTaken m 0 phis None first_state
first_taken m b passes here [] are = record { s' = first_state; taken = refl; sound = first_known m }
first_taken m b passes here (p ∷ ps) are =
    absurd (let kept = kept_at m phis_kept 0 b [] (ThePhi p) (map ThePhi ps ++ (map TheInstr b.body ++ TheLast b.last ∷ [])) passes.phis here items in let wrong : false ≡ true = kept in cc)
  where
    items : items_in b ≡ ThePhi p ∷ (map ThePhi ps ++ (map TheInstr b.body ++ TheLast b.last ∷ []))
    items = append_assoc (map ThePhi b.phis) (map TheInstr b.body) (TheLast b.last ∷ []) ∙ ap (λ (qs : List Phi). map ThePhi qs ++ (map TheInstr b.body ++ TheLast b.last ∷ [])) are

first_block : (blocks : List Block) → 0 < length blocks → (b : Block) × (slice_get blocks 0 ≡ Some b)
first_block [] some = absurd (omega arith)
first_block (b ∷ blocks) some = (b, refl)

pub never_stuck : (m : Module) → IsShaped m → Passes m → IsNeverStuck (machine_run m)
never_stuck m shaped passes outcomes turns =
    let first = first_block m.blocks shaped.has_block in
    let all : (turns + 1) * length m.blocks ≡ turns * length m.blocks + length m.blocks = (let one : turns + 1 ≡ suc turns = omega arith in ap (λ n. n * length m.blocks) one ∙ suc-mul turns (length m.blocks)) in
    from_free m ((turns + 1) * length m.blocks) shaped passes None 0 first.0 first_state outcomes turns first.1 (first_taken m first.0 passes first.1 (first.0).phis refl) (omega arith)
