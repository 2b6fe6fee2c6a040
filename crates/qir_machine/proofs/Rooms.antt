-- Room for lists, one item after another, and more room than is needed.
use Rattle.std.proofs.Common.{◌≡◌, ℕ, zero, suc, ◌+◌, ◌<◌, ◌≤◌, List, [], ◌∷◌, ◌++◌, length, take, slice_get, Some, subst, arith}
use Rattle.std.specs.List.{AllByRecursion, flat_map}
use Rattle.qir_module.specs.declared.instruction.Instr.{Instr}
use Rattle.qir_module.specs.declared.instruction.Arg.{Arg}
use Rattle.qir_module.specs.declared.block.Phi.{Phi}
use Rattle.qir_module.specs.declared.block.Block.{Block}
use Rattle.qir_module.specs.Numbered.{registers_of}
use Rattle.qir_machine.specs.declared.layout.Room.{Room}
use Rattle.qir_machine.specs.Effect.{id_in, results_of, IsRoomFor}
use Rattle.qir_machine.specs.Ready.{IsRoomForBlock}
use Rattle.qir_machine.specs.Layout.{IsWithin}

pub all_weaker : {A : Type 0} (P Q : A → Type 0) (xs : List A) → ((x : A) → P x → Q x) → AllByRecursion P xs → AllByRecursion Q xs
all_weaker P Q [] weaker all = tt
all_weaker P Q (x ∷ xs) weaker all = (weaker x all.0, all_weaker P Q xs weaker all.1)

all_append : {A : Type 0} (P : A → Type 0) (xs ys : List A) → AllByRecursion P xs → AllByRecursion P ys → AllByRecursion P (xs ++ ys)
all_append P [] ys a b = b
all_append P (x ∷ xs) ys a b = (a.0, all_append P xs ys a.1 b)

-- one item more
pub all_more : {A : Type 0} (P : A → Type 0) (xs : List A) (i : ℕ) (x : A) → slice_get xs i ≡ Some x → AllByRecursion P (take i xs) → P x → AllByRecursion P (take (i + 1) xs)
all_more P [] i x is all here = absurd (cc)
all_more P (y ∷ ys) zero x is all here = (let same : x ≡ y = cc in subst P same here, tt)
all_more P (y ∷ ys) (suc i) x is all here =
    let same : suc (i + 1) ≡ suc i + 1 = omega arith in
    let rest = all_more P ys i x is all.1 here in
    subst (λ n. AllByRecursion P (take n (y ∷ ys))) same (all.0, rest)

pub instr_weaker : (small large : Room) (instr : Instr) → IsWithin small large → IsRoomFor small.registers small.results instr → IsRoomFor large.registers large.results instr
instr_weaker small large instr within room =
    let registers : small.registers ≤ large.registers = within.registers in
    let results : small.results ≤ large.results = within.results in (
      all_weaker (λ r. r < small.registers) (λ r. r < large.registers) (registers_of instr) (λ r few. omega arith) room.0,
      all_weaker (λ k. k < small.results) (λ k. k < large.results) (results_of instr) (λ k few. omega arith) room.1,
    )

pub phis_weaker : (small large : Room) (phis : List Phi) → IsWithin small large → AllByRecursion (λ (p : Phi). p.register < small.registers) phis → AllByRecursion (λ (p : Phi). p.register < large.registers) phis
phis_weaker small large phis within room =
    let registers : small.registers ≤ large.registers = within.registers in
    all_weaker (λ (p : Phi). p.register < small.registers) (λ (p : Phi). p.register < large.registers) phis (λ p few. omega arith) room

pub block_weaker : (small large : Room) (b : Block) → IsWithin small large → IsRoomForBlock small.registers small.results small.phis b → IsRoomForBlock large.registers large.results large.phis b
block_weaker small large b within room = record {
  for_body = all_weaker (IsRoomFor small.registers small.results) (IsRoomFor large.registers large.results) b.body (λ instr r. instr_weaker small large instr within r) room.for_body;
  for_phis = phis_weaker small large b.phis within room.for_phis;
  for_buffer = let few : length b.phis ≤ small.phis = room.for_buffer in let more : small.phis ≤ large.phis = within.phis in omega arith;
}

pub within_all : (a b c : Room) → IsWithin a b → IsWithin b c → IsWithin a c
within_all a b c ab bc =
    let r : a.registers ≤ b.registers = ab.registers in
    let r' : b.registers ≤ c.registers = bc.registers in
    let k : a.results ≤ b.results = ab.results in
    let k' : b.results ≤ c.results = bc.results in
    let p : a.phis ≤ b.phis = ab.phis in
    let p' : b.phis ≤ c.phis = bc.phis in
    record { registers = omega arith; results = omega arith; phis = omega arith }

-- the ids of one argument more
pub ids_more : (P : ℕ → Type 0) (args : List Arg) (i : ℕ) (arg : Arg) → slice_get args i ≡ Some arg → AllByRecursion P (flat_map id_in (take i args)) → AllByRecursion P (id_in arg) → AllByRecursion P (flat_map id_in (take (i + 1) args))
ids_more P [] i arg is all here = absurd (cc)
ids_more P (a ∷ args) zero arg is all here =
    let same : arg ≡ a = cc in
    all_append P (id_in a) [] (subst (λ (x : Arg). AllByRecursion P (id_in x)) same here) tt
ids_more P (a ∷ args) (suc i) arg is all here =
    let same : suc (i + 1) ≡ suc i + 1 = omega arith in
    subst (λ n. AllByRecursion P (flat_map id_in (take n (a ∷ args)))) same
    (all_append P (id_in a) _ (front (id_in a) _ all) (ids_more P args i arg is (rest (id_in a) _ all) here))
  where
    front : (xs ys : List ℕ) → AllByRecursion P (xs ++ ys) → AllByRecursion P xs
    front [] ys both = tt
    front (x ∷ xs) ys both = (both.0, front xs ys both.1)

    rest : (xs ys : List ℕ) → AllByRecursion P (xs ++ ys) → AllByRecursion P ys
    rest [] ys both = both
    rest (x ∷ xs) ys both = rest xs ys both.1
