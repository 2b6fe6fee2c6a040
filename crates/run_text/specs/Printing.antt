-- What a printer does with a text: its sink takes bytes from the front of what waits and of the text behind it.
use Rattle.std.specs.Prelude.{ℕ, ◌≡◌, ◌≤◌, ◌⊎◌, Bool, true, false, List, [], ◌++◌, Option}
use Rattle.std.specs.Io.KnownBytes.{Appends}
use Rattle.qq_streams.specs.Faults.{HasRisen}

-- what waits to be written, and whether a write has failed
pub record Pending : Type 0 where
  pub waiting : List ℕ
  pub failed : Bool

-- what a sink took, its count of faults, and the printer in front of it
pub record Desk : Type 0 where
  pub taken : Option (List ℕ)
  pub faults : ℕ
  pub pending : Pending

abbrev pub desk : Option (List ℕ) → ℕ → Pending → Desk
desk taken faults pending = record { taken = taken; faults = faults; pending = pending }

-- a printer that was not used yet
abbrev pub unused : Pending
unused = record { waiting = []; failed = false }

-- The sink took a part of what waited and of the text, from the front. The rest waits, unless a write failed; then
-- nothing is written from then on.
pub record Prints (old : Desk) (text : List ℕ) (new : Desk) : Type 0 where
  pub part : List ℕ
  pub rest : List ℕ
  pub took : Appends old.taken new.taken part
  pub split : old.pending.waiting ++ text ≡ part ++ rest
  pub waits : new.pending.failed ≡ false → rest ≡ new.pending.waiting
  pub count : old.faults ≤ new.faults
  -- a write failed only where the count of faults rose
  pub risen : new.pending.failed ≡ true → (old.pending.failed ≡ true) ⊎ HasRisen old.faults new.faults
  pub over : old.pending.failed ≡ true → (new.pending.failed ≡ true) × (part ≡ [])
