-- A text that was told on one sink is what was due.
use Rattle.std.proofs.Common.{◌≡◌, ◌≢◌, ◌⊎◌, inl, inr, refl, sym, ◌∙◌, subst, ℕ, List, [], take, drop, append-nil, take-append-drop, Option, Some, None}
use Rattle.std.specs.Io.KnownBytes.{Appends, Keeps}
use Rattle.qq_tool.specs.declared.status.Status.{Status}
use Rattle.qq_tool.specs.declared.status.Status.TheVariants.{Success, Refused, BadWords, ReadFault, WriteFault, OutOfMemory, Asked, Turning}
use Rattle.qq_tool.specs.Answer.{Change, change, Adds, AddsPart, IsDueStatus, IsShownStatus, IsSuccess, IsAsked, IsTurning, Tells, Writes}
use Rattle.qq_tool.specs.Due.{Texts}
use Rattle.qq_tool.specs.Told.{IsTold}

pub keeps_same : (bytes : Option (List ℕ)) → Keeps bytes bytes
keeps_same None = tt
keeps_same (Some xs) = refl

adds_none : (bytes : Option (List ℕ)) → Appends bytes bytes []
adds_none None = tt
adds_none (Some xs) = sym (append-nil xs)

-- a sink that was not touched took the front of every text
untouched : (bytes : Option (List ℕ)) (faults : ℕ) (text : List ℕ) → AddsPart (change bytes bytes faults faults) text
untouched bytes faults text = ([], text, refl, adds_none bytes)

-- the first bytes of a text are a part of it
pub part_of : (c : Change) (text : List ℕ) (n : ℕ) → Adds c (take n text) → AddsPart c text
part_of c text n h = (take n text, drop n text, sym (take-append-drop n text), h)

-- what is answered is due, or a failure
settled : (due : Status → Type 0) (status : Status) → due status ⊎ ((status ≡ WriteFault) ⊎ (status ≡ OutOfMemory)) → IsDueStatus status → due status
settled due status (inl d) h = d
settled due status (inr (inl e)) h = absurd (h.1 e)
settled due status (inr (inr e)) h = absurd (h.2 e)

-- no status is answered that is neither due nor a failure
pub not_told : (due : Status → Type 0) (status other : Status) → due status ⊎ ((status ≡ WriteFault) ⊎ (status ≡ OutOfMemory)) → (due other → ⊥) → other ≢ WriteFault → other ≢ OutOfMemory → status ≢ other
not_told due status other (inl d) not_due a b e = not_due (subst due e d)
not_told due status other (inr (inl w)) not_due a b e = a (sym e ∙ w)
not_told due status other (inr (inr m)) not_due a b e = b (sym e ∙ m)

-- what takes no memory is not for want of it
pub told_alone : (of status : Status) → (status ≡ of) ⊎ ((status ≡ WriteFault) ⊎ (status ≡ OutOfMemory)) → status ≢ OutOfMemory → (status ≡ of) ⊎ (status ≡ WriteFault)
told_alone of status (inl e) not_memory = inl e
told_alone of status (inr (inl e)) not_memory = inr e
told_alone of status (inr (inr e)) not_memory = absurd (not_memory e)

-- ---- a text for `out`

pub tells_out : (D : Status → Texts → Type 0) (due : Status → Type 0) (text : List ℕ) (out : Change) (err : Option (List ℕ)) (faults : ℕ) (status some : Status) → IsTold due text out status → due some
    → ((s : Status) → due s → D s (record { out = text; err = [] })) → Tells D out (change err err faults faults) status
tells_out D due text out err faults status some told is gives = record {
  done = λ h. let d = settled due status told.answer h in (record { out = text; err = [] }, gives status d, told.whole d, adds_none err);
  part = λ h. (some, record { out = text; err = [] }, gives some is, told.part h, untouched err faults []);
}

pub writes_out : (due : Status → Type 0) (text : List ℕ) (out : Change) (err : Option (List ℕ)) (faults : ℕ) (status : Status) → IsTold due text out status → (due Refused → ⊥) → (due ReadFault → ⊥)
    → Writes out (change err err faults faults) status
writes_out due text out err faults status told no_refusal no_fault = record {
  refused = λ h. absurd (not_told due status Refused told.answer no_refusal (λ e. cc) (λ e. cc) h);
  succeeded = λ _. keeps_same err;
  write_fault = λ h. inl (told.fault h);
  read_fault = λ h. absurd (not_told due status ReadFault told.answer no_fault (λ e. cc) (λ e. cc) h);
  memory = λ h. (told.memory h, keeps_same err);
}

-- ---- a text for `err`

unshown : (of status : Status) → of ≢ Success → of ≢ Asked → of ≢ Turning → status ≡ of → IsShownStatus status → ⊥
unshown of status a b c e IsSuccess = a (sym e)
unshown of status a b c e IsAsked = b (sym e)
unshown of status a b c e IsTurning = c (sym e)

-- a status of which a text for `err` tells
pub record IsOfErr (of : Status) : Type 0 where
  pub no_success : of ≢ Success
  pub not_asked : of ≢ Asked
  pub not_turning : of ≢ Turning
  pub no_read_fault : of ≢ ReadFault

pub refused_is : IsOfErr Refused
refused_is = record { no_success = λ e. cc; not_asked = λ e. cc; not_turning = λ e. cc; no_read_fault = λ e. cc }

pub bad_words_is : IsOfErr BadWords
bad_words_is = record { no_success = λ e. cc; not_asked = λ e. cc; not_turning = λ e. cc; no_read_fault = λ e. cc }

not_shown : (of status : Status) → IsOfErr of → (status ≡ of) ⊎ ((status ≡ WriteFault) ⊎ (status ≡ OutOfMemory)) → IsShownStatus status → ⊥
not_shown of status is (inl e) shown = unshown of status is.no_success is.not_asked is.not_turning e shown
not_shown of status is (inr (inl e)) shown = unshown WriteFault status (λ f. cc) (λ f. cc) (λ f. cc) e shown
not_shown of status is (inr (inr e)) shown = unshown OutOfMemory status (λ f. cc) (λ f. cc) (λ f. cc) e shown

pub tells_err : (D : Status → Texts → Type 0) (of : Status) (text : List ℕ) (err : Change) (out : Option (List ℕ)) (faults : ℕ) (status : Status) → IsTold (λ (s : Status). s ≡ of) text err status
    → D of (record { out = []; err = text }) → Tells D (change out out faults faults) err status
tells_err D of text err out faults status told is = record {
  done = λ h. let e = settled (λ (s : Status). s ≡ of) status told.answer h in
      (record { out = []; err = text }, subst (λ (s : Status). D s (record { out = []; err = text })) (sym e) is, adds_none out, told.whole e);
  part = λ h. (of, record { out = []; err = text }, is, untouched out faults [], told.part h);
}

pub writes_err : (of : Status) (text : List ℕ) (err : Change) (out : Option (List ℕ)) (faults : ℕ) (status : Status) → IsOfErr of → IsTold (λ (s : Status). s ≡ of) text err status
    → Writes (change out out faults faults) err status
writes_err of text err out faults status is told = record {
  refused = λ _. keeps_same out;
  succeeded = λ h. absurd (not_shown of status is told.answer h);
  write_fault = λ h. inr (told.fault h);
  read_fault = λ h. absurd (not_told (λ (s : Status). s ≡ of) status ReadFault told.answer (λ e. is.no_read_fault (sym e)) (λ e. cc) (λ e. cc) h);
  memory = λ h. (keeps_same out, told.memory h);
}

-- ---- nothing was written

-- for want of memory, or behind a read fault
pub tells_nothing : (D : Status → Texts → Type 0) (out err : Option (List ℕ)) (out_faults err_faults : ℕ) (status : Status) → (status ≡ OutOfMemory) ⊎ (status ≡ ReadFault)
    → Tells D (change out out out_faults out_faults) (change err err err_faults err_faults) status
tells_nothing D out err out_faults err_faults status (inl e) = record { done = λ h. absurd (h.2 e); part = λ w. absurd (let both : OutOfMemory ≡ WriteFault = sym e ∙ w in cc) }
tells_nothing D out err out_faults err_faults status (inr e) = record { done = λ h. absurd (h.0 e); part = λ w. absurd (let both : ReadFault ≡ WriteFault = sym e ∙ w in cc) }

pub writes_nothing : (out err : Option (List ℕ)) (out_faults err_faults : ℕ) (status : Status) → (status ≡ OutOfMemory) ⊎ (status ≡ ReadFault)
    → Writes (change out out out_faults out_faults) (change err err err_faults err_faults) status
writes_nothing out err out_faults err_faults status (inl e) = record {
  refused = λ _. keeps_same out;
  succeeded = λ _. keeps_same err;
  write_fault = λ w. absurd (let both : OutOfMemory ≡ WriteFault = sym e ∙ w in cc);
  read_fault = λ _. (keeps_same out, keeps_same err);
  memory = λ _. (keeps_same out, keeps_same err);
}
writes_nothing out err out_faults err_faults status (inr e) = record {
  refused = λ _. keeps_same out;
  succeeded = λ _. keeps_same err;
  write_fault = λ w. absurd (let both : ReadFault ≡ WriteFault = sym e ∙ w in cc);
  read_fault = λ _. (keeps_same out, keeps_same err);
  memory = λ _. (keeps_same out, keeps_same err);
}

-- ---- one text told as another

-- the same statuses are due
pub told_as : (due other : Status → Type 0) (text : List ℕ) (sink : Change) (status : Status) → ((s : Status) → due s → other s) → ((s : Status) → other s → due s) → IsTold due text sink status → IsTold other text sink status
told_as due other text sink status to from told = record {
  answer = elim told.answer [ inl d ↦ inl (to status d) | inr e ↦ inr e ];
  whole = λ d. told.whole (from status d);
  part = told.part;
  fault = told.fault;
  memory = told.memory;
}
