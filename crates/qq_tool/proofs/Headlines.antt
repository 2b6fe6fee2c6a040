-- The headline follows from the whole answer.
use Rattle.std.proofs.Common.{◌≡◌, ◌⊎◌, inl, inr, refl, sym, ap, ◌∙◌, subst, ℕ, List, Option, Some}
use Rattle.qq_base.specs.declared.refusal.Refusal.{Refusal}
use Rattle.qq_tool.specs.declared.status.Status.{Status}
use Rattle.qq_tool.specs.Answer.{Change, Adds, IsAnswer, IsRead, Writes, IsDueStatus, IsShownStatus, IsSuccess, IsFaulty}
use Rattle.qq_tool.specs.Command.{Command, Compile, source_limit}
use Rattle.qq_tool.specs.Compiled.{IsCompiled}
use Rattle.qq_tool.specs.Due.{Texts, DueRefusal, DueOutput, DueOfSource}
use Rattle.qq_tool.specs.Headline.{IsSound, Refuses, Translates, Headline}
use Rattle.qq_tool.specs.Refused.{IsRefused, refusal_line}
use Rattle.qq_tool.specs.Status.{code_of}
use Rattle.qq_tool.specs.Thin.{Thin, Spells}
use Rattle.qq_tool.proofs.Decided.{refused_by}
use Rattle.qq_tool.proofs.Lengths.{not_refused}
use Rattle.qq_tool.proofs.Refusals.{refused_once}
use Rattle.qq_tool.proofs.Texts.{one_program_of}

no_fault : (out err : Change) → (IsFaulty out → ⊥) → (IsFaulty err → ⊥) → IsFaulty out ⊎ IsFaulty err → ⊥
no_fault out err a b (inl faulty) = a faulty
no_fault out err a b (inr faulty) = b faulty

-- a refusal of the text is the one that was due
reported : (bytes : List ℕ) (out err : Change) (status : Status) (texts : Texts) → Writes out err status → Adds err texts.err
    → (due : DueRefusal bytes status texts) → (refusal : Refusal) → IsRefused bytes refusal → Refuses refusal out err (code_of status)
reported bytes out err status texts writes to_err due refusal refused = record {
  refused = ap code_of due.0;
  reported = subst (λ (text : List ℕ). Adds err text) (due.4 ∙ ap refusal_line (refused_once bytes due.2 refusal due.3 refused)) to_err;
  nothing_else = writes.refused due.0;
}

-- a program of the text is the one for which something was due
compiled : (bytes : List ℕ) (out err : Change) (status : Status) (texts : Texts) → Writes out err status → Adds out texts.out
    → (due : DueOutput IsCompiled bytes status texts) → (program : Thin) → Spells bytes program → Translates program out err (code_of status)
compiled bytes out err status texts writes to_out due program spelled =
    subst (λ (p : Thin). Translates p out err (code_of status)) (one_program_of bytes due.2 program due.3 spelled) (record {
      accepted = ap code_of due.0;
      text = texts.out;
      written_out = to_out;
      nothing_else = writes.succeeded (subst IsShownStatus (sym due.0) IsSuccess);
      of = due.4.0;
      reads_back = due.4.3;
      canonical = due.4.2;
      shaped = due.4.1.shaped;
      numbered = due.4.1.numbered;
      passes = due.4.1.passes;
      labels = due.4.1.labels;
      qubits = due.4.1.qubits;
      same_run = due.4.1.same_run;
    })

of_due : (bytes : List ℕ) (input out err : Change) (status : Status) (texts : Texts) → Writes out err status → Adds out texts.out → Adds err texts.err
    → IsRead source_limit bytes input.after → DueOfSource IsCompiled bytes status texts → Headline bytes input out err (code_of status)
of_due bytes input out err status texts writes to_out to_err read (inl due) = record {
  decided = refused_by bytes due.2 due.3;
  refuses = reported bytes out err status texts writes to_err due;
  translates = λ program spelled. absurd (not_refused bytes due.2 (program, spelled) due.3);
  read = read;
}
of_due bytes input out err status texts writes to_out to_err read (inr due) = record {
  decided = inl ((due.2, due.3), λ refusal. not_refused bytes refusal (due.2, due.3));
  refuses = λ refusal refused. absurd (not_refused bytes refusal (due.2, due.3) refused);
  translates = compiled bytes out err status texts writes to_out due;
  read = read;
}

of_answer : (input out err : Change) (status : Status) → IsAnswer (Some Compile) input out err status → (bytes : List ℕ) → input.before ≡ Some bytes → IsSound input out err (code_of status)
    → Headline bytes input out err (code_of status)
of_answer input out err status answer bytes same sound =
    let settled : IsDueStatus status = (
      (λ e. sound.input_sound (answer.read_fault e).1),
      (λ e. no_fault out err sound.out_sound sound.err_sound (answer.writes.write_fault e)),
      (λ e. sound.memory (ap code_of e)),
    ) in
    let told = (answer.tells bytes (λ _. same)).done settled in
    of_due bytes input out err status told.0 answer.writes told.2 told.3 (answer.read settled source_limit bytes refl same) told.1

pub headline : (words : Option Command) (input out err : Change) (status : Status) (number : ℕ) → number ≡ code_of status → IsAnswer words input out err status → words ≡ Some Compile
    → (bytes : List ℕ) → input.before ≡ Some bytes → IsSound input out err number → Headline bytes input out err number
headline words input out err status number is answer compile bytes same sound =
    let said = subst (λ (w : Option Command). IsAnswer w input out err status) compile answer in
    subst (λ n. Headline bytes input out err n) (sym is) (of_answer input out err status said bytes same (subst (λ n. IsSound input out err n) is sound))
