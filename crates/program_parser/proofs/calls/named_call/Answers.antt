use Rattle.std.proofs.Common.{[], refl, sym, ◌∙◌, arith}
use Rattle.qasm_grammar.specs.Reader.{read_named_call}
use Rattle.qasm_parser.proofs.Growing.{after_on}
use Rattle.program_parser.proofs.Standing.{later}
use Rattle.program_parser.proofs.Exits.{handed, behind}
use Rattle.program_parser.proofs.Putting.{no_trees}
use Rattle.program_parser.proofs.calls.named_call.Goals as goal

pub returns-then-not-sees : goal.returns-then-not-sees
unfolding read_named_call
returns-then-not-sees c =
    let x = c.in_ok-gate.ensures in
    behind 1 1 1 (omega arith) _ _ _ _ _ _ c.applied.result x.after (rw (x.read, sym x.after.text, sym c.sees.ensures ∙ c.if-not-sees.true) refl) (c.applied.ensures x.value [] x.shown (no_trees _ _ c.new-none.ensures.items))

pub returns-in_err-args : goal.returns-in_err-args
unfolding read_named_call
returns-in_err-args c =
    let x = c.in_ok-gate.ensures in
    handed _ _ _ _ _ _ c.from_residual-in_err-args.ensures (λ no. rw (x.read, sym x.after.text, sym c.sees.ensures ∙ c.if-not-sees.false, c.in_err-args.ensures no) refl)

pub returns : goal.returns
unfolding read_named_call
returns c =
    let x = c.in_ok-gate.ensures in
    let a = c.in_ok-args.ensures in
    behind 2 1 1 (omega arith) _ _ _ _ _ _ c.applied-2.result (after_on x.after a.after) (rw (x.read, sym x.after.text, sym c.sees.ensures ∙ c.if-not-sees.false, a.read, sym a.after.text) refl) (c.applied-2.ensures x.value a.value (later a.after.longer x.shown) a.shown)
