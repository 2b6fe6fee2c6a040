use Rattle.std.proofs.Common.{[], refl, sym, ◌∙◌, arith}
use Rattle.qasm_ast.specs.Tree.{Tree, call, invoke, trees}
use Rattle.qasm_grammar.specs.Grammar.{at_one}
use Rattle.qasm_grammar.specs.Reader.{read_behind_name}
use Rattle.qasm_parser.proofs.Growing.{after_on, fewer, spend, has_room}
use Rattle.program_parser.proofs.Standing.{later, name_stands, tree_stands, line_stands}
use Rattle.program_parser.proofs.Exits.{handed, behind}
use Rattle.program_parser.proofs.Putting.{no_trees}
use Rattle.program_parser.proofs.Calling.{may_call, call_lasts, is_call}
use Rattle.program_parser.proofs.named.named_line.Goals as goal

pub returns-then-begins : goal.returns-then-begins
unfolding read_behind_name
returns-then-begins c =
    let x = c.in_ok-name.ensures in
    behind 1 1 1 (omega arith) _ _ _ _ _ _ c.assignment.result x.after (rw (x.read, sym x.after.text, sym c.begins.ensures ∙ c.if-begins.true) refl) (c.assignment.ensures x.value (name_stands _ _ _ x.shown))

pub returns-then-not-sees : goal.returns-then-not-sees
unfolding read_behind_name
returns-then-not-sees c =
    let x = c.in_ok-name.ensures in
    behind 1 1 1 (omega arith) _ _ _ _ _ _ c.gate_call_line.result x.after (rw (x.read, sym x.after.text, sym c.begins.ensures ∙ c.if-begins.false, sym c.sees.ensures ∙ c.if-not-sees.true) refl) (c.gate_call_line.ensures x.value [] (name_stands _ _ _ x.shown) (no_trees _ _ c.new-none.ensures.items))

pub returns-in_err-args : goal.returns-in_err-args
unfolding read_behind_name
returns-in_err-args c =
    let x = c.in_ok-name.ensures in
    handed _ _ _ _ _ _ c.from_residual-in_err-args.ensures (λ no. rw (x.read, sym x.after.text, sym c.begins.ensures ∙ c.if-begins.false, sym c.sees.ensures ∙ c.if-not-sees.false, c.in_err-args.ensures no) refl)

pub returns-in_err-mark : goal.returns-in_err-mark
unfolding read_behind_name
returns-in_err-mark c =
    let x = c.in_ok-name.ensures in
    let a = c.in_ok-args.ensures in
    handed _ _ _ _ _ _ c.from_residual-in_err-mark.ensures (λ no. rw (x.read, sym x.after.text, sym c.begins.ensures ∙ c.if-begins.false, sym c.sees.ensures ∙ c.if-not-sees.false, a.read, sym a.after.text, sym c.sees-2.ensures ∙ c.if-sees.true, c.in_err-mark.ensures.read no) refl)

pub node-requires-clause-room : goal.node-requires-clause-room
node-requires-clause-room c = has_room c.in_ok-mark.ensures.after

pub node-requires-clause-fits : goal.node-requires-clause-fits
node-requires-clause-fits c =
    let x = c.in_ok-name.ensures in
    let a = c.in_ok-args.ensures in
    let s = c.in_ok-mark.ensures in
    may_call _ _ _ _ _ (later (after_on a.after s.after).longer (name_stands _ _ _ x.shown)) (later s.after.longer a.shown)

pub returns-in_err-call : goal.returns-in_err-call
returns-in_err-call c = handed _ _ _ _ _ _ c.from_residual-in_err-call.ensures (λ no. absurd (no c.in_err-call.ensures.0))

pub returns-then-sees : goal.returns-then-sees
unfolding read_behind_name
returns-then-sees c =
    let x = c.in_ok-name.ensures in
    let a = c.in_ok-args.ensures in
    let s = c.in_ok-mark.ensures in
    let n = c.in_ok-call.ensures in
    let t : Tree = call x.value.0 (trees a.value) x.value.1 in
    let lasts = n.shown t (call_lasts _ _ _ _ _ (later (after_on a.after s.after).longer (name_stands _ _ _ x.shown)) (later s.after.longer a.shown)) in
    let stands = tree_stands _ _ t (n.is_new, lasts) in
    record {
      value = at_one (invoke t) x.value.1;
      shown = line_stands _ _ _ _ _ c.line.ensures (λ v f. let p = stands.holds v f in ((p.0, is_call _ v f c.in_ok-call.call.0 _ _ _ n.is_new p.1), rw (p.1, x.shown.2) refl));
      read = rw (x.read, sym x.after.text, sym c.begins.ensures ∙ c.if-begins.false, sym c.sees.ensures ∙ c.if-not-sees.false, a.read, sym a.after.text, sym c.sees-2.ensures ∙ c.if-sees.true, s.read, n.left) refl;
      after = fewer 2 1 (omega arith) (after_on x.after (after_on a.after (spend s.after n.after)));
    }

pub returns : goal.returns
unfolding read_behind_name
returns c =
    let x = c.in_ok-name.ensures in
    let a = c.in_ok-args.ensures in
    behind 2 1 1 (omega arith) _ _ _ _ _ _ c.gate_call_line-2.result (after_on x.after a.after) (rw (x.read, sym x.after.text, sym c.begins.ensures ∙ c.if-begins.false, sym c.sees.ensures ∙ c.if-not-sees.false, a.read, sym a.after.text, sym c.sees-2.ensures ∙ c.if-sees.false) refl) (c.gate_call_line-2.ensures x.value a.value (later a.after.longer (name_stands _ _ _ x.shown)) a.shown)
