use Rattle.std.proofs.Common.{◌≡◌, ◌∙◌, refl, sym, ap, false, [], subst, List, ℕ, take, rules}
use Rattle.std.specs.Io.KnownBytes.{Appends}
use Rattle.run_text.specs.Printing.{Desk, desk, Pending, Prints}
use Rattle.run_text.proofs.Prints.{printed_none, printed_out, printed_cut}
use Rattle.run_text.proofs.printer.Printer.flush.Goals as goal

pub returns-in-Ok-clause-prints : goal.returns-in-Ok-clause-prints
returns-in-Ok-clause-prints g c =
    let fresh : c.self.inside.failed ≡ false = search rules in
    let same = ap (λ (p : Pending). p.failed) c.self.view_is in
    let wait = ap (λ (p : Pending). p.waiting) c.self.view_is in
    let taken = g.O.Sink.taken in
    printed_out _ _ (sym same ∙ fresh) fresh c.clear.ensures
    (subst (λ (text : List ℕ). Appends (taken c.args.out.now) (taken c.write_all.new.sink) text) (c.as_slice.ensures.value ∙ wait) c.in-Ok.ensures.all) c.in-Ok.ensures.count

pub returns-in-Err-clause-prints : goal.returns-in-Err-clause-prints
returns-in-Err-clause-prints g c =
    let fresh : c.self.inside.failed ≡ false = search rules in
    let same = ap (λ (p : Pending). p.failed) c.self.view_is in
    let wait = ap (λ (p : Pending). p.waiting) c.self.view_is in
    let taken = g.O.Sink.taken in
    let n = c.in-Err.field-0.written in
    printed_cut _ _ n (sym same ∙ fresh) refl
    (subst (λ (text : List ℕ). Appends (taken c.args.out.now) (taken c.write_all.new.sink) (take n text)) (c.as_slice.ensures.value ∙ wait) c.in-Err.ensures.part) c.in-Err.ensures.count c.in-Err.ensures.fault

pub returns-else-not-self-clause-prints : goal.returns-else-not-self-clause-prints
returns-else-not-self-clause-prints g c = printed_none _
