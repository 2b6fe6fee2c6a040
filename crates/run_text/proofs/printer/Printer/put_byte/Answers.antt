use Rattle.std.proofs.Common.{◌≡◌, ◌∙◌, refl, sym, ap, true, ℕ, List, [], ◌∷◌, ◌++◌, rules}
use Rattle.run_text.specs.Printing.{Pending}
use Rattle.run_text.proofs.Prints.{printed_then, printed_waiting, printed_over}
use Rattle.run_text.proofs.printer.Printer.put_byte.Goals as goal

pub returns-then-not-self : goal.returns-then-not-self
returns-then-not-self g c =
    let same = ap (λ (p : Pending). p.failed) c.self.view_is in
    let wait = ap (λ (p : Pending). p.waiting) c.self.view_is in
    printed_then c.make_room.ensures.prints (printed_waiting _ _ _ _ (c.args.byte ∷ []) (sym same) (c.push.ensures.items ∙ ap (λ (t : List ℕ). t ++ c.args.byte ∷ []) wait))

pub returns-else-not-self : goal.returns-else-not-self
returns-else-not-self g c =
    let over : c.self.inside.failed ≡ true = search rules in
    let same = ap (λ (p : Pending). p.failed) c.self.view_is in
    printed_then c.make_room.ensures.prints (printed_over _ (c.args.byte ∷ []) (sym same ∙ over))
