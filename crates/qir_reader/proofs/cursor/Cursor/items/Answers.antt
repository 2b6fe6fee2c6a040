use Rattle.std.proofs.Common.{◌≡◌, ℕ, ◌+◌, ◌-◌, ◌<◌, ◌++◌, ◌∷◌, [], Bool, true, nat_eq, List, length, Ok, sym, ap, ◌∙◌, subst}
use Rattle.std.proofs.lemmas.Result.{err_from_is_err_and}
use Rattle.grammar_parts.specs.Reading.{heads}
use Rattle.grammar_parts.specs.Kinds.{among}
use Rattle.qir_module.specs.Tokens.{Token}
use Rattle.qir_module.specs.Words.{kind}
use Rattle.qir_module.specs.Reader.{item_kinds, read_item, read_items}
use Rattle.qir_reader.specs.declared.block.Item.{Item}
use Rattle.qir_reader.specs.declared.block.Item.TheVariants.{Phi, Instr}
use Rattle.qir_module.specs.declared.instruction.Instr.{Instr as Bare}
use Rattle.qir_reader.specs.declared.block.Items.{Items}
use Rattle.qir_reader.specs.Parts.{item_of, AddsItem}
use Rattle.qir_reader.proofs.Kept.{ItemsSoFar, items_stop, items_end, items_fail, items_phi, items_instr}
use Rattle.qir_reader.proofs.cursor.Cursor.items.Goals as goal

pub returns-then-not-sees_item : goal.returns-then-not-sees_item
unfolding read_items
returns-then-not-sees_item c =
    let h = c.loop.invariant in
    record { value = h.items; shown = (h.phis_are, h.body_is); read = items_stop h (sym c.sees_item.ensures ∙ c.if-not-sees_item.true) }

pub returns : goal.returns
unfolding read_items
returns c =
    let h = c.loop.invariant in
    record { value = h.items; shown = (h.phis_are, h.body_is); read = items_end c.count-end.result c.loop.counter h c.loop-test.false }

pub returns-in_err-item : goal.returns-in_err-item
unfolding read_items
returns-in_err-item c =
    let p = err_from_is_err_and c.from_residual.result c.from_residual.ensures.1 in
    rw (p.1, p.2) (λ other. items_fail c.count-end.result c.loop.counter c.is_empty.result c.loop.invariant c.loop-test.true (sym c.sees_item.ensures ∙ c.if-not-sees_item.false) (c.is_empty.ensures ∙ ap (λ (l : List Bare). nat_eq (length l) 0) c.as_slice.ensures.value) (c.in_err-item.ensures other))

more : (old ts rest : List Token) (n i : ℕ) (s : Bool) (found new : Items) (item : Item) → ItemsSoFar old (n - i) found.phis.items found.body.items ts → i < n → heads (among kind item_kinds) ts ≡ true
    → s ≡ nat_eq (length found.body.items) 0 → read_item s ts ≡ Ok (item_of item, rest) → AddsItem found item (Ok tt) new → ItemsSoFar old (n - (i + 1)) new.phis.items new.body.items rest
more old ts rest n i s found new (Phi p) h l seen is read added =
    subst (λ xs. ItemsSoFar old (n - (i + 1)) xs new.body.items rest) (sym added.0) (subst (λ ys. ItemsSoFar old (n - (i + 1)) (found.phis.items ++ p ∷ []) ys rest) (sym added.1) (items_phi n i s p h l seen is read))
more old ts rest n i s found new (Instr x) h l seen is read added =
    subst (λ xs. ItemsSoFar old (n - (i + 1)) xs new.body.items rest) (sym added.0) (subst (λ ys. ItemsSoFar old (n - (i + 1)) found.phis.items ys rest) (sym added.1) (items_instr n i s x h l seen is read))

pub loop-preserved : goal.loop-preserved
loop-preserved c =
    more c.args.self.now c.loop.self c.item.new.self c.count-end.result c.loop.counter c.is_empty.result c.loop.found c.add.new.self c.in_ok-item.item c.loop.invariant c.loop-test.true
    (sym c.sees_item.ensures ∙ c.if-not-sees_item.false) (c.is_empty.ensures ∙ ap (λ (l : List Bare). nat_eq (length l) 0) c.as_slice.ensures.value) c.in_ok-item.ensures c.in_ok-add.ensures
