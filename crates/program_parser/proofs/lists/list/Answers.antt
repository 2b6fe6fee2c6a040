use Rattle.std.proofs.Common.{◌≡◌, ◌+◌, ◌<◌, ◌∷◌, ◌++◌, [], true, ◌||◌, Ok, length, sym, ap, ◌∙◌, length-append, arith}
use Rattle.grammar_parts.specs.Reading.{heads}
use Rattle.qasm_expr.specs.Reader.{begins}
use Rattle.qasm_parser.specs.Shows.{Each}
use Rattle.qasm_parser.proofs.Growing.{after_same, after_on, fewer}
use Rattle.qasm_parser.proofs.Showing.{shorter, each_on, each_none, each_more}
use Rattle.qasm_parser.proofs.Exits.{pushed}
use Rattle.qasm_parser.proofs.Listing.{listing_start, listing_stop, listing_err, listing_end, listing_more}
use Rattle.program_parser.specs.World.{Stands}
use Rattle.program_parser.proofs.Standing.{later, each_stands}
use Rattle.program_parser.proofs.Exits.{handed}
use Rattle.program_parser.proofs.lists.list.Goals as goal

pub items-init : goal.items-init
items-init g c =
    record {
      listing = listing_start _ _ _ _ _ _ _ (each_none _ _ c.new-found.ensures.items);
      count = omega (arith, ap length c.new-found.ensures.items);
      after = after_same _;
    }

pub returns-in_err-item : goal.returns-in_err-item
returns-in_err-item g c =
    let at' = c.items.invariant.after.text in
    let begun : (c.items.first || heads (begins c.args.parser.now.text g.T.Item.kinds) c.items.parser.left) ≡ true = rw (sym at') (sym c.may_take.ensures ∙ c.items-test.true) in
    handed _ _ _ _ _ _ c.from_residual.ensures (λ no. listing_err _ _ _ c.items.invariant.listing begun _ (rw (sym at') (c.in_err-item.ensures no)))

pub returns-then-not-eat : goal.returns-then-not-eat
returns-then-not-eat g c =
    let at' = c.items.invariant.after.text in
    let begun : (c.items.first || heads (begins c.args.parser.now.text g.T.Item.kinds) c.items.parser.left) ≡ true = rw (sym at') (sym c.may_take.ensures ∙ c.items-test.true) in
    let l = c.items.invariant.listing in
    let r = c.in_ok-item.ensures in
    let read : g.T.Item.reader c.args.parser.now.text c.args.room c.items.parser.left ≡ Ok (r.value, c.read.new.parser.left) = rw (sym at') r.read in
    let moved : length c.read.new.parser.left < length c.items.parser.left = omega (arith, shorter r.after) in
    let push = pushed c.push.result c.items.found.items c.push.new.self.items (c.items.found.items ++ c.in_ok-item.item ∷ []) c.push.ensures.items (sym c.is_err.ensures.value ∙ c.if-is_err.false) in
    let size : length c.push.new.self.items ≡ length c.items.found.items + 1 = ap length push ∙ length-append c.items.found.items (c.in_ok-item.item ∷ []) in
    let seen = each_more (Stands g.T.Item.look c.items.parser) (Stands g.T.Item.look c.read.new.parser) (λ x a h. later r.after.longer h) c.items.found.items c.push.new.self.items l.acc c.in_ok-item.item r.value push l.sees r.shown in
    let count = c.items.invariant.count in
    let e = c.if-not-eat.ensures in
    rw e.1 (record {
      value = l.acc ++ r.value ∷ [];
      shown = each_stands _ _ c.push.new.self (l.acc ++ r.value ∷ []) (omega (arith, size, moved, count, c.alloc.ensures)) seen;
      read = listing_end _ _ _ l begun c.read.new.parser.left r.value moved read (rw (sym at', sym r.after.text) e.0);
      after = fewer 1 0 (omega arith) (after_on c.items.invariant.after r.after);
    })

pub items-smaller : goal.items-smaller
items-smaller g c = omega (arith, shorter (after_on c.in_ok-item.ensures.after c.if-not-eat.ensures.after))

pub items-preserved : goal.items-preserved
items-preserved g c =
    let at' = c.items.invariant.after.text in
    let begun : (c.items.first || heads (begins c.args.parser.now.text g.T.Item.kinds) c.items.parser.left) ≡ true = rw (sym at') (sym c.may_take.ensures ∙ c.items-test.true) in
    let l = c.items.invariant.listing in
    let r = c.in_ok-item.ensures in
    let read : g.T.Item.reader c.args.parser.now.text c.args.room c.items.parser.left ≡ Ok (r.value, c.read.new.parser.left) = rw (sym at') r.read in
    let moved : length c.read.new.parser.left < length c.items.parser.left = omega (arith, shorter r.after) in
    let push = pushed c.push.result c.items.found.items c.push.new.self.items (c.items.found.items ++ c.in_ok-item.item ∷ []) c.push.ensures.items (sym c.is_err.ensures.value ∙ c.if-is_err.false) in
    let size : length c.push.new.self.items ≡ length c.items.found.items + 1 = ap length push ∙ length-append c.items.found.items (c.in_ok-item.item ∷ []) in
    let seen = each_more (Stands g.T.Item.look c.items.parser) (Stands g.T.Item.look c.read.new.parser) (λ x a h. later r.after.longer h) c.items.found.items c.push.new.self.items l.acc c.in_ok-item.item r.value push l.sees r.shown in
    let count = c.items.invariant.count in
    let e = c.if-not-eat.ensures in
    record {
      listing = listing_more _ _ _ l begun (Each (Stands g.T.Item.look c.eat.new.self)) c.read.new.parser.left c.eat.new.self.left e.token r.value c.push.new.self.items (each_on _ _ (λ x a h. later e.after.longer h) _ _ seen) moved read e.here (rw (sym at', sym r.after.text) e.seen) (rw (sym at', sym r.after.text) e.read);
      count = omega (arith, size, moved, count, ap length e.here);
      after = fewer 2 0 (omega arith) (after_on c.items.invariant.after (after_on r.after e.after));
    }

pub returns : goal.returns
returns g c =
    let l = c.items.invariant.listing in
    let count = c.items.invariant.count in
    record {
      value = l.acc;
      shown = each_stands _ _ c.items.found l.acc (omega (arith, count, c.alloc.ensures)) l.sees;
      read = listing_stop _ _ _ l (rw (sym c.items.invariant.after.text) (sym c.may_take.ensures ∙ c.items-test.false));
      after = c.items.invariant.after;
    }
