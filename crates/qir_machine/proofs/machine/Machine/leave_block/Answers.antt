use Rattle.std.proofs.Common.{◌≡◌, refl, sym, subst, ap, length, arith}
use Rattle.std.specs.List.{AllByRecursion}
use Rattle.qir_machine.specs.Remaining.{Run}
use Rattle.qir_machine.specs.Phis.{HasRegister}
use Rattle.qir_machine.specs.Ready.{items_here}
use Rattle.qir_machine.proofs.Runs.{stays_free}
use Rattle.qir_machine.proofs.Parting.{ways_inside, enters_inside, room_there, entered_ready, goes_forwards, goes_back, back_free, phis_are_taken, ends_here, goes_somewhere}
use Rattle.qir_machine.proofs.machine.Machine.leave_block.Goals as goal

pub ways_at-requires : goal.ways_at-requires
ways_at-requires c = ways_inside _ _ _ c.self.invariant

pub block_at-requires : goal.block_at-requires
block_at-requires c = enters_inside _ _ _ _ _ _ c.self.invariant c.block_at-block.ensures c.ways_at.ensures c.in-Enters.ensures

pub enter_phis-requires-clause-registers : goal.enter_phis-requires-clause-registers
enter_phis-requires-clause-registers c =
    subst (λ phis. AllByRecursion (HasRegister c.self.inside.memory) phis) (sym c.phis_of-phis.ensures) (room_there _ _ _ _ _ c.self.invariant c.block_at.ensures).for_phis

pub enter_phis-requires-clause-buffer : goal.enter_phis-requires-clause-buffer
enter_phis-requires-clause-buffer c =
    let few = (room_there _ _ _ _ _ c.self.invariant c.block_at.ensures).for_buffer in
    let same = ap length c.phis_of-phis.ensures in
    omega arith

pub unreachable-requires : goal.unreachable-requires
unreachable-requires c =
    phis_are_taken _ _ _ _ _ _ _ _
    (record { ready = c.self.invariant; here = c.block_at-block.ensures; found = c.ways_at.ensures; end = subst (λ (r : Run). r.item ≡ items_here r) (sym c.self.view_is) c.requires })
    c.in-Enters.ensures c.block_at.ensures c.phis_of-phis.ensures c.if-not-enter_phis.ensures.state

pub unreachable-requires-in-Nowhere : goal.unreachable-requires-in-Nowhere
unreachable-requires-in-Nowhere c =
    goes_somewhere _ _ _ _ _
    (record { ready = c.self.invariant; here = c.block_at-block.ensures; found = c.ways_at.ensures; end = subst (λ (r : Run). r.item ≡ items_here r) (sym c.self.view_is) c.requires })
    c.in-Nowhere.ensures

pub returns-in-Ends : goal.returns-in-Ends
returns-in-Ends c = λ outcome. rw (← c.self.view_is) (record {
  of = refl;
  is_step =
      ends_here _ _ _ _ _
      (record { ready = c.self.invariant; here = c.block_at-block.ensures; found = c.ways_at.ensures; end = subst (λ (r : Run). r.item ≡ items_here r) (sym c.self.view_is) c.requires })
      c.in-Ends.ensures;
  records_last = tt;
})

pub invariant_of-self : goal.invariant_of-self
invariant_of-self c =
    entered_ready _ _ _ _ _ _ _ _ c.self.invariant c.block_at.ensures c.enter_phis.ensures.buffer c.enter_phis.ensures.registers c.enter_phis.ensures.results
    (stays_free _ _ (goes_forwards _ _ _ _ _ _ _ _ c.enter_phis.new.memory.registers.items c.enter_phis.new.memory.results.items
    (record { ready = c.self.invariant; here = c.block_at-block.ensures; found = c.ways_at.ensures; end = subst (λ (r : Run). r.item ≡ items_here r) (sym c.self.view_is) c.requires })
    c.in-Enters.ensures c.block_at.ensures c.phis_of-phis.ensures c.if-not-enter_phis.ensures.state c.if-later.true) c.self.invariant.never_stuck)

pub invariant_of-self-in-Enters : goal.invariant_of-self-in-Enters
invariant_of-self-in-Enters c =
    entered_ready _ _ _ _ _ _ _ _ c.self.invariant c.block_at.ensures c.enter_phis.ensures.buffer c.enter_phis.ensures.registers c.enter_phis.ensures.results
    (back_free _ _ _ _ _ _ _ _ c.enter_phis.new.memory.registers.items c.enter_phis.new.memory.results.items
    (record { ready = c.self.invariant; here = c.block_at-block.ensures; found = c.ways_at.ensures; end = subst (λ (r : Run). r.item ≡ items_here r) (sym c.self.view_is) c.requires })
    c.in-Enters.ensures c.block_at.ensures c.phis_of-phis.ensures c.if-not-enter_phis.ensures.state c.if-later.false)

pub returns-then-later : goal.returns-then-later
returns-then-later c = λ outcome. rw (← c.self.view_is) (record {
  goes_on = record {
    of = refl;
    same = goes_forwards _ _ _ _ _ _ _ _ c.enter_phis.new.memory.registers.items c.enter_phis.new.memory.results.items
        (record { ready = c.self.invariant; here = c.block_at-block.ensures; found = c.ways_at.ensures; end = subst (λ (r : Run). r.item ≡ items_here r) (sym c.self.view_is) c.requires })
        c.in-Enters.ensures c.block_at.ensures c.phis_of-phis.ensures c.if-not-enter_phis.ensures.state c.if-later.true;
  };
  later = c.if-later.true;
  inside = enters_inside _ _ _ _ _ _ c.self.invariant c.block_at-block.ensures c.ways_at.ensures c.in-Enters.ensures;
})

pub returns-else-later : goal.returns-else-later
returns-else-later c = λ outcome. rw (← c.self.view_is) (record {
  of = refl;
  is_step = goes_back _ _ _ _ _ _ _ _ c.enter_phis.new.memory.registers.items c.enter_phis.new.memory.results.items
      (record { ready = c.self.invariant; here = c.block_at-block.ensures; found = c.ways_at.ensures; end = subst (λ (r : Run). r.item ≡ items_here r) (sym c.self.view_is) c.requires })
      c.in-Enters.ensures c.block_at.ensures c.phis_of-phis.ensures c.if-not-enter_phis.ensures.state c.if-later.false;
  records_last = tt;
})
