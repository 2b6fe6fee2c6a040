use Rattle.std.proofs.Common.{◌≡◌, ◌<◌, true, false, refl, sym, subst, arith}
use Rattle.qir_machine.specs.Remaining.{Run}
use Rattle.qir_machine.specs.Ready.{items_here}
use Rattle.qir_machine.proofs.Runs.{shown_free}
use Rattle.qir_machine.proofs.Taking.{room_for, never_stuck_at, asking_at, taking, taking_last, taken_ready, next_or_shown}
use Rattle.qir_machine.proofs.machine.Machine.run_instruction.Goals as goal

pub overflow_add-self : goal.overflow_add-self
overflow_add-self c = let fits = c.instruction_at-instr.ensures.fits in omega arith

pub perform-step-requires-clause-goes : goal.perform-step-requires-clause-goes
perform-step-requires-clause-goes c = λ stuck.
    never_stuck_at _ _ _ _ _ _ _ c.self.invariant c.block_at.ensures c.instruction_at-instr.ensures.found c.label_count.ensures c.instruction_effect-effect.ensures.runs stuck

pub perform-step-requires-clause-room : goal.perform-step-requires-clause-room
perform-step-requires-clause-room c = c.instruction_effect-effect.ensures.room _ _ (room_for _ _ _ _ _ c.self.invariant c.block_at.ensures c.instruction_at-instr.ensures.found)

pub perform-step-requires-clause-given : goal.perform-step-requires-clause-given
perform-step-requires-clause-given c = λ asks. let wrong : false ≡ true = c.if-asks.ensures.1 asks in cc

pub invariant_of-self : goal.invariant_of-self
invariant_of-self c =
    taken_ready _ _ _ _ _ c.self.invariant (subst (λ (r : Run). r.item < items_here r) (sym c.self.view_is) c.requires) c.perform-step.ensures.registers c.perform-step.ensures.results
    (shown_free _ _ _ _
    (taking _ _ _ _ _ _ _ _ _ c.perform-step.new.memory.registers.items c.perform-step.new.memory.results.items c.self.invariant c.block_at.ensures c.instruction_at-instr.ensures.found c.label_count.ensures
    c.instruction_effect-effect.ensures.runs c.perform-step.ensures.performed)
    c.self.invariant.never_stuck)

pub returns : goal.returns
returns c =
    rw (← c.self.view_is) (next_or_shown _ _ _ _ refl refl refl
    (taking _ _ _ _ _ _ _ _ _ c.perform-step.new.memory.registers.items c.perform-step.new.memory.results.items c.self.invariant c.block_at.ensures c.instruction_at-instr.ensures.found c.label_count.ensures
    c.instruction_effect-effect.ensures.runs c.perform-step.ensures.performed)
    (taking_last _ _ _ _ _ _ _ _ _ c.perform-step.new.memory.registers.items c.perform-step.new.memory.results.items c.self.invariant c.block_at.ensures c.instruction_at-instr.ensures.found c.label_count.ensures
    c.instruction_effect-effect.ensures.runs c.perform-step.ensures.performed))

pub returns-then-asks : goal.returns-then-asks
returns-then-asks c =
    rw (← c.self.view_is) (record {
      of = refl;
      is_step =
          asking_at _ _ _ _ _ _ _ _ c.self.invariant c.block_at.ensures c.instruction_at-instr.ensures.found c.label_count.ensures c.instruction_effect-effect.ensures.runs (c.if-asks.ensures.0 refl);
      records_last = tt;
    })
