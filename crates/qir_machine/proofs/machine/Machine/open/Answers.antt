use Rattle.qir_machine.proofs.Opening.{starts_with, ready_with}
use Rattle.qir_machine.proofs.NeverStuck.{never_stuck}
use Rattle.qir_machine.proofs.machine.Machine.open.Goals as goal

pub invariant_of-result : goal.invariant_of-result
invariant_of-result c =
    ready_with c.args.«module».now _ _ _ _ _ _ _ _ c.blocks_of-blocks.ensures.shaped (never_stuck c.args.«module».now c.blocks_of-blocks.ensures.shaped c.requires)
    c.in_ok-memory.ensures.registers c.in_ok-memory.ensures.results c.in_ok-buffer.ensures c.blocks_of-blocks.ensures.blocks c.in_ok-ways.ensures c.room_for-room.ensures c.requires.records

pub returns-clause-whole_run : goal.returns-clause-whole_run
returns-clause-whole_run c =
    starts_with c.args.«module».now _ _ _ _ c.in_ok-memory.ensures.registers c.in_ok-memory.ensures.results (c.blocks_of-blocks.ensures.shaped).has_block
    (never_stuck c.args.«module».now c.blocks_of-blocks.ensures.shaped c.requires)
