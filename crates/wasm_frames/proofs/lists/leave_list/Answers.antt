use Rattle.wasm_execution.specs.Control as machine
use Rattle.wasm_frames.proofs.Moving.{stays_in_call, moved}
use Rattle.wasm_frames.proofs.lists.leave_list.Goals as goal

pub returns-clause-does : goal.returns-clause-does
returns-clause-does c rest =
    moved c.args.frames.now c.leave-frames.new.values c.leave-frames.new.levels c.leave-frames.result c.leave-frames.ensures.stays (λ e here d. machine.leave e here.levels here d) rest c.leave-frames.ensures.does

pub returns-clause-stays : goal.returns-clause-stays
returns-clause-stays c = stays_in_call c.args.frames.now c.leave-frames.new.values c.leave-frames.new.levels c.leave-frames.result c.leave-frames.ensures.stays c.leave-frames.ensures.capacity
