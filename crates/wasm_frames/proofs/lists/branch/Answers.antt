use Rattle.wasm_execution.specs.Control.{branch_to}
use Rattle.wasm_frames.proofs.Moving.{stays_in_call, moved}
use Rattle.wasm_frames.proofs.lists.branch.Goals as goal

pub returns-clause-does : goal.returns-clause-does
returns-clause-does c rest =
    moved c.args.frames.now c.branch-frames.new.values c.branch-frames.new.levels c.branch-frames.result c.branch-frames.ensures.stays (λ e. branch_to e c.args.label) rest c.branch-frames.ensures.does

pub returns-clause-stays : goal.returns-clause-stays
returns-clause-stays c = stays_in_call c.args.frames.now c.branch-frames.new.values c.branch-frames.new.levels c.branch-frames.result c.branch-frames.ensures.stays c.branch-frames.ensures.capacity
