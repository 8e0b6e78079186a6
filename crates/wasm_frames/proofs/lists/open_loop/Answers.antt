use Rattle.std.proofs.Common.{refl}
use Rattle.wasm_levels.specs.declared.row.Aim.TheVariants.{Back}
use Rattle.wasm_frames.proofs.Moving.{stays_in_call, opened, given}
use Rattle.wasm_frames.proofs.lists.open_loop.Goals as goal

pub returns-clause-does : goal.returns-clause-does
returns-clause-does c =
    let g = given c.args.ty c.is_some.result c.is_some.ensures in
    opened c.args.frames.now c.enter.new.values c.enter.new.levels c.args.body c.in_ok-enter.ensures.stays (Back c.args.body) c.is_some.result 0 c.args.rest.now c.args.ty g refl c.in_ok-enter.ensures.does

pub returns-clause-stays : goal.returns-clause-stays
returns-clause-stays c = stays_in_call c.args.frames.now c.enter.new.values c.enter.new.levels c.args.body c.in_ok-enter.ensures.stays c.in_ok-enter.ensures.capacity
