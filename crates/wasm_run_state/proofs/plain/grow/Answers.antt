use Rattle.wasm_run_state.proofs.Acting.{grown}
use Rattle.wasm_run_state.proofs.plain.grow.Goals as goal

pub returns-clause-does : goal.returns-clause-does
returns-clause-does c e q =
    grown e c.args.state.now c.grow_memory.new.values c.grow_memory.new.memory c.args.rest c.args.most q c.grow_memory.ensures.beneath c.in_ok-grow_memory.ensures.does
