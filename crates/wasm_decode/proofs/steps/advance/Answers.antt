use Rattle.wasm_decode.proofs.CustomSteps.{size_of_step}
use Rattle.wasm_decode.proofs.steps.advance.Goals as goal

pub returns-in-Preamble-clause-advances : goal.returns-in-Preamble-clause-advances
returns-in-Preamble-clause-advances c = rw c.in-Preamble.is (c.take_preamble.ensures.advances c.args.built.now)

pub returns-in-Preamble-clause-begins : goal.returns-in-Preamble-clause-begins
returns-in-Preamble-clause-begins c = λ zero between. c.take_preamble.ensures.begins zero (rw c.in-Preamble.is at between)

pub returns-in-Between-clause-advances : goal.returns-in-Between-clause-advances
returns-in-Between-clause-advances c = rw c.in-Between.is (c.take_id.ensures.advances c.args.built.now)

pub returns-in-Between-clause-begins : goal.returns-in-Between-clause-begins
returns-in-Between-clause-begins c = λ zero between. c.take_id.ensures.begins zero

pub returns-in-Size-clause-begins : goal.returns-in-Size-clause-begins
returns-in-Size-clause-begins c = λ zero between. absurd (rw c.in-Size.is at between)

pub returns-in-Size-clause-sized : goal.returns-in-Size-clause-sized
returns-in-Size-clause-sized c = size_of_step c.args.step c.in-Size.id c.args.byte c.args.at c.in-Size.number _ c.in-Size.is c.take_size.ensures.sized

pub returns-in-Custom-clause-begins : goal.returns-in-Custom-clause-begins
returns-in-Custom-clause-begins c = λ zero between. absurd (rw c.in-Custom.is at between)

pub returns-in-Content-clause-begins : goal.returns-in-Content-clause-begins
returns-in-Content-clause-begins c = λ zero between. absurd (rw c.in-Content.is at between)

pub returns-in-Content-clause-advances : goal.returns-in-Content-clause-advances
returns-in-Content-clause-advances c = rw c.in-Content.is (c.take_content.ensures c.args.last.now)
