use Rattle.wasm_reading_bodies.proofs.Bodies.{globals, elements, segments, code, code_vectors}
use Rattle.wasm_reading_bodies.proofs.laws.bodies_are_read_exactly.Goals as goal

pub returns-clause-global : goal.returns-clause-global
returns-clause-global c = globals

pub returns-clause-element : goal.returns-clause-element
returns-clause-element c = elements

pub returns-clause-segment : goal.returns-clause-segment
returns-clause-segment c = segments

pub returns-clause-code : goal.returns-clause-code
returns-clause-code c = code

pub returns-clause-codes : goal.returns-clause-codes
returns-clause-codes c = code_vectors
