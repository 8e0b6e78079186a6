-- The entries of sections that have instructions are read exactly, since expressions and constant expressions are.
use Rattle.wasm_reading_values.specs.EntriesRead.{GlobalsReadExactly, ElementsReadExactly, SegmentsReadExactly, CodesReadExactly, CodeVectorsReadExactly}
use Rattle.wasm_reading_values.proofs.ExactEntries.{global_entry, element_entry, segment_entry}
use Rattle.wasm_reading_values.proofs.ExactCodes.{code_entry, codes}
use Rattle.wasm_reading_bodies.proofs.Spelled.{short_expressions_fit}
use Rattle.wasm_reading_bodies.proofs.ExactPlain.{constant}
use Rattle.wasm_reading_bodies.proofs.ExactBodies.{expression}

pub globals : GlobalsReadExactly
globals = global_entry constant

pub elements : ElementsReadExactly
elements = element_entry constant

pub segments : SegmentsReadExactly
segments = segment_entry constant

pub code : CodesReadExactly
code = code_entry expression short_expressions_fit

pub code_vectors : CodeVectorsReadExactly
code_vectors = codes code
