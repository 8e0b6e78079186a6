use Rattle.std.proofs.lemmas.Bool.{ltb-true}
use Rattle.wasm_decode.proofs.Decoding.{preamble_truncated, size_truncated, custom_truncated, content_truncated}
use Rattle.wasm_decode.proofs.steps.wants_a_byte.Goals as goal

pub returns-in-Preamble-clause-yes : goal.returns-in-Preamble-clause-yes
returns-in-Preamble-clause-yes c = λ t at last m. rw c.in-Preamble.is (preamble_truncated c.in-Preamble.index at last m (ltb-true _ _ t))

pub returns-in-Size-clause-yes : goal.returns-in-Size-clause-yes
returns-in-Size-clause-yes c = λ t at last m. rw c.in-Size.is (size_truncated c.in-Size.field-0 at last m c.in-Size.field-1)

pub returns-in-Custom-clause-yes : goal.returns-in-Custom-clause-yes
returns-in-Custom-clause-yes c = λ t at last m. rw c.in-Custom.is (custom_truncated c.in-Custom.field-0 at last m)

pub returns-in-Content-clause-yes : goal.returns-in-Content-clause-yes
returns-in-Content-clause-yes c = λ t at last m. rw c.in-Content.is (content_truncated c.in-Content.field-0 at last m c.in-Content.field-1)
