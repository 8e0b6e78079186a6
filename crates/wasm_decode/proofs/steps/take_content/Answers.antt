use Rattle.std.proofs.Common.{inr}
use Rattle.wasm_decode.proofs.InContents.{too_short}
use Rattle.wasm_contents.proofs.ContentsWantBytes.{wants_content}
use Rattle.wasm_decode.proofs.steps.take_content.Goals as goal

pub returns-then-behind-eq0 : goal.returns-then-behind-eq0
returns-then-behind-eq0 c = λ last. inr (too_short c.args.behind c.args.at last _ c.fault_at.ensures c.if-behind-eq0.true (wants_content _ _) (rw c.in-Ok-Some.field-0-is at c.in-Ok-Some.ensures))
