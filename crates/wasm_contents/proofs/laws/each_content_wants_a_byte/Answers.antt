use Rattle.wasm_contents.proofs.ContentsWantBytes.{wants_content}
use Rattle.wasm_contents.proofs.laws.each_content_wants_a_byte.Goals as goal

pub returns : goal.returns
returns c = wants_content
