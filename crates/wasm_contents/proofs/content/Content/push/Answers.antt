use Rattle.wasm_contents.proofs.EntrySteps.{before_the_end}
use Rattle.wasm_contents.proofs.content.Content.push.Goals as goal

pub returns-in-Entries : goal.returns-in-Entries
returns-in-Entries c = rw c.in-Entries.is (before_the_end _ _ _ _ c.push_entries.result c.push_entries.ensures)
