use Rattle.std.proofs.Common.{◌∙◌, ap}
use Rattle.wasm_run.specs.Progress.{Progress}
use Rattle.wasm_run.proofs.Turning.{no_bytes}
use Rattle.wasm_run.proofs.machine.Machine.bytes.Goals as goal

pub returns-clause-none : goal.returns-clause-none
returns-clause-none c = λ none. c.as_slice.ensures ∙ no_bytes c.self.inside.state.memory (c.self.invariant.2 (ap (λ (p : Progress). p.source.memories) c.self.view_is ∙ none))
