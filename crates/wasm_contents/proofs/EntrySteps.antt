-- What an answer makes of a byte before each declared end other than its place, it makes of it before the declared end.
use Rattle.std.proofs.Common.{ℕ, inl, inr}
use Rattle.std.specs.Prelude.{Option, None, Some, Result, Ok, Err}
use Rattle.wasm_ast.specs.declared.modules.WModule.{WModule}
use Rattle.wasm_reading.specs.declared.fault.DecodeError.{DecodeError}
use Rattle.wasm_reading.specs.Readers.{Reader}
use Rattle.wasm_items.specs.Residuals.{Stops}
use Rattle.wasm_codes.specs.Places.{StopsBefore}
use Rattle.wasm_codes.proofs.SizeSteps.{takes_before}
use Rattle.wasm_contents.specs.declared.content.Content.{Content}
use Rattle.wasm_contents.specs.Contents.{rest_of_content, PushesInto, PushesBefore}

stops_before : {old : Reader WModule} {b at : ℕ} {e : DecodeError} → Stops old b at e → StopsBefore old b at e
stops_before (inl none) = inl none
stops_before (inr t) = inr (takes_before t)

pub before_the_end : (old : Reader WModule) (b at : ℕ) (m : WModule) (r : Result (Option Content) DecodeError) → PushesInto rest_of_content old b at m r → PushesBefore old b at m r
before_the_end old b at m (Ok (Some state)) t = takes_before t
before_the_end old b at m (Ok None) t = takes_before t
before_the_end old b at m (Err e) t = stops_before t
