use Rattle.std.proofs.Common.{◌≡◌, ◌≢◌, ◌⊎◌, inl, inr, ℕ, List, refl, ap, ◌∙◌, string_bytes, Err}
use Rattle.std.specs.declared.result.Result.{Result}
use Rattle.wasm_ast.specs.declared.modules.WModule.{WModule}
use Rattle.wasm_items.specs.Residuals.{no_memory}
use Rattle.wasm_reading.specs.declared.fault.DecodeError.{DecodeError}
use Rattle.wasm_reading_laws.specs.ModulesRead.{HasFirstFault}
use Rattle.rwc_acts.specs.declared.ending.Stop.{Stop}
use Rattle.rwc_acts.specs.declared.ending.Stop.TheVariants.{Refused as IsRefused, Unread, Unwritten, Memory}
use Rattle.rwc_acts.specs.Stops.{IfStop, IsStep}
use Rattle.rwc_reports.specs.Binaries.{BinaryDecodes, decoded, malformed, malformed_refusal}
use Rattle.rwc_reports.specs.Steps.{Refused}
use Rattle.rwc_binaries.proofs.decoded.decode_binary.Goals as goal

-- a refusal by a fault is that of the first fault
fault_refused : (file bytes : List ℕ) (error : DecodeError) (stop : Stop) → (error ≡ no_memory) ⊎ HasFirstFault bytes error →
    IfStop stop (λ status line. (error ≢ no_memory) × (status ≡ 9) × (line ≡ (malformed_refusal file error).line)) (λ _. ⊥) (λ _. ⊥) → IsStep (λ (m : WModule). m) (BinaryDecodes file bytes) (Err stop)
fault_refused file bytes error (IsRefused status line) (inl memory) says = absurd (says.0 memory)
fault_refused file bytes error (IsRefused status line) (inr first) says =
    malformed error first (ap (λ (s : ℕ). let r : Result WModule Refused = Err (record { status = s; line = string_bytes line }) in r) says.1 ∙ ap (λ (l : List ℕ). let r : Result WModule Refused = Err (record { status = 9; line = l }) in r) says.2)
fault_refused file bytes error (Unread line) which says = absurd says
fault_refused file bytes error (Unwritten line) which says = absurd says
fault_refused file bytes error Memory which says = tt

pub returns-in-Ok : goal.returns-in-Ok
returns-in-Ok c = decoded c.in-Ok.decoded c.in-Ok.ensures.spelled refl

pub returns-in-Err : goal.returns-in-Err
returns-in-Err c = fault_refused c.args.file.now c.args.bytes.now c.in-Err.error c.refuse.result c.in-Err.ensures.fault c.refuse.ensures
