use Rattle.std.proofs.Common.{◌≡◌, List, ℕ, refl, ap, sym, subst, Ok, Err}
use Rattle.std.specs.declared.result.Result.{Result}
use Rattle.wasm_ast.specs.declared.modules.WModule.{WModule}
use Rattle.rwc_acts.specs.declared.ending.Stop.{Stop}
use Rattle.rwc_acts.specs.declared.ending.Stop.TheVariants.{Refused as IsRefused, Unread, Unwritten, Memory}
use Rattle.rwc_acts.specs.Stops.{IsStep, texts_of}
use Rattle.rwc_reports.specs.Binaries.{BinaryDecodes}
use Rattle.rwc_reports.specs.Dumps.{module_lines}
use Rattle.rwc_reports.specs.Steps.{Refused, Onward, goes_on, stops}
use Rattle.rwc_binaries.proofs.decoded.lines_of.Goals as goal

-- a binary that was refused leads to no lines
stopped : (file bytes : List ℕ) (stop : Stop) → IsStep (λ (m : WModule). m) (BinaryDecodes file bytes) (Err stop) → IsStep texts_of (Onward (BinaryDecodes file bytes) (λ m r. r ≡ Ok (module_lines bytes m))) (Err stop)
stopped file bytes (IsRefused status line) step = stops _ step refl
stopped file bytes (Unread line) step = absurd step
stopped file bytes (Unwritten line) step = absurd step
stopped file bytes Memory step = tt

pub returns-in-Ok-lines_of_module : goal.returns-in-Ok-lines_of_module
returns-in-Ok-lines_of_module c =
    goes_on c.module.result.now (subst (λ (tree : WModule). BinaryDecodes c.args.file.now c.args.bytes.now (Ok tree)) (sym c.module.ensures.value) c.in-Ok.ensures)
    (ap (λ (lines : List (List ℕ)). let r : Result (List (List ℕ)) Refused = Ok lines in r) c.in-Ok-lines_of_module.ensures)

pub returns : goal.returns
returns c = stopped c.args.file.now c.args.bytes.now c.in-Err.stop c.in-Err.ensures
