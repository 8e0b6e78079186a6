-- Runs and their lines, written out, and the lines of binaries that do not run (this project's own rows).
use Rattle.std.specs.Prelude.{◌≡◌, ℕ, pos, ◌<◌, List, [], ◌∷◌, ◌++◌, Some, None, codes, decimal}
use Rattle.machine_steps.specs.declared.End.{End}
use Rattle.machine_steps.specs.declared.End.TheVariants.{Value, Trap}
use Rattle.machine_steps.specs.declared.Trap.TheVariants.{Overflow}
use Rattle.machine_steps.specs.Steps.{Going, Over}
use Rattle.machine_steps.specs.Agreement.{Seen}
use Rattle.wasm_typing.specs.declared.rule.WRule.TheVariants.{TypeIndex, ManyMemories}
use Rattle.rwc_reports.specs.Acts.{put}
use Rattle.rwc_reports.specs.Executables.{invalid_refusal, start_refusal}
use Rattle.rwc_reports.specs.Runs.{RunReports}

-- a run that goes on until it has ended after so many steps
pub record EndsAfter (run : ℕ → Seen) (count : ℕ) (printed : List ℕ) (e : End) : Type 0 where
  pub going : (n : ℕ) → n < count → (run n).stand ≡ Going
  pub ended : run count ≡ record { printed = printed; stand = Over e }

-- a run that prints 7 and ends in 0 after 6 steps, where more are allowed,
abbrev pub SevenIsReported : Type 0
SevenIsReported = (run : ℕ → Seen) → EndsAfter run 6 (7 ∷ []) (Value (pos 0)) →
    RunReports run 100000000 (record { acts = put (codes "7\n") ∷ put (codes "result 0 after 6 steps\n") ∷ []; line = []; status = 0 })

-- and where as many are;
abbrev pub SixAreEnough : Type 0
SixAreEnough = (run : ℕ → Seen) → EndsAfter run 6 (7 ∷ []) (Value (pos 0)) →
    RunReports run 6 (record { acts = put (codes "7\n") ∷ put (codes "result 0 after 6 steps\n") ∷ []; line = []; status = 0 })

-- one that goes on after all its steps;
abbrev pub FiveAreSpent : Type 0
FiveAreSpent = (run : ℕ → Seen) → run 5 ≡ record { printed = 7 ∷ []; stand = Going } →
    RunReports run 5 (record { acts = put (codes "7\n") ∷ put (codes "spent after 5 steps\n") ∷ []; line = []; status = 7 })

-- and one that traps
abbrev pub TrapIsReported : Type 0
TrapIsReported = (run : ℕ → Seen) → EndsAfter run 4 [] (Trap Overflow) →
    RunReports run 100000000 (record { acts = put (codes "trap overflow after 4 steps\n") ∷ []; line = []; status = 6 })

-- binaries that are invalid or do not start
pub record WorkedRefusals : Type 0 where
  pub in_function : invalid_refusal (codes "a.wasm") (record { func = Some 1; at = 1; rule = TypeIndex }) ≡ record { status = 9; line = codes "invalid a.wasm function 1 at 1 TypeIndex\n" }
  pub outside : invalid_refusal (codes "a.wasm") (record { func = None; at = 0; rule = ManyMemories }) ≡ record { status = 9; line = codes "invalid a.wasm function - at 0 ManyMemories\n" }
  pub imported : start_refusal (codes "a.wasm") (codes "import " ++ decimal 2) ≡ record { status = 9; line = codes "start a.wasm import 2\n" }
  pub segment : start_refusal (codes "x") (codes "segment " ++ decimal 0) ≡ record { status = 9; line = codes "start x segment 0\n" }
  pub no_main : start_refusal (codes "e.wasm") (codes "no main") ≡ record { status = 9; line = codes "start e.wasm no main\n" }
