-- The job of a run: what it prints, then how it ended and after how many steps; this project's own.
use Rattle.std.specs.Prelude.{◌≡◌, ℕ, ◌<◌, ◌≤◌, List, [], ◌∷◌, ◌++◌, map, codes, decimal}
use Rattle.std.specs.Int.{cast_signed, w64}
use Rattle.std.specs.Fmt.{signed_decimal}
use Rattle.machine_steps.specs.declared.End.{End}
use Rattle.machine_steps.specs.declared.End.TheVariants.{Value, Trap}
use Rattle.machine_steps.specs.declared.Trap.{Trap as TrapOf}
use Rattle.machine_steps.specs.declared.Trap.TheVariants as trap
use Rattle.machine_steps.specs.Steps.{Going, Over}
use Rattle.machine_steps.specs.Agreement.{Seen}
use Rattle.rwc_reports.specs.Jobs.{Job, lines_job}

-- the names of the traps
abbrev pub trap_name : TrapOf → List ℕ
trap_name trap.DivideByZero = codes "divide-by-zero"
trap_name trap.Overflow = codes "overflow"
trap_name trap.Index = codes "index"
trap_name trap.Unreachable = codes "unreachable"
trap_name trap.Exhausted = codes "exhausted"
trap_name trap.MemoryBounds = codes "memory-bounds"
trap_name trap.TableBounds = codes "table-bounds"
trap_name trap.Uninitialised = codes "uninitialised"
trap_name trap.Signature = codes "signature"

-- a printed number, which stands for a signed one of 64 bits
abbrev pub printed_line : ℕ → List ℕ
printed_line n = signed_decimal (cast_signed w64 n) ++ codes "\n"

-- how a run ended: in a value or a trap, or not within the steps
abbrev pub end_text : End → List ℕ
end_text (Value v) = codes "result " ++ signed_decimal v
end_text (Trap t) = codes "trap " ++ trap_name t

abbrev pub after_line : List ℕ → ℕ → List ℕ
after_line how count = how ++ (codes " after " ++ (decimal count ++ codes " steps\n"))

abbrev pub end_status : End → ℕ
end_status (Value v) = 0
end_status (Trap t) = 6

-- the numbers printed, each on a line, and a last line
abbrev pub run_job : List ℕ → List ℕ → ℕ → Job
run_job printed last status = lines_job (map printed_line printed ++ (last ∷ [])) status

-- The job of a run, seen after each number of steps, of which so many are allowed: it ends after some of them, and not before;
-- or it goes on after all of them.
pub data RunReports (run : ℕ → Seen) (steps : ℕ) (job : Job) : Type 0 where
  ended : (count : ℕ) (printed : List ℕ) (e : End) → count ≤ steps → ((n : ℕ) → n < count → (run n).stand ≡ Going) →
      run count ≡ record { printed = printed; stand = Over e } → job ≡ run_job printed (after_line (end_text e) count) (end_status e) → RunReports run steps job
  spent : (printed : List ℕ) → run steps ≡ record { printed = printed; stand = Going } → job ≡ run_job printed (after_line (codes "spent") steps) 7 → RunReports run steps job
