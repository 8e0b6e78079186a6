-- The command that the code's value stands for.
use Rattle.std.specs.Prelude.{ℕ, ◌≤◌}
use Rattle.words.specs.declared.Command.{Command}
use Rattle.words.specs.declared.Command.TheVariants.{Build, Run, Exec, Show, Dump}
use Rattle.words.specs.declared.Build.{Build as Built}
use Rattle.words.specs.declared.Run.{Run as Ran}
use Rattle.words.specs.declared.Exec.{Exec as Executed}
use Rattle.words.specs.declared.Show.{Show as Shown}
use Rattle.words.specs.declared.Dump.{Dump as Dumped}
use Rattle.words.specs.declared.SourceFile.{SourceFile}
use Rattle.words.specs.Words as words

abbrev pub spelled_source : SourceFile → words.Source
spelled_source s = record { file = s.file.now; name = s.name.now; kind = s.kind }

abbrev pub spelled_build : Built → words.Command
spelled_build b = words.build b.lin b.unr b.name.now (spelled_source b.source)

abbrev pub spelled_run : Ran → words.Command
spelled_run r = words.run r.lin r.unr r.steps (spelled_source r.source)

abbrev pub spelled_exec : Executed → words.Command
spelled_exec e = words.exec e.steps e.file.now

abbrev pub spelled_show : Shown → words.Command
spelled_show s = words.show (spelled_source s.source)

abbrev pub spelled_dump : Dumped → words.Command
spelled_dump d = words.dump d.file.now

abbrev pub spelled_command : Command → words.Command
spelled_command (Build b) = spelled_build b
spelled_command (Run r) = spelled_run r
spelled_command (Exec e) = spelled_exec e
spelled_command (Show s) = spelled_show s
spelled_command (Dump d) = spelled_dump d

abbrev pub ArePages : ℕ → ℕ → Type 0
ArePages lin unr = (1 ≤ lin) × (lin ≤ 512) × (unr ≤ 512)

abbrev pub AreSteps : ℕ → Type 0
AreSteps steps = (1 ≤ steps) × (steps ≤ 1000000000000)

-- the numbers of a command are in their ranges
abbrev pub InRanges : words.Command → Type 0
InRanges (words.build lin unr name source) = ArePages lin unr
InRanges (words.run lin unr steps source) = ArePages lin unr × AreSteps steps
InRanges (words.exec steps file) = AreSteps steps
InRanges (words.show source) = Unit {0}
InRanges (words.dump file) = Unit {0}
