-- The job of showing a text: it is read, and the canonical text of its module is put, a line after another; this project's own.
use Rattle.std.specs.Prelude.{◌≡◌, ℕ, ◌==◌, if◌then◌else◌, List, [], ◌∷◌}
use Rattle.std.specs.declared.result.Result.{Result}
use Rattle.rw_types.specs.declared.modules.Module.{Module}
use Rattle.rich_text.specs.Layout.{canonical_text}
use Rattle.rw_io.specs.Files.{NamedFile}
use Rattle.words.specs.Words.{Source}
use Rattle.rwc_reports.specs.Jobs.{Job, lines_job, JobOf}
use Rattle.rwc_reports.specs.Sources.{FileLoads, TextReads}
use Rattle.rwc_reports.specs.Steps.{Refused, Onward}

-- a byte before the first of some lines
abbrev pub before_lines : ℕ → List (List ℕ) → List (List ℕ)
before_lines b [] = (b ∷ []) ∷ []
before_lines b (line ∷ lines) = (b ∷ line) ∷ lines

-- the lines of a text, each with its end
abbrev pub lines_of : List ℕ → List (List ℕ)
lines_of [] = []
lines_of (b ∷ bs) = if b == 10 then (b ∷ []) ∷ lines_of bs else before_lines b (lines_of bs)

-- the lines of a module's canonical text
abbrev pub shown_lines : Module → List (List ℕ)
shown_lines m = lines_of (canonical_text m)

-- the module that a told source leads to, which is not checked
abbrev pub ShownLeads : List NamedFile → Source → Result Module Refused → Type 0
ShownLeads told source r = Onward (FileLoads told source.file) (TextReads source.kind source.file) r

-- a told source is read, and its module's canonical text is put
abbrev pub ShowReports : Source → List NamedFile → Job → Type 0
ShowReports source told job = JobOf (ShownLeads told source) (λ m j. j ≡ lines_job (shown_lines m) 0) job
