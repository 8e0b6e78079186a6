-- The lines that a source leads to, and the text that has them.
use Rattle.std.specs.Prelude.{◌≡◌, ℕ, List, Vec}
use Rattle.std.specs.declared.alloc.Global.{Global}
use Rattle.std.specs.declared.result.Result.{Result}
use Rattle.std.specs.declared.result.Result.TheVariants.{Ok}
use Rattle.rw_io.specs.Files.{NamedFile}
use Rattle.words.specs.Words.{Source}
use Rattle.rwc_reports.specs.Shows.{lines_of, shown_lines}
use Rattle.rwc_reports.specs.Sources.{FileLoads, TextReads}
use Rattle.rwc_reports.specs.Steps.{Refused, Onward}

-- the lines of a text
abbrev pub lines_in : Vec ℕ Global → List (List ℕ)
lines_in text = lines_of text.items

-- the lines that a source's text leads to
abbrev pub TextShows : Source → List ℕ → Result (List (List ℕ)) Refused → Type 0
TextShows source bytes r = Onward (TextReads source.kind source.file bytes) (λ m s. s ≡ Ok (shown_lines m)) r

-- the lines that a told source leads to
abbrev pub ShownLinesLead : List NamedFile → Source → Result (List (List ℕ)) Refused → Type 0
ShownLinesLead told source r = Onward (FileLoads told source.file) (TextShows source) r
