use Rattle.std.proofs.Common.{◌≡◌, drop}
use Rattle.rw_io.specs.Files.{content_of}
use Rattle.rw_io.specs.MemForms.{named_files}
use Rattle.rw_io.proofs.mem.find.Given as goal

-- the files that are left have the content
abbrev pub invariant-loop-file : goal.invariant-loop-file
invariant-loop-file l = content_of (named_files l.files) l.name ≡ content_of (named_files (drop l.file-index l.files)) l.name
