use Rattle.std.proofs.Common.{◌≡◌, map, string_bytes, length}
use Rattle.words.specs.Reading.{files_after}
use Rattle.words.proofs.options.files.Given as goal

-- what is left has the same files
abbrev pub invariant-loop-front : goal.invariant-loop-front
invariant-loop-front l = files_after (map string_bytes l.rest) ≡ files_after (map string_bytes l.words)

abbrev pub decreases-loop-front : goal.decreases-loop-front
decreases-loop-front l = length l.rest
