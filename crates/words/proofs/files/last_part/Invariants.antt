use Rattle.std.proofs.Common.{◌≡◌, length}
use Rattle.words.specs.Files.{after_last_slash}
use Rattle.words.proofs.files.last_part.Given as goal

-- what is left has the same last part
abbrev pub invariant-loop-at : goal.invariant-loop-at
invariant-loop-at l = after_last_slash l.part ≡ after_last_slash l.file

abbrev pub decreases-loop-at : goal.decreases-loop-at
decreases-loop-at l = length l.part
