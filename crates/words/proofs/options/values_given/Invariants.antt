use Rattle.std.proofs.Common.{map, string_bytes, length}
use Rattle.words.specs.Words.{values_for}
use Rattle.words.specs.Reading.{settings_of}
use Rattle.words.proofs.Values.{GivenSoFar}
use Rattle.words.proofs.options.values_given.Given as goal

-- what was met so far, and the values that are left
abbrev pub invariant-loop-front : goal.invariant-loop-front
invariant-loop-front l =
    GivenSoFar l.given (values_for l.flag (settings_of (map string_bytes l.rest))) (values_for l.flag (settings_of (map string_bytes l.words)))

abbrev pub decreases-loop-front : goal.decreases-loop-front
decreases-loop-front l = length l.rest
