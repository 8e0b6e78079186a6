use Rattle.std.proofs.Common.{◌≡◌, ◌++◌, drop, string_bytes}
use Rattle.rwc_reports.specs.Refusals.{dotted, path_text}
use Rattle.rwc_refusals.proofs.refusals.path_of.Given as goal

-- the text so far and that of the rest
abbrev pub invariant-loop-n : goal.invariant-loop-n
invariant-loop-n l = string_bytes l.text ++ dotted (drop l.n-index l.rest) ≡ path_text l.fn.path
