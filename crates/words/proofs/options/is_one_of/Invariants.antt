use Rattle.std.proofs.Common.{◌≡◌, map, drop}
use Rattle.std.specs.List.{list_any}
use Rattle.std.specs.Str.{bytes_eq}
use Rattle.words.proofs.options.is_one_of.Given as goal

-- all depends on the flags that are left
abbrev pub invariant-loop-flag : goal.invariant-loop-flag
invariant-loop-flag l =
    list_any (bytes_eq l.word) (map (λ flag. flag.now) l.flags) ≡ list_any (bytes_eq l.word) (map (λ flag. flag.now) (drop l.flag-index l.flags))
