use Rattle.std.proofs.Common.{◌≡◌, map, string_bytes, length}
use Rattle.std.specs.List.{list_all, list_any}
use Rattle.std.specs.Str.{bytes_eq}
use Rattle.words.specs.Reading.{settings_of}
use Rattle.words.proofs.options.have_flags.Given as goal

-- the options so far are of these: all depends on what is left
abbrev pub invariant-loop-front : goal.invariant-loop-front
invariant-loop-front l =
    list_all (λ setting. list_any (bytes_eq setting.flag) (map (λ flag. flag.now) l.flags)) (settings_of (map string_bytes l.words))
    ≡ list_all (λ setting. list_any (bytes_eq setting.flag) (map (λ flag. flag.now) l.flags)) (settings_of (map string_bytes l.rest))

abbrev pub decreases-loop-front : goal.decreases-loop-front
decreases-loop-front l = length l.rest
