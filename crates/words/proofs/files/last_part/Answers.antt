use Rattle.std.proofs.Common.{◌+◌, ◌-◌, ℕ, sym, ◌∙◌, ap, drop, length, arith, length-drop}
use Rattle.std.proofs.lemmas.List.{take_all}
use Rattle.words.specs.Files.{after_last_slash}
use Rattle.words.proofs.Slashes.{last_after_first, last_is_all, found, missed}
use Rattle.words.proofs.files.last_part.Goals as goal

pub loop-at-preserved : goal.loop-at-preserved
loop-at-preserved c =
    let part = c.loop-at.part.now in
    let at = c.in-Some.at in
    let f = found part at c.in-Some.ensures.place in
    ap after_last_slash (take_all (length part - (at + 1)) (drop (at + 1) part) (omega (arith, length-drop (at + 1) part)))
    ∙ ap (λ (n : ℕ). after_last_slash (drop (n + 1) part)) (sym f.1)
    ∙ sym (last_after_first part f.0) ∙ c.loop-at.invariant

pub returns-in-None : goal.returns-in-None
returns-in-None c =
    let part = c.loop-at.part.now in
    sym (last_is_all part (missed part c.in-None.ensures.place)) ∙ c.loop-at.invariant

pub overflow_add-part : goal.overflow_add-part
overflow_add-part c = omega (arith, c.in-Some.ensures.small)
