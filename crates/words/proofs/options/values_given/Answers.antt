use Rattle.std.proofs.Common.{◌≡◌, ◌∷◌, List, map, string_bytes, sym, subst}
use Rattle.words.specs.declared.options.Given.{Given}
use Rattle.words.specs.Words.{Setting, values_for}
use Rattle.words.specs.Reading.{settings_of, shown_front}
use Rattle.words.proofs.Values.{GivenSoFar, front_settings, skips, meets}
use Rattle.words.proofs.options.values_given.Goals.{then-eq, else-eq}
use Rattle.words.proofs.options.values_given.Goals as goal

pub loop-front-preserved : goal.loop-front-preserved
loop-front-preserved c =
    let all = values_for c.args.flag.now (settings_of (map string_bytes c.args.words.now)) in
    let front = shown_front c.in-Some.front in
    let split : settings_of (map string_bytes c.loop-front.rest.now) ≡ front.0 ∷ settings_of front.1 =
    front_settings (map string_bytes c.loop-front.rest.now) front.0 front.1 (sym c.in-Some.ensures.front) in
    let g = subst (λ (s : List Setting). GivenSoFar c.loop-front.given (values_for c.args.flag.now s) all) split c.loop-front.invariant in
    elim c.if-eq.branch [
      | then-eq w ↦ subst (λ (met : Given). GivenSoFar met (values_for c.args.flag.now (settings_of front.1)) all) (sym w.given-is)
          (meets c.args.flag.now front.0 (settings_of front.1) c.loop-front.given w.one_more-given.result all (sym w.if-eq.ensures) w.one_more-given.ensures g)
      | else-eq w ↦ subst (λ (met : Given). GivenSoFar met (values_for c.args.flag.now (settings_of front.1)) all) (sym w.given-is)
          (skips c.args.flag.now front.0 (settings_of front.1) c.loop-front.given all (sym w.if-eq.ensures) g)
    ]
