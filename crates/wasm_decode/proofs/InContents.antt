-- What a byte inside the content of a section makes of what is still read.
use Rattle.std.proofs.Common.{◌≡◌, ◌∙◌, ℕ, ◌+◌, ◌<◌, Bool, true, false, List, refl, ap, sym, arith}
use Rattle.std.proofs.lemmas.Bool.{ne_eqb, eq-eqb}
use Rattle.std.specs.Prelude.{None, Some, Ok, Err, ◌==◌, if◌then◌else◌}
use Rattle.wasm_ast.specs.declared.modules.WModule.{WModule}
use Rattle.wasm_reading.specs.declared.fault.DecodeError.{DecodeError}
use Rattle.wasm_reading.specs.declared.fault.DecodeFault.TheVariants.{BadLength}
use Rattle.wasm_reading.specs.Readers.{Reader, and_then, give, ended}
use Rattle.wasm_items.specs.Residuals.{WantsAByte, stop}
use Rattle.wasm_codes.specs.Places.{TakesBefore}
use Rattle.wasm_decode.specs.Steps.{TakesAtTop, sections_left, content_left}

abbrev bad_length : ℕ → DecodeError
bad_length at = record { at = at; fault = BadLength }

module _ (end last : ℕ) where
  pub takes_within : {old new : Reader WModule} {b at : ℕ} → at < end → TakesBefore old b at new → TakesAtTop (content_left end old last) b at (content_left end new last)
  takes_within {old} {new} {b} {at} h t = record {
    same = λ bs. ap (λ o. and_then (and_then o (ended None end)) (λ m. sections_left last m)) (t.same (Some end) bs h);
  }

  -- the content stops where the reader stops
  pub stops_within : {old : Reader WModule} {b at : ℕ} (e : DecodeError) → at < end → TakesBefore old b at (stop e) → TakesAtTop (content_left end old last) b at (stop e)
  stops_within e h t = record { same = λ bs. (takes_within h t).same bs }

  at_end : {A : Type 0} (t : Bool) (x y : A) → t ≡ true → (if t then x else y) ≡ x
  at_end true x y e = refl
  at_end false x y e = absurd (cc)

  before_end : {A : Type 0} (t : Bool) (x y : A) → t ≡ false → (if t then x else y) ≡ y
  before_end true x y e = absurd (cc)
  before_end false x y e = refl

  -- the content is whole, and ends where it was declared to end
  pub whole : {old : Reader WModule} {b at : ℕ} (m : WModule) → at + 1 ≡ end → TakesBefore old b at (give m) → TakesAtTop (content_left end old last) b at (sections_left last m)
  whole {old} {b} {at} m h t = record {
    same = λ bs.
        (takes_within (omega (arith, h)) t).same bs
        ∙ ap (λ o. and_then o (λ m. sections_left last m)) (at_end (at + 1 == end) (Ok (m, record { at = at + 1; end = None; rest = bs })) _ (eq-eqb _ _ h));
  }

  -- the content is whole before that
  pub whole_early : {old : Reader WModule} {b at : ℕ} (m : WModule) → at + 1 < end → TakesBefore old b at (give m) → TakesAtTop (content_left end old last) b at (stop (bad_length (at + 1)))
  whole_early {old} {b} {at} m h t = record {
    same = λ bs.
        (takes_within (omega (arith, h)) t).same bs
        ∙ ap (λ o. and_then o (λ m. sections_left last m)) (before_end (at + 1 == end) (Ok (m, record { at = at + 1; end = None; rest = bs })) (Err (bad_length (at + 1))) (ne_eqb _ _ (λ e. omega (arith, h, e))));
  }

  -- a reader that wants a byte has none left
  pub none_left : (reader : Reader WModule) → WantsAByte reader → (bs : List ℕ) → content_left end reader last (record { at = end; end = None; rest = bs }) ≡ Err (bad_length end)
  none_left reader wanting bs =
      ap (λ o. and_then (and_then o (ended None end)) (λ m. sections_left last m))
      (wanting.wants (record { at = end; end = Some end; rest = bs }) (bad_length end) (at_end (end == end) (Err (bad_length end)) _ (eq-eqb _ _ refl)))

  pub not_whole : {old new : Reader WModule} {b at : ℕ} → at + 1 ≡ end → WantsAByte new → TakesBefore old b at new → TakesAtTop (content_left end old last) b at (stop (bad_length (at + 1)))
  not_whole {old} {new} {b} {at} h wanting t = record {
    same = λ bs.
        (takes_within (omega (arith, h)) t).same bs
        ∙ ap (λ place. content_left end new last (record { at = place; end = None; rest = bs })) h ∙ none_left new wanting bs ∙ ap (λ place. Err (bad_length place)) (sym h);
  }

-- the last byte of a content that wants a further one
pub too_short : (behind at last : ℕ) {old new : Reader WModule} {b : ℕ} (e : DecodeError) → e ≡ bad_length (at + 1) → behind ≡ 0 → WantsAByte new → TakesBefore old b at new →
    TakesAtTop (content_left (at + (behind + 1)) old last) b at (stop e)
too_short behind at last {old} {new} {b} e is none wanting t =
    let same : at + 1 ≡ at + (behind + 1) = omega (arith, none) in
    rw is (not_whole (at + (behind + 1)) last same wanting t)
