-- A decoder behind the bytes of its input: from a byte to the next. Where the input ends between two sections, the id of
-- one is read next, since every other step answers `Truncated` at the end; so each custom section is entered.
use Rattle.std.proofs.Common.{◌≡◌, ◌∙◌, ℕ, ◌+◌, List, [], ◌∷◌, ◌++◌, length, append-nil, append_assoc, refl, ap, sym, subst, arith, ◌⊎◌, inl, inr}
use Rattle.std.proofs.lemmas.List.{length_push, same_from_push}
use Rattle.std.specs.Prelude.{None, Some, Result, Ok, Err, IfErr, IsOkAnd, ◌==◌}
use Rattle.wasm_ast.specs.declared.modules.WModule.{WModule}
use Rattle.wasm_grammar.specs.GrammarValues.{IsUnsigned}
use Rattle.wasm_reading.specs.declared.fault.DecodeError.{DecodeError}
use Rattle.wasm_reading.specs.declared.fault.DecodeFault.TheVariants.{Truncated, CountMismatch}
use Rattle.wasm_reading.specs.ReadModules.{reading_of}
use Rattle.wasm_items.specs.LebStates.{LebState}
use Rattle.wasm_decode.specs.declared.state.DecoderState.{DecoderState}
use Rattle.wasm_decode.specs.declared.steps.Step.{Step}
use Rattle.wasm_decode.specs.declared.steps.Step.TheVariants.{Size, Custom}
use Rattle.wasm_decode.specs.Steps.{custom_bytes, custom_step}
use Rattle.wasm_decode.specs.CustomSections.{EndsBetweenSections, EndsInCustomContent}
use Rattle.wasm_decode.specs.CustomSteps.{IsBetween, BeginsCustom, IsInSize, TakesSize}
use Rattle.wasm_decode.specs.Decoding.{answer_of, Resumes, StandsBehind}
use Rattle.wasm_decode.proofs.Decoding.{answer_wanting, custom_less, left_by}
use Rattle.wasm_decode.proofs.Continuations.{WantsOrIsBetween, wants_or_is_between, resumes_behind}
use Rattle.wasm_decode.proofs.CustomSteps.{reads_some, size_begun}

not_truncated : (bytes : List ℕ) (at : ℕ) (r : Result WModule DecodeError) → r ≡ Err (record { at = at; fault = Truncated }) →
    IfErr r (λ e. e ≡ record { at = length bytes; fault = CountMismatch }) → ⊥
not_truncated bytes at (Ok m) t h = absurd (cc)
not_truncated bytes at (Err e) t h =
    let wants : e ≡ record { at = at; fault = Truncated } = cc in
    let both : Truncated ≡ CountMismatch = ap (λ (x : DecodeError). x.fault) (sym wants ∙ h) in
    absurd (cc)

between_or : (d : DecoderState) (fed : List ℕ) → d.failed ≡ None → Resumes d fed → EndsBetweenSections fed → WantsOrIsBetween d.step d.at d.last d.built → IsBetween d.step
between_or d fed whole r between (inr is) = is
between_or d fed whole r between (inl t) =
    absurd (not_truncated fed d.at (reading_of fed) (ap reading_of (sym (append-nil fed)) ∙ sym (r []) ∙ answer_wanting d whole t) between)

-- where the input ends between two sections, the id of one is read next
pub is_between : (d : DecoderState) (fed : List ℕ) → d.failed ≡ None → Resumes d fed → EndsBetweenSections fed → IsBetween d.step
is_between d fed whole r between = between_or d fed whole r between (wants_or_is_between d.step d.at d.last d.built)

-- the answer to a byte, as far as custom sections go
pub record StepsOn (step : Step) (b at : ℕ) (answer : Result Step DecodeError) : Type 0 where
  pub begins : b ≡ 0 → IsBetween step → IsOkAnd answer BeginsCustom
  pub sized : (number : LebState) → step ≡ Size 0 number → TakesSize number b at answer
  pub custom : (behind : ℕ) → step ≡ Custom behind → answer ≡ Ok (custom_step behind)

-- a list is empty, or has a last element
abbrev HasLast : List ℕ → Type 0
HasLast xs = (xs ≡ []) ⊎ ((before : List ℕ) × (last : ℕ) × (xs ≡ before ++ last ∷ []))

last_behind_first : (x : ℕ) (xs : List ℕ) → HasLast xs → HasLast (x ∷ xs)
last_behind_first x xs (inl none) = inr ([], x, ap (λ (ys : List ℕ). x ∷ ys) none)
last_behind_first x xs (inr found) = inr (x ∷ found.0, found.1, ap (λ (ys : List ℕ). x ∷ ys) found.2)

has_last : (xs : List ℕ) → HasLast xs
has_last [] = inl refl
has_last (x ∷ xs) = last_behind_first x xs (has_last xs)

-- a byte behind an input is the last one of what the input then ends in
ends_in : (fed front back : List ℕ) (b : ℕ) → fed ++ b ∷ [] ≡ front ++ back → HasLast back → (back ≡ []) ⊎ ((shorter : List ℕ) × (back ≡ shorter ++ b ∷ []) × (fed ≡ front ++ shorter))
ends_in fed front back b e (inl none) = inl none
ends_in fed front back b e (inr found) =
    let joined : fed ++ b ∷ [] ≡ (front ++ found.0) ++ found.1 ∷ [] = e ∙ ap (λ (xs : List ℕ). front ++ xs) found.2 ∙ sym (append_assoc front found.0 (found.1 ∷ [])) in
    let both = same_from_push fed (front ++ found.0) b found.1 joined in
    inr (found.0, found.2 ∙ ap (λ (y : ℕ). found.0 ++ y ∷ []) (sym both.1), both.0)

module _ (d : DecoderState) (b : ℕ) (next : Step) (fed : List ℕ) (on : StepsOn d.step b d.at (Ok next)) (s : StandsBehind d fed) where
  -- a byte of a size that was begun
  in_begun_size : (left : List ℕ) (n : ℕ) → IsInSize d.step d.at (b ∷ left) n → IsInSize next (d.at + 1) left n
  in_begun_size left n (inl found) = on.sized found.0 found.1 left n found.2
  in_begun_size left n (inr over) = let none : b ∷ left ≡ [] = over.0 in absurd (cc)

  -- a byte of the id or the size
  behind_id : (front begun left shorter : List ℕ) (n : ℕ) → EndsBetweenSections front → 0x00 ∷ begun ≡ shorter ++ b ∷ [] → fed ≡ front ++ shorter → IsUnsigned n (begun ++ left) →
      IsInSize next (d.at + 1) left n
  behind_id front begun left [] n between e is spelled =
      let both : 0x00 ∷ begun ≡ b ∷ [] = e in
      let zero : b ≡ 0x00 = cc in
      let none : begun ≡ [] = cc in
      let same : fed ≡ front = is ∙ append-nil front in
      let here : EndsBetweenSections fed = subst EndsBetweenSections (sym same) between in
      size_begun next (d.at + 1) n left (on.begins zero (is_between d fed s.whole s.resumes here)) (subst (λ (bytes : List ℕ). IsUnsigned n (bytes ++ left)) none spelled)
  behind_id front begun left (x ∷ shorter) n between e is spelled =
      let both : 0x00 ∷ begun ≡ x ∷ (shorter ++ b ∷ []) = e in
      let zero : x ≡ 0x00 = cc in
      let more : begun ≡ shorter ++ b ∷ [] = cc in
      let joined : begun ++ left ≡ shorter ++ b ∷ left = ap (λ (xs : List ℕ). xs ++ left) more ∙ append_assoc shorter (b ∷ []) left in
      in_begun_size left n
      (s.in_size front shorter (b ∷ left) n between (is ∙ ap (λ (y : ℕ). front ++ y ∷ shorter) zero) (subst (IsUnsigned n) joined spelled))

  in_size : (front begun left : List ℕ) (n : ℕ) → EndsBetweenSections front → fed ++ b ∷ [] ≡ front ++ 0x00 ∷ begun → IsUnsigned n (begun ++ left) →
      (let back : List ℕ = 0x00 ∷ begun in back ≡ []) ⊎ ((shorter : List ℕ) × (0x00 ∷ begun ≡ shorter ++ b ∷ []) × (fed ≡ front ++ shorter)) → IsInSize next (d.at + 1) left n
  in_size front begun left n between e spelled (inl none) = absurd (cc)
  in_size front begun left n between e spelled (inr found) = behind_id front begun left found.0 n between found.1 found.2 spelled

  pub size_behind : (front begun left : List ℕ) (n : ℕ) → EndsBetweenSections front → fed ++ b ∷ [] ≡ front ++ 0x00 ∷ begun → IsUnsigned n (begun ++ left) → IsInSize next (d.at + 1) left n
  size_behind front begun left n between e spelled = in_size front begun left n between e spelled (ends_in fed front (0x00 ∷ begun) b e (has_last (0x00 ∷ begun)))

  -- the size is whole
  entered : (n : ℕ) → IsInSize next (d.at + 1) [] n → custom_bytes next ≡ n
  entered n (inl found) = absurd (reads_some found.0 (d.at + 1) n found.2)
  entered n (inr over) = ap custom_bytes over.1 ∙ left_by n (n == 0) refl

  -- a byte of a content that was begun
  in_begun_content : (n : ℕ) → EndsInCustomContent fed (n + 1) → custom_bytes next ≡ n
  in_begun_content n ends =
      let left : custom_bytes d.step ≡ n + 1 = s.in_content (n + 1) ends in
      let less = custom_less d.step next on.custom (omega (arith, left)) in
      omega (arith, left, less)

  pub content_behind : (n : ℕ) (ends : EndsInCustomContent (fed ++ b ∷ []) n) → HasLast ends.content → custom_bytes next ≡ n
  content_behind n ends (inl none) =
      let sized : fed ++ b ∷ [] ≡ ends.front ++ 0x00 ∷ ends.size = ends.whole ∙ ap (λ (xs : List ℕ). ends.front ++ 0x00 ∷ (ends.size ++ xs)) none ∙ ap (λ (xs : List ℕ). ends.front ++ 0x00 ∷ xs) (append-nil ends.size) in
      let counted : length ends.content + n ≡ n = ap (λ (xs : List ℕ). length xs + n) none ∙ (omega arith) in
      let spelled : IsUnsigned n (ends.size ++ []) = subst (IsUnsigned n) (sym (append-nil ends.size)) (subst (λ (k : ℕ). IsUnsigned k ends.size) counted ends.measured) in
      entered n (size_behind ends.front ends.size [] n ends.between sized spelled)
  content_behind n ends (inr found) =
      let split : ends.front ++ 0x00 ∷ (ends.size ++ ends.content) ≡ (ends.front ++ 0x00 ∷ (ends.size ++ found.0)) ++ found.1 ∷ [] =
      ap (λ (xs : List ℕ). ends.front ++ 0x00 ∷ (ends.size ++ xs)) found.2
      ∙ ap (λ (xs : List ℕ). ends.front ++ 0x00 ∷ xs) (sym (append_assoc ends.size found.0 (found.1 ∷ [])))
      ∙ sym (append_assoc ends.front (0x00 ∷ (ends.size ++ found.0)) (found.1 ∷ [])) in
      let both = same_from_push fed (ends.front ++ 0x00 ∷ (ends.size ++ found.0)) b found.1 (ends.whole ∙ split) in
      let long : length ends.content ≡ length found.0 + 1 = ap length found.2 ∙ length_push found.0 found.1 in
      let counted : length ends.content + n ≡ length found.0 + (n + 1) = omega (arith, long) in
      in_begun_content n
      (record {
        front = ends.front;
        size = ends.size;
        content = found.0;
        between = ends.between;
        measured = subst (λ (k : ℕ). IsUnsigned k ends.size) counted ends.measured;
        whole = both.0;
      })

-- a byte is taken
pub stands_on : (d d' : DecoderState) (b : ℕ) → ((rest : List ℕ) → answer_of d' rest ≡ answer_of d (b ∷ rest)) → d'.failed ≡ None → d'.at ≡ d.at + 1 → StepsOn d.step b d.at (Ok d'.step) →
    (fed : List ℕ) → StandsBehind d fed → StandsBehind d' (fed ++ b ∷ [])
stands_on d d' b ok whole at on fed s = record {
  resumes = resumes_behind d d' (b ∷ []) ok fed s.resumes;
  whole = whole;
  place = let more = length_push fed b in let before = s.place in omega (arith, at, more, before);
  in_size = λ front begun left n between e spelled.
      subst (λ (place : ℕ). IsInSize d'.step place left n) (sym at) (size_behind d b d'.step fed on s front begun left n between e spelled);
  in_content = λ n ends. content_behind d b d'.step fed on s n ends (has_last ends.content);
}

-- nothing was fed
none_before : (front back : List ℕ) → (let fed : List ℕ = [] in fed) ≡ front ++ 0x00 ∷ back → ⊥
none_before [] back e = let both : (let fed : List ℕ = [] in fed) ≡ 0x00 ∷ back = e in absurd (cc)
none_before (x ∷ front) back e = let both : (let fed : List ℕ = [] in fed) ≡ x ∷ (front ++ 0x00 ∷ back) = e in absurd (cc)

pub stands_new : (d : DecoderState) → Resumes d [] → d.failed ≡ None → d.at ≡ 0 → StandsBehind d []
stands_new d resumes whole at = record {
  resumes = resumes;
  whole = whole;
  place = at;
  in_size = λ front begun left n between e spelled. absurd (none_before front begun e);
  in_content = λ n ends. absurd (none_before ends.front (ends.size ++ ends.content) ends.whole);
}

-- no error was answered
pub never_failed : (d : DecoderState) (e : DecodeError) (fed : List ℕ) → StandsBehind d fed → d.failed ≡ Some e → ⊥
never_failed d e fed s is = let both : Some e ≡ None = sym is ∙ s.whole in absurd (cc)
