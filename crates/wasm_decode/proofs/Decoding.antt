-- What a decoder answers: from a byte to the next, and at the end of the input.
use Rattle.std.proofs.Common.{◌≡◌, ◌∙◌, ℕ, suc, ◌+◌, ◌-◌, ◌<◌, Result, Bool, true, false, List, [], ◌∷◌, length, refl, ap, sym, arith, ◌⊎◌, inl, inr, ◌++◌}
use Rattle.std.proofs.lemmas.Bool.{ne_eqb, eq-eqb, eqb-true, eqb-false}
use Rattle.std.proofs.lemmas.List.{append-nil}
use Rattle.std.specs.Prelude.{Option, None, Some, Ok, Err, ◌==◌, if◌then◌else◌, drop, slice_index}
use Rattle.wasm_ast.specs.declared.modules.WModule.{WModule}
use Rattle.wasm_grammar.specs.CanonicalModules.{preamble}
use Rattle.wasm_reading.specs.declared.fault.DecodeError.{DecodeError}
use Rattle.wasm_reading.specs.declared.fault.DecodeFault.TheVariants.{Truncated, CountMismatch, BadLength}
use Rattle.wasm_reading.specs.Readers.{Input, Reader, and_then, ◌>>=◌, give, fail, byte_at, each_at, ended}
use Rattle.wasm_grammar.specs.WorkedModules.{empty_module}
use Rattle.wasm_reading.specs.ReadModules.{without_rest, reading_of}
use Rattle.wasm_items.specs.LebStates.{LebState, rest_of_leb}
use Rattle.wasm_items.specs.Residuals.{WantsAByte, stop, no_memory}
use Rattle.wasm_items.specs.WantsBytes.{wants_then, wants_here, wants_byte, wants_leb}
use Rattle.wasm_contents.specs.declared.content.Content as content
use Rattle.wasm_contents.specs.Contents.{rest_of_content}
use Rattle.wasm_decode.specs.declared.state.DecoderState.{DecoderState}
use Rattle.wasm_decode.specs.declared.steps.Step.{Step}
use Rattle.wasm_decode.specs.declared.steps.Step.TheVariants.{Preamble, Between, Size, Custom, Content}
use Rattle.wasm_decode.specs.Decoding.{answer_of, error_or}
use Rattle.wasm_decode.specs.Steps.{custom_bytes, custom_step, TakesAtTop, IsTruncated, rest_of_step, sections_left, content_left, custom_left, sized_left}
use Rattle.wasm_decode.proofs.Advancing.{behind_preamble, preamble_bytes}
use Rattle.wasm_contents.proofs.ContentsWantBytes.{wants_content}

-- a byte is taken
pub answer_taken : {old new : Reader WModule} {b at : ℕ} → TakesAtTop old b at new → (rest : List ℕ) →
    without_rest (new (record { at = at + 1; end = None; rest = rest })) ≡ without_rest (old (record { at = at; end = None; rest = b ∷ rest }))
answer_taken t rest = ap without_rest (sym (t.same rest))

-- a byte has a fault
pub answer_stops : {old : Reader WModule} {b at : ℕ} (e : DecodeError) → TakesAtTop old b at (stop e) → (rest : List ℕ) → without_rest (old (record { at = at; end = None; rest = b ∷ rest })) ≡ Err e
answer_stops e t rest = ap without_rest (t.same rest)

-- the input ends where a byte is wanted
truncated : (reader : Reader WModule) (at : ℕ) → WantsAByte reader → IsTruncated reader at
truncated reader at wanting = wanting.wants (record { at = at; end = None; rest = [] }) (record { at = at; fault = Truncated }) refl

-- the input ends behind a section
pub answer_ended : (last at : ℕ) (m : WModule) → length m.codes ≡ length m.funcs → without_rest (sections_left last m (record { at = at; end = None; rest = [] })) ≡ Ok m
answer_ended last at m e =
    ap (λ (c : Bool). without_rest ((if c then give m else fail CountMismatch at) (record { at = at; end = None; rest = [] }))) (eq-eqb _ _ e)

pub answer_mismatch : (last at : ℕ) (m : WModule) → (length m.codes ≡ length m.funcs → ⊥) →
    without_rest (sections_left last m (record { at = at; end = None; rest = [] })) ≡ Err (record { at = at; fault = CountMismatch })
answer_mismatch last at m e =
    ap (λ (c : Bool). without_rest ((if c then give m else fail CountMismatch at) (record { at = at; end = None; rest = [] }))) (ne_eqb _ _ e)

preamble_wants : (k wanted : ℕ) (bytes : List ℕ) (last : ℕ) (m : WModule) → WantsAByte (behind_preamble k (wanted ∷ bytes) last m)
preamble_wants k wanted bytes last m = wants_then (λ _. sections_left last m) (wants_here (λ place. wants_then _ wants_byte))

abbrev at_the_end : ℕ → Input
at_the_end at = record { at = at; end = None; rest = [] }

pub preamble_truncated : (k at last : ℕ) (m : WModule) → k < 8 → IsTruncated (behind_preamble k (drop k preamble) last m) at
preamble_truncated k at last m h =
    ap (λ (bytes : List ℕ). behind_preamble k bytes last m (at_the_end at)) (preamble_bytes k h)
    ∙ truncated (behind_preamble k (slice_index preamble k ∷ drop (k + 1) preamble) last m) at (preamble_wants k (slice_index preamble k) (drop (k + 1) preamble) last m)

pub size_truncated : (id at last : ℕ) (m : WModule) (number : LebState) → IsTruncated (rest_of_leb number >>= (λ size. sized_left id last m size)) at
size_truncated id at last m number = truncated (rest_of_leb number >>= (λ size. sized_left id last m size)) at (wants_then (λ size. sized_left id last m size) (wants_leb number))

custom_wants : (behind last : ℕ) (m : WModule) → WantsAByte (custom_left (suc behind) last m)
custom_wants behind last m = wants_then (λ _. sections_left last m) (wants_then (λ x. each_at byte_at behind >>= (λ xs. give (x ∷ xs))) wants_byte)

pub custom_truncated : (behind at last : ℕ) (m : WModule) → IsTruncated (custom_left (behind + 1) last m) at
custom_truncated behind at last m =
    let more : behind + 1 ≡ suc behind = omega arith in
    ap (λ (n : ℕ). custom_left n last m (at_the_end at)) more ∙ truncated (custom_left (suc behind) last m) at (custom_wants behind last m)

otherwise : {A : Type 0} (t : Bool) (x y : A) → t ≡ false → (if t then x else y) ≡ y
otherwise true x y e = absurd (cc)
otherwise false x y e = refl

-- a content of which bytes are left
pub content_truncated : (behind at last : ℕ) (m : WModule) (state : content.Content) → IsTruncated (content_left (at + (behind + 1)) (rest_of_content m state) last) at
content_truncated behind at last m state =
    let end : ℕ = at + (behind + 1) in
    ap (λ o. and_then (and_then o (ended None (at + (behind + 1)))) (λ m'. sections_left last m'))
    ((wants_content m state).wants (record { at = at; end = Some (at + (behind + 1)); rest = [] }) (record { at = at; fault = Truncated })
    (otherwise (at == at + (behind + 1)) (Err (record { at = at; fault = BadLength })) (Err (record { at = at; fault = Truncated })) (ne_eqb _ _ (λ e. omega (arith, e)))))

-- a decoder that has answered an error
pub answer_failed : (d : DecoderState) (e : DecodeError) → d.failed ≡ Some e → (rest : List ℕ) → answer_of d rest ≡ Err e
unfolding answer_of
answer_failed d e is rest = ap (λ (f : Option DecodeError). error_or f (without_rest (rest_of_step d.at d.last d.built d.step (record { at = d.at; end = None; rest = rest })))) is

-- a decoder that has answered none
pub answer_whole : (d : DecoderState) → d.failed ≡ None → (rest : List ℕ) → answer_of d rest ≡ without_rest (rest_of_step d.at d.last d.built d.step (record { at = d.at; end = None; rest = rest }))
unfolding answer_of
answer_whole d is rest = ap (λ (f : Option DecodeError). error_or f (without_rest (rest_of_step d.at d.last d.built d.step (record { at = d.at; end = None; rest = rest })))) is

-- a byte is taken
pub answer_advanced : (d d' : DecoderState) (b : ℕ) → d.failed ≡ None → d'.failed ≡ None → d'.at ≡ d.at + 1 →
    TakesAtTop (rest_of_step d.at d.last d.built d.step) b d.at (rest_of_step (d.at + 1) d'.last d'.built d'.step) → (rest : List ℕ) → answer_of d' rest ≡ answer_of d (b ∷ rest)
answer_advanced d d' b is is' at t rest =
    answer_whole d' is' rest
    ∙ ap (λ (place : ℕ). without_rest (rest_of_step place d'.last d'.built d'.step (record { at = place; end = None; rest = rest }))) at
    ∙ answer_taken t rest
    ∙ sym (answer_whole d is (b ∷ rest))

-- a byte has a fault
pub answer_stopped : (d : DecoderState) (b : ℕ) (e : DecodeError) → d.failed ≡ None → TakesAtTop (rest_of_step d.at d.last d.built d.step) b d.at (stop e) → (rest : List ℕ) → answer_of d (b ∷ rest) ≡ Err e
answer_stopped d b e is t rest = answer_whole d is (b ∷ rest) ∙ answer_stops e t rest

-- the input ends where a byte is wanted
pub answer_wanting : (d : DecoderState) → d.failed ≡ None → IsTruncated (rest_of_step d.at d.last d.built d.step) d.at → answer_of d [] ≡ Err (record { at = d.at; fault = Truncated })
answer_wanting d is t = answer_whole d is [] ∙ ap without_rest t

-- the input ends behind a section
pub answer_complete : (d : DecoderState) → d.failed ≡ None → rest_of_step d.at d.last d.built d.step ≡ sections_left d.last d.built → length d.built.codes ≡ length d.built.funcs → answer_of d [] ≡ Ok d.built
answer_complete d is e counts =
    answer_whole d is [] ∙ ap (λ (r : Reader WModule). without_rest (r (record { at = d.at; end = None; rest = [] }))) e ∙ answer_ended d.last d.at d.built counts

pub answer_uneven : (d : DecoderState) → d.failed ≡ None → rest_of_step d.at d.last d.built d.step ≡ sections_left d.last d.built → (length d.built.codes ≡ length d.built.funcs → ⊥) →
    answer_of d [] ≡ Err (record { at = d.at; fault = CountMismatch })
answer_uneven d is e counts =
    answer_whole d is [] ∙ ap (λ (r : Reader WModule). without_rest (r (record { at = d.at; end = None; rest = [] }))) e ∙ answer_mismatch d.last d.at d.built counts

-- nothing was fed
pub answer_new : (d : DecoderState) → d.failed ≡ None → d.at ≡ 0 → d.last ≡ 0 → d.built ≡ empty_module → d.step ≡ Preamble 0 → (bytes : List ℕ) → answer_of d bytes ≡ reading_of bytes
answer_new d is at last built step bytes =
    answer_whole d is bytes
    ∙ ap (λ (place : ℕ). without_rest (rest_of_step place d.last d.built d.step (record { at = place; end = None; rest = bytes }))) at
    ∙ ap (λ (id : ℕ). without_rest (rest_of_step 0 id d.built d.step (record { at = 0; end = None; rest = bytes }))) last
    ∙ ap (λ (m : WModule). without_rest (rest_of_step 0 0 m d.step (record { at = 0; end = None; rest = bytes }))) built
    ∙ ap (λ (s : Step). without_rest (rest_of_step 0 0 empty_module s (record { at = 0; end = None; rest = bytes }))) step

pub answer_stopped_or : (d : DecoderState) (b : ℕ) (e : DecodeError) → d.failed ≡ None → (e ≡ no_memory) ⊎ TakesAtTop (rest_of_step d.at d.last d.built d.step) b d.at (stop e) →
    (e ≡ no_memory) ⊎ ((rest : List ℕ) → answer_of d (b ∷ rest) ≡ Err e)
answer_stopped_or d b e is (inl memory) = inl memory
answer_stopped_or d b e is (inr t) = inr (answer_stopped d b e is t)

-- a module without entries
pub no_entries : (m : WModule) → m.types ≡ [] → m.imports ≡ [] → m.funcs ≡ [] → m.tables ≡ [] → m.memories ≡ [] → m.globals ≡ [] → m.exports ≡ [] → m.start ≡ None → m.elements ≡ [] → m.codes ≡ [] →
    m.segments ≡ [] → m ≡ empty_module
no_entries m a b c d e f g h i j k = λ x. record { types = a x; imports = b x; funcs = c x; tables = d x; memories = e x; globals = f x; exports = g x; start = h x; elements = i x; codes = j x; segments = k x }

-- the first fault of a whole input
pub whole_fault : (d : DecoderState) (bytes : List ℕ) (e : DecodeError) → ((bs : List ℕ) → answer_of d bs ≡ reading_of bs) → (e ≡ no_memory) ⊎ ((rest : List ℕ) → answer_of d (bytes ++ rest) ≡ Err e) →
    (e ≡ no_memory) ⊎ (reading_of bytes ≡ Err e)
whole_fault d bytes e starts (inl memory) = inl memory
whole_fault d bytes e starts (inr stops) = inr (sym (starts bytes) ∙ ap (answer_of d) (sym (append-nil bytes)) ∙ stops [])

custom_of : (s : Step) → 0 < custom_bytes s → (behind : ℕ) × (s ≡ Custom behind)
custom_of (Custom behind) h = (behind, refl)
custom_of (Preamble k) h = absurd (omega arith)
custom_of Between h = absurd (omega arith)
custom_of (Size id number) h = absurd (omega arith)
custom_of (Content behind content) h = absurd (omega arith)

pub left_by : (behind : ℕ) (t : Bool) → t ≡ (behind == 0) → custom_bytes (if t then Between else Custom (behind - 1)) ≡ behind
left_by behind true e = let none : behind ≡ 0 = eqb-true _ _ (sym e) in omega (arith, none)
left_by behind false e = let some : behind ≡ 0 → ⊥ = eqb-false _ _ (sym e) in omega (arith, some)

-- a byte of a custom section is taken, and leaves a byte less
pub custom_taken : (s : Step) (answer : Result Step DecodeError) → ((behind : ℕ) → s ≡ Custom behind → answer ≡ Ok (custom_step behind)) → 0 < custom_bytes s →
    (behind : ℕ) × (custom_bytes s ≡ behind + 1) × (answer ≡ Ok (custom_step behind)) × (custom_bytes (custom_step behind) ≡ behind)
custom_taken s answer h some =
    let found = custom_of s some in
    (found.0, ap custom_bytes found.1, h found.0 found.1, left_by found.0 (found.0 == 0) refl)

pub custom_no_error : (s : Step) (e : DecodeError) → ((behind : ℕ) → s ≡ Custom behind → (let answer : Result Step DecodeError = Err e in answer) ≡ Ok (custom_step behind)) → 0 < custom_bytes s → ⊥
custom_no_error s e h some = let found = custom_taken s (Err e) h some in let both = found.2 in absurd (cc)

pub custom_less : (s s' : Step) → ((behind : ℕ) → s ≡ Custom behind → (let answer : Result Step DecodeError = Ok s' in answer) ≡ Ok (custom_step behind)) → 0 < custom_bytes s → custom_bytes s' ≡ custom_bytes s - 1
custom_less s s' h some =
    let found = custom_taken s (Ok s') h some in
    let both = found.2 in
    let same : s' ≡ custom_step found.0 = cc in
    let left : custom_bytes s' ≡ found.0 = ap custom_bytes same ∙ found.3 in
    let whole : custom_bytes s ≡ found.0 + 1 = found.1 in
    omega (arith, left, whole)
