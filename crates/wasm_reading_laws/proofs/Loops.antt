-- Sections as the reader takes them: one after another, each behind a lesser id, into the module so far. They are read
-- exactly, to the end of the input.
use Rattle.std.proofs.Common.{◌≡◌, ◌∙◌, ℕ, zero, suc, ◌<◌, ◌≤◌, Bool, true, false, List, [], ◌∷◌, ◌++◌, length, refl, sym, ap, subst, arith, inl, inr, length-append, append_assoc, Ok}
use Rattle.std.specs.Prelude.{◌⊎◌, ◌==◌, nat_lt, nat_le, if◌then◌else◌}
use Rattle.std.proofs.lemmas.Bool.{ltb-true, ltb-false, leb-true, leb-false, eqb-true, eqb-false, ne_eqb, cond-true, cond-false}
use Rattle.wasm_ast.specs.declared.modules.WModule.{WModule}
use Rattle.wasm_grammar.specs.GrammarValues.{Joined, IsByte, IsRaw, IsUnsigned, IsSized}
use Rattle.wasm_grammar.specs.GrammarModules.{IsSection, IsCustomSection}
use Rattle.wasm_reading.specs.declared.fault.DecodeFault.TheVariants.{BadTag, BadOrder, CountMismatch}
use Rattle.wasm_reading.specs.Readers.{Input, Reader, ◌>>=◌, fail}
use Rattle.wasm_reading.specs.ReadModules.{content_at, module_at_end, custom_at, is_empty, section_from, sections_at}
use Rattle.wasm_reading.specs.ReadValues.{sized_at}
use Rattle.wasm_reading_values.specs.Exactness.{Exact}
use Rattle.wasm_reading_values.proofs.Compose.{from_left, alike, read_one, read_same}
use Rattle.wasm_reading_values.proofs.ExactNumbers.{one_byte}
use Rattle.wasm_reading_values.proofs.ExactLists.{byte_vector, sized}
use Rattle.wasm_reading_laws.proofs.ToEnd.{ToEnd, alike_to_end, failing_to_end, branch_to_end, placed_to_end, followed_to_end}
use Rattle.wasm_reading_laws.proofs.Contents.{Adds, content}

-- the bytes are sections behind one with the id `last`, in the order of their ids, which make a module of that so far
pub data InOrder : ℕ → WModule → WModule → List ℕ → Type 0 where
  at_end : {last : ℕ} {so_far m : WModule} {bytes : List ℕ} → m ≡ so_far → length so_far.codes ≡ length so_far.funcs → bytes ≡ [] → InOrder last so_far m bytes
  custom : {last : ℕ} {so_far m : WModule} {bytes : List ℕ} (inner front back : List ℕ) → IsCustomSection inner front → InOrder last so_far m back → bytes ≡ front ++ back → InOrder last so_far m bytes
  section : {last : ℕ} {so_far m : WModule} {bytes : List ℕ} (id : ℕ) (with_it : WModule) (front back : List ℕ) → last < id → id ≤ 11 → IsSection id (Adds id so_far with_it) front → InOrder id with_it m back → bytes ≡ front ++ back → InOrder last so_far m bytes

-- a custom section behind its id
custom_content : Exact custom_at (λ inner bytes. IsSized (IsRaw inner) bytes)
custom_content =
    alike byte_vector
    (λ inner bytes p. record { size = p.front; content = p.back; measured = subst (λ (xs : List ℕ). IsUnsigned (length xs) p.front) (sym p.second.1) p.first; spelled = p.second; whole = p.whole })
    (λ inner bytes p. record { front = p.size; back = p.content; first = subst (λ (xs : List ℕ). IsUnsigned (length xs) p.size) p.spelled.1 p.measured; second = p.spelled; whole = p.whole })

-- what stands behind an id: a custom section and sections behind it, or a section with a greater id and those behind it
abbrev IsCustomBehind : ℕ → WModule → WModule → List ℕ → Type 0
IsCustomBehind last so_far m bytes = (inner : List ℕ) × Joined (IsSized (IsRaw inner)) (InOrder last so_far m) bytes

abbrev IsSectionBehind : ℕ → WModule → WModule → List ℕ → Type 0
IsSectionBehind id so_far m bytes = (with_it : WModule) × Joined (IsSized (Adds id so_far with_it)) (InOrder id with_it m) bytes

abbrev IsBehind : ℕ → WModule → ℕ → WModule → List ℕ → Type 0
IsBehind last so_far id m bytes = ((id ≡ 0) × IsCustomBehind last so_far m bytes) ⊎ ((last < id) × (id ≤ 11) × IsSectionBehind id so_far m bytes)

is_custom : (last : ℕ) (so_far : WModule) (id : ℕ) (m : WModule) (bytes : List ℕ) → id ≡ 0 → IsBehind last so_far id m bytes → IsCustomBehind last so_far m bytes
is_custom last so_far id m bytes e (inl p) = p.1
is_custom last so_far id m bytes e (inr p) = absurd (omega (arith, p.0))

is_section : (last : ℕ) (so_far : WModule) (id : ℕ) (m : WModule) (bytes : List ℕ) → (id ≡ 0 → ⊥) → IsBehind last so_far id m bytes → (last < id) × (id ≤ 11) × IsSectionBehind id so_far m bytes
is_section last so_far id m bytes e (inl p) = absurd (e p.0)
is_section last so_far id m bytes e (inr p) = p

fewer : (most : ℕ) (front back : List ℕ) → length (front ++ back) ≤ most → length back ≤ most
fewer most front back h = omega (arith, length-append front back)

-- what stands behind a section, by whether it is anything
abbrev IsEnd : WModule → WModule → List ℕ → Type 0
IsEnd so_far m bytes = (m ≡ so_far) × (length so_far.codes ≡ length so_far.funcs) × (bytes ≡ [])

abbrev IsOne : ℕ → WModule → WModule → List ℕ → Type 0
IsOne last so_far m bytes = (id : ℕ) × Joined (IsByte id) (IsBehind last so_far id m) bytes

rolled_behind : {last id : ℕ} {so_far m : WModule} {bytes front back : List ℕ} → IsByte id front → IsBehind last so_far id m back → bytes ≡ front ++ back → InOrder last so_far m bytes
rolled_behind {id = id} {bytes = bytes} {front = front} p (inl q) e =
    let r = q.1.1 in
    let whole : bytes ≡ (front ++ r.front) ++ r.back = e ∙ ap (λ (xs : List ℕ). front ++ xs) r.whole ∙ sym (append_assoc front r.front r.back) in
    custom q.1.0 (front ++ r.front) r.back (record { front = front; back = r.front; first = subst (λ (i : ℕ). IsByte i front) q.0 p; second = r.first; whole = refl }) r.second whole
rolled_behind {id = id} {bytes = bytes} {front = front} p (inr q) e =
    let r = q.2.1 in
    let whole : bytes ≡ (front ++ r.front) ++ r.back = e ∙ ap (λ (xs : List ℕ). front ++ xs) r.whole ∙ sym (append_assoc front r.front r.back) in
    section id q.2.0 (front ++ r.front) r.back q.0 q.1 (record { front = front; back = r.front; first = p; second = r.first; whole = refl }) r.second whole

rolled : {last : ℕ} {so_far m : WModule} {bytes : List ℕ} → IsOne last so_far m bytes → InOrder last so_far m bytes
rolled p = rolled_behind p.1.first p.1.second p.1.whole

-- a section whose id stands first, and what stands behind it
behind_id : {P : List ℕ → Type 0} (Q : List ℕ → Type 0) {id : ℕ} {bytes : List ℕ} (front back : List ℕ) → Joined (IsByte id) P front → Q back → bytes ≡ front ++ back → Joined (IsByte id) (Joined P Q) bytes
behind_id Q {bytes = bytes} front back p q e = from_left bytes (record { front = front; back = back; first = p; second = q; whole = e })

unrolled : {last : ℕ} {so_far m : WModule} {bytes : List ℕ} → InOrder last so_far m bytes → IsEnd so_far m bytes ⊎ IsOne last so_far m bytes
unrolled (at_end e f g) = inl (e, f, g)
unrolled {last} {so_far} {m} (custom inner front back p l e) =
    let q = behind_id (InOrder last so_far m) front back p l e in
    inr (0, record { front = q.front; back = q.back; first = q.first; second = inl (refl, (inner, q.second)); whole = q.whole })
unrolled {m = m} (section id with_it front back lt le p l e) =
    let q = behind_id (InOrder id with_it m) front back p l e in
    inr (id, record { front = q.front; back = q.back; first = q.first; second = inr (lt, le, (with_it, q.second)); whole = q.whole })

-- where the input ends there are as many codes as functions
the_end : (most : ℕ) (so_far : WModule) → ToEnd most (module_at_end so_far) (λ m bytes. (m ≡ so_far) × (length so_far.codes ≡ length so_far.funcs))
the_end most so_far =
    placed_to_end _ _ (λ place.
    branch_to_end (length so_far.codes == length so_far.funcs) _ _ _
    (λ e. record {
      sound = λ input behind m h small f. (sym (read_one so_far m input behind f).0, eqb-true (length so_far.codes) (length so_far.funcs) e);
      complete = λ input m unbounded small p. (input, read_same so_far m input input (sym p.0) refl);
    })
    (λ e. failing_to_end CountMismatch place _ (λ m bytes p. eqb-false (length so_far.codes) (length so_far.funcs) e p.1)))

from_test : {A : Type 0} (test : Bool) (x y z : A) → (if test then x else y) ≡ z → ((test ≡ true) × (x ≡ z)) ⊎ ((test ≡ false) × (y ≡ z))
from_test true x y z e = inl (refl, e)
from_test false x y z e = inr (refl, e)

no_more : (bytes : List ℕ) → length bytes ≤ 0 → bytes ≡ []
no_more [] h = refl
no_more (b ∷ bytes) h = absurd (omega arith)

no_bytes : (bytes : List ℕ) → (length bytes == 0) ≡ true → bytes ≡ []
no_bytes bytes e = let none : length bytes ≡ 0 = eqb-true (length bytes) 0 e in no_more bytes (omega arith)

has_bytes : {id : ℕ} {P : List ℕ → Type 0} (bytes : List ℕ) → Joined (IsByte id) P bytes → 0 < length bytes
has_bytes bytes p =
    let one : length p.front ≡ 1 = ap length p.first in
    omega (arith, ap length p.whole, length-append p.front p.back)

some_bytes : {id : ℕ} {P : List ℕ → Type 0} (bytes : List ℕ) → Joined (IsByte id) P bytes → (length bytes == 0) ≡ false
some_bytes bytes p = let some = has_bytes bytes p in ne_eqb (length bytes) 0 (λ e. omega arith)

some_not_none : {id : ℕ} {P : List ℕ → Type 0} (bytes : List ℕ) → length bytes ≤ 0 → Joined (IsByte id) P bytes → ⊥
some_not_none bytes h p = let some = has_bytes bytes p in omega arith

module _ (fuel : ℕ) (more : ℕ → WModule → Reader WModule) (k : (last : ℕ) (so_far : WModule) → ToEnd fuel (more last so_far) (InOrder last so_far)) where
  section_behind : (last : ℕ) (so_far : WModule) (place id : ℕ) → ToEnd fuel (if id == 0 then (do _ ← custom_at; more last so_far) else (if nat_lt 11 id then fail BadTag place else (if nat_le id last then fail BadOrder place else (do m' ← sized_at (content_at id so_far); more id m')))) (IsBehind last so_far id)
  section_behind last so_far place id =
      branch_to_end (id == 0) _ _ _
      (λ e. alike_to_end (followed_to_end fuel (λ _. more last so_far) (λ _. InOrder last so_far) (λ inner front back p h. fewer fuel front back h) custom_content (λ _. k last so_far))
      (λ m bytes p. inl (eqb-true id 0 e, p))
      (λ m bytes p. is_custom last so_far id m bytes (eqb-true id 0 e) p))
      (λ e. branch_to_end (nat_lt 11 id) _ _ _
      (λ f. failing_to_end BadTag place _ (λ m bytes p. let q = is_section last so_far id m bytes (eqb-false id 0 e) p in omega (arith, ltb-true 11 id f, q.1)))
      (λ f. branch_to_end (nat_le id last) _ _ _
      (λ g. failing_to_end BadOrder place _ (λ m bytes p. let q = is_section last so_far id m bytes (eqb-false id 0 e) p in omega (arith, leb-true id last g, q.0)))
      (λ g. alike_to_end (followed_to_end fuel (λ with_it. more id with_it) (λ with_it. InOrder id with_it) (λ with_it front back p h. fewer fuel front back h) (sized (content id so_far)) (λ with_it. k id with_it))
      (λ m bytes p. inr (omega (arith, leb-false id last g), ltb-false 11 id f, p))
      (λ m bytes p. (is_section last so_far id m bytes (eqb-false id 0 e) p).2))))

  -- a section and what stands behind it
  one_section : (last : ℕ) (so_far : WModule) → ToEnd (suc fuel) (section_from more last so_far) (IsOne last so_far)
  one_section last so_far =
      placed_to_end _ _ (λ place.
      followed_to_end fuel _ (IsBehind last so_far) (λ id front back p h. by_byte id front back p h) one_byte (λ id. section_behind last so_far place id))
    where
      by_byte : (id : ℕ) (front back : List ℕ) → IsByte id front → length (front ++ back) ≤ suc fuel → length back ≤ fuel
      by_byte id front back p h =
          let one : length front ≡ 1 = ap length p in
          omega (arith, length-append front back)

  -- the end, or a section
  end_or_section : (last : ℕ) (so_far : WModule) → ToEnd (suc fuel) (λ input. if is_empty input then module_at_end so_far input else (section_from more last so_far) input) (InOrder last so_far)
  end_or_section last so_far = record {
    sound = λ input behind m h small e.
        elim (from_test (is_empty input) _ _ _ e) as (λ _. InOrder last so_far m input.rest) [
          | inl q ↦
              let p = (the_end (suc fuel) so_far).sound input behind m h small q.1 in
              at_end p.0 p.1 (no_bytes input.rest q.0)
          | inr q ↦ rolled ((one_section last so_far).sound input behind m h small q.1)
        ];
    complete = λ input m unbounded small l.
        elim (unrolled l) as (λ _. (behind : Input) × ((if is_empty input then module_at_end so_far input else (section_from more last so_far) input) ≡ Ok (m, behind))) [
          | inl p ↦
              let done = (the_end (suc fuel) so_far).complete input m unbounded small (p.0, p.1) in
              (done.0, cond-true (is_empty input) _ _ (ap (λ (bytes : List ℕ). length bytes == 0) p.2) ∙ done.1)
          | inr p ↦
              let done = (one_section last so_far).complete input m unbounded small p in
              (done.0, cond-false (is_empty input) _ _ (some_bytes input.rest p.1) ∙ done.1)
        ];
  }

-- sections up to the end
pub sections : (fuel last : ℕ) (so_far : WModule) → ToEnd fuel (sections_at fuel last so_far) (InOrder last so_far)
sections zero last so_far = record {
  sound = λ input behind m h small e.
      let p = (the_end zero so_far).sound input behind m h small e in
      at_end p.0 p.1 (no_more input.rest small);
  complete = λ input m unbounded small l.
      elim (unrolled l) as (λ _. (behind : Input) × (module_at_end so_far input ≡ Ok (m, behind))) [
        | inl p ↦ (the_end zero so_far).complete input m unbounded small (p.0, p.1)
        | inr p ↦ absurd (some_not_none input.rest small p.1)
      ];
}
sections (suc fuel) last so_far = end_or_section fuel (sections_at fuel) (λ i m. sections fuel i m) last so_far
