-- The row of sections of the grammar, from the last one back: what may stand behind the section `k` is custom sections,
-- the section `k + 1` or nothing, and what may stand behind that one. It is what stands in order behind `k`.
use Rattle.std.proofs.Common.{◌≡◌, ◌∙◌, ℕ, ◌+◌, ◌<◌, ◌≤◌, List, [], ◌∷◌, ◌++◌, length, refl, sym, ap, subst, arith, inl, inr, append_assoc, None}
use Rattle.std.specs.Prelude.{◌⊎◌, ◌==◌, nat_lt, Bool, true, false, if◌then◌else◌}
use Rattle.std.proofs.lemmas.Bool.{eqb-true, eqb-false}
use Rattle.wasm_ast.specs.declared.modules.WModule.{WModule}
use Rattle.wasm_grammar.specs.GrammarValues.{Joined, ◌followed_by◌, IsEach, IsSized}
use Rattle.wasm_grammar.specs.GrammarModules.{IsSection, IsOptionalSection, IsCustomSection, AreCustomSections}
use Rattle.wasm_reading_laws.proofs.Contents.{Field, Adds}
use Rattle.wasm_reading_laws.proofs.Loops.{InOrder, at_end, custom, section}

-- a field, where the id of its section is at most `k`
abbrev cut : {T : Type 0} → T → ℕ → ℕ → T → T
cut none k id x = if nat_lt k id then none else x

-- the module with the fields of the sections up to `k`
abbrev pub up_to : ℕ → WModule → WModule
up_to k m = record {
  types = cut [] k 1 m.types;
  imports = cut [] k 2 m.imports;
  funcs = cut [] k 3 m.funcs;
  tables = cut [] k 4 m.tables;
  memories = cut [] k 5 m.memories;
  globals = cut [] k 6 m.globals;
  exports = cut [] k 7 m.exports;
  start = cut None k 8 m.start;
  elements = cut [] k 9 m.elements;
  codes = cut [] k 10 m.codes;
  segments = cut [] k 11 m.segments;
}

-- as many codes as functions
abbrev pub HasCounts : WModule → Type 0
HasCounts m = length m.codes ≡ length m.funcs

-- what stands in order behind the section `k` makes the fields behind it, which fit and are spelled by it; and the other way
pub record Row (k : ℕ) (Fits : WModule → Type 0) (Spells : WModule → List ℕ → Type 0) : Type 0 where
  pub sound : (so_far m : WModule) (bytes : List ℕ) → so_far ≡ up_to k so_far → InOrder k so_far m bytes → (up_to k m ≡ so_far) × Fits m × Spells m bytes
  pub complete : (m : WModule) (bytes : List ℕ) → HasCounts m → Fits m → Spells m bytes → InOrder k (up_to k m) m bytes

-- that a field is that of the section `k + 1`
pub record Slot (k : ℕ) {T : Type 0} (f : Field T) : Type 0 where
  pub in_range : k + 1 ≤ 11
  pub lower : (m : WModule) → up_to k (up_to (k + 1) m) ≡ up_to k m
  pub higher : (m : WModule) → up_to (k + 1) (up_to k m) ≡ up_to k m
  pub empty : (m : WModule) → f.get (up_to k m) ≡ f.none
  pub there : (m : WModule) → f.get (up_to (k + 1) m) ≡ f.get m
  pub put_get : (x : T) (m : WModule) → f.get (f.put x m) ≡ x
  pub put_lower : (x : T) (m : WModule) → up_to k (f.put x m) ≡ up_to k m
  pub put_higher : (x : T) (m : WModule) → up_to (k + 1) (f.put x (up_to k m)) ≡ f.put x (up_to k m)
  pub put_none : (m : WModule) → f.put f.none (up_to k m) ≡ up_to k m
  pub put_next : (m : WModule) → f.put (f.get m) (up_to k m) ≡ up_to (k + 1) m
  pub fits_none : f.Fits f.none
  pub from_added : (m with_it : WModule) (bytes : List ℕ) → Adds (k + 1) m with_it bytes → (x : T) × (with_it ≡ f.put x m) × (f.Fits x × f.Content x bytes)
  pub to_added : (m : WModule) (bytes : List ℕ) → HasCounts m → f.Fits (f.get m) → f.Content (f.get m) bytes → Adds (k + 1) (up_to k m) (up_to (k + 1) m) bytes

-- custom sections, the section of the field or nothing, and what stands behind that
abbrev pub Behind : {T : Type 0} → ℕ → Field T → (WModule → List ℕ → Type 0) → WModule → List ℕ → Type 0
Behind k f Spells m = AreCustomSections followed_by IsOptionalSection (k + 1) (f.Content (f.get m)) (f.get m ≡ f.none) followed_by Spells m

-- what stands behind a lesser id too
pub lesser : (k : ℕ) {last : ℕ} {so_far m : WModule} {bytes : List ℕ} → k ≤ last → InOrder last so_far m bytes → InOrder k so_far m bytes
lesser k h (at_end e c n) = at_end e c n
lesser k h (custom inner front back p l e) = custom inner front back p (lesser k h l) e
lesser k h (section id with_it front back lt le p l e) = section id with_it front back (omega arith) le p l e

-- a custom section before custom sections
more_custom : {P : List ℕ → Type 0} {bytes : List ℕ} (inner front back : List ℕ) → IsCustomSection inner front → Joined AreCustomSections P back → bytes ≡ front ++ back → Joined AreCustomSections P bytes
more_custom inner front back p q e = record {
  front = front ++ q.front;
  back = q.back;
  first = (inner ∷ q.first.0, record { front = front; back = q.front; first = p; second = q.first.1; whole = refl });
  second = q.second;
  whole = e ∙ ap (λ (xs : List ℕ). front ++ xs) q.whole ∙ sym (append_assoc front q.front q.back);
}

-- no custom section
no_custom : {P : List ℕ → Type 0} {bytes : List ℕ} → P bytes → Joined AreCustomSections P bytes
no_custom {bytes = bytes} p = record { front = []; back = bytes; first = ([], refl); second = p; whole = refl }

-- custom sections before what stands in order
pub customs_first : {last : ℕ} {so_far m : WModule} (inners : List (List ℕ)) {bytes : List ℕ} (front back : List ℕ) → IsEach IsCustomSection inners front → InOrder last so_far m back → bytes ≡ front ++ back → InOrder last so_far m bytes
customs_first {last} {so_far} {m} [] front back p l e = subst (λ (xs : List ℕ). InOrder last so_far m xs) (sym (e ∙ ap (λ (xs : List ℕ). xs ++ back) p)) l
customs_first (inner ∷ inners) front back p l e =
    custom inner p.front (p.back ++ back) p.first (customs_first inners p.back back p.second l refl) (e ∙ ap (λ (xs : List ℕ). xs ++ back) p.whole ∙ append_assoc p.front p.back back)

next_or_more : (k id : ℕ) → k < id → (id ≡ k + 1) ⊎ (k + 1 < id)
next_or_more k id h = by_test (id == k + 1) refl
  where
    by_test : (t : Bool) → (id == k + 1) ≡ t → (id ≡ k + 1) ⊎ (k + 1 < id)
    by_test true e = inl (eqb-true id (k + 1) e)
    by_test false e = let other = eqb-false id (k + 1) e in inr (omega arith)

-- of a module so far and a whole module: the fields up to `k` are those so far, and those behind fit and are spelled
abbrev IsSound : {T : Type 0} → ℕ → Field T → (WModule → Type 0) → (WModule → List ℕ → Type 0) → WModule → WModule → List ℕ → Type 0
IsSound k f Fits Spells so_far m bytes = (up_to k m ≡ so_far) × (f.Fits (f.get m) × Fits m) × Behind k f Spells m bytes

module _ (k : ℕ) {T : Type 0} (f : Field T) (s : Slot k f) (Fits : WModule → Type 0) (Spells : WModule → List ℕ → Type 0) (r : Row (k + 1) Fits Spells) where
  -- the section is left out
  absent : (so_far m : WModule) (bytes : List ℕ) → so_far ≡ up_to k so_far → InOrder (k + 1) so_far m bytes → IsSound k f Fits Spells so_far m bytes
  absent so_far m bytes e l =
      let higher : so_far ≡ up_to (k + 1) so_far = e ∙ sym (s.higher so_far) ∙ ap (λ n. up_to (k + 1) n) (sym e) in
      let rest = r.sound so_far m bytes higher l in
      let none : f.get m ≡ f.none = sym (s.there m) ∙ ap (λ n. f.get n) (rest.0 ∙ e) ∙ s.empty so_far in
      let low : up_to k m ≡ so_far = sym (s.lower m) ∙ ap (λ n. up_to k n) rest.0 ∙ sym e in
      (low, (subst (λ x. f.Fits x) (sym none) s.fits_none, rest.1), no_custom (record { front = []; back = bytes; first = inr (none, refl); second = rest.2; whole = refl }))

  -- the section is there
  present : (so_far with_it m : WModule) (bytes front back : List ℕ) → so_far ≡ up_to k so_far → IsSection (k + 1) (Adds (k + 1) so_far with_it) front → InOrder (k + 1) with_it m back → bytes ≡ front ++ back → IsSound k f Fits Spells so_far m bytes
  present so_far with_it m bytes front back e p l w =
      let q = p.second in
      let a = s.from_added so_far with_it q.content q.spelled in
      let x = a.0 in
      let made : with_it ≡ f.put x (up_to k so_far) = a.1 ∙ ap (λ n. f.put x n) e in
      let higher : with_it ≡ up_to (k + 1) with_it = made ∙ sym (s.put_higher x so_far) ∙ ap (λ n. up_to (k + 1) n) (sym made) in
      let rest = r.sound with_it m back higher l in
      let same : f.get m ≡ x = sym (s.there m) ∙ ap (λ n. f.get n) (rest.0 ∙ a.1) ∙ s.put_get x so_far in
      let low : up_to k m ≡ so_far = sym (s.lower m) ∙ ap (λ n. up_to k n) (rest.0 ∙ a.1) ∙ s.put_lower x so_far ∙ sym e in
      let inner : IsSized (f.Content (f.get m)) p.back = record { size = q.size; content = q.content; measured = q.measured; spelled = subst (λ y. f.Content y q.content) (sym same) a.2.1; whole = q.whole } in
      let spelled : IsSection (k + 1) (f.Content (f.get m)) front = record { front = p.front; back = p.back; first = p.first; second = inner; whole = p.whole } in
      (low, (subst (λ y. f.Fits y) (sym same) a.2.0, rest.1), no_custom (record { front = front; back = back; first = inl spelled; second = rest.2; whole = w }))

  sound_by : {last : ℕ} {so_far m : WModule} {bytes : List ℕ} → InOrder last so_far m bytes → last ≡ k → so_far ≡ up_to k so_far → IsSound k f Fits Spells so_far m bytes
  sound_by {so_far = so_far} {m = m} {bytes = bytes} (at_end e c n) same h = absent so_far m bytes h (at_end e c n)
  sound_by (custom inner front back p l w) same h =
      let q = sound_by l same h in
      (q.0, q.1, more_custom inner front back p q.2 w)
  sound_by {so_far = so_far} {m = m} {bytes = bytes} (section id with_it front back lt le p l w) same h =
      elim (next_or_more k id (omega arith)) as (λ _. IsSound k f Fits Spells so_far m bytes) [
        | inl e ↦ present so_far with_it m bytes front back h (subst (λ (i : ℕ). IsSection i (Adds i so_far with_it) front) e p) (subst (λ (i : ℕ). InOrder i with_it m back) e l) w
        | inr more ↦ absent so_far m bytes h (section id with_it front back more le p l w)
      ]

  -- the section or nothing, and what stands behind it, in order
  from_section : (m : WModule) (bytes : List ℕ) → HasCounts m → f.Fits (f.get m) → Fits m → (IsOptionalSection (k + 1) (f.Content (f.get m)) (f.get m ≡ f.none) followed_by Spells m) bytes → InOrder k (up_to k m) m bytes
  from_section m bytes counts fits others p =
      elim p.first as (λ _. InOrder k (up_to k m) m bytes) [
        | inl there ↦
            let q = there.second in
            let inner : IsSized (Adds (k + 1) (up_to k m) (up_to (k + 1) m)) there.back = record { size = q.size; content = q.content; measured = q.measured; spelled = s.to_added m q.content counts fits q.spelled; whole = q.whole } in
            section (k + 1) (up_to (k + 1) m) p.front p.back (omega arith) s.in_range (record { front = there.front; back = there.back; first = there.first; second = inner; whole = there.whole }) rest p.whole
        | inr none ↦
            let same : up_to (k + 1) m ≡ up_to k m = sym (s.put_next m) ∙ ap (λ x. f.put x (up_to k m)) none.0 ∙ s.put_none m in
            let all : bytes ≡ p.back = p.whole ∙ ap (λ (xs : List ℕ). xs ++ p.back) none.1 in
            subst (λ (xs : List ℕ). InOrder k (up_to k m) m xs) (sym all) (subst (λ n. InOrder k n m p.back) same (lesser k (omega arith) rest))
      ]
    where
      rest : InOrder (k + 1) (up_to (k + 1) m) m p.back
      rest = r.complete m p.back counts others p.second

  pub row_before : Row k (λ m. f.Fits (f.get m) × Fits m) (Behind k f Spells)
  row_before = record {
    sound = λ so_far m bytes h l. sound_by l refl h;
    complete = λ m bytes counts fits p. customs_first p.first.0 p.front p.back p.first.1 (from_section m p.back counts fits.0 fits.1 p.second) p.whole;
  }
