-- Sections are read to the end of the input: a module that is read may be none where more bytes follow, and where the
-- codes of functions are wanting at the end they may follow. Any other fault is the same where more bytes follow.
use Rattle.std.proofs.Common.{◌≡◌, ℕ, zero, suc, ◌+◌, ◌≤◌, Bool, true, false, List, [], ◌∷◌, ◌++◌, length, length-append, refl, sym, ap, subst, arith, inl, inr, Option, Result, Ok, Err}
use Rattle.std.specs.Prelude.{◌⊎◌, ◌==◌, nat_lt, nat_le, if◌then◌else◌}
use Rattle.std.proofs.lemmas.Bool.{ne_eqb}
use Rattle.wasm_ast.specs.declared.modules.WModule.{WModule}
use Rattle.wasm_grammar.specs.CanonicalModules.{preamble}
use Rattle.wasm_grammar.specs.WorkedModules.{empty_module}
use Rattle.wasm_reading.specs.declared.fault.DecodeError.{DecodeError}
use Rattle.wasm_reading.specs.declared.fault.DecodeFault.{DecodeFault}
use Rattle.wasm_reading.specs.declared.fault.DecodeFault.TheVariants.{BadTag, BadOrder, BadLength, Truncated, CountMismatch}
use Rattle.wasm_reading.specs.Readers.{Input, Reader, and_then, ◌>>=◌, give, fail, here, is_at_end, byte_at}
use Rattle.wasm_reading.specs.ReadModules.{custom_at, module_at_end, is_empty, section_from, sections_at, preamble_at, module_at}
use Rattle.wasm_reading.proofs.Shrinking.{Shrinks, byte_less, shrinks_give, shrinks_fail, shrinks_then, shrinks_here, shrinks_byte, shrinks_if, shrinks_sized}
use Rattle.wasm_reading.proofs.ShrinkingEntries.{shrinks_content, shrinks_custom}
use Rattle.wasm_reading.proofs.Fuel.{sections_need_no_more}
use Rattle.wasm_reading_laws.proofs.FaultBounds.{StandsIn, IsOfBytes, placed, IsInBounds, longer, IsFaultKept, IsKept, InBounds, fault_settled, and_then_bounds, bounds_byte, bounds_sized}
use Rattle.wasm_reading_laws.proofs.FaultsOfEntries.{bounds_custom, bounds_content, bounds_preamble}

-- the codes of functions are wanting at the end of the bytes, and are not known to be where a custom section begins there
abbrev pub IsOfCodes : {A : Type 0} → ℕ → List ℕ → DecodeError → Result (A × Input) DecodeError → Type 0
IsOfCodes total more e r = (e ≡ record { at = total; fault = CountMismatch }) × (more ≡ 0x00 ∷ [] → r ≡ Err e → ⊥)

-- an answer, and that to the input with more bytes behind it, where the input is read to its end
abbrev pub IsKeptToEnd : {A : Type 0} → ℕ → List ℕ → Result (A × Input) DecodeError → Result (A × Input) DecodeError → Type 0
IsKeptToEnd total more (Ok done) r = Unit {0}
IsKeptToEnd total more (Err e) r = IsFaultKept total e r ⊎ IsOfCodes total more e r

-- `most` is how many bytes may follow
pub record InBoundsToEnd (most total : ℕ) {A : Type 0} (read : Reader A) : Type 0 where
  pub holds : (input : Input) → StandsIn total input → IsInBounds total (read input)
  pub kept : (input : Input) (more : List ℕ) → StandsIn total input → length input.rest + length more ≤ most → IsKeptToEnd total more (read input) (read (longer input more))

either_holds : {A : Type 0} (total : ℕ) (t : Bool) (x y : Result (A × Input) DecodeError) → IsInBounds total x → IsInBounds total y → IsInBounds total (if t then x else y)
either_holds total true x y h k = h
either_holds total false x y h k = k

not_empty : (b : ℕ) (rest : List ℕ) → (length (b ∷ rest) == 0) ≡ false
not_empty b rest = ne_eqb (length (b ∷ rest)) 0 (λ e. omega (arith, e))

other_kept : {A : Type 0} (total : ℕ) (more : List ℕ) (s t : Bool) (x y u v : Result (A × Input) DecodeError) → s ≡ false → t ≡ false → IsKeptToEnd total more y v → IsKeptToEnd total more (if s then x else y) (if t then u else v)
other_kept total more true t x y u v e f k = absurd (cc)
other_kept total more false true x y u v e f k = absurd (cc)
other_kept total more false false x y u v e f k = k

-- the fault of an answer that is one
abbrev fault_of : {A : Type 0} → Result (A × Input) DecodeError → DecodeFault
fault_of (Ok done) = BadTag
fault_of (Err e) = e.fault

-- a reader of a number, where no byte follows
none_to_count : {A B C : Type 0} (t : Bool) (at place : ℕ) (f : ℕ → Reader A) (g : A → Reader B) (h : B → Reader C) →
    and_then (and_then (and_then (if t then Err (record { at = at; fault = BadLength }) else Err (record { at = at; fault = Truncated })) f) g) h ≡ Err (record { at = place; fault = CountMismatch }) → ⊥
none_to_count true at place f g h e = let same : BadLength ≡ CountMismatch = ap fault_of e in cc (same)
none_to_count false at place f g h e = let same : Truncated ≡ CountMismatch = ap fault_of e in cc (same)

custom_wanting : (at place : ℕ) (end : Option ℕ) (next : List ℕ → Reader WModule) → (custom_at >>= next) (record { at = at; end = end; rest = [] }) ≡ Err (record { at = place; fault = CountMismatch }) → ⊥
custom_wanting at place end next e = none_to_count (is_at_end (record { at = at; end = end; rest = [] })) at place _ _ _ e

-- a byte, and what has no fault of counts at its place behind it
id_alone : (t : Bool) (at : ℕ) (end : Option ℕ) (next : ℕ → Reader WModule) → (next 0 (record { at = at + 1; end = end; rest = [] }) ≡ Err (record { at = at; fault = CountMismatch }) → ⊥) →
    and_then (if t then Err (record { at = at; fault = BadLength }) else Ok (0, record { at = at + 1; end = end; rest = [] })) next ≡ Err (record { at = at; fault = CountMismatch }) → ⊥
id_alone true at end next k e = let same : BadLength ≡ CountMismatch = ap fault_of e in cc (same)
id_alone false at end next k e = k e

-- where a custom section begins, there is no fault of counts
end_with_section : (fuel last : ℕ) (m : WModule) (at : ℕ) (end : Option ℕ) (more : List ℕ) → more ≡ 0x00 ∷ [] →
    sections_at (suc fuel) last m (record { at = at; end = end; rest = more }) ≡ Err (record { at = at; fault = CountMismatch }) → ⊥
end_with_section fuel last m at end more z e =
    id_alone (is_at_end (record { at = at; end = end; rest = [] })) at end _
    (custom_wanting (at + 1) at end (λ _. sections_at fuel last m))
    (subst (λ (xs : List ℕ). sections_at (suc fuel) last m (record { at = at; end = end; rest = xs }) ≡ Err (record { at = at; fault = CountMismatch })) z e)

-- no byte follows where none may
no_more : {A : Type 0} (more : List ℕ) → length more ≤ 0 → more ≡ 0x00 ∷ [] → A
no_more more h e = absurd (omega (arith, h, ap length e))

module _ {total : ℕ} where
  fail_to_end : {most : ℕ} {A : Type 0} (fault : DecodeFault) (place : ℕ) → IsOfBytes fault → place ≤ total → InBoundsToEnd most total (fail {A = A} fault place)
  fail_to_end fault place b p = record { holds = λ input s. placed total fault place b p; kept = λ input more s room. inl (fault_settled total fault place _ b refl) }

  if_to_end : {most : ℕ} {A : Type 0} (t : Bool) {r s : Reader A} → InBoundsToEnd most total r → InBoundsToEnd most total s → InBoundsToEnd most total (if t then r else s)
  if_to_end true h k = h
  if_to_end false h k = k

  here_to_end : {most : ℕ} {B : Type 0} {next : ℕ → Reader B} → ((place : ℕ) → place ≤ total → InBoundsToEnd most total (next place)) → InBoundsToEnd most total (here >>= next)
  here_to_end k = record { holds = λ input s. (k input.at (omega arith)).holds input s; kept = λ input more s room. (k input.at (omega arith)).kept input more s room }

  and_then_to_end : {most : ℕ} {A B : Type 0} (more : List ℕ) (r longer_r : Result (A × Input) DecodeError) (next : A → Reader B) → IsInBounds total r → IsKept total more r longer_r →
      ((a : A) (behind : Input) → r ≡ Ok (a, behind) → length behind.rest + length more ≤ most) → ((a : A) → InBoundsToEnd most total (next a)) →
      IsKeptToEnd total more (and_then r next) (and_then longer_r next)
  and_then_to_end more (Ok done) longer_r next s q room k =
      subst (λ z. IsKeptToEnd total more (next done.0 done.1) (and_then z next)) (sym q) ((k done.0).kept done.1 more s (room done.0 done.1 refl))
  and_then_to_end more (Err e) longer_r next s (inl wanting) room k = inl (inl wanting)
  and_then_to_end more (Err e) longer_r next s (inr settled) room k = inl (inr (ap (λ z. and_then z next) settled.0, settled.1))

  then_to_end : {most : ℕ} {A B : Type 0} {first : Reader A} {next : A → Reader B} → InBounds total first → Shrinks first → ((a : A) → InBoundsToEnd most total (next a)) → InBoundsToEnd most total (first >>= next)
  then_to_end {first = first} {next = next} h less k = record {
    holds = λ input s. and_then_bounds (first input) next (h.holds input s) (λ a. (k a).holds);
    kept = λ input more s room.
        and_then_to_end more (first input) (first (longer input more)) next (h.holds input s) (h.kept input more s)
        (λ a behind e. omega (arith, less.less input behind a e, room)) k;
  }

  byte_to_end : {most : ℕ} {B : Type 0} {next : ℕ → Reader B} → ((b : ℕ) → InBoundsToEnd most total (next b)) → InBoundsToEnd (suc most) total (byte_at >>= next)
  byte_to_end {next = next} k = record {
    holds = λ input s. and_then_bounds (byte_at input) next (bounds_byte.holds input s) (λ b. (k b).holds);
    kept = λ input more s room.
        and_then_to_end more (byte_at input) (byte_at (longer input more)) next (bounds_byte.holds input s) (bounds_byte.kept input more s)
        (λ b behind e. omega (arith, byte_less input behind b e, room)) k;
  }

  section_to_end : {most : ℕ} (more : ℕ → WModule → Reader WModule) → ((last : ℕ) (m : WModule) → InBoundsToEnd most total (more last m)) → (last : ℕ) (m : WModule) → InBoundsToEnd (suc most) total (section_from more last m)
  section_to_end more k last m =
      here_to_end (λ place h. byte_to_end (λ id.
      if_to_end (id == 0) (then_to_end bounds_custom shrinks_custom (λ _. k last m))
      (if_to_end (nat_lt 11 id) (fail_to_end BadTag place refl h) (if_to_end (nat_le id last) (fail_to_end BadOrder place refl h)
      (then_to_end (bounds_sized (bounds_content id m)) (shrinks_sized (shrinks_content id m)) (λ m'. k id m'))))))

  end_holds : (t : Bool) (m : WModule) (input : Input) → StandsIn total input → IsInBounds total ((if t then give m else fail CountMismatch input.at) input)
  end_holds true m input s = s
  end_holds false m input s = ((λ e. cc), omega arith, λ e. absurd (cc))

  -- at the end, by what is read where more bytes follow
  end_kept : (t : Bool) (m : WModule) (at : ℕ) (end : Option ℕ) (more : List ℕ) (r : Result (WModule × Input) DecodeError) → at ≡ total →
      (more ≡ 0x00 ∷ [] → r ≡ Err (record { at = at; fault = CountMismatch }) → ⊥) →
      IsKeptToEnd total more ((if t then give m else fail CountMismatch at) (record { at = at; end = end; rest = [] })) r
  end_kept true m at end more r h k = tt
  end_kept false m at end more r h k = inr ((λ i. record { at = h i; fault = CountMismatch }), k)

  end_or_sections_kept : (fuel last : ℕ) (m : WModule) → ((input : Input) (more : List ℕ) → StandsIn total input → length input.rest + length more ≤ suc fuel → IsKeptToEnd total more (section_from (sections_at fuel) last m input) (section_from (sections_at fuel) last m (longer input more))) →
      (at : ℕ) (end : Option ℕ) (rest more : List ℕ) → at + length rest ≡ total → length rest + length more ≤ suc fuel →
      IsKeptToEnd total more (sections_at (suc fuel) last m (record { at = at; end = end; rest = rest })) (sections_at (suc fuel) last m (record { at = at; end = end; rest = rest ++ more }))
  end_or_sections_kept fuel last m k at end [] more s room =
      end_kept (length m.codes == length m.funcs) m at end more _ (omega arith) (end_with_section fuel last m at end more)
  end_or_sections_kept fuel last m k at end (b ∷ rest) more s room =
      let input : Input = record { at = at; end = end; rest = b ∷ rest } in
      other_kept total more (is_empty input) (is_empty (longer input more))
      (module_at_end m input) (section_from (sections_at fuel) last m input)
      (module_at_end m (longer input more)) (section_from (sections_at fuel) last m (longer input more))
      (not_empty b rest) (not_empty b (rest ++ more)) (k input more s room)

  end_alone_kept : (last : ℕ) (m : WModule) (at : ℕ) (end : Option ℕ) (rest more : List ℕ) → at + length rest ≡ total → length rest + length more ≤ 0 →
      IsKeptToEnd total more (module_at_end m (record { at = at; end = end; rest = rest })) (module_at_end m (record { at = at; end = end; rest = rest ++ more }))
  end_alone_kept last m at end [] more s room = end_kept (length m.codes == length m.funcs) m at end more _ (omega arith) (λ z. no_more more (omega (arith, room)) z)
  end_alone_kept last m at end (b ∷ rest) more s room = absurd (omega arith)

  pub bounds_sections : (fuel last : ℕ) (m : WModule) → InBoundsToEnd fuel total (sections_at fuel last m)
  bounds_sections zero last m = record {
    holds = λ input s. end_holds (length m.codes == length m.funcs) m input s;
    kept = λ input more s room. end_alone_kept last m input.at input.end input.rest more s room;
  }
  bounds_sections (suc fuel) last m = record {
    holds = λ input s.
        either_holds total (is_empty input) (module_at_end m input) (section_from (sections_at fuel) last m input)
        (end_holds (length m.codes == length m.funcs) m input s)
        ((section_to_end (sections_at fuel) (λ i n. bounds_sections fuel i n) last m).holds input s);
    kept = λ input more s room.
        end_or_sections_kept fuel last m (section_to_end (sections_at fuel) (λ i n. bounds_sections fuel i n) last m).kept
        input.at input.end input.rest more s room;
  }

  -- all sections of an input
  bounds_all : {most : ℕ} → InBoundsToEnd most total (λ input. sections_at (length input.rest) 0 empty_module input)
  bounds_all = record {
    holds = λ input s. (bounds_sections (length input.rest) 0 empty_module).holds input s;
    kept = λ input more s room.
        let fuel = length (input.rest ++ more) in
        let sum = length-append input.rest more in
        let enough : length input.rest ≤ fuel = omega (arith, sum) in
        subst (λ r. IsKeptToEnd total more r (sections_at fuel 0 empty_module (longer input more))) (sections_need_no_more fuel 0 empty_module input enough)
        ((bounds_sections fuel 0 empty_module).kept input more s (omega (arith, sum)));
  }

shrinks_preamble : (k : ℕ) (wanted : List ℕ) → Shrinks (preamble_at k wanted)
shrinks_preamble k [] = shrinks_give tt
shrinks_preamble k (w ∷ wanted) =
    shrinks_then shrinks_here (λ place. shrinks_then shrinks_byte (λ b.
    shrinks_if (b == w) (shrinks_preamble (k + 1) wanted) (shrinks_if (nat_lt k 4) (shrinks_fail _ _) (shrinks_fail _ _))))

pub bounds_module : (most total : ℕ) → InBoundsToEnd most total module_at
bounds_module most total = then_to_end (bounds_preamble 0 preamble) (shrinks_preamble 0 preamble) (λ _. bounds_all)
