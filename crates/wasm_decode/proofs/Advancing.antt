-- What a byte outside of a section's content makes of what is still read: each is the definition of reading, at the byte.
use Rattle.std.proofs.Common.{◌≡◌, ◌∙◌, ℕ, zero, suc, ◌+◌, ◌<◌, ◌≤◌, Bool, true, false, List, [], ◌∷◌, length, refl, ap, sym, arith, inl, inr}
use Rattle.std.proofs.lemmas.Bool.{ne_eqb}
use Rattle.std.specs.Prelude.{None, Result, Ok, Err, nat_lt, nat_le, ◌==◌, if◌then◌else◌, drop, slice_index}
use Rattle.wasm_ast.specs.declared.modules.WModule.{WModule}
use Rattle.wasm_grammar.specs.CanonicalModules.{preamble}
use Rattle.wasm_reading.specs.declared.fault.DecodeError.{DecodeError}
use Rattle.wasm_reading.specs.declared.fault.DecodeFault.{DecodeFault}
use Rattle.wasm_reading.specs.declared.fault.DecodeFault.TheVariants.{BadMagic, BadVersion, BadTag, BadOrder}
use Rattle.wasm_reading.specs.Readers.{Input, Reader, and_then, ◌>>=◌, give, fail, here, byte_at, each_at, within}
use Rattle.wasm_reading.specs.ReadValues.{u32_at, sized_at}
use Rattle.wasm_reading.specs.ReadModules.{preamble_at, sections_at, content_at, custom_at}
use Rattle.wasm_reading.proofs.Shrinking.{shrinks_sized}
use Rattle.wasm_reading.proofs.ShrinkingEntries.{shrinks_content, shrinks_custom}
use Rattle.wasm_reading.proofs.Fuel.{AlikeTo, alike_refl, alike_then, sections_alike}
use Rattle.wasm_items.proofs.Taking.{takes_then}
use Rattle.wasm_items.proofs.ReaderLaws.{then_then, then_same}
use Rattle.wasm_items.specs.Residuals.{Takes, stop}
use Rattle.wasm_decode.specs.declared.steps.Step.{Step}
use Rattle.wasm_decode.specs.Steps.{TakesAtTop, Advances, Enters, sections_left, custom_left, content_left, sized_left}

-- outside of any declared end
pub at_top : {old new : Reader WModule} {b at : ℕ} → Takes old b at new → TakesAtTop old b at new
at_top t = record { same = λ bs. t.same None bs refl }

pub top_as : {old new other : Reader WModule} {b at : ℕ} → new ≡ other → TakesAtTop old b at new → TakesAtTop old b at other
top_as e t = rw e at t

pub top_of : {old other new : Reader WModule} {b at : ℕ} → other ≡ old → TakesAtTop old b at new → TakesAtTop other b at new
top_of e t = rw e t

pub preamble_bytes : (k : ℕ) → k < 8 → drop k preamble ≡ slice_index preamble k ∷ drop (k + 1) preamble
preamble_bytes zero h = refl
preamble_bytes (suc zero) h = refl
preamble_bytes (suc (suc zero)) h = refl
preamble_bytes (suc (suc (suc zero))) h = refl
preamble_bytes (suc (suc (suc (suc zero)))) h = refl
preamble_bytes (suc (suc (suc (suc (suc zero))))) h = refl
preamble_bytes (suc (suc (suc (suc (suc (suc zero)))))) h = refl
preamble_bytes (suc (suc (suc (suc (suc (suc (suc zero))))))) h = refl
preamble_bytes (suc (suc (suc (suc (suc (suc (suc (suc k)))))))) h = absurd (omega arith)

abbrev pub behind_preamble : (at : ℕ) (bytes : List ℕ) (last : ℕ) (m : WModule) → Reader WModule
behind_preamble at bytes last m = preamble_at at bytes >>= (λ _. sections_left last m)

module _ (k wanted : ℕ) (bytes : List ℕ) (b at last : ℕ) (m : WModule) where
  -- the byte of the preamble that is wanted
  matched : (b == wanted) ≡ true → TakesAtTop (behind_preamble k (wanted ∷ bytes) last m) b at (behind_preamble (k + 1) bytes last m)
  matched e = record {
    same = λ bs.
        ap (λ (c : Bool). and_then ((if c then preamble_at (k + 1) bytes else (if nat_lt k 4 then fail BadMagic at else fail BadVersion at)) (record { at = at + 1; end = None; rest = bs })) (λ _. sections_left last m)) e;
  }

  failing : (c : Bool) (input : Input) → and_then ((if c then fail {A = Unit {0}} BadMagic at else fail BadVersion at) input) (λ _. sections_left last m) ≡ stop (record { at = at; fault = if c then BadMagic else BadVersion }) input
  failing true input = refl
  failing false input = refl

  -- another byte
  unmatched : (b == wanted) ≡ false → TakesAtTop (behind_preamble k (wanted ∷ bytes) last m) b at (stop (record { at = at; fault = if nat_lt k 4 then BadMagic else BadVersion }))
  unmatched e = record {
    same = λ bs.
        ap (λ (c : Bool). and_then ((if c then preamble_at (k + 1) bytes else (if nat_lt k 4 then fail BadMagic at else fail BadVersion at)) (record { at = at + 1; end = None; rest = bs })) (λ _. sections_left last m)) e
        ∙ failing (nat_lt k 4) (record { at = at + 1; end = None; rest = bs });
  }

pub preamble_goes_on : (k b at last : ℕ) (m : WModule) → k < 8 → (b == slice_index preamble k) ≡ true →
    TakesAtTop (behind_preamble k (drop k preamble) last m) b at (behind_preamble (k + 1) (drop (k + 1) preamble) last m)
preamble_goes_on k b at last m h e =
    top_of (ap (λ bytes. behind_preamble k bytes last m) (preamble_bytes k h)) (matched k (slice_index preamble k) (drop (k + 1) preamble) b at last m e)

pub preamble_breaks : (k b at last : ℕ) (m : WModule) (fault : DecodeFault) (e : DecodeError) → k < 8 → (b == slice_index preamble k) ≡ false →
    fault ≡ (if nat_lt k 4 then BadMagic else BadVersion) → e ≡ record { at = at; fault = fault } → TakesAtTop (behind_preamble k (drop k preamble) last m) b at (stop e)
preamble_breaks k b at last m fault e h t f is =
    let breaks = top_of (ap (λ bytes. behind_preamble k bytes last m) (preamble_bytes k h)) (unmatched k (slice_index preamble k) (drop (k + 1) preamble) b at last m t) in
    rw (is, f) breaks

-- sections with as much fuel as there may be bytes
left_alike : (n last : ℕ) (m : WModule) → AlikeTo n (sections_at n last m) (sections_left last m)
left_alike n last m = record { same = λ input l. (sections_alike n (length input.rest) (length input.rest) last m l (omega arith)).same input (omega arith) }

choose : {A : Type 0} (t : Bool) (x y : A) → t ≡ false → (if t then x else y) ≡ y
choose true x y e = absurd (cc)
choose false x y e = refl

choose_true : {A : Type 0} (t : Bool) (x y : A) → t ≡ true → (if t then x else y) ≡ x
choose_true true x y e = refl
choose_true false x y e = absurd (cc)

some_bytes : (b : ℕ) (bs : List ℕ) → (length (b ∷ bs) == 0) ≡ false
some_bytes b bs = ne_eqb (length (b ∷ bs)) 0 (λ e. omega arith)

module _ (b at last : ℕ) (m : WModule) (bs : List ℕ) where
  abbrev behind : Input
  behind = record { at = at + 1; end = None; rest = bs }

  -- what stands behind the id
  abbrev by_id : Bool → Bool → Bool → Reader WModule
  by_id is_custom is_none is_low =
      if is_custom then custom_at >>= (λ _. sections_at (length bs) last m)
      else (if is_none then fail BadTag at
      else (if is_low then fail BadOrder at
      else sized_at (content_at b m) >>= (λ m'. sections_at (length bs) b m')))

  first_section : sections_left last m (record { at = at; end = None; rest = b ∷ bs }) ≡ by_id (b == 0) (nat_lt 11 b) (nat_le b last) behind
  first_section = choose (length (b ∷ bs) == 0) _ _ (some_bytes b bs)

  custom_same : (custom_at >>= (λ _. sections_at (length bs) last m)) behind ≡ (u32_at >>= (λ size. sized_left 0 last m size)) behind
  custom_same =
      (alike_then (alike_refl (length bs) custom_at) shrinks_custom (λ _. left_alike (length bs) last m)).same behind (omega arith)
      ∙ ap (λ (r : Reader WModule). r behind) (then_then u32_at (λ size. each_at byte_at size) (λ _. sections_left last m))

  content_same : (b == 0) ≡ false → (sized_at (content_at b m) >>= (λ m'. sections_at (length bs) b m')) behind ≡ (u32_at >>= (λ size. sized_left b last m size)) behind
  content_same e =
      (alike_then (alike_refl (length bs) (sized_at (content_at b m))) (shrinks_sized (shrinks_content b m)) (λ m'. left_alike (length bs) b m')).same behind (omega arith)
      ∙ ap (λ (r : Reader WModule). r behind) (then_then u32_at (λ size. here >>= (λ place. within (place + size) (content_at b m))) (λ m'. sections_left b m'))
      ∙ ap (λ (r : Reader WModule). r behind)
      (then_same u32_at (λ size. (here >>= (λ place. within (place + size) (content_at b m))) >>= (λ m'. sections_left b m')) (λ size. sized_left b last m size)
      (λ size. sym (choose (b == 0) (custom_left size last m) (here >>= (λ place. content_left (place + size) (content_at b m) b)) e)))

pub custom_begins : (b at last : ℕ) (m : WModule) (number : Reader ℕ) → number ≡ u32_at → b ≡ 0 → TakesAtTop (sections_left last m) b at (number >>= (λ size. sized_left 0 last m size))
custom_begins b at last m number same e =
    let begins : TakesAtTop (sections_left last m) 0 at (u32_at >>= (λ size. sized_left 0 last m size)) = record { same = λ bs. first_section 0 at last m bs ∙ custom_same 0 at last m bs } in
    rw (e, same) begins

pub no_section : (b at last : ℕ) (m : WModule) → (b == 0) ≡ false → nat_lt 11 b ≡ true → TakesAtTop (sections_left last m) b at (stop (record { at = at; fault = BadTag }))
no_section b at last m e k = record {
  same = λ bs. first_section b at last m bs ∙ ap (λ (r : Reader WModule). r (behind b at last m bs)) (choose (b == 0) _ _ e ∙ choose_true (nat_lt 11 b) _ _ k);
}

pub no_order : (b at last : ℕ) (m : WModule) → (b == 0) ≡ false → nat_lt 11 b ≡ false → nat_le b last ≡ true → TakesAtTop (sections_left last m) b at (stop (record { at = at; fault = BadOrder }))
no_order b at last m e k l = record {
  same = λ bs. first_section b at last m bs ∙ ap (λ (r : Reader WModule). r (behind b at last m bs)) (choose (b == 0) _ _ e ∙ choose (nat_lt 11 b) _ _ k ∙ choose_true (nat_le b last) _ _ l);
}

pub section_begins : (b at last : ℕ) (m : WModule) (number : Reader ℕ) → number ≡ u32_at → (b == 0) ≡ false → nat_lt 11 b ≡ false → nat_le b last ≡ false →
    TakesAtTop (sections_left last m) b at (number >>= (λ size. sized_left b last m size))
section_begins b at last m number same e k l =
    let begins : TakesAtTop (sections_left last m) b at (u32_at >>= (λ size. sized_left b last m size)) = record {
      same = λ bs.
          first_section b at last m bs ∙ ap (λ (r : Reader WModule). r (behind b at last m bs)) (choose (b == 0) _ _ e ∙ choose (nat_lt 11 b) _ _ k ∙ choose (nat_le b last) _ _ l)
          ∙ content_same b at last m bs e;
    } in
    rw same begins

-- behind the last byte of a size
pub entered : {old : Reader ℕ} (f : ℕ → Reader WModule) {b at size : ℕ} (m : WModule) (last : ℕ) (answer : Result Step DecodeError) → Takes old b at (give size) → Enters (f size) (at + 1) last m answer →
    Advances (old >>= f) b at last m answer
entered {old} f {b} {at} {size} m last (Ok step) t h = record { same = λ bs. (takes_then f t).same None bs refl ∙ h bs }
entered {old} f {b} {at} {size} m last (Err e) t (inl memory) = inl memory
entered {old} f {b} {at} {size} m last (Err e) t (inr h) = inr (record { same = λ bs. (takes_then f t).same None bs refl ∙ h bs })

drop_none : (k : ℕ) → drop k (let none : List ℕ = [] in none) ≡ []
drop_none zero = refl
drop_none (suc k) = refl

no_bytes_left : (k : ℕ) → 8 ≤ k → drop k preamble ≡ []
no_bytes_left zero h = absurd (omega arith)
no_bytes_left (suc zero) h = absurd (omega arith)
no_bytes_left (suc (suc zero)) h = absurd (omega arith)
no_bytes_left (suc (suc (suc zero))) h = absurd (omega arith)
no_bytes_left (suc (suc (suc (suc zero)))) h = absurd (omega arith)
no_bytes_left (suc (suc (suc (suc (suc zero))))) h = absurd (omega arith)
no_bytes_left (suc (suc (suc (suc (suc (suc zero)))))) h = absurd (omega arith)
no_bytes_left (suc (suc (suc (suc (suc (suc (suc zero))))))) h = absurd (omega arith)
no_bytes_left (suc (suc (suc (suc (suc (suc (suc (suc k)))))))) h = drop_none k

-- no byte of the preamble is left
pub preamble_over : (k last : ℕ) (m : WModule) → 8 ≤ k → behind_preamble k (drop k preamble) last m ≡ sections_left last m
preamble_over k last m h = ap (λ bytes. behind_preamble k bytes last m) (no_bytes_left k h)
