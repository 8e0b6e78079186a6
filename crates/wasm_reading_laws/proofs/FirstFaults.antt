-- A first fault of bytes that do not end too early is had by every continuation, as each reader keeps it; so the first front
-- that is neither a module nor ends too early, which is found by going through them, decides it.
use Rattle.std.proofs.Common.{◌≡◌, ◌∙◌, ℕ, zero, suc, ◌+◌, ◌<◌, ◌≤◌, Bool, true, false, List, [], ◌∷◌, ◌++◌, length, append-nil, refl, sym, ap, subst, arith, inl, inr, None, Result, Ok, Err}
use Rattle.std.specs.Prelude.{◌≢◌, ◌⊎◌, ◌==◌, take, drop}
use Rattle.std.proofs.lemmas.Bool.{eqb-true, eqb-false}
use Rattle.std.proofs.lemmas.List.{take-append-drop, take_all}
use Rattle.std.proofs.lemmas.List.Elements.{All-take}
use Rattle.wasm_ast.specs.declared.modules.WModule.{WModule}
use Rattle.wasm_reading.specs.declared.fault.DecodeError.{DecodeError}
use Rattle.wasm_reading.specs.declared.fault.DecodeFault.{DecodeFault}
use Rattle.wasm_reading.specs.declared.fault.DecodeFault.TheVariants.{Truncated, CountMismatch}
use Rattle.wasm_reading.specs.Readers.{Input}
use Rattle.wasm_reading.specs.ReadModules.{module_at, without_rest}
use Rattle.wasm_reading_values.specs.Exactness.{AreBytes}
use Rattle.wasm_reading_laws.specs.ModulesRead.{HasFirstFault}
use Rattle.wasm_reading_laws.specs.FirstFaults.{IsSettled, EndsTooEarly, IsUndecided, IsDecidedBy, EarlyOrSettled, UndecidedIsOpen, DecidedByLeastFront, OneLeastFront}
use Rattle.wasm_reading_laws.proofs.Faults.{module_or_fault, never_both, one_first_fault, truncated_at_the_end, truncated_is_undecided}
use Rattle.wasm_reading_laws.proofs.FaultsOfSections.{IsKeptToEnd, bounds_module}

abbrev Answer : Type 0
Answer = Result (WModule × Input) DecodeError

abbrev whole_input : List ℕ → Input
whole_input bytes = record { at = 0; end = None; rest = bytes }

module_kept : (bytes more : List ℕ) → IsKeptToEnd (length bytes) more (module_at (whole_input bytes)) (module_at (whole_input (bytes ++ more)))
module_kept bytes more = (bounds_module (length bytes + length more) (length bytes)).kept (whole_input bytes) more (omega arith) (omega arith)

same_fault : (e e' : DecodeError) → ◌≡◌ {A = Result WModule DecodeError} (Err e) (Err e') → e ≡ e'
same_fault e e' p = cc

-- a fault that is no want of a byte, and none of codes at the end, is kept
fault_kept : (total : ℕ) (more : List ℕ) (x r : Answer) (e : DecodeError) → IsKeptToEnd total more x r → without_rest x ≡ Err e → e.fault ≢ Truncated → e ≢ record { at = total; fault = CountMismatch } → without_rest r ≡ Err e
fault_kept total more (Ok done) r e k f n c = absurd (cc)
fault_kept total more (Err e') r e (inl (inl wanting)) f n c = absurd (n (ap (λ (x : DecodeError). x.fault) (sym (same_fault e' e f)) ∙ wanting))
fault_kept total more (Err e') r e (inl (inr settled)) f n c = ap without_rest settled.0 ∙ f
fault_kept total more (Err e') r e (inr codes) f n c = absurd (c (sym (same_fault e' e f) ∙ codes.0))

kept_by : (bytes : List ℕ) (e : DecodeError) → HasFirstFault bytes e → e.fault ≢ Truncated → e ≢ record { at = length bytes; fault = CountMismatch } → IsSettled bytes e
kept_by bytes e f n c = λ more. fault_kept (length bytes) more (module_at (whole_input bytes)) (module_at (whole_input (bytes ++ more))) e (module_kept bytes more) f n c

-- the kinds of faults at an end that is too early, and the others
kind_of : (fault : DecodeFault) → (fault ≡ Truncated) ⊎ ((fault ≡ CountMismatch) ⊎ ((fault ≢ Truncated) × (fault ≢ CountMismatch)))
kind_of Truncated = inl refl
kind_of CountMismatch = inr (inl refl)
kind_of _ = inr (inr ((λ e. cc), λ e. cc))

-- a fault of counts, by whether it stands at the end
of_counts : (bytes : List ℕ) (e : DecodeError) → HasFirstFault bytes e → e.fault ≡ CountMismatch → (t : Bool) → (e.at == length bytes) ≡ t → EndsTooEarly bytes e ⊎ IsSettled bytes e
of_counts bytes e f c true h = inl (record { first = f; place = eqb-true e.at (length bytes) h; kind = inr c })
of_counts bytes e f c false h = inr (kept_by bytes e f (λ t. no_two (sym c ∙ t)) (λ same. eqb-false e.at (length bytes) h (ap (λ (x : DecodeError). x.at) same)))
  where
    no_two : CountMismatch ≡ Truncated → ⊥
    no_two p = cc

pub early_or_settled : EarlyOrSettled
early_or_settled bytes e f =
    elim (kind_of e.fault) as (λ _. EndsTooEarly bytes e ⊎ IsSettled bytes e) [
      | inl t ↦ inl (record { first = f; place = truncated_at_the_end bytes e f t; kind = inl t })
      | inr (inl c) ↦ of_counts bytes e f c (e.at == length bytes) refl
      | inr (inr n) ↦ inr (kept_by bytes e f n.0 (λ same. n.1 (ap (λ (x : DecodeError). x.fault) same)))
    ]

fault_back : (r : Answer) (e : DecodeError) → without_rest r ≡ Err e → r ≡ Err e
fault_back (Ok done) e p = absurd (cc)
fault_back (Err e') e p = ap (λ (x : DecodeError). Err x) (same_fault e' e p)

-- codes that are wanting at the end are not known to be where a custom section begins there
codes_open : (total : ℕ) (x r : Answer) (e : DecodeError) → IsKeptToEnd total (0x00 ∷ []) x r → without_rest x ≡ Err e → e.fault ≡ CountMismatch → e.at ≡ total → without_rest r ≡ Err e → ⊥
codes_open total (Ok done) r e k f c p g = cc (f)
codes_open total (Err e') r e (inl (inl wanting)) f c p g =
    let same : CountMismatch ≡ Truncated = sym c ∙ ap (λ (x : DecodeError). x.fault) (sym (same_fault e' e f)) ∙ wanting in
    cc (same)
codes_open total (Err e') r e (inl (inr settled)) f c p g =
    let same : e' ≡ e = same_fault e' e f in
    let place : e'.at ≡ e.at = ap (λ (x : DecodeError). x.at) same in
    omega (arith, settled.1 (ap (λ (x : DecodeError). x.fault) same ∙ c), place, p)
codes_open total (Err e') r e (inr codes) f c p g = codes.1 refl (fault_back r e g ∙ ap (λ (x : DecodeError). Err x) (sym (same_fault e' e f)))

early_open : (bytes : List ℕ) (e : DecodeError) → EndsTooEarly bytes e → IsSettled bytes e → ⊥
early_open bytes e early s =
    elim early.kind as (λ _. ⊥) [
      | inl t ↦ truncated_is_undecided bytes e early.first t 0x00 (s (0x00 ∷ []))
      | inr c ↦ codes_open (length bytes) (module_at (whole_input bytes)) (module_at (whole_input (bytes ++ 0x00 ∷ []))) e (module_kept bytes (0x00 ∷ [])) early.first c early.place (s (0x00 ∷ []))
    ]

-- what every continuation has, the bytes have
settled_first : (bytes : List ℕ) (e : DecodeError) → IsSettled bytes e → HasFirstFault bytes e
settled_first bytes e s = subst (λ (xs : List ℕ). HasFirstFault xs e) (append-nil bytes) (s [])

pub undecided_is_open : UndecidedIsOpen
undecided_is_open bytes e (inl m) s = never_both bytes m.0 e m.1 (settled_first bytes e s)
undecided_is_open bytes e (inr early) s =
    let same : early.0 ≡ e = one_first_fault bytes early.0 e early.1.first (settled_first bytes e s) in
    early_open bytes e (subst (λ (x : DecodeError). EndsTooEarly bytes x) same early.1) s

-- bytes are a module, end too early, or have a fault that every continuation has
abbrev IsDecided : List ℕ → Type 0
IsDecided bytes = IsUndecided bytes ⊎ ((e : DecodeError) × IsSettled bytes e)

decided : (bytes : List ℕ) → AreBytes bytes → IsDecided bytes
decided bytes h =
    elim (module_or_fault bytes h) as (λ _. IsDecided bytes) [
      | inl m ↦ inl (inl m)
      | inr f ↦ elim (early_or_settled bytes f.0 f.1) as (λ _. IsDecided bytes) [ inl early ↦ inl (inr (f.0, early)) | inr settled ↦ inr (f.0, settled) ]
    ]

module _ (bytes : List ℕ) (e : DecodeError) (h : AreBytes bytes) (all : IsSettled bytes e) where
  -- a front that decides a fault decides this one
  same_settled : (n : ℕ) (e' : DecodeError) → IsSettled (take n bytes) e' → e' ≡ e
  same_settled n e' s =
      one_first_fault bytes e' e (subst (λ (xs : List ℕ). HasFirstFault xs e') (take-append-drop n bytes) (s (drop n bytes))) (settled_first bytes e all)

  one_more : (n : ℕ) → ((k : ℕ) → k < n → IsUndecided (take k bytes)) → IsUndecided (take n bytes) → (k : ℕ) → k < suc n → (t : Bool) → (k == n) ≡ t → IsUndecided (take k bytes)
  one_more n shorter this k less true q = subst (λ (i : ℕ). IsUndecided (take i bytes)) (sym (eqb-true k n q)) this
  one_more n shorter this k less false q = shorter k (below less (eqb-false k n q))
    where
      below : k < suc n → (k ≡ n → ⊥) → k < n
      below l d = omega (arith, l, d)

  found : (n : ℕ) → n ≤ length bytes → ((k : ℕ) → k < n → IsUndecided (take k bytes)) → IsDecided (take n bytes) → (IsUndecided (take n bytes) → (k : ℕ) × IsDecidedBy bytes e k) → (k : ℕ) × IsDecidedBy bytes e k
  found n within shorter (inl undecided) next = next undecided
  found n within shorter (inr s) next = (n, record { within = within; settled = subst (λ (x : DecodeError). IsSettled (take n bytes) x) (same_settled n s.0 s.1) s.1; least = shorter })

  -- no front shorter than `n` decides; so many bytes are left
  least_from : (left n : ℕ) → n + left ≡ length bytes → ((k : ℕ) → k < n → IsUndecided (take k bytes)) → (k : ℕ) × IsDecidedBy bytes e k
  least_from zero n sum shorter =
      found n (omega (arith, sum)) shorter (decided (take n bytes) (All-take (λ b. b < 256) n bytes h))
      (λ undecided. absurd (undecided_is_open bytes e (subst (λ (xs : List ℕ). IsUndecided xs) (take_all n bytes (omega (arith, sum))) undecided) all))
  least_from (suc left) n sum shorter =
      found n (omega (arith, sum)) shorter (decided (take n bytes) (All-take (λ b. b < 256) n bytes h))
      (λ undecided. least_from left (suc n) (omega (arith, sum)) (λ k less. one_more n shorter undecided k less (k == n) refl))

pub decided_by_least_front : DecidedByLeastFront
decided_by_least_front bytes e h f =
    elim (early_or_settled bytes e f) as (λ _. EndsTooEarly bytes e ⊎ ((n : ℕ) × IsDecidedBy bytes e n)) [
      | inl early ↦ inl early
      | inr settled ↦ inr (least_from bytes e h settled (length bytes) 0 (omega arith) (λ k less. absurd (omega (arith, less))))
    ]

not_shorter : (bytes : List ℕ) (e e' : DecodeError) (n k : ℕ) → IsDecidedBy bytes e n → IsDecidedBy bytes e' k → n < k → ⊥
not_shorter bytes e e' n k d d' less = undecided_is_open (take n bytes) e (d'.least n less) d.settled

pub one_least_front : OneLeastFront
one_least_front bytes e e' n k d d' = by_order (n == k) refl
  where
    apart : (n < k → ⊥) → (k < n → ⊥) → (n ≡ k → ⊥) → ⊥
    apart a b c = omega (arith, a, b, c)

    by_order : (t : Bool) → (n == k) ≡ t → n ≡ k
    by_order true q = eqb-true n k q
    by_order false q = absurd (apart (not_shorter bytes e e' n k d d') (not_shorter bytes e' e k n d' d) (eqb-false n k q))
