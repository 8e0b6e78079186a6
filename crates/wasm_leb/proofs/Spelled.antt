-- The least spelling is a spelling, and what is spelled is in range: by induction on the most bytes,
-- over the chain of limits, each the one before divided by 128.
use Rattle.std.proofs.Common.{length, ◌≡◌, ◌∙◌, ℕ, zero, suc, ◌+◌, ◌-◌, ◌*◌, ◌/◌, ◌%◌, ◌^◌, ◌<◌, ◌≤◌, List, [], ◌∷◌, inl, inr, refl, sym, ap, arith, subst, min, lit<, lit≤}
use Rattle.std.proofs.lemmas.Bool.{cases_lt}
use Rattle.wasm_leb.specs.Leb.{IsUnsignedEnd, IsSignedEnd, IsLeb, IsU32, IsS32, IsS64, unsigned_least, signed_least}
use Rattle.wasm_leb.proofs.Least.{unsigned_last, unsigned_more, signed_last, signed_negative, signed_more}

-- After `k` more bytes the limit is at most 128.
abbrev pub IsChain : ℕ → ℕ → Type 0
IsChain zero limit = limit ≤ 128
IsChain (suc k) limit = (128 < limit) × (limit ≡ 128 * (limit / 128)) × IsChain k (limit / 128)

unsigned : (k limit n : ℕ) → IsChain k limit → n < limit → IsLeb IsUnsignedEnd limit (unsigned_least (suc k) n) n
unsigned zero limit n c h =
    let e = unsigned_last 1 n (omega arith) (omega arith) in
    subst (λ (b : List ℕ). IsLeb IsUnsignedEnd limit b n) (sym e) (inl ((omega arith, h, refl), refl))
unsigned (suc k) limit n c h =
    elim (cases_lt n 128) [
      | inl l ↦ subst (λ (b : List ℕ). IsLeb IsUnsignedEnd limit b n) (sym (unsigned_last (suc (suc k)) n (omega arith) l)) (inl ((l, h, refl), refl))
      | inr l ↦
          let e = unsigned_more (suc (suc k)) n (omega arith) l in
          let f : suc (suc k) - 1 ≡ suc k = omega arith in
          let r = unsigned k (limit / 128) (n / 128) c.2 (omega (arith, c.1)) in
          subst (λ (b : List ℕ). IsLeb IsUnsignedEnd limit b n) (sym (e ∙ ap (λ j. (n % 128 + 128) ∷ unsigned_least j (n / 128)) f))
          (inr (omega arith, omega arith, c.0, n / 128, omega arith, r))
    ]

pub chain32 : IsChain 4 (2 ^ 32)
chain32 = (lit< tt, refl, (lit< tt, refl, (lit< tt, refl, (lit< tt, refl, lit≤ tt))))

pub chain64 : IsChain 9 (2 ^ 64)
chain64 =
    (lit< tt, refl, (lit< tt, refl, (lit< tt, refl, (lit< tt, refl, (lit< tt, refl, (lit< tt, refl, (lit< tt, refl, (lit< tt, refl, (lit< tt, refl, lit≤ tt)))))))))

pub u32 : (n : ℕ) → n < 2 ^ 32 → IsU32 (unsigned_least 5 n) n
u32 n h = unsigned 4 (2 ^ 32) n chain32 h

-- The last byte of a number that is not negative, and of one that is.
low_end : (k limit n : ℕ) → 2 * n < min 128 limit → IsLeb IsSignedEnd limit (signed_least (suc k) limit n) n
low_end k limit n l =
    subst (λ (b : List ℕ). IsLeb IsSignedEnd limit b n) (sym (signed_last (suc k) limit n (omega arith) l))
    (inl (inl (omega arith, omega arith, refl), refl))

high_end : (k limit n : ℕ) → n < limit → min 128 limit ≤ 2 * n → limit ≤ n + 64 → IsLeb IsSignedEnd limit (signed_least (suc k) limit n) n
high_end k limit n h l m =
    subst (λ (b : List ℕ). IsLeb IsSignedEnd limit b n) (sym (signed_negative (suc k) limit n (omega arith) l m))
    (inl (inr (omega arith, omega arith, omega arith, omega arith), refl))

signed : (k limit n : ℕ) → IsChain k limit → n < limit → IsLeb IsSignedEnd limit (signed_least (suc k) limit n) n
signed zero limit n c h =
    elim (cases_lt (2 * n) (min 128 limit)) [
      | inl l ↦ low_end 0 limit n l
      | inr l ↦ high_end 0 limit n h l (omega arith)
    ]
signed (suc k) limit n c h =
    elim (cases_lt (2 * n) (min 128 limit)) [
      | inl l ↦ low_end (suc k) limit n l
      | inr l ↦
          elim (cases_lt (n + 64) limit) [
            | inr m ↦ high_end (suc k) limit n h l m
            | inl m ↦
                let e = signed_more (suc (suc k)) limit n (omega arith) l m in
                let f : suc (suc k) - 1 ≡ suc k = omega arith in
                let r = signed k (limit / 128) (n / 128) c.2 (omega (arith, c.1)) in
                subst (λ (b : List ℕ). IsLeb IsSignedEnd limit b n) (sym (e ∙ ap (λ j. (n % 128 + 128) ∷ signed_least j (limit / 128) (n / 128)) f))
                (inr (omega arith, omega arith, c.0, n / 128, omega arith, r))
          ]
    ]

pub s32 : (n : ℕ) → n < 2 ^ 32 → IsS32 (signed_least 5 (2 ^ 32) n) n
s32 n h = signed 4 (2 ^ 32) n chain32 h

pub s64 : (n : ℕ) → n < 2 ^ 64 → IsS64 (signed_least 10 (2 ^ 64) n) n
s64 n h = signed 9 (2 ^ 64) n chain64 h

-- What is spelled is below the limit.
pub below : (End : ℕ → ℕ → ℕ → Type 0) → ((limit b n : ℕ) → End limit b n → n < limit) → (limit : ℕ) (bytes : List ℕ) (n : ℕ) → IsLeb End limit bytes n → n < limit
below End e limit [] n p = absurd p
below End e limit (b ∷ bs) n p =
    elim p [
      | inl u ↦ e limit b n u.0
      | inr u ↦ let r = below End e (limit / 128) bs u.3 u.5 in omega (arith, u.4, u.1)
    ]

pub unsigned_below : (limit b n : ℕ) → IsUnsignedEnd limit b n → n < limit
unsigned_below limit b n e = omega arith

pub signed_below : (limit b n : ℕ) → IsSignedEnd limit b n → n < limit
signed_below limit b n e = elim e [ inl u ↦ omega arith | inr u ↦ omega arith ]

-- There are no more bytes than limits in the chain.
pub at_most : (End : ℕ → ℕ → ℕ → Type 0) (k limit : ℕ) → IsChain k limit → (bytes : List ℕ) (n : ℕ) → IsLeb End limit bytes n → length bytes ≤ suc k
at_most End k limit c [] n p = absurd p
at_most End zero limit c (b ∷ bs) n p =
    elim p [
      | inl u ↦ rw u.1 (omega arith)
      | inr u ↦ absurd (omega (arith, u.2))
    ]
at_most End (suc k) limit c (b ∷ bs) n p =
    elim p [
      | inl u ↦ rw u.1 (omega arith)
      | inr u ↦ let r = at_most End k (limit / 128) c.2 bs u.3 u.5 in omega arith
    ]
