-- No spelling is shorter than the least one: by induction on the spelling.
use Rattle.std.proofs.Common.{◌≡◌, ℕ, zero, suc, ◌+◌, ◌-◌, ◌*◌, ◌/◌, ◌<◌, ◌≤◌, List, [], ◌∷◌, length, inl, inr, arith, subst, min}
use Rattle.std.proofs.lemmas.Bool.{cases_lt}
use Rattle.wasm_leb.specs.Leb.{IsUnsignedEnd, IsSignedEnd, IsLeb, unsigned_least, signed_least}
use Rattle.wasm_leb.proofs.Least.{unsigned_last, unsigned_more, signed_last, signed_negative, signed_more}

pred : (k : ℕ) → suc k - 1 ≡ k
pred k = omega arith

rest_is : (b m n : ℕ) → 128 ≤ b → b < 256 → n + 128 ≡ b + 128 * m → m ≡ n / 128
rest_is b m n l h e = omega arith

pub unsigned : (k limit : ℕ) (bytes : List ℕ) (n : ℕ) → IsLeb IsUnsignedEnd limit bytes n → length (unsigned_least k n) ≤ length bytes
unsigned k limit [] n p = absurd p
unsigned zero limit (b ∷ bs) n p = omega arith
unsigned (suc k) limit (b ∷ bs) n p =
    elim (cases_lt n 128) [
      | inl l ↦ rw (unsigned_last (suc k) n (omega arith) l) (omega arith)
      | inr l ↦ elim p [
        | inl u ↦ absurd (omega (arith, u.0))
        | inr u ↦
            let f : u.3 ≡ n / 128 = rest_is b u.3 n u.0 u.1 u.4 in
            let r = unsigned k (limit / 128) bs (n / 128) (subst (λ (m : ℕ). IsLeb IsUnsignedEnd (limit / 128) bs m) f u.5) in
            rw (unsigned_more (suc k) n (omega arith) l, pred k) (omega arith)
      ]
    ]

pub signed : (k limit : ℕ) (bytes : List ℕ) (n : ℕ) → IsLeb IsSignedEnd limit bytes n → length (signed_least k limit n) ≤ length bytes
signed k limit [] n p = absurd p
signed zero limit (b ∷ bs) n p = omega arith
signed (suc k) limit (b ∷ bs) n p =
    elim (cases_lt (2 * n) (min 128 limit)) [
      | inl l ↦ rw (signed_last (suc k) limit n (omega arith) l) (omega arith)
      | inr l ↦ elim (cases_lt (n + 64) limit) [
        | inr m ↦ rw (signed_negative (suc k) limit n (omega arith) l m) (omega arith)
        | inl m ↦ elim p [
          | inl u ↦ elim u.0 [ inl v ↦ absurd (omega arith) | inr v ↦ absurd (omega arith) ]
          | inr u ↦
              let f : u.3 ≡ n / 128 = rest_is b u.3 n u.0 u.1 u.4 in
              let r = signed k (limit / 128) bs (n / 128) (subst (λ (q : ℕ). IsLeb IsSignedEnd (limit / 128) bs q) f u.5) in
              rw (signed_more (suc k) limit n (omega arith) l m, pred k) (omega arith)
        ]
      ]
    ]
