use Rattle.std.proofs.Common.{◌≡◌, ℕ, ◌/◌, ◌<◌, List, [], ◌∷◌, ◌++◌, inl, inr, arith, subst}
use Rattle.wasm_leb.specs.Leb.{IsUnsignedEnd, IsSignedEnd, IsLeb}

-- No spelling begins another, for each kind of last byte.
-- An end is below 128 and stands for one number: what each kind owes.
pub record IsEnd (End : ℕ → ℕ → ℕ → Type 0) : Type 0 where
  pub small : (limit b n : ℕ) → End limit b n → b < 128
  pub one : (limit b m n : ℕ) → End limit b m → End limit b n → m ≡ n

pub unsigned_end : IsEnd IsUnsignedEnd
unsigned_end = record {
  small = λ limit b n e. e.0;
  one = λ limit b m n d e. omega (arith, d.2, e.2);
}

signed_small : (limit b n : ℕ) → IsSignedEnd limit b n → b < 128
signed_small limit b n e = elim e [ inl u ↦ omega arith | inr v ↦ v.1 ]

signed_one : (limit b m n : ℕ) → IsSignedEnd limit b m → IsSignedEnd limit b n → m ≡ n
signed_one limit b m n (inl d) (inl e) = omega arith
signed_one limit b m n (inl d) (inr e) = absurd (omega arith)
signed_one limit b m n (inr d) (inl e) = absurd (omega arith)
signed_one limit b m n (inr d) (inr e) = omega arith

pub signed_end : IsEnd IsSignedEnd
signed_end = record { small = signed_small; one = signed_one }

-- No spelling begins another, and each stands for one number.
pub one_form : (End : ℕ → ℕ → ℕ → Type 0) → IsEnd End → (limit : ℕ) (a b x y : List ℕ) (m n : ℕ) → IsLeb End limit a m → IsLeb End limit b n → a ++ x ≡ b ++ y → (a ≡ b) × (m ≡ n)
one_form End k limit [] b x y m n p q e = absurd p
one_form End k limit (c ∷ a) [] x y m n p q e = absurd q
one_form End k limit (c ∷ a) (d ∷ b) x y m n p q e =
    let h : c ≡ d = cc in
    let t : a ++ x ≡ b ++ y = cc in
    elim p [
      | inl u ↦ elim q [
        | inl v ↦ (cc, k.one limit d m n (subst (λ z. End limit z m) h u.0) v.0)
        | inr v ↦ absurd (omega (arith, k.small limit c m u.0))
      ]
      | inr u ↦ elim q [
        | inl v ↦ absurd (omega (arith, k.small limit d n v.0))
        | inr v ↦
            let r = one_form End k (limit / 128) a b x y u.3 v.3 u.5 v.5 t in
            let f : u.3 ≡ v.3 = r.1 in
            let g : a ≡ b = r.0 in
            (cc, omega (arith, u.4, v.4))
      ]
    ]
